-- What is left of the list is to be added.
use Rattle.dm_cmd_explore.proofs.Names.{◌≡◌, ◌++◌, length, map, list_all, all_written, asked_as, is_move_for}
use Rattle.dm_cmd_explore.proofs.named.add_moves.Given as goal

abbrev pub invariant-loop-first : goal.invariant-loop-first
invariant-loop-first l = record {
  named : list_all (is_move_for l.machines) (all_written l.rest) ≡ list_all (is_move_for l.machines) (all_written l.list);
  asked : l.requests.items ++ map (asked_as l.asks) (all_written l.rest) ≡ l.initial.requests.items ++ map (asked_as l.asks) (all_written l.list);
}

abbrev pub decreases-loop-first : goal.decreases-loop-first
decreases-loop-first l = length l.rest
