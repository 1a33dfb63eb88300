-- What is left of the names is to be added.
use Rattle.dm_cmd_explore.proofs.Names.{◌≡◌, ◌++◌, length, map, list_all, all_written, is_name_for, pid_named}
use Rattle.dm_cmd_explore.proofs.named.pids_of.Given as goal

abbrev pub invariant-loop-first : goal.invariant-loop-first
invariant-loop-first l = record {
  named : list_all (is_name_for l.machines) (all_written l.rest) ≡ list_all (is_name_for l.machines) (all_written l.names);
  pids : l.pids.items ++ map pid_named (all_written l.rest) ≡ map pid_named (all_written l.names);
}

abbrev pub decreases-loop-first : goal.decreases-loop-first
decreases-loop-first l = length l.rest
