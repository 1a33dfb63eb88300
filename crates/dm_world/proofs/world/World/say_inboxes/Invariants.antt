use Rattle.dm_world.proofs.Names.{◌≡◌, ◌++◌, joined_below, list_line, names_of, world_state}
use Rattle.dm_line.specs.declared.end_line.EndLine.TheVariants as end
use Rattle.dm_world.proofs.world.World.say_inboxes.Given as goal

abbrev pub invariant-loop-m : goal.invariant-loop-m
invariant-loop-m l =
    l.lines.items ≡ l.fn.lines.items ++ joined_below (λ m. list_line (end.Inbox m) (names_of ((world_state l.self).nodes m).kernel.inbox)) l.m
