use Rattle.std.specs.Prelude.{◌≡◌, take}
use Rattle.dm_onekernel.specs.Start.{slots_with}
use Rattle.dm_onekernel.proofs.child.table_of.Given as goal

abbrev pub invariant-loop-link : goal.invariant-loop-link
invariant-loop-link l = l.table ≡ slots_with l.slots (take l.link-index l.links)
