use Rattle.dm_procman.proofs.Names.{◌≡◌, ◌++◌, take}
use Rattle.std.specs.List.{All, flat_map}
use Rattle.dm_packet.specs.Fields.{addr}
use Rattle.dm_packet.specs.Widths.{FitsAddr}
use Rattle.dm_procman.proofs.writing.extend_with_children.Given as goal

abbrev pub invariant-loop-child : goal.invariant-loop-child
invariant-loop-child l = (l.out.items ≡ l.fn.out.items ++ flat_map addr.spell (take l.child-index l.children)) × All FitsAddr (take l.child-index l.children)
