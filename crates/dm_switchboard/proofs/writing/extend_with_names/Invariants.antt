use Rattle.dm_switchboard.proofs.Imports.{◌≡◌, ◌++◌, All, listed}
use Rattle.std.proofs.Common.{take}
use Rattle.dm_packet.proofs.Names.{flat_map}
use Rattle.dm_switchboard.specs.Packed.{FitsNamed, spell_named}
use Rattle.dm_switchboard.proofs.writing.extend_with_names.Given as goal

abbrev pub invariant-loop-place : goal.invariant-loop-place
invariant-loop-place l = (l.out.items ≡ l.fn.out.items ++ flat_map spell_named (take l.place (listed l.names.entries))) × All FitsNamed (take l.place (listed l.names.entries))
