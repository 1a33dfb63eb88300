-- The numbers of the rules that bytes may break.
use Rattle.std.specs.Prelude.{ℕ}
use Rattle.dm_packet.specs.declared.PacketError.{PacketError}
use Rattle.dm_packet.specs.declared.PacketError.TheVariants as bad

abbrev pub number_of_rule : PacketError → ℕ
number_of_rule bad.Missing = 1
number_of_rule bad.Version = 2
number_of_rule bad.PacketKind = 3
number_of_rule bad.Machine = 4
number_of_rule bad.MessageKind = 5
number_of_rule bad.Answer = 6
number_of_rule bad.Flags = 7
number_of_rule bad.Limit = 8
number_of_rule bad.Trailing = 9
