-- The rules that state bytes may break, and their numbers.
use Rattle.std.specs.Prelude.{ℕ}
use Rattle.dm_packet.specs.declared.PacketError.{PacketError}
use Rattle.dm_packet.specs.declared.PacketError.TheVariants as bad
use Rattle.dm_statebytes.specs.declared.StateBytesError.{StateBytesError}
use Rattle.dm_statebytes.specs.declared.StateBytesError.TheVariants as carry

abbrev pub number_of_rule : StateBytesError → ℕ
number_of_rule carry.Missing = 1
number_of_rule carry.Version = 2
number_of_rule carry.Machine = 3
number_of_rule carry.Flags = 4
number_of_rule carry.Limit = 5
number_of_rule carry.Trailing = 6

-- the rule that a field breaks; the three of packets alone are of bytes that stand for nothing, and no field of a process breaks them
abbrev pub rule_of : PacketError → StateBytesError
rule_of bad.Missing = carry.Missing
rule_of bad.Version = carry.Version
rule_of bad.Machine = carry.Machine
rule_of bad.Limit = carry.Limit
rule_of bad.Trailing = carry.Trailing
rule_of rule = carry.Flags
