-- The numbers of the faults.
use Rattle.std.specs.Prelude.{ℕ}
use Rattle.dm_processor.specs.declared.registers.Fault.{Fault}
use Rattle.dm_processor.specs.declared.registers.Fault.TheVariants.{OutOfRange, UnknownOpcode, Unaligned}

-- the number of a fault
abbrev pub fault_code : Fault → ℕ
fault_code OutOfRange = 1
fault_code UnknownOpcode = 2
fault_code Unaligned = 3
