-- The numbers of replies and of ends, and tests for equality.
use Rattle.std.specs.Prelude.{ℕ, Bool, ◌==◌}
use Rattle.dm_processor.specs.declared.registers.Fault.TheVariants as fault
use Rattle.dm_onekernel.specs.declared.label.Reply.{Reply}
use Rattle.dm_onekernel.specs.declared.label.Reply.TheVariants as reply
use Rattle.dm_onekernel.specs.declared.label.Why.{Why}
use Rattle.dm_onekernel.specs.declared.label.Why.TheVariants as why

abbrev pub reply_code : Reply → ℕ
reply_code reply.Done = 0
reply_code reply.NoLink = 1
reply_code reply.TableFull = 2
reply_code reply.BadKind = 3
reply_code reply.BadRange = 4
reply_code reply.NoRight = 5
reply_code reply.TooLong = 6
reply_code reply.Gone = 7
reply_code reply.NotCopyable = 8

abbrev pub why_code : Why → ℕ
why_code why.Exit = 0
why_code (why.Fault fault.OutOfRange) = 1
why_code (why.Fault fault.UnknownOpcode) = 2
why_code (why.Fault fault.Unaligned) = 3
why_code why.UnknownCall = 4
why_code why.Killed = 5

-- the two are one
abbrev pub reply_eq : Reply → Reply → Bool
reply_eq a b = reply_code a == reply_code b

abbrev pub why_eq : Why → Why → Bool
why_eq a b = why_code a == why_code b
