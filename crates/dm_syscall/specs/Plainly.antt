-- What calls come to, without places; and what is lawful of it.
use Rattle.std.specs.declared.option.Option.{Option}
use Rattle.std.specs.declared.option.Option.TheVariants.{Some}
use Rattle.dm_message.specs.Lawful.{IsLawfulMessage}
use Rattle.dm_message.specs.Plain.{PlainMessage, plain_message}
use Rattle.dm_process.specs.declared.process.Process.{Process}
use Rattle.dm_onekernel.specs.Calls as plain
use Rattle.dm_onekernel.specs.Options.{bind}
use Rattle.dm_onekernel.specs.Plain.{plain_process}
use Rattle.dm_syscall.specs.declared.Called.{Called}
use Rattle.dm_syscall.specs.declared.Called.TheVariants as called

-- a message that was sent, the first request of a move too
abbrev pub plain_sent : Option PlainMessage → Process → Option plain.Called
plain_sent m p = bind m (λ m. Some (plain.Sends m (plain_process p)))

-- what a call came to and the process after it, as the kernel without machines has them
abbrev pub plain_called : Called → Process → Option plain.Called
plain_called (called.Replied c) p = Some (plain.Replies c (plain_process p))
plain_called (called.Sent m) p = plain_sent (plain_message m) p
plain_called (called.Moving m) p = plain_sent (plain_message m) p
plain_called called.Waits p = Some (plain.Waits (plain_process p))
plain_called (called.Out w) p = Some (plain.Outputs w (plain_process p))
plain_called (called.Ended y) p = Some (plain.Ends y)

-- a message that goes out is lawful
abbrev pub IsLawfulCalled : Called → Type 0
IsLawfulCalled (called.Replied c) = Unit {0}
IsLawfulCalled (called.Sent m) = IsLawfulMessage m
IsLawfulCalled (called.Moving m) = IsLawfulMessage m
IsLawfulCalled called.Waits = Unit {0}
IsLawfulCalled (called.Out w) = Unit {0}
IsLawfulCalled (called.Ended y) = Unit {0}
