-- When a process can be served.
use Rattle.std.specs.Prelude.{Bool, true, false, not, ◌&&◌, is_some, List}
use Rattle.dm_message.specs.declared.Message.{Message}
use Rattle.dm_process.specs.Mail.{first_on}
use Rattle.dm_process.specs.declared.process.Status.{Status}
use Rattle.dm_process.specs.declared.process.Status.TheVariants.{Ready, Waiting, Moving}
use Rattle.dm_process.specs.declared.process.Process.{Process}

-- it is ready, or a message that it waits for is there
abbrev pub status_is_runnable : Status → List Message → Bool
status_is_runnable Ready queue = true
status_is_runnable (Waiting mask base cap) queue = is_some (first_on mask queue)
status_is_runnable (Moving dir owner base own left pending) queue = false

abbrev pub is_runnable : Process → Bool
is_runnable p = not p.stopped && status_is_runnable p.status p.queue
