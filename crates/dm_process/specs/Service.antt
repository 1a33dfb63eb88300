-- What a process does where it is served.
use Rattle.std.specs.Prelude.{◌≡◌, ℕ, ◌<◌, length, remove, slice_get}
use Rattle.dm_process.specs.Mail.{first_on, without_first_on}
use Rattle.dm_process.specs.declared.process.Process.{Process}
use Rattle.dm_process.specs.declared.process.Service.{Service}
use Rattle.dm_process.specs.declared.process.Service.TheVariants.{Execute, Receive}
use Rattle.dm_process.specs.declared.process.Status.TheVariants.{Ready, Waiting}

-- it waits, and the message at this place of its queue is the first on the mask
pub record Takes (x : Process) (mask place : ℕ) : Type 0 where
  pub base : ℕ
  pub cap_ : ℕ
  pub waits : x.status ≡ Waiting mask base cap_
  pub within : place < length x.queue
  pub first : slice_get x.queue place ≡ first_on mask x.queue
  pub rest : remove x.queue place ≡ without_first_on mask x.queue

-- a ready process executes, and one that waits takes a message
abbrev pub IsServiceOf : Process → Service → Type 0
IsServiceOf x Execute = x.status ≡ Ready
IsServiceOf x (Receive mask place) = Takes x mask place
