-- What holds of a kernel after so many labels: all that it has can be called and carried, and no count is greater.
use Rattle.std.specs.Prelude.{◌≡◌, ℕ, ◌+◌, ◌≤◌, length, slice_index}
use Rattle.std.specs.declared.option.Option.TheVariants.{Some}
use Rattle.std.specs.BTreeMap.{get}
use Rattle.dm_link.specs.declared.Pid.{Pid}
use Rattle.dm_link.specs.Lawful.{IsLawfulAddr, IsMachine}
use Rattle.dm_link.specs.Names.{pid_cmp}
use Rattle.dm_message.specs.declared.Message.{Message}
use Rattle.dm_message.specs.declared.MsgId.{MsgId}
use Rattle.dm_message.specs.Lawful.{IsLawfulMessage}
use Rattle.dm_process.specs.declared.process.Process.{Process}
use Rattle.dm_process.specs.Lawful.{IsLawfulProcess}
use Rattle.dm_replay.specs.Living.{alive_of, at}
use Rattle.dm_onekernel.specs.declared.boot.Boot.{Boot}
use Rattle.dm_switchboard.specs.Lawful.{IsLawfulBoard}
use Rattle.dm_procman.specs.Lawful.{IsLawfulManager}
use Rattle.dm_replay.specs.declared.kernel.Kernel.{Kernel}
use Rattle.dm_replay.specs.declared.kernel.Note.{Note}
use Rattle.dm_replay.specs.Named.{held}

-- 16 machines start with at most 64 processes each
abbrev pub first_count : ℕ
first_count = 1024

-- the process is that of the name, and has sent at most so many messages
pub record IsFit (n : ℕ) (p : Pid) (x : Process) : Type 0 where
  pub pid : x.pid ≡ p
  pub lawful : IsLawfulProcess x
  pub sent : x.sent ≤ n

-- who follows a request, and who sent it, can be named
pub record IsFitNote (p : Pid) (note : Note) : Type 0 where
  pub follower : IsMachine p.home
  pub asker : IsLawfulAddr note.asker

-- a message can be carried, and so can an answer under its name
pub record IsFitMessage (i : MsgId) (m : Message) : Type 0 where
  pub lawful : IsLawfulMessage m
  pub home : IsMachine i.from.home

pub record IsSound (n : ℕ) (k : Kernel) : Type 0 where
  pub processes : (p : Pid) (x : Process) → alive_of (at k.processes p) ≡ Some x → IsFit n p x
  pub bag : (i : MsgId) (m : Message) → held k.bag i ≡ Some m → IsFitMessage i m
  pub notes : (p : Pid) (note : Note) → get pid_cmp k.notes p ≡ Some note → IsFitNote p note
  pub noted : (i : MsgId) (p : Pid) → held k.noted i ≡ Some p → IsMachine i.from.home
  pub made : (m : ℕ) → slice_index k.made m ≤ first_count + n
  pub board : IsLawfulBoard k.board
  pub board_sent : k.board.sent ≤ n
  pub manager : IsLawfulManager k.manager
  pub manager_sent : k.manager.sent ≤ n
  pub children : length k.manager.children ≤ first_count + n

-- the manager knows as many machines and images as the boot file has
pub record IsOf (b : Boot) (k : Kernel) : Type 0 where
  pub machines : k.manager.machines ≡ length b.machines
  pub images : k.manager.images ≡ length b.images
