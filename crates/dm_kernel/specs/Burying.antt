-- What a machine tells where a process has ended: each machine that may send on to this one is to forget it too.
use Rattle.std.specs.Prelude.{ℕ, ◌+◌, List, [], ◌∷◌, ◌++◌, length}
use Rattle.std.specs.declared.option.Option.{Option}
use Rattle.dm_link.specs.declared.Pid.{Pid}
use Rattle.dm_linkupdate.specs.Notice.{kernel_at}
use Rattle.dm_message.specs.declared.Message.{Message}
use Rattle.dm_message.specs.declared.What.TheVariants as what
use Rattle.dm_process.specs.declared.process.Process.{Process}
use Rattle.dm_records.specs.Machines.{machines_with}
use Rattle.dm_onekernel.specs.declared.label.Why.{Why}
use Rattle.dm_line.specs.declared.line.Line.TheVariants as line
use Rattle.dm_kernel.specs.declared.part.Part.{Part}
use Rattle.dm_kernel.specs.declared.part.Part.TheVariants.{Says, Routes}
use Rattle.dm_kernel.specs.State.{KernelState, Turned, drops, forgets, own, turned, with_sent, without_process}

-- the predecessors of a process, in order
abbrev pub preds_of : KernelState → Pid → List ℕ
preds_of s p = machines_with (s.preds p)

-- the kernels of these machines are told, each under the next name of this one
abbrev pub buries : KernelState → Pid → List ℕ → List Part
buries s p [] = []
buries s p (m ∷ ms) = Routes (own s (kernel_at m) (what.Bury p)) ∷ buries (with_sent s) p ms

-- so many messages more are sent
abbrev pub with_told : KernelState → List ℕ → KernelState
with_told s ms = record s { sent = s.sent + length ms }

-- what follows the end of a process, and the machine then
abbrev pub ends_with : KernelState → Pid → Process → List Part
ends_with s p x = drops x.queue ++ buries s p (preds_of s p)

abbrev pub after_end : KernelState → Pid → Process → Why → KernelState
after_end s p x y = with_told (without_process s p x y) (preds_of s p)

-- a machine is told that a process has ended: it forgets it, and tells its predecessors
abbrev pub hears_bury : KernelState → Message → Pid → Option Turned
hears_bury s m p = turned (with_told (forgets s p) (preds_of s p)) (Says (line.Buried m.id (length (preds_of s p))) ∷ buries s p (preds_of s p))
