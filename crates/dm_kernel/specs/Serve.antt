-- What serving a process gives.
use Rattle.std.specs.Prelude.{ℕ, zero, suc, ◌+◌, [], ◌∷◌}
use Rattle.std.specs.declared.option.Option.{Option}
use Rattle.std.specs.declared.option.Option.TheVariants.{None, Some}
use Rattle.dm_link.specs.declared.Pid.{Pid}
use Rattle.dm_message.specs.declared.Message.{Message}
use Rattle.dm_message.specs.declared.MsgId.{MsgId}
use Rattle.dm_processor.specs.Instructions as row
use Rattle.dm_processor.specs.Instructions.{Row, instruction}
use Rattle.dm_process.specs.Mail.{first_on, without_first_on}
use Rattle.dm_process.specs.declared.process.Process.{Process}
use Rattle.dm_process.specs.declared.process.Status.{Status}
use Rattle.dm_process.specs.declared.process.Status.TheVariants as status
use Rattle.dm_onekernel.specs.declared.label.Label.{Label}
use Rattle.dm_onekernel.specs.declared.label.Label.TheVariants as label
use Rattle.dm_onekernel.specs.declared.label.Why.{Why}
use Rattle.dm_onekernel.specs.declared.label.Why.TheVariants as why
use Rattle.dm_onekernel.specs.Step.{Machine}
use Rattle.dm_syscall.specs.declared.Called.{Called}
use Rattle.dm_syscall.specs.declared.Called.TheVariants as called
use Rattle.dm_syscall.specs.declared.Completed.{Completed}
use Rattle.dm_syscall.specs.declared.Completed.TheVariants as completed
use Rattle.dm_syscall.specs.Calls.{Done, calls}
use Rattle.dm_syscall.specs.Completing.{Completion, completion}
use Rattle.dm_kernel.specs.declared.part.Part.TheVariants.{Routes}
use Rattle.dm_kernel.specs.declared.run.Halt.{Halt}
use Rattle.dm_kernel.specs.declared.run.Halt.TheVariants as halt
use Rattle.dm_records.specs.declared.record.Record.TheVariants.{Here, Frozen, Incoming, Forward}
use Rattle.dm_resident.specs.declared.Resident.TheVariants as resident
use Rattle.dm_kernel.specs.State.{KernelState, KernelKnown, Turned, turned, says, with_here}
use Rattle.dm_kernel.specs.Burying.{after_end, ends_with}

-- how far a process comes in a turn, and why it comes no further
pub record Ran : Type 0 where
  pub count : ℕ
  pub machine : Machine
  pub halt : Option Halt

abbrev pub one_more : Ran → Ran
one_more r = record { count = r.count + 1; machine = r.machine; halt = r.halt }

abbrev pub after_row : Machine → Row → (Machine → Ran) → Ran
after_row m (row.Plain regs bytes) go = one_more (go (record { regs = regs; bytes = bytes }))
after_row m (row.Calls number regs) go = record { count = 0; machine = record { regs = regs; bytes = m.bytes }; halt = Some (halt.Call number) }
after_row m (row.Faults fault) go = record { count = 0; machine = m; halt = Some (halt.Fault fault) }

-- at most so many plain instructions, up to the first that isn't one; the program counter is past a call
abbrev pub ran : ℕ → Machine → Ran
ran zero m = record { count = 0; machine = m; halt = None }
ran (suc k) m = after_row m (instruction m.regs m.bytes) (ran k)

abbrev pub processor_of : Process → Machine
processor_of x = record { regs = x.regs; bytes = x.memory }

abbrev pub with_machine : Process → Machine → Process
with_machine x m = record x { regs = m.regs; memory = m.bytes }

-- the process x of a kernel that has it here ends
abbrev pub ends : KernelState → Pid → ℕ → Process → Why → Option Turned
ends s p k x y = turned (after_end s p x y) (says (label.Ran p k) ∷ says (label.End p y) ∷ ends_with s p x)

-- what a call came to, a row an outcome; the kernel has the process as it is after the call
abbrev pub called_with : KernelState → Pid → ℕ → ℕ → Process → Called → Option Turned
called_with s p k n x (called.Replied c) = turned s (says (label.Ran p k) ∷ says (label.Call p n c) ∷ [])
called_with s p k n x (called.Sent m) = turned s (says (label.Ran p k) ∷ says (label.Send p m.id) ∷ Routes m ∷ [])
called_with s p k n x (called.Moving m) = turned s (says (label.Ran p k) ∷ says (label.Send p m.id) ∷ Routes m ∷ [])
called_with s p k n x called.Waits = turned s (says (label.Ran p k) ∷ says (label.Wait p) ∷ [])
called_with s p k n x (called.Out w) = turned s (says (label.Ran p k) ∷ says (label.Out p w) ∷ [])
called_with s p k n x (called.Ended y) = ends s p k x y

abbrev pub does : KernelState → Pid → ℕ → ℕ → Done → Option Turned
does s p k n d = called_with (with_here s p d.process) p k n d.process d.called

abbrev pub halts : KernelState → Pid → ℕ → Process → Option Halt → Option Turned
halts s p k x None = turned (with_here s p x) (says (label.Ran p k) ∷ [])
halts s p k x (Some (halt.Call n)) = does s p k n (calls s.here x n)
halts s p k x (Some (halt.Fault f)) = ends (with_here s p x) p k x (why.Fault f)

-- a ready process executes
abbrev pub executes : KernelState → Pid → Process → Ran → Option Turned
executes s p x r = halts s p r.count (with_machine x r.machine) r.halt

-- what is said of a receive that message i came to
abbrev pub completed_label : Pid → MsgId → Completed → Label
completed_label p i (completed.Received id) = label.Receive p id
completed_label p i (completed.Refused c) = label.Refuse p i c

-- a waiting process takes the first queued message on its mask, which leaves the queue, or is refused it
abbrev pub received : KernelState → Pid → Process → ℕ → Message → Process → Completed → Option Turned
received s p x mask m y (completed.Received id) = turned (with_here s p (record y { queue = without_first_on mask x.queue })) (says (label.Receive p id) ∷ [])
received s p x mask m y (completed.Refused c) = turned (with_here s p y) (says (label.Refuse p m.id c) ∷ [])

abbrev pub received_by : KernelState → Pid → Process → ℕ → Message → Option Completion → Option Turned
received_by s p x mask m None = None
received_by s p x mask m (Some d) = received s p x mask m d.process d.completed

abbrev pub receives : KernelState → Pid → Process → ℕ → Option Message → Option Turned
receives s p x mask None = None
receives s p x mask (Some m) = received_by s p x mask m (completion x 0 x.status (Some m))

abbrev pub serves_status : ℕ → KernelState → Pid → Process → Status → Option Turned
serves_status quantum s p x status.Ready = executes s p x (ran quantum (processor_of x))
serves_status quantum s p x (status.Waiting mask base cap_) = receives s p x mask (first_on mask x.queue)
serves_status quantum s p x (status.Moving dir owner base own left pending) = None

-- a process of the ring is here
abbrev pub serves : ℕ → KernelState → Pid → Option KernelKnown → Option Turned
serves quantum s p None = None
serves quantum s p (Some (Here (resident.Process x))) = serves_status quantum s p x x.status
serves quantum s p (Some (Here (resident.Board v))) = None
serves quantum s p (Some (Here (resident.Manager v))) = None
serves quantum s p (Some (Frozen leaving)) = None
serves quantum s p (Some (Incoming arriving)) = None
serves quantum s p (Some (Forward machine moves)) = None
