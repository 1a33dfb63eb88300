-- The steps of the kernel without machines: a row a label.
use Rattle.std.specs.Prelude.{ℕ, zero, suc, ◌==◌, ◌&&◌, if◌then◌else◌, List, [], ◌∷◌}
use Rattle.std.specs.Option.{option_map_or}
use Rattle.std.specs.declared.option.Option.{Option}
use Rattle.std.specs.declared.option.Option.TheVariants.{None, Some}
use Rattle.dm_link.specs.declared.Pid.{Pid}
use Rattle.dm_message.specs.declared.MsgId.{MsgId}
use Rattle.dm_message.specs.Ids.{id_eq}
use Rattle.dm_message.specs.Plain.{PlainMessage}
use Rattle.dm_processor.specs.declared.registers.Regs.{Regs}
use Rattle.dm_processor.specs.declared.registers.Fault.{Fault}
use Rattle.dm_processor.specs.Instructions.{Row, instruction}
use Rattle.dm_processor.specs.Instructions as row
use Rattle.dm_onekernel.specs.declared.label.Label.{Label}
use Rattle.dm_onekernel.specs.declared.label.Label.TheVariants as label
use Rattle.dm_onekernel.specs.declared.label.Reply.{Reply}
use Rattle.dm_onekernel.specs.declared.label.Why.{Why}
use Rattle.dm_onekernel.specs.declared.label.Why.TheVariants as why
use Rattle.dm_onekernel.specs.Codes.{reply_eq, why_eq}
use Rattle.dm_onekernel.specs.Options.{bind, when}
use Rattle.dm_onekernel.specs.PlainProcess.{PlainProcess, PlainStatus, Ready}
use Rattle.dm_onekernel.specs.Kernel.{Life, Alive, Ended, OneKernel, with_process, with_sent}
use Rattle.dm_onekernel.specs.Calls as calls
use Rattle.dm_onekernel.specs.Pieces.{answer_to}
use Rattle.dm_onekernel.specs.Receiving as receiving
use Rattle.dm_onekernel.specs.Service.{without_message, serves, takes, creates, has_no_room, is_dropped, gone_what, follows_request, ends_move}

-- what the processor holds: registers and memory
pub record Machine : Type 0 where
  pub regs : Regs
  pub bytes : List ℕ

abbrev pub machine_of : PlainProcess → Machine
machine_of p = record { regs = p.regs; bytes = p.memory }

abbrev pub with_machine : PlainProcess → Machine → PlainProcess
with_machine p m = record p { regs = m.regs; memory = m.bytes }

-- after one more instruction, if it is plain
abbrev pub plain_row : Row → Option Machine
plain_row (row.Plain regs bytes) = Some (record { regs = regs; bytes = bytes })
plain_row r = None

-- after so many plain instructions, if they are
abbrev pub plain_steps : ℕ → Machine → Option Machine
plain_steps zero m = Some m
plain_steps (suc k) m = bind (plain_steps k m) (λ n. plain_row (instruction n.regs n.bytes))

abbrev pub alive : Option Life → Option PlainProcess
alive (Some (Alive p)) = Some p
alive life = None

abbrev pub why_ended : Option Life → Option Why
why_ended (Some (Ended because)) = Some because
why_ended life = None

-- a living process that follows no request to move
abbrev pub at_hand : OneKernel → Pid → Option PlainProcess
at_hand s p = option_map_or (λ note. None) (s.notes p) (alive (s.processes p))

-- a process that executes: it is ready and not stopped
abbrev pub if_ready : PlainProcess → PlainStatus → Option PlainProcess
if_ready p Ready = if p.stopped then None else Some p
if_ready p status = None

abbrev pub running : OneKernel → Pid → Option PlainProcess
running s p = bind (at_hand s p) (λ x. if_ready x x.status)

-- what the next instruction of a process that executes comes to, if it isn't plain
pub data Trap : Type 0 where
  Calls : (number : ℕ) → (called : calls.Called) → Trap
  Faults : (fault : Fault) → Trap

abbrev pub next_row : Pid → PlainProcess → Row → Option Trap
next_row p x (row.Plain regs bytes) = None
next_row p x (row.Calls number regs) = Some (Calls number (calls.call p (record x { regs = regs }) number))
next_row p x (row.Faults fault) = Some (Faults fault)

abbrev pub next_trap : OneKernel → Pid → Option Trap
next_trap s p = bind (running s p) (λ x. next_row p x (instruction x.regs x.memory))

-- the process goes on
abbrev pub goes_on : OneKernel → Pid → PlainProcess → OneKernel
goes_on s p x = with_process s p (Alive x)

-- call: it replies, and nothing is sent
abbrev pub replies : OneKernel → Pid → ℕ → Reply → Trap → Option OneKernel
replies s p n c (Calls number (calls.Replies reply x)) = when ((n == number) && reply_eq c reply) (goes_on s p x)
replies s p n c other = None

-- send: the message enters the bag
abbrev pub sends : OneKernel → Pid → MsgId → Trap → Option OneKernel
sends s p id (Calls number (calls.Sends m x)) = when (id_eq id m.id) (with_sent (goes_on s p x) (Some m))
sends s p id other = None

-- wait: a receive begins
abbrev pub waits : OneKernel → Pid → Trap → Option OneKernel
waits s p (Calls number (calls.Waits x)) = Some (goes_on s p x)
waits s p other = None

abbrev pub outputs : OneKernel → Pid → ℕ → Trap → Option OneKernel
outputs s p w (Calls number (calls.Outputs word x)) = when (w == word) (goes_on s p x)
outputs s p w other = None

-- end: by a call or a fault
abbrev pub ends : OneKernel → Pid → Why → Trap → Option OneKernel
ends s p y (Calls number (calls.Ends because)) = when (why_eq y because) (with_process s p (Ended y))
ends s p y (Faults fault) = when (why_eq y (why.Fault fault)) (with_process s p (Ended y))
ends s p y other = None

-- receive: the message leaves the bag
abbrev pub receives : OneKernel → Pid → MsgId → receiving.Completed → Option OneKernel
receives s p id (receiving.Receives x) = Some (goes_on (without_message s id) p x)
receives s p id (receiving.Refuses reply x) = None

-- refuse: the message stays
abbrev pub refuses : OneKernel → Pid → Reply → receiving.Completed → Option OneKernel
refuses s p c (receiving.Receives x) = None
refuses s p c (receiving.Refuses reply x) = when (reply_eq c reply) (goes_on s p x)

-- what a message of the bag would do to the receive of a process
abbrev pub completing : OneKernel → Pid → MsgId → Option receiving.Completed
completing s p id = bind (at_hand s p) (λ x. bind (s.bag id) (receiving.completes_with p x))

-- dropped and gone: the receiver has ended
abbrev pub drops : OneKernel → MsgId → PlainMessage → Why → Option OneKernel
drops s id m because = when (is_dropped m.what) (without_message s id)

abbrev pub says_gone : OneKernel → MsgId → PlainMessage → Why → Option OneKernel
says_gone s id m because = bind (gone_what m.what) (λ w. Some (with_sent (without_message s id) (Some (answer_to m w))))

-- one step, if it is one
abbrev pub step : OneKernel → Label → Option OneKernel
step s (label.Ran p k) = bind (running s p) (λ x. bind (plain_steps k (machine_of x)) (λ m. Some (goes_on s p (with_machine x m))))
step s (label.Call p n c) = bind (next_trap s p) (replies s p n c)
step s (label.Send p id) = bind (next_trap s p) (sends s p id)
step s (label.Wait p) = bind (next_trap s p) (waits s p)
step s (label.Out p w) = bind (next_trap s p) (outputs s p w)
step s (label.End p y) = bind (next_trap s p) (ends s p y)
step s (label.Receive p id) = bind (completing s p id) (receives s p id)
step s (label.Refuse p id c) = bind (completing s p id) (refuses s p c)
step s (label.Served id) = bind (s.bag id) (λ m. bind (at_hand s m.to) (λ p. serves s id m p m.what))
step s (label.Took id) = bind (s.bag id) (takes s id)
step s (label.Dropped id) = bind (s.bag id) (λ m. bind (why_ended (s.processes m.to)) (drops s id m))
step s (label.Gone id) = bind (s.bag id) (λ m. bind (why_ended (s.processes m.to)) (says_gone s id m))
step s (label.Created id child) = bind (s.bag id) (λ m. creates s id m child m.what)
step s (label.NoSpace id free_slots free_blocks) = bind (s.bag id) (λ m. has_no_room s id m m.what)
step s (label.Asked id) = bind (s.bag id) (λ m. bind (at_hand s m.to) (λ p. follows_request s id m m.what))
step s (label.Answered id outcome) = bind (s.noted id) (λ p. bind (s.notes p) (λ n. ends_move s id p n outcome))

-- the steps in order, if each is one
abbrev pub replay : OneKernel → List Label → Option OneKernel
replay s [] = Some s
replay s (l ∷ ls) = bind (step s l) (λ t. replay t ls)
