-- The steps of the kernel with places: a row a label, by the functions of the machines' code. Whether a label is a step at
-- all is the kernel's to say (dm_onekernel); here stands what becomes of processes and messages with places then.
use Rattle.std.specs.Prelude.{ℕ, true, false, if◌then◌else◌, List, slice_get}
use Rattle.std.specs.declared.option.Option.{Option}
use Rattle.std.specs.declared.option.Option.TheVariants.{None, Some}
use Rattle.dm_link.specs.declared.Pid.{Pid}
use Rattle.dm_link.specs.declared.Link.{Link}
use Rattle.dm_link.specs.Names.{pid_eq}
use Rattle.dm_message.specs.declared.Asker.{Asker}
use Rattle.dm_message.specs.declared.MsgId.{MsgId}
use Rattle.dm_message.specs.declared.Outcome.{Outcome}
use Rattle.dm_message.specs.declared.Message.{Message}
use Rattle.dm_message.specs.declared.What.{What}
use Rattle.dm_message.specs.declared.What.TheVariants as what
use Rattle.dm_message.specs.Ids.{id_eq}
use Rattle.dm_process.specs.declared.process.Process.{Process}
use Rattle.dm_process.specs.declared.process.Status.{Status}
use Rattle.dm_process.specs.declared.process.Status.TheVariants as status
use Rattle.dm_process.specs.Begun.{begun_process}
use Rattle.dm_processor.specs.Instructions.{Row, instruction}
use Rattle.dm_processor.specs.Instructions as row
use Rattle.dm_onekernel.specs.declared.boot.Format.{Format}
use Rattle.dm_onekernel.specs.declared.boot.BootImage.{BootImage}
use Rattle.dm_onekernel.specs.declared.label.Label.{Label}
use Rattle.dm_onekernel.specs.declared.label.Label.TheVariants as label
use Rattle.dm_onekernel.specs.Boot.{slots_of, switchboard, manager}
use Rattle.dm_onekernel.specs.Options.{bind}
use Rattle.dm_onekernel.specs.Start.{memory_of, slots_with}
use Rattle.dm_onekernel.specs.Step.{Machine, plain_steps}
use Rattle.dm_migrate.specs.Asking.{asker_of, moved_answer}
use Rattle.dm_datamove.specs.declared.Landed.{Landed}
use Rattle.dm_datamove.specs.declared.Landed.TheVariants as landed
use Rattle.dm_datamove.specs.Landing.{landing}
use Rattle.dm_datamove.specs.Serving.{after_serving, answer, gone_answer, serving_answer}
use Rattle.dm_syscall.specs.declared.Called.{Called}
use Rattle.dm_syscall.specs.declared.Called.TheVariants as called
use Rattle.dm_syscall.specs.Calls.{Done, calls}
use Rattle.dm_syscall.specs.Completing.{Completion, completion}
use Rattle.dm_switchboard.specs.Taking as board
use Rattle.dm_procman.specs.Taking as manage
use Rattle.dm_law_places.specs.Placed.{Placed}

-- a process set, or ended; a message put into the bag or taken out
abbrev pub with_process : Placed → Pid → Option Process → Placed
with_process l p x = record l { processes = λ q. if pid_eq p q then x else l.processes q }

abbrev pub with_message : Placed → MsgId → Option Message → Placed
with_message l id m = record l { bag = λ i. if id_eq id i then m else l.bag i }

abbrev pub without_message : Placed → MsgId → Placed
without_message l id = with_message l id None

-- a message put into the bag under its own name, if there is one
abbrev pub with_sent : Placed → Option Message → Placed
with_sent l None = l
with_sent l (Some m) = with_message l m.id (Some m)

-- a process whose move somebody asked for, or for whose end nobody waits any more
abbrev pub with_note : Placed → Pid → MsgId → Asker → Placed
with_note l p id k = record l { notes = λ q. if pid_eq p q then Some k else l.notes q; noted = λ i. if id_eq id i then Some p else l.noted i }

abbrev pub without_note : Placed → Pid → MsgId → Placed
without_note l p id = record l { notes = λ q. if pid_eq p q then None else l.notes q; noted = λ i. if id_eq id i then None else l.noted i }

-- a process that executes
abbrev pub if_ready : Process → Status → Option Process
if_ready x status.Ready = if x.stopped then None else Some x
if_ready x (status.Waiting mask base size) = None
if_ready x (status.Moving dir owner base own left pending) = None

abbrev pub running : Placed → Pid → Option Process
running l p = bind (l.processes p) (λ x. if_ready x x.status)

-- after plain instructions
abbrev pub machine_of : Process → Machine
machine_of x = record { regs = x.regs; bytes = x.memory }

abbrev pub with_machine : Process → Machine → Process
with_machine x m = record x { regs = m.regs; memory = m.bytes }

abbrev pub ran : Placed → Pid → ℕ → Option Placed
ran l p k = bind (running l p) (λ x. bind (plain_steps k (machine_of x)) (λ m. Some (with_process l p (Some (with_machine x m)))))

-- what an instruction that isn't plain leaves of a process, and the message that it sends
pub record Acted : Type 0 where
  pub process : Option Process
  pub message : Option Message

abbrev pub after_call : Called → Process → Acted
after_call (called.Replied c) x = record { process = Some x; message = None }
after_call (called.Sent m) x = record { process = Some x; message = Some m }
after_call (called.Moving m) x = record { process = Some x; message = Some m }
after_call called.Waits x = record { process = Some x; message = None }
after_call (called.Out w) x = record { process = Some x; message = None }
after_call (called.Ended y) x = record { process = None; message = None }

abbrev pub after_done : Done → Acted
after_done d = after_call d.called d.process

abbrev pub acted : ℕ → Process → Row → Option Acted
acted here x (row.Plain regs bytes) = None
acted here x (row.Calls number regs) = Some (after_done (calls here (record x { regs = regs }) number))
acted here x (row.Faults fault) = Some (record { process = None; message = None })

abbrev pub with_acted : Placed → Pid → Acted → Placed
with_acted l p w = with_sent (with_process l p w.process) w.message

abbrev pub acts : ℕ → Placed → Pid → Option Placed
acts here l p = bind (running l p) (λ x. bind (acted here x (instruction x.regs x.memory)) (λ w. Some (with_acted l p w)))

-- a receive that ends: the message is the one at the front of the process's queue
abbrev pub completed : Placed → Pid → MsgId → Option Completion
completed l p id = bind (l.processes p) (λ x. bind (l.bag id) (λ m. completion x 0 x.status (Some m)))

-- served, a row a kind: the receiver goes on, and what it answers or asks for next takes the message's place
abbrev pub after_landing : Placed → Pid → Landed → Process → Placed
after_landing l p (landed.Next m) x = with_sent (with_process l p (Some x)) (Some m)
after_landing l p (landed.Done c) x = with_process l p (Some x)

abbrev pub answers : ℕ → Placed → Message → Process → Option Placed
answers here l m x =
    bind (serving_answer here x m) (λ a. Some (with_sent (with_process l m.to.pid (Some (after_serving x m.what))) (Some a)))

abbrev pub lands : ℕ → Placed → Message → Process → Option Placed
lands here l m x = bind (landing here x m.what x.status) (λ d. Some (after_landing l m.to.pid d.landed d.process))

abbrev pub serves : ℕ → Placed → Message → Process → What → Option Placed
serves here l m x what.Stop = Some (with_process l m.to.pid (Some (record x { stopped = true })))
serves here l m x what.Resume = Some (with_process l m.to.pid (Some (record x { stopped = false })))
serves here l m x what.Kill = Some (with_process l m.to.pid None)
serves here l m x (what.Read base len) = answers here l m x
serves here l m x (what.Write base bytes) = answers here l m x
serves here l m x (what.Block bytes) = lands here l m x
serves here l m x what.Written = lands here l m x
serves here l m x what.Gone = lands here l m x
serves here l m x w = None

-- took: a message for a server
abbrev pub board_took : Placed → board.Taken → Placed
board_took l t = with_sent (record l { board = t.board }) t.took.answer

abbrev pub manager_took : Placed → manage.Taken → Placed
manager_took l t = with_sent (record l { manager = t.manager }) t.message

abbrev pub takes : ℕ → Placed → Message → Option Placed
takes here l m =
    if pid_eq m.to.pid switchboard then bind (board.takes here l.board m.what) (λ t. Some (board_took l t))
    else if pid_eq m.to.pid manager then bind (manage.takes here l.manager m.id.n m.what) (λ t. Some (manager_took l t))
    else None

-- created: a kernel makes a process, and says so
abbrev pub with_child : Placed → Format → Pid → BootImage → List Link → Placed
with_child l f child image links = with_process l child (Some (begun_process child (memory_of image) (slots_with (slots_of f) links)))

abbrev pub creates : ℕ → Format → List BootImage → Placed → Message → Pid → What → Option Placed
creates here f images l m child (what.Create image links) =
    bind (slice_get images image) (λ i. Some (with_sent (with_child l f child i links.items) (Some (answer here 0 m (what.Created child)))))
creates here f images l m child w = None

-- answered: a process tells who asked for its move how it ended
abbrev pub ends_move : ℕ → Placed → MsgId → Pid → Outcome → Option Placed
ends_move here l id p o =
    bind (l.notes p) (λ k. bind (l.processes p) (λ x. Some (with_sent (without_note l p id) (Some (moved_answer here x o k)))))

-- the kernel of machine `here` acts; what processes are made of is the boot file's
abbrev pub placed_step : ℕ → Format → List BootImage → Placed → Label → Option Placed
placed_step here f images l (label.Ran p k) = ran l p k
placed_step here f images l (label.Call p n c) = acts here l p
placed_step here f images l (label.Send p id) = acts here l p
placed_step here f images l (label.Wait p) = acts here l p
placed_step here f images l (label.Out p w) = acts here l p
placed_step here f images l (label.End p y) = acts here l p
placed_step here f images l (label.Receive p id) = bind (completed l p id) (λ d. Some (with_process (without_message l id) p (Some d.process)))
placed_step here f images l (label.Refuse p id c) = bind (completed l p id) (λ d. Some (with_process l p (Some d.process)))
placed_step here f images l (label.Dropped id) = Some (without_message l id)
placed_step here f images l (label.Served id) =
    bind (l.bag id) (λ m. bind (l.processes m.to.pid) (λ x. serves here (without_message l id) m x m.what))
placed_step here f images l (label.Gone id) = bind (l.bag id) (λ m. Some (with_sent (without_message l id) (Some (gone_answer here m))))
placed_step here f images l (label.Took id) = bind (l.bag id) (takes here (without_message l id))
placed_step here f images l (label.Created id child) = bind (l.bag id) (λ m. creates here f images (without_message l id) m child m.what)
placed_step here f images l (label.NoSpace id slots blocks) =
    bind (l.bag id) (λ m. Some (with_sent (without_message l id) (Some (answer here 0 m what.NoRoom))))
placed_step here f images l (label.Asked id) = bind (l.bag id) (λ m. Some (with_note (without_message l id) m.to.pid id (asker_of m)))
placed_step here f images l (label.Answered id o) = bind (l.noted id) (λ p. ends_move here l id p o)
