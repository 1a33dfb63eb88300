-- What handling a message gives: a row for each receiver, what is known of it, and each kind.
use Rattle.std.specs.Prelude.{ℕ, ◌+◌, ◌==◌, true, false, Bool, nat_le, ◌&&◌, if◌then◌else◌, List, [], ◌∷◌, ◌++◌, slice_get}
use Rattle.std.specs.declared.option.Option.{Option}
use Rattle.std.specs.declared.option.Option.TheVariants.{None, Some}
use Rattle.dm_link.specs.declared.Link.{Link}
use Rattle.dm_link.specs.declared.Pid.{Pid}
use Rattle.dm_link.specs.Names.{pid_of, pid_eq}
use Rattle.dm_message.specs.declared.Message.{Message}
use Rattle.dm_message.specs.declared.What.{What}
use Rattle.dm_message.specs.declared.What.TheVariants as what
use Rattle.dm_process.specs.declared.process.Process.{Process}
use Rattle.dm_room.specs.Room.{Taken, free_slots, free_blocks}
use Rattle.dm_records.specs.declared.record.Record.TheVariants.{Here, Frozen, Incoming, Forward}
use Rattle.dm_records.specs.Records.{frozen_of, incoming_of}
use Rattle.dm_migrate.specs.Pieces.{block_of, chunk_of}
use Rattle.dm_datamove.specs.declared.Landed.{Landed}
use Rattle.dm_datamove.specs.declared.Landed.TheVariants as landed
use Rattle.dm_datamove.specs.Landing.{Landing, landing}
use Rattle.dm_datamove.specs.Serving.{answer, serving_answer, after_serving, gone_answer}
use Rattle.dm_switchboard.specs.Taking as board
use Rattle.dm_procman.specs.Taking as manage
use Rattle.dm_onekernel.specs.declared.boot.Boot.{Boot}
use Rattle.dm_onekernel.specs.declared.boot.BootImage.{BootImage}
use Rattle.dm_onekernel.specs.declared.label.Label.TheVariants as label
use Rattle.dm_onekernel.specs.declared.label.Why.TheVariants as why
use Rattle.dm_onekernel.specs.Boot.{first_number, switchboard, manager}
use Rattle.dm_onekernel.specs.Options.{bind}
use Rattle.dm_line.specs.declared.line.Line.TheVariants as line
use Rattle.dm_kernel.specs.declared.part.Part.{Part}
use Rattle.dm_kernel.specs.declared.part.Part.TheVariants.{Says, Routes}
use Rattle.dm_kernel.specs.Begun.{with_child}
use Rattle.dm_onekernel.specs.Child.{child_of}
use Rattle.dm_switchboard.specs.Board.{Board}
use Rattle.dm_procman.specs.Managing.{Managing}
use Rattle.dm_resident.specs.Packed.{state_of}
use Rattle.dm_resident.specs.Residents.{memory_of, name_of}
use Rattle.dm_resident.specs.declared.Resident.{Resident}
use Rattle.dm_resident.specs.declared.Resident.TheVariants as resident
use Rattle.dm_kernel.specs.Coming.{answers_ask, hears_piece, holds_arriving, restarts}
use Rattle.dm_kernel.specs.Departing.{asked_to_move, gives_piece, holds_leaving, leaves, migrates, stays}
use Rattle.dm_kernel.specs.Following.{board_follows, forwards, manager_follows, process_follows, updated}
use Rattle.dm_kernel.specs.State.{KernelState, KernelKnown, Turned, preceded, turned, says, with_here, with_known}
use Rattle.dm_kernel.specs.Burying.{after_end, ends_with, hears_bury}

-- a process that is here: its queue takes user messages
abbrev pub queued : Process → Message → Process
queued x m = record x { queue = x.queue ++ m ∷ [] }

-- a message that its kernel serves
abbrev pub served_as : KernelState → Message → Process → Option Turned
served_as s m x = turned (with_here s m.to.pid x) (says (label.Served m.id) ∷ [])

abbrev pub killed : KernelState → Message → Process → Option Turned
killed s m x = turned (after_end s m.to.pid x why.Killed) (says (label.Served m.id) ∷ ends_with s m.to.pid x)

-- a piece of its memory is read or written, and that is answered
abbrev pub answers_with : KernelState → Message → Process → Option Message → Option Turned
answers_with s m x None = None
answers_with s m x (Some a) = turned (with_here s m.to.pid x) (says (label.Served m.id) ∷ Routes a ∷ [])

abbrev pub answered : KernelState → Message → Process → Option Turned
answered s m x = answers_with s m (after_serving x m.what) (serving_answer s.here x m)

-- a piece of its own data move has come
abbrev pub lands_as : KernelState → Message → Process → Landed → Option Turned
lands_as s m x (landed.Next request) = turned (with_here s m.to.pid x) (says (label.Served m.id) ∷ Routes request ∷ [])
lands_as s m x (landed.Done reply) = turned (with_here s m.to.pid x) (says (label.Served m.id) ∷ [])

abbrev pub lands : KernelState → Message → Option Landing → Option Turned
lands s m None = None
lands s m (Some d) = lands_as s m d.process d.landed

-- a message for a process that is here, a row a kind
abbrev pub here_handles : KernelState → Message → Process → What → Option Turned
here_handles s m x (what.User code channel body links) = turned (with_here s m.to.pid (queued x m)) (Says (line.Queued m.id) ∷ [])
here_handles s m x what.Stop = served_as s m (record x { stopped = true })
here_handles s m x what.Resume = served_as s m (record x { stopped = false })
here_handles s m x what.Kill = killed s m x
here_handles s m x (what.Read base len) = answered s m x
here_handles s m x (what.Write base bytes) = answered s m x
here_handles s m x (what.Block bytes) = lands s m (landing s.here x m.what x.status)
here_handles s m x what.Written = lands s m (landing s.here x m.what x.status)
here_handles s m x what.Gone = lands s m (landing s.here x m.what x.status)
here_handles s m x (what.Create image links) = None
here_handles s m x (what.Created pid) = None
here_handles s m x what.NoRoom = None
here_handles s m x (what.Migrate machine) = migrates s m (resident.Process x) machine
here_handles s m x (what.Update about) = process_follows s m x about
here_handles s m x (what.Ask pid blocks moves size asker) = None
here_handles s m x (what.Refuse pid free_slots free_blocks) = None
here_handles s m x (what.PullState pid chunk) = None
here_handles s m x (what.State pid chunk last bytes) = None
here_handles s m x (what.PullBlock pid block) = None
here_handles s m x (what.Memory pid block bytes) = None
here_handles s m x (what.AllTaken pid) = None
here_handles s m x (what.Restart pid) = None
here_handles s m x (what.Move machine) = asked_to_move s m x machine
here_handles s m x (what.Moved outcome) = None
here_handles s m x (what.CallOff pid) = None
here_handles s m x (what.Bury pid) = None

-- a message for a process that has ended, a row a kind
abbrev pub is_gone : KernelState → Message → Option Turned
is_gone s m = turned s (says (label.Gone m.id) ∷ Routes (gone_answer s.here m) ∷ [])

abbrev pub is_dropped : KernelState → Message → Option Turned
is_dropped s m = turned s (says (label.Dropped m.id) ∷ [])

abbrev pub ended_handles : KernelState → Message → What → Option Turned
ended_handles s m (what.Read base len) = is_gone s m
ended_handles s m (what.Write base bytes) = is_gone s m
ended_handles s m (what.User code channel body links) = is_dropped s m
ended_handles s m what.Stop = is_dropped s m
ended_handles s m what.Resume = is_dropped s m
ended_handles s m what.Kill = is_dropped s m
ended_handles s m (what.Block bytes) = is_dropped s m
ended_handles s m what.Written = is_dropped s m
ended_handles s m what.Gone = is_dropped s m
ended_handles s m (what.Create image links) = None
ended_handles s m (what.Created pid) = None
ended_handles s m what.NoRoom = None
ended_handles s m (what.Migrate machine) = turned s (Says (line.NoMove m.id) ∷ [])
ended_handles s m (what.Update about) = turned s (updated m 0)
ended_handles s m (what.Ask pid blocks moves size asker) = None
ended_handles s m (what.Refuse pid free_slots free_blocks) = None
ended_handles s m (what.PullState pid chunk) = None
ended_handles s m (what.State pid chunk last bytes) = None
ended_handles s m (what.PullBlock pid block) = None
ended_handles s m (what.Memory pid block bytes) = None
ended_handles s m (what.AllTaken pid) = None
ended_handles s m (what.Restart pid) = None
ended_handles s m (what.Move machine) = is_gone s m
ended_handles s m (what.Moved outcome) = None
ended_handles s m (what.CallOff pid) = None
ended_handles s m (what.Bury pid) = None

-- a process is made, the next of this home, or what is free is said
abbrev pub next_pid : KernelState → Pid
next_pid s = pid_of s.here (first_number + s.made)

abbrev pub makes : Boot → KernelState → Message → List Link → BootImage → Bool → Option Turned
makes b s m links i true =
    turned (with_child s (next_pid s) (child_of b (next_pid s) i links) i.blocks) (says (label.Created m.id (next_pid s)) ∷ Routes (answer s.here 0 m (what.Created (next_pid s))) ∷ [])
makes b s m links i false = turned s (says (label.NoSpace m.id (free_slots s.room) (free_blocks s.room)) ∷ Routes (answer s.here 0 m what.NoRoom) ∷ [])

abbrev pub has_room : Taken → ℕ → Bool
has_room r blocks = nat_le 1 (free_slots r) && nat_le blocks (free_blocks r)

abbrev pub makes_of : Boot → KernelState → Message → List Link → Option BootImage → Option Turned
makes_of b s m links None = None
makes_of b s m links (Some i) = makes b s m links i (has_room s.room i.blocks)

-- a message for the kernel itself, a row a kind; who calls a migration off sends on to this machine from now on
abbrev pub kernel_handles : Boot → KernelState → Message → What → Option Turned
kernel_handles b s m (what.Create image links) = makes_of b s m links.items (slice_get b.images image)
kernel_handles b s m (what.User code channel body links) = None
kernel_handles b s m what.Stop = None
kernel_handles b s m what.Resume = None
kernel_handles b s m what.Kill = None
kernel_handles b s m (what.Read base len) = None
kernel_handles b s m (what.Write base bytes) = None
kernel_handles b s m (what.Block bytes) = None
kernel_handles b s m what.Written = None
kernel_handles b s m what.Gone = None
kernel_handles b s m (what.Created pid) = None
kernel_handles b s m what.NoRoom = None
kernel_handles b s m (what.Migrate machine) = None
kernel_handles b s m (what.Update about) = None
kernel_handles b s m (what.Ask pid blocks moves size asker) = answers_ask b s m pid blocks moves size asker
kernel_handles b s m (what.Refuse pid free_slots free_blocks) = bind (frozen_of (s.records pid)) (stays s pid)
kernel_handles b s m (what.PullState pid chunk) = bind (frozen_of (s.records pid)) (λ d. gives_piece s m (chunk_of (name_of d.resident) (state_of d.resident) chunk))
kernel_handles b s m (what.State pid chunk last bytes) = hears_piece s m pid (incoming_of (s.records pid))
kernel_handles b s m (what.PullBlock pid block) = bind (frozen_of (s.records pid)) (λ d. gives_piece s m (block_of (name_of d.resident) (memory_of d.resident) block))
kernel_handles b s m (what.Memory pid block bytes) = hears_piece s m pid (incoming_of (s.records pid))
kernel_handles b s m (what.AllTaken pid) = bind (frozen_of (s.records pid)) (leaves s pid)
kernel_handles b s m (what.Restart pid) = bind (incoming_of (s.records pid)) (restarts b s pid)
kernel_handles b s m (what.Move machine) = None
kernel_handles b s m (what.Moved outcome) = None
kernel_handles b s m (what.CallOff pid) = bind (frozen_of (s.records pid)) (stays (preceded s pid m.id.from.home) pid)
kernel_handles b s m (what.Bury pid) = hears_bury s m pid

-- a server takes a message, and sends at most one; what it doesn't take is an update, and its links follow a process, or it is told to
-- move
abbrev pub routes : Option Message → List Part
routes None = []
routes (Some m) = Routes m ∷ []

abbrev pub told_board : KernelState → Message → Board → What → Option Turned
told_board s m v (what.Update about) = board_follows s m v about
told_board s m v (what.Migrate machine) = migrates s m (resident.Board v) machine
told_board s m v w = None

abbrev pub board_took : KernelState → Message → Board → Option board.Taken → Option Turned
board_took s m v None = told_board s m v m.what
board_took s m v (Some t) = turned (with_known s m.to.pid (Here (resident.Board t.board))) (says (label.Took m.id) ∷ routes t.took.answer)

abbrev pub board_handles : KernelState → Message → Board → Option Turned
board_handles s m v = board_took s m v (board.takes s.here v m.what)

abbrev pub told_manager : KernelState → Message → Managing → What → Option Turned
told_manager s m v (what.Update about) = manager_follows s m v about
told_manager s m v (what.Migrate machine) = migrates s m (resident.Manager v) machine
told_manager s m v w = None

abbrev pub manager_took : KernelState → Message → Managing → Option manage.Taken → Option Turned
manager_took s m v None = told_manager s m v m.what
manager_took s m v (Some t) = turned (with_known s m.to.pid (Here (resident.Manager t.manager))) (says (label.Took m.id) ∷ routes t.message)

abbrev pub manager_handles : KernelState → Message → Managing → Option Turned
manager_handles s m v = manager_took s m v (manage.takes s.here v m.id.n m.what)

-- by what is here
abbrev pub resident_handles : KernelState → Message → Resident → Option Turned
resident_handles s m (resident.Process x) = here_handles s m x m.what
resident_handles s m (resident.Board v) = board_handles s m v
resident_handles s m (resident.Manager v) = manager_handles s m v

-- by what is known of the receiver
abbrev pub process_handles : KernelState → Message → Option KernelKnown → Option Turned
process_handles s m None = ended_handles s m m.what
process_handles s m (Some (Here x)) = resident_handles s m x
process_handles s m (Some (Frozen leaving)) = holds_leaving s m leaving
process_handles s m (Some (Incoming arriving)) = holds_arriving s m arriving
process_handles s m (Some (Forward machine moves)) = forwards s m machine moves

-- the receiver is a kernel, or a process or a server
abbrev pub handles : Boot → KernelState → Message → Option Turned
handles b s m = if m.to.pid.num == 0 then kernel_handles b s m m.what else process_handles s m (s.records m.to.pid)
