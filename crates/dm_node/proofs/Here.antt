-- A kernel stays on its machine, whatever a turn gives.
use Rattle.dm_node.proofs.Names.{before_turn, ◌≡◌, ℕ, ◌==◌, Bool, true, false, List, [], ◌∷◌, refl, ◌∙◌, ⊤, if◌then◌else◌, slice_get, Option, None, Some, Ok, Err, Link, Pid, Message, What, Process, Status, first_on, Here, Frozen}
use Rattle.dm_node.proofs.Names.{Incoming, Forward, frozen_of, incoming_of, is_told_back, Asker, kind_of, Arrival, restarted, with_piece, Departure, block_of, chunk_of, bind, has_room_for, Landed, Landing, landing, after_serving}
use Rattle.dm_node.proofs.Names.{serving_answer, Boot, BootImage, BootProcess, manager, MoveError, asks_to_move, moved_back, Called, Completed, calls, Completion, completion, asks_manager, asks_move, told_to_move}
use Rattle.dm_node.proofs.Names.{begins_process, child_of, empty, with_all, with_child, accepts, restarts, restarts_as, takes_piece, took_piece, gives_piece, leaves, stays, forwards_and, Halt, answers_with, board_took}
use Rattle.dm_node.proofs.Names.{ended_handles, handles, has_room, here_handles, kernel_handles, lands, lands_as, makes, makes_of, manager_took, process_handles, told_board, told_manager, called_with, halts, processor_of}
use Rattle.dm_node.proofs.Names.{preceded, Board, Managing, Resident, bare, length, manager_in, migrates, name_of, resident_handles, with_servers, ran, received, received_by, receives, serves, serves_status, with_machine, KernelState, KernelKnown, Turned, own_id, with_here, first_runnable, goes_round, turn, here, node_opened, state_of}
use Rattle.dm_node.proofs.Names.{calls_arriving_off, calls_off, hears_piece, is_not_called, says_stale, turns_back, comes_from, is_whole}
use Rattle.std.specs.declared.result.Result.{Result}
use Rattle.dm_resident.specs.Residents.{memory_of}
use Rattle.dm_resident.specs.declared.Resident.TheVariants as resident
use Rattle.dm_message.specs.declared.What.TheVariants as what
use Rattle.dm_process.specs.declared.process.Status.TheVariants as status
use Rattle.dm_datamove.specs.declared.Landed.TheVariants as landed
use Rattle.dm_procman.specs.declared.moving.MoveError.TheVariants as no
use Rattle.dm_procman.specs.Taking as manage
use Rattle.dm_switchboard.specs.Taking as board
use Rattle.dm_syscall.specs.declared.Called.TheVariants as called
use Rattle.dm_syscall.specs.declared.Completed.TheVariants as completed
use Rattle.dm_kernel.specs.declared.run.Halt.TheVariants as halt
use Rattle.dm_kernel.specs.Turn.{turns}
use Rattle.dm_kernel.proofs.LawfulStart.{here_or}
use Rattle.dm_kernel.proofs.LawfulStart.{here_still}
use Rattle.dm_kernel.proofs.LawfulStart.{here_always}

abbrev pub StaysAt : ℕ → Option Turned → Type 0
StaysAt m None = ⊤
StaysAt m (Some t) = t.state.here ≡ m

-- one or the other
either : (m : ℕ) (test : Bool) (s t : Option Turned) → StaysAt m s → StaysAt m t → StaysAt m (if test then s else t)
either m true s t h k = h
either m false s t h k = k

-- a process is served
called_stays : (s : KernelState) (p : Pid) (k n : ℕ) (x : Process) (c : Called) → StaysAt s.here (called_with s p k n x c)
called_stays s p k n x (called.Replied c) = refl
called_stays s p k n x (called.Sent m) = refl
called_stays s p k n x (called.Moving m) = refl
called_stays s p k n x called.Waits = refl
called_stays s p k n x (called.Out w) = refl
called_stays s p k n x (called.Ended y) = refl

halts_stays : (s : KernelState) (p : Pid) (k : ℕ) (x : Process) (o : Option Halt) → StaysAt s.here (halts s p k x o)
halts_stays s p k x None = refl
halts_stays s p k x (Some (halt.Call n)) = called_stays (with_here s p (calls s.here x n).process) p k n (calls s.here x n).process (calls s.here x n).called
halts_stays s p k x (Some (halt.Fault f)) = refl

received_stays : (s : KernelState) (p : Pid) (x : Process) (mask : ℕ) (m : Message) (y : Process) (c : Completed) → StaysAt s.here (received s p x mask m y c)
received_stays s p x mask m y (completed.Received id) = refl
received_stays s p x mask m y (completed.Refused c) = refl

received_by_stays : (s : KernelState) (p : Pid) (x : Process) (mask : ℕ) (m : Message) (o : Option Completion) → StaysAt s.here (received_by s p x mask m o)
received_by_stays s p x mask m None = tt
received_by_stays s p x mask m (Some d) = received_stays s p x mask m d.process d.completed

receives_stays : (s : KernelState) (p : Pid) (x : Process) (mask : ℕ) (o : Option Message) → StaysAt s.here (receives s p x mask o)
receives_stays s p x mask None = tt
receives_stays s p x mask (Some m) = received_by_stays s p x mask m (completion x 0 x.status (Some m))

status_stays : (quantum : ℕ) (s : KernelState) (p : Pid) (x : Process) (t : Status) → StaysAt s.here (serves_status quantum s p x t)
status_stays quantum s p x status.Ready =
    halts_stays s p (ran quantum (processor_of x)).count (with_machine x (ran quantum (processor_of x)).machine) (ran quantum (processor_of x)).halt
status_stays quantum s p x (status.Waiting mask base size) = receives_stays s p x mask (first_on mask x.queue)
status_stays quantum s p x (status.Moving dir owner base own left pending) = tt

serves_stays : (quantum : ℕ) (s : KernelState) (p : Pid) (o : Option KernelKnown) → StaysAt s.here (serves quantum s p o)
serves_stays quantum s p None = tt
serves_stays quantum s p (Some (Here (resident.Process x))) = status_stays quantum s p x x.status
serves_stays quantum s p (Some (Here (resident.Board v))) = tt
serves_stays quantum s p (Some (Here (resident.Manager v))) = tt
serves_stays quantum s p (Some (Frozen leaving)) = tt
serves_stays quantum s p (Some (Incoming arriving)) = tt
serves_stays quantum s p (Some (Forward place moves)) = tt

-- a message is handled
answers_stays : (s : KernelState) (m : Message) (x : Process) (o : Option Message) → StaysAt s.here (answers_with s m x o)
answers_stays s m x None = tt
answers_stays s m x (Some a) = refl

lands_as_stays : (s : KernelState) (m : Message) (x : Process) (l : Landed) → StaysAt s.here (lands_as s m x l)
lands_as_stays s m x (landed.Next request) = refl
lands_as_stays s m x (landed.Done reply) = refl

lands_stays : (s : KernelState) (m : Message) (o : Option Landing) → StaysAt s.here (lands s m o)
lands_stays s m None = tt
lands_stays s m (Some d) = lands_as_stays s m d.process d.landed

here_stays : (s : KernelState) (m : Message) (x : Process) (w : What) → StaysAt s.here (here_handles s m x w)
here_stays s m x (what.User code channel body links) = refl
here_stays s m x what.Stop = refl
here_stays s m x what.Resume = refl
here_stays s m x what.Kill = refl
here_stays s m x (what.Read base len) = answers_stays s m (after_serving x m.what) (serving_answer s.here x m)
here_stays s m x (what.Write base bytes) = answers_stays s m (after_serving x m.what) (serving_answer s.here x m)
here_stays s m x (what.Block bytes) = lands_stays s m (landing s.here x m.what x.status)
here_stays s m x what.Written = lands_stays s m (landing s.here x m.what x.status)
here_stays s m x what.Gone = lands_stays s m (landing s.here x m.what x.status)
here_stays s m x (what.Migrate to) = either s.here (to == s.here) _ _ refl refl
here_stays s m x (what.Move to) = either s.here (to == s.here) _ _ refl refl
here_stays s m x (what.Update about) = refl
here_stays s m x w = tt

ended_stays : (s : KernelState) (m : Message) (w : What) → StaysAt s.here (ended_handles s m w)
ended_stays s m (what.Read base len) = refl
ended_stays s m (what.Write base bytes) = refl
ended_stays s m (what.Move to) = refl
ended_stays s m (what.User code channel body links) = refl
ended_stays s m what.Stop = refl
ended_stays s m what.Resume = refl
ended_stays s m what.Kill = refl
ended_stays s m (what.Block bytes) = refl
ended_stays s m what.Written = refl
ended_stays s m what.Gone = refl
ended_stays s m (what.Migrate to) = refl
ended_stays s m (what.Update about) = refl
ended_stays s m w = tt

forwards_stays : (s : KernelState) (m : Message) (place moves : ℕ) (told : Bool) → StaysAt s.here (forwards_and s m place moves told)
forwards_stays s m place moves true = refl
forwards_stays s m place moves false = refl

makes_stays : (b : Boot) (s : KernelState) (m : Message) (links : List Link) (i : BootImage) (room : Bool) → StaysAt s.here (makes b s m links i room)
makes_stays b s m links i true = refl
makes_stays b s m links i false = refl

makes_of_stays : (b : Boot) (s : KernelState) (m : Message) (links : List Link) (o : Option BootImage) → StaysAt s.here (makes_of b s m links o)
makes_of_stays b s m links None = tt
makes_of_stays b s m links (Some i) = makes_stays b s m links i (has_room s.room i.blocks)

-- a process leaves, or comes
leaving_stays : (s : KernelState) (o : Option Departure) (go : Departure → Option Turned) → ((d : Departure) → StaysAt s.here (go d)) → StaysAt s.here (bind o go)
leaving_stays s None go h = tt
leaving_stays s (Some d) go h = h d

arriving_stays : (s : KernelState) (o : Option Arrival) (go : Arrival → Option Turned) → ((a : Arrival) → StaysAt s.here (go a)) → StaysAt s.here (bind o go)
arriving_stays s None go h = tt
arriving_stays s (Some a) go h = h a

asks_stays : (b : Boot) (s : KernelState) (m : Message) (p : Pid) (blocks moves size : ℕ) (asker : Option Asker) (room : Bool) → StaysAt s.here (accepts b s m p blocks moves size asker room)
asks_stays b s m p blocks moves size asker true = refl
asks_stays b s m p blocks moves size asker false = refl

piece_stays : (s : KernelState) (m : Message) (p : Pid) (o : Option Arrival) → StaysAt s.here (took_piece s m p o)
piece_stays s m p None = tt
piece_stays s m p (Some a) = refl

hears_stays : (s : KernelState) (m : Message) (p : Pid) (o : Option Arrival) → StaysAt s.here (hears_piece s m p o)
hears_stays s m p None = refl
hears_stays s m p (Some a) = either s.here (comes_from a m.id.from.home) (takes_piece s m p a) (says_stale s m) (piece_stays s m p (with_piece a m.what)) refl

restart_stays : (s : KernelState) (p : Pid) (a : Arrival) (o : Option Resident) → StaysAt s.here (restarts_as s p a o)
restart_stays s p a None = tt
restart_stays s p a (Some x) = refl

kernel_stays : (b : Boot) (s : KernelState) (m : Message) (w : What) → StaysAt s.here (kernel_handles b s m w)
kernel_stays b s m (what.Create image links) = makes_of_stays b s m links.items (slice_get b.images image)
kernel_stays b s m (what.Ask p blocks moves size asker) = asks_stays b s m p blocks moves size asker (has_room_for s.room blocks)
kernel_stays b s m (what.Refuse p slots blocks) = leaving_stays s (frozen_of (s.records p)) (stays s p) (λ d. refl)
kernel_stays b s m (what.PullState p chunk) = leaving_stays s (frozen_of (s.records p)) (λ d. gives_piece s m (chunk_of (name_of d.resident) (state_of d.resident) chunk)) (λ d. refl)
kernel_stays b s m (what.State p chunk last bytes) = hears_stays s m p (incoming_of (s.records p))
kernel_stays b s m (what.PullBlock p block) = leaving_stays s (frozen_of (s.records p)) (λ d. gives_piece s m (block_of (name_of d.resident) (memory_of d.resident) block)) (λ d. refl)
kernel_stays b s m (what.Memory p block bytes) = hears_stays s m p (incoming_of (s.records p))
kernel_stays b s m (what.AllTaken p) = leaving_stays s (frozen_of (s.records p)) (leaves s p) (λ d. refl)
kernel_stays b s m (what.Restart p) = arriving_stays s (incoming_of (s.records p)) (restarts b s p) (λ a. restart_stays s p a (restarted (length b.machines) (length b.images) a))
kernel_stays b s m (what.CallOff p) = leaving_stays s (frozen_of (s.records p)) (stays (preceded s p m.id.from.home) p) (λ d. refl)
kernel_stays b s m (what.Bury p) = refl
kernel_stays b s m w = tt

migrates_stays : (s : KernelState) (m : Message) (r : Resident) (to : ℕ) → StaysAt s.here (migrates s m r to)
migrates_stays s m r to = either s.here (to == s.here) _ _ refl refl

told_board_stays : (s : KernelState) (m : Message) (v : Board) (w : What) → StaysAt s.here (told_board s m v w)
told_board_stays s m v (what.Update about) = refl
told_board_stays s m v (what.Migrate to) = migrates_stays s m (resident.Board v) to
told_board_stays s m v w = tt

board_stays : (s : KernelState) (m : Message) (v : Board) (o : Option board.Taken) → StaysAt s.here (board_took s m v o)
board_stays s m v None = told_board_stays s m v m.what
board_stays s m v (Some t) = refl

told_manager_stays : (s : KernelState) (m : Message) (v : Managing) (w : What) → StaysAt s.here (told_manager s m v w)
told_manager_stays s m v (what.Update about) = refl
told_manager_stays s m v (what.Migrate to) = migrates_stays s m (resident.Manager v) to
told_manager_stays s m v w = tt

manager_stays : (s : KernelState) (m : Message) (v : Managing) (o : Option manage.Taken) → StaysAt s.here (manager_took s m v o)
manager_stays s m v None = told_manager_stays s m v m.what
manager_stays s m v (Some t) = refl

resident_stays : (s : KernelState) (m : Message) (r : Resident) → StaysAt s.here (resident_handles s m r)
resident_stays s m (resident.Process x) = here_stays s m x m.what
resident_stays s m (resident.Board v) = board_stays s m v (board.takes s.here v m.what)
resident_stays s m (resident.Manager v) = manager_stays s m v (manage.takes s.here v m.id.n m.what)

known_stays : (s : KernelState) (m : Message) (o : Option KernelKnown) → StaysAt s.here (process_handles s m o)
known_stays s m None = ended_stays s m m.what
known_stays s m (Some (Here r)) = resident_stays s m r
known_stays s m (Some (Frozen leaving)) = refl
known_stays s m (Some (Incoming arriving)) = refl
known_stays s m (Some (Forward place moves)) = forwards_stays s m place moves (is_told_back (kind_of m.what))

handles_stays : (b : Boot) (s : KernelState) (m : Message) → StaysAt s.here (handles b s m)
handles_stays b s m = either s.here (m.to.pid.num == 0) (kernel_handles b s m m.what) (process_handles s m (s.records m.to.pid)) (kernel_stays b s m m.what) (known_stays s m (s.records m.to.pid))

-- a turn
round_stays : (b : Boot) (s : KernelState) (o : Option Pid) → StaysAt s.here (goes_round b s o)
round_stays b s None = refl
round_stays b s (Some p) = serves_stays b.quantum (record s { ring = moved_back p s.ring }) p (s.records p)

turns_stays : (b : Boot) (s : KernelState) (inbox : List Message) → StaysAt s.here (turns b s inbox)
turns_stays b s [] = round_stays b s (first_runnable s.records s.ring)
turns_stays b s (m ∷ rest) = handles_stays b (record s { inbox = rest }) m

pub turn_stays : (b : Boot) (s : KernelState) → StaysAt s.here (turn b s)
turn_stays b s = turns_stays b (before_turn s) s.inbox

-- asking for a move
told_stays : (s : KernelState) (p : Pid) (r : Result Message MoveError) → StaysAt s.here (told_to_move s p r)
told_stays s p (Ok m) = refl
told_stays s p (Err no.Unknown) = refl

asks_manager_stays : (s : KernelState) (p : Pid) (machine : ℕ) (o : Option Managing) → StaysAt s.here (asks_manager s p machine o)
asks_manager_stays s p machine None = tt
asks_manager_stays s p machine (Some g) = told_stays s p (asks_to_move s.here g p machine (own_id s))

pub asks_move_stays : (s : KernelState) (p : Pid) (machine : ℕ) → StaysAt s.here (asks_move s p machine)
asks_move_stays s p machine = asks_manager_stays s p machine (manager_in (s.records manager))

-- calling a migration off
arriving_called_off : (s : KernelState) (p : Pid) (o : Option Arrival) → StaysAt s.here (calls_arriving_off s p o)
arriving_called_off s p None = refl
arriving_called_off s p (Some a) = either s.here (is_whole a.wanted) (is_not_called s p) (turns_back s p a) refl refl

pub calls_off_stays : (s : KernelState) (p : Pid) → StaysAt s.here (calls_off s p)
calls_off_stays s p = arriving_called_off s p (incoming_of (s.records p))

pub opened_here : (b : Boot) (m : ℕ) → here (node_opened b m) ≡ m
opened_here b m = here_always b (empty b m) b.processes ∙ here_or (m == 0) (bare b m) (with_servers b (bare b m)) refl
