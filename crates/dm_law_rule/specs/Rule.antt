-- The group rule: what follows the head of a group, decided by where the run stands before it.
use Rattle.std.specs.Prelude.{ℕ, zero, suc, ◌+◌, ◌-◌, ◌/◌, Bool, true, false, not, ◌==◌, ◌&&◌, ◌||◌, nat_lt, nat_le, if◌then◌else◌, is_some, option_map, List, [], ◌∷◌, ◌++◌, length, map, slice_get, find}
use Rattle.std.specs.Option.{option_map_or}
use Rattle.std.specs.List.{list_any}
-- the numbers from n on, so many
pub use Rattle.std.specs.List.{range_with_len as numbers_from}
use Rattle.std.specs.declared.option.Option.{Option}
use Rattle.std.specs.declared.option.Option.TheVariants.{None, Some}
use Rattle.dm_link.specs.declared.Pid.{Pid}
use Rattle.dm_link.specs.Names.{pid_of, pid_eq}
use Rattle.dm_message.specs.declared.MsgId.{MsgId}
use Rattle.dm_message.specs.Kinds.{plain_kind}
use Rattle.dm_message.specs.Sorts.{Sort, sort_of, brings_piece}
use Rattle.dm_message.specs.Sorts as sort
use Rattle.dm_message.specs.declared.kind.MessageKind.{MessageKind}
use Rattle.dm_message.specs.Plain as what
use Rattle.dm_message.specs.Plain.{PlainMessage, PlainWhat}
use Rattle.dm_process.specs.Mail.{on_mask}
use Rattle.dm_processor.specs.Instructions.{instruction}
use Rattle.dm_onekernel.specs.declared.boot.BootMachine.{BootMachine}
use Rattle.dm_onekernel.specs.declared.boot.BootImage.{BootImage}
use Rattle.dm_onekernel.specs.declared.boot.Boot.{Boot}
use Rattle.dm_onekernel.specs.declared.label.Label.{Label}
use Rattle.dm_onekernel.specs.declared.label.Label.TheVariants as label
use Rattle.dm_onekernel.specs.declared.label.Why.TheVariants as why
use Rattle.dm_onekernel.specs.Boot.{first_number, switchboard, manager}
use Rattle.dm_onekernel.specs.Options.{bind}
use Rattle.dm_onekernel.specs.PlainProcess.{PlainProcess, PlainStatus, Ready, Waiting, Moving}
use Rattle.dm_onekernel.specs.Kernel.{OneKernel}
use Rattle.dm_onekernel.specs.Calls as calls
use Rattle.dm_onekernel.specs.Pieces as pieces
use Rattle.dm_onekernel.specs.Pieces.{answer_id}
use Rattle.dm_onekernel.specs.Receiving as receiving
use Rattle.dm_onekernel.specs.Switchboard as board
use Rattle.dm_onekernel.specs.Manager as manage
use Rattle.dm_onekernel.specs.Step as kernel
use Rattle.dm_onekernel.specs.Step.{Machine, machine_of, with_machine, plain_row}
use Rattle.dm_schedule.specs.declared.Step.{Step}
use Rattle.dm_schedule.specs.declared.Step.TheVariants as step
use Rattle.dm_line.specs.declared.line.Line.TheVariants as line
use Rattle.dm_line.specs.declared.line.Load.{Load}
use Rattle.dm_line.specs.declared.line.Load.TheVariants as load
use Rattle.dm_line.specs.Each.{sum_below}
use Rattle.dm_law_rule.specs.View.{View, Pair, SentLoad, Told, About, Of, Known, Unknown, Here, Frozen, Incoming, Forward, target_in, at_least}
use Rattle.dm_law_rule.specs.Point.{Point, after_line, move_target}
use Rattle.dm_law_rule.specs.Parts.{Part, Says, Routes, Transmits, Spelled, spelled, pair_window}
pub use Rattle.dm_law_rule.specs.Parts.{behind}
use Rattle.dm_law_rule.specs.Migrating.{asked_to_move, by_known, told_step, process_told, migrates, calls_off, size_of}
pub use Rattle.dm_law_rule.specs.Burying.{drop_parts}
use Rattle.dm_law_rule.specs.Burying.{buried, ends_with, tells_end}

abbrev pub says : Label → Part
says l = Says (line.Label l)

-- a user message on a channel of the mask
abbrev pub what_is_awaited : ℕ → PlainWhat → Bool
what_is_awaited mask (what.User code channel body links) = on_mask mask channel
what_is_awaited mask w = false

abbrev pub is_awaited : ℕ → Option PlainMessage → Bool
is_awaited mask message = option_map_or (λ m. what_is_awaited mask m.what) message false

-- the first of the queued messages that a process with this mask may take
abbrev pub first_awaited : OneKernel → ℕ → List MsgId → Option MsgId
first_awaited s mask queue = find (λ i. is_awaited mask (s.bag i)) queue

-- a process can be served: it isn't stopped, and it is ready, or a message that it waits for is queued
abbrev pub status_can_go : OneKernel → List MsgId → PlainStatus → Bool
status_can_go s queue Ready = true
status_can_go s queue (Waiting mask base cap_) = is_some (first_awaited s mask queue)
status_can_go s queue (Moving dir owner base own left pending) = false

abbrev pub can_go : OneKernel → List MsgId → Option PlainProcess → Bool
can_go s queue process = option_map_or (λ x. not x.stopped && status_can_go s queue x.status) process false

-- the first process of a ring that can be served
abbrev pub first_runnable : OneKernel → (Pid → List MsgId) → List Pid → Option Pid
first_runnable s queue ring = find (λ p. can_go s (queue p) (kernel.alive (s.processes p))) ring

-- how far a process comes: at most so many plain instructions, up to the first that isn't one
pub record Ran : Type 0 where
  pub count : ℕ
  pub machine : Machine

abbrev pub ran_one_more : Ran → Ran
ran_one_more r = record { count = r.count + 1; machine = r.machine }

abbrev pub ran : ℕ → Machine → Ran
ran zero m = record { count = 0; machine = m }
ran (suc k) m = option_map_or (λ n. ran_one_more (ran k n)) (plain_row (instruction m.regs m.bytes)) (record { count = 0; machine = m })

-- what a call or a fault says, a row an outcome, where this follows an end
abbrev pub called : Pid → ℕ → List Part → calls.Called → List Part
called p n over (calls.Replies reply x) = says (label.Call p n reply) ∷ []
called p n over (calls.Sends m x) = says (label.Send p m.id) ∷ Routes m.id ∷ []
called p n over (calls.Waits x) = says (label.Wait p) ∷ []
called p n over (calls.Outputs word x) = says (label.Out p word) ∷ []
called p n over (calls.Ends because) = says (label.End p because) ∷ over

abbrev pub stops : Pid → List Part → Option kernel.Trap → List Part
stops p over None = []
stops p over (Some (kernel.Calls n c)) = called p n over c
stops p over (Some (kernel.Faults fault)) = says (label.End p (why.Fault fault)) ∷ over

-- a ready process runs as far as the quantum allows; where it stops before, the call or fault follows
abbrev pub executes : ℕ → Pid → List Part → PlainProcess → Ran → List Part
executes quantum p over x r =
    says (label.Ran p r.count) ∷ (if r.count == quantum then [] else stops p over (kernel.next_row p (with_machine x r.machine) (instruction r.machine.regs r.machine.bytes)))

-- a waiting process takes the first queued message on its mask, or is refused it
abbrev pub completion_parts : Pid → MsgId → receiving.Completed → List Part
completion_parts p id (receiving.Receives x) = says (label.Receive p id) ∷ []
completion_parts p id (receiving.Refuses reply x) = says (label.Refuse p id reply) ∷ []

abbrev pub reception_parts : OneKernel → Pid → PlainProcess → Option MsgId → Option (List Part)
reception_parts s p x first = bind first (λ id. bind (s.bag id) (λ m. bind (receiving.completes_with p x m) (λ c. Some (completion_parts p id c))))

abbrev pub serves_status : ℕ → OneKernel → Pid → List MsgId → List Part → PlainProcess → PlainStatus → Option (List Part)
serves_status quantum s p queue over x Ready = Some (executes quantum p over x (ran quantum (machine_of x)))
serves_status quantum s p queue over x (Waiting mask base cap_) = reception_parts s p x (first_awaited s mask queue)
serves_status quantum s p queue over x (Moving dir owner base own left pending) = None

-- with an empty inbox the first process of the ring that can be served is served
abbrev pub goes_round : Boot → Point → ℕ → Option Pid → Option (List Part)
goes_round b pt m first =
    option_map_or (λ p. bind (kernel.alive (pt.kernel.processes p)) (λ x. serves_status b.quantum pt.kernel p (pt.view.queue m p) (ends_with pt m p) x x.status)) first (Some (Says (line.Idle m) ∷ []))

-- a process that is here, leaves or comes takes a slot
abbrev pub takes_room : Known → ℕ
takes_room Here = 1
takes_room (Frozen to) = 1
takes_room (Incoming from) = 1
takes_room k = 0

abbrev pub blocks_of : Option PlainProcess → ℕ
blocks_of process = option_map_or (λ x. length x.memory / 256) process 0

-- slots for processes, and blocks of memory
pub record Room : Type 0 where
  pub slots : ℕ
  pub blocks : ℕ

-- what one process takes on a machine
abbrev pub taken_by : Point → ℕ → Pid → Room
taken_by pt m p =
    record {
      slots = takes_room (pt.view.known m p);
      blocks = if takes_room (pt.view.known m p) == 0 then 0 else blocks_of (kernel.alive (pt.kernel.processes p));
    }

abbrev pub and : Room → Room → Room
and r t = record { slots = r.slots + t.slots; blocks = r.blocks + t.blocks }

-- the slots and blocks that the first n processes of a home take on a machine
abbrev pub taken_of_home : Point → ℕ → ℕ → ℕ → Room
taken_of_home pt m home zero = record { slots = 0; blocks = 0 }
taken_of_home pt m home (suc n) = and (taken_of_home pt m home n) (taken_by pt m (pid_of home (first_number + n)))

-- what the processes of the first homes take there
abbrev pub taken_at : Point → ℕ → ℕ → Room
taken_at pt m zero = record { slots = 0; blocks = 0 }
taken_at pt m (suc home) = and (taken_at pt m home) (taken_of_home pt m home (pt.kernel.made home))

abbrev pub free_of : Option BootMachine → Room → Room
free_of machine t = option_map_or (λ r. record { slots = r.slots - t.slots; blocks = r.blocks - t.blocks }) machine (record { slots = 0; blocks = 0 })

-- what is free of a machine: what it has, less what its processes take that are here, leaving or coming
abbrev pub free_room : Boot → Point → ℕ → Room
free_room b pt m = free_of (slice_get b.machines m) (taken_at pt m pt.kernel.machines)

abbrev pub has_room : Room → ℕ → Bool
has_room r blocks = nat_le 1 r.slots && nat_le blocks r.blocks

-- a kernel makes the process, or says what is free
abbrev pub creation_parts : Point → ℕ → MsgId → Room → Option BootImage → Option (List Part)
creation_parts pt m id r image =
    option_map (λ i. (if has_room r i.blocks then says (label.Created id (pid_of m (first_number + pt.kernel.made m))) else says (label.NoSpace id r.slots r.blocks)) ∷ Routes (answer_id id) ∷ []) image

abbrev pub kernel_handles : Boot → Point → ℕ → MsgId → PlainWhat → Option (List Part)
kernel_handles b pt m id (what.Create image links) = creation_parts pt m id (free_room b pt m) (slice_get b.images image)
kernel_handles b pt m id w = None

-- a message that a server sends
abbrev pub routes : Option PlainMessage → List Part
routes sent = option_map_or (λ m. Routes m.id ∷ []) sent []

abbrev pub board_took : MsgId → Option board.BoardTook → Option (List Part)
board_took id took = option_map (λ t. says (label.Took id) ∷ routes t.answer) took

abbrev pub manager_parts : MsgId → Option manage.ManagerTook → Option (List Part)
manager_parts id took = option_map (λ t. says (label.Took id) ∷ routes t.message) took

-- an answer comes to a data move: its next request goes out, or it is done
abbrev pub landing_parts : MsgId → Option pieces.Landed → Option (List Part)
landing_parts id None = None
landing_parts id (Some (pieces.Next request x)) = Some (says (label.Served id) ∷ Routes request.id ∷ [])
landing_parts id (Some (pieces.Done reply x)) = Some (says (label.Served id) ∷ [])

-- what a process's kernel does with a message for it, a row a sort; to where it is to move says the target
abbrev pub here_takes : Point → ℕ → MsgId → PlainMessage → PlainProcess → About → Sort → Option (List Part)
here_takes pt m id msg x target sort.Letter = Some (Says (line.Queued id) ∷ [])
here_takes pt m id msg x target sort.Holds = Some (says (label.Served id) ∷ [])
here_takes pt m id msg x target sort.Kills = Some (says (label.Served id) ∷ ends_with pt m msg.to)
here_takes pt m id msg x target sort.PieceAsked = Some (says (label.Served id) ∷ Routes (answer_id id) ∷ [])
here_takes pt m id msg x target sort.PieceAnswered = landing_parts id (pieces.lands msg.to x msg x.status)
here_takes pt m id msg x target sort.MoveAsked = Some (asked_to_move m id msg.to (target_in target))
here_takes pt m id msg x target s = None

abbrev pub here_handles : Point → ℕ → MsgId → PlainMessage → PlainProcess → PlainWhat → Option (List Part)
here_handles pt m id msg x w = here_takes pt m id msg x (move_target w) (sort_of (plain_kind w))

-- a message whose receiver has ended: a request that only a process can grant is answered, the others of these are dropped
abbrev pub ended_takes : MsgId → Sort → Option (List Part)
ended_takes id sort.PieceAsked = Some (says (label.Gone id) ∷ Routes (answer_id id) ∷ [])
ended_takes id sort.MoveAsked = Some (says (label.Gone id) ∷ Routes (answer_id id) ∷ [])
ended_takes id sort.Letter = Some (says (label.Dropped id) ∷ [])
ended_takes id sort.Holds = Some (says (label.Dropped id) ∷ [])
ended_takes id sort.Kills = Some (says (label.Dropped id) ∷ [])
ended_takes id sort.PieceAnswered = Some (says (label.Dropped id) ∷ [])
ended_takes id s = None

abbrev pub ended_handles : MsgId → PlainWhat → Option (List Part)
ended_handles id w = ended_takes id (sort_of (plain_kind w))

-- a message whose receiver is here: the switchboard, the manager, or another process
abbrev pub handles_here : Point → ℕ → MsgId → PlainMessage → Option (List Part)
handles_here pt m id msg =
    if pid_eq msg.to switchboard then board_took id (board.board_takes pt.kernel.switchboard msg msg.what)
    else if pid_eq msg.to manager then manager_parts id (manage.manager_takes pt.kernel.manager pt.kernel.machines (length pt.kernel.images) msg msg.what)
    else bind (kernel.alive (pt.kernel.processes msg.to)) (λ x. here_handles pt m id msg x msg.what)

-- by what the machine knows of the receiver
abbrev pub process_handles : Point → ℕ → MsgId → PlainMessage → Known → Option (List Part)
process_handles pt m id msg known = by_known pt id (plain_kind msg.what) msg.sender (handles_here pt m id msg) (ended_handles id msg.what) known

-- the receiver is a kernel, or a server or another process
abbrev pub handles : Boot → Point → ℕ → MsgId → PlainMessage → Option (List Part)
handles b pt m id msg = if msg.to.num == 0 then kernel_handles b pt m id msg.what else process_handles pt m id msg (pt.view.known m msg.to)

-- whether there is room for what has so many blocks, which for a server there always is, and what is free
abbrev pub fits : Room → ℕ → Bool × ℕ × ℕ
fits r blocks = ((blocks == 0) || has_room r blocks, r.slots, r.blocks)

-- a process is on its way here from this machine
abbrev pub is_waited_from : ℕ → Known → Bool
is_waited_from from Unknown = false
is_waited_from from Here = false
is_waited_from from (Frozen to) = false
is_waited_from from (Incoming m) = from == m
is_waited_from from (Forward at moves) = false

-- a piece of a process comes that isn't awaited from the kernel that sent it, whatever became of the process
abbrev pub is_stale : Point → ℕ → MsgId → MessageKind → Pid → Bool
is_stale pt m id k p = brings_piece (sort_of k) && not (is_waited_from id.from.home (pt.view.known m p))

-- what a kernel's own message says of a process to another kernel: that it has ended, or something of its migration
abbrev pub kernel_hears : Boot → Point → ℕ → MsgId → MessageKind → About → Option (List Part)
kernel_hears b pt m id k (Of p) =
    if tells_end (sort_of k) then Some (buried pt m id p)
    else if is_stale pt m id k p then Some (Says (line.Stale id) ∷ [])
    else bind (size_of pt.kernel p) (λ x. told_step pt m id p (fits (free_room b pt m) x.blocks) x (sort_of k))
kernel_hears b pt m id k about = None

-- a message that isn't in the bag is a kernel's own: what its first put told of it
abbrev pub hears : Boot → Point → ℕ → MsgId → Option Told → Option (List Part)
hears b pt m id told =
    bind told (λ t. if t.receiver.num == 0 then kernel_hears b pt m id t.kind t.about else process_told pt m id t (pt.view.known m t.receiver))

abbrev pub comes_to : Boot → Point → ℕ → MsgId → Option PlainMessage → Option (List Part)
comes_to b pt m id message = option_map_or (handles b pt m id) message (hears b pt m id (pt.view.told id))

abbrev pub turns : Boot → Point → ℕ → List MsgId → Option (List Part)
turns b pt m [] = goes_round b pt m (first_runnable pt.kernel (pt.view.queue m) (pt.view.ring m))
turns b pt m (i ∷ is) = comes_to b pt m i (pt.kernel.bag i)

abbrev pub repeats : ℕ → ℕ → List ℕ → List Part
repeats a b ns = map (λ n. Transmits a b (load.Data n)) ns

-- what is out and not acknowledged, on the pairs from a machine to the first n
abbrev pub outstanding_count : View → ℕ → ℕ → ℕ
outstanding_count v m n = sum_below (λ b. if m == b then 0 else (v.pair m b).gone - (v.pair m b).acked) n

abbrev pub resends : View → ℕ → ℕ → List Part
resends v m zero = []
resends v m (suc b) = resends v m b ++ (if m == b then [] else repeats m b (numbers_from (v.pair m b).acked ((v.pair m b).gone - (v.pair m b).acked)))

-- the numbers that a delivery takes: the one that has come, and those behind it that came early
abbrev pub has : ℕ → List ℕ → Bool
has n ks = list_any (λ k. n == k) ks

abbrev pub kept_from : List ℕ → ℕ → ℕ → List ℕ
kept_from kept n zero = []
kept_from kept n (suc k) = if has n kept then n ∷ kept_from kept (n + 1) k else []

abbrev pub taking_parts : ℕ → ℕ → List ℕ → List Part
taking_parts a b ns = map (λ n. Says (line.Taken a b n)) ns

abbrev pub takes_on : ℕ → ℕ → ℕ → List ℕ → List Part
takes_on a b n others = taking_parts a b (n ∷ others) ++ Transmits b a (load.Ack (n + 1 + length others)) ∷ []

abbrev pub less : ℕ → ℕ → ℕ
less m n = if nat_le m n then m else n

-- an acknowledgement lets messages go that waited, up to the window
abbrev pub let_go : Pair → ℕ → List ℕ
let_go p acked = numbers_from p.gone (less (length p.ids - p.gone) (acked + pair_window - p.gone))

-- a packet comes: for data the acknowledgement says how many have been taken then
abbrev pub comes : ℕ → ℕ → Pair → Pair → Load → List Part
comes a b there back (load.Data n) =
    if nat_lt n there.taken then Says (line.Old a b n) ∷ Transmits b a (load.Ack there.taken) ∷ []
    else if nat_lt there.taken n then Says (line.Early a b n) ∷ Transmits b a (load.Ack there.taken) ∷ []
    else takes_on a b n (kept_from there.kept (n + 1) pair_window)
comes a b there back (load.Ack n) = Says (line.Acked a b n) ∷ repeats b a (let_go back (at_least back.acked n))

abbrev pub arrives : ℕ → ℕ → Pair → Pair → Option SentLoad → List Part
arrives a b there back sent = option_map_or (λ s. comes a b there back s.load) sent (Says line.Nothing ∷ [])

-- what follows the head of each directive
abbrev pub outcome : Boot → Point → Step → Option (List Part)
outcome b pt (step.Turn m) = turns b pt m (pt.view.inbox m)
outcome b pt (step.Tick m) = Some (Says (line.Resent m (outstanding_count pt.view m pt.kernel.machines)) ∷ resends pt.view m pt.kernel.machines)
outcome b pt (step.Deliver a c k) = Some (arrives a c (pt.view.pair a c) (pt.view.pair c a) (slice_get (pt.view.pair a c).wire k))
outcome b pt (step.Migrate p m) = Some (migrates pt p)
outcome b pt (step.CallOff p m) = Some (calls_off pt m p (pt.view.known m p))

-- the group of a directive, and where it leads: its head, then what follows
abbrev pub group_of : Boot → Point → Step → Option Spelled
group_of b pt e =
    bind (outcome b pt e) (λ parts. bind (after_line pt (line.Head e)) (λ begun. bind (spelled begun parts) (λ w. Some (behind (line.Head e ∷ []) w))))
