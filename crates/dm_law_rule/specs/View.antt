-- The view: what the printed lines say of machines, pairs, inboxes, rings and queues, folded line by line.
use Rattle.std.specs.Prelude.{ℕ, ◌+◌, Bool, true, false, not, ◌==◌, ◌&&◌, ◌||◌, nat_le, if◌then◌else◌, is_none, option_map, option_and_then, List, [], ◌∷◌, ◌++◌, drop, filter, slice_get, slice_set}
use Rattle.std.specs.Option.{option_map_or}
-- a message's first put says what it is
pub use Rattle.std.specs.Option.{unwrap_or as first_told}
use Rattle.std.specs.declared.option.Option.{Option}
use Rattle.std.specs.declared.option.Option.TheVariants.{None, Some}
use Rattle.dm_link.specs.declared.Pid.{Pid}
use Rattle.dm_link.specs.Names.{pid_of, pid_eq}
use Rattle.dm_message.specs.declared.MsgId.{MsgId}
use Rattle.dm_message.specs.declared.kind.MessageKind.{MessageKind}
use Rattle.dm_message.specs.Sorts.{Sort, sort_of}
use Rattle.dm_message.specs.Sorts as sort
use Rattle.dm_message.specs.Ids.{id_of}
use Rattle.dm_onekernel.specs.declared.boot.BootProcess.{BootProcess}
use Rattle.dm_onekernel.specs.declared.boot.Boot.{Boot}
use Rattle.dm_onekernel.specs.Boot.{switchboard, manager}
use Rattle.dm_onekernel.specs.declared.label.Label.{Label}
use Rattle.dm_onekernel.specs.declared.label.Label.TheVariants as label
use Rattle.dm_schedule.specs.declared.Step.{Step}
use Rattle.dm_schedule.specs.declared.Step.TheVariants as step
use Rattle.dm_line.specs.declared.line.Line.{Line}
use Rattle.dm_line.specs.declared.line.Line.TheVariants as line
use Rattle.dm_line.specs.declared.line.Load.{Load}
use Rattle.dm_line.specs.declared.line.Load.TheVariants as load
use Rattle.dm_line.specs.declared.line.Stage.{Stage}
use Rattle.dm_line.specs.declared.line.Stage.TheVariants as stage
use Rattle.dm_line.specs.Sets.{at_machine, at_pair, at_id, at_pid, at_record, without, moved_back, without_id, without_front}

-- what a machine knows of a process or a server
pub data Known : Type 0 where
  Unknown : Known
  Here : Known
  Frozen : (to : ℕ) → Known
  Incoming : (from : ℕ) → Known
  Forward : (at : ℕ) → (moves : ℕ) → Known

-- a packet of a wire
pub record SentLoad : Type 0 where
  pub load : Load
  pub delivered : Bool

-- a pair of machines: all messages that were routed, in order; how many of them were taken, have gone out, and are
-- acknowledged; the numbers that came early and are kept; all packets that were put on its wire
pub record Pair : Type 0 where
  pub ids : List MsgId
  pub taken : ℕ
  pub gone : ℕ
  pub acked : ℕ
  pub kept : List ℕ
  pub wire : List SentLoad

-- what a kernel's own message is about: a machine, a process, or a process and the place where it is
pub data About : Type 0 where
  NothingElse : About
  Target : (machine : ℕ) → About
  Of : (process : Pid) → About
  Place : (process : Pid) → (at : ℕ) → (moves : ℕ) → About

-- what a message's first put says of it
pub record Told : Type 0 where
  pub kind : MessageKind
  pub receiver : Pid
  pub about : About

-- what the lines so far say of the machines: which one acts, their pairs and wires, inboxes, rings, queues and held messages,
-- and what each knows of each process
pub record View : Type 0 where
  -- the machine of the last head
  pub acting : ℕ
  pub groups : ℕ
  pub pair : ℕ → ℕ → Pair
  -- for each machine
  pub inbox : ℕ → List MsgId
  pub ring : ℕ → List Pid
  pub count : ℕ → ℕ
  -- for each machine and process
  pub known : ℕ → Pid → Known
  pub queue : ℕ → Pid → List MsgId
  pub held : ℕ → Pid → List MsgId
  -- its predecessors: the other machines that may forward what comes for the process to this one
  pub preds : ℕ → Pid → ℕ → Bool
  -- how often a process has moved, and how many pieces of it have been asked for since it was last accepted
  pub moves : Pid → ℕ
  pub asked : Pid → ℕ
  -- whether all of a process has come to the machine that accepted it last
  pub come : Pid → Bool
  -- the machine where the process manager is, or was last
  pub seat : ℕ
  pub told : MsgId → Option Told
  -- what the outcome line of this group was about
  pub topic : About

-- the switchboard, or the manager
abbrev pub is_server : Pid → Bool
is_server p = pid_eq p switchboard || pid_eq p manager

-- the next message of the acting machine's kernel
abbrev pub own_id : View → MsgId
own_id v = id_of (pid_of v.acting 0) (v.count v.acting)

-- the message at the front of the acting machine's inbox goes
abbrev pub handled : View → MsgId → View
handled v id = record v { inbox = at_machine v.inbox v.acting (without_front id (v.inbox v.acting)) }

abbrev pub handled_first : View → View
handled_first v = record v { inbox = at_machine v.inbox v.acting (drop 1 (v.inbox v.acting)) }

abbrev pub knowing : View → Pid → Known → View
knowing v p k = record v { known = at_record v.known v.acting p k }

abbrev pub with_ring : View → List Pid → View
with_ring v ring = record v { ring = at_machine v.ring v.acting ring }

abbrev pub about : View → About → View
about v a = record v { topic = a }

abbrev pub receiver_of : Option Told → Option Pid
receiver_of told = option_map (λ t. t.receiver) told

-- a process that a message names, in the acting machine's queues or held lists
abbrev pub queued_for : View → MsgId → Option Pid → View
queued_for v id to = option_map_or (λ p. record v { queue = at_record v.queue v.acting p (v.queue v.acting p ++ id ∷ []) }) to v

abbrev pub held_for : View → MsgId → Option Pid → View
held_for v id to = option_map_or (λ p. record v { held = at_record v.held v.acting p (v.held v.acting p ++ id ∷ []) }) to v

abbrev pub dropped_for : View → MsgId → Option Pid → View
dropped_for v id to = option_map_or (λ p. record v { queue = at_record v.queue v.acting p (without_front id (v.queue v.acting p)) }) to v

-- one machine more is a predecessor
abbrev pub added : ℕ → (ℕ → Bool) → ℕ → Bool
added m preds n = (m == n) || preds n

abbrev pub with_preds : View → Pid → (ℕ → Bool) → View
with_preds v p preds = record v { preds = at_record v.preds v.acting p preds }

abbrev pub with_pred : View → Pid → ℕ → View
with_pred v p m = with_preds v p (added m (v.preds v.acting p))

-- the acting machine forgets a process
abbrev pub nobody : ℕ → Bool
nobody n = false

abbrev pub forgetting : View → Pid → View
forgetting v p = with_preds (knowing v p Unknown) p nobody

-- a process is served, and goes to the ring's back
abbrev pub serving : View → Pid → View
serving v p = with_ring v (moved_back p (v.ring v.acting))

-- a process that ends leaves the ring, and its machine forgets it
abbrev pub ended : View → Pid → View
ended v p = about (forgetting (with_ring v (without p (v.ring v.acting))) p) (Of p)

-- what a message is about is forgotten, where that is a process alone
abbrev pub forgotten : View → About → View
forgotten v NothingElse = v
forgotten v (Target m) = v
forgotten v (Of p) = about (forgetting v p) (Of p)
forgotten v (Place p at moves) = v

abbrev pub buried_for : View → Option Told → View
buried_for v told = option_map_or (λ t. forgotten v t.about) told v

-- of the messages that a kernel serves, only a kill ends the receiver
abbrev pub ends_by : Sort → View → Option Pid → View
ends_by sort.Kills v (Some p) = ended v p
ends_by s v p = v

abbrev pub served_told : View → Option Told → View
served_told v told = option_map_or (λ t. ends_by (sort_of t.kind) v (Some t.receiver)) told v

-- a row a label
abbrev pub after_label : View → Label → View
after_label v (label.Ran p k) = serving v p
after_label v (label.Call p n c) = v
after_label v (label.Send p id) = v
after_label v (label.Wait p) = v
after_label v (label.Out p w) = v
after_label v (label.End p y) = ended v p
after_label v (label.Receive p id) = record (serving v p) { queue = at_record v.queue v.acting p (without_id id (v.queue v.acting p)) }
after_label v (label.Refuse p id c) = serving v p
after_label v (label.Dropped id) = dropped_for (handled v id) id (receiver_of (v.told id))
after_label v (label.Served id) = served_told (handled v id) (v.told id)
after_label v (label.Gone id) = handled v id
after_label v (label.Took id) = handled v id
after_label v (label.Created id p) = with_ring (knowing (handled v id) p Here) (v.ring v.acting ++ p ∷ [])
after_label v (label.NoSpace id s b) = handled v id
after_label v (label.Asked id) = handled v id
after_label v (label.Answered id o) = v

abbrev pub with_pair : View → ℕ → ℕ → Pair → View
with_pair v a b p = record v { pair = at_pair v.pair a b p }

-- a route: on the pair of a machine with itself the message is taken at once, and enters the inbox
abbrev pub routed_on : ℕ → ℕ → Pair → MsgId → Pair
routed_on a b p id =
    record p { ids = p.ids ++ id ∷ []; taken = if a == b then p.taken + 1 else p.taken; gone = if a == b then p.gone + 1 else p.gone; acked = if a == b then p.acked + 1 else p.acked }

-- a kernel's own message, and no answer
abbrev pub is_kernels : MsgId → Bool
is_kernels id = (id.from.num == 0) && not id.answer

-- it is counted when it is first routed
abbrev pub is_own : MsgId → Option Told → Bool
is_own id told = is_none told && is_kernels id

abbrev pub after_put : View → ℕ → ℕ → MsgId → MessageKind → Pid → View
after_put v a b id k q =
    record (with_pair v a b (routed_on a b (v.pair a b) id)) {
      inbox = if a == b then at_machine v.inbox b (v.inbox b ++ id ∷ []) else v.inbox;
      count = if is_own id (v.told id) then at_machine v.count id.from.home (v.count id.from.home + 1) else v.count;
      told = at_id v.told id (Some (first_told (v.told id) (record { kind = k; receiver = q; about = v.topic })));
    }

-- a packet: data that goes out for the first time is the next of its pair
abbrev pub gone_after : Load → ℕ → ℕ
gone_after (load.Data n) gone = if n == gone then gone + 1 else gone
gone_after (load.Ack n) gone = gone

abbrev pub after_packet : View → ℕ → ℕ → Load → View
after_packet v a b l =
    with_pair v a b (record (v.pair a b) { gone = gone_after l (v.pair a b).gone; wire = (v.pair a b).wire ++ record { load = l; delivered = false } ∷ [] })

-- the oldest message that was not taken yet
abbrev pub oldest : Pair → Option MsgId
oldest p = slice_get p.ids p.taken

abbrev pub taken_id : View → ℕ → Option MsgId → View
taken_id v b first = option_map_or (λ id. record v { inbox = at_machine v.inbox b (v.inbox b ++ id ∷ []) }) first v

abbrev pub after_taken : View → ℕ → ℕ → ℕ → View
after_taken v a b n =
    let p = v.pair a b in
    taken_id (with_pair v a b (record p { taken = p.taken + 1; kept = filter (λ k. not (k == n)) p.kept })) b (oldest p)

abbrev pub after_early : View → ℕ → ℕ → ℕ → View
after_early v a b n = with_pair v a b (record (v.pair a b) { kept = n ∷ filter (λ k. not (k == n)) (v.pair a b).kept })

-- the greater of two numbers
abbrev pub at_least : ℕ → ℕ → ℕ
at_least m n = if nat_le n m then m else n

-- an acknowledgement from A is of the stream that leads to A
abbrev pub after_acked : View → ℕ → ℕ → ℕ → View
after_acked v a b n = with_pair v b a (record (v.pair b a) { acked = at_least (v.pair b a).acked n })

-- the packet of a delivery is marked
abbrev pub marked_at : List SentLoad → ℕ → Option SentLoad → List SentLoad
marked_at wire k sent = option_map_or (λ s. slice_set wire k (record s { delivered = true })) sent wire

abbrev pub marked : Pair → ℕ → Pair
marked p k = record p { wire = marked_at p.wire k (slice_get p.wire k) }

-- it is here
abbrev pub is_here : Known → Bool
is_here Here = true
is_here k = false

-- the manager is here on a machine, and so on its seat
abbrev pub has_seat : View → Bool
has_seat v = is_here (v.known v.seat manager)

-- the machine that a directive acts on: that where the manager is, for a request to move; where it is on its way no machine acts, and
-- the lines are machine 0's
abbrev pub actor : View → Step → ℕ
actor v (step.Turn m) = m
actor v (step.Tick m) = m
actor v (step.Deliver a b k) = b
actor v (step.Migrate p m) = if has_seat v then v.seat else 0
actor v (step.CallOff p m) = m

abbrev pub begins : View → ℕ → About → View
begins v m a = record v { acting = m; groups = v.groups + 1; topic = a }

abbrev pub after_head : View → Step → View
after_head v (step.Turn m) = begins v m NothingElse
after_head v (step.Tick m) = begins v m NothingElse
after_head v (step.Deliver a b k) = with_pair (begins v b NothingElse) a b (marked (v.pair a b) k)
after_head v (step.Migrate p m) = begins v (actor v (step.Migrate p m)) (Target m)
after_head v (step.CallOff p m) = begins v m NothingElse

abbrev pub target_in : About → ℕ
target_in (Target m) = m
target_in a = 0

abbrev pub target_of : Option Told → ℕ
target_of told = option_map_or (λ t. target_in t.about) told 0

abbrev pub front_of : List MsgId → ℕ
front_of ids = option_map_or (λ i. i.from.home) (slice_get ids 0) 0

-- where the acting machine sends what comes for a process on to
abbrev pub forward_about : Pid → Known → About
forward_about p (Forward at moves) = Place p at moves
forward_about p k = NothingElse

abbrev pub forwarded_for : View → Option Pid → View
forwarded_for v to = option_map_or (λ p. about v (forward_about p (v.known v.acting p))) to v

-- the held messages come to the front of the inbox
abbrev pub released : View → Pid → View
released v p =
    record v { inbox = at_machine v.inbox v.acting (v.held v.acting p ++ v.inbox v.acting); held = at_record v.held v.acting p [] }

-- a process is here, at the ring's back; a server stands in no ring, and where the manager is, is its seat
abbrev pub ring_with : List Pid → Pid → List Pid
ring_with ring p = if is_server p then ring else ring ++ p ∷ []

abbrev pub seated : View → Pid → View
seated v p = record v { seat = if pid_eq p manager then v.acting else v.seat }

abbrev pub rejoins : View → Pid → View
rejoins v p = released (seated (with_ring (knowing v p Here) (ring_with (v.ring v.acting) p)) p) p

abbrev pub gone_to : Known → ℕ → Known
gone_to (Frozen to) moves = Forward to moves
gone_to k moves = k

-- a process that was coming is with the machine that it was to leave, where it has moved as often as before
abbrev pub goes_back : Known → ℕ → Known
goes_back Unknown moves = Unknown
goes_back Here moves = Here
goes_back (Frozen to) moves = Frozen to
goes_back (Incoming from) moves = Forward from moves
goes_back (Forward at n) moves = Forward at n

-- a destination tells the source that it has called a migration off
abbrev pub tells_calloff : Sort → Bool
tells_calloff (sort.Between sort.CallOff) = true
tells_calloff s = false

abbrev pub is_calloff : MessageKind → Bool
is_calloff k = tells_calloff (sort_of k)

-- a process stays where it was: behind a calling off, the machine that sent the message at the front forwards to this one from now on
abbrev pub with_caller : Bool → ℕ → (ℕ → Bool) → ℕ → Bool
with_caller called m preds n = (called && (m == n)) || preds n

abbrev pub calls_back : Option Told → Bool
calls_back told = option_map_or (λ t. is_calloff t.kind) told false

abbrev pub front_told : View → Option Told
front_told v = option_and_then v.told (slice_get (v.inbox v.acting) 0)

abbrev pub staying : View → Pid → View
staying v p = with_preds v p (with_caller (calls_back (front_told v)) (front_of (v.inbox v.acting)) (v.preds v.acting p))

-- whether all of a process has come
abbrev pub coming : View → Pid → Bool → View
coming v p c = record v { come = at_pid v.come p c }

-- one more piece of a process is asked for
abbrev pub asking : View → Pid → ℕ → View
asking v p n = record v { asked = at_pid v.asked p n }

abbrev pub asks_on : View → About → View
asks_on v (Of p) = asking v p (v.asked p + 1)
asks_on v a = v

-- a piece that isn't the last is followed by the next
abbrev pub follows_by : View → About → Sort → View
follows_by v a (sort.Between sort.State) = asks_on v a
follows_by v a (sort.Between sort.Memory) = asks_on v a
follows_by v a s = v

abbrev pub after_proto : View → Option Told → View
after_proto v told = option_map_or (λ t. about (follows_by v t.about (sort_of t.kind)) t.about) told (about v NothingElse)

-- a process is frozen that is to go to this machine
abbrev pub frozen_for : View → Pid → ℕ → View
frozen_for v p m = about (with_ring (knowing v p (Frozen m)) (without p (v.ring v.acting))) (Of p)

-- where the group has said already that the process is asked to move, its topic is that machine, and the message has gone from the
-- inbox; else the message at the front tells where
abbrev pub sets_off : View → Pid → About → View
sets_off v p (Target m) = frozen_for v p m
sets_off v p a = frozen_for (handled_first v) p (target_of (option_and_then v.told (slice_get (v.inbox v.acting) 0)))

-- the last chunk of a server is its last piece: step 5 follows at once, and handles it
abbrev pub handled_for : View → Pid → View
handled_for v p = record v { inbox = if is_server p then v.inbox else (handled_first v).inbox }

-- steps of migrations: 1, 3, 4, 5 and 8 handle the message at the front, but for step 1 of a process that is asked to move, and step 4 of
-- a server
abbrev pub after_stage : View → Pid → Stage → View
after_stage v p stage.Frozen = sets_off v p v.topic
after_stage v p stage.Asked = v
after_stage v p stage.Accepted =
    about (coming (asking (with_pred (knowing (handled_first v) p (Incoming (front_of (v.inbox v.acting)))) p (front_of (v.inbox v.acting))) p 1) p false) (Of p)
after_stage v p stage.StateTaken = about (asking (handled_for v p) p (v.asked p + 1)) (Of p)
after_stage v p stage.MemoryTaken = about (coming (handled_first v) p true) (Of p)
after_stage v p stage.Left = about (knowing v p (gone_to (v.known v.acting p) (v.moves p + 1))) (Of p)
after_stage v p stage.Restarted = record (rejoins (handled_first v) p) { moves = at_pid v.moves p (v.moves p + 1) }

-- a row a line
abbrev pub view_after : View → Line → View
view_after v (line.Head s) = after_head v s
view_after v (line.Idle m) = v
view_after v (line.Label l) = after_label v l
view_after v (line.Put a b id k q) = after_put v a b id k q
view_after v (line.Packet a b k l) = after_packet v a b l
view_after v (line.Taken a b n) = after_taken v a b n
view_after v (line.Old a b n) = v
view_after v (line.Early a b n) = after_early v a b n
view_after v (line.Acked a b n) = after_acked v a b n
view_after v line.Nothing = v
view_after v (line.Resent m n) = v
view_after v (line.Queued id) = queued_for (handled v id) id (receiver_of (v.told id))
view_after v (line.Held id) = held_for (handled v id) id (receiver_of (v.told id))
view_after v (line.Forwarded id m) = forwarded_for (handled v id) (receiver_of (v.told id))
view_after v (line.Updated id n) = handled v id
view_after v (line.Buried id n) = buried_for (handled v id) (v.told id)
view_after v (line.Migration s p) = after_stage v p s
view_after v (line.SentOn p n) =
    about (record (handled_first v) { queue = at_record v.queue v.acting p []; held = at_record v.held v.acting p [] }) (Of p)
view_after v (line.Called p n) =
    about (record (knowing v p (goes_back (v.known v.acting p) (v.moves p))) { held = at_record v.held v.acting p [] }) (Of p)
view_after v (line.Lacks p s b) = about (handled_first v) (Of p)
view_after v (line.Stays p) = rejoins (handled_first (staying v p)) p
view_after v (line.Here id) = handled v id
view_after v (line.NoMove id) = handled v id
view_after v (line.Stale id) = handled v id
view_after v (line.Proto id) = after_proto (handled v id) (v.told id)
view_after v (line.NoChild p) = v
view_after v line.Away = v
view_after v (line.NoCall p) = v

-- the processes of the boot file are where they start, and the servers on machine 0
abbrev pub known_at : List BootProcess → ℕ → Pid → Known
known_at [] m q = if (m == 0) && (pid_eq q switchboard || pid_eq q manager) then Here else Unknown
known_at (p ∷ ps) m q = if pid_eq p.pid q && (p.pid.home == m) then Here else known_at ps m q

abbrev pub ring_at : List BootProcess → ℕ → List Pid
ring_at [] m = []
ring_at (p ∷ ps) m = if p.pid.home == m then p.pid ∷ ring_at ps m else ring_at ps m

-- the view before the first line
abbrev pub first_view : Boot → View
first_view b =
    record {
      acting = 0;
      groups = 0;
      pair = λ m n. record { ids = []; taken = 0; gone = 0; acked = 0; kept = []; wire = [] };
      inbox = λ m. [];
      ring = ring_at b.processes;
      count = λ m. 0;
      known = known_at b.processes;
      queue = λ m p. [];
      held = λ m p. [];
      preds = λ m p n. false;
      moves = λ p. 0;
      asked = λ p. 0;
      come = λ p. false;
      seat = 0;
      told = λ i. None;
      topic = NothingElse;
    }
