-- The world stands for a point: each machine has exactly what the printed lines say of it, with the plain values of the kernel
-- without machines and the places of the addresses.
use Rattle.std.specs.Prelude.{◌≡◌, ◌≢◌, ⊤, ℕ, ◌<◌, ◌≤◌, Bool, false, is_some, List, [], length, map, take, drop, slice_get}
use Rattle.std.specs.List.{All}
use Rattle.std.specs.declared.option.Option.{Option}
use Rattle.std.specs.declared.option.Option.TheVariants.{None, Some}
use Rattle.dm_link.specs.declared.Pid.{Pid}
use Rattle.dm_message.specs.declared.Message.{Message}
use Rattle.dm_message.specs.declared.MsgId.{MsgId}
use Rattle.dm_message.specs.Lawful.{IsLawfulMessage}
use Rattle.dm_room.specs.Room.{Taken}
use Rattle.dm_records.specs.declared.record.Record.TheVariants as record_
use Rattle.dm_stream.specs.Packets as stream
use Rattle.dm_stream.specs.Receiving.{kept_under}
use Rattle.dm_stream.specs.Stream.{Stream}
use Rattle.dm_stream.specs.Order as order
use Rattle.dm_packet.specs.Packets.{spelling}
use Rattle.dm_wire.specs.Sent as wire
use Rattle.dm_migrate.specs.Cargo.{Cargo, cargo_of}
use Rattle.dm_migrate.specs.Departure.{CanMove, Departure}
use Rattle.dm_resident.specs.declared.Resident.{Resident}
use Rattle.dm_resident.specs.Residents.{queue_of, with_queue}
use Rattle.dm_migrate.specs.Arrival.{Arrival}
use Rattle.dm_migrate.specs.Way.{IsOfSystem, coming}
use Rattle.dm_onekernel.specs.declared.boot.Boot.{Boot}
use Rattle.dm_onekernel.specs.Step as kernel
use Rattle.dm_kernel.specs.State as machine
use Rattle.dm_kernel.specs.State.{KernelState}
use Rattle.dm_kernel.specs.Begun.{room_of}
use Rattle.dm_kernel.specs.Lawful.{IsLawfulState}
use Rattle.dm_kernel.specs.May.{IsSuch}
use Rattle.dm_node.specs.State.{NodeState}
use Rattle.dm_node.specs.Out.{packet_of_load}
use Rattle.dm_line.specs.declared.line.Load.{Load}
use Rattle.dm_line.specs.declared.line.Load.TheVariants as load
use Rattle.dm_law_rule.specs.View.{SentLoad, Known, Unknown, Here, Frozen, Incoming, Forward}
use Rattle.dm_law_rule.specs.Point.{Point}
use Rattle.dm_law_rule.specs.Rule.{Room, taken_at, has}
use Rattle.dm_law_places.specs.Placed.{Placed, Mirrors}
use Rattle.dm_world.specs.World.{WorldState}
use Rattle.dm_law_mirror.specs.Own.{AllOwnStand}
use Rattle.dm_law_mirror.specs.Tokens.{TokensStand, cargo_at, resident_at}

-- these are the messages with these names
abbrev pub AreMessages : (MsgId → Option Message) → List MsgId → List Message → Type 0
AreMessages bag ids ms = map bag ids ≡ map Some ms

-- what is here is what the kernel with places has, but for its queue, which holds the messages that the lines say
abbrev pub HereStands : Placed → Pid → List MsgId → Resident → Type 0
HereStands l p queue r = ((q : List Message) × (resident_at l p ≡ Some (with_queue q r))) × AreMessages l.bag queue (queue_of r)

-- what leaves for a machine is held back there, and can be carried whole
pub record LeavesStand (l : Placed) (p : Pid) (queue held_ : List MsgId) (at : ℕ) (d : Departure) : Type 0 where
  pub to : d.to ≡ at
  -- what moves, and so who waits to hear of it
  pub cargo : cargo_at l p ≡ Some (cargo_of d.resident d.asker)
  pub here : HereStands l p queue d.resident
  pub held : AreMessages l.bag held_ d.held
  pub whole : CanMove d.resident

-- it can be carried whole, whatever waits for it, to a machine of a system with tables of so many slots, so many machines and images
abbrev pub CanBeCarried : ℕ → ℕ → ℕ → Resident → Type 0
CanBeCarried cap machines images r = CanMove (with_queue [] r) × IsOfSystem cap machines images r

-- of what comes there are the pieces up to the one that is asked for
pub record ComesStand (l : Placed) (p : Pid) (from : ℕ) (held_ : List MsgId) (a : Arrival) : Type 0 where
  pub source : a.source ≡ from
  pub cargo : Cargo
  pub there : cargo_at l p ≡ Some cargo
  pub whole : IsSuch (CanBeCarried a.cap l.manager.machines l.manager.images) (resident_at l p)
  pub pieces : a ≡ coming cargo a.source a.cap a.held a.wanted
  pub held : AreMessages l.bag held_ a.held

-- what a machine knows of a process or a server is what the lines say
abbrev pub KnownStands : Placed → Pid → List MsgId → List MsgId → Known → Option machine.KernelKnown → Type 0
KnownStands l p queue held Unknown None = ⊤
KnownStands l p queue held Here (Some (record_.Here x)) = HereStands l p queue x
KnownStands l p queue held (Frozen to) (Some (record_.Frozen d)) = LeavesStand l p queue held to d
KnownStands l p queue held (Incoming from) (Some (record_.Incoming a)) = ComesStand l p from held a
KnownStands l p queue held (Forward at moves) (Some (record_.Forward to count)) = (to ≡ at) × (count ≡ moves)
KnownStands l p queue held k r = ⊥

-- the room is the boot file's, and what is taken is what the processes of the lines take
pub record RoomStands (t given : Taken) (r : Room) : Type 0 where
  pub slots : t.slots ≡ given.slots
  pub blocks : t.blocks ≡ given.blocks
  pub taken_slots : t.taken_slots ≡ r.slots
  pub taken_blocks : t.taken_blocks ≡ r.blocks

-- the predecessors of each process are those of the lines, and machines that there are
pub record PredsStand (b : Boot) (said kept : Pid → ℕ → Bool) : Type 0 where
  pub same : (p : Pid) → kept p ≡ said p
  pub within : (p : Pid) (n : ℕ) → length b.machines ≤ n → kept p n ≡ false

-- the kernel of machine m
pub record KernelStands (b : Boot) (pt : Point) (l : Placed) (m : ℕ) (k : KernelState) : Type 0 where
  pub here : k.here ≡ m
  pub known : (p : Pid) → KnownStands l p (pt.view.queue m p) (pt.view.held m p) (pt.view.known m p) (k.records p)
  pub preds : PredsStand b (pt.view.preds m) k.preds
  pub ring : k.ring ≡ pt.view.ring m
  pub inbox : AreMessages l.bag (pt.view.inbox m) k.inbox
  pub made : k.made ≡ pt.kernel.made m
  pub room : RoomStands k.room (room_of (slice_get b.machines m)) (taken_at pt m pt.kernel.machines)

-- machine m, but for its streams
pub record NodeStands (b : Boot) (pt : Point) (l : Placed) (m : ℕ) (n : NodeState) : Type 0 where
  pub kernel : KernelStands b pt l m n.kernel
  -- what can be carried to other machines and put into packets
  pub lawful : IsLawfulState n.kernel
  pub machines : n.machines ≡ pt.kernel.machines
  pub numbers : n.numbers ≡ b.numbers
  pub home : n.home ≡ length (pt.view.pair m m).ids

-- what lies on the wire from a to c, as bytes and as the lines say
abbrev pub bytes_of : ℕ → ℕ → stream.Packet Message → wire.Sent
bytes_of a c p = record { bytes = spelling (packet_of_load a c p.load); seen = p.delivered }

abbrev pub load_of : stream.Load Message → Load
load_of (stream.Data n m) = load.Data n
load_of (stream.Ack n) = load.Ack n

abbrev pub line_of : stream.Packet Message → SentLoad
line_of p = record { load = load_of p.load; delivered = p.delivered }

-- the messages that were ever routed from one machine to another, and the packets that were ever put on its wire
pub record History : Type 0 where
  pub given : ℕ → ℕ → List Message
  pub packets : ℕ → ℕ → List (stream.Packet Message)

-- both ends of the stream from a to c
abbrev pub stream_of : WorldState → History → ℕ → ℕ → Stream Message
stream_of w h a c =
    record {
      sender = (w.nodes a).senders c;
      receiver = (w.nodes c).receivers a;
      given = h.given a c;
      taken = take ((w.nodes c).receivers a).count (h.given a c);
      out = h.packets a c;
      back = h.packets c a;
    }

abbrev pub message_id : Message → MsgId
message_id m = m.id

-- the pair of machine a with another machine c
pub record PairStands (b : Boot) (pt : Point) (l : Placed) (w : WorldState) (h : History) (a c : ℕ) : Type 0 where
  pub stream : order.StreamStands (stream_of w h a c)
  pub ids : map message_id (h.given a c) ≡ (pt.view.pair a c).ids
  pub untaken : AreMessages l.bag (drop (pt.view.pair a c).taken (pt.view.pair a c).ids) (drop (pt.view.pair a c).taken (h.given a c))
  pub taken : ((w.nodes c).receivers a).count ≡ (pt.view.pair a c).taken
  pub gone : ((w.nodes a).senders c).gone ≡ (pt.view.pair a c).gone
  pub acked : ((w.nodes a).senders c).acked ≡ (pt.view.pair a c).acked
  pub numbers : ((w.nodes a).senders c).numbers ≡ b.numbers
  pub kept : (n : ℕ) → is_some (kept_under ((w.nodes c).receivers a) n) ≡ has n (pt.view.pair a c).kept
  pub packets : map line_of (h.packets a c) ≡ (pt.view.pair a c).wire
  pub bytes : w.wires a c ≡ map (bytes_of a c) (h.packets a c)
  pub lawful : All IsLawfulMessage (h.given a c)

-- the world stands for the point, with this kernel with places and this history
pub record StandsWith (b : Boot) (w : WorldState) (pt : Point) (l : Placed) (h : History) : Type 0 where
  pub mirrors : Mirrors pt.kernel pt.view pt.addresses l
  pub groups : w.groups ≡ pt.view.groups
  -- why each process ended that has
  pub ended : (p : Pid) → w.ended p ≡ kernel.why_ended (pt.kernel.processes p)
  pub nodes : (m : ℕ) → m < pt.kernel.machines → NodeStands b pt l m (w.nodes m)
  pub pairs : (a c : ℕ) → a < pt.kernel.machines → c < pt.kernel.machines → a ≢ c → PairStands b pt l w h a c
  -- no pair counts more messages than it may
  pub counts : (a c : ℕ) → length (pt.view.pair a c).ids ≤ b.numbers
  -- the kernels' own messages, and those of them that carry what moves
  pub own : AllOwnStand pt.view l
  pub tokens : TokensStand pt.view l (λ m. (w.nodes m).kernel.records)

-- each machine has counted its kernel's own messages as the lines have
abbrev pub CountsStand : WorldState → Point → Type 0
CountsStand w pt = (m : ℕ) → m < pt.kernel.machines → (w.nodes m).kernel.sent ≡ pt.view.count m

abbrev pub Stands : Boot → WorldState → Point → Type 0
Stands b w pt = ((l : Placed) × (h : History) × StandsWith b w pt l h) × CountsStand w pt
