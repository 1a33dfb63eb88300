-- A directive acts on one machine: it reads that machine alone, for a request to move also which machine has the manager, and at a
-- delivery the packet that comes; it changes that machine
-- alone; what it puts on wires goes from that machine; and so its lines are that machine's alone.
use Rattle.std.specs.Prelude.{◌≡◌, ◌≢◌, ℕ, ◌+◌, false, List, [], ◌∷◌, ◌++◌, length, map}
use Rattle.std.specs.List.{All}
use Rattle.std.specs.declared.option.Option.TheVariants.{None, Some}
use Rattle.dm_link.specs.declared.Pid.{Pid}
use Rattle.dm_wire.specs.Sent.{Sent, bytes_at}
use Rattle.dm_wire.specs.Wire.{after_mark}
use Rattle.dm_onekernel.specs.declared.boot.Boot.{Boot}
use Rattle.dm_schedule.specs.declared.Step.{Step}
use Rattle.dm_schedule.specs.declared.Step.TheVariants as step
use Rattle.dm_line.specs.declared.line.Line.{Line}
use Rattle.dm_line.specs.declared.line.Line.TheVariants as line
use Rattle.dm_node.specs.State.{here}
use Rattle.dm_world.specs.Local.{acts_on}
use Rattle.dm_world.specs.World.{WorldState, Said, Says, seat_of, world_step}

-- a packet that was never delivered
abbrev pub IsFresh : Sent → Type 0
IsFresh p = p.seen ≡ false

-- machine m may have changed, and has put these packets on its wires, behind those that were there
pub record PutsFrom (m : ℕ) (more : ℕ → List Sent) (old new : WorldState) : Type 0 where
  pub nodes : (n : ℕ) → n ≢ m → new.nodes n ≡ old.nodes n
  pub others : (a c : ℕ) → a ≢ m → new.wires a c ≡ old.wires a c
  pub own : (c : ℕ) → new.wires m c ≡ old.wires m c ++ more c
  pub fresh : (c : ℕ) → All IsFresh (more c)
  pub groups : new.groups ≡ old.groups + 1

-- a delivery marks its packet, if there is such a packet
abbrev pub marked_by : Step → WorldState → WorldState
marked_by (step.Turn m) w = w
marked_by (step.Tick m) w = w
marked_by (step.Deliver a c k) w = record w { wires = after_mark w.wires a c k }
marked_by (step.Migrate p m) w = w
marked_by (step.CallOff p m) w = w

-- a directive changes the machine that acts and no other; only that machine puts packets on wires, and none is taken off;
-- and but for the mark of a delivery nothing changes on wires
abbrev pub ActsLocally : Type 0
ActsLocally =
    (b : Boot) (w : WorldState) (e : Step) (s : Said) → here (w.nodes (acts_on b w e)) ≡ acts_on b w e → world_step b w e ≡ Some (Says s) → (more : ℕ → List Sent) × PutsFrom (acts_on b w e) more (marked_by e w) s.state

-- the packet that comes, where one comes, is the same
abbrev pub SamePacket : Step → WorldState → WorldState → Type 0
SamePacket (step.Turn m) w u = Unit {0}
SamePacket (step.Tick m) w u = Unit {0}
SamePacket (step.Deliver a c k) w u = bytes_at (u.wires a c) k ≡ bytes_at (w.wires a c) k
SamePacket (step.Migrate p m) w u = Unit {0}
SamePacket (step.CallOff p m) w u = Unit {0}

-- a line but for its packet's number, which is how many stand on the wire before it; a row a line
abbrev pub unnumbered : Line → Line
unnumbered (line.Packet a c k l) = line.Packet a c 0 l
unnumbered (line.Head d) = line.Head d
unnumbered (line.Idle m) = line.Idle m
unnumbered (line.Label l) = line.Label l
unnumbered (line.Put a c id k q) = line.Put a c id k q
unnumbered (line.Taken a c n) = line.Taken a c n
unnumbered (line.Old a c n) = line.Old a c n
unnumbered (line.Early a c n) = line.Early a c n
unnumbered (line.Acked a c n) = line.Acked a c n
unnumbered line.Nothing = line.Nothing
unnumbered (line.Resent m n) = line.Resent m n
unnumbered (line.Queued id) = line.Queued id
unnumbered (line.Held id) = line.Held id
unnumbered (line.Forwarded id m) = line.Forwarded id m
unnumbered (line.Updated id n) = line.Updated id n
unnumbered (line.Buried id n) = line.Buried id n
unnumbered (line.Migration s q) = line.Migration s q
unnumbered (line.SentOn q n) = line.SentOn q n
unnumbered (line.Called q n) = line.Called q n
unnumbered (line.Lacks q s t) = line.Lacks q s t
unnumbered (line.Stays q) = line.Stays q
unnumbered (line.Here id) = line.Here id
unnumbered (line.NoMove id) = line.NoMove id
unnumbered (line.Stale id) = line.Stale id
unnumbered (line.Proto id) = line.Proto id
unnumbered (line.NoChild q) = line.NoChild q
unnumbered (line.NoCall q) = line.NoCall q
unnumbered line.Away = line.Away

-- machine m has put as many packets on each of its wires
abbrev pub AsLong : ℕ → WorldState → WorldState → Type 0
AsLong m w u = (c : ℕ) → length (u.wires m c) ≡ length (w.wires m c)

-- the same machine does the same: it is the same behind it, has put the same packets on its wires, and says the same lines, with the
-- same numbers of packets where as many were on its wires
pub record DoesSame (b : Boot) (w u : WorldState) (e : Step) (s : Said) : Type 0 where
  pub said : Said
  pub happens : world_step b u e ≡ Some (Says said)
  pub node : said.state.nodes (acts_on b w e) ≡ s.state.nodes (acts_on b w e)
  pub more : ℕ → List Sent
  pub puts : PutsFrom (acts_on b w e) more (marked_by e w) s.state
  pub puts_there : PutsFrom (acts_on b w e) more (marked_by e u) said.state
  pub lines : map unnumbered said.lines ≡ map unnumbered s.lines
  pub exact : AsLong (acts_on b w e) w u → said.lines ≡ s.lines

-- whatever the other machines are, and whatever else lies on wires; but it is the same machine that acts, which for a request to move is
-- that where the manager is
abbrev pub ReadsLocally : Type 0
ReadsLocally =
    (b : Boot) (w u : WorldState) (e : Step) (s : Said) → here (w.nodes (acts_on b w e)) ≡ acts_on b w e → acts_on b u e ≡ acts_on b w e → u.nodes (acts_on b w e) ≡ w.nodes (acts_on b w e) → SamePacket e w u → world_step b w e ≡ Some (Says s) → DoesSame b w u e s

-- where no such packet is to be delivered, nothing changes
abbrev pub NothingComes : Type 0
NothingComes =
    (b : Boot) (w : WorldState) (a c k : ℕ) → bytes_at (w.wires a c) k ≡ None
    → world_step b w (step.Deliver a c k) ≡ Some (Says (record { state = record w { groups = w.groups + 1 }; lines = line.Head (step.Deliver a c k) ∷ line.Nothing ∷ [] }))

-- while the manager is on its way nothing is told to move, and nothing changes
abbrev pub AwayDoesNothing : Type 0
AwayDoesNothing =
    (b : Boot) (w : WorldState) (p : Pid) (m : ℕ) → seat_of (length b.machines) w.nodes ≡ None
    → world_step b w (step.Migrate p m) ≡ Some (Says (record { state = record w { groups = w.groups + 1 }; lines = line.Head (step.Migrate p m) ∷ line.Away ∷ [] }))
