-- What a directive needs so that the machines do what the rule says: a process that it freezes can be carried whole, and what it puts on
-- wires is read again.
use Rattle.dm_law_mirror.proofs.Names.{◌≡◌, ℕ, List, sym, subst, Pid, length, inl, inr, Option, None, Some, Result, Err, Packet, PacketError, packet_of, bytes_at, Boot, Step, Line}
use Rattle.dm_law_mirror.proofs.Names.{Acts, Goes, Worn, WorldState, world_step, keeps_over, delivers, reads, gave, gave_some, AreReadBack, AreWhole, SamePacket}
use Rattle.dm_world.proofs.Names.{Ok}
use Rattle.dm_wire.specs.Wire.{after_mark}
use Rattle.dm_world.specs.Local.{acts_on}
use Rattle.dm_world.specs.Readable.{gave_at}
use Rattle.dm_world.specs.World.{WornOut, asks_at, seat_of, turned}
use Rattle.dm_node.specs.Acts as node
use Rattle.dm_run.specs.Went.{Does, WearsBy}
use Rattle.dm_explore.specs.Places.{Place}
use Rattle.dm_explore.specs.Search.{Taken}
use Rattle.dm_law_runs.proofs.Choices.Neighbours.Acting.{SameSeat, gives_same, whole_same}

pub record IsFine (b : Boot) (w : WorldState) (e : Step) : Type 0 where
  pub whole : AreWhole w e
  pub again : AreReadBack (gave b w e)

pub does_fine : (b : Boot) (w : WorldState) (e : Step) (lines : List Line) (u : WorldState) → Does b w e lines u → IsFine b w e
does_fine b w e lines u d = record { whole = d.whole; again = d.again }

-- what stops as worn gives nothing
turned_gives : (w : WorldState) (e : Step) (m : ℕ) (o : Option Acts) (from to : ℕ) → turned w e m o ≡ Some (WornOut from to) → AreReadBack (gave_some o)
turned_gives w e m None from to is = tt
turned_gives w e m (Some (Goes d)) from to is = absurd (cc is)
turned_gives w e m (Some (Worn a c)) from to is = tt

reads_on : (w : WorldState) (e : Step) (a c : ℕ) (r : Result Packet PacketError) (from to : ℕ) → reads w e a c r ≡ Some (WornOut from to) → ⊥
reads_on w e a c (Ok (Packet.Data x y k m)) from to is = cc is
reads_on w e a c (Ok (Packet.Ack x y k)) from to is = cc is
reads_on w e a c (Err bad) from to is = cc is

delivers_on : (w : WorldState) (e : Step) (a c k : ℕ) (o : Option (List ℕ)) (from to : ℕ) → delivers w e a c k o ≡ Some (WornOut from to) → ⊥
delivers_on w e a c k None from to is = cc is
delivers_on w e a c k (Some bytes) from to is = reads_on (record w { wires = after_mark w.wires a c k }) e a c (packet_of bytes) from to is

asks_give : (w : WorldState) (e : Step) (p : Pid) (m : ℕ) (o : Option ℕ) (from to : ℕ) → asks_at w e p m o ≡ Some (WornOut from to) → AreReadBack (gave_at w p m o)
asks_give w e p m None from to is = tt
asks_give w e p m (Some seat) from to is = turned_gives w e seat (node.asks_move (w.nodes seat) p m) from to is

worn_gives : (b : Boot) (w : WorldState) (e : Step) (from to : ℕ) → world_step b w e ≡ Some (WornOut from to) → AreReadBack (gave b w e)
worn_gives b w (Step.Turn m) from to is = turned_gives (keeps_over w (node.turn b (w.nodes m))) (Step.Turn m) m (node.turn b (w.nodes m)) from to is
worn_gives b w (Step.Tick m) from to is = absurd (cc is)
worn_gives b w (Step.Deliver a c k) from to is = absurd (delivers_on w (Step.Deliver a c k) a c k (bytes_at (w.wires a c) k) from to is)
worn_gives b w (Step.Migrate p m) from to is = asks_give w (Step.Migrate p m) p m (seat_of (length b.machines) w.nodes) from to is
worn_gives b w (Step.CallOff p m) from to is = turned_gives w (Step.CallOff p m) m (node.calls_off (w.nodes m) p) from to is

pub wears_fine : (b : Boot) (w : WorldState) (e : Step) (from to : ℕ) → WearsBy b w e from to → IsFine b w e
wears_fine b w e from to d = record { whole = d.whole; again = worn_gives b w e from to d.happens }

pub taken_fine : (b : Boot) (p : Place) (e : Step) → Taken b p e → IsFine b p.state e
taken_fine b p e t = elim t [
  | inl d ↦ does_fine b p.state e d.0 d.1 d.2
  | inr d ↦ wears_fine b p.state e d.0 d.1 d.2
]

-- whatever the other machines are
pub fine_same : (b : Boot) (w u : WorldState) (e : Step) → SameSeat b e w u → u.nodes (acts_on b w e) ≡ w.nodes (acts_on b w e) → SamePacket e w u → IsFine b w e → IsFine b u e
fine_same b w u e seat same packet h = record {
  whole = whole_same b w u e same h.whole;
  again = subst AreReadBack (sym (gives_same b w u e seat same packet)) h.again;
}
