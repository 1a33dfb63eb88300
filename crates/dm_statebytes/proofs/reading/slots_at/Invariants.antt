use Rattle.dm_statebytes.proofs.Names.{◌≡◌, ◌≤◌, ◌-◌, ℕ, None, length, take, link_at, with_front, read_slots}
use Rattle.dm_statebytes.proofs.reading.slots_at.Given as goal

abbrev pub invariant-loop-slot : goal.invariant-loop-slot
invariant-loop-slot l = (with_front (take l.slot l.table) (read_slots (l.cap - l.slot) l.left l.rest) ≡ read_slots l.cap l.mask l.bytes) × (length l.table ≡ l.cap) × ((s : ℕ) → l.slot ≤ s → link_at l.table s ≡ None)
