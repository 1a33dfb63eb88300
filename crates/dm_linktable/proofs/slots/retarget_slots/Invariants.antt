use Rattle.dm_linktable.proofs.Names.{◌≡◌, ℕ, ◌+◌, ◌<◌, ◌==◌, None, cond, count_by, get_or, length, bit_at, retargeted_slot, slot_is_behind}
use Rattle.dm_linktable.proofs.slots.retarget_slots.Given as goal

abbrev pub invariant-loop-left : goal.invariant-loop-left
invariant-loop-left l = record {
  each : (s : ℕ) → get_or l.slots s None ≡ cond (bit_at l.left s == 1) (get_or l.fn.slots s None) (retargeted_slot l.about l.at l.moves (get_or l.fn.slots s None));
  count : l.changed + count_by (slot_is_behind l.about l.moves) l.slots ≡ count_by (slot_is_behind l.about l.moves) l.fn.slots;
  within : (s : ℕ) → bit_at l.left s ≡ 1 → s < length l.slots;
}

abbrev pub decreases-loop-left : goal.decreases-loop-left
decreases-loop-left l = l.left
