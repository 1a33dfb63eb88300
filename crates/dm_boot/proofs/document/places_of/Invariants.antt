use Rattle.dm_boot.proofs.Imports.{◌≡◌, ℕ, List, drop, option_or, items_view, place_in, element_place_from, element_place}
use Rattle.dm_boot.proofs.document.places_of.Given as goal

-- what is found so far, or else among those that are left, is what is found among all
abbrev pub invariant-loop-i : goal.invariant-loop-i
invariant-loop-i l = (q : List ℕ) → option_or (place_in l.places q) (element_place_from l.i q (items_view (drop l.i l.items))) ≡ element_place q (items_view l.items)
