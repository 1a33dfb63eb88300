-- Where the lowest empty slot is.
use Rattle.dm_linktable.proofs.Names.{◌≡◌, ℕ, ◌<◌, List, Option, None, Some, length, position-Some, is_none, first_empty}

pub first_empty_within : {L : Type 0} (slots : List (Option L)) (n : ℕ) → first_empty slots ≡ Some n → n < length slots
first_empty_within {L} slots n e = (position-Some (is_none {T = L}) slots n None e).0
