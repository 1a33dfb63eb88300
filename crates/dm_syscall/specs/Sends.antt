-- The links that a send encloses, and the table after it.
use Rattle.std.specs.Prelude.{ℕ, if◌then◌else◌, List, [], ◌∷◌, filter_map, slice_set}
use Rattle.std.specs.declared.option.Option.{Option}
use Rattle.std.specs.declared.option.Option.TheVariants.{None}
use Rattle.dm_link.specs.declared.Link.{Link}
use Rattle.dm_linktable.specs.Slots.{link_at, plain_slot}
use Rattle.dm_onekernel.specs.Calls.{holds_reply}

-- the links in these slots, in order
abbrev pub links_in : List (Option Link) → List ℕ → List Link
links_in table slots = filter_map (link_at table) slots

-- reply links leave their slots, general ones stay
abbrev pub emptied : List (Option Link) → List ℕ → List (Option Link)
emptied table [] = table
emptied table (s ∷ ss) = emptied (if holds_reply (plain_slot (link_at table s)) then slice_set table s None else table) ss
