-- A table as the list of its slots, each empty or with a link.
use Rattle.std.specs.Prelude.{ℕ, Bool, true, false, List, slice_index_or}
use Rattle.std.specs.declared.option.Option.{Option}
use Rattle.std.specs.declared.option.Option.TheVariants.{None, Some}
use Rattle.std.specs.Option.{is_none, option_map}
use Rattle.std.specs.List.{position}
use Rattle.dm_link.specs.declared.Pid.{Pid}
use Rattle.dm_link.specs.declared.Kind.{Kind}
use Rattle.dm_link.specs.declared.Kind.TheVariants.{General, Reply}
use Rattle.dm_link.specs.declared.Link.{Link}
use Rattle.dm_link.specs.Places.{is_behind, retargeted_link}
use Rattle.dm_link.specs.Plain.{PlainLink, plain_link}

-- what slot n holds: nothing where it is empty, or where there is no such slot
abbrev pub link_at : {L : Type 0} → List (Option L) → ℕ → Option L
link_at slots n = slice_index_or slots n None

-- the lowest empty slot
abbrev pub first_empty : {L : Type 0} → List (Option L) → Option ℕ
first_empty slots = position is_none slots

-- a link of this kind serves for one message alone
abbrev pub is_reply : Kind → Bool
is_reply General = false
is_reply Reply = true

-- a link of this process that knows fewer moves of it
abbrev pub slot_is_behind : Pid → ℕ → Option Link → Bool
slot_is_behind about moves None = false
slot_is_behind about moves (Some l) = is_behind about moves l.addr

-- each slot's link where they are told that the process is at another place
abbrev pub retargeted_slot : Pid → ℕ → ℕ → Option Link → Option Link
retargeted_slot about at moves s = option_map (retargeted_link about at moves) s

abbrev pub plain_slot : Option Link → Option PlainLink
plain_slot s = option_map plain_link s
