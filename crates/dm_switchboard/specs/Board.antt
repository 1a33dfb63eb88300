-- The switchboard's list of names, with the places that its links lead to.
use Rattle.std.specs.Prelude.{ℕ, Bool, List, map}
use Rattle.dm_link.specs.declared.Pid.{Pid}
use Rattle.dm_link.specs.declared.Link.{Link}
use Rattle.dm_link.specs.Places.{is_behind, retargeted_link}
use Rattle.dm_link.specs.Plain.{plain_link}
use Rattle.dm_onekernel.specs.Kernel.{NamedLink, Switchboard}
use Rattle.arrayvec.specs.ArrayVec.{ArrayVec}

-- a name of 1 to 16 bytes, and the link that is kept under it
pub record Named : Type 0 where
  pub name : List ℕ
  pub link : Link

-- the names in order of registration, how many messages were sent, and how often the switchboard has moved
pub record Board : Type 0 where
  pub names : List Named
  pub sent : ℕ
  pub moves : ℕ

-- an entry of a map of names, and all of them
abbrev pub named : ArrayVec ℕ × Link → Named
named e = record { name = e.0.items; link = e.1 }

abbrev pub listed : List (ArrayVec ℕ × Link) → List Named
listed entries = map named entries

-- the board without places
abbrev pub plain_named : Named → NamedLink
plain_named k = record { name = k.name; link = plain_link k.link }

abbrev pub plain_board : Board → Switchboard
plain_board b = record { names = map plain_named b.names; sent = b.sent }

-- a name's link where it is told that a process is at another place, after so many moves
abbrev pub retargeted_named : Pid → ℕ → ℕ → Named → Named
retargeted_named about at moves k = record { name = k.name; link = retargeted_link about at moves k.link }

-- its link is to this process, and knows fewer moves of it
abbrev pub named_is_behind : Pid → ℕ → Named → Bool
named_is_behind about moves k = is_behind about moves k.link.addr
