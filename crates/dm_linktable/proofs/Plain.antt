-- Retargeting keeps what the links mean.
use Rattle.dm_linktable.proofs.Names.{◌≡◌, ℕ, List, [], ◌∷◌, Option, map, refl, arith, Pid, Link, plain_slot, retargeted_slot}

pub plain_of_retargeted : (p : Pid) (m c : ℕ) (s : Option Link) → plain_slot (retargeted_slot p m c s) ≡ plain_slot s
plain_of_retargeted p m c s = grind arith

pub plain_map_retargeted : (p : Pid) (m c : ℕ) (ss : List (Option Link)) → map plain_slot (map (retargeted_slot p m c) ss) ≡ map plain_slot ss
plain_map_retargeted p m c [] = refl
plain_map_retargeted p m c (s ∷ ss) = cc (plain_of_retargeted p m c s, plain_map_retargeted p m c ss)
