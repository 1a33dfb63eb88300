-- Reading and writing place by place, as the loops of the code do.
use Rattle.dm_statebytes.proofs.Names.{◌≡◌, ℕ, suc, ◌+◌, ◌-◌, ◌/◌, ◌%◌, ◌^◌, ◌<◌, ◌≤◌, true, false, eqb, List, [], ◌∷◌, ◌++◌, length, set, take, drop, Option, None, Some, Result, Ok, Err, refl, sym, ap, subst, ◌∙◌, append_assoc, arith}
use Rattle.dm_statebytes.proofs.Names.{◌==◌, All, flat_map, pow-le-pow_right, eq-eqb, nat_tests, common_steps, take_at_read, append-nil, length-drop, take_more_set, Link, link_at, PacketError, ◌>>=◌, link, with_front, all_next}
use Rattle.dm_statebytes.proofs.Names.{pieces_next, then_put, held_if, mask_of, read_slots, spell_slot, FitsSlot}
use Rattle.dm_statebytes.proofs.Tables.{mask_of-lt}

pub front_none : {X : Type 0} (read : Result (List X × List ℕ) PacketError) → with_front [] read ≡ read
front_none (Ok x) = refl
front_none (Err d) = refl

regroup : {X : Type 0} (front : List X) (x : X) (read : Result (List X × List ℕ) PacketError) → with_front front (read >>= λ y. Ok (x ∷ y.0, y.1)) ≡ with_front (front ++ x ∷ []) read
regroup front x (Ok y) = ap (λ xs. Ok (xs, y.1)) (simp append_assoc)
regroup front x (Err d) = refl

-- a table of which the slots up to a place are read, and the others are empty
abbrev pub ReadUpTo : ℕ → Result (List (Option Link) × List ℕ) PacketError → List (Option Link) → ℕ → ℕ → List ℕ → Type 0
ReadUpTo cap total table place left rest = (with_front (take place table) (read_slots (cap - place) left rest) ≡ total) × (length table ≡ cap) × ((s : ℕ) → place ≤ s → link_at table s ≡ None)

slots_next : (front : List (Option Link)) (cap i left : ℕ) (rest : List ℕ) (o : Option Link) (after : List ℕ) (total : Result (List (Option Link) × List ℕ) PacketError) → i < cap → (held_if link (left % 2 == 1)).read rest ≡ Ok (o, after) → with_front front (read_slots (cap - i) left rest) ≡ total
    → with_front (front ++ o ∷ []) (read_slots (cap - (i + 1)) (left / 2) after) ≡ total
slots_next front cap i left rest o after total lt h so_far =
    let k : cap - i ≡ suc (cap - (i + 1)) = omega arith in
    let one : with_front front (read_slots (cap - i) left rest) ≡ with_front (front ++ o ∷ []) (read_slots (cap - (i + 1)) (left / 2) after) = rw (k, h) (regroup front o (read_slots (cap - (i + 1)) (left / 2) after)) in
    sym one ∙ so_far

pub slots_fail : (front : List (Option Link)) (cap i left : ℕ) (rest : List ℕ) (d : PacketError) (total : Result (List (Option Link) × List ℕ) PacketError) → i < cap → left % 2 ≡ 1 → link.read rest ≡ Err d → with_front front (read_slots (cap - i) left rest) ≡ total → total ≡ Err d
slots_fail front cap i left rest d total lt odd h so_far =
    let holds : eqb (left % 2) 1 ≡ true = eq-eqb (left % 2) 1 odd in
    let k : cap - i ≡ suc (cap - (i + 1)) = omega arith in
    let failed : (held_if link (left % 2 == 1)).read rest ≡ Err d = rw (holds, h) refl in
    let one : with_front front (read_slots (cap - i) left rest) ≡ Err d = rw (k, failed) refl in
    sym so_far ∙ one

pub slot_held : (cap place left : ℕ) (table : List (Option Link)) (rest : List ℕ) (l : Link) (after : List ℕ) (total : Result (List (Option Link) × List ℕ) PacketError) → place < cap → left % 2 ≡ 1 → link.read rest ≡ Ok (l, after) → ReadUpTo cap total table place left rest
    → ReadUpTo cap total (set table place (Some l)) (place + 1) (left / 2) after
slot_held cap place left table rest l after total lt odd h so_far =
    let holds : eqb (left % 2) 1 ≡ true = eq-eqb (left % 2) 1 odd in
    let found : (held_if link (left % 2 == 1)).read rest ≡ Ok (Some l, after) = rw (holds, h) refl in
    let next = slots_next (take place table) cap place left rest (Some l) after total lt found so_far.0 in
    let grown : take (place + 1) (set table place (Some l)) ≡ take place table ++ Some l ∷ [] = take_more_set table place (Some l) (omega (arith, so_far.1)) in
    (rw grown next, grind (arith, common_steps, so_far.1), λ s le. grind (arith, common_steps, so_far.2 s))

pub slot_empty : (cap place left : ℕ) (table : List (Option Link)) (rest : List ℕ) (total : Result (List (Option Link) × List ℕ) PacketError) → place < cap → (left % 2 ≡ 1 → ⊥) → ReadUpTo cap total table place left rest → ReadUpTo cap total table (place + 1) (left / 2) rest
slot_empty cap place left table rest total lt even so_far =
    let holds : eqb (left % 2) 1 ≡ false = grind (arith, nat_tests) in
    let found : (held_if link (left % 2 == 1)).read rest ≡ Ok (None, rest) = rw holds refl in
    let next = slots_next (take place table) cap place left rest None rest total lt found so_far.0 in
    let grown : take (place + 1) table ≡ take place table ++ None ∷ [] = (take_at_read table place None (omega (arith, so_far.1))).1 ∙ ap (λ o. take place table ++ o ∷ []) (so_far.2 place (omega arith)) in
    (rw grown next, so_far.1, λ s le. so_far.2 s (omega arith))

-- all slots are read
pub slots_read : (cap place left : ℕ) (table : List (Option Link)) (rest : List ℕ) (total : Result (List (Option Link) × List ℕ) PacketError) → cap ≤ place → ReadUpTo cap total table place left rest → total ≡ Ok (table, rest)
slots_read cap place left table rest total over so_far =
    let none : cap - place ≡ 0 = omega (arith, over) in
    let all : take place table ≡ table = grind (arith, common_steps, over, so_far.1) in
    let read : with_front (take place table) (read_slots (cap - place) left rest) ≡ Ok (take place table ++ [], rest) = ap (λ k. with_front (take place table) (read_slots k left rest)) none in
    sym so_far.0 ∙ read ∙ ap (λ xs. Ok (xs, rest)) (append-nil (take place table) ∙ all)

-- the links up to a slot, and its own
pub slot_written : (table : List (Option Link)) (i : ℕ) (old now new : List ℕ) (o : Option Link) → i < length table → link_at table i ≡ o → FitsSlot o → now ≡ old ++ flat_map spell_slot (take i table) → All FitsSlot (take i table) → new ≡ now ++ spell_slot o
    → (new ≡ old ++ flat_map spell_slot (take (i + 1) table)) × All FitsSlot (take (i + 1) table)
slot_written table i old now new o lt is fits so_far all put =
    let here : new ≡ now ++ spell_slot (link_at table i) = put ∙ ap (λ x. now ++ spell_slot x) (sym is) in
    let whole = then_put old now new (flat_map spell_slot (take i table)) (spell_slot (link_at table i)) so_far here in
    (rw (pieces_next spell_slot table i None lt) whole, all_next FitsSlot table i None lt all (subst FitsSlot (sym is) fits))

-- the mask of the slots above one leaves room for that one's bit
pub mask_has_room : (table : List (Option Link)) (place : ℕ) → 0 < place → place ≤ length table → length table ≤ 128 → mask_of (drop place table) < 2 ^ 127
mask_has_room table place some le few =
    let len : length (drop place table) ≤ 127 = omega (arith, length-drop place table) in
    let most : 2 ^ length (drop place table) ≤ 2 ^ 127 = pow-le-pow_right {n = 2} (omega arith) len in
    omega (arith, mask_of-lt (drop place table), most)
