-- No name stands twice in a map.
use Rattle.dm_switchboard.proofs.Imports.{◌≡◌, ℕ, Bool, true, false, if◌then◌else◌, List, [], ◌∷◌, ◌++◌, refl, sym, ap, ◌∙◌, arith, Option, None, nat_eq, pointwise, bytes_eq, ArrayVec, Link, Named, named, listed, link_named}
use Rattle.std.specs.declared.option.Option.TheVariants.{Some}
use Rattle.dm_packet.proofs.Names.{AllByRecursion}
use Rattle.std.specs.List.{IsDistinct}
use Rattle.std.specs.Map.{keys_of}
use Rattle.std.proofs.lemmas.Map.Keys.{IsDistinct-head, IsDistinct-tail}
use Rattle.dm_switchboard.proofs.Entries.{eq_sym, same_bytes}
use Rattle.dm_switchboard.specs.Packed.{AreApart, HaveOwnNames}

bytes_sym : (bs cs : List ℕ) → bytes_eq bs cs ≡ bytes_eq cs bs
bytes_sym [] [] = refl
bytes_sym [] (c ∷ cs) = refl
bytes_sym (b ∷ bs) [] = refl
bytes_sym (b ∷ bs) (c ∷ cs) = grind (arith, eq_sym b c, bytes_sym bs cs)

-- the test of a map's keys
abbrev pub is_key : ArrayVec ℕ → ArrayVec ℕ → Bool
is_key a b = pointwise nat_eq a.items b.items

-- a name that none of these is
abbrev IsNew : List Named → Named → Type 0
IsNew earlier k = link_named k.name earlier ≡ None

neither : (b : Bool) (l : Link) (now later : Option Link) → (if b then Some l else now) ≡ None → (now ≡ None → later ≡ None) → (if b then Some l else later) ≡ None
neither true l now later h still = absurd cc
neither false l now later h still = still h

new_behind : (name : List ℕ) (earlier : List Named) (k : Named) → link_named name earlier ≡ None → bytes_eq k.name name ≡ false → link_named name (earlier ++ k ∷ []) ≡ None
new_behind name [] k none apart = ap (λ (b : Bool). if b then Some k.link else None) apart
new_behind name (e ∷ earlier) k none apart =
    neither (bytes_eq e.name name) e.link (link_named name earlier) (link_named name (earlier ++ k ∷ [])) none (λ h. new_behind name earlier k h apart)

still_new : (earlier : List Named) (e : ArrayVec ℕ × Link) (es : List (ArrayVec ℕ × Link)) → AllByRecursion (IsNew earlier) (listed es) → AllByRecursion (λ y. is_key e.0 y ≡ false) (keys_of es)
    → AllByRecursion (IsNew (earlier ++ named e ∷ [])) (listed es)
still_new earlier e [] new apart = tt
still_new earlier e (f ∷ es) new apart =
    let off : bytes_eq e.0.items f.0.items ≡ false = bytes_sym e.0.items f.0.items ∙ sym (same_bytes e.0.items f.0.items) ∙ apart.0 in
    (new_behind f.0.items earlier (named e) new.0 off, still_new earlier e es new.1 apart.1)

apart_behind : (earlier : List Named) (es : List (ArrayVec ℕ × Link)) → AllByRecursion (IsNew earlier) (listed es) → IsDistinct is_key (keys_of es) → AreApart earlier (listed es)
apart_behind earlier [] new distinct = tt
apart_behind earlier (e ∷ es) new distinct =
    let later = still_new earlier e es new.1 (IsDistinct-head is_key e.0 (keys_of es) distinct) in
    (new.0, apart_behind (earlier ++ named e ∷ []) es later (IsDistinct-tail is_key e.0 (keys_of es) distinct))

all_new : (ks : List Named) → AllByRecursion (IsNew []) ks
all_new [] = tt
all_new (k ∷ ks) = (refl, all_new ks)

pub own_names : (es : List (ArrayVec ℕ × Link)) → IsDistinct is_key (keys_of es) → HaveOwnNames (listed es)
own_names es distinct = apart_behind [] es (all_new (listed es)) distinct
