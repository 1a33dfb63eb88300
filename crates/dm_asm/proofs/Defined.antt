-- What a table has when a label is defined.
use Rattle.dm_asm.proofs.Names.{ℕ, Bool, true, false, cond, List, ◌≡◌, refl, sym, ap, ◌∙◌, Option, Some, None, is_some, if◌then◌else◌, Bor, BTreeMap, get_by, slice_cmp, nat_cmp, bytes_eq, btree_map_updates_str, bytes_eq-Decides, Place}
use Rattle.dm_asm.proofs.Names.{first_of}
use Rattle.std.specs.BTreeMap as tree

-- nothing behind a place changes it
pub first_of-None : (old : Option Place) → first_of old None ≡ old
first_of-None None = refl
first_of-None (Some p) = refl

-- nothing is there
is_some-none : (old : Option Place) → false ≡ is_some old → old ≡ None
is_some-none None e = refl
is_some-none (Some p) e = absurd (cc)

-- by the tests of the two names
by_tests : (b d : Bool) (bs q : List ℕ) (new old : Option Place) (p : Place) → bytes_eq bs q ≡ b → bytes_eq q bs ≡ d → new ≡ cond b (Some p) old → (q ≡ bs → old ≡ None) → new ≡ first_of old (if d then Some p else None)
by_tests true true bs q new old p e f u h =
    let same : old ≡ None = h (sym ((bytes_eq-Decides bs q).0 e)) in
    rw (u, same) refl
by_tests true false bs q new old p e f u h =
    let t : bytes_eq q bs ≡ true = (bytes_eq-Decides q bs).1 (sym ((bytes_eq-Decides bs q).0 e)) in
    absurd (cc)
by_tests false true bs q new old p e f u h =
    let t : bytes_eq bs q ≡ true = (bytes_eq-Decides bs q).1 (sym ((bytes_eq-Decides q bs).0 f)) in
    absurd (cc)
by_tests false false bs q new old p e f u h = u ∙ sym (first_of-None old)

-- a label that was not there is there, and the others stay
pub defined : (bs : List ℕ) (m n : BTreeMap (Bor (List ℕ)) Place) (p : Place) → tree.UpdatesBy (λ x y. slice_cmp nat_cmp x.now y.now) (λ k. slice_cmp nat_cmp bs k.now) m n (Some p) → false ≡ is_some (get_by (λ k. slice_cmp nat_cmp bs k.now) m) → (q : List ℕ) → get_by (λ k. slice_cmp nat_cmp q k.now) n ≡ first_of (get_by (λ k. slice_cmp nat_cmp q k.now) m) (if bytes_eq q bs then Some p else None)
defined bs m n p h absent q =
    by_tests (bytes_eq bs q) (bytes_eq q bs) bs q _ (get_by (λ k. slice_cmp nat_cmp q k.now) m) p refl refl (btree_map_updates_str bs m n (Some p) h q) (λ e. ap (λ r. get_by (λ k. slice_cmp nat_cmp r k.now) m) e ∙ is_some-none _ absent)
