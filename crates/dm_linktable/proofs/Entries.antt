-- The entries of an index, one at a time.
use Rattle.dm_linktable.proofs.Names.{◌≡◌, ◌≢◌, ℕ, suc, ◌+◌, ◌-◌, ◌<◌, ◌≤◌, false, cond, eqb, ltb, List, [], ◌∷◌, length, get_or, set, refl, arith, common_steps, length-remove, get_or-insert_below, get_or-insert_at, get_or-insert_above}
use Rattle.dm_linktable.proofs.Names.{get_or-remove_below, get_or-remove_above, sum_by-remove, insert, remove, Pid, pid_eq, Entry, IsIndex, mask_in, mask_of}
use Rattle.dm_linktable.proofs.ReceiverOrder.{pid_eq_same, pid_eq_self, pid_less_apart}

pub get_or-insert : {X : Type 0} (xs : List X) (i : ℕ) (y d : X) (k : ℕ) → i ≤ length xs → get_or (insert xs i y) k d ≡ cond (ltb k i) (get_or xs k d) (cond (eqb k i) y (get_or xs (k - 1) d))
get_or-insert xs i y d k le = grind (arith, common_steps, get_or-insert_below xs i y d k, get_or-insert_at xs i y d, get_or-insert_above xs i y d (k - 1))

pub get_or-remove : {X : Type 0} (xs : List X) (i : ℕ) (d : X) (k : ℕ) → i < length xs → get_or (remove xs i) k d ≡ cond (ltb k i) (get_or xs k d) (get_or xs (k + 1) d)
get_or-remove xs i d k lt = grind (arith, common_steps, get_or-remove_below xs i d k, get_or-remove_above xs i d k)

pub get_or-set : {X : Type 0} (xs : List X) (i : ℕ) (y d : X) (k : ℕ) → i < length xs → get_or (set xs i y) k d ≡ cond (eqb k i) y (get_or xs k d)
get_or-set xs i y d k lt = grind (arith, common_steps)

pub apart : (es : List Entry) (index : IsIndex es) (i k : ℕ) (d : Entry) → i < length es → k < length es → k ≢ i → pid_eq (get_or es k d).receiver (get_or es i d).receiver ≡ false
apart es index i k d li lk ne = grind (arith, pid_less_apart, index.sorted i k d, index.sorted k i d, pid_eq_same, pid_eq_self)

pub mask_absent : (es : List Entry) (p : Pid) → ((k : ℕ) (d : Entry) → k < length es → pid_eq (get_or es k d).receiver p ≡ false) → mask_of es p ≡ 0
mask_absent [] p h = refl
mask_absent (e ∷ es) p h = grind (arith, common_steps, h 0 e, mask_absent es p (λ k d lt. h (suc k) d (grind (arith, common_steps, lt))))

pub mask_at : (es : List Entry) (index : IsIndex es) (i : ℕ) (d : Entry) → i < length es → mask_of es (get_or es i d).receiver ≡ (get_or es i d).slots
mask_at es index i d lt =
    let p : Pid = (get_or es i d).receiver in
    let others : (k : ℕ) (e : Entry) → k < length (remove es i) → pid_eq (get_or (remove es i) k e).receiver p ≡ false =
    λ k e h. grind (arith, common_steps, get_or-remove es i e k lt, length-remove es i lt, apart es index i k d lt, apart es index i (k + 1) d lt) in
    grind (arith, sum_by-remove (mask_in p) es i d lt, mask_absent (remove es i) p others, pid_eq_self p)
