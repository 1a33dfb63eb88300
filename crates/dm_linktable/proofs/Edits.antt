-- What an edit of one entry leaves of an index.
use Rattle.dm_linktable.proofs.Names.{◌≡◌, ℕ, ◌+◌, ◌-◌, ◌<◌, ◌≤◌, ◌^◌, ◌==◌, ◌&&◌, cond, List, length, get_or, set, arith, sym, ap, ◌∙◌, subst, ⊎_elim, eq-or-lt_of_le, cases_lt, common_steps, get_or_default, length-insert, length-remove}
use Rattle.dm_linktable.proofs.Names.{get_or-insert_below, get_or-insert_at, get_or-insert_above, sum_by-insert, sum_by-remove, sum_by-set, bit_at-zero, bit_at, insert, remove, Less, Pid, pid_cmp, pid_eq, Entry, IsIndex, mask_in}
use Rattle.dm_linktable.proofs.Names.{mask_of, Result, Ok, Err, IsOk, is_ok}
use Rattle.dm_linktable.proofs.ReceiverOrder.{pid_eq_same}
use Rattle.dm_linktable.proofs.Entries.{get_or-insert, get_or-remove, get_or-set, mask_at}

pub index-set : (es : List Entry) (index : IsIndex es) (i : ℕ) (e : Entry) → i < length es → e.receiver ≡ (get_or es i e).receiver → 0 < e.slots → e.slots < 2 ^ 128 → IsIndex (set es i e)
index-set es index i e lt same used fits = record {
  sorted = λ a b d ab bl. grind (arith, common_steps, get_or-set es i e d a lt, get_or-set es i e d b lt, index.sorted a b d, index.sorted a b e, index.sorted a i e, index.sorted i b e, index.sorted a i d, index.sorted i b d);
  used = λ a d al. grind (arith, common_steps, get_or-set es i e d a lt, index.used a d);
  fits = λ a d al. grind (arith, common_steps, get_or-set es i e d a lt, index.fits a d);
}

-- the two entries at a and b are in order after e was inserted at i, by where b stands
insert_before : (es : List Entry) (index : IsIndex es) (i : ℕ) (e : Entry) (a b : ℕ) (d : Entry) → i ≤ length es → a < b → b < i → pid_cmp (get_or (insert es i e) a d).receiver (get_or (insert es i e) b d).receiver ≡ Less
insert_before es index i e a b d le ab bi = grind (arith, get_or-insert_below es i e d a, get_or-insert_below es i e d b, index.sorted a b d)

insert_at : (es : List Entry) (i : ℕ) (e : Entry) (a b : ℕ) (d : Entry) → i ≤ length es → a < b → b ≡ i → pid_cmp (get_or es a d).receiver e.receiver ≡ Less → pid_cmp (get_or (insert es i e) a d).receiver (get_or (insert es i e) b d).receiver ≡ Less
insert_at es i e a b d le ab bi before = grind (arith, get_or-insert_below es i e d a, get_or-insert_at es i e d)

insert_across : (es : List Entry) (index : IsIndex es) (i : ℕ) (e : Entry) (a b : ℕ) (d : Entry) → i ≤ length es → a < i → i ≤ b → b < length es → pid_cmp (get_or (insert es i e) a d).receiver (get_or (insert es i e) (b + 1) d).receiver ≡ Less
insert_across es index i e a b d le ai ib bl = grind (arith, get_or-insert_below es i e d a, get_or-insert_above es i e d b, index.sorted a b d)

insert_from : (es : List Entry) (i : ℕ) (e : Entry) (a b : ℕ) (d : Entry) → i ≤ length es → a ≡ i → i ≤ b → b < length es → pid_cmp e.receiver (get_or es b d).receiver ≡ Less → pid_cmp (get_or (insert es i e) a d).receiver (get_or (insert es i e) (b + 1) d).receiver ≡ Less
insert_from es i e a b d le ai ib bl behind = grind (arith, get_or-insert_at es i e d, get_or-insert_above es i e d b)

insert_behind : (es : List Entry) (index : IsIndex es) (i : ℕ) (e : Entry) (a b : ℕ) (d : Entry) → i ≤ length es → i ≤ a → a < b → b < length es → pid_cmp (get_or (insert es i e) (a + 1) d).receiver (get_or (insert es i e) (b + 1) d).receiver ≡ Less
insert_behind es index i e a b d le ia ab bl = grind (arith, get_or-insert_above es i e d a, get_or-insert_above es i e d b, index.sorted a b d)

-- what comes after e's place has moved up by one
insert_past : (es : List Entry) (index : IsIndex es) (i : ℕ) (e : Entry) (a b : ℕ) (d : Entry) → i ≤ length es → a < b + 1 → i ≤ b → b < length es → pid_cmp e.receiver (get_or es b d).receiver ≡ Less → pid_cmp (get_or (insert es i e) a d).receiver (get_or (insert es i e) (b + 1) d).receiver ≡ Less
insert_past es index i e a b d le ab ib bl behind =
    ⊎_elim
    (λ ai. insert_across es index i e a b d le ai ib bl)
    (λ ia. ⊎_elim
    (λ here. insert_from es i e a b d le (sym here) ib bl behind)
    (λ past. let one : (a - 1) + 1 ≡ a = omega arith in
    subst (λ k. pid_cmp (get_or (insert es i e) k d).receiver (get_or (insert es i e) (b + 1) d).receiver ≡ Less) one (insert_behind es index i e (a - 1) b d le (omega arith) (omega arith) bl))
    (eq-or-lt_of_le ia))
    (cases_lt a i)

pub index-insert : (es : List Entry) (index : IsIndex es) (i : ℕ) (e : Entry) → i ≤ length es → 0 < e.slots → e.slots < 2 ^ 128 → ((k : ℕ) (d : Entry) → k < i → pid_cmp (get_or es k d).receiver e.receiver ≡ Less) → ((k : ℕ) (d : Entry) → i ≤ k → k < length es → pid_cmp e.receiver (get_or es k d).receiver ≡ Less) → IsIndex (insert es i e)
index-insert es index i e le used fits before behind = record {
  sorted = λ a b d ab bl.
      let n : length (insert es i e) ≡ length es + 1 = length-insert es i e le in
      ⊎_elim
      (λ bi. insert_before es index i e a b d le ab bi)
      (λ ib. ⊎_elim
      (λ here. insert_at es i e a b d le ab (sym here) (before a d (omega arith)))
      (λ past. let one : (b - 1) + 1 ≡ b = omega arith in
      subst (λ k. pid_cmp (get_or (insert es i e) a d).receiver (get_or (insert es i e) k d).receiver ≡ Less) one (insert_past es index i e a (b - 1) d le (omega arith) (omega arith) (omega arith) (behind (b - 1) d (omega arith) (omega arith))))
      (eq-or-lt_of_le ib))
      (cases_lt b i);
  used = λ a d al. grind (arith, common_steps, length-insert es i e le, get_or-insert es i e d a le, index.used a d, index.used (a - 1) d);
  fits = λ a d al. grind (arith, common_steps, length-insert es i e le, get_or-insert es i e d a le, index.fits a d, index.fits (a - 1) d);
}

pub index-remove : (es : List Entry) (index : IsIndex es) (i : ℕ) → i < length es → IsIndex (remove es i)
index-remove es index i lt = record {
  sorted = λ a b d ab bl. grind (arith, common_steps, length-remove es i lt, get_or-remove es i d a lt, get_or-remove es i d b lt, index.sorted a b d, index.sorted a (b + 1) d, index.sorted (a + 1) (b + 1) d);
  used = λ a d al. grind (arith, common_steps, length-remove es i lt, get_or-remove es i d a lt, index.used a d, index.used (a + 1) d);
  fits = λ a d al. grind (arith, common_steps, length-remove es i lt, get_or-remove es i d a lt, index.fits a d, index.fits (a + 1) d);
}

pub mask-set : (es : List Entry) (index : IsIndex es) (i : ℕ) (e : Entry) (q : Pid) → i < length es → e.receiver ≡ (get_or es i e).receiver → mask_of (set es i e) q ≡ cond (pid_eq e.receiver q) e.slots (mask_of es q)
mask-set es index i e q lt same = grind (arith, common_steps, sum_by-set (mask_in q) es i e e lt, mask_at es index i e lt, pid_eq_same e.receiver q)

pub mask-insert : (es : List Entry) (i : ℕ) (e : Entry) (q : Pid) → mask_of (insert es i e) q ≡ mask_of es q + mask_in q e
mask-insert es i e q = sum_by-insert (mask_in q) es i e

pub mask-remove : (es : List Entry) (index : IsIndex es) (i : ℕ) (d : Entry) (q : Pid) → i < length es → mask_of (remove es i) q ≡ cond (pid_eq (get_or es i d).receiver q) 0 (mask_of es q)
mask-remove es index i d q lt = grind (arith, common_steps, sum_by-remove (mask_in q) es i d lt, mask_at es index i d lt, pid_eq_same (get_or es i d).receiver q)

pub bits-set : (es : List Entry) (index : IsIndex es) (i s bit slots : ℕ) (p q : Pid) (d : Entry) (t : ℕ) → i < length es → (get_or es i d).receiver ≡ p → ((u : ℕ) → bit_at slots u ≡ cond (u == s) bit (bit_at (get_or es i d).slots u)) → bit_at (mask_of (set es i (record { receiver = p; slots = slots })) q) t ≡ cond (pid_eq p q && (t == s)) bit (bit_at (mask_of es q) t)
bits-set es index i s bit slots p q d t lt same bits =
    let e : Entry = record { receiver = p; slots = slots } in
    grind (arith, mask-set es index i e q lt (sym (ap (λ (x : Entry). x.receiver) (get_or_default es i e d lt) ∙ same)), mask_at es index i d lt, pid_eq_same p q, bits t)

pub bits-insert : (es : List Entry) (i s slots : ℕ) (p q : Pid) (t : ℕ) → mask_of es p ≡ 0 → ((u : ℕ) → bit_at slots u ≡ cond (u == s) 1 (bit_at 0 u)) → bit_at (mask_of (insert es i (record { receiver = p; slots = slots })) q) t ≡ cond (pid_eq p q && (t == s)) 1 (bit_at (mask_of es q) t)
bits-insert es i s slots p q t none bits = grind (arith, mask-insert es i (record { receiver = p; slots = slots }) q, pid_eq_same p q, bits t, bit_at-zero t)

pub bits-remove : (es : List Entry) (index : IsIndex es) (i s slots : ℕ) (p q : Pid) (d : Entry) (t : ℕ) → i < length es → (get_or es i d).receiver ≡ p → slots ≡ 0 → ((u : ℕ) → bit_at slots u ≡ cond (u == s) 0 (bit_at (get_or es i d).slots u)) → bit_at (mask_of (remove es i) q) t ≡ cond (pid_eq p q && (t == s)) 0 (bit_at (mask_of es q) t)
bits-remove es index i s slots p q d t lt same none bits =
    grind (arith, mask-remove es index i d q lt, mask_at es index i d lt, pid_eq_same p q, bits t, none, bit_at-zero t)

pub bits_same : (es : List Entry) (s : ℕ) (p q : Pid) (t : ℕ) → mask_of es p ≡ 0 → bit_at (mask_of es q) t ≡ cond (pid_eq p q && (t == s)) 0 (bit_at (mask_of es q) t)
bits_same es s p q t none = grind (arith, pid_eq_same p q, bit_at-zero t)

-- what an insertion leaves that had room
pub within_room : {A E X : Type 0} (r : Result A E) (now was new : X) → IsOk r → now ≡ cond (is_ok r) new was → now ≡ new
within_room (Ok a) now was new ok e = e
within_room (Err b) now was new ok e = absurd (grind (arith, ok))
