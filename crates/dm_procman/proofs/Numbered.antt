-- Requests under their numbers, and those behind them, as one list.
use Rattle.std.proofs.Common.{Equal, Greater, Less, Ordering, cond}
use Rattle.std.specs.BTreeMap.{insert_entry, is_at}
use Rattle.std.specs.Map.{keys_of, lookup, remove_entry, values_of}
use Rattle.std.specs.Ordering.{is_eq, match_ordering, nat_cmp}
use Rattle.std.specs.Prelude.{is_some, nat_lt}
use Rattle.std.proofs.lemmas.Bool.Decides.{nat_tests}
use Rattle.dm_procman.proofs.Names.{◌≡◌, ◌<◌, ℕ, suc, ◌==◌, Bool, true, false, if◌then◌else◌, List, [], ◌∷◌, ◌++◌, map, refl, sym, ap, ◌∙◌, arith, common_steps, All, Option, None, Some, option_or, Pid}
use Rattle.dm_procman.proofs.Names.{Pending, has_number, pending_request, without_pending, retargeted_pending, position}
use Rattle.dm_procman.proofs.Loops.{no_request}
use Rattle.dm_procman.proofs.Waiting.{found_there, none_there}
use Rattle.dm_procman.specs.Numbered.{IsNumbered, retargeted_entry}

not_true : (b : Bool) → (b ≡ true → ⊥) → b ≡ false
not_true true h = absurd (h refl)
not_true false h = refl

tested : (a b c : Bool) → (a ≡ true → c ≡ false) → (a ≡ false → b ≡ c) → c ≡ is_eq (cond a Less (cond b Equal Greater))
tested true b c p q = p refl
tested false true c p q = sym (q refl)
tested false false c p q = sym (q refl)

-- a request is at the place of its number
same_test : (n k : ℕ) → (k == n) ≡ is_at (nat_cmp n) k
same_test n k = tested (nat_lt n k) (n == k) (k == n) (λ lt. not_true (k == n) (λ e. grind (arith, nat_tests, lt, e))) (λ _. grind (arith, nat_tests))

found_first : (b : Bool) (x : Pending) (o p : Option Pending) → (if b then Some x else option_or o p) ≡ option_or (cond b (Some x) o) p
found_first true x o p = refl
found_first false x o p = refl

-- the request of a number is the one under it, else the first of those behind
pub request_in : (n : ℕ) (es : List (ℕ × Pending)) (rs : List Pending) → IsNumbered es → pending_request n (values_of es ++ rs) ≡ option_or (lookup (is_at (nat_cmp n)) es) (pending_request n rs)
request_in n [] rs h = refl
request_in n (e ∷ es) rs h =
    ap (λ b. if b then Some e.1 else pending_request n (values_of es ++ rs)) (ap (λ k. k == n) h.0 ∙ same_test n e.0)
    ∙ ap (λ o. if is_at (nat_cmp n) e.0 then Some e.1 else o) (request_in n es rs h.1)
    ∙ found_first (is_at (nat_cmp n) e.0) e.1 (lookup (is_at (nat_cmp n)) es) (pending_request n rs)

left_over : (b : Bool) (e : ℕ × Pending) (es kept : List (ℕ × Pending)) (o : Option Pending) (rs others : List Pending) →
    (if b then values_of es ++ rs else e.1 ∷ (if is_some o then values_of kept ++ rs else values_of es ++ others))
    ≡ (if is_some (cond b (Some e.1) o) then values_of (cond b es (e ∷ kept)) ++ rs else values_of (e ∷ es) ++ others)
left_over true e es kept o rs others = refl
left_over false e es kept None rs others = refl
left_over false e es kept (Some r) rs others = refl

-- and so are those without it
pub others_in : (n : ℕ) (es : List (ℕ × Pending)) (rs : List Pending) → IsNumbered es →
    without_pending n (values_of es ++ rs)
    ≡ (if is_some (lookup (is_at (nat_cmp n)) es) then values_of (remove_entry (is_at (nat_cmp n)) es) ++ rs else values_of es ++ without_pending n rs)
others_in n [] rs h = refl
others_in n (e ∷ es) rs h =
    ap (λ b. if b then values_of es ++ rs else e.1 ∷ without_pending n (values_of es ++ rs)) (ap (λ k. k == n) h.0 ∙ same_test n e.0)
    ∙ ap (λ (xs : List Pending). if is_at (nat_cmp n) e.0 then values_of es ++ rs else e.1 ∷ xs) (others_in n es rs h.1)
    ∙ left_over (is_at (nat_cmp n) e.0) e es (remove_entry (is_at (nat_cmp n)) es) (lookup (is_at (nat_cmp n)) es) rs (without_pending n rs)

kept_choice : (b : Bool) (e : ℕ × Pending) (es kept : List (ℕ × Pending)) → IsNumbered (e ∷ es) → IsNumbered kept → IsNumbered (cond b es (e ∷ kept))
kept_choice true e es kept h k = h.1
kept_choice false e es kept h k = (h.0, k)

pub still_numbered : (n : ℕ) (es : List (ℕ × Pending)) → IsNumbered es → IsNumbered (remove_entry (is_at (nat_cmp n)) es)
still_numbered n [] h = h
still_numbered n (e ∷ es) h = kept_choice (is_at (nat_cmp n) e.0) e es (remove_entry (is_at (nat_cmp n)) es) h (still_numbered n es h.1)

-- a request that is taken from under its number
pub taken_under : (n : ℕ) (es : List (ℕ × Pending)) (rs : List Pending) (r : Pending) → IsNumbered es → lookup (is_at (nat_cmp n)) es ≡ Some r →
    (pending_request n (values_of es ++ rs) ≡ Some r) × (values_of (remove_entry (is_at (nat_cmp n)) es) ++ rs ≡ without_pending n (values_of es ++ rs))
taken_under n es rs r h e = (
  request_in n es rs h ∙ ap (λ o. option_or o (pending_request n rs)) e,
  sym (others_in n es rs h ∙ ap (λ o. if is_some o then values_of (remove_entry (is_at (nat_cmp n)) es) ++ rs else values_of es ++ without_pending n rs) e),
)

-- one that is none of them stands behind
pub none_under : (n : ℕ) (es : List (ℕ × Pending)) (rs : List Pending) → IsNumbered es → lookup (is_at (nat_cmp n)) es ≡ None →
    (pending_request n (values_of es ++ rs) ≡ pending_request n rs) × (without_pending n (values_of es ++ rs) ≡ values_of es ++ without_pending n rs)
none_under n es rs h e = (
  request_in n es rs h ∙ ap (λ o. option_or o (pending_request n rs)) e,
  others_in n es rs h ∙ ap (λ o. if is_some o then values_of (remove_entry (is_at (nat_cmp n)) es) ++ rs else values_of es ++ without_pending n rs) e,
)

some_or : (o p : Option Pending) → is_some o ≡ true → true ≡ is_some (option_or o p)
some_or None p e = absurd (cc e)
some_or (Some r) p e = refl

none_or : (o p : Option Pending) → is_some o ≡ false → is_some p ≡ is_some (option_or o p)
none_or None p e = refl
none_or (Some r) p e = absurd (cc e)

-- one is there that stands under its number
pub has_under : (n : ℕ) (es : List (ℕ × Pending)) (rs : List Pending) → IsNumbered es → is_some (lookup (is_at (nat_cmp n)) es) ≡ true → true ≡ is_some (pending_request n (values_of es ++ rs))
has_under n es rs h e = some_or (lookup (is_at (nat_cmp n)) es) (pending_request n rs) e ∙ sym (ap (λ (o : Option Pending). is_some o) (request_in n es rs h))

there_behind : (n : ℕ) (rs : List Pending) (o : Option ℕ) → position (has_number n) rs ≡ o → is_some o ≡ is_some (pending_request n rs)
there_behind n rs None e = sym (ap (λ (o : Option Pending). is_some o) (none_there n rs e))
there_behind n rs (Some i) e = sym (ap (λ (o : Option Pending). is_some o) (found_there n rs i no_request e))

-- or behind them
pub has_behind : (n : ℕ) (es : List (ℕ × Pending)) (rs : List Pending) → IsNumbered es → is_some (lookup (is_at (nat_cmp n)) es) ≡ false → is_some (position (has_number n) rs) ≡ is_some (pending_request n (values_of es ++ rs))
has_behind n es rs h e =
    there_behind n rs (position (has_number n) rs) refl
    ∙ none_or (lookup (is_at (nat_cmp n)) es) (pending_request n rs) e
    ∙ sym (ap (λ (o : Option Pending). is_some o) (request_in n es rs h))

not_first : (b : Bool) (x : Pending) (o : Option Pending) → cond b (Some x) o ≡ None → (b ≡ false) × (o ≡ None)
not_first true x o h = absurd (cc h)
not_first false x o h = (refl, h)

pub none_removed : (n : ℕ) (es : List (ℕ × Pending)) → lookup (is_at (nat_cmp n)) es ≡ None → remove_entry (is_at (nat_cmp n)) es ≡ es
none_removed n [] h = refl
none_removed n (e ∷ es) h =
    let p = not_first (is_at (nat_cmp n) e.0) e.1 (lookup (is_at (nat_cmp n)) es) h in
    ap (λ b. cond b es (e ∷ remove_entry (is_at (nat_cmp n)) es)) p.0 ∙ ap (λ (xs : List (ℕ × Pending)). e ∷ xs) (none_removed n es p.1)

above : (n k : ℕ) → k < n → nat_cmp n k ≡ Greater
above n k lt =
    ap (λ (a : Bool). cond a Less (cond (n == k) Equal Greater)) (not_true (nat_lt n k) (λ e. grind (arith, nat_tests, lt, e)))
    ∙ ap (λ (b : Bool). cond b Equal Greater) (not_true (n == k) (λ e. grind (arith, nat_tests, lt, e)))

-- one whose number is above all comes last
behind_one : (n k : ℕ) (e : ℕ × Pending) (es new : List (ℕ × Pending)) (r : Pending) → k < n → match_ordering (nat_cmp n k) ((n, r) ∷ e ∷ es) ((e.0, r) ∷ es) (e ∷ new) ≡ e ∷ new
behind_one n k e es new r lt = ap (λ (o : Ordering). match_ordering o ((n, r) ∷ e ∷ es) ((e.0, r) ∷ es) (e ∷ new)) (above n k lt)

pub put_behind : (n : ℕ) (es : List (ℕ × Pending)) (r : Pending) → All (λ k. k < n) (keys_of es) → insert_entry nat_cmp es n r ≡ es ++ (n, r) ∷ []
put_behind n [] r h = refl
put_behind n (e ∷ es) r h =
    behind_one n e.0 e es (insert_entry nat_cmp es n r) r (h 0 e.0 (omega arith))
    ∙ ap (λ (xs : List (ℕ × Pending)). e ∷ xs) (put_behind n es r (λ k d lt. h (suc k) d (grind (arith, common_steps, lt))))

-- requests that are told keep their numbers
pub told_numbered : (about : Pid) (at moves : ℕ) (es : List (ℕ × Pending)) → IsNumbered es → IsNumbered (map (retargeted_entry about at moves) es)
told_numbered about at moves [] h = h
told_numbered about at moves (e ∷ es) h = (h.0, told_numbered about at moves es h.1)

pub told_both : (about : Pid) (at moves : ℕ) (es : List (ℕ × Pending)) (rs : List Pending) →
    values_of (map (retargeted_entry about at moves) es) ++ map (retargeted_pending about at moves) rs ≡ map (retargeted_pending about at moves) (values_of es ++ rs)
told_both about at moves [] rs = refl
told_both about at moves (e ∷ es) rs = ap (λ (xs : List Pending). retargeted_pending about at moves e.1 ∷ xs) (told_both about at moves es rs)
