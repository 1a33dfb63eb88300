-- How many messages of lists are for a server, and sums of such numbers over the first machines.
use Rattle.dm_law_always.proofs.Names.{◌≡◌, ℕ, zero, suc, ◌+◌, ◌*◌, ◌≤◌, ◌<◌, ◌==◌, ◌&&◌, Bool, true, false, List, [], ◌∷◌, ◌++◌, length, refl, ap, ◌∙◌, sym, subst, inl, inr, arith, nat_tests, if◌then◌else◌, drop, slice_get, Option, None, Some, cases_Bool, option_map_or, Pid}
use Rattle.dm_law_always.proofs.Names.{pid_eq, MsgId, id_eq, id_eq-same, times, View, Told, Pair, without_front, first_of, at_machine, at_pair, eq_is, parts, receiver_of, pid_eq-same, none_some}
use Rattle.dm_law_always.specs.Sizes.{for_it, count_for}
use Rattle.dm_line.specs.Each.{sum_below}

-- what was told of a message decides
it_same : (v w : View) (p : Pid) (i : MsgId) → w.told i ≡ v.told i → for_it w p i ≡ for_it v p i
it_same v w p i e = ap (λ (o : Option Told). option_map_or (λ (t : Told). if pid_eq t.receiver p then 1 else 0) o 0) e

pub count_same : (v w : View) (p : Pid) (xs : List MsgId) → ((i : MsgId) → 1 ≤ times i xs → w.told i ≡ v.told i) → count_for w p xs ≡ count_for v p xs
count_same v w p [] same = refl
count_same v w p (x ∷ xs) same =
    let first = it_same v w p x (same x (first_of x xs)) in
    let rest = count_same v w p xs (λ i least. same i (omega (arith, least))) in
    omega (arith, first, rest)

-- more is told of
it_more : (p : Pid) (o q : Option Told) → ((t : Told) → o ≡ Some t → q ≡ Some t) → option_map_or (λ (t : Told). if pid_eq t.receiver p then 1 else 0) o 0 ≤ option_map_or (λ (t : Told). if pid_eq t.receiver p then 1 else 0) q 0
it_more p None q kept = omega arith
it_more p (Some t) q kept = let e = ap {B = ℕ} (λ (o : Option Told). option_map_or (λ (t : Told). if pid_eq t.receiver p then 1 else 0) o 0) (kept t refl) in omega (arith, e)

pub count_more : (v w : View) (p : Pid) (xs : List MsgId) → ((i : MsgId) (t : Told) → v.told i ≡ Some t → w.told i ≡ Some t) → count_for v p xs ≤ count_for w p xs
count_more v w p [] kept = omega arith
count_more v w p (x ∷ xs) kept =
    let first = it_more p (v.told x) (w.told x) (kept x) in
    let rest = count_more v w p xs kept in
    omega (arith, first, rest)

pub count_append : (v : View) (p : Pid) (xs ys : List MsgId) → count_for v p (xs ++ ys) ≡ count_for v p xs + count_for v p ys
count_append v p [] ys = omega arith
count_append v p (x ∷ xs) ys = let h = count_append v p xs ys in omega (arith, h)

-- one message is for a server, or none
it_one : (p : Pid) (o : Option Told) → option_map_or (λ (t : Told). if pid_eq t.receiver p then 1 else 0) o 0 ≤ 1
it_one p None = omega arith
it_one p (Some t) = by (pid_eq t.receiver p)
  where
    by : (c : Bool) → (if c then 1 else 0) ≤ 1
    by true = omega arith
    by false = omega arith

pub count_length : (v : View) (p : Pid) (xs : List MsgId) → count_for v p xs ≤ length xs
count_length v p [] = omega arith
count_length v p (x ∷ xs) =
    let one = it_one p (v.told x) in
    let rest = count_length v p xs in
    omega (arith, one, rest)

-- those for another are none for it
it_none : (v : View) (p q : Pid) (i : MsgId) → receiver_of (v.told i) ≡ Some q → pid_eq q p ≡ false → for_it v p i ≡ 0
it_none v p q i to off = by (v.told i) to
  where
    by : (o : Option Told) → receiver_of o ≡ Some q → ◌≡◌ {A = ℕ} (option_map_or (λ (t : Told). if pid_eq t.receiver p then 1 else 0) o 0) 0
    by None e = cc
    by (Some t) e = let f : t.receiver ≡ q = cc in ap {B = ℕ} (λ (r : Pid). if pid_eq r p then 1 else 0) f ∙ ap {B = ℕ} (λ (c : Bool). if c then 1 else 0) off

pub count_none : (v : View) (p q : Pid) (xs : List MsgId) → pid_eq q p ≡ false → ((i : MsgId) → 1 ≤ times i xs → receiver_of (v.told i) ≡ Some q) → count_for v p xs ≡ 0
count_none v p q [] off for = refl
count_none v p q (x ∷ xs) off for =
    let first = it_none v p q x (for x (first_of x xs)) off in
    let rest = count_none v p q xs off (λ i least. for i (omega (arith, least))) in
    omega (arith, first, rest)

-- and one for it counts
pub it_is : (v : View) (p : Pid) (i : MsgId) (t : Told) → v.told i ≡ Some t → t.receiver ≡ p → for_it v p i ≡ 1
it_is v p i t told to =
    ap (λ (o : Option Told). option_map_or (λ (t : Told). if pid_eq t.receiver p then 1 else 0) o 0) told ∙ ap (λ (r : Pid). if pid_eq r p then 1 else 0) to ∙ ap (λ (c : Bool). if c then 1 else 0) (pid_eq-same p)

-- the front goes
pub front_less : (v : View) (p : Pid) (id : MsgId) (xs : List MsgId) → count_for v p (without_front id xs) ≤ count_for v p xs
front_less v p id [] = omega arith
front_less v p id (x ∷ xs) = by (id_eq id x)
  where
    by : (c : Bool) → count_for v p (if c then xs else x ∷ xs) ≤ count_for v p (x ∷ xs)
    by true = omega arith
    by false = omega arith

pub front_one : (v : View) (p : Pid) (id : MsgId) (xs : List MsgId) → for_it v p id + count_for v p (without_front id (id ∷ xs)) ≡ count_for v p (id ∷ xs)
front_one v p id xs = ap (λ (c : Bool). for_it v p id + count_for v p (if c then xs else id ∷ xs)) (id_eq-same id)

pub first_less : (v : View) (p : Pid) (xs : List MsgId) → count_for v p (drop 1 xs) ≤ count_for v p xs
first_less v p [] = omega arith
first_less v p (x ∷ xs) = omega arith

-- what is left behind so many
drop_none : (v : View) (p : Pid) (k : ℕ) → count_for v p (drop k []) ≡ 0
drop_none v p zero = refl
drop_none v p (suc k) = refl

pub drop_one : (v : View) (p : Pid) (xs : List MsgId) (k : ℕ) (i : MsgId) → slice_get xs k ≡ Some i → count_for v p (drop k xs) ≡ for_it v p i + count_for v p (drop (suc k) xs)
drop_one v p [] k i e = none_some i e
drop_one v p (x ∷ xs) zero i e = let f : x ≡ i = cc in ap (λ (j : MsgId). for_it v p j + count_for v p xs) f
drop_one v p (x ∷ xs) (suc k) i e = drop_one v p xs k i e

pub drop_less : (v : View) (p : Pid) (xs : List MsgId) (k : ℕ) → count_for v p (drop (suc k) xs) ≤ count_for v p (drop k xs)
drop_less v p [] k = let e = drop_none v p k in let f = drop_none v p (suc k) in omega (arith, e, f)
drop_less v p (x ∷ xs) zero = omega arith
drop_less v p (x ∷ xs) (suc k) = drop_less v p xs k

pub drop_last : (v : View) (p : Pid) (id : MsgId) (xs : List MsgId) (k : ℕ) → count_for v p (drop k (xs ++ id ∷ [])) ≤ count_for v p (drop k xs) + for_it v p id
drop_last v p id [] zero = omega arith
drop_last v p id [] (suc k) = let e = drop_none v p k in omega (arith, e)
drop_last v p id (x ∷ xs) zero = let h = count_append v p xs (id ∷ []) in omega (arith, h)
drop_last v p id (x ∷ xs) (suc k) = drop_last v p id xs k

pub drop_full : (v : View) (p : Pid) (xs : List MsgId) (k : ℕ) → length xs ≤ k → count_for v p (drop k xs) ≡ 0
drop_full v p [] k le = drop_none v p k
drop_full v p (x ∷ xs) zero le = absurd (omega (arith, le))
drop_full v p (x ∷ xs) (suc k) le = drop_full v p xs k (omega (arith, le))

-- sums over the first machines
pub sum_same : (f g : ℕ → ℕ) (n : ℕ) → ((c : ℕ) → f c ≡ g c) → sum_below f n ≡ sum_below g n
sum_same f g zero same = refl
sum_same f g (suc n) same =
    let rest = sum_same f g n same in
    let last = same n in
    omega (arith, rest, last)

pub sum_pairs : (f g h k : ℕ → ℕ) (n : ℕ) → ((c : ℕ) → f c + g c ≤ h c + k c) → sum_below f n + sum_below g n ≤ sum_below h n + sum_below k n
sum_pairs f g h k zero less = omega arith
sum_pairs f g h k (suc n) less =
    let rest = sum_pairs f g h k n less in
    let last = less n in
    omega (arith, rest, last)

pub sum_at : (f g h k : ℕ → ℕ) (n a d : ℕ) → ((c : ℕ) → f c + g c ≤ h c + k c) → a < n → (f a + g a) + d ≤ h a + k a → (sum_below f n + sum_below g n) + d ≤ sum_below h n + sum_below k n
sum_at f g h k zero a d less lt mine = absurd (omega (arith, lt))
sum_at f g h k (suc n) a d less lt mine = elim (cases_Bool (a == n)) [
  | inl same ↦
      let rest = sum_pairs f g h k n less in
      let last : (f n + g n) + d ≤ h n + k n = subst (λ (x : ℕ). (f x + g x) + d ≤ h x + k x) (eq_is a n same) mine in
      omega (arith, rest, last)
  | inr off ↦
      let lower : a < n = grind (arith, nat_tests) in
      let rest = sum_at f g h k n a d less lower mine in
      let last = less n in
      omega (arith, rest, last)
]

-- no machine has had more than 2^20 from another
pub sum_most : (f : ℕ → ℕ) (n : ℕ) → ((c : ℕ) → f c ≤ 1048576) → sum_below f n ≤ n * 1048576
sum_most f zero less = omega arith
sum_most f (suc n) less =
    let rest = sum_most f n less in
    let last = less n in
    omega (arith, rest, last)

-- one machine's list, and one pair
pub machine_less : (v : View) (p : Pid) (f : ℕ → List MsgId) (a : ℕ) (xs : List MsgId) → count_for v p xs ≤ count_for v p (f a) → (m : ℕ) → count_for v p (at_machine f a xs m) ≤ count_for v p (f m)
machine_less v p f a xs less m = elim (cases_Bool (a == m)) [
  | inl same ↦
      let new = ap (λ (c : Bool). count_for v p (if c then xs else f m)) same in
      let old = ap (λ (k : ℕ). count_for v p (f k)) (eq_is a m same) in
      omega (arith, less, new, old)
  | inr off ↦ let new = ap (λ (c : Bool). count_for v p (if c then xs else f m)) off in omega (arith, new)
]

pub pair_cases : (Q : Pair → Type 0) (f : ℕ → ℕ → Pair) (a b : ℕ) (x : Pair) (c d : ℕ) → (a ≡ c → b ≡ d → Q x) → Q (f c d) → Q (at_pair f a b x c d)
pair_cases Q f a b x c d mine other = elim (cases_Bool ((a == c) && (b == d))) [
  | inl same ↦ let both = parts (a == c) (b == d) same in subst Q (sym (ap (λ (t : Bool). if t then x else f c d) same)) (mine (eq_is a c both.0) (eq_is b d both.1))
  | inr off ↦ subst Q (sym (ap (λ (t : Bool). if t then x else f c d) off)) other
]
