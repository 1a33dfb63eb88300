-- How many messages were routed, pair by pair and in all: no line takes any away, and a route adds one.
use Rattle.dm_law_mirror.proofs.Names.{◌≡◌, inl, inr, ℕ, zero, suc, ◌+◌, ◌*◌, ◌<◌, ◌≤◌, ◌==◌, length, ap, subst, arith, cases_Bool, nat_tests, Pid, MsgId, MessageKind, Line, View, Pair, view_after, eq_is, OneKernel, seen}
use Rattle.dm_law_rule.proofs.Lines.{parts}
use Rattle.dm_law_rule.specs.View as view
use Rattle.dm_law_mirror.proofs.RaisesMade.{append-longer}

-- how many messages were routed from a to c
abbrev pub ids_of : View → ℕ → ℕ → ℕ
ids_of v a c = length (v.pair a c).ids

pub record Grows (v w : View) : Type 0 where
  pub ids : (a c : ℕ) → ids_of v a c ≤ ids_of w a c

pub grows_same : (v w : View) → w.pair ≡ v.pair → Grows v w
grows_same v w e = record { ids = λ a c. let f : ids_of w a c ≡ ids_of v a c = ap (λ (p : ℕ → ℕ → Pair). length (p a c).ids) e in omega (arith, f) }

pub grows_on : (u v w : View) → Grows u v → Grows v w → Grows u w
grows_on u v w h k = record { ids = λ a c. omega (arith, h.ids a c, k.ids a c) }

pub line_grows : (v : View) (l : Line) → Grows v (view_after v l)
line_grows v l = record { ids = λ a c. grind (arith, nat_tests, append-longer, parts, eq_is) }

-- the topic is no part of it
pub seen_grows : (s : OneKernel) (v : View) (l : Line) → Grows v (seen s v l)
seen_grows s v l = record { ids = (line_grows v l).ids }

-- a route adds one
pub put_adds : (v : View) (a b : ℕ) (i : MsgId) (k : MessageKind) (q : Pid) → ids_of (view.after_put v a b i k q) a b ≡ ids_of v a b + 1
put_adds v a b i k q = grind (arith, nat_tests, append-longer)

-- sums over the first so many
abbrev pub sum_to : ℕ → (ℕ → ℕ) → ℕ
sum_to zero f = 0
sum_to (suc n) f = sum_to n f + f n

sum_less : (n : ℕ) (f g : ℕ → ℕ) → ((i : ℕ) → f i ≤ g i) → sum_to n f ≤ sum_to n g
sum_less zero f g le = omega arith
sum_less (suc n) f g le = let h = sum_less n f g le in let k = le n in omega (arith, h, k)

pub sum_more : (n : ℕ) (f g : ℕ → ℕ) (j : ℕ) → ((i : ℕ) → f i ≤ g i) → j < n → f j + 1 ≤ g j → sum_to n f + 1 ≤ sum_to n g
sum_more zero f g j le within more = absurd (omega (arith, within))
sum_more (suc n) f g j le within more = elim (cases_Bool (j == n)) [
  | inl same ↦
      let here : f n + 1 ≤ g n = subst (λ m. f m + 1 ≤ g m) (eq_is j n same) more in
      omega (arith, sum_less n f g le, here)
  | inr apart ↦ omega (arith, sum_more n f g j le (grind (arith, nat_tests)) more, le n)
]

sum_most : (n c : ℕ) (f : ℕ → ℕ) → ((i : ℕ) → f i ≤ c) → sum_to n f ≤ n * c
sum_most zero c f le = omega arith
sum_most (suc n) c f le = let h = sum_most n c f le in let k = le n in omega (arith, h, k)

-- all that was routed between the first n machines
abbrev pub from_one : View → ℕ → ℕ → ℕ
from_one v n a = sum_to n (ids_of v a)

abbrev pub total : View → ℕ → ℕ
total v n = sum_to n (from_one v n)

pub total_grows : (v w : View) (n : ℕ) → Grows v w → total v n ≤ total w n
total_grows v w n h = sum_less n (from_one v n) (from_one w n) (λ a. sum_less n (ids_of v a) (ids_of w a) (λ c. h.ids a c))

pub total_adds : (v w : View) (n a c : ℕ) → Grows v w → a < n → c < n → ids_of v a c + 1 ≤ ids_of w a c → total v n + 1 ≤ total w n
total_adds v w n a c h within_a within_c more =
    sum_more n (from_one v n) (from_one w n) a (λ b. sum_less n (ids_of v b) (ids_of w b) (λ d. h.ids b d)) within_a
    (sum_more n (ids_of v a) (ids_of w a) c (λ d. h.ids a d) within_c more)

-- 16 machines, and at most 2^20 messages a pair
pub total_most : (v : View) (n : ℕ) → n ≤ 16 → ((a c : ℕ) → ids_of v a c ≤ 1048576) → total v n ≤ 268435456
total_most v n few le =
    let one : (a : ℕ) → from_one v n a ≤ 16777216 = λ a. (let h = sum_most n 1048576 (ids_of v a) (le a) in omega (arith, h, few)) in
    let all = sum_most n 16777216 (from_one v n) one in
    omega (arith, all, few)
