-- Lists of messages of which those of one sort have ascending numbers.
use Rattle.dm_law_rule.proofs.Names.{◌≡◌, ℕ, ◌+◌, ◌≤◌, ◌<◌, ◌&&◌, Bool, true, false, List, [], ◌∷◌, ◌++◌, refl, ap, ◌∙◌, sym, inl, inr, arith, if◌then◌else◌, nat_le, cases_Bool, nat_tests, MsgId, drop, without_front, times, id_eq-same}
use Rattle.dm_law_rule.proofs.Names.{and_parts, both_true, append_assoc, ordered}
use Rattle.dm_law_rule.proofs.Once.{one_of}

-- the two ways of a first message
pub first_one : (g : MsgId → Bool) (from : ℕ) (i : MsgId) (is : List MsgId) → g i ≡ true → ordered g from (i ∷ is) ≡ true → (from ≤ i.n) × (ordered g (i.n + 1) is ≡ true)
first_one g from i is e h =
    let both = and_parts (nat_le from i.n) (ordered g (i.n + 1) is) (sym (ap (λ (c : Bool). if c then nat_le from i.n && ordered g (i.n + 1) is else ordered g from is) e) ∙ h) in
    let le : nat_le from i.n ≡ true = both.0 in (grind (arith, nat_tests), both.1)

pub first_not : (g : MsgId → Bool) (from : ℕ) (i : MsgId) (is : List MsgId) → g i ≡ false → ordered g from (i ∷ is) ≡ true → ordered g from is ≡ true
first_not g from i is e h = sym (ap (λ (c : Bool). if c then nat_le from i.n && ordered g (i.n + 1) is else ordered g from is) e) ∙ h

pub put_one : (g : MsgId → Bool) (from : ℕ) (i : MsgId) (is : List MsgId) → g i ≡ true → from ≤ i.n → ordered g (i.n + 1) is ≡ true → ordered g from (i ∷ is) ≡ true
put_one g from i is e le h =
    ap (λ (c : Bool). if c then nat_le from i.n && ordered g (i.n + 1) is else ordered g from is) e ∙ both_true (nat_le from i.n) (ordered g (i.n + 1) is) (let z : nat_le from i.n ≡ true = grind (arith, nat_tests) in z) h

pub put_not : (g : MsgId → Bool) (from : ℕ) (i : MsgId) (is : List MsgId) → g i ≡ false → ordered g from is ≡ true → ordered g from (i ∷ is) ≡ true
put_not g from i is e h = ap (λ (c : Bool). if c then nat_le from i.n && ordered g (i.n + 1) is else ordered g from is) e ∙ h

pub lower : (g : MsgId → Bool) (less from : ℕ) (is : List MsgId) → less ≤ from → ordered g from is ≡ true → ordered g less is ≡ true
lower g less from [] le h = refl
lower g less from (i ∷ is) le h = elim (cases_Bool (g i)) [
  | inl one ↦ let k = first_one g from i is one h in let f = k.0 in put_one g less i is one (omega (arith, le, f)) k.1
  | inr not_ ↦ put_not g less i is not_ (lower g less from is le (first_not g from i is not_ h))
]

-- without the first
pub drop_one : (g : MsgId → Bool) (from : ℕ) (i : MsgId) (is : List MsgId) → ordered g from (i ∷ is) ≡ true → ordered g from is ≡ true
drop_one g from i is h = search (arith, first_one, lower, i.n, first_not)

-- what stands before doesn't matter
pub context : (g : MsgId → Bool) (from : ℕ) (pre xs ys : List MsgId) → ((k : ℕ) → ordered g k xs ≡ true → ordered g k ys ≡ true) → ordered g from (pre ++ xs) ≡ true → ordered g from (pre ++ ys) ≡ true
context g from [] xs ys f h = f from h
context g from (i ∷ is) xs ys f h = elim (cases_Bool (g i)) [
  | inl one ↦ let k = first_one g from i (is ++ xs) one h in put_one g from i (is ++ ys) one k.0 (context g (i.n + 1) is xs ys f k.1)
  | inr not_ ↦ put_not g from i (is ++ ys) not_ (context g from is xs ys f (first_not g from i (is ++ xs) not_ h))
]

-- fewer are of the sort
pub narrower : (g h : MsgId → Bool) (from : ℕ) (is : List MsgId) → ((i : MsgId) → h i ≡ true → g i ≡ true) → ordered g from is ≡ true → ordered h from is ≡ true
narrower g h from [] f e = refl
narrower g h from (i ∷ is) f e = elim (cases_Bool (h i)) [
  | inl one ↦ let k = first_one g from i is (f i one) e in put_one h from i is one k.0 (narrower g h (i.n + 1) is f k.1)
  | inr not_ ↦ put_not h from i is not_ (narrower g h from is f (drop_one g from i is e))
]

-- without the end
pub shorter : (g : MsgId → Bool) (from : ℕ) (is rest : List MsgId) → ordered g from (is ++ rest) ≡ true → ordered g from is ≡ true
shorter g from [] rest h = refl
shorter g from (i ∷ is) rest h = elim (cases_Bool (g i)) [
  | inl one ↦ let k = first_one g from i (is ++ rest) one h in put_one g from i is one k.0 (shorter g (i.n + 1) is rest k.1)
  | inr not_ ↦ put_not g from i is not_ (shorter g from is rest (first_not g from i (is ++ rest) not_ h))
]

-- another sort's message in the midst
pub with_other : (g : MsgId → Bool) (from : ℕ) (is : List MsgId) (i : MsgId) (rest : List MsgId) → g i ≡ false → ordered g from (is ++ rest) ≡ true → ordered g from ((is ++ i ∷ []) ++ rest) ≡ true
with_other g from is i rest off h =
    ap (ordered g from) (append_assoc is (i ∷ []) rest) ∙ context g from is rest (i ∷ rest) (λ k e. put_not g k i rest off e) h

-- others before
pub others_first : (g : MsgId → Bool) (from : ℕ) (others is : List MsgId) → ((i : MsgId) → 1 ≤ times i others → g i ≡ false) → ordered g from is ≡ true → ordered g from (others ++ is) ≡ true
others_first g from [] is off h = h
others_first g from (j ∷ js) is off h =
    put_not g from j (js ++ is) (off j (let one : one_of j j ≡ 1 = ap (λ (c : Bool). if c then 1 else 0) (id_eq-same j) in omega (arith, one))) (others_first g from js is (λ i least. off i (omega (arith, least))) h)

-- the last gives way to a later one, or that comes behind it
pub last_later : (g : MsgId → Bool) (from : ℕ) (is : List MsgId) (i j : MsgId) → g i ≡ true → i.n ≤ j.n → ordered g from (is ++ i ∷ []) ≡ true → ordered g from (is ++ j ∷ []) ≡ true
last_later g from is i j one le h = context g from is (i ∷ []) (j ∷ []) (λ k e. elim (cases_Bool (g j)) [
  | inl same ↦ (let f = (first_one g k i [] one e).0 in put_one g k j [] same (omega (arith, le, f)) refl)
  | inr not_ ↦ put_not g k j [] not_ refl
]) h

pub last_more : (g : MsgId → Bool) (from : ℕ) (is : List MsgId) (i j : MsgId) → g i ≡ true → i.n < j.n → ordered g from (is ++ i ∷ []) ≡ true → ordered g from (is ++ (i ∷ j ∷ [])) ≡ true
last_more g from is i j one less h = context g from is (i ∷ []) (i ∷ j ∷ []) (λ k e. put_one g k i (j ∷ []) one (first_one g k i [] one e).0 (elim (cases_Bool (g j)) [
  | inl same ↦ put_one g (i.n + 1) j [] same (omega (arith, less)) refl
  | inr not_ ↦ put_not g (i.n + 1) j [] not_ refl
])) h

-- a list of which less is left
abbrev pub Thinner : List MsgId → List MsgId → Type 0
Thinner xs ys = (g : MsgId → Bool) (from : ℕ) (rest : List MsgId) → ordered g from (ys ++ rest) ≡ true → ordered g from (xs ++ rest) ≡ true

pub thinner_front : (i : MsgId) (xs : List MsgId) → Thinner (without_front i xs) xs
thinner_front i xs = search (arith, drop_one)

pub thinner_first : (xs : List MsgId) → Thinner (drop 1 xs) xs
thinner_first [] g from rest h = h
thinner_first (x ∷ xs) g from rest h = drop_one g from x (xs ++ rest) h
