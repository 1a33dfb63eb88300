-- Names that stand for each other.
use Rattle.dm_law_one.proofs.Names.{◌≡◌, ℕ, ◌+◌, Bool, true, false, refl, ap, ◌∙◌, sym, subst, nat_lt, inl, inr, arith, Option, Some, cases_Bool, false≢true, nat_tests, Pid, MsgId, id_eq, id_of, answer_id}
use Rattle.dm_law_one.proofs.Equal.{id_eq-is, id_eq-same}
use Rattle.dm_law_alike.specs.Alike.{Renaming, KeepsOrder, GoOn, Stands}

pub some_same : {A : Type 0} (x y : A) → Some x ≡ Some y → x ≡ y
some_same x y e = cc

-- what stands for two numbers stands for one
pub one_number : (r : Renaming) (p : Pid) (m n a : ℕ) → KeepsOrder r → r p m ≡ Some a → r p n ≡ Some a → m ≡ n
one_number r p m n a h f g =
    let u = h.order p m n a a f g in
    let v = h.order p n m a a g f in
    let w : nat_lt a a ≡ false = grind (arith, nat_tests) in
    grind (arith, nat_tests)

pub id_is : (i j : MsgId) → i.from ≡ j.from → i.n ≡ j.n → i.answer ≡ j.answer → i ≡ j
id_is i j f n a = λ k. record { from = f k; n = n k; answer = a k }

-- one name stands for a name
pub stands_one : (r : Renaming) (i j k : MsgId) → Stands r i j → Stands r i k → j ≡ k
stands_one r i j k a b = id_is j k (a.from ∙ sym b.from) (some_same j.n k.n (sym a.n ∙ b.n)) (a.answer ∙ sym b.answer)

-- and it stands for one
pub stands_for_one : (r : Renaming) (i k j : MsgId) → KeepsOrder r → Stands r i j → Stands r k j → i ≡ k
stands_for_one r i k j h a b =
    let from : i.from ≡ k.from = sym a.from ∙ b.from in
    let moved : r i.from k.n ≡ Some j.n = ap (λ p. r p k.n) from ∙ b.n in
    id_is i k from (one_number r i.from i.n k.n j.n h a.n moved) (sym a.answer ∙ b.answer)

pub apart_if : (b : Bool) → (b ≡ true → ⊥) → b ≡ false
apart_if true h = absurd (h refl)
apart_if false h = refl

-- tests for equality agree
pub stands_eq : (r : Renaming) (i j a b : MsgId) → KeepsOrder r → Stands r i j → Stands r a b → id_eq j b ≡ id_eq i a
stands_eq r i j a b h f g = elim (cases_Bool (id_eq i a)) [
  | inl same ↦
      let is : i ≡ a = id_eq-is i a same in
      let jb : j ≡ b = stands_one r a j b (subst (λ v. Stands r v j) is f) g in
      ap (λ v. id_eq v b) jb ∙ id_eq-same b ∙ sym same
  | inr apart ↦
      apart_if (id_eq j b) (λ same.
      let jb : j ≡ b = id_eq-is j b same in
      let ia : i ≡ a = stands_for_one r i a b h (subst (λ v. Stands r i v) jb f) g in
      false≢true (sym apart ∙ ap (λ v. id_eq v a) ia ∙ id_eq-same a)) ∙ sym apart
]

-- answers stand for each other as requests do
pub answer_stands : (r : Renaming) (i j : MsgId) → Stands r i j → Stands r (answer_id i) (answer_id j)
answer_stands r i j h = record { from = h.from; n = h.n; answer = refl }

-- the number that comes next
pub goes_here : (f : ℕ → Option ℕ) (a b : ℕ) → GoOn f a b → f a ≡ Some b
goes_here f a b h = let z : a + 0 ≡ a = omega arith in let w : b + 0 ≡ b = omega arith in sym (ap f z) ∙ h 0 ∙ ap Some w

pub goes_further : (f : ℕ → Option ℕ) (a b : ℕ) → GoOn f a b → GoOn f (a + 1) (b + 1)
goes_further f a b h k = let z : (a + 1) + k ≡ a + (1 + k) = omega arith in let w : b + (1 + k) ≡ (b + 1) + k = omega arith in ap f z ∙ h (1 + k) ∙ ap Some w

pub own_stands : (r : Renaming) (p : Pid) (a b : ℕ) → GoOn (r p) a b → Stands r (id_of p a) (id_of p b)
own_stands r p a b h = record { from = refl; n = goes_here (r p) a b h; answer = refl }
