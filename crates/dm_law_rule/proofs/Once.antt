-- Each message still stands once after one has come, gone or moved.
use Rattle.dm_law_rule.proofs.Names.{◌≡◌, ◌≢◌, ℕ, ◌+◌, true, false, ap, ◌∙◌, sym, arith, subst, if◌then◌else◌, cases_Bool, inl, inr, nat_tests, Option, None, Some, MsgId, id_eq, Pid, View, Spot, times, ids_at, standing, StandsOnce}
use Rattle.dm_law_rule.proofs.Names.{StandsNowhere, StandsAsBag, id_eq-same, id_eq-is, id_eq-swap}
use Rattle.dm_law_rule.proofs.Standing.{comes, goes, moves, spot_cases, once_as, StandsAsBag-same, StandsAsBag-once}

-- 1 for the message itself
abbrev pub one_of : MsgId → MsgId → ℕ
one_of i id = if id_eq i id then 1 else 0

-- the bag knows the same of all other messages
abbrev pub SameBut : MsgId → (MsgId → Option Pid) → (MsgId → Option Pid) → Type 0
SameBut id bag bag' = (i : MsgId) → id_eq id i ≡ false → bag' i ≡ bag i

abbrev pub Kept : (MsgId → Option Pid) → View → Type 0
Kept bag v = (i : MsgId) → StandsAsBag (bag i) (standing v i)

pub one_of-off : (i id : MsgId) → id_eq id i ≡ false → one_of i id ≡ 0
one_of-off i id e = let h : id_eq i id ≡ false = id_eq-swap i id ∙ e in grind (arith, nat_tests)

pub one_of-same : (id : MsgId) → one_of id id ≡ 1
one_of-same id = let h : id_eq id id ≡ true = id_eq-same id in grind (arith, nat_tests)

pub once_stays : (v v' : View) (bag bag' : MsgId → Option Pid) → ((i : MsgId) → bag' i ≡ bag i) → ((z : Spot) → ids_at v' z ≡ ids_at v z) → Kept bag v → Kept bag' v'
once_stays v v' bag bag' same off kept i =
    subst (λ (m : Option Pid). StandsAsBag m (standing v' i)) (sym (same i)) (StandsAsBag-same (bag i) (standing v i) (standing v' i) (λ z. ap (times i) (off z)) (kept i))

pub once_comes : (v v' : View) (bag bag' : MsgId → Option Pid) (id : MsgId) (y : Spot) (pm : Pid)
    → bag id ≡ None → bag' id ≡ Some pm → SameBut id bag bag'
    → ((i : MsgId) → times i (ids_at v' y) ≡ times i (ids_at v y) + one_of i id)
    → ((z : Spot) → z ≢ y → ids_at v' z ≡ ids_at v z) → Kept bag v → Kept bag' v'
once_comes v v' bag bag' id y pm fresh new same at_y off kept i = elim (cases_Bool (id_eq id i)) [
  | inl is ↦
      let some_once : (m : Option Pid) (pm : Pid) (f : Spot → ℕ) → m ≡ Some pm → StandsOnce f → StandsAsBag m f = λ m pm f e h. subst (λ (n : Option Pid). StandsAsBag n f) (sym e) h in
      subst (λ (j : MsgId). StandsAsBag (bag' j) (standing v' j)) (id_eq-is id i is)
      (some_once (bag' id) pm (standing v' id) new
      (comes (standing v id) (standing v' id) y (at_y id ∙ ap (λ (n : ℕ). standing v id y + n) (one_of-same id)) (λ z apart. ap (times id) (off z apart))
      (subst (λ (n : Option Pid). StandsAsBag n (standing v id)) fresh (kept id))))
  | inr apart ↦
      subst (λ (m : Option Pid). StandsAsBag m (standing v' i)) (sym (same i apart))
      (StandsAsBag-same (bag i) (standing v i) (standing v' i) (λ z. (search (arith, spot_cases, one_of-off))) (kept i))
]

pub once_goes : (v v' : View) (bag bag' : MsgId → Option Pid) (id : MsgId) (x : Spot)
    → bag' id ≡ None → SameBut id bag bag'
    → ((i : MsgId) → times i (ids_at v x) ≡ times i (ids_at v' x) + one_of i id)
    → ((z : Spot) → z ≢ x → ids_at v' z ≡ ids_at v z) → Kept bag v → Kept bag' v'
once_goes v v' bag bag' id x gone same at_x off kept i = elim (cases_Bool (id_eq id i)) [
  | inl is ↦
      let none_nowhere : (m : Option Pid) (f : Spot → ℕ) → m ≡ None → StandsNowhere f → StandsAsBag m f = λ m f e h. subst (λ (n : Option Pid). StandsAsBag n f) (sym e) h in
      subst (λ (j : MsgId). StandsAsBag (bag' j) (standing v' j)) (id_eq-is id i is)
      (none_nowhere (bag' id) (standing v' id) gone
      (let e : standing v id x ≡ standing v' id x + 1 = at_x id ∙ ap (λ (n : ℕ). standing v' id x + n) (one_of-same id) in
      goes (standing v id) (standing v' id) x e (λ z apart. ap (times id) (off z apart))
      (StandsAsBag-once (bag id) (standing v id) x (omega (arith, e)) (kept id))))
  | inr apart ↦
      subst (λ (m : Option Pid). StandsAsBag m (standing v' i)) (sym (same i apart))
      (StandsAsBag-same (bag i) (standing v i) (standing v' i) (λ z. (search (arith, spot_cases, one_of-off))) (kept i))
]

pub once_moves : (v v' : View) (bag bag' : MsgId → Option Pid) (id : MsgId) (x y : Spot) → x ≢ y
    → ((i : MsgId) → bag' i ≡ bag i)
    → ((i : MsgId) → times i (ids_at v x) ≡ times i (ids_at v' x) + one_of i id)
    → ((i : MsgId) → times i (ids_at v' y) ≡ times i (ids_at v y) + one_of i id)
    → ((z : Spot) → z ≢ x → z ≢ y → ids_at v' z ≡ ids_at v z) → Kept bag v → Kept bag' v'
once_moves v v' bag bag' id x y ne same at_x at_y off kept i = subst (λ (m : Option Pid). StandsAsBag m (standing v' i)) (sym (same i)) (elim (cases_Bool (id_eq id i)) [
  | inl is ↦
      let e : standing v id x ≡ standing v' id x + 1 = at_x id ∙ ap (λ (n : ℕ). standing v' id x + n) (one_of-same id) in
      subst (λ (j : MsgId). StandsAsBag (bag j) (standing v' j)) (id_eq-is id i is)
      (once_as (bag id) (standing v id) (standing v' id) x (omega (arith, e)) (kept id)
      (moves (standing v id) (standing v' id) x y ne e (at_y id ∙ ap (λ (n : ℕ). standing v id y + n) (one_of-same id)) (λ z other apart. ap (times id) (off z other apart))))
  | inr apart ↦
      StandsAsBag-same (bag i) (standing v i) (standing v' i) (λ z. (search (arith, spot_cases, one_of-off))) (kept i)
])
