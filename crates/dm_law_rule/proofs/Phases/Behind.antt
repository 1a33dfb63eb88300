-- What one kernel tells another stands in the order in which it was put: nothing that was put before stands behind the front.
use Rattle.dm_law_rule.proofs.Names.{◌≡◌, ℕ, ◌+◌, ◌≤◌, ◌<◌, ◌==◌, Bool, true, false, List, [], ◌∷◌, ◌++◌, ap, ◌∙◌, sym, subst, inl, inr, arith, if◌then◌else◌, cases_Bool, Option, Some, Pid, pid_of, pid_eq, pid_eq-same, MsgId, View, Told, Spot}
use Rattle.dm_law_rule.proofs.Names.{Inbox, times, untaken, standing, is_between, id_eq, id_eq-is, false_from_ne_true, both_true, option_map_or, ordered, IsWay}
use Rattle.dm_law_rule.proofs.Standing.{times-append}
use Rattle.dm_law_rule.proofs.Once.{one_of}
use Rattle.dm_law_rule.proofs.Ordered.{first_one, first_not}
use Rattle.dm_law_rule.proofs.Phases.Ranked.{Ranked, may_be, next_of}

-- each of the sort in a list has the number from which the list ascends, or a higher one
ordered_least : (g : MsgId → Bool) (from : ℕ) (is : List MsgId) (j : MsgId) → ordered g from is ≡ true → g j ≡ true → 1 ≤ times j is → from ≤ j.n
ordered_least g from [] j h mine there = absurd (omega (arith, there))
ordered_least g from (i ∷ is) j h mine there = elim (cases_Bool (id_eq j i)) [
  | inl same ↦
      let ji : j ≡ i = id_eq-is j i same in
      let le : from ≤ i.n = (first_one g from i is (ap g (sym ji) ∙ mine) h).0 in omega (arith, le, ap (λ (x : MsgId). x.n) ji)
  | inr apart ↦
      let zero_ : one_of j i ≡ 0 = ap (λ (c : Bool). if c then 1 else 0) apart in
      let rest : 1 ≤ times j is = omega (arith, there, zero_) in
      elim (cases_Bool (g i)) [
        | inl one ↦ let k = first_one g from i is one h in let le = k.0 in let more : i.n + 1 ≤ j.n = ordered_least g (i.n + 1) is j k.1 mine rest in omega (arith, le, more)
        | inr not_ ↦ ordered_least g from is j (first_not g from i is not_ h) mine rest
      ]
]

may_of : (v : View) (a : ℕ) (i : MsgId) (t : Told) → i.from ≡ pid_of a 0 → v.told i ≡ Some t → is_between t.kind ≡ true → may_be v a i ≡ true
may_of v a i t from told b =
    both_true (pid_eq i.from (pid_of a 0)) (option_map_or (λ t. is_between t.kind) (v.told i) true) (ap (λ (q : Pid). pid_eq q (pid_of a 0)) from ∙ pid_eq-same (pid_of a 0)) (ap (λ (o : Option Told). option_map_or (λ t. is_between t.kind) o true) told ∙ b)

-- the front of an inbox, and another of the same kernel that stands on the same way
pub never_behind : (v : View) (a c : ℕ) (i : MsgId) (is : List MsgId) (t : Told) (j : MsgId) (x : Told) (z : Spot) → Ranked v → (a == c) ≡ false → v.inbox c ≡ i ∷ is → i.from ≡ pid_of a 0 → v.told i ≡ Some t → is_between t.kind ≡ true
    → IsWay v j a c → v.told j ≡ Some x → is_between x.kind ≡ true → 1 ≤ standing v j z → j.n < i.n → ⊥
never_behind v a c i is t j x z ranked apart front from told b way told_j bj st less =
    let g = may_be v a in
    let rest = untaken (v.pair a c) ++ next_of v a ∷ [] in
    let order : ordered g 0 (i ∷ (is ++ rest)) ≡ true = ap (λ (xs : List MsgId). ordered g 0 (xs ++ rest)) (sym front) ∙ ranked.order a c apart in
    let behind : ordered g (i.n + 1) (is ++ rest) ≡ true = (first_one g 0 i (is ++ rest) (may_of v a i t from told b) order).1 in
    let off : id_eq j i ≡ false = false_from_ne_true (id_eq j i) (λ e. let same : j.n ≡ i.n = ap (λ (y : MsgId). y.n) (id_eq-is j i e) in omega (arith, less, same)) in
    let zero_ : one_of j i ≡ 0 = ap (λ (c : Bool). if c then 1 else 0) off in
    let sum = times-append j is rest in
    let more = times-append j (untaken (v.pair a c)) (next_of v a ∷ []) in
    let there : 1 ≤ times j (is ++ rest) = elim (way.ways z st) [
      | inl box ↦ (let here : 1 ≤ times j (i ∷ is) = (let e : times j (v.inbox c) ≡ times j (i ∷ is) = ap (times j) front in let st_ : 1 ≤ standing v j (Inbox c) = subst (λ (y : Spot). 1 ≤ standing v j y) box st in omega (arith, e, st_)) in omega (arith, here, zero_, sum))
      | inr away ↦ (let st_ : 1 ≤ times j (untaken (v.pair a c)) = subst (λ (y : Spot). 1 ≤ standing v j y) away st in omega (arith, st_, sum, more))
    ] in
    let le = ordered_least g (i.n + 1) (is ++ rest) j behind (may_of v a j x way.sender told_j bj) there in
    omega (arith, le, less)
