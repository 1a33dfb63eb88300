-- The rule decides whether a run comes to its end, and between which machines it is worn.
use Rattle.dm_program.proofs.Runs.Names.{◌≡◌, ◌≤◌, ℕ, zero, suc, ◌⊎◌, inl, inr, List, [], ◌∷◌, length, ap, ◌∙◌, sym, arith, None, Some, Boot, Line, Two, Todo, Next, IsRun, Point, Spelled, group_of, IsWorn, worn_in, shorter_begins, next_step}
use Rattle.dm_program.proofs.Names.{group_over}

-- a run stands before a directive that would be worn
pub record Wearing (b : Boot) (end : Point) (left : Todo) (from to : ℕ) : Type 0 where
  pub next : Next
  pub next_is : next_step end.kernel.machines end left ≡ Some next
  pub worn : IsWorn b end next.step from to

-- no run goes on from there
pub no_more : (b : Boot) (end fin : Point) (left rest : Todo) (g : List Line) (more : List (List Line)) (from to : ℕ) → Wearing b end left from to → IsRun b end left (g ∷ more) fin rest → ⊥
no_more b end fin left rest g more from to w (n, v, next, group, lines, kept, others) =
    let f : w.next ≡ n = let e = w.next_is in cc in
    let due : group_of b end n.step ≡ Some w.worn.group = ap (λ (x : Next). group_of b end x.step) (sym f) ∙ w.worn.due in
    let k : w.worn.group ≡ v = cc in
    let over = group_over b end n.step v (record { from = from; to = to }) group (ap (λ (x : Spelled). worn_in b.numbers end.view x.lines) (sym k) ∙ w.worn.first) in
    let c = kept.counts from to in
    omega (arith, over, c)

-- a run to where nothing is left to do and one to where it is worn
over_not_worn : (b : Boot) (end fin : Point) (left rest : Todo) (more : List (List Line)) (from to : ℕ) → next_step end.kernel.machines end left ≡ None → Wearing b fin rest from to → IsRun b end left more fin rest → ⊥
over_not_worn b end fin left rest [] from to over w (at, same) =
    let e : next_step end.kernel.machines end left ≡ Some w.next =
    ap (λ (q : Point). next_step q.kernel.machines q left) at ∙ (ap (next_step fin.kernel.machines fin) same ∙ w.next_is) in
    let bad : None ≡ Some w.next = sym over ∙ e in
    cc
over_not_worn b end fin left rest (g ∷ more) from to over w (n, v, next, group, lines, kept, others) =
    let bad : None ≡ Some n = sym over ∙ next in
    cc

worn_not_over : (b : Boot) (end fin : Point) (left rest : Todo) (more : List (List Line)) (from to : ℕ) → Wearing b end left from to → next_step fin.kernel.machines fin rest ≡ None → IsRun b end left more fin rest → ⊥
worn_not_over b end fin left rest [] from to w over (at, same) =
    let e : next_step fin.kernel.machines fin rest ≡ Some w.next =
    ap (λ (q : Point). next_step q.kernel.machines q rest) (sym at) ∙ (ap (next_step end.kernel.machines end) (sym same) ∙ w.next_is) in
    let bad : None ≡ Some w.next = sym over ∙ e in
    cc
worn_not_over b end fin left rest (g ∷ more) from to w over run = no_more b end fin left rest g more from to w run

-- which of two numbers is the lesser
lesser : (m n : ℕ) → (m ≤ n) ⊎ (n ≤ m)
lesser zero n = inl (omega arith)
lesser (suc m) zero = inr (omega arith)
lesser (suc m) (suc n) = elim (lesser m n) [
  | inl h ↦ inl (omega (arith, h))
  | inr h ↦ inr (omega (arith, h))
]

-- a run that came to its end isn't one that was worn
pub ends_once : (b : Boot) (pt : Point) (t : Todo) (gs hs : List (List Line)) (end fin : Point) (left rest : Todo) (from to : ℕ) → IsRun b pt t gs end left → next_step end.kernel.machines end left ≡ None → IsRun b pt t hs fin rest → Wearing b fin rest from to → ⊥
ends_once b pt t gs hs end fin left rest from to r over s w = elim (lesser (length gs) (length hs)) [
  | inl h ↦ let k = shorter_begins b pt t gs hs end fin left rest r s h in over_not_worn b end fin left rest k.0 from to over w k.2
  | inr h ↦ let k = shorter_begins b pt t hs gs fin end rest left s r h in worn_not_over b fin end rest left k.0 from to w over k.2
]

-- and one that was worn was worn between these machines
same_worn : (b : Boot) (end fin : Point) (left rest : Todo) (more : List (List Line)) (from to from' to' : ℕ) → Wearing b end left from to → Wearing b fin rest from' to' → IsRun b end left more fin rest → (from ≡ from') × (to ≡ to')
same_worn b end fin left rest [] from to from' to' w v (at, same) =
    let next : next_step fin.kernel.machines fin rest ≡ Some w.next =
    ap (λ (q : Point). next_step q.kernel.machines q rest) (sym at) ∙ (ap (next_step end.kernel.machines end) (sym same) ∙ w.next_is) in
    let n : w.next ≡ v.next = let e = v.next_is in cc in
    let due : group_of b fin v.next.step ≡ Some w.worn.group = ap (λ (q : Point). group_of b q v.next.step) (sym at) ∙ (ap (λ (x : Next). group_of b end x.step) (sym n) ∙ w.worn.due) in
    let g : w.worn.group ≡ v.worn.group = let e = v.worn.due in cc in
    let one : Two = record { from = from; to = to } in
    let two : Two = record { from = from'; to = to' } in
    let first : worn_in b.numbers fin.view v.worn.group.lines ≡ Some one =
    ap (λ (q : Point). worn_in b.numbers q.view v.worn.group.lines) (sym at) ∙ (ap (λ (x : Spelled). worn_in b.numbers end.view x.lines) (sym g) ∙ w.worn.first) in
    let p : one ≡ two = let e = v.worn.first in cc in
    (ap (λ (x : Two). x.from) p, ap (λ (x : Two). x.to) p)
same_worn b end fin left rest (g ∷ more) from to from' to' w v run = absurd (no_more b end fin left rest g more from to w run)

swapped : (a b c d : ℕ) → (a ≡ b) × (c ≡ d) → (b ≡ a) × (d ≡ c)
swapped a b c d (e, f) = (sym e, sym f)

pub wears_once : (b : Boot) (pt : Point) (t : Todo) (gs hs : List (List Line)) (end fin : Point) (left rest : Todo) (from to from' to' : ℕ) → IsRun b pt t gs end left → Wearing b end left from to → IsRun b pt t hs fin rest → Wearing b fin rest from' to'
    → (from ≡ from') × (to ≡ to')
wears_once b pt t gs hs end fin left rest from to from' to' r w s v = elim (lesser (length gs) (length hs)) [
  | inl h ↦ let k = shorter_begins b pt t gs hs end fin left rest r s h in same_worn b end fin left rest k.0 from to from' to' w v k.2
  | inr h ↦ let k = shorter_begins b pt t hs gs fin end rest left s r h in swapped from' from to' to (same_worn b fin end rest left k.0 from' to' from to v w k.2)
]
