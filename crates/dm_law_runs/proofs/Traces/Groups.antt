-- The groups of the rule: each begins with its head, and none routes a message between two machines that count as many as they
-- may.
use Rattle.dm_law_runs.proofs.Names.{◌≡◌, ◌≤◌, ℕ, List, [], ◌∷◌, ◌++◌, length, refl, ap, sym, subst, arith, Option, Boot, bind, bind-is, Step, Line, Todo, Two, IsKept, IsRun, Part, Spelled, Point, after_line, group_of, behind}
use Rattle.std.proofs.Common.{Some, None}
use Rattle.dm_law_runs.proofs.Names.{outcome, worn_in, spelled}
use Rattle.dm_law_runs.proofs.Traces.Full.{group_over}
use Rattle.dm_line.specs.declared.line.Line.TheVariants as line

-- a group begins with its head
pub group_head : (b : Boot) (pt : Point) (e : Step) (w : Spelled) → group_of b pt e ≡ Some w → (rest : List Line) × (w.lines ≡ line.Head e ∷ rest)
group_head b pt e w is =
    let (parts, out, more) = bind-is (outcome b pt e) (λ (parts : List Part). bind (after_line pt (line.Head e)) (λ (begun : Point). bind (spelled begun parts) (λ (w : Spelled). Some (behind (line.Head e ∷ []) w)))) w is in
    let (start, head, last) = bind-is (after_line pt (line.Head e)) (λ (begun : Point). bind (spelled begun parts) (λ (w : Spelled). Some (behind (line.Head e ∷ []) w))) w more in
    let (rest, told, end) = bind-is (spelled start parts) (λ (w : Spelled). Some (behind (line.Head e ∷ []) w)) w last in
    let f : behind (line.Head e ∷ []) rest ≡ w = cc in
    (rest.lines, sym (ap (λ (v : Spelled). v.lines) f))

-- no pair counts more than it may behind a group that was printed
pub kept_last : (b : Boot) (gs : List (List Line)) (g : List Line) (pt end : Point) (t left : Todo) → IsRun b pt t (gs ++ g ∷ []) end left → IsKept b end
kept_last b [] g pt end t left (n, w, next, is, said, kept, rest) = subst (IsKept b) rest.0 kept
kept_last b (h ∷ gs) g pt end t left (n, w, next, is, said, kept, rest) = kept_last b gs g w.point end n.left left rest

-- so the group routes no message between two machines that count as many as they may
pub fresh_group : (b : Boot) (pt : Point) (e : Step) (w : Spelled) → group_of b pt e ≡ Some w → ((m n : ℕ) → length (w.point.view.pair m n).ids ≤ b.numbers) → worn_in b.numbers pt.view w.lines ≡ None
fresh_group b pt e w is counts = by_pair (worn_in b.numbers pt.view w.lines) refl
  where
    by_pair : (o : Option Two) → worn_in b.numbers pt.view w.lines ≡ o → worn_in b.numbers pt.view w.lines ≡ None
    by_pair None k = k
    by_pair (Some p) k = let over = group_over b pt e w p is k in let most = counts p.from p.to in absurd (omega (arith, over, most))
