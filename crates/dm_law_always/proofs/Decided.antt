-- The rule decides what is printed.
use Rattle.dm_law_always.proofs.Names.{◌≡◌, ◌+◌, List, [], ◌∷◌, ◌++◌, length, refl, ap, ◌∙◌, sym, subst, arith, Some, Boot, Line, Todo, Next, IsRun, Spelled, Point, group_of, RuleDecides, ShorterBegins}

same_place : (b : Boot) (n o : Next) (w v : Spelled) (hs : List (List Line)) (fin : Point) (rest : Todo) → o ≡ n → v ≡ w → IsRun b v.point o.left hs fin rest → IsRun b w.point n.left hs fin rest
same_place b n o w v hs fin rest e f run = subst (λ (x : Next). IsRun b w.point x.left hs fin rest) e (subst (λ (x : Spelled). IsRun b x.point o.left hs fin rest) f run)

-- what is behind a common first group
abbrev Behind : Boot → Point → Todo → List (List Line) → List (List Line) → Point → Todo → Type 0
Behind b end left gs hs fin rest = (more : List (List Line)) × (hs ≡ gs ++ more) × IsRun b end left more fin rest

first_same : (b : Boot) (end fin : Point) (left rest : Todo) (g h : List Line) (gs hs : List (List Line)) → h ≡ g → Behind b end left gs hs fin rest → Behind b end left (g ∷ gs) (h ∷ hs) fin rest
first_same b end fin left rest g h gs hs e (more, is, run) = (more, ap (λ (x : List Line). x ∷ hs) e ∙ ap (λ (xs : List (List Line)). g ∷ xs) is, run)

pub shorter_begins : ShorterBegins
shorter_begins b pt t [] hs end fin left rest (at, same) s le = (hs, refl, subst (λ (u : Todo). IsRun b end u hs fin rest) same (subst (λ (q : Point). IsRun b q t hs fin rest) at s))
shorter_begins b pt t (g ∷ gs) [] end fin left rest r s le = absurd (omega (arith, le))
shorter_begins b pt t (g ∷ gs) (h ∷ hs) end fin left rest (n, w, next, group, lines, kept, more) (o, v, follows, said, printed, holds, others) le =
    let n_is : o ≡ n = let g : Some o ≡ Some n = sym follows ∙ next in cc in
    let w_is : v ≡ w = let g : Some v ≡ Some w = sym (sym (ap (λ (x : Next). group_of b pt x.step) n_is) ∙ said) ∙ group in cc in
    first_same b end fin left rest g h gs hs (sym printed ∙ ap (λ (x : Spelled). x.lines) w_is ∙ lines)
    (shorter_begins b w.point n.left gs hs end fin left rest more (same_place b n o w v hs fin rest n_is w_is others) (omega (arith, le)))

length_more : {A : Type 0} (xs ys : List A) → length (xs ++ ys) ≡ length xs + length ys
length_more [] ys = omega arith
length_more (x ∷ xs) ys = let h = length_more xs ys in omega (arith, h)

append_nothing : {A : Type 0} (xs : List A) → xs ++ [] ≡ xs
append_nothing [] = refl
append_nothing (x ∷ xs) = ap (λ ys. x ∷ ys) (append_nothing xs)

none_more : {A : Type 0} (xs : List A) → length xs ≡ 0 → xs ≡ []
none_more [] e = refl
none_more (x ∷ xs) e = absurd (omega (arith, e))

pub rule_decides : RuleDecides
rule_decides b pt t gs hs end fin left rest r s same = search (arith, shorter_begins, length_more, none_more, append_nothing)
