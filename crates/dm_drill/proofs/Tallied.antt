-- Lines of counts, one after another.
use Rattle.dm_drill.proofs.Names.{◌≡◌, ℕ, ◌+◌, ◌<◌, List, [], ◌∷◌, ◌++◌, length, take, get_or, map, refl, ap, ◌∙◌, sym, append_assoc, append-nil, take_more, KindTotal, kind_line, kind_lines}

-- no line
pub lines_none : kind_lines [] ≡ []
unfolding kind_lines
lines_none = refl

lines_push : (ts : List KindTotal) (t : KindTotal) → kind_lines (ts ++ t ∷ []) ≡ kind_lines ts ++ kind_line t
unfolding kind_lines
lines_push [] t = append-nil (kind_line t)
lines_push (s ∷ ss) t = ap (λ l. kind_line s ++ l) (lines_push ss t) ∙ sym (append_assoc (kind_line s) (kind_lines ss) (kind_line t))

-- one more line
map_push : {X Y : Type 0} (f : X → Y) (xs : List X) (x : X) → map f (xs ++ x ∷ []) ≡ map f xs ++ f x ∷ []
map_push f [] x = refl
map_push f (y ∷ ys) x = ap (λ l. f y ∷ l) (map_push f ys x)

pub lines_more : {X : Type 0} (f : X → KindTotal) (xs : List X) (i : ℕ) (d : X) → i < length xs → kind_lines (map f (take (i + 1) xs)) ≡ kind_lines (map f (take i xs)) ++ kind_line (f (get_or xs i d))
lines_more f xs i d lt = ap (λ l. kind_lines (map f l)) (take_more xs i d lt) ∙ (ap kind_lines (map_push f (take i xs) (get_or xs i d)) ∙ lines_push (map f (take i xs)) (f (get_or xs i d)))
