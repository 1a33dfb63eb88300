-- Counts, one more line at a time.
use Rattle.dm_drill.proofs.Names.{◌≡◌, ℕ, ◌+◌, ◌<◌, List, [], ◌∷◌, ◌++◌, length, take, get_or, refl, ap, ◌∙◌, take_more, Line, counted_as, one_more, with_group_lines, Totals}

pub lines_none : (t : Totals) (ls : List Line) → with_group_lines t (take 0 ls) ≡ t
unfolding with_group_lines
lines_none t ls = refl

lines_push : (t : Totals) (ls : List Line) (l : Line) → with_group_lines t (ls ++ l ∷ []) ≡ one_more (counted_as l) (with_group_lines t ls)
unfolding with_group_lines
lines_push t [] l = refl
lines_push t (k ∷ ks) l = lines_push (one_more (counted_as k) t) ks l

pub lines_more : (t : Totals) (ls : List Line) (i : ℕ) (d : Line) → i < length ls → with_group_lines t (take (i + 1) ls) ≡ one_more (counted_as (get_or ls i d)) (with_group_lines t (take i ls))
lines_more t ls i d h = ap (with_group_lines t) (take_more ls i d h) ∙ lines_push t (take i ls) (get_or ls i d)
