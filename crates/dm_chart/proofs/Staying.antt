-- Walks that find on which machines processes ever have a bar.
use Rattle.dm_chart.proofs.Names.{◌≡◌, ℕ, ◌+◌, ◌<◌, ◌≤◌, List, length, get_or, drop, ap, refl, sym, add-one, drop_of_length-le, Pid, Line, Spot, role_of, next_spot, count_by}
use Rattle.std.proofs.Common.{fold}
use Rattle.dm_chart.specs.declared.stay.Stay.{Stay}
use Rattle.dm_chart.specs.Stays.{greater, is_on, stays_behind, with_role, with_start}
unfoldable use Rattle.dm_chart.specs.Stays.{most_on}
use Rattle.dm_chart.proofs.Pieces.{read_at}

pub start-end : (ps : List Pid) (ss : List Stay) (xs : List Pid) (i : ℕ) → length xs ≤ i → fold (with_start ps) ss (drop i xs) ≡ ss
start-end ps ss xs i past = ap (fold (with_start ps) ss) (drop_of_length-le xs past)

pub start-more : (ps : List Pid) (ss : List Stay) (xs : List Pid) (i : ℕ) (x : Pid) → i < length xs → x ≡ get_or xs i x → fold (with_start ps) ss (drop i xs) ≡ fold (with_start ps) (with_start ps ss x) (drop (i + 1) xs)
start-more ps ss xs i x within read = ap (fold (with_start ps) ss) (read_at xs i x within read)

pub ruleset start_lemmas = (start-end, start-more)

pub behind-end : (ps : List Pid) (ss : List Stay) (s : Spot) (ls : List Line) (i : ℕ) → length ls ≤ i → stays_behind ps ss s (drop i ls) ≡ ss
behind-end ps ss s ls i past = ap (stays_behind ps ss s) (drop_of_length-le ls past)

pub behind-more : (ps : List Pid) (ss : List Stay) (s : Spot) (ls : List Line) (i : ℕ) (l : Line) → i < length ls → l ≡ get_or ls i l → stays_behind ps ss s (drop i ls) ≡ stays_behind ps (with_role ps ss (next_spot s l).machine (role_of l)) (next_spot s l) (drop (i + 1) ls)
behind-more ps ss s ls i l within read = ap (stays_behind ps ss s) (read_at ls i l within read)

pub ruleset behind_lemmas = (behind-end, behind-more)

pub most-none : (ss : List Stay) → ◌≡◌ {A = ℕ} 0 (most_on ss 0)
unfolding most_on
most-none ss = refl

pub most-more : (ss : List Stay) (n : ℕ) → greater (most_on ss n) (count_by (is_on n) ss) ≡ most_on ss (n + 1)
unfolding most_on
most-more ss n = ap (most_on ss) (sym (add-one n))

pub ruleset most_lemmas = (most-none, most-more)
