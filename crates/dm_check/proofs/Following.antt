-- Lines that are due, one after another.
use Rattle.dm_check.proofs.Names.{◌≡◌, ◌<◌, ◌≤◌, ℕ, suc, ◌+◌, List, [], ◌∷◌, ◌++◌, length, take, drop, get_or, drop-cons, refl, ap, sym, ◌∙◌, subst, append_assoc, append-nil, length-append, arith}
use Rattle.dm_check.proofs.Names.{All, codes, take_more, drop-length, Step, Line, EndLine, Course, end_words, EndFits, pieces, line_words, spaced, spelled_line, text, end_text, text_of_ends}
use Rattle.dm_check.proofs.Names.{text_of_lines, IsFull, CheckError, RefusedSo, Stray, StrayedSo, Ended, behind_line, judged_from}
use Rattle.dm_check.specs.Judge as judge
use Rattle.dm_check.proofs.Judging.{at_text_end, end_stands, lines_append}

-- from a place on
from_here : {X : Type 0} (xs : List X) (i : ℕ) (d : X) → i < length xs → drop i xs ≡ get_or xs i d ∷ drop (i + 1) xs
from_here xs i d h = let next : suc i ≡ i + 1 = omega arith in drop-cons xs i d h ∙ ap (λ (k : ℕ). get_or xs i d ∷ drop k xs) next

-- a line of the group stands: what was due goes on
pub line_on : (c : Course) (lines : List Line) (i : ℕ) (d : Line) (es : List Step) (first number : ℕ) (all bytes rest : List ℕ) → i < length lines
    → judged_from c (behind_line lines es) first (pieces 10 all) ≡ judged_from c (behind_line (drop i lines) es) number (pieces 10 bytes)
    → judged_from c (judge.InGroup (get_or lines i d) (drop (i + 1) lines) es) number (pieces 10 bytes) ≡ judged_from c (behind_line (drop (i + 1) lines) es) (number + 1) (pieces 10 rest)
    → judged_from c (behind_line lines es) first (pieces 10 all) ≡ judged_from c (behind_line (drop (i + 1) lines) es) (number + 1) (pieces 10 rest)
line_on c lines i d es first number all bytes rest h so_far on =
    so_far ∙ ap (λ ls. judged_from c (behind_line ls es) number (pieces 10 bytes)) (from_here lines i d h) ∙ on

-- it doesn't
pub line_off : (c : Course) (lines : List Line) (i : ℕ) (d : Line) (es : List Step) (first number : ℕ) (all bytes : List ℕ) (x : Stray) → i < length lines
    → judged_from c (behind_line lines es) first (pieces 10 all) ≡ judged_from c (behind_line (drop i lines) es) number (pieces 10 bytes)
    → StrayedSo (judged_from c (judge.InGroup (get_or lines i d) (drop (i + 1) lines) es) number (pieces 10 bytes)) x
    → StrayedSo (judged_from c (behind_line lines es) first (pieces 10 all)) x
line_off c lines i d es first number all bytes x h so_far off =
    subst (λ v. StrayedSo v x) (sym (so_far ∙ ap (λ ls. judged_from c (behind_line ls es) number (pieces 10 bytes)) (from_here lines i d h))) off

one_line : (l : Line) → text_of_lines (l ∷ []) ≡ text l
unfolding text_of_lines
one_line l = append-nil (text l)

-- what was read of the text
pub read_more : (lines : List Line) (i : ℕ) (d : Line) (all bytes rest : List ℕ) → i < length lines → all ≡ text_of_lines (take i lines) ++ bytes → bytes ≡ text (get_or lines i d) ++ rest → all ≡ text_of_lines (take (i + 1) lines) ++ rest
read_more lines i d all bytes rest h so_far on =
    so_far ∙ ap (λ t. text_of_lines (take i lines) ++ t) on ∙ sym (append_assoc (text_of_lines (take i lines)) (text (get_or lines i d)) rest)
    ∙ ap (λ t. (text_of_lines (take i lines) ++ t) ++ rest) (sym (one_line (get_or lines i d)))
    ∙ ap (λ t. t ++ rest) (sym (lines_append (take i lines) (get_or lines i d ∷ [])))
    ∙ ap (λ ls. text_of_lines ls ++ rest) (sym (take_more lines i d h))

pub read_none : (lines : List Line) (bytes : List ℕ) → bytes ≡ text_of_lines (take 0 lines) ++ bytes
unfolding text_of_lines
read_none lines bytes = refl

-- a line takes a byte at least, its line feed
some_bytes : (ws : List (List ℕ)) → 0 < length (spelled_line ws)
some_bytes [] = omega arith
some_bytes (w ∷ ws) = omega (arith, length-append (w ++ spaced ws) (codes "\n"))

behind_bytes : (line bytes rest : List ℕ) → 0 < length line → bytes ≡ line ++ rest → length rest < length bytes
behind_bytes line bytes rest h e = let k : length bytes ≡ length (line ++ rest) = ap length e in omega (arith, k, length-append line rest, h)

pub shorter : (l : Line) (bytes rest : List ℕ) → bytes ≡ text l ++ rest → length rest < length bytes
shorter l bytes rest e = behind_bytes (text l) bytes rest (some_bytes (line_words l)) e

pub shorter_end : (l : EndLine) (bytes rest : List ℕ) → bytes ≡ end_text l ++ rest → length rest < length bytes
shorter_end l bytes rest e = behind_bytes (end_text l) bytes rest (some_bytes (end_words l)) e

-- so do the lines of a group, each
pub shorter_lines : (ls : List Line) (bytes rest : List ℕ) → bytes ≡ text_of_lines ls ++ rest → length ls + length rest ≤ length bytes
unfolding text_of_lines
shorter_lines [] bytes rest e = let k : length bytes ≡ length rest = ap length e in omega (arith, k)
shorter_lines (l ∷ ls) bytes rest e =
    let less : length (text_of_lines ls ++ rest) < length bytes = shorter l bytes (text_of_lines ls ++ rest) (e ∙ append_assoc (text l) (text_of_lines ls) rest) in
    let more : length ls + length rest ≤ length (text_of_lines ls ++ rest) = shorter_lines ls (text_of_lines ls ++ rest) rest refl in
    omega (arith, less, more)

-- the same of the lines at the end
ends_append : (a b : List EndLine) → text_of_ends (a ++ b) ≡ text_of_ends a ++ text_of_ends b
unfolding text_of_ends
ends_append [] b = refl
ends_append (l ∷ ls) b = ap (λ t. end_text l ++ t) (ends_append ls b) ∙ sym (append_assoc (end_text l) (text_of_ends ls) (text_of_ends b))

one_end : (l : EndLine) → text_of_ends (l ∷ []) ≡ end_text l
unfolding text_of_ends
one_end l = append-nil (end_text l)

pub end_on : (c : Course) (ends : List EndLine) (i : ℕ) (d : EndLine) (n first number : ℕ) (all bytes rest : List ℕ) → i < length ends → All EndFits ends → All IsFull ends
    → judged_from c (judge.End ends n) first (pieces 10 all) ≡ judged_from c (judge.End (drop i ends) n) number (pieces 10 bytes) → bytes ≡ end_text (get_or ends i d) ++ rest
    → judged_from c (judge.End ends n) first (pieces 10 all) ≡ judged_from c (judge.End (drop (i + 1) ends) n) (number + 1) (pieces 10 rest)
end_on c ends i d n first number all bytes rest h fits full so_far on =
    so_far ∙ ap (λ ls. judged_from c (judge.End ls n) number (pieces 10 bytes)) (from_here ends i d h) ∙ end_stands c (get_or ends i d) (drop (i + 1) ends) n number bytes rest (fits i d h) (full i d h) on

pub end_off : (c : Course) (ends : List EndLine) (i : ℕ) (d : EndLine) (n first number : ℕ) (all bytes : List ℕ) (x : CheckError) → i < length ends
    → judged_from c (judge.End ends n) first (pieces 10 all) ≡ judged_from c (judge.End (drop i ends) n) number (pieces 10 bytes)
    → RefusedSo (judged_from c (judge.End (get_or ends i d ∷ drop (i + 1) ends) n) number (pieces 10 bytes)) x → RefusedSo (judged_from c (judge.End ends n) first (pieces 10 all)) x
end_off c ends i d n first number all bytes x h so_far off =
    subst (λ v. RefusedSo v x) (sym (so_far ∙ ap (λ ls. judged_from c (judge.End ls n) number (pieces 10 bytes)) (from_here ends i d h))) off

pub read_end : (ends : List EndLine) (i : ℕ) (d : EndLine) (all bytes rest : List ℕ) → i < length ends → all ≡ text_of_ends (take i ends) ++ bytes → bytes ≡ end_text (get_or ends i d) ++ rest → all ≡ text_of_ends (take (i + 1) ends) ++ rest
read_end ends i d all bytes rest h so_far on =
    so_far ∙ ap (λ t. text_of_ends (take i ends) ++ t) on ∙ sym (append_assoc (text_of_ends (take i ends)) (end_text (get_or ends i d)) rest)
    ∙ ap (λ t. (text_of_ends (take i ends) ++ t) ++ rest) (sym (one_end (get_or ends i d)))
    ∙ ap (λ t. t ++ rest) (sym (ends_append (take i ends) (get_or ends i d ∷ [])))
    ∙ ap (λ es. text_of_ends es ++ rest) (sym (take_more ends i d h))

pub read_no_end : (ends : List EndLine) (bytes : List ℕ) → bytes ≡ text_of_ends (take 0 ends) ++ bytes
unfolding text_of_ends
read_no_end ends bytes = refl

-- all lines at the end stand: what is left behind them
pub ends_left : (c : Course) (ends : List EndLine) (i : ℕ) (n first number : ℕ) (all bytes : List ℕ) → i ≡ length ends
    → judged_from c (judge.End ends n) first (pieces 10 all) ≡ judged_from c (judge.End (drop i ends) n) number (pieces 10 bytes)
    → judged_from c (judge.End ends n) first (pieces 10 all) ≡ judged_from c (judge.End [] n) number (pieces 10 bytes)
ends_left c ends i n first number all bytes e so_far =
    let none : drop i ends ≡ [] = ap (λ k. drop k ends) e ∙ drop-length ends in
    so_far ∙ ap (λ ls. judged_from c (judge.End ls n) number (pieces 10 bytes)) none

-- and nothing is
pub ends_done : (c : Course) (ends : List EndLine) (i : ℕ) (n first number : ℕ) (all bytes : List ℕ) → i ≡ length ends → bytes ≡ []
    → judged_from c (judge.End ends n) first (pieces 10 all) ≡ judged_from c (judge.End (drop i ends) n) number (pieces 10 bytes)
    → judged_from c (judge.End ends n) first (pieces 10 all) ≡ Ended n
ends_done c ends i n first number all bytes e none so_far =
    ends_left c ends i n first number all bytes e so_far ∙ ap (λ t. judged_from c (judge.End [] n) number (pieces 10 t)) none ∙ at_text_end c (judge.End [] n) number
