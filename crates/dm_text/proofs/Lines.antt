-- The text of lists of lines.
use Rattle.dm_text.proofs.Names.{◌≡◌, ℕ, ◌+◌, ◌<◌, List, [], ◌∷◌, ◌++◌, length, take, get_or, refl, ap, sym, ◌∙◌, append_assoc, append-nil, take_more, EndLine, Line, text, end_text, text_of_lines, text_of_ends}

pub lines-one : (l : Line) → text_of_lines (l ∷ []) ≡ text l
unfolding text_of_lines
lines-one l = append-nil (text l)

lines-append : (a b : List Line) → text_of_lines (a ++ b) ≡ text_of_lines a ++ text_of_lines b
unfolding text_of_lines
lines-append [] b = refl
lines-append (l ∷ ls) b = ap (λ t. text l ++ t) (lines-append ls b) ∙ sym (append_assoc (text l) (text_of_lines ls) (text_of_lines b))

-- one more line
pub lines-more : (t into new : List ℕ) (lines : List Line) (i : ℕ) (d : Line) → i < length lines → into ≡ t ++ text_of_lines (take i lines) → new ≡ into ++ text (get_or lines i d) → new ≡ t ++ text_of_lines (take (i + 1) lines)
lines-more t into new lines i d h e n =
    n
    ∙ ap (λ s. s ++ text (get_or lines i d)) e
    ∙ append_assoc t (text_of_lines (take i lines)) (text (get_or lines i d))
    ∙ ap (λ s. t ++ (text_of_lines (take i lines) ++ s)) (sym (lines-one (get_or lines i d)))
    ∙ ap (λ s. t ++ s) (sym (lines-append (take i lines) (get_or lines i d ∷ [])))
    ∙ ap (λ x. t ++ text_of_lines x) (sym (take_more lines i d h))

-- no line yet
pub lines-none : (t : List ℕ) (lines : List Line) → t ≡ t ++ text_of_lines (take 0 lines)
unfolding text_of_lines
lines-none t lines = sym (append-nil t)

-- the same of the lines at the end of a run
ends-one : (l : EndLine) → text_of_ends (l ∷ []) ≡ end_text l
unfolding text_of_ends
ends-one l = append-nil (end_text l)

ends-append : (a b : List EndLine) → text_of_ends (a ++ b) ≡ text_of_ends a ++ text_of_ends b
unfolding text_of_ends
ends-append [] b = refl
ends-append (l ∷ ls) b = ap (λ t. end_text l ++ t) (ends-append ls b) ∙ sym (append_assoc (end_text l) (text_of_ends ls) (text_of_ends b))

-- one more line
pub ends-more : (t into new : List ℕ) (lines : List EndLine) (i : ℕ) (d : EndLine) → i < length lines → into ≡ t ++ text_of_ends (take i lines) → new ≡ into ++ end_text (get_or lines i d) → new ≡ t ++ text_of_ends (take (i + 1) lines)
ends-more t into new lines i d h e n =
    n
    ∙ ap (λ s. s ++ end_text (get_or lines i d)) e
    ∙ append_assoc t (text_of_ends (take i lines)) (end_text (get_or lines i d))
    ∙ ap (λ s. t ++ (text_of_ends (take i lines) ++ s)) (sym (ends-one (get_or lines i d)))
    ∙ ap (λ s. t ++ s) (sym (ends-append (take i lines) (get_or lines i d ∷ [])))
    ∙ ap (λ x. t ++ text_of_ends x) (sym (take_more lines i d h))

-- no line yet
pub ends-none : (t : List ℕ) (lines : List EndLine) → t ≡ t ++ text_of_ends (take 0 lines)
unfolding text_of_ends
ends-none t lines = sym (append-nil t)
