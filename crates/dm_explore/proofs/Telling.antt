-- The text of an answer, part by part.
use Rattle.std.specs.Prelude.{◌≡◌, ◌+◌, ◌<◌, ◌≤◌, ℕ, List, ◌++◌, get_or, length, map, take}
use Rattle.std.specs.Fmt.{decimal}
use Rattle.std.proofs.Common.{sym, ap, ◌∙◌, subst}
use Rattle.std.proofs.lemmas.List.{append_assoc, get_or-map, length-map, take_all}
use Rattle.dm_schedule.specs.declared.Step.{Step}
use Rattle.dm_line.specs.declared.line.Line.TheVariants as line
use Rattle.dm_text.specs.Text.{text, text_of_lines}
use Rattle.dm_text.proofs.Lines.{lines-more, lines-none}

-- one part behind the other
pub told_four : (t a b c d first second third fourth : List ℕ) → first ≡ t ++ a → second ≡ first ++ b → third ≡ second ++ c → fourth ≡ third ++ d → fourth ≡ t ++ (((a ++ b) ++ c) ++ d)
told_four t a b c d first second third fourth h i j k =
    k ∙ ap (λ s. s ++ d) (j ∙ ap (λ s. s ++ c) (i ∙ ap (λ s. s ++ b) h)) ∙ ap (λ s. (s ++ c) ++ d) (append_assoc t a b) ∙ ap (λ s. s ++ d) (append_assoc t (a ++ b) c) ∙ append_assoc t ((a ++ b) ++ c) d

-- a number that is another
pub told_number : (first second : List ℕ) (n m : ℕ) → second ≡ first ++ decimal n → n ≡ m → second ≡ first ++ decimal m
told_number first second n m h same = h ∙ ap (λ k. first ++ decimal k) same

-- no directive yet, one more, and all of them
pub heads_none : (t : List ℕ) (steps : List Step) → t ≡ t ++ text_of_lines (take 0 (map line.Head steps))
heads_none t steps = lines-none t (map line.Head steps)

pub heads_more : (t into new : List ℕ) (steps : List Step) (i : ℕ) (d : Step) → i < length steps → into ≡ t ++ text_of_lines (take i (map line.Head steps)) → new ≡ into ++ text (line.Head (get_or steps i d))
    → new ≡ t ++ text_of_lines (take (i + 1) (map line.Head steps))
heads_more t into new steps i d lt e n =
    lines-more t into new (map line.Head steps) i (line.Head d) (subst (λ k. i < k) (sym (length-map steps line.Head)) lt) e (n ∙ ap (λ l. into ++ text l) (sym (get_or-map line.Head steps i d (line.Head d) lt)))

pub heads_all : (t into : List ℕ) (steps : List Step) (i : ℕ) → length steps ≤ i → into ≡ t ++ text_of_lines (take i (map line.Head steps)) → into ≡ t ++ text_of_lines (map line.Head steps)
heads_all t into steps i most e = e ∙ ap (λ ls. t ++ text_of_lines ls) (take_all i (map line.Head steps) (subst (λ k. k ≤ i) (sym (length-map steps line.Head)) most))
