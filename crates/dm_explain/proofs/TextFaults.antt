-- The reasons of operands, word by word, and of lines.
use Rattle.dm_explain.proofs.Names.{◌≡◌, ℕ, ◌+◌, List, [], ◌∷◌, ap, sym, ◌∙◌, ◌++◌, append_assoc, append-nil, Data, later_lines, operand_why, operands_why, or_why, Takes, Place, Why}
use Rattle.std.specs.Prelude.{Option, Some, None}
use Rattle.dm_asm.specs.Places.{line_size}
use Rattle.dm_explain.specs.TextFaults.{line_why}
use Rattle.dm_explain.specs.Told.{line_fault_told}

-- no operand is left
pub operands-none : (places : List ℕ → Option Place) (at : ℕ) (t : Takes) (i : ℕ) (ws : List (List ℕ)) → ws ≡ [] → operands_why places at t i ws ≡ None
unfolding operands_why
operands-none places at t i ws none = ap (operands_why places at t i) none

-- a later one is refused
pub operands-later : (places : List ℕ → Option Place) (at : ℕ) (t : Takes) (i : ℕ) (ws : List (List ℕ)) (w : List ℕ) (rest : List (List ℕ)) → ws ≡ w ∷ rest → operand_why places at t i w ≡ None → operands_why places at t i ws ≡ operands_why places at t (i + 1) rest
unfolding operands_why
operands-later places at t i ws w rest is fine = ap (operands_why places at t i) is ∙ ap (λ o. or_why o (operands_why places at t (i + 1) rest)) fine

-- this one is
pub operands-here : (places : List ℕ → Option Place) (at : ℕ) (t : Takes) (i : ℕ) (ws : List (List ℕ)) (w : List ℕ) (rest : List (List ℕ)) (why : Why) → ws ≡ w ∷ rest → operand_why places at t i w ≡ Some why → operands_why places at t i ws ≡ Some why
unfolding operands_why
operands-here places at t i ws w rest why is fails = ap (operands_why places at t i) is ∙ ap (λ o. or_why o (operands_why places at t (i + 1) rest)) fails

-- no line is left to be told
pub later-end : (t : Data) (before : Option ℕ) (first : ℕ) (places : List ℕ → Option Place) (number at : ℕ) (done : List ℕ) (ls : List (List ℕ)) → ls ≡ [] → done ++ later_lines t before first places number at ls ≡ done
unfolding later_lines
later-end t before first places number at done ls none = ap (λ xs. done ++ later_lines t before first places number at xs) none ∙ append-nil done

-- a line was told, and others are left
pub later-more : (t : Data) (before : Option ℕ) (first : ℕ) (places : List ℕ → Option Place) (number at : ℕ) (done mid : List ℕ) (ls : List (List ℕ)) (l : List ℕ) (rest : List (List ℕ)) → ls ≡ l ∷ rest → mid ≡ done ++ line_fault_told t before first places number l (line_why places number at l) → mid ++ later_lines t before first places (number + 1) (at + line_size at l) rest ≡ done ++ later_lines t before first places number at ls
unfolding later_lines
later-more t before first places number at done mid ls l rest is told =
    ap (λ m. m ++ later_lines t before first places (number + 1) (at + line_size at l) rest) told
    ∙ append_assoc done (line_fault_told t before first places number l (line_why places number at l)) (later_lines t before first places (number + 1) (at + line_size at l) rest)
    ∙ ap (λ xs. done ++ later_lines t before first places number at xs) (sym is)

pub ruleset later_lemmas = (later-end, later-more)

pub ruleset operands_lemmas = (operands-none, operands-later, operands-here)
