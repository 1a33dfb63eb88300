-- One label of a text, line by line.
use Rattle.dm_asm.proofs.Names.{◌≡◌, ℕ, ◌+◌, Bool, true, false, if◌then◌else◌, List, [], ◌∷◌, ap, ◌∙◌, None, Some, Place, has_label, line_size, line_value, place_from}

-- no line is left
pub label-none : (number at : ℕ) (ls : List (List ℕ)) (name : List ℕ) → ls ≡ [] → place_from number at ls name ≡ None
label-none number at ls name none = ap (λ xs. place_from number at xs name) none

-- this line has it
pub label-here : (place : Place) (ls : List (List ℕ)) (name l : List ℕ) (rest : List (List ℕ)) → ls ≡ l ∷ rest → has_label l name ≡ true → place_from place.line place.address ls name ≡ Some (record { line = place.line; address = line_value place.address l })
label-here place ls name l rest is has =
    ap (λ xs. place_from place.line place.address xs name) is
    ∙ ap (λ (b : Bool). if b then Some (record { line = place.line; address = line_value place.address l }) else place_from (place.line + 1) (place.address + line_size place.address l) rest name) has

-- a later one may
pub label-later : (number at : ℕ) (ls : List (List ℕ)) (name l : List ℕ) (rest : List (List ℕ)) → ls ≡ l ∷ rest → has_label l name ≡ false → place_from number at ls name ≡ place_from (number + 1) (at + line_size at l) rest name
label-later number at ls name l rest is lacks =
    ap (λ xs. place_from number at xs name) is
    ∙ ap (λ (b : Bool). if b then Some (record { line = number; address = line_value at l }) else place_from (number + 1) (at + line_size at l) rest name) lacks

pub ruleset label_lemmas = (label-none, label-here, label-later)
