-- The operand that is refused, word by word.
use Rattle.dm_explain.proofs.Names.{◌≡◌, ℕ, ◌+◌, Bool, true, false, if◌then◌else◌, List, [], ◌∷◌, ap, ◌∙◌, Place, bad_word, is_fine}
use Rattle.std.specs.Prelude.{Option, None, Some}
use Rattle.dm_explain.specs.declared.source.Takes.{Takes}

pub bad-none : (places : List ℕ → Option Place) (t : Takes) (i : ℕ) (ws : List (List ℕ)) → ws ≡ [] → bad_word places t i ws ≡ None
unfolding bad_word
bad-none places t i ws none = ap (bad_word places t i) none

pub bad-later : (places : List ℕ → Option Place) (t : Takes) (i : ℕ) (ws : List (List ℕ)) (w : List ℕ) (rest : List (List ℕ)) → ws ≡ w ∷ rest → is_fine places t i w ≡ true → bad_word places t i ws ≡ bad_word places t (i + 1) rest
unfolding bad_word
bad-later places t i ws w rest is fine = ap (bad_word places t i) is ∙ ap (λ (b : Bool). if b then bad_word places t (i + 1) rest else Some (record { place = i; word = w })) fine

pub bad-word-here : (places : List ℕ → Option Place) (t : Takes) (i : ℕ) (ws : List (List ℕ)) (w : List ℕ) (rest : List (List ℕ)) → ws ≡ w ∷ rest → is_fine places t i w ≡ false → bad_word places t i ws ≡ Some (record { place = i; word = w })
unfolding bad_word
bad-word-here places t i ws w rest is fails = ap (bad_word places t i) is ∙ ap (λ (b : Bool). if b then bad_word places t (i + 1) rest else Some (record { place = i; word = w })) fails

pub ruleset bad_word_lemmas = (bad-none, bad-later, bad-word-here)
