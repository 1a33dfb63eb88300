-- The text of directives, one more at a time.
use Rattle.dm_drill.proofs.Names.{◌≡◌, ℕ, ◌+◌, ◌<◌, List, [], ◌∷◌, ◌++◌, length, take, get_or, refl, ap, sym, ◌∙◌, append_assoc, append-nil, take_more, Directive, directive_text, schedule_text}

text_one : (d : Directive) → schedule_text (d ∷ []) ≡ directive_text d
unfolding schedule_text
text_one d = append-nil (directive_text d)

text_append : (ds es : List Directive) → schedule_text (ds ++ es) ≡ schedule_text ds ++ schedule_text es
unfolding schedule_text
text_append [] es = refl
text_append (d ∷ ds) es = ap (λ t. directive_text d ++ t) (text_append ds es) ∙ sym (append_assoc (directive_text d) (schedule_text ds) (schedule_text es))

-- none yet
pub none_written : (t : List ℕ) (ds : List Directive) → t ≡ t ++ schedule_text (take 0 ds)
unfolding schedule_text
none_written t ds = sym (append-nil t)

-- one more
pub more_written : (t into new : List ℕ) (ds : List Directive) (i : ℕ) (d : Directive) → i < length ds → into ≡ t ++ schedule_text (take i ds) → new ≡ into ++ directive_text (get_or ds i d) → new ≡ t ++ schedule_text (take (i + 1) ds)
more_written t into new ds i d h e n =
    n
    ∙ ap (λ s. s ++ directive_text (get_or ds i d)) e
    ∙ append_assoc t (schedule_text (take i ds)) (directive_text (get_or ds i d))
    ∙ ap (λ s. t ++ (schedule_text (take i ds) ++ s)) (sym (text_one (get_or ds i d)))
    ∙ ap (λ s. t ++ s) (sym (text_append (take i ds) (get_or ds i d ∷ [])))
    ∙ ap (λ xs. t ++ schedule_text xs) (sym (take_more ds i d h))
