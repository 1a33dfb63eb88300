-- The text of letters, one after another; and what is sorted through references.
use Rattle.std.proofs.Common.{◌≡◌, ℕ, zero, suc, ◌+◌, ◌<◌, Bool, List, [], ◌∷◌, ◌++◌, length, map, take, get_or, refl, ap, sym, ◌∙◌, append_assoc, arith, Option, None, Some}
use Rattle.std.proofs.lemmas.List.{append-nil, map-append}
use Rattle.std.proofs.lemmas.List.Elements.{filter_map-append}
use Rattle.std.specs.Prelude.{filter_map}
use Rattle.std.specs.List.{cons_option}
use Rattle.std.specs.List.Sorted.{IsSortedBy}
use Rattle.dm_text.proofs.Names.{take_more}
use Rattle.dm_message.specs.declared.Message.{Message}
use Rattle.dm_look.specs.Letters.{Letter, letter_of}
use Rattle.dm_look.specs.LetterText.{letter_text, text_of_letter, text_of_letters}

letters-append : (a b : List Letter) → text_of_letters (a ++ b) ≡ text_of_letters a ++ text_of_letters b
unfolding text_of_letters
letters-append [] b = refl
letters-append (l ∷ ls) b = ap (λ t. letter_text l ++ t) (letters-append ls b) ∙ sym (append_assoc (letter_text l) (text_of_letters ls) (text_of_letters b))

letters-one : (o : Option Letter) → text_of_letters (cons_option o []) ≡ text_of_letter o
unfolding text_of_letters
letters-one None = refl
letters-one (Some l) = append-nil (letter_text l)

-- of messages that are seen through something, as references
module _ {R : Type 0} (see : R → Message) where
  abbrev told : List R → List ℕ
  told rs = text_of_letters (filter_map letter_of (map see rs))

  told-append : (a b : List R) → told (a ++ b) ≡ told a ++ told b
  told-append a b =
      ap (λ (ms : List Message). text_of_letters (filter_map letter_of ms)) (map-append see a b)
      ∙ (ap text_of_letters (filter_map-append letter_of (map see a) (map see b)) ∙ letters-append (filter_map letter_of (map see a)) (filter_map letter_of (map see b)))

  -- no message yet
  pub letters-none : (t : List ℕ) (rs : List R) → t ≡ t ++ told (take 0 rs)
  unfolding text_of_letters
  letters-none t rs = sym (append-nil t)

  -- one more
  pub letters-more : (t into new : List ℕ) (rs : List R) (i : ℕ) (d : R) → i < length rs → into ≡ t ++ told (take i rs) → new ≡ into ++ text_of_letter (letter_of (see (get_or rs i d))) → new ≡ t ++ told (take (i + 1) rs)
  letters-more t into new rs i d h e n =
      let x = get_or rs i d in
      n
      ∙ (ap (λ s. s ++ text_of_letter (letter_of (see x))) e
      ∙ (append_assoc t (told (take i rs)) (text_of_letter (letter_of (see x)))
      ∙ (ap (λ s. t ++ (told (take i rs) ++ s)) (sym (letters-one (letter_of (see x))))
      ∙ (ap (λ s. t ++ s) (sym (told-append (take i rs) (x ∷ []))) ∙ ap (λ (ys : List R). t ++ told ys) (sym (take_more rs i d h))))))

  -- what is sorted through it is sorted
  seen_at : (rs : List R) (k : ℕ) (d : Message) (e : R) → k < length rs → get_or (map see rs) k d ≡ see (get_or rs k e)
  seen_at [] k d e h = absurd (omega (arith, h))
  seen_at (r ∷ rs) zero d e h = refl
  seen_at (r ∷ rs) (suc k) d e h = seen_at rs k d e (omega (arith, h))

  pub seen_sorted : (lt : Message → Message → Bool) (rs : List R) → IsSortedBy (λ x y. lt (see x) (see y)) rs → IsSortedBy lt (map see rs)
  seen_sorted lt [] sorted k d low h = absurd (omega (arith, h))
  seen_sorted lt (r ∷ rs) sorted k d low h =
      let within : k + 1 < length (r ∷ rs) = omega (arith, h, length_seen (r ∷ rs)) in
      ap (λ x. lt x (get_or (map see (r ∷ rs)) k d)) (seen_at (r ∷ rs) (k + 1) d r within) ∙ (ap (λ x. lt (see (get_or (r ∷ rs) (k + 1) r)) x) (seen_at (r ∷ rs) k d r (omega (arith, within))) ∙ sorted k r low within)
    where
      length_seen : (xs : List R) → length (map see xs) ≡ length xs
      length_seen [] = refl
      length_seen (x ∷ xs) = let e = length_seen xs in omega (arith, e)
