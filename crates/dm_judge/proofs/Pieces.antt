-- A text that grows byte by byte, and the pieces of one.
use Rattle.dm_judge.proofs.Names.{◌≡◌, ◌≤◌, ◌<◌, ℕ, zero, suc, ◌+◌, ◌-◌, ◌==◌, Bool, true, false, if◌then◌else◌, List, [], ◌∷◌, ◌++◌, length, take, drop, get_or, refl, ap, ◌∙◌, sym, arith, append_assoc, append-nil, drop_of_length-le, drop-cons, map, codes, line_told, standing_told, pieces, behind, one_piece, some_piece, Option, None, Some, nat_tests}

pub map-end : (f : ℕ → ℕ) (done : List ℕ) (xs : List ℕ) (i : ℕ) → length xs ≤ i → done ++ map f (drop i xs) ≡ done
map-end f done xs i past = ap (λ ys. done ++ map f ys) (drop_of_length-le xs past) ∙ append-nil done

pub map-copied : (f : ℕ → ℕ) (done xs : List ℕ) (i d : ℕ) → i < length xs → done ++ map f (drop i xs) ≡ (done ++ f (get_or xs i d) ∷ []) ++ map f (drop (i + 1) xs)
map-copied f done xs i d within =
    let next : suc i ≡ i + 1 = omega arith in
    ap (λ ys. done ++ map f ys) (drop-cons xs i d within ∙ ap (λ (k : ℕ). get_or xs i d ∷ drop k xs) next) ∙ sym (append_assoc done (f (get_or xs i d) ∷ []) (map f (drop (i + 1) xs)))

pub ruleset map_lemmas = (map-end)

-- nothing is left of a text
pub told_empty : (t : List ℕ) → (length t == 0) ≡ true → standing_told (pieces 10 t) ≡ codes "the text ends"
unfolding pieces
told_empty [] e = refl
told_empty (b ∷ bs) e = absurd (some (length (b ∷ bs)) (omega arith) e)
  where
    some : (k : ℕ) → 0 < k → (k == 0) ≡ true → ⊥
    some k m e = let f : k ≡ 0 = grind (arith, nat_tests, e) in omega arith

-- a line with its line feed, and one without
pub told_more : (ps qs : List (List ℕ)) (l : List ℕ) → ps ≡ l ∷ qs → (qs ≡ [] → ⊥) → standing_told ps ≡ line_told l
told_more ps [] l is some = absurd (some refl)
told_more ps (q ∷ qs) l is some = ap standing_told is

pub told_last : (ps : List (List ℕ)) (l : List ℕ) → ps ≡ l ∷ [] → (length l == 0) ≡ false → standing_told ps ≡ line_told l
told_last ps l is some = ap standing_told is ∙ ap (λ (t : Bool). if t then codes "the text ends" else line_told l) some

-- the first line of a text that isn't over
pub told_split : (t l : List ℕ) (o : Option (List ℕ)) → pieces 10 t ≡ l ∷ behind 10 o → (length t == 0) ≡ false → standing_told (pieces 10 t) ≡ line_told l
told_split t l None cut some = told_last (pieces 10 t) l cut (ap (λ (s : List ℕ). length s == 0) (sym (one_piece 10 t l cut)) ∙ some)
told_split t l (Some u) cut some = told_more (pieces 10 t) (pieces 10 u) l cut (some_piece 10 u)

-- so many are taken, where there are as many
pub taken : (i : ℕ) (xs : List ℕ) → i ≤ length xs → i ≡ length (take i xs)
taken zero xs h = refl
taken (suc i) [] h = absurd (omega (arith, h))
taken (suc i) (x ∷ xs) h = omega (arith, taken i xs (omega (arith, h)))

-- three parts behind a text
pub three : (old a b c : List ℕ) → ((old ++ a) ++ b) ++ c ≡ old ++ (a ++ (b ++ c))
three old a b c = append_assoc (old ++ a) b c ∙ append_assoc old a (b ++ c)
