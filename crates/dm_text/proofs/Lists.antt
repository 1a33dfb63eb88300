-- Lists of words: how they are spelled, and that each can be read back.
use Rattle.dm_text.proofs.Names.{◌≡◌, ℕ, suc, List, [], ◌∷◌, ◌++◌, map, refl, ap, sym, ◌∙◌, arith, All, AllFit, LineWord, spellings, spaced}

-- a word for each
spellings-map : {X : Type 0} (word : X → LineWord) (xs : List X) → spellings (map word xs) ≡ map (λ x. (word x).spelling) xs
spellings-map word [] = refl
spellings-map word (x ∷ xs) = ap (λ ws. (word x).spelling ∷ ws) (spellings-map word xs)

pub words_put : {X : Type 0} (word : X → LineWord) (xs : List X) (old now : List ℕ) → now ≡ old ++ spaced (map (λ x. (word x).spelling) xs) → now ≡ old ++ spaced (spellings (map word xs))
words_put word xs old now e = e ∙ ap (λ ws. old ++ spaced ws) (sym (spellings-map word xs))

-- a word for each, and others
pub spellings-more : {X : Type 0} (word : X → LineWord) (xs : List X) (ws : List LineWord) → spellings (map word xs ++ ws) ≡ map (λ x. (word x).spelling) xs ++ spellings ws
spellings-more word [] ws = refl
spellings-more word (x ∷ xs) ws = ap (λ vs. (word x).spelling ∷ vs) (spellings-more word xs ws)

pub all_fit : {X : Type 0} (word : X → LineWord) (xs : List X) (ws : List LineWord) → All (λ x. (word x).Fits) xs → AllFit ws → AllFit (map word xs ++ ws)
all_fit word [] ws h k = k
all_fit word (x ∷ xs) ws h k = (h 0 x (omega arith), all_fit word xs ws (λ i d b. h (suc i) d (omega arith)) k)

pub each_fits : {X : Type 0} (word : X → LineWord) (xs : List X) → All (λ x. (word x).Fits) xs → AllFit (map word xs)
each_fits word [] h = tt
each_fits word (x ∷ xs) h = (h 0 x (omega arith), each_fits word xs (λ i d b. h (suc i) d (omega arith)))
