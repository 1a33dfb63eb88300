-- What the loops leave is what a text means.
use Rattle.dm_asm.proofs.Names.{ℕ, List, [], ◌∷◌, ◌++◌, ◌≡◌, refl, ap, sym, ◌∙◌, append_assoc, Result, Ok, Err, append-nil, Labels, Why, AssembleError, Fault, NoMemory, Answers, assembled, places_of, with_lines, place_in, source_lines}
use Rattle.dm_asm.proofs.Names.{literal_value, wanted_number, ◌>>=◌, bytes_behind, listed_bytes}

-- with the table of its labels, the lines of a text give what it means
pub meant : (labels : Labels) (text : List ℕ) → place_in labels ≡ places_of text → with_lines (place_in labels) 1 [] (source_lines text) ≡ assembled text
unfolding assembled
meant labels text same = ap (λ places. with_lines places 1 [] (source_lines text)) same

-- a refusal of what is the same
pub refused_alike : {A B : Type 0} (f : A → List ℕ) (g : B → List ℕ) (no : AssembleError) (m n : Result (List ℕ) (ℕ × Why)) → m ≡ n → Answers f (Err no) m → Answers g (Err no) n
refused_alike f g (Fault line why) m n e h = sym e ∙ h
refused_alike f g (NoMemory _) m n e h = tt

-- one listed byte behind an image
bytes_behind-cons : (image : List ℕ) (n : ℕ) (r : Result (List ℕ) Why) → bytes_behind (image ++ n ∷ []) r ≡ bytes_behind image (r >>= λ others. Ok (n ∷ others))
bytes_behind-cons image n (Ok bytes) = ap Ok (append_assoc image (n ∷ []) bytes)
bytes_behind-cons image n (Err why) = refl

-- one listed byte more
pub listed-more : (image word : List ℕ) (ws : List (List ℕ)) (n : ℕ) → Ok n ≡ wanted_number 255 (literal_value word) → bytes_behind (image ++ n ∷ []) (listed_bytes ws) ≡ bytes_behind image (listed_bytes (word ∷ ws))
unfolding listed_bytes
listed-more image word ws n e = rw (← e) (bytes_behind-cons image n (listed_bytes ws))

-- a listed byte that is refused
pub listed-refused : (image word : List ℕ) (ws : List (List ℕ)) (why : Why) → Err why ≡ wanted_number 255 (literal_value word) → bytes_behind image (listed_bytes (word ∷ ws)) ≡ Err why
unfolding listed_bytes
listed-refused image word ws why e = rw (← e) refl

-- no more listed bytes
pub listed-none : (image : List ℕ) → bytes_behind image (listed_bytes []) ≡ Ok image
unfolding listed_bytes
listed-none image = ap Ok (append-nil image)
