-- Words with spaces between, one more at a time.
use Rattle.dm_text.proofs.Names.{◌≡◌, ℕ, ◌+◌, ◌<◌, List, [], ◌∷◌, ◌++◌, ◌/◌, ◌%◌, length, take, get_or, map, refl, ap, sym, ◌∙◌, append_assoc, codes, append-nil, take_more, hex, hex_digit, spaced}

pub spaced-append : (a b : List (List ℕ)) → spaced (a ++ b) ≡ spaced a ++ spaced b
spaced-append [] b = refl
spaced-append (w ∷ ws) b =
    ap (λ t. codes " " ++ w ++ t) (spaced-append ws b) ∙ sym (append_assoc (codes " " ++ w) (spaced ws) (spaced b))

pub map-append : {X Y : Type 0} → (f : X → Y) (a b : List X) → map f (a ++ b) ≡ map f a ++ map f b
map-append f [] b = refl
map-append f (x ∷ xs) b = ap (λ t. f x ∷ t) (map-append f xs b)

-- one more word
pub spaced-more : {X : Type 0} → (f : X → List ℕ) (before into new : List ℕ) (xs : List X) (i : ℕ) (d : X) → i < length xs → into ≡ before ++ spaced (map f (take i xs)) → new ≡ into ++ codes " " ++ f (get_or xs i d) → new ≡ before ++ spaced (map f (take (i + 1) xs))
spaced-more f before into new xs i d h e n =
    n
    ∙ ap (λ t. t ++ codes " " ++ f (get_or xs i d)) e
    ∙ append_assoc (before ++ spaced (map f (take i xs))) (codes " ") (f (get_or xs i d))
    ∙ append_assoc before (spaced (map f (take i xs))) (codes " " ++ f (get_or xs i d))
    ∙ ap (λ t. before ++ (spaced (map f (take i xs)) ++ t)) (sym (append-nil (codes " " ++ f (get_or xs i d))))
    ∙ ap (λ t. before ++ t) (sym (spaced-append (map f (take i xs)) (f (get_or xs i d) ∷ [])))
    ∙ ap (λ t. before ++ spaced t) (sym (map-append f (take i xs) (get_or xs i d ∷ [])))
    ∙ ap (λ t. before ++ spaced (map f t)) (sym (take_more xs i d h))

hex-append : (a b : List ℕ) → hex (a ++ b) ≡ hex a ++ hex b
hex-append [] b = refl
hex-append (x ∷ xs) b = ap (λ t. hex_digit (x / 16) ∷ hex_digit (x % 16) ∷ t) (hex-append xs b)

-- one more byte
pub hex-more : (before into half new xs : List ℕ) (i d : ℕ) → i < length xs → into ≡ before ++ hex (take i xs) → half ≡ into ++ hex_digit (get_or xs i d / 16) ∷ [] → new ≡ half ++ hex_digit (get_or xs i d % 16) ∷ [] → new ≡ before ++ hex (take (i + 1) xs)
hex-more before into half new xs i d h e f n =
    n
    ∙ ap (λ t. t ++ hex_digit (get_or xs i d % 16) ∷ []) f
    ∙ append_assoc into (hex_digit (get_or xs i d / 16) ∷ []) (hex_digit (get_or xs i d % 16) ∷ [])
    ∙ ap (λ t. t ++ hex (get_or xs i d ∷ [])) e
    ∙ append_assoc before (hex (take i xs)) (hex (get_or xs i d ∷ []))
    ∙ ap (λ t. before ++ t) (sym (hex-append (take i xs) (get_or xs i d ∷ [])))
    ∙ ap (λ t. before ++ hex t) (sym (take_more xs i d h))
