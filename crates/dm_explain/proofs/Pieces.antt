-- A text or a list that grows piece by piece, as a loop goes through what it is made of.
use Rattle.dm_explain.proofs.Names.{◌≡◌, ℕ, zero, suc, ◌+◌, ◌<◌, ◌≤◌, List, [], ◌∷◌, ◌++◌, length, get_or, drop, map, refl, ap, sym, ◌∙◌, append_assoc, arith, concat, flat_map, append-nil, drop_more, drop_of_length-le, each}

-- an element that was read, and those after it
pub read_at : {X : Type 0} (xs : List X) (i : ℕ) (x : X) → i < length xs → x ≡ get_or xs i x → drop i xs ≡ x ∷ drop (i + 1) xs
read_at xs i x within read = drop_more xs i x within ∙ ap (λ y. y ∷ drop (i + 1) xs) (sym read)

pub concat-end : {X : Type 0} (f : X → List ℕ) (done : List ℕ) (xs : List X) (i : ℕ) → length xs ≤ i → done ++ concat (map f (drop i xs)) ≡ done
concat-end f done xs i past = ap (λ ys. done ++ concat (map f ys)) (drop_of_length-le xs past) ∙ append-nil done

pub concat-more : {X : Type 0} (f : X → List ℕ) (done : List ℕ) (xs : List X) (i : ℕ) (x : X) → i < length xs → x ≡ get_or xs i x → done ++ concat (map f (drop i xs)) ≡ (done ++ f x) ++ concat (map f (drop (i + 1) xs))
concat-more f done xs i x within read =
    ap (λ ys. done ++ concat (map f ys)) (read_at xs i x within read) ∙ sym (append_assoc done (f x) (concat (map f (drop (i + 1) xs))))

pub map-end : {X A : Type 0} (f : X → A) (done : List A) (xs : List X) (i : ℕ) → length xs ≤ i → done ++ map f (drop i xs) ≡ done
map-end f done xs i past = ap (λ ys. done ++ map f ys) (drop_of_length-le xs past) ∙ append-nil done

pub map-more : {X A : Type 0} (f : X → A) (done : List A) (xs : List X) (i : ℕ) (x : X) → i < length xs → x ≡ get_or xs i x → done ++ map f (drop i xs) ≡ (done ++ f x ∷ []) ++ map f (drop (i + 1) xs)
map-more f done xs i x within read =
    ap (λ ys. done ++ map f ys) (read_at xs i x within read) ∙ sym (append_assoc done (f x ∷ []) (map f (drop (i + 1) xs)))

pub mapped-end : {X Y A : Type 0} (g : Y → List A) (f : X → Y) (done : List A) (xs : List X) (i : ℕ) → length xs ≤ i → done ++ flat_map g (map f (drop i xs)) ≡ done
mapped-end g f done xs i past = ap (λ ys. done ++ flat_map g (map f ys)) (drop_of_length-le xs past) ∙ append-nil done

pub mapped-more : {X Y A : Type 0} (g : Y → List A) (f : X → Y) (done : List A) (xs : List X) (i : ℕ) (x : X) → i < length xs → x ≡ get_or xs i x → done ++ flat_map g (map f (drop i xs)) ≡ (done ++ g (f x)) ++ flat_map g (map f (drop (i + 1) xs))
mapped-more g f done xs i x within read =
    ap (λ ys. done ++ flat_map g (map f ys)) (read_at xs i x within read) ∙ sym (append_assoc done (g (f x)) (flat_map g (map f (drop (i + 1) xs))))

pub each-end : {X : Type 0} (told : ℕ → X → List ℕ) (done : List ℕ) (xs : List X) (i : ℕ) → length xs ≤ i → done ++ each told i (drop i xs) ≡ done
unfolding each
each-end told done xs i past = ap (λ ys. done ++ each told i ys) (drop_of_length-le xs past) ∙ append-nil done

pub each-more : {X : Type 0} (told : ℕ → X → List ℕ) (done : List ℕ) (xs : List X) (i : ℕ) (x : X) → i < length xs → x ≡ get_or xs i x → done ++ each told i (drop i xs) ≡ (done ++ told i x) ++ each told (i + 1) (drop (i + 1) xs)
unfolding each
each-more told done xs i x within read =
    ap (λ ys. done ++ each told i ys) (read_at xs i x within read) ∙ sym (append_assoc done (told i x) (each told (i + 1) (drop (i + 1) xs)))

-- what an element is read as behind its list's end doesn't matter before it
pub get_or_same : {X : Type 0} (xs : List X) (i : ℕ) (d e : X) → i < length xs → get_or xs i d ≡ get_or xs i e
get_or_same [] i d e within = absurd (omega arith)
get_or_same (x ∷ xs) zero d e within = refl
get_or_same (x ∷ xs) (suc i) d e within = get_or_same xs i d e (omega arith)

-- the same of elements that are copied
pub each-copied : {X : Type 0} (told : ℕ → X → List ℕ) (done : List ℕ) (xs : List X) (i : ℕ) (d : X) → i < length xs → done ++ each told i (drop i xs) ≡ (done ++ told i (get_or xs i d)) ++ each told (i + 1) (drop (i + 1) xs)
each-copied told done xs i d within = each-more told done xs i (get_or xs i d) within (get_or_same xs i d (get_or xs i d) within)

pub concat-copied : {X : Type 0} (f : X → List ℕ) (done : List ℕ) (xs : List X) (i : ℕ) (d : X) → i < length xs → done ++ concat (map f (drop i xs)) ≡ (done ++ f (get_or xs i d)) ++ concat (map f (drop (i + 1) xs))
concat-copied f done xs i d within = concat-more f done xs i (get_or xs i d) within (get_or_same xs i d (get_or xs i d) within)

pub map-copied : {X A : Type 0} (f : X → A) (done : List A) (xs : List X) (i : ℕ) (d : X) → i < length xs → done ++ map f (drop i xs) ≡ (done ++ f (get_or xs i d) ∷ []) ++ map f (drop (i + 1) xs)
map-copied f done xs i d within = map-more f done xs i (get_or xs i d) within (get_or_same xs i d (get_or xs i d) within)

-- four pieces, as three stand behind the first
pub append_three : (done first second third : List ℕ) → ((done ++ first) ++ second) ++ third ≡ done ++ ((first ++ second) ++ third)
append_three done first second third = ap (λ t. t ++ third) (append_assoc done first second) ∙ append_assoc done (first ++ second) third

pub ruleset join_lemmas = (append_assoc)
