-- A text or a list that grows piece by piece, as a loop goes through what it is made of.
use Rattle.dm_chart.proofs.Names.{◌≡◌, ℕ, zero, suc, ◌+◌, ◌<◌, ◌≤◌, List, [], ◌∷◌, ◌++◌, length, get_or, drop, map, refl, ap, sym, ◌∙◌, append_assoc, arith, codes, decimal, concat, flat_map, append-nil, drop_more, drop_of_length-le, add-one, each_below, BootProcess, name_drawn, names_from, opening_tag, way_down}

-- an element that was read, and those after it
pub read_at : {X : Type 0} (xs : List X) (i : ℕ) (x : X) → i < length xs → x ≡ get_or xs i x → drop i xs ≡ x ∷ drop (i + 1) xs
read_at xs i x within read = drop_more xs i x within ∙ ap (λ y. y ∷ drop (i + 1) xs) (sym read)

pub flat-end : {X A : Type 0} (f : X → List A) (done : List A) (xs : List X) (i : ℕ) → length xs ≤ i → done ++ flat_map f (drop i xs) ≡ done
flat-end f done xs i past = ap (λ ys. done ++ flat_map f ys) (drop_of_length-le xs past) ∙ append-nil done

pub flat-more : {X A : Type 0} (f : X → List A) (done : List A) (xs : List X) (i : ℕ) (x : X) → i < length xs → x ≡ get_or xs i x → done ++ flat_map f (drop i xs) ≡ (done ++ f x) ++ flat_map f (drop (i + 1) xs)
flat-more f done xs i x within read =
    ap (λ ys. done ++ flat_map f ys) (read_at xs i x within read) ∙ sym (append_assoc done (f x) (flat_map f (drop (i + 1) xs)))

pub concat-end : {X : Type 0} (f : X → List ℕ) (done : List ℕ) (xs : List X) (i : ℕ) → length xs ≤ i → done ++ concat (map f (drop i xs)) ≡ done
concat-end f done xs i past = ap (λ ys. done ++ concat (map f ys)) (drop_of_length-le xs past) ∙ append-nil done

pub concat-more : {X : Type 0} (f : X → List ℕ) (done : List ℕ) (xs : List X) (i : ℕ) (x : X) → i < length xs → x ≡ get_or xs i x → done ++ concat (map f (drop i xs)) ≡ (done ++ f x) ++ concat (map f (drop (i + 1) xs))
concat-more f done xs i x within read =
    ap (λ ys. done ++ concat (map f ys)) (read_at xs i x within read) ∙ sym (append_assoc done (f x) (concat (map f (drop (i + 1) xs))))

pub map-end : {X A : Type 0} (f : X → A) (done : List A) (xs : List X) (i : ℕ) → length xs ≤ i → done ++ map f (drop i xs) ≡ done
map-end f done xs i past = ap (λ ys. done ++ map f ys) (drop_of_length-le xs past) ∙ append-nil done

pub map-more : {X A : Type 0} (f : X → A) (done : List A) (xs : List X) (i : ℕ) (x : X) → i < length xs → x ≡ get_or xs i x → done ++ map f (drop i xs) ≡ (done ++ f x ∷ []) ++ map f (drop (i + 1) xs)
map-more f done xs i x within read =
    ap (λ ys. done ++ map f ys) (read_at xs i x within read) ∙ sym (append_assoc done (f x ∷ []) (map f (drop (i + 1) xs)))

pub same-end : {X : Type 0} (done xs : List X) (i : ℕ) → length xs ≤ i → done ++ drop i xs ≡ done
same-end done xs i past = ap (λ ys. done ++ ys) (drop_of_length-le xs past) ∙ append-nil done

pub same-more : {X : Type 0} (done xs : List X) (i : ℕ) (x : X) → i < length xs → x ≡ get_or xs i x → done ++ drop i xs ≡ (done ++ x ∷ []) ++ drop (i + 1) xs
same-more done xs i x within read = ap (λ ys. done ++ ys) (read_at xs i x within read) ∙ sym (append_assoc done (x ∷ []) (drop (i + 1) xs))

pub mapped-end : {X Y A : Type 0} (g : Y → List A) (f : X → Y) (done : List A) (xs : List X) (i : ℕ) → length xs ≤ i → done ++ flat_map g (map f (drop i xs)) ≡ done
mapped-end g f done xs i past = ap (λ ys. done ++ flat_map g (map f ys)) (drop_of_length-le xs past) ∙ append-nil done

pub mapped-more : {X Y A : Type 0} (g : Y → List A) (f : X → Y) (done : List A) (xs : List X) (i : ℕ) (x : X) → i < length xs → x ≡ get_or xs i x → done ++ flat_map g (map f (drop i xs)) ≡ (done ++ g (f x)) ++ flat_map g (map f (drop (i + 1) xs))
mapped-more g f done xs i x within read =
    ap (λ ys. done ++ flat_map g (map f ys)) (read_at xs i x within read) ∙ sym (append_assoc done (g (f x)) (flat_map g (map f (drop (i + 1) xs))))

-- what an element is read as behind its list's end doesn't matter before it
pub get_or_same : {X : Type 0} (xs : List X) (i : ℕ) (d e : X) → i < length xs → get_or xs i d ≡ get_or xs i e
get_or_same [] i d e within = absurd (omega arith)
get_or_same (x ∷ xs) zero d e within = refl
get_or_same (x ∷ xs) (suc i) d e within = get_or_same xs i d e (omega arith)

-- the same of elements that are copied
pub concat-copied : {X : Type 0} (f : X → List ℕ) (done : List ℕ) (xs : List X) (i : ℕ) (d : X) → i < length xs → done ++ concat (map f (drop i xs)) ≡ (done ++ f (get_or xs i d)) ++ concat (map f (drop (i + 1) xs))
concat-copied f done xs i d within = concat-more f done xs i (get_or xs i d) within (get_or_same xs i d (get_or xs i d) within)

pub mapped-copied : {X Y A : Type 0} (g : Y → List A) (f : X → Y) (done : List A) (xs : List X) (i : ℕ) (d : X) → i < length xs → done ++ flat_map g (map f (drop i xs)) ≡ (done ++ g (f (get_or xs i d))) ++ flat_map g (map f (drop (i + 1) xs))
mapped-copied g f done xs i d within = mapped-more g f done xs i (get_or xs i d) within (get_or_same xs i d (get_or xs i d) within)

-- the texts of the numbers below one
pub below-none : (text : ℕ → List ℕ) (done : List ℕ) → done ++ each_below text 0 ≡ done
unfolding each_below
below-none text done = append-nil done

pub below-more : (text : ℕ → List ℕ) (done : List ℕ) (n : ℕ) → (done ++ each_below text n) ++ text n ≡ done ++ each_below text (n + 1)
unfolding each_below
below-more text done n = append_assoc done (each_below text n) (text n) ∙ ap (λ k. done ++ each_below text k) (sym (add-one n))

pub ruleset below_lemmas = (below-none, below-more)

-- three pieces, one behind another
pub three-pieces : (t u v a b c : List ℕ) → u ≡ t ++ a → v ≡ u ++ b → v ++ c ≡ t ++ ((a ++ b) ++ c)
three-pieces t u v a b c e f =
    ap (λ x. x ++ c) (f ∙ ap (λ x. x ++ b) e)
    ∙ (ap (λ x. x ++ c) (append_assoc t a b) ∙ append_assoc t (a ++ b) c)

-- a number and a name, and what stands before them
pub named : (t u number space name : List ℕ) → u ≡ t ++ concat (number ∷ space ∷ []) → u ++ name ≡ t ++ concat (number ∷ space ∷ name ∷ [])
named t u number space name e =
    ap (λ v. v ++ name) e
    ∙ (append_assoc t (number ++ (space ++ [])) name
    ∙ ap (λ v. t ++ v) (append_assoc number (space ++ []) name
    ∙ ap (λ v. number ++ v) (ap (λ v. v ++ name) (append-nil space) ∙ ap (λ v. space ++ v) (sym (append-nil name)))))

-- the names from a process on
pub names-end : (done : List ℕ) (ps : List BootProcess) (i : ℕ) → length ps ≤ i → done ++ names_from i (drop i ps) ≡ done
unfolding names_from
names-end done ps i past = ap (λ qs. done ++ names_from i qs) (drop_of_length-le ps past) ∙ append-nil done

pub names-more : (done : List ℕ) (ps : List BootProcess) (i : ℕ) (p : BootProcess) → i < length ps → p ≡ get_or ps i p → done ++ names_from i (drop i ps) ≡ (done ++ name_drawn i p) ++ names_from (i + 1) (drop (i + 1) ps)
unfolding names_from
names-more done ps i p within read =
    ap (λ qs. done ++ names_from i qs) (read_at ps i p within read) ∙ sym (append_assoc done (name_drawn i p) (names_from (i + 1) (drop (i + 1) ps)))

pub ruleset name_lemmas = (names-end, names-more)

-- what opens a group that goes so far down
way-closed : (d : List ℕ) → d ++ codes ")'>" ≡ (((d ++ codes ")") ++ codes "'") ++ []) ++ codes ">"
way-closed d =
    sym
    (ap (λ t. t ++ codes ">") (append-nil ((d ++ codes ")") ++ codes "'"))
    ∙ (append_assoc (d ++ codes ")") (codes "'") (codes ">") ∙ append_assoc d (codes ")") (codes "'>")))

pub way-opened : (room : ℕ) → concat (codes "<g transform='translate(0 " ∷ decimal room ∷ codes ")'>" ∷ []) ≡ opening_tag (codes "g") (way_down room)
unfolding opening_tag
way-opened room = ap (λ t. codes "<g transform='translate(0 " ++ t) (way-closed (decimal room))

pub ruleset mapped_lemmas = (mapped-end, mapped-more)

pub ruleset flat_lemmas = (flat-end, flat-more)

pub ruleset concat_lemmas = (concat-end)

pub ruleset map_lemmas = (map-end, map-more)

pub ruleset same_lemmas = (same-end, same-more)
