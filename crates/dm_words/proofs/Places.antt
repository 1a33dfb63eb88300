-- Words that are read into places one after another, from the first on.
use Rattle.dm_words.proofs.Names.{◌≡◌, ◌≤◌, ◌<◌, ℕ, zero, suc, ◌+◌, List, [], ◌∷◌, drop, get_or, length, map, replicate, set, refl, ap, sym, ◌∙◌, arith, drop_all, drop_more, option_map, Option, all_read, filling}
use Rattle.std.specs.Option.{option_and_then}
use Rattle.std.specs.declared.option.Option.TheVariants.{None, Some}

-- places with these put in from one on
abbrev pub laid : {X : Type 0} → ℕ → List X → List (Option X) → List (Option X)
laid place [] found = found
laid place (x ∷ xs) found = laid (suc place) xs (set found place (Some x))

laid_under : {X : Type 0} (place : ℕ) (xs : List X) (first : Option X) (found : List (Option X)) → laid (suc place) xs (first ∷ found) ≡ first ∷ laid place xs found
laid_under place [] first found = refl
laid_under place (x ∷ xs) first found = laid_under (suc place) xs first (set found place (Some x))

over_none : {X : Type 0} (place : ℕ) (xs : List X) → laid place xs [] ≡ []
over_none place [] = refl
over_none place (x ∷ xs) = over_none (suc place) xs

laid_all : {X : Type 0} (n : ℕ) (xs : List X) → laid 0 xs (replicate n None) ≡ filling n xs
laid_all zero [] = refl
laid_all (suc n) [] = refl
laid_all zero (x ∷ xs) = over_none 1 xs
laid_all (suc n) (x ∷ xs) = laid_under 0 xs (Some x) (replicate n None) ∙ ap (λ ys. Some x ∷ ys) (laid_all n xs)

-- what is found of the first words, with what the others say, is what all say
abbrev pub ReadUpTo : {X W : Type 0} → (List ℕ → Option X) → (W → List ℕ) → List W → ℕ → List (Option X) → Type 0
ReadUpTo read text words place found = option_map (λ xs. laid place xs found) (all_read read (map text (drop place words))) ≡ option_map (filling 16) (all_read read (map text words))

all_or_none : {X : Type 0} (o : Option (List X)) → option_map (λ xs. laid 0 xs (replicate 16 None)) o ≡ option_map (filling 16) o
all_or_none None = refl
all_or_none (Some xs) = ap (λ ys. Some ys) (laid_all 16 xs)

pub none_read : {X W : Type 0} (read : List ℕ → Option X) (text : W → List ℕ) (words : List W) → ReadUpTo read text words 0 (replicate 16 None)
none_read read text words = all_or_none (all_read read (map text words))

-- one more, in front of what the others say
abbrev before : {X : Type 0} → Option (List X) → Option X → Option (List X)
before others o = option_and_then (λ x. option_map (λ xs. x ∷ xs) others) o

next_word : {X W : Type 0} (read : List ℕ → Option X) (text : W → List ℕ) (words : List W) (place : ℕ) (d : W) (o : Option X) → place < length words → read (text (get_or words place d)) ≡ o
    → all_read read (map text (drop place words)) ≡ before (all_read read (map text (drop (place + 1) words))) o
next_word read text words place d o lt is = ap (λ ws. all_read read (map text ws)) (drop_more words place d lt) ∙ ap (before (all_read read (map text (drop (place + 1) words)))) is

laid_on : {X : Type 0} (place : ℕ) (found : List (Option X)) (x : X) (others : Option (List X)) → option_map (λ xs. laid place xs found) (before others (Some x)) ≡ option_map (λ xs. laid (place + 1) xs (set found place (Some x))) others
laid_on place found x None = refl
laid_on place found x (Some xs) =
    let next : suc place ≡ place + 1 = omega arith in
    ap (λ k. Some (laid k xs (set found place (Some x)))) next

pub one_read : {X W : Type 0} (read : List ℕ → Option X) (text : W → List ℕ) (words : List W) (place : ℕ) (d : W) (found : List (Option X)) (x : X) → place < length words → read (text (get_or words place d)) ≡ Some x → ReadUpTo read text words place found
    → ReadUpTo read text words (place + 1) (set found place (Some x))
one_read read text words place d found x lt is so_far =
    sym (ap (option_map (λ xs. laid place xs found)) (next_word read text words place d (Some x) lt is) ∙ laid_on place found x (all_read read (map text (drop (place + 1) words)))) ∙ so_far

pub one_says_none : {X W : Type 0} (read : List ℕ → Option X) (text : W → List ℕ) (words : List W) (place : ℕ) (d : W) (found : List (Option X)) → place < length words → read (text (get_or words place d)) ≡ None → ReadUpTo read text words place found
    → option_map (filling 16) (all_read read (map text words)) ≡ None
one_says_none read text words place d found lt is so_far = sym so_far ∙ ap (option_map (λ xs. laid place xs found)) (next_word read text words place d None lt is)

pub all_are_read : {X W : Type 0} (read : List ℕ → Option X) (text : W → List ℕ) (words : List W) (place : ℕ) (found : List (Option X)) → length words ≤ place → ReadUpTo read text words place found → Some found ≡ option_map (filling 16) (all_read read (map text words))
all_are_read read text words place found over so_far = sym (ap (λ ws. option_map (λ xs. laid place xs found) (all_read read (map text ws))) (drop_all place words over)) ∙ so_far
