-- Messages that are found, one after another.
use Rattle.dm_world.proofs.Names.{◌≡◌, ℕ, suc, ◌+◌, List, [], ◌∷◌, ◌++◌, drop, slice_get, refl, sym, ap, ◌∙◌, arith, append_assoc, drop-cons, Some, get_or_from_slice_get, slice_get_within, Message, joined_below}
use Rattle.std.specs.Prelude.{map}

-- what is found of references
pub map_push : {X Y : Type 0} (f : X → Y) (xs : List X) (x : X) → map f (xs ++ x ∷ []) ≡ map f xs ++ f x ∷ []
map_push f [] x = refl
map_push f (y ∷ ys) x = ap (λ l. f y ∷ l) (map_push f ys x)

rest_at : (ms : List Message) (i : ℕ) (m : Message) → slice_get ms i ≡ Some m → drop i ms ≡ m ∷ drop (i + 1) ms
rest_at ms i m e =
    let next : suc i ≡ i + 1 = omega arith in
    drop-cons ms i m (slice_get_within ms i m e) ∙ ap (λ y. y ∷ drop (suc i) ms) (get_or_from_slice_get ms i m m e) ∙ ap (λ k. m ∷ drop k ms) next

-- one more message is found
pub found_next : (ms : List Message) (i : ℕ) (m : Message) (before after whole : List Message) → slice_get ms i ≡ Some m → after ≡ before ++ m ∷ [] → before ++ drop i ms ≡ whole → after ++ drop (i + 1) ms ≡ whole
found_next ms i m before after whole e f h = ap (λ l. l ++ drop (i + 1) ms) f ∙ append_assoc before (m ∷ []) (drop (i + 1) ms) ∙ ap (λ l. before ++ l) (sym (rest_at ms i m e)) ∙ h

-- those of one more place, and of all
pub found_more : (f : ℕ → List Message) (n : ℕ) (old mid new : List Message) → mid ≡ old ++ joined_below f n → new ≡ mid ++ f n → new ≡ old ++ joined_below f (n + 1)
found_more f n old mid new h g =
    let next : suc n ≡ n + 1 = omega arith in
    g ∙ ap (λ ls. ls ++ f n) h ∙ append_assoc old (joined_below f n) (f n) ∙ ap (λ k. old ++ joined_below f k) next

pub all_found : (f : ℕ → List Message) (n all : ℕ) (old new : List Message) → n ≡ all → new ≡ old ++ joined_below f n → new ≡ old ++ joined_below f all
all_found f n all old new end h = h ∙ ap (λ k. old ++ joined_below f k) end

-- three lists, one behind the other
pub three_found : (a b c old one two new : List Message) → one ≡ old ++ a → two ≡ one ++ b → new ≡ two ++ c → new ≡ old ++ ((a ++ b) ++ c)
three_found a b c old one two new e f g = g ∙ ap (λ l. l ++ c) (f ∙ ap (λ l. l ++ b) e ∙ append_assoc old a b) ∙ append_assoc old (a ++ b) c

pub two_found : (a b old one new : List Message) → one ≡ old ++ a → new ≡ one ++ b → new ≡ old ++ (a ++ b)
two_found a b old one new e f = f ∙ ap (λ l. l ++ b) e ∙ append_assoc old a b
