-- How the rows of the tables are read: so many words after a name, each by its own reader.
use Rattle.std.specs.Prelude.{ℕ, Bool, List, [], ◌∷◌}
use Rattle.std.specs.Str.{bytes_eq}
use Rattle.std.specs.declared.option.Option.{Option}
use Rattle.std.specs.declared.option.Option.TheVariants.{None, Some}
use Rattle.dm_text.specs.Reading.{◌<*>◌}

-- the word is this one
abbrev pub is : List ℕ → List ℕ → Bool
is w v = bytes_eq w v

-- the first where it is there, else the second
abbrev pub or_else : {X : Type 0} → Option X → Option X → Option X
or_else None o = o
or_else (Some x) o = Some x

abbrev pub of0 : {L : Type 0} → L → List (List ℕ) → Option L
of0 l [] = Some l
of0 l _ = None

abbrev pub of1 : {A L : Type 0} → (List ℕ → Option A) → (A → L) → List (List ℕ) → Option L
of1 a f (x ∷ []) = Some f <*> a x
of1 a f _ = None

abbrev pub of2 : {A B L : Type 0} → (List ℕ → Option A) → (List ℕ → Option B) → (A → B → L) → List (List ℕ) → Option L
of2 a b f (x ∷ y ∷ []) = Some f <*> a x <*> b y
of2 a b f _ = None

abbrev pub of3 : {A B C L : Type 0} → (List ℕ → Option A) → (List ℕ → Option B) → (List ℕ → Option C) → (A → B → C → L) → List (List ℕ) → Option L
of3 a b c f (x ∷ y ∷ z ∷ []) = Some f <*> a x <*> b y <*> c z
of3 a b c f _ = None

-- each word by the same reader
abbrev pub all_read : {A : Type 0} → (List ℕ → Option A) → List (List ℕ) → Option (List A)
all_read a [] = Some []
all_read a (w ∷ ws) = Some (λ x xs. x ∷ xs) <*> a w <*> all_read a ws
