-- What a text keeps of its beginning.
use Rattle.std.specs.Prelude.{OnOk}
use Rattle.dm_text.proofs.Names.{◌≡◌, ℕ, List, [], ◌∷◌, ◌++◌, length, take, refl, ap, sym, ◌∙◌, append_assoc, append-nil, OnErr, Result, Ok, Err, Keeps, spaced}
use Rattle.dm_text.proofs.Spacing.{spaced-append}

pub keeps-front : (a x b : List ℕ) → Keeps (a ++ x) b → Keeps a b
keeps-front [] x b h = refl
keeps-front (n ∷ a) x [] h = absurd (cc)
keeps-front (n ∷ a) x (m ∷ b) h =
    let e : take (length (a ++ x)) b ≡ a ++ x = cc in
    let f : m ≡ n = cc in
    rw (f, keeps-front a x b e) refl

-- what was there before a call that lacks memory is there after it
pub kept : {T E : Type 0} → (r : Result T E) (a x before now : List ℕ) → before ≡ a ++ x → Keeps before now → OnErr r (Keeps a now)
kept (Ok y) a x before now e h = tt
kept (Err y) a x before now e h = keeps-front a x now (ap (λ t. take (length t) now) (sym e) ∙ h ∙ e)

pub kept-twice : {T E : Type 0} → (r : Result T E) (a x b y before now : List ℕ) → b ≡ a ++ x → before ≡ b ++ y → Keeps before now → OnErr r (Keeps a now)
kept-twice r a x b y before now e f h = kept r a (x ++ y) before now (f ∙ ap (λ t. t ++ y) e ∙ append_assoc a x y) h

-- a line of several parts
pub listed : (into name : List ℕ) (a b : List (List ℕ)) (t u v w : List ℕ) → t ≡ into ++ name → u ≡ t ++ spaced a → v ≡ u ++ spaced b → w ≡ v ++ 10 ∷ [] → w ≡ into ++ (name ++ spaced (a ++ b) ++ 10 ∷ [])
listed into name a b t u v w e f g h = rw (h, g, f, e, spaced-append a b) (simp append_assoc)

pub kept-thrice : {T E : Type 0} → (r : Result T E) (a x b y c z before now : List ℕ) → b ≡ a ++ x → c ≡ b ++ y → before ≡ c ++ z → Keeps before now → OnErr r (Keeps a now)
kept-thrice r a x b y c z before now e f g h = kept-twice r a (x ++ y) c z before now (f ∙ ap (λ t. t ++ y) e ∙ append_assoc a x y) g h

-- a line of one more part
pub listed-more : (into name : List ℕ) (a b c : List (List ℕ)) (t u v w x : List ℕ) → t ≡ into ++ name → u ≡ t ++ spaced a → v ≡ u ++ spaced b → w ≡ v ++ spaced c → x ≡ w ++ 10 ∷ [] → x ≡ into ++ (name ++ spaced (a ++ (b ++ c)) ++ 10 ∷ [])
listed-more into name a b c t u v w x e f g h i =
    listed into name a (b ++ c) t u w x e f (h ∙ ap (λ s. s ++ spaced c) g ∙ append_assoc u (spaced b) (spaced c) ∙ ap (λ s. u ++ s) (sym (spaced-append b c))) i

-- a text that goes on behind another
pub record Behind (a now : List ℕ) : Type 0 where
  rest : List ℕ
  is : now ≡ a ++ rest

pub behind : (a x now : List ℕ) → now ≡ a ++ x → Behind a now
behind a x now e = record { rest = x; is = e }

pub further : (a y t now : List ℕ) → Behind a t → now ≡ t ++ y → Behind a now
further a y t now h e = record { rest = h.rest ++ y; is = e ∙ ap (λ s. s ++ y) h.is ∙ append_assoc a h.rest y }

front-there : (a x : List ℕ) → Keeps a (a ++ x)
front-there [] x = refl
front-there (n ∷ a) x = ap (λ t. n ∷ t) (front-there a x)

-- a call that lacks memory leaves the text as it is
pub kept-as : {T E : Type 0} → (r : Result T E) (a t now : List ℕ) → Behind a t → now ≡ t → OnErr r (Keeps a now)
kept-as (Ok y) a t now h e = tt
kept-as (Err y) a t now h e = ap (λ s. take (length a) s) (e ∙ h.is) ∙ front-there a h.rest

pub kept-all : {T E : Type 0} → (r : Result T E) (a now : List ℕ) → now ≡ a → OnErr r (Keeps a now)
kept-all r a now e = kept-as r a a now (behind a [] a (sym (append-nil a))) e

-- the same of a call that ends a function
pub kept-if : {T E : Type 0} → (r : Result T E) (a t now : List ℕ) → Behind a t → OnErr r (now ≡ t) → OnErr r (Keeps a now)
kept-if {T} {E} (Ok y) a t now h e = tt
kept-if {T} {E} (Err y) a t now h e = kept-as {T = T} {E = E} (Err y) a t now h e

pub kept-too : {T E : Type 0} → (r : Result T E) (a x before now : List ℕ) → before ≡ a ++ x → OnErr r (Keeps before now) → OnErr r (Keeps a now)
kept-too {T} {E} (Ok y) a x before now e h = tt
kept-too {T} {E} (Err y) a x before now e h = kept {T = T} {E = E} (Err y) a x before now e h

-- a call that keeps what was there before it, behind what a text had
pub kept-behind : {T E : Type 0} → (r : Result T E) (a before now : List ℕ) → Behind a before → OnErr r (Keeps before now) → OnErr r (Keeps a now)
kept-behind r a before now h k = kept-too r a h.rest before now h.is k

-- a line of one part
pub named : (into name s t now : List ℕ) → t ≡ into ++ name ++ s → now ≡ t ++ 10 ∷ [] → now ≡ into ++ (name ++ s ++ 10 ∷ [])
named into name s t now e f =
    f
    ∙ ap (λ x. x ++ 10 ∷ []) e
    ∙ append_assoc (into ++ name) s (10 ∷ [])
    ∙ append_assoc into name (s ++ 10 ∷ [])
    ∙ ap (λ x. into ++ x) (sym (append_assoc name s (10 ∷ [])))

-- a line of several parts, whose last ends the function
pub listed-last : {T E : Type 0} → (r : Result T E) (into name : List ℕ) (a b c : List (List ℕ)) (t u now : List ℕ) → t ≡ into ++ name ++ spaced a → u ≡ t ++ spaced b → OnOk r (now ≡ u ++ spaced c ++ 10 ∷ []) → OnOk r (now ≡ into ++ (name ++ spaced (a ++ (b ++ c)) ++ 10 ∷ []))
listed-last (Err y) into name a b c t u now e f g = tt
listed-last (Ok y) into name a b c t u now e f g = listed-more into name a b c (into ++ name) t u (u ++ spaced c) now refl e f refl g
