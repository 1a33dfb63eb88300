-- The pieces of texts that are put together of words.
use Rattle.dm_text.proofs.Names.{◌≡◌, ℕ, ◌<◌, ◌≤◌, ◌==◌, nat_lt, Bool, true, false, if◌then◌else◌, List, [], ◌∷◌, ◌++◌, refl, arith, ne_eqb, eq-eqb, ltb-true, lt-ltb, pieces}

-- the byte isn't in the text
abbrev pub free : ℕ → List ℕ → Bool
free sep [] = true
free sep (b ∷ bs) = if b == sep then false else free sep bs

-- each byte of the text is greater
abbrev pub above : ℕ → List ℕ → Bool
above s [] = true
above s (b ∷ bs) = if nat_lt s b then above s bs else false

if_free : (t f : Bool) → (if t then false else f) ≡ true → (t ≡ false) × (f ≡ true)
if_free true f h = absurd (cc)
if_free false f h = (refl, h)

if_above : (t f : Bool) → (if t then f else false) ≡ true → (t ≡ true) × (f ≡ true)
if_above true f h = (refl, h)
if_above false f h = absurd (cc)

pub free-append : (sep : ℕ) (a b : List ℕ) → free sep a ≡ true → free sep b ≡ true → free sep (a ++ b) ≡ true
free-append sep [] b h k = k
free-append sep (x ∷ a) b h k =
    let t : (x == sep ≡ false) × (free sep a ≡ true) = if_free (x == sep) (free sep a) h in
    rw t.0 (free-append sep a b t.1 k)

pub above-append : (s : ℕ) (a b : List ℕ) → above s a ≡ true → above s b ≡ true → above s (a ++ b) ≡ true
above-append s [] b h k = k
above-append s (x ∷ a) b h k =
    let t : (nat_lt s x ≡ true) × (above s a ≡ true) = if_above (nat_lt s x) (above s a) h in
    rw t.0 (above-append s a b t.1 k)

pub above-le : (s t : ℕ) (a : List ℕ) → s ≤ t → above t a ≡ true → above s a ≡ true
above-le s t [] l h = refl
above-le s t (x ∷ a) l h =
    let k : (nat_lt t x ≡ true) × (above t a ≡ true) = if_above (nat_lt t x) (above t a) h in
    let g : t < x = ltb-true t x k.0 in
    let e : nat_lt s x ≡ true = lt-ltb s x (omega arith) in
    rw e (above-le s t a l k.1)

pub free-above : (sep : ℕ) (a : List ℕ) → above sep a ≡ true → free sep a ≡ true
free-above sep [] h = refl
free-above sep (x ∷ a) h =
    let k : (nat_lt sep x ≡ true) × (above sep a ≡ true) = if_above (nat_lt sep x) (above sep a) h in
    let g : sep < x = ltb-true sep x k.0 in
    let e : (x == sep) ≡ false = ne_eqb x sep (λ p. absurd (omega arith)) in
    rw e (free-above sep a k.1)

-- a text with no such byte is one piece
pub pieces-free : (sep : ℕ) (w : List ℕ) → free sep w ≡ true → pieces sep w ≡ w ∷ []
unfolding pieces
pieces-free sep [] h = refl
pieces-free sep (b ∷ bs) h =
    let t : (b == sep ≡ false) × (free sep bs ≡ true) = if_free (b == sep) (free sep bs) h in
    rw (t.0, pieces-free sep bs t.1) refl

-- a piece, and those after it
pub pieces-next : (sep : ℕ) (w rest : List ℕ) → free sep w ≡ true → pieces sep (w ++ sep ∷ rest) ≡ w ∷ pieces sep rest
unfolding pieces
pieces-next sep [] rest h = rw (eq-eqb sep sep refl) refl
pieces-next sep (b ∷ bs) rest h =
    let t : (b == sep ≡ false) × (free sep bs ≡ true) = if_free (b == sep) (free sep bs) h in
    rw (t.0, pieces-next sep bs rest t.1) refl

-- the words have neither spaces nor line feeds
abbrev pub AreWords : List (List ℕ) → Type 0
AreWords [] = Unit {0}
AreWords (w ∷ ws) = (above 32 w ≡ true) × AreWords ws
