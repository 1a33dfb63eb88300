-- A directive to move a process or a server: a line says why none is told to, or a request goes to it; and one that calls a migration off. What holds of these three, or two, holds of whatever comes of it.
use Rattle.dm_law_rule.proofs.Names.{◌≡◌, ℕ, Bool, true, false, List, [], ◌∷◌, ◌++◌, length, refl, if◌then◌else◌, Option, None, Some, Pid, MsgId, MessageKind, Line, Known, Incoming, Point, Part}
use Rattle.dm_law_rule.proofs.Names.{Says, Owns, has_seat, known_place, migrates_to, migrates, sends_on, to_kernel, calls_off, Place, arith}

-- a test chooses between two values, and both do
pub by_test : {A : Type 0} (P : A → Type 0) (c : Bool) (x y : A) → P x → P y → P (if c then x else y)
by_test P true x y h k = h
by_test P false x y h k = k

by_place : (P : List Part → Type 0) (p : Pid) (o : Option Place) → P (Says (Line.NoChild p) ∷ []) → ((a : Place) → o ≡ Some a → P (Owns MessageKind.Migrate p a.at ∷ [])) → P (migrates_to p o)
by_place P p None none asks = none
by_place P p (Some a) none asks = asks a refl

by_seat : (P : List Part → Type 0) (c : Bool) (ps : List Part) → P (Says Line.Away ∷ []) → (c ≡ true → P ps) → P (if c then ps else Says Line.Away ∷ [])
by_seat P true ps away asks = asks refl
by_seat P false ps away asks = away

-- the manager is here where it is asked, and knows a place of the process or server (KnownPlaces)
pub by_migrates : (P : List Part → Type 0) (pt : Point) (p : Pid) → P (Says Line.Away ∷ []) → P (Says (Line.NoChild p) ∷ [])
    → ((a : Place) → has_seat pt.view ≡ true → known_place pt.kernel pt.view pt.view.seat pt.addresses p ≡ Some a → P (Owns MessageKind.Migrate p a.at ∷ [])) → P (migrates pt p)
by_migrates P pt p away none asks =
    by_seat P (has_seat pt.view) (migrates_to p (known_place pt.kernel pt.view pt.view.seat pt.addresses p)) away (λ here. by_place P p (known_place pt.kernel pt.view pt.view.seat pt.addresses p) none (λ a knows. asks a here knows))

-- what was held for a process goes back to the machine that it was to leave, and that machine's kernel is told
abbrev pub called_parts : Pid → List MsgId → ℕ → List Part
called_parts p ids from = Says (Line.Called p (length ids)) ∷ sends_on from ids ++ to_kernel MessageKind.CallOff from ∷ []

-- there is nothing to call off, or the process is on its way here and not all of it has come
pub by_calls_off : (P : List Part → Type 0) (pt : Point) (m : ℕ) (p : Pid) → P (Says (Line.NoCall p) ∷ []) → ((from : ℕ) → pt.view.known m p ≡ Incoming from → pt.view.come p ≡ false → P (called_parts p (pt.view.held m p) from)) → P (calls_off pt m p (pt.view.known m p))
by_calls_off P pt m p none called =
    let by_come : (P : List Part → Type 0) (c : Bool) (ps qs : List Part) → P ps → (c ≡ false → P qs) → P (if c then ps else qs) = λ P c ps qs h k. search arith in
    let by_known : (k : Known) → pt.view.known m p ≡ k → P (calls_off pt m p k) = λ k is. search (arith, by_come) in
    by_known (pt.view.known m p) refl
