-- A status is read as it is spelled.
use Rattle.dm_statebytes.proofs.Names.{◌≡◌, ℕ, ◌+◌, ◌<◌, ◌≤◌, Bool, true, List, [], ◌∷◌, ◌++◌, Some, Result, Ok, refl, ap, arith, append_assoc, ◌∙◌, nat_le, ◌==◌, ◌&&◌, find, nat_tests, Addr, number_of_direction}
use Rattle.dm_statebytes.proofs.Names.{IsLawfulStatus, Direction, FromArea, IntoArea, Status, Ready, Waiting, Moving, PacketError, ◌>>=◌, both, number, addr, Fits, IsBytes, IsField, IsField-both, IsField-for, IsField-number, IsField-tested}
use Rattle.dm_statebytes.proofs.Names.{Took, bind_ok, took_same, then_parts, IsSpelledAddr, addr_is, coded_is, IsLenFrom, len_from_is, StatusKind, len_from, direction, left_from, moving, number_of_status_kind, read_status}
use Rattle.dm_statebytes.proofs.Names.{spell_status, status, status_kind, waiting, FitsStatus}
use Rattle.dm_packet.specs.declared.PacketError.TheVariants as bad
use Rattle.dm_statebytes.specs.declared.status.StatusKind.TheVariants as kinds

-- the bytes that stand for a kind of status or a direction

kind_small : (k : StatusKind) → number_of_status_kind k < 256
kind_small kinds.Ready = omega arith
kind_small kinds.Waiting = omega arith
kind_small kinds.Moving = omega arith

kind_there : (k : StatusKind) → find (λ j. number_of_status_kind k == number_of_status_kind j) (kinds.Ready ∷ kinds.Waiting ∷ kinds.Moving ∷ []) ≡ Some k
kind_there kinds.Ready = refl
kind_there kinds.Waiting = refl
kind_there kinds.Moving = refl

status_kind_is : IsField status_kind (λ _. Unit {0})
status_kind_is = coded_is (kinds.Ready ∷ kinds.Waiting ∷ kinds.Moving ∷ []) number_of_status_kind bad.Flags kind_small kind_there

direction_small : (d : Direction) → number_of_direction d < 256
direction_small FromArea = omega arith
direction_small IntoArea = omega arith

direction_there : (d : Direction) → find (λ e. number_of_direction d == number_of_direction e) (FromArea ∷ IntoArea ∷ []) ≡ Some d
direction_there FromArea = refl
direction_there IntoArea = refl

direction_is : IsField direction (λ _. Unit {0})
direction_is = coded_is (FromArea ∷ IntoArea ∷ []) number_of_direction bad.Flags direction_small direction_there

-- what each kind has

waiting_is : (size : ℕ) → IsField (waiting size) (λ w. Fits 4 w.0 × (Fits 4 w.1.0 × IsLenFrom size w.1.0 w.1.1))
waiting_is size =
    let buffer = IsField-both (number 4) (Fits 4) (IsField-number 4) (len_from size) (IsLenFrom size) (len_from_is size) in
    IsField-both (number 4) (Fits 4) (IsField-number 4) (λ _. both (number 4) (len_from size)) (λ _ b. Fits 4 b.0 × IsLenFrom size b.0 b.1) (λ _. buffer)

abbrev is_left : ℕ → ℕ → ℕ → ℕ → Bool
is_left size base own left = (nat_le 1 left && nat_le left 65536) && (nat_le (base + left) 65536 && nat_le (own + left) size)

abbrev IsLeftFrom : ℕ → ℕ → ℕ → ℕ → Type 0
IsLeftFrom size base own left = Fits 4 left × ((1 ≤ left) × (left ≤ 65536) × (base + left ≤ 65536) × (own + left ≤ size))

left_from_is : (size base own : ℕ) → IsField (left_from size base own) (IsLeftFrom size base own)
left_from_is size base own =
    IsField-for (left_from size base own) (λ left. Fits 4 left × (is_left size base own left ≡ true)) (IsLeftFrom size base own)
    (IsField-tested (number 4) (Fits 4) (IsField-number 4) (is_left size base own) bad.Limit)
    (λ left fits. (fits.0, (grind (arith, nat_tests), grind (arith, nat_tests), grind (arith, nat_tests), grind (arith, nat_tests))))
    (λ left fits. (fits.0, grind (arith, nat_tests)))

abbrev IsMoving : ℕ → Direction × (Addr × (ℕ × (ℕ × (ℕ × ℕ)))) → Type 0
IsMoving size m = Unit {0} × (IsSpelledAddr m.1.0 × (Fits 4 m.1.1.0 × (Fits 4 m.1.1.1.0 × (IsLeftFrom size m.1.1.0 m.1.1.1.0 m.1.1.1.1.0 × Fits 4 m.1.1.1.1.1))))

moving_is : (size : ℕ) → IsField (moving size) (IsMoving size)
moving_is size =
    let from_left = λ (base own : ℕ). IsField-both (left_from size base own) (IsLeftFrom size base own) (left_from_is size base own) (λ _. number 4) (λ _. Fits 4) (λ _. IsField-number 4) in
    let from_own = λ (base : ℕ). IsField-both (number 4) (Fits 4) (IsField-number 4) (λ own. both (left_from size base own) (λ _. number 4)) (λ own m. IsLeftFrom size base own m.0 × Fits 4 m.1) (from_left base) in
    let from_base = IsField-both (number 4) (Fits 4) (IsField-number 4) (λ base. both (number 4) (λ own. both (left_from size base own) (λ _. number 4))) (λ base m. Fits 4 m.0 × (IsLeftFrom size base m.0 m.1.0 × Fits 4 m.1.1)) from_own in
    let from_owner = IsField-both addr IsSpelledAddr addr_is (λ _. both (number 4) (λ base. both (number 4) (λ own. both (left_from size base own) (λ _. number 4)))) (λ _ m. Fits 4 m.0 × (Fits 4 m.1.0 × (IsLeftFrom size m.0 m.1.0 m.1.1.0 × Fits 4 m.1.1.1))) (λ _. from_base) in
    IsField-both direction (λ _. Unit {0}) direction_is (λ _. both addr (λ _. both (number 4) (λ base. both (number 4) (λ own. both (left_from size base own) (λ _. number 4))))) (λ _ m. IsSpelledAddr m.0 × (Fits 4 m.1.0 × (Fits 4 m.1.1.0 × (IsLeftFrom size m.1.0 m.1.1.0 m.1.1.1.0 × Fits 4 m.1.1.1.1)))) (λ _. from_owner)

-- the status

abbrev pub IsSpelledStatus : ℕ → Status → Type 0
IsSpelledStatus size s = IsLawfulStatus size s × FitsStatus s

rest_takes : (size : ℕ) (k : StatusKind) (front bytes : List ℕ) (s : Status) (rest : List ℕ) → front ≡ status_kind.spell k ++ bytes → IsBytes bytes → read_status size k bytes ≡ Ok (s, rest) → Took (status size) (IsSpelledStatus size) front s rest
rest_takes size kinds.Ready front bytes s rest parts h e =
    took_same (status size) (IsSpelledStatus size) front (Ready, bytes) (s, rest) e (record { parts = parts; rest_fits = h; fits = (tt, tt) })
rest_takes size kinds.Waiting front bytes s rest parts h e =
    let a = bind_ok ((waiting size).read bytes) (λ w. Ok (Waiting w.0.0 w.0.1.0 w.0.1.1, w.1)) (s, rest) e in
    let t = (waiting_is size).takes bytes a.0.0 a.0.1 h a.1 in
    let whole = then_parts front (status_kind.spell kinds.Waiting) bytes ((waiting size).spell a.0.0) a.0.1 parts t.parts in
    took_same (status size) (IsSpelledStatus size) front (Waiting a.0.0.0 a.0.0.1.0 a.0.0.1.1, a.0.1) (s, rest) a.2
    (record { parts = whole; rest_fits = t.rest_fits; fits = (t.fits.1.1.1, (t.fits.0, t.fits.1.0, t.fits.1.1.0)) })
rest_takes size kinds.Moving front bytes s rest parts h e =
    let a = bind_ok ((moving size).read bytes) (λ m. Ok (Moving m.0.0 m.0.1.0 m.0.1.1.0 m.0.1.1.1.0 m.0.1.1.1.1.0 m.0.1.1.1.1.1, m.1)) (s, rest) e in
    let t = (moving_is size).takes bytes a.0.0 a.0.1 h a.1 in
    let whole = then_parts front (status_kind.spell kinds.Moving) bytes ((moving size).spell a.0.0) a.0.1 parts t.parts in
    let left = t.fits.1.1.1.1.0 in
    took_same (status size) (IsSpelledStatus size) front (Moving a.0.0.0 a.0.0.1.0 a.0.0.1.1.0 a.0.0.1.1.1.0 a.0.0.1.1.1.1.0 a.0.0.1.1.1.1.1, a.0.1) (s, rest) a.2
    (record {
      parts = whole;
      rest_fits = t.rest_fits;
      fits = ((t.fits.1.0.0, left.1.0, left.1.1, left.1.2, left.1.3), (t.fits.1.0.1, t.fits.1.1.0, t.fits.1.1.1.0, left.0, t.fits.1.1.1.1.1));
    })

abbrev with_kind : ℕ → Result (StatusKind × List ℕ) PacketError → Result (Status × List ℕ) PacketError
with_kind size r = r >>= λ k. read_status size k.0 k.1

status_again : (size : ℕ) (s : Status) (rest : List ℕ) → IsSpelledStatus size s → (status size).read (spell_status size s ++ rest) ≡ Ok (s, rest)
status_again size Ready rest fits = ap (with_kind size) (status_kind_is.again kinds.Ready rest tt)
status_again size (Waiting mask base cap) rest fits =
    let w : ℕ × (ℕ × ℕ) = (mask, (base, cap)) in
    ap (status size).read (append_assoc (status_kind.spell kinds.Waiting) ((waiting size).spell w) rest)
    ∙ ap (with_kind size) (status_kind_is.again kinds.Waiting ((waiting size).spell w ++ rest) tt)
    ∙ rw ((waiting_is size).again w rest (fits.1.0, (fits.1.1, (fits.1.2, fits.0)))) refl
status_again size (Moving dir owner base own left pending) rest fits =
    let m : Direction × (Addr × (ℕ × (ℕ × (ℕ × ℕ)))) = (dir, (owner, (base, (own, (left, pending))))) in
    let lawful = fits.0 in
    let widths = fits.1 in
    ap (status size).read (append_assoc (status_kind.spell kinds.Moving) ((moving size).spell m) rest)
    ∙ ap (with_kind size) (status_kind_is.again kinds.Moving ((moving size).spell m ++ rest) tt)
    ∙ rw ((moving_is size).again m rest (tt, ((lawful.0, widths.0), (widths.1, (widths.2, ((widths.3, (lawful.1, lawful.2, lawful.3, lawful.4)), widths.4)))))) refl

pub status_is : (size : ℕ) → IsField (status size) (IsSpelledStatus size)
status_is size = record {
  takes = λ bytes s rest h e.
      let a = bind_ok (status_kind.read bytes) (λ k. read_status size k.0 k.1) (s, rest) e in
      let t = status_kind_is.takes bytes a.0.0 a.0.1 h a.1 in
      rest_takes size a.0.0 bytes a.0.1 s rest t.parts t.rest_fits a.2;
  again = status_again size;
}
