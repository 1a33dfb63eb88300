-- Reading one value after the other, as a loop does.
use Rattle.dm_packet.proofs.Names.{◌≡◌, ℕ, suc, ◌-◌, ◌+◌, ◌<◌, List, [], ◌∷◌, ◌++◌, Result, Ok, Err, refl, sym, ap, ◌∙◌, append_assoc, arith, PacketError, ◌>>=◌, read_times}

-- what was read before, and what is still read
abbrev pub with_front : {X : Type 0} → List X → Result (List X × List ℕ) PacketError → Result (List X × List ℕ) PacketError
with_front front read = read >>= λ x. Ok (front ++ x.0, x.1)

regroup : {X : Type 0} (front : List X) (x : X) (read : Result (List X × List ℕ) PacketError) → with_front front (read >>= λ y. Ok (x ∷ y.0, y.1)) ≡ with_front (front ++ x ∷ []) read
regroup front x (Ok y) = ap (λ xs. Ok (xs, y.1)) (simp append_assoc)
regroup front x (Err d) = refl

pub goes_on : {X : Type 0} (read : List ℕ → Result (X × List ℕ) PacketError) (front : List X) (count i : ℕ) (bytes : List ℕ) (x : X) (after : List ℕ) (total : Result (List X × List ℕ) PacketError) → i < count → read bytes ≡ Ok (x, after)
    → with_front front (read_times read (count - i) bytes) ≡ total → with_front (front ++ x ∷ []) (read_times read (count - (i + 1)) after) ≡ total
goes_on read front count i bytes x after total lt h so_far =
    let k : count - i ≡ suc (count - (i + 1)) = omega arith in
    let one : with_front front (read_times read (count - i) bytes) ≡ with_front (front ++ x ∷ []) (read_times read (count - (i + 1)) after) = rw (k, h) (regroup front x (read_times read (count - (i + 1)) after)) in
    sym one ∙ so_far

pub fails : {X : Type 0} (read : List ℕ → Result (X × List ℕ) PacketError) (d : PacketError) (front : List X) (count i : ℕ) (bytes : List ℕ) (total : Result (List X × List ℕ) PacketError) → i < count → read bytes ≡ Err d
    → with_front front (read_times read (count - i) bytes) ≡ total → total ≡ Err d
fails read d front count i bytes total lt h so_far =
    let k : count - i ≡ suc (count - (i + 1)) = omega arith in
    let one : with_front front (read_times read (count - i) bytes) ≡ Err d = rw (k, h) refl in
    sym so_far ∙ one
