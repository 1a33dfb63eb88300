-- A line up to its comment.
use Rattle.dm_asm.proofs.Names.{ℕ, zero, suc, false, true, ◌≡◌, ◌<◌, List, [], ◌∷◌, length, take, get_or, refl, ap, arith, position, Some, None, position-Some, is_semicolon, without_comment}
use Rattle.dm_reading.proofs.Cuts.{position-None}

comment-at : (xs : List ℕ) (i : ℕ) → i < length xs → is_semicolon (get_or xs i 0) ≡ true → ((k : ℕ) → k < i → is_semicolon (get_or xs k 0) ≡ false) → take i xs ≡ without_comment xs
comment-at [] i h p q = absurd (omega arith)
comment-at (x ∷ xs) zero h p q = rw p refl
comment-at (x ∷ xs) (suc i) h p q =
    let f : is_semicolon x ≡ false = q 0 (omega arith) in
    rw f (ap (λ (r : List ℕ). x ∷ r) (comment-at xs i (omega arith) p (λ k l. q (suc k) (omega arith))))

-- a comment begins at the first semicolon
pub comment-position : (xs : List ℕ) (i : ℕ) → position is_semicolon xs ≡ Some i → take i xs ≡ without_comment xs
comment-position xs i e = let h = position-Some is_semicolon xs i 0 e in comment-at xs i h.0 h.1 h.2

comment-none : (xs : List ℕ) → ((k : ℕ) → k < length xs → is_semicolon (get_or xs k 0) ≡ false) → xs ≡ without_comment xs
comment-none [] q = refl
comment-none (x ∷ xs) q =
    let f : is_semicolon x ≡ false = q 0 (omega arith) in
    rw f (ap (λ (r : List ℕ). x ∷ r) (comment-none xs (λ k l. q (suc k) (omega arith))))

-- a line without a semicolon has no comment
pub comment-whole : (xs : List ℕ) → position is_semicolon xs ≡ None → xs ≡ without_comment xs
comment-whole xs e = comment-none xs (position-None is_semicolon xs e)
