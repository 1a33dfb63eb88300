-- The ring, and the first of it that can be served.
use Rattle.dm_kernel.proofs.Names.{◌≡◌, ℕ, zero, suc, true, false, List, [], ◌∷◌, ◌++◌, take, remove, Some, None, slice_get, arith, ap, ◌∙◌, common_steps, Option, Pid, pid_eq_self, moved_back, without, KernelKnown, first_runnable}
use Rattle.dm_kernel.proofs.Names.{known_is_runnable}

-- the process at a place may be taken out first
pub without_removed : (ring : List Pid) (i : ℕ) (p : Pid) → slice_get ring i ≡ Some p → without p (remove ring i) ≡ without p ring
without_removed [] i p at = grind arith
without_removed (x ∷ xs) zero p at = grind (arith, common_steps, pid_eq_self p)
without_removed (x ∷ xs) (suc i) p at = grind (arith, common_steps, without_removed xs i p)

-- none before it can be served, and it can
pub found : (records : Pid → Option KernelKnown) (ring : List Pid) (i : ℕ) (p : Pid) → slice_get ring i ≡ Some p → first_runnable records (take i ring) ≡ None
    → known_is_runnable (records p) ≡ true → first_runnable records ring ≡ Some p
found records [] i p at none can = grind arith
found records (x ∷ xs) zero p at none can = grind arith
found records (x ∷ xs) (suc i) p at none can = grind (arith, found records xs i p)

-- neither can it
pub not_found : (records : Pid → Option KernelKnown) (ring : List Pid) (i : ℕ) (p : Pid) → slice_get ring i ≡ Some p → first_runnable records (take i ring) ≡ None
    → known_is_runnable (records p) ≡ false → first_runnable records (take (suc i) ring) ≡ None
not_found records [] i p at none cannot = grind arith
not_found records (x ∷ xs) zero p at none cannot = grind arith
not_found records (x ∷ xs) (suc i) p at none cannot = grind (arith, not_found records xs i p)

-- those that are kept, and it behind them
pub is_moved_back : (ring new kept : List Pid) (i : ℕ) (p q : Pid) → slice_get ring i ≡ Some p → slice_get ring i ≡ Some q → kept ≡ without q (remove ring i) → new ≡ kept ++ p ∷ [] → new ≡ moved_back p ring
is_moved_back ring new kept i p q at there k e =
    let same : q ≡ p = cc in
    e ∙ ap (λ l. l ++ p ∷ []) (k ∙ ap (λ r. without r (remove ring i)) same ∙ without_removed ring i p at)
