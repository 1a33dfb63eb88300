-- Tests of all machines, and the first one that passes.
use Rattle.std.specs.Prelude.{◌≡◌, ◌<◌, ◌⊎◌, ℕ, zero, suc, Bool, true, is_some, if◌then◌else◌}
use Rattle.std.specs.declared.option.Option.TheVariants.{None, Some}
use Rattle.std.proofs.Common.{sym, ap, ap₂, ◌∙◌, inl, inr, ⊎_elim, arith}
use Rattle.std.proofs.lemmas.Bool.{cases_eq, or_left, or_right}
use Rattle.dm_line.specs.Todo.{or}
use Rattle.dm_onekernel.specs.Boot.{manager}
use Rattle.dm_kernel.specs.State.{manager_in}
use Rattle.dm_node.specs.State.{NodeState}
use Rattle.dm_world.specs.World.{seat_of}
use Rattle.dm_explore.specs.Sights.{any_below}

pub any_below_at : (n : ℕ) (test : ℕ → Bool) (m : ℕ) → m < n → test m ≡ true → any_below n test ≡ true
any_below_at zero test m lt h = absurd (omega arith)
any_below_at (suc n) test m lt h =
    ⊎_elim (λ e. or_right (any_below n test) (test n) (ap test (sym e) ∙ h)) (λ other. or_left (any_below n test) (test n) (any_below_at n test m (omega arith) h)) (cases_eq m n)

pub seat_found : (nodes : ℕ → NodeState) (n m : ℕ) → m < n → seat_of m nodes ≡ None → is_some (manager_in ((nodes m).kernel.records manager)) ≡ true → Some m ≡ seat_of n nodes
seat_found nodes zero m lt none here = absurd (omega arith)
seat_found nodes (suc n) m lt none here = by (cases_eq m n) (λ less. seat_found nodes n m less none here)
  where
    by : (m ≡ n) ⊎ (m ≡ n → ⊥) → (m < n → Some m ≡ seat_of n nodes) → Some m ≡ seat_of (suc n) nodes
    by (inl e) later =
        sym (ap₂ or (ap (λ k. seat_of k nodes) (sym e) ∙ none) (ap (λ t. if t then Some n else None) (ap (λ k. is_some (manager_in ((nodes k).kernel.records manager))) (sym e) ∙ here)) ∙ ap (λ k. Some k) (sym e))
    by (inr other) later = sym (ap (λ o. or o (if is_some (manager_in ((nodes n).kernel.records manager)) then Some n else None)) (sym (later (omega arith))))
