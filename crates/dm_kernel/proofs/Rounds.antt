-- The first process of the ring that can be served, where looking for it changes nothing.
use Rattle.dm_kernel.proofs.Names.{◌≡◌, ◌∙◌, ℕ, suc, true, false, take, Some, None, slice_get, ap, subst, sym, Option, IfSome, Pid, IsServiceOf, Process, Service, process_in, IsHere, KernelState, KernelKnown, first_runnable, known_is_runnable}
use Rattle.dm_kernel.proofs.Known.{is_here_as}
use Rattle.dm_kernel.proofs.Ringing.{found, not_found}

-- what a process that is here does, said of what is known of it
pub here_does : (o n : Option KernelKnown) (x : Process) (r : Option Service) → process_in o ≡ Some x → n ≡ o → IfSome r (IsServiceOf x) → IfSome r (λ s. IsHere (λ y. IsServiceOf y s) n)
here_does o n x None was same h = tt
here_does o n x (Some s) was same h = subst (IsHere (λ (y : Process). IsServiceOf y s)) (sym same) (is_here_as (λ (y : Process). IsServiceOf y s) o x was h)

-- a place of the ring that is looked at
pub stays_at : (s t : KernelState) (i : ℕ) (p : Pid) → t ≡ s → slice_get s.ring i ≡ Some p → slice_get t.ring i ≡ Some p
stays_at s t i p same at = ap (λ (u : KernelState). slice_get u.ring i) same ∙ at

-- it can be served, as none before it can
pub is_first : (s t : KernelState) (i : ℕ) (p : Pid) → t ≡ s → slice_get s.ring i ≡ Some p → first_runnable s.records (take i s.ring) ≡ None → true ≡ known_is_runnable (t.records p)
    → slice_get t.ring i ≡ first_runnable t.records t.ring
is_first s t i p same at none can =
    let here = stays_at s t i p same at in
    here ∙ sym (found t.records t.ring i p here (ap (λ (u : KernelState). first_runnable u.records (take i u.ring)) same ∙ none) (sym can))

-- it can't either
pub none_yet : (s t : KernelState) (i : ℕ) (p : Pid) → t ≡ s → slice_get s.ring i ≡ Some p → first_runnable s.records (take i s.ring) ≡ None → false ≡ known_is_runnable (t.records p)
    → first_runnable t.records (take (suc i) t.ring) ≡ None
none_yet s t i p same at none cannot =
    not_found t.records t.ring i p (stays_at s t i p same at) (ap (λ (u : KernelState). first_runnable u.records (take i u.ring)) same ∙ none) (sym cannot)
