-- Before the first line each process of the boot file, and each server, rests where it starts.
use Rattle.dm_law_rule.proofs.Names.{◌≡◌, ℕ, ◌==◌, ◌&&◌, ◌||◌, Bool, true, false, List, [], ◌∷◌, refl, ap, ◌∙◌, arith, if◌then◌else◌, None, Some, false≢true, nat_tests, Pid, pid_eq, BootProcess, Boot, switchboard, manager, Known, Unknown, Here}
use Rattle.dm_law_rule.proofs.Names.{known_at, first_view, Phase, Nowhere, Rests, knows, is_due, pid_eq-is}
use Rattle.dm_law_rule.proofs.Phases.Stand.{InPhases}

abbrev pub starts : List BootProcess → Pid → Bool
starts [] q = pid_eq q switchboard || pid_eq q manager
starts (p ∷ ps) q = pid_eq p.pid q || starts ps q

abbrev at_home : Bool → Pid → ℕ → Known
at_home b q m = if b && (q.home == m) then Here else Unknown

start_if : (p q : Pid) (m : ℕ) (b : Bool) (s : Bool) → pid_eq p q ≡ b → (if b && (p.home == m) then Here else at_home s q m) ≡ at_home (b || s) q m
start_if p q m true s e =
    let again_if : (if (q.home == m) then Here else (if s && (q.home == m) then Here else Unknown)) ≡ (if (q.home == m) then Here else Unknown) = search arith in
    let is : p ≡ q = pid_eq-is p q e in ap (λ (r : Pid). if r.home == m then Here else at_home s q m) is ∙ again_if
start_if p q m false s e = refl

pub start_known : (ps : List BootProcess) (m : ℕ) (q : Pid) → known_at ps m q ≡ at_home (starts ps q) q m
start_known [] m q = ap (λ (b : Bool). if b then Here else Unknown) (let e : ((m == 0) && (pid_eq q switchboard || pid_eq q manager)) ≡ ((pid_eq q switchboard || pid_eq q manager) && (q.home == m)) = grind (arith, nat_tests) in e)
start_known (p ∷ ps) m q = ap (λ (k : Known). if pid_eq p.pid q && (p.pid.home == m) then Here else k) (start_known ps m q) ∙ start_if p.pid q m (pid_eq p.pid q) (starts ps q) refl

abbrev pub start_phase : Bool → Pid → Phase
start_phase true q = Rests q.home
start_phase false q = Nowhere

start_knows : (b : Bool) (q : Pid) (m : ℕ) → knows (start_phase b q) m (at_home b q m) ≡ true
start_knows b q m = search arith

pub phases_start : (b : Boot) → InPhases (first_view b)
phases_start b = record {
  of = λ q. start_phase (starts b.processes q) q;
  each = λ q. (search (arith, start_known, start_knows));
  put = λ q e. absurd ((elim (starts b.processes q) as (λ b_. is_due (start_phase b_ q) ≡ true → ⊥)
      [ true ↦ λ e_. false≢true e_ | false ↦ λ e_. false≢true e_ ]) e);
  about = λ i t told bt. absurd (let f : None ≡ Some t = told in cc);
}
