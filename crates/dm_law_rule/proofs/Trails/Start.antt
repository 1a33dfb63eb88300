-- Before the first line each process's trail is its home, and each address names it.
use Rattle.dm_law_rule.proofs.Names.{◌≡◌, ◌≢◌, ℕ, ◌==◌, ◌&&◌, Bool, true, false, refl, ◌∙◌, sym, arith, if◌then◌else◌, nat_tests, Pid, Boot, Unknown, Here, Forward, first_view, Trail, first_trails, both_true}
use Rattle.dm_law_rule.proofs.Phases.Start.{starts, start_known}

start_no_forward : (b : Bool) (k j : ℕ) → (if b then Here else Unknown) ≢ Forward k j
start_no_forward true k j = λ e. cc
start_no_forward false k j = λ e. cc

here_not : (b : Bool) → b ≡ true → (if b then Here else Unknown) ≢ Unknown
here_not b h1 = grind (arith, nat_tests)

pub trail_start : (lives : Bool) (b : Boot) (p : Pid) → Trail lives (first_view b) first_trails p
trail_start lives b p = record {
  begins = refl;
  named = λ m k j e. absurd (start_no_forward (starts b.processes p && (p.home == m)) k j (sym (start_known b.processes m p) ∙ e));
  behind = λ m k j c e f. absurd (start_no_forward (starts b.processes p && (p.home == m)) k j (sym (start_known b.processes m p) ∙ e));
  kept = λ on m n c e f g.
      let some : starts b.processes p ≡ true = (elim (starts b.processes p) as (λ b_. (if b_ && (p.home == n) then Here else Unknown) ≢ Unknown → b_ ≡ true)
      [ true ↦ λ e_. refl | false ↦ λ e_. absurd (e_ refl) ]) (λ x. e (start_known b.processes n p ∙ x)) in
      here_not (starts b.processes p && (p.home == m)) (both_true (starts b.processes p) (p.home == m) some (let e_ : (p.home == m) ≡ true = search arith in e_)) (sym (start_known b.processes m p) ∙ g);
}
