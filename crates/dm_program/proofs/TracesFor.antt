-- The heads of a good trace are directives for the machines of its boot file.
use Rattle.dm_program.proofs.Names.{◌≡◌, ◌≢◌, ◌<◌, ℕ, Bool, true, false, List, [], ◌∷◌, length, refl, arith, ◌==◌, ◌&&◌, nat_lt, not, nat_tests, All, All-cons, All-nil, All-head, All-tail, IsStep, ones, IsDirective, can_hold, TracesAreFor}
use Rattle.dm_program.proofs.Names.{both_first, both_second, is_below, differ, held_fits}
use Rattle.dm_program.proofs.Runs.Names.{Step}
use Rattle.dm_schedule.specs.declared.Step.TheVariants as step
use Rattle.dm_schedule.specs.declared.Directive.TheVariants as directive

all_fit : (n : ℕ) (es : List Step) → All (λ e. can_hold n e ≡ true) es → All (IsDirective n) (ones es)
all_fit n [] h = All-nil (IsDirective n)
all_fit n (e ∷ es) h =
    All-cons (IsDirective n) (directive.One e) (ones es) (held_fits n e (All-head (λ s. can_hold n s ≡ true) e es h)) (all_fit n es (All-tail (λ s. can_hold n s ≡ true) e es h))

pub traces_are_for : TracesAreFor
traces_are_for b bytes n ended t = all_fit (length b.machines) t.steps t.held
