-- What is for these machines is so by the rule.
use Rattle.dm_program.proofs.Runs.Names.{ℕ, List, [], ◌∷◌, All, All-cons, All-head, All-nil, All-tail, Step, Directive, IsFor, IsDirective}
use Rattle.dm_schedule.specs.declared.Step.TheVariants as step
use Rattle.dm_schedule.specs.declared.Directive.TheVariants as directive
use Rattle.dm_law_rule.specs.Laws as rule
use Rattle.dm_run.specs.Runs as run
pub use Rattle.dm_law_runs.proofs.Traces.Printed.{step_same as step_fits}

pub step_is : (n : ℕ) (e : Step) → rule.IsStep n e → run.IsStep n e
step_is n (step.Turn m) h = h
step_is n (step.Tick m) h = h
step_is n (step.Deliver a b k) h = h
step_is n (step.Migrate p m) h = h
step_is n (step.CallOff p m) h = h

directive_fits : (n : ℕ) (d : Directive) → IsFor n d → IsDirective n d
directive_fits n (directive.One e) h = step_fits n e h
directive_fits n directive.Round h = tt
directive_fits n (directive.Spin k) h = tt
directive_fits n directive.Settle h = tt
directive_fits n (directive.Rest k) h = tt

pub directives_fit : (n : ℕ) (ds : List Directive) → All (IsFor n) ds → All (IsDirective n) ds
directives_fit n [] h = All-nil (IsDirective n)
directives_fit n (d ∷ ds) h = All-cons (IsDirective n) d ds (directive_fits n d (All-head (IsFor n) d ds h)) (directives_fit n ds (All-tail (IsFor n) d ds h))
