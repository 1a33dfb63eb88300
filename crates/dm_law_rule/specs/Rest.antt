-- When nothing can go on: all is at rest.
use Rattle.std.specs.Prelude.{◌≡◌, ℕ, ◌<◌, Bool, is_some}
use Rattle.std.specs.declared.option.Option.TheVariants.{None}
use Rattle.dm_law_rule.specs.Point.{Point}
use Rattle.dm_law_rule.specs.Quiet.{IsQuiet}
use Rattle.dm_law_rule.specs.Rule.{first_runnable}

-- whether a machine has a process that can be served: one that is here, isn't stopped, and is ready or waits for a message that is
-- in its queue
abbrev pub serves_some : Point → ℕ → Bool
serves_some pt m = is_some (first_runnable pt.kernel (pt.view.queue m) (pt.view.ring m))

-- nothing is on its way between the first n machines, and none of them has a process that can be served
pub record IsAtRest (n : ℕ) (pt : Point) : Type 0 where
  pub quiet : IsQuiet n pt.view
  pub served : (m : ℕ) → m < n → first_runnable pt.kernel (pt.view.queue m) (pt.view.ring m) ≡ None
