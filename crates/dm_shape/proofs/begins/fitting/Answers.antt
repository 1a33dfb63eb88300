use Rattle.std.specs.Prelude.{◌≡◌, drop, option_map}
use Rattle.std.proofs.Common.{ap, ◌∙◌, arith}
use Rattle.dm_reading.specs.Cuts.{behind}
use Rattle.dm_shape.specs.Begins.{fitting}
use Rattle.dm_shape.proofs.Beginning.{none_fit}
use Rattle.dm_shape.proofs.Fitting.{behind_none}
use Rattle.dm_shape.proofs.begins.fitting.Goals as goal

pub returns-in_default-clause-is : goal.returns-in_default-clause-is
returns-in_default-clause-is c =
    let left = drop c.loop-sort.sort-index c.args.sorts.now in
    let none : fitting left (behind 32 (option_map (λ t. t.now) c.loop-sort.rest)) ≡ 0 = ap (fitting left) (behind_none 32 c.loop-sort.rest c.in_default.is) ∙ none_fit left in
    let all = c.loop-sort.invariant.1 in
    omega arith
