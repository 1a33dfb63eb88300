use Rattle.std.specs.Prelude.{◌≡◌, ◌+◌, drop, option_map}
use Rattle.dm_reading.specs.Cuts.{behind}
use Rattle.dm_shape.specs.Begins.{fitting}
use Rattle.dm_shape.proofs.begins.fitting.Given as goal

-- so many words fit already, and then those that fit the sorts that are left
abbrev pub invariant-loop-sort : goal.invariant-loop-sort
invariant-loop-sort l = (l.count ≡ l.sort-index) × (l.count + fitting (drop l.sort-index l.sorts) (behind 32 (option_map (λ t. t.now) l.rest)) ≡ fitting l.sorts (behind 32 (option_map (λ t. t.now) l.initial.rest)))
