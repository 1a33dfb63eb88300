use Rattle.dm_shape.proofs.Imports.{◌≡◌, drop, option_map, behind, fit}
use Rattle.dm_shape.proofs.shape.fit.Given as goal

abbrev pub invariant-loop-sort : goal.invariant-loop-sort
invariant-loop-sort l = fit (drop l.sort-index l.sorts) l.lists (behind 32 (option_map (λ t. t.now) l.rest)) ≡ fit l.sorts l.lists (behind 32 (option_map (λ t. t.now) l.initial.rest))
