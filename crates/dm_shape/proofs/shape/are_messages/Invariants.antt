use Rattle.dm_shape.proofs.Imports.{◌≡◌, length, option_map, list_all, behind, is_of}
use Rattle.dm_shape.specs.declared.sort.Sort.TheVariants as sort
use Rattle.dm_shape.proofs.shape.are_messages.Given as goal

abbrev pub invariant-words : goal.invariant-words
invariant-words l = list_all (is_of sort.Message) (behind 32 (option_map (λ t. t.now) l.rest)) ≡ list_all (is_of sort.Message) (behind 32 (option_map (λ t. t.now) l.initial.rest))

abbrev pub decreases-words : goal.decreases-words
decreases-words l = length (behind 32 (option_map (λ t. t.now) l.rest))
