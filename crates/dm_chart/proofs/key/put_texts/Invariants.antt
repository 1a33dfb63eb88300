use Rattle.dm_chart.proofs.Names.{◌≡◌, ◌++◌, drop, map, concat}
use Rattle.dm_chart.proofs.key.put_texts.Given as goal

abbrev pub invariant-loop-text : goal.invariant-loop-text
invariant-loop-text l = l.into.items ++ concat (map (λ t. t.now) (drop l.text-index l.texts)) ≡ l.initial.into.items ++ concat (map (λ t. t.now) l.texts)
