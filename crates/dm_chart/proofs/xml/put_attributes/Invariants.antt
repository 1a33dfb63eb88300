use Rattle.dm_chart.proofs.Names.{◌≡◌, ◌++◌, drop, map, flat_map, seen, attribute}
use Rattle.dm_chart.proofs.xml.put_attributes.Given as goal

abbrev pub invariant-loop-one : goal.invariant-loop-one
invariant-loop-one l = l.into.items ++ flat_map attribute (map seen (drop l.one-index l.all)) ≡ l.initial.into.items ++ flat_map attribute (map seen l.all)
