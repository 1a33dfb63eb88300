use Rattle.dm_explain.proofs.Names.{◌≡◌, ◌++◌, drop, map, concat, part_text}
use Rattle.dm_explain.proofs.part.put_parts.Given as goal

abbrev pub invariant-loop-part : goal.invariant-loop-part
invariant-loop-part l = l.into.items ++ concat (map part_text (drop l.part-index l.parts)) ≡ l.initial.into.items ++ concat (map part_text l.parts)
