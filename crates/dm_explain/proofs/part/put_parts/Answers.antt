use Rattle.dm_explain.proofs.Names.{◌+◌, ◌++◌, List, ℕ, ap, concat, drop, map, sym, ◌∙◌, part_text}
use Rattle.dm_explain.proofs.Pieces.{concat-copied, concat-end}
use Rattle.dm_explain.proofs.part.put_parts.Goals as goal

pub loop-part-preserved : goal.loop-part-preserved
loop-part-preserved c =
    ap (λ (t : List ℕ). t ++ concat (map part_text (drop (c.loop-part.part-index + 1) c.args.parts.now))) c.in_ok-put_part.ensures
    ∙ (sym (concat-copied part_text c.loop-part.into.items c.args.parts.now c.loop-part.part-index _ c.loop-part-test.true) ∙ c.loop-part.invariant)

pub returns : goal.returns
returns c = sym (concat-end part_text c.loop-part.into.items c.args.parts.now c.loop-part.part-index c.loop-part-test.false) ∙ c.loop-part.invariant
