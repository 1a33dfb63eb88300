use Rattle.dm_chart.proofs.Names.{◌+◌, ◌++◌, List, ℕ, ap, drop, flat_map, map, sym, ◌∙◌, attribute, seen}
use Rattle.dm_chart.proofs.Pieces.{mapped-copied}
use Rattle.dm_chart.proofs.xml.put_attributes.Goals as goal

pub loop-one-preserved : goal.loop-one-preserved
loop-one-preserved c =
    ap (λ (t : List ℕ). t ++ flat_map attribute (map seen (drop (c.loop-one.one-index + 1) c.args.all.now))) c.in_ok-put_attribute.ensures
    ∙ (sym (mapped-copied attribute seen c.loop-one.into.items c.args.all.now c.loop-one.one-index _ c.loop-one-test.true) ∙ c.loop-one.invariant)
