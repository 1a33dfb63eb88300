use Rattle.dm_chart.proofs.Names.{Bor, ◌+◌, ◌++◌, List, ℕ, ap, concat, drop, map, sym, ◌∙◌}
use Rattle.dm_chart.proofs.Pieces.{concat-copied}
use Rattle.dm_chart.proofs.key.put_texts.Goals as goal

pub loop-text-preserved : goal.loop-text-preserved
loop-text-preserved c =
    ap (λ (t : List ℕ). t ++ concat (map (λ (x : Bor (List ℕ)). x.now) (drop (c.loop-text.text-index + 1) c.args.texts.now))) c.in_ok-put_text.ensures
    ∙ (sym (concat-copied (λ (x : Bor (List ℕ)). x.now) c.loop-text.into.items c.args.texts.now c.loop-text.text-index _ c.loop-text-test.true) ∙ c.loop-text.invariant)
