use Rattle.dm_chart.proofs.Names.{◌+◌, ◌++◌, List, ℕ, ap, concat, drop, map, sym, ◌∙◌, word_text}
use Rattle.dm_chart.proofs.Pieces.{concat-copied}
use Rattle.dm_chart.proofs.xml.put_words.Goals as goal

pub loop-word-preserved : goal.loop-word-preserved
loop-word-preserved c =
    ap (λ (t : List ℕ). t ++ concat (map word_text (drop (c.loop-word.word-index + 1) c.args.words.now))) c.in_ok-put_bare.ensures.ok
    ∙ (sym (concat-copied word_text c.loop-word.into.items c.args.words.now c.loop-word.word-index _ c.loop-word-test.true) ∙ c.loop-word.invariant)
