use Rattle.dm_explain.proofs.Names.{◌≡◌, false, rules, sym, ◌∙◌, place_in, source_words}
use Rattle.dm_explain.proofs.BadWords.{bad-word-here}
use Rattle.dm_explain.proofs.source.bad_word.Goals as goal

pub returns-then-not-is_fine : goal.returns-then-not-is_fine
returns-then-not-is_fine c =
    let fails : c.is_fine.result ≡ false = search rules in
    sym (bad-word-here (place_in c.args.labels.now) c.args.takes c.loop-word.place (source_words c.loop-word.rest.now) c.in-Some.word.now (source_words c.in-Some.others.now) c.in-Some.ensures.some (sym c.is_fine.ensures ∙ fails))
    ∙ c.loop-word.invariant.same
