use Rattle.dm_text.proofs.Names.{id_word}
use Rattle.dm_text.proofs.Spacing.{spaced-more}
use Rattle.dm_text.proofs.Kept.{kept}
use Rattle.dm_text.proofs.word.put_ids.Goals as goal

pub loop-id-preserved : goal.loop-id-preserved
loop-id-preserved c = spaced-more id_word _ _ _ _ _ _ c.loop-id-test.true c.loop-id.invariant c.in_ok-put_word.ensures.ok

pub returns-in_err-put_word-clause-err : goal.returns-in_err-put_word-clause-err
returns-in_err-put_word-clause-err c = kept _ _ _ _ _ c.loop-id.invariant c.in_err-put_word.ensures.err
