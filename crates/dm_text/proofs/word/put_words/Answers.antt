use Rattle.dm_text.proofs.Names.{word_text}
use Rattle.dm_text.proofs.Spacing.{spaced-more}
use Rattle.dm_text.proofs.Kept.{kept}
use Rattle.dm_text.proofs.word.put_words.Goals as goal

pub loop-word-preserved : goal.loop-word-preserved
loop-word-preserved c = spaced-more word_text _ _ _ _ _ _ c.loop-word-test.true c.loop-word.invariant c.in_ok-put_word.ensures.ok

pub returns-in_err-put_word-clause-err : goal.returns-in_err-put_word-clause-err
returns-in_err-put_word-clause-err c = kept _ _ _ _ _ c.loop-word.invariant c.in_err-put_word.ensures.err
