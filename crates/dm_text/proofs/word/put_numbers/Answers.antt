use Rattle.dm_text.proofs.Names.{decimal}
use Rattle.dm_text.proofs.Spacing.{spaced-more}
use Rattle.dm_text.proofs.Kept.{kept}
use Rattle.dm_text.proofs.word.put_numbers.Goals as goal

pub loop-n-preserved : goal.loop-n-preserved
loop-n-preserved c = spaced-more decimal _ _ _ _ _ _ c.loop-n-test.true c.loop-n.invariant c.in_ok-put_word.ensures.ok

pub returns-in_err-put_word-clause-err : goal.returns-in_err-put_word-clause-err
returns-in_err-put_word-clause-err c = kept _ _ _ _ _ c.loop-n.invariant c.in_err-put_word.ensures.err
