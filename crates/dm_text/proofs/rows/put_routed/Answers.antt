use Rattle.dm_text.proofs.Begun.{ended, named_first, pair_more, word_as, word_more}
use Rattle.dm_text.proofs.rows.put_routed.Goals as goal

pub returns-clause-text : goal.returns-clause-text
returns-clause-text c = ended _ _ _ _ _ (word_more _ _ _ _ _ _ (word_as _ _ _ _ _ _ _ (word_more _ _ _ _ _ _ (pair_more _ _ _ _ _ _ _ (named_first _ _ _ c.put_bytes-at.ensures.text) c.put_spaced_pair-at.ensures.text) c.put_spaced_id-at.ensures.text) c.put_spaced_word-at.ensures.text c.word.ensures) c.put_spaced_pid-at.ensures.text) c.end_line.ensures.text
