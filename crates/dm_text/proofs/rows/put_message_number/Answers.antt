use Rattle.dm_text.proofs.Begun.{ended, named_first, number_more, word_more}
use Rattle.dm_text.proofs.rows.put_message_number.Goals as goal

pub returns-clause-text : goal.returns-clause-text
returns-clause-text g c = ended _ _ _ _ _ (number_more _ _ _ _ _ _ _ (word_more _ _ _ _ _ _ (named_first _ _ _ c.put_bytes-at.ensures.text) c.put_spaced_id-at.ensures.text) c.put_spaced_number-at.ensures.text c.from.ensures) c.end_line.ensures.text
