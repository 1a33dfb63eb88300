use Rattle.dm_text.proofs.Begun.{ended, named_first, packet_put, pair_more, word_more, words_more}
use Rattle.dm_text.proofs.text.put_packet.Goals as goal

pub returns-clause-text : goal.returns-clause-text
returns-clause-text c =
    packet_put c.args.load _ _ _ _ _
    (ended _ _ _ _ _ (words_more _ _ _ _ _ _ (word_more _ _ _ _ _ _ (pair_more _ _ _ _ _ _ _ (named_first _ _ _ c.put_bytes-at.ensures.text) c.put_spaced_pair-at.ensures.text) c.put_spaced_number-at.ensures.text) c.put_load-at.ensures.text) c.end_line.ensures.text)
