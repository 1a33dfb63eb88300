-- The lemma.
use Rattle.dm_processor.proofs.Words.{word_bytes-word_at}
use Rattle.dm_processor.proofs.laws.words_spell_their_bytes.Goals as goal

pub returns : goal.returns
returns c = word_bytes-word_at
