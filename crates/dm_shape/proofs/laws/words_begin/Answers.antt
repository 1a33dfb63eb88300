use Rattle.dm_shape.proofs.Beginning.{words_begin}
use Rattle.dm_shape.proofs.laws.words_begin.Goals as goal

pub returns : goal.returns
returns c = words_begin
