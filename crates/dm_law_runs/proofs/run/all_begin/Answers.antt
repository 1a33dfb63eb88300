use Rattle.dm_law_runs.proofs.Through.{all_begin}
use Rattle.dm_law_runs.proofs.run.all_begin.Goals as goal

pub returns : goal.returns
returns c = all_begin
