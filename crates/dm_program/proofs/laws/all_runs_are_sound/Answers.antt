use Rattle.dm_program.proofs.SoFar.{all_runs_are_sound}
use Rattle.dm_program.proofs.laws.all_runs_are_sound.Goals as goal

pub returns : goal.returns
returns c = all_runs_are_sound
