use Rattle.dm_program.proofs.Sound.{runs_are_sound}
use Rattle.dm_program.proofs.laws.runs_are_sound.Goals as goal

pub returns : goal.returns
returns c = runs_are_sound
