use Rattle.dm_law_runs.proofs.Choices.Answering.{answers_are_sound}
use Rattle.dm_law_runs.proofs.explore.answers_are_sound.Goals as goal

pub returns : goal.returns
returns c = answers_are_sound
