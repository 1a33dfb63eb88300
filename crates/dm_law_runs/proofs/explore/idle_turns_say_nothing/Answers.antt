use Rattle.dm_law_runs.proofs.Choices.Idle.{idle_turns_say_nothing}
use Rattle.dm_law_runs.proofs.explore.idle_turns_say_nothing.Goals as goal

pub returns : goal.returns
returns c = idle_turns_say_nothing
