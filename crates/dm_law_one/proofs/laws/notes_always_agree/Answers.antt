use Rattle.dm_law_one.proofs.Runs.{notes_always_agree}
use Rattle.dm_law_one.proofs.laws.notes_always_agree.Goals as goal

pub returns : goal.returns
returns c = notes_always_agree
