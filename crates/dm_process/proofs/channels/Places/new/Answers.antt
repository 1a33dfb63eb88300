-- Each number is 0.
use Rattle.dm_process.proofs.Passed.{zero_at}
use Rattle.dm_process.proofs.channels.Places.new.Goals as goal

pub invariant_of-result : goal.invariant_of-result
invariant_of-result c = λ _ k _. zero_at 32 k
