use Rattle.dm_labels.proofs.Printing.{printed_are_good}
use Rattle.dm_labels.proofs.laws.printed_are_good.Goals as goal

pub returns : goal.returns
returns c = printed_are_good
