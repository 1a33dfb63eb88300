use Rattle.dm_chart.proofs.LeftOut.{puts_arrows}
use Rattle.dm_chart.proofs.laws.puts_have_arrows.Goals as goal

pub returns : goal.returns
returns c = puts_arrows
