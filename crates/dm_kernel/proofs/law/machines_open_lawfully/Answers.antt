-- The lemmas.
use Rattle.dm_kernel.proofs.LawfulStart.{opened_lawful, opened_may}
use Rattle.dm_kernel.proofs.law.machines_open_lawfully.Goals as goal

pub returns : goal.returns
returns c = record { may = opened_may; lawful = opened_lawful }
