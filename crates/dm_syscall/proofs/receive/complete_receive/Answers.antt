-- What follows from the exact end of the receive.
use Rattle.dm_syscall.proofs.Completes.{completes_lawfully, completes_plainly}
use Rattle.dm_syscall.proofs.receive.complete_receive.Goals as goal

pub returns-clause-plain : goal.returns-clause-plain
returns-clause-plain c =
    λ m same here goes.
    completes_plainly c.args.process.now c.complete_waiting.new.process c.args.place c.complete_waiting.result m c.requires.awaited c.complete_waiting.ensures same here goes

pub returns-clause-lawful : goal.returns-clause-lawful
returns-clause-lawful c =
    completes_lawfully c.args.process.now c.complete_waiting.new.process c.args.place c.complete_waiting.result c.requires.lawful c.requires.awaited c.complete_waiting.ensures
