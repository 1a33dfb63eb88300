-- What follows from the exact call.
use Rattle.dm_syscall.proofs.Names.{calls}
use Rattle.dm_syscall.proofs.PlainCalls.{call_plainly}
use Rattle.dm_syscall.proofs.LawfulCalls.{IsLawfulDone, call_counts, call_lawfully}
use Rattle.dm_syscall.proofs.calls.call.Goals as goal

pub returns-clause-plain : goal.returns-clause-plain
returns-clause-plain c = call_plainly c.args.here c.args.process.now c.dispatch.new.process c.args.number c.in_ok-called.called c.in_ok-called.ensures.called c.in_ok-called.ensures.process

pub returns-clause-lawful : goal.returns-clause-lawful
returns-clause-lawful c =
    let d : IsLawfulDone (calls c.args.here c.args.process.now c.args.number) = call_lawfully c.args.here c.args.process.now c.args.number c.requires.here c.requires.lawful in
    rw c.in_ok-called.ensures.process d.process

pub returns-clause-lawful_message : goal.returns-clause-lawful_message
returns-clause-lawful_message c =
    let d : IsLawfulDone (calls c.args.here c.args.process.now c.args.number) = call_lawfully c.args.here c.args.process.now c.args.number c.requires.here c.requires.lawful in
    rw c.in_ok-called.ensures.called d.called

pub returns-clause-counted : goal.returns-clause-counted
returns-clause-counted c = rw c.in_ok-called.ensures.process (call_counts c.args.here c.args.process.now c.args.number)
