use Rattle.dm_procman.proofs.Hearing.{heard}
use Rattle.dm_procman.proofs.Lawful.{manager_after, message_after}
use Rattle.dm_procman.proofs.Plain.{plain_after}
use Rattle.dm_procman.proofs.ProcMan.take.Goals as goal

pub returns-clause-plain : goal.returns-clause-plain
returns-clause-plain c =
    plain_after c.args.here c.take_what.result c.args.self.now c.take_what.new.self c.args.message.now (heard c.args.self.now c.args.message.now.id.n c.args.message.now.what c.requires.row) c.take_what.ensures.exact

pub returns-clause-lawful : goal.returns-clause-lawful
returns-clause-lawful c l k =
    manager_after c.args.here c.requires.here c.take_what.result c.args.self.now c.take_what.new.self c.args.message.now
    (heard c.args.self.now c.args.message.now.id.n c.args.message.now.what c.requires.row) c.take_what.ensures.exact c.take_what.ensures.err l k

pub returns-clause-lawful_message : goal.returns-clause-lawful_message
returns-clause-lawful_message c l k =
    message_after c.args.here c.requires.here c.take_what.result c.args.self.now c.take_what.new.self c.args.message.now
    (heard c.args.self.now c.args.message.now.id.n c.args.message.now.what c.requires.row) c.take_what.ensures.exact l k
