-- What follows from the exact answer.
use Rattle.dm_datamove.proofs.Names.{◌∙◌, ap, answer}
use Rattle.dm_datamove.proofs.Services.{gone_lawfully, gone_plainly}
use Rattle.dm_datamove.proofs.serving.gone.Goals as goal

pub returns-clause-plain : goal.returns-clause-plain
returns-clause-plain c =
    gone_plainly c.args.here c.args.message.now c.answer.result c.requires.request (c.answer.ensures ∙ ap (answer c.args.here c.args.message.now.to.moves c.args.message.now) c.gone_what.ensures)

pub returns-clause-lawful : goal.returns-clause-lawful
returns-clause-lawful c =
    gone_lawfully c.args.here c.args.message.now c.answer.result c.requires.here c.requires.request c.requires.lawful
    (c.answer.ensures ∙ ap (answer c.args.here c.args.message.now.to.moves c.args.message.now) c.gone_what.ensures)
