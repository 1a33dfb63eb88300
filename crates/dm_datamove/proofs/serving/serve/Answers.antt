-- What follows from the exact answer and the owner after it.
use Rattle.dm_datamove.proofs.Services.{serves_plainly, serves_lawfully, answers_lawfully}
use Rattle.dm_datamove.proofs.serving.serve.Goals as goal

pub returns-clause-plain : goal.returns-clause-plain
returns-clause-plain c =
    serves_plainly c.args.here c.args.process.now c.serve_request.new.process c.args.message.now c.in_ok-answer.answer c.requires.within c.in_ok-answer.ensures.answer c.in_ok-answer.ensures.process

pub returns-clause-lawful : goal.returns-clause-lawful
returns-clause-lawful c =
    serves_lawfully c.args.process.now c.serve_request.new.process c.args.message.now.what c.requires.within c.requires.lawful c.in_ok-answer.ensures.process

pub returns-clause-lawful_answer : goal.returns-clause-lawful_answer
returns-clause-lawful_answer c =
    answers_lawfully c.args.here c.args.process.now c.args.message.now c.in_ok-answer.answer c.requires.here c.requires.within c.requires.lawful_request c.in_ok-answer.ensures.answer
