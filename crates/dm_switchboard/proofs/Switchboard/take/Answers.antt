use Rattle.dm_switchboard.proofs.Lawful.{answer_after, board_after}
use Rattle.dm_switchboard.proofs.Plain.{plain_after}
use Rattle.dm_switchboard.proofs.Switchboard.take.Goals as goal

pub returns-clause-plain : goal.returns-clause-plain
returns-clause-plain c =
    plain_after c.args.here c.take_request.result c.args.self.now c.take_request.new.self c.args.message.now c.in-User.code c.in-User.channel c.in-User.body c.in-User.links c.as_slice.result.now c.as_slice-in-User.result.now
    c.in-User.is c.as_slice.ensures.value c.as_slice-in-User.ensures.value c.take_request.ensures.exact

pub returns-clause-lawful : goal.returns-clause-lawful
returns-clause-lawful c l k =
    board_after c.args.here c.take_request.result c.args.self.now c.take_request.new.self c.args.message.now c.in-User.code c.in-User.channel c.in-User.body c.in-User.links c.as_slice.result.now c.as_slice-in-User.result.now
    c.requires.here c.in-User.is c.as_slice-in-User.ensures.value c.take_request.ensures.exact c.take_request.ensures.err l k

pub returns-clause-lawful_answer : goal.returns-clause-lawful_answer
returns-clause-lawful_answer c l k =
    answer_after c.args.here c.take_request.result c.args.self.now c.take_request.new.self c.args.message.now c.in-User.code c.in-User.channel c.in-User.body c.in-User.links c.as_slice.result.now c.as_slice-in-User.result.now
    c.requires.here c.in-User.is c.as_slice-in-User.ensures.value c.take_request.ensures.exact l k
