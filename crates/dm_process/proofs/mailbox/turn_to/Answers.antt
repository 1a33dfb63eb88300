use Rattle.dm_process.proofs.Names.{◌≤◌, length, arith}
use Rattle.dm_process.proofs.Passed.{kept_passed, passed_for}
use Rattle.dm_process.specs.Passed.{ArePassed}
use Rattle.dm_process.proofs.mailbox.turn_to.Goals as goal

pub returns : goal.returns
returns c =
    let within : c.passed_by.result ≤ length c.args.messages.now = omega (arith, c.passed_by.ensures.within, c.len.ensures) in
    let others : ArePassed c.keep.new.self c.args.messages.now = kept_passed c.args.last.0 c.args.last.1 c.args.places.now c.keep.new.self c.args.messages.now c.requires.last c.requires.others c.keep.ensures in
    record { last = passed_for c.args.mask c.passed_by.result c.keep.new.self c.args.messages.now within c.passed_by.ensures.passed others; others = others }
