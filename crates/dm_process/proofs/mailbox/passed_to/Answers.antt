use Rattle.dm_process.proofs.Names.{◌≤◌, length, arith}
use Rattle.dm_process.proofs.Passed.{passed_for}
use Rattle.dm_process.proofs.mailbox.passed_to.Goals as goal

pub returns-else-last-mask : goal.returns-else-last-mask
returns-else-last-mask c =
    let within : c.passed_by.result ≤ length c.args.messages.now = omega (arith, c.passed_by.ensures.within, c.len.ensures) in
    passed_for c.args.mask c.passed_by.result c.args.places.now c.args.messages.now within c.passed_by.ensures.passed c.requires.others
