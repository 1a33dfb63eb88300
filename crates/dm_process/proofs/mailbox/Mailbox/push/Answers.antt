-- What was looked through stays so with one message more.
use Rattle.dm_process.proofs.Passed.{pushed}
use Rattle.dm_process.proofs.mailbox.Mailbox.push.Goals as goal

pub invariant_of-self : goal.invariant_of-self
invariant_of-self c =
    let b = c.self.inside in
    pushed c.push.result b.mask b.passed b.places b.messages c.push.new.self c.args.message c.push.ensures.ok c.push.ensures.err c.self.invariant
