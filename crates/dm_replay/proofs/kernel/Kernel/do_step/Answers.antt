use Rattle.std.proofs.Common.{ap, sym}
use Rattle.std.specs.declared.option.Option.TheVariants.{Some}
use Rattle.dm_onekernel.specs.Step.{step}
use Rattle.dm_replay.specs.State.{one_kernel}
use Rattle.dm_replay.proofs.Rows.{given_as}
use Rattle.dm_replay.proofs.kernel.Kernel.do_step.Goals as goal

pub returns-in-Call-clause-gives : goal.returns-in-Call-clause-gives
returns-in-Call-clause-gives c =
    let b = c.args.boot.now in
    given_as c.reply.result (λ x. Some (one_kernel b c.reply.new.self)) _ _ (ap (step (one_kernel b c.args.self.now)) (sym c.in-Call.is)) (c.reply.ensures.steps b)

pub returns-in-Send-clause-gives : goal.returns-in-Send-clause-gives
returns-in-Send-clause-gives c =
    let b = c.args.boot.now in
    given_as c.send.result (λ x. Some (one_kernel b c.send.new.self)) _ _ (ap (step (one_kernel b c.args.self.now)) (sym c.in-Send.is)) (c.send.ensures.steps b)

pub returns-in-Wait-clause-gives : goal.returns-in-Wait-clause-gives
returns-in-Wait-clause-gives c =
    let b = c.args.boot.now in
    given_as c.wait.result (λ x. Some (one_kernel b c.wait.new.self)) _ _ (ap (step (one_kernel b c.args.self.now)) (sym c.in-Wait.is)) (c.wait.ensures.steps b)

pub returns-in-Out-clause-gives : goal.returns-in-Out-clause-gives
returns-in-Out-clause-gives c =
    let b = c.args.boot.now in
    given_as c.put_out.result (λ x. Some (one_kernel b c.put_out.new.self)) _ _ (ap (step (one_kernel b c.args.self.now)) (sym c.in-Out.is)) (c.put_out.ensures.steps b)

pub returns-in-End-clause-gives : goal.returns-in-End-clause-gives
returns-in-End-clause-gives c =
    let b = c.args.boot.now in
    given_as c.end.result (λ x. Some (one_kernel b c.end.new.self)) _ _ (ap (step (one_kernel b c.args.self.now)) (sym c.in-End.is)) (c.end.ensures.steps b)
