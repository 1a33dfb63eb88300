use Rattle.std.proofs.Common.{ap, sym, ◌∙◌}
use Rattle.std.specs.declared.option.Option.TheVariants.{Some}
use Rattle.dm_onekernel.specs.Options.{when}
use Rattle.dm_onekernel.specs.Plain.{plain_process}
use Rattle.dm_onekernel.specs.Step.{goes_on}
use Rattle.dm_replay.specs.State.{one_kernel}
use Rattle.dm_replay.proofs.kernel.Kernel.put_back_if.Goals as goal

pub returns-then-not-holds-clause-steps : goal.returns-then-not-holds-clause-steps
returns-then-not-holds-clause-steps c = λ b. ap (λ h. when h (goes_on (one_kernel b c.args.self.now) c.args.pid (plain_process c.args.process))) c.if-not-holds.true

pub returns-clause-steps : goal.returns-clause-steps
returns-clause-steps c = λ b.
    ap (λ h. when h (goes_on (one_kernel b c.args.self.now) c.args.pid (plain_process c.args.process))) c.if-not-holds.false ∙ ap Some (sym (c.put_back.ensures.state b))
