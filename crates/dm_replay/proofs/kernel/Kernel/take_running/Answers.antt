use Rattle.std.proofs.Common.{ap, sym, ◌∙◌}
use Rattle.dm_onekernel.specs.Options.{bind}
use Rattle.dm_onekernel.specs.Plain.{plain_process, plain_status}
use Rattle.dm_onekernel.specs.Step.{at_hand, if_ready, running}
use Rattle.dm_replay.specs.State.{one_kernel}
use Rattle.dm_replay.proofs.Rows.{passes, refused}
use Rattle.dm_replay.proofs.Taken.{is_executing, none_if}
use Rattle.dm_replay.proofs.kernel.Kernel.take_running.Goals as goal

pub returns-in_err-process-clause-gives : goal.returns-in_err-process-clause-gives
returns-in_err-process-clause-gives c = λ b.
    passes c.from_residual.result c.in_err-process.field-0.0 _ (running (one_kernel b c.args.self.now) c.args.pid) c.from_residual.ensures
    (refused c.in_err-process.field-0.0 (at_hand (one_kernel b c.args.self.now) c.args.pid) (λ x. if_ready x x.status) (c.in_err-process.ensures.gives b))

pub returns-then-executes-clause-gives : goal.returns-then-executes-clause-gives
returns-then-executes-clause-gives c = λ b.
    ap (λ o. bind o (λ x. if_ready x x.status)) (c.in_ok-process.ensures.gives b) ∙ (is_executing c.in_ok-process.process (sym c.executes.ensures ∙ c.if-executes.true)).1

pub returns-then-executes-clause-ready : goal.returns-then-executes-clause-ready
returns-then-executes-clause-ready c = (is_executing c.in_ok-process.process (sym c.executes.ensures ∙ c.if-executes.true)).0

pub returns-else-executes-clause-gives : goal.returns-else-executes-clause-gives
returns-else-executes-clause-gives c = λ b.
    ap (λ o. bind o (λ x. if_ready x x.status)) (c.in_ok-process.ensures.gives b)
    ∙ none_if (if_ready (plain_process c.in_ok-process.process) (plain_status c.in_ok-process.process.status)) (sym c.executes.ensures ∙ c.if-executes.false)
