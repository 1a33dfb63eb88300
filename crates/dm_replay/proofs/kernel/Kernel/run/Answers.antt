use Rattle.std.specs.Prelude.{◌+◌}
use Rattle.std.proofs.Common.{arith, ap, sym, ◌∙◌}
use Rattle.std.specs.declared.option.Option.TheVariants.{Some}
use Rattle.dm_onekernel.specs.Kernel.{Alive}
use Rattle.dm_onekernel.specs.Options.{bind}
use Rattle.dm_onekernel.specs.Plain.{plain_process}
use Rattle.dm_onekernel.specs.Step.{Machine, goes_on, machine_of, plain_steps, running, with_machine}
use Rattle.dm_replay.specs.State.{one_kernel}
use Rattle.dm_replay.proofs.Executing.{all_done, runs_lawfully, steps_last, stopped_at}
use Rattle.dm_replay.proofs.Rows.{has_run, passes, refused, returned, runs_short, weaker}
use Rattle.dm_replay.proofs.kernel.Kernel.run.Goals as goal

pub returns-in_err-process-clause-steps : goal.returns-in_err-process-clause-steps
returns-in_err-process-clause-steps c = λ b.
    let s = one_kernel b c.args.self.now in
    passes c.from_residual.result c.in_err-process.field-0.0 _ _ c.from_residual.ensures
    (refused c.in_err-process.field-0.0 (running s c.args.pid) (λ x. bind (plain_steps c.args.count (machine_of x)) (λ m. Some (goes_on s c.args.pid (with_machine x m)))) (c.in_err-process.ensures.gives b))

pub returns-then-not-execute-clause-steps : goal.returns-then-not-execute-clause-steps
returns-then-not-execute-clause-steps c = λ b.
    runs_short (one_kernel b c.args.self.now) c.args.pid c.args.count (plain_process c.in_ok-process.process) (c.in_ok-process.ensures.gives b) (stopped_at c.execute.result _ _ c.execute.ensures c.if-not-execute.true)

pub returns-clause-steps : goal.returns-clause-steps
returns-clause-steps c = λ b.
    let s = one_kernel b c.args.self.now in
    let x = c.in_ok-process.process in
    let m : Machine = record { regs = c.execute.new.regs; bytes = c.execute.new.memory } in
    has_run s c.args.pid c.args.count (plain_process x) m (c.in_ok-process.ensures.gives b) (all_done c.execute.result _ m c.execute.ensures c.if-not-execute.false)
    ∙ ap Some (sym (returned s (one_kernel b c.take_running.new.self) (one_kernel b c.put_back.new.self) c.args.pid (Alive (plain_process (record x { regs = m.regs; memory = m.bytes }))) (c.in_ok-process.ensures.out b) (c.put_back.ensures.state b)))

pub returns-clause-sound : goal.returns-clause-sound
returns-clause-sound c =
    let x = c.in_ok-process.process in
    let m : Machine = record { regs = c.execute.new.regs; bytes = c.execute.new.memory } in
    let f = c.in_ok-process.ensures.fit c.args.self.now.labels c.requires.sound in
    c.put_back.ensures.sound (c.args.self.now.labels + 1)
    (weaker c.args.self.now.labels (c.args.self.now.labels + 1) c.take_running.new.self (omega arith) (c.in_ok-process.ensures.sound c.args.self.now.labels c.requires.sound))
    (record { pid = f.pid; lawful = runs_lawfully x m (steps_last c.args.count (record { regs = x.regs; bytes = x.memory }) m (all_done c.execute.result _ m c.execute.ensures c.if-not-execute.false)) c.in_ok-process.ensures.ready f.lawful; sent = omega (arith, f.sent) })
