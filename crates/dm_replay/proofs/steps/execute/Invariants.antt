use Rattle.std.specs.Prelude.{◌≡◌}
use Rattle.std.specs.declared.option.Option.TheVariants.{Some}
use Rattle.dm_onekernel.specs.Step.{plain_steps}
use Rattle.dm_replay.proofs.steps.execute.Given as goal

abbrev pub invariant-loop-done : goal.invariant-loop-done
invariant-loop-done l = plain_steps l.done (record { regs = l.fn.regs; bytes = l.fn.memory }) ≡ Some (record { regs = l.regs; bytes = l.memory })
