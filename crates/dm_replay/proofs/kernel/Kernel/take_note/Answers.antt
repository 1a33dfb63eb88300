use Rattle.std.specs.Prelude.{option_map, Some}
use Rattle.std.proofs.Common.{ap, refl, sym, ◌∙◌}
use Rattle.dm_onekernel.specs.Options.{bind}
use Rattle.dm_replay.specs.State.{one_kernel, plain_note}
use Rattle.dm_replay.proofs.Noting.{sound_answered, state_answered}
use Rattle.dm_replay.proofs.kernel.Kernel.take_note.Goals as goal

pub returns-in_default-clause-gives : goal.returns-in_default-clause-gives
returns-in_default-clause-gives c = λ b. ap (λ o. bind o (λ p. bind ((one_kernel b c.args.self.now).notes p) (λ n. Some (p, n)))) (sym c.take.ensures.value ∙ c.in_default.is)

pub returns-in-Some-remove-clause-gives : goal.returns-in-Some-remove-clause-gives
returns-in-Some-remove-clause-gives c = λ b.
    ap (λ o. bind o (λ p. bind ((one_kernel b c.args.self.now).notes p) (λ n. Some (p, n)))) (sym c.take.ensures.value ∙ c.in-Some.is)
    ∙ ap (λ o. bind (option_map plain_note o) (λ n. Some (c.in-Some.pid, n))) (sym c.remove.ensures.value ∙ c.in-Some-remove.is)

pub returns-in-Some-remove-clause-out : goal.returns-in-Some-remove-clause-out
returns-in-Some-remove-clause-out c = λ b.
    state_answered b c.args.self.now (record c.args.self.now { notes = c.remove.new.self; noted = c.take.new.self }) c.in-Some.pid c.args.id refl c.remove.ensures.updates.0 c.take.ensures.after

pub returns-in-Some-remove-clause-sound : goal.returns-in-Some-remove-clause-sound
returns-in-Some-remove-clause-sound c = λ n h.
    sound_answered n c.args.self.now (record c.args.self.now { notes = c.remove.new.self; noted = c.take.new.self }) c.in-Some.pid c.args.id refl c.remove.ensures.updates.0 c.take.ensures.after h

pub returns-in-Some-remove-clause-fit : goal.returns-in-Some-remove-clause-fit
returns-in-Some-remove-clause-fit c = λ n h.
    (h.notes c.in-Some.pid c.in-Some-remove.note (sym c.remove.ensures.value ∙ c.in-Some-remove.is), h.noted c.args.id c.in-Some.pid (sym c.take.ensures.value ∙ c.in-Some.is))
