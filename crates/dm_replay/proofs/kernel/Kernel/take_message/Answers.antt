use Rattle.std.proofs.Common.{ap, refl, subst, sym, ◌∙◌}
use Rattle.dm_message.specs.Lawful.{IsLawfulMessage}
use Rattle.dm_message.specs.Plain.{plain_message}
use Rattle.dm_replay.specs.State.{plain_held}
use Rattle.dm_replay.proofs.Bag.{sound_taken, state_taken}
use Rattle.dm_replay.proofs.kernel.Kernel.take_message.Goals as goal

pub returns-in-Some-clause-gives : goal.returns-in-Some-clause-gives
returns-in-Some-clause-gives c = λ b. ap plain_held (sym c.take.ensures.value ∙ c.in-Some.is) ∙ ap plain_message (sym c.into_inner.ensures)

pub returns-in-Some-clause-out : goal.returns-in-Some-clause-out
returns-in-Some-clause-out c = λ b. state_taken b c.args.self.now (record c.args.self.now { bag = c.take.new.self }) c.args.id refl c.take.ensures.after

pub returns-in-Some-clause-sound : goal.returns-in-Some-clause-sound
returns-in-Some-clause-sound c = λ n h. sound_taken n c.args.self.now (record c.args.self.now { bag = c.take.new.self }) c.args.id refl c.take.ensures.after h

pub returns-in-Some-clause-fit : goal.returns-in-Some-clause-fit
returns-in-Some-clause-fit c = λ n h. subst IsLawfulMessage (sym c.into_inner.ensures) (h.bag c.args.id c.in-Some.message (sym c.take.ensures.value ∙ c.in-Some.is)).lawful

pub returns-in-Some-clause-home : goal.returns-in-Some-clause-home
returns-in-Some-clause-home c = λ n h. (h.bag c.args.id c.in-Some.message (sym c.take.ensures.value ∙ c.in-Some.is)).home
