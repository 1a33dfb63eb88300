use Rattle.std.specs.Prelude.{if◌then◌else◌}
use Rattle.std.proofs.Common.{ap, refl, ◌∙◌}
use Rattle.std.specs.declared.option.Option.TheVariants.{Some}
use Rattle.dm_message.specs.Ids.{id_eq}
use Rattle.dm_message.specs.declared.Message.{Message}
use Rattle.dm_replay.specs.Named.{held}
use Rattle.dm_replay.proofs.Bag.{sound_put, state_put}
use Rattle.dm_replay.proofs.kernel.Kernel.put_message.Goals as goal

pub returns-clause-state : goal.returns-clause-state
returns-clause-state c = λ b.
    state_put b c.args.self.now (record c.args.self.now { bag = c.set.new.self }) c.args.message refl
    (λ i. c.in_ok-set.ensures i ∙ ap (λ (m : Message). if id_eq c.args.message.id i then Some m else held c.args.self.now.bag i) c.in_ok-message.ensures)

pub returns-clause-sound : goal.returns-clause-sound
returns-clause-sound c = λ n h.
    sound_put n c.args.self.now (record c.args.self.now { bag = c.set.new.self }) c.args.message refl
    (λ i. c.in_ok-set.ensures i ∙ ap (λ (m : Message). if id_eq c.args.message.id i then Some m else held c.args.self.now.bag i) c.in_ok-message.ensures) c.requires h
