use Rattle.std.proofs.Common.{refl, sym, ◌∙◌}
use Rattle.std.specs.BTreeMap.{get}
use Rattle.dm_link.specs.Names.{pid_cmp}
use Rattle.dm_replay.specs.Living.{at}
use Rattle.dm_replay.specs.State.{hand_of}
use Rattle.dm_replay.proofs.Taken.{at_hand_as, hand_is_here, none_if, sound_without, state_without}
use Rattle.dm_replay.proofs.kernel.Kernel.take_at_hand.Goals as goal

pub take_alive-requires : goal.take_alive-requires
take_alive-requires c = hand_is_here (at c.args.self.now.processes c.args.pid) (get pid_cmp c.args.self.now.notes c.args.pid) (sym c.is_at_hand.ensures ∙ c.if-not-is_at_hand.false)

pub returns-then-not-is_at_hand-clause-gives : goal.returns-then-not-is_at_hand-clause-gives
returns-then-not-is_at_hand-clause-gives c = λ b. none_if (hand_of c.args.self.now c.args.pid) (sym c.is_at_hand.ensures ∙ c.if-not-is_at_hand.true)

pub returns-clause-gives : goal.returns-clause-gives
returns-clause-gives c = λ b.
    at_hand_as (at c.args.self.now.processes c.args.pid) (get pid_cmp c.args.self.now.notes c.args.pid) c.take_alive.result c.take_alive.ensures.before (sym c.is_at_hand.ensures ∙ c.if-not-is_at_hand.false)

pub returns-clause-out : goal.returns-clause-out
returns-clause-out c = λ b. state_without b c.args.self.now (record c.args.self.now { processes = c.take_alive.new.self }) c.args.pid refl c.take_alive.ensures.after

pub returns-clause-fit : goal.returns-clause-fit
returns-clause-fit c = λ n h. h.processes c.args.pid c.take_alive.result c.take_alive.ensures.before

pub returns-clause-sound : goal.returns-clause-sound
returns-clause-sound c = λ n h. sound_without n c.args.self.now (record c.args.self.now { processes = c.take_alive.new.self }) c.args.pid refl c.take_alive.ensures.after h
