use Rattle.std.proofs.Common.{refl}
use Rattle.dm_replay.proofs.Bag.{sound_taken, state_taken}
use Rattle.dm_replay.proofs.kernel.Kernel.forget.Goals as goal

pub returns-clause-out : goal.returns-clause-out
returns-clause-out c = λ b. state_taken b c.args.self.now (record c.args.self.now { bag = c.take.new.self }) c.args.id refl c.take.ensures.after

pub returns-clause-sound : goal.returns-clause-sound
returns-clause-sound c = λ n h. sound_taken n c.args.self.now (record c.args.self.now { bag = c.take.new.self }) c.args.id refl c.take.ensures.after h
