use Rattle.std.proofs.Common.{refl}
use Rattle.dm_replay.proofs.Taken.{sound_back, state_back}
use Rattle.dm_replay.proofs.kernel.Kernel.put_back.Goals as goal

pub returns-clause-state : goal.returns-clause-state
returns-clause-state c = λ b. state_back b c.args.self.now (record c.args.self.now { processes = c.put_back.new.self }) c.args.pid c.args.process refl c.put_back.ensures

pub returns-clause-sound : goal.returns-clause-sound
returns-clause-sound c = λ n h f. sound_back n c.args.self.now (record c.args.self.now { processes = c.put_back.new.self }) c.args.pid c.args.process refl c.put_back.ensures h f
