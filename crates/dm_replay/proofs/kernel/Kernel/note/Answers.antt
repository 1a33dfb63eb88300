use Rattle.std.proofs.Common.{refl}
use Rattle.dm_replay.proofs.Noting.{sound_noted, state_noted}
use Rattle.dm_replay.proofs.kernel.Kernel.note.Goals as goal

pub returns-clause-state : goal.returns-clause-state
returns-clause-state c = λ b.
    state_noted b c.args.self.now (record c.args.self.now { notes = c.insert.new.map; noted = c.set.new.self }) c.args.pid c.args.note refl c.in_ok-insert.ensures.updates.0 c.in_ok-set.ensures

pub returns-clause-sound : goal.returns-clause-sound
returns-clause-sound c = λ n h fit home.
    sound_noted n c.args.self.now (record c.args.self.now { notes = c.insert.new.map; noted = c.set.new.self }) c.args.pid c.args.note refl c.in_ok-insert.ensures.updates.0 c.in_ok-set.ensures h fit home
