use Rattle.std.proofs.Common.{◌+◌, ap, subst, sym}
use Rattle.dm_replay.specs.Sound.{IsSound}
use Rattle.dm_replay.proofs.Rows.{counted}
use Rattle.dm_replay.proofs.kernel.Kernel.apply.Goals as goal

pub returns-clause-sound : goal.returns-clause-sound
returns-clause-sound c =
    let same = c.in_ok-do_step.ensures.stays.labels in
    subst (λ n. IsSound n (record c.do_step.new.self { labels = c.do_step.new.self.labels + 1 })) (ap (λ n. n + 1) (sym same)) (counted (c.args.self.now.labels + 1) (c.do_step.new.self.labels + 1) c.do_step.new.self c.in_ok-do_step.ensures.sound)
