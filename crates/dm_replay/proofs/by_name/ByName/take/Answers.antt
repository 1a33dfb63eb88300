use Rattle.std.specs.declared.option.Option.TheVariants.{None}
use Rattle.dm_replay.specs.Named.{held, key_of}
use Rattle.dm_replay.proofs.Keys.{set_at}
use Rattle.dm_replay.proofs.by_name.ByName.take.Goals as goal

pub returns-clause-after : goal.returns-clause-after
unfolding held
returns-clause-after g c = λ i. set_at c.args.id i c.key_of.result _ None (held c.args.self.now i) c.key_of.ensures (c.remove.ensures.updates.0 (key_of i))
