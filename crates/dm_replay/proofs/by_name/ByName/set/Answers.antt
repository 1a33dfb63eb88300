use Rattle.std.specs.declared.option.Option.TheVariants.{Some}
use Rattle.dm_replay.specs.Named.{held, key_of}
use Rattle.dm_replay.proofs.Keys.{set_at}
use Rattle.dm_replay.proofs.by_name.ByName.set.Goals as goal

pub returns : goal.returns
unfolding held
returns g c = λ i. set_at c.args.id i c.key_of.result _ (Some c.args.value) (held c.args.self.now i) c.key_of.ensures (c.in_ok-insert.ensures.updates.0 (key_of i))
