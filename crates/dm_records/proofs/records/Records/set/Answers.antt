use Rattle.std.specs.Option.{option_map_or}
use Rattle.std.specs.Prelude.{false}
use Rattle.std.proofs.Common.{Some, None}
use Rattle.dm_records.proofs.Names.{rules, get, pid_cmp, at, pred_at}
use Rattle.dm_records.specs.Records.{precedes}
use Rattle.dm_records.proofs.Kept.{seen_kept, still_some}
use Rattle.dm_records.proofs.records.Records.set.Goals as goal

pub returns-in-Some-clause-preds : goal.returns-in-Some-clause-preds
unfolding pred_at
returns-in-Some-clause-preds g c = λ q n.
    seen_kept (λ o. option_map_or (λ place. precedes place n) o false) (get pid_cmp c.args.self.now.places) _ c.args.pid q (record { known = Some c.args.entry; predecessors = c.in-Some.place.now.predecessors }) (search rules) (search rules)

pub returns-in-Some-clause-grows : goal.returns-in-Some-clause-grows
unfolding at
returns-in-Some-clause-grows g c = λ q s. still_some (at c.args.self.now) _ c.args.pid q c.args.entry (search rules) s
