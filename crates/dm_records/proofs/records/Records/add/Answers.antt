use Rattle.std.specs.Option.{option_map_or}
use Rattle.std.specs.Prelude.{false}
use Rattle.std.proofs.Common.{Some, None}
use Rattle.dm_records.proofs.Names.{◌∙◌, sym, rules, get, pid_cmp, pred_at}
use Rattle.dm_records.specs.Records.{precedes}
use Rattle.dm_records.proofs.Kept.{seen_kept}
use Rattle.dm_records.proofs.records.Records.add.Goals as goal

pub returns-in-Ok-insert_or_return-clause-preds : goal.returns-in-Ok-insert_or_return-clause-preds
unfolding pred_at
returns-in-Ok-insert_or_return-clause-preds g c = λ q n.
    seen_kept (λ o. option_map_or (λ place. precedes place n) o false) (get pid_cmp c.args.self.now.places) _ c.args.pid q (record { known = Some c.args.entry; predecessors = c.none.result }) (c.none.ensures n ∙ sym (c.requires.no_preds n)) (search rules)
