use Rattle.dm_cmd_check.proofs.Names.{ℕ, List, refl, None, subst, sym, Status, silent_boot, LabelsSay}
use Rattle.dm_cmd_check.proofs.LabelOutcomes.{labels_meet, labels_never}
use Rattle.dm_cmd_check.proofs.label_check.check_label_files.Goals as goal

pub returns-in-Ok : goal.returns-in-Ok
returns-in-Ok g c =
    let says : LabelsSay c.in-Ok.labelled.boot c.in-Ok.labelled.labels.items (g.K.Sink.told c.args.out.now) (g.K.Sink.told c.check.new.out) c.check.result =
    subst (λ (bytes : List ℕ). LabelsSay c.in-Ok.labelled.boot bytes (g.K.Sink.told c.args.out.now) (g.K.Sink.told c.check.new.out) c.check.result) c.as_slice.ensures.value c.check.ensures.says in
    record {
      meets = labels_meet c.args.boot.now c.args.labels.now _ c.check.result c.in-Ok.labelled.boot c.in-Ok.labelled.labels.items c.in-Ok.ensures.has c.in-Ok.ensures.valid c.in-Ok.ensures.shelf says c.check.ensures.sink;
      said = silent_boot (λ (s : Status). LabelsSay c.in-Ok.labelled.boot c.in-Ok.labelled.labels.items (g.K.Sink.told c.args.out.now) (g.K.Sink.told c.check.new.out) s) _ _ c.check.result _ (λ number place h. h) says c.in-Ok.ensures.said;
    }

pub returns-in-Err : goal.returns-in-Err
returns-in-Err g c = record { meets = labels_never c.args.boot.now c.args.labels.now _ None c.in-Err.status c.in-Err.ensures.none c.in-Err.ensures.shelf refl refl; said = c.in-Err.ensures.said }
