use Rattle.dm_cmd_check.proofs.Names.{Status, both_read, passed_on, silent_boot, Both, FirstOfBoot, NoLabelBytes, MeetsShelf}
use Rattle.dm_ending.specs.declared.status.Input.TheVariants as input
use Rattle.dm_cmd_check.proofs.label_check.read_label_files.Goals as goal

pub returns-in_err-labels-clause-shelf : goal.returns-in_err-labels-clause-shelf
returns-in_err-labels-clause-shelf g c =
    passed_on (MeetsShelf (Both c.args.boot.now input.Labels c.args.labels.now) _) c.from_residual-in_err-labels.result c.in_err-labels.field-0.0 c.from_residual-in_err-labels.ensures
    (both_read _ c.read_system.new.shelf c.args.boot.now input.Labels c.args.labels.now c.in_ok-boot.boot _ c.in_ok-boot.ensures.says c.in_ok-boot.ensures.shelf c.in_err-labels.ensures.shelf)

pub returns-in_err-boot-clause-said : goal.returns-in_err-boot-clause-said
returns-in_err-boot-clause-said g c =
    passed_on (λ (s : Status). FirstOfBoot (g.F.Shelf.told c.args.shelf.now) c.args.boot.now s c.read_system.new.said.items) c.from_residual.result c.in_err-boot.field-0.0 c.from_residual.ensures c.in_err-boot.ensures.said

pub returns-in_err-labels-clause-said : goal.returns-in_err-labels-clause-said
returns-in_err-labels-clause-said g c =
    passed_on (λ (s : Status). FirstOfBoot (g.F.Shelf.told c.args.shelf.now) c.args.boot.now s c.read_system.new.said.items) c.from_residual-in_err-labels.result c.in_err-labels.field-0.0 c.from_residual-in_err-labels.ensures
    (silent_boot (λ (s : Status). NoLabelBytes (g.F.Shelf.told c.read_system.new.shelf) c.args.labels.now (g.F.Shelf.faults c.read_system.new.shelf) (g.F.Shelf.faults c.read_labels.new.shelf) s) _ c.args.boot.now _ _ (λ number place h. h) c.in_err-labels.ensures.none c.in_ok-boot.ensures.said)

pub returns-clause-shelf : goal.returns-clause-shelf
returns-clause-shelf g c = both_read _ c.read_system.new.shelf c.args.boot.now input.Labels c.args.labels.now c.in_ok-boot.boot _ c.in_ok-boot.ensures.says c.in_ok-boot.ensures.shelf c.in_ok-labels.ensures.shelf
