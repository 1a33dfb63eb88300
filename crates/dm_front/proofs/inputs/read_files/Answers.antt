use Rattle.dm_front.proofs.Names.{Status, Both, FirstOfFiles, NoFiles, MeetsShelf}
use Rattle.dm_front.proofs.Meeting.{both_read, err_passed, passed_on}
use Rattle.dm_front.proofs.Saying.{boot_first, schedule_first, schedule_none}
use Rattle.dm_ending.specs.declared.status.Input.TheVariants as input
use Rattle.dm_front.proofs.inputs.read_files.Goals as goal

pub returns-in_err-directives-clause-shelf : goal.returns-in_err-directives-clause-shelf
returns-in_err-directives-clause-shelf g c =
    passed_on (MeetsShelf (Both c.args.boot.now input.Schedule c.args.schedule.now) _) c.from_residual-in_err-directives.result c.in_err-directives.field-0.0 c.from_residual-in_err-directives.ensures
    (both_read _ c.read_system.new.shelf c.args.boot.now input.Schedule c.args.schedule.now c.in_ok-boot.boot _ c.in_ok-boot.ensures.says c.in_ok-boot.ensures.shelf c.in_err-directives.ensures.shelf)

pub returns-in_err-boot-clause-said : goal.returns-in_err-boot-clause-said
returns-in_err-boot-clause-said g c =
    passed_on (λ (s : Status). FirstOfFiles (g.F.Shelf.told c.args.shelf.now) c.args.boot.now c.args.schedule.now s c.read_system.new.said.items) c.from_residual.result c.in_err-boot.field-0.0 c.from_residual.ensures
    (boot_first _ c.args.boot.now c.args.schedule.now _ _ _ _ c.in_err-boot.ensures.none c.in_err-boot.ensures.said)

pub returns-in_err-directives-clause-said : goal.returns-in_err-directives-clause-said
returns-in_err-directives-clause-said g c =
    passed_on (λ (s : Status). FirstOfFiles (g.F.Shelf.told c.args.shelf.now) c.args.boot.now c.args.schedule.now s c.read_directives.new.said.items) c.from_residual-in_err-directives.result c.in_err-directives.field-0.0 c.from_residual-in_err-directives.ensures
    (schedule_first (g.F.Shelf.told c.args.shelf.now) (g.F.Shelf.told c.read_system.new.shelf) c.args.boot.now c.args.schedule.now c.in_ok-boot.boot _ _ _ _ c.in_ok-boot.ensures.says c.in_ok-boot.ensures.shelf.same c.in_err-directives.ensures.none c.in_err-directives.ensures.said)

pub returns-clause-shelf : goal.returns-clause-shelf
returns-clause-shelf g c = both_read _ c.read_system.new.shelf c.args.boot.now input.Schedule c.args.schedule.now c.in_ok-boot.boot _ c.in_ok-boot.ensures.says c.in_ok-boot.ensures.shelf c.in_ok-directives.ensures.shelf

pub returns-in_err-directives-clause-none : goal.returns-in_err-directives-clause-none
returns-in_err-directives-clause-none g c =
    err_passed (λ (s : Status). NoFiles (g.F.Shelf.told c.args.shelf.now) c.args.boot.now c.args.schedule.now (g.F.Shelf.faults c.args.shelf.now) (g.F.Shelf.faults c.read_directives.new.shelf) s) c.from_residual-in_err-directives.result c.in_err-directives.field-0.0 c.from_residual-in_err-directives.ensures
    (schedule_none (g.F.Shelf.told c.args.shelf.now) (g.F.Shelf.told c.read_system.new.shelf) c.args.boot.now c.args.schedule.now c.in_ok-boot.boot (g.F.Shelf.faults c.args.shelf.now) (g.F.Shelf.faults c.read_system.new.shelf) (g.F.Shelf.faults c.read_directives.new.shelf) _ c.in_ok-boot.ensures.says c.in_ok-boot.ensures.shelf.same c.in_ok-boot.ensures.shelf.blames c.in_err-directives.ensures.none)
