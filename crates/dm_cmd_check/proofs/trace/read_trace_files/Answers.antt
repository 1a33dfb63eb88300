use Rattle.dm_cmd_check.proofs.Names.{Status, both_read, passed_on, silent_boot, Both, NoBytes, FirstOfBoot, MeetsShelf}
use Rattle.dm_ending.specs.declared.status.Input.TheVariants as input
use Rattle.dm_cmd_check.proofs.trace.read_trace_files.Goals as goal

pub returns-in_err-trace-clause-shelf : goal.returns-in_err-trace-clause-shelf
returns-in_err-trace-clause-shelf g c =
    passed_on (MeetsShelf (Both c.args.boot.now input.Trace c.args.trace.now) _) c.from_residual-in_err-trace.result c.in_err-trace.field-0.0 c.from_residual-in_err-trace.ensures
    (both_read _ c.read_system.new.shelf c.args.boot.now input.Trace c.args.trace.now c.in_ok-boot.boot _ c.in_ok-boot.ensures.says c.in_ok-boot.ensures.shelf c.in_err-trace.ensures.shelf)

pub returns-in_err-boot-clause-said : goal.returns-in_err-boot-clause-said
returns-in_err-boot-clause-said g c =
    passed_on (λ (s : Status). FirstOfBoot (g.F.Shelf.told c.args.shelf.now) c.args.boot.now s c.read_system.new.said.items) c.from_residual.result c.in_err-boot.field-0.0 c.from_residual.ensures c.in_err-boot.ensures.said

pub returns-in_err-trace-clause-said : goal.returns-in_err-trace-clause-said
returns-in_err-trace-clause-said g c =
    passed_on (λ (s : Status). FirstOfBoot (g.F.Shelf.told c.args.shelf.now) c.args.boot.now s c.read_system.new.said.items) c.from_residual-in_err-trace.result c.in_err-trace.field-0.0 c.from_residual-in_err-trace.ensures
    (silent_boot (λ (s : Status). NoBytes (g.F.Shelf.told c.read_system.new.shelf) c.args.trace.now (g.F.Shelf.faults c.read_system.new.shelf) (g.F.Shelf.faults c.read_trace.new.shelf) s) _ c.args.boot.now _ _ (λ number place h. h) c.in_err-trace.ensures.none c.in_ok-boot.ensures.said)

pub returns-clause-shelf : goal.returns-clause-shelf
returns-clause-shelf g c = both_read _ c.read_system.new.shelf c.args.boot.now input.Trace c.args.trace.now c.in_ok-boot.boot _ c.in_ok-boot.ensures.says c.in_ok-boot.ensures.shelf c.in_ok-trace.ensures.shelf
