use Rattle.dm_cmd_check.proofs.Names.{system_says, both_read, shelf_around}
use Rattle.dm_cmd_check.proofs.Judging.{no_boot_judged}
use Rattle.dm_ending.specs.declared.status.Input.TheVariants as input
use Rattle.dm_cmd_check.proofs.judge.tell_trace_files.Goals as goal

pub returns-in-Ok-System-clause-shelf : goal.returns-in-Ok-System-clause-shelf
returns-in-Ok-System-clause-shelf g c =
    both_read (shelf_around g.F.Shelf.asked g.F.Shelf.told g.F.Shelf.faults g.F.Shelf.last_failed c.args.shelf.now c.read_trace.new.shelf) c.tell_boot.new.shelf c.args.boot.now input.Trace c.args.trace.now c.in-Ok-System.system c.in-Err-read_trace.status
    (system_says (g.F.Shelf.told c.args.shelf.now) c.args.boot.now c.in-Ok-System.system c.in-Ok-System.field-0-1 _ c.in-Ok-System.field-0-is c.in-Ok-System.ensures.tells) c.in-Ok-System.ensures.shelf c.in-Err-read_trace.ensures.shelf

pub returns-clause-none : goal.returns-clause-none
returns-clause-none g c = no_boot_judged (g.F.Shelf.told c.args.shelf.now) c.args.boot.now c.args.trace.now (g.F.Shelf.faults c.args.shelf.now) (g.F.Shelf.faults c.tell_boot.new.shelf) c.in-Err.status c.in-Err.ensures.untold c.in-Err.ensures.none
