-- The record is set, and the predecessors stay.
use Rattle.dm_kernel.proofs.Names.{rules}
use Rattle.dm_kernel.proofs.kernel.Kernel.set_stopped.Goals as goal

pub returns : goal.returns
returns c =
    let set = c.process_mut.follows.holds (record c.unwrap-process.result.now { stopped = c.args.stopped }) c.requires in
    let records = set.0 in
    let preds = set.1 in
    search rules
