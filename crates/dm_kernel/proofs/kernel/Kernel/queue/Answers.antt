-- The record is set, and the predecessors stay.
use Rattle.dm_kernel.proofs.Names.{◌≡◌, ◌∙◌, rules, ap, sym, Some, option_copied_mut, at, process_in}
use Rattle.dm_kernel.proofs.Known.{has_some}
use Rattle.dm_kernel.proofs.kernel.Kernel.queue.Goals as goal

pub returns : goal.returns
returns c =
    let x = c.unwrap-process.result.now in
    let was : process_in (at c.args.self.now.records c.get-2.result.now.to.pid) ≡ Some x = sym c.process_mut.ensures.value ∙ ap option_copied_mut c.unwrap-process.ensures in
    let set = c.process_mut.follows.holds (record x { queue = c.push.new.self }) (has_some _ x was) in
    let records = set.0 in
    let preds = set.1 in
    search rules
