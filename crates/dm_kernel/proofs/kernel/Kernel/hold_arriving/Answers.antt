-- The record is set, and the predecessors stay; where memory lacks nothing is promised.
use Rattle.dm_kernel.proofs.Names.{◌≡◌, ◌∙◌, rules, ap, sym, Some, option_copied_mut, at, incoming_of}
use Rattle.dm_kernel.proofs.Known.{has_some}
use Rattle.dm_kernel.proofs.kernel.Kernel.hold_arriving.Goals.{in-Ok, in-Err}
use Rattle.dm_kernel.proofs.kernel.Kernel.hold_arriving.Goals as goal

pub returns : goal.returns
returns c =
    let x = c.unwrap-arriving.result.now in
    let was : incoming_of (at c.args.self.now.records c.into_inner-message.result.to.pid) ≡ Some x = sym c.incoming_mut.ensures.value ∙ ap option_copied_mut c.unwrap-arriving.ensures in
    let set = c.incoming_mut.follows.holds c.hold.new.self (has_some _ x was) in
    let records = set.0 in
    let preds = set.1 in
    elim c.match-hold.branch [ in-Ok w ↦ search rules | in-Err w ↦ search rules ]
