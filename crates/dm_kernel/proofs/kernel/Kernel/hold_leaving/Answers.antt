-- The record is set, and the predecessors stay; where memory lacks nothing is promised.
use Rattle.dm_kernel.proofs.Names.{◌≡◌, ◌∙◌, rules, ap, sym, Some, option_copied_mut, at, frozen_of}
use Rattle.dm_kernel.proofs.Known.{has_some}
use Rattle.dm_kernel.proofs.kernel.Kernel.hold_leaving.Goals.{in-Ok, in-Err}
use Rattle.dm_kernel.proofs.kernel.Kernel.hold_leaving.Goals as goal

pub returns : goal.returns
returns c =
    let x = c.unwrap-leaving.result.now in
    let was : frozen_of (at c.args.self.now.records c.into_inner-message.result.to.pid) ≡ Some x = sym c.frozen_mut.ensures.value ∙ ap option_copied_mut c.unwrap-leaving.ensures in
    let set = c.frozen_mut.follows.holds c.hold.new.self (has_some _ x was) in
    let records = set.0 in
    let preds = set.1 in
    elim c.match-hold.branch [ in-Ok w ↦ search rules | in-Err w ↦ search rules ]
