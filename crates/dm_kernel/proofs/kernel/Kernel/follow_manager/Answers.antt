-- The record is set, and the predecessors stay.
use Rattle.dm_kernel.proofs.Names.{◌+◌, ◌<◌, length, rules, at, manager_in, Managing}
use Rattle.std.specs.Prelude.{◌^◌}
use Rattle.dm_kernel.proofs.Standing.{some_such}
use Rattle.dm_kernel.proofs.kernel.Kernel.follow_manager.Goals as goal

pub returns : goal.returns
returns c =
    let set = c.manager_mut.follows.holds c.retarget-count.new.self (some_such (λ (v : Managing). length v.children + length v.pending < 2 ^ 31) (manager_in (at c.args.self.now.records c.args.message.now.to.pid)) c.requires.few) in
    let records = set.0 in
    let preds = set.1 in
    search rules
