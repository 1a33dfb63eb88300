-- The record is set, and the predecessors stay.
use Rattle.dm_kernel.proofs.Names.{◌<◌, length, rules, at, board_in, Board}
use Rattle.std.specs.Prelude.{◌^◌}
use Rattle.dm_kernel.proofs.Standing.{some_such}
use Rattle.dm_kernel.proofs.kernel.Kernel.follow_board.Goals as goal

pub returns : goal.returns
returns c =
    let set = c.board_mut.follows.holds c.retarget-count.new.self (some_such (λ (v : Board). length v.names < 2 ^ 31) (board_in (at c.args.self.now.records c.args.message.now.to.pid)) c.requires.few) in
    let records = set.0 in
    let preds = set.1 in
    search rules
