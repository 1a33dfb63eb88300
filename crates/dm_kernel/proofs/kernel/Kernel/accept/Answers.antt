-- The process has a place now, where the machine that asked is a predecessor.
use Rattle.dm_kernel.proofs.Places.{has_a_place, set_known}
use Rattle.dm_kernel.proofs.Names.{at, Incoming}
use Rattle.dm_kernel.proofs.kernel.Kernel.accept.Goals as goal

pub add_predecessor-requires-clause-place : goal.add_predecessor-requires-clause-place
add_predecessor-requires-clause-place c =
    has_a_place c.set_known.new.self.records c.args.pid
    (set_known (at c.args.self.now.records) (at c.set_known.new.self.records c.args.pid) c.args.pid (Incoming c.args.arriving) (c.in_ok-set_known.ensures.records c.args.pid))
