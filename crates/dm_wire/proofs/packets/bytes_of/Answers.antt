use Rattle.dm_wire.proofs.Names.{arith, length}
use Rattle.dm_wire.proofs.Bytes.{begins_before, ends_before}
use Rattle.dm_wire.proofs.packets.bytes_of.Goals as goal

pub slice_bounds-result-count : goal.slice_bounds-result-count
slice_bounds-result-count c = omega (arith, c.beginning.ensures, begins_before 0 c.args.ends.now (length c.args.bytes.now) c.args.number c.requires.ascend c.requires.within)

pub slice_bounds-result-start : goal.slice_bounds-result-start
slice_bounds-result-start c = omega (arith, c.beginning.ensures, begins_before 0 c.args.ends.now (length c.args.bytes.now) c.args.number c.requires.ascend c.requires.within)

pub slice_bounds-result-end : goal.slice_bounds-result-end
slice_bounds-result-end c = ends_before 0 c.args.ends.now (length c.args.bytes.now) c.args.number c.requires.ascend c.requires.within
