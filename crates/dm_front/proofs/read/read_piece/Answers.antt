use Rattle.dm_front.proofs.Names.{arith}
use Rattle.dm_front.proofs.Reading.{so_far_more}
use Rattle.dm_front.proofs.read.read_piece.Goals as goal

pub returns-in-Ok-extend_from_slice-clause-so_far : goal.returns-in-Ok-extend_from_slice-clause-so_far
returns-in-Ok-extend_from_slice-clause-so_far g c =
    so_far_more _ (g.F.Shelf.told c.args.shelf.now) c.args.name.now c.args.bytes.now.items c.read.new.into c.extend_from_slice.new.list.items c.in-Ok.n _ c.in-Ok.ensures.bytes (omega arith) c.in-Ok-extend_from_slice.ensures.items
