use Rattle.dm_front.proofs.Names.{◌≡◌, ◌+◌, ◌-◌, vec_len, SoFar}
use Rattle.dm_front.proofs.read.read_file.Given as goal

abbrev pub invariant-pieces : goal.invariant-pieces
invariant-pieces g l = record {
  same : g.F.Shelf.told l.shelf ≡ g.F.Shelf.told l.initial.shelf;
  so_far : SoFar (g.F.Shelf.told l.initial.shelf) l.name l.bytes.items;
  steady : g.F.Shelf.faults l.shelf ≡ g.F.Shelf.faults l.initial.shelf;
  asks : g.F.Shelf.asked l.initial.shelf l.name l.shelf;
}

abbrev pub decreases-pieces : goal.decreases-pieces
decreases-pieces g l = l.most + 1 - vec_len l.bytes
