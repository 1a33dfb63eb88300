-- What was written so far.
use Rattle.dm_program.proofs.Names.{◌≡◌, map, take, concat, appended}
use Rattle.dm_program.proofs.ending.write_pieces.Given as goal

abbrev pub invariant-loop-piece : goal.invariant-loop-piece
invariant-loop-piece g l = record {
  told : g.K.Sink.told l.errors ≡ appended (g.K.Sink.told l.initial.errors) (concat (map (λ p. p.now) (take l.piece-index l.pieces)));
  steady : g.K.Sink.faults l.errors ≡ g.K.Sink.faults l.initial.errors;
}
