-- A piece more, or the one that was cut short.
use Rattle.dm_program.proofs.Names.{inr, ◌∙◌}
use Rattle.dm_program.proofs.Pieces.{cut_in, one_more, rose_from}
use Rattle.dm_program.proofs.ending.write_pieces.Goals as goal

pub returns-in-Err : goal.returns-in-Err
returns-in-Err g c =
    inr (
      cut_in (λ p. p.now) c.args.pieces.now c.loop-piece.piece-index _ _ _ _ c.loop-piece-test.true c.loop-piece.invariant.told c.in-Err.ensures.cut,
      rose_from _ _ _ c.loop-piece.invariant.steady c.in-Err.ensures.fault,
      c.in-Err.ensures.last,
    )

pub loop-piece-preserved : goal.loop-piece-preserved
loop-piece-preserved g c = record {
  told = one_more (λ p. p.now) c.args.pieces.now c.loop-piece.piece-index _ _ _ _ c.loop-piece-test.true c.loop-piece.invariant.told c.in-Ok.ensures.all;
  steady = c.in-Ok.ensures.steady ∙ c.loop-piece.invariant.steady;
}
