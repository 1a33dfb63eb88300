-- One part more is copied.
use Rattle.dm_processor.proofs.Names.{arith, concat}
use Rattle.dm_processor.proofs.Concat.{length-concat}
use Rattle.dm_processor.proofs.Copies.{copied_out}
use Rattle.dm_processor.proofs.blocks.read_at.Goals as goal

pub overflow_add-at : goal.overflow_add-at
overflow_add-at c = omega (arith, length-concat c.args.blocks.now c.requires.whole)

pub loop-done-preserved : goal.loop-done-preserved
loop-done-preserved c = record {
  within = omega arith;
  copied =
      copied_out c.loop-done.into c.write_at.new.bytes c.rest_at-rest.result.now (concat c.args.blocks.now) c.loop-done.done c.min-n.result _ c.args.at c.write_at.ensures c.rest_at-rest.ensures.bytes (omega arith) (omega arith) (omega arith) c.loop-done.invariant.copied;
}
