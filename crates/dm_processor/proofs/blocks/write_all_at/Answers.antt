-- One part more is copied.
use Rattle.dm_processor.proofs.Names.{◌≡◌, ◌-◌, length, take, drop, length-drop, arith, take_all, concat}
use Rattle.dm_processor.proofs.Concat.{length-concat}
use Rattle.dm_processor.proofs.Copies.{copied_in}
use Rattle.dm_processor.proofs.blocks.write_all_at.Goals as goal

pub overflow_add-at : goal.overflow_add-at
overflow_add-at c = omega (arith, length-concat c.args.blocks.now c.requires.whole)

pub loop-done-preserved : goal.loop-done-preserved
loop-done-preserved c =
    let rest : take (length c.args.from.now - c.loop-done.done) (drop c.loop-done.done c.args.from.now) ≡ drop c.loop-done.done c.args.from.now = take_all _ _ (omega (arith, length-drop c.loop-done.done c.args.from.now)) in
    record {
      within = omega (arith, length-drop c.loop-done.done c.args.from.now);
      whole = c.write_part-done.ensures.whole;
      copied =
          copied_in (concat c.args.blocks.now) (concat c.loop-done.blocks) (concat c.write_part-done.new.blocks) c.args.from.now c.args.at c.loop-done.done c.write_part-done.result (omega arith) (omega (arith, length-drop c.loop-done.done c.args.from.now)) c.loop-done.invariant.copied (rw rest at c.write_part-done.ensures.bytes);
    }
