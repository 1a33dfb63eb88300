-- Blocks of zeros are whole, and their bytes are zeros.
use Rattle.dm_processor.proofs.Names.{arith, common_steps}
use Rattle.dm_processor.proofs.Concat.{concat-zeros, AreWhole-zeros}
use Rattle.dm_processor.proofs.blocks.zeros.Goals as goal

pub invariant_of-result : goal.invariant_of-result
invariant_of-result c =
    rw c.in_ok-blocks.ensures.items (grind (arith, common_steps, AreWhole-zeros c.from.result), grind (arith, common_steps), AreWhole-zeros c.from.result)

pub returns : goal.returns
returns c = record { ok = rw c.in_ok-blocks.ensures.items (grind (arith, concat-zeros c.from.result)) }
