-- The block that was written stands where it stood.
use Rattle.dm_processor.proofs.Names.{arith}
use Rattle.dm_processor.proofs.Concat.{concat-written, AreWhole-written}
use Rattle.dm_processor.proofs.blocks.write_part.Goals as goal

pub returns-clause-bytes : goal.returns-clause-bytes
returns-clause-bytes c =
    concat-written c.args.blocks.now c.args.at c.min-n.result c.args.from.now c.write_at.new.bytes c.requires.whole (omega arith) (omega arith) (omega arith) c.write_at.ensures

pub returns-clause-whole : goal.returns-clause-whole
returns-clause-whole c =
    AreWhole-written c.args.blocks.now c.args.at c.min-n.result c.args.from.now c.write_at.new.bytes c.requires.whole (omega arith) (omega arith) (omega arith) c.write_at.ensures
