use Rattle.std.proofs.Common.{arith}
use Rattle.std.proofs.lemmas.Grind.{common_steps}
use Rattle.dm_onekernel.proofs.Making.{has_room, puts_next}
use Rattle.dm_onekernel.proofs.child.table_of.Goals as goal

pub unwrap-requires : goal.unwrap-requires
unwrap-requires c =
    has_room c.put.result c.args.slots c.loop-link.link-index c.args.links.now c.loop-link.table _ c.loop-link-test.true c.requires.fits c.loop-link.invariant
    c.put.ensures.full

pub loop-link-preserved : goal.loop-link-preserved
loop-link-preserved c =
    puts_next c.put.result c.args.slots c.loop-link.link-index c.args.links.now c.loop-link.table c.put.new.self _ c.loop-link-test.true c.requires.fits
    c.loop-link.invariant (grind (arith, common_steps)) c.put.ensures.full c.put.ensures.slot c.put.ensures.after
