use Rattle.std.proofs.Common.{sym, ◌∙◌}
use Rattle.dm_explore.specs.Past.{delivers}
use Rattle.dm_explore.proofs.Notes.{noted_no, noted_yes}
use Rattle.dm_explore.proofs.past.was_delivered.Goals as goal

pub returns-then-delivers : goal.returns-then-delivers
returns-then-delivers c = λ ds h. noted_yes (delivers c.args.a c.args.b c.args.k) c.args.done.now ds c.loop-each.each-index _ c.loop-each-test.true (sym c.delivers.ensures ∙ c.if-delivers.true) h

pub returns : goal.returns
returns c = λ ds h. noted_no (delivers c.args.a c.args.b c.args.k) c.args.done.now ds c.loop-each.each-index c.loop-each-test.false c.loop-each.invariant h
