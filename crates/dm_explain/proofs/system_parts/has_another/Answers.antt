use Rattle.dm_explain.proofs.Names.{sym, ◌∙◌}
use Rattle.dm_explain.proofs.Loops.{another-end, another-here, another-more}
use Rattle.dm_explain.proofs.system_parts.has_another.Goals as goal

pub returns-then-is_later : goal.returns-then-is_later
returns-then-is_later c =
    sym (another-here c.args.last c.args.numbers.now c.loop-place.place _ c.loop-place-test.true (sym c.is_later.ensures ∙ c.if-is_later.true)) ∙ c.loop-place.invariant

pub loop-place-preserved : goal.loop-place-preserved
loop-place-preserved c =
    sym (another-more c.args.last c.args.numbers.now c.loop-place.place _ c.loop-place-test.true (sym c.is_later.ensures ∙ c.if-is_later.false)) ∙ c.loop-place.invariant

pub returns : goal.returns
returns c = sym (another-end c.args.last c.args.numbers.now c.loop-place.place c.loop-place-test.false) ∙ c.loop-place.invariant
