use Rattle.dm_text.proofs.Names.{◌≤◌, ◌++◌, arith, length}
use Rattle.dm_look.specs.LetterText.{carried_text}
use Rattle.dm_look.proofs.Lettered.{carried_all, carried_next}
use Rattle.dm_look.proofs.letters.put_carried.Goals as goal

pub loop-place-preserved : goal.loop-place-preserved
loop-place-preserved c = carried_next c.args.id c.loop-place.place c.args.links.now _ c.args.into.now.items c.loop-place.into.items _ c.loop-place-test.true c.loop-place.invariant c.in_ok-put_linked.ensures.ok

pub returns : goal.returns
returns c =
    let past : length c.args.links.now ≤ c.loop-place.place = omega (arith, c.loop-place-test.false) in
    carried_all c.args.id c.loop-place.place c.args.links.now (c.args.into.now.items ++ carried_text c.args.id 0 c.args.links.now) c.loop-place.into.items past c.loop-place.invariant
