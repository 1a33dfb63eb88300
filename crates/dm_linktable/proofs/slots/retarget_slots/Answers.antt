use Rattle.dm_linktable.proofs.Names.{arith}
use Rattle.dm_linktable.proofs.Followed.{all_followed, none_behind}
use Rattle.dm_linktable.proofs.Plain.{plain_map_retargeted}
use Rattle.dm_linktable.proofs.slots.retarget_slots.Goals as goal

pub returns-clause-links : goal.returns-clause-links
returns-clause-links c = all_followed c.args.about c.args.at c.args.moves c.loop-left.left c.loop-left.slots c.args.slots.now (grind arith) (grind arith) c.loop-left.invariant.each

pub returns-clause-changed : goal.returns-clause-changed
returns-clause-changed c =
    let all = all_followed c.args.about c.args.at c.args.moves c.loop-left.left c.loop-left.slots c.args.slots.now (grind arith) (grind arith) c.loop-left.invariant.each in
    grind (arith, all, none_behind c.args.about c.args.at c.args.moves c.args.slots.now, c.loop-left.invariant.count)

pub returns-clause-plain : goal.returns-clause-plain
returns-clause-plain c =
    let all = all_followed c.args.about c.args.at c.args.moves c.loop-left.left c.loop-left.slots c.args.slots.now (grind arith) (grind arith) c.loop-left.invariant.each in
    rw all (plain_map_retargeted c.args.about c.args.at c.args.moves c.args.slots.now)
