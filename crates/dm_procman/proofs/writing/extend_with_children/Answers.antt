use Rattle.dm_procman.proofs.Names.{◌≤◌, ◌++◌, ◌∙◌, length, get_or, take, ap, subst, arith}
use Rattle.std.specs.List.{All, flat_map}
use Rattle.std.proofs.lemmas.List.{take_all}
use Rattle.dm_packet.specs.Fields.{addr}
use Rattle.dm_packet.specs.Widths.{FitsAddr}
use Rattle.dm_packet.proofs.Writes.{all_next, pieces_next, then_put}
use Rattle.dm_procman.proofs.Loops.{no_child}
use Rattle.dm_procman.proofs.writing.extend_with_children.Goals as goal

pub loop-child-preserved : goal.loop-child-preserved
loop-child-preserved c =
    let xs = c.args.children.now in
    let l = c.loop-child in
    let put = then_put c.args.out.now.items l.out.items c.extend_with_child.new.out.items (flat_map addr.spell (take l.child-index xs)) (addr.spell (get_or xs l.child-index no_child)) l.invariant.0 c.in_ok-extend_with_child.ensures.ok in
    (rw (pieces_next addr.spell xs l.child-index no_child c.loop-child-test.true) put, all_next FitsAddr xs l.child-index no_child c.loop-child-test.true l.invariant.1 c.in_ok-extend_with_child.ensures.fits)

pub returns-clause-ok : goal.returns-clause-ok
returns-clause-ok c =
    let xs = c.args.children.now in
    let past : length xs ≤ c.loop-child.child-index = omega (arith, c.loop-child-test.false) in
    c.loop-child.invariant.0 ∙ ap (λ ys. c.args.out.now.items ++ flat_map addr.spell ys) (take_all c.loop-child.child-index xs past)

pub returns-clause-fits : goal.returns-clause-fits
returns-clause-fits c =
    let xs = c.args.children.now in
    let past : length xs ≤ c.loop-child.child-index = omega (arith, c.loop-child-test.false) in
    subst (All FitsAddr) (take_all c.loop-child.child-index xs past) c.loop-child.invariant.1
