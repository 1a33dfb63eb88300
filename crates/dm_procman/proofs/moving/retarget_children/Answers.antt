use Rattle.dm_procman.proofs.Names.{◌≡◌, length, get_or, set, ap, ◌∙◌, arith, Addr, is_behind, retargeted}
use Rattle.dm_procman.proofs.Following.{all_counted, all_followed, counted, counted_next, counted_within, followed, later_followed, set_followed}
use Rattle.dm_procman.proofs.moving.retarget_children.Goals as goal
use Rattle.dm_procman.proofs.moving.retarget_children.Goals.{then-retarget, else-retarget}

-- what stands behind the end
abbrev nothing : Addr
nothing = record { pid = record { home = 0; num = 0 }; at = 0; moves = 0 }

pub loop-child-preserved : goal.loop-child-preserved
loop-child-preserved c =
    let told = c.loop-child.invariant.told in
    let behind = c.retarget.ensures.changed ∙ ap (λ xs. is_behind c.args.about c.args.moves (get_or xs c.loop-child.child-index nothing)) told ∙ ap (is_behind c.args.about c.args.moves) (later_followed (retargeted c.args.about c.args.at c.args.moves) c.loop-child.child-index c.args.children.now nothing) in
    let next = counted_next (is_behind c.args.about c.args.moves) c.loop-child.child-index c.args.children.now nothing c.loop-child-test.true in
    record {
      told = ap (λ v. set c.loop-child.children c.loop-child.child-index v) c.retarget.ensures.addr ∙ ap (λ xs. set xs c.loop-child.child-index (retargeted c.args.about c.args.at c.args.moves (get_or xs c.loop-child.child-index nothing))) told ∙ set_followed (retargeted c.args.about c.args.at c.args.moves) c.loop-child.child-index c.args.children.now nothing c.loop-child-test.true;
      changed = elim c.if-retarget.branch [
        | then-retarget w ↦ grind (arith, w.changed-is, w.if-retarget.true, behind, next, c.loop-child.invariant.changed)
        | else-retarget w ↦ grind (arith, w.changed-is, w.if-retarget.false, behind, next, c.loop-child.invariant.changed)
      ];
    }

pub overflow_add-changed : goal.overflow_add-changed
overflow_add-changed c = omega (arith, c.loop-child.invariant.changed, counted_within (is_behind c.args.about c.args.moves) c.loop-child.child-index c.args.children.now, c.loop-child-test.true, c.requires)

pub returns-clause-children : goal.returns-clause-children
returns-clause-children c =
    let end : c.loop-child.child-index ≡ length c.args.children.now = omega (arith, c.loop-child.auto.child-index-end, c.loop-child-test.false) in
    c.loop-child.invariant.told ∙ ap (λ n. followed (retargeted c.args.about c.args.at c.args.moves) n c.args.children.now) end ∙ all_followed (retargeted c.args.about c.args.at c.args.moves) c.args.children.now

pub returns-clause-changed : goal.returns-clause-changed
returns-clause-changed c =
    let end : c.loop-child.child-index ≡ length c.args.children.now = omega (arith, c.loop-child.auto.child-index-end, c.loop-child-test.false) in
    c.loop-child.invariant.changed ∙ ap (λ n. counted (is_behind c.args.about c.args.moves) n c.args.children.now) end ∙ all_counted (is_behind c.args.about c.args.moves) c.args.children.now
