use Rattle.dm_procman.proofs.Names.{◌≡◌, length, get_or, set, ap, ◌∙◌, arith, None, Pending, pending_is_behind, retargeted_pending}
use Rattle.dm_procman.proofs.Following.{all_counted, all_followed, counted, counted_next, counted_within, followed, later_followed, set_followed}
use Rattle.dm_onekernel.specs.declared.request.PendingKind.TheVariants as wanted
use Rattle.dm_procman.proofs.moving.retarget_pending.Goals as goal
use Rattle.dm_procman.proofs.moving.retarget_pending.Goals.{then-retarget_answer, else-retarget_answer}

-- what stands behind the end
abbrev nothing : Pending
nothing = record { n = 0; kind = wanted.Create; answer = None }

pub loop-request-preserved : goal.loop-request-preserved
loop-request-preserved c =
    let told = c.loop-request.invariant.told in
    let behind =
    c.retarget_answer.ensures.changed
    ∙ ap (λ xs. pending_is_behind c.args.about c.args.moves (get_or xs c.loop-request.request-index nothing)) told
    ∙ ap (pending_is_behind c.args.about c.args.moves) (later_followed (retargeted_pending c.args.about c.args.at c.args.moves) c.loop-request.request-index c.args.pending.now nothing)
    in
    let next = counted_next (pending_is_behind c.args.about c.args.moves) c.loop-request.request-index c.args.pending.now nothing c.loop-request-test.true in
    record {
      told = ap (set c.loop-request.pending c.loop-request.request-index) c.retarget_answer.ensures.request
          ∙ ap (λ xs. set xs c.loop-request.request-index (retargeted_pending c.args.about c.args.at c.args.moves (get_or xs c.loop-request.request-index nothing))) told
          ∙ set_followed (retargeted_pending c.args.about c.args.at c.args.moves) c.loop-request.request-index c.args.pending.now nothing c.loop-request-test.true;
      changed = elim c.if-retarget_answer.branch [
        | then-retarget_answer w ↦ grind (arith, w.changed-is, w.if-retarget_answer.true, behind, next, c.loop-request.invariant.changed)
        | else-retarget_answer w ↦ grind (arith, w.changed-is, w.if-retarget_answer.false, behind, next, c.loop-request.invariant.changed)
      ];
    }

pub overflow_add-changed : goal.overflow_add-changed
overflow_add-changed c = omega (arith, c.loop-request.invariant.changed, counted_within (pending_is_behind c.args.about c.args.moves) c.loop-request.request-index c.args.pending.now, c.loop-request-test.true, c.requires)

pub returns-clause-pending : goal.returns-clause-pending
returns-clause-pending c =
    let end : c.loop-request.request-index ≡ length c.args.pending.now = omega (arith, c.loop-request.auto.request-index-end, c.loop-request-test.false) in
    c.loop-request.invariant.told ∙ ap (λ n. followed (retargeted_pending c.args.about c.args.at c.args.moves) n c.args.pending.now) end ∙ all_followed (retargeted_pending c.args.about c.args.at c.args.moves) c.args.pending.now

pub returns-clause-changed : goal.returns-clause-changed
returns-clause-changed c =
    let end : c.loop-request.request-index ≡ length c.args.pending.now = omega (arith, c.loop-request.auto.request-index-end, c.loop-request-test.false) in
    c.loop-request.invariant.changed ∙ ap (λ n. counted (pending_is_behind c.args.about c.args.moves) n c.args.pending.now) end ∙ all_counted (pending_is_behind c.args.about c.args.moves) c.args.pending.now
