use Rattle.dm_switchboard.proofs.Imports.{◌≡◌, length, ap, ◌∙◌, arith, listed, behind_at, counted, followed, told_at}
use Rattle.dm_switchboard.proofs.Following.{all_counted, all_followed, behind_later, counted_next, counted_within, length_followed, told_next}
use Rattle.dm_switchboard.proofs.names.retarget_names.Goals as goal
use Rattle.dm_switchboard.proofs.names.retarget_names.Goals.{then-retarget_at, else-retarget_at}

pub retarget_at-requires : goal.retarget_at-requires
retarget_at-requires c =
    let len : length c.loop-place.names.entries ≡ length c.args.names.now.entries = ap length c.loop-place.invariant.names ∙ length_followed c.args.about c.args.at c.args.moves c.loop-place.place c.args.names.now.entries in
    omega (arith, len, c.loop-place-test.true, c.len-place-end.ensures.len)

pub overflow_add-changed : goal.overflow_add-changed
overflow_add-changed c = omega (arith, c.loop-place.invariant.changed, counted_within c.args.about c.args.moves c.loop-place.place c.args.names.now.entries, c.loop-place-test.true, c.len-place-end.ensures.len, c.requires)

pub loop-place-preserved : goal.loop-place-preserved
loop-place-preserved c =
    let behind = c.retarget_at.ensures.changed ∙ ap (behind_at c.args.about c.args.moves c.loop-place.place) c.loop-place.invariant.names ∙ behind_later c.args.about c.args.at c.args.moves c.loop-place.place c.args.names.now.entries in
    let next = counted_next c.args.about c.args.moves c.loop-place.place c.args.names.now.entries in
    record {
      names = c.retarget_at.ensures.names ∙ ap (told_at c.args.about c.args.at c.args.moves c.loop-place.place) c.loop-place.invariant.names ∙ told_next c.args.about c.args.at c.args.moves c.loop-place.place c.args.names.now.entries;
      changed = elim c.if-retarget_at.branch [
        | then-retarget_at w ↦ grind (arith, w.changed-is, w.if-retarget_at.true, behind, next, c.loop-place.invariant.changed)
        | else-retarget_at w ↦ grind (arith, w.changed-is, w.if-retarget_at.false, behind, next, c.loop-place.invariant.changed)
      ];
    }

pub returns-clause-names : goal.returns-clause-names
returns-clause-names c =
    let end : c.loop-place.place ≡ length c.args.names.now.entries = omega (arith, c.loop-place.auto.place-end, c.loop-place-test.false, c.len-place-end.ensures.len) in
    ap listed (c.loop-place.invariant.names ∙ ap (λ n. followed c.args.about c.args.at c.args.moves n c.args.names.now.entries) end) ∙ all_followed c.args.about c.args.at c.args.moves c.args.names.now.entries

pub returns-clause-changed : goal.returns-clause-changed
returns-clause-changed c =
    let end : c.loop-place.place ≡ length c.args.names.now.entries = omega (arith, c.loop-place.auto.place-end, c.loop-place-test.false, c.len-place-end.ensures.len) in
    c.loop-place.invariant.changed ∙ ap (λ n. counted c.args.about c.args.moves n c.args.names.now.entries) end ∙ all_counted c.args.about c.args.moves c.args.names.now.entries
