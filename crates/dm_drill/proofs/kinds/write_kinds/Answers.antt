use Rattle.dm_drill.proofs.Names.{◌++◌, ap, ◌∙◌, sym, append_assoc, append-nil, map, take, kind_line, kind_lines, kind_shown}
use Rattle.dm_drill.proofs.Tallied.{lines_more, lines_none}
use Rattle.dm_drill.proofs.kinds.write_kinds.Goals as goal

pub loop-tally-init : goal.loop-tally-init
loop-tally-init c = sym (ap (λ l. c.args.into.now.items ++ l) lines_none ∙ append-nil c.args.into.now.items)

pub loop-tally-preserved : goal.loop-tally-preserved
loop-tally-preserved c =
    let item = c.tally-item.result in
    c.in_ok-write_kind.ensures
    ∙ ap (λ l. l ++ kind_line (kind_shown item)) c.loop-tally.invariant
    ∙ append_assoc c.args.into.now.items (kind_lines (map kind_shown (take c.loop-tally.tally-index c.args.kinds.now))) (kind_line (kind_shown item))
    ∙ ap (λ t. c.args.into.now.items ++ (kind_lines (map kind_shown (take c.loop-tally.tally-index c.args.kinds.now)) ++ kind_line (kind_shown t))) c.tally-item.is
    ∙ ap (λ l. c.args.into.now.items ++ l) (sym (lines_more kind_shown c.args.kinds.now c.loop-tally.tally-index item c.loop-tally-test.true))
