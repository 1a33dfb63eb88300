use Rattle.dm_check.proofs.Names.{ap, sym, ◌∙◌, pieces, some_piece, falls_as_step, judged_from}
use Rattle.dm_check.specs.Judge as judge
use Rattle.dm_check.proofs.Judging.{at_text_end, falls_from}
use Rattle.dm_check.proofs.follow.behind_fewer.Goals as goal

pub returns-in-Nothing : goal.returns-in-Nothing
returns-in-Nothing c = λ k number.
    ap (λ t. judged_from k (judge.Nothing c.args.pid) number (pieces 10 t)) c.in-Nothing.ensures ∙ at_text_end k (judge.Nothing c.args.pid) number

pub returns-in-Line : goal.returns-in-Line
returns-in-Line c = λ k number.
    ap (judged_from k (judge.Nothing c.args.pid) number) c.in-Line.ensures.0
    ∙ falls_from k (judge.Nothing c.args.pid) c.step_fault.result number c.in-Line.line.now (pieces 10 c.in-Line.field-1.now) (some_piece 10 c.in-Line.field-1.now) c.in-Line.ensures.1
    (sym (c.step_fault.ensures ∙ ap falls_as_step c.tells_call.ensures))
