use Rattle.dm_check.proofs.Names.{ap, sym, ◌∙◌, pieces, split_some, some_piece, first_line, head_of_line}
use Rattle.dm_check.proofs.Judging.{first_of}
use Rattle.dm_check.proofs.trace.first_head.Goals as goal

pub returns-in-Some : goal.returns-in-Some
returns-in-Some c =
    c.head.ensures
    ∙ sym (ap (λ ps. head_of_line (first_line ps)) (split_some 10 c.args.text.now c.split.result.0.now c.split.result.1 c.in-Some.field-0 c.split.ensures c.in-Some.is)
    ∙ ap head_of_line (first_of c.split.result.0.now (pieces 10 c.in-Some.field-0.now) (some_piece 10 c.in-Some.field-0.now)))
