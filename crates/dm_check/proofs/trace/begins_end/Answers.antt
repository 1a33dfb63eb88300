use Rattle.dm_check.proofs.Names.{rules, ◌≡◌, codes, ap, sym, ◌∙◌, bytes_eq, pieces, split_some, some_piece, first_line, is_final}
use Rattle.dm_check.proofs.Judging.{first_of}
use Rattle.dm_check.proofs.trace.begins_end.Goals as goal

pub returns-in-Some : goal.returns-in-Some
returns-in-Some c =
    let same : c.eq.result ≡ bytes_eq c.split.result.0.now (codes "final") = search rules in
    same
    ∙ sym (ap (λ ps. is_final (first_line ps)) (split_some 10 c.args.text.now c.split.result.0.now c.split.result.1 c.in-Some.field-0 c.split.ensures c.in-Some.is)
    ∙ ap is_final (first_of c.split.result.0.now (pieces 10 c.in-Some.field-0.now) (some_piece 10 c.in-Some.field-0.now)))
