use Rattle.dm_shape.proofs.Imports.{ap, sym, ◌∙◌, alone}
use Rattle.dm_shape.proofs.Fitting.{alone_more, behind_some, split_some}
use Rattle.dm_shape.proofs.head.only_one.Goals as goal

pub returns-in-Some : goal.returns-in-Some
returns-in-Some c =
    sym (ap alone (behind_some 32 c.args.words c.in_ok-words.field-0 c.in_ok-words.was ∙ split_some 32 c.in_ok-words.field-0.now c.split.result.0.now c.split.result.1 c.in-Some.field-0 c.split.ensures c.in-Some.is)
    ∙ alone_more c.split.result.0.now c.in-Some.field-0.now)
