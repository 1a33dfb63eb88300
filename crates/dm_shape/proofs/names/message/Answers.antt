use Rattle.dm_shape.proofs.Imports.{ap, sym, ◌∙◌, read_id, id_in}
use Rattle.dm_shape.proofs.Fitting.{split_some}
use Rattle.dm_shape.proofs.NamesRead.{id_behind}
use Rattle.dm_shape.proofs.names.message.Goals as goal

pub returns-in-Some : goal.returns-in-Some
unfolding read_id
returns-in-Some c =
    c.numbered.ensures
    ∙ sym (ap id_in (split_some 35 c.args.word.now c.split.result.0.now c.split.result.1 c.in-Some.n c.split.ensures c.in-Some.is) ∙ id_behind c.split.result.0.now c.in-Some.n.now)
