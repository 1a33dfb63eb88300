use Rattle.dm_shape.proofs.Imports.{ap, sym, ◌∙◌, message_numbered, read_pid}
use Rattle.dm_shape.proofs.Fitting.{split_some}
use Rattle.dm_shape.proofs.NamesRead.{numbered_last, numbered_more}
use Rattle.dm_shape.proofs.names.numbered.Goals as goal

pub returns-then-is_empty : goal.returns-then-is_empty
returns-then-is_empty c =
    c.message_of-then-is_empty.ensures
    ∙ sym (ap (message_numbered (read_pid c.args.from.now)) (split_some 33 c.args.n.now c.split.result.0.now c.split.result.1 c.in-Some.rest c.split.ensures c.in-Some.is)
    ∙ numbered_last (read_pid c.args.from.now) c.split.result.0.now c.in-Some.rest.now (sym c.is_empty.ensures ∙ c.if-is_empty.true))

pub returns-else-is_empty : goal.returns-else-is_empty
returns-else-is_empty c =
    sym (ap (message_numbered (read_pid c.args.from.now)) (split_some 33 c.args.n.now c.split.result.0.now c.split.result.1 c.in-Some.rest c.split.ensures c.in-Some.is)
    ∙ numbered_more (read_pid c.args.from.now) c.split.result.0.now c.in-Some.rest.now (sym c.is_empty.ensures ∙ c.if-is_empty.false))
