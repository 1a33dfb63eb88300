use Rattle.dm_linktable.proofs.Names.{sym, ◌∙◌, ap, first_empty}
use Rattle.dm_linktable.proofs.Tables.{first_is_empty}
use Rattle.dm_linktable.proofs.Table.put.Goals as goal

pub place-requires-clause-empty : goal.place-requires-clause-empty
place-requires-clause-empty c =
    first_is_empty c.args.self.now c.in-Some.slot (ap first_empty (sym c.self.view_is ∙ sym c.deref.ensures.value) ∙ sym c.first_free.ensures ∙ c.in-Some.is)
