-- It stands under its number, or behind those that do.
use Rattle.dm_procman.proofs.Names.{sym, ◌∙◌}
use Rattle.dm_procman.proofs.Numbered.{none_under, taken_under}
use Rattle.dm_procman.proofs.pending.first_of.Goals as goal

pub returns-in-Some : goal.returns-in-Some
returns-in-Some c = sym (taken_under c.args.number c.args.ascending.now.entries c.args.others.now c.in-Some.request.now c.requires (sym c.in-Some.ensures.value)).0

pub returns-in-None : goal.returns-in-None
returns-in-None c = c.find.ensures ∙ sym (none_under c.args.number c.args.ascending.now.entries c.args.others.now c.requires (sym c.in-None.ensures.value)).0
