use Rattle.dm_switchboard.proofs.Imports.{ap, ◌∙◌, found_or_unknown}
use Rattle.dm_switchboard.proofs.Entries.{look_up_listed}
use Rattle.dm_switchboard.proofs.names.look_up.Goals as goal

pub returns-in-Some : goal.returns-in-Some
returns-in-Some c = c.found.ensures ∙ ap found_or_unknown (c.in-Some.ensures.value ∙ look_up_listed c.args.name.now.items c.args.names.now.entries)

pub returns-in-None : goal.returns-in-None
returns-in-None c = ap found_or_unknown (c.in-None.ensures.value ∙ look_up_listed c.args.name.now.items c.args.names.now.entries)
