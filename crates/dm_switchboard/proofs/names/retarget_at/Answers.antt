use Rattle.dm_switchboard.proofs.Imports.{sym, ap, ◌∙◌, set_value_at}
use Rattle.dm_switchboard.proofs.Following.{behind_set, told_set}
use Rattle.dm_switchboard.proofs.names.retarget_at.Goals as goal

pub returns-clause-names : goal.returns-clause-names
returns-clause-names c =
    ap (λ l. set_value_at c.args.names.now.entries c.args.place l) c.retarget.ensures.link
    ∙ told_set c.args.about c.args.at c.args.moves c.args.place c.args.names.now.entries _ c.pair_mut-link.ensures.value

pub returns-clause-changed : goal.returns-clause-changed
returns-clause-changed c = c.retarget.ensures.changed ∙ sym (behind_set c.args.about c.args.moves c.args.place c.args.names.now.entries _ c.pair_mut-link.ensures.value)
