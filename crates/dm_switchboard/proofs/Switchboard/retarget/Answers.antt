use Rattle.dm_switchboard.proofs.Imports.{sym, subst, ap, ◌∙◌, map, All, Board, plain_named, retargeted_named, IsLawfulNamed}
use Rattle.dm_switchboard.proofs.Lawful.{retargeted_lawful}
use Rattle.dm_switchboard.proofs.Plain.{plain_retargeted}
use Rattle.dm_switchboard.proofs.Switchboard.retarget.Goals as goal

pub returns-clause-plain : goal.returns-clause-plain
returns-clause-plain c =
    let told = c.retarget_names.ensures.names ∙ ap (λ (b : Board). map (retargeted_named c.args.about c.args.at c.args.moves) b.names) c.self.view_is in
    λ i. record {
      names = (ap (map plain_named) told ∙ plain_retargeted c.args.about c.args.at c.args.moves c.args.self.now.names) i;
      sent = ap (λ (b : Board). b.sent) c.self.view_is i;
    }

pub returns-clause-lawful : goal.returns-clause-lawful
returns-clause-lawful c m l =
    let told = c.retarget_names.ensures.names ∙ ap (λ (b : Board). map (retargeted_named c.args.about c.args.at c.args.moves) b.names) c.self.view_is in
    subst (All IsLawfulNamed) (sym told) (retargeted_lawful c.args.about c.args.at c.args.moves c.args.self.now.names m l)
