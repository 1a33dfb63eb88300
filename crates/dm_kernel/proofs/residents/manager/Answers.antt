-- What is here is that, or it isn't.
use Rattle.dm_kernel.proofs.Names.{◌∙◌, ap, sym, at, bind, option_copied, manager_of, manager}
use Rattle.dm_kernel.proofs.Standing.{manager_by}
use Rattle.dm_kernel.proofs.residents.manager.Goals as goal

pub returns-in-Some : goal.returns-in-Some
returns-in-Some c = c.manager.ensures ∙ sym (manager_by (at c.args.records.now manager) ∙ ap (λ h. bind h manager_of) (sym c.here.ensures ∙ ap option_copied c.in-Some.is))

pub returns-in-None : goal.returns-in-None
returns-in-None c = sym (manager_by (at c.args.records.now manager) ∙ ap (λ h. bind h manager_of) (sym c.here.ensures ∙ ap option_copied c.in-None.is))
