-- What is here is that, or it isn't.
use Rattle.dm_kernel.proofs.Names.{◌∙◌, ap, sym, at, bind, option_copied, process_of}
use Rattle.dm_kernel.proofs.Standing.{process_by}
use Rattle.dm_kernel.proofs.residents.process.Goals as goal

pub returns-in-Some : goal.returns-in-Some
returns-in-Some c = c.process.ensures ∙ sym (process_by (at c.args.records.now c.args.pid) ∙ ap (λ h. bind h process_of) (sym c.here.ensures ∙ ap option_copied c.in-Some.is))

pub returns-in-None : goal.returns-in-None
returns-in-None c = sym (process_by (at c.args.records.now c.args.pid) ∙ ap (λ h. bind h process_of) (sym c.here.ensures ∙ ap option_copied c.in-None.is))
