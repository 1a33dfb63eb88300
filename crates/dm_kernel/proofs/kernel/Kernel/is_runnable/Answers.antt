use Rattle.dm_kernel.proofs.Names.{◌∙◌, ap, sym, at, option_copied}
use Rattle.dm_kernel.proofs.Known.{here_runs, none_runs}
use Rattle.dm_kernel.proofs.kernel.Kernel.is_runnable.Goals as goal

pub returns-in-Some : goal.returns-in-Some
returns-in-Some c =
    c.is_runnable.ensures ∙ sym (here_runs (at c.args.self.now.records c.args.pid) c.in-Some.process.now (sym c.process.ensures ∙ ap option_copied c.in-Some.is))

pub returns-in-None : goal.returns-in-None
returns-in-None c = sym (none_runs (at c.args.self.now.records c.args.pid) (sym c.process.ensures ∙ ap option_copied c.in-None.is))
