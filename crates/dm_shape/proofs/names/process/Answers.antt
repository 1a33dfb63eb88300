use Rattle.dm_shape.proofs.Imports.{ap, sym, ◌∙◌, read_pid, pid_in}
use Rattle.dm_shape.proofs.Fitting.{split_some}
use Rattle.dm_shape.proofs.NamesRead.{pid_behind}
use Rattle.dm_shape.proofs.names.process.Goals as goal

pub returns-in-Some : goal.returns-in-Some
unfolding read_pid
returns-in-Some c =
    c.process_of.ensures
    ∙ sym (ap pid_in (split_some 46 c.args.word.now c.split.result.0.now c.split.result.1 c.in-Some.num c.split.ensures c.in-Some.is) ∙ pid_behind c.split.result.0.now c.in-Some.num.now)
