use Rattle.dm_explain.proofs.Names.{sym, ◌∙◌, place_in, source_words}
use Rattle.dm_explain.proofs.TextFaults.{operands-here}
use Rattle.dm_explain.proofs.program.refusals.operands_why.Goals as goal

pub returns-in-Some-operand_why : goal.returns-in-Some-operand_why
returns-in-Some-operand_why c =
    sym (operands-here (place_in c.args.labels.now) c.args.at c.args.takes c.loop-word.place (source_words c.loop-word.rest.now) c.in-Some.word.now (source_words c.in-Some.others.now) c.in-Some-operand_why.why c.in-Some.ensures.some (sym c.in-Some-operand_why.ensures))
    ∙ c.loop-word.invariant.same
