use Rattle.dm_explain.proofs.Names.{◌+◌, ◌++◌, List, ℕ, ap, concat, drop, map, sym, ◌∙◌}
use Rattle.dm_explain.specs.Naming.{number_told}
use Rattle.dm_explain.proofs.Pieces.{concat-end, concat-more}
use Rattle.dm_explain.proofs.naming.put_numbers.Goals as goal

pub loop-process-preserved : goal.loop-process-preserved
loop-process-preserved c =
    let told = number_told c.args.word.now in
    ap (λ (t : List ℕ). t ++ concat (map told (drop (c.loop-process.process-index + 1) c.args.processes.now))) c.in_ok-put_number.ensures
    ∙ (sym (concat-more told c.loop-process.into.items c.args.processes.now c.loop-process.process-index c.process-item.result c.loop-process-test.true c.process-item.is) ∙ c.loop-process.invariant)

pub returns : goal.returns
returns c = sym (concat-end (number_told c.args.word.now) c.loop-process.into.items c.args.processes.now c.loop-process.process-index c.loop-process-test.false) ∙ c.loop-process.invariant
