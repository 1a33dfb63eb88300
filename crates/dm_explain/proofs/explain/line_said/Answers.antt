use Rattle.dm_explain.proofs.Names.{arith}
use Rattle.dm_explain.proofs.explain.line_said.Goals as goal

pub returns-in-Some : goal.returns-in-Some
returns-in-Some c =
    let from = c.in-Some.ensures.range in
    let within = c.requires in
    (c.in-Some.range.start, grind (arith, from, within), c.line_behind.ensures)
