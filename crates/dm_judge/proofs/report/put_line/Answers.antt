use Rattle.dm_judge.proofs.Names.{◌≤◌, length, arith, nat_tests}
use Rattle.dm_judge.proofs.Pieces.{taken}
use Rattle.dm_judge.proofs.report.put_line.Goals as goal

pub slice_bounds-first-end : goal.slice_bounds-first-end
slice_bounds-first-end c =
    let most : 95 ≤ length c.args.line.now = first_of (omega (arith, c.if-line-le-LONGEST_TOLD.false), grind (arith, nat_tests, c.if-line-le-LONGEST_TOLD.false)) in
    taken 95 c.args.line.now most
