use Rattle.dm_drill.proofs.Names.{◌≡◌, take, shown, with_group_lines, All, LineFits}
use Rattle.dm_drill.proofs.counts.Counts.add_lines.Given as goal

abbrev pub invariant-loop-line : goal.invariant-loop-line
invariant-loop-line l = record {
  counted : shown l.self ≡ with_group_lines (shown l.initial.self) (take l.line-index l.lines);
  fits : All LineFits (take l.line-index l.lines);
}
