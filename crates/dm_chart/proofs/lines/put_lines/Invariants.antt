use Rattle.dm_chart.proofs.Names.{◌≡◌, [], ◌++◌, length, take, drop, all_drawn, shapes_from, first_spot}
use Rattle.std.proofs.Common.{◌≤◌}
use Rattle.dm_chart.proofs.NotShown.{IsBefore}
use Rattle.dm_chart.proofs.lines.put_lines.Given as goal

abbrev pub invariant-loop-i : goal.invariant-loop-i
invariant-loop-i l = record {
  drawn : l.into.items ++ all_drawn l.frame (shapes_from l.frame.rows l.lines (take l.i l.lines) l.spot (drop l.i l.lines)) ≡ l.initial.into.items ++ all_drawn l.frame (shapes_from l.frame.rows l.lines [] (first_spot l.frame.hidden) l.lines);
  before : l.i ≤ length l.left → IsBefore l.frame.hidden l.i l.spot;
}
