use Rattle.dm_chart.proofs.Names.{◌≡◌, ◌≤◌, take, count_by, is_put_line}
use Rattle.dm_chart.proofs.kept.messages_in.Given as goal

abbrev pub invariant-loop-line : goal.invariant-loop-line
invariant-loop-line l = record { same : l.count ≡ count_by is_put_line (take l.line-index l.group); most : l.count ≤ l.line-index }
