use Rattle.dm_chart.proofs.Names.{◌≡◌, ◌≤◌, drop, spot_behind, first_spot}
use Rattle.dm_chart.proofs.kept.rows_in.Given as goal

abbrev pub invariant-loop-line : goal.invariant-loop-line
invariant-loop-line l = record { same : spot_behind l.spot (drop l.line-index l.group) ≡ spot_behind (first_spot 0) l.group; most : l.spot.row ≤ 1200 }
