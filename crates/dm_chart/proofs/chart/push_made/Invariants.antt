use Rattle.dm_chart.proofs.Names.{◌≡◌, ◌++◌, drop, flat_map, made_in, role_of}
use Rattle.dm_chart.proofs.chart.push_made.Given as goal

abbrev pub invariant-loop-line : goal.invariant-loop-line
invariant-loop-line l = l.processes ++ flat_map (λ x. made_in (role_of x)) (drop l.line-index l.lines) ≡ l.initial.processes ++ flat_map (λ x. made_in (role_of x)) l.lines
