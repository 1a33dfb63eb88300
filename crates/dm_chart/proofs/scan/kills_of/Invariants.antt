use Rattle.dm_chart.proofs.Names.{◌≡◌, ◌++◌, drop, flat_map, kill_in, role_of}
use Rattle.dm_chart.proofs.scan.kills_of.Given as goal

abbrev pub invariant-loop-line : goal.invariant-loop-line
invariant-loop-line l = l.ids ++ flat_map (λ x. kill_in l.pid (role_of x)) (drop l.line-index l.lines) ≡ flat_map (λ x. kill_in l.pid (role_of x)) l.lines
