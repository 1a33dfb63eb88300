use Rattle.dm_chart.proofs.Names.{◌≡◌, None, drop, news_from}
use Rattle.dm_chart.proofs.scan.news_of.Given as goal

abbrev pub invariant-loop-line : goal.invariant-loop-line
invariant-loop-line l = news_from l.id l.last (drop l.line-index l.lines) ≡ news_from l.id None l.lines
