-- What is said behind the groups of a run that is counted.
use Rattle.std.specs.Prelude.{ℕ, Bool, List, ◌++◌}
use Rattle.dm_drill.specs.declared.report.Report.{Report}
use Rattle.dm_drill.specs.declared.report.Report.TheVariants as report
use Rattle.dm_drill.specs.Kinds.{kind_lines}
use Rattle.dm_drill.specs.Summary.{arrivals, moves, quiet_line, summary, traffic}
use Rattle.dm_drill.specs.Totals.{Totals}

-- the counts of a run, then those of each kind of message that was put, then whether all has come to rest
unfoldable pub counts_told : Totals → Bool → List ℕ
counts_told t quiet = traffic t ++ arrivals t ++ moves t ++ kind_lines t.kinds ++ quiet_line quiet

-- a row a report
abbrev pub told : Report → Totals → Bool → List ℕ
told (report.OfDrill seed machines lines) t quiet = summary seed machines lines t quiet
told report.OfRun t quiet = counts_told t quiet
