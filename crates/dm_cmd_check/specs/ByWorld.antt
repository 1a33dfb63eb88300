-- What is said of a trace by the machines.
use Rattle.dm_check.specs.Good.{IsPrinted}
use Rattle.dm_check.specs.Judged.{DueIn}
use Rattle.dm_check.specs.Says.{ComesTo}
use Rattle.dm_cmd_check.specs.Checks.{TraceMeans}

abbrev pub traced_by_world : TraceMeans
traced_by_world = record { comes_to = ComesTo; is_of = IsPrinted; due_in = DueIn }
