-- The numbers of what may be wrong with a line of a trace.
use Rattle.std.specs.Prelude.{ℕ}
use Rattle.dm_check.specs.declared.fault.TraceFault.{TraceFault}
use Rattle.dm_check.specs.declared.fault.TraceFault.TheVariants.{NotALine, NotDue, NotAStep, NotTheEnd}

abbrev pub number_of_trace_fault : TraceFault → ℕ
number_of_trace_fault NotALine = 1
number_of_trace_fault NotDue = 2
number_of_trace_fault NotAStep = 3
number_of_trace_fault NotTheEnd = 4
