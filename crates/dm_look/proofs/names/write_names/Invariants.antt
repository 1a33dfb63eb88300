use Rattle.dm_text.proofs.Names.{◌≡◌, ◌++◌}
use Rattle.std.specs.Prelude.{drop}
use Rattle.dm_look.specs.Names.{text_of_names}
use Rattle.dm_look.proofs.names.write_names.Given as goal

abbrev pub invariant-loop-process : goal.invariant-loop-process
invariant-loop-process l = l.into.items ++ text_of_names (drop l.process-index l.processes) ≡ l.initial.into.items ++ text_of_names l.processes
