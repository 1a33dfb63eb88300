-- The steps of a migration.
use Rattle.std.specs.Prelude.{Bool, true, false}
use Rattle.dm_line.specs.declared.line.Stage.{Stage}
use Rattle.dm_line.specs.declared.line.Stage.TheVariants as stage

-- a migration ends with this step: the process goes on where it has come
abbrev pub is_last : Stage → Bool
is_last stage.Frozen = false
is_last stage.Asked = false
is_last stage.Accepted = false
is_last stage.StateTaken = false
is_last stage.MemoryTaken = false
is_last stage.Left = false
is_last stage.Restarted = true
