-- Why there is no document.
use Rattle.std.specs.Prelude.{◌≡◌}
use Rattle.dm_memory.specs.declared.NoMemory.{NoMemory}
use Rattle.dm_memory.specs.declared.of_toml.DocumentError.{DocumentError}
use Rattle.dm_memory.specs.declared.of_toml.DocumentError.TheVariants as why

-- there is none for want of memory
abbrev pub DocumentLacksMemory : DocumentError → Type 0
DocumentLacksMemory e = (none : NoMemory) × (e ≡ why.NoMemory none)
