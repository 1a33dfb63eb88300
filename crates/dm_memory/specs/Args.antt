-- Why there are no words.
use Rattle.std.specs.Prelude.{◌≡◌}
use Rattle.dm_memory.specs.declared.NoMemory.{NoMemory}
use Rattle.dm_memory.specs.declared.of_args.ArgsError.{ArgsError}
use Rattle.dm_memory.specs.declared.of_args.ArgsError.TheVariants as why

-- there are none for want of memory
abbrev pub ArgsLackMemory : ArgsError → Type 0
ArgsLackMemory e = (none : NoMemory) × (e ≡ why.NoMemory none)
