-- What a kernel remembers of its ring: so many processes at the front can't be served.
use Rattle.std.specs.Prelude.{◌≡◌, ℕ, List, take}
use Rattle.std.specs.declared.option.Option.{Option}
use Rattle.std.specs.declared.option.Option.TheVariants.{None}
use Rattle.dm_link.specs.declared.Pid.{Pid}
use Rattle.dm_records.specs.Records.{at}
use Rattle.dm_kernel.specs.declared.kernel.Kernel.{Kernel}
use Rattle.dm_kernel.specs.State.{KernelKnown}
use Rattle.dm_kernel.specs.Turn.{first_runnable}

-- none of the first n can be served
abbrev pub AreIdle : (Pid → Option KernelKnown) → List Pid → ℕ → Type 0
AreIdle records ring n = first_runnable records (take n ring) ≡ None

-- what the kernel remembers is so
abbrev pub KnowsIdle : Kernel → Type 0
KnowsIdle k = AreIdle (at k.records) k.ring k.idle
