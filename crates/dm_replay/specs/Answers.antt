-- What the code answers, over what there is of a step.
use Rattle.std.specs.Prelude.{◌≡◌, ⊤}
use Rattle.std.specs.declared.option.Option.{Option}
use Rattle.std.specs.declared.option.Option.TheVariants.{None}
use Rattle.std.specs.declared.result.Result.{Result}
use Rattle.std.specs.declared.result.Result.TheVariants.{Ok, Err}
use Rattle.dm_replay.specs.declared.kernel.Refusal.{Refusal}
use Rattle.dm_replay.specs.declared.kernel.Refusal.TheVariants as no

-- a refusal says that there is nothing, want of memory says nothing
abbrev pub IsRefused : {B : Type 0} → Refusal → Option B → Type 0
IsRefused no.NoStep wanted = wanted ≡ None
IsRefused (no.NoMemory e) wanted = ⊤

-- there is what the value means, or nothing and it is refused, or there is no memory
abbrev pub Gives : {A B : Type 0} → Result A Refusal → (A → Option B) → Option B → Type 0
Gives (Ok x) meaning wanted = wanted ≡ meaning x
Gives (Err e) meaning wanted = IsRefused e wanted
