-- What a command promises that reads a boot file alone.
use Rattle.std.specs.Prelude.{◌≡◌, ℕ, ◌⊎◌, List}
use Rattle.std.specs.declared.option.Option.{Option}
use Rattle.std.specs.declared.option.Option.TheVariants.{Some}
use Rattle.dm_ending.specs.declared.status.Status.{Status}
use Rattle.dm_ending.specs.Status.{IsWant}
use Rattle.dm_front.specs.Inputs.{NoBoot}
use Rattle.dm_front.specs.Outside.{NeverReadsBadly, Outside}

-- a file that gives no system is refused for the reason that there is, unless memory lacks
abbrev pub RefusesSystem : List ℕ → Outside → Status → Type 0
RefusesSystem boot o s =
    (files : List ℕ → Option (List ℕ)) (due : Status) → o.files ≡ Some files
    → NoBoot (Some files) boot o.reads_before o.reads_after due → (IsWant due → ⊥) → NeverReadsBadly o → (s ≡ due) ⊎ IsWant s
