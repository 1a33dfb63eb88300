-- Which files are asked for, in which order, and whose read fails.
use Rattle.std.specs.Prelude.{◌≡◌, ℕ, ◌⊎◌, List}
use Rattle.std.specs.declared.option.Option.{Option}
use Rattle.std.specs.declared.option.Option.TheVariants.{None, Some}
use Rattle.dm_onekernel.specs.declared.boot.Boot.{Boot}
use Rattle.dm_outside.specs.Outside.{RoseOrFull}
use Rattle.dm_ending.specs.declared.status.Input.{Input}
use Rattle.dm_ending.specs.declared.status.Input.TheVariants as input
use Rattle.dm_front.specs.Inputs.{SaysBoot}
use Rattle.dm_front.specs.Outside.{ShelfAround}

-- the files that are to be read, by their names: none, one, or a boot file and another behind it
pub data Named : Type 0 where
  Nothing : Named
  Alone : (which : Input) → (name : List ℕ) → Named
  Both : (boot : List ℕ) → (which : Input) → (name : List ℕ) → Named

-- the boot file was asked for, and says a system; then the other was asked for, and nothing else
pub record AsksBoth {F : Type 0} (f : ShelfAround F) (boot name : List ℕ) : Type 0 where
  pub b : Boot
  pub says : SaysBoot (f.told f.old) boot b
  pub between : F
  pub first : f.asked f.old boot between
  pub second : f.asked between name f.new

-- no file was asked for but these, and the second only where the first says a system
abbrev pub Asks : {F : Type 0} → Named → ShelfAround F → Type 0
Asks Nothing f = f.new ≡ f.old
Asks (Alone which name) f = f.asked f.old name f.new
Asks (Both boot which name) f = f.asked f.old boot f.new ⊎ AsksBoth f boot name

-- a read of the one file failed, and no other was asked for
pub record FailsAlone {F : Type 0} (which : Input) (name : List ℕ) (f : ShelfAround F) (i : Input) : Type 0 where
  pub is : i ≡ which
  pub asked : f.asked f.old name f.new
  pub rose : RoseOrFull (f.faults f.old) (f.faults f.new)

-- the boot file says a system, and then a read of the other failed
pub record FailsSecond {F : Type 0} (boot : List ℕ) (which : Input) (name : List ℕ) (f : ShelfAround F) (i : Input) : Type 0 where
  pub is : i ≡ which
  pub asked : AsksBoth f boot name
  pub rose : RoseOrFull (f.faults asked.between) (f.faults f.new)

-- a read of this one failed
abbrev pub Fails : {F : Type 0} → Named → ShelfAround F → Input → Type 0
Fails Nothing f i = ⊥
Fails (Alone which name) f i = FailsAlone which name f i
Fails (Both boot which name) f i = FailsAlone input.Boot boot f i ⊎ FailsSecond boot which name f i

-- a boot file, and a schedule where there is one
abbrev pub perhaps_both : List ℕ → Option (List ℕ) → Named
perhaps_both boot None = Alone input.Boot boot
perhaps_both boot (Some schedule) = Both boot input.Schedule schedule
