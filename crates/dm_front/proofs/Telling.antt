-- What is said of a boot file is said of the system that it gives.
use Rattle.dm_front.proofs.Names.{◌≡◌, ℕ, List, subst, Option, Boot, Vec, Global, BootTold, TellsRead, ExplainsSystem, SaysBoot}
use Rattle.dm_explain.specs.declared.explain.BootTold.TheVariants as told_as
use Rattle.dm_front.proofs.Outcomes.{Files}

pub says_boot : (files : Option Files) (boot : List ℕ) (b : Boot) (text : List ℕ) → ExplainsSystem files boot b text → SaysBoot files boot b
says_boot files boot b text h = record { bytes = h.bytes; file = h.file; says = h.told.says }

-- what is said of a boot file that breaks no rule
pub system_told : (files : Option Files) (boot : List ℕ) (b : Boot) (text : Vec ℕ Global) (told : BootTold) → told ≡ told_as.System b text → TellsRead files boot told → ExplainsSystem files boot b text.items
system_told files boot b text told is h =
    let k : TellsRead files boot (told_as.System b text) = subst (TellsRead files boot) is h in
    record { bytes = k.bytes; file = k.file; told = k.explains }

pub system_says : (files : Option Files) (boot : List ℕ) (b : Boot) (text : Vec ℕ Global) (told : BootTold) → told ≡ told_as.System b text → TellsRead files boot told → SaysBoot files boot b
system_says files boot b text told is h = says_boot files boot b text.items (system_told files boot b text told is h)
