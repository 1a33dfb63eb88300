-- What `explain` says of a boot file, and how a text that was made is written.
use Rattle.std.specs.Prelude.{◌≡◌, ⊤, ℕ, ◌⊎◌, List}
use Rattle.std.specs.declared.option.Option.{Option}
use Rattle.dm_onekernel.specs.declared.boot.Boot.{Boot}
use Rattle.dm_boot.specs.declared.rules.BootRule.{BootRule}
use Rattle.dm_boot.specs.Rules.{rule_number}
use Rattle.dm_outside.specs.Outside.{RoseOrFull, appended}
use Rattle.dm_run.specs.Appended.{IsCutShort}
use Rattle.dm_explain.specs.declared.explain.BootTold.{BootTold}
use Rattle.dm_explain.specs.Explained.{ExplainsBoot, TellsBoot, TellsRefused}
use Rattle.dm_ending.specs.declared.status.Status.{Status}
use Rattle.dm_ending.specs.declared.status.Status.TheVariants.{WriteFault, BootRefused}
use Rattle.dm_front.specs.Inputs.{HasFile, most_boot}

-- the bytes of the boot file of this name, and what is said of them
pub record TellsRead (files : Option (List ℕ → Option (List ℕ))) (name : List ℕ) (told : BootTold) : Type 0 where
  pub bytes : List ℕ
  pub file : HasFile files name most_boot bytes
  pub explains : ExplainsBoot bytes told

-- it breaks the rule of this number at this place, and that is said
pub record ExplainsBroken (files : Option (List ℕ → Option (List ℕ))) (name : List ℕ) (number place : ℕ) (text : List ℕ) : Type 0 where
  pub bytes : List ℕ
  pub file : HasFile files name most_boot bytes
  pub rule : BootRule
  pub told : TellsRefused bytes rule place text
  pub number_is : number ≡ rule_number rule

-- it gives this system, and that is said
pub record ExplainsSystem (files : Option (List ℕ → Option (List ℕ))) (name : List ℕ) (b : Boot) (text : List ℕ) : Type 0 where
  pub bytes : List ℕ
  pub file : HasFile files name most_boot bytes
  pub told : TellsBoot bytes b text

-- all of a text was written, and the program ends as it is due to
pub record WroteAll (due : Status) (text : List ℕ) (before after : Option (List ℕ)) (faults faults' : ℕ) (s : Status) : Type 0 where
  pub ends : s ≡ due
  pub written : after ≡ appended before text
  pub steady : faults' ≡ faults

-- or the sink failed
pub record WroteBegun (text : List ℕ) (before after : Option (List ℕ)) (faults faults' : ℕ) (s : Status) : Type 0 where
  pub ends : s ≡ WriteFault
  pub begun : IsCutShort before text after
  pub rose : RoseOrFull faults faults'

abbrev pub Wrote : Status → List ℕ → Option (List ℕ) → Option (List ℕ) → ℕ → ℕ → Status → Type 0
Wrote due text before after faults faults' s = WroteAll due text before after faults faults' s ⊎ WroteBegun text before after faults faults' s

-- of a boot file that breaks a rule something is said
abbrev pub IsUntold : Status → Type 0
IsUntold (BootRefused number place) = ⊥
IsUntold _ = ⊤
