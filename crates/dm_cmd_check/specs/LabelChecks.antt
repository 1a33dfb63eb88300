-- What the command `check` promises of labels: with each status that it ends with, why it comes and what was written by then.
use Rattle.std.specs.Prelude.{◌≡◌, ⊤, ℕ, ◌⊎◌, List, ◌++◌, codes}
use Rattle.std.specs.Fmt.{decimal}
use Rattle.std.specs.declared.option.Option.{Option}
use Rattle.std.specs.declared.option.Option.TheVariants.{None, Some}
use Rattle.dm_onekernel.specs.declared.boot.Boot.{Boot}
use Rattle.dm_onekernel.specs.Boot.{IsValid}
use Rattle.dm_outside.specs.Outside.{RoseOrFull, appended}
use Rattle.dm_run.specs.Appended.{IsCutShort}
use Rattle.dm_labels.specs.Judged.{judged}
use Rattle.dm_labels.specs.declared.judge.Verdict.TheVariants.{Good, Refused}
use Rattle.dm_ending.specs.declared.status.Input.TheVariants as input
use Rattle.dm_ending.specs.declared.status.Status.{Status}
use Rattle.dm_ending.specs.declared.status.Status.TheVariants as status
use Rattle.dm_ending.specs.Status.{IsWant}
use Rattle.dm_front.specs.Asked.{Both}
use Rattle.dm_cmd_check.specs.Checks.{CheckSaying}
use Rattle.dm_front.specs.Files.{IsLonger}
use Rattle.dm_front.specs.Inputs.{AfterBoot, HasFile, RefusesBoot, SaysBoot, most_boot}
use Rattle.dm_front.specs.Meets.{MeetsOutside}
use Rattle.dm_front.specs.Outside.{Around, Never, NeverReadsBadly, Outside, outside}
use Rattle.dm_world.specs.declared.world.World.{World}

-- the most bytes of labels
abbrev pub most_labels : ℕ
most_labels = 16777216

-- the line of so many good labels
abbrev pub good_labels_line : ℕ → List ℕ
good_labels_line n = codes "good " ++ decimal n ++ codes " labels\n"

-- all are steps of one kernel without machines, from where the boot file begins: so many, and their line was appended
pub record SaysGoodLabels (b : Boot) (bytes : List ℕ) (before after : Option (List ℕ)) : Type 0 where
  pub count : ℕ
  pub good : judged b bytes ≡ Good count
  pub written : after ≡ appended before (good_labels_line count)

-- or begun
pub record BeginsGoodLabels (b : Boot) (bytes : List ℕ) (before after : Option (List ℕ)) : Type 0 where
  pub count : ℕ
  pub good : judged b bytes ≡ Good count
  pub begun : IsCutShort before (good_labels_line count) after

-- what a status says of labels and a system, by what the sink told before and after
abbrev pub LabelsSay : CheckSaying
LabelsSay b bytes before after status.Done = SaysGoodLabels b bytes before after
LabelsSay b bytes before after (status.NoMemory lack) = after ≡ before
LabelsSay b bytes before after status.WriteFault = BeginsGoodLabels b bytes before after
LabelsSay b bytes before after (status.LabelsRefused line) = (judged b bytes ≡ Refused line) × (after ≡ before)
LabelsSay b bytes before after _ = ⊥

-- the boot file of this name says this system, and the labels of that name have these bytes
pub record HasLabels (files : Option (List ℕ → Option (List ℕ))) (boot labels : List ℕ) (b : Boot) (bytes : List ℕ) : Type 0 where
  pub says_boot : SaysBoot files boot b
  pub file : HasFile files labels most_labels bytes

-- labels were judged
pub record Judges (boot labels : List ℕ) (o : Outside) (s : Status) : Type 0 where
  pub system : Boot
  pub bytes : List ℕ
  pub has : HasLabels o.files boot labels system bytes
  pub valid : IsValid system
  pub says : LabelsSay system bytes o.before o.after s

-- why the labels of this name can't be had
abbrev pub NoLabelBytes : Option (List ℕ → Option (List ℕ)) → List ℕ → ℕ → ℕ → Status → Type 0
NoLabelBytes files name old new (status.ReadFault input.Labels) = RoseOrFull old new
NoLabelBytes files name old new (status.NoMemory lack) = ⊤
NoLabelBytes files name old new (status.TooLong input.Labels) = IsLonger files name most_labels
NoLabelBytes files name old new _ = ⊥

-- why files of these names give nothing to judge: the first that is at fault
abbrev pub NoLabels : Option (List ℕ → Option (List ℕ)) → List ℕ → List ℕ → ℕ → ℕ → Status → Type 0
NoLabels files boot labels old new (status.ReadFault input.Boot) = RoseOrFull old new
NoLabels files boot labels old new (status.ReadFault input.Labels) = AfterBoot files boot (λ machines. RoseOrFull old new)
NoLabels files boot labels old new (status.NoMemory lack) = ⊤
NoLabels files boot labels old new (status.BootRefused number place) = RefusesBoot files boot number place
NoLabels files boot labels old new (status.TooLong input.Boot) = IsLonger files boot most_boot
NoLabels files boot labels old new (status.TooLong input.Labels) = AfterBoot files boot (λ machines. IsLonger files labels most_labels)
NoLabels files boot labels old new _ = ⊥

-- or none were
abbrev pub SaysLabels : List ℕ → List ℕ → Outside → Status → Type 0
SaysLabels boot labels o s = Judges boot labels o s ⊎ Never (NoLabels o.files boot labels) o s

-- files that give nothing to judge end for the reason that there is, unless memory lacks
abbrev pub LabelsRefuse : List ℕ → List ℕ → Outside → Status → Type 0
LabelsRefuse boot labels o s =
    (files : List ℕ → Option (List ℕ)) (due : Status) → o.files ≡ Some files
    → NoLabels (Some files) boot labels o.reads_before o.reads_after due → (IsWant due → ⊥) → NeverReadsBadly o → (s ≡ due) ⊎ IsWant s

-- all that the command promises, with files of these names
pub record LabelsMeet {F K : Type 0} (boot labels : List ℕ) (a : Around F K) (world : Option World) (s : Status) : Type 0 where
  pub says : SaysLabels boot labels (outside a world) s
  pub refuses : LabelsRefuse boot labels (outside a world) s
  pub no_world : world ≡ None
  pub met : MeetsOutside (Both boot input.Labels labels) a s
