-- What a run of files comes to, whoever asks: where no read and no write fails and memory is there, it is decided by the files.
use Rattle.std.specs.Prelude.{◌≡◌, ℕ, ◌⊎◌, List}
use Rattle.std.specs.declared.option.Option.{Option}
use Rattle.std.specs.declared.option.Option.TheVariants.{Some}
use Rattle.dm_onekernel.specs.declared.boot.Boot.{Boot}
use Rattle.dm_schedule.specs.declared.Directive.{Directive}
use Rattle.dm_line.specs.declared.line.Line.{Line}
use Rattle.dm_run.specs.Notion.{Notion}
use Rattle.dm_run.specs.Printed.{WearsAfter}
use Rattle.dm_ending.specs.declared.status.Status.{Status}
use Rattle.dm_ending.specs.declared.status.Status.TheVariants.{Done, Worn}
use Rattle.dm_ending.specs.Status.{IsWant}
use Rattle.dm_front.specs.Inputs.{AcceptsFiles}
use Rattle.dm_front.specs.Outside.{NeverFails, Outside}

-- no directive comes to two machines that count as many messages as they may
abbrev pub Lasts : Notion → Boot → List Directive → Type 0
Lasts r b ds = (groups : List (List Line)) (from to : ℕ) → WearsAfter r b ds groups from to → ⊥

-- some directive does
abbrev pub Wears : Notion → Boot → List Directive → ℕ → ℕ → Type 0
Wears r b ds from to = (groups : List (List Line)) × WearsAfter r b ds groups from to

-- directives that last come to their end, unless memory lacks
abbrev pub Completes : Notion → List ℕ → List ℕ → Outside → Status → Type 0
Completes r boot schedule o s =
    (files : List ℕ → Option (List ℕ)) (b : Boot) (ds : List Directive) → o.files ≡ Some files → AcceptsFiles (Some files) boot schedule b ds
    → Lasts r b ds → NeverFails o → (s ≡ Done) ⊎ IsWant s

-- directives that come to two machines that count as many as they may stop there, unless memory lacks
abbrev pub WearsOut : Notion → List ℕ → List ℕ → Outside → Status → Type 0
WearsOut r boot schedule o s =
    (files : List ℕ → Option (List ℕ)) (b : Boot) (ds : List Directive) (from to : ℕ) → o.files ≡ Some files
    → AcceptsFiles (Some files) boot schedule b ds → Wears r b ds from to → NeverFails o → (s ≡ Worn from to) ⊎ IsWant s

-- so it is with a run, and with the picture of one
pub record RunIsDecided (r : Notion) (boot schedule : List ℕ) (o : Outside) (s : Status) : Type 0 where
  pub completes : Completes r boot schedule o s
  pub wears : WearsOut r boot schedule o s
