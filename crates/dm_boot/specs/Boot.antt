-- The system that a boot file describes, or the first rule that it breaks.
use Rattle.std.specs.Prelude.{ℕ, ◌≡◌, List, Some, None, if◌then◌else◌, option_map, unwrap_or}
use Rattle.std.specs.Str.{is_utf8}
use Rattle.std.specs.declared.option.Option.{Option}
use Rattle.std.specs.declared.result.Result.{Result}
use Rattle.std.specs.declared.result.Result.TheVariants.{Ok, Err}
use Rattle.toml.specs.Data.{Data, table, Members}
use Rattle.toml.specs.Parse.{parse_document}
use Rattle.dm_onekernel.specs.declared.boot.Boot.{Boot}
use Rattle.dm_boot.specs.declared.rules.BootRule.{BootRule}
use Rattle.dm_boot.specs.declared.rules.BootRule.TheVariants.{Document}
use Rattle.dm_boot.specs.declared.rules.BootError.{BootError}
use Rattle.dm_boot.specs.declared.rules.BootError.TheVariants.{Refused, NoMemory}
use Rattle.dm_boot.specs.Build.{images_of, machines_of, processes_of, system_with}
use Rattle.dm_boot.specs.Rules.{rules, first_broken}

-- what was built, unless a rule is broken
abbrev pub unless : {A : Type 0} → Option (BootRule × ℕ) → A → Result A (BootRule × ℕ)
unless None built = Ok built
unless (Some broken) built = Err broken

-- what was built, unless one rule is broken at a place
unfoldable pub unless_at : {A : Type 0} → BootRule → Option ℕ → A → Result A (BootRule × ℕ)
unless_at rule None built = Ok built
unless_at rule (Some place) built = Err (rule, place)

-- the system of the top table
unfoldable pub boot_of_table : Data → Result Boot (BootRule × ℕ)
boot_of_table d = unless (first_broken rules d) (system_with d (machines_of d) (images_of d) (processes_of d))

-- the document in these bytes
abbrev pub document_of : List ℕ → Option Members
document_of bytes = if is_utf8 bytes then parse_document bytes else None

-- the system of a boot file, or the rule that it breaks, with the place
unfoldable pub boot_of : List ℕ → Result Boot (BootRule × ℕ)
boot_of bytes = unwrap_or (option_map (λ ms. boot_of_table (table ms)) (document_of bytes)) (Err (Document, 0))

-- an answer is what was wanted; want of memory says nothing
abbrev pub Answers : {A : Type 0} → Result A (BootRule × ℕ) → Result A BootError → Type 0
Answers wanted (Ok x) = wanted ≡ Ok x
Answers wanted (Err (Refused rule place)) = wanted ≡ Err (rule, place)
Answers wanted (Err (NoMemory _)) = Unit {0}
