-- What is said of a boot file and of a schedule, whether they break a rule or not.
use Rattle.std.specs.Prelude.{◌≡◌, ◌≤◌, ⊤, ℕ, ◌+◌, ◌==◌, codes, List, [], ◌∷◌, length, take, count_by, Option, None, Some, Ok, Err}
use Rattle.std.specs.List.{concat}
use Rattle.std.specs.Fmt.{decimal}
use Rattle.toml.specs.Data.{Members, table}
use Rattle.dm_onekernel.specs.declared.boot.Boot.{Boot}
use Rattle.dm_onekernel.specs.Boot.{IsValid}
use Rattle.dm_schedule.specs.Schedule.{Accepted, Refused, directives_of}
use Rattle.dm_boot.specs.declared.rules.BootRule.{BootRule}
use Rattle.dm_boot.specs.Boot.{boot_of, document_of}
use Rattle.dm_explain.specs.declared.explain.BootTold.{BootTold}
use Rattle.dm_explain.specs.declared.explain.BootTold.TheVariants as boot
use Rattle.dm_explain.specs.declared.explain.ScheduleTold.{ScheduleTold}
use Rattle.dm_explain.specs.declared.explain.ScheduleTold.TheVariants as schedule
use Rattle.dm_explain.specs.Parts.{quoted}
use Rattle.dm_explain.specs.Schedules.{directives_told, line_told}
use Rattle.dm_explain.specs.SystemParts.{told_with_parts}
use Rattle.dm_explain.specs.Told.{broken_told}

-- the line of what stands behind these bytes
abbrev pub line_behind : List ℕ → ℕ
line_behind before = count_by (λ c. c == 10) before + 1

-- what is said of bytes that are no document: the line, where the reader says one, and its reason
abbrev pub unread_told : Option ℕ → List ℕ → List ℕ
unread_told None reason = codes "rule 1: no document\n"
unread_told (Some line) reason = concat (codes "rule 1: no document, as line " ∷ decimal line ∷ codes " shows: " ∷ quoted reason ∷ codes "\n" ∷ [])

-- the line of a place of these bytes; which place that is, is for the reader to say
abbrev pub IsLineSaid : List ℕ → Option ℕ → Type 0
IsLineSaid bytes None = ⊤
IsLineSaid bytes (Some line) = (place : ℕ) × (place ≤ length bytes) × (line ≡ line_behind (take place bytes))

-- bytes that are no document; which reason that is, is for the reader to say
pub record TellsUnread (bytes text : List ℕ) : Type 0 where
  pub line : Option ℕ
  pub reason : List ℕ
  pub is : IsLineSaid bytes line
  pub said : text ≡ unread_told line reason

-- a document, if there is one, that breaks a rule
abbrev pub TellsBroken : List ℕ → Option Members → BootRule → ℕ → List ℕ → Type 0
TellsBroken bytes None rule place text = TellsUnread bytes text
TellsBroken bytes (Some ms) rule place text = text ≡ broken_told bytes rule place (table ms)

-- a document that breaks none: the system, and its parts
abbrev pub TellsSystem : Option Members → Boot → List ℕ → Type 0
TellsSystem None b text = ⊥
TellsSystem (Some ms) b text = text ≡ told_with_parts b (table ms)

pub record TellsBoot (bytes : List ℕ) (b : Boot) (text : List ℕ) : Type 0 where
  pub says : boot_of bytes ≡ Ok b
  pub told : TellsSystem (document_of bytes) b text

pub record TellsRefused (bytes : List ℕ) (rule : BootRule) (place : ℕ) (text : List ℕ) : Type 0 where
  pub refused : boot_of bytes ≡ Err (rule, place)
  pub told : TellsBroken bytes (document_of bytes) rule place text

-- what is said of the bytes of a boot file
abbrev pub ExplainsBoot : List ℕ → BootTold → Type 0
ExplainsBoot bytes (boot.System b text) = TellsBoot bytes b text.items
ExplainsBoot bytes (boot.Refused rule place text) = TellsRefused bytes rule place text.items

-- what is said of the bytes of a schedule
abbrev pub ExplainsSchedule : List ℕ → ℕ → ScheduleTold → Type 0
ExplainsSchedule bytes machines (schedule.Directives ds text) = (directives_of bytes machines ≡ Accepted ds.items) × (text.items ≡ directives_told ds.items)
ExplainsSchedule bytes machines (schedule.Refused line fault text) = (directives_of bytes machines ≡ Refused line fault) × (text.items ≡ line_told bytes machines line fault)

-- a system that is said may start
abbrev pub IsToldValid : BootTold → Type 0
IsToldValid (boot.System b text) = IsValid b
IsToldValid (boot.Refused rule place text) = ⊤
