-- What the parts of the checker say of what was due where a text is refused.
use Rattle.std.specs.Prelude.{◌≡◌, ⊤, ℕ, ◌+◌, ◌≤◌, true, false, List, ◌∷◌, ◌++◌, length, take, drop}
use Rattle.std.specs.declared.option.Option.TheVariants.{Some}
use Rattle.dm_link.specs.declared.Pid.{Pid}
use Rattle.dm_onekernel.specs.declared.boot.Boot.{Boot}
use Rattle.dm_schedule.specs.declared.Step.{Step}
use Rattle.dm_line.specs.declared.end_line.EndLine.{EndLine}
use Rattle.dm_line.specs.declared.line.Line.{Line}
use Rattle.dm_text.specs.Reading.{pieces}
use Rattle.dm_text.specs.Text.{text, text_of_ends, text_of_lines}
use Rattle.dm_shape.specs.Shapes.{has_shape}
use Rattle.dm_world.specs.World.{WorldState}
use Rattle.dm_run.specs.Went.{WearsBy, Went}
use Rattle.dm_check.specs.DueThere.{Wearing, due_behind, was_due}
use Rattle.dm_check.specs.Judge.{Course, Due, Head, Nothing, Verdict, Refused, Stands, behind_line, can_hold, is_line_text, judged_from, told, verdict_by}
use Rattle.dm_check.specs.Says.{SaysAs}
use Rattle.dm_check.specs.declared.fault.TraceFault.TheVariants.{NotDue}
use Rattle.dm_check.specs.declared.follow.Stray.{Stray}
use Rattle.dm_check.specs.declared.follow.Stray.TheVariants as stray
use Rattle.dm_check.specs.declared.refusal.Group.{Group}
use Rattle.dm_check.specs.declared.refusal.JudgeError.{JudgeError}
use Rattle.dm_check.specs.declared.refusal.JudgeError.TheVariants as error
use Rattle.dm_check.specs.declared.refusal.Refusal.{Refusal}
use Rattle.dm_check.specs.declared.refusal.WasDue.{WasDue}
use Rattle.dm_check.specs.declared.stop.CheckError.{CheckError}
use Rattle.dm_check.specs.declared.stop.CheckError.TheVariants as no
use Rattle.dm_check.specs.declared.trace.NoneDue.{NoneDue}
use Rattle.dm_check.specs.declared.trace.NoneDue.TheVariants as none
use Rattle.dm_check.specs.declared.refusal.WasDue.TheVariants as was

-- what says which pair wears says it as the machines of this boot file do, wherever a run of them has come
abbrev pub WearsAs : Boot → Wearing → Type 0
WearsAs b wears = (es : List Step) (gs : List (List Line)) (w : WorldState) (e : Step) (from to : ℕ) → Went b es gs w → WearsBy b w e from to → wears es e ≡ Some (record { from = from; to = to })

-- this was due in the line of this number, by whatever says what the machines say
abbrev pub DueIn : Boot → List ℕ → ℕ → WasDue → Type 0
DueIn b bytes line due = (c : Course) (wears : Wearing) → SaysAs b c → WearsAs b wears → was_due c wears bytes line ≡ Some due

-- the text is refused so, and that was due there
pub record IsRefusedSo (b : Boot) (c : Course) (bytes : List ℕ) (r : Refusal) : Type 0 where
  pub verdict : verdict_by c bytes ≡ Refused r.line r.fault
  pub due_is : (wears : Wearing) → WearsAs b wears → was_due c wears bytes r.line ≡ Some r.due

-- by whatever says what the machines of this boot file say; want of memory says nothing
abbrev pub JudgedBy : Boot → List ℕ → JudgeError → Type 0
JudgedBy b bytes (error.Refused r) = (c : Course) → SaysAs b c → IsRefusedSo b c bytes r
JudgedBy b bytes (error.NoMemory lack) = ⊤

-- the same of a text in pieces from a line of this number on, where this was due
pub record FallsFrom (b : Boot) (c : Course) (due : Due) (number : ℕ) (ps : List (List ℕ)) (r : Refusal) : Type 0 where
  pub index : ℕ
  pub counted : r.line ≡ number + index
  pub verdict : judged_from c due number ps ≡ Refused r.line r.fault
  pub due_is : (wears : Wearing) → WearsAs b wears → due_behind c wears due number index ps ≡ Some r.due

abbrev pub JudgedFrom : Boot → Course → Due → ℕ → List (List ℕ) → JudgeError → Type 0
JudgedFrom b c due number ps (error.Refused r) = FallsFrom b c due number ps r
JudgedFrom b c due number ps (error.NoMemory lack) = ⊤

-- behind each run of the machines that leads there, by whatever says what they say
abbrev pub JudgedThere : Boot → WorldState → ℕ → List (List ℕ) → JudgeError → Type 0
JudgedThere b w number ps x = (c : Course) (es : List Step) (gs : List (List Line)) → SaysAs b c → Went b es gs w → JudgedFrom b c (Head es) number ps x

-- why a world has no group for this directive: no schedule can hold it, or it would wear a pair out; want of memory says nothing
abbrev pub LacksGroup : Boot → WorldState → Step → NoneDue → Type 0
LacksGroup b w e none.Unheld = can_hold (length b.machines) e ≡ false
LacksGroup b w e (none.Worn from to) = (can_hold (length b.machines) e ≡ true) × WearsBy b w e from to
LacksGroup b w e (none.NoMemory lack) = ⊤

-- what the text is refused for then, at the head in the line of this number
abbrev pub told_of_none : NoneDue → Step → ℕ → JudgeError
told_of_none none.Unheld e number = error.Refused (record { line = number; fault = NotDue; due = was.Head })
told_of_none (none.Worn from to) e number = error.Refused (record { line = number; fault = NotDue; due = was.Worn from to e })
told_of_none (none.NoMemory lack) e number = error.NoMemory lack

-- what a stray from a group refuses the text for
abbrev pub strayed : Stray → Group → JudgeError
strayed (stray.Here line fault due) group = error.Refused (record { line = line; fault = fault; due = was.Line due group })
strayed (stray.Behind line fault due) group = error.Refused (record { line = line; fault = fault; due = was.Before due group })
strayed (stray.NoMemory lack) group = error.NoMemory lack

-- the refusal is the verdict
abbrev pub StrayedSo : Verdict → Stray → Type 0
StrayedSo v (stray.Here line fault due) = v ≡ Refused line fault
StrayedSo v (stray.Behind line fault due) = v ≡ Refused line fault
StrayedSo v (stray.NoMemory lack) = ⊤

-- a text begins with a line that says of a process that it ran fewer instructions than this one
pub record TellsFewer (quantum : ℕ) (due : Line) (bytes : List ℕ) : Type 0 where
  pub line : List ℕ
  pub rest : List ℕ
  pub pid : Pid
  pub cut : pieces 10 bytes ≡ line ∷ pieces 10 rest
  pub shape : has_shape line ≡ true
  pub other : is_line_text line (text due) ≡ false
  pub tells : told quantum due (pieces 32 line) ≡ Stands (Nothing pid)

-- a text whose first line has this number strays from a line, there or behind it
abbrev pub LineStrays : ℕ → Line → List ℕ → ℕ → Stray → Type 0
LineStrays quantum l bytes number (stray.Here line fault due) = (due ≡ l) × (line ≡ number)
LineStrays quantum l bytes number (stray.Behind line fault due) = (due ≡ l) × (line ≡ number + 1) × TellsFewer quantum l bytes
LineStrays quantum l bytes number (stray.NoMemory lack) = ⊤

-- a text begins with the first lines of these, so many, and then this one is due
pub record StandsTo (lines : List Line) (bytes : List ℕ) (index : ℕ) (due : Line) (rest : List ℕ) : Type 0 where
  pub others : List Line
  pub left : drop index lines ≡ due ∷ others
  pub read : bytes ≡ text_of_lines (take index lines) ++ rest

-- a text whose first line has this number strays from these lines behind some of them
pub record StraysHere (lines : List Line) (bytes : List ℕ) (number line : ℕ) (due : Line) : Type 0 where
  pub index : ℕ
  pub rest : List ℕ
  pub stands : StandsTo lines bytes index due rest
  pub counted : line ≡ number + index

pub record StraysBehind (quantum : ℕ) (lines : List Line) (bytes : List ℕ) (number line : ℕ) (due : Line) : Type 0 where
  pub index : ℕ
  pub rest : List ℕ
  pub stands : StandsTo lines bytes index due rest
  pub counted : line ≡ number + index + 1
  pub fewer : TellsFewer quantum due rest

abbrev pub GroupStrays : ℕ → List Line → List ℕ → ℕ → Stray → Type 0
GroupStrays quantum lines bytes number (stray.Here line fault due) = StraysHere lines bytes number line due
GroupStrays quantum lines bytes number (stray.Behind line fault due) = StraysBehind quantum lines bytes number line due
GroupStrays quantum lines bytes number (stray.NoMemory lack) = ⊤

-- a text is refused since it strays from the group of this head
pub record IsStray (quantum : ℕ) (head : Step) (lines : List Line) (bytes : List ℕ) (number : ℕ) (x : JudgeError) : Type 0 where
  pub stray : Stray
  pub is : x ≡ strayed stray (record { line = number; head = head })
  pub strays : GroupStrays quantum lines bytes number stray
  pub refused : (c : Course) (es : List Step) → c.quantum ≡ quantum → StrayedSo (judged_from c (behind_line lines es) number (pieces 10 bytes)) stray

-- a refusal is at this line
abbrev pub IsAt : ℕ → CheckError → Type 0
IsAt number (no.Refused line fault) = line ≡ number
IsAt number (no.NoMemory lack) = ⊤

-- a text whose first line has this number strays from these lines at the end behind some of them
pub record StraysEnd (ends : List EndLine) (bytes : List ℕ) (number line : ℕ) : Type 0 where
  pub index : ℕ
  pub rest : List ℕ
  pub few : index ≤ length ends
  pub read : bytes ≡ text_of_ends (take index ends) ++ rest
  pub counted : line ≡ number + index

abbrev pub EndsStray : List EndLine → List ℕ → ℕ → CheckError → Type 0
EndsStray ends bytes number (no.Refused line fault) = StraysEnd ends bytes number line
EndsStray ends bytes number (no.NoMemory lack) = ⊤
