-- What is said of a trace that is refused.
use Rattle.std.specs.Prelude.{ℕ, ◌-◌, ◌&&◌, ◌==◌, nat_le, if◌then◌else◌, codes, decimal, take, drop, List, [], ◌∷◌, ◌++◌, length, map}
use Rattle.std.specs.declared.option.Option.{Option}
use Rattle.std.specs.declared.option.Option.TheVariants.{None, Some}
use Rattle.dm_schedule.specs.declared.Step.{Step}
use Rattle.dm_line.specs.declared.line.Line.{Line}
use Rattle.dm_line.specs.declared.line.Line.TheVariants as line
use Rattle.dm_text.specs.Reading.{pieces}
use Rattle.dm_text.specs.Text.{text, end_text}
use Rattle.dm_check.specs.Faults.{number_of_trace_fault}
use Rattle.dm_check.specs.declared.fault.TraceFault.{TraceFault}
use Rattle.dm_check.specs.declared.fault.TraceFault.TheVariants.{NotALine, NotDue, NotAStep, NotTheEnd}
use Rattle.dm_check.specs.declared.refusal.Group.{Group}
use Rattle.dm_check.specs.declared.refusal.Refusal.{Refusal}
use Rattle.dm_check.specs.declared.refusal.WasDue.{WasDue}
use Rattle.dm_check.specs.declared.refusal.WasDue.TheVariants as was

-- a byte as it is shown: one that isn't printed is shown as a question mark
abbrev pub shown_byte : ℕ → ℕ
shown_byte b = if nat_le 32 b && nat_le b 126 then b else 63

unfoldable pub shown : List ℕ → List ℕ
shown bytes = map shown_byte bytes

-- a line of a text, of which no more than 95 bytes are told
unfoldable pub line_told : List ℕ → List ℕ
line_told l = if nat_le (length l) 95 then shown l else shown (take 95 l) ++ codes ".."

-- the line with which the rest of a text in pieces between line feeds begins; behind the last line feed the text ends
abbrev pub standing_told : List (List ℕ) → List ℕ
standing_told [] = codes "the text ends"
standing_told (l ∷ []) = if length l == 0 then codes "the text ends" else line_told l
standing_told (l ∷ q ∷ ps) = line_told l

-- the pieces of a text, if there is one
abbrev pub pieces_of : Option (List ℕ) → List (List ℕ)
pieces_of None = []
pieces_of (Some t) = pieces 10 t

-- the number of a line
unfoldable pub number_told : ℕ → List ℕ
number_told n = codes "line " ++ decimal n

-- the line of this number of a text
unfoldable pub where_told : List ℕ → ℕ → List ℕ
where_told bytes n = number_told n ++ codes ": " ++ standing_told (drop (n - 1) (pieces 10 bytes)) ++ codes "\n"

-- what is wrong with it
abbrev pub fault_words : TraceFault → List ℕ
fault_words NotALine = codes "not a line"
fault_words NotDue = codes "not the line that is due"
fault_words NotAStep = codes "not what the process does"
fault_words NotTheEnd = codes "not where everything stands"

unfoldable pub fault_told : TraceFault → List ℕ
fault_told f = fault_words f ++ codes " (why " ++ decimal (number_of_trace_fault f) ++ codes ")\n"

-- the head of a group, in the line of this number
unfoldable pub group_told : ℕ → Step → List ℕ
group_told n e = codes "group: " ++ number_told n ++ codes ", " ++ text (line.Head e)

abbrev pub due_line_told : Line → Group → List ℕ
due_line_told l g = text l ++ group_told g.line g.head

-- no group is due
unfoldable pub pair_told : ℕ → ℕ → List ℕ
pair_told from to = decimal from ++ codes " " ++ decimal to

unfoldable pub worn_told : ℕ → ℕ → List ℕ
worn_told from to = codes "no group, the pair " ++ pair_told from to ++ codes " is worn\n"

-- what was due in the line of this number, a row a case
abbrev pub due_words : ℕ → WasDue → List ℕ
due_words n (was.Line l g) = due_line_told l g
due_words n (was.Before l g) = number_told (n - 1) ++ codes ", " ++ due_line_told l g
due_words n was.Head = codes "a head, or final\n"
due_words n (was.Worn from to e) = worn_told from to ++ group_told n e
due_words n (was.End e) = end_text e
due_words n was.Nothing = codes "nothing\n"

unfoldable pub due_told : ℕ → WasDue → List ℕ
due_told n due = codes "due: " ++ due_words n due

-- the whole: where it is refused, why, and what was due there
unfoldable pub refusal_told : List ℕ → Refusal → List ℕ
refusal_told bytes r = where_told bytes r.line ++ fault_told r.fault ++ due_told r.line r.due
