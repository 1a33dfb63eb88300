-- The number and the line of each status.
use Rattle.std.specs.Prelude.{◌≡◌, ℕ, List, [], ◌∷◌, ◌++◌, codes}
use Rattle.std.specs.Fmt.{decimal}
use Rattle.dm_outside.specs.Outside.{RoseOrFull}
use Rattle.dm_memory.specs.declared.NoMemory.{NoMemory as TheNoMemory}
use Rattle.dm_ending.specs.declared.status.Input.{Input}
use Rattle.dm_ending.specs.declared.status.Input.TheVariants.{Boot, Schedule, Trace, Labels}
use Rattle.dm_ending.specs.declared.status.Status.{Status}
use Rattle.dm_ending.specs.declared.status.Status.TheVariants.{Done, Usage, ReadFault, NoMemory, WriteFault, BootRefused, ScheduleRefused, TooLong, Worn, TraceRefused, LabelsRefused, NotFound, Undecided}

-- the number that the program ends with
abbrev pub code_of : Status → ℕ
code_of Done = 0
code_of Usage = 2
code_of (ReadFault input) = 3
code_of (NoMemory lack) = 4
code_of WriteFault = 5
code_of (BootRefused number place) = 6
code_of (ScheduleRefused line why) = 7
code_of (TooLong input) = 8
code_of (Worn from to) = 9
code_of (TraceRefused line why) = 10
code_of (LabelsRefused line) = 10
code_of NotFound = 11
code_of Undecided = 12

-- the name of a file that is too long
abbrev pub input_text : Input → List ℕ
input_text Boot = codes "boot"
input_text Schedule = codes "schedule"
input_text Trace = codes "trace"
input_text Labels = codes "labels"

-- the line that the program says at its end
abbrev pub text_of_status : Status → List ℕ
text_of_status Done = []
text_of_status Usage = codes "usage: demosmp run --boot FILE --schedule FILE"
text_of_status (ReadFault input) = codes "read fault"
text_of_status (NoMemory lack) = codes "no memory"
text_of_status WriteFault = codes "write fault"
text_of_status (BootRefused number place) = codes "boot refused: " ++ decimal number ++ codes " at " ++ decimal place
text_of_status (ScheduleRefused line why) = codes "schedule refused: line " ++ decimal line ++ codes ", why " ++ decimal why
text_of_status (TooLong input) = codes "too long: " ++ input_text input
text_of_status (Worn from to) = codes "worn: " ++ decimal from ++ codes " to " ++ decimal to
text_of_status (TraceRefused line why) = codes "trace refused: line " ++ decimal line ++ codes ", why " ++ decimal why
text_of_status (LabelsRefused line) = codes "labels refused: line " ++ decimal line
text_of_status NotFound = codes "not found"
text_of_status Undecided = codes "undecided"

-- a text that isn't empty, with a line feed
abbrev pub as_line : List ℕ → List ℕ
as_line [] = []
as_line (x ∷ xs) = (x ∷ xs) ++ 10 ∷ []

-- what the program writes of its status on standard error
abbrev pub line_of_status : Status → List ℕ
line_of_status s = as_line (text_of_status s)

-- a status says that no memory was left
abbrev pub IsWant : Status → Type 0
IsWant s = (lack : TheNoMemory) × (s ≡ NoMemory lack)

-- the shelf's count of faults is as it was, unless it is blamed: then it rose
abbrev pub BlamesShelf : ℕ → ℕ → Status → Type 0
BlamesShelf old new (ReadFault input) = RoseOrFull old new
BlamesShelf old new _ = new ≡ old

-- and so the sink's
abbrev pub BlamesSink : ℕ → ℕ → Status → Type 0
BlamesSink old new WriteFault = RoseOrFull old new
BlamesSink old new _ = new ≡ old

-- where a read is blamed, the shelf's last call failed: nothing was read behind it
abbrev pub EndsAtRead : Type 0 → Status → Type 0
EndsAtRead last_failed s = (input : Input) → s ≡ ReadFault input → last_failed

-- and so the sink's, where a write is: nothing was written behind it
abbrev pub EndsAtWrite : Type 0 → Status → Type 0
EndsAtWrite last_failed s = s ≡ WriteFault → last_failed
