-- That a word of a schedule is the name of a process of the boot file, where the process's number must stand.
use Rattle.std.specs.Prelude.{ℕ, if◌then◌else◌, codes, List, [], ◌∷◌, length, map, Option, None, Some}
use Rattle.std.specs.List.{concat}
use Rattle.std.specs.Str.{bytes_eq}
use Rattle.dm_onekernel.specs.declared.boot.Boot.{Boot}
use Rattle.dm_onekernel.specs.declared.boot.BootProcess.{BootProcess}
use Rattle.dm_reading.specs.Lines.{lines}
use Rattle.dm_reading.specs.Words.{words}
use Rattle.dm_schedule.specs.declared.LineFault.{LineFault}
use Rattle.dm_schedule.specs.declared.LineFault.TheVariants.{UnknownWord, WrongCount, NotANumber, OutOfRange, SameMachine}
use Rattle.dm_schedule.specs.Keywords.{Machine, Operand, Packet, Process, Rounds}
use Rattle.dm_text.specs.Words.{pid_word}
use Rattle.dm_explain.specs.BadOperands.{BadOperand, bad_operand}
use Rattle.dm_explain.specs.LineAt.{line_at}

-- the name of a process, and its number
unfoldable pub numbered : BootProcess → List ℕ
numbered p = concat (codes "    " ∷ p.name ∷ codes " is " ∷ pid_word p.pid ∷ codes "\n" ∷ [])

-- of a process, if this word is its name
unfoldable pub number_told : List ℕ → BootProcess → List ℕ
number_told word p = if bytes_eq p.name word then numbered p else []

-- where an operand must be a process's number, and a word stands there
abbrev pub operand_named : List BootProcess → Operand → List ℕ → List ℕ
operand_named ps Process word = concat (map (number_told word) ps)
operand_named ps Machine word = []
operand_named ps Packet word = []
operand_named ps Rounds word = []

abbrev pub bad_named : List BootProcess → Option BadOperand → List ℕ
bad_named ps None = []
bad_named ps (Some bad) = operand_named ps bad.operand bad.word

-- of a line of a schedule for this system
abbrev pub line_named : Boot → LineFault → List ℕ → List ℕ
line_named b NotANumber line = bad_named b.processes (bad_operand (length b.machines) (words line))
line_named b UnknownWord line = []
line_named b WrongCount line = []
line_named b OutOfRange line = []
line_named b SameMachine line = []

-- what is said behind a line of a schedule that is refused, for this system
unfoldable pub name_told : Boot → List ℕ → ℕ → LineFault → List ℕ
name_told b bytes line fault = line_named b fault (line_at line (lines bytes))
