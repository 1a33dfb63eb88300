-- What stands before the line at which a text is refused.
use Rattle.std.specs.Prelude.{◌≡◌, ℕ, zero, suc, ◌+◌, ◌<◌, List, [], ◌∷◌, ◌++◌, codes, get_or, length}
use Rattle.std.specs.declared.option.Option.TheVariants.{Some}
use Rattle.dm_link.specs.declared.Pid.{Pid}
use Rattle.dm_onekernel.specs.Boot.{IsValid}
use Rattle.dm_onekernel.specs.declared.boot.Boot.{Boot}
use Rattle.dm_onekernel.specs.declared.label.Label.TheVariants as label
use Rattle.dm_schedule.specs.declared.Step.{Step}
use Rattle.dm_line.specs.Todo.{all_of}
use Rattle.dm_line.specs.declared.line.Line.{Line}
use Rattle.dm_line.specs.declared.line.Line.TheVariants as line
use Rattle.dm_law_rule.specs.Ends.{end_lines}
use Rattle.dm_law_rule.specs.Point.{Point}
use Rattle.dm_text.specs.Reading.{pieces}
use Rattle.dm_text.specs.Text.{text, text_of_ends, text_of_lines}
use Rattle.dm_law_mirror.specs.Ran.{ones}
use Rattle.dm_law_mirror.specs.Run.{IsGood, joined}
use Rattle.dm_check.specs.Classes.{told_ran}
use Rattle.dm_check.specs.Good.{AllHeld, AreHeads}
use Rattle.dm_check.specs.Judge.{Refused}
use Rattle.dm_check.specs.declared.fault.TraceFault.{TraceFault}
use Rattle.dm_law_runs.specs.Traces.Verdict.{verdict}

-- what a system prints: good groups for the directives that their heads are, each of which a schedule for this boot file can hold
pub record RunOf (b : Boot) : Type 0 where
  pub steps : List Step
  pub groups : List (List Line)
  pub end : Point
  pub good : IsGood b (ones steps) groups end (all_of [])
  pub held : AllHeld (length b.machines) steps
  pub heads : AreHeads steps groups

-- their text, and that of the lines at the end behind them
abbrev pub text_of_run : (b : Boot) → RunOf b → List ℕ
text_of_run b r = text_of_lines (joined r.groups) ++ text_of_ends (end_lines r.end)

-- the text of the first lines, so many, of a text in pieces between line feeds
abbrev pub first_lines : ℕ → List (List ℕ) → List ℕ
first_lines zero ps = []
first_lines (suc n) [] = []
first_lines (suc n) (p ∷ ps) = (p ++ codes "\n") ++ first_lines n ps

-- the first lines of a text, so many
pub data Begins (b : Boot) (bytes : List ℕ) (lines : ℕ) : Type 0 where
  -- they begin what the system prints for some directives
  Printed : (r : RunOf b) → (rest : List ℕ) → text_of_run b r ≡ first_lines lines (pieces 10 bytes) ++ rest → Begins b bytes lines
  -- all but the last of them do, and behind them the system prints how many instructions a process ran; the last one says fewer
  Fewer : (r : RunOf b) → (rest : List ℕ) → (before : ℕ) → (p : Pid) → (fewer ran : ℕ) → before + 1 ≡ lines
      → text_of_run b r ≡ first_lines before (pieces 10 bytes) ++ text (line.Label (label.Ran p ran)) ++ rest
      → told_ran p (pieces 32 (get_or (pieces 10 bytes) before [])) ≡ Some fewer → fewer < ran → Begins b bytes lines

-- so do the lines before the one at which a text is refused
abbrev pub LinesBeforeArePrinted : Type 0
LinesBeforeArePrinted = (b : Boot) (bytes : List ℕ) (number : ℕ) (fault : TraceFault) → IsValid b → verdict b bytes ≡ Refused number fault → (before : ℕ) → before + 1 ≡ number → Begins b bytes before
