-- How far a text has been checked.
use Rattle.std.specs.Prelude.{◌≡◌, ℕ, ◌+◌, List, [], ◌++◌, length}
use Rattle.std.specs.List.{All}
use Rattle.dm_onekernel.specs.declared.boot.Boot.{Boot}
use Rattle.dm_schedule.specs.declared.Step.{Step}
use Rattle.dm_line.specs.declared.line.Line.{Line}
use Rattle.dm_text.specs.Fits.{LineFits}
use Rattle.dm_text.specs.Reading.{pieces}
use Rattle.dm_text.specs.Text.{text_of_lines}
use Rattle.dm_world.specs.World.{WorldState}
use Rattle.dm_run.specs.Runs.{joined}
use Rattle.dm_run.specs.Went.{Went}
use Rattle.dm_check.specs.Good.{AllHeld, AreHeads}
use Rattle.dm_check.specs.DueThere.{Wearing, due_behind}
use Rattle.dm_check.specs.Judge.{Course, Head, judged_from, verdict_by}
use Rattle.dm_check.specs.Says.{SaysAs}

-- the text begins with that of the groups of a run, the machines stand behind them, and the verdict is that on what is left,
-- from a head on; so is what was due in a line of it
pub record HasChecked (b : Boot) (bytes rest : List ℕ) (line groups : ℕ) (w : WorldState) : Type 0 where
  pub steps : List Step
  pub lines : List (List Line)
  pub went : Went b steps lines w
  pub held : AllHeld (length b.machines) steps
  pub heads : AreHeads steps lines
  pub fits : All LineFits (joined lines)
  pub count : length lines ≡ groups
  pub done : length steps ≡ groups
  pub read : bytes ≡ text_of_lines (joined lines) ++ rest
  pub goes : (c : Course) → SaysAs b c → verdict_by c bytes ≡ judged_from c (Head steps) line (pieces 10 rest)
  pub before : ℕ
  pub counted : line ≡ before + 1
  pub due : (c : Course) (wears : Wearing) (n : ℕ) → SaysAs b c → due_behind c wears (Head []) 1 (before + n) (pieces 10 bytes) ≡ due_behind c wears (Head steps) line n (pieces 10 rest)
