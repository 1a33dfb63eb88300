-- What a good text is, by the rule.
use Rattle.std.specs.Prelude.{◌≡◌, ℕ, Bool, List, [], ◌++◌, length}
use Rattle.std.specs.List.{All}
use Rattle.dm_onekernel.specs.declared.boot.Boot.{Boot}
use Rattle.dm_schedule.specs.declared.Step.{Step}
use Rattle.dm_line.specs.declared.line.Line.{Line}
use Rattle.dm_line.specs.Todo.{all_of}
use Rattle.dm_law_rule.specs.Ends.{end_lines}
use Rattle.dm_law_rule.specs.Point.{Point}
use Rattle.dm_text.specs.Fits.{LineFits}
use Rattle.dm_text.specs.Text.{text_of_lines}
use Rattle.dm_law_mirror.specs.Ran.{ones}
use Rattle.dm_law_mirror.specs.Run.{IsGood, joined}
use Rattle.dm_check.specs.Good.{AllHeld, AreHeads, EndsFit, text_behind}

-- the text is that of good lines, so many groups, for the directives that their heads are, each of which a schedule for this boot
-- file can hold; and, where it is ended, of the lines at the end behind them
pub record IsTrace (b : Boot) (bytes : List ℕ) (count : ℕ) (ended : Bool) : Type 0 where
  pub steps : List Step
  pub groups : List (List Line)
  pub end : Point
  pub good : IsGood b (ones steps) groups end (all_of [])
  pub held : AllHeld (length b.machines) steps
  pub heads : AreHeads steps groups
  pub counts : length groups ≡ count
  pub fits : All LineFits (joined groups)
  pub ends_fit : EndsFit ended (end_lines end)
  pub text : bytes ≡ text_of_lines (joined groups) ++ text_behind ended (end_lines end)
