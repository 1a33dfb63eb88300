-- What a good text is: that of the groups of a run of the machines, and of their lines at the end behind them.
use Rattle.std.specs.Prelude.{◌≡◌, ⊤, ℕ, Bool, true, false, List, [], ◌∷◌, ◌++◌, length}
use Rattle.std.specs.List.{All}
use Rattle.dm_onekernel.specs.declared.boot.Boot.{Boot}
use Rattle.dm_schedule.specs.declared.Step.{Step}
use Rattle.dm_line.specs.declared.end_line.EndLine.{EndLine}
use Rattle.dm_line.specs.declared.line.Line.{Line}
use Rattle.dm_line.specs.declared.line.Line.TheVariants as line
use Rattle.dm_text.specs.Fits.{EndFits, LineFits}
use Rattle.dm_text.specs.Text.{text_of_ends, text_of_lines}
use Rattle.dm_world.specs.Ends.{end_lines}
use Rattle.dm_world.specs.World.{WorldState}
use Rattle.dm_run.specs.Runs.{joined}
use Rattle.dm_run.specs.Went.{Went}
use Rattle.dm_check.specs.Judge.{Verdict, Open, Ended, can_hold}

-- a schedule for so many machines can hold each of these, but for the numbers of packets
abbrev pub AllHeld : ℕ → List Step → Type 0
AllHeld machines es = All (λ e. can_hold machines e ≡ true) es

-- each group begins with the head of its directive
abbrev pub AreHeads : List Step → List (List Line) → Type 0
AreHeads [] [] = ⊤
AreHeads [] (g ∷ gs) = ⊥
AreHeads (e ∷ es) [] = ⊥
AreHeads (e ∷ es) (g ∷ gs) = ((rest : List Line) × (g ≡ line.Head e ∷ rest)) × AreHeads es gs

-- these lines at the end, where they stand behind the groups
abbrev pub EndsFit : Bool → List EndLine → Type 0
EndsFit false ends = ⊤
EndsFit true ends = All EndFits ends

abbrev pub text_behind : Bool → List EndLine → List ℕ
text_behind false ends = []
text_behind true ends = text_of_ends ends

-- the text is that of the groups that the machines print, so many, for the directives that their heads are, each of which a
-- schedule for this boot file can hold; and, where it is ended, of their lines at the end behind them
pub record IsPrinted (b : Boot) (bytes : List ℕ) (count : ℕ) (ended : Bool) : Type 0 where
  pub steps : List Step
  pub groups : List (List Line)
  pub world : WorldState
  pub went : Went b steps groups world
  pub held : AllHeld (length b.machines) steps
  pub heads : AreHeads steps groups
  pub counts : length groups ≡ count
  pub fits : All LineFits (joined groups)
  pub ends_fit : EndsFit ended (end_lines b world)
  pub text : bytes ≡ text_of_lines (joined groups) ++ text_behind ended (end_lines b world)

-- the verdict on such a text
abbrev pub good_verdict : ℕ → Bool → Verdict
good_verdict n false = Open n
good_verdict n true = Ended n
