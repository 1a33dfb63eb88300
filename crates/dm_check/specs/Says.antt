-- A system that says what machines say, wherever a run of them has come.
use Rattle.std.specs.Prelude.{◌≡◌, ℕ, List, length}
use Rattle.std.specs.List.{All}
use Rattle.std.specs.declared.option.Option.TheVariants.{None, Some}
use Rattle.dm_onekernel.specs.declared.boot.Boot.{Boot}
use Rattle.dm_schedule.specs.declared.Step.{Step}
use Rattle.dm_line.specs.declared.line.Line.{Line}
use Rattle.dm_shape.specs.Full.{IsFull}
use Rattle.dm_world.specs.Ends.{end_lines}
use Rattle.dm_world.specs.World.{WorldState}
use Rattle.dm_run.specs.Went.{Does, WearsBy, Went}
use Rattle.dm_check.specs.declared.stop.CheckError.{CheckError}
use Rattle.dm_check.specs.Checking.{RefusedSo}
use Rattle.dm_check.specs.Judge.{Course, Verdict, verdict_by}

-- behind each run of the machines of this boot file it has the group that they print, none where they stop as worn, and their
-- lines at the end, each of which has a shape
pub record SaysAs (b : Boot) (c : Course) : Type 0 where
  pub machines : c.machines ≡ length b.machines
  pub quantum : c.quantum ≡ b.quantum
  pub goes : (es : List Step) (gs : List (List Line)) (w : WorldState) (e : Step) (lines : List Line) (u : WorldState) → Went b es gs w → Does b w e lines u → c.group es e ≡ Some lines
  pub worn : (es : List Step) (gs : List (List Line)) (w : WorldState) (e : Step) (from to : ℕ) → Went b es gs w → WearsBy b w e from to → c.group es e ≡ None
  pub ends : (es : List Step) (gs : List (List Line)) (w : WorldState) → Went b es gs w → c.ends es ≡ end_lines b w
  pub full : (es : List Step) (gs : List (List Line)) (w : WorldState) → Went b es gs w → All IsFull (c.ends es)

-- the verdict on a text by whatever says what the machines of this boot file say
abbrev pub ComesTo : Boot → List ℕ → Verdict → Type 0
ComesTo b bytes v = (c : Course) → SaysAs b c → verdict_by c bytes ≡ v

-- it refuses the text so; want of memory says nothing
abbrev pub RefusedBy : Boot → List ℕ → CheckError → Type 0
RefusedBy b bytes x = (c : Course) → SaysAs b c → RefusedSo (verdict_by c bytes) x
