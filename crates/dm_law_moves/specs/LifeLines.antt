-- At the end each process that was ever made has one line that says whether it lives: where it is then, or why it ended.
use Rattle.std.specs.Prelude.{◌≡◌, ◌<◌, Bool, false, List, [], ◌∷◌, filter}
use Rattle.std.specs.declared.option.Option.{Option}
use Rattle.std.specs.declared.option.Option.TheVariants.{None, Some}
use Rattle.dm_link.specs.declared.Pid.{Pid}
use Rattle.dm_link.specs.Names.{pid_eq}
use Rattle.dm_onekernel.specs.declared.boot.Boot.{Boot}
use Rattle.dm_onekernel.specs.Boot.{IsValid}
use Rattle.dm_onekernel.specs.Kernel.{Life, Alive, Ended}
use Rattle.dm_schedule.specs.declared.Step.{Step}
use Rattle.dm_line.specs.declared.end_line.EndLine.{EndLine}
use Rattle.dm_line.specs.declared.end_line.EndLine.TheVariants as end
use Rattle.dm_line.specs.declared.end_line.Standing.{Standing}
use Rattle.dm_line.specs.declared.end_line.Standing.TheVariants as standing
use Rattle.dm_law_rule.specs.Ends.{Stood, doing_of, end_lines}
use Rattle.dm_law_rule.specs.Laws.{Leads}
use Rattle.dm_law_rule.specs.Point.{Point, first_point}
use Rattle.dm_law_rule.specs.View.{Known, Unknown, Here, Frozen, Incoming, Forward}

-- a line that says of this process that it lives, or has ended; a row a line
abbrev pub tells_life : Pid → EndLine → Bool
tells_life p (end.Ended q because) = pid_eq p q
tells_life p (end.Process q at stands doing stopped sent) = pid_eq p q
tells_life p end.Final = false
tells_life p (end.Registers q r pc) = false
tells_life p (end.Memory q block bytes) = false
tells_life p (end.Link q slot l) = false
tells_life p (end.Server q sent) = false
tells_life p (end.Place q at stands) = false
tells_life p (end.Name name l) = false
tells_life p (end.Child n q at) = false
tells_life p (end.Pending id) = false
tells_life p (end.Queue q ids) = false
tells_life p (end.Holding m q ids) = false
tells_life p (end.Inbox m ids) = false
tells_life p (end.Stream m n ids) = false
tells_life p (end.Groups n) = false

abbrev pub life_lines : Pid → List EndLine → List EndLine
life_lines p ls = filter (tells_life p) ls

-- how a process stands on a machine that knows this of it
abbrev pub stands_by : Known → Option Standing
stands_by Unknown = None
stands_by Here = Some standing.Here
stands_by (Frozen to) = Some standing.Leaving
stands_by (Incoming from) = Some standing.Arriving
stands_by (Forward at moves) = None

-- a process is on a machine that there is, leaves it or comes to it
pub record IsPlace (pt : Point) (p : Pid) (s : Stood) : Type 0 where
  pub machine : s.at < pt.kernel.machines
  pub stands : stands_by (pt.view.known s.at p) ≡ Some s.standing

-- the one line of a process that lives, with its place, or that has ended; a process that was never made has none
abbrev pub IsSaid : Point → Pid → Option Life → List EndLine → Type 0
IsSaid pt p None ls = ls ≡ []
IsSaid pt p (Some (Ended because)) ls = ls ≡ end.Ended p because ∷ []
IsSaid pt p (Some (Alive x)) ls = (s : Stood) × IsPlace pt p s × (ls ≡ end.Process p s.at s.standing (doing_of x.status) x.stopped x.sent ∷ [])

-- wherever the rule leads
abbrev pub LivesAreSaid : Type 0
LivesAreSaid = (b : Boot) (es : List Step) (pt : Point) (p : Pid) → IsValid b → Leads b (first_point b) es pt → IsSaid pt p (pt.kernel.processes p) (life_lines p (end_lines pt))
