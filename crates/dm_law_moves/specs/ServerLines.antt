-- At the end each server has one line with how many messages it has sent; and one with its place, exactly where it isn't here on
-- machine 0.
use Rattle.std.specs.Prelude.{◌≡◌, ℕ, Bool, true, false, if◌then◌else◌, List, [], ◌∷◌, filter}
use Rattle.dm_link.specs.declared.Pid.{Pid}
use Rattle.dm_link.specs.Names.{pid_eq}
use Rattle.dm_onekernel.specs.declared.boot.Boot.{Boot}
use Rattle.dm_onekernel.specs.Boot.{IsValid, switchboard}
use Rattle.dm_onekernel.specs.Kernel.{OneKernel}
use Rattle.dm_schedule.specs.declared.Step.{Step}
use Rattle.dm_line.specs.declared.end_line.EndLine.{EndLine}
use Rattle.dm_line.specs.declared.end_line.EndLine.TheVariants as end
use Rattle.dm_law_rule.specs.Ends.{Stood, end_lines}
use Rattle.dm_law_rule.specs.Laws.{Leads}
use Rattle.dm_law_rule.specs.Point.{Point, first_point}
use Rattle.dm_law_rule.specs.View.{is_here, is_server}
use Rattle.dm_law_moves.specs.LifeLines.{IsPlace}

-- a line that says how a server is; a row a line
abbrev pub tells_server : Pid → EndLine → Bool
tells_server p (end.Server q sent) = pid_eq p q
tells_server p (end.Place q m stands) = pid_eq p q
tells_server p end.Final = false
tells_server p (end.Ended q because) = false
tells_server p (end.Process q at stands doing stopped sent) = false
tells_server p (end.Registers q r pc) = false
tells_server p (end.Memory q block bytes) = false
tells_server p (end.Link q slot l) = false
tells_server p (end.Name name l) = false
tells_server p (end.Child n q at) = false
tells_server p (end.Pending id) = false
tells_server p (end.Queue q ids) = false
tells_server p (end.Holding m q ids) = false
tells_server p (end.Inbox m ids) = false
tells_server p (end.Stream m n ids) = false
tells_server p (end.Groups n) = false

-- how many messages a server has sent
abbrev pub server_sent : OneKernel → Pid → ℕ
server_sent k p = if pid_eq p switchboard then k.switchboard.sent else k.manager.sent

-- its place, unless it is here on machine 0
abbrev pub lines_of_place : Point → Pid → Stood → List EndLine
lines_of_place pt p s = if is_here (pt.view.known 0 p) then [] else end.Place p s.at s.standing ∷ []

-- where it stands, and the lines
pub record IsServerSaid (pt : Point) (p : Pid) (ls : List EndLine) : Type 0 where
  pub stood : Stood
  pub place : IsPlace pt p stood
  pub lines : ls ≡ end.Server p (server_sent pt.kernel p) ∷ lines_of_place pt p stood

-- wherever the rule leads
abbrev pub ServersAreSaid : Type 0
ServersAreSaid = (b : Boot) (es : List Step) (pt : Point) (p : Pid) → IsValid b → Leads b (first_point b) es pt → is_server p ≡ true → IsServerSaid pt p (filter (tells_server p) (end_lines pt))
