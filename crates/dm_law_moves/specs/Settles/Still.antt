-- What holds where all is at rest.
use Rattle.std.specs.Prelude.{◌≡◌, ◌||◌, ◌&&◌, ℕ, Bool, true, false, List, []}
use Rattle.std.specs.List.{All}
use Rattle.std.specs.declared.option.Option.TheVariants.{None, Some}
use Rattle.dm_link.specs.declared.Pid.{Pid}
use Rattle.dm_onekernel.specs.declared.boot.Boot.{Boot}
use Rattle.dm_onekernel.specs.Boot.{IsValid}
use Rattle.dm_onekernel.specs.Kernel.{Alive}
use Rattle.dm_onekernel.specs.PlainProcess.{PlainProcess, PlainStatus, Ready, Waiting, Moving}
use Rattle.dm_schedule.specs.declared.Step.{Step}
use Rattle.dm_line.specs.declared.end_line.Doing.{Doing}
use Rattle.dm_line.specs.declared.end_line.Doing.TheVariants as doing
use Rattle.dm_line.specs.declared.end_line.EndLine.{EndLine}
use Rattle.dm_line.specs.declared.end_line.EndLine.TheVariants as end
use Rattle.dm_law_rule.specs.Ends.{end_lines}
use Rattle.dm_law_rule.specs.Laws.{Leads}
use Rattle.dm_law_rule.specs.Point.{Point, first_point}
use Rattle.dm_law_rule.specs.Rest.{IsAtRest}
use Rattle.dm_law_rule.specs.Rule.{first_awaited}
use Rattle.dm_law_rule.specs.View.{Here}
use Rattle.dm_law_moves.specs.AtRest.{AtRest}
use Rattle.dm_law_moves.specs.Settles.Passes.{stands_here}

-- a process waits
abbrev pub is_wait : PlainStatus → Bool
is_wait Ready = false
is_wait (Waiting mask base cap_) = true
is_wait (Moving dir owner base own left pending) = false

-- it moves data
abbrev pub is_mover : PlainStatus → Bool
is_mover Ready = false
is_mover (Waiting mask base cap_) = false
is_mover (Moving dir owner base own left pending) = true

pub record StandsStill (pt : Point) : Type 0 where
  -- no process moves, nothing is held back, and each message that there is waits in a queue
  pub rest : AtRest pt
  -- no request of the manager's is pending
  pub pending : pt.kernel.manager.pending ≡ []
  -- no living process moves data, and each waits or is stopped
  pub moves : (p : Pid) (x : PlainProcess) → pt.kernel.processes p ≡ Some (Alive x) → is_mover x.status ≡ false
  pub waits : (p : Pid) (x : PlainProcess) → pt.kernel.processes p ≡ Some (Alive x) → (x.stopped || is_wait x.status) ≡ true
  -- none that waits and isn't stopped has a message in its queue that it waits for
  pub deaf : (p : Pid) (x : PlainProcess) (m mask base cap_ : ℕ) → pt.kernel.processes p ≡ Some (Alive x) → x.stopped ≡ false → x.status ≡ Waiting mask base cap_ → pt.view.known m p ≡ Here → first_awaited pt.kernel mask (pt.view.queue m p) ≡ None

-- wherever the rule leads, where all is at rest
abbrev pub StillAlways : Type 0
StillAlways = (b : Boot) (es : List Step) (pt : Point) → IsValid b → Leads b (first_point b) es pt → IsAtRest pt.kernel.machines pt → StandsStill pt

-- a line of the end that says of nothing that it is on its way, held back or pending, and of each living process that it is where it is,
-- and waits or is stopped
abbrev pub does_wait : Doing → Bool
does_wait doing.Ready = false
does_wait (doing.Waiting mask base cap_) = true
does_wait (doing.Moving dir owner base own left) = false

abbrev pub is_still : EndLine → Bool
is_still end.Final = true
is_still (end.Ended p y) = true
is_still (end.Process p m s d stopped sent) = stands_here s && (stopped || does_wait d)
is_still (end.Registers p r pc) = true
is_still (end.Memory p k bytes) = true
is_still (end.Link p slot l) = true
is_still (end.Server p sent) = true
is_still (end.Place p m s) = stands_here s
is_still (end.Name name l) = true
is_still (end.Child n p m) = true
is_still (end.Pending i) = false
is_still (end.Queue p is) = true
is_still (end.Holding m p is) = false
is_still (end.Inbox m is) = false
is_still (end.Stream a c is) = false
is_still (end.Groups n) = true

-- so say the lines of the end
abbrev pub EndsStill : Type 0
EndsStill = (b : Boot) (es : List Step) (pt : Point) → IsValid b → Leads b (first_point b) es pt → IsAtRest pt.kernel.machines pt → All (λ (l : EndLine). is_still l ≡ true) (end_lines pt)
