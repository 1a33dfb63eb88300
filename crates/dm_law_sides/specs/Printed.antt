-- What sides say of printed lines.
use Rattle.std.specs.Prelude.{◌≡◌, ◌≢◌, true, is_some, List, [], ◌∷◌, ◌++◌}
use Rattle.std.specs.declared.option.Option.TheVariants.{None, Some}
use Rattle.dm_link.specs.declared.Pid.{Pid}
use Rattle.dm_message.specs.declared.MsgId.{MsgId}
use Rattle.dm_onekernel.specs.declared.boot.Boot.{Boot}
use Rattle.dm_onekernel.specs.declared.label.Label.{Label}
use Rattle.dm_onekernel.specs.declared.label.Label.TheVariants as label
use Rattle.dm_onekernel.specs.Boot.{IsValid, manager}
use Rattle.dm_onekernel.specs.Kernel.{Alive, OneKernel}
use Rattle.dm_onekernel.specs.PlainProcess.{PlainProcess}
use Rattle.dm_onekernel.specs.Start.{start}
use Rattle.dm_onekernel.specs.Step.{replay}
use Rattle.dm_schedule.specs.declared.Step.{Step}
use Rattle.dm_line.specs.declared.line.Line.{Line}
use Rattle.dm_law_rule.specs.Laws.{IsStep}
use Rattle.dm_law_rule.specs.Parts.{Spelled}
use Rattle.dm_law_rule.specs.Point.{Point, first_point, labels}
use Rattle.dm_law_rule.specs.Rule.{group_of}
use Rattle.dm_law_rule.specs.View.{Told}
use Rattle.dm_law_always.specs.Fits.{Each}
use Rattle.dm_law_always.specs.Order.{LeadsBy}
use Rattle.dm_law_sides.specs.Sides.{Sides, Keeps, MaybeKeeping, is_there, side_of, sides_after}

-- lines of a run of a boot file whose links keep to sides
pub record SidedLines (b : Boot) (k : Sides) (ls : List Line) (pt : Point) : Type 0 where
  pub valid : IsValid b
  pub keeps : Keeps (start b) k
  pub steps : List Step
  pub leads : LeadsBy b (first_point b) steps ls pt

-- behind the lines everything keeps to its side
abbrev pub LinesKeep : Type 0
LinesKeep = (b : Boot) (k : Sides) (ls : List Line) (pt : Point) → SidedLines b k ls pt → Keeps pt.kernel (sides_after (start b) (labels ls) k)

-- where a message of a process or of the switchboard is received, both are of one side
abbrev pub ReceivesKeep : Type 0
ReceivesKeep =
    (b : Boot) (k : Sides) (ls : List Line) (pt : Point) (before after : List Label) (p : Pid) (id : MsgId) → SidedLines b k ls pt → labels ls ≡ before ++ label.Receive p id ∷ after → id.from ≢ manager
    → (sides_after (start b) before k).of id.from ≡ (sides_after (start b) before k).of p

-- where the lines told of a message that isn't taken yet that it is for a process or the switchboard, that one is of its side: so it is
-- with requests, answers and orders
abbrev pub PutsKeep : Type 0
PutsKeep =
    (b : Boot) (k : Sides) (ls : List Line) (pt : Point) (id : MsgId) (t : Told) → SidedLines b k ls pt → is_some (pt.kernel.bag id) ≡ true → pt.view.told id ≡ Some t → is_there pt.kernel t.receiver ≡ true
    → (sides_after (start b) (labels ls) k).of t.receiver ≡ side_of (sides_after (start b) (labels ls) k) id

-- where a group takes a message, and what the manager sends then, as the lines told of it, is for a process or the switchboard, that
-- one is of the side of the message taken: so it is with each order, and with an answer
abbrev pub TakesKeep : Type 0
TakesKeep =
    (b : Boot) (k : Sides) (ls : List Line) (pt : Point) (e : Step) (w : Spelled) (id sent : MsgId) (t : Told) → SidedLines b k ls pt → IsStep pt.kernel.machines e → group_of b pt e ≡ Some w → labels w.lines ≡ label.Took id ∷ []
    → pt.kernel.bag sent ≡ None → is_some (w.point.kernel.bag sent) ≡ true → sent.from ≡ manager → w.point.view.told sent ≡ Some t → is_there w.point.kernel t.receiver ≡ true
    → (sides_after (start b) (labels ls) k).of t.receiver ≡ side_of (sides_after (start b) (labels ls) k) id

-- where a process is made, each link in its table keeps to the side of the request
abbrev pub CreatesKeep : Type 0
CreatesKeep =
    (b : Boot) (k : Sides) (ls : List Line) (pt : Point) (before after : List Label) (p : Pid) (id : MsgId) (s : OneKernel) (x : PlainProcess) → SidedLines b k ls pt → labels ls ≡ before ++ label.Created id p ∷ after
    → replay (start b) (before ++ label.Created id p ∷ []) ≡ Some s → s.processes p ≡ Some (Alive x)
    → Each (MaybeKeeping s (sides_after (start b) (before ++ label.Created id p ∷ []) k) (side_of (sides_after (start b) before k) id)) x.links
