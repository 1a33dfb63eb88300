-- Each message of a migration that stands anywhere is of a process that moves, the one message of its migration that is under way; or it
-- is left over of a migration that was called off.
use Rattle.std.specs.Prelude.{◌≡◌, ◌⊎◌, ℕ, ◌≤◌, true, List}
use Rattle.std.specs.declared.option.Option.TheVariants.{Some}
use Rattle.dm_link.specs.declared.Pid.{Pid}
use Rattle.dm_message.specs.declared.MsgId.{MsgId}
use Rattle.dm_onekernel.specs.declared.boot.Boot.{Boot}
use Rattle.dm_onekernel.specs.Boot.{IsValid}
use Rattle.dm_schedule.specs.declared.Step.{Step}
use Rattle.dm_law_rule.specs.Laws.{Leads}
use Rattle.dm_law_rule.specs.Phases.{Phase, Moves, IsIn, IsLeft, is_between}
use Rattle.dm_law_rule.specs.Point.{Point, first_point}
use Rattle.dm_law_rule.specs.Spots.{Spot, standing}
use Rattle.dm_law_rule.specs.View.{View, Told, Of}

-- it is about a process that moves from a source to a destination, where just this message is under way
pub record IsOfMove (v : View) (i : MsgId) (t : Told) : Type 0 where
  pub process : Pid
  pub about : t.about ≡ Of process
  pub source : ℕ
  pub destination : ℕ
  pub moves : IsIn v process (Moves t.kind source destination (Some i))

-- it is left over of a migration of a process, which is in this phase now
pub record IsLeftOver (v : View) (i : MsgId) (t : Told) : Type 0 where
  pub process : Pid
  pub phase : Phase
  pub is : IsIn v process phase
  pub left : IsLeft v process phase i t

-- wherever the rule leads, of the kinds from ask to restart, and calloff
abbrev pub ProtocolMoves : Type 0
ProtocolMoves =
    (b : Boot) (es : List Step) (pt : Point) (i : MsgId) (t : Told) (z : Spot) → IsValid b → Leads b (first_point b) es pt → pt.view.told i ≡ Some t → is_between t.kind ≡ true → 1 ≤ standing pt.view i z → IsOfMove pt.view i t ⊎ IsLeftOver pt.view i t
