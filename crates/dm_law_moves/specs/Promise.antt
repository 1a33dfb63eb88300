-- What counts promise: a process that was told where another went has, where all is at rest, the links that it hasn't filled since
-- lead to where the other is.
use Rattle.std.specs.Prelude.{◌≡◌, ⊤, ℕ, ◌≤◌, Bool, false, List, [], ◌∷◌, ◌++◌}
use Rattle.std.specs.declared.option.Option.TheVariants.{Some}
use Rattle.dm_link.specs.declared.Pid.{Pid}
use Rattle.dm_link.specs.Names.{Place}
use Rattle.dm_message.specs.declared.MsgId.{MsgId}
use Rattle.dm_message.specs.declared.kind.MessageKind.TheVariants as kind
use Rattle.dm_onekernel.specs.declared.boot.Boot.{Boot}
use Rattle.dm_onekernel.specs.Boot.{IsValid}
use Rattle.dm_schedule.specs.declared.Step.{Step}
use Rattle.dm_line.specs.declared.line.Line.{Line}
use Rattle.dm_line.specs.declared.line.Line.TheVariants as line
use Rattle.dm_law_rule.specs.Addresses.{Holder, Slot, leads_to}
use Rattle.dm_law_rule.specs.Laws.{Leads}
use Rattle.dm_law_rule.specs.Parts.{Spelled}
use Rattle.dm_law_rule.specs.Point.{Point, label_of, first_point, after_line}
use Rattle.dm_law_rule.specs.Quiet.{IsQuiet}
use Rattle.dm_law_rule.specs.Rule.{group_of}
use Rattle.dm_law_rule.specs.Spots.{Spot, standing}
use Rattle.dm_law_rule.specs.View.{View, Told}
use Rattle.dm_law_rule.specs.View as view
use Rattle.dm_law_always.specs.Order.{LeadsBy}
use Rattle.dm_law_moves.specs.Counts.{is_filled}

-- a line is a step that gives a holder its address: a link comes into a slot
abbrev pub fills : Point → Holder → Line → Bool
fills pt h l = is_filled pt (label_of l) h

-- none of these lines does
abbrev pub Unfilled : Point → Holder → List Line → Type 0
Unfilled pt h [] = ⊤
Unfilled pt h (l ∷ ls) = (fills pt h l ≡ false) × ((next : Point) → after_line pt l ≡ Some next → Unfilled next h ls)

abbrev pub update_of : Pid → Pid → Place → Told
update_of p q place = record { kind = kind.Update; receiver = p; about = view.Place q place.at place.moves }

-- an update is under way: it tells a process, or a server, the place of another
pub record IsUnderWay (v : View) (id : MsgId) (p q : Pid) (place : Place) : Type 0 where
  pub told : v.told id ≡ Some (update_of p q place)
  pub spot : Spot
  pub stands : 1 ≤ standing v id spot

-- from one point to another there is the group that says that the update was handled, and where the process that it is about
-- hasn't moved on, each slot of its receiver's that leads there and wasn't filled since names its place
pub record Promised (b : Boot) (told pt : Point) (between : List Step) (id : MsgId) (p q : Pid) (place : Place) : Type 0 where
  pub early : List Step
  pub directive : Step
  pub late : List Step
  pub are : between ≡ early ++ directive ∷ late
  pub handled : Point
  pub comes : Leads b told early handled
  pub group : Spelled
  pub is : group_of b handled directive ≡ Some group
  pub count : ℕ
  pub says : group.lines ≡ line.Head directive ∷ line.Updated id count ∷ []
  pub lines : List Line
  pub goes : LeadsBy b group.point late lines pt
  pub place_kept : (k : ℕ) → pt.view.moves q ≡ place.moves → Unfilled group.point (Slot p k) lines → leads_to pt.kernel (Slot p k) ≡ Some q → pt.addresses (Slot p k) ≡ place

-- wherever the rule leads, each update that is under way keeps its promise where nothing is on its way any more
abbrev pub PromisesAlways : Type 0
PromisesAlways =
    (b : Boot) (before between : List Step) (told pt : Point) (id : MsgId) (p q : Pid) (place : Place) → IsValid b → Leads b (first_point b) before told → IsUnderWay told.view id p q place → Leads b told between pt
    → IsQuiet pt.kernel.machines pt.view → Promised b told pt between id p q place
