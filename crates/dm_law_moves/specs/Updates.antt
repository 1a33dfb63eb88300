-- What an update does: its receiver's addresses of a process that know fewer moves of it get the place that the update tells.
use Rattle.std.specs.Prelude.{◌≡◌, ℕ, ◌+◌, ◌<◌, ◌≤◌, Bool, true, false, if◌then◌else◌, List, [], ◌∷◌, ◌++◌}
use Rattle.std.specs.declared.option.Option.TheVariants.{Some}
use Rattle.dm_link.specs.declared.Pid.{Pid}
use Rattle.dm_link.specs.Names.{Place}
use Rattle.dm_message.specs.declared.MsgId.{MsgId}
use Rattle.dm_message.specs.declared.kind.MessageKind.TheVariants as kind
use Rattle.dm_onekernel.specs.declared.boot.Boot.{Boot}
use Rattle.dm_onekernel.specs.Boot.{IsValid}
use Rattle.dm_schedule.specs.declared.Step.{Step}
use Rattle.dm_line.specs.declared.line.Line.{Line}
use Rattle.dm_line.specs.declared.line.Line.TheVariants as line
use Rattle.dm_law_rule.specs.Addresses.{Holder, Slot, Owner, Receiver, Sender, Enclosed, Child, Name, Answer, AskedBy, ToBoard, holder_eq, belongs_to, leads_to, is_behind}
use Rattle.dm_law_rule.specs.Laws.{Leads}
use Rattle.dm_law_rule.specs.Migrating.{holders_of, behind_among}
use Rattle.dm_law_rule.specs.Parts.{Spelled}
use Rattle.dm_law_rule.specs.Point.{Point, first_point}
use Rattle.dm_law_rule.specs.Rule.{group_of}
use Rattle.dm_law_rule.specs.View.{Told}
use Rattle.dm_law_rule.specs.View as view

-- how often a holder is listed
abbrev pub listings : Holder → List Holder → ℕ
listings h [] = 0
listings h (g ∷ gs) = (if holder_eq g h then 1 else 0) + listings h gs

abbrev pub is_owner : Holder → Bool
is_owner (Slot p k) = false
is_owner (Owner p) = true
is_owner (Receiver id) = false
is_owner (Sender id) = false
is_owner (Enclosed id k) = false
is_owner (Child n) = false
is_owner (Name n) = false
is_owner (Answer n) = false
is_owner (AskedBy p) = false
is_owner ToBoard = false

-- from where a group begins to where it leads
pub record Updated (pt next : Point) (id : MsgId) (n : ℕ) : Type 0 where
  -- the update, and the process that it tells the place of
  pub told : Told
  pub is : pt.view.told id ≡ Some told
  pub update : told.kind ≡ kind.Update
  pub process : Pid
  pub place : Place
  pub about : told.about ≡ view.Place process place.at place.moves
  -- each address of its receiver that leads to the process knows at least as many moves of it now
  pub raised : (h : Holder) → belongs_to told.receiver h ≡ true → leads_to pt.kernel h ≡ Some process → place.moves ≤ (next.addresses h).moves
  -- those that knew fewer have this place now, the owner in a data move too
  pub followed : (h : Holder) → belongs_to told.receiver h ≡ true → leads_to pt.kernel h ≡ Some process → (pt.addresses h).moves < place.moves → next.addresses h ≡ place
  -- every other address is as it was
  pub others : (h : Holder) → (belongs_to told.receiver h ≡ true → leads_to pt.kernel h ≡ Some process → place.moves ≤ (pt.addresses h).moves) → next.addresses h ≡ pt.addresses h
  -- the line says how many knew fewer, but for the owner in a data move: each of the others is listed once
  pub count : behind_among (is_behind pt.kernel pt.addresses told.receiver process place.moves) (holders_of pt.kernel told.receiver) ≡ n
  pub listed : (h : Holder) (q : Pid) → belongs_to told.receiver h ≡ true → is_owner h ≡ false → leads_to pt.kernel h ≡ Some q → listings h (holders_of pt.kernel told.receiver) ≡ 1
  -- the kernel without machines is as it was, and so is what machines know, queue and hold
  pub kernel : next.kernel ≡ pt.kernel
  pub known : next.view.known ≡ pt.view.known
  pub queue : next.view.queue ≡ pt.view.queue
  pub held : next.view.held ≡ pt.view.held
  pub ring : next.view.ring ≡ pt.view.ring

-- wherever the rule leads, a group that says that an update was handled says nothing else, and does this
abbrev pub UpdatesAlways : Type 0
UpdatesAlways =
    (b : Boot) (es : List Step) (pt : Point) (d : Step) (w : Spelled) (id : MsgId) (n : ℕ) (earlier later : List Line) → IsValid b → Leads b (first_point b) es pt → group_of b pt d ≡ Some w → w.lines ≡ earlier ++ line.Updated id n ∷ later
    → (w.lines ≡ line.Head d ∷ line.Updated id n ∷ []) × Updated pt w.point id n
