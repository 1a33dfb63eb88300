-- Where all is at rest, only a directive to move a process sets anything going.
use Rattle.std.specs.Prelude.{◌≡◌, ℕ, List, [], ◌∷◌, slice_get}
use Rattle.std.specs.Option.{option_map_or}
use Rattle.std.specs.declared.option.Option.{Option}
use Rattle.std.specs.declared.option.Option.TheVariants.{Some}
use Rattle.dm_onekernel.specs.declared.boot.Boot.{Boot}
use Rattle.dm_onekernel.specs.Boot.{IsValid}
use Rattle.dm_schedule.specs.declared.Step.{Step}
use Rattle.dm_schedule.specs.declared.Step.TheVariants as step
use Rattle.dm_line.specs.declared.line.Line.{Line}
use Rattle.dm_line.specs.declared.line.Line.TheVariants as line
use Rattle.dm_line.specs.declared.line.Load.{Load}
use Rattle.dm_line.specs.declared.line.Load.TheVariants as load
use Rattle.dm_law_rule.specs.Laws.{AreStill, IsStep, IsStill, Leads}
use Rattle.dm_law_rule.specs.Parts.{Spelled, packet_line}
use Rattle.dm_law_rule.specs.Point.{Point, first_point}
use Rattle.dm_law_rule.specs.Rest.{IsAtRest}
use Rattle.dm_law_rule.specs.Rule.{group_of}
use Rattle.dm_law_rule.specs.View.{SentLoad, View}

-- of a packet that comes nothing does: its message was taken before, so that the acknowledgement is put again; or it is an
-- acknowledgement, and lets nothing go; or there is no such packet
abbrev pub packet_brings : View → ℕ → ℕ → Load → List Line
packet_brings v a c (load.Data n) = line.Old a c n ∷ packet_line v c a (load.Ack (v.pair a c).taken) ∷ []
packet_brings v a c (load.Ack n) = line.Acked a c n ∷ []

abbrev pub delivery_brings : View → ℕ → ℕ → Option SentLoad → List Line
delivery_brings v a c sent = option_map_or (λ s. packet_brings v a c s.load) sent (line.Nothing ∷ [])

-- the lines of a group say that nothing comes of its directive; of one to move a process none do
abbrev pub SaysNothing : View → Step → List Line → Type 0
SaysNothing v (step.Turn m) ls = ls ≡ line.Head (step.Turn m) ∷ line.Idle m ∷ []
SaysNothing v (step.Tick m) ls = ls ≡ line.Head (step.Tick m) ∷ line.Resent m 0 ∷ []
SaysNothing v (step.Deliver a c k) ls = ls ≡ line.Head (step.Deliver a c k) ∷ delivery_brings v a c (slice_get (v.pair a c).wire k)
SaysNothing v (step.Migrate p m) ls = ⊥
SaysNothing v (step.CallOff p m) ls = ls ≡ line.Head (step.CallOff p m) ∷ line.NoCall p ∷ []

-- all is at rest, and as it was: no process, server or message has changed, and each process and each queued message is where it was
pub record StaysSo (pt end : Point) : Type 0 where
  pub kernel : end.kernel ≡ pt.kernel
  pub known : end.view.known ≡ pt.view.known
  pub queue : end.view.queue ≡ pt.view.queue
  pub rest : IsAtRest end.kernel.machines end

-- a directive has a group, and nothing comes of it
pub record BringsNothing (b : Boot) (pt : Point) (e : Step) : Type 0 where
  pub group : Spelled
  pub is : group_of b pt e ≡ Some group
  pub says : SaysNothing pt.view e group.lines
  pub stays : StaysSo pt group.point

-- wherever the rule leads, where all is at rest nothing comes of a directive, but of one to move a process
abbrev pub StaysAtRest : Type 0
StaysAtRest = (b : Boot) (es : List Step) (pt : Point) (e : Step) → IsValid b → Leads b (first_point b) es pt → IsAtRest pt.kernel.machines pt → IsStep pt.kernel.machines e → IsStill e → BringsNothing b pt e

-- so all stays at rest, whatever directives come, until one is to move a process
abbrev pub RestLasts : Type 0
RestLasts = (b : Boot) (es ds : List Step) (pt end : Point) → IsValid b → Leads b (first_point b) es pt → IsAtRest pt.kernel.machines pt → AreStill ds → Leads b pt ds end → StaysSo pt end
