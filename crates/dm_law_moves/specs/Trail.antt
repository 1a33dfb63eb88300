-- Trails as the printed lines lay them: each place that is named for a process is on its trail, the trail ends where the process is, and
-- from each place of it the forwarding addresses lead there; or, where the process has ended, to a machine without a record.
use Rattle.std.specs.Prelude.{◌≡◌, ℕ, ◌+◌, ◌-◌, ◌<◌, ◌==◌, Bool, true, false, not, List, [], ◌∷◌, length}
use Rattle.std.specs.declared.option.Option.TheVariants.{Some}
use Rattle.dm_link.specs.declared.Pid.{Pid}
use Rattle.dm_link.specs.Names.{Place}
use Rattle.dm_message.specs.declared.MsgId.{MsgId}
use Rattle.dm_message.specs.declared.kind.MessageKind.TheVariants as kind
use Rattle.dm_onekernel.specs.declared.boot.Boot.{Boot}
use Rattle.dm_onekernel.specs.Boot.{IsValid, manager}
use Rattle.dm_schedule.specs.declared.Step.{Step}
use Rattle.dm_line.specs.declared.line.Line.{Line}
use Rattle.dm_law_rule.specs.Addresses.{Holder, Receiver, Sender, unmoved}
use Rattle.dm_law_rule.specs.Homes.{names}
use Rattle.dm_law_rule.specs.Laws.{Leads}
use Rattle.dm_law_rule.specs.Point.{Point, first_point}
use Rattle.dm_law_rule.specs.Trails.{Trails, IsOn, first_trodden, along, is_alive, leads}
pub use Rattle.dm_law_rule.specs.Phases.{has_it}
pub use Rattle.dm_law_rule.specs.Trails.{is_made}
use Rattle.dm_law_rule.specs.View.{Known, Unknown, Here, Frozen, Incoming, Forward, Told, is_kernels}
use Rattle.dm_law_rule.specs.View as view
use Rattle.dm_law_always.specs.Found.{is_fixed}
use Rattle.dm_law_always.specs.Order.{LeadsBy}

-- a machine has a process, holds it while it leaves, or waits until it comes
abbrev pub ends_walk : Known → Bool
ends_walk Unknown = false
ends_walk Here = true
ends_walk (Frozen to) = true
ends_walk (Incoming from) = true
ends_walk (Forward at moves) = false

-- a place, a machine with a count, is named for a process
pub data IsNamed (pt : Point) (q : Pid) (place : Place) : Type 0 where
  -- by a link, a message, a data move or a list of a server's
  ByHolder : (h : Holder) → names pt.kernel h ≡ Some q → pt.addresses h ≡ place → IsNamed pt q place
  -- as where a kernel's own message goes
  ByOwn : (i : MsgId) → (u : Told) → is_kernels i ≡ true → pt.view.told i ≡ Some u → u.receiver ≡ q → pt.addresses (Receiver i) ≡ place → IsNamed pt q place
  -- as where the manager is, who asked a process to move
  ByRequest : (i : MsgId) → (u : Told) → is_kernels i ≡ true → pt.view.told i ≡ Some u → u.kind ≡ kind.Migrate → manager ≡ q → pt.addresses (Sender i) ≡ place → IsNamed pt q place
  -- by what an update says
  ByUpdate : (i : MsgId) → (u : Told) → pt.view.told i ≡ Some u → u.about ≡ view.Place q place.at place.moves → IsNamed pt q place
  -- by a forwarding address
  ByForward : (m : ℕ) → pt.view.known m q ≡ Forward place.at place.moves → IsNamed pt q place

-- from a place the forwarding addresses lead, each with a higher count and in fewer steps than there are machines, to a machine that
-- has the process, holds it while it leaves or waits until it comes; or, where it has ended, to one without a record of it
abbrev pub Reaches : Point → Pid → Place → Type 0
Reaches pt p place = leads (not (is_alive pt.kernel p)) pt.view p (pt.kernel.machines - 1) place.moves place.at ≡ true

-- a place is the last of the trail of a process
pub record IsLast (t : Trails) (p : Pid) (place : Place) : Type 0 where
  pub on : IsOn t p place
  pub long : length (t p) ≡ place.moves + 1

-- what trails say of a point
pub record TrailStands (pt : Point) (t : Trails) : Type 0 where
  -- each trail begins at home
  pub begins : (p : Pid) → IsOn t p (unmoved p.home)
  -- kernels have only been at home
  pub fixed : (p : Pid) → is_fixed p ≡ true → t p ≡ p.home ∷ []
  -- and so has what was never made and is no server
  pub unmade : (p : Pid) → is_made pt.kernel p ≡ false → t p ≡ p.home ∷ []
  -- each place that is named for a process is on its trail
  pub named : (q : Pid) (place : Place) → IsNamed pt q place → IsOn t q place
  -- a machine that has a process, or holds it while it leaves, is the last of its trail, after as many moves
  pub last : (m : ℕ) (p : Pid) → has_it (pt.view.known m p) ≡ true → IsLast t p (record { at = m; moves = pt.view.moves p })
  -- while one machine forwards to another that waits for the process, this other is, after one move more
  pub coming : (m k c : ℕ) (p : Pid) → pt.view.known m p ≡ Forward k c → pt.view.known k p ≡ Incoming m → IsLast t p (record { at = k; moves = pt.view.moves p + 1 })
  -- the last machine of the trail of a process that lives has it, holds it or waits for it
  pub ends : (p : Pid) (place : Place) → is_alive pt.kernel p ≡ true → IsLast t p place → ends_walk (pt.view.known place.at p) ≡ true
  -- each machine of a trail is one that there is
  pub within : (p : Pid) (place : Place) → is_made pt.kernel p ≡ true → IsOn t p place → place.at < pt.kernel.machines
  -- and from each the forwarding addresses lead to the process, or to where it ended
  pub reached : (p : Pid) (place : Place) → is_made pt.kernel p ≡ true → IsOn t p place → Reaches pt p place

-- wherever the rule leads, the trails that the lines lay stand
abbrev pub TrailsStand : Type 0
TrailsStand =
    (b : Boot) (es : List Step) (ls : List Line) (pt : Point) → IsValid b → LeadsBy b (first_point b) es ls pt → (t : Trails) × (along (first_trodden b) ls ≡ Some (record { point = pt; trails = t })) × TrailStands pt t

-- from a place that is named for it a process is found
pub record IsLed (pt : Point) (q : Pid) (place : Place) : Type 0 where
  -- the forwarding addresses lead to it, if it is no kernel, or to where it ended
  pub led : (q.num == 0) ≡ false → Reaches pt q place
  -- a kernel is named at home
  pub home : is_fixed q ≡ true → place ≡ unmoved q.home
  -- and whoever is no kernel is a server, or was made
  pub made : (q.num == 0) ≡ false → is_made pt.kernel q ≡ true

-- wherever the rule leads, from each place that a link, a message, a data move, a list of a server's, an update or a forwarding
-- address names for a process, the forwarding addresses lead to the process, with rising counts, in fewer steps than there are machines
abbrev pub AddressesLead : Type 0
AddressesLead = (b : Boot) (es : List Step) (pt : Point) (q : Pid) (place : Place) → IsValid b → Leads b (first_point b) es pt → IsNamed pt q place → IsLed pt q place
