-- What counts promise, from a forward on: where all is at rest, the sender's links lead to where the receiver is.
use Rattle.std.specs.Prelude.{◌≡◌, ◌⊎◌, ℕ, ◌≤◌, ◌==◌, true, false, List}
use Rattle.std.specs.declared.option.Option.TheVariants.{Some}
use Rattle.dm_link.specs.declared.Pid.{Pid}
use Rattle.dm_link.specs.Names.{Place}
use Rattle.dm_message.specs.declared.MsgId.{MsgId}
use Rattle.dm_onekernel.specs.declared.boot.Boot.{Boot}
use Rattle.dm_onekernel.specs.Boot.{IsValid}
use Rattle.dm_schedule.specs.declared.Step.{Step}
use Rattle.dm_law_rule.specs.Addresses.{Slot, leads_to}
use Rattle.dm_law_rule.specs.Laws.{Leads}
use Rattle.dm_law_rule.specs.Parts.{Spelled}
use Rattle.dm_law_rule.specs.Phases.{is_away}
use Rattle.dm_law_rule.specs.Point.{Point, first_point}
use Rattle.dm_law_rule.specs.Quiet.{IsQuiet}
use Rattle.dm_law_rule.specs.View.{Here, Forward, actor}
use Rattle.dm_law_moves.specs.Forwards.{Forwards}
use Rattle.dm_law_moves.specs.Movers.{HasEnded}
use Rattle.dm_law_moves.specs.Promise.{IsUnderWay, Promised, Unfilled}

-- a process is on a machine, or has ended, and no other machine has it
pub record IsThere (pt : Point) (q : Pid) (machine : ℕ) : Type 0 where
  pub now : (pt.view.known machine q ≡ Here) ⊎ HasEnded pt.kernel q
  pub away : (n : ℕ) → (machine == n) ≡ false → is_away (pt.view.known n q) ≡ true

-- p was told this place of q; where q hasn't moved since, it is there, and p's links lead there that it hasn't filled since
pub record LeadsThere (b : Boot) (sent pt : Point) (between : List Step) (p q : Pid) (place : Place) : Type 0 where
  -- the update that the forward left under way, and the group since then that handled it
  pub update : MsgId
  pub way : IsUnderWay sent.view update p q place
  pub handled : Promised b sent pt between update p q place
  -- q has moved so often, or more often since
  pub least : place.moves ≤ pt.view.moves q
  -- where it hasn't moved since, q is at that place
  pub there : pt.view.moves q ≡ place.moves → IsThere pt q place.at
  -- and each slot of p's that leads to q, and that no line filled since the update was handled, names that place
  pub links : pt.view.moves q ≡ place.moves → (k : ℕ) → Unfilled handled.group.point (Slot p k) handled.lines → leads_to pt.kernel (Slot p k) ≡ Some q → pt.addresses (Slot p k) ≡ place

-- wherever the rule leads: where all is at rest, a process that sent along a stale link and was told of it has, in the slots it
-- hasn't filled since, links that name where the other now is
abbrev pub CountsPromise : Type 0
CountsPromise =
    (b : Boot) (before between : List Step) (start pt : Point) (d : Step) (sent : Spelled) (p q : Pid) (place : Place) → IsValid b → Leads b (first_point b) before start → Forwards b start d sent p q place.at
    → start.view.known (actor start.view d) q ≡ Forward place.at place.moves → Leads b sent.point between pt → IsQuiet pt.kernel.machines pt.view → LeadsThere b sent.point pt between p q place
