-- What exploring leaves out comes to the same, and so what an answer says of all lists of choices.
use Rattle.std.specs.Prelude.{◌≡◌, ℕ, suc, ◌<◌, ◌≤◌, false, true, List, [], ◌∷◌, length}
use Rattle.std.specs.List.{Contains}
use Rattle.std.specs.declared.option.Option.TheVariants.{Some}
use Rattle.dm_onekernel.specs.declared.boot.Boot.{Boot}
use Rattle.dm_onekernel.specs.Boot.{IsValid}
use Rattle.dm_schedule.specs.declared.Step.{Step}
use Rattle.dm_schedule.specs.declared.Step.TheVariants as step
use Rattle.dm_line.specs.declared.line.Line.TheVariants as line
use Rattle.dm_law_rule.specs.Laws.{Leads}
use Rattle.dm_law_rule.specs.Point.{Point, first_point}
use Rattle.dm_node.specs.State.{here}
use Rattle.dm_world.specs.World.{Said, Says, WorldState, world_step}
use Rattle.dm_law_mirror.specs.Stands.{Stands}
use Rattle.dm_explore.specs.Answers.{Found, NoneWithin, answer}
use Rattle.dm_explore.specs.Asked.{Bounds, Question}
use Rattle.dm_explore.specs.Finds.{finds, shows}
use Rattle.dm_explore.specs.Past.{Did, steps_of}
use Rattle.dm_explore.specs.Places.{Place, after_step, tried}
use Rattle.dm_explore.specs.Search.{AreAsked, HasGone}
use Rattle.dm_explore.specs.Sights.{world_acts, world_sight}
use Rattle.dm_law_runs.specs.Choices.Chosen.{Change, Chosen, Moved, Neighbours, WasPut, WorldAs}
use Rattle.dm_law_runs.specs.Choices.RuleSight.{SeesSame, rule_sight}

-- two directives one behind the other that don't meet may change places; the first one delivers no packet that isn't there yet, since the
-- other one might put it
abbrev pub NeighboursChange : Type 0
NeighboursChange =
    (b : Boot) (p v : Place) (d e : Step) (x y : Did) → IsValid b → HasGone b p → HasGone b v → WasPut p.done d → Neighbours b p v d e x y → Change b p v d e x y

-- where a turn would be idle, the machine says so and it leads to the same
abbrev pub IdleIsSame : Type 0
IdleIsSame =
    (b : Boot) (w : WorldState) (m : ℕ) (s : Said) → here (w.nodes m) ≡ m → world_acts w m ≡ false → world_step b w (step.Turn m) ≡ Some (Says s)
    → (s.lines ≡ line.Head (step.Turn m) ∷ line.Idle m ∷ []) × WorldAs w s.state

-- and what is the same goes on the same
pub record SaysSame (b : Boot) (u : WorldState) (e : Step) (s : Said) : Type 0 where
  pub said : Said
  pub happens : world_step b u e ≡ Some (Says said)
  pub lines : said.lines ≡ s.lines
  pub same : WorldAs s.state said.state

abbrev pub GoesSame : Type 0
GoesSame = (b : Boot) (w u : WorldState) (e : Step) (s : Said) → WorldAs w u → world_step b w e ≡ Some (Says s) → SaysSame b u e s

abbrev pub IdleTurnsSayNothing : Type 0
IdleTurnsSayNothing = IdleIsSame × GoesSame

-- the list that is tried of those that come to the same as one
pub record IsTried (b : Boot) (q : Bounds) (p : Place) : Type 0 where
  pub place : Place
  pub tried_ : Contains (tried b q (length p.done)) place
  pub same : place.state ≡ p.state
  -- the same directives with the same groups, in another order
  pub moved : Moved p.done place.done
  pub gone : HasGone b place

abbrev pub OneIsTried : Type 0
OneIsTried = (b : Boot) (q : Bounds) (p : Place) → IsValid b → AreAsked (length b.machines) q → HasGone b p → Chosen b q p → IsTried b q p

-- what is tried but for its last directive
pub record BeginsTried (b : Boot) (q : Bounds) (n : ℕ) (t : Place) : Type 0 where
  pub place : Place
  pub step_ : Step
  pub tried_ : Contains (tried b q n) place
  pub last : after_step b place step_ ≡ Some t

abbrev pub BeginningsAreTried : Type 0
BeginningsAreTried = (b : Boot) (q : Bounds) (n : ℕ) (t : Place) → Contains (tried b q (suc n)) t → BeginsTried b q n t

-- it is found behind a list of choices within the bounds
pub record FindsAt (b : Boot) (q : Bounds) (x : Question) (es : List Step) : Type 0 where
  pub place : Place
  pub chosen : Chosen b q place
  pub steps : steps_of place.done ≡ es
  pub found : finds b x place ≡ true
  pub short : length es ≤ q.depth

abbrev pub AnswersAreSound : Type 0
AnswersAreSound = (b : Boot) (q : Bounds) (x : Question) (es : List Step) → answer b q x ≡ Found es → FindsAt b q x es

-- no list of fewer choices than n has it, in any order, and not in its midst either
abbrev pub NoneBelow : Boot → Bounds → Question → ℕ → Type 0
NoneBelow b q x n = (p : Place) → HasGone b p → Chosen b q p → length p.done < n → shows b x p ≡ false

abbrev pub NoneIsComplete : Type 0
NoneIsComplete =
    (b : Boot) (q : Bounds) (x : Question) (count : ℕ) → IsValid b → AreAsked (length b.machines) q → answer b q x ≡ NoneWithin q.depth count → NoneBelow b q x (suc q.depth)

abbrev pub AnswersAreLeast : Type 0
AnswersAreLeast =
    (b : Boot) (q : Bounds) (x : Question) (es : List Step) → IsValid b → AreAsked (length b.machines) q → answer b q x ≡ Found es → NoneBelow b q x (length es)

-- what is seen of the machines is what the printed lines say
abbrev pub SightsAreSaid : Type 0
SightsAreSaid =
    (b : Boot) (es : List Step) (w : WorldState) (pt : Point) → IsValid b → Leads b (first_point b) es pt → Stands b w pt
    → SeesSame (length b.machines) (world_sight (length b.machines) w) (rule_sight (length b.machines) pt)
