-- Lists of choices, in any order, and what two of them have in common.
use Rattle.std.specs.Prelude.{◌≡◌, ⊤, ℕ, false, true, List, ◌∷◌, length}
use Rattle.std.specs.List.{Contains}
use Rattle.std.specs.declared.option.Option.TheVariants.{Some}
use Rattle.dm_onekernel.specs.declared.boot.Boot.{Boot}
use Rattle.dm_schedule.specs.declared.Step.{Step}
use Rattle.dm_schedule.specs.declared.Step.TheVariants as step
use Rattle.dm_kernel.specs.State.{KernelState}
use Rattle.dm_node.specs.State.{NodeState}
use Rattle.dm_world.specs.World.{WorldState}
use Rattle.dm_explore.specs.Asked.{Bounds}
use Rattle.dm_explore.specs.Order.{delivers_of, is_away, machine_of, meet}
use Rattle.dm_explore.specs.Past.{Did, sent}
use Rattle.dm_explore.specs.Places.{Place, after_step, chosen_at, first_place, sight}
use Rattle.dm_explore.specs.Search.{AreAsked, HasGone}

-- a place where a list of choices leads, of which none need be left out
pub data Chosen (b : Boot) (q : Bounds) : Place → Type 0 where
  begins : Chosen b q (first_place b)
  goes : (p u : Place) (e : Step) → Chosen b q p → Contains (chosen_at b q p) e → after_step b p e ≡ Some u → Chosen b q u

-- the directive does not meet the one that was done last
abbrev pub IsApart : Boot → Did → Place → Step → Type 0
IsApart b d u e = meet d e (machine_of (sight b u) e) (is_away (sight b u) e) ≡ false

-- the packet that it delivers was put by some of these
abbrev pub WasPut : List Did → Step → Type 0
WasPut ds (step.Turn m) = ⊤
WasPut ds (step.Tick m) = ⊤
WasPut ds (step.Deliver a c k) = delivers_of (sent ds) (step.Deliver a c k) ≡ true
WasPut ds (step.Migrate p m) = ⊤
WasPut ds (step.CallOff p m) = ⊤

-- two directives one behind the other: what each did, and the places behind them
pub record Neighbours (b : Boot) (p v : Place) (d e : Step) (x y : Did) : Type 0 where
  pub between : Place
  pub first : after_step b p d ≡ Some between
  pub second : after_step b between e ≡ Some v
  pub done : between.done ≡ x ∷ p.done
  pub both : v.done ≡ y ∷ x ∷ p.done
  pub apart : IsApart b x between e

-- all that comes of them in the other order: the same groups, by the same machines, and the same place
pub record Change (b : Boot) (p v : Place) (d e : Step) (x y : Did) : Type 0 where
  pub between : Place
  pub last : Place
  pub first : after_step b p e ≡ Some between
  pub second : after_step b between d ≡ Some last
  pub done : between.done ≡ y ∷ p.done
  pub both : last.done ≡ x ∷ y ∷ p.done
  pub same : last.state ≡ v.state
  pub gone : HasGone b last
  -- where both were choices, they still are
  pub chosen : (q : Bounds) → AreAsked (length b.machines) q → Contains (chosen_at b q p) d → (u : Place) → after_step b p d ≡ Some u → Contains (chosen_at b q u) e → Contains (chosen_at b q p) e × Contains (chosen_at b q between) d

-- a list in another order
pub data Moved {X : Type 0} : List X → List X → Type 0 where
  stays : (xs : List X) → Moved xs xs
  changes : (x y : X) (xs : List X) → Moved (x ∷ y ∷ xs) (y ∷ x ∷ xs)
  keeps : (x : X) (xs ys : List X) → Moved xs ys → Moved (x ∷ xs) (x ∷ ys)
  and : (xs ys zs : List X) → Moved xs ys → Moved ys zs → Moved xs zs

-- two worlds are the same but for how many directives there were, and who ended in a machine's last turn, which its next one forgets
pub record KernelAs (k l : KernelState) : Type 0 where
  pub is : l ≡ record k { over = l.over }

pub record NodeAs (n o : NodeState) : Type 0 where
  pub kernel : KernelAs n.kernel o.kernel
  pub is : o ≡ record n { kernel = o.kernel }

pub record WorldAs (w u : WorldState) : Type 0 where
  pub nodes : (m : ℕ) → NodeAs (w.nodes m) (u.nodes m)
  pub is : u ≡ record w { nodes = u.nodes; groups = u.groups }
