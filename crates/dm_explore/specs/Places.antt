-- The places where lists of directives lead, and which lists are tried.
use Rattle.std.specs.Prelude.{◌≡◌, ℕ, zero, suc, Bool, not, List, [], ◌∷◌, length, filter, filter_map}
use Rattle.std.specs.List.{flat_map}
use Rattle.std.specs.declared.option.Option.{Option}
use Rattle.std.specs.declared.option.Option.TheVariants.{None, Some}
use Rattle.dm_onekernel.specs.declared.boot.Boot.{Boot}
use Rattle.dm_schedule.specs.declared.Step.{Step}
use Rattle.dm_world.specs.World.{Happened, Says, WornOut, WorldState, first_world, world_step}
use Rattle.dm_explore.specs.Asked.{Bounds}
use Rattle.dm_explore.specs.Choices.{choices}
use Rattle.dm_explore.specs.Order.{is_away, is_left_out, machine_of}
use Rattle.dm_explore.specs.Past.{Did}
use Rattle.dm_explore.specs.Sights.{Sight, world_sight}

-- what was done, the last directive first, and where the machines are then
pub record Place : Type 0 where
  pub done : List Did
  pub state : WorldState

-- nothing was done yet
abbrev pub first_place : Boot → Place
first_place b = record { done = []; state = first_world b }

abbrev pub sight : Boot → Place → Sight
sight b p = world_sight (length b.machines) p.state

-- the place behind what a directive comes to; none where it wears a pair of machines
abbrev pub behind : Boot → Place → Step → Option Happened → Option Place
behind b p e None = None
behind b p e (Some (WornOut from to)) = None
behind b p e (Some (Says said)) =
    Some (record { done = record { step = e; machine = machine_of (sight b p) e; away = is_away (sight b p) e; lines = said.lines } ∷ p.done; state = said.state })

-- the place behind one more directive
abbrev pub after_step : Boot → Place → Step → Option Place
after_step b p e = behind b p e (world_step b p.state e)

-- what may be chosen at a place
abbrev pub chosen_at : Boot → Bounds → Place → List Step
chosen_at b q p = choices (length b.machines) q (sight b p) p.done

-- and isn't left out there
abbrev pub open_at : Boot → Bounds → Place → List Step
open_at b q p = filter (λ e. not (is_left_out (sight b p) p.done e)) (chosen_at b q p)

-- the places behind these
abbrev pub opened : Boot → Bounds → Place → List Place
opened b q p = filter_map (after_step b p) (open_at b q p)

-- the places that are tried so many directives behind one, in order
unfoldable pub tried_behind : Boot → Bounds → Place → ℕ → List Place
tried_behind b q p zero = p ∷ []
tried_behind b q p (suc n) = flat_map (λ u. tried_behind b q u n) (opened b q p)

-- the places where schedules of so many directives lead that are tried
abbrev pub tried : Boot → Bounds → ℕ → List Place
tried b q n = tried_behind b q (first_place b) n
