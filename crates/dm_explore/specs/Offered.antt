-- What the functions that offer choices promise.
use Rattle.std.specs.Prelude.{◌≡◌, ℕ, not, List, ◌++◌, filter, length}
use Rattle.dm_schedule.specs.declared.Step.{Step}
use Rattle.dm_world.specs.declared.world.World.{World}
use Rattle.dm_world.specs.Meets.{world_state}
use Rattle.dm_explore.specs.declared.past.Past.{Past as ThePast}
use Rattle.dm_explore.specs.Noted.{IsPast}
use Rattle.dm_explore.specs.Order.{is_left_out}
use Rattle.dm_explore.specs.Past.{Did}
use Rattle.dm_explore.specs.Sights.{Sight, world_sight}

abbrev pub sight_of : World → Sight
sight_of w = world_sight (length w.boot.machines) (world_state w)

-- those of some choices that aren't left out
abbrev pub left_in : Sight → List Did → List Step → List Step
left_in s ds es = filter (λ e. not (is_left_out s ds e)) es

-- to some choices those of these are added that aren't left out
abbrev pub Offers : World → ThePast → (ℕ → Sight → List Did → List Step) → List Step → List Step → Type 0
Offers w p some old new = (ds : List Did) → IsPast p ds → new ≡ old ++ left_in (sight_of w) ds (some (length w.boot.machines) (sight_of w) ds)
