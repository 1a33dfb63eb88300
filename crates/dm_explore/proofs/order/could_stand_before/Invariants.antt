use Rattle.std.specs.Prelude.{◌≡◌, ◌≤◌, ◌-◌, List, drop, length}
use Rattle.dm_explore.specs.Noted.{IsPast}
use Rattle.dm_explore.specs.Order.{could_stand_before}
use Rattle.dm_explore.specs.Past.{Did}
use Rattle.dm_explore.proofs.order.could_stand_before.Given as goal

-- what comes of all of them comes of those that are left
abbrev pub invariant-loop-place : goal.invariant-loop-place
invariant-loop-place l =
    record {
      within : l.place ≤ length l.past.done.items;
      same : (ds : List Did) → IsPast l.past ds → could_stand_before ds l.step l.actor.machine l.actor.away ≡ could_stand_before (drop (length ds - l.place) ds) l.step l.actor.machine l.actor.away;
    }

abbrev pub decreases-loop-place : goal.decreases-loop-place
decreases-loop-place l = l.place
