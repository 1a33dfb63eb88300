-- Which directives meet, and which are left out since they come to the same in another place.
use Rattle.std.specs.Prelude.{ℕ, Bool, true, false, ◌==◌, ◌&&◌, ◌||◌, nat_lt, is_none, if◌then◌else◌, List, [], ◌∷◌}
use Rattle.std.specs.List.{list_any}
use Rattle.std.specs.Option.{unwrap_or}
use Rattle.dm_schedule.specs.declared.Step.{Step}
use Rattle.dm_schedule.specs.declared.Step.TheVariants as step
use Rattle.dm_explore.specs.Past.{Did, puts_in}
use Rattle.dm_explore.specs.declared.past.Put.{Put}
use Rattle.dm_explore.specs.Sights.{Sight}

-- the machine that a directive lets act: that where the manager is, for a request to move; while it is on its way no machine acts, and
-- the lines are machine 0's
abbrev pub machine_of : Sight → Step → ℕ
machine_of s (step.Turn m) = m
machine_of s (step.Tick m) = m
machine_of s (step.Deliver a c k) = c
machine_of s (step.Migrate p m) = unwrap_or s.seat 0
machine_of s (step.CallOff p m) = m

-- a request to move, while the manager is on its way
abbrev pub is_away : Sight → Step → Bool
is_away s (step.Turn m) = false
is_away s (step.Tick m) = false
is_away s (step.Deliver a c k) = false
is_away s (step.Migrate p m) = is_none s.seat
is_away s (step.CallOff p m) = false

abbrev pub is_put : ℕ → ℕ → ℕ → Put → Bool
is_put a c k p = (a == p.from) && (c == p.to) && (k == p.k)

-- it delivers a packet that these lines say was put
abbrev pub delivers_of : List Put → Step → Bool
delivers_of ps (step.Deliver a c k) = list_any (is_put a c k) ps
delivers_of ps (step.Turn m) = false
delivers_of ps (step.Tick m) = false
delivers_of ps (step.Migrate p m) = false
delivers_of ps (step.CallOff p m) = false

-- a directive meets a later one, that lets this machine act, or finds the manager on its way: both act on one machine, or the later one
-- delivers a packet that the earlier one put, or one of them is a request to move while the manager is on its way
abbrev pub meet : Did → Step → ℕ → Bool → Bool
meet d e m away = d.away || away || (d.machine == m) || delivers_of (puts_in d.lines) e

-- behind the last directive that it meets, or from the start where it meets none, one stands that acts on a machine with a higher
-- number: it could stand before that one
abbrev pub could_stand_before : List Did → Step → ℕ → Bool → Bool
could_stand_before [] e m away = false
could_stand_before (d ∷ ds) e m away = if meet d e m away then false else (nat_lt m d.machine || could_stand_before ds e m away)

abbrev pub is_left_out : Sight → List Did → Step → Bool
is_left_out s ds e = could_stand_before ds e (machine_of s e) (is_away s e)
