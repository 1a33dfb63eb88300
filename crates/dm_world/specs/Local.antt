-- What a directive leaves as it was.
use Rattle.std.specs.Prelude.{◌≡◌, ◌≢◌, ℕ, List, length, map}
use Rattle.std.specs.Option.{unwrap_or}
use Rattle.dm_onekernel.specs.declared.boot.Boot.{Boot}
use Rattle.dm_wire.specs.Sent.{Sent}
use Rattle.dm_schedule.specs.declared.Step.{Step}
use Rattle.dm_schedule.specs.declared.Step.TheVariants as step
use Rattle.dm_world.specs.World.{WorldState, seat_of}

-- the machine that a directive lets act: that where the manager is, for a request to move; while it is on its way none acts, and what is
-- said is machine 0's
abbrev pub acts_on : Boot → WorldState → Step → ℕ
acts_on b w (step.Turn m) = m
acts_on b w (step.Tick m) = m
acts_on b w (step.Deliver a c k) = c
acts_on b w (step.Migrate p m) = unwrap_or (seat_of (length b.machines) w.nodes) 0
acts_on b w (step.CallOff p m) = m

abbrev pub bytes_of : Sent → List ℕ
bytes_of p = p.bytes

-- the machines but for m are as they were, and no packet goes on the wire of another machine
pub record ActsAlone (m : ℕ) (old new : WorldState) : Type 0 where
  pub nodes : (c : ℕ) → c ≢ m → new.nodes c ≡ old.nodes c
  pub wires : (a c : ℕ) → a ≢ m → map bytes_of (new.wires a c) ≡ map bytes_of (old.wires a c)
