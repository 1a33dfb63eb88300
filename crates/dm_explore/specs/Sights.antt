-- What is seen of the machines where some directives have led, as far as choices and rest go by it.
use Rattle.std.specs.Prelude.{ℕ, zero, suc, Bool, true, false, not, ◌==◌, ◌&&◌, ◌||◌, nat_lt, length}
use Rattle.std.specs.Option.{option_map_or}
use Rattle.std.specs.declared.option.Option.{Option}
use Rattle.dm_link.specs.declared.Pid.{Pid}
use Rattle.dm_process.specs.declared.process.Process.{Process}
use Rattle.dm_process.specs.declared.process.Status.{Status}
use Rattle.dm_process.specs.declared.process.Status.TheVariants.{Ready, Waiting, Moving}
use Rattle.dm_stream.specs.Sending.{given_count}
use Rattle.dm_onekernel.specs.declared.boot.Boot.{Boot}
use Rattle.dm_kernel.specs.State.{process_in}
use Rattle.dm_world.specs.Next.{world_has_mail, world_serves}
use Rattle.dm_world.specs.World.{WorldState, seat_of}

pub record Sight : Type 0 where
  -- a turn of this machine wouldn't be idle
  pub acts : ℕ → Bool
  -- a message from the first machine to the second waits for an acknowledgement: the window is full
  pub waits : ℕ → ℕ → Bool
  -- a machine would send something again
  pub resends : ℕ → Bool
  -- the machine where the manager is; none while it is on its way
  pub seat : Option ℕ
  -- a process is there, waits or moves data, and isn't stopped
  pub lingers : Pid → Bool

-- whether one of the first n passes a test
abbrev pub any_below : ℕ → (ℕ → Bool) → Bool
any_below zero test = false
any_below (suc n) test = any_below n test || test n

abbrev pub waits_or_moves : Status → Bool
waits_or_moves Ready = false
waits_or_moves (Waiting mask base cap) = true
waits_or_moves (Moving dir owner base own left pending) = true

abbrev pub is_lingering : Process → Bool
is_lingering x = waits_or_moves x.status && not x.stopped

-- as the machines have it
abbrev pub world_acts : WorldState → ℕ → Bool
world_acts w m = world_has_mail w m || world_serves w m

abbrev pub world_waits : WorldState → ℕ → ℕ → Bool
world_waits w a c = nat_lt ((w.nodes a).senders c).gone (given_count ((w.nodes a).senders c))

abbrev pub is_out : WorldState → ℕ → ℕ → Bool
is_out w m c = not (m == c) && nat_lt ((w.nodes m).senders c).acked ((w.nodes m).senders c).gone

abbrev pub world_lingers : ℕ → WorldState → Pid → Bool
world_lingers n w p = any_below n (λ m. option_map_or is_lingering (process_in ((w.nodes m).kernel.records p)) false)

-- what is seen of so many machines
abbrev pub world_sight : ℕ → WorldState → Sight
world_sight n w = record {
  acts = world_acts w;
  waits = world_waits w;
  resends = λ m. any_below n (is_out w m);
  seat = seat_of n w.nodes;
  lingers = world_lingers n w;
}
