-- Which message a waiting process takes.
use Rattle.std.specs.Prelude.{◌≡◌, ◌≤◌, ℕ, ◌/◌, ◌%◌, ◌^◌, Bool, false, ◌==◌, ◌&&◌, nat_lt, if◌then◌else◌, List, [], ◌∷◌, length, take}
use Rattle.std.specs.declared.option.Option.{Option}
use Rattle.std.specs.declared.option.Option.TheVariants.{None, Some}
use Rattle.dm_message.specs.declared.Message.{Message}
use Rattle.dm_message.specs.declared.What.{What}
use Rattle.dm_message.specs.declared.What.TheVariants as what

-- the channel is one of the mask's
abbrev pub on_mask : ℕ → ℕ → Bool
on_mask mask channel = nat_lt channel 32 && ((mask / 2 ^ channel) % 2 == 1)

-- a user message on a channel of the mask
abbrev pub what_is_on : ℕ → What → Bool
what_is_on mask (what.User code channel body links) = on_mask mask channel
what_is_on mask what.Stop = false
what_is_on mask what.Resume = false
what_is_on mask what.Kill = false
what_is_on mask (what.Read base len) = false
what_is_on mask (what.Write base bytes) = false
what_is_on mask (what.Block bytes) = false
what_is_on mask what.Written = false
what_is_on mask what.Gone = false
what_is_on mask (what.Create image links) = false
what_is_on mask (what.Created pid) = false
what_is_on mask what.NoRoom = false
what_is_on mask (what.Migrate machine) = false
what_is_on mask (what.Update about) = false
what_is_on mask (what.Ask pid blocks moves size asker) = false
what_is_on mask (what.Refuse pid slots blocks) = false
what_is_on mask (what.PullState pid chunk) = false
what_is_on mask (what.State pid chunk last bytes) = false
what_is_on mask (what.PullBlock pid block) = false
what_is_on mask (what.Memory pid block bytes) = false
what_is_on mask (what.AllTaken pid) = false
what_is_on mask (what.Restart pid) = false
what_is_on mask (what.Move machine) = false
what_is_on mask (what.Moved outcome) = false
what_is_on mask (what.CallOff pid) = false
what_is_on mask (what.Bury pid) = false

abbrev pub is_on : ℕ → Message → Bool
is_on mask m = what_is_on mask m.what

-- the first message on the mask
abbrev pub first_on : ℕ → List Message → Option Message
first_on mask [] = None
first_on mask (m ∷ ms) = if is_on mask m then Some m else first_on mask ms

-- the messages without that one
abbrev pub without_first_on : ℕ → List Message → List Message
without_first_on mask [] = []
without_first_on mask (m ∷ ms) = if is_on mask m then ms else m ∷ without_first_on mask ms

-- so many messages from the front on aren't on the mask
pub record HasPassed (mask n : ℕ) (ms : List Message) : Type 0 where
  pub within : n ≤ length ms
  pub none : first_on mask (take n ms) ≡ None
