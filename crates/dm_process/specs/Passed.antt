-- How far a queue was looked through for a channel.
use Rattle.std.specs.Prelude.{◌≡◌, ◌⊎◌, ℕ, zero, suc, ◌<◌, ◌-◌, Bool, true, false, ◌==◌, nat_lt, if◌then◌else◌, List, [], ◌∷◌, slice_index_or}
use Rattle.dm_message.specs.declared.Message.{Message}
use Rattle.dm_message.specs.declared.What.{What}
use Rattle.dm_message.specs.declared.What.TheVariants as what
use Rattle.dm_process.specs.Mail.{HasPassed, on_mask}

-- a user message on this channel
abbrev pub what_is_of : ℕ → What → Bool
what_is_of c (what.User code channel body links) = channel == c
what_is_of c w = false

-- so many messages from the front on aren't on the channel
abbrev pub AreOff : ℕ → ℕ → List Message → Type 0
AreOff c zero ms = Unit {0}
AreOff c (suc n) [] = ⊥
AreOff c (suc n) (m ∷ ms) = (what_is_of c m.what ≡ false) × AreOff c n ms

-- so it is for each channel
abbrev pub ArePassed : List ℕ → List Message → Type 0
ArePassed places ms = (c : ℕ) → c < 32 → AreOff c (slice_index_or places c 0) ms

-- and for the mask that was looked for last
pub record WasSearched (mask passed : ℕ) (places : List ℕ) (ms : List Message) : Type 0 where
  pub last : HasPassed mask passed ms
  pub others : ArePassed places ms

-- a place stays, or is that to which the mask was looked for
abbrev pub IsKept : ℕ → ℕ → ℕ → ℕ → ℕ → Type 0
IsKept mask passed c old new = (new ≡ old) ⊎ ((on_mask mask c ≡ true) × (new ≡ passed))

-- a message at a place is taken
abbrev pub shifted : ℕ → ℕ → ℕ
shifted place passed = if nat_lt place passed then passed - 1 else passed

-- where nothing is known of any channel, each number is 0
abbrev pub AreNone : Bool → List ℕ → Type 0
AreNone any places = any ≡ false → (c : ℕ) → c < 32 → slice_index_or places c 0 ≡ 0
