-- The sending side of a stream: messages are numbered from 0 in the order in which they are given.
use Rattle.std.specs.Prelude.{ℕ, ◌+◌, ◌-◌, ◌^◌, ◌<◌, ◌≤◌, max, nat_lt, if◌then◌else◌, List, [], ◌∷◌, ◌++◌, length, drop, slice_get, Option, None, refl, option_map}
use Rattle.std.specs.Coded.{Coded, code_by, coded×, coded_list, coded_ℕ}

-- at most so many messages have gone out and aren't acknowledged yet
abbrev pub window : ℕ
window = 8

-- what a sender knows: how many messages it may be given in all, how many are acknowledged, how many have gone
-- out, and the messages that aren't acknowledged, whose numbers go up from `acked`
pub record Sending (M : Type 0) : Type 0 where
  pub numbers : ℕ
  pub acked : ℕ
  pub gone : ℕ
  pub unacked : List M

module _ {M : Type 0} where
  abbrev pub sending_code : Coded M → Coded (Sending M)
  sending_code c =
      code_by
      (ℕ × (ℕ × (ℕ × List M)))
      (coded× coded_ℕ (coded× coded_ℕ (coded× coded_ℕ (coded_list c))))
      (λ s. (s.numbers, (s.acked, (s.gone, s.unacked))))
      (λ p. record { numbers = p.0; acked = p.1.0; gone = p.1.1.0; unacked = p.1.1.1 })
      (λ _. refl)

  -- how many messages were given
  abbrev pub given_count : Sending M → ℕ
  given_count s = s.acked + length s.unacked

  -- nothing is given, and so many messages may be
  abbrev pub fresh_sending : ℕ → Sending M
  fresh_sending numbers = record { numbers = numbers; acked = 0; gone = 0; unacked = [] }

  -- the counts are in order: acknowledged, gone out, given, allowed; and the window holds; each number is a u32
  pub record IsSending (s : Sending M) : Type 0 where
    pub acked_gone : s.acked ≤ s.gone
    pub gone_given : s.gone ≤ given_count s
    pub given_allowed : given_count s ≤ s.numbers
    pub in_window : s.gone ≤ s.acked + window
    pub small : s.numbers < 2 ^ 32

  abbrev pub numbered : ℕ → Option M → Option (ℕ × M)
  numbered n o = option_map (λ m. (n, m)) o

  -- the next message that may go out, with its number
  abbrev pub due : Sending M → Option (ℕ × M)
  due s = if nat_lt s.gone (s.acked + window) then numbered s.gone (slice_get s.unacked (s.gone - s.acked)) else None

  -- the k-th of the messages that have gone out and aren't acknowledged, with its number
  abbrev pub outstanding : Sending M → ℕ → Option (ℕ × M)
  outstanding s k = if nat_lt (s.acked + k) s.gone then numbered (s.acked + k) (slice_get s.unacked k) else None

  -- one more message is given
  abbrev pub with_given : Sending M → M → Sending M
  with_given s m = record { numbers = s.numbers; acked = s.acked; gone = s.gone; unacked = s.unacked ++ m ∷ [] }

  -- one more message has gone out
  abbrev pub with_sent : Sending M → Sending M
  with_sent s = record { numbers = s.numbers; acked = s.acked; gone = s.gone + 1; unacked = s.unacked }

  -- the first n messages are acknowledged
  abbrev pub with_acked : Sending M → ℕ → Sending M
  with_acked s n =
      record { numbers = s.numbers; acked = max s.acked n; gone = s.gone; unacked = drop (n - s.acked) s.unacked }
