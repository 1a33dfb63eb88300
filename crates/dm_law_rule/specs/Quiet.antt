-- When nothing is on its way between machines.
use Rattle.std.specs.Prelude.{◌≡◌, ◌≢◌, ℕ, ◌<◌, Bool, not, ◌==◌, ◌&&◌, ◌||◌, nat_lt, [], length}
use Rattle.dm_line.specs.Each.{all_below}
use Rattle.dm_law_rule.specs.View.{Pair, View}

-- on each ordered pair of the first n machines all messages that were routed were taken, and, where the machines differ,
-- acknowledged; and every inbox is empty
pub record IsQuiet (n : ℕ) (v : View) : Type 0 where
  pub taken : (a b : ℕ) → a < n → b < n → (v.pair a b).taken ≡ length (v.pair a b).ids
  pub acked : (a b : ℕ) → a < n → b < n → a ≢ b → (v.pair a b).acked ≡ length (v.pair a b).ids
  pub inbox : (m : ℕ) → m < n → v.inbox m ≡ []

-- the test for that: whether a machine's inbox has a message, and whether a pair, perhaps a machine's with itself, has none on
-- its way
abbrev pub has_mail : View → ℕ → Bool
has_mail v m = nat_lt 0 (length (v.inbox m))

abbrev pub pair_is_quiet : Bool → Pair → Bool
pair_is_quiet same p = (p.taken == length p.ids) && (same || (p.acked == length p.ids))

abbrev pub is_quiet : ℕ → View → Bool
is_quiet n v = all_below n (λ a. not (has_mail v a) && all_below n (λ b. pair_is_quiet (a == b) (v.pair a b)))
