-- What stands of an ordered pair of machines and its wire.
use Rattle.std.specs.Prelude.{◌≡◌, ℕ, ◌+◌, ◌<◌, ◌≤◌, true, [], length, slice_get}
use Rattle.std.specs.declared.option.Option.TheVariants.{Some}
use Rattle.dm_line.specs.declared.line.Load.TheVariants as load
use Rattle.dm_law_rule.specs.View.{Pair, SentLoad}
use Rattle.dm_law_rule.specs.Parts.{pair_window}
use Rattle.dm_law_rule.specs.Rule.{has}

-- a pair of different machines, and the pair that leads back: no more was acknowledged than was taken, taken than has gone
-- out, gone out than was routed, and at most the window is out; each data packet of the wire has gone out, each
-- acknowledgement counts no more than was taken on the pair that leads back, and what came early is beyond what was taken
-- and has gone out
pub record PairStands (p back : Pair) : Type 0 where
  pub acked : p.acked ≤ p.taken
  pub taken : p.taken ≤ p.gone
  pub gone : p.gone ≤ length p.ids
  pub full : p.gone ≤ p.acked + pair_window
  pub out : (k n : ℕ) (s : SentLoad) → slice_get p.wire k ≡ Some s → s.load ≡ load.Data n → n < p.gone
  pub counted : (k n : ℕ) (s : SentLoad) → slice_get p.wire k ≡ Some s → s.load ≡ load.Ack n → n ≤ back.taken
  pub kept : (k : ℕ) → has k p.kept ≡ true → (p.taken < k) × (k < p.gone)

-- a machine's pair with itself: each message is taken when it is routed, and nothing is ever on its wire
pub record HomeStands (p : Pair) : Type 0 where
  pub taken : p.taken ≡ length p.ids
  pub gone : p.gone ≡ length p.ids
  pub acked : p.acked ≡ length p.ids
  pub kept : p.kept ≡ []
  pub wire : p.wire ≡ []
