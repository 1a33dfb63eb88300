-- What has been done on an ordered pair of machines, behind each group.
use Rattle.std.specs.Prelude.{◌≡◌, ◌⊎◌, ℕ, ◌+◌, ◌<◌, ◌≤◌, true, false, List, [], ◌∷◌, length}
use Rattle.dm_line.specs.declared.line.Load.{Load}
use Rattle.dm_line.specs.declared.line.Load.TheVariants as load
use Rattle.dm_law_rule.specs.Parts.{pair_window}
use Rattle.dm_law_rule.specs.Rule.{has}
use Rattle.dm_law_rule.specs.View.{Pair, SentLoad}

-- some packet that was put on a wire carries this
abbrev pub HasPacket : List SentLoad → Load → Type 0
HasPacket [] l = ⊥
HasPacket (s ∷ ss) l = (s.load ≡ l) ⊎ HasPacket ss l

-- and was delivered
abbrev pub HasCome : List SentLoad → Load → Type 0
HasCome [] l = ⊥
HasCome (s ∷ ss) l = ((s.load ≡ l) × (s.delivered ≡ true)) ⊎ HasCome ss l

-- a pair of different machines, and the pair that leads back: each machine has done its part
pub record PairRests (p back : Pair) : Type 0 where
  -- what may go out has gone: all of it, or as much as the window allows
  pub gone : (p.gone ≡ length p.ids) ⊎ (p.gone ≡ p.acked + pair_window)
  -- the next number isn't among those that came early
  pub next : has p.taken p.kept ≡ false
  -- each number that has gone out has a packet; what came was taken, or is kept
  pub sent : (n : ℕ) → n < p.gone → HasPacket p.wire (load.Data n)
  pub there : (n : ℕ) → HasCome p.wire (load.Data n) → (n < p.taken) ⊎ (has n p.kept ≡ true)
  -- the count of what was taken was acknowledged, once it isn't 0; an acknowledgement that came was heard
  pub answered : (p.taken ≡ 0) ⊎ HasPacket back.wire (load.Ack p.taken)
  pub heard : (n : ℕ) → HasCome back.wire (load.Ack n) → n ≤ p.acked
