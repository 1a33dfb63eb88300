-- Where a message stands, and that it stands in one place.
use Rattle.std.specs.Prelude.{◌≡◌, ◌≢◌, ◌⊎◌, ℕ, ◌+◌, Bool, true, false, if◌then◌else◌, List, [], ◌∷◌, drop, MatchOption}
use Rattle.std.specs.declared.option.Option.{Option}
use Rattle.std.specs.declared.option.Option.TheVariants.{None, Some}
use Rattle.dm_link.specs.declared.Pid.{Pid}
use Rattle.dm_message.specs.declared.MsgId.{MsgId}
use Rattle.dm_message.specs.Ids.{id_eq}
use Rattle.dm_law_rule.specs.View.{View, Pair, is_kernels}

-- the lists that messages stand in
pub data Spot : Type 0 where
  Queue : (machine : ℕ) → (process : Pid) → Spot
  Held : (machine : ℕ) → (process : Pid) → Spot
  Inbox : (machine : ℕ) → Spot
  Untaken : (from : ℕ) → (to : ℕ) → Spot

-- how often the message stands in the list
abbrev pub times : MsgId → List MsgId → ℕ
times i [] = 0
times i (j ∷ js) = (if id_eq i j then 1 else 0) + times i js

-- the messages of a pair that were not taken yet
abbrev pub untaken : Pair → List MsgId
untaken p = drop p.taken p.ids

abbrev pub ids_at : View → Spot → List MsgId
ids_at v (Queue m p) = v.queue m p
ids_at v (Held m p) = v.held m p
ids_at v (Inbox m) = v.inbox m
ids_at v (Untaken a b) = untaken (v.pair a b)

-- how often the message stands at each spot
abbrev pub standing : View → MsgId → Spot → ℕ
standing v i spot = times i (ids_at v spot)

abbrev pub StandsOnce : (Spot → ℕ) → Type 0
StandsOnce f = (spot : Spot) × (f spot ≡ 1) × ((other : Spot) → other ≢ spot → f other ≡ 0)

abbrev pub StandsNowhere : (Spot → ℕ) → Type 0
StandsNowhere f = (spot : Spot) → f spot ≡ 0

-- a message that is there stands in one place, and one that isn't stands nowhere
abbrev pub StandsAsBag : {M : Type 0} → Option M → (Spot → ℕ) → Type 0
StandsAsBag None f = StandsNowhere f
StandsAsBag (Some m) f = StandsOnce f

-- a message that isn't in the bag, by whether it is a kernel's own
abbrev pub StandsOutside : Bool → (Spot → ℕ) → Type 0
StandsOutside true f = StandsNowhere f ⊎ StandsOnce f
StandsOutside false f = StandsNowhere f

-- a message of the bag stands in one place; one that isn't in the bag stands nowhere, but a kernel's own in at most one place
abbrev pub StandsRight : {M : Type 0} → MsgId → Option M → (Spot → ℕ) → Type 0
StandsRight id message f = MatchOption message (StandsOutside (is_kernels id) f) (λ m. StandsOnce f)
