-- How much is left until nothing is on its way any more.
use Rattle.std.specs.Prelude.{ℕ, ◌+◌, ◌-◌, ◌*◌, ◌^◌, ◌<◌, ◌≤◌, Bool, true, false, if◌then◌else◌, List, [], ◌∷◌, length}
use Rattle.std.specs.declared.option.Option.{Option}
use Rattle.std.specs.declared.option.Option.TheVariants.{None, Some}
use Rattle.dm_message.specs.declared.MsgId.{MsgId}
use Rattle.dm_message.specs.declared.kind.MessageKind.{MessageKind}
use Rattle.dm_message.specs.Sorts.{Sort, sort_of}
use Rattle.dm_message.specs.Sorts as sort
use Rattle.dm_line.specs.declared.line.Load.{Load}
use Rattle.dm_line.specs.declared.line.Load.TheVariants as load
use Rattle.dm_line.specs.Each.{sum_below}
use Rattle.dm_law_rule.specs.Spots.{untaken}
use Rattle.dm_law_rule.specs.View.{Pair, SentLoad, Told, View}

-- a message that lets go what was held back, once it is handled: a restart, a refusal, or that a migration is called off
abbrev pub releases : Sort → Bool
releases (sort.Between sort.Restart) = true
releases (sort.Between sort.Refuse) = true
releases (sort.Between sort.CallOff) = true
releases s = false

abbrev pub lets_go : MessageKind → Bool
lets_go k = releases (sort_of k)

abbrev pub told_lets_go : Option Told → Bool
told_lets_go None = false
told_lets_go (Some t) = lets_go t.kind

-- the sum of a weight of each of some messages
abbrev pub weight : (MsgId → ℕ) → List MsgId → ℕ
weight f [] = 0
weight f (i ∷ is) = f i + weight f is

-- of all messages that are on their way to machine m from the first n: those in its inbox, and those not taken yet
abbrev pub weight_to : (MsgId → ℕ) → ℕ → View → ℕ → ℕ
weight_to f n v m = weight f (v.inbox m) + sum_below (λ a. weight f (untaken (v.pair a m))) n

-- and to all of them
abbrev pub weight_of : (MsgId → ℕ) → ℕ → View → ℕ
weight_of f n v = sum_below (weight_to f n v) n

abbrev pub one_each : MsgId → ℕ
one_each i = 1

abbrev pub one_let_go : View → MsgId → ℕ
one_let_go v i = if told_lets_go (v.told i) then 1 else 0

-- how many messages n machines may still route, each to each
abbrev pub numbers_left : ℕ → ℕ → View → ℕ
numbers_left numbers n v = sum_below (λ a. sum_below (λ c. numbers - length (v.pair a c).ids) n) n

-- what is left for the wire of a pair: four for each message that hasn't gone out, two for each of its packets that was never
-- delivered, one for each acknowledgement
abbrev pub load_left : Load → ℕ
load_left (load.Data n) = 2
load_left (load.Ack n) = 1

abbrev pub wire_left : List SentLoad → ℕ
wire_left [] = 0
wire_left (s ∷ ss) = (if s.delivered then 0 else load_left s.load) + wire_left ss

abbrev pub pair_left : Pair → ℕ
pair_left p = 4 * (length p.ids - p.gone) + wire_left p.wire

-- what is left: how many messages may still be routed; how many restarts and refusals are on their way; how many messages are; and
-- how much is left for the wires
pub record Left : Type 0 where
  pub numbers : ℕ
  pub releases : ℕ
  pub messages : ℕ
  pub packets : ℕ

abbrev pub left : ℕ → ℕ → View → Left
left numbers n v =
    record {
      numbers = numbers_left numbers n v;
      releases = weight_of (one_let_go v) n v;
      messages = weight_of one_each n v;
      packets = sum_below (λ a. sum_below (λ c. pair_left (v.pair a c)) n) n;
    }

-- less is left: the first of these numbers that rises or falls, falls
pub data IsLess (x y : Left) : Type 0 where
  Numbers : x.numbers < y.numbers → IsLess x y
  Releases : x.numbers ≤ y.numbers → x.releases < y.releases → IsLess x y
  Messages : x.numbers ≤ y.numbers → x.releases ≤ y.releases → x.messages < y.messages → IsLess x y
  Packets : x.numbers ≤ y.numbers → x.releases ≤ y.releases → x.messages ≤ y.messages → x.packets < y.packets → IsLess x y

-- the first three as one number: there are fewer than 2 ^ 30 messages at any time
abbrev pub turns_left : Left → ℕ
turns_left x = x.numbers * 2 ^ 60 + x.releases * 2 ^ 30 + x.messages
