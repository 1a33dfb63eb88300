-- The machine of the code, over the plain one.
use Rattle.std.specs.Prelude.{◌≡◌, ⊤, ℕ, true, false, List, length, slice_index_or}
use Rattle.std.specs.declared.option.Option.{Option}
use Rattle.std.specs.declared.option.Option.TheVariants.{None, Some}
use Rattle.std.specs.declared.result.Result.{Result}
use Rattle.std.specs.declared.result.Result.TheVariants.{Ok, Err}
use Rattle.dm_message.specs.declared.Message.{Message}
use Rattle.dm_stream.specs.Sending.{Sending, fresh_sending, with_given}
use Rattle.dm_stream.specs.Receiving.{Receiving, fresh_receiving}
use Rattle.dm_kernel.specs.Idle.{KnowsIdle}
use Rattle.dm_kernel.specs.Meets as kernel
use Rattle.dm_node.specs.declared.node.Node.{Node}
use Rattle.dm_node.specs.declared.stop.Stop.{Stop}
use Rattle.dm_node.specs.declared.stop.Stop.TheVariants as stop
use Rattle.dm_node.specs.State.{NodeState, here, with_sender}
use Rattle.dm_node.specs.Out.{Acted, Acts, Goes, Worn}
use Rattle.dm_node.specs.Acts.{is_worn}
use Rattle.dm_node.specs.Wired.{Spoken, Spoke}

-- the streams with machine b
abbrev pub sender_at : List (Sending Message) → ℕ → Sending Message
sender_at senders b = slice_index_or senders b (fresh_sending 0)

abbrev pub receiver_at : List (Receiving Message) → ℕ → Receiving Message
receiver_at receivers b = slice_index_or receivers b fresh_receiving

abbrev pub node_state : Node → NodeState
node_state n =
    record {
      kernel = kernel.kernel_state n.kernel;
      machines = n.machines;
      numbers = n.numbers;
      home = n.home;
      senders = sender_at n.senders.items;
      receivers = receiver_at n.receivers.items;
    }

-- there is a stream to and from each of sixteen machines; and what the kernel remembers of its ring is so
pub record HasStreams (n : Node) : Type 0 where
  pub senders : length n.senders.items ≡ 16
  pub receivers : length n.receivers.items ≡ 16
  pub idle : KnowsIdle n.kernel

-- a machine's stream has one more message
pub record GaveTo (new : Node) (n : NodeState) (b : ℕ) (m : Message) : Type 0 where
  pub not_worn : is_worn (n.senders b) ≡ false
  pub state : node_state new ≡ with_sender n b (with_given (n.senders b) m)
  pub streams : HasStreams new

-- a message can't be given, since all numbers of the stream are used
pub record IsWornTo (x y : ℕ) (n : NodeState) (b : ℕ) : Type 0 where
  pub worn : is_worn (n.senders b) ≡ true
  pub from : x ≡ here n
  pub to : y ≡ b

abbrev pub Gives : Result Unit Stop → Node → NodeState → ℕ → Message → Type 0
Gives (Ok done) new n b m = GaveTo new n b m
Gives (Err (stop.Worn from to)) new n b m = IsWornTo from to n b
Gives (Err (stop.NoMemory e)) new n b m = ⊤

-- the code says these behind what was said, or has no memory
pub record Gave (n : Node) (old new : Spoken) (a : Acted) : Type 0 where
  pub state : node_state n ≡ a.state
  pub streams : HasStreams n
  pub outs : Spoke old new a.outs

abbrev pub GaveActs : Node → Spoken → Spoken → Acts → Type 0
GaveActs n old new (Goes a) = Gave n old new a
GaveActs n old new (Worn from to) = ⊥

abbrev pub IsWorn : ℕ → ℕ → Acts → Type 0
IsWorn from to (Goes a) = ⊥
IsWorn from to (Worn x y) = (from ≡ x) × (to ≡ y)

abbrev pub Answers : Result Unit Stop → Node → Spoken → Spoken → Acts → Type 0
Answers (Ok done) n old new a = GaveActs n old new a
Answers (Err (stop.Worn from to)) n old new a = IsWorn from to a
Answers (Err (stop.NoMemory e)) n old new a = ⊤

abbrev pub GaveSome : Node → Spoken → Spoken → Option Acts → Type 0
GaveSome n old new None = ⊥
GaveSome n old new (Some a) = GaveActs n old new a

abbrev pub IsWornSome : ℕ → ℕ → Option Acts → Type 0
IsWornSome from to None = ⊥
IsWornSome from to (Some a) = IsWorn from to a

abbrev pub AnswersSome : Result Unit Stop → Node → Spoken → Spoken → Option Acts → Type 0
AnswersSome (Ok done) n old new a = GaveSome n old new a
AnswersSome (Err (stop.Worn from to)) n old new a = IsWornSome from to a
AnswersSome (Err (stop.NoMemory e)) n old new a = ⊤

-- this holds, unless there was no memory
abbrev pub IfWorn : Stop → Type 0 → Type 0
IfWorn (stop.Worn from to) P = P
IfWorn (stop.NoMemory e) P = ⊤

abbrev pub OrNoMemory : {X : Type 0} → Result X Stop → Type 0 → Type 0
OrNoMemory (Ok done) P = P
OrNoMemory (Err s) P = IfWorn s P
