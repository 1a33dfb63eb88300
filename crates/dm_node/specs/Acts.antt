-- What a turn, a tick and an arrival give on one machine.
use Rattle.std.specs.Prelude.{ℕ, zero, suc, ◌+◌, ◌-◌, ◌==◌, Bool, true, false, if◌then◌else◌, List, [], ◌∷◌, ◌++◌}
use Rattle.std.specs.declared.option.Option.{Option}
use Rattle.std.specs.declared.option.Option.TheVariants.{None, Some}
use Rattle.dm_link.specs.declared.Pid.{Pid}
use Rattle.dm_message.specs.declared.Message.{Message}
use Rattle.dm_message.specs.Kinds.{kind_of}
use Rattle.dm_packet.specs.declared.Packet.{Packet}
use Rattle.dm_packet.specs.declared.Packet.TheVariants as packet
use Rattle.dm_stream.specs.Packets.{Load, Data, Ack}
use Rattle.dm_stream.specs.Sending.{Sending, window, given_count, due, outstanding, with_given, with_sent, with_acked}
use Rattle.dm_stream.specs.Receiving.{arrival, after_arrival, next, after_next}
use Rattle.dm_stream.specs.declared.receiver.Arrived.{Arrived}
use Rattle.dm_stream.specs.declared.receiver.Arrived.TheVariants.{Taken, Old, Early}
use Rattle.dm_onekernel.specs.declared.boot.Boot.{Boot}
use Rattle.dm_line.specs.declared.line.Line.{Line}
use Rattle.dm_line.specs.declared.line.Line.TheVariants as line
use Rattle.dm_kernel.specs.declared.part.Part.{Part}
use Rattle.dm_kernel.specs.declared.part.Part.TheVariants as part
use Rattle.dm_kernel.specs.State.{Turned}
use Rattle.dm_kernel.specs.Asking as asking
use Rattle.dm_kernel.specs.Coming as coming
use Rattle.dm_kernel.specs.Turn as kernel
use Rattle.dm_node.specs.State.{NodeState, here, with_sender, with_message, with_receiver}
use Rattle.dm_node.specs.declared.out.Out.{Out}
use Rattle.dm_node.specs.declared.out.Out.TheVariants.{Says, Sends}
use Rattle.dm_node.specs.Out.{Acted, Acts, Goes, Worn, goes, behind, then_, packet_of_load}

-- a message is routed to the machine that its receiver's address names
abbrev pub put_line : NodeState → Message → Line
put_line n m = line.Put (here n) m.to.at m.id (kind_of m.what) m.to.pid

-- to this machine: it comes into the inbox
abbrev pub routes_home : NodeState → Message → Bool → Acts
routes_home n m true = Worn (here n) (here n)
routes_home n m false = goes (record (with_message n m) { home = n.home + 1 }) (Says (put_line n m) ∷ [])

abbrev pub sends : NodeState → ℕ → Load Message → Out
sends n b carried = Sends (packet_of_load (here n) b carried)

-- what is due goes out
abbrev pub sends_due : NodeState → ℕ → Option (ℕ × Message) → Acted
sends_due n b None = record { state = n; outs = [] }
sends_due n b (Some p) = record { state = with_sender n b (with_sent (n.senders b)); outs = sends n b (Data p.0 p.1) ∷ [] }

-- to another one: it goes out at once where none waits before it, and the window isn't full
abbrev pub gives : NodeState → ℕ → Message → Sending Message → Bool → Acts
gives n b m s true = behind (Says (put_line n m) ∷ []) (Goes (sends_due (with_sender n b (with_given s m)) b (due (with_given s m))))
gives n b m s false = goes (with_sender n b (with_given s m)) (Says (put_line n m) ∷ [])

abbrev pub is_worn : Sending Message → Bool
is_worn s = given_count s == s.numbers

abbrev pub none_waits : Sending Message → Bool
none_waits s = s.gone == given_count s

abbrev pub routes_away : NodeState → ℕ → Message → Sending Message → Acts
routes_away n b m s = if is_worn s then Worn (here n) b else gives n b m s (none_waits s)

abbrev pub routes : NodeState → Message → Acts
routes n m = if m.to.at == here n then routes_home n m (n.home == n.numbers) else routes_away n m.to.at m (n.senders m.to.at)

-- the parts of a turn, in order
abbrev pub acts : NodeState → List Part → Acts
acts n [] = goes n []
acts n (part.Says l ∷ ps) = behind (Says l ∷ []) (acts n ps)
acts n (part.Routes m ∷ ps) = then_ (routes n m) (λ next. acts next ps)

abbrev pub turns : NodeState → Option Turned → Option Acts
turns n None = None
turns n (Some t) = Some (acts (record n { kernel = t.state }) t.parts)

-- a turn
abbrev pub turn : Boot → NodeState → Option Acts
turn b n = turns n (kernel.turn b n.kernel)

-- the machine with the manager has it tell a process to move
abbrev pub asks_move : NodeState → Pid → ℕ → Option Acts
asks_move n p machine = turns n (asking.asks_move n.kernel p machine)

-- a migration is called off
abbrev pub calls_off : NodeState → Pid → Option Acts
calls_off n p = turns n (coming.calls_off n.kernel p)

-- a tick: all that is out and not acknowledged goes out again, by machine and by number
abbrev pub count_out : Sending Message → ℕ
count_out s = s.gone - s.acked

abbrev pub counts_out : NodeState → ℕ → ℕ
counts_out n zero = 0
counts_out n (suc b) = counts_out n b + (if here n == b then 0 else count_out (n.senders b))

abbrev pub again : NodeState → ℕ → Option (ℕ × Message) → List Out
again n b None = []
again n b (Some p) = sends n b (Data p.0 p.1) ∷ []

-- the first k of what is out to a machine
abbrev pub first_out : NodeState → ℕ → ℕ → List Out
first_out n b zero = []
first_out n b (suc k) = first_out n b k ++ again n b (outstanding (n.senders b) k)

abbrev pub all_out : NodeState → ℕ → List Out
all_out n zero = []
all_out n (suc b) = all_out n b ++ (if here n == b then [] else first_out n b (count_out (n.senders b)))

abbrev pub tick : NodeState → Acted
tick n = record { state = n; outs = Says (line.Resent (here n) (counts_out n n.machines)) ∷ all_out n n.machines }

-- an acknowledgement of all that was taken of a machine's messages
abbrev pub acknowledges : NodeState → ℕ → List Out
acknowledges n a = sends n a (Ack (n.receivers a).count) ∷ []

abbrev pub before : List Out → Acted → Acted
before outs d = record { state = d.state; outs = outs ++ d.outs }

-- messages that came early are taken once their turn has come; there are at most 8
abbrev pub takes_next : NodeState → ℕ → Option Message → (NodeState → Acted) → Acted
takes_next n a None go = record { state = n; outs = [] }
takes_next n a (Some m) go = before (Says (line.Taken a (here n) (n.receivers a).count) ∷ []) (go (with_message (with_receiver n a (after_next (n.receivers a))) m))

unfoldable pub takes_kept : ℕ → NodeState → ℕ → Acted
takes_kept zero n a = record { state = n; outs = [] }
takes_kept (suc k) n a = takes_next n a (next (n.receivers a)) (λ m. takes_kept k m a)

-- and what was taken is acknowledged
abbrev pub then_acknowledges : Acted → ℕ → Acted
then_acknowledges d a = record { state = d.state; outs = d.outs ++ acknowledges d.state a }

-- a message with its number comes from machine a
abbrev pub comes_in : NodeState → ℕ → ℕ → Arrived Message → Acted
comes_in n a k (Taken m) = before (Says (line.Taken a (here n) k) ∷ []) (takes_kept window (with_message n m) a)
comes_in n a k Old = record { state = n; outs = Says (line.Old a (here n) k) ∷ [] }
comes_in n a k Early = record { state = n; outs = Says (line.Early a (here n) k) ∷ [] }

abbrev pub comes : NodeState → ℕ → ℕ → Arrived Message → Acted
comes n a k what = then_acknowledges (comes_in n a k what) a

-- an acknowledgement lets messages go that wait, at most 8
abbrev pub lets_next : NodeState → ℕ → Option (ℕ × Message) → (NodeState → Acted) → Acted
lets_next n b None go = record { state = n; outs = [] }
lets_next n b (Some p) go = before (sends n b (Data p.0 p.1) ∷ []) (go (with_sender n b (with_sent (n.senders b))))

unfoldable pub lets_go : ℕ → NodeState → ℕ → Acted
lets_go zero n b = record { state = n; outs = [] }
lets_go (suc k) n b = lets_next n b (due (n.senders b)) (λ m. lets_go k m b)

-- what a packet from machine a carries
abbrev pub arrives : NodeState → ℕ → Load Message → Acted
arrives n a (Data k m) = comes (with_receiver n a (after_arrival (n.receivers a) k m)) a k (arrival (n.receivers a) k m)
arrives n a (Ack k) = before (Says (line.Acked a (here n) k) ∷ []) (lets_go window (with_sender n a (with_acked (n.senders a) k)) a)

abbrev pub arrives_packet : NodeState → Packet → Acted
arrives_packet n (packet.Data from to seq m) = arrives n from (Data seq m)
arrives_packet n (packet.Ack from to count) = arrives n from (Ack count)
