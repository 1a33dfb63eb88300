-- Who ended in a machine's last turn is carried along by whatever isn't a turn, and nothing reads it.
use Rattle.dm_law_mirror.proofs.Names.{◌≡◌, ℕ, zero, suc, ◌+◌, ◌==◌, Bool, true, false, if◌then◌else◌, List, [], ◌∷◌, ◌++◌, refl, ap, ◌∙◌, Option, None, Some, Result, Err, Pid, Why, Message, Line, Boot, NodeState, here, KernelState, Turned, Part}
use Rattle.dm_law_mirror.proofs.Names.{Out, Sending, Arrival}
use Rattle.dm_world.proofs.Names.{Ok}
use Rattle.dm_kernel.specs.Asking.{asks_manager, told_to_move}
use Rattle.dm_kernel.specs.Asking as asking
use Rattle.dm_kernel.specs.Coming.{calls_arriving_off, is_not_called, turns_back}
use Rattle.dm_kernel.specs.Coming as coming
use Rattle.dm_kernel.specs.State.{manager_in, own_id}
use Rattle.dm_onekernel.specs.Boot.{manager}
use Rattle.dm_kernel.specs.declared.part.Part.TheVariants as part
use Rattle.dm_records.specs.Records.{incoming_of}
use Rattle.dm_migrate.specs.Arrival.{is_whole}
use Rattle.dm_procman.specs.Managing.{Managing}
use Rattle.dm_procman.specs.Moving.{asks_to_move}
use Rattle.dm_procman.specs.declared.moving.MoveError.{MoveError}
use Rattle.dm_procman.specs.declared.moving.MoveError.TheVariants as no
use Rattle.dm_node.specs.Acts.{acts, again, all_out, before, comes_in, count_out, counts_out, first_out, gives, is_worn, lets_next, none_waits, put_line, routes, routes_away, routes_home, sends, sends_due, takes_next, then_acknowledges}
unfoldable use Rattle.dm_node.specs.Acts.{lets_go, takes_kept}
use Rattle.dm_node.specs.Acts as node
use Rattle.dm_node.specs.Out.{Acted, Acts, Goes, Worn, behind, then_}
use Rattle.dm_node.specs.State.{with_message, with_receiver, with_sender}
use Rattle.dm_node.specs.declared.out.Out.TheVariants.{Says}
use Rattle.dm_stream.specs.Packets.{Ack, Data, Load}
use Rattle.dm_stream.specs.Receiving.{after_arrival, after_next, arrival, next}
use Rattle.dm_stream.specs.Sending.{due, outstanding, window, with_acked, with_given, with_sent}
use Rattle.dm_stream.specs.declared.receiver.Arrived.{Arrived}
use Rattle.dm_stream.specs.declared.receiver.Arrived.TheVariants.{Early, Old, Taken}
use Rattle.dm_law_runs.specs.Choices.Chosen.{NodeAs}

-- what may have ended
abbrev pub Over : Type 0
Over = Option (Pid × Why)

-- the same where that ended in the last turn
abbrev pub ended_kernel : Over → KernelState → KernelState
ended_kernel x k = record k { over = x }

abbrev pub ended_node : Over → NodeState → NodeState
ended_node x n = record n { kernel = ended_kernel x n.kernel }

abbrev pub ended_acted : Over → Acted → Acted
ended_acted x d = record { state = ended_node x d.state; outs = d.outs }

abbrev pub ended_acts : Over → Acts → Acts
ended_acts x (Goes d) = Goes (ended_acted x d)
ended_acts x (Worn from to) = Worn from to

abbrev pub ended_some : Over → Option Acts → Option Acts
ended_some x None = None
ended_some x (Some a) = Some (ended_acts x a)

abbrev ended_turned : Over → Option Turned → Option Turned
ended_turned x None = None
ended_turned x (Some t) = Some (record { state = ended_kernel x t.state; parts = t.parts })

pub node_is : (n o : NodeState) → NodeAs n o → o ≡ ended_node o.kernel.over n
node_is n o h = h.is ∙ (λ i. record n { kernel = h.kernel.is i })

pub node_as : (x : Over) (n : NodeState) → NodeAs n (ended_node x n)
node_as x n = record { kernel = record { is = refl }; is = refl }

-- a message that is routed
due_ended : (x : Over) (n : NodeState) (b : ℕ) (o : Option (ℕ × Message)) → sends_due (ended_node x n) b o ≡ ended_acted x (sends_due n b o)
due_ended x n b None = refl
due_ended x n b (Some p) = refl

gives_ended : (x : Over) (n : NodeState) (b : ℕ) (m : Message) (s : Sending Message) (none : Bool) → gives (ended_node x n) b m s none ≡ ended_acts x (gives n b m s none)
gives_ended x n b m s true = ap (λ (d : Acted). behind (Says (put_line n m) ∷ []) (Goes d)) (due_ended x (with_sender n b (with_given s m)) b (due (with_given s m)))
gives_ended x n b m s false = refl

home_ended : (x : Over) (n : NodeState) (m : Message) (full : Bool) → routes_home (ended_node x n) m full ≡ ended_acts x (routes_home n m full)
home_ended x n m true = refl
home_ended x n m false = refl

worn_ended : (x : Over) (n : NodeState) (b : ℕ) (m : Message) (s : Sending Message) (c : Bool) → (if c then Worn (here n) b else gives (ended_node x n) b m s (none_waits s)) ≡ ended_acts x (if c then Worn (here n) b else gives n b m s (none_waits s))
worn_ended x n b m s true = refl
worn_ended x n b m s false = gives_ended x n b m s (none_waits s)

routes_if : (x : Over) (n : NodeState) (m : Message) (c : Bool) → (if c then routes_home (ended_node x n) m (n.home == n.numbers) else routes_away (ended_node x n) m.to.at m (n.senders m.to.at))
    ≡ ended_acts x (if c then routes_home n m (n.home == n.numbers) else routes_away n m.to.at m (n.senders m.to.at))
routes_if x n m true = home_ended x n m (n.home == n.numbers)
routes_if x n m false = worn_ended x n m.to.at m (n.senders m.to.at) (is_worn (n.senders m.to.at))

routes_ended : (x : Over) (n : NodeState) (m : Message) → routes (ended_node x n) m ≡ ended_acts x (routes n m)
routes_ended x n m = routes_if x n m (m.to.at == here n)

behind_ended : (x : Over) (outs : List Out) (a : Acts) → behind outs (ended_acts x a) ≡ ended_acts x (behind outs a)
behind_ended x outs (Goes d) = refl
behind_ended x outs (Worn from to) = refl

then_ended : (x : Over) (a : Acts) (go : NodeState → Acts) → ((n : NodeState) → go (ended_node x n) ≡ ended_acts x (go n)) → then_ (ended_acts x a) go ≡ ended_acts x (then_ a go)
then_ended x (Goes d) go same = ap (behind d.outs) (same d.state) ∙ behind_ended x d.outs (go d.state)
then_ended x (Worn from to) go same = refl

acts_ended : (x : Over) (ps : List Part) (n : NodeState) → acts (ended_node x n) ps ≡ ended_acts x (acts n ps)
acts_ended x [] n = refl
acts_ended x (part.Says l ∷ ps) n = ap (behind (Says l ∷ [])) (acts_ended x ps n) ∙ behind_ended x (Says l ∷ []) (acts n ps)
acts_ended x (part.Routes m ∷ ps) n = ap (λ (a : Acts). then_ a (λ later. acts later ps)) (routes_ended x n m) ∙ then_ended x (routes n m) (λ later. acts later ps) (λ later. acts_ended x ps later)

turns_ended : (x : Over) (n : NodeState) (o : Option Turned) → node.turns (ended_node x n) (ended_turned x o) ≡ ended_some x (node.turns n o)
turns_ended x n None = refl
turns_ended x n (Some t) = ap Some (acts_ended x t.parts (record n { kernel = t.state }))

-- a turn begins with nobody who has ended
turns_still : (x : Over) (n : NodeState) (o : Option Turned) → node.turns (ended_node x n) o ≡ node.turns n o
turns_still x n None = refl
turns_still x n (Some t) = refl

pub turn_still : (x : Over) (b : Boot) (n : NodeState) → node.turn b (ended_node x n) ≡ node.turn b n
turn_still x b n = turns_still x n _

-- a tick
counts_ended : (x : Over) (n : NodeState) (b : ℕ) → counts_out (ended_node x n) b ≡ counts_out n b
counts_ended x n zero = refl
counts_ended x n (suc b) = ap (λ (k : ℕ). k + (if here n == b then 0 else count_out (n.senders b))) (counts_ended x n b)

first_ended : (x : Over) (n : NodeState) (b k : ℕ) → first_out (ended_node x n) b k ≡ first_out n b k
first_ended x n b zero = refl
first_ended x n b (suc k) = ap (λ (outs : List Out). outs ++ again n b (outstanding (n.senders b) k)) (first_ended x n b k)

all_ended : (x : Over) (n : NodeState) (b : ℕ) → all_out (ended_node x n) b ≡ all_out n b
all_ended x n zero = refl
all_ended x n (suc b) =
    ap (λ (outs : List Out). outs ++ (if here n == b then [] else first_out (ended_node x n) b (count_out (n.senders b)))) (all_ended x n b)
    ∙ ap (λ (outs : List Out). all_out n b ++ (if here n == b then [] else outs)) (first_ended x n b (count_out (n.senders b)))

pub tick_ended : (x : Over) (n : NodeState) → node.tick (ended_node x n) ≡ ended_acted x (node.tick n)
tick_ended x n = λ i. record { state = ended_node x n; outs = Says (Line.Resent (here n) (counts_ended x n n.machines i)) ∷ all_ended x n n.machines i }

-- an arrival
next_ended : (x : Over) (n : NodeState) (a : ℕ) (o : Option Message) (go : NodeState → Acted) → ((m : NodeState) → go (ended_node x m) ≡ ended_acted x (go m)) → takes_next (ended_node x n) a o go ≡ ended_acted x (takes_next n a o go)
next_ended x n a None go same = refl
next_ended x n a (Some m) go same = ap (before (Says (Line.Taken a (here n) (n.receivers a).count) ∷ [])) (same (with_message (with_receiver n a (after_next (n.receivers a))) m))

kept_ended : (x : Over) (k : ℕ) (n : NodeState) (a : ℕ) → takes_kept k (ended_node x n) a ≡ ended_acted x (takes_kept k n a)
unfolding takes_kept
kept_ended x zero n a = refl
kept_ended x (suc k) n a = next_ended x n a (next (n.receivers a)) (λ m. takes_kept k m a) (λ m. kept_ended x k m a)

lets_ended : (x : Over) (n : NodeState) (b : ℕ) (o : Option (ℕ × Message)) (go : NodeState → Acted) → ((m : NodeState) → go (ended_node x m) ≡ ended_acted x (go m)) → lets_next (ended_node x n) b o go ≡ ended_acted x (lets_next n b o go)
lets_ended x n b None go same = refl
lets_ended x n b (Some p) go same = ap (before (sends n b (Data p.0 p.1) ∷ [])) (same (with_sender n b (with_sent (n.senders b))))

go_ended : (x : Over) (k : ℕ) (n : NodeState) (b : ℕ) → lets_go k (ended_node x n) b ≡ ended_acted x (lets_go k n b)
unfolding lets_go
go_ended x zero n b = refl
go_ended x (suc k) n b = lets_ended x n b (due (n.senders b)) (λ m. lets_go k m b) (λ m. go_ended x k m b)

comes_ended : (x : Over) (n : NodeState) (a k : ℕ) (what : Arrived Message) → comes_in (ended_node x n) a k what ≡ ended_acted x (comes_in n a k what)
comes_ended x n a k (Taken m) = ap (before (Says (Line.Taken a (here n) k) ∷ [])) (kept_ended x window (with_message n m) a)
comes_ended x n a k Old = refl
comes_ended x n a k Early = refl

pub arrives_ended : (x : Over) (n : NodeState) (a : ℕ) (l : Load Message) → node.arrives (ended_node x n) a l ≡ ended_acted x (node.arrives n a l)
arrives_ended x n a (Data k m) = ap (λ (d : Acted). then_acknowledges d a) (comes_ended x (with_receiver n a (after_arrival (n.receivers a) k m)) a k (arrival (n.receivers a) k m))
arrives_ended x n a (Ack k) = ap (before (Says (Line.Acked a (here n) k) ∷ [])) (go_ended x window (with_sender n a (with_acked (n.senders a) k)) a)

-- a request to move, and a calling off
told_ended : (x : Over) (k : KernelState) (p : Pid) (r : Result Message MoveError) → told_to_move (ended_kernel x k) p r ≡ ended_turned x (told_to_move k p r)
told_ended x k p (Ok m) = refl
told_ended x k p (Err no.Unknown) = refl

manager_ended : (x : Over) (k : KernelState) (p : Pid) (m : ℕ) (o : Option Managing) → asks_manager (ended_kernel x k) p m o ≡ ended_turned x (asks_manager k p m o)
manager_ended x k p m None = refl
manager_ended x k p m (Some g) = told_ended x k p (asks_to_move k.here g p m (own_id k))

pub asks_ended : (x : Over) (n : NodeState) (p : Pid) (m : ℕ) → node.asks_move (ended_node x n) p m ≡ ended_some x (node.asks_move n p m)
asks_ended x n p m =
    ap (node.turns (ended_node x n)) (manager_ended x n.kernel p m (manager_in (n.kernel.records manager))) ∙ turns_ended x n (asking.asks_move n.kernel p m)

called_if : (x : Over) (k : KernelState) (p : Pid) (a : Arrival) (c : Bool) → (if c then is_not_called (ended_kernel x k) p else turns_back (ended_kernel x k) p a) ≡ ended_turned x (if c then is_not_called k p else turns_back k p a)
called_if x k p a true = refl
called_if x k p a false = refl

called_ended : (x : Over) (k : KernelState) (p : Pid) (o : Option Arrival) → calls_arriving_off (ended_kernel x k) p o ≡ ended_turned x (calls_arriving_off k p o)
called_ended x k p None = refl
called_ended x k p (Some a) = called_if x k p a (is_whole a.wanted)

pub calls_ended : (x : Over) (n : NodeState) (p : Pid) → node.calls_off (ended_node x n) p ≡ ended_some x (node.calls_off n p)
calls_ended x n p = ap (node.turns (ended_node x n)) (called_ended x n.kernel p (incoming_of (n.kernel.records p))) ∙ turns_ended x n (coming.calls_off n.kernel p)
