-- Where the world stands for a point, each machine may take a turn or a tick, and ask a process to move; and each machine may act, from the start on.
pub mod Own
pub mod OwnKernel
pub mod Turns
use Rattle.dm_law_mirror.proofs.Names.{◌≡◌, ℕ, ◌+◌, ◌^◌, ◌<◌, ◌≤◌, ◌==◌, Bool, true, false, List, [], ◌∷◌, length, refl, ap, sym, subst, arith, if◌then◌else◌, IsSome, All, Option, None, Some, Result, Err, nat_tests, All-nil, Message}
use Rattle.dm_law_mirror.proofs.Names.{IsLawfulMessage, Packet, Line, PacketError, packet_of, Data, Ack, bytes_at, after_mark, Boot, IsValid, Step, Leads, Point, first_point, OwnTold, Run, Placed, IsLawfulState, KernelState, Turned}
use Rattle.dm_law_mirror.proofs.Names.{asks_move, asks_move_stays, Pid, opened_may, asked_lawful, turn_lawful, Acted, Acts, Goes, Worn, NodeState, MayAct, MayArrive, MayAskMove, MayAfter, arrives_may}
use Rattle.dm_law_mirror.proofs.Names.{turn_may, Said, WorldState, acted, arrives, delivers, first_world, reads, world_step, MayDeliver, MayRead, MayStep, AllMayAct, MadeStands, CountsStand, History, Stands, StandsWith, calls_off}
use Rattle.dm_law_mirror.proofs.Names.{MayCallOff, called_off_lawful, StaysAt, calls_off_stays, ◌∙◌, length-map, Arrival, Record, Mirrors, KernelStands, KnownStands, incoming_of, takes_room, map}
use Rattle.dm_law_mirror.proofs.Names.{MsgId, IfSome, keeps_over}
use Rattle.dm_world.proofs.Names.{Ok}
use Rattle.dm_stream.specs.Packets.{Load}
use Rattle.dm_kernel.specs.State.{own_id}
use Rattle.dm_node.specs.May.{MayTurn}
use Rattle.dm_world.specs.World.{Says, asks_at, seat_of, turned}
use Rattle.dm_kernel.specs.Turn as kernel
use Rattle.dm_law_mirror.proofs.Call.{coming_by, coming_fits}
use Rattle.dm_law_mirror.proofs.May.OwnKernel.{room_taken}
use Rattle.dm_law_mirror.proofs.Seats.{seat_has}
use Rattle.dm_migrate.specs.Rooms.{HasTakenBy}
use Rattle.dm_world.specs.May.{MayAskAt}
use Rattle.dm_kernel.specs.State as state
use Rattle.dm_node.specs.Acts as node
use Rattle.dm_law_mirror.proofs.Machines.{few_machines, machines_are, some_machine, made_always}
use Rattle.dm_law_mirror.proofs.Counts.Pairs.{CountsFew}
use Rattle.dm_law_mirror.proofs.May.Turns as turns

-- all that stands about the machine
stand_of : (b : Boot) (w : WorldState) (pt : Point) (l : Placed) (h : History) (m : ℕ) → IsValid b → Run b pt → OwnTold pt → MadeStands pt.kernel → CountsFew pt → StandsWith b w pt l h → CountsStand w pt → m < pt.kernel.machines → turns.Stand b pt l (λ n. (w.nodes n).kernel) m
stand_of b w pt l h m valid run told made counts st sent within = record {
  valid = valid;
  run = run;
  told = told;
  made = made;
  counts = counts;
  mirrors = st.mirrors;
  nodes = λ n lt. (st.nodes n lt).kernel;
  own = st.own;
  tokens = st.tokens;
  within = within;
  sent = sent m within;
}

-- a turn
pub may_turn : (b : Boot) (es : List Step) (w : WorldState) (pt : Point) (m : ℕ) → IsValid b → Leads b (first_point b) es pt → Run b pt → OwnTold pt → CountsFew pt → Stands b w pt → AllMayAct b w → m < length b.machines → MayTurn b (w.nodes m) × IsLawfulState (w.nodes m).kernel
may_turn b es w pt m valid leads run told counts ((l, h, st), sent) acts lt =
    let few = few_machines b valid in
    let within : m < pt.kernel.machines = omega (arith, lt, machines_are b es pt leads) in
    let node = st.nodes m within in (
      record {
        acts = acts.each m lt;
        kernel = turns.may_turn b pt l (λ n. (w.nodes n).kernel) m (omega (arith, lt, few)) (stand_of b w pt l h m valid run told (made_always b es pt valid leads) counts st sent within) node.lawful;
      },
      node.lawful,
    )

pub may_step_turn : (b : Boot) (es : List Step) (w : WorldState) (pt : Point) (m : ℕ) → IsValid b → Leads b (first_point b) es pt → Run b pt → OwnTold pt → CountsFew pt → Stands b w pt → AllMayAct b w → m < length b.machines → MayStep b w (Step.Turn m)
may_step_turn b es w pt m valid leads run told counts stands acts lt = let k = may_turn b es w pt m valid leads run told counts stands acts lt in (lt, k.0, k.1)

-- the machine that has the manager is asked, where one has it
may_ask : (b : Boot) (w : WorldState) (pt : Point) (l : Placed) (h : History) (o : Option ℕ) → seat_of (length b.machines) w.nodes ≡ o → IsValid b → pt.kernel.machines ≡ length b.machines → CountsFew pt → StandsWith b w pt l h → CountsStand w pt → AllMayAct b w → MayAskAt w o
may_ask b w pt l h None seat valid machines counts st sent acts = tt
may_ask b w pt l h (Some m) seat valid machines counts st sent acts =
    let has = seat_has (length b.machines) m w.nodes seat in
    let less = has.0 in
    let few = few_machines b valid in
    let within : m < pt.kernel.machines = omega (arith, less, machines) in
    let node = st.nodes m within in
    let here = node.kernel.here in
    let own = counts.own m in (
      record { acts = acts.each m less; kernel = record { here = omega (arith, here, less, few); sent = omega (arith, sent m within, own); manager = has.1 } },
      node.lawful,
    )

pub may_step_migrate : (b : Boot) (es : List Step) (w : WorldState) (pt : Point) (p : Pid) (m : ℕ) → IsValid b → Leads b (first_point b) es pt → CountsFew pt → Stands b w pt → AllMayAct b w → m < length b.machines → MayStep b w (Step.Migrate p m)
may_step_migrate b es w pt p m valid leads counts ((l, h, st), sent) acts lt = (lt, may_ask b w pt l h (seat_of (length b.machines) w.nodes) refl valid (machines_are b es pt leads) counts st sent acts)

-- what comes is called off: it has taken its room, and few messages were held for it
abbrev MayCall : Option state.KernelKnown → KernelState → Type 0
MayCall r k = IfSome (incoming_of r) (λ (a : Arrival). HasTakenBy k.room a.blocks) × IfSome (incoming_of r) (λ (a : Arrival). length a.held < 4294967295)

may_call_by : (b : Boot) (pt : Point) (l : Placed) (m : ℕ) (k : KernelState) (p : Pid) (r : Option state.KernelKnown) → k.records p ≡ r → MadeStands pt.kernel → CountsFew pt → Mirrors pt.kernel pt.view pt.addresses l → KernelStands b pt l m k → MayCall r k
may_call_by b pt l m k p (Some (Record.Incoming a)) is made counts mirrors h =
    let (from, known, stands) = coming_by l p (pt.view.queue m p) (pt.view.held m p) (pt.view.known m p) a (subst (KnownStands l p (pt.view.queue m p) (pt.view.held m p) (pt.view.known m p)) is (h.known p)) in
    let fits = coming_fits pt l p from (pt.view.held m p) a mirrors stands in
    let held_ = sym (length-map a.held Some) ∙ ap length (sym stands.held) ∙ length-map (pt.view.held m p) l.bag in
    let few = counts.waiting m p in (
      room_taken b pt l m k p fits.resident made mirrors h (ap takes_room known) fits.there a.blocks (sym fits.blocks),
      omega (arith, held_, few),
    )
may_call_by b pt l m k p _ is made counts mirrors h = (tt, tt)

may_call : (b : Boot) (pt : Point) (l : Placed) (m : ℕ) (k : KernelState) (p : Pid) → MadeStands pt.kernel → CountsFew pt → Mirrors pt.kernel pt.view pt.addresses l → KernelStands b pt l m k → MayCall (k.records p) k
may_call b pt l m k p made counts mirrors h = may_call_by b pt l m k p (k.records p) refl made counts mirrors h

pub may_step_calloff : (b : Boot) (es : List Step) (w : WorldState) (pt : Point) (p : Pid) (m : ℕ) → IsValid b → Leads b (first_point b) es pt → CountsFew pt → Stands b w pt → AllMayAct b w → m < length b.machines → MayStep b w (Step.CallOff p m)
may_step_calloff b es w pt p m valid leads counts ((l, h, st), sent) acts lt =
    let few = few_machines b valid in
    let within : m < pt.kernel.machines = omega (arith, lt, machines_are b es pt leads) in
    let node = st.nodes m within in
    let here = node.kernel.here in
    let own = counts.own m in
    let may = may_call b pt l m (w.nodes m).kernel p (made_always b es pt valid leads) counts st.mirrors node.kernel in (
      lt,
      record { acts = acts.each m lt; kernel = record { here = omega (arith, here, lt, few); sent = omega (arith, sent m within, own); room = may.0; few = may.1 } },
      node.lawful,
    )

-- a tick
pub may_step_tick : (b : Boot) (w : WorldState) (m : ℕ) → AllMayAct b w → m < length b.machines → MayStep b w (Step.Tick m)
may_step_tick b w m acts lt = (lt, acts.each m lt)

-- what waits on any stream of a machine can be put into packets, on those that lead nowhere too
pub all_lawful : (b : Boot) (w : WorldState) (m : ℕ) → AllMayAct b w → m < length b.machines → (c : ℕ) → c < 16 → All IsLawfulMessage ((w.nodes m).senders c).unacked
all_lawful b w m acts lt c small = (acts.each m lt).unacked c small

-- where a run begins
pub few_numbers : (b : Boot) → IsValid b → b.numbers < 2 ^ 32
few_numbers b valid = let k = valid.most_numbers in let n : b.numbers ≤ 1048576 = grind (arith, nat_tests) in omega (arith, n)

pub acts_start : (b : Boot) → IsValid b → AllMayAct b (first_world b)
acts_start b valid = record {
  each = λ m lt. (search ((opened_may b m valid lt).here, few_machines b valid, few_numbers b valid, arith, All-nil IsLawfulMessage));
}

-- and after each directive: a kernel stays on its machine
abbrev pub KernelsStay : Type 0
KernelsStay = (b : Boot) (k : KernelState) (t : Turned) → kernel.turn b k ≡ Some t → t.state.here ≡ k.here

acted_may : (b : Boot) (w : WorldState) (e : Step) (m : ℕ) (d : Acted) (s : Said) → acted w e m d ≡ s → MayAct d.state → AllMayAct b w → AllMayAct b s.state
acted_may b w e m d s is h acts =
    subst (λ (v : Said). AllMayAct b v.state) is (record { each = λ i lt. (let e_ : MayAct (if (m == i) then d.state else w.nodes i) = grind (arith, nat_tests, acts.each i lt) in e_) })

turned_may : (b : Boot) (w : WorldState) (e : Step) (m : ℕ) (a : Acts) (s : Said) → turned w e m (Some a) ≡ Some (Says s) → MayAfter a → AllMayAct b w → AllMayAct b s.state
turned_may b w e m (Goes d) s is h acts = acted_may b w e m d s (let f : acted w e m d ≡ s = cc in f) h acts
turned_may b w e m (Worn from to) s is h acts = cc

turn_stays : (b : Boot) (w : WorldState) (m : ℕ) (o : Option Turned) (s : Said) → KernelsStay → IsValid b → kernel.turn b (w.nodes m).kernel ≡ o → turned (keeps_over w (node.turns (w.nodes m) o)) (Step.Turn m) m (node.turns (w.nodes m) o) ≡ Some (Says s)
    → MayTurn b (w.nodes m) → IsLawfulState (w.nodes m).kernel → AllMayAct b w → AllMayAct b s.state
turn_stays b w m None s stays valid e is may lawful acts = cc
turn_stays b w m (Some t) s stays valid e is may lawful acts =
    let fit = turn_lawful b (w.nodes m).kernel t valid.images may.kernel lawful e in
    turned_may b (keeps_over w (node.turns (w.nodes m) (Some t))) (Step.Turn m) m (node.acts (record (w.nodes m) { kernel = t.state }) t.parts) s is (turn_may (w.nodes m) t (stays b (w.nodes m).kernel t e) fit.parts.each may.acts) (record { each = acts.each })

asked_stays : (b : Boot) (w : WorldState) (p : Pid) (m seat : ℕ) (o : Option Turned) (s : Said) → asks_move (w.nodes seat).kernel p m ≡ o → turned w (Step.Migrate p m) seat (node.turns (w.nodes seat) o) ≡ Some (Says s) → m < 16 → MayAskMove (w.nodes seat) → IsLawfulState (w.nodes seat).kernel → AllMayAct b w → AllMayAct b s.state
asked_stays b w p m seat None s e is to may lawful acts = cc
asked_stays b w p m seat (Some t) s e is to may lawful acts =
    let k = (w.nodes seat).kernel in
    let fit = asked_lawful k p m t may.kernel.here (omega (arith, to)) lawful e in
    let manager_here : t.state.here ≡ k.here = subst (StaysAt k.here) e (asks_move_stays k p m) in
    turned_may b w (Step.Migrate p m) seat (node.acts (record (w.nodes seat) { kernel = t.state }) t.parts) s is (turn_may (w.nodes seat) t manager_here fit.parts.each may.acts) acts

-- while the manager is on its way nothing changes
ask_stays : (b : Boot) (w : WorldState) (p : Pid) (m : ℕ) (o : Option ℕ) (s : Said) → asks_at w (Step.Migrate p m) p m o ≡ Some (Says s) → m < 16 → MayAskAt w o → AllMayAct b w → AllMayAct b s.state
ask_stays b w p m None s is to may acts =
    let f : record { state = record w { groups = w.groups + 1 }; lines = Line.Head (Step.Migrate p m) ∷ Line.Away ∷ [] } ≡ s = cc in
    subst (λ (v : Said). AllMayAct b v.state) f (record { each = acts.each })
ask_stays b w p m (Some seat) s is to may acts = asked_stays b w p m seat (asks_move (w.nodes seat).kernel p m) s refl is to may.0 may.1 acts

call_stays : (b : Boot) (w : WorldState) (p : Pid) (m : ℕ) (o : Option Turned) (s : Said) → calls_off (w.nodes m).kernel p ≡ o → turned w (Step.CallOff p m) m (node.turns (w.nodes m) o) ≡ Some (Says s) → MayCallOff (w.nodes m) p → IsLawfulState (w.nodes m).kernel → AllMayAct b w → AllMayAct b s.state
call_stays b w p m None s e is may lawful acts = cc
call_stays b w p m (Some t) s e is may lawful acts =
    let k = (w.nodes m).kernel in
    let fit = called_off_lawful k p t may.kernel.here lawful e in
    let stays : t.state.here ≡ k.here = subst (StaysAt k.here) e (calls_off_stays k p) in
    turned_may b w (Step.CallOff p m) m (node.acts (record (w.nodes m) { kernel = t.state }) t.parts) s is (turn_may (w.nodes m) t stays fit.parts.each may.acts) acts

arrived_may : (b : Boot) (w u : WorldState) (e : Step) (a c : ℕ) (l : Load Message) (s : Said) → u.nodes ≡ w.nodes → arrives u e a c l ≡ Some (Says s) → MayArrive (w.nodes c) a l → AllMayAct b w → AllMayAct b s.state
arrived_may b w u e a c l s same is may acts =
    let f : acted u e c (node.arrives (u.nodes c) a l) ≡ s = cc in
    let here_ : MayArrive (u.nodes c) a l = subst (λ (ns : ℕ → NodeState). MayArrive (ns c) a l) (sym same) may in
    acted_may b u e c (node.arrives (u.nodes c) a l) s f (arrives_may (u.nodes c) a l here_)
    (record { each = λ i lt. subst (λ (ns : ℕ → NodeState). MayAct (ns i)) (sym same) (acts.each i lt) })

read_may : (b : Boot) (w u : WorldState) (e : Step) (a c : ℕ) (r : Result Packet PacketError) (s : Said) → u.nodes ≡ w.nodes → reads u e a c r ≡ Some (Says s) → MayRead w a c r → AllMayAct b w → AllMayAct b s.state
read_may b w u e a c (Ok (Packet.Data from to k m)) s same is may acts = arrived_may b w u e a c (Data k m) s same is (subst (λ f. MayArrive (w.nodes c) f (Data k m)) may.0 may.1.0) acts
read_may b w u e a c (Ok (Packet.Ack from to k)) s same is may acts = arrived_may b w u e a c (Ack k) s same is (subst (λ f. MayArrive (w.nodes c) f (Ack k)) may.0 may.1.0) acts
read_may b w u e a c (Err bad) s same is may acts = absurd may

delivered_may : (b : Boot) (w : WorldState) (e : Step) (a c k : ℕ) (o : Option (List ℕ)) (s : Said) → delivers w e a c k o ≡ Some (Says s) → MayDeliver w a c o → AllMayAct b w → AllMayAct b s.state
delivered_may b w e a c k None s is may acts =
    let f : record { state = record w { groups = w.groups + 1 }; lines = Line.Head e ∷ Line.Nothing ∷ [] } ≡ s = cc in
    subst (λ (v : Said). AllMayAct b v.state) f (record { each = acts.each })
delivered_may b w e a c k (Some bytes) s is may acts = read_may b w (record w { wires = after_mark w.wires a c k }) e a c (packet_of bytes) s refl is may acts

pub acts_step : KernelsStay → (b : Boot) (w : WorldState) (e : Step) (s : Said) → IsValid b → MayStep b w e → world_step b w e ≡ Some (Says s) → AllMayAct b w → AllMayAct b s.state
acts_step stays b w (Step.Turn m) s valid may is acts = turn_stays b w m (kernel.turn b (w.nodes m).kernel) s stays valid refl is may.1 may.2 acts
acts_step stays b w (Step.Tick m) s valid may is acts = acted_may b w (Step.Tick m) m (node.tick (w.nodes m)) s (let f : acted w (Step.Tick m) m (node.tick (w.nodes m)) ≡ s = cc in f) may.1 acts
acts_step stays b w (Step.Deliver a c k) s valid may is acts = delivered_may b w (Step.Deliver a c k) a c k (bytes_at (w.wires a c) k) s is may.3 acts
acts_step stays b w (Step.Migrate p m) s valid may is acts =
    ask_stays b w p m (seat_of (length b.machines) w.nodes) s is (let less = may.0 in omega (arith, less, few_machines b valid)) may.1 acts
acts_step stays b w (Step.CallOff p m) s valid may is acts = call_stays b w p m (calls_off (w.nodes m).kernel p) s refl is may.1 may.2 acts
