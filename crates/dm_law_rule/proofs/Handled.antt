-- What a turn says keeps that each message stands once.
use Rattle.dm_law_rule.proofs.Names.{◌≡◌, ℕ, ◌+◌, ◌≤◌, ◌==◌, Bool, true, false, List, [], ◌∷◌, refl, ap, ◌∙◌, sym, subst, arith, length, if◌then◌else◌, slice_get, Option, None, Some, Pid, pid_eq, MsgId, Label, PlainMessage, PlainWhat, bind}
use Rattle.dm_law_rule.proofs.Names.{OneKernel, Line, at_record, without_id, View, view_after, handled, receiver_of, Point, label_of, kernel_after, moved, Part, Says, Routes, Spelled, spelled, Spot, Queue, times, ids_at, id_eq-same, bind-is}
use Rattle.dm_law_rule.proofs.Names.{Boot, BootImage, Why, first_number, switchboard, manager, PlainProcess, PlainStatus, Ready, Waiting, Moving, answer_id, pid_of, forwards_on, says, drop_parts, plain_kind, instruction, NothingElse, Outcome}
use Rattle.dm_law_rule.proofs.Names.{◌++◌, map, MessageKind, preds_of, to_kernel, Target, answers_move, asked_to_move, leaves_for, move_target, option_map_or, none_some}
use Rattle.dm_onekernel.specs.Step as kernel
use Rattle.dm_law_rule.specs.View as view
use Rattle.dm_law_rule.proofs.Lines.{Stands-queued, Stands-dequeued, without_counts}
use Rattle.dm_law_rule.proofs.Bags.{BagStep}
use Rattle.dm_law_rule.proofs.Once.{one_of}
use Rattle.dm_onekernel.specs.Calls as calls
use Rattle.dm_onekernel.specs.Pieces as pieces
use Rattle.dm_onekernel.specs.Receiving as receiving
use Rattle.dm_onekernel.specs.Switchboard as board
use Rattle.dm_onekernel.specs.Manager as manage
use Rattle.dm_law_rule.specs.Rule as rule
use Rattle.dm_law_rule.proofs.Bags.{served_id, landed_id, board_id, manager_id, took_id, id_in, bag_ran, bag_call, bag_sends, bag_wait, bag_out, bag_end, bag_receive, bag_refuse, bag_dropped, bag_served, bag_gone, bag_asked, bag_took}
use Rattle.dm_law_rule.proofs.Bags.{bag_created, bag_no_space}
use Rattle.dm_law_rule.proofs.States.{State, says_next, said, State-at, by_label, by_line, PairsFit}
use Rattle.dm_law_rule.proofs.Turns.{served_keeps, serving_off, created_off, quiet_label, front_label, dropped_told, front_unqueued, all_dropped, ended_off, gone_out, at_record_same, without_front_none}
use Rattle.dm_law_rule.proofs.Letters.{letters, letter_of}
use Rattle.dm_law_rule.proofs.Said.{Steady, fits_as, one_line, line_and_route}
use Rattle.dm_law_rule.proofs.Moves.Sent.{owns_all}
use Rattle.dm_law_rule.proofs.Moves.Rows.{held_row, forwards_row, hears_row, answers_row, SeesSame}
use Rattle.dm_law_rule.proofs.Moves.Rows.{frozen_state}
use Rattle.dm_law_rule.proofs.Moves.Rows.{goes_row}

-- a message may enter by a line, and is routed if it does
line_and_maybe : (pt : Point) (l : Line) (o : Option PlainMessage) (w : Spelled) → spelled pt (Says l ∷ rule.routes o) ≡ Some w → (view_after pt.view l).pair ≡ pt.view.pair → PairsFit pt.view
    → ((s : OneKernel) → kernel_after pt.kernel (label_of l) ≡ Some s → State (id_in o) (moved pt l s)) → State None w.point
line_and_maybe pt l None w e pair fits h = one_line pt l w e h
line_and_maybe pt l (Some m) w e pair fits h = line_and_route pt l m.id w e pair fits h

-- a process has ended: its queue is dropped, and the kernels of other machines are told
abbrev after_end : List MsgId → List ℕ → List Part
after_end queue ms = drop_parts queue ++ map (to_kernel MessageKind.Bury) ms

ended_behind : (pt : Point) (p : Pid) (queue : List MsgId) (ms : List ℕ) (w : Spelled) → Steady pt → pt.view.queue pt.view.acting p ≡ queue → spelled pt (after_end queue ms) ≡ Some w → State None w.point
ended_behind pt p queue ms w h is e =
    let n = all_dropped queue (map (to_kernel MessageKind.Bury) ms) pt p w h is e in
    State-at None n.rest.point w.point n.point (owns_all MessageKind.Bury ms n.next n.rest n.stands n.more)

ends_row : (pt : Point) (p : Pid) (y : Why) (queue : List MsgId) (ms : List ℕ) (w : Spelled) → State None pt → PairsFit pt.view → pt.view.queue pt.view.acting p ≡ queue → spelled pt (says (Label.End p y) ∷ after_end queue ms) ≡ Some w → State None w.point
ends_row pt p y queue ms w h fits is e =
    let l = Label.End p y in
    let k = says_next pt (Line.Label l) (after_end queue ms) w e in
    let next = moved pt (Line.Label l) k.s in
    State-at None k.rest.point w.point k.point
    (ended_behind next p queue ms k.rest (record { state = quiet_label pt l k.s None h k.is (bag_end h.e pt.kernel k.s p y k.is) (λ z. ended_off pt.view p z) (λ i. refl); fits = fits_as pt.view next.view refl fits }) is k.more)

-- what a call comes to
called_row : (pt : Point) (p : Pid) (n : ℕ) (queue : List MsgId) (ms : List ℕ) (c : calls.Called) (w : Spelled) → State None pt → PairsFit pt.view → pt.view.queue pt.view.acting p ≡ queue → spelled pt (rule.called p n (after_end queue ms) c) ≡ Some w → State None w.point
called_row pt p n queue ms (calls.Replies reply x) w h fits is e =
    one_line pt (Line.Label (Label.Call p n reply)) w e (λ s k. quiet_label pt (Label.Call p n reply) s None h k (bag_call h.e pt.kernel s p n reply k) (λ z. refl) (λ i. refl))
called_row pt p n queue ms (calls.Sends m x) w h fits is e =
    line_and_route pt (Line.Label (Label.Send p m.id)) m.id w e refl fits
    (λ s k. quiet_label pt (Label.Send p m.id) s (Some m.id) h k (bag_sends h.r h.e pt.kernel s p m.id k h.sound) (λ z. refl) (λ i. refl))
called_row pt p n queue ms (calls.Waits x) w h fits is e =
    one_line pt (Line.Label (Label.Wait p)) w e (λ s k. quiet_label pt (Label.Wait p) s None h k (bag_wait h.e pt.kernel s p k) (λ z. refl) (λ i. refl))
called_row pt p n queue ms (calls.Outputs word x) w h fits is e =
    one_line pt (Line.Label (Label.Out p word)) w e (λ s k. quiet_label pt (Label.Out p word) s None h k (bag_out h.e pt.kernel s p word k) (λ z. refl) (λ i. refl))
called_row pt p n queue ms (calls.Ends because) w h fits is e = ends_row pt p because queue ms w h fits is e

stops_row : (pt : Point) (p : Pid) (queue : List MsgId) (ms : List ℕ) (o : Option kernel.Trap) (w : Spelled) → State None pt → PairsFit pt.view → pt.view.queue pt.view.acting p ≡ queue → spelled pt (rule.stops p (after_end queue ms) o) ≡ Some w → State None w.point
stops_row pt p queue ms None w h fits is e = State-at None pt w.point (said pt w e) h
stops_row pt p queue ms (Some (kernel.Calls n c)) w h fits is e = called_row pt p n queue ms c w h fits is e
stops_row pt p queue ms (Some (kernel.Faults fault)) w h fits is e = ends_row pt p (Why.Fault fault) queue ms w h fits is e

maybe_stops : (pt : Point) (p : Pid) (queue : List MsgId) (ms : List ℕ) (full : Bool) (o : Option kernel.Trap) (w : Spelled) → State None pt → PairsFit pt.view → pt.view.queue pt.view.acting p ≡ queue → spelled pt (if full then [] else rule.stops p (after_end queue ms) o) ≡ Some w → State None w.point
maybe_stops pt p queue ms true o w h fits is e = State-at None pt w.point (said pt w e) h
maybe_stops pt p queue ms false o w h fits is e = stops_row pt p queue ms o w h fits is e

executes_row : (pt : Point) (quantum : ℕ) (p : Pid) (queue : List MsgId) (ms : List ℕ) (x : PlainProcess) (r : rule.Ran) (w : Spelled) → State None pt → PairsFit pt.view → pt.view.queue pt.view.acting p ≡ queue → spelled pt (rule.executes quantum p (after_end queue ms) x r) ≡ Some w → State None w.point
executes_row pt quantum p queue ms x r w h fits is e =
    let l = Label.Ran p r.count in
    let k = says_next pt (Line.Label l) (if r.count == quantum then [] else rule.stops p (after_end queue ms) (kernel.next_row p (kernel.with_machine x r.machine) (instruction r.machine.regs r.machine.bytes))) w e in
    let next = moved pt (Line.Label l) k.s in
    let there = quiet_label pt l k.s None h k.is (bag_ran h.e pt.kernel k.s p r.count k.is) (λ z. serving_off pt.view p z) (λ i. refl) in
    State-at None k.rest.point w.point k.point
    (maybe_stops next p queue ms (r.count == quantum) (kernel.next_row p (kernel.with_machine x r.machine) (instruction r.machine.regs r.machine.bytes)) k.rest there (fits_as pt.view next.view refl fits) is k.more)

awaited_if : (s : OneKernel) (mask : ℕ) (i : MsgId) (is : List MsgId) (id : MsgId) (b : Bool) → (if b then Some i else rule.first_awaited s mask is) ≡ Some id → (rule.first_awaited s mask is ≡ Some id → 1 ≤ times id is) → 1 ≤ times id (i ∷ is)
awaited_if s mask i is id true e later =
    let one : one_of id i ≡ 1 = ap (one_of id) (let f : i ≡ id = cc in f) ∙ ap (λ (c : Bool). if c then 1 else 0) (id_eq-same id) in omega (arith, one)
awaited_if s mask i is id false e later = let k = later e in omega (arith, k)

-- the message that a waiting process takes stands in its queue
awaited_stands : (s : OneKernel) (mask : ℕ) (queue : List MsgId) (id : MsgId) → rule.first_awaited s mask queue ≡ Some id → 1 ≤ times id queue
awaited_stands s mask [] id e = none_some id e
awaited_stands s mask (i ∷ is) id e = awaited_if s mask i is id (rule.is_awaited mask (s.bag i)) e (λ k. awaited_stands s mask is id k)

completes_row : (pt : Point) (p : Pid) (id : MsgId) (c : receiving.Completed) (w : Spelled) → State None pt → 1 ≤ times id (pt.view.queue pt.view.acting p) → spelled pt (rule.completion_parts p id c) ≡ Some w → State None w.point
completes_row pt p id (receiving.Receives x) w h there e =
    let received_off : (v : View) (p : Pid) (rest : List MsgId) (z : Spot) → ids_at (record (view.serving v p) { queue = at_record v.queue v.acting p rest }) z ≡ ids_at (record v { queue = at_record v.queue v.acting p rest }) z =
    λ v p rest z. elim z as (λ z_. ids_at (record (view.serving v p) { queue = at_record v.queue v.acting p rest }) z_ ≡ ids_at (record v { queue = at_record v.queue v.acting p rest }) z_) [ Queue m' q' ↦ refl | _ ↦ refl ] in
    one_line pt (Line.Label (Label.Receive p id)) w e
    (λ s k. by_label pt (Label.Receive p id) s (Some id) None h k (gone_out pt (Label.Receive p id) s id h k refl) (bag_receive h.e pt.kernel s p id k)
    (Stands-dequeued (letters h.own pt.kernel.bag) pt.view (view_after pt.view (Line.Label (Label.Receive p id))) id p (without_id id (pt.view.queue pt.view.acting p)) (λ j. without_counts j id (pt.view.queue pt.view.acting p) there)
    (λ z. received_off pt.view p (without_id id (pt.view.queue pt.view.acting p)) z) (λ i. refl) h.stands) (λ i. refl))
completes_row pt p id (receiving.Refuses reply x) w h there e =
    one_line pt (Line.Label (Label.Refuse p id reply)) w e (λ s k. quiet_label pt (Label.Refuse p id reply) s None h k (bag_refuse h.e pt.kernel s p id reply k) (λ z. serving_off pt.view p z) (λ i. refl))

receives_row : (pt : Point) (p : Pid) (x : PlainProcess) (mask : ℕ) (o : Option MsgId) (parts : List Part) (w : Spelled) → State None pt → rule.first_awaited pt.kernel mask (pt.view.queue pt.view.acting p) ≡ o → rule.reception_parts pt.kernel p x o ≡ Some parts → spelled pt parts ≡ Some w → State None w.point
receives_row pt p x mask None parts w h first is e = none_some parts is
receives_row pt p x mask (Some id) parts w h first is e =
    let (m, there, rest) = bind-is (pt.kernel.bag id) (λ m. bind (receiving.completes_with p x m) (λ c. Some (rule.completion_parts p id c))) parts is in
    let (c, done, last) = bind-is (receiving.completes_with p x m) (λ c. Some (rule.completion_parts p id c)) parts rest in
    completes_row pt p id c w h (awaited_stands pt.kernel mask (pt.view.queue pt.view.acting p) id first) (ap (spelled pt) (let f : rule.completion_parts p id c ≡ parts = cc in f) ∙ e)

serves_row : (pt : Point) (quantum : ℕ) (p : Pid) (ms : List ℕ) (x : PlainProcess) (st : PlainStatus) (parts : List Part) (w : Spelled) → State None pt → PairsFit pt.view
    → rule.serves_status quantum pt.kernel p (pt.view.queue pt.view.acting p) (after_end (pt.view.queue pt.view.acting p) ms) x st ≡ Some parts → spelled pt parts ≡ Some w → State None w.point
serves_row pt quantum p ms x Ready parts w h fits is e =
    let f : rule.executes quantum p (after_end (pt.view.queue pt.view.acting p) ms) x (rule.ran quantum (kernel.machine_of x)) ≡ parts = cc in
    executes_row pt quantum p (pt.view.queue pt.view.acting p) ms x (rule.ran quantum (kernel.machine_of x)) w h fits refl (ap (spelled pt) f ∙ e)
serves_row pt quantum p ms x (Waiting mask base size) parts w h fits is e = receives_row pt p x mask (rule.first_awaited pt.kernel mask (pt.view.queue pt.view.acting p)) parts w h refl is e
serves_row pt quantum p ms x (Moving dir owner base own left pending) parts w h fits is e = cc

-- labels that answer the message at the inbox's front
gone_row : (pt : Point) (i : MsgId) (is : List MsgId) (w : Spelled) → State None pt → PairsFit pt.view → pt.view.inbox pt.view.acting ≡ i ∷ is → spelled pt (says (Label.Gone i) ∷ Routes (answer_id i) ∷ []) ≡ Some w → State None w.point
gone_row pt i is w h fits front e =
    line_and_route pt (Line.Label (Label.Gone i)) (answer_id i) w e refl fits
    (λ s k. front_label pt (Label.Gone i) s i is (Some (answer_id i)) h front k refl (bag_gone h.r h.e pt.kernel s i k h.sound) (λ z. refl) (λ j. refl))

-- a process is asked to move: where it is already, that is answered at once, else it leaves
asked_by : (pt : Point) (i : MsgId) (p : Pid) (to : ℕ) (same : Bool) (w : Spelled) → State None pt → PairsFit pt.view → pt.view.topic ≡ Target to → spelled pt (if same then answers_move i Outcome.Done else leaves_for p to) ≡ Some w
    → State None w.point
asked_by pt i p to true w h fits topic e = answers_row pt i Outcome.Done w h fits e
asked_by pt i p to false w h fits topic e = goes_row pt p to w (frozen_state pt p to h topic) fits e

pub asked_state : (pt : Point) (i : MsgId) (is : List MsgId) (s : OneKernel) → State None pt → pt.view.inbox pt.view.acting ≡ i ∷ is → kernel.step pt.kernel (Label.Asked i) ≡ Some s → State None (moved pt (Line.Label (Label.Asked i)) s)
asked_state pt i is s h front k = front_label pt (Label.Asked i) s i is None h front k refl (bag_asked h.e pt.kernel s i k) (λ z. refl) (λ j. refl)

asks_row : (pt : Point) (m : ℕ) (i : MsgId) (is : List MsgId) (msg : PlainMessage) (to : ℕ) (w : Spelled) → State None pt → PairsFit pt.view → pt.view.inbox pt.view.acting ≡ i ∷ is → pt.kernel.bag i ≡ Some msg → msg.what ≡ PlainWhat.Move to
    → spelled pt (asked_to_move m i msg.to to) ≡ Some w → State None w.point
asks_row pt m i is msg to w h fits front there what e =
    let l = Label.Asked i in
    let k = says_next pt (Line.Label l) (if m == to then answers_move i Outcome.Done else leaves_for msg.to to) w e in
    let next = moved pt (Line.Label l) k.s in
    State-at None k.rest.point w.point k.point (asked_by next i msg.to to (m == to) k.rest (asked_state pt i is k.s h front k.is) (fits_as pt.view next.view refl fits) (ap (λ (o : Option PlainMessage). option_map_or (λ m. move_target m.what) o NothingElse) there ∙ ap move_target what) k.more)

dropped_row : (pt : Point) (i : MsgId) (is : List MsgId) (w : Spelled) → State None pt → pt.view.inbox pt.view.acting ≡ i ∷ is → spelled pt (says (Label.Dropped i) ∷ []) ≡ Some w → State None w.point
dropped_row pt i is w h front e =
    -- a message that stands in the inbox is at the front of no queue
    let dropped_off : (v : View) (i : MsgId) (o : Option Pid) → ((m : ℕ) (p : Pid) → times i (v.queue m p) ≡ 0) → (z : Spot) → ids_at (view.dropped_for (handled v i) i o) z ≡ ids_at (handled v i) z =
    λ v i o h1 z. search (arith, at_record_same, without_front_none) in
    one_line pt (Line.Label (Label.Dropped i)) w e
    (λ s k. front_label pt (Label.Dropped i) s i is None h front k refl (bag_dropped h.e pt.kernel s i k) (λ z. dropped_off pt.view i (receiver_of (pt.view.told i)) (front_unqueued pt i is h front) z) (λ j. dropped_told pt.view i (receiver_of (pt.view.told i)) j))

created_row : (pt : Point) (i : MsgId) (is : List MsgId) (child : Pid) (w : Spelled) → State None pt → PairsFit pt.view → pt.view.inbox pt.view.acting ≡ i ∷ is → spelled pt (says (Label.Created i child) ∷ Routes (answer_id i) ∷ []) ≡ Some w → State None w.point
created_row pt i is child w h fits front e =
    line_and_route pt (Line.Label (Label.Created i child)) (answer_id i) w e refl fits
    (λ s k. front_label pt (Label.Created i child) s i is (Some (answer_id i)) h front k refl (bag_created h.r h.e pt.kernel s i child k h.sound) (λ z. created_off pt.view i child z) (λ j. refl))

no_space_row : (pt : Point) (i : MsgId) (is : List MsgId) (a b : ℕ) (w : Spelled) → State None pt → PairsFit pt.view → pt.view.inbox pt.view.acting ≡ i ∷ is → spelled pt (says (Label.NoSpace i a b) ∷ Routes (answer_id i) ∷ []) ≡ Some w → State None w.point
no_space_row pt i is a b w h fits front e =
    line_and_route pt (Line.Label (Label.NoSpace i a b)) (answer_id i) w e refl fits
    (λ s k. front_label pt (Label.NoSpace i a b) s i is (Some (answer_id i)) h front k refl (bag_no_space h.r h.e pt.kernel s i a b k h.sound) (λ z. refl) (λ j. refl))

-- a served message: what its line leaves as it is
served_label : (pt : Point) (i : MsgId) (is : List MsgId) (put : Option MsgId) (s : OneKernel) (h : State None pt) → pt.view.inbox pt.view.acting ≡ i ∷ is → kernel.step pt.kernel (Label.Served i) ≡ Some s → BagStep h.e pt.kernel s (Some i) put → State put (moved pt (Line.Label (Label.Served i)) s)
served_label pt i is put s h front k bag =
    let keeps = served_keeps (handled pt.view i) (pt.view.told i) in
    front_label pt (Label.Served i) s i is put h front k refl bag keeps.0 keeps.1

-- the same message, and the same process, as the rule saw
served_put : (pt : Point) (i : MsgId) (m : PlainMessage) (x : PlainProcess) (s : OneKernel) (h : State None pt) → pt.kernel.bag i ≡ Some m → kernel.alive (pt.kernel.processes m.to) ≡ Some x → kernel.step pt.kernel (Label.Served i) ≡ Some s
    → BagStep h.e pt.kernel s (Some i) (served_id i m x m.what)
served_put pt i m x s h there alive k =
    let q = bag_served h.r h.e pt.kernel s i k h.sound in
    let same : q.m ≡ m = let t = q.there in let u : Some q.m ≡ Some m = sym t ∙ there in cc in
    let also : q.x ≡ x = let u : Some q.x ≡ Some x = sym (ap (λ (y : PlainMessage). kernel.alive (pt.kernel.processes y.to)) (sym same) ∙ ap kernel.alive q.alive) ∙ alive in cc in
    subst (λ y. BagStep h.e pt.kernel s (Some i) (served_id i m y m.what)) also (subst (λ (n : PlainMessage). BagStep h.e pt.kernel s (Some i) (served_id i n q.x n.what)) same q.is)

served_alone : (pt : Point) (i : MsgId) (is : List MsgId) (m : PlainMessage) (x : PlainProcess) (w : Spelled) (h : State None pt) → pt.view.inbox pt.view.acting ≡ i ∷ is → pt.kernel.bag i ≡ Some m → kernel.alive (pt.kernel.processes m.to) ≡ Some x
    → served_id i m x m.what ≡ None → spelled pt (says (Label.Served i) ∷ []) ≡ Some w → State None w.point
served_alone pt i is m x w h front there alive none e =
    one_line pt (Line.Label (Label.Served i)) w e (λ s k. served_label pt i is None s h front k (subst (BagStep h.e pt.kernel s (Some i)) none (served_put pt i m x s h there alive k)))

served_routes : (pt : Point) (i : MsgId) (is : List MsgId) (m : PlainMessage) (x : PlainProcess) (j : MsgId) (w : Spelled) (h : State None pt) → PairsFit pt.view → pt.view.inbox pt.view.acting ≡ i ∷ is → pt.kernel.bag i ≡ Some m → kernel.alive (pt.kernel.processes m.to) ≡ Some x
    → served_id i m x m.what ≡ Some j → spelled pt (says (Label.Served i) ∷ Routes j ∷ []) ≡ Some w → State None w.point
served_routes pt i is m x j w h fits front there alive put e =
    let keeps = served_keeps (handled pt.view i) (pt.view.told i) in
    line_and_route pt (Line.Label (Label.Served i)) j w e keeps.2 fits (λ s k. served_label pt i is (Some j) s h front k (subst (BagStep h.e pt.kernel s (Some i)) put (served_put pt i m x s h there alive k)))

lands_row : (pt : Point) (i : MsgId) (is : List MsgId) (m : PlainMessage) (x : PlainProcess) (o : Option pieces.Landed) (parts : List Part) (w : Spelled) (h : State None pt) → PairsFit pt.view → pt.view.inbox pt.view.acting ≡ i ∷ is → pt.kernel.bag i ≡ Some m → kernel.alive (pt.kernel.processes m.to) ≡ Some x
    → served_id i m x m.what ≡ landed_id o → rule.landing_parts i o ≡ Some parts → spelled pt parts ≡ Some w → State None w.point
lands_row pt i is m x None parts w h fits front there alive put e k = none_some parts e
lands_row pt i is m x (Some (pieces.Next request y)) parts w h fits front there alive put e k =
    served_routes pt i is m x request.id w h fits front there alive put (ap (spelled pt) (let f : says (Label.Served i) ∷ Routes request.id ∷ [] ≡ parts = cc in f) ∙ k)
lands_row pt i is m x (Some (pieces.Done reply y)) parts w h fits front there alive put e k =
    served_alone pt i is m x w h front there alive put (ap (spelled pt) (let f : says (Label.Served i) ∷ [] ≡ parts = cc in f) ∙ k)

killed_row : (pt : Point) (i : MsgId) (is : List MsgId) (m : PlainMessage) (x : PlainProcess) (ms : List ℕ) (w : Spelled) (h : State None pt) → PairsFit pt.view → pt.view.inbox pt.view.acting ≡ i ∷ is → pt.kernel.bag i ≡ Some m → kernel.alive (pt.kernel.processes m.to) ≡ Some x
    → served_id i m x m.what ≡ None → spelled pt (says (Label.Served i) ∷ after_end (pt.view.queue pt.view.acting m.to) ms) ≡ Some w → State None w.point
killed_row pt i is m x ms w h fits front there alive none e =
    let l = Label.Served i in
    let k = says_next pt (Line.Label l) (after_end (pt.view.queue pt.view.acting m.to) ms) w e in
    let next = moved pt (Line.Label l) k.s in
    let keeps = served_keeps (handled pt.view i) (pt.view.told i) in
    let there_ = served_label pt i is None k.s h front k.is (subst (BagStep h.e pt.kernel k.s (Some i)) none (served_put pt i m x k.s h there alive k.is)) in
    State-at None k.rest.point w.point k.point
    (ended_behind next m.to (pt.view.queue pt.view.acting m.to) ms k.rest (record { state = there_; fits = fits_as pt.view next.view keeps.2 fits }) (ap (λ a. next.view.queue a m.to) keeps.3 ∙ ap (λ f. f pt.view.acting m.to) keeps.4) k.more)

queued_row : (pt : Point) (i : MsgId) (is : List MsgId) (m : PlainMessage) (w : Spelled) → State None pt → pt.view.inbox pt.view.acting ≡ i ∷ is → pt.kernel.bag i ≡ Some m → spelled pt (Says (Line.Queued i) ∷ []) ≡ Some w → State None w.point
queued_row pt i is m w h front there e =
    one_line pt (Line.Queued i) w e (λ s k.
    State-at None (moved pt (Line.Queued i) pt.kernel) (moved pt (Line.Queued i) s) (ap (moved pt (Line.Queued i)) (let same : pt.kernel ≡ s = cc in same))
    (by_line None pt (Line.Queued i) refl h (Stands-queued (letters h.own pt.kernel.bag) pt.view (view_after pt.view (Line.Queued i)) i is m.to front (letter_of h.r h.e h.own pt.kernel i m there h.sound) refl h.stands) (λ j.
    (elim (receiver_of (pt.view.told i)) as (λ o_. (view.queued_for (handled pt.view i) i o_).told j ≡ pt.view.told j) [ None ↦ refl | Some p' ↦ refl ]))))

-- a message for a process that is here, by its kind; the rule saw the point before the head, which has the same kernel and queues
here_row : (o pt : Point) (m : ℕ) (i : MsgId) (is : List MsgId) (msg : PlainMessage) (x : PlainProcess) (k : PlainWhat) (parts : List Part) (w : Spelled) (h : State None pt) → PairsFit pt.view → pt.view.inbox pt.view.acting ≡ i ∷ is → pt.kernel.bag i ≡ Some msg
    → kernel.alive (pt.kernel.processes msg.to) ≡ Some x → msg.what ≡ k → o.view.queue m msg.to ≡ pt.view.queue pt.view.acting msg.to → rule.here_handles o m i msg x k ≡ Some parts → spelled pt parts ≡ Some w → State None w.point
here_row o pt m i is msg x (PlainWhat.User a b c d) parts w h fits front there alive k queue e n = let f : Says (Line.Queued i) ∷ [] ≡ parts = cc in queued_row pt i is msg w h front there (ap (spelled pt) f ∙ n)
here_row o pt m i is msg x PlainWhat.Stop parts w h fits front there alive k queue e n = let f : says (Label.Served i) ∷ [] ≡ parts = cc in served_alone pt i is msg x w h front there alive (ap (served_id i msg x) k) (ap (spelled pt) f ∙ n)
here_row o pt m i is msg x PlainWhat.Resume parts w h fits front there alive k queue e n = let f : says (Label.Served i) ∷ [] ≡ parts = cc in served_alone pt i is msg x w h front there alive (ap (served_id i msg x) k) (ap (spelled pt) f ∙ n)
here_row o pt m i is msg x PlainWhat.Kill parts w h fits front there alive k queue e n =
    let ms = preds_of o m msg.to in
    let f : says (Label.Served i) ∷ after_end (o.view.queue m msg.to) ms ≡ parts = cc in
    killed_row pt i is msg x ms w h fits front there alive (ap (served_id i msg x) k) (ap (λ q. spelled pt (says (Label.Served i) ∷ after_end q ms)) (sym queue) ∙ ap (spelled pt) f ∙ n)
here_row o pt m i is msg x (PlainWhat.Read a b) parts w h fits front there alive k queue e n =
    let f : says (Label.Served i) ∷ Routes (answer_id i) ∷ [] ≡ parts = cc in served_routes pt i is msg x (answer_id i) w h fits front there alive (ap (served_id i msg x) k) (ap (spelled pt) f ∙ n)
here_row o pt m i is msg x (PlainWhat.Write a b) parts w h fits front there alive k queue e n =
    let f : says (Label.Served i) ∷ Routes (answer_id i) ∷ [] ≡ parts = cc in served_routes pt i is msg x (answer_id i) w h fits front there alive (ap (served_id i msg x) k) (ap (spelled pt) f ∙ n)
here_row o pt m i is msg x (PlainWhat.Block a) parts w h fits front there alive k queue e n = lands_row pt i is msg x (pieces.lands msg.to x msg x.status) parts w h fits front there alive (ap (served_id i msg x) k) e n
here_row o pt m i is msg x PlainWhat.Written parts w h fits front there alive k queue e n = lands_row pt i is msg x (pieces.lands msg.to x msg x.status) parts w h fits front there alive (ap (served_id i msg x) k) e n
here_row o pt m i is msg x PlainWhat.Gone parts w h fits front there alive k queue e n = lands_row pt i is msg x (pieces.lands msg.to x msg x.status) parts w h fits front there alive (ap (served_id i msg x) k) e n
here_row o pt m i is msg x (PlainWhat.Move a) parts w h fits front there alive k queue e n = let f : asked_to_move m i msg.to a ≡ parts = cc in asks_row pt m i is msg a w h fits front there k (ap (spelled pt) f ∙ n)
here_row o pt m i is msg x _ parts w h fits front there alive k queue e n = none_some parts e

ended_row : (pt : Point) (i : MsgId) (is : List MsgId) (k : PlainWhat) (parts : List Part) (w : Spelled) → State None pt → PairsFit pt.view → pt.view.inbox pt.view.acting ≡ i ∷ is → rule.ended_handles i k ≡ Some parts → spelled pt parts ≡ Some w → State None w.point
ended_row pt i is (PlainWhat.Read a b) parts w h fits front e n = let f : says (Label.Gone i) ∷ Routes (answer_id i) ∷ [] ≡ parts = cc in gone_row pt i is w h fits front (ap (spelled pt) f ∙ n)
ended_row pt i is (PlainWhat.Write a b) parts w h fits front e n = let f : says (Label.Gone i) ∷ Routes (answer_id i) ∷ [] ≡ parts = cc in gone_row pt i is w h fits front (ap (spelled pt) f ∙ n)
ended_row pt i is (PlainWhat.Create a b) parts w h fits front e n = none_some parts e
ended_row pt i is (PlainWhat.Created a) parts w h fits front e n = none_some parts e
ended_row pt i is PlainWhat.NoRoom parts w h fits front e n = none_some parts e
ended_row pt i is (PlainWhat.Move a) parts w h fits front e n = let f : says (Label.Gone i) ∷ Routes (answer_id i) ∷ [] ≡ parts = cc in gone_row pt i is w h fits front (ap (spelled pt) f ∙ n)
ended_row pt i is (PlainWhat.Moved a) parts w h fits front e n = none_some parts e
ended_row pt i is _ parts w h fits front e n = let f : says (Label.Dropped i) ∷ [] ≡ parts = cc in dropped_row pt i is w h front (ap (spelled pt) f ∙ n)

-- a server's work
took_row : (pt : Point) (i : MsgId) (is : List MsgId) (m : PlainMessage) (o : Option PlainMessage) (w : Spelled) (h : State None pt) → PairsFit pt.view → pt.view.inbox pt.view.acting ≡ i ∷ is → pt.kernel.bag i ≡ Some m → took_id pt.kernel m ≡ id_in o
    → spelled pt (says (Label.Took i) ∷ rule.routes o) ≡ Some w → State None w.point
took_row pt i is m o w h fits front there put e =
    line_and_maybe pt (Line.Label (Label.Took i)) o w e refl fits (λ s k.
    let q = bag_took h.r h.e pt.kernel s i k h.sound in
    let same : q.m ≡ m = let t = q.there in let u : Some q.m ≡ Some m = sym t ∙ there in cc in
    front_label pt (Label.Took i) s i is (id_in o) h front k refl (subst (BagStep h.e pt.kernel s (Some i)) put (subst (λ (n : PlainMessage). BagStep h.e pt.kernel s (Some i) (took_id pt.kernel n)) same q.is)) (λ z. refl) (λ j. refl))

board_row : (pt : Point) (i : MsgId) (is : List MsgId) (m : PlainMessage) (t : Option board.BoardTook) (parts : List Part) (w : Spelled) (h : State None pt) → PairsFit pt.view → pt.view.inbox pt.view.acting ≡ i ∷ is → pt.kernel.bag i ≡ Some m → took_id pt.kernel m ≡ board_id t
    → rule.board_took i t ≡ Some parts → spelled pt parts ≡ Some w → State None w.point
board_row pt i is m None parts w h fits front there put e n = none_some parts e
board_row pt i is m (Some t) parts w h fits front there put e n = let f : says (Label.Took i) ∷ rule.routes t.answer ≡ parts = cc in took_row pt i is m t.answer w h fits front there put (ap (spelled pt) f ∙ n)

manager_row : (pt : Point) (i : MsgId) (is : List MsgId) (m : PlainMessage) (t : Option manage.ManagerTook) (parts : List Part) (w : Spelled) (h : State None pt) → PairsFit pt.view → pt.view.inbox pt.view.acting ≡ i ∷ is → pt.kernel.bag i ≡ Some m → took_id pt.kernel m ≡ manager_id t
    → rule.manager_parts i t ≡ Some parts → spelled pt parts ≡ Some w → State None w.point
manager_row pt i is m None parts w h fits front there put e n = none_some parts e
manager_row pt i is m (Some t) parts w h fits front there put e n = let f : says (Label.Took i) ∷ rule.routes t.message ≡ parts = cc in took_row pt i is m t.message w h fits front there put (ap (spelled pt) f ∙ n)

-- the receiver is here: a server or another process
own_row : (o pt : Point) (m : ℕ) (i : MsgId) (is : List MsgId) (msg : PlainMessage) (l n : Bool) (parts : List Part) (w : Spelled) (h : State None pt) → PairsFit pt.view → pt.view.inbox pt.view.acting ≡ i ∷ is → pt.kernel.bag i ≡ Some msg → o.kernel ≡ pt.kernel
    → o.view.queue m msg.to ≡ pt.view.queue pt.view.acting msg.to → pid_eq msg.to switchboard ≡ l → pid_eq msg.to manager ≡ n
    → (if l then rule.board_took i (board.board_takes o.kernel.switchboard msg msg.what) else if n then rule.manager_parts i (manage.manager_takes o.kernel.manager o.kernel.machines (length o.kernel.images) msg msg.what)
    else bind (kernel.alive (o.kernel.processes msg.to)) (λ x. rule.here_handles o m i msg x msg.what)) ≡ Some parts
    → spelled pt parts ≡ Some w → State None w.point
own_row o pt m i is msg true n parts w h fits front there same queue x y e z =
    let t = board.board_takes o.kernel.switchboard msg msg.what in
    let put : took_id pt.kernel msg ≡ board_id t = ap (λ (c : Bool). if c then board_id (board.board_takes pt.kernel.switchboard msg msg.what) else if pid_eq msg.to manager then manager_id (manage.manager_takes pt.kernel.manager pt.kernel.machines (length pt.kernel.images) msg msg.what) else None) x
    ∙ ap (λ (s : OneKernel). board_id (board.board_takes s.switchboard msg msg.what)) (sym same) in
    board_row pt i is msg t parts w h fits front there put e z
own_row o pt m i is msg false true parts w h fits front there same queue x y e z =
    let t = manage.manager_takes o.kernel.manager o.kernel.machines (length o.kernel.images) msg msg.what in
    let put : took_id pt.kernel msg ≡ manager_id t = ap (λ (c : Bool). if c then board_id (board.board_takes pt.kernel.switchboard msg msg.what) else if pid_eq msg.to manager then manager_id (manage.manager_takes pt.kernel.manager pt.kernel.machines (length pt.kernel.images) msg msg.what) else None) x
    ∙ ap (λ (c : Bool). if c then manager_id (manage.manager_takes pt.kernel.manager pt.kernel.machines (length pt.kernel.images) msg msg.what) else None) y
    ∙ ap (λ (s : OneKernel). manager_id (manage.manager_takes s.manager s.machines (length s.images) msg msg.what)) (sym same) in
    manager_row pt i is msg t parts w h fits front there put e z
own_row o pt m i is msg false false parts w h fits front there same queue x y e n =
    let (x, alive, rest) = bind-is (kernel.alive (o.kernel.processes msg.to)) (λ x. rule.here_handles o m i msg x msg.what) parts e in
    here_row o pt m i is msg x msg.what parts w h fits front there (ap (λ (s : OneKernel). kernel.alive (s.processes msg.to)) (sym same) ∙ alive) refl queue rest n

process_row : (o pt : Point) (m : ℕ) (i : MsgId) (is : List MsgId) (msg : PlainMessage) (k : view.Known) (parts : List Part) (w : Spelled) (h : State None pt) → PairsFit pt.view → pt.view.inbox pt.view.acting ≡ i ∷ is → pt.kernel.bag i ≡ Some msg → o.kernel ≡ pt.kernel
    → o.view.queue m msg.to ≡ pt.view.queue pt.view.acting msg.to → rule.process_handles o m i msg k ≡ Some parts → spelled pt parts ≡ Some w → State None w.point
process_row o pt m i is msg view.Unknown parts w h fits front there same queue e n = ended_row pt i is msg.what parts w h fits front e n
process_row o pt m i is msg view.Here parts w h fits front there same queue e n = own_row o pt m i is msg (pid_eq msg.to switchboard) (pid_eq msg.to manager) parts w h fits front there same queue refl refl e n
process_row o pt m i is msg (view.Forward at moves) parts w h fits front there same queue e n =
    forwards_row pt o.addresses i is (plain_kind msg.what) msg.sender at w h fits front (ap (spelled pt) (let f : forwards_on o.addresses i (plain_kind msg.what) msg.sender at ≡ parts = cc in f) ∙ n)
process_row o pt m i is msg _ parts w h fits front there same queue e n = let f : Says (Line.Held i) ∷ [] ≡ parts = cc in held_row pt i is w h front (ap (spelled pt) f ∙ n)

-- a kernel's work
creates_row : (o pt : Point) (m : ℕ) (i : MsgId) (is : List MsgId) (b : Bool) (room : rule.Room) (w : Spelled) (h : State None pt) → PairsFit pt.view → pt.view.inbox pt.view.acting ≡ i ∷ is
    → spelled pt ((if b then says (Label.Created i (pid_of m (first_number + o.kernel.made m))) else says (Label.NoSpace i room.slots room.blocks)) ∷ Routes (answer_id i) ∷ []) ≡ Some w → State None w.point
creates_row o pt m i is true room w h fits front e = created_row pt i is (pid_of m (first_number + o.kernel.made m)) w h fits front e
creates_row o pt m i is false room w h fits front e = no_space_row pt i is room.slots room.blocks w h fits front e

creates_of : (o pt : Point) (m : ℕ) (i : MsgId) (is : List MsgId) (room : rule.Room) (image : Option BootImage) (parts : List Part) (w : Spelled) (h : State None pt) → PairsFit pt.view → pt.view.inbox pt.view.acting ≡ i ∷ is → rule.creation_parts o m i room image ≡ Some parts → spelled pt parts ≡ Some w → State None w.point
creates_of o pt m i is room None parts w h fits front e n = none_some parts e
creates_of o pt m i is room (Some g) parts w h fits front e n =
    let f : (if rule.has_room room g.blocks then says (Label.Created i (pid_of m (first_number + o.kernel.made m))) else says (Label.NoSpace i room.slots room.blocks)) ∷ Routes (answer_id i) ∷ [] ≡ parts = cc in
    creates_row o pt m i is (rule.has_room room g.blocks) room w h fits front (ap (spelled pt) f ∙ n)

kernel_row : (b : Boot) (o pt : Point) (m : ℕ) (i : MsgId) (is : List MsgId) (k : PlainWhat) (parts : List Part) (w : Spelled) (h : State None pt) → PairsFit pt.view → pt.view.inbox pt.view.acting ≡ i ∷ is → rule.kernel_handles b o m i k ≡ Some parts → spelled pt parts ≡ Some w → State None w.point
kernel_row b o pt m i is (PlainWhat.Create image links) parts w h fits front e n = creates_of o pt m i is (rule.free_room b o m) (slice_get b.images image) parts w h fits front e n
kernel_row b o pt m i is _ parts w h fits front e n = none_some parts e

-- the receiver is a kernel or none
handles_by : (b : Boot) (o pt : Point) (m : ℕ) (i : MsgId) (is : List MsgId) (msg : PlainMessage) (k : Bool) (parts : List Part) (w : Spelled) (h : State None pt) → PairsFit pt.view → pt.view.inbox pt.view.acting ≡ i ∷ is → pt.kernel.bag i ≡ Some msg → o.kernel ≡ pt.kernel
    → o.view.queue m msg.to ≡ pt.view.queue pt.view.acting msg.to
    → (if k then rule.kernel_handles b o m i msg.what else rule.process_handles o m i msg (o.view.known m msg.to)) ≡ Some parts → spelled pt parts ≡ Some w → State None w.point
handles_by b o pt m i is msg true parts w h fits front there same queue e z = kernel_row b o pt m i is msg.what parts w h fits front e z
handles_by b o pt m i is msg false parts w h fits front there same queue e z = process_row o pt m i is msg (o.view.known m msg.to) parts w h fits front there same queue e z

-- a turn: what the rule saw before the head, said after it
goes_round_row : (b : Boot) (o pt : Point) (m : ℕ) (p : Option Pid) (parts : List Part) (w : Spelled) (h : State None pt) → PairsFit pt.view → o.kernel ≡ pt.kernel → ((q : Pid) → o.view.queue m q ≡ pt.view.queue pt.view.acting q) → rule.goes_round b o m p ≡ Some parts → spelled pt parts ≡ Some w → State None w.point
goes_round_row b o pt m None parts w h fits same queue e n =
    let f : Says (Line.Idle m) ∷ [] ≡ parts = cc in
    one_line pt (Line.Idle m) w (ap (spelled pt) f ∙ n) (λ s k. let g : pt.kernel ≡ s = cc in State-at None (moved pt (Line.Idle m) pt.kernel) (moved pt (Line.Idle m) s) (ap (moved pt (Line.Idle m)) g) (by_line None pt (Line.Idle m) refl h h.stands (λ i. refl)))
goes_round_row b o pt m (Some p) parts w h fits same queue e n =
    let ms = preds_of o m p in
    let (x, alive, rest) = bind-is (kernel.alive (o.kernel.processes p)) (λ x. rule.serves_status b.quantum o.kernel p (o.view.queue m p) (after_end (o.view.queue m p) ms) x x.status) parts e in
    let here : rule.serves_status b.quantum pt.kernel p (pt.view.queue pt.view.acting p) (after_end (pt.view.queue pt.view.acting p) ms) x x.status ≡ Some parts =
    ap (λ s. rule.serves_status b.quantum s p (pt.view.queue pt.view.acting p) (after_end (pt.view.queue pt.view.acting p) ms) x x.status) (sym same)
    ∙ ap (λ q. rule.serves_status b.quantum o.kernel p q (after_end q ms) x x.status) (sym (queue p)) ∙ rest in
    serves_row pt b.quantum p ms x x.status parts w h fits here n

comes_row : (b : Boot) (o pt : Point) (m : ℕ) (i : MsgId) (is : List MsgId) (t : Option PlainMessage) (parts : List Part) (w : Spelled) (h : State None pt) → PairsFit pt.view → pt.view.topic ≡ NothingElse
    → pt.view.inbox pt.view.acting ≡ i ∷ is → SeesSame o pt m → o.kernel.bag i ≡ t
    → rule.comes_to b o m i t ≡ Some parts → spelled pt parts ≡ Some w → State None w.point
comes_row b o pt m i is None parts w h fits topic front sees there e n =
    hears_row b o pt m i is (o.view.told i) parts w h fits topic front (ap (λ (s : OneKernel). s.bag i) (sym sees.kernel) ∙ there) sees e n
comes_row b o pt m i is (Some msg) parts w h fits topic front sees there e n =
    handles_by b o pt m i is msg (msg.to.num == 0) parts w h fits front (ap (λ (s : OneKernel). s.bag i) (sym sees.kernel) ∙ there) sees.kernel (sees.queue msg.to) e n

pub turns_row : (b : Boot) (o pt : Point) (m : ℕ) (inbox : List MsgId) (parts : List Part) (w : Spelled) (h : State None pt) → PairsFit pt.view → pt.view.topic ≡ NothingElse → pt.view.inbox pt.view.acting ≡ inbox → SeesSame o pt m
    → rule.turns b o m inbox ≡ Some parts → spelled pt parts ≡ Some w → State None w.point
turns_row b o pt m [] parts w h fits topic front sees e n = goes_round_row b o pt m (rule.first_runnable o.kernel (o.view.queue m) (o.view.ring m)) parts w h fits sees.kernel sees.queue e n
turns_row b o pt m (i ∷ is) parts w h fits topic front sees e n = comes_row b o pt m i is (o.kernel.bag i) parts w h fits topic front sees refl e n
