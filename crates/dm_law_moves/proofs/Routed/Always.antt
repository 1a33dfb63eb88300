-- A step of the kernel without machines counts no message as sent that it doesn't put into the bag.
use Rattle.dm_law_moves.proofs.Names.{◌≡◌, ◌⊎◌, ℕ, zero, suc, ◌<◌, ◌≤◌, true, false, is_some, nat_lt, List, [], ◌∷◌, ◌++◌, length, refl, ap, ◌∙◌, sym, subst, inl, inr, arith, Option, Some, false≢true, nat_tests, Pid, pid_eq, MsgId, id_of}
use Rattle.dm_law_moves.proofs.Names.{BootProcess, Boot, IsValid, switchboard, manager, Alive, OneKernel, PlainProcess, life_at, id_eq-is, not_server, bind-is, Step, Line, without_id, Point, first_point, after, after_line, times, View, Told}
use Rattle.dm_law_moves.proofs.Names.{view_after, hushed, without_counts, one_of, line_view, put_told_off, LeadsBy, Both, both_start, both_group, times_more, run_start, run_group, with_put, routed, AreRouted, RoutedAlways, less_test, None}
use Rattle.dm_law_moves.proofs.Names.{plain_kind, PlainMessage, Label, Sound, Part, Spelled, label_of, kernel_after, moved, group_of, Inbox, Queue, BagStep, out_of, bag_sends, bag_ran, bag_call, bag_wait, bag_out, bag_end, bag_refuse}
use Rattle.dm_law_moves.proofs.Names.{bag_receive, bag_dropped, bag_gone, bag_no_space, bag_created, bag_served, bag_took, group_is, stands_right, is_put, hidden, Sane, outcome_sayable, Rides, begun, begun_sane, Run, Sayable, ⊤, IsNetLine}
use Rattle.dm_law_moves.proofs.Names.{first_is, times_self, by_migrates, IsHeardLine, hears_kept, by_round, by_handles, by_forwards, by_outcome, bag_asked, bag_answered, answer_id, ◌+◌, Bool, if◌then◌else◌, take, drop, PlainWhat, Why, Life}
use Rattle.dm_law_moves.proofs.Names.{with_process, with_sent, answer_to, without_message, pid_eq-is, id_eq-same, Sent, sent_at, ServerSends, board_takes_lem, manager_takes_lem, lands-is, Sent-from, name_is, by_step, with_note, Kept}
use Rattle.dm_law_moves.proofs.Names.{calls_off_kept, ends_with, buries, preds_of, buries_kept, Ended, none_some}
use Rattle.dm_onekernel.specs.Step as kernel
use Rattle.dm_law_rule.specs.Rule as rule
use Rattle.dm_onekernel.specs.Kernel as kernels
use Rattle.dm_onekernel.specs.Pieces as pieces
use Rattle.dm_onekernel.specs.Service as service
use Rattle.dm_law_moves.proofs.After.{group_after}
use Rattle.dm_law_moves.proofs.Ends.Open.{shorter as without_length}
use Rattle.dm_law_moves.proofs.Leading.{Behind, whatever_put, sane_lead, All, Saying, net_says}

-- the sender of a message counts it: a living process, or a server
abbrev pub has_sent : ℕ → Option Life → Bool
has_sent n (Some (Alive x)) = nat_lt n x.sent
has_sent n _ = false

abbrev pub is_sent : OneKernel → MsgId → Bool
is_sent s i =
    if pid_eq i.from switchboard then nat_lt i.n s.switchboard.sent
    else if pid_eq i.from manager then nat_lt i.n s.manager.sent
    else has_sent i.n (s.processes i.from)

-- what is counted behind a step was counted before, or is in the bag now
abbrev pub CountsSo : OneKernel → OneKernel → Type 0
CountsSo s t = (i : MsgId) → i.answer ≡ false → is_sent t i ≡ true → (is_sent s i ≡ true) ⊎ (is_some (t.bag i) ≡ true)

abbrev Was : Bool → Option PlainMessage → Type 0
Was x m = (x ≡ true) ⊎ (is_some m ≡ true)

counts_by : (s t : OneKernel) (i : MsgId) → (pid_eq i.from switchboard ≡ true → nat_lt i.n t.switchboard.sent ≡ true → Was (nat_lt i.n s.switchboard.sent) (t.bag i))
    → (pid_eq i.from manager ≡ true → nat_lt i.n t.manager.sent ≡ true → Was (nat_lt i.n s.manager.sent) (t.bag i))
    → (has_sent i.n (t.processes i.from) ≡ true → Was (has_sent i.n (s.processes i.from)) (t.bag i)) → is_sent t i ≡ true → Was (is_sent s i) (t.bag i)
counts_by s t i f g h e = search arith

less : (n a b : ℕ) → a ≡ b → nat_lt n b ≡ true → nat_lt n a ≡ true
less n a b e h = ap (nat_lt n) e ∙ h

-- nothing is counted anew
pub record Quiet (s t : OneKernel) : Type 0 where
  pub board : s.switchboard.sent ≡ t.switchboard.sent
  pub manager_ : s.manager.sent ≡ t.manager.sent
  pub process : (q : Pid) (n : ℕ) → has_sent n (t.processes q) ≡ true → has_sent n (s.processes q) ≡ true

counts_quiet : (s t : OneKernel) → Quiet s t → CountsSo s t
counts_quiet s t h i ask = grind (arith, nat_tests, counts_by, less)

-- a process goes on, or ends
set_quiet : (s t : OneKernel) (p : Pid) (x : PlainProcess) (life : Life) → s.processes p ≡ Some (Alive x) → ((n : ℕ) → has_sent n (Some life) ≡ true → nat_lt n x.sent ≡ true)
    → t.switchboard ≡ s.switchboard → t.manager ≡ s.manager → t.processes ≡ (with_process s p life).processes → Quiet s t
set_quiet s t p x life is fewer b g set = grind (arith, nat_tests, pid_eq-is)

alive_fewer : (x y : PlainProcess) → y.sent ≡ x.sent → (n : ℕ) → has_sent n (Some (Alive y)) ≡ true → nat_lt n x.sent ≡ true
alive_fewer x y e n h = less n x.sent y.sent (sym e) h

next_sent : (u : OneKernel) (m : PlainMessage) (p : Pid) (n after : ℕ) (i : MsgId) → m.id ≡ id_of p n → after ≡ n + 1 → i.answer ≡ false → i.from ≡ p → nat_lt i.n after ≡ true → Was (nat_lt i.n n) ((with_sent u (Some m)).bag i)
next_sent u m p n after i id count ask from h = grind (arith, nat_tests, name_is, sent_at, id_eq-same)

-- a process sends
counts_sends : (s u : OneKernel) (p : Pid) (x y : PlainProcess) (m : PlainMessage) → s.processes p ≡ Some (Alive x) → Sent p x m y → u.switchboard ≡ s.switchboard → u.manager ≡ s.manager → u.processes ≡ (with_process s p (Alive y)).processes
    → CountsSo s (with_sent u (Some m))
counts_sends s u p x y m is sent b g set i ask =
    counts_by s (with_sent u (Some m)) i
    (λ c k. inl (less i.n s.switchboard.sent u.switchboard.sent (sym (ap (λ (z : kernels.Switchboard). z.sent) b)) k))
    (λ c k. inl (less i.n s.manager.sent u.manager.sent (sym (ap (λ (z : kernels.Manager). z.sent) g)) k))
    (λ k. (grind (arith, nat_tests, pid_eq-is, next_sent)))

-- a server sends, or doesn't
counts_board : (s : OneKernel) (id : MsgId) (b : kernels.Switchboard) (o : Option PlainMessage) → ServerSends switchboard s.switchboard.sent o b.sent → CountsSo s (with_sent (record (without_message s id) { switchboard = b }) o)
counts_board s id b None h i ask = counts_quiet s (record (without_message s id) { switchboard = b }) (record { board = sym h; manager_ = refl; process = λ q n e. e }) i ask
counts_board s id b (Some m) h i ask = grind (arith, nat_tests, counts_by, next_sent, pid_eq-is)

counts_manager : (s : OneKernel) (id : MsgId) (g : kernels.Manager) (o : Option PlainMessage) → ServerSends manager s.manager.sent o g.sent → CountsSo s (with_sent (record (without_message s id) { manager = g }) o)
counts_manager s id g None h i ask = counts_quiet s (record (without_message s id) { manager = g }) (record { board = refl; manager_ = sym h; process = λ q n e. e }) i ask
counts_manager s id g (Some m) h i ask = grind (arith, nat_tests, counts_by, next_sent, pid_eq-is)

-- the receiver of a message goes on
changed_counts : (s t : OneKernel) (id : MsgId) (m : PlainMessage) (x y : PlainProcess) → s.processes m.to ≡ Some (Alive x) → y.sent ≡ x.sent → t.switchboard ≡ s.switchboard → t.manager ≡ s.manager → t.processes ≡ (with_process s m.to (Alive y)).processes → CountsSo s t
changed_counts s t id m x y is sent b g set = counts_quiet s t (set_quiet s t m.to x (Alive y) is (alive_fewer x y sent) b g set)

answers_counts : (s : OneKernel) (id : MsgId) (o : Option PlainMessage) → CountsSo s (with_sent (without_message s id) o)
answers_counts s id None = counts_quiet s (without_message s id) (grind (arith, nat_tests))
answers_counts s id (Some m) = counts_quiet s (with_sent (without_message s id) (Some m)) (grind (arith, nat_tests))

pub step_counts : (s t : OneKernel) (l : Label) → kernel.step s l ≡ Some t → CountsSo s t
step_counts s t l =
    -- a kernel makes a process
    let born_fewer : (s : OneKernel) (p : Pid) (y : PlainProcess) (q : Pid) (n : ℕ) → y.sent ≡ 0 → has_sent n ((with_process s p (Alive y)).processes q) ≡ true → has_sent n (s.processes q) ≡ true =
    λ s p y q n none e. grind (arith, nat_tests, less) in
    let ended_fewer : (x : PlainProcess) (y : Why) (n : ℕ) → has_sent n (Some (Ended y)) ≡ true → nat_lt n x.sent ≡ true = λ x y n h. absurd (false≢true h) in
    let goes_counts : (s : OneKernel) (p : Pid) (x y : PlainProcess) → s.processes p ≡ Some (Alive x) → y.sent ≡ x.sent → CountsSo s (kernel.goes_on s p y) =
    λ s p x y is sent. counts_quiet s (kernel.goes_on s p y) (set_quiet s (kernel.goes_on s p y) p x (Alive y) is (alive_fewer x y sent) refl refl refl) in
    by_step (CountsSo s) s t l (record {
      ran = λ p k x m is w. goes_counts s p x (kernel.with_machine x m) w.alive refl;
      replies = λ p n k c d y is w. (let (z, sent, pending, counted) = w.so.counts in goes_counts s p w.so.x y w.so.is.alive (counted.0 ∙ sent));
      sends = λ p id k m y is same w. (let (z, sent, pending, counted) = w.so.counts in counts_sends s (kernel.goes_on s p y) p w.so.x y m w.so.is.alive (Sent-from p w.so.x z m y sent pending counted) refl refl refl);
      waits = λ p k y is w. (let (z, sent, pending, counted) = w.so.counts in goes_counts s p w.so.x y w.so.is.alive (counted.0 ∙ sent));
      outputs = λ p word k v y is w. (let (z, sent, pending, counted) = w.so.counts in goes_counts s p w.so.x y w.so.is.alive (counted.0 ∙ sent));
      ends = λ p y next is w. counts_quiet s (with_process s p (Ended y)) (set_quiet s (with_process s p (Ended y)) p w.so.x (Ended y) w.so.is.alive (ended_fewer w.so.x y) refl refl refl);
      receives = λ p id y is w c. (let v = kernel.goes_on (without_message s id) p y in counts_quiet s v (set_quiet s v p w.x (Alive y) w.alive (alive_fewer w.x y w.is.0) refl refl refl));
      refuses = λ p id c d y is w e. goes_counts s p w.x y w.alive w.is.0;
      dropped = λ id m y is w e. answers_counts s id None;
      gone = λ id m y is w v e. answers_counts s id (Some (answer_to m v));
      asked = λ id m x machine is w e. (let u = with_note (without_message s id) m.to (record { id = id; asker = m.sender }) in counts_quiet s u (grind (arith, nat_tests)));
      answered = λ id o p n is f. counts_quiet s (service.move_ended s id p n o) (grind (arith, nat_tests));
      stops = λ id m x b is w e. (let y = record x { stopped = b } in changed_counts s (service.changed s id m y) id m x y w.alive refl refl refl refl);
      kills = grind (arith, nat_tests, counts_quiet, set_quiet, ended_fewer);
      reads = λ id m x base len is w e. changed_counts s (with_sent (service.changed s id m x) (Some (answer_to m (PlainWhat.Block (take len (drop base x.memory)))))) id m x x w.alive refl refl refl refl;
      writes = λ id m x base bytes is w e.
          (let y = record x { memory = pieces.written_at x.memory base bytes } in
          changed_counts s (with_sent (service.changed s id m y) (Some (answer_to m PlainWhat.Written))) id m x y w.alive refl refl refl refl);
      lands = λ id m x r y is w e c. counts_sends s (service.changed s id m y) m.to x y r w.alive (lands-is m.to x m x.status (pieces.Next r y) c).0 refl refl refl;
      done = λ id m x c y is w e f. changed_counts s (service.changed s id m y) id m x y w.alive (lands-is m.to x m x.status (pieces.Done c y) f).0 refl refl refl;
      board = λ id m k is there c took. (let (memory, piece, sends) = board_takes_lem s.switchboard m m.what k took in counts_board s id k.switchboard k.answer sends);
      manager = λ id m k is there c took. (let (memory, piece, sends) = manager_takes_lem s.manager s.machines (length s.images) m m.what k took in counts_manager s id k.manager k.message sends.sends);
      creates = search (counts_quiet, born_fewer);
      no_room = λ id a b m image links is w. answers_counts s id (Some (answer_to m PlainWhat.NoRoom));
    })

-- Wherever the rule leads, each message that its sender counts was put.

-- the message that goes by a label is one of these
abbrev pub LineOuts : (MsgId → Type 0) → Line → Type 0
LineOuts P (Line.Label l) = (i : MsgId) → out_of l ≡ Some i → P i
LineOuts P l = ⊤

abbrev pub PartOuts : (MsgId → Type 0) → Part → Type 0
PartOuts P = Saying (LineOuts P)

abbrev pub AllOuts : (MsgId → Type 0) → List Part → Type 0
AllOuts P = All (PartOuts P)

nothing : (P : MsgId → Type 0) (i : MsgId) → None ≡ Some i → P i
nothing P i e = none_some i e

just : (P : MsgId → Type 0) (j : MsgId) → P j → (i : MsgId) → Some j ≡ Some i → P i
just P j h i e = let f : j ≡ i = cc in subst P f h

-- what stands in a list
abbrev pub In : (MsgId → Type 0) → List MsgId → Type 0
In P ids = (i : MsgId) → 1 ≤ times i ids → P i

drops_outs : (P : MsgId → Type 0) (ids : List MsgId) (ps : List Part) → In P ids → AllOuts P ps → AllOuts P (rule.drop_parts ids ++ ps)
drops_outs P [] ps h k = k
drops_outs P (j ∷ js) ps h k = (just P j (h j (times_self j js)), drops_outs P js ps (λ i least. h i (let m = times_more i j js in omega (arith, least, m))) k)

-- what follows an end: the queue goes, and others are told
ends_outs : (P : MsgId → Type 0) (o : Point) (m : ℕ) (p : Pid) → In P (o.view.queue m p) → AllOuts P (ends_with o m p)
ends_outs P o m p h = drops_outs P (o.view.queue m p) (buries o m p) h (buries_kept (AllOuts P) tt (λ to xs k. (tt, k)) (preds_of o m p))

-- each queue of the machine has some of these
abbrev pub Queues : (MsgId → Type 0) → Point → ℕ → Type 0
Queues P o m = (p : Pid) → In P (o.view.queue m p)

-- a process is served
round_outs : (P : MsgId → Type 0) (b : Boot) (o : Point) (m : ℕ) (q : Option Pid) (ps : List Part) → Queues P o m → rule.goes_round b o m q ≡ Some ps → AllOuts P ps
round_outs P b o m q ps h = by_round (AllOuts P) b o m q ps (tt, tt) (λ p x is alive. record {
  runs = λ k rest f. (
    nothing P,
    f (AllOuts P) (record {
      over = tt;
      replies = λ n r. (nothing P, tt);
      sends = λ id. (nothing P, (tt, tt));
      waits = (nothing P, tt);
      outputs = λ word. (nothing P, tt);
      ends = λ y. (nothing P, ends_outs P o m p (h p));
    }),
  );
  takes = λ mask id first. (just P id (h p id (first_is o.kernel mask (o.view.queue m p) id first).stands), tt);
  refuses = λ id r. (nothing P, tt);
})

handles_outs : (P : MsgId → Type 0) (b : Boot) (o : Point) (m : ℕ) (id : MsgId) (msg : PlainMessage) (ps : List Part) → P id → Queues P o m → rule.handles b o m id msg ≡ Some ps → AllOuts P ps
handles_outs P b o m id msg ps h q = by_handles (AllOuts P) b o m id msg ps (record {
  created = λ fixed. (just P id h, (tt, tt));
  no_space = λ fixed slots blocks. (just P id h, (tt, tt));
  took = λ fixed sent. (just P id h, (let e_ : AllOuts P (rule.routes sent) = grind (arith, nat_tests) in e_));
  queued = λ here user. (tt, tt);
  served = λ here mild. (just P id h, tt);
  answers = λ here mild i. (just P id h, (tt, tt));
  kills = λ here kills. (just P id h, ends_outs P o m msg.to (q msg.to));
  moved = λ here what. (just P id h, (nothing P, (tt, tt)));
  sets_off = λ to here what apart. (just P id h, (tt, (tt, (tt, tt))));
  gone = λ ended. (just P id h, (tt, tt));
  dropped = λ ended. (just P id h, tt);
  leaving = λ to at_. (tt, tt);
  coming = λ from at_. (tt, tt);
  forwarded = λ to moves at_. by_forwards (AllOuts P) o.addresses id (plain_kind msg.what) msg.sender to (tt, (tt, tt)) (tt, (tt, (tt, tt)));
})

-- a kernel's own message: no label is said
outs_line : (P : MsgId → Type 0) (l : Line) → IsHeardLine l → LineOuts P l
outs_line P (Line.Label l) h = absurd h
outs_line P _ h = tt

outs_kept : (P : MsgId → Type 0) → Kept (AllOuts P)
outs_kept P = record { none = tt; says = λ l ps h k. (outs_line P l h, k); again = λ i to ps k. (tt, k); owns = λ k q to ps h. (tt, h); answers = λ i r. (nothing P, (tt, tt)) }

hears_outs : (P : MsgId → Type 0) (b : Boot) (o : Point) (m : ℕ) (id : MsgId) (q : Option Told) (ps : List Part) → rule.hears b o m id q ≡ Some ps → AllOuts P ps
hears_outs P b o m id q ps = hears_kept (AllOuts P) (outs_kept P) b o m id q ps

-- deliveries, repeats and requests to move have none
net_line : (P : MsgId → Type 0) (l : Line) → IsNetLine l → LineOuts P l
net_line P (Line.Label l) h = absurd h
net_line P l h = tt

pub outcome_outs : (P : MsgId → Type 0) (b : Boot) (o : Point) (d : Step) (ps : List Part) → ((m : ℕ) → In P (o.view.inbox m)) → ((m : ℕ) → Queues P o m) → rule.outcome b o d ≡ Some ps → AllOuts P ps
outcome_outs P b o d ps h q = by_outcome (λ x. AllOuts P) b o d ps (record {
  round = λ m xs box e. round_outs P b o m (rule.first_runnable o.kernel (o.view.queue m) (o.view.ring m)) xs (q m) e;
  handles = λ m i is msg xs box there e. handles_outs P b o m i msg xs (subst (In P) box (h m) i (times_self i is)) (q m) e;
  hears = λ m i is xs box none e. hears_outs P b o m i (o.view.told i) xs e;
  ticks = λ m. net_says (LineOuts P) (net_line P);
  delivers = λ a c k. net_says (LineOuts P) (net_line P);
  asks = λ p m. by_migrates (AllOuts P) o p (tt, tt) (tt, tt) (λ n off is. (tt, tt));
  calls = λ p m. calls_off_kept (AllOuts P) (outs_kept P) o m p;
})

-- a message that was told of
abbrev pub IsTold : View → MsgId → Type 0
IsTold v i = is_some (v.told i) ≡ true

-- between the lines of a group that begins with the view v: what is counted was told of, or is in the bag
pub record Counted (v : View) (pt : Point) : Type 0 where
  pub kept : (i : MsgId) → IsTold v i → IsTold pt.view i
  pub each : (i : MsgId) → i.answer ≡ false → is_sent pt.kernel i ≡ true → IsTold pt.view i ⊎ (is_some (pt.kernel.bag i) ≡ true)

stays_by : (e : MsgId → ℕ) (s t : OneKernel) (out put : Option MsgId) (i : MsgId) → BagStep e s t out put → is_some (s.bag i) ≡ true → (is_some (t.bag i) ≡ true) ⊎ (out ≡ Some i)
stays_by e s t out put i b there = elim (let e_ : (is_some (hidden out s.bag i) ≡ true) ⊎ (out ≡ Some i) = grind (arith, nat_tests, id_eq-is) in e_) [
  | inl stays ↦ inl (grind (arith, nat_tests, (ap is_some (b.same i) ∙ stays)))
  | inr goes ↦ inr goes
]

stays_or_goes : (r e : MsgId → ℕ) (s t : OneKernel) (l : Label) (i : MsgId) → kernel.step s l ≡ Some t → Sound r e s → is_some (s.bag i) ≡ true → (is_some (t.bag i) ≡ true) ⊎ (out_of l ≡ Some i)
stays_or_goes r e s t (Label.Ran p k) i is h there = stays_by e s t None None i (bag_ran e s t p k is) there
stays_or_goes r e s t (Label.Call p n c) i is h there = stays_by e s t None None i (bag_call e s t p n c is) there
stays_or_goes r e s t (Label.Send p id) i is h there = stays_by e s t None (Some id) i (bag_sends r e s t p id is h) there
stays_or_goes r e s t (Label.Wait p) i is h there = stays_by e s t None None i (bag_wait e s t p is) there
stays_or_goes r e s t (Label.Out p w) i is h there = stays_by e s t None None i (bag_out e s t p w is) there
stays_or_goes r e s t (Label.End p y) i is h there = stays_by e s t None None i (bag_end e s t p y is) there
stays_or_goes r e s t (Label.Receive p id) i is h there = stays_by e s t (Some id) None i (bag_receive e s t p id is) there
stays_or_goes r e s t (Label.Refuse p id c) i is h there = stays_by e s t None None i (bag_refuse e s t p id c is) there
stays_or_goes r e s t (Label.Dropped id) i is h there = stays_by e s t (Some id) None i (bag_dropped e s t id is) there
stays_or_goes r e s t (Label.Served id) i is h there = stays_by e s t (Some id) _ i (bag_served r e s t id is h).is there
stays_or_goes r e s t (Label.Gone id) i is h there = stays_by e s t (Some id) _ i (bag_gone r e s t id is h) there
stays_or_goes r e s t (Label.Took id) i is h there = stays_by e s t (Some id) _ i (bag_took r e s t id is h).is there
stays_or_goes r e s t (Label.Created id p) i is h there = stays_by e s t (Some id) _ i (bag_created r e s t id p is h) there
stays_or_goes r e s t (Label.NoSpace id a b) i is h there = stays_by e s t (Some id) _ i (bag_no_space r e s t id a b is h) there
stays_or_goes r e s t (Label.Asked id) i is h there = stays_by e s t (Some id) None i (bag_asked e s t id is) there
stays_or_goes r e s t (Label.Answered id o) i is h there = stays_by e s t None (Some (answer_id id)) i (bag_answered r e s t id o is h) there

-- a line that is no put
same_told : (v : View) (l : Line) (i : MsgId) → is_put l ≡ false → IsTold v i → IsTold (view_after v l) i
same_told v l i quiet h = ap (λ (f : MsgId → Option Told). is_some (f i)) (hushed v l quiet).told ∙ h

counted_quiet : (v : View) (pt : Point) (l : Line) (t : OneKernel) → is_put l ≡ false → Some pt.kernel ≡ Some t → Counted v pt → Counted v (moved pt l t)
counted_quiet v pt l t quiet is h = grind (arith, nat_tests, same_told)

counted_line : (v : View) (pt : Point) (l : Line) (t : OneKernel) → is_put l ≡ false → LineOuts (IsTold v) l → kernel_after pt.kernel (label_of l) ≡ Some t → Sane pt → Counted v pt → Counted v (moved pt l t)
counted_line v pt (Line.Label l) t quiet outs is sane h = search (arith, same_told, step_counts, stays_or_goes)
counted_line v pt (Line.Put a b i k q) t quiet outs is sane h = cc
counted_line v pt any_ t quiet outs is sane h = counted_quiet v pt any_ t quiet is h

counted_rides : (v : View) → Rides (Counted v)
counted_rides v = search (arith, counted_quiet, put_told_off)

-- between groups
abbrev pub AllTold : Point → Type 0
AllTold pt = (i : MsgId) → i.answer ≡ false → is_sent pt.kernel i ≡ true → IsTold pt.view i

-- a message of the bag stands somewhere, and so was told of
stands_told : (b : Boot) (pt : Point) (i : MsgId) (o : Option PlainMessage) → Run b pt → pt.kernel.bag i ≡ o → is_some o ≡ true → IsTold pt.view i
stands_told b pt i None h is e = absurd (false≢true e)
stands_told b pt i (Some x) h is e = grind (arith, nat_tests, stands_right)

pub told_group : (b : Boot) (pt : Point) (d : Step) (w : Spelled) → group_of b pt d ≡ Some w → Run b pt → Run b w.point → AllTold pt → AllTold w.point
told_group b pt d w e run next h i ask sent =
    let g = group_is b pt d w e in
    let sane = run.based.phased.sane in
    let first : Counted pt.view (begun pt d) = counted_quiet pt.view pt (Line.Head d) pt.kernel refl refl (record { kept = λ j k. k; each = λ j a s. inl (h j a s) }) in
    let outs = outcome_outs (IsTold pt.view) b pt d g.parts (λ m j least. run.found.told j (Inbox m) least) (λ m p j least. run.found.told j (Queue m p) least) g.is in
    -- a part, and the parts of a group
    let counted_behind : (v : View) (pt : Point) (p : Part) → PartOuts (IsTold v) p → Sayable p → Sane pt → Counted v pt → Behind (Counted v) pt p =
    λ v pt p outs ok sane h. whatever_put (Counted v) pt p (λ l is t step. counted_line v pt l t (subst Sayable is ok) (subst (PartOuts (IsTold v)) is outs) step sane h) (λ b i k q. (counted_rides v).put pt pt.view.acting b i k q h) h in
    let last = sane_lead (Counted pt.view) (counted_rides pt.view).packet (PartOuts (IsTold pt.view)) (counted_behind pt.view) g.parts (begun pt d) g.rest outs (outcome_sayable b pt d g.parts g.is) (begun_sane pt d sane) g.said first in
    elim ((subst (Counted pt.view) g.point last).each i ask sent) [
      | inl told ↦ told
      | inr there ↦ stands_told b w.point i (w.point.kernel.bag i) next refl there
    ]

-- Wherever the rule leads, each message that its sender counts was routed.

-- before the first line nobody has sent
life_sent : (b : Boot) (ps : List BootProcess) (q : Pid) (n : ℕ) → has_sent n (life_at b ps q) ≡ false
life_sent b [] q n = refl
life_sent b (p ∷ ps) q n = grind (arith, nat_tests, life_sent b ps q n)

start_told : (b : Boot) → AllTold (first_point b)
start_told b i ask sent = grind (arith, nat_tests, life_sent)

-- what was told of was put
put_at : (v : View) (l : Line) (i : MsgId) (ids : List MsgId) → IsTold (view_after v l) i → IsTold v i ⊎ (1 ≤ times i (with_put l ids))
put_at v (Line.Put a b id k q) i ids h = grind (arith, nat_tests, id_eq-is, put_told_off)
put_at v l i ids h = inl (ap (λ (f : MsgId → Option Told). is_some (f i)) (sym (hushed v l refl).told) ∙ h)

put_more : (l : Line) (i : MsgId) (ids : List MsgId) → times i ids ≤ times i (with_put l ids)
put_more l i ids = grind (arith, nat_tests, times_more)

put_among : (ls : List Line) (pt q : Point) (i : MsgId) → after pt ls ≡ Some q → IsTold q.view i → IsTold pt.view i ⊎ (1 ≤ times i (routed ls))
put_among [] pt q i e h = let f : pt ≡ q = cc in inl (subst (λ (x : Point). IsTold x.view i) (sym f) h)
put_among (l ∷ ls) pt q i e h =
    let (next, first, rest) = bind-is (after_line pt l) (λ (x : Point). after x ls) q e in
    elim (put_among ls next q i rest h) [
      | inr later ↦ inr (let m = put_more l i (routed ls) in omega (arith, later, m))
      | inl before ↦ put_at pt.view l i (routed ls) (subst (λ (v : View). IsTold v i) (line_view pt next l first) before)
    ]

more_first : (xs ys : List Line) (i : MsgId) → times i (routed xs) ≤ times i (routed (xs ++ ys))
more_first [] ys i = omega arith
more_first (x ∷ xs) ys i = grind (arith, nat_tests, (more_first xs ys i))

more_last : (xs ys : List Line) (i : MsgId) → times i (routed ys) ≤ times i (routed (xs ++ ys))
more_last [] ys i = omega arith
more_last (x ∷ xs) ys i = let h = more_last xs ys i in let m = put_more x i (routed (xs ++ ys)) in omega (arith, h, m)

-- a run
record ToldBy (pt end : Point) (ls : List Line) : Type 0 where
  all : AllTold end
  put : (i : MsgId) → IsTold end.view i → IsTold pt.view i ⊎ (1 ≤ times i (routed ls))

told_on : (b : Boot) (es : List Step) (ls : List Line) (pt end : Point) → IsValid b → LeadsBy b pt es ls end → Both b pt → AllTold pt → ToldBy pt end ls
told_on b [] ls pt end valid (none, same) both h = record { all = subst AllTold same h; put = λ i t. inl (subst (λ (x : Point). IsTold x.view i) (sym same) t) }
told_on b (d ∷ ds) ls pt end valid (w, rest, fit, is, are, more) both h =
    let next = both_group run_group b pt d w valid fit is both in
    let k = told_on b ds rest w.point end valid more next (told_group b pt d w is both.run next.run h) in
    record { all = k.all; put = λ i t. (let e_ : IsTold pt.view i ⊎ (1 ≤ times i (routed ls)) = grind (arith, nat_tests, more_last, put_among, more_first, group_after b pt d w is, k.put i t) in e_) }

-- so many names are so many messages
few : (n : ℕ) (p : Pid) (ids : List MsgId) → ((k : ℕ) → k < n → 1 ≤ times (id_of p k) ids) → n ≤ length ids
few zero p ids h = omega arith
few (suc n) p ids h =
    let here = h n (omega arith) in
    let rest = few n p (without_id (id_of p n) ids)
    (λ k less. let c = without_counts (id_of p k) (id_of p n) ids here in let off : one_of (id_of p k) (id_of p n) ≡ 0 = grind (arith, nat_tests, id_eq-is) in let m = h k (omega (arith, less)) in omega (arith, c, off, m)) in
    grind (arith, nat_tests, without_length)

are_routed : (ls : List Line) (p : Pid) (n : ℕ) → ((k : ℕ) → k < n → 1 ≤ times (id_of p k) (routed ls)) → AreRouted ls p n
are_routed ls p n h = record { each = h; count = few n p (routed ls) h }

-- wherever the rule leads
pub routed_always : RoutedAlways
routed_always b es ls pt valid leads =
    let both = both_start run_start b valid in
    let told = told_on b es ls (first_point b) pt valid leads both (start_told b) in
    let put : (i : MsgId) → i.answer ≡ false → is_sent pt.kernel i ≡ true → 1 ≤ times i (routed ls) = λ i ask sent. elim (told.put i (told.all i ask sent)) [
      | inl before ↦ absurd (false≢true before)
      | inr after_ ↦ after_
    ] in
    let made = (both_by b es ls (first_point b) pt valid leads both).run.based.phased.sane.sound.made in
    record {
      process = λ p x alive. are_routed ls p x.sent (λ k less. put (id_of p k) refl (search ((not_server pt.kernel p x alive made), (less_test k x.sent less))));
      board = are_routed ls switchboard pt.kernel.switchboard.sent (λ k less. put (id_of switchboard k) refl (less_test k pt.kernel.switchboard.sent less));
      manager_ = are_routed ls manager pt.kernel.manager.sent (λ k less. put (id_of manager k) refl (less_test k pt.kernel.manager.sent less));
    }
  where
    both_by : (b : Boot) (es : List Step) (ls : List Line) (pt end : Point) → IsValid b → LeadsBy b pt es ls end → Both b pt → Both b end
    both_by b [] ls pt end valid (none, same) h = subst (Both b) same h
    both_by b (d ∷ ds) ls pt end valid (w, rest, fit, is, are, more) h = both_by b ds rest w.point end valid more (both_group run_group b pt d w valid fit is h)
