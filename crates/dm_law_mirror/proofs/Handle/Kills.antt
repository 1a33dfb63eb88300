-- A process that is here is killed: its queue is dropped, message by message, and its predecessors are told.
use Rattle.dm_law_mirror.proofs.Names.{◌≡◌, ◌≢◌, ℕ, ◌+◌, ◌/◌, ◌≤◌, ◌<◌, ◌==◌, ◌&&◌, Bool, true, false, List, [], ◌∷◌, ◌++◌, length, map, refl, ap, ◌∙◌, sym, subst, is_some, arith, if◌then◌else◌, slice_get, Option, None, Some}
use Rattle.dm_law_mirror.proofs.Names.{nat_tests, Pid, pid_eq, MsgId, Message, plain_message, Record, Label, Line, Taken, Boot, Why, OneKernel, with_process, bind, plain_process, without_message, pid_eq-same, out_off, Point, after, moved, Room}
use Rattle.dm_law_mirror.proofs.Names.{blocks_of, taken_at, taken_by, takes_room, without, without_front, Spot, Queue, Held, Inbox, times, standing, Known, View, after_label, handled, stands_right, served_is, droppable_on, Placed, with_queue}
use Rattle.dm_law_mirror.proofs.Names.{plainly, kill_what, room_of, here_handles, KernelState, turned, KnownStands, RoomStands, told_there, mirrors_view, zero, suc, nat_le, nat_lt, pid_of, PlainLink, What, PlainMessage, PlainWhat}
use Rattle.dm_law_mirror.proofs.Names.{free_slots, free_blocks, answer, BootImage, BootMachine, images_are_valid, image_is_valid, when, answer_id, answer_to, bag_none, bag_no_space, home_of, create_what, handles, makes}
use Rattle.dm_law_mirror.proofs.Names.{and-both, Says, told_receiver, user_what, queued, with_here, begun, Part, StandsRight, Ended, without_preds, rule_to_kernels, nobody, MessageKind, cases_Bool, id_eq, id_of, inl, inr, pid_eq-is}
use Rattle.dm_law_always.proofs.Names.{with_sent}
use Rattle.dm_law_mirror.proofs.Leave.Asks.{room_stays}
use Rattle.dm_message.specs.Plain as said
use Rattle.dm_onekernel.specs.Step as kernel
use Rattle.dm_law_rule.specs.Parts as rule_part
use Rattle.dm_law_rule.specs.Rule as rule
use Rattle.dm_law_rule.specs.View as view
use Rattle.dm_law_places.specs.PlacedStep as placed
use Rattle.dm_kernel.specs.State as state
use Rattle.dm_onekernel.specs.Service as service
use Rattle.dm_kernel.specs.Handle as machine
use Rattle.dm_law_mirror.proofs.Handle.Rows.{IsLeft, Elsewhere, Moves, here_left, kept_at, kept_behind, mirrors_one, own_back, own_kept, seen_point, standing_begun, turns_row}
use Rattle.dm_law_mirror.proofs.Handle.Taking.{Taking, apart_at, outcome_is, sane_of, turn_is, held_apart, queue_apart, waits, eq_off, machine_off, machine_self, map_same, pid_apart, record_off, record_others}
use Rattle.dm_law_mirror.proofs.Handle.Taking.{record_self, stands_set, not_server, known_on, to_kernel, rule_to_kernel}
use Rattle.dm_law_mirror.proofs.Rooms.{taken_changed, taken_same}
use Rattle.dm_law_mirror.proofs.Kernel.Sets.{is_queue_of, left_off, queue_not_elsewhere, queue_of_others, right_off}
use Rattle.dm_law_mirror.proofs.Row.Lines.{ended_fewer, handled_fewer}
use Rattle.dm_law_mirror.proofs.Serve.Runs.{AreAlone, Drops, drop_lines, drops_stand, drops_still, gone_none, machine_drops, rule_drops}
use Rattle.dm_law_mirror.proofs.Serving.{queue_alone}
use Rattle.dm_law_mirror.proofs.Turning.{NoneEnds, OneEnds, Sends, Tells, one_ends, is_elsewhere, Row, has_process, rule_own}
use Rattle.dm_law_mirror.proofs.Leave.Goes.{room_released}
use Rattle.dm_law_mirror.proofs.Handle.Ended.{IsHere, here_outcome, here_turn, served_placed, served_step, here_known}
use Rattle.dm_law_mirror.proofs.Follow.Fronts.{front_gone, elsewhere_apart}
pub use Rattle.dm_law_mirror.proofs.Deliver.Moves.{messages_push as last_message}
use Rattle.dm_kernel.specs.Burying as burying
use Rattle.dm_law_mirror.proofs.Preds.{forgotten_stand, none_kept, others_kept}
use Rattle.dm_law_mirror.proofs.Residents.{resident_same, same_manager, same_system}
use Rattle.dm_law_mirror.proofs.Names.{AreMessages, Resident, resident_at, none_some}
use Rattle.dm_law_mirror.proofs.Buries.{absent_from, bury_messages, buries_may, machine_buries, many_buries, preds_are, rule_buries, untold_from}
pub use Rattle.dm_law_places.proofs.Any.AnyGroup.{no_server as child_off}

-- A process that is here is killed: it ends, and its queue is dropped.

-- where the kill leads, before its queue is dropped
abbrev ended_view : Point → ℕ → MsgId → Pid → View
ended_view pt m i p = view.ended (handled (begun pt m).view i) p

abbrev ended_kernel : Point → MsgId → Pid → OneKernel
ended_kernel pt i p = with_process (without_message pt.kernel i) p (Ended Why.Killed)

abbrev ended_point : Point → ℕ → MsgId → Pid → Point
ended_point pt m i p = seen_point pt m (Label.Served i) (ended_kernel pt i p) (ended_view pt m i p)

abbrev ended_placed : Placed → MsgId → Pid → Placed
ended_placed l i p = placed.with_process (placed.without_message l i) p None

-- what is elsewhere stands behind the kill as before
ended_stands : (pt : Point) (m : ℕ) (i : MsgId) (p : Pid) (j : MsgId) (z : Spot) → is_elsewhere m z ≡ true → standing (ended_view pt m i p) j z ≡ standing (begun pt m).view j z
ended_stands pt m i p j (Inbox n) off = grind (arith, nat_tests)
ended_stands pt m i p j z off = refl

-- what is known of it then
ended_known : (on : Placed) (p : Pid) (queue held : List MsgId) (r : Option state.KernelKnown) (n : Known) → r ≡ None → n ≡ view.Unknown → KnownStands on p queue held n r
ended_known on p queue held r n is gone = subst (λ (v : Known). KnownStands on p queue held v r) (sym gone) (subst (KnownStands on p queue held view.Unknown) (sym is) tt)

queued_told : (b : Boot) (m : ℕ) (pt : Point) (l : Placed) (k : KernelState) (y : Message) (w : said.PlainWhat) → Taking b m pt l k y w → (p : Pid) (j : MsgId) → 1 ≤ times j (pt.view.queue m p) → view.receiver_of (pt.view.told j) ≡ Some p
queued_told b m pt l k y w c p j least =
    let q = waits b pt m p j c.run least in
    let (t, told) = told_there (pt.view.told j) (c.run.found.told j (Queue m p) least) in
    ap view.receiver_of told ∙ ap Some ((sane_of b m pt l k y w c).tells.receiver j q.x t q.there told ∙ q.to)

-- the queue of the process can go
record Goes (b : Boot) (m : ℕ) (pt : Point) (l : Placed) (k : KernelState) (y : Message) (c : Taking b m pt l k y said.Kill) (h : IsHere b m pt l k y.to.pid) : Type 0 where
  view : after_label (begun pt m).view (Label.Served y.id) ≡ ended_view pt m y.id y.to.pid
  step : kernel.step pt.kernel (Label.Served y.id) ≡ Some (ended_kernel pt y.id y.to.pid)
  drops : Drops m (is_queue_of m y.to.pid) y.to.pid (ended_point pt m y.id y.to.pid) (ended_placed l y.id y.to.pid) (pt.view.queue m y.to.pid)

goes : (b : Boot) (m : ℕ) (pt : Point) (l : Placed) (k : KernelState) (y : Message) (c : Taking b m pt l k y said.Kill) (h : IsHere b m pt l k y.to.pid) → Goes b m pt l k y c h
goes b m pt l k y c h =
    let s = pt.kernel in
    let w = said.Kill in
    let p = y.to.pid in
    let i = y.id in
    let x = plainly y w in
    let t = ended_kernel pt i p in
    let ids = pt.view.queue m p in
    let on = ended_placed l i p in
    let mid = ended_point pt m i p in
    let view_is : after_label (begun pt m).view (Label.Served i) ≡ ended_view pt m i p = served_is b m pt i x (handled (begun pt m).view i) w refl c.front in
    let step = served_step s i x (plain_process h.x) t c.front.there h.life h.free refl in
    let placed_is = served_placed pt l on m y (with_queue h.x h.queue) c.there h.placed (ap (placed.serves m (placed.without_message l i) y (with_queue h.x h.queue)) (kill_what y.what c.says)) in
    let mirrors = mirrors_one pt m (Label.Served i) t (ended_view pt m i p) l on step view_is tt placed_is c.mirrors in
    let ended : t.processes p ≡ Some (Ended Why.Killed) = ap (λ (d : Bool). if d then Some (Ended Why.Killed) else s.processes p) (pid_eq-same p) in
    let off : (j : MsgId) → 1 ≤ times j ids → t.bag j ≡ s.bag j = λ j least. out_off s i j (apart_at b m pt l k y w c (Queue m p) j (queue_apart m m p) least) in
    let right : (j : MsgId) → StandsRight j (s.bag j) (standing pt.view j) = λ j. stands_right pt j c.run.based.phased.state (s.bag j) refl in
    let alone : AreAlone (is_queue_of m p) mid.view ids = λ j least n z apart there. (
    let a = handled_fewer (begun pt m).view i n z in
    let e = ended_fewer (handled (begun pt m).view i) p n z in
    let same = standing_begun pt m n z in
    queue_alone m p s pt.view right j least n z apart (omega (arith, there, a, e, same))) in
    let drops = drops_stand m (is_queue_of m p) p Why.Killed ids mid on (λ n q apart. apart) (λ n. refl) mirrors refl ended (droppable_on s t p ids off (c.front.drops p)) alone (λ j least. queued_told b m pt l k y w c p j least) in
    record { view = view_is; step = step; drops = drops }

pub kill_row : (b : Boot) (m : ℕ) (pt : Point) (l : Placed) (k : KernelState) (y : Message) (c : Taking b m pt l k y said.Kill) → IsHere b m pt l k y.to.pid → Row b m pt l k
kill_row b m pt l k y c h =
    let s = pt.kernel in
    let w = said.Kill in
    let p = y.to.pid in
    let i = y.id in
    let e = Label.Served i in
    let k0 = record k { inbox = c.rest } in
    let on = ended_placed l i p in
    let ids = pt.view.queue m p in
    let mid = ended_point pt m i p in
    let all = goes b m pt l k y c h in
    let g = all.drops in
    let views = g.leaves.view in
    let kernels = g.leaves.kernel in
    let bags = g.leaves.placed_ in
    let tos = burying.preds_of k p in
    let end = burying.after_end k0 p h.x Why.Killed in
    let tells = bury_messages k0 p tos in
    let to_preds = preds_are b pt l m k p c.valid c.run.based.machines c.stands in
    let says = Line.Label e ∷ drop_lines ids in
    let drops = machine_drops l ids h.x.queue (λ j z there. (c.mirrors.places.message j z there).id) h.waits in
    let parts : List Part = map Part.Says says ++ map Part.Routes tells in
    let rule_parts : List rule_part.Part = map rule_part.Says says ++ map rule_own tells in
    let kept : (q : Spot) (j : MsgId) → q ≢ Inbox m → 1 ≤ standing pt.view j q → on.bag j ≡ l.bag j = kept_at b m pt l k y w c on None (λ j. refl) (λ a f. absurd (cc)) in
    let box : mid.view.inbox m ≡ c.ids = machine_self pt.view.inbox m (without_front i (pt.view.inbox m)) ∙ front_gone i c.ids (pt.view.inbox m) c.box in
    let behind : (j : MsgId) → 1 ≤ times j c.ids → g.placed.bag j ≡ l.bag j =
    λ j least. bags.bag j (Inbox m) refl (subst (λ (js : List MsgId). 1 ≤ times j js) (sym box) least) ∙ kept_behind b m pt l k y w c on None (λ n. refl) (λ a f. absurd (cc)) j least in
    let known : g.next.view.known m p ≡ view.Unknown = g.known ∙ record_self pt.view.known m p view.Unknown (pid_eq-same p) in
    let life : g.next.kernel.processes p ≡ Some (Ended Why.Killed) = g.process ∙ ap (λ (d : Bool). if d then Some (Ended Why.Killed) else s.processes p) (pid_eq-same p) in
    let others_known : (q : Pid) → pid_eq p q ≡ false → g.next.view.known m q ≡ pt.view.known m q = λ q off. views.known m q (right_off (m == m) (pid_eq p q) off) ∙ record_others pt.view.known m p q view.Unknown off in
    let others_live : (q : Pid) → pid_eq p q ≡ false → g.next.kernel.processes q ≡ s.processes q = λ q off. kernels.life q off ∙ ap (λ (d : Bool). if d then Some (Ended Why.Killed) else s.processes q) off in
    let others_placed : (q : Pid) → pid_eq p q ≡ false → g.placed.processes q ≡ l.processes q = λ q off. bags.process q off ∙ ap (λ (d : Bool). if d then None else l.processes q) off in
    let stays_resident : (q : Pid) → pid_eq p q ≡ false → resident_at g.placed q ≡ resident_at l q = λ q off. resident_same l g.placed q (others_placed q off) bags.board bags.manager in
    let left : (q : Pid) → IsLeft m pt q → pid_eq p q ≡ false = λ q is. here_left pt m p q c.run.based.phased.phases h.known is in
    let there : is_some (s.processes p) ≡ true = ap is_some h.life in
    let taken = taken_changed pt g.next m p kernels.machines kernels.made (c.made.home p there) (c.made.first p there) (c.made.below p there)
    (λ q apart. (let off = pid_apart p q apart in
    (λ n. record {
      slots = takes_room (others_known q off n);
      blocks = if takes_room (others_known q off n) == 0 then 0 else blocks_of (kernel.alive (others_live q off n));
    }))) in
    let was : taken_by pt m p ≡ record { slots = 1; blocks = length h.x.memory / 256 } = grind (arith, nat_tests, h.known, h.life) in
    -- what it took is free again
    let ended_taken : taken_by g.next m p ≡ record { slots = 0; blocks = 0 } = ap (λ (z : Known). record { slots = takes_room z; blocks = if takes_room z == 0 then 0 else blocks_of (kernel.alive (g.next.kernel.processes p)) }) known in
    let is = ended_taken in
    let now = taken_at g.next m g.next.kernel.machines in
    let before = taken_at pt m s.machines in
    let slots : now.slots + 1 ≡ before.slots + 0 = ap (λ (r : Room). now.slots + r.slots) (sym was) ∙ taken.0 ∙ ap (λ (r : Room). before.slots + r.slots) is in
    let blocks : now.blocks + length h.x.memory / 256 ≡ before.blocks + 0 = ap (λ (r : Room). now.blocks + r.blocks) (sym was) ∙ taken.1 ∙ ap (λ (r : Room). before.blocks + r.blocks) is in
    let stays : (j : MsgId) (q : Spot) → is_elsewhere m q ≡ true → 1 ≤ standing (begun pt m).view j q → g.placed.bag j ≡ l.bag j = λ j q off least. (
    let stands : 1 ≤ standing pt.view j q = subst (λ (n : ℕ). 1 ≤ n) (standing_begun pt m j q) least in
    bags.bag j q (queue_not_elsewhere m p q off) (subst (λ (n : ℕ). 1 ≤ n) (sym (ended_stands pt m i p j q off)) least) ∙ kept q j (elsewhere_apart m q off) stands) in
    record {
      state = end;
      says = says;
      route = Tells tells;
      turn = turn_is b m pt l k y w c (turned end parts) (here_turn b m pt l k y w c h (turned end parts)
          (ap (here_handles k0 y h.x) (kill_what y.what c.says) ∙ (λ i. turned end (state.says e ∷ drops i ++ machine_buries k0 p tos i))));
      outcome = outcome_is b m pt l k y w c (Some rule_parts) (here_outcome b m pt l k y w h (Some rule_parts)
          (λ i. Some (rule.says e ∷ rule_drops ids i ++ (ap (map (rule_to_kernels MessageKind.Bury)) (sym to_preds) ∙ rule_buries k0 p tos) i)));
      next = g.next;
      after = ap (λ (o : Option OneKernel). bind (bind o (λ (z : OneKernel). Some (moved (begun pt m) (Line.Label e) z))) (λ (n : Point). after n (drop_lines ids))) all.step
          ∙ ap (λ (u : View). after (seen_point pt m e (ended_kernel pt i p) u) (drop_lines ids)) all.view ∙ g.after;
      placed = g.placed;
      mirrors = g.mirrors;
      kernel = stands_set b pt g.next l g.placed m k end p
          (record {
            here = refl;
            records = λ q off. ap (λ (d : Bool). if d then None else k.records q) off;
            queue = λ q off. views.lists (Queue m q) (queue_of_others m p q off);
            held = λ q off. views.held m q;
            known = others_known;
            residents = stays_resident;
            system = same_manager l g.placed bags.manager;
            notes = λ q off. bags.notes q;
            bag = λ q j off least. bags.bag j (Queue m q) (queue_of_others m p q off) least ∙ kept (Queue m q) j (queue_apart m m q) least;
            holds = λ q j off least. bags.bag j (Held m q) refl least ∙ kept (Held m q) j (held_apart m m q) least;
            mine = ended_known g.placed p (g.next.view.queue m p) (g.next.view.held m p) (end.records p) (g.next.view.known m p)
                (ap (λ (d : Bool). if d then None else k.records p) (pid_eq-same p)) known;
          }) c.stands
          (ap (without p) c.stands.ring ∙ sym (g.ring ∙ machine_self pt.view.ring m (without p (pt.view.ring m))))
          (ap (map g.placed.bag) (views.lists (Inbox m) refl ∙ box) ∙ map_same l.bag g.placed.bag c.ids behind ∙ c.others)
          (c.stands.made ∙ sym (kernels.made m))
          (room_released k.room (room_of (slice_get b.machines m)) before now (length h.x.memory / 256) c.stands.room slots blocks)
          (record {
            same = λ q. elim (cases_Bool (pid_eq p q)) [
              | inl same ↦ subst (λ (r : Pid). without_preds k.preds p r ≡ g.next.view.preds m r) (pid_eq-is p q same) (none_kept k.preds p p (pid_eq-same p) ∙ sym (g.preds ∙ record_self pt.view.preds m p nobody (pid_eq-same p)))
              | inr off ↦ others_kept k.preds p q off ∙ c.stands.preds.same q ∙ sym (views.preds m q (right_off (m == m) (pid_eq p q) off) ∙ record_others pt.view.preds m p q nobody off)
            ];
            within = (forgotten_stand b pt.view.preds k.preds m p c.stands.preds).within;
          });
      elsewhere = search (
        views.held,
        kernels.made,
        bags.notes,
        λ (n : ℕ) (off : n ≢ m). views.lists (Inbox n) refl ∙ machine_off pt.view.inbox m n (without_front i (pt.view.inbox m)) off,
        λ (n : ℕ) (off : n ≢ m). views.ring n off ∙ machine_off pt.view.ring m n (without p (pt.view.ring m)) off,
        λ (n : ℕ) (q : Pid) (off : n ≢ m). views.known n q (left_off (m == n) (pid_eq p q) (eq_off m n off)) ∙ record_off pt.view.known m n p q view.Unknown off,
        λ (n : ℕ) (q : Pid) (off : n ≢ m). views.preds n q (left_off (m == n) (pid_eq p q) (eq_off m n off)) ∙ record_off pt.view.preds m n p q nobody off,
        λ (n : ℕ) (q : Pid) (off : n ≢ m). views.lists (Queue n q) (left_off (m == n) (pid_eq p q) (eq_off m n off)),
        λ (n : ℕ) (q : Pid) (off : n ≢ m) (has : has_process (pt.view.known n q) ≡ true). left q (Elsewhere n off has),
        stays_resident,
        same_manager l g.placed bags.manager,
        others_live,
        stays,
      );
      sent = λ counted records. buries_may g.next g.placed records m (pt.view.count m) 0 p k0 tos
          (record {
            acting = views.acting;
            count = views.count m;
            topic = g.topic;
            untold = λ j le. ap (λ (f : MsgId → Option view.Told). f (id_of (pid_of m 0) j)) views.told ∙ untold_from b pt m j c.run le;
            absent = λ j le. g.fewer (id_of (pid_of m 0) j) (gone_none (id_eq i (id_of (pid_of m 0) j)) (l.bag (id_of (pid_of m 0) j)) (absent_from b pt l m j c.run c.mirrors c.own le));
          }) c.stands.here (let same : pt.view.count m ≡ pt.view.count m + 0 = omega arith in counted ∙ same);
      still = drops_still ids;
      over = OneEnds m p Why.Killed refl refl (one_ends s g.next.kernel p Why.Killed others_live life);
      count = ap (λ (j : ℕ). k.sent + j) (sym (many_buries k0 p tos));
      moving = λ q is. let off = left q (Moves is) in (stays_resident q off, ap (λ (d : Bool). if d then None else k.records q) off, bags.notes q);
      own = λ j a none there. bags.own j a none (own_kept b m pt l k y w c on None (λ n. refl) (λ z f. absurd (cc)) j a none there);
      own_back = λ j a none there. own_back l on i None (λ n. refl) (λ z f. absurd (cc)) j a none (bags.own_back j a none there);
    }

-- A message for the kernel itself: what is free and what a new process is, and the answer where there is no room for it.

-- what is free is what the lines say
pub free_of : (t : Taken) (o : Option BootMachine) (r : Room) → RoomStands t (room_of o) r → (free_slots t ≡ (rule.free_of o r).slots) × (free_blocks t ≡ (rule.free_of o r).blocks)
free_of t o r h = grind (arith, nat_tests)

-- a kernel's name, and the image that it is asked for
pub kernel_is : (s : OneKernel) (p : Pid) (m : ℕ) → (p.num == 0) ≡ true → p.home ≡ m → m < s.machines → service.is_kernel s p ≡ true
kernel_is s p m num home below = ap (λ (c : Bool). c && nat_lt p.home s.machines) num ∙ (let e : nat_lt p.home s.machines ≡ true = grind (arith, nat_tests) in e)

-- the kernel is at home here
pub kernel_home : (b : Boot) (m : ℕ) (pt : Point) (l : Placed) (k : KernelState) (y : Message) (w : PlainWhat) → Taking b m pt l k y w → (y.to.pid.num == 0) ≡ true → y.to.pid.home ≡ m
kernel_home b m pt l k y w c num = home_of b m pt y.id (plainly y w) num c.front

pub create_turn : (b : Boot) (k0 : KernelState) (y : Message) (image : ℕ) (links : _) (g : BootImage) (c : Bool) → (y.to.pid.num == 0) ≡ true → y.what ≡ What.Create image links → slice_get b.images image ≡ Some g → machine.has_room k0.room g.blocks ≡ c
    → handles b k0 y ≡ makes b k0 y links.items g c
create_turn b k0 y image links g c num is found room = grind (arith, nat_tests, to_kernel)

-- there is no room for it
pub no_room_row : (b : Boot) (m : ℕ) (pt : Point) (l : Placed) (k : KernelState) (y : Message) (image : ℕ) (ls : List PlainLink) (g : BootImage) → Taking b m pt l k y (PlainWhat.Create image ls) → (y.to.pid.num == 0) ≡ true → slice_get b.images image ≡ Some g
    → rule.has_room (rule.free_room b pt m) g.blocks ≡ false → Row b m pt l k
no_room_row b m pt l k y image ls g c num found none =
    let s = pt.kernel in
    let p = y.to.pid in
    let k0 = record k { inbox = c.rest } in
    let r = rule.free_room b pt m in
    let e = Label.NoSpace y.id r.slots r.blocks in
    let w = create_what y.what image ls c.says in
    let free = free_of k.room (slice_get b.machines m) (taken_at pt m s.machines) c.stands.room in
    let a = answer m 0 y What.NoRoom in
    let next = with_sent (without_message s y.id) (Some (answer_to (plainly y (PlainWhat.Create image ls)) PlainWhat.NoRoom)) in
    let on = placed.with_sent (placed.without_message l y.id) (Some a) in
    let step : kernel.step s e ≡ Some next =
    ap (λ (o : Option PlainMessage). bind o (λ (v : PlainMessage). service.has_no_room s y.id v v.what)) c.front.there ∙ ap (λ (d : Bool). when d next) (kernel_is s p m num (kernel_home b m pt l k y (PlainWhat.Create image ls) c num) c.below) in
    let seen = sane_of b m pt l k y (PlainWhat.Create image ls) c in
    let bag = bag_no_space seen.r seen.e s next y.id r.slots r.blocks step seen.sound in
    turns_row b m pt l k y (PlainWhat.Create image ls) c (record {
      label = e;
      next = next;
      placed = on;
      state = k0;
      route = Some a;
      process = p;
      step = step;
      view = refl;
      needs = tt;
      placed_is = ap (λ (o : Option Message). bind o (λ (z : Message). Some (placed.with_sent (placed.without_message l y.id) (Some (answer m 0 z What.NoRoom))))) c.there;
      turn = create_turn b k0 y image w.links g false num w.is found ((λ i. nat_le 1 (free.0 i) && nat_le g.blocks (free.1 i)) ∙ none)
          ∙ (λ i. turned k0 (state.says (Label.NoSpace y.id (free.0 i) (free.1 i)) ∷ Part.Routes (answer (c.stands.here i) 0 y What.NoRoom) ∷ []));
      outcome = grind (arith, nat_tests, rule_to_kernel);
      fresh = λ z is. let same : a ≡ z = cc in ap (λ (n : Message). s.bag n.id) (sym same) ∙ bag_none seen.r seen.e s (answer_id y.id) (bag.fresh (answer_id y.id) refl) seen.sound.entered;
      plain = λ z is. let same : a ≡ z = cc in ap (λ (n : Message). is_some (plain_message n)) (sym same);
      mine = λ same holds. known_on l on p (pt.view.queue m p) (pt.view.held m p) (pt.view.known m p) (k.records p) (same_manager l on refl) refl refl same holds (c.stands.known p);
      leaves = search (same_manager l on refl);
    })

pub valid_at : (images : List BootImage) (n : ℕ) (g : BootImage) → slice_get images n ≡ Some g → images_are_valid images ≡ true → image_is_valid g ≡ true
valid_at [] n g e h = none_some g e
valid_at (x ∷ xs) zero g e h = let f : x ≡ g = cc in sym (ap image_is_valid f) ∙ (and-both (image_is_valid x) (images_are_valid xs) h).0
valid_at (x ∷ xs) (suc n) g e h = valid_at xs n g e (and-both (image_is_valid x) (images_are_valid xs) h).1

-- A user message for a process that is here: it is queued.

pub user_row : (b : Boot) (m : ℕ) (pt : Point) (l : Placed) (k : KernelState) (y : Message) (code channel : ℕ) (bytes : List ℕ) (ls : List PlainLink) (c : Taking b m pt l k y (said.User code channel bytes ls)) → IsHere b m pt l k y.to.pid → Row b m pt l k
user_row b m pt l k y code channel bytes ls c h =
    let w = said.User code channel bytes ls in
    let p = y.to.pid in
    let i = y.id in
    let v = handled (begun pt m).view i in
    let u : View = view.queued_for v i (Some p) in
    let next : Point = record { kernel = pt.kernel; view = u; addresses = pt.addresses } in
    let k0 = record k { inbox = c.rest } in
    let is = (user_what y.what code channel bytes ls c.says).is in
    let z = queued h.x y in
    let xs = pt.view.queue m p ++ i ∷ [] in
    let taken = taken_same pt next m refl (λ n. refl) (λ q. refl) in
    let sets : (q : Pid) → pid_eq p q ≡ false → (with_here k0 p z).records q ≡ k.records q = λ q off. ap (λ (c : Bool). if c then Some (Record.Here (Resident.Process z)) else k.records q) off in
    let queues : (q : Pid) → pid_eq p q ≡ false → next.view.queue m q ≡ pt.view.queue m q = λ q off. record_others pt.view.queue m p q xs off in
    let mine : KnownStands l p (next.view.queue m p) (next.view.held m p) (next.view.known m p) ((with_here k0 p z).records p) =
    here_known l p (next.view.queue m p) (next.view.held m p) z h.queue ((with_here k0 p z).records p) (next.view.known m p) (not_server p h.process)
    (ap (λ (c : Bool). if c then Some (Record.Here (Resident.Process z)) else k.records p) (pid_eq-same p)) h.known h.placed
    (subst (λ (js : List MsgId). AreMessages l.bag js (h.x.queue ++ y ∷ [])) (sym (record_self pt.view.queue m p xs (pid_eq-same p))) (last_message l.bag (pt.view.queue m p) h.x.queue i y h.waits c.there)) in
    -- the view's queue
    let told_is : view.receiver_of (pt.view.told y.id) ≡ Some y.to.pid = ap view.receiver_of c.front.told_is ∙ ap Some (told_receiver b m pt y.id (plainly y w) c.front) in
    record {
      state = with_here k0 p z;
      says = Line.Queued i ∷ [];
      route = Sends None;
      turn = turn_is b m pt l k y w c (turned (with_here k0 p z) (Part.Says (Line.Queued i) ∷ [])) (here_turn b m pt l k y w c h (turned (with_here k0 p z) (Part.Says (Line.Queued i) ∷ [])) (ap (here_handles k0 y h.x) is));
      outcome = outcome_is b m pt l k y w c (Some (Says (Line.Queued i) ∷ [])) (here_outcome b m pt l k y w h (Some (Says (Line.Queued i) ∷ [])) refl);
      next = next;
      after = ap (λ (o : Option Pid). Some (record { kernel = pt.kernel; view = view.queued_for v i o; addresses = pt.addresses })) told_is;
      placed = l;
      mirrors = mirrors_view pt.kernel pt.view u pt.addresses l refl c.mirrors;
      kernel = stands_set b pt next l l m k (with_here k0 p z) p
          (search (sets, queues, same_system l, mine)) c.stands
          c.stands.ring
          (ap (map l.bag) (machine_self pt.view.inbox m (without_front i (pt.view.inbox m)) ∙ front_gone i c.ids (pt.view.inbox m) c.box) ∙ c.others)
          c.stands.made
          (room_stays k.room _ _ _ taken c.stands.room) c.stands.preds;
      elsewhere = search (machine_off, pt.view.inbox, record_off, same_system l);
      sent = tt;
      still = refl;
      over = NoneEnds refl (λ q. refl);
      count = refl;
      moving = λ q is. (refl, ap (λ (d : Bool). if d then Some (Record.Here (Resident.Process z)) else k.records q) (here_left pt m p q c.run.based.phased.phases h.known (Moves is)), refl);
      own = λ j a none there. there;
      own_back = λ j a none there. there;
    }
