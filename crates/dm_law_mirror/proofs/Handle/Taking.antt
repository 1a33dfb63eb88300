-- The kernel of a machine still stands for a point where one process has changed.
use Rattle.dm_law_mirror.proofs.Names.{◌≡◌, ◌≢◌, ℕ, ◌+◌, ◌≤◌, ◌<◌, Bool, true, false, List, ◌∷◌, refl, ap, ◌∙◌, sym, subst, inl, inr, is_some, arith, if◌then◌else◌, Option, None, Some, cases_Bool, false≢true, Pid, MsgId, Message, id_eq}
use Rattle.dm_law_mirror.proofs.Names.{nat_tests, PlainMessage, PlainWhat, plain_message, plain_what, Boot, IsValid, Label, OneKernel, bind, Step, entry, reception, after_step, id_eq-is, id_eq-same, Point, outcome, Spot, Queue, Held, Inbox}
use Rattle.dm_law_mirror.proofs.Names.{times, standing, StandsAsBag, StandsNowhere, StandsOutside, StandsRight, is_kernels, stands_right, kernels_fresh, not_kernels, Sane, StandsAsBag-elsewhere, StandsAsBag-one, front, OwnTold, IsQueued, Run}
use Rattle.dm_law_mirror.proofs.Names.{Front, Placed, Mirrors, MirrorsKernel, parts, there_of, plainly, plainly_is, handles, KernelState, Turned, turns, MadeStands, AllOwnStand, AreMessages, KernelStands, ◌==◌, ◌&&◌, [], slice_get, pid_eq}
use Rattle.dm_law_mirror.proofs.Names.{room_of, pid_eq-is, taken_at, at_record, Known, is_server, KnownStands, RoomStands, ◌||◌, length, switchboard, manager, kernel_handles, board_handles, manager_handles, resident_at}
use Rattle.dm_law_mirror.proofs.Names.{process_handles, not_true, PlainProcess, KernelKnown, ended_handles, PredsStand, Board, Managing, Record, Resident}
pub use Rattle.dm_law_always.proofs.Goes.Process.{no_server}
use Rattle.dm_law_rule.proofs.Names.{Part}
use Rattle.dm_law_places.specs.PlacedStep.{with_sent, without_message}
pub use Rattle.dm_law_always.proofs.Goes.Always.{queue_apart}
pub use Rattle.dm_law_always.proofs.Goes.Turns.{times_self, times_more}
pub use Rattle.dm_law_rule.proofs.Lines.{eq_self, at_machine_at as machine_self}
use Rattle.dm_onekernel.specs.Step as kernel
use Rattle.dm_law_rule.specs.Parts as part_of_rule
use Rattle.dm_law_rule.specs.Rule as rule
use Rattle.dm_onekernel.specs.Manager as manage
use Rattle.dm_onekernel.specs.Switchboard as board
pub use Rattle.std.proofs.lemmas.Option.{same_Some as some_same}
pub use Rattle.dm_law_mirror.proofs.Kernel.Sets.{known_at as known_on, map_same}
use Rattle.dm_law_mirror.proofs.Residents.{SameSystem}
pub use Rattle.dm_law_mirror.proofs.Join.{some_plain as some_of}
pub use Rattle.dm_law_mirror.proofs.End.Servers.{off as eq_off}
pub use Rattle.dm_world.proofs.Alone.{other_machine as machine_off}

-- the message at the front
pub record FrontOf (bag : MsgId → Option Message) (i : MsgId) (is : List MsgId) (ms : List Message) : Type 0 where
  pub message : Message
  pub rest : List Message
  pub is_front : ms ≡ message ∷ rest
  pub there : bag i ≡ Some message
  pub others : AreMessages bag is rest

pub front_of : (bag : MsgId → Option Message) (i : MsgId) (is : List MsgId) (ms : List Message) → AreMessages bag (i ∷ is) ms → FrontOf bag i is ms
front_of bag i is [] e = cc
front_of bag i is (y ∷ rest) e = record { message = y; rest = rest; is_front = refl; there = cc; others = cc }

-- another kernel of machine m for another point, where only process p may have changed
pub record Sets (pt next : Point) (l placed : Placed) (m : ℕ) (k s : KernelState) (p : Pid) : Type 0 where
  pub here : s.here ≡ k.here
  pub records : (q : Pid) → pid_eq p q ≡ false → s.records q ≡ k.records q
  pub queue : (q : Pid) → pid_eq p q ≡ false → next.view.queue m q ≡ pt.view.queue m q
  pub held : (q : Pid) → pid_eq p q ≡ false → next.view.held m q ≡ pt.view.held m q
  pub known : (q : Pid) → pid_eq p q ≡ false → next.view.known m q ≡ pt.view.known m q
  pub residents : (q : Pid) → pid_eq p q ≡ false → resident_at placed q ≡ resident_at l q
  pub system : SameSystem l placed
  pub notes : (q : Pid) → pid_eq p q ≡ false → placed.notes q ≡ l.notes q
  pub bag : (q : Pid) (j : MsgId) → pid_eq p q ≡ false → 1 ≤ times j (pt.view.queue m q) → placed.bag j ≡ l.bag j
  pub holds : (q : Pid) (j : MsgId) → pid_eq p q ≡ false → 1 ≤ times j (pt.view.held m q) → placed.bag j ≡ l.bag j
  -- what is known of it then
  pub mine : KnownStands placed p (next.view.queue m p) (next.view.held m p) (next.view.known m p) (s.records p)

known_sets : (b : Boot) (pt next : Point) (l placed : Placed) (m : ℕ) (k s : KernelState) (p q : Pid) → Sets pt next l placed m k s p → KernelStands b pt l m k → KnownStands placed q (next.view.queue m q) (next.view.held m q) (next.view.known m q) (s.records q)
known_sets b pt next l placed m k s p q w h = elim (cases_Bool (pid_eq p q)) [
  | inl same ↦
      let e : p ≡ q = pid_eq-is p q same in
      subst (λ (z : Pid). KnownStands placed z (next.view.queue m z) (next.view.held m z) (next.view.known m z) (s.records z)) e w.mine
  | inr apart ↦
      let on = known_on l placed q (pt.view.queue m q) (pt.view.held m q) (pt.view.known m q) (k.records q)
      w.system (w.residents q apart) (w.notes q apart) (λ j least. w.bag q j apart least) (λ j least. w.holds q j apart least) (h.known q) in
      subst (KnownStands placed q (next.view.queue m q) (next.view.held m q) (next.view.known m q)) (sym (w.records q apart))
      (subst (λ (z : Known). KnownStands placed q (next.view.queue m q) (next.view.held m q) z (k.records q)) (sym (w.known q apart))
      (subst (λ (z : List MsgId). KnownStands placed q (next.view.queue m q) z (pt.view.known m q) (k.records q)) (sym (w.held q apart))
      (subst (λ (z : List MsgId). KnownStands placed q z (pt.view.held m q) (pt.view.known m q) (k.records q)) (sym (w.queue q apart)) on)))
]

pub stands_set : (b : Boot) (pt next : Point) (l placed : Placed) (m : ℕ) (k s : KernelState) (p : Pid) → Sets pt next l placed m k s p → KernelStands b pt l m k → s.ring ≡ next.view.ring m → AreMessages placed.bag (next.view.inbox m) s.inbox
    → s.made ≡ next.kernel.made m → RoomStands s.room (room_of (slice_get b.machines m)) (taken_at next m next.kernel.machines) → PredsStand b (next.view.preds m) s.preds → KernelStands b next placed m s
stands_set b pt next l placed m k s p w h ring inbox made room preds = search (w.here ∙ h.here, known_sets)

pub record_self : {X : Type 0} (f : ℕ → Pid → X) (m : ℕ) (p : Pid) (x : X) → pid_eq p p ≡ true → at_record f m p x m p ≡ x
record_self f m p x same = ap (λ (c : Bool). if c && pid_eq p p then x else f m p) (eq_self m) ∙ ap (λ (c : Bool). if c then x else f m p) same

pub record_off : {X : Type 0} (f : ℕ → Pid → X) (m n : ℕ) (p q : Pid) (x : X) → n ≢ m → at_record f m p x n q ≡ f n q
record_off f m n p q x apart = ap (λ (c : Bool). if c && pid_eq p q then x else f n q) (eq_off m n apart)

pub record_others : {X : Type 0} (f : ℕ → Pid → X) (m : ℕ) (p q : Pid) (x : X) → pid_eq p q ≡ false → at_record f m p x m q ≡ f m q
record_others f m p q x apart = ap (λ (c : Bool). if c && pid_eq p q then x else f m q) (eq_self m) ∙ ap (λ (c : Bool). if c then x else f m q) apart

pub pid_apart : (p q : Pid) → q ≢ p → pid_eq p q ≡ false
pid_apart p q apart = grind (arith, nat_tests, pid_eq-is)

-- A turn that handles the message at the inbox's front: what holds of it, and how a row of it comes to the end.

-- machine m handles message y, which says w without places
pub record Taking (b : Boot) (m : ℕ) (pt : Point) (l : Placed) (k : KernelState) (y : Message) (w : PlainWhat) : Type 0 where
  pub valid : IsValid b
  pub below : m < pt.kernel.machines
  pub run : Run b pt
  pub told : OwnTold pt
  pub made : MadeStands pt.kernel
  pub mirrors : Mirrors pt.kernel pt.view pt.addresses l
  pub stands : KernelStands b pt l m k
  pub own : AllOwnStand pt.view l
  pub says : plain_what y.what ≡ Some w
  pub there : l.bag y.id ≡ Some y
  -- the messages behind it
  pub ids : List MsgId
  pub box : pt.view.inbox m ≡ y.id ∷ ids
  pub rest : List Message
  pub inbox : k.inbox ≡ y ∷ rest
  pub others : AreMessages l.bag ids rest
  pub front : Front b m pt y.id (plainly y w)

pub held_apart : (m n : ℕ) (p : Pid) → Held n p ≢ Inbox m
held_apart m n p e = cc

-- the front of the inbox is a message of the bag
pub record Took (b : Boot) (m : ℕ) (pt : Point) (l : Placed) (k : KernelState) (i : MsgId) (x : PlainMessage) : Type 0 where
  pub message : Message
  pub id : message.id ≡ i
  pub plain : plain_message message ≡ Some x
  pub taking : Taking b m pt l k message x.what

pub took : (b : Boot) (m : ℕ) (pt : Point) (l : Placed) (k : KernelState) (i : MsgId) (is : List MsgId) (x : PlainMessage) → IsValid b → m < pt.kernel.machines → Run b pt → OwnTold pt → MadeStands pt.kernel → Mirrors pt.kernel pt.view pt.addresses l → KernelStands b pt l m k → AllOwnStand pt.view l
    → pt.view.inbox m ≡ i ∷ is → pt.kernel.bag i ≡ Some x → Took b m pt l k i x
took b m pt l k i is x valid below run told made mirrors h own box there =
    let f = front_of l.bag i is k.inbox (subst (λ (z : List MsgId). AreMessages l.bag z k.inbox) box h.inbox) in
    let y = f.message in
    let name : y.id ≡ i = (mirrors.places.message i y f.there).id in
    let (z, found, says) = there_of pt.kernel l i x mirrors.plain there in
    let same : z ≡ y = let g : Some z ≡ Some y = sym found ∙ f.there in cc in
    let plain : plain_message y ≡ Some x = ap plain_message (sym same) ∙ says in
    let box_ : pt.view.inbox m ≡ y.id ∷ is = box ∙ ap (λ (j : MsgId). j ∷ is) (sym name) in
    search (
      (parts y x plain).what,
      ap l.bag name ∙ f.there,
      front b m pt y.id is (plainly y x.what) box_ (ap pt.kernel.bag name ∙ there ∙ ap Some (plainly_is y x plain)) run,
    )

-- the kernel without machines, as the rule has led to it
pub sane_of : (b : Boot) (m : ℕ) (pt : Point) (l : Placed) (k : KernelState) (y : Message) (w : PlainWhat) → Taking b m pt l k y w → Sane pt
sane_of b m pt l k y w c = c.run.based.phased.sane

-- a message that is queued is in the bag, for this process
pub record Waits (pt : Point) (p : Pid) (i : MsgId) : Type 0 where
  pub x : PlainMessage
  pub there : pt.kernel.bag i ≡ Some x
  pub to : x.to ≡ p

waits_by : (i : MsgId) (n : ℕ) (p : Pid) (pt : Point) (o : Option PlainMessage) (f : Spot → ℕ) (z : Spot) → pt.kernel.bag i ≡ o → 1 ≤ f z → is_kernels i ≡ false → StandsRight i o f → IsQueued n p o → Waits pt p i
waits_by i n p pt None f z is least off h q = absurd (let k : StandsNowhere f = subst (λ (c : Bool). StandsOutside c f) off h in let e : f z ≡ 0 = k z in omega (arith, least, e))
waits_by i n p pt (Some x) f z is least off h q = record { x = x; there = is; to = (q.is x refl).0 }

pub waits : (b : Boot) (pt : Point) (m : ℕ) (p : Pid) (i : MsgId) → Run b pt → 1 ≤ times i (pt.view.queue m p) → Waits pt p i
waits b pt m p i run least =
    let state = run.based.phased.state in
    let q = run.based.queued m p i least in
    let entered = q.entered in
    let off : is_kernels i ≡ false = not_true (is_kernels i) (λ e. let z = kernels_fresh state.r state.e pt.kernel i state.sound e in omega (arith, entered, z)) in
    waits_by i (state.e i) p pt (pt.kernel.bag i) (standing pt.view i) (Queue m p) refl least off (stands_right pt i state (pt.kernel.bag i) refl) q

-- the machine's turn, and the rule's
pub turn_is : (b : Boot) (m : ℕ) (pt : Point) (l : Placed) (k : KernelState) (y : Message) (w : PlainWhat) (c : Taking b m pt l k y w) (o : Option Turned) → handles b (record k { inbox = c.rest }) y ≡ o → turns b k k.inbox ≡ o
turn_is b m pt l k y w c o e = ap (turns b k) c.inbox ∙ e

pub outcome_is : (b : Boot) (m : ℕ) (pt : Point) (l : Placed) (k : KernelState) (y : Message) (w : PlainWhat) (c : Taking b m pt l k y w) (o : Option (List part_of_rule.Part)) → rule.handles b pt m y.id (plainly y w) ≡ o → outcome b pt (Step.Turn m) ≡ o
outcome_is b m pt l k y w c o e = ap (rule.turns b pt m) c.box ∙ ap (rule.comes_to b pt m y.id) c.front.there ∙ e

-- it stands in the inbox, and nowhere else
once : (b : Boot) (m : ℕ) (pt : Point) (l : Placed) (k : KernelState) (y : Message) (w : PlainWhat) (c : Taking b m pt l k y w) → 1 ≤ standing pt.view y.id (Inbox m)
once b m pt l k y w c = subst (λ (z : List MsgId). 1 ≤ times y.id z) (sym c.box) (times_self y.id c.ids)

kept_of : (b : Boot) (m : ℕ) (pt : Point) (l : Placed) (k : KernelState) (y : Message) (w : PlainWhat) (c : Taking b m pt l k y w) → StandsAsBag (Some (plainly y w)) (standing pt.view y.id)
kept_of b m pt l k y w c = stands_right pt y.id c.run.based.phased.state (Some (plainly y w)) c.front.there

pub not_it : (i j : MsgId) (f : MsgId → ℕ) → f i ≡ 0 → 1 ≤ f j → id_eq i j ≡ false
not_it i j f none least = grind (arith, nat_tests, id_eq-is)

pub apart_at : (b : Boot) (m : ℕ) (pt : Point) (l : Placed) (k : KernelState) (y : Message) (w : PlainWhat) (c : Taking b m pt l k y w) (s : Spot) (j : MsgId) → s ≢ Inbox m → 1 ≤ standing pt.view j s → id_eq y.id j ≡ false
apart_at b m pt l k y w c s j off least =
    not_it y.id j (λ (i : MsgId). standing pt.view i s) (StandsAsBag-elsewhere (Some (plainly y w)) (standing pt.view y.id) (Inbox m) s (once b m pt l k y w c) off (kept_of b m pt l k y w c)) least

pub apart_behind : (b : Boot) (m : ℕ) (pt : Point) (l : Placed) (k : KernelState) (y : Message) (w : PlainWhat) (c : Taking b m pt l k y w) (j : MsgId) → 1 ≤ times j c.ids → id_eq y.id j ≡ false
apart_behind b m pt l k y w c j least =
    let one : standing pt.view y.id (Inbox m) ≡ 1 = StandsAsBag-one (Some (plainly y w)) (standing pt.view y.id) (Inbox m) (once b m pt l k y w c) (kept_of b m pt l k y w c) in
    let is : times y.id (y.id ∷ c.ids) ≡ 1 = ap (times y.id) (sym c.box) ∙ one in
    let self : times y.id (y.id ∷ c.ids) ≡ 1 + times y.id c.ids = ap (λ (d : Bool). (if d then 1 else 0) + times y.id c.ids) (id_eq-same y.id) in
    not_it y.id j (λ (i : MsgId). times i c.ids) (omega (arith, is, self)) least

-- a message that isn't in the bag and is no kernel's own stands nowhere
pub fresh_at : (b : Boot) (pt : Point) (s : Spot) (i j : MsgId) → Run b pt → pt.kernel.bag i ≡ None → is_kernels i ≡ false → 1 ≤ standing pt.view j s → id_eq i j ≡ false
fresh_at b pt s i j h none other least =
    let k : StandsNowhere (standing pt.view i) = subst (λ (c : Bool). StandsOutside c (standing pt.view i)) other (stands_right pt i h.based.phased.state None none) in
    not_it i j (λ (n : MsgId). standing pt.view n s) (k s) least

-- what a step sends is no kernel's own
pub sent_other : (pt : Point) (e : Label) (next : OneKernel) (placed : Placed) (a : Message) → kernel.step pt.kernel e ≡ Some next → MirrorsKernel next placed → placed.bag a.id ≡ Some a → is_some (plain_message a) ≡ true → Sane pt → is_kernels a.id ≡ false
sent_other pt e next placed a step mirrors there plain h =
    let (q, is) = some_of (plain_message a) plain in
    let found : next.bag a.id ≡ Some q = sym (mirrors.bag a.id) ∙ ap (λ (o : Option Message). bind o plain_message) there ∙ is in
    not_kernels (λ i. h.r i + reception i e) (λ i. h.e i + entry i pt.kernel next) next a.id q found (after_step h.r h.e pt.kernel next e step h.sound).sound

-- the bag without it, and with what is sent
pub bag_kept : (l : Placed) (i : MsgId) (o : Option Message) (j : MsgId) → id_eq i j ≡ false → ((a : Message) → o ≡ Some a → id_eq a.id j ≡ false) → (with_sent (without_message l i) o).bag j ≡ l.bag j
bag_kept l i o j off others = grind (arith, nat_tests)

pub sent_there : (l : Placed) (a : Message) → (with_sent l (Some a)).bag a.id ≡ Some a
sent_there l a = ap (λ (c : Bool). if c then Some a else l.bag a.id) (id_eq-same a.id)

-- Whom a message that is handled is for, in the machine's terms and the rule's.

-- a process: it has neither number 0 nor a server's name
pub record IsProcess (p : Pid) : Type 0 where
  pub number : (p.num == 0) ≡ false
  pub no_board : pid_eq p switchboard ≡ false
  pub no_manager : pid_eq p manager ≡ false

pub no_kernel : (p : Pid) → IsProcess p → p.num ≡ 0 → ⊥
no_kernel p h e = false≢true (sym h.number ∙ (let k : (p.num == 0) ≡ true = grind (arith, nat_tests) in k))

pub not_server : (p : Pid) → IsProcess p → is_server p ≡ false
not_server p h = ap (λ (c : Bool). c || pid_eq p manager) h.no_board ∙ h.no_manager

pub to_kernel : (b : Boot) (s : KernelState) (y : Message) → (y.to.pid.num == 0) ≡ true → handles b s y ≡ kernel_handles b s y y.what
to_kernel b s y num = grind (arith, nat_tests)

pub to_known : (b : Boot) (s : KernelState) (y : Message) (r : Option KernelKnown) → (y.to.pid.num == 0) ≡ false → s.records y.to.pid ≡ r → handles b s y ≡ process_handles s y r
to_known b s y r num is = ap (λ (c : Bool). if c then kernel_handles b s y y.what else process_handles s y (s.records y.to.pid)) num ∙ ap (process_handles s y) is

pub to_process : (b : Boot) (s : KernelState) (y : Message) → IsProcess y.to.pid → handles b s y ≡ process_handles s y (s.records y.to.pid)
to_process b s y h = to_known b s y (s.records y.to.pid) h.number refl

-- a server that is here
pub to_board : (b : Boot) (s : KernelState) (y : Message) (v : Board) → (y.to.pid.num == 0) ≡ false → s.records y.to.pid ≡ Some (Record.Here (Resident.Board v)) → handles b s y ≡ board_handles s y v
to_board b s y v num is = to_known b s y (Some (Record.Here (Resident.Board v))) num is

pub to_manager : (b : Boot) (s : KernelState) (y : Message) (v : Managing) → (y.to.pid.num == 0) ≡ false → s.records y.to.pid ≡ Some (Record.Here (Resident.Manager v)) → handles b s y ≡ manager_handles s y v
to_manager b s y v num is = to_known b s y (Some (Record.Here (Resident.Manager v))) num is

-- where nothing is known of it, it has ended
pub to_ended : (b : Boot) (s : KernelState) (y : Message) → (y.to.pid.num == 0) ≡ false → s.records y.to.pid ≡ None → handles b s y ≡ ended_handles s y y.what
to_ended b s y num none = to_known b s y None num none

pub rule_to_kernel : (b : Boot) (pt : Point) (m : ℕ) (i : MsgId) (x : PlainMessage) → (x.to.num == 0) ≡ true → rule.handles b pt m i x ≡ rule.kernel_handles b pt m i x.what
rule_to_kernel b pt m i x num = grind (arith, nat_tests)

pub rule_to_known : (b : Boot) (pt : Point) (m : ℕ) (i : MsgId) (x : PlainMessage) (k : Known) → (x.to.num == 0) ≡ false → pt.view.known m x.to ≡ k → rule.handles b pt m i x ≡ rule.process_handles pt m i x k
rule_to_known b pt m i x k num is = ap (λ (c : Bool). if c then rule.kernel_handles b pt m i x.what else rule.process_handles pt m i x (pt.view.known m x.to)) num ∙ ap (rule.process_handles pt m i x) is

pub rule_to_board : (b : Boot) (pt : Point) (m : ℕ) (i : MsgId) (x : PlainMessage) → (x.to.num == 0) ≡ false → pt.view.known m x.to ≡ Known.Here → pid_eq x.to switchboard ≡ true → rule.handles b pt m i x ≡ rule.board_took i (board.board_takes pt.kernel.switchboard x x.what)
rule_to_board b pt m i x num here one =
    rule_to_known b pt m i x Known.Here num here
    ∙ ap (λ (c : Bool). if c then rule.board_took i (board.board_takes pt.kernel.switchboard x x.what) else if pid_eq x.to manager then rule.manager_parts i (manage.manager_takes pt.kernel.manager pt.kernel.machines (length pt.kernel.images) x x.what)
    else bind (kernel.alive (pt.kernel.processes x.to)) (λ (z : PlainProcess). rule.here_handles pt m i x z x.what)) one

pub rule_to_manager : (b : Boot) (pt : Point) (m : ℕ) (i : MsgId) (x : PlainMessage) → (x.to.num == 0) ≡ false → pt.view.known m x.to ≡ Known.Here → pid_eq x.to switchboard ≡ false → pid_eq x.to manager ≡ true
    → rule.handles b pt m i x ≡ rule.manager_parts i (manage.manager_takes pt.kernel.manager pt.kernel.machines (length pt.kernel.images) x x.what)
rule_to_manager b pt m i x num here one two =
    let parts_ = rule.manager_parts i (manage.manager_takes pt.kernel.manager pt.kernel.machines (length pt.kernel.images) x x.what) in
    let own = bind (kernel.alive (pt.kernel.processes x.to)) (λ (z : PlainProcess). rule.here_handles pt m i x z x.what) in
    rule_to_known b pt m i x Known.Here num here ∙ ap (λ (c : Bool). if c then rule.board_took i (board.board_takes pt.kernel.switchboard x x.what) else if pid_eq x.to manager then parts_ else own) one ∙ ap (λ (c : Bool). if c then parts_ else own) two

pub rule_to_process : (b : Boot) (pt : Point) (m : ℕ) (i : MsgId) (x : PlainMessage) → IsProcess x.to → rule.handles b pt m i x ≡ rule.process_handles pt m i x (pt.view.known m x.to)
rule_to_process b pt m i x h = rule_to_known b pt m i x (pt.view.known m x.to) h.number refl

pub rule_to_here : (b : Boot) (pt : Point) (m : ℕ) (i : MsgId) (x : PlainMessage) → IsProcess x.to → pt.view.known m x.to ≡ Known.Here → rule.handles b pt m i x ≡ bind (kernel.alive (pt.kernel.processes x.to)) (λ (z : PlainProcess). rule.here_handles pt m i x z x.what)
rule_to_here b pt m i x h here = rule_to_known b pt m i x Known.Here h.number here ∙ no_server (pid_eq x.to switchboard) (pid_eq x.to manager) _ _ _ h.no_board h.no_manager
