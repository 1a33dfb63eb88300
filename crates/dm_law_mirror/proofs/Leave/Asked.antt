-- A process is asked to move: to where it is, which is answered at once, or it is frozen, and the other machine is asked.
use Rattle.dm_law_mirror.proofs.Names.{◌≡◌, ◌≢◌, ℕ, ◌≤◌, ◌==◌, Bool, true, false, List, [], ◌∷◌, map, refl, ap, ◌∙◌, sym, subst, inl, inr, is_some, if◌then◌else◌, Option, None, Some, eqb_tells, eq_not, Pid, pid_eq, pid_eq-same, Message, MsgId}
use Rattle.dm_law_mirror.proofs.Names.{id_eq-same, id_of, manager, PlainMessage, PlainProcess, PlainWhat, plain_message, Process, Label, Line, Record, Stage, Boot, OneKernel, bind, answer_id, bag_none, zero_if, without_message, Point, Target}
use Rattle.dm_law_mirror.proofs.Names.{Here, Spot, Queue, Held, Inbox, standing, times, handled, is_kernels, after, moved, without_front, WhatFits, StepNeeds, Placed, Mirrors, mirrors_view, placed_step, plainly, here_handles, NothingElse}
use Rattle.dm_law_mirror.proofs.Names.{turned, KernelState, KnownStands, AllRecords, TokensStand, FreezesReceiverWhole, KnownIsWhole, CanMove, What, begun, Asker, Outcome, asker_of, manager_request, moved_answer, MoveNote, seen, act_of}
use Rattle.dm_law_mirror.proofs.Names.{at_hand_of, ends_move, with_note, without_note, move_what, Part, freezing, with_frozen, nat_tests, arith, addresses_by, move_target, option_map_or}
use Rattle.dm_onekernel.specs.Kernel as one
use Rattle.dm_onekernel.specs.Service as service
use Rattle.dm_onekernel.specs.Step as kernel
use Rattle.dm_law_rule.specs.Parts as rule
use Rattle.dm_law_rule.specs.Migrating as migrating
use Rattle.dm_law_rule.specs.View as view
use Rattle.dm_law_places.specs.PlacedStep as placed
use Rattle.dm_law_places.specs.PlacedStep.{with_sent}
use Rattle.dm_kernel.specs.State as kernels
use Rattle.dm_law_mirror.proofs.Turning.{NoneEnds, Row, Sends, TurnsAt, has_process, is_elsewhere}
use Rattle.dm_law_mirror.proofs.Kernel.Sets.{after_label, label_mirrors, off_if, on_if}
use Rattle.dm_law_mirror.proofs.Handle.Taking.{Taking, eq_self, held_apart, machine_off, machine_self, map_same, not_server, outcome_is, queue_apart, sane_of, sent_there, some_same, stands_set, turn_is}
use Rattle.dm_law_mirror.proofs.Handle.Rows.{Elsewhere, Moves, here_left, kept_at, kept_behind, mirrors_one, own_back, own_kept, standing_begun}
use Rattle.dm_law_mirror.proofs.Handle.Ended.{IsHere, here_outcome, here_turn}
use Rattle.dm_law_mirror.proofs.Follow.Fronts.{elsewhere_apart, front_gone}
use Rattle.dm_law_mirror.proofs.Rooms.{taken_same}
use Rattle.dm_law_mirror.proofs.Row.Tokens.{row_turns}
use Rattle.dm_law_mirror.proofs.Leave.Asks.{room_stays, off_state, off_view, sets_off}
use Rattle.dm_law_mirror.proofs.Residents.{here_process, same_manager}
use Rattle.dm_law_mirror.proofs.Names.{Resident}

-- a request to move is one of the manager's messages
pub asked_by_manager : (s : OneKernel) (i : MsgId) (x : PlainMessage) (machine : ℕ) → x.what ≡ PlainWhat.Move machine → WhatFits s i x x.what → i ≡ id_of manager i.n
asked_by_manager s i x machine is fits = grind (arith, nat_tests)

-- from now on the process follows the request
record Asked (b : Boot) (m : ℕ) (pt : Point) (l : Placed) (k : KernelState) (y : Message) (machine : ℕ) (next : OneKernel) (mid : Point) (on : Placed) : Type 0 where
  named : y.id ≡ id_of manager y.id.n
  step : kernel.step pt.kernel (Label.Asked y.id) ≡ Some next
  point : moved (begun pt m) (Line.Label (Label.Asked y.id)) next ≡ mid
  mirrors : Mirrors next mid.view mid.addresses on

abbrev asked_kernel : OneKernel → Message → OneKernel
asked_kernel s y = one.with_note (without_message s y.id) y.to.pid (record { id = y.id; asker = y.sender.pid })

abbrev asked_point : Point → ℕ → Message → ℕ → Point
asked_point pt m y machine =
    record { kernel = asked_kernel pt.kernel y; view = view.about (handled (begun pt m).view y.id) (Target machine); addresses = (addresses_by pt.kernel (begun pt m).view pt.addresses (act_of (Line.Label (Label.Asked y.id)))) }

abbrev asked_placed : Placed → Message → Placed
asked_placed l y = with_note (placed.without_message l y.id) y.to.pid y.id (asker_of y)

follows_on : (b : Boot) (m : ℕ) (pt : Point) (l : Placed) (k : KernelState) (y : Message) (machine : ℕ) → Taking b m pt l k y (PlainWhat.Move machine)
    → IsHere b m pt l k y.to.pid
    → Asked b m pt l k y machine (asked_kernel pt.kernel y) (asked_point pt m y machine) (asked_placed l y)
follows_on b m pt l k y machine c h =
    let s = pt.kernel in
    let i = y.id in
    let p = y.to.pid in
    let e = Label.Asked i in
    let x = plainly y (PlainWhat.Move machine) in
    let t = asked_kernel s y in
    let v = view.about (handled (begun pt m).view i) (Target machine) in
    let named = asked_by_manager s i x machine refl (c.run.based.fits.messages i x c.front.there) in
    let step : kernel.step s e ≡ Some t =
    ap (λ (o : Option PlainMessage). bind o (λ (q : PlainMessage). bind (kernel.at_hand s q.to) (λ (z : PlainProcess). service.follows_request s i q q.what))) c.front.there
    ∙ ap (λ (o : Option PlainProcess). bind o (λ (z : PlainProcess). service.follows_request s i x (PlainWhat.Move machine))) (at_hand_of s p _ h.free h.life) in
    let placed_is : placed_step m s.format s.images l e ≡ Some (asked_placed l y) =
    ap (λ (o : Option Message). bind o (λ (q : Message). Some (with_note (placed.without_message l i) q.to.pid i (asker_of q)))) c.there in
    let seen_is : seen s (begun pt m).view (Line.Label e) ≡ v = λ j. view.about (handled (begun pt m).view i) (option_map_or (λ m. move_target m.what) (c.front.there j) NothingElse) in
    record {
      named = named;
      step = step;
      point = λ j. record { kernel = t; view = seen_is j; addresses = ((asked_point pt m y machine).addresses) };
      mirrors = mirrors_one pt m e t v l (asked_placed l y) step seen_is named placed_is c.mirrors;
    }

-- to another machine
asked_other : (b : Boot) (m : ℕ) (pt : Point) (l : Placed) (records : AllRecords) (k : KernelState) (y : Message) (machine : ℕ) (c : Taking b m pt l k y (PlainWhat.Move machine)) (h : IsHere b m pt l k y.to.pid)
    → TokensStand pt.view l records → records m ≡ k.records → k.sent ≡ pt.view.count m
    → m ≢ machine → CanMove (Resident.Process h.x) → TurnsAt b m pt l records k
asked_other b m pt l records k y machine c h tokens mine counted apart whole =
    -- what the bag doesn't have it doesn't have without a message
    let still_none : (c : Bool) (o : Option Message) → o ≡ None → (if c then None else o) ≡ None = λ c o e. grind (arith, nat_tests) in
    let i = y.id in
    let p = y.to.pid in
    let w = PlainWhat.Move machine in
    let asker = Some (asker_of y) in
    let s0 = record k { inbox = c.rest } in
    let f = follows_on b m pt l k y machine c h in
    let mid = asked_point pt m y machine in
    let on = asked_placed l y in
    let box = without_front i (pt.view.inbox m) in
    let frozen : List Line = Line.Migration Stage.Frozen p ∷ Line.Migration Stage.Asked p ∷ [] in
    let off_here : (machine == k.here) ≡ false = ap (λ (n : ℕ). machine == n) c.stands.here ∙ eq_not machine m (λ e. apart (sym e)) in
    let off_rule : (m == machine) ≡ false = eq_not m machine apart in
    let at_once =
    kernels.says (Label.Asked i) ∷ kernels.says (Label.Answered (manager_request (asker_of y)) Outcome.Done) ∷ Part.Routes (moved_answer k.here h.x Outcome.Done (asker_of y)) ∷ [] in
    let sent_off = turned (off_state k c.rest p (Resident.Process h.x) machine asker) (kernels.says (Label.Asked i) ∷ freezing s0 p (Resident.Process h.x) machine asker) in
    let next : Point = record { kernel = mid.kernel; view = off_view pt m p box machine; addresses = mid.addresses } in
    sets_off b m pt l records k p machine asker (Line.Label (Label.Asked i) ∷ frozen) mid.kernel mid.addresses box machine on (record {
      before = record { run = c.run; mirrors = c.mirrors; stands = c.stands; own = c.own; tokens = tokens; records_here = mine; sent = counted };
      resident = Resident.Process h.x;
      is = h.there;
      here = here_process l p (pt.view.queue m p) h.x h.queue (not_server p h.process) h.placed h.waits;
      whole = whole;
      at_m = h.known;
      to_is = refl;
      front = i;
      ids = c.ids;
      first = c.box;
      gone = front_gone i c.ids (pt.view.inbox m) c.box;
      rest = c.rest;
      others = c.others;
      turn = turn_is b m pt l k y w c sent_off (here_turn b m pt l k y w c h sent_off (ap (here_handles s0 y h.x) (move_what y.what machine c.says) ∙ ap (λ (d : Bool). if d then turned s0 at_once else sent_off) off_here));
      outcome = outcome_is b m pt l k y w c (Some (rule.Says (Line.Label (Label.Asked i)) ∷ migrating.leaves_for p machine))
          (here_outcome b m pt l k y w h (Some (rule.Says (Line.Label (Label.Asked i)) ∷ migrating.leaves_for p machine))
          (ap (λ (d : Bool). Some (rule.Says (Line.Label (Label.Asked i)) ∷ (if d then migrating.answers_move i Outcome.Done else migrating.leaves_for p machine))) off_rule));
      after = after_label (begun pt m) (Label.Asked i) mid.kernel frozen next f.step (ap (λ (q : Point). after q frozen) f.point);
      on_mirrors = mirrors_view mid.kernel mid.view next.view mid.addresses on refl f.mirrors;
      spared = record { lives = λ q. refl; made = λ n. refl; machines = refl; processes = λ q. refl; board = refl; manager = refl };
      note = on_if (pid_eq p p) asker (l.notes p) (pid_eq-same p);
      notes = λ q off. off_if (pid_eq p q) asker (l.notes q) off;
      kept = kept_at b m pt l k y w c on None (λ j. refl) (λ a is. cc);
      behind = kept_behind b m pt l k y w c on None (λ j. refl) (λ a is. cc);
      absent = λ j none. still_none _ (l.bag j) none;
      back = own_back l on i None (λ j. refl) (λ a is. cc);
    })

-- to where it is
asked_here : (b : Boot) (m : ℕ) (pt : Point) (l : Placed) (k : KernelState) (y : Message) (machine : ℕ) (c : Taking b m pt l k y (PlainWhat.Move machine))
    → IsHere b m pt l k y.to.pid → m ≡ machine → Row b m pt l k
asked_here b m pt l k y machine c h is =
    let s = pt.kernel in
    let i = y.id in
    let p = y.to.pid in
    let w = PlainWhat.Move machine in
    let k0 = record k { inbox = c.rest } in
    let f = follows_on b m pt l k y machine c h in
    let mid = asked_point pt m y machine in
    let note : MoveNote = record { id = i; asker = y.sender.pid } in
    let t : OneKernel = service.move_ended mid.kernel i p note Outcome.Done in
    let e = Label.Answered i Outcome.Done in
    let asker : Asker = asker_of y in
    let a : Message = moved_answer m h.x Outcome.Done asker in
    let mid_placed = asked_placed l y in
    let on : Placed = with_sent (without_note mid_placed p i) (Some a) in
    let noted : mid.kernel.noted i ≡ Some p = on_if _ (Some p) (s.noted i) (id_eq-same i) in
    let notes : mid.kernel.notes p ≡ Some note = on_if (pid_eq p p) (Some note) (s.notes p) (pid_eq-same p) in
    let waits : mid_placed.notes p ≡ Some asker = on_if (pid_eq p p) (Some asker) (l.notes p) (pid_eq-same p) in
    let step : kernel.step mid.kernel e ≡ Some t =
    ap (λ (q : Option Pid). bind q (λ (r : Pid). bind (mid.kernel.notes r) (λ (z : MoveNote). service.ends_move mid.kernel i r z Outcome.Done))) noted
    ∙ ap (λ (q : Option MoveNote). bind q (λ (z : MoveNote). service.ends_move mid.kernel i p z Outcome.Done)) notes in
    let needs : StepNeeds mid.kernel mid.view e = λ q z noted_ notes_. (
    let same : p ≡ q = some_same p q (sym noted ∙ noted_) in
    let as_ : note ≡ z = some_same note z (sym notes ∙ ap mid.kernel.notes same ∙ notes_) in
    (_, ap (λ (n : MoveNote). n.id) (sym as_), ap (λ (r : Pid). kernel.alive (s.processes r)) (sym same) ∙ ap kernel.alive h.life)) in
    let placed_is : placed_step m s.format s.images mid_placed e ≡ Some on =
    ap (λ (q : Option Pid). bind q (λ (r : Pid). ends_move m mid_placed i r Outcome.Done)) (on_if _ (Some p) (l.noted i) (id_eq-same i))
    ∙ ap (λ (q : Option Asker). bind q (λ (z : Asker). bind (l.processes p) (λ (x : Process). Some (with_sent (without_note mid_placed p i) (Some (moved_answer m x Outcome.Done z)))))) waits
    ∙ ap (λ (q : Option Process). bind q (λ (x : Process). Some (with_sent (without_note mid_placed p i) (Some (moved_answer m x Outcome.Done asker))))) h.placed in
    let next = moved mid (Line.Label e) t in
    let sane = sane_of b m pt l k y w c in
    let fits = c.run.based.fits.messages i (plainly y w) c.front.there in
    let zero_ : sane.e (answer_id i) ≡ 0 = zero_if (sane.e (answer_id i)) (λ least. (
    let gone : s.bag i ≡ None =
    sym (ap s.bag (λ j. record { from = i.from; n = i.n; answer = sym fits.3 j })) ∙ sane.sound.entered.answers (answer_id i) refl least in
    let g : None ≡ Some (plainly y w) = sym gone ∙ c.front.there in
    cc)) in
    let answer_is : a.id ≡ answer_id i = ap answer_id (sym f.named) in
    let fresh : s.bag a.id ≡ None = ap s.bag answer_is ∙ bag_none sane.r sane.e s (answer_id i) zero_ sane.sound.entered in
    let bag_is : (j : MsgId) → on.bag j ≡ (with_sent (placed.without_message l i) (Some a)).bag j = λ j. refl in
    let both : (n : Message) → Some a ≡ Some n → (s.bag n.id ≡ None) × (is_kernels n.id ≡ false) =
    λ n same. subst (λ (z : Message). (s.bag z.id ≡ None) × (is_kernels z.id ≡ false)) (some_same a n same) (fresh, refl) in
    let plain : (n : Message) → Some a ≡ Some n → is_some (plain_message n) ≡ true =
    λ n same. subst (λ (z : Message). is_some (plain_message z) ≡ true) (some_same a n same) refl in
    let kept : (z : Spot) (j : MsgId) → z ≢ Inbox m → 1 ≤ standing pt.view j z → on.bag j ≡ l.bag j = kept_at b m pt l k y w c on (Some a) bag_is both in
    let behind : (j : MsgId) → 1 ≤ times j c.ids → on.bag j ≡ l.bag j = kept_behind b m pt l k y w c on (Some a) bag_is both in
    let queues : (q : Pid) (j : MsgId) → 1 ≤ times j (pt.view.queue m q) → on.bag j ≡ l.bag j = λ q j least. kept (Queue m q) j (queue_apart m m q) least in
    let holds : (q : Pid) (j : MsgId) → 1 ≤ times j (pt.view.held m q) → on.bag j ≡ l.bag j = λ q j least. kept (Held m q) j (held_apart m m q) least in
    let others : (q : Pid) → pid_eq p q ≡ false → on.notes q ≡ l.notes q =
    λ q off. off_if (pid_eq p q) None (mid_placed.notes q) off ∙ off_if (pid_eq p q) (Some asker) (l.notes q) off in
    let here : KnownStands on p (pt.view.queue m p) (pt.view.held m p) (pt.view.known m p) (k.records p) =
    subst (λ (z : view.Known). KnownStands on p (pt.view.queue m p) (pt.view.held m p) z (k.records p)) (sym h.known)
    (subst (KnownStands on p (pt.view.queue m p) (pt.view.held m p) Here) (sym h.there)
    (here_process on p (pt.view.queue m p) h.x h.queue (not_server p h.process) h.placed (map_same l.bag on.bag (pt.view.queue m p) (queues p) ∙ h.waits))) in
    let taken = taken_same pt next m refl (λ n. refl) (λ q. refl) in
    let to_here : (machine == k.here) ≡ true = ap (λ (n : ℕ). n == k.here) (sym is ∙ sym c.stands.here) ∙ eq_self k.here in
    let to_rule : (m == machine) ≡ true = ap (λ (n : ℕ). m == n) (sym is) ∙ eq_self m in
    let parts =
    λ (n : MsgId) (z : ℕ). kernels.says (Label.Asked i) ∷ kernels.says (Label.Answered n Outcome.Done) ∷ Part.Routes (moved_answer z h.x Outcome.Done asker) ∷ [] in
    let sent_off =
    turned (kernels.with_sent (with_frozen k0 p (Resident.Process h.x) machine (Some asker))) (kernels.says (Label.Asked i) ∷ freezing k0 p (Resident.Process h.x) machine (Some asker)) in
    record {
      state = k0;
      says = Line.Label (Label.Asked i) ∷ Line.Label e ∷ [];
      route = Sends (Some a);
      turn = turn_is b m pt l k y w c (turned k0 (parts i m)) (here_turn b m pt l k y w c h (turned k0 (parts i m))
          (ap (here_handles k0 y h.x) (move_what y.what machine c.says) ∙ ap (λ (d : Bool). if d then turned k0 (parts (manager_request asker) k.here) else sent_off) to_here ∙ (λ j. turned k0 (parts (sym f.named j) (c.stands.here j)))));
      outcome = outcome_is b m pt l k y w c (Some (rule.Says (Line.Label (Label.Asked i)) ∷ rule.Says (Line.Label e) ∷ rule.Routes a.id ∷ []))
          (here_outcome b m pt l k y w h (Some (rule.Says (Line.Label (Label.Asked i)) ∷ rule.Says (Line.Label e) ∷ rule.Routes a.id ∷ []))
          (ap (λ (d : Bool). Some (rule.Says (Line.Label (Label.Asked i)) ∷ (if d then migrating.answers_move i Outcome.Done else migrating.leaves_for p machine))) to_rule
          ∙ ap (λ (n : MsgId). Some (rule.Says (Line.Label (Label.Asked i)) ∷ rule.Says (Line.Label e) ∷ rule.Routes n ∷ [])) (sym answer_is)));
      next = next;
      after = after_label (begun pt m) (Label.Asked i) mid.kernel (Line.Label e ∷ []) next f.step (ap (λ (q : Point). after q (Line.Label e ∷ [])) f.point ∙ after_label mid e t [] next step refl);
      placed = on;
      mirrors = label_mirrors mid mid_placed on m e t f.mirrors refl needs step placed_is;
      kernel = stands_set b pt next l on m k k0 p (search (others, queues, holds, same_manager l on refl, here)) c.stands
          c.stands.ring
          (ap (map on.bag) (machine_self pt.view.inbox m (without_front i (pt.view.inbox m)) ∙ front_gone i c.ids (pt.view.inbox m) c.box) ∙ map_same l.bag on.bag c.ids behind ∙ c.others)
          c.stands.made (room_stays k.room _ _ _ taken c.stands.room)
          c.stands.preds;
      elsewhere = search (
        machine_off,
        same_manager l on refl,
        λ (n : ℕ) (q : Pid) (off : n ≢ m) (has : has_process (pt.view.known n q) ≡ true). others q (here_left pt m p q c.run.based.phased.phases h.known (Elsewhere n off has)),
        λ (j : MsgId) (z : Spot) (away : is_elsewhere m z ≡ true) (least : 1 ≤ standing (begun pt m).view j z). kept z j (elsewhere_apart m z away) (subst (λ (n : ℕ). 1 ≤ n) (standing_begun pt m j z) least),
      );
      sent = (sent_there (without_note mid_placed p i) a, refl);
      still = refl;
      over = NoneEnds refl (λ q. refl);
      count = refl;
      moving = λ q is. (refl, refl, others q (here_left pt m p q c.run.based.phased.phases h.known (Moves is)));
      own = own_kept b m pt l k y w c on (Some a) bag_is (λ n same. (both n same).1);
      own_back = own_back l on i (Some a) bag_is plain;
    }

-- a process that is here is asked to move
pub asked_turn : (b : Boot) (m : ℕ) (pt : Point) (l : Placed) (records : AllRecords) (k : KernelState) (y : Message) (machine : ℕ)
    → Taking b m pt l k y (PlainWhat.Move machine) → IsHere b m pt l k y.to.pid → TokensStand pt.view l records → records m ≡ k.records
    → k.sent ≡ pt.view.count m → FreezesReceiverWhole k y → TurnsAt b m pt l records k
asked_turn b m pt l records k y machine c h tokens mine counted whole = elim (eqb_tells m machine) [
  | inl is ↦ row_turns b m pt l records k c.run c.own tokens mine counted (asked_here b m pt l k y machine c h is.1)
  | inr off ↦
      asked_other b m pt l records k y machine c h tokens mine counted off.1
      (subst (λ (w : What). KnownIsWhole k.here w (Some (Record.Here (Resident.Process h.x)))) (move_what y.what machine c.says)
      (subst (KnownIsWhole k.here y.what) h.there (whole h.process.number)) (λ e. off.1 (sym (e ∙ c.stands.here))))
]
