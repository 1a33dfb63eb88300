-- A move has ended: whoever asked for it is told.
use Rattle.dm_law_mirror.proofs.Names.{turns, ◌≡◌, ◌≢◌, ℕ, ◌+◌, ◌≤◌, true, false, [], ◌∷◌, refl, ap, ◌∙◌, sym, subst, inl, inr, arith, Option, None, Some, option_map, cases_Bool, false≢true, Pid, pid_eq, pid_eq-is, Message, MsgId, id_eq}
use Rattle.dm_law_mirror.proofs.Names.{plain_message, Record, Label, Line, Process, Boot, OneKernel, Step, bind, answer_id, bag_none, Point, View, Told, Of, Here, Known, Spot, Queue, Held, Inbox, standing, times, is_between, after}
use Rattle.dm_law_mirror.proofs.Names.{after_line, moved, at_machine, outcome, Run, Placed, Mirrors, placed_step, StepNeeds, KernelState, AllOwnStand, KernelStands, KnownStands, HereStands, RoomStands, AllRecords, TokensStand, room_of}
use Rattle.dm_law_mirror.proofs.Names.{slice_get, Asker, Outcome, manager_request, moved_answer, MoveNote, bag_answered, plain_note, ends_move, without_note, Part, tells_asker, LeftStands, is_due_piece}
use Rattle.dm_onekernel.specs.Service as service
use Rattle.dm_onekernel.specs.Step as kernel
use Rattle.dm_law_rule.specs.Parts as rule
use Rattle.dm_law_rule.specs.Migrating as migrating
use Rattle.dm_law_places.specs.PlacedStep.{with_sent}
use Rattle.dm_kernel.specs.State as machine
use Rattle.dm_law_mirror.proofs.Kernel.Sets.{after_label, label_mirrors, off_if, on_if}
use Rattle.dm_law_mirror.proofs.Turning.{NoneEnds, Elsewhere, First, is_elsewhere, Nothing, TurnsAt, begun, has_process}
use Rattle.dm_law_mirror.proofs.Handle.Taking.{fresh_at, map_same, sent_there, some_same, stands_set}
use Rattle.dm_law_mirror.proofs.Handle.Rows.{standing_begun}
use Rattle.dm_law_mirror.proofs.Leave.Fronts.{tokens_one}
use Rattle.dm_law_mirror.proofs.Rooms.{taken_same}
use Rattle.dm_law_mirror.proofs.Turning.{is_elsewhere}
use Rattle.dm_law_mirror.proofs.LeftOver.{left_asks}
use Rattle.dm_kernel.specs.Departing as departing_
use Rattle.dm_law_mirror.proofs.Residents.{ProcessHere, asked_apart, process_here, same_manager}
use Rattle.dm_law_mirror.proofs.Names.{Resident, List}

-- the point behind a line that changes what was seen alone
abbrev pub with_view : Point → View → Point
with_view pt v = record { kernel = pt.kernel; view = v; addresses = pt.addresses }

-- nobody asked for it
tells_none : (here : ℕ) (r : Resident) (o : Outcome) → departing_.tells_of here r o None ≡ []
tells_none here (Resident.Process x) o = refl
tells_none here (Resident.Board v) o = refl
tells_none here (Resident.Manager g) o = refl

-- a turn of machine m in which the move of p ends, by this line: what it comes to before whoever asked for it is told
pub record EndsMove (b : Boot) (m : ℕ) (pt : Point) (l : Placed) (records : AllRecords) (k : KernelState) (p : Pid) (line : Line) (state : KernelState) (v : View) (placed : Placed) : Type 0 where
  pub run : Run b pt
  pub said : after_line (begun pt m) line ≡ Some (with_view pt v)
  pub mirrors : Mirrors pt.kernel v pt.addresses placed
  pub kernel : KernelStands b (with_view pt v) placed m state
  pub sent : k.sent ≡ pt.view.count m → state.sent ≡ v.count m
  pub over : state.over ≡ k.over
  pub elsewhere : Elsewhere m (begun pt m) l (with_view pt v) placed
  pub own : AllOwnStand v placed
  pub tokens : TokensStand v placed (at_machine records m state.records)
  -- it is here now, and no other machine has it
  pub resident : Resident
  pub is : state.records p ≡ Some (Record.Here resident)
  pub known : v.known m p ≡ Here
  pub alone : (n : ℕ) → n ≢ m → has_process (pt.view.known n p) ≡ false
  -- what stands stood before, and of its migration only what is left over
  pub stood : (i : MsgId) (z : Spot) → 1 ≤ standing v i z → (y : Spot) × (1 ≤ standing pt.view i y)
  pub left : (i : MsgId) (t : Told) (z : Spot) → v.told i ≡ Some t → is_between t.kind ≡ true → t.about ≡ Of p → 1 ≤ standing v i z → (is_due_piece v p i t ≡ false) × LeftStands placed p i

module _ (b : Boot) (m : ℕ) (pt : Point) (l : Placed) (records : AllRecords) (k : KernelState) (p : Pid) (line : Line) (state : KernelState) (v : View) (placed : Placed)
    (h : EndsMove b m pt l records k p line state v placed) where
  -- nobody asked
  ends_alone : turns b k k.inbox ≡ Some (record { state = state; parts = Part.Says line ∷ [] }) → outcome b pt (Step.Turn m) ≡ Some (rule.Says line ∷ [])
      → TurnsAt b m pt l records k
  ends_alone turns due = record {
    state = state;
    says = line ∷ [];
    routes = [];
    late = Nothing;
    turn = turns;
    outcome = due;
    next = with_view pt v;
    after = ap (λ (q : Option Point). bind q (λ (n : Point). after n [])) h.said;
    placed = placed;
    mirrors = h.mirrors;
    kernel = h.kernel;
    sent = λ e. h.sent e ∙ (let f : (n : ℕ) → n ≡ n + 0 = λ n. omega arith in f (v.count m));
    over = NoneEnds h.over (λ q. refl);
    topic = tt;
    elsewhere = h.elsewhere;
    may = tt;
    late_may = tt;
    own = h.own;
    tokens = h.tokens;
  }

  -- another process than this one
  elsewhere_only : (w : ℕ) (q : Pid) → w ≢ m → has_process (pt.view.known w q) ≡ true → pid_eq p q ≡ false
  elsewhere_only w q off has = elim (cases_Bool (pid_eq p q)) [
    | inl is ↦ absurd (false≢true (sym (h.alone w off) ∙ ap (λ (z : Pid). has_process (pt.view.known w z)) (pid_eq-is p q is) ∙ has))
    | inr out ↦ out
  ]

  -- as what stands there
  mine : HereStands placed p (v.queue m p) h.resident
  mine =
      subst (λ (r : Option machine.KernelKnown). KnownStands placed p (v.queue m p) (v.held m p) Here r) h.is
      (subst (λ (w : Known). KnownStands placed p (v.queue m p) (v.held m p) w (state.records p)) h.known (h.kernel.known p))

  -- somebody did, and it is a process
  ends_asked : (o : Outcome) (n : Asker) (c : ProcessHere placed p (v.queue m p) h.resident) → placed.notes p ≡ Some n
      → service.ends_move pt.kernel (manager_request n) p (plain_note n) o ≡ Some (service.move_ended pt.kernel (manager_request n) p (plain_note n) o)
      → turns b k k.inbox ≡ Some (record { state = state; parts = Part.Says line ∷ tells_asker m c.process o (Some n) })
      → outcome b pt (Step.Turn m) ≡ Some (rule.Says line ∷ migrating.answers_move (manager_request n) o) → TurnsAt b m pt l records k
  ends_asked o n c notes ends turns due =
      let s = pt.kernel in
      let mid = with_view pt v in
      let note : MoveNote = plain_note n in
      let id : MsgId = manager_request n in
      let e = Label.Answered id o in
      let t : OneKernel = service.move_ended s id p note o in
      let a : Message = moved_answer m c.process o n in
      let on : Placed = with_sent (without_note placed p id) (Some a) in
      let next = moved mid (Line.Label e) t in
      let sane = h.run.based.phased.sane in
      let is_note : s.notes p ≡ Some note = sym (h.mirrors.plain.notes p) ∙ ap (option_map plain_note) notes in
      let noted : s.noted id ≡ Some p = sane.sound.notes.noted p note is_note in
      let step : kernel.step s e ≡ Some t =
      ap (λ (q : Option Pid). bind q (λ (r : Pid). bind (s.notes r) (λ (w : MoveNote). service.ends_move s id r w o))) noted
      ∙ ap (λ (q : Option MoveNote). bind q (λ (w : MoveNote). service.ends_move s id p w o)) is_note ∙ ends in
      let bag = bag_answered sane.r sane.e s t id o step sane.sound in
      let free : s.bag a.id ≡ None = bag_none sane.r sane.e s (answer_id id) (bag.fresh (answer_id id) refl) sane.sound.entered in
      let there : placed.processes p ≡ Some (record c.process { queue = c.waits }) = c.there in
      let needs : StepNeeds s v e = λ q w noted_ notes_. (
      let f = sane.sound.notes.follows id q noted_ in
      let same : f.0 ≡ w = some_same f.0 w (sym f.1 ∙ notes_) in
      let x = sane.sound.notes.lives q w notes_ in
      (x.0, sym (ap (λ (z : MoveNote). z.id) same) ∙ f.2, ap kernel.alive x.1)) in
      let placed_is : placed_step m s.format s.images placed e ≡ Some on =
      ap (λ (q : Option Pid). bind q (λ (r : Pid). ends_move m placed id r o)) (h.mirrors.plain.noted id ∙ noted)
      ∙ ap (λ (q : Option Asker). bind q (λ (w : Asker). bind (placed.processes p) (λ (y : Process). Some (with_sent (without_note placed p id) (Some (moved_answer m y o w)))))) notes
      ∙ ap (λ (q : Option Process). bind q (λ (y : Process). Some (with_sent (without_note placed p id) (Some (moved_answer m y o n))))) there in
      let apart : (j : MsgId) (z : Spot) → 1 ≤ standing pt.view j z → id_eq a.id j ≡ false = λ j z least. fresh_at b pt z a.id j h.run free refl least in
      let same : (j : MsgId) (z : Spot) → 1 ≤ standing v j z → on.bag j ≡ placed.bag j =
      λ j z least. (let f = h.stood j z least in off_if (id_eq a.id j) (Some a) (placed.bag j) (apart j f.0 f.1)) in
      let others : (q : Pid) → pid_eq p q ≡ false → on.notes q ≡ placed.notes q = λ q off. off_if (pid_eq p q) None (placed.notes q) off in
      let here : KnownStands on p (v.queue m p) (v.held m p) (v.known m p) (state.records p) =
      subst (λ (w : Known). KnownStands on p (v.queue m p) (v.held m p) w (state.records p)) (sym h.known)
      (subst (KnownStands on p (v.queue m p) (v.held m p) Here) (sym h.is)
      ((mine.0.0, mine.0.1), map_same placed.bag on.bag (v.queue m p) (λ j least. same j (Queue m p) least) ∙ mine.1)) in
      let queues : (q : Pid) (j : MsgId) → pid_eq p q ≡ false → 1 ≤ times j (v.queue m q) → on.bag j ≡ placed.bag j =
      λ q j off least. same j (Queue m q) least in
      let holds : (q : Pid) (j : MsgId) → pid_eq p q ≡ false → 1 ≤ times j (v.held m q) → on.bag j ≡ placed.bag j = λ q j off least. same j (Held m q) least in
      let g = h.elsewhere in
      record {
        state = state;
        says = line ∷ Line.Label e ∷ [];
        routes = First a ∷ [];
        late = Nothing;
        turn = turns;
        outcome = due;
        next = next;
        after = ap (λ (q : Option Point). bind q (λ (w : Point). after w (Line.Label e ∷ []))) h.said ∙ after_label mid e t [] next step refl;
        placed = on;
        mirrors = label_mirrors mid placed on m e t h.mirrors g.acting needs step placed_is;
        kernel = stands_set b mid next placed on m state state p (search (others, queues, holds, same_manager placed on refl, here)) h.kernel h.kernel.ring
            (map_same placed.bag on.bag (v.inbox m) (λ j least. same j (Inbox m) least) ∙ h.kernel.inbox) h.kernel.made
            (subst (RoomStands state.room (room_of (slice_get b.machines m))) (sym (taken_same mid next m refl (λ w. refl) (λ q. refl))) h.kernel.room) h.kernel.preds;
        sent = λ f. h.sent f ∙ (let z : (w : ℕ) → w ≡ w + 0 = λ w. omega arith in z (v.count m));
        over = NoneEnds h.over (λ q. refl);
        topic = tt;
        elsewhere = search (
          g,
          λ (w : ℕ) (q : Pid) (off : w ≢ m) (has : has_process (pt.view.known w q) ≡ true). others q (elsewhere_only w q off has) ∙ g.notes w q off has,
          λ (j : MsgId) (z : Spot) (away : is_elsewhere m z ≡ true) (least : 1 ≤ standing (begun pt m).view j z).
              off_if (id_eq a.id j) (Some a) (placed.bag j) (apart j z (subst (λ (w : ℕ). 1 ≤ w) (standing_begun pt m j z) least)) ∙ g.bag j z away least,
        );
        may = ((sent_there (without_note placed p id) a, refl), tt);
        late_may = tt;
        own = λ i x found plain. elim (cases_Bool (id_eq a.id i)) [
          | inl is ↦ absurd (let f : a ≡ x = some_same a x (sym (on_if (id_eq a.id i) (Some a) (placed.bag i) is) ∙ found) in let z = ap plain_message f ∙ plain in cc)
          | inr out ↦ h.own i x (sym (off_if (id_eq a.id i) (Some a) (placed.bag i) out) ∙ found) plain
        ];
        tokens = tokens_one v next.view placed on (at_machine records m state.records) (at_machine records m state.records) p
            (record {
              stays = record { told = refl; asked = λ q off. refl; residents = λ q off. refl; notes = others; records = λ w q off. refl; known = λ w q off. refl };
              came = λ i u z told between least. ((z, least), same i z least);
              left = λ i u z told between about least. (let x = h.left i u z told between about least in (x.0, left_asks placed on p i x.1 refl (same i z least ∙ x.1.is)));
            }) h.tokens;
      }

  -- by who waits to hear
  pub ends_move_row : (o : Outcome) (asker : Option Asker) → placed.notes p ≡ asker
      → ((n : MoveNote) → service.ends_move pt.kernel n.id p n o ≡ Some (service.move_ended pt.kernel n.id p n o))
      → turns b k k.inbox ≡ Some (record { state = state; parts = Part.Says line ∷ departing_.tells_of m h.resident o asker })
      → outcome b pt (Step.Turn m) ≡ Some (rule.Says line ∷ migrating.tells_asker (pt.kernel.notes p) o) → TurnsAt b m pt l records k
  ends_move_row o None notes ends turns due =
      let free : pt.kernel.notes p ≡ None = sym (h.mirrors.plain.notes p) ∙ ap (option_map plain_note) notes in
      ends_alone (turns ∙ ap (λ (ps : List Part). Some (record { state = state; parts = Part.Says line ∷ ps })) (tells_none m h.resident o)) (due ∙ ap (λ (q : Option MoveNote). Some (rule.Says line ∷ migrating.tells_asker q o)) free)
  ends_move_row o (Some n) notes ends turns due =
      let is_note : pt.kernel.notes p ≡ Some (plain_note n) = sym (h.mirrors.plain.notes p) ∙ ap (option_map plain_note) notes in
      let c = process_here placed p (v.queue m p) h.resident (asked_apart b pt p (plain_note n) h.run is_note) mine in
      ends_asked o n c notes (ends (plain_note n)) (turns ∙ ap (λ (r : Resident). Some (record { state = state; parts = Part.Says line ∷ departing_.tells_of m r o (Some n) })) c.is) (due ∙ ap (λ (q : Option MoveNote). Some (rule.Says line ∷ migrating.tells_asker q o)) is_note)
