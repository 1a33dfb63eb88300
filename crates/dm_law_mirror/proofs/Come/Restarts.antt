-- What has come goes on: it is here, a process at the ring's back, and what was held for it comes before the inbox.
use Rattle.dm_law_mirror.proofs.Names.{takes_room, ◌≡◌, ◌≢◌, ℕ, ◌+◌, ◌≤◌, ◌==◌, Bool, true, false, List, [], ◌∷◌, ◌++◌, length, map, refl, ap, ◌∙◌, sym, subst, inl, inr, arith, if◌then◌else◌, Option, Some, cases_Bool, nat_tests}
use Rattle.dm_law_mirror.proofs.Names.{false≢true, Pid, pid_eq, Message, MsgId, What, Record, Line, Stage, MessageKind, kind_of, incoming_of, with_record, Nothing, Boot, bind, pid_eq-is, pid_eq-same, told_step, Moves, is_early}
use Rattle.dm_law_mirror.proofs.Names.{knows, Point, moved, fits, free_room, at_machine, Spot, Held, Inbox, standing, times, Known, Here, Of, View, once_at, times-append, has_no_queue, Placed, mirrors_view}
use Rattle.dm_law_mirror.proofs.Names.{restarts, restarts_as, kernel_handles, KernelState, AreMessages, KnownStands, AllRecords, Carries, least_of, at_record_at, Outcome, Arrival, Told, is_between, sort_of, drop, Cargo, LeftStands}
use Rattle.dm_law_mirror.proofs.Names.{is_due_piece, pulls_piece}
use Rattle.dm_law_rule.proofs.Names.{Part}
use Rattle.dm_law_mirror.proofs.Leave.Answered.{EndsMove, ends_move_row}
use Rattle.dm_law_mirror.proofs.Come.Frames.{Arrives, Comes, arrives, own_once}
use Rattle.dm_law_mirror.proofs.Come.Turns.{come_view, eq_off, fewer, gone, machine_self}
use Rattle.dm_law_mirror.proofs.Rooms.{taken_same}
use Rattle.dm_law_mirror.proofs.Turning.{TurnsAt, begun, has_process}
use Rattle.dm_law_mirror.proofs.Leave.Stays.{messages_append as are_both}
use Rattle.dm_law_mirror.proofs.Come.Pieces.{first_gone, known_incoming, outcome_kernel, turn_kernel, before}
use Rattle.dm_law_mirror.proofs.Handle.Taking.{machine_off, record_off as record_away, record_others, stands_set}
use Rattle.dm_law_mirror.proofs.Leave.Asks.{room_stays, taken_at_record}
use Rattle.dm_law_mirror.proofs.Leave.Fronts.{records_as, tokens_one}
use Rattle.dm_resident.specs.Residents as residents
use Rattle.dm_kernel.specs.Departing as departing_
use Rattle.dm_law_rule.specs.View as view
use Rattle.dm_law_mirror.proofs.Come.Moved.{came_on, not_over, with_resident}
use Rattle.dm_law_mirror.proofs.Residents.{ring_is}
use Rattle.dm_law_mirror.proofs.Sized.{size_at}
use Rattle.dm_law_mirror.proofs.Names.{HereStands, Resident, resident_at, restarted}
use Rattle.dm_kernel.specs.declared.part.Part.TheVariants as part
use Rattle.dm_kernel.specs.State as machine
use Rattle.dm_law_rule.specs.Migrating as migrating
use Rattle.dm_law_mirror.proofs.Cargoes.{comes_again}
use Rattle.dm_law_mirror.proofs.Handle.Taking.{some_same}
use Rattle.dm_law_mirror.proofs.LeftOver.{brings_on, left_keeps, left_told, over_is, piece_only, record_apart, record_kept, still_over}

abbrev pub back_point : Point → ℕ → Pid → Point
back_point pt m p = moved (begun pt m) (Line.Migration Stage.Restarted p) pt.kernel

set_off : {X : Type 0} (f : Pid → X) (p q : Pid) (x : X) → pid_eq p q ≡ false → (if pid_eq p q then x else f q) ≡ f q
set_off f p q x off = ap (λ (d : Bool). if d then x else f q) off

set_self : {X : Type 0} (f : Pid → X) (p : Pid) (x : X) → (if pid_eq p p then x else f p) ≡ x
set_self f p x = ap (λ (d : Bool). if d then x else f p) (pid_eq-same p)

elsewhere_by : (s d n : ℕ) (i : Option MsgId) (k : Known) (at_source at_destination : Bool) → (s == n) ≡ at_source → (d == n) ≡ at_destination → at_destination ≡ false → knows (Moves MessageKind.Restart s d i) n k ≡ true → has_process k ≡ false
elsewhere_by s d n i k at_source at_destination e f off h = grind (arith, nat_tests)

not_elsewhere : (b : Boot) (m : ℕ) (pt : Point) (l : Placed) (k : KernelState) (y : Message) (p : Pid) (a : Arrives b m pt l k y p) (n : ℕ) → kind_of y.what ≡ MessageKind.Restart → n ≢ m → has_process (pt.view.known n p) ≡ false
not_elsewhere b m pt l k y p a n is apart = grind (arith, nat_tests, elsewhere_by, eq_off)

held_fewer : (v : View) (m n : ℕ) (p q : Pid) (j : MsgId) (d : Bool) → times j (if d then [] else v.held n q) ≤ times j (v.held n q)
held_fewer v m n p q j d = grind (arith, nat_tests)

inbox_back : (v : View) (m n : ℕ) (p : Pid) (j : MsgId) (d : Bool) → (m == n) ≡ d
    → times j (if d then v.held m p ++ at_machine v.inbox m (drop 1 (v.inbox m)) m else at_machine v.inbox m (drop 1 (v.inbox m)) n) ≤ times j (at_machine v.inbox m (drop 1 (v.inbox m)) n) + times j (v.held m p)
inbox_back v m n p j d e = grind (arith, nat_tests, times-append, machine_self)

back_standing : (pt : Point) (m : ℕ) (p : Pid) (j : MsgId) (z : Spot)
    → standing (back_point pt m p).view j z ≤ standing (come_view pt.view m p (drop 1 (pt.view.inbox m)) pt.view.known pt.view.asked pt.view.come pt.view.preds) j z + standing pt.view j (Held m p)
back_standing pt m p j z = grind (arith, nat_tests, held_fewer, inbox_back)

-- what stands then stood before, and no message of its migration stands
back_stood : (b : Boot) (m : ℕ) (pt : Point) (l : Placed) (records : AllRecords) (k : KernelState) (y : Message) (p : Pid) (c : Comes b m pt l records k y p) (i : MsgId) (z : Spot)
    → 1 ≤ standing (back_point pt m p).view i z → (x : Spot) × (1 ≤ standing pt.view i x)
back_stood b m pt l records k y p c i z st =
    let v = pt.view in
    let box = drop 1 (v.inbox m) in
    elim (least_of (standing (come_view v m p box v.known v.asked v.come v.preds) i z) (standing v i (Held m p)) (omega (arith, back_standing pt m p i z, st))) [
      | inl e ↦ (z, (let f = fewer v m p c.ids box v.known v.asked v.come v.preds y.id i z c.box (first_gone y.id c.ids (v.inbox m) c.box) in omega (arith, e, f)))
      | inr e ↦ (Held m p, e)
    ]

-- of its migrations only pieces that are left over stand then
left_back : (b : Boot) (m : ℕ) (pt : Point) (l placed : Placed) (records : AllRecords) (k : KernelState) (y : Message) (p : Pid) (c : Comes b m pt l records k y p) (a : Arrives b m pt l k y p) (i : MsgId) (t : Told) (z : Spot)
    → pt.view.told i ≡ Some t → is_between t.kind ≡ true → t.about ≡ Of p → 1 ≤ standing (back_point pt m p).view i z → placed.bag i ≡ l.bag i → (is_due_piece (back_point pt m p).view p i t ≡ false) × LeftStands placed p i
left_back b m pt l placed records k y p c a i t z told between about st bag =
    let v = pt.view in
    let box = drop 1 (v.inbox m) in
    let (where_, least) = back_stood b m pt l records k y p c i z st in
    elim (a.phase.alone i t where_ told between about least) [
      | inl mine ↦
          let is : y.id ≡ i = some_same y.id i mine in
          let one = once_at (standing v y.id) (Inbox m) (own_once b pt y.id (Inbox m) c.run a.unplain a.mine a.first) a.first in
          let none : standing (come_view v m p box v.known v.asked v.come v.preds) i z ≡ 0 =
          ap (λ (j : MsgId). standing (come_view v m p box v.known v.asked v.come v.preds) j z) (sym is) ∙ gone v m p c.ids box v.known v.asked v.come v.preds y.id z c.box (first_gone y.id c.ids (v.inbox m) c.box) one.0 one.1 in
          let held : standing v i (Held m p) ≡ 0 = ap (λ (j : MsgId). standing v j (Held m p)) (sym is) ∙ one.1 (Held m p) (λ x. cc) in
          absurd (omega (arith, back_standing pt m p i z, none, held, st))
      | inr left ↦
          let off = over_is v p (Moves (kind_of y.what) a.source m (Some y.id)) i t a.phase left in
          let was = (c.tokens p i t where_ told between about least).1 off in
          let brings = piece_only v p (kind_of y.what) a.source m (Some y.id) i t a.on left in (
            still_over v (back_point pt m p).view p i t off (λ n from waits. record_kept v.known m p p Here (λ d. refl) n from waits),
            left_keeps l placed p i was
                (λ asks. absurd (false≢true (sym (brings_on t.kind brings).2 ∙ ap (λ (u : Told). pulls_piece (sort_of u.kind)) (left_told v l p i t was c.own told) ∙ asks))) (bag ∙ was.is),
          )
    ]

-- nothing waits for what has come
moved_none : (r : Resident) → residents.moved r ≡ residents.with_queue [] (residents.moved r)
moved_none (Resident.Process x) = refl
moved_none (Resident.Board v) = refl
moved_none (Resident.Manager g) = refl

none_waits : (r : Resident) → [] ≡ residents.queue_of (residents.moved r)
none_waits (Resident.Process x) = refl
none_waits (Resident.Board v) = refl
none_waits (Resident.Manager g) = refl

pub turns_restart : (b : Boot) (m : ℕ) (pt : Point) (l : Placed) (records : AllRecords) (k : KernelState) (y : Message) (p : Pid) (q : Pid) → Comes b m pt l records k y p → y.what ≡ What.Restart q → TurnsAt b m pt l records k
turns_restart b m pt l records k y p q c e =
    let v = pt.view in
    let a = arrives b m pt l records k y p c in
    let r = a.resident in
    let y_ = residents.moved r in
    let s = record k { inbox = c.rest } in
    let carried = subst (λ (w : What). Carries p a.cargo (v.asked p) (incoming_of (k.records p)) w) e a.carries in
    let is : kind_of y.what ≡ MessageKind.Restart = ap kind_of e in
    let late : is_early (kind_of y.what) ≡ false = ap is_early is in
    let h = before b m pt l records k y p c a Nothing late carried.1 in
    let incoming = known_incoming b m pt l k y p a late in
    let state : KernelState = record s { records = with_record k.records p (Record.Here y_); ring = machine.ring_with k.ring p y_; inbox = h.arrival.held ++ c.rest } in
    let next = back_point pt m p in
    let came = came_on b pt (begun pt m) l p r c.run c.mirrors (mirrors_view pt.kernel v (begun pt m).view pt.addresses l refl c.mirrors) a.is_resident in
    let placed = with_resident l p y_ in
    let front = at_machine v.inbox m (drop 1 (v.inbox m)) in
    let stands = c.stands in
    let there : state.records p ≡ Some (Record.Here y_) = set_self k.records p (Some (Record.Here y_)) in
    let others : (q : Pid) → pid_eq p q ≡ false → state.records q ≡ k.records q = λ q off. set_off k.records p q (Some (Record.Here y_)) off in
    let here : HereStands placed p (v.queue m p) y_ =
    (([], came.here ∙ ap Some (moved_none r)), ap (map l.bag) (c.run.based.lists.queue m p (ap has_no_queue incoming) (not_over b pt l p r c.run c.mirrors a.is_resident)) ∙ ap (map Some) (none_waits r)) in
    let mine : KnownStands placed p (v.queue m p) (next.view.held m p) (next.view.known m p) (state.records p) =
    subst (KnownStands placed p (v.queue m p) (next.view.held m p) (next.view.known m p)) (sym there)
    (subst (λ (n : Known). KnownStands placed p (v.queue m p) (next.view.held m p) n (Some (Record.Here y_))) (sym (at_record_at v.known m p Here)) here) in
    let boxes : (n : ℕ) → n ≢ m → at_machine front m (v.held m p ++ front m) n ≡ v.inbox n = λ n off. machine_off front m n (v.held m p ++ front m) off ∙ machine_off v.inbox m n (drop 1 (v.inbox m)) off in
    let elsewhere_ : (n : ℕ) (q : Pid) → n ≢ m → has_process (v.known n q) ≡ true → resident_at placed q ≡ resident_at l q = λ n q off has. elim (cases_Bool (pid_eq p q)) [
      | inl same ↦ absurd (false≢true (sym (not_elsewhere b m pt l k y p a n is off) ∙ ap (λ (z : Pid). has_process (v.known n z)) (pid_eq-is p q same) ∙ has))
      | inr apart ↦ came.others q apart
    ] in
    let line = Line.Migration Stage.Restarted p in
    let machines : length b.machines ≡ l.manager.machines = sym c.run.based.machines ∙ sym c.mirrors.plain.machines in
    let images : length b.images ≡ l.manager.images = sym (ap length c.run.based.images) ∙ sym c.mirrors.plain.images in
    let asker : h.arrival.asker ≡ l.notes p = ap (λ (z : Arrival). z.asker) h.pieces ∙ ap (λ (z : Cargo). z.asker) (sym a.is_cargo) in
    -- where messages stand then
    let back_box : v.held m p ++ at_machine v.inbox m (drop 1 (v.inbox m)) m ≡ v.held m p ++ c.ids = ap (λ (xs : List MsgId). v.held m p ++ xs) (machine_self v.inbox m (drop 1 (v.inbox m)) ∙ first_gone y.id c.ids (v.inbox m) c.box) in
    let ends : EndsMove b m pt l records k p line state next.view placed = record {
      run = c.run;
      said = refl;
      mirrors = came.mirrors;
      kernel = stands_set b pt next l placed m k state p (search (others, came.others, came.system, record_others, mine)) stands
          (ap (λ ring. machine.ring_with ring p y_) stands.ring ∙ ring_is placed p (v.queue m p) (v.ring m) y_ here ∙ sym (machine_self v.ring m (view.ring_with (v.ring m) p)))
          (subst (λ (is : List MsgId). AreMessages l.bag is (h.arrival.held ++ c.rest)) (sym (machine_self front m (v.held m p ++ front m) ∙ back_box))
          (are_both l.bag (v.held m p) c.ids h.arrival.held c.rest h.comes_.held c.others))
          stands.made (room_stays k.room _ _ _ (taken_same pt next m refl (λ n. refl) (λ q. taken_at_record pt next m p q Here refl refl (sym (ap takes_room incoming)))) stands.room) stands.preds;
      sent = λ count. count;
      over = refl;
      elsewhere = search (boxes, machine_off, record_away, elsewhere_, came.system);
      own = λ i z f plain. let g = c.own i z f plain in record { told = g.told; mine = g.mine; sender = g.sender };
      tokens = tokens_one v next.view l placed records (at_machine records m state.records) p (record {
        stays = record {
          told = refl;
          asked = λ r off. refl;
          residents = came.others;
          notes = λ r off. refl;
          records = λ n r off. records_as records m n k.records state.records r c.mine (others r off);
          known = λ n r off. record_apart v.known m n p r Here off;
        };
        came = λ i t z told between st. (back_stood b m pt l records k y p c i z st, refl);
        left = λ i t z told between about st. left_back b m pt l placed records k y p c a i t z told between about st refl;
      }) c.tokens;
      resident = y_;
      is = there;
      known = at_record_at v.known m p Here;
      alone = λ n off. not_elsewhere b m pt l k y p a n is off;
      stood = back_stood b m pt l records k y p c;
      left = λ i t z told between about st. left_back b m pt l placed records k y p c a i t z told between about st refl;
    } in
    ends_move_row b m pt l records k p line state next.view placed ends Outcome.Done (l.notes p) refl (λ n. refl)
    (turn_kernel b m pt l records k y p c a (Some (record { state = state; parts = part.Says line ∷ departing_.tells_of m y_ Outcome.Done (l.notes p) }))
    (ap (kernel_handles b s y) e ∙ ap (λ (z : Pid). bind (incoming_of (k.records z)) (restarts b s z)) carried.0
    ∙ ap (λ (o : Option machine.KernelKnown). bind (incoming_of o) (restarts b s p)) h.is
    ∙ (λ i. restarts_as s p h.arrival (restarted (machines i) (images i) h.arrival))
    ∙ ap (restarts_as s p h.arrival) (comes_again l p a.source (v.held m p) h.arrival r a.is_resident (ap (λ (z : Arrival). z.wanted) h.pieces) h.comes_)
    ∙ (λ i. Some (record { state = state; parts = part.Says line ∷ departing_.tells_of (stands.here i) y_ Outcome.Done (asker i) }))))
    (outcome_kernel b m pt l records k y p c a (Some (Part.Says line ∷ migrating.tells_asker (pt.kernel.notes p) Outcome.Done))
    (ap (λ (k : MessageKind). told_step pt m y.id p (fits (free_room b pt m) (size_at r).blocks) (size_at r) (sort_of k)) is))
