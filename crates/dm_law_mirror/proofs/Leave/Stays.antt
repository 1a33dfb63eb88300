-- What was to leave stays: it is served again, and what was held comes before the inbox.
use Rattle.dm_law_mirror.proofs.Names.{◌≡◌, ◌≢◌, ◌⊎◌, ℕ, ◌≤◌, Bool, true, false, List, [], ◌∷◌, ◌++◌, map, nat_le, refl, ap, ◌∙◌, sym, subst, inl, inr, arith, if◌then◌else◌, Option, Some, nat_tests, Pid, pid_eq, Message, MsgId, What}
use Rattle.dm_law_mirror.proofs.Names.{MessageKind, Record, Line, frozen_of, with_record, Boot, bind, stays, KernelState, pid_eq-same, Point, moved, takes_room, at_machine, times, Here, Known, times-append, Placed, mirrors_view, told_of}
use Rattle.dm_law_mirror.proofs.Names.{AreMessages, KnownStands, AllRecords, ◌==◌, Moves, is_between, knows, Of, turned, Outcome, drop, kernel_handles, kernel_hears, kind_comes, kind_of, about_of}
use Rattle.dm_law_mirror.proofs.Names.{tells_onward, is_restart, sort_of, told_step, fits, free_room, length, is_piece, is_waited_from, ◌<◌, option_and_then, slice_get, with_pred, at_record, calls_back}
use Rattle.dm_law_mirror.proofs.Names.{front_of, front_told, is_calloff, with_caller, PredsStand}
use Rattle.dm_law_mirror.proofs.Leave.Answered.{ends_move_row}
use Rattle.dm_law_mirror.proofs.Rooms.{taken_same}
use Rattle.dm_law_mirror.proofs.Leave.Fronts.{FrontGone, Hearing, leaving, leaving_left, outcome_hears, stood, turn_hears, records_as, to_kernel, to_kernel_hears, own_stays, tokens_one}
use Rattle.dm_law_mirror.proofs.Leave.Asks.{room_stays, taken_at_record, departing, kernel_number, leaves_alive}
use Rattle.dm_law_mirror.proofs.Turning.{TurnsAt, begun, has_process}
use Rattle.dm_law_mirror.proofs.Handle.Taking.{eq_off, machine_self, machine_off, record_self, record_off, record_others, stands_set}
use Rattle.dm_kernel.specs.declared.part.Part as part
use Rattle.dm_kernel.specs.State as machine
use Rattle.dm_law_rule.specs.Migrating as migrating
use Rattle.dm_law_rule.specs.Parts as rule
use Rattle.dm_law_mirror.proofs.Cargoes.{waits_for}
use Rattle.dm_law_mirror.proofs.Leave.Asks.{between_goes_on, no_piece}
use Rattle.dm_law_mirror.proofs.LeftOver.{plainly_due, record_apart, record_kept}
use Rattle.dm_law_mirror.proofs.Preds.{added_stand, uncalled_stand}
use Rattle.dm_kernel.specs.Departing as departing_
use Rattle.dm_law_rule.specs.Migrating.{Size}
use Rattle.dm_law_rule.specs.View as view
use Rattle.dm_law_mirror.proofs.Residents.{ring_is, same_system}
use Rattle.dm_law_mirror.proofs.Sized.{here_sized, size_at}

-- messages of two lists, one after the other
pub messages_append : (bag : MsgId → Option Message) (is js : List MsgId) (ms ns : List Message) → AreMessages bag is ms → AreMessages bag js ns → AreMessages bag (is ++ js) (ms ++ ns)
messages_append bag [] js [] ns e f = f
messages_append bag [] js (m ∷ ms) ns e f = cc
messages_append bag (i ∷ is) js [] ns e f = cc
messages_append bag (i ∷ is) js (m ∷ ms) ns e f =
    let first : bag i ≡ Some m = cc in
    let more : map bag is ≡ map Some ms = cc in
    λ c. first c ∷ (messages_append bag is js ms ns more f) c

-- what stands in two lists stands in one of them
pub in_one : (j : MsgId) (is js : List MsgId) → 1 ≤ times j (is ++ js) → (1 ≤ times j js) ⊎ (1 ≤ times j is)
in_one j is js least = grind (arith, nat_tests, nat_le, times-append)

away_by : (m d n : ℕ) (c : MessageKind) (i : Option MsgId) (k : Known) (at_source at_destination : Bool) → (m == n) ≡ at_source → (d == n) ≡ at_destination → at_source ≡ false → (kind_comes c m k ≡ true → has_process k ≡ false) → knows (Moves c m d i) n k ≡ true → has_process k ≡ false
away_by m d n c i k at_source at_destination e f off comes h = grind (arith, nat_tests)

-- a message that ends a move with what moves staying
pub record EndsStaying (b : Boot) (p : Pid) (w : What) : Type 0 where
  pub between : is_between (kind_of w) ≡ true
  pub back : tells_onward (sort_of (kind_of w)) ≡ false
  pub late : is_restart (kind_of w) ≡ false
  pub plain : is_piece (sort_of (kind_of w)) ≡ false
  pub about : about_of w ≡ Of p
  pub away : (m : ℕ) (x : Known) → kind_comes (kind_of w) m x ≡ true → has_process x ≡ false
  -- the machine that called it off is a predecessor from now on
  pub called : Bool
  pub calls : is_calloff (kind_of w) ≡ called
  pub keeps : (Pid → ℕ → Bool) → ℕ → Pid → ℕ → Bool
  pub kept : (said : ℕ → Pid → ℕ → Bool) (preds : Pid → ℕ → Bool) (m n : ℕ) → n < length b.machines → PredsStand b (said m) preds → PredsStand b (at_record said m p (with_caller called n (said m p)) m) (keeps preds n)
  pub turn : (s : KernelState) (y : Message) → kernel_handles b s y w ≡ bind (frozen_of (s.records p)) (stays (record s { preds = keeps s.preds y.id.from.home }) p)
  pub step : (pt : Point) (m : ℕ) (i : MsgId) (room : Bool × ℕ × ℕ) (x : Size) → told_step pt m i p room x (sort_of (kind_of w)) ≡ Some (rule.Says (Line.Stays p) ∷ migrating.tells_asker (pt.kernel.notes p) Outcome.Stayed)

stays_turn : (b : Boot) (m : ℕ) (pt : Point) (l : Placed) (records : AllRecords) (k : KernelState) (y : Message) (p : Pid) (w : What) → EndsStaying b p w → Hearing b m pt l records k (record y { what = w })
    → TurnsAt b m pt l records k
stays_turn b m pt l records k y p w f h =
    let z : Message = record y { what = w } in
    let v = pt.view in
    let s : KernelState = record k { inbox = h.rest } in
    let g = leaving b m pt l records k z p h f.between f.back f.late f.about (plainly_due v p y.id (told_of z) f.plain) in
    let (departure, record_is, stands) = departing b m pt l records k z p h g in
    let x = departure.resident in
    let num = kernel_number m y.to.pid g.receiver in
    let s2 : KernelState = record s { preds = f.keeps s.preds y.id.from.home } in
    let state : KernelState = record s2 { records = with_record s.records p (Record.Here x); ring = machine.ring_with s.ring p x; inbox = departure.held ++ s.inbox } in
    let next : Point = moved (begun pt m) (Line.Stays p) pt.kernel in
    let after_records : AllRecords = at_machine records m state.records in
    let first : List MsgId = at_machine v.inbox m (drop 1 (v.inbox m)) m in
    let first_is : first ≡ h.ids = machine_self v.inbox m (drop 1 (v.inbox m)) ∙ ap (drop 1) h.box in
    let box : next.view.inbox m ≡ v.held m p ++ h.ids = machine_self (at_machine v.inbox m (drop 1 (v.inbox m))) m (v.held m p ++ first) ∙ ap (λ (is : List MsgId). v.held m p ++ is) first_is in
    let box_off : (n : ℕ) → n ≢ m → next.view.inbox n ≡ v.inbox n = λ n off. machine_off (at_machine v.inbox m (drop 1 (v.inbox m))) m n (v.held m p ++ first) off ∙ machine_off v.inbox m n (drop 1 (v.inbox m)) off in
    let gone : FrontGone m h.ids v next.view = record {
      inbox = λ j least. elim (in_one j (v.held m p) h.ids (subst (λ (ids : List MsgId). 1 ≤ times j ids) box least)) [
        | inl more ↦ inl more
        | inr kept ↦ inr (p, kept)
      ];
      others = box_off;
      queue = λ n q j least. least;
      held = λ n q j least. grind (arith, nat_tests);
      pair = λ a c. refl;
    } in
    let here_known : next.view.known m p ≡ Here = record_self v.known m p Here (pid_eq-same p) in
    let here_record : state.records p ≡ Some (Record.Here x) = ap (λ (c : Bool). if c then Some (Record.Here x) else k.records p) (pid_eq-same p) in
    let mine : KnownStands l p (v.queue m p) (next.view.held m p) (next.view.known m p) (state.records p) =
    subst (KnownStands l p (v.queue m p) (next.view.held m p) (next.view.known m p)) (sym here_record)
    (subst (λ (n : Known). KnownStands l p (v.queue m p) (next.view.held m p) n (Some (Record.Here x))) (sym here_known) stands.here) in
    let taken = taken_same pt next m refl (λ n. refl) (λ q. taken_at_record pt next m p q Here refl refl (sym (ap takes_room g.known))) in
    let sets : (q : Pid) → pid_eq p q ≡ false → state.records q ≡ k.records q = λ q off. ap (λ (c : Bool). if c then Some (Record.Here x) else k.records q) off in
    let kept : (n from : ℕ) → is_waited_from from (next.view.known n p) ≡ true → is_waited_from from (v.known n p) ≡ true = λ n from waits. record_kept v.known m p p Here (λ c. refl) n from waits in
    -- who called it off is the front's sender, a machine that there is
    let calls : calls_back (front_told (begun pt m).view) ≡ f.called = ap (λ (xs : List MsgId). calls_back (option_and_then v.told (slice_get xs 0))) h.box ∙ ap calls_back h.told ∙ f.calls in
    let caller : front_of (v.inbox m) ≡ y.id.from.home = ap front_of h.box in
    let there_is : y.id.from.home < length b.machines = subst (λ (n : ℕ). n < length b.machines) (sym (ap (λ (q : Pid). q.home) g.from)) (subst (λ (n : ℕ). g.to < n) h.run.based.machines (h.run.found.frozen_within m g.to p g.known)) in
    let said : ℕ → Pid → ℕ → Bool = at_record v.preds m p (with_caller (calls_back (front_told (begun pt m).view)) (front_of (v.inbox m)) (v.preds m p)) in
    let preds : PredsStand b (said m) state.preds =
    subst (λ (n : ℕ). PredsStand b (at_record v.preds m p (with_caller (calls_back (front_told (begun pt m).view)) n (v.preds m p)) m) state.preds) (sym caller)
    (subst (λ (c : Bool). PredsStand b (at_record v.preds m p (with_caller c y.id.from.home (v.preds m p)) m) state.preds) (sym calls) (f.kept v.preds k.preds m y.id.from.home there_is h.stands.preds)) in
    let away : (n : ℕ) → n ≢ m → has_process (v.known n p) ≡ false =
    λ n off. away_by m g.to n (kind_of w) (Some y.id) (v.known n p) (m == n) (g.to == n) refl refl (eq_off m n off) (f.away m (v.known n p)) (g.phase n) in
    ends_move_row b m pt l records k p (Line.Stays p) state next.view l (record {
      run = h.run;
      said = refl;
      mirrors = mirrors_view pt.kernel v next.view pt.addresses l refl h.mirrors;
      kernel = stands_set b pt next l l m k state p (search (sets, record_others, same_system l, mine)) h.stands
          (ap (λ (ring : List Pid). machine.ring_with ring p x) h.stands.ring ∙ ring_is l p (v.queue m p) (v.ring m) x stands.here ∙ sym (machine_self v.ring m (view.ring_with (v.ring m) p)))
          (ap (map l.bag) box ∙ messages_append l.bag (v.held m p) h.ids departure.held h.rest stands.held h.others)
          h.stands.made (room_stays k.room _ _ _ taken h.stands.room)
          preds;
      sent = λ e. e;
      over = refl;
      elsewhere = search (machine_off, v.ring, record_off, same_system l);
      own = own_stays v next.view l refl h.own;
      tokens = tokens_one v next.view l l records (at_machine records m state.records) p
          (record {
            stays = record {
              told = refl;
              asked = λ q off. refl;
              residents = λ q off. refl;
              notes = λ q off. refl;
              records = λ n q off. records_as records m n k.records state.records q h.records_here (sets q off);
              known = λ n q off. record_apart v.known m n p q Here off;
            };
            came = λ i t spot told between least. (let e = stood m y.id h.ids v next.view i spot h.box gone least in ((e.spot, e.stands), refl));
            left = λ i t spot told between about least. leaving_left b m pt l records k z p h g next.view l gone kept refl i t spot told between about least refl;
          }) h.tokens;
      resident = x;
      is = here_record;
      known = here_known;
      alone = away;
      stood = λ i spot least. (let e = stood m y.id h.ids v next.view i spot h.box gone least in (e.spot, e.stands));
      left = λ i t spot told between about least. leaving_left b m pt l records k z p h g next.view l gone kept refl i t spot told between about least refl;
    }) Outcome.Stayed departure.asker (sym (waits_for l p (v.queue m p) (v.held m p) g.to departure stands)) (λ n. refl)
    (turn_hears b m pt l records k z h (stays s2 p departure) (to_kernel b s z num ∙ f.turn s z ∙ ap (λ (r : Option machine.KernelKnown). bind (frozen_of r) (stays s2 p)) record_is)
    ∙ ap (λ (n : ℕ). turned state (part.Part.Says (Line.Stays p) ∷ departing_.tells_of n x Outcome.Stayed departure.asker)) h.stands.here)
    (outcome_hears b m pt l records k z h (Some (rule.Says (Line.Stays p) ∷ migrating.tells_asker (pt.kernel.notes p) Outcome.Stayed))
    (to_kernel_hears b pt m y.id (told_of z) num
    ∙ ap (kernel_hears b pt m y.id (kind_of w)) f.about
    ∙ leaves_alive b m pt p (size_at x) y.id (kind_of w) (Some (rule.Says (Line.Stays p) ∷ migrating.tells_asker (pt.kernel.notes p) Outcome.Stayed)) (here_sized pt.kernel l p (v.queue m p) x h.mirrors.plain stands.here) (between_goes_on (kind_of w) f.between) (no_piece (kind_of w) f.plain)
    (f.step pt m y.id (fits (free_room b pt m) (size_at x).blocks) (size_at x))))

-- the other machine has refused, or has called it off
pub refuses : (b : Boot) (m : ℕ) (pt : Point) (l : Placed) (records : AllRecords) (k : KernelState) (y : Message) (p : Pid) (slots blocks : ℕ) → Hearing b m pt l records k (record y { what = What.Refuse p slots blocks })
    → TurnsAt b m pt l records k
refuses b m pt l records k y p slots blocks h =
    let away : (m : ℕ) (x : Known) → kind_comes MessageKind.Refuse m x ≡ true → has_process x ≡ false = λ m x e. grind (arith, nat_tests) in
    stays_turn b m pt l records k y p (What.Refuse p slots blocks)
    (record { between = refl; back = refl; late = refl; plain = refl; about = refl; away = away; called = false; calls = refl; keeps = λ preds n. preds; kept = λ said preds m n less. uncalled_stand b said preds m n p; turn = λ s z. refl; step = λ q n i room x. refl }) h

pub called_off : (b : Boot) (m : ℕ) (pt : Point) (l : Placed) (records : AllRecords) (k : KernelState) (y : Message) (p : Pid) → Hearing b m pt l records k (record y { what = What.CallOff p }) → TurnsAt b m pt l records k
called_off b m pt l records k y p h =
    let away : (m : ℕ) (x : Known) → kind_comes MessageKind.CallOff m x ≡ true → has_process x ≡ false = λ m x e. grind (arith, nat_tests) in
    stays_turn b m pt l records k y p (What.CallOff p)
    (record { between = refl; back = refl; late = refl; plain = refl; about = refl; away = away; called = true; calls = refl; keeps = λ preds n. with_pred preds p n; kept = λ said preds m n less. added_stand b said preds m n p less; turn = λ s z. refl; step = λ q n i room x. refl }) h
