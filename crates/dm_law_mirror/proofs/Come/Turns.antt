-- A turn that handles such a message says a line, or two, and answers, or says a line alone; what it leaves as it was.
use Rattle.dm_law_mirror.proofs.Names.{turns, ◌≡◌, ◌≢◌, ℕ, ◌+◌, ◌≤◌, ◌==◌, Bool, true, false, List, [], ◌∷◌, map, refl, ap, ◌∙◌, sym, subst, arith, if◌then◌else◌, slice_get, Option, None, Some, false≢true, nat_tests, Addr, Pid, pid_eq, pid_of}
use Rattle.dm_law_mirror.proofs.Names.{place_of, kernel_at, Message, MsgId, What, id_of, kind_of, plain_what, with_what, Step, incoming_of, Boot, id_eq-same, Line, Addresses, Gets, Receiver, Sender, given, goes_between, own_given, unmoved}
use Rattle.dm_law_mirror.proofs.Names.{to_kernel, is_between, tells_onward, Point, after, outcome, taken_at, at_machine, Spot, Inbox, standing, times, Known, Of, View, once_at, Placed, enclosed, mirrors_view, room_of, KernelState}
use Rattle.dm_law_mirror.proofs.Names.{own, about_of, told_of, KnownStands, RoomStands, AllRecords, Carries, TokensStand, destination_of, eq_is, sort_of, ◌⊎◌, inl, inr, Moves, Told, is_due_piece, PredsStand}
use Rattle.dm_law_rule.proofs.Names.{Part}
pub use Rattle.dm_law_rule.proofs.Lines.{eq_self, at_machine_at as machine_self}
pub use Rattle.dm_law_mirror.proofs.Leave.Answered.{with_view as come_point}
use Rattle.dm_law_mirror.proofs.Come.Frames.{Arrives, Comes, fresh_own, own_once, times_self}
use Rattle.dm_law_mirror.proofs.Turning.{NoneEnds, own_first, IsCarried, MayOwn, Nothing, Own, TurnsAt, begun}
pub use Rattle.dm_law_mirror.proofs.End.Servers.{off as eq_off}
use Rattle.dm_law_mirror.proofs.Handle.Taking.{machine_off, stands_set}
use Rattle.dm_law_mirror.proofs.Leave.Fronts.{records_as, tokens_one, untold_next as next_untold}
use Rattle.dm_kernel.specs.declared.part.Part.TheVariants as part
use Rattle.dm_kernel.specs.declared.part.Part as parts
use Rattle.dm_law_mirror.proofs.Names.{append-nil}
use Rattle.dm_kernel.specs.State as machine
use Rattle.dm_law_mirror.proofs.Handle.Taking.{some_same}
use Rattle.dm_law_mirror.proofs.LeftOver.{over_is}
use Rattle.dm_law_mirror.proofs.Turning.{IsLeftOver}
use Rattle.dm_law_mirror.proofs.Residents.{same_system}
use Rattle.dm_law_mirror.proofs.Names.{◌++◌}

-- the view behind the line: the message is handled, and what is known of p here and of its predecessors, how much of it was asked for, and
-- whether all of it has come, may be new
abbrev pub come_view : View → ℕ → Pid → List MsgId → (ℕ → Pid → Known) → (Pid → ℕ) → (Pid → Bool) → (ℕ → Pid → ℕ → Bool) → View
come_view v m p box known asked come preds = record v { acting = m; groups = v.groups + 1; topic = Of p; inbox = at_machine v.inbox m box; known = known; asked = asked; come = come; preds = preds }

pub fewer : (v : View) (m : ℕ) (p : Pid) (is box : List MsgId) (known : ℕ → Pid → Known) (asked : Pid → ℕ) (come : Pid → Bool) (preds : ℕ → Pid → ℕ → Bool) (i j : MsgId) (z : Spot) → v.inbox m ≡ i ∷ is → box ≡ is → standing (come_view v m p box known asked come preds) j z ≤ standing v j z
fewer v m p is box known asked come preds i j z e b = grind (arith, nat_tests, eq_is)

gone_at : (v : View) (m n : ℕ) (i : MsgId) (is box : List MsgId) → v.inbox m ≡ i ∷ is → box ≡ is → standing v i (Inbox m) ≡ 1 → ((z : Spot) → z ≢ Inbox m → standing v i z ≡ 0) → (c : Bool) → (m == n) ≡ c → times i (if c then box else v.inbox n) ≡ 0
gone_at v m n i is box e b one others true same = ap (times i) b ∙ (let f = times_self i is in omega (arith, ap (times i) (sym e) ∙ one, f))
gone_at v m n i is box e b one others false off = others (Inbox n) (λ s. let f : n ≡ m = inbox_same n m s in false≢true (sym off ∙ ap (λ (j : ℕ). m == j) f ∙ eq_self m))
  where
    inbox_same : (a d : ℕ) → Inbox a ≡ Inbox d → a ≡ d
    inbox_same a d s = cc

pub gone : (v : View) (m : ℕ) (p : Pid) (is box : List MsgId) (known : ℕ → Pid → Known) (asked : Pid → ℕ) (come : Pid → Bool) (preds : ℕ → Pid → ℕ → Bool) (i : MsgId) (z : Spot) → v.inbox m ≡ i ∷ is → box ≡ is → standing v i (Inbox m) ≡ 1 → ((x : Spot) → x ≢ Inbox m → standing v i x ≡ 0) → standing (come_view v m p box known asked come preds) i z ≡ 0
gone v m p is box known asked come preds i (Inbox n) e b one others = gone_at v m n i is box e b one others (m == n) refl
gone v m p is box known asked come preds i any_ e b one others = others any_ (λ s. cc)

-- what the next message of the kernel gets
gets_receiver : (a : Addresses) (v : View) (id : MsgId) (q : Pid) (gs : List Gets) → gs ≡ goes_between v id q → given a gs (Receiver id) ≡ unmoved q.home
gets_receiver a v id q gs e = ap (λ (g : List Gets). given a g (Receiver id)) e ∙ ap (λ (c : Bool). if c then unmoved q.home else a (Receiver id)) (id_eq-same id)

gets_sender : (a : Addresses) (v : View) (id : MsgId) (q : Pid) (gs : List Gets) → gs ≡ goes_between v id q → given a gs (Sender id) ≡ unmoved v.acting
gets_sender a v id q gs e = ap (λ (g : List Gets). given a g (Sender id)) e ∙ ap (λ (c : Bool). if c then unmoved v.acting else a (Sender id)) (id_eq-same id)

-- the answer, and what is as it was
pub record Answer (b : Boot) (m : ℕ) (pt : Point) (l : Placed) (records : AllRecords) (k : KernelState) (y : Message) (p : Pid) (c : Comes b m pt l records k y p) (a : Arrives b m pt l k y p) : Type 0 where
  pub lines : List Line
  pub what : What
  pub state : KernelState
  pub box : List MsgId
  pub known : ℕ → Pid → Known
  pub asked : Pid → ℕ
  pub come : Pid → Bool
  pub preds : ℕ → Pid → ℕ → Bool
  pub turn : turns b k k.inbox ≡ Some (record { state = state; parts = map part.Says lines ++ part.Routes (own k y.sender what) ∷ [] })
  pub outcome : outcome b pt (Step.Turn m) ≡ Some (map Part.Says lines ++ to_kernel (kind_of what) y.id.from.home ∷ [])
  pub after : after (begun pt m) lines ≡ Some (come_point pt (come_view pt.view m p box known asked come preds))
  pub is_box : box ≡ c.ids
  pub known_off : (n : ℕ) (q : Pid) → pid_eq p q ≡ false → known n q ≡ pt.view.known n q
  pub known_away : (n : ℕ) (q : Pid) → n ≢ m → known n q ≡ pt.view.known n q
  -- what is left over stays so
  pub over : (i : MsgId) (t : Told) (z : Spot) → pt.view.told i ≡ Some t → is_between t.kind ≡ true → t.about ≡ Of p → 1 ≤ standing pt.view i z → is_due_piece pt.view p i t ≡ false → is_due_piece (come_view pt.view m p box known asked come preds) p i t ≡ false
  pub asked_off : (q : Pid) → pid_eq p q ≡ false → asked q ≡ pt.view.asked q
  -- the machine's
  pub here : state.here ≡ k.here
  pub records_off : (q : Pid) → pid_eq p q ≡ false → state.records q ≡ k.records q
  pub ring : state.ring ≡ k.ring
  pub inbox : state.inbox ≡ c.rest
  pub made : state.made ≡ k.made
  pub sent : state.sent ≡ k.sent + 1
  pub kept : PredsStand b (preds m) state.preds
  pub preds_away : (n : ℕ) (q : Pid) → n ≢ m → preds n q ≡ pt.view.preds n q
  pub over_is : state.over ≡ k.over
  pub room : RoomStands state.room (room_of (slice_get b.machines m)) (taken_at (come_point pt (come_view pt.view m p box known asked come preds)) m pt.kernel.machines)
  pub mine : KnownStands l p (pt.view.queue m p) (pt.view.held m p) (known m p) (state.records p)
  -- the answer
  pub between : is_between (kind_of what) ≡ true
  pub is_reply : tells_onward (sort_of (kind_of what)) ≡ false
  pub about : about_of what ≡ Of p
  pub plain : plain_what what ≡ None
  pub encloses : enclosed what ≡ []
  pub gives : (v : View) (id : MsgId) (q : Pid) → own_given pt.kernel v pt.addresses id q (sort_of (kind_of what)) ≡ goes_between v id q
  pub carries : Carries p a.cargo (asked p) (incoming_of (state.records p)) what

-- the token that was handled was the only one of its process, and those of others carry what they carried
pub tokens_kept : (b : Boot) (m : ℕ) (pt : Point) (l : Placed) (records : AllRecords) (k : KernelState) (y : Message) (p : Pid) (c : Comes b m pt l records k y p) (a : Arrives b m pt l k y p) (box : List MsgId) (known : ℕ → Pid → Known) (asked : Pid → ℕ) (come : Pid → Bool) (preds : ℕ → Pid → ℕ → Bool) (s : KernelState)
    → box ≡ c.ids → ((q : Pid) → pid_eq p q ≡ false → asked q ≡ pt.view.asked q) → ((q : Pid) → pid_eq p q ≡ false → s.records q ≡ k.records q) → ((n : ℕ) (q : Pid) → pid_eq p q ≡ false → known n q ≡ pt.view.known n q)
    → ((i : MsgId) (t : Told) (z : Spot) → pt.view.told i ≡ Some t → is_between t.kind ≡ true → t.about ≡ Of p → 1 ≤ standing pt.view i z → is_due_piece pt.view p i t ≡ false → is_due_piece (come_view pt.view m p box known asked come preds) p i t ≡ false)
    → TokensStand (come_view pt.view m p box known asked come preds) l (at_machine records m s.records)
tokens_kept b m pt l records k y p c a box known asked come preds s is_box asked_off records_off known_off over =
    let w = come_view pt.view m p box known asked come preds in
    let before : (i : MsgId) (z : Spot) → 1 ≤ standing w i z → 1 ≤ standing pt.view i z = λ i z st. (let f = fewer pt.view m p c.ids box known asked come preds y.id i z c.box is_box in omega (arith, f, st)) in
    tokens_one pt.view w l l records (at_machine records m s.records) p (record {
      stays = record {
        told = refl;
        asked = asked_off;
        residents = λ q off. refl;
        notes = λ q off. refl;
        records = λ n q off. records_as records m n k.records s.records q c.mine (records_off q off);
        known = known_off;
      };
      came = λ i t z told between st. ((z, before i z st), refl);
      left = λ i t z told between about st. elim (a.phase.alone i t z told between about (before i z st)) [
        | inl mine ↦
            let is : y.id ≡ i = some_same y.id i mine in
            let one = once_at (standing pt.view y.id) (Inbox m) (own_once b pt y.id (Inbox m) c.run a.unplain a.mine a.first) a.first in
            absurd (omega (arith, ap (λ (j : MsgId). standing w j z) (sym is) ∙ gone pt.view m p c.ids box known asked come preds y.id z c.box is_box one.0 one.1, st))
        | inr left ↦
            let off = over_is pt.view p (Moves (kind_of y.what) a.source m (Some y.id)) i t a.phase left in
            (over i t z told between about (before i z st) off, (c.tokens p i t z told between about (before i z st)).1 off)
      ];
    }) c.tokens

-- the next message of the kernel may be put
may_answer : (b : Boot) (m : ℕ) (pt : Point) (l : Placed) (records : AllRecords) (k : KernelState) (y : Message) (p : Pid) (c : Comes b m pt l records k y p) (a : Arrives b m pt l k y p) (h : Answer b m pt l records k y p c a)
    → MayOwn (come_point pt (come_view pt.view m p h.box h.known h.asked h.come h.preds)) l (at_machine records m h.state.records) 0 (own k y.sender h.what)
may_answer b m pt l records k y p c a h =
    let v = come_view pt.view m p h.box h.known h.asked h.come h.preds in
    let x = own k y.sender h.what in
    let here = c.stands.here in
    let id : x.id ≡ id_of (pid_of m 0) (pt.view.count m) = λ i. id_of (pid_of (here i) 0) (c.count i) in
    let untold : pt.view.told x.id ≡ None = ap pt.view.told id ∙ next_untold b pt m c.run in
    let gives = h.gives v x.id y.sender.pid in
    let known : at_machine records m h.state.records (destination_of x.id (told_of x)) p ≡ h.state.records p =
    ap (λ (n : ℕ). at_machine records m h.state.records n p) (ap (λ (d : Bool). if d then y.sender.pid.home else k.here) h.is_reply ∙ here) ∙ (λ i. machine_self records m h.state.records i p) in
    record {
      id = id ∙ own_first v;
      plain = ap (with_what x) h.plain;
      encloses = h.encloses;
      bag = fresh_own b pt l x.id c.run c.mirrors c.own refl untold;
      untold = untold;
      receiver = gets_receiver pt.addresses v x.id y.sender.pid _ gives ∙ (subst (λ (z : Addr). unmoved z.pid.home ≡ place_of z) (sym a.sender) refl);
      sender = gets_sender pt.addresses v x.id y.sender.pid _ gives ∙ ap unmoved (sym here);
      about = sym h.about;
      asker = λ e. absurd (false≢true (sym (ap is_between e) ∙ h.between));
      carried = λ between q about.
          subst (λ (z : Pid). IsCarried l (h.asked z) (at_machine records m h.state.records) z x ⊎ IsLeftOver v l z x) (of_same p q (sym h.about ∙ about))
          (inl (record { cargo = a.cargo; there = a.there; sender = refl; carries = subst (λ (o : Option machine.KernelKnown). Carries p a.cargo (h.asked p) (incoming_of o) h.what) (sym known) h.carries }));
    }
  where
    of_same : (i j : Pid) → Of i ≡ Of j → i ≡ j
    of_same i j e = cc

pub turns_answer : (b : Boot) (m : ℕ) (pt : Point) (l : Placed) (records : AllRecords) (k : KernelState) (y : Message) (p : Pid) (c : Comes b m pt l records k y p) (a : Arrives b m pt l k y p) → Answer b m pt l records k y p c a → TurnsAt b m pt l records k
turns_answer b m pt l records k y p c a h =
    let v = come_view pt.view m p h.box h.known h.asked h.come h.preds in
    let next = come_point pt v in
    let stands = c.stands in
    let sender : y.sender ≡ kernel_at y.id.from.home = a.sender in
    record {
      state = h.state;
      says = h.lines;
      routes = Own (own k y.sender h.what) ∷ [];
      late = Nothing;
      turn = h.turn ∙ ap (λ (ps : List parts.Part). Some (record { state = h.state; parts = ps })) (sym (append-nil (map part.Says h.lines ++ part.Routes (own k y.sender h.what) ∷ [])));
      outcome = h.outcome ∙ ap (λ (z : Addr). Some (map Part.Says h.lines ++ Part.Owns (kind_of h.what) z.pid z.at ∷ [])) (sym sender)
          ∙ ap Some (sym (append-nil (map Part.Says h.lines ++ Part.Owns (kind_of h.what) y.sender.pid y.sender.at ∷ [])));
      next = next;
      after = h.after;
      placed = l;
      mirrors = mirrors_view pt.kernel pt.view v pt.addresses l refl c.mirrors;
      kernel = stands_set b pt next l l m k h.state p (search (h.here, h.records_off, h.known_off, same_system l, h.mine)) stands (h.ring ∙ stands.ring)
          (ap (map l.bag) (machine_self pt.view.inbox m h.box ∙ h.is_box) ∙ c.others ∙ ap (map Some) (sym h.inbox)) (h.made ∙ stands.made) h.room h.kept;
      sent = λ e. let f = h.sent in omega (arith, e, f);
      elsewhere = search (machine_off, h.known_away, h.preds_away, same_system l);
      may = (may_answer b m pt l records k y p c a h, tt);
      late_may = tt;
      over = NoneEnds h.over_is (λ q. refl);
      topic = tt;
      own = λ i z there plain. let s = c.own i z there plain in record { told = s.told; mine = s.mine; sender = s.sender };
      tokens = tokens_kept b m pt l records k y p c a h.box h.known h.asked h.come h.preds h.state h.is_box h.asked_off h.records_off h.known_off h.over;
    }
