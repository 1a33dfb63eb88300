-- A kernel's own message at a process or a server that has ended, and an update at one that is here.
use Rattle.dm_law_mirror.proofs.Names.{◌≡◌, ◌≢◌, ℕ, ◌+◌, ◌≤◌, Bool, true, false, List, [], ◌∷◌, refl, ap, ◌∙◌, sym, subst, arith, if◌then◌else◌, count_by, Option, None, Some, false≢true, Addr, Pid, pid_eq, nat_tests}
use Rattle.dm_law_mirror.proofs.Names.{slot_is_behind, applied, Message, MsgId, What, Record, Line, kind_of, plain_message, plain_what, with_what, Process, incoming_of, named_is_behind, Boot, switchboard, manager}
use Rattle.dm_law_mirror.proofs.Names.{KernelState, with_known, pid_eq-same, HereStands, Resident, resident_at, AreMessages, id_eq, or-left, or-right, place_told, behind_count, told_here, updates, Phase, Rests, is_away, is_between, is_here, knows, Point, moved, Inbox}
use Rattle.dm_law_mirror.proofs.Names.{Spot, standing, Known, Here, Of, Told, rests_here, is_fixed, Run, Placed, Mirrors, mirrors_view, board_told, manager_told, updated_board_mirrors, updated_manager_mirrors, updated_mirrors}
use Rattle.dm_law_mirror.proofs.Names.{updated_board_count, updated_count, updated_manager_count, about_of, told_of, KnownStands, AllRecords, Wants, MessageKind, PlainMessage, Addresses, told_ended, after_line}
use Rattle.dm_law_mirror.proofs.Names.{updated_ended_mirrors, no_process, Wanted, is_server, Part, sort_of, ◌⊎◌, inl, inr, Moves, View, is_due_piece, pulls_piece, Asks, Comes, is_alive, Unknown, is_some}
use Rattle.dm_procman.specs.Managing.{behind_in}
use Rattle.dm_law_places.specs.PlacedStep.{with_process}
use Rattle.dm_law_mirror.proofs.Recorded.{recorded, recorded_process}
use Rattle.dm_resident.specs.Residents as residents
use Rattle.dm_law_mirror.proofs.Residents.{OfBoard, OfManager, OfProcess, SameSystem, board_here, board_others, here_process, manager_here, manager_others, not_board, not_manager, resident_same, same_manager, same_system, server_none, who}
use Rattle.dm_law_mirror.proofs.Follow.Fronts.{front_still, Fronts, at_front, eq_off, machine_process, rule_process, set_other, set_self, handled_point, turns_follow, handled_view}
use Rattle.dm_law_mirror.proofs.Turning.{TurnsAt, begun, has_process}
use Rattle.dm_law_mirror.proofs.Kernel.Sets.{away_process as away_not}
use Rattle.dm_onekernel.specs.Step as kernel
use Rattle.dm_kernel.specs.Handle as machine_handle
use Rattle.dm_law_mirror.proofs.LeftOver.{IsDue, IsOver, Which, brings_on, which}
use Rattle.dm_kernel.specs.State as machine
use Rattle.dm_law_rule.specs.Parts as rule
use Rattle.dm_law_mirror.proofs.Gone.{alive_none, not_alive}

-- a message of the bag would have a plain meaning
pub no_plain : (y : Message) (x : PlainMessage) → plain_what y.what ≡ None → plain_message y ≡ Some x → ⊥
no_plain y x none e = let f : None ≡ Some x = sym (ap (with_what y) none) ∙ e in cc

-- at a process that has ended
pub ended_quiet : (b : Boot) (m : ℕ) (pt : Point) (l : Placed) (records : AllRecords) (k : KernelState) (y : Message) (c : Fronts b m pt l records k y) (said : Line) (a : Addresses) → is_fixed y.to.pid ≡ false → pt.view.known m y.to.pid ≡ Unknown → plain_what y.what ≡ None
    → machine_handle.ended_handles (record k { inbox = c.rest }) y y.what ≡ Some (record { state = record k { inbox = c.rest }; parts = Part.Says said ∷ [] }) → told_ended y.id (sort_of (kind_of y.what)) ≡ Some (rule.Says said ∷ [])
    → after_line (begun pt m) said ≡ Some (handled_point pt m y.id pt.view.held (begun pt m).view.topic a) → (is_server y.to.pid ≡ false → l.processes y.to.pid ≡ None → Mirrors pt.kernel (handled_view pt m y.id pt.view.held (begun pt m).view.topic) a l) → TurnsAt b m pt l records k
ended_quiet b m pt l records k y c said a fixed knows none turn told after mirrors =
    let p = y.to.pid in
    let s = record k { inbox = c.rest } in
    let there = recorded b pt l m k p Unknown c.stands knows in
    let gone : is_alive pt.kernel p ≡ false =
    subst (λ (q : Pid). is_alive pt.kernel q ≡ false) c.receiver
    (not_alive b pt y.id (Inbox m) c.told c.run (at_front b m pt l records k y c) c.told_is (ap is_fixed c.receiver ∙ fixed) (ap (pt.view.known m) c.receiver ∙ knows)) in
    let server : is_server p ≡ false = or-left (is_server p) (is_some (kernel.alive (pt.kernel.processes p))) gone in
    let over : kernel.alive (pt.kernel.processes p) ≡ None = alive_none (pt.kernel.processes p) (or-right (is_server p) (is_some (kernel.alive (pt.kernel.processes p))) gone) in
    let topic = (begun pt m).view.topic in
    turns_follow b m pt l records k y c (record {
      state = s;
      said = said;
      routes = [];
      held = pt.view.held;
      topic = topic;
      addresses = a;
      placed = l;
      process = p;
      turn = machine_process b s y None (Some (record { state = s; parts = Part.Says said ∷ [] })) fixed there turn;
      outcome = rule_process b m pt l records k y c Unknown (Some (rule.Says said ∷ [])) (plain_message y) fixed knows refl (λ x e. absurd (no_plain y x none e)) (λ e. ap (λ (t : MessageKind). told_ended y.id (sort_of t)) c.kind ∙ told);
      after = after;
      mirrors = mirrors server (no_process (l.processes p) (sym (c.mirrors.plain.processes p) ∙ over));
      own_front = λ z e plain. c.own y.id z e plain;
      sent = (let e : k.sent ≡ k.sent + 0 = omega arith in e);
      known = c.stands.known p;
      still = front_still b m pt l records k y c fixed;
      may = tt;
      leaves = search (same_system l);
    })

-- a request to move a process that has ended
pub no_move_turn : (b : Boot) (m : ℕ) (pt : Point) (l : Placed) (records : AllRecords) (k : KernelState) (y : Message) (c : Fronts b m pt l records k y) (to : ℕ) → is_fixed y.to.pid ≡ false → pt.view.known m y.to.pid ≡ Unknown → y.what ≡ What.Migrate to → TurnsAt b m pt l records k
no_move_turn b m pt l records k y c to fixed knows e =
    ended_quiet b m pt l records k y c (Line.NoMove y.id) pt.addresses fixed knows (ap plain_what e) (ap (machine_handle.ended_handles (record k { inbox = c.rest }) y) e) (ap (λ (w : What). told_ended y.id (sort_of (kind_of w))) e) refl
    (λ server none. mirrors_view pt.kernel pt.view (handled_view pt m y.id pt.view.held (begun pt m).view.topic) pt.addresses l refl c.mirrors)

-- an update of one that has ended
pub updated_ended_turn : (b : Boot) (m : ℕ) (pt : Point) (l : Placed) (records : AllRecords) (k : KernelState) (y : Message) (c : Fronts b m pt l records k y) (about : Addr) → is_fixed y.to.pid ≡ false → pt.view.known m y.to.pid ≡ Unknown → y.what ≡ What.Update about → TurnsAt b m pt l records k
updated_ended_turn b m pt l records k y c about fixed knows e =
    let told = (c.own y.id y c.there (ap (λ (w : What). with_what y (plain_what w)) e)).told in
    let start = mirrors_view pt.kernel pt.view (begun pt m).view pt.addresses l refl c.mirrors in
    ended_quiet b m pt l records k y c (Line.Updated y.id 0) (moved (begun pt m) (Line.Updated y.id 0) pt.kernel).addresses fixed knows (ap plain_what e) (ap (machine_handle.ended_handles (record k { inbox = c.rest }) y) e) (ap (λ (w : What). told_ended y.id (sort_of (kind_of w))) e) refl
    (λ server none. updated_ended_mirrors (begun pt m) l y.id 0 (told_of y) about.pid about.at about.moves start told (ap about_of e) (not_board y.to.pid server) (not_manager y.to.pid server) none)

-- An update makes the links of a process or of a server follow another one.

pub rests_away : (m n : ℕ) (k : Known) → n ≢ m → knows (Rests m) n k ≡ true → is_away k ≡ true
rests_away m n k apart e = sym (ap (λ (c : Bool). if c then is_here k else is_away k) (eq_off m n apart)) ∙ e

rests_at : (b : Boot) (m : ℕ) (pt : Point) (p : Pid) (run : Run b pt) → pt.view.known m p ≡ Here → run.based.phased.phases.of p ≡ Rests m
rests_at b m pt p run here = grind (arith, nat_tests, rests_here)

nowhere_else : (b : Boot) (m n : ℕ) (pt : Point) (p : Pid) → Run b pt → pt.view.known m p ≡ Here → n ≢ m → has_process (pt.view.known n p) ≡ true → ⊥
nowhere_else b m n pt p run here apart has =
    let h = run.based.phased.phases in
    away_not (pt.view.known n p) (rests_away m n (pt.view.known n p) apart (sym (ap (λ (f : Phase). knows f n (pt.view.known n p)) (rests_at b m pt p run here)) ∙ (h.each p).known n)) has

-- while it is here only pieces that are left over stand
only_left : (v : View) (m : ℕ) (p : Pid) (now : Phase) (i : MsgId) (t : Told) → now ≡ Rests m → Which v p now i t → is_due_piece v p i t ≡ true ⊎ pulls_piece (sort_of t.kind) ≡ true → ⊥
only_left v m p now i t rests (IsDue d due) reads = (let f : Rests m ≡ Moves d.kind d.s d.d (Some i) = sym rests ∙ d.phase in cc)
only_left v m p now i t rests (IsOver (Asks s d j pulls say way is first) off) reads = (let f : Rests m ≡ Moves MessageKind.CallOff s d j = sym rests ∙ is in cc)
only_left v m p now i t rests (IsOver (Comes s d brings say way away first) off) (inl due) = false≢true (sym off ∙ due)
only_left v m p now i t rests (IsOver (Comes s d brings say way away first) off) (inr pulls) = false≢true (sym (brings_on t.kind brings).2 ∙ pulls)

none_under_way : (b : Boot) (m : ℕ) (pt : Point) (p : Pid) (i : MsgId) (t : Told) (z : Spot) → Run b pt → pt.view.known m p ≡ Here → pt.view.told i ≡ Some t → is_between t.kind ≡ true → t.about ≡ Of p → 1 ≤ standing pt.view i z
    → is_due_piece pt.view p i t ≡ true ⊎ pulls_piece (sort_of t.kind) ≡ true → ⊥
none_under_way b m pt p i t z run here told between about least reads =
    let h = run.based.phased.phases in
    only_left pt.view m p (h.of p) i t (rests_at b m pt p run here) (which pt.view h p i t z told between about least) reads

-- the rule's line
counted_line : (pt : Point) (y : Message) (t : Told) (n : ℕ) → t ≡ told_of y → behind_count pt.kernel pt.addresses y.to.pid (place_told (about_of y.what)) ≡ n → updates pt y.id t ≡ rule.Says (Line.Updated y.id n) ∷ []
counted_line pt y t n is count = grind (arith, nat_tests)

-- what is here follows: this is it before and behind the update, in a kernel with places that is another only there
pub record Updated (pt : Point) (m : ℕ) (l : Placed) (k : KernelState) (rest : List Message) (y : Message) (about : Addr) (n : ℕ) (x z : Resident) (placed : Placed) : Type 0 where
  pub there : k.records y.to.pid ≡ Some (Record.Here x)
  pub here : HereStands placed y.to.pid (pt.view.queue m y.to.pid) z
  pub turn : machine_handle.resident_handles (record k { inbox = rest }) (record y { what = What.Update about }) x ≡ Some (record { state = with_known (record k { inbox = rest }) y.to.pid (Record.Here z); parts = Part.Says (Line.Updated y.id n) ∷ [] })
  pub count : behind_count pt.kernel pt.addresses y.to.pid (place_told (about_of y.what)) ≡ n
  pub mirrors : Mirrors pt.kernel (moved (begun pt m) (Line.Updated y.id n) pt.kernel).view (moved (begun pt m) (Line.Updated y.id n) pt.kernel).addresses placed
  pub others : (q : Pid) → pid_eq y.to.pid q ≡ false → resident_at placed q ≡ resident_at l q
  pub system : SameSystem l placed
  pub bag : (j : MsgId) → placed.bag j ≡ l.bag j
  pub notes : (q : Pid) → placed.notes q ≡ l.notes q

updated_row : (b : Boot) (m : ℕ) (pt : Point) (l : Placed) (records : AllRecords) (k : KernelState) (y : Message) (c : Fronts b m pt l records k y) (about : Addr) (n : ℕ) (x z : Resident) (placed : Placed) → is_fixed y.to.pid ≡ false → pt.view.known m y.to.pid ≡ Here → y.what ≡ What.Update about
    → Updated pt m l k c.rest y about n x z placed → TurnsAt b m pt l records k
updated_row b m pt l records k y c about n x z placed fixed knows e h =
    let p = y.to.pid in
    let s = record k { inbox = c.rest } in
    let state = with_known s p (Record.Here z) in
    let same : y ≡ record y { what = What.Update about } = ap (λ (w : What). record y { what = w }) e in
    let was : c.told ≡ told_of y = grind (arith, nat_tests, ap plain_what e) in
    let held = pt.view.held in
    let topic = (begun pt m).view.topic in
    let a = (moved (begun pt m) (Line.Updated y.id n) pt.kernel).addresses in
    let apart : (j : ℕ) → j ≢ m → has_process (pt.view.known j p) ≡ true → resident_at placed p ≡ resident_at l p = λ j off has. absurd (nowhere_else b m j pt p c.run knows off has) in
    let moving : (i : MsgId) (t : Told) (j : Spot) → pt.view.told i ≡ Some t → is_between t.kind ≡ true → t.about ≡ Of p → 1 ≤ standing pt.view i j → is_due_piece pt.view p i t ≡ true ⊎ pulls_piece (sort_of t.kind) ≡ true → resident_at placed p ≡ resident_at l p =
    λ i t j told_ between about_ least reads. absurd (none_under_way b m pt p i t j c.run knows told_ between about_ least reads) in
    let wants : (u : Wanted) → Wants (incoming_of (k.records p)) u → Wants (incoming_of (state.records p)) u = λ u w. absurd (subst (λ (o : Option machine.KernelKnown). Wants (incoming_of o) u) h.there w) in
    let bag_off : (j : MsgId) → id_eq y.id j ≡ false → placed.bag j ≡ l.bag j = λ j off. h.bag j in
    turns_follow b m pt l records k y c (record {
      state = state;
      said = Line.Updated y.id n;
      routes = [];
      held = held;
      topic = topic;
      addresses = a;
      placed = placed;
      process = p;
      turn = machine_process b s y (Some (Record.Here x)) (Some (record { state = state; parts = Part.Says (Line.Updated y.id n) ∷ [] })) fixed h.there (ap (λ (w : Message). machine_handle.resident_handles s w x) same ∙ h.turn);
      outcome = rule_process b m pt l records k y c Here (Some (rule.Says (Line.Updated y.id n) ∷ [])) (plain_message y) fixed knows refl (λ w f. absurd (no_plain y w (ap plain_what e) f))
          (λ f. ap (λ (k : MessageKind). told_here pt m y.id c.told (sort_of k)) (c.kind ∙ ap kind_of e) ∙ ap Some (counted_line pt y c.told n was h.count));
      after = refl;
      mirrors = h.mirrors;
      own_front = λ w f plain. c.own y.id w (sym (h.bag y.id) ∙ f) plain;
      sent = (let f : k.sent ≡ k.sent + 0 = omega arith in f);
      known = subst (KnownStands placed p (pt.view.queue m p) (pt.view.held m p) (pt.view.known m p)) (sym (set_self k.records p (Record.Here z)))
          (subst (λ (j : Known). KnownStands placed p (pt.view.queue m p) (pt.view.held m p) j (Some (Record.Here z))) (sym knows) h.here);
      still = front_still b m pt l records k y c fixed;
      may = tt;
      leaves = search (h.others, h.system, h.notes, apart, moving, bag_off, set_other, wants);
    })

-- a process: its links and its data move follow
updated_process : (b : Boot) (m : ℕ) (pt : Point) (l : Placed) (records : AllRecords) (k : KernelState) (y : Message) (c : Fronts b m pt l records k y) (about : Addr) → is_fixed y.to.pid ≡ false → pt.view.known m y.to.pid ≡ Here → y.what ≡ What.Update about → is_server y.to.pid ≡ false → TurnsAt b m pt l records k
updated_process b m pt l records k y c about fixed knows e off =
    let p = y.to.pid in
    let here = recorded_process b pt l m k p c.stands off knows in
    let x = here.process in
    let z : Process = record x { queue = here.waits } in
    let r = about.pid in
    let next = applied r about.at about.moves x in
    let n = count_by (slot_is_behind r about.moves) x.table in
    let told = (c.own y.id y c.there (ap (λ (w : What). with_what y (plain_what w)) e)).told in
    let start = mirrors_view pt.kernel pt.view (begun pt m).view pt.addresses l refl c.mirrors in
    let placed = with_process l p (Some (applied r about.at about.moves z)) in
    updated_row b m pt l records k y c about n (Resident.Process x) (Resident.Process next) placed fixed knows e (record {
      there = here.is;
      here = here_process placed p (pt.view.queue m p) next here.waits off (ap (λ (t : Bool). if t then Some (applied r about.at about.moves z) else l.processes p) (pid_eq-same p)) here.messages;
      turn = refl;
      count = updated_count pt.kernel pt.view pt.addresses l p r about.at about.moves (about_of y.what) z c.mirrors (ap about_of e) (not_board p off) (not_manager p off) here.there;
      mirrors = updated_mirrors (begun pt m) l y.id n (told_of y) r about.at about.moves z start told (ap about_of e) (not_board p off) (not_manager p off) here.there;
      others = λ q apart. resident_same l placed q (ap (λ (t : Bool). if t then Some (applied r about.at about.moves z) else l.processes q) apart) refl refl;
      system = same_manager l placed refl;
      bag = λ j. refl;
      notes = λ q. refl;
    })

-- the switchboard's links follow
updated_board : (b : Boot) (m : ℕ) (pt : Point) (l : Placed) (records : AllRecords) (k : KernelState) (y : Message) (c : Fronts b m pt l records k y) (about : Addr) → is_fixed y.to.pid ≡ false → pt.view.known m y.to.pid ≡ Here → y.what ≡ What.Update about → y.to.pid ≡ switchboard → TurnsAt b m pt l records k
updated_board b m pt l records k y c about fixed knows e to =
    let p = y.to.pid in
    let (x, there, stands) = recorded b pt l m k p Here c.stands knows in
    let is : x ≡ Resident.Board l.board = board_here l (pt.view.queue m p) x (subst (λ (q : Pid). HereStands l q (pt.view.queue m p) x) to stands) in
    let r = about.pid in
    let n = count_by (named_is_behind r about.moves) l.board.names in
    let told = (c.own y.id y c.there (ap (λ (w : What). with_what y (plain_what w)) e)).told in
    let start = mirrors_view pt.kernel pt.view (begun pt m).view pt.addresses l refl c.mirrors in
    let placed = board_told l r about.at about.moves in
    let waits : AreMessages l.bag (pt.view.queue m p) [] = subst (λ (z : Resident). AreMessages l.bag (pt.view.queue m p) (residents.queue_of z)) is stands.1 in
    updated_row b m pt l records k y c about n (Resident.Board l.board) (Resident.Board placed.board) placed fixed knows e (record {
      there = there ∙ ap (λ (z : Resident). Some (Record.Here z)) is;
      here = (([], ap (resident_at placed) to), waits);
      turn = refl;
      count = updated_board_count pt.kernel pt.view pt.addresses l p r about.at about.moves (about_of y.what) c.mirrors (ap about_of e) to;
      mirrors = updated_board_mirrors (begun pt m) l y.id n (told_of y) r about.at about.moves start told (ap about_of e) to (server_none b pt l switchboard c.run c.mirrors refl);
      others = λ q apart. board_others l placed q refl refl (ap (λ (z : Pid). pid_eq z q) (sym to) ∙ apart);
      system = same_manager l placed refl;
      bag = λ j. refl;
      notes = λ q. refl;
    })

-- the manager's links follow
updated_manager : (b : Boot) (m : ℕ) (pt : Point) (l : Placed) (records : AllRecords) (k : KernelState) (y : Message) (c : Fronts b m pt l records k y) (about : Addr) → is_fixed y.to.pid ≡ false → pt.view.known m y.to.pid ≡ Here → y.what ≡ What.Update about → y.to.pid ≡ manager → TurnsAt b m pt l records k
updated_manager b m pt l records k y c about fixed knows e to =
    let p = y.to.pid in
    let (x, there, stands) = recorded b pt l m k p Here c.stands knows in
    let is : x ≡ Resident.Manager l.manager = manager_here l (pt.view.queue m p) x (subst (λ (q : Pid). HereStands l q (pt.view.queue m p) x) to stands) in
    let r = about.pid in
    let n = behind_in r about.moves l.manager in
    let told = (c.own y.id y c.there (ap (λ (w : What). with_what y (plain_what w)) e)).told in
    let start = mirrors_view pt.kernel pt.view (begun pt m).view pt.addresses l refl c.mirrors in
    let placed = manager_told l r about.at about.moves in
    let waits : AreMessages l.bag (pt.view.queue m p) [] = subst (λ (z : Resident). AreMessages l.bag (pt.view.queue m p) (residents.queue_of z)) is stands.1 in
    updated_row b m pt l records k y c about n (Resident.Manager l.manager) (Resident.Manager placed.manager) placed fixed knows e (record {
      there = there ∙ ap (λ (z : Resident). Some (Record.Here z)) is;
      here = (([], ap (resident_at placed) to), waits);
      turn = refl;
      count = updated_manager_count pt.kernel pt.view pt.addresses l p r about.at about.moves (about_of y.what) c.mirrors (ap about_of e) to c.run.based.pending;
      mirrors = updated_manager_mirrors (begun pt m) l y.id n (told_of y) r about.at about.moves start told (ap about_of e) to (server_none b pt l manager c.run c.mirrors refl);
      others = λ q apart. manager_others l placed q refl refl (ap (λ (z : Pid). pid_eq z q) (sym to) ∙ apart);
      system = record { machines = refl; images = refl };
      bag = λ j. refl;
      notes = λ q. refl;
    })

-- whatever is here
pub updated_here_turn : (b : Boot) (m : ℕ) (pt : Point) (l : Placed) (records : AllRecords) (k : KernelState) (y : Message) (c : Fronts b m pt l records k y) (about : Addr) → is_fixed y.to.pid ≡ false → pt.view.known m y.to.pid ≡ Here → y.what ≡ What.Update about → TurnsAt b m pt l records k
updated_here_turn b m pt l records k y c about fixed knows e = elim (who y.to.pid) [
  | OfProcess off ↦ updated_process b m pt l records k y c about fixed knows e off
  | OfBoard to ↦ updated_board b m pt l records k y c about fixed knows e to
  | OfManager to ↦ updated_manager b m pt l records k y c about fixed knows e to
]
