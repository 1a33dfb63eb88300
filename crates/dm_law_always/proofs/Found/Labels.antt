-- Each label keeps where addresses lead, what machines know, and where messages stand.
use Rattle.dm_law_always.proofs.Names.{◌≡◌, ℕ, ◌+◌, ◌<◌, ◌≤◌, true, false, is_some, refl, ap, ◌∙◌, sym, subst, inl, inr, arith, ⊤, Option, None, Some, cases_Bool, false≢true, Pid, Place, MsgId, PlainMessage, Line, Label, OneKernel, gets}
use Rattle.dm_law_always.proofs.Names.{entry, reception, Grown, after_step, View, Told, Unknown, Here, is_kernels, after_label, handled, receiver_of, Holder, Receiver, Sender, given, gives, to_of, Point, moved, at_record_at, grown_none, ◌∷◌}
use Rattle.dm_law_always.proofs.Names.{not_kernels, AtHome, homes_are, at_home, SaidOn, label_on, ReceivedAt, dropped_known, Sane, Goes, Comes, Links, Outside, gives_spares, spared_receiver, spared_sender, label_told, is_fixed, zero_cases}
use Rattle.dm_law_always.proofs.Names.{acting_dropped, ◌⊎◌, Bool, pid_eq, plain_kind, PlainWhat, Alive, PlainProcess, pid_eq-is, bind-is, when-is, is_kill, nat_lt, List, [], length, if◌then◌else◌, id_eq, id_of, switchboard, manager, bind}
use Rattle.dm_law_always.proofs.Names.{answer_id, id_eq-is, Addresses, Gets, landing_gets, serving_gets, board_gets, manager_gets, not_true, nat_tests, unentered, Sound, id_in, landed_id, served_id, board_id, manager_id, took_id, bag_sends}
use Rattle.dm_law_always.proofs.Names.{bag_served, bag_gone, bag_no_space, bag_created, bag_took, spares, spares_both, two_more, made_spares, sends_spares, receives_spares, creates_what_spares, finds_spares, keeps_spares}
use Rattle.dm_law_always.proofs.Names.{manager_takes_spares, KernelFits, topic_by, bag_answered, aim, sets, not, filter, ◌==◌, Step, Load, Stage, Known, Frozen, Incoming, view_after, after_head, after_stage, AskedBy, after_proto, queued_for}
use Rattle.dm_law_always.proofs.Names.{held_for, taken_id, oldest, gone_to, front_of, label_of, kernel_after, is_put, hushed, queued_known, held_known, proto_known, proto_acting, option_map_or, NothingElse, acting_place, move_target}
use Rattle.dm_law_always.proofs.Names.{Life, LifeGrows, Lives, at_record, dropped_for, served_told}
use Rattle.dm_law_always.proofs.Names.{is_made, is_server, ◌||◌, IsStep}
use Rattle.dm_law_rule.specs.View.{actor}
use Rattle.dm_law_rule.proofs.Trails.Within.{head_less}
use Rattle.dm_law_always.proofs.Found.Real.{or_cases}
use Rattle.dm_law_rule.proofs.Trails.Places.{Owns}
use Rattle.dm_law_always.proofs.Fits.Start.{fits_step}
use Rattle.dm_law_always.proofs.Found.Lists.{places_label, places_about, Places, Brings, places_line, AllAre, all_as, Sends, step_leaves, created_for}
use Rattle.dm_law_always.proofs.Based.Needs.{is_over}
use Rattle.dm_law_always.proofs.Based.Sets.{killed_or}
use Rattle.dm_law_always.proofs.Found.Core.{Older, There, NeedsOver, buried_core, nothing_grows, stays_old, there_grows, some_made, server_made, known_within}
use Rattle.dm_law_always.proofs.Found.Core.{AboutIs, KnowsAt, Knows, IsAt, KnownIs, LineCore, Grows, Learns, learns_nothing, learns, knows_grow, own_grows, about_grows, core_view, known_grows, NeedsPut, put_core, NeedsForward, NeedsSent, NeedsCalled}
use Rattle.dm_law_always.proofs.Found.Core.{forwarded_core, sent_core, called_core, updated_core}
use Rattle.dm_law_always.proofs.Based.Loud.{SetLife, over_is, some_alike, step_alike, step_ends, step_serves, step_creates, stays_over}
use Rattle.dm_law_always.proofs.Fits.Rises.{both}
use Rattle.dm_onekernel.specs.Pieces as pieces
use Rattle.dm_onekernel.specs.Step as kernel
use Rattle.dm_law_rule.specs.View as view
use Rattle.dm_onekernel.specs.Service as service
use Rattle.dm_onekernel.specs.Switchboard as board
use Rattle.dm_onekernel.specs.Manager as manage
use Rattle.dm_law_rule.specs.Addresses as addresses

-- what enters is none that was told of
apart_from : (e : MsgId → ℕ) (i j : MsgId) → 1 ≤ e i → e j ≡ 0 → id_eq j i ≡ false
apart_from e i j least none = not_true (id_eq j i) (λ k. let f : e j ≡ e i = ap e (id_eq-is j i k) in absurd (omega (arith, least, none, f)))

-- served
lands_spares : (v : View) (a : Addresses) (p : Pid) (o : Option pieces.Landed) (i : MsgId) → ((j : MsgId) → landed_id o ≡ Some j → id_eq j i ≡ false) → spares i (landing_gets v a p o) ≡ true
lands_spares v a p (Some (pieces.Next n y)) i new = two_more i n.id [] (new n.id refl) refl
lands_spares v a p _ i new = refl

serve_spares : (v : View) (a : Addresses) (id : MsgId) (m : PlainMessage) (x : PlainProcess) (w : PlainWhat) (i : MsgId) → ((j : MsgId) → served_id id m x w ≡ Some j → id_eq j i ≡ false) → spares i (serving_gets v a id m x w) ≡ true
serve_spares v a id m x w i h1 = search (arith, two_more, lands_spares, m.to, x.status)

creates_spares : (v : View) (a : Addresses) (id : MsgId) (child : Pid) (o : Option PlainMessage) (i : MsgId) → id_eq (answer_id id) i ≡ false → spares i (addresses.creation_gets v a id child o) ≡ true
creates_spares v a id child o i h1 = search (arith, two_more, creates_what_spares)

board_takes_spares : (s : OneKernel) (v : View) (a : Addresses) (id : MsgId) (w : PlainWhat) (i : MsgId) → id_eq (id_of switchboard s.switchboard.sent) i ≡ false → spares i (board_gets s v a id w) ≡ true
board_takes_spares s v a id (PlainWhat.User b1 b2 b3 b4) i e = search (arith, s.switchboard.sent, s.switchboard.names, two_more, spares_both, finds_spares, keeps_spares)
board_takes_spares s v a id _ i e = refl

message_in : (o : Option manage.ManagerTook) (i : MsgId) → ((j : MsgId) → manager_id o ≡ Some j → id_eq j i ≡ false) → (k : manage.ManagerTook) → o ≡ Some k → (x : PlainMessage) → k.message ≡ Some x → id_eq x.id i ≡ false
message_in o i new k is x has = new x.id (ap manager_id is ∙ ap id_in has)

takes_spares : (s t : OneKernel) (v : View) (a : Addresses) (id : MsgId) (m : PlainMessage) (b c : Bool) (i : MsgId) → id_eq (id_of switchboard s.switchboard.sent) i ≡ false
    → ((j : MsgId) → (if b then board_id (board.board_takes s.switchboard m m.what) else if c then manager_id (manage.manager_takes s.manager s.machines (length s.images) m m.what) else None) ≡ Some j → id_eq j i ≡ false)
    → (if b then bind (board.board_takes s.switchboard m m.what) (λ (k : board.BoardTook). Some (service.switchboard_took s id k))
    else if c then bind (manage.manager_takes s.manager s.machines (length s.images) m m.what) (λ (k : manage.ManagerTook). Some (service.manager_took s id k))
    else None) ≡ Some t
    → spares i (if b then board_gets s v a id m.what else manager_gets s v a m m.what (manage.manager_takes s.manager s.machines (length s.images) m m.what)) ≡ true
takes_spares s t v a id m b c i h1 h2 h3 = search (arith, board_takes_spares, m.what, s.manager, s.machines, s.images, manager_takes_spares, message_in)

took_spares : (r e : MsgId → ℕ) (s t : OneKernel) (v : View) (a : Addresses) (id : MsgId) (m : PlainMessage) (i : MsgId) → s.bag id ≡ Some m → service.takes s id m ≡ Some t → ((j : MsgId) → took_id s m ≡ Some j → e j ≡ 0) → Sound r e s → 1 ≤ e i
    → spares i (addresses.taking_gets s v a id (Some m)) ≡ true
took_spares r e s t v a id m i there is fresh h least =
    takes_spares s t v a id m (pid_eq m.to switchboard) (pid_eq m.to manager) i
    (apart_from e i (id_of switchboard s.switchboard.sent) least (unentered r e s (id_of switchboard s.switchboard.sent) h.entered (let z : nat_lt s.switchboard.sent s.switchboard.sent ≡ false = grind (arith, nat_tests) in z)))
    (λ j f. apart_from e i j least (fresh j f)) is

ended_spares : (v : View) (a : Addresses) (id : MsgId) (o : Option Pid) (i : MsgId) → id_eq (answer_id id) i ≡ false
    → spares i (option_map_or (λ (p : Pid). gets (Receiver (answer_id id)) (a (AskedBy p)) ∷ gets (Sender (answer_id id)) (acting_place v p) ∷ []) o []) ≡ true
ended_spares v a id None i e = refl
ended_spares v a id (Some p) i e = two_more i (answer_id id) [] e refl

-- a row a label
pub told_spares : (r e : MsgId → ℕ) (s t : OneKernel) (v : View) (a : Addresses) (l : Label) (i : MsgId) → kernel.step s l ≡ Some t → Sound r e s → 1 ≤ e i → spares i (gives s v a l) ≡ true
told_spares r e s t v a (Label.Call p n c) i is h least = made_spares v a p n c (kernel.running s p) i
told_spares r e s t v a (Label.Send p id) i is h least = sends_spares s v a p id (kernel.running s p) i (apart_from e i id least ((bag_sends r e s t p id is h).fresh id refl))
told_spares r e s t v a (Label.Receive p id) i is h least = receives_spares a p id (kernel.alive (s.processes p)) (s.bag id) i
told_spares r e s t v a (Label.Served id) i is h least =
    let q = bag_served r e s t id is h in
    let gs_is : serving_gets v a id q.m q.x q.m.what ≡ gives s v a (Label.Served id) = ap (λ (o : Option PlainProcess). option_map_or (λ y. serving_gets v a id q.m y q.m.what) o []) (sym (ap kernel.alive q.alive))
    ∙ ap (addresses.service_gets s v a id) (sym q.there) in
    subst (λ (gs : List Gets). spares i gs ≡ true) gs_is (serve_spares v a id q.m q.x q.m.what i (λ j f. apart_from e i j least (q.is.fresh j f)))
told_spares r e s t v a (Label.Gone id) i is h least = two_more i (answer_id id) [] (apart_from e i (answer_id id) least ((bag_gone r e s t id is h).fresh (answer_id id) refl)) refl
told_spares r e s t v a (Label.Took id) i is h least =
    let (m, there, rest) = bind-is (s.bag id) (service.takes s id) t is in
    let q = bag_took r e s t id is h in
    let same : q.m ≡ m = let f : Some q.m ≡ Some m = sym q.there ∙ there in cc in
    subst (λ (gs : List Gets). spares i gs ≡ true) (ap (addresses.taking_gets s v a id) (sym there))
    (took_spares r e s t v a id m i there rest (λ j f. q.is.fresh j (ap (took_id s) same ∙ f)) h least)
told_spares r e s t v a (Label.Created id child) i is h least = creates_spares v a id child (s.bag id) i (apart_from e i (answer_id id) least ((bag_created r e s t id child is h).fresh (answer_id id) refl))
told_spares r e s t v a (Label.NoSpace id f b) i is h least = two_more i (answer_id id) [] (apart_from e i (answer_id id) least ((bag_no_space r e s t id f b is h).fresh (answer_id id) refl)) refl
told_spares r e s t v a (Label.Asked id) i is h least = search arith
told_spares r e s t v a (Label.Answered id o) i is h least = ended_spares v a id (s.noted id) i (apart_from e i (answer_id id) least ((bag_answered r e s t id o is h).fresh (answer_id id) refl))
told_spares r e s t v a _ i is h least = refl

-- Each label keeps where addresses lead, what machines know, and where messages stand.

-- what is made behind a step was made before
abbrev pub MadeBefore : OneKernel → OneKernel → Type 0
MadeBefore s t = (q : Pid) → is_some (t.processes q) ≡ true → is_some (s.processes q) ≡ true

set_made : (s t : OneKernel) (p : Pid) (x : PlainProcess) → s.processes p ≡ Some (Alive x) → SetLife s t p (Some false) → MadeBefore s t
set_made s t p x alive set q some = elim (cases_Bool (pid_eq p q)) [
  | inl same ↦ ap (λ (r : Pid). is_some (s.processes r)) (sym (pid_eq-is p q same)) ∙ ap is_some alive
  | inr apart ↦ sym (some_alike (t.processes q) (s.processes q) (set.off q apart)) ∙ some
]

-- a process that a kernel makes, at its home
pub record Born (s : OneKernel) (id : MsgId) (child q : Pid) : Type 0 where
  pub m : PlainMessage
  pub there : s.bag id ≡ Some m
  pub home : child.home ≡ m.to.home
  pub is : child ≡ q

child_home : (s t : OneKernel) (id : MsgId) (m : PlainMessage) (child : Pid) (w : PlainWhat) → service.creates s id m child w ≡ Some t → child.home ≡ m.to.home
child_home s t id m child w h1 = search (arith, bind-is, s.images, m.to.home, s.made, when-is, m.to, pid_eq-is, both)

pub created_made : (s t : OneKernel) (id : MsgId) (child : Pid) → kernel.step s (Label.Created id child) ≡ Some t → (q : Pid) → is_some (t.processes q) ≡ true → (is_some (s.processes q) ≡ true) ⊎ Born s id child q
created_made s t id child is q some = elim (cases_Bool (pid_eq child q)) [
  | inl same ↦
      let (m, there, rest) = bind-is (s.bag id) (λ v. service.creates s id v child v.what) t is in
      inr (record { m = m; there = there; home = child_home s t id m child m.what rest; is = pid_eq-is child q same })
  | inr apart ↦ inl (sym (some_alike (t.processes q) (s.processes q) ((step_creates s t id child is).off q apart)) ∙ some)
]

abbrev pub is_birth : Label → Bool
is_birth (Label.Created id child) = true
is_birth l = false

-- no other label makes one
pub step_made : (s t : OneKernel) (l : Label) → is_birth l ≡ false → kernel.step s l ≡ Some t → MadeBefore s t
step_made s t (Label.Created id child) other is = absurd (false≢true (sym other))
step_made s t (Label.End p y) other is = let e = step_ends s t p y is in set_made s t p e.process e.alive e.set
step_made s t (Label.Served id) other is =
    let v = step_serves s t id is in
    elim (cases_Bool (is_kill (plain_kind v.message.what))) [
      | inl kill ↦ set_made s t v.message.to v.process v.alive (v.served.kill kill)
      | inr mild ↦ (λ q some. sym (some_alike (t.processes q) (s.processes q) ((v.served.other mild) q)) ∙ some)
    ]
step_made s t l other is = (λ q some. sym (some_alike (t.processes q) (s.processes q) ((step_alike s t l refl is) q)) ∙ some)

-- Each label keeps where addresses lead, what machines know, and where messages stand.

-- what has ended stays so
older_step : (pt : Point) (s : OneKernel) (l : Label) → Sane pt → kernel.step pt.kernel l ≡ Some s → Older pt.kernel.processes s.processes
older_step pt s l h is q lives =
    let grown = (after_step h.r h.e pt.kernel s l is h.sound).grown.lives q in
    by (is_over (pt.kernel.processes q)) refl grown
  where
    by : (c : Bool) → is_over (pt.kernel.processes q) ≡ c → LifeGrows (pt.kernel.processes q) (s.processes q) → c ≡ false
    by false e grows = refl
    by true e grows = absurd (false≢true (sym lives ∙ stays_over (pt.kernel.processes q) (s.processes q) grows e))

served_learns : (n : ℕ) (l k : Lives) (v : View) (id : MsgId) (o : Option Told) → Older l k → v.acting < n → ((t : Told) → o ≡ Some t → is_kill t.kind ≡ true → is_over (k t.receiver) ≡ true) → ((m : ℕ) (q : Pid) → KnownIs n l v m q (v.known m q)) → Learns n l k v (served_told (handled v id) o)
served_learns n l k v id None older le ends h = learns_nothing n l k v (handled v id) older refl (λ m q. refl) h
served_learns n l k v id (Some t) older le ends h =
    killed_or (Learns n l k v) t.kind (handled v id) t.receiver
    (λ kills. learns n l k v (view.ended (handled v id) t.receiver) t.receiver Unknown older refl refl (λ lives e. absurd (false≢true (sym lives ∙ ends t refl kills))) tt h)
    (λ mild. learns_nothing n l k v (handled v id) older refl (λ m q. refl) h)

-- what a message kills has ended
kill_ends : (pt : Point) (s : OneKernel) (id : MsgId) (t : Told) → Sane pt → kernel.step pt.kernel (Label.Served id) ≡ Some s → pt.view.told id ≡ Some t → is_kill t.kind ≡ true → is_over (s.processes t.receiver) ≡ true
kill_ends pt s id t sane is told kills =
    let l = step_serves pt.kernel s id is in
    let kind = sane.tells.kind id l.message t l.there told in
    let to = sane.tells.receiver id l.message t l.there told in
    ap (λ (q : Pid). is_over (s.processes q)) to ∙ over_is (s.processes l.message.to) (l.served.kill (sym (ap is_kill kind) ∙ kills)).at_

label_learns : (n : ℕ) (pt : Point) (s : OneKernel) (l : Label) → Sane pt → kernel.step pt.kernel l ≡ Some s → pt.view.acting < n → ((m : ℕ) (q : Pid) → KnownIs n pt.kernel.processes pt.view m q (pt.view.known m q)) → Learns n pt.kernel.processes s.processes pt.view (after_label pt.view l)
label_learns n pt s (Label.End p y) sane is le h =
    let v = pt.view in
    learns n pt.kernel.processes s.processes v (after_label v (Label.End p y)) p Unknown (older_step pt s (Label.End p y) sane is) refl refl (λ lives e. absurd (false≢true (sym lives ∙ over_is (s.processes p) (step_ends pt.kernel s p y is).set.at_))) tt h
label_learns n pt s (Label.Created id p) sane is le h = learns n pt.kernel.processes s.processes pt.view (after_label pt.view (Label.Created id p)) p Here (older_step pt s (Label.Created id p) sane is) refl refl (λ lives e. absurd (let f : Here ≡ Unknown = e in cc)) le h
label_learns n pt s (Label.Dropped id) sane is le h =
    let v = pt.view in
    learns_nothing n pt.kernel.processes s.processes v (after_label v (Label.Dropped id)) (older_step pt s (Label.Dropped id) sane is) (acting_dropped (handled v id) id (receiver_of (v.told id))) (λ m q. dropped_known (handled v id) id (receiver_of (v.told id)) m q) h
label_learns n pt s (Label.Served id) sane is le h =
    served_learns n pt.kernel.processes s.processes pt.view id (pt.view.told id) (older_step pt s (Label.Served id) sane is) le (λ t told kills. kill_ends pt s id t sane is told kills) h
label_learns n pt s any_ sane is le h = learns_nothing n pt.kernel.processes s.processes pt.view (after_label pt.view any_) (older_step pt s any_ sane is) refl (λ m q. refl) h

-- what a label leaves the group to be about
served_about : (n : ℕ) (k : Lives) (w v : View) (o : Option Told) → AboutIs n k w v.topic → AboutIs n k w (served_told v o).topic
served_about n k w v None h = h
served_about n k w v (Some t) h = killed_or (λ u. AboutIs n k w u.topic) t.kind v t.receiver (λ kills. tt) (λ mild. h)

dropped_about : (n : ℕ) (k : Lives) (w v : View) (id : MsgId) (o : Option Pid) → AboutIs n k w v.topic → AboutIs n k w (dropped_for v id o).topic
dropped_about n k w v id None h = h
dropped_about n k w v id (Some p) h = h

label_about : (n : ℕ) (k : Lives) (w v : View) (l : Label) → AboutIs n k w v.topic → AboutIs n k w (after_label v l).topic
label_about n k w v (Label.End p y) h = tt
label_about n k w v (Label.Served id) h = served_about n k w (handled v id) (v.told id) h
label_about n k w v (Label.Dropped id) h = dropped_about n k w (handled v id) id (receiver_of (v.told id)) h
label_about n k w v _ h = h

-- what a label needs: its process is known where it is said, or its message's address names that machine
abbrev pub NeedsLabel : ℕ → Point → Label → Type 0
NeedsLabel n pt (Label.Call p k c) = KnowsAt n pt.kernel.processes pt.view p pt.view.acting
NeedsLabel n pt (Label.Send p id) = KnowsAt n pt.kernel.processes pt.view p pt.view.acting
NeedsLabel n pt (Label.Wait p) = KnowsAt n pt.kernel.processes pt.view p pt.view.acting
NeedsLabel n pt (Label.Out p w) = KnowsAt n pt.kernel.processes pt.view p pt.view.acting
NeedsLabel n pt (Label.Served id) = IsAt pt.addresses pt.view id pt.view.acting
NeedsLabel n pt (Label.Gone id) = IsAt pt.addresses pt.view id pt.view.acting
NeedsLabel n pt (Label.Took id) = IsAt pt.addresses pt.view id pt.view.acting
NeedsLabel n pt (Label.Created id child) = IsAt pt.addresses pt.view id pt.view.acting
NeedsLabel n pt (Label.NoSpace id a b) = IsAt pt.addresses pt.view id pt.view.acting
NeedsLabel n pt (Label.Answered id o) = (p : Pid) → pt.kernel.noted id ≡ Some p → KnowsAt n pt.kernel.processes pt.view p pt.view.acting
NeedsLabel n pt _ = ⊤

-- a message's receiver is known where it stands, or at home
pub there_known : (n : ℕ) (pt : Point) (id : MsgId) (m : PlainMessage) → pt.kernel.bag id ≡ Some m → (pt.addresses (Receiver id)).at ≡ pt.view.acting → LineCore n pt → KnowsAt n pt.kernel.processes pt.view m.to pt.view.acting
there_known n pt id m there at h = subst (KnowsAt n pt.kernel.processes pt.view m.to) at (h.all (Receiver id) m.to (Links (ap to_of there)))

pub fixed_home : (n : ℕ) (l : Lives) (v : View) (q : Pid) (m : ℕ) → is_fixed q ≡ true → KnowsAt n l v q m → q.home ≡ m
fixed_home n l v q m fixed h = search arith

received_at : (n : ℕ) (pt : Point) (id : MsgId) → ((m : PlainMessage) → pt.kernel.bag id ≡ Some m → is_fixed m.to ≡ true) → (pt.addresses (Receiver id)).at ≡ pt.view.acting → LineCore n pt → ReceivedAt pt.kernel pt.view.acting id
received_at n pt id fixed at h m there = fixed_home n pt.kernel.processes pt.view m.to pt.view.acting (fixed m there) (there_known n pt id m there at h)

said_on : (n : ℕ) (pt : Point) (s : OneKernel) (l : Label) → kernel.step pt.kernel l ≡ Some s → NeedsLabel n pt l → LineCore n pt → SaidOn (Knows n pt.kernel.processes pt.view) pt.kernel pt.view pt.addresses l
said_on n pt s l h1 h2 h3 = search (arith, there_known, received_at, pt.kernel, created_for)

entered : (pt : Point) (i : MsgId) (h : Sane pt) → is_some (pt.view.told i) ≡ true → is_kernels i ≡ false → 1 ≤ h.e i
entered pt i h some other = search (arith, zero_cases, h.e, pt.view.told, h.untold)

pub outside : (pt : Point) (s : OneKernel) (l : Label) (h : Sane pt) → kernel.step pt.kernel l ≡ Some s → Outside s
outside pt s l h is j x there = not_kernels (λ i. h.r i + reception i l) (λ i. h.e i + entry i pt.kernel s) s j x there (after_step h.r h.e pt.kernel s l is h.sound).sound

keeps_receiver : (pt : Point) (s : OneKernel) (l : Label) (i : MsgId) → Sane pt → kernel.step pt.kernel l ≡ Some s → is_some (pt.view.told i) ≡ true → given pt.addresses (gives pt.kernel pt.view pt.addresses l) (Receiver i) ≡ pt.addresses (Receiver i)
keeps_receiver pt s l i h is some =
    spared_receiver pt.addresses i (gives pt.kernel pt.view pt.addresses l)
    (elim (cases_Bool (is_kernels i)) [
      | inl own ↦ gives_spares pt.kernel s pt.view pt.addresses l i is (outside pt s l h is) own
      | inr other ↦ told_spares h.r h.e pt.kernel s pt.view pt.addresses l i is h.sound (entered pt i h some other)
    ])

-- what was made stays so
made_grows : (c : Bool) (a b : Option Life) → LifeGrows a b → (c || is_some a) ≡ true → (c || is_some b) ≡ true
made_grows true a b grows made = refl
made_grows false None b grows made = absurd (false≢true made)
made_grows false (Some x) (Some y) grows made = refl
made_grows false (Some x) None grows made = absurd (let f : Some x ≡ None = grown_none (Some x) None grows refl in cc)

sends_grow : (n : ℕ) (s t : OneKernel) (q : Pid) → Grown s t → Sends n s q → Sends n t q
sends_grow n s t q grown (inl fixed) = inl fixed
sends_grow n s t q grown (inr made) = inr (made_grows (is_server q) (s.processes q) (t.processes q) (grown.lives q) made)

label_all : (n : ℕ) (pt : Point) (s : OneKernel) (l : Label) → Sane pt → kernel.step pt.kernel l ≡ Some s → AtHome (Knows n pt.kernel.processes pt.view) s (given pt.addresses (gives pt.kernel pt.view pt.addresses l)) → LineCore n pt
    → AllAre (Knows n pt.kernel.processes pt.view) s pt.view (given pt.addresses (gives pt.kernel pt.view pt.addresses l))
label_all n pt s l sane is home h g q (Links e) = homes_are (Knows n pt.kernel.processes pt.view) s (given pt.addresses (gives pt.kernel pt.view pt.addresses l)) home g q e
label_all n pt s l sane is home h g q (Owns (Goes i u at own told to)) =
    let spared = gives_spares pt.kernel s pt.view pt.addresses l i is (outside pt s l sane is) own in
    subst (λ (k : Holder). Knows n pt.kernel.processes pt.view q (given pt.addresses (gives pt.kernel pt.view pt.addresses l) k)) (sym at)
    (subst (Knows n pt.kernel.processes pt.view q) (sym (spared_receiver pt.addresses i (gives pt.kernel pt.view pt.addresses l) spared)) (h.all (Receiver i) q (Owns (Goes i u refl own told to))))
label_all n pt s l sane is home h g q (Owns (Comes i u at own told move to)) =
    let spared = gives_spares pt.kernel s pt.view pt.addresses l i is (outside pt s l sane is) own in
    subst (λ (k : Holder). Knows n pt.kernel.processes pt.view q (given pt.addresses (gives pt.kernel pt.view pt.addresses l) k)) (sym at)
    (subst (Knows n pt.kernel.processes pt.view q) (sym (spared_sender pt.addresses i (gives pt.kernel pt.view pt.addresses l) spared)) (h.all (Sender i) q (Owns (Comes i u refl own told move to))))

-- what is made is known at home
born_home : (n : ℕ) (pt : Point) (s : OneKernel) (id : MsgId) (child q : Pid) → NeedsLabel n pt (Label.Created id child) → kernel.step pt.kernel (Label.Created id child) ≡ Some s → LineCore n pt → Born pt.kernel id child q → There n s.processes (after_label pt.view (Label.Created id child)) q.home q
born_home n pt s id child q need is h b =
    let v = pt.view in
    let here : child.home ≡ v.acting = b.home ∙ received_at n pt id (created_for pt.kernel s id child is) need.0 h b.m b.there in
    let known : (after_label v (Label.Created id child)).known child.home child ≡ Here = ap (λ (m : ℕ). at_record v.known v.acting child Here m child) here ∙ at_record_at v.known v.acting child Here in
    subst (λ (p : Pid). There n s.processes (after_label v (Label.Created id child)) p.home p) b.is
    (subst (λ (m : ℕ). m < n) (sym here) h.acting, λ lives e. (let f : Here ≡ Unknown = sym known ∙ e in cc))

other_home : (n : ℕ) (pt : Point) (s : OneKernel) (w : View) → Grows pt.kernel.processes s.processes pt.view w → MadeBefore pt.kernel s → LineCore n pt → (q : Pid) → is_some (s.processes q) ≡ true → There n s.processes w q.home q
other_home n pt s w grows made h q some = there_grows n pt.kernel.processes s.processes pt.view w q.home q grows (h.home q (some_made pt.kernel q (made q some)))

made_home : (n : ℕ) (pt : Point) (s : OneKernel) (l : Label) → NeedsLabel n pt l → kernel.step pt.kernel l ≡ Some s → Grows pt.kernel.processes s.processes pt.view (after_label pt.view l) → LineCore n pt → (q : Pid) → is_some (s.processes q) ≡ true → There n s.processes (after_label pt.view l) q.home q
made_home n pt s (Label.Created id child) need is grows h q some = elim (created_made pt.kernel s id child is q some) [
  | inl old ↦ there_grows n pt.kernel.processes s.processes pt.view (after_label pt.view (Label.Created id child)) q.home q grows (h.home q (some_made pt.kernel q old))
  | inr new ↦ born_home n pt s id child q need is h new
]
made_home n pt s l need is grows h q some = other_home n pt s (after_label pt.view l) grows (step_made pt.kernel s l refl is) h q some

-- a server is known at home as before
label_home : (n : ℕ) (pt : Point) (s : OneKernel) (l : Label) → NeedsLabel n pt l → kernel.step pt.kernel l ≡ Some s → Grows pt.kernel.processes s.processes pt.view (after_label pt.view l) → LineCore n pt → (q : Pid) → is_made s q ≡ true → There n s.processes (after_label pt.view l) q.home q
label_home n pt s l need is grows h q made = elim (or_cases (is_server q) (is_some (s.processes q)) made) [
  | inl server ↦ there_grows n pt.kernel.processes s.processes pt.view (after_label pt.view l) q.home q grows (h.home q (server_made pt.kernel q server))
  | inr some ↦ made_home n pt s l need is grows h q some
]

asked_within : (n : ℕ) (k : Lives) (s : OneKernel) (v : View) (i : MsgId) (o : Option PlainMessage) → s.bag i ≡ o → s.machines ≡ n → KernelFits s → AboutIs n k v (option_map_or (λ (m : PlainMessage). move_target m.what) o NothingElse)
asked_within n k s v i None there same h = tt
asked_within n k s v i (Some m) there same h = search (arith, m.what)

topic_within : (n : ℕ) (k : Lives) (s : OneKernel) (v : View) (l : Label) → s.machines ≡ n → KernelFits s → AboutIs n k v v.topic → AboutIs n k v (topic_by s v.topic (Some l))
topic_within n k s v (Label.Asked i) same h old = asked_within n k s v i (s.bag i) refl same h
topic_within n k s v _ same h old = old

pub label_core : (n : ℕ) (pt : Point) (s : OneKernel) (l : Label) → Sane pt → NeedsLabel n pt l → kernel.step pt.kernel l ≡ Some s → LineCore n pt → LineCore n (moved pt (Line.Label l) s)
label_core n pt s l sane need is h =
    let v = pt.view in
    let w = after_label v l in
    let a = pt.addresses in
    let b = given a (gives pt.kernel v a l) in
    let lives = pt.kernel.processes in
    let after = s.processes in
    let learnt = label_learns n pt s l sane is h.acting h.known in
    let told : w.told ≡ v.told = label_told v l in
    let home = label_on (Knows n pt.kernel.processes v) pt.kernel s v a l is sane.sound.entered.named (said_on n pt s l is need h) (at_home (Knows n pt.kernel.processes v) pt.kernel a (λ q. inl refl) (λ g q e. h.all g q (Links e)) h.pending) in
    let some : 0 < n = let le = h.acting in omega (arith, le) in
    let left = step_leaves n pt.kernel s l h.machines some (λ p k e. let (x, alive) = sane.sound.notes.lives p k e in ap is_some alive) is in
    let all = label_all n pt s l sane is home h in
    let behind : Point = record { kernel = s; view = w; addresses = b } in
    let core : LineCore n behind = record {
      acting = subst (λ (k : ℕ). k < n) (sym learnt.acting) h.acting;
      machines = left.machines ∙ h.machines;
      all = λ g q e. knows_grow n lives after v w q (b g).at learnt.grows (all_as (Knows n pt.kernel.processes v) s v w b told all g q e);
      tells = λ i u e. about_grows n lives after v w u.about learnt.grows (h.tells i u (sym (ap (λ (f : MsgId → Option Told). f i) told) ∙ e));
      real = λ i u e own. own_grows n lives after v w u learnt.grows (h.real i u (sym (ap (λ (f : MsgId → Option Told). f i) told) ∙ e) own);
      topic = label_about n after w v l (about_grows n lives after v w v.topic learnt.grows h.topic);
      known = learnt.known;
      places = λ i z e. let k = places_label (IsAt a v) v l h.places i z e in (ap (λ (p : Place). p.at) (keeps_receiver pt s l i sane is k.1) ∙ k.0, ap (λ (f : MsgId → Option Told). is_some (f i)) told ∙ k.1);
      senders = λ i m there. elim (left.senders i m there) [
        | inl old ↦ sends_grow n pt.kernel s m.sender (after_step sane.r sane.e pt.kernel s l is sane.sound).grown (h.senders i m old)
        | inr new ↦ sends_grow n pt.kernel s m.sender (after_step sane.r sane.e pt.kernel s l is sane.sound).grown new
      ];
      fits = fits_step sane.r sane.e pt.kernel s l is sane.sound h.pending h.fits;
      home = label_home n pt s l need is learnt.grows h;
      pending = home.pending;
    } in
    let a_ = topic_by pt.kernel w.topic (Some l) in
    let u = view.about w a_ in
    let alike = nothing_grows after w u (λ m q. refl) in
    core_view n behind u b core.acting alike (λ m q. known_grows n after after w u m q (w.known m q) alike (core.known m q)) refl (about_grows n after after w u a_ alike (topic_within n after pt.kernel w l h.machines h.fits core.topic))
    core.all (places_about (IsAt b w) w a_ core.places) core

-- Each line keeps where addresses lead, what machines know, and where messages stand, if it has what it needs.

abbrev at_view : Point → View → Point
at_view pt w = record { kernel = pt.kernel; view = w; addresses = pt.addresses }

-- a line that only says what a machine learns
learnt_core : (n : ℕ) (pt : Point) (w : View) → Learns n pt.kernel.processes pt.kernel.processes pt.view w → w.told ≡ pt.view.told → AboutIs n pt.kernel.processes w w.topic → Places (IsAt pt.addresses pt.view) w → LineCore n pt → LineCore n (at_view pt w)
learnt_core n pt w learnt told topic places h = core_view n pt w pt.addresses (subst (λ (k : ℕ). k < n) (sym learnt.acting) h.acting) learnt.grows learnt.known told topic h.all places h

-- and one that says nothing of processes
quiet_core : (n : ℕ) (pt : Point) (l : Line) → is_put l ≡ false → (view_after pt.view l).acting ≡ pt.view.acting → ((m : ℕ) (q : Pid) → (view_after pt.view l).known m q ≡ pt.view.known m q) → (view_after pt.view l).told ≡ pt.view.told → AboutIs n pt.kernel.processes pt.view (view_after pt.view l).topic
    → Brings (IsAt pt.addresses pt.view) pt.view l → LineCore n pt → LineCore n (at_view pt (view_after pt.view l))
quiet_core n pt l quiet acting known told topic brings h =
    let lives = pt.kernel.processes in
    let learnt = learns_nothing n lives lives pt.view (view_after pt.view l) (stays_old lives) acting known h.known in
    learnt_core n pt (view_after pt.view l) learnt told (about_grows n lives lives pt.view (view_after pt.view l) (view_after pt.view l).topic learnt.grows topic) (places_line (IsAt pt.addresses pt.view) pt.view l brings h.places) h

queued_acting : (v : View) (i : MsgId) (o : Option Pid) → ((queued_for v i o).acting ≡ v.acting) × ((queued_for v i o).topic ≡ v.topic)
queued_acting v i None = (refl, refl)
queued_acting v i (Some p) = (refl, refl)

held_acting : (v : View) (i : MsgId) (o : Option Pid) → ((held_for v i o).acting ≡ v.acting) × ((held_for v i o).topic ≡ v.topic)
held_acting v i None = (refl, refl)
held_acting v i (Some p) = (refl, refl)

taken_same : (v : View) (b : ℕ) (o : Option MsgId) → ((taken_id v b o).acting ≡ v.acting) × ((taken_id v b o).known ≡ v.known) × ((taken_id v b o).topic ≡ v.topic)
taken_same v b None = (refl, refl, refl)
taken_same v b (Some i) = (refl, refl, refl)

proto_topic : (n : ℕ) (pt : Point) (i : MsgId) (o : Option Told) → pt.view.told i ≡ o → LineCore n pt → AboutIs n pt.kernel.processes pt.view (after_proto (handled pt.view i) o).topic
proto_topic n pt i None is h = tt
proto_topic n pt i (Some t) is h = h.tells i t is

-- a step of a migration
gone_is : (n : ℕ) (l : Lives) (v : View) (m : ℕ) (p : Pid) (k : Known) (moves : ℕ) → ((to : ℕ) → k ≡ Frozen to → There n l v to p) → KnownIs n l v m p k → KnownIs n l v m p (gone_to k moves)
gone_is n l v m p (Frozen to) moves there h = (h.0, there to refl, h.2)
gone_is n l v m p _ moves there h = h

gone_unknown : (k : Known) (moves : ℕ) → gone_to k moves ≡ Unknown → k ≡ Unknown
gone_unknown k moves h1 = search arith

abbrev pub NeedsStage : ℕ → Point → Pid → Stage → Type 0
NeedsStage n pt p Stage.Frozen = (aim pt.view pt.view.topic < n) × (is_fixed p ≡ false)
NeedsStage n pt p Stage.Accepted = (front_of (pt.view.inbox pt.view.acting) < n) × (is_fixed p ≡ false)
NeedsStage n pt p Stage.Left = (to : ℕ) → pt.view.known pt.view.acting p ≡ Frozen to → There n pt.kernel.processes pt.view to p
NeedsStage n pt p _ = ⊤

stage_learns : (n : ℕ) (pt : Point) (p : Pid) (s : Stage) → NeedsStage n pt p s → LineCore n pt → Learns n pt.kernel.processes pt.kernel.processes pt.view (after_stage pt.view p s)
stage_learns n pt p Stage.Frozen need h =
    let set = sets pt.view p pt.view.topic in
    learns n pt.kernel.processes pt.kernel.processes pt.view (after_stage pt.view p Stage.Frozen) p (Frozen (aim pt.view pt.view.topic)) (stays_old pt.kernel.processes) set.acting set.known (λ lives e. cc) (h.acting, need.0, need.1) h.known
stage_learns n pt p Stage.Accepted need h = learns n pt.kernel.processes pt.kernel.processes pt.view (after_stage pt.view p Stage.Accepted) p (Incoming (front_of (pt.view.inbox pt.view.acting))) (stays_old pt.kernel.processes) refl refl (λ lives e. cc) (h.acting, need.0, need.1) h.known
stage_learns n pt p Stage.Left need h =
    let v = pt.view in
    let moves = v.moves p + 1 in
    learns n pt.kernel.processes pt.kernel.processes v (after_stage v p Stage.Left) p (gone_to (v.known v.acting p) moves) (stays_old pt.kernel.processes) refl refl (λ lives. gone_unknown (v.known v.acting p) moves) (gone_is n pt.kernel.processes v v.acting p (v.known v.acting p) moves need (h.known v.acting p)) h.known
stage_learns n pt p Stage.Restarted need h = learns n pt.kernel.processes pt.kernel.processes pt.view (after_stage pt.view p Stage.Restarted) p Here (stays_old pt.kernel.processes) refl refl (λ lives e. cc) h.acting h.known
stage_learns n pt p any_ need h = learns_nothing n pt.kernel.processes pt.kernel.processes pt.view (after_stage pt.view p any_) (stays_old pt.kernel.processes) refl (λ m q. refl) h.known

stage_topic : (n : ℕ) (pt : Point) (p : Pid) (s : Stage) → LineCore n pt → AboutIs n pt.kernel.processes pt.view (after_stage pt.view p s).topic
stage_topic n pt p s h1 = search (arith, pt.view, sets, pt.view.topic)

stage_core : (n : ℕ) (pt : Point) (p : Pid) (s : Stage) → NeedsStage n pt p s → LineCore n pt → LineCore n (at_view pt (after_stage pt.view p s))
stage_core n pt p s need h =
    let learnt = stage_learns n pt p s need h in
    learnt_core n pt (after_stage pt.view p s) learnt (hushed pt.view (Line.Migration s p) refl).told (about_grows n pt.kernel.processes pt.kernel.processes pt.view (after_stage pt.view p s) (after_stage pt.view p s).topic learnt.grows (stage_topic n pt p s h))
    (places_line (IsAt pt.addresses pt.view) pt.view (Line.Migration s p) tt h.places) h

stays_core : (n : ℕ) (pt : Point) (p : Pid) → LineCore n pt → LineCore n (at_view pt (view_after pt.view (Line.Stays p)))
stays_core n pt p h =
    let w = view_after pt.view (Line.Stays p) in
    let learnt = learns n pt.kernel.processes pt.kernel.processes pt.view w p Here (stays_old pt.kernel.processes) refl refl (λ lives e. cc) h.acting h.known in
    learnt_core n pt w learnt refl (about_grows n pt.kernel.processes pt.kernel.processes pt.view w pt.view.topic learnt.grows h.topic) (places_line (IsAt pt.addresses pt.view) pt.view (Line.Stays p) tt h.places) h

-- what a line needs
abbrev pub NeedsLine : ℕ → Point → Line → Type 0
NeedsLine n pt (Line.Head d) = IsStep n d
NeedsLine n pt (Line.Label l) = NeedsLabel n pt l
NeedsLine n pt (Line.Put a b id k q) = NeedsPut n pt b id k q
NeedsLine n pt (Line.Queued id) = IsAt pt.addresses pt.view id pt.view.acting
NeedsLine n pt (Line.Held id) = IsAt pt.addresses pt.view id pt.view.acting
NeedsLine n pt (Line.Forwarded id m) = NeedsForward n pt id
NeedsLine n pt (Line.SentOn p k) = NeedsSent n pt p
NeedsLine n pt (Line.Called p k) = NeedsCalled n pt p
NeedsLine n pt (Line.Buried id k) = NeedsOver pt id
NeedsLine n pt (Line.Migration s p) = NeedsStage n pt p s
NeedsLine n pt _ = ⊤

head_known : (n : ℕ) (l : Lives) (v w : View) → w.known ≡ v.known → ((m : ℕ) (p : Pid) → KnownIs n l v m p (v.known m p)) → (m : ℕ) (p : Pid) → KnownIs n l w m p (w.known m p)
head_known n l v w same h m p =
    let alike : (i : ℕ) (q : Pid) → w.known i q ≡ v.known i q = λ i q. ap (λ (f : ℕ → Pid → Known). f i q) same in
    subst (KnownIs n l w m p) (sym (alike m p)) (known_grows n l l v w m p (v.known m p) (nothing_grows l v w alike) (h m p))

-- a head names one of so many machines
head_acts : (n : ℕ) (pt : Point) (d : Step) → IsStep n d → LineCore n pt → actor pt.view d < n
head_acts n pt d need h = head_less n pt.view d (λ m q some. known_within n pt.kernel.processes pt.view m q (pt.view.known m q) some (h.known m q)) need

head_core : (n : ℕ) (pt : Point) (d : Step) → IsStep n d → LineCore n pt → LineCore n (at_view pt (after_head pt.view d))
head_core n pt (Step.Migrate p m) need h =
    let d = Step.Migrate p m in
    core_view n pt (after_head pt.view d) pt.addresses (head_acts n pt d need h) (nothing_grows pt.kernel.processes pt.view (after_head pt.view d) (λ i q. refl)) (head_known n pt.kernel.processes pt.view (after_head pt.view d) refl h.known) refl need h.all (places_line (IsAt pt.addresses pt.view) pt.view (Line.Head d) tt h.places) h
head_core n pt any_ need h = core_view n pt (after_head pt.view any_) pt.addresses (head_acts n pt any_ need h) (nothing_grows pt.kernel.processes pt.view (after_head pt.view any_) (λ i q. refl)) (head_known n pt.kernel.processes pt.view (after_head pt.view any_) refl h.known) refl tt h.all (places_line (IsAt pt.addresses pt.view) pt.view (Line.Head any_) tt h.places) h

pub packet_core : (n : ℕ) (pt : Point) (a b k : ℕ) (l : Load) → LineCore n pt → LineCore n (moved pt (Line.Packet a b k l) pt.kernel)
packet_core n pt a b k l h = quiet_core n pt (Line.Packet a b k l) refl refl (λ m q. refl) refl h.topic tt h

-- each line keeps all of it
pub line_core : (n : ℕ) (pt : Point) (s : OneKernel) (l : Line) → NeedsLine n pt l → Sane pt → kernel_after pt.kernel (label_of l) ≡ Some s → LineCore n pt → LineCore n (moved pt l s)
line_core n pt s (Line.Label l) need sane is h = label_core n pt s l sane need is h
line_core n pt s (Line.Head d) need sane is h = let f : pt.kernel ≡ s = cc in subst (λ (x : OneKernel). LineCore n (moved pt (Line.Head d) x)) f (head_core n pt d need h)
line_core n pt s (Line.Put a b id k q) need sane is h = let f : pt.kernel ≡ s = cc in subst (λ (x : OneKernel). LineCore n (moved pt (Line.Put a b id k q) x)) f (put_core n pt a b id k q need h)
line_core n pt s (Line.Forwarded id m) need sane is h = let f : pt.kernel ≡ s = cc in subst (λ (x : OneKernel). LineCore n (moved pt (Line.Forwarded id m) x)) f (forwarded_core n pt id m need h)
line_core n pt s (Line.SentOn p k) need sane is h = let f : pt.kernel ≡ s = cc in subst (λ (x : OneKernel). LineCore n (moved pt (Line.SentOn p k) x)) f (sent_core n pt p k need h)
line_core n pt s (Line.Called p k) need sane is h = let f : pt.kernel ≡ s = cc in subst (λ (x : OneKernel). LineCore n (moved pt (Line.Called p k) x)) f (called_core n pt p k need h)
line_core n pt s (Line.Updated id k) need sane is h = let f : pt.kernel ≡ s = cc in subst (λ (x : OneKernel). LineCore n (moved pt (Line.Updated id k) x)) f (updated_core n pt id k h)
line_core n pt s (Line.Buried id k) need sane is h = let f : pt.kernel ≡ s = cc in subst (λ (x : OneKernel). LineCore n (moved pt (Line.Buried id k) x)) f (buried_core n pt id k need h)
line_core n pt s (Line.Migration t p) need sane is h = let f : pt.kernel ≡ s = cc in subst (λ (x : OneKernel). LineCore n (moved pt (Line.Migration t p) x)) f (stage_core n pt p t need h)
line_core n pt s (Line.Stays p) need sane is h = let f : pt.kernel ≡ s = cc in subst (λ (x : OneKernel). LineCore n (moved pt (Line.Stays p) x)) f (stays_core n pt p h)
line_core n pt s (Line.Idle m) need sane is h = let f : pt.kernel ≡ s = cc in subst (λ (x : OneKernel). LineCore n (moved pt (Line.Idle m) x)) f (quiet_core n pt (Line.Idle m) refl (refl) (λ m q. refl) (refl) (h.topic) tt h)
line_core n pt s (Line.Resent m k) need sane is h = let f : pt.kernel ≡ s = cc in subst (λ (x : OneKernel). LineCore n (moved pt (Line.Resent m k) x)) f (quiet_core n pt (Line.Resent m k) refl (refl) (λ m q. refl) (refl) (h.topic) tt h)
line_core n pt s (Line.Lacks p a b) need sane is h = let f : pt.kernel ≡ s = cc in subst (λ (x : OneKernel). LineCore n (moved pt (Line.Lacks p a b) x)) f (quiet_core n pt (Line.Lacks p a b) refl (refl) (λ m q. refl) (refl) (tt) tt h)
line_core n pt s (Line.Queued id) need sane is h = let f : pt.kernel ≡ s = cc in subst (λ (x : OneKernel). LineCore n (moved pt (Line.Queued id) x)) f (quiet_core n pt (Line.Queued id) refl ((queued_acting (handled pt.view id) id (receiver_of (pt.view.told id))).0) (λ m q. queued_known (handled pt.view id) id (receiver_of (pt.view.told id)) m q) ((hushed pt.view (Line.Queued id) refl).told) (subst (AboutIs n pt.kernel.processes pt.view) (sym (queued_acting (handled pt.view id) id (receiver_of (pt.view.told id))).1) h.topic) need h)
line_core n pt s (Line.Held id) need sane is h = let f : pt.kernel ≡ s = cc in subst (λ (x : OneKernel). LineCore n (moved pt (Line.Held id) x)) f (quiet_core n pt (Line.Held id) refl ((held_acting (handled pt.view id) id (receiver_of (pt.view.told id))).0) (λ m q. held_known (handled pt.view id) id (receiver_of (pt.view.told id)) m q) ((hushed pt.view (Line.Held id) refl).told) (subst (AboutIs n pt.kernel.processes pt.view) (sym (held_acting (handled pt.view id) id (receiver_of (pt.view.told id))).1) h.topic) need h)
line_core n pt s (Line.Proto id) need sane is h = let f : pt.kernel ≡ s = cc in subst (λ (x : OneKernel). LineCore n (moved pt (Line.Proto id) x)) f (quiet_core n pt (Line.Proto id) refl (proto_acting (handled pt.view id) (pt.view.told id)) (λ m q. proto_known (handled pt.view id) (pt.view.told id) m q) ((hushed pt.view (Line.Proto id) refl).told) (proto_topic n pt id (pt.view.told id) refl h) tt h)
line_core n pt s (Line.Taken a b k) need sane is h =
    let f : pt.kernel ≡ s = cc in
    let u = view.with_pair pt.view a b (record (pt.view.pair a b) { taken = (pt.view.pair a b).taken + 1; kept = filter (λ j. not (j == k)) (pt.view.pair a b).kept }) in
    let same = taken_same u b (oldest (pt.view.pair a b)) in
    subst (λ (t : OneKernel). LineCore n (moved pt (Line.Taken a b k) t)) f
    (quiet_core n pt (Line.Taken a b k) refl same.0 (λ m q. ap (λ (g : ℕ → Pid → Known). g m q) same.1) (hushed pt.view (Line.Taken a b k) refl).told (subst (AboutIs n pt.kernel.processes pt.view) (sym same.2) h.topic) tt h)
line_core n pt s any_ need sane is h = let f : pt.kernel ≡ s = cc in subst (λ (x : OneKernel). LineCore n (moved pt any_ x)) f (quiet_core n pt any_ refl (refl) (λ m q. refl) (refl) (h.topic) tt h)
