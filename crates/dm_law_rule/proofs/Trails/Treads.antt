-- Each line keeps the trails, what machines know, and all addresses in agreement, where it fits.
use Rattle.dm_law_rule.proofs.Names.{◌≡◌, ◌≢◌, ℕ, ◌+◌, ◌≤◌, Bool, true, false, List, ◌++◌, length, refl, ap, ◌∙◌, sym, subst, ⊤, ◌==◌, not, filter, slice_get, Option, None, Some, Pid, MsgId, MessageKind, manager, Label, OneKernel, Step, act_of}
use Rattle.dm_law_rule.proofs.Names.{bind-is, Line, Stage, View, Told, Known, Unknown, Here, Frozen, Forward, is_kernels, own_id, view_after, after_label, after_head, after_put, after_proto, handled, taken_id, queued_for, held_for, Incoming}
use Rattle.dm_law_rule.proofs.Names.{forwarded_for, forward_about, served_told, ends_by, receiver_of, Addresses, Receiver, Sender, given, forwards, all_follow, own_given, first_gives, ascends, Nowhere, Moves, IsIn, is_restart, addresses_by}
use Rattle.dm_law_rule.proofs.Names.{is_early, Point, moved, after_line, times, Trails, Trail, StoodOnTrail, IsOn, AddressesOn, OwnOn, trails_after, gives, seen, sort_of, arith, is_server, is_alive, About, PlainMessage, PlainWhat, pid_eq}
use Rattle.dm_law_rule.proofs.Names.{pid_eq-is}
use Rattle.dm_law_rule.proofs.Hushed.{hushed}
use Rattle.dm_law_rule.proofs.Seen.{sets}
use Rattle.dm_law_rule.proofs.Homes.Labels.{SaidOn}
use Rattle.dm_law_rule.proofs.Phases.Lines.{queued_known, held_known, dropped_known, forwarded_known}
use Rattle.dm_law_rule.proofs.Phases.Pieces.{proto_known}
use Rattle.dm_law_rule.proofs.Trails.Known.{get_at_end, trail_same, trail_less}
use Rattle.dm_law_rule.proofs.Trails.Alive.{alive_before, end_over, kill_over}
use Rattle.dm_law_rule.proofs.Trails.Places.{Named, AllAre, on_grown, Links, Goes, Comes, Owns}
use Rattle.dm_law_rule.proofs.Trails.Lines.{all_are, links_are, receivers_are, senders_are, forwarded_all, sent_on_all, called_all, updated_all}
use Rattle.dm_law_rule.proofs.Trails.Puts.{is_own, put_all, put_routed, told_again, about_put}
use Rattle.dm_law_rule.proofs.Trails.Steps.{frozen_trail, accepted_trail, stays_trail, ended_trail, born_trail, sent_on_at, sent_on_grows, sent_on_trail, left_line_trail, called_trail, source_holds, back_trail, destination_knows}
use Rattle.dm_law_rule.proofs.Trails.Spares.{Outside}
use Rattle.dm_law_rule.proofs.Trails.Labels.{label_links, label_own, label_pending}
use Rattle.dm_onekernel.specs.Step as kernel
use Rattle.dm_law_rule.specs.View as view
use Rattle.dm_law_rule.proofs.Homes.Serves as serves

-- what each line keeps
pub record Treads (pt : Point) (t : Trails) : Type 0 where
  pub trail : (q : Pid) → Trail (is_alive pt.kernel q) pt.view t q
  pub links : AddressesOn pt.kernel pt.addresses t
  pub own : OwnOn pt.view pt.addresses t
  pub pending : ascends 0 pt.kernel.manager.pending pt.kernel.manager.sent ≡ true

-- where a line fits: a label
abbrev pub KnownFits : Point → Trails → Label → Type 0
KnownFits pt t (Label.End p y) = is_server p ≡ false
KnownFits pt t (Label.Created id p) = ((m : ℕ) → pt.view.known m p ≡ Unknown) × (p.home ≡ pt.view.acting) × StoodOnTrail pt.view t p Nowhere
KnownFits pt t (Label.Served id) =
    (u : Told) → pt.view.told id ≡ Some u → u.kind ≡ MessageKind.Kill → (is_server u.receiver ≡ false) × ((m : PlainMessage) → pt.kernel.bag id ≡ Some m → (m.to ≡ u.receiver) × (m.what ≡ PlainWhat.Kill))
KnownFits pt t _ = ⊤

pub record LabelFits (pt : Point) (t : Trails) (l : Label) : Type 0 where
  pub named : serves.Named pt.kernel
  pub said : SaidOn (IsOn t) pt.kernel pt.view pt.addresses l
  pub outside : (s : OneKernel) → kernel.step pt.kernel l ≡ Some s → Outside s
  pub known : KnownFits pt t l

-- a message is forwarded from where its receiver went away
pub record ForwardFits (pt : Point) (id : MsgId) : Type 0 where
  pub u : Told
  pub d : ℕ
  pub n : ℕ
  pub told : pt.view.told id ≡ Some u
  pub away : pt.view.known pt.view.acting u.receiver ≡ Forward d n
  pub for_it : (q : Pid) → Named pt.kernel pt.view (Receiver id) q → q ≡ u.receiver
  pub outside : pt.kernel.bag (own_id pt.view) ≡ None
  pub fresh : pt.view.told (own_id pt.view) ≡ None

-- all was taken of a process
pub record SentOnFits (pt : Point) (t : Trails) (p : Pid) : Type 0 where
  pub s : ℕ
  pub d : ℕ
  pub o : Option MsgId
  pub phase : IsIn pt.view p (Moves MessageKind.AllTaken s d o)
  pub acts : pt.view.acting ≡ s
  pub long : length (t p) ≡ pt.view.moves p + 1
  pub for_it : (i : MsgId) (q : Pid) → 1 ≤ times i (pt.view.queue pt.view.acting p ++ pt.view.held pt.view.acting p) → Named pt.kernel pt.view (Receiver i) q → q ≡ p

-- a process that was coming goes back to where it stands, at the end of its trail
pub record CalledFits (pt : Point) (t : Trails) (p : Pid) : Type 0 where
  pub from : ℕ
  pub comes : pt.view.known pt.view.acting p ≡ Incoming from
  pub at : slice_get (t p) (pt.view.moves p) ≡ Some from
  pub long : length (t p) ≡ pt.view.moves p + 1
  pub apart : from ≢ pt.view.acting
  pub for_it : (i : MsgId) (q : Pid) → 1 ≤ times i (pt.view.held pt.view.acting p) → Named pt.kernel pt.view (Receiver i) q → q ≡ p

pub record LeftFits (pt : Point) (t : Trails) (p : Pid) : Type 0 where
  pub d : ℕ
  pub holds : pt.view.known pt.view.acting p ≡ Frozen d
  pub at : slice_get (t p) (pt.view.moves p + 1) ≡ Some d
  pub long : length (t p) ≡ pt.view.moves p + 2
  pub apart : d ≢ pt.view.acting

-- a process moves, and a test of the kind of its message holds
pub record MovesFits (pt : Point) (p : Pid) (test : MessageKind → Bool) : Type 0 where
  pub k : MessageKind
  pub s : ℕ
  pub d : ℕ
  pub o : Option MsgId
  pub phase : IsIn pt.view p (Moves k s d o)
  pub off : test k ≡ false

-- a message that was put before, a kernel's own, or one of the bag
pub data PutFits (pt : Point) (t : Trails) (id : MsgId) (k : MessageKind) (q : Pid) : Type 0 where
  Again : (u : Told) → pt.view.told id ≡ Some u → PutFits pt t id k q
  Own : pt.kernel.bag id ≡ None → pt.view.told id ≡ None → IsOn t q (given pt.addresses (own_given pt.kernel pt.view pt.addresses id q (sort_of k)) (Receiver id))
      → (k ≡ MessageKind.Migrate → IsOn t manager (given pt.addresses (own_given pt.kernel pt.view pt.addresses id q (sort_of k)) (Sender id))) → PutFits pt t id k q
  Routed : is_kernels id ≡ false → is_own k ≡ false → pt.view.told id ≡ None → PutFits pt t id k q

abbrev pub StageFits : Point → Trails → Pid → Stage → Type 0
StageFits pt t p Stage.Frozen = pt.view.known pt.view.acting p ≡ Here
StageFits pt t p Stage.Accepted = MovesFits pt p is_restart
StageFits pt t p Stage.Left = LeftFits pt t p
StageFits pt t p Stage.Restarted = MovesFits pt p is_early
StageFits pt t p _ = ⊤

-- only what has ended is forgotten
abbrev pub BuriedFits : Point → MsgId → Type 0
BuriedFits pt id = (u : Told) (p : Pid) → pt.view.told id ≡ Some u → u.about ≡ view.Of p → is_alive pt.kernel p ≡ false

abbrev pub LineFits : Point → Trails → Line → Type 0
LineFits pt t (Line.Label l) = LabelFits pt t l
LineFits pt t (Line.Put a b id k q) = PutFits pt t id k q
LineFits pt t (Line.Forwarded id m) = ForwardFits pt id
LineFits pt t (Line.SentOn p n) = SentOnFits pt t p
LineFits pt t (Line.Called p n) = CalledFits pt t p
LineFits pt t (Line.Migration s p) = StageFits pt t p s
LineFits pt t (Line.Stays p) = MovesFits pt p is_restart
LineFits pt t (Line.Buried id n) = BuriedFits pt id
LineFits pt t _ = ⊤

-- addresses that stay
own_as : (v w : View) (a : Addresses) (t : Trails) → w.told ≡ v.told → ((p : Pid) (m c : ℕ) → w.topic ≡ view.Place p m c → slice_get (t p) c ≡ Some m) → OwnOn v a t → OwnOn w a t
own_as v w a t told topic h = search arith

own_of : (s : OneKernel) (v : View) (a : Addresses) (t : Trails) → AllAre s v a t → ((i : MsgId) (u : Told) (p : Pid) (m c : ℕ) → v.told i ≡ Some u → u.about ≡ view.Place p m c → slice_get (t p) c ≡ Some m)
    → ((p : Pid) (m c : ℕ) → v.topic ≡ view.Place p m c → slice_get (t p) c ≡ Some m) → OwnOn v a t
own_of s v a t h about topic = record { receiver = receivers_are s v a t h; sender = senders_are s v a t h; about = about; topic = topic }

same_topic : (v w : View) (a : Addresses) (t : Trails) → w.topic ≡ v.topic → OwnOn v a t → (p : Pid) (m c : ℕ) → w.topic ≡ view.Place p m c → slice_get (t p) c ≡ Some m
same_topic v w a t same h p m c e = h.topic p m c (sym same ∙ e)

abbrev pub at_view : Point → View → Point
at_view pt w = record { kernel = pt.kernel; view = w; addresses = pt.addresses }

learns_treads : (pt : Point) (w : View) (t : Trails) → ((q : Pid) → Trail (is_alive pt.kernel q) w t q) → w.told ≡ pt.view.told → ((p : Pid) (m c : ℕ) → w.topic ≡ view.Place p m c → slice_get (t p) c ≡ Some m) → Treads pt t → Treads (at_view pt w) t
learns_treads pt w t trail told topic h = record { trail = trail; links = h.links; own = own_as pt.view w pt.addresses t told topic h.own; pending = h.pending }

quiet_treads : (pt : Point) (w : View) (t : Trails) → ((m : ℕ) (q : Pid) → w.known m q ≡ pt.view.known m q) → w.told ≡ pt.view.told → ((p : Pid) (m c : ℕ) → w.topic ≡ view.Place p m c → slice_get (t p) c ≡ Some m) → Treads pt t → Treads (at_view pt w) t
quiet_treads pt w t known told topic h = learns_treads pt w t (λ q. trail_same pt.view w t t q (λ m. known m q) refl (h.trail q)) told topic h

-- what the lines of messages leave
pub queued_topic : (v : View) (i : MsgId) (o : Option Pid) → (queued_for v i o).topic ≡ v.topic
queued_topic v i None = refl
queued_topic v i (Some p) = refl

pub held_topic : (v : View) (i : MsgId) (o : Option Pid) → (held_for v i o).topic ≡ v.topic
held_topic v i o = search arith

pub taken_topic : (v : View) (b : ℕ) (o : Option MsgId) → (taken_id v b o).topic ≡ v.topic
taken_topic v b None = refl
taken_topic v b (Some i) = refl

taken_known : (v : View) (b : ℕ) (o : Option MsgId) (m : ℕ) (q : Pid) → (taken_id v b o).known m q ≡ v.known m q
taken_known v b None m q = refl
taken_known v b (Some i) m q = refl

-- the pair once its oldest message was taken
abbrev taken_pair : View → ℕ → ℕ → ℕ → View
taken_pair v a b n = view.with_pair v a b (record (v.pair a b) { taken = (v.pair a b).taken + 1; kept = filter (λ k. not (k == n)) (v.pair a b).kept })

head_treads : (pt : Point) (t : Trails) (d : Step) → Treads pt t → Treads (at_view pt (after_head pt.view d)) t
head_treads pt t (Step.Turn m) h = quiet_treads pt (after_head pt.view (Step.Turn m)) t (λ n q. refl) refl (λ p n c e. cc) h
head_treads pt t any_ h = quiet_treads pt (after_head pt.view any_) t (λ n q. refl) refl (λ p n c e. cc) h

proto_place : (v w : View) (a : Addresses) (t : Trails) (id : MsgId) (o : Option Told) → v.told id ≡ o → OwnOn v a t → (p : Pid) (m c : ℕ) → (after_proto w o).topic ≡ view.Place p m c → slice_get (t p) c ≡ Some m
proto_place v w a t id None told h p m c e = cc
proto_place v w a t id (Some u) told h p m c e = h.about id u p m c told e

-- a kill ends the receiver, which doesn't live behind it
served_trail : (lived lives : Bool) (v : View) (t : Trails) (q : Pid) (o : Option Told) → (lives ≡ true → lived ≡ true) → ((u : Told) → o ≡ Some u → u.kind ≡ MessageKind.Kill → pid_eq u.receiver q ≡ true → lives ≡ false) → Trail lived v t q → Trail lives (served_told v o) t q
served_trail lived lives v t q None before over h = trail_less lived lives v t q before h
served_trail lived lives v t q (Some u) before over h =
    (elim u.kind as (λ k. (k ≡ MessageKind.Kill → pid_eq u.receiver q ≡ true → lives ≡ false) → Trail lives (ends_by (sort_of k) v (Some u.receiver)) t q)
    [ MessageKind.Kill ↦ λ off. ended_trail lived lives v (ends_by (sort_of MessageKind.Kill) v (Some u.receiver)) t u.receiver q refl before (off refl) h | _ ↦ λ off. trail_less lived lives v t q before h ]) (over u refl)

handled_trail : {lives : Bool} (v : View) (t : Trails) (id : MsgId) (q : Pid) → Trail lives v t q → Trail lives (handled v id) t q
handled_trail v t id q h = trail_same v (handled v id) t t q (λ m. refl) refl h

label_trail : (pt : Point) (s : OneKernel) (t : Trails) (l : Label) (q : Pid) → kernel.step pt.kernel l ≡ Some s → KnownFits pt t l → Trail (is_alive pt.kernel q) pt.view t q → Trail (is_alive s q) (after_label pt.view l) t q
label_trail pt s t (Label.End p y) q is off h =
    let over : is_alive s p ≡ false = end_over pt.kernel s p y is off in
    ended_trail (is_alive pt.kernel q) (is_alive s q) pt.view (after_label pt.view (Label.End p y)) t p q refl (alive_before pt.kernel s (Label.End p y) is q refl) (λ same. subst (λ (r : Pid). is_alive s r ≡ false) (pid_eq-is p q same) over) h
label_trail pt s t (Label.Created id p) q is fits h =
    born_trail (is_alive pt.kernel q) (is_alive s q) pt.view (after_label pt.view (Label.Created id p)) t p q refl fits.0 fits.1 fits.2 (alive_before pt.kernel s (Label.Created id p) is q) h
label_trail pt s t (Label.Served id) q is fits h =
    served_trail (is_alive pt.kernel q) (is_alive s q) (handled pt.view id) t q (pt.view.told id) (alive_before pt.kernel s (Label.Served id) is q refl)
    (λ u told kill same. let (off, kills) = fits u told kill in subst (λ (r : Pid). is_alive s r ≡ false) (pid_eq-is u.receiver q same) (kill_over pt.kernel s id u.receiver is kills off))
    (handled_trail pt.view t id q h)
label_trail pt s t (Label.Dropped id) q is fits h =
    trail_same pt.view (after_label pt.view (Label.Dropped id)) t t q (λ m. dropped_known (handled pt.view id) id (receiver_of (pt.view.told id)) m q) refl
    (trail_less (is_alive pt.kernel q) (is_alive s q) pt.view t q (alive_before pt.kernel s (Label.Dropped id) is q refl) h)
label_trail pt s t any_ q is fits h =
    trail_same pt.view (after_label pt.view any_) t t q (λ m. refl) refl (trail_less (is_alive pt.kernel q) (is_alive s q) pt.view t q (alive_before pt.kernel s any_ is q refl) h)

label_place : (s : OneKernel) (v : View) (l : Label) (p : Pid) (m c : ℕ) → (seen s v (Line.Label l)).topic ≡ view.Place p m c → (after_label v l).topic ≡ view.Place p m c
label_place s v l p m c h1 = search arith

label_treads : (pt : Point) (s : OneKernel) (t : Trails) (l : Label) → kernel.step pt.kernel l ≡ Some s → LabelFits pt t l → Treads pt t → Treads (moved pt (Line.Label l) s) t
label_treads pt s t l is fits h = record {
  trail = λ q. trail_same (after_label pt.view l) (seen pt.kernel pt.view (Line.Label l)) t t q (λ m. refl) refl (label_trail pt s t l q is fits.known (h.trail q));
  links = label_links pt.kernel s pt.view pt.addresses t l is fits.named fits.said h.trail h.pending h.links;
  own =
      (let own = label_own pt.kernel s pt.view pt.addresses t l is (fits.outside s is) h.own in
      own_as (after_label pt.view l) (seen pt.kernel pt.view (Line.Label l)) (given pt.addresses (gives pt.kernel pt.view pt.addresses l)) t refl (λ p m c e. own.topic p m c (label_place pt.kernel pt.view l p m c e)) own);
  pending = label_pending pt.kernel s pt.view pt.addresses t l is fits.named fits.said h.trail h.pending h.links;
}

-- a message that is forwarded
forward_topic : (v : View) (t : Trails) (p : Pid) (x : Known) (d n : ℕ) → x ≡ Forward d n → slice_get (t p) n ≡ Some d → (q : Pid) (m c : ℕ) → forward_about p x ≡ view.Place q m c → slice_get (t q) c ≡ Some m
forward_topic v t p x d n is at q m c e = search arith

forwarded_topic : (v w : View) (t : Trails) (u : Told) (o : Option Told) (d n : ℕ) → o ≡ Some u → w.known w.acting u.receiver ≡ Forward d n → slice_get (t u.receiver) n ≡ Some d → (q : Pid) (m c : ℕ) → (forwarded_for w (receiver_of o)).topic ≡ view.Place q m c → slice_get (t q) c ≡ Some m
forwarded_topic v w t u o d n h1 h2 h3 q m c h4 = search (arith, forward_topic)

forwarded_treads : (pt : Point) (t : Trails) (id : MsgId) (m : ℕ) → ForwardFits pt id → Treads pt t → Treads (moved pt (Line.Forwarded id m) pt.kernel) t
forwarded_treads pt t id m fits h =
    let v = pt.view in
    let w = view_after v (Line.Forwarded id m) in
    let b = given pt.addresses (forwards v pt.addresses id (v.told id)) in
    let told : w.told ≡ v.told = (hushed v (Line.Forwarded id m) refl).told in
    let all = forwarded_all pt.kernel v pt.addresses t id fits.u fits.d fits.n fits.told fits.away fits.for_it fits.outside fits.fresh (h.trail fits.u.receiver) (all_are pt.kernel v pt.addresses t h.links h.own) in
    record {
      trail = λ q. trail_same v w t t q (λ n. forwarded_known (handled v id) (receiver_of (v.told id)) n q) refl (h.trail q);
      links = links_are pt.kernel v b t all;
      own = own_as v w b t told (forwarded_topic v (handled v id) t fits.u (v.told id) fits.d fits.n fits.told fits.away ((h.trail fits.u.receiver).named v.acting fits.d fits.n fits.away)) (own_of pt.kernel v b t all h.own.about h.own.topic);
      pending = h.pending;
    }

-- messages that are sent on
sent_on_treads : (pt : Point) (t : Trails) (p : Pid) (n : ℕ) → SentOnFits pt t p → Treads pt t → Treads (moved pt (Line.SentOn p n) pt.kernel) (trails_after pt.view t (Line.SentOn p n))
sent_on_treads pt t p n fits h =
    let v = pt.view in
    let u = trails_after v t (Line.SentOn p n) in
    let ids = v.queue v.acting p ++ v.held v.acting p in
    let b = given pt.addresses (all_follow v pt.addresses p ids) in
    let holds : v.known v.acting p ≡ Frozen fits.d = ap (λ (m : ℕ). v.known m p) fits.acts ∙ source_holds v p MessageKind.AllTaken fits.s fits.d fits.o fits.phase refl in
    let last : slice_get (u p) (v.moves p + 1) ≡ Some fits.d = ap (λ (xs : List ℕ). slice_get xs (v.moves p + 1)) (sent_on_at v t p n fits.d holds) ∙ get_at_end (t p) fits.d (v.moves p + 1) fits.long in
    let grows = sent_on_grows v t p n fits.d holds in
    let all = sent_on_all pt.kernel v pt.addresses t u p fits.d ids holds grows last fits.for_it (all_are pt.kernel v pt.addresses t h.links h.own) in
    record {
      trail = λ q. sent_on_trail v t p q n fits.s fits.d fits.o fits.phase fits.acts (h.trail q);
      links = links_are pt.kernel v b u all;
      own = own_as v (view_after v (Line.SentOn p n)) b u refl (λ r m c e. cc) (own_of pt.kernel v b u all
          (λ i x r m c e f. let (ds, more) = grows r in on_grown t u r (record { at = m; moves = c }) ds more (h.own.about i x r m c e f))
          (λ r m c e. let (ds, more) = grows r in on_grown t u r (record { at = m; moves = c }) ds more (h.own.topic r m c e)));
      pending = h.pending;
    }

-- messages that go back
called_treads : (pt : Point) (t : Trails) (p : Pid) (n : ℕ) → CalledFits pt t p → Treads pt t → Treads (moved pt (Line.Called p n) pt.kernel) t
called_treads pt t p n fits h =
    let v = pt.view in
    let ids = v.held v.acting p in
    let b = given pt.addresses (all_follow v pt.addresses p ids) in
    let all = called_all pt.kernel v pt.addresses t p fits.from ids fits.comes fits.at fits.for_it (all_are pt.kernel v pt.addresses t h.links h.own) in
    record {
      trail = λ q. called_trail v t p q n fits.from fits.comes fits.at fits.long fits.apart (h.trail q);
      links = links_are pt.kernel v b t all;
      own = own_as v (view_after v (Line.Called p n)) b t refl (λ r m c e. cc) (own_of pt.kernel v b t all h.own.about h.own.topic);
      pending = h.pending;
    }

-- an update
updated_treads : (pt : Point) (t : Trails) (id : MsgId) (n : ℕ) → Treads pt t → Treads (moved pt (Line.Updated id n) pt.kernel) t
updated_treads pt t id n h =
    let v = pt.view in
    let b = (addresses_by pt.kernel v pt.addresses (act_of (Line.Updated id n))) in
    let all = updated_all pt.kernel v pt.addresses t (v.told id) (λ u p m c e f. h.own.about id u p m c e f) (all_are pt.kernel v pt.addresses t h.links h.own) in
    record {
      trail = λ q. handled_trail v t id q (h.trail q);
      links = links_are pt.kernel v b t all;
      own = own_as v (view_after v (Line.Updated id n)) b t refl h.own.topic (own_of pt.kernel v b t all h.own.about h.own.topic);
      pending = h.pending;
    }

-- a kernel forgets what has ended
buried_treads : (pt : Point) (t : Trails) (id : MsgId) (n : ℕ) → BuriedFits pt id → Treads pt t → Treads (moved pt (Line.Buried id n) pt.kernel) t
buried_treads pt t id n fits h = forgets_by (pt.view.told id) (λ u p told about. fits u p told about)
  where
    v : View
    v = handled pt.view id

    quiet : Treads (at_view pt v) t
    quiet = quiet_treads pt v t (λ m q. refl) refl h.own.topic h

    forgets_about : (a : About) → ((p : Pid) → a ≡ view.Of p → is_alive pt.kernel p ≡ false) → Treads (at_view pt (view.forgotten v a)) t
    forgets_about (view.Of p) off =
        learns_treads pt (view.forgotten v (view.Of p)) t
        (λ q. ended_trail (is_alive pt.kernel q) (is_alive pt.kernel q) pt.view (view.forgotten v (view.Of p)) t p q refl (λ e. e) (λ same. subst (λ (r : Pid). is_alive pt.kernel r ≡ false) (pid_eq-is p q same) (off p refl)) (h.trail q))
        refl (λ r m c e. let f : view.Of p ≡ view.Place r m c = e in cc) h
    forgets_about _ off = quiet

    forgets_by : (o : Option Told) → ((u : Told) (p : Pid) → o ≡ Some u → u.about ≡ view.Of p → is_alive pt.kernel p ≡ false) → Treads (at_view pt (view.buried_for v o)) t
    forgets_by None off = quiet
    forgets_by (Some u) off = forgets_about u.about (λ p e. off u p refl e)

-- a put
-- what was told stays
put_are : (pt : Point) (t : Trails) (x y : ℕ) (id : MsgId) (k : MessageKind) (q : Pid) → PutFits pt t id k q → AllAre pt.kernel pt.view pt.addresses t
    → AllAre pt.kernel (after_put pt.view x y id k q) (given pt.addresses (first_gives (pt.view.told id) (own_given pt.kernel pt.view pt.addresses id q (sort_of k)))) t
put_are pt t x y id k q (Again u told) h =
    let all_as : (s : OneKernel) (v w : View) (a : Addresses) (t : Trails) → ((i : MsgId) → w.told i ≡ v.told i) → AllAre s v a t → AllAre s w a t = λ s v w a t same h g q e. h g q
    (elim e [ Links e' ↦ Links e' | Owns (Goes i' u' is' k' told' r') ↦ Owns (Goes i' u' is' k' (sym (same i') ∙ told') r') | Owns (Comes i' u' is' mine' told' k' r') ↦ Owns (Comes i' u' is' mine' (sym (same i') ∙ told') k' r') ]) in
    subst (λ (o : Option Told). AllAre pt.kernel (after_put pt.view x y id k q) (given pt.addresses (first_gives o (own_given pt.kernel pt.view pt.addresses id q (sort_of k)))) t) (sym told)
    (all_as pt.kernel pt.view (after_put pt.view x y id k q) pt.addresses t (told_again pt.view x y id k q u told) h)
put_are pt t x y id k q (Own bag none to from) h = put_all pt.kernel pt.view pt.addresses t x y id k q bag none to from h
put_are pt t x y id k q (Routed other plain none) h = put_routed pt.kernel pt.view pt.addresses t x y id k q other plain none h

put_treads : (pt : Point) (t : Trails) (x y : ℕ) (id : MsgId) (k : MessageKind) (q : Pid) → PutFits pt t id k q → Treads pt t → Treads (moved pt (Line.Put x y id k q) pt.kernel) t
put_treads pt t x y id k q fits h =
    let v = pt.view in
    let w = after_put v x y id k q in
    let b = given pt.addresses (first_gives (v.told id) (own_given pt.kernel v pt.addresses id q (sort_of k))) in
    let all = put_are pt t x y id k q fits (all_are pt.kernel v pt.addresses t h.links h.own) in
    record {
      trail = λ r. trail_same v w t t r (λ m. refl) refl (h.trail r);
      links = links_are pt.kernel w b t all;
      own = own_of pt.kernel w b t all (about_put v t x y id k q h.own.about h.own.topic) h.own.topic;
      pending = h.pending;
    }

-- a step of a migration
stage_treads : (pt : Point) (t : Trails) (p : Pid) (s : Stage) → StageFits pt t p s → Treads pt t → Treads (moved pt (Line.Migration s p) pt.kernel) t
stage_treads pt t p Stage.Frozen here h =
    let k = sets pt.view p pt.view.topic in
    learns_treads pt (view_after pt.view (Line.Migration Stage.Frozen p)) t (λ q. frozen_trail pt.view t p q here (h.trail q)) k.told (λ r m c e. let f : view.Of p ≡ view.Place r m c = sym k.topic ∙ e in cc) h
stage_treads pt t p Stage.Asked fits h = quiet_treads pt (view_after pt.view (Line.Migration Stage.Asked p)) t (λ m q. refl) refl h.own.topic h
stage_treads pt t p Stage.Accepted fits h = learns_treads pt (view_after pt.view (Line.Migration Stage.Accepted p)) t (λ q. accepted_trail pt.view t p q fits.k fits.s fits.d fits.o fits.phase fits.off (h.trail q)) refl (λ r m c e. cc) h
stage_treads pt t p Stage.Left fits h = learns_treads pt (view_after pt.view (Line.Migration Stage.Left p)) t (λ q. left_line_trail pt.view t p q fits.d fits.holds fits.at fits.long fits.apart (h.trail q)) refl (λ r m c e. cc) h
stage_treads pt t p Stage.Restarted fits h =
    let restarted_trail : (lives : Bool) (v : View) (t : Trails) (p q : Pid) (k : MessageKind) (s d : ℕ) (o : Option MsgId) → IsIn v p (Moves k s d o) → is_early k ≡ false → Trail lives v t q → Trail lives (view_after v (Line.Migration Stage.Restarted p)) t q =
    λ lives v t p q k s d o phase e h. back_trail v (view_after v (Line.Migration Stage.Restarted p)) t p q d refl (destination_knows v p k s d o phase e) h in
    learns_treads pt (view_after pt.view (Line.Migration Stage.Restarted p)) t (λ q. restarted_trail (is_alive pt.kernel q) pt.view t p q fits.k fits.s fits.d fits.o fits.phase fits.off (h.trail q)) refl h.own.topic h
stage_treads pt t p any_ fits h = quiet_treads pt (view_after pt.view (Line.Migration any_ p)) t (λ m q. refl) refl (λ r m c e. cc) h

-- each line
pub line_treads : (pt next : Point) (t : Trails) (l : Line) → after_line pt l ≡ Some next → LineFits pt t l → Treads pt t → Treads next (trails_after pt.view t l)
line_treads pt next t (Line.Label l) is fits h =
    let (s, comes, last) = bind-is (kernel.step pt.kernel l) (λ (s : OneKernel). Some (moved pt (Line.Label l) s)) next is in
    subst (λ (n : Point). Treads n t) (let f : moved pt (Line.Label l) s ≡ next = cc in f) (label_treads pt s t l comes fits h)
line_treads pt next t (Line.Head d) is fits h = let f : moved pt (Line.Head d) pt.kernel ≡ next = cc in subst (λ (z : Point). Treads z (trails_after pt.view t (Line.Head d))) f (head_treads pt t d h)
line_treads pt next t (Line.Taken a b n) is fits h = let f : moved pt (Line.Taken a b n) pt.kernel ≡ next = cc in subst (λ (z : Point). Treads z (trails_after pt.view t (Line.Taken a b n))) f (quiet_treads pt (view_after pt.view (Line.Taken a b n)) t (λ m q. taken_known (taken_pair pt.view a b n) b (view.oldest (pt.view.pair a b)) m q) (hushed pt.view (Line.Taken a b n) refl).told (same_topic pt.view (view_after pt.view (Line.Taken a b n)) pt.addresses t (taken_topic (taken_pair pt.view a b n) b (view.oldest (pt.view.pair a b))) h.own) h)
line_treads pt next t (Line.Queued i) is fits h = let f : moved pt (Line.Queued i) pt.kernel ≡ next = cc in subst (λ (z : Point). Treads z (trails_after pt.view t (Line.Queued i))) f (quiet_treads pt (view_after pt.view (Line.Queued i)) t (λ m q. queued_known (handled pt.view i) i (receiver_of (pt.view.told i)) m q) (hushed pt.view (Line.Queued i) refl).told (same_topic pt.view (view_after pt.view (Line.Queued i)) pt.addresses t (queued_topic (handled pt.view i) i (receiver_of (pt.view.told i))) h.own) h)
line_treads pt next t (Line.Held i) is fits h = let f : moved pt (Line.Held i) pt.kernel ≡ next = cc in subst (λ (z : Point). Treads z (trails_after pt.view t (Line.Held i))) f (quiet_treads pt (view_after pt.view (Line.Held i)) t (λ m q. held_known (handled pt.view i) i (receiver_of (pt.view.told i)) m q) (hushed pt.view (Line.Held i) refl).told (same_topic pt.view (view_after pt.view (Line.Held i)) pt.addresses t (held_topic (handled pt.view i) i (receiver_of (pt.view.told i))) h.own) h)
line_treads pt next t (Line.Proto i) is fits h = let f : moved pt (Line.Proto i) pt.kernel ≡ next = cc in subst (λ (z : Point). Treads z (trails_after pt.view t (Line.Proto i))) f (quiet_treads pt (view_after pt.view (Line.Proto i)) t (λ m q. proto_known (handled pt.view i) (pt.view.told i) m q) (hushed pt.view (Line.Proto i) refl).told (proto_place pt.view (handled pt.view i) pt.addresses t i (pt.view.told i) refl h.own) h)
line_treads pt next t (Line.Lacks p a b) is fits h = let f : moved pt (Line.Lacks p a b) pt.kernel ≡ next = cc in subst (λ (z : Point). Treads z (trails_after pt.view t (Line.Lacks p a b))) f (quiet_treads pt (view_after pt.view (Line.Lacks p a b)) t (λ m q. refl) (hushed pt.view (Line.Lacks p a b) refl).told (λ r m c e. cc) h)
line_treads pt next t (Line.Stays p) is fits h = let f : moved pt (Line.Stays p) pt.kernel ≡ next = cc in subst (λ (z : Point). Treads z (trails_after pt.view t (Line.Stays p))) f (learns_treads pt (view_after pt.view (Line.Stays p)) t (λ q. stays_trail pt.view t p q fits.k fits.s fits.d fits.o fits.phase fits.off (h.trail q)) refl h.own.topic h)
line_treads pt next t (Line.Forwarded i m) is fits h = let f : moved pt (Line.Forwarded i m) pt.kernel ≡ next = cc in subst (λ (z : Point). Treads z (trails_after pt.view t (Line.Forwarded i m))) f (forwarded_treads pt t i m fits h)
line_treads pt next t (Line.SentOn p n) is fits h = let f : moved pt (Line.SentOn p n) pt.kernel ≡ next = cc in subst (λ (z : Point). Treads z (trails_after pt.view t (Line.SentOn p n))) f (sent_on_treads pt t p n fits h)
line_treads pt next t (Line.Called p n) is fits h = let f : moved pt (Line.Called p n) pt.kernel ≡ next = cc in subst (λ (z : Point). Treads z (trails_after pt.view t (Line.Called p n))) f (called_treads pt t p n fits h)
line_treads pt next t (Line.Updated i n) is fits h = let f : moved pt (Line.Updated i n) pt.kernel ≡ next = cc in subst (λ (z : Point). Treads z (trails_after pt.view t (Line.Updated i n))) f (updated_treads pt t i n h)
line_treads pt next t (Line.Buried i n) is fits h = let f : moved pt (Line.Buried i n) pt.kernel ≡ next = cc in subst (λ (z : Point). Treads z (trails_after pt.view t (Line.Buried i n))) f (buried_treads pt t i n fits h)
line_treads pt next t (Line.Put x y i k q) is fits h = let f : moved pt (Line.Put x y i k q) pt.kernel ≡ next = cc in subst (λ (z : Point). Treads z (trails_after pt.view t (Line.Put x y i k q))) f (put_treads pt t x y i k q fits h)
line_treads pt next t (Line.Migration s p) is fits h = let f : moved pt (Line.Migration s p) pt.kernel ≡ next = cc in subst (λ (z : Point). Treads z (trails_after pt.view t (Line.Migration s p))) f (stage_treads pt t p s fits h)
line_treads pt next t any_ is fits h = let f : moved pt any_ pt.kernel ≡ next = cc in subst (λ (z : Point). Treads z (trails_after pt.view t any_)) f (quiet_treads pt (view_after pt.view any_) t (λ m q. refl) (hushed pt.view any_ refl).told (h.own.topic) h)
