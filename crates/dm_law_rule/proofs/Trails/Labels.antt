-- Each label keeps each address on its trail.
use Rattle.dm_law_rule.proofs.Names.{◌≡◌, true, refl, ap, ◌∙◌, sym, subst, Option, Some, MsgId, MessageKind, Line, manager, Label, OneKernel, View, Told, is_kernels, after_label, ends_by, Addresses, Receiver, Sender, given, gives, ascends}
use Rattle.dm_law_rule.proofs.Names.{to_of, Trails, Trail, IsOn, AddressesOn, OwnOn, sort_of, is_alive, ℕ, None, option_map_or, Sort, Pid, Place, dropped_for, handled, served_told, receiver_of}
use Rattle.dm_law_rule.proofs.Hushed.{hushed}
use Rattle.dm_law_rule.proofs.Homes.{homes_are, at_home}
use Rattle.dm_law_rule.proofs.Homes.Serves.{Named, EndedAt}
use Rattle.dm_law_rule.proofs.Homes.Labels.{SaidOn, label_on}
use Rattle.dm_law_rule.proofs.Trails.Spares.{Outside, gives_spares, spared_receiver, spared_sender}
use Rattle.dm_onekernel.specs.Step as kernel
use Rattle.dm_law_rule.specs.View as view

-- where a message's receiver has ended, the message's own address says where
pub ended_on : (s : OneKernel) (v : View) (a : Addresses) (t : Trails) (id : MsgId) → (a (Receiver id)).at ≡ v.acting → AddressesOn s a t → EndedAt (IsOn t) s v a id
ended_on s v a t id at links m there = links (Receiver id) m.to (ap to_of there) ∙ ap Some at

-- the addresses of the kernel without machines
pub label_links : (s t : OneKernel) (v : View) (a : Addresses) (tr : Trails) (l : Label) → kernel.step s l ≡ Some t → Named s → SaidOn (IsOn tr) s v a l → ((q : Pid) → Trail (is_alive s q) v tr q) → ascends 0 s.manager.pending s.manager.sent ≡ true → AddressesOn s a tr
    → AddressesOn t (given a (gives s v a l)) tr
label_links s t v a tr l is named said trail pending links =
    homes_are (IsOn tr) t (given a (gives s v a l)) (label_on (IsOn tr) s t v a l is named said (at_home (IsOn tr) s a (λ q. (trail q).begins) links pending))

pub label_pending : (s t : OneKernel) (v : View) (a : Addresses) (tr : Trails) (l : Label) → kernel.step s l ≡ Some t → Named s → SaidOn (IsOn tr) s v a l → ((q : Pid) → Trail (is_alive s q) v tr q) → ascends 0 s.manager.pending s.manager.sent ≡ true → AddressesOn s a tr
    → ascends 0 t.manager.pending t.manager.sent ≡ true
label_pending s t v a tr l is named said trail pending links = (label_on (IsOn tr) s t v a l is named said (at_home (IsOn tr) s a (λ q. (trail q).begins) links pending)).pending

pub label_told : (v : View) (l : Label) → (after_label v l).told ≡ v.told
label_told v l = (hushed v (Line.Label l) refl).told

-- the process that a label ends, if it ends one
abbrev pub kill_ends : Sort → Pid → Option Pid
kill_ends Sort.Kills p = Some p
kill_ends s p = None

abbrev pub told_ends : Option Told → Option Pid
told_ends None = None
told_ends (Some u) = kill_ends (sort_of u.kind) u.receiver

abbrev pub ended_by : View → Label → Option Pid
ended_by v (Label.End p y) = Some p
ended_by v (Label.Served i) = told_ends (v.told i)
ended_by v l = None

-- of which a group then tells; what any other label leaves the group about is what it was about
pub label_topic : (v : View) (l : Label) → (after_label v l).topic ≡ option_map_or view.Of (ended_by v l) v.topic
label_topic v (Label.End p y) = refl
label_topic v (Label.Served i) = served_topic (v.told i)
  where
    killed_topic : (k : MessageKind) (p : Pid) → (ends_by (sort_of k) (handled v i) (Some p)).topic ≡ option_map_or view.Of (kill_ends (sort_of k) p) v.topic
    killed_topic MessageKind.Kill p = refl
    killed_topic _ p = refl

    served_topic : (o : Option Told) → (served_told (handled v i) o).topic ≡ option_map_or view.Of (told_ends o) v.topic
    served_topic None = refl
    served_topic (Some u) = killed_topic u.kind u.receiver
label_topic v (Label.Dropped i) = dropped_topic (receiver_of (v.told i))
  where
    dropped_topic : (o : Option Pid) → (dropped_for (handled v i) i o).topic ≡ v.topic
    dropped_topic None = refl
    dropped_topic (Some q) = refl
label_topic v _ = refl

-- so it is about no new place
pub label_no_place : (v : View) (l : Label) (p : Pid) (m c : ℕ) → (after_label v l).topic ≡ view.Place p m c → v.topic ≡ view.Place p m c
label_no_place v l p m c e = either (ended_by v l) (sym (label_topic v l) ∙ e)
  where
    either : (o : Option Pid) → option_map_or view.Of o v.topic ≡ view.Place p m c → v.topic ≡ view.Place p m c
    either None f = f
    either (Some q) f = cc

-- kernels' own messages keep theirs
pub own_same : (v w : View) (a b : Addresses) (t u : Trails) → w.told ≡ v.told → ((p : Pid) (m c : ℕ) → w.topic ≡ view.Place p m c → v.topic ≡ view.Place p m c) → ((i : MsgId) → is_kernels i ≡ true → b (Receiver i) ≡ a (Receiver i)) → ((i : MsgId) → is_kernels i ≡ true → b (Sender i) ≡ a (Sender i))
    → ((q : Pid) (place : Place) → IsOn t q place → IsOn u q place) → OwnOn v a t → OwnOn w b u
own_same v w a b t u told topic receiver sender grows h = record {
  receiver = λ i x mine e. subst (IsOn u x.receiver) (sym (receiver i mine)) (grows x.receiver (a (Receiver i)) (h.receiver i x mine (sym (ap (λ (f : MsgId → Option Told). f i) told) ∙ e)));
  sender = λ i x mine e k. subst (IsOn u manager) (sym (sender i mine)) (grows manager (a (Sender i)) (h.sender i x mine (sym (ap (λ (f : MsgId → Option Told). f i) told) ∙ e) k));
  about = λ i x p m c e f. grows p (record { at = m; moves = c }) (h.about i x p m c (sym (ap (λ (g : MsgId → Option Told). g i) told) ∙ e) f);
  topic = λ p m c e. grows p (record { at = m; moves = c }) (h.topic p m c (topic p m c e));
}

pub label_own : (s t : OneKernel) (v : View) (a : Addresses) (tr : Trails) (l : Label) → kernel.step s l ≡ Some t → Outside t → OwnOn v a tr → OwnOn (after_label v l) (given a (gives s v a l)) tr
label_own s t v a tr l is out h =
    own_same v (after_label v l) a (given a (gives s v a l)) tr tr (label_told v l) (label_no_place v l) (λ i mine. spared_receiver a i (gives s v a l) (gives_spares s t v a l i is out mine)) (λ i mine. spared_sender a i (gives s v a l) (gives_spares s t v a l i is out mine))
    (λ q place on. on) h
