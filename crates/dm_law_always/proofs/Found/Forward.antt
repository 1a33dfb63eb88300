-- What a turn needs where a message goes on, and where those of a process that leaves do.
use Rattle.dm_law_always.proofs.Names.{◌≡◌, ℕ, ◌<◌, ◌≤◌, Bool, true, false, List, [], ◌∷◌, ◌++◌, length, refl, ap, ◌∙◌, sym, subst, inl, inr, arith, if◌then◌else◌, Option, None, Some, cases_Bool, false≢true, Pid, Place, MsgId, id_eq}
use Rattle.dm_law_always.proofs.Names.{MessageKind, Line, Stage, id_eq-is, id_eq-same, View, Told, Known, Frozen, Forward, is_kernels, own_id, handled, forwarded_for, forward_about, receiver_of, view_after, Addresses, Receiver, Sender, given}
use Rattle.dm_law_always.proofs.Names.{place_known, all_follow, is_told_back, forwards, Point, moved, Part, Says, Again, Owns, to_kernel, forwards_on, sends_on, leaves, Spot, times, standing, StandsAsBag, letters, not_true, both_lists}
use Rattle.dm_law_always.proofs.Names.{without_all, without_at, first_off, sent_way, one_of, front_gone, forwarded_known, State, Sane, Named, forwarded_back, is_own, is_fixed, called_parts, called_way, Incoming, Lives, OneKernel, own_given}
use Rattle.dm_law_always.proofs.Names.{sort_of}
use Rattle.dm_law_rule.proofs.Trails.Places.{Owns}
use Rattle.dm_law_always.proofs.Found.Core.{AboutIs, KnowsAt, Knows, IsReal, KnownIs, LineCore, knows_grow, real_grows, NeedsForward, NeedsSent, NeedsCalled}
use Rattle.dm_law_always.proofs.Found.Core.{There, nothing_grows, there_grows}
use Rattle.dm_law_always.proofs.Found.Parts.{AllNeed, NeedOf, NeedsOwn, Same, again_same, first_need, loose_need, own_outside, own_fresh, to_one}
use Rattle.dm_law_always.proofs.Based.Needs.{said_by}

-- whom a message of which something was told is for
pub named_for : (pt : Point) (id : MsgId) (u : Told) (q : Pid) → Sane pt → pt.view.told id ≡ Some u → Named pt.kernel pt.view (Receiver id) q → q ≡ u.receiver
named_for pt id u q h1 h2 h3 = search (arith, pt.kernel.bag, u.receiver, pt.view.told)

pub forwarded_own : (v : View) (o : Option Pid) → own_id (forwarded_for v o) ≡ own_id v
forwarded_own v o = search arith

-- behind the line that says so
goes_to : (v : View) (a : Addresses) (id : MsgId) (u : Told) (to c : ℕ) (o : Option Told) → o ≡ Some u → v.known v.acting u.receiver ≡ Forward to c → (given a (forwards v a id o) (Receiver id)).at ≡ to
goes_to v a id u to c o told at = search (arith, v.known, v.acting, u.receiver, v.moves, u.kind, id_eq-same)

pub other_id : (v : View) (id : MsgId) (u : Told) → v.told id ≡ Some u → v.told (own_id v) ≡ None → id_eq id (own_id v) ≡ false
other_id v id u told none = not_true (id_eq id (own_id v)) (λ e. let f : Some u ≡ None = sym told ∙ ap v.told (id_eq-is id (own_id v) e) ∙ none in cc)

-- the update that follows
back_need : (n : ℕ) (pt mid next : Point) (id : MsgId) (u : Told) (sender : Pid) → pt.view.told id ≡ Some u → is_told_back u.kind ≡ true → Sane pt
    → mid.kernel ≡ pt.kernel → ((m : ℕ) (q : Pid) → mid.view.known m q ≡ pt.view.known m q) → own_id mid.view ≡ own_id pt.view → mid.addresses ≡ given pt.addresses (forwards pt.view pt.addresses id (pt.view.told id)) → Same mid next
    → Knows n pt.kernel.processes pt.view sender (pt.addresses (Sender id)) → IsReal n pt.kernel.processes pt.view sender → NeedsOwn n next MessageKind.Update sender (pt.addresses (Sender id)).at
back_need n pt mid next id u sender told back sane kernel_ known own addresses same knows real =
    let v = pt.view in
    let a = pt.addresses in
    let lives : next.kernel.processes ≡ pt.kernel.processes = ap (λ (s : OneKernel). s.processes) (same.kernel ∙ kernel_) in
    let grows = nothing_grows pt.kernel.processes v next.view (λ m q. same.known m q ∙ known m q) in
    let to : next.addresses (Receiver (own_id next.view)) ≡ a (Sender id) =
    same.addresses (Receiver (own_id next.view)) ∙ ap (λ (i : MsgId). mid.addresses (Receiver i)) (same.own ∙ own) ∙ ap (λ (f : Addresses). f (Receiver (own_id v))) addresses
    ∙ forwarded_back v a id u told (other_id v id u told (own_fresh pt sane)) back in
    let known_ = knows_grow n pt.kernel.processes pt.kernel.processes v next.view sender (a (Sender id)).at grows knows in
    let place : given next.addresses (own_given next.kernel next.view next.addresses (own_id next.view) sender (sort_of MessageKind.Update)) (Receiver (own_id next.view)) ≡ a (Sender id) = to in
    record {
      knows = subst (λ (l : Lives). Knows n l next.view sender (given next.addresses (own_given next.kernel next.view next.addresses (own_id next.view) sender (sort_of MessageKind.Update)) (Receiver (own_id next.view)))) (sym lives)
          (subst (Knows n pt.kernel.processes next.view sender) (sym place) known_);
      from = λ e. cc;
      at = ap (λ (x : Place). x.at) place;
      real = subst (λ (l : Lives). IsReal n l next.view sender) (sym lives) (real_grows n pt.kernel.processes pt.kernel.processes v next.view sender grows real);
      own = refl;
    }

back_if : (n : ℕ) (pt : Point) (sender : Pid) (m : ℕ) (c : Bool) → (c ≡ true → NeedsOwn n pt MessageKind.Update sender m) → AllNeed n pt (if c then Owns MessageKind.Update sender m ∷ [] else [])
back_if n pt sender m c h1 = search arith

-- a message that comes to where its receiver went away goes on
pub forwards_need : (n : ℕ) (pt : Point) (id : MsgId) (is : List MsgId) (u : Told) (sender : Pid) (to c : ℕ) → pt.view.inbox pt.view.acting ≡ id ∷ is → State None pt → Sane pt → LineCore n pt → pt.view.told id ≡ Some u → pt.view.known pt.view.acting u.receiver ≡ Forward to c
    → is_fixed u.receiver ≡ false → (is_told_back u.kind ≡ true → Knows n pt.kernel.processes pt.view sender (pt.addresses (Sender id)) × IsReal n pt.kernel.processes pt.view sender) → AllNeed n pt (forwards_on pt.addresses id u.kind sender to)
forwards_need n pt id is u sender to c front state sane h told at free back =
    let v = pt.view in
    let a = pt.addresses in
    let lives = pt.kernel.processes in
    let there : There n lives v to u.receiver = (subst (KnownIs n lives v v.acting u.receiver) at (h.known v.acting u.receiver)).1 in
    let needs : NeedsForward n pt id = record {
      u = u;
      told = told;
      knows = λ q e. subst (λ (x : Known). Knows n lives v q (place_known x (v.moves u.receiver) (a (Receiver id)))) (sym at) (subst (λ (p : Pid). KnowsAt n lives v p to) (sym (named_for pt id u q sane told e)) (inr (free, there)));
      topic = subst (λ (x : Known). AboutIs n lives v (forward_about u.receiver x)) (sym at) (inr (free, there));
      outside = own_outside pt sane;
      fresh = own_fresh pt sane;
      gone = λ z. front_gone pt (Line.Here id) id is state refl front (λ y. sym (first_off v id is front y)) z;
    } in (
      needs,
      (λ ls mid is_ leads.
          let s = said_by pt mid (Line.Forwarded id to) (record { lines = ls; are = is_; leads = leads }) in
          let first = moved pt (Line.Forwarded id to) s.kernel in
          subst (λ (p : Point). AllNeed n p (Again id to ∷ (if is_told_back u.kind then Owns MessageKind.Update sender (a (Sender id)).at ∷ [] else []))) s.is (
            goes_to v a id u to c (v.told id) told at,
            (λ xs next is__ leads_.
                let stays = again_same first next id to xs is__ leads_ in
                back_if n next sender (a (Sender id)).at (is_told_back u.kind)
                (λ yes_. let b = back yes_ in back_need n pt first next id u sender told yes_ sane (let e : Some pt.kernel ≡ Some s.kernel = s.step in let f : pt.kernel ≡ s.kernel = cc in sym f) (λ m q. forwarded_known (handled v id) (receiver_of (v.told id)) m q) (forwarded_own (handled v id) (receiver_of (v.told id))) refl stays b.0 b.1)),
          )),
    )

-- of a kernel's own messages only a request to move is told back
pub moves_back : (k : MessageKind) → is_own k ≡ true → is_told_back k ≡ true → k ≡ MessageKind.Migrate
moves_back k h1 h2 = search arith

-- all that wait for a process go on
follow_at : (v : View) (a : Addresses) (p : Pid) (to : ℕ) (ids : List MsgId) (i : MsgId) → ((before : Place) → (place_known (v.known v.acting p) (v.moves p) before).at ≡ to) → 1 ≤ times i ids → (given a (all_follow v a p ids) (Receiver i)).at ≡ to
follow_at v a p to [] i at least = absurd (omega (arith, least))
follow_at v a p to (j ∷ js) i at least = elim (cases_Bool (id_eq j i)) [
  | inl same ↦
      ap (λ (b : Bool). (if b then place_known (v.known v.acting p) (v.moves p) (a (Receiver j)) else given a (all_follow v a p js) (Receiver i)).at) same ∙ at (a (Receiver j))
  | inr apart ↦
      let off : one_of i j ≡ 0 = ap (λ (b : Bool). if b then 1 else 0) (not_true (id_eq i j) (λ e. false≢true (sym apart ∙ ap (λ (x : MsgId). id_eq x i) (sym (id_eq-is i j e)) ∙ id_eq-same i))) in
      ap (λ (b : Bool). (if b then place_known (v.known v.acting p) (v.moves p) (a (Receiver j)) else given a (all_follow v a p js) (Receiver i)).at) apart ∙ follow_at v a p to js i at (omega (arith, least, off))
]

agains_need : (n : ℕ) (start pt : Point) (to : ℕ) (ids : List MsgId) (ps : List Part) → ((i : MsgId) → 1 ≤ times i ids → (pt.addresses (Receiver i)).at ≡ to) → pt.kernel ≡ start.kernel → pt.view.acting ≡ start.view.acting → ((m : ℕ) (q : Pid) → pt.view.known m q ≡ start.view.known m q)
    → ((q : Point) → q.kernel ≡ start.kernel → q.view.acting ≡ start.view.acting → ((m : ℕ) (r : Pid) → q.view.known m r ≡ start.view.known m r) → AllNeed n q ps) → AllNeed n pt (sends_on to ids ++ ps)
agains_need n start pt to [] ps at kernel_ acting known rest = rest pt kernel_ acting known
agains_need n start pt to (i ∷ is) ps at kernel_ acting known rest = (
  at i (let e : one_of i i ≡ 1 = ap (λ (c : Bool). if c then 1 else 0) (id_eq-same i) in omega (arith, e)),
  (λ ls next is_ leads.
      let same = again_same pt next i to ls is_ leads in
      agains_need n start next to is ps (λ j least. ap (λ (p : Place). p.at) (same.addresses (Receiver j)) ∙ at j (omega (arith, least))) (same.kernel ∙ kernel_) (same.acting ∙ acting) (λ m q. same.known m q ∙ known m q) rest),
)

left_need : (n : ℕ) (start q : Point) (p : Pid) (to from : ℕ) → q.kernel ≡ start.kernel → q.view.acting ≡ start.view.acting → ((m : ℕ) (r : Pid) → q.view.known m r ≡ start.view.known m r) → start.view.known start.view.acting p ≡ Frozen to → There n start.kernel.processes start.view to p → from < n
    → AllNeed n q (Says (Line.Migration Stage.Left p) ∷ to_kernel MessageKind.Restart from ∷ [])
left_need n start q p to from kernel_ acting known at there le =
    let frozen : q.view.known q.view.acting p ≡ Frozen to = known q.view.acting p ∙ ap (λ (m : ℕ). start.view.known m p) acting ∙ at in
    let there_ : There n q.kernel.processes q.view to p =
    subst (λ (l : Lives). There n l q.view to p) (ap (λ (s : OneKernel). s.processes) (sym kernel_)) (there_grows n start.kernel.processes start.kernel.processes start.view q.view to p (nothing_grows start.kernel.processes start.view q.view known) there) in
    first_need n q (Says (Line.Migration Stage.Left p)) (to_kernel MessageKind.Restart from ∷ [])
    (λ k e. let f : Frozen to ≡ Frozen k = sym frozen ∙ e in let g : to ≡ k = cc in subst (λ (m : ℕ). There n q.kernel.processes q.view m p) g there_) (to_one n MessageKind.Restart from (λ r. refl) (λ e. cc) refl le)

none_stands : (o : Option Pid) (f : Spot → ℕ) → o ≡ None → StandsAsBag o f → (z : Spot) → f z ≡ 0
none_stands None f e h z = h z
none_stands (Some x) f e h z = cc

sent_gone : (pt : Point) (p : Pid) (id : MsgId) (is : List MsgId) → State None pt → pt.view.inbox pt.view.acting ≡ id ∷ is → is_kernels id ≡ true → (i : MsgId) (z : Spot) (k : ℕ) → 1 ≤ times i (both_lists pt.view p) → standing (view_after pt.view (Line.SentOn p k)) i z ≡ 0
sent_gone pt p id is state front own i z k least =
    let b = sent_way pt p k id is state front own in
    let bag = letters b.own pt.kernel.bag in
    none_stands (without_all (both_lists pt.view p) bag i) (standing (view_after pt.view (Line.SentOn p k)) i) (without_at (both_lists pt.view p) bag i least) (b.stands.kept i) z

-- where all is taken of a process that leaves
pub leaves_need : (n : ℕ) (pt : Point) (id : MsgId) (is : List MsgId) (p : Pid) (k : Known) → pt.view.inbox pt.view.acting ≡ id ∷ is → State None pt → LineCore n pt → is_kernels id ≡ true → pt.view.known pt.view.acting p ≡ k
    → ((to : ℕ) → k ≡ Frozen to → There n pt.kernel.processes pt.view to p) → is_fixed p ≡ false → ((i : MsgId) (q : Pid) → 1 ≤ times i (both_lists pt.view p) → Named pt.kernel pt.view (Receiver i) q → q ≡ p) → id.from.home < n
    → NeedOf n pt (leaves id p (both_lists pt.view p) k)
leaves_need n pt id is p (Frozen to) front state h own at there free for le =
    let v = pt.view in
    let a = pt.addresses in
    let ids = both_lists v p in
    let lives = pt.kernel.processes in
    let known : There n lives v to p = there to refl in
    let needs : NeedsSent n pt p = record {
      knows = λ i q least e. subst (λ (x : Known). Knows n lives v q (place_known x (v.moves p) (a (Receiver i)))) (sym at) (subst (λ (r : Pid). KnowsAt n lives v r to) (sym (for i q least e)) (inr (free, known)));
      gone = λ i z k least. sent_gone pt p id is state front own i z k least;
    } in (
      needs,
      (λ ls next is_ leads.
          let s = said_by pt next (Line.SentOn p (length ids)) (record { lines = ls; are = is_; leads = leads }) in
          let first = moved pt (Line.SentOn p (length ids)) s.kernel in
          subst (λ (q : Point). AllNeed n q (sends_on to ids ++ Says (Line.Migration Stage.Left p) ∷ to_kernel MessageKind.Restart id.from.home ∷ [])) s.is
          (agains_need n pt first to ids (Says (Line.Migration Stage.Left p) ∷ to_kernel MessageKind.Restart id.from.home ∷ []) (λ i least. follow_at v a p to ids i (λ before. ap (λ (k : Known). (place_known k (v.moves p) before).at) at) least) (let e : Some pt.kernel ≡ Some s.kernel = s.step in let f : pt.kernel ≡ s.kernel = cc in sym f) refl (λ m q. refl)
          (λ q kernel_ acting same_known. left_need n pt q p to id.from.home kernel_ acting same_known at known le))),
    )
leaves_need n pt id is p _ front state h own at there free for le = tt

called_gone : (pt : Point) (p : Pid) → State None pt → (i : MsgId) (z : Spot) (k : ℕ) → 1 ≤ times i (pt.view.held pt.view.acting p) → standing (view_after pt.view (Line.Called p k)) i z ≡ 0
called_gone pt p state i z k least =
    let b = called_way pt p k state in
    let bag = letters b.own pt.kernel.bag in
    let ids = pt.view.held pt.view.acting p in
    none_stands (without_all ids bag i) (standing (view_after pt.view (Line.Called p k)) i) (without_at ids bag i least) (b.stands.kept i) z

-- where a migration is called off
pub calls_need : (n : ℕ) (pt : Point) (p : Pid) (from : ℕ) → State None pt → LineCore n pt → pt.view.known pt.view.acting p ≡ Incoming from → There n pt.kernel.processes pt.view from p
    → ((i : MsgId) (q : Pid) → 1 ≤ times i (pt.view.held pt.view.acting p) → Named pt.kernel pt.view (Receiver i) q → q ≡ p) → AllNeed n pt (called_parts p (pt.view.held pt.view.acting p) from)
calls_need n pt p from state h comes there for =
    let v = pt.view in
    let a = pt.addresses in
    let ids = v.held v.acting p in
    let end = to_kernel MessageKind.CallOff from ∷ [] in
    let lives = pt.kernel.processes in
    let was = subst (KnownIs n lives v v.acting p) comes (h.known v.acting p) in
    let needs : NeedsCalled n pt p = record {
      from = from;
      comes = comes;
      there = there;
      knows = λ i q least e. subst (λ (x : Known). Knows n lives v q (place_known x (v.moves p) (a (Receiver i)))) (sym comes) (subst (λ (r : Pid). KnowsAt n lives v r from) (sym (for i q least e)) (inr (was.2, there)));
      gone = λ i z k least. called_gone pt p state i z k least;
    } in (
      needs,
      (λ ls next is_ leads.
          let s = said_by pt next (Line.Called p (length ids)) (record { lines = ls; are = is_; leads = leads }) in
          let first = moved pt (Line.Called p (length ids)) s.kernel in
          subst (λ (q : Point). AllNeed n q (sends_on from ids ++ end)) s.is
          (agains_need n first first from ids end (λ i least. follow_at v a p from ids i (λ before. ap (λ (k : Known). (place_known k (v.moves p) before).at) comes) least) refl refl (λ m q. refl)
          (λ q kernel_ acting same_known. loose_need n q end (to_one n MessageKind.CallOff from (λ q. refl) (λ e. cc) refl was.1)))),
    )
