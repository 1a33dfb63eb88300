-- The parts of a group keep where messages stand, where each has what it needs.
use Rattle.dm_law_always.proofs.Names.{◌≡◌, ℕ, ◌<◌, true, false, List, [], ◌∷◌, refl, ◌∙◌, sym, arith, ⊤, Option, None, Some, Pid, pid_of, MsgId, MessageKind, plain_kind, PlainMessage, PlainWhat, manager, id_eq-same, bind-is, Line, Told}
use Rattle.dm_law_always.proofs.Names.{own_id, Holder, Receiver, Sender, given, goes_between, own_given, Point, moved, after, Part, Says, Routes, Again, Owns, Transmits, Spelled, lines_of, puts, spelled, not_kernels, not_first, Sane}
use Rattle.dm_law_always.proofs.Names.{AllSayable, part_sane, is_own, by_parts, ◌+◌, ap, subst, Label, Boot, first_number, PlainProcess, Forward, forwards_on, Stops, by_round, by_handles, ◌==◌, Bool, ◌++◌, length, if◌then◌else◌}
use Rattle.dm_law_always.proofs.Names.{Stage, bind, About, Of, Known, Unknown, Here, target_of, front_of, to_kernel, accepts, takes_block, leaves, pieces_of, told_step, told_here, process_told, is_between, is_fixed, takes_chunk, chunks_of, Size, size_of, is_server}
use Rattle.dm_law_always.proofs.Names.{Outcome, MoveNote, OneKernel, answers_move, leaves_for, aim, label_of, kernel_after, at_record, at_record_at, tells_asker, View, after_line, packet_line, sort_of, Lives, buried, buries, bury_is}
use Rattle.dm_law_always.proofs.Names.{ends_with, inr, map, preds_of, tells_end}
use Rattle.dm_law_always.proofs.Found.Core.{Knows, IsReal, LineCore, KnowsAt, IsAt, NeedsPut, put_core}
use Rattle.dm_law_always.proofs.Based.Needs.{by_puts, said_by}
use Rattle.dm_law_always.proofs.Fits.Serves.{asked_noted}
use Rattle.dm_law_always.proofs.Found.Labels.{NeedsLine, line_core, packet_core}
use Rattle.dm_law_always.proofs.Below.{AllBelow, preds_below}
use Rattle.dm_law_always.proofs.Based.Loud.{Alike, over_alike, step_alike}
use Rattle.dm_law_always.proofs.Found.Core.{NeedsOver, knows_grow, same_grows}
use Rattle.dm_onekernel.specs.Pieces as pieces
use Rattle.dm_onekernel.specs.Step as kernel
use Rattle.dm_law_rule.specs.Rule as rule

-- the next message of the acting machine's kernel
pub record NeedsOwn (n : ℕ) (pt : Point) (k : MessageKind) (q : Pid) (b : ℕ) : Type 0 where
  pub knows : Knows n pt.kernel.processes pt.view q (given pt.addresses (own_given pt.kernel pt.view pt.addresses (own_id pt.view) q (sort_of k)) (Receiver (own_id pt.view)))
  pub from : k ≡ MessageKind.Migrate → Knows n pt.kernel.processes pt.view manager (given pt.addresses (own_given pt.kernel pt.view pt.addresses (own_id pt.view) q (sort_of k)) (Sender (own_id pt.view)))
  pub at : (given pt.addresses (own_given pt.kernel pt.view pt.addresses (own_id pt.view) q (sort_of k)) (Receiver (own_id pt.view))).at ≡ b
  pub real : IsReal n pt.kernel.processes pt.view q
  pub own : is_own k ≡ true

-- from kernel to kernel
pub between_own : (n : ℕ) (pt : Point) (k : MessageKind) (m : ℕ) → own_given pt.kernel pt.view pt.addresses (own_id pt.view) (pid_of m 0) (sort_of k) ≡ goes_between pt.view (own_id pt.view) (pid_of m 0) → (k ≡ MessageKind.Migrate → ⊥) → is_own k ≡ true → m < n → NeedsOwn n pt k (pid_of m 0) m
between_own n pt k m gives none own le = search (arith, pt.view, pt.addresses, pt.kernel, id_eq-same)

-- what a part needs
abbrev pub NeedsPart : ℕ → Point → Part → Type 0
NeedsPart n pt (Says l) = NeedsLine n pt l
NeedsPart n pt (Again i b) = (pt.addresses (Receiver i)).at ≡ b
NeedsPart n pt (Owns k q b) = NeedsOwn n pt k q b
NeedsPart n pt _ = ⊤

-- a put with its packet
puts_core : (n : ℕ) (pt next : Point) (b : ℕ) (i : MsgId) (k : MessageKind) (q : Pid) (ls : List Line) → NeedsPut n pt b i k q → LineCore n pt → Some (puts pt.view b i k q) ≡ Some ls → after pt ls ≡ Some next → LineCore n next
puts_core n pt next b i k q ls need h = by_puts (LineCore n) pt next b i k q ls (put_core n pt pt.view.acting b i k q need h) (packet_core n)

-- a message of the bag is none of a kernel's
pub plain_own : (w : PlainWhat) → is_own (plain_kind w) ≡ false
plain_own (PlainWhat.User a b c d) = refl
plain_own _ = refl

routed_needs : (n : ℕ) (pt : Point) (i : MsgId) (m : PlainMessage) (o : Option Told) → pt.view.told i ≡ o → pt.kernel.bag i ≡ Some m → Sane pt → NeedsPut n pt (pt.addresses (Receiver i)).at i (plain_kind m.what) m.to
routed_needs n pt i m None told there sane = NeedsPut.Routed (not_kernels sane.r sane.e pt.kernel i m there sane.sound) (plain_own m.what) told refl
routed_needs n pt i m (Some u) told there sane = NeedsPut.Again u told refl

pub own_outside : (pt : Point) → Sane pt → pt.kernel.bag (own_id pt.view) ≡ None
own_outside pt sane = search (arith, not_kernels)

pub own_fresh : (pt : Point) → Sane pt → pt.view.told (own_id pt.view) ≡ None
own_fresh pt sane = sane.numbered pt.view.acting (pt.view.count pt.view.acting) (omega arith)

one_line : (n : ℕ) (pt next : Point) (l : Line) (ls : List Line) → NeedsLine n pt l → Sane pt → Some (l ∷ []) ≡ Some ls → after pt ls ≡ Some next → LineCore n pt → LineCore n next
one_line n pt next l ls need sane is leads h =
    let f : l ∷ [] ≡ ls = cc in
    let (mid, first, last) = bind-is (after_line pt l) (λ q. after q []) next (ap (after pt) f ∙ leads) in
    let (s, step_, then_) = bind-is (kernel_after pt.kernel (label_of l)) (λ s. Some (moved pt l s)) mid first in
    let g : moved pt l s ≡ mid = cc in
    let e : mid ≡ next = cc in
    subst (LineCore n) (g ∙ e) (line_core n pt s l need sane step_ h)

pub part_core : (n : ℕ) (pt next : Point) (p : Part) (ls : List Line) → NeedsPart n pt p → Sane pt → lines_of pt p ≡ Some ls → after pt ls ≡ Some next → LineCore n pt → LineCore n next
part_core n pt next (Says l) ls need sane is leads h = one_line n pt next l ls need sane is leads h
part_core n pt next (Routes i) ls need sane is leads h =
    let (m, there, last) = bind-is (pt.kernel.bag i) (λ m. Some (puts pt.view (pt.addresses (Receiver i)).at i (plain_kind m.what) m.to)) ls is in
    puts_core n pt next (pt.addresses (Receiver i)).at i (plain_kind m.what) m.to ls (routed_needs n pt i m (pt.view.told i) refl there sane) h last leads
part_core n pt next (Again i b) ls need sane is leads h =
    let (t, there, last) = bind-is (pt.view.told i) (λ t. Some (puts pt.view b i t.kind t.receiver)) ls is in
    puts_core n pt next b i t.kind t.receiver ls (NeedsPut.Again t there need) h last leads
part_core n pt next (Owns k q b) ls need sane is leads h =
    puts_core n pt next b (own_id pt.view) k q ls (NeedsPut.Own (own_outside pt sane) (own_fresh pt sane) need.knows need.from need.at need.real need.own) h is leads
part_core n pt next (Transmits a b l) ls need sane is leads h = one_line n pt next (packet_line pt.view a b l) ls tt sane is leads h

-- each part has what it needs where the parts before it lead
abbrev pub AllNeed : ℕ → Point → List Part → Type 0
AllNeed n pt [] = ⊤
AllNeed n pt (p ∷ ps) = NeedsPart n pt p × ((ls : List Line) (next : Point) → lines_of pt p ≡ Some ls → after pt ls ≡ Some next → AllNeed n next ps)

abbrev pub NeedOf : ℕ → Point → Option (List Part) → Type 0
NeedOf n pt None = ⊤
NeedOf n pt (Some ps) = AllNeed n pt ps

-- most need nothing of where they stand
abbrev pub AllLoose : ℕ → List Part → Type 0
AllLoose n [] = ⊤
AllLoose n (p ∷ ps) = ((pt : Point) → NeedsPart n pt p) × AllLoose n ps

pub loose_need : (n : ℕ) (pt : Point) (ps : List Part) → AllLoose n ps → AllNeed n pt ps
loose_need n pt [] h = tt
loose_need n pt (p ∷ ps) h = (h.0 pt, λ ls next is leads. loose_need n next ps h.1)

pub first_need : (n : ℕ) (pt : Point) (p : Part) (ps : List Part) → NeedsPart n pt p → AllLoose n ps → AllNeed n pt (p ∷ ps)
first_need n pt p ps need h = (need, λ ls next is leads. loose_need n next ps h)

pub parts_core : (n : ℕ) (ps : List Part) (pt : Point) (w : Spelled) → AllSayable ps → AllNeed n pt ps → Sane pt → spelled pt ps ≡ Some w → LineCore n pt → LineCore n w.point
parts_core n qs q w ok need sane is h = by_parts (λ ps pt v. AllSayable ps → AllNeed n pt ps → Sane pt → LineCore n pt → LineCore n v.point) (λ pt ok need sane h. h)
    (λ p ps pt next ls z lines leads rest ok need sane h. rest ok.1 (need.1 ls next lines leads) (part_sane pt next p ls ok.0 lines leads sane) (part_core n pt next p ls need.0 sane lines leads h)) qs q w is ok need sane h

-- a message that was put before is put again: nothing but lists and wires changes
pub record Same (v w : Point) : Type 0 where
  pub kernel : w.kernel ≡ v.kernel
  pub addresses : (h : Holder) → w.addresses h ≡ v.addresses h
  pub own : own_id w.view ≡ own_id v.view
  pub acting : w.view.acting ≡ v.view.acting
  pub known : (m : ℕ) (p : Pid) → w.view.known m p ≡ v.view.known m p

pub again_same : (pt next : Point) (i : MsgId) (b : ℕ) (ls : List Line) → lines_of pt (Again i b) ≡ Some ls → after pt ls ≡ Some next → Same pt next
again_same pt next i b ls is leads = search (arith, bind-is, pt.view.told, pt.view, by_puts, not_first)

-- What each row of a turn needs: processes that run, messages of the bag, and messages of kernels.

-- a message from kernel to kernel, to a machine that there is
pub to_one : (n : ℕ) (k : MessageKind) (m : ℕ) → ((pt : Point) → own_given pt.kernel pt.view pt.addresses (own_id pt.view) (pid_of m 0) (sort_of k) ≡ goes_between pt.view (own_id pt.view) (pid_of m 0)) → (k ≡ MessageKind.Migrate → ⊥) → is_own k ≡ true → m < n → AllLoose n (to_kernel k m ∷ [])
to_one n k m gives none own le = ((λ pt. between_own n pt k m (gives pt) none own le), tt)

-- the queue of a process that ends goes, and its predecessors are told, which are machines that there are
drops_loose : (n : ℕ) (ids : List MsgId) (ps : List Part) → AllLoose n ps → AllLoose n (rule.drop_parts ids ++ ps)
drops_loose n [] ps h = h
drops_loose n (i ∷ is) ps h = (λ q. tt, drops_loose n is ps h)

buries_loose : (n : ℕ) (ms : List ℕ) → AllBelow n ms → AllLoose n (map (to_kernel MessageKind.Bury) ms)
buries_loose n [] h = tt
buries_loose n (m ∷ ms) h = ((to_one n MessageKind.Bury m (λ q. refl) (λ e. cc) refl h.0).0, buries_loose n ms h.1)

told_loose : (n : ℕ) (o : Point) (m : ℕ) (p : Pid) → o.kernel.machines ≡ n → AllLoose n (buries o m p)
told_loose n o m p same = buries_loose n (preds_of o m p) (subst (λ (k : ℕ). AllBelow k (preds_of o m p)) same (preds_below o m p))

ends_loose : (n : ℕ) (o : Point) (m : ℕ) (p : Pid) → o.kernel.machines ≡ n → AllLoose n (ends_with o m p)
ends_loose n o m p same = drops_loose n (o.view.queue m p) (buries o m p) (told_loose n o m p same)

stops_need : (n : ℕ) (pt : Point) (p : Pid) (over : List Part) → KnowsAt n pt.kernel.processes pt.view p pt.view.acting → AllLoose n over → Stops (AllNeed n pt) p over
stops_need n pt p over at loose = record {
  over = tt;
  replies = λ k c. first_need n pt (rule.says (Label.Call p k c)) [] at tt;
  sends = λ id. first_need n pt (rule.says (Label.Send p id)) (Routes id ∷ []) at (λ q. tt, tt);
  waits = first_need n pt (rule.says (Label.Wait p)) [] at tt;
  outputs = λ word. first_need n pt (rule.says (Label.Out p word)) [] at tt;
  ends = λ y. first_need n pt (rule.says (Label.End p y)) over tt loose;
}

-- where nobody is made and nobody ends
alike_knows : (n : ℕ) (s t : OneKernel) (v : View) (q : Pid) (m : ℕ) → Alike s t → KnowsAt n s.processes v q m → KnowsAt n t.processes v q m
alike_knows n s t v q m alike h = knows_grow n s.processes t.processes v v q m (same_grows s.processes t.processes v v (λ r lives. sym (over_alike (t.processes r) (s.processes r) (alike r)) ∙ lives) (λ i r. refl)) h

pub round_need : (n : ℕ) (pt : Point) (b : Boot) (o : Point) (m : ℕ) (q : Option Pid) (ps : List Part) → o.kernel.machines ≡ n → ((p : Pid) (x : PlainProcess) → q ≡ Some p → kernel.alive (o.kernel.processes p) ≡ Some x → KnowsAt n pt.kernel.processes pt.view p pt.view.acting)
    → rule.goes_round b o m q ≡ Some ps → AllNeed n pt ps
round_need n pt b o m q ps same at = by_round (AllNeed n pt) b o m q ps (first_need n pt (Says (Line.Idle m)) [] tt tt) (λ p x is alive. record {
  runs = λ k rest stops. (
    tt,
    (λ ls next lines leads.
        let s = said_by pt next (Line.Label (Label.Ran p k)) (record { lines = ls; are = lines; leads = leads }) in
        let mid = moved pt (Line.Label (Label.Ran p k)) s.kernel in
        let known = alike_knows n pt.kernel s.kernel pt.view p pt.view.acting (step_alike pt.kernel s.kernel (Label.Ran p k) refl s.step) (at p x is alive) in
        subst (λ (z : Point). AllNeed n z rest) s.is (stops (AllNeed n mid) (stops_need n mid p (ends_with o m p) known (ends_loose n o m p same)))),
  );
  takes = λ mask id first. first_need n pt (rule.says (Label.Receive p id)) [] tt tt;
  refuses = λ id r. first_need n pt (rule.says (Label.Refuse p id r)) [] tt tt;
})

-- the message at the front is in the bag, and its address names this machine
abbrev pub Front : Point → MsgId → Type 0
Front pt id = IsAt pt.addresses pt.view id pt.view.acting

routes_loose : (n : ℕ) (o : Option PlainMessage) → AllLoose n (rule.routes o)
routes_loose n None = tt
routes_loose n (Some k) = (λ q. tt, tt)

-- the answer to a request to move goes
pub answers_need : (n : ℕ) (pt : Point) (l : Line) (i : MsgId) (r : Outcome) → NeedsLine n pt l
    → ((s : OneKernel) → kernel_after pt.kernel (label_of l) ≡ Some s → (q : Pid) → s.noted i ≡ Some q → KnowsAt n s.processes (moved pt l s).view q (moved pt l s).view.acting) → AllNeed n pt (Says l ∷ answers_move i r)
answers_need n pt l i r need knows = (
  need,
  λ ls next is leads.
      let s = said_by pt next l (record { lines = ls; are = is; leads = leads }) in
      let behind = moved pt l s.kernel in
      subst (λ (q : Point). AllNeed n q (answers_move i r)) s.is (first_need n behind (rule.says (Label.Answered i r)) (Routes (pieces.answer_id i) ∷ []) (λ q noted. knows s.kernel s.step q noted) (λ q. tt, tt)),
)

-- a process is asked to move, and sets off
asks_need : (n : ℕ) (pt : Point) (id : MsgId) (k : PlainMessage) (to : ℕ) → pt.kernel.bag id ≡ Some k → k.what ≡ PlainWhat.Move to → to < n → is_fixed k.to ≡ false → AllNeed n pt (rule.says (Label.Asked id) ∷ leaves_for k.to to)
asks_need n pt id k to there what le free = search (arith, said_by, pt.kernel.bag, k.to, first_need, to_one)

-- where a message goes that asks its receiver to move
abbrev pub Moves : ℕ → PlainMessage → Type 0
Moves n k = (to : ℕ) → k.what ≡ PlainWhat.Move to → (to < n) × (is_fixed k.to ≡ false)

pub handles_need : (n : ℕ) (pt : Point) (b : Boot) (o : Point) (m : ℕ) (id : MsgId) (k : PlainMessage) (ps : List Part) → o.kernel.machines ≡ n → Front pt id → pt.kernel.bag id ≡ Some k → KnowsAt n pt.kernel.processes pt.view k.to pt.view.acting → Moves n k → ((to c : ℕ) → o.view.known m k.to ≡ Forward to c → AllNeed n pt (forwards_on o.addresses id (plain_kind k.what) k.sender to))
    → rule.handles b o m id k ≡ Some ps → AllNeed n pt ps
handles_need n pt b o m id k ps same at there knows moves forwards = by_handles (AllNeed n pt) b o m id k ps (record {
  created = λ fixed. first_need n pt (rule.says (Label.Created id (pid_of m (first_number + o.kernel.made m)))) (Routes (pieces.answer_id id) ∷ []) at (λ q. tt, tt);
  no_space = λ fixed slots blocks. first_need n pt (rule.says (Label.NoSpace id slots blocks)) (Routes (pieces.answer_id id) ∷ []) at (λ q. tt, tt);
  took = λ fixed sent. first_need n pt (rule.says (Label.Took id)) (rule.routes sent) at (routes_loose n sent);
  queued = λ to user. first_need n pt (Says (Line.Queued id)) [] at tt;
  served = λ to mild. first_need n pt (rule.says (Label.Served id)) [] at tt;
  answers = λ to mild i. first_need n pt (rule.says (Label.Served id)) (Routes i ∷ []) at (λ q. tt, tt);
  kills = λ to kills. first_need n pt (rule.says (Label.Served id)) (ends_with o m k.to) at (ends_loose n o m k.to same);
  moved = λ to what. answers_need n pt (Line.Label (Label.Asked id)) id Outcome.Done tt (λ s step q noted.
      let f : k.to ≡ q = (let g : Some k.to ≡ Some q = sym (asked_noted pt.kernel s id k step there) ∙ noted in cc) in
      subst (λ (x : Pid). KnowsAt n s.processes pt.view x pt.view.acting) f (alike_knows n pt.kernel s pt.view k.to pt.view.acting (step_alike pt.kernel s (Label.Asked id) refl step) knows));
  sets_off = λ x to what apart. (let f = moves x what in asks_need n pt id k x there what f.0 f.1);
  gone = λ to. first_need n pt (rule.says (Label.Gone id)) (Routes (pieces.answer_id id) ∷ []) at (λ q. tt, tt);
  dropped = λ to. first_need n pt (rule.says (Label.Dropped id)) [] tt tt;
  leaving = λ x to. first_need n pt (Says (Line.Held id)) [] at tt;
  coming = λ x to. first_need n pt (Says (Line.Held id)) [] at tt;
  forwarded = λ x c to. forwards x c to.known;
})

accepts_need : (n : ℕ) (pt : Point) (from : ℕ) (p : Pid) (c : Bool) (slots blocks : ℕ) → from < n → (front_of (pt.view.inbox pt.view.acting) < n) × (is_fixed p ≡ false) → AllNeed n pt (accepts from p c slots blocks)
accepts_need n pt from p true slots blocks le front = first_need n pt (Says (Line.Migration Stage.Accepted p)) (to_kernel MessageKind.PullState from ∷ []) front (to_one n MessageKind.PullState from (λ q. refl) (λ e. cc) refl le)
accepts_need n pt from p false slots blocks le front = first_need n pt (Says (Line.Lacks p slots blocks)) (to_kernel MessageKind.Refuse from ∷ []) tt (to_one n MessageKind.Refuse from (λ q. refl) (λ e. cc) refl le)

-- a piece has come
chunk_by : (n : ℕ) (pt : Point) (id : MsgId) (p : Pid) (last server : Bool) → id.from.home < n
    → AllNeed n pt (if last then (if server then Says (Line.Migration Stage.StateTaken p) ∷ Says (Line.Migration Stage.MemoryTaken p) ∷ to_kernel MessageKind.AllTaken id.from.home ∷ [] else Says (Line.Migration Stage.StateTaken p) ∷ to_kernel MessageKind.PullBlock id.from.home ∷ [])
    else Says (Line.Proto id) ∷ to_kernel MessageKind.PullState id.from.home ∷ [])
chunk_by n pt id p true true le =
    first_need n pt (Says (Line.Migration Stage.StateTaken p)) (Says (Line.Migration Stage.MemoryTaken p) ∷ to_kernel MessageKind.AllTaken id.from.home ∷ []) tt (λ q. tt, to_one n MessageKind.AllTaken id.from.home (λ q. refl) (λ e. cc) refl le)
chunk_by n pt id p true false le = first_need n pt (Says (Line.Migration Stage.StateTaken p)) (to_kernel MessageKind.PullBlock id.from.home ∷ []) tt (to_one n MessageKind.PullBlock id.from.home (λ q. refl) (λ e. cc) refl le)
chunk_by n pt id p false server le = first_need n pt (Says (Line.Proto id)) (to_kernel MessageKind.PullState id.from.home ∷ []) tt (to_one n MessageKind.PullState id.from.home (λ q. refl) (λ e. cc) refl le)

chunk_need : (n : ℕ) (pt : Point) (id : MsgId) (p : Pid) (last : Bool) → id.from.home < n → AllNeed n pt (takes_chunk id p last)
chunk_need n pt id p last le = chunk_by n pt id p last (is_server p) le

block_need : (n : ℕ) (pt : Point) (id : MsgId) (p : Pid) (c : Bool) → id.from.home < n → AllNeed n pt (takes_block id p c)
block_need n pt id p true le = first_need n pt (Says (Line.Migration Stage.MemoryTaken p)) (to_kernel MessageKind.AllTaken id.from.home ∷ []) tt (to_one n MessageKind.AllTaken id.from.home (λ q. refl) (λ e. cc) refl le)
block_need n pt id p false le = first_need n pt (Says (Line.Proto id)) (to_kernel MessageKind.PullBlock id.from.home ∷ []) tt (to_one n MessageKind.PullBlock id.from.home (λ q. refl) (λ e. cc) refl le)

-- where one between kernels is heard
abbrev pub Heard : ℕ → Point → Point → ℕ → MsgId → Pid → MessageKind → Type 0
Heard n pt o m id p k =
    (id.from.home < n) × ((front_of (pt.view.inbox pt.view.acting) < n) × (is_fixed p ≡ false)) × ((z : MoveNote) → o.kernel.notes p ≡ Some z → pt.kernel.noted z.id ≡ Some p) × (k ≡ MessageKind.AllTaken → NeedOf n pt (leaves id p (o.view.queue m p ++ o.view.held m p) (o.view.known m p)))

-- and told to who asked for it
asker_need : (n : ℕ) (pt : Point) (l : Line) (o : Option MoveNote) (r : Outcome) → NeedsLine n pt l
    → ((z : MoveNote) → o ≡ Some z → (s : OneKernel) → kernel_after pt.kernel (label_of l) ≡ Some s → (q : Pid) → s.noted z.id ≡ Some q → KnowsAt n s.processes (moved pt l s).view q (moved pt l s).view.acting) → AllNeed n pt (Says l ∷ tells_asker o r)
asker_need n pt l None r need knows = first_need n pt (Says l) [] need tt
asker_need n pt l (Some z) r need knows = answers_need n pt l z.id r need (knows z refl)

-- a process that follows a request stays here
comes_here : (n : ℕ) (l : Lives) (v w : View) (p q : Pid) → v.acting < n → w.known ≡ at_record v.known v.acting p Here → w.acting ≡ v.acting → is_fixed p ≡ false → p ≡ q → KnowsAt n l w q w.acting
comes_here n l v w p q le known acting free same =
    let here : w.known w.acting p ≡ Here = ap (λ (m : ℕ). w.known m p) acting ∙ ap (λ (f : ℕ → Pid → Known). f v.acting p) known ∙ at_record_at v.known v.acting p Here in
    subst (λ (x : Pid). KnowsAt n l w x w.acting) same (inr (free, (subst (λ (m : ℕ). m < n) (sym acting) le, λ lives e. (let f : Here ≡ Unknown = sym here ∙ e in cc))))

noted_same : (s t : OneKernel) (z : MoveNote) (p q : Pid) → Some s ≡ Some t → s.noted z.id ≡ Some p → t.noted z.id ≡ Some q → p ≡ q
noted_same s t z p q e f g = search (arith, z.id)

told_need : (n : ℕ) (pt o : Point) (m : ℕ) (id : MsgId) (p : Pid) (room : Bool × ℕ × ℕ) (x : Size) (k : MessageKind) → pt.view.acting < n → (is_between k ≡ true → Heard n pt o m id p k) → NeedOf n pt (told_step o m id p room x (sort_of k))
told_need n pt o m id p room x MessageKind.Ask le h = accepts_need n pt id.from.home p room.0 room.1 room.2 (h refl).0 (h refl).1
told_need n pt o m id p room x MessageKind.Refuse le h =
    asker_need n pt (Line.Stays p) (o.kernel.notes p) Outcome.Stayed tt (λ z e s step q noted. comes_here n s.processes pt.view (moved pt (Line.Stays p) s).view p q le refl refl (h refl).1.1 (noted_same pt.kernel s z p q step ((h refl).2 z e) noted))
told_need n pt o m id p room x MessageKind.PullState le h = first_need n pt (Says (Line.Proto id)) (to_kernel MessageKind.State id.from.home ∷ []) tt (to_one n MessageKind.State id.from.home (λ q. refl) (λ e. cc) refl (h refl).0)
told_need n pt o m id p room x MessageKind.State le h = chunk_need n pt id p (o.view.asked p == chunks_of x) (h refl).0
told_need n pt o m id p room x MessageKind.PullBlock le h = first_need n pt (Says (Line.Proto id)) (to_kernel MessageKind.Memory id.from.home ∷ []) tt (to_one n MessageKind.Memory id.from.home (λ q. refl) (λ e. cc) refl (h refl).0)
told_need n pt o m id p room x MessageKind.Memory le h = block_need n pt id p (o.view.asked p == pieces_of x) (h refl).0
told_need n pt o m id p room x MessageKind.AllTaken le h = (h refl).3 refl
told_need n pt o m id p room x MessageKind.Restart le h =
    asker_need n pt (Line.Migration Stage.Restarted p) (o.kernel.notes p) Outcome.Done tt (λ z e s step q noted. comes_here n s.processes pt.view (moved pt (Line.Migration Stage.Restarted p) s).view p q le refl refl (h refl).1.1 (noted_same pt.kernel s z p q step ((h refl).2 z e) noted))
told_need n pt o m id p room x MessageKind.CallOff le h =
    asker_need n pt (Line.Stays p) (o.kernel.notes p) Outcome.Stayed tt (λ z e s step q noted. comes_here n s.processes pt.view (moved pt (Line.Stays p) s).view p q le refl refl (h refl).1.1 (noted_same pt.kernel s z p q step ((h refl).2 z e) noted))
told_need n pt o m id p room x _ le h = tt

bind_need : {X : Type 0} (n : ℕ) (pt : Point) (o : Option X) (f : X → Option (List Part)) → ((x : X) → o ≡ Some x → NeedOf n pt (f x)) → NeedOf n pt (bind o f)
bind_need n pt None f h = tt
bind_need n pt (Some x) f h = h x refl

stale_need : (n : ℕ) (pt : Point) (id : MsgId) (c : Bool) (q : Option (List Part)) → (c ≡ false → NeedOf n pt q) → NeedOf n pt (if c then Some (Says (Line.Stale id) ∷ []) else q)
stale_need n pt id true q h = first_need n pt (Says (Line.Stale id)) [] tt tt
stale_need n pt id false q h = h refl

over_need : (n : ℕ) (pt : Point) (c : Bool) (ps : List Part) (q : Option (List Part)) → (c ≡ true → AllNeed n pt ps) → (c ≡ false → NeedOf n pt q) → NeedOf n pt (if c then Some ps else q)
over_need n pt true ps q h k = h refl
over_need n pt false ps q h k = k refl

buried_need : (n : ℕ) (pt o : Point) (m : ℕ) (id : MsgId) (p : Pid) → o.kernel.machines ≡ n → NeedsOver pt id → AllNeed n pt (buried o m id p)
buried_need n pt o m id p same over = first_need n pt (Says (Line.Buried id (length (preds_of o m p)))) (buries o m p) over (told_loose n o m p same)

kernel_hears_need : (n : ℕ) (pt : Point) (b : Boot) (o : Point) (m : ℕ) (id : MsgId) (k : MessageKind) (a : About) → o.kernel.machines ≡ n → pt.view.acting < n → (k ≡ MessageKind.Bury → NeedsOver pt id)
    → ((p : Pid) → a ≡ Of p → is_between k ≡ true → rule.is_stale o m id k p ≡ false → Heard n pt o m id p k) → NeedOf n pt (rule.kernel_hears b o m id k a)
kernel_hears_need n pt b o m id k (Of p) same le over h =
    let step = λ (x : Size). told_step o m id p (rule.fits (rule.free_room b o m) x.blocks) x (sort_of k) in
    let steps = bind (size_of o.kernel p) step in
    over_need n pt (tells_end (sort_of k)) (buried o m id p) (if rule.is_stale o m id k p then Some (Says (Line.Stale id) ∷ []) else steps) (λ ends. buried_need n pt o m id p same (over (bury_is k ends)))
    (λ off. stale_need n pt id (rule.is_stale o m id k p) steps
    (λ due. bind_need n pt (size_of o.kernel p) step (λ x e. told_need n pt o m id p (rule.fits (rule.free_room b o m) x.blocks) x k le (λ between. h p refl between due))))
kernel_hears_need n pt b o m id k _ same le over h = tt

moves_need : (n : ℕ) (pt : Point) (id : MsgId) (p : Pid) (to : ℕ) (c : Bool) → to < n → (aim pt.view pt.view.topic < n) × (is_fixed p ≡ false)
    → AllNeed n pt (if c then Says (Line.Here id) ∷ [] else Says (Line.Migration Stage.Frozen p) ∷ Says (Line.Migration Stage.Asked p) ∷ to_kernel MessageKind.Ask to ∷ [])
moves_need n pt id p to true le front = first_need n pt (Says (Line.Here id)) [] tt tt
moves_need n pt id p to false le front = first_need n pt (Says (Line.Migration Stage.Frozen p)) (Says (Line.Migration Stage.Asked p) ∷ to_kernel MessageKind.Ask to ∷ []) front (λ q. tt, to_one n MessageKind.Ask to (λ q. refl) (λ e. cc) refl le)

here_told_need : (n : ℕ) (pt o : Point) (m : ℕ) (id : MsgId) (t : Told) (k : MessageKind) → target_of (Some t) < n → (aim pt.view pt.view.topic < n) × (is_fixed t.receiver ≡ false) → NeedOf n pt (told_here o m id t (sort_of k))
here_told_need n pt o m id t MessageKind.Migrate le front = moves_need n pt id t.receiver (target_of (Some t)) (m == target_of (Some t)) le front
here_told_need n pt o m id t MessageKind.Update le front = (tt, λ ls next is leads. tt)
here_told_need n pt o m id t _ le front = tt

process_told_need : (n : ℕ) (pt o : Point) (m : ℕ) (id : MsgId) (t : Told) (k : Known) → Front pt id → target_of (Some t) < n → aim pt.view pt.view.topic < n → (t.receiver.num == 0) ≡ false
    → ((to c : ℕ) → k ≡ Forward to c → AllNeed n pt (forwards_on o.addresses id t.kind manager to)) → NeedOf n pt (process_told o m id t k)
process_told_need n pt o m id t Unknown at le front num forwards = search (arith, t.kind)
process_told_need n pt o m id t Here at le front num forwards = here_told_need n pt o m id t t.kind le (front, num)
process_told_need n pt o m id t (Forward to c) at le front num forwards = forwards to c refl
process_told_need n pt o m id t _ at le front num forwards = first_need n pt (Says (Line.Held id)) [] at tt

by_kernel : (n : ℕ) (pt : Point) (c : Bool) (x w : Option (List Part)) → NeedOf n pt x → (c ≡ false → NeedOf n pt w) → NeedOf n pt (if c then x else w)
by_kernel n pt true x w h k = h
by_kernel n pt false x w h k = k refl

pub told_by_need : (n : ℕ) (pt : Point) (b : Boot) (o : Point) (m : ℕ) (id : MsgId) (t : Told) → o.kernel.machines ≡ n → pt.view.acting < n → (t.kind ≡ MessageKind.Bury → NeedsOver pt id) → Front pt id → target_of (Some t) < n → aim pt.view pt.view.topic < n
    → ((p : Pid) → t.about ≡ Of p → is_between t.kind ≡ true → rule.is_stale o m id t.kind p ≡ false → Heard n pt o m id p t.kind)
    → ((to c : ℕ) → o.view.known m t.receiver ≡ Forward to c → AllNeed n pt (forwards_on o.addresses id t.kind manager to)) → NeedOf n pt (rule.hears b o m id (Some t))
told_by_need n pt b o m id t same acts over at le front kernels forwards =
    by_kernel n pt (t.receiver.num == 0) (rule.kernel_hears b o m id t.kind t.about) (process_told o m id t (o.view.known m t.receiver)) (kernel_hears_need n pt b o m id t.kind t.about same acts over kernels)
    (λ num. process_told_need n pt o m id t (o.view.known m t.receiver) at le front num forwards)
