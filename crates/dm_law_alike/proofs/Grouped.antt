-- The labels of a group are those of services.
use Rattle.dm_law_rule.proofs.Names.{◌≡◌, ◌⊎◌, ℕ, ◌==◌, Bool, true, false, List, [], ◌∷◌, ◌++◌, refl, ap, ◌∙◌, sym, subst, arith, ⊤, inl, inr, if◌then◌else◌, Option, None, Some, Pid, MsgId, MessageKind, Label, PlainMessage, PlainProcess, PlainStatus, Ready, Waiting, Moving, Boot, Step, Line}
use Rattle.dm_law_rule.proofs.Names.{Load, Part, Says, Routes, Again, Owns, Transmits, Point, Spelled, spelled, lines_of, after, moved, ends_with, OneKernel, bind, bind-is, none_some}
use Rattle.dm_law_rule.proofs.Names.{machine_of, with_machine, first_awaited, serves_status, goes_round, called, stops, executes, ran, instruction, routes, plain_kind}
use Rattle.std.specs.List.{cons_option}
use Rattle.dm_onekernel.specs.Calls as calls
use Rattle.dm_onekernel.specs.Receiving as receiving
use Rattle.dm_onekernel.specs.Step as kernel
use Rattle.dm_law_rule.specs.Point.{label_of, labels}
use Rattle.dm_law_rule.specs.Parts.{goes_out, packet_line, puts}
use Rattle.dm_law_rule.specs.Addresses.{Receiver}
use Rattle.dm_law_rule.specs.View.{View, own_id}
use Rattle.std.specs.Prelude.{length}
use Rattle.dm_law_rule.specs.Rule as rule
use Rattle.dm_law_rule.proofs.Groups.{IsNetLine, IsNet}
use Rattle.dm_law_rule.proofs.Hearing.{Kept, IsHeardLine, kept_forward, hears_kept, calls_off_kept}
use Rattle.dm_law_rule.proofs.Outcomes.{by_outcome, by_parts, by_group, by_net}
use Rattle.dm_law_rule.proofs.Requests.{by_migrates}
use Rattle.dm_law_rule.proofs.Serving.{by_handles, Handles, ends_kept}
use Rattle.dm_law_one.proofs.Steps.{runs as running_is}
use Rattle.dm_law_always.proofs.RunLabels.{group_replay, labels-append}
use Rattle.dm_law_alike.specs.Services.{execute_labels, trap_labels, called_labels, is_act, Services, AreServices, GroupsAreServices, all_labels}

-- a line says nothing that a process does by itself
abbrev pub NoAct : Option Label → Type 0
NoAct None = ⊤
NoAct (Some l) = is_act l ≡ false

abbrev pub NoActs : List Part → Type 0
NoActs [] = ⊤
NoActs (Says l ∷ ps) = NoAct (label_of l) × NoActs ps
NoActs (p ∷ ps) = NoActs ps

-- the labels of parts
abbrev pub part_labels : List Part → List Label
part_labels [] = []
part_labels (Says l ∷ ps) = cons_option (label_of l) (part_labels ps)
part_labels (p ∷ ps) = part_labels ps

abbrev pub NoneActs : List Label → Type 0
NoneActs [] = ⊤
NoneActs (l ∷ ls) = (is_act l ≡ false) × NoneActs ls

cons_none : (o : Option Label) (ls : List Label) → NoAct o → NoneActs ls → NoneActs (cons_option o ls)
cons_none None ls h k = k
cons_none (Some l) ls h k = (h, k)

none_acts : (ps : List Part) → NoActs ps → NoneActs (part_labels ps)
none_acts [] h = tt
none_acts (Says l ∷ ps) h = cons_none (label_of l) (part_labels ps) h.0 (none_acts ps h.1)
none_acts (Routes i ∷ ps) h = none_acts ps h
none_acts (Again i to ∷ ps) h = none_acts ps h
none_acts (Owns k q to ∷ ps) h = none_acts ps h
none_acts (Transmits a b l ∷ ps) h = none_acts ps h

-- steps that no process does by itself are services, each alone
abbrev pub singles : List Label → List (List Label)
singles [] = []
singles (l ∷ ls) = (l ∷ []) ∷ singles ls

singles_labels : (ls : List Label) → all_labels (singles ls) ≡ ls
singles_labels [] = refl
singles_labels (l ∷ ls) = ap (λ v. l ∷ v) (singles_labels ls)

single_services : (quantum : ℕ) (ls : List Label) (s t : OneKernel) → NoneActs ls → kernel.replay s ls ≡ Some t → Services quantum s (singles ls) t
single_services quantum [] s t h e = let f : s ≡ t = cc in f
single_services quantum (l ∷ ls) s t h e =
    let (u, first, rest) = bind-is (kernel.step s l) (λ (v : OneKernel). kernel.replay v ls) t e in
    (u, inr (record { one = l; labels = refl; other = h.0; leads = first }), single_services quantum ls u t h.1 rest)

-- what the parts say is what their lines say
put_says_none : (v : View) (b : ℕ) (id : MsgId) (k : MessageKind) (q : Pid) (c d : Bool) (l : Line) → label_of l ≡ None → labels (Line.Put v.acting b id k q ∷ (if c then [] else if d then l ∷ [] else [])) ≡ []
put_says_none v b id k q true d l e = refl
put_says_none v b id k q false true l e = ap (λ o. cons_option o (labels [])) e
put_says_none v b id k q false false l e = refl

puts_none : (v : View) (b : ℕ) (id : MsgId) (k : MessageKind) (q : Pid) → labels (puts v b id k q) ≡ []
puts_none v b id k q =
    put_says_none v b id k q (v.acting == b) (goes_out (v.pair v.acting b)) (packet_line v v.acting b (Load.Data (length (v.pair v.acting b).ids))) refl

part_line : (pt : Point) (p : Part) (ls : List Line) → lines_of pt p ≡ Some ls → labels ls ≡ part_labels (p ∷ [])
part_line pt (Says l) ls e = let f : l ∷ [] ≡ ls = cc in sym (ap labels f)
part_line pt (Routes id) ls e =
    let (m, there, last) = bind-is (pt.kernel.bag id) (λ m. Some (puts pt.view (pt.addresses (Receiver id)).at id (plain_kind m.what) m.to)) ls e in
    let f : puts pt.view (pt.addresses (Receiver id)).at id (plain_kind m.what) m.to ≡ ls = cc in
    sym (ap labels f) ∙ puts_none pt.view (pt.addresses (Receiver id)).at id (plain_kind m.what) m.to
part_line pt (Again id b) ls e =
    let (t, told, last) = bind-is (pt.view.told id) (λ t. Some (puts pt.view b id t.kind t.receiver)) ls e in
    let f : puts pt.view b id t.kind t.receiver ≡ ls = cc in
    sym (ap labels f) ∙ puts_none pt.view b id t.kind t.receiver
part_line pt (Owns k q b) ls e = let f : puts pt.view b (own_id pt.view) k q ≡ ls = cc in sym (ap labels f) ∙ puts_none pt.view b (own_id pt.view) k q
part_line pt (Transmits a b l) ls e = let f : packet_line pt.view a b l ∷ [] ≡ ls = cc in sym (ap labels f)

cons_part : (p : Part) (ps : List Part) (xs : List Label) → xs ≡ part_labels ps → part_labels (p ∷ []) ++ xs ≡ part_labels (p ∷ ps)
cons_part (Says l) ps xs e = by_label (label_of l)
  where
    by_label : (o : Option Label) → cons_option o [] ++ xs ≡ cons_option o (part_labels ps)
    by_label None = e
    by_label (Some k) = ap (λ v. k ∷ v) e
cons_part (Routes i) ps xs e = e
cons_part (Again i to) ps xs e = e
cons_part (Owns k q to) ps xs e = e
cons_part (Transmits a b l) ps xs e = e

spelled_labels : (ps : List Part) (pt : Point) (w : Spelled) → spelled pt ps ≡ Some w → labels w.lines ≡ part_labels ps
spelled_labels = by_parts (λ ps pt w. labels w.lines ≡ part_labels ps) (λ pt. refl)
    (λ p ps pt next ls z is leads rest. labels-append ls z.lines ∙ ap (λ v. v ++ labels z.lines) (part_line pt p ls is) ∙ cons_part p ps (labels z.lines) rest)

-- either a process executes first, or no label is an act
pub record Executing (quantum : ℕ) (s : OneKernel) (ls : List Label) : Type 0 where
  pub process : Pid
  pub x : PlainProcess
  pub lives : kernel.alive (s.processes process) ≡ Some x
  pub others : List Label
  pub whole : ls ≡ execute_labels quantum process x ++ others
  pub none : NoneActs others

abbrev pub Serves : ℕ → OneKernel → List Part → Type 0
Serves quantum s ps = NoActs ps ⊎ Executing quantum s (part_labels ps)

end_acts : (o : Point) (m : ℕ) (p : Pid) → NoActs (ends_with o m p)
end_acts o m p = ends_kept NoActs tt (λ i ps h. (refl, h)) (λ to ps h. h) o m p

net_acts : (ps : List Part) → IsNet ps → NoActs ps
net_acts ps h = by_net NoActs tt (λ l qs is k. (net_none l is, k)) (λ a b l qs k. k) ps h
  where
    net_none : (l : Line) → IsNetLine l → NoAct (label_of l)
    net_none l is = search arith

heard_none : (l : Line) → IsHeardLine l → NoAct (label_of l)
heard_none l is = search arith

kept_acts : Kept NoActs
kept_acts = record { none = tt; says = λ l ps is h. (heard_none l is, h); again = λ i to ps h. h; owns = λ k q to ps h. h; answers = λ i r. (refl, tt) }

sent_acts : (sent : Option PlainMessage) → NoActs (routes sent)
sent_acts None = tt
sent_acts (Some m) = tt

handle_acts : (o : Point) (m : ℕ) (id : MsgId) (msg : PlainMessage) → Handles NoActs o m id msg
handle_acts o m id msg = record {
  created = λ fixed. (refl, tt);
  no_space = λ fixed slots blocks. (refl, tt);
  took = λ to sent. (refl, sent_acts sent);
  queued = λ to user. (tt, tt);
  served = λ to mild. (refl, tt);
  answers = λ to mild i. (refl, tt);
  kills = λ to kill. (refl, end_acts o m msg.to);
  moved = λ to is. (refl, (refl, tt));
  sets_off = λ n to is off. (refl, (tt, (tt, tt)));
  gone = λ to. (refl, tt);
  dropped = λ to. (refl, tt);
  leaving = λ n to. (tt, tt);
  coming = λ n to. (tt, tt);
  forwarded = λ n moves to. kept_forward NoActs kept_acts o.addresses id (plain_kind msg.what) msg.sender n;
}

-- a process that executes
called_parts_labels : (p : Pid) (n : ℕ) (after : List Part) (c : calls.Called) → (ls : List Label) × (part_labels (called p n after c) ≡ called_labels p n c ++ ls) × (NoneActs (part_labels after) → NoneActs ls)
called_parts_labels p n after (calls.Replies r x) = ([], refl, λ h. tt)
called_parts_labels p n after (calls.Sends m x) = ([], refl, λ h. tt)
called_parts_labels p n after (calls.Waits x) = ([], refl, λ h. tt)
called_parts_labels p n after (calls.Outputs w x) = ([], refl, λ h. tt)
called_parts_labels p n after (calls.Ends y) = (part_labels after, refl, λ h. h)

stop_labels : (p : Pid) (after : List Part) (b : Bool) (o : Option kernel.Trap) → (ls : List Label) × (part_labels (if b then [] else stops p after o) ≡ (if b then [] else trap_labels p o) ++ ls) × (NoneActs (part_labels after) → NoneActs ls)
stop_labels p after true o = ([], refl, λ h. tt)
stop_labels p after false None = ([], refl, λ h. tt)
stop_labels p after false (Some (kernel.Calls n c)) = called_parts_labels p n after c
stop_labels p after false (Some (kernel.Faults f)) = (part_labels after, refl, λ h. h)

execute_serves : (quantum : ℕ) (o : Point) (m : ℕ) (p : Pid) (x : PlainProcess) → kernel.alive (o.kernel.processes p) ≡ Some x → Serves quantum o.kernel (executes quantum p (ends_with o m p) x (ran quantum (machine_of x)))
execute_serves quantum o m p x lives =
    let r = ran quantum (machine_of x) in
    let next = kernel.next_row p (with_machine x r.machine) (instruction r.machine.regs r.machine.bytes) in
    let (ls, is, none) = stop_labels p (ends_with o m p) (r.count == quantum) next in
    inr (record { process = p; x = x; lives = lives; others = ls; whole = ap (λ v. Label.Ran p r.count ∷ v) is; none = none (none_acts (ends_with o m p) (end_acts o m p)) })

-- the process that is served
status_serves : (quantum : ℕ) (o : Point) (m : ℕ) (p : Pid) (x : PlainProcess) (st : PlainStatus) (ps : List Part) → kernel.alive (o.kernel.processes p) ≡ Some x → serves_status quantum o.kernel p (o.view.queue m p) (ends_with o m p) x st ≡ Some ps → Serves quantum o.kernel ps
status_serves quantum o m p x Ready ps lives e = let f : executes quantum p (ends_with o m p) x (ran quantum (machine_of x)) ≡ ps = cc in subst (Serves quantum o.kernel) f (execute_serves quantum o m p x lives)
status_serves quantum o m p x (Waiting mask base cap) ps runs e = inl (completion_acts (first_awaited o.kernel mask (o.view.queue m p)) e)
  where
    completed : (id : MsgId) (c : receiving.Completed) (qs : List Part) → Some (rule.completion_parts p id c) ≡ Some qs → NoActs qs
    completed id (receiving.Receives y) qs f = let g : rule.completion_parts p id (receiving.Receives y) ≡ qs = cc in subst NoActs g (refl, tt)
    completed id (receiving.Refuses r y) qs f = let g : rule.completion_parts p id (receiving.Refuses r y) ≡ qs = cc in subst NoActs g (refl, tt)

    completion_acts : (first : Option MsgId) → rule.reception_parts o.kernel p x first ≡ Some ps → NoActs ps
    completion_acts first f =
        let (id, is, rest) = bind-is first (λ i. bind (o.kernel.bag i) (λ m. bind (receiving.completes_with p x m) (λ c. Some (rule.completion_parts p i c)))) ps f in
        let (msg, there, more) = bind-is (o.kernel.bag id) (λ m. bind (receiving.completes_with p x m) (λ c. Some (rule.completion_parts p id c))) ps rest in
        let (c, completes, last) = bind-is (receiving.completes_with p x msg) (λ c. Some (rule.completion_parts p id c)) ps more in
        completed id c ps last
status_serves quantum o m p x (Moving dir owner base own left pending) ps runs e = none_some ps e

round_serves : (b : Boot) (o : Point) (m : ℕ) (q : Option Pid) (ps : List Part) → goes_round b o m q ≡ Some ps → Serves b.quantum o.kernel ps
round_serves b o m None ps e = let f : Says (Line.Idle m) ∷ [] ≡ ps = cc in inl (subst NoActs f (tt, tt))
round_serves b o m (Some p) ps e =
    let (x, alive, more) = bind-is (kernel.alive (o.kernel.processes p)) (λ x. serves_status b.quantum o.kernel p (o.view.queue m p) (ends_with o m p) x x.status) ps e in
    status_serves b.quantum o m p x x.status ps alive more

outcome_serves : (b : Boot) (o : Point) (d : Step) (ps : List Part) → rule.outcome b o d ≡ Some ps → Serves b.quantum o.kernel ps
outcome_serves b o d ps e = by_outcome (λ d ps. Serves b.quantum o.kernel ps) b o d ps (record {
  round = λ m qs empty is. round_serves b o m (rule.first_runnable o.kernel (o.view.queue m) (o.view.ring m)) qs is;
  handles = λ m i is msg qs box there rows. inl (by_handles NoActs b o m i msg qs (handle_acts o m i msg) rows);
  hears = λ m i is qs box none rows. inl (hears_kept NoActs kept_acts b o m i (o.view.told i) qs rows);
  ticks = λ m qs net. inl (net_acts qs net);
  delivers = λ a c k qs net. inl (net_acts qs net);
  asks = λ p m. inl (by_migrates NoActs o p (tt, tt) (tt, tt) (λ a seat knows. tt));
  calls = λ p m. inl (calls_off_kept NoActs kept_acts o m p);
}) e

-- a process that can run, since it does
runs_if : (s t : OneKernel) (p : Pid) (k : ℕ) (x : PlainProcess) (ls : List Label) → kernel.alive (s.processes p) ≡ Some x → kernel.replay s (Label.Ran p k ∷ ls) ≡ Some t → kernel.running s p ≡ Some x
runs_if s t p k x ls lives e =
    let (u, first, rest) = bind-is (kernel.step s (Label.Ran p k)) (λ (v : OneKernel). kernel.replay v ls) t e in
    let (y, runs, more) = bind-is (kernel.running s p) (λ (w : PlainProcess). bind (kernel.plain_steps k (kernel.machine_of w)) (λ (m : kernel.Machine). Some (kernel.goes_on s p (kernel.with_machine w m)))) u first in
    let r = running_is s p y runs in
    let same : Some y ≡ Some x = sym (ap kernel.alive r.alive) ∙ lives in
    let one : y ≡ x = cc in
    runs ∙ ap Some one

split_replay : (xs ys : List Label) (s t : OneKernel) → kernel.replay s (xs ++ ys) ≡ Some t → (u : OneKernel) × (kernel.replay s xs ≡ Some u) × (kernel.replay u ys ≡ Some t)
split_replay [] ys s t e = (s, refl, e)
split_replay (x ∷ xs) ys s t e =
    let (v, first, rest) = bind-is (kernel.step s x) (λ (w : OneKernel). kernel.replay w (xs ++ ys)) t e in
    let (u, before, behind_) = split_replay xs ys v t rest in
    (u, ap (λ o. bind o (λ (w : OneKernel). kernel.replay w xs)) first ∙ before, behind_)

-- labels of which none is an act, or a process executes first
label_services : (quantum : ℕ) (s t : OneKernel) (ps : List Part) → Serves quantum s ps → kernel.replay s (part_labels ps) ≡ Some t → AreServices quantum s (part_labels ps) t
label_services quantum s t ps (inl none) e =
    record { services = singles (part_labels ps); run = single_services quantum (part_labels ps) s t (none_acts ps none) e; labels = singles_labels (part_labels ps) }
label_services quantum s t ps (inr h) e =
    let acts = execute_labels quantum h.process h.x in
    let whole : kernel.replay s (acts ++ h.others) ≡ Some t = ap (kernel.replay s) (sym h.whole) ∙ e in
    let runs = runs_if s t h.process (ran quantum (machine_of h.x)).count h.x (tail_of quantum h.process h.x ++ h.others) h.lives whole in
    let (u, first, rest) = split_replay acts h.others s t whole in
    record {
      services = acts ∷ singles h.others;
      run = (u, inl (h.process, record { process = h.x; runs = runs; labels = refl; leads = first }), single_services quantum h.others u t h.none rest);
      labels = ap (λ v. acts ++ v) (singles_labels h.others) ∙ sym h.whole;
    }
  where
    tail_of : ℕ → Pid → PlainProcess → List Label
    tail_of quantum p x = let r = ran quantum (machine_of x) in if r.count == quantum then [] else trap_labels p (kernel.next_row p (with_machine x r.machine) (instruction r.machine.regs r.machine.bytes))

pub groups_are_services : GroupsAreServices
groups_are_services b pt d w e = by_group (λ v. kernel.replay pt.kernel (labels v.lines) ≡ Some v.point.kernel → AreServices b.quantum pt.kernel (labels v.lines) v.point.kernel) b pt d w
    (λ ps rest is said replays.
    let said_labels = spelled_labels ps (moved pt (Line.Head d) pt.kernel) rest said in
    subst (λ ls. AreServices b.quantum pt.kernel ls rest.point.kernel) (sym said_labels) (label_services b.quantum pt.kernel rest.point.kernel ps (outcome_serves b pt d ps is) (ap (kernel.replay pt.kernel) (sym said_labels) ∙ replays)))
    e (group_replay b pt d w e)
