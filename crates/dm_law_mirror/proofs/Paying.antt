-- Where a turn raises a count, it routes a message.
use Rattle.dm_law_mirror.proofs.Names.{Run, ◌≡◌, ◌⊎◌, inl, inr, ℕ, ◌+◌, ◌==◌, Bool, true, false, List, [], ◌∷◌, length, refl, ap, ◌∙◌, sym, subst, arith, ⊤, if◌then◌else◌, slice_get, Option, None, Some, Pid, pid_eq, pid_of, MsgId, Why}
use Rattle.dm_law_mirror.proofs.Names.{PlainMessage, PlainWhat, Boot, Label, first_number, switchboard, manager, bind, PlainProcess, PlainStatus, Ready, Waiting, Moving, OneKernel, answer_id, Point, label_of, kernel_after, Says, Routes, Again}
use Rattle.dm_law_mirror.proofs.Names.{Owns, Transmits, IsNet, Addresses, Sender, is_told_back, forwards_on, plain_kind, MessageKind, nat_tests, Outcome, PendingKind, MoveNote, PendingFits, WhatFits, is_for, kind_eq, answers_move, leaves_for}
use Rattle.dm_law_mirror.proofs.Names.{option_map, each_pending, ends_with, ends_kept, instruction}
use Rattle.dm_law_rule.proofs.Names.{Part}
use Rattle.dm_onekernel.specs.Calls as calls
use Rattle.dm_onekernel.specs.Pieces as pieces
use Rattle.dm_onekernel.specs.Receiving as receiving
use Rattle.dm_onekernel.specs.Switchboard as board
use Rattle.dm_onekernel.specs.Manager as manage
use Rattle.dm_onekernel.specs.Step as kernel
use Rattle.dm_law_rule.specs.Rule as rule
use Rattle.dm_law_rule.specs.View as view
use Rattle.dm_law_mirror.proofs.Raises.{Within, ran_raises, call_raises, send_raises, wait_raises, out_raises, end_raises, receive_raises, refuse_raises}
use Rattle.dm_law_rule.specs.Migrating.{tells_asker}
use Rattle.dm_law_mirror.proofs.RaisesMade.{board_raise, manager_raise, HasAnswer, took_raise, took_raises, created_makes, landed_raise, served_raise, sent_raise, asked_raises, move_answered_raises, dropped_raises, gone_raises, no_space_raises, served_raises}
use Rattle.dm_law_mirror.proofs.Counts.Pairs.{is_free}

-- nothing is left but one message to route
abbrev pub RoutesOne : List Part → Type 0
RoutesOne ps = (i : MsgId) × (ps ≡ Routes i ∷ [])

-- a label raises no count, or it raises them by at most one, and then a message is routed
abbrev pub Paid : OneKernel → List Part → Type 0
Paid s [] = ⊤
Paid s (Says l ∷ ps) = (is_free l ≡ true) × ((t : OneKernel) → kernel_after s (label_of l) ≡ Some t → (Within 0 s t × Paid t ps) ⊎ (Within 1 s t × RoutesOne ps))
Paid s (Routes i ∷ ps) = Paid s ps
Paid s (Again i b ∷ ps) = Paid s ps
Paid s (Owns k q b ∷ ps) = Paid s ps
Paid s (Transmits a c l ∷ ps) = Paid s ps

abbrev pub PaidIf : OneKernel → Option (List Part) → Type 0
PaidIf s None = ⊤
PaidIf s (Some ps) = Paid s ps

pub same_within : (s : OneKernel) → Within 0 s s
same_within s = record { sent = λ p. omega arith; board = omega arith; manager = omega arith; children = omega arith; made = λ h. omega arith; names = omega arith }

pub line_within : (s t : OneKernel) (o : Option Label) → o ≡ None → kernel_after s o ≡ Some t → Within 0 s t
line_within s t None e f = let k : s ≡ t = cc in subst (Within 0 s) k (same_within s)
line_within s t (Some l) e f = cc

-- whatever the kernel is then
abbrev pub AllPaid : List Part → Type 0
AllPaid ps = (s : OneKernel) → Paid s ps

-- a queue goes, and others are told
ends_paid : (pt : Point) (m : ℕ) (p : Pid) → AllPaid (ends_with pt m p)
ends_paid pt m p = ends_kept AllPaid (λ s. tt) (λ i ps h s. (refl, λ t e. inl ((dropped_raises s t i e).within, h t))) (λ to ps h s. h s) pt m p

-- a process is served
called_paid : (s : OneKernel) (p : Pid) (n : ℕ) (over : List Part) (c : calls.Called) → AllPaid over → Paid s (rule.called p n over c)
called_paid s p n over (calls.Replies reply x) ends = (refl, λ t e. inl ((call_raises s t p n reply e).within, tt))
called_paid s p n over (calls.Sends m x) ends = (refl, λ t e. inr ((send_raises s t p m.id e).within, (m.id, refl)))
called_paid s p n over (calls.Waits x) ends = (refl, λ t e. inl ((wait_raises s t p e).within, tt))
called_paid s p n over (calls.Outputs word x) ends = (refl, λ t e. inl ((out_raises s t p word e).within, tt))
called_paid s p n over (calls.Ends because) ends = (refl, λ t e. inl ((end_raises s t p because e).within, ends t))

stops_paid : (s : OneKernel) (p : Pid) (over : List Part) (o : Option kernel.Trap) → AllPaid over → Paid s (rule.stops p over o)
stops_paid s p over None ends = tt
stops_paid s p over (Some (kernel.Calls n c)) ends = called_paid s p n over c ends
stops_paid s p over (Some (kernel.Faults fault)) ends = (refl, λ t e. inl ((end_raises s t p (Why.Fault fault) e).within, ends t))

unless_paid : (s : OneKernel) (c : Bool) (ps : List Part) → Paid s ps → Paid s (if c then [] else ps)
unless_paid s c ps h = grind (arith, nat_tests)

-- parts that come of an option
paid_if : {A : Type 0} (s : OneKernel) (o : Option A) (go : A → Option (List Part)) → ((x : A) → o ≡ Some x → PaidIf s (go x)) → PaidIf s (bind o go)
paid_if s None go h = tt
paid_if s (Some x) go h = h x refl

paid_map : {A : Type 0} (s : OneKernel) (o : Option A) (go : A → List Part) → ((x : A) → o ≡ Some x → Paid s (go x)) → PaidIf s (option_map go o)
paid_map s None go h = tt
paid_map s (Some x) go h = h x refl

status_paid : (quantum : ℕ) (s : OneKernel) (p : Pid) (queue : List MsgId) (over : List Part) (x : PlainProcess) (st : PlainStatus) → AllPaid over → PaidIf s (rule.serves_status quantum s p queue over x st)
status_paid quantum s p queue over x Ready ends =
    let r = rule.ran quantum (kernel.machine_of x) in
    let trap = kernel.next_row p (kernel.with_machine x r.machine) (instruction r.machine.regs r.machine.bytes) in
    (refl, λ t e. inl ((ran_raises s t p r.count e).within, unless_paid t (r.count == quantum) (rule.stops p over trap) (stops_paid t p over trap ends)))
status_paid quantum s p queue over x (Waiting mask base size) ends =
    let completes_paid : (s : OneKernel) (p : Pid) (i : MsgId) (c : receiving.Completed) → Paid s (rule.completion_parts p i c) = λ s p i c. grind (arith, nat_tests, receive_raises, refuse_raises) in
    paid_if s (rule.first_awaited s mask queue) _ (λ i is. paid_if s (s.bag i) _ (λ m there. paid_if s (receiving.completes_with p x m) _ (λ c done. completes_paid s p i c)))
status_paid quantum s p queue over x (Moving dir owner base own left pending) ends = tt

pub round_paid : (b : Boot) (pt : Point) (m : ℕ) (o : Option Pid) → PaidIf pt.kernel (rule.goes_round b pt m o)
round_paid b pt m None = (refl, λ t e. inl (line_within pt.kernel t None refl e, tt))
round_paid b pt m (Some p) = paid_if pt.kernel (kernel.alive (pt.kernel.processes p)) _ (λ x is. status_paid b.quantum pt.kernel p (pt.view.queue m p) (ends_with pt m p) x x.status (ends_paid pt m p))

-- a kernel makes a process, or has no room
created_paid : (s : OneKernel) (i : MsgId) (child : Pid) (slots blocks : ℕ) (c : Bool) (j : MsgId) → Paid s ((if c then rule.says (Label.Created i child) else rule.says (Label.NoSpace i slots blocks)) ∷ Routes j ∷ [])
created_paid s i child slots blocks true j = (refl, λ t e. inr ((created_makes s t i child e).counts, (j, refl)))
created_paid s i child slots blocks false j = (refl, λ t e. inl ((no_space_raises s t i slots blocks e).within, tt))

kernel_paid : (b : Boot) (pt : Point) (m : ℕ) (i : MsgId) (w : PlainWhat) → PaidIf pt.kernel (rule.kernel_handles b pt m i w)
kernel_paid b pt m i (PlainWhat.Create image links) =
    let r = rule.free_room b pt m in
    paid_map pt.kernel (slice_get b.images image) _ (λ g is. created_paid pt.kernel i (pid_of m (first_number + pt.kernel.made m)) r.slots r.blocks (rule.has_room r g.blocks) (answer_id i))
kernel_paid b pt m i _ = tt

-- a server takes a message
took_paid : (s : OneKernel) (i : MsgId) (m : PlainMessage) (o : Option PlainMessage) → HasAnswer s.manager m.id.n m.what → s.bag i ≡ Some m → took_raise s m ≡ sent_raise o → Paid s (rule.says (Label.Took i) ∷ rule.routes o)
took_paid s i m o has there is = (refl, λ t e. by o is t (within t e))
  where
    within : (t : OneKernel) → kernel.step s (Label.Took i) ≡ Some t → Within (took_raise s m) s t
    within t e =
        let k = took_raises s t i e in
        let g : k.m ≡ m = cc in
        subst (λ (v : PlainMessage). Within (took_raise s v) s t) g (k.raises (subst (λ (v : PlainMessage). HasAnswer s.manager v.id.n v.what) (sym g) has)).within

    by : (o : Option PlainMessage) → took_raise s m ≡ sent_raise o → (t : OneKernel) → Within (took_raise s m) s t → (Within 0 s t × Paid t (rule.routes o)) ⊎ (Within 1 s t × RoutesOne (rule.routes o))
    by None e t w = inl (subst (λ n. Within n s t) e w, tt)
    by (Some x) e t w = inr (subst (λ n. Within n s t) e w, (x.id, refl))

-- a message for a living process's kernel
serves_paid : (s : OneKernel) (i : MsgId) (m : PlainMessage) (x : PlainProcess) (t : OneKernel) → s.bag i ≡ Some m → kernel.alive (s.processes m.to) ≡ Some x → kernel.step s (Label.Served i) ≡ Some t → Within (served_raise m x m.what) s t
serves_paid s i m x t there alive e =
    let k = served_raises s t i e in
    let g : k.m ≡ m = cc in
    let h : k.x ≡ x = cc in
    subst (λ (v : PlainProcess). Within (served_raise m v m.what) s t) h (subst (λ (v : PlainMessage). Within (served_raise v k.x v.what) s t) g k.raises.within)

lands_paid : (s : OneKernel) (i : MsgId) (o : Option pieces.Landed) → ((t : OneKernel) → kernel.step s (Label.Served i) ≡ Some t → Within (landed_raise o) s t) → PaidIf s (rule.landing_parts i o)
lands_paid s i None h = tt
lands_paid s i (Some (pieces.Next request x)) h = (refl, λ t e. inr (h t e, (request.id, refl)))
lands_paid s i (Some (pieces.Done reply x)) h = (refl, λ t e. inl (h t e, tt))

-- a request to move
asked_paid : (s : OneKernel) (m : ℕ) (i : MsgId) (p : Pid) (to : ℕ) (c : Bool) → Paid s (rule.says (Label.Asked i) ∷ (if c then answers_move i Outcome.Done else leaves_for p to))
asked_paid s m i p to true = (refl, λ t e. inl ((asked_raises s t i e).within, (refl, λ u f. inl ((move_answered_raises t u i Outcome.Done f).within, tt))))
asked_paid s m i p to false = (refl, λ t e. inl ((asked_raises s t i e).within, (refl, λ u f. inl (line_within t u None refl f, (refl, λ v g. inl (line_within u v None refl g, tt))))))

-- who asked for a move is told
pub tells_paid : (s : OneKernel) (n : Option MoveNote) (o : Outcome) → Paid s (tells_asker n o)
tells_paid s n o = grind (arith, nat_tests, move_answered_raises)

here_paid : (pt : Point) (m : ℕ) (i : MsgId) (msg : PlainMessage) (x : PlainProcess) (w : PlainWhat) → msg.what ≡ w → pt.kernel.bag i ≡ Some msg → kernel.alive (pt.kernel.processes msg.to) ≡ Some x → PaidIf pt.kernel (rule.here_handles pt m i msg x w)
here_paid pt m i msg x (PlainWhat.User code channel body links) w there alive = (refl, λ t e. inl (line_within pt.kernel t None refl e, tt))
here_paid pt m i msg x PlainWhat.Stop w there alive = (refl, λ t e. inl (subst (λ v. Within (served_raise msg x v) pt.kernel t) w (serves_paid pt.kernel i msg x t there alive e), tt))
here_paid pt m i msg x PlainWhat.Resume w there alive = (refl, λ t e. inl (subst (λ v. Within (served_raise msg x v) pt.kernel t) w (serves_paid pt.kernel i msg x t there alive e), tt))
here_paid pt m i msg x PlainWhat.Kill w there alive = (refl, λ t e. inl (subst (λ v. Within (served_raise msg x v) pt.kernel t) w (serves_paid pt.kernel i msg x t there alive e), ends_paid pt m msg.to t))
here_paid pt m i msg x (PlainWhat.Read base len) w there alive = (refl, λ t e. inl (subst (λ v. Within (served_raise msg x v) pt.kernel t) w (serves_paid pt.kernel i msg x t there alive e), tt))
here_paid pt m i msg x (PlainWhat.Write base bytes) w there alive = (refl, λ t e. inl (subst (λ v. Within (served_raise msg x v) pt.kernel t) w (serves_paid pt.kernel i msg x t there alive e), tt))
here_paid pt m i msg x (PlainWhat.Block bytes) w there alive = lands_paid pt.kernel i (pieces.lands msg.to x msg x.status) (λ t e. subst (λ v. Within (served_raise msg x v) pt.kernel t) w (serves_paid pt.kernel i msg x t there alive e))
here_paid pt m i msg x PlainWhat.Written w there alive = lands_paid pt.kernel i (pieces.lands msg.to x msg x.status) (λ t e. subst (λ v. Within (served_raise msg x v) pt.kernel t) w (serves_paid pt.kernel i msg x t there alive e))
here_paid pt m i msg x PlainWhat.Gone w there alive = lands_paid pt.kernel i (pieces.lands msg.to x msg x.status) (λ t e. subst (λ v. Within (served_raise msg x v) pt.kernel t) w (serves_paid pt.kernel i msg x t there alive e))
here_paid pt m i msg x (PlainWhat.Move machine) w there alive = asked_paid pt.kernel m i msg.to machine (m == machine)
here_paid pt m i msg x _ w there alive = tt

-- or an ended one's
ended_paid : (s : OneKernel) (i : MsgId) (w : PlainWhat) → PaidIf s (rule.ended_handles i w)
ended_paid s i (PlainWhat.Read base len) = (refl, λ t e. inl ((gone_raises s t i e).within, tt))
ended_paid s i (PlainWhat.Write base bytes) = (refl, λ t e. inl ((gone_raises s t i e).within, tt))
ended_paid s i (PlainWhat.Create image links) = tt
ended_paid s i (PlainWhat.Created pid) = tt
ended_paid s i PlainWhat.NoRoom = tt
ended_paid s i (PlainWhat.Move machine) = (refl, λ t e. inl ((gone_raises s t i e).within, tt))
ended_paid s i (PlainWhat.Moved outcome) = tt
ended_paid s i _ = (refl, λ t e. inl ((dropped_raises s t i e).within, tt))

told_paid : (s : OneKernel) (a : Addresses) (i : MsgId) (c : Bool) (sender : Pid) → Paid s (if c then Owns MessageKind.Update sender (a (Sender i)).at ∷ [] else [])
told_paid s a i c sender = grind (arith, nat_tests)

pub forwards_paid : (s : OneKernel) (a : Addresses) (i : MsgId) (k : MessageKind) (sender : Pid) (to : ℕ) → Paid s (forwards_on a i k sender to)
forwards_paid s a i k sender to = (refl, λ t e. inl (line_within s t None refl e, told_paid t a i (is_told_back k) sender))

own_paid : (pt : Point) (m : ℕ) (i : MsgId) (msg : PlainMessage) (d e : Bool) → pid_eq msg.to switchboard ≡ d → HasAnswer pt.kernel.manager msg.id.n msg.what → pt.kernel.bag i ≡ Some msg
    → PaidIf pt.kernel (if d then rule.board_took i (board.board_takes pt.kernel.switchboard msg msg.what)
    else if e then rule.manager_parts i (manage.manager_takes pt.kernel.manager pt.kernel.machines (length pt.kernel.images) msg msg.what)
    else bind (kernel.alive (pt.kernel.processes msg.to)) (λ x. rule.here_handles pt m i msg x msg.what))
own_paid pt m i msg true e is has there =
    let board_ = board.board_takes pt.kernel.switchboard msg msg.what in
    let manager_ = manage.manager_takes pt.kernel.manager pt.kernel.machines (length pt.kernel.images) msg msg.what in
    paid_map pt.kernel board_ _ (λ k took. took_paid pt.kernel i msg k.answer has there (ap (λ (c : Bool). if c then board_raise board_ else manager_raise manager_) is ∙ ap board_raise took))
own_paid pt m i msg false true is has there =
    let board_ = board.board_takes pt.kernel.switchboard msg msg.what in
    let manager_ = manage.manager_takes pt.kernel.manager pt.kernel.machines (length pt.kernel.images) msg msg.what in
    paid_map pt.kernel manager_ _ (λ k took. took_paid pt.kernel i msg k.message has there (ap (λ (c : Bool). if c then board_raise board_ else manager_raise manager_) is ∙ ap manager_raise took))
own_paid pt m i msg false false is has there = paid_if pt.kernel (kernel.alive (pt.kernel.processes msg.to)) _ (λ x alive. here_paid pt m i msg x msg.what refl there alive)

process_paid : (pt : Point) (m : ℕ) (i : MsgId) (msg : PlainMessage) (k : view.Known) → HasAnswer pt.kernel.manager msg.id.n msg.what → pt.kernel.bag i ≡ Some msg → PaidIf pt.kernel (rule.process_handles pt m i msg k)
process_paid pt m i msg view.Unknown has there = ended_paid pt.kernel i msg.what
process_paid pt m i msg view.Here has there = own_paid pt m i msg (pid_eq msg.to switchboard) (pid_eq msg.to manager) refl has there
process_paid pt m i msg (view.Forward at moves) has there = forwards_paid pt.kernel pt.addresses i (plain_kind msg.what) msg.sender at
process_paid pt m i msg _ has there = (refl, λ t e. inl (line_within pt.kernel t None refl e, tt))

handles_paid : (b : Boot) (pt : Point) (m : ℕ) (i : MsgId) (msg : PlainMessage) (c : Bool) → HasAnswer pt.kernel.manager msg.id.n msg.what → pt.kernel.bag i ≡ Some msg
    → PaidIf pt.kernel (if c then rule.kernel_handles b pt m i msg.what else rule.process_handles pt m i msg (pt.view.known m msg.to))
handles_paid b pt m i msg true has there = kernel_paid b pt m i msg.what
handles_paid b pt m i msg false has there = process_paid pt m i msg (pt.view.known m msg.to) has there

has_answer : (b : Boot) (pt : Point) (i : MsgId) (msg : PlainMessage) → Run b pt → pt.kernel.bag i ≡ Some msg → HasAnswer pt.kernel.manager msg.id.n msg.what
has_answer b pt i msg run there child r is found =
    let rs = pt.kernel.manager.pending in
    let name : msg.id ≡ i = run.based.phased.sane.sound.entered.named i msg there in
    let fits = subst (WhatFits pt.kernel i msg) is (run.based.fits.messages i msg there) in
    let asked : manage.pending_numbered i.n rs ≡ Some r = ap (λ (j : MsgId). manage.pending_numbered j.n rs) (sym name) ∙ found in
    let same : kind_eq PendingKind.Create r.kind ≡ true = sym (ap (is_for PendingKind.Create) asked) ∙ fits.2.pending in
    let kind : r.kind ≡ PendingKind.Create = grind (arith, nat_tests) in
    (each_pending (PendingFits pt.kernel.processes) rs msg.id.n r run.based.fits.answers found).making kind

pub front_paid : (b : Boot) (pt : Point) (m : ℕ) (i : MsgId) (msg : PlainMessage) → Run b pt → pt.kernel.bag i ≡ Some msg → PaidIf pt.kernel (rule.handles b pt m i msg)
front_paid b pt m i msg run e = handles_paid b pt m i msg (msg.to.num == 0) (has_answer b pt i msg run e) e

-- lines without a step that move nothing
abbrev pub AreMute : List Part → Type 0
AreMute [] = ⊤
AreMute (Says l ∷ ps) = (label_of l ≡ None) × (is_free l ≡ true) × AreMute ps
AreMute (Routes i ∷ ps) = AreMute ps
AreMute (Again i b ∷ ps) = AreMute ps
AreMute (Owns k q b ∷ ps) = AreMute ps
AreMute (Transmits a c l ∷ ps) = AreMute ps

pub mute_paid : (ps : List Part) (s : OneKernel) → AreMute ps → Paid s ps
mute_paid [] s h = tt
mute_paid (Says l ∷ ps) s h = (h.1, λ t e. inl (line_within s t (label_of l) h.0 e, mute_paid ps t h.2))
mute_paid (Routes i ∷ ps) s h = mute_paid ps s h
mute_paid (Again i b ∷ ps) s h = mute_paid ps s h
mute_paid (Owns k q b ∷ ps) s h = mute_paid ps s h
mute_paid (Transmits a c l ∷ ps) s h = mute_paid ps s h

pub net_paid : (ps : List Part) (s : OneKernel) → IsNet ps → Paid s ps
net_paid [] s is = tt
net_paid (Says l ∷ ps) s is = (grind (arith, nat_tests), λ t e. inl (line_within s t (label_of l) (grind (arith, nat_tests)) e, net_paid ps t is.1))
net_paid (Transmits a c l ∷ ps) s is = net_paid ps s is.1
net_paid _ s is = absurd is.0
