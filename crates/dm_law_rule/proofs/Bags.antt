-- What each step does to the bag: the message that goes, and the one that enters.
use Rattle.dm_law_rule.proofs.Names.{◌≡◌, ℕ, ◌≤◌, Bool, true, false, zero, suc, refl, ap, ◌∙◌, sym, subst, nat_lt, arith, length, ◌⊎◌, inl, inr, if◌then◌else◌, slice_get, take, drop, Option, None, Some, cases_Bool, nat_tests, Pid, pid_eq}
use Rattle.dm_law_rule.proofs.Names.{MsgId, id_eq, id_of, Called, PlainMessage, PlainWhat, Label, Why, switchboard, manager, bind, PlainProcess, Alive, OneKernel, with_process, with_sent, answer_id, answer_to, without_message, id_eq-is}
use Rattle.dm_law_rule.proofs.Names.{id_eq-same, Entered, request_id, unentered, asks, Sound, not_server, counts_process, bind-is, when-is, at_hand-is, nexts, Nexts, LandsSo, lands-is, ServerSends, in_bag, Outcome, without_note}
use Rattle.dm_law_rule.proofs.Names.{board_takes_lem, ends_move-is, manager_takes_lem, cond_some, Ended, none_some}
use Rattle.dm_onekernel.specs.Pieces as pieces
use Rattle.dm_onekernel.specs.Receiving as receiving
use Rattle.dm_onekernel.specs.Switchboard as board
use Rattle.dm_onekernel.specs.Manager as manage
use Rattle.dm_onekernel.specs.Service as service
use Rattle.dm_onekernel.specs.Step as step
use Rattle.dm_law_rule.proofs.Lines.{hidden}
pub use Rattle.dm_law_one.proofs.Facts.{if_some-is}

-- one message may go, and one may enter: it is there then, and never was before
pub record BagStep (e : MsgId → ℕ) (s t : OneKernel) (out put : Option MsgId) : Type 0 where
  pub same : (i : MsgId) → hidden put t.bag i ≡ hidden out s.bag i
  pub there : (j : MsgId) → put ≡ Some j → (x : PlainMessage) × (t.bag j ≡ Some x)
  pub fresh : (j : MsgId) → put ≡ Some j → e j ≡ 0

-- nothing enters
pub steps_out : (e : MsgId → ℕ) (s t : OneKernel) (out : Option MsgId) → ((i : MsgId) → t.bag i ≡ hidden out s.bag i) → BagStep e s t out None
steps_out e s t out same = record { same = same; there = λ j k. cc; fresh = λ j k. cc }

pub bag_none : (r e : MsgId → ℕ) (s : OneKernel) (i : MsgId) → e i ≡ 0 → Entered r e s → s.bag i ≡ None
bag_none r e s i zero_ h = (elim (s.bag i) as (λ o. s.bag i ≡ o → o ≡ None)
    [ None ↦ λ f. refl | Some m ↦ λ f. absurd (let k = h.fewer i in let g : in_bag (s.bag i) ≡ 1 = ap in_bag f in omega (arith, k, g, zero_)) ]) refl

-- a message enters, and maybe one goes
pub steps_in : (r e : MsgId → ℕ) (s u : OneKernel) (out : Option MsgId) (m : PlainMessage) → ((i : MsgId) → u.bag i ≡ hidden out s.bag i) → e m.id ≡ 0 → Entered r e s → BagStep e s (with_sent u (Some m)) out (Some m.id)
steps_in r e s u out m same zero_ h = record {
  same = λ i. elim (cases_Bool (id_eq m.id i)) [
    | inl here ↦
        let is : m.id ≡ i = id_eq-is m.id i here in
        let none : s.bag i ≡ None = sym (ap s.bag is) ∙ bag_none r e s m.id zero_ h in ap (λ (b : Bool). if b then None else (with_sent u (Some m)).bag i) here ∙ sym (let e_ : hidden out s.bag i ≡ None = search arith in e_)
    | inr apart ↦
        ap (λ (b : Bool). if b then None else (if b then Some m else u.bag i)) apart ∙ same i
  ];
  there = λ j k. let f : m.id ≡ j = cc in (m, ap (with_sent u (Some m)).bag (sym f) ∙ ap (λ (b : Bool). if b then Some m else u.bag m.id) (id_eq-same m.id));
  fresh = λ j k. let f : m.id ≡ j = cc in ap e (sym f) ∙ zero_;
}

-- what goes, and what enters
abbrev pub out_of : Label → Option MsgId
out_of (Label.Receive p id) = Some id
out_of (Label.Dropped id) = Some id
out_of (Label.Served id) = Some id
out_of (Label.Gone id) = Some id
out_of (Label.Took id) = Some id
out_of (Label.Created id p) = Some id
out_of (Label.NoSpace id a b) = Some id
out_of (Label.Asked id) = Some id
out_of _ = None

abbrev pub landed_id : Option pieces.Landed → Option MsgId
landed_id None = None
landed_id (Some (pieces.Next request x)) = Some request.id
landed_id (Some (pieces.Done reply x)) = None

abbrev pub served_id : MsgId → PlainMessage → PlainProcess → PlainWhat → Option MsgId
served_id id m x (PlainWhat.Read base len) = Some (answer_id id)
served_id id m x (PlainWhat.Write base bytes) = Some (answer_id id)
served_id id m x (PlainWhat.Block bytes) = landed_id (pieces.lands m.to x m x.status)
served_id id m x PlainWhat.Written = landed_id (pieces.lands m.to x m x.status)
served_id id m x PlainWhat.Gone = landed_id (pieces.lands m.to x m x.status)
served_id id m x _ = None

abbrev pub id_in : Option PlainMessage → Option MsgId
id_in None = None
id_in (Some m) = Some m.id

abbrev pub board_id : Option board.BoardTook → Option MsgId
board_id None = None
board_id (Some t) = id_in t.answer

abbrev pub manager_id : Option manage.ManagerTook → Option MsgId
manager_id None = None
manager_id (Some t) = id_in t.message

abbrev pub took_id : OneKernel → PlainMessage → Option MsgId
took_id s m =
    if pid_eq m.to switchboard then board_id (board.board_takes s.switchboard m m.what)
    else if pid_eq m.to manager then manager_id (manage.manager_takes s.manager s.machines (length s.images) m m.what)
    else None

-- a number that its sender doesn't count yet
own_fresh : (r e : MsgId → ℕ) (s : OneKernel) (p : Pid) (x : PlainProcess) (n : ℕ) → s.processes p ≡ Some (Alive x) → n ≡ x.sent → Sound r e s → e (id_of p n) ≡ 0
own_fresh r e s p x n is same h = search (arith, not_server, counts_process, unentered)

bag_sends_next : (r e : MsgId → ℕ) (s t : OneKernel) (p : Pid) (id : MsgId) (next : step.Trap) → Nexts s p next → step.sends s p id next ≡ Some t → Sound r e s → BagStep e s t None (Some id)
bag_sends_next r e s t p id (step.Calls number (Called.Sends m y)) w is h =
    let (z, sent, pending, counted) = w.counts in
    let k = when-is _ (with_sent (step.goes_on s p y) (Some m)) t is in
    let name : id ≡ m.id = id_eq-is id m.id k.0 in
    let zero_ : e m.id ≡ 0 = ap e counted.id ∙ own_fresh r e s p w.x z.sent w.is.alive sent h in
    subst (λ v. BagStep e s v None (Some id)) k.1 (subst (λ v. BagStep e s (with_sent (step.goes_on s p y) (Some m)) None (Some v)) (sym name) (steps_in r e s (step.goes_on s p y) None m (λ i. refl) zero_ h.entered))
bag_sends_next r e s t p id _ w is h = none_some t is

-- a process that sends
pub bag_sends : (r e : MsgId → ℕ) (s t : OneKernel) (p : Pid) (id : MsgId) → step.step s (Label.Send p id) ≡ Some t → Sound r e s → BagStep e s t None (Some id)
bag_sends r e s t p id is h = let (x, next, rest) = bind-is (step.next_trap s p) (step.sends s p id) t is in bag_sends_next r e s t p id x (nexts s p x next) rest h

-- nothing goes and nothing enters: steps of processes that send nothing
quiet_is : (e : MsgId → ℕ) (s t u : OneKernel) → u ≡ t → ((i : MsgId) → u.bag i ≡ s.bag i) → BagStep e s t None None
quiet_is e s t u is same = subst (λ v. BagStep e s v None None) is (steps_out e s u None same)

pub bag_ran : (e : MsgId → ℕ) (s t : OneKernel) (p : Pid) (k : ℕ) → step.step s (Label.Ran p k) ≡ Some t → BagStep e s t None None
bag_ran e s t p k is =
    let (x, running, rest) = bind-is (step.running s p) (λ v. bind (step.plain_steps k (step.machine_of v)) (λ m. Some (step.goes_on s p (step.with_machine v m)))) t is in
    let (m, plain, last) = bind-is (step.plain_steps k (step.machine_of x)) (λ m. Some (step.goes_on s p (step.with_machine x m))) t rest in
    quiet_is e s t (step.goes_on s p (step.with_machine x m)) (let f : step.goes_on s p (step.with_machine x m) ≡ t = cc in f) (λ i. refl)

replies_quiet : (e : MsgId → ℕ) (s t : OneKernel) (p : Pid) (n : ℕ) (c : _) (next : step.Trap) → step.replies s p n c next ≡ Some t → BagStep e s t None None
replies_quiet e s t p n c (step.Calls number (Called.Replies reply y)) is = quiet_is e s t (step.goes_on s p y) (when-is _ (step.goes_on s p y) t is).1 (λ i. refl)
replies_quiet e s t p n c _ is = none_some t is

waits_quiet : (e : MsgId → ℕ) (s t : OneKernel) (p : Pid) (next : step.Trap) → step.waits s p next ≡ Some t → BagStep e s t None None
waits_quiet e s t p (step.Calls number (Called.Waits y)) is = quiet_is e s t (step.goes_on s p y) (let f : step.goes_on s p y ≡ t = cc in f) (λ i. refl)
waits_quiet e s t p _ is = none_some t is

outputs_quiet : (e : MsgId → ℕ) (s t : OneKernel) (p : Pid) (w : ℕ) (next : step.Trap) → step.outputs s p w next ≡ Some t → BagStep e s t None None
outputs_quiet e s t p w (step.Calls number (Called.Outputs word y)) is = quiet_is e s t (step.goes_on s p y) (when-is _ (step.goes_on s p y) t is).1 (λ i. refl)
outputs_quiet e s t p w _ is = none_some t is

pub bag_call : (e : MsgId → ℕ) (s t : OneKernel) (p : Pid) (n : ℕ) (c : _) → step.step s (Label.Call p n c) ≡ Some t → BagStep e s t None None
bag_call e s t p n c is = let (x, next, rest) = bind-is (step.next_trap s p) (step.replies s p n c) t is in replies_quiet e s t p n c x rest

pub bag_wait : (e : MsgId → ℕ) (s t : OneKernel) (p : Pid) → step.step s (Label.Wait p) ≡ Some t → BagStep e s t None None
bag_wait e s t p is = let (x, next, rest) = bind-is (step.next_trap s p) (step.waits s p) t is in waits_quiet e s t p x rest

pub bag_out : (e : MsgId → ℕ) (s t : OneKernel) (p : Pid) (w : ℕ) → step.step s (Label.Out p w) ≡ Some t → BagStep e s t None None
bag_out e s t p w is = let (x, next, rest) = bind-is (step.next_trap s p) (step.outputs s p w) t is in outputs_quiet e s t p w x rest

pub bag_end : (e : MsgId → ℕ) (s t : OneKernel) (p : Pid) (y : Why) → step.step s (Label.End p y) ≡ Some t → BagStep e s t None None
bag_end e s t p y is = let (x, next, rest) = bind-is (step.next_trap s p) (step.ends s p y) t is in search (arith, quiet_is, when-is)

refuses_quiet : (e : MsgId → ℕ) (s t : OneKernel) (p : Pid) (c : _) (done : receiving.Completed) → step.refuses s p c done ≡ Some t → BagStep e s t None None
refuses_quiet e s t p c (receiving.Receives x) is = none_some t is
refuses_quiet e s t p c (receiving.Refuses reply x) is = quiet_is e s t (step.goes_on s p x) (when-is _ (step.goes_on s p x) t is).1 (λ i. refl)

pub bag_refuse : (e : MsgId → ℕ) (s t : OneKernel) (p : Pid) (id : MsgId) (c : _) → step.step s (Label.Refuse p id c) ≡ Some t → BagStep e s t None None
bag_refuse e s t p id c is = let (x, done, rest) = bind-is (step.completing s p id) (step.refuses s p c) t is in refuses_quiet e s t p c x rest

-- a message goes
out_is : (e : MsgId → ℕ) (s t u : OneKernel) (id : MsgId) → u ≡ t → ((i : MsgId) → u.bag i ≡ (without_message s id).bag i) → BagStep e s t (Some id) None
out_is e s t u id is same = subst (λ v. BagStep e s v (Some id) None) is (steps_out e s u (Some id) same)

receives_out : (e : MsgId → ℕ) (s t : OneKernel) (p : Pid) (id : MsgId) (done : receiving.Completed) → step.receives s p id done ≡ Some t → BagStep e s t (Some id) None
receives_out e s t p id (receiving.Receives x) is = out_is e s t (step.goes_on (without_message s id) p x) id (let f : step.goes_on (without_message s id) p x ≡ t = cc in f) (λ i. refl)
receives_out e s t p id (receiving.Refuses reply x) is = none_some t is

pub bag_receive : (e : MsgId → ℕ) (s t : OneKernel) (p : Pid) (id : MsgId) → step.step s (Label.Receive p id) ≡ Some t → BagStep e s t (Some id) None
bag_receive e s t p id is = let (x, done, rest) = bind-is (step.completing s p id) (step.receives s p id) t is in receives_out e s t p id x rest

pub bag_dropped : (e : MsgId → ℕ) (s t : OneKernel) (id : MsgId) → step.step s (Label.Dropped id) ≡ Some t → BagStep e s t (Some id) None
bag_dropped e s t id is =
    let (m, there, rest) = bind-is (s.bag id) (λ v. bind (step.why_ended (s.processes v.to)) (step.drops s id v)) t is in
    let (y, gone, last) = bind-is (step.why_ended (s.processes m.to)) (step.drops s id m) t rest in
    out_is e s t (without_message s id) id (when-is (service.is_dropped m.what) (without_message s id) t last).1 (λ i. refl)

-- an answer takes the place of its request
pub cases_zero : (n : ℕ) → (n ≡ 0) ⊎ (1 ≤ n)
cases_zero zero = inl refl
cases_zero (suc n) = inr (omega arith)

pub zero_if : (n : ℕ) → (1 ≤ n → ⊥) → n ≡ 0
zero_if n h = elim (cases_zero n) [ inl is ↦ is | inr least ↦ absurd (h least) ]

answers_in : (r e : MsgId → ℕ) (s t u : OneKernel) (id : MsgId) (m : PlainMessage) (w : PlainWhat) → with_sent u (Some (answer_to m w)) ≡ t → ((i : MsgId) → u.bag i ≡ (without_message s id).bag i) → s.bag id ≡ Some m → asks m.what ≡ true
    → Sound r e s → BagStep e s t (Some id) (Some (answer_id id))
answers_in r e s t u id m w is same there asking h =
    let answer_fresh : (r e : MsgId → ℕ) (s : OneKernel) (id : MsgId) (m : PlainMessage) → s.bag id ≡ Some m → asks m.what ≡ true → Entered r e s → e (answer_id id) ≡ 0 = λ r e s id m there asking h.
    zero_if (e (answer_id id)) (λ least.
    let k : None ≡ Some m = sym (sym (ap s.bag (let back : request_id (answer_id id) ≡ id = (let q : id.answer ≡ false = h.requests id m there asking in grind arith) in back)) ∙ h.answers (answer_id id) refl least) ∙ there in cc) in
    let name : (answer_to m w).id ≡ answer_id id = ap answer_id (h.entered.named id m there) in
    let zero_ : e (answer_to m w).id ≡ 0 = ap e name ∙ answer_fresh r e s id m there asking h.entered in
    search (arith, steps_in)

pub bag_gone : (r e : MsgId → ℕ) (s t : OneKernel) (id : MsgId) → step.step s (Label.Gone id) ≡ Some t → Sound r e s → BagStep e s t (Some id) (Some (answer_id id))
bag_gone r e s t id is h =
    let (m, there, rest) = bind-is (s.bag id) (λ v. bind (step.why_ended (s.processes v.to)) (step.says_gone s id v)) t is in
    let (y, gone, last) = bind-is (step.why_ended (s.processes m.to)) (step.says_gone s id m) t rest in
    let (w, answer, end) = bind-is (service.gone_what m.what) (λ v. Some (with_sent (without_message s id) (Some (answer_to m v)))) t last in
    answers_in r e s t (without_message s id) id m w (let f : with_sent (without_message s id) (Some (answer_to m w)) ≡ t = cc in f) (λ i. refl) there (let e_ : asks m.what ≡ true = search arith in e_) h

-- a process begins to follow a request: that goes; the answer to it enters where it ends
pub bag_asked : (e : MsgId → ℕ) (s t : OneKernel) (id : MsgId) → step.step s (Label.Asked id) ≡ Some t → BagStep e s t (Some id) None
bag_asked e s t id is =
    let (m, there, rest) = bind-is (s.bag id) (λ v. bind (step.at_hand s v.to) (λ p. service.follows_request s id v v.what)) t is in
    let (x, hand, last) = bind-is (step.at_hand s m.to) (λ p. service.follows_request s id m m.what) t rest in
    search (arith, out_is)

pub bag_answered : (r e : MsgId → ℕ) (s t : OneKernel) (id : MsgId) (o : Outcome) → step.step s (Label.Answered id o) ≡ Some t → Sound r e s → BagStep e s t None (Some (answer_id id))
bag_answered r e s t id o is h =
    let (p, noted, rest) = bind-is (s.noted id) (λ v. bind (s.notes v) (λ n. service.ends_move s id v n o)) t is in
    let (n, notes, last) = bind-is (s.notes p) (λ v. service.ends_move s id p v o) t rest in
    let a : PlainMessage = record { id = answer_id id; to = n.asker; sender = p; what = PlainWhat.Moved o } in
    subst (λ v. BagStep e s v None (Some (answer_id id))) (ends_move-is s t id p n o last) (steps_in r e s (without_note s p id) None a (λ i. refl) (h.notes.followed id p noted).unanswered h.entered)

no_room_in : (r e : MsgId → ℕ) (s t : OneKernel) (id : MsgId) (m : PlainMessage) (w : PlainWhat) → m.what ≡ w → s.bag id ≡ Some m → service.has_no_room s id m w ≡ Some t → Sound r e s → BagStep e s t (Some id) (Some (answer_id id))
no_room_in r e s t id m (PlainWhat.Create image links) w there is h =
    answers_in r e s t (without_message s id) id m PlainWhat.NoRoom (when-is _ (with_sent (without_message s id) (Some (answer_to m PlainWhat.NoRoom))) t is).1 (λ i. refl) there (ap asks w) h
no_room_in r e s t id m _ w there is h = none_some t is

pub bag_no_space : (r e : MsgId → ℕ) (s t : OneKernel) (id : MsgId) (a b : ℕ) → step.step s (Label.NoSpace id a b) ≡ Some t → Sound r e s → BagStep e s t (Some id) (Some (answer_id id))
bag_no_space r e s t id a b is h = let (m, there, rest) = bind-is (s.bag id) (λ v. service.has_no_room s id v v.what) t is in no_room_in r e s t id m m.what refl there rest h

creates_in : (r e : MsgId → ℕ) (s t : OneKernel) (id : MsgId) (m : PlainMessage) (child : Pid) (w : PlainWhat) → m.what ≡ w → s.bag id ≡ Some m → service.creates s id m child w ≡ Some t → Sound r e s → BagStep e s t (Some id) (Some (answer_id id))
creates_in r e s t id m child (PlainWhat.Create image links) w there is h =
    let (i, found, rest) = bind-is (slice_get s.images image) (service.creates_of s id m child links) t is in
    let u = service.with_created (without_message s id) child i links in
    answers_in r e s t u id m (PlainWhat.Created child) (when-is _ (with_sent u (Some (answer_to m (PlainWhat.Created child)))) t rest).1 (λ j. refl) there (ap asks w) h
creates_in r e s t id m child _ w there is h = none_some t is

pub bag_created : (r e : MsgId → ℕ) (s t : OneKernel) (id : MsgId) (child : Pid) → step.step s (Label.Created id child) ≡ Some t → Sound r e s → BagStep e s t (Some id) (Some (answer_id id))
bag_created r e s t id child is h = let (m, there, rest) = bind-is (s.bag id) (λ v. service.creates s id v child v.what) t is in creates_in r e s t id m child m.what refl there rest h

-- an answer has landed: the next request enters, or nothing
landed_in : (r e : MsgId → ℕ) (s t : OneKernel) (id : MsgId) (m : PlainMessage) (x : PlainProcess) (c : pieces.Landed) → service.landed s id m c ≡ t → s.processes m.to ≡ Some (Alive x) → LandsSo m.to x c → Sound r e s → BagStep e s t (Some id) (landed_id (Some c))
landed_in r e s t id m x (pieces.Next request y) is alive lands h =
    subst (λ v. BagStep e s v (Some id) (Some request.id)) is (steps_in r e s (service.changed s id m y) (Some id) request (λ i. refl) (ap e lands.0.id ∙ own_fresh r e s m.to x x.sent alive refl h) h.entered)
landed_in r e s t id m x (pieces.Done reply y) is alive lands h = out_is e s t (service.changed s id m y) id is (λ i. refl)

lands_in : (r e : MsgId → ℕ) (s t : OneKernel) (id : MsgId) (m : PlainMessage) (x : PlainProcess) (o : Option pieces.Landed) → pieces.lands m.to x m x.status ≡ o → bind o (λ c. Some (service.landed s id m c)) ≡ Some t → s.processes m.to ≡ Some (Alive x) → Sound r e s
    → BagStep e s t (Some id) (landed_id o)
lands_in r e s t id m x None is last alive h = none_some t last
lands_in r e s t id m x (Some c) is last alive h = landed_in r e s t id m x c (let f : service.landed s id m c ≡ t = cc in f) alive (lands-is m.to x m x.status c is) h

served_in : (r e : MsgId → ℕ) (s t : OneKernel) (id : MsgId) (m : PlainMessage) (x : PlainProcess) (w : PlainWhat) → m.what ≡ w → s.bag id ≡ Some m → s.processes m.to ≡ Some (Alive x) → service.serves s id m x w ≡ Some t → Sound r e s
    → BagStep e s t (Some id) (served_id id m x w)
served_in r e s t id m x PlainWhat.Stop w there alive is h = out_is e s t (service.changed s id m (record x { stopped = true })) id (let f : service.changed s id m (record x { stopped = true }) ≡ t = cc in f) (λ i. refl)
served_in r e s t id m x PlainWhat.Resume w there alive is h = out_is e s t (service.changed s id m (record x { stopped = false })) id (let f : service.changed s id m (record x { stopped = false }) ≡ t = cc in f) (λ i. refl)
served_in r e s t id m x PlainWhat.Kill w there alive is h = out_is e s t (with_process (without_message s id) m.to (Ended Why.Killed)) id (let f : with_process (without_message s id) m.to (Ended Why.Killed) ≡ t = cc in f) (λ i. refl)
served_in r e s t id m x (PlainWhat.Read base len) w there alive is h =
    let (c, served, last) = bind-is (pieces.reads x m base len) (λ v. Some (service.answered s id m v)) t is in
    let k = cond_some _ (record { process = x; answer = answer_to m (PlainWhat.Block (take len (drop base x.memory))) }) c served in
    answers_in r e s t (service.changed s id m x) id m (PlainWhat.Block (take len (drop base x.memory))) (ap (service.answered s id m) k.1 ∙ (let f : service.answered s id m c ≡ t = cc in f)) (λ i. refl) there (ap asks w) h
served_in r e s t id m x (PlainWhat.Write base bytes) w there alive is h =
    let (c, served, last) = bind-is (pieces.writes x m base bytes) (λ v. Some (service.answered s id m v)) t is in
    let y = record x { memory = pieces.written_at x.memory base bytes } in
    let k = cond_some _ (record { process = y; answer = answer_to m PlainWhat.Written }) c served in
    answers_in r e s t (service.changed s id m y) id m PlainWhat.Written (ap (service.answered s id m) k.1 ∙ (let f : service.answered s id m c ≡ t = cc in f)) (λ i. refl) there (ap asks w) h
served_in r e s t id m x (PlainWhat.Block bytes) w there alive is h = lands_in r e s t id m x (pieces.lands m.to x m x.status) refl is alive h
served_in r e s t id m x PlainWhat.Written w there alive is h = lands_in r e s t id m x (pieces.lands m.to x m x.status) refl is alive h
served_in r e s t id m x PlainWhat.Gone w there alive is h = lands_in r e s t id m x (pieces.lands m.to x m x.status) refl is alive h
served_in r e s t id m x _ w there alive is h = none_some t is

-- what a served message is, and what enters for it
pub record ServedStep (e : MsgId → ℕ) (s t : OneKernel) (id : MsgId) : Type 0 where
  pub m : PlainMessage
  pub there : s.bag id ≡ Some m
  pub x : PlainProcess
  pub alive : s.processes m.to ≡ Some (Alive x)
  pub is : BagStep e s t (Some id) (served_id id m x m.what)

pub bag_served : (r e : MsgId → ℕ) (s t : OneKernel) (id : MsgId) → step.step s (Label.Served id) ≡ Some t → Sound r e s → ServedStep e s t id
bag_served r e s t id is h =
    let (m, there, rest) = bind-is (s.bag id) (λ v. bind (step.at_hand s v.to) (λ p. service.serves s id v p v.what)) t is in
    let (x, hand, last) = bind-is (step.at_hand s m.to) (λ p. service.serves s id m p m.what) t rest in
    search (arith, at_hand-is, served_in)

-- a server's message is fresh, if it sends one
board_in : (r e : MsgId → ℕ) (s t : OneKernel) (id : MsgId) (k : board.BoardTook) (o : Option PlainMessage) → k.answer ≡ o → ServerSends switchboard s.switchboard.sent o k.switchboard.sent → with_sent (record (without_message s id) { switchboard = k.switchboard }) o ≡ t → Sound r e s
    → BagStep e s t (Some id) (id_in o)
board_in r e s t id k None same sends is h = out_is e s t (record (without_message s id) { switchboard = k.switchboard }) id is (λ i. refl)
board_in r e s t id k (Some m) same sends is h =
    let zero_ : e m.id ≡ 0 = ap e sends.0 ∙ unentered r e s (id_of switchboard s.switchboard.sent) h.entered (let z : nat_lt s.switchboard.sent s.switchboard.sent ≡ false = grind (arith, nat_tests) in z) in
    subst (λ v. BagStep e s v (Some id) (Some m.id)) is (steps_in r e s (record (without_message s id) { switchboard = k.switchboard }) (Some id) m (λ i. refl) zero_ h.entered)

manager_in : (r e : MsgId → ℕ) (s t : OneKernel) (id : MsgId) (k : manage.ManagerTook) (o : Option PlainMessage) → k.message ≡ o → ServerSends manager s.manager.sent o k.manager.sent → with_sent (record (without_message s id) { manager = k.manager }) o ≡ t → Sound r e s
    → BagStep e s t (Some id) (id_in o)
manager_in r e s t id k None same sends is h = out_is e s t (record (without_message s id) { manager = k.manager }) id is (λ i. refl)
manager_in r e s t id k (Some m) same sends is h =
    let zero_ : e m.id ≡ 0 = ap e sends.0 ∙ unentered r e s (id_of manager s.manager.sent) h.entered (let z : nat_lt s.manager.sent s.manager.sent ≡ false = grind (arith, nat_tests) in z) in
    subst (λ v. BagStep e s v (Some id) (Some m.id)) is (steps_in r e s (record (without_message s id) { manager = k.manager }) (Some id) m (λ i. refl) zero_ h.entered)

board_took : (r e : MsgId → ℕ) (s t : OneKernel) (id : MsgId) (m : PlainMessage) (o : Option board.BoardTook) → board.board_takes s.switchboard m m.what ≡ o → bind o (λ k. Some (service.switchboard_took s id k)) ≡ Some t → Sound r e s → BagStep e s t (Some id) (board_id o)
board_took r e s t id m None is last h = none_some t last
board_took r e s t id m (Some k) is last h = board_in r e s t id k k.answer refl (board_takes_lem s.switchboard m m.what k is).2 (let f : service.switchboard_took s id k ≡ t = cc in f) h

manager_took : (r e : MsgId → ℕ) (s t : OneKernel) (id : MsgId) (m : PlainMessage) (o : Option manage.ManagerTook) → manage.manager_takes s.manager s.machines (length s.images) m m.what ≡ o → bind o (λ k. Some (service.manager_took s id k)) ≡ Some t → Sound r e s → BagStep e s t (Some id) (manager_id o)
manager_took r e s t id m None is last h = none_some t last
manager_took r e s t id m (Some k) is last h = manager_in r e s t id k k.message refl (manager_takes_lem s.manager s.machines (length s.images) m m.what k is).2.sends (let f : service.manager_took s id k ≡ t = cc in f) h

pub record TookStep (e : MsgId → ℕ) (s t : OneKernel) (id : MsgId) : Type 0 where
  pub m : PlainMessage
  pub there : s.bag id ≡ Some m
  pub is : BagStep e s t (Some id) (took_id s m)

pub bag_took : (r e : MsgId → ℕ) (s t : OneKernel) (id : MsgId) → step.step s (Label.Took id) ≡ Some t → Sound r e s → TookStep e s t id
bag_took r e s t id is h =
    let took_by : (r e : MsgId → ℕ) (s t : OneKernel) (id : MsgId) (m : PlainMessage) (b c : Bool)
    → (if b then bind (board.board_takes s.switchboard m m.what) (λ k. Some (service.switchboard_took s id k))
    else if c then bind (manage.manager_takes s.manager s.machines (length s.images) m m.what) (λ k. Some (service.manager_took s id k))
    else None) ≡ Some t → Sound r e s
    → BagStep e s t (Some id) (if b then board_id (board.board_takes s.switchboard m m.what) else if c then manager_id (manage.manager_takes s.manager s.machines (length s.images) m m.what) else None) =
    λ r e s t id m b c h1 h2. search (arith, board_took, manager_took) in
    let (m, there, rest) = bind-is (s.bag id) (service.takes s id) t is in
    record { m = m; there = there; is = took_by r e s t id m (pid_eq m.to switchboard) (pid_eq m.to manager) rest h }
