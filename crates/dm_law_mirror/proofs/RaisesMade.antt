-- How much a step raises counts: what kernels and servers say.
use Rattle.dm_law_mirror.proofs.Names.{◌≡◌, ◌≢◌, ◌⊎◌, inl, inr, ℕ, ◌+◌, ◌<◌, ◌≤◌, Bool, true, false, List, [], ◌∷◌, ◌++◌, refl, ap, ◌∙◌, sym, subst, is_some, arith, length, if◌then◌else◌, slice_get, Option, None, Some, nat_tests, Pid, pid_eq, none_some}
use Rattle.dm_law_mirror.proofs.Names.{pid_of, PlainLink, MsgId, PlainMessage, PlainWhat, BootImage, Label, first_number, switchboard, manager, bind, Life, Alive, Manager, OneKernel, answer_to, without_message, pid_eq-is, pid_eq-same, bind-is}
use Rattle.dm_law_mirror.proofs.Names.{when-is, manager_takes_lem, take, drop, Why, PlainProcess, NamedLink, Switchboard, with_process, is_dropped, LandsSo, lands-is, board_takes_lem, if_some-is, ends_move-is, at_hand-is, Outcome, ◌==◌, Ended}
use Rattle.dm_law_always.proofs.Names.{Pending, with_sent}
use Rattle.dm_law_one.proofs.Names.{begun}
pub use Rattle.std.proofs.lemmas.List.{length_push as append-longer}
use Rattle.dm_onekernel.specs.Kernel.{with_note}
use Rattle.dm_onekernel.specs.Switchboard as board
use Rattle.dm_onekernel.specs.Manager as manage
use Rattle.dm_onekernel.specs.Service as service
use Rattle.dm_onekernel.specs.Step as step
use Rattle.dm_onekernel.specs.Pieces as pieces
use Rattle.dm_law_mirror.proofs.Raises.{Within, Stays, Raises, sent_of, ran_raises, call_raises, send_raises, wait_raises, out_raises, end_raises, receive_raises, refuse_raises, bag_raises, set_raises}

-- messages that have nobody to take them
pub dropped_raises : (s t : OneKernel) (id : MsgId) → step.step s (Label.Dropped id) ≡ Some t → Raises 0 s t
dropped_raises s t id is =
    let (m, there, rest) = bind-is (s.bag id) (λ v. bind (step.why_ended (s.processes v.to)) (step.drops s id v)) t is in
    let (y, gone, last) = bind-is (step.why_ended (s.processes m.to)) (step.drops s id m) t rest in
    let k = when-is (is_dropped m.what) (without_message s id) t last in
    subst (Raises 0 s) k.1 (bag_raises s (without_message s id) (λ p. refl) (λ h. refl) refl refl refl)

pub gone_raises : (s t : OneKernel) (id : MsgId) → step.step s (Label.Gone id) ≡ Some t → Raises 0 s t
gone_raises s t id is =
    let (m, there, rest) = bind-is (s.bag id) (λ v. bind (step.why_ended (s.processes v.to)) (step.says_gone s id v)) t is in
    let (y, gone, says) = bind-is (step.why_ended (s.processes m.to)) (step.says_gone s id m) t rest in
    let (w, what, last) = bind-is (service.gone_what m.what) (λ v. Some (with_sent (without_message s id) (Some (answer_to m v)))) t says in
    let u = with_sent (without_message s id) (Some (answer_to m w)) in
    subst (Raises 0 s) (cc) (bag_raises s u (λ p. refl) (λ h. refl) refl refl refl)

-- requests to move
follows_raises : (s t : OneKernel) (id : MsgId) (m : PlainMessage) (w : PlainWhat) → service.follows_request s id m w ≡ Some t → Raises 0 s t
follows_raises s t id m (PlainWhat.Move machine) is =
    let u = with_note (without_message s id) m.to (record { id = id; asker = m.sender }) in
    subst (Raises 0 s) (cc) (bag_raises s u (λ p. refl) (λ h. refl) refl refl refl)
follows_raises s t id m _ is = none_some t is

pub asked_raises : (s t : OneKernel) (id : MsgId) → step.step s (Label.Asked id) ≡ Some t → Raises 0 s t
asked_raises s t id is =
    let (m, there, rest) = bind-is (s.bag id) (λ v. bind (step.at_hand s v.to) (λ p. service.follows_request s id v v.what)) t is in
    let (x, hand, last) = bind-is (step.at_hand s m.to) (λ p. service.follows_request s id m m.what) t rest in
    follows_raises s t id m m.what last

pub move_answered_raises : (s t : OneKernel) (id : MsgId) (o : Outcome) → step.step s (Label.Answered id o) ≡ Some t → Raises 0 s t
move_answered_raises s t id o is =
    let (p, noted, rest) = bind-is (s.noted id) (λ q. bind (s.notes q) (λ n. service.ends_move s id q n o)) t is in
    let (n, notes, last) = bind-is (s.notes p) (λ k. service.ends_move s id p k o) t rest in
    subst (Raises 0 s) (ends_move-is s t id p n o last) (bag_raises s (service.move_ended s id p n o) (λ q. refl) (λ h. refl) refl refl refl)

no_room_raises : (s t : OneKernel) (id : MsgId) (m : PlainMessage) (w : PlainWhat) → service.has_no_room s id m w ≡ Some t → Raises 0 s t
no_room_raises s t id m (PlainWhat.Create image links) is =
    let k = when-is _ (with_sent (without_message s id) (Some (answer_to m PlainWhat.NoRoom))) t is in
    subst (Raises 0 s) k.1 (bag_raises s (with_sent (without_message s id) (Some (answer_to m PlainWhat.NoRoom))) (λ p. refl) (λ h. refl) refl refl refl)
no_room_raises s t id m _ is = none_some t is

pub no_space_raises : (s t : OneKernel) (id : MsgId) (a b : ℕ) → step.step s (Label.NoSpace id a b) ≡ Some t → Raises 0 s t
no_space_raises s t id a b is =
    let (m, there, rest) = bind-is (s.bag id) (λ v. service.has_no_room s id v v.what) t is in
    no_room_raises s t id m m.what rest

-- served: only a mover's next request raises its count
abbrev pub landed_raise : Option pieces.Landed → ℕ
landed_raise (Some (pieces.Next request x)) = 1
landed_raise _ = 0

abbrev pub served_raise : PlainMessage → PlainProcess → PlainWhat → ℕ
served_raise m x (PlainWhat.Block bytes) = landed_raise (pieces.lands m.to x m x.status)
served_raise m x PlainWhat.Written = landed_raise (pieces.lands m.to x m x.status)
served_raise m x PlainWhat.Gone = landed_raise (pieces.lands m.to x m x.status)
served_raise m x w = 0

changed_raises : (s t : OneKernel) (id : MsgId) (m : PlainMessage) (x y : PlainProcess) → service.changed s id m y ≡ t → s.processes m.to ≡ Some (Alive x) → y.sent ≡ x.sent → Raises 0 s t
changed_raises s t id m x y e is sent = subst (Raises 0 s) e (set_raises s (service.changed s id m y) m.to x (Alive y) 0 is (omega (arith, sent)) (λ q. refl) (λ h. refl) refl refl refl)

answered_raises : (s t : OneKernel) (id : MsgId) (m : PlainMessage) (x : PlainProcess) (r : pieces.Served) → service.answered s id m r ≡ t → s.processes m.to ≡ Some (Alive x) → r.process.sent ≡ x.sent → Raises 0 s t
answered_raises s t id m x r e is sent = subst (Raises 0 s) e (set_raises s (service.answered s id m r) m.to x (Alive r.process) 0 is (omega (arith, sent)) (λ q. refl) (λ h. refl) refl refl refl)

landed_raises : (s t : OneKernel) (id : MsgId) (m : PlainMessage) (x : PlainProcess) (c : pieces.Landed) → service.landed s id m c ≡ t → s.processes m.to ≡ Some (Alive x) → LandsSo m.to x c → Raises (landed_raise (Some c)) s t
landed_raises s t id m x (pieces.Next request y) e is so =
    let count = so.0.count in
    subst (Raises 1 s) e (set_raises s (service.landed s id m (pieces.Next request y)) m.to x (Alive y) 1 is (omega (arith, count)) (λ q. refl) (λ h. refl) refl refl refl)
landed_raises s t id m x (pieces.Done reply y) e is so = changed_raises s t id m x y e is so.0

lands_raises : (s t : OneKernel) (id : MsgId) (m : PlainMessage) (x : PlainProcess) → s.processes m.to ≡ Some (Alive x) → bind (pieces.lands m.to x m x.status) (λ c. Some (service.landed s id m c)) ≡ Some t → Raises (landed_raise (pieces.lands m.to x m x.status)) s t
lands_raises s t id m x is e =
    let (c, lands, last) = bind-is (pieces.lands m.to x m x.status) (λ v. Some (service.landed s id m v)) t e in
    subst (λ (o : Option pieces.Landed). Raises (landed_raise o) s t) (sym lands) (landed_raises s t id m x c (cc) is (lands-is m.to x m x.status c lands))

pub serves_raises : (s t : OneKernel) (id : MsgId) (m : PlainMessage) (x : PlainProcess) (w : PlainWhat) → s.processes m.to ≡ Some (Alive x) → service.serves s id m x w ≡ Some t → Raises (served_raise m x w) s t
serves_raises s t id m x PlainWhat.Stop is e = changed_raises s t id m x (record x { stopped = true }) (let k : service.changed s id m (record x { stopped = true }) ≡ t = cc in k) is refl
serves_raises s t id m x PlainWhat.Resume is e = changed_raises s t id m x (record x { stopped = false }) (let k : service.changed s id m (record x { stopped = false }) ≡ t = cc in k) is refl
serves_raises s t id m x PlainWhat.Kill is e =
    let v = with_process (without_message s id) m.to (Ended Why.Killed) in
    subst (Raises 0 s) (cc) (set_raises s v m.to x (Ended Why.Killed) 0 is (omega arith) (λ q. refl) (λ h. refl) refl refl refl)
serves_raises s t id m x (PlainWhat.Read base len) is e =
    let (c, served, last) = bind-is (pieces.reads x m base len) (λ v. Some (service.answered s id m v)) t e in
    let k = if_some-is _ (record { process = x; answer = answer_to m (PlainWhat.Block (take len (drop base x.memory))) }) c served in
    answered_raises s t id m x c (cc) is (sym (ap (λ (v : pieces.Served). v.process.sent) k))
serves_raises s t id m x (PlainWhat.Write base bytes) is e =
    let (c, served, last) = bind-is (pieces.writes x m base bytes) (λ v. Some (service.answered s id m v)) t e in
    let k = if_some-is _ (record { process = record x { memory = pieces.written_at x.memory base bytes }; answer = answer_to m PlainWhat.Written }) c served in
    answered_raises s t id m x c (cc) is (sym (ap (λ (v : pieces.Served). v.process.sent) k))
serves_raises s t id m x (PlainWhat.Block bytes) is e = lands_raises s t id m x is e
serves_raises s t id m x PlainWhat.Written is e = lands_raises s t id m x is e
serves_raises s t id m x PlainWhat.Gone is e = lands_raises s t id m x is e
serves_raises s t id m x _ is e = none_some t e

-- the message and the process of a label
pub record ServedSo (s t : OneKernel) (id : MsgId) : Type 0 where
  pub m : PlainMessage
  pub there : s.bag id ≡ Some m
  pub x : PlainProcess
  pub alive : s.processes m.to ≡ Some (Alive x)
  pub raises : Raises (served_raise m x m.what) s t

pub served_raises : (s t : OneKernel) (id : MsgId) → step.step s (Label.Served id) ≡ Some t → ServedSo s t id
served_raises s t id is =
    let (m, there, rest) = bind-is (s.bag id) (λ v. bind (step.at_hand s v.to) (λ p. service.serves s id v p v.what)) t is in
    let (x, hand, last) = bind-is (step.at_hand s m.to) (λ p. service.serves s id m p m.what) t rest in
    let is_ = (at_hand-is s m.to x hand).1 in
    record { m = m; there = there; x = x; alive = is_; raises = serves_raises s t id m x m.what is_ last }

-- took: a server that sends raises its count
abbrev pub sent_raise : Option PlainMessage → ℕ
sent_raise None = 0
sent_raise (Some m) = 1

-- a server takes a message, and what it sends enters
servers_raise : (s : OneKernel) (id : MsgId) (b : Switchboard) (g : Manager) (o : Option PlainMessage) (k : ℕ) → b.sent ≤ s.switchboard.sent + k → length b.names ≤ length s.switchboard.names + k → g.sent ≤ s.manager.sent + k
    → length g.children ≤ length s.manager.children + k → Raises k s (with_sent (record (without_message s id) { switchboard = b; manager = g }) o)
servers_raise s id b g None k sent names manages children = record {
  within = record { sent = λ p. omega arith; board = sent; manager = manages; children = children; made = λ h. omega arith; names = names };
  stays = record { machines = refl; made = λ h. refl; lives = λ p. refl };
}
servers_raise s id b g (Some m) k sent names manages children = record {
  within = record { sent = λ p. omega arith; board = sent; manager = manages; children = children; made = λ h. omega arith; names = names };
  stays = record { machines = refl; made = λ h. refl; lives = λ p. refl };
}

pub board_raises : (s : OneKernel) (id : MsgId) (m : PlainMessage) (k : board.BoardTook) → board.board_takes s.switchboard m m.what ≡ Some k → Raises (sent_raise k.answer) s (service.switchboard_took s id k)
board_raises s id m k took =
    let names_registered : (names : List NamedLink) (name : List ℕ) (others : List PlainLink) → length (board.asks_to_register names name others).names ≤ length names + 1 = λ names name others. grind (arith, nat_tests, append-longer) in
    let names_asked : (names : List NamedLink) (body : List ℕ) (others : List PlainLink) → length (board.asks names body others).names ≤ length names + 1 = λ names body others. grind (arith, nat_tests, names_registered) in
    let (memory, piece, sends) = board_takes_lem s.switchboard m m.what k took in
    let count : k.switchboard.sent ≡ s.switchboard.sent + sent_raise k.answer = grind (arith, nat_tests) in
    servers_raise s id k.switchboard s.manager k.answer (sent_raise k.answer) (omega (arith, count)) (grind (arith, nat_tests, names_asked)) (omega arith) (omega arith)

-- How much a step raises counts: what the manager says, and a process that is made.

-- a request to make a process has a link for the answer, where this is its answer
abbrev pub HasAnswer : Manager → ℕ → PlainWhat → Type 0
HasAnswer g n w = (child : Pid) (r : Pending) → w ≡ PlainWhat.Created child → manage.pending_numbered n g.pending ≡ Some r → is_some r.answer ≡ true

-- a child comes only with an answer
abbrev Paid : Manager → manage.ManagerTook → Type 0
Paid g k = length k.manager.children + g.sent ≤ length g.children + k.manager.sent

paid_made : (g h : Manager) (o : Option PlainLink) (code : ℕ) (links : List PlainLink) → is_some o ≡ true → h.sent ≡ g.sent → length h.children ≤ length g.children + 1 → Paid g (manage.answers_over h o code links)
paid_made g h None code links has e le = cc
paid_made g h (Some l) code links has e le = omega (arith, e, le)

paid_created : (g : Manager) (n : ℕ) (child : Pid) (o : Option Pending) (k : manage.ManagerTook) → ((r : Pending) → o ≡ Some r → is_some r.answer ≡ true) → (manage.takes_answer g n (g.children ++ child ∷ []) 0 (manage.control_link (length g.children + 1) ∷ [])) o ≡ Some k → Paid g k
paid_created g n child None k has e = none_some k e
paid_created g n child (Some r) k has e = grind (arith, nat_tests, paid_made, append-longer, g.children, g.pending, r.answer)

paid_takes : (g : Manager) (machines images : ℕ) (m : PlainMessage) (w : PlainWhat) (k : manage.ManagerTook) → HasAnswer g m.id.n w → manage.manager_takes g machines images m w ≡ Some k → Paid g k
paid_takes g machines images m (PlainWhat.Created child) k has e = paid_created g m.id.n child (manage.pending_numbered m.id.n g.pending) k (λ r there. has child r refl there) e
paid_takes g machines images m w k has e = grind (arith, nat_tests)

manager_raises : (s : OneKernel) (id : MsgId) (m : PlainMessage) (k : manage.ManagerTook) → HasAnswer s.manager m.id.n m.what
    → manage.manager_takes s.manager s.machines (length s.images) m m.what ≡ Some k → Raises (sent_raise k.message) s (service.manager_took s id k)
manager_raises s id m k has took =
    let (memory, piece, sends) = manager_takes_lem s.manager s.machines (length s.images) m m.what k took in
    let count : k.manager.sent ≡ s.manager.sent + sent_raise k.message = grind (arith, nat_tests, sends.sends) in
    let paid = paid_takes s.manager s.machines (length s.images) m m.what k has took in
    servers_raise s id s.switchboard k.manager k.message (sent_raise k.message) (omega arith) (omega arith) (omega (arith, count)) (omega (arith, count, paid))

-- what the servers' messages raise
abbrev pub board_raise : Option board.BoardTook → ℕ
board_raise None = 0
board_raise (Some k) = sent_raise k.answer

abbrev pub manager_raise : Option manage.ManagerTook → ℕ
manager_raise None = 0
manager_raise (Some k) = sent_raise k.message

abbrev pub took_raise : OneKernel → PlainMessage → ℕ
took_raise s m =
    if pid_eq m.to switchboard then board_raise (board.board_takes s.switchboard m m.what)
    else manager_raise (manage.manager_takes s.manager s.machines (length s.images) m m.what)

took_raises_of : (s t : OneKernel) (id : MsgId) (m : PlainMessage) (c d : Bool) → HasAnswer s.manager m.id.n m.what
    → (if c then bind (board.board_takes s.switchboard m m.what) (λ k. Some (service.switchboard_took s id k))
    else if d then bind (manage.manager_takes s.manager s.machines (length s.images) m m.what) (λ k. Some (service.manager_took s id k))
    else None) ≡ Some t
    → Raises (if c then board_raise (board.board_takes s.switchboard m m.what) else manager_raise (manage.manager_takes s.manager s.machines (length s.images) m m.what)) s t
took_raises_of s t id m true d has is =
    let (k, took, last) = bind-is (board.board_takes s.switchboard m m.what) (λ v. Some (service.switchboard_took s id v)) t is in
    subst (λ (o : Option board.BoardTook). Raises (board_raise o) s t) (sym took) (subst (Raises (sent_raise k.answer) s) (cc) (board_raises s id m k took))
took_raises_of s t id m false true has is =
    let (k, took, last) = bind-is (manage.manager_takes s.manager s.machines (length s.images) m m.what) (λ v. Some (service.manager_took s id v)) t is in
    let f : service.manager_took s id k ≡ t = cc in
    subst (λ (o : Option manage.ManagerTook). Raises (manager_raise o) s t) (sym took) (subst (Raises (sent_raise k.message) s) f (manager_raises s id m k has took))
took_raises_of s t id m false false has is = none_some t is

-- nobody is made
stays_sent : (s u : OneKernel) (o : Option PlainMessage) → Stays s u → Stays s (with_sent u o)
stays_sent s u None h = h
stays_sent s u (Some m) h = record { machines = h.machines; made = h.made; lives = h.lives }

took_stays : (s t : OneKernel) (id : MsgId) (m : PlainMessage) (c d : Bool)
    → (if c then bind (board.board_takes s.switchboard m m.what) (λ k. Some (service.switchboard_took s id k))
    else if d then bind (manage.manager_takes s.manager s.machines (length s.images) m m.what) (λ k. Some (service.manager_took s id k))
    else None) ≡ Some t
    → Stays s t
took_stays s t id m true d is = grind (arith, nat_tests, stays_sent, s.switchboard)
took_stays s t id m false true is =
    let (k, took, last) = bind-is (manage.manager_takes s.manager s.machines (length s.images) m m.what) (λ v. Some (service.manager_took s id v)) t is in
    let f : service.manager_took s id k ≡ t = cc in
    subst (Stays s) f (stays_sent s (record (without_message s id) { manager = k.manager }) k.message (record { machines = refl; made = λ h. refl; lives = λ p. refl }))
took_stays s t id m false false is = none_some t is

pub record TookSo (s t : OneKernel) (id : MsgId) : Type 0 where
  pub m : PlainMessage
  pub there : s.bag id ≡ Some m
  pub raises : HasAnswer s.manager m.id.n m.what → Raises (took_raise s m) s t
  pub stays : Stays s t

pub took_raises : (s t : OneKernel) (id : MsgId) → step.step s (Label.Took id) ≡ Some t → TookSo s t id
took_raises s t id is =
    let (m, there, rest) = bind-is (s.bag id) (service.takes s id) t is in
    record { m = m; there = there; raises = λ has. took_raises_of s t id m (pid_eq m.to switchboard) (pid_eq m.to manager) has rest; stays = took_stays s t id m (pid_eq m.to switchboard) (pid_eq m.to manager) rest }

-- a process is made: the next of its home
pub record Makes (s t : OneKernel) : Type 0 where
  pub machines : t.machines ≡ s.machines
  pub home : ℕ
  pub within : home < s.machines
  pub made : t.made home ≡ s.made home + 1
  pub others : (h : ℕ) → h ≢ home → t.made h ≡ s.made h
  pub there : is_some (t.processes (pid_of home (first_number + s.made home))) ≡ true
  pub lives : (p : Pid) → pid_eq (pid_of home (first_number + s.made home)) p ≡ false → is_some (t.processes p) ≡ is_some (s.processes p)
  pub counts : Within 1 s t

makes : (s : OneKernel) (id : MsgId) (m : PlainMessage) (home : ℕ) (links : List PlainLink) (image : BootImage) → home < s.machines
    → Makes s (with_sent (service.with_created (without_message s id) (pid_of home (first_number + s.made home)) image links) (Some (answer_to m (PlainWhat.Created (pid_of home (first_number + s.made home))))))
makes s id m home links image within =
    let child_sent : (s : OneKernel) (c : Bool) (p : Pid) (life : Life) → sent_of (Some life) ≡ 0 → sent_of (if c then Some life else s.processes p) ≤ sent_of (s.processes p) + 1 = λ s c p life e. grind (arith, nat_tests) in
    let made_more : (n : ℕ) (c : Bool) → n + (if c then 1 else 0) ≤ n + 1 = λ n c. grind (arith, nat_tests) in
    let child = pid_of home (first_number + s.made home) in
    let life = Alive (begun s.format image links) in
    record {
      machines = refl;
      home = home;
      within = within;
      made = (let e : (s.made home + (if home == home then 1 else 0)) ≡ s.made home + 1 = grind (arith, nat_tests) in e);
      others = λ h apart. grind (arith, nat_tests);
      there = ap (λ (c : Bool). is_some (if c then Some life else s.processes child)) (pid_eq-same child);
      lives = λ p apart. ap (λ (c : Bool). is_some (if c then Some life else s.processes p)) apart;
      counts = search (child_sent, pid_eq, arith, made_more, s.made, home);
    }

created_of : (s t : OneKernel) (id : MsgId) (m : PlainMessage) (child : Pid) (links : List PlainLink) (image : BootImage) → service.creates_of s id m child links image ≡ Some t → Makes s t
created_of s t id m child links image is =
    let k = when-is _ (with_sent (service.with_created (without_message s id) child image links) (Some (answer_to m (PlainWhat.Created child)))) t is in
    let both = k.0 in
    let name : pid_eq child (pid_of m.to.home (first_number + s.made m.to.home)) ≡ true = grind (arith, nat_tests) in
    let within : m.to.home < s.machines = grind (arith, nat_tests) in
    let child_is : child ≡ pid_of m.to.home (first_number + s.made m.to.home) = pid_eq-is child (pid_of m.to.home (first_number + s.made m.to.home)) name in
    subst (Makes s) (ap (λ (c : Pid). with_sent (service.with_created (without_message s id) c image links) (Some (answer_to m (PlainWhat.Created c)))) (sym child_is) ∙ k.1) (makes s id m m.to.home links image within)

creates_raises : (s t : OneKernel) (id : MsgId) (m : PlainMessage) (child : Pid) (w : PlainWhat) → service.creates s id m child w ≡ Some t → Makes s t
creates_raises s t id m child (PlainWhat.Create image links) is =
    let (i, found, rest) = bind-is (slice_get s.images image) (service.creates_of s id m child links) t is in
    created_of s t id m child links i rest
creates_raises s t id m child _ is = none_some t is

pub created_makes : (s t : OneKernel) (id : MsgId) (child : Pid) → step.step s (Label.Created id child) ≡ Some t → Makes s t
created_makes s t id child is =
    let (m, there, rest) = bind-is (s.bag id) (λ v. service.creates s id v child v.what) t is in
    creates_raises s t id m child m.what rest

-- each label makes a process, or none
pub step_makes : (s t : OneKernel) (l : Label) → step.step s l ≡ Some t → Stays s t ⊎ Makes s t
step_makes s t (Label.Ran p k) is = inl (ran_raises s t p k is).stays
step_makes s t (Label.Call p n c) is = inl (call_raises s t p n c is).stays
step_makes s t (Label.Send p id) is = inl (send_raises s t p id is).stays
step_makes s t (Label.Wait p) is = inl (wait_raises s t p is).stays
step_makes s t (Label.Out p w) is = inl (out_raises s t p w is).stays
step_makes s t (Label.End p y) is = inl (end_raises s t p y is).stays
step_makes s t (Label.Receive p id) is = inl (receive_raises s t p id is).stays
step_makes s t (Label.Refuse p id d) is = inl (refuse_raises s t p id d is).stays
step_makes s t (Label.Served id) is = inl (served_raises s t id is).raises.stays
step_makes s t (Label.Took id) is = inl (took_raises s t id is).stays
step_makes s t (Label.Dropped id) is = inl (dropped_raises s t id is).stays
step_makes s t (Label.Gone id) is = inl (gone_raises s t id is).stays
step_makes s t (Label.Created id child) is = inr (created_makes s t id child is)
step_makes s t (Label.NoSpace id a b) is = inl (no_space_raises s t id a b is).stays
step_makes s t (Label.Asked id) is = inl (asked_raises s t id is).stays
step_makes s t (Label.Answered id o) is = inl (move_answered_raises s t id o is).stays
