-- A step of the kernel without machines: where it leads, row by row. Whatever holds where each row leads holds where the step leads.
use Rattle.dm_law_rule.proofs.Names.{◌≡◌, ℕ, ◌+◌, ◌==◌, ◌&&◌, Bool, true, false, take, drop, refl, subst, length, if◌then◌else◌, slice_get, Option, None, Some, Pid, pid_of, pid_eq, MsgId, id_eq, Label, Reply, Why, reply_eq, why_eq}
use Rattle.dm_law_rule.proofs.Names.{PlainMessage, PlainWhat, BootImage, first_number, switchboard, manager, bind, PlainProcess, Alive, OneKernel, with_process, with_sent, without_message, answer_to, plain_kind, bind-is}
use Rattle.dm_law_rule.proofs.Names.{when-is, at_hand-is, Nexts, nexts, is_dropped, why_ended-is, Runs, Completing, completing, MoveNote, Outcome, with_note, arith, and_parts, Ended, none_some}
use Rattle.dm_onekernel.specs.Calls as calls
use Rattle.dm_onekernel.specs.Manager as manage
use Rattle.dm_onekernel.specs.Pieces as pieces
use Rattle.dm_onekernel.specs.Receiving as receiving
use Rattle.dm_onekernel.specs.Service as service
use Rattle.dm_onekernel.specs.Step as kernel
use Rattle.dm_onekernel.specs.Switchboard as board
use Rattle.dm_law_rule.proofs.Serving.{is_kill}
pub use Rattle.dm_law_one.proofs.Steps.{runs as running_is}

-- what a process does next
pub record Next (s : OneKernel) (p : Pid) (next : kernel.Trap) : Type 0 where
  pub is : kernel.next_trap s p ≡ Some next
  pub so : Nexts s p next

-- a message of the bag, whose receiver lives, and follows no request to move
pub record Lives (s : OneKernel) (id : MsgId) (m : PlainMessage) (x : PlainProcess) : Type 0 where
  pub there : s.bag id ≡ Some m
  pub alive : s.processes m.to ≡ Some (Alive x)
  pub free : s.notes m.to ≡ None

-- or has ended
pub record Over (s : OneKernel) (id : MsgId) (m : PlainMessage) (y : Why) : Type 0 where
  pub there : s.bag id ≡ Some m
  pub ended : s.processes m.to ≡ Some (Ended y)

-- the kinds that the kernel of a living process serves; this message is one of them, and no kill
abbrev pub is_served : PlainWhat → Bool
is_served (PlainWhat.User code channel body links) = false
is_served (PlainWhat.Create image links) = false
is_served (PlainWhat.Created child) = false
is_served PlainWhat.NoRoom = false
is_served (PlainWhat.Move machine) = false
is_served (PlainWhat.Moved outcome) = false
is_served w = true

pub record Mild (m : PlainMessage) : Type 0 where
  pub mild : is_kill (plain_kind m.what) ≡ false
  pub served : is_served m.what ≡ true

-- a kernel is asked for a process
pub record Asked (s : OneKernel) (id : MsgId) (m : PlainMessage) (image : ℕ) (links : _) : Type 0 where
  pub there : s.bag id ≡ Some m
  pub what : m.what ≡ PlainWhat.Create image links
  pub kernel : service.is_kernel s m.to ≡ true

-- a process follows a request to move, whose end is said so
pub record Follows (s : OneKernel) (id : MsgId) (o : Outcome) (p : Pid) (n : MoveNote) : Type 0 where
  pub noted : s.noted id ≡ Some p
  pub notes : s.notes p ≡ Some n
  pub ends : service.ends_move s id p n o ≡ Some (service.move_ended s id p n o)

pub record Changes (P : OneKernel → Type 0) (s : OneKernel) (l : Label) : Type 0 where
  pub ran : (p : Pid) (k : ℕ) (x : PlainProcess) (m : kernel.Machine) → l ≡ Label.Ran p k → Runs s p x → P (kernel.goes_on s p (kernel.with_machine x m))
  pub replies : (p : Pid) (n k : ℕ) (c d : Reply) (y : PlainProcess) → l ≡ Label.Call p n c → Next s p (kernel.Calls k (calls.Replies d y)) → P (kernel.goes_on s p y)
  pub sends : (p : Pid) (id : MsgId) (k : ℕ) (m : PlainMessage) (y : PlainProcess) → l ≡ Label.Send p id → id_eq id m.id ≡ true → Next s p (kernel.Calls k (calls.Sends m y)) → P (with_sent (kernel.goes_on s p y) (Some m))
  pub waits : (p : Pid) (k : ℕ) (y : PlainProcess) → l ≡ Label.Wait p → Next s p (kernel.Calls k (calls.Waits y)) → P (kernel.goes_on s p y)
  pub outputs : (p : Pid) (w k v : ℕ) (y : PlainProcess) → l ≡ Label.Out p w → Next s p (kernel.Calls k (calls.Outputs v y)) → P (kernel.goes_on s p y)
  pub ends : (p : Pid) (y : Why) (next : kernel.Trap) → l ≡ Label.End p y → Next s p next → P (with_process s p (Ended y))
  pub receives : (p : Pid) (id : MsgId) (y : PlainProcess) → l ≡ Label.Receive p id → Completing s p id (receiving.Receives y) → kernel.completing s p id ≡ Some (receiving.Receives y) → P (kernel.goes_on (without_message s id) p y)
  pub refuses : (p : Pid) (id : MsgId) (c d : Reply) (y : PlainProcess) → l ≡ Label.Refuse p id c → Completing s p id (receiving.Refuses d y) → kernel.completing s p id ≡ Some (receiving.Refuses d y) → P (kernel.goes_on s p y)
  pub dropped : (id : MsgId) (m : PlainMessage) (y : Why) → l ≡ Label.Dropped id → Over s id m y → is_dropped m.what ≡ true → P (without_message s id)
  pub gone : (id : MsgId) (m : PlainMessage) (y : Why) → l ≡ Label.Gone id → Over s id m y → (w : PlainWhat) → service.gone_what m.what ≡ Some w → P (with_sent (without_message s id) (Some (answer_to m w)))
  pub stops : (id : MsgId) (m : PlainMessage) (x : PlainProcess) (b : Bool) → l ≡ Label.Served id → Lives s id m x → Mild m → P (service.changed s id m (record x { stopped = b }))
  pub kills : (id : MsgId) (m : PlainMessage) (x : PlainProcess) → l ≡ Label.Served id → Lives s id m x → m.what ≡ PlainWhat.Kill → P (with_process (without_message s id) m.to (Ended Why.Killed))
  pub reads : (id : MsgId) (m : PlainMessage) (x : PlainProcess) (base len : ℕ) → l ≡ Label.Served id → Lives s id m x → m.what ≡ PlainWhat.Read base len → P (with_sent (service.changed s id m x) (Some (answer_to m (PlainWhat.Block (take len (drop base x.memory))))))
  pub writes : (id : MsgId) (m : PlainMessage) (x : PlainProcess) (base : ℕ) (bytes : _) → l ≡ Label.Served id → Lives s id m x → m.what ≡ PlainWhat.Write base bytes
      → P (with_sent (service.changed s id m (record x { memory = pieces.written_at x.memory base bytes })) (Some (answer_to m PlainWhat.Written)))
  pub lands : (id : MsgId) (m : PlainMessage) (x : PlainProcess) (r : PlainMessage) (y : PlainProcess) → l ≡ Label.Served id → Lives s id m x → Mild m → pieces.lands m.to x m x.status ≡ Some (pieces.Next r y) → P (with_sent (service.changed s id m y) (Some r))
  pub done : (id : MsgId) (m : PlainMessage) (x : PlainProcess) (c : Reply) (y : PlainProcess) → l ≡ Label.Served id → Lives s id m x → Mild m → pieces.lands m.to x m x.status ≡ Some (pieces.Done c y) → P (service.changed s id m y)
  pub board : (id : MsgId) (m : PlainMessage) (k : board.BoardTook) → l ≡ Label.Took id → s.bag id ≡ Some m → pid_eq m.to switchboard ≡ true → board.board_takes s.switchboard m m.what ≡ Some k → P (service.switchboard_took s id k)
  pub manager : (id : MsgId) (m : PlainMessage) (k : manage.ManagerTook) → l ≡ Label.Took id → s.bag id ≡ Some m → pid_eq m.to manager ≡ true → manage.manager_takes s.manager s.machines (length s.images) m m.what ≡ Some k → P (service.manager_took s id k)
  pub creates : (id : MsgId) (child : Pid) (m : PlainMessage) (image : ℕ) (links : _) (i : BootImage) → l ≡ Label.Created id child → Asked s id m image links → slice_get s.images image ≡ Some i → pid_eq child (pid_of m.to.home (first_number + s.made m.to.home)) ≡ true
      → P (with_sent (service.with_created (without_message s id) child i links) (Some (answer_to m (PlainWhat.Created child))))
  pub no_room : (id : MsgId) (a b : ℕ) (m : PlainMessage) (image : ℕ) (links : _) → l ≡ Label.NoSpace id a b → Asked s id m image links → P (with_sent (without_message s id) (Some (answer_to m PlainWhat.NoRoom)))
  pub asked : (id : MsgId) (m : PlainMessage) (x : PlainProcess) (machine : ℕ) → l ≡ Label.Asked id → Lives s id m x → m.what ≡ PlainWhat.Move machine → P (with_note (without_message s id) m.to (record { id = id; asker = m.sender }))
  pub answered : (id : MsgId) (o : Outcome) (p : Pid) (n : MoveNote) → l ≡ Label.Answered id o → Follows s id o p n → P (service.move_ended s id p n o)

given : (P : OneKernel → Type 0) (u t : OneKernel) → P u → Some u ≡ Some t → P t
given P u t h e = let k : u ≡ t = cc in subst P k h

replies_step : (P : OneKernel → Type 0) (s t : OneKernel) (p : Pid) (n : ℕ) (c : Reply) (next : kernel.Trap) → Changes P s (Label.Call p n c) → Next s p next → kernel.replies s p n c next ≡ Some t → P t
replies_step P s t p n c (kernel.Calls k (calls.Replies d y)) h w e = subst P (when-is ((n == k) && reply_eq c d) (kernel.goes_on s p y) t e).1 (h.replies p n k c d y refl w)
replies_step P s t p n c _ h w e = none_some t e

sends_step : (P : OneKernel → Type 0) (s t : OneKernel) (p : Pid) (id : MsgId) (next : kernel.Trap) → Changes P s (Label.Send p id) → Next s p next → kernel.sends s p id next ≡ Some t → P t
sends_step P s t p id (kernel.Calls k (calls.Sends m y)) h w e = let f = when-is (id_eq id m.id) (with_sent (kernel.goes_on s p y) (Some m)) t e in subst P f.1 (h.sends p id k m y refl f.0 w)
sends_step P s t p id _ h w e = none_some t e

waits_step : (P : OneKernel → Type 0) (s t : OneKernel) (p : Pid) (next : kernel.Trap) → Changes P s (Label.Wait p) → Next s p next → kernel.waits s p next ≡ Some t → P t
waits_step P s t p (kernel.Calls k (calls.Waits y)) h w e = given P (kernel.goes_on s p y) t (h.waits p k y refl w) e
waits_step P s t p _ h w e = none_some t e

outputs_step : (P : OneKernel → Type 0) (s t : OneKernel) (p : Pid) (word : ℕ) (next : kernel.Trap) → Changes P s (Label.Out p word) → Next s p next → kernel.outputs s p word next ≡ Some t → P t
outputs_step P s t p word (kernel.Calls k (calls.Outputs v y)) h w e = subst P (when-is (word == v) (kernel.goes_on s p y) t e).1 (h.outputs p word k v y refl w)
outputs_step P s t p word _ h w e = none_some t e

ends_step : (P : OneKernel → Type 0) (s t : OneKernel) (p : Pid) (y : Why) (next : kernel.Trap) → Changes P s (Label.End p y) → Next s p next → kernel.ends s p y next ≡ Some t → P t
ends_step P s t p y (kernel.Calls k (calls.Ends because)) h w e = subst P (when-is (why_eq y because) (with_process s p (Ended y)) t e).1 (h.ends p y (kernel.Calls k (calls.Ends because)) refl w)
ends_step P s t p y (kernel.Faults fault) h w e = subst P (when-is (why_eq y (Why.Fault fault)) (with_process s p (Ended y)) t e).1 (h.ends p y (kernel.Faults fault) refl w)
ends_step P s t p y _ h w e = none_some t e

receives_step : (P : OneKernel → Type 0) (s t : OneKernel) (p : Pid) (id : MsgId) (c : receiving.Completed) → Changes P s (Label.Receive p id) → kernel.completing s p id ≡ Some c → kernel.receives s p id c ≡ Some t → P t
receives_step P s t p id (receiving.Receives y) h w e = given P (kernel.goes_on (without_message s id) p y) t (h.receives p id y refl (completing s p id (receiving.Receives y) w) w) e
receives_step P s t p id (receiving.Refuses d y) h w e = none_some t e

refuses_step : (P : OneKernel → Type 0) (s t : OneKernel) (p : Pid) (id : MsgId) (r : Reply) (c : receiving.Completed) → Changes P s (Label.Refuse p id r) → kernel.completing s p id ≡ Some c → kernel.refuses s p r c ≡ Some t → P t
refuses_step P s t p id r (receiving.Receives y) h w e = none_some t e
refuses_step P s t p id r (receiving.Refuses d y) h w e = subst P (when-is (reply_eq r d) (kernel.goes_on s p y) t e).1 (h.refuses p id r d y refl (completing s p id (receiving.Refuses d y) w) w)

lands_step : (P : OneKernel → Type 0) (s t : OneKernel) (id : MsgId) (m : PlainMessage) (x : PlainProcess) (c : Option pieces.Landed) → Changes P s (Label.Served id) → Lives s id m x → Mild m → pieces.lands m.to x m x.status ≡ c
    → bind c (λ v. Some (service.landed s id m v)) ≡ Some t → P t
lands_step P s t id m x c h1 h2 h3 h4 h5 = search (arith, given)

answered_step : (P : OneKernel → Type 0) (s t : OneKernel) (id : MsgId) (m : PlainMessage) (b : Bool) (r : pieces.Served) → P (service.answered s id m r) → bind (if b then Some r else None) (λ v. Some (service.answered s id m v)) ≡ Some t → P t
answered_step P s t id m true r h e = given P (service.answered s id m r) t h e
answered_step P s t id m false r h e = none_some t e

serves_step : (P : OneKernel → Type 0) (s t : OneKernel) (id : MsgId) (m : PlainMessage) (x : PlainProcess) (w : PlainWhat) → m.what ≡ w → Changes P s (Label.Served id) → Lives s id m x → service.serves s id m x w ≡ Some t → P t
serves_step P s t id m x w h1 h2 h3 h4 = search (arith, given, answered_step, lands_step)

takes_step : (P : OneKernel → Type 0) (s t : OneKernel) (id : MsgId) (m : PlainMessage) (c d : Bool) → pid_eq m.to switchboard ≡ c → pid_eq m.to manager ≡ d → Changes P s (Label.Took id) → s.bag id ≡ Some m
    → (if c then bind (board.board_takes s.switchboard m m.what) (λ k. Some (service.switchboard_took s id k)) else if d then bind (manage.manager_takes s.manager s.machines (length s.images) m m.what) (λ k. Some (service.manager_took s id k)) else None) ≡ Some t → P t
takes_step P s t id m c d h1 h2 h3 h4 h5 = search (arith, bind-is, given)

creates_step : (P : OneKernel → Type 0) (s t : OneKernel) (id : MsgId) (m : PlainMessage) (child : Pid) (w : PlainWhat) → m.what ≡ w → Changes P s (Label.Created id child) → s.bag id ≡ Some m → service.creates s id m child w ≡ Some t → P t
creates_step P s t id m child w h1 h2 h3 h4 = search (arith, bind-is, when-is, and_parts)

no_room_step : (P : OneKernel → Type 0) (s t : OneKernel) (id : MsgId) (a b : ℕ) (m : PlainMessage) (w : PlainWhat) → m.what ≡ w → Changes P s (Label.NoSpace id a b) → s.bag id ≡ Some m → service.has_no_room s id m w ≡ Some t → P t
no_room_step P s t id a b m w h1 h2 h3 h4 = search (arith, when-is)

lives : (s : OneKernel) (id : MsgId) (m : PlainMessage) (x : PlainProcess) → s.bag id ≡ Some m → kernel.at_hand s m.to ≡ Some x → Lives s id m x
lives s id m x there hand = let (free, alive) = at_hand-is s m.to x hand in record { there = there; alive = alive; free = free }

follows_step : (P : OneKernel → Type 0) (s t : OneKernel) (id : MsgId) (m : PlainMessage) (x : PlainProcess) (w : PlainWhat) → m.what ≡ w → Changes P s (Label.Asked id) → Lives s id m x → service.follows_request s id m w ≡ Some t → P t
follows_step P s t id m x (PlainWhat.Move machine) is h w e = given P (with_note (without_message s id) m.to (record { id = id; asker = m.sender })) t (h.asked id m x machine refl w is) e
follows_step P s t id m x _ is h w e = none_some t e

move_ends_step : (P : OneKernel → Type 0) (s t : OneKernel) (id : MsgId) (p : Pid) (n : MoveNote) (o : Outcome) → Changes P s (Label.Answered id o) → s.noted id ≡ Some p → s.notes p ≡ Some n → service.ends_move s id p n o ≡ Some t → P t
move_ends_step P s t id p n o h1 h2 h3 h4 = search (arith, given)

pub by_step : (P : OneKernel → Type 0) (s t : OneKernel) (l : Label) → Changes P s l → kernel.step s l ≡ Some t → P t
by_step P s t (Label.Ran p k) h e =
    let (x, running, rest) = bind-is (kernel.running s p) (λ (w : PlainProcess). bind (kernel.plain_steps k (kernel.machine_of w)) (λ (m : kernel.Machine). Some (kernel.goes_on s p (kernel.with_machine w m)))) t e in
    let (m, plain, last) = bind-is (kernel.plain_steps k (kernel.machine_of x)) (λ (m : kernel.Machine). Some (kernel.goes_on s p (kernel.with_machine x m))) t rest in
    given P (kernel.goes_on s p (kernel.with_machine x m)) t (h.ran p k x m refl (running_is s p x running)) last
by_step P s t (Label.Call p n c) h e = let (next, is, rest) = bind-is (kernel.next_trap s p) (kernel.replies s p n c) t e in replies_step P s t p n c next h (record { is = is; so = nexts s p next is }) rest
by_step P s t (Label.Send p id) h e = let (next, is, rest) = bind-is (kernel.next_trap s p) (kernel.sends s p id) t e in sends_step P s t p id next h (record { is = is; so = nexts s p next is }) rest
by_step P s t (Label.Wait p) h e = let (next, is, rest) = bind-is (kernel.next_trap s p) (kernel.waits s p) t e in waits_step P s t p next h (record { is = is; so = nexts s p next is }) rest
by_step P s t (Label.Out p w) h e = let (next, is, rest) = bind-is (kernel.next_trap s p) (kernel.outputs s p w) t e in outputs_step P s t p w next h (record { is = is; so = nexts s p next is }) rest
by_step P s t (Label.End p y) h e = let (next, is, rest) = bind-is (kernel.next_trap s p) (kernel.ends s p y) t e in ends_step P s t p y next h (record { is = is; so = nexts s p next is }) rest
by_step P s t (Label.Receive p id) h e = let (c, is, rest) = bind-is (kernel.completing s p id) (kernel.receives s p id) t e in receives_step P s t p id c h is rest
by_step P s t (Label.Refuse p id r) h e = let (c, is, rest) = bind-is (kernel.completing s p id) (kernel.refuses s p r) t e in refuses_step P s t p id r c h is rest
by_step P s t (Label.Dropped id) h e =
    let (m, there, rest) = bind-is (s.bag id) (λ v. bind (kernel.why_ended (s.processes v.to)) (kernel.drops s id v)) t e in
    let (y, over, last) = bind-is (kernel.why_ended (s.processes m.to)) (kernel.drops s id m) t rest in
    let k = when-is (is_dropped m.what) (without_message s id) t last in
    subst P k.1 (h.dropped id m y refl (record { there = there; ended = why_ended-is (s.processes m.to) y over }) k.0)
by_step P s t (Label.Gone id) h e =
    let (m, there, rest) = bind-is (s.bag id) (λ v. bind (kernel.why_ended (s.processes v.to)) (kernel.says_gone s id v)) t e in
    let (y, over, last) = bind-is (kernel.why_ended (s.processes m.to)) (kernel.says_gone s id m) t rest in
    let (w, answer, end) = bind-is (service.gone_what m.what) (λ v. Some (with_sent (without_message s id) (Some (answer_to m v)))) t last in
    given P (with_sent (without_message s id) (Some (answer_to m w))) t (h.gone id m y refl (record { there = there; ended = why_ended-is (s.processes m.to) y over }) w answer) end
by_step P s t (Label.Served id) h e =
    let (m, there, rest) = bind-is (s.bag id) (λ v. bind (kernel.at_hand s v.to) (λ p. service.serves s id v p v.what)) t e in
    let (x, hand, last) = bind-is (kernel.at_hand s m.to) (λ p. service.serves s id m p m.what) t rest in
    serves_step P s t id m x m.what refl h (lives s id m x there hand) last
by_step P s t (Label.Took id) h e = let (m, there, rest) = bind-is (s.bag id) (service.takes s id) t e in takes_step P s t id m (pid_eq m.to switchboard) (pid_eq m.to manager) refl refl h there rest
by_step P s t (Label.Created id child) h e = let (m, there, rest) = bind-is (s.bag id) (λ v. service.creates s id v child v.what) t e in creates_step P s t id m child m.what refl h there rest
by_step P s t (Label.NoSpace id a b) h e = let (m, there, rest) = bind-is (s.bag id) (λ v. service.has_no_room s id v v.what) t e in no_room_step P s t id a b m m.what refl h there rest
by_step P s t (Label.Asked id) h e =
    let (m, there, rest) = bind-is (s.bag id) (λ v. bind (kernel.at_hand s v.to) (λ p. service.follows_request s id v v.what)) t e in
    let (x, hand, last) = bind-is (kernel.at_hand s m.to) (λ p. service.follows_request s id m m.what) t rest in
    follows_step P s t id m x m.what refl h (lives s id m x there hand) last
by_step P s t (Label.Answered id o) h e =
    let (p, noted, rest) = bind-is (s.noted id) (λ q. bind (s.notes q) (λ n. service.ends_move s id q n o)) t e in
    let (n, notes, last) = bind-is (s.notes p) (λ n. service.ends_move s id p n o) t rest in
    move_ends_step P s t id p n o h noted notes last
