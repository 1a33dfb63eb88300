-- Each name that the switchboard keeps has 1 to 16 bytes.
use Rattle.dm_law_runs.proofs.Names.{◌≡◌, ℕ, ◌==◌, Bool, true, false, if◌then◌else◌, List, [], ◌∷◌, ◌++◌, length, refl, subst, Option, Pid, pid_eq, PlainLink, MsgId, PlainMessage, PlainWhat, Boot, Label}
use Rattle.std.proofs.Common.{Some, None}
use Rattle.dm_law_runs.proofs.Names.{Reply, Why, is_general, switchboard, manager, NamedLink, Switchboard, OneKernel, with_sent, bind, when, PlainProcess, start, is_name, Outcome, MoveNote}
use Rattle.dm_message.specs.declared.Outcome.TheVariants as ends
use Rattle.dm_message.specs.Plain as what
use Rattle.dm_onekernel.specs.declared.label.Label.TheVariants as label
use Rattle.dm_onekernel.specs.Calls as calls
use Rattle.dm_onekernel.specs.Manager as manage
use Rattle.dm_onekernel.specs.Pieces as pieces
use Rattle.dm_onekernel.specs.Receiving as receiving
use Rattle.dm_onekernel.specs.Service as service
use Rattle.dm_onekernel.specs.Step as step
use Rattle.dm_onekernel.specs.Switchboard as board

-- each is a name
abbrev pub AreNames : List NamedLink → Type 0
AreNames [] = Unit {0}
AreNames (k ∷ ks) = (is_name k.name ≡ true) × AreNames ks

one_more : (ks : List NamedLink) (k : NamedLink) → AreNames ks → is_name k.name ≡ true → AreNames (ks ++ k ∷ [])
one_more [] k h e = (e, tt)
one_more (j ∷ ks) k h e = (h.0, one_more ks k h.1 e)

-- what the switchboard keeps after a request
new_names : (ks : List NamedLink) (name : List ℕ) (l : PlainLink) (o : Option PlainLink) → AreNames ks → is_name name ≡ true → AreNames (board.registers_new ks name l o).names
new_names ks name l None h e = one_more ks (record { name = name; link = l }) h e
new_names ks name l (Some taken) h e = h

registered : (ks : List NamedLink) (name : List ℕ) (l : PlainLink) (general : Bool) → AreNames ks → is_name name ≡ true
    → AreNames (if general then board.registers_new ks name l (board.link_named name ks) else record { names = ks; answer = board.BadLink }).names
registered ks name l true h e = new_names ks name l (board.link_named name ks) h e
registered ks name l false h e = h

if_name : (ks : List NamedLink) (name : List ℕ) (l : PlainLink) (t : Bool) → is_name name ≡ t → AreNames ks → AreNames (if t then board.registers_name ks name l else board.board_bad_request ks).names
if_name ks name l true e h = registered ks name l (is_general l.kind) h e
if_name ks name l false e h = h

register_keeps : (ks : List NamedLink) (name : List ℕ) (others : List PlainLink) → AreNames ks → AreNames (board.asks_to_register ks name others).names
register_keeps ks name [] h = h
register_keeps ks name (l ∷ []) h = if_name ks name l (is_name name) refl h
register_keeps ks name (l ∷ k ∷ others) h = h

if_looks : (ks : List NamedLink) (name : List ℕ) (t : Bool) → AreNames ks → AreNames (if t then board.looks_up ks name else board.board_bad_request ks).names
if_looks ks name true h = h
if_looks ks name false h = h

look_keeps : (ks : List NamedLink) (name : List ℕ) (others : List PlainLink) → AreNames ks → AreNames (board.asks_to_look_up ks name others).names
look_keeps ks name [] h = if_looks ks name (is_name name) h
look_keeps ks name (l ∷ others) h = h

by_operation : (ks : List NamedLink) (name : List ℕ) (others : List PlainLink) (s t : Bool) → AreNames ks
    → AreNames (if s then board.asks_to_register ks name others else if t then board.asks_to_look_up ks name others else board.board_bad_request ks).names
by_operation ks name others true t h = register_keeps ks name others h
by_operation ks name others false true h = look_keeps ks name others h
by_operation ks name others false false h = h

asks_keep : (ks : List NamedLink) (body : List ℕ) (others : List PlainLink) → AreNames ks → AreNames (board.asks ks body others).names
asks_keep ks [] others h = h
asks_keep ks (operation ∷ name) others h = by_operation ks name others (operation == 1) (operation == 2) h

request_keeps : (b : Switchboard) (body : List ℕ) (links : List PlainLink) → AreNames b.names → AreNames (board.takes_request b body links).switchboard.names
request_keeps b body [] h = h
request_keeps b body (l ∷ others) h = asks_keep b.names body others h

board_keeps : (b : Switchboard) (m : PlainMessage) (w : PlainWhat) (t : board.BoardTook) → board.board_takes b m w ≡ Some t → AreNames b.names → AreNames t.switchboard.names
board_keeps b m (what.User code channel body links) t e h = let f : board.takes_request b body links ≡ t = cc in subst (λ (x : board.BoardTook). AreNames x.switchboard.names) f (request_keeps b body links h)
board_keeps b m w t e h = absurd (cc)

-- a step keeps them
abbrev Stay : OneKernel → OneKernel → Type 0
Stay s t = AreNames s.switchboard.names → AreNames t.switchboard.names

abbrev StaySome : OneKernel → Option OneKernel → Type 0
StaySome s None = Unit {0}
StaySome s (Some t) = Stay s t

stay_bind : {A : Type 0} (s : OneKernel) (o : Option A) (go : A → Option OneKernel) → ((x : A) → o ≡ Some x → StaySome s (go x)) → StaySome s (bind o go)
stay_bind s None go h = tt
stay_bind s (Some x) go h = h x refl

stay_when : (s t : OneKernel) (b : Bool) → Stay s t → StaySome s (when b t)
stay_when s t true h = h
stay_when s t false h = tt

stay_sent : (s t : OneKernel) (o : Option PlainMessage) → Stay s t → Stay s (with_sent t o)
stay_sent s t None h = h
stay_sent s t (Some m) h = h

replies_stay : (s : OneKernel) (p : Pid) (n : ℕ) (c : Reply) (x : step.Trap) → StaySome s (step.replies s p n c x)
replies_stay s p n c (step.Calls number (calls.Replies reply x)) = stay_when s (step.goes_on s p x) _ (λ h. h)
replies_stay s p n c other = tt

sends_stay : (s : OneKernel) (p : Pid) (id : MsgId) (x : step.Trap) → StaySome s (step.sends s p id x)
sends_stay s p id (step.Calls number (calls.Sends m x)) = stay_when s (with_sent (step.goes_on s p x) (Some m)) _ (λ h. h)
sends_stay s p id other = tt

waits_stay : (s : OneKernel) (p : Pid) (x : step.Trap) → StaySome s (step.waits s p x)
waits_stay s p (step.Calls number (calls.Waits x)) = λ h. h
waits_stay s p other = tt

outputs_stay : (s : OneKernel) (p : Pid) (w : ℕ) (x : step.Trap) → StaySome s (step.outputs s p w x)
outputs_stay s p w (step.Calls number (calls.Outputs word x)) = stay_when s (step.goes_on s p x) _ (λ h. h)
outputs_stay s p w other = tt

ends_stay : (s : OneKernel) (p : Pid) (y : Why) (x : step.Trap) → StaySome s (step.ends s p y x)
ends_stay s p y (step.Calls number (calls.Ends because)) = stay_when s _ _ (λ h. h)
ends_stay s p y (step.Faults fault) = stay_when s _ _ (λ h. h)
ends_stay s p y other = tt

receives_stay : (s : OneKernel) (p : Pid) (id : MsgId) (c : receiving.Completed) → StaySome s (step.receives s p id c)
receives_stay s p id (receiving.Receives x) = λ h. h
receives_stay s p id (receiving.Refuses reply x) = tt

refuses_stay : (s : OneKernel) (p : Pid) (c : Reply) (x : receiving.Completed) → StaySome s (step.refuses s p c x)
refuses_stay s p c (receiving.Receives x) = tt
refuses_stay s p c (receiving.Refuses reply x) = stay_when s (step.goes_on s p x) _ (λ h. h)

landed_stays : (s : OneKernel) (id : MsgId) (m : PlainMessage) (r : pieces.Landed) → Stay s (service.landed s id m r)
landed_stays s id m (pieces.Next request p) h = h
landed_stays s id m (pieces.Done reply p) h = h

serves_stay : (s : OneKernel) (id : MsgId) (m : PlainMessage) (p : PlainProcess) (w : PlainWhat) → StaySome s (service.serves s id m p w)
serves_stay s id m p what.Stop = λ h. h
serves_stay s id m p what.Resume = λ h. h
serves_stay s id m p what.Kill = λ h. h
serves_stay s id m p (what.Read base len) = stay_bind s (pieces.reads p m base len) (λ r. Some (service.answered s id m r)) (λ r e h. h)
serves_stay s id m p (what.Write base bytes) = stay_bind s (pieces.writes p m base bytes) (λ r. Some (service.answered s id m r)) (λ r e h. h)
serves_stay s id m p (what.Block bytes) = stay_bind s (pieces.lands m.to p m p.status) (λ r. Some (service.landed s id m r)) (λ r e. landed_stays s id m r)
serves_stay s id m p what.Written = stay_bind s (pieces.lands m.to p m p.status) (λ r. Some (service.landed s id m r)) (λ r e. landed_stays s id m r)
serves_stay s id m p what.Gone = stay_bind s (pieces.lands m.to p m p.status) (λ r. Some (service.landed s id m r)) (λ r e. landed_stays s id m r)
serves_stay s id m p w = tt

by_server : (s : OneKernel) (id : MsgId) (m : PlainMessage) (is_board is_manager : Bool)
    → StaySome s (if is_board then bind (board.board_takes s.switchboard m m.what) (λ t. Some (service.switchboard_took s id t))
    else if is_manager then bind (manage.manager_takes s.manager s.machines (length s.images) m m.what) (λ t. Some (service.manager_took s id t)) else None)
by_server s id m true is_manager =
    stay_bind s (board.board_takes s.switchboard m m.what) (λ t. Some (service.switchboard_took s id t)) (λ t e h. stay_sent s _ t.answer (λ k. board_keeps s.switchboard m m.what t e k) h)
by_server s id m false true =
    stay_bind s (manage.manager_takes s.manager s.machines (length s.images) m m.what) (λ t. Some (service.manager_took s id t)) (λ t e h. stay_sent s _ t.message (λ k. k) h)
by_server s id m false false = tt

took_stays : (s : OneKernel) (id : MsgId) (m : PlainMessage) → StaySome s (service.takes s id m)
took_stays s id m = by_server s id m (pid_eq m.to switchboard) (pid_eq m.to manager)

creates_stay : (s : OneKernel) (id : MsgId) (m : PlainMessage) (child : Pid) (w : PlainWhat) → StaySome s (service.creates s id m child w)
creates_stay s id m child (what.Create image links) = stay_bind s _ (service.creates_of s id m child links) (λ i e. stay_when s _ _ (λ h. h))
creates_stay s id m child w = tt

no_room_stays : (s : OneKernel) (id : MsgId) (m : PlainMessage) (w : PlainWhat) → StaySome s (service.has_no_room s id m w)
no_room_stays s id m (what.Create image links) = stay_when s _ _ (λ h. h)
no_room_stays s id m w = tt

gone_stays : (s : OneKernel) (id : MsgId) (m : PlainMessage) (o : Option PlainWhat) → StaySome s (bind o (λ w. Some (with_sent (service.without_message s id) (Some (pieces.answer_to m w)))))
gone_stays s id m None = tt
gone_stays s id m (Some w) = λ h. h

follows_stays : (s : OneKernel) (id : MsgId) (m : PlainMessage) (w : PlainWhat) → StaySome s (service.follows_request s id m w)
follows_stays s id m (what.Move machine) = λ h. h
follows_stays s id m w = tt

ends_move_stays : (s : OneKernel) (id : MsgId) (p : Pid) (n : MoveNote) (o : Outcome) → StaySome s (service.ends_move s id p n o)
ends_move_stays s id p n ends.Done = λ h. h
ends_move_stays s id p n ends.Stayed = λ h. h
ends_move_stays s id p n ends.Ended = tt

step_stays : (s : OneKernel) (l : Label) → StaySome s (step.step s l)
step_stays s (label.Ran p k) =
    stay_bind s (step.running s p) (λ x. bind (step.plain_steps k (step.machine_of x)) (λ m. Some (step.goes_on s p (step.with_machine x m))))
    (λ x e. stay_bind s (step.plain_steps k (step.machine_of x)) (λ m. Some (step.goes_on s p (step.with_machine x m))) (λ m f h. h))
step_stays s (label.Call p n c) = stay_bind s (step.next_trap s p) (step.replies s p n c) (λ x e. replies_stay s p n c x)
step_stays s (label.Send p id) = stay_bind s (step.next_trap s p) (step.sends s p id) (λ x e. sends_stay s p id x)
step_stays s (label.Wait p) = stay_bind s (step.next_trap s p) (step.waits s p) (λ x e. waits_stay s p x)
step_stays s (label.Out p w) = stay_bind s (step.next_trap s p) (step.outputs s p w) (λ x e. outputs_stay s p w x)
step_stays s (label.End p y) = stay_bind s (step.next_trap s p) (step.ends s p y) (λ x e. ends_stay s p y x)
step_stays s (label.Receive p id) = stay_bind s (step.completing s p id) (step.receives s p id) (λ x e. receives_stay s p id x)
step_stays s (label.Refuse p id c) = stay_bind s (step.completing s p id) (step.refuses s p c) (λ x e. refuses_stay s p c x)
step_stays s (label.Served id) =
    stay_bind s (s.bag id) (λ m. bind (step.at_hand s m.to) (λ p. service.serves s id m p m.what)) (λ m e. stay_bind s (step.at_hand s m.to) (λ p. service.serves s id m p m.what) (λ p f. serves_stay s id m p m.what))
step_stays s (label.Took id) = stay_bind s (s.bag id) (service.takes s id) (λ m e. took_stays s id m)
step_stays s (label.Dropped id) =
    stay_bind s (s.bag id) (λ m. bind (step.why_ended (s.processes m.to)) (step.drops s id m)) (λ m e. stay_bind s (step.why_ended (s.processes m.to)) (step.drops s id m) (λ y f. stay_when s _ _ (λ h. h)))
step_stays s (label.Gone id) =
    stay_bind s (s.bag id) (λ m. bind (step.why_ended (s.processes m.to)) (step.says_gone s id m))
    (λ m e. stay_bind s (step.why_ended (s.processes m.to)) (step.says_gone s id m) (λ y f. gone_stays s id m (service.gone_what m.what)))
step_stays s (label.Created id child) = stay_bind s (s.bag id) (λ m. service.creates s id m child m.what) (λ m e. creates_stay s id m child m.what)
step_stays s (label.NoSpace id slots blocks) = stay_bind s (s.bag id) (λ m. service.has_no_room s id m m.what) (λ m e. no_room_stays s id m m.what)
step_stays s (label.Asked id) =
    stay_bind s (s.bag id) (λ m. bind (step.at_hand s m.to) (λ p. service.follows_request s id m m.what)) (λ m e. stay_bind s (step.at_hand s m.to) (λ p. service.follows_request s id m m.what) (λ p f. follows_stays s id m m.what))
step_stays s (label.Answered id o) =
    stay_bind s (s.noted id) (λ p. bind (s.notes p) (λ n. service.ends_move s id p n o)) (λ p e. stay_bind s (s.notes p) (λ n. service.ends_move s id p n o) (λ n f. ends_move_stays s id p n o))

names_after : (s t : OneKernel) (ls : List Label) → step.replay s ls ≡ Some t → Stay s t
names_after s t [] e = let f : s ≡ t = cc in subst (Stay s) f (λ h. h)
names_after s t (l ∷ ls) e = by_step (step.step s l) (step_stays s l) e (λ u is. names_after u t ls is)
  where
    by_step : (o : Option OneKernel) → StaySome s o → bind o (λ u. step.replay u ls) ≡ Some t → ((u : OneKernel) → step.replay u ls ≡ Some t → Stay u t) → Stay s t
    by_step None stay is more = absurd (cc)
    by_step (Some u) stay is more = λ h. more u is (stay h)

-- so it is wherever a run of the kernel leads
pub names_always : (b : Boot) (ls : List Label) (t : OneKernel) → step.replay (start b) ls ≡ Some t → AreNames t.switchboard.names
names_always b ls t e = names_after (start b) t ls e tt
