-- A turn that serves a process, or handles a message of the bag: what comes of it, row by row. Whatever holds of the parts of each row holds of what comes of the turn.
use Rattle.dm_law_rule.proofs.Names.{◌≡◌, ℕ, ◌+◌, ◌==◌, ◌||◌, Bool, true, false, List, [], ◌∷◌, refl, length, if◌then◌else◌, Option, None, Some, Pid, pid_of, pid_eq, MsgId, MessageKind, Label, Reply, Why, plain_kind, PlainMessage, PlainWhat}
use Rattle.dm_law_rule.proofs.Names.{instruction, Boot, first_number, switchboard, manager, PlainProcess, PlainStatus, Ready, Waiting, Moving, answer_id, with_machine, Line, Known, Unknown, Here, Frozen, Incoming, Forward, Addresses, Sender}
use Rattle.dm_law_rule.proofs.Names.{Point, Part, Says, Routes, Again, Owns, forwards_on, says, drop_parts, called, stops, executes, ran, first_awaited, serves_status, goes_round, kernel_handles, routes, board_took, manager_parts, here_handles}
use Rattle.dm_law_rule.proofs.Names.{ended_handles, process_handles, bind-is, Outcome, answers_move, leaves_for, arith, nat_tests, machine_of, or_left, or_right, bind, ◌++◌, map, to_kernel, buries, ends_with, preds_of, none_some}
use Rattle.dm_onekernel.specs.Calls as calls
use Rattle.dm_onekernel.specs.Pieces as pieces
use Rattle.dm_onekernel.specs.Switchboard as board
use Rattle.dm_onekernel.specs.Manager as manage
use Rattle.dm_onekernel.specs.Step as kernel
use Rattle.dm_law_rule.specs.Rule as rule
use Rattle.dm_law_rule.proofs.Hearing.{given}

-- a process stops: its turn is over, or a call follows, or its end, with this behind it
pub record Stops (Q : List Part → Type 0) (p : Pid) (after : List Part) : Type 0 where
  pub over : Q []
  pub replies : (n : ℕ) (r : Reply) → Q (says (Label.Call p n r) ∷ [])
  pub sends : (id : MsgId) → Q (says (Label.Send p id) ∷ Routes id ∷ [])
  pub waits : Q (says (Label.Wait p) ∷ [])
  pub outputs : (word : ℕ) → Q (says (Label.Out p word) ∷ [])
  pub ends : (y : Why) → Q (says (Label.End p y) ∷ after)

-- it is served: it runs and stops, takes a message of its queue that it waits for, or is refused it
pub record Serves (P : List Part → Type 0) (o : Point) (m : ℕ) (p : Pid) : Type 1 where
  pub runs : (k : ℕ) (ps : List Part) → ((Q : List Part → Type 0) → Stops Q p (ends_with o m p) → Q ps) → P (says (Label.Ran p k) ∷ ps)
  pub takes : (mask : ℕ) (id : MsgId) → first_awaited o.kernel mask (o.view.queue m p) ≡ Some id → P (says (Label.Receive p id) ∷ [])
  pub refuses : (id : MsgId) (r : Reply) → P (says (Label.Refuse p id r) ∷ [])

by_status : (P : List Part → Type 0) (quantum : ℕ) (o : Point) (m : ℕ) (p : Pid) (x : PlainProcess) (st : PlainStatus) (ps : List Part) → Serves P o m p → serves_status quantum o.kernel p (o.view.queue m p) (ends_with o m p) x st ≡ Some ps → P ps
by_status P quantum o m p x Ready ps h e =
    let by_stops : (Q : List Part → Type 0) (p : Pid) (after : List Part) (full : Bool) (o : Option kernel.Trap) → Stops Q p after → Q (if full then [] else stops p after o) =
    λ Q p after full o h1. let by_called : (Q : List Part → Type 0) (p : Pid) (n : ℕ) (after : List Part) (c : calls.Called) → Stops Q p after → Q (called p n after c) = λ Q p n after c h1. search arith in search (arith, by_called) in
    let r = ran quantum (machine_of x) in
    let next = kernel.next_row p (with_machine x r.machine) (instruction r.machine.regs r.machine.bytes) in
    given P (executes quantum p (ends_with o m p) x r) ps (h.runs r.count (if r.count == quantum then [] else stops p (ends_with o m p) next) (λ Q. by_stops Q p (ends_with o m p) (r.count == quantum) next)) e
by_status P quantum o m p x (Waiting mask base size) ps h e = search (arith, bind-is, given)
by_status P quantum o m p x (Moving dir owner base own left pending) ps h e = none_some ps e

pub by_round : (P : List Part → Type 0) (b : Boot) (o : Point) (m : ℕ) (q : Option Pid) (ps : List Part) → P (Says (Line.Idle m) ∷ []) → ((p : Pid) (x : PlainProcess) → q ≡ Some p → kernel.alive (o.kernel.processes p) ≡ Some x → Serves P o m p)
    → goes_round b o m q ≡ Some ps → P ps
by_round P b o m None ps idle h e = given P (Says (Line.Idle m) ∷ []) ps idle e
by_round P b o m (Some p) ps idle h e =
    let (x, alive, more) = bind-is (kernel.alive (o.kernel.processes p)) (λ x. serves_status b.quantum o.kernel p (o.view.queue m p) (ends_with o m p) x x.status) ps e in
    by_status P b.quantum o m p x x.status ps (h p x refl alive) more

-- what the machine knows of the receiver, which is no kernel
pub record To (o : Point) (m : ℕ) (msg : PlainMessage) (k : Known) : Type 0 where
  pub known : o.view.known m msg.to ≡ k
  pub kernel : (msg.to.num == 0) ≡ false

-- it is here, and a server or none
pub record ToHere (o : Point) (m : ℕ) (msg : PlainMessage) (server : Bool) : Type 0 where
  pub known : o.view.known m msg.to ≡ Here
  pub kernel : (msg.to.num == 0) ≡ false
  pub process : (pid_eq msg.to switchboard || pid_eq msg.to manager) ≡ server

abbrev pub is_kill : MessageKind → Bool
is_kill MessageKind.Kill = true
is_kill _ = false

-- a message of the bag is handled
pub record Handles (P : List Part → Type 0) (o : Point) (m : ℕ) (id : MsgId) (msg : PlainMessage) : Type 0 where
  pub created : (msg.to.num == 0) ≡ true → P (says (Label.Created id (pid_of m (first_number + o.kernel.made m))) ∷ Routes (answer_id id) ∷ [])
  pub no_space : (msg.to.num == 0) ≡ true → (slots blocks : ℕ) → P (says (Label.NoSpace id slots blocks) ∷ Routes (answer_id id) ∷ [])
  pub took : ToHere o m msg true → (sent : Option PlainMessage) → P (says (Label.Took id) ∷ routes sent)
  pub queued : ToHere o m msg false → plain_kind msg.what ≡ MessageKind.User → P (Says (Line.Queued id) ∷ [])
  pub served : ToHere o m msg false → is_kill (plain_kind msg.what) ≡ false → P (says (Label.Served id) ∷ [])
  pub answers : ToHere o m msg false → is_kill (plain_kind msg.what) ≡ false → (i : MsgId) → P (says (Label.Served id) ∷ Routes i ∷ [])
  pub kills : ToHere o m msg false → is_kill (plain_kind msg.what) ≡ true → P (says (Label.Served id) ∷ ends_with o m msg.to)
  pub moved : ToHere o m msg false → msg.what ≡ PlainWhat.Move m → P (says (Label.Asked id) ∷ answers_move id Outcome.Done)
  pub sets_off : (to : ℕ) → ToHere o m msg false → msg.what ≡ PlainWhat.Move to → (m == to) ≡ false → P (says (Label.Asked id) ∷ leaves_for msg.to to)
  pub gone : To o m msg Unknown → P (says (Label.Gone id) ∷ Routes (answer_id id) ∷ [])
  pub dropped : To o m msg Unknown → P (says (Label.Dropped id) ∷ [])
  pub leaving : (to : ℕ) → To o m msg (Frozen to) → P (Says (Line.Held id) ∷ [])
  pub coming : (from : ℕ) → To o m msg (Incoming from) → P (Says (Line.Held id) ∷ [])
  pub forwarded : (to moves : ℕ) → To o m msg (Forward to moves) → P (forwards_on o.addresses id (plain_kind msg.what) msg.sender to)

by_asked : (P : List Part → Type 0) (b : Boot) (o : Point) (m : ℕ) (id : MsgId) (msg : PlainMessage) (w : PlainWhat) (ps : List Part) → (msg.to.num == 0) ≡ true → Handles P o m id msg → kernel_handles b o m id w ≡ Some ps → P ps
by_asked P b o m id msg (PlainWhat.Create image links) ps fixed h e = search (arith, given)
by_asked P b o m id msg _ ps fixed h e = none_some ps e

by_board : (P : List Part → Type 0) (id : MsgId) (t : Option board.BoardTook) (ps : List Part) → ((sent : Option PlainMessage) → P (says (Label.Took id) ∷ routes sent)) → board_took id t ≡ Some ps → P ps
by_board P id None ps h e = none_some ps e
by_board P id (Some t) ps h e = given P (says (Label.Took id) ∷ routes t.answer) ps (h t.answer) e

by_manager : (P : List Part → Type 0) (id : MsgId) (t : Option manage.ManagerTook) (ps : List Part) → ((sent : Option PlainMessage) → P (says (Label.Took id) ∷ routes sent)) → manager_parts id t ≡ Some ps → P ps
by_manager P id None ps h e = none_some ps e
by_manager P id (Some t) ps h e = given P (says (Label.Took id) ∷ routes t.message) ps (h t.message) e

by_lands : (P : List Part → Type 0) (id : MsgId) (l : Option pieces.Landed) (ps : List Part) → P (says (Label.Served id) ∷ []) → ((i : MsgId) → P (says (Label.Served id) ∷ Routes i ∷ [])) → rule.landing_parts id l ≡ Some ps → P ps
by_lands P id l ps h1 h2 h3 = search (arith, given)

by_here : (P : List Part → Type 0) (o : Point) (m : ℕ) (id : MsgId) (msg : PlainMessage) (x : PlainProcess) (w : PlainWhat) (ps : List Part) → msg.what ≡ w → ToHere o m msg false → Handles P o m id msg → here_handles o m id msg x w ≡ Some ps → P ps
by_here P o m id msg x w ps h1 h2 h3 h4 = search (arith, given, by_lands)

by_ended : (P : List Part → Type 0) (o : Point) (m : ℕ) (id : MsgId) (msg : PlainMessage) (w : PlainWhat) (ps : List Part) → To o m msg Unknown → Handles P o m id msg → ended_handles id w ≡ Some ps → P ps
by_ended P o m id msg w ps h1 h2 h3 = search (arith, given)

pub neither : (c d : Bool) → c ≡ false → d ≡ false → (c || d) ≡ false
neither c d h k = grind (arith, nat_tests)

by_own : (P : List Part → Type 0) (o : Point) (m : ℕ) (id : MsgId) (msg : PlainMessage) (d g : Bool) (ps : List Part) → pid_eq msg.to switchboard ≡ d → pid_eq msg.to manager ≡ g → To o m msg Here → Handles P o m id msg
    → (if d then board_took id (board.board_takes o.kernel.switchboard msg msg.what) else if g then manager_parts id (manage.manager_takes o.kernel.manager o.kernel.machines (length o.kernel.images) msg msg.what)
    else bind (kernel.alive (o.kernel.processes msg.to)) (λ x. here_handles o m id msg x msg.what)) ≡ Some ps → P ps
by_own P o m id msg true g ps first any to h e =
    by_board P id (board.board_takes o.kernel.switchboard msg msg.what) ps (h.took (record { known = to.known; kernel = to.kernel; process = or_left (pid_eq msg.to switchboard) (pid_eq msg.to manager) first })) e
by_own P o m id msg false true ps off second to h e =
    by_manager P id (manage.manager_takes o.kernel.manager o.kernel.machines (length o.kernel.images) msg msg.what) ps (h.took (record { known = to.known; kernel = to.kernel; process = or_right (pid_eq msg.to switchboard) (pid_eq msg.to manager) second })) e
by_own P o m id msg false false ps off others to h e =
    let (x, alive, is) = bind-is (kernel.alive (o.kernel.processes msg.to)) (λ x. here_handles o m id msg x msg.what) ps e in
    by_here P o m id msg x msg.what ps refl (record { known = to.known; kernel = to.kernel; process = neither (pid_eq msg.to switchboard) (pid_eq msg.to manager) off others }) h is

by_process : (P : List Part → Type 0) (o : Point) (m : ℕ) (id : MsgId) (msg : PlainMessage) (k : Known) (ps : List Part) → To o m msg k → Handles P o m id msg → process_handles o m id msg k ≡ Some ps → P ps
by_process P o m id msg Here ps to h e = by_own P o m id msg (pid_eq msg.to switchboard) (pid_eq msg.to manager) ps refl refl to h e
by_process P o m id msg (Frozen at) ps to h e = given P (Says (Line.Held id) ∷ []) ps (h.leaving at to) e
by_process P o m id msg (Incoming from) ps to h e = given P (Says (Line.Held id) ∷ []) ps (h.coming from to) e
by_process P o m id msg (Forward at moves) ps to h e = given P (forwards_on o.addresses id (plain_kind msg.what) msg.sender at) ps (h.forwarded at moves to) e
by_process P o m id msg Unknown ps to h e = by_ended P o m id msg msg.what ps to h e

by_receiver : (P : List Part → Type 0) (b : Boot) (o : Point) (m : ℕ) (id : MsgId) (msg : PlainMessage) (c : Bool) (ps : List Part) → (msg.to.num == 0) ≡ c → Handles P o m id msg
    → (if c then kernel_handles b o m id msg.what else process_handles o m id msg (o.view.known m msg.to)) ≡ Some ps → P ps
by_receiver P b o m id msg true ps kernel_ h e = by_asked P b o m id msg msg.what ps kernel_ h e
by_receiver P b o m id msg false ps kernel_ h e = by_process P o m id msg (o.view.known m msg.to) ps (record { known = refl; kernel = kernel_ }) h e

pub by_handles : (P : List Part → Type 0) (b : Boot) (o : Point) (m : ℕ) (id : MsgId) (msg : PlainMessage) (ps : List Part) → Handles P o m id msg → rule.handles b o m id msg ≡ Some ps → P ps
by_handles P b o m id msg ps h e = by_receiver P b o m id msg (msg.to.num == 0) ps refl h e

-- a message goes on, and its sender may be told
pub by_forwards : (P : List Part → Type 0) (a : Addresses) (id : MsgId) (k : MessageKind) (sender : Pid) (to : ℕ) → P (Says (Line.Forwarded id to) ∷ Again id to ∷ [])
    → P (Says (Line.Forwarded id to) ∷ Again id to ∷ Owns MessageKind.Update sender (a (Sender id)).at ∷ []) → P (forwards_on a id k sender to)
by_forwards P a id k sender to h1 h2 = search arith

-- what follows an end: each message of the queue is dropped, and then the kernels of other machines are told
drops_kept : (L : List Part → Type 0) → ((i : MsgId) (ps : List Part) → L ps → L (says (Label.Dropped i) ∷ ps)) → (ids : List MsgId) (ps : List Part) → L ps → L (drop_parts ids ++ ps)
drops_kept L drop [] ps h = h
drops_kept L drop (i ∷ is) ps h = drop i (drop_parts is ++ ps) (drops_kept L drop is ps h)

pub buries_kept : (L : List Part → Type 0) → L [] → ((to : ℕ) (ps : List Part) → L ps → L (to_kernel MessageKind.Bury to ∷ ps)) → (ms : List ℕ) → L (map (to_kernel MessageKind.Bury) ms)
buries_kept L none tell [] = none
buries_kept L none tell (m ∷ ms) = tell m (map (to_kernel MessageKind.Bury) ms) (buries_kept L none tell ms)

pub ends_kept : (L : List Part → Type 0) → L [] → ((i : MsgId) (ps : List Part) → L ps → L (says (Label.Dropped i) ∷ ps)) → ((to : ℕ) (ps : List Part) → L ps → L (to_kernel MessageKind.Bury to ∷ ps)) → (o : Point) (m : ℕ) (p : Pid)
    → L (ends_with o m p)
ends_kept L none drop tell o m p = drops_kept L drop (o.view.queue m p) (buries o m p) (buries_kept L none tell (preds_of o m p))

-- what holds of parts that only say labels, route messages, and tell others of an end
pub record Loose (L : List Part → Type 0) : Type 0 where
  pub none : L []
  pub label : (l : Label) (ps : List Part) → L ps → L (says l ∷ ps)
  pub routes : (i : MsgId) (ps : List Part) → L ps → L (Routes i ∷ ps)
  pub buries : (to : ℕ) (ps : List Part) → L ps → L (to_kernel MessageKind.Bury to ∷ ps)

pub loose_ends : (L : List Part → Type 0) → Loose L → (o : Point) (m : ℕ) (p : Pid) → L (ends_with o m p)
loose_ends L c o m p = ends_kept L c.none (λ i. c.label (Label.Dropped i)) c.buries o m p

pub loose_sent : (L : List Part → Type 0) → Loose L → (sent : Option PlainMessage) → L (routes sent)
loose_sent L c None = c.none
loose_sent L c (Some m) = c.routes m.id [] c.none

pub loose_round : (L : List Part → Type 0) → Loose L → (b : Boot) (o : Point) (m : ℕ) (q : Option Pid) (ps : List Part) → L (Says (Line.Idle m) ∷ []) → goes_round b o m q ≡ Some ps → L ps
loose_round L c b o m q ps idle = by_round L b o m q ps idle (λ p x is alive. record {
  runs = λ k rest h. c.label (Label.Ran p k) rest (h L (record {
    over = c.none;
    replies = λ n r. c.label (Label.Call p n r) [] c.none;
    sends = λ id. c.label (Label.Send p id) (Routes id ∷ []) (c.routes id [] c.none);
    waits = c.label (Label.Wait p) [] c.none;
    outputs = λ word. c.label (Label.Out p word) [] c.none;
    ends = λ y. c.label (Label.End p y) (ends_with o m p) (loose_ends L c o m p);
  }));
  takes = λ mask id stands. c.label (Label.Receive p id) [] c.none;
  refuses = λ id r. c.label (Label.Refuse p id r) [] c.none;
})

-- a message of the bag, where only these rows say more
pub loose_handles : (P L : List Part → Type 0) → Loose L → ((ps : List Part) → L ps → P ps) → (b : Boot) (o : Point) (m : ℕ) (id : MsgId) (msg : PlainMessage) (ps : List Part) → (ToHere o m msg false → P (Says (Line.Queued id) ∷ [])) → P (Says (Line.Held id) ∷ [])
    → ((to : ℕ) → ToHere o m msg false → msg.what ≡ PlainWhat.Move to → (m == to) ≡ false → P (says (Label.Asked id) ∷ leaves_for msg.to to))
    → ((to moves : ℕ) → To o m msg (Forward to moves) → P (forwards_on o.addresses id (plain_kind msg.what) msg.sender to)) → rule.handles b o m id msg ≡ Some ps → P ps
loose_handles P L c up b o m id msg ps queued held leaves forwarded =
    let one : (l : Label) → P (says l ∷ []) = λ l. up (says l ∷ []) (c.label l [] c.none) in
    let routed : (l : Label) (i : MsgId) → P (says l ∷ Routes i ∷ []) = λ l i. up (says l ∷ Routes i ∷ []) (c.label l (Routes i ∷ []) (c.routes i [] c.none)) in
    by_handles P b o m id msg ps (record {
      created = λ fixed. routed (Label.Created id (pid_of m (first_number + o.kernel.made m))) (answer_id id);
      no_space = λ fixed slots blocks. routed (Label.NoSpace id slots blocks) (answer_id id);
      took = λ fixed sent. up (says (Label.Took id) ∷ routes sent) (c.label (Label.Took id) (routes sent) (loose_sent L c sent));
      queued = λ to user. queued to;
      served = λ to mild. one (Label.Served id);
      answers = λ to mild i. routed (Label.Served id) i;
      kills = λ to kills. up (says (Label.Served id) ∷ ends_with o m msg.to) (c.label (Label.Served id) (ends_with o m msg.to) (loose_ends L c o m msg.to));
      moved = λ to is. up (says (Label.Asked id) ∷ answers_move id Outcome.Done) (c.label (Label.Asked id) (answers_move id Outcome.Done) (c.label (Label.Answered id Outcome.Done) (Routes (answer_id id) ∷ []) (c.routes (answer_id id) [] c.none)));
      sets_off = leaves;
      gone = λ to. routed (Label.Gone id) (answer_id id);
      dropped = λ to. one (Label.Dropped id);
      leaving = λ n to. held;
      coming = λ n to. held;
      forwarded = forwarded;
    })
