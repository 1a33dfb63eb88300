-- What a step with places leaves as it is.
use Rattle.dm_law_places.proofs.Names.{◌≡◌, ℕ, Bool, true, false, List, refl, ap, sym, subst, if◌then◌else◌, slice_get, Option, None, Some, false≢true, Pid, pid_eq, MsgId, Message, What, Process, begun_process, instruction, Format, BootImage}
use Rattle.dm_law_places.proofs.Names.{Label, manager, slots_of, switchboard, bind, memory_of, slots_with, Landed, Landing, landing, after_serving, answer, gone_answer, serving_answer, Completion, bind-is, Placed, Acted, acted, acts}
use Rattle.dm_law_places.proofs.Names.{after_landing, board_took, completed, creates, lands, manager_took, ran, running, serves, takes, with_acted, with_child, with_process, with_sent, without_message, Changes, StepsChangeLittle, changed}
use Rattle.dm_law_places.proofs.Names.{is_named, receiver_in, taken, taken_out, answers, Asker, ends_move, moved_answer, without_note, arith, none_some}
use Rattle.dm_switchboard.specs.Taking as board
use Rattle.dm_procman.specs.Taking as manage

-- a process set, and a message sent or none
kept_process : (l : Placed) (p : Pid) (x : Option Process) (o : Option Message) (q : Pid) → pid_eq p q ≡ false → (with_sent (with_process l p x) o).processes q ≡ l.processes q
kept_process l p x o q h1 = search arith

kept_bag : (l : Placed) (p : Pid) (x : Option Process) (o : Option Message) (i : MsgId) → (with_sent (with_process l p x) o).bag i ≡ (with_sent l o).bag i
kept_bag l p x o i = search arith

kept_notes : (l : Placed) (o : Option Message) (q : Pid) → (with_sent l o).notes q ≡ l.notes q
kept_notes l o q = search arith

kept_noted : (l : Placed) (o : Option Message) (i : MsgId) → (with_sent l o).noted i ≡ l.noted i
kept_noted l o i = search arith

pub kept_board : (l : Placed) (o : Option Message) → (with_sent l o).board ≡ l.board
kept_board l o = search arith

pub kept_manager : (l : Placed) (o : Option Message) → (with_sent l o).manager ≡ l.manager
kept_manager l o = search arith

pub kept_processes : (l : Placed) (o : Option Message) (q : Pid) → (with_sent l o).processes q ≡ l.processes q
kept_processes l o q = search arith

-- what a step leaves that changes a process, if any, and takes a message, if any
record Leaves (l : Placed) (p : Option Pid) (id : Option MsgId) (m : Placed) : Type 0 where
  processes : (q : Pid) → is_named p q ≡ false → m.processes q ≡ l.processes q
  sent : Option Message
  bag : (i : MsgId) → m.bag i ≡ (with_sent (taken_out l id) sent).bag i
  board : m.board ≡ l.board
  manager : m.manager ≡ l.manager
  notes : (q : Pid) → m.notes q ≡ l.notes q
  noted : (i : MsgId) → m.noted i ≡ l.noted i

sets : (l : Placed) (p : Pid) (x : Option Process) (o : Option Message) → Leaves l (Some p) None (with_sent (with_process l p x) o)
sets l p x o = record {
  processes = kept_process l p x o;
  sent = o;
  bag = kept_bag l p x o;
  board = kept_board (with_process l p x) o;
  manager = kept_manager (with_process l p x) o;
  notes = kept_notes (with_process l p x) o;
  noted = kept_noted (with_process l p x) o;
}

sets_and_takes : (l : Placed) (id : MsgId) (p : Pid) (x : Option Process) (o : Option Message) → Leaves l (Some p) (Some id) (with_sent (with_process (without_message l id) p x) o)
sets_and_takes l id p x o = record {
  processes = kept_process (without_message l id) p x o;
  sent = o;
  bag = kept_bag (without_message l id) p x o;
  board = kept_board (with_process (without_message l id) p x) o;
  manager = kept_manager (with_process (without_message l id) p x) o;
  notes = kept_notes (with_process (without_message l id) p x) o;
  noted = kept_noted (with_process (without_message l id) p x) o;
}

only_takes : (l : Placed) (id : MsgId) (o : Option Message) → Leaves l None (Some id) (with_sent (without_message l id) o)
only_takes l id o = record {
  processes = λ q e. kept_processes (without_message l id) o q;
  sent = o;
  bag = λ i. refl;
  board = kept_board (without_message l id) o;
  manager = kept_manager (without_message l id) o;
  notes = kept_notes (without_message l id) o;
  noted = kept_noted (without_message l id) o;
}

leaves : (l : Placed) (e : Label) (m : Placed) → Leaves l (changed l e) (taken e) m → Changes l e m
leaves l e m h = record { processes = h.processes; sent = h.sent; bag = h.bag; board = λ k. h.board; manager = λ k. h.manager; notes = λ k. h.notes; noted = λ k. h.noted }

ran_leaves : (l m : Placed) (p : Pid) (k : ℕ) → ran l p k ≡ Some m → Leaves l (Some p) None m
ran_leaves l m p k e = search (arith, bind-is, sets)

acts_leaves : (here : ℕ) (l m : Placed) (p : Pid) → acts here l p ≡ Some m → Leaves l (Some p) None m
acts_leaves here l m p e =
    let (x, runs, rest) = bind-is (running l p) (λ (y : Process). bind (acted here y (instruction y.regs y.memory)) (λ (w : Acted). Some (with_acted l p w))) m e in
    let (w, acts, last) = bind-is (acted here x (instruction x.regs x.memory)) (λ (w : Acted). Some (with_acted l p w)) m rest in
    let f : with_acted l p w ≡ m = cc in subst (Leaves l (Some p) None) f (sets l p w.process w.message)

lands_leaves : (here : ℕ) (l m : Placed) (id : MsgId) (n : Message) (x : Process) → lands here (without_message l id) n x ≡ Some m → Leaves l (Some n.to.pid) (Some id) m
lands_leaves here l m id n x e =
    let (d, is, last) = bind-is (landing here x n.what x.status) (λ (d : Landing). Some (after_landing (without_message l id) n.to.pid d.landed d.process)) m e in
    let f : after_landing (without_message l id) n.to.pid d.landed d.process ≡ m = cc in
    subst (Leaves l (Some n.to.pid) (Some id)) f (elim d.landed as (λ d_. Leaves l (Some n.to.pid) (Some id) (after_landing (without_message l id) n.to.pid d_ d.process))
    [ Landed.Next n_ ↦ sets_and_takes l id n.to.pid (Some d.process) (Some n_) | Landed.Done c ↦ sets_and_takes l id n.to.pid (Some d.process) None ])

answers_leaves : (here : ℕ) (l m : Placed) (id : MsgId) (n : Message) (x : Process) → answers here (without_message l id) n x ≡ Some m → Leaves l (Some n.to.pid) (Some id) m
answers_leaves here l m id n x e =
    let y = after_serving x n.what in
    let (a, is, last) = bind-is (serving_answer here x n) (λ (a : Message). Some (with_sent (with_process (without_message l id) n.to.pid (Some y)) (Some a))) m e in
    let f : with_sent (with_process (without_message l id) n.to.pid (Some y)) (Some a) ≡ m = cc in
    subst (Leaves l (Some n.to.pid) (Some id)) f (sets_and_takes l id n.to.pid (Some y) (Some a))

goes_leaves : (l m : Placed) (id : MsgId) (p : Pid) (x : Option Process) → Some (with_process (without_message l id) p x) ≡ Some m → Leaves l (Some p) (Some id) m
goes_leaves l m id p x e = let f : with_process (without_message l id) p x ≡ m = cc in subst (Leaves l (Some p) (Some id)) f (sets_and_takes l id p x None)

serves_leaves : (here : ℕ) (l m : Placed) (id : MsgId) (n : Message) (x : Process) (w : What) → serves here (without_message l id) n x w ≡ Some m → Leaves l (Some n.to.pid) (Some id) m
serves_leaves here l m id n x What.Stop e = goes_leaves l m id n.to.pid (Some (record x { stopped = true })) e
serves_leaves here l m id n x What.Resume e = goes_leaves l m id n.to.pid (Some (record x { stopped = false })) e
serves_leaves here l m id n x What.Kill e = goes_leaves l m id n.to.pid None e
serves_leaves here l m id n x (What.Read base len) e = answers_leaves here l m id n x e
serves_leaves here l m id n x (What.Write base bytes) e = answers_leaves here l m id n x e
serves_leaves here l m id n x (What.Block bytes) e = lands_leaves here l m id n x e
serves_leaves here l m id n x What.Written e = lands_leaves here l m id n x e
serves_leaves here l m id n x What.Gone e = lands_leaves here l m id n x e
serves_leaves here l m id n x w e = none_some m e

creates_leaves : (here : ℕ) (f : Format) (images : List BootImage) (l m : Placed) (id : MsgId) (n : Message) (child : Pid) (w : What) → creates here f images (without_message l id) n child w ≡ Some m → Leaves l (Some child) (Some id) m
creates_leaves here f images l m id n child (What.Create number links) e =
    let a = answer here 0 n (What.Created child) in
    let (i, is, last) = bind-is (slice_get images number) (λ (i : BootImage). Some (with_sent (with_child (without_message l id) f child i links.items) (Some a))) m e in
    let g : with_sent (with_child (without_message l id) f child i links.items) (Some a) ≡ m = cc in
    subst (Leaves l (Some child) (Some id)) g (sets_and_takes l id child (Some (begun_process child (memory_of i) (slots_with (slots_of f) links.items))) (Some a))
creates_leaves here f images l m id n child w e = none_some m e

-- the servers
record Serves (l : Placed) (id : MsgId) (m : Placed) : Type 0 where
  processes : (q : Pid) → m.processes q ≡ l.processes q
  sent : Option Message
  bag : (i : MsgId) → m.bag i ≡ (with_sent (without_message l id) sent).bag i
  notes : (q : Pid) → m.notes q ≡ l.notes q
  noted : (i : MsgId) → m.noted i ≡ l.noted i

with_board : (l : Placed) (b : _) (o : Option Message) (i : MsgId) → (with_sent (record l { board = b }) o).bag i ≡ (with_sent l o).bag i
with_board l b o i = search arith

with_manager : (l : Placed) (g : _) (o : Option Message) (i : MsgId) → (with_sent (record l { manager = g }) o).bag i ≡ (with_sent l o).bag i
with_manager l g o i = search arith

takes_if : (here : ℕ) (l m : Placed) (id : MsgId) (n : Message) (b c : Bool)
    → (if b then bind (board.takes here l.board n.what) (λ (t : board.Taken). Some (board_took (without_message l id) t)) else if c then bind (manage.takes here l.manager n.id.n n.what) (λ (t : manage.Taken). Some (manager_took (without_message l id) t)) else None) ≡ Some m
    → Serves l id m
takes_if here l m id n true c e =
    let (t, is, last) = bind-is (board.takes here l.board n.what) (λ (t : board.Taken). Some (board_took (without_message l id) t)) m e in
    let f : board_took (without_message l id) t ≡ m = cc in
    subst (Serves l id) f
    (let u = record (without_message l id) { board = t.board } in
    record { processes = kept_processes u t.took.answer; sent = t.took.answer; bag = with_board (without_message l id) t.board t.took.answer; notes = kept_notes u t.took.answer; noted = kept_noted u t.took.answer })
takes_if here l m id n false true e =
    let (t, is, last) = bind-is (manage.takes here l.manager n.id.n n.what) (λ (t : manage.Taken). Some (manager_took (without_message l id) t)) m e in
    let f : manager_took (without_message l id) t ≡ m = cc in
    subst (Serves l id) f
    (let u = record (without_message l id) { manager = t.manager } in
    record { processes = kept_processes u t.message; sent = t.message; bag = with_manager (without_message l id) t.manager t.message; notes = kept_notes u t.message; noted = kept_noted u t.message })
takes_if here l m id n false false e = none_some m e

pub steps_change_little : StepsChangeLittle
steps_change_little here f images l m (Label.Ran p k) e = leaves l (Label.Ran p k) m (ran_leaves l m p k e)
steps_change_little here f images l m (Label.Call p n c) e = leaves l (Label.Call p n c) m (acts_leaves here l m p e)
steps_change_little here f images l m (Label.Send p id) e = leaves l (Label.Send p id) m (acts_leaves here l m p e)
steps_change_little here f images l m (Label.Wait p) e = leaves l (Label.Wait p) m (acts_leaves here l m p e)
steps_change_little here f images l m (Label.Out p w) e = leaves l (Label.Out p w) m (acts_leaves here l m p e)
steps_change_little here f images l m (Label.End p y) e = leaves l (Label.End p y) m (acts_leaves here l m p e)
steps_change_little here f images l m (Label.Receive p id) e =
    let (d, is, last) = bind-is (completed l p id) (λ (d : Completion). Some (with_process (without_message l id) p (Some d.process))) m e in
    leaves l (Label.Receive p id) m (goes_leaves l m id p (Some d.process) last)
steps_change_little here f images l m (Label.Refuse p id c) e =
    let (d, is, last) = bind-is (completed l p id) (λ (d : Completion). Some (with_process l p (Some d.process))) m e in
    search (arith, leaves, sets)
steps_change_little here f images l m (Label.Dropped id) e =
    let g : without_message l id ≡ m = cc in leaves l (Label.Dropped id) m (subst (Leaves l None (Some id)) g (only_takes l id None))
steps_change_little here f images l m (Label.Served id) e =
    let (n, found, rest) = bind-is (l.bag id) (λ (n : Message). bind (l.processes n.to.pid) (λ (x : Process). serves here (without_message l id) n x n.what)) m e in
    let (x, stands, last) = bind-is (l.processes n.to.pid) (λ (x : Process). serves here (without_message l id) n x n.what) m rest in
    leaves l (Label.Served id) m (subst (λ (p : Option Pid). Leaves l p (Some id) m) (ap receiver_in (sym found)) (serves_leaves here l m id n x n.what last))
steps_change_little here f images l m (Label.Gone id) e =
    let (n, found, last) = bind-is (l.bag id) (λ (n : Message). Some (with_sent (without_message l id) (Some (gone_answer here n)))) m e in
    let g : with_sent (without_message l id) (Some (gone_answer here n)) ≡ m = cc in
    leaves l (Label.Gone id) m (subst (Leaves l None (Some id)) g (only_takes l id (Some (gone_answer here n))))
steps_change_little here f images l m (Label.Took id) e =
    let (n, found, rest) = bind-is (l.bag id) (takes here (without_message l id)) m e in
    let h = takes_if here l m id n (pid_eq n.to.pid switchboard) (pid_eq n.to.pid manager) rest in
    record { processes = λ q k. h.processes q; sent = h.sent; bag = h.bag; board = λ k. absurd (false≢true (sym k)); manager = λ k. absurd (false≢true (sym k)); notes = λ k. h.notes; noted = λ k. h.noted }
steps_change_little here f images l m (Label.Created id child) e =
    let (n, found, last) = bind-is (l.bag id) (λ (n : Message). creates here f images (without_message l id) n child n.what) m e in
    leaves l (Label.Created id child) m (creates_leaves here f images l m id n child n.what last)
steps_change_little here f images l m (Label.NoSpace id slots blocks) e =
    let (n, found, last) = bind-is (l.bag id) (λ (n : Message). Some (with_sent (without_message l id) (Some (answer here 0 n What.NoRoom)))) m e in
    let g : with_sent (without_message l id) (Some (answer here 0 n What.NoRoom)) ≡ m = cc in
    leaves l (Label.NoSpace id slots blocks) m (subst (Leaves l None (Some id)) g (only_takes l id (Some (answer here 0 n What.NoRoom))))
steps_change_little here f images l m (Label.Asked id) e = search (arith, bind-is)
steps_change_little here f images l m (Label.Answered id o) e =
    let (p, found, rest) = bind-is (l.noted id) (λ (q : Pid). ends_move here l id q o) m e in
    let (k, waits, more) = bind-is (l.notes p) (λ (w : Asker). bind (l.processes p) (λ (x : Process). Some (with_sent (without_note l p id) (Some (moved_answer here x o w))))) m rest in
    let (x, stands, last) = bind-is (l.processes p) (λ (y : Process). Some (with_sent (without_note l p id) (Some (moved_answer here y o k)))) m more in
    let a = moved_answer here x o k in
    let g : with_sent (without_note l p id) (Some a) ≡ m = cc in
    subst (Changes l (Label.Answered id o)) g
    (record { processes = λ q k. refl; sent = Some a; bag = λ i. refl; board = λ k. refl; manager = λ k. refl; notes = λ k. absurd (false≢true (sym k)); noted = λ k. absurd (false≢true (sym k)) })
