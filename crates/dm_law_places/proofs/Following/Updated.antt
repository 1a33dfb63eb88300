-- The holders of a process or a server that is told where another process is: their addresses follow where they know fewer moves.
use Rattle.dm_law_places.proofs.Names.{◌≡◌, ℕ, zero, suc, ◌==◌, Bool, true, false, List, [], ◌∷◌, map, refl, ap, ◌∙◌, sym, subst, inl, inr, if◌then◌else◌, nat_lt, option_map, slice_get, Option, None, Some, cases_Bool, slice_get-map, Pid, arith}
use Rattle.dm_law_places.proofs.Names.{nat_tests, Addr, Link, pid_eq, place_of, relocated, retargeted, retargeted_link, plain_link, link_at, plain_map_retargeted, applied, status_after, MsgId, Process, Status, Line, manager, switchboard}
use Rattle.dm_law_places.proofs.Names.{Manager, NamedLink, OneKernel, plain_process, plain_status, Named, retargeted_named, Pending, plain_child, plain_pending, retargeted_manager, retargeted_pending, child_address, pending_request, pid_eq-is}
use Rattle.dm_law_places.proofs.Names.{pid_eq-same, pid_eq-swap, About, Told, View, view_after, Addresses, Answer, Child, Holder, Name, Owner, Slot, ToBoard, belongs_to, leads_to, link_target, owner_in, updated, updated_to, Point, PlainProcess, moved}
use Rattle.dm_law_places.proofs.Names.{SameMessage, SameProcess, Placed, Mirrors, MirrorsProcess, owner_at, MirrorsPoint, with_process, AnswerNames, option_and_then, none_some}
use Rattle.dm_link.specs.Places as places
use Rattle.dm_onekernel.specs.Kernel as one
use Rattle.dm_onekernel.specs.Manager as manage
use Rattle.dm_onekernel.specs.Step as kernel
use Rattle.dm_switchboard.proofs.Plain as board
use Rattle.dm_procman.proofs.Plain as managing
use Rattle.dm_law_rule.specs.Addresses as addresses
use Rattle.dm_law_places.proofs.Keeps.{answer_as, message_same, of_map, process_same}
use Rattle.dm_law_places.proofs.Following.Followed.{kernel_process_again}
use Rattle.dm_law_places.proofs.Lines.{mirrors_view}

-- the addresses after
abbrev pub told_of : OneKernel → Addresses → Pid → Pid → ℕ → ℕ → Addresses
told_of s a q r at moves h = updated_to s a (Some q) (Some (r, record { at = at; moves = moves })) h

-- an address of the holders that leads somewhere
pub behind_led : (s : OneKernel) (a : Addresses) (q r : Pid) (moves : ℕ) (h : Holder) (o : Addr) → belongs_to q h ≡ true → leads_to s h ≡ Some o.pid → a h ≡ place_of o → addresses.is_behind s a q r moves h ≡ places.is_behind r moves o
behind_led s a q r moves h o belongs leads place = grind (arith, nat_tests, pid_eq-swap)

follows_if : (at moves : ℕ) (o : Addr) (b : Bool) → (if b then record { at = at; moves = moves } else place_of o) ≡ place_of (if b then relocated at moves o else o)
follows_if at moves o b = grind (arith, nat_tests)

pub led : (s : OneKernel) (a : Addresses) (q r : Pid) (at moves : ℕ) (h : Holder) (o : Addr) → belongs_to q h ≡ true → leads_to s h ≡ Some o.pid → a h ≡ place_of o → told_of s a q r at moves h ≡ place_of (retargeted r at moves o)
led s a q r at moves h o belongs leads place = grind (arith, nat_tests, behind_led, follows_if)

-- the others keep theirs
pub unled : (s : OneKernel) (a : Addresses) (q r : Pid) (at moves : ℕ) (h : Holder) → belongs_to q h ≡ false → told_of s a q r at moves h ≡ a h
unled s a q r at moves h off = grind (arith, nat_tests, nat_lt)

others_keep : (s : OneKernel) (a : Addresses) (q r : Pid) (at moves : ℕ) (p : Pid) → pid_eq p q ≡ false → SameProcess a (told_of s a q r at moves) p
others_keep s a q r at moves p off = record { slot = λ k. unled s a q r at moves (Slot p k) off; owner = unled s a q r at moves (Owner p) off }

messages_keep : (s : OneKernel) (a : Addresses) (q r : Pid) (at moves : ℕ) (i : MsgId) → SameMessage a (told_of s a q r at moves) i
messages_keep s a q r at moves i = record { receiver = refl; sender = refl; enclosed = λ k. refl }

-- the slots of a table
pub slots_map : {A B : Type 0} (f : A → B) (ts : List (Option A)) (k : ℕ) → link_at (map (option_map f) ts) k ≡ option_map f (link_at ts k)
slots_map f [] k = refl
slots_map f (t ∷ ts) zero = refl
slots_map f (t ∷ ts) (suc k) = slots_map f ts k

pub alive_is : (s : OneKernel) (v : View) (a : Addresses) (l : Placed) (q : Pid) (x : Process) → Mirrors s v a l → l.processes q ≡ Some x → kernel.alive (s.processes q) ≡ Some (plain_process x)
alive_is s v a l q x h there = h.plain.processes q ∙ ap (option_map plain_process) there

pub slot_leads : (s : OneKernel) (q : Pid) (x : Process) (k : ℕ) (o : Option Link) → kernel.alive (s.processes q) ≡ Some (plain_process x) → link_at x.table k ≡ o → leads_to s (Slot q k) ≡ link_target (option_map plain_link o)
slot_leads s q x k o alive there = grind (arith, nat_tests, slots_map)

owner_follows : (s : OneKernel) (a : Addresses) (q r : Pid) (at moves : ℕ) (st : Status) (o : Addr) → leads_to s (Owner q) ≡ owner_in (plain_status st) → ((p : Addr) → owner_at st ≡ Some p → a (Owner q) ≡ place_of p)
    → owner_at (status_after r at moves st) ≡ Some o → told_of s a q r at moves (Owner q) ≡ place_of o
owner_follows s a q r at moves st o h1 h2 h3 = search (arith, led, pid_eq-same)

told_process : (s : OneKernel) (v : View) (a : Addresses) (q r : Pid) (at moves : ℕ) (x : Process) → kernel.alive (s.processes q) ≡ Some (plain_process x) → MirrorsProcess v a q x
    → MirrorsProcess v (told_of s a q r at moves) q (applied r at moves x)
told_process s v a q r at moves x alive h = record {
  pid = h.pid;
  moves = h.moves;
  slots = λ k w e.
      let (u, there, is) = of_map (retargeted_link r at moves) (link_at x.table k) w (sym e ∙ slots_map (retargeted_link r at moves) x.table k) in
      led s a q r at moves (Slot q k) u.addr (pid_eq-same q) (slot_leads s q x k (Some u) alive there) (h.slots k u there) ∙ ap (λ (z : Link). place_of z.addr) is;
  owner = λ o e. owner_follows s a q r at moves x.status o (ap (option_and_then (λ (x : PlainProcess). owner_in x.status)) alive) h.owner e;
}

plain_status_after : (r : Pid) (at moves : ℕ) (st : Status) → plain_status (status_after r at moves st) ≡ plain_status st
plain_status_after r at moves st = search arith

process_places : (s : OneKernel) (v : View) (a : Addresses) (l : Placed) (q r : Pid) (at moves : ℕ) (x : Process) (p : Pid) (z : Process) → Mirrors s v a l → l.processes q ≡ Some x → (with_process l q (Some (applied r at moves x))).processes p ≡ Some z
    → MirrorsProcess v (told_of s a q r at moves) p z
process_places s v a l q r at moves x p z h there e = elim (cases_Bool (pid_eq q p)) [
  | inl same ↦
      let y = applied r at moves x in
      let f : Some y ≡ Some z = sym (ap (λ (c : Bool). if c then Some y else l.processes p) same) ∙ e in
      let g : y ≡ z = cc in
      subst (MirrorsProcess v (told_of s a q r at moves) p) g
      (subst (λ (w : Pid). MirrorsProcess v (told_of s a q r at moves) w y) (pid_eq-is q p same) (told_process s v a q r at moves x (alive_is s v a l q x h there) (h.places.process q x there)))
  | inr apart ↦
      let f : l.processes p ≡ Some z = sym (ap (λ (c : Bool). if c then Some (applied r at moves x) else l.processes p) apart) ∙ e in
      process_same v a (told_of s a q r at moves) p z (others_keep s a q r at moves p (pid_eq-swap p q ∙ apart)) (h.places.process p z f)
]

pub process_told : (s : OneKernel) (v : View) (a : Addresses) (l : Placed) (q r : Pid) (at moves : ℕ) (x : Process) → pid_eq q switchboard ≡ false → pid_eq q manager ≡ false → l.processes q ≡ Some x → Mirrors s v a l
    → Mirrors s v (told_of s a q r at moves) (with_process l q (Some (applied r at moves x)))
process_told s v a l q r at moves x no_board no_manager there h =
    let g = h.places in
    record {
      plain = kernel_process_again s l q x (applied r at moves x) there (search (plain_map_retargeted, plain_status_after)) h.plain;
      places = record {
        process = λ p z e. process_places s v a l q r at moves x p z h there e;
        message = λ i m e. message_same a (told_of s a q r at moves) i m (messages_keep s a q r at moves i) (g.message i m e);
        name = λ n k e. unled s a q r at moves (Name n) no_board ∙ g.name n k e;
        child = λ n c e. unled s a q r at moves (Child n) no_manager ∙ g.child n c e;
        answer = λ n y e. answer_as y.answer (unled s a q r at moves (Answer n) no_manager) (g.answer n y e);
        asker = g.asker;
        board = unled s a q r at moves ToBoard no_manager ∙ g.board;
        board_moves = g.board_moves;
        manager_moves = g.manager_moves;
      };
    }

-- a process that isn't there
absent : (l : Placed) (q p : Pid) (z : Process) → l.processes q ≡ None → l.processes p ≡ Some z → pid_eq p q ≡ false
absent l q p z none there = grind (arith, nat_tests, pid_eq-is)

pub ended_told : (s : OneKernel) (v : View) (a : Addresses) (l : Placed) (q r : Pid) (at moves : ℕ) → pid_eq q switchboard ≡ false → pid_eq q manager ≡ false → l.processes q ≡ None → Mirrors s v a l → Mirrors s v (told_of s a q r at moves) l
ended_told s v a l q r at moves no_board no_manager none h = search (arith, process_same, others_keep, absent, message_same, messages_keep, unled, answer_as)

-- the switchboard
pub name_leads : (s : OneKernel) (v : View) (a : Addresses) (l : Placed) (n : ℕ) (k : Named) → Mirrors s v a l → slice_get l.board.names n ≡ Some k → leads_to s (Name n) ≡ Some k.link.addr.pid
name_leads s v a l n k h there = grind (arith, nat_tests, slice_get, slice_get-map, option_map)

abbrev pub board_told : Placed → Pid → ℕ → ℕ → Placed
board_told l r at moves = record l { board = record l.board { names = map (retargeted_named r at moves) l.board.names } }

pub switchboard_told : (s : OneKernel) (v : View) (a : Addresses) (l : Placed) (r : Pid) (at moves : ℕ) → l.processes switchboard ≡ None → Mirrors s v a l → Mirrors s v (told_of s a switchboard r at moves) (board_told l r at moves)
switchboard_told s v a l r at moves none h =
    let g = h.places in
    let q = switchboard in
    let names = board.plain_retargeted r at moves l.board.names in
    record {
      plain = search (ap (λ (ns : List NamedLink). record { names = ns; sent = l.board.sent }) names ∙ h.plain.board);
      places = record {
        process = λ p z e. process_same v a (told_of s a q r at moves) p z (others_keep s a q r at moves p (absent l q p z none e)) (g.process p z e);
        message = λ i m e. message_same a (told_of s a q r at moves) i m (messages_keep s a q r at moves i) (g.message i m e);
        name = λ n k e.
            let (u, there, is) = of_map (retargeted_named r at moves) (slice_get l.board.names n) k (sym e ∙ slice_get-map (retargeted_named r at moves) l.board.names n) in
            led s a q r at moves (Name n) u.link.addr refl (name_leads s v a l n u h there) (g.name n u there) ∙ ap (λ (z : Named). place_of z.link.addr) is;
        child = g.child;
        answer = g.answer;
        asker = g.asker;
        board = g.board;
        board_moves = g.board_moves;
        manager_moves = g.manager_moves;
      };
    }

-- the manager
pub child_leads : (s : OneKernel) (v : View) (a : Addresses) (l : Placed) (n : ℕ) (c : Addr) → Mirrors s v a l → child_address l.manager.children n ≡ Some c → leads_to s (Child n) ≡ Some c.pid
child_leads s v a l zero c h there = none_some c there
child_leads s v a l (suc n) c h there =
    ap (λ (g : Manager). manage.child_numbered g.children (suc n)) (sym h.plain.manager) ∙ slice_get-map plain_child l.manager.children n ∙ ap (option_map plain_child) there

pub answer_leads : (s : OneKernel) (v : View) (a : Addresses) (l : Placed) (n : ℕ) (y : Pending) → Mirrors s v a l → pending_request n l.manager.pending ≡ Some y → leads_to s (Answer n) ≡ link_target (option_map plain_link y.answer)
answer_leads s v a l n y h there =
    ap (λ (g : Manager). link_target (option_and_then (λ (r : one.Pending). r.answer) (manage.pending_numbered n g.pending))) (sym h.plain.manager)
    ∙ ap (λ (o : Option one.Pending). link_target (option_and_then (λ r. r.answer) o)) (managing.plain_pending_numbered n l.manager.pending ∙ ap (option_map plain_pending) there)

pending_if : (r : Pid) (at moves n : ℕ) (y : Pending) (ys : List Pending) (b : Bool) → pending_request n (map (retargeted_pending r at moves) ys) ≡ option_map (retargeted_pending r at moves) (pending_request n ys)
    → (if b then Some (retargeted_pending r at moves y) else pending_request n (map (retargeted_pending r at moves) ys)) ≡ option_map (retargeted_pending r at moves) (if b then Some y else pending_request n ys)
pending_if r at moves n y ys b h1 = grind (arith, nat_tests)

pending_map : (r : Pid) (at moves n : ℕ) (ys : List Pending) → pending_request n (map (retargeted_pending r at moves) ys) ≡ option_map (retargeted_pending r at moves) (pending_request n ys)
pending_map r at moves n [] = refl
pending_map r at moves n (y ∷ ys) = pending_if r at moves n y ys (y.n == n) (pending_map r at moves n ys)

child_follows : (s : OneKernel) (v : View) (a : Addresses) (l : Placed) (r : Pid) (at moves n : ℕ) (c : Addr) → Mirrors s v a l → child_address (map (retargeted r at moves) l.manager.children) n ≡ Some c → told_of s a manager r at moves (Child n) ≡ place_of c
child_follows s v a l r at moves zero c h e = none_some c e
child_follows s v a l r at moves (suc n) c h e =
    let (u, there, is) = of_map (retargeted r at moves) (slice_get l.manager.children n) c (sym e ∙ slice_get-map (retargeted r at moves) l.manager.children n) in
    led s a manager r at moves (Child (suc n)) u refl (child_leads s v a l (suc n) u h there) (h.places.child (suc n) u there) ∙ ap place_of is

retargeted_names : (s : OneKernel) (a : Addresses) (r : Pid) (at moves n : ℕ) (o : Option Link) → leads_to s (Answer n) ≡ link_target (option_map plain_link o) → AnswerNames o (a (Answer n))
    → AnswerNames (option_map (retargeted_link r at moves) o) (told_of s a manager r at moves (Answer n))
retargeted_names s a r at moves n o h1 h2 = search (arith, led)

answer_follows : (s : OneKernel) (v : View) (a : Addresses) (l : Placed) (r : Pid) (at moves n : ℕ) (y : Pending) → Mirrors s v a l → pending_request n (map (retargeted_pending r at moves) l.manager.pending) ≡ Some y
    → AnswerNames y.answer (told_of s a manager r at moves (Answer n))
answer_follows s v a l r at moves n y h e =
    let (u, there, is) = of_map (retargeted_pending r at moves) (pending_request n l.manager.pending) y (sym e ∙ pending_map r at moves n l.manager.pending) in
    subst (λ (z : Pending). AnswerNames z.answer (told_of s a manager r at moves (Answer n))) is (retargeted_names s a r at moves n u.answer (answer_leads s v a l n u h there) (h.places.answer n u there))

-- where the switchboard is
retargeted_pid : (r : Pid) (at moves : ℕ) (o : Addr) → (retargeted r at moves o).pid ≡ o.pid
retargeted_pid r at moves o = grind (arith, nat_tests)

pub board_leads : (s : OneKernel) (v : View) (a : Addresses) (l : Placed) → Mirrors s v a l → leads_to s ToBoard ≡ Some l.manager.board.pid
board_leads s v a l h = ap Some (sym h.plain.to_board)

board_follows : (s : OneKernel) (v : View) (a : Addresses) (l : Placed) (r : Pid) (at moves : ℕ) → Mirrors s v a l → told_of s a manager r at moves ToBoard ≡ place_of (retargeted r at moves l.manager.board)
board_follows s v a l r at moves h = led s a manager r at moves ToBoard l.manager.board refl (board_leads s v a l h) h.places.board

abbrev pub manager_told : Placed → Pid → ℕ → ℕ → Placed
manager_told l r at moves = record l { manager = retargeted_manager r at moves l.manager }

pub children_told : (s : OneKernel) (v : View) (a : Addresses) (l : Placed) (r : Pid) (at moves : ℕ) → l.processes manager ≡ None → Mirrors s v a l → Mirrors s v (told_of s a manager r at moves) (manager_told l r at moves)
children_told s v a l r at moves none h =
    let g = h.places in
    let q = manager in
    record {
      plain = search (managing.plain_retargeted r at moves l.manager ∙ h.plain.manager, retargeted_pid r at moves l.manager.board ∙ h.plain.to_board);
      places = (search (arith, process_same, others_keep, absent, message_same, messages_keep, child_follows, answer_follows, board_follows));
    }

-- the line
updated_is : (s : OneKernel) (v : View) (a : Addresses) (id : MsgId) (t : Told) (q r : Pid) (at moves : ℕ) → v.told id ≡ Some t → t.about ≡ About.Place r at moves → t.receiver ≡ q → updated s v a (v.told id) ≡ told_of s a q r at moves
updated_is s v a id t q r at moves told about to = grind (arith, nat_tests)

line_told : (pt : Point) (l : Placed) (id : MsgId) (n : ℕ) (t : Told) (q r : Pid) (at moves : ℕ) → pt.view.told id ≡ Some t → t.about ≡ About.Place r at moves → t.receiver ≡ q → Mirrors pt.kernel pt.view (told_of pt.kernel pt.addresses q r at moves) l
    → MirrorsPoint (moved pt (Line.Updated id n) pt.kernel) l
line_told pt l id n t q r at moves told about to h =
    let w = view_after pt.view (Line.Updated id n) in
    subst (λ (b : Addresses). Mirrors pt.kernel w b l) (sym (updated_is pt.kernel pt.view pt.addresses id t q r at moves told about to))
    (mirrors_view pt.kernel pt.view w (told_of pt.kernel pt.addresses q r at moves) l refl h)

pub updated_mirrors : (pt : Point) (l : Placed) (id : MsgId) (n : ℕ) (t : Told) (r : Pid) (at moves : ℕ) (x : Process) → MirrorsPoint pt l → pt.view.told id ≡ Some t → t.about ≡ About.Place r at moves → pid_eq t.receiver switchboard ≡ false → pid_eq t.receiver manager ≡ false
    → l.processes t.receiver ≡ Some x → MirrorsPoint (moved pt (Line.Updated id n) pt.kernel) (with_process l t.receiver (Some (applied r at moves x)))
updated_mirrors pt l id n t r at moves x h told about no_board no_manager there =
    line_told pt (with_process l t.receiver (Some (applied r at moves x))) id n t t.receiver r at moves told about refl
    (process_told pt.kernel pt.view pt.addresses l t.receiver r at moves x no_board no_manager there h)

-- at a process that has ended
pub updated_ended_mirrors : (pt : Point) (l : Placed) (id : MsgId) (n : ℕ) (t : Told) (r : Pid) (at moves : ℕ) → MirrorsPoint pt l → pt.view.told id ≡ Some t → t.about ≡ About.Place r at moves → pid_eq t.receiver switchboard ≡ false → pid_eq t.receiver manager ≡ false
    → l.processes t.receiver ≡ None → MirrorsPoint (moved pt (Line.Updated id n) pt.kernel) l
updated_ended_mirrors pt l id n t r at moves h told about no_board no_manager none = search (arith, line_told, ended_told)

-- at the servers, which are no processes
pub updated_board_mirrors : (pt : Point) (l : Placed) (id : MsgId) (n : ℕ) (t : Told) (r : Pid) (at moves : ℕ) → MirrorsPoint pt l → pt.view.told id ≡ Some t → t.about ≡ About.Place r at moves → t.receiver ≡ switchboard → l.processes switchboard ≡ None
    → MirrorsPoint (moved pt (Line.Updated id n) pt.kernel) (board_told l r at moves)
updated_board_mirrors pt l id n t r at moves h told about to none = search (arith, line_told, switchboard_told)

pub updated_manager_mirrors : (pt : Point) (l : Placed) (id : MsgId) (n : ℕ) (t : Told) (r : Pid) (at moves : ℕ) → MirrorsPoint pt l → pt.view.told id ≡ Some t → t.about ≡ About.Place r at moves → t.receiver ≡ manager → l.processes manager ≡ None
    → MirrorsPoint (moved pt (Line.Updated id n) pt.kernel) (manager_told l r at moves)
updated_manager_mirrors pt l id n t r at moves h told about to none = search (arith, line_told, children_told)
