-- Messages that follow a process to another machine, and the process that has come there.
use Rattle.dm_law_places.proofs.Names.{◌≡◌, ℕ, ◌+◌, ◌≤◌, ◌||◌, Bool, true, List, [], ◌∷◌, ◌++◌, refl, ap, ◌∙◌, sym, subst, inl, inr, arith, if◌then◌else◌, option_map, Option, None, Some, cases_Bool, Pid, Place, place_of, MsgId, nat_tests}
use Rattle.dm_law_places.proofs.Names.{Message, id_eq, Process, sent_on, OneKernel, plain_process, id_eq-is, id_eq-same, id_eq-swap, pid_eq-is, pid_eq-same, Line, Stage, at_pid, times, Forward, Frozen, Told, View, forwarded_for, handled}
use Rattle.dm_law_places.proofs.Names.{own_id, receiver_of, view_after, Addresses, Gets, Receiver, Sender, all_follow, forwards, gets, given, is_told_back, place_known, told_back_gets, unmoved, Point, moved, Placed, Mirrors, MirrorsKernel, false}
use Rattle.dm_law_places.proofs.Names.{MirrorsProcess, with_message, with_process, MirrorsPoint, is_among, sent_all, or_first, Known, Incoming, pid_eq, switchboard, manager}
use Rattle.dm_onekernel.specs.Step as kernel
use Rattle.dm_law_places.proofs.Following.Changed.{free_mirrors, free_off, sent_on_any, sent_on_one}
use Rattle.dm_law_places.proofs.Lines.{mirrors_view}

-- forwarded: the message goes on, and the next message of the kernel gets the places of an update
pub moves_forwarded : (v : View) (o : Option Pid) → (forwarded_for v o).moves ≡ v.moves
moves_forwarded v o = grind (arith, nat_tests)

pub tells_mirrors : (s : OneKernel) (v : View) (a : Addresses) (l : Placed) (id : MsgId) (b : Bool) → l.bag (own_id v) ≡ None → Mirrors s v a l → Mirrors s v (given a (told_back_gets v a id b)) l
tells_mirrors s v a l id b h1 h2 = search (arith, free_mirrors)

-- the address in full
forwards_is : (v : View) (a : Addresses) (id : MsgId) (t : Told) (at moves : ℕ) → v.told id ≡ Some t → v.known v.acting t.receiver ≡ Forward at moves
    → forwards v a id (v.told id) ≡ gets (Receiver id) (record { at = at; moves = moves }) ∷ told_back_gets v a id (is_told_back t.kind)
forwards_is v a id t at moves told knows = grind (arith, nat_tests)

pub forwarded_mirrors : (pt : Point) (l : Placed) (id : MsgId) (x : Message) (t : Told) (m at moves : ℕ) → MirrorsPoint pt l → l.bag id ≡ Some x → pt.view.told id ≡ Some t → pt.view.known pt.view.acting t.receiver ≡ Forward at moves
    → l.bag (own_id pt.view) ≡ None → MirrorsPoint (moved pt (Line.Forwarded id m) pt.kernel) (with_message l id (Some (sent_on at moves x)))
forwarded_mirrors pt l id x t m at moves h there told knows none =
    let v = pt.view in
    let a = pt.addresses in
    let l' = with_message l id (Some (sent_on at moves x)) in
    let w = view_after v (Line.Forwarded id m) in
    let gone = sent_on_one pt.kernel v (given a (told_back_gets v a id (is_told_back t.kind))) l id x at moves there (tells_mirrors pt.kernel v a l id (is_told_back t.kind) none h) in
    subst (λ (g : List Gets). Mirrors pt.kernel w (given a g) l') (sym (forwards_is v a id t at moves told knows))
    (mirrors_view pt.kernel v w (given a (gets (Receiver id) (record { at = at; moves = moves }) ∷ told_back_gets v a id (is_told_back t.kind))) l' (moves_forwarded (handled v id) (receiver_of (v.told id))) gone)

-- the update goes to where the message came from
pub update_gets : (pt : Point) (l : Placed) (id : MsgId) (x : Message) (t : Told) (m at moves : ℕ) → MirrorsPoint pt l → l.bag id ≡ Some x → pt.view.told id ≡ Some t → pt.view.known pt.view.acting t.receiver ≡ Forward at moves
    → l.bag (own_id pt.view) ≡ None → is_told_back t.kind ≡ true
    → ((moved pt (Line.Forwarded id m) pt.kernel).addresses (Receiver (own_id pt.view)) ≡ place_of x.sender) × ((moved pt (Line.Forwarded id m) pt.kernel).addresses (Sender (own_id pt.view)) ≡ unmoved pt.view.acting)
update_gets pt l id x t m at moves h there told knows none back = grind (arith, nat_tests, forwards_is, id_eq-swap, free_off, id_eq-same)

-- sent on: all of these messages
onward : Place → List MsgId → List Gets
onward place [] = []
onward place (i ∷ is) = gets (Receiver i) place ∷ onward place is

all_onward : (v : View) (a : Addresses) (p : Pid) (place : Place) (ids : List MsgId) → ((before : Place) → place_known (v.known v.acting p) (v.moves p) before ≡ place) → all_follow v a p ids ≡ onward place ids
unfolding onward
all_onward v a p place [] knows = refl
all_onward v a p place (i ∷ is) knows =
    let rest = all_onward v a p place is knows in λ c. gets (Receiver i) (knows (a (Receiver i)) c) ∷ rest c

more_bag : (l : Placed) (at moves : ℕ) (i : MsgId) (is : List MsgId) (j : MsgId) → (with_message (sent_all l at moves is) i (option_map (sent_on at moves) (l.bag i))).bag j ≡ (sent_all l at moves (i ∷ is)).bag j
more_bag l at moves i is j = grind (arith, nat_tests, option_map, id_eq-is)

one_more : (l : Placed) (at moves : ℕ) (i : MsgId) (is : List MsgId) → with_message (sent_all l at moves is) i (option_map (sent_on at moves) (l.bag i)) ≡ sent_all l at moves (i ∷ is)
one_more l at moves i is = λ c. record l { bag = λ j. more_bag l at moves i is j c }

-- what goes on twice stands where it stood
on_twice : (at moves : ℕ) (b : Bool) (o : Option Message) → option_map (sent_on at moves) (if b then option_map (sent_on at moves) o else o) ≡ option_map (sent_on at moves) o
on_twice at moves b o = search arith

all_on : (s : OneKernel) (v : View) (a : Addresses) (l : Placed) (at moves : ℕ) (ids : List MsgId) → Mirrors s v a l → Mirrors s v (given a (onward (record { at = at; moves = moves }) ids)) (sent_all l at moves ids)
unfolding onward
all_on s v a l at moves [] h = h
all_on s v a l at moves (i ∷ is) h =
    let place : Place = record { at = at; moves = moves } in
    let before = all_on s v a l at moves is h in
    let k = sent_all l at moves is in
    let on = sent_on_any s v (given a (onward place is)) k i (k.bag i) place refl before in
    subst (λ (m : Placed). Mirrors s v (given a (onward place (i ∷ is))) m) (ap (with_message k i) (on_twice at moves (is_among i is) (l.bag i)) ∙ one_more l at moves i is) on

-- the queue, then what was held
pub sent_on_mirrors : (pt : Point) (l : Placed) (p : Pid) (n to : ℕ) → MirrorsPoint pt l → pt.view.known pt.view.acting p ≡ Frozen to
    → MirrorsPoint (moved pt (Line.SentOn p n) pt.kernel) (sent_all l to (pt.view.moves p + 1) (pt.view.queue pt.view.acting p ++ pt.view.held pt.view.acting p))
sent_on_mirrors pt l p n to h knows =
    let v = pt.view in
    let a = pt.addresses in
    let ids = v.queue v.acting p ++ v.held v.acting p in
    let l' = sent_all l to (v.moves p + 1) ids in
    let w = view_after v (Line.SentOn p n) in
    let place : Place = record { at = to; moves = v.moves p + 1 } in
    subst (λ (g : List Gets). Mirrors pt.kernel w (given a g) l') (sym (all_onward v a p place ids (λ before. ap (λ (k : Known). place_known k (v.moves p) before) knows)))
    (mirrors_view pt.kernel v w (given a (onward place ids)) l' refl (all_on pt.kernel v a l to (v.moves p + 1) ids h))

-- what was held goes back
pub called_mirrors : (pt : Point) (l : Placed) (p : Pid) (n from : ℕ) → MirrorsPoint pt l → pt.view.known pt.view.acting p ≡ Incoming from → MirrorsPoint (moved pt (Line.Called p n) pt.kernel) (sent_all l from (pt.view.moves p) (pt.view.held pt.view.acting p))
called_mirrors pt l p n from h knows =
    let v = pt.view in
    let a = pt.addresses in
    let ids = v.held v.acting p in
    let l' = sent_all l from (v.moves p) ids in
    let w = view_after v (Line.Called p n) in
    let place : Place = record { at = from; moves = v.moves p } in
    subst (λ (g : List Gets). Mirrors pt.kernel w (given a g) l') (sym (all_onward v a p place ids (λ before. ap (λ (k : Known). place_known k (v.moves p) before) knows)))
    (mirrors_view pt.kernel v w (given a (onward place ids)) l' refl (all_on pt.kernel v a l from (v.moves p) ids h))

pub among_times : (i : MsgId) (ids : List MsgId) → 1 ≤ times i ids → is_among i ids ≡ true
among_times i [] e = absurd (omega arith)
among_times i (j ∷ js) e = elim (cases_Bool (id_eq j i)) [
  | inl same ↦ ap (λ (c : Bool). c || is_among i js) same
  | inr apart ↦
      let f : times i (j ∷ js) ≡ 0 + times i js = ap (λ (c : Bool). (if c then 1 else 0) + times i js) (id_eq-swap i j ∙ apart) in
      let g : 1 ≤ times i js = omega (arith, f, e) in or_first (id_eq j i) (is_among i js) (among_times i js g)
]

-- restarted: the process has moved once more
alive_again : (s : OneKernel) (l : Placed) (p : Pid) (x y : Process) (q : Pid) → l.processes p ≡ Some x → plain_process y ≡ plain_process x → MirrorsKernel s l → kernel.alive (s.processes q) ≡ option_map plain_process ((with_process l p (Some y)).processes q)
alive_again s l p x y q there same h = grind (arith, nat_tests, pid_eq-is, option_map)

-- a process that means the same
pub kernel_process_again : (s : OneKernel) (l : Placed) (p : Pid) (x y : Process) → l.processes p ≡ Some x → plain_process y ≡ plain_process x → MirrorsKernel s l → MirrorsKernel s (with_process l p (Some y))
kernel_process_again s l p x y there same h = search alive_again

-- a process that has come has moved once more, and nothing waits for it
abbrev pub come_on : Process → Process
come_on x = record x { moves = x.moves + 1; queue = [] }

moved_places : (v w : View) (a : Addresses) (l : Placed) (p : Pid) (x : Process) (q : Pid) (z : Process) → w.moves ≡ at_pid v.moves p (v.moves p + 1) → l.processes p ≡ Some x → ((r : Pid) (y : Process) → l.processes r ≡ Some y → MirrorsProcess v a r y)
    → (with_process l p (Some (come_on x))).processes q ≡ Some z → MirrorsProcess w a q z
moved_places v w a l p x q z counts there h e = search (arith, pid_eq-same, pid_eq-is)

-- how often a server has moved, where one of this name has moved once more
count_moved : (v : View) (p q : Pid) (n : ℕ) → n ≡ v.moves q → (if pid_eq p q then n + 1 else n) ≡ at_pid v.moves p (v.moves p + 1) q
count_moved v p q n same = elim (cases_Bool (pid_eq p q)) [
  | inl is ↦
      ap (λ (c : Bool). if c then n + 1 else n) is ∙ ap (λ (k : ℕ). k + 1) (same ∙ ap v.moves (sym (pid_eq-is p q is)))
      ∙ sym (ap (λ (c : Bool). if c then v.moves p + 1 else v.moves q) is)
  | inr apart ↦ ap (λ (c : Bool). if c then n + 1 else n) apart ∙ same ∙ sym (ap (λ (c : Bool). if c then v.moves p + 1 else v.moves q) apart)
]

abbrev pub server_moved : Pid → Placed → Placed
server_moved p l =
    record l {
      board = record l.board { moves = if pid_eq p switchboard then l.board.moves + 1 else l.board.moves };
      manager = record l.manager { moves = if pid_eq p manager then l.manager.moves + 1 else l.manager.moves };
    }

-- what is no server leaves the servers as they are
pub server_stays : (p : Pid) (l : Placed) → pid_eq p switchboard ≡ false → pid_eq p manager ≡ false → server_moved p l ≡ l
server_stays p l no_board no_manager = λ i. record l {
  board = record l.board { moves = (if no_board i then l.board.moves + 1 else l.board.moves) };
  manager = record l.manager { moves = (if no_manager i then l.manager.moves + 1 else l.manager.moves) };
}

pub restarted_mirrors : (pt : Point) (l : Placed) (p : Pid) (x : Process) → MirrorsPoint pt l → l.processes p ≡ Some x → MirrorsPoint (moved pt (Line.Migration Stage.Restarted p) pt.kernel) (server_moved p (with_process l p (Some (come_on x))))
restarted_mirrors pt l p x h there =
    let v = pt.view in
    let w = view_after v (Line.Migration Stage.Restarted p) in
    let g = h.places in
    let k = kernel_process_again pt.kernel l p x (come_on x) there refl h.plain in
    record {
      plain = record { processes = k.processes; bag = k.bag; notes = k.notes; noted = k.noted; board = k.board; manager = k.manager; machines = k.machines; images = k.images; to_board = k.to_board };
      places = record {
        process = λ q z e. moved_places v w pt.addresses l p x q z refl there g.process e;
        message = g.message;
        name = g.name;
        child = g.child;
        answer = g.answer;
        asker = g.asker;
        board = g.board;
        board_moves = count_moved v p switchboard l.board.moves g.board_moves;
        manager_moves = count_moved v p manager l.manager.moves g.manager_moves;
      };
    }

-- a process that is no server
pub process_restarted : (pt : Point) (l : Placed) (p : Pid) (x : Process) → (pid_eq p switchboard || pid_eq p manager) ≡ false → MirrorsPoint pt l → l.processes p ≡ Some x → MirrorsPoint (moved pt (Line.Migration Stage.Restarted p) pt.kernel) (with_process l p (Some (come_on x)))
process_restarted pt l p x other h there =
    let no_board : pid_eq p switchboard ≡ false = grind (arith, nat_tests) in
    let no_manager : pid_eq p manager ≡ false = grind (arith, nat_tests) in
    subst (MirrorsPoint (moved pt (Line.Migration Stage.Restarted p) pt.kernel)) (server_stays p (with_process l p (Some (come_on x))) no_board no_manager) (restarted_mirrors pt l p x h there)

-- of one that isn't there only its count rises
absent_comes : (v : View) (p q : Pid) (l : Placed) (x : Process) → l.processes p ≡ None → l.processes q ≡ Some x → (if pid_eq p q then v.moves p + 1 else v.moves q) ≡ v.moves q
absent_comes v p q l x none there = grind (arith, nat_tests, pid_eq-is)

absent_places : (v w : View) (a : Addresses) (l : Placed) (p q : Pid) (x : Process) → w.moves ≡ at_pid v.moves p (v.moves p + 1) → l.processes p ≡ None → l.processes q ≡ Some x → MirrorsProcess v a q x → MirrorsProcess w a q x
absent_places v w a l p q x counts none there h = record {
  pid = h.pid;
  moves = h.moves ∙ sym (ap (λ (f : Pid → ℕ). f q) counts ∙ absent_comes v p q l x none there);
  slots = h.slots;
  owner = h.owner;
}

pub absent_moved : (pt : Point) (l : Placed) (p : Pid) → l.processes p ≡ None → MirrorsPoint pt l → MirrorsPoint (moved pt (Line.Migration Stage.Restarted p) pt.kernel) (server_moved p l)
absent_moved pt l p none h =
    let v = pt.view in
    let w = view_after v (Line.Migration Stage.Restarted p) in
    let k = h.plain in
    let g = h.places in
    record {
      plain = record { processes = k.processes; bag = k.bag; notes = k.notes; noted = k.noted; board = k.board; manager = k.manager; machines = k.machines; images = k.images; to_board = k.to_board };
      places = record {
        process = λ q x e. absent_places v w pt.addresses l p q x refl none e (g.process q x e);
        message = g.message;
        name = g.name;
        child = g.child;
        answer = g.answer;
        asker = g.asker;
        board = g.board;
        board_moves = count_moved v p switchboard l.board.moves g.board_moves;
        manager_moves = count_moved v p manager l.manager.moves g.manager_moves;
      };
    }
