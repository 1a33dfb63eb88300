-- What the manager keeps and sends is lawful.
use Rattle.dm_procman.proofs.Names.{◌≡◌, ◌≤◌, ℕ, zero, suc, ◌+◌, ◌*◌, Bool, true, false, ◌==◌, ◌&&◌, nat_lt, nat_le, if◌then◌else◌, List, [], ◌∷◌, ◌++◌, length, map, slice_get, refl, sym, subst, ap, ◌∙◌, arith, common_steps, All-map}
use Rattle.dm_procman.proofs.Names.{All-push, All, IfSome, IfOk, OnErr, Option, Result, Ok, Err, Pid, Addr, Link, IsMachine, IsLawfulAddr, IsLawfulEnclosed, pid_eq, is_behind, relocated, retargeted, retargeted_link, NoMemory, Message}
use Rattle.dm_procman.proofs.Names.{MsgId, What, kind_of, IsLawfulMessage, IsLawfulWhat, is_answer, Boot, BootProcess, IsValid, manager, process_is_valid, processes_are_valid, starting_at, switchboard, Pending, IsLawfulManager}
use Rattle.dm_procman.proofs.Names.{IsLawfulPending, Managing, at_home, child_at_home, retargeted_manager, retargeted_pending, starting, answer_over, control_link, message_to, kernel_at, child_named, known_address, asks_to_move, tells_to_move, Taken}
use Rattle.dm_procman.proofs.Names.{answers, asks_for, bad_request, child_address, controls, controls_child, pending_request, requests, sends, settled, takes, takes_created, takes_no_room, takes_user, wants_child, with_pending}
use Rattle.dm_procman.proofs.Names.{without_pending, get_or, ◌<◌, option_map, Outcome, code_of_outcome, PendingKind, answers_over, asks, first_link, takes_moved, wants_move}
use Rattle.std.specs.declared.option.Option.TheVariants.{None, Some}
use Rattle.dm_message.specs.declared.What.TheVariants as what
use Rattle.dm_statebytes.specs.Servers.{IsAddressOf}
use Rattle.dm_procman.specs.Making.{address_at}
use Rattle.dm_procman.proofs.Hearing.{IsHeard, IsUser, IsCreated, IsNoRoom, IsMoved}
use Rattle.dm_onekernel.specs.declared.request.PendingKind.TheVariants as wanted

all_head : {X : Type 0} (P : X → Type 0) (x : X) (xs : List X) → All P (x ∷ xs) → P x
all_head P x xs h = h 0 x (omega arith)

all_tail : {X : Type 0} (P : X → Type 0) (x : X) (xs : List X) → All P (x ∷ xs) → All P xs
all_tail P x xs h = λ k d lt. h (suc k) d (grind (arith, common_steps, lt))

all_none : {X : Type 0} (P : X → Type 0) → All P []
all_none P = λ k d lt. absurd (omega (arith, lt))

all_front : {X : Type 0} (P : X → Type 0) (x : X) (xs : List X) → P x → All P xs → All P (x ∷ xs)
all_front P x xs h t zero d lt = h
all_front P x xs h t (suc k) d lt = t k d (grind (arith, common_steps, lt))

abbrev IsLawfulTaken : Taken → Type 0
IsLawfulTaken t = IsLawfulManager t.manager × IfSome t.message IsLawfulMessage

-- what holds of both choices holds of the choice
either : {A : Type 0} (P : A → Type 0) (b : Bool) (x y : A) → (b ≡ true → P x) → P y → P (if b then x else y)
either P true x y p q = p refl
either P false x y p q = q

module _ (here : ℕ) (machine : here < 16) where
  message_lawful : (moves n : ℕ) (to : Addr) (w : What) → IsLawfulAddr to → false ≡ is_answer (kind_of w) → IsLawfulWhat w → IsLawfulMessage (message_to here moves n to w)
  message_lawful moves n to w a k l = record { from = omega arith; answer = k; to = a; sender = record { home = omega arith; at = omega (arith, machine) }; what = l }

  sends_lawful : (g : Managing) (m : Message) → IsLawfulManager g → IsLawfulMessage m → IsLawfulTaken (sends g m)
  sends_lawful g m l k = (record { children = l.children; pending = l.pending; board = l.board; machines = l.machines }, k)

  answers_lawful : (g : Managing) (l : Link) (code : ℕ) (ls : List Link) → IsLawfulManager g → IsLawfulEnclosed l → length ls ≤ 4 → All IsLawfulEnclosed ls → IsLawfulTaken (answers here g l code ls)
  answers_lawful g l code ls h e few all =
      sends_lawful g (answer_over here g.moves g.sent l code ls) h
      (message_lawful g.moves g.sent l.addr (what.User l.code l.channel (record { items = code ∷ [] }) (record { items = ls })) e.link.addr refl (e.link.channel, omega arith, few, all))

  answers_over_lawful : (g : Managing) (o : Option Link) (code : ℕ) (ls : List Link) → IsLawfulManager g → IfSome o IsLawfulEnclosed → length ls ≤ 4 → All IsLawfulEnclosed ls → IsLawfulTaken (answers_over here g o code ls)
  answers_over_lawful g None code ls h e few all = (h, tt {0})
  answers_over_lawful g (Some l) code ls h e few all = answers_lawful g l code ls h e few all

  bad_lawful : (g : Managing) (ls : List Link) → IsLawfulManager g → All IsLawfulEnclosed ls → IsLawfulTaken (bad_request here g ls)
  bad_lawful g [] h e = (h, tt {0})
  bad_lawful g (l ∷ ls) h e = answers_lawful g l 2 [] h (all_head IsLawfulEnclosed l ls e) (omega arith) (all_none IsLawfulEnclosed)

  asks_lawful : (g : Managing) (kind : PendingKind) (to : Addr) (w : What) (o : Option Link) → IsLawfulManager g → IsLawfulAddr to → false ≡ is_answer (kind_of w) → IsLawfulWhat w → IfSome o IsLawfulEnclosed
      → IsLawfulTaken (asks here g kind to w o)
  asks_lawful g kind to w o h a k l e =
      let r : Pending = record { n = g.sent; kind = kind; answer = o } in
      sends_lawful (with_pending g r) (message_to here g.moves g.sent to w)
      (record { children = h.children; pending = All-push IsLawfulPending g.pending r h.pending e; board = h.board; machines = h.machines })
      (message_lawful g.moves g.sent to w a k l)

  asks_for_lawful : (g : Managing) (m image : ℕ) (l : Link) (ls : List Link) → IsLawfulManager g → m ≤ 15 → length ls ≤ 3 → All IsLawfulEnclosed (l ∷ ls) → IsLawfulTaken (asks_for here g m image l ls)
  asks_for_lawful g m image l ls h lt few e =
      asks_lawful g wanted.Create (kernel_at m) (what.Create image (record { items = ls })) (Some l) h (record { home = lt; at = lt }) refl (few, all_tail IsLawfulEnclosed l ls e) (all_head IsLawfulEnclosed l ls e)

  machine_within : (m n i j : ℕ) → n ≤ 16 → (nat_lt m n && nat_lt i j) ≡ true → m ≤ 15
  machine_within m n i j le t = grind (arith, common_steps, le, t)

  wants_lawful : (g : Managing) (m image : ℕ) (ls : List Link) → IsLawfulManager g → length ls ≤ 4 → All IsLawfulEnclosed ls → IsLawfulTaken (wants_child here g m image ls)
  wants_lawful g m image [] h few e = (h, tt {0})
  wants_lawful g m image (l ∷ ls) h few e =
      either IsLawfulTaken (nat_lt m g.machines && nat_lt image g.images) (asks_for here g m image l ls) (bad_request here g (l ∷ ls))
      (λ t. asks_for_lawful g m image l ls h (machine_within m g.machines image g.images h.machines t) (omega (arith, few)) e)
      (bad_lawful g (l ∷ ls) h e)

  requests_lawful : (g : Managing) (body : List ℕ) (ls : List Link) → IsLawfulManager g → length ls ≤ 4 → All IsLawfulEnclosed ls → IsLawfulTaken (requests here g body ls)
  requests_lawful g [] ls h few e = bad_lawful g ls h e
  requests_lawful g (a ∷ []) ls h few e = bad_lawful g ls h e
  requests_lawful g (a ∷ b ∷ []) ls h few e = bad_lawful g ls h e
  requests_lawful g (a ∷ b ∷ c ∷ []) ls h few e = bad_lawful g ls h e
  requests_lawful g (a ∷ m ∷ i ∷ j ∷ []) ls h few e =
      either IsLawfulTaken (a == 1) (wants_child here g m (256 * i + j) ls) (bad_request here g ls) (λ _. wants_lawful g m (256 * i + j) ls h few e) (bad_lawful g ls h e)
  requests_lawful g (a ∷ b ∷ c ∷ d ∷ x ∷ xs) ls h few e = bad_lawful g ls h e

  abbrev control_by : Bool → Bool → Bool → Option What
  control_by b c d = if b then Some what.Stop else if c then Some what.Resume else if d then Some what.Kill else None

  control_lawful : (g : Managing) (a : Addr) (b c d : Bool) (ls : List Link) → IsLawfulManager g → IsLawfulAddr a → All IsLawfulEnclosed ls → IsLawfulTaken (controls_child here g a (control_by b c d) ls)
  control_lawful g a true c d ls h k e = sends_lawful g (message_to here g.moves g.sent a what.Stop) h (message_lawful g.moves g.sent a what.Stop k refl (tt {0}))
  control_lawful g a false true d ls h k e = sends_lawful g (message_to here g.moves g.sent a what.Resume) h (message_lawful g.moves g.sent a what.Resume k refl (tt {0}))
  control_lawful g a false false true ls h k e = sends_lawful g (message_to here g.moves g.sent a what.Kill) h (message_lawful g.moves g.sent a what.Kill k refl (tt {0}))
  control_lawful g a false false false ls h k e = bad_lawful g ls h e

  first_lawful : (ls : List Link) → All IsLawfulEnclosed ls → IfSome (first_link ls) IsLawfulEnclosed
  first_lawful [] e = tt {0}
  first_lawful (l ∷ ls) e = all_head IsLawfulEnclosed l ls e

  one_within : (m n : ℕ) → n ≤ 16 → nat_lt m n ≡ true → m ≤ 15
  one_within m n le t = grind (arith, common_steps, le, t)

  move_lawful : (g : Managing) (a : Addr) (m : ℕ) (ls : List Link) → IsLawfulManager g → IsLawfulAddr a → All IsLawfulEnclosed ls → IsLawfulTaken (wants_move here g a m ls)
  move_lawful g a m ls h k e =
      either IsLawfulTaken (nat_lt m g.machines) (asks here g wanted.Move a (what.Move m) (first_link ls)) (bad_request here g ls)
      (λ t. asks_lawful g wanted.Move a (what.Move m) (first_link ls) h k refl (one_within m g.machines h.machines t) (first_lawful ls e))
      (bad_lawful g ls h e)

  controls_lawful : (g : Managing) (o : Option Addr) (body : List ℕ) (ls : List Link) → IsLawfulManager g → IfSome o IsLawfulAddr → All IsLawfulEnclosed ls → IsLawfulTaken (controls here g o body ls)
  controls_lawful g None [] ls h k e = bad_lawful g ls h e
  controls_lawful g None (a ∷ []) ls h k e = bad_lawful g ls h e
  controls_lawful g None (a ∷ b ∷ []) ls h k e = bad_lawful g ls h e
  controls_lawful g None (a ∷ b ∷ x ∷ xs) ls h k e = bad_lawful g ls h e
  controls_lawful g (Some c) [] ls h k e = bad_lawful g ls h e
  controls_lawful g (Some c) (a ∷ []) ls h k e = control_lawful g c (a == 2) (a == 3) (a == 4) ls h k e
  controls_lawful g (Some c) (a ∷ m ∷ []) ls h k e =
      either IsLawfulTaken (a == 5) (wants_move here g c m ls) (bad_request here g ls) (λ _. move_lawful g c m ls h k e) (bad_lawful g ls h e)
  controls_lawful g (Some c) (a ∷ b ∷ x ∷ xs) ls h k e = bad_lawful g ls h e

  get_lawful : {X : Type 0} (P : X → Type 0) (xs : List X) (n : ℕ) → All P xs → IfSome (slice_get xs n) P
  get_lawful P [] n h = tt {0}
  get_lawful P (x ∷ xs) zero h = all_head P x xs h
  get_lawful P (x ∷ xs) (suc n) h = get_lawful P xs n (all_tail P x xs h)

  numbered_lawful : (cs : List Addr) (n : ℕ) → All IsLawfulAddr cs → IfSome (child_address cs n) IsLawfulAddr
  numbered_lawful cs zero h = tt {0}
  numbered_lawful cs (suc n) h = get_lawful IsLawfulAddr cs n h

  user_lawful : (g : Managing) (code : ℕ) (body : List ℕ) (ls : List Link) → IsLawfulManager g → length ls ≤ 4 → All IsLawfulEnclosed ls → IsLawfulTaken (takes_user here g code body ls)
  user_lawful g code body ls h few e =
      either IsLawfulTaken (code == 0) (requests here g body ls) (controls here g (child_address g.children code) body ls)
      (λ _. requests_lawful g body ls h few e)
      (controls_lawful g (child_address g.children code) body ls h (numbered_lawful g.children code h.children) e)

  pending_lawful : (n : ℕ) (rs : List Pending) → All IsLawfulPending rs → IfSome (pending_request n rs) IsLawfulPending
  pending_lawful n [] h = tt {0}
  pending_lawful n (r ∷ rs) h = either (λ o. IfSome o IsLawfulPending) (r.n == n) (Some r) (pending_request n rs) (λ _. all_head IsLawfulPending r rs h) (pending_lawful n rs (all_tail IsLawfulPending r rs h))

  others_lawful : (n : ℕ) (rs : List Pending) → All IsLawfulPending rs → All IsLawfulPending (without_pending n rs)
  others_lawful n [] h = h
  others_lawful n (r ∷ rs) h =
      either (All IsLawfulPending) (r.n == n) rs (r ∷ without_pending n rs) (λ _. all_tail IsLawfulPending r rs h)
      (all_front IsLawfulPending r (without_pending n rs) (all_head IsLawfulPending r rs h) (others_lawful n rs (all_tail IsLawfulPending r rs h)))

  settled_lawful : (g : Managing) (n : ℕ) → IsLawfulManager g → IsLawfulManager (settled g n)
  settled_lawful g n h = record { children = h.children; pending = others_lawful n g.pending h.pending; board = h.board; machines = h.machines }

  control_link_lawful : (moves n : ℕ) → IsLawfulEnclosed (control_link here moves n)
  control_link_lawful moves n = record {
    link = record { addr = record { home = omega arith; at = omega (arith, machine) }; channel = omega arith; area = omega arith };
    not_to_kernel = refl;
  }

  created_lawful : (g : Managing) (n : ℕ) (p : Pid) (o : Option Pending) (t : Taken) → takes_created here g n p o ≡ Some t → IsLawfulManager g → IsMachine p.home → IfSome o IsLawfulPending → IsLawfulTaken t
  created_lawful g n p None t e h m k = absurd (cc e)
  created_lawful g n p (Some r) t e h m k =
      let left : Managing = record (settled g n) { children = g.children ++ at_home p ∷ [] } in
      let control : Link = control_link here g.moves (length g.children + 1) in
      let same : answers_over here left r.answer 0 (control ∷ []) ≡ t = cc e in
      let s = settled_lawful g n h in
      subst IsLawfulTaken same (answers_over_lawful left r.answer 0 (control ∷ [])
      (record { children = All-push IsLawfulAddr g.children (at_home p) h.children (record { home = m; at = m }); pending = s.pending; board = s.board; machines = s.machines })
      k (omega arith) (all_front IsLawfulEnclosed control [] (control_link_lawful g.moves (length g.children + 1)) (all_none IsLawfulEnclosed)))

  no_room_lawful : (g : Managing) (n : ℕ) (o : Option Pending) (t : Taken) → takes_no_room here g n o ≡ Some t → IsLawfulManager g → IfSome o IsLawfulPending → IsLawfulTaken t
  no_room_lawful g n None t e h k = absurd (cc e)
  no_room_lawful g n (Some r) t e h k =
      let same : answers_over here (settled g n) r.answer 1 [] ≡ t = cc e in
      subst IsLawfulTaken same (answers_over_lawful (settled g n) r.answer 1 [] (settled_lawful g n h) k (omega arith) (all_none IsLawfulEnclosed))

  moved_lawful : (g : Managing) (n : ℕ) (outcome : Outcome) (o : Option Pending) (t : Taken) → takes_moved here g n outcome o ≡ Some t → IsLawfulManager g → IfSome o IsLawfulPending → IsLawfulTaken t
  moved_lawful g n outcome None t e h k = absurd (cc e)
  moved_lawful g n outcome (Some r) t e h k =
      let same : answers_over here (settled g n) r.answer (code_of_outcome outcome) [] ≡ t = cc e in
      subst IsLawfulTaken same (answers_over_lawful (settled g n) r.answer (code_of_outcome outcome) [] (settled_lawful g n h) k (omega arith) (all_none IsLawfulEnclosed))

  heard_lawful : (g : Managing) (m : Message) (t : Taken) → IsHeard m.what → takes here g m.id.n m.what ≡ Some t → IsLawfulManager g → IsLawfulMessage m → IsLawfulTaken t
  heard_lawful g m t (IsUser code channel body links is) e h l =
      let row : Some (takes_user here g code body.items links.items) ≡ Some t = ap (takes here g m.id.n) (sym is) ∙ e in
      let same : takes_user here g code body.items links.items ≡ t = cc row in
      let w = subst IsLawfulWhat is l.what in
      subst IsLawfulTaken same (user_lawful g code body.items links.items h w.2 w.3)
  heard_lawful g m t (IsCreated p is) e h l = created_lawful g m.id.n p (pending_request m.id.n g.pending) t (ap (takes here g m.id.n) (sym is) ∙ e) h (subst IsLawfulWhat is l.what) (pending_lawful m.id.n g.pending h.pending)
  heard_lawful g m t (IsNoRoom is) e h l = no_room_lawful g m.id.n (pending_request m.id.n g.pending) t (ap (takes here g m.id.n) (sym is) ∙ e) h (pending_lawful m.id.n g.pending h.pending)
  heard_lawful g m t (IsMoved outcome is) e h l =
      moved_lawful g m.id.n outcome (pending_request m.id.n g.pending) t (ap (takes here g m.id.n) (sym is) ∙ e) h (pending_lawful m.id.n g.pending h.pending)

  pub manager_after : (r : Result (Option Message) NoMemory) (old new : Managing) (m : Message) → IsHeard m.what
      → IfOk r (λ sent. takes here old m.id.n m.what ≡ Some (record { manager = new; message = sent })) → OnErr r (new ≡ old)
      → IsLawfulManager old → IsLawfulMessage m → IsLawfulManager new
  manager_after (Err e) old new m is h same l k = subst IsLawfulManager (sym same) l
  manager_after (Ok sent) old new m is h same l k = (heard_lawful old m (record { manager = new; message = sent }) is h l k).0

  pub message_after : (r : Result (Option Message) NoMemory) (old new : Managing) (m : Message) → IsHeard m.what
      → IfOk r (λ sent. takes here old m.id.n m.what ≡ Some (record { manager = new; message = sent }))
      → IsLawfulManager old → IsLawfulMessage m → IfOk r (λ sent. IfSome sent IsLawfulMessage)
  message_after (Err e) old new m is h l k = h
  message_after (Ok sent) old new m is h l k = (heard_lawful old m (record { manager = new; message = sent }) is h l k).1

-- a manager that is told of another place
addr_either : (behind : Bool) (at moves : ℕ) (a : Addr) → IsMachine at → IsLawfulAddr a → IsLawfulAddr (if behind then relocated at moves a else a)
addr_either true at moves a m l = record { home = l.home; at = m }
addr_either false at moves a m l = l

addr_lawful : (about : Pid) (at moves : ℕ) (a : Addr) → IsMachine at → IsLawfulAddr a → IsLawfulAddr (retargeted about at moves a)
addr_lawful about at moves a m l = addr_either (is_behind about moves a) at moves a m l

link_lawful : (about : Pid) (at moves : ℕ) (x : Link) → IsMachine at → IsLawfulEnclosed x → IsLawfulEnclosed (retargeted_link about at moves x)
link_lawful about at moves x m l =
    record {
      link = record { addr = addr_lawful about at moves x.addr m l.link.addr; channel = l.link.channel; area = l.link.area };
      not_to_kernel = l.not_to_kernel;
    }

answer_lawful : (about : Pid) (at moves : ℕ) (o : Option Link) → IsMachine at → IfSome o IsLawfulEnclosed → IfSome (option_map (retargeted_link about at moves) o) IsLawfulEnclosed
answer_lawful about at moves None m l = l
answer_lawful about at moves (Some x) m l = link_lawful about at moves x m l

board_either : (behind : Bool) (at moves : ℕ) (a : Addr) → IsMachine at → IsAddressOf switchboard a → IsAddressOf switchboard (if behind then relocated at moves a else a)
board_either true at moves a m l = record { pid = l.pid; at = m }
board_either false at moves a m l = l

board_lawful : (about : Pid) (at moves : ℕ) (a : Addr) → IsMachine at → IsAddressOf switchboard a → IsAddressOf switchboard (retargeted about at moves a)
board_lawful about at moves a m l = board_either (is_behind about moves a) at moves a m l

pub retargeted_lawful : (about : Pid) (at moves : ℕ) (g : Managing) → IsMachine at → IsLawfulManager g → IsLawfulManager (retargeted_manager about at moves g)
retargeted_lawful about at moves g m h = record {
  children = All-map IsLawfulAddr (retargeted about at moves) g.children (λ k d lt. addr_lawful about at moves _ m (h.children k d lt));
  pending = All-map IsLawfulPending (retargeted_pending about at moves) g.pending (λ k d lt. answer_lawful about at moves (get_or g.pending k d).answer m (h.pending k d lt));
  board = board_lawful about at moves g.board m h.board;
  machines = h.machines;
}

-- the manager of a valid boot file
both_true : (a b : Bool) → (a && b) ≡ true → (a ≡ true) × (b ≡ true)
both_true true true h = (refl, refl)
both_true true false h = absurd (cc h)
both_true false b h = absurd (cc h)

home_within : (m n : ℕ) → nat_lt m n ≡ true → nat_le n 16 ≡ true → m ≤ 15
home_within m n h le = grind (arith, common_steps, h, le)

count_within : (n : ℕ) → nat_le n 16 ≡ true → n ≤ 16
count_within n le = grind (arith, common_steps, le)

starts_lawful : (b : Boot) (earlier ps : List BootProcess) → nat_le (length b.machines) 16 ≡ true → processes_are_valid b earlier ps ≡ true → All IsLawfulAddr (map child_at_home ps)
starts_lawful b earlier [] few h = all_none IsLawfulAddr
starts_lawful b earlier (p ∷ ps) few h =
    let parts = both_true (process_is_valid b (starting_at p.pid.home earlier) p) (processes_are_valid b (earlier ++ p ∷ []) ps) h in
    let home = home_within p.pid.home (length b.machines) (both_true (nat_lt p.pid.home (length b.machines)) _ parts.0).0 few in
    all_front IsLawfulAddr (child_at_home p) (map child_at_home ps) (record { home = home; at = home }) (starts_lawful b (earlier ++ p ∷ []) ps few parts.1)

starting_lawful : (b : Boot) → IsValid b → IsLawfulManager (starting b)
starting_lawful b v = record {
  children = starts_lawful b [] b.processes v.few_machines v.processes;
  pending = all_none IsLawfulPending;
  board = record { pid = refl; at = omega arith };
  machines = count_within (length b.machines) v.few_machines;
}

pub started_lawful : (r : Result Managing NoMemory) (b : Boot) → IsValid b → IfOk r (λ g. g ≡ starting b) → IfOk r IsLawfulManager
started_lawful (Err e) b v h = h
started_lawful (Ok g) b v h = subst IsLawfulManager (sym h) (starting_lawful b v)

-- a child that is told to move
found_lawful : (p : Pid) (cs : List Addr) → All IsLawfulAddr cs → IfSome (child_named p cs) IsLawfulAddr
found_lawful p [] h = tt {0}
found_lawful p (a ∷ cs) h = either (λ o. IfSome o IsLawfulAddr) (pid_eq a.pid p) (Some a) (child_named p cs) (λ _. all_head IsLawfulAddr a cs h) (found_lawful p cs (all_tail IsLawfulAddr a cs h))

told_lawful : (here moves : ℕ) (id : MsgId) (m : ℕ) (o : Option Addr) → IsMachine here → IsMachine m → IsMachine id.from.home → id.answer ≡ false → IfSome o IsLawfulAddr → IfOk (tells_to_move here moves id m o) IsLawfulMessage
told_lawful here moves id m None machine k h a l = tt {0}
told_lawful here moves id m (Some c) machine k h a l = record { from = h; answer = a; to = l; sender = record { home = omega arith; at = machine }; what = k }

known_lawful : (here : ℕ) (g : Managing) (p : Pid) → IsMachine here → IsLawfulManager g → IfSome (known_address here g p) IsLawfulAddr
known_lawful here g p machine l =
    either (λ o. IfSome o IsLawfulAddr) (pid_eq p switchboard) (Some g.board) (if pid_eq p manager then Some (address_at here g.moves) else child_named p g.children)
    (λ _. record { home = omega (arith, ap (λ (q : Pid). q.home) l.board.pid); at = l.board.at })
    (either (λ o. IfSome o IsLawfulAddr) (pid_eq p manager) (Some (address_at here g.moves)) (child_named p g.children) (λ _. record { home = omega arith; at = machine }) (found_lawful p g.children l.children))

pub moves_lawful : (here : ℕ) (g : Managing) (p : Pid) (m : ℕ) (id : MsgId) → IsLawfulManager g → IsMachine here → IsMachine m → IsMachine id.from.home → id.answer ≡ false → IfOk (asks_to_move here g p m id) IsLawfulMessage
moves_lawful here g p m id l machine k h a = told_lawful here g.moves id m (known_address here g p) machine k h a (known_lawful here g p machine l)
