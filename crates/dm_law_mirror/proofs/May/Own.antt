-- The message at the front of a machine's inbox is one that the machine can handle: for a kernel, a server, or a process.
use Rattle.dm_law_mirror.proofs.Names.{◌≡◌, ℕ, ◌+◌, ◌<◌, ◌≤◌, ◌==◌, Bool, true, false, List, ◌∷◌, length, refl, ap, ◌∙◌, sym, subst, arith, length-map, Option, None, Some, false≢true, Pid, Message, MsgId, What, MessageKind, Record, kind_of}
use Rattle.dm_law_mirror.proofs.Names.{plain_message, Process, plain_child, plain_pending, plain_named, Boot, switchboard, manager, Manager, Switchboard, Point, Inbox, standing, is_server, is_fixed, stands_first, OwnTold, own_sort, ◌≢◌, ◌||◌, Told, option_map_or}
use Rattle.dm_law_mirror.proofs.Names.{Run, Placed, Mirrors, FitsBoard, FitsHere, FitsKnown, FitsManager, KernelState, AllOwnStand, about_of, told_of, KernelStands, KnownStands, HereStands, Resident, IsServer, nat_tests}
use Rattle.dm_law_mirror.proofs.Names.{pid_eq, PlainMessage, PlainWhat, plain_what, Direction, Status, IsAnswerOf, IsAwaited, IsWithin, Life, Alive, piece_of, plain_process, plain_status, pid_eq-same, Known, WhatFits, awaits, has_bytes}
use Rattle.dm_law_mirror.proofs.Names.{piece_fits, status_awaits, both, block_what, gone_what, kill_what, read_what, resume_what, stop_what, user_what, write_what, written_what, inl, inr, zero, suc, ◌/◌, is_some, if◌then◌else◌, option_map}
use Rattle.dm_law_mirror.proofs.Names.{cases_Bool, pid_of, HasTaken, first_number, alive-is, blocks_of, taken_at, taken_by, taken_of_home, takes_room, IsLawfulState, of_known, MadeStands, [], map, plain_manager, IsForManager, pending_request}
use Rattle.dm_law_mirror.proofs.Names.{OneKernel, front, ForWhom, for_whom, home_of, create_what, created_what, no_room_what, FitsKernel, managed_fits, user_fits, PendingKind, move_what, moved_what, IsPending, Pending, FitsEnded}
use Rattle.dm_law_mirror.proofs.Names.{or-right}
use Rattle.dm_kernel.specs.May.{FitsResident, MayAct, MayFreeze}
use Rattle.dm_resident.specs.Lawful.{HasFewAddresses, IsLawfulResident}
use Rattle.dm_law_rule.proofs.Letters.{letter_of}
use Rattle.dm_law_rule.specs.Migrating.{Size, size_of}
use Rattle.dm_law_always.specs.Sizes.{server_size}
use Rattle.dm_law_mirror.proofs.Lasting.{told_to}
use Rattle.dm_law_mirror.proofs.Residents.{OfBoard, OfManager, OfProcess, board_here, here_is, manager_here, process_here, who}
use Rattle.dm_law_mirror.proofs.Sized.{here_sized, size_at, size_state}
use Rattle.dm_kernel.specs.State as machine
use Rattle.dm_onekernel.specs.Step as kernel
use Rattle.dm_onekernel.specs.Manager as manage
use Rattle.dm_law_mirror.proofs.Machines.{plainly_is}
use Rattle.dm_law_mirror.proofs.Counts.Pairs.{CountsFew}

-- the message with and without places
pub record FrontSo (pt : Point) (m : ℕ) (i : MsgId) (x : Message) (p : PlainMessage) : Type 0 where
  pub there : pt.kernel.bag i ≡ Some p
  pub id : x.id ≡ i
  pub to : x.to.pid ≡ p.to
  pub what_is : plain_what x.what ≡ Some p.what
  -- a kernel is at home here
  pub home : is_fixed p.to ≡ true → p.to.home ≡ m
  pub fits : WhatFits pt.kernel i p p.what

pub front_so : (b : Boot) (pt : Point) (l : Placed) (m : ℕ) (i : MsgId) (is : List MsgId) (x : Message) (p : PlainMessage) → Run b pt → Mirrors pt.kernel pt.view pt.addresses l → pt.view.inbox m ≡ i ∷ is → l.bag i ≡ Some x → plain_message x ≡ Some p → FrontSo pt m i x p
front_so b pt l m i is x p run mirrors box there plainly =
    let is_ : pt.kernel.bag i ≡ Some p = sym (plainly_is pt.kernel l i x (mirrors.plain.bag i) there) ∙ plainly in
    let k : (x.to.pid ≡ p.to) × ((plain_what x.what) ≡ Some p.what) = grind (arith, nat_tests) in
    let f = front b m pt i is p box is_ run in
    record {
      there = is_;
      id = (mirrors.places.message i x there).id;
      to = k.0;
      what_is = k.1;
      home = λ fixed. home_of b m pt i p fixed f;
      fits = run.based.fits.messages i p is_;
    }

-- which kinds are for a kernel, a server
abbrev is_create : PlainWhat → Bool
is_create (PlainWhat.Create image links) = true
is_create w = false

pub kernel_create : (s : OneKernel) (x : PlainMessage) (w : PlainWhat) → ForWhom s x w → MadeStands s → x.to.num ≡ 0 → is_create w ≡ true
kernel_create s x w e made zero_ = grind (arith, nat_tests)

abbrev is_user : PlainWhat → Bool
is_user (PlainWhat.User code channel body links) = true
is_user w = false

-- the manager takes user messages and answers
abbrev is_managed : PlainWhat → Bool
is_managed (PlainWhat.User code channel body links) = true
is_managed (PlainWhat.Created child) = true
is_managed PlainWhat.NoRoom = true
is_managed (PlainWhat.Moved outcome) = true
is_managed w = false

-- for a kernel
pub kernel_row : (b : Boot) (pt : Point) (k : KernelState) (i : MsgId) (x : Message) (p : PlainMessage) (w : PlainWhat) → plain_what x.what ≡ Some w → is_create w ≡ true → WhatFits pt.kernel i p w → pt.kernel.images ≡ b.images → first_number + k.made < 4294967295 → FitsKernel b k x x.what
kernel_row b pt k i x p (PlainWhat.Create image links) e c fits images made =
    let numbered = fits.2 in
    let all : length pt.kernel.images ≡ length b.images = ap length images in
    let within : image < length b.images = grind (arith, nat_tests) in
    subst (FitsKernel b k x) (sym (create_what x.what image links e).is) (within, made)
kernel_row b pt k i x p _ e c fits images made = cc

pending_plainly : (n : ℕ) (ps : List Pending) → is_some (manage.pending_numbered n (map plain_pending ps)) ≡ is_some (pending_request n ps)
pending_plainly n [] = refl
pending_plainly n (r ∷ rs) = grind (arith, nat_tests, pending_plainly n rs)

is_pending : (s : OneKernel) (l : Placed) (kind : PendingKind) (i : MsgId) (n : ℕ) → n ≡ i.n → plain_manager l.manager ≡ s.manager → IsPending s kind i → is_some (pending_request n l.manager.pending) ≡ true
is_pending s l kind i n same e h =
    let pending : is_some (manage.pending_numbered i.n s.manager.pending) ≡ true = grind (arith, nat_tests, h.pending) in
    grind (arith, nat_tests, pending_plainly)

managed_row : (s : OneKernel) (l : Placed) (i : MsgId) (x : Message) (p : PlainMessage) (w : PlainWhat) → plain_what x.what ≡ Some w → is_managed w ≡ true → WhatFits s i p w → x.id ≡ i → plain_manager l.manager ≡ s.manager → IsForManager l.manager x.id.n x.what
managed_row s l i x p (PlainWhat.User code channel body links) e c fits id g = subst (IsForManager l.manager x.id.n) (sym (user_what x.what code channel body links e).is) tt
managed_row s l i x p (PlainWhat.Created child) e c fits id g = subst (IsForManager l.manager x.id.n) (sym (created_what x.what child e)) (is_pending s l PendingKind.Create i x.id.n (ap (λ (j : MsgId). j.n) id) g fits.2)
managed_row s l i x p PlainWhat.NoRoom e c fits id g = subst (IsForManager l.manager x.id.n) (sym (no_room_what x.what e)) (is_pending s l PendingKind.Create i x.id.n (ap (λ (j : MsgId). j.n) id) g fits.2)
managed_row s l i x p (PlainWhat.Moved outcome) e c fits id g = subst (IsForManager l.manager x.id.n) (sym (moved_what x.what outcome e)) (is_pending s l PendingKind.Move i x.id.n (ap (λ (j : MsgId). j.n) id) g fits.2)
managed_row s l i x p _ e c fits id g = cc

-- for the switchboard, and for the manager
pub for_board : (pt : Point) (l : Placed) (m : ℕ) (k : KernelState) (x : Message) (i : MsgId) (p : PlainMessage) → MadeStands pt.kernel → CountsFew pt → Mirrors pt.kernel pt.view pt.addresses l → FrontSo pt m i x p → p.to ≡ switchboard → FitsBoard k l.board x.what
for_board pt l m k x i p made counts mirrors f to =
    let sent : l.board.sent ≡ pt.kernel.switchboard.sent = ap (λ (v : Switchboard). v.sent) mirrors.plain.board in
    let few = counts.board in
    let user_kind : kind_of x.what ≡ MessageKind.User = grind (arith, nat_tests, f.what_is, (let e_ : is_user p.what ≡ true = grind (arith, nat_tests, for_whom pt.kernel i p p.what f.fits) in e_)) in
    user_fits k l.board x.what user_kind (omega (arith, sent, few))

pub for_manager : (pt : Point) (l : Placed) (m : ℕ) (k : KernelState) (x : Message) (i : MsgId) (p : PlainMessage) → MadeStands pt.kernel → CountsFew pt → Mirrors pt.kernel pt.view pt.addresses l → FrontSo pt m i x p → p.to ≡ manager → FitsManager k l.manager x.id.n x.what
for_manager pt l m k x i p made counts mirrors f to =
    let sent : l.manager.sent ≡ pt.kernel.manager.sent = ap (λ (v : Manager). v.sent) mirrors.plain.manager in
    let children : length l.manager.children ≡ length pt.kernel.manager.children = sym (length-map l.manager.children plain_child) ∙ ap (λ (v : Manager). length v.children) mirrors.plain.manager in
    let few = counts.manager in
    let few_ = counts.children in
    let managed : is_managed p.what ≡ true = grind (arith, nat_tests, for_whom pt.kernel i p p.what f.fits) in
    managed_fits k l.manager x.id.n x.what (managed_row pt.kernel l i x p p.what f.what_is managed f.fits f.id mirrors.plain.manager) (omega (arith, sent, few)) (omega (arith, children, few_))

-- A process that is here may act: it bears its name, can be carried, can count one more message, and has its room.

-- what one of the processes that were made takes, all of them do
by_home : (pt : Point) (m home n k : ℕ) → k < n → ((taken_by pt m (pid_of home (first_number + k))).slots ≤ (taken_of_home pt m home n).slots) × ((taken_by pt m (pid_of home (first_number + k))).blocks ≤ (taken_of_home pt m home n).blocks)
by_home pt m home zero k lt = absurd (omega (arith, lt))
by_home pt m home (suc n) k lt = elim (cases_Bool (k == n)) [
  | inl same ↦
      let e : k ≡ n = grind (arith, nat_tests) in
      let slots : (taken_by pt m (pid_of home (first_number + k))).slots ≡ (taken_by pt m (pid_of home (first_number + n))).slots = ap (λ j. (taken_by pt m (pid_of home (first_number + j))).slots) e in
      let blocks : (taken_by pt m (pid_of home (first_number + k))).blocks ≡ (taken_by pt m (pid_of home (first_number + n))).blocks = ap (λ j. (taken_by pt m (pid_of home (first_number + j))).blocks) e in
      (omega (arith, slots), omega (arith, blocks))
  | inr apart ↦
      let r = by_home pt m home n k (grind (arith, nat_tests)) in
      let slots = r.0 in let blocks = r.1 in
      (omega (arith, slots), omega (arith, blocks))
]

by_homes : (pt : Point) (m homes home n : ℕ) → home < homes → n ≡ pt.kernel.made home → ((taken_of_home pt m home n).slots ≤ (taken_at pt m homes).slots) × ((taken_of_home pt m home n).blocks ≤ (taken_at pt m homes).blocks)
by_homes pt m zero home n lt is = absurd (omega (arith, lt))
by_homes pt m (suc homes) home n lt is = elim (cases_Bool (home == homes)) [
  | inl same ↦
      let e : home ≡ homes = grind (arith, nat_tests) in
      let count : n ≡ pt.kernel.made homes = is ∙ ap pt.kernel.made e in
      let slots : (taken_of_home pt m home n).slots ≡ (taken_of_home pt m homes (pt.kernel.made homes)).slots = ap (λ h. (taken_of_home pt m h n).slots) e ∙ ap (λ k. (taken_of_home pt m homes k).slots) count in
      let blocks : (taken_of_home pt m home n).blocks ≡ (taken_of_home pt m homes (pt.kernel.made homes)).blocks = ap (λ h. (taken_of_home pt m h n).blocks) e ∙ ap (λ k. (taken_of_home pt m homes k).blocks) count in
      (omega (arith, slots), omega (arith, blocks))
  | inr apart ↦
      let r = by_homes pt m homes home n (grind (arith, nat_tests)) is in
      let slots = r.0 in let blocks = r.1 in
      (omega (arith, slots), omega (arith, blocks))
]

numbered : (p : Pid) → first_number ≤ p.num → (k : ℕ) × (p.num ≡ first_number + k)
numbered p least = minus p.num least
  where
    minus : (n : ℕ) → first_number ≤ n → (k : ℕ) × (n ≡ first_number + k)
    minus (suc (suc (suc k))) le = (k, omega arith)
    minus _ le = absurd (omega (arith, le))

pub taken_within : (pt : Point) (m : ℕ) (p : Pid) → MadeStands pt.kernel → is_some (pt.kernel.processes p) ≡ true
    → ((taken_by pt m p).slots ≤ (taken_at pt m pt.kernel.machines).slots) × ((taken_by pt m p).blocks ≤ (taken_at pt m pt.kernel.machines).blocks)
taken_within pt m p made there =
    let home = made.home p there in
    let (k, num) = numbered p (made.first p there) in
    let name : pid_of p.home (first_number + k) ≡ p = λ i. record { home = p.home; num = sym num i } in
    let one = by_home pt m p.home (pt.kernel.made p.home) k (omega (arith, made.below p there, num)) in
    let all = by_homes pt m pt.kernel.machines p.home (pt.kernel.made p.home) home refl in
    let slots : (taken_by pt m (pid_of p.home (first_number + k))).slots ≡ (taken_by pt m p).slots = ap (λ q. (taken_by pt m q).slots) name in
    let a = one.0 in let c = one.1 in let d = all.0 in let e = all.1 in
    (omega (arith, slots, a, d), omega (arith, ap (λ q. (taken_by pt m q).blocks) name, c, e))

-- what a machine has of a process that is here
pub record HereSo (pt : Point) (l : Placed) (m : ℕ) (p : Pid) (x : Process) : Type 0 where
  pub known : pt.view.known m p ≡ Known.Here
  pub queue : List Message
  pub there : l.processes p ≡ Some (record x { queue = queue })
  pub life : pt.kernel.processes p ≡ Some (Alive (plain_process x))

-- what is recorded here is here, and of what isn't recorded nothing is known
pub here_of : (l : Placed) (p : Pid) (ids held_ : List MsgId) (k : Known) (r : Resident) → KnownStands l p ids held_ k (Some (Record.Here r)) → (k ≡ Known.Here) × HereStands l p ids r
here_of l p ids held_ Known.Here r h = (refl, h)
here_of l p ids held_ _ r h = absurd h

pub none_of : (l : Placed) (p : Pid) (ids held_ : List MsgId) (k : Known) → KnownStands l p ids held_ k None → k ≡ Known.Unknown
none_of l p ids held_ Known.Unknown h = refl
none_of l p ids held_ _ h = absurd h

-- what a process of the kernel with places is without them
pub life_is : (pt : Point) (l : Placed) (p : Pid) (x : Process) → Mirrors pt.kernel pt.view pt.addresses l → l.processes p ≡ Some x → pt.kernel.processes p ≡ Some (Alive (plain_process x))
life_is pt l p x mirrors there = alive-is (pt.kernel.processes p) (plain_process x) (mirrors.plain.processes p ∙ ap (option_map plain_process) there)

pub here_so : (b : Boot) (pt : Point) (l : Placed) (m : ℕ) (k : KernelState) (p : Pid) (x : Process) → Mirrors pt.kernel pt.view pt.addresses l → KernelStands b pt l m k → is_server p ≡ false → k.records p ≡ Some (Record.Here (Resident.Process x)) → HereSo pt l m p x
here_so b pt l m k p x mirrors h server is =
    let (known, here) = here_of l p (pt.view.queue m p) (pt.view.held m p) (pt.view.known m p) (Resident.Process x) (subst (KnownStands l p (pt.view.queue m p) (pt.view.held m p) (pt.view.known m p)) is (h.known p)) in
    let c = process_here l p (pt.view.queue m p) (Resident.Process x) server here in
    let same : c.process ≡ x = (let f : Resident.Process x ≡ Resident.Process c.process = c.is in cc) in
    let there : l.processes p ≡ Some (record x { queue = c.waits }) = c.there ∙ ap (λ (y : Process). Some (record y { queue = c.waits })) same in
    record { known = known; queue = c.waits; there = there; life = life_is pt l p (record x { queue = c.waits }) mirrors there }

-- a process is recorded under no server's name
pub process_apart : (b : Boot) (pt : Point) (l : Placed) (m : ℕ) (k : KernelState) (p : Pid) (x : Process) → KernelStands b pt l m k → k.records p ≡ Some (Record.Here (Resident.Process x)) → is_server p ≡ false
process_apart b pt l m k p x h is =
    let (known, here) = here_of l p (pt.view.queue m p) (pt.view.held m p) (pt.view.known m p) (Resident.Process x) (subst (KnownStands l p (pt.view.queue m p) (pt.view.held m p) (pt.view.known m p)) is (h.known p)) in
    elim (who p) [
      | OfProcess off ↦ off
      | OfBoard at_board ↦ absurd (let f : Resident.Process x ≡ Resident.Board l.board = board_here l (pt.view.queue m p) (Resident.Process x) (subst (λ (q : Pid). HereStands l q (pt.view.queue m p) (Resident.Process x)) at_board here) in cc)
      | OfManager at_manager ↦ absurd (let f : Resident.Process x ≡ Resident.Manager l.manager = manager_here l (pt.view.queue m p) (Resident.Process x) (subst (λ (q : Pid). HereStands l q (pt.view.queue m p) (Resident.Process x)) at_manager here) in cc)
    ]

-- what takes room on a machine has its slot and its blocks
pub has_taken : (b : Boot) (pt : Point) (l : Placed) (m : ℕ) (k : KernelState) (p : Pid) (x : Process) → MadeStands pt.kernel → KernelStands b pt l m k → takes_room (pt.view.known m p) ≡ 1 → pt.kernel.processes p ≡ Some (Alive (plain_process x)) → HasTaken k.room (length x.memory / 256)
has_taken b pt l m k p x made h takes life =
    let within = taken_within pt m p made (ap is_some life) in
    let blocks : (taken_by pt m p).blocks ≡ length x.memory / 256 = ap (λ (n : ℕ). if n == 0 then 0 else blocks_of (kernel.alive (pt.kernel.processes p))) takes ∙ ap (λ (o : Option Life). blocks_of (kernel.alive o)) life in
    let all = within.0 in let all_ = within.1 in
    let room = h.room.taken_slots in let room_ = h.room.taken_blocks in
    (omega (arith, takes, all, room), omega (arith, blocks, all_, room_))

-- no server's name
not_named : (p : Pid) → is_server p ≡ false → IsServer p → ⊥
not_named p off named = false≢true (sym off ∙ (let e_ : is_server p ≡ true = grind (arith, nat_tests) in e_))

pub may_act : (b : Boot) (pt : Point) (l : Placed) (m : ℕ) (k : KernelState) → MadeStands pt.kernel → CountsFew pt → Mirrors pt.kernel pt.view pt.addresses l → KernelStands b pt l m k → IsLawfulState k
    → (p : Pid) (x : Process) → k.records p ≡ Some (Record.Here (Resident.Process x)) → MayAct k p x
may_act b pt l m k made counts mirrors h lawful p x is =
    let off = process_apart b pt l m k p x h is in
    let so = here_so b pt l m k p x mirrors h off is in
    search (
      (mirrors.places.process p (record x { queue = so.queue }) so.there).pid,
      not_named p off,
      of_known k p (Some (Record.Here (Resident.Process x))) lawful is,
      counts.sent p (plain_process x) so.life,
      has_taken b pt l m k p x made h (ap takes_room so.known) so.life,
    )

-- A message for a process, where the process is here or has ended: a piece lies in its memory, an answer is the one that it
-- waits for.

-- a piece within the memory
within_memory : (n : ℕ) (x : Process) (o : Option Life) → o ≡ Some (Alive (plain_process x)) → has_bytes n o ≡ true → n ≤ length x.memory
within_memory n x o is e = let f : has_bytes n (Some (Alive (plain_process x))) ≡ true = sym (ap (has_bytes n) is) ∙ e in grind (arith, nat_tests)

-- the answer that the process waits for
awaited_by : (st : Status) (n : ℕ) (x : Message) (w : PlainWhat) → x.id.n ≡ n → plain_what x.what ≡ Some w → status_awaits (plain_status st) n w ≡ true → ((dir : Direction) (left : ℕ) → piece_fits dir left w ≡ true → IsAnswerOf dir left x.what) → IsAwaited st x
awaited_by (Status.Moving dir owner base own left pending) n x w id e f answer =
    let k = both (n == pending) (piece_fits dir left w) f in
    let number = k.0 in
    (id ∙ (let g : n ≡ pending = grind (arith, nat_tests) in g), answer dir left k.1)
awaited_by _ n x w id e f answer = absurd (false≢true f)

block_answer : (x : Message) (bytes : List ℕ) → plain_what x.what ≡ Some (PlainWhat.Block bytes) → (dir : Direction) (left : ℕ) → piece_fits dir left (PlainWhat.Block bytes) ≡ true → IsAnswerOf dir left x.what
block_answer x bytes e Direction.FromArea left f =
    let q = block_what x.what bytes e in
    let long : length bytes ≡ piece_of left = grind (arith, nat_tests) in
    subst (IsAnswerOf Direction.FromArea left) (sym q.is) (ap length q.bytes_are ∙ long)
block_answer x bytes e Direction.IntoArea left f = absurd (false≢true f)

written_answer : (x : Message) → plain_what x.what ≡ Some PlainWhat.Written → (dir : Direction) (left : ℕ) → piece_fits dir left PlainWhat.Written ≡ true → IsAnswerOf dir left x.what
written_answer x e Direction.FromArea left f = absurd (false≢true f)
written_answer x e Direction.IntoArea left f = subst (IsAnswerOf Direction.IntoArea left) (sym (written_what x.what e)) tt

gone_answer : (x : Message) → plain_what x.what ≡ Some PlainWhat.Gone → (dir : Direction) (left : ℕ) → piece_fits dir left PlainWhat.Gone ≡ true → IsAnswerOf dir left x.what
gone_answer x e Direction.FromArea left f = subst (IsAnswerOf Direction.FromArea left) (sym (gone_what x.what e)) tt
gone_answer x e Direction.IntoArea left f = subst (IsAnswerOf Direction.IntoArea left) (sym (gone_what x.what e)) tt

awaits_alive : (pt : Point) (y : Process) (i : MsgId) (p : Pid) (w : PlainWhat) → p ≡ i.from → pt.kernel.processes p ≡ Some (Alive (plain_process y)) → awaits (pt.kernel.processes i.from) i.n w ≡ true → status_awaits (plain_status y.status) i.n w ≡ true
awaits_alive pt y i p w to life e = sym (ap (λ (o : Option Life). awaits o i.n w) (sym (ap pt.kernel.processes to) ∙ life)) ∙ e

-- it is here, a row a kind
here_row : (k : KernelState) (pt : Point) (y : Process) (i : MsgId) (x : Message) (p : PlainMessage) (w : PlainWhat) → plain_what x.what ≡ Some w → WhatFits pt.kernel i p w → pt.kernel.processes p.to ≡ Some (Alive (plain_process y)) → x.id ≡ i
    → (p.to.num == 0) ≡ false → pid_eq p.to manager ≡ false → (y.moves < 4294967295) × (k.sent < 4294967295) → k.sent + 16 ≤ 4294967295 → FitsHere k x y x.what
here_row k pt y i x p (PlainWhat.User code channel body links) e fits life id num other few all = subst (FitsHere k x y) (sym (user_what x.what code channel body links e).is) tt
here_row k pt y i x p PlainWhat.Stop e fits life id num other few all = subst (FitsHere k x y) (sym (stop_what x.what e)) tt
here_row k pt y i x p PlainWhat.Resume e fits life id num other few all = subst (FitsHere k x y) (sym (resume_what x.what e)) tt
here_row k pt y i x p PlainWhat.Kill e fits life id num other few all = subst (FitsHere k x y) (sym (kill_what x.what e)) all
here_row k pt y i x p (PlainWhat.Read base len) e fits life id num other few all =
    let is = read_what x.what base len e in
    subst (FitsHere k x y) (sym is) (subst (IsWithin (length y.memory)) (sym is) (within_memory (base + len) y (pt.kernel.processes p.to) life fits.0))
here_row k pt y i x p (PlainWhat.Write base bytes) e fits life id num other few all =
    let q = write_what x.what base bytes e in
    let long : length q.body.items ≡ length bytes = ap length q.bytes_are in
    let le = within_memory (base + length bytes) y (pt.kernel.processes p.to) life fits.0 in
    subst (FitsHere k x y) (sym q.is) (subst (IsWithin (length y.memory)) (sym q.is) (let h : base + length q.body.items ≤ length y.memory = omega (arith, long, le) in h))
here_row k pt y i x p (PlainWhat.Block bytes) e fits life id num other few all =
    subst (FitsHere k x y) (sym (block_what x.what bytes e).is)
    (awaited_by y.status i.n x (PlainWhat.Block bytes) (ap (λ (j : MsgId). j.n) id) e (awaits_alive pt y i p.to (PlainWhat.Block bytes) fits.0 life fits.1) (block_answer x bytes e))
here_row k pt y i x p PlainWhat.Written e fits life id num other few all =
    subst (FitsHere k x y) (sym (written_what x.what e))
    (awaited_by y.status i.n x PlainWhat.Written (ap (λ (j : MsgId). j.n) id) e (awaits_alive pt y i p.to PlainWhat.Written fits.0 life fits.1) (written_answer x e))
here_row k pt y i x p PlainWhat.Gone e fits life id num other few all =
    subst (FitsHere k x y) (sym (gone_what x.what e))
    (awaited_by y.status i.n x PlainWhat.Gone (ap (λ (j : MsgId). j.n) id) e (awaits_alive pt y i p.to PlainWhat.Gone fits.0 life fits.1) (gone_answer x e))
here_row k pt y i x p (PlainWhat.Create image links) e fits life id num other few all = absurd (let z : p.to.num ≡ 0 = fits.0 in let t : (p.to.num == 0) ≡ true = grind (arith, nat_tests) in false≢true (sym num ∙ t))
here_row k pt y i x p (PlainWhat.Move machine_) e fits life id num other few all = subst (FitsHere k x y) (sym (move_what x.what machine_ e)) few
here_row k pt y i x p _ e fits life id num other few all = absurd (false≢true (sym other ∙ (ap (λ (q : Pid). pid_eq q manager) fits.0 ∙ pid_eq-same manager)))

-- what the machine knows of it
process_row : (b : Boot) (pt : Point) (l : Placed) (m : ℕ) (k : KernelState) (i : MsgId) (x : Message) (p : PlainMessage) (o : Option machine.KernelKnown) → Mirrors pt.kernel pt.view pt.addresses l → KernelStands b pt l m k
    → CountsFew pt
    → k.sent < 4294967295 → k.sent + 16 ≤ 4294967295 → FrontSo pt m i x p
    → (p.to.num == 0) ≡ false → is_server p.to ≡ false → k.records p.to ≡ o → FitsKnown k x o
process_row b pt l m k i x p None mirrors h counts sent all f num server is = let fits : FitsEnded x.what = grind (arith, nat_tests, pid_eq-same, f.what_is, f.fits) in fits
process_row b pt l m k i x p (Some (Record.Here (Resident.Process y))) mirrors h counts sent all f num server is =
    let so = here_so b pt l m k p.to y mirrors h server is in
    let moves = (mirrors.places.process p.to (record y { queue = so.queue }) so.there).moves in
    here_row k pt y i x p p.what f.what_is f.fits so.life f.id num (or-right (pid_eq p.to switchboard) (pid_eq p.to manager) server) (omega (arith, moves, counts.moves p.to), sent) all
process_row b pt l m k i x p (Some (Record.Here r)) mirrors h counts sent all f num server is =
    let c = process_here l p.to (pt.view.queue m p.to) r server (here_of l p.to (pt.view.queue m p.to) (pt.view.held m p.to) (pt.view.known m p.to) r (subst (KnownStands l p.to (pt.view.queue m p.to) (pt.view.held m p.to) (pt.view.known m p.to)) is (h.known p.to))).1 in
    absurd (let g : r ≡ Resident.Process c.process = c.is in cc)
process_row b pt l m k i x p (Some (Record.Forward place moves)) mirrors h counts sent all f num server is = sent
process_row b pt l m k i x p _ mirrors h counts sent all f num server is = tt

-- a server lives, and so something is known of it where its message stands
pub server_known : (b : Boot) (pt : Point) (m : ℕ) (i : MsgId) (t : Told) → Run b pt → 1 ≤ standing pt.view i (Inbox m) → pt.view.told i ≡ Some t → (t.receiver.num == 0) ≡ false → is_server t.receiver ≡ true → pt.view.known m t.receiver ≢ Known.Unknown
server_known b pt m i t run stands told num server = run.found.process i (Inbox m) t stands told num (ap (λ (c : Bool). c || is_some (kernel.alive (pt.kernel.processes t.receiver))) server)

-- a message for a server q, where it fits the one that it is
server_row : (b : Boot) (pt : Point) (l : Placed) (m : ℕ) (k : KernelState) (x : Message) (q : Pid) (o : Option machine.KernelKnown) → KernelStands b pt l m k → k.sent < 4294967295 → pt.view.known m q ≢ Known.Unknown → k.records q ≡ o
    → ((r : Resident) → HereStands l q (pt.view.queue m q) r → FitsResident k x r) → FitsKnown k x o
server_row b pt l m k x q None h sent some is fits = absurd (some (none_of l q (pt.view.queue m q) (pt.view.held m q) (pt.view.known m q) (subst (KnownStands l q (pt.view.queue m q) (pt.view.held m q) (pt.view.known m q)) is (h.known q))))
server_row b pt l m k x q (Some (Record.Here r)) h sent some is fits =
    fits r (here_of l q (pt.view.queue m q) (pt.view.held m q) (pt.view.known m q) r (subst (KnownStands l q (pt.view.queue m q) (pt.view.held m q) (pt.view.known m q)) is (h.known q))).1
server_row b pt l m k x q (Some (Record.Forward place moves)) h sent some is fits = sent
server_row b pt l m k x q _ h sent some is fits = tt

-- it is for a process or for a server
pub front_row : (b : Boot) (pt : Point) (l : Placed) (m : ℕ) (k : KernelState) (i : MsgId) (is : List MsgId) (x : Message) (p : PlainMessage) → Run b pt → MadeStands pt.kernel → Mirrors pt.kernel pt.view pt.addresses l → KernelStands b pt l m k → CountsFew pt
    → k.sent < 4294967295 → k.sent + 16 ≤ 4294967295 → pt.view.inbox m ≡ i ∷ is → FrontSo pt m i x p → (p.to.num == 0) ≡ false → FitsKnown k x (k.records p.to)
front_row b pt l m k i is x p run made mirrors h counts sent all box f num =
    let state = run.based.phased.state in
    let (t, told, to) = told_to (pt.view.told i) p.to (state.stands.told i p.to (letter_of state.r state.e state.own pt.kernel i p f.there state.sound)) in
    let stands = stands_first pt.view m i is box in
    let known : is_server p.to ≡ true → pt.view.known m p.to ≢ Known.Unknown = λ server.
    subst (λ (q : Pid). pt.view.known m q ≢ Known.Unknown) to (server_known b pt m i t run stands told (ap (λ (q : Pid). q.num == 0) to ∙ num) (ap is_server to ∙ server)) in
    elim (who p.to) [
      | OfProcess off ↦ process_row b pt l m k i x p (k.records p.to) mirrors h counts sent all f num off refl
      | OfBoard at_board ↦ server_row b pt l m k x p.to (k.records p.to) h sent (known (ap is_server at_board)) refl
          (λ r here. subst (FitsResident k x) (sym (board_here l (pt.view.queue m p.to) r (subst (λ (q : Pid). HereStands l q (pt.view.queue m p.to) r) at_board here))) (for_board pt l m k x i p made counts mirrors f at_board))
      | OfManager at_manager ↦ server_row b pt l m k x p.to (k.records p.to) h sent (known (ap is_server at_manager)) refl
          (λ r here. subst (FitsResident k x) (sym (manager_here l (pt.view.queue m p.to) r (subst (λ (q : Pid). HereStands l q (pt.view.queue m p.to) r) at_manager here))) (for_manager pt l m k x i p made counts mirrors f at_manager))
    ]

-- A kernel's own message at the front of a machine's inbox is one that the machine can handle: for a process or a server.

-- it carries what was told of it
pub record OwnFront (pt : Point) (l : Placed) (m : ℕ) (i : MsgId) (x : Message) : Type 0 where
  pub there : l.bag i ≡ Some x
  pub told : pt.view.told i ≡ Some (told_of x)
  pub sort : own_sort (kind_of x.what) x.to.pid (about_of x.what) ≡ true
  pub first : 1 ≤ standing pt.view i (Inbox m)
  -- a kernel is at home here
  pub home : is_fixed x.to.pid ≡ true → m ≡ x.to.pid.home

pub own_front : (b : Boot) (pt : Point) (l : Placed) (m : ℕ) (i : MsgId) (is : List MsgId) (x : Message) → Run b pt → OwnTold pt → AllOwnStand pt.view l → pt.view.inbox m ≡ i ∷ is → l.bag i ≡ Some x → plain_message x ≡ None → OwnFront pt l m i x
own_front b pt l m i is x run own stand box there plain =
    let s = stand i x there plain in
    let first = stands_first pt.view m i is box in
    search (own.own i (told_of x) s.told s.mine, run.found.fixed i (Inbox m) (told_of x) first s.told)

own_here : (k : KernelState) (x : Message) (y : Process) (q : Pid) (w : What) → own_sort (kind_of w) q (about_of w) ≡ true → (q.num == 0) ≡ false → y.moves < 4294967295 → k.sent < 4294967295 → FitsHere k x y w
own_here k x y q (What.Migrate m) e num few sent = (few, sent)
own_here k x y q (What.Update about) e num few sent = tt
own_here k x y q _ e num few sent = absurd (grind (arith, nat_tests))

-- or has ended
process_own : (b : Boot) (pt : Point) (l : Placed) (m : ℕ) (k : KernelState) (i : MsgId) (x : Message) (o : Option machine.KernelKnown) → Mirrors pt.kernel pt.view pt.addresses l → KernelStands b pt l m k → CountsFew pt
    → k.sent < 4294967295 → OwnFront pt l m i x
    → (x.to.pid.num == 0) ≡ false → is_server x.to.pid ≡ false → k.records x.to.pid ≡ o → FitsKnown k x o
process_own b pt l m k i x None mirrors h counts sent f num server is = let fits : FitsEnded x.what = grind (arith, nat_tests, f.sort) in fits
process_own b pt l m k i x (Some (Record.Here (Resident.Process y))) mirrors h counts sent f num server is =
    let p = x.to.pid in
    let so = here_so b pt l m k p y mirrors h server is in
    let moves = (mirrors.places.process p (record y { queue = so.queue }) so.there).moves in
    own_here k x y p x.what f.sort num (omega (arith, moves, counts.moves p)) sent
process_own b pt l m k i x (Some (Record.Here r)) mirrors h counts sent f num server is =
    let p = x.to.pid in
    let c = process_here l p (pt.view.queue m p) r server (here_of l p (pt.view.queue m p) (pt.view.held m p) (pt.view.known m p) r (subst (KnownStands l p (pt.view.queue m p) (pt.view.held m p) (pt.view.known m p)) is (h.known p))).1 in
    absurd (let g : r ≡ Resident.Process c.process = c.is in cc)
process_own b pt l m k i x (Some (Record.Forward place moves)) mirrors h counts sent f num server is = sent
process_own b pt l m k i x _ mirrors h counts sent f num server is = tt

-- a server can be frozen: it can move once more, and what it keeps and its state bytes can be counted
pub may_freeze : (pt : Point) (l : Placed) (k : KernelState) (p : Pid) (queue : List MsgId) (r : Resident) → CountsFew pt → Mirrors pt.kernel pt.view pt.addresses l → is_server p ≡ true → HereStands l p queue r → IsLawfulResident r → HasFewAddresses r → k.sent < 4294967295 → MayFreeze k r
may_freeze pt l k p queue r counts mirrors server here lawful few sent =
    let is = here_is pt.kernel pt.view pt.addresses l p queue r mirrors here in
    let moves = is.moves in
    let small = counts.moves p in
    let sized : size_of pt.kernel p ≡ Some (size_at r) = here_sized pt.kernel l p queue r mirrors.plain here in
    let state = size_state r lawful in
    let size : server_size pt.kernel p ≡ (size_at r).state = ap (λ (o : Option Size). option_map_or (λ (z : Size). z.state) o 0) sized in
    let most = counts.sizes p server in
    record { lawful = lawful; moves = omega (arith, moves, small); few = few; size = omega (arith, size, state, most); sent = sent }

-- at a server: it learns of a place, or is told to move
board_own : (pt : Point) (l : Placed) (k : KernelState) (x : Message) (w : What) → own_sort (kind_of w) x.to.pid (about_of w) ≡ true → (x.to.pid.num == 0) ≡ false → length l.board.names < 2147483648 → MayFreeze k (Resident.Board l.board) → FitsBoard k l.board w
board_own pt l k x (What.Update about) sort_ num few may = omega (arith, few)
board_own pt l k x (What.Migrate to) sort_ num few may = may
board_own pt l k x _ sort_ num few may = absurd (grind (arith, nat_tests))

manager_own : (pt : Point) (l : Placed) (k : KernelState) (x : Message) (w : What) → own_sort (kind_of w) x.to.pid (about_of w) ≡ true → (x.to.pid.num == 0) ≡ false → length l.manager.children + length l.manager.pending < 2147483648 → MayFreeze k (Resident.Manager l.manager)
    → FitsManager k l.manager x.id.n w
manager_own pt l k x (What.Update about) sort_ num few may = omega (arith, few)
manager_own pt l k x (What.Migrate to) sort_ num few may = may
manager_own pt l k x _ sort_ num few may = absurd (grind (arith, nat_tests))

-- what is recorded of it is lawful
lawful_here : (k : KernelState) (p : Pid) (r : Resident) → IsLawfulState k → k.records p ≡ Some (Record.Here r) → IsLawfulResident r
lawful_here k p r lawful is = of_known k p (Some (Record.Here r)) lawful is

own_board : (b : Boot) (pt : Point) (l : Placed) (m : ℕ) (k : KernelState) (i : MsgId) (x : Message) (r : Resident) → CountsFew pt → Mirrors pt.kernel pt.view pt.addresses l → OwnFront pt l m i x → (x.to.pid.num == 0) ≡ false → k.sent < 4294967295 → x.to.pid ≡ switchboard
    → HereStands l x.to.pid (pt.view.queue m x.to.pid) r → IsLawfulResident r → FitsResident k x r
own_board b pt l m k i x r counts mirrors f num sent to here lawful =
    let queue = pt.view.queue m x.to.pid in
    let is : r ≡ Resident.Board l.board = board_here l queue r (subst (λ (q : Pid). HereStands l q queue r) to here) in
    let names : length l.board.names ≡ length pt.kernel.switchboard.names = sym (length-map l.board.names plain_named) ∙ ap (λ (v : Switchboard). length v.names) mirrors.plain.board in
    let few = counts.names in
    let most : length l.board.names < 2147483648 = omega (arith, names, few) in
    let may = may_freeze pt l k x.to.pid queue (Resident.Board l.board) counts mirrors (ap is_server to) (subst (HereStands l x.to.pid queue) is here) (subst IsLawfulResident is lawful) (omega (arith, most)) sent in
    subst (FitsResident k x) (sym is) (board_own pt l k x x.what f.sort num most may)

own_manager : (b : Boot) (pt : Point) (l : Placed) (m : ℕ) (k : KernelState) (i : MsgId) (x : Message) (r : Resident) → CountsFew pt → Mirrors pt.kernel pt.view pt.addresses l → OwnFront pt l m i x → (x.to.pid.num == 0) ≡ false → k.sent < 4294967295 → x.to.pid ≡ manager
    → HereStands l x.to.pid (pt.view.queue m x.to.pid) r → IsLawfulResident r → FitsResident k x r
own_manager b pt l m k i x r counts mirrors f num sent to here lawful =
    let queue = pt.view.queue m x.to.pid in
    let is : r ≡ Resident.Manager l.manager = manager_here l queue r (subst (λ (q : Pid). HereStands l q queue r) to here) in
    let children : length l.manager.children ≡ length pt.kernel.manager.children = sym (length-map l.manager.children plain_child) ∙ ap (λ (v : Manager). length v.children) mirrors.plain.manager in
    let pending : length l.manager.pending ≡ length pt.kernel.manager.pending = sym (length-map l.manager.pending plain_pending) ∙ ap (λ (v : Manager). length v.pending) mirrors.plain.manager in
    let few = counts.managed in
    let most : length l.manager.children + length l.manager.pending < 2147483648 = omega (arith, children, pending, few) in
    let may = may_freeze pt l k x.to.pid queue (Resident.Manager l.manager) counts mirrors (ap is_server to) (subst (HereStands l x.to.pid queue) is here) (subst IsLawfulResident is lawful) (omega (arith, most)) sent in
    subst (FitsResident k x) (sym is) (manager_own pt l k x x.what f.sort num most may)

-- what the machine knows of a server that a kernel's own message is for
server_own : (b : Boot) (pt : Point) (l : Placed) (m : ℕ) (k : KernelState) (x : Message) (q : Pid) (o : Option machine.KernelKnown) → KernelStands b pt l m k → IsLawfulState k → k.sent < 4294967295 → pt.view.known m q ≢ Known.Unknown → k.records q ≡ o
    → ((r : Resident) → HereStands l q (pt.view.queue m q) r → IsLawfulResident r → FitsResident k x r) → FitsKnown k x o
server_own b pt l m k x q None h lawful sent some is fits = absurd (some (none_of l q (pt.view.queue m q) (pt.view.held m q) (pt.view.known m q) (subst (KnownStands l q (pt.view.queue m q) (pt.view.held m q) (pt.view.known m q)) is (h.known q))))
server_own b pt l m k x q (Some (Record.Here r)) h lawful sent some is fits =
    fits r (here_of l q (pt.view.queue m q) (pt.view.held m q) (pt.view.known m q) r (subst (KnownStands l q (pt.view.queue m q) (pt.view.held m q) (pt.view.known m q)) is (h.known q))).1 (lawful_here k q r lawful is)
server_own b pt l m k x q (Some (Record.Forward place moves)) h lawful sent some is fits = sent
server_own b pt l m k x q _ h lawful sent some is fits = tt

pub own_row : (b : Boot) (pt : Point) (l : Placed) (m : ℕ) (k : KernelState) (i : MsgId) (x : Message) → Run b pt → Mirrors pt.kernel pt.view pt.addresses l → KernelStands b pt l m k → IsLawfulState k → CountsFew pt
    → k.sent < 4294967295 → OwnFront pt l m i x → (x.to.pid.num == 0) ≡ false → FitsKnown k x (k.records x.to.pid)
own_row b pt l m k i x run mirrors h lawful counts sent f num =
    let known : is_server x.to.pid ≡ true → pt.view.known m x.to.pid ≢ Known.Unknown = server_known b pt m i (told_of x) run f.first f.told num in
    elim (who x.to.pid) [
      | OfProcess off ↦ process_own b pt l m k i x (k.records x.to.pid) mirrors h counts sent f num off refl
      | OfBoard at_board ↦ server_own b pt l m k x x.to.pid (k.records x.to.pid) h lawful sent (known (ap is_server at_board)) refl (λ r here whole. own_board b pt l m k i x r counts mirrors f num sent at_board here whole)
      | OfManager at_manager ↦ server_own b pt l m k x x.to.pid (k.records x.to.pid) h lawful sent (known (ap is_server at_manager)) refl (λ r here whole. own_manager b pt l m k i x r counts mirrors f num sent at_manager here whole)
    ]
