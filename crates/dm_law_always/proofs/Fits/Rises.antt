-- What fits goes on fitting as long as processes are only made, end, and keep their memory.
use Rattle.dm_law_always.proofs.Names.{◌≡◌, ℕ, ◌+◌, ◌≤◌, ◌&&◌, ◌||◌, Bool, true, false, List, [], ◌∷◌, length, refl, ap, ◌∙◌, sym, subst, inl, inr, arith, if◌then◌else◌, Option, None, Some, cases_Bool, Pid, pid_eq, PlainLink, MsgId}
use Rattle.dm_law_always.proofs.Names.{PlainMessage, PlainWhat, PlainProcess, PlainStatus, Life, Alive, Ended, NamedLink, Pending, OneKernel, with_process, with_sent, without_message, pid_eq-is, stayed, came, Each, Lives}
use Rattle.dm_law_always.proofs.Names.{has_bytes, is_server, takes_users, gives_no_right, LinkFits, SlotFits, move_fits, ProcessFits, awaits, IsPending, WhatFits, KernelFits, is_for, NoteFits, PendingFits, Manager, MoveNote, PendingKind}
use Rattle.dm_law_always.proofs.Names.{zero, suc, take, drop, filter_map, nat_le, min, ⊤, slice_set, nat_tests, length-take, link_at, Direction, Reply, reg, Called, Replies, Sends, Waits, Outputs, Ends, status_awaits, eq_self, or_first}
pub use Rattle.dm_law_rule.proofs.Homes.Servers.{and-both as both}
pub use Rattle.dm_line.proofs.Below.{both_true as two}
use Rattle.dm_onekernel.specs.Manager as manage
use Rattle.dm_onekernel.specs.Pieces as pieces
use Rattle.dm_onekernel.specs.Calls as calls
use Rattle.dm_law_always.proofs.Calling.{by_call}
pub use Rattle.dm_law_one.proofs.Sound.{process_at as set_at}

abbrev pub Rises : Lives → Lives → Type 0
Rises ps qs = (p : Pid) (n : ℕ) → has_bytes n (ps p) ≡ true → has_bytes n (qs p) ≡ true

pub or_on : (a b c : Bool) → (b ≡ true → c ≡ true) → (a || b) ≡ true → (a || c) ≡ true
or_on a b c h1 h2 = search arith

pub Each-on : {X : Type 0} (P Q : X → Type 0) → ((x : X) → P x → Q x) → (xs : List X) → Each P xs → Each Q xs
Each-on P Q f [] h = tt
Each-on P Q f (x ∷ xs) h = (f x h.0, Each-on P Q f xs h.1)

pub link_on : (ps qs : Lives) → Rises ps qs → (l : PlainLink) → LinkFits ps l → LinkFits qs l
link_on ps qs up l h =
    or_on (is_server l.to && gives_no_right l.area) (has_bytes (l.area.base + l.area.len) (ps l.to)) (has_bytes (l.area.base + l.area.len) (qs l.to)) (up l.to (l.area.base + l.area.len)) h

pub slot_on : (ps qs : Lives) → Rises ps qs → (o : Option PlainLink) → SlotFits ps o → SlotFits qs o
slot_on ps qs h1 o h2 = search (arith, link_on)

pub users_on : (ps qs : Lives) → Rises ps qs → (p : Pid) → takes_users ps p ≡ true → takes_users qs p ≡ true
users_on ps qs up p h = or_on (is_server p) (has_bytes 0 (ps p)) (has_bytes 0 (qs p)) (up p 0) h

pub move_on : (ps qs : Lives) → Rises ps qs → (x y : PlainProcess) → length x.memory ≤ length y.memory → (st : PlainStatus) → move_fits ps x st ≡ true → move_fits qs y st ≡ true
move_on ps qs h1 x y h2 st h3 = search (arith, both, x.memory, two, y.memory)

pub process_on : (ps qs : Lives) → Rises ps qs → (x : PlainProcess) → ProcessFits ps x → ProcessFits qs x
process_on ps qs up x h = record { slots = Each-on (SlotFits ps) (SlotFits qs) (slot_on ps qs up) x.links h.slots; move = move_on ps qs up x x (omega arith) x.status h.move }

pub pending_fits : (ps qs : Lives) → Rises ps qs → (r : Pending) → PendingFits ps r → PendingFits qs r
pending_fits ps qs up r h = record { answer = slot_on ps qs up r.answer h.answer; making = h.making }

-- kinds that are about children: requests to make them or to move them, and the answers
abbrev pub of_child : PlainWhat → Bool
of_child (PlainWhat.Create image links) = true
of_child (PlainWhat.Created child) = true
of_child PlainWhat.NoRoom = true
of_child (PlainWhat.Move machine) = true
of_child (PlainWhat.Moved outcome) = true
of_child w = false

-- what the manager waits for stays, where the manager does
pub pending_on : (s t : OneKernel) (kind : PendingKind) (i : MsgId) → t.manager ≡ s.manager → IsPending s kind i → IsPending t kind i
pending_on s t kind i same h = record { from = h.from; pending = ap (λ (g : Manager). is_for kind (manage.pending_numbered i.n g.pending)) same ∙ h.pending }

pub note_on : (s t : OneKernel) (n : MoveNote) → t.manager ≡ s.manager → NoteFits s n → NoteFits t n
note_on s t n same h = record { asker = h.asker; unanswered = h.unanswered; pending = pending_on s t PendingKind.Move n.id same h.pending }

-- a message fits on where processes rise, whoever awaits it still does, and its request is still pending
pub what_on : (s t : OneKernel) (i : MsgId) (m : PlainMessage) (w : PlainWhat) → Rises s.processes t.processes → (awaits (s.processes i.from) i.n w ≡ true → awaits (t.processes i.from) i.n w ≡ true)
    → ((kind : PendingKind) → of_child w ≡ true → IsPending s kind i → IsPending t kind i) → t.machines ≡ s.machines → t.images ≡ s.images → WhatFits s i m w → WhatFits t i m w
what_on s t i m (PlainWhat.User code channel body links) up waits pending machines images h =
    (users_on s.processes t.processes up m.to h.0, Each-on (LinkFits s.processes) (LinkFits t.processes) (link_on s.processes t.processes up) links h.1)
what_on s t i m (PlainWhat.Read base len) up waits pending machines images h = (up m.to (base + len) h.0, waits h.1)
what_on s t i m (PlainWhat.Write base bytes) up waits pending machines images h = (up m.to (base + length bytes) h.0, waits h.1)
what_on s t i m (PlainWhat.Block bytes) up waits pending machines images h = (h.0, waits h.1)
what_on s t i m PlainWhat.Written up waits pending machines images h = (h.0, waits h.1)
what_on s t i m PlainWhat.Gone up waits pending machines images h = (h.0, waits h.1)
what_on s t i m (PlainWhat.Create image links) up waits pending machines images h = search (arith, m.to.home, Each-on, s.processes, t.processes, link_on)
what_on s t i m (PlainWhat.Created child) up waits pending machines images h =
    let (to, answer, is, made) = h in (to, answer, pending PendingKind.Create refl is, up child 0 made)
what_on s t i m PlainWhat.NoRoom up waits pending machines images h =
    let (to, answer, is) = h in (to, answer, pending PendingKind.Create refl is)
what_on s t i m (PlainWhat.Move machine) up waits pending machines images h = search (arith, m.to)
what_on s t i m (PlainWhat.Moved outcome) up waits pending machines images h =
    let (to, answer, is) = h in (to, answer, pending PendingKind.Move refl is)
what_on s t i m _ up waits pending machines images h = up m.to 0 h

-- a kernel that goes on from another, with no new message
pub record Carries (s t : OneKernel) : Type 0 where
  pub rises : Rises s.processes t.processes
  pub alive : (p : Pid) (x : PlainProcess) → t.processes p ≡ Some (Alive x) → ProcessFits s.processes x
  pub bag : (i : MsgId) (m : PlainMessage) → t.bag i ≡ Some m → s.bag i ≡ Some m
  pub waits : (i : MsgId) (m : PlainMessage) → t.bag i ≡ Some m → awaits (s.processes i.from) i.n m.what ≡ true → awaits (t.processes i.from) i.n m.what ≡ true
  pub pending : (i : MsgId) (m : PlainMessage) → t.bag i ≡ Some m → (kind : PendingKind) → of_child m.what ≡ true → IsPending s kind i → IsPending t kind i
  pub machines : t.machines ≡ s.machines
  pub images : t.images ≡ s.images
  pub names : Each (λ (k : NamedLink). LinkFits s.processes k.link) t.switchboard.names
  pub answers : Each (PendingFits s.processes) t.manager.pending
  pub notes : (p : Pid) (n : MoveNote) → t.notes p ≡ Some n → s.notes p ≡ Some n
  pub noted : (p : Pid) (n : MoveNote) → t.notes p ≡ Some n → IsPending s PendingKind.Move n.id → IsPending t PendingKind.Move n.id
  pub children : Each (λ (p : Pid). has_bytes 0 (s.processes p) ≡ true) t.manager.children

pub carries : (s t : OneKernel) → Carries s t → KernelFits s → KernelFits t
carries s t c h =
    let notes : (p : Pid) (n : MoveNote) → t.notes p ≡ Some n → NoteFits t n = λ p n is. let f = h.notes p n (c.notes p n is) in record { asker = f.asker; unanswered = f.unanswered; pending = c.noted p n is f.pending } in
    search (arith, process_on, c.rises, c.alive, what_on, c.waits, c.pending, c.machines, c.images, h.messages, c.bag, Each-on, link_on, pending_fits, notes)

-- a message goes
pub out_fits : (s : OneKernel) (id : MsgId) → KernelFits s → KernelFits (without_message s id)
out_fits s id h = carries s (without_message s id) (search (arith, h.processes, stayed, h.names, h.answers, h.children, pending_on)) h

-- a message comes
pub put_fits : (s : OneKernel) (m : PlainMessage) → WhatFits s m.id m m.what → KernelFits s → KernelFits (with_sent s (Some m))
put_fits s m fits h = record {
  processes = h.processes;
  messages = λ i x is. what_on s (with_sent s (Some m)) i x x.what (λ p n e. e) (λ e. e) (λ kind c. pending_on s (with_sent s (Some m)) kind i refl) refl refl (elim (came s m x i is) [
    | inl new ↦ subst (λ (v : PlainMessage). WhatFits s i v v.what) new.0 (subst (λ (j : MsgId). WhatFits s j m m.what) new.1 fits)
    | inr old ↦ h.messages i x old
  ]);
  names = h.names;
  answers = h.answers;
  notes = λ p n is. note_on s (with_sent s (Some m)) n refl (h.notes p n is);
  children = h.children;
}

-- a process goes on as another, or ends, or is made
pub record Becomes (s : OneKernel) (p : Pid) (life : Life) : Type 0 where
  pub bytes : (n : ℕ) → has_bytes n (s.processes p) ≡ true → has_bytes n (Some life) ≡ true
  pub waits : (i : MsgId) (m : PlainMessage) → s.bag i ≡ Some m → i.from ≡ p → awaits (s.processes p) i.n m.what ≡ true → awaits (Some life) i.n m.what ≡ true
  pub fits : (x : PlainProcess) → Some life ≡ Some (Alive x) → ProcessFits s.processes x

pub set_if : (T : Option Life → Type 0) (s : OneKernel) (p q : Pid) (life : Life) → (q ≡ p → T (s.processes p) → T (Some life)) → T (s.processes q) → T ((with_process s p life).processes q)
set_if T s p q life f h = search (arith, s.processes, pid_eq-is)

pub set_rises : (s : OneKernel) (p : Pid) (life : Life) → ((n : ℕ) → has_bytes n (s.processes p) ≡ true → has_bytes n (Some life) ≡ true) → Rises s.processes (with_process s p life).processes
set_rises s p life f q n h = set_if (λ (o : Option Life). has_bytes n o ≡ true) s p q life (λ same. f n) h

pub set_fits : (s : OneKernel) (p : Pid) (life : Life) → Becomes s p life → KernelFits s → KernelFits (with_process s p life)
set_fits s p life b h = carries s (with_process s p life) (record {
  rises = set_rises s p life b.bytes;
  alive = λ q x is. elim (cases_Bool (pid_eq p q)) [
    | inl same ↦ b.fits x (sym (ap (λ (c : Bool). if c then Some life else s.processes q) same) ∙ is)
    | inr apart ↦ h.processes q x (sym (ap (λ (c : Bool). if c then Some life else s.processes q) apart) ∙ is)
  ];
  bag = λ i m is. is;
  waits = λ i m is e. set_if (λ (o : Option Life). awaits o i.n m.what ≡ true) s p i.from life (b.waits i m is) e;
  pending = λ i m is kind c. pending_on s (with_process s p life) kind i refl;
  machines = refl;
  images = refl;
  names = h.names;
  answers = h.answers;
  notes = λ q n is. is;
  noted = λ q n is. pending_on s (with_process s p life) PendingKind.Move n.id refl;
  children = h.children;
}) h

-- a process ends
pub end_fits : (s : OneKernel) (p : Pid) (y : _) → KernelFits s → KernelFits (with_process s p (Ended y))
end_fits s p y h = set_fits s p (Ended y) (record { bytes = λ n e. refl; waits = λ i m is from e. refl; fits = λ x is. absurd (let f : Some (Ended y) ≡ Some (Alive x) = is in cc) }) h

-- What a call gives fits.

-- lists of slots
pub slots_set : (ps : Lives) (slots : List (Option PlainLink)) (k : ℕ) (o : Option PlainLink) → SlotFits ps o → Each (SlotFits ps) slots → Each (SlotFits ps) (slice_set slots k o)
slots_set ps [] k o f h = tt
slots_set ps (x ∷ xs) zero o f h = (f, h.1)
slots_set ps (x ∷ xs) (suc k) o f h = (h.0, slots_set ps xs k o f h.1)

pub slots_at : (ps : Lives) (slots : List (Option PlainLink)) (k : ℕ) → Each (SlotFits ps) slots → SlotFits ps (link_at slots k)
slots_at ps [] k h = tt
slots_at ps (x ∷ xs) zero h = h.0
slots_at ps (x ∷ xs) (suc k) h = slots_at ps xs k h.1

pub slot_link : (ps : Lives) (slots : List (Option PlainLink)) (k : ℕ) (l : PlainLink) → link_at slots k ≡ Some l → Each (SlotFits ps) slots → LinkFits ps l
slot_link ps slots k l e h = search (arith, link_at slots k, slots_at ps slots k h)

emptied : (ps : Lives) (b : Bool) (slots : List (Option PlainLink)) (k : ℕ) → Each (SlotFits ps) slots → Each (SlotFits ps) (if b then slice_set slots k None else slots)
emptied ps b slots k h1 = search (arith, slots_set)

without_replies_fit : (ps : Lives) (ss : List ℕ) (slots : List (Option PlainLink)) → Each (SlotFits ps) slots → Each (SlotFits ps) (calls.without_replies slots ss)
without_replies_fit ps [] slots h = h
without_replies_fit ps (s ∷ ss) slots h =
    without_replies_fit ps ss (if calls.holds_reply (link_at slots s) then slice_set slots s None else slots) (emptied ps (calls.holds_reply (link_at slots s)) slots s h)

links_of_fit : (ps : Lives) (slots : List (Option PlainLink)) (ss : List ℕ) → Each (SlotFits ps) slots → Each (LinkFits ps) (calls.links_in_slots slots ss)
links_of_fit ps slots [] h = tt
links_of_fit ps slots (s ∷ ss) h = search (arith, link_at slots s, filter_map (link_at slots) ss, slots_at ps slots s h, links_of_fit ps slots ss h)

-- a process that goes on: its memory is as it was
pub record Goes (ps : Lives) (x y : PlainProcess) : Type 0 where
  pub memory : y.memory ≡ x.memory
  pub slots : Each (SlotFits ps) y.links
  pub move : move_fits ps y y.status ≡ true

-- what a process sends: a user message, or the request that it waits for
abbrev pub SentFits : Lives → PlainProcess → PlainMessage → PlainWhat → Type 0
SentFits ps y m (PlainWhat.User code channel body links) = (takes_users ps m.to ≡ true) × Each (LinkFits ps) links
SentFits ps y m (PlainWhat.Read base len) = (has_bytes (base + len) (ps m.to) ≡ true) × (status_awaits y.status m.id.n (PlainWhat.Read base len) ≡ true)
SentFits ps y m (PlainWhat.Write base bytes) = (has_bytes (base + length bytes) (ps m.to) ≡ true) × (status_awaits y.status m.id.n (PlainWhat.Write base bytes) ≡ true)
SentFits ps y m w = ⊥

pub record Requests (ps : Lives) (x : PlainProcess) (m : PlainMessage) (y : PlainProcess) : Type 0 where
  pub goes : Goes ps x y
  pub what : SentFits ps y m m.what

abbrev pub CallFits : Lives → PlainProcess → Called → Type 0
CallFits ps x (Replies c y) = Goes ps x y
CallFits ps x (Sends m y) = Requests ps x m y
CallFits ps x (Waits y) = Goes ps x y
CallFits ps x (Outputs w y) = Goes ps x y
CallFits ps x (Ends y) = ⊤

pub still_move : (ps : Lives) (x y : PlainProcess) → y.memory ≡ x.memory → y.status ≡ x.status → move_fits ps x x.status ≡ true → move_fits ps y y.status ≡ true
still_move ps x y memory status h = search (arith, y.memory, x.memory, move_on, x.status)

-- only the registers change
regs_go : (ps : Lives) (x y : PlainProcess) → y.memory ≡ x.memory → y.links ≡ x.links → y.status ≡ x.status → ProcessFits ps x → Goes ps x y
regs_go ps x y memory links status h = search (arith, h.slots, still_move, h.move)

-- the bytes that a process has
abbrev pub Has : Lives → Pid → PlainProcess → Type 0
Has ps p x = (n : ℕ) → nat_le n (length x.memory) ≡ true → has_bytes n (ps p) ≡ true

has_less : (m n : ℕ) (o : Option Life) → m ≤ n → has_bytes n o ≡ true → has_bytes m o ≡ true
has_less m n o h1 h2 = search arith

pub link_users : (ps : Lives) (l : PlainLink) → LinkFits ps l → takes_users ps l.to ≡ true
link_users ps l h = search (arith, has_less)

pub piece_less : (left : ℕ) → pieces.piece_of left ≤ left
piece_less left = grind (arith, nat_tests)

-- the request for a piece of a move that lies within both memories
pub requests_fit : (ps : Lives) (p : Pid) (x z : PlainProcess) (dir : Direction) (owner : Pid) (base own left : ℕ) → z.memory ≡ x.memory → z.links ≡ x.links → has_bytes (base + left) (ps owner) ≡ true → nat_le (own + left) (length x.memory) ≡ true → Each (SlotFits ps) x.links
    → Requests ps x (pieces.requests p z dir owner base own left).message (pieces.requests p z dir owner base own left).process
requests_fit ps p x z Direction.FromArea owner base own left memory links has within slots = search (arith, two, z.memory, piece_less, has_less, z.sent, eq_self)
requests_fit ps p x z Direction.IntoArea owner base own left memory links has within slots =
    let bytes = take (pieces.piece_of left) (drop own z.memory) in
    let le = piece_less left in
    let size : length bytes ≡ min (pieces.piece_of left) (length (drop own z.memory)) = length-take (pieces.piece_of left) (drop own z.memory) in
    grind (arith, nat_tests, z.memory, two, has_less, z.sent, eq_self)

-- a link with a right leads to a process whose memory has its area
pub right_is : (ps : Lives) (l : PlainLink) (dir : Direction) → calls.lacks_right dir l.area ≡ false → LinkFits ps l → has_bytes (l.area.base + l.area.len) (ps l.to) ≡ true
right_is ps l dir h1 h2 = search (arith, l.to, l.area.read, l.area.write, l.area.base, l.area.len)

-- a slot is set
set_go : (ps : Lives) (x y : PlainProcess) (k : ℕ) (o : Option PlainLink) → SlotFits ps o → ProcessFits ps x → y.memory ≡ x.memory → y.status ≡ x.status → y.links ≡ slice_set x.links k o → Goes ps x y
set_go ps x y k o f h memory status links = record { memory = memory; slots = subst (Each (SlotFits ps)) (sym links) (slots_set ps x.links k o f h.slots); move = still_move ps x y memory status h.move }

pub call_fits : (ps : Lives) (p : Pid) (x : PlainProcess) (n : ℕ) → Has ps p x → ProcessFits ps x → CallFits ps x (calls.call p x n)
call_fits ps p x n has h = by_call (CallFits ps x) p x n (record {
  refuses = λ c. regs_go ps x (calls.replied c x) refl refl refl h;
  outputs = regs_go ps x (calls.replied Reply.Done x) refl refl refl h;
  makes = λ slot e.
      (let within : nat_le (reg x.regs 4 + reg x.regs 5) (length x.memory) ≡ true = grind (arith, nat_tests) in
      let a = (calls.own_link p x).area in
      let fits = or_first (is_server p && gives_no_right a) (has_bytes (reg x.regs 4 + reg x.regs 5) (ps p)) (has (reg x.regs 4 + reg x.regs 5) within) in
      set_go ps x _ slot (Some (calls.own_link p x)) fits h refl refl refl);
  copies = λ l slot is. set_go ps x _ slot (Some l) (slot_link ps x.links (reg x.regs 1) l is h.slots) h refl refl refl;
  drops = λ l. set_go ps x _ (reg x.regs 1) None tt h refl refl refl;
  sends = λ l is few. record {
    goes = record { memory = refl; slots = without_replies_fit ps (reg x.regs 1 ∷ calls.listed x) x.links h.slots; move = still_move ps x (calls.after_send x) refl refl h.move };
    what = (link_users ps l (slot_link ps x.links (reg x.regs 1) l is h.slots), links_of_fit ps x.links (calls.listed x) h.slots);
  };
  waits = record { memory = refl; slots = h.slots; move = refl };
  moves = λ l dir is right lies off.
      (let area = right_is ps l dir right (slot_link ps x.links (reg x.regs 1) l is h.slots) in
      let less : reg x.regs 3 + reg x.regs 5 ≤ l.area.len = grind (arith, nat_tests) in
      let there = has_less (l.area.base + reg x.regs 3 + reg x.regs 5) (l.area.base + l.area.len) (ps l.to) (omega (arith, less)) area in
      let within : nat_le (reg x.regs 4 + reg x.regs 5) (length x.memory) ≡ true = grind (arith, nat_tests) in
      requests_fit ps p x x dir l.to (l.area.base + reg x.regs 3) (reg x.regs 4) (reg x.regs 5) refl refl there within h.slots);
  ends = λ y. tt;
})
