-- A process that is made, or not for want of room, keeps that all fits.
use Rattle.dm_law_always.proofs.Names.{◌≡◌, ℕ, zero, suc, ◌+◌, ◌-◌, true, List, [], ◌∷◌, ◌++◌, length, map, replicate, refl, ap, ◌∙◌, sym, subst, nat_le, arith, Option, None, Some, false≢true, nat_tests, Pid, pid_of, PlainLink, MsgId}
use Rattle.dm_law_always.proofs.Names.{PlainMessage, PlainWhat, BootImage, first_number, slots_of, Format, Life, Alive, OneKernel, with_process, with_sent, answer_id, answer_to, without_message, begun, Sound, Each, Lives, has_bytes, LinkFits}
use Rattle.dm_law_always.proofs.Names.{SlotFits, ProcessFits, awaits, IsPending, WhatFits, KernelFits, PendingKind, Bool, Label, bind, PlainProcess, PlainStatus, pending_of, bind-is, status_awaits, ◌≤◌, false, ⊤, if◌then◌else◌, common_steps}
use Rattle.dm_law_always.proofs.Names.{first_empty, Row, instruction, written_at, at_hand-is, Runs, move_fits, running_is, KeepsLengths, Regs, instruction-lengths, none_some}
use Rattle.dm_onekernel.specs.Service as service
use Rattle.dm_onekernel.specs.Step as kernel
use Rattle.dm_onekernel.specs.Receiving as receiving
use Rattle.dm_onekernel.specs.Calls as calls
use Rattle.dm_law_always.proofs.Fits.Rises.{Becomes, carries, set_fits, set_at, out_fits, put_fits, pending_on, Rises, Each-on, link_on, users_on, move_on, set_rises, Goes, SentFits, Requests, CallFits, call_fits, slots_set}

-- a request is answered under its number
pub pending_at : (s u : OneKernel) (kind : PendingKind) (id : MsgId) (m : PlainMessage) → m.id ≡ id → u.manager ≡ s.manager → IsPending s kind id → IsPending u kind (answer_id m.id)
pending_at s u kind id m name same p = search (arith, p.from, u.manager.pending, id.n, p.pending)

pub no_space_fits : (r e : MsgId → ℕ) (s : OneKernel) (id : MsgId) (m : PlainMessage) (image : ℕ) (links : List PlainLink) → WhatFits s id m (PlainWhat.Create image links) → s.bag id ≡ Some m → Sound r e s → KernelFits s → KernelFits (with_sent (without_message s id) (Some (answer_to m PlainWhat.NoRoom)))
no_space_fits r e s id m image links f there h fits = search (arith, put_fits, pending_at, h.entered.named, out_fits)

-- a process is made
none_slots : (ps : Lives) (n : ℕ) → Each (SlotFits ps) (replicate n None)
none_slots ps zero = tt
none_slots ps (suc n) = (tt, none_slots ps n)

some_slots : (ps : Lives) (ls : List PlainLink) (rest : List (Option PlainLink)) → Each (LinkFits ps) ls → Each (SlotFits ps) rest → Each (SlotFits ps) (map Some ls ++ rest)
some_slots ps [] rest f h = h
some_slots ps (l ∷ ls) rest f h = (f.0, some_slots ps ls rest f.1 h)

pub begun_fits : (ps : Lives) (format : Format) (image : BootImage) (links : List PlainLink) → Each (LinkFits ps) links → ProcessFits ps (begun format image links)
begun_fits ps format image links f =
    record { slots = some_slots ps links (replicate (slots_of format - length links) None) f (none_slots ps (slots_of format - length links)); move = refl }

pub fresh_child : (r e : MsgId → ℕ) (s : OneKernel) (child : Pid) (home : ℕ) → child ≡ pid_of home (first_number + s.made home) → Sound r e s → s.processes child ≡ None
fresh_child r e s child home is h = search (arith, s.processes, h.made.most, child.num, s.made, child.home)

pub created_fits : (r e : MsgId → ℕ) (s : OneKernel) (id : MsgId) (m : PlainMessage) (child : Pid) (image : BootImage) (links : List PlainLink) (number : ℕ) → WhatFits s id m (PlainWhat.Create number links) → s.bag id ≡ Some m → child ≡ pid_of m.to.home (first_number + s.made m.to.home) → Sound r e s → KernelFits s
    → KernelFits (with_sent (service.with_created (without_message s id) child image links) (Some (answer_to m (PlainWhat.Created child))))
created_fits r e s id m child image links number f there name h fits =
    let none = fresh_child r e s child m.to.home name h in
    let (num, home, numbered, sender, request, pending, each) = f in
    let y = begun s.format image links in
    let v = without_message s id in
    let w = with_process v child (Alive y) in
    let u = service.with_created v child image links in
    let b : Becomes v child (Alive y) = record {
      bytes = λ n g. absurd (false≢true (sym (ap (has_bytes n) none) ∙ g));
      waits = λ i n stands from g. absurd (false≢true (sym (ap (λ (o : Option Life). awaits o i.n n.what) none) ∙ g));
      fits = λ z g. let same : y ≡ z = cc in subst (ProcessFits v.processes) same (begun_fits v.processes s.format image links each);
    } in
    let on = set_fits v child (Alive y) b (out_fits s id fits) in
    let up = carries w u (search (arith, on.processes, pending_on, on.names, on.answers, on.children)) on in
    put_fits u (answer_to m (PlainWhat.Created child)) (sender, refl, pending_at s u PendingKind.Create id m (h.entered.named id m there) refl pending, ap (has_bytes 0) (set_at v child (Alive y)) ∙ (let z : nat_le 0 (length y.memory) ≡ true = grind (arith, nat_tests) in z)) up

-- Each label of a process keeps that all fits.

-- a process that executes
-- memory never shrinks
pub written_longer : (memory : List ℕ) (base : ℕ) (bytes : List ℕ) → length memory ≤ length (written_at memory base bytes)
written_longer memory base bytes = grind (arith, common_steps)

plain_length : (w : Row) (regs : Regs) (bytes : List ℕ) (m : kernel.Machine) → KeepsLengths w regs bytes → kernel.plain_row w ≡ Some m → length m.bytes ≡ length bytes
plain_length w regs bytes m h1 h2 = search arith

pub steps_length : (k : ℕ) (m n : kernel.Machine) → kernel.plain_steps k m ≡ Some n → length n.bytes ≡ length m.bytes
steps_length zero m n e = let f : m ≡ n = cc in sym (ap (λ (v : kernel.Machine). length v.bytes) f)
steps_length (suc k) m n e =
    let (mid, before, last) = bind-is (kernel.plain_steps k m) (λ (w : kernel.Machine). kernel.plain_row (instruction w.regs w.bytes)) n e in
    plain_length (instruction mid.regs mid.bytes) mid.regs mid.bytes n (instruction-lengths mid.regs mid.bytes) last ∙ steps_length k m mid before

-- a process that goes on, and whose memory doesn't shrink
pub record GoesOn (ps : Lives) (x y : PlainProcess) : Type 0 where
  pub memory : length x.memory ≤ length y.memory
  pub slots : Each (SlotFits ps) y.links
  pub move : move_fits ps y y.status ≡ true

-- what comes next of a process that executes
abbrev pub NextFits : Lives → PlainProcess → kernel.Trap → Type 0
NextFits ps x (kernel.Calls number called) = CallFits ps x called
NextFits ps x (kernel.Faults fault) = ⊤

pub record NextIs (s : OneKernel) (p : Pid) (n : kernel.Trap) : Type 0 where
  pub x : PlainProcess
  pub is : Runs s p x
  pub z : PlainProcess
  pub memory : z.memory ≡ x.memory
  pub fits : NextFits s.processes z n

alive_has : (s : OneKernel) (p : Pid) (x : PlainProcess) (n : ℕ) → s.processes p ≡ Some (Alive x) → nat_le n (length x.memory) ≡ true → has_bytes n (s.processes p) ≡ true
alive_has s p x n is e = ap (has_bytes n) is ∙ e

next_row_is : (s : OneKernel) (p : Pid) (x : PlainProcess) (w : Row) (n : kernel.Trap) → Runs s p x → KernelFits s → kernel.next_row p x w ≡ Some n → NextIs s p n
next_row_is s p x (Row.Plain regs bytes) n is h e = none_some n e
next_row_is s p x (Row.Calls number regs) n is h e =
    let z = record x { regs = regs } in
    let f : kernel.Calls number (calls.call p z number) ≡ n = cc in
    let fits = h.processes p x is.alive in
    record {
      x = x;
      is = is;
      z = z;
      memory = refl;
      fits = subst (NextFits s.processes z) f (call_fits s.processes p z number (λ k e. alive_has s p x k is.alive e) (record { slots = fits.slots; move = move_on s.processes s.processes (λ q k g. g) x z (omega arith) x.status fits.move }));
    }
next_row_is s p x (Row.Faults fault) n is h e =
    let f : kernel.Faults fault ≡ n = cc in
    record { x = x; is = is; z = x; memory = refl; fits = subst (NextFits s.processes x) f tt }

pub next_is : (s : OneKernel) (p : Pid) (n : kernel.Trap) → KernelFits s → kernel.next_trap s p ≡ Some n → NextIs s p n
next_is s p n h e =
    let (x, running, row_is) = bind-is (kernel.running s p) (λ (v : PlainProcess). kernel.next_row p v (instruction v.regs v.memory)) n e in
    next_row_is s p x (instruction x.regs x.memory) n (running_is s p x running) h row_is

-- links are placed
placed_step : (ps : Lives) (t : receiving.RegsAndLinks) (r : ℕ) (l : PlainLink) (o : Option ℕ) → LinkFits ps l → Each (SlotFits ps) t.links → Each (SlotFits ps) (receiving.place_into t r l o).links
placed_step ps t r l o h1 h2 = search (arith, slots_set, t.links)

placed_fit : (ps : Lives) (ls : List PlainLink) (t : receiving.RegsAndLinks) (r : ℕ) → Each (LinkFits ps) ls → Each (SlotFits ps) t.links → Each (SlotFits ps) (receiving.place_links t r ls).links
placed_fit ps [] t r f h = h
placed_fit ps (l ∷ ls) t r f h = placed_fit ps ls (receiving.place_into t r l (first_empty t.links)) (r + 1) f.1 (placed_step ps t r l (first_empty t.links) f.0 h)

abbrev pub CompletedFits : Lives → PlainProcess → receiving.Completed → Type 0
CompletedFits ps x (receiving.Receives y) = GoesOn ps x y
CompletedFits ps x (receiving.Refuses c y) = GoesOn ps x y

completes_what_fits : (s : OneKernel) (p : Pid) (x : PlainProcess) (i : MsgId) (m : PlainMessage) (mask base size : ℕ) (w : PlainWhat) (d : receiving.Completed) → WhatFits s i m w → ProcessFits s.processes x → receiving.completes_what p x m mask base size w ≡ Some d
    → CompletedFits s.processes x d
completes_what_fits s p x i m mask base size w d h1 h2 h3 = search (arith, s.processes, m.to, written_longer, placed_fit)

abbrev StatusCompletes : OneKernel → PlainProcess → PlainStatus → receiving.Completed → Type 0
StatusCompletes s x st d = (pending_of st ≡ None) × CompletedFits s.processes x d

completes_with_fits : (s : OneKernel) (p : Pid) (x : PlainProcess) (i : MsgId) (m : PlainMessage) (b : Bool) (d : receiving.Completed) → WhatFits s i m m.what → ProcessFits s.processes x → (if b then None else receiving.completes_status p x m x.status) ≡ Some d
    → StatusCompletes s x x.status d
completes_with_fits s p x i m true d f h e = none_some d e
completes_with_fits s p x i m false d f h e = search (arith, x.status, completes_what_fits)

pub record Completing (s : OneKernel) (p : Pid) (d : receiving.Completed) : Type 0 where
  pub x : PlainProcess
  pub alive : s.processes p ≡ Some (Alive x)
  pub still : pending_of x.status ≡ None
  pub fits : CompletedFits s.processes x d

pub completing_is : (s : OneKernel) (p : Pid) (id : MsgId) (d : receiving.Completed) → KernelFits s → kernel.completing s p id ≡ Some d → Completing s p d
completing_is s p id d h e =
    let (x, is, rest) = bind-is (kernel.at_hand s p) (λ (v : PlainProcess). bind (s.bag id) (receiving.completes_with p v)) d e in
    let (m, there, last) = bind-is (s.bag id) (receiving.completes_with p x) d rest in
    let (free, alive) = at_hand-is s p x is in
    let k = completes_with_fits s p x id m x.stopped d (h.messages id m there) (h.processes p x alive) last in
    record { x = x; alive = alive; still = k.0; fits = k.1 }

-- Each label of a process keeps that all fits.

-- what a living process becomes, whoever awaits it
pub becomes : (s : OneKernel) (p : Pid) (x y : PlainProcess) → s.processes p ≡ Some (Alive x) → GoesOn s.processes x y → ((i : MsgId) (m : PlainMessage) → s.bag i ≡ Some m → i.from ≡ p → status_awaits x.status i.n m.what ≡ true → status_awaits y.status i.n m.what ≡ true)
    → Becomes s p (Alive y)
becomes s p x y is goes waits = search (arith, x.memory, goes.memory, y.memory, s.processes, goes.slots, goes.move)

-- a process that moves no data is awaited by nobody
pub unawaited : (st : PlainStatus) (n : ℕ) (w : PlainWhat) (b : Bool) → pending_of st ≡ None → status_awaits st n w ≡ true → b ≡ true
unawaited st n w b h1 h2 = search arith

pub goes_fits : (s : OneKernel) (p : Pid) (x y : PlainProcess) → s.processes p ≡ Some (Alive x) → pending_of x.status ≡ None → GoesOn s.processes x y → KernelFits s → KernelFits (kernel.goes_on s p y)
goes_fits s p x y is still goes h = search (arith, set_fits, becomes, unawaited)

goes_of : (ps : Lives) (x z y : PlainProcess) → z.memory ≡ x.memory → Goes ps z y → GoesOn ps x y
goes_of ps x z y memory g = search (arith, y.memory, x.memory, g.memory, g.slots, g.move)

-- a process goes on after a call
pub call_goes : (s : OneKernel) (p : Pid) (n : kernel.Trap) (y : PlainProcess) → NextIs s p n → ((z : PlainProcess) → NextFits s.processes z n → Goes s.processes z y) → KernelFits s → KernelFits (kernel.goes_on s p y)
call_goes s p n y w goes h = goes_fits s p w.x y w.is.alive w.is.still (goes_of s.processes w.x w.z y w.memory (goes w.z w.fits)) h

-- ran
pub ran_fits : (s t : OneKernel) (p : Pid) (k : ℕ) → kernel.step s (Label.Ran p k) ≡ Some t → KernelFits s → KernelFits t
ran_fits s t p k is h =
    let (x, running, rest) = bind-is (kernel.running s p) (λ (w : PlainProcess). bind (kernel.plain_steps k (kernel.machine_of w)) (λ (m : kernel.Machine). Some (kernel.goes_on s p (kernel.with_machine w m)))) t is in
    let (m, plain, last) = bind-is (kernel.plain_steps k (kernel.machine_of x)) (λ (m : kernel.Machine). Some (kernel.goes_on s p (kernel.with_machine x m))) t rest in
    let eq : kernel.goes_on s p (kernel.with_machine x m) ≡ t = cc in
    let w = running_is s p x running in
    let fits = h.processes p x w.alive in
    let size : length m.bytes ≡ length x.memory = steps_length k (kernel.machine_of x) m plain in
    subst KernelFits eq (goes_fits s p x (kernel.with_machine x m) w.alive w.still (search (arith, fits.slots, move_on, s.processes, x.status, fits.move)) h)

-- what is sent fits where its sender goes on
pub sent_fits : (s u : OneKernel) (p : Pid) (y : PlainProcess) (m : PlainMessage) (w : PlainWhat) → Rises s.processes u.processes → u.processes p ≡ Some (Alive y) → m.id.from ≡ p → SentFits s.processes y m w → WhatFits u m.id m w
sent_fits s u p y m w h1 h2 h3 h4 = search (arith, users_on, s.processes, u.processes, m.to, Each-on, link_on, m.id.n)

pub send_goes : (s : OneKernel) (p : Pid) (n : kernel.Trap) (m : PlainMessage) (y : PlainProcess) → NextIs s p n → ((z : PlainProcess) → NextFits s.processes z n → Requests s.processes z m y) → m.id.from ≡ p → KernelFits s → KernelFits (with_sent (kernel.goes_on s p y) (Some m))
send_goes s p n m y w sends from h =
    let f = sends w.z w.fits in
    let b = becomes s p w.x y w.is.alive (goes_of s.processes w.x w.z y w.memory f.goes) (λ i k there from e. unawaited w.x.status i.n k.what (status_awaits y.status i.n k.what) w.is.still e) in
    put_fits (kernel.goes_on s p y) m (sent_fits s (kernel.goes_on s p y) p y m m.what (set_rises s p (Alive y) b.bytes) (set_at s p (Alive y)) from f.what) (set_fits s p (Alive y) b h)
