-- What serving a process gives, from what its parts give.
use Rattle.dm_kernel.proofs.Names.{◌≡◌, ◌∙◌, ℕ, zero, suc, ◌/◌, Bool, true, false, ◌==◌, List, [], ◌∷◌, length, refl, ap, sym, subst, if◌then◌else◌, Some, None, IsSome, slice_get, ◌<◌, arith, rules, Option, Link, Pid, plain_link}
use Rattle.dm_kernel.proofs.Names.{first_empty, link_at, pid_eq_self, Message, Row, instruction, KeepsLengths, instruction-lengths, Process, Direction, Status, IsLawfulProcess, IsLawfulStatus, direction_numbered, first_on, is_on, Takes}
use Rattle.dm_kernel.proofs.Names.{HasTaken, Taken, Here, Frozen, Incoming, Forward, process_in, with_record, Reply, CallNumber, Exit, Out, Make, Copy, Drop, Send, Receive, Move, Unknown, call_number, is_outside, is_reply, make_refusals}
use Rattle.dm_kernel.proofs.Names.{move_refusals, send_refusals, bind, plain_process, reg, first_failed, Machine, Called, Done, after_send, calls, copies, does_call, message_over, moves, moves_bytes, moves_over, own_link, puts_link}
use Rattle.dm_kernel.proofs.Names.{replied, sends, unless_refused, waits, whole, KernelState, KernelKnown, blocks_of, with_here, Ran, after_row, called_with, does, executes, halts, processor_of, ran, receives, serves, serves_status}
use Rattle.dm_kernel.proofs.Names.{with_machine, CanTellAll, MayAct, IsHere, Why, begins, ends}
use Rattle.dm_kernel.specs.Served.{HasPlace}
use Rattle.dm_resident.specs.declared.Resident.TheVariants as resident
use Rattle.dm_processor.specs.Instructions as row
use Rattle.dm_process.specs.declared.process.Status.TheVariants as status
use Rattle.dm_onekernel.specs.declared.label.Reply.TheVariants as reply
use Rattle.dm_syscall.specs.declared.Called.TheVariants as called
use Rattle.dm_syscall.specs.Calls.{drops}
use Rattle.dm_syscall.specs.Completing.{IsAwaited}
use Rattle.dm_kernel.proofs.Known.{of_here, there}

-- instructions keep the number of the registers and the length of the memory
pub record Keeps (m n : Machine) : Type 0 where
  pub registers : length n.regs.r ≡ length m.regs.r
  pub memory : length n.bytes ≡ length m.bytes

row_keeps : (m : Machine) (r : Row) (go : Machine → Ran) → KeepsLengths r m.regs m.bytes → ((n : Machine) → Keeps n (go n).machine) → Keeps m (after_row m r go).machine
row_keeps m (row.Plain regs bytes) go k h =
    let next : Keeps (record { regs = regs; bytes = bytes }) (go (record { regs = regs; bytes = bytes })).machine = h (record { regs = regs; bytes = bytes }) in
    record { registers = next.registers ∙ k.0; memory = next.memory ∙ k.1 }
row_keeps m (row.Calls n regs) go k h = record { registers = k; memory = refl }
row_keeps m (row.Faults f) go k h = record { registers = refl; memory = refl }

pub ran_keeps : (quantum : ℕ) (m : Machine) → Keeps m (ran quantum m).machine
ran_keeps zero m = record { registers = refl; memory = refl }
ran_keeps (suc k) m = row_keeps m (instruction m.regs m.bytes) (ran k) (instruction-lengths m.regs m.bytes) (λ n. ran_keeps k n)

pub has_run : (quantum : ℕ) (x : Process) (r : Ran) → ran quantum (processor_of x) ≡ r → Keeps (processor_of x) r.machine
has_run quantum x r e = subst (λ (r : Ran). Keeps (processor_of x) r.machine) e (ran_keeps quantum (processor_of x))

pub runs_lawfully : (x : Process) (m : Machine) → Keeps (processor_of x) m → x.status ≡ status.Ready → IsLawfulProcess x → IsLawfulProcess (with_machine x m)
runs_lawfully x m k ready lawful =
    record {
      home = lawful.home;
      registers = k.registers ∙ lawful.registers;
      size = (lawful.size.0, k.memory ∙ lawful.size.1, lawful.size.2, lawful.size.3);
      links = lawful.links;
      slots = lawful.slots;
      status = subst (IsLawfulStatus (length m.bytes)) (sym ready) tt;
      queue = lawful.queue;
    }

-- what executing comes to
pub executes_as : (s : KernelState) (p : Pid) (quantum : ℕ) (x : Process) (r : Ran) → process_in (s.records p) ≡ Some x → ran quantum (processor_of x) ≡ r
    → bind (process_in (s.records p)) (λ x. executes s p x (ran quantum (processor_of x))) ≡ halts s p r.count (with_machine x r.machine) r.halt
executes_as s p quantum x r e h = of_here (process_in (s.records p)) x (λ x. executes s p x (ran quantum (processor_of x))) e ∙ ap (executes s p x) h

pub called_as : (s t : KernelState) (p : Pid) (k n : ℕ) (w : Process) (d : Done) (result : Called) → t ≡ with_here s p w → w ≡ d.process → result ≡ d.called
    → bind (process_in (t.records p)) (λ x. called_with t p k n x result) ≡ does s p k n d
called_as s t p k n w d result e a b =
    ap (λ (t : KernelState). bind (process_in (t.records p)) (λ x. called_with t p k n x result)) e
    ∙ of_here (process_in ((with_here s p w).records p)) w (λ x. called_with (with_here s p w) p k n x result) (there s p w)
    ∙ (λ i. called_with (with_here s p (a i)) p k n (a i) (b i))

pub ended_as : (s t : KernelState) (p : Pid) (k : ℕ) (w : Process) (y : Why) → t ≡ with_here s p w → bind (process_in (t.records p)) (λ x. ends t p k x y) ≡ ends (with_here s p w) p k w y
ended_as s t p k w y e =
    ap (λ (t : KernelState). bind (process_in (t.records p)) (λ x. ends t p k x y)) e ∙ of_here (process_in ((with_here s p w).records p)) w (λ x. ends (with_here s p w) p k x y) (there s p w)

-- serving a process that is ready, and one that waits
pub serves_ready : (quantum : ℕ) (s : KernelState) (p : Pid) (o : Option KernelKnown) → IsHere (λ x. x.status ≡ status.Ready) o
    → bind (process_in o) (λ x. executes s p x (ran quantum (processor_of x))) ≡ serves quantum s p o
serves_ready quantum s p None h = absurd h
serves_ready quantum s p (Some (Here (resident.Process x))) h = sym (ap (serves_status quantum s p x) h)
serves_ready quantum s p (Some (Here (resident.Board v))) h = absurd h
serves_ready quantum s p (Some (Here (resident.Manager v))) h = absurd h
serves_ready quantum s p (Some (Frozen leaving)) h = absurd h
serves_ready quantum s p (Some (Incoming arriving)) h = absurd h
serves_ready quantum s p (Some (Forward machine moves)) h = absurd h

pub serves_waiting : (quantum : ℕ) (s : KernelState) (p : Pid) (mask place : ℕ) (o : Option KernelKnown) → IsHere (λ x. Takes x mask place) o
    → bind (process_in o) (λ x. receives s p x mask (first_on mask x.queue)) ≡ serves quantum s p o
serves_waiting quantum s p mask place None h = absurd h
serves_waiting quantum s p mask place (Some (Here (resident.Process x))) h = sym (ap (serves_status quantum s p x) h.waits)
serves_waiting quantum s p mask place (Some (Here (resident.Board v))) h = absurd h
serves_waiting quantum s p mask place (Some (Here (resident.Manager v))) h = absurd h
serves_waiting quantum s p mask place (Some (Frozen leaving)) h = absurd h
serves_waiting quantum s p mask place (Some (Incoming arriving)) h = absurd h
serves_waiting quantum s p mask place (Some (Forward machine moves)) h = absurd h

-- it has its slot and its blocks still
pub has_place : (s t : KernelState) (p : Pid) (x y : Process) (records : Pid → Option KernelKnown) → t.room ≡ s.room → CanTellAll t → ((q : Pid) → t.records q ≡ with_record records p (Here (resident.Process y)) q)
    → length y.memory ≡ length x.memory → MayAct s p x → IsHere (HasPlace t) (t.records p)
has_place s t p x y records room sent set size may =
    let e : t.records p ≡ Some (Here (resident.Process y)) = set p ∙ rw (pid_eq_self p) refl in
    subst (IsHere (HasPlace t)) (sym e) (record { sent = sent; room = subst (λ (n : ℕ). HasTaken t.room (n / 256)) (sym size) (subst (λ (r : Taken). HasTaken r (blocks_of x)) (sym room) may.room) })

-- no call changes the memory
unless_keeps : (o : Option Reply) (p : Process) (d : Done) → d.process.memory ≡ p.memory → (unless_refused o p d).process.memory ≡ p.memory
unless_keeps None p d h = h
unless_keeps (Some c) p d h = refl

if_keeps : (b : Bool) (p : Process) (d e : Done) → d.process.memory ≡ p.memory → e.process.memory ≡ p.memory → (if b then d else e).process.memory ≡ p.memory
if_keeps true p d e f g = f
if_keeps false p d e f g = g

puts_keeps : (p : Process) (l : Link) (o : Option ℕ) → (puts_link p l o).process.memory ≡ p.memory
puts_keeps p l None = refl
puts_keeps p l (Some slot) = refl

copies_keeps : (p : Process) (o : Option Link) → (copies p o).process.memory ≡ p.memory
copies_keeps p None = refl
copies_keeps p (Some l) = if_keeps (is_reply l.kind) p (replied reply.NotCopyable p) (puts_link p l (first_empty p.table)) refl (puts_keeps p l (first_empty p.table))

drops_keeps : (p : Process) (o : Option Link) → (drops p o).process.memory ≡ p.memory
drops_keeps p None = refl
drops_keeps p (Some l) = refl

sends_keeps : (here : ℕ) (p : Process) (o : Option Link) → (sends here p o).process.memory ≡ p.memory
sends_keeps here p None = refl
sends_keeps here p (Some l) =
    unless_keeps (first_failed (send_refusals (plain_process p))) p (record { called = called.Sent (message_over here p l); process = after_send p }) refl

waits_keeps : (p : Process) → (waits p).process.memory ≡ p.memory
waits_keeps p =
    if_keeps (is_outside (plain_process p) (reg p.regs 2) (reg p.regs 3)) p (replied reply.BadRange p)
    (record { called = called.Waits; process = record p { status = status.Waiting (reg p.regs 1) (reg p.regs 2) (reg p.regs 3) } })
    refl
    refl

over_keeps : (here : ℕ) (p : Process) (l : Link) (o : Option Direction) → (moves_over here p l o).process.memory ≡ p.memory
over_keeps here p l None = refl
over_keeps here p l (Some dir) =
    unless_keeps (first_failed (move_refusals (plain_process p) (plain_link l) dir)) p (moves_bytes here p l dir)
    (if_keeps (reg p.regs 5 == 0) p (replied reply.Done p) (begins here p (whole p l dir)) refl refl)

moves_keeps : (here : ℕ) (p : Process) (o : Option Link) → (moves here p o).process.memory ≡ p.memory
moves_keeps here p None = refl
moves_keeps here p (Some l) = over_keeps here p l (direction_numbered (reg p.regs 2))

does_keeps : (here : ℕ) (p : Process) (k : CallNumber) → (does_call here p k).process.memory ≡ p.memory
does_keeps here p Exit = refl
does_keeps here p Out = refl
does_keeps here p Make = unless_keeps (first_failed (make_refusals (plain_process p))) p (puts_link p (own_link here p) (first_empty p.table)) (puts_keeps p (own_link here p) (first_empty p.table))
does_keeps here p Copy = copies_keeps p (link_at p.table (reg p.regs 1))
does_keeps here p Drop = drops_keeps p (link_at p.table (reg p.regs 1))
does_keeps here p Send = sends_keeps here p (link_at p.table (reg p.regs 1))
does_keeps here p Receive = waits_keeps p
does_keeps here p Move = moves_keeps here p (link_at p.table (reg p.regs 1))
does_keeps here p Unknown = refl

pub call_keeps : (here : ℕ) (p : Process) (n : ℕ) → (calls here p n).process.memory ≡ p.memory
call_keeps here p n = does_keeps here p (call_number n)

-- the first message on the mask is on it
first_or : (b : Bool) (mask : ℕ) (x m : Message) (rest : Option Message) → is_on mask x ≡ b → (if b then Some x else rest) ≡ Some m → (rest ≡ Some m → is_on mask m ≡ true)
    → is_on mask m ≡ true
first_or true mask x m rest b e h = let same : x ≡ m = cc in ap (is_on mask) (sym same) ∙ b
first_or false mask x m rest b e h = h e

pub first_is_on : (mask : ℕ) (queue : List Message) (m : Message) → first_on mask queue ≡ Some m → is_on mask m ≡ true
first_is_on mask [] m e = absurd (cc)
first_is_on mask (x ∷ xs) m e = first_or (is_on mask x) mask x m (first_on mask xs) refl e (first_is_on mask xs m)

awaits : (mask base size : ℕ) (queue : List Message) (o : Option Message) → first_on mask queue ≡ o → IsSome o → IsAwaited (status.Waiting mask base size) o
awaits mask base size queue None e h = absurd (search rules)
awaits mask base size queue (Some m) e h = first_is_on mask queue m e

some_at : (queue : List Message) (place : ℕ) → place < length queue → IsSome (slice_get queue place)
some_at [] place lt = absurd (omega (arith, lt))
some_at (m ∷ ms) zero lt = search rules
some_at (m ∷ ms) (suc place) lt = some_at ms place (omega (arith, lt))

pub is_awaited : (x : Process) (mask place : ℕ) → Takes x mask place → IsAwaited x.status (slice_get x.queue place)
is_awaited x mask place t =
    subst (λ (s : Status). IsAwaited s (slice_get x.queue place)) (sym t.waits) (awaits mask t.base t.cap_ x.queue (slice_get x.queue place) (sym t.first) (some_at x.queue place t.within))
