-- Those at the ring's front that can't be served stay there, and as they are, where one behind them is served.
use Rattle.dm_kernel.proofs.Names.{◌≡◌, ◌∙◌, ℕ, zero, suc, true, false, List, [], ◌∷◌, Some, None, slice_get, refl, ap, sym, subst, arith, common_steps, Option, Pid, pid_eq, pid_eq_same, Here, Frozen, Incoming, Forward}
use Rattle.dm_kernel.proofs.Names.{Message, Process, Status, Called, Completed, Completion, Done, Part, Halt, Kernel, KernelKnown, KernelState, Turned, moved_back, without, first_on, known_is_runnable, first_runnable}
use Rattle.dm_kernel.proofs.Names.{MeetsSome, AreIdle, called_with, does, halts, received, received_by, receives, serves, serves_status, with_here, with_machine, without_record, ran, processor_of, calls, completion, at}
use Rattle.dm_kernel.proofs.Names.{Boot, ⊤, goes_round}
use Rattle.dm_kernel.proofs.Opening.{is_state}
use Rattle.dm_resident.specs.declared.Resident.TheVariants as resident
use Rattle.dm_process.specs.declared.process.Status.TheVariants as status
use Rattle.dm_kernel.specs.declared.run.Halt.TheVariants as halt
use Rattle.dm_syscall.specs.declared.Called.TheVariants as called
use Rattle.dm_syscall.specs.declared.Completed.TheVariants as completed

-- one that can be served isn't among them: it leaves the ring, or goes to its back
pub idle_without : (records : Pid → Option KernelKnown) (ring : List Pid) (n : ℕ) (p : Pid) → known_is_runnable (records p) ≡ true → AreIdle records ring n → AreIdle records (without p ring) n
idle_without records [] n p can idle = idle
idle_without records (x ∷ xs) zero p can idle = refl
idle_without records (x ∷ xs) (suc n) p can idle = grind (arith, common_steps, pid_eq_same p x, idle_without records xs n p can)

pub idle_moved : (records : Pid → Option KernelKnown) (ring : List Pid) (n : ℕ) (p : Pid) → slice_get ring n ≡ Some p → known_is_runnable (records p) ≡ true → AreIdle records ring n → AreIdle records (moved_back p ring) n
idle_moved records [] n p there can idle = absurd (grind arith)
idle_moved records (x ∷ xs) zero p there can idle = refl
idle_moved records (x ∷ xs) (suc n) p there can idle = grind (arith, common_steps, pid_eq_same p x, idle_moved records xs n p)

-- no other record changes
pub idle_still : (before after : Pid → Option KernelKnown) (ring : List Pid) (n : ℕ) (p : Pid) → known_is_runnable (before p) ≡ true → ((q : Pid) → pid_eq p q ≡ false → after q ≡ before q) → AreIdle before ring n → AreIdle after ring n
idle_still before after [] zero p can same idle = refl
idle_still before after [] (suc n) p can same idle = refl
idle_still before after (x ∷ xs) zero p can same idle = refl
idle_still before after (x ∷ xs) (suc n) p can same idle = grind (arith, common_steps, pid_eq_same p x, same x, idle_still before after xs n p can same)

-- the process itself is set, or gone
set_stays : (s : KernelState) (p : Pid) (x : Process) (n : ℕ) → known_is_runnable (s.records p) ≡ true → AreIdle s.records s.ring n → AreIdle (with_here s p x).records s.ring n
set_stays s p x n can idle = idle_still s.records (with_here s p x).records s.ring n p can (λ q apart. rw apart refl) idle

gone_stays : (s : KernelState) (p : Pid) (x : Process) (n : ℕ) → known_is_runnable (s.records p) ≡ true → AreIdle s.records s.ring n → AreIdle (without_record (with_here s p x).records p) (without p s.ring) n
gone_stays s p x n can idle =
    idle_still s.records (without_record (with_here s p x).records p) (without p s.ring) n p can (λ q apart. rw apart refl) (idle_without s.records s.ring n p can idle)

-- those before it stay idle behind a turn
abbrev StayIdle : ℕ → Option Turned → Type 0
StayIdle n None = ⊤
StayIdle n (Some t) = AreIdle t.state.records t.state.ring n

called_stay : (s : KernelState) (p : Pid) (k number n : ℕ) (x : Process) (c : Called) → AreIdle s.records s.ring n → AreIdle (without_record s.records p) (without p s.ring) n → StayIdle n (called_with s p k number x c)
called_stay s p k number n x (called.Replied c) idle gone = idle
called_stay s p k number n x (called.Sent m) idle gone = idle
called_stay s p k number n x (called.Moving m) idle gone = idle
called_stay s p k number n x called.Waits idle gone = idle
called_stay s p k number n x (called.Out w) idle gone = idle
called_stay s p k number n x (called.Ended y) idle gone = gone

does_stay : (s : KernelState) (p : Pid) (k number n : ℕ) (d : Done) → known_is_runnable (s.records p) ≡ true → AreIdle s.records s.ring n → StayIdle n (does s p k number d)
does_stay s p k number n d can idle = called_stay (with_here s p d.process) p k number n d.process d.called (set_stays s p d.process n can idle) (gone_stays s p d.process n can idle)

halts_stay : (s : KernelState) (p : Pid) (k n : ℕ) (x : Process) (o : Option Halt) → known_is_runnable (s.records p) ≡ true → AreIdle s.records s.ring n → StayIdle n (halts s p k x o)
halts_stay s p k n x None can idle = set_stays s p x n can idle
halts_stay s p k n x (Some (halt.Call number)) can idle = does_stay s p k number n (calls s.here x number) can idle
halts_stay s p k n x (Some (halt.Fault f)) can idle = gone_stays s p x n can idle

received_stay : (s : KernelState) (p : Pid) (mask n : ℕ) (x y : Process) (m : Message) (c : Completed) → known_is_runnable (s.records p) ≡ true → AreIdle s.records s.ring n → StayIdle n (received s p x mask m y c)
received_stay s p mask n x y m (completed.Received id) can idle = set_stays s p _ n can idle
received_stay s p mask n x y m (completed.Refused c) can idle = set_stays s p y n can idle

completion_stay : (s : KernelState) (p : Pid) (mask n : ℕ) (x : Process) (m : Message) (o : Option Completion) → known_is_runnable (s.records p) ≡ true → AreIdle s.records s.ring n → StayIdle n (received_by s p x mask m o)
completion_stay s p mask n x m None can idle = tt
completion_stay s p mask n x m (Some d) can idle = received_stay s p mask n x d.process m d.completed can idle

receives_stay : (s : KernelState) (p : Pid) (mask n : ℕ) (x : Process) (o : Option Message) → known_is_runnable (s.records p) ≡ true → AreIdle s.records s.ring n → StayIdle n (receives s p x mask o)
receives_stay s p mask n x None can idle = tt
receives_stay s p mask n x (Some m) can idle = completion_stay s p mask n x m (completion x 0 x.status (Some m)) can idle

status_stay : (quantum : ℕ) (s : KernelState) (p : Pid) (n : ℕ) (x : Process) (st : Status) → known_is_runnable (s.records p) ≡ true → AreIdle s.records s.ring n → StayIdle n (serves_status quantum s p x st)
status_stay quantum s p n x status.Ready can idle =
    halts_stay s p (ran quantum (processor_of x)).count n (with_machine x (ran quantum (processor_of x)).machine) (ran quantum (processor_of x)).halt can idle
status_stay quantum s p n x (status.Waiting mask base cap_) can idle = receives_stay s p mask n x (first_on mask x.queue) can idle
status_stay quantum s p n x (status.Moving dir owner base own left pending) can idle = tt

serves_stay : (quantum : ℕ) (s : KernelState) (p : Pid) (n : ℕ) (o : Option KernelKnown) → known_is_runnable (s.records p) ≡ true → AreIdle s.records s.ring n → StayIdle n (serves quantum s p o)
serves_stay quantum s p n None can idle = tt
serves_stay quantum s p n (Some (Here (resident.Process x))) can idle = status_stay quantum s p n x x.status can idle
serves_stay quantum s p n (Some (Here (resident.Board v))) can idle = tt
serves_stay quantum s p n (Some (Here (resident.Manager v))) can idle = tt
serves_stay quantum s p n (Some (Frozen leaving)) can idle = tt
serves_stay quantum s p n (Some (Incoming arriving)) can idle = tt
serves_stay quantum s p n (Some (Forward machine moves)) can idle = tt

-- in the code too
answered : (k : Kernel) (said : List Part) (n : ℕ) (t : Option Turned) → StayIdle n t → MeetsSome k said t → AreIdle (at k.records) k.ring n
answered k said n None idle h = absurd h
answered k said n (Some t) idle h = subst (λ (u : KernelState). AreIdle u.records u.ring n) (sym (is_state k t.state h.state)) idle

pub serves_idle : (k : Kernel) (said : List Part) (quantum : ℕ) (s : KernelState) (p : Pid) (n : ℕ) → known_is_runnable (s.records p) ≡ true → AreIdle s.records s.ring n → MeetsSome k said (serves quantum s p (s.records p))
    → AreIdle (at k.records) k.ring n
serves_idle k said quantum s p n can idle h = answered k said n _ (serves_stay quantum s p n (s.records p) can idle) h

-- what the kernel remembers of its ring isn't in what it answers
pub remembers : (k : Kernel) (said : List Part) (n : ℕ) (t : Option Turned) → MeetsSome k said t → MeetsSome (record k { idle = n }) said t
remembers k said n None h = h
remembers k said n (Some t) h =
    record {
      state =
          record {
            here = h.state.here;
            records = h.state.records;
            preds = h.state.preds;
            ring = h.state.ring;
            inbox = h.state.inbox;
            made = h.state.made;
            sent = h.state.sent;
            room = h.state.room;
            over = h.state.over;
          };
      parts = h.parts;
    }

-- the first that can be served is found and goes to the back
pub first_can : (records : Pid → Option KernelKnown) (ring : List Pid) (p : Pid) → first_runnable records ring ≡ Some p → known_is_runnable (records p) ≡ true
first_can records [] p e = absurd (cc)
first_can records (x ∷ xs) p e = grind (arith, common_steps, first_can records xs p)

pub went_round : (b : Boot) (s t : KernelState) (ring : List Pid) (p : Pid) → t ≡ s → first_runnable t.records t.ring ≡ Some p → ring ≡ moved_back p t.ring
    → serves b.quantum (record t { ring = ring }) p (t.records p) ≡ goes_round b s (first_runnable s.records s.ring)
went_round b s t ring p same first back =
    ap (λ (r : List Pid). serves b.quantum (record t { ring = r }) p (t.records p)) back
    ∙ sym (ap (goes_round b t) first)
    ∙ ap (λ (u : KernelState). goes_round b u (first_runnable u.records u.ring)) same
