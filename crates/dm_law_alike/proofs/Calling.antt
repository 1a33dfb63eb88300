-- What twin processes do next.
use Rattle.dm_law_one.proofs.Names.{◌≡◌, ℕ, ◌+◌, ◌==◌, Bool, true, false, refl, ap, sym, subst, if◌then◌else◌, Option, None, Some, Pid, option_map, PlainLink, Direction, Reply, first_empty, link_at, direction_numbered, reg, instruction, Row}
use Rattle.dm_law_one.proofs.Names.{PlainProcess, PlainStatus, Waiting, Moving, Called, Replies, Sends, Waits, Outputs, Ends, CallNumber, Out, Make, Copy, Drop, Send, Receive, Move, call_number, first_failed}
use Rattle.dm_onekernel.specs.Calls as calls
use Rattle.dm_onekernel.specs.Pieces as pieces
use Rattle.dm_onekernel.specs.Step as kernel
use Rattle.dm_law_alike.specs.Alike.{Renaming, GoOn, Stands, under, status_by, TwinProcess}
use Rattle.dm_law_alike.proofs.Numbers.{own_stands, goes_further, goes_here}

-- a process with another status and count
abbrev pub as_twin : PlainProcess → PlainStatus → ℕ → PlainProcess
as_twin x st k = record x { status = st; sent = k }

pub twin_is : (f : ℕ → Option ℕ) (x y : PlainProcess) → TwinProcess f x y → y ≡ as_twin x y.status y.sent
twin_is f x y h = λ i. record { regs = h.regs i; memory = h.memory i; links = h.links i; status = y.status; stopped = h.stopped i; sent = y.sent }

-- what is known of both
pub record Both (f : ℕ → Option ℕ) (x : PlainProcess) (st : PlainStatus) (k : ℕ) : Type 0 where
  pub status : status_by f x.status ≡ Some st
  pub sent : GoOn f x.sent k

pub both : (f : ℕ → Option ℕ) (x y : PlainProcess) → TwinProcess f x y → Both f x y.status y.sent
both f x y h = record { status = h.status; sent = h.sent }

-- what a call comes to there, and here
abbrev pub TwinCalled : Renaming → Pid → Called → Called → Type 0
TwinCalled r p (Replies c x) (Replies d y) = (d ≡ c) × TwinProcess (r p) x y
TwinCalled r p (Sends m x) (Sends n y) = Stands r m.id n.id × (n ≡ under n.id m) × TwinProcess (r p) x y
TwinCalled r p (Waits x) (Waits y) = TwinProcess (r p) x y
TwinCalled r p (Outputs v x) (Outputs w y) = (w ≡ v) × TwinProcess (r p) x y
TwinCalled r p (Ends y) (Ends z) = z ≡ y
TwinCalled r p _ _ = ⊥

twin_unless : (r : Renaming) (p : Pid) (x : PlainProcess) (st : PlainStatus) (k : ℕ) (o : Option Reply) (a b : Called) → Both (r p) x st k → TwinCalled r p a b
    → TwinCalled r p (calls.unless_refused o x a) (calls.unless_refused o (as_twin x st k) b)
twin_unless r p x st k None a b h t = t
twin_unless r p x st k (Some c) a b h t = (refl, record { regs = refl; memory = refl; links = refl; status = h.status; stopped = refl; sent = h.sent })

twin_puts : (r : Renaming) (p : Pid) (x : PlainProcess) (st : PlainStatus) (k : ℕ) (l : PlainLink) (o : Option ℕ) → Both (r p) x st k → TwinCalled r p (calls.puts_link x l o) (calls.puts_link (as_twin x st k) l o)
twin_puts r p x st k l None h = (refl, record { regs = refl; memory = refl; links = refl; status = h.status; stopped = refl; sent = h.sent })
twin_puts r p x st k l (Some slot) h = (refl, record { regs = refl; memory = refl; links = refl; status = h.status; stopped = refl; sent = h.sent })

twin_if : (r : Renaming) (p : Pid) (b : Bool) (c d e g : Called) → TwinCalled r p c e → TwinCalled r p d g → TwinCalled r p (if b then c else d) (if b then e else g)
twin_if r p true c d e g h k = h
twin_if r p false c d e g h k = k

twin_refused : (r : Renaming) (p : Pid) (x : PlainProcess) (st : PlainStatus) (k : ℕ) (c : Reply) → Both (r p) x st k → TwinCalled r p (calls.refused c x) (calls.refused c (as_twin x st k))
twin_refused r p x st k c h = (refl, record { regs = refl; memory = refl; links = refl; status = h.status; stopped = refl; sent = h.sent })

twin_copies : (r : Renaming) (p : Pid) (x : PlainProcess) (st : PlainStatus) (k : ℕ) (l : Option PlainLink) → Both (r p) x st k → TwinCalled r p (calls.copies x l) (calls.copies (as_twin x st k) l)
twin_copies r p x st k None h = twin_refused r p x st k Reply.NoLink h
twin_copies r p x st k (Some l) h =
    twin_if r p (calls.is_reply l.kind) (calls.refused Reply.NotCopyable x) (calls.puts_link x l (first_empty x.links)) (calls.refused Reply.NotCopyable (as_twin x st k)) (calls.puts_link (as_twin x st k) l (first_empty x.links))
    (twin_refused r p x st k Reply.NotCopyable h) (twin_puts r p x st k l (first_empty x.links) h)

twin_drops : (r : Renaming) (p : Pid) (x : PlainProcess) (st : PlainStatus) (k : ℕ) (l : Option PlainLink) → Both (r p) x st k → TwinCalled r p (calls.drop_call x l) (calls.drop_call (as_twin x st k) l)
twin_drops r p x st k None h = twin_refused r p x st k Reply.NoLink h
twin_drops r p x st k (Some l) h = (refl, record { regs = refl; memory = refl; links = refl; status = h.status; stopped = refl; sent = h.sent })

twin_sends : (r : Renaming) (p : Pid) (x : PlainProcess) (st : PlainStatus) (k : ℕ) (l : Option PlainLink) → Both (r p) x st k → TwinCalled r p (calls.send_call p x l) (calls.send_call p (as_twin x st k) l)
twin_sends r p x st k None h = twin_refused r p x st k Reply.NoLink h
twin_sends r p x st k (Some l) h =
    twin_unless r p x st k (first_failed (calls.send_refusals x)) (Sends (calls.message_over p x l) (calls.after_send x)) (Sends (calls.message_over p (as_twin x st k) l) (calls.after_send (as_twin x st k))) h
    (own_stands r p x.sent k h.sent, refl, record { regs = refl; memory = refl; links = refl; status = h.status; stopped = refl; sent = goes_further (r p) x.sent k h.sent })

pub twin_requests : (r : Renaming) (p : Pid) (x : PlainProcess) (st : PlainStatus) (k : ℕ) (dir : Direction) (owner : Pid) (base own left : ℕ) → GoOn (r p) x.sent k
    → TwinCalled r p (calls.begins_move (pieces.requests p x dir owner base own left)) (calls.begins_move (pieces.requests p (as_twin x st k) dir owner base own left))
twin_requests r p x st k Direction.FromArea owner base own left h = (
  own_stands r p x.sent k h,
  refl,
  record {
    regs = refl;
    memory = refl;
    links = refl;
    status = ap (option_map (λ n. Moving Direction.FromArea owner base own left n)) (goes_here (r p) x.sent k h);
    stopped = refl;
    sent = goes_further (r p) x.sent k h;
  },
)
twin_requests r p x st k Direction.IntoArea owner base own left h = (
  own_stands r p x.sent k h,
  refl,
  record {
    regs = refl;
    memory = refl;
    links = refl;
    status = ap (option_map (λ n. Moving Direction.IntoArea owner base own left n)) (goes_here (r p) x.sent k h);
    stopped = refl;
    sent = goes_further (r p) x.sent k h;
  },
)

twin_bytes : (r : Renaming) (p : Pid) (x : PlainProcess) (st : PlainStatus) (k : ℕ) (l : PlainLink) (dir : Direction) → Both (r p) x st k → TwinCalled r p (calls.moves_bytes p x l dir) (calls.moves_bytes p (as_twin x st k) l dir)
twin_bytes r p x st k l dir h =
    let base = l.area.base + reg x.regs 3 in
    twin_if r p (reg x.regs 5 == 0) (Replies Reply.Done (calls.replied Reply.Done x)) (calls.begins_move (pieces.requests p x dir l.to base (reg x.regs 4) (reg x.regs 5)))
    (Replies Reply.Done (calls.replied Reply.Done (as_twin x st k))) (calls.begins_move (pieces.requests p (as_twin x st k) dir l.to base (reg x.regs 4) (reg x.regs 5)))
    (twin_refused r p x st k Reply.Done h) (twin_requests r p x st k dir l.to base (reg x.regs 4) (reg x.regs 5) h.sent)

twin_over : (r : Renaming) (p : Pid) (x : PlainProcess) (st : PlainStatus) (k : ℕ) (l : PlainLink) (dir : Option Direction) → Both (r p) x st k → TwinCalled r p (calls.moves_over p x l dir) (calls.moves_over p (as_twin x st k) l dir)
twin_over r p x st k l None h = twin_refused r p x st k Reply.BadKind h
twin_over r p x st k l (Some dir) h = twin_unless r p x st k (first_failed (calls.move_refusals x l dir)) (calls.moves_bytes p x l dir) (calls.moves_bytes p (as_twin x st k) l dir) h (twin_bytes r p x st k l dir h)

twin_moves : (r : Renaming) (p : Pid) (x : PlainProcess) (st : PlainStatus) (k : ℕ) (l : Option PlainLink) → Both (r p) x st k → TwinCalled r p (calls.move_call p x l) (calls.move_call p (as_twin x st k) l)
twin_moves r p x st k None h = twin_refused r p x st k Reply.NoLink h
twin_moves r p x st k (Some l) h = twin_over r p x st k l (direction_numbered (reg x.regs 2)) h

twin_does : (r : Renaming) (p : Pid) (x : PlainProcess) (st : PlainStatus) (k : ℕ) (n : CallNumber) → Both (r p) x st k → TwinCalled r p (calls.does_call p x n) (calls.does_call p (as_twin x st k) n)
twin_does r p x st k CallNumber.Exit h = refl
twin_does r p x st k Out h = (refl, record { regs = refl; memory = refl; links = refl; status = h.status; stopped = refl; sent = h.sent })
twin_does r p x st k Make h =
    twin_unless r p x st k (first_failed (calls.make_refusals x)) (calls.puts_link x (calls.own_link p x) (first_empty x.links)) (calls.puts_link (as_twin x st k) (calls.own_link p x) (first_empty x.links)) h
    (twin_puts r p x st k (calls.own_link p x) (first_empty x.links) h)
twin_does r p x st k Copy h = twin_copies r p x st k (link_at x.links (reg x.regs 1)) h
twin_does r p x st k Drop h = twin_drops r p x st k (link_at x.links (reg x.regs 1)) h
twin_does r p x st k Send h = twin_sends r p x st k (link_at x.links (reg x.regs 1)) h
twin_does r p x st k Receive h =
    twin_if r p (calls.is_outside x (reg x.regs 2) (reg x.regs 3)) (calls.refused Reply.BadRange x) (Waits (record x { status = Waiting (reg x.regs 1) (reg x.regs 2) (reg x.regs 3) }))
    (calls.refused Reply.BadRange (as_twin x st k)) (Waits (record x { status = Waiting (reg x.regs 1) (reg x.regs 2) (reg x.regs 3); sent = k }))
    (twin_refused r p x st k Reply.BadRange h) (record { regs = refl; memory = refl; links = refl; status = refl; stopped = refl; sent = h.sent })
twin_does r p x st k Move h = twin_moves r p x st k (link_at x.links (reg x.regs 1)) h
twin_does r p x st k CallNumber.Unknown h = refl

-- a call of a process and of its twin
pub twin_call : (r : Renaming) (p : Pid) (x y : PlainProcess) (n : ℕ) → TwinProcess (r p) x y → TwinCalled r p (calls.call p x n) (calls.call p y n)
twin_call r p x y n h = subst (λ v. TwinCalled r p (calls.call p x n) (calls.call p v n)) (sym (twin_is (r p) x y h)) (twin_does r p x y.status y.sent (call_number n) (both (r p) x y h))

-- what comes next of both
abbrev pub TwinTrap : Renaming → Pid → kernel.Trap → kernel.Trap → Type 0
TwinTrap r p (kernel.Calls n a) (kernel.Calls o b) = (o ≡ n) × TwinCalled r p a b
TwinTrap r p (kernel.Faults a) (kernel.Faults b) = b ≡ a
TwinTrap r p _ _ = ⊥

pub record NextTwin (r : Renaming) (p : Pid) (a : kernel.Trap) (next : Option kernel.Trap) : Type 0 where
  pub trap : kernel.Trap
  pub is : next ≡ Some trap
  pub twin : TwinTrap r p a trap

twin_row : (r : Renaming) (p : Pid) (x : PlainProcess) (st : PlainStatus) (k : ℕ) (row : Row) (a : kernel.Trap) → Both (r p) x st k → kernel.next_row p x row ≡ Some a → NextTwin r p a (kernel.next_row p (as_twin x st k) row)
twin_row r p x st k (Row.Plain regs bytes) a h e = absurd (cc)
twin_row r p x st k (Row.Calls number regs) a h e =
    let z : PlainProcess = record x { regs = regs } in
    let called = twin_does r p z st k (call_number number) (record { status = h.status; sent = h.sent }) in
    let is : kernel.Calls number (calls.call p z number) ≡ a = cc in
    record {
      trap = kernel.Calls number (calls.call p (as_twin z st k) number);
      is = refl;
      twin = subst (λ v. TwinTrap r p v (kernel.Calls number (calls.call p (as_twin z st k) number))) is (refl, called);
    }
twin_row r p x st k (Row.Faults fault) a h e =
    let is : kernel.Faults fault ≡ a = cc in
    record { trap = kernel.Faults fault; is = refl; twin = subst (λ v. TwinTrap r p v (kernel.Faults fault)) is refl }

pub twin_next : (r : Renaming) (p : Pid) (x y : PlainProcess) (a : kernel.Trap) → TwinProcess (r p) x y → kernel.next_row p x (instruction x.regs x.memory) ≡ Some a → NextTwin r p a (kernel.next_row p y (instruction y.regs y.memory))
twin_next r p x y a h e = subst (λ (v : PlainProcess). NextTwin r p a (kernel.next_row p v (instruction v.regs v.memory))) (sym (twin_is (r p) x y h)) (twin_row r p x y.status y.sent (instruction x.regs x.memory) a (both (r p) x y h) e)
