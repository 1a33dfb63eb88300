-- Messages are numbered by the counts of their senders, and a process that moves data remembers the number of its request.
use Rattle.dm_law_one.proofs.Names.{◌≡◌, ℕ, ◌+◌, ◌==◌, Bool, true, false, refl, ◌⊎◌, inl, inr, ⊤, if◌then◌else◌, Option, None, Some, Pid, PlainLink, id_of, PlainMessage, PlainWhat, direction_numbered, Direction, Reply, first_empty, link_at}
use Rattle.dm_law_one.proofs.Names.{reg, PlainProcess, PlainStatus, Waiting, Moving, Called, Replies, Sends, Waits, Outputs, Ends, CallNumber, Out, Make, Copy, Drop, Send, Receive, Move, call_number, first_failed}
use Rattle.dm_onekernel.specs.Calls as calls
use Rattle.dm_onekernel.specs.Pieces as pieces
use Rattle.dm_onekernel.specs.Receiving as receiving

-- the number of the request that a process waits for
abbrev pub pending_of : PlainStatus → Option ℕ
pending_of (Moving dir owner base own left pending) = Some pending
pending_of _ = None

-- the kinds that ask for a piece
abbrev pub is_of_memory : PlainWhat → Bool
is_of_memory (PlainWhat.Read base len) = true
is_of_memory (PlainWhat.Write base bytes) = true
is_of_memory w = false

-- what a message that a process sends is to the process: a user message, and it moves no data, or the request that it waits for
abbrev pub IsSentSo : Pid → PlainProcess → PlainMessage → PlainProcess → Type 0
IsSentSo pid p m q =
    ((is_of_memory m.what ≡ false) × (pending_of q.status ≡ pending_of p.status)) ⊎ ((is_of_memory m.what ≡ true) × (pending_of q.status ≡ Some p.sent))

-- the kinds that answer a piece's request
abbrev pub is_piece : PlainWhat → Bool
is_piece (PlainWhat.Block bytes) = true
is_piece PlainWhat.Written = true
is_piece PlainWhat.Gone = true
is_piece w = false

pub record Sent (pid : Pid) (p : PlainProcess) (m : PlainMessage) (q : PlainProcess) : Type 0 where
  pub id : m.id ≡ id_of pid p.sent
  pub sender : m.sender ≡ pid
  pub count : q.sent ≡ p.sent + 1
  pub piece : is_piece m.what ≡ false
  pub is : IsSentSo pid p m q

-- a call sends at most one message, under its process's count, which it raises
abbrev pub Counts : Pid → PlainProcess → Called → Type 0
Counts pid p (Replies c q) = (q.sent ≡ p.sent) × (pending_of q.status ≡ pending_of p.status)
Counts pid p (Sends m q) = Sent pid p m q
Counts pid p (Waits q) = (q.sent ≡ p.sent) × (pending_of q.status ≡ None)
Counts pid p (Outputs w q) = (q.sent ≡ p.sent) × (pending_of q.status ≡ pending_of p.status)
Counts pid p (Ends why) = ⊤

unless_refused-counts : (pid : Pid) (p : PlainProcess) (c : Option Reply) (called : Called) → Counts pid p called → Counts pid p (calls.unless_refused c p called)
unless_refused-counts pid p None called h = h
unless_refused-counts pid p (Some c) called h = (refl, refl)

puts_link-counts : (pid : Pid) (p : PlainProcess) (l : PlainLink) (slot : Option ℕ) → Counts pid p (calls.puts_link p l slot)
puts_link-counts pid p l None = (refl, refl)
puts_link-counts pid p l (Some slot) = (refl, refl)

refused-counts : (pid : Pid) (p : PlainProcess) (c : Reply) → Counts pid p (calls.refused c p)
refused-counts pid p c = (refl, refl)

waiting-counts : (pid : Pid) (p : PlainProcess) (mask base size : ℕ) → Counts pid p (Waits (record p { status = Waiting mask base size }))
waiting-counts pid p mask base size = (refl, refl)

if-counts : (pid : Pid) (p : PlainProcess) (b : Bool) (c d : Called) → Counts pid p c → Counts pid p d → Counts pid p (if b then c else d)
if-counts pid p true c d h k = h
if-counts pid p false c d h k = k

copies-counts : (pid : Pid) (p : PlainProcess) (l : Option PlainLink) → Counts pid p (calls.copies p l)
copies-counts pid p None = (refl, refl)
copies-counts pid p (Some l) =
    if-counts pid p (calls.is_reply l.kind) (calls.refused Reply.NotCopyable p) (calls.puts_link p l (first_empty p.links)) (refused-counts pid p Reply.NotCopyable) (puts_link-counts pid p l (first_empty p.links))

drop_call-counts : (pid : Pid) (p : PlainProcess) (l : Option PlainLink) → Counts pid p (calls.drop_call p l)
drop_call-counts pid p None = (refl, refl)
drop_call-counts pid p (Some l) = (refl, refl)

send_call-counts : (pid : Pid) (p : PlainProcess) (l : Option PlainLink) → Counts pid p (calls.send_call pid p l)
send_call-counts pid p None = (refl, refl)
send_call-counts pid p (Some l) =
    unless_refused-counts pid p (first_failed (calls.send_refusals p)) (Sends (calls.message_over pid p l) (calls.after_send p)) (record { id = refl; sender = refl; count = refl; piece = refl; is = inl (refl, refl) })

pub requests-sent : (pid : Pid) (p : PlainProcess) (dir : Direction) (owner : Pid) (base own left : ℕ) → Sent pid p (pieces.requests pid p dir owner base own left).message (pieces.requests pid p dir owner base own left).process
requests-sent pid p Direction.FromArea owner base own left = record { id = refl; sender = refl; count = refl; piece = refl; is = inr (refl, refl) }
requests-sent pid p Direction.IntoArea owner base own left = record { id = refl; sender = refl; count = refl; piece = refl; is = inr (refl, refl) }

moves_bytes-counts : (pid : Pid) (p : PlainProcess) (l : PlainLink) (dir : Direction) → Counts pid p (calls.moves_bytes pid p l dir)
moves_bytes-counts pid p l dir =
    let r = pieces.requests pid p dir l.to (l.area.base + reg p.regs 3) (reg p.regs 4) (reg p.regs 5) in
    if-counts pid p (reg p.regs 5 == 0) (calls.refused Reply.Done p) (calls.begins_move r) (refused-counts pid p Reply.Done)
    (requests-sent pid p dir l.to (l.area.base + reg p.regs 3) (reg p.regs 4) (reg p.regs 5))

moves_over-counts : (pid : Pid) (p : PlainProcess) (l : PlainLink) (dir : Option Direction) → Counts pid p (calls.moves_over pid p l dir)
moves_over-counts pid p l None = (refl, refl)
moves_over-counts pid p l (Some dir) =
    unless_refused-counts pid p (first_failed (calls.move_refusals p l dir)) (calls.moves_bytes pid p l dir) (moves_bytes-counts pid p l dir)

move_call-counts : (pid : Pid) (p : PlainProcess) (l : Option PlainLink) → Counts pid p (calls.move_call pid p l)
move_call-counts pid p None = (refl, refl)
move_call-counts pid p (Some l) = moves_over-counts pid p l (direction_numbered (reg p.regs 2))

does_call-counts : (pid : Pid) (p : PlainProcess) (c : CallNumber) → Counts pid p (calls.does_call pid p c)
does_call-counts pid p Out = (refl, refl)
does_call-counts pid p Make = unless_refused-counts pid p (first_failed (calls.make_refusals p)) (calls.puts_link p (calls.own_link pid p) (first_empty p.links)) (puts_link-counts pid p (calls.own_link pid p) (first_empty p.links))
does_call-counts pid p Copy = copies-counts pid p (link_at p.links (reg p.regs 1))
does_call-counts pid p Drop = drop_call-counts pid p (link_at p.links (reg p.regs 1))
does_call-counts pid p Send = send_call-counts pid p (link_at p.links (reg p.regs 1))
does_call-counts pid p Receive =
    if-counts pid p (calls.is_outside p (reg p.regs 2) (reg p.regs 3)) (calls.refused Reply.BadRange p) (Waits (record p { status = Waiting (reg p.regs 1) (reg p.regs 2) (reg p.regs 3) }))
    (refused-counts pid p Reply.BadRange) (waiting-counts pid p (reg p.regs 1) (reg p.regs 2) (reg p.regs 3))
does_call-counts pid p Move = move_call-counts pid p (link_at p.links (reg p.regs 1))
does_call-counts pid p _ = tt

pub call-counts : (pid : Pid) (p : PlainProcess) (n : ℕ) → Counts pid p (calls.call pid p n)
call-counts pid p n = does_call-counts pid p (call_number n)

-- a receive that ends leaves the count, and a process that moves no data
abbrev pub Completes : PlainProcess → receiving.Completed → Type 0
Completes p (receiving.Receives q) = (q.sent ≡ p.sent) × (pending_of q.status ≡ None)
Completes p (receiving.Refuses c q) = (q.sent ≡ p.sent) × (pending_of q.status ≡ None)

completes_unless-is : (p after : PlainProcess) (c : Option Reply) → after.sent ≡ p.sent → pending_of after.status ≡ None → Completes p (receiving.completes_unless c p after)
completes_unless-is p after None e f = (e, f)
completes_unless-is p after (Some c) e f = (refl, refl)

pub completes-is : (p : PlainProcess) (base size code channel : ℕ) (body : _) (links : _) → Completes p (receiving.completes p base size code channel body links)
completes-is p base size code channel body links =
    completes_unless-is p (receiving.with_received p base code channel body links) (first_failed (receiving.receive_refusals p size body links)) refl refl
