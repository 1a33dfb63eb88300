-- What processes keep: their names, whatever they do, and how many messages they send.
use Rattle.std.specs.Prelude.{◌≡◌, ◌≤◌, ◌+◌, ◌-◌, ◌==◌, ℕ, Bool, true, false, if◌then◌else◌}
use Rattle.std.proofs.Common.{refl, subst, arith}
use Rattle.std.specs.declared.option.Option.{Option}
use Rattle.std.specs.declared.option.Option.TheVariants.{None, Some}
use Rattle.dm_link.specs.declared.Link.{Link}
use Rattle.dm_link.specs.Plain.{plain_link}
use Rattle.dm_linktable.specs.Slots.{first_empty, is_reply, link_at}
use Rattle.dm_message.specs.declared.Message.{Message}
use Rattle.dm_message.specs.declared.MsgId.{MsgId}
use Rattle.dm_message.specs.declared.What.{What}
use Rattle.dm_message.specs.declared.What.TheVariants as what
use Rattle.dm_process.specs.declared.process.Direction.{Direction}
use Rattle.dm_process.specs.declared.process.Direction.TheVariants as direction
use Rattle.dm_process.specs.declared.process.Process.{Process}
use Rattle.dm_process.specs.declared.process.Status.{Status}
use Rattle.dm_process.specs.declared.process.Status.TheVariants as status
use Rattle.dm_process.specs.Directions.{direction_numbered}
use Rattle.dm_onekernel.specs.declared.label.Reply.{Reply}
use Rattle.dm_onekernel.specs.declared.label.Reply.TheVariants as reply
use Rattle.dm_onekernel.specs.Calls.{CallNumber, Exit, Out, Make, Copy, Drop, Send, Receive, Move, Unknown, call_number, is_outside, make_refusals, move_refusals, send_refusals}
use Rattle.dm_onekernel.specs.Pieces.{piece_of, written_at as written}
use Rattle.dm_onekernel.specs.Plain.{plain_process}
use Rattle.dm_onekernel.specs.PlainProcess.{reg}
use Rattle.dm_onekernel.specs.Refusals.{first_failed}
use Rattle.dm_datamove.specs.declared.Rest.{Rest}
use Rattle.dm_datamove.specs.Landing.{Landing, landing, lands_what, goes_on as moves_on, done, asks as asks_next, behind}
use Rattle.dm_datamove.specs.Serving.{after_serving}
use Rattle.dm_syscall.specs.declared.Called.TheVariants as called
use Rattle.dm_syscall.specs.Calls.{Done, after_send, begins, calls, copies, does_call, drops, message_over, moves, moves_bytes, moves_over, own_link, puts_link, replied, sends, unless_refused, waits, whole}
use Rattle.dm_syscall.specs.Completing as completing
use Rattle.dm_syscall.specs.Completing.{Completion, completion}

some_is : {A : Type 0} {x y : A} → Some x ≡ Some y → x ≡ y
some_is e = cc

-- no call changes the name
unless_named : (o : Option Reply) (p : Process) (d : Done) → d.process.pid ≡ p.pid → (unless_refused o p d).process.pid ≡ p.pid
unless_named None p d h = h
unless_named (Some c) p d h = refl

if_named : (b : Bool) (p : Process) (d e : Done) → d.process.pid ≡ p.pid → e.process.pid ≡ p.pid → (if b then d else e).process.pid ≡ p.pid
if_named true p d e f g = f
if_named false p d e f g = g

puts_named : (p : Process) (l : Link) (o : Option ℕ) → (puts_link p l o).process.pid ≡ p.pid
puts_named p l None = refl
puts_named p l (Some slot) = refl

copies_named : (p : Process) (o : Option Link) → (copies p o).process.pid ≡ p.pid
copies_named p None = refl
copies_named p (Some l) = if_named (is_reply l.kind) p (replied reply.NotCopyable p) (puts_link p l (first_empty p.table)) refl (puts_named p l (first_empty p.table))

drops_named : (p : Process) (o : Option Link) → (drops p o).process.pid ≡ p.pid
drops_named p None = refl
drops_named p (Some l) = refl

sends_named : (here : ℕ) (p : Process) (o : Option Link) → (sends here p o).process.pid ≡ p.pid
sends_named here p None = refl
sends_named here p (Some l) =
    unless_named (first_failed (send_refusals (plain_process p))) p (record { called = called.Sent (message_over here p l); process = after_send p }) refl

waits_named : (p : Process) → (waits p).process.pid ≡ p.pid
waits_named p =
    if_named (is_outside (plain_process p) (reg p.regs 2) (reg p.regs 3)) p (replied reply.BadRange p)
    (record { called = called.Waits; process = record p { status = status.Waiting (reg p.regs 1) (reg p.regs 2) (reg p.regs 3) } })
    refl
    refl

over_named : (here : ℕ) (p : Process) (l : Link) (o : Option Direction) → (moves_over here p l o).process.pid ≡ p.pid
over_named here p l None = refl
over_named here p l (Some dir) =
    unless_named (first_failed (move_refusals (plain_process p) (plain_link l) dir)) p (moves_bytes here p l dir)
    (if_named (reg p.regs 5 == 0) p (replied reply.Done p) (begins here p (whole p l dir)) refl refl)

moves_named : (here : ℕ) (p : Process) (o : Option Link) → (moves here p o).process.pid ≡ p.pid
moves_named here p None = refl
moves_named here p (Some l) = over_named here p l (direction_numbered (reg p.regs 2))

does_named : (here : ℕ) (p : Process) (k : CallNumber) → (does_call here p k).process.pid ≡ p.pid
does_named here p Exit = refl
does_named here p Out = refl
does_named here p Make = unless_named (first_failed (make_refusals (plain_process p))) p (puts_link p (own_link here p) (first_empty p.table)) (puts_named p (own_link here p) (first_empty p.table))
does_named here p Copy = copies_named p (link_at p.table (reg p.regs 1))
does_named here p Drop = drops_named p (link_at p.table (reg p.regs 1))
does_named here p Send = sends_named here p (link_at p.table (reg p.regs 1))
does_named here p Receive = waits_named p
does_named here p Move = moves_named here p (link_at p.table (reg p.regs 1))
does_named here p Unknown = refl

pub call_named : (here : ℕ) (p : Process) (n : ℕ) → (calls here p n).process.pid ≡ p.pid
call_named here p n = does_named here p (call_number n)

-- nor does a landing, which sends at most one message
pub record Lands (p : Process) (d : Landing) : Type 0 where
  pub pid : d.process.pid ≡ p.pid
  pub sent : d.process.sent ≤ p.sent + 1

if_lands : (b : Bool) (p : Process) (d e : Landing) → Lands p d → Lands p e → Lands p (if b then d else e)
if_lands true p d e f g = f
if_lands false p d e f g = g

done_lands : (c : Reply) (p : Process) → Lands p (done c p)
done_lands c p = record { pid = refl; sent = omega arith }

on_lands : (here : ℕ) (p : Process) (r : Rest) → Lands p (moves_on here p r)
on_lands here p r =
    if_lands (r.left - piece_of r.left == 0) p (done reply.Done p) (asks_next here p (behind r)) (done_lands reply.Done p) (record { pid = refl; sent = omega arith })

what_lands : (here : ℕ) (p : Process) (r : Rest) (dir : Direction) (w : What) (d : Landing) → lands_what here p r dir w ≡ Some d → Lands p d
what_lands here p r direction.FromArea (what.Block bytes) d e =
    let is : moves_on here (record p { memory = written p.memory r.own bytes.items }) r ≡ d = cc in
    let k : Lands (record p { memory = written p.memory r.own bytes.items }) (moves_on here (record p { memory = written p.memory r.own bytes.items }) r) = on_lands here (record p { memory = written p.memory r.own bytes.items }) r in
    subst (Lands p) is (record { pid = k.pid; sent = k.sent })
what_lands here p r direction.IntoArea what.Written d e = let is : moves_on here p r ≡ d = cc in subst (Lands p) is (on_lands here p r)
what_lands here p r dir what.Gone d e = let is : done reply.Gone p ≡ d = cc in subst (Lands p) is (done_lands reply.Gone p)
what_lands here p r dir w d e = absurd (cc)

pub landing_lands : (here : ℕ) (p : Process) (w : What) (s : Status) (d : Landing) → landing here p w s ≡ Some d → Lands p d
landing_lands here p w status.Ready d e = absurd (cc)
landing_lands here p w (status.Waiting mask base cap_) d e = absurd (cc)
landing_lands here p w (status.Moving dir owner base own left pending) d e =
    what_lands here p (record { dir = dir; owner = owner; base = base; own = own; left = left }) dir w d e

-- nor does the service of a piece
pub serving_named : (p : Process) (w : What) → (after_serving p w).pid ≡ p.pid
serving_named p (what.Write base bytes) = refl
serving_named p w = refl

pub serving_sent : (p : Process) (w : What) → (after_serving p w).sent ≡ p.sent
serving_sent p (what.Write base bytes) = refl
serving_sent p w = refl

-- nor does the end of a receive
pub record Completes (p : Process) (d : Completion) : Type 0 where
  pub pid : d.process.pid ≡ p.pid
  pub sent : d.process.sent ≡ p.sent

unless_completes : (o : Option Reply) (p : Process) (d : Completion) → Completes p d → Completes p (completing.completes_unless o p d)
unless_completes None p d h = h
unless_completes (Some c) p d h = record { pid = refl; sent = refl }

what_completes : (p : Process) (place : ℕ) (id : MsgId) (base cap_ : ℕ) (w : What) (d : Completion) → completing.completes p place id base cap_ w ≡ Some d → Completes p d
what_completes p place id base cap_ (what.User code channel body links) d e =
    let is = some_is e in
    subst (Completes p) is (unless_completes _ p (completing.receives p place id base code channel body.items links.items) (record { pid = refl; sent = refl }))
what_completes p place id base cap_ w d e = absurd (cc)

pub completion_completes : (p : Process) (place : ℕ) (s : Status) (o : Option Message) (d : Completion) → completion p place s o ≡ Some d → Completes p d
completion_completes p place (status.Waiting mask base cap_) (Some m) d e = what_completes p place m.id base cap_ m.what d e
completion_completes p place s o d e = absurd (cc)
