-- Each call, without places, is that of the kernel without machines.
use Rattle.dm_syscall.proofs.Names.{◌≡◌, ◌∙◌, ℕ, ◌+◌, Bool, true, false, ◌==◌, List, [], ◌∷◌, map, Some, None, refl, ap, sym, arith, if◌then◌else◌, cons_option, position_or_len, take, drop, set, get_or-map, map-set, common_steps, Option}
use Rattle.dm_syscall.proofs.Names.{is_none, Link, PlainLink, plain_link, first_empty, link_at, plain_slot, Process, Direction, direction_numbered, Reply, reply_code, plain_process, reg, setting, first_failed, CallNumber, Exit, Out, Make}
use Rattle.dm_syscall.proofs.Names.{Copy, Drop, Send, Receive, Move, Unknown, call_number, holds_reply, is_outside, is_reply, make_refusals, move_refusals, send_refusals, without_replies, Called, emptied, links_in, Done, after_send, begins}
use Rattle.dm_syscall.proofs.Names.{calls, copies, does_call, drops, listed, makes, message_over, moves, moves_bytes, moves_over, own_link, puts_link, sends, unless_refused, waits, whole, plain_called}
use Rattle.dm_message.specs.Plain as what
use Rattle.dm_process.specs.declared.process.Direction.TheVariants as direction
use Rattle.dm_onekernel.specs.declared.label.Reply.TheVariants as reply
use Rattle.dm_onekernel.specs.Calls as kernel
use Rattle.dm_onekernel.specs.Pieces as pieces
use Rattle.dm_syscall.specs.declared.Called.TheVariants as called

-- what a call comes to, without places
abbrev plain : Done → Option kernel.Called
plain d = plain_called d.called d.process

pub slot_at : (table : List (Option Link)) (n : ℕ) → link_at (map plain_slot table) n ≡ plain_slot (link_at table n)
slot_at table n = get_or-map plain_slot table n None

places_before : (table : List (Option Link)) → position_or_len is_none (map plain_slot table) ≡ position_or_len is_none table
places_before [] = refl
places_before (None ∷ table) = refl
places_before (Some l ∷ table) = ap (λ n. 1 + n) (places_before table)

pub first_of : (table : List (Option Link)) → first_empty (map plain_slot table) ≡ first_empty table
first_of table = grind (arith, common_steps, places_before table)

unless_plainly : (o : Option Reply) (p : Process) (d : Done) (x : kernel.Called) → plain d ≡ Some x → plain (unless_refused o p d) ≡ Some (kernel.unless_refused o (plain_process p) x)
unless_plainly None p d x e = e
unless_plainly (Some c) p d x e = refl

if_plainly : (b : Bool) (d e : Done) (x y : kernel.Called) → plain d ≡ Some x → plain e ≡ Some y → plain (if b then d else e) ≡ Some (if b then x else y)
if_plainly true d e x y f g = f
if_plainly false d e x y f g = g

puts_plainly : (p : Process) (l : Link) (o : Option ℕ) → plain (puts_link p l o) ≡ Some (kernel.puts_link (plain_process p) (plain_link l) o)
puts_plainly p l None = refl
puts_plainly p l (Some slot) =
    ap
    (λ t. Some (kernel.Replies reply.Done (record (plain_process p) { regs = setting (setting p.regs 0 (reply_code reply.Done)) 1 slot; links = t })))
    (map-set plain_slot p.table slot (Some l))

-- the same, where the lowest empty slot is looked for without places
puts_first : (p : Process) (l : Link) → plain (puts_link p l (first_empty p.table)) ≡ Some (kernel.puts_link (plain_process p) (plain_link l) (first_empty (map plain_slot p.table)))
puts_first p l =
    puts_plainly p l (first_empty p.table) ∙ ap (λ o. Some (kernel.puts_link (plain_process p) (plain_link l) o)) (sym (first_of p.table))

makes_plainly : (here : ℕ) (p : Process) → plain (makes here p) ≡ Some (kernel.makes p.pid (plain_process p))
makes_plainly here p = unless_plainly (first_failed (make_refusals (plain_process p))) p _ _ (puts_first p (own_link here p))

copies_plainly : (p : Process) (o : Option Link) → plain (copies p o) ≡ Some (kernel.copies (plain_process p) (plain_slot o))
copies_plainly p None = refl
copies_plainly p (Some l) = if_plainly (is_reply l.kind) _ _ _ _ refl (puts_first p l)

drops_plainly : (p : Process) (o : Option Link) → plain (drops p o) ≡ Some (kernel.drop_call (plain_process p) (plain_slot o))
drops_plainly p None = refl
drops_plainly p (Some l) =
    ap
    (λ t. Some (kernel.Replies reply.Done (record (plain_process p) { regs = setting p.regs 0 (reply_code reply.Done); links = t })))
    (map-set plain_slot p.table (reg p.regs 1) None)

-- the enclosed links, without places
cons_plainly : (o : Option Link) (ls : List Link) (ks : List PlainLink) → map plain_link ls ≡ ks → map plain_link (cons_option o ls) ≡ cons_option (plain_slot o) ks
cons_plainly None ls ks e = e
cons_plainly (Some l) ls ks e = ap (λ ks. plain_link l ∷ ks) e

enclosed_plainly : (table : List (Option Link)) (slots : List ℕ) → map plain_link (links_in table slots) ≡ kernel.links_in_slots (map plain_slot table) slots
enclosed_plainly table [] = refl
enclosed_plainly table (s ∷ ss) =
    cons_plainly (link_at table s) (links_in table ss) (kernel.links_in_slots (map plain_slot table) ss) (enclosed_plainly table ss)
    ∙ ap (λ o. cons_option o (kernel.links_in_slots (map plain_slot table) ss)) (sym (slot_at table s))

-- the table without reply links, without places
if_set : (b : Bool) (table : List (Option Link)) (s : ℕ) → (if b then set (map plain_slot table) s None else map plain_slot table) ≡ map plain_slot (if b then set table s None else table)
if_set true table s = sym (map-set plain_slot table s None)
if_set false table s = refl

emptied_plainly : (table : List (Option Link)) (slots : List ℕ) → map plain_slot (emptied table slots) ≡ without_replies (map plain_slot table) slots
emptied_plainly table [] = refl
emptied_plainly table (s ∷ ss) =
    let t : List (Option Link) = if holds_reply (plain_slot (link_at table s)) then set table s None else table in
    let e : (if holds_reply (link_at (map plain_slot table) s) then set (map plain_slot table) s None else map plain_slot table) ≡ map plain_slot t =
    ap (λ o. if holds_reply o then set (map plain_slot table) s None else map plain_slot table) (slot_at table s) ∙ if_set (holds_reply (plain_slot (link_at table s))) table s
    in
    emptied_plainly t ss ∙ ap (λ t. without_replies t ss) (sym e)

sent_plainly : (here : ℕ) (p : Process) (l : Link)
    → plain (record { called = called.Sent (message_over here p l); process = after_send p }) ≡ Some (kernel.Sends (kernel.message_over p.pid (plain_process p) (plain_link l)) (kernel.after_send (plain_process p)))
sent_plainly here p l =
    λ i. Some (kernel.Sends
    (record (kernel.message_over p.pid (plain_process p) (plain_link l)) { what = what.User l.code l.channel (take (reg p.regs 3) (drop (reg p.regs 2) p.memory)) (enclosed_plainly p.table (listed p) i) })
    (record (kernel.after_send (plain_process p)) { links = emptied_plainly p.table (reg p.regs 1 ∷ listed p) i }))

sends_plainly : (here : ℕ) (p : Process) (o : Option Link) → plain (sends here p o) ≡ Some (kernel.send_call p.pid (plain_process p) (plain_slot o))
sends_plainly here p None = refl
sends_plainly here p (Some l) = unless_plainly (first_failed (send_refusals (plain_process p))) p _ _ (sent_plainly here p l)

waits_plainly : (p : Process) → plain (waits p) ≡ Some (kernel.receive_call (plain_process p))
waits_plainly p = if_plainly (is_outside (plain_process p) (reg p.regs 2) (reg p.regs 3)) _ _ _ _ refl refl

begins_plainly : (here : ℕ) (p : Process) (l : Link) (dir : Direction)
    → plain (begins here p (whole p l dir)) ≡ Some (kernel.begins_move (pieces.requests p.pid (plain_process p) dir l.addr.pid (l.area.base + reg p.regs 3) (reg p.regs 4) (reg p.regs 5)))
begins_plainly here p l direction.FromArea = refl
begins_plainly here p l direction.IntoArea = refl

bytes_plainly : (here : ℕ) (p : Process) (l : Link) (dir : Direction) → plain (moves_bytes here p l dir) ≡ Some (kernel.moves_bytes p.pid (plain_process p) (plain_link l) dir)
bytes_plainly here p l dir = if_plainly (reg p.regs 5 == 0) _ _ _ _ refl (begins_plainly here p l dir)

over_plainly : (here : ℕ) (p : Process) (l : Link) (o : Option Direction) → plain (moves_over here p l o) ≡ Some (kernel.moves_over p.pid (plain_process p) (plain_link l) o)
over_plainly here p l None = refl
over_plainly here p l (Some dir) = unless_plainly (first_failed (move_refusals (plain_process p) (plain_link l) dir)) p _ _ (bytes_plainly here p l dir)

moves_plainly : (here : ℕ) (p : Process) (o : Option Link) → plain (moves here p o) ≡ Some (kernel.move_call p.pid (plain_process p) (plain_slot o))
moves_plainly here p None = refl
moves_plainly here p (Some l) = over_plainly here p l (direction_numbered (reg p.regs 2))

-- the link of register 1's slot
with_slot : (p : Process) (go : Option PlainLink → kernel.Called) → Some (go (plain_slot (link_at p.table (reg p.regs 1)))) ≡ Some (go (link_at (map plain_slot p.table) (reg p.regs 1)))
with_slot p go = ap (λ o. Some (go o)) (sym (slot_at p.table (reg p.regs 1)))

does_plainly : (here : ℕ) (p : Process) (k : CallNumber) → plain (does_call here p k) ≡ Some (kernel.does_call p.pid (plain_process p) k)
does_plainly here p Exit = refl
does_plainly here p Out = refl
does_plainly here p Make = makes_plainly here p
does_plainly here p Copy = copies_plainly p (link_at p.table (reg p.regs 1)) ∙ with_slot p (kernel.copies (plain_process p))
does_plainly here p Drop = drops_plainly p (link_at p.table (reg p.regs 1)) ∙ with_slot p (kernel.drop_call (plain_process p))
does_plainly here p Send = sends_plainly here p (link_at p.table (reg p.regs 1)) ∙ with_slot p (kernel.send_call p.pid (plain_process p))
does_plainly here p Receive = waits_plainly p
does_plainly here p Move = moves_plainly here p (link_at p.table (reg p.regs 1)) ∙ with_slot p (kernel.move_call p.pid (plain_process p))
does_plainly here p Unknown = refl

pub call_plainly : (here : ℕ) (p q : Process) (n : ℕ) (c : Called) → c ≡ (calls here p n).called → q ≡ (calls here p n).process
    → plain_called c q ≡ Some (kernel.call p.pid (plain_process p) n)
call_plainly here p q n c e f = (λ i. plain_called (e i) (f i)) ∙ does_plainly here p (call_number n)
