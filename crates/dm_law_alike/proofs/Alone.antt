-- What isn't done by a process that nobody can reach leaves it so.
use Rattle.dm_law_one.proofs.Names.{◌≡◌, ℕ, ◌+◌, ◌-◌, ◌*◌, ◌==◌, ◌&&◌, ◌||◌, Bool, true, false, refl, ap, ◌∙◌, sym, subst, nat_lt, nat_le, arith, nat_tests, ⊤, if◌then◌else◌, List, [], ◌∷◌, ◌++◌, length, slice_get, take, drop, map, Option, None, Some, cases_Bool, false≢true, inl, inr, Pid, pid_of, pid_eq, MsgId, answer_id, answer_to}
use Rattle.dm_law_one.proofs.Names.{PlainLink, PlainMessage, PlainWhat, Direction, Reply, Why, Outcome, Label, IsOwnStep, Called, Replies, Sends, Waits, Outputs, Ends, PlainProcess, PlainStatus, Ready, Waiting, Moving, Life, Alive, Manager, Switchboard, Pending, PendingKind, OneKernel, with_process}
use Rattle.dm_law_one.proofs.Names.{with_sent, without_note, without_message, bind, begun, BootImage, first_number, instruction, Row, manager, reg, gone_what, code_of_outcome, option_map_or, first_failed}
use Rattle.std.specs.Prelude.{zero, suc, replicate}
use Rattle.dm_law_one.proofs.Facts.{none_some}
use Rattle.dm_law_one.proofs.Equal.{pid_eq-is}
use Rattle.dm_law_one.proofs.Counted.{pending_of, is_of_memory}
use Rattle.dm_law_one.proofs.Steps.{bind-is, at_hand-is, runs}
use Rattle.dm_law_one.proofs.Sound.{Sound, not_server}
use Rattle.dm_law_rule.proofs.Changes.{Changes, by_step, Lives}
use Rattle.dm_onekernel.specs.Calls as calls
use Rattle.dm_onekernel.specs.Manager as manage
use Rattle.dm_onekernel.specs.Pieces as pieces
use Rattle.dm_onekernel.specs.Receiving as receiving
use Rattle.dm_onekernel.specs.Service as service
use Rattle.dm_onekernel.specs.Step as kernel
use Rattle.dm_onekernel.specs.Switchboard as board
use Rattle.dm_onekernel.specs.Kernel.{NamedLink}
use Rattle.dm_process.specs.Mail.{on_mask}
use Rattle.std.specs.Str.{bytes_eq}
use Rattle.dm_onekernel.specs.Boot.{is_general, slots_of}
use Rattle.dm_law_always.specs.Fits.{Each, KernelFits, WhatFits, awaits, status_awaits}
use Rattle.dm_law_always.proofs.Calling.{by_call}
use Rattle.dm_law_always.proofs.Fits.Creates.{fresh_child}
use Rattle.dm_law_alike.specs.Private.{is_numbered, Spared, MaybeSpared, OwnerSpared, MessageSpares, IsSpared}
use Rattle.dm_law_alike.proofs.Past.{other_by}
use Rattle.dm_law_alike.proofs.Sparing.{set_each, slot_spared, without_spared, links_spared, placed_spared, own_spared, right_spared, over_spared, spared_out, spared_put, spared_set, spared_end, spared_note, spared_unnote, spared_made, spared_board, spared_manager, spared_child, answers_more}

-- a process that goes on
pub record GoesSpared (cs : List Pid) (p : Pid) (y : PlainProcess) : Type 0 where
  pub links : Each (MaybeSpared cs p) y.links
  pub owner : OwnerSpared p y.status

abbrev pub CalledSpared : List Pid → Pid → Called → Type 0
CalledSpared cs p (Replies c y) = GoesSpared cs p y
CalledSpared cs p (Sends m y) = MessageSpares cs p m m.what × GoesSpared cs p y
CalledSpared cs p (Waits y) = GoesSpared cs p y
CalledSpared cs p (Outputs w y) = GoesSpared cs p y
CalledSpared cs p (Ends y) = ⊤

rights : (dir : Direction) (l : PlainLink) → calls.lacks_right dir l.area ≡ false → (l.area.read || l.area.write) ≡ true
rights Direction.FromArea l e = grind (arith, nat_tests)
rights Direction.IntoArea l e = grind (arith, nat_tests)

request_spared : (cs : List Pid) (p q : Pid) (x : PlainProcess) (dir : Direction) (owner : Pid) (base own left : ℕ) → pid_eq p owner ≡ false → Each (MaybeSpared cs p) x.links
    → MessageSpares cs p (pieces.requests q x dir owner base own left).message (pieces.requests q x dir owner base own left).message.what × GoesSpared cs p (pieces.requests q x dir owner base own left).process
request_spared cs p q x Direction.FromArea owner base own left apart links = (apart, record { links = links; owner = apart })
request_spared cs p q x Direction.IntoArea owner base own left apart links = (apart, record { links = links; owner = apart })

call_spared : (cs : List Pid) (p q : Pid) (x : PlainProcess) (n : ℕ) → pid_eq p q ≡ false → pid_eq q manager ≡ false → GoesSpared cs p x → CalledSpared cs p (calls.call q x n)
call_spared cs p q x n apart server h = by_call (CalledSpared cs p) q x n (record {
  refuses = λ c. record { links = h.links; owner = h.owner };
  outputs = record { links = h.links; owner = h.owner };
  makes = λ slot e. record { links = set_each (MaybeSpared cs p) x.links slot (Some (calls.own_link q x)) (own_spared cs p q x apart server) h.links; owner = h.owner };
  copies = λ l slot is. record { links = set_each (MaybeSpared cs p) x.links slot (Some l) (slot_spared cs p x.links (reg x.regs 1) l is h.links) h.links; owner = h.owner };
  drops = λ l. record { links = set_each (MaybeSpared cs p) x.links (reg x.regs 1) None tt h.links; owner = h.owner };
  sends = λ l is few. (
    (over_spared cs p l (slot_spared cs p x.links (reg x.regs 1) l is h.links), links_spared cs p x.links (calls.listed x) h.links),
    record { links = without_spared cs p (reg x.regs 1 ∷ calls.listed x) x.links h.links; owner = h.owner },
  );
  waits = record { links = h.links; owner = tt };
  moves = λ l dir is right lies off.
      request_spared cs p q x dir l.to (l.area.base + reg x.regs 3) (reg x.regs 4) (reg x.regs 5) (right_spared cs p l (rights dir l right) (slot_spared cs p x.links (reg x.regs 1) l is h.links)) h.links;
  ends = λ y. tt;
})

-- what comes next of another process
abbrev pub TrapSpared : List Pid → Pid → kernel.Trap → Type 0
TrapSpared cs p (kernel.Calls n called) = CalledSpared cs p called
TrapSpared cs p (kernel.Faults f) = ⊤

row_spared : (cs : List Pid) (p q : Pid) (x : PlainProcess) (row : Row) (a : kernel.Trap) → pid_eq p q ≡ false → pid_eq q manager ≡ false → GoesSpared cs p x → kernel.next_row q x row ≡ Some a → TrapSpared cs p a
row_spared cs p q x (Row.Plain regs bytes) a apart server h e = none_some a e
row_spared cs p q x (Row.Calls number regs) a apart server h e =
    let f : kernel.Calls number (calls.call q (record x { regs = regs }) number) ≡ a = cc in
    subst (TrapSpared cs p) f (call_spared cs p q (record x { regs = regs }) number apart server (record { links = h.links; owner = h.owner }))
row_spared cs p q x (Row.Faults fault) a apart server h e = let f : kernel.Faults fault ≡ a = cc in subst (TrapSpared cs p) f tt

goes_of : (s : OneKernel) (p q : Pid) (x : PlainProcess) → pid_eq p q ≡ false → s.processes q ≡ Some (Alive x) → IsSpared s p → GoesSpared s.manager.children p x
goes_of s p q x apart is h = record { links = h.tables q x apart is; owner = h.movers q x apart is }

trap_spared : (c e : MsgId → ℕ) (s : OneKernel) (p q : Pid) (a : kernel.Trap) → Sound c e s → pid_eq p q ≡ false → IsSpared s p → kernel.next_trap s q ≡ Some a → TrapSpared s.manager.children p a
trap_spared c e s p q a sound apart h is =
    let (x, running, row_is) = bind-is (kernel.running s q) (λ (v : PlainProcess). kernel.next_row q v (instruction v.regs v.memory)) a is in
    let r = runs s q x running in
    row_spared s.manager.children p q x (instruction x.regs x.memory) a apart (not_server s q x r.alive sound.made).1 (goes_of s p q x apart r.alive h) row_is

-- what a receive of another process comes to
abbrev pub CompletedSpared : List Pid → Pid → receiving.Completed → Type 0
CompletedSpared cs p (receiving.Receives y) = GoesSpared cs p y
CompletedSpared cs p (receiving.Refuses c y) = GoesSpared cs p y

unless_spared : (cs : List Pid) (p : Pid) (x : PlainProcess) (o : Option Reply) (base code channel : ℕ) (body : List ℕ) (links : List PlainLink) → Each (MaybeSpared cs p) x.links → Each (Spared cs p) links
    → CompletedSpared cs p (receiving.completes_unless o x (receiving.with_received x base code channel body links))
unless_spared cs p x None base code channel body links h f =
    record { links = placed_spared cs p links (record { regs = receiving.received_regs x.regs code channel (length body) (length links); links = x.links }) 5 f h; owner = tt }
unless_spared cs p x (Some c) base code channel body links h f = record { links = h; owner = tt }

if_completed : (cs : List Pid) (p : Pid) (b : Bool) (k d : receiving.Completed) → CompletedSpared cs p k → (if b then Some k else None) ≡ Some d → CompletedSpared cs p d
if_completed cs p true k d h e = let f : k ≡ d = cc in subst (CompletedSpared cs p) f h
if_completed cs p false k d h e = none_some d e

what_spared : (cs : List Pid) (p q : Pid) (x : PlainProcess) (m : PlainMessage) (mask base cap : ℕ) (w : PlainWhat) (d : receiving.Completed) → MessageSpares cs p m w → Each (MaybeSpared cs p) x.links → receiving.completes_what q x m mask base cap w ≡ Some d → CompletedSpared cs p d
what_spared cs p q x m mask base cap (PlainWhat.User code channel body links) d f h e =
    if_completed cs p (pid_eq m.to q && on_mask mask channel) (receiving.completes x base cap code channel body links) d (unless_spared cs p x (first_failed (receiving.receive_refusals x cap body links)) base code channel body links h f.1) e
what_spared cs p q x m mask base cap _ d f h e = none_some d e

status_spared : (cs : List Pid) (p q : Pid) (x : PlainProcess) (m : PlainMessage) (b : Bool) (st : PlainStatus) (d : receiving.Completed) → MessageSpares cs p m m.what → Each (MaybeSpared cs p) x.links → (if b then None else receiving.completes_status q x m st) ≡ Some d → CompletedSpared cs p d
status_spared cs p q x m true st d f h e = none_some d e
status_spared cs p q x m false (Waiting mask base cap) d f h e = what_spared cs p q x m mask base cap m.what d f h e
status_spared cs p q x m false Ready d f h e = none_some d e
status_spared cs p q x m false (Moving dir owner base own left pending) d f h e = none_some d e

completing_spared : (s : OneKernel) (p q : Pid) (id : MsgId) (d : receiving.Completed) → pid_eq p q ≡ false → IsSpared s p → kernel.completing s q id ≡ Some d → CompletedSpared s.manager.children p d
completing_spared s p q id d apart h e =
    let (x, is, rest) = bind-is (kernel.at_hand s q) (λ (v : PlainProcess). bind (s.bag id) (receiving.completes_with q v)) d e in
    let (m, there, last) = bind-is (s.bag id) (receiving.completes_with q x) d rest in
    let (free, alive) = at_hand-is s q x is in
    status_spared s.manager.children p q x m x.stopped x.status d (h.messages id m there) (h.tables q x apart alive) last

-- how a data move of another process lands
abbrev pub LandedSpared : List Pid → Pid → pieces.Landed → Type 0
LandedSpared cs p (pieces.Next m y) = MessageSpares cs p m m.what × GoesSpared cs p y
LandedSpared cs p (pieces.Done c y) = GoesSpared cs p y

landed_if : (cs : List Pid) (p : Pid) (b : Bool) (k d : pieces.Landed) → LandedSpared cs p k → LandedSpared cs p d → LandedSpared cs p (if b then k else d)
landed_if cs p true k d h f = h
landed_if cs p false k d h f = f

on_spared : (cs : List Pid) (p q : Pid) (x : PlainProcess) (dir : Direction) (owner : Pid) (base own left piece : ℕ) → pid_eq p owner ≡ false → Each (MaybeSpared cs p) x.links → LandedSpared cs p (pieces.move_goes_on q x dir owner base own left piece)
on_spared cs p q x dir owner base own left piece apart h =
    landed_if cs p (left - piece == 0) (pieces.done Reply.Done x) (pieces.next_request (pieces.requests q x dir owner (base + piece) (own + piece) (left - piece))) (record { links = h; owner = tt })
    (request_spared cs p q x dir owner (base + piece) (own + piece) (left - piece) apart h)

some_landed : (cs : List Pid) (p : Pid) (b : Bool) (k d : pieces.Landed) → LandedSpared cs p k → (if b then Some k else None) ≡ Some d → LandedSpared cs p d
some_landed cs p true k d h e = let f : k ≡ d = cc in subst (LandedSpared cs p) f h
some_landed cs p false k d h e = none_some d e

lands_by : (cs : List Pid) (p q : Pid) (x : PlainProcess) (dir : Direction) (owner : Pid) (base own left : ℕ) (w : PlainWhat) (d : pieces.Landed) → pid_eq p owner ≡ false → Each (MaybeSpared cs p) x.links → pieces.lands_what q x dir owner base own left w ≡ Some d → LandedSpared cs p d
lands_by cs p q x Direction.FromArea owner base own left (PlainWhat.Block bytes) d apart h e =
    some_landed cs p ((length bytes == pieces.piece_of left) && nat_le (own + left) (length x.memory)) (pieces.move_goes_on q (record x { memory = pieces.written_at x.memory own bytes }) Direction.FromArea owner base own left (pieces.piece_of left)) d
    (on_spared cs p q (record x { memory = pieces.written_at x.memory own bytes }) Direction.FromArea owner base own left (pieces.piece_of left) apart h) e
lands_by cs p q x Direction.IntoArea owner base own left PlainWhat.Written d apart h e =
    some_landed cs p (nat_le (own + left) (length x.memory)) (pieces.move_goes_on q x Direction.IntoArea owner base own left (pieces.piece_of left)) d (on_spared cs p q x Direction.IntoArea owner base own left (pieces.piece_of left) apart h) e
lands_by cs p q x Direction.FromArea owner base own left PlainWhat.Gone d apart h e = let f : pieces.done Reply.Gone x ≡ d = cc in subst (LandedSpared cs p) f (record { links = h; owner = tt })
lands_by cs p q x Direction.IntoArea owner base own left PlainWhat.Gone d apart h e = let f : pieces.done Reply.Gone x ≡ d = cc in subst (LandedSpared cs p) f (record { links = h; owner = tt })
lands_by cs p q x dir owner base own left _ d apart h e = none_some d e

lands_if : (cs : List Pid) (p : Pid) (b : Bool) (o : Option pieces.Landed) (d : pieces.Landed) → (o ≡ Some d → LandedSpared cs p d) → (if b then o else None) ≡ Some d → LandedSpared cs p d
lands_if cs p true o d h e = h e
lands_if cs p false o d h e = none_some d e

lands_spared : (cs : List Pid) (p q : Pid) (x : PlainProcess) (m : PlainMessage) (st : PlainStatus) (d : pieces.Landed) → OwnerSpared p st → Each (MaybeSpared cs p) x.links → pieces.lands q x m st ≡ Some d → LandedSpared cs p d
lands_spared cs p q x m (Moving dir owner base own left pending) d apart h e =
    lands_if cs p (m.id.n == pending) (pieces.lands_what q x dir owner base own left m.what) d (λ f. lands_by cs p q x dir owner base own left m.what d apart h f) e
lands_spared cs p q x m Ready d apart h e = none_some d e
lands_spared cs p q x m (Waiting mask base cap) d apart h e = none_some d e

-- what the switchboard does
board_names : (cs : List Pid) (p : Pid) (names : List NamedLink) (name : List ℕ) (l : PlainLink) → Each (λ (k : NamedLink). Spared cs p k.link) names → board.link_named name names ≡ Some l → Spared cs p l
board_names cs p [] name l h e = none_some l e
board_names cs p (k ∷ ks) name l h e = elim (cases_Bool (bytes_eq k.name name)) [
  | inl same ↦
      let f : Some k.link ≡ Some l = sym (ap (λ (b : Bool). if b then Some k.link else board.link_named name ks) same) ∙ e in
      let g : k.link ≡ l = cc in
      subst (Spared cs p) g h.0
  | inr apart ↦ board_names cs p ks name l h.1 (sym (ap (λ (b : Bool). if b then Some k.link else board.link_named name ks) apart) ∙ e)
]

pub record AskedSpared (cs : List Pid) (p : Pid) (a : board.Asked) : Type 0 where
  pub names : Each (λ (k : NamedLink). Spared cs p k.link) a.names
  pub links : Each (Spared cs p) (board.answer_row a.answer).1

each_last : {X : Type 0} (P : X → Type 0) (xs : List X) (y : X) → Each P xs → P y → Each P (xs ++ y ∷ [])
each_last P [] y h f = (f, tt)
each_last P (x ∷ xs) y h f = (h.0, each_last P xs y h.1 f)

registers_spared : (cs : List Pid) (p : Pid) (names : List NamedLink) (name : List ℕ) (l : PlainLink) (o : Option PlainLink) → Each (λ (k : NamedLink). Spared cs p k.link) names → Spared cs p l → AskedSpared cs p (board.registers_new names name l o)
registers_spared cs p names name l None h f = record { names = each_last (λ (k : NamedLink). Spared cs p k.link) names (record { name = name; link = l }) h f; links = tt }
registers_spared cs p names name l (Some taken) h f = record { names = h; links = tt }

found_spared : (cs : List Pid) (p : Pid) (names : List NamedLink) (o : Option PlainLink) → Each (λ (k : NamedLink). Spared cs p k.link) names → ((l : PlainLink) → o ≡ Some l → Spared cs p l) → AskedSpared cs p (record { names = names; answer = option_map_or board.Found o board.Unknown })
found_spared cs p names None h f = record { names = h; links = tt }
found_spared cs p names (Some l) h f = record { names = h; links = (f l refl, tt) }

asked_if : (cs : List Pid) (p : Pid) (b : Bool) (x y : board.Asked) → AskedSpared cs p x → AskedSpared cs p y → AskedSpared cs p (if b then x else y)
asked_if cs p true x y h k = h
asked_if cs p false x y h k = k

bad_spared : (cs : List Pid) (p : Pid) (names : List NamedLink) → Each (λ (k : NamedLink). Spared cs p k.link) names → AskedSpared cs p (board.board_bad_request names)
bad_spared cs p names h = record { names = h; links = tt }

name_spared : (cs : List Pid) (p : Pid) (names : List NamedLink) (name : List ℕ) (l : PlainLink) (b : Bool) → Each (λ (k : NamedLink). Spared cs p k.link) names → Spared cs p l
    → AskedSpared cs p (if b then board.registers_new names name l (board.link_named name names) else record { names = names; answer = board.BadLink })
name_spared cs p names name l true h f = registers_spared cs p names name l (board.link_named name names) h f
name_spared cs p names name l false h f = record { names = h; links = tt }

register_spared : (cs : List Pid) (p : Pid) (names : List NamedLink) (name : List ℕ) (links : List PlainLink) → Each (λ (k : NamedLink). Spared cs p k.link) names → Each (Spared cs p) links → AskedSpared cs p (board.asks_to_register names name links)
register_spared cs p names name [] h f = bad_spared cs p names h
register_spared cs p names name (l ∷ []) h f =
    asked_if cs p (board.is_name name) (board.registers_name names name l) (board.board_bad_request names) (name_spared cs p names name l (is_general l.kind) h f.0) (bad_spared cs p names h)
register_spared cs p names name (l ∷ k ∷ ls) h f = bad_spared cs p names h

look_up_spared : (cs : List Pid) (p : Pid) (names : List NamedLink) (name : List ℕ) (links : List PlainLink) → Each (λ (k : NamedLink). Spared cs p k.link) names → AskedSpared cs p (board.asks_to_look_up names name links)
look_up_spared cs p names name [] h =
    asked_if cs p (board.is_name name) (board.looks_up names name) (board.board_bad_request names) (found_spared cs p names (board.link_named name names) h (λ l e. board_names cs p names name l h e)) (bad_spared cs p names h)
look_up_spared cs p names name (l ∷ ls) h = bad_spared cs p names h

asks_spared : (cs : List Pid) (p : Pid) (names : List NamedLink) (body : List ℕ) (others : List PlainLink) → Each (λ (k : NamedLink). Spared cs p k.link) names → Each (Spared cs p) others → AskedSpared cs p (board.asks names body others)
asks_spared cs p names [] others h f = bad_spared cs p names h
asks_spared cs p names (operation ∷ name) others h f =
    asked_if cs p (operation == 1) (board.asks_to_register names name others) (if operation == 2 then board.asks_to_look_up names name others else board.board_bad_request names) (register_spared cs p names name others h f)
    (asked_if cs p (operation == 2) (board.asks_to_look_up names name others) (board.board_bad_request names) (look_up_spared cs p names name others h) (bad_spared cs p names h))

-- a message that a server sends, if it sends one
abbrev pub SentSpares : List Pid → Pid → Option PlainMessage → Type 0
SentSpares cs p None = ⊤
SentSpares cs p (Some m) = MessageSpares cs p m m.what

sent_spared : (s : OneKernel) (p : Pid) (o : Option PlainMessage) → SentSpares s.manager.children p o → IsSpared s p → IsSpared (with_sent s o) p
sent_spared s p None f h = h
sent_spared s p (Some m) f h = spared_put s p m f h

pub record BoardSpares (cs : List Pid) (p : Pid) (k : board.BoardTook) : Type 0 where
  pub names : Each (λ (v : NamedLink). Spared cs p v.link) k.switchboard.names
  pub answer : SentSpares cs p k.answer

request_taken : (cs : List Pid) (p : Pid) (b : Switchboard) (body : List ℕ) (links : List PlainLink) → Each (λ (k : NamedLink). Spared cs p k.link) b.names → Each (Spared cs p) links → BoardSpares cs p (board.takes_request b body links)
request_taken cs p b body [] h f = record { names = h; answer = tt }
request_taken cs p b body (l ∷ others) h f =
    let a = asks_spared cs p b.names body others h f.1 in
    record { names = a.names; answer = (over_spared cs p l f.0, a.links) }

board_spares : (cs : List Pid) (p : Pid) (b : Switchboard) (m : PlainMessage) (w : PlainWhat) (k : board.BoardTook) → Each (λ (v : NamedLink). Spared cs p v.link) b.names → MessageSpares cs p m w → board.board_takes b m w ≡ Some k → BoardSpares cs p k
board_spares cs p b m (PlainWhat.User code channel body links) k h f e = let g : board.takes_request b body links ≡ k = cc in subst (BoardSpares cs p) g (request_taken cs p b body links h f.1)
board_spares cs p b m _ k h f e = none_some k e

-- what the manager does: its children stay, or there is one more that isn't p
pub record ManagerSpares (g : Manager) (p : Pid) (k : manage.ManagerTook) : Type 0 where
  pub children : k.manager.children ≡ g.children
  pub answers : Each (λ (r : Pending). MaybeSpared g.children p r.answer) k.manager.pending
  pub message : SentSpares g.children p k.message

over_spares : (g : Manager) (p : Pid) (o : Option PlainLink) (code : ℕ) (links : List PlainLink) → Each (λ (r : Pending). MaybeSpared g.children p r.answer) g.pending → MaybeSpared g.children p o → Each (Spared g.children p) links → ManagerSpares g p (manage.answers_over g o code links)
over_spares g p None code links h f ls = record { children = refl; answers = h; message = tt }
over_spares g p (Some l) code links h f ls = record { children = refl; answers = h; message = (over_spared g.children p l f, ls) }

first_spared : (cs : List Pid) (p : Pid) (links : List PlainLink) → Each (Spared cs p) links → MaybeSpared cs p (slice_get links 0)
first_spared cs p [] h = tt
first_spared cs p (l ∷ ls) h = h.0

bad_spares : (g : Manager) (p : Pid) (links : List PlainLink) → Each (λ (r : Pending). MaybeSpared g.children p r.answer) g.pending → Each (Spared g.children p) links → ManagerSpares g p (manage.bad_request g links)
bad_spares g p links h f = over_spares g p (slice_get links 0) 2 [] h (first_spared g.children p links f) tt

spares_if : (g : Manager) (p : Pid) (b : Bool) (x y : manage.ManagerTook) → ManagerSpares g p x → ManagerSpares g p y → ManagerSpares g p (if b then x else y)
spares_if g p true x y h k = h
spares_if g p false x y h k = k

kernel_other : (cs : List Pid) (p : Pid) (machine : ℕ) → nat_le 3 p.num ≡ true → pid_eq p (pid_of machine 0) ≡ false
kernel_other cs p machine e = grind (arith, nat_tests)

wants_spares : (g : Manager) (p : Pid) (machines images machine image : ℕ) (links : List PlainLink) → nat_le 3 p.num ≡ true → Each (λ (r : Pending). MaybeSpared g.children p r.answer) g.pending → Each (Spared g.children p) links
    → ManagerSpares g p (manage.wants_child g machines images machine image links)
wants_spares g p machines images machine image [] least h f = bad_spares g p [] h f
wants_spares g p machines images machine image (l ∷ ls) least h f =
    spares_if g p (nat_lt machine machines && nat_lt image images) (manage.asks_for g machine image l ls) (manage.bad_request g (l ∷ ls)) (record {
      children = refl;
      answers = each_last (λ (r : Pending). MaybeSpared g.children p r.answer) g.pending (record { n = g.sent; kind = PendingKind.Create; answer = Some l }) h f.0;
      message = (kernel_other g.children p machine least, f.1);
    }) (bad_spares g p (l ∷ ls) h f)

requests_spares : (g : Manager) (p : Pid) (machines images : ℕ) (body : List ℕ) (links : List PlainLink) → nat_le 3 p.num ≡ true → Each (λ (r : Pending). MaybeSpared g.children p r.answer) g.pending → Each (Spared g.children p) links
    → ManagerSpares g p (manage.requests_child g machines images body links)
requests_spares g p machines images (operation ∷ machine ∷ high ∷ low ∷ []) links least h f =
    spares_if g p (operation == 1) (manage.wants_child g machines images machine (256 * high + low) links) (manage.bad_request g links) (wants_spares g p machines images machine (256 * high + low) links least h f) (bad_spares g p links h f)
requests_spares g p machines images _ links least h f = bad_spares g p links h f

control_spares : (g : Manager) (p child : Pid) (b c d : Bool) (links : List PlainLink) → pid_eq p child ≡ false → Each (λ (r : Pending). MaybeSpared g.children p r.answer) g.pending → Each (Spared g.children p) links
    → ManagerSpares g p (option_map_or (manage.tells g child) (if b then Some PlainWhat.Stop else if c then Some PlainWhat.Resume else if d then Some PlainWhat.Kill else None) (manage.bad_request g links))
control_spares g p child true c d links apart h f = record { children = refl; answers = h; message = apart }
control_spares g p child false true d links apart h f = record { children = refl; answers = h; message = apart }
control_spares g p child false false true links apart h f = record { children = refl; answers = h; message = apart }
control_spares g p child false false false links apart h f = bad_spares g p links h f

controls_spares : (g : Manager) (p : Pid) (machines : ℕ) (o : Option Pid) (body : List ℕ) (links : List PlainLink) → option_map_or (λ c. pid_eq p c) o false ≡ false → Each (λ (r : Pending). MaybeSpared g.children p r.answer) g.pending → Each (Spared g.children p) links
    → ManagerSpares g p (manage.controls g machines o body links)
controls_spares g p machines (Some child) (operation ∷ []) links apart h f = control_spares g p child (operation == 2) (operation == 3) (operation == 4) links apart h f
controls_spares g p machines (Some child) (operation ∷ machine ∷ []) links apart h f =
    spares_if g p (operation == 5) (manage.moves_child g machines child machine links) (manage.bad_request g links)
    (spares_if g p (nat_lt machine machines) (manage.sends_request g PendingKind.Move child (PlainWhat.Move machine) (slice_get links 0)) (manage.bad_request g links) (record {
      children = refl;
      answers = each_last (λ (r : Pending). MaybeSpared g.children p r.answer) g.pending (record { n = g.sent; kind = PendingKind.Move; answer = slice_get links 0 }) h (first_spared g.children p links f);
      message = apart;
    }) (bad_spares g p links h f)) (bad_spares g p links h f)
controls_spares g p machines _ body links apart h f = bad_spares g p links h f

user_spares : (g : Manager) (p : Pid) (machines images code : ℕ) (body : List ℕ) (links : List PlainLink) → nat_le 3 p.num ≡ true → is_numbered g.children code p ≡ false → Each (λ (r : Pending). MaybeSpared g.children p r.answer) g.pending → Each (Spared g.children p) links
    → ManagerSpares g p (manage.takes_user g machines images code body links)
user_spares g p machines images code body links least apart h f =
    spares_if g p (code == 0) (manage.requests_child g machines images body links) (manage.controls g machines (manage.child_numbered g.children code) body links) (requests_spares g p machines images body links least h f)
    (controls_spares g p machines (manage.child_numbered g.children code) body links apart h f)

found_answer : (cs : List Pid) (p : Pid) (n : ℕ) (rs : List Pending) (r : Pending) → Each (λ (v : Pending). MaybeSpared cs p v.answer) rs → manage.pending_numbered n rs ≡ Some r → MaybeSpared cs p r.answer
found_answer cs p n [] r h e = none_some r e
found_answer cs p n (x ∷ xs) r h e = elim (cases_Bool (x.n == n)) [
  | inl same ↦
      let f : Some x ≡ Some r = sym (ap (λ (b : Bool). if b then Some x else manage.pending_numbered n xs) same) ∙ e in
      let g : x ≡ r = cc in
      subst (λ (v : Pending). MaybeSpared cs p v.answer) g h.0
  | inr apart ↦ found_answer cs p n xs r h.1 (sym (ap (λ (b : Bool). if b then Some x else manage.pending_numbered n xs) apart) ∙ e)
]

without_if : (cs : List Pid) (p : Pid) (b : Bool) (xs ys : List Pending) → Each (λ (v : Pending). MaybeSpared cs p v.answer) xs → Each (λ (v : Pending). MaybeSpared cs p v.answer) ys → Each (λ (v : Pending). MaybeSpared cs p v.answer) (if b then xs else ys)
without_if cs p true xs ys h k = h
without_if cs p false xs ys h k = k

without_answer : (cs : List Pid) (p : Pid) (n : ℕ) (rs : List Pending) → Each (λ (v : Pending). MaybeSpared cs p v.answer) rs → Each (λ (v : Pending). MaybeSpared cs p v.answer) (manage.without_pending n rs)
without_answer cs p n [] h = tt
without_answer cs p n (x ∷ xs) h = without_if cs p (x.n == n) xs (x ∷ manage.without_pending n xs) h.1 (h.0, without_answer cs p n xs h.1)

-- with one more child, or as it is
pub record TookSpares (s : OneKernel) (p : Pid) (k : manage.ManagerTook) : Type 0 where
  pub spared : IsSpared (record s { manager = k.manager }) p
  pub message : SentSpares k.manager.children p k.message

took_same : (s : OneKernel) (p : Pid) (k : manage.ManagerTook) → ManagerSpares s.manager p k → IsSpared s p → TookSpares s p k
took_same s p k h spared = record {
  spared = spared_manager s p k.manager h.children (subst (λ cs. Each (λ (r : Pending). MaybeSpared cs p r.answer) k.manager.pending) (sym h.children) h.answers) spared;
  message = subst (λ cs. SentSpares cs p k.message) (sym h.children) h.message;
}

control_link_spared : (cs : List Pid) (p child : Pid) → pid_eq p child ≡ false → pid_eq p manager ≡ false → Spared (cs ++ child ∷ []) p (manage.control_link (length cs + 1))
control_link_spared cs p child apart server =
    let last : is_numbered (cs ++ child ∷ []) (length cs + 1) p ≡ false = numbered_end cs p child apart in
    ap (λ b. (pid_eq p manager && false) || (pid_eq manager manager && b)) last ∙ (let z : ((pid_eq p manager && false) || (pid_eq manager manager && false)) ≡ false = grind (arith, nat_tests) in z)
  where
    at_end : (cs : List Pid) (p child : Pid) → pid_eq p child ≡ false → option_map_or (λ v. pid_eq p v) (slice_get (cs ++ child ∷ []) (length cs)) false ≡ false
    at_end [] p child e = e
    at_end (x ∷ xs) p child e = at_end xs p child e

    numbered_end : (cs : List Pid) (p child : Pid) → pid_eq p child ≡ false → is_numbered (cs ++ child ∷ []) (length cs + 1) p ≡ false
    numbered_end cs p child e = let n : length cs + 1 ≡ suc (length cs) = omega arith in ap (λ k. is_numbered (cs ++ child ∷ []) k p) n ∙ at_end cs p child e

child_took : (s : OneKernel) (p child : Pid) (n : ℕ) (o : Option Pending) (k : manage.ManagerTook) → pid_eq p child ≡ false → pid_eq p manager ≡ false → manage.pending_numbered n s.manager.pending ≡ o → IsSpared s p
    → manage.takes_answer s.manager n (s.manager.children ++ child ∷ []) 0 (manage.control_link (length s.manager.children + 1) ∷ []) o ≡ Some k → TookSpares s p k
child_took s p child n None k apart server found h e = none_some k e
child_took s p child n (Some r) k apart server found h e =
    let cs = s.manager.children ++ child ∷ [] in
    let g : Manager = record s.manager { children = cs; pending = manage.without_pending n s.manager.pending } in
    let f : manage.answers_over g r.answer 0 (manage.control_link (length s.manager.children + 1) ∷ []) ≡ k = cc in
    let answers : Each (λ (v : Pending). MaybeSpared cs p v.answer) (manage.without_pending n s.manager.pending) = without_answer cs p n s.manager.pending (answers_more s.manager.children p child s.manager.pending apart h.answers) in
    let link : MaybeSpared cs p r.answer = found_answer cs p n s.manager.pending r (answers_more s.manager.children p child s.manager.pending apart h.answers) found in
    subst (TookSpares s p) f (over_child s p child g r.answer apart refl answers link (control_link_spared s.manager.children p child apart server) h)
  where
    over_child : (s : OneKernel) (p child : Pid) (g : Manager) (o : Option PlainLink) → pid_eq p child ≡ false → g.children ≡ s.manager.children ++ child ∷ [] → Each (λ (v : Pending). MaybeSpared g.children p v.answer) g.pending → MaybeSpared g.children p o
        → Spared g.children p (manage.control_link (length s.manager.children + 1)) → IsSpared s p → TookSpares s p (manage.answers_over g o 0 (manage.control_link (length s.manager.children + 1) ∷ []))
    over_child s p child g None apart more answers link control h = record { spared = spared_child s p child g apart more answers h; message = tt }
    over_child s p child g (Some l) apart more answers link control h =
        record { spared = spared_child s p child (record g { sent = g.sent + 1 }) apart more answers h; message = (over_spared g.children p l link, (control, tt)) }

answer_took : (s : OneKernel) (p : Pid) (n code : ℕ) (o : Option Pending) (k : manage.ManagerTook) → manage.pending_numbered n s.manager.pending ≡ o → IsSpared s p → manage.takes_answer s.manager n s.manager.children code [] o ≡ Some k → TookSpares s p k
answer_took s p n code None k found h e = none_some k e
answer_took s p n code (Some r) k found h e =
    let g : Manager = record s.manager { pending = manage.without_pending n s.manager.pending } in
    let f : manage.answers_over g r.answer code [] ≡ k = cc in
    let over = over_spares g p r.answer code [] (without_answer s.manager.children p n s.manager.pending h.answers) (found_answer s.manager.children p n s.manager.pending r h.answers found) tt in
    subst (TookSpares s p) f (took_same s p (manage.answers_over g r.answer code []) (record { children = over.children; answers = over.answers; message = over.message }) h)

manager_spares : (s : OneKernel) (p : Pid) (m : PlainMessage) (w : PlainWhat) (k : manage.ManagerTook) → nat_le 3 p.num ≡ true → pid_eq m.to manager ≡ true → MessageSpares s.manager.children p m w → IsSpared s p
    → manage.manager_takes s.manager s.machines (length s.images) m w ≡ Some k → TookSpares s p k
manager_spares s p m (PlainWhat.User code channel body links) k least to f h e =
    let g : manage.takes_user s.manager s.machines (length s.images) code body links ≡ k = cc in
    let apart : is_numbered s.manager.children code p ≡ false = sym (ap (λ b. b && is_numbered s.manager.children code p) to) ∙ f.0 in
    subst (TookSpares s p) g (took_same s p (manage.takes_user s.manager s.machines (length s.images) code body links) (user_spares s.manager p s.machines (length s.images) code body links least apart h.answers f.1) h)
manager_spares s p m (PlainWhat.Created child) k least to f h e =
    child_took s p child m.id.n (manage.pending_numbered m.id.n s.manager.pending) k f.1 (let z : pid_eq p manager ≡ false = grind (arith, nat_tests) in z) refl h e
manager_spares s p m PlainWhat.NoRoom k least to f h e = answer_took s p m.id.n 1 (manage.pending_numbered m.id.n s.manager.pending) k refl h e
manager_spares s p m (PlainWhat.Moved outcome) k least to f h e = answer_took s p m.id.n (code_of_outcome outcome) (manage.pending_numbered m.id.n s.manager.pending) k refl h e
manager_spares s p m _ k least to f h e = none_some k e

-- a kernel with a process that nobody can reach, which lives and moves no data
pub record Secluded (c e : MsgId → ℕ) (s : OneKernel) (p : Pid) (x : PlainProcess) : Type 0 where
  pub sound : Sound c e s
  pub fits : KernelFits s
  pub alive : s.processes p ≡ Some (Alive x)
  pub still : pending_of x.status ≡ None
  pub spared : IsSpared s p

least_number : (c e : MsgId → ℕ) (s : OneKernel) (p : Pid) (x : PlainProcess) → Secluded c e s p x → nat_le 3 p.num ≡ true
least_number c e s p x h = h.sound.made.least p (let k : option_map_or (λ (v : Life). true) (s.processes p) false ≡ true = ap (λ o. option_map_or (λ (v : Life). true) o false) h.alive in (let f = h.alive in grind arith))

not_awaiting : (st : PlainStatus) (n : ℕ) (w : PlainWhat) → pending_of st ≡ None → status_awaits st n w ≡ false
not_awaiting Ready n w e = refl
not_awaiting (Waiting mask base cap) n w e = refl
not_awaiting (Moving dir owner base own left pending) n w e = absurd (let f : Some pending ≡ None = e in cc)

-- who asks for a piece of memory is another
asker_other : (c e : MsgId → ℕ) (s : OneKernel) (p : Pid) (x : PlainProcess) (i : MsgId) (m : PlainMessage) (w : PlainWhat) → Secluded c e s p x → s.bag i ≡ Some m → is_of_memory m.what ≡ true → awaits (s.processes i.from) i.n w ≡ true → pid_eq p m.sender ≡ false
asker_other c e s p x i m w h there memory waits = other_by p m.sender (λ same.
    let from : m.sender ≡ i.from = h.sound.movers.senders i m there memory in
    let f : awaits (s.processes p) i.n w ≡ true = ap (λ v. awaits (s.processes v) i.n w) (same ∙ from) ∙ waits in
    let g : awaits (s.processes p) i.n w ≡ false = ap (λ o. awaits o i.n w) h.alive ∙ not_awaiting x.status i.n w h.still in
    false≢true (sym g ∙ f))

manager_other : (c e : MsgId → ℕ) (s : OneKernel) (p q : Pid) (x : PlainProcess) → Secluded c e s p x → q ≡ manager → pid_eq p q ≡ false
manager_other c e s p q x h same = ap (pid_eq p) same ∙ (not_server s p x h.alive h.sound.made).1

-- by what a message says
what_of : (s : OneKernel) (i : MsgId) (m : PlainMessage) (w : PlainWhat) → m.what ≡ w → s.bag i ≡ Some m → KernelFits s → WhatFits s i m w
what_of s i m w is there h = subst (WhatFits s i m) is (h.messages i m there)

spares_of : (s : OneKernel) (p : Pid) (i : MsgId) (m : PlainMessage) (w : PlainWhat) → m.what ≡ w → s.bag i ≡ Some m → IsSpared s p → MessageSpares s.manager.children p m w
spares_of s p i m w is there h = subst (MessageSpares s.manager.children p m) is (h.messages i m there)

gone_asker : (c e : MsgId → ℕ) (s : OneKernel) (p : Pid) (x : PlainProcess) (i : MsgId) (m : PlainMessage) (v w : PlainWhat) → m.what ≡ v → Secluded c e s p x → s.bag i ≡ Some m → gone_what v ≡ Some w → pid_eq p m.sender ≡ false
gone_asker c e s p x i m (PlainWhat.Read base len) w is h there g = asker_other c e s p x i m (PlainWhat.Read base len) h there (ap is_of_memory is) (what_of s i m (PlainWhat.Read base len) is there h.fits).1
gone_asker c e s p x i m (PlainWhat.Write base bytes) w is h there g = asker_other c e s p x i m (PlainWhat.Write base bytes) h there (ap is_of_memory is) (what_of s i m (PlainWhat.Write base bytes) is there h.fits).1
gone_asker c e s p x i m (PlainWhat.Move machine) w is h there g = manager_other c e s p m.sender x h (what_of s i m (PlainWhat.Move machine) is there h.fits).2
gone_asker c e s p x i m _ w is h there g = none_some w g

gone_spares : (cs : List Pid) (p : Pid) (m : PlainMessage) (v w : PlainWhat) → gone_what v ≡ Some w → pid_eq p m.sender ≡ false → MessageSpares cs p (answer_to m w) w
gone_spares cs p m (PlainWhat.Read base len) w g apart = let f : PlainWhat.Gone ≡ w = cc in subst (λ k. MessageSpares cs p (answer_to m k) k) f apart
gone_spares cs p m (PlainWhat.Write base bytes) w g apart = let f : PlainWhat.Gone ≡ w = cc in subst (λ k. MessageSpares cs p (answer_to m k) k) f apart
gone_spares cs p m (PlainWhat.Move machine) w g apart = let f : PlainWhat.Moved Outcome.Ended ≡ w = cc in subst (λ k. MessageSpares cs p (answer_to m k) k) f apart
gone_spares cs p m _ w g apart = none_some w g

-- the process that a label is of
own_other : (s : OneKernel) (p q : Pid) → (q ≡ p → ⊥) → pid_eq p q ≡ false
own_other s p q h = other_by p q (λ same. h (sym same))

set_by : (s : OneKernel) (p q : Pid) (y : PlainProcess) → GoesSpared s.manager.children p y → IsSpared s p → IsSpared (with_process s q (Alive y)) p
set_by s p q y g h = spared_set s p q y g.links g.owner h

changed_by : (s : OneKernel) (p : Pid) (id : MsgId) (m : PlainMessage) (y : PlainProcess) → GoesSpared s.manager.children p y → IsSpared s p → IsSpared (service.changed s id m y) p
changed_by s p id m y g h = set_by (without_message s id) p m.to y g (spared_out s p id h)

-- a message for another process
lives_other : (c e : MsgId → ℕ) (s : OneKernel) (p : Pid) (x : PlainProcess) (id : MsgId) (m : PlainMessage) (y : PlainProcess) → Secluded c e s p x → pid_eq p m.to ≡ false → Lives s id m y → GoesSpared s.manager.children p y
lives_other c e s p x id m y h apart l = goes_of s p m.to y apart l.alive h.spared

replicate_spared : (cs : List Pid) (p : Pid) (n : ℕ) → Each (MaybeSpared cs p) (replicate n None)
replicate_spared cs p zero = tt
replicate_spared cs p (suc n) = (tt, replicate_spared cs p n)

append_each : {X : Type 0} (P : X → Type 0) (xs ys : List X) → Each P xs → Each P ys → Each P (xs ++ ys)
append_each P [] ys h k = k
append_each P (x ∷ xs) ys h k = (h.0, append_each P xs ys h.1 k)

somes_spared : (cs : List Pid) (p : Pid) (ls : List PlainLink) → Each (Spared cs p) ls → Each (MaybeSpared cs p) (map Some ls)
somes_spared cs p [] h = tt
somes_spared cs p (l ∷ ls) h = (h.0, somes_spared cs p ls h.1)

begun_spared : (cs : List Pid) (p : Pid) (f : _) (image : BootImage) (ls : List PlainLink) → Each (Spared cs p) ls → GoesSpared cs p (begun f image ls)
begun_spared cs p f image ls h = record { links = append_each (MaybeSpared cs p) (map Some ls) (replicate (slots_of f - length ls) None) (somes_spared cs p ls h) (replicate_spared cs p (slots_of f - length ls)); owner = tt }

-- whatever isn't done by the process itself
rows_spare : (c e : MsgId → ℕ) (s : OneKernel) (p : Pid) (x : PlainProcess) (l : Label) → Secluded c e s p x → (IsOwnStep s p l → ⊥) → Changes (λ u. IsSpared u p) s l
rows_spare c e s p x l h other =
    let cs = s.manager.children in
    record {
      ran = λ q k z m is r.
          let apart = own_other s p q (λ same. other (subst (IsOwnStep s p) (sym is) same)) in
          let g = goes_of s p q z apart r.alive h.spared in
          set_by s p q (kernel.with_machine z m) (record { links = g.links; owner = g.owner }) h.spared;
      replies = λ q n k d r y is next.
          let apart = own_other s p q (λ same. other (subst (IsOwnStep s p) (sym is) same)) in
          set_by s p q y (trap_spared c e s p q (kernel.Calls k (Replies r y)) h.sound apart h.spared next.is) h.spared;
      sends = λ q id k m y is same_id next.
          let apart = own_other s p q (λ same. other (subst (IsOwnStep s p) (sym is) same)) in
          let t = trap_spared c e s p q (kernel.Calls k (Sends m y)) h.sound apart h.spared next.is in
          spared_put (kernel.goes_on s q y) p m t.0 (set_by s p q y t.1 h.spared);
      waits = λ q k y is next.
          let apart = own_other s p q (λ same. other (subst (IsOwnStep s p) (sym is) same)) in
          set_by s p q y (trap_spared c e s p q (kernel.Calls k (Waits y)) h.sound apart h.spared next.is) h.spared;
      outputs = λ q w k v y is next.
          let apart = own_other s p q (λ same. other (subst (IsOwnStep s p) (sym is) same)) in
          set_by s p q y (trap_spared c e s p q (kernel.Calls k (Outputs v y)) h.sound apart h.spared next.is) h.spared;
      ends = λ q y next is w. spared_end s p q y h.spared;
      receives = λ q id y is w completes.
          let apart = own_other s p q (λ same. other (subst (IsOwnStep s p) (sym is) same)) in
          set_by (without_message s id) p q y (completing_spared s p q id (receiving.Receives y) apart h.spared completes) (spared_out s p id h.spared);
      refuses = λ q id d r y is w completes.
          let apart = own_other s p q (λ same. other (subst (IsOwnStep s p) (sym is) same)) in
          set_by s p q y (completing_spared s p q id (receiving.Refuses r y) apart h.spared completes) h.spared;
      dropped = λ id m y is w kind. spared_out s p id h.spared;
      gone = λ id m y is w k answer.
          let asker = gone_asker c e s p x id m m.what k refl h w.there answer in
          spared_put (without_message s id) p (answer_to m k) (gone_spares cs p m m.what k answer asker) (spared_out s p id h.spared);
      stops = λ id m y b is w mild.
          let apart = own_other s p m.to (λ same. other (subst (IsOwnStep s p) (sym is) (m, w.there, same))) in
          let g = lives_other c e s p x id m y h apart w in
          changed_by s p id m (record y { stopped = b }) (record { links = g.links; owner = g.owner }) h.spared;
      kills = λ id m y is w kill. spared_end (without_message s id) p m.to Why.Killed (spared_out s p id h.spared);
      reads = λ id m y base len is w read.
          let apart = own_other s p m.to (λ same. other (subst (IsOwnStep s p) (sym is) (m, w.there, same))) in
          let asker = asker_other c e s p x id m (PlainWhat.Read base len) h w.there (ap is_of_memory read) (what_of s id m (PlainWhat.Read base len) read w.there h.fits).1 in
          spared_put (service.changed s id m y) p (answer_to m (PlainWhat.Block (take len (drop base y.memory)))) asker (changed_by s p id m y (lives_other c e s p x id m y h apart w) h.spared);
      writes = λ id m y base bytes is w write.
          let apart = own_other s p m.to (λ same. other (subst (IsOwnStep s p) (sym is) (m, w.there, same))) in
          let asker = asker_other c e s p x id m (PlainWhat.Write base bytes) h w.there (ap is_of_memory write) (what_of s id m (PlainWhat.Write base bytes) write w.there h.fits).1 in
          let g = lives_other c e s p x id m y h apart w in
          spared_put (service.changed s id m (record y { memory = pieces.written_at y.memory base bytes })) p (answer_to m PlainWhat.Written) asker
          (changed_by s p id m (record y { memory = pieces.written_at y.memory base bytes }) (record { links = g.links; owner = g.owner }) h.spared);
      lands = λ id m y r z is w mild last.
          let apart = own_other s p m.to (λ same. other (subst (IsOwnStep s p) (sym is) (m, w.there, same))) in
          let g = lives_other c e s p x id m y h apart w in
          let t = lands_spared cs p m.to y m y.status (pieces.Next r z) g.owner g.links last in
          spared_put (service.changed s id m z) p r t.0 (changed_by s p id m z t.1 h.spared);
      done = λ id m y d z is w mild last.
          let apart = own_other s p m.to (λ same. other (subst (IsOwnStep s p) (sym is) (m, w.there, same))) in
          let g = lives_other c e s p x id m y h apart w in
          changed_by s p id m z (lands_spared cs p m.to y m y.status (pieces.Done d z) g.owner g.links last) h.spared;
      board = λ id m k is there to took.
          let b = board_spares cs p s.switchboard m m.what k h.spared.names (h.spared.messages id m there) took in
          sent_spared (record (without_message s id) { switchboard = k.switchboard }) p k.answer b.answer (spared_board (without_message s id) p k.switchboard b.names (spared_out s p id h.spared));
      manager = λ id m k is there to took.
          let t = manager_spares (without_message s id) p m m.what k (least_number c e s p x h) to (h.spared.messages id m there) (spared_out s p id h.spared) took in
          sent_spared (record (without_message s id) { manager = k.manager }) p k.message t.message t.spared;
      creates = λ id child m image links i is w found name.
          let f = what_of s id m (PlainWhat.Create image links) w.what w.there h.fits in
          let asker = manager_other c e s p m.sender x h f.3 in
          let fresh = fresh_child c e s child m.to.home (pid_eq-is child (pid_of m.to.home (first_number + s.made m.to.home)) name) h.sound in
          let apart = other_by p child (λ same. none_some (Alive x) (sym fresh ∙ ap s.processes (sym same) ∙ h.alive)) in
          let spares = spares_of s p id m (PlainWhat.Create image links) w.what w.there h.spared in
          let set = set_by (without_message s id) p child (begun s.format i links) (begun_spared cs p s.format i links spares.1) (spared_out s p id h.spared) in
          let made = spared_made (with_process (without_message s id) child (Alive (begun s.format i links))) p (λ n. s.made n + (if child.home == n then 1 else 0)) set in
          spared_put (service.with_created (without_message s id) child i links) p (answer_to m (PlainWhat.Created child)) (asker, apart) made;
      no_room = λ id a b m image links is w.
          let f = what_of s id m (PlainWhat.Create image links) w.what w.there h.fits in
          spared_put (without_message s id) p (answer_to m PlainWhat.NoRoom) (manager_other c e s p m.sender x h f.3) (spared_out s p id h.spared);
      asked = λ id m y machine is w move. spared_note (without_message s id) p m.to (record { id = id; asker = m.sender }) (spared_out s p id h.spared);
      answered = λ id o q n is w.
          let f = h.fits.notes q n w.notes in
          spared_put (without_note s q id) p (record { id = answer_id id; to = n.asker; sender = q; what = PlainWhat.Moved o }) (manager_other c e s p n.asker x h f.asker) (spared_unnote s p q id h.spared);
    }

pub step_spares : (c e : MsgId → ℕ) (s t : OneKernel) (p : Pid) (x : PlainProcess) (l : Label) → Secluded c e s p x → (IsOwnStep s p l → ⊥) → kernel.step s l ≡ Some t → IsSpared t p
step_spares c e s t p x l h other is = by_step (λ u. IsSpared u p) s t l (rows_spare c e s p x l h other) is
