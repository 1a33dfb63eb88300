-- What a call gives: each address that it gives is one that the process that it is of may have.
use Rattle.dm_law_rule.proofs.Names.{◌≡◌, ℕ, zero, suc, ◌||◌, Bool, true, false, List, [], ◌∷◌, refl, ap, ◌∙◌, sym, subst, arith, nat_lt, ⊤, if◌then◌else◌, map, slice_get, slice_set, filter_map, cons_option, is_none, Option, None, Some, Pid}
use Rattle.dm_law_rule.proofs.Names.{Place, pid_eq, PlainLink, first_empty, link_at, MsgId, id_eq, id_of, PlainMessage, Direction, direction_numbered, Regs, Row, instruction, past, Reply, PlainProcess, reg, setting, OneKernel, CallNumber}
use Rattle.dm_law_rule.proofs.Names.{Called, Replies, Sends, Waits, Outputs, Ends, first_failed, pid_eq-same, id_eq-same, bind-is, View, Addresses, Gets, gets, given, Slot, Owner, Receiver, Sender, acting_place, encloses, fills, fills_by}
use Rattle.dm_law_rule.proofs.Names.{sending_gets, owner_in, links_in, or_parts, none_some}
use Rattle.dm_law_rule.proofs.Homes.{place_as, pid_as, HomeProcess, HomeMessage, AtHome}
use Rattle.dm_law_rule.proofs.Homes.Slots.{set_link, emptied_link, without_replies_link, past_call}
use Rattle.dm_law_rule.proofs.Homes.Rows.{SameProcess, SameMessage, SameServers, running_home, encloses_servers, encloses_process, encloses_message, encloses_at}
use Rattle.dm_law_rule.proofs.Requests.{by_test}
use Rattle.dm_onekernel.specs.Calls as calls
use Rattle.dm_onekernel.specs.Pieces as pieces
use Rattle.dm_onekernel.specs.Step as kernel
pub use Rattle.dm_law_one.proofs.Facts.{or-left, or-right}

-- the process behind its call
abbrev pub behind : PlainProcess → PlainProcess
behind x = record x { regs = past x.regs }

-- what a reply gives
abbrev pub gives_by : View → Addresses → Pid → PlainProcess → CallNumber → Reply → List Gets
gives_by v a p x n Reply.Done = fills_by v a p x n
gives_by v a p x n _ = []

-- a process that has sent a message, where b is a with what the sending gives
pub record HomeSent (P : Pid → Place → Type 0) (a b : Addresses) (p : Pid) (m : PlainMessage) (y : PlainProcess) : Type 0 where
  pub process : HomeProcess P b p y
  pub message : HomeMessage P b m.id m
  pub others : (q : Pid) → pid_eq p q ≡ false → SameProcess a b q
  pub messages : (i : MsgId) → id_eq m.id i ≡ false → SameMessage a b i
  pub servers : SameServers a b

abbrev pub HomeCalled : (Pid → Place → Type 0) → View → Addresses → Pid → PlainProcess → CallNumber → Called → Type 0
HomeCalled P v a p x n (Replies c y) = HomeProcess P (given a (gives_by v a p x n c)) p y
HomeCalled P v a p x n (Sends m y) = HomeSent P a (given a (sending_gets v a p x m.id m.what)) p m y
HomeCalled P v a p x n (Waits y) = HomeProcess P a p y
HomeCalled P v a p x n (Outputs w y) = HomeProcess P a p y
HomeCalled P v a p x n (Ends because) = ⊤

-- registers and memory hold no addresses
regs_home : (P : Pid → Place → Type 0) (a : Addresses) (p : Pid) (x : PlainProcess) (regs : Regs) → HomeProcess P a p x → HomeProcess P a p (record x { regs = regs })
regs_home P a p x regs h = record { slots = h.slots; owner = h.owner }

pub no_gives : (v : View) (a : Addresses) (p : Pid) (x : PlainProcess) (n : CallNumber) (c : Reply) → fills_by v a p x n ≡ [] → gives_by v a p x n c ≡ []
no_gives v a p x n Reply.Done e = e
no_gives v a p x n _ e = refl

unless_refused_home : (P : Pid → Place → Type 0) (v : View) (a : Addresses) (p : Pid) (x : PlainProcess) (n : CallNumber) (c : Option Reply) (k : Called) → fills_by v a p x n ≡ [] → HomeProcess P a p x → HomeCalled P v a p x n k
    → HomeCalled P v a p x n (calls.unless_refused c (behind x) k)
unless_refused_home P v a p x n c k h1 h2 h3 = search (arith, no_gives, regs_home)

-- a link goes into a slot
set_slot_home : (P : Pid → Place → Type 0) (a : Addresses) (p : Pid) (x : PlainProcess) (regs : Regs) (slot : ℕ) (l : PlainLink) (place : Place) → P l.to place → HomeProcess P a p x
    → HomeProcess P (given a (gets (Slot p slot) place ∷ [])) p (record x { regs = regs; links = slice_set x.links slot (Some l) })
set_slot_home P a p x regs slot l place is h = search (arith, set_link, pid_eq-same, place_as, pid_as)

puts_home : (P : Pid → Place → Type 0) (v : View) (a : Addresses) (p : Pid) (x : PlainProcess) (n : CallNumber) (l : PlainLink) (place : Place) (o : Option ℕ) → fills_by v a p x n ≡ fills p o place → P l.to place → HomeProcess P a p x
    → HomeCalled P v a p x n (calls.puts_link (behind x) l o)
puts_home P v a p x n l place None fills is h = regs_home P a p x (calls.replied Reply.TableFull (behind x)).regs h
puts_home P v a p x n l place (Some slot) fills is h =
    let y = record (behind x) { regs = setting (setting (past x.regs) 0 0) 1 slot; links = slice_set x.links slot (Some l) } in
    subst (λ (gs : List Gets). HomeProcess P (given a gs) p y) (sym fills) (set_slot_home P a p x y.regs slot l place is h)

copies_home : (P : Pid → Place → Type 0) (v : View) (a : Addresses) (p : Pid) (x : PlainProcess) (o : Option PlainLink) → link_at x.links (reg x.regs 1) ≡ o → HomeProcess P a p x → HomeCalled P v a p x calls.Copy (calls.copies (behind x) o)
copies_home P v a p x None is h = regs_home P a p x (calls.replied Reply.NoLink (behind x)).regs h
copies_home P v a p x (Some l) is h =
    by_test (HomeCalled P v a p x calls.Copy) (calls.is_reply l.kind) (calls.refused Reply.NotCopyable (behind x)) (calls.puts_link (behind x) l (first_empty x.links))
    (regs_home P a p x (calls.replied Reply.NotCopyable (behind x)).regs h)
    (puts_home P v a p x calls.Copy l (a (Slot p (reg x.regs 1))) (first_empty x.links) refl (h.slots (reg x.regs 1) l is) h)

drops_home : (P : Pid → Place → Type 0) (v : View) (a : Addresses) (p : Pid) (x : PlainProcess) (o : Option PlainLink) → HomeProcess P a p x → HomeCalled P v a p x calls.Drop (calls.drop_call (behind x) o)
drops_home P v a p x None h = regs_home P a p x (calls.replied Reply.NoLink (behind x)).regs h
drops_home P v a p x (Some l) h = record { slots = λ k w e. h.slots k w (emptied_link x.links (reg x.regs 1) k w e); owner = h.owner }

makes_by : (P : Pid → Place → Type 0) (v : View) (a : Addresses) (p : Pid) (x : PlainProcess) (b c : Bool) → P p (acting_place v p) → HomeProcess P a p x
    → HomeCalled P v a p x calls.Make (calls.unless_refused (first_failed (record { fails = b; reply = Reply.BadKind } ∷ record { fails = c; reply = Reply.BadRange } ∷ [])) (behind x) (calls.puts_link (behind x) (calls.own_link p (behind x)) (first_empty x.links)))
makes_by P v a p x true c is h = regs_home P a p x (calls.replied Reply.BadKind (behind x)).regs h
makes_by P v a p x false true is h = regs_home P a p x (calls.replied Reply.BadRange (behind x)).regs h
makes_by P v a p x false false is h = puts_home P v a p x calls.Make (calls.own_link p (behind x)) (acting_place v p) (first_empty x.links) refl is h

-- the links that a message encloses have their places among the slots'
pub record Listed (P : Pid → Place → Type 0) (a : Addresses) (p : Pid) (ss : List ℕ) (k : ℕ) (l : PlainLink) : Type 0 where
  pub place : Place
  pub there : slice_get (map (λ (n : ℕ). a (Slot p n)) ss) k ≡ Some place
  pub is : P l.to place

listed_step : (P : Pid → Place → Type 0) (a : Addresses) (p : Pid) (x : PlainProcess) (s : ℕ) (ss : List ℕ) (k : ℕ) (l : PlainLink) (o : Option PlainLink) → HomeProcess P a p x → link_at x.links s ≡ o → is_none o ≡ false
    → ((j : ℕ) → slice_get (filter_map (link_at x.links) ss) j ≡ Some l → Listed P a p ss j l) → slice_get (cons_option o (filter_map (link_at x.links) ss)) k ≡ Some l → Listed P a p (s ∷ ss) k l
listed_step P a p x s ss k l None h is some rest e = cc
listed_step P a p x s ss zero l (Some w) h is some rest e = let f : w ≡ l = cc in record { place = a (Slot p s); there = refl; is = pid_as P (ap (λ (u : PlainLink). u.to) f) (h.slots s w is) }
listed_step P a p x s ss (suc k) l (Some w) h is some rest e = let r = rest k e in record { place = r.place; there = r.there; is = r.is }

listed_home : (P : Pid → Place → Type 0) (a : Addresses) (p : Pid) (x : PlainProcess) (ss : List ℕ) (k : ℕ) (l : PlainLink) → HomeProcess P a p x → calls.any_empty x.links ss ≡ false → slice_get (filter_map (link_at x.links) ss) k ≡ Some l → Listed P a p ss k l
listed_home P a p x [] k l h some e = none_some l e
listed_home P a p x (s ∷ ss) k l h some e =
    listed_step P a p x s ss k l (link_at x.links s) h refl (or_parts (is_none (link_at x.links s)) (calls.any_empty x.links ss) some).0
    (λ j f. listed_home P a p x ss j l h (or_parts (is_none (link_at x.links s)) (calls.any_empty x.links ss) some).1 f) e

sends_by : (P : Pid → Place → Type 0) (v : View) (a : Addresses) (p : Pid) (x : PlainProcess) (l : PlainLink) (b c d e : Bool) → d ≡ calls.any_empty x.links (calls.listed x) → link_at x.links (reg x.regs 1) ≡ Some l → P p (acting_place v p) → HomeProcess P a p x
    → HomeCalled P v a p x calls.Send (calls.unless_refused
    (first_failed (record { fails = b; reply = Reply.TooLong } ∷ record { fails = c; reply = Reply.BadRange } ∷ record { fails = d; reply = Reply.NoLink } ∷ record { fails = e; reply = Reply.BadKind } ∷ []))
    (behind x) (Sends (calls.message_over p (behind x) l) (calls.after_send (behind x))))
sends_by P v a p x l true c d e f over is h = regs_home P a p x (calls.replied Reply.TooLong (behind x)).regs h
sends_by P v a p x l false true d e f over is h = regs_home P a p x (calls.replied Reply.BadRange (behind x)).regs h
sends_by P v a p x l false false true e f over is h = regs_home P a p x (calls.replied Reply.NoLink (behind x)).regs h
sends_by P v a p x l false false false true f over is h = regs_home P a p x (calls.replied Reply.BadKind (behind x)).regs h
sends_by P v a p x l false false false false f over is h =
    let id = id_of p x.sent in
    let ps = map (λ (k : ℕ). a (Slot p k)) (calls.listed x) in
    record {
      process = record {
        slots = λ k w e. place_as P ((encloses_process a id 0 ps p).slot k) (h.slots k w (without_replies_link (reg x.regs 1 ∷ calls.listed x) x.links k w e));
        owner = λ q e. place_as P (encloses_process a id 0 ps p).owner (h.owner q e);
      };
      message = record {
        receiver = place_as P (ap (λ (c : Bool). if c then (a (Slot p (reg x.regs 1))) else given a (encloses id 0 ps) (Receiver id)) (id_eq-same id)) (h.slots (reg x.regs 1) l over);
        sender = place_as P (ap (λ (c : Bool). if c then acting_place v p else given a (encloses id 0 ps) (Sender id)) (id_eq-same id)) is;
        enclosed = λ k w e.
            let r = listed_home P a p x (calls.listed x) k w h (sym f) e in
            place_as P (encloses_at a id 0 ps k k r.place r.there (omega arith)) r.is;
      };
      others = λ q e. let s = encloses_process a id 0 ps q in record { slot = s.slot; owner = s.owner };
      messages = λ i e. let s = encloses_message a id 0 ps i e in (search arith);
      servers = let s = encloses_servers a id 0 ps in record { child = s.child; name = s.name; answer = s.answer; asked = s.asked; board = s.board };
    }

-- a data move begins, with the owner of the link in slot r1
move_sent : (P : Pid → Place → Type 0) (v : View) (a : Addresses) (p : Pid) (m : PlainMessage) (x y : PlainProcess) (to : Place) → P m.to to → m.sender ≡ p → links_in m.what ≡ [] → y.links ≡ x.links → owner_in y.status ≡ Some m.to → P p (acting_place v p) → HomeProcess P a p x
    → HomeSent P a (given a (gets (Receiver m.id) to ∷ gets (Sender m.id) (acting_place v p) ∷ gets (Owner p) to ∷ [])) p m y
move_sent P v a p m x y to there from none links owner is h = search (arith, place_as, pid_eq-same, pid_as, id_eq-same)

begins_home : (P : Pid → Place → Type 0) (v : View) (a : Addresses) (p : Pid) (x : PlainProcess) (l : PlainLink) (dir : Direction) (base own left : ℕ) → link_at x.links (reg x.regs 1) ≡ Some l → P p (acting_place v p) → HomeProcess P a p x
    → HomeCalled P v a p x calls.Move (calls.begins_move (pieces.requests p (behind x) dir l.to base own left))
begins_home P v a p x l dir base own left h1 h2 h3 = search (arith, move_sent)

moves_over_home : (P : Pid → Place → Type 0) (v : View) (a : Addresses) (p : Pid) (x : PlainProcess) (l : PlainLink) (o : Option Direction) → link_at x.links (reg x.regs 1) ≡ Some l → P p (acting_place v p) → HomeProcess P a p x
    → HomeCalled P v a p x calls.Move (calls.moves_over p (behind x) l o)
moves_over_home P v a p x l None over is h = regs_home P a p x (calls.replied Reply.BadKind (behind x)).regs h
moves_over_home P v a p x l (Some dir) over is h = search (arith, unless_refused_home, by_test, regs_home, begins_home)

moves_home : (P : Pid → Place → Type 0) (v : View) (a : Addresses) (p : Pid) (x : PlainProcess) (o : Option PlainLink) → link_at x.links (reg x.regs 1) ≡ o → P p (acting_place v p) → HomeProcess P a p x → HomeCalled P v a p x calls.Move (calls.move_call p (behind x) o)
moves_home P v a p x None over is h = regs_home P a p x (calls.replied Reply.NoLink (behind x)).regs h
moves_home P v a p x (Some l) over is h = moves_over_home P v a p x l (direction_numbered (reg x.regs 2)) over is h

does_call_home : (P : Pid → Place → Type 0) (v : View) (a : Addresses) (p : Pid) (x : PlainProcess) (n : CallNumber) → P p (acting_place v p) → HomeProcess P a p x → HomeCalled P v a p x n (calls.does_call p (behind x) n)
does_call_home P v a p x calls.Out is h = regs_home P a p x (calls.replied Reply.Done (behind x)).regs h
does_call_home P v a p x calls.Make is h = makes_by P v a p x (nat_lt 7 (reg x.regs 3)) (nat_lt 31 (reg x.regs 2) || calls.is_outside x (reg x.regs 4) (reg x.regs 5)) is h
does_call_home P v a p x calls.Copy is h = copies_home P v a p x (link_at x.links (reg x.regs 1)) refl h
does_call_home P v a p x calls.Drop is h = drops_home P v a p x (link_at x.links (reg x.regs 1)) h
does_call_home P v a p x calls.Send is h = search (arith, regs_home, sends_by)
does_call_home P v a p x calls.Receive is h = search (arith, by_test, regs_home)
does_call_home P v a p x calls.Move is h = moves_home P v a p x (link_at x.links (reg x.regs 1)) refl is h
does_call_home P v a p x _ is h = tt

-- what comes next of a process that executes
abbrev pub HomeNext : (Pid → Place → Type 0) → View → Addresses → Pid → PlainProcess → kernel.Trap → Type 0
HomeNext P v a p x (kernel.Calls number called) = HomeCalled P v a p x (calls.call_number number) called
HomeNext P v a p x (kernel.Faults fault) = ⊤

next_row_home : (P : Pid → Place → Type 0) (v : View) (a : Addresses) (p : Pid) (x : PlainProcess) (w : Row) (n : kernel.Trap) → instruction x.regs x.memory ≡ w → kernel.next_row p x w ≡ Some n → P p (acting_place v p) → HomeProcess P a p x → HomeNext P v a p x n
next_row_home P v a p x (Row.Plain regs bytes) n w e is h = none_some n e
next_row_home P v a p x (Row.Calls number regs) n w e is h =
    let g : kernel.Calls number (calls.call p (record x { regs = regs }) number) ≡ n = cc in
    subst (HomeNext P v a p x) (ap (λ (r : Regs). kernel.Calls number (calls.call p (record x { regs = r }) number)) (sym (past_call x.regs x.memory number regs w)) ∙ g) (does_call_home P v a p x (calls.call_number number) is h)
next_row_home P v a p x (Row.Faults fault) n w e is h = let g : kernel.Faults fault ≡ n = cc in subst (HomeNext P v a p x) g tt

pub record Nexts (P : Pid → Place → Type 0) (v : View) (s : OneKernel) (a : Addresses) (p : Pid) (n : kernel.Trap) : Type 0 where
  pub x : PlainProcess
  pub running : kernel.running s p ≡ Some x
  pub home : HomeNext P v a p x n

pub next_home : (P : Pid → Place → Type 0) (v : View) (s : OneKernel) (a : Addresses) (p : Pid) (n : kernel.Trap) → AtHome P s a → P p (acting_place v p) → kernel.next_trap s p ≡ Some n → Nexts P v s a p n
next_home P v s a p n h is e =
    let (x, running, row_is) = bind-is (kernel.running s p) (λ (w : PlainProcess). kernel.next_row p w (instruction w.regs w.memory)) n e in
    record { x = x; running = running; home = next_row_home P v a p x (instruction x.regs x.memory) n refl row_is is (running_home P s a p x h running) }
