-- What a call leaves of a process with places, and of what it sends: each address that it gives is the one that stands there.
use Rattle.dm_law_places.proofs.Names.{◌≡◌, ℕ, Bool, true, false, List, [], ◌∷◌, refl, ap, ◌∙◌, sym, subst, arith, ⊤, if◌then◌else◌, map, slice_get, slice_set, filter_map, cons_option, is_none, Option, None, Some, Pid, Link, Place, place_of}
use Rattle.dm_law_places.proofs.Names.{pid_eq, plain_link, first_empty, link_at, plain_slot, MsgId, Message, id_eq, PlainMessage, User, plain_message, Process, Direction, Regs, past, Reply, plain_process, reg, CallNumber, first_failed}
use Rattle.dm_law_places.proofs.Names.{address_of, Called, Done, emptied, links_in, first_of, slot_at, pid_eq-same, id_eq-same, View, Addresses, Gets, gets, given, Slot, Owner, Receiver, Sender, acting_place, encloses, fills, fills_by}
use Rattle.dm_law_places.proofs.Names.{sending_gets, set_link, emptied_link, SameProcess, SameMessage, SameServers, encloses_servers, encloses_process, encloses_message, encloses_at, gives_by, no_gives, or-left, or-right, MirrorsProcess}
use Rattle.dm_law_places.proofs.Names.{MirrorsMessage, enclosed, owner_at, none_some}
use Rattle.dm_onekernel.specs.Calls as one
use Rattle.dm_syscall.specs.Calls as calls

-- the process behind its call
abbrev pub behind : Process → Process
behind x = record x { regs = past x.regs }

-- a process that has sent a message, where b is a with what the sending gives
pub record MirrorsSent (v : View) (a b : Addresses) (p : Pid) (m : Message) (y : Process) : Type 0 where
  pub process : MirrorsProcess v b p y
  pub message : MirrorsMessage b m.id m
  pub others : (q : Pid) → pid_eq p q ≡ false → SameProcess a b q
  pub messages : (i : MsgId) → id_eq m.id i ≡ false → SameMessage a b i
  pub servers : SameServers a b

abbrev pub SentPlainly : View → Addresses → Pid → Process → Message → Process → Type 0
SentPlainly v a p x m y = (k : PlainMessage) → plain_message m ≡ Some k → MirrorsSent v a (given a (sending_gets v a p (plain_process x) k.id k.what)) p m y

abbrev pub MirrorsCalled : View → Addresses → Pid → Process → CallNumber → Called → Process → Type 0
MirrorsCalled v a p x n (Called.Replied c) y = MirrorsProcess v (given a (gives_by v a p (plain_process x) n c)) p y
MirrorsCalled v a p x n (Called.Sent m) y = SentPlainly v a p x m y
MirrorsCalled v a p x n (Called.Moving m) y = SentPlainly v a p x m y
MirrorsCalled v a p x n (Called.Ended because) y = ⊤
MirrorsCalled v a p x n _ y = MirrorsProcess v a p y

abbrev pub MirrorsDone : View → Addresses → Pid → Process → CallNumber → Done → Type 0
MirrorsDone v a p x n d = MirrorsCalled v a p x n d.called d.process

-- where a process says that it is
pub stands_here : (v : View) (a : Addresses) (p : Pid) (x : Process) → MirrorsProcess v a p x → acting_place v p ≡ place_of (address_of v.acting x)
stands_here v a p x h = ap (λ (n : ℕ). record { at = v.acting; moves = n }) (sym h.moves)

-- registers hold no addresses
regs_kept : (v : View) (a : Addresses) (p : Pid) (x : Process) (regs : Regs) → MirrorsProcess v a p x → MirrorsProcess v a p (record x { regs = regs })
regs_kept v a p x regs h = record { pid = h.pid; moves = h.moves; slots = h.slots; owner = h.owner }

unless_kept : (v : View) (a : Addresses) (p : Pid) (x : Process) (n : CallNumber) (c : Option Reply) (d : Done) → fills_by v a p (plain_process x) n ≡ [] → MirrorsProcess v a p x → MirrorsDone v a p x n d
    → MirrorsDone v a p x n (calls.unless_refused c (behind x) d)
unless_kept v a p x n c d h1 h2 h3 = search (arith, no_gives, regs_kept)

if_kept : (v : View) (a : Addresses) (p : Pid) (x : Process) (n : CallNumber) (b : Bool) (c d : Done) → MirrorsDone v a p x n c → MirrorsDone v a p x n d → MirrorsDone v a p x n (if b then c else d)
if_kept v a p x n b c d h1 h2 = search arith

-- a link goes into a slot
set_slot_kept : (v : View) (a : Addresses) (p : Pid) (x : Process) (regs : Regs) (slot : ℕ) (w : Link) (place : Place) → place ≡ place_of w.addr → MirrorsProcess v a p x
    → MirrorsProcess v (given a (gets (Slot p slot) place ∷ [])) p (record x { regs = regs; table = slice_set x.table slot (Some w) })
set_slot_kept v a p x regs slot w place is h = search (arith, set_link, pid_eq-same)

puts_kept : (v : View) (a : Addresses) (p : Pid) (x : Process) (n : CallNumber) (w : Link) (place : Place) (o : Option ℕ) → fills_by v a p (plain_process x) n ≡ fills p o place → place ≡ place_of w.addr → MirrorsProcess v a p x
    → MirrorsDone v a p x n (calls.puts_link (behind x) w o)
puts_kept v a p x n w place None fills is h = regs_kept v a p x (calls.replied Reply.TableFull (behind x)).process.regs h
puts_kept v a p x n w place (Some slot) fills is h =
    let y = (calls.puts_link (behind x) w (Some slot)).process in
    subst (λ (gs : List Gets). MirrorsProcess v (given a gs) p y) (sym fills) (set_slot_kept v a p x y.regs slot w place is h)

copies_kept : (v : View) (a : Addresses) (p : Pid) (x : Process) (o : Option Link) → link_at x.table (reg x.regs 1) ≡ o → MirrorsProcess v a p x → MirrorsDone v a p x one.Copy (calls.copies (behind x) o)
copies_kept v a p x None is h = regs_kept v a p x (calls.replied Reply.NoLink (behind x)).process.regs h
copies_kept v a p x (Some w) is h =
    if_kept v a p x one.Copy (one.is_reply w.kind) (calls.replied Reply.NotCopyable (behind x)) (calls.puts_link (behind x) w (first_empty x.table))
    (regs_kept v a p x (calls.replied Reply.NotCopyable (behind x)).process.regs h)
    (puts_kept v a p x one.Copy w (a (Slot p (reg x.regs 1))) (first_empty x.table) (ap (λ (o : Option ℕ). fills p o (a (Slot p (reg x.regs 1)))) (first_of x.table)) (h.slots (reg x.regs 1) w is) h)

drops_kept : (v : View) (a : Addresses) (p : Pid) (x : Process) (o : Option Link) → MirrorsProcess v a p x → MirrorsDone v a p x one.Drop (calls.drops (behind x) o)
drops_kept v a p x o h1 = search (arith, regs_kept, emptied_link)

makes_by : (v : View) (a : Addresses) (p : Pid) (x : Process) (b c : Bool) → MirrorsProcess v a p x
    → MirrorsDone v a p x one.Make (calls.unless_refused (first_failed (record { fails = b; reply = Reply.BadKind } ∷ record { fails = c; reply = Reply.BadRange } ∷ [])) (behind x) (calls.puts_link (behind x) (calls.own_link v.acting (behind x)) (first_empty x.table)))
makes_by v a p x true c h = regs_kept v a p x (calls.replied Reply.BadKind (behind x)).process.regs h
makes_by v a p x false true h = regs_kept v a p x (calls.replied Reply.BadRange (behind x)).process.regs h
makes_by v a p x false false h = search (arith, puts_kept, first_of, stands_here)

-- the links that a message encloses have their places among the slots'
record Listed (a : Addresses) (p : Pid) (ss : List ℕ) (k : ℕ) (w : Link) : Type 0 where
  place : Place
  there : slice_get (map (λ (n : ℕ). a (Slot p n)) ss) k ≡ Some place
  is : place ≡ place_of w.addr

listed_step : (v : View) (a : Addresses) (p : Pid) (x : Process) (s : ℕ) (ss : List ℕ) (k : ℕ) (w : Link) (o : Option Link) → MirrorsProcess v a p x → link_at x.table s ≡ o → is_none o ≡ false
    → ((j : ℕ) → slice_get (filter_map (link_at x.table) ss) j ≡ Some w → Listed a p ss j w) → slice_get (cons_option o (filter_map (link_at x.table) ss)) k ≡ Some w → Listed a p (s ∷ ss) k w
listed_step v a p x s ss k w o h1 h2 h3 h4 h5 = search arith

listed_kept : (v : View) (a : Addresses) (p : Pid) (x : Process) (ss : List ℕ) (k : ℕ) (w : Link) → MirrorsProcess v a p x → one.any_empty (map plain_slot x.table) ss ≡ false → slice_get (filter_map (link_at x.table) ss) k ≡ Some w → Listed a p ss k w
listed_kept v a p x [] k w h some e = none_some w e
listed_kept v a p x (s ∷ ss) k w h some e =
    let first : is_none (link_at (map plain_slot x.table) s) ≡ false = or-left (is_none (link_at (map plain_slot x.table) s)) (one.any_empty (map plain_slot x.table) ss) some in
    listed_step v a p x s ss k w (link_at x.table s) h refl (sym (elim (link_at x.table s) as (λ o. is_none (plain_slot o) ≡ is_none o)
    [ None ↦ refl | Some w ↦ refl ]) ∙ sym (ap is_none (slot_at x.table s)) ∙ first)
    (λ j f. listed_kept v a p x ss j w h (or-right (is_none (link_at (map plain_slot x.table) s)) (one.any_empty (map plain_slot x.table) ss) some) f) e

emptied_at : (ss : List ℕ) (slots : List (Option Link)) (j : ℕ) (w : Link) → link_at (emptied slots ss) j ≡ Some w → link_at slots j ≡ Some w
emptied_at [] slots j w e = e
emptied_at (s ∷ ss) slots j w e =
    let b = one.holds_reply (plain_slot (link_at slots s)) in
    ((elim b as (λ b_. link_at (if b_ then slice_set slots s None else slots) j ≡ Some w → link_at slots j ≡ Some w)
    [ true ↦ λ e_. emptied_link slots s j w e_ | false ↦ λ e_. e_ ]) (emptied_at ss (if b then slice_set slots s None else slots) j w e))

-- a user message goes over the link in slot r1
user_sent : (v : View) (a : Addresses) (p : Pid) (x : Process) (w : Link) → link_at x.table (reg x.regs 1) ≡ Some w → one.any_empty (map plain_slot x.table) (calls.listed x) ≡ false → MirrorsProcess v a p x
    → SentPlainly v a p x (calls.message_over v.acting (behind x) w) (calls.after_send (behind x))
user_sent v a p x w over some h k e =
    let m = calls.message_over v.acting (behind x) w in
    let id = m.id in
    let ps = map (λ (n : ℕ). a (Slot p n)) (calls.listed x) in
    let to = a (Slot p (reg x.regs 1)) in
    let z : PlainMessage = record { id = m.id; to = m.to.pid; sender = m.sender.pid; what = User w.code w.channel (one.memory_at (plain_process x) (reg x.regs 2) (reg x.regs 3)) (map plain_link (links_in x.table (calls.listed x))) } in
    let f : z ≡ k = cc in
    subst (λ (u : PlainMessage). MirrorsSent v a (given a (sending_gets v a p (plain_process x) u.id u.what)) p m (calls.after_send (behind x))) f
    (record {
      process = record {
        pid = h.pid;
        moves = h.moves;
        slots = λ n u g. (encloses_process a id 0 ps p).slot n ∙ h.slots n u (emptied_at (reg x.regs 1 ∷ calls.listed x) x.table n u g);
        owner = λ q g. (encloses_process a id 0 ps p).owner ∙ h.owner q g;
      };
      message = record {
        id = refl;
        receiver = ap (λ (c : Bool). if c then to else given a (encloses id 0 ps) (Receiver id)) (id_eq-same id) ∙ h.slots (reg x.regs 1) w over;
        sender = ap (λ (c : Bool). if c then acting_place v p else given a (encloses id 0 ps) (Sender id)) (id_eq-same id) ∙ stands_here v a p x h;
        enclosed = λ n u g.
            let r = listed_kept v a p x (calls.listed x) n u h some g in encloses_at a id 0 ps n n r.place r.there (omega arith) ∙ r.is;
      };
      others = λ q g. let s = encloses_process a id 0 ps q in record { slot = s.slot; owner = s.owner };
      messages = λ i g. let s = encloses_message a id 0 ps i g in (search (arith));
      servers = let s = encloses_servers a id 0 ps in record { child = s.child; name = s.name; answer = s.answer; asked = s.asked; board = s.board };
    })

sends_by : (v : View) (a : Addresses) (p : Pid) (x : Process) (w : Link) (b c d e : Bool) → d ≡ one.any_empty (map plain_slot x.table) (calls.listed x) → link_at x.table (reg x.regs 1) ≡ Some w → MirrorsProcess v a p x
    → MirrorsDone v a p x one.Send (calls.unless_refused
    (first_failed (record { fails = b; reply = Reply.TooLong } ∷ record { fails = c; reply = Reply.BadRange } ∷ record { fails = d; reply = Reply.NoLink } ∷ record { fails = e; reply = Reply.BadKind } ∷ []))
    (behind x) (record { called = Called.Sent (calls.message_over v.acting (behind x) w); process = calls.after_send (behind x) }))
sends_by v a p x w true c d e f over h = regs_kept v a p x (calls.replied Reply.TooLong (behind x)).process.regs h
sends_by v a p x w false true d e f over h = regs_kept v a p x (calls.replied Reply.BadRange (behind x)).process.regs h
sends_by v a p x w false false true e f over h = regs_kept v a p x (calls.replied Reply.NoLink (behind x)).process.regs h
sends_by v a p x w false false false true f over h = regs_kept v a p x (calls.replied Reply.BadKind (behind x)).process.regs h
sends_by v a p x w false false false false f over h = user_sent v a p x w over (sym f) h

sends_kept : (v : View) (a : Addresses) (p : Pid) (x : Process) (o : Option Link) → link_at x.table (reg x.regs 1) ≡ o → MirrorsProcess v a p x → MirrorsDone v a p x one.Send (calls.sends v.acting (behind x) o)
sends_kept v a p x o h1 h2 = search (arith, regs_kept, sends_by)

-- a data move begins, with the owner of the link in slot r1
move_sent : (v : View) (a : Addresses) (p : Pid) (m : Message) (x y : Process) (to : Place) → to ≡ place_of m.to → acting_place v p ≡ place_of m.sender → enclosed m.what ≡ [] → y.pid ≡ x.pid → y.moves ≡ x.moves → y.table ≡ x.table → owner_at y.status ≡ Some m.to → MirrorsProcess v a p x
    → MirrorsSent v a (given a (gets (Receiver m.id) to ∷ gets (Sender m.id) (acting_place v p) ∷ gets (Owner p) to ∷ [])) p m y
move_sent v a p m x y to there from none pid moves table owner h = search (arith, pid ∙ h.pid, moves ∙ h.moves, h.slots, m.to, pid_eq-same, m.id, id_eq-same)

begins_kept : (v : View) (a : Addresses) (p : Pid) (x : Process) (w : Link) (dir : Direction) → link_at x.table (reg x.regs 1) ≡ Some w → MirrorsProcess v a p x
    → MirrorsDone v a p x one.Move (calls.begins v.acting (behind x) (calls.whole (behind x) w dir))
begins_kept v a p x w dir h1 h2 = search (arith, move_sent, stands_here)

moves_over_kept : (v : View) (a : Addresses) (p : Pid) (x : Process) (w : Link) (o : Option Direction) → link_at x.table (reg x.regs 1) ≡ Some w → MirrorsProcess v a p x
    → MirrorsDone v a p x one.Move (calls.moves_over v.acting (behind x) w o)
moves_over_kept v a p x w None over h = regs_kept v a p x (calls.replied Reply.BadKind (behind x)).process.regs h
moves_over_kept v a p x w (Some dir) over h = search (arith, unless_kept, if_kept, regs_kept, begins_kept)

moves_kept : (v : View) (a : Addresses) (p : Pid) (x : Process) (o : Option Link) → link_at x.table (reg x.regs 1) ≡ o → MirrorsProcess v a p x → MirrorsDone v a p x one.Move (calls.moves v.acting (behind x) o)
moves_kept v a p x o h1 h2 = search (arith, regs_kept, moves_over_kept)

pub does_call_kept : (v : View) (a : Addresses) (p : Pid) (x : Process) (n : CallNumber) → MirrorsProcess v a p x → MirrorsDone v a p x n (calls.does_call v.acting (behind x) n)
does_call_kept v a p x n h1 = search (arith, regs_kept, makes_by, copies_kept, drops_kept, sends_kept, if_kept, moves_kept)
