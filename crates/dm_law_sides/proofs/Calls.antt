-- What a process does keeps to its side: what it calls, what it receives, and how its data moves land.
use Rattle.dm_law_always.proofs.Names.{◌≡◌, ℕ, zero, suc, ◌+◌, ◌-◌, ◌==◌, ◌&&◌, Bool, true, false, List, [], ◌∷◌, ◌++◌, length, map, replicate, refl, ap, ◌∙◌, sym, subst, is_some, inl, inr, arith, nat_tests, nat_le, if◌then◌else◌, Option, None, Some}
use Rattle.dm_law_always.proofs.Names.{Pid, pid_eq, PlainLink, MsgId, PlainMessage, PlainWhat, PlainProcess, PlainStatus, Waiting, Moving, Alive, OneKernel, manager, pid_eq-is, Each, ⊤, slice_set, filter_map, link_at, reg, Direction, Reply, none_some}
use Rattle.dm_law_always.proofs.Names.{Row, instruction, Called, Replies, Sends, Waits, Outputs, Ends, first_empty, first_failed, bind, bind-is, at_hand-is, running_is, Made, SlotFits, on_mask, Format, BootImage, begun, slots_of}
use Rattle.std.proofs.lemmas.Option.{cond_some}
use Rattle.dm_onekernel.specs.Calls as calls
use Rattle.dm_onekernel.specs.Pieces as pieces
use Rattle.dm_onekernel.specs.Receiving as receiving
use Rattle.dm_onekernel.specs.Step as kernel
use Rattle.dm_onekernel.specs.Manager.{child_numbered}
use Rattle.dm_law_always.proofs.Calling.{by_call}
use Rattle.dm_law_always.proofs.Fits.Rises.{both, slot_link}
use Rattle.dm_law_sides.specs.Sides.{Sides, side_of, IsOn, LinkKeeps, Keeping, MaybeKeeping, AreaKeeps, MessageKeeps, Keeps}
use Rattle.dm_law_sides.proofs.Further.{Holds, alive_there, holds_of}
use Rattle.dm_law_always.proofs.Found.Real.{has_some}
use Rattle.dm_law_always.proofs.Fits.Rises.{right_is}

-- lists of slots
pub set_each : {X : Type 0} (P : X → Type 0) (xs : List X) (n : ℕ) (x : X) → P x → Each P xs → Each P (slice_set xs n x)
set_each P [] n x f h = tt
set_each P (y ∷ ys) zero x f h = (f, h.1)
set_each P (y ∷ ys) (suc n) x f h = (h.0, set_each P ys n x f h.1)

at_each : (s : OneKernel) (k : Sides) (i : ℕ) (slots : List (Option PlainLink)) (n : ℕ) → Each (MaybeKeeping s k i) slots → MaybeKeeping s k i (link_at slots n)
at_each s k i [] n h = tt
at_each s k i (x ∷ xs) zero h = h.0
at_each s k i (x ∷ xs) (suc n) h = at_each s k i xs n h.1

at_slot : (s : OneKernel) (k : Sides) (i : ℕ) (slots : List (Option PlainLink)) (n : ℕ) (l : PlainLink) → link_at slots n ≡ Some l → Each (MaybeKeeping s k i) slots → Keeping s k i l
at_slot s k i slots n l e h = subst (MaybeKeeping s k i) e (at_each s k i slots n h)

emptied : (s : OneKernel) (k : Sides) (i : ℕ) (b : Bool) (slots : List (Option PlainLink)) (n : ℕ) → Each (MaybeKeeping s k i) slots → Each (MaybeKeeping s k i) (if b then slice_set slots n None else slots)
emptied s k i true slots n h = set_each (MaybeKeeping s k i) slots n None tt h
emptied s k i false slots n h = h

without_replies_keep : (s : OneKernel) (k : Sides) (i : ℕ) (ns : List ℕ) (slots : List (Option PlainLink)) → Each (MaybeKeeping s k i) slots → Each (MaybeKeeping s k i) (calls.without_replies slots ns)
without_replies_keep s k i [] slots h = h
without_replies_keep s k i (n ∷ ns) slots h =
    without_replies_keep s k i ns (if calls.holds_reply (link_at slots n) then slice_set slots n None else slots) (emptied s k i (calls.holds_reply (link_at slots n)) slots n h)

cons_keeps : (s : OneKernel) (k : Sides) (i : ℕ) (slots : List (Option PlainLink)) (ns : List ℕ) (n : ℕ) (o : Option PlainLink) → link_at slots n ≡ o → MaybeKeeping s k i o → Each (Keeping s k i) (filter_map (link_at slots) ns) → Each (Keeping s k i) (filter_map (link_at slots) (n ∷ ns))
cons_keeps s k i slots ns n o e f h = search (arith, link_at slots n)

links_of : (s : OneKernel) (k : Sides) (i : ℕ) (slots : List (Option PlainLink)) (ns : List ℕ) → Each (MaybeKeeping s k i) slots → Each (Keeping s k i) (filter_map (link_at slots) ns)
links_of s k i slots [] h = tt
links_of s k i slots (n ∷ ns) h = cons_keeps s k i slots ns n (link_at slots n) refl (at_each s k i slots n h) (links_of s k i slots ns h)

-- a link to somebody else than the manager keeps where that one is
pub on_of : (s : OneKernel) (k : Sides) (i : ℕ) (to : Pid) (code : ℕ) → pid_eq to manager ≡ false → LinkKeeps s k i to code → IsOn s k i to
on_of s k i to code off (inl (e, z)) = absurd (let f : pid_eq to manager ≡ true = ap (λ (p : Pid). pid_eq p manager) e in let g : true ≡ false = sym f ∙ off in cc)
on_of s k i to code off (inr (q, is, on)) =
    let f : Some to ≡ Some q = sym (ap (λ (c : Bool). if c then child_numbered s.manager.children code else Some to) off) ∙ is in
    let g : to ≡ q = cc in
    subst (IsOn s k i) (sym g) on

pub keeps_to : (s : OneKernel) (k : Sides) (i : ℕ) (to : Pid) (code : ℕ) → pid_eq to manager ≡ false → IsOn s k i to → LinkKeeps s k i to code
keeps_to s k i to code off on = inr (to, ap (λ (c : Bool). if c then child_numbered s.manager.children code else Some to) off, on)

pub not_manager : (s : OneKernel) (p : Pid) → is_some (s.processes p) ≡ true → Made s → pid_eq p manager ≡ false
not_manager s p there h = let k = h.least p there in grind (arith, nat_tests)

-- the request for a piece
requests_keep : (s : OneKernel) (k : Sides) (i : ℕ) (p : Pid) (x : PlainProcess) (dir : Direction) (owner : Pid) (base own left : ℕ) → Each (MaybeKeeping s k i) x.links → IsOn s k i p → IsOn s k i owner
    → Holds s k i (pieces.requests p x dir owner base own left).process × MessageKeeps s k i (pieces.requests p x dir owner base own left).message (pieces.requests p x dir owner base own left).message.what
requests_keep s k i p x Direction.FromArea owner base own left links on area = (record { links = links; area = area }, (on, area))
requests_keep s k i p x Direction.IntoArea owner base own left links on area = (record { links = links; area = area }, (on, area))

abbrev pub CallKeeps : OneKernel → Sides → ℕ → Called → Type 0
CallKeeps s k i (Replies c y) = Holds s k i y
CallKeeps s k i (Sends m y) = Holds s k i y × MessageKeeps s k i m m.what
CallKeeps s k i (Waits y) = Holds s k i y
CallKeeps s k i (Outputs w y) = Holds s k i y
CallKeeps s k i (Ends y) = ⊤

-- only registers change
pub same_holds : (s : OneKernel) (k : Sides) (i : ℕ) (x y : PlainProcess) → y.links ≡ x.links → y.status ≡ x.status → Holds s k i x → Holds s k i y
same_holds s k i x y e f h = record { links = subst (Each (MaybeKeeping s k i)) (sym e) h.links; area = subst (AreaKeeps s k i) (sym f) h.area }

call_keeps : (s : OneKernel) (k : Sides) (i : ℕ) (p : Pid) (x : PlainProcess) (n : ℕ) → Made s → Each (SlotFits s.processes) x.links → pid_eq p manager ≡ false → IsOn s k i p → Holds s k i x → CallKeeps s k i (calls.call p x n)
call_keeps s k i p x n made fits off on h =
    let keeps : (l : PlainLink) → link_at x.links (reg x.regs 1) ≡ Some l → Keeping s k i l = λ l is. at_slot s k i x.links (reg x.regs 1) l is h.links in
    by_call (CallKeeps s k i) p x n (record {
      refuses = λ c. record { links = h.links; area = h.area };
      outputs = record { links = h.links; area = h.area };
      makes = λ slot e. record { links = set_each (MaybeKeeping s k i) x.links slot (Some (calls.own_link p x)) (keeps_to s k i p (reg x.regs 1) off on) h.links; area = h.area };
      copies = λ l slot is. record { links = set_each (MaybeKeeping s k i) x.links slot (Some l) (keeps l is) h.links; area = h.area };
      drops = λ l. record { links = set_each (MaybeKeeping s k i) x.links (reg x.regs 1) None tt h.links; area = h.area };
      sends = λ l is few. (record { links = without_replies_keep s k i (reg x.regs 1 ∷ calls.listed x) x.links h.links; area = h.area }, (inr on, keeps l is, links_of s k i x.links (calls.listed x) h.links));
      waits = record { links = h.links; area = tt };
      moves = λ l dir is right lies off_.
          (let bytes = right_is s.processes l dir right (slot_link s.processes x.links (reg x.regs 1) l is fits) in
          let apart = not_manager s l.to (has_some (l.area.base + l.area.len) (s.processes l.to) bytes) made in
          requests_keep s k i p x dir l.to (l.area.base + reg x.regs 3) (reg x.regs 4) (reg x.regs 5) h.links on (on_of s k i l.to l.code apart (keeps l is)));
      ends = λ y. tt;
    })

abbrev pub NextKeeps : OneKernel → Sides → ℕ → kernel.Trap → Type 0
NextKeeps s k i (kernel.Calls number called) = CallKeeps s k i called
NextKeeps s k i (kernel.Faults fault) = ⊤

next_row_keeps : (s : OneKernel) (k : Sides) (i : ℕ) (p : Pid) (x : PlainProcess) (w : Row) (n : kernel.Trap) → Made s → Each (SlotFits s.processes) x.links → pid_eq p manager ≡ false → IsOn s k i p → Holds s k i x → kernel.next_row p x w ≡ Some n → NextKeeps s k i n
next_row_keeps s k i p x (Row.Plain regs bytes) n made fits off on h e = none_some n e
next_row_keeps s k i p x (Row.Calls number regs) n made fits off on h e =
    let z = record x { regs = regs } in
    let f : kernel.Calls number (calls.call p z number) ≡ n = cc in
    subst (NextKeeps s k i) f (call_keeps s k i p z number made fits off on (record { links = h.links; area = h.area }))
next_row_keeps s k i p x (Row.Faults fault) n made fits off on h e =
    let f : kernel.Faults fault ≡ n = cc in subst (NextKeeps s k i) f tt

-- whoever lives is on its own side
pub self_on : (s : OneKernel) (k : Sides) (p : Pid) (x : PlainProcess) → s.processes p ≡ Some (Alive x) → IsOn s k (k.of p) p
self_on s k p x is = (refl, alive_there s p (Alive x) is)

pub next_keeps : (s : OneKernel) (k : Sides) (p : Pid) (n : kernel.Trap) → Made s → ((x : PlainProcess) → s.processes p ≡ Some (Alive x) → Each (SlotFits s.processes) x.links) → Keeps s k → kernel.next_trap s p ≡ Some n → NextKeeps s k (k.of p) n
next_keeps s k p n made fits h e =
    let (x, running, row) = bind-is (kernel.running s p) (λ (v : PlainProcess). kernel.next_row p v (instruction v.regs v.memory)) n e in
    let alive = (running_is s p x running).alive in
    next_row_keeps s k (k.of p) p x (instruction x.regs x.memory) n made (fits x alive) (not_manager s p (ap is_some alive) made) (self_on s k p x alive) (holds_of s k p x alive h) row

-- links are placed
placed_step : (s : OneKernel) (k : Sides) (i : ℕ) (t : receiving.RegsAndLinks) (r : ℕ) (l : PlainLink) (o : Option ℕ) → Keeping s k i l → Each (MaybeKeeping s k i) t.links → Each (MaybeKeeping s k i) (receiving.place_into t r l o).links
placed_step s k i t r l None f h = h
placed_step s k i t r l (Some slot) f h = set_each (MaybeKeeping s k i) t.links slot (Some l) f h

placed_keep : (s : OneKernel) (k : Sides) (i : ℕ) (ls : List PlainLink) (t : receiving.RegsAndLinks) (r : ℕ) → Each (Keeping s k i) ls → Each (MaybeKeeping s k i) t.links → Each (MaybeKeeping s k i) (receiving.place_links t r ls).links
placed_keep s k i [] t r f h = h
placed_keep s k i (l ∷ ls) t r f h = placed_keep s k i ls (receiving.place_into t r l (first_empty t.links)) (r + 1) f.1 (placed_step s k i t r l (first_empty t.links) f.0 h)

abbrev pub CompletedKeeps : OneKernel → Sides → ℕ → receiving.Completed → Type 0
CompletedKeeps s k i (receiving.Receives y) = Holds s k i y
CompletedKeeps s k i (receiving.Refuses c y) = Holds s k i y

completes_keeps : (s : OneKernel) (k : Sides) (i : ℕ) (x after : PlainProcess) (o : Option Reply) → Each (MaybeKeeping s k i) x.links → Holds s k i after → CompletedKeeps s k i (receiving.completes_unless o x after)
completes_keeps s k i x after None links h = h
completes_keeps s k i x after (Some c) links h = record { links = links; area = tt }

completes_what_keeps : (s : OneKernel) (k : Sides) (i : ℕ) (p : Pid) (x : PlainProcess) (m : PlainMessage) (mask base size : ℕ) (w : PlainWhat) (d : receiving.Completed) → pid_eq p manager ≡ false → Each (MaybeKeeping s k (k.of p)) x.links → MessageKeeps s k i m w
    → receiving.completes_what p x m mask base size w ≡ Some d → CompletedKeeps s k (k.of p) d
completes_what_keeps s k i p x m mask base size (PlainWhat.User code channel body links) d off table h e =
    let is = cond_some (pid_eq m.to p && on_mask mask channel) (receiving.completes x base size code channel body links) d e in
    let to : m.to ≡ p = pid_eq-is m.to p (both (pid_eq m.to p) (on_mask mask channel) is.0).0 in
    let on : IsOn s k i p = on_of s k i p code off (subst (λ (q : Pid). LinkKeeps s k i q code) to h.1) in
    let enclosed : Each (Keeping s k (k.of p)) links = subst (λ n. Each (Keeping s k n) links) (sym on.0) h.2 in
    let after = receiving.with_received x base code channel body links in
    let placed : Holds s k (k.of p) after = record {
      links = placed_keep s k (k.of p) links (record { regs = receiving.received_regs x.regs code channel (length body) (length links); links = x.links }) 5 enclosed table;
      area = tt;
    } in
    subst (CompletedKeeps s k (k.of p)) is.1 (completes_keeps s k (k.of p) x after (first_failed (receiving.receive_refusals x size body links)) table placed)
completes_what_keeps s k i p x m mask base size _ d off table h e = none_some d e

completes_status_keeps : (s : OneKernel) (k : Sides) (i : ℕ) (p : Pid) (x : PlainProcess) (m : PlainMessage) (st : PlainStatus) (d : receiving.Completed) → pid_eq p manager ≡ false → Each (MaybeKeeping s k (k.of p)) x.links → MessageKeeps s k i m m.what
    → receiving.completes_status p x m st ≡ Some d → CompletedKeeps s k (k.of p) d
completes_status_keeps s k i p x m (Waiting mask base size) d off table h e = completes_what_keeps s k i p x m mask base size m.what d off table h e
completes_status_keeps s k i p x m _ d off table h e = none_some d e

completes_with_keeps : (s : OneKernel) (k : Sides) (i : ℕ) (p : Pid) (x : PlainProcess) (m : PlainMessage) (b : Bool) (d : receiving.Completed) → pid_eq p manager ≡ false → Each (MaybeKeeping s k (k.of p)) x.links → MessageKeeps s k i m m.what
    → (if b then None else receiving.completes_status p x m x.status) ≡ Some d → CompletedKeeps s k (k.of p) d
completes_with_keeps s k i p x m true d off table h e = none_some d e
completes_with_keeps s k i p x m false d off table h e = completes_status_keeps s k i p x m x.status d off table h e

pub completing_keeps : (s : OneKernel) (k : Sides) (p : Pid) (id : MsgId) (d : receiving.Completed) → Made s → Keeps s k → kernel.completing s p id ≡ Some d → CompletedKeeps s k (k.of p) d
completing_keeps s k p id d made h e =
    let (x, is, rest) = bind-is (kernel.at_hand s p) (λ (v : PlainProcess). bind (s.bag id) (receiving.completes_with p v)) d e in
    let (m, there, last) = bind-is (s.bag id) (receiving.completes_with p x) d rest in
    let (free, alive) = at_hand-is s p x is in
    completes_with_keeps s k (side_of k m.id) p x m x.stopped d (not_manager s p (ap is_some alive) made) (h.links p x alive) (h.messages id m there) last

-- a data move goes on
abbrev pub LandedKeeps : OneKernel → Sides → ℕ → Pid → pieces.Landed → Type 0
LandedKeeps s k i p (pieces.Next r y) = Holds s k i y × MessageKeeps s k i r r.what × (r.id.from ≡ p)
LandedKeeps s k i p (pieces.Done c y) = Holds s k i y

request_from : (p : Pid) (x : PlainProcess) (dir : Direction) (owner : Pid) (base own left : ℕ) → (pieces.requests p x dir owner base own left).message.id.from ≡ p
request_from p x dir owner base own left = refl

goes_on_keeps : (s : OneKernel) (k : Sides) (i : ℕ) (p : Pid) (x : PlainProcess) (dir : Direction) (owner : Pid) (base own left : ℕ) (b : Bool) → Each (MaybeKeeping s k i) x.links → IsOn s k i p → IsOn s k i owner
    → LandedKeeps s k i p (if b then pieces.done Reply.Done x else pieces.next_request (pieces.requests p x dir owner base own left))
goes_on_keeps s k i p x dir owner base own left true links on area = record { links = links; area = tt }
goes_on_keeps s k i p x dir owner base own left false links on area = let r = requests_keep s k i p x dir owner base own left links on area in (r.0, r.1, request_from p x dir owner base own left)

if_landed : (s : OneKernel) (k : Sides) (i : ℕ) (p : Pid) (b : Bool) (l c : pieces.Landed) → LandedKeeps s k i p l → (if b then Some l else None) ≡ Some c → LandedKeeps s k i p c
if_landed s k i p b l c h e = subst (LandedKeeps s k i p) (cond_some b l c e).1 h

lands_what_keeps : (s : OneKernel) (k : Sides) (i : ℕ) (p : Pid) (x : PlainProcess) (dir : Direction) (owner : Pid) (base own left : ℕ) (w : PlainWhat) (c : pieces.Landed) → Each (MaybeKeeping s k i) x.links → IsOn s k i p → IsOn s k i owner
    → pieces.lands_what p x dir owner base own left w ≡ Some c → LandedKeeps s k i p c
lands_what_keeps s k i p x Direction.FromArea owner base own left (PlainWhat.Block bytes) c links on area e =
    let z = record x { memory = pieces.written_at x.memory own bytes } in
    if_landed s k i p ((length bytes == pieces.piece_of left) && nat_le (own + left) (length x.memory)) (pieces.move_goes_on p z Direction.FromArea owner base own left (pieces.piece_of left)) c
    (goes_on_keeps s k i p z Direction.FromArea owner (base + pieces.piece_of left) (own + pieces.piece_of left) (left - pieces.piece_of left) (left - pieces.piece_of left == 0) links on area) e
lands_what_keeps s k i p x Direction.IntoArea owner base own left PlainWhat.Written c links on area e =
    if_landed s k i p (nat_le (own + left) (length x.memory)) (pieces.move_goes_on p x Direction.IntoArea owner base own left (pieces.piece_of left)) c
    (goes_on_keeps s k i p x Direction.IntoArea owner (base + pieces.piece_of left) (own + pieces.piece_of left) (left - pieces.piece_of left) (left - pieces.piece_of left == 0) links on area) e
lands_what_keeps s k i p x Direction.FromArea owner base own left PlainWhat.Gone c links on area e = let f : pieces.done Reply.Gone x ≡ c = cc in subst (LandedKeeps s k i p) f (record { links = links; area = tt })
lands_what_keeps s k i p x Direction.IntoArea owner base own left PlainWhat.Gone c links on area e = let f : pieces.done Reply.Gone x ≡ c = cc in subst (LandedKeeps s k i p) f (record { links = links; area = tt })
lands_what_keeps s k i p x _ owner base own left _ c links on area e = none_some c e

if_lands_what : (s : OneKernel) (k : Sides) (i : ℕ) (p : Pid) (x : PlainProcess) (b : Bool) (dir : Direction) (owner : Pid) (base own left : ℕ) (w : PlainWhat) (c : pieces.Landed) → Each (MaybeKeeping s k i) x.links → IsOn s k i p → IsOn s k i owner
    → (if b then pieces.lands_what p x dir owner base own left w else None) ≡ Some c → LandedKeeps s k i p c
if_lands_what s k i p x true dir owner base own left w c links on area e = lands_what_keeps s k i p x dir owner base own left w c links on area e
if_lands_what s k i p x false dir owner base own left w c links on area e = none_some c e

pub lands_keeps : (s : OneKernel) (k : Sides) (i : ℕ) (p : Pid) (x : PlainProcess) (m : PlainMessage) (st : PlainStatus) (c : pieces.Landed) → Each (MaybeKeeping s k i) x.links → IsOn s k i p → AreaKeeps s k i st → pieces.lands p x m st ≡ Some c → LandedKeeps s k i p c
lands_keeps s k i p x m (Moving dir owner base own left pending) c links on area e = if_lands_what s k i p x (m.id.n == pending) dir owner base own left m.what c links on area e
lands_keeps s k i p x m _ c links on area e = none_some c e

-- a process begins with these links
none_slots : (s : OneKernel) (k : Sides) (i n : ℕ) → Each (MaybeKeeping s k i) (replicate n None)
none_slots s k i zero = tt
none_slots s k i (suc n) = (tt, none_slots s k i n)

some_slots : (s : OneKernel) (k : Sides) (i : ℕ) (ls : List PlainLink) (rest : List (Option PlainLink)) → Each (Keeping s k i) ls → Each (MaybeKeeping s k i) rest → Each (MaybeKeeping s k i) (map Some ls ++ rest)
some_slots s k i [] rest f h = h
some_slots s k i (l ∷ ls) rest f h = (f.0, some_slots s k i ls rest f.1 h)

pub begun_holds : (s : OneKernel) (k : Sides) (i : ℕ) (format : Format) (image : BootImage) (ls : List PlainLink) → Each (Keeping s k i) ls → Holds s k i (begun format image ls)
begun_holds s k i format image ls f = record {
  links = some_slots s k i ls (replicate (slots_of format - length ls) None) f (none_slots s k i (slots_of format - length ls));
  area = tt;
}
