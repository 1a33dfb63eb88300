-- Each label of a process keeps the number of link slots, and so does what its kernel is asked.
use Rattle.dm_law_always.proofs.Names.{◌≡◌, ℕ, ◌≤◌, Bool, true, nat_le, List, [], ◌∷◌, ◌++◌, length, map, refl, ap, ◌∙◌, sym, subst, inl, inr, arith, if◌then◌else◌, slice_get, option_map, Option, None, Some, cases_Bool, nat_tests, length-map}
use Rattle.dm_law_always.proofs.Names.{Pid, pid_eq, plain_link, BootImage, BootProcess, Boot, Label, IsValid, starting_at, processes_are_valid, process_is_valid, slots_of, PlainProcess, Alive, OneKernel, begun, first_life, life_at, replay}
use Rattle.dm_law_always.proofs.Names.{bind-is, Step, Point, first_point, labels, Leads, Each, ◌+◌, ◌-◌, ◌==◌, false, take, drop, ⊤, MsgId, PlainMessage, PlainWhat, Direction, Row, Reply, Why, PlainStatus, Moving, answer_to, without_message}
use Rattle.dm_law_always.proofs.Names.{by_step, zero, suc, filter_map, nat_lt, slice_set, cons_option, length-take, PlainLink, first_empty, link_at, Waiting, reg, Called, Replies, Sends, Waits, Outputs, Ends, replicate, length-append}
use Rattle.dm_law_always.proofs.Names.{length-replicate, Format, Manager, with_sent, slots_with, running_is, at_hand-is, without_note, answer_id, none_some}
use Rattle.dm_onekernel.specs.Step as kernel
use Rattle.dm_onekernel.specs.Calls as calls
use Rattle.dm_onekernel.specs.Pieces as pieces
use Rattle.dm_onekernel.specs.Receiving as receiving
use Rattle.dm_onekernel.specs.Service as service
use Rattle.dm_onekernel.specs.Switchboard as board
use Rattle.dm_onekernel.specs.Manager as manage
use Rattle.dm_law_always.proofs.Fits.Rises.{both}
use Rattle.dm_law_always.proofs.RunLabels.{group_replay}
use Rattle.dm_law_always.proofs.Based.Constants.{constant_group}
use Rattle.dm_law_always.proofs.Tables.{Tables, FewLinks, SameSlots, out_tables, put_tables, set_tables, end_tables, goes_tables, changed_tables}
use Rattle.dm_law_always.proofs.Calling.{by_call}
use Rattle.dm_law_always.proofs.Takes.{by_manager, by_over}

-- what a server sends
abbrev pub SendsFew : Option PlainMessage → Type 0
SendsFew None = ⊤
SendsFew (Some m) = FewLinks m.what

pub put_maybe : (u : OneKernel) (o : Option PlainMessage) → SendsFew o → Tables u → Tables (with_sent u o)
put_maybe u None f h = h
put_maybe u (Some m) f h = put_tables u m f h

request_few : (b : _) (body : List ℕ) (links : List PlainLink) → SendsFew (board.takes_request b body links).answer
request_few b body [] = tt
request_few b body (l ∷ ls) = search arith

pub board_few : (b : _) (m : PlainMessage) (w : PlainWhat) (k : board.BoardTook) → board.board_takes b m w ≡ Some k → SendsFew k.answer
board_few b m (PlainWhat.User code channel body links) k e = let f : board.takes_request b body links ≡ k = cc in subst (λ (x : board.BoardTook). SendsFew x.answer) f (request_few b body links)
board_few b m _ k e = none_some k e

-- the manager
pub took_few : (g : Manager) (machines images : ℕ) (m : PlainMessage) (w : PlainWhat) (k : manage.ManagerTook) → manage.manager_takes g machines images m w ≡ Some k → FewLinks w → SendsFew k.message
took_few g machines images m w k e few = search (arith, by_manager, by_over, g.children, m.id.n, g.pending)

-- a process that is made
pub slots_with_length : {L : Type 0} (n : ℕ) (links : List L) → length links ≤ n → length (slots_with n links) ≡ n
slots_with_length {L} n links le =
    let a = length-append (map Some links) (replicate (n - length links) None) in
    let b : length (map Some links) ≡ length links = length-map links Some in
    let c : length (replicate (n - length links) None) ≡ n - length links = length-replicate {A = Option L} (n - length links) None in
    omega (arith, a, b, c, le)

pub child_length : (f : Format) (image : BootImage) (links : List PlainLink) → length links ≤ 4 → length (begun f image links).links ≡ slots_of f
child_length f image links few = search (arith, slots_with_length)

-- Each label of a process keeps the number of link slots, and so does what its kernel is asked.

-- lists of slots
pub set_length : {X : Type 0} (xs : List X) (k : ℕ) (y : X) → length (slice_set xs k y) ≡ length xs
set_length [] k y = refl
set_length (x ∷ xs) zero y = refl
set_length (x ∷ xs) (suc k) y = ap suc (set_length xs k y)

emptied : (b : Bool) (slots : List (Option PlainLink)) (k : ℕ) → length (if b then slice_set slots k None else slots) ≡ length slots
emptied true slots k = set_length slots k None
emptied false slots k = refl

without_length : (slots : List (Option PlainLink)) (ss : List ℕ) → length (calls.without_replies slots ss) ≡ length slots
without_length slots [] = refl
without_length slots (s ∷ ss) =
    without_length (if calls.holds_reply (link_at slots s) then slice_set slots s None else slots) ss ∙ emptied (calls.holds_reply (link_at slots s)) slots s

cons_few : (o : Option PlainLink) (ls : List PlainLink) → length (cons_option o ls) ≤ suc (length ls)
cons_few None ls = omega arith
cons_few (Some l) ls = omega arith

links_few : (slots : List (Option PlainLink)) (ss : List ℕ) → length (calls.links_in_slots slots ss) ≤ length ss
links_few slots [] = omega arith
links_few slots (s ∷ ss) =
    let a = cons_few (link_at slots s) (filter_map (link_at slots) ss) in
    let b = links_few slots ss in
    omega (arith, a, b)

-- what a call comes to
abbrev pub CallTables : PlainProcess → Called → Type 0
CallTables x (Replies c y) = SameSlots x y
CallTables x (Sends m y) = SameSlots x y × FewLinks m.what
CallTables x (Waits y) = SameSlots x y
CallTables x (Outputs w y) = SameSlots x y
CallTables x (Ends y) = ⊤

-- at most four links are sent
listed_few : (x : PlainProcess) → nat_lt 4 (reg x.regs 4) ≡ false → length (calls.links_in_slots x.links (calls.listed x)) ≤ 4
listed_few x e =
    let a = links_few x.links (calls.listed x) in
    let b : length (calls.listed x) ≡ _ = length-take (reg x.regs 4) (drop (reg x.regs 5) x.memory) in
    let c : reg x.regs 4 ≤ 4 = grind (arith, nat_tests) in
    omega (arith, a, b, c)

-- data moves
pub requests_few : (p : Pid) (x : PlainProcess) (dir : Direction) (owner : Pid) (base own left : ℕ) → FewLinks (pieces.requests p x dir owner base own left).message.what
requests_few p x Direction.FromArea owner base own left = tt
requests_few p x Direction.IntoArea owner base own left = tt

pub call_tables : (p : Pid) (x : PlainProcess) (n : ℕ) → CallTables x (calls.call p x n)
call_tables p x n = search (arith, by_call, set_length, x.links, x.regs, without_length, listed_few, requests_few)

-- links are placed
placed_step : (t : receiving.RegsAndLinks) (r : ℕ) (l : PlainLink) (o : Option ℕ) → length (receiving.place_into t r l o).links ≡ length t.links
placed_step t r l None = refl
placed_step t r l (Some slot) = set_length t.links slot (Some l)

placed_length : (ls : List PlainLink) (t : receiving.RegsAndLinks) (r : ℕ) → length (receiving.place_links t r ls).links ≡ length t.links
placed_length [] t r = refl
placed_length (l ∷ ls) t r = placed_length ls (receiving.place_into t r l (first_empty t.links)) (r + 1) ∙ placed_step t r l (first_empty t.links)

abbrev pub CompletedTables : PlainProcess → receiving.Completed → Type 0
CompletedTables x (receiving.Receives y) = SameSlots x y
CompletedTables x (receiving.Refuses c y) = SameSlots x y

status_tables : (p : Pid) (x : PlainProcess) (m : PlainMessage) (st : PlainStatus) (d : receiving.Completed) → receiving.completes_status p x m st ≡ Some d → CompletedTables x d
status_tables p x m (Waiting mask base size) d e = search (arith, m.to, placed_length)
status_tables p x m _ d e = none_some d e

-- Each label of a process keeps the number of link slots, and so does what its kernel is asked.

-- what comes next of a process that executes
abbrev NextTables : PlainProcess → kernel.Trap → Type 0
NextTables x (kernel.Calls number called) = CallTables x called
NextTables x (kernel.Faults fault) = ⊤

record NextIs (s : OneKernel) (p : Pid) (n : kernel.Trap) : Type 0 where
  x : PlainProcess
  alive : s.processes p ≡ Some (Alive x)
  same : NextTables x n

next_row_is : (s : OneKernel) (p : Pid) (x : PlainProcess) (w : Row) (n : kernel.Trap) → s.processes p ≡ Some (Alive x) → kernel.next_row p x w ≡ Some n → NextIs s p n
next_row_is s p x w n h1 h2 = search (arith, call_tables, x.links)

next_is : (s : OneKernel) (p : Pid) (n : kernel.Trap) → kernel.next_trap s p ≡ Some n → NextIs s p n
next_is s p n e = search (arith, bind-is, next_row_is, running_is)

-- receives
record Completing (s : OneKernel) (p : Pid) (d : receiving.Completed) : Type 0 where
  x : PlainProcess
  alive : s.processes p ≡ Some (Alive x)
  same : CompletedTables x d

completing_is : (s : OneKernel) (p : Pid) (id : MsgId) (d : receiving.Completed) → kernel.completing s p id ≡ Some d → Completing s p d
completing_is s p id d e = search (arith, bind-is, s.bag, at_hand-is, status_tables)

-- landings
abbrev LandTables : PlainProcess → pieces.Landed → Type 0
LandTables x (pieces.Next m y) = SameSlots x y × FewLinks m.what
LandTables x (pieces.Done c y) = SameSlots x y

goes_on_by : (p : Pid) (x z : PlainProcess) (dir : Direction) (owner : Pid) (base own left : ℕ) (b : Bool) → SameSlots x z
    → LandTables x (if b then pieces.done Reply.Done z else pieces.next_request (pieces.requests p z dir owner (base + pieces.piece_of left) (own + pieces.piece_of left) (left - pieces.piece_of left)))
goes_on_by p x z dir owner base own left true same = same
goes_on_by p x z dir owner base own left false same = (same, requests_few p z dir owner (base + pieces.piece_of left) (own + pieces.piece_of left) (left - pieces.piece_of left))

if_lands : (x : PlainProcess) (b : Bool) (k c : pieces.Landed) → LandTables x k → (if b then Some k else None) ≡ Some c → LandTables x c
if_lands x true k c h e = let f : k ≡ c = cc in subst (LandTables x) f h
if_lands x false k c h e = none_some c e

lands_if : (p : Pid) (x : PlainProcess) (b : Bool) (dir : Direction) (owner : Pid) (base own left : ℕ) (w : PlainWhat) (c : pieces.Landed) → (if b then pieces.lands_what p x dir owner base own left w else None) ≡ Some c → LandTables x c
lands_if p x true dir owner base own left w c e = search (arith, if_lands, goes_on_by)
lands_if p x false dir owner base own left w c e = none_some c e

lands_by : (p : Pid) (x : PlainProcess) (m : PlainMessage) (st : PlainStatus) (c : pieces.Landed) → pieces.lands p x m st ≡ Some c → LandTables x c
lands_by p x m (Moving dir owner base own left pending) c e = lands_if p x (m.id.n == pending) dir owner base own left m.what c e
lands_by p x m _ c e = none_some c e

gone_few : (w v : PlainWhat) → service.gone_what w ≡ Some v → FewLinks v
gone_few w v h1 = search arith

-- each step
pub tables_step : (s t : OneKernel) (e : Label) → kernel.step s e ≡ Some t → Tables s → Tables t
tables_step s t e = by_step (λ u. Tables s → Tables u) s t e (record {
  ran = λ p k x m is w h. goes_tables s p x (kernel.with_machine x m) w.alive refl h;
  replies = λ p n k c d y is w h. (let v = next_is s p (kernel.Calls k (calls.Replies d y)) w.is in goes_tables s p v.x y v.alive v.same h);
  sends = λ p id k m y is same w h. (let v = next_is s p (kernel.Calls k (calls.Sends m y)) w.is in put_tables (kernel.goes_on s p y) m v.same.1 (goes_tables s p v.x y v.alive v.same.0 h));
  waits = λ p k y is w h. (let v = next_is s p (kernel.Calls k (calls.Waits y)) w.is in goes_tables s p v.x y v.alive v.same h);
  outputs = λ p w k o y is n h. (let v = next_is s p (kernel.Calls k (calls.Outputs o y)) n.is in goes_tables s p v.x y v.alive v.same h);
  ends = λ p y next is w h. end_tables s p y h;
  receives = λ p id y is w c h. (let v = completing_is s p id (receiving.Receives y) c in goes_tables (without_message s id) p v.x y v.alive v.same (out_tables s id h));
  refuses = λ p id c d y is w f h. (let v = completing_is s p id (receiving.Refuses d y) f in goes_tables s p v.x y v.alive v.same h);
  dropped = λ id m y is w f h. out_tables s id h;
  gone = λ id m y is w v f h. put_tables (without_message s id) (answer_to m v) (gone_few m.what v f) (out_tables s id h);
  asked = λ id m x machine is w f h. (let out = out_tables s id h in record { slots = out.slots; messages = out.messages });
  answered = λ id o p n is f h. put_tables (without_note s p id) (record { id = answer_id id; to = n.asker; sender = p; what = PlainWhat.Moved o }) tt (record { slots = h.slots; messages = h.messages });
  stops = λ id m x b is w f h. changed_tables s id m x (record x { stopped = b }) w.alive refl h;
  kills = λ id m x is w f h. end_tables (without_message s id) m.to Why.Killed (out_tables s id h);
  reads = λ id m x base len is w f h. put_tables (service.changed s id m x) (answer_to m (PlainWhat.Block (take len (drop base x.memory)))) tt (changed_tables s id m x x w.alive refl h);
  writes = λ id m x base bytes is w f h.
      (let y = record x { memory = pieces.written_at x.memory base bytes } in
      put_tables (service.changed s id m y) (answer_to m PlainWhat.Written) tt (changed_tables s id m x y w.alive refl h));
  lands = λ id m x r y is w f c h. (let k = lands_by m.to x m x.status (pieces.Next r y) c in put_tables (service.changed s id m y) r k.1 (changed_tables s id m x y w.alive k.0 h));
  done = λ id m x c y is w f g h. changed_tables s id m x y w.alive (lands_by m.to x m x.status (pieces.Done c y) g) h;
  board = λ id m k is there c took h.
      (let out = out_tables s id h in
      put_maybe (record (without_message s id) { switchboard = k.switchboard }) k.answer (board_few s.switchboard m m.what k took) (record { slots = out.slots; messages = out.messages }));
  manager = λ id m k is there c took h.
      (let out = out_tables s id h in
      put_maybe (record (without_message s id) { manager = k.manager }) k.message (took_few s.manager s.machines (length s.images) m m.what k took (h.messages id m there)) (record { slots = out.slots; messages = out.messages }));
  creates = λ id child m image links i is w found name h.
      (let few = subst FewLinks w.what (h.messages id m w.there) in
      let on = set_tables (without_message s id) child (begun s.format i links) (child_length s.format i links few) (out_tables s id h) in
      put_tables (service.with_created (without_message s id) child i links) (answer_to m (PlainWhat.Created child)) tt (record { slots = on.slots; messages = on.messages }));
  no_room = λ id a b m image links is w h. put_tables (without_message s id) (answer_to m PlainWhat.NoRoom) tt (out_tables s id h);
})

-- Wherever the rule leads, each living process has as many link slots as the boot file's format gives.

-- where a run begins
abbrev ShortList : Boot → BootProcess → Type 0
ShortList b p = nat_le (length p.links) (slots_of b.format) ≡ true

short_is : (b : Boot) (others : ℕ) (p : BootProcess) → process_is_valid b others p ≡ true → ShortList b p
short_is b others p h = search (arith, p.links, b.format, both, p.pid.home, b.machines, p.pid.num, p.image, b.images)

shorts_are : (b : Boot) (earlier ps : List BootProcess) → processes_are_valid b earlier ps ≡ true → Each (ShortList b) ps
shorts_are b earlier [] h = tt
shorts_are b earlier (p ∷ ps) h =
    let k = both (process_is_valid b (starting_at p.pid.home earlier) p) (processes_are_valid b (earlier ++ p ∷ []) ps) h in
    (short_is b (starting_at p.pid.home earlier) p k.0, shorts_are b (earlier ++ p ∷ []) ps k.1)

first_length : (b : Boot) (p : BootProcess) (x : PlainProcess) (o : Option BootImage) → ShortList b p → option_map (λ (image : BootImage). Alive (begun b.format image (map plain_link p.links))) o ≡ Some (Alive x) → length x.links ≡ slots_of b.format
first_length b p x None short e = cc
first_length b p x (Some image) short e =
    let f : begun b.format image (map plain_link p.links) ≡ x = cc in
    let same : length (map plain_link p.links) ≡ length p.links = length-map p.links plain_link in
    let le : length p.links ≤ slots_of b.format = grind (arith, nat_tests) in
    subst (λ (y : PlainProcess). length y.links ≡ slots_of b.format) f (slots_with_length (slots_of b.format) (map plain_link p.links) (omega (arith, same, le)))

lives_lengths : (b : Boot) (ps : List BootProcess) (q : Pid) (x : PlainProcess) → Each (ShortList b) ps → life_at b ps q ≡ Some (Alive x) → length x.links ≡ slots_of b.format
lives_lengths b [] q x shorts e = cc
lives_lengths b (p ∷ ps) q x shorts e = elim (cases_Bool (pid_eq p.pid q)) [
  | inl same ↦ first_length b p x (slice_get b.images p.image) shorts.0 (sym (ap (λ (c : Bool). if c then first_life b p else life_at b ps q) same) ∙ e)
  | inr apart ↦ lives_lengths b ps q x shorts.1 (sym (ap (λ (c : Bool). if c then first_life b p else life_at b ps q) apart) ∙ e)
]

-- wherever a run comes
tables_replay : (ls : List Label) (s t : OneKernel) → replay s ls ≡ Some t → Tables s → Tables t
tables_replay [] s t is h = let f : s ≡ t = cc in subst Tables f h
tables_replay (l ∷ ls) s t is h =
    let (u, first, rest) = bind-is (kernel.step s l) (λ (v : OneKernel). replay v ls) t is in
    tables_replay ls u t rest (tables_step s u l first h)

tables_on : (b : Boot) (es : List Step) (pt end : Point) → Leads b pt es end → Tables pt.kernel → Tables end.kernel
tables_on b [] pt end leads h = subst (λ (v : Point). Tables v.kernel) leads h
tables_on b (d ∷ ds) pt end (w, fit, is, more) h = tables_on b ds w.point end more (tables_replay (labels w.lines) pt.kernel w.point.kernel (group_replay b pt d w is) h)

pub tables_always : (b : Boot) (es : List Step) (pt : Point) → IsValid b → Leads b (first_point b) es pt → Tables pt.kernel
tables_always b es pt valid leads = tables_on b es (first_point b) pt leads (search (arith, lives_lengths, b.processes, shorts_are, valid.processes))

-- the format stays
format_on : (b : Boot) (es : List Step) (pt end : Point) → Leads b pt es end → pt.kernel.format ≡ b.format → end.kernel.format ≡ b.format
format_on b [] pt end leads h = subst (λ (v : Point). v.kernel.format ≡ b.format) leads h
format_on b (d ∷ ds) pt end (w, fit, is, more) h = format_on b ds w.point end more ((constant_group b pt d w is).format ∙ h)

pub format_always : (b : Boot) (es : List Step) (pt : Point) → IsValid b → Leads b (first_point b) es pt → pt.kernel.format ≡ b.format
format_always b es pt valid leads = format_on b es (first_point b) pt leads refl
