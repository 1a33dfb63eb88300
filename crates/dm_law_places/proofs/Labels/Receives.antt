-- Receives and refusals, with places: each link of a message goes into the slot that the lines say, with its place.
use Rattle.dm_law_places.proofs.Names.{◌≡◌, ℕ, suc, ◌+◌, ◌==◌, ◌&&◌, Bool, true, false, List, [], ◌∷◌, ◌++◌, length, refl, ap, ◌∙◌, sym, subst, inl, inr, arith, if◌then◌else◌, map, slice_get, slice_set, Option, None, Some, cases_Bool}
use Rattle.dm_law_places.proofs.Names.{nat_tests, map-set, Pid, Link, place_of, pid_eq, PlainLink, plain_link, first_empty, link_at, plain_slot, MsgId, Message, What, Label, PlainMessage, PlainWhat, plain_message, Process, Status, on_mask}
use Rattle.dm_law_places.proofs.Names.{what_is_on, Reply, reply_eq, bind, OneKernel, plain_process, plain_status, PlainProcess, first_failed, Completed, Completion, completion, completes, completes_unless, plain_completed, first_of}
use Rattle.dm_law_places.proofs.Names.{status_plainly, pid_eq-same, pid_eq-is, bind-is, when-is, View, Addresses, Gets, given, gives, Slot, Enclosed, fills, receives_links, receiving_gets, slot_after, set_at, set_off, is_empty, only_receives}
use Rattle.dm_law_places.proofs.Names.{OnlySlots, Placed, Mirrors, MirrorsProcess, enclosed, with_process, without_message, and-both, at_hand-is, none_some}
use Rattle.dm_law_places.proofs.Keeps.{alive_of, there_of, parts, goes_mirrors, kernel_out, kernel_process, places_out, places_process, this_process}
use Rattle.dm_law_places.proofs.Labels.Acts.{Follows, mirrors_as}
use Rattle.dm_law_places.proofs.Whats.{user_what}
use Rattle.dm_onekernel.specs.Receiving as one
use Rattle.dm_onekernel.specs.Service as service
use Rattle.dm_onekernel.specs.Step as kernel
use Rattle.dm_syscall.specs.Completing as completing
use Rattle.dm_law_rule.specs.Addresses as addresses
use Rattle.dm_law_places.specs.PlacedStep as placed

-- the slots that links go into, and what they get
abbrev table_after : List (Option Link) → Link → Option ℕ → List (Option Link)
table_after table w None = table
table_after table w (Some slot) = slice_set table slot (Some w)

abbrev puts_links : Addresses → Pid → MsgId → ℕ → List (Option Link) → List Link → List Gets
puts_links a p id n table [] = []
puts_links a p id n table (w ∷ ws) = fills p (first_empty table) (a (Enclosed id n)) ++ puts_links a p id (n + 1) (table_after table w (first_empty table)) ws

after_plainly : (table : List (Option Link)) (w : Link) (o : Option ℕ) → slot_after (map plain_slot table) (plain_link w) o ≡ map plain_slot (table_after table w o)
after_plainly table w None = refl
after_plainly table w (Some slot) = sym (map-set plain_slot table slot (Some w))

puts_plainly : (a : Addresses) (p : Pid) (id : MsgId) (n : ℕ) (table : List (Option Link)) (ws : List Link) → receives_links a p id n (map plain_slot table) (map plain_link ws) ≡ puts_links a p id n table ws
puts_plainly a p id n table [] = refl
puts_plainly a p id n table (w ∷ ws) =
    ap (λ (o : Option ℕ). fills p o (a (Enclosed id n)) ++ receives_links a p id (n + 1) (slot_after (map plain_slot table) (plain_link w) o) (map plain_link ws)) (first_of table)
    ∙ ap (λ (t : List (Option PlainLink)). fills p (first_empty table) (a (Enclosed id n)) ++ receives_links a p id (n + 1) t (map plain_link ws)) (after_plainly table w (first_empty table))
    ∙ ap (λ (gs : List Gets). fills p (first_empty table) (a (Enclosed id n)) ++ gs) (puts_plainly a p id (n + 1) (table_after table w (first_empty table)) ws)

-- a link that stands in a slot stays while others are placed
stays_step : (t : completing.Placed) (r : ℕ) (l : Link) (j : ℕ) (w : Link) (o : Option ℕ) → first_empty t.table ≡ o → link_at t.table j ≡ Some w → link_at (completing.place_into t r l o).table j ≡ Some w
stays_step t r l j w o h1 h2 = search (arith, is_empty, set_off)

stays : (ls : List Link) (t : completing.Placed) (r : ℕ) (j : ℕ) (w : Link) → link_at t.table j ≡ Some w → link_at (completing.place_links t r ls).table j ≡ Some w
stays [] t r j w e = e
stays (l ∷ ls) t r j w e = stays ls (completing.place_into t r l (first_empty t.table)) (r + 1) j w (stays_step t r l j w (first_empty t.table) refl e)

-- the links of a message from number n on
abbrev EnclosedFrom : Addresses → MsgId → ℕ → List Link → Type 0
EnclosedFrom a id n ls = (k j : ℕ) (w : Link) → slice_get ls k ≡ Some w → j ≡ n + k → a (Enclosed id j) ≡ place_of w.addr

after_first : (a : Addresses) (id : MsgId) (n : ℕ) (l : Link) (ls : List Link) → EnclosedFrom a id n (l ∷ ls) → EnclosedFrom a id (n + 1) ls
after_first a id n l ls h k j w e f = h (suc k) j w e (omega (arith, f))

-- each placed link has the place that it had in the message, and the others have theirs
abbrev PlacedLinks : Addresses → Pid → MsgId → List Link → Type 0
PlacedLinks a p id ls =
    (n r : ℕ) (t : completing.Placed) (j : ℕ) (w : Link) → EnclosedFrom a id n ls → (link_at t.table j ≡ Some w → a (Slot p j) ≡ place_of w.addr)
    → link_at (completing.place_links t r ls).table j ≡ Some w → given a (puts_links a p id n t.table ls) (Slot p j) ≡ place_of w.addr

links_step : (a : Addresses) (p : Pid) (id : MsgId) (l : Link) (ls : List Link) (n r : ℕ) (t : completing.Placed) (j : ℕ) (w : Link) (o : Option ℕ) → PlacedLinks a p id ls → first_empty t.table ≡ o → EnclosedFrom a id n (l ∷ ls)
    → (link_at t.table j ≡ Some w → a (Slot p j) ≡ place_of w.addr) → link_at (completing.place_links (completing.place_into t r l o) (r + 1) ls).table j ≡ Some w
    → given a (fills p o (a (Enclosed id n)) ++ puts_links a p id (n + 1) (table_after t.table l o) ls) (Slot p j) ≡ place_of w.addr
links_step a p id l ls n r t j w None rest is en old e = rest (n + 1) (r + 1) t j w (after_first a id n l ls en) old e
links_step a p id l ls n r t j w (Some slot) rest is en old e =
    let u = completing.place_into t r l (Some slot) in
    let gs = puts_links a p id (n + 1) (table_after t.table l (Some slot)) ls in
    elim (cases_Bool (slot == j)) [
      | inl same ↦
          let at : slot ≡ j = grind (arith, nat_tests) in
          let all : (pid_eq p p && (slot == j)) ≡ true = let g = pid_eq-same p in grind (arith, nat_tests) in
          let stood : link_at u.table j ≡ Some l = ap (λ (i : ℕ). link_at u.table i) (sym at) ∙ set_at t.table slot (Some l) (is_empty t.table slot is).within in
          let f : Some l ≡ Some w = sym (stays ls u (r + 1) j l stood) ∙ e in
          let lw : l ≡ w = cc in
          ap (λ (c : Bool). if c then a (Enclosed id n) else given a gs (Slot p j)) all ∙ en 0 n l refl (omega arith) ∙ ap (λ (k : Link). place_of k.addr) lw
      | inr apart ↦
          let all : (pid_eq p p && (slot == j)) ≡ false = grind (arith, nat_tests) in
          ap (λ (c : Bool). if c then a (Enclosed id n) else given a gs (Slot p j)) all
          ∙ rest (n + 1) (r + 1) u j w (after_first a id n l ls en) (λ f. old (sym (set_off t.table slot j (Some l) apart) ∙ f)) e
    ]

placed_links : (a : Addresses) (p : Pid) (id : MsgId) (ls : List Link) → PlacedLinks a p id ls
placed_links a p id [] n r t j w en old e = old e
placed_links a p id (l ∷ ls) n r t j w en old e = links_step a p id l ls n r t j w (first_empty t.table) (placed_links a p id ls) refl en old e

-- what becomes of a receive
record Received (v : View) (a b : Addresses) (p : Pid) (y : Process) : Type 0 where
  process : MirrorsProcess v b p y
  only : OnlySlots a b p

abbrev CompletedKept : View → Addresses → Pid → MsgId → Process → PlainWhat → one.Completed → Process → Type 0
CompletedKept v a p id x u (one.Receives z) y = Received v a (given a (receiving_gets a p id (plain_process x) u)) p y
CompletedKept v a p id x u (one.Refuses c z) y = MirrorsProcess v a p y

unless_kept : (v : View) (a : Addresses) (p : Pid) (id i : MsgId) (x : Process) (base code channel : ℕ) (body : List ℕ) (links : List Link) (o : Option Reply) (d : one.Completed) → MirrorsProcess v a p x → EnclosedFrom a id 0 links
    → plain_completed (completes_unless o x (completing.receives x 0 i base code channel body links)).completed (completes_unless o x (completing.receives x 0 i base code channel body links)).process ≡ d
    → CompletedKept v a p id x (PlainWhat.User code channel body (map plain_link links)) d (completes_unless o x (completing.receives x 0 i base code channel body links)).process
unless_kept v a p id i x base code channel body links (Some c) d h en e = search arith
unless_kept v a p id i x base code channel body links None d h en e =
    let y = (completing.receives x 0 i base code channel body links).process in
    let t : completing.Placed = record { regs = one.received_regs x.regs code channel (length body) (length links); table = x.table } in
    subst (λ (k : one.Completed). CompletedKept v a p id x (PlainWhat.User code channel body (map plain_link links)) k y) e
    (record {
      process = record {
        pid = h.pid;
        moves = h.moves;
        slots = λ k w f. ap (λ (gs : List Gets). given a gs (Slot p k)) (puts_plainly a p id 0 x.table links) ∙ placed_links a p id links 0 5 t k w en (h.slots k w) f;
        owner = λ q f. absurd (let g : None ≡ Some q = f in cc);
      };
      only = only_receives a p id (map plain_link links) 0 (map plain_slot x.table);
    })

test_is : {A : Type 0} (b : Bool) (x d : A) → (if b then Some x else None) ≡ Some d → b ≡ true
test_is b x d h1 = search arith

record Completes (v : View) (a : Addresses) (p : Pid) (id : MsgId) (x : Process) (m : Message) (u : PlainWhat) (d : one.Completed) : Type 0 where
  e : Completion
  completion : completion x 0 x.status (Some m) ≡ Some e
  plain : plain_completed e.completed e.process ≡ d
  kept : CompletedKept v a p id x u d e.process

completes_what_of : (v : View) (a : Addresses) (p : Pid) (id : MsgId) (x : Process) (m : Message) (k : PlainMessage) (d : one.Completed) (mask base size : ℕ) (u : PlainWhat) → x.status ≡ Status.Waiting mask base size
    → plain_message m ≡ Some k → k.what ≡ u → MirrorsProcess v a p x → EnclosedFrom a id 0 (enclosed m.what) → one.completes_what p (plain_process x) k mask base size u ≡ Some d → Completes v a p id x m k.what d
completes_what_of v a p id x m k d mask base size (PlainWhat.User code channel bytes ls) waits says is h en e =
    let w = user_what m.what code channel bytes ls ((parts m k says).what ∙ ap Some is) in
    let tests = and-both (pid_eq k.to p) (on_mask mask channel) (test_is (pid_eq k.to p && on_mask mask channel) (one.completes (plain_process x) base size code channel bytes ls) d e) in
    let o = first_failed (one.receive_refusals (plain_process x) size w.body.items (map plain_link w.links.items)) in
    let z = completes_unless o x (completing.receives x 0 m.id base code channel w.body.items w.links.items) in
    let comp : completing.completion x 0 (Status.Waiting mask base size) (Some m) ≡ Some z = ap (completes x 0 m.id base size) w.is in
    let to : k.to ≡ x.pid = pid_eq-is k.to p tests.0 ∙ sym h.pid in
    let on : what_is_on mask m.what ≡ true = ap (what_is_on mask) w.is ∙ tests.1 in
    let same : one.completes_status x.pid (plain_process x) k (plain_status (Status.Waiting mask base size)) ≡ Some (plain_completed z.completed z.process) =
    status_plainly x 0 (Status.Waiting mask base size) (Some m) z k on comp says to
    in
    let same_k : one.completes_status x.pid (plain_process x) k (plain_status (Status.Waiting mask base size)) ≡ Some d =
    (λ i. one.completes_what (h.pid i) (plain_process x) k mask base size (is i)) ∙ e
    in
    let both : Some (plain_completed z.completed z.process) ≡ Some d = sym same ∙ same_k in
    let plain : plain_completed z.completed z.process ≡ d = cc in
    let u_is : PlainWhat.User code channel w.body.items (map plain_link w.links.items) ≡ k.what = (λ i. PlainWhat.User code channel (w.bytes_are i) (w.links_are i)) ∙ sym is in
    let links : EnclosedFrom a id 0 w.links.items = subst (λ (u : What). EnclosedFrom a id 0 (enclosed u)) w.is en in
    search (arith, unless_kept)
completes_what_of v a p id x m k d mask base size u waits says is h en e = none_some d e

completes_status_of : (v : View) (a : Addresses) (p : Pid) (id : MsgId) (x : Process) (m : Message) (k : PlainMessage) (d : one.Completed) (st : Status) → x.status ≡ st → plain_message m ≡ Some k → MirrorsProcess v a p x → EnclosedFrom a id 0 (enclosed m.what)
    → one.completes_status p (plain_process x) k (plain_status st) ≡ Some d → Completes v a p id x m k.what d
completes_status_of v a p id x m k d st h1 h2 h3 h4 h5 = search (arith, completes_what_of)

completes_with_of : (v : View) (a : Addresses) (p : Pid) (id : MsgId) (x : Process) (m : Message) (k : PlainMessage) (d : one.Completed) (b : Bool) → plain_message m ≡ Some k → MirrorsProcess v a p x → EnclosedFrom a id 0 (enclosed m.what)
    → (if b then None else one.completes_status p (plain_process x) k (plain_status x.status)) ≡ Some d → Completes v a p id x m k.what d
completes_with_of v a p id x m k d b h1 h2 h3 h4 = search (arith, completes_status_of)

record CompletingOf (s : OneKernel) (v : View) (a : Addresses) (l : Placed) (p : Pid) (id : MsgId) (d : one.Completed) : Type 0 where
  x : Process
  k : PlainMessage
  y : Process
  e : Completion
  alive : kernel.alive (s.processes p) ≡ Some (plain_process x)
  there : s.bag id ≡ Some k
  completed : placed.completed l p id ≡ Some e
  plain : plain_completed e.completed e.process ≡ d
  kept : CompletedKept v a p id x k.what d e.process

completing_of : (s : OneKernel) (v : View) (a : Addresses) (l : Placed) (p : Pid) (id : MsgId) (d : one.Completed) → Mirrors s v a l → kernel.completing s p id ≡ Some d → CompletingOf s v a l p id d
completing_of s v a l p id d h is =
    let (w, hand, rest) = bind-is (kernel.at_hand s p) (λ (y : PlainProcess). bind (s.bag id) (one.completes_with p y)) d is in
    let alive : kernel.alive (s.processes p) ≡ Some w = ap kernel.alive (at_hand-is s p w hand).1 in
    let (k, there, last) = bind-is (s.bag id) (one.completes_with p w) d rest in
    let (x, stands, x_is) = alive_of s l p w h.plain alive in
    let (m, found, says) = there_of s l id k h.plain there in
    let hm = h.places.message id m found in
    let c = completes_with_of v a p id x m k d x.stopped says (h.places.process p x stands) (λ n j u f g. let jn : j ≡ n = omega (arith, g) in ap (λ (i : ℕ). a (Enclosed id i)) jn ∙ hm.enclosed n u f)
    (ap (λ (y : PlainProcess). one.completes_with p y k) x_is ∙ last) in
    search arith

-- receive
receive_row : (s t : OneKernel) (v : View) (a : Addresses) (l : Placed) (p : Pid) (id : MsgId) (d : one.Completed) → CompletingOf s v a l p id d → kernel.receives s p id d ≡ Some t → Mirrors s v a l
    → Follows t v (given a (gives s v a (Label.Receive p id))) (bind (placed.completed l p id) (λ (e : Completion). Some (with_process (without_message l id) p (Some e.process))))
receive_row s t v a l p id (one.Receives z) w f h =
    let eq : kernel.goes_on (service.without_message s id) p z ≡ t = cc in
    let gs = receiving_gets a p id (plain_process w.x) w.k.what in
    let gs_is : gs ≡ gives s v a (Label.Receive p id) = ap (addresses.reception_gets a p id (Some (plain_process w.x))) (sym w.there) ∙ ap (λ (o : Option PlainProcess). addresses.reception_gets a p id o (s.bag id)) (sym w.alive) in
    let y = w.e.process in
    let o = w.kept.only in
    let on = with_process (without_message l id) p (Some y) in (
      on,
      ap (λ (q : Option Completion). bind q (λ (e : Completion). Some (with_process (without_message l id) p (Some e.process)))) w.completed,
      mirrors_as (kernel.goes_on (service.without_message s id) p (plain_process y)) t v (given a gs) (given a (gives s v a (Label.Receive p id))) on on
          (ap (kernel.goes_on (service.without_message s id) p) ((elim w.e.completed as (λ c. plain_completed c y ≡ one.Receives z → plain_process y ≡ z)
          [ Completed.Received i ↦ λ e_. cc | Completed.Refused r ↦ λ e_. cc ]) w.plain) ∙ eq) (ap (given a) gs_is) refl
          ((search (arith, kernel_process, kernel_out, places_process, places_out, this_process))),
    )
receive_row s t v a l p id (one.Refuses c z) w f h = none_some t f

pub receive_follows : (s t : OneKernel) (v : View) (a : Addresses) (l : Placed) (p : Pid) (id : MsgId) → kernel.step s (Label.Receive p id) ≡ Some t → Mirrors s v a l
    → Follows t v (given a (gives s v a (Label.Receive p id))) (bind (placed.completed l p id) (λ (e : Completion). Some (with_process (without_message l id) p (Some e.process))))
receive_follows s t v a l p id is h =
    let (d, c, rest) = bind-is (kernel.completing s p id) (kernel.receives s p id) t is in
    receive_row s t v a l p id d (completing_of s v a l p id d h c) rest h

-- refuse
refuse_row : (s t : OneKernel) (v : View) (a : Addresses) (l : Placed) (p : Pid) (id : MsgId) (r : Reply) (d : one.Completed) → CompletingOf s v a l p id d → kernel.refuses s p r d ≡ Some t → Mirrors s v a l
    → Follows t v a (bind (placed.completed l p id) (λ (e : Completion). Some (with_process l p (Some e.process))))
refuse_row s t v a l p id r (one.Receives z) w f h = none_some t f
refuse_row s t v a l p id r (one.Refuses c z) w f h =
    let k = when-is (reply_eq r c) (kernel.goes_on s p z) t f in
    let y = w.e.process in
    let on = with_process l p (Some y) in (
      on,
      ap (λ (q : Option Completion). bind q (λ (e : Completion). Some (with_process l p (Some e.process)))) w.completed,
      subst (λ (u : OneKernel). Mirrors u v a on) (ap (kernel.goes_on s p) ((elim w.e.completed as (λ c_. plain_completed c_ y ≡ one.Refuses c z → plain_process y ≡ z)
          [ Completed.Received i ↦ λ e_. cc | Completed.Refused q ↦ λ e_. cc ]) w.plain) ∙ k.1) (goes_mirrors s v a l p y h w.kept),
    )

pub refuse_follows : (s t : OneKernel) (v : View) (a : Addresses) (l : Placed) (p : Pid) (id : MsgId) (r : Reply) → kernel.step s (Label.Refuse p id r) ≡ Some t → Mirrors s v a l
    → Follows t v a (bind (placed.completed l p id) (λ (e : Completion). Some (with_process l p (Some e.process))))
refuse_follows s t v a l p id r is h =
    let (d, c, rest) = bind-is (kernel.completing s p id) (kernel.refuses s p r) t is in
    refuse_row s t v a l p id r d (completing_of s v a l p id d h c) rest h
