-- Which holders a label gives an address to doesn't rest on the addresses that there are.
use Rattle.dm_law_moves.proofs.Names.{◌≡◌, ℕ, ◌+◌, Bool, List, [], ◌∷◌, ◌++◌, map, refl, ap, ◌∙◌, sym, ◌||◌, Option, Pid, Place, PlainLink, first_empty, MsgId, PlainMessage, PlainWhat, Label, PlainProcess, OneKernel, View, Addresses, Holder}
use Rattle.dm_law_moves.proofs.Names.{Slot, Enclosed, Gets, gives, holder_eq, encloses, enclosed_from, sending_gets, receives_links, receiving_gets, slot_after, child_gets, manager_sends, gives_to, manager_gets, child_links, nat_tests}
use Rattle.dm_law_moves.proofs.Names.{arith, None, Some, ◌==◌, ◌&&◌, true, false, if◌then◌else◌, pid_eq-same, given, leads_to, unmoved, ascends, eq_self, AtHome, HomesAre, homes_are, at_home, SaidOn, label_on, AskedBy, Receiver, Sender}
use Rattle.dm_law_moves.proofs.Names.{acting_place, answer_id, gets, option_map_or}
use Rattle.dm_law_rule.proofs.Homes.Serves.{Named}
use Rattle.dm_onekernel.specs.Manager as manage
use Rattle.dm_onekernel.specs.Step as kernel
use Rattle.dm_law_rule.specs.Addresses as addresses
pub use Rattle.dm_law_always.proofs.Calling.{neither}

abbrev pub holders : List Gets → List Holder
holders [] = []
holders (g ∷ gs) = g.holder ∷ holders gs

pub same_given : (h : Holder) (xs ys : List Gets) → holders xs ≡ holders ys → gives_to h xs ≡ gives_to h ys
same_given h [] [] e = refl
same_given h [] (y ∷ ys) e = cc
same_given h (x ∷ xs) [] e = cc
same_given h (x ∷ xs) (y ∷ ys) e =
    let first : x.holder ≡ y.holder = cc in
    let rest : holders xs ≡ holders ys = cc in
    ap (λ (g : Holder). holder_eq g h || gives_to h xs) first ∙ ap (λ (c : Bool). holder_eq y.holder h || c) (same_given h xs ys rest)

holders-append : (xs ys : List Gets) → holders (xs ++ ys) ≡ holders xs ++ holders ys
holders-append [] ys = refl
holders-append (x ∷ xs) ys = ap (λ (hs : List Holder). x.holder ∷ hs) (holders-append xs ys)

-- messages that are sent
encloses_same : (id : MsgId) (n : ℕ) (f g : ℕ → Place) (ks : List ℕ) → holders (encloses id n (map f ks)) ≡ holders (encloses id n (map g ks))
encloses_same id n f g [] = refl
encloses_same id n f g (k ∷ ks) = ap (λ (hs : List Holder). Enclosed id n ∷ hs) (encloses_same id (n + 1) f g ks)

enclosed_same : (a b : Addresses) (id from : MsgId) (n k : ℕ) (ls : List PlainLink) → holders (encloses id n (enclosed_from a from k ls)) ≡ holders (encloses id n (enclosed_from b from k ls))
enclosed_same a b id from n k [] = refl
enclosed_same a b id from n k (l ∷ ls) = ap (λ (hs : List Holder). Enclosed id n ∷ hs) (enclosed_same a b id from (n + 1) (k + 1) ls)

sends_what_same : (v w : View) (a b : Addresses) (p : Pid) (x : PlainProcess) (id : MsgId) (u : PlainWhat) → holders (sending_gets v a p x id u) ≡ holders (sending_gets w b p x id u)
sends_what_same v w a b p x id u = grind (arith, nat_tests, encloses_same)

sends_next_same : (v w : View) (a b : Addresses) (p : Pid) (x : PlainProcess) (id : MsgId) (o : Option kernel.Trap) → holders (addresses.sends_next v a p x id o) ≡ holders (addresses.sends_next w b p x id o)
sends_next_same v w a b p x id o = grind (arith, nat_tests, sends_what_same)

sends_same : (s : OneKernel) (v w : View) (a b : Addresses) (p : Pid) (id : MsgId) (o : Option PlainProcess) → holders (addresses.send_gets s v a p id o) ≡ holders (addresses.send_gets s w b p id o)
sends_same s v w a b p id o = grind (arith, nat_tests, sends_next_same)

-- links that are received
links_same : (a b : Addresses) (p : Pid) (id : MsgId) (n : ℕ) (slots : List (Option PlainLink)) (ls : List PlainLink) → holders (receives_links a p id n slots ls) ≡ holders (receives_links b p id n slots ls)
links_same a b p id n slots [] = refl
links_same a b p id n slots (l ∷ ls) =
    -- calls
    let fills_same : holders (addresses.fills p (first_empty slots) (a (Enclosed id n))) ≡ holders (addresses.fills p (first_empty slots) (b (Enclosed id n))) = grind (arith, nat_tests) in
    let both_same : (xs ys zs ws : List Gets) → holders xs ≡ holders ys → holders zs ≡ holders ws → holders (xs ++ zs) ≡ holders (ys ++ ws) =
    λ xs ys zs ws e f. holders-append xs zs ∙ ap (λ (hs : List Holder). hs ++ holders zs) e ∙ ap (λ (hs : List Holder). holders ys ++ hs) f ∙ sym (holders-append ys ws) in
    both_same (addresses.fills p (first_empty slots) (a (Enclosed id n))) (addresses.fills p (first_empty slots) (b (Enclosed id n)))
    (receives_links a p id (n + 1) (slot_after slots l (first_empty slots)) ls) (receives_links b p id (n + 1) (slot_after slots l (first_empty slots)) ls)
    fills_same (links_same a b p id (n + 1) (slot_after slots l (first_empty slots)) ls)

receives_what_same : (a b : Addresses) (p : Pid) (id : MsgId) (x : PlainProcess) (u : PlainWhat) → holders (receiving_gets a p id x u) ≡ holders (receiving_gets b p id x u)
receives_what_same a b p id x u = grind (arith, nat_tests, links_same)

receives_same : (a b : Addresses) (p : Pid) (id : MsgId) (o : Option PlainProcess) (m : Option PlainMessage) → holders (addresses.reception_gets a p id o m) ≡ holders (addresses.reception_gets b p id o m)
receives_same a b p id o m = grind (arith, nat_tests, receives_what_same)

-- messages that are served
serves_same : (s : OneKernel) (v w : View) (a b : Addresses) (id : MsgId) (o : Option PlainMessage) → holders (addresses.service_gets s v a id o) ≡ holders (addresses.service_gets s w b id o)
serves_same s v w a b id o = grind (arith, nat_tests)

-- a process that is made
child_same : (a b : Addresses) (child : Pid) (id : MsgId) (n : ℕ) (ls : List PlainLink) → holders (child_links a child id n ls) ≡ holders (child_links b child id n ls)
child_same a b child id n [] = refl
child_same a b child id n (l ∷ ls) = ap (λ (hs : List Holder). Slot child n ∷ hs) (child_same a b child id (n + 1) ls)

creates_what_same : (a b : Addresses) (id : MsgId) (child : Pid) (u : PlainWhat) → holders (child_gets a id child u) ≡ holders (child_gets b id child u)
creates_what_same a b id child u = grind (arith, nat_tests, child_same)

creates_same : (v w : View) (a b : Addresses) (id : MsgId) (child : Pid) (o : Option PlainMessage) → holders (addresses.creation_gets v a id child o) ≡ holders (addresses.creation_gets w b id child o)
creates_same v w a b id child o = grind (arith, nat_tests, creates_what_same)

manager_sends_same : (v w : View) (a b : Addresses) (id : MsgId) (code : ℕ) (o : Option PlainMessage) → holders (manager_sends v a id code o) ≡ holders (manager_sends w b id code o)
manager_sends_same v w a b id code o = search (arith, enclosed_same)

manager_takes_same : (s : OneKernel) (v w : View) (a b : Addresses) (m : PlainMessage) (u : PlainWhat) (o : Option manage.ManagerTook) → holders (manager_gets s v a m u o) ≡ holders (manager_gets s w b m u o)
manager_takes_same s v w a b m u o = grind (arith, nat_tests, manager_sends_same)

takes_same : (s : OneKernel) (v w : View) (a b : Addresses) (id : MsgId) (o : Option PlainMessage) → holders (addresses.taking_gets s v a id o) ≡ holders (addresses.taking_gets s w b id o)
takes_same s v w a b id o = grind (arith, nat_tests, manager_takes_same)

ends_same : (v w : View) (a b : Addresses) (id : MsgId) (o : Option Pid) → holders (option_map_or (λ (p : Pid). gets (Receiver (answer_id id)) (a (AskedBy p)) ∷ gets (Sender (answer_id id)) (acting_place v p) ∷ []) o []) ≡ holders (option_map_or (λ (p : Pid). gets (Receiver (answer_id id)) (b (AskedBy p)) ∷ gets (Sender (answer_id id)) (acting_place w p) ∷ []) o [])
ends_same v w a b id None = refl
ends_same v w a b id (Some p) = refl

-- Where no line gives a slot an address, a link in it was there before.

pub not_given : (a : Addresses) (h : Holder) (gs : List Gets) → gives_to h gs ≡ false → given a gs h ≡ a h
not_given a h [] e = refl
not_given a h (g ∷ gs) e =
    let off = neither (holder_eq g.holder h) (gives_to h gs) e in
    ap (λ (b : Bool). if b then g.place else given a gs h) off.0 ∙ not_given a h gs off.1

-- addresses that mark one slot
abbrev marked : Pid → ℕ → Addresses
marked p k h = if holder_eq h (Slot p k) then record { at = 0; moves = 1 } else unmoved 0

abbrev home_in : Option PlainMessage → ℕ
home_in None = 0
home_in (Some m) = m.to.home

abbrev acting_in : OneKernel → Label → ℕ
acting_in s (Label.Took id) = home_in (s.bag id)
acting_in s (Label.Created id child) = home_in (s.bag id)
acting_in s (Label.NoSpace id f b) = home_in (s.bag id)
acting_in s l = 0

abbrev still_view : OneKernel → View → Label → View
still_view s v l = record v { acting = acting_in s l; moves = λ p. 0 }

-- a process that the marked slot led to
abbrev Was : OneKernel → Pid → ℕ → Pid → Place → Type 0
Was s p k q place = place.moves ≡ 1 → leads_to s (Slot p k) ≡ Some q

none_was : (s : OneKernel) (p : Pid) (k : ℕ) (q : Pid) (place : Place) → place.moves ≡ 0 → Was s p k q place
none_was s p k q place zero_ one = absurd (omega (arith, zero_, one))

marked_home : (s t : OneKernel) (v : View) (l : Label) (p : Pid) (k : ℕ) → kernel.step s l ≡ Some t → Named s → ascends 0 s.manager.pending s.manager.sent ≡ true → AtHome (Was s p k) t (given (marked p k) (gives s (still_view s v l) (marked p k) l))
marked_home s t v l p k is named pending =
    let marks_are : (s : OneKernel) (p : Pid) (k : ℕ) → HomesAre (Was s p k) s (marked p k) = λ s p k h q e. grind (arith, nat_tests, none_was) in
    let said_marked : (s : OneKernel) (v : View) (p : Pid) (k : ℕ) (l : Label) → SaidOn (Was s p k) s (still_view s v l) (marked p k) l = λ s v p k l. grind (arith, nat_tests) in
    search (label_on, said_marked, at_home, none_was, marks_are)

-- the manager's requests stay in their order
pub step_pending : (s t : OneKernel) (v : View) (l : Label) → kernel.step s l ≡ Some t → Named s → ascends 0 s.manager.pending s.manager.sent ≡ true → ascends 0 t.manager.pending t.manager.sent ≡ true
step_pending s t v l is named pending = (marked_home s t v l (record { home = 0; num = 0 }) 0 is named pending).pending

-- and a slot that gets no address led there before
pub led_before : (s t : OneKernel) (v : View) (a : Addresses) (l : Label) (p q : Pid) (k : ℕ) → kernel.step s l ≡ Some t → Named s → ascends 0 s.manager.pending s.manager.sent ≡ true → gives_to (Slot p k) (gives s v a l) ≡ false → leads_to t (Slot p k) ≡ Some q
    → leads_to s (Slot p k) ≡ Some q
led_before s t v a l p q k is named pending spared leads =
    let gs = gives s (still_view s v l) (marked p k) l in
    -- a row a label
    let gives_same : holders (gives s (still_view s v l) (marked p k) l) ≡ holders (gives s v a l) = search (arith, sends_same, receives_same, serves_same, takes_same, creates_same, ends_same) in
    let off : gives_to (Slot p k) gs ≡ false = same_given (Slot p k) gs (gives s v a l) gives_same ∙ spared in
    let at : given (marked p k) gs (Slot p k) ≡ marked p k (Slot p k) = not_given (marked p k) (Slot p k) gs off in
    let one : (marked p k (Slot p k)).moves ≡ 1 = ap (λ (c : Bool). (if c then record { at = 0; moves = 1 } else unmoved 0).moves) (ap (λ (c : Bool). c && (k == k)) (pid_eq-same p) ∙ eq_self k) in
    homes_are (Was s p k) t (given (marked p k) gs) (marked_home s t v l p k is named pending) (Slot p k) q leads (ap (λ (x : Place). x.moves) at ∙ one)
