-- No label gives an address to a kernel's own message.
use Rattle.dm_law_rule.proofs.Names.{◌≡◌, ℕ, ◌+◌, ◌==◌, ◌&&◌, Bool, true, false, not, List, [], ◌∷◌, ◌++◌, length, map, refl, ap, ◌∙◌, sym, subst, if◌then◌else◌, Option, None, Some, false≢true, Pid, Place, pid_eq, PlainLink, first_empty, MsgId}
use Rattle.dm_law_rule.proofs.Names.{id_eq, PlainMessage, PlainWhat, Label, Reply, switchboard, manager, bind, PlainProcess, reg, NamedLink, OneKernel, with_sent, answer_id, id_eq-is, id_eq-same, sent_at, bind-is, when-is, View, is_kernels}
use Rattle.dm_law_rule.proofs.Names.{Addresses, Holder, Slot, Owner, Receiver, Sender, Enclosed, Answer, Gets, gets, given, gives, holder_eq, encloses, enclosed_from, sending_gets, fills, call_gets, receives_links, slot_after, landing_gets}
use Rattle.dm_law_rule.proofs.Names.{serving_gets, child_links, board_finds, board_keeps, board_gets, telling_gets, manager_sends, manager_gets, both_true, at_hand-is, option_map_or, arith, nat_tests, AskedBy, and_parts, not-true}
use Rattle.dm_law_rule.proofs.Names.{false_from_ne_true, and_right, none_some}
use Rattle.dm_onekernel.specs.Calls as calls
use Rattle.dm_onekernel.specs.Pieces as pieces
use Rattle.dm_onekernel.specs.Switchboard as board
use Rattle.dm_onekernel.specs.Manager as manage
use Rattle.dm_onekernel.specs.Service as service
use Rattle.dm_onekernel.specs.Step as kernel
use Rattle.dm_law_rule.specs.Addresses as addresses
pub use Rattle.std.proofs.lemmas.Bool.{not-true as not_is}
pub use Rattle.dm_law_one.proofs.Facts.{and_no}

-- these are none of a message's receiver and sender
abbrev pub spares_one : MsgId → Holder → Bool
spares_one i (Receiver j) = not (id_eq j i)
spares_one i (Sender j) = not (id_eq j i)
spares_one i _ = true

abbrev pub spares : MsgId → List Gets → Bool
spares i [] = true
spares i (g ∷ gs) = spares_one i g.holder && spares i gs

pub spared_receiver : (a : Addresses) (i : MsgId) (gs : List Gets) → spares i gs ≡ true → given a gs (Receiver i) ≡ a (Receiver i)
spared_receiver a i [] e = refl
spared_receiver a i (g ∷ gs) e =
    let x = and_parts (spares_one i g.holder) (spares i gs) e in
    ap (λ (c : Bool). if c then g.place else given a gs (Receiver i)) ((elim g.holder as (λ h. spares_one i h ≡ true → holder_eq h (Receiver i) ≡ false)
    [ Receiver j ↦ λ e. not-true (id_eq j i) e | _ ↦ λ e. refl ]) x.0) ∙ spared_receiver a i gs x.1

pub spared_sender : (a : Addresses) (i : MsgId) (gs : List Gets) → spares i gs ≡ true → given a gs (Sender i) ≡ a (Sender i)
spared_sender a i [] e = refl
spared_sender a i (g ∷ gs) e =
    let x = and_parts (spares_one i g.holder) (spares i gs) e in
    ap (λ (c : Bool). if c then g.place else given a gs (Sender i)) ((elim g.holder as (λ h. spares_one i h ≡ true → holder_eq h (Sender i) ≡ false)
    [ Sender j ↦ λ e. not-true (id_eq j i) e | _ ↦ λ e. refl ]) x.0) ∙ spared_sender a i gs x.1

pub spares_both : (i : MsgId) (xs ys : List Gets) → spares i xs ≡ true → spares i ys ≡ true → spares i (xs ++ ys) ≡ true
spares_both i [] ys e f = f
spares_both i (x ∷ xs) ys e f = let z = and_parts (spares_one i x.holder) (spares i xs) e in both_true (spares_one i x.holder) (spares i (xs ++ ys)) z.0 (spares_both i xs ys z.1 f)

-- a message that isn't a kernel's own
apart : (i j : MsgId) → is_kernels i ≡ true → is_kernels j ≡ false → id_eq j i ≡ false
apart i j own other = false_from_ne_true (id_eq j i) (λ e. false≢true (sym other ∙ ap is_kernels (id_eq-is j i e) ∙ own))

pub two_more : (i j : MsgId) (gs : List Gets) → id_eq j i ≡ false → spares i gs ≡ true → (not (id_eq j i) && (not (id_eq j i) && spares i gs)) ≡ true
two_more i j gs e f = ap (λ (c : Bool). not c && (not c && spares i gs)) e ∙ f

answers_apart : (i id : MsgId) → is_kernels i ≡ true → id_eq (answer_id id) i ≡ false
answers_apart i id own = apart i (answer_id id) own (and_right (id.from.num == 0) false refl)

pub encloses_spares : (i id : MsgId) (n : ℕ) (ps : List Place) → spares i (encloses id n ps) ≡ true
encloses_spares i id n [] = refl
encloses_spares i id n (p ∷ ps) = encloses_spares i id (n + 1) ps

pub child_links_spares : (a : Addresses) (child : Pid) (id : MsgId) (n : ℕ) (ls : List PlainLink) (i : MsgId) → spares i (child_links a child id n ls) ≡ true
child_links_spares a child id n [] i = refl
child_links_spares a child id n (l ∷ ls) i = child_links_spares a child id (n + 1) ls i

pub fills_spares : (p : Pid) (o : Option ℕ) (place : Place) (i : MsgId) → spares i (fills p o place) ≡ true
fills_spares p None place i = refl
fills_spares p (Some slot) place i = refl

pub made_spares : (v : View) (a : Addresses) (p : Pid) (n : ℕ) (c : Reply) (o : Option PlainProcess) (i : MsgId) → spares i (call_gets v a p n c o) ≡ true
made_spares v a p n c o i = search (arith, fills_spares)

-- sendings
pub sends_what_spares : (v : View) (a : Addresses) (p : Pid) (x : PlainProcess) (id : MsgId) (w : PlainWhat) (i : MsgId) → id_eq id i ≡ false → spares i (sending_gets v a p x id w) ≡ true
sends_what_spares v a p x id (PlainWhat.User b1 b2 b3 b4) i e = two_more i id (encloses id 0 (map (λ (n : ℕ). a (Slot p n)) (calls.listed x))) e (encloses_spares i id 0 (map (λ (n : ℕ). a (Slot p n)) (calls.listed x)))
sends_what_spares v a p x id _ i e = two_more i id (gets (Owner p) (a (Slot p (reg x.regs 1))) ∷ []) e refl

pub sends_spares : (s : OneKernel) (v : View) (a : Addresses) (p : Pid) (id : MsgId) (o : Option PlainProcess) (i : MsgId) → id_eq id i ≡ false → spares i (addresses.send_gets s v a p id o) ≡ true
sends_spares s v a p id None i e = refl
sends_spares s v a p id (Some x) i e = (elim (kernel.next_trap s p) as (λ o_. spares i (addresses.sends_next v a p x id o_) ≡ true) [ Some (kernel.Calls number' (calls.Sends m' y')) ↦ sends_what_spares v a p x id m'.what i e | _ ↦ refl ])

-- what a step puts into the bag isn't a kernel's own
abbrev pub Outside : OneKernel → Type 0
Outside t = (j : MsgId) (x : PlainMessage) → t.bag j ≡ Some x → is_kernels j ≡ false

new_outside : (s t : OneKernel) (m : PlainMessage) → Outside t → with_sent s (Some m) ≡ t → is_kernels m.id ≡ false
new_outside s t m out e = out m.id m (sym (ap (λ (u : OneKernel). u.bag m.id) e) ∙ sent_at s m m.id (id_eq-same m.id))

send_other : (s t : OneKernel) (p : Pid) (id : MsgId) (n : kernel.Trap) → kernel.sends s p id n ≡ Some t → Outside t → is_kernels id ≡ false
send_other s t p id (kernel.Calls number (calls.Sends m y)) e out =
    let k = when-is (id_eq id m.id) (with_sent (kernel.goes_on s p y) (Some m)) t e in
    ap is_kernels (id_eq-is id m.id k.0) ∙ new_outside (kernel.goes_on s p y) t m out k.1
send_other s t p id _ e out = none_some t e

-- receives
pub receives_links_spares : (a : Addresses) (p : Pid) (id : MsgId) (n : ℕ) (slots : List (Option PlainLink)) (ls : List PlainLink) (i : MsgId) → spares i (receives_links a p id n slots ls) ≡ true
receives_links_spares a p id n slots [] i = refl
receives_links_spares a p id n slots (l ∷ ls) i =
    spares_both i (fills p (first_empty slots) (a (Enclosed id n))) (receives_links a p id (n + 1) (slot_after slots l (first_empty slots)) ls)
    (fills_spares p (first_empty slots) (a (Enclosed id n)) i) (receives_links_spares a p id (n + 1) (slot_after slots l (first_empty slots)) ls i)

pub receives_spares : (a : Addresses) (p : Pid) (id : MsgId) (o : Option PlainProcess) (m : Option PlainMessage) (i : MsgId) → spares i (addresses.reception_gets a p id o m) ≡ true
receives_spares a p id o m i = grind (arith, nat_tests, receives_links_spares)

-- served
landed_spares : (s t : OneKernel) (v : View) (a : Addresses) (id : MsgId) (m : PlainMessage) (c : pieces.Landed) (i : MsgId) → Outside t → is_kernels i ≡ true → service.landed s id m c ≡ t → spares i (landing_gets v a m.to (Some c)) ≡ true
landed_spares s t v a id m (pieces.Done r y) i out own e = refl
landed_spares s t v a id m (pieces.Next n y) i out own e = two_more i n.id [] (apart i n.id own (new_outside (service.changed s id m y) t n out e)) refl

lands_spares : (s t : OneKernel) (v : View) (a : Addresses) (id : MsgId) (m : PlainMessage) (x : PlainProcess) (i : MsgId) → Outside t → is_kernels i ≡ true → bind (pieces.lands m.to x m x.status) (λ (c : pieces.Landed). Some (service.landed s id m c)) ≡ Some t
    → spares i (landing_gets v a m.to (pieces.lands m.to x m x.status)) ≡ true
lands_spares s t v a id m x i out own e =
    let (c, is, last) = bind-is (pieces.lands m.to x m x.status) (λ (w : pieces.Landed). Some (service.landed s id m w)) t e in
    subst (λ (o : Option pieces.Landed). spares i (landing_gets v a m.to o) ≡ true) (sym is) (landed_spares s t v a id m c i out own (let k : service.landed s id m c ≡ t = cc in k))

serve_spares : (s t : OneKernel) (v : View) (a : Addresses) (id : MsgId) (m : PlainMessage) (x : PlainProcess) (w : PlainWhat) (i : MsgId) → Outside t → is_kernels i ≡ true → service.serves s id m x w ≡ Some t → spares i (serving_gets v a id m x w) ≡ true
serve_spares s t v a id m x w i h1 h2 h3 = search (arith, two_more, answers_apart, lands_spares)

-- created
pub creates_what_spares : (a : Addresses) (id : MsgId) (child : Pid) (w : PlainWhat) (i : MsgId) → spares i (addresses.child_gets a id child w) ≡ true
creates_what_spares a id child (PlainWhat.Create b1 b2) i = child_links_spares a child id 0 b2 i
creates_what_spares a id child _ i = refl

-- the switchboard
pub finds_spares : (a : Addresses) (sent : MsgId) (names : List NamedLink) (body : List ℕ) (k : board.Answer) (i : MsgId) → spares i (board_finds a sent names body k) ≡ true
finds_spares a sent names body k i = search arith

pub keeps_spares : (a : Addresses) (id : MsgId) (names : List NamedLink) (k : board.Answer) (i : MsgId) → spares i (board_keeps a id names k) ≡ true
keeps_spares a id names board.Registered i = refl
keeps_spares a id names _ i = refl

board_links_spares : (s : OneKernel) (v : View) (a : Addresses) (id : MsgId) (code channel : ℕ) (body : List ℕ) (links : List PlainLink) (i : MsgId) → is_kernels i ≡ true → spares i (board_gets s v a id (PlainWhat.User code channel body links)) ≡ true
board_links_spares s v a id code channel body [] i own = refl
board_links_spares s v a id code channel body (l ∷ ls) i own = search (arith, two_more, apart, spares_both, finds_spares, keeps_spares)

-- the manager
pub tells_spares : (v : View) (a : Addresses) (id : MsgId) (code : ℕ) (sent : PlainMessage) (w : PlainWhat) (i : MsgId) → id_eq sent.id i ≡ false → spares i (telling_gets v a id code sent w) ≡ true
tells_spares v a id code sent (PlainWhat.Create b1 b2) i e = two_more i sent.id (gets (Answer sent.id.n) (a (Enclosed id 0)) ∷ encloses sent.id 0 (enclosed_from a id 1 b2)) e (encloses_spares i sent.id 0 (enclosed_from a id 1 b2))
tells_spares v a id code sent _ i e = two_more i sent.id [] e refl

pub manager_sends_spares : (v : View) (a : Addresses) (id : MsgId) (code : ℕ) (o : Option PlainMessage) (i : MsgId) → ((m : PlainMessage) → o ≡ Some m → id_eq m.id i ≡ false) → spares i (manager_sends v a id code o) ≡ true
manager_sends_spares v a id code None i e = refl
manager_sends_spares v a id code (Some sent) i e = tells_spares v a id code sent sent.what i (e sent refl)

pub manager_takes_spares : (s : OneKernel) (v : View) (a : Addresses) (m : PlainMessage) (w : PlainWhat) (o : Option manage.ManagerTook) (i : MsgId) → ((k : manage.ManagerTook) → o ≡ Some k → (x : PlainMessage) → k.message ≡ Some x → id_eq x.id i ≡ false) → spares i (manager_gets s v a m w o) ≡ true
manager_takes_spares s v a m (PlainWhat.User b1 b2 b3 b4) None i e = refl
manager_takes_spares s v a m (PlainWhat.User b1 b2 b3 b4) (Some k) i e = manager_sends_spares v a m.id b1 k.message i (e k refl)
manager_takes_spares s v a m _ None i e = refl
manager_takes_spares s v a m _ (Some k) i e = search (arith, two_more, e k refl)

took_outside : (s t : OneKernel) (id : MsgId) (k : manage.ManagerTook) (i : MsgId) (o : Option PlainMessage) → k.message ≡ o → Outside t → is_kernels i ≡ true → service.manager_took s id k ≡ t → (x : PlainMessage) → o ≡ Some x → id_eq x.id i ≡ false
took_outside s t id k i None is out own e x f = none_some x f
took_outside s t id k i (Some y) is out own e x f =
    let u = record (service.without_message s id) { manager = k.manager } in
    subst (λ (z : PlainMessage). id_eq z.id i ≡ false) (let g : y ≡ x = cc in g) (apart i y.id own (new_outside u t y out (ap (with_sent u) (sym is) ∙ e)))

takes_spares : (s t : OneKernel) (v : View) (a : Addresses) (id : MsgId) (m : PlainMessage) (b c : Bool) (i : MsgId) → Outside t → is_kernels i ≡ true
    → (if b then bind (board.board_takes s.switchboard m m.what) (λ (k : board.BoardTook). Some (service.switchboard_took s id k))
    else if c then bind (manage.manager_takes s.manager s.machines (length s.images) m m.what) (λ (k : manage.ManagerTook). Some (service.manager_took s id k))
    else None) ≡ Some t
    → spares i (if b then board_gets s v a id m.what else manager_gets s v a m m.what (manage.manager_takes s.manager s.machines (length s.images) m m.what)) ≡ true
takes_spares s t v a id m true c i out own e = elim m.what as (λ w. spares i (board_gets s v a id w) ≡ true)
    [ PlainWhat.User b1 b2 b3 b4 ↦ board_links_spares s v a id b1 b2 b3 b4 i own | _ ↦ refl ]
takes_spares s t v a id m false true i out own e =
    let o = manage.manager_takes s.manager s.machines (length s.images) m m.what in
    let (k, is, last) = bind-is o (λ (x : manage.ManagerTook). Some (service.manager_took s id x)) t e in
    let f : service.manager_took s id k ≡ t = cc in
    manager_takes_spares s v a m m.what o i (λ j g. let h : k ≡ j = (let z : Some k ≡ Some j = sym is ∙ g in cc) in subst (λ (y : manage.ManagerTook). (x : PlainMessage) → y.message ≡ Some x → id_eq x.id i ≡ false) h (took_outside s t id k i k.message refl out own f))
takes_spares s t v a id m false false i out own e = none_some t e

-- a row a label
pub gives_spares : (s t : OneKernel) (v : View) (a : Addresses) (l : Label) (i : MsgId) → kernel.step s l ≡ Some t → Outside t → is_kernels i ≡ true → spares i (gives s v a l) ≡ true
gives_spares s t v a (Label.Call p n c) i is out own = made_spares v a p n c (kernel.running s p) i
gives_spares s t v a (Label.Send p id) i is out own =
    let (n, next, rest) = bind-is (kernel.next_trap s p) (kernel.sends s p id) t is in
    sends_spares s v a p id (kernel.running s p) i (apart i id own (send_other s t p id n rest out))
gives_spares s t v a (Label.Receive p id) i is out own = receives_spares a p id (kernel.alive (s.processes p)) (s.bag id) i
gives_spares s t v a (Label.Served id) i is out own =
    let (m, there, rest) = bind-is (s.bag id) (λ (w : PlainMessage). bind (kernel.at_hand s w.to) (λ (p : PlainProcess). service.serves s id w p w.what)) t is in
    let (x, hand, last) = bind-is (kernel.at_hand s m.to) (λ (p : PlainProcess). service.serves s id m p m.what) t rest in
    let alive : kernel.alive (s.processes m.to) ≡ Some x = ap kernel.alive (at_hand-is s m.to x hand).1 in
    let gs_is : serving_gets v a id m x m.what ≡ gives s v a (Label.Served id) = ap (λ (o : Option PlainProcess). option_map_or (λ y. serving_gets v a id m y m.what) o []) (sym alive) ∙ ap (addresses.service_gets s v a id) (sym there) in
    subst (λ (gs : List Gets). spares i gs ≡ true) gs_is (serve_spares s t v a id m x m.what i out own last)
gives_spares s t v a (Label.Gone id) i is out own = two_more i (answer_id id) [] (answers_apart i id own) refl
gives_spares s t v a (Label.Took id) i is out own =
    let (m, there, rest) = bind-is (s.bag id) (service.takes s id) t is in
    subst (λ (gs : List Gets). spares i gs ≡ true) (ap (addresses.taking_gets s v a id) (sym there)) (takes_spares s t v a id m (pid_eq m.to switchboard) (pid_eq m.to manager) i out own rest)
gives_spares s t v a (Label.Created id child) i is out own = elim (s.bag id) as (λ o. spares i (addresses.creation_gets v a id child o) ≡ true)
    [ None ↦ refl | Some m ↦ two_more i (answer_id id) (addresses.child_gets a id child m.what) (answers_apart i id own) (creates_what_spares a id child m.what i) ]
gives_spares s t v a (Label.NoSpace id f b) i is out own = two_more i (answer_id id) [] (answers_apart i id own) refl
gives_spares s t v a (Label.Asked id) i is out own = elim (s.bag id) as (λ o. spares i (option_map_or (λ (m : PlainMessage). gets (AskedBy m.to) (a (Sender id)) ∷ []) o []) ≡ true) [ None ↦ refl | Some m ↦ refl ]
gives_spares s t v a (Label.Answered id o) i is out own = grind (arith, nat_tests, two_more, answers_apart)
gives_spares s t v a _ i is out own = refl
