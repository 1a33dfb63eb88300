-- Receives keep addresses where they may be.
use Rattle.dm_law_rule.proofs.Names.{◌≡◌, ℕ, zero, suc, ◌+◌, ◌==◌, ◌&&◌, Bool, true, false, List, [], ◌∷◌, ◌++◌, refl, ap, ◌∙◌, sym, subst, inl, inr, arith, nat_lt, length, if◌then◌else◌, cond, slice_get, slice_set, is_none, position_or_len, none_some}
use Rattle.dm_law_rule.proofs.Names.{Option, None, Some, cases_Bool, false≢true, nat_tests, Pid, Place, pid_eq, PlainLink, first_empty, link_at, MsgId, Label, PlainMessage, PlainWhat, on_mask, Reply, bind, PlainProcess, PlainStatus, Waiting}
use Rattle.dm_law_rule.proofs.Names.{Alive, OneKernel, first_failed, without_message, pid_eq-same, bind-is, when-is, View, Addresses, Gets, given, gives, Slot, Enclosed, fills, receives_links, receiving_gets, slot_after, links_in, at_hand-is}
use Rattle.dm_law_rule.proofs.Homes.{place_as, pid_as, HomeProcess, AtHome}
use Rattle.dm_law_rule.proofs.Homes.Rows.{at_home_process, at_home_out, home_goes, alive_on}
use Rattle.dm_law_rule.proofs.Homes.Steps.{OnlySlots, only_none}
use Rattle.dm_onekernel.specs.Receiving as receiving
use Rattle.dm_onekernel.specs.Step as kernel
use Rattle.dm_law_rule.specs.Addresses as addresses

-- the lowest empty slot is one, and it is empty
pub set_at : {L : Type 0} (slots : List (Option L)) (k : ℕ) (y : Option L) → nat_lt k (length slots) ≡ true → link_at (slice_set slots k y) k ≡ y
set_at [] k y e = absurd (let z : nat_lt k 0 ≡ false = grind (arith, nat_tests) in false≢true (sym z ∙ e))
set_at (x ∷ xs) zero y e = refl
set_at (x ∷ xs) (suc k) y e = set_at xs k y (let f : nat_lt k (length xs) ≡ true = grind (arith, nat_tests) in f)

pub set_off : {L : Type 0} (slots : List (Option L)) (k j : ℕ) (y : Option L) → (k == j) ≡ false → link_at (slice_set slots k y) j ≡ link_at slots j
set_off [] k j y e = refl
set_off (x ∷ xs) zero zero y e = absurd (let f : (0 == 0) ≡ false = e in cc)
set_off (x ∷ xs) zero (suc j) y e = refl
set_off (x ∷ xs) (suc k) zero y e = refl
set_off (x ∷ xs) (suc k) (suc j) y e = set_off xs k j y (let f : (k == j) ≡ false = grind (arith, nat_tests) in f)

empty_at : {L : Type 0} (slots : List (Option L)) → link_at slots (position_or_len is_none slots) ≡ None
empty_at (Some x ∷ xs) =
    ap (λ (n : ℕ). link_at (Some x ∷ xs) n) (let next : 1 + position_or_len is_none xs ≡ suc (position_or_len is_none xs) = omega arith in next) ∙ empty_at xs
empty_at _ = refl

pub record IsEmptySlot {L : Type 0} (slots : List (Option L)) (k : ℕ) : Type 0 where
  pub within : nat_lt k (length slots) ≡ true
  pub empty : link_at slots k ≡ None

empty_if : {L : Type 0} (slots : List (Option L)) (n k : ℕ) (b : Bool) → nat_lt n (length slots) ≡ b → link_at slots n ≡ None → cond b (Some n) None ≡ Some k → IsEmptySlot slots k
empty_if slots n k b h1 h2 h3 = search arith

pub is_empty : {L : Type 0} (slots : List (Option L)) (k : ℕ) → first_empty slots ≡ Some k → IsEmptySlot slots k
is_empty slots k e = empty_if slots (position_or_len is_none slots) k (nat_lt (position_or_len is_none slots) (length slots)) refl (empty_at slots) e

-- a link that stands in a slot stays while others are placed
stays : (ls : List PlainLink) (t : receiving.RegsAndLinks) (r : ℕ) (j : ℕ) (w : PlainLink) → link_at t.links j ≡ Some w → link_at (receiving.place_links t r ls).links j ≡ Some w
stays [] t r j w e = e
stays (l ∷ ls) t r j w e = stays ls (receiving.place_into t r l (first_empty t.links)) (r + 1) j w (let e_ : link_at (receiving.place_into t r l (first_empty t.links)).links j ≡ Some w = search (arith, is_empty, set_off) in e_)

-- the links of a message from number n on name homes
abbrev EnclosedHome : (Pid → Place → Type 0) → Addresses → MsgId → ℕ → List PlainLink → Type 0
EnclosedHome P a id n ls = (k j : ℕ) (w : PlainLink) → slice_get ls k ≡ Some w → j ≡ n + k → P w.to (a (Enclosed id j))

after_first : (P : Pid → Place → Type 0) (a : Addresses) (id : MsgId) (n : ℕ) (l : PlainLink) (ls : List PlainLink) → EnclosedHome P a id n (l ∷ ls) → EnclosedHome P a id (n + 1) ls
after_first P a id n l ls h k j w e f = h (suc k) j w e (omega (arith, f))

-- each placed link has the place that it had in the message, and the others have theirs
abbrev PlacedHome : (Pid → Place → Type 0) → Addresses → Pid → MsgId → List PlainLink → Type 0
PlacedHome P a p id ls =
    (n r : ℕ) (t : receiving.RegsAndLinks) (j : ℕ) (w : PlainLink) → EnclosedHome P a id n ls → (link_at t.links j ≡ Some w → P w.to (a (Slot p j)))
    → link_at (receiving.place_links t r ls).links j ≡ Some w → P w.to (given a (receives_links a p id n t.links ls) (Slot p j))

placed_step : (P : Pid → Place → Type 0) (a : Addresses) (p : Pid) (id : MsgId) (l : PlainLink) (ls : List PlainLink) (n r : ℕ) (t : receiving.RegsAndLinks) (j : ℕ) (w : PlainLink) (o : Option ℕ) → PlacedHome P a p id ls → first_empty t.links ≡ o → EnclosedHome P a id n (l ∷ ls)
    → (link_at t.links j ≡ Some w → P w.to (a (Slot p j))) → link_at (receiving.place_links (receiving.place_into t r l o) (r + 1) ls).links j ≡ Some w
    → P w.to (given a (fills p o (a (Enclosed id n)) ++ receives_links a p id (n + 1) (slot_after t.links l o) ls) (Slot p j))
placed_step P a p id l ls n r t j w None rest is en old e = rest (n + 1) (r + 1) t j w (after_first P a id n l ls en) old e
placed_step P a p id l ls n r t j w (Some slot) rest is en old e =
    let u = receiving.place_into t r l (Some slot) in
    let gs = receives_links a p id (n + 1) (slot_after t.links l (Some slot)) ls in
    elim (cases_Bool (slot == j)) [
      | inl same ↦
          let all : (pid_eq p p && (slot == j)) ≡ true = let g = pid_eq-same p in grind (arith, nat_tests) in
          let f : Some l ≡ Some w = sym (stays ls u (r + 1) j l (ap (λ (i : ℕ). link_at u.links i) (sym (let at : slot ≡ j = grind (arith, nat_tests) in at)) ∙ set_at t.links slot (Some l) (is_empty t.links slot is).within)) ∙ e in
          place_as P (ap (λ (c : Bool). if c then a (Enclosed id n) else given a gs (Slot p j)) all) (pid_as P (ap (λ (k : PlainLink). k.to) (let lw : l ≡ w = cc in lw)) (en 0 n l refl (omega arith)))
      | inr apart ↦
          place_as P (ap (λ (c : Bool). if c then a (Enclosed id n) else given a gs (Slot p j)) (let all : (pid_eq p p && (slot == j)) ≡ false = grind (arith, nat_tests) in all))
          (rest (n + 1) (r + 1) u j w (after_first P a id n l ls en) (λ f. old (sym (set_off t.links slot j (Some l) apart) ∙ f)) e)
    ]

placed_home : (P : Pid → Place → Type 0) (a : Addresses) (p : Pid) (id : MsgId) (ls : List PlainLink) → PlacedHome P a p id ls
placed_home P a p id [] n r t j w en old e = old e
placed_home P a p id (l ∷ ls) n r t j w en old e = placed_step P a p id l ls n r t j w (first_empty t.links) (placed_home P a p id ls) refl en old e

-- only slots of the process get places
only_more : (a : Addresses) (p : Pid) (o : Option ℕ) (place : Place) (gs : List Gets) → OnlySlots a (given a gs) p → OnlySlots a (given a (fills p o place ++ gs)) p
only_more a p None place gs h = h
only_more a p (Some slot) place gs h = record {
  others = λ q e. let w = h.others q e in record { slot = λ k. ap (λ (c : Bool). if c && (slot == k) then place else given a gs (Slot q k)) e ∙ w.slot k; owner = w.owner };
  messages = λ i. let w = h.messages i in record { receiver = w.receiver; sender = w.sender; enclosed = w.enclosed };
  servers = let w = h.servers in record { child = w.child; name = w.name; answer = w.answer; asked = w.asked; board = w.board };
}

pub only_receives : (a : Addresses) (p : Pid) (id : MsgId) (ls : List PlainLink) (n : ℕ) (slots : List (Option PlainLink)) → OnlySlots a (given a (receives_links a p id n slots ls)) p
only_receives a p id [] n slots = only_none a p
only_receives a p id (l ∷ ls) n slots =
    only_more a p (first_empty slots) (a (Enclosed id n)) (receives_links a p id (n + 1) (slot_after slots l (first_empty slots)) ls)
    (only_receives a p id ls (n + 1) (slot_after slots l (first_empty slots)))

-- what becomes of a receive
record HomeReceived (P : Pid → Place → Type 0) (a b : Addresses) (p : Pid) (y : PlainProcess) : Type 0 where
  process : HomeProcess P b p y
  only : OnlySlots a b p

abbrev HomeCompleted : (Pid → Place → Type 0) → Addresses → Pid → MsgId → PlainProcess → PlainWhat → receiving.Completed → Type 0
HomeCompleted P a p id x w (receiving.Receives y) = HomeReceived P a (given a (receiving_gets a p id x w)) p y
HomeCompleted P a p id x w (receiving.Refuses c y) = HomeProcess P a p y

completes_home : (P : Pid → Place → Type 0) (a : Addresses) (p : Pid) (id : MsgId) (x : PlainProcess) (base code channel : ℕ) (body : List ℕ) (links : List PlainLink) (o : Option Reply) → HomeProcess P a p x → EnclosedHome P a id 0 links
    → HomeCompleted P a p id x (PlainWhat.User code channel body links) (receiving.completes_unless o x (receiving.with_received x base code channel body links))
completes_home P a p id x base code channel body links (Some c) h en = record { slots = h.slots; owner = λ q e. absurd (let f : None ≡ Some q = e in cc) }
completes_home P a p id x base code channel body links None h en = record {
  process = record {
    slots = λ k l e.
        placed_home P a p id links 0 5 (record { regs = receiving.received_regs x.regs code channel (length body) (length links); links = x.links }) k l en (h.slots k l) e;
    owner = λ q e. absurd (let f : None ≡ Some q = e in cc);
  };
  only = only_receives a p id links 0 x.links;
}

completes_if : (P : Pid → Place → Type 0) (a : Addresses) (p : Pid) (id : MsgId) (x : PlainProcess) (b : Bool) (w : PlainWhat) (c d : receiving.Completed) → HomeCompleted P a p id x w c → (if b then Some c else None) ≡ Some d → HomeCompleted P a p id x w d
completes_if P a p id x true w c d h e = let f : c ≡ d = cc in subst (HomeCompleted P a p id x w) f h
completes_if P a p id x false w c d h e = none_some d e

completes_what_home : (P : Pid → Place → Type 0) (a : Addresses) (p : Pid) (id : MsgId) (x : PlainProcess) (m : PlainMessage) (mask base size : ℕ) (w : PlainWhat) (d : receiving.Completed) → HomeProcess P a p x → EnclosedHome P a id 0 (links_in w)
    → receiving.completes_what p x m mask base size w ≡ Some d → HomeCompleted P a p id x w d
completes_what_home P a p id x m mask base size (PlainWhat.User code channel body links) d h en e =
    completes_if P a p id x (pid_eq m.to p && on_mask mask channel) (PlainWhat.User code channel body links) (receiving.completes x base size code channel body links) d
    (completes_home P a p id x base code channel body links (first_failed (receiving.receive_refusals x size body links)) h en) e
completes_what_home P a p id x m mask base size _ d h en e = none_some d e

completes_status_home : (P : Pid → Place → Type 0) (a : Addresses) (p : Pid) (id : MsgId) (x : PlainProcess) (m : PlainMessage) (st : PlainStatus) (d : receiving.Completed) → HomeProcess P a p x → EnclosedHome P a id 0 (links_in m.what)
    → receiving.completes_status p x m st ≡ Some d → HomeCompleted P a p id x m.what d
completes_status_home P a p id x m (Waiting mask base size) d h en e = completes_what_home P a p id x m mask base size m.what d h en e
completes_status_home P a p id x m _ d h en e = none_some d e

completes_with_home : (P : Pid → Place → Type 0) (a : Addresses) (p : Pid) (id : MsgId) (x : PlainProcess) (m : PlainMessage) (b : Bool) (d : receiving.Completed) → HomeProcess P a p x → EnclosedHome P a id 0 (links_in m.what)
    → (if b then None else receiving.completes_status p x m x.status) ≡ Some d → HomeCompleted P a p id x m.what d
completes_with_home P a p id x m true d h en e = none_some d e
completes_with_home P a p id x m false d h en e = completes_status_home P a p id x m x.status d h en e

record Completing (P : Pid → Place → Type 0) (s : OneKernel) (a : Addresses) (p : Pid) (id : MsgId) (d : receiving.Completed) : Type 0 where
  x : PlainProcess
  m : PlainMessage
  alive : kernel.alive (s.processes p) ≡ Some x
  there : s.bag id ≡ Some m
  home : HomeCompleted P a p id x m.what d

completing_home : (P : Pid → Place → Type 0) (s : OneKernel) (a : Addresses) (p : Pid) (id : MsgId) (d : receiving.Completed) → AtHome P s a → kernel.completing s p id ≡ Some d → Completing P s a p id d
completing_home P s a p id d h e =
    let (x, hand, rest) = bind-is (kernel.at_hand s p) (λ (y : PlainProcess). bind (s.bag id) (receiving.completes_with p y)) d e in
    let alive : kernel.alive (s.processes p) ≡ Some x = ap kernel.alive (at_hand-is s p x hand).1 in
    let (m, there, last) = bind-is (s.bag id) (receiving.completes_with p x) d rest in
    record {
      x = x;
      m = m;
      alive = alive;
      there = there;
      home = completes_with_home P a p id x m x.stopped d (h.processes p x alive) (λ k j w f g. let jk : j ≡ k = omega (arith, g) in place_as P (ap (λ (i : ℕ). a (Enclosed id i)) jk) ((h.messages id m there).enclosed k w f)) last;
    }

receive_row : (P : Pid → Place → Type 0) (s t : OneKernel) (v : View) (a : Addresses) (p : Pid) (id : MsgId) (d : receiving.Completed) → Completing P s a p id d → kernel.receives s p id d ≡ Some t → AtHome P s a → AtHome P t (given a (gives s v a (Label.Receive p id)))
receive_row P s t v a p id (receiving.Receives y) w e h =
    let gs = receiving_gets a p id w.x w.m.what in
    let gs_is : gs ≡ gives s v a (Label.Receive p id) = ap (addresses.reception_gets a p id (Some w.x)) (sym w.there) ∙ ap (λ (o : Option PlainProcess). addresses.reception_gets a p id o (s.bag id)) (sym w.alive) in
    let o = w.home.only in
    subst (λ (u : OneKernel). AtHome P u (given a (gives s v a (Label.Receive p id)))) (let eq : kernel.goes_on (without_message s id) p y ≡ t = cc in eq)
    (subst (λ (g : List Gets). AtHome P (kernel.goes_on (without_message s id) p y) (given a g)) gs_is
    (at_home_process P (without_message s id) a (given a gs) p (Alive y) (at_home_out P s a id h) o.others (alive_on P (given a gs) p y w.home.process) o.messages o.servers))
receive_row P s t v a p id (receiving.Refuses c y) w e h = none_some t e

pub receive_home : (P : Pid → Place → Type 0) (s t : OneKernel) (v : View) (a : Addresses) (p : Pid) (id : MsgId) → kernel.step s (Label.Receive p id) ≡ Some t → AtHome P s a → AtHome P t (given a (gives s v a (Label.Receive p id)))
receive_home P s t v a p id is h =
    let (d, c, rest) = bind-is (kernel.completing s p id) (kernel.receives s p id) t is in
    receive_row P s t v a p id d (completing_home P s a p id d h c) rest h

refuse_row : (P : Pid → Place → Type 0) (s t : OneKernel) (a : Addresses) (p : Pid) (id : MsgId) (c : Reply) (d : receiving.Completed) → Completing P s a p id d → kernel.refuses s p c d ≡ Some t → AtHome P s a → AtHome P t a
refuse_row P s t a p id c d h1 h2 h3 = search (arith, when-is, home_goes)

pub refuse_home : (P : Pid → Place → Type 0) (s t : OneKernel) (a : Addresses) (p : Pid) (id : MsgId) (c : Reply) → kernel.step s (Label.Refuse p id c) ≡ Some t → AtHome P s a → AtHome P t a
refuse_home P s t a p id c is h =
    let (d, k, rest) = bind-is (kernel.completing s p id) (kernel.refuses s p c) t is in
    refuse_row P s t a p id c d (completing_home P s a p id d h k) rest h
