-- How many addresses an update changes: as many as know fewer moves among those of its receiver.
use Rattle.dm_law_places.proofs.Names.{◌≡◌, ℕ, zero, suc, ◌+◌, ◌≤◌, Bool, true, false, List, [], ◌∷◌, ◌++◌, map, cond, count_by, refl, ap, ◌∙◌, sym, arith, if◌then◌else◌, nat_le, slice_get, Option, Some, nat_tests, sum_by-cons, Pid, Link}
use Rattle.dm_law_places.proofs.Names.{pid_eq, PlainLink, link_at, plain_slot, slot_is_behind, Process, manager, switchboard, Manager, OneKernel, Switchboard, named_is_behind, plain_named, Pending, pending_is_behind, plain_child, plain_pending}
use Rattle.dm_law_places.proofs.Names.{pending_request, pid_eq-same, About, View, Addresses, Answer, Child, Holder, Name, Slot, ToBoard, place_told, ascends, answers_in, behind_among, behind_count, holders_of, holders_numbered, slot_holders, and-both}
use Rattle.dm_law_places.proofs.Names.{Placed, Mirrors, AnswerNames, leads_to, link_target, option_map, plain_link, answer_is_behind, none_some}
use Rattle.dm_law_places.proofs.Following.Updated.{alive_is, answer_leads, behind_led, board_leads, child_leads, name_leads, slot_leads}
use Rattle.dm_link.specs.Places as places
use Rattle.dm_onekernel.specs.Kernel as one
use Rattle.dm_onekernel.specs.Step as kernel
use Rattle.dm_procman.specs.Managing.{behind_in}
use Rattle.dm_law_rule.specs.Addresses as addresses

-- holders in order of their numbers
among_numbered : {X Y : Type 0} (f : Holder → Bool) (g : ℕ → Holder) (plain : X → Y) (p : X → Bool) (n : ℕ) (xs : List X) → ((j : ℕ) (x : X) → slice_get xs j ≡ Some x → f (g (n + j)) ≡ p x)
    → behind_among f (holders_numbered g n (map plain xs)) ≡ count_by p xs
among_numbered f g plain p n [] each = refl
among_numbered f g plain p n (x ∷ xs) each =
    let at : n ≡ n + 0 = omega arith in
    let first : f (g n) ≡ p x = ap (λ (k : ℕ). f (g k)) at ∙ each zero x refl in
    let rest = among_numbered f g plain p (n + 1) xs (λ j y there. let on : (n + 1) + j ≡ n + suc j = omega arith in ap (λ (k : ℕ). f (g k)) on ∙ each (suc j) y there) in
    (λ i. (if first i then 1 else 0) + rest i) ∙ sym (sum_by-cons (λ y. cond (p y) 1 0) x xs)

-- holders that their elements name
among_named : {X Y : Type 0} (f : Holder → Bool) (g : Y → Holder) (plain : X → Y) (p : X → Bool) (xs : List X) → ((j : ℕ) (x : X) → slice_get xs j ≡ Some x → f (g (plain x)) ≡ p x) → behind_among f (map g (map plain xs)) ≡ count_by p xs
among_named f g plain p [] each = refl
among_named f g plain p (x ∷ xs) each =
    let first = each zero x refl in
    let rest = among_named f g plain p xs (λ j y there. each (suc j) y there) in
    (λ i. (if first i then 1 else 0) + rest i) ∙ sym (sum_by-cons (λ y. cond (p y) 1 0) x xs)

among_both : (f : Holder → Bool) (hs gs : List Holder) → behind_among f (hs ++ gs) ≡ behind_among f hs + behind_among f gs
among_both f [] gs = let e : behind_among f gs ≡ 0 + behind_among f gs = omega arith in e
among_both f (h ∷ hs) gs =
    let c = if f h then 1 else 0 in
    let e : c + (behind_among f hs + behind_among f gs) ≡ (c + behind_among f hs) + behind_among f gs = omega arith in
    ap (λ (n : ℕ). c + n) (among_both f hs gs) ∙ e

-- a process's links
slots_numbered : (q : Pid) (n : ℕ) (ls : List (Option PlainLink)) → holders_numbered (Slot q) n ls ≡ holders_numbered (Slot q) n ls
slots_numbered q n [] = refl
slots_numbered q n (l ∷ ls) = ap (λ (hs : List Holder). Slot q n ∷ hs) (slots_numbered q (n + 1) ls)

slot_there : (ts : List (Option Link)) (j : ℕ) (o : Option Link) → slice_get ts j ≡ Some o → link_at ts j ≡ o
slot_there [] j o e = none_some o e
slot_there (t ∷ ts) zero o e = cc
slot_there (t ∷ ts) (suc j) o e = slot_there ts j o e

slot_behind : (s : OneKernel) (v : View) (a : Addresses) (l : Placed) (q r : Pid) (moves : ℕ) (x : Process) (k : ℕ) (o : Option Link) → Mirrors s v a l → l.processes q ≡ Some x → link_at x.table k ≡ o
    → addresses.is_behind s a q r moves (Slot q k) ≡ slot_is_behind r moves o
slot_behind s v a l q r moves x k o h1 h2 h3 = search (arith, slot_leads, alive_is, behind_led, pid_eq-same)

holders_if : (s : OneKernel) (q : Pid) (hs gs os : List Holder) (b c : Bool) → b ≡ false → c ≡ false → (if b then hs else if c then gs else os) ≡ os
holders_if s q hs gs os b c e f = ap (λ (x : Bool). if x then hs else if c then gs else os) e ∙ ap (λ (x : Bool). if x then gs else os) f

-- what the line of an update at a process counts
pub updated_count : (s : OneKernel) (v : View) (a : Addresses) (l : Placed) (q r : Pid) (at moves : ℕ) (about : About) (x : Process) → Mirrors s v a l → about ≡ About.Place r at moves → pid_eq q switchboard ≡ false → pid_eq q manager ≡ false → l.processes q ≡ Some x
    → behind_count s a q (place_told about) ≡ count_by (slot_is_behind r moves) x.table
updated_count s v a l q r at moves about x h is no_board no_manager there =
    let f = addresses.is_behind s a q r moves in
    let holders : holders_of s q ≡ holders_numbered (Slot q) 0 (map plain_slot x.table) =
    holders_if s q (holders_numbered Name 0 s.switchboard.names) (holders_numbered Child 1 s.manager.children ++ answers_in s.manager.pending ++ ToBoard ∷ []) (slot_holders q (kernel.alive (s.processes q))) (pid_eq q switchboard) (pid_eq q manager) no_board no_manager
    ∙ ap (slot_holders q) (alive_is s v a l q x h there)
    ∙ slots_numbered q 0 (map plain_slot x.table)
    in
    ap (λ (w : About). behind_count s a q (place_told w)) is
    ∙ ap (behind_among f) holders
    ∙ among_numbered f (Slot q) plain_slot (slot_is_behind r moves) 0 x.table
    (λ j o there_. let k : 0 + j ≡ j = omega arith in ap (λ (n : ℕ). f (Slot q n)) k ∙ slot_behind s v a l q r moves x j o h there (slot_there x.table j o there_))

-- at the switchboard
pub updated_board_count : (s : OneKernel) (v : View) (a : Addresses) (l : Placed) (q r : Pid) (at moves : ℕ) (about : About) → Mirrors s v a l → about ≡ About.Place r at moves → q ≡ switchboard
    → behind_count s a q (place_told about) ≡ count_by (named_is_behind r moves) l.board.names
updated_board_count s v a l q r at moves about h is to =
    let f = addresses.is_behind s a switchboard r moves in
    (λ i. behind_count s a (to i) (place_told (is i)))
    ∙ ap (λ (b : Switchboard). behind_among f (holders_numbered Name 0 b.names)) (sym h.plain.board)
    ∙ among_numbered f Name plain_named (named_is_behind r moves) 0 l.board.names
    (λ j k there. let n : 0 + j ≡ j = omega arith in
    ap (λ (c : ℕ). f (Name c)) n ∙ behind_led s a switchboard r moves (Name j) k.link.addr refl (name_leads s v a l j k h there) (h.places.name j k there))

-- at the manager: its children, and its requests, which have ascending numbers
own_number : (ps : List Pending) (from to j : ℕ) (y : Pending) → ascends from (map plain_pending ps) to ≡ true → slice_get ps j ≡ Some y → (pending_request y.n ps ≡ Some y) × (from ≤ y.n)
own_number [] from to j y order there = none_some y there
own_number (p ∷ ps) from to zero y order there = grind (arith, nat_tests, and-both, nat_le)
own_number (p ∷ ps) from to (suc j) y order there =
    let w = and-both (nat_le from p.n) (ascends (p.n + 1) (map plain_pending ps) to) order in
    let (found, above) = own_number ps (p.n + 1) to j y w.1 there in
    search arith

answer_behind : (s : OneKernel) (a : Addresses) (r : Pid) (moves n : ℕ) (o : Option Link) → leads_to s (Answer n) ≡ link_target (option_map plain_link o) → AnswerNames o (a (Answer n))
    → addresses.is_behind s a manager r moves (Answer n) ≡ answer_is_behind r moves o
answer_behind s a r moves n o h1 h2 = search (arith, behind_led)

board_first : (c p b : ℕ) → (c + p) + (b + 0) ≡ b + (c + p)
board_first c p b = omega arith

pub updated_manager_count : (s : OneKernel) (v : View) (a : Addresses) (l : Placed) (q r : Pid) (at moves : ℕ) (about : About) → Mirrors s v a l → about ≡ About.Place r at moves → q ≡ manager → ascends 0 s.manager.pending s.manager.sent ≡ true
    → behind_count s a q (place_told about) ≡ behind_in r moves l.manager
updated_manager_count s v a l q r at moves about h is to order =
    let f = addresses.is_behind s a manager r moves in
    let g = l.manager in
    let ordered : ascends 0 (map plain_pending g.pending) g.sent ≡ true = ap (λ (m : Manager). ascends 0 m.pending m.sent) h.plain.manager ∙ order in
    let children : behind_among f (holders_numbered Child 1 (map plain_child g.children)) ≡ count_by (places.is_behind r moves) g.children = among_numbered f Child plain_child (places.is_behind r moves) 1 g.children
    (λ j c there. let n : 1 + j ≡ suc j = omega arith in
    ap (λ (k : ℕ). f (Child k)) n ∙ behind_led s a manager r moves (Child (suc j)) c refl (child_leads s v a l (suc j) c h there) (h.places.child (suc j) c there))
    in
    let answers : behind_among f (answers_in (map plain_pending g.pending)) ≡ count_by (pending_is_behind r moves) g.pending =
    among_named f (λ (y : one.Pending). Answer y.n) plain_pending (pending_is_behind r moves) g.pending
    (λ j y there. let w = own_number g.pending 0 g.sent j y ordered there in
    answer_behind s a r moves y.n y.answer (answer_leads s v a l y.n y h w.0) (h.places.answer y.n y w.0))
    in
    let board : f ToBoard ≡ places.is_behind r moves g.board = behind_led s a manager r moves ToBoard g.board refl (board_leads s v a l h) h.places.board in
    let last : behind_among f (ToBoard ∷ []) ≡ (if places.is_behind r moves g.board then 1 else 0) + 0 = ap (λ (c : Bool). (if c then 1 else 0) + 0) board in
    let all = among_both f (holders_numbered Child 1 (map plain_child g.children) ++ answers_in (map plain_pending g.pending)) (ToBoard ∷ []) in
    let rest = among_both f (holders_numbered Child 1 (map plain_child g.children)) (answers_in (map plain_pending g.pending)) in
    let counts : behind_among f (holders_numbered Child 1 (map plain_child g.children) ++ answers_in (map plain_pending g.pending)) ≡ count_by (places.is_behind r moves) g.children + count_by (pending_is_behind r moves) g.pending = rest ∙ (λ i. children i + answers i) in
    let both : behind_among f (holders_numbered Child 1 (map plain_child g.children) ++ answers_in (map plain_pending g.pending)) + behind_among f (ToBoard ∷ []) ≡ (count_by (places.is_behind r moves) g.children + count_by (pending_is_behind r moves) g.pending) + ((if places.is_behind r moves g.board then 1 else 0) + 0) = λ i. counts i + last i in
    (λ i. behind_count s a (to i) (place_told (is i)))
    ∙ ap (λ (m : Manager). behind_among f (holders_numbered Child 1 m.children ++ answers_in m.pending ++ ToBoard ∷ [])) (sym h.plain.manager)
    ∙ all
    ∙ both
    ∙ board_first (count_by (places.is_behind r moves) g.children) (count_by (pending_is_behind r moves) g.pending) (if places.is_behind r moves g.board then 1 else 0)
