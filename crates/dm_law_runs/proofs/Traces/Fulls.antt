-- None of the lines at the end says nothing.
use Rattle.dm_law_runs.proofs.Names.{◌≡◌, ◌≢◌, ℕ, zero, suc, ◌+◌, ◌-◌, ◌*◌, ◌/◌, ◌<◌, ◌≤◌, ◌==◌, Bool, true, false, ◌&&◌, nat_le, if◌then◌else◌, List, [], ◌∷◌, ◌++◌, length, take, drop, get_or, refl, ap, sym, ◌∙◌, arith}
use Rattle.std.proofs.Common.{Some, None}
use Rattle.dm_law_runs.proofs.Names.{All, Option, nat_tests, length-take, All-nil, All-cons, All-append, Pid, pid_of, PlainLink, MsgId, first_number, manager, switchboard, Life, Alive, NamedLink, Pending, PlainProcess, EndLine}
use Rattle.dm_law_runs.proofs.Names.{before_zeros, trimmed, block_line, memory_lines, home_with, joined_below, list_line, Addresses, Stood, end_lines, Point, untaken, View, IsFull}
use Rattle.std.specs.Option.{option_map_or}
use Rattle.dm_onekernel.specs.Kernel as kernel
use Rattle.dm_line.specs.declared.end_line.EndLine.TheVariants as end
use Rattle.dm_law_rule.specs.Ends as ends
use Rattle.dm_law_runs.proofs.Traces.KeptNames.{AreNames}

abbrev AreFull : List EndLine → Type 0
AreFull es = All IsFull es

none_full : AreFull []
none_full = All-nil IsFull

then_full : (e : EndLine) (es : List EndLine) → IsFull e → AreFull es → AreFull (e ∷ es)
then_full e es h k = All-cons IsFull e es h k

one_full : (e : EndLine) → IsFull e → AreFull (e ∷ [])
one_full e h = then_full e [] h none_full

both_full : (a b : List EndLine) → AreFull a → AreFull b → AreFull (a ++ b)
both_full a b h k = All-append IsFull a b h k

-- trimmed bytes are no more than there were, and end with one that isn't 0
record Trimmed (xs ts : List ℕ) : Type 0 where
  fewer : length ts ≤ length xs
  last : 0 < length ts → get_or ts (length ts - 1) 0 ≢ 0

before_trimmed : (x : ℕ) (xs ts : List ℕ) → Trimmed xs ts → Trimmed (x ∷ xs) (before_zeros x ts)
before_trimmed x xs [] h = by_test (x == 0) refl
  where
    not_zero : (x == 0) ≡ false → x ≢ 0
    not_zero e f = grind (arith, nat_tests, e, f)

    by_test : (t : Bool) → (x == 0) ≡ t → Trimmed (x ∷ xs) (if t then [] else x ∷ [])
    by_test true e = record { fewer = omega arith; last = λ k. absurd (omega arith) }
    by_test false e = record { fewer = omega arith; last = λ k. not_zero e }
before_trimmed x xs (y ∷ ys) h =
    let fewer : length (y ∷ ys) ≤ length xs = h.fewer in
    let e : length (x ∷ y ∷ ys) - 1 ≡ suc (length (y ∷ ys) - 1) = omega arith in
    record { fewer = omega (arith, fewer); last = λ k p. h.last (omega arith) (sym (ap (λ (j : ℕ). get_or (x ∷ y ∷ ys) j 0) e) ∙ p) }

trim : (xs : List ℕ) → Trimmed xs (trimmed xs)
trim [] = record { fewer = omega arith; last = λ k. absurd (omega arith) }
trim (x ∷ xs) = before_trimmed x xs (trimmed xs) (trim xs)

block_full : (p : Pid) (k : ℕ) (xs ts : List ℕ) → length xs ≤ 256 → Trimmed xs ts → AreFull (block_line p k ts)
block_full p k xs [] few h = none_full
block_full p k xs (t ∷ ts) few h =
    let fewer : length (t ∷ ts) ≤ length xs = h.fewer in
    one_full (end.Memory p k (record { items = t ∷ ts })) (omega arith, omega (arith, fewer, few), h.last (omega arith))

memory_full : (p : Pid) (bytes : List ℕ) (k : ℕ) → AreFull (memory_lines p bytes k)
memory_full p bytes zero = none_full
memory_full p bytes (suc k) =
    let block : List ℕ = take 256 (drop (256 * k) bytes) in
    let few : length block ≤ 256 = omega (arith, length-take 256 (drop (256 * k) bytes)) in
    both_full (memory_lines p bytes k) (block_line p k (trimmed block)) (memory_full p bytes k) (block_full p k block (trimmed block) few (trim block))

slot_full : (a : Addresses) (p : Pid) (k : ℕ) (o : Option PlainLink) → AreFull (ends.slot_line a p k o)
slot_full a p k None = none_full
slot_full a p k (Some l) = one_full _ tt

links_full : (a : Addresses) (p : Pid) (k : ℕ) (ls : List (Option PlainLink)) → AreFull (ends.link_lines a p k ls)
links_full a p k [] = none_full
links_full a p k (l ∷ ls) = both_full (ends.slot_line a p k l) (ends.link_lines a p (k + 1) ls) (slot_full a p k l) (links_full a p (k + 1) ls)

state_full : (a : Addresses) (p : Pid) (x : PlainProcess) → AreFull (ends.state_lines a p x)
state_full a p x =
    both_full (end.Registers p x.regs.r x.regs.pc ∷ memory_lines p x.memory (length x.memory / 256)) (ends.link_lines a p 0 x.links)
    (then_full _ (memory_lines p x.memory (length x.memory / 256)) tt (memory_full p x.memory (length x.memory / 256))) (links_full a p 0 x.links)

alive_full : (a : Addresses) (p : Pid) (x : PlainProcess) (o : Option Stood) → AreFull (ends.alive_lines a p x o)
alive_full a p x None = none_full
alive_full a p x (Some s) = then_full _ (ends.state_lines a p x) tt (state_full a p x)

process_full : (pt : Point) (p : Pid) (o : Option Life) → AreFull (ends.process_lines pt p o)
process_full pt p None = none_full
process_full pt p (Some (Alive x)) = alive_full pt.addresses p x (ends.stood pt.view p pt.kernel.machines)
process_full pt p (Some (kernel.Ended because)) = one_full _ tt

home_full : (f : Pid → List EndLine) (home n : ℕ) → ((p : Pid) → AreFull (f p)) → AreFull (home_with f home n)
home_full f home zero h = none_full
home_full f home (suc n) h = both_full (home_with f home n) (f (pid_of home (first_number + n))) (home_full f home n h) (h (pid_of home (first_number + n)))

homes_full : (pt : Point) (f : Pid → List EndLine) (n : ℕ) → ((p : Pid) → AreFull (f p)) → AreFull (ends.homes_with pt f n)
homes_full pt f zero h = none_full
homes_full pt f (suc home) h = both_full (ends.homes_with pt f home) (home_with f home (pt.kernel.made home)) (homes_full pt f home h) (home_full f home (pt.kernel.made home) h)

machine_full : (f : ℕ → List EndLine) (n : ℕ) → ((m : ℕ) → AreFull (f m)) → AreFull (joined_below f n)
machine_full f zero h = none_full
machine_full f (suc m) h = both_full (joined_below f m) (f m) (machine_full f m h) (h m)

list_full : (f : List MsgId → EndLine) (ids : List MsgId) → ((i : MsgId) (is : List MsgId) → IsFull (f (i ∷ is))) → AreFull (list_line f ids)
list_full f [] h = none_full
list_full f (i ∷ is) h = one_full (f (i ∷ is)) (h i is)

name_sizes : (n : ℕ) → (nat_le 1 n && nat_le n 16) ≡ true → (0 < n) × (n ≤ 16)
name_sizes n e = both (nat_le 1 n) (nat_le n 16) refl refl e
  where
    least : nat_le 1 n ≡ true → 0 < n
    least f = grind (arith, nat_tests, f)

    most : nat_le n 16 ≡ true → n ≤ 16
    most f = grind (arith, nat_tests, f)

    both : (s t : Bool) → nat_le 1 n ≡ s → nat_le n 16 ≡ t → (s && t) ≡ true → (0 < n) × (n ≤ 16)
    both true true f g k = (least f, most g)
    both true false f g k = absurd (cc)
    both false t f g k = absurd (cc)

names_full : (a : Addresses) (n : ℕ) (ks : List NamedLink) → AreNames ks → AreFull (ends.name_lines a n ks)
names_full a n [] h = none_full
names_full a n (k ∷ ks) h = then_full _ (ends.name_lines a (n + 1) ks) (name_sizes (length k.name) h.0) (names_full a (n + 1) ks h.1)

children_full : (a : Addresses) (n : ℕ) (ps : List Pid) → AreFull (ends.child_lines a n ps)
children_full a n [] = none_full
children_full a n (p ∷ ps) = then_full _ (ends.child_lines a (n + 1) ps) tt (children_full a (n + 1) ps)

pending_full : (rs : List Pending) → AreFull (ends.pending_lines rs)
pending_full [] = none_full
pending_full (r ∷ rs) = then_full _ (ends.pending_lines rs) tt (pending_full rs)

queue_full : (v : View) (p : Pid) (o : Option Stood) → AreFull (ends.queue_at v p o)
queue_full v p None = none_full
queue_full v p (Some s) = list_full (end.Queue p) (v.queue s.at p) (λ i is. omega arith)

-- a server's own line, and where it stands
placed_full : (p : Pid) (s : Stood) (moved : Bool) → AreFull (if moved then end.Place p s.at s.standing ∷ [] else [])
placed_full p s true = one_full (end.Place p s.at s.standing) tt
placed_full p s false = none_full

place_full : (p : Pid) (o : Option Stood) → AreFull (option_map_or (ends.place_line p) o [])
place_full p None = none_full
place_full p (Some s) = placed_full p s (ends.is_moved s)

sent_full : (p : Pid) (sent : ℕ) (o : Option Stood) → AreFull (ends.sent_lines p sent o)
sent_full p sent o = then_full (end.Server p sent) (option_map_or (ends.place_line p) o []) tt (place_full p o)

servers_full : (pt : Point) → AreNames pt.kernel.switchboard.names → AreFull (ends.server_lines pt)
servers_full pt names =
    let named = ends.name_lines pt.addresses 0 pt.kernel.switchboard.names in
    let children = ends.child_lines pt.addresses 1 pt.kernel.manager.children in
    let pending = ends.pending_lines pt.kernel.manager.pending in
    let one = ends.sent_lines switchboard pt.kernel.switchboard.sent (ends.stood pt.view switchboard pt.kernel.machines) in
    let two = ends.sent_lines manager pt.kernel.manager.sent (ends.stood pt.view manager pt.kernel.machines) in
    both_full (one ++ two ++ named ++ children) pending
    (both_full (one ++ two ++ named) children
    (both_full (one ++ two) named
    (both_full one two (sent_full switchboard pt.kernel.switchboard.sent (ends.stood pt.view switchboard pt.kernel.machines)) (sent_full manager pt.kernel.manager.sent (ends.stood pt.view manager pt.kernel.machines)))
    (names_full pt.addresses 0 pt.kernel.switchboard.names names)) (children_full pt.addresses 1 pt.kernel.manager.children))
    (pending_full pt.kernel.manager.pending)

abbrev first_lines : Point → List EndLine
first_lines pt = end.Final ∷ ends.each_process pt (λ p. ends.process_lines pt p (pt.kernel.processes p))

first_full : (pt : Point) → AreFull (first_lines pt)
first_full pt =
    then_full end.Final (ends.each_process pt (λ p. ends.process_lines pt p (pt.kernel.processes p))) tt
    (homes_full pt (λ p. ends.process_lines pt p (pt.kernel.processes p)) pt.kernel.machines (λ p. process_full pt p (pt.kernel.processes p)))

queues_full : (pt : Point) → AreFull (ends.queue_lines pt)
queues_full pt =
    homes_full pt (λ p. ends.queue_at pt.view p (ends.first_with ends.standing_of pt.view p pt.kernel.machines)) pt.kernel.machines (λ p. queue_full pt.view p (ends.first_with ends.standing_of pt.view p pt.kernel.machines))

holding_full : (pt : Point) → AreFull (ends.holding_lines pt)
holding_full pt =
    machine_full (λ m. ends.each_holder pt (λ p. list_line (end.Holding m p) (pt.view.held m p))) pt.kernel.machines (λ m. held_full m)
  where
    line_full : (m : ℕ) (p : Pid) → AreFull (list_line (end.Holding m p) (pt.view.held m p))
    line_full m p = list_full (end.Holding m p) (pt.view.held m p) (λ i is. omega arith)

    held_full : (m : ℕ) → AreFull (ends.each_holder pt (λ p. list_line (end.Holding m p) (pt.view.held m p)))
    held_full m =
        let f : Pid → List EndLine = λ p. list_line (end.Holding m p) (pt.view.held m p) in
        both_full (f switchboard ++ f manager) (ends.each_process pt f) (both_full (f switchboard) (f manager) (line_full m switchboard) (line_full m manager)) (homes_full pt f pt.kernel.machines (line_full m))

inbox_full : (pt : Point) → AreFull (ends.inbox_lines pt)
inbox_full pt = machine_full (λ m. list_line (end.Inbox m) (pt.view.inbox m)) pt.kernel.machines (λ m. list_full (end.Inbox m) (pt.view.inbox m) (λ i is. omega arith))

stream_full : (pt : Point) → AreFull (ends.stream_lines pt)
stream_full pt =
    machine_full (λ a. joined_below (λ b. list_line (end.Stream a b) (untaken (pt.view.pair a b))) pt.kernel.machines) pt.kernel.machines
    (λ a. machine_full (λ b. list_line (end.Stream a b) (untaken (pt.view.pair a b))) pt.kernel.machines (λ b. list_full (end.Stream a b) (untaken (pt.view.pair a b)) (λ i is. omega arith)))

pub ends_full : (pt : Point) → AreNames pt.kernel.switchboard.names → All IsFull (end_lines pt)
ends_full pt names =
    let servers = first_lines pt ++ ends.server_lines pt in
    let queues = servers ++ ends.queue_lines pt in
    let holding = queues ++ ends.holding_lines pt in
    let inboxes = holding ++ ends.inbox_lines pt in
    let streams = inboxes ++ ends.stream_lines pt in
    both_full streams (end.Groups pt.view.groups ∷ [])
    (both_full inboxes (ends.stream_lines pt)
    (both_full holding (ends.inbox_lines pt)
    (both_full queues (ends.holding_lines pt) (both_full servers (ends.queue_lines pt) (both_full (first_lines pt) (ends.server_lines pt) (first_full pt) (servers_full pt names)) (queues_full pt)) (holding_full pt))
    (inbox_full pt)) (stream_full pt)) (one_full (end.Groups pt.view.groups) tt)
