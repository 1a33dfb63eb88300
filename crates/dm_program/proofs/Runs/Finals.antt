-- The lines at the end hide nothing: no process and no server has a link to a kernel.
use Rattle.dm_program.proofs.Runs.Names.{◌≡◌, ◌<◌, ℕ, zero, suc, ◌+◌, ◌*◌, ◌/◌, ◌==◌, Bool, true, false, if◌then◌else◌, List, [], ◌∷◌, ◌++◌, length, take, drop, refl, arith, ⊤, All, All-nil, All-cons, All-append, All-head, All-tail, Option}
use Rattle.dm_program.proofs.Runs.Names.{None, Some, Addr, Link, Pid, pid_of, MsgId, Process, SlotIsLawful, Regs, Here, Frozen, Incoming, Forward, Named, IsLawfulNamed, Pending, first_number, switchboard, manager, Boot, KernelKnown}
use Rattle.dm_program.proofs.Runs.Names.{IsLawfulKnown, IsLawfulState, Arrival, restarted, Wanted, Chunk, Block, Nothing, EndLine, Standing, or, trimmed, block_line, memory_lines, joined_below, home_with, list_line, HidesNothing}
use Rattle.dm_program.proofs.Runs.Names.{WorldState, of_known}
use Rattle.dm_line.specs.declared.end_line.EndLine.TheVariants as end
use Rattle.dm_line.specs.declared.end_line.Standing.TheVariants as standing
use Rattle.dm_program.proofs.Names.{Why, ◌&&◌, option_map, IsLawfulResident, queue_of, Resident, is_process_coming}
use Rattle.dm_resident.specs.declared.Resident.TheVariants as resident
use Rattle.dm_world.specs.Ends as ends
use Rattle.dm_program.proofs.Runs.Restarted.{NamedHides, ResidentHides, SlotHides, TableHides, restarted_hides}

abbrev Hide : List EndLine → Type 0
Hide ls = All HidesNothing ls

none_hide : Hide []
none_hide = All-nil HidesNothing

and_hide : (l : EndLine) (ls : List EndLine) → HidesNothing l → Hide ls → Hide (l ∷ ls)
and_hide l ls h k = All-cons HidesNothing l ls h k

both_hide : (a b : List EndLine) → Hide a → Hide b → Hide (a ++ b)
both_hide a b h k = All-append HidesNothing a b h k

block_hides : (p : Pid) (k : ℕ) (bytes : List ℕ) → Hide (block_line p k bytes)
block_hides p k [] = none_hide
block_hides p k (x ∷ xs) = and_hide _ [] tt none_hide

memory_hides : (p : Pid) (bytes : List ℕ) (k : ℕ) → Hide (memory_lines p bytes k)
memory_hides p bytes zero = none_hide
memory_hides p bytes (suc k) = both_hide (memory_lines p bytes k) (block_line p k (trimmed (take 256 (drop (256 * k) bytes)))) (memory_hides p bytes k) (block_hides p k (trimmed (take 256 (drop (256 * k) bytes))))

slot_hides : (p : Pid) (k : ℕ) (o : Option Link) → SlotHides o → Hide (ends.slot_line p k o)
slot_hides p k None h = none_hide
slot_hides p k (Some l) h = and_hide (end.Link p k l) [] h none_hide

links_hide : (p : Pid) (k : ℕ) (slots : List (Option Link)) → TableHides slots → Hide (ends.link_lines p k slots)
links_hide p k [] h = none_hide
links_hide p k (o ∷ os) h = both_hide (ends.slot_line p k o) (ends.link_lines p (k + 1) os) (slot_hides p k o (All-head SlotHides o os h)) (links_hide p (k + 1) os (All-tail SlotHides o os h))

lawful_hides : (slots : List (Option Link)) → All SlotIsLawful slots → TableHides slots
lawful_hides [] h = All-nil SlotHides
lawful_hides (None ∷ os) h = All-cons SlotHides None os tt (lawful_hides os (All-tail SlotIsLawful None os h))
lawful_hides (Some l ∷ os) h = All-cons SlotHides (Some l) os (All-head SlotIsLawful (Some l) os h).not_to_kernel (lawful_hides os (All-tail SlotIsLawful (Some l) os h))

parts_hide : (p : Pid) (regs : Regs) (memory : List ℕ) (table : List (Option Link)) → TableHides table → Hide (ends.parts_lines p regs memory table)
parts_hide p regs memory table h =
    and_hide _ (memory_lines p memory (length memory / 256) ++ ends.link_lines p 0 table) tt
    (both_hide (memory_lines p memory (length memory / 256)) (ends.link_lines p 0 table) (memory_hides p memory (length memory / 256)) (links_hide p 0 table h))

alive_hides : (m : ℕ) (p : Pid) (s : Standing) (x : Process) → TableHides x.table → Hide (ends.alive_lines m p s x)
alive_hides m p s x h = and_hide _ (ends.state_lines p x) tt (parts_hide p x.regs x.memory x.table h)

-- a server's own line, and where it stands
sent_hide : (p : Pid) (s : Standing) (m sent : ℕ) (home : Bool) → Hide (end.Server p sent ∷ (if home then [] else end.Place p m s ∷ []))
sent_hide p s m sent true = and_hide (end.Server p sent) [] tt none_hide
sent_hide p s m sent false = and_hide (end.Server p sent) (end.Place p m s ∷ []) tt (and_hide (end.Place p m s) [] tt none_hide)

-- a name that is lawful hides nothing
lawful_names_hide : (ks : List Named) → All IsLawfulNamed ks → All NamedHides ks
lawful_names_hide [] h = All-nil NamedHides
lawful_names_hide (k ∷ ks) h = All-cons NamedHides k ks (All-head IsLawfulNamed k ks h).link.not_to_kernel (lawful_names_hide ks (All-tail IsLawfulNamed k ks h))

lawful_resident_hides : (r : Resident) → IsLawfulResident r → ResidentHides r
lawful_resident_hides (resident.Process x) h = lawful_hides x.table h.links
lawful_resident_hides (resident.Board b) h = lawful_names_hide b.names h
lawful_resident_hides (resident.Manager g) h = tt

resident_hides : (m : ℕ) (p : Pid) (s : Standing) (r : Resident) → ResidentHides r → Hide (ends.resident_lines m p s r)
resident_hides m p s (resident.Process x) h = alive_hides m p s x h
resident_hides m p s (resident.Board b) h = sent_hide p s m b.sent ((m == 0) && ends.stands_here s)
resident_hides m p s (resident.Manager g) h = sent_hide p s m g.sent ((m == 0) && ends.stands_here s)

abbrev SomeHide : Option (List EndLine) → Type 0
SomeHide None = ⊤
SomeHide (Some ls) = Hide ls

record_hides : (m : ℕ) (p : Pid) (r : Option KernelKnown) → ((k : KernelKnown) → r ≡ Some k → IsLawfulKnown k) → SomeHide (ends.record_lines m p r)
record_hides m p None h = tt
record_hides m p (Some (Here r)) h = resident_hides m p standing.Here r (lawful_resident_hides r (h (Here r) refl))
record_hides m p (Some (Frozen leaving)) h = resident_hides m p standing.Leaving leaving.resident (lawful_resident_hides leaving.resident (h (Frozen leaving) refl).resident)
record_hides m p (Some (Incoming arriving)) h = tt
record_hides m p (Some (Forward machine moves)) h = tt

come_hides : (m : ℕ) (p : Pid) (o : Option Resident) → ((r : Resident) → o ≡ Some r → ResidentHides r) → SomeHide (ends.come_lines m p o)
come_hides m p None h = tt
come_hides m p (Some r) h = resident_hides m p standing.Arriving r (h r refl)

whole_hides : (b : Boot) (m : ℕ) (p : Pid) (a : Arrival) (w : Wanted) → SomeHide (ends.come_lines m p (ends.come_whole b a w))
whole_hides b m p a (Chunk k) = tt
whole_hides b m p a (Block k) = tt
whole_hides b m p a Nothing = come_hides m p (restarted (length b.machines) (length b.images) a) (restarted_hides (length b.machines) (length b.images) a)

awaited_hides : (b : Boot) (m : ℕ) (p : Pid) (r : Option KernelKnown) → SomeHide (ends.awaited_lines b m p r)
awaited_hides b m p None = tt
awaited_hides b m p (Some (Here x)) = tt
awaited_hides b m p (Some (Frozen leaving)) = tt
awaited_hides b m p (Some (Incoming arriving)) = whole_hides b m p arriving arriving.wanted
awaited_hides b m p (Some (Forward machine moves)) = tt

listed_hides : (f : List MsgId → EndLine) (ids : List MsgId) → ((is : List MsgId) → HidesNothing (f is)) → Hide (list_line f ids)
listed_hides f [] h = none_hide
listed_hides f (i ∷ is) h = and_hide (f (i ∷ is)) [] (h (i ∷ is)) none_hide

queue_hides : (p : Pid) (r : Option KernelKnown) → SomeHide (ends.record_queue p r)
queue_hides p None = tt
queue_hides p (Some (Here x)) = listed_hides (end.Queue p) (ends.names_of (queue_of x)) (λ is. tt)
queue_hides p (Some (Frozen leaving)) = listed_hides (end.Queue p) (ends.names_of (queue_of leaving.resident)) (λ is. tt)
queue_hides p (Some (Incoming arriving)) = tt
queue_hides p (Some (Forward machine moves)) = tt

or_hides : (a b : Option (List EndLine)) → SomeHide a → SomeHide b → SomeHide (or a b)
or_hides None b h k = k
or_hides (Some x) b h k = h

first_hides : (f : ℕ → Option (List EndLine)) (n : ℕ) → ((m : ℕ) → m < n → SomeHide (f m)) → SomeHide (ends.first_says f n)
first_hides f zero h = tt
first_hides f (suc n) h = or_hides (ends.first_says f n) (f n) (first_hides f n (λ m l. h m (omega (arith, l)))) (h n (omega arith))

lines_hide : (o : Option (List EndLine)) → SomeHide o → Hide (ends.lines_in o)
lines_hide None h = none_hide
lines_hide (Some ls) h = h

home_hides : (f : Pid → List EndLine) (home n : ℕ) → ((p : Pid) → Hide (f p)) → Hide (home_with f home n)
home_hides f home zero h = none_hide
home_hides f home (suc n) h = both_hide (home_with f home n) (f (pid_of home (first_number + n))) (home_hides f home n h) (h (pid_of home (first_number + n)))

homes_hide : (w : WorldState) (f : Pid → List EndLine) (n : ℕ) → ((p : Pid) → Hide (f p)) → Hide (ends.homes_with w f n)
homes_hide w f zero h = none_hide
homes_hide w f (suc n) h = both_hide (ends.homes_with w f n) (home_with f n (w.nodes n).kernel.made) (homes_hide w f n h) (home_hides f n (w.nodes n).kernel.made h)

machines_hide : (f : ℕ → List EndLine) (n : ℕ) → ((m : ℕ) → Hide (f m)) → Hide (joined_below f n)
machines_hide f zero h = none_hide
machines_hide f (suc n) h = both_hide (joined_below f n) (f n) (machines_hide f n h) (h n)

names_hide : (ks : List Named) → All NamedHides ks → Hide (ends.name_lines ks)
names_hide [] h = none_hide
names_hide (k ∷ ks) h = and_hide (end.Name (record { items = k.name }) k.link) (ends.name_lines ks) (All-head NamedHides k ks h) (names_hide ks (All-tail NamedHides k ks h))

children_hide : (n : ℕ) (cs : List Addr) → Hide (ends.child_lines n cs)
children_hide n [] = none_hide
children_hide n (c ∷ cs) = and_hide (end.Child n c.pid c.at) (ends.child_lines (n + 1) cs) tt (children_hide (n + 1) cs)

pending_hide : (rs : List Pending) → Hide (ends.pending_lines rs)
pending_hide [] = none_hide
pending_hide (r ∷ rs) = and_hide _ (ends.pending_lines rs) tt (pending_hide rs)

-- what a server keeps
lists_hide : (r : Resident) → ResidentHides r → Hide (ends.lists_of r)
lists_hide (resident.Process x) h = none_hide
lists_hide (resident.Board b) h = names_hide b.names h
lists_hide (resident.Manager g) h = both_hide (ends.child_lines 1 g.children) (ends.pending_lines g.pending) (children_hide 1 g.children) (pending_hide g.pending)

kept_hides : (r : Option KernelKnown) → ((k : KernelKnown) → r ≡ Some k → IsLawfulKnown k) → SomeHide (ends.record_kept r)
kept_hides None h = tt
kept_hides (Some (Here r)) h = lists_hide r (lawful_resident_hides r (h (Here r) refl))
kept_hides (Some (Frozen leaving)) h = lists_hide leaving.resident (lawful_resident_hides leaving.resident (h (Frozen leaving) refl).resident)
kept_hides (Some (Incoming arriving)) h = tt
kept_hides (Some (Forward machine moves)) h = tt

some_lists_hide : (o : Option Resident) → ((r : Resident) → o ≡ Some r → ResidentHides r) → SomeHide (option_map ends.lists_of o)
some_lists_hide None h = tt
some_lists_hide (Some r) h = lists_hide r (h r refl)

come_kept_hides : (b : Boot) (a : Arrival) (w : Wanted) (process : Bool) → SomeHide (option_map ends.lists_of (if process then None else ends.come_whole b a w))
come_kept_hides b a w true = tt
come_kept_hides b a (Chunk k) false = tt
come_kept_hides b a (Block k) false = tt
come_kept_hides b a Nothing false = some_lists_hide (restarted (length b.machines) (length b.images) a) (restarted_hides (length b.machines) (length b.images) a)

awaited_kept_hides : (b : Boot) (r : Option KernelKnown) → SomeHide (ends.awaited_kept b r)
awaited_kept_hides b None = tt
awaited_kept_hides b (Some (Here r)) = tt
awaited_kept_hides b (Some (Frozen leaving)) = tt
awaited_kept_hides b (Some (Incoming arriving)) = come_kept_hides b arriving arriving.wanted (is_process_coming arriving)
awaited_kept_hides b (Some (Forward machine moves)) = tt

stream_hides : (w : WorldState) (a c : ℕ) (same : Bool) → Hide (if same then [] else list_line (end.Stream a c) (ends.names_of (ends.untaken w a c)))
stream_hides w a c true = none_hide
stream_hides w a c false = listed_hides (end.Stream a c) (ends.names_of (ends.untaken w a c)) (λ is. tt)

ended_hides : (b : Boot) (w : WorldState) (p : Pid) (o : Option Why) → Hide (ends.living_lines b w p) → Hide (ends.lines_by b w p o)
ended_hides b w p None h = h
ended_hides b w p (Some y) h = and_hide (end.Ended p y) [] tt none_hide

-- the parts of the list at the end
living_hides : (b : Boot) (w : WorldState) (p : Pid) → ((m : ℕ) → m < length b.machines → IsLawfulState (w.nodes m).kernel) → Hide (ends.living_lines b w p)
living_hides b w p lawful =
    lines_hide (or (ends.first_had (length b.machines) w p) (ends.first_awaited b w p))
    (or_hides (ends.first_had (length b.machines) w p) (ends.first_awaited b w p)
    (first_hides (λ m. ends.record_lines m p ((w.nodes m).kernel.records p)) (length b.machines) (λ m l. record_hides m p ((w.nodes m).kernel.records p) (λ k is. of_known (w.nodes m).kernel p (Some k) (lawful m l) is)))
    (first_hides (λ m. ends.awaited_lines b m p ((w.nodes m).kernel.records p)) (length b.machines) (λ m l. awaited_hides b m p ((w.nodes m).kernel.records p))))

processes_hide : (b : Boot) (w : WorldState) → ((m : ℕ) → m < length b.machines → IsLawfulState (w.nodes m).kernel) → Hide (ends.homes_with w (ends.process_lines b w) (length b.machines))
processes_hide b w lawful = homes_hide w (ends.process_lines b w) (length b.machines) (λ p. ended_hides b w p (w.ended p) (living_hides b w p lawful))

server_kept_hides : (b : Boot) (w : WorldState) (p : Pid) → ((m : ℕ) → m < length b.machines → IsLawfulState (w.nodes m).kernel) → Hide (ends.kept_lines b w p)
server_kept_hides b w p lawful =
    let had : ℕ → Option (List EndLine) = λ m. ends.record_kept ((w.nodes m).kernel.records p) in
    let awaited : ℕ → Option (List EndLine) = λ m. ends.awaited_kept b ((w.nodes m).kernel.records p) in
    lines_hide (or (ends.first_says had (length b.machines)) (ends.first_says awaited (length b.machines)))
    (or_hides (ends.first_says had (length b.machines)) (ends.first_says awaited (length b.machines))
    (first_hides had (length b.machines) (λ m l. kept_hides ((w.nodes m).kernel.records p) (λ k is. of_known (w.nodes m).kernel p (Some k) (lawful m l) is)))
    (first_hides awaited (length b.machines) (λ m l. awaited_kept_hides b ((w.nodes m).kernel.records p))))

servers_hide : (b : Boot) (w : WorldState) → ((m : ℕ) → m < length b.machines → IsLawfulState (w.nodes m).kernel) → Hide (ends.server_lines b w)
servers_hide b w lawful =
    both_hide (ends.living_lines b w switchboard ++ ends.living_lines b w manager ++ ends.kept_lines b w switchboard) (ends.kept_lines b w manager)
    (both_hide (ends.living_lines b w switchboard ++ ends.living_lines b w manager) (ends.kept_lines b w switchboard)
    (both_hide (ends.living_lines b w switchboard) (ends.living_lines b w manager) (living_hides b w switchboard lawful) (living_hides b w manager lawful)) (server_kept_hides b w switchboard lawful))
    (server_kept_hides b w manager lawful)

queues_hide : (machines : ℕ) (w : WorldState) → Hide (ends.homes_with w (ends.queue_of machines w) machines)
queues_hide machines w =
    homes_hide w (ends.queue_of machines w) machines (λ p. lines_hide (ends.first_says (λ m. ends.record_queue p ((w.nodes m).kernel.records p)) machines)
    (first_hides (λ m. ends.record_queue p ((w.nodes m).kernel.records p)) machines (λ m l. queue_hides p ((w.nodes m).kernel.records p))))

held_line_hides : (w : WorldState) (m : ℕ) (p : Pid) → Hide (ends.held_line w m p)
held_line_hides w m p = listed_hides (end.Holding m p) (ends.names_of (ends.held_for ((w.nodes m).kernel.records p))) (λ is. tt)

held_hides : (machines : ℕ) (w : WorldState) → Hide (joined_below (ends.held_lines machines w) machines)
held_hides machines w =
    machines_hide (ends.held_lines machines w) machines
    (λ m. both_hide (ends.held_line w m switchboard ++ ends.held_line w m manager) (ends.homes_with w (ends.held_line w m) machines)
    (both_hide (ends.held_line w m switchboard) (ends.held_line w m manager) (held_line_hides w m switchboard) (held_line_hides w m manager)) (homes_hide w (ends.held_line w m) machines (held_line_hides w m)))

inboxes_hide : (machines : ℕ) (w : WorldState) → Hide (joined_below (λ m. list_line (end.Inbox m) (ends.names_of (w.nodes m).kernel.inbox)) machines)
inboxes_hide machines w =
    machines_hide (λ m. list_line (end.Inbox m) (ends.names_of (w.nodes m).kernel.inbox)) machines (λ m. listed_hides (end.Inbox m) (ends.names_of (w.nodes m).kernel.inbox) (λ is. tt))

streams_hide : (machines : ℕ) (w : WorldState) → Hide (joined_below (λ a. joined_below (λ c. ends.stream_line w a c) machines) machines)
streams_hide machines w =
    machines_hide (λ a. joined_below (λ c. ends.stream_line w a c) machines) machines (λ a. machines_hide (λ c. ends.stream_line w a c) machines (λ c. stream_hides w a c (a == c)))

-- a list of seven parts, as it is put together
seven_hide : (a b c d e f g : List EndLine) → Hide a → Hide b → Hide c → Hide d → Hide e → Hide f → Hide g → Hide (a ++ b ++ c ++ d ++ e ++ f ++ g)
seven_hide a b c d e f g ha hb hc hd he hf hg =
    both_hide (a ++ b ++ c ++ d ++ e ++ f) g
    (both_hide (a ++ b ++ c ++ d ++ e) f (both_hide (a ++ b ++ c ++ d) e (both_hide (a ++ b ++ c) d (both_hide (a ++ b) c (both_hide a b ha hb) hc) hd) he) hf) hg

-- all of them
pub end_hides : (b : Boot) (w : WorldState) → ((m : ℕ) → m < length b.machines → IsLawfulState (w.nodes m).kernel) → Hide (ends.end_lines b w)
end_hides b w lawful =
    let machines = length b.machines in
    and_hide end.Final _ tt
    (seven_hide (ends.homes_with w (ends.process_lines b w) machines) (ends.server_lines b w) (ends.homes_with w (ends.queue_of machines w) machines)
    (joined_below (ends.held_lines machines w) machines)
    (joined_below (λ m. list_line (end.Inbox m) (ends.names_of (w.nodes m).kernel.inbox)) machines)
    (joined_below (λ a. joined_below (λ c. ends.stream_line w a c) machines) machines)
    (end.Groups w.groups ∷ [])
    (processes_hide b w lawful) (servers_hide b w lawful) (queues_hide machines w) (held_hides machines w) (inboxes_hide machines w) (streams_hide machines w)
    (and_hide (end.Groups w.groups) [] tt none_hide))
