-- The end lines say of each server how many messages it has sent, and where it is, unless it is here on machine 0.
use Rattle.dm_law_moves.proofs.Names.{◌≡◌, ℕ, zero, suc, ◌+◌, ◌==◌, ◌&&◌, Bool, true, false, not, List, [], ◌∷◌, ◌++◌, filter, refl, ap, ◌∙◌, sym, subst, arith, nat_tests, if◌then◌else◌, Option, None, Some, false≢true}
use Rattle.dm_law_moves.proofs.Names.{Pid, pid_eq, pid_eq-is, pid_eq-same, Boot, switchboard, manager, Life, Alive, NamedLink, Pending, PlainProcess, PlainLink, EndLine, block_line, memory_lines, list_line, Addresses, Stood, Standing, slot_line}
use Rattle.dm_law_moves.proofs.Names.{link_lines, state_lines, alive_lines, process_lines, each_process, name_lines, child_lines, pending_lines, queue_at, queue_lines, holding_lines, inbox_lines, stream_lines, server_lines, sent_lines, end_lines}
use Rattle.dm_law_moves.proofs.Names.{place_line, is_moved, stands_here, Point, View, Known, is_here, is_away, is_server, stood, Run, run_always, IsPlace, stands_by, Phase, Rests, knows, rests_here, InPhases, tells_server, server_sent}
use Rattle.dm_law_moves.proofs.Names.{lines_of_place, IsServerSaid, ServersAreSaid, eq_is, ◌||◌}
use Rattle.dm_law_moves.proofs.EndLines.{Mute, mute_both, mute_homes, mute_machines, mute_list, one_first, one_last}
use Rattle.dm_law_moves.proofs.LifeLines.{Placed, placed, somewhere}
use Rattle.dm_law_moves.proofs.Names.{server_phase}
use Rattle.dm_law_always.proofs.Found.Groups.{here_is}

-- a server is where it is found
server_placed : (b : Boot) (pt : Point) (p : Pid) → Run b pt → is_server p ≡ true → Placed pt p
server_placed b pt p run server =
    let phases_ = run.based.phased.phases in
    let at = somewhere pt.view p (phases_.of p) (phases_.each p) (server_phase pt p (phases_.of p) run.based.phased server (phases_.each p)) in
    placed pt p at.machine at.standing (run.found.known_within at.machine p (λ e. let f : None ≡ Some at.standing = sym (ap stands_by e) ∙ at.stands in cc)) at.stands

-- it is here on machine 0 exactly where it is found so
stands_as : (k : Known) (x : Standing) → stands_by k ≡ Some x → stands_here x ≡ is_here k
stands_as k x e = grind (arith, nat_tests)

away_stands : (k : Known) (x : Standing) → stands_by k ≡ Some x → is_away k ≡ true → ⊥
away_stands k x e away = grind (arith, nat_tests)

-- a server that is here on one machine is found on no other
elsewhere : (pt : Point) (p : Pid) (s : Stood) → InPhases pt.view → IsPlace pt p s → (s.at == 0) ≡ false → is_here (pt.view.known 0 p) ≡ true → ⊥
elsewhere pt p s h place off here =
    let is = here_is (pt.view.known 0 p) here in
    let phase : h.of p ≡ Rests 0 = rests_here (h.of p) 0 (sym (ap (knows (h.of p) 0) is) ∙ (h.each p).known 0) in
    let there : knows (Rests 0) s.at (pt.view.known s.at p) ≡ true = ap (λ (x : Phase). knows x s.at (pt.view.known s.at p)) (sym phase) ∙ (h.each p).known s.at in
    let far : (0 == s.at) ≡ false = grind (arith, nat_tests) in
    away_stands (pt.view.known s.at p) s.standing place.stands (sym (ap (λ (c : Bool). if c then is_here (pt.view.known s.at p) else is_away (pt.view.known s.at p)) far) ∙ there)

found_there : (pt : Point) (p : Pid) (s : Stood) → InPhases pt.view → IsPlace pt p s → is_moved s ≡ not (is_here (pt.view.known 0 p))
found_there pt p s h place = ap not (by (s.at == 0) refl (is_here (pt.view.known 0 p)) refl)
  where
    stands : stands_here s.standing ≡ is_here (pt.view.known s.at p)
    stands = stands_as (pt.view.known s.at p) s.standing place.stands

    by : (c : Bool) → (s.at == 0) ≡ c → (d : Bool) → is_here (pt.view.known 0 p) ≡ d → (c && stands_here s.standing) ≡ d
    by true at d is = stands ∙ ap (λ (m : ℕ). is_here (pt.view.known m p)) (eq_is s.at 0 at) ∙ is
    by false off true is = absurd (elsewhere pt p s h place off is)
    by false off false is = refl

-- the lines of all but servers
mute_names : (p : Pid) (a : Addresses) (n : ℕ) (ks : List NamedLink) → Mute (tells_server p) (name_lines a n ks)
mute_names p a n [] = refl
mute_names p a n (k ∷ ks) = mute_names p a (n + 1) ks

mute_children : (p : Pid) (a : Addresses) (n : ℕ) (qs : List Pid) → Mute (tells_server p) (child_lines a n qs)
mute_children p a n [] = refl
mute_children p a n (q ∷ qs) = mute_children p a (n + 1) qs

mute_pending : (p : Pid) (rs : List Pending) → Mute (tells_server p) (pending_lines rs)
mute_pending p [] = refl
mute_pending p (r ∷ rs) = mute_pending p rs

mute_block : (p q : Pid) (k : ℕ) (bytes : List ℕ) → Mute (tells_server p) (block_line q k bytes)
mute_block p q k bytes = grind (arith, nat_tests)

mute_memory : (p q : Pid) (bytes : List ℕ) (k : ℕ) → Mute (tells_server p) (memory_lines q bytes k)
mute_memory p q bytes zero = refl
mute_memory p q bytes (suc k) = search (mute_both, mute_block, mute_memory p q bytes k)

mute_links : (p : Pid) (a : Addresses) (q : Pid) (k : ℕ) (ls : List (Option PlainLink)) → Mute (tells_server p) (link_lines a q k ls)
mute_links p a q k [] = refl
mute_links p a q k (l ∷ ls) = mute_both (tells_server p) (slot_line a q k l) (link_lines a q (k + 1) ls) (grind (arith, nat_tests)) (mute_links p a q (k + 1) ls)

mute_state : (p : Pid) (a : Addresses) (q : Pid) (x : PlainProcess) → Mute (tells_server p) (state_lines a q x)
mute_state p a q x = search (mute_both, mute_memory, mute_links)

mute_alive : (p : Pid) (a : Addresses) (q : Pid) (x : PlainProcess) (o : Option Stood) → Mute (tells_server p) (alive_lines a q x o)
mute_alive p a q x None = refl
mute_alive p a q x (Some s) = mute_state p a q x

mute_life : (p : Pid) (pt : Point) (q : Pid) (l : Option Life) → Mute (tells_server p) (process_lines pt q l)
mute_life p pt q None = refl
mute_life p pt q (Some (Alive x)) = mute_alive p pt.addresses q x (stood pt.view q pt.kernel.machines)
mute_life p pt q (Some (Life.Ended because)) = refl

-- those of the other server, and its own
other_sent : (p q : Pid) (n : ℕ) (o : Option Stood) → pid_eq p q ≡ false → Mute (tells_server p) (sent_lines q n o)
other_sent p q n None off = ap (λ (c : Bool). if c then EndLine.Server q n ∷ [] else []) off
other_sent p q n (Some s) off =
    ap (λ (c : Bool). if c then EndLine.Server q n ∷ filter (tells_server p) (place_line q s) else filter (tells_server p) (place_line q s)) off
    ∙ by (is_moved s)
  where
    by : (c : Bool) → Mute (tells_server p) (if c then EndLine.Place q s.at s.standing ∷ [] else [])
    by true = ap (λ (d : Bool). if d then EndLine.Place q s.at s.standing ∷ [] else []) off
    by false = refl

own_sent : (p : Pid) (n : ℕ) (s : Stood) → filter (tells_server p) (sent_lines p n (Some s)) ≡ EndLine.Server p n ∷ place_line p s
own_sent p n s =
    ap (λ (c : Bool). if c then EndLine.Server p n ∷ filter (tells_server p) (place_line p s) else filter (tells_server p) (place_line p s)) (pid_eq-same p)
    ∙ ap (λ (ls : List EndLine). EndLine.Server p n ∷ ls) (by (is_moved s))
  where
    by : (c : Bool) → filter (tells_server p) (if c then EndLine.Place p s.at s.standing ∷ [] else []) ≡ (if c then EndLine.Place p s.at s.standing ∷ [] else [])
    by true = ap (λ (d : Bool). if d then EndLine.Place p s.at s.standing ∷ [] else []) (pid_eq-same p)
    by false = refl

-- all lines at the end
abbrev both_sent : Point → List EndLine
both_sent pt = sent_lines switchboard pt.kernel.switchboard.sent (stood pt.view switchboard pt.kernel.machines) ++ sent_lines manager pt.kernel.manager.sent (stood pt.view manager pt.kernel.machines)

end_by : (p : Pid) (pt : Point) (ls : List EndLine) → filter (tells_server p) (both_sent pt) ≡ ls → filter (tells_server p) (end_lines pt) ≡ ls
end_by p pt ls h =
    let f = tells_server p in
    let mute_queue : (p : Pid) (v : View) (q : Pid) (o : Option Stood) → Mute (tells_server p) (queue_at v q o) = λ p v q o. grind (arith, nat_tests, mute_list) in
    let mute_queues : Mute f (queue_lines pt) = search (mute_homes, mute_queue) in
    let mute_streams : Mute f (stream_lines pt) = search (mute_machines, mute_list) in
    let mute_holding : Mute f (holding_lines pt) = search (mute_machines, mute_both, mute_homes, mute_list) in
    let mute_inboxes : Mute f (inbox_lines pt) = mute_machines f (λ m. list_line (EndLine.Inbox m) (pt.view.inbox m)) pt.kernel.machines (λ m. mute_list f (EndLine.Inbox m) (pt.view.inbox m) (λ is. refl)) in
    let mute_lives : Mute f (EndLine.Final ∷ each_process pt (λ q. process_lines pt q (pt.kernel.processes q))) = mute_homes f pt (λ q. process_lines pt q (pt.kernel.processes q)) pt.kernel.machines (λ q. mute_life p pt q (pt.kernel.processes q)) in
    let named = both_sent pt ++ name_lines pt.addresses 0 pt.kernel.switchboard.names in
    let counted = named ++ child_lines pt.addresses 1 pt.kernel.manager.children in
    let first : filter f (server_lines pt) ≡ ls = one_first f counted (pending_lines pt.kernel.manager.pending) ls (one_first f named (child_lines pt.addresses 1 pt.kernel.manager.children) ls
    (one_first f (both_sent pt) (name_lines pt.addresses 0 pt.kernel.switchboard.names) ls h (mute_names p pt.addresses 0 pt.kernel.switchboard.names)) (mute_children p pt.addresses 1 pt.kernel.manager.children)) (mute_pending p pt.kernel.manager.pending) in
    let lives = EndLine.Final ∷ each_process pt (λ q. process_lines pt q (pt.kernel.processes q)) in
    let servers = lives ++ server_lines pt in
    let queues = servers ++ queue_lines pt in
    let holding = queues ++ holding_lines pt in
    let inboxes = holding ++ inbox_lines pt in
    let streams = inboxes ++ stream_lines pt in
    one_first f streams (EndLine.Groups pt.view.groups ∷ []) ls
    (one_first f inboxes (stream_lines pt) ls (one_first f holding (inbox_lines pt) ls (one_first f queues (holding_lines pt) ls (one_first f servers (queue_lines pt) ls (one_last f lives (server_lines pt) ls mute_lives first) mute_queues) mute_holding) mute_inboxes) mute_streams) refl

-- of one server
said_of : (pt : Point) (p : Pid) → InPhases pt.view → (at : Placed pt p) → filter (tells_server p) (both_sent pt) ≡ EndLine.Server p (server_sent pt.kernel p) ∷ place_line p at.at → IsServerSaid pt p (filter (tells_server p) (end_lines pt))
said_of pt p h at own =
    let turned : (c : Bool) → (if not c then EndLine.Place p at.at.at at.at.standing ∷ [] else []) ≡ (if c then [] else EndLine.Place p at.at.at at.at.standing ∷ []) = λ c. grind (arith, nat_tests) in
    let placed_ : place_line p at.at ≡ lines_of_place pt p at.at = ap (λ (c : Bool). if c then EndLine.Place p at.at.at at.at.standing ∷ [] else []) (found_there pt p at.at h at.place) ∙ turned (is_here (pt.view.known 0 p)) in
    record {
      stood = at.at;
      place = at.place;
      lines = end_by p pt (EndLine.Server p (server_sent pt.kernel p) ∷ place_line p at.at) own ∙ ap (λ (ls : List EndLine). EndLine.Server p (server_sent pt.kernel p) ∷ ls) placed_;
    }

board_said : (pt : Point) → InPhases pt.view → Placed pt switchboard → IsServerSaid pt switchboard (filter (tells_server switchboard) (end_lines pt))
board_said pt h at =
    let n = pt.kernel.switchboard.sent in
    let mine = sent_lines switchboard n (stood pt.view switchboard pt.kernel.machines) in
    let others = sent_lines manager pt.kernel.manager.sent (stood pt.view manager pt.kernel.machines) in
    let own = ap (λ (o : Option Stood). filter (tells_server switchboard) (sent_lines switchboard n o)) at.is ∙ own_sent switchboard n at.at in
    said_of pt switchboard h at
    (one_first (tells_server switchboard) mine others (EndLine.Server switchboard n ∷ place_line switchboard at.at) own (other_sent switchboard manager pt.kernel.manager.sent (stood pt.view manager pt.kernel.machines) refl))

manager_said : (pt : Point) → InPhases pt.view → Placed pt manager → IsServerSaid pt manager (filter (tells_server manager) (end_lines pt))
manager_said pt h at =
    let n = pt.kernel.manager.sent in
    let others = sent_lines switchboard pt.kernel.switchboard.sent (stood pt.view switchboard pt.kernel.machines) in
    let mine = sent_lines manager n (stood pt.view manager pt.kernel.machines) in
    let own = ap (λ (o : Option Stood). filter (tells_server manager) (sent_lines manager n o)) at.is ∙ own_sent manager n at.at in
    said_of pt manager h at
    (one_last (tells_server manager) others mine (EndLine.Server manager n ∷ place_line manager at.at) (other_sent manager switchboard pt.kernel.switchboard.sent (stood pt.view switchboard pt.kernel.machines) refl) own)

-- wherever the rule leads
pub servers_are_said : ServersAreSaid
servers_are_said b es pt p valid leads server = by (pid_eq p switchboard) (pid_eq p manager) refl refl server
  where
    run : Run b pt
    run = (run_always b es pt valid leads).run

    at : (q : Pid) → p ≡ q → Placed pt q
    at q same = server_placed b pt q run (ap is_server (sym same) ∙ server)

    of : Pid → Type 0
    of q = IsServerSaid pt q (filter (tells_server q) (end_lines pt))

    by : (c d : Bool) → pid_eq p switchboard ≡ c → pid_eq p manager ≡ d → (c || d) ≡ true → of p
    by true d is other e = let same = pid_eq-is p switchboard is in subst of (sym same) (board_said pt run.based.phased.phases (at switchboard same))
    by false true off is e = let same = pid_eq-is p manager is in subst of (sym same) (manager_said pt run.based.phased.phases (at manager same))
    by false false off none e = absurd (false≢true e)
