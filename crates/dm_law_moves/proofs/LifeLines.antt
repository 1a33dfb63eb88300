-- The end lines say of each process once whether it lives.
use Rattle.dm_law_moves.proofs.Names.{◌≡◌, ◌≢◌, ◌⊎◌, ℕ, zero, suc, ◌+◌, ◌<◌, ◌≤◌, ◌==◌, ◌||◌, Bool, true, false, is_some, nat_le, List, [], ◌∷◌, ◌++◌, refl, ap, ◌∙◌, sym, subst, inl, inr, arith, if◌then◌else◌, Option, None, Some, cases_Bool}
use Rattle.dm_law_moves.proofs.Names.{nat_tests, Pid, pid_of, pid_eq, PlainLink, MsgId, Boot, first_number, switchboard, manager, PlainProcess, Life, Alive, NamedLink, Pending, pid_eq-is, pid_eq-same, EndLine}
use Rattle.dm_law_moves.proofs.Names.{block_line, memory_lines, home_with, list_line, Addresses, Stood, standing_of, first_with, stood, doing_of, slot_line, link_lines, state_lines, alive_lines, process_lines, homes_with}
use Rattle.dm_law_moves.proofs.Names.{each_process, name_lines, child_lines, pending_lines, queue_at, queue_lines, holding_lines, inbox_lines, stream_lines, server_lines, end_lines, Point, View, is_server, Run, run_always, tells_life}
use Rattle.dm_law_moves.proofs.Names.{life_lines, IsSaid, LivesAreSaid, not, ◌&&◌, false≢true, MessageKind, Standing, or, Phase, Nowhere, Rests, Over, Moves, IsIn, knows, is_here, is_restart, is_early, Known, stands_by, IsPlace, awaits}
use Rattle.dm_law_moves.proofs.Names.{living_phase, is_gone, or_first}
use Rattle.dm_law_moves.proofs.Names.{sent_lines}
use Rattle.dm_law_moves.proofs.EndLines.{Mute, mute_both, mute_homes, mute_machines, mute_list, one_first, one_last}
use Rattle.dm_law_moves.proofs.Stages.Spares.{restart_late, restart_goes}
use Rattle.dm_law_rule.specs.Phases as phases

-- the first of so many machines that is looked for
pub record Finds (f : Known → Option Standing) (v : View) (p : Pid) (n : ℕ) : Type 0 where
  pub at : Stood
  pub is : first_with f v p n ≡ Some at
  pub within : at.at < n
  pub stands : f (v.known at.at p) ≡ Some at.standing

-- or there is none
pub record FindsNone (f : Known → Option Standing) (v : View) (p : Pid) (n : ℕ) : Type 0 where
  pub is : first_with f v p n ≡ None
  pub none : (m : ℕ) → m < n → f (v.known m p) ≡ None

pub first_or : (f : Known → Option Standing) (v : View) (p : Pid) (n : ℕ) → Finds f v p n ⊎ FindsNone f v p n
first_or f v p zero = inr (record { is = refl; none = λ m less. absurd (omega (arith, less)) })
first_or f v p (suc n) = grind (arith, nat_tests, first_or f v p n)

-- a process that stands on some machine is found
pub record Placed (pt : Point) (p : Pid) : Type 0 where
  pub at : Stood
  pub is : stood pt.view p pt.kernel.machines ≡ Some at
  pub place : IsPlace pt p at

-- a process is where it is found
pub placed : (pt : Point) (p : Pid) (m : ℕ) (x : Standing) → m < pt.kernel.machines → stands_by (pt.view.known m p) ≡ Some x → Placed pt p
placed pt p m x less some =
    let awaits_stands : (k : Known) (x : Standing) → awaits k ≡ Some x → stands_by k ≡ Some x = λ k x e. grind (arith, nat_tests) in
    let n = pt.kernel.machines in
    elim (first_or standing_of pt.view p n) [
      | inl found ↦ record {
        at = found.at;
        is = ap (λ (y : Option Stood). or y (first_with awaits pt.view p n)) found.is;
        place = record { machine = found.within; stands = (let e_ : stands_by (pt.view.known found.at.at p) ≡ Some found.at.standing = grind (arith, nat_tests, found.stands) in e_) };
      }
      | inr none ↦ elim (first_or awaits pt.view p n) [
        | inl found ↦ (search (arith, pt.view, awaits_stands, pt.view.known))
        | inr nor ↦ absurd (grind (arith, nat_tests, (none.none m less), (nor.none m less)))
      ]
    ]

-- by its phase
pub record Somewhere (v : View) (p : Pid) : Type 0 where
  pub machine : ℕ
  pub standing : Standing
  pub stands : stands_by (v.known machine p) ≡ Some standing

rests_stands : (v : View) (p : Pid) (at : ℕ) → knows (Rests at) at (v.known at p) ≡ true → Somewhere v p
rests_stands v p at e =
    let here_stands : (k : Known) → is_here k ≡ true → stands_by k ≡ Some Standing.Here = λ k e. grind (arith, nat_tests) in
    let same : (at == at) ≡ true = grind (arith, nat_tests) in
    record { machine = at; standing = Standing.Here; stands = here_stands (v.known at p) (sym (ap (λ (c : Bool). if c then is_here (v.known at p) else phases.is_away (v.known at p)) same) ∙ e) }

-- a process that moves is frozen at its source, or comes to its destination
leaves_or : (k : MessageKind) (d : ℕ) (x : Known) → phases.kind_leaves k d x ≡ true → (stands_by x ≡ Some Standing.Leaving) ⊎ (is_restart k ≡ true)
leaves_or k d x h1 = search arith

comes_stands : (k : MessageKind) (s : ℕ) (x : Known) → is_early k ≡ false → phases.is_calloff k ≡ false → phases.kind_comes k s x ≡ true → stands_by x ≡ Some Standing.Arriving
comes_stands k s x late goes e = grind (arith, nat_tests)

moves_stands : (v : View) (p : Pid) (k : MessageKind) (s d : ℕ) (id : Option MsgId) → IsIn v p (Moves k s d id) → Somewhere v p
moves_stands v p k s d id h =
    let at_s : (s == s) ≡ true = grind (arith, nat_tests) in
    let source : phases.kind_leaves k d (v.known s p) ≡ true =
    sym (ap (λ (c : Bool). if c then phases.kind_leaves k d (v.known s p) else if d == s then phases.kind_comes k s (v.known s p) else phases.is_away (v.known s p)) at_s) ∙ h.known s in
    elim (leaves_or k d (v.known s p) source) [
      | inl leaving ↦ record { machine = s; standing = Standing.Leaving; stands = leaving }
      | inr restart ↦
          let apart : (s == d) ≡ false = other (phases.is_between k) (s == d) h.apart in
          let at_d : (d == d) ≡ true = grind (arith, nat_tests) in
          let destination : phases.kind_comes k s (v.known d p) ≡ true =
          sym (ap (λ (c : Bool). if c then phases.kind_leaves k d (v.known d p) else if d == d then phases.kind_comes k s (v.known d p) else phases.is_away (v.known d p)) apart
          ∙ ap (λ (c : Bool). if c then phases.kind_comes k s (v.known d p) else phases.is_away (v.known d p)) at_d) ∙ h.known d in
          record { machine = d; standing = Standing.Arriving; stands = comes_stands k s (v.known d p) (restart_late k restart) (restart_goes k restart) destination }
    ]
  where
    other : (a b : Bool) → (a && not b) ≡ true → b ≡ false
    other a false e = refl
    other true true e = absurd (false≢true e)
    other false true e = absurd (false≢true e)

-- a living process is in none of the other phases
pub somewhere : (v : View) (p : Pid) (phase : Phase) → IsIn v p phase → is_gone phase ≡ false → Somewhere v p
somewhere v p Nowhere h there = absurd (false≢true (sym there))
somewhere v p (Rests at) h there = rests_stands v p at (h.known at)
somewhere v p (Over at) h there = absurd (false≢true (sym there))
somewhere v p (Moves k s d id) h there = moves_stands v p k s d id h

pub alive_placed : (b : Boot) (pt : Point) (p : Pid) (x : PlainProcess) → Run b pt → pt.kernel.processes p ≡ Some (Alive x) → Placed pt p
alive_placed b pt p x run alive =
    let phases_ = run.based.phased.phases in
    let at = somewhere pt.view p (phases_.of p) (phases_.each p) (living_phase pt p x (phases_.of p) run.based.phased alive (phases_.each p)) in
    placed pt p at.machine at.standing (run.found.known_within at.machine p (λ e. let f : None ≡ Some at.standing = sym (ap stands_by e) ∙ at.stands in cc)) at.stands

-- all but the lines of processes
mute_names : (p : Pid) (a : Addresses) (n : ℕ) (ks : List NamedLink) → Mute (tells_life p) (name_lines a n ks)
mute_names p a n [] = refl
mute_names p a n (k ∷ ks) = mute_names p a (n + 1) ks

mute_children : (p : Pid) (a : Addresses) (n : ℕ) (qs : List Pid) → Mute (tells_life p) (child_lines a n qs)
mute_children p a n [] = refl
mute_children p a n (q ∷ qs) = mute_children p a (n + 1) qs

mute_pending : (p : Pid) (rs : List Pending) → Mute (tells_life p) (pending_lines rs)
mute_pending p [] = refl
mute_pending p (r ∷ rs) = mute_pending p rs

mute_memory : (p q : Pid) (bytes : List ℕ) (k : ℕ) → Mute (tells_life p) (memory_lines q bytes k)
mute_memory p q bytes zero = refl
mute_memory p q bytes (suc k) =
    -- the lines of a process, but for the first
    let mute_block : (p q : Pid) (k : ℕ) (bytes : List ℕ) → Mute (tells_life p) (block_line q k bytes) = λ p q k bytes. grind (arith, nat_tests) in
    search (mute_both, mute_block, mute_memory p q bytes k)

mute_links : (p : Pid) (a : Addresses) (q : Pid) (k : ℕ) (ls : List (Option PlainLink)) → Mute (tells_life p) (link_lines a q k ls)
mute_links p a q k [] = refl
mute_links p a q k (l ∷ ls) = mute_both (tells_life p) (slot_line a q k l) (link_lines a q (k + 1) ls) (grind (arith, nat_tests)) (mute_links p a q (k + 1) ls)

mute_state : (p : Pid) (a : Addresses) (q : Pid) (x : PlainProcess) → Mute (tells_life p) (state_lines a q x)
mute_state p a q x = search (mute_both, mute_memory, mute_links)

-- another process's lines say nothing of this one
other_alive : (p : Pid) (a : Addresses) (q : Pid) (x : PlainProcess) (o : Option Stood) → pid_eq p q ≡ false → Mute (tells_life p) (alive_lines a q x o)
other_alive p a q x None off = refl
other_alive p a q x (Some s) off =
    let l = EndLine.Process q s.at s.standing (doing_of x.status) x.stopped x.sent in
    ap (λ (c : Bool). if c then l ∷ life_lines p (state_lines a q x) else life_lines p (state_lines a q x)) off ∙ mute_state p a q x

other_life : (p : Pid) (pt : Point) (q : Pid) (l : Option Life) → pid_eq p q ≡ false → Mute (tells_life p) (process_lines pt q l)
other_life p pt q l off = grind (arith, nat_tests, other_alive)

-- this process's own lines
own_life : (b : Boot) (pt : Point) (p : Pid) (l : Option Life) → Run b pt → pt.kernel.processes p ≡ l → IsSaid pt p l (life_lines p (process_lines pt p l))
own_life b pt p None run is = refl
own_life b pt p (Some (Life.Ended because)) run is = ap (λ (c : Bool). if c then EndLine.Ended p because ∷ [] else []) (pid_eq-same p)
own_life b pt p (Some (Alive x)) run is =
    let at = alive_placed b pt p x run is in
    grind (arith, nat_tests, pid_eq-same, mute_state)

-- a process among those of a home, and of all homes
not_same : (p q : Pid) → (p ≡ q → ⊥) → pid_eq p q ≡ false
not_same p q h = grind (arith, nat_tests, pid_eq-is)

abbrev Others : Pid → (Pid → List EndLine) → Type 0
Others p f = (q : Pid) → pid_eq p q ≡ false → Mute (tells_life p) (f q)

-- past the last of a home, and in another home, it isn't
past_home : (p : Pid) (f : Pid → List EndLine) (home n : ℕ) → Others p f → (p.home ≢ home) ⊎ (first_number + n ≤ p.num) → Mute (tells_life p) (home_with f home n)
past_home p f home zero others off = refl
past_home p f home (suc n) others off =
    let q = pid_of home (first_number + n) in
    let apart : pid_eq p q ≡ false = not_same p q (λ e. elim off [
      | inl home_off ↦ home_off (ap (λ (x : Pid). x.home) e)
      | inr past ↦ (let num : p.num ≡ first_number + n = ap (λ (x : Pid). x.num) e in omega (arith, num, past))
    ]) in
    let before : (p.home ≢ home) ⊎ (first_number + n ≤ p.num) = elim off [
      | inl home_off ↦ inl home_off
      | inr past ↦ inr (omega (arith, past))
    ] in
    mute_both (tells_life p) (home_with f home n) (f q) (past_home p f home n others before) (others q apart)

among_home : (p : Pid) (f : Pid → List EndLine) (n : ℕ) → Others p f → first_number ≤ p.num → p.num < first_number + n → life_lines p (home_with f p.home n) ≡ life_lines p (f p)
among_home p f zero others least most = absurd (omega (arith, least, most))
among_home p f (suc n) others least most =
    let q = pid_of p.home (first_number + n) in
    elim (cases_Bool (p.num == first_number + n)) [
      | inl here ↦
          let num : p.num ≡ first_number + n = grind (arith, nat_tests) in
          let is : q ≡ p = λ i. record { home = p.home; num = sym num i } in
          one_last (tells_life p) (home_with f p.home n) (f q) (life_lines p (f p)) (past_home p f p.home n others (inr (omega (arith, num)))) (ap (λ (x : Pid). life_lines p (f x)) is)
      | inr off ↦
          let less : p.num < first_number + n = grind (arith, nat_tests) in
          let apart : pid_eq p q ≡ false = not_same p q (λ e. let num : p.num ≡ first_number + n = ap (λ (x : Pid). x.num) e in omega (arith, num, less)) in
          one_first (tells_life p) (home_with f p.home n) (f q) (life_lines p (f p)) (among_home p f n others least less) (others q apart)
    ]

past_homes : (p : Pid) (pt : Point) (f : Pid → List EndLine) (n : ℕ) → Others p f → n ≤ p.home → Mute (tells_life p) (homes_with pt f n)
past_homes p pt f zero others past = refl
past_homes p pt f (suc home) others past =
    mute_both (tells_life p) (homes_with pt f home) (home_with f home (pt.kernel.made home)) (past_homes p pt f home others (omega (arith, past))) (past_home p f home (pt.kernel.made home) others (inl (λ e. omega (arith, e, past))))

among_homes : (p : Pid) (pt : Point) (f : Pid → List EndLine) (n : ℕ) → Others p f → p.home < n → first_number ≤ p.num → p.num < first_number + pt.kernel.made p.home → life_lines p (homes_with pt f n) ≡ life_lines p (f p)
among_homes p pt f zero others home least most = absurd (omega (arith, home))
among_homes p pt f (suc n) others home least most = elim (cases_Bool (p.home == n)) [
  | inl here ↦
      let is : p.home ≡ n = grind (arith, nat_tests) in
      one_last (tells_life p) (homes_with pt f n) (home_with f n (pt.kernel.made n)) (life_lines p (f p)) (past_homes p pt f n others (omega (arith, is)))
      (ap (λ (x : ℕ). life_lines p (home_with f x (pt.kernel.made x))) (sym is) ∙ among_home p f (pt.kernel.made p.home) others least most)
  | inr off ↦
      let less : p.home < n = grind (arith, nat_tests) in
      let apart : p.home ≢ n = λ e. omega (arith, e, less) in
      one_first (tells_life p) (homes_with pt f n) (home_with f n (pt.kernel.made n)) (life_lines p (f p)) (among_homes p pt f n others less least most) (past_home p f n (pt.kernel.made n) others (inl apart))
]

-- all lines at the end
abbrev of_processes : Point → Pid → List EndLine
of_processes pt q = process_lines pt q (pt.kernel.processes q)

end_by : (p : Pid) (pt : Point) (ls : List EndLine) → life_lines p (each_process pt (of_processes pt)) ≡ ls → life_lines p (end_lines pt) ≡ ls
end_by p pt ls h =
    let mute_queues : (p : Pid) (pt : Point) → Mute (tells_life p) (queue_lines pt) =
    λ p pt. let mute_queue : (p : Pid) (v : View) (q : Pid) (o : Option Stood) → Mute (tells_life p) (queue_at v q o) = λ p v q o. grind (arith, nat_tests, mute_list) in search (mute_homes, mute_queue) in
    let lives = EndLine.Final ∷ each_process pt (of_processes pt) in
    let servers = lives ++ server_lines pt in
    let queues = servers ++ queue_lines pt in
    let holding = queues ++ holding_lines pt in
    let inboxes = holding ++ inbox_lines pt in
    let streams = inboxes ++ stream_lines pt in
    let mute_streams : Mute (tells_life p) (stream_lines pt) = search (mute_machines, mute_list) in
    let mute_holding : Mute (tells_life p) (holding_lines pt) = search (mute_machines, mute_both, mute_homes, mute_list) in
    let mute_sent : (p q : Pid) (n : ℕ) (o : Option Stood) → Mute (tells_life p) (sent_lines q n o) = λ p q n o. grind (arith, nat_tests) in
    let mute_servers : Mute (tells_life p) (server_lines pt) = search (mute_both, mute_sent, mute_names, mute_children, mute_pending) in
    let mute_inboxes : Mute (tells_life p) (inbox_lines pt) = mute_machines (tells_life p) (λ m. list_line (EndLine.Inbox m) (pt.view.inbox m)) pt.kernel.machines (λ m. mute_list (tells_life p) (EndLine.Inbox m) (pt.view.inbox m) (λ is. refl)) in
    one_first (tells_life p) streams (EndLine.Groups pt.view.groups ∷ []) ls
    (one_first (tells_life p) inboxes (stream_lines pt) ls
    (one_first (tells_life p) holding (inbox_lines pt) ls
    (one_first (tells_life p) queues (holding_lines pt) ls
    (one_first (tells_life p) servers (queue_lines pt) ls (one_first (tells_life p) lives (server_lines pt) ls h mute_servers) (mute_queues p pt)) mute_holding) mute_inboxes) mute_streams) refl

-- a process that was made is among those of its home
made_among : (b : Boot) (pt : Point) (p : Pid) → Run b pt → is_some (pt.kernel.processes p) ≡ true → life_lines p (each_process pt (of_processes pt)) ≡ life_lines p (of_processes pt p)
made_among b pt p run made =
    let sane = run.based.phased.sane in
    let least = sane.sound.made.least p made in
    let most = sane.sound.made.most p made in
    let server : is_server p ≡ false = no_server p least in
    let home = (run.kept.home p (or_first (is_server p) (is_some (pt.kernel.processes p)) made)).0 in
    among_homes p pt (of_processes pt) pt.kernel.machines (λ q off. other_life p pt q (pt.kernel.processes q) off) home (grind (arith, nat_tests)) (grind (arith, nat_tests))
  where
    no_server : (q : Pid) → nat_le 3 q.num ≡ true → is_server q ≡ false
    no_server q e =
        let a : pid_eq q switchboard ≡ false = grind (arith, nat_tests) in
        let c : pid_eq q manager ≡ false = grind (arith, nat_tests) in
        ap (λ (x : Bool). x || pid_eq q manager) a ∙ c

never_made : (p : Pid) (pt : Point) (n : ℕ) → pt.kernel.processes p ≡ None → Mute (tells_life p) (homes_with pt (of_processes pt) n)
never_made p pt n none = mute_homes (tells_life p) pt (of_processes pt) n (λ q. by q (pid_eq p q) refl)
  where
    by : (q : Pid) (c : Bool) → pid_eq p q ≡ c → Mute (tells_life p) (of_processes pt q)
    by q false off = other_life p pt q (pt.kernel.processes q) off
    by q true same = ap (λ (l : Option Life). life_lines p (process_lines pt q l)) (ap pt.kernel.processes (sym (pid_eq-is p q same)) ∙ none)

said_by : (b : Boot) (pt : Point) (p : Pid) (l : Option Life) → Run b pt → pt.kernel.processes p ≡ l → IsSaid pt p l (life_lines p (end_lines pt))
said_by b pt p None run is = end_by p pt [] (never_made p pt pt.kernel.machines is)
said_by b pt p (Some life) run is =
    let all : life_lines p (end_lines pt) ≡ life_lines p (process_lines pt p (Some life)) =
    end_by p pt (life_lines p (process_lines pt p (Some life))) (made_among b pt p run (ap is_some is) ∙ ap (λ (l : Option Life). life_lines p (process_lines pt p l)) is) in
    subst (IsSaid pt p (Some life)) (sym all) (own_life b pt p (Some life) run is)

-- wherever the rule leads
pub lives_are_said : LivesAreSaid
lives_are_said b es pt p valid leads = said_by b pt p (pt.kernel.processes p) (run_always b es pt valid leads).run refl
