-- Where nothing is on its way, the lines of the end say so.
use Rattle.dm_law_moves.proofs.Names.{◌≡◌, ℕ, zero, suc, ◌+◌, true, false, List, [], ◌∷◌, ◌++◌, take, drop, length, refl, sym, subst, ◌/◌, ◌*◌, All, Option, None, Some, false≢true, All-nil, All-cons, All-append, Pid, pid_of, PlainLink}
use Rattle.dm_law_moves.proofs.Names.{MsgId, id_of, first_number, manager, switchboard, PlainProcess, Life, Alive, NamedLink, Pending, EndLine, Standing, block_line, joined_below, home_with, list_line, memory_lines, trimmed, or, Addresses}
use Rattle.dm_law_moves.proofs.Names.{Child, Name, Slot, Stood, alive_lines, awaits, child_lines, doing_of, each_process, end_lines, first_with, holding_lines, homes_with, inbox_lines, leading, link_lines, name_lines, pending_lines}
use Rattle.dm_law_moves.proofs.Names.{process_lines, queue_at, queue_lines, server_lines, slot_line, state_lines, stood, stood_at, stream_lines, Point, untaken, Known, View, AtRest, is_moving, EndsAtRest, is_at_rest}
use Rattle.dm_law_moves.proofs.At.Always.{at_rest_always}
use Rattle.dm_law_moves.proofs.Names.{standing_of, Bool, Place, Why, if◌then◌else◌}
use Rattle.dm_law_moves.specs.Settles.Passes.{stands_here}
use Rattle.dm_law_rule.specs.Ends.{each_holder, is_moved, place_line, sent_lines}

-- no machine waits for a process, so each stands where it is
abbrev StandsHere : Option Stood → Type 0
StandsHere o = (s : Stood) → o ≡ Some s → stands_here s.standing ≡ true

had_here : (k : Known) (m : ℕ) → is_moving k ≡ false → StandsHere (stood_at m (standing_of k))
had_here Known.Here m e s is =
    let k : Stood = record { at = m; standing = Standing.Here } in
    let f : k ≡ s = cc in
    subst (λ (x : Stood). stands_here x.standing ≡ true) f refl
had_here (Known.Frozen to) m e s is = absurd (false≢true (sym e))
had_here _ m e s is = cc

awaited_here : (k : Known) (m : ℕ) → is_moving k ≡ false → StandsHere (stood_at m (awaits k))
awaited_here (Known.Incoming from) m e s is = absurd (false≢true (sym e))
awaited_here _ m e s is = cc

or_here : (x y : Option Stood) → StandsHere x → StandsHere y → StandsHere (or x y)
or_here None y h k s e = k s e
or_here (Some x) y h k s e = h s e

first_here : (f : Known → Option Standing) (v : View) (p : Pid) (n : ℕ) → ((m : ℕ) → StandsHere (stood_at m (f (v.known m p)))) → StandsHere (first_with f v p n)
first_here f v p zero h s e = cc
first_here f v p (suc n) h s e = or_here (first_with f v p n) (stood_at n (f (v.known n p))) (first_here f v p n h) (h n) s e

stood_here : (pt : Point) (p : Pid) → AtRest pt → StandsHere (stood pt.view p pt.kernel.machines)
stood_here pt p rest =
    or_here (first_with standing_of pt.view p pt.kernel.machines) (first_with awaits pt.view p pt.kernel.machines)
    (first_here standing_of pt.view p pt.kernel.machines (λ m. had_here (pt.view.known m p) m (rest.still m p)))
    (first_here awaits pt.view p pt.kernel.machines (λ m. awaited_here (pt.view.known m p) m (rest.still m p)))

-- what a line of each sort satisfies
pub record Holds (f : EndLine → Bool) (pt : Point) : Type 0 where
  pub final : f EndLine.Final ≡ true
  pub ended : (p : Pid) (y : Why) → f (EndLine.Ended p y) ≡ true
  pub process : (p : Pid) (x : PlainProcess) (s : Stood) → pt.kernel.processes p ≡ Some (Alive x) → stands_here s.standing ≡ true → f (EndLine.Process p s.at s.standing (doing_of x.status) x.stopped x.sent) ≡ true
  pub registers : (p : Pid) (x : PlainProcess) → f (EndLine.Registers p x.regs.r x.regs.pc) ≡ true
  pub memory : (p : Pid) (k : ℕ) (bytes : List ℕ) → f (EndLine.Memory p k (record { items = bytes })) ≡ true
  pub link : (p : Pid) (k : ℕ) (l : PlainLink) (place : Place) → f (EndLine.Link p k (leading l place)) ≡ true
  pub server : (p : Pid) (sent : ℕ) → f (EndLine.Server p sent) ≡ true
  pub place : (p : Pid) (s : Stood) → stands_here s.standing ≡ true → f (EndLine.Place p s.at s.standing) ≡ true
  pub name : (k : NamedLink) (place : Place) → f (EndLine.Name (record { items = k.name }) (leading k.link place)) ≡ true
  pub child : (n : ℕ) (p : Pid) (m : ℕ) → f (EndLine.Child n p m) ≡ true
  pub pending : All (λ (l : EndLine). f l ≡ true) (pending_lines pt.kernel.manager.pending)
  pub queue : (p : Pid) (is : List MsgId) → f (EndLine.Queue p is) ≡ true
  pub groups : (n : ℕ) → f (EndLine.Groups n) ≡ true

module _ (f : EndLine → Bool) (pt : Point) (h : Holds f pt) where
  abbrev Rests : EndLine → Type 0
  Rests l = f l ≡ true

  abbrev AllRest : List EndLine → Type 0
  AllRest ls = All Rests ls

  none : AllRest []
  none = All-nil Rests

  more : (l : EndLine) (ls : List EndLine) → Rests l → AllRest ls → AllRest (l ∷ ls)
  more l ls one others = All-cons Rests l ls one others

  both : (xs ys : List EndLine) → AllRest xs → AllRest ys → AllRest (xs ++ ys)
  both xs ys first second = All-append Rests xs ys first second

  machines_rest : (g : ℕ → List EndLine) (n : ℕ) → ((m : ℕ) → AllRest (g m)) → AllRest (joined_below g n)
  machines_rest g zero each = none
  machines_rest g (suc n) each = both (joined_below g n) (g n) (machines_rest g n each) (each n)

  home_rest : (g : Pid → List EndLine) (home n : ℕ) → ((p : Pid) → AllRest (g p)) → AllRest (home_with g home n)
  home_rest g home zero each = none
  home_rest g home (suc n) each = both (home_with g home n) (g (pid_of home (first_number + n))) (home_rest g home n each) (each (pid_of home (first_number + n)))

  homes_rest : (g : Pid → List EndLine) (n : ℕ) → ((p : Pid) → AllRest (g p)) → AllRest (homes_with pt g n)
  homes_rest g zero each = none
  homes_rest g (suc home) each = both (homes_with pt g home) (home_with g home (pt.kernel.made home)) (homes_rest g home each) (home_rest g home (pt.kernel.made home) each)

  -- and for the servers
  holders_rest : (g : Pid → List EndLine) → ((p : Pid) → AllRest (g p)) → AllRest (each_holder pt g)
  holders_rest g each = both (g switchboard ++ g manager) (each_process pt g) (both (g switchboard) (g manager) (each switchboard) (each manager)) (homes_rest g pt.kernel.machines each)

  -- a list that is empty has no line
  empty_rests : (g : List MsgId → EndLine) (is : List MsgId) → is ≡ [] → AllRest (list_line g is)
  empty_rests g is e = subst (λ (xs : List MsgId). AllRest (list_line g xs)) (sym e) none

  -- processes
  block_rests : (p : Pid) (k : ℕ) (xs : List ℕ) → AllRest (block_line p k xs)
  block_rests p k [] = none
  block_rests p k (x ∷ xs) = more (EndLine.Memory p k (record { items = x ∷ xs })) [] (h.memory p k (x ∷ xs)) none

  memory_rests : (p : Pid) (bytes : List ℕ) (n : ℕ) → AllRest (memory_lines p bytes n)
  memory_rests p bytes zero = none
  memory_rests p bytes (suc k) = both (memory_lines p bytes k) (block_line p k (trimmed (take 256 (drop (256 * k) bytes)))) (memory_rests p bytes k) (block_rests p k (trimmed (take 256 (drop (256 * k) bytes))))

  slot_rests : (a : Addresses) (p : Pid) (k : ℕ) (o : Option PlainLink) → AllRest (slot_line a p k o)
  slot_rests a p k None = none
  slot_rests a p k (Some l) = more (EndLine.Link p k (leading l (a (Slot p k)))) [] (h.link p k l (a (Slot p k))) none

  links_rest : (a : Addresses) (p : Pid) (k : ℕ) (ls : List (Option PlainLink)) → AllRest (link_lines a p k ls)
  links_rest a p k [] = none
  links_rest a p k (l ∷ ls) = both (slot_line a p k l) (link_lines a p (k + 1) ls) (slot_rests a p k l) (links_rest a p (k + 1) ls)

  state_rests : (a : Addresses) (p : Pid) (x : PlainProcess) → AllRest (state_lines a p x)
  state_rests a p x =
      let memory = memory_lines p x.memory (length x.memory / 256) in
      both (EndLine.Registers p x.regs.r x.regs.pc ∷ memory) (link_lines a p 0 x.links) (more (EndLine.Registers p x.regs.r x.regs.pc) memory (h.registers p x) (memory_rests p x.memory (length x.memory / 256))) (links_rest a p 0 x.links)

  alive_rests : (a : Addresses) (p : Pid) (x : PlainProcess) (o : Option Stood) → pt.kernel.processes p ≡ Some (Alive x) → StandsHere o → AllRest (alive_lines a p x o)
  alive_rests a p x None alive here = none
  alive_rests a p x (Some s) alive here = more (EndLine.Process p s.at s.standing (doing_of x.status) x.stopped x.sent) (state_lines a p x) (h.process p x s alive (here s refl)) (state_rests a p x)

  process_rests : (p : Pid) (o : Option Life) → pt.kernel.processes p ≡ o → AtRest pt → AllRest (process_lines pt p o)
  process_rests p None e rest = none
  process_rests p (Some (Alive x)) e rest = alive_rests pt.addresses p x (stood pt.view p pt.kernel.machines) e (stood_here pt p rest)
  process_rests p (Some (Life.Ended because)) e rest = more (EndLine.Ended p because) [] (h.ended p because) none

  -- servers
  names_rest : (a : Addresses) (n : ℕ) (ks : List NamedLink) → AllRest (name_lines a n ks)
  names_rest a n [] = none
  names_rest a n (k ∷ ks) = more (EndLine.Name (record { items = k.name }) (leading k.link (a (Name n)))) (name_lines a (n + 1) ks) (h.name k (a (Name n))) (names_rest a (n + 1) ks)

  children_rest : (a : Addresses) (n : ℕ) (ps : List Pid) → AllRest (child_lines a n ps)
  children_rest a n [] = none
  children_rest a n (p ∷ ps) = more (EndLine.Child n p (a (Child n)).at) (child_lines a (n + 1) ps) (h.child n p (a (Child n)).at) (children_rest a (n + 1) ps)

  if_rests : (c : Bool) (ls : List EndLine) → AllRest ls → AllRest (if c then ls else [])
  if_rests true ls all = all
  if_rests false ls all = none

  place_rests : (p : Pid) (s : Stood) → stands_here s.standing ≡ true → AllRest (place_line p s)
  place_rests p s here = if_rests (is_moved s) (EndLine.Place p s.at s.standing ∷ []) (more (EndLine.Place p s.at s.standing) [] (h.place p s here) none)

  sent_rests : (p : Pid) (sent : ℕ) (o : Option Stood) → StandsHere o → AllRest (sent_lines p sent o)
  sent_rests p sent None here = more (EndLine.Server p sent) [] (h.server p sent) none
  sent_rests p sent (Some s) here = more (EndLine.Server p sent) (place_line p s) (h.server p sent) (place_rests p s (here s refl))

  server_rest : AtRest pt → AllRest (server_lines pt)
  server_rest rest =
      let names = name_lines pt.addresses 0 pt.kernel.switchboard.names in
      let children = child_lines pt.addresses 1 pt.kernel.manager.children in
      let pending = pending_lines pt.kernel.manager.pending in
      let board = stood pt.view switchboard pt.kernel.machines in
      let manages = stood pt.view manager pt.kernel.machines in
      let first = sent_lines switchboard pt.kernel.switchboard.sent board in
      let second = sent_lines manager pt.kernel.manager.sent manages in
      both (first ++ second ++ names ++ children) pending
      (both (first ++ second ++ names) children
      (both (first ++ second) names (both first second (sent_rests switchboard pt.kernel.switchboard.sent board (stood_here pt switchboard rest)) (sent_rests manager pt.kernel.manager.sent manages (stood_here pt manager rest))) (names_rest pt.addresses 0 pt.kernel.switchboard.names))
      (children_rest pt.addresses 1 pt.kernel.manager.children))
      h.pending

  -- queues
  list_rests : (g : List MsgId → EndLine) (is : List MsgId) → ((js : List MsgId) → Rests (g js)) → AllRest (list_line g is)
  list_rests g [] each = none
  list_rests g (i ∷ is) each = more (g (i ∷ is)) [] (each (i ∷ is)) none

  queue_rests : (v : View) (p : Pid) (o : Option Stood) → AllRest (queue_at v p o)
  queue_rests v p None = none
  queue_rests v p (Some s) = list_rests (EndLine.Queue p) (v.queue s.at p) (h.queue p)

  pub ends_hold : AtRest pt → AllRest (end_lines pt)
  ends_hold rest =
      let n = pt.kernel.machines in
      let processes = each_process pt (λ p. process_lines pt p (pt.kernel.processes p)) in
      let groups = EndLine.Groups pt.view.groups ∷ [] in
      let servers = server_lines pt in
      let queues = queue_lines pt in
      let held = holding_lines pt in
      let inboxes = inbox_lines pt in
      let streams = stream_lines pt in
      let start = EndLine.Final ∷ processes in
      both (start ++ servers ++ queues ++ held ++ inboxes ++ streams) groups
      (both (start ++ servers ++ queues ++ held ++ inboxes) streams
      (both (start ++ servers ++ queues ++ held) inboxes
      (both (start ++ servers ++ queues) held
      (both (start ++ servers) queues
      (both start servers
      (more EndLine.Final processes h.final (homes_rest (λ p. process_lines pt p (pt.kernel.processes p)) n (λ p. process_rests p (pt.kernel.processes p) refl rest)))
      (server_rest rest))
      (homes_rest (λ p. queue_at pt.view p (first_with standing_of pt.view p n)) n (λ p. queue_rests pt.view p (first_with standing_of pt.view p n))))
      (machines_rest (λ m. each_holder pt (λ p. list_line (EndLine.Holding m p) (pt.view.held m p))) n (λ m. holders_rest (λ p. list_line (EndLine.Holding m p) (pt.view.held m p)) (λ p. empty_rests (EndLine.Holding m p) (pt.view.held m p) (rest.held m p)))))
      (machines_rest (λ m. list_line (EndLine.Inbox m) (pt.view.inbox m)) n (λ m. empty_rests (EndLine.Inbox m) (pt.view.inbox m) (rest.inbox m))))
      (machines_rest (λ a. joined_below (λ c. list_line (EndLine.Stream a c) (untaken (pt.view.pair a c))) n) n
      (λ a. machines_rest (λ c. list_line (EndLine.Stream a c) (untaken (pt.view.pair a c))) n (λ c. empty_rests (EndLine.Stream a c) (untaken (pt.view.pair a c)) (rest.untaken a c)))))
      (more (EndLine.Groups pt.view.groups) [] (h.groups pt.view.groups) none)

-- nothing is on its way
pending_rest : (rs : List Pending) → All (λ (l : EndLine). is_at_rest l ≡ true) (pending_lines rs)
pending_rest [] = All-nil (λ (l : EndLine). is_at_rest l ≡ true)
pending_rest (r ∷ rs) = All-cons (λ (l : EndLine). is_at_rest l ≡ true) (EndLine.Pending (id_of manager r.n)) (pending_lines rs) refl (pending_rest rs)

all_hold : (pt : Point) → Holds is_at_rest pt
all_hold pt = record {
  final = refl;
  ended = λ p y. refl;
  process = λ p x s alive here. here;
  registers = λ p x. refl;
  memory = λ p k bytes. refl;
  link = λ p k l place. refl;
  server = λ p sent. refl;
  place = λ p s here. here;
  name = λ k place. refl;
  child = λ n p m. refl;
  pending = pending_rest pt.kernel.manager.pending;
  queue = λ p is. refl;
  groups = λ n. refl;
}

pub ends_at_rest : EndsAtRest
ends_at_rest b es pt valid leads quiet = ends_hold is_at_rest pt (all_hold pt) (at_rest_always b es pt valid leads quiet)
