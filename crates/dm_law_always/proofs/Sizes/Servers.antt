-- How large a server becomes by a message, and how large it is as a run begins.
use Rattle.dm_law_always.proofs.Names.{◌≡◌, ◌⊎◌, ℕ, zero, suc, ◌+◌, ◌*◌, ◌≤◌, ◌<◌, ◌==◌, ◌||◌, Bool, true, false, List, [], ◌∷◌, ◌++◌, length, refl, ap, ◌∙◌, sym, subst, inl, inr, arith, nat_tests, nat_le, if◌then◌else◌, slice_get, Option, none_some}
use Rattle.dm_law_always.proofs.Names.{None, Some, cases_Bool, false≢true, option_map_or, bind, bind-is, Pid, pid_eq, pid_eq-is, pid_eq-same, PlainLink, MsgId, Label, PlainMessage, PlainWhat, NamedLink, Pending, PendingKind, Manager, Switchboard, OneKernel}
use Rattle.dm_law_always.proofs.Names.{with_sent, without_message, switchboard, manager, is_server, by_step, Boot, BootProcess, IsValid, starting_at, processes_are_valid, start, names_size, requests_size, board_size, manager_size, length-append, length-map, code_of_outcome, pid_of}
use Rattle.dm_onekernel.specs.Boot.{is_general, machines_are_valid}
use Rattle.dm_onekernel.specs.declared.boot.BootMachine.{BootMachine}
use Rattle.dm_line.specs.Each.{sum_below}
use Rattle.dm_onekernel.specs.Switchboard as board
use Rattle.dm_onekernel.specs.Manager as manage
use Rattle.dm_onekernel.specs.Service as service
use Rattle.dm_onekernel.specs.Step as kernel
use Rattle.dm_law_always.specs.Sizes.{server_size}
use Rattle.dm_law_always.proofs.Fits.Rises.{both}
use Rattle.dm_law_always.proofs.Takes.{by_manager}

-- which server it is
which : (p : Pid) → is_server p ≡ true → (pid_eq p switchboard ≡ true) ⊎ ((pid_eq p switchboard ≡ false) × (pid_eq p manager ≡ true))
which p server = by (pid_eq p switchboard) refl
  where
    by : (c : Bool) → pid_eq p switchboard ≡ c → (pid_eq p switchboard ≡ true) ⊎ ((pid_eq p switchboard ≡ false) × (pid_eq p manager ≡ true))
    by true e = inl e
    by false e = inr (e, sym (ap (λ (c : Bool). c || pid_eq p manager) e) ∙ server)

size_board : (s : OneKernel) (p : Pid) → pid_eq p switchboard ≡ true → server_size s p ≡ board_size s.switchboard
size_board s p e = search arith

size_manager : (s : OneKernel) (p : Pid) → pid_eq p switchboard ≡ false → pid_eq p manager ≡ true → server_size s p ≡ manager_size s.manager
size_manager s p e f = search arith

-- servers that stay
pub record SameServers (s t : OneKernel) : Type 0 where
  pub board : t.switchboard ≡ s.switchboard
  pub manager_ : t.manager ≡ s.manager

pub same_size : (s t : OneKernel) (p : Pid) → is_server p ≡ true → SameServers s t → server_size t p ≡ server_size s p
same_size s t p server same = elim (which p server) [
  | inl e ↦ size_board t p e ∙ ap (λ (b : Switchboard). board_size b) same.board ∙ sym (size_board s p e)
  | inr e ↦ size_manager t p e.0 e.1 ∙ ap (λ (g : Manager). manager_size g) same.manager_ ∙ sym (size_manager s p e.0 e.1)
]

-- only what they take changes servers
abbrev pub is_took : Label → Bool
is_took (Label.Took id) = true
is_took l = false

sent_same : (u : OneKernel) (o : Option PlainMessage) → SameServers u (with_sent u o)
sent_same u None = record { board = refl; manager_ = refl }
sent_same u (Some m) = record { board = refl; manager_ = refl }

stays : (s u : OneKernel) → u.switchboard ≡ s.switchboard → u.manager ≡ s.manager → SameServers s u
stays s u e f = record { board = e; manager_ = f }

pub step_servers : (s t : OneKernel) (l : Label) → is_took l ≡ false → kernel.step s l ≡ Some t → SameServers s t
step_servers s t l = λ off is. by_step (λ u. is_took l ≡ false → SameServers s u) s t l (record {
  ran = λ p k x m same w off. stays s _ refl refl;
  replies = λ p n k c d y same w off. stays s _ refl refl;
  sends = λ p id k m y same this w off. stays s _ refl refl;
  waits = λ p k y same w off. stays s _ refl refl;
  outputs = λ p w k v y same n off. stays s _ refl refl;
  ends = λ p y next same w off. stays s _ refl refl;
  receives = λ p id y same w c off. stays s _ refl refl;
  refuses = λ p id c d y same w e off. stays s _ refl refl;
  dropped = λ id m y same w e off. stays s _ refl refl;
  gone = λ id m y same w v e off. stays s _ refl refl;
  stops = λ id m x b same w mild off. stays s _ refl refl;
  kills = λ id m x same w kill off. stays s _ refl refl;
  reads = λ id m x base len same w e off. stays s _ refl refl;
  writes = λ id m x base bytes same w e off. stays s _ refl refl;
  lands = λ id m x r y same w mild c off. stays s _ refl refl;
  done = λ id m x c y same w mild f off. stays s _ refl refl;
  board = λ id m k same there c took off. absurd (false≢true (sym off ∙ ap is_took same));
  manager = λ id m k same there c took off. absurd (false≢true (sym off ∙ ap is_took same));
  creates = λ id child m image links i same w found name off. stays s _ refl refl;
  no_room = λ id a b m image links same w off. stays s _ refl refl;
  asked = λ id m x machine same w e off. stays s _ refl refl;
  answered = λ id o p n same f off. stays s _ refl refl;
}) is off

-- the switchboard: one name more
names-append : (xs ys : List NamedLink) → names_size (xs ++ ys) ≡ names_size xs + names_size ys
names-append [] ys = omega arith
names-append (x ∷ xs) ys = let h = names-append xs ys in omega (arith, h)

name_short : (name : List ℕ) → board.is_name name ≡ true → length name ≤ 16
name_short name e = let f = (both (nat_le 1 (length name)) (nat_le (length name) 16) e).1 in grind (arith, nat_tests)

new_grows : (names : List NamedLink) (name : List ℕ) (l : PlainLink) (o : Option PlainLink) → length name ≤ 16 → names_size (board.registers_new names name l o).names ≤ names_size names + 41
new_grows names name l None short = let h = names-append names (record { name = name; link = l } ∷ []) in omega (arith, h, short)
new_grows names name l (Some taken) short = omega arith

name_grows : (names : List NamedLink) (name : List ℕ) (l : PlainLink) (c : Bool) → length name ≤ 16 → names_size (if c then board.registers_new names name l (board.link_named name names) else record { names = names; answer = board.BadLink }).names ≤ names_size names + 41
name_grows names name l true short = new_grows names name l (board.link_named name names) short
name_grows names name l false short = omega arith

register_by : (names : List NamedLink) (name : List ℕ) (l : PlainLink) (c : Bool) → board.is_name name ≡ c → names_size (if c then board.registers_name names name l else board.board_bad_request names).names ≤ names_size names + 41
register_by names name l true e = name_grows names name l (is_general l.kind) (name_short name e)
register_by names name l false e = omega arith

register_grows : (names : List NamedLink) (name : List ℕ) (links : List PlainLink) → names_size (board.asks_to_register names name links).names ≤ names_size names + 41
register_grows names name (l ∷ []) = register_by names name l (board.is_name name) refl
register_grows names name _ = omega arith

look_grows : (names : List NamedLink) (name : List ℕ) (links : List PlainLink) → names_size (board.asks_to_look_up names name links).names ≤ names_size names + 41
look_grows names name [] = by (board.is_name name)
  where
    by : (c : Bool) → names_size (if c then board.looks_up names name else board.board_bad_request names).names ≤ names_size names + 41
    by true = omega arith
    by false = omega arith
look_grows names name (l ∷ ls) = omega arith

asks_by : (names : List NamedLink) (name : List ℕ) (links : List PlainLink) (c d : Bool) → names_size (if c then board.asks_to_register names name links else if d then board.asks_to_look_up names name links else board.board_bad_request names).names ≤ names_size names + 41
asks_by names name links true d = register_grows names name links
asks_by names name links false true = look_grows names name links
asks_by names name links false false = omega arith

asks_grows : (names : List NamedLink) (body : List ℕ) (links : List PlainLink) → names_size (board.asks names body links).names ≤ names_size names + 41
asks_grows names [] links = omega arith
asks_grows names (operation ∷ name) links = asks_by names name links (operation == 1) (operation == 2)

request_grows : (b : Switchboard) (body : List ℕ) (links : List PlainLink) → board_size (board.takes_request b body links).switchboard ≤ board_size b + 41
request_grows b body [] = omega arith
request_grows b body (l ∷ ls) = let h = asks_grows b.names body ls in omega (arith, h)

board_grows : (b : Switchboard) (m : PlainMessage) (w : PlainWhat) (k : board.BoardTook) → board.board_takes b m w ≡ Some k → board_size k.switchboard ≤ board_size b + 41
board_grows b m (PlainWhat.User code channel body links) k e =
    let f : board.takes_request b body links ≡ k = cc in
    subst (λ (x : board.BoardTook). board_size x.switchboard ≤ board_size b + 41) f (request_grows b body links)
board_grows b m _ k e = none_some k e

-- the manager: one request more, or one child in place of one
requests-append : (xs ys : List Pending) → requests_size (xs ++ ys) ≡ requests_size xs + requests_size ys
requests-append [] ys = omega arith
requests-append (x ∷ xs) ys = let h = requests-append xs ys in omega (arith, h)

answer_size : (o : Option PlainLink) → option_map_or (λ (l : PlainLink). 24) o 0 ≤ 24
answer_size None = omega arith
answer_size (Some l) = omega arith

without_less : (n : ℕ) (rs : List Pending) → requests_size (manage.without_pending n rs) ≤ requests_size rs
without_less n [] = omega arith
without_less n (r ∷ rs) = by (r.n == n) (without_less n rs)
  where
    by : (c : Bool) → requests_size (manage.without_pending n rs) ≤ requests_size rs → requests_size (if c then rs else r ∷ manage.without_pending n rs) ≤ requests_size (r ∷ rs)
    by true h = omega arith
    by false h = omega (arith, h)

asked_grows : (g : Manager) (kind : PendingKind) (to : Pid) (w : PlainWhat) (answer : Option PlainLink) → manager_size (manage.sends_request g kind to w answer).manager ≤ manager_size g + 41
asked_grows g kind to w answer =
    let h = requests-append g.pending (record { n = g.sent; kind = kind; answer = answer } ∷ []) in
    let a = answer_size answer in
    omega (arith, h, a)

over_grows : (g : Manager) (o : Option PlainLink) (code : ℕ) (links : List PlainLink) → manager_size (manage.answers_over g o code links).manager ≡ manager_size g
over_grows g None code links = refl
over_grows g (Some l) code links = refl

manager_grows : (g : Manager) (machines images : ℕ) (m : PlainMessage) (w : PlainWhat) (k : manage.ManagerTook) → manage.manager_takes g machines images m w ≡ Some k → manager_size k.manager ≤ manager_size g + 41
manager_grows g machines images m w k = by_manager (λ x. manager_size x.manager ≤ manager_size g + 41) g machines images m w k (record {
  ignores = omega arith;
  refuses = λ l ls u. omega arith;
  asks = λ machine image l ls u e. asked_grows g PendingKind.Create (pid_of machine 0) (PlainWhat.Create image ls) (Some l);
  moves = λ code child machine links u is e. asked_grows g PendingKind.Move child (PlainWhat.Move machine) (slice_get links 0);
  tells = λ code child v is by. omega arith;
  created = λ child r is found. (
      let h = without_less m.id.n g.pending in
      let more = length-append g.children (child ∷ []) in
      let over = over_grows (record g { children = g.children ++ child ∷ []; pending = manage.without_pending m.id.n g.pending }) r.answer 0 (manage.control_link (length g.children + 1) ∷ []) in
      omega (arith, h, more, over)
      );
  no_room = λ r is found. (
      let h = without_less m.id.n g.pending in
      let over = over_grows (record g { pending = manage.without_pending m.id.n g.pending }) r.answer 1 [] in
      omega (arith, h, over)
      );
  moved = λ outcome r is found. (
      let h = without_less m.id.n g.pending in
      let over = over_grows (record g { pending = manage.without_pending m.id.n g.pending }) r.answer (code_of_outcome outcome) [] in
      omega (arith, h, over)
      );
})

-- what a message adds, at its receiver
abbrev pub Grows : OneKernel → OneKernel → MsgId → Pid → Type 0
Grows s t id p = (m : PlainMessage) × (s.bag id ≡ Some m) × (server_size t p ≤ server_size s p + (if pid_eq m.to p then 41 else 0))

to_it : (p q r : Pid) → pid_eq q r ≡ true → pid_eq p r ≡ true → pid_eq q p ≡ true
to_it p q r e f = ap (λ (x : Pid). pid_eq x p) (pid_eq-is q r e ∙ sym (pid_eq-is p r f)) ∙ pid_eq-same p

takes_grows : (s t : OneKernel) (id : MsgId) (m : PlainMessage) (p : Pid) (c d : Bool) → is_server p ≡ true → pid_eq m.to switchboard ≡ c → pid_eq m.to manager ≡ d
    → (if c then bind (board.board_takes s.switchboard m m.what) (λ (k : board.BoardTook). Some (service.switchboard_took s id k))
    else if d then bind (manage.manager_takes s.manager s.machines (length s.images) m m.what) (λ (k : manage.ManagerTook). Some (service.manager_took s id k))
    else None) ≡ Some t
    → server_size t p ≤ server_size s p + (if pid_eq m.to p then 41 else 0)
takes_grows s t id m p true d server one two e =
    let (k, took, last) = bind-is (board.board_takes s.switchboard m m.what) (λ (k : board.BoardTook). Some (service.switchboard_took s id k)) t e in
    let f : service.switchboard_took s id k ≡ t = cc in
    let u : OneKernel = record (without_message s id) { switchboard = k.switchboard } in
    let same = sent_same u k.answer in
    subst (λ (x : OneKernel). server_size x p ≤ server_size s p + (if pid_eq m.to p then 41 else 0)) f
    (elim (which p server) [
      | inl is ↦
          let now = size_board (with_sent u k.answer) p is ∙ ap (λ (b : Switchboard). board_size b) same.board in
          let old = size_board s p is in
          let more = board_grows s.switchboard m m.what k took in
          let all = ap {B = ℕ} (λ (c : Bool). if c then 41 else 0) (to_it p m.to switchboard one is) in
          omega (arith, now, old, more, all)
      | inr is ↦
          let now = size_manager (with_sent u k.answer) p is.0 is.1 ∙ ap (λ (g : Manager). manager_size g) same.manager_ in
          let old = size_manager s p is.0 is.1 in
          omega (arith, now, old)
    ])
takes_grows s t id m p false true server one two e =
    let (k, took, last) = bind-is (manage.manager_takes s.manager s.machines (length s.images) m m.what) (λ (k : manage.ManagerTook). Some (service.manager_took s id k)) t e in
    let f : service.manager_took s id k ≡ t = cc in
    let u : OneKernel = record (without_message s id) { manager = k.manager } in
    let same = sent_same u k.message in
    subst (λ (x : OneKernel). server_size x p ≤ server_size s p + (if pid_eq m.to p then 41 else 0)) f
    (elim (which p server) [
      | inl is ↦
          let now = size_board (with_sent u k.message) p is ∙ ap (λ (b : Switchboard). board_size b) same.board in
          let old = size_board s p is in
          omega (arith, now, old)
      | inr is ↦
          let now = size_manager (with_sent u k.message) p is.0 is.1 ∙ ap (λ (g : Manager). manager_size g) same.manager_ in
          let old = size_manager s p is.0 is.1 in
          let more = manager_grows s.manager s.machines (length s.images) m m.what k took in
          let all = ap {B = ℕ} (λ (c : Bool). if c then 41 else 0) (to_it p m.to manager two is.1) in
          omega (arith, now, old, more, all)
    ])
takes_grows s t id m p false false server one two e = none_some t e

pub took_grows : (s t : OneKernel) (id : MsgId) (p : Pid) → is_server p ≡ true → kernel.step s (Label.Took id) ≡ Some t → Grows s t id p
took_grows s t id p server is =
    let (m, there, rest) = bind-is (s.bag id) (service.takes s id) t is in
    (m, there, takes_grows s t id m p (pid_eq m.to switchboard) (pid_eq m.to manager) server refl refl rest)

-- as a run begins there are at most 64 processes on each of 16 machines
pub sum_both : (f g : ℕ → ℕ) (n : ℕ) → sum_below (λ m. f m + g m) n ≡ sum_below f n + sum_below g n
sum_both f g zero = refl
sum_both f g (suc n) = let h = sum_both f g n in omega (arith, h)

sum_one : (a n : ℕ) → a < n → 1 ≤ sum_below (λ m. if a == m then 1 else 0) n
sum_one a zero lt = absurd (omega (arith, lt))
sum_one a (suc n) lt = elim (cases_Bool (a == n)) [
  | inl same ↦ let e = ap {B = ℕ} (λ (c : Bool). if c then 1 else 0) same in omega (arith, e)
  | inr off ↦
      let lower : a < n = grind (arith, nat_tests) in
      let h = sum_one a n lower in omega (arith, h)
]

sum_up : (f : ℕ → ℕ) (n : ℕ) → ((m : ℕ) → m < n → f m ≤ 64) → sum_below f n ≤ n * 64
sum_up f zero less = omega arith
sum_up f (suc n) less =
    let h = sum_up f n (λ m lt. less m (omega (arith, lt))) in
    let last = less n (omega arith) in
    omega (arith, h, last)

homes_sum : (b : Boot) (earlier ps : List BootProcess) → processes_are_valid b earlier ps ≡ true → length ps ≤ sum_below (λ m. starting_at m ps) (length b.machines)
homes_sum b earlier [] valid = omega arith
homes_sum b earlier (p ∷ ps) valid =
    let home : p.pid.home < length b.machines = grind (arith, nat_tests) in
    let rest : processes_are_valid b (earlier ++ p ∷ []) ps ≡ true = grind (arith, nat_tests) in
    let h = homes_sum b (earlier ++ p ∷ []) ps rest in
    let one = sum_one p.pid.home (length b.machines) home in
    let sum = sum_both (λ m. if p.pid.home == m then 1 else 0) (λ m. starting_at m ps) (length b.machines) in
    omega (arith, h, one, sum)

machine_at : (b : Boot) (k : ℕ) (rs : List BootMachine) (j : ℕ) → machines_are_valid b k rs ≡ true → j < length rs → starting_at (k + j) b.processes ≤ 64
machine_at b k [] j valid lt = absurd (omega (arith, lt))
machine_at b k (r ∷ rs) zero valid lt =
    let e : k + 0 ≡ k = omega arith in
    let few : starting_at k b.processes ≤ 64 = grind (arith, nat_tests) in
    subst (λ (m : ℕ). starting_at m b.processes ≤ 64) (sym e) few
machine_at b k (r ∷ rs) (suc j) valid lt =
    let rest : machines_are_valid b (k + 1) rs ≡ true = grind (arith, nat_tests) in
    let h = machine_at b (k + 1) rs j rest (omega (arith, lt)) in
    let e : (k + 1) + j ≡ k + suc j = omega arith in
    subst (λ (m : ℕ). starting_at m b.processes ≤ 64) e h

pub few_processes : (b : Boot) → IsValid b → length b.processes ≤ 1024
few_processes b valid =
    let homes = homes_sum b [] b.processes valid.processes in
    let up = sum_up (λ m. starting_at m b.processes) (length b.machines) (λ m lt. (let e : 0 + m ≡ m = omega arith in subst (λ (k : ℕ). starting_at k b.processes ≤ 64) e (machine_at b 0 b.machines m valid.machines lt))) in
    let few : length b.machines ≤ 16 = (let e = valid.few_machines in grind (arith, nat_tests)) in
    omega (arith, homes, up, few)

pub start_size : (b : Boot) (p : Pid) → IsValid b → is_server p ≡ true → server_size (start b) p ≤ 536870912
start_size b p valid server = elim (which p server) [
  | inl is ↦ let e = size_board (start b) p is in omega (arith, e)
  | inr is ↦
      let e = size_manager (start b) p is.0 is.1 in
      let few = few_processes b valid in
      let long = length-map b.processes (λ (x : BootProcess). x.pid) in
      omega (arith, e, few, long)
]
