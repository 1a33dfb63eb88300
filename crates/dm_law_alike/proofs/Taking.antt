-- What the servers do with twin messages.
use Rattle.dm_law_one.proofs.Names.{◌≡◌, ℕ, ◌+◌, ◌*◌, ◌==◌, ◌&&◌, Bool, true, false, refl, ap, ◌∙◌, sym, subst, nat_lt, ⊤, if◌then◌else◌, List, [], ◌∷◌, ◌++◌, length, slice_get, Option, None, Some, Pid, pid_of, pid_eq, MsgId, option_map_or, PlainLink, PlainMessage, PlainWhat}
use Rattle.dm_law_one.proofs.Names.{Manager, Switchboard, Pending, PendingKind, OneKernel, with_sent, without_message, switchboard, manager, code_of_outcome, bind}
use Rattle.dm_law_one.proofs.Facts.{none_some}
use Rattle.dm_law_one.proofs.Steps.{bind-is}
use Rattle.dm_onekernel.specs.Manager as manage
use Rattle.dm_onekernel.specs.Service as service
use Rattle.dm_onekernel.specs.Switchboard as board
use Rattle.dm_law_alike.specs.Alike.{Renaming, KeepsOrder, GoOn, Stands, under, TwinPending, Twins}
use Rattle.dm_law_alike.proofs.Numbers.{some_same, own_stands, goes_further, goes_here}
use Rattle.dm_law_alike.proofs.Ways.{twin_out, twin_put, twin_board, twin_manager, TwinManager}
use Rattle.dm_law_alike.proofs.Serving.{KernelTwin, kernel_twin, numbers_eq}

-- what a server sends there, and here
abbrev pub TwinAnswer : Renaming → Option PlainMessage → Option PlainMessage → Type 0
TwinAnswer r None None = ⊤
TwinAnswer r (Some m) (Some n) = Stands r m.id n.id × (n ≡ under n.id m)
TwinAnswer r _ _ = ⊥

twin_sent : (r : Renaming) (s t : OneKernel) (a b : Option PlainMessage) → KeepsOrder r → TwinAnswer r a b → Twins r s t → Twins r (with_sent s a) (with_sent t b)
twin_sent r s t None None keeps h twins = twins
twin_sent r s t (Some m) (Some n) keeps h twins = subst (λ (v : PlainMessage). Twins r (with_sent s (Some m)) (with_sent t (Some v))) (sym h.1) (twin_put r s t m n.id keeps h.0 twins)
twin_sent r s t None (Some n) keeps h twins = absurd h
twin_sent r s t (Some m) None keeps h twins = absurd h

-- the switchboard
pub record TookBoard (r : Renaming) (a b : board.BoardTook) : Type 0 where
  pub names : b.switchboard.names ≡ a.switchboard.names
  pub sent : GoOn (r switchboard) a.switchboard.sent b.switchboard.sent
  pub answer : TwinAnswer r a.answer b.answer

board_request : (r : Renaming) (b : Switchboard) (k : ℕ) (body : List ℕ) (links : List PlainLink) → GoOn (r switchboard) b.sent k → TookBoard r (board.takes_request b body links) (board.takes_request (record b { sent = k }) body links)
board_request r b k body [] h = record { names = refl; sent = h; answer = tt }
board_request r b k body (l ∷ others) h = record { names = refl; sent = goes_further (r switchboard) b.sent k h; answer = (own_stands r switchboard b.sent k h, refl) }

pub record BoardTwin (r : Renaming) (a : board.BoardTook) (o : Option board.BoardTook) : Type 0 where
  pub took : board.BoardTook
  pub is : o ≡ Some took
  pub twin : TookBoard r a took

board_twin : (r : Renaming) (b : Switchboard) (k : ℕ) (m : PlainMessage) (j : MsgId) (w : PlainWhat) (a : board.BoardTook) → GoOn (r switchboard) b.sent k → board.board_takes b m w ≡ Some a
    → BoardTwin r a (board.board_takes (record b { sent = k }) (under j m) w)
board_twin r b k m j (PlainWhat.User code channel body links) a h e =
    record {
      took = board.takes_request (record b { sent = k }) body links;
      is = refl;
      twin = subst (λ v. TookBoard r v (board.takes_request (record b { sent = k }) body links)) (some_same (board.takes_request b body links) a e) (board_request r b k body links h);
    }
board_twin r b k m j _ a h e = none_some a e

-- the manager
pub record TookManager (r : Renaming) (a b : manage.ManagerTook) : Type 0 where
  pub manager : TwinManager r a.manager b.manager
  pub message : TwinAnswer r a.message b.message

-- the manager there
abbrev pub as_manager : Manager → List Pending → ℕ → Manager
as_manager g ps k = record g { pending = ps; sent = k }

over_twin : (r : Renaming) (g : Manager) (ps : List Pending) (k : ℕ) (l : Option PlainLink) (code : ℕ) (links : List PlainLink) → TwinManager r g (as_manager g ps k)
    → TookManager r (manage.answers_over g l code links) (manage.answers_over (as_manager g ps k) l code links)
over_twin r g ps k None code links h = record { manager = h; message = tt }
over_twin r g ps k (Some l) code links h =
    record { manager = record { children = refl; pending = h.pending; sent = goes_further (r manager) g.sent k h.sent }; message = (own_stands r manager g.sent k h.sent, refl) }

bad_twin : (r : Renaming) (g : Manager) (ps : List Pending) (k : ℕ) (links : List PlainLink) → TwinManager r g (as_manager g ps k) → TookManager r (manage.bad_request g links) (manage.bad_request (as_manager g ps k) links)
bad_twin r g ps k links h = over_twin r g ps k (slice_get links 0) 2 [] h

tells_twin : (r : Renaming) (g : Manager) (ps : List Pending) (k : ℕ) (to : Pid) (w : PlainWhat) → TwinManager r g (as_manager g ps k) → TookManager r (manage.tells g to w) (manage.tells (as_manager g ps k) to w)
tells_twin r g ps k to w h = record { manager = record { children = refl; pending = h.pending; sent = goes_further (r manager) g.sent k h.sent }; message = (own_stands r manager g.sent k h.sent, refl) }

pending_more : (f : ℕ → Option ℕ) (xs ys : List Pending) (x y : Pending) → TwinPending f xs ys → f x.n ≡ Some y.n → y.kind ≡ x.kind → y.answer ≡ x.answer → TwinPending f (xs ++ x ∷ []) (ys ++ y ∷ [])
pending_more f [] [] x y h n kind answer = (n, kind, answer, tt)
pending_more f (a ∷ xs) (b ∷ ys) x y h n kind answer = (h.0, h.1, h.2, pending_more f xs ys x y h.3 n kind answer)
pending_more f [] (b ∷ ys) x y h n kind answer = absurd h
pending_more f (a ∷ xs) [] x y h n kind answer = absurd h

request_twin : (r : Renaming) (g : Manager) (ps : List Pending) (k : ℕ) (kind : PendingKind) (to : Pid) (w : PlainWhat) (answer : Option PlainLink) → TwinManager r g (as_manager g ps k)
    → TookManager r (manage.sends_request g kind to w answer) (manage.sends_request (as_manager g ps k) kind to w answer)
request_twin r g ps k kind to w answer h =
    record {
      manager = record {
        children = refl;
        pending = pending_more (r manager) g.pending ps (record { n = g.sent; kind = kind; answer = answer }) (record { n = k; kind = kind; answer = answer }) h.pending (goes_here (r manager) g.sent k h.sent) refl refl;
        sent = goes_further (r manager) g.sent k h.sent;
      };
      message = (own_stands r manager g.sent k h.sent, refl);
    }

took_if : (r : Renaming) (b : Bool) (c d e g : manage.ManagerTook) → TookManager r c e → TookManager r d g → TookManager r (if b then c else d) (if b then e else g)
took_if r true c d e g h k = h
took_if r false c d e g h k = k

child_twin : (r : Renaming) (g : Manager) (ps : List Pending) (k machines images machine image : ℕ) (links : List PlainLink) → TwinManager r g (as_manager g ps k)
    → TookManager r (manage.wants_child g machines images machine image links) (manage.wants_child (as_manager g ps k) machines images machine image links)
child_twin r g ps k machines images machine image [] h = bad_twin r g ps k [] h
child_twin r g ps k machines images machine image (l ∷ ls) h =
    took_if r (nat_lt machine machines && nat_lt image images) (manage.asks_for g machine image l ls) (manage.bad_request g (l ∷ ls)) (manage.asks_for (as_manager g ps k) machine image l ls) (manage.bad_request (as_manager g ps k) (l ∷ ls))
    (request_twin r g ps k PendingKind.Create (pid_of machine 0) (PlainWhat.Create image ls) (Some l) h) (bad_twin r g ps k (l ∷ ls) h)

requests_twin : (r : Renaming) (g : Manager) (ps : List Pending) (k machines images : ℕ) (body : List ℕ) (links : List PlainLink) → TwinManager r g (as_manager g ps k)
    → TookManager r (manage.requests_child g machines images body links) (manage.requests_child (as_manager g ps k) machines images body links)
requests_twin r g ps k machines images (operation ∷ machine ∷ high ∷ low ∷ []) links h =
    took_if r (operation == 1) (manage.wants_child g machines images machine (256 * high + low) links) (manage.bad_request g links)
    (manage.wants_child (as_manager g ps k) machines images machine (256 * high + low) links) (manage.bad_request (as_manager g ps k) links)
    (child_twin r g ps k machines images machine (256 * high + low) links h) (bad_twin r g ps k links h)
requests_twin r g ps k machines images _ links h = bad_twin r g ps k links h

control_twin : (r : Renaming) (g : Manager) (ps : List Pending) (k : ℕ) (child : Pid) (o : Option PlainWhat) (links : List PlainLink) → TwinManager r g (as_manager g ps k)
    → TookManager r (option_map_or (manage.tells g child) o (manage.bad_request g links)) (option_map_or (manage.tells (as_manager g ps k) child) o (manage.bad_request (as_manager g ps k) links))
control_twin r g ps k child None links h = bad_twin r g ps k links h
control_twin r g ps k child (Some w) links h = tells_twin r g ps k child w h

controls_twin : (r : Renaming) (g : Manager) (ps : List Pending) (k machines : ℕ) (child : Option Pid) (body : List ℕ) (links : List PlainLink) → TwinManager r g (as_manager g ps k)
    → TookManager r (manage.controls g machines child body links) (manage.controls (as_manager g ps k) machines child body links)
controls_twin r g ps k machines (Some child) (operation ∷ []) links h = control_twin r g ps k child (manage.control_of operation) links h
controls_twin r g ps k machines (Some child) (operation ∷ machine ∷ []) links h =
    took_if r (operation == 5) (manage.moves_child g machines child machine links) (manage.bad_request g links) (manage.moves_child (as_manager g ps k) machines child machine links) (manage.bad_request (as_manager g ps k) links)
    (took_if r (nat_lt machine machines) (manage.sends_request g PendingKind.Move child (PlainWhat.Move machine) (slice_get links 0)) (manage.bad_request g links)
    (manage.sends_request (as_manager g ps k) PendingKind.Move child (PlainWhat.Move machine) (slice_get links 0)) (manage.bad_request (as_manager g ps k) links)
    (request_twin r g ps k PendingKind.Move child (PlainWhat.Move machine) (slice_get links 0) h) (bad_twin r g ps k links h))
    (bad_twin r g ps k links h)
controls_twin r g ps k machines _ body links h = bad_twin r g ps k links h

user_twin : (r : Renaming) (g : Manager) (ps : List Pending) (k machines images code : ℕ) (body : List ℕ) (links : List PlainLink) → TwinManager r g (as_manager g ps k)
    → TookManager r (manage.takes_user g machines images code body links) (manage.takes_user (as_manager g ps k) machines images code body links)
user_twin r g ps k machines images code body links h =
    took_if r (code == 0) (manage.requests_child g machines images body links) (manage.controls g machines (manage.child_numbered g.children code) body links)
    (manage.requests_child (as_manager g ps k) machines images body links) (manage.controls (as_manager g ps k) machines (manage.child_numbered g.children code) body links)
    (requests_twin r g ps k machines images body links h) (controls_twin r g ps k machines (manage.child_numbered g.children code) body links h)

-- the request that a number stands for
abbrev pub TwinFound : Option Pending → Option Pending → Type 0
TwinFound None None = ⊤
TwinFound (Some x) (Some y) = y.answer ≡ x.answer
TwinFound _ _ = ⊥

found_if : (b c : Bool) (x y : Pending) (o u : Option Pending) → c ≡ b → y.answer ≡ x.answer → TwinFound o u → TwinFound (if b then Some x else o) (if c then Some y else u)
found_if true true x y o u e h k = h
found_if false false x y o u e h k = k
found_if true false x y o u e h k = absurd (cc)
found_if false true x y o u e h k = absurd (cc)

found_twin : (r : Renaming) (p : Pid) (n a : ℕ) (xs ys : List Pending) → KeepsOrder r → r p n ≡ Some a → TwinPending (r p) xs ys → TwinFound (manage.pending_numbered n xs) (manage.pending_numbered a ys)
found_twin r p n a [] [] keeps is h = tt
found_twin r p n a (x ∷ xs) (y ∷ ys) keeps is h =
    found_if (x.n == n) (y.n == a) x y (manage.pending_numbered n xs) (manage.pending_numbered a ys) (numbers_eq r p x.n n y.n a keeps h.0 is) h.2 (found_twin r p n a xs ys keeps is h.3)
found_twin r p n a [] (y ∷ ys) keeps is h = absurd h
found_twin r p n a (x ∷ xs) [] keeps is h = absurd h

without_if : (f : ℕ → Option ℕ) (b c : Bool) (xs ys us vs : List Pending) → c ≡ b → TwinPending f xs ys → TwinPending f us vs → TwinPending f (if b then xs else us) (if c then ys else vs)
without_if f true true xs ys us vs e h k = h
without_if f false false xs ys us vs e h k = k
without_if f true false xs ys us vs e h k = absurd (cc)
without_if f false true xs ys us vs e h k = absurd (cc)

without_twin : (r : Renaming) (p : Pid) (n a : ℕ) (xs ys : List Pending) → KeepsOrder r → r p n ≡ Some a → TwinPending (r p) xs ys → TwinPending (r p) (manage.without_pending n xs) (manage.without_pending a ys)
without_twin r p n a [] [] keeps is h = tt
without_twin r p n a (x ∷ xs) (y ∷ ys) keeps is h =
    without_if (r p) (x.n == n) (y.n == a) xs ys (x ∷ manage.without_pending n xs) (y ∷ manage.without_pending a ys) (numbers_eq r p x.n n y.n a keeps h.0 is) h.3 (h.0, h.1, h.2, without_twin r p n a xs ys keeps is h.3)
without_twin r p n a [] (y ∷ ys) keeps is h = absurd h
without_twin r p n a (x ∷ xs) [] keeps is h = absurd h

pub record ManagerTwin (r : Renaming) (a : manage.ManagerTook) (o : Option manage.ManagerTook) : Type 0 where
  pub took : manage.ManagerTook
  pub is : o ≡ Some took
  pub twin : TookManager r a took

answer_found : (r : Renaming) (g : Manager) (ps : List Pending) (k n a : ℕ) (children : List Pid) (code : ℕ) (links : List PlainLink) (o u : Option Pending) (t : manage.ManagerTook) → KeepsOrder r → r manager n ≡ Some a → TwinManager r g (as_manager g ps k)
    → TwinFound o u → manage.takes_answer g n children code links o ≡ Some t → ManagerTwin r t (manage.takes_answer (as_manager g ps k) a children code links u)
answer_found r g ps k n a children code links (Some x) (Some y) t keeps is h found e =
    let here : Manager = record g { children = children; pending = manage.without_pending n g.pending } in
    let there : Manager = record g { children = children; pending = manage.without_pending a ps; sent = k } in
    let twin : TookManager r (manage.answers_over here x.answer code links) (manage.answers_over there x.answer code links) =
    over_twin r here (manage.without_pending a ps) k x.answer code links (record { children = refl; pending = without_twin r manager n a g.pending ps keeps is h.pending; sent = h.sent }) in
    record {
      took = manage.answers_over there y.answer code links;
      is = refl;
      twin = subst (λ v. TookManager r v (manage.answers_over there y.answer code links)) (some_same (manage.answers_over here x.answer code links) t e)
          (subst (λ v. TookManager r (manage.answers_over here x.answer code links) (manage.answers_over there v code links)) (sym found) twin);
    }
answer_found r g ps k n a children code links None u t keeps is h found e = none_some t e
answer_found r g ps k n a children code links (Some x) None t keeps is h found e = absurd found

-- the kinds that answer a request of the manager's
abbrev pub is_told : PlainWhat → Bool
is_told (PlainWhat.Created child) = true
is_told PlainWhat.NoRoom = true
is_told (PlainWhat.Moved outcome) = true
is_told w = false

manager_by : (r : Renaming) (g : Manager) (ps : List Pending) (k machines images : ℕ) (m : PlainMessage) (j : MsgId) (w : PlainWhat) (t : manage.ManagerTook) → KeepsOrder r → TwinManager r g (as_manager g ps k) → (is_told w ≡ true → r manager m.id.n ≡ Some j.n)
    → manage.manager_takes g machines images m w ≡ Some t → ManagerTwin r t (manage.manager_takes (as_manager g ps k) machines images (under j m) w)
manager_by r g ps k machines images m j (PlainWhat.User code channel body links) t keeps h own e =
    record {
      took = manage.takes_user (as_manager g ps k) machines images code body links;
      is = refl;
      twin = subst (λ v. TookManager r v (manage.takes_user (as_manager g ps k) machines images code body links)) (some_same (manage.takes_user g machines images code body links) t e) (user_twin r g ps k machines images code body links h);
    }
manager_by r g ps k machines images m j (PlainWhat.Created child) t keeps h own e =
    answer_found r g ps k m.id.n j.n (g.children ++ child ∷ []) 0 (manage.control_link (length g.children + 1) ∷ []) (manage.pending_numbered m.id.n g.pending) (manage.pending_numbered j.n ps) t keeps (own refl) h
    (found_twin r manager m.id.n j.n g.pending ps keeps (own refl) h.pending) e
manager_by r g ps k machines images m j PlainWhat.NoRoom t keeps h own e =
    answer_found r g ps k m.id.n j.n g.children 1 [] (manage.pending_numbered m.id.n g.pending) (manage.pending_numbered j.n ps) t keeps (own refl) h (found_twin r manager m.id.n j.n g.pending ps keeps (own refl) h.pending) e
manager_by r g ps k machines images m j (PlainWhat.Moved outcome) t keeps h own e =
    answer_found r g ps k m.id.n j.n g.children (code_of_outcome outcome) [] (manage.pending_numbered m.id.n g.pending) (manage.pending_numbered j.n ps) t keeps (own refl) h (found_twin r manager m.id.n j.n g.pending ps keeps (own refl) h.pending) e
manager_by r g ps k machines images m j _ t keeps h own e = none_some t e

-- took: a message and its twin
board_row : (r : Renaming) (s t : OneKernel) (id j : MsgId) (m : PlainMessage) (u : OneKernel) → KeepsOrder r → Twins r s t → Stands r id j
    → bind (board.board_takes s.switchboard m m.what) (λ k. Some (service.switchboard_took s id k)) ≡ Some u → KernelTwin r u (bind (board.board_takes t.switchboard (under j m) m.what) (λ k. Some (service.switchboard_took t j k)))
board_row r s t id j m u keeps h st e =
    let (a, takes, last) = bind-is (board.board_takes s.switchboard m m.what) (λ k. Some (service.switchboard_took s id k)) u e in
    let there : t.switchboard ≡ record s.switchboard { sent = t.switchboard.sent } = λ i. record { names = h.names i; sent = t.switchboard.sent } in
    let b = board_twin r s.switchboard t.switchboard.sent m j m.what a h.board takes in
    let is : board.board_takes t.switchboard (under j m) m.what ≡ Some b.took = ap (λ v. board.board_takes v (under j m) m.what) there ∙ b.is in
    subst (λ o. KernelTwin r u (bind o (λ k. Some (service.switchboard_took t j k)))) (sym is)
    (kernel_twin r (service.switchboard_took s id a) u (service.switchboard_took t j b.took)
    (twin_sent r (record (without_message s id) { switchboard = a.switchboard }) (record (without_message t j) { switchboard = b.took.switchboard }) a.answer b.took.answer keeps b.twin.answer
    (twin_board r (without_message s id) (without_message t j) a.switchboard b.took.switchboard b.twin.names b.twin.sent (twin_out r s t id j keeps st h))) last)

manager_row : (r : Renaming) (s t : OneKernel) (id j : MsgId) (m : PlainMessage) (u : OneKernel) → KeepsOrder r → Twins r s t → Stands r id j → m.id ≡ id → (is_told m.what ≡ true → id.from ≡ manager)
    → bind (manage.manager_takes s.manager s.machines (length s.images) m m.what) (λ k. Some (service.manager_took s id k)) ≡ Some u
    → KernelTwin r u (bind (manage.manager_takes t.manager t.machines (length t.images) (under j m) m.what) (λ k. Some (service.manager_took t j k)))
manager_row r s t id j m u keeps h st name told e =
    let (a, takes, last) = bind-is (manage.manager_takes s.manager s.machines (length s.images) m m.what) (λ k. Some (service.manager_took s id k)) u e in
    let there : t.manager ≡ as_manager s.manager t.manager.pending t.manager.sent = λ i. record { children = h.children i; pending = t.manager.pending; sent = t.manager.sent } in
    let own : is_told m.what ≡ true → r manager m.id.n ≡ Some j.n = λ k. ap (λ p. r p m.id.n) (sym (told k)) ∙ ap (λ (v : MsgId). r id.from v.n) name ∙ st.n in
    let b = manager_by r s.manager t.manager.pending t.manager.sent s.machines (length s.images) m j m.what a keeps (record { children = refl; pending = h.pending; sent = h.manager }) own takes in
    let is : manage.manager_takes t.manager t.machines (length t.images) (under j m) m.what ≡ Some b.took =
    ap (λ v. manage.manager_takes v t.machines (length t.images) (under j m) m.what) there
    ∙ ap (λ v. manage.manager_takes (as_manager s.manager t.manager.pending t.manager.sent) v (length t.images) (under j m) m.what) h.machines
    ∙ ap (λ v. manage.manager_takes (as_manager s.manager t.manager.pending t.manager.sent) s.machines (length v) (under j m) m.what) h.images ∙ b.is in
    subst (λ o. KernelTwin r u (bind o (λ k. Some (service.manager_took t j k)))) (sym is)
    (kernel_twin r (service.manager_took s id a) u (service.manager_took t j b.took)
    (twin_sent r (record (without_message s id) { manager = a.manager }) (record (without_message t j) { manager = b.took.manager }) a.message b.took.message keeps b.twin.message
    (twin_manager r (without_message s id) (without_message t j) a.manager b.took.manager b.twin.manager (twin_out r s t id j keeps st h))) last)

takes_if : (r : Renaming) (u : OneKernel) (b c : Bool) (x y v w : Option OneKernel) → (x ≡ Some u → KernelTwin r u v) → (y ≡ Some u → KernelTwin r u w) → (if b then x else if c then y else None) ≡ Some u → KernelTwin r u (if b then v else if c then w else None)
takes_if r u true c x y v w h k e = h e
takes_if r u false true x y v w h k e = k e
takes_if r u false false x y v w h k e = none_some u e

-- a message for a server
pub twin_takes : (r : Renaming) (s t : OneKernel) (id j : MsgId) (m : PlainMessage) (u : OneKernel) → KeepsOrder r → Twins r s t → Stands r id j → m.id ≡ id → (is_told m.what ≡ true → id.from ≡ manager) → service.takes s id m ≡ Some u
    → KernelTwin r u (service.takes t j (under j m))
twin_takes r s t id j m u keeps h st name told e =
    takes_if r u (pid_eq m.to switchboard) (pid_eq m.to manager) (bind (board.board_takes s.switchboard m m.what) (λ k. Some (service.switchboard_took s id k)))
    (bind (manage.manager_takes s.manager s.machines (length s.images) m m.what) (λ k. Some (service.manager_took s id k)))
    (bind (board.board_takes t.switchboard (under j m) m.what) (λ k. Some (service.switchboard_took t j k)))
    (bind (manage.manager_takes t.manager t.machines (length t.images) (under j m) m.what) (λ k. Some (service.manager_took t j k))) (board_row r s t id j m u keeps h st) (manager_row r s t id j m u keeps h st name told) e
