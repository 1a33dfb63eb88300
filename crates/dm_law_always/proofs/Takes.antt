-- What the manager does with a message, row by row: whatever holds where each row leads holds of what it does.
use Rattle.dm_law_always.proofs.Names.{◌≡◌, ℕ, ◌+◌, ◌*◌, ◌==◌, ◌&&◌, Bool, true, false, List, [], ◌∷◌, ◌++◌, length, refl, subst, nat_lt, if◌then◌else◌, Option, None, Some, Pid, PlainLink, PlainMessage, PlainWhat, Pending, Manager, Outcome}
use Rattle.dm_law_always.proofs.Names.{PendingKind, code_of_outcome, arith, option_map_or, slice_get, none_some}
use Rattle.dm_onekernel.specs.Manager as manage

-- a user message with these links
pub record Letter (w : PlainWhat) (links : List PlainLink) : Type 0 where
  pub code : ℕ
  pub channel : ℕ
  pub body : List ℕ
  pub is : w ≡ PlainWhat.User code channel body links

-- it sends nothing, refuses, asks for a process, asks a child to move, tells a child to stop, go on or end, or hears that a process was made or not, or how a move ended
pub record Manages (P : manage.ManagerTook → Type 0) (g : Manager) (machines images : ℕ) (m : PlainMessage) (w : PlainWhat) : Type 1 where
  pub ignores : P (record { manager = g; message = None })
  pub refuses : (l : PlainLink) (ls : List PlainLink) → Letter w (l ∷ ls) → P (manage.answers_over g (Some l) 2 [])
  pub asks : (machine image : ℕ) (l : PlainLink) (ls : List PlainLink) → Letter w (l ∷ ls) → (nat_lt machine machines && nat_lt image images) ≡ true → P (manage.asks_for g machine image l ls)
  pub moves : (code : ℕ) (child : Pid) (machine : ℕ) (links : List PlainLink) → Letter w links → manage.child_numbered g.children code ≡ Some child → nat_lt machine machines ≡ true
      → P (manage.sends_request g PendingKind.Move child (PlainWhat.Move machine) (slice_get links 0))
  pub tells : (code : ℕ) (child : Pid) (v : PlainWhat) → manage.child_numbered g.children code ≡ Some child → ((Q : PlainWhat → Type 0) → Q PlainWhat.Stop → Q PlainWhat.Resume → Q PlainWhat.Kill → Q v) → P (manage.tells g child v)
  pub created : (child : Pid) (r : Pending) → w ≡ PlainWhat.Created child → manage.pending_numbered m.id.n g.pending ≡ Some r
      → P (manage.answers_over (record g { children = g.children ++ child ∷ []; pending = manage.without_pending m.id.n g.pending }) r.answer 0 (manage.control_link (length g.children + 1) ∷ []))
  pub no_room : (r : Pending) → w ≡ PlainWhat.NoRoom → manage.pending_numbered m.id.n g.pending ≡ Some r → P (manage.answers_over (record g { pending = manage.without_pending m.id.n g.pending }) r.answer 1 [])
  pub moved : (outcome : Outcome) (r : Pending) → w ≡ PlainWhat.Moved outcome → manage.pending_numbered m.id.n g.pending ≡ Some r
      → P (manage.answers_over (record g { pending = manage.without_pending m.id.n g.pending }) r.answer (code_of_outcome outcome) [])

-- an answer goes over a link, if there is one
pub by_over : (P : manage.ManagerTook → Type 0) (g : Manager) (o : Option PlainLink) (code : ℕ) (links : List PlainLink) → P (record { manager = g; message = None }) → ((l : PlainLink) → P (manage.answers_over g (Some l) code links))
    → P (manage.answers_over g o code links)
by_over P g None code links h k = h
by_over P g (Some l) code links h k = k l

given : (P : manage.ManagerTook → Type 0) (t k : manage.ManagerTook) → P t → Some t ≡ Some k → P k
given P t k h e = let f : t ≡ k = cc in subst P f h

by_test : (P : manage.ManagerTook → Type 0) (c : Bool) (t k : manage.ManagerTook) → (c ≡ true → P t) → P k → P (if c then t else k)
by_test P true t k h f = h refl
by_test P false t k h f = f

by_bad : (P : manage.ManagerTook → Type 0) (g : Manager) (machines images : ℕ) (m : PlainMessage) (w : PlainWhat) (links : List PlainLink) → Manages P g machines images m w → Letter w links → P (manage.bad_request g links)
by_bad P g machines images m w [] h u = h.ignores
by_bad P g machines images m w (l ∷ ls) h u = h.refuses l ls u

by_wants : (P : manage.ManagerTook → Type 0) (g : Manager) (machines images : ℕ) (m : PlainMessage) (w : PlainWhat) (machine image : ℕ) (links : List PlainLink) → Manages P g machines images m w → Letter w links → P (manage.wants_child g machines images machine image links)
by_wants P g machines images m w machine image [] h u = h.ignores
by_wants P g machines images m w machine image (l ∷ ls) h u = by_test P (nat_lt machine machines && nat_lt image images) (manage.asks_for g machine image l ls) (manage.bad_request g (l ∷ ls)) (h.asks machine image l ls u) (h.refuses l ls u)

by_requests : (P : manage.ManagerTook → Type 0) (g : Manager) (machines images : ℕ) (m : PlainMessage) (w : PlainWhat) (body : List ℕ) (links : List PlainLink) → Manages P g machines images m w → Letter w links → P (manage.requests_child g machines images body links)
by_requests P g machines images m w (a ∷ b ∷ c ∷ d ∷ []) links h u =
    by_test P (a == 1) (manage.wants_child g machines images b (256 * c + d) links) (manage.bad_request g links) (λ e. by_wants P g machines images m w b (256 * c + d) links h u) (by_bad P g machines images m w links h u)
by_requests P g machines images m w _ links h u = by_bad P g machines images m w links h u

by_control : (P : manage.ManagerTook → Type 0) (g : Manager) (machines images : ℕ) (m : PlainMessage) (w : PlainWhat) (code : ℕ) (child : Pid) (b c d : Bool) (links : List PlainLink) → Manages P g machines images m w → Letter w links → manage.child_numbered g.children code ≡ Some child
    → P (option_map_or (manage.tells g child) (if b then Some PlainWhat.Stop else if c then Some PlainWhat.Resume else if d then Some PlainWhat.Kill else None) (manage.bad_request g links))
by_control P g machines images m w code child true c d links h u is = h.tells code child PlainWhat.Stop is (λ Q stop resume kill. stop)
by_control P g machines images m w code child false true d links h u is = h.tells code child PlainWhat.Resume is (λ Q stop resume kill. resume)
by_control P g machines images m w code child false false true links h u is = h.tells code child PlainWhat.Kill is (λ Q stop resume kill. kill)
by_control P g machines images m w code child false false false links h u is = by_bad P g machines images m w links h u

by_controls : (P : manage.ManagerTook → Type 0) (g : Manager) (machines images : ℕ) (m : PlainMessage) (w : PlainWhat) (code : ℕ) (o : Option Pid) (body : List ℕ) (links : List PlainLink) → Manages P g machines images m w → Letter w links → manage.child_numbered g.children code ≡ o
    → P (manage.controls g machines o body links)
by_controls P g machines images m w code (Some child) (a ∷ []) links h u is = by_control P g machines images m w code child (a == 2) (a == 3) (a == 4) links h u is
by_controls P g machines images m w code (Some child) (a ∷ b ∷ []) links h u is =
    let bad = by_bad P g machines images m w links h u in
    by_test P (a == 5) (manage.moves_child g machines child b links) (manage.bad_request g links)
    (λ e. by_test P (nat_lt b machines) (manage.sends_request g PendingKind.Move child (PlainWhat.Move b) (slice_get links 0)) (manage.bad_request g links) (h.moves code child b links u is) bad) bad
by_controls P g machines images m w code None (a ∷ []) links h u is = by_bad P g machines images m w links h u
by_controls P g machines images m w code None (a ∷ b ∷ []) links h u is = by_bad P g machines images m w links h u
by_controls P g machines images m w code _ _ links h u is = by_bad P g machines images m w links h u

by_no_room : (P : manage.ManagerTook → Type 0) (g : Manager) (machines images : ℕ) (m : PlainMessage) (o : Option Pending) (k : manage.ManagerTook) → Manages P g machines images m PlainWhat.NoRoom
    → manage.pending_numbered m.id.n g.pending ≡ o → (manage.takes_answer g m.id.n g.children 1 []) o ≡ Some k → P k
by_no_room P g machines images m None k h is e = none_some k e
by_no_room P g machines images m (Some r) k h is e = given P (manage.answers_over (record g { pending = manage.without_pending m.id.n g.pending }) r.answer 1 []) k (h.no_room r refl is) e

by_moved : (P : manage.ManagerTook → Type 0) (g : Manager) (machines images : ℕ) (m : PlainMessage) (outcome : Outcome) (o : Option Pending) (k : manage.ManagerTook) → Manages P g machines images m (PlainWhat.Moved outcome) → manage.pending_numbered m.id.n g.pending ≡ o
    → (manage.takes_answer g m.id.n g.children (code_of_outcome outcome) []) o ≡ Some k → P k
by_moved P g machines images m outcome None k h is e = none_some k e
by_moved P g machines images m outcome (Some r) k h is e = given P (manage.answers_over (record g { pending = manage.without_pending m.id.n g.pending }) r.answer (code_of_outcome outcome) []) k (h.moved outcome r refl is) e

pub by_manager : (P : manage.ManagerTook → Type 0) (g : Manager) (machines images : ℕ) (m : PlainMessage) (w : PlainWhat) (k : manage.ManagerTook) → Manages P g machines images m w → manage.manager_takes g machines images m w ≡ Some k → P k
by_manager P g machines images m (PlainWhat.User code channel body links) k h e =
    let w = PlainWhat.User code channel body links in
    let u : Letter w links = record { code = code; channel = channel; body = body; is = refl } in
    given P (manage.takes_user g machines images code body links) k
    (by_test P (code == 0) (manage.requests_child g machines images body links) (manage.controls g machines (manage.child_numbered g.children code) body links)
    (λ z. by_requests P g machines images m w body links h u) (by_controls P g machines images m w code (manage.child_numbered g.children code) body links h u refl)) e
by_manager P g machines images m (PlainWhat.Created child) k h e = search (arith, given)
by_manager P g machines images m PlainWhat.NoRoom k h e = by_no_room P g machines images m (manage.pending_numbered m.id.n g.pending) k h refl e
by_manager P g machines images m (PlainWhat.Moved outcome) k h e = by_moved P g machines images m outcome (manage.pending_numbered m.id.n g.pending) k h refl e
by_manager P g machines images m _ k h e = none_some k e
