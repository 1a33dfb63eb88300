-- The format, the images and the number of machines of the kernel without machines never change, and the manager's pending
-- requests stay in order.
use Rattle.dm_law_always.proofs.Names.{by_step, ◌≡◌, ℕ, ◌+◌, ◌++◌, true, List, [], ◌∷◌, length, refl, Option, None, Some, Pid, MsgId, PlainMessage, PlainWhat, Label, Life, OneKernel, Manager, Pending, PlainLink, ascends, ascends_more}
use Rattle.dm_law_always.proofs.Names.{ascends_last, ascends_without, PlainProcess, without_message, PendingKind, answer_id, code_of_outcome, zero, suc, ◌==◌, ◌&&◌, Bool, false, ap, ◌∙◌, sym, subst, nat_lt, arith, ⊤, if◌then◌else◌, slice_get}
use Rattle.dm_law_always.proofs.Names.{nat_tests, manager, NamedLink, with_sent, id_eq-same, stayed, out_at, Sound, Each, Lives, has_bytes, LinkFits, awaits, WhatFits, KernelFits, id_of, IsPending, nat_le, SlotFits, is_for, kind_eq, bytes_eq}
use Rattle.dm_law_always.proofs.Names.{PendingFits, numbered_from, pid_of, MoveNote, cases_Bool, in_bag, inl, inr, option_map_or, none_some}
use Rattle.dm_onekernel.specs.Kernel as kernels
use Rattle.dm_onekernel.specs.Manager as manage
use Rattle.dm_onekernel.specs.Service as service
use Rattle.dm_onekernel.specs.Step as kernel
use Rattle.dm_onekernel.specs.Switchboard as board
use Rattle.dm_law_always.proofs.Takes.{by_manager, by_over, Letter}
use Rattle.dm_law_always.proofs.Fits.Rises.{carries, what_on, out_fits, put_fits, both, pending_on, link_users}

-- the manager's pending requests stand in the order in which it sent them
abbrev pub InOrder : Manager → Type 0
InOrder g = ascends 0 g.pending g.sent ≡ true

took_order : (g : Manager) (machines images : ℕ) (m : PlainMessage) (w : PlainWhat) (k : manage.ManagerTook) → manage.manager_takes g machines images m w ≡ Some k → InOrder g → InOrder k.manager
took_order g machines images m w k e h =
    let more = ascends_more g.pending 0 g.sent h in
    let last : (kind : PendingKind) (o : Option PlainLink) → ascends 0 (g.pending ++ record { n = g.sent; kind = kind; answer = o } ∷ []) (g.sent + 1) ≡ true = λ kind o. ascends_last g.pending 0 (record { n = g.sent; kind = kind; answer = o }) h in
    search (arith, ascends_without, g.pending, g.sent, m.id.n, by_over, ascends_more, by_manager, g.children)

-- what is made of the boot file, and stays
pub record Constant (s t : OneKernel) : Type 0 where
  pub format : t.format ≡ s.format
  pub images : t.images ≡ s.images
  pub machines : t.machines ≡ s.machines
  pub pending : InOrder s.manager → InOrder t.manager

sent_constant : (s u : OneKernel) (o : Option PlainMessage) → Constant s u → Constant s (kernels.with_sent u o)
sent_constant s u o h1 = search arith

process_constant : (s u : OneKernel) (p : Pid) (life : Life) → Constant s u → Constant s (kernels.with_process u p life)
process_constant s u p life h = record { format = h.format; images = h.images; machines = h.machines; pending = h.pending }

out_constant : (s : OneKernel) (id : MsgId) → Constant s (without_message s id)
out_constant s id = record { format = refl; images = refl; machines = refl; pending = λ e. e }

pub same : (s : OneKernel) → Constant s s
same s = record { format = refl; images = refl; machines = refl; pending = λ e. e }

goes_constant : (s : OneKernel) (id : MsgId) (p : Pid) (life : Life) → Constant s (kernels.with_process (without_message s id) p life)
goes_constant s id p life = process_constant s (without_message s id) p life (out_constant s id)

pub step_constant : (s t : OneKernel) (e : Label) → kernel.step s e ≡ Some t → Constant s t
step_constant s t e =
    let answers : (id : MsgId) (m : PlainMessage) (y : PlainProcess) (x : PlainMessage) → Constant s (kernels.with_sent (service.changed s id m y) (Some x)) = λ id m y x. sent_constant s (service.changed s id m y) (Some x) (goes_constant s id m.to (kernels.Alive y)) in
    by_step (Constant s) s t e (search (arith, process_constant, same, sent_constant, goes_constant, out_constant, took_order, s.manager))

-- What the servers do keeps that all fits.

pub Each-last : {X : Type 0} (P : X → Type 0) (xs : List X) (y : X) → Each P xs → P y → Each P (xs ++ y ∷ [])
Each-last P [] y h k = (k, tt)
Each-last P (x ∷ xs) y h k = (h.0, Each-last P xs y h.1 k)

-- what a server sends
abbrev SendsFit : OneKernel → Option PlainMessage → Type 0
SendsFit u None = ⊤
SendsFit u (Some m) = WhatFits u m.id m m.what

put_maybe : (u : OneKernel) (o : Option PlainMessage) → SendsFit u o → KernelFits u → KernelFits (with_sent u o)
put_maybe u None f h = h
put_maybe u (Some m) f h = put_fits u m f h

-- the switchboard
abbrev NamesFit : Lives → List NamedLink → Type 0
NamesFit ps names = Each (λ (k : NamedLink). LinkFits ps k.link) names

abbrev AnswerFits : Lives → board.Answer → Type 0
AnswerFits ps (board.Found link) = LinkFits ps link
AnswerFits ps _ = ⊤

record AskedFits (ps : Lives) (a : board.Asked) : Type 0 where
  names : NamesFit ps a.names
  answer : AnswerFits ps a.answer

named_fits : (ps : Lives) (name : List ℕ) (names : List NamedLink) → NamesFit ps names → AnswerFits ps (option_map_or board.Found (board.link_named name names) board.Unknown)
named_fits ps name [] h = tt
named_fits ps name (k ∷ ks) h = search (arith, bytes_eq k.name name, board.link_named name ks, named_fits ps name ks h.1, k.link, h.0)

bad_asked : (ps : Lives) (names : List NamedLink) → NamesFit ps names → AskedFits ps (board.board_bad_request names)
bad_asked ps names h = record { names = h; answer = tt }

if_asked : (ps : Lives) (b : Bool) (x y : board.Asked) → AskedFits ps x → AskedFits ps y → AskedFits ps (if b then x else y)
if_asked ps b x y h1 h2 = search arith

register_fits : (ps : Lives) (names : List NamedLink) (name : List ℕ) (ls : List PlainLink) → Each (LinkFits ps) ls → NamesFit ps names → AskedFits ps (board.asks_to_register names name ls)
register_fits ps names name ls h1 h2 = search (arith, if_asked, bad_asked, Each-last)

look_up_fits : (ps : Lives) (names : List NamedLink) (name : List ℕ) (ls : List PlainLink) → NamesFit ps names → AskedFits ps (board.asks_to_look_up names name ls)
look_up_fits ps names name ls h1 = search (arith, if_asked, named_fits, bad_asked)

record BoardFits (s : OneKernel) (k : board.BoardTook) : Type 0 where
  names : NamesFit s.processes k.switchboard.names
  sends : SendsFit (record s { switchboard = k.switchboard }) k.answer

board_on : (s : OneKernel) (id : MsgId) (k : board.BoardTook) → BoardFits s k → KernelFits s → KernelFits (service.switchboard_took s id k)
board_on s id k b fits =
    let v = without_message s id in
    let u = record v { switchboard = k.switchboard } in
    let out = out_fits s id fits in
    put_maybe u k.answer (sends_off (record s { switchboard = k.switchboard }) u k.answer refl refl refl refl b.sends) (carries v u (search (arith, out.processes, b.names, out.answers, out.children, pending_on)) out)
  where
    what_same : (s u : OneKernel) (i : MsgId) (m : PlainMessage) (w : PlainWhat) → u.processes ≡ s.processes → u.machines ≡ s.machines → u.images ≡ s.images → u.manager ≡ s.manager → WhatFits s i m w → WhatFits u i m w
    what_same s u i m w ps machines images g h = what_on s u i m w (λ p n e. ap (λ (f : Lives). has_bytes n (f p)) ps ∙ e) (λ e. ap (λ (f : Lives). awaits (f i.from) i.n w) ps ∙ e)
        (λ kind c p. record { from = p.from; pending = ap (λ (x : Manager). is_for kind (manage.pending_numbered i.n x.pending)) g ∙ p.pending }) machines images h

    sends_off : (s u : OneKernel) (o : Option PlainMessage) → u.processes ≡ s.processes → u.machines ≡ s.machines → u.images ≡ s.images → u.manager ≡ s.manager → SendsFit s o → SendsFit u o
    sends_off s u None ps machines images g h = tt
    sends_off s u (Some m) ps machines images g h = what_same s u m.id m m.what ps machines images g h

board_fits : (s : OneKernel) (body : List ℕ) (links : List PlainLink) → Each (LinkFits s.processes) links → NamesFit s.processes s.switchboard.names → BoardFits s (board.takes_request s.switchboard body links)
board_fits s body links h1 h2 = search (arith, s.processes, s.switchboard.names, link_users, bad_asked, if_asked, register_fits, look_up_fits)

pub board_row : (s : OneKernel) (id : MsgId) (m : PlainMessage) (w : PlainWhat) (k : board.BoardTook) → WhatFits s id m w → board.board_takes s.switchboard m w ≡ Some k → KernelFits s → KernelFits (service.switchboard_took s id k)
board_row s id m (PlainWhat.User code channel body links) k h1 h2 h3 =
    let e : board.takes_request s.switchboard body links ≡ k = cc in board_on s id k (subst (BoardFits s) e (board_fits s body links h1.1 h3.names)) h3
board_row s id m w k h1 h2 h3 = absurd (cc)

pub pending_last : (kind : PendingKind) (n : ℕ) (rs : List Pending) (r : Pending) → is_for kind (manage.pending_numbered n rs) ≡ true → is_for kind (manage.pending_numbered n (rs ++ r ∷ [])) ≡ true
pending_last kind n [] r h = cc
pending_last kind n (x ∷ xs) r h = search (arith, x.n == n, pending_last kind n xs r)

-- a new request has a number that no pending one has
none_later : (x : Pending) (rs : List Pending) (n : ℕ) → nat_lt x.n n ≡ true → (x.n == n) ≡ false
none_later x rs n low = grind (arith, nat_tests)

own_last : (from : ℕ) (rs : List Pending) (r : Pending) → ascends from rs r.n ≡ true → manage.pending_numbered r.n (rs ++ r ∷ []) ≡ Some r
own_last from [] r e = let f : (r.n == r.n) ≡ true = grind (arith, nat_tests) in ap (λ (b : Bool). if b then Some r else None) f
own_last from (x ∷ xs) r e =
    let k = both (nat_le from x.n) (ascends (x.n + 1) xs r.n) e in
    let one : manage.pending_numbered x.n (x ∷ xs) ≡ Some x = (let f : (x.n == x.n) ≡ true = grind (arith, nat_tests) in ap (λ (b : Bool). if b then Some x else manage.pending_numbered x.n xs) f) in
    let low = (numbered_from (x ∷ xs) from r.n x.n x e one).1 in
    ap (λ (b : Bool). if b then Some x else manage.pending_numbered r.n (xs ++ r ∷ [])) (none_later x xs r.n low) ∙ own_last (x.n + 1) xs r k.1

kind_same : (k : PendingKind) → kind_eq k k ≡ true
kind_same k = search arith

pub pending_without : (kind : PendingKind) (k n : ℕ) (rs : List Pending) → (k == n) ≡ false → is_for kind (manage.pending_numbered k rs) ≡ true → is_for kind (manage.pending_numbered k (manage.without_pending n rs)) ≡ true
pending_without kind k n [] apart h = h
pending_without kind k n (r ∷ rs) apart h = search (arith, r.n, (pending_without kind k n rs apart))

abbrev AnswersFit : Lives → List Pending → Type 0
AnswersFit ps rs = Each (PendingFits ps) rs

answer_if : (ps : Lives) (b : Bool) (x r : Pending) (o : Option Pending) → (if b then Some x else o) ≡ Some r → PendingFits ps x → (o ≡ Some r → PendingFits ps r) → PendingFits ps r
answer_if ps b x r o h1 h2 h3 = search arith

answer_fits : (ps : Lives) (n : ℕ) (rs : List Pending) (r : Pending) → manage.pending_numbered n rs ≡ Some r → AnswersFit ps rs → PendingFits ps r
answer_fits ps n [] r e h = none_some r e
answer_fits ps n (x ∷ xs) r e h = answer_if ps (x.n == n) x r (manage.pending_numbered n xs) e h.0 (λ g. answer_fits ps n xs r g h.1)

without_fits : (ps : Lives) (n : ℕ) (rs : List Pending) → AnswersFit ps rs → AnswersFit ps (manage.without_pending n rs)
without_fits ps n [] h = tt
without_fits ps n (r ∷ rs) h = search (arith, r.n == n, manage.without_pending n rs, without_fits ps n rs h.1, h.0)

-- the manager: the numbers of which T is said stay
abbrev ChildrenMade : Lives → List Pid → Type 0
ChildrenMade ps children = Each (λ (p : Pid). has_bytes 0 (ps p) ≡ true) children

record ManagerFits (s : OneKernel) (T : ℕ → Type 0) (k : manage.ManagerTook) : Type 0 where
  answers : AnswersFit s.processes k.manager.pending
  children : ChildrenMade s.processes k.manager.children
  sends : SendsFit (record s { manager = k.manager }) k.message
  stays : (kind : PendingKind) (n : ℕ) → T n → is_for kind (manage.pending_numbered n s.manager.pending) ≡ true → is_for kind (manage.pending_numbered n k.manager.pending) ≡ true

abbrev Any : ℕ → Type 0
Any n = ⊤

-- a request is sent, and waits for its answer
asks_fits : (s : OneKernel) (kind : PendingKind) (to : Pid) (w : PlainWhat) (o : Option PlainLink) → InOrder s.manager → PendingFits s.processes (record { n = s.manager.sent; kind = kind; answer = o })
    → (IsPending (record s { manager = (manage.sends_request s.manager kind to w o).manager }) kind (id_of manager s.manager.sent) → SendsFit (record s { manager = (manage.sends_request s.manager kind to w o).manager }) (manage.sends_request s.manager kind to w o).message) → KernelFits s
    → ManagerFits s Any (manage.sends_request s.manager kind to w o)
asks_fits s kind to w o order answer f h =
    let r : Pending = record { n = s.manager.sent; kind = kind; answer = o } in
    record {
      answers = Each-last (PendingFits s.processes) s.manager.pending r h.answers answer;
      children = h.children;
      sends = f (record { from = refl; pending = (ap (is_for r.kind) (own_last 0 s.manager.pending r order) ∙ kind_same r.kind) });
      stays = λ other n t e. pending_last other n s.manager.pending r e;
    }

asks_for_fits : (s : OneKernel) (machine image : ℕ) (l : PlainLink) (ls : List PlainLink) → (nat_lt machine s.machines && nat_lt image (length s.images)) ≡ true → LinkFits s.processes l → Each (LinkFits s.processes) ls → InOrder s.manager → KernelFits s
    → ManagerFits s Any (manage.asks_for s.manager machine image l ls)
asks_for_fits s machine image l ls within f fs order h =
    asks_fits s PendingKind.Create (pid_of machine 0) (PlainWhat.Create image ls) (Some l) order (record { answer = f; making = λ e. refl }) (λ pending. (
      refl,
      (let a : nat_lt machine s.machines ≡ true = grind (arith, nat_tests) in a),
      (let a : nat_lt image (length s.images) ≡ true = grind (arith, nat_tests) in a),
      refl,
      refl,
      pending,
      fs,
    )) h

-- a child is to move
first_fits : (ps : Lives) (n : ℕ) (links : List PlainLink) → Each (LinkFits ps) links → PendingFits ps (record { n = n; kind = PendingKind.Move; answer = (slice_get links 0) })
first_fits ps n [] h1 = search arith
first_fits ps n (l ∷ ls) h1 = search arith

Each-get : {X : Type 0} (P : X → Type 0) (xs : List X) (k : ℕ) (x : X) → slice_get xs k ≡ Some x → Each P xs → P x
Each-get P [] k x e h = none_some x e
Each-get P (y ∷ ys) zero x e h = let f : y ≡ x = cc in subst P f h.0
Each-get P (y ∷ ys) (suc k) x e h = Each-get P ys k x e h.1

child_made : (ps : Lives) (children : List Pid) (n : ℕ) (p : Pid) → manage.child_numbered children n ≡ Some p → ChildrenMade ps children → has_bytes 0 (ps p) ≡ true
child_made ps children n p h1 h2 = search (arith, Each-get)

abbrev OtherThan : ℕ → ℕ → Type 0
OtherThan n k = (k == n) ≡ false

-- an answer is taken, and goes on to who asked, if there is a link for it
over_fits : (s : OneKernel) (T : ℕ → Type 0) (g : Manager) (o : Option PlainLink) (code : ℕ) (links : List PlainLink) → SlotFits s.processes o → Each (LinkFits s.processes) links → AnswersFit s.processes g.pending → ChildrenMade s.processes g.children
    → ((kind : PendingKind) (n : ℕ) → T n → is_for kind (manage.pending_numbered n s.manager.pending) ≡ true → is_for kind (manage.pending_numbered n g.pending) ≡ true) → ManagerFits s T (manage.answers_over g o code links)
over_fits s T g o code links h1 h2 h3 h4 h5 = search (arith, link_users, s.processes)

-- an answer about a child is the only message under its number that is about one
same_name : (i j : MsgId) → i.from ≡ j.from → i.n ≡ j.n → i.answer ≡ j.answer → i ≡ j
same_name i j e f g = λ k. record { from = e k; n = f k; answer = g k }

other_number : (r e : MsgId → ℕ) (s : OneKernel) (id i : MsgId) (m k : PlainMessage) → s.bag id ≡ Some m → id.answer ≡ true → (without_message s id).bag i ≡ Some k → i.from ≡ id.from → Sound r e s → OtherThan id.n i.n
other_number r e s id i m k there answer stands from h = search (arith, i.n, id.n, i.answer, same_name, out_at, id_eq-same, h.entered.fewer, s.bag, h.entered.answers, stayed)

-- a request that a process follows has no answer yet
noted_apart : (r e : MsgId → ℕ) (s : OneKernel) (id : MsgId) (m : PlainMessage) (p : Pid) (n : MoveNote) → s.bag id ≡ Some m → id.answer ≡ true → s.notes p ≡ Some n → n.id.from ≡ id.from → Sound r e s → OtherThan id.n n.id.n
noted_apart r e s id m p n there answer is from h = elim (cases_Bool (n.id.n == id.n)) [
  | inr apart ↦ apart
  | inl same ↦
      let number : n.id.n ≡ id.n = grind (arith, nat_tests) in
      let f = h.notes.followed n.id p (h.notes.noted p n is) in
      let mine : answer_id n.id ≡ id = same_name (answer_id n.id) id from number (sym answer) in
      let few = h.entered.fewer id in
      let one : in_bag (s.bag id) ≡ 1 = ap in_bag there in
      let none : e id ≡ 0 = sym (ap e mine) ∙ f.unanswered in
      absurd (omega (arith, few, one, none))
]

manager_on : (s : OneKernel) (id : MsgId) (T : ℕ → Type 0) (k : manage.ManagerTook) → ManagerFits s T k → ((i : MsgId) (x : PlainMessage) → (without_message s id).bag i ≡ Some x → i.from ≡ manager → T i.n)
    → ((p : Pid) (n : MoveNote) → s.notes p ≡ Some n → n.id.from ≡ manager → T n.id.n) → KernelFits s → KernelFits (service.manager_took s id k)
manager_on s id T k b others noted fits =
    let v = without_message s id in
    let u = record v { manager = k.manager } in
    let out = out_fits s id fits in
    let stays : (kind : PendingKind) (i : MsgId) → (i.from ≡ manager → T i.n) → IsPending v kind i → IsPending u kind i = λ kind i of_ z. record { from = z.from; pending = b.stays kind i.n (of_ z.from) z.pending } in
    put_maybe u k.message (sends_off k.message b.sends) (carries v u (search (arith, out.processes, stays, out.names, b.answers, b.children, others, noted)) out)
  where
    sends_off : (o : Option PlainMessage) → SendsFit (record s { manager = k.manager }) o → SendsFit (record (without_message s id) { manager = k.manager }) o
    sends_off None h = tt
    sends_off (Some m) h = what_on (record s { manager = k.manager }) (record (without_message s id) { manager = k.manager }) m.id m m.what (λ p n e. e) (λ e. e) (λ kind c p. record { from = p.from; pending = p.pending }) refl refl h

-- the answer to a request is taken
answer_on : (r e : MsgId → ℕ) (s : OneKernel) (id : MsgId) (m : PlainMessage) (kind : PendingKind) (children : List Pid) (v : Pending) (code : ℕ) (links : List PlainLink) → m.id ≡ id → s.bag id ≡ Some m → id.answer ≡ true → IsPending s kind id
    → manage.pending_numbered m.id.n s.manager.pending ≡ Some v → ChildrenMade s.processes children → Each (LinkFits s.processes) links → Sound r e s → KernelFits s
    → KernelFits (service.manager_took s id (manage.answers_over (record s.manager { children = children; pending = manage.without_pending m.id.n s.manager.pending }) v.answer code links))
answer_on r e s id m kind children v code links name there answer pending was made fit h fits =
    let g = record s.manager { children = children; pending = manage.without_pending m.id.n s.manager.pending } in
    manager_on s id (OtherThan m.id.n) (manage.answers_over g v.answer code links)
    (over_fits s (OtherThan m.id.n) g v.answer code links (answer_fits s.processes m.id.n s.manager.pending v was fits.answers).answer fit (without_fits s.processes m.id.n s.manager.pending fits.answers) made (λ other i apart. pending_without other i m.id.n s.manager.pending apart))
    (λ i x stands from. ap (λ (v : MsgId). i.n == v.n) name ∙ other_number r e s id i m x there answer stands (from ∙ sym pending.from) h)
    (λ p n noted from. ap (λ (v : MsgId). n.id.n == v.n) name ∙ noted_apart r e s id m p n there answer noted (from ∙ sym pending.from) h) fits

pub manager_row : (r e : MsgId → ℕ) (s : OneKernel) (id : MsgId) (m : PlainMessage) (w : PlainWhat) (k : manage.ManagerTook) → m.id ≡ id → s.bag id ≡ Some m → WhatFits s id m w → manage.manager_takes s.manager s.machines (length s.images) m w ≡ Some k → Sound r e s → InOrder s.manager
    → KernelFits s → KernelFits (service.manager_took s id k)
manager_row r e s id m w k name there f is h order fits =
    let g = s.manager in
    let ps = s.processes in
    let any : (x : manage.ManagerTook) → ManagerFits s Any x → KernelFits (service.manager_took s id x) = λ x b. manager_on s id Any x b (λ i y stands from. tt) (λ p n noted from. tt) fits in
    let links : (ls : List PlainLink) → Letter w ls → Each (LinkFits ps) ls = λ ls u. (subst (WhatFits s id m) u.is f).1 in
    by_manager (λ x. KernelFits (service.manager_took s id x)) g s.machines (length s.images) m w k (record {
      ignores = any (record { manager = g; message = None }) (record { answers = fits.answers; children = fits.children; sends = tt; stays = λ kind n t e. e });
      refuses = λ l ls u. any (manage.answers_over g (Some l) 2 []) (record { answers = fits.answers; children = fits.children; sends = (link_users ps l (links (l ∷ ls) u).0, tt); stays = λ kind n t e. e });
      asks = λ machine image l ls u within. (let c = links (l ∷ ls) u in any (manage.asks_for g machine image l ls) (asks_for_fits s machine image l ls within c.0 c.1 order fits));
      moves = λ code child machine ls u of_ within. any (manage.sends_request g PendingKind.Move child (PlainWhat.Move machine) (slice_get ls 0))
          (asks_fits s PendingKind.Move child (PlainWhat.Move machine) (slice_get ls 0) order (first_fits ps g.sent ls (links ls u)) (λ pending. (child_made ps g.children code child of_ fits.children, within, refl, refl, pending)) fits);
      tells = λ code child v of_ control.
          (let made = child_made ps g.children code child of_ fits.children in
          let u : OneKernel = record s { manager = (manage.tells g child v).manager } in
          any (manage.tells g child v) (record {
            answers = fits.answers;
            children = fits.children;
            sends = control (λ x. WhatFits u (id_of manager g.sent) (record { id = id_of manager g.sent; to = child; sender = manager; what = v }) x) made made made;
            stays = λ kind n t e. e;
          }));
      created = λ child v what was.
          (let (to, answer, pending, made) = subst (WhatFits s id m) what f in
          answer_on r e s id m PendingKind.Create (g.children ++ child ∷ []) v 0 (manage.control_link (length g.children + 1) ∷ []) name there answer pending was (Each-last (λ (q : Pid). has_bytes 0 (ps q) ≡ true) g.children child fits.children made) (refl, tt) h fits);
      no_room = λ v what was.
          (let (to, answer, pending) = subst (WhatFits s id m) what f in
          answer_on r e s id m PendingKind.Create g.children v 1 [] name there answer pending was fits.children tt h fits);
      moved = λ outcome v what was.
          (let (to, answer, pending) = subst (WhatFits s id m) what f in
          answer_on r e s id m PendingKind.Move g.children v (code_of_outcome outcome) [] name there answer pending was fits.children tt h fits);
    }) is
