-- What the servers do keeps to the side of the message that they take.
use Rattle.dm_law_always.proofs.Names.{◌≡◌, ℕ, zero, suc, ◌+◌, ◌*◌, ◌==◌, ◌&&◌, Bool, true, false, List, [], ◌∷◌, ◌++◌, length, refl, ap, ◌∙◌, sym, subst, inl, inr, arith, nat_tests, nat_lt, if◌then◌else◌, Option, None, Some, slice_get, none_some}
use Rattle.dm_law_always.proofs.Names.{Pid, pid_eq, pid_of, PlainLink, MsgId, PlainMessage, PlainWhat, OneKernel, with_sent, without_message, switchboard, manager, pid_eq-is, Each, ⊤, NamedLink, Pending, PendingKind, Manager, code_of_outcome, bytes_eq, option_map_or}
use Rattle.std.proofs.Common.{add-one}
use Rattle.dm_onekernel.specs.Boot.{is_general}
use Rattle.dm_onekernel.specs.Manager as manage
use Rattle.dm_onekernel.specs.Manager.{child_numbered}
use Rattle.dm_onekernel.specs.Service as service
use Rattle.dm_onekernel.specs.Switchboard as board
use Rattle.dm_law_always.proofs.Fits.Constants.{Each-last}
use Rattle.dm_law_sides.specs.Sides.{Sides, side_of, IsOn, LinkKeeps, Keeping, MaybeKeeping, MessageKeeps, NameKeeps, RequestKeeps, Keeps}
use Rattle.dm_law_sides.proofs.Further.{Further, comes_keeps, links_further, maybe_further, names_on, requests_on, on_further}
use Rattle.dm_law_sides.proofs.Changes.{out_keeps, put_keeps}
use Rattle.dm_law_sides.proofs.Calls.{on_of}

-- what a server sends
abbrev pub SendKeeps : OneKernel → Sides → Option PlainMessage → Type 0
SendKeeps s k None = ⊤
SendKeeps s k (Some m) = MessageKeeps s k (side_of k m.id) m m.what

put_maybe : (s : OneKernel) (k : Sides) (o : Option PlainMessage) → SendKeeps s k o → Keeps s k → Keeps (with_sent s o) k
put_maybe s k None new h = h
put_maybe s k (Some m) new h = put_keeps s k m new h

-- the switchboard
abbrev NamesKeep : OneKernel → Sides → List NamedLink → Type 0
NamesKeep s k names = Each (NameKeeps s k) names

abbrev AnswerKeeps : OneKernel → Sides → board.Answer → Type 0
AnswerKeeps s k (board.Found link) = Keeping s k (k.of switchboard) link
AnswerKeeps s k board.Registered = ⊤
AnswerKeeps s k board.Unknown = ⊤
AnswerKeeps s k board.Taken = ⊤
AnswerKeeps s k board.BadLink = ⊤
AnswerKeeps s k board.BadRequest = ⊤

record AskedKeeps (s : OneKernel) (k : Sides) (a : board.Asked) : Type 0 where
  names : NamesKeep s k a.names
  answer : AnswerKeeps s k a.answer

found_keeps : (s : OneKernel) (k : Sides) (o : Option PlainLink) → MaybeKeeping s k (k.of switchboard) o → AnswerKeeps s k (option_map_or board.Found o board.Unknown)
found_keeps s k None h = tt
found_keeps s k (Some l) h = h

named_if : (s : OneKernel) (k : Sides) (c : Bool) (l : PlainLink) (o : Option PlainLink) → Keeping s k (k.of switchboard) l → MaybeKeeping s k (k.of switchboard) o → MaybeKeeping s k (k.of switchboard) (if c then Some l else o)
named_if s k true l o f h = f
named_if s k false l o f h = h

named_keeps : (s : OneKernel) (k : Sides) (name : List ℕ) (names : List NamedLink) → NamesKeep s k names → MaybeKeeping s k (k.of switchboard) (board.link_named name names)
named_keeps s k name [] h = tt
named_keeps s k name (e ∷ es) h = named_if s k (bytes_eq e.name name) e.link (board.link_named name es) h.0 (named_keeps s k name es h.1)

bad_asked : (s : OneKernel) (k : Sides) (names : List NamedLink) → NamesKeep s k names → AskedKeeps s k (board.board_bad_request names)
bad_asked s k names h = record { names = h; answer = tt }

if_asked : (s : OneKernel) (k : Sides) (b : Bool) (x y : board.Asked) → AskedKeeps s k x → AskedKeeps s k y → AskedKeeps s k (if b then x else y)
if_asked s k true x y h g = h
if_asked s k false x y h g = g

registers_keeps : (s : OneKernel) (k : Sides) (names : List NamedLink) (name : List ℕ) (l : PlainLink) (o : Option PlainLink) → Keeping s k (k.of switchboard) l → NamesKeep s k names → AskedKeeps s k (board.registers_new names name l o)
registers_keeps s k names name l None f h = record { names = Each-last (NameKeeps s k) names (record { name = name; link = l }) h f; answer = tt }
registers_keeps s k names name l (Some taken) f h = record { names = h; answer = tt }

register_keeps : (s : OneKernel) (k : Sides) (names : List NamedLink) (name : List ℕ) (ls : List PlainLink) → Each (Keeping s k (k.of switchboard)) ls → NamesKeep s k names → AskedKeeps s k (board.asks_to_register names name ls)
register_keeps s k names name [] f h = bad_asked s k names h
register_keeps s k names name (l ∷ []) f h =
    if_asked s k (board.is_name name) (board.registers_name names name l) (board.board_bad_request names)
    (if_asked s k (is_general l.kind) (board.registers_new names name l (board.link_named name names)) (record { names = names; answer = board.BadLink }) (registers_keeps s k names name l (board.link_named name names) f.0 h) (record { names = h; answer = tt }))
    (bad_asked s k names h)
register_keeps s k names name (l ∷ l' ∷ ls) f h = bad_asked s k names h

look_up_keeps : (s : OneKernel) (k : Sides) (names : List NamedLink) (name : List ℕ) (ls : List PlainLink) → NamesKeep s k names → AskedKeeps s k (board.asks_to_look_up names name ls)
look_up_keeps s k names name [] h =
    if_asked s k (board.is_name name) (board.looks_up names name) (board.board_bad_request names) (record { names = h; answer = found_keeps s k (board.link_named name names) (named_keeps s k name names h) }) (bad_asked s k names h)
look_up_keeps s k names name (l ∷ ls) h = bad_asked s k names h

asks_keeps : (s : OneKernel) (k : Sides) (names : List NamedLink) (body : List ℕ) (ls : List PlainLink) → Each (Keeping s k (k.of switchboard)) ls → NamesKeep s k names → AskedKeeps s k (board.asks names body ls)
asks_keeps s k names [] ls f h = bad_asked s k names h
asks_keeps s k names (operation ∷ name) ls f h =
    if_asked s k (operation == 1) (board.asks_to_register names name ls) (if operation == 2 then board.asks_to_look_up names name ls else board.board_bad_request names) (register_keeps s k names name ls f h)
    (if_asked s k (operation == 2) (board.asks_to_look_up names name ls) (board.board_bad_request names) (look_up_keeps s k names name ls h) (bad_asked s k names h))

answer_links : (s : OneKernel) (k : Sides) (a : board.Answer) → AnswerKeeps s k a → Each (Keeping s k (k.of switchboard)) (board.answer_row a).1
answer_links s k (board.Found link) h = (h, tt)
answer_links s k board.Registered h = tt
answer_links s k board.Unknown h = tt
answer_links s k board.Taken h = tt
answer_links s k board.BadLink h = tt
answer_links s k board.BadRequest h = tt

-- the switchboard with other names
board_on : (s : OneKernel) (k : Sides) (id : MsgId) (t : board.BoardTook) → NamesKeep s k t.switchboard.names → SendKeeps s k t.answer → Keeps s k → Keeps (service.switchboard_took s id t) k
board_on s k id t names sends h =
    let v = without_message s id in
    let out = out_keeps s id k h in
    let u = record v { switchboard = t.switchboard } in
    put_maybe u k t.answer (sends_on t.answer sends) (record { links = out.links; areas = out.areas; messages = out.messages; names = names; requests = out.requests; notes = out.notes })
  where
    sends_on : (o : Option PlainMessage) → SendKeeps s k o → SendKeeps (record (without_message s id) { switchboard = t.switchboard }) k o
    sends_on None f = tt
    sends_on (Some m) f = f

takes_keeps : (s : OneKernel) (k : Sides) (id : MsgId) (body : List ℕ) (ls : List PlainLink) → Each (Keeping s k (k.of switchboard)) ls → Keeps s k → Keeps (service.switchboard_took s id (board.takes_request s.switchboard body ls)) k
takes_keeps s k id body [] f h = board_on s k id (record { switchboard = s.switchboard; answer = None }) h.names tt h
takes_keeps s k id body (l ∷ ls) f h =
    let a = asks_keeps s k s.switchboard.names body ls f.1 h.names in
    board_on s k id (board.board_answers s.switchboard l (board.asks s.switchboard.names body ls)) a.names (inr (refl, refl), f.0, answer_links s k (board.asks s.switchboard.names body ls).answer a.answer) h

pub board_keeps : (s : OneKernel) (k : Sides) (id : MsgId) (m : PlainMessage) (w : PlainWhat) (t : board.BoardTook) → pid_eq m.to switchboard ≡ true → MessageKeeps s k (side_of k m.id) m w → board.board_takes s.switchboard m w ≡ Some t → Keeps s k
    → Keeps (service.switchboard_took s id t) k
board_keeps s k id m (PlainWhat.User code channel body ls) t to f e h =
    let g : board.takes_request s.switchboard body ls ≡ t = cc in
    let is : m.to ≡ switchboard = pid_eq-is m.to switchboard to in
    let on : IsOn s k (side_of k m.id) switchboard = on_of s k (side_of k m.id) switchboard code refl (subst (λ (p : Pid). LinkKeeps s k (side_of k m.id) p code) is f.1) in
    subst (λ (v : board.BoardTook). Keeps (service.switchboard_took s id v) k) g
    (takes_keeps s k id body ls (subst (λ i. Each (Keeping s k i) ls) (sym on.0) f.2) h)
board_keeps s k id m _ t to f e h = none_some t e

-- the manager
abbrev with_manager : OneKernel → Manager → OneKernel
with_manager s g = record s { manager = g }

record ManagerKeeps (s : OneKernel) (k : Sides) (t : manage.ManagerTook) : Type 0 where
  further : Further s k (with_manager s t.manager) k
  requests : Each (RequestKeeps (with_manager s t.manager) k) t.manager.pending
  sends : SendKeeps (with_manager s t.manager) k t.message

manager_on : (s : OneKernel) (k : Sides) (id : MsgId) (t : manage.ManagerTook) → ManagerKeeps s k t → Keeps s k → Keeps (service.manager_took s id t) k
manager_on s k id t b h =
    let u = with_manager s t.manager in
    let on : Keeps u k = comes_keeps s u k k (record {
      further = b.further;
      sides = λ i m is. refl;
      process = λ p x is. inl is;
      message = λ i m is. inl is;
      names = names_on s u k k s.switchboard.names b.further h.names;
      requests = b.requests;
      notes = λ p n is. inl is;
    }) h in
    let out = out_keeps u id k on in
    put_maybe (with_manager (without_message s id) t.manager) k t.message (sends_on t.message b.sends)
    (record { links = out.links; areas = out.areas; messages = out.messages; names = out.names; requests = out.requests; notes = out.notes })
  where
    sends_on : (o : Option PlainMessage) → SendKeeps (with_manager s t.manager) k o → SendKeeps (with_manager (without_message s id) t.manager) k o
    sends_on None f = tt
    sends_on (Some m) f = f

-- what the manager becomes: more children, other pending requests, and it may have sent one message more
abbrev becomes : Manager → List Pid → List Pending → ℕ → Manager
becomes g children pending sent = record { children = children; pending = pending; sent = sent }

abbrev Longer : OneKernel → List Pid → Type 0
Longer s children = (n : ℕ) (p : Pid) → child_numbered s.manager.children n ≡ Some p → child_numbered children n ≡ Some p

same_further : (s : OneKernel) (k : Sides) (children : List Pid) (pending : List Pending) → Longer s children → Further s k (with_manager s (becomes s.manager children pending s.manager.sent)) k
same_further s k children pending more = record { there = λ p e. e; of = λ p e. refl; children = more; told = λ n e. refl; sent = λ n e. e }

sent_further : (s : OneKernel) (k : Sides) (children : List Pid) (pending : List Pending) → Longer s children → Further s k (with_manager s (becomes s.manager children pending (s.manager.sent + 1))) k
sent_further s k children pending more = record { there = λ p e. e; of = λ p e. refl; children = more; told = λ n e. refl; sent = λ n e. grind (arith, nat_tests) }

-- an answer goes over a link, if there is one
over_keeps : (s : OneKernel) (k : Sides) (children : List Pid) (pending : List Pending) (o : Option PlainLink) (code : ℕ) (ls : List PlainLink) → Longer s children → Each (RequestKeeps s k) pending → MaybeKeeping s k (k.told s.manager.sent) o
    → Each (Keeping (with_manager s (becomes s.manager children pending (s.manager.sent + 1))) k (k.told s.manager.sent)) ls → ManagerKeeps s k (manage.answers_over (becomes s.manager children pending s.manager.sent) o code ls)
over_keeps s k children pending None code ls more f o g =
    let up = same_further s k children pending more in
    record { further = up; requests = requests_on s (with_manager s (becomes s.manager children pending s.manager.sent)) k k pending up f; sends = tt }
over_keeps s k children pending (Some l) code ls more f o g =
    let up = sent_further s k children pending more in
    let u = with_manager s (becomes s.manager children pending (s.manager.sent + 1)) in
    record { further = up; requests = requests_on s u k k pending up f; sends = (inl refl, maybe_further s u k k (k.told s.manager.sent) (Some l) up o, g) }

-- the manager with the children and the pending requests that it had
bad_keeps : (s : OneKernel) (k : Sides) (ls : List PlainLink) → Each (Keeping s k (k.told s.manager.sent)) ls → Keeps s k → ManagerKeeps s k (manage.bad_request s.manager ls)
bad_keeps s k [] f h = over_keeps s k s.manager.children s.manager.pending None 2 [] (λ n p e. e) h.requests tt tt
bad_keeps s k (l ∷ ls) f h = over_keeps s k s.manager.children s.manager.pending (Some l) 2 [] (λ n p e. e) h.requests f.0 tt

-- a request is sent, and waits for its answer
ask_keeps : (s : OneKernel) (k : Sides) (kind : PendingKind) (to : Pid) (w : PlainWhat) (o : Option PlainLink) → MaybeKeeping s k (k.told s.manager.sent) o
    → SendKeeps (with_manager s (manage.sends_request s.manager kind to w o).manager) k (manage.sends_request s.manager kind to w o).message → Keeps s k → ManagerKeeps s k (manage.sends_request s.manager kind to w o)
ask_keeps s k kind to w o f sends h =
    let r : Pending = record { n = s.manager.sent; kind = kind; answer = o } in
    let u = with_manager s (manage.sends_request s.manager kind to w o).manager in
    let up : Further s k u k = sent_further s k s.manager.children (s.manager.pending ++ r ∷ []) (λ n p e. e) in
    record {
      further = up;
      requests = Each-last (RequestKeeps u k) s.manager.pending r (requests_on s u k k s.manager.pending up h.requests)
          (maybe_further s u k k (k.told s.manager.sent) o up f, (let z : nat_lt s.manager.sent (s.manager.sent + 1) ≡ true = grind (arith, nat_tests) in z));
      sends = sends;
    }

asks_keep : (s : OneKernel) (k : Sides) (machine image : ℕ) (l : PlainLink) (ls : List PlainLink) → Each (Keeping s k (k.told s.manager.sent)) (l ∷ ls) → Keeps s k → ManagerKeeps s k (manage.asks_for s.manager machine image l ls)
asks_keep s k machine image l ls f h =
    let g = (manage.asks_for s.manager machine image l ls).manager in
    let up : Further s k (with_manager s g) k = sent_further s k s.manager.children (s.manager.pending ++ record { n = s.manager.sent; kind = PendingKind.Create; answer = Some l } ∷ []) (λ n p e. e) in
    ask_keeps s k PendingKind.Create (pid_of machine 0) (PlainWhat.Create image ls) (Some l) f.0 ((refl, refl), links_further s (with_manager s g) k k (k.told s.manager.sent) ls up f.1) h

first_keeps : (s : OneKernel) (k : Sides) (i : ℕ) (ls : List PlainLink) → Each (Keeping s k i) ls → MaybeKeeping s k i (slice_get ls 0)
first_keeps s k i [] f = tt
first_keeps s k i (l ∷ ls) f = f.0

-- a child is told, or asked to move
tell_keeps : (s : OneKernel) (k : Sides) (child : Pid) (w : PlainWhat) → SendKeeps (with_manager s (manage.tells s.manager child w).manager) k (manage.tells s.manager child w).message → Keeps s k → ManagerKeeps s k (manage.tells s.manager child w)
tell_keeps s k child w sends h =
    let up = sent_further s k s.manager.children s.manager.pending (λ n p e. e) in
    record { further = up; requests = requests_on s (with_manager s (manage.tells s.manager child w).manager) k k s.manager.pending up h.requests; sends = sends }

if_took : (s : OneKernel) (k : Sides) (b : Bool) (x y : manage.ManagerTook) → ManagerKeeps s k x → ManagerKeeps s k y → ManagerKeeps s k (if b then x else y)
if_took s k true x y h g = h
if_took s k false x y h g = g

-- whom a control link reaches is on the side of the message that came over it
child_on : (s : OneKernel) (k : Sides) (i code : ℕ) (child : Pid) → child_numbered s.manager.children code ≡ Some child → LinkKeeps s k i manager code → IsOn s k i child
child_on s k i code child e (inl (is, z)) = absurd (let f : child_numbered s.manager.children code ≡ None = ap (child_numbered s.manager.children) z in let g : Some child ≡ None = sym e ∙ f in cc)
child_on s k i code child e (inr (q, is, on)) = let f : Some q ≡ Some child = sym is ∙ e in let g : q ≡ child = cc in subst (IsOn s k i) g on

wants_keeps : (s : OneKernel) (k : Sides) (machines images machine image : ℕ) (ls : List PlainLink) → Each (Keeping s k (k.told s.manager.sent)) ls → Keeps s k → ManagerKeeps s k (manage.wants_child s.manager machines images machine image ls)
wants_keeps s k machines images machine image [] f h = bad_keeps s k [] f h
wants_keeps s k machines images machine image (l ∷ ls) f h =
    if_took s k (nat_lt machine machines && nat_lt image images) (manage.asks_for s.manager machine image l ls) (manage.bad_request s.manager (l ∷ ls)) (asks_keep s k machine image l ls f h) (bad_keeps s k (l ∷ ls) f h)

requests_keep : (s : OneKernel) (k : Sides) (machines images : ℕ) (body : List ℕ) (ls : List PlainLink) → Each (Keeping s k (k.told s.manager.sent)) ls → Keeps s k → ManagerKeeps s k (manage.requests_child s.manager machines images body ls)
requests_keep s k machines images (a ∷ b ∷ c ∷ d ∷ []) ls f h =
    if_took s k (a == 1) (manage.wants_child s.manager machines images b (256 * c + d) ls) (manage.bad_request s.manager ls) (wants_keeps s k machines images b (256 * c + d) ls f h) (bad_keeps s k ls f h)
requests_keep s k machines images _ ls f h = bad_keeps s k ls f h

control_keeps : (s : OneKernel) (k : Sides) (child : Pid) (b c d : Bool) (ls : List PlainLink) → IsOn s k (k.told s.manager.sent) child → Each (Keeping s k (k.told s.manager.sent)) ls → Keeps s k
    → ManagerKeeps s k (option_map_or (manage.tells s.manager child) (if b then Some PlainWhat.Stop else if c then Some PlainWhat.Resume else if d then Some PlainWhat.Kill else None) (manage.bad_request s.manager ls))
control_keeps s k child true c d ls on f h = tell_keeps s k child PlainWhat.Stop ((refl, refl), on) h
control_keeps s k child false true d ls on f h = tell_keeps s k child PlainWhat.Resume ((refl, refl), on) h
control_keeps s k child false false true ls on f h = tell_keeps s k child PlainWhat.Kill ((refl, refl), on) h
control_keeps s k child false false false ls on f h = bad_keeps s k ls f h

controls_keep : (s : OneKernel) (k : Sides) (machines : ℕ) (o : Option Pid) (body : List ℕ) (ls : List PlainLink) → ((child : Pid) → o ≡ Some child → IsOn s k (k.told s.manager.sent) child) → Each (Keeping s k (k.told s.manager.sent)) ls → Keeps s k
    → ManagerKeeps s k (manage.controls s.manager machines o body ls)
controls_keep s k machines (Some child) (a ∷ []) ls on f h = control_keeps s k child (a == 2) (a == 3) (a == 4) ls (on child refl) f h
controls_keep s k machines (Some child) (a ∷ m ∷ []) ls on f h =
    let bad = bad_keeps s k ls f h in
    if_took s k (a == 5) (manage.moves_child s.manager machines child m ls) (manage.bad_request s.manager ls)
    (if_took s k (nat_lt m machines) (manage.sends_request s.manager PendingKind.Move child (PlainWhat.Move m) (slice_get ls 0)) (manage.bad_request s.manager ls)
    (ask_keeps s k PendingKind.Move child (PlainWhat.Move m) (slice_get ls 0) (first_keeps s k (k.told s.manager.sent) ls f) ((refl, refl), on child refl) h) bad) bad
controls_keep s k machines None (a ∷ []) ls on f h = bad_keeps s k ls f h
controls_keep s k machines None (a ∷ m ∷ []) ls on f h = bad_keeps s k ls f h
controls_keep s k machines _ _ ls on f h = bad_keeps s k ls f h

-- the request that an answer is to
number_if : (c : Bool) (x r : Pending) (o : Option Pending) (P : Pending → Type 0) → (if c then Some x else o) ≡ Some r → (c ≡ true → P x) → (o ≡ Some r → P r) → P r
number_if true x r o P e f g = let k : x ≡ r = cc in subst P k (f refl)
number_if false x r o P e f g = g e

pending_is : (s : OneKernel) (k : Sides) (n : ℕ) (rs : List Pending) (r : Pending) → manage.pending_numbered n rs ≡ Some r → Each (RequestKeeps s k) rs → (r.n ≡ n) × RequestKeeps s k r
pending_is s k n [] r e h = none_some r e
pending_is s k n (x ∷ xs) r e h =
    number_if (x.n == n) x r (manage.pending_numbered n xs) (λ v. (v.n ≡ n) × RequestKeeps s k v) e (λ c. ((let z : x.n ≡ n = grind (arith, nat_tests) in z), h.0)) (λ g. pending_is s k n xs r g h.1)

without_if : (s : OneKernel) (k : Sides) (c : Bool) (x : Pending) (rs ys : List Pending) → RequestKeeps s k x → Each (RequestKeeps s k) rs → Each (RequestKeeps s k) ys → Each (RequestKeeps s k) (if c then rs else x ∷ ys)
without_if s k true x rs ys f h g = h
without_if s k false x rs ys f h g = (f, g)

without_keeps : (s : OneKernel) (k : Sides) (n : ℕ) (rs : List Pending) → Each (RequestKeeps s k) rs → Each (RequestKeeps s k) (manage.without_pending n rs)
without_keeps s k n [] h = tt
without_keeps s k n (r ∷ rs) h = without_if s k (r.n == n) r rs (manage.without_pending n rs) h.0 h.1 (without_keeps s k n rs h.1)

-- its answer goes over a link of the side of the manager's next message
answer_keeps : (s : OneKernel) (k : Sides) (n : ℕ) (r : Pending) → k.told s.manager.sent ≡ k.told n → (r.n ≡ n) × RequestKeeps s k r → MaybeKeeping s k (k.told s.manager.sent) r.answer
answer_keeps s k n r new f = subst (λ i. MaybeKeeping s k i r.answer) (ap k.told f.0 ∙ sym new) f.1.0

told_by : (k : Sides) (id : MsgId) (sent : ℕ) → k.told sent ≡ side_of k id → id.from ≡ manager → k.told sent ≡ k.told id.n
told_by k id sent new from = new ∙ ap (λ (p : Pid). if pid_eq p manager then k.told id.n else k.of p) from

-- a child that stands gets the next number
get_last : (xs : List Pid) (y : Pid) → slice_get (xs ++ y ∷ []) (length xs) ≡ Some y
get_last [] y = refl
get_last (x ∷ xs) y = get_last xs y

get_more : (xs ys : List Pid) (n : ℕ) (p : Pid) → slice_get xs n ≡ Some p → slice_get (xs ++ ys) n ≡ Some p
get_more [] ys n p e = none_some p e
get_more (x ∷ xs) ys zero p e = e
get_more (x ∷ xs) ys (suc n) p e = get_more xs ys n p e

last_child : (xs : List Pid) (y : Pid) → child_numbered (xs ++ y ∷ []) (length xs + 1) ≡ Some y
last_child xs y = ap (child_numbered (xs ++ y ∷ [])) (add-one (length xs)) ∙ get_last xs y

more_children : (xs ys : List Pid) (n : ℕ) (p : Pid) → child_numbered xs n ≡ Some p → child_numbered (xs ++ ys) n ≡ Some p
more_children xs ys zero p e = none_some p e
more_children xs ys (suc n) p e = get_more xs ys n p e

created_keeps : (s : OneKernel) (k : Sides) (m : PlainMessage) (child : Pid) (o : Option Pending) (t : manage.ManagerTook) → k.told s.manager.sent ≡ side_of k m.id → m.id.from ≡ manager → IsOn s k (side_of k m.id) child → manage.pending_numbered m.id.n s.manager.pending ≡ o
    → manage.takes_answer s.manager m.id.n (s.manager.children ++ child ∷ []) 0 (manage.control_link (length s.manager.children + 1) ∷ []) o ≡ Some t → Keeps s k → ManagerKeeps s k t
created_keeps s k m child None t new from on is e h = none_some t e
created_keeps s k m child (Some r) t new from on is e h =
    let n = m.id.n in
    let children = s.manager.children ++ child ∷ [] in
    let f : manage.answers_over (record s.manager { children = children; pending = manage.without_pending n s.manager.pending }) r.answer 0 (manage.control_link (length s.manager.children + 1) ∷ []) ≡ t = cc in
    let up = sent_further s k children (manage.without_pending n s.manager.pending) (more_children s.manager.children (child ∷ [])) in
    let u = with_manager s (becomes s.manager children (manage.without_pending n s.manager.pending) (s.manager.sent + 1)) in
    let there : IsOn u k (k.told s.manager.sent) child = on_further s u k k (k.told s.manager.sent) child up (subst (λ i. IsOn s k i child) (sym new) on) in
    subst (ManagerKeeps s k) f
    (over_keeps s k children (manage.without_pending n s.manager.pending) r.answer 0 (manage.control_link (length s.manager.children + 1) ∷ []) (more_children s.manager.children (child ∷ [])) (without_keeps s k n s.manager.pending h.requests)
    (answer_keeps s k n r (told_by k m.id s.manager.sent new from) (pending_is s k n s.manager.pending r is h.requests)) (inr (child, last_child s.manager.children child, there), tt))

-- an answer without a link
ended_keeps : (s : OneKernel) (k : Sides) (m : PlainMessage) (code : ℕ) (o : Option Pending) (t : manage.ManagerTook) → k.told s.manager.sent ≡ side_of k m.id → m.id.from ≡ manager → manage.pending_numbered m.id.n s.manager.pending ≡ o
    → manage.takes_answer s.manager m.id.n s.manager.children code [] o ≡ Some t → Keeps s k → ManagerKeeps s k t
ended_keeps s k m code None t new from is e h = none_some t e
ended_keeps s k m code (Some r) t new from is e h =
    let n = m.id.n in
    let f : manage.answers_over (record s.manager { children = s.manager.children; pending = manage.without_pending n s.manager.pending }) r.answer code [] ≡ t = cc in
    subst (ManagerKeeps s k) f
    (over_keeps s k s.manager.children (manage.without_pending n s.manager.pending) r.answer code [] (λ n p e. e) (without_keeps s k n s.manager.pending h.requests)
    (answer_keeps s k n r (told_by k m.id s.manager.sent new from) (pending_is s k n s.manager.pending r is h.requests)) tt)

took_keeps : (s : OneKernel) (k : Sides) (machines images : ℕ) (m : PlainMessage) (w : PlainWhat) (t : manage.ManagerTook) → m.to ≡ manager → k.told s.manager.sent ≡ side_of k m.id → MessageKeeps s k (side_of k m.id) m w → manage.manager_takes s.manager machines images m w ≡ Some t
    → Keeps s k → ManagerKeeps s k t
took_keeps s k machines images m (PlainWhat.User code channel body ls) t to new f e h =
    let g : manage.takes_user s.manager machines images code body ls ≡ t = cc in
    let links : Each (Keeping s k (k.told s.manager.sent)) ls = subst (λ i. Each (Keeping s k i) ls) (sym new) f.2 in
    let over : LinkKeeps s k (k.told s.manager.sent) manager code = subst (λ i. LinkKeeps s k i manager code) (sym new) (subst (λ (p : Pid). LinkKeeps s k (side_of k m.id) p code) to f.1) in
    subst (ManagerKeeps s k) g
    (if_took s k (code == 0) (manage.requests_child s.manager machines images body ls) (manage.controls s.manager machines (child_numbered s.manager.children code) body ls) (requests_keep s k machines images body ls links h)
    (controls_keep s k machines (child_numbered s.manager.children code) body ls (λ child is. child_on s k (k.told s.manager.sent) code child is over) links h))
took_keeps s k machines images m (PlainWhat.Created child) t to new f e h = created_keeps s k m child (manage.pending_numbered m.id.n s.manager.pending) t new f.0.1 f.1 refl e h
took_keeps s k machines images m PlainWhat.NoRoom t to new f e h = ended_keeps s k m 1 (manage.pending_numbered m.id.n s.manager.pending) t new f.1 refl e h
took_keeps s k machines images m (PlainWhat.Moved outcome) t to new f e h = ended_keeps s k m (code_of_outcome outcome) (manage.pending_numbered m.id.n s.manager.pending) t new f.1 refl e h
took_keeps s k machines images m _ t to new f e h = none_some t e

pub manager_keeps : (s : OneKernel) (k : Sides) (id : MsgId) (m : PlainMessage) (t : manage.ManagerTook) → pid_eq m.to manager ≡ true → k.told s.manager.sent ≡ side_of k m.id → MessageKeeps s k (side_of k m.id) m m.what
    → manage.manager_takes s.manager s.machines (length s.images) m m.what ≡ Some t → Keeps s k → Keeps (service.manager_took s id t) k
manager_keeps s k id m t to new f e h = manager_on s k id t (took_keeps s k s.machines (length s.images) m m.what t (pid_eq-is m.to manager to) new f e h) h
