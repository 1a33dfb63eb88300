-- Each step of a process or of its kernel keeps one message under each pending request's number.
use Rattle.dm_law_moves.proofs.Names.{◌≡◌, ◌⊎◌, ℕ, ◌+◌, ◌<◌, ◌≤◌, ◌==◌, Bool, true, false, List, [], ◌∷◌, ◌++◌, length, is_some, refl, ap, ◌∙◌, subst, inl, inr, arith, if◌then◌else◌, Option, None, Some, cases_Bool, false≢true, nat_tests}
use Rattle.dm_law_moves.proofs.Names.{Pid, PlainLink, MsgId, id_of, plain_kind, PlainMessage, PlainWhat, manager, Label, Manager, Pending, OneKernel, with_sent, without_message, replay, entry, reception, after_step, ServerSends}
use Rattle.dm_law_moves.proofs.Names.{manager_takes_lem, Sound, bind-is, ascends, View, still_pending, WhatFits, KernelFits, based_always, fits_step, group_replay, is_pending, HasOne, IsOfPending, PendingHasOne, PendingAscends, requests}
use Rattle.dm_law_moves.proofs.Names.{Outcome, answer_id, sym, PendingKind, IsPending, asked_by, answered_by, sort_of, take, drop, pid_eq, bind, PlainProcess, Alive, answer_to, lands-is, not_server, by_step, is_served, MoveNote, Follows}
use Rattle.dm_law_moves.proofs.Names.{note-is, without_note, id_eq-is, sent_off, id_eq-same, with_note, out_off, Switchboard, none_some}
use Rattle.dm_law_always.specs.Fits.{is_for}
use Rattle.dm_law_one.proofs.Entered.{asks}
use Rattle.dm_onekernel.specs.Manager as manage
use Rattle.dm_onekernel.specs.Service as service
use Rattle.dm_onekernel.specs.Step as kernel
use Rattle.dm_onekernel.specs.Switchboard as board
use Rattle.dm_onekernel.specs.Pieces as pieces
use Rattle.dm_onekernel.specs.Receiving as receiving
use Rattle.dm_law_moves.proofs.Pending.Pairs.{is_request, Neither, neither, answer_of, Ones, off_both, out_ones, put_ones, from_other, took_pair, asked_pair, PairAt, is_answer, answered_ones, made_ones, Off, followed_pair, off_by}
use Rattle.dm_law_moves.proofs.After.{keeps_always}
use Rattle.dm_law_moves.proofs.Promise.Slots.{step_pending}
use Rattle.dm_law_rule.proofs.Trails.Spares.{and_no as and_false}
use Rattle.dm_law_moves.proofs.Pending.Pairs.{to_process}

-- a request is answered where its receiver has ended: for a piece, or to move
gone_ones : (r e : MsgId → ℕ) (s : OneKernel) (id : MsgId) (m : PlainMessage) (v w : PlainWhat) → m.what ≡ v → service.gone_what v ≡ Some w → s.bag id ≡ Some m → Sound r e s → Ones s
    → Ones (with_sent (without_message s id) (Some (answer_to m w)))
gone_ones r e s id m (PlainWhat.Read base len) w is f there h ones =
    answered_ones r e s (without_message s id) (with_sent (without_message s id) (Some (answer_to m w))) id m w refl (λ n p. p) there (ap asks is) (ap is_request is) h ones (out_ones s id m there (neither m.what (PlainWhat.Read base len) is refl refl) ones)
gone_ones r e s id m (PlainWhat.Write base bytes) w is f there h ones =
    answered_ones r e s (without_message s id) (with_sent (without_message s id) (Some (answer_to m w))) id m w refl (λ n p. p) there (ap asks is) (ap is_request is) h ones (out_ones s id m there (neither m.what (PlainWhat.Write base bytes) is refl refl) ones)
gone_ones r e s id m (PlainWhat.Move machine) w is f there h ones =
    let g : PlainWhat.Moved Outcome.Ended ≡ w = cc in
    made_ones r e s (without_message s id) (with_sent (without_message s id) (Some (answer_to m w))) id m w refl (λ j. refl) (λ j. refl) (λ n p. p) there (ap asks is) (sym (ap is_answer g)) h ones
gone_ones r e s id m _ w is f there h ones = cc

-- every label but what a server takes
pub record Takes (s : OneKernel) : Type 0 where
  pub board : (id : MsgId) (m : PlainMessage) (k : board.BoardTook) → s.bag id ≡ Some m → board.board_takes s.switchboard m m.what ≡ Some k → Ones (service.switchboard_took s id k)
  pub manager : (id : MsgId) (m : PlainMessage) (k : manage.ManagerTook) → s.bag id ≡ Some m → manage.manager_takes s.manager s.machines (length s.images) m m.what ≡ Some k → Ones (service.manager_took s id k)

pub label_ones : (r e : MsgId → ℕ) (s t : OneKernel) (l : Label) → Sound r e s → ((p : Pid) (n : MoveNote) → s.notes p ≡ Some n → n.id.answer ≡ false) → Ones s → Takes s → kernel.step s l ≡ Some t → Ones t
label_ones r e s t l sound requests h takes =
    -- what the kernel of a living process serves
    -- and hears how that ended
    -- a process follows the request from now on
    let noted_ones : (r e : MsgId → ℕ) (s : OneKernel) (id : MsgId) (m : PlainMessage) (q : Pid) (k : MoveNote) → s.bag id ≡ Some m → k.id ≡ id → asks m.what ≡ true → Sound r e s → Ones s → Ones (with_note (without_message s id) q k) =
    λ r e s id m q k there name asked h ones n p. search (arith, id_eq-is, id.from, id.n, h.entered.requests, and_false, s.noted, to_process, s.bag, out_off) in
    let unnoted_ones : (s : OneKernel) (id : MsgId) (q : Pid) (x : PlainMessage) → s.noted id ≡ Some q → id.answer ≡ false → x.id ≡ answer_id id → is_answer x.what ≡ true → Ones s → Ones (with_sent (without_note s q id) (Some x)) =
    λ s id q x noted asked name answers ones n p. search (arith, id_eq-is, x.id, followed_pair, s.bag, s.noted, sent_off, and_false, id_eq-same, off_by) in
    let served_neither : (v w : PlainWhat) → v ≡ w → is_served w ≡ true → Neither v = λ v w e s. grind (arith, nat_tests, neither) in
    let unanswered : (id : MsgId) (o : Outcome) (p : Pid) (n : MoveNote) → Follows s id o p n → id.answer ≡ false = λ id o p n f. ap (λ (i : MsgId). i.answer) (sym (note-is e s id p n f.noted f.notes sound.notes)) ∙ requests p n f.notes in
    -- a name of a process's own
    let own_off : (r e : MsgId → ℕ) (s : OneKernel) (p : Pid) (x : PlainProcess) (i : MsgId) (k : ℕ) → Sound r e s → s.processes p ≡ Some (Alive x) → i ≡ id_of p k → (n : ℕ) → Off i n =
    λ r e s p x i k sound alive is n. from_other i n (ap (λ (j : MsgId). pid_eq j.from manager) is ∙ (not_server s p x alive sound.made).1) in
    by_step Ones s t l (record {
      ran = λ p k x m is w. h;
      replies = λ p n k c d y is w. h;
      sends = λ p id k m y is same w. (let (z, sent, pending, counted) = w.so.counts in put_ones (kernel.goes_on s p y) m (λ n q. own_off r e s p w.so.x m.id z.sent sound w.so.is.alive counted.id n) h);
      waits = λ p k y is w. h;
      outputs = λ p w k v y is n. h;
      ends = λ p y next is w. h;
      receives = λ p id y is w c.
          (let (x, hand, more) = bind-is (kernel.at_hand s p) (λ v. bind (s.bag id) (receiving.completes_with p v)) (receiving.Receives y) c in
          let (m, there, last) = bind-is (s.bag id) (receiving.completes_with p x) (receiving.Receives y) more in
          out_ones s id m there (grind (arith, nat_tests)) h);
      refuses = λ p id c d y is w f. h;
      dropped = λ id m y is w f. out_ones s id m w.there (grind (arith, nat_tests, neither)) h;
      gone = λ id m y is w v f. gone_ones r e s id m m.what v refl f w.there sound h;
      asked = λ id m x machine is w f. noted_ones r e s id m m.to (record { id = id; asker = m.sender }) w.there refl (ap asks f) sound h;
      answered = λ id o p n is f. unnoted_ones s id p (record { id = answer_id id; to = n.asker; sender = p; what = PlainWhat.Moved o }) f.noted (unanswered id o p n f) refl refl h;
      stops = λ id m x b is w f. out_ones s id m w.there (served_neither m.what m.what refl f.served) h;
      kills = λ id m x is w f. out_ones s id m w.there (neither m.what PlainWhat.Kill f refl refl) h;
      reads = λ id m x base len is w f.
          (let block = PlainWhat.Block (take len (drop base x.memory)) in
          answered_ones r e s (service.changed s id m x) (with_sent (service.changed s id m x) (Some (answer_to m block))) id m block refl (λ n p. p) w.there (ap asks f) (ap is_request f) sound h
          (out_ones s id m w.there (neither m.what (PlainWhat.Read base len) f refl refl) h));
      writes = λ id m x base bytes is w f.
          (let u = service.changed s id m (record x { memory = pieces.written_at x.memory base bytes }) in
          answered_ones r e s u (with_sent u (Some (answer_to m PlainWhat.Written))) id m PlainWhat.Written refl (λ n p. p) w.there (ap asks f) (ap is_request f) sound h (out_ones s id m w.there (neither m.what (PlainWhat.Write base bytes) f refl refl) h));
      lands = λ id m x q y is w f c.
          put_ones (service.changed s id m y) q (λ n p. own_off r e s m.to x q.id x.sent sound w.alive (lands-is m.to x m x.status (pieces.Next q y) c).0.id n) (out_ones s id m w.there (served_neither m.what m.what refl f.served) h);
      done = λ id m x c y is w f g. out_ones s id m w.there (served_neither m.what m.what refl f.served) h;
      board = λ id m k is there c took. takes.board id m k there took;
      manager = λ id m k is there c took. takes.manager id m k there took;
      creates = λ id child m image links i is w found name.
          (let u = service.with_created (without_message s id) child i links in
          made_ones r e s u (with_sent u (Some (answer_to m (PlainWhat.Created child)))) id m (PlainWhat.Created child) refl (λ j. refl) (λ j. refl) (λ n p. p) w.there (ap asks w.what) refl sound h);
      no_room = λ id a b m image links is w.
          made_ones r e s (without_message s id) (with_sent (without_message s id) (Some (answer_to m PlainWhat.NoRoom))) id m PlainWhat.NoRoom refl (λ j. refl) (λ j. refl) (λ n p. p) w.there (ap asks w.what) refl sound h;
    })

-- Wherever the rule leads, each pending request of the manager's has one message under its number.

-- the manager takes a user message: its requests stay, or there is one more, which it sends
record Asked (g : Manager) (k : manage.ManagerTook) : Type 0 where
  link : Option PlainLink
  kind : PendingKind
  request : PlainMessage
  pending : k.manager.pending ≡ g.pending ++ record { n = g.sent; kind = kind; answer = link } ∷ []
  sends : k.message ≡ Some request
  name : request.id ≡ id_of manager g.sent
  creates : is_request request.what ≡ true

abbrev UserTook : Manager → manage.ManagerTook → Type 0
UserTook g k = (k.manager.pending ≡ g.pending) ⊎ Asked g k

bad_took : (g : Manager) (links : List PlainLink) → UserTook g (manage.bad_request g links)
bad_took g links = grind (arith, nat_tests)

if_took : (g : Manager) (c : Bool) (x y : manage.ManagerTook) → UserTook g x → UserTook g y → UserTook g (if c then x else y)
if_took g c x y h k = grind (arith, nat_tests)

wants_took : (g : Manager) (machines images machine image : ℕ) (links : List PlainLink) → UserTook g (manage.wants_child g machines images machine image links)
wants_took g machines images machine image links = grind (arith, nat_tests, bad_took, if_took)

controls_took : (g : Manager) (machines : ℕ) (child : Option Pid) (body : List ℕ) (links : List PlainLink) → UserTook g (manage.controls g machines child body links)
controls_took g machines (Some child) (operation ∷ []) links = grind (arith, nat_tests, bad_took)
controls_took g machines (Some child) (operation ∷ machine ∷ []) links = search (arith, if_took, bad_took)
controls_took g machines None body links = bad_took g links
controls_took g machines (Some child) [] links = bad_took g links
controls_took g machines (Some child) (a ∷ b ∷ c ∷ body) links = bad_took g links

pending_split : (n : ℕ) (xs : List Pending) (r : Pending) → is_some (manage.pending_numbered n (xs ++ r ∷ [])) ≡ true → (is_some (manage.pending_numbered n xs) ≡ true) ⊎ (r.n ≡ n)
pending_split n [] r e = grind (arith, nat_tests)
pending_split n (x ∷ xs) r e = grind (arith, nat_tests, (pending_split n xs r))

-- one less: the one whose number it is
gone_after : (n from to : ℕ) (xs : List Pending) → ascends from xs to ≡ true → n < from → manage.pending_numbered n xs ≡ None
gone_after n from to [] up less = refl
gone_after n from to (x ∷ xs) up less =
    let least : from ≤ x.n = grind (arith, nat_tests) in
    let more : ascends (x.n + 1) xs to ≡ true = grind (arith, nat_tests) in
    let off : (x.n == n) ≡ false = grind (arith, nat_tests) in
    ap (λ (c : Bool). if c then Some x else manage.pending_numbered n xs) off ∙ gone_after n (x.n + 1) to xs more (omega (arith, least, less))

without_gone : (n from to : ℕ) (xs : List Pending) → ascends from xs to ≡ true → manage.pending_numbered n (manage.without_pending n xs) ≡ None
without_gone n from to [] up = refl
without_gone n from to (x ∷ xs) up =
    let more : ascends (x.n + 1) xs to ≡ true = grind (arith, nat_tests) in
    elim (cases_Bool (x.n == n)) [
      | inl same ↦
          let f : x.n ≡ n = grind (arith, nat_tests) in
          ap (λ (c : Bool). manage.pending_numbered n (if c then xs else x ∷ manage.without_pending n xs)) same ∙ gone_after n (x.n + 1) to xs more (omega (arith, f))
      | inr off ↦
          ap (λ (c : Bool). manage.pending_numbered n (if c then xs else x ∷ manage.without_pending n xs)) off
          ∙ ap (λ (c : Bool). if c then Some x else manage.pending_numbered n (manage.without_pending n xs)) off ∙ without_gone n (x.n + 1) to xs more
    ]

pending_in : (s : OneKernel) (id : MsgId) (k : manage.ManagerTook) (n : ℕ) → is_pending (service.manager_took s id k) n ≡ true → is_some (manage.pending_numbered n k.manager.pending) ≡ true
pending_in s id k n p = grind (arith, nat_tests)

-- an answer to a request
answered_took : (s : OneKernel) (id : MsgId) (m : PlainMessage) (k : manage.ManagerTook) → m.id ≡ id → id.answer ≡ true → k.manager.pending ≡ manage.without_pending m.id.n s.manager.pending → ServerSends manager s.manager.sent k.message k.manager.sent → ascends 0 s.manager.pending s.manager.sent ≡ true → Ones s
    → Ones (service.manager_took s id k)
answered_took s id m k name answer pending sends up h n p = grind (arith, nat_tests, pending_in, took_pair, still_pending, without_gone)

-- a user message
user_ones : (r e : MsgId → ℕ) (s : OneKernel) (id : MsgId) (m : PlainMessage) (k : manage.ManagerTook) → s.bag id ≡ Some m → Neither m.what → UserTook s.manager k → ServerSends manager s.manager.sent k.message k.manager.sent → ascends 0 s.manager.pending s.manager.sent ≡ true → Sound r e s → Ones s
    → Ones (service.manager_took s id k)
user_ones r e s id m k there w (inl same) sends up sound h n p = grind (arith, nat_tests, pending_in, took_pair, off_both)
user_ones r e s id m k there w (inr asked) sends up sound h n p = grind (arith, nat_tests, pending_split, pending_in, took_pair, off_both, asked_pair)

manager_kind : (r e : MsgId → ℕ) (s : OneKernel) (id : MsgId) (m : PlainMessage) (k : manage.ManagerTook) (w : PlainWhat) → m.what ≡ w → manage.manager_takes s.manager s.machines (length s.images) m w ≡ Some k → s.bag id ≡ Some m → WhatFits s id m w → ServerSends manager s.manager.sent k.message k.manager.sent
    → ascends 0 s.manager.pending s.manager.sent ≡ true → Sound r e s → Ones s → Ones (service.manager_took s id k)
manager_kind r e s id m k (PlainWhat.User code channel body links) w is there fits sends up sound h =
    let requests_took : (g : Manager) (machines images : ℕ) (body : List ℕ) (links : List PlainLink) → UserTook g (manage.requests_child g machines images body links) =
    λ g machines images body links. grind (arith, nat_tests, if_took, wants_took, bad_took) in
    let f : manage.takes_user s.manager s.machines (length s.images) code body links ≡ k = cc in
    user_ones r e s id m k there (neither m.what (PlainWhat.User code channel body links) w refl refl) (subst (UserTook s.manager) f (search (if_took, requests_took, controls_took))) sends up sound h
manager_kind r e s id m k (PlainWhat.Created child) w is there fits sends up sound h =
    answered_took s id m k (sound.entered.named id m there) fits.1 (grind (arith, nat_tests)) sends up h
manager_kind r e s id m k PlainWhat.NoRoom w is there fits sends up sound h =
    answered_took s id m k (sound.entered.named id m there) fits.1 (grind (arith, nat_tests)) sends up h
manager_kind r e s id m k (PlainWhat.Moved outcome) w is there fits sends up sound h =
    answered_took s id m k (sound.entered.named id m there) fits.1 (grind (arith, nat_tests)) sends up h
manager_kind r e s id m k v w is there fits sends up sound h = cc

board_ones : (s : OneKernel) (id : MsgId) (m : PlainMessage) (b : Switchboard) (o : Option PlainMessage) → s.bag id ≡ Some m → board.board_takes s.switchboard m m.what ≡ Some (record { switchboard = b; answer = o }) → Ones s
    → Ones (service.switchboard_took s id (record { switchboard = b; answer = o }))
board_ones s id m b None there took h = grind (arith, nat_tests, s.switchboard.sent, b.sent, put_ones, from_other)
board_ones s id m b (Some x) there took h = grind (arith, nat_tests, s.switchboard.sent, b.sent, put_ones, from_other)

step_ones : (r e : MsgId → ℕ) (s t : OneKernel) (l : Label) → kernel.step s l ≡ Some t → KernelFits s → ascends 0 s.manager.pending s.manager.sent ≡ true → Sound r e s → Ones s → Ones t
step_ones r e s t l is fits up sound h =
    label_ones r e s t l sound (λ p n is_. (fits.notes p n is_).unanswered) h (record {
      board = λ id m k there took. board_ones s id m k.switchboard k.answer there took h;
      manager = λ id m k there took. manager_kind r e s id m k m.what refl took there (fits.messages id m there) (manager_takes_lem s.manager s.machines (length s.images) m m.what k took).2.sends up sound h;
    }) is

-- a run
replay_ones : (ls : List Label) (r e : MsgId → ℕ) (s t : OneKernel) (v : View) → replay s ls ≡ Some t → KernelFits s → ascends 0 s.manager.pending s.manager.sent ≡ true → Sound r e s → Ones s → Ones t
replay_ones [] r e s t v is fits up sound h = let f : s ≡ t = cc in subst Ones f h
replay_ones (l ∷ ls) r e s t v is fits up sound h =
    let (u, first, rest) = bind-is (kernel.step s l) (λ (x : OneKernel). replay x ls) t is in
    let a = after_step r e s u l first sound in
    replay_ones ls (λ i. r i + reception i l) (λ i. e i + entry i s u) u t v rest (fits_step r e s u l first sound up fits) (step_pending s u v l first sound.entered.named up) a.sound (step_ones r e s u l first fits up sound h)

-- of which kind the request is
kind_is : (k : PendingKind) (o : Option Pending) (r : Pending) → is_for k o ≡ true → o ≡ Some r → k ≡ r.kind
kind_is k o r h1 h2 = search arith

request_kind : (s : OneKernel) (i : MsgId) (m : PlainMessage) (r : Pending) (w : PlainWhat) → is_request w ≡ true → WhatFits s i m w → manage.pending_numbered i.n s.manager.pending ≡ Some r → sort_of (plain_kind w) ≡ asked_by r.kind
request_kind s i m r (PlainWhat.Create image links) e fits is = ap asked_by (kind_is PendingKind.Create (manage.pending_numbered i.n s.manager.pending) r fits.5.pending is)
request_kind s i m r (PlainWhat.Move machine) e fits is = ap asked_by (kind_is PendingKind.Move (manage.pending_numbered i.n s.manager.pending) r fits.4.pending is)
request_kind s i m r _ e fits is = absurd (false≢true e)

answer_kind : (s : OneKernel) (i : MsgId) (m : PlainMessage) (r : Pending) (w : PlainWhat) → is_answer w ≡ true → WhatFits s i m w → manage.pending_numbered i.n s.manager.pending ≡ Some r → sort_of (plain_kind w) ≡ answered_by r.kind
answer_kind s i m r (PlainWhat.Created child) e fits is = ap answered_by (kind_is PendingKind.Create (manage.pending_numbered i.n s.manager.pending) r fits.2.pending is)
answer_kind s i m r PlainWhat.NoRoom e fits is = ap answered_by (kind_is PendingKind.Create (manage.pending_numbered i.n s.manager.pending) r fits.2.pending is)
answer_kind s i m r (PlainWhat.Moved outcome) e fits is = ap answered_by (kind_is PendingKind.Move (manage.pending_numbered i.n s.manager.pending) r fits.2.pending is)
answer_kind s i m r _ e fits is = absurd (false≢true e)

numbered_at : (n : ℕ) (xs : List Pending) (r : Pending) → manage.pending_numbered n xs ≡ Some r → r.n ≡ n
numbered_at n [] r e = none_some r e
numbered_at n (x ∷ xs) r e = elim (cases_Bool (x.n == n)) [
  | inl same ↦
      let f : Some x ≡ Some r = sym (ap (λ (c : Bool). if c then Some x else manage.pending_numbered n xs) same) ∙ e in
      let g : x ≡ r = cc in
      ap (λ (y : Pending). y.n) (sym g) ∙ grind (arith, nat_tests)
  | inr off ↦ numbered_at n xs r (sym (ap (λ (c : Bool). if c then Some x else manage.pending_numbered n xs) off) ∙ e)
]

has_one : (r_ e : MsgId → ℕ) (s : OneKernel) (n : ℕ) (r : Pending) → manage.pending_numbered n s.manager.pending ≡ Some r → KernelFits s → Sound r_ e s → PairAt s n → HasOne s r
has_one r_ e s n r is fits sound h =
    let at_ : n ≡ r.n = sym (numbered_at n s.manager.pending r is) in
    let g : PairAt s r.n = subst (PairAt s) at_ h in
    let numbered : manage.pending_numbered r.n s.manager.pending ≡ Some r = ap (λ (k : ℕ). manage.pending_numbered k s.manager.pending) (sym at_) ∙ is in
    let i = id_of manager r.n in
    record {
      one = grind (arith, nat_tests);
      request = λ m there. request_kind s i m r m.what (grind (arith, nat_tests)) (fits.messages i m there) numbered;
      answer = λ m there. answer_kind s (answer_of r.n) m r m.what (grind (arith, nat_tests)) (fits.messages (answer_of r.n) m there) numbered;
      followed = λ p noted.
          let (k, notes, name) = sound.notes.follows i p noted in
          let f = (fits.notes p k notes).pending.pending in
          sym (kind_is PendingKind.Move (manage.pending_numbered r.n s.manager.pending) r (ap (λ (j : MsgId). is_for PendingKind.Move (manage.pending_numbered j.n s.manager.pending)) (sym name) ∙ f) numbered);
    }

-- each of these messages, and each request that is followed, is of a pending request
for_some : (k : PendingKind) (o : Option Pending) → is_for k o ≡ true → is_some o ≡ true
for_some k o e = grind (arith, nat_tests)

id_as : (i : MsgId) (p : Pid) → i.from ≡ p → i.answer ≡ false → i ≡ id_of p i.n
id_as i p from asked = λ j. record { from = from j; n = i.n; answer = asked j }

is_asked : (s : OneKernel) (i : MsgId) (k : PendingKind) → i.answer ≡ false → IsPending s k i → IsOfPending s i
is_asked s i k asked h = record { name = inl (id_as i manager h.from asked); pending = for_some k (manage.pending_numbered i.n s.manager.pending) h.pending }

is_answered : (s : OneKernel) (i : MsgId) (k : PendingKind) → i.answer ≡ true → IsPending s k i → IsOfPending s i
is_answered s i k answers h = record { name = inr (λ j. record { from = h.from j; n = i.n; answer = answers j }); pending = for_some k (manage.pending_numbered i.n s.manager.pending) h.pending }

-- wherever the rule leads
pub pending_has_one : PendingHasOne
pending_has_one b es pt valid leads =
    let based = based_always b es pt valid leads in
    let sane = based.phased.sane in
    let ones = keeps_always b (λ q. Ones q.kernel) (λ q d w fit is run h. (let e_ : Ones w.point.kernel = search (replay_ones, group_replay, run.based) in e_)) valid (λ n p. absurd (false≢true p)) es pt leads in
    record {
      has = λ n r is. has_one sane.r sane.e pt.kernel n r is based.fits sane.sound (ones n (ap is_some is));
      only = λ i m there e. search (arith, is_asked, is_answered, based.fits.messages i m there, sane.sound.entered.requests i m there);
      followed = λ i p noted.
          let (k, notes, name) = sane.sound.notes.follows i p noted in
          let f = based.fits.notes p k notes in (
            id_as i manager (ap (λ (j : MsgId). j.from) (sym name) ∙ f.pending.from) (ap (λ (j : MsgId). j.answer) (sym name) ∙ f.unanswered),
            for_some PendingKind.Move (manage.pending_numbered i.n pt.kernel.manager.pending) (ap (λ (j : MsgId). is_for PendingKind.Move (manage.pending_numbered j.n pt.kernel.manager.pending)) (sym name) ∙ f.pending.pending),
          );
    }

pub pending_ascends : PendingAscends
pending_ascends b es pt valid leads = (based_always b es pt valid leads).pending
