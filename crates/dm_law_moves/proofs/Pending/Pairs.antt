-- Under a pending request's number there is the request or its answer: what keeps that.
use Rattle.dm_law_moves.proofs.Names.{◌≡◌, ℕ, ◌<◌, ◌==◌, ◌&&◌, Bool, true, false, is_some, refl, ap, ◌∙◌, sym, subst, inl, inr, arith, if◌then◌else◌, Option, None, Some, cases_Bool, false≢true, nat_tests, pid_eq, MsgId, id_eq, id_of}
use Rattle.dm_law_moves.proofs.Names.{bool_eq, PlainMessage, PlainWhat, manager, Pending, OneKernel, with_sent, answer_id, answer_to, without_message, id_eq-is, id_eq-same, ServerSends, Sound, not_counted, ascends, numbered_from, not_true}
use Rattle.dm_law_moves.proofs.Names.{parts, is_pending, out_off, sent_off, manager_took, Pid, Notes-agree, ⊤, ◌≤◌, counts}
use Rattle.dm_law_one.proofs.Entered.{asks}
pub use Rattle.dm_law_rule.proofs.Trails.Spares.{and_no as and_false}
use Rattle.dm_onekernel.specs.Manager as manage

-- a request to make a process or to move one, and an answer to one
abbrev pub is_request : PlainWhat → Bool
is_request (PlainWhat.Create image links) = true
is_request (PlainWhat.Move machine) = true
is_request w = false

abbrev pub is_answer : PlainWhat → Bool
is_answer (PlainWhat.Created child) = true
is_answer PlainWhat.NoRoom = true
is_answer (PlainWhat.Moved outcome) = true
is_answer w = false

pub record Neither (w : PlainWhat) : Type 0 where
  pub request : is_request w ≡ false
  pub answer : is_answer w ≡ false

pub neither : (v w : PlainWhat) → v ≡ w → is_request w ≡ false → is_answer w ≡ false → Neither v
neither v w e c a = record { request = ap is_request e ∙ c; answer = ap is_answer e ∙ a }

abbrev pub Pair : Option PlainMessage → Option PlainMessage → Option Pid → Type 0
Pair (Some m) None None = is_request m.what ≡ true
Pair None (Some m) None = is_answer m.what ≡ true
Pair None None (Some p) = ⊤
Pair a b c = ⊥

abbrev pub answer_of : ℕ → MsgId
answer_of n = answer_id (id_of manager n)

-- each pending request has one of the two, or is followed
abbrev pub PairAt : OneKernel → ℕ → Type 0
PairAt s n = Pair (s.bag (id_of manager n)) (s.bag (answer_of n)) (s.noted (id_of manager n))

abbrev pub Ones : OneKernel → Type 0
Ones s = (n : ℕ) → is_pending s n ≡ true → PairAt s n

pub off_request : (s : OneKernel) (n : ℕ) (id : MsgId) (m : PlainMessage) → Ones s → is_pending s n ≡ true → s.bag id ≡ Some m → is_request m.what ≡ false → id_eq id (id_of manager n) ≡ false
off_request s n id m h p there off =
    not_true (id_eq id (id_of manager n)) (λ e. (let e_ : ⊥ = grind (arith, nat_tests, (h n p), (sym (ap s.bag (id_eq-is id (id_of manager n) e)) ∙ there)) in e_))

-- under a number two kernels have the same
pub record Same (s t : OneKernel) (n : ℕ) : Type 0 where
  pub was : is_pending s n ≡ true
  pub request : t.bag (id_of manager n) ≡ s.bag (id_of manager n)
  pub answer : t.bag (answer_of n) ≡ s.bag (answer_of n)
  pub noted : t.noted (id_of manager n) ≡ s.noted (id_of manager n)

pub by_same : (s t : OneKernel) (n : ℕ) → Ones s → Same s t n → PairAt t n
by_same s t n h k = grind (arith, nat_tests)

-- a message goes, or enters under another name
abbrev pub Off : MsgId → ℕ → Type 0
Off i n = (id_eq i (id_of manager n) ≡ false) × (id_eq i (answer_of n) ≡ false)

pub off_both : (s : OneKernel) (n : ℕ) (id : MsgId) (m : PlainMessage) → Ones s → is_pending s n ≡ true → s.bag id ≡ Some m → Neither m.what → Off id n
off_both s n id m h p there w = search (arith, off_request, w.request, w.answer, not_true, id_eq-is)

pub out_ones : (s : OneKernel) (id : MsgId) (m : PlainMessage) → s.bag id ≡ Some m → Neither m.what → Ones s → Ones (without_message s id)
out_ones s id m there w h n p = grind (arith, nat_tests, off_both, by_same, out_off)

pub put_ones : (u : OneKernel) (x : PlainMessage) → ((n : ℕ) → is_pending u n ≡ true → Off x.id n) → Ones u → Ones (with_sent u (Some x))
put_ones u x off h n p = by_same u (with_sent u (Some x)) n h (record { was = p; request = sent_off u x (id_of manager n) (off n p).0; answer = sent_off u x (answer_of n) (off n p).1; noted = refl })

-- names
pub from_other : (i : MsgId) (n : ℕ) → pid_eq i.from manager ≡ false → Off i n
from_other i n e = (ap (λ (c : Bool). (c && (i.n == n)) && bool_eq i.answer false) e, ap (λ (c : Bool). (c && (i.n == n)) && bool_eq i.answer true) e)

pub answer_off : (id : MsgId) (n : ℕ) → id.answer ≡ false → id_eq id (id_of manager n) ≡ false → Off (answer_id id) n
answer_off id n asked off = (and_false (pid_eq id.from manager && (id.n == n)), sym (ap (λ (a : Bool). (pid_eq id.from manager && (id.n == n)) && bool_eq a false) asked) ∙ off)

pub off_by : (i j : MsgId) (n : ℕ) → i ≡ j → Off j n → Off i n
off_by i j n e h = subst (λ (k : MsgId). Off k n) (sym e) h

-- a message is answered that is no request to make a process
pub answered_ones : (r e : MsgId → ℕ) (s u t : OneKernel) (id : MsgId) (m : PlainMessage) (w : PlainWhat) → with_sent u (Some (answer_to m w)) ≡ t → ((n : ℕ) → is_pending u n ≡ true → is_pending s n ≡ true) → s.bag id ≡ Some m
    → asks m.what ≡ true → is_request m.what ≡ false → Sound r e s → Ones s → Ones u → Ones t
answered_ones r e s u t id m w is up there asked off h ones on =
    let name : (answer_to m w).id ≡ answer_id id = ap answer_id (h.entered.named id m there) in
    subst Ones is (put_ones u (answer_to m w) (λ n p. off_by (answer_to m w).id (answer_id id) n name (answer_off id n (h.entered.requests id m there asked) (off_request s n id m ones (up n p) there off))) on)

pub unnoted_in : (r e : MsgId → ℕ) (s : OneKernel) (i : MsgId) (m : PlainMessage) → Sound r e s → s.bag i ≡ Some m → s.noted i ≡ None
unnoted_in r e s i m h there = search (arith, Notes-agree, h.entered, h.notes)

pub made_ones : (r e : MsgId → ℕ) (s u t : OneKernel) (id : MsgId) (m : PlainMessage) (w : PlainWhat) → with_sent u (Some (answer_to m w)) ≡ t → ((i : MsgId) → u.bag i ≡ (without_message s id).bag i)
    → ((i : MsgId) → u.noted i ≡ s.noted i) → ((n : ℕ) → is_pending u n ≡ true → is_pending s n ≡ true) → s.bag id ≡ Some m → asks m.what ≡ true → is_answer w ≡ true
    → Sound r e s → Ones s → Ones t
made_ones r e s u t id m w is same noted up there asked answers h ones =
    let x = answer_to m w in
    let name : x.id ≡ answer_id id = ap answer_id (h.entered.named id m there) in
    let asking : id.answer ≡ false = h.entered.requests id m there asked in
    let of : (n : ℕ) → is_pending u n ≡ true → PairAt (with_sent u (Some x)) n = λ n p.
    elim (cases_Bool (id_eq id (id_of manager n))) [
      | inl here ↦ grind (arith, nat_tests, sent_off, parts, (noted (id_of manager n) ∙ (ap s.noted (sym (id_eq-is id (id_of manager n) here)) ∙ unnoted_in r e s id m h there)))
      | inr apart ↦
          let off = off_by x.id (answer_id id) n name (answer_off id n asking apart) in
          let out : id_eq id (answer_of n) ≡ false = ap (λ (a : Bool). (pid_eq id.from manager && (id.n == n)) && bool_eq a true) asking ∙ and_false (pid_eq id.from manager && (id.n == n)) in
          by_same s (with_sent u (Some x)) n ones
          (search (arith, sent_off, off.0, out_off, off.1))
    ] in
    subst Ones is of

-- what the manager sends is under its next number
pending_some : (s : OneKernel) (n : ℕ) (o : Option Pending) → manage.pending_numbered n s.manager.pending ≡ o → is_some o ≡ true → ascends 0 s.manager.pending s.manager.sent ≡ true → n < s.manager.sent
pending_some s n None is p up = absurd (false≢true p)
pending_some s n (Some r) is p up = let k = (numbered_from s.manager.pending 0 s.manager.sent n r up is).1 in grind (arith, nat_tests)

took_at : (s u : OneKernel) (id i : MsgId) (o : Option PlainMessage) → u.bag i ≡ (without_message s id).bag i → id_eq id i ≡ false → ((x : PlainMessage) → o ≡ Some x → id_eq x.id i ≡ false) → (with_sent u o).bag i ≡ s.bag i
took_at s u id i o same off put = grind (arith, nat_tests, out_off, sent_off)

-- the manager takes a message: a request that was pending has what it had
pub took_pair : (s : OneKernel) (id : MsgId) (k : manage.ManagerTook) (n : ℕ) → ServerSends manager s.manager.sent k.message k.manager.sent → ascends 0 s.manager.pending s.manager.sent ≡ true → is_pending s n ≡ true → Off id n → Ones s
    → PairAt (manager_took s id k) n
took_pair s id k n sends up p off h =
    let pending_less : (s : OneKernel) (n : ℕ) → is_pending s n ≡ true → ascends 0 s.manager.pending s.manager.sent ≡ true → n < s.manager.sent = λ s n p up. pending_some s n (manage.pending_numbered n s.manager.pending) refl p up in
    grind (arith, nat_tests, pending_less, off_by, by_same, took_at)

unfollowed : (r e : MsgId → ℕ) (s : OneKernel) (i : MsgId) (o : Option Pid) → s.noted i ≡ o → Sound r e s → i ≡ id_of manager s.manager.sent → o ≡ None
unfollowed r e s i None is h at_ = refl
unfollowed r e s i (Some p) is h at_ =
    let next_uncounted : (e : MsgId → ℕ) (s : OneKernel) → ((i : MsgId) → 1 ≤ e i → counts s i ≡ true) → 1 ≤ e (id_of manager s.manager.sent) → ⊥ = λ e s counted least. grind (arith, nat_tests) in
    absurd (next_uncounted e s h.entered.counted (subst (λ (j : MsgId). 1 ≤ e j) at_ (h.notes.followed i p is).entered))

-- nothing has come under its next number
pub asked_pair : (r e : MsgId → ℕ) (s : OneKernel) (id : MsgId) (k : manage.ManagerTook) (x : PlainMessage) → k.message ≡ Some x → x.id ≡ id_of manager s.manager.sent → is_request x.what ≡ true → Sound r e s
    → PairAt (manager_took s id k) s.manager.sent
asked_pair r e s id k x sends name creates h =
    let new_pair : (a b : Option PlainMessage) (c : Option Pid) (x : PlainMessage) → is_request x.what ≡ true → a ≡ Some x → b ≡ None → c ≡ None → Pair a b c = λ a b c x e f g k. grind (arith, nat_tests) in
    let n = s.manager.sent in
    let i = id_of manager n in
    let u = record (without_message s id) { manager = k.manager } in
    let off : id_eq x.id (answer_of n) ≡ false = ap (λ (j : MsgId). id_eq j (answer_of n)) name ∙ and_false (pid_eq manager manager && (n == n)) in
    -- it asks for a process: the request is the new one's
    let none_out : (if (id_eq id (answer_of n)) then None else s.bag (answer_of n)) ≡ None = grind (arith, nat_tests, (let e_ : s.bag (answer_of s.manager.sent) ≡ None = grind (arith, nat_tests, not_counted) in e_)) in
    new_pair ((manager_took s id k).bag i) ((manager_took s id k).bag (answer_of n)) ((manager_took s id k).noted i) x creates
    (ap (λ (o : Option PlainMessage). (with_sent u o).bag i) sends ∙ ap (λ (c : Bool). if c then Some x else u.bag i) (ap (λ (j : MsgId). id_eq j i) name ∙ id_eq-same i))
    (ap (λ (o : Option PlainMessage). (with_sent u o).bag (answer_of n)) sends ∙ sent_off u x (answer_of n) off ∙ none_out)
    (ap (λ (o : Option PlainMessage). (with_sent u o).noted i) sends ∙ unfollowed r e s i (s.noted i) refl h refl)

-- the request goes from the bag to the process, and from there into its answer
pub to_process : (a b : Option PlainMessage) (c : Option Pid) (m : PlainMessage) (a_ b_ : Option PlainMessage) (q : Pid) → a ≡ Some m → Pair a b c → a_ ≡ None → b_ ≡ b → Pair a_ b_ (Some q)
to_process a b c m a_ b_ q e h f g = grind (arith, nat_tests)

pub followed_pair : (a a_ b b_ : Option PlainMessage) (c c_ : Option Pid) (q : Pid) (x : PlainMessage) → Pair a b c → c ≡ Some q → c_ ≡ None → a_ ≡ a → b_ ≡ Some x → is_answer x.what ≡ true → Pair a_ b_ c_
followed_pair a a_ b b_ c c_ q x h e f g k answers = grind (arith, nat_tests)
