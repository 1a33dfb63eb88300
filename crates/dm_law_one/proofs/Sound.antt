-- What each way of changing the kernel without machines keeps.
use Rattle.dm_law_one.proofs.Names.{◌≡◌, ℕ, ◌+◌, ◌≤◌, Bool, true, false, refl, ap, ◌∙◌, sym, subst, nat_lt, nat_le, is_some, ◌⊎◌, inl, inr, arith, if◌then◌else◌, Option, None, Some, fun_ext, cases_Bool, false≢true, nat_tests, Pid, pid_eq}
use Rattle.dm_law_one.proofs.Names.{MsgId, id_eq, id_of, PlainMessage, PlainWhat, Why, switchboard, manager, PlainProcess, Life, Alive, Ended, MoveNote, Outcome, OneKernel, with_process, with_sent, with_note, without_note, answer_id}
use Rattle.dm_law_one.proofs.Names.{answer_to, without_message, in_bag}
use Rattle.dm_law_one.proofs.Equal.{pid_eq-is, pid_eq-same, id_eq-is, id_eq-same}
use Rattle.dm_law_one.proofs.Counted.{Sent, is_of_memory, is_piece, pending_of}
use Rattle.dm_law_one.proofs.Entered.{Entered, Enters, Made, request_id, counts_grow, Grows, counts, is_counted, asks, Entered-process, Entered-out, Entered-received, Entered-own, Entered-answer, unentered}
use Rattle.dm_law_one.proofs.Movers.{Movers, IsUnawaited, One, One-same, out_at, unawaited, Movers-born, Movers-process, Movers-ended, Movers-out, Movers-sent, Movers-request, Movers-answer, answer_unawaited}
use Rattle.dm_law_one.proofs.Notes.{Notes, Notes-process, Notes-ended, Notes-out, Notes-sent, Notes-answer, Notes-same, Notes-begin, Notes-end, Notes-agree, unnoted}

pub record Sound (r e : MsgId → ℕ) (s : OneKernel) : Type 0 where
  pub entered : Entered r e s
  pub made : Made s
  pub movers : Movers s
  pub notes : Notes e s

pub Sound-same : (r e r' e' : MsgId → ℕ) (s : OneKernel) → ((i : MsgId) → r' i ≡ r i) → ((i : MsgId) → e' i ≡ e i) → Sound r e s → Sound r' e' s
Sound-same r e r' e' s f g h = subst (λ (v : MsgId → ℕ). Sound v e' s) (sym (fun_ext f)) (subst (λ (v : MsgId → ℕ). Sound r v s) (sym (fun_ext g)) h)

Made-process : (s : OneKernel) (p : Pid) (life : Life) → is_some (s.processes p) ≡ true → Made s → Made (with_process s p life)
Made-process s p life there h = record {
  least = λ q some. elim (cases_Bool (pid_eq p q)) [
    | inl same ↦ let e = pid_eq-is p q same in h.least q (ap (λ v. is_some (s.processes v)) (sym e) ∙ there)
    | inr apart ↦ h.least q (sym (ap (λ (b : Bool). is_some (if b then Some life else s.processes q)) apart) ∙ some)
  ];
  most = λ q some. elim (cases_Bool (pid_eq p q)) [
    | inl same ↦ let e = pid_eq-is p q same in h.most q (ap (λ v. is_some (s.processes v)) (sym e) ∙ there)
    | inr apart ↦ h.most q (sym (ap (λ (b : Bool). is_some (if b then Some life else s.processes q)) apart) ∙ some)
  ];
}

grows_to : (s : OneKernel) (p : Pid) (x y : PlainProcess) → s.processes p ≡ Some (Alive x) → x.sent ≤ y.sent → Grows (s.processes p) (Alive y)
grows_to s p x y is le n c = let k : is_counted n (Some (Alive x)) ≡ true = sym (ap (is_counted n) is) ∙ c in grind (arith, nat_tests)

alive_is_some : (s : OneKernel) (p : Pid) (x : PlainProcess) → s.processes p ≡ Some (Alive x) → is_some (s.processes p) ≡ true
alive_is_some s p x e = ap is_some e

-- a process goes on
pub goes : (r e : MsgId → ℕ) (s : OneKernel) (p : Pid) (x y : PlainProcess) → s.processes p ≡ Some (Alive x) → y.sent ≡ x.sent
    → (pending_of y.status ≡ pending_of x.status) ⊎ (pending_of y.status ≡ None) → Sound r e s → Sound r e (with_process s p (Alive y))
goes r e s p x y is sent pending h = record {
  entered = Entered-process r e s p (Alive y) (grows_to s p x y is (omega (arith, sent))) h.entered;
  made = Made-process s p (Alive y) (alive_is_some s p x is) h.made;
  movers = Movers-process s p x y is pending h.movers;
  notes = Notes-process e s p y h.notes;
}

-- a process ends that follows nothing
pub ending : (r e : MsgId → ℕ) (s : OneKernel) (p : Pid) (x : PlainProcess) (y : Why) → s.processes p ≡ Some (Alive x) → s.notes p ≡ None → Sound r e s → Sound r e (with_process s p (Ended y))
ending r e s p x y is free h = record {
  entered = Entered-process r e s p (Ended y) (λ n c. refl) h.entered;
  made = Made-process s p (Ended y) (alive_is_some s p x is) h.made;
  movers = Movers-ended s p y h.movers;
  notes = Notes-ended e s p y free h.notes;
}

-- a message goes
pub leaves : (r e : MsgId → ℕ) (s : OneKernel) (id : MsgId) → IsUnawaited s id → Sound r e s → Sound r e (without_message s id)
leaves r e s id un h = record {
  entered = Entered-out r e s id h.entered;
  made = record { least = h.made.least; most = h.made.most };
  movers = Movers-out s id un h.movers;
  notes = Notes-out e s id h.notes;
}

pub received : (r e : MsgId → ℕ) (s : OneKernel) (id : MsgId) → is_some (s.bag id) ≡ true → IsUnawaited s id → Sound r e s
    → Sound (λ i. r i + (if id_eq i id then 1 else 0)) e (without_message s id)
received r e s id there un h = record {
  entered = Entered-received r e s id there h.entered;
  made = record { least = h.made.least; most = h.made.most };
  movers = Movers-out s id un h.movers;
  notes = Notes-out e s id h.notes;
}

-- no process is named as a server
pub not_server : (s : OneKernel) (p : Pid) (x : PlainProcess) → s.processes p ≡ Some (Alive x) → Made s → (pid_eq p switchboard ≡ false) × (pid_eq p manager ≡ false)
not_server s p x is h = let k = h.least p (alive_is_some s p x is) in (grind (arith, nat_tests), grind (arith, nat_tests))

pub counts_process : (s : OneKernel) (p : Pid) (i : MsgId) → i.from ≡ p → (pid_eq p switchboard ≡ false) × (pid_eq p manager ≡ false) → counts s i ≡ is_counted i.n (s.processes p)
counts_process s p i e f = let a = f.0 in let b = f.1 in grind (arith, nat_tests)

pub process_at : (s : OneKernel) (p : Pid) (life : Life) → (with_process s p life).processes p ≡ Some life
process_at s p life = ap (λ (b : Bool). if b then Some life else s.processes p) (pid_eq-same p)

enters_by : (s : OneKernel) (p : Pid) (x y : PlainProcess) (m : PlainMessage) → s.processes p ≡ Some (Alive x) → Sent p x m y → Made s → ((i : MsgId) → counts s i ≡ true → counts (with_process s p (Alive y)) i ≡ true)
    → Enters s (with_process s p (Alive y)) m
enters_by s p x y m is sent made grows =
    let server = not_server s p x is made in
    let from : m.id.from ≡ p = ap (λ (v : MsgId). v.from) sent.id in
    let n : m.id.n ≡ x.sent = ap (λ (v : MsgId). v.n) sent.id in
    let before : counts s m.id ≡ is_counted m.id.n (Some (Alive x)) = counts_process s p m.id from server ∙ ap (is_counted m.id.n) is in
    let after : counts (with_process s p (Alive y)) m.id ≡ is_counted m.id.n (Some (Alive y)) = counts_process (with_process s p (Alive y)) p m.id from server ∙ ap (is_counted m.id.n) (process_at s p (Alive y)) in
    let count = sent.count in
    record {
      fresh = before ∙ (let k : nat_lt m.id.n x.sent ≡ false = grind (arith, nat_tests) in k);
      counted = after ∙ (let k : nat_lt m.id.n y.sent ≡ true = grind (arith, nat_tests) in k);
      grows = grows;
      bag = λ i. refl;
      request = ap (λ (v : MsgId). v.answer) sent.id;
    }

counted_in : (r e : MsgId → ℕ) (s : OneKernel) (i : MsgId) (m : PlainMessage) → s.bag i ≡ Some m → Entered r e s → counts s i ≡ true
counted_in r e s i m there h = h.counted i (let f = h.fewer i in let g : in_bag (s.bag i) ≡ 1 = ap in_bag there in omega (arith, f, g))

-- what a mover waits for is counted
waits_counted : (r e : MsgId → ℕ) (s : OneKernel) (i : MsgId) (a b : Option PlainMessage) → s.bag i ≡ a → s.bag (answer_id i) ≡ b → One a b → Entered r e s → counts s i ≡ true
waits_counted r e s i None None f g one h = absurd one
waits_counted r e s i (Some m) b f g one h = counted_in r e s i m f h
waits_counted r e s i None (Some m) f g one h = counted_in r e s (answer_id i) m g h

-- nobody waits for a number that isn't counted yet
pub fresh_unawaited : (r e : MsgId → ℕ) (s : OneKernel) (i : MsgId) → counts s i ≡ false → Sound r e s → IsUnawaited s i
fresh_unawaited r e s i fresh h q z n alive waits =
    let one = h.movers.mover q z n alive waits in
    let counted : counts s (id_of q n) ≡ true = waits_counted r e s (id_of q n) (s.bag (id_of q n)) (s.bag (answer_id (id_of q n))) refl refl one h.entered in
    (let f = id_eq-is i (id_of q n) in grind (arith, nat_tests), let g = id_eq-is i (answer_id (id_of q n)) in grind (arith, nat_tests))

unawaited_process : (s : OneKernel) (p : Pid) (x y : PlainProcess) (i : MsgId) → s.processes p ≡ Some (Alive x) → pending_of y.status ≡ pending_of x.status → IsUnawaited s i → IsUnawaited (with_process s p (Alive y)) i
unawaited_process s p x y i is pending un q z n alive waits = elim (cases_Bool (pid_eq p q)) [
  | inl same ↦
      let e : p ≡ q = pid_eq-is p q same in
      let z_is : Some (Alive y) ≡ Some (Alive z) = sym (ap (λ (b : Bool). if b then Some (Alive y) else s.processes q) same) ∙ alive in
      let zy : y ≡ z = cc in
      un q x n (sym (ap s.processes e) ∙ is) (sym pending ∙ ap (λ (v : PlainProcess). pending_of v.status) zy ∙ waits)
  | inr apart ↦ un q z n (sym (ap (λ (b : Bool). if b then Some (Alive y) else s.processes q) apart) ∙ alive) waits
]

none_of : (r e : MsgId → ℕ) (s : OneKernel) (i : MsgId) (o : Option PlainMessage) → s.bag i ≡ o → counts s i ≡ false → Entered r e s → o ≡ None
none_of r e s i None f fresh h = refl
none_of r e s i (Some m) f fresh h = absurd (false≢true (sym fresh ∙ counted_in r e s i m f h))

-- what isn't counted isn't in the bag
pub not_counted : (r e : MsgId → ℕ) (s : OneKernel) (i : MsgId) → counts s i ≡ false → Entered r e s → s.bag i ≡ None
not_counted r e s i fresh h = none_of r e s i (s.bag i) refl fresh h

abbrev pub plus : MsgId → MsgId → ℕ
plus j i = if id_eq j i then 1 else 0

-- a process sends a message
pub sends : (r e : MsgId → ℕ) (s : OneKernel) (p : Pid) (x y : PlainProcess) (m : PlainMessage) → s.processes p ≡ Some (Alive x) → Sent p x m y → Sound r e s
    → Sound r (λ i. e i + plus m.id i) (with_sent (with_process s p (Alive y)) (Some m))
sends r e s p x y m is sent h =
    let enters = enters_by s p x y m is sent h.made (λ i k. counts_grow s p (Alive y) i (grows_to s p x y is (omega (arith, sent.count))) k) in
    let fresh = fresh_unawaited r e s m.id enters.fresh h in
    let made = Made-process s p (Alive y) (alive_is_some s p x is) h.made in
    record {
      entered = Entered-own r e s (with_process s p (Alive y)) m enters h.entered;
      made = record { least = made.least; most = made.most };
      movers = elim sent.is [
        | inl k ↦ Movers-sent (with_process s p (Alive y)) m (unawaited_process s p x y m.id is k.1 fresh) k.0 sent.piece (Movers-process s p x y is (inl k.1) h.movers)
        | inr k ↦ Movers-request s p x y m is sent.id sent.sender k.0 sent.piece k.1 (not_counted r e s (answer_id m.id) enters.fresh h.entered) h.movers
      ];
      notes = Notes-sent e (with_process s p (Alive y)) m enters.request (unentered r e s m.id h.entered enters.fresh) (Notes-process e s p y h.notes);
    }

answer_free_of : (r e : MsgId → ℕ) (s : OneKernel) (id : MsgId) (m : PlainMessage) (o : Option PlainMessage) → s.bag (answer_id id) ≡ o → s.bag id ≡ Some m → request_id (answer_id id) ≡ id → Entered r e s → o ≡ None
answer_free_of r e s id m None f there back h = refl
answer_free_of r e s id m (Some a) f there back h =
    let entered : 1 ≤ e (answer_id id) = let k = h.fewer (answer_id id) in let g : in_bag (s.bag (answer_id id)) ≡ 1 = ap in_bag f in omega (arith, k, g) in
    absurd (let gone : s.bag id ≡ None = sym (ap s.bag back) ∙ h.answers (answer_id id) refl entered in let k : None ≡ Some m = sym gone ∙ there in cc)

pub answer_free : (r e : MsgId → ℕ) (s : OneKernel) (id : MsgId) (m : PlainMessage) → s.bag id ≡ Some m → id.answer ≡ false → Entered r e s → s.bag (answer_id id) ≡ None
answer_free r e s id m there request h =
    let back : request_id (answer_id id) ≡ id = grind arith in
    answer_free_of r e s id m (s.bag (answer_id id)) refl there back h

has_entered : (r e : MsgId → ℕ) (s : OneKernel) (id : MsgId) (m : PlainMessage) → s.bag id ≡ Some m → Entered r e s → 1 ≤ e id
has_entered r e s id m there h = let f = h.fewer id in let g : in_bag (s.bag id) ≡ 1 = ap in_bag there in omega (arith, f, g)

-- nothing has answered a request that is in the bag
none_answers : (r e : MsgId → ℕ) (s : OneKernel) (id : MsgId) (m : PlainMessage) → s.bag id ≡ Some m → id.answer ≡ false → Entered r e s → e (answer_id id) ≡ 0
none_answers r e s id m there request h =
    let back : request_id (answer_id id) ≡ id = grind arith in
    let a = h.answers (answer_id id) refl in
    grind (arith, nat_tests)

-- an answer takes the place of a request
pub answers : (r e : MsgId → ℕ) (s : OneKernel) (id : MsgId) (m : PlainMessage) (w : PlainWhat) → s.bag id ≡ Some m → asks m.what ≡ true → asks w ≡ false
    → is_of_memory w ≡ false → is_piece w ≡ is_of_memory m.what → Sound r e s → Sound r (λ i. e i + plus (answer_id id) i) (with_sent (without_message s id) (Some (answer_to m w)))
answers r e s id m w there asking answering memory piece h =
    let name = h.entered.named id m there in
    let request = h.entered.requests id m there asking in
    record {
      entered = Entered-answer r e (without_message s id) id (answer_to m w) (ap answer_id name) request (has_entered r e s id m there h.entered)
          (none_answers r e s id m there request h.entered) (out_at s id id (id_eq-same id)) answering (Entered-out r e s id h.entered);
      made = record { least = h.made.least; most = h.made.most };
      movers = Movers-answer s id m w there name (answer_free r e s id m there request h.entered) request memory piece h.movers;
      notes = Notes-answer e (without_message s id) id (answer_to m w) (ap answer_id name) request (unnoted e s id m there h.notes) (Notes-out e s id h.notes);
    }

-- a process begins to follow the request that it move
pub begins : (r e : MsgId → ℕ) (s : OneKernel) (id : MsgId) (m : PlainMessage) (machine : ℕ) (x : PlainProcess) → s.bag id ≡ Some m → m.what ≡ PlainWhat.Move machine → s.notes m.to ≡ None → s.processes m.to ≡ Some (Alive x)
    → Sound r e s → Sound r e (with_note (without_message s id) m.to (record { id = id; asker = m.sender }))
begins r e s id m machine x there what free alive h =
    let request = h.entered.requests id m there (ap asks what) in
    let u = leaves r e s id (unawaited s id m there (ap is_of_memory what) (ap is_piece what) h.movers) h in
    record {
      entered = record { counted = u.entered.counted; answers = u.entered.answers; once = u.entered.once; fewer = u.entered.fewer; named = u.entered.named; requests = u.entered.requests };
      made = record { least = h.made.least; most = h.made.most };
      movers = record { senders = u.movers.senders; requests = u.movers.requests; returns = u.movers.returns; mover = u.movers.mover };
      notes = Notes-begin e (without_message s id) m.to (record { id = id; asker = m.sender }) x free (unnoted e s id m there h.notes) alive
          (record { request = request; entered = has_entered r e s id m there h.entered; taken = out_at s id id (id_eq-same id); unanswered = none_answers r e s id m there request h.entered }) u.notes;
    }

-- a process has followed its request, and the answer enters
pub follows_no_more : (r e : MsgId → ℕ) (s : OneKernel) (p : Pid) (n : MoveNote) (o : Outcome) → s.notes p ≡ Some n → Sound r e s
    → Sound r (λ i. e i + plus (answer_id n.id) i) (with_sent (without_note s p n.id) (Some (record { id = answer_id n.id; to = n.asker; sender = p; what = PlainWhat.Moved o })))
follows_no_more r e s p n o is h =
    let id = n.id in
    let u = without_note s p id in
    let a : PlainMessage = record { id = answer_id id; to = n.asker; sender = p; what = PlainWhat.Moved o } in
    let f = h.notes.followed id p (h.notes.noted p n is) in
    let agree = Notes-agree r e s h.entered h.notes in
    let gone = agree.taken id p (h.notes.noted p n is) in
    let entered : Entered r e u = record { counted = h.entered.counted; answers = h.entered.answers; once = h.entered.once; fewer = h.entered.fewer; named = h.entered.named; requests = h.entered.requests } in
    let movers : Movers u = record { senders = h.movers.senders; requests = h.movers.requests; returns = h.movers.returns; mover = h.movers.mover } in
    record {
      entered = Entered-answer r e u id a refl f.request f.entered f.unanswered f.taken refl entered;
      made = record { least = h.made.least; most = h.made.most };
      movers = Movers-sent u a (answer_unawaited u id f.request gone.0 gone.1 movers) refl refl movers;
      notes = Notes-answer e u id a refl f.request (ap (λ (b : Bool). if b then None else s.noted id) (id_eq-same id)) (Notes-end e s p n is h.notes);
    }

-- a server sends a message, or nothing: t is s with the server's new state
pub record Serves (s t : OneKernel) : Type 0 where
  pub processes : (p : Pid) → t.processes p ≡ s.processes p
  pub made : (home : ℕ) → t.made home ≡ s.made home
  pub bag : (i : MsgId) → t.bag i ≡ s.bag i
  pub notes : (p : Pid) → t.notes p ≡ s.notes p
  pub noted : (i : MsgId) → t.noted i ≡ s.noted i
  pub grows : (i : MsgId) → counts s i ≡ true → counts t i ≡ true

pub served_on : (r e : MsgId → ℕ) (s t : OneKernel) → Serves s t → Sound r e s → Sound r e t
served_on r e s t w h = record {
  entered = record {
    counted = λ i k. w.grows i (h.entered.counted i k);
    answers = λ i a k. w.bag (request_id i) ∙ h.entered.answers i a k;
    once = h.entered.once;
    fewer = λ i. let f = h.entered.fewer i in let b : in_bag (t.bag i) ≡ in_bag (s.bag i) = ap in_bag (w.bag i) in omega (arith, f, b);
    named = λ i m k. h.entered.named i m (sym (w.bag i) ∙ k);
    requests = λ i m k. h.entered.requests i m (sym (w.bag i) ∙ k);
  };
  made = record {
    least = λ p k. h.made.least p (sym (ap is_some (w.processes p)) ∙ k);
    most = λ p k. let b = h.made.most p (sym (ap is_some (w.processes p)) ∙ k) in ap (λ n. nat_lt p.num (3 + n)) (w.made p.home) ∙ b;
  };
  movers = record {
    senders = λ i m k. h.movers.senders i m (sym (w.bag i) ∙ k);
    requests = λ i m k. h.movers.requests i m (sym (w.bag i) ∙ k);
    returns = λ i m k. h.movers.returns i m (sym (w.bag i) ∙ k);
    mover = λ q z n alive waits.
        One-same (s.bag (id_of q n)) (s.bag (answer_id (id_of q n))) (t.bag (id_of q n)) (t.bag (answer_id (id_of q n)))
        (w.bag (id_of q n)) (w.bag (answer_id (id_of q n))) (h.movers.mover q z n (sym (w.processes q) ∙ alive) waits);
  };
  notes = Notes-same e s t w.processes w.bag w.notes w.noted h.notes;
}

-- a message of the server's own enters the bag
pub server_sends : (r e : MsgId → ℕ) (s t : OneKernel) (m : PlainMessage) → Serves s t → counts s m.id ≡ false → counts t m.id ≡ true → m.id.answer ≡ false
    → is_of_memory m.what ≡ false → is_piece m.what ≡ false → Sound r e s → Sound r (λ i. e i + plus m.id i) (with_sent t (Some m))
server_sends r e s t m w fresh counted request memory piece h =
    let u = served_on r e s t w h in
    record {
      entered = Entered-own r e s t m (record { fresh = fresh; counted = counted; grows = w.grows; bag = w.bag; request = request }) h.entered;
      made = record { least = u.made.least; most = u.made.most };
      movers = Movers-sent t m (λ q z n alive waits. fresh_unawaited r e s m.id fresh h q z n (sym (w.processes q) ∙ alive) waits) memory piece u.movers;
      notes = Notes-sent e t m request (unentered r e s m.id h.entered fresh) u.notes;
    }

-- a process is born
pub born : (r e : MsgId → ℕ) (s : OneKernel) (p : Pid) (y : PlainProcess) (made : ℕ → ℕ) → s.processes p ≡ None → pending_of y.status ≡ None → nat_le 3 p.num ≡ true → nat_lt p.num (3 + made p.home) ≡ true
    → ((home : ℕ) → s.made home ≤ made home) → Sound r e s → Sound r e (record (with_process s p (Alive y)) { made = made })
born r e s p y made none pending least most more h =
    let t = with_process s p (Alive y) in
    let k = Entered-process r e s p (Alive y) (λ n c. absurd (let f : is_counted n None ≡ true = sym (ap (is_counted n) none) ∙ c in false≢true f)) h.entered in
    let m = Movers-born s p y pending h.movers in
    let n = Notes-process e s p y h.notes in
    record {
      entered = record { counted = k.counted; answers = k.answers; once = k.once; fewer = k.fewer; named = k.named; requests = k.requests };
      made = record {
        least = λ q some. elim (cases_Bool (pid_eq p q)) [
          | inl same ↦ let is = pid_eq-is p q same in ap (λ (v : Pid). nat_le 3 v.num) (sym is) ∙ least
          | inr apart ↦ h.made.least q (sym (ap (λ (b : Bool). is_some (if b then Some (Alive y) else s.processes q)) apart) ∙ some)
        ];
        most = λ q some. elim (cases_Bool (pid_eq p q)) [
          | inl same ↦ let is = pid_eq-is p q same in ap (λ (v : Pid). nat_lt v.num (3 + made v.home)) (sym is) ∙ most
          | inr apart ↦
              let b = h.made.most q (sym (ap (λ (b : Bool). is_some (if b then Some (Alive y) else s.processes q)) apart) ∙ some) in
              let le = more q.home in
              grind (arith, nat_tests)
        ];
      };
      movers = record { senders = m.senders; requests = m.requests; returns = m.returns; mover = m.mover };
      notes = record { noted = n.noted; follows = n.follows; lives = n.lives; followed = λ i q is. let f = n.followed i q is in record { request = f.request; entered = f.entered; taken = f.taken; unanswered = f.unanswered } };
    }
