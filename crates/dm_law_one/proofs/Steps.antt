-- What each step of the kernel without machines keeps.
use Rattle.dm_law_one.proofs.Names.{◌≡◌, ℕ, ◌+◌, ◌≤◌, ◌&&◌, Bool, true, false, refl, ap, ◌∙◌, sym, subst, is_some, is_none, ◌⊎◌, inl, inr, arith, ⊤, if◌then◌else◌, Option, None, Some, cases_Bool, Pid, MsgId, id_eq, id_of, PlainMessage}
use Rattle.dm_law_one.proofs.Names.{PlainWhat, Row, instruction, Label, Reply, Why, bind, when, PlainProcess, PlainStatus, Ready, Waiting, Life, Alive, Ended, MoveNote, OneKernel, with_process, with_sent, without_message, reception, entry}
use Rattle.dm_law_one.proofs.Names.{in_bag, cond_some, option_map_or}
use Rattle.dm_onekernel.specs.Calls as calls
use Rattle.dm_onekernel.specs.Receiving as receiving
use Rattle.dm_onekernel.specs.Step as step
use Rattle.dm_law_one.proofs.Equal.{id_eq-is, id_eq-same}
use Rattle.dm_law_one.proofs.Counted.{Sent, Counts, Completes, call-counts, completes-is, is_of_memory, is_piece, pending_of}
use Rattle.dm_law_one.proofs.Movers.{unawaited, stayed, came, sent_at, sent_off}
use Rattle.dm_law_one.proofs.Grown.{Grown, Went, Went-process}
use Rattle.dm_law_one.proofs.Sound.{Sound, Sound-same, plus, goes, ending, received, sends}
use Rattle.dm_law_one.proofs.Facts.{none_some}

-- what there is where a chain of steps gave something
pub bind-is : {A B : Type 0} (o : Option A) (go : A → Option B) (t : B) → bind o go ≡ Some t → (x : A) × (o ≡ Some x) × (go x ≡ Some t)
bind-is None go t e = none_some t e
bind-is (Some x) go t e = (x, refl, e)

pub when-is : {A : Type 0} (b : Bool) (x t : A) → when b x ≡ Some t → (b ≡ true) × (x ≡ t)
when-is true x t e = (refl, cc)
when-is false x t e = none_some t e

-- a step that brings s to t keeps what is sound, and lets lives and counts grow
pub record After (r e : MsgId → ℕ) (s : OneKernel) (l : Label) (t : OneKernel) : Type 0 where
  pub sound : Sound (λ i. r i + reception i l) (λ i. e i + entry i s t) t
  pub grown : Grown s t
  pub rests : (p : Pid) (n : MoveNote) → s.notes p ≡ Some n → t.processes p ≡ s.processes p
  pub only : (i : MsgId) (x y : PlainMessage) → s.bag i ≡ Some x → t.bag i ≡ Some y → x ≡ y

abbrev pub Sub : OneKernel → OneKernel → Type 0
Sub t s = (i : MsgId) (x : PlainMessage) → t.bag i ≡ Some x → s.bag i ≡ Some x

abbrev pub one_if : Bool → ℕ
one_if b = if b then 1 else 0

pub entry_of : (a b : Option PlainMessage) → ((x : PlainMessage) → b ≡ Some x → a ≡ Some x) → one_if (is_none a && is_some b) ≡ 0
entry_of None None h = refl
entry_of None (Some x) h = absurd (let k : None ≡ Some x = h x refl in cc)
entry_of (Some y) b h = refl

-- nothing enters
pub quiet : (r e : MsgId → ℕ) (s t : OneKernel) (l : Label) → ((i : MsgId) → reception i l ≡ 0) → Sub t s → Went s t → Sound r e t → After r e s l t
quiet r e s t l none sub went h = record {
  sound = Sound-same r e (λ i. r i + reception i l) (λ i. e i + entry i s t) t (λ i. let k = none i in omega (arith, k))
      (λ i. let k : entry i s t ≡ 0 = entry_of (s.bag i) (t.bag i) (sub i) in omega (arith, k)) h;
  grown = went.grown;
  rests = went.rests;
  only = λ i x y was there. let f : Some x ≡ Some y = sym was ∙ sub i y there in cc;
}

entry_put : (s u : OneKernel) (m : PlainMessage) (i : MsgId) → s.bag m.id ≡ None → Sub u s → entry i s (with_sent u (Some m)) ≡ plus m.id i
entry_put s u m i none sub = elim (cases_Bool (id_eq m.id i)) [
  | inl same ↦
      let is : m.id ≡ i = id_eq-is m.id i same in
      let before : s.bag i ≡ None = sym (ap s.bag is) ∙ none in
      let after : (with_sent u (Some m)).bag i ≡ Some m = sent_at u m i same in
      ap (λ o. one_if (is_none o && is_some ((with_sent u (Some m)).bag i))) before ∙ ap (λ o. one_if (is_some o)) after ∙ sym (ap one_if same)
  | inr apart ↦
      let after : (with_sent u (Some m)).bag i ≡ u.bag i = sent_off u m i apart in
      ap (λ o. one_if (is_none (s.bag i) && is_some o)) after ∙ entry_of (s.bag i) (u.bag i) (sub i) ∙ sym (ap one_if apart)
]

-- one message enters
pub puts : (r e : MsgId → ℕ) (s u : OneKernel) (m : PlainMessage) (l : Label) → ((i : MsgId) → reception i l ≡ 0) → s.bag m.id ≡ None → Sub u s → Went s (with_sent u (Some m))
    → Sound r (λ i. e i + plus m.id i) (with_sent u (Some m)) → After r e s l (with_sent u (Some m))
puts r e s u m l none fresh sub went h = record {
  sound = Sound-same r (λ i. e i + plus m.id i) (λ i. r i + reception i l) (λ i. e i + entry i s (with_sent u (Some m))) (with_sent u (Some m)) (λ i. let k = none i in omega (arith, k))
      (λ i. ap (λ n. e i + n) (entry_put s u m i fresh sub)) h;
  grown = went.grown;
  rests = went.rests;
  only = λ i x y was there. elim (came u m y i there) [
    | inl is ↦ let f : None ≡ Some x = sym fresh ∙ ap s.bag is.1 ∙ was in cc
    | inr before ↦ let f : Some x ≡ Some y = sym was ∙ sub i y before in cc
  ];
}

was_none_of : (r e : MsgId → ℕ) (s : OneKernel) (i : MsgId) (o : Option PlainMessage) → s.bag i ≡ o → e i + plus i i ≤ 1 → Sound r e s → o ≡ None
was_none_of r e s i None f once h = refl
was_none_of r e s i (Some m) f once h =
    let k = h.entered.fewer i in
    let g : in_bag (s.bag i) ≡ 1 = ap in_bag f in
    let same : plus i i ≡ 1 = ap one_if (id_eq-same i) in
    absurd (omega (arith, k, g, same, once))

-- a message that has just entered wasn't there
pub was_none : (r e : MsgId → ℕ) (s t : OneKernel) (i : MsgId) (m : PlainMessage) → t.bag i ≡ Some m → Sound r (λ j. e j + plus i j) t → Sound r e s → s.bag i ≡ None
was_none r e s t i m there after h = was_none_of r e s i (s.bag i) refl (after.entered.once i) h

-- a process that executes is alive, moves no data, and follows no request
pub record Runs (s : OneKernel) (p : Pid) (x : PlainProcess) : Type 0 where
  pub alive : s.processes p ≡ Some (Alive x)
  pub still : pending_of x.status ≡ None
  pub free : s.notes p ≡ None

pub alive-is : (l : Option Life) (x : PlainProcess) → step.alive l ≡ Some x → l ≡ Some (Alive x)
alive-is (Some (Alive y)) x e = cc
alive-is _ x e = none_some x e

-- a process at hand lives, and follows no request
unless_noted-is : (n : Option MoveNote) (o : Option PlainProcess) (x : PlainProcess) → (option_map_or (λ note. None) n o) ≡ Some x → (n ≡ None) × (o ≡ Some x)
unless_noted-is None o x e = (refl, e)
unless_noted-is (Some n) o x e = none_some x e

pub at_hand-is : (s : OneKernel) (p : Pid) (x : PlainProcess) → step.at_hand s p ≡ Some x → (s.notes p ≡ None) × (s.processes p ≡ Some (Alive x))
at_hand-is s p x e = let k = unless_noted-is (s.notes p) (step.alive (s.processes p)) x e in (k.0, alive-is (s.processes p) x k.1)

if_stopped-is : (y : PlainProcess) (b : Bool) (x : PlainProcess) → (if b then None else Some y) ≡ Some x → (y ≡ x) × (pending_of Ready ≡ None)
if_stopped-is y true x e = none_some x e
if_stopped-is y false x e = (cc, refl)

pub if_ready-is : (y : PlainProcess) (st : PlainStatus) (x : PlainProcess) → step.if_ready y st ≡ Some x → (y ≡ x) × (pending_of st ≡ None)
if_ready-is y Ready x e = if_stopped-is y y.stopped x e
if_ready-is y _ x e = none_some x e

pub runs : (s : OneKernel) (p : Pid) (x : PlainProcess) → step.running s p ≡ Some x → Runs s p x
runs s p x e =
    let (y, is, ready) = bind-is (step.at_hand s p) (λ v. step.if_ready v v.status) x e in
    let k = if_ready-is y y.status x ready in
    let (free, alive) = at_hand-is s p x (is ∙ ap Some k.0) in
    record { alive = alive; still = sym (ap (λ (v : PlainProcess). pending_of v.status) k.0) ∙ k.1; free = free }

-- what a process that has a call or a fault next is, and what the call counts
abbrev pub NextCounts : Pid → PlainProcess → step.Trap → Type 0
NextCounts p x (step.Calls number called) = (y : PlainProcess) × (y.sent ≡ x.sent) × (pending_of y.status ≡ pending_of x.status) × Counts p y called
NextCounts p x (step.Faults fault) = ⊤

next_row-counts : (p : Pid) (x : PlainProcess) (w : Row) (n : step.Trap) → step.next_row p x w ≡ Some n → NextCounts p x n
next_row-counts p x (Row.Plain regs bytes) n e = none_some n e
next_row-counts p x (Row.Calls number regs) n e =
    let k : step.Calls number (calls.call p (record x { regs = regs }) number) ≡ n = cc in
    subst (NextCounts p x) k (record x { regs = regs }, refl, refl, call-counts p (record x { regs = regs }) number)
next_row-counts p x (Row.Faults fault) n e = let k : step.Faults fault ≡ n = cc in subst (NextCounts p x) k tt

pub record Nexts (s : OneKernel) (p : Pid) (n : step.Trap) : Type 0 where
  pub x : PlainProcess
  pub is : Runs s p x
  pub counts : NextCounts p x n

pub nexts : (s : OneKernel) (p : Pid) (n : step.Trap) → step.next_trap s p ≡ Some n → Nexts s p n
nexts s p n e =
    let (x, is, row_is) = bind-is (step.running s p) (λ v. step.next_row p v (instruction v.regs v.memory)) n e in
    record { x = x; is = runs s p x is; counts = next_row-counts p x (instruction x.regs x.memory) n row_is }

-- the rows of labels by processes
pub after_ran : (r e : MsgId → ℕ) (s t : OneKernel) (p : Pid) (k : ℕ) → step.step s (Label.Ran p k) ≡ Some t → Sound r e s → After r e s (Label.Ran p k) t
after_ran r e s t p k is h =
    let (x, running, rest) = bind-is (step.running s p) (λ v. bind (step.plain_steps k (step.machine_of v)) (λ m. Some (step.goes_on s p (step.with_machine v m)))) t is in
    let (m, plain, last) = bind-is (step.plain_steps k (step.machine_of x)) (λ m. Some (step.goes_on s p (step.with_machine x m))) t rest in
    let w = runs s p x running in
    let u = step.goes_on s p (step.with_machine x m) in
    let eq : u ≡ t = cc in
    subst (After r e s (Label.Ran p k)) eq
    (quiet r e s u (Label.Ran p k) (λ i. refl) (λ i z f. f) (Went-process s u p x (Alive (step.with_machine x m)) w.alive (omega arith) w.free (λ q. refl) (λ n. refl) refl refl)
    (goes r e s p x (step.with_machine x m) w.alive refl (inl refl) h))

process_goes : (r e : MsgId → ℕ) (s : OneKernel) (p : Pid) (x y : PlainProcess) (l : Label) → s.processes p ≡ Some (Alive x) → s.notes p ≡ None → y.sent ≡ x.sent → (pending_of y.status ≡ pending_of x.status) ⊎ (pending_of y.status ≡ None)
    → ((i : MsgId) → reception i l ≡ 0) → Sound r e s → After r e s l (step.goes_on s p y)
process_goes r e s p x y l is free sent pending none h =
    quiet r e s (step.goes_on s p y) l none (λ i z f. f) (Went-process s (step.goes_on s p y) p x (Alive y) is (omega (arith, sent)) free (λ q. refl) (λ n. refl) refl refl) (goes r e s p x y is sent pending h)

pub after_replies : (r e : MsgId → ℕ) (s t : OneKernel) (p : Pid) (n : ℕ) (c : Reply) (next : step.Trap) → Nexts s p next → step.replies s p n c next ≡ Some t → Sound r e s → After r e s (Label.Call p n c) t
after_replies r e s t p n c (step.Calls number (calls.Replies reply y)) w is h =
    let (z, sent, pending, counted) = w.counts in
    let k = when-is _ (step.goes_on s p y) t is in
    subst (After r e s (Label.Call p n c)) k.1
    (process_goes r e s p w.x y (Label.Call p n c) w.is.alive w.is.free (counted.0 ∙ sent) (inl (counted.1 ∙ pending)) (λ i. refl) h)
after_replies r e s t p n c _ w is h = none_some t is

-- a process sends as one of the same count
pub Sent-from : (p : Pid) (x z : PlainProcess) (m : PlainMessage) (y : PlainProcess) → z.sent ≡ x.sent → pending_of z.status ≡ pending_of x.status → Sent p z m y → Sent p x m y
Sent-from p x z m y sent pending w = record {
  id = w.id ∙ ap (id_of p) sent;
  sender = w.sender;
  count = w.count ∙ ap (λ n. n + 1) sent;
  piece = w.piece;
  is = elim w.is [
    | inl k ↦ inl (k.0, k.1 ∙ pending)
    | inr k ↦ inr (k.0, k.1 ∙ ap Some sent)
  ];
}

process_sends : (r e : MsgId → ℕ) (s : OneKernel) (p : Pid) (x y : PlainProcess) (m : PlainMessage) (l : Label) → s.processes p ≡ Some (Alive x) → s.notes p ≡ None → Sent p x m y → ((i : MsgId) → reception i l ≡ 0) → Sound r e s
    → After r e s l (with_sent (step.goes_on s p y) (Some m))
process_sends r e s p x y m l is free sent none h =
    let u = step.goes_on s p y in
    let after = sends r e s p x y m is sent h in
    let count = sent.count in
    puts r e s u m l none (was_none r e s (with_sent u (Some m)) m.id m (sent_at u m m.id (id_eq-same m.id)) after h) (λ i z f. f)
    (Went-process s (with_sent u (Some m)) p x (Alive y) is (omega (arith, count)) free (λ q. refl) (λ n. refl) refl refl) after

pub after_sends : (r e : MsgId → ℕ) (s t : OneKernel) (p : Pid) (id : MsgId) (next : step.Trap) → Nexts s p next → step.sends s p id next ≡ Some t → Sound r e s → After r e s (Label.Send p id) t
after_sends r e s t p id (step.Calls number (calls.Sends m y)) w is h =
    let (z, sent, pending, counted) = w.counts in
    let k = when-is _ (with_sent (step.goes_on s p y) (Some m)) t is in
    subst (After r e s (Label.Send p id)) k.1
    (process_sends r e s p w.x y m (Label.Send p id) w.is.alive w.is.free (Sent-from p w.x z m y sent pending counted) (λ i. refl) h)
after_sends r e s t p id _ w is h = none_some t is

pub after_waits : (r e : MsgId → ℕ) (s t : OneKernel) (p : Pid) (next : step.Trap) → Nexts s p next → step.waits s p next ≡ Some t → Sound r e s → After r e s (Label.Wait p) t
after_waits r e s t p (step.Calls number (calls.Waits y)) w is h =
    let (z, sent, pending, counted) = w.counts in
    let k : step.goes_on s p y ≡ t = cc in
    subst (After r e s (Label.Wait p)) k (process_goes r e s p w.x y (Label.Wait p) w.is.alive w.is.free (counted.0 ∙ sent) (inr counted.1) (λ i. refl) h)
after_waits r e s t p _ w is h = none_some t is

pub after_outputs : (r e : MsgId → ℕ) (s t : OneKernel) (p : Pid) (word : ℕ) (next : step.Trap) → Nexts s p next → step.outputs s p word next ≡ Some t → Sound r e s → After r e s (Label.Out p word) t
after_outputs r e s t p word (step.Calls number (calls.Outputs put y)) w is h =
    let (z, sent, pending, counted) = w.counts in
    let k = when-is _ (step.goes_on s p y) t is in
    subst (After r e s (Label.Out p word)) k.1 (process_goes r e s p w.x y (Label.Out p word) w.is.alive w.is.free (counted.0 ∙ sent) (inl (counted.1 ∙ pending)) (λ i. refl) h)
after_outputs r e s t p word _ w is h = none_some t is

process_ends : (r e : MsgId → ℕ) (s : OneKernel) (p : Pid) (x : PlainProcess) (y : Why) (l : Label) → s.processes p ≡ Some (Alive x) → s.notes p ≡ None
    → ((i : MsgId) → reception i l ≡ 0) → Sound r e s → After r e s l (with_process s p (Ended y))
process_ends r e s p x y l is free none h =
    quiet r e s (with_process s p (Ended y)) l none (λ i z f. f) (Went-process s (with_process s p (Ended y)) p x (Ended y) is tt free (λ q. refl) (λ n. refl) refl refl) (ending r e s p x y is free h)

pub after_ends : (r e : MsgId → ℕ) (s t : OneKernel) (p : Pid) (y : Why) (next : step.Trap) → Nexts s p next → step.ends s p y next ≡ Some t → Sound r e s → After r e s (Label.End p y) t
after_ends r e s t p y (step.Calls number (calls.Replies reply z)) w is h = none_some t is
after_ends r e s t p y (step.Calls number (calls.Sends m z)) w is h = none_some t is
after_ends r e s t p y (step.Calls number (calls.Waits z)) w is h = none_some t is
after_ends r e s t p y (step.Calls number (calls.Outputs word z)) w is h = none_some t is
after_ends r e s t p y _ w is h =
    let k = when-is _ (with_process s p (Ended y)) t is in
    subst (After r e s (Label.End p y)) k.1 (process_ends r e s p w.x y (Label.End p y) w.is.alive w.is.free (λ i. refl) h)

-- a receive that ends: the process waited, and the message is a user's
pub record Completing (s : OneKernel) (p : Pid) (id : MsgId) (c : receiving.Completed) : Type 0 where
  pub x : PlainProcess
  pub alive : s.processes p ≡ Some (Alive x)
  pub free : s.notes p ≡ None
  pub m : PlainMessage
  pub there : s.bag id ≡ Some m
  pub memory : is_of_memory m.what ≡ false
  pub piece : is_piece m.what ≡ false
  pub is : Completes x c

abbrev UserCompletes : PlainProcess → PlainMessage → receiving.Completed → Type 0
UserCompletes x m c = (is_of_memory m.what ≡ false) × (is_piece m.what ≡ false) × Completes x c

completes_what-is : (p : Pid) (x : PlainProcess) (m : PlainMessage) (mask base size : ℕ) (w : PlainWhat) (c : receiving.Completed) → receiving.completes_what p x m mask base size w ≡ Some c
    → (is_of_memory w ≡ false) × (is_piece w ≡ false) × Completes x c
completes_what-is p x m mask base size (PlainWhat.User code channel body links) c e =
    (refl, refl, subst (Completes x) (cond_some _ (receiving.completes x base size code channel body links) c e).1 (completes-is x base size code channel body links))
completes_what-is p x m mask base size _ c e = none_some c e

completes_status-is : (p : Pid) (x : PlainProcess) (m : PlainMessage) (st : PlainStatus) (c : receiving.Completed) → receiving.completes_status p x m st ≡ Some c → UserCompletes x m c
completes_status-is p x m (Waiting mask base size) c e = completes_what-is p x m mask base size m.what c e
completes_status-is p x m _ c e = none_some c e

completes_with-is : (p : Pid) (x : PlainProcess) (m : PlainMessage) (b : Bool) (c : receiving.Completed) → (if b then None else receiving.completes_status p x m x.status) ≡ Some c → UserCompletes x m c
completes_with-is p x m true c e = none_some c e
completes_with-is p x m false c e = completes_status-is p x m x.status c e

pub completing : (s : OneKernel) (p : Pid) (id : MsgId) (c : receiving.Completed) → step.completing s p id ≡ Some c → Completing s p id c
completing s p id c e =
    let (x, is, rest) = bind-is (step.at_hand s p) (λ v. bind (s.bag id) (receiving.completes_with p v)) c e in
    let (m, there, last) = bind-is (s.bag id) (receiving.completes_with p x) c rest in
    let k = completes_with-is p x m x.stopped c last in
    let (free, alive) = at_hand-is s p x is in
    record { x = x; alive = alive; free = free; m = m; there = there; memory = k.0; piece = k.1; is = k.2 }

pub after_receives : (r e : MsgId → ℕ) (s t : OneKernel) (p : Pid) (id : MsgId) (c : receiving.Completed) → Completing s p id c → step.receives s p id c ≡ Some t → Sound r e s → After r e s (Label.Receive p id) t
after_receives r e s t p id (receiving.Receives y) w is h =
    let u = without_message s id in
    let v = step.goes_on u p y in
    let un = unawaited s id w.m w.there w.memory w.piece h.movers in
    let got = received r e s id (ap is_some w.there) un h in
    let on = goes (λ i. r i + (if id_eq i id then 1 else 0)) e u p w.x y w.alive w.is.0 (inr w.is.1) got in
    let went = Went-process s v p w.x (Alive y) w.alive (let f = w.is.0 in omega (arith, f)) w.free (λ q. refl) (λ n. refl) refl refl in
    let k : v ≡ t = cc in
    subst (After r e s (Label.Receive p id)) k
    (record {
      sound = Sound-same (λ i. r i + (if id_eq i id then 1 else 0)) e (λ i. r i + reception i (Label.Receive p id)) (λ i. e i + entry i s v) v (λ i. refl)
          (λ i. let z : entry i s v ≡ 0 = entry_of (s.bag i) (v.bag i) (stayed s id i) in omega (arith, z)) on;
      grown = went.grown;
      rests = went.rests;
      only = λ i a b was there. let f : Some a ≡ Some b = sym was ∙ stayed s id i b there in cc;
    })
after_receives r e s t p id (receiving.Refuses reply y) w is h = none_some t is

pub after_refuses : (r e : MsgId → ℕ) (s t : OneKernel) (p : Pid) (id : MsgId) (reply : Reply) (c : receiving.Completed) → Completing s p id c → step.refuses s p reply c ≡ Some t → Sound r e s → After r e s (Label.Refuse p id reply) t
after_refuses r e s t p id reply (receiving.Receives y) w is h = none_some t is
after_refuses r e s t p id reply (receiving.Refuses d y) w is h =
    let k = when-is _ (step.goes_on s p y) t is in
    subst (After r e s (Label.Refuse p id reply)) k.1 (process_goes r e s p w.x y (Label.Refuse p id reply) w.alive w.free w.is.0 (inr w.is.1) (λ i. refl) h)
