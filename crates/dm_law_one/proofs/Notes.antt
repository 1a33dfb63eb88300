-- Requests to move that processes follow: what each way of changing the kernel without machines keeps of them.
use Rattle.dm_law_one.proofs.Names.{◌≡◌, ℕ, ◌+◌, ◌≤◌, Bool, false, refl, ap, ◌∙◌, sym, subst, inl, inr, arith, if◌then◌else◌, Option, None, Some, cases_Bool, false≢true, nat_tests, Pid, pid_eq, MsgId, id_eq, PlainMessage, PlainProcess, Alive}
use Rattle.dm_law_one.proofs.Names.{Ended, MoveNote, OneKernel, with_process, with_sent, with_note, without_note, answer_id, without_message, in_bag, NotesAgree}
use Rattle.dm_law_one.proofs.Equal.{pid_eq-is, pid_eq-same, id_eq-is, id_eq-same}
use Rattle.dm_law_one.proofs.Entered.{Entered}

-- e counts what entered: a request that is followed has come, has gone, and nothing answers it yet
pub record Followed (e : MsgId → ℕ) (s : OneKernel) (i : MsgId) : Type 0 where
  pub request : i.answer ≡ false
  pub entered : 1 ≤ e i
  pub taken : s.bag i ≡ None
  pub unanswered : e (answer_id i) ≡ 0

pub record Notes (e : MsgId → ℕ) (s : OneKernel) : Type 0 where
  pub noted : (p : Pid) (n : MoveNote) → s.notes p ≡ Some n → s.noted n.id ≡ Some p
  pub follows : (i : MsgId) (p : Pid) → s.noted i ≡ Some p → (n : MoveNote) × (s.notes p ≡ Some n) × (n.id ≡ i)
  pub lives : (p : Pid) (n : MoveNote) → s.notes p ≡ Some n → (x : PlainProcess) × (s.processes p ≡ Some (Alive x))
  pub followed : (i : MsgId) (p : Pid) → s.noted i ≡ Some p → Followed e s i

none_entered : (o : Option PlainMessage) → in_bag o ≤ 0 → o ≡ None
none_entered None few = refl
none_entered (Some m) few = absurd (omega (arith, few))

-- names of requests of which one is followed and the other isn't, or by others
other_request : (s : OneKernel) (i j : MsgId) (q : Pid) → s.noted i ≡ None → s.noted j ≡ Some q → id_eq i j ≡ false
other_request s i j q new was = elim (cases_Bool (id_eq i j)) [
  | inl same ↦ absurd (let k : None ≡ Some q = sym new ∙ ap s.noted (id_eq-is i j same) ∙ was in cc)
  | inr apart ↦ apart
]

request_apart : (s : OneKernel) (i j : MsgId) (p q : Pid) → pid_eq p q ≡ false → s.noted i ≡ Some p → s.noted j ≡ Some q → id_eq i j ≡ false
request_apart s i j p q apart one other = elim (cases_Bool (id_eq i j)) [
  | inl same ↦ absurd (let k : Some p ≡ Some q = sym one ∙ ap s.noted (id_eq-is i j same) ∙ other in let f : p ≡ q = cc in false≢true (sym apart ∙ ap (pid_eq p) (sym f) ∙ pid_eq-same p))
  | inr off ↦ off
]

pub other_process : (s : OneKernel) (p q : Pid) (k : MoveNote) → s.notes p ≡ None → s.notes q ≡ Some k → pid_eq p q ≡ false
other_process s p q k free notes = elim (cases_Bool (pid_eq p q)) [
  | inl same ↦ absurd (let f : None ≡ Some k = sym free ∙ ap s.notes (pid_eq-is p q same) ∙ notes in cc)
  | inr apart ↦ apart
]

process_apart : (s : OneKernel) (p q : Pid) (n k : MoveNote) (i : MsgId) → s.notes p ≡ Some n → s.notes q ≡ Some k → k.id ≡ i → id_eq n.id i ≡ false → pid_eq p q ≡ false
process_apart s p q n k i one other id apart = elim (cases_Bool (pid_eq p q)) [
  | inl same ↦
      let f : Some n ≡ Some k = sym one ∙ ap s.notes (pid_eq-is p q same) ∙ other in
      let g : n ≡ k = cc in
      absurd (false≢true (sym apart ∙ ap (id_eq n.id) (sym id ∙ ap (λ (v : MoveNote). v.id) (sym g)) ∙ id_eq-same n.id))
  | inr off ↦ off
]

answers_apart : (s : OneKernel) (i j : MsgId) (q : Pid) → i.answer ≡ false → j.answer ≡ false → s.noted i ≡ None → s.noted j ≡ Some q → id_eq (answer_id i) (answer_id j) ≡ false
answers_apart s i j q one other new was = let k = other_request s i j q new was in grind (arith, nat_tests)

followed_as : (e : MsgId → ℕ) (s t : OneKernel) (i j : MsgId) → i ≡ j → t.bag ≡ s.bag → Followed e s i → Followed e t j
followed_as e s t i j same bag f = subst (Followed e t) same (record { request = f.request; entered = f.entered; taken = ap (λ (b : MsgId → Option PlainMessage). b i) bag ∙ f.taken; unanswered = f.unanswered })

pub Notes-agree : (r e : MsgId → ℕ) (s : OneKernel) → Entered r e s → Notes e s → NotesAgree s
Notes-agree r e s entered h = record {
  noted = h.noted;
  follows = h.follows;
  lives = h.lives;
  taken = λ i p is. let f = h.followed i p is in (f.taken, none_entered (s.bag (answer_id i)) (let k = entered.fewer (answer_id i) in let u = f.unanswered in omega (arith, k, u)));
}

-- nothing of it changes
pub Notes-same : (e : MsgId → ℕ) (s t : OneKernel) → ((p : Pid) → t.processes p ≡ s.processes p) → ((i : MsgId) → t.bag i ≡ s.bag i) → ((p : Pid) → t.notes p ≡ s.notes p) → ((i : MsgId) → t.noted i ≡ s.noted i)
    → Notes e s → Notes e t
Notes-same e s t processes bag notes noted h = record {
  noted = λ p n is. noted n.id ∙ h.noted p n (sym (notes p) ∙ is);
  follows = λ i p is. let (n, there, id) = h.follows i p (sym (noted i) ∙ is) in (n, notes p ∙ there, id);
  lives = λ p n is. let (x, alive) = h.lives p n (sym (notes p) ∙ is) in (x, processes p ∙ alive);
  followed = λ i p is. let f = h.followed i p (sym (noted i) ∙ is) in record { request = f.request; entered = f.entered; taken = bag i ∙ f.taken; unanswered = f.unanswered };
}

-- a process goes on, or begins
pub Notes-process : (e : MsgId → ℕ) (s : OneKernel) (p : Pid) (y : PlainProcess) → Notes e s → Notes e (with_process s p (Alive y))
Notes-process e s p y h = record {
  noted = h.noted;
  follows = h.follows;
  lives = λ q n is. elim (cases_Bool (pid_eq p q)) [
    | inl same ↦ (y, ap (λ (b : Bool). if b then Some (Alive y) else s.processes q) same)
    | inr apart ↦ let (x, alive) = h.lives q n is in (x, ap (λ (b : Bool). if b then Some (Alive y) else s.processes q) apart ∙ alive)
  ];
  followed = λ i q is. let f = h.followed i q is in record { request = f.request; entered = f.entered; taken = f.taken; unanswered = f.unanswered };
}

-- a process ends that follows nothing
pub Notes-ended : (e : MsgId → ℕ) (s : OneKernel) (p : Pid) (y : _) → s.notes p ≡ None → Notes e s → Notes e (with_process s p (Ended y))
Notes-ended e s p y free h = record {
  noted = h.noted;
  follows = h.follows;
  lives = λ q n is. elim (cases_Bool (pid_eq p q)) [
    | inl same ↦ absurd (let k : None ≡ Some n = sym free ∙ ap s.notes (pid_eq-is p q same) ∙ is in cc)
    | inr apart ↦ let (x, alive) = h.lives q n is in (x, ap (λ (b : Bool). if b then Some (Ended y) else s.processes q) apart ∙ alive)
  ];
  followed = λ i q is. let f = h.followed i q is in record { request = f.request; entered = f.entered; taken = f.taken; unanswered = f.unanswered };
}

-- a message goes
pub Notes-out : (e : MsgId → ℕ) (s : OneKernel) (id : MsgId) → Notes e s → Notes e (without_message s id)
Notes-out e s id h = record {
  noted = h.noted;
  follows = h.follows;
  lives = h.lives;
  followed = λ i q is. let f = h.followed i q is in record { request = f.request; entered = f.entered; taken = let k = f.taken in grind arith; unanswered = f.unanswered };
}

-- a message enters that is no answer, under a new name
pub Notes-sent : (e : MsgId → ℕ) (s : OneKernel) (m : PlainMessage) → m.id.answer ≡ false → e m.id ≡ 0 → Notes e s → Notes (λ i. e i + (if id_eq m.id i then 1 else 0)) (with_sent s (Some m))
Notes-sent e s m request fresh h = record {
  noted = h.noted;
  follows = h.follows;
  lives = h.lives;
  followed = λ i q is.
      let f = h.followed i q is in
      let entered = f.entered in
      let taken = f.taken in
      let unanswered = f.unanswered in
      let same = id_eq-is m.id i in
      let apart : id_eq m.id i ≡ false = grind (arith, nat_tests) in
      let off : id_eq m.id (answer_id i) ≡ false = grind (arith, nat_tests) in
      record {
        request = f.request;
        entered = omega (arith, entered);
        taken = ap (λ (b : Bool). if b then Some m else s.bag i) apart ∙ taken;
        unanswered = ap (λ (b : Bool). e (answer_id i) + (if b then 1 else 0)) off ∙ omega (arith, unanswered);
      };
}

-- the answer to a request enters that nobody follows
pub Notes-answer : (e : MsgId → ℕ) (s : OneKernel) (id : MsgId) (a : PlainMessage) → a.id ≡ answer_id id → id.answer ≡ false → s.noted id ≡ None → Notes e s
    → Notes (λ i. e i + (if id_eq (answer_id id) i then 1 else 0)) (with_sent s (Some a))
Notes-answer e s id a name request free h = record {
  noted = h.noted;
  follows = h.follows;
  lives = h.lives;
  followed = λ i q is.
      let f = h.followed i q is in
      let entered = f.entered in
      let unanswered = f.unanswered in
      let asked = f.request in
      let apart : id_eq a.id i ≡ false = ap (λ (v : MsgId). id_eq v i) name ∙ (let k : id_eq (answer_id id) i ≡ false = grind (arith, nat_tests) in k) in
      record {
        request = asked;
        entered = omega (arith, entered);
        taken = ap (λ (b : Bool). if b then Some a else s.bag i) apart ∙ f.taken;
        unanswered = ap (λ (b : Bool). e (answer_id i) + (if b then 1 else 0)) (answers_apart s id i q request asked free is) ∙ omega (arith, unanswered);
      };
}

-- a process begins to follow a request
pub Notes-begin : (e : MsgId → ℕ) (s : OneKernel) (p : Pid) (n : MoveNote) (x : PlainProcess) → s.notes p ≡ None → s.noted n.id ≡ None → s.processes p ≡ Some (Alive x) → Followed e s n.id → Notes e s → Notes e (with_note s p n)
Notes-begin e s p n x free new alive f h = record {
  noted = λ q k is. elim (cases_Bool (pid_eq p q)) [
    | inl same ↦
        let z : Some n ≡ Some k = sym (ap (λ (b : Bool). if b then Some n else s.notes q) same) ∙ is in
        let k_is : n ≡ k = cc in
        ap (λ (b : Bool). if b then Some p else s.noted k.id) (ap (λ (v : MoveNote). id_eq n.id v.id) (sym k_is) ∙ id_eq-same n.id) ∙ ap Some (pid_eq-is p q same)
    | inr apart ↦
        let was : s.noted k.id ≡ Some q = h.noted q k (sym (ap (λ (b : Bool). if b then Some n else s.notes q) apart) ∙ is) in
        ap (λ (b : Bool). if b then Some p else s.noted k.id) (other_request s n.id k.id q new was) ∙ was
  ];
  follows = λ i q is. elim (cases_Bool (id_eq n.id i)) [
    | inl same ↦
        let k : Some p ≡ Some q = sym (ap (λ (b : Bool). if b then Some p else s.noted i) same) ∙ is in
        let q_is : p ≡ q = cc in
        (n, ap (λ (b : Bool). if b then Some n else s.notes q) (ap (pid_eq p) (sym q_is) ∙ pid_eq-same p), id_eq-is n.id i same)
    | inr apart ↦
        let (k, notes, id) = h.follows i q (sym (ap (λ (b : Bool). if b then Some p else s.noted i) apart) ∙ is) in
        (k, ap (λ (b : Bool). if b then Some n else s.notes q) (other_process s p q k free notes) ∙ notes, id)
  ];
  lives = λ q k is. elim (cases_Bool (pid_eq p q)) [
    | inl same ↦ (x, ap s.processes (sym (pid_eq-is p q same)) ∙ alive)
    | inr apart ↦ h.lives q k (sym (ap (λ (b : Bool). if b then Some n else s.notes q) apart) ∙ is)
  ];
  followed = λ i q is. elim (cases_Bool (id_eq n.id i)) [
    | inl same ↦ followed_as e s (with_note s p n) n.id i (id_eq-is n.id i same) refl f
    | inr apart ↦ followed_as e s (with_note s p n) i i refl refl (h.followed i q (sym (ap (λ (b : Bool). if b then Some p else s.noted i) apart) ∙ is))
  ];
}

-- a process has followed its request
pub Notes-end : (e : MsgId → ℕ) (s : OneKernel) (p : Pid) (n : MoveNote) → s.notes p ≡ Some n → Notes e s → Notes e (without_note s p n.id)
Notes-end e s p n is h = record {
  noted = λ q k there. elim (cases_Bool (pid_eq p q)) [
    | inl same ↦ absurd (let z : None ≡ Some k = sym (ap (λ (b : Bool). if b then None else s.notes q) same) ∙ there in cc)
    | inr apart ↦
        let was : s.noted k.id ≡ Some q = h.noted q k (sym (ap (λ (b : Bool). if b then None else s.notes q) apart) ∙ there) in
        ap (λ (b : Bool). if b then None else s.noted k.id) (request_apart s n.id k.id p q apart (h.noted p n is) was) ∙ was
  ];
  follows = λ i q there. elim (cases_Bool (id_eq n.id i)) [
    | inl same ↦ absurd (let z : None ≡ Some q = sym (ap (λ (b : Bool). if b then None else s.noted i) same) ∙ there in cc)
    | inr apart ↦
        let (k, notes, id) = h.follows i q (sym (ap (λ (b : Bool). if b then None else s.noted i) apart) ∙ there) in
        (k, ap (λ (b : Bool). if b then None else s.notes q) (process_apart s p q n k i is notes id apart) ∙ notes, id)
  ];
  lives = λ q k there. elim (cases_Bool (pid_eq p q)) [
    | inl same ↦ absurd (let z : None ≡ Some k = sym (ap (λ (b : Bool). if b then None else s.notes q) same) ∙ there in cc)
    | inr apart ↦ h.lives q k (sym (ap (λ (b : Bool). if b then None else s.notes q) apart) ∙ there)
  ];
  followed = λ i q there. elim (cases_Bool (id_eq n.id i)) [
    | inl same ↦ absurd (let z : None ≡ Some q = sym (ap (λ (b : Bool). if b then None else s.noted i) same) ∙ there in cc)
    | inr apart ↦ followed_as e s (without_note s p n.id) i i refl refl (h.followed i q (sym (ap (λ (b : Bool). if b then None else s.noted i) apart) ∙ there))
  ];
}

unnoted_of : (e : MsgId → ℕ) (s : OneKernel) (i : MsgId) (m : PlainMessage) (o : Option Pid) → s.noted i ≡ o → s.bag i ≡ Some m → Notes e s → o ≡ None
unnoted_of e s i m None f there h = refl
unnoted_of e s i m (Some p) f there h = absurd (let k : None ≡ Some m = sym (h.followed i p f).taken ∙ there in cc)

-- nobody follows a message of the bag
pub unnoted : (e : MsgId → ℕ) (s : OneKernel) (i : MsgId) (m : PlainMessage) → s.bag i ≡ Some m → Notes e s → s.noted i ≡ None
unnoted e s i m there h = unnoted_of e s i m (s.noted i) refl there h
