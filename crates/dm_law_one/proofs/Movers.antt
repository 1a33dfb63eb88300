-- A process that moves data has one message under its pending number: the request for its piece, or the answer.
use Rattle.dm_law_one.proofs.Names.{◌≡◌, ℕ, Bool, true, false, refl, ap, ◌∙◌, sym, subst, ◌⊎◌, inl, inr, arith, if◌then◌else◌, Option, None, Some, cases_Bool, false≢true, nat_tests, Pid, pid_eq, MsgId, id_eq, id_of, PlainMessage, PlainWhat}
use Rattle.dm_law_one.proofs.Names.{PlainProcess, Alive, Ended, OneKernel, with_process, with_sent, answer_id, answer_to, without_message}
use Rattle.dm_law_one.proofs.Equal.{pid_eq-is, id_eq-is, id_eq-same}
use Rattle.dm_law_one.proofs.Counted.{is_of_memory, is_piece, pending_of}

-- the request of a piece, or its answer, and not both
abbrev pub One : Option PlainMessage → Option PlainMessage → Type 0
One None None = ⊥
One (Some m) None = is_of_memory m.what ≡ true
One None (Some m) = is_piece m.what ≡ true
One (Some m) (Some n) = ⊥

pub One-same : (a b c d : Option PlainMessage) → c ≡ a → d ≡ b → One a b → One c d
One-same a b c d e f h = subst (λ v. One c v) (sym f) (subst (λ v. One v b) (sym e) h)

pub record Movers (s : OneKernel) : Type 0 where
  pub senders : (i : MsgId) (m : PlainMessage) → s.bag i ≡ Some m → is_of_memory m.what ≡ true → m.sender ≡ i.from
  pub requests : (i : MsgId) (m : PlainMessage) → s.bag i ≡ Some m → is_of_memory m.what ≡ true → i.answer ≡ false
  pub returns : (i : MsgId) (m : PlainMessage) → s.bag i ≡ Some m → is_piece m.what ≡ true → (m.to ≡ i.from) × (i.answer ≡ true)
  pub mover : (p : Pid) (x : PlainProcess) (n : ℕ) → s.processes p ≡ Some (Alive x) → pending_of x.status ≡ Some n → One (s.bag (id_of p n)) (s.bag (answer_id (id_of p n)))

-- a process that goes on without a move, or with the same one
pub Movers-process : (s : OneKernel) (p : Pid) (x y : PlainProcess) → s.processes p ≡ Some (Alive x) → (pending_of y.status ≡ pending_of x.status) ⊎ (pending_of y.status ≡ None) → Movers s → Movers (with_process s p (Alive y))
Movers-process s p x y is pending h = record {
  senders = h.senders;
  requests = h.requests;
  returns = h.returns;
  mover = λ q z n alive waits. elim (cases_Bool (pid_eq p q)) [
    | inl same ↦
        let e : p ≡ q = pid_eq-is p q same in
        let z_is : Some (Alive y) ≡ Some (Alive z) = let a = alive in grind (arith, nat_tests) in
        let zy : y ≡ z = cc in
        elim pending [
          | inl f ↦ h.mover q x n (sym (ap s.processes e) ∙ is) (sym f ∙ ap (λ (v : PlainProcess). pending_of v.status) zy ∙ waits)
          | inr f ↦ absurd (let k : None ≡ Some n = sym f ∙ ap (λ (v : PlainProcess). pending_of v.status) zy ∙ waits in cc)
        ]
    | inr apart ↦ h.mover q z n (let a = alive in grind (arith, nat_tests)) waits
  ];
}

pub Movers-ended : (s : OneKernel) (p : Pid) (y : _) → Movers s → Movers (with_process s p (Ended y))
Movers-ended s p y h = record {
  senders = h.senders;
  requests = h.requests;
  returns = h.returns;
  mover = λ q z n alive waits. elim (cases_Bool (pid_eq p q)) [
    | inl same ↦ absurd (let k : Some (Ended y) ≡ Some (Alive z) = let a = alive in grind (arith, nat_tests) in cc)
    | inr apart ↦ h.mover q z n (let a = alive in grind (arith, nat_tests)) waits
  ];
}

-- no process waits for the message
abbrev pub IsUnawaited : OneKernel → MsgId → Type 0
IsUnawaited s id = (q : Pid) (z : PlainProcess) (n : ℕ) → s.processes q ≡ Some (Alive z) → pending_of z.status ≡ Some n → (id_eq id (id_of q n) ≡ false) × (id_eq id (answer_id (id_of q n)) ≡ false)

pub Movers-out : (s : OneKernel) (id : MsgId) → IsUnawaited s id → Movers s → Movers (without_message s id)
Movers-out s id un h = record {
  senders = λ i m k. let w = h.senders i m in grind arith;
  requests = λ i m k. let w = h.requests i m in grind arith;
  returns = λ i m k. let w = h.returns i m in grind arith;
  mover = λ q z n alive waits. let a = un q z n alive waits in let w = h.mover q z n alive waits in grind (arith, nat_tests);
}

-- a message that isn't of data moves
pub unawaited : (s : OneKernel) (id : MsgId) (m : PlainMessage) → s.bag id ≡ Some m → is_of_memory m.what ≡ false → is_piece m.what ≡ false → Movers s → IsUnawaited s id
unawaited s id m there a b h q z n alive waits =
    let w = h.mover q z n alive waits in
    let f = id_eq-is id (id_of q n) in
    let g = id_eq-is id (answer_id (id_of q n)) in
    grind (arith, nat_tests)

-- an answer that isn't there yet, to a request that has gone
pub answer_unawaited : (s : OneKernel) (id : MsgId) → id.answer ≡ false → s.bag id ≡ None → s.bag (answer_id id) ≡ None → Movers s → IsUnawaited s (answer_id id)
answer_unawaited s id request gone none h q z n alive waits =
    let off : id_eq (answer_id id) (id_of q n) ≡ false = grind (arith, nat_tests) in (
      off,
      elim (cases_Bool (id_eq (answer_id id) (answer_id (id_of q n)))) [
        | inl same ↦
            let names : id ≡ id_of q n = let f = id_eq-is (answer_id id) (answer_id (id_of q n)) same in grind arith in
            absurd (One-same (s.bag (id_of q n)) (s.bag (answer_id (id_of q n))) None None (sym gone ∙ ap s.bag names) (sym none ∙ ap (λ i. s.bag (answer_id i)) names) (h.mover q z n alive waits))
        | inr apart ↦ apart
      ],
    )

-- the bag at one name, after a message came or went
pub sent_at : (s : OneKernel) (m : PlainMessage) (i : MsgId) → id_eq m.id i ≡ true → (with_sent s (Some m)).bag i ≡ Some m
sent_at s m i e = ap (λ (b : Bool). if b then Some m else s.bag i) e

pub sent_off : (s : OneKernel) (m : PlainMessage) (i : MsgId) → id_eq m.id i ≡ false → (with_sent s (Some m)).bag i ≡ s.bag i
sent_off s m i e = ap (λ (b : Bool). if b then Some m else s.bag i) e

pub out_off : (s : OneKernel) (id i : MsgId) → id_eq id i ≡ false → (without_message s id).bag i ≡ s.bag i
out_off s id i e = ap (λ (b : Bool). if b then None else s.bag i) e

pub out_at : (s : OneKernel) (id i : MsgId) → id_eq id i ≡ true → (without_message s id).bag i ≡ None
out_at s id i e = ap (λ (b : Bool). if b then None else s.bag i) e

-- what the bag has under a name is the new message, or was there
pub came : (s : OneKernel) (m x : PlainMessage) (i : MsgId) → (with_sent s (Some m)).bag i ≡ Some x → ((m ≡ x) × (m.id ≡ i)) ⊎ (s.bag i ≡ Some x)
came s m x i k = elim (cases_Bool (id_eq m.id i)) [
  | inl same ↦ inl (let e : Some m ≡ Some x = sym (sent_at s m i same) ∙ k in let f : m ≡ x = cc in f, id_eq-is m.id i same)
  | inr apart ↦ inr (sym (sent_off s m i apart) ∙ k)
]

pub stayed : (s : OneKernel) (id i : MsgId) (x : PlainMessage) → (without_message s id).bag i ≡ Some x → s.bag i ≡ Some x
stayed s id i x k = elim (cases_Bool (id_eq id i)) [
  | inl same ↦ absurd (let e : None ≡ Some x = sym (out_at s id i same) ∙ k in cc)
  | inr apart ↦ sym (out_off s id i apart) ∙ k
]

-- a message enters the bag that is of no data move
pub Movers-sent : (s : OneKernel) (m : PlainMessage) → IsUnawaited s m.id → is_of_memory m.what ≡ false → is_piece m.what ≡ false → Movers s → Movers (with_sent s (Some m))
Movers-sent s m un a b h = record {
  senders = λ i x k c. elim (came s m x i k) [
    | inl is ↦ absurd (false≢true (sym a ∙ ap (λ (v : PlainMessage). is_of_memory v.what) is.0 ∙ c))
    | inr was ↦ h.senders i x was c
  ];
  requests = λ i x k c. elim (came s m x i k) [
    | inl is ↦ absurd (false≢true (sym a ∙ ap (λ (v : PlainMessage). is_of_memory v.what) is.0 ∙ c))
    | inr was ↦ h.requests i x was c
  ];
  returns = λ i x k c. elim (came s m x i k) [
    | inl is ↦ absurd (false≢true (sym b ∙ ap (λ (v : PlainMessage). is_piece v.what) is.0 ∙ c))
    | inr was ↦ h.returns i x was c
  ];
  mover = λ q z n alive waits.
      let off = un q z n alive waits in
      One-same (s.bag (id_of q n)) (s.bag (answer_id (id_of q n))) ((with_sent s (Some m)).bag (id_of q n)) ((with_sent s (Some m)).bag (answer_id (id_of q n)))
      (sent_off s m (id_of q n) off.0) (sent_off s m (answer_id (id_of q n)) off.1) (h.mover q z n alive waits);
}

pub other_names : (p q : Pid) (i j : MsgId) → pid_eq p q ≡ false → i.from ≡ p → j.from ≡ q → id_eq i j ≡ false
other_names p q i j e f g = grind (arith, nat_tests)

request_one : (a b : Option PlainMessage) (m : PlainMessage) → a ≡ Some m → b ≡ None → is_of_memory m.what ≡ true → One a b
request_one a b m e f g = One-same (Some m) None a b e f g

answer_apart : (i : MsgId) → i.answer ≡ false → id_eq i (answer_id i) ≡ false
answer_apart i e = grind (arith, nat_tests)

-- the request for a piece enters the bag, and its sender waits for it
pub Movers-request : (s : OneKernel) (p : Pid) (x y : PlainProcess) (m : PlainMessage) → s.processes p ≡ Some (Alive x) → m.id ≡ id_of p x.sent → m.sender ≡ p
    → is_of_memory m.what ≡ true → is_piece m.what ≡ false → pending_of y.status ≡ Some x.sent → s.bag (answer_id m.id) ≡ None
    → Movers s → Movers (with_sent (with_process s p (Alive y)) (Some m))
Movers-request s p x y m is id sender memory piece pending none h =
    let t = with_process s p (Alive y) in
    record {
      senders = λ i a k c. elim (came t m a i k) [
        | inl e ↦ sym (ap (λ (v : PlainMessage). v.sender) e.0) ∙ sender ∙ sym (ap (λ (v : MsgId). v.from) id) ∙ ap (λ (v : MsgId). v.from) e.1
        | inr was ↦ h.senders i a was c
      ];
      requests = λ i a k c. elim (came t m a i k) [
        | inl e ↦ sym (ap (λ (v : MsgId). v.answer) e.1) ∙ ap (λ (v : MsgId). v.answer) id
        | inr was ↦ h.requests i a was c
      ];
      returns = λ i a k c. elim (came t m a i k) [
        | inl e ↦ absurd (false≢true (sym piece ∙ ap (λ (v : PlainMessage). is_piece v.what) e.0 ∙ c))
        | inr was ↦ h.returns i a was c
      ];
      mover = λ q z n alive waits. elim (cases_Bool (pid_eq p q)) [
        | inl same ↦
            let e : p ≡ q = pid_eq-is p q same in
            let z_is : Some (Alive y) ≡ Some (Alive z) = sym (ap (λ (b : Bool). if b then Some (Alive y) else s.processes q) same) ∙ alive in
            let zy : y ≡ z = cc in
            let number : Some x.sent ≡ Some n = sym pending ∙ ap (λ (v : PlainProcess). pending_of v.status) zy ∙ waits in
            let names : m.id ≡ id_of q n = let nn : x.sent ≡ n = cc in id ∙ ap (λ v. id_of v x.sent) e ∙ ap (id_of q) nn in
            let here : id_eq m.id (id_of q n) ≡ true = ap (id_eq m.id) (sym names) ∙ id_eq-same m.id in
            let fresh : m.id.answer ≡ false = ap (λ (v : MsgId). v.answer) id in
            let other : id_eq m.id (answer_id (id_of q n)) ≡ false = ap (λ v. id_eq m.id (answer_id v)) (sym names) ∙ answer_apart m.id fresh in
            let empty : s.bag (answer_id (id_of q n)) ≡ None = ap (λ j. s.bag (answer_id j)) (sym names) ∙ none in
            request_one ((with_sent t (Some m)).bag (id_of q n)) ((with_sent t (Some m)).bag (answer_id (id_of q n))) m
            (sent_at t m (id_of q n) here) (sent_off t m (answer_id (id_of q n)) other ∙ empty) memory
        | inr apart ↦
            let was : s.processes q ≡ Some (Alive z) = sym (ap (λ (b : Bool). if b then Some (Alive y) else s.processes q) apart) ∙ alive in
            let from : m.id.from ≡ p = ap (λ (v : MsgId). v.from) id in
            One-same (s.bag (id_of q n)) (s.bag (answer_id (id_of q n))) ((with_sent t (Some m)).bag (id_of q n)) ((with_sent t (Some m)).bag (answer_id (id_of q n)))
            (sent_off t m (id_of q n) (other_names p q m.id (id_of q n) apart from refl)) (sent_off t m (answer_id (id_of q n)) (other_names p q m.id (answer_id (id_of q n)) apart from refl))
            (h.mover q z n was waits)
      ];
    }

-- where a mover's request is answered, the answer is there in its stead
answered_one : (a b : Option PlainMessage) (m : PlainMessage) → a ≡ None → b ≡ Some m → is_piece m.what ≡ true → One a b
answered_one a b m e f g = One-same None (Some m) a b e f g

request_is : (a b : Option PlainMessage) (m : PlainMessage) → a ≡ Some m → One a b → is_of_memory m.what ≡ true
request_is (Some x) None m e h = let f : x ≡ m = cc in sym (ap (λ (v : PlainMessage). is_of_memory v.what) f) ∙ h
request_is (Some x) (Some y) m e h = absurd h
request_is None b m e h = cc

-- an answer takes the place of a request
pub Movers-answer : (s : OneKernel) (id : MsgId) (m : PlainMessage) (w : PlainWhat) → s.bag id ≡ Some m → m.id ≡ id → s.bag (answer_id id) ≡ None → id.answer ≡ false
    → is_of_memory w ≡ false → is_piece w ≡ is_of_memory m.what → Movers s → Movers (with_sent (without_message s id) (Some (answer_to m w)))
Movers-answer s id m w there name none request memory piece h =
    let t = without_message s id in
    let a = answer_to m w in
    let a_id : a.id ≡ answer_id id = ap answer_id name in
    record {
      senders = λ i x k c. elim (came t a x i k) [
        | inl e ↦ absurd (false≢true (sym memory ∙ ap (λ (v : PlainMessage). is_of_memory v.what) e.0 ∙ c))
        | inr was ↦ h.senders i x (stayed s id i x was) c
      ];
      requests = λ i x k c. elim (came t a x i k) [
        | inl e ↦ absurd (false≢true (sym memory ∙ ap (λ (v : PlainMessage). is_of_memory v.what) e.0 ∙ c))
        | inr was ↦ h.requests i x (stayed s id i x was) c
      ];
      returns = λ i x k c. elim (came t a x i k) [
        | inl e ↦
            let is_request : is_of_memory m.what ≡ true = sym piece ∙ ap (λ (v : PlainMessage). is_piece v.what) e.0 ∙ c in
            let sender : m.sender ≡ id.from = h.senders id m there is_request in
            let from : id.from ≡ i.from = sym (ap (λ (v : MsgId). v.from) a_id) ∙ ap (λ (v : MsgId). v.from) e.1 in
            (sym (ap (λ (v : PlainMessage). v.to) e.0) ∙ sender ∙ from, sym (ap (λ (v : MsgId). v.answer) e.1))
        | inr was ↦ h.returns i x (stayed s id i x was) c
      ];
      mover = λ q z n alive waits. elim (cases_Bool (id_eq id (id_of q n))) [
        | inl same ↦
            let names : id ≡ id_of q n = id_eq-is id (id_of q n) same in
            let is_request : is_of_memory m.what ≡ true =
            request_is (s.bag (id_of q n)) (s.bag (answer_id (id_of q n))) m (sym (ap s.bag names) ∙ there) (h.mover q z n alive waits) in
            let here : id_eq a.id (answer_id (id_of q n)) ≡ true = ap (λ v. id_eq a.id (answer_id v)) (sym names) ∙ ap (λ v. id_eq v (answer_id id)) a_id ∙ id_eq-same (answer_id id) in
            let off : id_eq a.id (id_of q n) ≡ false = grind (arith, nat_tests) in
            answered_one ((with_sent t (Some a)).bag (id_of q n)) ((with_sent t (Some a)).bag (answer_id (id_of q n))) a
            (sent_off t a (id_of q n) off ∙ out_at s id (id_of q n) same) (sent_at t a (answer_id (id_of q n)) here) (piece ∙ is_request)
        | inr apart ↦
            let off : id_eq a.id (id_of q n) ≡ false = grind (arith, nat_tests) in
            let off_answer : id_eq id (answer_id (id_of q n)) ≡ false = grind (arith, nat_tests) in
            let apart_answer : id_eq a.id (answer_id (id_of q n)) ≡ false = ap (λ v. id_eq v (answer_id (id_of q n))) a_id ∙ (let e : id_eq (answer_id id) (answer_id (id_of q n)) ≡ false = grind (arith, nat_tests) in e) in
            One-same (s.bag (id_of q n)) (s.bag (answer_id (id_of q n))) ((with_sent t (Some a)).bag (id_of q n)) ((with_sent t (Some a)).bag (answer_id (id_of q n)))
            (sent_off t a (id_of q n) off ∙ out_off s id (id_of q n) apart) (sent_off t a (answer_id (id_of q n)) apart_answer ∙ out_off s id (answer_id (id_of q n)) off_answer)
            (h.mover q z n alive waits)
      ];
    }

-- a process that begins
pub Movers-born : (s : OneKernel) (p : Pid) (y : PlainProcess) → pending_of y.status ≡ None → Movers s → Movers (with_process s p (Alive y))
Movers-born s p y pending h = record {
  senders = h.senders;
  requests = h.requests;
  returns = h.returns;
  mover = λ q z n alive waits. elim (cases_Bool (pid_eq p q)) [
    | inl same ↦
        let z_is : Some (Alive y) ≡ Some (Alive z) = sym (ap (λ (b : Bool). if b then Some (Alive y) else s.processes q) same) ∙ alive in
        let zy : y ≡ z = cc in
        absurd (let k : None ≡ Some n = sym pending ∙ ap (λ (v : PlainProcess). pending_of v.status) zy ∙ waits in cc)
    | inr apart ↦ h.mover q z n (sym (ap (λ (b : Bool). if b then Some (Alive y) else s.processes q) apart) ∙ alive) waits
  ];
}

-- the answer that a process has just taken, and waits for no more
pub unawaited_taken : (s : OneKernel) (p : Pid) (y : PlainProcess) (id : MsgId) → pending_of y.status ≡ None → id.from ≡ p → IsUnawaited (with_process s p (Alive y)) id
unawaited_taken s p y id pending from q z n alive waits = elim (cases_Bool (pid_eq p q)) [
  | inl same ↦
      let z_is : Some (Alive y) ≡ Some (Alive z) = sym (ap (λ (b : Bool). if b then Some (Alive y) else s.processes q) same) ∙ alive in
      let zy : y ≡ z = cc in
      absurd (let k : None ≡ Some n = sym pending ∙ ap (λ (v : PlainProcess). pending_of v.status) zy ∙ waits in cc)
  | inr apart ↦ (other_names p q id (id_of q n) apart from refl, other_names p q id (answer_id (id_of q n)) apart from refl)
]
