-- A name is given to one message: what entered the bag is counted by its sender, and answers take the place of requests.
use Rattle.dm_law_one.proofs.Names.{◌≡◌, ℕ, ◌+◌, ◌≤◌, Bool, true, false, nat_lt, nat_le, is_some, inl, inr, arith, if◌then◌else◌, Option, None, Some, cases_Bool, nat_tests, Pid, pid_eq, MsgId, id_eq, PlainMessage, PlainWhat, switchboard}
use Rattle.dm_law_one.proofs.Names.{manager, Life, Alive, Ended, OneKernel, with_process, with_sent, answer_id, without_message, in_bag}
use Rattle.dm_law_one.proofs.Equal.{pid_eq-is, id_eq-is, id_eq-same, id_eq-swap}

-- the life of a process counts number n
abbrev pub is_counted : ℕ → Option Life → Bool
is_counted n None = false
is_counted n (Some (Alive x)) = nat_lt n x.sent
is_counted n (Some (Ended why)) = true

-- the sender of a message counts it
abbrev pub counts : OneKernel → MsgId → Bool
counts s i =
    if pid_eq i.from switchboard then nat_lt i.n s.switchboard.sent
    else if pid_eq i.from manager then nat_lt i.n s.manager.sent
    else is_counted i.n (s.processes i.from)

abbrev pub request_id : MsgId → MsgId
request_id i = record { from = i.from; n = i.n; answer = false }

-- the kinds that an answer takes the place of
abbrev pub asks : PlainWhat → Bool
asks (PlainWhat.Read base len) = true
asks (PlainWhat.Write base bytes) = true
asks (PlainWhat.Create image links) = true
asks (PlainWhat.Move machine) = true
asks w = false

-- r counts receptions, e what entered
pub record Entered (r e : MsgId → ℕ) (s : OneKernel) : Type 0 where
  pub counted : (i : MsgId) → 1 ≤ e i → counts s i ≡ true
  pub answers : (i : MsgId) → i.answer ≡ true → 1 ≤ e i → s.bag (request_id i) ≡ None
  pub once : (i : MsgId) → e i ≤ 1
  pub fewer : (i : MsgId) → r i + in_bag (s.bag i) ≤ e i
  pub named : (i : MsgId) (m : PlainMessage) → s.bag i ≡ Some m → m.id ≡ i
  pub requests : (i : MsgId) (m : PlainMessage) → s.bag i ≡ Some m → asks m.what ≡ true → i.answer ≡ false

-- processes are numbered from 3, below the number that their home made
pub record Made (s : OneKernel) : Type 0 where
  pub least : (p : Pid) → is_some (s.processes p) ≡ true → nat_le 3 p.num ≡ true
  pub most : (p : Pid) → is_some (s.processes p) ≡ true → nat_lt p.num (3 + s.made p.home) ≡ true

-- a life that follows another forgets none of its numbers
abbrev pub Grows : Option Life → Life → Type 0
Grows before life = (n : ℕ) → is_counted n before ≡ true → is_counted n (Some life) ≡ true

pub counts_grow : (s : OneKernel) (p : Pid) (life : Life) (i : MsgId) → Grows (s.processes p) life → counts s i ≡ true → counts (with_process s p life) i ≡ true
counts_grow s p life i g h = elim (cases_Bool (pid_eq p i.from)) [
  | inl same ↦ let is : p ≡ i.from = pid_eq-is p i.from same in let k = g i.n in grind (arith, nat_tests)
  | inr apart ↦ grind (arith, nat_tests)
]

pub Entered-process : (r e : MsgId → ℕ) (s : OneKernel) (p : Pid) (life : Life) → Grows (s.processes p) life → Entered r e s → Entered r e (with_process s p life)
Entered-process r e s p life g h = record {
  counted = λ i k. counts_grow s p life i g (h.counted i k);
  answers = h.answers;
  once = h.once;
  fewer = h.fewer;
  named = h.named;
  requests = h.requests;
}

-- a message taken out, received or not
pub Entered-out : (r e : MsgId → ℕ) (s : OneKernel) (id : MsgId) → Entered r e s → Entered r e (without_message s id)
Entered-out r e s id h = record {
  counted = h.counted;
  answers = λ i a k. let w = h.answers i a k in grind arith;
  once = h.once;
  fewer = λ i. let w = h.fewer i in grind arith;
  named = λ i m k. let w = h.named i m in grind arith;
  requests = λ i m k. let w = h.requests i m in grind arith;
}

pub Entered-received : (r e : MsgId → ℕ) (s : OneKernel) (id : MsgId) → is_some (s.bag id) ≡ true → Entered r e s → Entered (λ i. r i + (if id_eq i id then 1 else 0)) e (without_message s id)
Entered-received r e s id there h = record {
  counted = h.counted;
  answers = λ i a k. let w = h.answers i a k in grind arith;
  once = h.once;
  fewer = λ i. let w = h.fewer i in let z = h.fewer id in let swap = id_eq-swap i id in let is = id_eq-is id i in grind (arith, nat_tests);
  named = λ i m k. let w = h.named i m in grind arith;
  requests = λ i m k. let w = h.requests i m in grind arith;
}

-- a message that its sender numbers now enters the bag: t is s with the sender's count raised
pub record Enters (s t : OneKernel) (m : PlainMessage) : Type 0 where
  pub fresh : counts s m.id ≡ false
  pub counted : counts t m.id ≡ true
  pub grows : (i : MsgId) → counts s i ≡ true → counts t i ≡ true
  pub bag : (i : MsgId) → t.bag i ≡ s.bag i
  pub request : m.id.answer ≡ false

pub unentered : (r e : MsgId → ℕ) (s : OneKernel) (i : MsgId) → Entered r e s → counts s i ≡ false → e i ≡ 0
unentered r e s i h f = let k = h.counted i in grind (arith, nat_tests)

pub Entered-own : (r e : MsgId → ℕ) (s t : OneKernel) (m : PlainMessage) → Enters s t m → Entered r e s → Entered r (λ i. e i + (if id_eq m.id i then 1 else 0)) (with_sent t (Some m))
Entered-own r e s t m w h =
    let zero_ : e m.id ≡ 0 = unentered r e s m.id h w.fresh in
    record {
      counted = λ i k. elim (cases_Bool (id_eq m.id i)) [
        | inl same ↦ let is = id_eq-is m.id i same in let c = w.counted in grind arith
        | inr apart ↦ let c = h.counted i in let g = w.grows i in grind (arith, nat_tests)
      ];
      answers = λ i a k. elim (cases_Bool (id_eq m.id i)) [
        | inl same ↦ let is = id_eq-is m.id i same in let q = w.request in grind arith
        | inr apart ↦ elim (cases_Bool (id_eq m.id (request_id i))) [
          | inl same ↦
              let is = id_eq-is m.id (request_id i) same in
              let c = h.counted i in let f = w.fresh in grind (arith, nat_tests)
          | inr off ↦ let c = h.answers i a in let b = w.bag (request_id i) in grind (arith, nat_tests)
        ]
      ];
      once = λ i. elim (cases_Bool (id_eq m.id i)) [
        | inl same ↦ let is = id_eq-is m.id i same in grind (arith, nat_tests)
        | inr apart ↦ let c = h.once i in grind (arith, nat_tests)
      ];
      fewer = λ i. elim (cases_Bool (id_eq m.id i)) [
        | inl same ↦ let is = id_eq-is m.id i same in let f = h.fewer i in grind (arith, nat_tests)
        | inr apart ↦ let c = h.fewer i in let b = w.bag i in grind (arith, nat_tests)
      ];
      named = λ i x k. elim (cases_Bool (id_eq m.id i)) [
        | inl same ↦ let is = id_eq-is m.id i same in grind arith
        | inr apart ↦ let c = h.named i x in let b = w.bag i in grind arith
      ];
      requests = λ i x k a. elim (cases_Bool (id_eq m.id i)) [
        | inl same ↦ let is = id_eq-is m.id i same in let q = w.request in grind arith
        | inr apart ↦ let c = h.requests i x in let b = w.bag i in grind arith
      ];
    }

-- an answer enters, whose request has come and gone
pub Entered-answer : (r e : MsgId → ℕ) (s : OneKernel) (id : MsgId) (a : PlainMessage) → a.id ≡ answer_id id → id.answer ≡ false → 1 ≤ e id → e (answer_id id) ≡ 0 → s.bag id ≡ None → asks a.what ≡ false → Entered r e s
    → Entered r (λ i. e i + (if id_eq (answer_id id) i then 1 else 0)) (with_sent s (Some a))
Entered-answer r e s id a name request entered zero_ gone answering h =
    let same_request : request_id (answer_id id) ≡ id = grind arith in
    let counted : counts s (answer_id id) ≡ true = let c = h.counted id entered in grind arith in
    record {
      counted = λ i k. elim (cases_Bool (id_eq (answer_id id) i)) [
        | inl same ↦ let is = id_eq-is (answer_id id) i same in let c = counted in grind arith
        | inr apart ↦ let c = h.counted i in grind (arith, nat_tests)
      ];
      answers = λ i b k. elim (cases_Bool (id_eq (answer_id id) i)) [
        | inl same ↦ let is = id_eq-is (answer_id id) i same in let z = id_eq-same id in grind (arith, nat_tests)
        | inr apart ↦ let c = h.answers i b in grind (arith, nat_tests)
      ];
      once = λ i. elim (cases_Bool (id_eq (answer_id id) i)) [
        | inl same ↦ let is = id_eq-is (answer_id id) i same in grind (arith, nat_tests)
        | inr apart ↦ let c = h.once i in grind (arith, nat_tests)
      ];
      fewer = λ i. elim (cases_Bool (id_eq (answer_id id) i)) [
        | inl same ↦ let is = id_eq-is (answer_id id) i same in let f = h.fewer i in grind (arith, nat_tests)
        | inr apart ↦ let c = h.fewer i in grind (arith, nat_tests)
      ];
      named = λ i x k. elim (cases_Bool (id_eq (answer_id id) i)) [
        | inl same ↦ let is = id_eq-is (answer_id id) i same in grind arith
        | inr apart ↦ let c = h.named i x in grind arith
      ];
      requests = λ i x k b. elim (cases_Bool (id_eq (answer_id id) i)) [
        | inl same ↦ let is = id_eq-is (answer_id id) i same in grind arith
        | inr apart ↦ let c = h.requests i x in grind arith
      ];
    }
