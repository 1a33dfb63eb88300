-- What processes do keeps addresses where they may be.
use Rattle.dm_law_rule.proofs.Names.{◌≡◌, ℕ, zero, suc, ◌+◌, ◌==◌, ◌&&◌, Bool, true, false, List, [], ◌∷◌, refl, ap, ◌∙◌, sym, subst, inl, inr, arith, if◌then◌else◌, slice_get, None, Some, cases_Bool, nat_tests, Pid, Place, pid_eq, MsgId}
use Rattle.dm_law_rule.proofs.Names.{id_eq, PlainMessage, PlainProcess, Life, Alive, OneKernel, with_process, with_sent, without_message, pid_eq-is, id_eq-is, id_eq-same, sent_at, sent_off, stayed, bind-is, Addresses, given, Slot, Owner}
use Rattle.dm_law_rule.proofs.Names.{Receiver, Sender, Enclosed, Child, Name, Answer, AskedBy, ToBoard, encloses, at_hand-is, none_some}
use Rattle.dm_onekernel.specs.Step as kernel
use Rattle.dm_law_rule.proofs.Homes.{place_as, HomeProcess, HomeMessage, AtHome}

-- a process's addresses stay, and a message's
pub record SameProcess (a b : Addresses) (p : Pid) : Type 0 where
  pub slot : (k : ℕ) → b (Slot p k) ≡ a (Slot p k)
  pub owner : b (Owner p) ≡ a (Owner p)

pub record SameMessage (a b : Addresses) (i : MsgId) : Type 0 where
  pub receiver : b (Receiver i) ≡ a (Receiver i)
  pub sender : b (Sender i) ≡ a (Sender i)
  pub enclosed : (k : ℕ) → b (Enclosed i k) ≡ a (Enclosed i k)

-- those of the servers, and of who asked a process to move
pub record SameServers (a b : Addresses) : Type 0 where
  pub child : (n : ℕ) → b (Child n) ≡ a (Child n)
  pub name : (n : ℕ) → b (Name n) ≡ a (Name n)
  pub answer : (n : ℕ) → b (Answer n) ≡ a (Answer n)
  pub asked : (p : Pid) → b (AskedBy p) ≡ a (AskedBy p)
  pub board : b ToBoard ≡ a ToBoard

pub process_same : (P : Pid → Place → Type 0) (a b : Addresses) (p : Pid) (x : PlainProcess) → SameProcess a b p → HomeProcess P a p x → HomeProcess P b p x
process_same P a b p x w h = record { slots = λ k l e. place_as P (w.slot k) (h.slots k l e); owner = λ q e. place_as P w.owner (h.owner q e) }

pub message_same : (P : Pid → Place → Type 0) (a b : Addresses) (i : MsgId) (m : PlainMessage) → SameMessage a b i → HomeMessage P a i m → HomeMessage P b i m
message_same P a b i m w h = record { receiver = place_as P w.receiver h.receiver; sender = place_as P w.sender h.sender; enclosed = λ k l e. place_as P (w.enclosed k) (h.enclosed k l e) }

-- the processes once one was set
pub set_home : (P : Pid → Place → Type 0) (s : OneKernel) (a b : Addresses) (p : Pid) (life : Life) → AtHome P s a → ((q : Pid) → pid_eq p q ≡ false → SameProcess a b q) → ((y : PlainProcess) → kernel.alive (Some life) ≡ Some y → HomeProcess P b p y)
    → (q : Pid) (x : PlainProcess) → kernel.alive ((with_process s p life).processes q) ≡ Some x → HomeProcess P b q x
set_home P s a b p life h off on q x e = elim (cases_Bool (pid_eq p q)) [
  | inl same ↦
      subst (λ (v : Pid). HomeProcess P b v x) (pid_eq-is p q same) (on x (sym (ap (λ (c : Bool). kernel.alive (if c then Some life else s.processes q)) same) ∙ e))
  | inr apart ↦
      process_same P a b q x (off q apart) (h.processes q x (sym (ap (λ (c : Bool). kernel.alive (if c then Some life else s.processes q)) apart) ∙ e))
]

-- the messages once one came
pub sent_home : (P : Pid → Place → Type 0) (s : OneKernel) (a b : Addresses) (m : PlainMessage) → ((i : MsgId) (x : PlainMessage) → s.bag i ≡ Some x → HomeMessage P a i x) → ((i : MsgId) → id_eq m.id i ≡ false → SameMessage a b i) → HomeMessage P b m.id m
    → (i : MsgId) (x : PlainMessage) → (with_sent s (Some m)).bag i ≡ Some x → HomeMessage P b i x
sent_home P s a b m h off on i x e = elim (cases_Bool (id_eq m.id i)) [
  | inl same ↦
      let f : Some m ≡ Some x = sym (sent_at s m i same) ∙ e in
      subst (λ (v : PlainMessage). HomeMessage P b i v) (let g : m ≡ x = cc in g) (subst (λ (j : MsgId). HomeMessage P b j m) (id_eq-is m.id i same) on)
  | inr apart ↦ message_same P a b i x (off i apart) (h i x (sym (sent_off s m i apart) ∙ e))
]

-- only a process's addresses are given
pub at_home_process : (P : Pid → Place → Type 0) (s : OneKernel) (a b : Addresses) (p : Pid) (life : Life) → AtHome P s a → ((q : Pid) → pid_eq p q ≡ false → SameProcess a b q) → ((y : PlainProcess) → kernel.alive (Some life) ≡ Some y → HomeProcess P b p y)
    → ((i : MsgId) → SameMessage a b i) → SameServers a b → AtHome P (with_process s p life) b
at_home_process P s a b p life h off on messages servers = record {
  processes = set_home P s a b p life h off on;
  messages = λ i m e. message_same P a b i m (messages i) (h.messages i m e);
  children = λ n q e. place_as P (servers.child n) (h.children n q e);
  named = λ n k e. place_as P (servers.name n) (h.named n k e);
  answers = λ n r l e f. place_as P (servers.answer n) (h.answers n r l e f);
  askers = λ q n e. place_as P (servers.asked q) (h.askers q n e);
  board = place_as P servers.board h.board;
  rooted = h.rooted;
  pending = h.pending;
}

pub at_home_out : (P : Pid → Place → Type 0) (s : OneKernel) (a : Addresses) (id : MsgId) → AtHome P s a → AtHome P (without_message s id) a
at_home_out P s a id h = record {
  processes = h.processes;
  messages = λ i m e. h.messages i m (stayed s id i m e);
  children = h.children;
  named = h.named;
  answers = h.answers;
  askers = h.askers;
  board = h.board;
  rooted = h.rooted;
  pending = h.pending;
}

pub at_home_goes : (P : Pid → Place → Type 0) (s : OneKernel) (a : Addresses) (p : Pid) (life : Life) → AtHome P s a → ((y : PlainProcess) → kernel.alive (Some life) ≡ Some y → HomeProcess P a p y) → AtHome P (with_process s p life) a
at_home_goes P s a p life h on = search (arith, at_home_process)

pub alive_on : (P : Pid → Place → Type 0) (a : Addresses) (p : Pid) (x : PlainProcess) → HomeProcess P a p x → (y : PlainProcess) → kernel.alive (Some (Alive x)) ≡ Some y → HomeProcess P a p y
alive_on P a p x h y e = let f : x ≡ y = cc in subst (HomeProcess P a p) f h

-- a process goes on
pub home_goes : (P : Pid → Place → Type 0) (s : OneKernel) (a : Addresses) (p : Pid) (y : PlainProcess) → AtHome P s a → HomeProcess P a p y → AtHome P (kernel.goes_on s p y) a
home_goes P s a p y h k = at_home_goes P s a p (Alive y) h (alive_on P a p y k)

-- the process that executes
running_home_if : (P : Pid → Place → Type 0) (a : Addresses) (p : Pid) (y : PlainProcess) (c : Bool) (x : PlainProcess) → HomeProcess P a p y → (if c then None else Some y) ≡ Some x → HomeProcess P a p x
running_home_if P a p y true x h e = none_some x e
running_home_if P a p y false x h e = let f : y ≡ x = cc in subst (HomeProcess P a p) f h

pub running_home : (P : Pid → Place → Type 0) (s : OneKernel) (a : Addresses) (p : Pid) (x : PlainProcess) → AtHome P s a → kernel.running s p ≡ Some x → HomeProcess P a p x
running_home P s a p x h e =
    let (y, is, ready) = bind-is (kernel.at_hand s p) (λ (v : PlainProcess). kernel.if_ready v v.status) x e in
    search (arith, running_home_if, h.processes p y (ap kernel.alive (at_hand-is s p y is).1))

-- links of an enclosing list
encloses_slot : (a : Addresses) (id : MsgId) (n : ℕ) (ps : List Place) (q : Pid) (k : ℕ) → given a (encloses id n ps) (Slot q k) ≡ a (Slot q k)
encloses_slot a id n [] q k = refl
encloses_slot a id n (p ∷ ps) q k = encloses_slot a id (n + 1) ps q k

encloses_owner : (a : Addresses) (id : MsgId) (n : ℕ) (ps : List Place) (q : Pid) → given a (encloses id n ps) (Owner q) ≡ a (Owner q)
encloses_owner a id n [] q = refl
encloses_owner a id n (p ∷ ps) q = encloses_owner a id (n + 1) ps q

encloses_receiver : (a : Addresses) (id : MsgId) (n : ℕ) (ps : List Place) (i : MsgId) → given a (encloses id n ps) (Receiver i) ≡ a (Receiver i)
encloses_receiver a id n [] i = refl
encloses_receiver a id n (p ∷ ps) i = encloses_receiver a id (n + 1) ps i

encloses_sender : (a : Addresses) (id : MsgId) (n : ℕ) (ps : List Place) (i : MsgId) → given a (encloses id n ps) (Sender i) ≡ a (Sender i)
encloses_sender a id n [] i = refl
encloses_sender a id n (p ∷ ps) i = encloses_sender a id (n + 1) ps i

encloses_child : (a : Addresses) (id : MsgId) (n : ℕ) (ps : List Place) (k : ℕ) → given a (encloses id n ps) (Child k) ≡ a (Child k)
encloses_child a id n [] k = refl
encloses_child a id n (p ∷ ps) k = encloses_child a id (n + 1) ps k

encloses_name : (a : Addresses) (id : MsgId) (n : ℕ) (ps : List Place) (k : ℕ) → given a (encloses id n ps) (Name k) ≡ a (Name k)
encloses_name a id n [] k = refl
encloses_name a id n (p ∷ ps) k = encloses_name a id (n + 1) ps k

encloses_answer : (a : Addresses) (id : MsgId) (n : ℕ) (ps : List Place) (k : ℕ) → given a (encloses id n ps) (Answer k) ≡ a (Answer k)
encloses_answer a id n [] k = refl
encloses_answer a id n (p ∷ ps) k = encloses_answer a id (n + 1) ps k

encloses_asked : (a : Addresses) (id : MsgId) (n : ℕ) (ps : List Place) (q : Pid) → given a (encloses id n ps) (AskedBy q) ≡ a (AskedBy q)
encloses_asked a id n [] q = refl
encloses_asked a id n (p ∷ ps) q = encloses_asked a id (n + 1) ps q

encloses_board : (a : Addresses) (id : MsgId) (n : ℕ) (ps : List Place) → given a (encloses id n ps) ToBoard ≡ a ToBoard
encloses_board a id n [] = refl
encloses_board a id n (p ∷ ps) = encloses_board a id (n + 1) ps

encloses_other : (a : Addresses) (id : MsgId) (n : ℕ) (ps : List Place) (i : MsgId) (k : ℕ) → id_eq id i ≡ false → given a (encloses id n ps) (Enclosed i k) ≡ a (Enclosed i k)
encloses_other a id n [] i k e = refl
encloses_other a id n (p ∷ ps) i k e =
    ap (λ (c : Bool). if c && (n == k) then p else given a (encloses id (n + 1) ps) (Enclosed i k)) e ∙ encloses_other a id (n + 1) ps i k e

pub encloses_servers : (a : Addresses) (id : MsgId) (n : ℕ) (ps : List Place) → SameServers a (given a (encloses id n ps))
encloses_servers a id n ps = record { child = encloses_child a id n ps; name = encloses_name a id n ps; answer = encloses_answer a id n ps; asked = encloses_asked a id n ps; board = encloses_board a id n ps }

pub encloses_process : (a : Addresses) (id : MsgId) (n : ℕ) (ps : List Place) (q : Pid) → SameProcess a (given a (encloses id n ps)) q
encloses_process a id n ps q = record { slot = encloses_slot a id n ps q; owner = encloses_owner a id n ps q }

pub encloses_message : (a : Addresses) (id : MsgId) (n : ℕ) (ps : List Place) (i : MsgId) → id_eq id i ≡ false → SameMessage a (given a (encloses id n ps)) i
encloses_message a id n ps i e = record { receiver = encloses_receiver a id n ps i; sender = encloses_sender a id n ps i; enclosed = λ k. encloses_other a id n ps i k e }

-- the k-th of them has its place
pub encloses_at : (a : Addresses) (id : MsgId) (n : ℕ) (ps : List Place) (k j : ℕ) (p : Place) → slice_get ps k ≡ Some p → j ≡ n + k → given a (encloses id n ps) (Enclosed id j) ≡ p
encloses_at a id n [] k j p e f = none_some p e
encloses_at a id n (x ∷ ps) zero j p e f =
    let is : x ≡ p = cc in ap (λ (c : Bool). if c then x else given a (encloses id (n + 1) ps) (Enclosed id j)) (let same : (id_eq id id && (n == j)) ≡ true = let g = id_eq-same id in grind (arith, nat_tests) in same) ∙ is
encloses_at a id n (x ∷ ps) (suc k) j p e f =
    let apart : (id_eq id id && (n == j)) ≡ false = let g = id_eq-same id in grind (arith, nat_tests) in
    ap (λ (c : Bool). if c then x else given a (encloses id (n + 1) ps) (Enclosed id j)) apart ∙ encloses_at a id (n + 1) ps k j p e (omega (arith, f))
