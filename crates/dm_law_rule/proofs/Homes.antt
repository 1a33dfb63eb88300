-- The places of all addresses, one kind of holder after the other.
pub mod Slots
pub mod Start
pub mod Rows
pub mod Calls
pub mod Steps
pub mod Receives
pub mod Serves
pub mod Servers
pub mod Manager
pub mod Labels
pub mod Lists
pub mod Lines
pub mod Parts
pub mod Groups
pub mod Turns
use Rattle.dm_law_rule.proofs.Names.{◌≡◌, ℕ, true, refl, ap, sym, subst, slice_get, Option, None, Some, Pid, Place, PlainLink, link_at, MsgId, PlainMessage, PlainProcess, NamedLink, Pending, MoveNote, OneKernel, links_in, to_of, sender_of, none_some}
use Rattle.dm_law_rule.proofs.Names.{enclosed_of, names, ascends, Addresses, Holder, Slot, Owner, Receiver, Sender, Enclosed, Child, Name, Answer, AskedBy, ToBoard, unmoved, switchboard, link_target, owner_in, asker_in, option_and_then, option_map, arith}
use Rattle.dm_onekernel.specs.Manager as manage
use Rattle.dm_onekernel.specs.Step as kernel

-- an address that is another's, of a process that is another
pub place_as : (P : Pid → Place → Type 0) {q : Pid} {x y : Place} → x ≡ y → P q y → P q x
place_as P {q} {x} {y} e h = subst (P q) (sym e) h

pub pid_as : (P : Pid → Place → Type 0) {p q : Pid} {x : Place} → p ≡ q → P p x → P q x
pid_as P {p} {q} {x} e h = subst (λ (r : Pid). P r x) e h

-- where the acting machine is a server's home
pub acts_at : (P : Pid → Place → Type 0) (q : Pid) (n : ℕ) → P q (unmoved q.home) → n ≡ q.home → P q (unmoved n)
acts_at P q n h e = place_as P (ap unmoved e) h

-- as long as nothing moves
abbrev pub IsHome : Pid → Place → Type 0
IsHome q place = place ≡ unmoved q.home

-- the same, one kind of holder after the other, where P says which places an address of a process may name: a process's slots and the owner of its data move
pub record HomeProcess (P : Pid → Place → Type 0) (a : Addresses) (p : Pid) (x : PlainProcess) : Type 0 where
  pub slots : (k : ℕ) (l : PlainLink) → link_at x.links k ≡ Some l → P l.to (a (Slot p k))
  pub owner : (q : Pid) → owner_in x.status ≡ Some q → P q (a (Owner p))

-- a message under its name
pub record HomeMessage (P : Pid → Place → Type 0) (a : Addresses) (i : MsgId) (m : PlainMessage) : Type 0 where
  pub receiver : P m.to (a (Receiver i))
  pub sender : P m.sender (a (Sender i))
  pub enclosed : (k : ℕ) (l : PlainLink) → slice_get (links_in m.what) k ≡ Some l → P l.to (a (Enclosed i k))

pub record AtHome (P : Pid → Place → Type 0) (s : OneKernel) (a : Addresses) : Type 0 where
  pub processes : (p : Pid) (x : PlainProcess) → kernel.alive (s.processes p) ≡ Some x → HomeProcess P a p x
  pub messages : (i : MsgId) (m : PlainMessage) → s.bag i ≡ Some m → HomeMessage P a i m
  pub children : (n : ℕ) (q : Pid) → manage.child_numbered s.manager.children n ≡ Some q → P q (a (Child n))
  pub named : (n : ℕ) (k : NamedLink) → slice_get s.switchboard.names n ≡ Some k → P k.link.to (a (Name n))
  pub answers : (n : ℕ) (r : Pending) (l : PlainLink) → manage.pending_numbered n s.manager.pending ≡ Some r → r.answer ≡ Some l → P l.to (a (Answer n))
  pub askers : (p : Pid) (n : MoveNote) → s.notes p ≡ Some n → P n.asker (a (AskedBy p))
  pub board : P switchboard (a ToBoard)
  -- whoever never moved is at home
  pub rooted : (q : Pid) → P q (unmoved q.home)
  pub pending : ascends 0 s.manager.pending s.manager.sent ≡ true

abbrev pub HomesAre : (Pid → Place → Type 0) → OneKernel → Addresses → Type 0
HomesAre P s a = (h : Holder) (q : Pid) → names s h ≡ Some q → P q (a h)

at_home_of : (P : Pid → Place → Type 0) (p q : Pid) (pl : Place) → Some p ≡ Some q → P p pl → P q pl
at_home_of P p q pl e f = let k : p ≡ q = cc in pid_as P k f

link_home : (P : Pid → Place → Type 0) (pl : Place) (q : Pid) (o : Option PlainLink) → ((l : PlainLink) → o ≡ Some l → P l.to pl) → link_target o ≡ Some q → P q pl
link_home P pl q None h e = none_some q e
link_home P pl q (Some l) h e = at_home_of P l.to q pl e (h l refl)

slot_home : (P : Pid → Place → Type 0) (a : Addresses) (p : Pid) (k : ℕ) (q : Pid) (o : Option PlainProcess) → ((x : PlainProcess) → o ≡ Some x → HomeProcess P a p x) → link_target (option_and_then (λ x. link_at x.links k) o) ≡ Some q → P q (a (Slot p k))
slot_home P a p k q None h e = none_some q e
slot_home P a p k q (Some x) h e = link_home P (a (Slot p k)) q (link_at x.links k) (λ l f. (h x refl).slots k l f) e

owner_home : (P : Pid → Place → Type 0) (a : Addresses) (p q : Pid) (o : Option PlainProcess) → ((x : PlainProcess) → o ≡ Some x → HomeProcess P a p x) → (option_and_then (λ (x : PlainProcess). owner_in x.status) o) ≡ Some q → P q (a (Owner p))
owner_home P a p q None h e = none_some q e
owner_home P a p q (Some x) h e = (h x refl).owner q e

message_home : (P : Pid → Place → Type 0) (a : Addresses) (i : MsgId) (q : Pid) (o : Option PlainMessage) → ((m : PlainMessage) → o ≡ Some m → HomeMessage P a i m) → to_of o ≡ Some q → P q (a (Receiver i))
message_home P a i q None h e = none_some q e
message_home P a i q (Some m) h e = at_home_of P m.to q (a (Receiver i)) e (h m refl).receiver

sender_home : (P : Pid → Place → Type 0) (a : Addresses) (i : MsgId) (q : Pid) (o : Option PlainMessage) → ((m : PlainMessage) → o ≡ Some m → HomeMessage P a i m) → sender_of o ≡ Some q → P q (a (Sender i))
sender_home P a i q None h e = none_some q e
sender_home P a i q (Some m) h e = at_home_of P m.sender q (a (Sender i)) e (h m refl).sender

enclosed_home : (P : Pid → Place → Type 0) (a : Addresses) (i : MsgId) (k : ℕ) (q : Pid) (o : Option PlainMessage) → ((m : PlainMessage) → o ≡ Some m → HomeMessage P a i m) → link_target (enclosed_of o k) ≡ Some q → P q (a (Enclosed i k))
enclosed_home P a i k q None h e = none_some q e
enclosed_home P a i k q (Some m) h e = link_home P (a (Enclosed i k)) q (slice_get (links_in m.what) k) (λ l f. (h m refl).enclosed k l f) e

name_home : (P : Pid → Place → Type 0) (a : Addresses) (n : ℕ) (q : Pid) (o : Option NamedLink) → ((k : NamedLink) → o ≡ Some k → P k.link.to (a (Name n))) → link_target (option_map (λ k. k.link) o) ≡ Some q → P q (a (Name n))
name_home P a n q None h e = none_some q e
name_home P a n q (Some k) h e = at_home_of P k.link.to q (a (Name n)) e (h k refl)

answer_home : (P : Pid → Place → Type 0) (a : Addresses) (n : ℕ) (q : Pid) (o : Option Pending) → ((r : Pending) (l : PlainLink) → o ≡ Some r → r.answer ≡ Some l → P l.to (a (Answer n))) → link_target (option_and_then (λ r. r.answer) o) ≡ Some q → P q (a (Answer n))
answer_home P a n q None h e = none_some q e
answer_home P a n q (Some r) h e = link_home P (a (Answer n)) q r.answer (λ l f. h r l refl f) e

asker_home : (P : Pid → Place → Type 0) (a : Addresses) (p q : Pid) (o : Option MoveNote) → ((n : MoveNote) → o ≡ Some n → P n.asker (a (AskedBy p))) → asker_in o ≡ Some q → P q (a (AskedBy p))
asker_home P a p q None h e = none_some q e
asker_home P a p q (Some n) h e = at_home_of P n.asker q (a (AskedBy p)) e (h n refl)

pub homes_are : (P : Pid → Place → Type 0) (s : OneKernel) (a : Addresses) → AtHome P s a → HomesAre P s a
homes_are P s a h (Slot p k) q e = slot_home P a p k q (kernel.alive (s.processes p)) (h.processes p) e
homes_are P s a h (Owner p) q e = owner_home P a p q (kernel.alive (s.processes p)) (h.processes p) e
homes_are P s a h (Receiver i) q e = message_home P a i q (s.bag i) (h.messages i) e
homes_are P s a h (Sender i) q e = sender_home P a i q (s.bag i) (h.messages i) e
homes_are P s a h (Enclosed i k) q e = enclosed_home P a i k q (s.bag i) (h.messages i) e
homes_are P s a h (Child n) q e = h.children n q e
homes_are P s a h (Name n) q e = name_home P a n q (slice_get s.switchboard.names n) (h.named n) e
homes_are P s a h (Answer n) q e = answer_home P a n q (manage.pending_numbered n s.manager.pending) (h.answers n) e
homes_are P s a h (AskedBy p) q e = asker_home P a p q (s.notes p) (h.askers p) e
homes_are P s a h ToBoard q e = at_home_of P switchboard q (a ToBoard) e h.board

pub at_home : (P : Pid → Place → Type 0) (s : OneKernel) (a : Addresses) → ((q : Pid) → P q (unmoved q.home)) → HomesAre P s a → ascends 0 s.manager.pending s.manager.sent ≡ true → AtHome P s a
at_home P s a rooted h numbers = search arith
