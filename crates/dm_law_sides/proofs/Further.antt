-- What keeps to a side goes on keeping to it, as long as processes and children only come, and sides only for what is new.
use Rattle.dm_law_always.proofs.Names.{◌≡◌, ℕ, ◌||◌, Bool, true, false, List, refl, ap, ◌∙◌, sym, subst, is_some, inl, inr, ◌⊎◌, arith, nat_tests, nat_lt, if◌then◌else◌, Option, None, Some, Pid, pid_eq, PlainLink, MsgId, PlainMessage, PlainWhat}
use Rattle.dm_law_always.proofs.Names.{PlainProcess, PlainStatus, Ready, Waiting, Moving, Life, Alive, MoveNote, NamedLink, Pending, OneKernel, switchboard, manager, Each}
use Rattle.dm_onekernel.specs.Manager.{child_numbered}
use Rattle.dm_law_always.proofs.Fits.Rises.{Each-on}
use Rattle.dm_law_sides.specs.Sides.{Sides, side_of, is_there, IsOn, LinkKeeps, Keeping, MaybeKeeping, AreaKeeps, OrderKeeps, PieceKeeps, MessageKeeps, NameKeeps, RequestKeeps, NoteKeeps, Keeps}

pub record Further (s : OneKernel) (k : Sides) (t : OneKernel) (j : Sides) : Type 0 where
  pub there : (p : Pid) → is_there s p ≡ true → is_there t p ≡ true
  pub of : (p : Pid) → is_there s p ≡ true → j.of p ≡ k.of p
  pub children : (n : ℕ) (p : Pid) → child_numbered s.manager.children n ≡ Some p → child_numbered t.manager.children n ≡ Some p
  pub told : (n : ℕ) → nat_lt n s.manager.sent ≡ true → j.told n ≡ k.told n
  pub sent : (n : ℕ) → nat_lt n s.manager.sent ≡ true → nat_lt n t.manager.sent ≡ true

pub on_further : (s t : OneKernel) (k j : Sides) (i : ℕ) (p : Pid) → Further s k t j → IsOn s k i p → IsOn t j i p
on_further s t k j i p f h = (f.of p h.1 ∙ h.0, f.there p h.1)

reached_by : (b : Bool) (o o' : Option Pid) (to q : Pid) → ((p : Pid) → o ≡ Some p → o' ≡ Some p) → (if b then o else Some to) ≡ Some q → (if b then o' else Some to) ≡ Some q
reached_by true o o' to q f e = f q e
reached_by false o o' to q f e = e

pub link_further : (s t : OneKernel) (k j : Sides) (i : ℕ) (to : Pid) (code : ℕ) → Further s k t j → LinkKeeps s k i to code → LinkKeeps t j i to code
link_further s t k j i to code f (inl h) = inl h
link_further s t k j i to code f (inr (q, is, on)) =
    inr (q, reached_by (pid_eq to manager) (child_numbered s.manager.children code) (child_numbered t.manager.children code) to q (f.children code) is, on_further s t k j i q f on)

pub links_further : (s t : OneKernel) (k j : Sides) (i : ℕ) (ls : List PlainLink) → Further s k t j → Each (Keeping s k i) ls → Each (Keeping t j i) ls
links_further s t k j i ls f h = Each-on (Keeping s k i) (Keeping t j i) (λ l e. link_further s t k j i l.to l.code f e) ls h

pub maybe_further : (s t : OneKernel) (k j : Sides) (i : ℕ) (o : Option PlainLink) → Further s k t j → MaybeKeeping s k i o → MaybeKeeping t j i o
maybe_further s t k j i None f h = tt
maybe_further s t k j i (Some l) f h = link_further s t k j i l.to l.code f h

pub slots_further : (s t : OneKernel) (k j : Sides) (i : ℕ) (ls : List (Option PlainLink)) → Further s k t j → Each (MaybeKeeping s k i) ls → Each (MaybeKeeping t j i) ls
slots_further s t k j i ls f h = Each-on (MaybeKeeping s k i) (MaybeKeeping t j i) (λ o e. maybe_further s t k j i o f e) ls h

pub area_further : (s t : OneKernel) (k j : Sides) (i : ℕ) (st : PlainStatus) → Further s k t j → AreaKeeps s k i st → AreaKeeps t j i st
area_further s t k j i Ready f h = tt
area_further s t k j i (Waiting mask base cap) f h = tt
area_further s t k j i (Moving dir owner base own left pending) f h = on_further s t k j i owner f h

order_further : (s t : OneKernel) (k j : Sides) (i : ℕ) (m : PlainMessage) → Further s k t j → OrderKeeps s k i m → OrderKeeps t j i m
order_further s t k j i m f h = (h.0, on_further s t k j i m.to f h.1)

piece_further : (s t : OneKernel) (k j : Sides) (i : ℕ) (m : PlainMessage) → Further s k t j → PieceKeeps s k i m → PieceKeeps t j i m
piece_further s t k j i m f h = (on_further s t k j i m.sender f h.0, on_further s t k j i m.to f h.1)

sender_further : (s t : OneKernel) (k j : Sides) (i : ℕ) (p : Pid) → Further s k t j → (p ≡ manager) ⊎ IsOn s k i p → (p ≡ manager) ⊎ IsOn t j i p
sender_further s t k j i p f (inl e) = inl e
sender_further s t k j i p f (inr h) = inr (on_further s t k j i p f h)

pub message_further : (s t : OneKernel) (k j : Sides) (i : ℕ) (m : PlainMessage) (w : PlainWhat) → Further s k t j → MessageKeeps s k i m w → MessageKeeps t j i m w
message_further s t k j i m (PlainWhat.User code channel body links) f h =
    (sender_further s t k j i m.sender f h.0, link_further s t k j i m.to code f h.1, links_further s t k j i links f h.2)
message_further s t k j i m PlainWhat.Stop f h = order_further s t k j i m f h
message_further s t k j i m PlainWhat.Resume f h = order_further s t k j i m f h
message_further s t k j i m PlainWhat.Kill f h = order_further s t k j i m f h
message_further s t k j i m (PlainWhat.Move machine) f h = order_further s t k j i m f h
message_further s t k j i m (PlainWhat.Read base len) f h = piece_further s t k j i m f h
message_further s t k j i m (PlainWhat.Write base bytes) f h = piece_further s t k j i m f h
message_further s t k j i m (PlainWhat.Block bytes) f h = piece_further s t k j i m f h
message_further s t k j i m PlainWhat.Written f h = piece_further s t k j i m f h
message_further s t k j i m PlainWhat.Gone f h = piece_further s t k j i m f h
message_further s t k j i m (PlainWhat.Create image links) f h = (h.0, links_further s t k j i links f h.1)
message_further s t k j i m (PlainWhat.Created child) f h = (h.0, on_further s t k j i child f h.1)
message_further s t k j i m PlainWhat.NoRoom f h = h
message_further s t k j i m (PlainWhat.Moved outcome) f h = h

or_second : (a b : Bool) → b ≡ true → (a || b) ≡ true
or_second a b e = grind (arith, nat_tests)

-- the switchboard and who lives are there
pub board_there : (s : OneKernel) → is_there s switchboard ≡ true
board_there s = refl

pub alive_there : (s : OneKernel) (p : Pid) (life : Life) → s.processes p ≡ Some life → is_there s p ≡ true
alive_there s p life e = or_second (pid_eq p switchboard) (is_some (s.processes p)) (ap is_some e)

pub name_further : (s t : OneKernel) (k j : Sides) (e : NamedLink) → Further s k t j → NameKeeps s k e → NameKeeps t j e
name_further s t k j e f h =
    subst (λ i. LinkKeeps t j i e.link.to e.link.code) (sym (f.of switchboard (board_there s))) (link_further s t k j (k.of switchboard) e.link.to e.link.code f h)

pub request_further : (s t : OneKernel) (k j : Sides) (r : Pending) → Further s k t j → RequestKeeps s k r → RequestKeeps t j r
request_further s t k j r f h =
    (subst (λ i. MaybeKeeping t j i r.answer) (sym (f.told r.n h.1)) (maybe_further s t k j (k.told r.n) r.answer f h.0), f.sent r.n h.1)

-- the side of a name that the manager has given, or another
side_by : (k j : Sides) (id : MsgId) (b : Bool) → (b ≡ true → j.told id.n ≡ k.told id.n) → (b ≡ false → j.of id.from ≡ k.of id.from) → (if b then j.told id.n else j.of id.from) ≡ (if b then k.told id.n else k.of id.from)
side_by k j id true f g = f refl
side_by k j id false f g = g refl

pub side_same : (k j : Sides) (id : MsgId) → (pid_eq id.from manager ≡ true → j.told id.n ≡ k.told id.n) → (pid_eq id.from manager ≡ false → j.of id.from ≡ k.of id.from) → side_of j id ≡ side_of k id
side_same k j id f g = side_by k j id (pid_eq id.from manager) f g

from_manager : (id : MsgId) → id.from ≡ manager → pid_eq id.from manager ≡ false → {A : Type 0} → A
from_manager id e f = absurd (let k : pid_eq id.from manager ≡ true = ap (λ (p : Pid). pid_eq p manager) e in let z : true ≡ false = sym k ∙ f in cc)

pub note_further : (s t : OneKernel) (k j : Sides) (p : Pid) (n : MoveNote) → Further s k t j → NoteKeeps s k p n → NoteKeeps t j p n
note_further s t k j p n f h =
    let same : side_of j n.id ≡ side_of k n.id = side_same k j n.id (λ e. f.told n.id.n h.3) (λ e. from_manager n.id h.2 e) in
    (subst (λ i. IsOn t j i p) (sym same) (on_further s t k j (side_of k n.id) p f h.0), h.1, h.2, f.sent n.id.n h.3)

-- a process holds links and an area
pub record Holds (s : OneKernel) (k : Sides) (i : ℕ) (x : PlainProcess) : Type 0 where
  pub links : Each (MaybeKeeping s k i) x.links
  pub area : AreaKeeps s k i x.status

pub holds_further : (s t : OneKernel) (k j : Sides) (i : ℕ) (x : PlainProcess) → Further s k t j → Holds s k i x → Holds t j i x
holds_further s t k j i x f h = record { links = slots_further s t k j i x.links f h.links; area = area_further s t k j i x.status f h.area }

-- what is there, or comes
pub record Comes (s : OneKernel) (k : Sides) (t : OneKernel) (j : Sides) : Type 0 where
  pub further : Further s k t j
  pub sides : (id : MsgId) (m : PlainMessage) → s.bag id ≡ Some m → side_of j m.id ≡ side_of k m.id
  pub process : (p : Pid) (x : PlainProcess) → t.processes p ≡ Some (Alive x) → (s.processes p ≡ Some (Alive x)) ⊎ Holds t j (j.of p) x
  pub message : (id : MsgId) (m : PlainMessage) → t.bag id ≡ Some m → (s.bag id ≡ Some m) ⊎ MessageKeeps t j (side_of j m.id) m m.what
  pub names : Each (NameKeeps t j) t.switchboard.names
  pub requests : Each (RequestKeeps t j) t.manager.pending
  pub notes : (p : Pid) (n : MoveNote) → t.notes p ≡ Some n → (s.notes p ≡ Some n) ⊎ NoteKeeps t j p n

pub holds_of : (s : OneKernel) (k : Sides) (p : Pid) (x : PlainProcess) → s.processes p ≡ Some (Alive x) → Keeps s k → Holds s k (k.of p) x
holds_of s k p x is h = record { links = h.links p x is; area = h.areas p x is }

holds_on : (s t : OneKernel) (k j : Sides) (p : Pid) (x : PlainProcess) → Further s k t j → Keeps s k → (s.processes p ≡ Some (Alive x)) ⊎ Holds t j (j.of p) x → Holds t j (j.of p) x
holds_on s t k j p x f h (inl was) = subst (λ i. Holds t j i x) (sym (f.of p (alive_there s p (Alive x) was))) (holds_further s t k j (k.of p) x f (holds_of s k p x was h))
holds_on s t k j p x f h (inr new) = new

message_on : (s t : OneKernel) (k j : Sides) (id : MsgId) (m : PlainMessage) → Comes s k t j → Keeps s k → (s.bag id ≡ Some m) ⊎ MessageKeeps t j (side_of j m.id) m m.what → MessageKeeps t j (side_of j m.id) m m.what
message_on s t k j id m c h (inl was) = subst (λ i. MessageKeeps t j i m m.what) (sym (c.sides id m was)) (message_further s t k j (side_of k m.id) m m.what c.further (h.messages id m was))
message_on s t k j id m c h (inr new) = new

note_on : (s t : OneKernel) (k j : Sides) (p : Pid) (n : MoveNote) → Further s k t j → Keeps s k → (s.notes p ≡ Some n) ⊎ NoteKeeps t j p n → NoteKeeps t j p n
note_on s t k j p n f h (inl was) = note_further s t k j p n f (h.notes p n was)
note_on s t k j p n f h (inr new) = new

pub comes_keeps : (s t : OneKernel) (k j : Sides) → Comes s k t j → Keeps s k → Keeps t j
comes_keeps s t k j c h = record {
  links = λ p x is. (holds_on s t k j p x c.further h (c.process p x is)).links;
  areas = λ p x is. (holds_on s t k j p x c.further h (c.process p x is)).area;
  messages = λ id m is. message_on s t k j id m c h (c.message id m is);
  names = c.names;
  requests = c.requests;
  notes = λ p n is. note_on s t k j p n c.further h (c.notes p n is);
}

pub names_on : (s t : OneKernel) (k j : Sides) (ns : List NamedLink) → Further s k t j → Each (NameKeeps s k) ns → Each (NameKeeps t j) ns
names_on s t k j ns f h = Each-on (NameKeeps s k) (NameKeeps t j) (λ e g. name_further s t k j e f g) ns h

pub requests_on : (s t : OneKernel) (k j : Sides) (rs : List Pending) → Further s k t j → Each (RequestKeeps s k) rs → Each (RequestKeeps t j) rs
requests_on s t k j rs f h = Each-on (RequestKeeps s k) (RequestKeeps t j) (λ r g. request_further s t k j r f g) rs h
