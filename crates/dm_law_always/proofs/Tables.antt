-- Each living process has as many link slots as the format gives, and each message of the bag encloses at most four links.
pub mod Always
use Rattle.dm_law_always.proofs.Names.{◌≡◌, ◌≤◌, Bool, length, ap, ◌∙◌, sym, subst, inl, inr, ⊤, if◌then◌else◌, Some, cases_Bool, Pid, pid_eq, MsgId, PlainMessage, PlainWhat, Why, slots_of, PlainProcess, Alive, Ended, OneKernel, with_process}
use Rattle.dm_law_always.proofs.Names.{with_sent, without_message, stayed, came}
use Rattle.dm_onekernel.specs.Service as service

-- a message to a process or a server, and a request to make a process, enclose at most four links
abbrev pub FewLinks : PlainWhat → Type 0
FewLinks (PlainWhat.User code channel body links) = length links ≤ 4
FewLinks (PlainWhat.Create image links) = length links ≤ 4
FewLinks w = ⊤

pub record Tables (s : OneKernel) : Type 0 where
  pub slots : (p : Pid) (x : PlainProcess) → s.processes p ≡ Some (Alive x) → length x.links ≡ slots_of s.format
  pub messages : (i : MsgId) (m : PlainMessage) → s.bag i ≡ Some m → FewLinks m.what

-- a message goes
pub out_tables : (s : OneKernel) (id : MsgId) → Tables s → Tables (without_message s id)
out_tables s id h = record { slots = h.slots; messages = λ i m is. h.messages i m (stayed s id i m is) }

-- a message comes
pub put_tables : (s : OneKernel) (m : PlainMessage) → FewLinks m.what → Tables s → Tables (with_sent s (Some m))
put_tables s m few h = record {
  slots = h.slots;
  messages = λ i x is. elim (came s m x i is) [
    | inl new ↦ subst (λ (v : PlainMessage). FewLinks v.what) new.0 few
    | inr old ↦ h.messages i x old
  ];
}

-- a process goes on as another, or is made
pub set_tables : (s : OneKernel) (p : Pid) (y : PlainProcess) → length y.links ≡ slots_of s.format → Tables s → Tables (with_process s p (Alive y))
set_tables s p y le h = record {
  slots = λ q x is. elim (cases_Bool (pid_eq p q)) [
    | inl same ↦
        let f : Some (Alive y) ≡ Some (Alive x) = sym (ap (λ (c : Bool). if c then Some (Alive y) else s.processes q) same) ∙ is in
        let g : y ≡ x = cc in
        subst (λ (z : PlainProcess). length z.links ≡ slots_of s.format) g le
    | inr apart ↦ h.slots q x (sym (ap (λ (c : Bool). if c then Some (Alive y) else s.processes q) apart) ∙ is)
  ];
  messages = h.messages;
}

-- a process ends
pub end_tables : (s : OneKernel) (p : Pid) (y : Why) → Tables s → Tables (with_process s p (Ended y))
end_tables s p y h = record {
  slots = λ q x is. elim (cases_Bool (pid_eq p q)) [
    | inl same ↦
        let f : Some (Ended y) ≡ Some (Alive x) = sym (ap (λ (c : Bool). if c then Some (Ended y) else s.processes q) same) ∙ is in
        absurd cc
    | inr apart ↦ h.slots q x (sym (ap (λ (c : Bool). if c then Some (Ended y) else s.processes q) apart) ∙ is)
  ];
  messages = h.messages;
}

-- a process goes on with as many slots
abbrev pub SameSlots : PlainProcess → PlainProcess → Type 0
SameSlots x y = length y.links ≡ length x.links

pub goes_tables : (s : OneKernel) (p : Pid) (x y : PlainProcess) → s.processes p ≡ Some (Alive x) → SameSlots x y → Tables s → Tables (with_process s p (Alive y))
goes_tables s p x y is same h = set_tables s p y (same ∙ h.slots p x is) h

-- the receiver of a message goes on
pub changed_tables : (s : OneKernel) (id : MsgId) (m : PlainMessage) (x y : PlainProcess) → s.processes m.to ≡ Some (Alive x) → SameSlots x y → Tables s → Tables (service.changed s id m y)
changed_tables s id m x y is same h = goes_tables (without_message s id) m.to x y is same (out_tables s id h)
