-- Two kernels that differ in one process and in one message of that process's alone.
use Rattle.dm_law_one.proofs.Names.{◌≡◌, ℕ, ◌+◌, Bool, true, false, refl, ap, ◌∙◌, sym, inl, inr, arith, nat_tests, if◌then◌else◌, Option, None, Some, fun_ext, cases_Bool, Pid, pid_eq, MsgId, id_eq, PlainMessage}
use Rattle.dm_law_one.proofs.Names.{Life, MoveNote, OneKernel, Manager, Switchboard, with_process, with_sent, with_note, without_note, without_message}
use Rattle.dm_law_one.proofs.Equal.{id_eq-is, pid_eq-is}

-- the bag with a message, if there is one
abbrev pub with_bag : Option PlainMessage → (MsgId → Option PlainMessage) → MsgId → Option PlainMessage
with_bag None bag i = bag i
with_bag (Some m) bag i = if id_eq m.id i then Some m else bag i

-- the message isn't this one
abbrev pub IsApart : Option PlainMessage → MsgId → Type 0
IsApart o i = (m : PlainMessage) → o ≡ Some m → id_eq m.id i ≡ false

-- t is s, but for the life of p and a message
pub record Beside (p : Pid) (life : Life) (o : Option PlainMessage) (s t : OneKernel) : Type 0 where
  pub format : t.format ≡ s.format
  pub machines : t.machines ≡ s.machines
  pub images : t.images ≡ s.images
  pub made : (home : ℕ) → t.made home ≡ s.made home
  pub there : t.processes p ≡ Some life
  pub others : (q : Pid) → pid_eq p q ≡ false → t.processes q ≡ s.processes q
  pub bag : (i : MsgId) → t.bag i ≡ with_bag o s.bag i
  pub notes : (q : Pid) → t.notes q ≡ s.notes q
  pub noted : (i : MsgId) → t.noted i ≡ s.noted i
  pub switchboard : t.switchboard ≡ s.switchboard
  pub manager : t.manager ≡ s.manager

set_if : {A : Type 0} (b : Bool) (x y z : Option A) → (b ≡ true → z ≡ x) → (b ≡ false → z ≡ y) → z ≡ (if b then x else y)
set_if true x y z h k = h refl
set_if false x y z h k = k refl

-- the kernel with a life and a message is beside it
pub beside_set : (s : OneKernel) (p : Pid) (life : Life) (o : Option PlainMessage) → Beside p life o s (with_sent (with_process s p life) o)
beside_set s p life None = record {
  format = refl;
  machines = refl;
  images = refl;
  made = λ m. refl;
  there = ap (λ (b : Bool). if b then Some life else s.processes p) (let e : pid_eq p p ≡ true = grind (arith, nat_tests) in e);
  others = λ q apart. ap (λ (b : Bool). if b then Some life else s.processes q) apart;
  bag = λ i. refl;
  notes = λ q. refl;
  noted = λ i. refl;
  switchboard = refl;
  manager = refl;
}
beside_set s p life (Some m) = record {
  format = refl;
  machines = refl;
  images = refl;
  made = λ m. refl;
  there = ap (λ (b : Bool). if b then Some life else s.processes p) (let e : pid_eq p p ≡ true = grind (arith, nat_tests) in e);
  others = λ q apart. ap (λ (b : Bool). if b then Some life else s.processes q) apart;
  bag = λ i. refl;
  notes = λ q. refl;
  noted = λ i. refl;
  switchboard = refl;
  manager = refl;
}

processes_are : (p : Pid) (life : Life) (o : Option PlainMessage) (s t : OneKernel) → Beside p life o s t → t.processes ≡ (with_process s p life).processes
processes_are p life o s t h = fun_ext (λ q. set_if (pid_eq p q) (Some life) (s.processes q) (t.processes q) (λ same. ap t.processes (sym (pid_eq-is p q same)) ∙ h.there) (h.others q))

-- and nothing else is
pub beside_is : (p : Pid) (life : Life) (o : Option PlainMessage) (s t : OneKernel) → Beside p life o s t → t ≡ with_sent (with_process s p life) o
beside_is p life None s t h = λ i. record {
  format = h.format i;
  machines = h.machines i;
  images = h.images i;
  processes = processes_are p life None s t h i;
  made = fun_ext h.made i;
  bag = fun_ext h.bag i;
  notes = fun_ext h.notes i;
  noted = fun_ext h.noted i;
  switchboard = h.switchboard i;
  manager = h.manager i;
}
beside_is p life (Some m) s t h = λ i. record {
  format = h.format i;
  machines = h.machines i;
  images = h.images i;
  processes = processes_are p life (Some m) s t h i;
  made = fun_ext h.made i;
  bag = fun_ext h.bag i;
  notes = fun_ext h.notes i;
  noted = fun_ext h.noted i;
  switchboard = h.switchboard i;
  manager = h.manager i;
}

same_if : {A : Type 0} (b : Bool) (x y z : A) → y ≡ z → (if b then x else y) ≡ (if b then x else z)
same_if true x y z e = refl
same_if false x y z e = e

-- another process is set in both
pub beside_other : (p : Pid) (life : Life) (o : Option PlainMessage) (s t : OneKernel) (q : Pid) (a : Life) → pid_eq q p ≡ false → Beside p life o s t → Beside p life o (with_process s q a) (with_process t q a)
beside_other p life o s t q a apart h = record {
  format = h.format;
  machines = h.machines;
  images = h.images;
  made = h.made;
  there = ap (λ (b : Bool). if b then Some a else t.processes p) apart ∙ h.there;
  others = λ z e. same_if (pid_eq q z) (Some a) (t.processes z) (s.processes z) (h.others z e);
  bag = h.bag;
  notes = h.notes;
  noted = h.noted;
  switchboard = h.switchboard;
  manager = h.manager;
}

out_beside : (o : Option PlainMessage) (bag : MsgId → Option PlainMessage) (id i : MsgId) (x : Option PlainMessage) → IsApart o id → x ≡ with_bag o bag i → (if id_eq id i then None else x) ≡ with_bag o (λ j. if id_eq id j then None else bag j) i
out_beside None bag id i x apart e = same_if (id_eq id i) None x (bag i) e
out_beside (Some m) bag id i x apart e = elim (cases_Bool (id_eq id i)) [
  | inl same ↦
      let off : id_eq m.id i ≡ false = sym (ap (λ v. id_eq m.id v) (id_eq-is id i same)) ∙ apart m refl in
      ap (λ (b : Bool). if b then None else x) same ∙ sym (ap (λ (b : Bool). if b then Some m else (if id_eq id i then None else bag i)) off ∙ ap (λ (b : Bool). if b then None else bag i) same)
  | inr off ↦
      ap (λ (b : Bool). if b then None else x) off ∙ e ∙ same_if (id_eq m.id i) (Some m) (bag i) (if id_eq id i then None else bag i) (sym (ap (λ (b : Bool). if b then None else bag i) off))
]

-- another message goes from both
pub beside_out : (p : Pid) (life : Life) (o : Option PlainMessage) (s t : OneKernel) (id : MsgId) → IsApart o id → Beside p life o s t → Beside p life o (without_message s id) (without_message t id)
beside_out p life o s t id apart h = record {
  format = h.format;
  machines = h.machines;
  images = h.images;
  made = h.made;
  there = h.there;
  others = h.others;
  bag = λ i. out_beside o s.bag id i (t.bag i) apart (h.bag i);
  notes = h.notes;
  noted = h.noted;
  switchboard = h.switchboard;
  manager = h.manager;
}

put_beside : (o : Option PlainMessage) (bag : MsgId → Option PlainMessage) (m : PlainMessage) (i : MsgId) (x : Option PlainMessage) → IsApart o m.id → x ≡ with_bag o bag i → (if id_eq m.id i then Some m else x) ≡ with_bag o (λ j. if id_eq m.id j then Some m else bag j) i
put_beside None bag m i x apart e = same_if (id_eq m.id i) (Some m) x (bag i) e
put_beside (Some n) bag m i x apart e = elim (cases_Bool (id_eq m.id i)) [
  | inl same ↦
      let off : id_eq n.id i ≡ false = sym (ap (λ v. id_eq n.id v) (id_eq-is m.id i same)) ∙ apart n refl in
      ap (λ (b : Bool). if b then Some m else x) same ∙ sym (ap (λ (b : Bool). if b then Some n else (if id_eq m.id i then Some m else bag i)) off ∙ ap (λ (b : Bool). if b then Some m else bag i) same)
  | inr off ↦
      ap (λ (b : Bool). if b then Some m else x) off ∙ e ∙ same_if (id_eq n.id i) (Some n) (bag i) (if id_eq m.id i then Some m else bag i) (sym (ap (λ (b : Bool). if b then Some m else bag i) off))
]

-- and comes into both
pub beside_put : (p : Pid) (life : Life) (o : Option PlainMessage) (s t : OneKernel) (m : PlainMessage) → IsApart o m.id → Beside p life o s t → Beside p life o (with_sent s (Some m)) (with_sent t (Some m))
beside_put p life o s t m apart h = record {
  format = h.format;
  machines = h.machines;
  images = h.images;
  made = h.made;
  there = h.there;
  others = h.others;
  bag = λ i. put_beside o s.bag m i (t.bag i) apart (h.bag i);
  notes = h.notes;
  noted = h.noted;
  switchboard = h.switchboard;
  manager = h.manager;
}

pub beside_note : (p : Pid) (life : Life) (o : Option PlainMessage) (s t : OneKernel) (q : Pid) (n : MoveNote) → Beside p life o s t → Beside p life o (with_note s q n) (with_note t q n)
beside_note p life o s t q n h = record {
  format = h.format;
  machines = h.machines;
  images = h.images;
  made = h.made;
  there = h.there;
  others = h.others;
  bag = h.bag;
  notes = λ z. same_if (pid_eq q z) (Some n) (t.notes z) (s.notes z) (h.notes z);
  noted = λ i. same_if (id_eq n.id i) (Some q) (t.noted i) (s.noted i) (h.noted i);
  switchboard = h.switchboard;
  manager = h.manager;
}

pub beside_unnote : (p : Pid) (life : Life) (o : Option PlainMessage) (s t : OneKernel) (q : Pid) (id : MsgId) → Beside p life o s t → Beside p life o (without_note s q id) (without_note t q id)
beside_unnote p life o s t q id h = record {
  format = h.format;
  machines = h.machines;
  images = h.images;
  made = h.made;
  there = h.there;
  others = h.others;
  bag = h.bag;
  notes = λ z. same_if (pid_eq q z) None (t.notes z) (s.notes z) (h.notes z);
  noted = λ i. same_if (id_eq id i) None (t.noted i) (s.noted i) (h.noted i);
  switchboard = h.switchboard;
  manager = h.manager;
}

pub beside_board : (p : Pid) (life : Life) (o : Option PlainMessage) (s t : OneKernel) (b : Switchboard) → Beside p life o s t → Beside p life o (record s { switchboard = b }) (record t { switchboard = b })
beside_board p life o s t b h = record {
  format = h.format;
  machines = h.machines;
  images = h.images;
  made = h.made;
  there = h.there;
  others = h.others;
  bag = h.bag;
  notes = h.notes;
  noted = h.noted;
  switchboard = refl;
  manager = h.manager;
}

pub beside_manager : (p : Pid) (life : Life) (o : Option PlainMessage) (s t : OneKernel) (g : Manager) → Beside p life o s t → Beside p life o (record s { manager = g }) (record t { manager = g })
beside_manager p life o s t g h = record {
  format = h.format;
  machines = h.machines;
  images = h.images;
  made = h.made;
  there = h.there;
  others = h.others;
  bag = h.bag;
  notes = h.notes;
  noted = h.noted;
  switchboard = h.switchboard;
  manager = refl;
}

pub beside_made : (p : Pid) (life : Life) (o : Option PlainMessage) (s t : OneKernel) (more : ℕ → ℕ) → Beside p life o s t → Beside p life o (record s { made = λ m. s.made m + more m }) (record t { made = λ m. t.made m + more m })
beside_made p life o s t more h = record {
  format = h.format;
  machines = h.machines;
  images = h.images;
  made = λ m. ap (λ v. v + more m) (h.made m);
  there = h.there;
  others = h.others;
  bag = h.bag;
  notes = h.notes;
  noted = h.noted;
  switchboard = h.switchboard;
  manager = h.manager;
}
