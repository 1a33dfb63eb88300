-- What each way of changing two kernels keeps alike.
use Rattle.dm_law_one.proofs.Names.{◌≡◌, ℕ, ◌+◌, Bool, true, false, refl, ap, ◌∙◌, sym, subst, inl, inr, if◌then◌else◌, Option, None, Some, cases_Bool, Pid, pid_eq, MsgId, id_eq, PlainMessage, option_map, switchboard, manager}
use Rattle.dm_law_one.proofs.Names.{Life, MoveNote, OneKernel, Manager, Switchboard, with_process, with_sent, with_note, without_note, without_message}
use Rattle.dm_law_one.proofs.Equal.{id_eq-is, pid_eq-is}
use Rattle.dm_law_alike.specs.Alike.{Renaming, KeepsOrder, GoOn, Stands, under, TwinLife, TwinNote, TwinPending, Twins}
use Rattle.dm_law_alike.proofs.Numbers.{stands_eq}

life_if : (q : Pid) (f : ℕ → Option ℕ) (b : Bool) (x y u v : Option Life) → (b ≡ true → TwinLife q f x y) → TwinLife q f u v → TwinLife q f (if b then x else u) (if b then y else v)
life_if q f true x y u v h k = h refl
life_if q f false x y u v h k = k

-- a process is set
pub twin_set : (r : Renaming) (s t : OneKernel) (p : Pid) (a b : Life) → TwinLife p (r p) (Some a) (Some b) → Twins r s t → Twins r (with_process s p a) (with_process t p b)
twin_set r s t p a b life h = record {
  format = h.format;
  machines = h.machines;
  images = h.images;
  made = h.made;
  processes = λ q. life_if q (r q) (pid_eq p q) (Some a) (Some b) (s.processes q) (t.processes q) (λ same. subst (λ v. TwinLife v (r v) (Some a) (Some b)) (pid_eq-is p q same) life) (h.processes q);
  bag = h.bag;
  known = h.known;
  back = h.back;
  notes = h.notes;
  noted = h.noted;
  names = h.names;
  board = h.board;
  children = h.children;
  pending = h.pending;
  manager = h.manager;
}

out_if : {A B : Type 0} (f : A → B) (b c : Bool) (x : Option B) (y : Option A) → b ≡ c → x ≡ option_map f y → (if b then None else x) ≡ option_map f (if c then None else y)
out_if f true true x y e h = refl
out_if f false false x y e h = h
out_if f true false x y e h = absurd (cc)
out_if f false true x y e h = absurd (cc)

there_before : {A : Type 0} (b : Bool) (o : Option A) (x : A) → (if b then None else o) ≡ Some x → o ≡ Some x
there_before true o x e = absurd (cc)
there_before false o x e = e

-- a message goes
pub twin_out : (r : Renaming) (s t : OneKernel) (i j : MsgId) → KeepsOrder r → Stands r i j → Twins r s t → Twins r (without_message s i) (without_message t j)
twin_out r s t i j keeps st h = record {
  format = h.format;
  machines = h.machines;
  images = h.images;
  made = h.made;
  processes = h.processes;
  bag = λ a b ab. out_if (under b) (id_eq j b) (id_eq i a) (t.bag b) (s.bag a) (stands_eq r i j a b keeps st ab) (h.bag a b ab);
  known = λ a m is. h.known a m (there_before (id_eq i a) (s.bag a) m is);
  back = λ b m is. h.back b m (there_before (id_eq j b) (t.bag b) m is);
  notes = h.notes;
  noted = h.noted;
  names = h.names;
  board = h.board;
  children = h.children;
  pending = h.pending;
  manager = h.manager;
}

put_if : {A B : Type 0} (f : A → B) (b c : Bool) (m : A) (n : B) (x : Option B) (y : Option A) → b ≡ c → (b ≡ true → n ≡ f m) → x ≡ option_map f y → (if b then Some n else x) ≡ option_map f (if c then Some m else y)
put_if f true true m n x y e k h = ap Some (k refl)
put_if f false false m n x y e k h = h
put_if f true false m n x y e k h = absurd (cc)
put_if f false true m n x y e k h = absurd (cc)

-- a message enters
pub twin_put : (r : Renaming) (s t : OneKernel) (m : PlainMessage) (j : MsgId) → KeepsOrder r → Stands r m.id j → Twins r s t → Twins r (with_sent s (Some m)) (with_sent t (Some (under j m)))
twin_put r s t m j keeps st h = record {
  format = h.format;
  machines = h.machines;
  images = h.images;
  made = h.made;
  processes = h.processes;
  bag = λ a b ab. put_if (under b) (id_eq j b) (id_eq m.id a) m (under j m) (t.bag b) (s.bag a) (stands_eq r m.id j a b keeps st ab) (λ same. ap (λ v. under v m) (id_eq-is j b same)) (h.bag a b ab);
  known = λ a x is. elim (cases_Bool (id_eq m.id a)) [
    | inl same ↦ (j, subst (λ v. Stands r v j) (id_eq-is m.id a same) st)
    | inr apart ↦ h.known a x (sym (ap (λ (b : Bool). if b then Some m else s.bag a) apart) ∙ is)
  ];
  back = λ b x is. elim (cases_Bool (id_eq j b)) [
    | inl same ↦ (m.id, subst (λ v. Stands r m.id v) (id_eq-is j b same) st)
    | inr apart ↦ h.back b x (sym (ap (λ (c : Bool). if c then Some (under j m) else t.bag b) apart) ∙ is)
  ];
  notes = h.notes;
  noted = h.noted;
  names = h.names;
  board = h.board;
  children = h.children;
  pending = h.pending;
  manager = h.manager;
}

note_if : (r : Renaming) (b : Bool) (x y u v : Option MoveNote) → TwinNote r x y → TwinNote r u v → TwinNote r (if b then x else u) (if b then y else v)
note_if r true x y u v h k = h
note_if r false x y u v h k = k

noted_if : (b c : Bool) (p x y : Option Pid) → b ≡ c → x ≡ y → (if b then p else x) ≡ (if c then p else y)
noted_if true true p x y e h = refl
noted_if false false p x y e h = h
noted_if true false p x y e h = absurd (cc)
noted_if false true p x y e h = absurd (cc)

-- a process begins to follow a request to move
pub twin_note : (r : Renaming) (s t : OneKernel) (p : Pid) (n o : MoveNote) → KeepsOrder r → Stands r n.id o.id → o.asker ≡ n.asker → Twins r s t → Twins r (with_note s p n) (with_note t p o)
twin_note r s t p n o keeps st asker h = record {
  format = h.format;
  machines = h.machines;
  images = h.images;
  made = h.made;
  processes = h.processes;
  bag = h.bag;
  known = h.known;
  back = h.back;
  notes = λ q. note_if r (pid_eq p q) (Some n) (Some o) (s.notes q) (t.notes q) (st, asker) (h.notes q);
  noted = λ a b ab. noted_if (id_eq o.id b) (id_eq n.id a) (Some p) (t.noted b) (s.noted a) (stands_eq r n.id o.id a b keeps st ab) (h.noted a b ab);
  names = h.names;
  board = h.board;
  children = h.children;
  pending = h.pending;
  manager = h.manager;
}

-- and has followed it
pub twin_unnote : (r : Renaming) (s t : OneKernel) (p : Pid) (i j : MsgId) → KeepsOrder r → Stands r i j → Twins r s t → Twins r (without_note s p i) (without_note t p j)
twin_unnote r s t p i j keeps st h = record {
  format = h.format;
  machines = h.machines;
  images = h.images;
  made = h.made;
  processes = h.processes;
  bag = h.bag;
  known = h.known;
  back = h.back;
  notes = λ q. note_if r (pid_eq p q) None None (s.notes q) (t.notes q) tt (h.notes q);
  noted = λ a b ab. noted_if (id_eq j b) (id_eq i a) None (t.noted b) (s.noted a) (stands_eq r i j a b keeps st ab) (h.noted a b ab);
  names = h.names;
  board = h.board;
  children = h.children;
  pending = h.pending;
  manager = h.manager;
}

-- the switchboard has handled a message
pub twin_board : (r : Renaming) (s t : OneKernel) (b c : Switchboard) → c.names ≡ b.names → GoOn (r switchboard) b.sent c.sent → Twins r s t → Twins r (record s { switchboard = b }) (record t { switchboard = c })
twin_board r s t b c names go h = record {
  format = h.format;
  machines = h.machines;
  images = h.images;
  made = h.made;
  processes = h.processes;
  bag = h.bag;
  known = h.known;
  back = h.back;
  notes = h.notes;
  noted = h.noted;
  names = names;
  board = go;
  children = h.children;
  pending = h.pending;
  manager = h.manager;
}

-- what the manager is there and here
pub record TwinManager (r : Renaming) (g k : Manager) : Type 0 where
  pub children : k.children ≡ g.children
  pub pending : TwinPending (r manager) g.pending k.pending
  pub sent : GoOn (r manager) g.sent k.sent

pub twin_manager : (r : Renaming) (s t : OneKernel) (g k : Manager) → TwinManager r g k → Twins r s t → Twins r (record s { manager = g }) (record t { manager = k })
twin_manager r s t g k m h = record {
  format = h.format;
  machines = h.machines;
  images = h.images;
  made = h.made;
  processes = h.processes;
  bag = h.bag;
  known = h.known;
  back = h.back;
  notes = h.notes;
  noted = h.noted;
  names = h.names;
  board = h.board;
  children = m.children;
  pending = m.pending;
  manager = m.sent;
}

-- a process is made
pub twin_made : (r : Renaming) (s t : OneKernel) (more : ℕ → ℕ) → Twins r s t → Twins r (record s { made = λ m. s.made m + more m }) (record t { made = λ m. t.made m + more m })
twin_made r s t more h = record {
  format = h.format;
  machines = h.machines;
  images = h.images;
  made = λ m. ap (λ v. v + more m) (h.made m);
  processes = h.processes;
  bag = h.bag;
  known = h.known;
  back = h.back;
  notes = h.notes;
  noted = h.noted;
  names = h.names;
  board = h.board;
  children = h.children;
  pending = h.pending;
  manager = h.manager;
}
