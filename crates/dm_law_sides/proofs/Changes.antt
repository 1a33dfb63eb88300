-- What each way of changing the kernel without machines keeps of sides.
use Rattle.dm_law_always.proofs.Names.{◌≡◌, ℕ, ◌==◌, ◌||◌, Bool, true, false, refl, ap, ◌∙◌, sym, subst, is_some, inl, inr, arith, nat_tests, nat_lt, if◌then◌else◌, Option, None, Some, cases_Bool, Pid, pid_eq, MsgId, PlainMessage, PlainProcess, Why}
use Rattle.dm_law_always.proofs.Names.{Life, Alive, Ended, MoveNote, OneKernel, with_process, with_sent, with_note, without_note, without_message, switchboard, manager, pid_eq-is, pid_eq-same, stayed, came, Label, Sound, counts, is_counted, in_bag}
use Rattle.dm_law_sides.specs.Sides.{Sides, side_of, next_sides, is_there, MessageKeeps, NoteKeeps, Keeps}
use Rattle.dm_law_sides.proofs.Further.{Further, Holds, Comes, comes_keeps, holds_further, names_on, requests_on, side_same}

-- a message goes
pub out_keeps : (s : OneKernel) (id : MsgId) (k : Sides) → Keeps s k → Keeps (without_message s id) k
out_keeps s id k h = record {
  links = h.links;
  areas = h.areas;
  messages = λ i m is. h.messages i m (stayed s id i m is);
  names = h.names;
  requests = h.requests;
  notes = h.notes;
}

-- a message comes
pub put_keeps : (s : OneKernel) (k : Sides) (m : PlainMessage) → MessageKeeps s k (side_of k m.id) m m.what → Keeps s k → Keeps (with_sent s (Some m)) k
put_keeps s k m new h = record {
  links = h.links;
  areas = h.areas;
  messages = λ i x is. elim (came s m x i is) [
    | inl e ↦ subst (λ (v : PlainMessage). MessageKeeps s k (side_of k v.id) v v.what) e.0 new
    | inr was ↦ h.messages i x was
  ];
  names = h.names;
  requests = h.requests;
  notes = h.notes;
}

there_by : (b c : Bool) (o : Option Life) (life : Life) → (b || is_some o) ≡ true → (b || is_some (if c then Some life else o)) ≡ true
there_by true c o life h = refl
there_by false true o life h = refl
there_by false false o life h = h

pub set_further : (s : OneKernel) (k : Sides) (p : Pid) (life : Life) → Further s k (with_process s p life) k
set_further s k p life = record {
  there = λ q e. there_by (pid_eq q switchboard) (pid_eq p q) (s.processes q) life e;
  of = λ q e. refl;
  children = λ n q e. e;
  told = λ n e. refl;
  sent = λ n e. e;
}

set_comes : (s : OneKernel) (k : Sides) (p : Pid) (life : Life) → ((y : PlainProcess) → life ≡ Alive y → Holds s k (k.of p) y) → Keeps s k → Comes s k (with_process s p life) k
set_comes s k p life new h =
    let t = with_process s p life in
    let f = set_further s k p life in
    record {
      further = f;
      sides = λ id m is. refl;
      process = λ q x is. elim (cases_Bool (pid_eq p q)) [
        | inl same ↦ inr (
            let e : Some life ≡ Some (Alive x) = sym (ap (λ (c : Bool). if c then Some life else s.processes q) same) ∙ is in
            let g : life ≡ Alive x = cc in
            subst (λ (v : Pid). Holds t k (k.of v) x) (pid_eq-is p q same) (holds_further s t k k (k.of p) x f (new x g)))
        | inr apart ↦ inl (sym (ap (λ (c : Bool). if c then Some life else s.processes q) apart) ∙ is)
      ];
      message = λ i m is. inl is;
      names = names_on s t k k s.switchboard.names f h.names;
      requests = requests_on s t k k s.manager.pending f h.requests;
      notes = λ q n is. inl is;
    }

-- a process goes on as another, or is made
pub set_keeps : (s : OneKernel) (k : Sides) (p : Pid) (y : PlainProcess) → Holds s k (k.of p) y → Keeps s k → Keeps (with_process s p (Alive y)) k
set_keeps s k p y new h =
    comes_keeps s (with_process s p (Alive y)) k k
    (set_comes s k p (Alive y) (λ z e. let g : y ≡ z = cc in subst (Holds s k (k.of p)) g new) h) h

-- a process ends
pub end_keeps : (s : OneKernel) (k : Sides) (p : Pid) (y : Why) → Keeps s k → Keeps (with_process s p (Ended y)) k
end_keeps s k p y h =
    comes_keeps s (with_process s p (Ended y)) k k
    (set_comes s k p (Ended y) (λ z e. absurd (let f : Ended y ≡ Alive z = e in cc)) h) h

-- a process begins to follow a request to move, or has followed it
pub noted_keeps : (s : OneKernel) (k : Sides) (p : Pid) (n : MoveNote) → NoteKeeps s k p n → Keeps s k → Keeps (with_note s p n) k
noted_keeps s k p n new h = record {
  links = h.links;
  areas = h.areas;
  messages = h.messages;
  names = h.names;
  requests = h.requests;
  notes = λ q x is. elim (cases_Bool (pid_eq p q)) [
    | inl same ↦
        let e : Some n ≡ Some x = sym (ap (λ (c : Bool). if c then Some n else s.notes q) same) ∙ is in
        let g : n ≡ x = cc in
        subst (NoteKeeps s k q) g (subst (λ (v : Pid). NoteKeeps s k v n) (pid_eq-is p q same) new)
    | inr apart ↦ h.notes q x (sym (ap (λ (c : Bool). if c then Some n else s.notes q) apart) ∙ is)
  ];
}

pub unnoted_keeps : (s : OneKernel) (k : Sides) (p : Pid) (id : MsgId) → Keeps s k → Keeps (without_note s p id) k
unnoted_keeps s k p id h = record {
  links = h.links;
  areas = h.areas;
  messages = h.messages;
  names = h.names;
  requests = h.requests;
  notes = λ q x is. elim (cases_Bool (pid_eq p q)) [
    | inl same ↦ absurd (let e : None ≡ Some x = sym (ap (λ (c : Bool). if c then None else s.notes q) same) ∙ is in cc)
    | inr apart ↦ h.notes q x (sym (ap (λ (c : Bool). if c then None else s.notes q) apart) ∙ is)
  ];
}

-- a name that was given: the manager has sent its message, and another sender is there
pub counted_in : (r e : MsgId → ℕ) (s : OneKernel) (id : MsgId) (m : PlainMessage) → s.bag id ≡ Some m → Sound r e s → counts s m.id ≡ true
counted_in r e s id m there h =
    let few = h.entered.fewer id in
    let one : in_bag (s.bag id) ≡ 1 = ap in_bag there in
    ap (counts s) (h.entered.named id m there) ∙ h.entered.counted id (omega (arith, few, one))

pub told_counted : (s : OneKernel) (id : MsgId) → counts s id ≡ true → pid_eq id.from manager ≡ true → nat_lt id.n s.manager.sent ≡ true
told_counted s id c e = sym (ap (λ (p : Pid). counts s (record { from = p; n = id.n; answer = id.answer })) (pid_eq-is id.from manager e)) ∙ c

of_by : (b c : Bool) (n : ℕ) (x y : Bool) (o : Option Life) → c ≡ false → (if b then x else if c then y else is_counted n o) ≡ true → (b || is_some o) ≡ true
of_by true c n x y o e h = refl
of_by false true n x y o e h = cc
of_by false false n x y (Some life) e h = refl
of_by false false n x y None e h = h

pub of_counted : (s : OneKernel) (id : MsgId) → counts s id ≡ true → pid_eq id.from manager ≡ false → is_there s id.from ≡ true
of_counted s id c e = of_by (pid_eq id.from switchboard) (pid_eq id.from manager) id.n (nat_lt id.n s.switchboard.sent) (nat_lt id.n s.manager.sent) (s.processes id.from) e c

pub counted_side : (s t : OneKernel) (k j : Sides) (id : MsgId) → Further s k t j → counts s id ≡ true → side_of j id ≡ side_of k id
counted_side s t k j id f c = side_same k j id (λ e. f.told id.n (told_counted s id c e)) (λ e. f.of id.from (of_counted s id c e))

-- sides come for what isn't there yet
pub sides_keep : (r e : MsgId → ℕ) (s : OneKernel) (k j : Sides) → Further s k s j → Sound r e s → Keeps s k → Keeps s j
sides_keep r e s k j f sound h = comes_keeps s s k j (record {
  further = f;
  sides = λ id m is. counted_side s s k j m.id f (counted_in r e s id m is sound);
  process = λ p x is. inl is;
  message = λ i m is. inl is;
  names = names_on s s k j s.switchboard.names f h.names;
  requests = requests_on s s k j s.manager.pending f h.requests;
  notes = λ p n is. inl is;
}) h

-- the manager's next message
pub took_further : (s : OneKernel) (k : Sides) (id : MsgId) → Further s k s (next_sides s (Label.Took id) k)
took_further s k id = record {
  there = λ p e. e;
  of = λ p e. refl;
  children = λ n p e. e;
  told = λ n e. let z : (n == s.manager.sent) ≡ false = grind (arith, nat_tests) in ap (λ (c : Bool). if c then side_of k id else k.told n) z;
  sent = λ n e. e;
}

pub took_told : (s : OneKernel) (k : Sides) (id : MsgId) → (next_sides s (Label.Took id) k).told s.manager.sent ≡ side_of k id
took_told s k id = let z : (s.manager.sent == s.manager.sent) ≡ true = grind (arith, nat_tests) in ap (λ (c : Bool). if c then side_of k id else k.told s.manager.sent) z

-- a process that is made
apart_from : (s : OneKernel) (p q : Pid) → is_there s p ≡ false → is_there s q ≡ true → pid_eq p q ≡ false
apart_from s p q e f = elim (cases_Bool (pid_eq p q)) [
  | inl same ↦ absurd (let g : is_there s p ≡ is_there s q = ap (is_there s) (pid_eq-is p q same) in let z : false ≡ true = sym e ∙ g ∙ f in cc)
  | inr apart ↦ apart
]

pub created_further : (s : OneKernel) (k : Sides) (id : MsgId) (child : Pid) → is_there s child ≡ false → Further s k s (next_sides s (Label.Created id child) k)
created_further s k id child none = record {
  there = λ p e. e;
  of = λ p e. ap (λ (c : Bool). if c then side_of k id else k.of p) (apart_from s child p none e);
  children = λ n p e. e;
  told = λ n e. refl;
  sent = λ n e. e;
}

pub created_of : (s : OneKernel) (k : Sides) (id : MsgId) (child : Pid) → (next_sides s (Label.Created id child) k).of child ≡ side_of k id
created_of s k id child = ap (λ (c : Bool). if c then side_of k id else k.of child) (pid_eq-same child)
