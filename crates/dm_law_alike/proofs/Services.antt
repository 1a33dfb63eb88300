-- Services of twins, and of kernels behind what a process does by itself.
use Rattle.dm_law_one.proofs.Names.{◌≡◌, ℕ, ◌+◌, ◌==◌, ◌&&◌, Bool, true, false, refl, ap, ◌∙◌, sym, subst, arith, nat_tests, if◌then◌else◌, List, [], ◌∷◌, Option, None, Some, Pid, id_eq, Label, Reply, Why, option_map_or, bind, when, replay, instruction, Row}
use Rattle.dm_law_one.proofs.Names.{Called, Replies, Sends, Waits, Outputs, Ends, PlainProcess, PlainStatus, Ready, Waiting, Moving, Alive, Ended, OneKernel, with_process, with_sent}
use Rattle.std.specs.Prelude.{zero, suc}
use Rattle.dm_law_one.proofs.Facts.{none_some}
use Rattle.dm_law_one.proofs.Equal.{id_eq-same}
use Rattle.dm_law_one.proofs.Steps.{bind-is, at_hand-is}
use Rattle.dm_law_one.proofs.Sound.{process_at}
use Rattle.dm_onekernel.specs.Codes.{reply_eq, why_eq, reply_code, why_code}
use Rattle.dm_onekernel.specs.Calls as calls
use Rattle.dm_onekernel.specs.Step as kernel
use Rattle.dm_law_rule.specs.Rule as rule
use Rattle.dm_law_alike.specs.Alike.{Renaming, Says, SayAll, TwinProcess}
use Rattle.dm_law_alike.specs.Services.{called_labels, trap_labels, executing, execute_labels, is_act}
use Rattle.dm_law_alike.proofs.Numbers.{some_same, stands_one}
use Rattle.dm_law_alike.proofs.Calling.{TwinCalled, TwinTrap, twin_next}

eq_self : (n : ℕ) → (n == n) ≡ true
eq_self n = grind (arith, nat_tests)

-- a label's twin is one
pub says_one : (r : Renaming) (l a b : Label) → Says r l a → Says r l b → a ≡ b
says_one r (Label.Ran p k) (Label.Ran q m) (Label.Ran z n) f g = λ i. Label.Ran ((f.0 ∙ sym g.0) i) ((f.1 ∙ sym g.1) i)
says_one r (Label.Call p n c) (Label.Call q m d) (Label.Call z k e) f g = λ i. Label.Call ((f.0 ∙ sym g.0) i) ((f.1 ∙ sym g.1) i) ((f.2 ∙ sym g.2) i)
says_one r (Label.Send p x) (Label.Send q y) (Label.Send z w) f g = λ i. Label.Send ((f.0 ∙ sym g.0) i) (stands_one r x y w f.1 g.1 i)
says_one r (Label.Wait p) (Label.Wait q) (Label.Wait z) f g = ap Label.Wait (f ∙ sym g)
says_one r (Label.Out p w) (Label.Out q v) (Label.Out z u) f g = λ i. Label.Out ((f.0 ∙ sym g.0) i) ((f.1 ∙ sym g.1) i)
says_one r (Label.End p w) (Label.End q v) (Label.End z u) f g = λ i. Label.End ((f.0 ∙ sym g.0) i) ((f.1 ∙ sym g.1) i)
says_one r (Label.Receive p x) (Label.Receive q y) (Label.Receive z w) f g = λ i. Label.Receive ((f.0 ∙ sym g.0) i) (stands_one r x y w f.1 g.1 i)
says_one r (Label.Refuse p x c) (Label.Refuse q y d) (Label.Refuse z w e) f g = λ i. Label.Refuse ((f.0 ∙ sym g.0) i) (stands_one r x y w f.1 g.1 i) ((f.2 ∙ sym g.2) i)
says_one r (Label.Dropped x) (Label.Dropped y) (Label.Dropped w) f g = ap Label.Dropped (stands_one r x y w f g)
says_one r (Label.Served x) (Label.Served y) (Label.Served w) f g = ap Label.Served (stands_one r x y w f g)
says_one r (Label.Gone x) (Label.Gone y) (Label.Gone w) f g = ap Label.Gone (stands_one r x y w f g)
says_one r (Label.Took x) (Label.Took y) (Label.Took w) f g = ap Label.Took (stands_one r x y w f g)
says_one r (Label.Created x p) (Label.Created y q) (Label.Created w z) f g = λ i. Label.Created (stands_one r x y w f.0 g.0 i) ((f.1 ∙ sym g.1) i)
says_one r (Label.NoSpace x a b) (Label.NoSpace y c d) (Label.NoSpace w e k) f g = λ i. Label.NoSpace (stands_one r x y w f.0 g.0 i) ((f.1 ∙ sym g.1) i) ((f.2 ∙ sym g.2) i)
says_one r (Label.Asked x) (Label.Asked y) (Label.Asked w) f g = ap Label.Asked (stands_one r x y w f g)
says_one r (Label.Answered x o) (Label.Answered y u) (Label.Answered w v) f g = λ i. Label.Answered (stands_one r x y w f.0 g.0 i) ((f.1 ∙ sym g.1) i)
says_one r l a b f g = search (arith)

-- whether a label is an act
pub says_act : (r : Renaming) (l a : Label) → Says r l a → is_act a ≡ is_act l
says_act r l a h = search (arith)

pub all_one : (r : Renaming) (ls as_ bs : List Label) → SayAll r ls as_ → SayAll r ls bs → as_ ≡ bs
all_one r [] [] [] f g = refl
all_one r (l ∷ ls) (a ∷ as_) (b ∷ bs) f g = λ i. says_one r l a b f.0 g.0 i ∷ all_one r ls as_ bs f.1 g.1 i
all_one r [] [] (b ∷ bs) f g = absurd g
all_one r [] (a ∷ as_) bs f g = absurd f
all_one r (l ∷ ls) [] bs f g = absurd f
all_one r (l ∷ ls) (a ∷ as_) [] f g = absurd g

-- twin processes execute alike
called_say : (r : Renaming) (p : Pid) (n : ℕ) (a b : Called) → TwinCalled r p a b → SayAll r (called_labels p n a) (called_labels p n b)
called_say r p n (Replies c x) (Replies d y) h = ((refl, refl, h.0), tt)
called_say r p n (Sends m x) (Sends k y) h = ((refl, h.0), tt)
called_say r p n (Waits x) (Waits y) h = (refl, tt)
called_say r p n (Outputs w x) (Outputs v y) h = ((refl, h.0), tt)
called_say r p n (Ends y) (Ends z) h = ((refl, h), tt)
called_say r p n a b h = search arith

trap_say : (r : Renaming) (p : Pid) (a b : kernel.Trap) → TwinTrap r p a b → SayAll r (trap_labels p (Some a)) (trap_labels p (Some b))
trap_say r p (kernel.Calls n a) (kernel.Calls o b) h = subst (λ k. SayAll r (called_labels p n a) (called_labels p k b)) (sym h.0) (called_say r p n a b h.1)
trap_say r p (kernel.Faults a) (kernel.Faults b) h = ((refl, ap Why.Fault h), tt)
trap_say r p (kernel.Calls n a) (kernel.Faults b) h = absurd h
trap_say r p (kernel.Faults a) (kernel.Calls n b) h = absurd h

row_say : (r : Renaming) (p : Pid) (x y : PlainProcess) (o : Option kernel.Trap) → TwinProcess (r p) x y → kernel.next_row p x (instruction x.regs x.memory) ≡ o → SayAll r (trap_labels p o) (trap_labels p (kernel.next_row p y (instruction y.regs y.memory)))
row_say r p x y (Some a) twin e =
    let n = twin_next r p x y a twin e in
    subst (λ v. SayAll r (trap_labels p (Some a)) (trap_labels p v)) (sym n.is) (trap_say r p a n.trap n.twin)
row_say r p x y None twin e =
    subst (λ v. SayAll r [] (trap_labels p v)) (sym (plain_too (instruction x.regs x.memory) e)) tt
  where
    plain_row : (row : Row) → kernel.next_row p x row ≡ None → kernel.next_row p y row ≡ None
    plain_row (Row.Plain regs bytes) f = refl
    plain_row (Row.Calls number regs) f = absurd (let g : Some (kernel.Calls number (calls.call p (record x { regs = regs }) number)) ≡ None = f in cc)
    plain_row (Row.Faults fault) f = absurd (let g : Some (kernel.Faults fault) ≡ None = f in cc)

    plain_too : (row : Row) → kernel.next_row p x row ≡ None → kernel.next_row p y (instruction y.regs y.memory) ≡ None
    plain_too row f = (λ i. kernel.next_row p y (instruction (twin.regs i) (twin.memory i))) ∙ plain_row (instruction x.regs x.memory) e

say_if : (r : Renaming) (b : Bool) (xs ys : List Label) → SayAll r xs ys → SayAll r (if b then [] else xs) (if b then [] else ys)
say_if r true xs ys h = tt
say_if r false xs ys h = h

executing_say : (r : Renaming) (quantum : ℕ) (p : Pid) (x y : PlainProcess) (n : rule.Ran) → TwinProcess (r p) x y → SayAll r (executing quantum p x n) (executing quantum p y n)
executing_say r quantum p x y n h =
    let z : PlainProcess = kernel.with_machine x n.machine in
    let w : PlainProcess = kernel.with_machine y n.machine in
    let twin : TwinProcess (r p) z w = record { regs = refl; memory = refl; links = h.links; status = h.status; stopped = h.stopped; sent = h.sent } in (
      (refl, refl),
      say_if r (n.count == quantum) (trap_labels p (kernel.next_row p z (instruction n.machine.regs n.machine.bytes))) (trap_labels p (kernel.next_row p w (instruction n.machine.regs n.machine.bytes)))
          (row_say r p z w (kernel.next_row p z (instruction n.machine.regs n.machine.bytes)) twin refl),
    )

pub execute_say : (r : Renaming) (quantum : ℕ) (p : Pid) (x y : PlainProcess) → TwinProcess (r p) x y → SayAll r (execute_labels quantum p x) (execute_labels quantum p y)
execute_say r quantum p x y h =
    let machine : kernel.machine_of y ≡ kernel.machine_of x = λ i. record { regs = h.regs i; bytes = h.memory i } in
    subst (λ v. SayAll r (execute_labels quantum p x) (executing quantum p y (rule.ran quantum v))) (sym machine) (executing_say r quantum p x y (rule.ran quantum (kernel.machine_of x)) h)

-- a process that is ready can execute
first_steps : (n : ℕ) (a b : kernel.Machine) → kernel.plain_row (instruction a.regs a.bytes) ≡ Some b → kernel.plain_steps (suc n) a ≡ kernel.plain_steps n b
first_steps zero a b e = e
first_steps (suc n) a b e = ap (λ o. bind o (λ (v : kernel.Machine). kernel.plain_row (instruction v.regs v.bytes))) (first_steps n a b e)

ran_by : (k : ℕ) (m : kernel.Machine) (o : Option kernel.Machine) → kernel.plain_row (instruction m.regs m.bytes) ≡ o → ((n : kernel.Machine) → kernel.plain_steps (rule.ran k n).count n ≡ Some (rule.ran k n).machine)
    → kernel.plain_steps (option_map_or (λ n. rule.ran_one_more (rule.ran k n)) o (record { count = 0; machine = m })).count m ≡ Some (option_map_or (λ n. rule.ran_one_more (rule.ran k n)) o (record { count = 0; machine = m })).machine
ran_by k m None e h = refl
ran_by k m (Some n) e h =
    let c = (rule.ran k n).count in
    let one : c + 1 ≡ suc c = omega arith in
    ap (λ v. kernel.plain_steps v m) one ∙ first_steps c m n e ∙ h n

ran_plain : (k : ℕ) (m : kernel.Machine) → kernel.plain_steps (rule.ran k m).count m ≡ Some (rule.ran k m).machine
ran_plain zero m = refl
ran_plain (suc k) m = ran_by k m (kernel.plain_row (instruction m.regs m.bytes)) refl (ran_plain k)

reply_same : (c : Reply) → reply_eq c c ≡ true
reply_same c = eq_self (reply_code c)

why_same : (y : Why) → why_eq y y ≡ true
why_same y = eq_self (why_code y)

-- where the labels lead
pub record LeadsOn (s : OneKernel) (ls : List Label) : Type 0 where
  pub end : OneKernel
  pub is : replay s ls ≡ Some end

when_leads : (s t : OneKernel) (b : Bool) (l : Label) → b ≡ true → kernel.step s l ≡ when b t → LeadsOn s (l ∷ [])
when_leads s t b l e f = record { end = t; is = ap (λ o. bind o (λ (v : OneKernel). Some v)) (f ∙ ap (λ c. when c t) e) }

trap_leads : (s : OneKernel) (p : Pid) (a : kernel.Trap) → kernel.next_trap s p ≡ Some a → LeadsOn s (trap_labels p (Some a))
trap_leads s p (kernel.Calls n (Replies c x)) e =
    when_leads s (kernel.goes_on s p x) ((n == n) && reply_eq c c) (Label.Call p n c) (let f = eq_self n in let g = reply_same c in grind (arith, nat_tests)) (ap (λ o. bind o (kernel.replies s p n c)) e)
trap_leads s p (kernel.Calls n (Sends m x)) e = when_leads s (with_sent (kernel.goes_on s p x) (Some m)) (id_eq m.id m.id) (Label.Send p m.id) (id_eq-same m.id) (ap (λ o. bind o (kernel.sends s p m.id)) e)
trap_leads s p (kernel.Calls n (Waits x)) e = when_leads s (kernel.goes_on s p x) true (Label.Wait p) refl (ap (λ o. bind o (kernel.waits s p)) e)
trap_leads s p (kernel.Calls n (Outputs w x)) e = when_leads s (kernel.goes_on s p x) (w == w) (Label.Out p w) (eq_self w) (ap (λ o. bind o (kernel.outputs s p w)) e)
trap_leads s p (kernel.Calls n (Ends y)) e = when_leads s (with_process s p (Ended y)) (why_eq y y) (Label.End p y) (why_same y) (ap (λ o. bind o (kernel.ends s p y)) e)
trap_leads s p (kernel.Faults f) e = when_leads s (with_process s p (Ended (Why.Fault f))) (why_eq (Why.Fault f) (Why.Fault f)) (Label.End p (Why.Fault f)) (why_same (Why.Fault f)) (ap (λ o. bind o (kernel.ends s p (Why.Fault f))) e)

maybe_leads : (s : OneKernel) (p : Pid) (b : Bool) (o : Option kernel.Trap) → ((a : kernel.Trap) → o ≡ Some a → kernel.next_trap s p ≡ Some a) → LeadsOn s (if b then [] else trap_labels p o)
maybe_leads s p true o h = record { end = s; is = refl }
maybe_leads s p false None h = record { end = s; is = refl }
maybe_leads s p false (Some a) h = trap_leads s p a (h a refl)

pub ready_is : (x z : PlainProcess) (st : PlainStatus) → kernel.if_ready x st ≡ Some z → (st ≡ Ready) × (x.stopped ≡ false) × (x ≡ z)
ready_is x z Ready e = if_not x.stopped e
  where
    if_not : (b : Bool) → (if b then None else Some x) ≡ Some z → (Ready ≡ Ready) × (b ≡ false) × (x ≡ z)
    if_not true f = none_some z f
    if_not false f = (refl, refl, some_same x z f)
ready_is x z (Waiting mask base cap) e = none_some z e
ready_is x z (Moving dir owner base own left pending) e = none_some z e

-- where a process runs, so it does with another machine
running_on : (s : OneKernel) (p : Pid) (x : PlainProcess) (m : kernel.Machine) → kernel.running s p ≡ Some x → kernel.running (kernel.goes_on s p (kernel.with_machine x m)) p ≡ Some (kernel.with_machine x m)
running_on s p x m e =
    let (z, hand, ready) = bind-is (kernel.at_hand s p) (λ (v : PlainProcess). kernel.if_ready v v.status) x e in
    let (status, stopped, same) = ready_is z x z.status ready in
    let t = kernel.goes_on s p (kernel.with_machine x m) in
    let free : s.notes p ≡ None = (at_hand-is s p z hand).0 in
    let life : t.processes p ≡ Some (Alive (kernel.with_machine x m)) = process_at s p (Alive (kernel.with_machine x m)) in
    let st : x.status ≡ Ready = ap (λ (v : PlainProcess). v.status) (sym same) ∙ status in
    let still : x.stopped ≡ false = ap (λ (v : PlainProcess). v.stopped) (sym same) ∙ stopped in
    (λ i. bind (option_map_or (λ note. None) (free i) (kernel.alive (life i))) (λ (v : PlainProcess). kernel.if_ready v v.status))
    ∙ ap (kernel.if_ready (kernel.with_machine x m)) st ∙ ap (λ (b : Bool). if b then None else Some (kernel.with_machine x m)) still

pub can_execute : (quantum : ℕ) (s : OneKernel) (p : Pid) (x : PlainProcess) → kernel.running s p ≡ Some x → LeadsOn s (execute_labels quantum p x)
can_execute quantum s p x e =
    let r = rule.ran quantum (kernel.machine_of x) in
    let z = kernel.with_machine x r.machine in
    let t = kernel.goes_on s p z in
    let first : kernel.step s (Label.Ran p r.count) ≡ Some t =
    ap (λ o. bind o (λ (v : PlainProcess). bind (kernel.plain_steps r.count (kernel.machine_of v)) (λ (m : kernel.Machine). Some (kernel.goes_on s p (kernel.with_machine v m))))) e
    ∙ ap (λ o. bind o (λ (m : kernel.Machine). Some (kernel.goes_on s p (kernel.with_machine x m)))) (ran_plain quantum (kernel.machine_of x)) in
    let next : kernel.next_trap t p ≡ kernel.next_row p z (instruction r.machine.regs r.machine.bytes) = ap (λ o. bind o (λ (v : PlainProcess). kernel.next_row p v (instruction v.regs v.memory))) (running_on s p x r.machine e) in
    let more = maybe_leads t p (r.count == quantum) (kernel.next_row p z (instruction r.machine.regs r.machine.bytes)) (λ a f. next ∙ f) in
    record { end = more.end; is = ap (λ o. bind o (λ (v : OneKernel). replay v (if r.count == quantum then [] else trap_labels p (kernel.next_row p z (instruction r.machine.regs r.machine.bytes))))) first ∙ more.is }
