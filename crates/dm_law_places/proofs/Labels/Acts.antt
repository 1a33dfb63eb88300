-- What a process that executes does, with places: plain instructions, calls and faults, a lemma a label.
use Rattle.dm_law_places.proofs.Names.{◌≡◌, ℕ, ◌==◌, ◌&&◌, true, refl, ap, ◌∙◌, sym, subst, arith, Option, None, Some, nat_tests, Pid, MsgId, Message, id_eq, PlainMessage, plain_message, Process, Status, Label, Regs, Row, instruction, past}
use Rattle.dm_law_places.proofs.Names.{Reply, Why, reply_eq, why_eq, bind, Ended, OneKernel, plain_process, plain_status, PlainProcess, Called, calls, plain_called, call_plainly, id_eq-is, bind-is, when-is, View, Addresses, given, gives}
use Rattle.dm_law_places.proofs.Names.{call_gets, sending_gets, past_call, gives_by, made_is, gives_same, only_gives_by, Placed, Mirrors, MirrorsKernel, MirrorsProcess, Acted, acted, acts, after_call, after_done, if_ready, machine_of, ran}
use Rattle.dm_law_places.proofs.Names.{running, with_acted, with_machine, with_process, with_sent, at_hand-is, none_some}
use Rattle.dm_law_places.proofs.Keeps.{alive_of, goes_mirrors, ends_mirrors, kernel_process, kernel_sent, places_process, places_sends, this_process}
use Rattle.dm_law_places.proofs.Labels.Calls.{MirrorsCalled, MirrorsSent, behind, does_call_kept}
use Rattle.dm_onekernel.specs.Kernel as kernels
use Rattle.dm_onekernel.specs.Calls as one
use Rattle.dm_onekernel.specs.Step as kernel
use Rattle.dm_law_rule.specs.Addresses as addresses

-- a step with places that leads to what mirrors a kernel
abbrev pub Follows : OneKernel → View → Addresses → Option Placed → Type 0
Follows t v b o = (l : Placed) × (o ≡ Some l) × Mirrors t v b l

pub mirrors_as : (s t : OneKernel) (v : View) (a b : Addresses) (l m : Placed) → s ≡ t → a ≡ b → l ≡ m → Mirrors s v a l → Mirrors t v b m
mirrors_as s t v a b l m e f g h = subst (λ (u : OneKernel). Mirrors u v b m) e (subst (λ (c : Addresses). Mirrors s v c m) f (subst (Mirrors s v a) g h))

ready_of : (y : Process) (st : Status) (x : PlainProcess) → kernel.if_ready (plain_process y) (plain_status st) ≡ Some x → (if_ready y st ≡ Some y) × (plain_process y ≡ x)
ready_of y st x h1 = search arith

record Runs (l : Placed) (p : Pid) (x : PlainProcess) : Type 0 where
  y : Process
  there : l.processes p ≡ Some y
  is : plain_process y ≡ x
  runs : running l p ≡ Some y

runs_of : (s : OneKernel) (l : Placed) (p : Pid) (x : PlainProcess) → MirrorsKernel s l → kernel.running s p ≡ Some x → Runs l p x
runs_of s l p x h e = search (arith, bind-is, alive_of, at_hand-is, ready_of)

-- ran
pub ran_follows : (s t : OneKernel) (v : View) (a : Addresses) (l : Placed) (p : Pid) (k : ℕ) → kernel.step s (Label.Ran p k) ≡ Some t → Mirrors s v a l → Follows t v a (ran l p k)
ran_follows s t v a l p k is h =
    let (x, runs, rest) = bind-is (kernel.running s p) (λ (w : PlainProcess). bind (kernel.plain_steps k (kernel.machine_of w)) (λ (m : kernel.Machine). Some (kernel.goes_on s p (kernel.with_machine w m)))) t is in
    let (m, plain, last) = bind-is (kernel.plain_steps k (kernel.machine_of x)) (λ (m : kernel.Machine). Some (kernel.goes_on s p (kernel.with_machine x m))) t rest in
    let f : kernel.goes_on s p (kernel.with_machine x m) ≡ t = cc in
    let r = runs_of s l p x h.plain runs in
    let y = r.y in
    let w = h.places.process p y r.there in
    let steps : kernel.plain_steps k (machine_of y) ≡ Some m = ap (λ (z : PlainProcess). kernel.plain_steps k (kernel.machine_of z)) r.is ∙ plain in
    let on = with_process l p (Some (with_machine y m)) in (
      on,
      ap (λ (o : Option Process). bind o (λ (z : Process). bind (kernel.plain_steps k (machine_of z)) (λ (n : kernel.Machine). Some (with_process l p (Some (with_machine z n)))))) r.runs
          ∙ ap (λ (o : Option kernel.Machine). bind o (λ (n : kernel.Machine). Some (with_process l p (Some (with_machine y n))))) steps,
      subst (λ (u : OneKernel). Mirrors u v a on) (ap (λ (z : PlainProcess). kernel.goes_on s p (kernel.with_machine z m)) r.is ∙ f)
          (goes_mirrors s v a l p (with_machine y m) h (record { pid = w.pid; moves = w.moves; slots = w.slots; owner = w.owner })),
    )

-- what a call comes to
record Goes (v : View) (b : Addresses) (p : Pid) (w : Acted) (z : PlainProcess) : Type 0 where
  y : Process
  acted : w ≡ record { process = Some y; message = None }
  is : plain_process y ≡ z
  kept : MirrorsProcess v b p y

record Sends (v : View) (a b : Addresses) (p : Pid) (w : Acted) (k : PlainMessage) (z : PlainProcess) : Type 0 where
  y : Process
  m : Message
  acted : w ≡ record { process = Some y; message = Some m }
  says : plain_message m ≡ Some k
  is : plain_process y ≡ z
  kept : MirrorsSent v a b p m y

abbrev ended : Acted
ended = record { process = None; message = None }

abbrev CalledAs : View → Addresses → Pid → Process → one.CallNumber → Acted → one.Called → Type 0
CalledAs v a p x n w (one.Replies c z) = Goes v (given a (gives_by v a p (plain_process x) n c)) p w z
CalledAs v a p x n w (one.Sends k z) = Sends v a (given a (sending_gets v a p (plain_process x) k.id k.what)) p w k z
CalledAs v a p x n w (one.Waits z) = Goes v a p w z
CalledAs v a p x n w (one.Outputs u z) = Goes v a p w z
CalledAs v a p x n w (one.Ends y) = w ≡ ended

sent_as : (v : View) (a : Addresses) (p : Pid) (x : Process) (n : one.CallNumber) (m : Message) (y : Process) (k : one.Called) → bind (plain_message m) (λ (u : PlainMessage). Some (one.Sends u (plain_process y))) ≡ Some k
    → MirrorsCalled v a p x n (Called.Sent m) y → CalledAs v a p x n (record { process = Some y; message = Some m }) k
sent_as v a p x n m y k e h = search (arith, bind-is)

called_as : (v : View) (a : Addresses) (p : Pid) (x : Process) (n : one.CallNumber) (c : Called) (y : Process) (k : one.Called) → plain_called c y ≡ Some k → MirrorsCalled v a p x n c y → CalledAs v a p x n (after_call c y) k
called_as v a p x n c y k h1 h2 = search (arith, sent_as)

abbrev ActsNext : View → Addresses → Pid → Process → Acted → kernel.Trap → Type 0
ActsNext v a p x w (kernel.Calls number k) = CalledAs v a p x (one.call_number number) w k
ActsNext v a p x w (kernel.Faults fault) = w ≡ ended

acts_row : (v : View) (a : Addresses) (p : Pid) (x : Process) (w : Row) (n : kernel.Trap) → instruction x.regs x.memory ≡ w → kernel.next_row p (plain_process x) w ≡ Some n → MirrorsProcess v a p x
    → (d : Acted) × (acted v.acting x w ≡ Some d) × ActsNext v a p x d n
acts_row v a p x (Row.Plain regs bytes) n w e h = none_some n e
acts_row v a p x (Row.Calls number regs) n w e h =
    let f : regs ≡ past x.regs = past_call x.regs x.memory number regs w in
    let g : kernel.Calls number (one.call p (record (plain_process x) { regs = regs }) number) ≡ n = cc in
    let d = calls v.acting (behind x) number in
    let plain : plain_called d.called d.process ≡ Some (one.call p (plain_process (behind x)) number) =
    call_plainly v.acting (behind x) d.process number d.called refl refl ∙ ap (λ (q : Pid). Some (one.call q (plain_process (behind x)) number)) h.pid
    in
    let base = called_as v a p x (one.call_number number) d.called d.process (one.call p (plain_process (behind x)) number) plain (does_call_kept v a p x (one.call_number number) h) in (
      after_done (calls v.acting (record x { regs = regs }) number),
      refl,
      subst (ActsNext v a p x (after_done (calls v.acting (record x { regs = regs }) number))) g
          (subst (λ (r : Regs). ActsNext v a p x (after_done (calls v.acting (record x { regs = r }) number)) (kernel.Calls number (one.call p (record (plain_process x) { regs = r }) number))) (sym f) base),
    )
acts_row v a p x (Row.Faults fault) n w e h = let g : kernel.Faults fault ≡ n = cc in (ended, refl, subst (ActsNext v a p x ended) g refl)

record ActsOf (s : OneKernel) (v : View) (a : Addresses) (l : Placed) (p : Pid) (n : kernel.Trap) : Type 0 where
  x : Process
  w : Acted
  acts : acts v.acting l p ≡ Some (with_acted l p w)
  runs : kernel.running s p ≡ Some (plain_process x)
  next : ActsNext v a p x w n

acts_of : (s : OneKernel) (v : View) (a : Addresses) (l : Placed) (p : Pid) (n : kernel.Trap) → Mirrors s v a l → kernel.next_trap s p ≡ Some n → ActsOf s v a l p n
acts_of s v a l p n h e =
    let (z, runs, row_is) = bind-is (kernel.running s p) (λ (w : PlainProcess). kernel.next_row p w (instruction w.regs w.memory)) n e in
    let r = runs_of s l p z h.plain runs in
    let x = r.y in
    let (w, acted_is, next) = acts_row v a p x (instruction x.regs x.memory) n refl (ap (λ (u : PlainProcess). kernel.next_row p u (instruction u.regs u.memory)) r.is ∙ row_is) (h.places.process p x r.there) in
    search arith

-- call
reply_row : (s t : OneKernel) (v : View) (a : Addresses) (l : Placed) (p : Pid) (n : ℕ) (c : Reply) (next : kernel.Trap) → ActsOf s v a l p next → kernel.replies s p n c next ≡ Some t → Mirrors s v a l
    → Follows t v (given a (call_gets v a p n c (kernel.running s p))) (acts v.acting l p)
reply_row s t v a l p n c (kernel.Calls number (one.Replies d z)) q is h =
    let k = when-is ((n == number) && reply_eq c d) (kernel.goes_on s p z) t is in
    let both = k.0 in
    let number_is : number ≡ n = grind (arith, nat_tests) in
    let same : reply_eq c d ≡ true = grind (arith, nat_tests) in
    let x = plain_process q.x in
    let g = q.next in
    let gs = gives_by v a p x (one.call_number number) d in
    let gs_is : gs ≡ call_gets v a p n c (kernel.running s p) =
    sym (gives_same v a p x (one.call_number number) c d same) ∙ ap (λ (i : ℕ). gives_by v a p x (one.call_number i) c) number_is ∙ sym (made_is v a p n c x) ∙ ap (call_gets v a p n c) (sym q.runs) in
    let o = only_gives_by v a p x (one.call_number number) d in (
      with_acted l p q.w,
      q.acts,
      mirrors_as (kernel.goes_on s p (plain_process g.y)) t v (given a gs) (given a (call_gets v a p n c (kernel.running s p))) (with_process l p (Some g.y)) (with_acted l p q.w)
          (ap (kernel.goes_on s p) g.is ∙ k.1) (ap (given a) gs_is) (ap (with_acted l p) (sym g.acted))
          ((search (arith, kernel_process, places_process, this_process))),
    )
reply_row s t v a l p n c _ q is h = none_some t is

pub call_follows : (s t : OneKernel) (v : View) (a : Addresses) (l : Placed) (p : Pid) (n : ℕ) (c : Reply) → kernel.step s (Label.Call p n c) ≡ Some t → Mirrors s v a l → Follows t v (given a (gives s v a (Label.Call p n c))) (acts v.acting l p)
call_follows s t v a l p n c is h =
    let (x, next, rest) = bind-is (kernel.next_trap s p) (kernel.replies s p n c) t is in
    reply_row s t v a l p n c x (acts_of s v a l p x h next) rest h

-- send
send_row : (s t : OneKernel) (v : View) (a : Addresses) (l : Placed) (p : Pid) (id : MsgId) (next : kernel.Trap) → kernel.next_trap s p ≡ Some next → ActsOf s v a l p next → kernel.sends s p id next ≡ Some t → Mirrors s v a l
    → Follows t v (given a (gives s v a (Label.Send p id))) (acts v.acting l p)
send_row s t v a l p id (kernel.Calls number (one.Sends m z)) nx q is h =
    let k = when-is (id_eq id m.id) (kernels.with_sent (kernel.goes_on s p z) (Some m)) t is in
    let name : m.id ≡ id = sym (id_eq-is id m.id k.0) in
    let x = plain_process q.x in
    let g = q.next in
    let gs = sending_gets v a p x m.id m.what in
    let gs_is : gs ≡ gives s v a (Label.Send p id) =
    ap (λ (i : MsgId). sending_gets v a p x i m.what) name ∙ ap (addresses.sends_next v a p x id) (sym nx) ∙ ap (addresses.send_gets s v a p id) (sym q.runs) in
    let o = g.kept in (
      with_acted l p q.w,
      q.acts,
      mirrors_as (kernels.with_sent (kernel.goes_on s p (plain_process g.y)) (Some m)) t v (given a gs) (given a (gives s v a (Label.Send p id))) (with_sent (with_process l p (Some g.y)) (Some g.m)) (with_acted l p q.w)
          (ap (λ (u : PlainProcess). kernels.with_sent (kernel.goes_on s p u) (Some m)) g.is ∙ k.1) (ap (given a) gs_is) (ap (with_acted l p) (sym g.acted))
          ((search (arith, kernel_sent, kernel_process, places_sends, this_process))),
    )
send_row s t v a l p id _ nx q is h = none_some t is

pub send_follows : (s t : OneKernel) (v : View) (a : Addresses) (l : Placed) (p : Pid) (id : MsgId) → kernel.step s (Label.Send p id) ≡ Some t → Mirrors s v a l → Follows t v (given a (gives s v a (Label.Send p id))) (acts v.acting l p)
send_follows s t v a l p id is h =
    let (x, next, rest) = bind-is (kernel.next_trap s p) (kernel.sends s p id) t is in
    send_row s t v a l p id x next (acts_of s v a l p x h next) rest h

-- a process goes on, and nothing is sent or given
goes_follows : (s t : OneKernel) (v : View) (a : Addresses) (l : Placed) (p : Pid) (w : Acted) (z : PlainProcess) → acts v.acting l p ≡ Some (with_acted l p w) → Goes v a p w z → kernel.goes_on s p z ≡ t → Mirrors s v a l → Follows t v a (acts v.acting l p)
goes_follows s t v a l p w z is g f h = (
  with_acted l p w,
  is,
  mirrors_as (kernel.goes_on s p (plain_process g.y)) t v a a (with_process l p (Some g.y)) (with_acted l p w) (ap (kernel.goes_on s p) g.is ∙ f) refl (ap (with_acted l p) (sym g.acted)) (goes_mirrors s v a l p g.y h g.kept),
)

-- wait
wait_row : (s t : OneKernel) (v : View) (a : Addresses) (l : Placed) (p : Pid) (next : kernel.Trap) → ActsOf s v a l p next → kernel.waits s p next ≡ Some t → Mirrors s v a l → Follows t v a (acts v.acting l p)
wait_row s t v a l p (kernel.Calls number (one.Waits z)) q is h = goes_follows s t v a l p q.w z q.acts q.next (let f : kernel.goes_on s p z ≡ t = cc in f) h
wait_row s t v a l p _ q is h = none_some t is

pub wait_follows : (s t : OneKernel) (v : View) (a : Addresses) (l : Placed) (p : Pid) → kernel.step s (Label.Wait p) ≡ Some t → Mirrors s v a l → Follows t v a (acts v.acting l p)
wait_follows s t v a l p is h =
    let (x, next, rest) = bind-is (kernel.next_trap s p) (kernel.waits s p) t is in
    wait_row s t v a l p x (acts_of s v a l p x h next) rest h

-- out
out_row : (s t : OneKernel) (v : View) (a : Addresses) (l : Placed) (p : Pid) (word : ℕ) (next : kernel.Trap) → ActsOf s v a l p next → kernel.outputs s p word next ≡ Some t → Mirrors s v a l → Follows t v a (acts v.acting l p)
out_row s t v a l p word (kernel.Calls number (one.Outputs other z)) q is h =
    let k = when-is (word == other) (kernel.goes_on s p z) t is in goes_follows s t v a l p q.w z q.acts q.next k.1 h
out_row s t v a l p word _ q is h = none_some t is

pub out_follows : (s t : OneKernel) (v : View) (a : Addresses) (l : Placed) (p : Pid) (word : ℕ) → kernel.step s (Label.Out p word) ≡ Some t → Mirrors s v a l → Follows t v a (acts v.acting l p)
out_follows s t v a l p word is h =
    let (x, next, rest) = bind-is (kernel.next_trap s p) (kernel.outputs s p word) t is in
    out_row s t v a l p word x (acts_of s v a l p x h next) rest h

-- end
ends_follows : (s t : OneKernel) (v : View) (a : Addresses) (l : Placed) (p : Pid) (y : Why) (w : Acted) → acts v.acting l p ≡ Some (with_acted l p w) → w ≡ ended → kernels.with_process s p (Ended y) ≡ t → Mirrors s v a l → Follows t v a (acts v.acting l p)
ends_follows s t v a l p y w is e f h = (
  with_acted l p w,
  is,
  mirrors_as (kernels.with_process s p (Ended y)) t v a a (with_process l p None) (with_acted l p w) f refl (ap (with_acted l p) (sym e)) (ends_mirrors s v a l p y h),
)

end_row : (s t : OneKernel) (v : View) (a : Addresses) (l : Placed) (p : Pid) (y : Why) (next : kernel.Trap) → ActsOf s v a l p next → kernel.ends s p y next ≡ Some t → Mirrors s v a l → Follows t v a (acts v.acting l p)
end_row s t v a l p y (kernel.Calls number (one.Ends because)) q is h =
    let k = when-is (why_eq y because) (kernels.with_process s p (Ended y)) t is in ends_follows s t v a l p y q.w q.acts q.next k.1 h
end_row s t v a l p y (kernel.Faults fault) q is h =
    let k = when-is (why_eq y (Why.Fault fault)) (kernels.with_process s p (Ended y)) t is in ends_follows s t v a l p y q.w q.acts q.next k.1 h
end_row s t v a l p y _ q is h = none_some t is

pub end_follows : (s t : OneKernel) (v : View) (a : Addresses) (l : Placed) (p : Pid) (y : Why) → kernel.step s (Label.End p y) ≡ Some t → Mirrors s v a l → Follows t v a (acts v.acting l p)
end_follows s t v a l p y is h =
    let (x, next, rest) = bind-is (kernel.next_trap s p) (kernel.ends s p y) t is in
    end_row s t v a l p y x (acts_of s v a l p x h next) rest h
