-- A ready process is served: all that it can come to.
use Rattle.dm_law_mirror.proofs.Names.{◌≡◌, ℕ, ◌<◌, ◌==◌, Bool, true, false, List, [], ◌∷◌, length, refl, ap, ◌∙◌, sym, arith, if◌then◌else◌, Option, Some, nat_tests, Pid, Message, PlainMessage, plain_message, Regs, Fault, Row, instruction}
use Rattle.dm_law_mirror.proofs.Names.{Status, Label, Why, Process, Boot, why_code, bind, when, with_process, plain_process, Machine, plain_called, plain_sent, call_plainly, bind-is, Point, Placed, acted_with, call_matches, fault_matches}
use Rattle.dm_law_mirror.proofs.Names.{with_queue, calls_with, KernelState, turned, with_here, call_keeps, ran_keeps, reply_same, Part, subst, Ended}
use Rattle.dm_syscall.specs.declared.Called.{Called}
use Rattle.dm_onekernel.specs.Calls as calls
use Rattle.dm_onekernel.specs.Step as kernel
use Rattle.dm_syscall.specs.Calls as syscall
use Rattle.dm_law_rule.specs.Parts as rule_part
use Rattle.dm_law_rule.specs.Rule as rule
use Rattle.dm_law_rule.specs.Burying as burying
use Rattle.dm_law_places.specs.PlacedStep as placed
use Rattle.dm_kernel.specs.State as machine
use Rattle.dm_kernel.specs.Serve as serve
use Rattle.dm_law_mirror.proofs.Kernel.Sets.{eq_self}
use Rattle.dm_law_mirror.proofs.Serve.Runs.{Comes, Whole, Faulted, comes}
use Rattle.dm_law_mirror.proofs.Serving.{Served, Acts, acts_as, moved_round}
use Rattle.dm_law_mirror.proofs.Serve.Stops.{sends_acts, ends_acts, Ran, ran_kernel, ran_placed, ran_steps, ran_of, whole_acts, goes_acts}

-- a call by the process y, as it is behind its plain instructions, that came to w and left z
abbrev ActsCalled : (b : Boot) (m : ℕ) (pt : Point) (l : Placed) (k : KernelState) (p : Pid) (z : Process) (c n : ℕ) → Called → calls.Called → Type 0
ActsCalled b m pt l k p z c n w cl = Acts b m pt l k p (serve.called_with (with_here (moved_round k p) p z) p c n z w) (Some (rule.says (Label.Ran p c) ∷ rule.called p n (burying.ends_with pt m p) cl))

message_acts : (b : Boot) (m : ℕ) (pt : Point) (l : Placed) (k : KernelState) (p : Pid) (x y z : Process) (c n : ℕ) (w : Message) (cl : calls.Called) (s : Served b m pt l k p x) → Ran m pt l p x s.at.queue c y → plain_sent (plain_message w) z ≡ Some cl
    → kernel.next_trap (ran_kernel pt p y) p ≡ Some (kernel.Calls n cl) → placed.acts m (ran_placed l p y s.at.queue) p ≡ Some (placed.with_sent (placed.with_process (ran_placed l p y s.at.queue) p (Some (with_queue z s.at.queue))) (Some w))
    → z.queue ≡ x.queue → length z.memory ≡ length x.memory
    → Acts b m pt l k p (turned (with_here (moved_round k p) p z) (machine.says (Label.Ran p c) ∷ machine.says (Label.Send p w.id) ∷ Part.Routes w ∷ [])) (Some (rule.says (Label.Ran p c) ∷ rule.called p n (burying.ends_with pt m p) cl))
message_acts b m pt l k p x y z c n w cl s r plain next with_ queue memory =
    let (u, says, last) = bind-is (plain_message w) (λ (v : PlainMessage). Some (calls.Sends v (plain_process z))) cl plain in
    let f : cl ≡ calls.Sends u (plain_process z) = cc in
    let sent = turned (with_here (moved_round k p) p z) (machine.says (Label.Ran p c) ∷ machine.says (Label.Send p w.id) ∷ Part.Routes w ∷ []) in
    subst (λ (v : calls.Called). Acts b m pt l k p sent (Some (rule.says (Label.Ran p c) ∷ rule.called p n (burying.ends_with pt m p) v))) (sym f)
    (sends_acts b m pt l k p x y z c n w u s r says (next ∙ ap (λ (v : calls.Called). Some (kernel.Calls n v)) f) with_ queue memory)

called_acts : (b : Boot) (m : ℕ) (pt : Point) (l : Placed) (k : KernelState) (p : Pid) (x y z : Process) (c n : ℕ) (w : Called) (cl : calls.Called) (s : Served b m pt l k p x) → Ran m pt l p x s.at.queue c y → plain_called w z ≡ Some cl
    → kernel.next_trap (ran_kernel pt p y) p ≡ Some (kernel.Calls n cl) → placed.acts m (ran_placed l p y s.at.queue) p ≡ Some (placed.with_acted (ran_placed l p y s.at.queue) p (acted_with s.at.queue (placed.after_call w z)))
    → z.queue ≡ x.queue → length z.memory ≡ length x.memory → ActsCalled b m pt l k p z c n w cl
called_acts b m pt l k p x y z c n (Called.Replied reply) cl s r plain next with_ queue memory =
    let f : cl ≡ calls.Replies reply (plain_process z) = cc in
    let u = ran_kernel pt p y in
    let goes = kernel.goes_on u p (plain_process z) in
    subst (ActsCalled b m pt l k p z c n (Called.Replied reply)) (sym f)
    (goes_acts b m pt l k p x y z c (Label.Call p n reply) s r (λ u v. refl) tt
    (ap (λ (o : Option kernel.Trap). bind o (kernel.replies u p n reply)) (next ∙ ap (λ (v : calls.Called). Some (kernel.Calls n v)) f) ∙ ap (λ (d : Bool). when d goes) (reply_same n reply)) with_ queue memory)
called_acts b m pt l k p x y z c n (Called.Sent w) cl s r plain next with_ queue memory = message_acts b m pt l k p x y z c n w cl s r plain next with_ queue memory
called_acts b m pt l k p x y z c n (Called.Moving w) cl s r plain next with_ queue memory = message_acts b m pt l k p x y z c n w cl s r plain next with_ queue memory
called_acts b m pt l k p x y z c n Called.Waits cl s r plain next with_ queue memory =
    let f : cl ≡ calls.Waits (plain_process z) = cc in
    let u = ran_kernel pt p y in
    subst (ActsCalled b m pt l k p z c n Called.Waits) (sym f)
    (goes_acts b m pt l k p x y z c (Label.Wait p) s r (λ u v. refl) tt (ap (λ (o : Option kernel.Trap). bind o (kernel.waits u p)) (next ∙ ap (λ (v : calls.Called). Some (kernel.Calls n v)) f)) with_ queue memory)
called_acts b m pt l k p x y z c n (Called.Out word) cl s r plain next with_ queue memory =
    let f : cl ≡ calls.Outputs word (plain_process z) = cc in
    let u = ran_kernel pt p y in
    let goes = kernel.goes_on u p (plain_process z) in
    subst (ActsCalled b m pt l k p z c n (Called.Out word)) (sym f)
    (goes_acts b m pt l k p x y z c (Label.Out p word) s r (λ u v. refl) tt
    (ap (λ (o : Option kernel.Trap). bind o (kernel.outputs u p word)) (next ∙ ap (λ (v : calls.Called). Some (kernel.Calls n v)) f) ∙ ap (λ (d : Bool). when d goes) (eq_self word)) with_ queue memory)
called_acts b m pt l k p x y z c n (Called.Ended because) cl s r plain next with_ queue memory =
    let f : cl ≡ calls.Ends because = cc in
    let u = ran_kernel pt p y in
    let gone = with_process u p (Ended because) in
    subst (ActsCalled b m pt l k p z c n (Called.Ended because)) (sym f)
    (ends_acts b m pt l k p x y z c because s r
    (ap (λ (o : Option kernel.Trap). bind o (kernel.ends u p because)) (next ∙ ap (λ (v : calls.Called). Some (kernel.Calls n v)) f) ∙ ap (λ (d : Bool). when d gone) (eq_self (why_code because))) with_ queue memory)

-- the next instruction, if it isn't plain
next_of : (m : ℕ) (pt : Point) (l : Placed) (p : Pid) (x y : Process) (queue : List Message) (c : ℕ) (w : Row) → Ran m pt l p x queue c y → instruction y.regs y.memory ≡ w → kernel.next_trap (ran_kernel pt p y) p ≡ kernel.next_row p (plain_process y) w
next_of m pt l p x y queue c w r is = grind (arith, nat_tests)

rest_less : (c q : ℕ) (ps : List rule_part.Part) (e : rule_part.Part) → c < q → Some (e ∷ (if c == q then [] else ps)) ≡ Some (e ∷ ps)
rest_less c q ps e less = ap (λ (d : Bool). Some (e ∷ (if d then [] else ps))) (let off : (c == q) ≡ false = grind (arith, nat_tests) in off)

-- a call
call_acts : (b : Boot) (m : ℕ) (pt : Point) (l : Placed) (k : KernelState) (p : Pid) (x y : Process) (c n : ℕ) (regs : Regs) (s : Served b m pt l k p x) → Ran m pt l p x s.at.queue c y → instruction y.regs y.memory ≡ Row.Calls n regs
    → ActsCalled b m pt l k p (syscall.calls m (record y { regs = regs }) n).process c n (syscall.calls m (record y { regs = regs }) n).called (calls.call p (plain_process (record y { regs = regs })) n)
call_acts b m pt l k p x y c n regs s r is =
    let y2 = record y { regs = regs } in
    let d = syscall.calls m y2 n in
    let lm = ran_placed l p y s.at.queue in
    let pid : y.pid ≡ p = (r.mirrors.places.process p (with_queue y s.at.queue) r.there).pid in
    let plain : plain_called d.called d.process ≡ Some (calls.call p (plain_process y2) n) = call_plainly m y2 d.process n d.called refl refl ∙ ap (λ (q : Pid). Some (calls.call q (plain_process y2) n)) pid in
    called_acts b m pt l k p x y d.process c n d.called (calls.call p (plain_process y2) n) s r plain (next_of m pt l p x y s.at.queue c (Row.Calls n regs) r is) (call_matches m lm p y s.at.queue n regs r.there r.ready is)
    ((ap (λ (v : syscall.Done). v.process.queue) (calls_with m y2 n y.queue)) ∙ r.same_queue) (ap (λ (v : List ℕ). length v) (call_keeps m y2 n) ∙ r.memory)

-- a fault
fault_acts : (b : Boot) (m : ℕ) (pt : Point) (l : Placed) (k : KernelState) (p : Pid) (x y : Process) (c : ℕ) (f : Fault) (s : Served b m pt l k p x) → Ran m pt l p x s.at.queue c y → instruction y.regs y.memory ≡ Row.Faults f
    → Acts b m pt l k p (serve.ends (with_here (moved_round k p) p y) p c y (Why.Fault f)) (Some (rule.says (Label.Ran p c) ∷ rule.says (Label.End p (Why.Fault f)) ∷ burying.ends_with pt m p))
fault_acts b m pt l k p x y c f s r is =
    let u = ran_kernel pt p y in
    let gone = with_process u p (Ended (Why.Fault f)) in
    ends_acts b m pt l k p x y y c (Why.Fault f) s r
    (ap (λ (o : Option kernel.Trap). bind o (kernel.ends u p (Why.Fault f))) (next_of m pt l p x y s.at.queue c (Row.Faults f) r is) ∙ ap (λ (d : Bool). when d gone) (eq_self (why_code (Why.Fault f))))
    (fault_matches m (ran_placed l p y s.at.queue) p y s.at.queue f r.there r.ready is) r.same_queue r.memory

-- as far as the quantum allows
executes_by : (b : Boot) (m : ℕ) (pt : Point) (l : Placed) (k : KernelState) (p : Pid) (x : Process) (q : ℕ) (u : rule.Ran) (v : serve.Ran) (s : Served b m pt l k p x) → x.status ≡ Status.Ready → Comes q u v → kernel.plain_steps u.count (kernel.machine_of (plain_process x)) ≡ Some u.machine
    → length v.machine.bytes ≡ length x.memory → Acts b m pt l k p (serve.executes (moved_round k p) p x v) (Some (rule.executes q p (burying.ends_with pt m p) (plain_process x) u))
executes_by b m pt l k p x q u v s ready (Whole all is) steps memory =
    let y = serve.with_machine x u.machine in
    let size : length u.machine.bytes ≡ length x.memory = ap (λ (w : serve.Ran). length w.machine.bytes) (sym is) ∙ memory in
    acts_as b m pt l k p (serve.executes (moved_round k p) p x v) (turned (with_here (moved_round k p) p y) (machine.says (Label.Ran p u.count) ∷ [])) (Some (rule.executes q p (burying.ends_with pt m p) (plain_process x) u)) (Some (rule.says (Label.Ran p u.count) ∷ [])) (ap (serve.executes (moved_round k p) p x) is)
    (ap (λ (d : Bool). Some (rule.says (Label.Ran p u.count) ∷ (if d then [] else rule.stops p (burying.ends_with pt m p) (kernel.next_row p (kernel.with_machine (plain_process x) u.machine) (instruction u.machine.regs u.machine.bytes)))))
    (let on : (u.count == q) ≡ true = grind (arith, nat_tests) in on)) (whole_acts b m pt l k p x y u.count s (ran_of b m pt l k p x u.count u.machine s ready steps size))
executes_by b m pt l k p x q u v s ready (Comes.Called n regs less stops is) steps memory =
    let y = serve.with_machine x u.machine in
    let y2 = record y { regs = regs } in
    let d = syscall.calls m y2 n in
    let size : length u.machine.bytes ≡ length x.memory = ap (λ (w : serve.Ran). length w.machine.bytes) (sym is) ∙ memory in
    let over = burying.ends_with pt m p in
    acts_as b m pt l k p (serve.executes (moved_round k p) p x v) (serve.called_with (with_here (moved_round k p) p d.process) p u.count n d.process d.called) (Some (rule.executes q p over (plain_process x) u))
    (Some (rule.says (Label.Ran p u.count) ∷ rule.called p n over (calls.call p (plain_process y2) n))) (ap (serve.executes (moved_round k p) p x) is ∙ ap (λ (h : ℕ). serve.does (moved_round k p) p u.count n (syscall.calls h y2 n)) s.stands.here)
    (rest_less u.count q (rule.stops p over (kernel.next_row p (plain_process y) (instruction u.machine.regs u.machine.bytes))) (rule.says (Label.Ran p u.count)) less
    ∙ ap (λ (w : Row). Some (rule.says (Label.Ran p u.count) ∷ rule.stops p over (kernel.next_row p (plain_process y) w))) stops)
    (call_acts b m pt l k p x y u.count n regs s (ran_of b m pt l k p x u.count u.machine s ready steps size) stops)
executes_by b m pt l k p x q u v s ready (Faulted f less stops is) steps memory =
    let y = serve.with_machine x u.machine in
    let size : length u.machine.bytes ≡ length x.memory = ap (λ (w : serve.Ran). length w.machine.bytes) (sym is) ∙ memory in
    let over = burying.ends_with pt m p in
    acts_as b m pt l k p (serve.executes (moved_round k p) p x v) (serve.ends (with_here (moved_round k p) p y) p u.count y (Why.Fault f)) (Some (rule.executes q p over (plain_process x) u))
    (Some (rule.says (Label.Ran p u.count) ∷ rule.says (Label.End p (Why.Fault f)) ∷ over)) (ap (serve.executes (moved_round k p) p x) is)
    (rest_less u.count q (rule.stops p over (kernel.next_row p (plain_process y) (instruction u.machine.regs u.machine.bytes))) (rule.says (Label.Ran p u.count)) less
    ∙ ap (λ (w : Row). Some (rule.says (Label.Ran p u.count) ∷ rule.stops p over (kernel.next_row p (plain_process y) w))) stops)
    (fault_acts b m pt l k p x y u.count f s (ran_of b m pt l k p x u.count u.machine s ready steps size) stops)

pub executes_acts : (b : Boot) (m : ℕ) (pt : Point) (l : Placed) (k : KernelState) (p : Pid) (x : Process) (q : ℕ) (s : Served b m pt l k p x) → x.status ≡ Status.Ready
    → Acts b m pt l k p (serve.executes (moved_round k p) p x (serve.ran q (serve.processor_of x))) (Some (rule.executes q p (burying.ends_with pt m p) (plain_process x) (rule.ran q (kernel.machine_of (plain_process x)))))
executes_acts b m pt l k p x q s ready =
    let n : Machine = serve.processor_of x in
    executes_by b m pt l k p x q (rule.ran q n) (serve.ran q n) s ready (comes q n) (ran_steps q n) (ran_keeps q n).memory
