-- The rows with places in a machine's terms: where the kernel with places has a machine's process but for its queue, each row
-- is what the machine's code does to that process, but for its queue.
use Rattle.dm_law_places.proofs.Names.{◌≡◌, ℕ, List, ap, ◌∙◌, sym, option_map, Option, None, Some, Pid, MsgId, Message, Process, Status, Regs, Fault, Row, instruction, bind, Machine, plain_steps, Landing, arith, nat_tests, landing}
use Rattle.dm_law_places.proofs.Names.{after_serving, serving_answer, Called, calls, Completion, completion, Placed, Acted, acted, acts, after_call, after_done, after_landing, completed, if_ready, lands, machine_of, ran, running, with_acted}
use Rattle.dm_law_places.proofs.Names.{with_machine, with_process, with_sent, answers}
use Rattle.dm_law_places.proofs.Keeps.{of_map}
use Rattle.dm_law_places.proofs.Queues.{after_serving_with, calls_with, completion_is, completion_with, landing_is, queue_after, serving_with, with_queue}

ready_with : (x y : Process) (st : Status) (q : List Message) → if_ready x st ≡ Some y → if_ready (with_queue x q) st ≡ Some (with_queue y q)
ready_with x y st q h1 = search arith

runs_with : (l : Placed) (p : Pid) (y : Process) (q : List Message) → l.processes p ≡ Some (with_queue y q) → if_ready y y.status ≡ Some y → running l p ≡ Some (with_queue y q)
runs_with l p y q there ready = ap (λ (o : Option Process). bind o (λ (z : Process). if_ready z z.status)) there ∙ ready_with y y y.status q ready

-- so many plain instructions
pub ran_matches : (l : Placed) (p : Pid) (k : ℕ) (y : Process) (q : List Message) (m : Machine) → l.processes p ≡ Some (with_queue y q) → if_ready y y.status ≡ Some y → plain_steps k (machine_of y) ≡ Some m
    → ran l p k ≡ Some (with_process l p (Some (with_queue (with_machine y m) q)))
ran_matches l p k y q m there ready plain = grind (arith, nat_tests, runs_with)

-- a call, or a fault
abbrev pub acted_with : List Message → Acted → Acted
acted_with q w = record { process = option_map (λ (z : Process). with_queue z q) w.process; message = w.message }

after_with : (c : Called) (x : Process) (q : List Message) → after_call c (with_queue x q) ≡ acted_with q (after_call c x)
after_with c x q = search arith

acts_by : (here : ℕ) (l : Placed) (p : Pid) (y : Process) (q : List Message) (w : Acted) → l.processes p ≡ Some (with_queue y q) → if_ready y y.status ≡ Some y → acted here (with_queue y q) (instruction y.regs y.memory) ≡ Some w → acts here l p ≡ Some (with_acted l p w)
acts_by here l p y q w there ready e = grind (arith, nat_tests, runs_with)

pub call_matches : (here : ℕ) (l : Placed) (p : Pid) (y : Process) (q : List Message) (n : ℕ) (regs : Regs) → l.processes p ≡ Some (with_queue y q) → if_ready y y.status ≡ Some y → instruction y.regs y.memory ≡ Row.Calls n regs
    → acts here l p ≡ Some (with_acted l p (acted_with q (after_done (calls here (record y { regs = regs }) n))))
call_matches here l p y q n regs there ready is = grind (arith, nat_tests, acts_by, calls_with, after_with)

pub fault_matches : (here : ℕ) (l : Placed) (p : Pid) (y : Process) (q : List Message) (f : Fault) → l.processes p ≡ Some (with_queue y q) → if_ready y y.status ≡ Some y → instruction y.regs y.memory ≡ Row.Faults f
    → acts here l p ≡ Some (with_process l p None)
fault_matches here l p y q f there ready is = search (arith, acts_by)

-- a receive that ends with the message at a place of the machine's queue
pub record Ends (l : Placed) (p : Pid) (id : MsgId) (d : Completion) : Type 0 where
  pub queue : List Message
  pub is : completed l p id ≡ Some (record { completed = d.completed; process = with_queue d.process queue })

pub completed_matches : (l : Placed) (p : Pid) (id : MsgId) (y : Process) (q : List Message) (place : ℕ) (m : Message) (d : Completion) → l.processes p ≡ Some (with_queue y q) → l.bag id ≡ Some m → completion y place y.status (Some m) ≡ Some d → Ends l p id d
completed_matches l p id y q place m d there found e =
    let plain = completion_is y y.queue place y.status (Some m) in
    let (c, first, last) = of_map (completion_with y.queue place) (completion y 0 y.status (Some m)) d (sym e ∙ plain) in
    let r = queue_after c.completed q 0 in
    search
    (ap (λ (o : Option Process). bind o (λ (z : Process). bind (l.bag id) (λ (n : Message). completion z 0 z.status (Some n)))) there ∙ ap (λ (o : Option Message). bind o (λ (n : Message). completion (with_queue y q) 0 y.status (Some n))) found ∙ completion_is y q 0 y.status (Some m) ∙ ap (option_map (completion_with q 0)) first ∙ ap (λ (z : Completion). Some (record { completed = z.completed; process = with_queue z.process r })) last)

-- a piece that is served, and one that lands
pub answers_match : (here : ℕ) (l : Placed) (m a : Message) (y : Process) (q : List Message) → serving_answer here y m ≡ Some a
    → answers here l m (with_queue y q) ≡ Some (with_sent (with_process l m.to.pid (Some (with_queue (after_serving y m.what) q))) (Some a))
answers_match here l m a y q e = grind (arith, nat_tests, serving_with, after_serving_with)

pub lands_match : (here : ℕ) (l : Placed) (m : Message) (y : Process) (q : List Message) (d : Landing) → landing here y m.what y.status ≡ Some d → lands here l m (with_queue y q) ≡ Some (after_landing l m.to.pid d.landed (with_queue d.process q))
lands_match here l m y q d e = search (arith, landing_is)
