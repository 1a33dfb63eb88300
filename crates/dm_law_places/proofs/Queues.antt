-- The messages that wait for a process change nothing of what it does: each function of the machines' code commutes with
-- setting the queue, which a received message leaves.
use Rattle.dm_law_places.proofs.Names.{◌≡◌, ℕ, Bool, List, refl, if◌then◌else◌, option_map, remove, Option, Link, Message, MsgId, What, Process, arith, nat_tests, Direction, Status, Reply, CallNumber, call_number, Rest, Landing, after_serving}
use Rattle.dm_law_places.proofs.Names.{serving_answer, Completed, Done, Completion}
use Rattle.dm_datamove.specs.Landing as landing
use Rattle.dm_syscall.specs.Calls as calls
use Rattle.dm_syscall.specs.Completing as completing

abbrev pub with_queue : Process → List Message → Process
with_queue x q = record x { queue = q }

-- calls
abbrev pub done_with : Done → List Message → Done
done_with d q = record { called = d.called; process = with_queue d.process q }

unless_with : (o : Option Reply) (x : Process) (d : Done) (q : List Message) → calls.unless_refused o (with_queue x q) (done_with d q) ≡ done_with (calls.unless_refused o x d) q
unless_with o x d q = search arith

if_with : (b : Bool) (c d : Done) (q : List Message) → (if b then done_with c q else done_with d q) ≡ done_with (if b then c else d) q
if_with b c d q = search arith

puts_with : (x : Process) (w : Link) (o : Option ℕ) (q : List Message) → calls.puts_link (with_queue x q) w o ≡ done_with (calls.puts_link x w o) q
puts_with x w o q = search arith

sends_with : (here : ℕ) (x : Process) (o : Option Link) (q : List Message) → calls.sends here (with_queue x q) o ≡ done_with (calls.sends here x o) q
sends_with here x o q = search (arith, unless_with)

begins_with : (here : ℕ) (x : Process) (w : Link) (dir : Direction) (q : List Message) → calls.begins here (with_queue x q) (calls.whole (with_queue x q) w dir) ≡ done_with (calls.begins here x (calls.whole x w dir)) q
begins_with here x w dir q = search arith

moves_with : (here : ℕ) (x : Process) (o : Option Link) (q : List Message) → calls.moves here (with_queue x q) o ≡ done_with (calls.moves here x o) q
moves_with here x o q = search (arith, begins_with, if_with, unless_with)

does_with : (here : ℕ) (x : Process) (n : CallNumber) (q : List Message) → calls.does_call here (with_queue x q) n ≡ done_with (calls.does_call here x n) q
does_with here x n q = search (arith, puts_with, unless_with, if_with, sends_with, moves_with)

pub calls_with : (here : ℕ) (x : Process) (n : ℕ) (q : List Message) → calls.calls here (with_queue x q) n ≡ done_with (calls.calls here x n) q
calls_with here x n q = does_with here x (call_number n) q

-- a receive that ends: the message leaves its place where it is received
abbrev pub queue_after : Completed → List Message → ℕ → List Message
queue_after (Completed.Received id) q place = remove q place
queue_after (Completed.Refused c) q place = q

abbrev pub completion_with : List Message → ℕ → Completion → Completion
completion_with q place d = record { completed = d.completed; process = with_queue d.process (queue_after d.completed q place) }

completes_with : (x : Process) (q : List Message) (place : ℕ) (id : MsgId) (base code channel : ℕ) (body : List ℕ) (links : List Link) (o : Option Reply)
    → completing.completes_unless o (with_queue x q) (completing.receives (with_queue x q) place id base code channel body links) ≡ completion_with q place (completing.completes_unless o x (completing.receives x 0 id base code channel body links))
completes_with x q place id base code channel body links o = search arith

what_with : (x : Process) (q : List Message) (place : ℕ) (id : MsgId) (base size : ℕ) (w : What) → completing.completes (with_queue x q) place id base size w ≡ option_map (completion_with q place) (completing.completes x 0 id base size w)
what_with x q place id base size w = search (arith, completes_with)

pub completion_is : (x : Process) (q : List Message) (place : ℕ) (st : Status) (o : Option Message) → completing.completion (with_queue x q) place st o ≡ option_map (completion_with q place) (completing.completion x 0 st o)
completion_is x q place st o = search (arith, what_with)

pub serving_with : (here : ℕ) (x : Process) (m : Message) (q : List Message) → serving_answer here (with_queue x q) m ≡ serving_answer here x m
serving_with here x m q = search arith

pub after_serving_with : (x : Process) (w : What) (q : List Message) → after_serving (with_queue x q) w ≡ with_queue (after_serving x w) q
after_serving_with x w q = search arith

-- the landing of a piece
abbrev pub landing_with : List Message → Landing → Landing
landing_with q d = record { landed = d.landed; process = with_queue d.process q }

if_landing : (b : Bool) (c d : Landing) (q : List Message) → (if b then landing_with q c else landing_with q d) ≡ landing_with q (if b then c else d)
if_landing b c d q = search arith

asks_with : (here : ℕ) (x : Process) (dir : Direction) (r : Rest) (q : List Message) → r.dir ≡ dir → landing.asks here (with_queue x q) r ≡ landing_with q (landing.asks here x r)
asks_with here x dir r q e = refl

goes_on_with : (here : ℕ) (x : Process) (r : Rest) (q : List Message) → landing.goes_on here (with_queue x q) r ≡ landing_with q (landing.goes_on here x r)
goes_on_with here x r q = grind (arith, nat_tests, asks_with, if_landing)

lands_with : (here : ℕ) (x : Process) (r : Rest) (dir : Direction) (w : What) (q : List Message) → landing.lands_what here (with_queue x q) r dir w ≡ option_map (landing_with q) (landing.lands_what here x r dir w)
lands_with here x r dir w q = grind (arith, nat_tests, goes_on_with)

pub landing_is : (here : ℕ) (x : Process) (w : What) (st : Status) (q : List Message) → landing.landing here (with_queue x q) w st ≡ option_map (landing_with q) (landing.landing here x w st)
landing_is here x w st q = search (arith, lands_with)
