-- What a turn gives is lawful.
use Rattle.dm_kernel.proofs.Names.{◌≡◌, ◌∙◌, ℕ, suc, ◌<◌, ◌≤◌, Bool, true, false, ◌==◌, if◌then◌else◌, List, [], ◌∷◌, length, map, remove, slice_get, Some, None, refl, sym, subst, ap, arith, All, IfSome, common_steps, All-tail, Option, Ok}
use Rattle.dm_kernel.proofs.Names.{Addr, Link, Pid, IsLawfulEnclosed, IsMachine, plain_link, Message, What, IsLawfulMessage, IsLawfulWhat, IsServer, Process, Status, IsLawfulProcess, first_on, is_on, without_first_on, Here, Frozen}
use Rattle.dm_kernel.proofs.Names.{Incoming, Forward, frozen_of, incoming_of, Arrival, Departure, HasChunk, block_of, chunk_of, bind, Landed, Landing, IsAwaited, IsLawfulLanded, landing, IsWithin, after_serving, gone_answer, serving_answer}
use Rattle.dm_kernel.proofs.Names.{IsLawfulLanding, lands_lawfully, answers_lawfully, serves_lawfully, Boot, BootImage, Reply, Why, image_is_valid, images_are_valid, slots_of, plain_process, receive_refusals}
use Rattle.dm_kernel.proofs.Names.{first_failed, heard, manager_after, message_after, moved_back, answer_after, board_after, Called, calls, Completion, completes, completes_unless, completion, refusal, IsLawfulCalled, completes_lawfully}
use Rattle.dm_kernel.proofs.Names.{IsLawfulDone, call_lawfully, Halt, asks_move, child_of, restarts, gives_piece, leaves, stays, answers_with, board_handles, board_took, ended_handles, handles, here_handles, kernel_handles, lands}
use Rattle.dm_kernel.proofs.Names.{lands_as, makes, makes_of, manager_handles, manager_took, next_pid, process_handles, told_board, told_manager, IsLawfulArrival, IsLawfulDeparture, IsLawfulKnown, IsLawfulState}
use Rattle.dm_kernel.proofs.Names.{IsLawfulTurned, FitsEnded, FitsHere, FitsKernel, FrontMay, FitsKnown, FitsBoard, FitsManager, FitsResident, IsSuch, MayHandle, MayRestart, MayTurn, called_with, ends, halts, processor_of, ran}
use Rattle.dm_kernel.proofs.Names.{received_by, receives, serves, serves_status, with_machine, KernelState, KernelKnown, Turned, with_here, with_known, MayFreeze, first_runnable, goes_round, turn, turns, answer, gone_what, state_of, calls_off, preceded}
use Rattle.dm_kernel.proofs.Names.{before_turn, resident_handles, Board, IsLawfulBoard, IsLawfulManager, IsLawfulResident, IsNamed, Managing, Resident, name_of, MayAct}
use Rattle.dm_resident.specs.declared.Resident.TheVariants as resident
use Rattle.dm_resident.specs.Residents as residents
use Rattle.dm_message.specs.declared.What.TheVariants as what
use Rattle.dm_message.specs.declared.Outcome.TheVariants as ends
use Rattle.dm_process.specs.declared.process.Status.TheVariants as status
use Rattle.dm_datamove.specs.declared.Landed.TheVariants as landed
use Rattle.dm_onekernel.specs.declared.label.Why.TheVariants as why
use Rattle.dm_procman.specs.Taking as manage
use Rattle.dm_switchboard.specs.Taking as board
use Rattle.dm_syscall.specs.declared.Called.TheVariants as called
use Rattle.dm_syscall.specs.Completing as completing
use Rattle.dm_kernel.specs.declared.run.Halt.TheVariants as halt
use Rattle.dm_kernel.specs.Handle.{has_room}
use Rattle.dm_onekernel.proofs.Making.{image_fits}
use Rattle.dm_onekernel.proofs.Lawful.{child_lawfully, enough}
use Rattle.dm_kernel.proofs.Serving.{first_is_on, has_run, runs_lawfully}
use Rattle.dm_kernel.proofs.LawfulMoves.{asked_lawfully, asks_lawfully, asks_move_lawfully, board_follows_lawfully, chunk_lawfully, forwards_lawfully, gives_lawfully}
use Rattle.dm_kernel.proofs.LawfulMoves.{holds_arriving_lawfully, holds_leaving_lawfully, leaves_lawfully, manager_follows_lawfully, migrates_lawfully, process_follows_lawfully, restarts_lawfully, stays_lawfully, arriving_known}
use Rattle.dm_kernel.proofs.LawfulMoves.{after_lawfully, buries_lawfully, called_off_lawfully, hears_lawfully, over_lawfully, preceded_lawful}
use Rattle.dm_kernel.proofs.LawfulRows.{Lawfully, answer_lawfully, home_lawful, if_lawfully, knows, none_said, of_known, routed, routes_lawfully, said, with_one_more, with_process, with_queued, with_stopped}

-- a process that executes
ends_lawfully : (s : KernelState) (p : Pid) (k : ℕ) (x : Process) (y : Why) → s.here < 16 → IsMachine p.home → IsLawfulState s → Lawfully (ends s p k x y)
ends_lawfully s p k x y machine home h =
    record { state = after_lawfully s p x y h; parts = said (said (over_lawfully s p x machine home)) }

called_lawfully : (s : KernelState) (p : Pid) (k n : ℕ) (x : Process) (c : Called) → s.here < 16 → IsMachine p.home → IsLawfulState s → IsLawfulCalled c → Lawfully (called_with s p k n x c)
called_lawfully s p k n x (called.Replied c) machine home h lawful = record { state = h; parts = said (said none_said) }
called_lawfully s p k n x (called.Sent m) machine home h lawful = record { state = h; parts = said (said (routed m lawful)) }
called_lawfully s p k n x (called.Moving m) machine home h lawful = record { state = h; parts = said (said (routed m lawful)) }
called_lawfully s p k n x called.Waits machine home h lawful = record { state = h; parts = said (said none_said) }
called_lawfully s p k n x (called.Out w) machine home h lawful = record { state = h; parts = said (said none_said) }
called_lawfully s p k n x (called.Ended y) machine home h lawful = ends_lawfully s p k x y machine home h

halts_lawfully : (s : KernelState) (p : Pid) (k : ℕ) (x : Process) (o : Option Halt) → s.here < 16 → IsMachine p.home → IsLawfulState s → IsLawfulProcess x → Lawfully (halts s p k x o)
halts_lawfully s p k x None machine home h lawful = record { state = with_process s p x h lawful; parts = said none_said }
halts_lawfully s p k x (Some (halt.Call n)) machine home h lawful =
    let d : IsLawfulDone (calls s.here x n) = call_lawfully s.here x n machine lawful in
    called_lawfully (with_here s p (calls s.here x n).process) p k n (calls s.here x n).process (calls s.here x n).called machine home (with_process s p (calls s.here x n).process h d.process) d.called
halts_lawfully s p k x (Some (halt.Fault f)) machine home h lawful = ends_lawfully (with_here s p x) p k x (why.Fault f) machine home (with_process s p x h lawful)

-- a process that takes a message: the first on the mask stands at a place
place_or : (b : Bool) (mask : ℕ) (x m : Message) (xs : List Message) → (if b then Some x else first_on mask xs) ≡ Some m
    → (first_on mask xs ≡ Some m → (i : ℕ) × (slice_get xs i ≡ Some m) × (remove xs i ≡ without_first_on mask xs))
    → (i : ℕ) × (slice_get (x ∷ xs) i ≡ Some m) × (remove (x ∷ xs) i ≡ (if b then xs else x ∷ without_first_on mask xs))
place_or true mask x m xs e h = (0, grind (arith, common_steps), grind (arith, common_steps))
place_or false mask x m xs e h =
    let r : (i : ℕ) × (slice_get xs i ≡ Some m) × (remove xs i ≡ without_first_on mask xs) = h e in
    let there : slice_get xs r.0 ≡ Some m = r.1 in
    let rest : remove xs r.0 ≡ without_first_on mask xs = r.2 in
    (suc r.0, grind (arith, common_steps), grind (arith, common_steps))

first_place : (mask : ℕ) (queue : List Message) (m : Message) → first_on mask queue ≡ Some m
    → (i : ℕ) × (slice_get queue i ≡ Some m) × (remove queue i ≡ without_first_on mask queue)
first_place mask [] m e = absurd (cc)
first_place mask (x ∷ xs) m e = place_or (is_on mask x) mask x m xs e (first_place mask xs m)

is_the_first : (x : Process) (mask base size i : ℕ) (m : Message) → x.status ≡ status.Waiting mask base size → slice_get x.queue i ≡ Some m → is_on mask m ≡ true
    → completing.IsAwaited x.status (slice_get x.queue i)
is_the_first x mask base size i m waits at on =
    subst (λ (t : Status). completing.IsAwaited t (slice_get x.queue i)) (sym waits) (subst (completing.IsAwaited (status.Waiting mask base size)) (sym at) on)

completed : (x : Process) (i mask base size : ℕ) (m : Message) (d : Completion) → IsLawfulProcess x → x.status ≡ status.Waiting mask base size → slice_get x.queue i ≡ Some m
    → is_on mask m ≡ true → completes x i m.id base size m.what ≡ Some d → IsLawfulProcess d.process
completed x i mask base size m d lawful waits at on e =
    completes_lawfully x d.process i d.completed lawful (is_the_first x mask base size i m waits at on) ((λ j. completion x i (waits j) (at j)) ∙ e)

unless_lawfully : (s : KernelState) (p : Pid) (x : Process) (mask i base code channel : ℕ) (m : Message) (body : List ℕ) (links : List Link) (o : Option Reply) → IsLawfulState s
    → remove x.queue i ≡ without_first_on mask x.queue
    → ((d : Completion) → Some (completes_unless o x (completing.receives x i m.id base code channel body links)) ≡ Some d → IsLawfulProcess d.process)
    → Lawfully (received_by s p x mask m (Some (completes_unless o x (completing.receives x 0 m.id base code channel body links))))
unless_lawfully s p x mask i base code channel m body links None h rest k =
    record {
      state =
          with_process s p (record (completing.receives x 0 m.id base code channel body links).process { queue = without_first_on mask x.queue }) h
          (subst (λ (q : List Message). IsLawfulProcess (record (completing.receives x 0 m.id base code channel body links).process { queue = q })) rest
          (k (completing.receives x i m.id base code channel body links) refl));
      parts = said none_said;
    }
unless_lawfully s p x mask i base code channel m body links (Some c) h rest k =
    record { state = with_process s p (refusal c x).process h (k (refusal c x) refl); parts = said none_said }

what_lawfully : (s : KernelState) (p : Pid) (x : Process) (mask i base size : ℕ) (m : Message) (w : What) → IsLawfulState s → remove x.queue i ≡ without_first_on mask x.queue
    → ((d : Completion) → completes x i m.id base size w ≡ Some d → IsLawfulProcess d.process) → Lawfully (received_by s p x mask m (completes x 0 m.id base size w))
what_lawfully s p x mask i base size m (what.User code channel body links) h rest k =
    unless_lawfully s p x mask i base code channel m body.items links.items (first_failed (receive_refusals (plain_process x) size body.items (map plain_link links.items))) h rest k
what_lawfully s p x mask i base size m w h rest k = tt

receives_lawfully : (s : KernelState) (p : Pid) (x : Process) (mask base size : ℕ) (o : Option Message) → IsLawfulState s → IsLawfulProcess x → x.status ≡ status.Waiting mask base size
    → first_on mask x.queue ≡ o → Lawfully (receives s p x mask o)
receives_lawfully s p x mask base size None h lawful waits first = tt
receives_lawfully s p x mask base size (Some m) h lawful waits first =
    let there : (i : ℕ) × (slice_get x.queue i ≡ Some m) × (remove x.queue i ≡ without_first_on mask x.queue) = first_place mask x.queue m first in
    subst (λ (t : Status). Lawfully (received_by s p x mask m (completion x 0 t (Some m)))) (sym waits)
    (what_lawfully s p x mask there.0 base size m m.what h there.2
    (λ d e. completed x there.0 mask base size m d lawful waits there.1 (first_is_on mask x.queue m first) e))

-- a process that is served
status_lawfully : (quantum : ℕ) (s : KernelState) (p : Pid) (x : Process) (t : Status) → s.here < 16 → IsMachine p.home → IsLawfulState s → IsLawfulProcess x → x.status ≡ t
    → Lawfully (serves_status quantum s p x t)
status_lawfully quantum s p x status.Ready machine home h lawful is =
    halts_lawfully s p (ran quantum (processor_of x)).count (with_machine x (ran quantum (processor_of x)).machine) (ran quantum (processor_of x)).halt machine home h
    (runs_lawfully x (ran quantum (processor_of x)).machine (has_run quantum x (ran quantum (processor_of x)) refl) is lawful)
status_lawfully quantum s p x (status.Waiting mask base size) machine home h lawful is = receives_lawfully s p x mask base size (first_on mask x.queue) h lawful is refl
status_lawfully quantum s p x (status.Moving dir owner base own left pending) machine home h lawful is = tt

-- a process that is here bears its name, which is no server's
record IsNamedAs (p : Pid) (x : Process) : Type 0 where
  pid : x.pid ≡ p
  none : ¬ IsServer p

abbrev AreNamed : KernelState → Type 0
AreNamed s = (p : Pid) (x : Process) → s.records p ≡ Some (Here (resident.Process x)) → IsNamedAs p x

serves_known : (quantum : ℕ) (s : KernelState) (p : Pid) (o : Option KernelKnown) → s.here < 16 → IsLawfulState s → AreNamed s → s.records p ≡ o → Lawfully (serves quantum s p o)
serves_known quantum s p None machine h named e = tt
serves_known quantum s p (Some (Here (resident.Process x))) machine h named e =
    let lawful : IsLawfulProcess x = of_known s p (Some (Here (resident.Process x))) h e in
    let bears : IsNamedAs p x = named p x e in
    status_lawfully quantum s p x x.status machine (subst (λ (q : Pid). IsMachine q.home) bears.pid lawful.home) h lawful refl
serves_known quantum s p (Some (Here (resident.Board v))) machine h named e = tt
serves_known quantum s p (Some (Here (resident.Manager v))) machine h named e = tt
serves_known quantum s p (Some (Frozen leaving)) machine h named e = tt
serves_known quantum s p (Some (Incoming arriving)) machine h named e = tt
serves_known quantum s p (Some (Forward place moves)) machine h named e = tt

-- a message for a process
answers_with_lawfully : (s : KernelState) (m : Message) (x : Process) (o : Option Message) → s.here < 16 → IsLawfulState s → IsLawfulMessage m → IsLawfulProcess x → IsWithin (length x.memory) m.what
    → serving_answer s.here x m ≡ o → Lawfully (answers_with s m (after_serving x m.what) o)
answers_with_lawfully s m x None machine h message lawful within e = tt
answers_with_lawfully s m x (Some a) machine h message lawful within e =
    record {
      state = with_process s m.to.pid (after_serving x m.what) h (serves_lawfully x (after_serving x m.what) m.what within lawful refl);
      parts = said (routed a (answers_lawfully s.here x m a machine within message e));
    }

lands_as_lawfully : (s : KernelState) (m : Message) (x : Process) (l : Landed) → IsLawfulState s → IsLawfulProcess x → IsLawfulLanded l → Lawfully (lands_as s m x l)
lands_as_lawfully s m x (landed.Next request) h lawful next = record { state = with_process s m.to.pid x h lawful; parts = said (routed request next) }
lands_as_lawfully s m x (landed.Done reply) h lawful next = record { state = with_process s m.to.pid x h lawful; parts = said none_said }

lands_here : (s : KernelState) (m : Message) (x : Process) (o : Option Landing) → s.here < 16 → IsLawfulState s → IsLawfulProcess x → IsAwaited x.status m
    → landing s.here x m.what x.status ≡ o → Lawfully (lands s m o)
lands_here s m x None machine h lawful awaited e = tt
lands_here s m x (Some d) machine h lawful awaited e =
    let both : IsLawfulLanding d = lands_lawfully s.here x d.process m d.landed machine lawful awaited e in
    lands_as_lawfully s m d.process d.landed h both.process both.landed

here_lawfully : (s : KernelState) (m : Message) (x : Process) (w : What) → s.here < 16 → IsLawfulState s → IsLawfulMessage m → IsLawfulWhat w → IsLawfulProcess x → ¬ IsServer x.pid
    → FitsHere s m x w → Lawfully (here_handles s m x w)
here_lawfully s m x (what.User code channel body links) machine h message what lawful none fits =
    record { state = with_process s m.to.pid _ h (with_queued x m lawful message); parts = said none_said }
here_lawfully s m x what.Stop machine h message what lawful none fits =
    record { state = with_process s m.to.pid _ h (with_stopped x true lawful); parts = said none_said }
here_lawfully s m x what.Resume machine h message what lawful none fits =
    record { state = with_process s m.to.pid _ h (with_stopped x false lawful); parts = said none_said }
here_lawfully s m x what.Kill machine h message what lawful none fits =
    record { state = after_lawfully s m.to.pid x why.Killed h; parts = said (over_lawfully s m.to.pid x machine message.to.home) }
here_lawfully s m x (what.Read base len) machine h message what lawful none fits = answers_with_lawfully s m x (serving_answer s.here x m) machine h message lawful fits refl
here_lawfully s m x (what.Write base bytes) machine h message what lawful none fits = answers_with_lawfully s m x (serving_answer s.here x m) machine h message lawful fits refl
here_lawfully s m x (what.Block bytes) machine h message what lawful none fits = lands_here s m x (landing s.here x m.what x.status) machine h lawful fits refl
here_lawfully s m x what.Written machine h message what lawful none fits = lands_here s m x (landing s.here x m.what x.status) machine h lawful fits refl
here_lawfully s m x what.Gone machine h message what lawful none fits = lands_here s m x (landing s.here x m.what x.status) machine h lawful fits refl
here_lawfully s m x (what.Migrate to) machine h message what lawful none fits = migrates_lawfully s m (resident.Process x) to machine h lawful none what
here_lawfully s m x (what.Move to) machine h message what lawful none fits = asked_lawfully s m x to machine h message lawful none what
here_lawfully s m x (what.Update about) machine h message what lawful none fits = process_follows_lawfully s m x about h lawful what
here_lawfully s m x w machine h message what lawful none fits = absurd fits

gone_lawfully_by : (here : ℕ) (m : Message) (w : What) → here < 16 → IsLawfulMessage m → IsLawfulMessage (answer here m.to.moves m (gone_what w))
gone_lawfully_by here m (what.Move to) machine message = answer_lawfully here m.to.moves m (what.Moved ends.Ended) machine message refl tt
gone_lawfully_by here m w machine message = answer_lawfully here m.to.moves m what.Gone machine message refl tt

gone_lawfully : (s : KernelState) (m : Message) → s.here < 16 → IsLawfulMessage m → IsLawfulMessage (gone_answer s.here m)
gone_lawfully s m machine message = gone_lawfully_by s.here m m.what machine message

ended_lawfully : (s : KernelState) (m : Message) (w : What) → s.here < 16 → IsLawfulState s → IsLawfulMessage m → FitsEnded w → Lawfully (ended_handles s m w)
ended_lawfully s m (what.Read base len) machine h message fits = record { state = h; parts = said (routed _ (gone_lawfully s m machine message)) }
ended_lawfully s m (what.Write base bytes) machine h message fits = record { state = h; parts = said (routed _ (gone_lawfully s m machine message)) }
ended_lawfully s m (what.Move to) machine h message fits = record { state = h; parts = said (routed _ (gone_lawfully s m machine message)) }
ended_lawfully s m (what.User code channel body links) machine h message fits = record { state = h; parts = said none_said }
ended_lawfully s m what.Stop machine h message fits = record { state = h; parts = said none_said }
ended_lawfully s m what.Resume machine h message fits = record { state = h; parts = said none_said }
ended_lawfully s m what.Kill machine h message fits = record { state = h; parts = said none_said }
ended_lawfully s m (what.Block bytes) machine h message fits = record { state = h; parts = said none_said }
ended_lawfully s m what.Written machine h message fits = record { state = h; parts = said none_said }
ended_lawfully s m what.Gone machine h message fits = record { state = h; parts = said none_said }
ended_lawfully s m (what.Migrate to) machine h message fits = record { state = h; parts = said none_said }
ended_lawfully s m (what.Update about) machine h message fits = record { state = h; parts = said none_said }
ended_lawfully s m w machine h message fits = absurd fits

-- a message for the kernel
makes_lawfully : (b : Boot) (s : KernelState) (m : Message) (links : List Link) (i : BootImage) (room : Bool) → s.here < 16 → IsLawfulState s → IsLawfulMessage m
    → image_is_valid i ≡ true → length links ≤ 3 → All IsLawfulEnclosed links → Lawfully (makes b s m links i room)
makes_lawfully b s m links i true machine h message valid few lawful =
    let room : 3 ≤ slots_of b.format = enough b.format in
    record {
      state = with_one_more s (next_pid s) (child_of b (next_pid s) i links) i.blocks h (child_lawfully b (next_pid s) i links (omega arith) valid (omega arith) lawful);
      parts = said (routed _ (answer_lawfully s.here 0 m (what.Created (next_pid s)) machine message refl (omega arith)));
    }
makes_lawfully b s m links i false machine h message valid few lawful =
    record { state = h; parts = said (routed _ (answer_lawfully s.here 0 m what.NoRoom machine message refl tt)) }

-- an image that there is
makes_of_lawfully : (b : Boot) (s : KernelState) (m : Message) (links : List Link) (o : Option BootImage) → s.here < 16 → IsLawfulState s → IsLawfulMessage m
    → ((i : BootImage) → o ≡ Some i → image_is_valid i ≡ true) → length links ≤ 3 → All IsLawfulEnclosed links → Lawfully (makes_of b s m links o)
makes_of_lawfully b s m links None machine h message valid few lawful = tt
makes_of_lawfully b s m links (Some i) machine h message valid few lawful = makes_lawfully b s m links i (has_room s.room i.blocks) machine h message (valid i refl) few lawful

-- a message about a process that leaves, or comes
each_leaving : (o : Option KernelKnown) (go : Departure → Option Turned) → IfSome o IsLawfulKnown → ((d : Departure) → frozen_of o ≡ Some d → IsLawfulDeparture d → Lawfully (go d)) → Lawfully (bind (frozen_of o) go)
each_leaving None go h k = tt
each_leaving (Some (Here x)) go h k = tt
each_leaving (Some (Frozen d)) go h k = k d refl h
each_leaving (Some (Incoming a)) go h k = tt
each_leaving (Some (Forward place moves)) go h k = tt

each_arriving : (o : Option KernelKnown) (go : Arrival → Option Turned) → IfSome o IsLawfulKnown → ((a : Arrival) → incoming_of o ≡ Some a → IsLawfulArrival a → Lawfully (go a)) → Lawfully (bind (incoming_of o) go)
each_arriving None go h k = tt
each_arriving (Some (Here x)) go h k = tt
each_arriving (Some (Frozen d)) go h k = tt
each_arriving (Some (Incoming a)) go h k = k a refl h
each_arriving (Some (Forward place moves)) go h k = tt

such : {X : Type 0} (P : X → Type 0) (o : Option X) (x : X) → o ≡ Some x → IsSuch P o → P x
such P None x e h = absurd h
such P (Some y) x e h = let same : y ≡ x = cc in subst P same h

kernel_lawfully : (b : Boot) (s : KernelState) (m : Message) (w : What) → s.here < 16 → images_are_valid b.images ≡ true → IsLawfulState s → IsLawfulMessage m → IsLawfulWhat w → FitsKernel b s m w
    → Lawfully (kernel_handles b s m w)
kernel_lawfully b s m (what.Create image links) machine images h message lawful fits =
    makes_of_lawfully b s m links.items (slice_get b.images image) machine h message (λ i at. image_fits b.images image i images at) lawful.0 lawful.1
kernel_lawfully b s m (what.Ask pid blocks moves size asker) machine images h message lawful fits = asks_lawfully b s m pid blocks moves size asker machine h message lawful.0 lawful.2
kernel_lawfully b s m (what.Refuse pid slots blocks) machine images h message lawful fits = each_leaving (s.records pid) (stays s pid) (h.records pid) (λ d e leaving. stays_lawfully s pid d machine h leaving)
kernel_lawfully b s m (what.PullState pid chunk) machine images h message lawful fits =
    each_leaving (s.records pid) (λ d. gives_piece s m (chunk_of (name_of d.resident) (state_of d.resident) chunk)) (h.records pid)
    (λ d e leaving.
    gives_lawfully s m (chunk_of (name_of d.resident) (state_of d.resident) chunk) machine h message refl
    (chunk_lawfully d.resident chunk (home_lawful d.resident leaving.resident) (such (λ (d : Departure). HasChunk (state_of d.resident) chunk) (frozen_of (s.records pid)) d e fits.0)))
kernel_lawfully b s m (what.State pid chunk last bytes) machine images h message lawful fits =
    hears_lawfully s m pid (incoming_of (s.records pid)) machine h message (arriving_known (s.records pid) (h.records pid))
kernel_lawfully b s m (what.PullBlock pid block) machine images h message lawful fits =
    each_leaving (s.records pid) (λ d. gives_piece s m (block_of (name_of d.resident) (residents.memory_of d.resident) block)) (h.records pid)
    (λ d e leaving. gives_lawfully s m (block_of (name_of d.resident) (residents.memory_of d.resident) block) machine h message refl (home_lawful d.resident leaving.resident))
kernel_lawfully b s m (what.Memory pid block bytes) machine images h message lawful fits =
    hears_lawfully s m pid (incoming_of (s.records pid)) machine h message (arriving_known (s.records pid) (h.records pid))
kernel_lawfully b s m (what.AllTaken pid) machine images h message lawful fits =
    each_leaving (s.records pid) (leaves s pid) (h.records pid) (λ d e leaving. leaves_lawfully s pid d machine lawful h leaving)
kernel_lawfully b s m (what.Restart pid) machine images h message lawful fits =
    each_arriving (s.records pid) (restarts b s pid) (h.records pid)
    (λ a e arriving. restarts_lawfully b s pid a machine h arriving (such (MayRestart b) (incoming_of (s.records pid)) a e fits))
kernel_lawfully b s m (what.CallOff pid) machine images h message lawful fits =
    let t = preceded s pid m.id.from.home in
    each_leaving (s.records pid) (stays t pid) (h.records pid) (λ d e leaving. stays_lawfully t pid d machine (preceded_lawful s pid m.id.from.home h) leaving)
kernel_lawfully b s m (what.Bury pid) machine images h message lawful fits = buries_lawfully s m pid machine lawful h
kernel_lawfully b s m w machine images h message lawful fits = absurd fits

-- a message for a server
with_board : (s : KernelState) (m : Message) (v : Board) → IsLawfulState s → IsLawfulBoard v → IsLawfulState (with_known s m.to.pid (Here (resident.Board v)))
with_board s m v h lawful = record { records = knows s m.to.pid (Here (resident.Board v)) h lawful; room = h.room; inbox = h.inbox }

with_manager : (s : KernelState) (m : Message) (v : Managing) → IsLawfulState s → IsLawfulManager v → IsLawfulState (with_known s m.to.pid (Here (resident.Manager v)))
with_manager s m v h lawful = record { records = knows s m.to.pid (Here (resident.Manager v)) h lawful; room = h.room; inbox = h.inbox }

board_what : (s : KernelState) (m : Message) (v : Board) (w : What) → s.here < 16 → IsLawfulState s → IsLawfulBoard v → IsLawfulMessage m → IsLawfulWhat w → m.what ≡ w → Lawfully (board_took s m v (board.takes s.here v w))
board_what s m v (what.User code channel body links) machine h own message lawful is =
    let t = board.takes_request s.here v body.items links.items in
    record {
      state = with_board s m t.board h (board_after s.here (Ok t.took) v t.board m code channel body links body.items links.items machine is refl refl tt own message);
      parts = said (routes_lawfully t.took.answer (answer_after s.here (Ok t.took) v t.board m code channel body links body.items links.items machine is refl refl own message));
    }
board_what s m v (what.Update about) machine h own message lawful is = subst (λ (w : What). Lawfully (told_board s m v w)) (sym is) (board_follows_lawfully s m v about h own lawful)
board_what s m v (what.Migrate to) machine h own message lawful is =
    subst (λ (w : What). Lawfully (told_board s m v w)) (sym is) (migrates_lawfully s m (resident.Board v) to machine h own tt lawful)
board_what s m v w machine h own message lawful is = subst (λ (w : What). Lawfully (told_board s m v w)) (sym is) tt

-- what is for the manager is no update, and doesn't tell it to move
not_told : (s : KernelState) (m : Message) (v : Managing) (w : What) → manage.IsForManager v m.id.n w → Lawfully (told_manager s m v w)
not_told s m v (what.Update about) h = absurd h
not_told s m v (what.Migrate to) h = absurd h
not_told s m v w h = tt

manager_what : (s : KernelState) (m : Message) (v : Managing) (o : Option manage.Taken) → s.here < 16 → IsLawfulState s → IsLawfulManager v → IsLawfulMessage m → manage.IsForManager v m.id.n m.what
    → manage.takes s.here v m.id.n m.what ≡ o → Lawfully (manager_took s m v o)
manager_what s m v None machine h own message fits e = not_told s m v m.what fits
manager_what s m v (Some t) machine h own message fits e =
    record {
      state = with_manager s m t.manager h (manager_after s.here machine (Ok t.message) v t.manager m (heard v m.id.n m.what fits) e tt own message);
      parts = said (routes_lawfully t.message (message_after s.here machine (Ok t.message) v t.manager m (heard v m.id.n m.what fits) e own message));
    }

manager_told_lawfully : (s : KernelState) (m : Message) (v : Managing) (w : What) → s.here < 16 → IsLawfulState s → IsLawfulManager v → IsLawfulMessage m → IsLawfulWhat w → FitsManager s v m.id.n w → m.what ≡ w
    → Lawfully (manager_took s m v (manage.takes s.here v m.id.n w))
manager_told_lawfully s m v (what.Update about) machine h own message lawful fits is =
    subst (λ (w : What). Lawfully (told_manager s m v w)) (sym is) (manager_follows_lawfully s m v about h own lawful)
manager_told_lawfully s m v (what.Migrate to) machine h own message lawful fits is =
    subst (λ (w : What). Lawfully (told_manager s m v w)) (sym is) (migrates_lawfully s m (resident.Manager v) to machine h own tt lawful)
manager_told_lawfully s m v w machine h own message lawful fits is =
    manager_what s m v (manage.takes s.here v m.id.n w) machine h own message (subst (manage.IsForManager v m.id.n) (sym is) fits.0) (ap (manage.takes s.here v m.id.n) is)

-- a message for what is here
resident_lawfully : (s : KernelState) (m : Message) (r : Resident) → s.here < 16 → IsLawfulState s → IsLawfulResident r → IsNamed r → IsLawfulMessage m → FitsResident s m r → Lawfully (resident_handles s m r)
resident_lawfully s m (resident.Process x) machine h lawful none message fits = here_lawfully s m x m.what machine h message message.what lawful none fits
resident_lawfully s m (resident.Board v) machine h lawful none message fits = board_what s m v m.what machine h lawful message message.what refl
resident_lawfully s m (resident.Manager v) machine h lawful none message fits = manager_told_lawfully s m v m.what machine h lawful message message.what fits refl

known_lawfully : (s : KernelState) (m : Message) (o : Option KernelKnown) → s.here < 16 → IsLawfulState s → IsLawfulMessage m → ((r : Resident) → o ≡ Some (Here r) → IsNamed r) → FitsKnown s m o
    → s.records m.to.pid ≡ o → Lawfully (process_handles s m o)
known_lawfully s m None machine h message none fits e = ended_lawfully s m m.what machine h message fits
known_lawfully s m (Some (Here r)) machine h message none fits e = resident_lawfully s m r machine h (of_known s m.to.pid (Some (Here r)) h e) (none r refl) message fits
known_lawfully s m (Some (Frozen d)) machine h message none fits e = holds_leaving_lawfully s m d h (of_known s m.to.pid (Some (Frozen d)) h e) message
known_lawfully s m (Some (Incoming a)) machine h message none fits e = holds_arriving_lawfully s m a h (of_known s m.to.pid (Some (Incoming a)) h e) message
known_lawfully s m (Some (Forward place moves)) machine h message none fits e = forwards_lawfully s m place moves machine (of_known s m.to.pid (Some (Forward place moves)) h e) h message

no_server_here : (s : KernelState) (p : Pid) → AreNamed s → (r : Resident) → s.records p ≡ Some (Here r) → IsNamed r
no_server_here s p named (resident.Process x) e = let bears : IsNamedAs p x = named p x e in λ server. bears.none (subst IsServer bears.pid server)
no_server_here s p named (resident.Board v) e = tt
no_server_here s p named (resident.Manager v) e = tt

-- a message
handles_lawfully : (b : Boot) (s : KernelState) (m : Message) → s.here < 16 → images_are_valid b.images ≡ true → IsLawfulState s → AreNamed s → MayHandle b s m → Lawfully (handles b s m)
handles_lawfully b s m machine images h named may =
    if_lawfully (m.to.pid.num == 0) (kernel_handles b s m m.what) (process_handles s m (s.records m.to.pid))
    (λ is. kernel_lawfully b s m m.what machine images h may.lawful may.lawful.what (may.for_kernel is))
    (λ no. known_lawfully s m (s.records m.to.pid) machine h may.lawful (no_server_here s m.to.pid named) (may.for_process no) refl)

-- before the turn, without the message that is taken, and with the ring turned
pub before_lawful : (s : KernelState) → IsLawfulState s → IsLawfulState (before_turn s)
before_lawful s h = record { records = h.records; room = h.room; inbox = h.inbox }

without_front : (s : KernelState) (m : Message) (rest : List Message) → s.inbox ≡ m ∷ rest → IsLawfulState s → IsLawfulState (record s { inbox = rest })
without_front s m rest e h =
    record { records = h.records; room = h.room; inbox = All-tail IsLawfulMessage m rest (subst (All IsLawfulMessage) e h.inbox) }

with_ring : (s : KernelState) (ring : List Pid) → IsLawfulState s → IsLawfulState (record s { ring = ring })
with_ring s ring h = record { records = h.records; room = h.room; inbox = h.inbox }

fits_still : (b : Boot) (s : KernelState) (m : Message) (rest : List Message) (w : What) → FitsKernel b s m w → FitsKernel b (record (before_turn s) { inbox = rest }) m w
fits_still b s m rest (what.Create image links) h = h
fits_still b s m rest w h = h

here_still : (s : KernelState) (m : Message) (x : Process) (rest : List Message) (w : What) → FitsHere s m x w → FitsHere (record (before_turn s) { inbox = rest }) m x w
here_still s m x rest (what.Migrate to) h = h
here_still s m x rest (what.Move to) h = h
here_still s m x rest w h = h

may_freeze : (s : KernelState) (rest : List Message) (r : Resident) → MayFreeze s r → MayFreeze (record (before_turn s) { inbox = rest }) r
may_freeze s rest r h = record { lawful = h.lawful; moves = h.moves; few = h.few; size = h.size; sent = h.sent }

board_still : (s : KernelState) (v : Board) (rest : List Message) (w : What) → FitsBoard s v w → FitsBoard (record (before_turn s) { inbox = rest }) v w
board_still s v rest (what.User code channel body links) h = h
board_still s v rest (what.Migrate to) h = may_freeze s rest (resident.Board v) h
board_still s v rest w h = h

manager_still : (s : KernelState) (v : Managing) (n : ℕ) (rest : List Message) (w : What) → FitsManager s v n w → FitsManager (record (before_turn s) { inbox = rest }) v n w
manager_still s v n rest (what.Update about) h = h
manager_still s v n rest (what.Migrate to) h = may_freeze s rest (resident.Manager v) h
manager_still s v n rest w h = h

resident_still : (s : KernelState) (m : Message) (rest : List Message) (r : Resident) → FitsResident s m r → FitsResident (record (before_turn s) { inbox = rest }) m r
resident_still s m rest (resident.Process x) h = here_still s m x rest m.what h
resident_still s m rest (resident.Board v) h = board_still s v rest m.what h
resident_still s m rest (resident.Manager v) h = manager_still s v m.id.n rest m.what h

known_still : (s : KernelState) (m : Message) (rest : List Message) (o : Option KernelKnown) → FitsKnown s m o → FitsKnown (record (before_turn s) { inbox = rest }) m o
known_still s m rest None h = h
known_still s m rest (Some (Here r)) h = resident_still s m rest r h
known_still s m rest (Some (Frozen d)) h = h
known_still s m rest (Some (Incoming a)) h = h
known_still s m rest (Some (Forward place moves)) h = h

pub may_front : (b : Boot) (s : KernelState) (m : Message) (rest : List Message) → MayHandle b s m → MayHandle b (record (before_turn s) { inbox = rest }) m
may_front b s m rest h =
    record { lawful = h.lawful; for_kernel = λ is. fits_still b s m rest m.what (h.for_kernel is); for_process = λ no. known_still s m rest (s.records m.to.pid) (h.for_process no) }

round_lawfully : (b : Boot) (s : KernelState) (o : Option Pid) → s.here < 16 → IsLawfulState s → AreNamed s → Lawfully (goes_round b s o)
round_lawfully b s None machine h named = record { state = h; parts = said none_said }
round_lawfully b s (Some p) machine h named =
    serves_known b.quantum (record s { ring = moved_back p s.ring }) p (s.records p) machine (with_ring s (moved_back p s.ring) h) named refl

turns_lawfully : (b : Boot) (s : KernelState) (inbox : List Message) → s.inbox ≡ inbox → s.here < 16 → images_are_valid b.images ≡ true → IsLawfulState s → AreNamed s
    → FrontMay b s inbox → Lawfully (turns b (before_turn s) inbox)
turns_lawfully b s [] e machine images h named may = round_lawfully b (before_turn s) (first_runnable s.records s.ring) machine (before_lawful s h) named
turns_lawfully b s (m ∷ rest) e machine images h named may =
    handles_lawfully b (record (before_turn s) { inbox = rest }) m machine images (without_front (before_turn s) m rest e (before_lawful s h)) named (may_front b s m rest may)

some_lawfully : (o : Option Turned) (t : Turned) → o ≡ Some t → Lawfully o → IsLawfulTurned t
some_lawfully None t e h = absurd (cc)
some_lawfully (Some u) t e h = let same : u ≡ t = cc in subst IsLawfulTurned same h

pub turn_lawful : (b : Boot) (s : KernelState) (t : Turned) → images_are_valid b.images ≡ true → MayTurn b s → IsLawfulState s → turn b s ≡ Some t → IsLawfulTurned t
turn_lawful b s t images may h e = some_lawfully (turn b s) t e (turns_lawfully b s s.inbox refl may.here images h (λ p x e. let acts : MayAct s p x = may.processes p x e in record { pid = acts.pid; none = acts.named }) may.front)

-- asking for a move
pub asked_lawful : (s : KernelState) (p : Pid) (machine : ℕ) (t : Turned) → s.here < 16 → IsMachine machine → IsLawfulState s → asks_move s p machine ≡ Some t → IsLawfulTurned t
asked_lawful s p machine t here to h e = some_lawfully (asks_move s p machine) t e (asks_move_lawfully s p machine here to h)

-- calling a migration off
pub called_off_lawful : (s : KernelState) (p : Pid) (t : Turned) → s.here < 16 → IsLawfulState s → calls_off s p ≡ Some t → IsLawfulTurned t
called_off_lawful s p t here h e = some_lawfully (calls_off s p) t e (called_off_lawfully s p here h)
