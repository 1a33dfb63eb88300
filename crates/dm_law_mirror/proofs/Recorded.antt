-- What a machine has of a process or a server, by what the lines say that it knows of it.
use Rattle.dm_law_mirror.proofs.Names.{◌≡◌, ℕ, false, List, refl, subst, Option, None, Some, Pid, MsgId, Record, Process, Boot, Point, Known, Unknown, Here, Frozen, Incoming, Forward, is_server, Placed, KernelState, Arrival, Departure}
use Rattle.dm_law_mirror.proofs.Names.{HereStands, LeavesStand, ComesStand, KnownStands, KernelStands, ◌==◌, ◌∙◌, true, ap, sym, incoming_of, is_expected, is_waited_from, Resident, Message, AreMessages, manager}
use Rattle.dm_kernel.specs.State as machine
use Rattle.dm_law_mirror.proofs.Residents.{manager_here, process_here}

abbrev pub Recorded : Placed → Pid → List MsgId → List MsgId → Known → Option machine.KernelKnown → Type 0
Recorded l p queue held Unknown r = r ≡ None
Recorded l p queue held Here r = (x : Resident) × (r ≡ Some (Record.Here x)) × HereStands l p queue x
Recorded l p queue held (Frozen to) r = (d : Departure) × (r ≡ Some (Record.Frozen d)) × LeavesStand l p queue held to d
Recorded l p queue held (Incoming from) r = (a : Arrival) × (r ≡ Some (Record.Incoming a)) × ComesStand l p from held a
Recorded l p queue held (Forward at moves) r = r ≡ Some (Record.Forward at moves)

pub recorded_as : (l : Placed) (p : Pid) (queue held : List MsgId) (k : Known) (r : Option machine.KernelKnown) → KnownStands l p queue held k r → Recorded l p queue held k r
recorded_as l p queue held Unknown None h = refl
recorded_as l p queue held Here (Some (Record.Here x)) h = (x, refl, h)
recorded_as l p queue held (Frozen to) (Some (Record.Frozen d)) h = (d, refl, h)
recorded_as l p queue held (Incoming from) (Some (Record.Incoming a)) h = (a, refl, h)
recorded_as l p queue held (Forward at moves) (Some (Record.Forward to count)) h = λ i. Some (Record.Forward (h.0 i) (h.1 i))
recorded_as l p queue held k r h = absurd h

pub recorded : (b : Boot) (pt : Point) (l : Placed) (m : ℕ) (k : KernelState) (p : Pid) (w : Known) → KernelStands b pt l m k → pt.view.known m p ≡ w → Recorded l p (pt.view.queue m p) (pt.view.held m p) w (k.records p)
recorded b pt l m k p w h is = recorded_as l p (pt.view.queue m p) (pt.view.held m p) w (k.records p) (subst (λ (j : Known). KnownStands l p (pt.view.queue m p) (pt.view.held m p) j (k.records p)) is (h.known p))

-- a process that is here
pub record RecordedProcess (l : Placed) (p : Pid) (queue : List MsgId) (r : Option machine.KernelKnown) : Type 0 where
  pub process : Process
  pub is : r ≡ Some (Record.Here (Resident.Process process))
  pub waits : List Message
  pub there : l.processes p ≡ Some (record process { queue = waits })
  pub messages : AreMessages l.bag queue process.queue

pub recorded_process : (b : Boot) (pt : Point) (l : Placed) (m : ℕ) (k : KernelState) (p : Pid) → KernelStands b pt l m k → is_server p ≡ false → pt.view.known m p ≡ Here → RecordedProcess l p (pt.view.queue m p) (k.records p)
recorded_process b pt l m k p h server is =
    let (r, here, stands) = recorded b pt l m k p Here h is in
    let x = process_here l p (pt.view.queue m p) r server stands in
    record { process = x.process; is = here ∙ ap (λ (z : Resident). Some (Record.Here z)) x.is; waits = x.waits; there = x.there; messages = x.messages }

pub recorded_manager : (b : Boot) (pt : Point) (l : Placed) (m : ℕ) (k : KernelState) → KernelStands b pt l m k → pt.view.known m manager ≡ Here → k.records manager ≡ Some (Record.Here (Resident.Manager l.manager))
recorded_manager b pt l m k h is =
    let (r, here, stands) = recorded b pt l m k manager Here h is in
    here ∙ ap (λ (z : Resident). Some (Record.Here z)) (manager_here l (pt.view.queue m manager) r stands)

-- a machine has it on its way from another where the lines say so
expects_by : (l : Placed) (p : Pid) (queue held : List MsgId) (from : ℕ) (w : Known) (r : Option machine.KernelKnown) → Recorded l p queue held w r → is_expected (incoming_of r) from ≡ is_waited_from from w
expects_by l p queue held from Unknown r h = ap (λ (o : Option machine.KernelKnown). is_expected (incoming_of o) from) h
expects_by l p queue held from Here r h = ap (λ (o : Option machine.KernelKnown). is_expected (incoming_of o) from) h.1
expects_by l p queue held from (Frozen to) r h = ap (λ (o : Option machine.KernelKnown). is_expected (incoming_of o) from) h.1
expects_by l p queue held from (Incoming source) r h = ap (λ (o : Option machine.KernelKnown). is_expected (incoming_of o) from) h.1 ∙ ap (λ (n : ℕ). from == n) h.2.source
expects_by l p queue held from (Forward at moves) r h = ap (λ (o : Option machine.KernelKnown). is_expected (incoming_of o) from) h

-- and awaits it then
pub expected_waits : (b : Boot) (pt : Point) (l : Placed) (m : ℕ) (k : KernelState) (p : Pid) (from : ℕ) → KernelStands b pt l m k → is_expected (incoming_of (k.records p)) from ≡ true → is_waited_from from (pt.view.known m p) ≡ true
expected_waits b pt l m k p from h e = sym (expects_by l p (pt.view.queue m p) (pt.view.held m p) from (pt.view.known m p) (k.records p) (recorded b pt l m k p (pt.view.known m p) h refl)) ∙ e
