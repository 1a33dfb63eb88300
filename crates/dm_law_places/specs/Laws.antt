-- Places follow the lines: each step of the kernel without machines is one with places, and leads to the addresses that the
-- lines say; so wherever the rule leads, there is a kernel with places.
use Rattle.std.specs.Prelude.{◌≡◌, ⊤, true, []}
use Rattle.std.specs.declared.option.Option.TheVariants.{Some}
use Rattle.dm_link.specs.declared.Pid.{Pid}
use Rattle.dm_message.specs.Ids.{id_of}
use Rattle.dm_message.specs.declared.MsgId.{MsgId}
use Rattle.dm_message.specs.Plain.{PlainMessage}
use Rattle.dm_process.specs.declared.process.Process.{Process}
use Rattle.dm_onekernel.specs.Boot.{manager}
use Rattle.dm_onekernel.specs.declared.boot.Boot.{Boot}
use Rattle.dm_onekernel.specs.declared.label.Label.{Label}
use Rattle.dm_onekernel.specs.declared.label.Label.TheVariants as label
use Rattle.dm_onekernel.specs.Kernel.{MoveNote, OneKernel}
use Rattle.dm_onekernel.specs.PlainProcess.{PlainProcess}
use Rattle.dm_onekernel.specs.Step as kernel
use Rattle.dm_line.specs.declared.line.Line.{Line}
use Rattle.dm_line.specs.declared.line.Line.TheVariants as line
use Rattle.dm_line.specs.declared.line.Stage.TheVariants as stage
use Rattle.dm_law_rule.specs.View.{View}
use Rattle.dm_law_rule.specs.Addresses.{Addresses, first_gives, own_given}
use Rattle.dm_law_rule.specs.Homes.{ascends}
use Rattle.dm_law_rule.specs.Point.{Point, after_line, first_point}
use Rattle.dm_law_places.specs.Placed.{Placed, Mirrors}
use Rattle.dm_law_places.specs.PlacedStart.{placed_start}
use Rattle.dm_law_places.specs.PlacedStep.{placed_step}
use Rattle.dm_message.specs.Sorts.{sort_of}
use Rattle.dm_law_rule.specs.Acts.{act_of}
use Rattle.dm_law_rule.specs.Addresses.{addresses_by}

-- what a label needs beside a mirror: the manager's requests have ascending numbers; a
-- process that is made now hasn't moved yet; a request to move has the name of one of the manager's messages, and
-- one that is answered is the one that its process follows, which lives
abbrev pub StepNeeds : OneKernel → View → Label → Type 0
StepNeeds s v (label.Ran p k) = ⊤
StepNeeds s v (label.Call p n c) = ⊤
StepNeeds s v (label.Send p id) = ⊤
StepNeeds s v (label.Wait p) = ⊤
StepNeeds s v (label.Out p w) = ⊤
StepNeeds s v (label.End p y) = ⊤
StepNeeds s v (label.Receive p id) = ⊤
StepNeeds s v (label.Refuse p id c) = ⊤
StepNeeds s v (label.Dropped id) = ⊤
StepNeeds s v (label.Served id) = ⊤
StepNeeds s v (label.Gone id) = ⊤
StepNeeds s v (label.Took id) = ascends 0 s.manager.pending s.manager.sent ≡ true
StepNeeds s v (label.Created id child) = v.moves child ≡ 0
StepNeeds s v (label.NoSpace id slots blocks) = ⊤
StepNeeds s v (label.Asked id) = id ≡ id_of manager id.n
StepNeeds s v (label.Answered id o) =
    (p : Pid) (n : MoveNote) → s.noted id ≡ Some p → s.notes p ≡ Some n → (x : PlainProcess) × (n.id ≡ id) × (kernel.alive (s.processes p) ≡ Some x)

-- a step of the kernel without machines is one with places, on the machine that acts, and its places are the addresses after it
abbrev pub StepsFollow : Type 0
StepsFollow =
    (s t : OneKernel) (v : View) (a : Addresses) (l : Placed) (e : Label) → Mirrors s v a l → StepNeeds s v e → kernel.step s e ≡ Some t
    → (m : Placed) × (placed_step v.acting s.format s.images l e ≡ Some m) × Mirrors t v (addresses_by s v a (act_of (line.Label e))) m

-- lines that neither are steps nor change addresses or how often a process has moved; a message that is put gets no addresses
-- then, as it was put before or is one of the kernel's
abbrev pub KeepsPlaces : Point → Line → Type 0
KeepsPlaces pt (line.Head d) = ⊤
KeepsPlaces pt (line.Idle m) = ⊤
KeepsPlaces pt (line.Label e) = ⊥
KeepsPlaces pt (line.Put from to id k q) = first_gives (pt.view.told id) (own_given pt.kernel pt.view pt.addresses id q (sort_of k)) ≡ []
KeepsPlaces pt (line.Packet from to k l) = ⊤
KeepsPlaces pt (line.Taken from to n) = ⊤
KeepsPlaces pt (line.Old from to n) = ⊤
KeepsPlaces pt (line.Early from to n) = ⊤
KeepsPlaces pt (line.Acked from to n) = ⊤
KeepsPlaces pt line.Nothing = ⊤
KeepsPlaces pt (line.Resent m n) = ⊤
KeepsPlaces pt (line.Queued id) = ⊤
KeepsPlaces pt (line.Held id) = ⊤
KeepsPlaces pt (line.Forwarded id m) = ⊥
KeepsPlaces pt (line.Updated id n) = ⊥
KeepsPlaces pt (line.Buried id n) = ⊤
KeepsPlaces pt (line.Migration stage.Frozen p) = ⊤
KeepsPlaces pt (line.Migration stage.Asked p) = ⊤
KeepsPlaces pt (line.Migration stage.Accepted p) = ⊤
KeepsPlaces pt (line.Migration stage.StateTaken p) = ⊤
KeepsPlaces pt (line.Migration stage.MemoryTaken p) = ⊤
KeepsPlaces pt (line.Migration stage.Left p) = ⊤
KeepsPlaces pt (line.Migration stage.Restarted p) = ⊥
KeepsPlaces pt (line.SentOn p n) = ⊥
KeepsPlaces pt (line.Called p n) = ⊥
KeepsPlaces pt (line.Lacks p slots blocks) = ⊤
KeepsPlaces pt (line.Stays p) = ⊤
KeepsPlaces pt (line.Here id) = ⊤
KeepsPlaces pt (line.NoMove id) = ⊤
KeepsPlaces pt (line.Stale id) = ⊤
KeepsPlaces pt (line.Proto id) = ⊤
KeepsPlaces pt (line.NoChild p) = ⊤
KeepsPlaces pt (line.NoCall p) = ⊤
KeepsPlaces pt line.Away = ⊤

-- such a line leaves the kernel with places as it is
abbrev pub LinesKeep : Type 0
LinesKeep =
    (pt pt' : Point) (l : Placed) (x : Line) → KeepsPlaces pt x → Mirrors pt.kernel pt.view pt.addresses l → after_line pt x ≡ Some pt' → Mirrors pt'.kernel pt'.view pt'.addresses l

-- where a run begins, the boot file's processes with their links mirror the first point
abbrev pub StartMirrors : Type 0
StartMirrors = (b : Boot) → Mirrors (first_point b).kernel (first_point b).view (first_point b).addresses (placed_start b)

-- kernels with places that mirror the same point have the same messages, but for those that machines' kernels send themselves,
-- and the same processes but for their queues
abbrev pub PointDetermines : Type 0
PointDetermines =
    (s : OneKernel) (v : View) (a : Addresses) (l m : Placed) → Mirrors s v a l → Mirrors s v a m
    → ((i : MsgId) (x : PlainMessage) → s.bag i ≡ Some x → l.bag i ≡ m.bag i) × ((p : Pid) (x y : Process) → l.processes p ≡ Some x → m.processes p ≡ Some y → record x { queue = y.queue } ≡ y)
