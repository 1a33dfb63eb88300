-- Who waits or moves data on a machine is what the printed lines say.
use Rattle.dm_law_mirror.proofs.Names.{◌≡◌, ◌&&◌, Bool, true, false, not, List, length, refl, ap, ◌∙◌, sym, subst, arith, option_map, Option, None, Some, Pid, MsgId, Message, Boot, IsValid, Step, Leads, Point, first_point, Run, run_always, WorldState, Placed, Mirrors, Record, Resident, KernelKnown, KnownStands, Known, Unknown, Here, Frozen, Incoming, Forward, is_here, Stands, resident_at, is_server, Process, PlainProcess, plain_process}
use Rattle.std.specs.Option.{option_map_or}
use Rattle.dm_process.specs.declared.process.Status.{Status}
use Rattle.dm_process.specs.declared.process.Status.TheVariants.{Moving, Ready, Waiting}
use Rattle.dm_resident.specs.Residents.{process_of, with_queue}
use Rattle.dm_onekernel.specs.Plain.{plain_status}
use Rattle.dm_onekernel.specs.Step.{alive}
use Rattle.dm_kernel.specs.State.{process_in}
use Rattle.dm_law_mirror.proofs.Machines.{machines_are}
use Rattle.dm_law_mirror.proofs.Residents.{OfBoard, OfManager, OfProcess, process_there, server_none, who}
use Rattle.dm_explore.specs.Sights as world
use Rattle.dm_law_runs.specs.Choices.RuleSight as rule
use Rattle.dm_law_runs.proofs.Choices.ByRule.Seen.{any_below_same}

status_same : (s : Status) → world.waits_or_moves s ≡ rule.waits_or_moves (plain_status s)
status_same Ready = refl
status_same (Waiting mask base cap) = refl
status_same (Moving dir owner base own left pending) = refl

-- by the machine, and by the lines
abbrev by_world : Option Process → Bool
by_world o = option_map_or world.is_lingering o false

abbrev by_lines : Point → Pid → Bool
by_lines pt p = option_map_or rule.is_lingering (alive (pt.kernel.processes p)) false

-- a server is no process
none_lingers : (b : Boot) (pt : Point) (l : Placed) (p : Pid) → Run b pt → Mirrors pt.kernel pt.view pt.addresses l → is_server p ≡ true → by_lines pt p ≡ false
none_lingers b pt l p run h on =
    let none : alive (pt.kernel.processes p) ≡ None = h.plain.processes p ∙ ap (option_map plain_process) (server_none b pt l p run h on) in
    ap (λ (o : Option PlainProcess). option_map_or rule.is_lingering o false) none

server_lingers : (b : Boot) (pt : Point) (l : Placed) (p : Pid) (r : Resident) → Run b pt → Mirrors pt.kernel pt.view pt.addresses l → resident_at l p ≡ Some r → ((x : Process) → r ≡ Resident.Process x → ⊥) → false ≡ by_lines pt p
server_lingers b pt l p r run h there other = elim (who p) [
  | OfProcess off ↦ (let (x, is, at) = process_there l p r off there in absurd (other x is))
  | OfBoard at ↦ sym (none_lingers b pt l p run h (ap is_server at))
  | OfManager at ↦ sym (none_lingers b pt l p run h (ap is_server at))
]

resident_lingers : (b : Boot) (pt : Point) (l : Placed) (p : Pid) (r : Resident) (q : List Message) → Run b pt → Mirrors pt.kernel pt.view pt.addresses l → resident_at l p ≡ Some (with_queue q r) → by_world (process_of r) ≡ by_lines pt p
resident_lingers b pt l p (Resident.Process x) q run h there = elim (who p) [
  | OfProcess off ↦
      (let (y, is, at) = process_there l p (Resident.Process (record x { queue = q })) off there in
      let same : record x { queue = q } ≡ y = cc in
      let living : alive (pt.kernel.processes p) ≡ Some (plain_process y) = h.plain.processes p ∙ ap (option_map plain_process) at in
      ap (λ (t : Bool). t && not x.stopped) (status_same x.status)
      ∙ ap (λ (z : Process). rule.is_lingering (plain_process z)) same
      ∙ sym (ap (λ (o : Option PlainProcess). option_map_or rule.is_lingering o false) living))
  | OfBoard at ↦ absurd (let f : Some (Resident.Board l.board) ≡ Some (Resident.Process (record x { queue = q })) = subst (λ (z : Pid). resident_at l z ≡ Some (Resident.Process (record x { queue = q }))) at there in cc)
  | OfManager at ↦ absurd (let f : Some (Resident.Manager l.manager) ≡ Some (Resident.Process (record x { queue = q })) = subst (λ (z : Pid). resident_at l z ≡ Some (Resident.Process (record x { queue = q }))) at there in cc)
]
resident_lingers b pt l p (Resident.Board v) q run h there = server_lingers b pt l p (Resident.Board v) run h there (λ x same. cc)
resident_lingers b pt l p (Resident.Manager g) q run h there = server_lingers b pt l p (Resident.Manager g) run h there (λ x same. cc)

known_lingers : (b : Boot) (pt : Point) (l : Placed) (p : Pid) (queue held : List MsgId) (k : Known) (r : Option KernelKnown) → Run b pt → Mirrors pt.kernel pt.view pt.addresses l → KnownStands l p queue held k r → by_world (process_in r) ≡ (is_here k && by_lines pt p)
known_lingers b pt l p queue held Unknown None run m h = refl
known_lingers b pt l p queue held Here (Some (Record.Here r)) run m h = resident_lingers b pt l p r h.0.0 run m h.0.1
known_lingers b pt l p queue held (Frozen to) (Some (Record.Frozen d)) run m h = refl
known_lingers b pt l p queue held (Incoming from) (Some (Record.Incoming a)) run m h = refl
known_lingers b pt l p queue held (Forward to moves) (Some (Record.Forward at n)) run m h = refl
known_lingers b pt l p queue held k r run m h = absurd h

pub lingers_said : (b : Boot) (es : List Step) (w : WorldState) (pt : Point) → IsValid b → Leads b (first_point b) es pt → Stands b w pt → (p : Pid) → world.world_lingers (length b.machines) w p ≡ (rule.rule_sight (length b.machines) pt).lingers p
lingers_said b es w pt valid leads stands p =
    let ((l, hist, s), counts) = stands in
    let machines = machines_are b es pt leads in
    any_below_same (length b.machines) (λ m. by_world (process_in ((w.nodes m).kernel.records p))) (rule.lingers_on pt p) (λ m less.
    known_lingers b pt l p (pt.view.queue m p) (pt.view.held m p) (pt.view.known m p) ((w.nodes m).kernel.records p) (run_always b es pt valid leads).run s.mirrors ((s.nodes m (omega (arith, less, machines))).kernel.known p))
