-- Where elementary directives lead the machines: each is at its place, one has the manager at most, and who has ended stays so.
use Rattle.dm_law_mirror.proofs.Names.{◌≡◌, ◌<◌, ℕ, Bool, true, List, [], ◌∷◌, ◌++◌, length, refl, ap, ◌∙◌, sym, subst, inl, inr, arith, is_some, Option, None, Some, Pid, MsgId, Boot, IsValid, Why, manager, Step, Line, Point, first_point, labels, joined}
use Rattle.dm_law_mirror.proofs.Names.{Here, Unknown, Frozen, Incoming, Forward, Known, is_here, Ended, why_ended, Record, Resident, KernelKnown, KnownStands, Placed, here, WorldState, Said, GoesOn, Ran, group_replay, run_always}
use Rattle.dm_kernel.specs.State.{manager_in}
use Rattle.dm_law_one.proofs.Runs.{ended_stays}
use Rattle.dm_law_one.proofs.Servers.{why_ended-is}
use Rattle.dm_law_rule.specs.View.{has_seat}
use Rattle.dm_world.specs.World.{Says, WornOut, seat_of}
use Rattle.dm_run.specs.Went.{Does, Went, begins, goes}
use Rattle.dm_law_runs.proofs.Traces.Printed.{step_same}
use Rattle.dm_law_mirror.proofs.Given.{ran_goes_on}
use Rattle.dm_law_mirror.proofs.Machines.{machines_are}
use Rattle.dm_law_mirror.proofs.Seats.{is_here_is, seat_always, seat_said}
use Rattle.dm_law_mirror.proofs.Single.{ran_begins}

-- elementary directives that were done stand for what the rule has for them
pub record HasRan (b : Boot) (es : List Step) (gs : List (List Line)) (w : WorldState) : Type 0 where
  pub point : Point
  pub ran : Ran b es gs point w

-- what the machines do is what the rule says
pub record RuleSays (b : Boot) (es : List Step) (gs : List (List Line)) (pt : Point) (w : WorldState) (e : Step) (lines : List Line) (u : WorldState) : Type 0 where
  pub goes_ : GoesOn b w pt e
  pub same : goes_.said ≡ record { state = u; lines = lines }
  pub on : Ran b (es ++ e ∷ []) (gs ++ goes_.said.lines ∷ []) goes_.group.point goes_.said.state

pub rule_says : (b : Boot) (es : List Step) (gs : List (List Line)) (pt : Point) (w : WorldState) (e : Step) (lines : List Line) (u : WorldState) → IsValid b → Ran b es gs pt w → Does b w e lines u → RuleSays b es gs pt w e lines u
rule_says b es gs pt w e lines u valid ran d =
    let k = ran_goes_on b es gs pt w e valid ran (step_same (length b.machines) e d.fits) in
    elim (k.steps d.whole) [
      | inl g ↦ record { goes_ = g; same = (let i = g.happens in let j = d.happens in cc); on = k.on g d.again }
      | inr s ↦ absurd (let i = s.happens in let j = d.happens in let bad : Says (record { state = u; lines = lines }) ≡ WornOut s.from s.to = cc in cc)
    ]

one_more : (b : Boot) (es : List Step) (gs : List (List Line)) (w : WorldState) (e : Step) (lines : List Line) (u : WorldState) → IsValid b → HasRan b es gs w → Does b w e lines u → HasRan b (es ++ e ∷ []) (gs ++ lines ∷ []) u
one_more b es gs w e lines u valid h d =
    let r = rule_says b es gs h.point w e lines u valid h.ran d in
    subst (λ (x : Said). HasRan b (es ++ e ∷ []) (gs ++ x.lines ∷ []) x.state) r.same (record { point = r.goes_.group.point; ran = r.on })

pub has_ran : (b : Boot) (es : List Step) (gs : List (List Line)) (w : WorldState) → IsValid b → Went b es gs w → HasRan b es gs w
has_ran b _ _ _ valid begins = record { point = first_point b; ran = ran_begins b valid }
has_ran b _ _ _ valid (goes es gs w e lines u before d) = one_more b es gs w e lines u valid (has_ran b es gs w valid before) d

-- each machine is at its place
pub is_at : (b : Boot) (es : List Step) (gs : List (List Line)) (w : WorldState) (m : ℕ) → IsValid b → Went b es gs w → m < length b.machines → here (w.nodes m) ≡ m
is_at b es gs w m valid went less =
    let h = has_ran b es gs w valid went in
    let machines = machines_are b es h.point h.ran.leads in
    (h.ran.stands.0.2.nodes m (omega (arith, less, machines))).kernel.here

-- a machine has the manager
abbrev pub has_manager : WorldState → ℕ → Bool
has_manager w m = is_some (manager_in ((w.nodes m).kernel.records manager))

-- where the lines say so
has_by : (l : Placed) (queue held : List MsgId) (k : Known) (r : Option KernelKnown) → KnownStands l manager queue held k r → is_some (manager_in r) ≡ is_here k
has_by l queue held Unknown None h = refl
has_by l queue held Here (Some (Record.Here (Resident.Manager g))) h = refl
has_by l queue held Here (Some (Record.Here (Resident.Board v))) h = absurd (let f : Some (Resident.Manager l.manager) ≡ Some (Resident.Board v) = h.0.1 in cc)
has_by l queue held Here (Some (Record.Here (Resident.Process x))) h = absurd (let f : Some (Resident.Manager l.manager) ≡ Some (Resident.Process (record x { queue = h.0.0 })) = h.0.1 in cc)
has_by l queue held (Frozen to) (Some (Record.Frozen d)) h = refl
has_by l queue held (Incoming from) (Some (Record.Incoming a)) h = refl
has_by l queue held (Forward to moves) (Some (Record.Forward at n)) h = refl
has_by l queue held k r h = absurd h

-- and so no other has it
pub seat_only : (b : Boot) (es : List Step) (gs : List (List Line)) (w : WorldState) (m : ℕ) → IsValid b → Went b es gs w → m < length b.machines → has_manager w m ≡ true → seat_of (length b.machines) w.nodes ≡ Some m
seat_only b es gs w m valid went less has =
    let h = has_ran b es gs w valid went in
    let pt = h.point in
    let ((l, hist, stands), counts) = h.ran.stands in
    let machines = machines_are b es pt h.ran.leads in
    let kernel = (stands.nodes m (omega (arith, less, machines))).kernel in
    let same = has_by l (pt.view.queue m manager) (pt.view.held m manager) (pt.view.known m manager) ((w.nodes m).kernel.records manager) (kernel.known manager) in
    let known : pt.view.known m manager ≡ Here = is_here_is (pt.view.known m manager) (sym same ∙ has) in
    let seats = seat_always b es pt valid h.ran.leads in
    let seat : pt.view.seat ≡ m = seats m known in
    let there : has_seat pt.view ≡ true = ap (λ (n : ℕ). is_here (pt.view.known n manager)) seat ∙ ap is_here known in
    seat_said b w pt l hist (run_always b es pt valid h.ran.leads).run seats stands true there ∙ ap Some seat

-- who has ended stays so, for the same reason
pub ended_on : (b : Boot) (es : List Step) (gs : List (List Line)) (w : WorldState) (e : Step) (lines : List Line) (u : WorldState) (p : Pid) (y : Why) → IsValid b → Went b es gs w → Does b w e lines u → w.ended p ≡ Some y → u.ended p ≡ Some y
ended_on b es gs w e lines u p y valid went d over =
    let h = has_ran b es gs w valid went in
    let pt = h.point in
    let r = rule_says b es gs pt w e lines u valid h.ran d in
    let g = r.goes_ in
    let before : pt.kernel.processes p ≡ Some (Ended y) = why_ended-is (pt.kernel.processes p) y (sym (h.ran.stands.0.2.ended p) ∙ over) in
    let behind : g.group.point.kernel.processes p ≡ Some (Ended y) = ended_stays b (labels (joined gs)) (labels g.group.lines) pt.kernel g.group.point.kernel p y valid (h.ran.good.replays, group_replay b pt e g.group g.due) before in
    ap (λ (x : Said). x.state.ended p) (sym r.same) ∙ g.stands.0.2.ended p ∙ ap why_ended behind
