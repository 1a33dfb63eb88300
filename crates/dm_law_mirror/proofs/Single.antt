-- Elementary directives, one by one.
use Rattle.dm_law_mirror.proofs.Names.{◌≡◌, ℕ, List, [], ◌∷◌, ◌++◌, length, refl, ap, ◌∙◌, sym, subst, arith, map-append, All-nil, Boot, IsValid, received_once, Step, Directive, Line, Todo, all_of, next_step, IsKept, IsRun, IsStep, Leads}
use Rattle.dm_law_mirror.proofs.Names.{Point, first_point, stands_once_always, WorldState, MayStep, AreReadBack, gave, IsTwo, IsTodo, GoesOn, StepsStand, ones, Ran, RanBegins, RanGoesOn, RunIsRan, ◌+◌, ◌<◌, pid_of, first_number}
use Rattle.dm_law_mirror.proofs.Names.{EndLine, joined_below, list_line, first_with, pair_home, Run, Placed, History, StandsWith, MadeStands, EndIsSaid, Pid, manager, switchboard, standing_of, seen_at}
use Rattle.dm_law_rule.specs.Ends as rule
use Rattle.dm_law_rule.specs.Spots as spots
use Rattle.dm_world.specs.Ends as world
use Rattle.dm_law_mirror.proofs.Going.{leads_last, replays_last, run_last, run_behind}
use Rattle.dm_law_mirror.proofs.Machines.{machines_group, made_always}
use Rattle.dm_law_mirror.proofs.May.{acts_start, acts_step}
use Rattle.dm_law_mirror.proofs.Next.{machines_stay, next_fits}
use Rattle.dm_law_mirror.proofs.Readable.{readable_step}
use Rattle.dm_law_mirror.proofs.Lasting.{ServersLast}
use Rattle.dm_law_mirror.proofs.Starting.{start_stands}
use Rattle.dm_law_mirror.proofs.Staying.{kernel_stays}
use Rattle.dm_law_mirror.proofs.Deliver.Outs.{first_readable}
use Rattle.dm_law_mirror.proofs.End.Processes.{IsOfHome, holding_said, no_server, process_said, queue_said, servers_said}
use Rattle.dm_law_mirror.proofs.End.Servers.{stream_said, homes_same, machines_same, names_are}

pub ran_begins : RanBegins
ran_begins b valid = record {
  good = record { run = (refl, refl); replays = refl; received = λ i. omega arith };
  leads = refl;
  stands = start_stands b valid;
  able = acts_start b valid;
  readable = first_readable b;
}

-- the run so far, with one more directive behind it
run_before : (b : Boot) (es : List Step) (gs : List (List Line)) (pt : Point) (e : Step) → IsRun b (first_point b) (all_of (ones es)) gs pt (all_of []) → IsRun b (first_point b) (all_of (ones (es ++ e ∷ []))) gs pt (all_of (Directive.One e ∷ []))
run_before b es gs pt e run =
    subst (λ (ds : List Directive). IsRun b (first_point b) (all_of ds) gs pt (all_of (Directive.One e ∷ []))) (sym (map-append Directive.One es (e ∷ [])))
    (run_behind b gs (first_point b) pt (all_of (ones es)) (all_of []) (Directive.One e ∷ []) run)

-- where the machines do what the rule says, it goes on
single_on : (b : Boot) (es : List Step) (gs : List (List Line)) (pt : Point) (w : WorldState) (e : Step) → IsValid b → Ran b es gs pt w → IsStep (length b.machines) e → MayStep b w e → (g : GoesOn b w pt e) → AreReadBack (gave b w e)
    → Ran b (es ++ e ∷ []) (gs ++ g.said.lines ∷ []) g.group.point g.said.state
single_on b es gs pt w e valid r fits may g again =
    let on = leads_last b es (first_point b) pt e g.group r.leads (subst (λ (k : ℕ). IsStep k e) (sym (machines_stay b es pt valid r.leads)) fits) g.due in
    let lines = sym g.lines in
    let replays = replays_last b gs pt e g.group g.said.lines r.good.replays g.due lines in
    let ((l, h, stands), count) = g.stands in
    let kept : IsKept b g.group.point = record { once = λ id. stands_once_always b (es ++ e ∷ []) g.group.point id valid on; counts = stands.counts } in
    search (
      run_last b gs (first_point b) pt (all_of (ones (es ++ e ∷ []))) (all_of (Directive.One e ∷ [])) (record { step = e; left = all_of [] }) g.group g.said.lines (run_before b es gs pt e r.good.run) refl g.due lines kept,
      received_once,
      acts_step kernel_stays b w e g.said valid may g.happens r.able,
      readable_step b w e g.said may g.happens again r.readable,
    )

pub ran_goes_on_by : StepsStand → RanGoesOn
ran_goes_on_by steps b es gs pt w e valid r fits =
    let (may, does) = steps b es w pt e valid r.leads r.stands r.able r.readable fits in
    record { may = may; steps = does; on = λ g. single_on b es gs pt w e valid r fits may g }

-- the elementary directives of a run
record Elements (b : Boot) (gs : List (List Line)) (pt end : Point) : Type 0 where
  steps : List Step
  run : IsRun b pt (all_of (ones steps)) gs end (all_of [])
  leads : Leads b pt steps end

elements : (b : Boot) (gs : List (List Line)) (pt end : Point) (t left : Todo) → pt.kernel.machines ≡ length b.machines → IsTodo (length b.machines) t → IsRun b pt t gs end left → Elements b gs pt end
elements b [] pt end t left machines todo run = record { steps = []; run = (run.0, refl); leads = run.0 }
elements b (g ∷ gs) pt end t left machines todo (n, w, next, is, said, kept, rest) =
    let fits = next_fits (length b.machines) (seen_at (length b.machines) pt) t n todo (sym (ap (λ (k : ℕ). next_step k pt t) machines) ∙ next) in
    let more = elements b gs w.point end n.left left (machines_group b pt n.step w is ∙ machines) fits.left rest in
    record {
      steps = n.step ∷ more.steps;
      run = (record { step = n.step; left = all_of (ones more.steps) }, w, refl, is, said, kept, more.run);
      leads = (w, subst (λ (k : ℕ). IsStep k n.step) (sym machines) fits.step, is, more.leads);
    }

pub run_is_ran : RunIsRan
run_is_ran b ds gs pt left w valid fit r =
    let k = elements b gs (first_point b) pt (all_of ds) left refl (record { pairs = All-nil (IsTwo (length b.machines)); machines_ = All-nil _; directives = fit }) r.good.run in (
      k.steps,
      (search),
    )

-- Where everything stands at the end is what the printed lines say.

-- all that is used of a run
record Final (b : Boot) (w : WorldState) (pt : Point) (l : Placed) (h : History) : Type 0 where
  stands : StandsWith b w pt l h
  run : Run b pt
  made : MadeStands pt.kernel
  lasts : ServersLast pt.view

of_home : (b : Boot) (w : WorldState) (pt : Point) (l : Placed) (h : History) (p : Pid) → Final b w pt l h → IsOfHome b w pt l h p
of_home b w pt l h p f = record { stands = f.stands; run = f.run }

made_same : (b : Boot) (w : WorldState) (pt : Point) (l : Placed) (h : History) (m : ℕ) → m < pt.kernel.machines → Final b w pt l h → (w.nodes m).kernel.made ≡ pt.kernel.made m
made_same b w pt l h m below f = (f.stands.nodes m below).kernel.made

streams_said : (b : Boot) (w : WorldState) (pt : Point) (l : Placed) (h : History) → Final b w pt l h
    → joined_below (λ a. joined_below (λ c. world.stream_line w a c) pt.kernel.machines) pt.kernel.machines ≡ rule.stream_lines pt
streams_said b w pt l h f =
    machines_same (λ a. joined_below (λ c. world.stream_line w a c) pt.kernel.machines) (λ a. joined_below (λ c. list_line (EndLine.Stream a c) (spots.untaken (pt.view.pair a c))) pt.kernel.machines) pt.kernel.machines
    (λ a from. machines_same (λ c. world.stream_line w a c) (λ c. list_line (EndLine.Stream a c) (spots.untaken (pt.view.pair a c))) pt.kernel.machines
    (λ c to. stream_said b pt l w h a c (pair_home pt.view a f.run.based.phased.pairs) (λ apart. f.stands.pairs a c from to apart)))

-- what a machine holds for the servers, and for each process
holdings_said : (b : Boot) (w : WorldState) (pt : Point) (l : Placed) (h : History) → Final b w pt l h → joined_below (world.held_lines pt.kernel.machines w) pt.kernel.machines ≡ rule.holding_lines pt
holdings_said b w pt l h f =
    let held : ℕ → Pid → List EndLine = λ m p. list_line (EndLine.Holding m p) (pt.view.held m p) in
    machines_same (world.held_lines pt.kernel.machines w) (λ m. rule.each_holder pt (held m)) pt.kernel.machines
    (λ m below.
    (let of_each : world.homes_with w (world.held_line w m) pt.kernel.machines ≡ rule.each_process pt (held m) =
    homes_same w pt (world.held_line w m) (held m) pt.kernel.machines (λ k less. made_same b w pt l h k less f)
    (λ home n less fewer. holding_said b w pt l h (pid_of home (first_number + n)) (of_home b w pt l h (pid_of home (first_number + n)) f) m below) in
    λ i. holding_said b w pt l h switchboard (of_home b w pt l h switchboard f) m below i ++ holding_said b w pt l h manager (of_home b w pt l h manager f) m below i ++ of_each i))

-- all lines, part by part
abbrev ending : List EndLine → List EndLine → List EndLine → List EndLine → List EndLine → List EndLine → ℕ → List EndLine
ending ps ss qs hs is ts groups = EndLine.Final ∷ ps ++ ss ++ qs ++ hs ++ is ++ ts ++ EndLine.Groups groups ∷ []

end_same : (b : Boot) (w : WorldState) (pt : Point) (l : Placed) (h : History) → Final b w pt l h → world.end_lines b w ≡ rule.end_lines pt
end_same b w pt l h f =
    let n = pt.kernel.machines in
    let machines : length b.machines ≡ n = sym f.run.based.machines in
    let processes : world.homes_with w (world.process_lines b w) n ≡ rule.each_process pt (λ p. rule.process_lines pt p (pt.kernel.processes p)) =
    homes_same w pt (world.process_lines b w) (λ p. rule.process_lines pt p (pt.kernel.processes p)) n (λ m below. made_same b w pt l h m below f)
    (λ home k below fewer. (let p = pid_of home (first_number + k) in process_said b w pt l h p (of_home b w pt l h p f) (no_server home k) (f.made.all home k below fewer))) in
    let queues : world.homes_with w (world.queue_of (length b.machines) w) n ≡ rule.queue_lines pt =
    homes_same w pt (world.queue_of (length b.machines) w) (λ p. rule.queue_at pt.view p (first_with standing_of pt.view p n)) n (λ m below. made_same b w pt l h m below f)
    (λ home k below fewer. (let p = pid_of home (first_number + k) in queue_said b w pt l h p (of_home b w pt l h p f) (f.made.all home k below fewer))) in
    let inboxes : joined_below (λ m. list_line (EndLine.Inbox m) (world.names_of (w.nodes m).kernel.inbox)) n ≡ rule.inbox_lines pt =
    machines_same (λ m. list_line (EndLine.Inbox m) (world.names_of (w.nodes m).kernel.inbox)) (λ m. list_line (EndLine.Inbox m) (pt.view.inbox m)) n
    (λ m below. ap (list_line (EndLine.Inbox m)) (names_are l.bag (pt.view.inbox m) (w.nodes m).kernel.inbox (λ i x there. (f.stands.mirrors.places.message i x there).id) ((f.stands.nodes m below).kernel.inbox))) in
    let servers = servers_said b w pt l h f.stands f.run f.lasts in
    (λ i. ending (world.homes_with w (world.process_lines b w) (machines i)) (world.server_lines b w) (world.homes_with w (world.queue_of (length b.machines) w) (machines i)) (joined_below (world.held_lines (machines i) w) (machines i))
    (joined_below (λ m. list_line (EndLine.Inbox m) (world.names_of (w.nodes m).kernel.inbox)) (machines i)) (joined_below (λ a. joined_below (λ c. world.stream_line w a c) (machines i)) (machines i)) w.groups)
    ∙ (λ i. ending (processes i) (servers i) (queues i) (holdings_said b w pt l h f i) (inboxes i) (streams_said b w pt l h f i) (f.stands.groups i))

-- all that holds wherever the rule leads
abbrev pub RunAlways : Type 0
RunAlways = (b : Boot) (es : List Step) (pt : Point) → IsValid b → Leads b (first_point b) es pt → Run b pt

abbrev pub LastAlways : Type 0
LastAlways = (b : Boot) (es : List Step) (pt : Point) → IsValid b → Leads b (first_point b) es pt → ServersLast pt.view

pub end_is_said_by : RunAlways → LastAlways → EndIsSaid
end_is_said_by runs lasts b es w pt valid leads ((l, h, stands), counts) =
    end_same b w pt l h (record { stands = stands; run = runs b es pt valid leads; made = made_always b es pt valid leads; lasts = lasts b es pt valid leads })
