-- What the laws rest on.
use Rattle.dm_law_mirror.proofs.Names.{◌≡◌, ℕ, ◌<◌, true, List, length, ap, ◌∙◌, sym, subst, inl, nat_le, arith, option_map, Some, nat_tests, length-map, Pid, IsMachine, plain_link, Boot, IsValid, slots_of, Alive, plain_process, PlainProcess}
use Rattle.dm_law_mirror.proofs.Names.{Step, Leads, Point, first_point, run_always, run_group, run_start, format_always, tables_always, Placed, MayStep, AreWhole, WorldState, EndIsSaid, EndMay, RunGoesOn, StepsStand, Steps, History, Stands}
use Rattle.dm_law_mirror.proofs.Names.{StandsWith, RanGoesOn, alive-is, [], ◌∷◌, ◌++◌, refl, GroupNeeds, group_needs, places_follow_by, PlacesFollow, slice_get, before_turn, before_lawful}
use Rattle.dm_onekernel.specs.Step as kernel
use Rattle.dm_law_mirror.proofs.Counts.{counts_few}
use Rattle.dm_law_mirror.proofs.Leave.Asked.{asked_by_manager}
use Rattle.dm_law_mirror.proofs.Deliver.{OthersLawful, may_deliver, goes_of}
use Rattle.dm_law_mirror.proofs.Follow.Asks.{asks_turn}
use Rattle.dm_law_mirror.proofs.Going.{run_goes_on_by, leads_last}
use Rattle.dm_law_mirror.proofs.Single.{ran_goes_on_by, end_is_said_by}
use Rattle.dm_law_mirror.proofs.Machines.{machines_are, made_always}
use Rattle.dm_law_mirror.proofs.May.{all_lawful, may_step_calloff, may_step_migrate, may_step_turn, may_step_tick}
use Rattle.dm_law_mirror.proofs.Call.{calls_turn}
use Rattle.dm_law_mirror.proofs.Ticks.{tick_goes}
use Rattle.dm_law_mirror.proofs.TurnAll.{turns_all}
use Rattle.dm_law_mirror.proofs.Over.{before_stands, before_whole}
use Rattle.dm_law_mirror.proofs.Deliver.Goes.{reads_as, few}
use Rattle.dm_law_mirror.proofs.TurnSteps.{away_goes, call_goes, move_goes, turn_goes}
use Rattle.dm_law_mirror.proofs.Seats.{is_here_is, seat_always, seat_said}
use Rattle.dm_law_mirror.proofs.Lasting.{lasts_always}
use Rattle.dm_law_rule.specs.View.{has_seat}
use Rattle.dm_world.specs.World.{seat_of}
use Rattle.dm_world.specs.May.{MayAskAt}
use Rattle.dm_law_mirror.proofs.Names.{CountsStand, manager, Here, Unknown, Bool, false, None, Some, if◌then◌else◌}
use Rattle.dm_law_mirror.proofs.Come.Answers.{Around}
use Rattle.dm_law_mirror.proofs.End.Processes.{FewAlways, end_may_by}

-- each living process has as many slots as the boot file's format gives
abbrev pub TablesAlways : Type 0
TablesAlways = (b : Boot) (es : List Step) (pt : Point) (p : Pid) (x : PlainProcess) → IsValid b → Leads b (first_point b) es pt → pt.kernel.processes p ≡ Some (Alive x) → length x.links ≡ slots_of b.format

-- as many machines as the boot file has
below : (b : Boot) (es : List Step) (pt : Point) (m : ℕ) → Leads b (first_point b) es pt → m < length b.machines → m < pt.kernel.machines
below b es pt m leads lt = subst (λ (n : ℕ). m < n) (sym (machines_are b es pt leads)) lt

-- what a turn has around it
around_of : TablesAlways → (b : Boot) (es : List Step) (w : WorldState) (pt : Point) (l : Placed) (h : History) → IsValid b → Leads b (first_point b) es pt → StandsWith b w pt l h → Around b pt l
around_of tables b es w pt l h valid leads st = record {
  nodes = λ n lt. ((w.nodes n).kernel, (st.nodes n lt).kernel);
  tables = λ p x there.
      let alive : kernel.alive (pt.kernel.processes p) ≡ Some (plain_process x) = st.mirrors.plain.processes p ∙ ap (option_map plain_process) there in
      sym (length-map x.table (option_map plain_link)) ∙ tables b es pt p (plain_process x) valid leads (alive-is (pt.kernel.processes p) (plain_process x) alive);
}

turn_stands : TablesAlways → (b : Boot) (es : List Step) (w : WorldState) (pt : Point) (m : ℕ) → IsValid b → Leads b (first_point b) es pt → Stands b w pt → m < length b.machines → MayStep b w (Step.Turn m) → AreWhole w (Step.Turn m) → Steps b w pt (Step.Turn m)
turn_stands tables b es w pt m valid leads ((l, h, st), sent) lt may whole =
    let both = run_always b es pt valid leads in
    let within = below b es pt m leads lt in
    let node = st.nodes m within in
    turn_goes run_group b w pt l h m valid both.run both.own may.1.kernel st sent within
    (turns_all b m pt l (λ n. (w.nodes n).kernel.records) (before_turn (w.nodes m).kernel) (search (
      made_always b es pt valid leads,
      sent m within,
      around_of tables b es w pt l h valid leads st,
      before_stands b pt l m (w.nodes m).kernel node.kernel,
      before_lawful (w.nodes m).kernel node.lawful,
      before_whole (w.nodes m).kernel (w.nodes m).kernel.inbox whole,
    )))

-- on the seat, where the manager is here
seat_asks : (b : Boot) (es : List Step) (w : WorldState) (pt : Point) (l : Placed) (h : History) (p : Pid) (to : ℕ) → IsValid b → Leads b (first_point b) es pt → StandsWith b w pt l h → CountsStand w pt → to < length b.machines
    → has_seat pt.view ≡ true → seat_of (length b.machines) w.nodes ≡ Some pt.view.seat → MayAskAt w (Some pt.view.seat) → Steps b w pt (Step.Migrate p to)
seat_asks b es w pt l h p to valid leads st sent lt here seat may =
    let both = run_always b es pt valid leads in
    let m = pt.view.seat in
    let known : pt.view.known m manager ≡ Here = is_here_is (pt.view.known m manager) here in
    let within : m < pt.kernel.machines = both.run.found.known_within m manager (λ e. (let f : Here ≡ Unknown = sym known ∙ e in cc)) in
    let node = st.nodes m within in
    let machine : IsMachine to = let most : nat_le (length b.machines) 16 ≡ true = valid.few_machines in grind (arith, nat_tests) in
    move_goes run_group b w pt l h p to m valid both.run both.own seat (ap (λ (c : Bool). if c then m else 0) here) may.0.kernel.here machine st sent within (below b es pt to leads lt)
    (asks_turn b m pt l (λ n. (w.nodes n).kernel.records) (w.nodes m).kernel (record { run = both.run; mirrors = st.mirrors; stands = node.kernel; own = st.own; tokens = st.tokens; mine = refl; counted = sent m within; seat = refl; here = known }) p to)

move_by : (b : Boot) (es : List Step) (w : WorldState) (pt : Point) (l : Placed) (h : History) (p : Pid) (to : ℕ) (c : Bool) → has_seat pt.view ≡ c → IsValid b → Leads b (first_point b) es pt → StandsWith b w pt l h → CountsStand w pt → to < length b.machines
    → seat_of (length b.machines) w.nodes ≡ (if c then Some pt.view.seat else None) → MayAskAt w (seat_of (length b.machines) w.nodes) → Steps b w pt (Step.Migrate p to)
move_by b es w pt l h p to true here valid leads st sent lt seat may = seat_asks b es w pt l h p to valid leads st sent lt here seat (subst (MayAskAt w) seat may)
move_by b es w pt l h p to false away valid leads st sent lt seat may =
    away_goes b w pt l h p to seat away st sent

move_stands : (b : Boot) (es : List Step) (w : WorldState) (pt : Point) (p : Pid) (m : ℕ) → IsValid b → Leads b (first_point b) es pt → Stands b w pt → m < length b.machines → MayStep b w (Step.Migrate p m) → Steps b w pt (Step.Migrate p m)
move_stands b es w pt p m valid leads ((l, h, st), sent) lt may =
    move_by b es w pt l h p m (has_seat pt.view) refl valid leads st sent lt
    (seat_said b w pt l h (run_always b es pt valid leads).run (seat_always b es pt valid leads) st (has_seat pt.view) refl) may.1

call_stands : (b : Boot) (es : List Step) (w : WorldState) (pt : Point) (p : Pid) (m : ℕ) → IsValid b → Leads b (first_point b) es pt → Stands b w pt → m < length b.machines → MayStep b w (Step.CallOff p m) → Steps b w pt (Step.CallOff p m)
call_stands b es w pt p m valid leads ((l, h, st), sent) lt may =
    let both = run_always b es pt valid leads in
    let within = below b es pt m leads lt in
    let node = st.nodes m within in
    call_goes run_group b w pt l h p m valid both.run both.own may.1.kernel.here st sent within
    (calls_turn b m pt l (λ n. (w.nodes n).kernel.records) (w.nodes m).kernel p (made_always b es pt valid leads)
    (record { run = both.run; mirrors = st.mirrors; stands = node.kernel; own = st.own; tokens = st.tokens; records_here = refl; sent = sent m within }))

-- a delivery
steps_stand_by : FewAlways → TablesAlways → StepsStand
steps_stand_by fews tables b es w pt (Step.Turn m) valid leads stands able readable lt =
    let both = run_always b es pt valid leads in
    let may = may_step_turn b es w pt m valid leads both.run both.own (fews b es pt valid leads stands.0.2.counts) stands able lt in
    (may, λ whole. turn_stands tables b es w pt m valid leads stands lt may whole)
steps_stand_by fews tables b es w pt (Step.Tick m) valid leads ((l, h, s), sent) able readable lt =
    (may_step_tick b w m able lt, λ whole. inl (tick_goes b w pt l h m s sent (below b es pt m leads lt)))
steps_stand_by fews tables b es w pt (Step.Deliver a c k) valid leads ((l, h, s), sent) able readable (a_lt, c_lt, apart) =
    let machines = machines_are b es pt leads in
    let a_in = below b es pt a leads a_lt in
    let c_in = below b es pt c leads c_lt in
    let reads = reads_as b w pt l h a c k valid s a_in c_in apart machines readable in
    let others : OthersLawful w pt c = λ y small o. all_lawful b w c able c_lt y small in (
      (a_lt, c_lt, apart, may_deliver b w pt l h a c k valid (run_always b es pt valid leads).run s sent a_in c_in apart machines others reads),
      (λ whole. inl (goes_of b w pt l h a c k s sent a_in c_in apart (slice_get (h.packets a c) k) refl (few b a pt.kernel.machines valid machines a_in) (few b c pt.kernel.machines valid machines c_in) reads)),
    )
steps_stand_by fews tables b es w pt (Step.Migrate p m) valid leads stands able readable lt =
    let may = may_step_migrate b es w pt p m valid leads (fews b es pt valid leads stands.0.2.counts) stands able lt in
    (may, λ whole. move_stands b es w pt p m valid leads stands lt may)
steps_stand_by fews tables b es w pt (Step.CallOff p m) valid leads stands able readable lt =
    let may = may_step_calloff b es w pt p m valid leads (fews b es pt valid leads stands.0.2.counts) stands able lt in
    (may, λ whole. call_stands b es w pt p m valid leads stands lt may)

few_always : FewAlways
few_always b es pt valid leads counts = counts_few run_start run_group b es pt valid leads (run_always b es pt valid leads).run counts

tables_all : TablesAlways
tables_all b es pt p x valid leads there = (tables_always b es pt valid leads).slots p x there ∙ ap slots_of (format_always b es pt valid leads)

pub steps_stand : StepsStand
steps_stand = steps_stand_by few_always tables_all

pub run_goes_on : RunGoesOn
run_goes_on = run_goes_on_by steps_stand

pub ran_goes_on : RanGoesOn
ran_goes_on = ran_goes_on_by steps_stand

pub end_may : EndMay
end_may = end_may_by few_always

pub end_is_said : EndIsSaid
end_is_said = end_is_said_by (λ b es pt valid leads. (run_always b es pt valid leads).run) lasts_always

-- Wherever the rule leads, a kernel with places goes along.

-- the rule leads here
abbrev Reached : Boot → Point → Type 0
Reached b pt = (es : List Step) × Leads b (first_point b) es pt

needs : (b : Boot) (pt : Point) → IsValid b → Reached b pt → GroupNeeds pt
needs b pt valid (es, leads) =
    let run = (run_always b es pt valid leads).run in
    group_needs pt run.based.pending run.based.unmoved
    (λ i x machine there is. asked_by_manager pt.kernel i x machine is (run.based.fits.messages i x there))

pub places_follow : PlacesFollow
places_follow b es pt valid leads =
    places_follow_by b (Reached b) (λ p h. needs b p valid h) (λ p d w fit is h. (h.0 ++ d ∷ [], leads_last b h.0 (first_point b) p d w h.1 fit is)) es pt valid ([], refl) leads
