-- What a drill of a boot file's system writes, `run` takes and `check` finds good.
use Rattle.dm_program.proofs.Names.{◌≡◌, ◌≤◌, ◌<◌, ℕ, suc, Bool, true, false, List, [], ◌∷◌, ◌++◌, length, refl, ap, sym, subst, ◌∙◌, arith, inl, inr, Option, None, Some, zero, ◌+◌, ◌*◌, ◌^◌, ◌==◌, nat_lt, if◌then◌else◌, ⊤, nat_le}
use Rattle.dm_program.proofs.Names.{option_map, slice_get, All, All-cons, All-head, All-nil, All-tail, Boot, IsValid, Directive, Pid, World, appended, Status, Done, Worn, IsDrawn, arrival_drawn, behind_process, calloff_drawn, deliver_drawn}
use Rattle.dm_program.proofs.Names.{drawn, move_drawn, process_drawn, round_drawn, stepped, tick_drawn, turn_drawn, append-nil, nat_tests, directives_count, drawn_below, own_fits, Shows, own_drawn, Accepted, directives_of}
use Rattle.dm_program.proofs.Names.{processes_are_valid, starting_at, BootProcess, room_from, listed, starting-last, Line, Todo, LineFits, text_of_lines, Point, IsGood, joined, IsDirective, Open, beginnings_open, HasHome, verdict}
use Rattle.dm_program.proofs.Names.{schedules_are_read, totals_of, DrillIsWhole, DrillWears, text_shown, CanStand, schedule_text, summary, OwnIsWithin, own_for, some_machines, SaysBoot, most_schedule, Outside, OwnSays, ShownSays}
use Rattle.dm_program.proofs.Names.{directives_for, own_report, OwnDrillsAreFor, OwnDrillsCheck, SchedulesAreTaken, by_rule, few_machines}
use Rattle.dm_draw.specs.declared.drill.OwnDrill.{OwnDrill}
use Rattle.dm_draw.specs.declared.drill.Shows.TheVariants as shows
use Rattle.dm_schedule.specs.declared.Directive.TheVariants as directive
use Rattle.dm_schedule.specs.declared.Step.TheVariants as step
use Rattle.dm_program.proofs.DrillsChecked.{each_drawn, from_nothing}
use Rattle.dm_program.proofs.Runs.Fits.{directives_fit}

-- a process is at home on one of so many machines, and its number is one that a schedule can have
abbrev IsNamed : ℕ → Pid → Type 0
IsNamed machines p = (p.home < machines) × (p.num < 2 ^ 32)

-- each process of a boot file is
named_all : (b : Boot) (earlier ps : List BootProcess) → processes_are_valid b earlier ps ≡ true → ((m : ℕ) → m < length b.machines → starting_at m earlier + starting_at m ps ≤ 64) → All (λ (p : BootProcess). IsNamed (length b.machines) p.pid) ps
named_all b earlier [] h few = All-nil (λ (p : BootProcess). IsNamed (length b.machines) p.pid)
named_all b earlier (p ∷ ps) h few =
    let k = listed b earlier p ps h in
    let number = k.number in
    let home = k.home in
    let most = few p.pid.home home in
    All-cons (λ (p : BootProcess). IsNamed (length b.machines) p.pid) p ps (home, omega (arith, number, most)) (named_all b (earlier ++ p ∷ []) ps k.rest (λ m below. let all = few m below in omega (arith, starting-last m earlier p, all)))

pub named : (b : Boot) → IsValid b → All (λ (p : BootProcess). IsNamed (length b.machines) p.pid) b.processes
named b valid = named_all b [] b.processes valid.processes (λ m below. let made = (room_from b m valid below).made in omega (arith, made))

-- the one that is drawn, too
picked : (machines : ℕ) (ps : List BootProcess) (i : ℕ) (p : Pid) → All (λ (q : BootProcess). IsNamed machines q.pid) ps → option_map (λ (q : BootProcess). q.pid) (slice_get ps i) ≡ Some p → IsNamed machines p
picked machines [] i p h e = absurd (cc)
picked machines (q ∷ ps) zero p h e = let is : q.pid ≡ p = cc in subst (IsNamed machines) is (All-head (λ (x : BootProcess). IsNamed machines x.pid) q ps h)
picked machines (q ∷ ps) (suc i) p h e = picked machines ps i p (All-tail (λ (x : BootProcess). IsNamed machines x.pid) q ps h) e

-- what a schedule asks of a directive beside what each that is drawn is
abbrev Further : ℕ → Directive → Type 0
Further machines (directive.One (step.Turn m)) = ⊤
Further machines (directive.One (step.Tick m)) = ⊤
Further machines (directive.One (step.Deliver a b k)) = k < 2 ^ 32
Further machines (directive.One (step.Migrate p m)) = IsNamed machines p
Further machines (directive.One (step.CallOff p m)) = IsNamed machines p
Further machines directive.Round = ⊤
Further machines (directive.Spin n) = ⊤
Further machines directive.Settle = ⊤
Further machines (directive.Rest n) = ⊤

moves_further : (n : ℕ) (o : Option Pid) (x : ℕ) → ((p : Pid) → o ≡ Some p → IsNamed n p) → Further n (move_drawn n o x).directive
moves_further n None x h = tt
moves_further n (Some p) x h = h p refl

calls_further : (n : ℕ) (o : Option Pid) (x : ℕ) → ((p : Pid) → o ≡ Some p → IsNamed n p) → Further n (calloff_drawn n o x).directive
calls_further n None x h = tt
calls_further n (Some p) x h = h p refl

arrives_further : (n x : ℕ) (b : Bool) → Further n (if b then record { directive = directive.One (step.Turn 0); state = x } else deliver_drawn n x).directive
arrives_further n x true = tt
arrives_further n x false = omega (arith, drawn_below 64 (stepped (stepped x)) (omega arith))

own_further : (n : ℕ) (ps : List BootProcess) (x : ℕ) → All (λ (q : BootProcess). IsNamed n q.pid) ps → Further n (own_drawn n ps x).directive
unfolding own_drawn
own_further n ps x each = go (nat_lt (drawn 9 x) 3) (drawn 9 x == 3) (drawn 9 x == 4) (drawn 9 x == 5) (drawn 9 x == 8)
  where
    y : ℕ
    y = stepped x

    p : Option Pid
    p = process_drawn ps y

    z : ℕ
    z = behind_process p y

    pick : (q : Pid) → p ≡ Some q → IsNamed n q
    pick q e = picked n ps (drawn (length ps) y) q each e

    go : (a b c d e : Bool) → Further n (if a then turn_drawn n y else if b then tick_drawn n y else if c then move_drawn n p z else if d then arrival_drawn n y else if e then calloff_drawn n p z else round_drawn y).directive
    go true b c d e = tt
    go false true c d e = tt
    go false false true d e = moves_further n p z pick
    go false false false true e = arrives_further n y (n == 1)
    go false false false false true = calls_further n p z pick
    go false false false false false = tt

stands : (n : ℕ) (d : Directive) → IsDrawn n d → Further n d → CanStand n d
stands n (directive.One (step.Turn m)) h k = h
stands n (directive.One (step.Tick m)) h k = h
stands n (directive.One (step.Deliver a b i)) h k = (h.0, h.1, h.2, k)
stands n (directive.One (step.Migrate p m)) h k = (k.0, k.1, h)
stands n (directive.One (step.CallOff p m)) h k = (k.0, k.1, h)
stands n directive.Round h k = tt
stands n (directive.Spin i) h k = absurd h
stands n directive.Settle h k = tt
stands n (directive.Rest i) h k = absurd h

-- what is drawn for a system can stand in a schedule for its machines
all_stand : (b : Boot) (d : OwnDrill) → IsValid b → All (CanStand (length b.machines)) (directives_for b d)
all_stand b d valid =
    let n = length b.machines in
    each_drawn (CanStand n) (own_drawn n b.processes) d.seed d.lines (λ x. stands n (own_drawn n b.processes x).directive (own_fits n b.processes x (some_machines n valid.some_machines)) (own_further n b.processes x (named b valid)))

read_as : (b : Boot) (d : OwnDrill) → IsValid b → directives_of (schedule_text (directives_for b d)) (length b.machines) ≡ Accepted (directives_for b d)
read_as b d valid = schedules_are_read.read (length b.machines) (directives_for b d) (few_machines (length b.machines) valid.few_machines) (all_stand b d valid)

short : (b : Boot) (d : OwnDrill) → IsValid b → OwnIsWithin d → length (schedule_text (directives_for b d)) ≤ most_schedule
short b d valid within =
    let count : length (directives_for b d) ≡ d.lines = directives_count (own_drawn (length b.machines) b.processes) d.seed d.lines in
    let most = schedules_are_read.short (length b.machines) (directives_for b d) (few_machines (length b.machines) valid.few_machines) (all_stand b d valid) in
    omega (arith, count, most, within)

-- the file of this name is as it was
later_boot : (files later : List ℕ → Option (List ℕ)) (told : Option (List ℕ → Option (List ℕ))) (boot : List ℕ) (b : Boot) → told ≡ Some files → later boot ≡ files boot → SaysBoot told boot b → SaysBoot (Some later) boot b
later_boot files later told boot b is same says =
    let here : SaysBoot (Some files) boot b = subst (λ (f : Option (List ℕ → Option (List ℕ))). SaysBoot f boot b) is says in
    record { bytes = here.bytes; file = record { is = same ∙ here.file.is; within = here.file.within }; says = here.says }

shown_as : (d : OwnDrill) (shown : Shows) (b : Boot) (o : Outside) (s : Status) → d.shows ≡ shown → OwnSays by_rule d b (directives_for b d) o.before o.after o.world s → ShownSays by_rule d shown b (directives_for b d) o.before o.after o.world s
shown_as d shown b o s is says = subst (λ (x : Shows). ShownSays by_rule d x b (directives_for b d) o.before o.after o.world s) is says

pub schedules_are_taken : SchedulesAreTaken
schedules_are_taken boot schedule d o later within is kept says = elim says [
  | inl r ↦
      let wrote : (o.world ≡ None) × (o.after ≡ appended o.before (schedule_text (directives_for r.system d))) = shown_as d shows.Directives r.system o Done is r.says in
      record {
        system = r.system;
        says_boot = r.says_boot;
        holds = record {
          says_boot = later_boot kept.files later o.files boot r.system kept.at_drill kept.boot_is r.says_boot;
          says_directives = record {
            bytes = schedule_text (directives_for r.system d);
            file = record { is = kept.schedule_is ∙ from_nothing o.before o.after (schedule_text (directives_for r.system d)) kept.from_nothing wrote.1; within = short r.system d r.valid within };
            says = read_as r.system d r.valid;
          };
        };
      }
  | inr n ↦ absurd n.why
]

-- a process that is to move is at home on one of the machines
has_home : (n : ℕ) (d : Directive) → CanStand n d → HasHome n d
has_home n (directive.One (step.Turn m)) h = tt
has_home n (directive.One (step.Tick m)) h = tt
has_home n (directive.One (step.Deliver a b k)) h = tt
has_home n (directive.One (step.Migrate p m)) h = h.0
has_home n (directive.One (step.CallOff p m)) h = h.0
has_home n directive.Round h = tt
has_home n (directive.Spin k) h = tt
has_home n directive.Settle h = tt
has_home n (directive.Rest k) h = tt

have_homes : (n : ℕ) (ds : List Directive) → All (CanStand n) ds → All (HasHome n) ds
have_homes n [] h = All-nil (HasHome n)
have_homes n (d ∷ ds) h = All-cons (HasHome n) d ds (has_home n d (All-head (CanStand n) d ds h)) (have_homes n ds (All-tail (CanStand n) d ds h))

pub own_drills_are_for : OwnDrillsAreFor
own_drills_are_for b d valid = directives_fit (length b.machines) (directives_for b d) (own_for b d valid)

-- the groups of such a drill are good, open
groups_open : (b : Boot) (d : OwnDrill) → IsValid b → (groups : List (List Line)) (end : Point) (left : Todo) → IsGood b (directives_for b d) groups end left → All LineFits (joined groups) → verdict b (text_of_lines (joined groups)) ≡ Open (length groups)
groups_open b d valid groups end left good fits =
    let ds = directives_for b d in
    let all : IsGood b ds (groups ++ []) end left = subst (λ (gs : List (List Line)). IsGood b ds gs end left) (sym (append-nil groups)) good in
    beginnings_open b ds groups [] end left (own_drills_are_for b d valid) (have_homes (length b.machines) ds (all_stand b d valid)) all fits

whole_written : (b : Boot) (d : OwnDrill) (before after : Option (List ℕ)) (world : Option World) (w : DrillIsWhole by_rule true (own_report b d) b (directives_for b d) before after world) → before ≡ Some []
    → after ≡ Some (text_of_lines (joined w.groups) ++ summary d.seed (length b.machines) d.lines (totals_of w.groups) w.sums.quiet)
whole_written b d before after world w none =
    from_nothing before after (text_of_lines (joined w.groups) ++ w.last) none w.written
    ∙ ap (λ (t : List ℕ). Some (text_of_lines (joined w.groups) ++ t)) w.sums.is

pub own_drills_check : OwnDrillsCheck
own_drills_check = record {
  done = λ boot d o is none says. elim says [
    | inl r ↦
        let w : DrillIsWhole by_rule true (own_report r.system d) r.system (directives_for r.system d) o.before o.after o.world = shown_as d shows.Groups r.system o Done is r.says in
        record {
          system = r.system;
          says_boot = r.says_boot;
          holds = record {
            printed = text_of_lines (joined w.groups);
            groups = length w.groups;
            totals = totals_of w.groups;
            quiet = w.sums.quiet;
            written = whole_written r.system d o.before o.after o.world w none;
            good = groups_open r.system d r.valid w.groups w.at.end w.at.left w.good w.fits;
          };
        }
    | inr n ↦ absurd n.why
  ];
  worn = λ boot d o from to is none says. elim says [
    | inl r ↦
        let w : DrillWears by_rule true r.system (directives_for r.system d) o.before o.after from to = shown_as d shows.Groups r.system o (Worn from to) is r.says in
        record {
          system = r.system;
          says_boot = r.says_boot;
          holds = record {
            printed = text_of_lines (joined w.groups);
            groups = length w.groups;
            written = from_nothing o.before o.after (text_of_lines (joined w.groups)) none w.written;
            good = groups_open r.system d r.valid w.groups w.wears.at.end w.wears.at.left w.wears.good w.fits;
          };
        }
    | inr n ↦ absurd n.why
  ];
}
