-- What `drill --trace` writes of its groups, `check` finds good.
use Rattle.dm_program.proofs.Names.{◌≡◌, ◌≤◌, ℕ, suc, Bool, true, false, List, [], ◌∷◌, ◌++◌, length, ap, sym, subst, ◌∙◌, arith, Option, Some, zero, ◌==◌, nat_lt, if◌then◌else◌, All, All-cons, All-nil, All-append, Boot, Directive, World}
use Rattle.dm_program.proofs.Names.{appended, Drill, IsWithin, boot_of_machines, append-nil, drawn_next, drawn_none, Drawn, deliver_drawn, directives_by, drawn, migrate_drawn, round_drawn, state_behind, stepped, tick_drawn, turn_drawn}
use Rattle.dm_program.proofs.Names.{boot_valid, boot_machines, drawn_below, directive_drawn, Line, LineFits, text_of_lines, Point, Todo, IsGood, joined, IsDirective, Open, beginnings_open, HasHome, verdict, totals_of, DrillIsWhole}
use Rattle.dm_program.proofs.Names.{text_shown, summary, directives_of_drill, report_of, all_for, DrillsCheck, DrillsMayStart, IsGoodDrill, IsGoodWornDrill, by_rule}
use Rattle.dm_draw.proofs.Within as within_
use Rattle.dm_program.proofs.Runs.Fits.{directives_fit}

-- a process that is to move is at home on one of the machines
home_fits : (n x : ℕ) → 2 ≤ n → HasHome n (directive_drawn n x).directive
unfolding directive_drawn
home_fits n x least = go (nat_lt (drawn 8 x) 3) (drawn 8 x == 3) (drawn 8 x == 4) (drawn 8 x == 5)
  where
    go : (a b c d : Bool) → HasHome n (if a then turn_drawn n (stepped x) else if b then tick_drawn n (stepped x) else if c then migrate_drawn n (stepped x) else if d then deliver_drawn n (stepped x) else round_drawn (stepped x)).directive
    go true b c d = tt
    go false true c d = tt
    go false false true d = drawn_below n (stepped x) (omega (arith, least))
    go false false false true = tt
    go false false false false = tt

-- what holds of each draw, holds of all directives that are drawn
pub each_drawn : (Holds : Directive → Type 0) (draw : ℕ → Drawn) (x k : ℕ) → ((s : ℕ) → Holds (draw s).directive) → All Holds (directives_by draw x k)
each_drawn Holds draw x zero each = subst (All Holds) (sym (drawn_none draw x)) (All-nil Holds)
each_drawn Holds draw x (suc k) each =
    let d : Directive = (draw (state_behind draw x k)).directive in
    subst (All Holds) (sym (drawn_next draw x k)) (All-append Holds (directives_by draw x k) (d ∷ []) (each_drawn Holds draw x k each) (All-cons Holds d [] (each (state_behind draw x k)) (All-nil Holds)))

-- and each directive is for the machines
each_for : (d : Drill) → IsWithin d → All (IsDirective (length (boot_of_machines d.machines).machines)) (directives_of_drill d)
each_for d within =
    let n = d.machines in
    let ds = directives_of_drill d in
    subst (λ (k : ℕ). All (IsDirective k) ds) (sym (boot_machines n)) (directives_fit n ds (all_for n ds (within_.directives_fit n (directive_drawn n) d.seed d.lines (λ x. within_.directive_fits n x within.least))))

pub drills_may_start : DrillsMayStart
drills_may_start d within = record { valid = boot_valid d.machines within.least within.most; within = each_for d within }

-- the groups of a drill are good, open
groups_open : (d : Drill) → IsWithin d → (groups : List (List Line)) (end : Point) (left : Todo) → IsGood (boot_of_machines d.machines) (directives_of_drill d) groups end left → All LineFits (joined groups) → verdict (boot_of_machines d.machines) (text_of_lines (joined groups)) ≡ Open (length groups)
groups_open d within groups end left good fits =
    let n = d.machines in
    let b = boot_of_machines n in
    let ds = directives_of_drill d in
    let same : length b.machines ≡ n = boot_machines n in
    let homes : All (HasHome (length b.machines)) ds = subst (λ (k : ℕ). All (HasHome k) ds) (sym same) (each_drawn (HasHome n) (directive_drawn n) d.seed d.lines (λ x. home_fits n x within.least)) in
    let all : IsGood b ds (groups ++ []) end left = subst (λ (gs : List (List Line)). IsGood b ds gs end left) (sym (append-nil groups)) good in
    beginnings_open b ds groups [] end left (each_for d within) homes all fits

-- from nothing on, what was appended is what is there
pub from_nothing : (before after : Option (List ℕ)) (bytes : List ℕ) → before ≡ Some [] → after ≡ appended before bytes → after ≡ Some bytes
from_nothing before after bytes none written = written ∙ ap (λ (o : Option (List ℕ)). appended o bytes) none

shown : (trace : Bool) (ls : List Line) → trace ≡ true → text_shown trace ls ≡ text_of_lines ls
shown trace ls e = ap (λ (t : Bool). text_shown t ls) e

whole_checks : (d : Drill) (b : Boot) (ds : List Directive) (before after : Option (List ℕ)) (world : Option World) (w : DrillIsWhole by_rule d.trace (report_of d) b ds before after world) → d.trace ≡ true → before ≡ Some []
    → after ≡ Some (text_of_lines (joined w.groups) ++ summary d.seed d.machines d.lines (totals_of w.groups) w.sums.quiet)
whole_checks d b ds before after world w trace none =
    from_nothing before after (text_shown d.trace (joined w.groups) ++ w.last) none w.written
    ∙ ap (λ (t : List ℕ). Some (t ++ w.last)) (shown d.trace (joined w.groups) trace)
    ∙ ap (λ (t : List ℕ). Some (text_of_lines (joined w.groups) ++ t)) w.sums.is

pub drills_check : DrillsCheck
drills_check = record {
  done = λ d o within trace none says. record {
    printed = text_of_lines (joined says.groups);
    groups = length says.groups;
    totals = totals_of says.groups;
    quiet = says.sums.quiet;
    written = whole_checks d (boot_of_machines d.machines) (directives_of_drill d) o.before o.after o.world says trace none;
    good = groups_open d within says.groups says.at.end says.at.left says.good says.fits;
  };
  worn = λ d o from to within trace none says. record {
    printed = text_of_lines (joined says.groups);
    groups = length says.groups;
    written = from_nothing o.before o.after (text_shown d.trace (joined says.groups)) none says.written ∙ ap Some (shown d.trace (joined says.groups) trace);
    good = groups_open d within says.groups says.wears.at.end says.wears.at.left says.wears.good says.fits;
  };
}
