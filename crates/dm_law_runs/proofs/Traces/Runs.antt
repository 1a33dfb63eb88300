-- The verdict on the text of a run by the rule.
use Rattle.dm_law_runs.proofs.Names.{◌≡◌, ◌≢◌, ◌<◌, ℕ, zero, suc, ◌+◌, ◌==◌, Bool, true, false, not, nat_lt, if◌then◌else◌, List, [], ◌∷◌, ◌++◌, length, refl, ap, sym, ◌∙◌, subst, append_assoc, length-append, arith}
use Rattle.std.proofs.Common.{append-nil}
use Rattle.dm_law_runs.proofs.Names.{⊤, codes, All, Option, nat_tests, All-nil, All-cons, All-head, All-tail, Boot, Step, Directive, Line, EndLine, Pass, Two, Todo, Next, all_of, below, pairs_of, here_or_later, next_delivery}
use Rattle.std.proofs.Common.{Some, None}
use Rattle.dm_law_runs.proofs.Names.{pass_begun, takes_turn, next_and_left, next_turn, in_pass, or, begin_pass, settles, next_directive, next_pass, is_over, following, end_lines, next_step, IsRun, IsStep, Spelled, Point}
use Rattle.dm_law_runs.proofs.Names.{first_point, labels, group_of, worn_in, EndFits, LineFits, pieces, line_words, text, text_of_ends, text_of_lines, line_words-are, line_bytes, spelled_bytes}
use Rattle.dm_law_runs.proofs.Names.{pieces_of_line, ones, joined, IsTwo, IsDirective, IsTodo, machines_group, next_fits, head_step, some_piece, heads_read, first_line, head_of_line, is_final, AllHeld, EndsFit, good_verdict}
use Rattle.dm_law_runs.proofs.Names.{text_behind, Open, Ended, can_hold, behind_line, judged_from, verdict, verdict_by, by_rule, led, IsHome, HasHome, TracesAreGood, BeginningsAreOpen, RunsAreEnded}
use Rattle.dm_schedule.specs.declared.Step.TheVariants as step
use Rattle.dm_schedule.specs.declared.Directive.TheVariants as directive
use Rattle.dm_line.specs.declared.line.Line.TheVariants as line
use Rattle.dm_line.specs.declared.end_line.EndLine.TheVariants as end
use Rattle.dm_line.specs.declared.pass.Pass.TheVariants as pass
use Rattle.dm_check.specs.Judge as judge
use Rattle.dm_check.proofs.Judging.{at_text_end, due_ends, due_group, ends_stand, first_of, group_stands, lines_append}
use Rattle.dm_line.specs.Todo.{Seen, at_rest}
use Rattle.dm_law_rule.specs.Good.{seen_at}
use Rattle.dm_law_runs.proofs.Traces.Fulls.{ends_full}
use Rattle.dm_law_runs.proofs.Traces.Groups.{fresh_group, group_head}
use Rattle.dm_law_runs.proofs.Traces.KeptNames.{AreNames, names_always}
use Rattle.dm_law_runs.proofs.Traces.Led.{ends_there, group_there, led_last}

first_is_head : (e : Step) (others : List Line) (rest : List ℕ) → LineFits (line.Head e) → head_of_line (first_line (pieces 10 (text_of_lines (line.Head e ∷ others) ++ rest))) ≡ Some e
unfolding text_of_lines
first_is_head e others rest h =
    let ws : List (List ℕ) = line_words (line.Head e) in
    ap (λ t. head_of_line (first_line (pieces 10 t))) (append_assoc (text (line.Head e)) (text_of_lines others) rest)
    ∙ ap (λ ps. head_of_line (first_line ps)) (pieces_of_line ws (text_of_lines others ++ rest) (line_words-are (line.Head e) h))
    ∙ ap head_of_line (first_of (line_bytes ws) (pieces 10 (text_of_lines others ++ rest)) (some_piece 10 (text_of_lines others ++ rest)))
    ∙ heads_read e (line_bytes ws) h (sym (spelled_bytes ws))

-- a whole group stands
group_judged : (b : Boot) (es : List Step) (pt : Point) (number : ℕ) (e : Step) (w : Spelled) (rest : List ℕ) → led b (first_point b) es ≡ Some pt → can_hold (length b.machines) e ≡ true → group_of b pt e ≡ Some w → worn_in b.numbers pt.view w.lines ≡ None → All LineFits w.lines
    → judged_from (by_rule b) (judge.Head es) number (pieces 10 (text_of_lines w.lines ++ rest)) ≡ judged_from (by_rule b) (judge.Head (es ++ e ∷ [])) (number + length w.lines) (pieces 10 rest)
group_judged b es pt number e w rest there held due fresh fits =
    let (others, begins) = group_head b pt e w due in
    let here : LineFits (line.Head e) = subst (All LineFits) begins fits 0 (line.Head e) (omega arith) in
    let head = ap (λ (ls : List Line). head_of_line (first_line (pieces 10 (text_of_lines ls ++ rest)))) begins ∙ first_is_head e others rest here in
    due_group (by_rule b) es number (pieces 10 (text_of_lines w.lines ++ rest)) e (line.Head e) others head held (group_there b es pt e w there due fresh ∙ ap (λ (ls : List Line). Some ls) begins)
    ∙ ap (λ ls. judged_from (by_rule b) (behind_line ls (es ++ e ∷ [])) number (pieces 10 (text_of_lines w.lines ++ rest))) (sym begins)
    ∙ group_stands (by_rule b) w.lines (es ++ e ∷ []) number rest fits

-- what is said of what is left to do, and goes on with it: the directives that follow are such as a schedule holds
record Follows (machines : ℕ) (P : Todo → Type 0) : Type 0 where
  follows : (seen : Seen) (t : Todo) (n : Next) → P t → following machines seen t ≡ Some n → (can_hold machines n.step ≡ true) × P n.left

fit_first : (a b : List Line) → All LineFits (a ++ b) → All LineFits a × All LineFits b
fit_first [] b h = (All-nil LineFits, h)
fit_first (l ∷ ls) b h =
    let k = fit_first ls b (All-tail LineFits l (ls ++ b) h) in
    (All-cons LineFits l ls (All-head LineFits l (ls ++ b) h) k.0, k.1)

-- the groups of a run stand, and lead there
record Stood (b : Boot) (es : List Step) (gs : List (List Line)) (end : Point) (number : ℕ) (rest : List ℕ) : Type 0 where
  done : List Step
  there : led b (first_point b) done ≡ Some end
  size : length done ≡ length es + length gs
  is : judged_from (by_rule b) (judge.Head es) number (pieces 10 (text_of_lines (joined gs) ++ rest)) ≡ judged_from (by_rule b) (judge.Head done) (number + length (joined gs)) (pieces 10 rest)

run_judged : (b : Boot) (P : Todo → Type 0) → Follows (length b.machines) P → (gs : List (List Line)) (es : List Step) (pt end : Point) (t left : Todo) (number : ℕ) (rest : List ℕ) → led b (first_point b) es ≡ Some pt → pt.kernel.machines ≡ length b.machines → P t
    → All LineFits (joined gs) → IsRun b pt t gs end left → Stood b es gs end number rest
unfolding text_of_lines
run_judged b P f [] es pt end t left number rest there machines p fits run = record {
  done = es;
  there = there ∙ ap (λ (q : Point). Some q) run.0;
  size = omega arith;
  is = ap (λ k. judged_from (by_rule b) (judge.Head es) k (pieces 10 rest)) (omega arith);
}
run_judged b P f (g ∷ gs) es pt end t left number rest there machines p fits (nx, w, is, due, said, kept, more) =
    let (held, q) = f.follows (seen_at (length b.machines) pt) t nx p (sym (ap (λ (k : ℕ). next_step k pt t) machines) ∙ is) in
    let fresh = fresh_group b pt nx.step w due kept.counts in
    let both = fit_first g (joined gs) fits in
    let here : All LineFits w.lines = subst (All LineFits) (sym said) both.0 in
    let later : List ℕ = text_of_lines (joined gs) ++ rest in
    let apart : text_of_lines (g ++ joined gs) ++ rest ≡ text_of_lines w.lines ++ later =
    ap (λ s. s ++ rest) (lines_append g (joined gs)) ∙ append_assoc (text_of_lines g) (text_of_lines (joined gs)) rest ∙ ap (λ ls. text_of_lines ls ++ later) (sym said) in
    let said_length : length w.lines ≡ length g = ap length said in
    let lines : number + length w.lines + length (joined gs) ≡ number + length (g ++ joined gs) = omega (arith, said_length, length-append g (joined gs)) in
    let r : Stood b (es ++ nx.step ∷ []) gs end (number + length w.lines) rest =
    run_judged b P f gs (es ++ nx.step ∷ []) w.point end nx.left left (number + length w.lines) rest (led_last b es (first_point b) pt nx.step w there due) (machines_group b pt nx.step w due ∙ machines) q both.1 more in
    let size : length r.done ≡ length (es ++ nx.step ∷ []) + length gs = r.size in
    record {
      done = r.done;
      there = r.there;
      size = omega (arith, size, length-append es (nx.step ∷ []));
      is =
          ap (λ s. judged_from (by_rule b) (judge.Head es) number (pieces 10 s)) apart
          ∙ group_judged b es pt number nx.step w later there held due fresh here
          ∙ r.is
          ∙ ap (λ k. judged_from (by_rule b) (judge.Head r.done) k (pieces 10 rest)) lines;
    }

-- the lines at the end, behind whole groups
final_first : (es : List EndLine) → (head_of_line (first_line (pieces 10 (text_of_ends (end.Final ∷ es)))) ≡ None) × (is_final (first_line (pieces 10 (text_of_ends (end.Final ∷ es)))) ≡ true)
unfolding text_of_ends head_step pieces
final_first es =
    let some = some_piece 10 (text_of_ends es) in
    let first : first_line (codes "final" ∷ pieces 10 (text_of_ends es)) ≡ Some (codes "final") = first_of (codes "final") (pieces 10 (text_of_ends es)) some in
    let cut : pieces 10 (codes "final" ++ codes "\n" ++ text_of_ends es) ≡ codes "final" ∷ pieces 10 (text_of_ends es) = refl in
    (ap (λ ps. head_of_line (first_line ps)) cut ∙ ap head_of_line first, ap (λ ps. is_final (first_line ps)) cut ∙ ap is_final first)

abbrev behind_first : List EndLine → List EndLine
behind_first [] = []
behind_first (e ∷ es) = es

ends_judged : (b : Boot) (es : List Step) (pt : Point) (number : ℕ) → led b (first_point b) es ≡ Some pt → All EndFits (end_lines pt) → AreNames pt.kernel.switchboard.names
    → judged_from (by_rule b) (judge.Head es) number (pieces 10 (text_of_ends (end_lines pt))) ≡ Ended (length es)
ends_judged b es pt number there fits names =
    let first = final_first (behind_first (end_lines pt)) in
    due_ends (by_rule b) es number (pieces 10 (text_of_ends (end_lines pt))) first.0 first.1
    ∙ ap (λ ls. judged_from (by_rule b) (judge.End ls (length es)) number (pieces 10 (text_of_ends (end_lines pt)))) (ends_there b es pt there)
    ∙ ends_stand (by_rule b) (end_lines pt) (length es) number fits (ends_full pt names)

-- what is left is these elementary directives, which a schedule holds
record LeftOnes (machines : ℕ) (t : Todo) : Type 0 where
  steps : List Step
  is : t ≡ all_of (ones steps)
  held : AllHeld machines steps

ones_follow : (machines : ℕ) → Follows machines (LeftOnes machines)
ones_follow machines = record { follows = λ seen t n p is. by_steps seen n p.steps p.held (sym (ap (following machines seen) p.is) ∙ is) }
  where
    by_steps : (seen : Seen) (n : Next) (es : List Step) → AllHeld machines es → following machines seen (all_of (ones es)) ≡ Some n → (can_hold machines n.step ≡ true) × LeftOnes machines n.left
    by_steps seen n [] held is = absurd (cc)
    by_steps seen n (e ∷ es) held is =
        let one : Next = record { step = e; left = all_of (ones es) } in
        let f : one ≡ n = cc in
        subst (λ (m : Next). (can_hold machines m.step ≡ true) × LeftOnes machines m.left) f
        (All-head (λ d. can_hold machines d ≡ true) e es held, record { steps = es; is = refl; held = All-tail (λ d. can_hold machines d ≡ true) e es held })

pub traces_good : TracesAreGood
unfolding verdict verdict_by
traces_good b bytes n ended h =
    let p : LeftOnes (length b.machines) (all_of (ones h.steps)) = record { steps = h.steps; is = refl; held = h.held } in
    let r : Stood b [] h.groups h.end 1 (text_behind ended (end_lines h.end)) =
    run_judged b (LeftOnes (length b.machines)) (ones_follow (length b.machines)) h.groups [] (first_point b) h.end (all_of (ones h.steps)) (all_of []) 1 (text_behind ended (end_lines h.end)) refl refl p h.fits h.good.run in
    let size : length r.done ≡ length h.groups = r.size ∙ omega arith in
    ap (λ t. judged_from (by_rule b) (judge.Head []) 1 (pieces 10 t)) h.text
    ∙ r.is
    ∙ by_end r.done (1 + length (joined h.groups)) r.there ended h.ends_fit
    ∙ ap (λ k. good_verdict k ended) (size ∙ h.counts)
  where
    by_end : (es : List Step) (number : ℕ) → led b (first_point b) es ≡ Some h.end → (e : Bool) → EndsFit e (end_lines h.end) → judged_from (by_rule b) (judge.Head es) number (pieces 10 (text_behind e (end_lines h.end))) ≡ good_verdict (length es) e
    by_end es number there false fit = at_text_end (by_rule b) (judge.Head es) number
    by_end es number there true fit = ends_judged b es h.end number there fit (names_always b (labels (joined h.groups)) h.end.kernel h.good.replays)

-- what follows in any schedule
abbrev HomeNext : ℕ → Option Next → Type 0
HomeNext machines None = ⊤
HomeNext machines (Some n) = IsHome machines n.step × All (HasHome machines) n.left.directives

abbrev HomeFirst : ℕ → Option (Step × List Two) → Type 0
HomeFirst machines None = ⊤
HomeFirst machines (Some d) = IsHome machines d.0

here_home : (machines : ℕ) (p : Two) (ps : List Two) (o : Option ℕ) (later : Option (Step × List Two)) → HomeFirst machines later → HomeFirst machines (here_or_later p ps o later)
here_home machines p ps None later h = h
here_home machines p ps (Some k) later h = tt

delivery_home : (machines : ℕ) (first : ℕ → ℕ → Option ℕ) (ps : List Two) → HomeFirst machines (next_delivery first ps)
delivery_home machines first [] = tt
delivery_home machines first (p ∷ ps) = here_home machines p ps (first p.from p.to) (next_delivery first ps) (delivery_home machines first ps)

turn_or_later : (machines : ℕ) (t : Todo) (m : ℕ) (ms : List ℕ) (b : Bool) (o : Option Next) → All (HasHome machines) t.directives → HomeNext machines o
    → HomeNext machines (if b then next_and_left (step.Turn m) (record t { pairs = []; machines = ms }) else o)
turn_or_later machines t m ms true o h later = (tt, h)
turn_or_later machines t m ms false o h later = later

turn_home : (machines : ℕ) (takes : ℕ → Bool) (t : Todo) (ms : List ℕ) → All (HasHome machines) t.directives → HomeNext machines (next_turn takes t ms)
turn_home machines takes t [] h = tt
turn_home machines takes t (m ∷ ms) h = turn_or_later machines t m ms (takes m) (next_turn takes t ms) h (turn_home machines takes t ms h)

pass_home : (machines : ℕ) (seen : Seen) (t : Todo) (d : Option (Step × List Two)) → All (HasHome machines) t.directives → HomeFirst machines d → HomeNext machines (in_pass seen t d)
pass_home machines seen t None h k = turn_home machines (takes_turn t.pass seen) t t.machines h
pass_home machines seen t (Some d) h k = (k, h)

begun_home : (machines : ℕ) (seen : Seen) (p : Pass) (ds : List Directive) → All (HasHome machines) ds → HomeNext machines (begin_pass machines seen p ds)
begun_home machines seen p ds h =
    pass_home machines seen (pass_begun machines p ds) (next_delivery seen.first (pairs_of (below machines) (below machines))) h (delivery_home machines seen.first (pairs_of (below machines) (below machines)))

or_home : (machines : ℕ) (x y : Option Next) → HomeNext machines x → HomeNext machines y → HomeNext machines (or x y)
or_home machines None y h k = k
or_home machines (Some n) y h k = h

settles_home : (machines : ℕ) (quiet : Bool) (x y : Option Next) → HomeNext machines x → HomeNext machines y → HomeNext machines (settles quiet x y)
settles_home machines true x y h k = k
settles_home machines false x y h k = or_home machines x y h k

directive_home : (machines : ℕ) (seen : Seen) (ds : List Directive) → All (HasHome machines) ds → HomeNext machines (next_directive machines seen ds)
directive_home machines seen [] h = tt
directive_home machines seen (directive.One s ∷ ds) h = (All-head (HasHome machines) (directive.One s) ds h, All-tail (HasHome machines) (directive.One s) ds h)
directive_home machines seen (directive.Round ∷ ds) h = begun_home machines seen (pass.Round 0) ds (All-tail (HasHome machines) directive.Round ds h)
directive_home machines seen (directive.Spin zero ∷ ds) h = directive_home machines seen ds (All-tail (HasHome machines) (directive.Spin 0) ds h)
directive_home machines seen (directive.Spin (suc n) ∷ ds) h = begun_home machines seen (pass.Round n) ds (All-tail (HasHome machines) (directive.Spin (suc n)) ds h)
directive_home machines seen (directive.Rest zero ∷ ds) h = directive_home machines seen ds (All-tail (HasHome machines) (directive.Rest 0) ds h)
directive_home machines seen (directive.Rest (suc n) ∷ ds) h =
    let rest = All-tail (HasHome machines) (directive.Rest (suc n)) ds h in
    settles_home machines (at_rest machines seen) (begin_pass machines seen (pass.Rest n) ds) (next_directive machines seen ds) (begun_home machines seen (pass.Rest n) ds rest) (directive_home machines seen ds rest)
directive_home machines seen (directive.Settle ∷ ds) h =
    let rest = All-tail (HasHome machines) directive.Settle ds h in
    settles_home machines seen.quiet (begin_pass machines seen pass.Settle ds) (next_directive machines seen ds) (begun_home machines seen pass.Settle ds rest) (directive_home machines seen ds rest)

later_home : (machines : ℕ) (seen : Seen) (p : Pass) (ds : List Directive) → All (HasHome machines) ds → HomeNext machines (next_pass machines seen p ds)
later_home machines seen (pass.Round zero) ds h = directive_home machines seen ds h
later_home machines seen (pass.Round (suc k)) ds h = begun_home machines seen (pass.Round k) ds h
later_home machines seen (pass.Rest zero) ds h = directive_home machines seen ds h
later_home machines seen (pass.Rest (suc k)) ds h =
    settles_home machines (at_rest machines seen) (begin_pass machines seen (pass.Rest k) ds) (next_directive machines seen ds) (begun_home machines seen (pass.Rest k) ds h) (directive_home machines seen ds h)
later_home machines seen pass.Settle ds h =
    settles_home machines seen.quiet (begin_pass machines seen pass.Settle ds) (next_directive machines seen ds) (begun_home machines seen pass.Settle ds h) (directive_home machines seen ds h)

unless_home : (machines : ℕ) (over : Bool) (o : Option Next) → HomeNext machines o → HomeNext machines (if over then None else o)
unless_home machines true o h = tt
unless_home machines false o h = h

next_home : (machines : ℕ) (seen : Seen) (t : Todo) (n : Next) → All (HasHome machines) t.directives → following machines seen t ≡ Some n
    → IsHome machines n.step × All (HasHome machines) n.left.directives
next_home machines seen t n h is =
    let here = in_pass seen t (next_delivery seen.first t.pairs) in
    subst (HomeNext machines) is
    (or_home machines (if is_over machines seen t.pass then None else here) (next_pass machines seen t.pass t.directives)
    (unless_home machines (is_over machines seen t.pass) here (pass_home machines seen t (next_delivery seen.first t.pairs) h (delivery_home machines seen.first t.pairs)))
    (later_home machines seen t.pass t.directives h))

below_test : (m n : ℕ) → m < n → nat_lt m n ≡ true
below_test m n h = grind (arith, nat_tests)

apart_test : (a b : ℕ) → a ≢ b → not (a == b) ≡ true
apart_test a b h = grind (arith, nat_tests)

held_of : (machines : ℕ) (e : Step) → IsStep machines e → IsHome machines e → can_hold machines e ≡ true
held_of machines (step.Turn m) h k = below_test m machines h
held_of machines (step.Tick m) h k = below_test m machines h
held_of machines (step.Deliver a b n) h k = rw (below_test a machines h.0, below_test b machines h.1, apart_test a b h.2) refl
held_of machines (step.Migrate p m) h k = rw (below_test p.home machines k, below_test m machines h) refl
held_of machines (step.CallOff p m) h k = rw (below_test p.home machines k, below_test m machines h) refl

record LeftOfAny (machines : ℕ) (t : Todo) : Type 0 where
  todo : IsTodo machines t
  homes : All (HasHome machines) t.directives

any_follow : (machines : ℕ) → Follows machines (LeftOfAny machines)
any_follow machines = record {
  follows = λ seen t n p is.
      let fits = next_fits machines seen t n p.todo is in
      let homes = next_home machines seen t n p.homes is in
      (held_of machines n.step fits.step homes.0, record { todo = fits.left; homes = homes.1 });
}

any_begins : (machines : ℕ) (ds : List Directive) → All (IsDirective machines) ds → All (HasHome machines) ds → LeftOfAny machines (all_of ds)
any_begins machines ds fit homes = record { todo = record { pairs = All-nil (IsTwo machines); machines_ = All-nil (λ (m : ℕ). m < machines); directives = fit }; homes = homes }

-- the first groups of a run
record Begun (b : Boot) (pt : Point) (t : Todo) (gs : List (List Line)) : Type 0 where
  end : Point
  left : Todo
  run : IsRun b pt t gs end left

begun : (b : Boot) (gs others : List (List Line)) (pt end : Point) (t left : Todo) → IsRun b pt t (gs ++ others) end left → Begun b pt t gs
begun b [] others pt end t left run = record { end = pt; left = t; run = (refl, refl) }
begun b (g ∷ gs) others pt end t left (n, w, is, due, said, kept, more) =
    let r = begun b gs others w.point end n.left left more in
    record { end = r.end; left = r.left; run = (n, w, is, due, said, kept, r.run) }

pub beginnings_open : BeginningsAreOpen
unfolding verdict verdict_by
beginnings_open b ds groups others end left fit homes good fits =
    let r = begun b groups others (first_point b) end (all_of ds) left good.run in
    let s : Stood b [] groups r.end 1 [] =
    run_judged b (LeftOfAny (length b.machines)) (any_follow (length b.machines)) groups [] (first_point b) r.end (all_of ds) r.left 1 [] refl refl (any_begins (length b.machines) ds fit homes) fits r.run in
    let size : length s.done ≡ length groups = s.size ∙ omega arith in
    ap (λ t. judged_from (by_rule b) (judge.Head []) 1 (pieces 10 t)) (sym (append-nil (text_of_lines (joined groups))))
    ∙ s.is
    ∙ at_text_end (by_rule b) (judge.Head s.done) (1 + length (joined groups)) ∙ ap (λ k. Open k) size

pub runs_ended : RunsAreEnded
unfolding verdict verdict_by
runs_ended b ds groups end left fit homes good fits ends_fit =
    let s : Stood b [] groups end 1 (text_of_ends (end_lines end)) =
    run_judged b (LeftOfAny (length b.machines)) (any_follow (length b.machines)) groups [] (first_point b) end (all_of ds) left 1 (text_of_ends (end_lines end)) refl refl (any_begins (length b.machines) ds fit homes) fits good.run in
    let size : length s.done ≡ length groups = s.size ∙ omega arith in
    s.is
    ∙ ends_judged b s.done end (1 + length (joined groups)) s.there ends_fit (names_always b (labels (joined groups)) end.kernel good.replays)
    ∙ ap (λ k. Ended k) size
