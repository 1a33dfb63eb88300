-- From wherever a run stands a rest comes to its end, and what is behind it follows: of its passes as of rounds, but at each place all may
-- be at rest.
use Rattle.dm_law_runs.proofs.Names.{◌≡◌, ℕ, zero, suc, Bool, true, false, List, [], ◌∷◌, length, refl, ap, ◌∙◌, sym, subst, inl, inr, arith, if◌then◌else◌, All, Option, None, Some, cases_Bool, All-head, All-tail, Boot, IsValid, Step, Directive}
use Rattle.dm_law_runs.proofs.Names.{Pass, Two, Todo, Next, begin_pass, below, pairs_of, here_or_later, next_and_left, next_delivery, next_directive, next_turn, takes_turn, in_pass, or, next_pass, settles, undelivered, Point, IsTwo, IsBelow, all_below, all_pairs}
use Rattle.dm_line.specs.Todo.{Seen, at_rest}
use Rattle.dm_law_rule.specs.Good.{seen_at}
use Rattle.dm_law_rule.proofs.RestTests.{passes_rest}
use Rattle.dm_law_moves.proofs.Settles.RestHas.{rests_always}
use Rattle.dm_law_runs.proofs.Delivers.{fewer_wait}
use Rattle.dm_law_runs.proofs.Runs.{From, Stood, between, first_on, follows, goes, same, waits_on}
use Rattle.dm_law_runs.proofs.Settles.{Rest, goes_behind, none_if}

-- so much of a pass is left, so many passes behind it, and then directives
abbrev pub todo : List Two → List ℕ → ℕ → List Directive → Todo
todo ps ms k ds = record { pairs = ps; machines = ms; pass = Pass.Rest k; directives = ds }

abbrev seen : Boot → Point → Seen
seen b pt = seen_at (length b.machines) pt

abbrev rests : Boot → Point → Bool
rests b pt = at_rest (length b.machines) (seen b pt)

-- at each place all is at rest, and what is behind follows, or not
unless_rest : (b : Boot) (pt : Point) (ps : List Two) (ms : List ℕ) (k : ℕ) (ds : List Directive) → Rest b ds → Stood b pt → (rests b pt ≡ false → From b pt (todo ps ms k ds)) → From b pt (todo ps ms k ds)
unless_rest b pt ps ms k ds behind s go = elim (cases_Bool (rests b pt)) [
  | inl r ↦
      let m = pt.kernel.machines in
      let rest = subst (λ (n : ℕ). at_rest n (seen_at n pt) ≡ true) (sym s.machines) r in
      goes_behind b ds pt (todo ps ms k ds) behind s refl ((rests_always b s.steps pt s.leads).over (todo ps ms k ds) k refl (passes_rest m pt rest))
  | inr off ↦ go off
]

-- what follows the pass that is left, and what follows where not all is at rest
abbrev after : Boot → Point → ℕ → List Directive → Option Next
after b pt k ds = next_pass (length b.machines) (seen b pt) (Pass.Rest k) ds

unfolds : (b : Boot) (pt : Point) (ps : List Two) (ms : List ℕ) (k : ℕ) (ds : List Directive) → rests b pt ≡ false → follows b pt (todo ps ms k ds) ≡ or (in_pass (seen b pt) (todo ps ms k ds) (next_delivery (undelivered pt.view) ps)) (after b pt k ds)
unfolds b pt ps ms k ds off = ap (λ (q : Bool). or (if q then None else in_pass (seen b pt) (todo ps ms k ds) (next_delivery (undelivered pt.view) ps)) (after b pt k ds)) off

-- whatever pairs and machines there were
turn_same : (takes : ℕ → Bool) (ps qs : List Two) (all every ms : List ℕ) (k : ℕ) (ds : List Directive) → next_turn takes (todo ps all k ds) ms ≡ next_turn takes (todo qs every k ds) ms
turn_same takes ps qs all every [] k ds = refl
turn_same takes ps qs all every (m ∷ ms) k ds = ap (λ (o : Option Next). if takes m then next_and_left (Step.Turn m) (todo [] ms k ds) else o) (turn_same takes ps qs all every ms k ds)

in_same : (s : Seen) (ps qs : List Two) (ms : List ℕ) (k : ℕ) (ds : List Directive) (o : Option (Step × List Two)) → in_pass s (todo ps ms k ds) o ≡ in_pass s (todo qs ms k ds) o
in_same s ps qs ms k ds (Some d) = refl
in_same s ps qs ms k ds None = turn_same (takes_turn (Pass.Rest k) s) ps qs ms ms ms k ds

-- the turns of a pass
turn_step : (b : Boot) (m : ℕ) (ms : List ℕ) (k : ℕ) (ds : List Directive) (pt : Point) (c : Bool) → IsValid b → IsBelow (length b.machines) m → Stood b pt → rests b pt ≡ false → takes_turn (Pass.Rest k) (seen b pt) m ≡ c
    → ((q : Point) → Stood b q → From b q (todo [] ms k ds)) → From b pt (todo [] (m ∷ ms) k ds)
turn_step b m ms k ds pt true valid small s off takes rest =
    let t = todo [] (m ∷ ms) k ds in
    let e : follows b pt t ≡ Some (record { step = Step.Turn m; left = todo [] ms k ds }) =
    unfolds b pt [] (m ∷ ms) k ds off ∙ ap (λ (q : Bool). or (if q then next_and_left (Step.Turn m) (todo [] ms k ds) else next_turn (takes_turn (Pass.Rest k) (seen b pt)) t ms) (after b pt k ds)) takes in
    goes b pt t (record { step = Step.Turn m; left = todo [] ms k ds }) valid s e small (λ w is next. rest w.point next)
turn_step b m ms k ds pt false valid small s off takes rest =
    let t = todo [] (m ∷ ms) k ds in
    let e : follows b pt t ≡ follows b pt (todo [] ms k ds) =
    unfolds b pt [] (m ∷ ms) k ds off
    ∙ ap (λ (q : Bool). or (if q then next_and_left (Step.Turn m) (todo [] ms k ds) else next_turn (takes_turn (Pass.Rest k) (seen b pt)) t ms) (after b pt k ds)) takes
    ∙ ap (λ (o : Option Next). or o (after b pt k ds)) (turn_same (takes_turn (Pass.Rest k) (seen b pt)) [] [] (m ∷ ms) ms ms k ds)
    ∙ sym (unfolds b pt [] ms k ds off) in
    same b pt t (todo [] ms k ds) s e (rest pt s)

turns_out : (b : Boot) (ms : List ℕ) (k : ℕ) (ds : List Directive) → IsValid b → All (IsBelow (length b.machines)) ms → Rest b ds → ((q : Point) → Stood b q → From b q (todo [] [] k ds)) → (pt : Point) → Stood b pt → From b pt (todo [] ms k ds)
turns_out b [] k ds valid fit behind rest pt s = rest pt s
turns_out b (m ∷ ms) k ds valid fit behind rest pt s =
    unless_rest b pt [] (m ∷ ms) k ds behind s
    (λ off. turn_step b m ms k ds pt (takes_turn (Pass.Rest k) (seen b pt) m) valid (All-head (IsBelow (length b.machines)) m ms fit) s off refl
    (turns_out b ms k ds valid (All-tail (IsBelow (length b.machines)) m ms fit) behind rest))

-- the packets of a pair
pair_step : (b : Boot) (p : Two) (ps : List Two) (ms : List ℕ) (k : ℕ) (ds : List Directive) (pt : Point) (o : Option ℕ) → IsValid b → IsTwo (length b.machines) p → Stood b pt → rests b pt ≡ false → first_on pt p ≡ o → From b pt (todo ps ms k ds)
    → ((q : Point) → Stood b q → suc (waits_on q p) ≡ waits_on pt p → From b q (todo (p ∷ ps) ms k ds)) → From b pt (todo (p ∷ ps) ms k ds)
pair_step b p ps ms k ds pt None valid fit s off first rest again =
    let later = next_delivery (undelivered pt.view) ps in
    let e : follows b pt (todo (p ∷ ps) ms k ds) ≡ follows b pt (todo ps ms k ds) =
    unfolds b pt (p ∷ ps) ms k ds off
    ∙ ap (λ (o : Option ℕ). or (in_pass (seen b pt) (todo (p ∷ ps) ms k ds) (here_or_later p ps o later)) (after b pt k ds)) first
    ∙ ap (λ (o : Option Next). or o (after b pt k ds)) (in_same (seen b pt) (p ∷ ps) ps ms k ds later)
    ∙ sym (unfolds b pt ps ms k ds off) in
    same b pt (todo (p ∷ ps) ms k ds) (todo ps ms k ds) s e rest
pair_step b p ps ms k ds pt (Some j) valid fit s off first rest again =
    let later = next_delivery (undelivered pt.view) ps in
    let e : follows b pt (todo (p ∷ ps) ms k ds) ≡ Some (record { step = Step.Deliver p.from p.to j; left = todo (p ∷ ps) ms k ds }) =
    unfolds b pt (p ∷ ps) ms k ds off ∙ ap (λ (o : Option ℕ). or (in_pass (seen b pt) (todo (p ∷ ps) ms k ds) (here_or_later p ps o later)) (after b pt k ds)) first in
    goes b pt (todo (p ∷ ps) ms k ds) (record { step = Step.Deliver p.from p.to j; left = todo (p ∷ ps) ms k ds }) valid s e (fit.from, fit.to, fit.apart)
    (λ w is next. again w.point next (fewer_wait b pt p.from p.to j w fit.apart first is))

pair_out : (b : Boot) (p : Two) (ps : List Two) (ms : List ℕ) (k : ℕ) (ds : List Directive) (c : ℕ) → IsValid b → IsTwo (length b.machines) p → Rest b ds → ((q : Point) → Stood b q → From b q (todo ps ms k ds)) → (pt : Point) → Stood b pt → waits_on pt p ≡ c
    → From b pt (todo (p ∷ ps) ms k ds)
pair_out b p ps ms k ds zero valid fit behind rest pt s e =
    unless_rest b pt (p ∷ ps) ms k ds behind s (λ off. pair_step b p ps ms k ds pt (first_on pt p) valid fit s off refl (rest pt s) (λ q next f. absurd (omega (arith, e, f))))
pair_out b p ps ms k ds (suc c) valid fit behind rest pt s e =
    unless_rest b pt (p ∷ ps) ms k ds behind s (λ off. pair_step b p ps ms k ds pt (first_on pt p) valid fit s off refl (rest pt s) (λ q next f. pair_out b p ps ms k ds c valid fit behind rest q next (omega (arith, e, f))))

packets_out : (b : Boot) (ps : List Two) (ms : List ℕ) (k : ℕ) (ds : List Directive) → IsValid b → All (IsTwo (length b.machines)) ps → Rest b ds → ((q : Point) → Stood b q → From b q (todo [] ms k ds)) → (pt : Point) → Stood b pt → From b pt (todo ps ms k ds)
packets_out b [] ms k ds valid fit behind rest pt s = rest pt s
packets_out b (p ∷ ps) ms k ds valid fit behind rest pt s =
    pair_out b p ps ms k ds (waits_on pt p) valid (All-head (IsTwo (length b.machines)) p ps fit) behind (packets_out b ps ms k ds valid (All-tail (IsTwo (length b.machines)) p ps fit) behind rest) pt s refl

-- a pass that begins, or has nothing to do
pass_step : (b : Boot) (k : ℕ) (ds : List Directive) (pt : Point) (o : Option Next) → IsValid b → Stood b pt → rests b pt ≡ false → begin_pass (length b.machines) (seen b pt) (Pass.Rest k) ds ≡ o → From b pt (between 0 ds)
    → From b pt (todo (pairs_of (below (length b.machines)) (below (length b.machines))) (below (length b.machines)) k ds) → From b pt (todo [] [] (suc k) ds)
pass_step b k ds pt None valid s off begins behind pass_ =
    let next = next_directive (length b.machines) (seen b pt) ds in
    let e : follows b pt (todo [] [] (suc k) ds) ≡ follows b pt (between 0 ds) =
    unfolds b pt [] [] (suc k) ds off
    ∙ ap (λ (q : Bool). settles q (begin_pass (length b.machines) (seen b pt) (Pass.Rest k) ds) next) off
    ∙ ap (λ (o : Option Next). or o next) begins in
    same b pt (todo [] [] (suc k) ds) (between 0 ds) s e behind
pass_step b k ds pt (Some n) valid s off begins behind pass_ =
    let next = next_directive (length b.machines) (seen b pt) ds in
    let ms = below (length b.machines) in
    let e : follows b pt (todo [] [] (suc k) ds) ≡ follows b pt (todo (pairs_of ms ms) ms k ds) =
    unfolds b pt [] [] (suc k) ds off
    ∙ ap (λ (q : Bool). settles q (begin_pass (length b.machines) (seen b pt) (Pass.Rest k) ds) next) off
    ∙ ap (λ (o : Option Next). or o next) begins
    ∙ sym (ap (λ (o : Option Next). or o (after b pt k ds)) begins)
    ∙ sym (unfolds b pt (pairs_of ms ms) ms k ds off) in
    same b pt (todo [] [] (suc k) ds) (todo (pairs_of ms ms) ms k ds) s e pass_

pub rest_out : (b : Boot) (k : ℕ) (ds : List Directive) → IsValid b → Rest b ds → (pt : Point) → Stood b pt → From b pt (todo [] [] k ds)
rest_out b zero ds valid behind pt s = same b pt (todo [] [] 0 ds) (between 0 ds) s (ap (λ (o : Option Next). or o (next_directive (length b.machines) (seen b pt) ds)) (none_if (rests b pt))) (behind pt s)
rest_out b (suc k) ds valid behind pt s =
    let n = length b.machines in
    unless_rest b pt [] [] (suc k) ds behind s
    (λ off. pass_step b k ds pt (begin_pass n (seen b pt) (Pass.Rest k) ds) valid s off refl (behind pt s)
    (packets_out b (pairs_of (below n) (below n)) (below n) k ds valid (all_pairs n) behind (turns_out b (below n) k ds valid (all_below n) behind (rest_out b k ds valid behind)) pt s))

-- the passes of the directive
pub rest_same : (b : Boot) (pt : Point) (k : ℕ) (ds : List Directive) → follows b pt (between 0 (Directive.Rest k ∷ ds)) ≡ follows b pt (todo [] [] k ds)
rest_same b pt zero ds = sym (ap (λ (o : Option Next). or o (after b pt 0 ds)) (none_if (rests b pt)))
rest_same b pt (suc k) ds = sym (ap (λ (o : Option Next). or o (after b pt (suc k) ds)) (none_if (rests b pt)))
