-- Where all directives are done, the last of them a settle, nothing is on its way.
use Rattle.dm_law_moves.proofs.Names.{◌≡◌, ◌⊎◌, ℕ, zero, suc, ◌<◌, ◌≤◌, Bool, true, false, List, [], ◌∷◌, ◌++◌, refl, ap, ◌∙◌, sym, subst, inl, inr, arith, if◌then◌else◌, nat_le, Option, None, Some, false≢true, nat_tests, Boot, IsValid}
use Rattle.dm_law_moves.proofs.Names.{Step, Line, Pass, Next, Todo, Two, all_of, begin_pass, below, in_pass, next_and_left, next_delivery, next_directive, next_pass, next_turn, or, pairs_of, pass_begun, settles, none_some}
use Rattle.dm_law_rule.proofs.Names.{Directive}
use Rattle.dm_line.specs.Todo.{is_over}
use Rattle.dm_law_moves.proofs.Names.{takes_turn, IsRun, undelivered, Leads, Point, first_point, is_quiet, passes_quiet, based_always, EndsQuiet, ends_settled, is_settle_directive, Seen, at_rest, following, seen_at}
use Rattle.dm_law_moves.proofs.Settles.PassHas.{settle_begins}

-- what is left ends with a settle, or is one
abbrev Ends : Todo → Type 0
Ends t = (ends_settled t.directives ≡ true) ⊎ ((t.directives ≡ []) × (t.pass ≡ Pass.Settle))

-- behind the first directive
behind_other : (d : Directive) (ds : List Directive) → is_settle_directive d ≡ false → ends_settled (d ∷ ds) ≡ true → ends_settled ds ≡ true
behind_other d [] other e = absurd (false≢true (sym other ∙ e))
behind_other d (c ∷ ds) other e = e

behind_settle : (ds : List Directive) → ends_settled (Directive.Settle ∷ ds) ≡ true → (ends_settled ds ≡ true) ⊎ (ds ≡ [])
behind_settle [] e = inr refl
behind_settle (c ∷ ds) e = inl e

-- the directives of what is left are the same in a pass
pub record Stays (p : Pass) (ds : List Directive) (n : Next) : Type 0 where
  pub pass : n.left.pass ≡ p
  pub directives : n.left.directives ≡ ds

abbrev pub StaysBy : Pass → List Directive → Option Next → Type 0
StaysBy p ds o = (n : Next) → o ≡ Some n → Stays p ds n

turn_or : (t : Todo) (m : ℕ) (ms : List ℕ) (b : Bool) (o : Option Next) → StaysBy t.pass t.directives o → StaysBy t.pass t.directives (if b then next_and_left (Step.Turn m) (record t { pairs = []; machines = ms }) else o)
turn_or t m ms true o h n e =
    let k : Next = record { step = Step.Turn m; left = record t { pairs = []; machines = ms } } in
    let f : k ≡ n = cc in
    subst (Stays t.pass t.directives) f (record { pass = refl; directives = refl })
turn_or t m ms false o h n e = h n e

turn_stays : (takes : ℕ → Bool) (t : Todo) (ms : List ℕ) → StaysBy t.pass t.directives (next_turn takes t ms)
turn_stays takes t [] n e = cc
turn_stays takes t (m ∷ ms) n e = turn_or t m ms (takes m) (next_turn takes t ms) (turn_stays takes t ms) n e

pub pass_stays : (seen : Seen) (t : Todo) (o : Option (Step × List Two)) → StaysBy t.pass t.directives (in_pass seen t o)
pass_stays seen t None n e = turn_stays (takes_turn t.pass seen) t t.machines n e
pass_stays seen t (Some d) n e =
    let k : Next = record { step = d.0; left = record t { pairs = d.1 } } in
    let f : k ≡ n = cc in
    subst (Stays t.pass t.directives) f (record { pass = refl; directives = refl })

ends_as : (p : Pass) (ds : List Directive) (n : Next) → Stays p ds n → (ends_settled ds ≡ true) ⊎ ((ds ≡ []) × (p ≡ Pass.Settle)) → Ends n.left
ends_as p ds n s (inl e) = inl (ap ends_settled s.directives ∙ e)
ends_as p ds n s (inr e) = inr (s.directives ∙ e.0, s.pass ∙ e.1)

begin_ends : (machines : ℕ) (seen : Seen) (p : Pass) (ds : List Directive) (n : Next) → begin_pass machines seen p ds ≡ Some n → (ends_settled ds ≡ true) ⊎ ((ds ≡ []) × (p ≡ Pass.Settle)) → Ends n.left
begin_ends machines seen p ds n e h = ends_as p ds n (pass_stays seen (pass_begun machines p ds) (next_delivery seen.first (pairs_of (below machines) (below machines))) n e) h

pub or_is : (x y : Option Next) (n : Next) → or x y ≡ Some n → (x ≡ Some n) ⊎ (y ≡ Some n)
or_is None y n e = inr e
or_is (Some k) y n e = inl e

pub settles_is : (quiet : Bool) (x y : Option Next) (n : Next) → settles quiet x y ≡ Some n → (x ≡ Some n) ⊎ (y ≡ Some n)
settles_is true x y n e = inr e
settles_is false x y n e = or_is x y n e

-- what follows keeps it
settle_ends : (ds : List Directive) → (ends_settled ds ≡ true) ⊎ (ds ≡ []) → (ends_settled ds ≡ true) ⊎ ((ds ≡ []) × (Pass.Settle ≡ Pass.Settle))
settle_ends ds (inl e) = inl e
settle_ends ds (inr e) = inr (e, refl)

directive_ends : (machines : ℕ) (seen : Seen) (ds : List Directive) (n : Next) → next_directive machines seen ds ≡ Some n → ends_settled ds ≡ true → Ends n.left
directive_ends machines seen [] n e h = absurd (false≢true h)
directive_ends machines seen (Directive.One s ∷ ds) n e h =
    let k : Next = record { step = s; left = all_of ds } in
    let f : k ≡ n = cc in
    subst (λ (x : Next). Ends x.left) f (inl (behind_other (Directive.One s) ds refl h))
directive_ends machines seen (Directive.Round ∷ ds) n e h = begin_ends machines seen (Pass.Round 0) ds n e (inl (behind_other Directive.Round ds refl h))
directive_ends machines seen (Directive.Spin zero ∷ ds) n e h = directive_ends machines seen ds n e (behind_other (Directive.Spin 0) ds refl h)
directive_ends machines seen (Directive.Spin (suc k) ∷ ds) n e h = begin_ends machines seen (Pass.Round k) ds n e (inl (behind_other (Directive.Spin (suc k)) ds refl h))
directive_ends machines seen (Directive.Rest zero ∷ ds) n e h = directive_ends machines seen ds n e (behind_other (Directive.Rest 0) ds refl h)
directive_ends machines seen (Directive.Rest (suc k) ∷ ds) n e h =
    let rest = behind_other (Directive.Rest (suc k)) ds refl h in
    elim (settles_is (at_rest machines seen) (begin_pass machines seen (Pass.Rest k) ds) (next_directive machines seen ds) n e) [
      | inl begins ↦ begin_ends machines seen (Pass.Rest k) ds n begins (inl rest)
      | inr later ↦ directive_ends machines seen ds n later rest
    ]
directive_ends machines seen (Directive.Settle ∷ ds) n e h =
    elim (settles_is seen.quiet (begin_pass machines seen Pass.Settle ds) (next_directive machines seen ds) n e) [
      | inl begins ↦ begin_ends machines seen Pass.Settle ds n begins (settle_ends ds (behind_settle ds h))
      | inr later ↦ elim (behind_settle ds h) [
        | inl still ↦ directive_ends machines seen ds n later still
        | inr none ↦ absurd (no_directive (sym (ap (next_directive machines seen) none) ∙ later))
      ]
    ]
  where
    no_directive : {n : Next} → None ≡ Some n → ⊥
    no_directive e = cc

later_ends : (machines : ℕ) (seen : Seen) (p : Pass) (ds : List Directive) (n : Next) → next_pass machines seen p ds ≡ Some n → (ends_settled ds ≡ true) ⊎ ((ds ≡ []) × (p ≡ Pass.Settle)) → Ends n.left
later_ends machines seen (Pass.Round zero) ds n e (inl h) = directive_ends machines seen ds n e h
later_ends machines seen (Pass.Round zero) ds n e (inr h) = let f = h.1 in cc
later_ends machines seen (Pass.Round (suc k)) ds n e (inl h) = begin_ends machines seen (Pass.Round k) ds n e (inl h)
later_ends machines seen (Pass.Round (suc k)) ds n e (inr h) = let f = h.1 in cc
later_ends machines seen (Pass.Rest zero) ds n e (inl h) = directive_ends machines seen ds n e h
later_ends machines seen (Pass.Rest zero) ds n e (inr h) = let f = h.1 in cc
later_ends machines seen (Pass.Rest (suc k)) ds n e (inl h) =
    elim (settles_is (at_rest machines seen) (begin_pass machines seen (Pass.Rest k) ds) (next_directive machines seen ds) n e) [
      | inl begins ↦ begin_ends machines seen (Pass.Rest k) ds n begins (inl h)
      | inr later ↦ directive_ends machines seen ds n later h
    ]
later_ends machines seen (Pass.Rest (suc k)) ds n e (inr h) = let f = h.1 in cc
later_ends machines seen Pass.Settle ds n e h =
    elim (settles_is seen.quiet (begin_pass machines seen Pass.Settle ds) (next_directive machines seen ds) n e) [
      | inl begins ↦ begin_ends machines seen Pass.Settle ds n begins h
      | inr later ↦ elim h [
        | inl still ↦ directive_ends machines seen ds n later still
        | inr none ↦ absurd (no_directive (sym (ap (next_directive machines seen) none.0) ∙ later))
      ]
    ]
  where
    no_directive : {n : Next} → None ≡ Some n → ⊥
    no_directive e = cc

pub unless_is : (over : Bool) (x : Option Next) (n : Next) → (if over then None else x) ≡ Some n → x ≡ Some n
unless_is true x n e = none_some n e
unless_is false x n e = e

next_ends : (machines : ℕ) (seen : Seen) (t : Todo) (n : Next) → following machines seen t ≡ Some n → Ends t → Ends n.left
next_ends machines seen t n e h =
    let here = in_pass seen t (next_delivery seen.first t.pairs) in
    elim (or_is (if is_over machines seen t.pass then None else here) (next_pass machines seen t.pass t.directives) n e) [
      | inl found ↦ ends_as t.pass t.directives n (pass_stays seen t (next_delivery seen.first t.pairs) n (unless_is (is_over machines seen t.pass) here n found)) h
      | inr later ↦ later_ends machines seen t.pass t.directives n later h
    ]

run_ends : (b : Boot) (gs : List (List Line)) (pt end : Point) (t left : Todo) → IsRun b pt t gs end left → Ends t → Ends left
run_ends b [] pt end t left run h = subst Ends run.1 h
run_ends b (g ∷ gs) pt end t left (n, w, next_, is, said, kept, rest) h = run_ends b gs w.point end n.left left rest (next_ends pt.kernel.machines (seen_at pt.kernel.machines pt) t n next_ h)

-- nothing follows
pub or_none : (x y : Option Next) → or x y ≡ None → (x ≡ None) × (y ≡ None)
or_none None y e = (refl, e)
or_none (Some k) y e = cc

-- a round has something to do
below_some : (n : ℕ) → 0 < n → (m : ℕ) × (ms : List ℕ) × (below n ≡ m ∷ ms)
below_some zero h = absurd (omega (arith, h))
below_some (suc n) h = first (below n) n
  where
    first : (xs : List ℕ) (n : ℕ) → (m : ℕ) × (ms : List ℕ) × (xs ++ n ∷ [] ≡ m ∷ ms)
    first [] n = (n, [], refl)
    first (x ∷ xs) n = (x, xs ++ n ∷ [], refl)

pub round_none : (machines : ℕ) (seen : Seen) (k : ℕ) (ds : List Directive) (o : Option (Step × List Two)) → 0 < machines → in_pass seen (pass_begun machines (Pass.Round k) ds) o ≡ None → ⊥
round_none machines seen k ds (Some d) some e = cc
round_none machines seen k ds None some e =
    let (m, ms, is) = below_some machines some in
    let t = pass_begun machines (Pass.Round k) ds in
    let f : Some (record { step = Step.Turn m; left = record t { pairs = []; machines = ms } }) ≡ None = sym (ap (next_turn (λ x. true) t) is) ∙ e in
    cc

pub settle_quiet : (quiet : Bool) (x y : Option Next) → settles quiet x y ≡ None → (quiet ≡ false → x ≡ None → ⊥) → quiet ≡ true
settle_quiet true x y e h = refl
settle_quiet false x y e h = absurd (h refl (or_none x y e).0)

-- where neither a pass nor what is behind it follows
pub settles_none : (over : Bool) (x y : Option Next) → settles over x y ≡ None → y ≡ None
settles_none true x y e = e
settles_none false x y e = (or_none x y e).1

over_directives : (b : Boot) (es : List Step) (pt : Point) (machines : ℕ) (ds : List Directive) → 0 < machines → Leads b (first_point b) es pt → next_directive machines (seen_at machines pt) ds ≡ None → ends_settled ds ≡ true → is_quiet machines pt.view ≡ true
over_directives b es pt machines [] some leads e h = absurd (false≢true h)
over_directives b es pt machines (Directive.One s ∷ ds) some leads e h = cc
over_directives b es pt machines (Directive.Round ∷ ds) some leads e h =
    absurd (round_none machines (seen_at machines pt) 0 ds (next_delivery (undelivered pt.view) (pairs_of (below machines) (below machines))) some e)
over_directives b es pt machines (Directive.Spin zero ∷ ds) some leads e h = over_directives b es pt machines ds some leads e (behind_other (Directive.Spin 0) ds refl h)
over_directives b es pt machines (Directive.Spin (suc k) ∷ ds) some leads e h =
    absurd (round_none machines (seen_at machines pt) k ds (next_delivery (undelivered pt.view) (pairs_of (below machines) (below machines))) some e)
over_directives b es pt machines (Directive.Rest zero ∷ ds) some leads e h = over_directives b es pt machines ds some leads e (behind_other (Directive.Rest 0) ds refl h)
over_directives b es pt machines (Directive.Rest (suc k) ∷ ds) some leads e h =
    over_directives b es pt machines ds some leads (settles_none (at_rest machines (seen_at machines pt)) (begin_pass machines (seen_at machines pt) (Pass.Rest k) ds) (next_directive machines (seen_at machines pt) ds) e)
    (behind_other (Directive.Rest (suc k)) ds refl h)
over_directives b es pt machines (Directive.Settle ∷ ds) some leads e h =
    settle_quiet (is_quiet machines pt.view) (begin_pass machines (seen_at machines pt) Pass.Settle ds) (next_directive machines (seen_at machines pt) ds) e
    (λ not_ none. let k = settle_begins b es pt ds machines leads not_ in some_none (sym k.is ∙ none))
  where
    some_none : {n : Next} → Some n ≡ None → ⊥
    some_none e = cc

over_passes : (b : Boot) (es : List Step) (pt : Point) (machines : ℕ) (p : Pass) (ds : List Directive) → 0 < machines → Leads b (first_point b) es pt → next_pass machines (seen_at machines pt) p ds ≡ None → (ends_settled ds ≡ true) ⊎ ((ds ≡ []) × (p ≡ Pass.Settle)) → is_quiet machines pt.view ≡ true
over_passes b es pt machines (Pass.Round zero) ds some leads e (inl h) = over_directives b es pt machines ds some leads e h
over_passes b es pt machines (Pass.Round zero) ds some leads e (inr h) = let f = h.1 in cc
over_passes b es pt machines (Pass.Round (suc k)) ds some leads e h =
    absurd (round_none machines (seen_at machines pt) k ds (next_delivery (undelivered pt.view) (pairs_of (below machines) (below machines))) some e)
over_passes b es pt machines (Pass.Rest zero) ds some leads e (inl h) = over_directives b es pt machines ds some leads e h
over_passes b es pt machines (Pass.Rest zero) ds some leads e (inr h) = let f = h.1 in cc
over_passes b es pt machines (Pass.Rest (suc k)) ds some leads e (inl h) =
    over_directives b es pt machines ds some leads (settles_none (at_rest machines (seen_at machines pt)) (begin_pass machines (seen_at machines pt) (Pass.Rest k) ds) (next_directive machines (seen_at machines pt) ds) e) h
over_passes b es pt machines (Pass.Rest (suc k)) ds some leads e (inr h) = let f = h.1 in cc
over_passes b es pt machines Pass.Settle ds some leads e h =
    settle_quiet (is_quiet machines pt.view) (begin_pass machines (seen_at machines pt) Pass.Settle ds) (next_directive machines (seen_at machines pt) ds) e
    (λ not_ none. let k = settle_begins b es pt ds machines leads not_ in some_none (sym k.is ∙ none))
  where
    some_none : {n : Next} → Some n ≡ None → ⊥
    some_none e = cc

pub some_machines : (b : Boot) (es : List Step) (pt : Point) → IsValid b → Leads b (first_point b) es pt → 0 < pt.kernel.machines
some_machines b es pt valid leads = let same = (based_always b es pt valid leads).machines in let some = least valid.some_machines in omega (arith, same, some)
  where
    least : {n : ℕ} → nat_le 1 n ≡ true → 1 ≤ n
    least {n} e = grind (arith, nat_tests)

pub ends_quiet : EndsQuiet
ends_quiet b es ds gs end left valid leads run over settled =
    let h : Ends left = run_ends b gs (first_point b) end (all_of ds) left run (inl settled) in
    let n = end.kernel.machines in
    let here = in_pass (seen_at n end) left (next_delivery (undelivered end.view) left.pairs) in
    let none = (or_none (if is_over n (seen_at n end) left.pass then None else here) (next_pass n (seen_at n end) left.pass left.directives) over).1 in
    passes_quiet n end.view (over_passes b es end n left.pass left.directives (some_machines b es end valid leads) leads none h)
