-- Where all directives are done, the last of them a rest, its passes were gone through, or all is at rest.
use Rattle.dm_law_moves.proofs.Names.{◌≡◌, ◌⊎◌, ℕ, zero, suc, ◌<◌, Bool, true, false, List, [], ◌∷◌, refl, ap, ◌∙◌, sym, subst, inl, inr, if◌then◌else◌, None, Some, false≢true, Boot, Step, Line, Pass, Next, Todo, all_of}
use Rattle.dm_law_rule.proofs.Names.{Directive}
use Rattle.dm_law_moves.proofs.Names.{begin_pass, below, in_pass, next_delivery, next_directive, next_pass, pairs_of, pass_begun, IsRun, undelivered, Leads, Point, first_point, Seen, at_rest, following, seen_at, IsAtRest}
use Rattle.dm_line.specs.Todo.{is_over}
use Rattle.dm_law_moves.proofs.Names.{passes_rest, rest_passes, EndsRested, AreGoneThrough, ends_rested, is_rest_directive}
use Rattle.dm_law_moves.proofs.Settles.RestHas.{rest_begins}
use Rattle.dm_law_moves.proofs.Settles.Rests.EndsQuiet.{Stays, or_is, or_none, pass_stays, round_none, settle_quiet, settles_is, settles_none, some_machines, unless_is}

-- what is left ends with a rest, or is one
abbrev IsRest : Pass → Type 0
IsRest p = (k : ℕ) × (p ≡ Pass.Rest k)

abbrev EndsBy : Pass → List Directive → Type 0
EndsBy p ds = (ends_rested ds ≡ true) ⊎ ((ds ≡ []) × IsRest p)

abbrev Ends : Todo → Type 0
Ends t = EndsBy t.pass t.directives

-- behind the first directive
behind_other : (d : Directive) (ds : List Directive) → is_rest_directive d ≡ false → ends_rested (d ∷ ds) ≡ true → ends_rested ds ≡ true
behind_other d [] other e = absurd (false≢true (sym other ∙ e))
behind_other d (c ∷ ds) other e = e

behind_rest : (n : ℕ) (ds : List Directive) → ends_rested (Directive.Rest n ∷ ds) ≡ true → (ends_rested ds ≡ true) ⊎ (ds ≡ [])
behind_rest n [] e = inr refl
behind_rest n (c ∷ ds) e = inl e

ends_as : (p : Pass) (ds : List Directive) (n : Next) → Stays p ds n → EndsBy p ds → Ends n.left
ends_as p ds n s (inl e) = inl (ap ends_rested s.directives ∙ e)
ends_as p ds n s (inr (none, (k, is))) = inr (s.directives ∙ none, (k, s.pass ∙ is))

begin_ends : (machines : ℕ) (seen : Seen) (p : Pass) (ds : List Directive) (n : Next) → begin_pass machines seen p ds ≡ Some n → EndsBy p ds → Ends n.left
begin_ends machines seen p ds n e h = ends_as p ds n (pass_stays seen (pass_begun machines p ds) (next_delivery seen.first (pairs_of (below machines) (below machines))) n e) h

no_directive : (machines : ℕ) (seen : Seen) (ds : List Directive) (n : Next) → ds ≡ [] → next_directive machines seen ds ≡ Some n → ⊥
no_directive machines seen ds n none e = let f : None ≡ Some n = sym (ap (next_directive machines seen) none) ∙ e in cc

rest_ends : (k : ℕ) (ds : List Directive) → (ends_rested ds ≡ true) ⊎ (ds ≡ []) → EndsBy (Pass.Rest k) ds
rest_ends k ds (inl e) = inl e
rest_ends k ds (inr e) = inr (e, (k, refl))

-- what follows keeps it
directive_ends : (machines : ℕ) (seen : Seen) (ds : List Directive) (n : Next) → next_directive machines seen ds ≡ Some n → ends_rested ds ≡ true → Ends n.left
directive_ends machines seen [] n e h = absurd (false≢true h)
directive_ends machines seen (Directive.One s ∷ ds) n e h =
    let k : Next = record { step = s; left = all_of ds } in
    let f : k ≡ n = cc in
    subst (λ (x : Next). Ends x.left) f (inl (behind_other (Directive.One s) ds refl h))
directive_ends machines seen (Directive.Round ∷ ds) n e h = begin_ends machines seen (Pass.Round 0) ds n e (inl (behind_other Directive.Round ds refl h))
directive_ends machines seen (Directive.Spin zero ∷ ds) n e h = directive_ends machines seen ds n e (behind_other (Directive.Spin 0) ds refl h)
directive_ends machines seen (Directive.Spin (suc k) ∷ ds) n e h = begin_ends machines seen (Pass.Round k) ds n e (inl (behind_other (Directive.Spin (suc k)) ds refl h))
directive_ends machines seen (Directive.Settle ∷ ds) n e h =
    let rest = behind_other Directive.Settle ds refl h in
    elim (settles_is seen.quiet (begin_pass machines seen Pass.Settle ds) (next_directive machines seen ds) n e) [
      | inl begins ↦ begin_ends machines seen Pass.Settle ds n begins (inl rest)
      | inr later ↦ directive_ends machines seen ds n later rest
    ]
directive_ends machines seen (Directive.Rest zero ∷ ds) n e h = directive_ends machines seen ds n e (behind_other (Directive.Rest 0) ds refl h)
directive_ends machines seen (Directive.Rest (suc k) ∷ ds) n e h =
    let rest = behind_rest (suc k) ds h in
    elim (settles_is (at_rest machines seen) (begin_pass machines seen (Pass.Rest k) ds) (next_directive machines seen ds) n e) [
      | inl begins ↦ begin_ends machines seen (Pass.Rest k) ds n begins (rest_ends k ds rest)
      | inr later ↦ elim rest [
        | inl still ↦ directive_ends machines seen ds n later still
        | inr none ↦ absurd (no_directive machines seen ds n none later)
      ]
    ]

-- a pass of something else is no rest's
later_ends : (machines : ℕ) (seen : Seen) (p : Pass) (ds : List Directive) (n : Next) → next_pass machines seen p ds ≡ Some n → EndsBy p ds → Ends n.left
later_ends machines seen (Pass.Round zero) ds n e (inl h) = directive_ends machines seen ds n e h
later_ends machines seen (Pass.Round zero) ds n e (inr (none, (k, is))) = cc
later_ends machines seen (Pass.Round (suc j)) ds n e (inl h) = begin_ends machines seen (Pass.Round j) ds n e (inl h)
later_ends machines seen (Pass.Round (suc j)) ds n e (inr (none, (k, is))) = cc
later_ends machines seen Pass.Settle ds n e (inl h) =
    elim (settles_is seen.quiet (begin_pass machines seen Pass.Settle ds) (next_directive machines seen ds) n e) [
      | inl begins ↦ begin_ends machines seen Pass.Settle ds n begins (inl h)
      | inr later ↦ directive_ends machines seen ds n later h
    ]
later_ends machines seen Pass.Settle ds n e (inr (none, (k, is))) = cc
later_ends machines seen (Pass.Rest zero) ds n e (inl h) = directive_ends machines seen ds n e h
later_ends machines seen (Pass.Rest zero) ds n e (inr (none, is)) = absurd (no_directive machines seen ds n none e)
later_ends machines seen (Pass.Rest (suc j)) ds n e (inl h) =
    elim (settles_is (at_rest machines seen) (begin_pass machines seen (Pass.Rest j) ds) (next_directive machines seen ds) n e) [
      | inl begins ↦ begin_ends machines seen (Pass.Rest j) ds n begins (inl h)
      | inr later ↦ directive_ends machines seen ds n later h
    ]
later_ends machines seen (Pass.Rest (suc j)) ds n e (inr (none, is)) =
    elim (settles_is (at_rest machines seen) (begin_pass machines seen (Pass.Rest j) ds) (next_directive machines seen ds) n e) [
      | inl begins ↦ begin_ends machines seen (Pass.Rest j) ds n begins (inr (none, (j, refl)))
      | inr later ↦ absurd (no_directive machines seen ds n none later)
    ]

next_ends : (machines : ℕ) (seen : Seen) (t : Todo) (n : Next) → following machines seen t ≡ Some n → Ends t → Ends n.left
next_ends machines seen t n e h =
    let here = in_pass seen t (next_delivery seen.first t.pairs) in
    elim (or_is (if is_over machines seen t.pass then None else here) (next_pass machines seen t.pass t.directives) n e) [
      | inl found ↦ ends_as t.pass t.directives n (pass_stays seen t (next_delivery seen.first t.pairs) n (unless_is (is_over machines seen t.pass) here n found)) h
      | inr later ↦ later_ends machines seen t.pass t.directives n later h
    ]

run_ends : (b : Boot) (gs : List (List Line)) (pt end : Point) (t left : Todo) → IsRun b pt t gs end left → Ends t → Ends left
run_ends b [] pt end t left run h = subst Ends run.1 h
run_ends b (g ∷ gs) pt end t left (n, w, next_, is, said, kept, rest) h = run_ends b gs w.point end n.left left rest (next_ends pt.kernel.machines (seen_at pt.kernel.machines pt) t n next_ h)

-- where nothing follows, the test for rest passes, but behind the last pass
not_none : (b : Boot) (es : List Step) (pt : Point) (machines : ℕ) (k : ℕ) (ds : List Directive) → Leads b (first_point b) es pt → at_rest machines (seen_at machines pt) ≡ false → begin_pass machines (seen_at machines pt) (Pass.Rest k) ds ≡ None → ⊥
not_none b es pt machines k ds leads off none =
    let h = rest_begins b es pt k ds machines leads (λ r. false≢true (sym off ∙ rest_passes machines pt r)) in
    let f : Some h.next ≡ None = sym h.is ∙ none in
    cc

over_directives : (b : Boot) (es : List Step) (pt : Point) (machines : ℕ) (ds : List Directive) → 0 < machines → Leads b (first_point b) es pt → next_directive machines (seen_at machines pt) ds ≡ None → ends_rested ds ≡ true → at_rest machines (seen_at machines pt) ≡ true
over_directives b es pt machines [] some leads e h = absurd (false≢true h)
over_directives b es pt machines (Directive.One s ∷ ds) some leads e h = cc
over_directives b es pt machines (Directive.Round ∷ ds) some leads e h =
    absurd (round_none machines (seen_at machines pt) 0 ds (next_delivery (undelivered pt.view) (pairs_of (below machines) (below machines))) some e)
over_directives b es pt machines (Directive.Spin zero ∷ ds) some leads e h = over_directives b es pt machines ds some leads e (behind_other (Directive.Spin 0) ds refl h)
over_directives b es pt machines (Directive.Spin (suc k) ∷ ds) some leads e h =
    absurd (round_none machines (seen_at machines pt) k ds (next_delivery (undelivered pt.view) (pairs_of (below machines) (below machines))) some e)
over_directives b es pt machines (Directive.Settle ∷ ds) some leads e h =
    over_directives b es pt machines ds some leads (settles_none (seen_at machines pt).quiet (begin_pass machines (seen_at machines pt) Pass.Settle ds) (next_directive machines (seen_at machines pt) ds) e) (behind_other Directive.Settle ds refl h)
over_directives b es pt machines (Directive.Rest zero ∷ ds) some leads e h = over_directives b es pt machines ds some leads e (behind_other (Directive.Rest 0) ds refl h)
over_directives b es pt machines (Directive.Rest (suc k) ∷ ds) some leads e h =
    settle_quiet (at_rest machines (seen_at machines pt)) (begin_pass machines (seen_at machines pt) (Pass.Rest k) ds) (next_directive machines (seen_at machines pt) ds) e (not_none b es pt machines k ds leads)

over_passes : (b : Boot) (es : List Step) (pt : Point) (machines : ℕ) (p : Pass) (ds : List Directive) → 0 < machines → Leads b (first_point b) es pt → next_pass machines (seen_at machines pt) p ds ≡ None → ends_rested ds ≡ true → at_rest machines (seen_at machines pt) ≡ true
over_passes b es pt machines (Pass.Round zero) ds some leads e h = over_directives b es pt machines ds some leads e h
over_passes b es pt machines (Pass.Round (suc k)) ds some leads e h =
    absurd (round_none machines (seen_at machines pt) k ds (next_delivery (undelivered pt.view) (pairs_of (below machines) (below machines))) some e)
over_passes b es pt machines Pass.Settle ds some leads e h =
    over_directives b es pt machines ds some leads (settles_none (seen_at machines pt).quiet (begin_pass machines (seen_at machines pt) Pass.Settle ds) (next_directive machines (seen_at machines pt) ds) e) h
over_passes b es pt machines (Pass.Rest zero) ds some leads e h = over_directives b es pt machines ds some leads e h
over_passes b es pt machines (Pass.Rest (suc k)) ds some leads e h =
    over_directives b es pt machines ds some leads (settles_none (at_rest machines (seen_at machines pt)) (begin_pass machines (seen_at machines pt) (Pass.Rest k) ds) (next_directive machines (seen_at machines pt) ds) e) h

-- of a rest that is the last directive
last_pass : (b : Boot) (es : List Step) (pt : Point) (machines : ℕ) (t : Todo) (k : ℕ) (r : Bool) → at_rest machines (seen_at machines pt) ≡ r → Leads b (first_point b) es pt → t.pass ≡ Pass.Rest k → t.directives ≡ []
    → (if is_over machines (seen_at machines pt) t.pass then None else in_pass (seen_at machines pt) t (next_delivery (undelivered pt.view) t.pairs)) ≡ None → next_pass machines (seen_at machines pt) t.pass t.directives ≡ None
    → AreGoneThrough machines pt t ⊎ IsAtRest machines pt
last_pass b es pt machines t k true e leads is behind here later = inr (passes_rest machines pt e)
last_pass b es pt machines t zero false e leads is behind here later =
    let found = in_pass (seen_at machines pt) t (next_delivery (undelivered pt.view) t.pairs) in
    inl (record {
      last = is;
      nothing = sym (ap (λ (q : Bool). if q then None else found) (ap (is_over machines (seen_at machines pt)) is ∙ e)) ∙ here;
      behind = behind;
    })
last_pass b es pt machines t (suc k) false e leads is behind here later =
    let next = sym (ap (λ (p : Pass). next_pass machines (seen_at machines pt) p t.directives) is) ∙ later in
    inr (passes_rest machines pt
    (settle_quiet (at_rest machines (seen_at machines pt)) (begin_pass machines (seen_at machines pt) (Pass.Rest k) t.directives) (next_directive machines (seen_at machines pt) t.directives) next (not_none b es pt machines k t.directives leads)))

pub ends_rested_so : EndsRested
ends_rested_so b es ds gs end left valid leads run over rested =
    let n = end.kernel.machines in
    let here = in_pass (seen_at n end) left (next_delivery (undelivered end.view) left.pairs) in
    let none = or_none (if is_over n (seen_at n end) left.pass then None else here) (next_pass n (seen_at n end) left.pass left.directives) over in
    elim (run_ends b gs (first_point b) end (all_of ds) left run (inl rested)) [
      | inl more ↦ inr (passes_rest n end (over_passes b es end n left.pass left.directives (some_machines b es end valid leads) leads none.1 more))
      | inr (behind, (k, is)) ↦ last_pass b es end n left k (at_rest n (seen_at n end)) refl leads is behind none.0 none.1
    ]
