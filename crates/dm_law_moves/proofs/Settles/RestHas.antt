-- Where not all is at rest each pass of a rest that begins has something to do.
use Rattle.dm_law_moves.proofs.Names.{◌≡◌, ◌⊎◌, ℕ, zero, suc, Bool, true, false, List, ◌∷◌, is_some, refl, ap, ◌∙◌, sym, inl, inr, if◌then◌else◌, Option, None, Some, false≢true, Boot, Step, Pass, Next, Todo, all_of}
use Rattle.dm_law_rule.proofs.Names.{Directive}
use Rattle.dm_law_moves.proofs.Names.{begin_pass, in_pass, next_delivery, next_directive, next_pass, or, settles, takes_turn, next_step, undelivered, Leads, Point, first_point, has_mail, at_rest, seen_at, IsAtRest, serves_some}
use Rattle.dm_line.specs.Todo.{is_over}
use Rattle.dm_law_moves.proofs.Names.{first_runnable, passes_rest, rest_passes, RestsAlways, IsRestStep, RestGoes, passes_left}
use Rattle.dm_law_moves.proofs.Settles.PassHas.{Begins, begins_by, finds_nothing, no_mail, not_over_midst, over_midst, pass_found, TurnsOf}
use Rattle.dm_law_always.proofs.Calling.{neither}

rest_turns : (n : ℕ) (pt : Point) (p : Pass) (k : ℕ) → p ≡ Pass.Rest k → TurnsOf (IsRestStep pt) (takes_turn p (seen_at n pt))
rest_turns n pt p k is m e = ap (λ (q : Pass). takes_turn q (seen_at n pt) m) (sym is) ∙ e

none_served : {X : Type 0} (o : Option X) → is_some o ≡ false → o ≡ None
none_served None e = refl
none_served (Some x) e = absurd (false≢true (sym e))

nothing_rests : (b : Boot) (es : List Step) (pt : Point) (k : ℕ) (ds : List Directive) (n : ℕ) → Leads b (first_point b) es pt → begin_pass n (seen_at n pt) (Pass.Rest k) ds ≡ None → IsAtRest n pt
nothing_rests b es pt k ds n leads e =
    let h = finds_nothing b es pt (Pass.Rest k) ds n leads e in
    record {
      quiet = record { taken = h.taken; acked = h.acked; inbox = λ m l. no_mail (pt.view.inbox m) (neither (has_mail pt.view m) (serves_some pt m) (h.turns m l)).0 };
      served = λ m l. none_served (first_runnable pt.kernel (pt.view.queue m) (pt.view.ring m)) (neither (has_mail pt.view m) (serves_some pt m) (h.turns m l)).1;
    }

pub rest_begins : (b : Boot) (es : List Step) (pt : Point) (k : ℕ) (ds : List Directive) (n : ℕ) → Leads b (first_point b) es pt → (IsAtRest n pt → ⊥) → Begins (IsRestStep pt) n pt (Pass.Rest k) ds
rest_begins b es pt k ds n leads not_ =
    begins_by (IsRestStep pt) n pt (Pass.Rest k) ds (begin_pass n (seen_at n pt) (Pass.Rest k) ds) (rest_turns n pt (Pass.Rest k) k refl) (λ a c j e. e) refl (λ none. not_ (nothing_rests b es pt k ds n leads none))

pub not_at_rest : (n : ℕ) (pt : Point) (r : Bool) → at_rest n (seen_at n pt) ≡ r → (IsAtRest n pt → ⊥) → at_rest n (seen_at n pt) ≡ false
not_at_rest n pt true e h = absurd (h (passes_rest n pt e))
not_at_rest n pt false e h = e

pub none_if : (over : Bool) → ◌≡◌ {A = Option Next} (if over then None else None) None
none_if true = refl
none_if false = refl

-- where all is at rest what is behind follows
over_next : (n : ℕ) (pt : Point) (k : ℕ) (ds : List Directive) → at_rest n (seen_at n pt) ≡ true → next_pass n (seen_at n pt) (Pass.Rest k) ds ≡ next_directive n (seen_at n pt) ds
over_next n pt zero ds e = refl
over_next n pt (suc k) ds e = ap (λ (q : Bool). settles q (begin_pass n (seen_at n pt) (Pass.Rest k) ds) (next_directive n (seen_at n pt) ds)) e

over_rest : (n : ℕ) (pt : Point) (t : Todo) (k : ℕ) → t.pass ≡ Pass.Rest k → at_rest n (seen_at n pt) ≡ true → next_step n pt t ≡ next_step n pt (all_of t.directives)
over_rest n pt t k is e =
    over_midst n pt t (ap (is_over n (seen_at n pt)) is ∙ e) ∙ ap (λ (p : Pass). next_pass n (seen_at n pt) p t.directives) is ∙ over_next n pt k t.directives e

begins_rest : (n : ℕ) (pt : Point) (k : ℕ) (ds : List Directive) → at_rest n (seen_at n pt) ≡ false → Begins (IsRestStep pt) n pt (Pass.Rest k) ds → RestGoes n pt (passes_left (suc k) ds) k
begins_rest n pt k ds e begin =
    let behind = next_directive n (seen_at n pt) ds in
    record {
      next = begin.next;
      is =
          not_over_midst n pt (passes_left (suc k) ds) e
          ∙ ap (λ (q : Bool). settles q (begin_pass n (seen_at n pt) (Pass.Rest k) ds) behind) e
          ∙ ap (λ (o : Option Next). or o behind) begin.is;
      step = begin.found.step;
      pass = begin.found.pass;
      behind = begin.found.behind;
    }

goes_rest : (n : ℕ) (pt : Point) (t : Todo) (k : ℕ) (o : Option Next) → t.pass ≡ Pass.Rest k → in_pass (seen_at n pt) t (next_delivery (undelivered pt.view) t.pairs) ≡ o → at_rest n (seen_at n pt) ≡ false
    → RestGoes n pt t k ⊎ (next_step n pt t ≡ next_step n pt (passes_left k t.directives))
goes_rest n pt t k None is here e =
    inr (not_over_midst n pt t (ap (is_over n (seen_at n pt)) is ∙ e)
    ∙ ap (λ (o : Option Next). or o (next_pass n (seen_at n pt) t.pass t.directives)) here
    ∙ ap (λ (p : Pass). next_pass n (seen_at n pt) p t.directives) is
    ∙ sym (not_over_midst n pt (passes_left k t.directives) e))
goes_rest n pt t k (Some m) is here e =
    let f = pass_found (IsRestStep pt) n pt t m (rest_turns n pt t.pass k is) (λ a c j e. e) here in
    inl (record {
      next = m;
      is = not_over_midst n pt t (ap (is_over n (seen_at n pt)) is ∙ e) ∙ ap (λ (o : Option Next). or o (next_pass n (seen_at n pt) t.pass t.directives)) here;
      step = f.step;
      pass = f.pass ∙ is;
      behind = f.behind;
    })

-- of the directive
as_passes : (n : ℕ) (pt : Point) (k : ℕ) (ds : List Directive) → next_directive n (seen_at n pt) (Directive.Rest k ∷ ds) ≡ next_pass n (seen_at n pt) (Pass.Rest k) ds
as_passes n pt zero ds = refl
as_passes n pt (suc k) ds = refl

pub rests_always : RestsAlways
rests_always b es pt leads =
    let n = pt.kernel.machines in
    let test = λ (h : IsAtRest n pt → ⊥). not_at_rest n pt (at_rest n (seen_at n pt)) refl h in
    record {
      over = λ t k is r. over_rest n pt t k is (rest_passes n pt r);
      begins = λ k ds not_. begins_rest n pt k ds (test not_) (rest_begins b es pt k ds n leads not_);
      goes = λ t k is not_. goes_rest n pt t k (in_pass (seen_at n pt) t (next_delivery (undelivered pt.view) t.pairs)) is refl (test not_);
      passes = λ k ds. as_passes n pt k ds ∙ sym (ap (λ (o : Option Next). or o (next_pass n (seen_at n pt) (Pass.Rest k) ds)) (none_if (at_rest n (seen_at n pt))));
      behind = λ ds. ap (λ (o : Option Next). or o (next_directive n (seen_at n pt) ds)) (none_if (at_rest n (seen_at n pt)));
    }
