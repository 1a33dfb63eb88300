-- Where not all is quiet a pass of a settle has something to do.
use Rattle.dm_law_moves.proofs.Names.{◌≡◌, ◌≢◌, ◌⊎◌, ℕ, zero, suc, ◌<◌, ◌≤◌, ◌==◌, Bool, true, false, List, [], ◌∷◌, ◌++◌, length, nat_lt, refl, ap, ◌∙◌, sym, subst, inl, inr, arith, if◌then◌else◌, Option, None, Some, false≢true}
use Rattle.dm_law_moves.proofs.Names.{leb_tells, nat_tests, Boot, Step, Load, Pass, Settle, Next, Todo, Two, all_of, begin_pass, below, here_or_later, in_pass, next_and_left, next_delivery, next_directive, next_pass}
use Rattle.dm_law_rule.proofs.Names.{Directive}
use Rattle.dm_line.specs.Todo.{is_over}
use Rattle.dm_law_moves.proofs.Names.{next_turn, or, pairs_of, pairs_with, pass_begun, settles, takes_turn, first_undelivered, next_step, undelivered, Leads, PairStands, Point, first_point, IsQuiet, is_quiet, Pair, View}
use Rattle.dm_law_moves.proofs.Names.{pairs_stand_always, passes_quiet, quiet_passes, SettlesAlways, IsSettleStep, SettleGoes, PairRests, Seen, seen_at}
use Rattle.dm_law_moves.proofs.Settles.Rests.RestsAlways.{pairs_rest_always}
use Rattle.dm_law_moves.proofs.Settles.Wires.{all_come}

-- what a pass finds is such a step, and what is behind it stays
pub record Found (S : Step → Type 0) (t : Todo) (n : Next) : Type 0 where
  pub step : S n.step
  pub pass : n.left.pass ≡ t.pass
  pub behind : n.left.directives ≡ t.directives

abbrev FoundBy : (Step → Type 0) → Todo → Option Next → Type 0
FoundBy S t o = (n : Next) → o ≡ Some n → Found S t n

-- packets that were never delivered are such steps, and the turns of machines that take theirs
abbrev pub Deliveries : (Step → Type 0) → View → Type 0
Deliveries S v = (a c k : ℕ) → undelivered v a c ≡ Some k → S (Step.Deliver a c k)

abbrev pub TurnsOf : (Step → Type 0) → (ℕ → Bool) → Type 0
TurnsOf S takes = (m : ℕ) → takes m ≡ true → S (Step.Turn m)

abbrev IsDelivery : (Step → Type 0) → Option (Step × List Two) → Type 0
IsDelivery S o = (d : Step × List Two) → o ≡ Some d → S d.0

here_delivery : (S : Step → Type 0) (v : View) (p : Two) (ps : List Two) (o : Option ℕ) (later : Option (Step × List Two)) → Deliveries S v → undelivered v p.from p.to ≡ o → IsDelivery S later → IsDelivery S (here_or_later p ps o later)
here_delivery S v p ps None later each is h d e = h d e
here_delivery S v p ps (Some k) later each is h d e = let f : Step.Deliver p.from p.to k ≡ d.0 = cc in subst S f (each p.from p.to k is)

delivery_found : (S : Step → Type 0) (v : View) (ps : List Two) → Deliveries S v → IsDelivery S (next_delivery (undelivered v) ps)
delivery_found S v [] each d e = cc
delivery_found S v (p ∷ ps) each d e = here_delivery S v p ps (undelivered v p.from p.to) (next_delivery (undelivered v) ps) each refl (delivery_found S v ps each) d e

turn_or : (S : Step → Type 0) (t : Todo) (m : ℕ) (ms : List ℕ) (b : Bool) (o : Option Next) → (b ≡ true → S (Step.Turn m)) → FoundBy S t o → FoundBy S t (if b then next_and_left (Step.Turn m) (record t { pairs = []; machines = ms }) else o)
turn_or S t m ms false o is h n e = h n e
turn_or S t m ms true o is h n e =
    let k : Next = record { step = Step.Turn m; left = record t { pairs = []; machines = ms } } in
    let f : k ≡ n = cc in
    subst (Found S t) f (record { step = is refl; pass = refl; behind = refl })

turn_found : (S : Step → Type 0) (takes : ℕ → Bool) (t : Todo) (ms : List ℕ) → TurnsOf S takes → FoundBy S t (next_turn takes t ms)
turn_found S takes t [] each n e = cc
turn_found S takes t (m ∷ ms) each n e = turn_or S t m ms (takes m) (next_turn takes t ms) (each m) (turn_found S takes t ms each) n e

in_found : (S : Step → Type 0) (seen : Seen) (t : Todo) (o : Option (Step × List Two)) → TurnsOf S (takes_turn t.pass seen) → IsDelivery S o → FoundBy S t (in_pass seen t o)
in_found S seen t None each h n e = turn_found S (takes_turn t.pass seen) t t.machines each n e
in_found S seen t (Some d) each h n e =
    let k : Next = record { step = d.0; left = record t { pairs = d.1 } } in
    let f : k ≡ n = cc in
    subst (Found S t) f (record { step = h d refl; pass = refl; behind = refl })

-- of what is seen at a point
pub pass_found : (S : Step → Type 0) (k : ℕ) (pt : Point) (t : Todo) (n : Next) → TurnsOf S (takes_turn t.pass (seen_at k pt)) → Deliveries S pt.view → in_pass (seen_at k pt) t (next_delivery (undelivered pt.view) t.pairs) ≡ Some n → Found S t n
pass_found S k pt t n turns each e = in_found S (seen_at k pt) t (next_delivery (undelivered pt.view) t.pairs) turns (delivery_found S pt.view t.pairs each) n e

-- the turns of a settle
settle_turns : (k : ℕ) (pt : Point) (p : Pass) → p ≡ Settle → TurnsOf (IsSettleStep pt.view) (takes_turn p (seen_at k pt))
settle_turns k pt p is m e = ap (λ (q : Pass). takes_turn q (seen_at k pt) m) (sym is) ∙ e

-- a list has a machine
abbrev Has : ℕ → List ℕ → Type 0
Has m [] = ⊥
Has m (x ∷ xs) = (x ≡ m) ⊎ Has m xs

has_left : (m : ℕ) (xs ys : List ℕ) → Has m xs → Has m (xs ++ ys)
has_left m [] ys h = absurd h
has_left m (x ∷ xs) ys (inl e) = inl e
has_left m (x ∷ xs) ys (inr h) = inr (has_left m xs ys h)

has_end : (m : ℕ) (xs : List ℕ) → Has m (xs ++ m ∷ [])
has_end m [] = inl refl
has_end m (x ∷ xs) = inr (has_end m xs)

has_below : (m n : ℕ) → m < n → Has m (below n)
has_below m zero h = absurd (omega (arith, h))
has_below m (suc n) h = elim (leb_tells (suc m) n) [
  | inl e ↦ has_left m (below n) (n ∷ []) (has_below m n e.1)
  | inr e ↦ let last : n ≡ m = (let x = e.1 in omega (arith, h, x)) in subst (λ (k : ℕ). Has k (below n ++ n ∷ [])) last (has_end n (below n))
]

-- no delivery of some pairs
none_here : (p : Two) (ps : List Two) (o : Option ℕ) (later : Option (Step × List Two)) → here_or_later p ps o later ≡ None → (o ≡ None) × (later ≡ None)
none_here p ps None later e = (refl, e)
none_here p ps (Some k) later e = cc

none_two : (first : ℕ → ℕ → Option ℕ) (ps qs : List Two) → next_delivery first (ps ++ qs) ≡ None → (next_delivery first ps ≡ None) × (next_delivery first qs ≡ None)
none_two first [] qs e = (refl, e)
none_two first (p ∷ ps) qs e =
    let x = none_here p (ps ++ qs) (first p.from p.to) (next_delivery first (ps ++ qs)) e in
    let y = none_two first ps qs x.1 in
    (ap (λ (o : Option ℕ). here_or_later p ps o (next_delivery first ps)) x.0 ∙ y.0, y.1)

none_with_by : (first : ℕ → ℕ → Option ℕ) (a c x : ℕ) (xs : List ℕ) (b : Bool) → (a == x) ≡ b → a ≢ c → next_delivery first (if b then pairs_with a xs else record { from = a; to = x } ∷ pairs_with a xs) ≡ None → (x ≡ c) ⊎ Has c xs
    → (next_delivery first (pairs_with a xs) ≡ None → Has c xs → first a c ≡ None) → first a c ≡ None
none_with_by first a c x xs true is apart e (inl same) more = absurd (apart (let f : a ≡ x = grind (arith, nat_tests) in f ∙ same))
none_with_by first a c x xs true is apart e (inr h) more = more e h
none_with_by first a c x xs false is apart e (inl same) more =
    let k = none_here (record { from = a; to = x }) (pairs_with a xs) (first a x) (next_delivery first (pairs_with a xs)) e in subst (λ (j : ℕ). first a j ≡ None) same k.0
none_with_by first a c x xs false is apart e (inr h) more = more (none_here (record { from = a; to = x }) (pairs_with a xs) (first a x) (next_delivery first (pairs_with a xs)) e).1 h

none_with : (first : ℕ → ℕ → Option ℕ) (a c : ℕ) (xs : List ℕ) → a ≢ c → next_delivery first (pairs_with a xs) ≡ None → Has c xs → first a c ≡ None
none_with first a c [] apart e h = absurd h
none_with first a c (x ∷ xs) apart e h = none_with_by first a c x xs (a == x) refl apart e h (λ f g. none_with first a c xs apart f g)

none_of : (first : ℕ → ℕ → Option ℕ) (a c : ℕ) (xs ys : List ℕ) → a ≢ c → next_delivery first (pairs_of xs ys) ≡ None → Has a xs → Has c ys → first a c ≡ None
none_of first a c [] ys apart e h g = absurd h
none_of first a c (x ∷ xs) ys apart e (inl same) g =
    subst (λ (j : ℕ). first j c ≡ None) same
    (none_with first x c ys (λ f. apart (sym same ∙ f)) (none_two first (pairs_with x ys) (pairs_of xs ys) e).0 g)
none_of first a c (x ∷ xs) ys apart e (inr h) g = none_of first a c xs ys apart (none_two first (pairs_with x ys) (pairs_of xs ys) e).1 h g

-- no turn of some machines
no_turn_by : (takes : ℕ → Bool) (t : Todo) (m x : ℕ) (xs : List ℕ) (b : Bool) → takes x ≡ b → (if b then next_and_left (Step.Turn x) (record t { pairs = []; machines = xs }) else next_turn takes t xs) ≡ None → (x ≡ m) ⊎ Has m xs
    → (next_turn takes t xs ≡ None → Has m xs → takes m ≡ false) → takes m ≡ false
no_turn_by takes t m x xs true is e h more = cc
no_turn_by takes t m x xs false is e (inl same) more = subst (λ (j : ℕ). takes j ≡ false) same is
no_turn_by takes t m x xs false is e (inr h) more = more e h

pub no_turn : (takes : ℕ → Bool) (t : Todo) (m : ℕ) (xs : List ℕ) → next_turn takes t xs ≡ None → Has m xs → takes m ≡ false
no_turn takes t m [] e h = absurd h
no_turn takes t m (x ∷ xs) e h = no_turn_by takes t m x xs (takes x) refl e h (λ f g. no_turn takes t m xs f g)

-- a pass that begins and finds nothing
nothing_in : (seen : Seen) (t : Todo) (o : Option (Step × List Two)) → in_pass seen t o ≡ None → (o ≡ None) × (next_turn (takes_turn t.pass seen) t t.machines ≡ None)
nothing_in seen t None e = (refl, e)
nothing_in seen t (Some d) e = cc

-- a pair that has done its part, and whose packets were all delivered, is at rest
pub record AllThere (p : Pair) : Type 0 where
  pub taken : p.taken ≡ length p.ids
  pub acked : p.acked ≡ length p.ids

not_less : (m n : ℕ) → m ≤ n → (m < n → ⊥) → m ≡ n
not_less m n h k = elim (leb_tells (suc m) n) [
  | inl e ↦ absurd (k e.1)
  | inr e ↦ let x = e.1 in omega (arith, h, x)
]

pub all_there : (p q : Pair) → PairStands p q → PairRests p q → first_undelivered 0 p.wire ≡ None → first_undelivered 0 q.wire ≡ None → AllThere p
all_there p q s r out back =
    let taken : p.taken ≡ p.gone = not_less p.taken p.gone s.taken
    (λ less_. elim (r.there p.taken (all_come p.wire 0 (Load.Data p.taken) out (r.sent p.taken less_))) [ inl t ↦ omega (arith, t) | inr kept ↦ false≢true (sym r.next ∙ kept) ]) in
    let heard : p.taken ≤ p.acked = elim r.answered [
      | inl z ↦ omega (arith, z)
      | inr a ↦ r.heard p.taken (all_come q.wire 0 (Load.Ack p.taken) back a)
    ] in
    let under = s.acked in
    let all : p.gone ≡ length p.ids = elim r.gone [ inl e ↦ e | inr e ↦ absurd (omega (arith, e, taken, heard)) ] in
    record { taken = taken ∙ all; acked = omega (arith, heard, under, taken, all) }

pub no_mail : {X : Type 0} (xs : List X) → nat_lt 0 (length xs) ≡ false → xs ≡ []
no_mail [] e = refl
no_mail (x ∷ xs) e = absurd (some (length xs) e)
  where
    some : (n : ℕ) → nat_lt 0 (suc n) ≡ false → ⊥
    some n e = grind (arith, nat_tests)

-- where it finds nothing, each pair has done its part, and no machine takes its turn
pub record Nothing (n : ℕ) (pt : Point) (p : Pass) : Type 0 where
  pub taken : (a c : ℕ) → a < n → c < n → (pt.view.pair a c).taken ≡ length (pt.view.pair a c).ids
  pub acked : (a c : ℕ) → a < n → c < n → a ≢ c → (pt.view.pair a c).acked ≡ length (pt.view.pair a c).ids
  pub turns : (m : ℕ) → m < n → takes_turn p (seen_at n pt) m ≡ false

pub finds_nothing : (b : Boot) (es : List Step) (pt : Point) (p : Pass) (ds : List Directive) (n : ℕ) → Leads b (first_point b) es pt → begin_pass n (seen_at n pt) p ds ≡ None → Nothing n pt p
finds_nothing b es pt p ds n leads e =
    let v = pt.view in
    let k = nothing_in (seen_at n pt) (pass_begun n p ds) (next_delivery (undelivered v) (pairs_of (below n) (below n))) e in
    let there = λ (a c : ℕ) (h : a < n) (g : c < n) (apart : a ≢ c).
    all_there (v.pair a c) (v.pair c a) (pairs_stand_always b es pt a c leads apart).0 (pairs_rest_always b es pt a c leads apart)
    (none_of (undelivered v) a c (below n) (below n) apart k.0 (has_below a n h) (has_below c n g)) (none_of (undelivered v) c a (below n) (below n) (λ same. apart (sym same)) k.0 (has_below c n g) (has_below a n h)) in
    let home = λ (a : ℕ). (pairs_stand_always b es pt a (suc a) leads (λ same. absurd (let f : a < a = omega (arith, same) in omega (arith, f)))).1 in
    record {
      taken = λ a c h g. by v a c (a == c) refl (λ apart. (there a c h g apart).taken) (home a).taken;
      acked = λ a c h g apart. (there a c h g apart).acked;
      turns = λ m h. no_turn (takes_turn p (seen_at n pt)) (pass_begun n p ds) m (below n) k.1 (has_below m n h);
    }
  where
    by : (v : View) (a c : ℕ) (same : Bool) → (a == c) ≡ same → (a ≢ c → (v.pair a c).taken ≡ length (v.pair a c).ids) → (v.pair a a).taken ≡ length (v.pair a a).ids → (v.pair a c).taken ≡ length (v.pair a c).ids
    by v a c true e apart home = let is : a ≡ c = grind (arith, nat_tests) in subst (λ (k : ℕ). (v.pair a k).taken ≡ length (v.pair a k).ids) is home
    by v a c false e apart home = apart (let ne : a ≢ c = grind (arith, nat_tests) in ne)

-- so all is quiet where a settle's finds nothing
pub nothing_quiet : (b : Boot) (es : List Step) (pt : Point) (ds : List Directive) (n : ℕ) → Leads b (first_point b) es pt → begin_pass n (seen_at n pt) Settle ds ≡ None → IsQuiet n pt.view
nothing_quiet b es pt ds n leads e =
    let h = finds_nothing b es pt Settle ds n leads e in
    record { taken = h.taken; acked = h.acked; inbox = λ m k. no_mail (pt.view.inbox m) (h.turns m k) }

-- a pass that begins finds something
pub record Begins (S : Step → Type 0) (n : ℕ) (pt : Point) (p : Pass) (ds : List Directive) : Type 0 where
  pub next : Next
  pub is : begin_pass n (seen_at n pt) p ds ≡ Some next
  pub found : Found S (pass_begun n p ds) next

pub begins_by : (S : Step → Type 0) (n : ℕ) (pt : Point) (p : Pass) (ds : List Directive) (o : Option Next) → TurnsOf S (takes_turn p (seen_at n pt)) → Deliveries S pt.view → begin_pass n (seen_at n pt) p ds ≡ o → (o ≡ None → ⊥) → Begins S n pt p ds
begins_by S n pt p ds None turns each e some = absurd (some refl)
begins_by S n pt p ds (Some k) turns each e some = record { next = k; is = e; found = pass_found S n pt (pass_begun n p ds) k turns each e }

-- where not all is quiet one of a settle does
pub settle_begins : (b : Boot) (es : List Step) (pt : Point) (ds : List Directive) (n : ℕ) → Leads b (first_point b) es pt → is_quiet n pt.view ≡ false → Begins (IsSettleStep pt.view) n pt Settle ds
settle_begins b es pt ds n leads not_ =
    begins_by (IsSettleStep pt.view) n pt Settle ds (begin_pass n (seen_at n pt) Settle ds) (settle_turns n pt Settle refl) (λ a c k e. e) refl
    (λ none. false≢true (sym not_ ∙ quiet_passes n pt.view (nothing_quiet b es pt ds n leads none)))

-- in the midst of a pass whose directive is over, or isn't
pub over_midst : (n : ℕ) (pt : Point) (t : Todo) → is_over n (seen_at n pt) t.pass ≡ true → next_step n pt t ≡ next_pass n (seen_at n pt) t.pass t.directives
over_midst n pt t e =
    let here = in_pass (seen_at n pt) t (next_delivery (undelivered pt.view) t.pairs) in
    ap (λ (q : Bool). or (if q then None else here) (next_pass n (seen_at n pt) t.pass t.directives)) e

pub not_over_midst : (n : ℕ) (pt : Point) (t : Todo) → is_over n (seen_at n pt) t.pass ≡ false
    → next_step n pt t ≡ or (in_pass (seen_at n pt) t (next_delivery (undelivered pt.view) t.pairs)) (next_pass n (seen_at n pt) t.pass t.directives)
not_over_midst n pt t e =
    let here = in_pass (seen_at n pt) t (next_delivery (undelivered pt.view) t.pairs) in
    ap (λ (q : Bool). or (if q then None else here) (next_pass n (seen_at n pt) t.pass t.directives)) e

over_by : (n : ℕ) (pt : Point) (t : Todo) → t.pass ≡ Settle → is_quiet n pt.view ≡ true → next_step n pt t ≡ next_step n pt (all_of t.directives)
over_by n pt t is quiet =
    let begin = begin_pass n (seen_at n pt) Settle t.directives in
    let behind = next_directive n (seen_at n pt) t.directives in
    over_midst n pt t (ap (is_over n (seen_at n pt)) is ∙ quiet)
    ∙ ap (λ (p : Pass). next_pass n (seen_at n pt) p t.directives) is
    ∙ ap (λ (q : Bool). settles q begin behind) quiet

goes_by : (n : ℕ) (pt : Point) (t : Todo) (o : Option Next) → t.pass ≡ Settle → in_pass (seen_at n pt) t (next_delivery (undelivered pt.view) t.pairs) ≡ o → is_quiet n pt.view ≡ false → Begins (IsSettleStep pt.view) n pt Settle t.directives → SettleGoes n pt t
goes_by n pt t o is here not_ begin = pick o here
  where
    unfolds : (n : ℕ) (pt : Point) (t : Todo) (o : Option Next) → t.pass ≡ Settle → in_pass (seen_at n pt) t (next_delivery (undelivered pt.view) t.pairs) ≡ o → is_quiet n pt.view ≡ false
        → next_step n pt t ≡ or o (or (begin_pass n (seen_at n pt) Settle t.directives) (next_directive n (seen_at n pt) t.directives))
    unfolds n pt t o is here not_ =
        let first = begin_pass n (seen_at n pt) Settle t.directives in
        let behind = next_directive n (seen_at n pt) t.directives in
        not_over_midst n pt t (ap (is_over n (seen_at n pt)) is ∙ not_)
        ∙ ap (λ (x : Option Next). or x (next_pass n (seen_at n pt) t.pass t.directives)) here
        ∙ ap (λ (p : Pass). or o (next_pass n (seen_at n pt) p t.directives)) is
        ∙ ap (λ (q : Bool). or o (settles q first behind)) not_

    pick : (o : Option Next) → in_pass (seen_at n pt) t (next_delivery (undelivered pt.view) t.pairs) ≡ o → SettleGoes n pt t
    pick None e =
        record {
          next = begin.next;
          is = unfolds n pt t None is e not_ ∙ ap (λ (x : Option Next). or x (next_directive n (seen_at n pt) t.directives)) begin.is;
          step = begin.found.step;
          pass = begin.found.pass;
          behind = begin.found.behind;
        }
    pick (Some k) e =
        let f = pass_found (IsSettleStep pt.view) n pt t k (settle_turns n pt t.pass is) (λ a c k e. e) e in
        record { next = k; is = unfolds n pt t (Some k) is e not_; step = f.step; pass = f.pass ∙ is; behind = f.behind }

pub settles_always : SettlesAlways
settles_always b es pt t valid leads is =
    let n = pt.kernel.machines in
    record {
      over = λ q. over_by n pt t is (quiet_passes n pt.view q);
      goes = λ not_.
          let e : is_quiet n pt.view ≡ false = no_quiet n pt.view (is_quiet n pt.view) refl not_ in
          goes_by n pt t (in_pass (seen_at n pt) t (next_delivery (undelivered pt.view) t.pairs)) is refl e (settle_begins b es pt t.directives n leads e);
    }
  where
    no_quiet : (n : ℕ) (v : View) (q : Bool) → is_quiet n v ≡ q → (IsQuiet n v → ⊥) → is_quiet n v ≡ false
    no_quiet n v true e h = absurd (h (passes_quiet n v e))
    no_quiet n v false e h = e
