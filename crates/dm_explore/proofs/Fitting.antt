-- What may be chosen are directives for the machines that there are.
use Rattle.std.specs.Prelude.{◌≡◌, ◌≢◌, ◌<◌, ◌≤◌, ◌==◌, ℕ, zero, suc, Bool, true, false, not, if◌then◌else◌, List, [], ◌∷◌, ◌++◌, cond, filter, length, map, nat_lt}
use Rattle.std.specs.List.{All, flat_map}
use Rattle.std.proofs.Common.{refl, sym, ap, ◌∙◌, subst, arith}
use Rattle.std.proofs.lemmas.Bool.Decides.{nat_tests}
use Rattle.std.proofs.lemmas.List.Elements.{All-append, All-cons, All-filter, All-head, All-map, All-nil, All-push, All-tail, All-weaker}
use Rattle.dm_schedule.specs.declared.Step.{Step}
use Rattle.dm_schedule.specs.declared.Step.TheVariants as step
use Rattle.dm_line.specs.Todo.{below}
use Rattle.dm_run.specs.Runs.{IsStep}
use Rattle.dm_explore.specs.Asked.{Bounds}
use Rattle.dm_explore.specs.Choices.{choices, count_here, deliveries, delivery, is_due, is_due_on, of_machine, of_pair, others, requests_left, tick_choices, turns, where_fewer}
use Rattle.dm_explore.specs.Past.{Did, repeats, sent, ticks, times}
use Rattle.dm_explore.specs.Search.{IsRequest}
use Rattle.dm_explore.specs.Sights.{Sight}
use Rattle.dm_explore.specs.declared.past.Put.{Put}

-- all elements that pass a test, where passing it is enough
all_passing : {X : Type 0} (P : X → Type 0) (test : X → Bool) (xs : List X) → ((x : X) → test x ≡ true → P x) → All P (filter test xs)
all_passing P test [] h = All-nil P
all_passing P test (x ∷ xs) h = by (test x) (h x) (all_passing P test xs h)
  where
    by : (t : Bool) → (t ≡ true → P x) → All P (filter test xs) → All P (cond t (x ∷ filter test xs) (filter test xs))
    by true here later = All-cons P x (filter test xs) (here refl) later
    by false here later = later

-- all of what is made of those that pass
pub all_made : {X Y : Type 0} (P : Y → Type 0) (f : X → List Y) (xs : List X) → All (λ x. All P (f x)) xs → All P (flat_map f xs)
all_made P f [] h = All-nil P
all_made P f (x ∷ xs) h = All-append P (f x) (flat_map f xs) (All-head (λ x. All P (f x)) x xs h) (all_made P f xs (All-tail (λ x. All P (f x)) x xs h))

all_below : (n : ℕ) → All (λ m. m < n) (below n)
all_below zero = All-nil (λ m. m < zero)
all_below (suc n) = All-push (λ m. m < suc n) (below n) n (All-weaker (λ m. m < n) (λ m. m < suc n) (λ m lt. omega arith) (below n) (all_below n)) (omega arith)

-- of one pair
pair_fits : (n : ℕ) (q : Bounds) (s : Sight) (ds : List Did) (again : Bool) (a c : ℕ) → a < n → c < n → a ≢ c → All (IsStep n) (of_pair q s ds again a c)
pair_fits n q s ds again a c from to apart = All-map (IsStep n) delivery (filter (is_due_on q s ds again a c) (sent ds)) (all_passing (λ p. IsStep n (delivery p)) (is_due_on q s ds again a c) (sent ds) each)
  where
    each : (p : Put) → is_due_on q s ds again a c p ≡ true → IsStep n (delivery p)
    each p is =
        let f : p.from ≡ a = grind (arith, nat_tests) in
        let t : p.to ≡ c = grind (arith, nat_tests) in
        (subst (λ x. x < n) (sym f) from, subst (λ x. x < n) (sym t) to, λ same. apart (sym f ∙ same ∙ t))

machine_fits : (n : ℕ) (q : Bounds) (s : Sight) (ds : List Did) (again : Bool) (a : ℕ) → a < n → All (IsStep n) (of_machine n q s ds again a)
machine_fits n q s ds again a from = all_made (IsStep n) (of_pair q s ds again a) (others n a) each
  where
    apart : (c : ℕ) → not (a == c) ≡ true → a ≢ c
    apart c is = λ same. grind (arith, nat_tests)

    each : All (λ c. All (IsStep n) (of_pair q s ds again a c)) (others n a)
    each =
        let less = All-filter (λ c. not (a == c)) (λ c. c < n) (below n) (all_below n) in
        let differ = all_passing (λ c. a ≢ c) (λ c. not (a == c)) (below n) apart in
        λ k d lt. pair_fits n q s ds again a _ from (less k d lt) (differ k d lt)

deliveries_fit : (n : ℕ) (q : Bounds) (s : Sight) (ds : List Did) (again : Bool) → All (IsStep n) (deliveries n q s ds again)
deliveries_fit n q s ds again =
    all_made (IsStep n) (of_machine n q s ds again) (below n) (All-weaker (λ a. a < n) (λ a. All (IsStep n) (of_machine n q s ds again a)) (λ a from. machine_fits n q s ds again a from) (below n) (all_below n))

fewer_fit : (n k most : ℕ) (es : List Step) → All (IsStep n) es → All (IsStep n) (where_fewer k most es)
fewer_fit n k most es h = by (nat_lt k most)
  where
    by : (t : Bool) → All (IsStep n) (if t then es else [])
    by true = h
    by false = All-nil (IsStep n)

request_fits : (n : ℕ) (e : Step) → IsRequest n e → IsStep n e
request_fits n (step.Turn m) h = absurd h
request_fits n (step.Tick m) h = absurd h
request_fits n (step.Deliver a c k) h = absurd h
request_fits n (step.Migrate p m) h = h
request_fits n (step.CallOff p m) h = h

requests_fit : (n : ℕ) (before es : List Step) (ds : List Did) → All (IsRequest n) es → All (IsStep n) (requests_left before es ds)
requests_fit n before [] ds h = All-nil (IsStep n)
requests_fit n before (e ∷ es) ds h =
    All-append (IsStep n) (if count_here e before == times e ds then e ∷ [] else []) (requests_left (before ++ e ∷ []) es ds) (by (count_here e before == times e ds))
    (requests_fit n (before ++ e ∷ []) es ds (All-tail (IsRequest n) e es h))
  where
    by : (t : Bool) → All (IsStep n) (if t then e ∷ [] else [])
    by true = All-cons (IsStep n) e [] (request_fits n e (All-head (IsRequest n) e es h)) (All-nil (IsStep n))
    by false = All-nil (IsStep n)

pub choices_fit : (n : ℕ) (q : Bounds) (s : Sight) (ds : List Did) → All (IsRequest n) q.requests → All (IsStep n) (choices n q s ds)
choices_fit n q s ds asked =
    let ones = All-map (IsStep n) step.Turn (filter s.acts (below n)) (All-filter s.acts (λ m. m < n) (below n) (all_below n)) in
    let firsts = deliveries_fit n q s ds false in
    let again = fewer_fit n (repeats ds) q.repeats (deliveries n q s ds true) (deliveries_fit n q s ds true) in
    let sends = fewer_fit n (ticks ds) q.ticks (tick_choices n s) (All-map (IsStep n) step.Tick (filter s.resends (below n)) (All-filter s.resends (λ m. m < n) (below n) (all_below n))) in
    let left = requests_fit n [] q.requests ds asked in
    All-append (IsStep n) (turns n s ++ deliveries n q s ds false ++ where_fewer (repeats ds) q.repeats (deliveries n q s ds true) ++ where_fewer (ticks ds) q.ticks (tick_choices n s)) (requests_left [] q.requests ds)
    (All-append (IsStep n) (turns n s ++ deliveries n q s ds false ++ where_fewer (repeats ds) q.repeats (deliveries n q s ds true)) (where_fewer (ticks ds) q.ticks (tick_choices n s))
    (All-append (IsStep n) (turns n s ++ deliveries n q s ds false) (where_fewer (repeats ds) q.repeats (deliveries n q s ds true))
    (All-append (IsStep n) (turns n s) (deliveries n q s ds false) ones firsts) again) sends) left
