-- No more messages are on their way than were ever routed.
use Rattle.dm_law_moves.proofs.Names.{◌≡◌, ◌≢◌, ℕ, zero, suc, ◌+◌, ◌-◌, ◌*◌, ◌^◌, ◌<◌, ◌≤◌, Bool, true, false, List, [], ◌∷◌, ◌++◌, length, refl, ap, ◌∙◌, sym, subst, inl, inr, arith, suc-mul, if◌then◌else◌, Option, None}
use Rattle.dm_processor.proofs.Names.{length-append}
use Rattle.dm_law_moves.proofs.Names.{Some, eqb_tells, leb_tells, nat_tests, MsgId, id_eq, PlainMessage, Boot, IsValid, id_eq-is, id_eq-same, Step, sum_below, IsKept, Leads, Point, first_point, Inbox, Spot, StandsOutside, StandsRight}
use Rattle.dm_law_moves.proofs.Names.{Untaken, standing, times, untaken, View, is_kernels, times-append, run_always, Left, left, numbers_left, one_each, one_let_go, told_lets_go, turns_left, weight, weight_of, weight_to}
use Rattle.dm_law_moves.proofs.At.RestPairs.{routed_always}
use Rattle.dm_law_moves.proofs.Names.{TurnsLeftFew}
use Rattle.dm_law_moves.proofs.Settles.FewSteps.Covers.{covers_always}
use Rattle.dm_law_moves.proofs.Settles.FewSteps.Far.{far_always}
use Rattle.dm_law_moves.proofs.Settles.Weights.{spike, spike_here, sum_le, sum_most, sum_same, sum_spike_most, weight-one, weight_most}

-- a list that has each message no more often than another is no longer
abbrev pub without : MsgId → List MsgId → List MsgId
without i [] = []
without i (j ∷ js) = if id_eq i j then js else j ∷ without i js

without_shorter : (i : MsgId) (xs : List MsgId) → 1 ≤ times i xs → length xs ≡ suc (length (without i xs))
without_shorter i [] h = absurd (omega (arith, h))
without_shorter i (j ∷ js) h = by (id_eq i j) h (without_shorter i js)
  where
    by : (c : Bool) → 1 ≤ (if c then 1 else 0) + times i js → (1 ≤ times i js → length js ≡ suc (length (without i js))) → suc (length js) ≡ suc (length (if c then js else j ∷ without i js))
    by true h later = refl
    by false h later = let k = later (omega (arith, h)) in omega (arith, k)

without_times : (i x : MsgId) (xs : List MsgId) → times x xs ≤ times x (without i xs) + (if id_eq x i then 1 else 0)
without_times i x [] = omega arith
without_times i x (j ∷ js) = by (id_eq i j) refl (without_times i x js)
  where
    by : (c : Bool) → id_eq i j ≡ c → times x js ≤ times x (without i js) + (if id_eq x i then 1 else 0) → (if id_eq x j then 1 else 0) + times x js ≤ times x (if c then js else j ∷ without i js) + (if id_eq x i then 1 else 0)
    by true e later = let f : ◌≡◌ {A = ℕ} (if id_eq x j then 1 else 0) (if id_eq x i then 1 else 0) = ap (λ (k : MsgId). if id_eq x k then 1 else 0) (sym (id_eq-is i j e)) in omega (arith, f)
    by false e later = omega (arith, later)

no_longer : (xs ys : List MsgId) → ((i : MsgId) → times i xs ≤ times i ys) → length xs ≤ length ys
no_longer [] ys h = omega arith
no_longer (x ∷ xs) ys h =
    let one : times x (x ∷ xs) ≡ 1 + times x xs = ap (λ (c : Bool). (if c then 1 else 0) + times x xs) (id_eq-same x) in
    let here = h x in
    let shorter = without_shorter x ys (omega (arith, one, here)) in
    let rest = no_longer xs (without x ys) (λ i. let a = h i in let b = without_times x i ys in omega (arith, a, b)) in
    omega (arith, shorter, rest)

-- lists one after the other
abbrev pub concat_below : (ℕ → List MsgId) → ℕ → List MsgId
concat_below f zero = []
concat_below f (suc n) = concat_below f n ++ f n

concat_length : (f : ℕ → List MsgId) (n : ℕ) → length (concat_below f n) ≡ sum_below (λ k. length (f k)) n
concat_length f zero = refl
concat_length f (suc n) = let h = concat_length f n in let a = length-append (concat_below f n) (f n) in omega (arith, h, a)

concat_times : (i : MsgId) (f : ℕ → List MsgId) (n : ℕ) → times i (concat_below f n) ≡ sum_below (λ k. times i (f k)) n
concat_times i f zero = refl
concat_times i f (suc n) = let h = concat_times i f n in let a = times-append i (concat_below f n) (f n) in omega (arith, h, a)

sum_least : (f : ℕ → ℕ) (n k : ℕ) → k < n → f k ≤ sum_below f n
sum_least f zero k h = absurd (omega (arith, h))
sum_least f (suc n) k h = elim (leb_tells (suc k) n) [
  | inl e ↦ let i = sum_least f n k e.1 in omega (arith, i)
  | inr e ↦ let far = e.1 in let same : k ≡ n = omega (arith, h, far) in let v : f k ≡ f n = ap f same in omega (arith, v)
]

-- what is on its way to a machine, and to all of them
abbrev pub way_to : ℕ → View → ℕ → List MsgId
way_to n v m = v.inbox m ++ concat_below (λ a. untaken (v.pair a m)) n

abbrev pub ways : ℕ → View → List MsgId
ways n v = concat_below (way_to n v) n

-- all that was routed
abbrev pub routed_from : ℕ → View → ℕ → List MsgId
routed_from n v a = concat_below (λ c. (v.pair a c).ids) n

abbrev pub routes : ℕ → View → List MsgId
routes n v = concat_below (routed_from n v) n

way_to_length : (n : ℕ) (v : View) (m : ℕ) → length (way_to n v m) ≡ weight_to one_each n v m
way_to_length n v m =
    let a = length-append (v.inbox m) (concat_below (λ a. untaken (v.pair a m)) n) in
    let b = concat_length (λ a. untaken (v.pair a m)) n in
    let c = weight-one (v.inbox m) in
    let d : sum_below (λ a. weight one_each (untaken (v.pair a m))) n ≡ sum_below (λ a. length (untaken (v.pair a m))) n = sum_same (λ a. weight one_each (untaken (v.pair a m))) (λ a. length (untaken (v.pair a m))) n (λ a l. weight-one (untaken (v.pair a m))) in
    omega (arith, a, b, c, d)

ways_length : (n : ℕ) (v : View) → length (ways n v) ≡ weight_of one_each n v
ways_length n v = concat_length (way_to n v) n ∙ sum_same (λ m. length (way_to n v m)) (weight_to one_each n v) n (λ m l. way_to_length n v m)

way_to_times : (i : MsgId) (n : ℕ) (v : View) (m : ℕ) → times i (way_to n v m) ≡ standing v i (Inbox m) + sum_below (λ a. standing v i (Untaken a m)) n
way_to_times i n v m =
    let a = times-append i (v.inbox m) (concat_below (λ a. untaken (v.pair a m)) n) in
    let b = concat_times i (λ a. untaken (v.pair a m)) n in
    omega (arith, a, b)

ways_times : (i : MsgId) (n : ℕ) (v : View) → times i (ways n v) ≡ sum_below (λ m. standing v i (Inbox m) + sum_below (λ a. standing v i (Untaken a m)) n) n
ways_times i n v = concat_times i (way_to n v) n ∙ sum_same (λ m. times i (way_to n v m)) (λ m. standing v i (Inbox m) + sum_below (λ a. standing v i (Untaken a m)) n) n (λ m l. way_to_times i n v m)

-- what stands in one place is there once
spot_sum : (f : Spot → ℕ) (n k : ℕ) → ((m : ℕ) → f (Inbox m) + sum_below (λ a. f (Untaken a m)) n ≤ spike k 1 m) → sum_below (λ m. f (Inbox m) + sum_below (λ a. f (Untaken a m)) n) n ≤ 1
spot_sum f n k h = let a = sum_le (λ m. f (Inbox m) + sum_below (λ a. f (Untaken a m)) n) (spike k 1) n (λ m l. h m) in let b = sum_spike_most k 1 n in omega (arith, a, b)

column : (f : Spot → ℕ) (n m k x : ℕ) → ((a : ℕ) → f (Untaken a m) ≤ spike k x a) → sum_below (λ a. f (Untaken a m)) n ≤ x
column f n m k x h = let a = sum_le (λ a. f (Untaken a m)) (spike k x) n (λ a l. h a) in let b = sum_spike_most k x n in omega (arith, a, b)

none_sum : (f : Spot → ℕ) (n : ℕ) → ((m : ℕ) → f (Inbox m) ≡ 0) → ((a m : ℕ) → f (Untaken a m) ≡ 0) → sum_below (λ m. f (Inbox m) + sum_below (λ a. f (Untaken a m)) n) n ≤ 1
none_sum f n box way = spot_sum f n 0 (λ m. let x = box m in let y = column f n m 0 0 (λ a. let z = way a m in omega (arith, z)) in omega (arith, x, y))

once_sum : (f : Spot → ℕ) (n : ℕ) (s : Spot) → f s ≡ 1 → ((z : Spot) → z ≢ s → f z ≡ 0) → sum_below (λ m. f (Inbox m) + sum_below (λ a. f (Untaken a m)) n) n ≤ 1
once_sum f n (Inbox k) one others = spot_sum f n k (λ m.
    let y = column f n m 0 0 (λ a. let z = others (Untaken a m) (λ e. cc) in omega (arith, z)) in
    elim (eqb_tells k m) [
      | inl e ↦ let s = spike_here k 1 m e.1 in let x : f (Inbox m) ≡ 1 = ap (λ (j : ℕ). f (Inbox j)) (sym e.1) ∙ one in omega (arith, x, y, s)
      | inr e ↦ let x = others (Inbox m) (λ same. e.1 (inbox_of m k same)) in omega (arith, x, y)
    ])
  where
    inbox_of : (m k : ℕ) → Inbox m ≡ Inbox k → k ≡ m
    inbox_of m k e = cc
once_sum f n (Untaken j k) one others = spot_sum f n k (λ m.
    let x = others (Inbox m) (λ e. cc) in
    elim (eqb_tells k m) [
      | inl e ↦
          let s = spike_here k 1 m e.1 in
          let y = column f n m j 1 (λ a. elim (eqb_tells j a) [
            | inl d ↦ let p = spike_here j 1 a d.1 in let z : f (Untaken a m) ≡ 1 = ap (λ (i : ℕ). f (Untaken i m)) (sym d.1) ∙ ap (λ (i : ℕ). f (Untaken j i)) (sym e.1) ∙ one in omega (arith, z, p)
            | inr d ↦ let z = others (Untaken a m) (λ same. d.1 (from_of a m j k same)) in omega (arith, z)
          ]) in
          omega (arith, x, y, s)
      | inr e ↦ let y = column f n m 0 0 (λ a. let z = others (Untaken a m) (λ same. e.1 (to_of a m j k same)) in omega (arith, z)) in omega (arith, x, y)
    ])
  where
    from_of : (a m j k : ℕ) → Untaken a m ≡ Untaken j k → j ≡ a
    from_of a m j k e = cc

    to_of : (a m j k : ℕ) → Untaken a m ≡ Untaken j k → k ≡ m
    to_of a m j k e = cc
once_sum f n _ one others = none_sum f n (λ m. others (Inbox m) (λ e. cc)) (λ a m. others (Untaken a m) (λ e. cc))

outside_sum : (c : Bool) (f : Spot → ℕ) (n : ℕ) → StandsOutside c f → sum_below (λ m. f (Inbox m) + sum_below (λ a. f (Untaken a m)) n) n ≤ 1
outside_sum true f n (inl none) = none_sum f n (λ m. none (Inbox m)) (λ a m. none (Untaken a m))
outside_sum true f n (inr (s, one, others)) = once_sum f n s one others
outside_sum false f n none = none_sum f n (λ m. none (Inbox m)) (λ a m. none (Untaken a m))

right_sum : (i : MsgId) (o : Option PlainMessage) (f : Spot → ℕ) (n : ℕ) → StandsRight i o f → sum_below (λ m. f (Inbox m) + sum_below (λ a. f (Untaken a m)) n) n ≤ 1
right_sum i None f n h = outside_sum (is_kernels i) f n h
right_sum i (Some m) f n (s, one, others) = once_sum f n s one others

-- and it was routed
pos_sum : (f : ℕ → ℕ) (n : ℕ) → 1 ≤ sum_below f n → (k : ℕ) × (1 ≤ f k)
pos_sum f zero h = absurd (omega (arith, h))
pos_sum f (suc n) h = elim (leb_tells 1 (f n)) [
  | inl e ↦ (n, e.1)
  | inr e ↦ let z = e.1 in pos_sum f n (omega (arith, h, z))
]

way_found : (i : MsgId) (n : ℕ) (v : View) → 1 ≤ times i (ways n v) → (z : Spot) × (1 ≤ standing v i z)
way_found i n v h =
    let t = ways_times i n v in
    let (m, some) = pos_sum (λ m. standing v i (Inbox m) + sum_below (λ a. standing v i (Untaken a m)) n) n (omega (arith, h, t)) in
    elim (leb_tells 1 (standing v i (Inbox m))) [
      | inl e ↦ (Inbox m, e.1)
      | inr e ↦ let z = e.1 in let (a, way) = pos_sum (λ a. standing v i (Untaken a m)) n (omega (arith, some, z)) in (Untaken a m, way)
    ]

none_times : (i : MsgId) (xs : List MsgId) → 1 ≤ times i xs → xs ≡ [] → ⊥
none_times i xs h e = let z : times i xs ≡ 0 = ap (times i) e in omega (arith, h, z)

-- each message on its way was routed between two machines that there are
way_routed : (b : Boot) (es : List Step) (pt : Point) (i : MsgId) → IsValid b → Leads b (first_point b) es pt → 1 ≤ times i (ways (length b.machines) pt.view) → 1 ≤ times i (routes (length b.machines) pt.view)
way_routed b es pt i valid leads h =
    let n = length b.machines in
    let (z, stands) = way_found i n pt.view h in
    let r = covers_always b es pt leads i ((run_always b es pt valid leads).run.found.told i z stands) in
    let ids = (pt.view.pair r.from r.to).ids in
    let from : r.from < n = elim (leb_tells (suc r.from) n) [
      | inl e ↦ e.1
      | inr e ↦ absurd (none_times i ids r.is ((routed_always b es pt valid leads).none r.from r.to (let far = e.1 in omega (arith, far))))
    ] in
    let to : r.to < n = elim (leb_tells (suc r.to) n) [
      | inl e ↦ e.1
      | inr e ↦ absurd (none_times i ids r.is (far_always b es pt valid leads r.from r.to (let far = e.1 in omega (arith, far))))
    ] in
    let outer = concat_times i (routed_from n pt.view) n in
    let one = sum_least (λ a. times i (routed_from n pt.view a)) n r.from from in
    let inner = concat_times i (λ c. (pt.view.pair r.from c).ids) n in
    let two = sum_least (λ c. times i (pt.view.pair r.from c).ids) n r.to to in
    let is = r.is in
    omega (arith, outer, one, inner, two, is)

pub few_ways : (b : Boot) (es : List Step) (pt : Point) → IsValid b → Leads b (first_point b) es pt → IsKept b pt → weight_of one_each (length b.machines) pt.view ≤ length (routes (length b.machines) pt.view)
few_ways b es pt valid leads kept =
    let n = length b.machines in
    let fewer = no_longer (ways n pt.view) (routes n pt.view) (λ i.
    let once = right_sum i (pt.kernel.bag i) (standing pt.view i) n (kept.once i) in
    let t = ways_times i n pt.view in
    elim (leb_tells 1 (times i (ways n pt.view))) [
      | inl e ↦ let r = way_routed b es pt i valid leads e.1 in omega (arith, once, t, r)
      | inr e ↦ let z = e.1 in omega (arith, z)
    ]) in
    let all = ways_length n pt.view in
    omega (arith, fewer, all)

-- all this is little
times_most : (n k x : ℕ) → n ≤ k → n * x ≤ k * x
times_most zero k x h = omega arith
times_most (suc n) zero x h = absurd (omega (arith, h))
times_most (suc n) (suc k) x h =
    let i = times_most n k x (omega (arith, h)) in
    let a : suc n * x ≡ n * x + x = suc-mul n x in
    let b : suc k * x ≡ k * x + x = suc-mul k x in
    omega (arith, i, a, b)

sixteen : (f : ℕ → ℕ) (n x : ℕ) → n ≤ 16 → ((k : ℕ) → k < n → f k ≤ x) → sum_below f n ≤ 16 * x
sixteen f n x few h = let a = sum_most f n x h in let b = times_most n 16 x few in omega (arith, a, b)

few_routes : (numbers n : ℕ) (v : View) → n ≤ 16 → numbers ≤ 1048576 → ((a c : ℕ) → length (v.pair a c).ids ≤ numbers) → length (routes n v) ≤ 268435456
few_routes numbers n v few most counts =
    let outer = concat_length (routed_from n v) n in
    let all = sixteen (λ a. length (routed_from n v a)) n 16777216 few (λ a l.
    let inner = concat_length (λ c. (v.pair a c).ids) n in
    let row = sixteen (λ c. length (v.pair a c).ids) n 1048576 few (λ c k. let x = counts a c in omega (arith, x, most)) in
    omega (arith, inner, row)) in
    omega (arith, outer, all)

few_numbers : (numbers n : ℕ) (v : View) → n ≤ 16 → numbers ≤ 1048576 → numbers_left numbers n v ≤ 268435456
few_numbers numbers n v few most =
    sixteen (λ a. sum_below (λ c. numbers - length (v.pair a c).ids) n) n 16777216 few (λ a l. sixteen (λ c. numbers - length (v.pair a c).ids) n 1048576 few (λ c k. omega (arith, most)))

weight_fewer : (f : MsgId → ℕ) (xs : List MsgId) → ((i : MsgId) → f i ≤ 1) → weight f xs ≤ weight one_each xs
weight_fewer f xs h = let a = weight_most f xs h in let b = weight-one xs in omega (arith, a, b)

fewer : (f : MsgId → ℕ) (n : ℕ) (v : View) → ((i : MsgId) → f i ≤ 1) → weight_of f n v ≤ weight_of one_each n v
fewer f n v h =
    sum_le (weight_to f n v) (weight_to one_each n v) n
    (λ m l.
    let a = weight_fewer f (v.inbox m) h in
    let b = sum_le (λ a. weight f (untaken (v.pair a m))) (λ a. weight one_each (untaken (v.pair a m))) n (λ a k. weight_fewer f (untaken (v.pair a m)) h) in
    omega (arith, a, b))

one_most : (v : View) (i : MsgId) → one_let_go v i ≤ 1
one_most v i = by (told_lets_go (v.told i))
  where
    by : (c : Bool) → (if c then 1 else 0) ≤ 1
    by true = omega arith
    by false = omega arith

small_turns : (x y z : ℕ) → x ≤ 268435456 → y ≤ 268435456 → z ≤ 268435456 → x * 2 ^ 60 + y * 2 ^ 30 + z < 2 ^ 89
small_turns x y z a b c = omega (arith, a, b, c)

-- of each of the three there are at most 2 ^ 28
pub record IsFew (x : Left) : Type 0 where
  pub numbers : x.numbers ≤ 268435456
  pub releases : x.releases ≤ 268435456
  pub messages : x.messages ≤ 268435456

pub few_left : (b : Boot) (es : List Step) (pt : Point) → IsValid b → Leads b (first_point b) es pt → IsKept b pt → IsFew (left b.numbers (length b.machines) pt.view)
few_left b es pt valid leads kept =
    let n = length b.machines in
    let few : n ≤ 16 = let e = valid.few_machines in grind (arith, nat_tests) in
    let most : b.numbers ≤ 1048576 = let e = valid.most_numbers in grind (arith, nat_tests) in
    let messages = few_ways b es pt valid leads kept in
    let routed = few_routes b.numbers n pt.view few most kept.counts in
    let releases = fewer (one_let_go pt.view) n pt.view (one_most pt.view) in
    record {
      numbers = few_numbers b.numbers n pt.view few most;
      releases = omega (arith, releases, messages, routed);
      messages = omega (arith, messages, routed);
    }

pub turns_left_few : TurnsLeftFew
turns_left_few b es pt valid leads kept =
    let n = length b.machines in
    let machines : pt.kernel.machines ≡ n = (run_always b es pt valid leads).run.based.machines in
    let f = few_left b es pt valid leads kept in
    let x = left b.numbers n pt.view in
    let small = small_turns x.numbers x.releases x.messages f.numbers f.releases f.messages in
    subst (λ (k : ℕ). turns_left (left b.numbers k pt.view) < 2 ^ 89) (sym machines) small
