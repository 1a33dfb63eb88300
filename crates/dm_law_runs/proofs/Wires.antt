-- What lines do to what was routed on a pair, and to its wire.
use Rattle.dm_law_runs.proofs.Names.{◌≡◌, ◌⊎◌, ℕ, ◌+◌, ◌≤◌, ◌<◌, ◌==◌, ◌&&◌, Bool, true, false, not, filter, List, [], ◌∷◌, ◌++◌, length, refl, ap, ◌∙◌, sym, subst, inl, inr, arith, if◌then◌else◌, Option, None, Some, cases_Bool, nat_tests}
use Rattle.dm_law_runs.proofs.Names.{Pid, MsgId, MessageKind, bind-is, Step, Line, at_pair, Two, or, Point, after, after_line, View, Pair, view_after, after_put, marked, routed_on, gone_after, at_least, oldest, with_pair, is_full}
use Rattle.dm_law_runs.proofs.Names.{full_route, worn_in, is_put, pair_same, taken_pair, line_view, one_longer, worn_alike, act_of}

-- a pair is set to one with the same value of something
pub set_keeps : {X : Type 0} (f : Pair → X) (g : ℕ → ℕ → Pair) (a b : ℕ) (p : Pair) (c d : ℕ) → f p ≡ f (g a b) → f (at_pair g a b p c d) ≡ f (g c d)
set_keeps f g a b p c d same = elim (cases_Bool ((a == c) && (b == d))) [
  | inl here ↦
      let ac : a ≡ c = grind (arith, nat_tests) in
      let bd : b ≡ d = grind (arith, nat_tests) in
      ap (λ (t : Bool). f (if t then p else g c d)) here ∙ same ∙ ap (λ (x : ℕ). f (g x b)) ac ∙ ap (λ (x : ℕ). f (g c x)) bd
  | inr apart ↦ ap (λ (t : Bool). f (if t then p else g c d)) apart
]

pub taken_keeps : {X : Type 0} (f : Pair → X) (v : View) (a b n : ℕ) (c d : ℕ) → f (record (v.pair a b) { taken = (v.pair a b).taken + 1; kept = filter (λ k. not (k == n)) (v.pair a b).kept }) ≡ f (v.pair a b) → f ((view_after v (Line.Taken a b n)).pair c d) ≡ f (v.pair c d)
taken_keeps f v a b n c d same =
    let p = record (v.pair a b) { taken = (v.pair a b).taken + 1; kept = filter (λ k. not (k == n)) (v.pair a b).kept } in
    ap (λ (g : ℕ → ℕ → Pair). f (g c d)) (taken_pair (with_pair v a b p) b (oldest (v.pair a b))) ∙ set_keeps f v.pair a b p c d same

-- what was routed stays, but for a put
abbrev pub ids_on : View → ℕ → ℕ → List MsgId
ids_on v a b = (v.pair a b).ids

ids_same : (v : View) (l : Line) (c d : ℕ) → is_put l ≡ false → ids_on (view_after v l) c d ≡ ids_on v c d
ids_same v (Line.Put a b i k q) c d quiet = cc
ids_same v (Line.Head (Step.Turn m)) c d quiet = refl
ids_same v (Line.Head (Step.Tick m)) c d quiet = refl
ids_same v (Line.Head (Step.Migrate p m)) c d quiet = refl
ids_same v (Line.Head (Step.CallOff p m)) c d quiet = refl
ids_same v (Line.Head (Step.Deliver a b k)) c d quiet = set_keeps (λ (p : Pair). p.ids) v.pair a b (marked (v.pair a b) k) c d refl
ids_same v (Line.Packet a b k l) c d quiet =
    set_keeps (λ (p : Pair). p.ids) v.pair a b (record (v.pair a b) { gone = gone_after l (v.pair a b).gone; wire = (v.pair a b).wire ++ record { load = l; delivered = false } ∷ [] }) c d refl
ids_same v (Line.Taken a b n) c d quiet = taken_keeps (λ (p : Pair). p.ids) v a b n c d refl
ids_same v (Line.Early a b n) c d quiet = set_keeps (λ (p : Pair). p.ids) v.pair a b (record (v.pair a b) { kept = n ∷ filter (λ k. not (k == n)) (v.pair a b).kept }) c d refl
ids_same v (Line.Acked a b n) c d quiet = set_keeps (λ (p : Pair). p.ids) v.pair b a (record (v.pair b a) { acked = at_least (v.pair b a).acked n }) c d refl
ids_same v l c d quiet = ap (λ (g : ℕ → ℕ → Pair). (g c d).ids) (pair_same v l refl)

put_at : (v : View) (a b : ℕ) (i : MsgId) (k : MessageKind) (q : Pid) (c d : ℕ) → ((a == c) && (b == d)) ≡ true → ids_on (after_put v a b i k q) c d ≡ ids_on v c d ++ i ∷ []
put_at v a b i k q c d here =
    let ac : a ≡ c = grind (arith, nat_tests) in
    let bd : b ≡ d = grind (arith, nat_tests) in
    ap (λ (t : Bool). (if t then routed_on a b (v.pair a b) i else v.pair c d).ids) here ∙ ap (λ (x : ℕ). ids_on v x b ++ i ∷ []) ac ∙ ap (λ (x : ℕ). ids_on v c x ++ i ∷ []) bd

put_off : (v : View) (a b : ℕ) (i : MsgId) (k : MessageKind) (q : Pid) (c d : ℕ) → ((a == c) && (b == d)) ≡ false → ids_on (after_put v a b i k q) c d ≡ ids_on v c d
put_off v a b i k q c d apart = ap (λ (t : Bool). (if t then routed_on a b (v.pair a b) i else v.pair c d).ids) apart

put_grows : (v : View) (a b : ℕ) (i : MsgId) (k : MessageKind) (q : Pid) (c d : ℕ) → length (ids_on v c d) ≤ length (ids_on (after_put v a b i k q) c d)
put_grows v a b i k q c d = elim (cases_Bool ((a == c) && (b == d))) [
  | inl here ↦ let e : length (ids_on (after_put v a b i k q) c d) ≡ length (ids_on v c d ++ i ∷ []) = ap length (put_at v a b i k q c d here) in let m = one_longer (ids_on v c d) i in omega (arith, e, m)
  | inr apart ↦ let e : length (ids_on (after_put v a b i k q) c d) ≡ length (ids_on v c d) = ap length (put_off v a b i k q c d apart) in omega (arith, e)
]

line_grows : (v : View) (l : Line) (c d : ℕ) → length (ids_on v c d) ≤ length (ids_on (view_after v l) c d)
line_grows v (Line.Put a b i k q) c d = put_grows v a b i k q c d
line_grows v l c d = let e : length (ids_on (view_after v l) c d) ≡ length (ids_on v c d) = ap length (ids_same v l c d refl) in omega (arith, e)

lines_grow : (ls : List Line) (pt q : Point) (c d : ℕ) → after pt ls ≡ Some q → length (ids_on pt.view c d) ≤ length (ids_on q.view c d)
lines_grow [] pt q c d e = let f : pt ≡ q = cc in let g : length (ids_on q.view c d) ≡ length (ids_on pt.view c d) = ap (λ (x : Point). length (ids_on x.view c d)) (sym f) in omega (arith, g)
lines_grow (l ∷ ls) pt q c d e =
    let (next, first, rest) = bind-is (after_line pt l) (λ (x : Point). after x ls) q e in
    let one = line_grows pt.view l c d in
    let same : length (ids_on next.view c d) ≡ length (ids_on (view_after pt.view l) c d) = ap (λ (v : View). length (ids_on v c d)) (line_view pt next l first) in
    let more = lines_grow ls next q c d rest in
    omega (arith, one, same, more)

-- no pair counts more messages than it may
abbrev pub Counts : ℕ → View → Type 0
Counts numbers v = (a b : ℕ) → length (ids_on v a b) ≤ numbers

abbrev two : ℕ → ℕ → Two
two a b = record { from = a; to = b }

not_full : (numbers : ℕ) (v : View) (a b : ℕ) (c : Bool) → is_full numbers v a b ≡ c → (if c then Some (two a b) else None) ≡ None → length (ids_on v a b) < numbers
not_full numbers v a b true is e = cc
not_full numbers v a b false is e = grind (arith, nat_tests)

put_counts : (numbers : ℕ) (v : View) (a b : ℕ) (i : MsgId) (k : MessageKind) (q : Pid) → length (ids_on v a b) < numbers → Counts numbers v → Counts numbers (after_put v a b i k q)
put_counts numbers v a b i k q less h c d = elim (cases_Bool ((a == c) && (b == d))) [
  | inl here ↦
      let e : length (ids_on (after_put v a b i k q) c d) ≡ length (ids_on v c d ++ i ∷ []) = ap length (put_at v a b i k q c d here) in
      let m = one_longer (ids_on v c d) i in
      let ac : a ≡ c = grind (arith, nat_tests) in
      let bd : b ≡ d = grind (arith, nat_tests) in
      let there : length (ids_on v c d) ≡ length (ids_on v a b) = ap (λ (x : ℕ). length (ids_on v x d)) (sym ac) ∙ ap (λ (x : ℕ). length (ids_on v a x)) (sym bd) in
      omega (arith, e, m, there, less)
  | inr apart ↦
      let e : length (ids_on (after_put v a b i k q) c d) ≡ length (ids_on v c d) = ap length (put_off v a b i k q c d apart) in
      let was = h c d in
      omega (arith, e, was)
]

quiet_counts : (numbers : ℕ) (v w : View) → ((c d : ℕ) → ids_on w c d ≡ ids_on v c d) → Counts numbers v → Counts numbers w
quiet_counts numbers v w same h c d = let e : length (ids_on w c d) ≡ length (ids_on v c d) = ap length (same c d) in let was = h c d in omega (arith, e, was)

line_counts : (numbers : ℕ) (v : View) (l : Line) → full_route numbers v (act_of l) ≡ None → Counts numbers v → Counts numbers (view_after v l)
line_counts numbers v (Line.Put a b i k q) none h = put_counts numbers v a b i k q (not_full numbers v a b (is_full numbers v a b) refl none) h
line_counts numbers v l none h = quiet_counts numbers v (view_after v l) (λ c d. ids_same v l c d refl) h

or_none : (x y : Option Two) → or x y ≡ None → (x ≡ None) × (y ≡ None)
or_none None y e = (refl, e)
or_none (Some p) y e = cc

-- where no put of these lines wears a pair
pub lines_count : (numbers : ℕ) (ls : List Line) (pt q : Point) → after pt ls ≡ Some q → worn_in numbers pt.view ls ≡ None → Counts numbers pt.view → Counts numbers q.view
lines_count numbers [] pt q e none h = let f : pt ≡ q = cc in subst (λ (x : Point). Counts numbers x.view) f h
lines_count numbers (l ∷ ls) pt q e none h =
    let (next, first, rest) = bind-is (after_line pt l) (λ (x : Point). after x ls) q e in
    let view_is = line_view pt next l first in
    let (here, later) = or_none (full_route numbers pt.view (act_of l)) (worn_in numbers (view_after pt.view l) ls) none in
    let same = worn_alike numbers ls (view_after pt.view l) next.view (λ c d. ap (λ (v : View). ids_on v c d) view_is) in
    lines_count numbers ls next q rest (same ∙ later) (subst (Counts numbers) (sym view_is) (line_counts numbers pt.view l here h))

or_some : (x y : Option Two) (p : Two) → or x y ≡ Some p → (x ≡ Some p) ⊎ (y ≡ Some p)
or_some None y p e = inr e
or_some (Some q) y p e = inl e

full_is : (numbers : ℕ) (v : View) (a b : ℕ) (p : Two) (c : Bool) → is_full numbers v a b ≡ c → (if c then Some (two a b) else None) ≡ Some p → (two a b ≡ p) × (numbers ≤ length (ids_on v a b))
full_is numbers v a b p true is e = (cc, grind (arith, nat_tests))
full_is numbers v a b p false is e = cc

put_wears : (numbers : ℕ) (v : View) (a b : ℕ) (i : MsgId) (k : MessageKind) (q : Pid) (p : Two) → (two a b ≡ p) × (numbers ≤ length (ids_on v a b)) → numbers < length (ids_on (after_put v a b i k q) p.from p.to)
put_wears numbers v a b i k q p (is, full) =
    let here : ((a == a) && (b == b)) ≡ true = grind (arith, nat_tests) in
    let e : length (ids_on (after_put v a b i k q) a b) ≡ length (ids_on v a b ++ i ∷ []) = ap length (put_at v a b i k q a b here) in
    let m = one_longer (ids_on v a b) i in
    subst (λ (x : Two). numbers < length (ids_on (after_put v a b i k q) x.from x.to)) is (omega (arith, e, m, full))

line_wears : (numbers : ℕ) (v : View) (l : Line) (p : Two) → full_route numbers v (act_of l) ≡ Some p → numbers < length (ids_on (view_after v l) p.from p.to)
line_wears numbers v (Line.Put a b i k q) p e = put_wears numbers v a b i k q p (full_is numbers v a b p (is_full numbers v a b) refl e)
line_wears numbers v l p e = cc

-- a put that wears a pair leaves it with more than it may count
pub lines_wear : (numbers : ℕ) (ls : List Line) (pt q : Point) (p : Two) → after pt ls ≡ Some q → worn_in numbers pt.view ls ≡ Some p → numbers < length (ids_on q.view p.from p.to)
lines_wear numbers [] pt q p e worn = cc
lines_wear numbers (l ∷ ls) pt q p e worn =
    let (next, first, rest) = bind-is (after_line pt l) (λ (x : Point). after x ls) q e in
    let view_is = line_view pt next l first in
    let alike = worn_alike numbers ls (view_after pt.view l) next.view (λ c d. ap (λ (v : View). ids_on v c d) view_is) in
    elim (or_some (full_route numbers pt.view (act_of l)) (worn_in numbers (view_after pt.view l) ls) p worn) [
      | inl here ↦
          let full = line_wears numbers pt.view l p here in
          let same : length (ids_on next.view p.from p.to) ≡ length (ids_on (view_after pt.view l) p.from p.to) = ap (λ (v : View). length (ids_on v p.from p.to)) view_is in
          let more = lines_grow ls next q p.from p.to rest in
          omega (arith, full, same, more)
      | inr later ↦ lines_wear numbers ls next q p rest (alike ∙ later)
    ]
