-- Nobody starves: how many processes stand before one in a ring only falls, and falls with each turn that serves another.
use Rattle.dm_law_moves.proofs.Names.{◌≡◌, ◌⊎◌, ℕ, suc, ◌+◌, ◌<◌, ◌≤◌, ◌==◌, ◌&&◌, ◌||◌, Bool, true, false, not, List, [], ◌∷◌, ◌++◌, length, filter, refl, ap, ◌∙◌, sym, subst, inl, inr, arith, if◌then◌else◌, Option, None, Some, cases_Bool, nat_tests, none_some, false≢true}
use Rattle.dm_law_moves.proofs.Names.{Pid, pid_eq, pid_eq-is, pid_eq-same, MsgId, Boot, Label, OneKernel, PlainProcess, Line, Stage, Step, Point, View, Part, Says, Spelled, spelled, group_of, group_is, moved, bind, bind-is, after, after_line, kernel_after, label_of, labels, view_after, Told, Sort, About, Of, Target, is_server}
use Rattle.std.specs.List.{list_any}
use Rattle.std.specs.Prelude.{find}
use Rattle.dm_message.specs.Sorts.{Passage, sort_of}
use Rattle.dm_line.specs.Sets.{moved_back, without}
use Rattle.dm_processor.specs.Instructions.{instruction}
use Rattle.dm_onekernel.specs.PlainProcess.{PlainStatus, Ready, Waiting, Moving}
use Rattle.dm_onekernel.specs.Receiving as receiving
use Rattle.dm_law_rule.specs.Burying as burying
use Rattle.dm_law_rule.specs.Rule as rule
use Rattle.dm_law_rule.specs.View as view
use Rattle.dm_onekernel.specs.Step as kernel
use Rattle.dm_law_moves.proofs.After.{group_after}
use Rattle.dm_law_moves.specs.Fair.{NobodyStarves, StaysIn, Waits, is_chance, is_empty, serves, stands_in}

-- how many stand before a process
abbrev place : Pid → List Pid → ℕ
place p [] = 0
place p (q ∷ qs) = if pid_eq p q then 0 else suc (place p qs)

abbrev among : Pid → List Pid → Bool
among p ring = list_any (pid_eq p) ring

here : (p x : Pid) (xs : List Pid) → pid_eq p x ≡ true → place p (x ∷ xs) ≡ 0
here p x xs e = ap (λ (c : Bool). if c then 0 else suc (place p xs)) e

next : (p x : Pid) (xs : List Pid) → pid_eq p x ≡ false → place p (x ∷ xs) ≡ suc (place p xs)
next p x xs e = ap (λ (c : Bool). if c then 0 else suc (place p xs)) e

stands : (p x : Pid) (xs : List Pid) → pid_eq p x ≡ true → among p (x ∷ xs) ≡ true
stands p x xs e = ap (λ (c : Bool). c || among p xs) e

rest : (p x : Pid) (xs : List Pid) → pid_eq p x ≡ false → among p (x ∷ xs) ≡ among p xs
rest p x xs e = ap (λ (c : Bool). c || among p xs) e

within : (p : Pid) (xs : List Pid) → among p xs ≡ true → place p xs < length xs
within p [] e = absurd (false≢true e)
within p (x ∷ xs) e = elim (cases_Bool (pid_eq p x)) [
  | inl same ↦ let k = here p x xs same in omega (arith, k)
  | inr off ↦ let k = next p x xs off in let h = within p xs (sym (rest p x xs off) ∙ e) in omega (arith, k, h)
]

same_test : (p q x : Pid) → pid_eq p q ≡ false → pid_eq p x ≡ true → pid_eq q x ≡ false
same_test p q x off same = elim (cases_Bool (pid_eq q x)) [
  | inl is ↦ absurd (
      let e : p ≡ q = pid_eq-is p x same ∙ sym (pid_eq-is q x is) in
      let f : pid_eq p q ≡ true = ap (λ (r : Pid). pid_eq p r) (sym e) ∙ pid_eq-same p in
      false≢true (sym off ∙ f))
  | inr apart ↦ apart
]

kept : (q x : Pid) (xs : List Pid) → pid_eq q x ≡ false → without q (x ∷ xs) ≡ x ∷ without q xs
kept q x xs e = ap (λ (c : Bool). if not c then x ∷ without q xs else without q xs) e

gone : (q x : Pid) (xs : List Pid) → pid_eq q x ≡ true → without q (x ∷ xs) ≡ without q xs
gone q x xs e = ap (λ (c : Bool). if not c then x ∷ without q xs else without q xs) e

-- without another it stands no later
without_down : (p q : Pid) (xs : List Pid) → pid_eq p q ≡ false → among p xs ≡ true → (place p (without q xs) ≤ place p xs) × (among p (without q xs) ≡ true)
without_down p q [] off e = absurd (false≢true e)
without_down p q (x ∷ xs) off e = elim (cases_Bool (pid_eq p x)) [
  | inl same ↦
      let k = kept q x xs (same_test p q x off same) in
      let z : place p (without q (x ∷ xs)) ≡ 0 = ap (place p) k ∙ here p x (without q xs) same in
      (omega (arith, z), ap (among p) k ∙ stands p x (without q xs) same)
  | inr apart ↦
      let h = without_down p q xs off (sym (rest p x xs apart) ∙ e) in
      let le = h.0 in
      let n = next p x xs apart in
      elim (cases_Bool (pid_eq q x)) [
        | inl goes ↦
            let k = gone q x xs goes in
            let z : place p (without q (x ∷ xs)) ≡ place p (without q xs) = ap (place p) k in
            (omega (arith, z, le, n), ap (among p) k ∙ h.1)
        | inr stays ↦
            let k = kept q x xs stays in
            let z : place p (without q (x ∷ xs)) ≡ suc (place p (without q xs)) = ap (place p) k ∙ next p x (without q xs) apart in
            (omega (arith, z, le, n), ap (among p) k ∙ rest p x (without q xs) apart ∙ h.1)
      ]
]

-- and earlier, without one that stood before it
without_falls : (p q : Pid) (xs : List Pid) → pid_eq p q ≡ false → among p xs ≡ true → place q xs < place p xs → place p (without q xs) + 1 ≤ place p xs
without_falls p q [] off e less = absurd (false≢true e)
without_falls p q (x ∷ xs) off e less = elim (cases_Bool (pid_eq p x)) [
  | inl same ↦ absurd (let z = here p x xs same in omega (arith, z, less))
  | inr apart ↦
      let there : among p xs ≡ true = sym (rest p x xs apart) ∙ e in
      let n = next p x xs apart in
      elim (cases_Bool (pid_eq q x)) [
        | inl goes ↦
            let le = (without_down p q xs off there).0 in
            let z : place p (without q (x ∷ xs)) ≡ place p (without q xs) = ap (place p) (gone q x xs goes) in
            omega (arith, z, le, n)
        | inr stays ↦
            let z : place p (without q (x ∷ xs)) ≡ suc (place p (without q xs)) = ap (place p) (kept q x xs stays) ∙ next p x (without q xs) apart in
            let m = next q x xs stays in
            let h = without_falls p q xs off there (omega (arith, less, n, m)) in
            omega (arith, z, h, n)
      ]
]

before_others : (p : Pid) (xs ys : List Pid) → among p xs ≡ true → (place p (xs ++ ys) ≡ place p xs)
before_others p [] ys e = absurd (false≢true e)
before_others p (x ∷ xs) ys e = elim (cases_Bool (pid_eq p x)) [
  | inl same ↦ here p x (xs ++ ys) same ∙ sym (here p x xs same)
  | inr apart ↦ next p x (xs ++ ys) apart ∙ ap suc (before_others p xs ys (sym (rest p x xs apart) ∙ e)) ∙ sym (next p x xs apart)
]

none_left : (p q : Pid) (xs : List Pid) → pid_eq p q ≡ true → among p (without q xs) ≡ false
none_left p q [] same = refl
none_left p q (x ∷ xs) same = elim (cases_Bool (pid_eq q x)) [
  | inl goes ↦ ap (among p) (gone q x xs goes) ∙ none_left p q xs same
  | inr stays ↦
      let apart : pid_eq p x ≡ false = ap (λ (r : Pid). pid_eq r x) (pid_eq-is p q same) ∙ stays in
      ap (among p) (kept q x xs stays) ∙ rest p x (without q xs) apart ∙ none_left p q xs same
]

-- the first that passes is the process, or stands before it
first_before : (f : Pid → Bool) (p q : Pid) (xs : List Pid) → find f xs ≡ Some q → f p ≡ true → among p xs ≡ true → (pid_eq p q ≡ true) ⊎ (place q xs < place p xs)
first_before f p q [] e can there = absurd (false≢true there)
first_before f p q (x ∷ xs) e can there = elim (cases_Bool (f x)) [
  | inl passes ↦
      let is : Some x ≡ Some q = sym (ap (λ (c : Bool). if c then Some x else find f xs) passes) ∙ e in
      let same : x ≡ q = cc in
      elim (cases_Bool (pid_eq p x)) [
        | inl mine ↦ inl (ap (λ (r : Pid). pid_eq p r) (sym same) ∙ mine)
        | inr other ↦ inr (
            let z = here q x xs (ap (λ (r : Pid). pid_eq q r) same ∙ pid_eq-same q) in
            let n = next p x xs other in
            omega (arith, z, n))
      ]
  | inr fails ↦
      let off : pid_eq p x ≡ false = elim (cases_Bool (pid_eq p x)) [
        | inl mine ↦ absurd (false≢true (sym fails ∙ ap f (sym (pid_eq-is p x mine)) ∙ can))
        | inr other ↦ other
      ] in
      let n = next p x xs off in
      elim (first_before f p q xs (sym (ap (λ (c : Bool). if c then Some x else find f xs) fails) ∙ e) can (sym (rest p x xs off) ∙ there)) [
        | inl mine ↦ inl mine
        | inr less ↦ inr (elim (cases_Bool (pid_eq q x)) [
          | inl goes ↦ let z = here q x xs goes in omega (arith, z, n)
          | inr stays ↦ let m = next q x xs stays in omega (arith, m, n, less)
        ])
      ]
]

some_first : (f : Pid → Bool) (p : Pid) (xs : List Pid) → find f xs ≡ None → f p ≡ true → among p xs ≡ true → ⊥
some_first f p [] e can there = false≢true there
some_first f p (x ∷ xs) e can there = elim (cases_Bool (f x)) [
  | inl passes ↦ (let g : Some x ≡ None = sym (ap (λ (c : Bool). if c then Some x else find f xs) passes) ∙ e in cc)
  | inr fails ↦
      let off : pid_eq p x ≡ false = elim (cases_Bool (pid_eq p x)) [
        | inl mine ↦ absurd (false≢true (sym fails ∙ ap f (sym (pid_eq-is p x mine)) ∙ can))
        | inr other ↦ other
      ] in
      some_first f p xs (sym (ap (λ (c : Bool). if c then Some x else find f xs) fails) ∙ e) can (sym (rest p x xs off) ∙ there)
]

-- a ring that becomes another, in which the process stands no later
abbrev Down : Pid → List Pid → List Pid → Type 0
Down p xs ys = among p xs ≡ true → among p ys ≡ true → place p ys ≤ place p xs

same_down : (p : Pid) (xs : List Pid) → Down p xs xs
same_down p xs e f = omega arith

out_down : (p q : Pid) (xs : List Pid) → Down p xs (without q xs)
out_down p q xs e f = elim (cases_Bool (pid_eq p q)) [
  | inl same ↦ absurd (false≢true (sym (none_left p q xs same) ∙ f))
  | inr off ↦ (without_down p q xs off e).0
]

joins_down : (p q : Pid) (xs : List Pid) → Down p xs (xs ++ q ∷ [])
joins_down p q xs e f = let k = before_others p xs (q ∷ []) e in omega (arith, k)

back_down : (p q : Pid) (xs : List Pid) → pid_eq p q ≡ false → Down p xs (moved_back q xs)
back_down p q xs off e f =
    let h = without_down p q xs off e in
    let le = h.0 in
    let k = before_others p (without q xs) (q ∷ []) h.1 in
    omega (arith, k, le)

with_down : (p q : Pid) (xs : List Pid) (c : Bool) → Down p xs (if c then xs else xs ++ q ∷ [])
with_down p q xs true = same_down p xs
with_down p q xs false = joins_down p q xs

-- one machine's ring becomes another
at_by : (f : ℕ → List Pid) (a m : ℕ) (p : Pid) (xs : List Pid) (c : Bool) → (a == m) ≡ c → Down p (f a) xs → Down p (f m) (if c then xs else f m)
at_by f a m p xs true is h = let same : a ≡ m = grind (arith, nat_tests) in subst (λ (k : ℕ). Down p (f k) xs) same h
at_by f a m p xs false is h = same_down p (f m)

at_down : (f : ℕ → List Pid) (a m : ℕ) (p : Pid) (xs : List Pid) → Down p (f a) xs → Down p (f m) (if a == m then xs else f m)
at_down f a m p xs h = at_by f a m p xs (a == m) refl h

-- a line after which the process stands no later in any ring
abbrev Falls : Pid → View → View → Type 0
Falls p v w = (m : ℕ) → Down p (v.ring m) (w.ring m)

stays_down : (p : Pid) (v w : View) → ((m : ℕ) → w.ring m ≡ v.ring m) → Falls p v w
stays_down p v w same m = subst (Down p (v.ring m)) (sym (same m)) (same_down p (v.ring m))

ended_down : (p q : Pid) (v : View) → Falls p v (view.ended v q)
ended_down p q v m = at_down v.ring v.acting m p (without q (v.ring v.acting)) (out_down p q (v.ring v.acting))

ends_down : (p : Pid) (s : Sort) (v : View) (q : Pid) → Falls p v (view.ends_by s v (Some q))
ends_down p Sort.Kills v q = ended_down p q v
ends_down p _ v q = stays_down p v v (λ m. refl)

served_down : (p : Pid) (v : View) (o : Option Told) → Falls p v (view.served_told v o)
served_down p v None = stays_down p v v (λ m. refl)
served_down p v (Some t) = ends_down p (sort_of t.kind) v t.receiver

dropped_same : (v : View) (id : MsgId) (o : Option Pid) (m : ℕ) → (view.dropped_for v id o).ring m ≡ v.ring m
dropped_same v id None m = refl
dropped_same v id (Some q) m = refl

label_down : (p : Pid) (v : View) (l : Label) → serves p l ≡ false → Falls p v (view.after_label v l)
label_down p v (Label.Ran q k) off m = at_down v.ring v.acting m p (moved_back q (v.ring v.acting)) (back_down p q (v.ring v.acting) off)
label_down p v (Label.Receive q id) off m = at_down v.ring v.acting m p (moved_back q (v.ring v.acting)) (back_down p q (v.ring v.acting) off)
label_down p v (Label.Refuse q id c) off m = at_down v.ring v.acting m p (moved_back q (v.ring v.acting)) (back_down p q (v.ring v.acting) off)
label_down p v (Label.End q y) off m = ended_down p q v m
label_down p v (Label.Served id) off m = served_down p (view.handled v id) (v.told id) m
label_down p v (Label.Created id q) off m = at_down v.ring v.acting m p (v.ring v.acting ++ q ∷ []) (joins_down p q (v.ring v.acting))
label_down p v (Label.Dropped id) off m = stays_down p v (view.after_label v (Label.Dropped id)) (dropped_same (view.handled v id) id (view.receiver_of (v.told id))) m
label_down p v l off m = stays_down p v (view.after_label v l) (λ n. refl) m

-- lines
taken_same : (v : View) (b : ℕ) (o : Option MsgId) (m : ℕ) → (view.taken_id v b o).ring m ≡ v.ring m
taken_same v b None m = refl
taken_same v b (Some i) m = refl

queued_same : (v : View) (id : MsgId) (o : Option Pid) (m : ℕ) → (view.queued_for v id o).ring m ≡ v.ring m
queued_same v id None m = refl
queued_same v id (Some q) m = refl

held_same : (v : View) (id : MsgId) (o : Option Pid) (m : ℕ) → (view.held_for v id o).ring m ≡ v.ring m
held_same v id None m = refl
held_same v id (Some q) m = refl

forwarded_same : (v : View) (o : Option Pid) (m : ℕ) → (view.forwarded_for v o).ring m ≡ v.ring m
forwarded_same v None m = refl
forwarded_same v (Some q) m = refl

forgotten_same : (v : View) (a : About) (m : ℕ) → (view.forgotten v a).ring m ≡ v.ring m
forgotten_same v (Of q) m = refl
forgotten_same v _ m = refl

buried_same : (v : View) (o : Option Told) (m : ℕ) → (view.buried_for v o).ring m ≡ v.ring m
buried_same v None m = refl
buried_same v (Some t) m = forgotten_same v t.about m

asks_same : (v : View) (a : About) (m : ℕ) → (view.asks_on v a).ring m ≡ v.ring m
asks_same v (Of q) m = refl
asks_same v _ m = refl

follows_same : (v : View) (a : About) (s : Sort) (m : ℕ) → (view.follows_by v a s).ring m ≡ v.ring m
follows_same v a (Sort.Between Passage.State) m = asks_same v a m
follows_same v a (Sort.Between Passage.Memory) m = asks_same v a m
follows_same v a _ m = refl

proto_same : (v : View) (o : Option Told) (m : ℕ) → (view.after_proto v o).ring m ≡ v.ring m
proto_same v None m = refl
proto_same v (Some t) m = follows_same v t.about (sort_of t.kind) m

head_same : (v : View) (d : Step) (m : ℕ) → (view.after_head v d).ring m ≡ v.ring m
head_same v (Step.Turn n) m = refl
head_same v _ m = refl

sets_off_down : (p : Pid) (v : View) (q : Pid) (a : About) → Falls p v (view.sets_off v q a)
sets_off_down p v q (Target n) m = at_down v.ring v.acting m p (without q (v.ring v.acting)) (out_down p q (v.ring v.acting))
sets_off_down p v q _ m = at_down v.ring v.acting m p (without q (v.ring v.acting)) (out_down p q (v.ring v.acting))

rejoins_down : (p : Pid) (v : View) (q : Pid) → Falls p v (view.rejoins v q)
rejoins_down p v q m = at_down v.ring v.acting m p (view.ring_with (v.ring v.acting) q) (with_down p q (v.ring v.acting) (is_server q))

stage_down : (p : Pid) (v : View) (q : Pid) (s : Stage) → Falls p v (view.after_stage v q s)
stage_down p v q Stage.Frozen = sets_off_down p v q v.topic
stage_down p v q Stage.Restarted = rejoins_down p (view.handled_first v) q
stage_down p v q s = stays_down p v (view.after_stage v q s) (λ m. refl)

-- a line that doesn't serve the process
abbrev serves_line : Pid → Line → Bool
serves_line p (Line.Label l) = serves p l
serves_line p l = false

line_down : (p : Pid) (v : View) (l : Line) → serves_line p l ≡ false → Falls p v (view_after v l)
line_down p v (Line.Head d) off = stays_down p v (view_after v (Line.Head d)) (head_same v d)
line_down p v (Line.Label l) off = label_down p v l off
line_down p v (Line.Taken a b n) off = stays_down p v (view_after v (Line.Taken a b n)) (λ m. taken_same (view.with_pair v a b (record (v.pair a b) { taken = (v.pair a b).taken + 1; kept = filter (λ k. not (k == n)) (v.pair a b).kept })) b (view.oldest (v.pair a b)) m)
line_down p v (Line.Queued id) off = stays_down p v (view_after v (Line.Queued id)) (queued_same (view.handled v id) id (view.receiver_of (v.told id)))
line_down p v (Line.Held id) off = stays_down p v (view_after v (Line.Held id)) (held_same (view.handled v id) id (view.receiver_of (v.told id)))
line_down p v (Line.Forwarded id n) off = stays_down p v (view_after v (Line.Forwarded id n)) (forwarded_same (view.handled v id) (view.receiver_of (v.told id)))
line_down p v (Line.Buried id n) off = stays_down p v (view_after v (Line.Buried id n)) (buried_same (view.handled v id) (v.told id))
line_down p v (Line.Migration s q) off = stage_down p v q s
line_down p v (Line.Stays q) off = rejoins_down p (view.handled_first (view.staying v q)) q
line_down p v (Line.Proto id) off = stays_down p v (view_after v (Line.Proto id)) (proto_same (view.handled v id) (v.told id))
line_down p v l off = stays_down p v (view_after v l) (λ m. refl)

-- all lines of a rest, behind each of which it stands in the ring
label_off : (p : Pid) (l : Line) (ls : List Line) → list_any (serves p) (labels (l ∷ ls)) ≡ false → (serves_line p l ≡ false) × (list_any (serves p) (labels ls) ≡ false)
label_off p (Line.Label x) ls e = elim (cases_Bool (serves p x)) [
  | inl some ↦ absurd (false≢true (sym e ∙ ap (λ (c : Bool). c || list_any (serves p) (labels ls)) some))
  | inr none ↦ (none, sym (ap (λ (c : Bool). c || list_any (serves p) (labels ls)) none) ∙ e)
]
label_off p l ls e = (refl, e)

stays_first : (pt : Point) (m : ℕ) (p : Pid) (ls : List Line) → StaysIn pt m p ls → stands_in pt m p ≡ true
stays_first pt m p [] h = h
stays_first pt m p (l ∷ ls) h = h.0

lines_down : (ls : List Line) (pt q : Point) (m : ℕ) (p : Pid) → after pt ls ≡ Some q → StaysIn pt m p ls → list_any (serves p) (labels ls) ≡ false → (place p (q.view.ring m) ≤ place p (pt.view.ring m)) × (stands_in q m p ≡ true)
lines_down [] pt q m p e stay off = let same : pt ≡ q = cc in subst (λ (z : Point). (place p (z.view.ring m) ≤ place p (pt.view.ring m)) × (stands_in z m p ≡ true)) same (omega arith, stay)
lines_down (l ∷ ls) pt q m p e stay off =
    let (mid, first, more) = bind-is (after_line pt l) (λ (z : Point). after z ls) q e in
    let (s, step_, last) = bind-is (kernel_after pt.kernel (label_of l)) (λ (s : OneKernel). Some (moved pt l s)) mid first in
    let same : moved pt l s ≡ mid = cc in
    let quiet = label_off p l ls off in
    let on = stay.1 mid first in
    let there : stands_in (moved pt l s) m p ≡ true = ap (λ (z : Point). stands_in z m p) same ∙ stays_first mid m p ls on in
    let one : place p ((moved pt l s).view.ring m) ≤ place p (pt.view.ring m) = line_down p pt.view l quiet.0 m stay.0 there in
    let all = lines_down ls mid q m p more on quiet.1 in
    let rest_ = all.0 in
    let is : place p ((moved pt l s).view.ring m) ≡ place p (mid.view.ring m) = ap (λ (z : Point). place p (z.view.ring m)) same in
    (omega (arith, one, rest_, is), all.1)

-- a turn with an empty inbox, at which the process could be served and isn't: another is, which stood before it
record Round (pt : Point) (m : ℕ) (p : Pid) (ps : List Part) : Type 0 where
  q : Pid
  l : Label
  parts : List Part
  is : ps ≡ Says (Line.Label l) ∷ parts
  ring : (v : View) → v.acting ≡ m → (view.after_label v l).ring m ≡ moved_back q (v.ring m)
  own : (r : Pid) → serves r l ≡ pid_eq r q
  first : rule.first_runnable pt.kernel (pt.view.queue m) (pt.view.ring m) ≡ Some q

at_own : (f : ℕ → List Pid) (a m : ℕ) (xs : List Pid) → a ≡ m → (if a == m then xs else f m) ≡ xs
at_own f a m xs e = let same : (a == m) ≡ true = grind (arith, nat_tests) in ap (λ (c : Bool). if c then xs else f m) same

served_ring : (q : Pid) (m : ℕ) (v : View) → v.acting ≡ m → (if v.acting == m then moved_back q (v.ring v.acting) else v.ring m) ≡ moved_back q (v.ring m)
served_ring q m v e = at_own v.ring v.acting m (moved_back q (v.ring v.acting)) e ∙ ap (λ (n : ℕ). moved_back q (v.ring n)) e

-- what serving it says first
serving_says : (pt : Point) (m : ℕ) (p q : Pid) (l : Label) (rest_ ps : List Part) → ((v : View) → v.acting ≡ m → (view.after_label v l).ring m ≡ moved_back q (v.ring m)) → ((r : Pid) → serves r l ≡ pid_eq r q) → Some (Says (Line.Label l) ∷ rest_) ≡ Some ps
    → rule.first_runnable pt.kernel (pt.view.queue m) (pt.view.ring m) ≡ Some q → Round pt m p ps
serving_says pt m p q l rest_ ps ring own e first = let is : Says (Line.Label l) ∷ rest_ ≡ ps = cc in record { q = q; l = l; parts = rest_; is = sym is; ring = ring; own = own; first = first }

completed_says : (pt : Point) (m : ℕ) (p q : Pid) (id : MsgId) (c : receiving.Completed) (ps : List Part) → Some (rule.completion_parts q id c) ≡ Some ps → rule.first_runnable pt.kernel (pt.view.queue m) (pt.view.ring m) ≡ Some q → Round pt m p ps
completed_says pt m p q id (receiving.Receives x) ps e first = serving_says pt m p q (Label.Receive q id) [] ps (λ v at. served_ring q m v at) (λ y. refl) e first
completed_says pt m p q id (receiving.Refuses reply x) ps e first = serving_says pt m p q (Label.Refuse q id reply) [] ps (λ v at. served_ring q m v at) (λ y. refl) e first

status_says : (b : Boot) (pt : Point) (m : ℕ) (p q : Pid) (queue : List MsgId) (over : List Part) (x : PlainProcess) (st : PlainStatus) (ps : List Part) → rule.serves_status b.quantum pt.kernel q queue over x st ≡ Some ps
    → rule.first_runnable pt.kernel (pt.view.queue m) (pt.view.ring m) ≡ Some q → Round pt m p ps
status_says b pt m p q queue over x Ready ps e first =
    let r = rule.ran b.quantum (kernel.machine_of x) in
    serving_says pt m p q (Label.Ran q r.count)
    (if r.count == b.quantum then [] else rule.stops q over (kernel.next_row q (kernel.with_machine x r.machine) (instruction r.machine.regs r.machine.bytes))) ps (λ v at. served_ring q m v at) (λ y. refl) e first
status_says b pt m p q queue over x (Waiting mask base size) ps e first =
    let awaited = rule.first_awaited pt.kernel mask queue in
    let (id, found, more) = bind-is awaited (λ id. bind (pt.kernel.bag id) (λ msg. bind (receiving.completes_with q x msg) (λ c. Some (rule.completion_parts q id c)))) ps e in
    let (msg, there, last) = bind-is (pt.kernel.bag id) (λ msg. bind (receiving.completes_with q x msg) (λ c. Some (rule.completion_parts q id c))) ps more in
    let (c, done, is) = bind-is (receiving.completes_with q x msg) (λ c. Some (rule.completion_parts q id c)) ps last in
    completed_says pt m p q id c ps is first
status_says b pt m p q queue over x (Moving dir owner base own left pending) ps e first = none_some ps e

round_is : (b : Boot) (pt : Point) (m : ℕ) (p : Pid) (ps : List Part) → rule.can_go pt.kernel (pt.view.queue m p) (kernel.alive (pt.kernel.processes p)) ≡ true → among p (pt.view.ring m) ≡ true
    → (o : Option Pid) → rule.first_runnable pt.kernel (pt.view.queue m) (pt.view.ring m) ≡ o → rule.goes_round b pt m o ≡ Some ps → Round pt m p ps
round_is b pt m p ps can there None first e = absurd (some_first (λ (q : Pid). rule.can_go pt.kernel (pt.view.queue m q) (kernel.alive (pt.kernel.processes q))) p (pt.view.ring m) first can there)
round_is b pt m p ps can there (Some q) first e =
    let (x, alive, more) = bind-is (kernel.alive (pt.kernel.processes q)) (λ x. rule.serves_status b.quantum pt.kernel q (pt.view.queue m q) (burying.ends_with pt m q) x x.status) ps e in
    status_says b pt m p q (pt.view.queue m q) (burying.ends_with pt m q) x x.status ps more first

-- the first line of what is said
said_first : (l : Line) (ps : List Part) (pt : Point) (w : Spelled) → spelled pt (Says l ∷ ps) ≡ Some w → (more : List Line) × (w.lines ≡ l ∷ more)
said_first l ps pt w e =
    let (z, leads, rest_) = bind-is (after pt (l ∷ [])) (λ (q : Point). bind (spelled q ps) (λ (y : Spelled). Some (rule.behind (l ∷ []) y))) w e in
    let (y, is, last) = bind-is (spelled z ps) (λ (y : Spelled). Some (rule.behind (l ∷ []) y)) w rest_ in
    let same : rule.behind (l ∷ []) y ≡ w = cc in
    (y.lines, sym (ap (λ (v : Spelled). v.lines) same))

-- one line, as a point
line_is : (pt q : Point) (l : Line) → after_line pt l ≡ Some q → (m : ℕ) → q.view.ring m ≡ (view_after pt.view l).ring m
line_is pt q l e m =
    let (s, step_, last) = bind-is (kernel_after pt.kernel (label_of l)) (λ (s : OneKernel). Some (moved pt l s)) q e in
    let same : moved pt l s ≡ q = cc in
    sym (ap (λ (z : Point). z.view.ring m) same)

head_acts : (pt q : Point) (m : ℕ) → after_line pt (Line.Head (Step.Turn m)) ≡ Some q → q.view.acting ≡ m
head_acts pt q m e =
    let (s, step_, last) = bind-is (kernel_after pt.kernel (label_of (Line.Head (Step.Turn m)))) (λ (s : OneKernel). Some (moved pt (Line.Head (Step.Turn m)) s)) q e in
    let same : moved pt (Line.Head (Step.Turn m)) s ≡ q = cc in
    sym (ap (λ (z : Point). z.view.acting) same)

-- behind one that was served before it
back_falls : (p q : Pid) (xs : List Pid) → pid_eq p q ≡ false → among p xs ≡ true → place q xs < place p xs → place p (moved_back q xs) + 1 ≤ place p xs
back_falls p q xs off there less =
    let h = without_down p q xs off there in
    let le = without_falls p q xs off there less in
    let k = before_others p (without q xs) (q ∷ []) h.1 in
    omega (arith, k, le)

-- a group
record Fallen (m : ℕ) (p : Pid) (pt q : Point) (n : ℕ) : Type 0 where
  less : place p (q.view.ring m) + n ≤ place p (pt.view.ring m)
  stands : stands_in q m p ≡ true

chance_falls : (b : Boot) (pt : Point) (m : ℕ) (p : Pid) (w : Spelled) → pt.view.inbox m ≡ [] → rule.can_go pt.kernel (pt.view.queue m p) (kernel.alive (pt.kernel.processes p)) ≡ true → group_of b pt (Step.Turn m) ≡ Some w
    → StaysIn pt m p w.lines → list_any (serves p) (labels w.lines) ≡ false → Fallen m p pt w.point 1
chance_falls b pt m p w empty can is stay off =
    let g = group_is b pt (Step.Turn m) w is in
    let begun_ = moved pt (Line.Head (Step.Turn m)) pt.kernel in
    let there = stays_first pt m p w.lines stay in
    let r = round_is b pt m p g.parts can there (rule.first_runnable pt.kernel (pt.view.queue m) (pt.view.ring m)) refl (sym (ap (rule.turns b pt m) empty) ∙ g.is) in
    let (more, said) = said_first (Line.Label r.l) r.parts begun_ g.rest (sym (ap (spelled begun_) r.is) ∙ g.said) in
    let lines : w.lines ≡ Line.Head (Step.Turn m) ∷ (Line.Label r.l ∷ more) = sym (ap (λ (v : Spelled). v.lines) g.whole) ∙ ap (λ (ls : List Line). Line.Head (Step.Turn m) ∷ ls) said in
    let all = sym (ap (after pt) lines) ∙ group_after b pt (Step.Turn m) w is in
    let on = subst (StaysIn pt m p) lines stay in
    let (a, first, later) = bind-is (after_line pt (Line.Head (Step.Turn m))) (λ (z : Point). after z (Line.Label r.l ∷ more)) w.point all in
    let (c, second, last) = bind-is (after_line a (Line.Label r.l)) (λ (z : Point). after z more) w.point later in
    let on_a = on.1 a first in
    let quiet = label_off p (Line.Label r.l) more (sym (ap (λ (ls : List Line). list_any (serves p) (labels ls)) lines) ∙ off) in
    let other : pid_eq p r.q ≡ false = sym (r.own p) ∙ quiet.0 in
    let ring_a : a.view.ring m ≡ pt.view.ring m = line_is pt a (Line.Head (Step.Turn m)) first m in
    let ring_c : c.view.ring m ≡ moved_back r.q (pt.view.ring m) = line_is a c (Line.Label r.l) second m ∙ r.ring a.view (head_acts pt a m first) ∙ ap (moved_back r.q) ring_a in
    let before : place r.q (pt.view.ring m) < place p (pt.view.ring m) =
    elim (first_before (λ (q : Pid). rule.can_go pt.kernel (pt.view.queue m q) (kernel.alive (pt.kernel.processes q))) p r.q (pt.view.ring m) r.first can there) [
      | inl mine ↦ absurd (false≢true (sym other ∙ mine))
      | inr less ↦ less
    ] in
    let one = back_falls p r.q (pt.view.ring m) other there before in
    let two : place p (c.view.ring m) ≡ place p (moved_back r.q (pt.view.ring m)) = ap (place p) ring_c in
    let rest_ = lines_down more c w.point m p last (on_a.1 c second) quiet.1 in
    let three = rest_.0 in
    record { less = omega (arith, one, two, three); stands = rest_.1 }

any_falls : (b : Boot) (pt : Point) (e : Step) (m : ℕ) (p : Pid) (w : Spelled) → group_of b pt e ≡ Some w → StaysIn pt m p w.lines → list_any (serves p) (labels w.lines) ≡ false → Fallen m p pt w.point 0
any_falls b pt e m p w is stay off = let k = lines_down w.lines pt w.point m p (group_after b pt e w is) stay off in let le = k.0 in record { less = omega (arith, le); stands = k.1 }

and_both : (c d : Bool) → (c && d) ≡ true → (c ≡ true) × (d ≡ true)
and_both true d e = (refl, e)
and_both false d e = absurd (false≢true e)

none_in : (ids : List MsgId) → is_empty ids ≡ true → ids ≡ []
none_in [] e = refl
none_in (i ∷ is) e = absurd (false≢true e)

group_falls : (b : Boot) (pt : Point) (e : Step) (m : ℕ) (p : Pid) (w : Spelled) (c : Bool) → is_chance pt m p e ≡ c → group_of b pt e ≡ Some w → StaysIn pt m p w.lines → list_any (serves p) (labels w.lines) ≡ false → Fallen m p pt w.point (if c then 1 else 0)
group_falls b pt (Step.Turn n) m p w true chance is stay off =
    let one = and_both (n == m) _ chance in
    let two = and_both (is_empty (pt.view.inbox m)) _ one.1 in
    let same : n ≡ m = (let k = one.0 in grind (arith, nat_tests)) in
    chance_falls b pt m p w (none_in (pt.view.inbox m) two.0) two.1 (sym (ap (λ (k : ℕ). group_of b pt (Step.Turn k)) same) ∙ is) stay off
group_falls b pt e m p w true chance is stay off = absurd (false≢true chance)
group_falls b pt e m p w false chance is stay off = any_falls b pt e m p w is stay off

waits_fall : (b : Boot) (m : ℕ) (p : Pid) (pt : Point) (es : List Step) (end : Point) (chances : ℕ) → stands_in pt m p ≡ true → Waits b m p pt es end chances → chances ≤ place p (pt.view.ring m)
waits_fall b m p pt [] end chances there h = let none = h.1 in omega (arith, none)
waits_fall b m p pt (e ∷ es) end chances there (w, more, is, stay, off, sum, rest_) =
    let f = group_falls b pt e m p w (is_chance pt m p e) refl is stay off in
    let less = f.less in
    let ih = waits_fall b m p w.point es end more f.stands rest_ in
    omega (arith, less, ih, sum)

pub nobody_starves : NobodyStarves
nobody_starves b m p pt es end chances there h =
    let le = waits_fall b m p pt es end chances there h in
    let less = within p (pt.view.ring m) there in
    omega (arith, le, less)
