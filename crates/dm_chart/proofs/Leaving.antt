-- What is found out of the lines before the first group that is shown, one after another.
use Rattle.dm_chart.proofs.Names.{◌≡◌, ℕ, zero, suc, ◌+◌, ◌-◌, ◌<◌, Bool, true, false, List, [], ◌∷◌, ◌++◌, length, get_or, take, drop, Some, None, refl, ap, sym, subst, ◌∙◌, arith, ◌&&◌, if◌then◌else◌, drop_more}
use Rattle.dm_chart.proofs.Names.{Line, Frame, Letter, Role, all_drawn, line_shapes, role_of}
use Rattle.std.proofs.lemmas.Bool.Decides.{nat_tests}
use Rattle.std.proofs.lemmas.List.{length-drop, get_or-drop, get_or-take, get_or-set_same, get_or-set_other, drop-append-le, take-append-drop, length-take-le}
use Rattle.std.proofs.lemmas.List.Sums.{count_by_more_no, count_by_more_yes}
use Rattle.std.proofs.Common.{◌≤◌, ◌*◌, ◌||◌, ◌==◌, cond, nat_lt, set, replicate}
use Rattle.std.specs.List.{list_any}
use Rattle.dm_chart.specs.declared.frame.Layer.{Layer}
use Rattle.dm_chart.specs.declared.role.Role.TheVariants as role
use Rattle.dm_chart.specs.Behind.{number_among, puts_between, puts_there}
use Rattle.dm_chart.specs.Left.{AreCounts, LeavesNothing, counted, delivers_it, is_counted, letter_number, number_in, role_left, with_letter}
use Rattle.dm_chart.proofs.NotShown.{IsKnown, NumberIs, due_behind, line_nothing, none_first, none_rest}
use Rattle.dm_chart.proofs.Pieces.{get_or_same}

-- no message is counted yet
pub zeros : (n k : ℕ) → ◌≡◌ {A = ℕ} (get_or (replicate n 0) k 0) 0
zeros zero k = refl
zeros (suc n) zero = refl
zeros (suc n) (suc k) = zeros n k

-- one message more
same_place : (p q a b : ℕ) → ((p == a) && (q == b)) ≡ true → 16 * p + q ≡ 16 * a + b
same_place p q a b e = grind (arith, nat_tests)

other_place : (p q a b : ℕ) → p < 16 → q < 16 → a < 16 → b < 16 → ((p == a) && (q == b)) ≡ false → 16 * a + b ≡ 16 * p + q → ⊥
other_place p q a b h i j k e same = grind (arith, nat_tests)

no_place : (p q a b : ℕ) → a < 16 → b < 16 → (nat_lt p 16 && nat_lt q 16) ≡ false → ((p == a) && (q == b)) ≡ true → ⊥
no_place p q a b j k e same = grind (arith, nat_tests)

counted_from : (p q : ℕ) → (nat_lt p 16 && nat_lt q 16) ≡ true → p < 16
counted_from p q e = grind (arith, nat_tests)

counted_to : (p q : ℕ) → (nat_lt p 16 && nat_lt q 16) ≡ true → q < 16
counted_to p q e = grind (arith, nat_tests)

set_here : (counts : List ℕ) (i j : ℕ) → i ≡ j → j < length counts → get_or (set counts i (get_or counts i 0 + 1)) j 0 ≡ get_or counts j 0 + 1
set_here counts i j e within = ap (λ (n : ℕ). get_or (set counts n (get_or counts n 0 + 1)) j 0) e ∙ get_or-set_same counts j (get_or counts j 0 + 1) 0 within

count_one : (counts : List ℕ) (x : Letter) (a b : ℕ) (t u : Bool) → length counts ≡ 256 → a < 16 → b < 16 → ((x.from == a) && (x.to == b)) ≡ t → is_counted x ≡ u
    → get_or (with_letter counts x) (16 * a + b) 0 ≡ get_or counts (16 * a + b) 0 + cond t 1 0
count_one counts x a b true true long h i same known =
    rw known (set_here counts (16 * x.from + x.to) (16 * a + b) (same_place x.from x.to a b same) (omega arith))
count_one counts x a b false true long h i other known =
    let p = counted_from x.from x.to known in
    let q = counted_to x.from x.to known in
    rw known (get_or-set_other counts (16 * x.from + x.to) (16 * a + b) (get_or counts (16 * x.from + x.to) 0 + 1) 0 (other_place x.from x.to a b p q h i other) ∙ sym (add_none (get_or counts (16 * a + b) 0)))
  where
    add_none : (n : ℕ) → n + 0 ≡ n
    add_none n = omega arith
count_one counts x a b true false long h i same known = absurd (no_place x.from x.to a b h i known same)
count_one counts x a b false false long h i other known = rw known (sym (add_none (get_or counts (16 * a + b) 0)))
  where
    add_none : (n : ℕ) → n + 0 ≡ n
    add_none n = omega arith

-- so with a line of any role
count_role : (counts : List ℕ) (r : Role) (a b : ℕ) → length counts ≡ 256 → a < 16 → b < 16 → get_or (counted counts r) (16 * a + b) 0 ≡ get_or counts (16 * a + b) 0 + cond (puts_there a b r) 1 0
count_role counts (role.Put x) a b long h i = count_one counts x a b ((x.from == a) && (x.to == b)) (is_counted x) long h i refl refl
count_role counts (role.Head e) a b long h i = omega arith
count_role counts (role.Packet c d k n) a b long h i = omega arith
count_role counts (role.Taken c d n) a b long h i = omega arith
count_role counts (role.Early c d n) a b long h i = omega arith
count_role counts (role.Again c d n) a b long h i = omega arith
count_role counts (role.Note l) a b long h i = omega arith
count_role counts role.Unseen a b long h i = omega arith

among_more : (a b : ℕ) (ls : List Line) (i : ℕ) (d : Line) (t : Bool) → i < length ls → puts_between a b (get_or ls i d) ≡ t → number_among a b (take (i + 1) ls) ≡ number_among a b (take i ls) + cond t 1 0
among_more a b ls i d true within e = count_by_more_yes (puts_between a b) ls i d within e
among_more a b ls i d false within e =
    let same = count_by_more_no (puts_between a b) ls i d within e in
    omega (arith, same)

pub counts_more : (counts : List ℕ) (r : Role) (ls : List Line) (i : ℕ) (d : Line) → length counts ≡ 256 → i < length ls → r ≡ role_of (get_or ls i d) → AreCounts counts (take i ls) → AreCounts (counted counts r) (take (i + 1) ls)
counts_more counts r ls i d long within is h = λ a b p q.
    let one = count_role counts r a b long p q in
    let more = among_more a b ls i d (puts_there a b r) within (ap (puts_there a b) (sym is)) in
    let known = h a b p q in
    cc

-- no count grows by more than one
one_more_at : (counts : List ℕ) (x : Letter) (u : Bool) (k i : ℕ) → is_counted x ≡ u → length counts ≡ 256 → ((j : ℕ) → j < 256 → get_or counts j 0 ≤ i) → k < 256 → get_or (with_letter counts x) k 0 ≤ i + 1
one_more_at counts x false k i known long each within = let old = each k within in rw known (omega (arith, old))
one_more_at counts x true k i known long each within =
    let p = counted_from x.from x.to known in
    let q = counted_to x.from x.to known in
    let at = each (16 * x.from + x.to) (omega arith) in
    let old = each k within in
    rw known (by counts (16 * x.from + x.to) k i (k == (16 * x.from + x.to)) refl (omega arith) at old)
  where
    is_at : (k j : ℕ) → (k == j) ≡ true → k ≡ j
    is_at k j e = grind (arith, nat_tests)

    isnt_at : (k j : ℕ) → (k == j) ≡ false → k ≡ j → ⊥
    isnt_at k j e h = grind (arith, nat_tests)

    by : (counts : List ℕ) (j k i : ℕ) (t : Bool) → (k == j) ≡ t → j < length counts → get_or counts j 0 ≤ i → get_or counts k 0 ≤ i → get_or (set counts j (get_or counts j 0 + 1)) k 0 ≤ i + 1
    by counts j k i true e within at old =
        let here = set_here counts j k (sym (is_at k j e)) (let same = is_at k j e in omega (arith, same)) in
        let same = ap (λ (n : ℕ). get_or counts n 0) (is_at k j e) in
        omega (arith, here, same, at)
    by counts j k i false e within at old =
        let away = get_or-set_other counts j k (get_or counts j 0 + 1) 0 (isnt_at k j e) in
        omega (arith, away, old)

pub each_more : (counts : List ℕ) (r : Role) (i : ℕ) → length counts ≡ 256 → ((j : ℕ) → j < 256 → get_or counts j 0 ≤ i) → (k : ℕ) → k < 256 → get_or (counted counts r) k 0 ≤ i + 1
each_more counts (role.Put x) i long each k within = one_more_at counts x (is_counted x) k i refl long each within
each_more counts (role.Head e) i long each k within = let old = each k within in omega (arith, old)
each_more counts (role.Packet a b j n) i long each k within = let old = each k within in omega (arith, old)
each_more counts (role.Taken a b n) i long each k within = let old = each k within in omega (arith, old)
each_more counts (role.Early a b n) i long each k within = let old = each k within in omega (arith, old)
each_more counts (role.Again a b n) i long each k within = let old = each k within in omega (arith, old)
each_more counts (role.Note l) i long each k within = let old = each k within in omega (arith, old)
each_more counts role.Unseen i long each k within = let old = each k within in omega (arith, old)

-- the number of a message
number_by : (counts : List ℕ) (before : List Line) (x : Letter) (u : Bool) → AreCounts counts before → is_counted x ≡ u → NumberIs before (if u then Some (get_or counts (16 * x.from + x.to) 0) else None) x
number_by counts before x true h known = λ n e.
    let is = h x.from x.to (counted_from x.from x.to known) (counted_to x.from x.to known) in
    cc
number_by counts before x false h known = λ n e. absurd (cc)

number_is : (counts : List ℕ) (before : List Line) (x : Letter) → AreCounts counts before → NumberIs before (letter_number counts x) x
number_is counts before x h = number_by counts before x (is_counted x) h refl

-- whether the last line delivers a packet
due_at : (a b k : ℕ) (l : Line) (ls : List Line) (due : Bool) (d : Line) → due_behind a b k due (l ∷ ls) ≡ delivers_it a b k (get_or (l ∷ ls) (length ls) d)
due_at a b k l [] due d = refl
due_at a b k l (m ∷ ms) due d = due_at a b k m ms (delivers_it a b k l) d

due_last : (a b k : ℕ) (ls : List Line) (d : Line) (n : ℕ) → length ls ≡ n + 1 → delivers_it a b k (get_or ls n d) ≡ false → due_behind a b k false ls ≡ false
due_last a b k [] d n long e = refl
due_last a b k (l ∷ ls) d n long e =
    let same : length ls ≡ n = omega (arith, long) in
    due_at a b k l ls false d ∙ ap (λ (m : ℕ). delivers_it a b k (get_or (l ∷ ls) m d)) same ∙ e

due_empty : (a b k : ℕ) (ls : List Line) → length ls ≡ 0 → due_behind a b k false ls ≡ false
due_empty a b k [] e = refl
due_empty a b k (l ∷ ls) e = absurd (omega arith)

-- the lines ahead that aren't shown, and all that are
ahead_parts : (all : List Line) (hidden i : ℕ) → hidden ≤ length all → i < hidden → drop (i + 1) all ≡ drop (i + 1) (take hidden all) ++ drop hidden all
ahead_parts all hidden i within h =
    let long = length-take-le hidden all within in
    ap (drop (i + 1)) (sym (take-append-drop hidden all)) ∙ drop-append-le (i + 1) (take hidden all) (drop hidden all) (omega (arith, long))

due_by : (a b k : ℕ) (all : List Line) (hidden i : ℕ) (d : Line) (ls : List Line) (n : ℕ) → ls ≡ drop (i + 1) (take hidden all) → length ls ≡ n → n ≡ hidden - (i + 1) → i < hidden → hidden ≤ length all → delivers_it a b k (get_or all (hidden - 1) d) ≡ false → due_behind a b k false ls ≡ false
due_by a b k all hidden i d ls zero is long count h within e = due_empty a b k ls long
due_by a b k all hidden i d ls (suc n) is long count h within e =
    let at : i + 1 + n ≡ hidden - 1 = omega (arith, count) in
    let line : get_or ls n d ≡ get_or all (hidden - 1) d =
    ap (λ (xs : List Line). get_or xs n d) is ∙ get_or-drop (i + 1) (take hidden all) n d ∙ get_or-take hidden all (i + 1 + n) d (omega (arith, at)) ∙ ap (λ (m : ℕ). get_or all m d) at in
    due_last a b k ls d n (omega (arith, long)) (ap (delivers_it a b k) line ∙ e)

due_known : (a b k : ℕ) (all : List Line) (hidden i : ℕ) (d : Line) → hidden ≤ length all → i < hidden → list_any (delivers_it a b k) (drop (hidden - 1) all) ≡ false
    → (due_behind a b k false (drop (i + 1) (take hidden all)) ≡ false) × (list_any (delivers_it a b k) (drop hidden all) ≡ false)
due_known a b k all hidden i d within h none =
    let one : hidden - 1 + 1 ≡ hidden = omega arith in
    let parts : drop (hidden - 1) all ≡ get_or all (hidden - 1) d ∷ drop hidden all = drop_more all (hidden - 1) d (omega arith) ∙ ap (λ (n : ℕ). get_or all (hidden - 1) d ∷ drop n all) one in
    let both : (delivers_it a b k (get_or all (hidden - 1) d) || list_any (delivers_it a b k) (drop hidden all)) ≡ false = sym (ap (list_any (delivers_it a b k)) parts) ∙ none in
    let last = none_first (delivers_it a b k (get_or all (hidden - 1) d)) (list_any (delivers_it a b k) (drop hidden all)) both in
    let long = length-drop (i + 1) (take hidden all) in
    let front = length-take-le hidden all within in
    (due_by a b k all hidden i d (drop (i + 1) (take hidden all)) (hidden - (i + 1)) refl (omega (arith, long, front)) refl h within last, none_rest (delivers_it a b k (get_or all (hidden - 1) d)) (list_any (delivers_it a b k) (drop hidden all)) both)

known : (counts : List ℕ) (all : List Line) (hidden i : ℕ) (d : Line) (r : Role) → hidden ≤ length all → i < hidden → AreCounts counts (take i all) → IsKnown (take i all) (drop (i + 1) (take hidden all)) (drop hidden all) (number_in counts r) (drop (hidden - 1) all) r
known counts all hidden i d (role.Put x) within h are = number_is counts (take i all) x are
known counts all hidden i d (role.Packet a b k n) within h are = due_known a b k all hidden i d within h
known counts all hidden i d (role.Head e) within h are = tt
known counts all hidden i d (role.Taken a b n) within h are = tt
known counts all hidden i d (role.Early a b n) within h are = tt
known counts all hidden i d (role.Again a b n) within h are = tt
known counts all hidden i d (role.Note l) within h are = tt
known counts all hidden i d role.Unseen within h are = tt

pub leaving : (f : Frame) (all : List Line) (hidden i : ℕ) (counts : List ℕ) (r : Role) (e : Line) → hidden ≤ length all → hidden ≤ f.hidden → i < hidden → AreCounts counts (take i all) → r ≡ role_of (get_or (take hidden all) i e) → role_left f (number_in counts r) (drop (i + 1) (take hidden all)) (drop (hidden - 1) all) r ≡ false
    → LeavesNothing f.rows f.hidden (λ (y : Layer). record f { layer = y }) all i
leaving f all hidden i counts r e within few h are is over = λ y s d none begun left.
    let line : get_or (take hidden all) i e ≡ get_or all i d = get_or-take hidden all i e h ∙ get_or_same all i e d (omega arith) in
    let role : r ≡ role_of (get_or all i d) = is ∙ ap role_of line in
    let long = length-drop (i + 1) (take hidden all) in
    let front = length-take-le hidden all within in
    let known_here = subst (λ (x : Role). IsKnown (take i all) (drop (i + 1) (take hidden all)) (drop hidden all) (number_in counts r) (drop (hidden - 1) all) x) role (known counts all hidden i d r within h are) in
    let over_here = subst (λ (x : Role). role_left f (number_in counts r) (drop (i + 1) (take hidden all)) (drop (hidden - 1) all) x ≡ false) role over in
    ap (λ (after : List Line). all_drawn (record f { layer = y }) (line_shapes f.rows all (take i all) s (get_or all i d) after)) (ahead_parts all hidden i within h)
    ∙ line_nothing (record f { layer = y }) f.rows all (take i all) s (get_or all i d) (drop (i + 1) (take hidden all)) (drop hidden all) (number_in counts r) (drop (hidden - 1) all) (omega (arith, long, front, left)) none begun known_here over_here
