-- Messages and letters by their names: in order, and each once.
use Rattle.std.proofs.Common.{◌≡◌, ℕ, suc, ◌+◌, ◌≤◌, Bool, true, false, if◌then◌else◌, cond, List, [], ◌∷◌, map, refl, ap, sym, subst, ◌∙◌, inl, inr, arith}
use Rattle.std.proofs.lemmas.Bool.Decides.{nat_tests}
use Rattle.std.proofs.lemmas.Cmp.{nat_cmp_total, on_total, then_total}
use Rattle.std.proofs.lemmas.List.Elements.{All-from_get_or, recursion_from_All}
use Rattle.std.proofs.lemmas.List.Sorted.{ranks_by, sorted_far, sum_by-IsPermutation}
use Rattle.std.specs.Cmp.{IsStrictWeakOrder, IsTotalOrder}
use Rattle.std.specs.Ordering.{bool_cmp, nat_cmp, is_lt, ordering_reverse, ordering_then}
use Rattle.std.specs.Prelude.{IsPermutation, IsSortedByKey, option_map, filter_map, find, fold, sum_by}
use Rattle.std.specs.List.{All, AllByRecursion, cons_option}
use Rattle.std.specs.List.Sorted.{IsStrictlySortedBy}
use Rattle.std.specs.declared.cmp.Ordering.{Ordering}
use Rattle.std.specs.declared.cmp.Ordering.TheVariants.{Less, Equal, Greater}
use Rattle.std.specs.declared.option.Option.{Option}
use Rattle.std.specs.declared.option.Option.TheVariants.{None, Some}
use Rattle.dm_link.specs.Names.{pid_cmp}
use Rattle.dm_linktable.proofs.ReceiverOrder.{pid_equal, pid_total}
use Rattle.dm_message.specs.declared.Message.{Message}
use Rattle.dm_message.specs.declared.MsgId.{MsgId}
use Rattle.dm_message.specs.Ids.{id_eq}
use Rattle.dm_message.specs.Plain.{PlainWhat, plain_what}
use Rattle.dm_line.proofs.Names.{false≢true}
use Rattle.dm_law_rule.specs.Spots.{times}
use Rattle.dm_law_moves.proofs.Names.{cases_Bool, id_eq-is, id_eq-same}
use Rattle.dm_world.specs.Ends.{names_of}
use Rattle.dm_look.specs.Letters.{Letter, id_cmp, letter_of, links_in}
use Rattle.dm_law_runs.specs.Letters.Laws.{LettersAreOne}

-- ---- the order of names

bool_total : IsTotalOrder bool_cmp
bool_total = record { antisymm = back; trans = over; congr = alike }
  where
    back : (x y : Bool) → bool_cmp x y ≡ ordering_reverse (bool_cmp y x)
    back true true = refl
    back true false = refl
    back false true = refl
    back false false = refl

    over : (x y z : Bool) → bool_cmp x y ≡ Less → bool_cmp y z ≡ Less → bool_cmp x z ≡ Less
    over false true true e f = cc
    over false true false e f = cc
    over false false z e f = cc
    over true true z e f = cc
    over true false z e f = cc

    alike : (x y z : Bool) → bool_cmp x y ≡ Equal → bool_cmp x z ≡ bool_cmp y z
    alike true true z e = refl
    alike false false z e = refl
    alike true false z e = cc
    alike false true z e = cc

id_total : IsTotalOrder id_cmp
id_total = then_total (on_total (λ (i : MsgId). i.from) pid_total) (then_total (on_total (λ (i : MsgId). i.n) nat_cmp_total) (on_total (λ (i : MsgId). i.answer) bool_total))

then_equal : (x y : Ordering) → ordering_then x y ≡ Equal → (x ≡ Equal) × (y ≡ Equal)
then_equal Equal y e = (refl, e)
then_equal Less y e = cc
then_equal Greater y e = cc

nat_equal : (m n : ℕ) → nat_cmp m n ≡ Equal → m ≡ n
nat_equal m n e = grind (arith, nat_tests)

bool_equal : (x y : Bool) → bool_cmp x y ≡ Equal → x ≡ y
bool_equal true true e = refl
bool_equal false false e = refl
bool_equal true false e = cc
bool_equal false true e = cc

id_equal : (i j : MsgId) → id_cmp i j ≡ Equal → i ≡ j
id_equal i j e =
    let both = then_equal (pid_cmp i.from j.from) (ordering_then (nat_cmp i.n j.n) (bool_cmp i.answer j.answer)) e in
    let rest = then_equal (nat_cmp i.n j.n) (bool_cmp i.answer j.answer) both.1 in
    let from = pid_equal i.from j.from both.0 in
    let n = nat_equal i.n j.n rest.0 in
    let answer = bool_equal i.answer j.answer rest.1 in
    λ k. record { from = from k; n = n k; answer = answer k }

-- a name that isn't below another, and is no other, is above it
less_by : (i x : MsgId) (o : Ordering) → id_cmp i x ≡ o → is_lt (id_cmp x i) ≡ false → (i ≡ x → ⊥) → o ≡ Less
less_by i x Less e low apart = refl
less_by i x Equal e low apart = absurd (apart (id_equal i x e))
less_by i x Greater e low apart = absurd (false≢true (sym low ∙ ap is_lt (id_total.antisymm x i ∙ ap ordering_reverse e)))

less_from : (i x : MsgId) → is_lt (id_cmp x i) ≡ false → (i ≡ x → ⊥) → id_cmp i x ≡ Less
less_from i x low apart = less_by i x (id_cmp i x) refl low apart

not_itself : (i x : MsgId) → id_cmp i x ≡ Less → id_eq x i ≡ false
not_itself i x less = elim (cases_Bool (id_eq x i)) [
  | inl same ↦ absurd (let e : id_cmp i i ≡ Less = ap (id_cmp i) (sym (id_eq-is x i same)) ∙ less in let back = id_total.antisymm i i in let f : Less ≡ Greater = sym e ∙ (back ∙ ap ordering_reverse e) in cc)
  | inr off ↦ off
]

-- ---- messages in order, each once

abbrev below : Message → Message → Bool
below x y = is_lt (id_cmp x.id y.id)

weak : IsStrictWeakOrder below
weak = ranks_by id_total (λ (m : Message). m.id)

-- all behind it are above
above : (i : MsgId) (ms : List Message) → AllByRecursion (λ (m : Message). is_lt (id_cmp m.id i) ≡ false) ms → times i (names_of ms) ≡ 0 → AllByRecursion (λ (x : MsgId). id_cmp i x ≡ Less) (names_of ms)
above i [] low none = tt
above i (m ∷ ms) low none = elim (cases_Bool (id_eq i m.id)) [
  | inl same ↦ absurd (let e : times i (names_of (m ∷ ms)) ≡ 1 + times i (names_of ms) = ap (λ (c : Bool). (if c then 1 else 0) + times i (names_of ms)) same in omega (arith, none, e))
  | inr off ↦
      let g = ap (λ (c : Bool). (if c then 1 else 0) + times i (names_of ms)) off in
      let e : times i (names_of (m ∷ ms)) ≡ times i (names_of ms) = omega (arith, g) in
      (less_from i m.id low.0 (λ is. false≢true (sym off ∙ (ap (id_eq i) (sym is) ∙ id_eq-same i))), above i ms low.1 (sym e ∙ none))
]

pub strict_names : (ms : List Message) → IsSortedByKey (λ (m : Message). m.id) id_cmp ms → ((i : MsgId) → times i (names_of ms) ≤ 1) → IsStrictlySortedBy id_cmp (names_of ms)
unfolding IsStrictlySortedBy
strict_names [] sorted few = tt
strict_names (m ∷ ms) sorted few =
    let low : All (λ (x : Message). below x m ≡ false) ms = All-from_get_or (λ (x : Message). below x m ≡ false) ms m (λ j h. sorted_far below weak (m ∷ ms) sorted 0 (suc j) m (omega arith) (omega (arith, h))) in
    let one : times m.id (names_of (m ∷ ms)) ≡ 1 + times m.id (names_of ms) = ap (λ (c : Bool). (if c then 1 else 0) + times m.id (names_of ms)) (id_eq-same m.id) in
    let most = few m.id in
    let fewer : (i : MsgId) → times i (names_of ms) ≤ 1 = λ i. less_one i m.id (names_of ms) (few i) in (
      above m.id ms (recursion_from_All (λ (x : Message). below x m ≡ false) ms low) (omega (arith, one, most)),
      strict_names ms (λ k d least h. sorted_far below weak (m ∷ ms) sorted (suc k) (suc (k + 1)) d (omega arith) (omega (arith, h))) fewer,
    )
  where
    less_one : (i j : MsgId) (is : List MsgId) → times i (j ∷ is) ≤ 1 → times i is ≤ 1
    less_one i j is h = by_test (id_eq i j) h
      where
        by_test : (c : Bool) → (if c then 1 else 0) + times i is ≤ 1 → times i is ≤ 1
        by_test true k = omega (arith, k)
        by_test false k = omega (arith, k)

-- the same names, however they are ordered
counted : (i : MsgId) (ms : List Message) (n : ℕ) → fold (λ (a : ℕ) (m : Message). a + (if id_eq i m.id then 1 else 0)) n ms ≡ n + times i (names_of ms)
counted i [] n = omega arith
counted i (m ∷ ms) n = let rest = counted i ms (n + (if id_eq i m.id then 1 else 0)) in omega (arith, rest)

pub times_moved : (i : MsgId) (ms ns : List Message) → IsPermutation ms ns → times i (names_of ns) ≡ times i (names_of ms)
times_moved i ms ns moved =
    let same : sum_by (λ (m : Message). if id_eq i m.id then 1 else 0) ns ≡ sum_by (λ (m : Message). if id_eq i m.id then 1 else 0) ms = sum_by-IsPermutation (λ (m : Message). if id_eq i m.id then 1 else 0) ms ns moved in
    let a = counted i ms 0 in
    let c = counted i ns 0 in
    omega (arith, same, a, c)

-- ---- their letters

one_id : (m : Message) (o : Option PlainWhat) (rest : List Letter) (Above : MsgId → Type 0) → Above m.id → AllByRecursion Above (map (λ (x : Letter). x.id) rest)
    → AllByRecursion Above (map (λ (x : Letter). x.id) (cons_option (option_map (λ (w : PlainWhat). record { id = m.id; receiver = m.to.pid; what = w; links = links_in m.what }) o) rest))
one_id m None rest Above first h = h
one_id m (Some w) rest Above first h = (first, h)

all_ids_of : (ms : List Message) (Above : MsgId → Type 0) → AllByRecursion Above (names_of ms) → AllByRecursion Above (map (λ (x : Letter). x.id) (filter_map letter_of ms))
all_ids_of [] Above h = tt
all_ids_of (m ∷ ms) Above h = one_id m (plain_what m.what) (filter_map letter_of ms) Above h.0 (all_ids_of ms Above h.1)

strict_one : (m : Message) (o : Option PlainWhat) (rest : List Letter) → AllByRecursion (λ (x : MsgId). id_cmp m.id x ≡ Less) (map (λ (x : Letter). x.id) rest) → IsStrictlySortedBy id_cmp (map (λ (x : Letter). x.id) rest)
    → IsStrictlySortedBy id_cmp (map (λ (x : Letter). x.id) (cons_option (option_map (λ (w : PlainWhat). record { id = m.id; receiver = m.to.pid; what = w; links = links_in m.what }) o) rest))
unfolding IsStrictlySortedBy
strict_one m None rest first h = h
strict_one m (Some w) rest first h = (first, h)

pub strict_letters : (ms : List Message) → IsStrictlySortedBy id_cmp (names_of ms) → IsStrictlySortedBy id_cmp (map (λ (x : Letter). x.id) (filter_map letter_of ms))
unfolding IsStrictlySortedBy
strict_letters [] h = tt
strict_letters (m ∷ ms) h = strict_one m (plain_what m.what) (filter_map letter_of ms) (all_ids_of ms (λ (x : MsgId). id_cmp m.id x ≡ Less) h.0) (strict_letters ms h.1)

-- ---- one list by its names

abbrev named : MsgId → List Letter → Option Letter
named i xs = find (λ (x : Letter). id_eq i x.id) xs

named_first : (x : Letter) (xs : List Letter) → named x.id (x ∷ xs) ≡ Some x
named_first x xs = ap (λ (c : Bool). cond c (Some x) (named x.id xs)) (id_eq-same x.id)

named_next : (i : MsgId) (x : Letter) (xs : List Letter) → id_eq i x.id ≡ false → named i (x ∷ xs) ≡ named i xs
named_next i x xs off = ap (λ (c : Bool). cond c (Some x) (named i xs)) off

-- a name below all
named_none : (i : MsgId) (xs : List Letter) → AllByRecursion (λ (x : MsgId). id_cmp i x ≡ Less) (map (λ (x : Letter). x.id) xs) → named i xs ≡ None
named_none i [] h = refl
named_none i (x ∷ xs) h = named_next i x xs (elim (cases_Bool (id_eq i x.id)) [ inl same ↦ absurd (false≢true (sym (not_itself i x.id h.0) ∙ (ap (λ (j : MsgId). id_eq j i) (sym (id_eq-is i x.id same)) ∙ id_eq-same i))) | inr off ↦ off ]) ∙ named_none i xs h.1

all_over : (i j : MsgId) (xs : List MsgId) → id_cmp i j ≡ Less → AllByRecursion (λ (x : MsgId). id_cmp j x ≡ Less) xs → AllByRecursion (λ (x : MsgId). id_cmp i x ≡ Less) xs
all_over i j [] e h = tt
all_over i j (x ∷ xs) e h = (id_total.trans i j x e h.0, all_over i j xs e h.1)

abbrev Ascends : List Letter → Type 0
Ascends xs = IsStrictlySortedBy id_cmp (map (λ (x : Letter). x.id) xs)

same_tails : (x : Letter) (xs ys : List Letter) (i : MsgId) → named i (x ∷ xs) ≡ named i (x ∷ ys) → named x.id xs ≡ None → named x.id ys ≡ None → named i xs ≡ named i ys
same_tails x xs ys i e none nobody = elim (cases_Bool (id_eq i x.id)) [
  | inl same ↦ let is = id_eq-is i x.id same in ap (λ (j : MsgId). named j xs) is ∙ (none ∙ (sym nobody ∙ ap (λ (j : MsgId). named j ys) (sym is)))
  | inr off ↦ sym (named_next i x xs off) ∙ (e ∙ named_next i x ys off)
]

one_list : (xs ys : List Letter) → Ascends xs → Ascends ys → ((i : MsgId) → named i xs ≡ named i ys) → xs ≡ ys
unfolding IsStrictlySortedBy
one_list [] [] h k same = refl
one_list [] (y ∷ ys) h k same = let e : None ≡ Some y = same y.id ∙ named_first y ys in cc
one_list (x ∷ xs) [] h k same = let e : Some x ≡ None = sym (named_first x xs) ∙ same x.id in cc
one_list (x ∷ xs) (y ∷ ys) h k same = by_order (λ tails. one_list xs ys h.1 k.1 tails) (id_cmp x.id y.id) refl
  where
    by_order : (((i : MsgId) → named i xs ≡ named i ys) → xs ≡ ys) → (o : Ordering) → id_cmp x.id y.id ≡ o → x ∷ xs ≡ y ∷ ys
    by_order next Less e =
        let none = named_none x.id (y ∷ ys) (e, all_over x.id y.id (map (λ (z : Letter). z.id) ys) e k.0) in
        let bad : Some x ≡ None = sym (named_first x xs) ∙ (same x.id ∙ none) in cc
    by_order next Greater e =
        let back : id_cmp y.id x.id ≡ Less = id_total.antisymm y.id x.id ∙ ap ordering_reverse e in
        let none = named_none y.id (x ∷ xs) (back, all_over y.id x.id (map (λ (z : Letter). z.id) xs) back h.0) in
        let bad : None ≡ Some y = sym none ∙ (same y.id ∙ named_first y ys) in cc
    by_order next Equal e =
        let is = id_equal x.id y.id e in
        let found : Some x ≡ Some y = sym (named_first x xs) ∙ (same x.id ∙ (ap (λ (j : MsgId). named j (y ∷ ys)) is ∙ named_first y ys)) in
        let one : x ≡ y = cc in
        let rest : (i : MsgId) → named i xs ≡ named i ys = λ i.
        same_tails x xs ys i (same i ∙ ap (λ (z : Letter). named i (z ∷ ys)) (sym one)) (named_none x.id xs h.0) (subst (λ (j : MsgId). named j ys ≡ None) (sym is) (named_none y.id ys k.0)) in
        ap (λ (z : Letter). z ∷ xs) one ∙ ap (λ (zs : List Letter). y ∷ zs) (next rest)

pub letters_are_one : LettersAreOne
letters_are_one pt ls ms h k = one_list ls ms h.ascending k.ascending (λ i. h.each i ∙ sym (k.each i))
