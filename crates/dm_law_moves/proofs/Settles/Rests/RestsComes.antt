-- A delivery keeps what has been done on each pair of machines.
use Rattle.dm_law_moves.proofs.Names.{◌≡◌, ◌≢◌, ◌⊎◌, ℕ, zero, suc, ◌+◌, ◌<◌, ◌≤◌, ◌==◌, ◌&&◌, ◌||◌, not, Bool, true, false, List, [], ◌∷◌, ◌++◌, length, nat_lt, refl, ap, ◌∙◌, sym, subst, inl, inr, arith, if◌then◌else◌, slice_get, Option}
use Rattle.dm_law_moves.proofs.Names.{None, Some, false≢true, eqb_tells, nat_tests, Line, Load, at_pair, Part, Says, Transmits, Spelled, spelled, pair_window, Point, arrives, comes, has, kept_from, let_go, repeats, taking_parts, takes_on}
use Rattle.dm_law_moves.proofs.Names.{Pair, SentLoad, View, at_least, marked, view_after, Apart, KeptStands, set_other, set_same, off, off_has, onward, says_view, taken_pair, transmits_view, IsNet, IsNetLine, PairRests, not_true}
use Rattle.dm_law_rule.proofs.Pairs.Moves.{or_cases}
use Rattle.dm_law_moves.proofs.Names.{or_second}
use Rattle.dm_law_moves.proofs.Trail.Rows.{or_first}
use Rattle.dm_law_rule.specs.View as view
use Rattle.dm_law_moves.proofs.Settles.Rests.RestsPairs.{Comes, ack_back, ack_rests, acknowledged, data_back, data_rests, heard_of, repeated, sent_all}
use Rattle.dm_law_moves.proofs.Settles.Rests.RestsParts.{Rest, Two, rest_two}
use Rattle.dm_law_rule.proofs.Phases.Rests.{eq_other}

-- the pairs behind the parts of a delivery
abbrev pub took : ℕ → Pair → Pair
took n p = record p { taken = p.taken + 1; kept = off n p.kept }

abbrev pub early : ℕ → Pair → Pair
early n p = record p { kept = n ∷ off n p.kept }

abbrev pub pairs_line : (ℕ → ℕ → Pair) → Line → ℕ → ℕ → Pair
pairs_line f (Line.Taken a b n) = at_pair f a b (took n (f a b))
pairs_line f (Line.Early a b n) = at_pair f a b (early n (f a b))
pairs_line f (Line.Acked a b n) = at_pair f b a (acknowledged n (f b a))
pairs_line f l = f

abbrev pub pairs_part : (ℕ → ℕ → Pair) → Part → ℕ → ℕ → Pair
pairs_part f (Says l) = pairs_line f l
pairs_part f (Transmits a b l) = at_pair f a b (repeated l (f a b))
pairs_part f _ = f

abbrev pub pairs_parts : (ℕ → ℕ → Pair) → List Part → ℕ → ℕ → Pair
pairs_parts f [] = f
pairs_parts f (p ∷ ps) = pairs_parts (pairs_part f p) ps

net_pair : (v : View) (l : Line) → IsNetLine l → (view_after v l).pair ≡ pairs_line v.pair l
net_pair v (Line.Taken a b n) is = taken_pair (view.with_pair v a b (took n (v.pair a b))) b (view.oldest (v.pair a b))
net_pair v (Line.Old a b n) is = refl
net_pair v (Line.Early a b n) is = refl
net_pair v (Line.Acked a b n) is = refl
net_pair v Line.Nothing is = refl
net_pair v (Line.Resent m n) is = refl
net_pair v _ is = absurd is

pub net_pairs : (ps : List Part) (pt : Point) (w : Spelled) → IsNet ps → spelled pt ps ≡ Some w → w.point.view.pair ≡ pairs_parts pt.view.pair ps
net_pairs [] pt w is e = let f : record { lines = []; point = pt } ≡ w = cc in ap (λ (x : Spelled). x.point.view.pair) (sym f)
net_pairs (Says l ∷ ps) pt w is e =
    let o = onward pt (Says l) ps w e in
    ap (λ (q : Point). q.view.pair) (sym o.end) ∙ net_pairs ps o.next o.rest is.1 o.on
    ∙ ap (λ (f : ℕ → ℕ → Pair). pairs_parts f ps) (ap (λ (v : View). v.pair) (says_view pt l ps w o) ∙ net_pair pt.view l is.0)
net_pairs (Transmits a b l ∷ ps) pt w is e =
    let o = onward pt (Transmits a b l) ps w e in
    ap (λ (q : Point). q.view.pair) (sym o.end) ∙ net_pairs ps o.next o.rest is.1 o.on
    ∙ ap (λ (f : ℕ → ℕ → Pair). pairs_parts f ps) (ap (λ (v : View). v.pair) (transmits_view pt a b l ps w o))
net_pairs _ pt w is e = absurd is.0

pub parts_both : (f : ℕ → ℕ → Pair) (ps qs : List Part) → pairs_parts f (ps ++ qs) ≡ pairs_parts (pairs_parts f ps) qs
parts_both f [] qs = refl
parts_both f (p ∷ ps) qs = parts_both (pairs_part f p) ps qs

-- only one pair changes
record Only (f g : ℕ → ℕ → Pair) (a b : ℕ) (p : Pair) : Type 0 where
  there : g a b ≡ p
  others : (c d : ℕ) → ((a == c) && (b == d)) ≡ false → g c d ≡ f c d

abbrev took_all : List ℕ → Pair → Pair
took_all [] p = p
took_all (n ∷ ns) p = took_all ns (took n p)

takes_only : (a b : ℕ) (ns : List ℕ) (f : ℕ → ℕ → Pair) → Only f (pairs_parts f (taking_parts a b ns)) a b (took_all ns (f a b))
takes_only a b [] f = record { there = refl; others = λ c d e. refl }
takes_only a b (n ∷ ns) f =
    let g = at_pair f a b (took n (f a b)) in
    let k = takes_only a b ns g in
    record { there = k.there ∙ ap (took_all ns) (set_same f a b (took n (f a b))); others = λ c d e. k.others c d e ∙ set_other f a b (took n (f a b)) c d e }

repeats_only : (a b : ℕ) (ns : List ℕ) (f : ℕ → ℕ → Pair) → Only f (pairs_parts f (repeats a b ns)) a b (sent_all ns (f a b))
repeats_only a b [] f = record { there = refl; others = λ c d e. refl }
repeats_only a b (n ∷ ns) f =
    let p = repeated (Load.Data n) (f a b) in
    let k = repeats_only a b ns (at_pair f a b p) in
    record { there = k.there ∙ ap (sent_all ns) (set_same f a b p); others = λ c d e. k.others c d e ∙ set_other f a b p c d e }

not_back : (a b : ℕ) → (a == b) ≡ false → ((a == b) && (b == a)) ≡ false
not_back a b e = grind (arith, nat_tests)

-- a packet was marked; the one pair changed, and then the one that leads back
both_change : (f g h : ℕ → ℕ → Pair) (a b k : ℕ) (p' q' : Pair) → (a == b) ≡ false → Only (at_pair f a b (marked (f a b) k)) g a b p' → Only g h b a q' → Two f h a b p' q'
both_change f g h a b k p' q' ab x y = record {
  there = y.others a b (not_back b a (eq_other a b ab)) ∙ x.there;
  back = y.there;
  others = λ c d off apart. y.others c d apart ∙ x.others c d off ∙ set_other f a b (marked (f a b) k) c d off;
}

off_one : (n j : ℕ) (ks : List ℕ) (x : ℕ) (b : Bool) → (x == n) ≡ b → off n (x ∷ ks) ≡ (if b then off n ks else x ∷ off n ks)
off_one n j ks x true e = ap (λ (c : Bool). if not c then x ∷ off n ks else off n ks) e
off_one n j ks x false e = ap (λ (c : Bool). if not c then x ∷ off n ks else off n ks) e

keeps_by : (n j : ℕ) (ks : List ℕ) (x : ℕ) (b : Bool) → (x == n) ≡ b → j ≢ n → has j (x ∷ ks) ≡ true → (has j ks ≡ true → has j (off n ks) ≡ true) → has j (if b then off n ks else x ∷ off n ks) ≡ true
keeps_by n j ks x true e apart h more = elim (or_cases (j == x) (has j ks) h) [
  | inl same ↦ absurd (let f : x ≡ n = grind (arith, nat_tests) in let g : j ≡ x = grind (arith, nat_tests) in apart (g ∙ f))
  | inr rest ↦ more rest.1
]
keeps_by n j ks x false e apart h more = elim (or_cases (j == x) (has j ks) h) [
  | inl same ↦ or_first (j == x) (has j (off n ks)) same
  | inr rest ↦ or_second (j == x) (has j (off n ks)) (more rest.1)
]

off_keeps : (n j : ℕ) (ks : List ℕ) → j ≢ n → has j ks ≡ true → has j (off n ks) ≡ true
off_keeps n j [] apart h = absurd (false≢true h)
off_keeps n j (x ∷ ks) apart h = ap (has j) (off_one n j ks x (x == n) refl) ∙ keeps_by n j ks x (x == n) refl apart h (off_keeps n j ks apart)

-- messages that are taken one after the other
took_stays : (ns : List ℕ) (p : Pair) → ((took_all ns p).ids ≡ p.ids) × ((took_all ns p).gone ≡ p.gone) × ((took_all ns p).acked ≡ p.acked) × ((took_all ns p).wire ≡ p.wire) × ((took_all ns p).taken ≡ p.taken + length ns)
took_stays [] p = (refl, refl, refl, refl, omega arith)
took_stays (n ∷ ns) p = let k = took_stays ns (took n p) in let t = k.4 in (k.0, k.1, k.2, k.3, omega (arith, t))

abbrev KeepsOn : List ℕ → ℕ → Pair → Type 0
KeepsOn ns m p = (j : ℕ) → has j p.kept ≡ true → (j < m + length ns) ⊎ (has j (took_all ns p).kept ≡ true)

keeps_from : (m : ℕ) (others : List ℕ) (p : Pair) (b : Bool) → KeepsOn others (m + 1) (took m p) → KeepsOn (if b then m ∷ others else []) m p
keeps_from m others p false later j h = inr h
keeps_from m others p true later j h = elim (eqb_tells j m) [
  | inl same ↦ inl (let e = same.1 in omega (arith, e))
  | inr apart ↦ elim (later j (off_keeps m j p.kept apart.1 h)) [
    | inl less_ ↦ inl (omega (arith, less_))
    | inr kept ↦ inr kept
  ]
]

took_keeps : (fuel m : ℕ) (ks : List ℕ) (p : Pair) → KeepsOn (kept_from ks m fuel) m p
took_keeps zero m ks p j h = inr h
took_keeps (suc fuel) m ks p j h = keeps_from m (kept_from ks (m + 1) fuel) p (has m ks) (took_keeps fuel (m + 1) ks (took m p)) j h

next_from : (m : ℕ) (ks others : List ℕ) (p : Pair) (b : Bool) → has m ks ≡ b → ((j : ℕ) → has j p.kept ≡ true → has j ks ≡ true) → has ((m + 1) + length others) (took_all others (took m p)).kept ≡ false
    → has (m + length (if b then m ∷ others else [])) (took_all (if b then m ∷ others else []) p).kept ≡ false
next_from m ks others p false is among later =
    ap (λ (k : ℕ). has k p.kept) (let e : m + 0 ≡ m = omega arith in e) ∙ not_true (has m p.kept) (λ h. false≢true (sym is ∙ among m h))
next_from m ks others p true is among later =
    ap (λ (k : ℕ). has k (took_all others (took m p)).kept) (let e : m + length (m ∷ others) ≡ (m + 1) + length others = omega arith in e) ∙ later

took_next : (fuel m : ℕ) (ks : List ℕ) (p : Pair) → ((j : ℕ) → has j p.kept ≡ true → has j ks ≡ true) → ((j : ℕ) → has j ks ≡ true → j < m + fuel) → has (m + length (kept_from ks m fuel)) (took_all (kept_from ks m fuel) p).kept ≡ false
took_next zero m ks p among few =
    ap (λ (k : ℕ). has k p.kept) (let e : m + 0 ≡ m = omega arith in e) ∙ not_true (has m p.kept) (λ h. let x = few m (among m h) in absurd (omega (arith, x)))
took_next (suc fuel) m ks p among few =
    next_from m ks (kept_from ks (m + 1) fuel) p (has m ks) refl among
    (took_next fuel (m + 1) ks (took m p) (λ j h. among j (off_has m j p.kept h).0) (λ j h. let x = few j h in omega (arith, x)))

-- a data packet
data_two : (f h : ℕ → ℕ → Pair) (a b k n : ℕ) (s : SentLoad) (p' : Pair) → (a == b) ≡ false → slice_get (f a b).wire k ≡ Some s → s.load ≡ Load.Data n → Comes (f a b) p' k n → Two f h a b p' (repeated (Load.Ack p'.taken) (f b a)) → Rest f → Rest h
data_two f h a b k n s p' ab is carries c two r =
    rest_two f h a b p' (repeated (Load.Ack p'.taken) (f b a)) two (data_rests (f a b) p' (f b a) k n s is carries c (r a b ab)) (data_back (f a b) p' (f b a) k n s is carries c (r b a (eq_other a b ab))) r

-- its group's pairs: what comes of the one, and then the acknowledgement
ack_only : (g : ℕ → ℕ → Pair) (b a t : ℕ) → Only g (at_pair g b a (repeated (Load.Ack t) (g b a))) b a (repeated (Load.Ack t) (g b a))
ack_only g b a t = record { there = set_same g b a (repeated (Load.Ack t) (g b a)); others = λ c d e. set_other g b a (repeated (Load.Ack t) (g b a)) c d e }

acked_two : (f g : ℕ → ℕ → Pair) (a b k t : ℕ) (p' : Pair) → (a == b) ≡ false → t ≡ p'.taken → Only (at_pair f a b (marked (f a b) k)) g a b p' → Two f (at_pair g b a (repeated (Load.Ack t) (g b a))) a b p' (repeated (Load.Ack p'.taken) (f b a))
acked_two f g a b k t p' ab taken x =
    let same : g b a ≡ f b a = x.others b a (not_back a b ab) ∙ set_other f a b (marked (f a b) k) b a (not_back a b ab) in
    subst (λ (q : Pair). Two f (at_pair g b a (repeated (Load.Ack t) (g b a))) a b p' q) (ap (λ (j : ℕ). repeated (Load.Ack j) (g b a)) taken ∙ ap (repeated (Load.Ack p'.taken)) same)
    (both_change f g (at_pair g b a (repeated (Load.Ack t) (g b a))) a b k p' (repeated (Load.Ack t) (g b a)) ab x (ack_only g b a t))

marked_only : (f : ℕ → ℕ → Pair) (a b k : ℕ) → Only (at_pair f a b (marked (f a b) k)) (at_pair f a b (marked (f a b) k)) a b (marked (f a b) k)
marked_only f a b k = record { there = set_same f a b (marked (f a b) k); others = λ c d e. refl }

early_only : (f : ℕ → ℕ → Pair) (a b k n : ℕ) → let g = at_pair f a b (marked (f a b) k) in Only g (at_pair g a b (early n (g a b))) a b (early n (marked (f a b) k))
early_only f a b k n =
    let g = at_pair f a b (marked (f a b) k) in
    record { there = set_same g a b (early n (g a b)) ∙ ap (early n) (set_same f a b (marked (f a b) k)); others = λ c d e. set_other g a b (early n (g a b)) c d e }

old_comes : (p q : Pair) (k n : ℕ) → n < p.taken → PairRests p q → Comes p (marked p k) k n
old_comes p q k n old h = record { ids = refl; gone = refl; acked = refl; wire = refl; taken = omega arith; next = h.next; new = inl old; keeps = λ j kept. inr kept }

here_has : (n : ℕ) (ks : List ℕ) → has n (n ∷ ks) ≡ true
here_has n ks = or_first (n == n) (has n ks) (grind (arith, nat_tests))

not_here : (t n : ℕ) (ks : List ℕ) → t < n → has t ks ≡ false → has t (n ∷ ks) ≡ false
not_here t n ks less_ e = ap (λ (b : Bool). b || has t ks) (let f : (t == n) ≡ false = grind (arith, nat_tests) in f) ∙ e

early_comes : (p q : Pair) (k n : ℕ) → p.taken < n → PairRests p q → Comes p (early n (marked p k)) k n
early_comes p q k n ahead h = record {
  ids = refl;
  gone = refl;
  acked = refl;
  wire = refl;
  taken = omega arith;
  next = not_here p.taken n (off n p.kept) ahead (not_true (has p.taken (off n p.kept)) (λ e. false≢true (sym h.next ∙ (off_has n p.taken p.kept e).0)));
  new = inr (here_has n (off n p.kept));
  keeps = λ j kept. elim (eqb_tells j n) [
    | inl same ↦ inr (or_first (j == n) (has j (off n p.kept)) same.0)
    | inr apart ↦ inr (or_second (j == n) (has j (off n p.kept)) (off_keeps n j p.kept apart.1 kept))
  ];
}

-- the next number comes, and those behind it that came early
took_comes : (p q : Pair) (k n : ℕ) → p.taken ≡ n → KeptStands p → p.gone ≤ p.acked + 8 → p.acked ≤ p.taken → Comes p (took_all (n ∷ kept_from p.kept (n + 1) pair_window) (marked p k)) k n
took_comes p q k n at stands full under =
    let others = kept_from p.kept (n + 1) pair_window in
    let first = took n (marked p k) in
    let p' = took_all others first in
    let x = took_stays others first in
    let count = x.4 in
    let one : first.taken ≡ n + 1 = ap (λ (j : ℕ). j + 1) at in
    let all : p'.taken ≡ (n + 1) + length others = omega (arith, count, one) in
    let later = took_keeps pair_window (n + 1) p.kept first in
    record {
      ids = x.0;
      gone = x.1;
      acked = x.2;
      wire = x.3;
      taken = omega (arith, count);
      next = ap (λ (j : ℕ). has j p'.kept) all
          ∙ took_next pair_window (n + 1) p.kept first (λ j h. (off_has n j p.kept h).0) (λ j h. let y = (stands j h).1 in omega (arith, y, full, under, at));
      new = inl (omega (arith, all));
      keeps = λ j kept. elim (eqb_tells j n) [
        | inl same ↦ inl (let e = same.1 in omega (arith, all, e))
        | inr apart ↦ elim (later j (off_keeps n j p.kept apart.1 kept)) [ inl less_ ↦ inl (omega (arith, all, less_)) | inr still ↦ inr still ]
      ];
    }

data_by : (f h : ℕ → ℕ → Pair) (a b k n : ℕ) (s : SentLoad) (old ahead : Bool) → nat_lt n (f a b).taken ≡ old → nat_lt (f a b).taken n ≡ ahead → (a == b) ≡ false → slice_get (f a b).wire k ≡ Some s → s.load ≡ Load.Data n
    → Apart (f a b) (f b a) → KeptStands (f a b) → Rest f
    → h ≡ pairs_parts (at_pair f a b (marked (f a b) k)) (if old then Says (Line.Old a b n) ∷ Transmits b a (Load.Ack (f a b).taken) ∷ []
    else if ahead then Says (Line.Early a b n) ∷ Transmits b a (Load.Ack (f a b).taken) ∷ []
    else takes_on a b n (kept_from (f a b).kept (n + 1) pair_window)) → Rest h
data_by f h a b k n s true ahead is_old is_ahead ab there carries apart kept r e =
    let p = f a b in
    subst Rest (sym e)
    (data_two f _ a b k n s (marked p k) ab there carries (old_comes p (f b a) k n (grind (arith, nat_tests)) (r a b ab)) (acked_two f (at_pair f a b (marked p k)) a b k p.taken (marked p k) ab refl (marked_only f a b k)) r)
data_by f h a b k n s false true is_old is_ahead ab there carries apart kept r e =
    let p = f a b in
    let g = at_pair f a b (marked p k) in
    subst Rest (sym e)
    (data_two f _ a b k n s (early n (marked p k)) ab there carries (early_comes p (f b a) k n (grind (arith, nat_tests)) (r a b ab)) (acked_two f (at_pair g a b (early n (g a b))) a b k p.taken (early n (marked p k)) ab refl (early_only f a b k n)) r)
data_by f h a b k n s false false is_old is_ahead ab there carries apart kept r e =
    let p = f a b in
    let g = at_pair f a b (marked p k) in
    let others = kept_from p.kept (n + 1) pair_window in
    let at : p.taken ≡ n = grind (arith, nat_tests) in
    let t = n + 1 + length others in
    let p' = took_all (n ∷ others) (marked p k) in
    let taken : t ≡ p'.taken = let x = (took_stays (n ∷ others) (marked p k)).4 in omega (arith, x, at) in
    let only = takes_only a b (n ∷ others) g in
    let mid = pairs_parts g (taking_parts a b (n ∷ others)) in
    let to : Only g mid a b p' = record { there = only.there ∙ ap (took_all (n ∷ others)) (set_same f a b (marked p k)); others = only.others } in
    subst Rest (sym (e ∙ parts_both g (taking_parts a b (n ∷ others)) (Transmits b a (Load.Ack t) ∷ [])))
    (data_two f _ a b k n s p' ab there carries (took_comes p (f b a) k n at kept apart.full apart.acked) (acked_two f mid a b k t p' ab taken to) r)

-- an acknowledgement
ack_comes : (f h : ℕ → ℕ → Pair) (a b k n : ℕ) (s : SentLoad) → (a == b) ≡ false → slice_get (f a b).wire k ≡ Some s → s.load ≡ Load.Ack n → Apart (f b a) (f a b) → Rest f
    → h ≡ pairs_parts (at_pair f a b (marked (f a b) k)) (Says (Line.Acked a b n) ∷ repeats b a (let_go (f b a) (at_least (f b a).acked n))) → Rest h
ack_comes f h a b k n s ab there carries apart r e =
    let p = f a b in
    let q = f b a in
    let g = at_pair f a b (marked p k) in
    let top = at_least q.acked n in
    let ns = let_go q top in
    let mid = at_pair g b a (acknowledged n (g b a)) in
    let back : g b a ≡ q = set_other f a b (marked p k) b a (not_back a b ab) in
    let only = repeats_only b a ns mid in
    let last : Only g (pairs_parts mid (repeats b a ns)) b a (heard_of q n top) = record {
      there = only.there ∙ ap (sent_all ns) (set_same g b a (acknowledged n (g b a)) ∙ ap (acknowledged n) back);
      others = λ c d off. only.others c d off ∙ set_other g b a (acknowledged n (g b a)) c d off;
    } in
    let ba = eq_other a b ab in
    subst Rest (sym e)
    (rest_two f (pairs_parts mid (repeats b a ns)) a b (marked p k) (heard_of q n top) (both_change f g (pairs_parts mid (repeats b a ns)) a b k (marked p k) (heard_of q n top) ab (marked_only f a b k) last)
    (ack_back p q k n top s there carries (r a b ab)) (ack_rests p q k n top s there carries refl apart.gone apart.full (r b a ba)) r)

comes_rest : (f h : ℕ → ℕ → Pair) (a b k : ℕ) (s : SentLoad) (l : Load) → (a == b) ≡ false → slice_get (f a b).wire k ≡ Some s → s.load ≡ l → Apart (f a b) (f b a) → Apart (f b a) (f a b) → KeptStands (f a b) → Rest f
    → h ≡ pairs_parts (at_pair f a b (marked (f a b) k)) (comes a b (f a b) (f b a) l) → Rest h
comes_rest f h a b k s (Load.Data n) ab there carries apart back kept r e =
    data_by f h a b k n s (nat_lt n (f a b).taken) (nat_lt (f a b).taken n) refl refl ab there carries apart kept r e
comes_rest f h a b k s (Load.Ack n) ab there carries apart back kept r e = ack_comes f h a b k n s ab there carries back r e

-- whatever is delivered
pub arrives_rest : (f h : ℕ → ℕ → Pair) (a b k : ℕ) (o : Option SentLoad) → (a == b) ≡ false → slice_get (f a b).wire k ≡ o → Apart (f a b) (f b a) → Apart (f b a) (f a b) → KeptStands (f a b) → Rest f
    → h ≡ pairs_parts (at_pair f a b (marked (f a b) k)) (arrives a b (f a b) (f b a) o) → Rest h
arrives_rest f h a b k None ab there apart back kept r e =
    let p = f a b in
    let same : marked p k ≡ p = ap (λ (o : Option SentLoad). record p { wire = view.marked_at p.wire k o }) there in
    let two : Two f (at_pair f a b (marked p k)) a b p (f b a) = record {
      there = set_same f a b (marked p k) ∙ same;
      back = set_other f a b (marked p k) b a (not_back a b ab);
      others = λ c d off other. set_other f a b (marked p k) c d off;
    } in
    subst Rest (sym e) (rest_two f (at_pair f a b (marked p k)) a b p (f b a) two (r a b ab) (r b a (eq_other a b ab)) r)
arrives_rest f h a b k (Some s) ab there apart back kept r e = comes_rest f h a b k s s.load ab there refl apart back kept r e
