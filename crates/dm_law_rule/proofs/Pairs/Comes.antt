-- A delivery keeps the pairs of machines.
use Rattle.dm_law_rule.proofs.Names.{◌≡◌, ℕ, zero, suc, ◌+◌, ◌-◌, ◌<◌, ◌≤◌, ◌==◌, ◌&&◌, Bool, true, false, List, [], ◌∷◌, ◌++◌, refl, ap, ◌∙◌, sym, subst, nat_lt, inl, inr, arith, length, ◌≢◌, if◌then◌else◌, slice_get, Option, None, Some}
use Rattle.dm_law_rule.proofs.Names.{cases_Bool, false≢true, nat_tests, Line, Load, at_pair, View, Pair, SentLoad, with_pair, oldest, at_least, marked, Point, Part, Says, Transmits, Spelled, spelled, pair_window, has, kept_from, taking_parts}
use Rattle.dm_law_rule.proofs.Names.{takes_on, less, let_go, arrives, numbers_from, repeats, comes}
use Rattle.dm_law_rule.proofs.Pairs.Stand.{LoadStands, Apart, KeptStands, Stand, WireStands-at, set_same, set_other, two_of, Stand-set}
use Rattle.dm_law_rule.proofs.Pairs.Moves.{Paired, Goes, changed, packed, next_goes, off, off_has, or_cases, at_least-more}
use Rattle.dm_law_rule.proofs.Pairs.Lines.{Onward, onward, says_view, transmits_view, taken_pair, keeps}

-- a number comes early
abbrev early : ℕ → Pair → Pair
early n p = record p { kept = n ∷ off n p.kept }

early_goes : (f : ℕ → ℕ → Pair) (a b n : ℕ) → (a == b) ≡ false → (f a b).taken < n → n < (f a b).gone → Paired f → Goes f (at_pair f a b (early n (f a b)))
early_goes f a b n ab above below h =
    let early_kept : (n : ℕ) (p : Pair) → p.taken < n → n < p.gone → KeptStands p → KeptStands (early n p) = λ n p above below h k e. grind (arith, nat_tests, or_cases, off_has) in
    let x = h.stand.apart a b ab in
    changed f a b (early n (f a b)) ab (record { acked = x.acked; taken = x.taken; gone = x.gone; full = x.full; wire = x.wire }) (omega arith) (omega arith) (early_kept n (f a b) above below (h.kept a b)) h

-- between takes: the numbers that are kept may begin with the next one
record Mid (f : ℕ → ℕ → Pair) (a b : ℕ) (ks : List ℕ) : Type 0 where
  stand : Stand f
  others : (c d : ℕ) → ((a == c) && (b == d)) ≡ false → KeptStands (f c d)
  here : (k : ℕ) → has k (f a b).kept ≡ true → ((f a b).taken ≤ k) × (has k ks ≡ true)
  bound : (k : ℕ) → has k ks ≡ true → k < (f a b).gone

abbrev took : ℕ → Pair → Pair
took n p = record p { taken = p.taken + 1; kept = off n p.kept }

mid_take : (f : ℕ → ℕ → Pair) (a b n : ℕ) (ks : List ℕ) → (a == b) ≡ false → (f a b).taken ≡ n → n < (f a b).gone → Mid f a b ks → Mid (at_pair f a b (took n (f a b))) a b ks
mid_take f a b n ks ab is below h =
    let took_here : (n : ℕ) (p : Pair) (ks : List ℕ) → p.taken ≡ n → ((k : ℕ) → has k p.kept ≡ true → (p.taken ≤ k) × (has k ks ≡ true)) → (k : ℕ) → has k (off n p.kept) ≡ true → (p.taken + 1 ≤ k) × (has k ks ≡ true) =
    λ n p ks is h k e. let x = off_has n k p.kept e in let y = h k x.0 in (omega (arith, x.1, y.0), y.1) in
    let same : took n (f a b) ≡ at_pair f a b (took n (f a b)) a b = sym (set_same f a b (took n (f a b))) in
    record {
      stand = Stand-set f a b (took n (f a b)) ab ((search arith)) (omega arith) h.stand;
      others = λ c d e. subst KeptStands (sym (set_other f a b (took n (f a b)) c d e)) (h.others c d e);
      here = subst (λ (p : Pair). (k : ℕ) → has k p.kept ≡ true → (p.taken ≤ k) × (has k ks ≡ true)) same (took_here n (f a b) ks is h.here);
      bound = subst (λ (p : Pair). (k : ℕ) → has k ks ≡ true → k < p.gone) same h.bound;
    }

mid_kept : (f : ℕ → ℕ → Pair) (a b : ℕ) (ks : List ℕ) → ((k : ℕ) → has k ks ≡ true → (f a b).taken ≢ k) → Mid f a b ks → KeptStands (f a b)
mid_kept f a b ks done h k e = let x = h.here k e in let y = done k x.1 in (omega (arith, x.0, y), h.bound k x.1)

mid_end : (f : ℕ → ℕ → Pair) (a b : ℕ) (ks : List ℕ) → ((k : ℕ) → has k ks ≡ true → (f a b).taken ≢ k) → Mid f a b ks → Paired f
mid_end f a b ks done h = record {
  stand = h.stand;
  kept = λ c d. (search (arith, two_of, mid_kept));
}

-- once the takes have ended
record Took (a b end : ℕ) (tail : List Part) (w : Spelled) : Type 0 where
  at : Point
  paired : Paired at.view.pair
  taken : (at.view.pair a b).taken ≡ end
  rest : Spelled
  on : spelled at tail ≡ Some rest
  leads : rest.point ≡ w.point

took_pair : (pt : Point) (a b n : ℕ) (ps : List Part) (w : Spelled) (o : Onward pt (Says (Line.Taken a b n)) ps w) → o.next.view.pair ≡ at_pair pt.view.pair a b (took n (pt.view.pair a b))
took_pair pt a b n ps w o =
    ap (λ (v : View). v.pair) (says_view pt (Line.Taken a b n) ps w o) ∙ taken_pair (with_pair pt.view a b (took n (pt.view.pair a b))) b (oldest (pt.view.pair a b))

at_two : (f g : ℕ → ℕ → Pair) (a b : ℕ) (p : Pair) → g ≡ at_pair f a b p → g a b ≡ p
at_two f g a b p e = ap (λ (h : ℕ → ℕ → Pair). h a b) e ∙ set_same f a b p

takes_keep : (fuel m a b : ℕ) (ks : List ℕ) (tail : List Part) (pt : Point) (w : Spelled) → (a == b) ≡ false → (pt.view.pair a b).taken ≡ m → (pt.view.pair a b).gone ≤ m + fuel → Mid pt.view.pair a b ks
    → spelled pt (taking_parts a b (kept_from ks m fuel) ++ tail) ≡ Some w → Took a b (m + length (kept_from ks m fuel)) tail w
takes_keep zero m a b ks tail pt w ab is gone h e = record {
  at = pt;
  paired = mid_end pt.view.pair a b ks (λ k there. let x = h.bound k there in omega arith) h;
  taken = omega arith;
  rest = w;
  on = e;
  leads = refl;
}
takes_keep (suc fuel) m a b ks tail pt w ab is gone h e = elim (cases_Bool (has m ks)) [
  | inl found ↦
      let others = kept_from ks (m + 1) fuel in
      let e' : spelled pt (Says (Line.Taken a b m) ∷ (taking_parts a b others ++ tail)) ≡ Some w = subst (λ (c : Bool). spelled pt (taking_parts a b (if c then m ∷ others else []) ++ tail) ≡ Some w) found e in
      let o = onward pt (Says (Line.Taken a b m)) (taking_parts a b others ++ tail) w e' in
      let pair = took_pair pt a b m (taking_parts a b others ++ tail) w o in
      let here : o.next.view.pair a b ≡ took m (pt.view.pair a b) = at_two pt.view.pair o.next.view.pair a b (took m (pt.view.pair a b)) pair in
      let taken : (o.next.view.pair a b).taken ≡ (pt.view.pair a b).taken + 1 = ap (λ (p : Pair). p.taken) here in
      let out : (o.next.view.pair a b).gone ≡ (pt.view.pair a b).gone = ap (λ (p : Pair). p.gone) here in
      let mid : Mid o.next.view.pair a b ks = subst (λ (g : ℕ → ℕ → Pair). Mid g a b ks) (sym pair) (mid_take pt.view.pair a b m ks ab is (h.bound m found) h) in
      let t = takes_keep fuel (m + 1) a b ks tail o.next o.rest ab (omega arith) (omega arith) mid o.on in
      let long : length (if has m ks then m ∷ others else []) ≡ length (m ∷ others) = ap (λ (c : Bool). length (if c then m ∷ others else [])) found in
      record { at = t.at; paired = t.paired; taken = t.taken ∙ (omega (arith, long)); rest = t.rest; on = t.on; leads = t.leads ∙ o.end }
  | inr lacks ↦
      let others = kept_from ks (m + 1) fuel in
      let e' : spelled pt tail ≡ Some w = subst (λ (c : Bool). spelled pt (taking_parts a b (if c then m ∷ others else []) ++ tail) ≡ Some w) lacks e in
      let long : length (if has m ks then m ∷ others else []) ≡ 0 = ap (λ (c : Bool). length (if c then m ∷ others else [])) lacks in
      let none_next : (f : ℕ → ℕ → Pair) (a b m : ℕ) (ks : List ℕ) → (f a b).taken ≡ m → has m ks ≡ false → (k : ℕ) → has k ks ≡ true → (f a b).taken ≢ k =
      λ f a b m ks is lacks k e same. false≢true (sym lacks ∙ ap (λ (n : ℕ). has n ks) (sym is ∙ same) ∙ e) in
      record { at = pt; paired = mid_end pt.view.pair a b ks (none_next pt.view.pair a b m ks is lacks) h; taken = omega (arith, is, long); rest = w; on = e'; leads = refl }
]

-- data that comes in order
in_order : (pt : Point) (a b n : ℕ) (ks : List ℕ) (w : Spelled) → (a == b) ≡ false → (b == a) ≡ false → (pt.view.pair a b).taken ≡ n → n < (pt.view.pair a b).gone → (pt.view.pair a b).kept ≡ ks → Paired pt.view.pair
    → spelled pt (takes_on a b n (kept_from ks (n + 1) pair_window)) ≡ Some w → Paired w.point.view.pair
in_order pt a b n ks w ab ba is below kept h e =
    -- then the count is acknowledged
    let then_acked : (a b end : ℕ) (w : Spelled) → (b == a) ≡ false → Took a b end (Transmits b a (Load.Ack end) ∷ []) w → Paired w.point.view.pair = λ a b end w ba t.
    subst (λ (q : Point). Paired q.view.pair) t.leads (let k : Paired t.rest.point.view.pair = keeps (Transmits b a (Load.Ack end) ∷ []) t.at t.rest ((ba, let y = t.taken in omega (arith, y)), tt) t.paired t.on in k) in
    let others = kept_from ks (n + 1) pair_window in
    let tail = Transmits b a (Load.Ack (n + 1 + length others)) ∷ [] in
    let o = onward pt (Says (Line.Taken a b n)) (taking_parts a b others ++ tail) w e in
    let pair = took_pair pt a b n (taking_parts a b others ++ tail) w o in
    let here : o.next.view.pair a b ≡ took n (pt.view.pair a b) = at_two pt.view.pair o.next.view.pair a b (took n (pt.view.pair a b)) pair in
    let taken : (o.next.view.pair a b).taken ≡ (pt.view.pair a b).taken + 1 = ap (λ (p : Pair). p.taken) here in
    let out : (o.next.view.pair a b).gone ≡ (pt.view.pair a b).gone = ap (λ (p : Pair). p.gone) here in
    let x = h.stand.apart a b ab in
    let full = x.full in
    let acked = x.acked in
    let start : Mid pt.view.pair a b ks = subst (Mid pt.view.pair a b) kept ((search arith)) in
    let t = takes_keep pair_window (n + 1) a b ks tail o.next o.rest ab (omega arith) (omega arith) (subst (λ (g : ℕ → ℕ → Pair). Mid g a b ks) (sym pair) (mid_take pt.view.pair a b n ks ab is below start)) o.on in
    subst (λ (q : Point). Paired q.view.pair) o.end (then_acked a b (n + 1 + length others) o.rest ba t)

-- data comes
data_by : (pt : Point) (a b n : ℕ) (p : Pair) (w : Spelled) (old ahead : Bool) → nat_lt n p.taken ≡ old → nat_lt p.taken n ≡ ahead → (a == b) ≡ false → (b == a) ≡ false
    → (pt.view.pair a b).taken ≡ p.taken → n < (pt.view.pair a b).gone → (pt.view.pair a b).kept ≡ p.kept → Paired pt.view.pair
    → spelled pt (if old then Says (Line.Old a b n) ∷ Transmits b a (Load.Ack p.taken) ∷ []
    else if ahead then Says (Line.Early a b n) ∷ Transmits b a (Load.Ack p.taken) ∷ []
    else takes_on a b n (kept_from p.kept (n + 1) pair_window)) ≡ Some w → Paired w.point.view.pair
data_by pt a b n p w true ahead f g ab ba is below kept h e =
    keeps (Says (Line.Old a b n) ∷ Transmits b a (Load.Ack p.taken) ∷ []) pt w (refl, ((ba, omega arith), tt)) h e
data_by pt a b n p w false true f g ab ba is below kept h e =
    let tail = Transmits b a (Load.Ack p.taken) ∷ [] in
    let o = onward pt (Says (Line.Early a b n)) tail w e in
    let goes : Goes pt.view.pair o.next.view.pair =
    subst (λ (v : View). Goes pt.view.pair v.pair) (sym (says_view pt (Line.Early a b n) tail w o)) (early_goes pt.view.pair a b n ab (let above : (pt.view.pair a b).taken < n = grind (arith, nat_tests) in above) below h) in
    subst (λ (q : Point). Paired q.view.pair) o.end (let k : Paired o.rest.point.view.pair = keeps tail o.next o.rest ((ba, omega (arith, goes.later.taken a b, is)), tt) goes.paired o.on in k)
data_by pt a b n p w false false f g ab ba is below kept h e =
    let same : p.taken ≡ n = grind (arith, nat_tests) in in_order pt a b n p.kept w ab ba (is ∙ same) below kept h e

-- what waited goes out
go_keep : (k n a b : ℕ) (pt : Point) (w : Spelled) → (a == b) ≡ false → (pt.view.pair a b).gone ≡ n → n + k ≤ length (pt.view.pair a b).ids → n + k ≤ (pt.view.pair a b).acked + 8 → Paired pt.view.pair
    → spelled pt (repeats a b (numbers_from n k)) ≡ Some w → Paired w.point.view.pair
go_keep zero n a b pt w ab is ids full h e = keeps [] pt w tt h e
go_keep (suc k) n a b pt w ab is ids full h e =
    let others = repeats a b (numbers_from (n + 1) k) in
    let o = onward pt (Transmits a b (Load.Data n)) others w e in
    let pair : o.next.view.pair ≡ at_pair pt.view.pair a b (packed (Load.Data n) (pt.view.pair a b)) = ap (λ (v : View). v.pair) (transmits_view pt a b (Load.Data n) others w o) in
    let goes : Goes pt.view.pair o.next.view.pair = subst (Goes pt.view.pair) (sym pair) (next_goes pt.view.pair a b n ab (sym is) (omega arith) (omega arith) h) in
    let here : o.next.view.pair a b ≡ packed (Load.Data n) (pt.view.pair a b) = at_two pt.view.pair o.next.view.pair a b (packed (Load.Data n) (pt.view.pair a b)) pair in
    let out : (o.next.view.pair a b).gone ≡ (if n == (pt.view.pair a b).gone then (pt.view.pair a b).gone + 1 else (pt.view.pair a b).gone) = ap (λ (p : Pair). p.gone) here in
    let out' : (o.next.view.pair a b).gone ≡ n + 1 = grind (arith, nat_tests) in
    let long : length (o.next.view.pair a b).ids ≡ length (pt.view.pair a b).ids = ap (λ (p : Pair). length p.ids) here in
    let acked : (o.next.view.pair a b).acked ≡ (pt.view.pair a b).acked = ap (λ (p : Pair). p.acked) here in
    subst (λ (q : Point). Paired q.view.pair) o.end (let r : Paired o.rest.point.view.pair = go_keep k (n + 1) a b o.next o.rest ab out' (omega arith) (omega arith) goes.paired o.on in r)

pub less-left : (m n : ℕ) → less m n ≤ m
less-left m n = grind (arith, nat_tests)

pub less-right : (m n : ℕ) → less m n ≤ n
less-right m n = grind (arith, nat_tests)

-- an acknowledgement comes: p is the pair that leads back
ack_comes : (pt : Point) (a b n : ℕ) (p : Pair) (w : Spelled) → (b == a) ≡ false → pt.view.pair b a ≡ p → n ≤ p.taken → Paired pt.view.pair
    → spelled pt (Says (Line.Acked a b n) ∷ repeats b a (let_go p (at_least p.acked n))) ≡ Some w → Paired w.point.view.pair
ack_comes pt a b n p w ba is le h e =
    let acked_goes : (f : ℕ → ℕ → Pair) (a b n : ℕ) → (a == b) ≡ false → n ≤ (f a b).taken → Paired f → Goes f (at_pair f a b (record (f a b) { acked = at_least (f a b).acked n })) = λ f a b n ab le h.
    let x = h.stand.apart a b ab in
    changed f a b (record (f a b) { acked = at_least (f a b).acked n }) ab
    ((search (arith, at_least-more))) (omega arith) (omega arith) (h.kept a b) h in
    let top = at_least p.acked n in
    let k = less (length p.ids - p.gone) (top + pair_window - p.gone) in
    let others = repeats b a (numbers_from p.gone k) in
    let o = onward pt (Says (Line.Acked a b n)) others w e in
    let pair : o.next.view.pair ≡ at_pair pt.view.pair b a (record (pt.view.pair b a) { acked = at_least (pt.view.pair b a).acked n }) = ap (λ (v : View). v.pair) (says_view pt (Line.Acked a b n) others w o) in
    let taken : (pt.view.pair b a).taken ≡ p.taken = ap (λ (q : Pair). q.taken) is in
    let goes : Goes pt.view.pair o.next.view.pair = subst (Goes pt.view.pair) (sym pair) (acked_goes pt.view.pair b a n ba (omega arith) h) in
    let here : o.next.view.pair b a ≡ record p { acked = at_least p.acked n } =
    at_two pt.view.pair o.next.view.pair b a (record (pt.view.pair b a) { acked = at_least (pt.view.pair b a).acked n }) pair ∙ ap (λ (q : Pair). record q { acked = at_least q.acked n }) is in
    let out : (o.next.view.pair b a).gone ≡ p.gone = ap (λ (q : Pair). q.gone) here in
    let acked : (o.next.view.pair b a).acked ≡ top = ap (λ (q : Pair). q.acked) here in
    let x = goes.paired.stand.apart b a ba in
    let left = less-left (length p.ids - p.gone) (top + pair_window - p.gone) in
    let right = less-right (length p.ids - p.gone) (top + pair_window - p.gone) in
    let r : Paired o.rest.point.view.pair = go_keep k p.gone b a o.next o.rest ba out (omega (arith, x.gone, out, ap (λ (q : Pair). length q.ids) here, left)) (omega (arith, x.full, out, acked, right)) goes.paired o.on in
    subst (λ (q : Point). Paired q.view.pair) o.end r

-- what comes, where the marked packet's pair is otherwise as it was
comes_keep : (pt : Point) (a b k : ℕ) (p back : Pair) (l : Load) (w : Spelled) → (a == b) ≡ false → (b == a) ≡ false → pt.view.pair a b ≡ marked p k → pt.view.pair b a ≡ back → LoadStands p.gone back.taken l → Paired pt.view.pair
    → spelled pt (comes a b p back l) ≡ Some w → Paired w.point.view.pair
comes_keep pt a b k p back (Load.Data n) w ab ba is other stands h e =
    data_by pt a b n p w (nat_lt n p.taken) (nat_lt p.taken n) refl refl ab ba (ap (λ (q : Pair). q.taken) is) (omega (arith, ap (λ (q : Pair). q.gone) is, stands)) (ap (λ (q : Pair). q.kept) is) h e
comes_keep pt a b k p back (Load.Ack n) w ab ba is other stands h e = ack_comes pt a b n back w ba other stands h e

pub arrives_keep : (pt : Point) (a b k : ℕ) (p back : Pair) (o : Option SentLoad) (w : Spelled) → slice_get p.wire k ≡ o → (a == b) ≡ false → (b == a) ≡ false → pt.view.pair a b ≡ marked p k → pt.view.pair b a ≡ back → Apart p back → Paired pt.view.pair
    → spelled pt (arrives a b p back o) ≡ Some w → Paired w.point.view.pair
arrives_keep pt a b k p back None w f ab ba is other x h e = keeps (Says Line.Nothing ∷ []) pt w (refl, tt) h e
arrives_keep pt a b k p back (Some s) w f ab ba is other x h e =
    comes_keep pt a b k p back s.load w ab ba is other (WireStands-at p.gone back.taken p.wire k s f x.wire) h e
