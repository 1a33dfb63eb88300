-- The turn of a machine that has mail leaves less.
use Rattle.dm_law_moves.proofs.Names.{◌≡◌, ℕ, suc, ◌+◌, ◌-◌, ◌<◌, ◌≤◌, Bool, true, false, List, [], ◌∷◌, ◌++◌, drop, length, nat_lt, refl, ap, ◌∙◌, sym, subst, inl, inr, arith, if◌then◌else◌, Option, None, Some, cases_Bool}
use Rattle.dm_schedule.proofs.Names.{length-drop}
use Rattle.dm_law_moves.proofs.Names.{false≢true, eqb_tells, leb_tells, Pid, MsgId, MessageKind, Boot, IsValid, id_eq-same, Step, Line, sum_below, IsKept, Leads, Part, Says, Spelled, spelled, is_between, Point, first_point, moved}
use Rattle.dm_law_moves.proofs.Names.{has_mail, group_of, turns, Held, Untaken, times, untaken, Pair, Told, View, view_after, group_is, hushed, pairs_stand_always, onward, pair_same, says_view, seen, touches, run_always, IsOfMove}
use Rattle.dm_law_moves.proofs.At.RestAlways.{within}
use Rattle.dm_law_moves.proofs.Names.{IsLess, Left, Messages, Numbers, Releases, left, lets_go, numbers_left, one_each, one_let_go, told_lets_go, weight, weight_of, left_ways}
use Rattle.dm_law_moves.proofs.At.RestPairs.{routed_always}
use Rattle.dm_law_moves.proofs.Promise.Finds.{leads_append}
use Rattle.dm_law_moves.proofs.ProtocolMoves.{protocol_moves}
use Rattle.dm_law_moves.proofs.Settles.Effects.{Effect, Returns, back_in, effect, line_takes, takes_front}
use Rattle.dm_law_moves.proofs.Settles.Grows.{Grows, Longer, Lowers, calm_light, grows_on, grows_same, longer_last, no_back, parts_grow, parts_longer, parts_lower, touches_none}
use Rattle.dm_law_moves.proofs.Settles.Falls.Handles.{AllCalm, comes_row, has_route, is_back}
use Rattle.dm_law_moves.proofs.Settles.Weights.{sum_falls, sum_le, weight_none}

-- the front of an inbox that has mail
pub some_mail : (xs : List MsgId) → nat_lt 0 (length xs) ≡ true → (i : MsgId) × (is : List MsgId) × (xs ≡ i ∷ is)
some_mail [] e = absurd (false≢true e)
some_mail (x ∷ xs) e = (x, xs, refl)

-- where a pair is longer, fewer messages may be routed
less_left : (m x y : ℕ) → x ≤ y → m - y ≤ m - x
less_left m x y h = omega (arith, h)

fewer_left : (m x y : ℕ) → x < y → y ≤ m → m - y < m - x
fewer_left m x y h k = omega (arith, h, k)

pub numbers_stay : (numbers n : ℕ) (v w : View) → ((a c : ℕ) → length (v.pair a c).ids ≤ length (w.pair a c).ids) → numbers_left numbers n w ≤ numbers_left numbers n v
numbers_stay numbers n v w h =
    sum_le (λ a. sum_below (λ c. numbers - length (w.pair a c).ids) n) (λ a. sum_below (λ c. numbers - length (v.pair a c).ids) n) n
    (λ a l. sum_le (λ c. numbers - length (w.pair a c).ids) (λ c. numbers - length (v.pair a c).ids) n (λ c k. less_left numbers (length (v.pair a c).ids) (length (w.pair a c).ids) (h a c)))

numbers_fall : (numbers n : ℕ) (v w : View) → Grows v.pair w.pair → (l : Longer v.pair w.pair) → l.from < n → l.to < n → length (w.pair l.from l.to).ids ≤ numbers → numbers_left numbers n w < numbers_left numbers n v
numbers_fall numbers n v w h l from to most =
    let each = λ (a c : ℕ). less_left numbers (length (v.pair a c).ids) (length (w.pair a c).ids) (h.ids a c) in
    sum_falls (λ a. sum_below (λ c. numbers - length (v.pair a c).ids) n) (λ a. sum_below (λ c. numbers - length (w.pair a c).ids) n) n l.from from
    (λ a k. sum_le (λ c. numbers - length (w.pair a c).ids) (λ c. numbers - length (v.pair a c).ids) n (λ c j. each a c))
    (sum_falls (λ c. numbers - length (v.pair l.from c).ids) (λ c. numbers - length (w.pair l.from c).ids) n l.to to (λ c j. each l.from c)
    (fewer_left numbers (length (v.pair l.from l.to).ids) (length (w.pair l.from l.to).ids) l.more most))

-- it is one of the machines that there are
first_there : (xs : List MsgId) → 0 < length xs → (i : MsgId) × (1 ≤ times i xs)
first_there [] h = absurd (omega (arith, h))
first_there (x ∷ xs) h = (x, let e : times x (x ∷ xs) ≡ 1 + times x xs = ap (λ (c : Bool). (if c then 1 else 0) + times x xs) (id_eq-same x) in omega (arith, e))

not_empty : (xs : List MsgId) → 0 < length xs → xs ≡ [] → ⊥
not_empty xs h e = let f : length xs ≡ 0 = ap length e in omega (arith, h, f)

pub from_within : (b : Boot) (es : List Step) (pt : Point) (a c : ℕ) → IsValid b → Leads b (first_point b) es pt → 0 < length (pt.view.pair a c).ids → a < pt.kernel.machines
from_within b es pt a c valid leads some = elim (leb_tells (suc a) pt.kernel.machines) [
  | inl e ↦ e.1
  | inr e ↦
      let far = e.1 in
      let machines = (run_always b es pt valid leads).run.based.machines in
      absurd (not_empty (pt.view.pair a c).ids some ((routed_always b es pt valid leads).none a c (omega (arith, far, machines))))
]

drop_some : (n : ℕ) (xs : List MsgId) → n < length xs → 0 < length (drop n xs)
drop_some n xs h = let e = length-drop n xs in omega (arith, e, h)

pub to_within : (b : Boot) (es : List Step) (pt : Point) (a c : ℕ) → IsValid b → Leads b (first_point b) es pt → (pt.view.pair a c).taken < length (pt.view.pair a c).ids → c < pt.kernel.machines
to_within b es pt a c valid leads some =
    let p = pt.view.pair a c in
    let (i, stands) = first_there (untaken p) (drop_some p.taken p.ids some) in
    within b pt i (Untaken a c) (run_always b es pt valid leads).run stands

-- a turn made a pair longer: both its machines are there
record Ends (n : ℕ) (g : ℕ → ℕ → Pair) (a c : ℕ) : Type 0 where
  from : a < n
  to : c < n

ends_within : (b : Boot) (es fs : List Step) (v : Point) (w : Point) → IsValid b → Leads b (first_point b) es v → Leads b (first_point b) fs w → Grows v.view.pair w.view.pair → (l : Longer v.view.pair w.view.pair)
    → Ends w.kernel.machines w.view.pair l.from l.to
ends_within b es fs v w valid before leads grows l =
    let more = l.more in
    let from : l.from < w.kernel.machines = from_within b fs w l.from l.to valid leads (omega (arith, more)) in
    elim (eqb_tells l.from l.to) [
      | inl e ↦ record { from = from; to = subst (λ (n : ℕ). n < w.kernel.machines) e.1 from }
      | inr e ↦
          let stands : (v.view.pair l.from l.to).taken ≤ length (v.view.pair l.from l.to).ids = let s = (pairs_stand_always b es v l.from l.to before e.1).0 in let t = s.taken in let g = s.gone in omega (arith, t, g) in
          let same = grows.taken l.from l.to e.0 in
          record { from = from; to = to_within b fs w l.from l.to valid leads (omega (arith, more, stands, same)) }
    ]

-- a restart, a refusal or a calling off is never held back
not_held : (v : View) (m : ℕ) (p : Pid) (i : MsgId) (t : Told) → IsOfMove v i t → 1 ≤ times i (v.held m p) → ⊥
not_held v m p i t h stands = elim (h.moves.token.ways (Held m p) stands) [ inl e ↦ cc | inr e ↦ cc ]

between : (k : MessageKind) → lets_go k ≡ true → is_between k ≡ true
between MessageKind.Restart e = refl
between MessageKind.Refuse e = refl
between MessageKind.CallOff e = refl
between k e = cc

none_held : (b : Boot) (es : List Step) (pt : Point) (m : ℕ) (p : Pid) (i : MsgId) → IsValid b → Leads b (first_point b) es pt → 1 ≤ times i (pt.view.held m p) → one_let_go pt.view i ≡ 0
none_held b es pt m p i valid leads stands = ap (λ (c : Bool). if c then 1 else 0) (by (pt.view.told i) refl)
  where
    by : (o : Option Told) → pt.view.told i ≡ o → told_lets_go o ≡ false
    by None e = refl
    by (Some t) e = elim (cases_Bool (lets_go t.kind)) [
      | inl so ↦ elim (protocol_moves b es pt i t (Held m p) valid leads e (between t.kind so) stands) [
        | inl h ↦ absurd (not_held pt.view m p i t h stands)
        | inr h ↦ absurd (false≢true (sym (left_ways pt.view h.process h.phase i t (Held m p) h.left stands)))
      ]
      | inr not_so ↦ not_so
    ]

-- the place behind the head line, from which the parts go on
abbrev behind_head : Point → ℕ → Point
behind_head pt m = moved pt (Line.Head (Step.Turn m)) pt.kernel

-- nothing that lets go comes back
back_none : (b : Boot) (es : List Step) (pt : Point) (m : ℕ) (e : Effect) → IsValid b → Leads b (first_point b) es pt → weight (one_let_go pt.view) (back_in (behind_head pt m).view e) ≡ 0
back_none b es pt m (Returns p) valid leads = weight_none (one_let_go pt.view) (pt.view.held m p) (λ i stands. none_held b es pt m p i valid leads stands)
back_none b es pt m _ valid leads = refl

lets_one : (o : Option Told) → told_lets_go o ≡ true → ◌≡◌ {A = ℕ} (if told_lets_go o then 1 else 0) 1
lets_one o e = ap (λ (c : Bool). if c then 1 else 0) e

-- what was told is the same, so the weight is
pub same_told : (n : ℕ) (v w : View) → w.told ≡ v.told → weight_of (one_let_go w) n w ≡ weight_of (one_let_go v) n w
same_told n v w e = ap (λ (told : MsgId → Option Told). weight_of (λ i. if told_lets_go (told i) then 1 else 0) n w) e

-- the first line, and where it leads: the front goes
record Begins (pt : Point) (m : ℕ) (i : MsgId) (w : Point) : Type 0 where
  first : Line
  rest : List Part
  next : Point
  view_ : next.view ≡ seen pt.kernel (behind_head pt m).view first
  takes : has_route rest ≡ false → takes_front i (effect first)
  touches_ : touches first ≡ false
  calm : AllCalm rest
  back : is_back (effect first) ≡ true → told_lets_go (pt.view.told i) ≡ true
  on : (x : Spelled) × (spelled next rest ≡ Some x) × (x.point ≡ w)

begins : (b : Boot) (pt : Point) (m : ℕ) (i : MsgId) (is : List MsgId) (w : Spelled) → pt.view.inbox m ≡ i ∷ is → group_of b pt (Step.Turn m) ≡ Some w → Begins pt m i w.point
begins b pt m i is w front e =
    let g = group_is b pt (Step.Turn m) w e in
    let h = comes_row b pt m i (pt.kernel.bag i) g.parts (ap (turns b pt m) (sym front) ∙ g.is) in
    let o = onward (behind_head pt m) (Says h.first) h.rest g.rest (ap (spelled (behind_head pt m)) (sym h.is) ∙ g.said) in
    record {
      first = h.first;
      rest = h.rest;
      next = o.next;
      view_ = says_view (behind_head pt m) h.first h.rest g.rest o;
      takes = h.takes;
      touches_ = h.touches_;
      calm = h.calm;
      back = h.back;
      on = (o.rest, o.on, o.end ∙ g.point);
    }

first_takes : (f : MsgId → ℕ) (n : ℕ) (pt : Point) (m : ℕ) (i : MsgId) (is : List MsgId) (w : Point) (h : Begins pt m i w) → has_route h.rest ≡ false → pt.view.inbox m ≡ i ∷ is → m < n
    → weight_of f n h.next.view + f i ≤ weight_of f n pt.view + weight f (back_in (behind_head pt m).view (effect h.first))
first_takes f n pt m i is w h last front small =
    let none = touches_none h.first h.touches_ in
    let t = line_takes f n (behind_head pt m).view h.first i is none.0 front refl (h.takes last) small in
    let v : weight_of f n h.next.view ≡ weight_of f n (view_after (behind_head pt m).view h.first) = ap (weight_of f n) h.view_ in
    omega (arith, t, v)

first_grows : (pt : Point) (m : ℕ) (i : MsgId) (w : Point) (h : Begins pt m i w) → Grows pt.view.pair h.next.view.pair
first_grows pt m i w h = grows_same pt.view.pair h.next.view.pair (ap (λ (v : View). v.pair) h.view_ ∙ pair_same (behind_head pt m).view h.first h.touches_)

first_told : (pt : Point) (m : ℕ) (i : MsgId) (w : Point) (h : Begins pt m i w) → h.next.view.told ≡ pt.view.told
first_told pt m i w h = ap (λ (v : View). v.told) h.view_ ∙ (hushed (behind_head pt m).view h.first (touches_none h.first h.touches_).1).told

-- less is left for turns
pub data IsFewer (x y : Left) : Type 0 where
  FewerNumbers : x.numbers < y.numbers → IsFewer x y
  FewerReleases : x.numbers ≤ y.numbers → x.releases < y.releases → IsFewer x y
  FewerMessages : x.numbers ≤ y.numbers → x.releases ≤ y.releases → x.messages < y.messages → IsFewer x y

less : (x y : Left) → IsFewer x y → IsLess x y
less x y (FewerNumbers a) = Numbers a
less x y (FewerReleases a b) = Releases a b
less x y (FewerMessages a b c) = Messages a b c

-- without a route fewer are under way, or fewer that let go
stays_falls : (b : Boot) (es : List Step) (pt : Point) (m : ℕ) (i : MsgId) (is : List MsgId) (w : Point) (h : Begins pt m i w) (n : ℕ) → IsValid b → Leads b (first_point b) es pt → m < n → pt.view.inbox m ≡ i ∷ is → has_route h.rest ≡ false
    → numbers_left b.numbers n w.view ≤ numbers_left b.numbers n pt.view → Lowers h.next.view w.view → IsFewer (left b.numbers n w.view) (left b.numbers n pt.view)
stays_falls b es pt m i is w h n valid leads small front last numbers low =
    let f = one_let_go pt.view in
    let told : w.view.told ≡ pt.view.told = low.told ∙ first_told pt m i w h in
    let t = first_takes f n pt m i is w h last front small in
    let none = back_none b es pt m (effect h.first) valid leads in
    let l = low.weight_ f n in
    let same : weight_of (one_let_go w.view) n w.view ≡ weight_of f n w.view = same_told n pt.view w.view told in
    elim (cases_Bool (is_back (effect h.first))) [
      | inl so ↦ let one : f i ≡ 1 = lets_one (pt.view.told i) (h.back so) in FewerReleases numbers (omega (arith, t, none, l, same, one))
      | inr not_so ↦
          let t_ = first_takes one_each n pt m i is w h last front small in
          let empty : weight one_each (back_in (behind_head pt m).view (effect h.first)) ≡ 0 = ap (weight one_each) (no_back (behind_head pt m).view (effect h.first) not_so) in
          let l_ = low.weight_ one_each n in
          FewerMessages numbers (omega (arith, t, none, l, same)) (omega (arith, t_, empty, l_))
    ]

pub turn_fewer : (b : Boot) (es : List Step) (pt : Point) (m : ℕ) (w : Spelled) → IsValid b → Leads b (first_point b) es pt → m < pt.kernel.machines → has_mail pt.view m ≡ true → group_of b pt (Step.Turn m) ≡ Some w → IsKept b w.point
    → IsFewer (left b.numbers pt.kernel.machines w.point.view) (left b.numbers pt.kernel.machines pt.view)
turn_fewer b es pt m w valid leads small mail e kept =
    let n = pt.kernel.machines in
    let (i, is, front) = some_mail (pt.view.inbox m) mail in
    let h = begins b pt m i is w front e in
    let (x, on, end) = h.on in
    let light = calm_light h.rest h.calm in
    let first = first_grows pt m i w.point h in
    let rest : Grows h.next.view.pair w.point.view.pair = subst (λ (q : Point). Grows h.next.view.pair q.view.pair) end (parts_grow h.rest h.next x light on) in
    let grows = grows_on pt.view.pair h.next.view.pair w.point.view.pair first rest in
    elim (cases_Bool (has_route h.rest)) [
      | inl so ↦
          let long : Longer h.next.view.pair w.point.view.pair = subst (λ (q : Point). Longer h.next.view.pair q.view.pair) end (parts_longer h.rest h.next x light on so) in
          let all = longer_last pt.view.pair h.next.view.pair w.point.view.pair first long in
          let later : Leads b (first_point b) (es ++ Step.Turn m ∷ []) w.point = leads_append b es (Step.Turn m ∷ []) (first_point b) pt w.point leads (w, small, e, refl) in
          let ends = ends_within b es (es ++ Step.Turn m ∷ []) pt w.point valid leads later grows all in
          let machines : w.point.kernel.machines ≡ n = (run_always b (es ++ Step.Turn m ∷ []) w.point valid later).run.based.machines ∙ sym (run_always b es pt valid leads).run.based.machines in
          FewerNumbers (numbers_fall b.numbers n pt.view w.point.view grows all (subst (λ (k : ℕ). all.from < k) machines ends.from) (subst (λ (k : ℕ). all.to < k) machines ends.to) (kept.counts all.from all.to))
      | inr not_so ↦
          let low : Lowers h.next.view w.point.view = subst (λ (q : Point). Lowers h.next.view q.view) end (parts_lower h.rest h.next x h.calm not_so on) in
          stays_falls b es pt m i is w.point h n valid leads small front not_so (numbers_stay b.numbers n pt.view w.point.view grows.ids) low
    ]

pub turn_falls : (b : Boot) (es : List Step) (pt : Point) (m : ℕ) (w : Spelled) → IsValid b → Leads b (first_point b) es pt → m < pt.kernel.machines → has_mail pt.view m ≡ true → group_of b pt (Step.Turn m) ≡ Some w → IsKept b w.point
    → IsLess (left b.numbers pt.kernel.machines w.point.view) (left b.numbers pt.kernel.machines pt.view)
turn_falls b es pt m w valid leads small mail e kept = less (left b.numbers pt.kernel.machines w.point.view) (left b.numbers pt.kernel.machines pt.view) (turn_fewer b es pt m w valid leads small mail e kept)
