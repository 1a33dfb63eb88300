-- What all that is on its way weighs, where a message's weight is by the machine that it goes to.
use Rattle.dm_law_moves.proofs.Names.{◌≡◌, ℕ, zero, suc, ◌+◌, ◌-◌, ◌*◌, ◌<◌, ◌≤◌, Bool, true, false, List, [], ◌∷◌, refl, ap, ◌∙◌, sym, subst, inl, inr, arith, mul-suc, mul-add, ⊤, if◌then◌else◌, Option, None, Some, cases_Bool, false≢true}
use Rattle.dm_law_moves.proofs.Names.{eqb_tells, mul-le, Pid, MsgId, MessageKind, id_eq, id_eq-is, sum_below, is_told_back, Inbox, Untaken, times, untaken, Told, View, is_moving, one_each, weight, weight_of, weight_to, OnlyLight, is_light}
use Rattle.dm_law_moves.proofs.Settles.FewSteps.Distances.{Knows, distance, within_steps}
use Rattle.dm_law_moves.proofs.Settles.Weights.{spike, spike_here, spike_off, sum_both, sum_le, sum_same, sum_spike, sum_spike_most, weight_none, weight_same}

-- each message by the machine that it goes to
abbrev pub total : (ℕ → MsgId → ℕ) → ℕ → View → ℕ
total g n v = sum_below (λ m. weight_to (g m) n v m) n

-- a user message may be put again for each step of its way, and each time an update with it, for each step of the update's way; an
-- update for each step
abbrev pub cost : ℕ → MessageKind → ℕ
cost n k = if is_told_back k then n + 1 else 1

abbrev pub worth : Knows → ℕ → ℕ → Option Told → ℕ
worth known n m None = 0
worth known n m (Some t) = distance known t.receiver (n - 1) m * cost n t.kind

abbrev pub value : View → ℕ → ℕ → MsgId → ℕ
value v n m i = worth v.known n m (v.told i)

-- what is no user message for a process and no update
abbrev pub heavy : View → MsgId → ℕ
heavy v i = if is_light (v.told i) then 0 else 1

pub record LightWay (n : ℕ) (v : View) : Type 0 where
  pub still : (m : ℕ) (p : Pid) → is_moving (v.known m p) ≡ false
  pub none : weight_of (heavy v) n v ≡ 0

light_none : (v : View) (i : MsgId) → is_light (v.told i) ≡ true → heavy v i ≡ 0
light_none v i e = ap (λ (c : Bool). if c then 0 else 1) e

none_light : (v : View) (i : MsgId) → heavy v i ≡ 0 → is_light (v.told i) ≡ true
none_light v i e = elim (cases_Bool (is_light (v.told i))) [
  | inl so ↦ so
  | inr not_so ↦ let f : heavy v i ≡ 1 = ap (λ (c : Bool). if c then 0 else 1) not_so in absurd (omega (arith, e, f))
]

sum_none : (f : ℕ → ℕ) (n : ℕ) → ((k : ℕ) → k < n → f k ≡ 0) → sum_below f n ≡ 0
sum_none f zero h = refl
sum_none f (suc n) h = let i = sum_none f n (λ k l. h k (omega (arith, l))) in let j = h n (omega arith) in omega (arith, i, j)

none_in : (f : ℕ → ℕ) (n k : ℕ) → sum_below f n ≡ 0 → k < n → f k ≡ 0
none_in f zero k h less = absurd (omega (arith, less))
none_in f (suc n) k h less = elim (eqb_tells k n) [
  | inl e ↦ subst (λ (j : ℕ). f j ≡ 0) (sym e.1) (omega (arith, h))
  | inr e ↦ let off = e.1 in none_in f n k (omega (arith, h)) (omega (arith, less, off))
]

weighs_none : (f : MsgId → ℕ) (i : MsgId) (xs : List MsgId) → weight f xs ≡ 0 → 1 ≤ times i xs → f i ≡ 0
weighs_none f i [] h stands = absurd (omega (arith, stands))
weighs_none f i (x ∷ xs) h stands = elim (cases_Bool (id_eq i x)) [
  | inl e ↦ subst (λ (j : MsgId). f j ≡ 0) (sym (id_eq-is i x e)) (omega (arith, h))
  | inr e ↦
      let off : times i (x ∷ xs) ≡ 0 + times i xs = ap (λ (c : Bool). (if c then 1 else 0) + times i xs) e in
      weighs_none f i xs (omega (arith, h)) (omega (arith, stands, off))
]

-- so it begins
pub light_way : (n : ℕ) (v : View) → OnlyLight v → LightWay n v
light_way n v h = record {
  still = h.still;
  none = sum_none (weight_to (heavy v) n v) n (λ m l.
      let box = weight_none (heavy v) (v.inbox m) (λ i stands. light_none v i (h.light i (Inbox m) refl stands)) in
      let pairs = sum_none (λ a. weight (heavy v) (untaken (v.pair a m))) n (λ a k. weight_none (heavy v) (untaken (v.pair a m)) (λ i stands. light_none v i (h.light i (Untaken a m) refl stands))) in
      omega (arith, box, pairs));
}

-- of the machines that there are
pub light_box : (n : ℕ) (v : View) (m : ℕ) (i : MsgId) → LightWay n v → m < n → 1 ≤ times i (v.inbox m) → is_light (v.told i) ≡ true
light_box n v m i h less stands =
    let all : weight_to (heavy v) n v m ≡ 0 = none_in (weight_to (heavy v) n v) n m h.none less in
    none_light v i (weighs_none (heavy v) i (v.inbox m) (omega (arith, all)) stands)

pub light_pair : (n : ℕ) (v : View) (a m : ℕ) (i : MsgId) → LightWay n v → m < n → a < n → 1 ≤ times i (untaken (v.pair a m)) → is_light (v.told i) ≡ true
light_pair n v a m i h less there stands =
    let all : weight_to (heavy v) n v m ≡ 0 = none_in (weight_to (heavy v) n v) n m h.none less in
    let pairs : sum_below (λ j. weight (heavy v) (untaken (v.pair j m))) n ≡ 0 = omega (arith, all) in
    none_light v i (weighs_none (heavy v) i (untaken (v.pair a m)) (none_in (λ j. weight (heavy v) (untaken (v.pair j m))) n a pairs there) stands)

-- two weights that agree on such messages
pub same_to : (f g : MsgId → ℕ) (n : ℕ) (v : View) (m : ℕ) → LightWay n v → ((i : MsgId) → is_light (v.told i) ≡ true → f i ≡ g i) → m < n → weight_to f n v m ≡ weight_to g n v m
same_to f g n v m h same less =
    let box = weight_same f g (v.inbox m) (λ i stands. same i (light_box n v m i h less stands)) in
    let pairs = sum_same (λ a. weight f (untaken (v.pair a m))) (λ a. weight g (untaken (v.pair a m))) n (λ a l. weight_same f g (untaken (v.pair a m)) (λ i stands. same i (light_pair n v a m i h less l stands))) in
    omega (arith, box, pairs)

pub same_total : (f g : ℕ → MsgId → ℕ) (n : ℕ) (v : View) → LightWay n v → ((m : ℕ) (i : MsgId) → is_light (v.told i) ≡ true → f m i ≡ g m i) → total f n v ≡ total g n v
same_total f g n v h same = sum_same (λ m. weight_to (f m) n v m) (λ m. weight_to (g m) n v m) n (λ m l. same_to (f m) (g m) n v m h (same m) l)

-- a place's own number is the one that counts there
pub spike_own : (h : ℕ → ℕ) (k m : ℕ) → spike k (h m) m ≡ spike k (h k) m
spike_own h k m = elim (eqb_tells k m) [
  | inl e ↦ spike_here k (h m) m e.1 ∙ ap h (sym e.1) ∙ sym (spike_here k (h k) m e.1)
  | inr e ↦ spike_off k (h m) m e.1 ∙ sym (spike_off k (h k) m e.1)
]

-- messages that come on their way, each to a machine
abbrev pub Gains : Type 0
Gains = List (ℕ × MsgId)

abbrev pub spikes : (MsgId → ℕ) → Gains → ℕ → ℕ
spikes f [] m = 0
spikes f (x ∷ xs) m = spike x.0 (f x.1) m + spikes f xs m

abbrev pub gained : (ℕ → MsgId → ℕ) → Gains → ℕ
gained g [] = 0
gained g (x ∷ xs) = g x.0 x.1 + gained g xs

abbrev pub AllLight : View → Gains → Type 0
AllLight v [] = ⊤
AllLight v (x ∷ xs) = (is_light (v.told x.1) ≡ true) × AllLight v xs

spikes_most : (g : ℕ → MsgId → ℕ) (n : ℕ) (xs : Gains) → sum_below (λ m. spikes (g m) xs m) n ≤ gained g xs
spikes_most g n [] = let e : sum_below (λ m. 0) n ≡ 0 = sum_none (λ m. 0) n (λ k l. refl) in omega (arith, e)
spikes_most g n (x ∷ xs) =
    let both = sum_both (λ m. spike x.0 (g m x.1) m) (λ m. spikes (g m) xs m) n in
    let one : sum_below (λ m. spike x.0 (g m x.1) m) n ≡ sum_below (spike x.0 (g x.0 x.1)) n = sum_same (λ m. spike x.0 (g m x.1) m) (spike x.0 (g x.0 x.1)) n (λ m l. spike_own (λ y. g y x.1) x.0 m) in
    let most = sum_spike_most x.0 (g x.0 x.1) n in
    let rest = spikes_most g n xs in
    omega (arith, both, one, most, rest)

-- the front of machine m's inbox goes, and these come
pub record Carries (n : ℕ) (v w : View) (m : ℕ) (i : MsgId) (gains : Gains) : Type 0 where
  pub weight_ : (f : MsgId → ℕ) (x : ℕ) → weight_to f n w x + spike m (f i) x ≤ weight_to f n v x + spikes f gains x
  pub known : w.known ≡ v.known
  pub kept : (j : MsgId) (t : Told) → v.told j ≡ Some t → w.told j ≡ Some t
  pub light : AllLight w gains

carried : (g : ℕ → MsgId → ℕ) (n : ℕ) (v w : View) (m : ℕ) (i : MsgId) (gains : Gains) → Carries n v w m i gains → m < n → total g n w + g m i ≤ total g n v + gained g gains
carried g n v w m i gains h small =
    let all = sum_le (λ x. weight_to (g x) n w x + spike m (g x i) x) (λ x. weight_to (g x) n v x + spikes (g x) gains x) n (λ x l. h.weight_ (g x) x) in
    let a = sum_both (λ x. weight_to (g x) n w x) (λ x. spike m (g x i) x) n in
    let b = sum_both (λ x. weight_to (g x) n v x) (λ x. spikes (g x) gains x) n in
    let own : sum_below (λ x. spike m (g x i) x) n ≡ sum_below (spike m (g m i)) n = sum_same (λ x. spike m (g x i) x) (spike m (g m i)) n (λ x l. spike_own (λ y. g y i) m x) in
    let lost = sum_spike m (g m i) n small in
    let got = spikes_most g n gains in
    omega (arith, all, a, b, own, lost, got)

-- what was told stays so, and so what such messages weigh
pub told_of : (o : Option Told) → is_light o ≡ true → (t : Told) × (o ≡ Some t)
told_of None e = absurd (false≢true e)
told_of (Some t) e = (t, refl)

pub light_kept : (v w : View) → ((j : MsgId) (t : Told) → v.told j ≡ Some t → w.told j ≡ Some t) → (i : MsgId) → is_light (v.told i) ≡ true → w.told i ≡ v.told i
light_kept v w kept i light = let (t, is) = told_of (v.told i) light in kept i t is ∙ sym is

value_kept : (n : ℕ) (v w : View) → w.known ≡ v.known → ((j : MsgId) (t : Told) → v.told j ≡ Some t → w.told j ≡ Some t) → (m : ℕ) (i : MsgId) → is_light (v.told i) ≡ true → value w n m i ≡ value v n m i
value_kept n v w known kept m i light = ap (λ (k : Knows). worth k n m (w.told i)) known ∙ ap (worth v.known n m) (light_kept v w kept i light)

heavy_kept : (v w : View) → ((j : MsgId) (t : Told) → v.told j ≡ Some t → w.told j ≡ Some t) → (i : MsgId) → is_light (v.told i) ≡ true → heavy w i ≡ heavy v i
heavy_kept v w kept i light = ap (λ (o : Option Told). if is_light o then 0 else 1) (light_kept v w kept i light)

pub total_kept : (n : ℕ) (v w : View) → LightWay n v → w.known ≡ v.known → ((j : MsgId) (t : Told) → v.told j ≡ Some t → w.told j ≡ Some t) → total (value w n) n v ≡ total (value v n) n v
total_kept n v w h known kept = same_total (value w n) (value v n) n v h (λ m i light. value_kept n v w known kept m i light)

pub none_kept : (n : ℕ) (v w : View) → LightWay n v → ((j : MsgId) (t : Told) → v.told j ≡ Some t → w.told j ≡ Some t) → weight_of (heavy w) n v ≡ 0
none_kept n v w h kept = same_total (λ m. heavy w) (λ m. heavy v) n v h (λ m i light. heavy_kept v w kept i light) ∙ h.none

still_kept : (v w : View) → w.known ≡ v.known → ((m : ℕ) (p : Pid) → is_moving (v.known m p) ≡ false) → (m : ℕ) (p : Pid) → is_moving (w.known m p) ≡ false
still_kept v w known h m p = ap (λ (k : Knows). is_moving (k m p)) known ∙ h m p

pub light_way_kept : (n : ℕ) (v w : View) → w.known ≡ v.known → LightWay n v → weight_of (heavy w) n w ≡ 0 → LightWay n w
light_way_kept n v w known h none = record { still = still_kept v w known h.still; none = none }

gained_none : (w : View) (gains : Gains) → AllLight w gains → gained (λ m. heavy w) gains ≡ 0
gained_none w [] h = refl
gained_none w (x ∷ xs) h = let e = light_none w x.1 h.0 in let k = gained_none w xs h.1 in omega (arith, e, k)

-- a group that puts so many messages leaves that much less
pub record Falls (n : ℕ) (v w : View) (puts : ℕ) : Type 0 where
  pub less : total (value w n) n w + puts ≤ total (value v n) n v
  pub light_way : LightWay n w

pub carries_fall : (n : ℕ) (v w : View) (m : ℕ) (i : MsgId) (gains : Gains) (puts : ℕ) → LightWay n v → Carries n v w m i gains → m < n → gained (value w n) gains + puts ≤ value w n m i → Falls n v w puts
carries_fall n v w m i gains puts h c small most =
    let all = carried (value w n) n v w m i gains c small in
    let same = total_kept n v w h c.known c.kept in
    let dull = carried (λ x. heavy w) n v w m i gains c small in
    let none = none_kept n v w h c.kept in
    let new = gained_none w gains c.light in
    record { less = omega (arith, all, same, most); light_way = light_way_kept n v w c.known h (omega (arith, dull, none, new)) }

-- what a message may put, at most
cost_most : (n : ℕ) (k : MessageKind) → cost n k ≤ n + 1
cost_most n k = by (is_told_back k)
  where
    by : (c : Bool) → (if c then n + 1 else 1) ≤ n + 1
    by true = omega arith
    by false = omega arith

worth_most : (known : Knows) (n m : ℕ) (o : Option Told) → worth known n m o ≤ (n - 1) * (n + 1)
worth_most known n m None = omega arith
worth_most known n m (Some t) = mul-le (distance known t.receiver (n - 1) m) (cost n t.kind) (n - 1) (n + 1) (within_steps known t.receiver (n - 1) m) (cost_most n t.kind)

weight_times : (f : MsgId → ℕ) (c : ℕ) (xs : List MsgId) → ((i : MsgId) → f i ≤ c) → weight f xs ≤ c * weight one_each xs
weight_times f c [] h = omega arith
weight_times f c (x ∷ xs) h =
    let k = weight_times f c xs h in
    let e = h x in
    let s : c * suc (weight one_each xs) ≡ c * weight one_each xs + c = mul-suc c (weight one_each xs) in
    omega (arith, k, e, s)

sum_times : (f h : ℕ → ℕ) (c n : ℕ) → ((k : ℕ) → k < n → f k ≤ c * h k) → sum_below f n ≤ c * sum_below h n
sum_times f h c zero e = omega arith
sum_times f h c (suc n) e =
    let k = sum_times f h c n (λ j l. e j (omega (arith, l))) in
    let i = e n (omega arith) in
    let s : c * (sum_below h n + h n) ≡ c * sum_below h n + c * h n = mul-add c (sum_below h n) (h n) in
    omega (arith, k, i, s)

to_times : (f : MsgId → ℕ) (c n : ℕ) (v : View) (m : ℕ) → ((i : MsgId) → f i ≤ c) → weight_to f n v m ≤ c * weight_to one_each n v m
to_times f c n v m h =
    let box = weight_times f c (v.inbox m) h in
    let pairs = sum_times (λ a. weight f (untaken (v.pair a m))) (λ a. weight one_each (untaken (v.pair a m))) c n (λ a l. weight_times f c (untaken (v.pair a m)) h) in
    let s : c * (weight one_each (v.inbox m) + sum_below (λ a. weight one_each (untaken (v.pair a m))) n) ≡ c * weight one_each (v.inbox m) + c * sum_below (λ a. weight one_each (untaken (v.pair a m))) n =
    mul-add c (weight one_each (v.inbox m)) (sum_below (λ a. weight one_each (untaken (v.pair a m))) n) in
    omega (arith, box, pairs, s)

pub value_most : (n : ℕ) (v : View) → total (value v n) n v ≤ (n - 1) * (n + 1) * weight_of one_each n v
value_most n v = sum_times (λ m. weight_to (value v n m) n v m) (weight_to one_each n v) ((n - 1) * (n + 1)) n (λ m l. to_times (value v n m) ((n - 1) * (n + 1)) n v m (λ i. worth_most v.known n m (v.told i)))
