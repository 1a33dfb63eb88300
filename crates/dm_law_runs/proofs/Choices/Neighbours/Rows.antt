-- Why a directive may be chosen, row by row; and what another directive elsewhere leaves of that.
use Rattle.dm_law_mirror.proofs.Names.{◌≡◌, ◌≢◌, ℕ, ◌+◌, ◌==◌, ◌&&◌, ◌||◌, Bool, true, false, not, nat_lt, if◌then◌else◌, List, [], ◌∷◌, ◌++◌, refl, ap, ◌∙◌, sym, subst, inl, inr, arith, nat_tests}
use Rattle.dm_law_mirror.proofs.Names.{below, false≢true}
use Rattle.std.specs.Prelude.{filter}
use Rattle.std.specs.List.{Contains}
use Rattle.std.proofs.lemmas.List.Elements.{All-contains}
use Rattle.dm_schedule.specs.declared.Step.{Step}
use Rattle.dm_schedule.specs.declared.Step.TheVariants as step
use Rattle.dm_explore.specs.declared.past.Put.{Put}
use Rattle.dm_explore.specs.Asked.{Bounds}
use Rattle.dm_explore.specs.Choices.{as_said, choices, count_here, deliveries, delivery, is_due_on, may_come, of_machine, of_pair, others, requests_left, tick_choices, turns, where_fewer}
use Rattle.dm_explore.specs.Order.{delivers_of, is_put, machine_of}
use Rattle.dm_explore.specs.Past.{Did, comes_again, delivers, is_same, is_tick, one_if, puts_in, repeats, sent, ticks, times, was_delivered}
use Rattle.dm_explore.specs.Search.{AreAsked, IsRequest}
use Rattle.dm_explore.specs.Sights.{Sight}
use Rattle.dm_law_runs.specs.Choices.Chosen.{WasPut}
use Rattle.dm_law_runs.proofs.Choices.Neighbours.Lists.{Has, has_either, has_in_one, has_left, has_made, has_of, has_right, in_one, made_of, of_has, passed, passes, some_passes}

-- the row by which a directive may be chosen
pub data Row (n : ℕ) (q : Bounds) (s : Sight) (ds : List Did) : Step → Type 0 where
  acts : (m : ℕ) → Has (below n) m → s.acts m ≡ true → Row n q s ds (step.Turn m)
  comes : (a c : ℕ) (p : Put) → Has (below n) a → Has (others n a) c → Has (sent ds) p → is_due_on q s ds false a c p ≡ true → Row n q s ds (delivery p)
  again : (a c : ℕ) (p : Put) → nat_lt (repeats ds) q.repeats ≡ true → Has (below n) a → Has (others n a) c → Has (sent ds) p → is_due_on q s ds true a c p ≡ true → Row n q s ds (delivery p)
  resends : (m : ℕ) → nat_lt (ticks ds) q.ticks ≡ true → Has (below n) m → s.resends m ≡ true → Row n q s ds (step.Tick m)
  asks : (e : Step) → Has (requests_left [] q.requests ds) e → Row n q s ds e

-- a delivery
record IsDue (n : ℕ) (q : Bounds) (s : Sight) (ds : List Did) (again_ : Bool) (e : Step) : Type 0 where
  from : ℕ
  to : ℕ
  packet : Put
  one : Has (below n) from
  other : Has (others n from) to
  put : Has (sent ds) packet
  due : is_due_on q s ds again_ from to packet ≡ true
  is : delivery packet ≡ e

due_of : (n : ℕ) (q : Bounds) (s : Sight) (ds : List Did) (again_ : Bool) (e : Step) → Has (deliveries n q s ds again_) e → IsDue n q s ds again_ e
due_of n q s ds again_ e h =
    let a = in_one (of_machine n q s ds again_) (below n) e h in
    let c = in_one (of_pair q s ds again_ a.item) (others n a.item) e a.has in
    let p = made_of delivery (filter (is_due_on q s ds again_ a.item c.item) (sent ds)) e c.has in
    let k = passed (is_due_on q s ds again_ a.item c.item) (sent ds) p.item p.there in
    record { from = a.item; to = c.item; packet = p.item; one = a.there; other = c.there; put = k.0; due = k.1; is = p.is }

has_due : (n : ℕ) (q : Bounds) (s : Sight) (ds : List Did) (again_ : Bool) (a c : ℕ) (p : Put) → Has (below n) a → Has (others n a) c → Has (sent ds) p → is_due_on q s ds again_ a c p ≡ true → Has (deliveries n q s ds again_) (delivery p)
has_due n q s ds again_ a c p one other put due =
    has_in_one (of_machine n q s ds again_) (below n) a (delivery p) one
    (has_in_one (of_pair q s ds again_ a) (others n a) c (delivery p) other
    (has_made delivery (filter (is_due_on q s ds again_ a c) (sent ds)) p (passes (is_due_on q s ds again_ a c) (sent ds) p due put)))

fewer_by : (c : Bool) (es : List Step) (e : Step) → Has (if c then es else []) e → (c ≡ true) × Has es e
fewer_by true es e h = (refl, h)
fewer_by false es e h = absurd h

fewer_of : (k most : ℕ) (es : List Step) (e : Step) → Has (where_fewer k most es) e → (nat_lt k most ≡ true) × Has es e
fewer_of k most es e h = fewer_by (nat_lt k most) es e h

has_fewer : (k most : ℕ) (es : List Step) (e : Step) → nat_lt k most ≡ true → Has es e → Has (where_fewer k most es) e
has_fewer k most es e less h = subst (λ (c : Bool). Has (if c then es else []) e) (sym less) h

-- the rows are those of the choices
acts_row : (n : ℕ) (q : Bounds) (s : Sight) (ds : List Did) (e : Step) → Has (turns n s) e → Row n q s ds e
acts_row n q s ds e h =
    let m = made_of step.Turn (filter s.acts (below n)) e h in
    let k = passed s.acts (below n) m.item m.there in
    subst (Row n q s ds) m.is (acts m.item k.0 k.1)

comes_row : (n : ℕ) (q : Bounds) (s : Sight) (ds : List Did) (e : Step) → Has (deliveries n q s ds false) e → Row n q s ds e
comes_row n q s ds e h = let k = due_of n q s ds false e h in subst (Row n q s ds) k.is (comes k.from k.to k.packet k.one k.other k.put k.due)

again_row : (n : ℕ) (q : Bounds) (s : Sight) (ds : List Did) (e : Step) → Has (where_fewer (repeats ds) q.repeats (deliveries n q s ds true)) e → Row n q s ds e
again_row n q s ds e h =
    let f = fewer_of (repeats ds) q.repeats (deliveries n q s ds true) e h in
    let k = due_of n q s ds true e f.1 in
    subst (Row n q s ds) k.is (again k.from k.to k.packet f.0 k.one k.other k.put k.due)

resends_row : (n : ℕ) (q : Bounds) (s : Sight) (ds : List Did) (e : Step) → Has (where_fewer (ticks ds) q.ticks (tick_choices n s)) e → Row n q s ds e
resends_row n q s ds e h =
    let f = fewer_of (ticks ds) q.ticks (tick_choices n s) e h in
    let m = made_of step.Tick (filter s.resends (below n)) e f.1 in
    let k = passed s.resends (below n) m.item m.there in
    subst (Row n q s ds) m.is (resends m.item f.0 k.0 k.1)

pub row_of : (n : ℕ) (q : Bounds) (s : Sight) (ds : List Did) (e : Step) → Contains (choices n q s ds) e → Row n q s ds e
row_of n q s ds e h =
    let first = turns n s in
    let second = deliveries n q s ds false in
    let third = where_fewer (repeats ds) q.repeats (deliveries n q s ds true) in
    let fourth = where_fewer (ticks ds) q.ticks (tick_choices n s) in
    let last = requests_left [] q.requests ds in
    elim (has_either (first ++ second ++ third ++ fourth) last e (has_of (choices n q s ds) e h)) [
      | inr k ↦ asks e k
      | inl k ↦ elim (has_either (first ++ second ++ third) fourth e k) [
        | inr k ↦ resends_row n q s ds e k
        | inl k ↦ elim (has_either (first ++ second) third e k) [
          | inr k ↦ again_row n q s ds e k
          | inl k ↦ elim (has_either first second e k) [
            | inr k ↦ comes_row n q s ds e k
            | inl k ↦ acts_row n q s ds e k
          ]
        ]
      ]
    ]

-- a directive of one of the rows
record Five (n : ℕ) (q : Bounds) (s : Sight) (ds : List Did) (e : Step) : Type 0 where
  first : Has (turns n s) e → Has (choices n q s ds) e
  second : Has (deliveries n q s ds false) e → Has (choices n q s ds) e
  third : Has (where_fewer (repeats ds) q.repeats (deliveries n q s ds true)) e → Has (choices n q s ds) e
  fourth : Has (where_fewer (ticks ds) q.ticks (tick_choices n s)) e → Has (choices n q s ds) e
  last : Has (requests_left [] q.requests ds) e → Has (choices n q s ds) e

five : (n : ℕ) (q : Bounds) (s : Sight) (ds : List Did) (e : Step) → Five n q s ds e
five n q s ds e =
    let one = turns n s in
    let two = deliveries n q s ds false in
    let three = where_fewer (repeats ds) q.repeats (deliveries n q s ds true) in
    let four = where_fewer (ticks ds) q.ticks (tick_choices n s) in
    let end = requests_left [] q.requests ds in
    record {
      first = λ h. has_left (one ++ two ++ three ++ four) end e (has_left (one ++ two ++ three) four e (has_left (one ++ two) three e (has_left one two e h)));
      second = λ h. has_left (one ++ two ++ three ++ four) end e (has_left (one ++ two ++ three) four e (has_left (one ++ two) three e (has_right one two e h)));
      third = λ h. has_left (one ++ two ++ three ++ four) end e (has_left (one ++ two ++ three) four e (has_right (one ++ two) three e h));
      fourth = λ h. has_left (one ++ two ++ three ++ four) end e (has_right (one ++ two ++ three) four e h);
      last = λ h. has_right (one ++ two ++ three ++ four) end e h;
    }

in_row : (n : ℕ) (q : Bounds) (s : Sight) (ds : List Did) (e : Step) → Row n q s ds e → Has (choices n q s ds) e
in_row n q s ds _ (acts m there t) = (five n q s ds (step.Turn m)).first (has_made step.Turn (filter s.acts (below n)) m (passes s.acts (below n) m t there))
in_row n q s ds _ (comes a c p one other put due) = (five n q s ds (delivery p)).second (has_due n q s ds false a c p one other put due)
in_row n q s ds _ (again a c p less one other put due) = (five n q s ds (delivery p)).third (has_fewer (repeats ds) q.repeats (deliveries n q s ds true) (delivery p) less (has_due n q s ds true a c p one other put due))
in_row n q s ds _ (resends m less there t) =
    (five n q s ds (step.Tick m)).fourth (has_fewer (ticks ds) q.ticks (tick_choices n s) (step.Tick m) less (has_made step.Tick (filter s.resends (below n)) m (passes s.resends (below n) m t there)))
in_row n q s ds _ (asks e h) = (five n q s ds e).last h

pub of_row : (n : ℕ) (q : Bounds) (s : Sight) (ds : List Did) (e : Step) → Row n q s ds e → Contains (choices n q s ds) e
of_row n q s ds e h = of_has (choices n q s ds) e (in_row n q s ds e h)

-- what is seen of one machine is the same in two sights
pub record SeesAt (s t : Sight) (m : ℕ) : Type 0 where
  pub acts : t.acts m ≡ s.acts m
  pub waits : (a : ℕ) → t.waits m a ≡ s.waits m a
  pub resends : t.resends m ≡ s.resends m

-- a packet is due as before
due_same : (q : Bounds) (s t : Sight) (ds es : List Did) (again_ : Bool) (a c : ℕ) (p : Put) → was_delivered es p.from p.to p.k ≡ was_delivered ds p.from p.to p.k → t.waits p.to p.from ≡ s.waits p.to p.from → is_due_on q s ds again_ a c p ≡ true → is_due_on q t es again_ a c p ≡ true
due_same q s t ds es again_ a c p delivered waits due =
    ap (λ (x : Bool). (p.from == a) && (p.to == c) && (as_said again_ x && may_come q t p)) delivered
    ∙ ap (λ (x : Bool). (p.from == a) && (p.to == c) && (as_said again_ (was_delivered ds p.from p.to p.k) && (not p.acks || q.acks || x))) waits
    ∙ due

said_by : (again_ x may on to : Bool) → ((on && to) && (as_said again_ x && may)) ≡ true → x ≡ again_
said_by true true may on to e = refl
said_by true false may on to e = grind (arith, nat_tests)
said_by false true may on to e = grind (arith, nat_tests)
said_by false false may on to e = refl

-- and was delivered before, or wasn't, as its row says
due_said : (q : Bounds) (s : Sight) (ds : List Did) (again_ : Bool) (a c : ℕ) (p : Put) → is_due_on q s ds again_ a c p ≡ true → was_delivered ds p.from p.to p.k ≡ again_
due_said q s ds again_ a c p due = said_by again_ (was_delivered ds p.from p.to p.k) (may_come q s p) (p.from == a) (p.to == c) (grind (arith, nat_tests, due))

-- a directive of another machine delivers none of its packets
other_by : (a c k x y n : ℕ) → y ≢ c → delivers a c k (step.Deliver x y n) ≡ false
other_by a c k x y n apart = grind (arith, nat_tests)

delivers_other : (s : Sight) (a c k : ℕ) (d : Step) → machine_of s d ≢ c → delivers a c k d ≡ false
delivers_other s a c k (step.Deliver x y n) apart = other_by a c k x y n apart
delivers_other s a c k (step.Turn m) apart = refl
delivers_other s a c k (step.Tick m) apart = refl
delivers_other s a c k (step.Migrate p m) apart = refl
delivers_other s a c k (step.CallOff p m) apart = refl

delivered_same : (s : Sight) (x : Did) (ds : List Did) (a c k : ℕ) → machine_of s x.step ≢ c → was_delivered (x ∷ ds) a c k ≡ was_delivered ds a c k
delivered_same s x ds a c k apart = ap (λ (b : Bool). b || was_delivered ds a c k) (delivers_other s a c k x.step apart)

-- a packet is put by the lines that say so
put_self : (p : Put) → is_put p.from p.to p.k p ≡ true
put_self p = grind (arith, nat_tests)

put_before : (x : Did) (ds : List Did) (p : Put) → delivers_of (puts_in x.lines) (delivery p) ≡ false → Has (sent (x ∷ ds)) p → Has (sent ds) p
put_before x ds p none h = elim (has_either (sent ds) (puts_in x.lines) p h) [
  | inl before ↦ before
  | inr now ↦ absurd (false≢true (sym none ∙ some_passes (is_put p.from p.to p.k) (puts_in x.lines) p (put_self p) now))
]

fewer_less : (k j most : ℕ) → nat_lt (k + j) most ≡ true → nat_lt k most ≡ true
fewer_less k j most e = grind (arith, nat_tests)

fewer_none : (k most : ℕ) → nat_lt k most ≡ true → nat_lt (k + 0) most ≡ true
fewer_none k most e = grind (arith, nat_tests)

-- requests that are left: those of one sort aren't touched by another
left_by : (c d : Bool) (e x : Step) (rest more : List Step) → (e ≡ x → d ≡ c) → (Has rest x → Has more x) → Has ((if c then e ∷ [] else []) ++ rest) x → Has ((if d then e ∷ [] else []) ++ more) x
left_by true true e x rest more same on (inl is) = inl is
left_by true true e x rest more same on (inr h) = inr (on h)
left_by true false e x rest more same on (inl is) = absurd (false≢true (same is))
left_by true false e x rest more same on (inr h) = on h
left_by false true e x rest more same on h = inr (on h)
left_by false false e x rest more same on h = on h

left_same : (before es : List Step) (ds hs : List Did) (x : Step) → times x hs ≡ times x ds → Has (requests_left before es ds) x → Has (requests_left before es hs) x
left_same before [] ds hs x same h = h
left_same before (e ∷ es) ds hs x same h =
    left_by (count_here e before == times e ds) (count_here e before == times e hs) e x (requests_left (before ++ e ∷ []) es ds) (requests_left (before ++ e ∷ []) es hs)
    (λ is. ap (λ (k : ℕ). count_here e before == k) (subst (λ (z : Step). times z hs ≡ times z ds) (sym is) same))
    (left_same (before ++ e ∷ []) es ds hs x same) h

left_is : (before es : List Step) (ds : List Did) (x : Step) → Has (requests_left before es ds) x → Has es x
left_is before [] ds x h = h
left_is before (e ∷ es) ds x h = elim (has_either (if count_here e before == times e ds then e ∷ [] else []) (requests_left (before ++ e ∷ []) es ds) x h) [
  | inl here ↦ first_is (count_here e before == times e ds) here
  | inr more ↦ inr (left_is (before ++ e ∷ []) es ds x more)
]
  where
    first_is : (c : Bool) → Has (if c then e ∷ [] else []) x → Has (e ∷ es) x
    first_is true (inl is) = inl is
    first_is true (inr none) = absurd none
    first_is false none = absurd none

asked_is : (n : ℕ) (q : Bounds) (ds : List Did) (e : Step) → AreAsked n q → Has (requests_left [] q.requests ds) e → IsRequest n e
asked_is n q ds e asked h = All-contains (IsRequest n) q.requests e asked.requests (of_has q.requests e (left_is [] q.requests ds e h))

times_same : (x : Did) (ds : List Did) (e : Step) → is_same x.step e ≡ false → times e (x ∷ ds) ≡ times e ds
times_same x ds e apart = ap (λ (c : Bool). times e ds + one_if c) apart ∙ (let k = times e ds in omega arith)

-- A directive that may be chosen behind another one, which it doesn't meet, may be chosen without it.
pub earlier : (n : ℕ) (q : Bounds) (s t : Sight) (x : Did) (ds : List Did) (e : Step) → SeesAt t s (machine_of t e) → machine_of s x.step ≢ machine_of t e → is_same x.step e ≡ false → delivers_of (puts_in x.lines) e ≡ false → Row n q t (x ∷ ds) e → Row n q s ds e
earlier n q s t x ds _ sees apart other none (acts m there h) = acts m there (sees.acts ∙ h)
earlier n q s t x ds _ sees apart other none (comes a c p one two put due) =
    comes a c p one two (put_before x ds p none put) (due_same q t s (x ∷ ds) ds false a c p (sym (delivered_same s x ds p.from p.to p.k apart)) (sees.waits p.from) due)
earlier n q s t x ds _ sees apart other none (again a c p less one two put due) =
    again a c p (fewer_less (repeats ds) (one_if (comes_again ds x.step)) q.repeats less) one two (put_before x ds p none put)
    (due_same q t s (x ∷ ds) ds true a c p (sym (delivered_same s x ds p.from p.to p.k apart)) (sees.waits p.from) due)
earlier n q s t x ds _ sees apart other none (resends m less there h) = resends m (fewer_less (ticks ds) (one_if (is_tick x.step)) q.ticks less) there (sees.resends ∙ h)
earlier n q s t x ds _ sees apart other none (asks e h) = asks e (left_same [] q.requests (x ∷ ds) ds e (sym (times_same x ds e other)) h)

-- how many packets are delivered again, behind one more: a delivery of one that was delivered may be chosen only while there are fewer
repeats_on : (n : ℕ) (q : Bounds) (s t : Sight) (x : Did) (ds : List Did) (e : Step) → AreAsked n q → machine_of s x.step ≢ machine_of t e → comes_again ds x.step ≡ true → nat_lt (repeats ds) q.repeats ≡ true → Row n q t (x ∷ ds) e → nat_lt (repeats ds + one_if (comes_again ds e)) q.repeats ≡ true
repeats_on n q s t x ds _ asked apart is less (acts m there h) = fewer_none (repeats ds) q.repeats less
repeats_on n q s t x ds _ asked apart is less (comes a c p one two put due) =
    let new : was_delivered ds p.from p.to p.k ≡ false = sym (delivered_same s x ds p.from p.to p.k apart) ∙ due_said q t (x ∷ ds) false a c p due in
    subst (λ (b : Bool). nat_lt (repeats ds + one_if b) q.repeats ≡ true) (sym new) (fewer_none (repeats ds) q.repeats less)
repeats_on n q s t x ds _ asked apart is less (again a c p fewer one two put due) =
    let old : was_delivered ds p.from p.to p.k ≡ true = sym (delivered_same s x ds p.from p.to p.k apart) ∙ due_said q t (x ∷ ds) true a c p due in
    let one_more : nat_lt (repeats ds + one_if true) q.repeats ≡ true = subst (λ (b : Bool). nat_lt (repeats ds + one_if b) q.repeats ≡ true) is fewer in
    subst (λ (b : Bool). nat_lt (repeats ds + one_if b) q.repeats ≡ true) (sym old) one_more
repeats_on n q s t x ds _ asked apart is less (resends m fewer there h) = fewer_none (repeats ds) q.repeats less
repeats_on n q s t x ds _ asked apart is less (asks e h) = request_on e (asked_is n q (x ∷ ds) e asked h)
  where
    request_on : (e : Step) → IsRequest n e → nat_lt (repeats ds + one_if (comes_again ds e)) q.repeats ≡ true
    request_on (step.Turn m) k = absurd k
    request_on (step.Tick m) k = absurd k
    request_on (step.Deliver a c i) k = absurd k
    request_on (step.Migrate p m) k = fewer_none (repeats ds) q.repeats less
    request_on (step.CallOff p m) k = fewer_none (repeats ds) q.repeats less

ticks_on : (n : ℕ) (q : Bounds) (t : Sight) (x : Did) (ds : List Did) (e : Step) → AreAsked n q → is_tick x.step ≡ true → nat_lt (ticks ds) q.ticks ≡ true → Row n q t (x ∷ ds) e → nat_lt (ticks ds + one_if (is_tick e)) q.ticks ≡ true
ticks_on n q t x ds _ asked is less (acts m there h) = fewer_none (ticks ds) q.ticks less
ticks_on n q t x ds _ asked is less (comes a c p one two put due) = fewer_none (ticks ds) q.ticks less
ticks_on n q t x ds _ asked is less (again a c p fewer one two put due) = fewer_none (ticks ds) q.ticks less
ticks_on n q t x ds _ asked is less (resends m fewer there h) = subst (λ (b : Bool). nat_lt (ticks ds + one_if b) q.ticks ≡ true) is fewer
ticks_on n q t x ds _ asked is less (asks e h) = request_on e (asked_is n q (x ∷ ds) e asked h)
  where
    request_on : (e : Step) → IsRequest n e → nat_lt (ticks ds + one_if (is_tick e)) q.ticks ≡ true
    request_on (step.Turn m) k = absurd k
    request_on (step.Tick m) k = absurd k
    request_on (step.Deliver a c i) k = absurd k
    request_on (step.Migrate p m) k = fewer_none (ticks ds) q.ticks less
    request_on (step.CallOff p m) k = fewer_none (ticks ds) q.ticks less

-- And one that may be chosen may be so behind another one that may be chosen behind it and doesn't meet it. Of the two, x does the first, y the second.
pub later : (n : ℕ) (q : Bounds) (s t u : Sight) (x y : Did) (ds : List Did) (d : Step) → AreAsked n q → x.step ≡ d → SeesAt s u (machine_of s d) → machine_of t y.step ≢ machine_of s d → is_same y.step d ≡ false → Row n q t (x ∷ ds) y.step → Row n q s ds d → Row n q u (y ∷ ds) d
later n q s t u x y ds _ asked is sees apart other behind (acts m there h) = acts m there (sees.acts ∙ h)
later n q s t u x y ds _ asked is sees apart other behind (comes a c p one two put due) =
    comes a c p one two (has_left (sent ds) (puts_in y.lines) p put) (due_same q s u ds (y ∷ ds) false a c p (delivered_same t y ds p.from p.to p.k apart) (sees.waits p.from) due)
later n q s t u x y ds _ asked is sees apart other behind (again a c p less one two put due) =
    let old : comes_again ds x.step ≡ true = ap (comes_again ds) is ∙ due_said q s ds true a c p due in
    let differ : machine_of s x.step ≢ machine_of t y.step = λ e. apart (sym e ∙ ap (machine_of s) is) in
    again a c p (repeats_on n q s t x ds y.step asked differ old less behind) one two (has_left (sent ds) (puts_in y.lines) p put)
    (due_same q s u ds (y ∷ ds) true a c p (delivered_same t y ds p.from p.to p.k apart) (sees.waits p.from) due)
later n q s t u x y ds _ asked is sees apart other behind (resends m less there h) =
    resends m (ticks_on n q t x ds y.step asked (ap is_tick is) less behind) there (sees.resends ∙ h)
later n q s t u x y ds _ asked is sees apart other behind (asks d h) = asks d (left_same [] q.requests ds (y ∷ ds) d (times_same y ds d other) h)

-- a delivery that may be chosen is of a packet that was put
put_of : (ds : List Did) (p : Put) → Has (sent ds) p → WasPut ds (delivery p)
put_of ds p h = some_passes (is_put p.from p.to p.k) (sent ds) p (put_self p) h

pub row_put : (n : ℕ) (q : Bounds) (s : Sight) (ds : List Did) (d : Step) → AreAsked n q → Row n q s ds d → WasPut ds d
row_put n q s ds _ asked (acts m there h) = tt
row_put n q s ds _ asked (comes a c p one two put due) = put_of ds p put
row_put n q s ds _ asked (again a c p less one two put due) = put_of ds p put
row_put n q s ds _ asked (resends m less there h) = tt
row_put n q s ds _ asked (asks d h) = request_put d (asked_is n q ds d asked h)
  where
    request_put : (d : Step) → IsRequest n d → WasPut ds d
    request_put (step.Turn m) k = absurd k
    request_put (step.Tick m) k = absurd k
    request_put (step.Deliver a c i) k = absurd k
    request_put (step.Migrate p m) k = tt
    request_put (step.CallOff p m) k = tt
