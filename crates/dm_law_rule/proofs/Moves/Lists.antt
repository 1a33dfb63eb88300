-- Messages that are held, come back from a held list, or leave a queue and a held list together.
use Rattle.dm_law_rule.proofs.Names.{◌≡◌, ◌≢◌, ℕ, ◌+◌, ◌≤◌, ◌==◌, ◌&&◌, Bool, true, false, List, [], ◌∷◌, ◌++◌, refl, ap, ◌∙◌, sym, subst, arith, inl, inr, if◌then◌else◌, Option, None, Some, cases_Bool, false≢true, Pid, pid_eq, MsgId, id_eq}
use Rattle.dm_law_rule.proofs.Names.{at_machine, at_record, View, handled, handled_first, receiver_of, held_for, released, Spot, Queue, Held, Inbox, times, ids_at, standing, StandsOnce, StandsNowhere, StandsAsBag, pid_eq-is, id_eq-is}
use Rattle.dm_law_rule.proofs.Names.{id_eq-same, drop, and_parts, eqb-true, false_from_ne_true, none_some}
use Rattle.dm_law_rule.proofs.Standing.{times-append, spot_cases, StandsAsBag-same, StandsAsBag-one, StandsAsBag-elsewhere}
use Rattle.dm_law_rule.proofs.Once.{Kept, one_of, once_moves, one_of-off}
use Rattle.dm_law_rule.proofs.Lines.{Bag, Stands, Stands-stays, at_machine_at, at_machine_off, at_record_off, at_record_at, inbox_apart, front_goes, handled_off, handled_at, one_more, queue_apart}
use Rattle.dm_law_rule.proofs.Bags.{cases_zero}
pub use Rattle.dm_law_rule.proofs.Bags.{cases_zero as zero_cases}

abbrev is_held : Spot → Bool
is_held (Held m p) = true
is_held _ = false

pub inbox_held : (m n : ℕ) (p : Pid) → Inbox m ≢ Held n p
inbox_held m n p e = false≢true (ap is_held e)

pub held_apart : (m n : ℕ) (p q : Pid) → Held n q ≢ Held m p → ((m == n) && pid_eq p q) ≡ false
held_apart m n p q apart = false_from_ne_true ((m == n) && pid_eq p q) (λ e. let k = and_parts (m == n) (pid_eq p q) e in apart (ap (λ x. Held x q) (sym (eqb-true m n k.0)) ∙ ap (Held m) (sym (pid_eq-is p q k.1))))

-- a message goes from the front of the inbox to the back of its receiver's held list
held_is : (v : View) (i : MsgId) (p : Pid) (o : Option Pid) → o ≡ Some p → held_for (handled v i) i o ≡ record (handled v i) { held = at_record v.held v.acting p (v.held v.acting p ++ i ∷ []) }
held_is v i p None e = none_some p e
held_is v i p (Some q) e = let f : q ≡ p = cc in ap (λ x. record (handled v i) { held = at_record v.held v.acting x (v.held v.acting x ++ i ∷ []) }) f

pub Stands-held : (bag : Bag) (v w : View) (i : MsgId) (is : List MsgId) (x : Pid) → v.inbox v.acting ≡ i ∷ is → bag i ≡ Some x → w ≡ held_for (handled v i) i (receiver_of (v.told i)) → Stands bag v → Stands bag w
Stands-held bag v w i is x front there is_w h =
    let held_off : (v : View) (i : MsgId) (p : Pid) (z : Spot) → z ≢ Inbox v.acting → z ≢ Held v.acting p → ids_at (record (handled v i) { held = at_record v.held v.acting p (v.held v.acting p ++ i ∷ []) }) z ≡ ids_at v z =
    λ v i p z h1 h2. search (arith, at_record_off, held_apart, handled_off) in
    let told : receiver_of (v.told i) ≡ Some x = h.told i x there in
    let u = record (handled v i) { held = at_record v.held v.acting x (v.held v.acting x ++ i ∷ []) } in
    subst (Stands bag) (sym (held_is v i x (receiver_of (v.told i)) told) ∙ sym is_w)
    (record {
      kept = once_moves v u bag bag i (Inbox v.acting) (Held v.acting x) (inbox_held v.acting v.acting x) (λ j. refl) (λ j. handled_at v i is j front)
          (λ j. ap (times j) (at_record_at v.held v.acting x (v.held v.acting x ++ i ∷ [])) ∙ one_more j i (v.held v.acting x)) (λ z a b. held_off v i x z a b) h.kept;
      told = h.told;
      mine = h.mine;
    })

-- all that stands at one spot goes to another
gathers : (f g : Spot → ℕ) (x y : Spot) → x ≢ y → g x ≡ 0 → g y ≡ f x + f y → ((z : Spot) → z ≢ x → z ≢ y → g z ≡ f z) → StandsOnce f → StandsOnce g
gathers f g x y apart gone all same (spot, one, others) = elim (spot_cases spot x) [
  | inl at_x ↦
      let fy : f y ≡ 0 = others y (λ e. apart (sym at_x ∙ sym e)) in (
        y,
        omega (arith, all, ap f (sym at_x) ∙ one, fy),
        λ z off. elim (spot_cases z x) [ inl is ↦ ap g is ∙ gone | inr other ↦ same z other off ∙ others z (λ e. other (e ∙ at_x)) ],
      )
  | inr off_x ↦
      let fx : f x ≡ 0 = others x (λ e. off_x (sym e)) in
      search (arith, spot_cases)
]

gathers_as : {M : Type 0} (m : Option M) (f g : Spot → ℕ) (x y : Spot) → x ≢ y → g x ≡ 0 → g y ≡ f x + f y → ((z : Spot) → z ≢ x → z ≢ y → g z ≡ f z) → StandsAsBag m f → StandsAsBag m g
gathers_as None f g x y apart gone all same h = λ z. (search (arith, spot_cases))
gathers_as (Some k) f g x y apart gone all same h = gathers f g x y apart gone all same h

-- the held messages of a process come to the front of the inbox
pub Stands-released : (bag : Bag) (v w : View) (p : Pid) → ((z : Spot) → ids_at w z ≡ ids_at (released v p) z) → ((i : MsgId) → w.told i ≡ v.told i) → Stands bag v → Stands bag w
Stands-released bag v w p same told h =
    Stands-stays bag (released v p) w same told
    (record {
      kept = λ i. gathers_as (bag i) (standing v i) (standing (released v p) i) (Held v.acting p) (Inbox v.acting) (λ e. inbox_held v.acting v.acting p (sym e))
          (ap (times i) (at_record_at v.held v.acting p []))
          (ap (times i) (at_machine_at v.inbox v.acting (v.held v.acting p ++ v.inbox v.acting)) ∙ times-append i (v.held v.acting p) (v.inbox v.acting))
          (λ z a b. ap (times i) (let e_ : ids_at (released v p) z ≡ ids_at v z = search (arith, at_record_off, held_apart, at_machine_off, inbox_apart) in e_)) (h.kept i);
      told = h.told;
      mine = h.mine;
    })

-- messages that are on the way from a list to their puts
abbrev pub without_all : List MsgId → Bag → Bag
without_all [] bag i = bag i
without_all (j ∷ js) bag i = if id_eq j i then None else without_all js bag i

pub flip_zero : (i j : MsgId) → one_of i j ≡ 0 → id_eq j i ≡ false
flip_zero i j e = false_from_ne_true (id_eq j i) (λ k. let is : j ≡ i = id_eq-is j i k in absurd (let one : one_of i j ≡ 1 = ap (λ x. one_of i x) is ∙ ap (λ (c : Bool). if c then 1 else 0) (id_eq-same i) in omega (arith, e, one)))

pub without_off : (js : List MsgId) (bag : Bag) (i : MsgId) → times i js ≡ 0 → without_all js bag i ≡ bag i
without_off [] bag i e = refl
without_off (j ∷ js) bag i e =
    ap (λ (c : Bool). if c then None else without_all js bag i) (flip_zero i j (let first : one_of i j ≡ 0 = omega (arith, e) in first)) ∙ without_off js bag i (let rest : times i js ≡ 0 = omega (arith, e) in rest)

pub without_at : (js : List MsgId) (bag : Bag) (i : MsgId) → 1 ≤ times i js → without_all js bag i ≡ None
without_at [] bag i least = absurd (omega arith)
without_at (j ∷ js) bag i least = elim (cases_Bool (id_eq j i)) [
  | inl same ↦ ap (λ (c : Bool). if c then None else without_all js bag i) same
  | inr apart ↦
      ap (λ (c : Bool). if c then None else without_all js bag i) apart ∙ without_at js bag i (let rest : 1 ≤ times i js = omega (arith, least, one_of-off i j apart) in rest)
]

pub without_some : (js : List MsgId) (bag : Bag) (i : MsgId) (x : Pid) → without_all js bag i ≡ Some x → bag i ≡ Some x
without_some [] bag i x e = e
without_some (j ∷ js) bag i x e = elim (cases_Bool (id_eq j i)) [
  | inl same ↦ absurd (let k : None ≡ Some x = sym (ap (λ (c : Bool). if c then None else without_all js bag i) same) ∙ e in cc)
  | inr apart ↦ without_some js bag i x (sym (ap (λ (c : Bool). if c then None else without_all js bag i) apart) ∙ e)
]

-- the queue and the held list of a process are emptied
abbrev pub emptied : View → Pid → View
emptied v p = record v { queue = at_record v.queue v.acting p []; held = at_record v.held v.acting p [] }

abbrev pub both_lists : View → Pid → List MsgId
both_lists v p = v.queue v.acting p ++ v.held v.acting p

-- how often a message stands in both lists
pub both_times : (v : View) (p : Pid) (i : MsgId) → times i (both_lists v p) ≡ standing v i (Queue v.acting p) + standing v i (Held v.acting p)
both_times v p i = times-append i (v.queue v.acting p) (v.held v.acting p)

pub both_once : (bag : Bag) (v : View) (p : Pid) (i : MsgId) → Kept bag v → times i (both_lists v p) ≤ 1
both_once bag v p i kept =
    let sum = both_times v p i in
    elim (cases_zero (standing v i (Queue v.acting p))) [
      | inl none ↦ elim (cases_zero (standing v i (Held v.acting p))) [
        | inl nor ↦ omega (arith, sum, none, nor)
        | inr least ↦ let one = StandsAsBag-one (bag i) (standing v i) (Held v.acting p) least (kept i) in omega (arith, sum, none, one)
      ]
      | inr least ↦
          let one = StandsAsBag-one (bag i) (standing v i) (Queue v.acting p) least (kept i) in
          omega (arith, sum, one, StandsAsBag-elsewhere (bag i) (standing v i) (Queue v.acting p) (Held v.acting p) least (λ e. false≢true (ap is_held (sym e))) (kept i))
    ]

nowhere_left : (m : Option Pid) (f g : Spot → ℕ) (x y : Spot) → 1 ≤ f x + f y → g x ≡ 0 → g y ≡ 0 → ((z : Spot) → z ≢ x → z ≢ y → g z ≡ f z) → StandsAsBag m f → StandsNowhere g
nowhere_left m f g x y least gx gy same h z = elim (spot_cases z x) [
  | inl is ↦ ap g is ∙ gx
  | inr other ↦ search (arith, spot_cases, cases_zero, StandsAsBag-elsewhere)
]

pub emptied_kept : (bag : Bag) (v : View) (p : Pid) → Kept bag v → Kept (without_all (both_lists v p) bag) (emptied v p)
emptied_kept bag v p kept i =
    let emptied_off : (v : View) (p : Pid) (z : Spot) → z ≢ Queue v.acting p → z ≢ Held v.acting p → ids_at (emptied v p) z ≡ ids_at v z = λ v p z h1 h2. search (arith, at_record_off, queue_apart, held_apart) in
    let sum = both_times v p i in
    let x = Queue v.acting p in
    let y = Held v.acting p in
    let emptied_held : (v : View) (p : Pid) (i : MsgId) → times i (ids_at (emptied v p) (Held v.acting p)) ≡ 0 = λ v p i. ap (times i) (at_record_at v.held v.acting p []) in
    elim (cases_zero (times i (both_lists v p))) [
      | inl none ↦
          subst (λ (m : Option Pid). StandsAsBag m (standing (emptied v p) i)) (sym (without_off (both_lists v p) bag i none))
          (StandsAsBag-same (bag i) (standing v i) (standing (emptied v p) i) (λ z. elim (spot_cases z x) [
            | inl is ↦ ap (standing (emptied v p) i) is ∙ ap (times i) (at_record_at v.queue v.acting p []) ∙ (let fx : standing v i x ≡ 0 = omega (arith, sum, none) in sym fx) ∙ ap (standing v i) (sym is)
            | inr other ↦ search (arith, spot_cases, emptied_held, emptied_off)
          ]) (kept i))
      | inr least ↦
          subst (λ (m : Option Pid). StandsAsBag m (standing (emptied v p) i)) (sym (without_at (both_lists v p) bag i least))
          (nowhere_left (bag i) (standing v i) (standing (emptied v p) i) x y (omega (arith, sum, least)) (ap (times i) (at_record_at v.queue v.acting p [])) (emptied_held v p i) (λ z a b. ap (times i) (emptied_off v p z a b)) (kept i))
    ]

-- what stands somewhere is under way
pub under_way : (m : Option Pid) (f : Spot → ℕ) (x : Spot) → 1 ≤ f x → StandsAsBag m f → (q : Pid) × (m ≡ Some q)
under_way None f x least h = absurd (let k : f x ≡ 0 = h x in omega (arith, least, k))
under_way (Some q) f x least h = (q, refl)

pub first_off : (v : View) (i : MsgId) (is : List MsgId) → v.inbox v.acting ≡ i ∷ is → (z : Spot) → ids_at (handled_first v) z ≡ ids_at (handled v i) z
first_off v i is e (Inbox m) = ap (λ x. at_machine v.inbox v.acting x m) (ap (drop 1) e ∙ sym (front_goes v i is e))
first_off v i is e _ = refl
