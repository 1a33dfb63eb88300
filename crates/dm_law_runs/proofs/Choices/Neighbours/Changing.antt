-- Two directives of different machines lead to the same world in either order.
use Rattle.dm_law_mirror.proofs.Names.{◌≡◌, ◌≢◌, ◌<◌, ◌≤◌, ℕ, zero, suc, Bool, true, false, if◌then◌else◌, List, [], ◌∷◌, ◌++◌, length, refl, ap, ◌∙◌, sym, subst, ◌⊎◌, inl, inr, arith, nat_tests, ⊤, Option, None, Some}
use Rattle.dm_law_mirror.proofs.Names.{eqb_tells, length_marked, Pid, pid_eq, pid_eq-is, Why, Sent, bytes_at, Step, WorldState, with_over, PutsFrom, SamePacket, AsLong, marked_by}
use Rattle.dm_law_one.proofs.Names.{fun_ext}
use Rattle.dm_wire.specs.Sent.{marked}
use Rattle.dm_wire.specs.Wire.{is_pair}
use Rattle.dm_law_mirror.proofs.Deliver.Outs.{bytes_marked}

-- the packet that a delivery delivers isn't put between these two worlds
abbrev pub Settled : Step → WorldState → WorldState → Type 0
Settled (Step.Turn m) w u = ⊤
Settled (Step.Tick m) w u = ⊤
Settled (Step.Deliver a c k) w u = (k < length (w.wires a c)) ⊎ (length (u.wires a c) ≤ k)
Settled (Step.Migrate p m) w u = ⊤
Settled (Step.CallOff p m) w u = ⊤

-- marks on one wire
abbrev mark_if : Bool → List Sent → ℕ → List Sent
mark_if on ps k = if on then marked ps k else ps

abbrev mark_on : Step → ℕ → ℕ → List Sent → List Sent
mark_on (Step.Turn m) x y ps = ps
mark_on (Step.Tick m) x y ps = ps
mark_on (Step.Deliver a c k) x y ps = mark_if (is_pair a c x y) ps k
mark_on (Step.Migrate p m) x y ps = ps
mark_on (Step.CallOff p m) x y ps = ps

marks_are : (e : Step) (w : WorldState) (x y : ℕ) → (marked_by e w).wires x y ≡ mark_on e x y (w.wires x y)
marks_are (Step.Turn m) w x y = refl
marks_are (Step.Tick m) w x y = refl
marks_are (Step.Deliver a c k) w x y = refl
marks_are (Step.Migrate p m) w x y = refl
marks_are (Step.CallOff p m) w x y = refl

pub marks_leave : (e : Step) (w : WorldState) (n : ℕ) → (marked_by e w).nodes n ≡ w.nodes n
marks_leave (Step.Turn m) w n = refl
marks_leave (Step.Tick m) w n = refl
marks_leave (Step.Deliver a c k) w n = refl
marks_leave (Step.Migrate p m) w n = refl
marks_leave (Step.CallOff p m) w n = refl

marks_count : (e : Step) (w : WorldState) → (marked_by e w).groups ≡ w.groups
marks_count (Step.Turn m) w = refl
marks_count (Step.Tick m) w = refl
marks_count (Step.Deliver a c k) w = refl
marks_count (Step.Migrate p m) w = refl
marks_count (Step.CallOff p m) w = refl

if_long : (on : Bool) (ps : List Sent) (k : ℕ) → length (mark_if on ps k) ≡ length ps
if_long true ps k = length_marked ps k
if_long false ps k = refl

mark_long : (e : Step) (x y : ℕ) (ps : List Sent) → length (mark_on e x y ps) ≡ length ps
mark_long (Step.Turn m) x y ps = refl
mark_long (Step.Tick m) x y ps = refl
mark_long (Step.Deliver a c k) x y ps = if_long (is_pair a c x y) ps k
mark_long (Step.Migrate p m) x y ps = refl
mark_long (Step.CallOff p m) x y ps = refl

if_bytes : (on : Bool) (ps : List Sent) (k j : ℕ) → bytes_at (mark_if on ps k) j ≡ bytes_at ps j
if_bytes true ps k j = bytes_marked ps k j
if_bytes false ps k j = refl

mark_bytes : (e : Step) (x y : ℕ) (ps : List Sent) (j : ℕ) → bytes_at (mark_on e x y ps) j ≡ bytes_at ps j
mark_bytes (Step.Turn m) x y ps j = refl
mark_bytes (Step.Tick m) x y ps j = refl
mark_bytes (Step.Deliver a c k) x y ps j = if_bytes (is_pair a c x y) ps k j
mark_bytes (Step.Migrate p m) x y ps j = refl
mark_bytes (Step.CallOff p m) x y ps j = refl

-- two marks change places
marks_swap : (ps : List Sent) (i j : ℕ) → marked (marked ps i) j ≡ marked (marked ps j) i
marks_swap [] i j = refl
marks_swap (p ∷ ps) zero zero = refl
marks_swap (p ∷ ps) zero (suc j) = refl
marks_swap (p ∷ ps) (suc i) zero = refl
marks_swap (p ∷ ps) (suc i) (suc j) = ap (λ (qs : List Sent). p ∷ qs) (marks_swap ps i j)

if_swaps : (on there : Bool) (ps : List Sent) (i j : ℕ) → mark_if on (mark_if there ps j) i ≡ mark_if there (mark_if on ps i) j
if_swaps true true ps i j = marks_swap ps j i
if_swaps true false ps i j = refl
if_swaps false true ps i j = refl
if_swaps false false ps i j = refl

mark_swaps : (d e : Step) (x y : ℕ) (ps : List Sent) → mark_on d x y (mark_on e x y ps) ≡ mark_on e x y (mark_on d x y ps)
mark_swaps (Step.Deliver a c k) (Step.Deliver f g j) x y ps = if_swaps (is_pair a c x y) (is_pair f g x y) ps k j
mark_swaps (Step.Deliver a c k) (Step.Turn m) x y ps = refl
mark_swaps (Step.Deliver a c k) (Step.Tick m) x y ps = refl
mark_swaps (Step.Deliver a c k) (Step.Migrate p m) x y ps = refl
mark_swaps (Step.Deliver a c k) (Step.CallOff p m) x y ps = refl
mark_swaps (Step.Turn m) e x y ps = refl
mark_swaps (Step.Tick m) e x y ps = refl
mark_swaps (Step.Migrate p m) e x y ps = refl
mark_swaps (Step.CallOff p m) e x y ps = refl

-- a mark on packets that were there, or on none, is the same with more behind them
marked_past : (ps : List Sent) (k : ℕ) → length ps ≤ k → marked ps k ≡ ps
marked_past [] k past = refl
marked_past (p ∷ ps) zero past = absurd (omega (arith, past))
marked_past (p ∷ ps) (suc k) past = ap (λ (qs : List Sent). p ∷ qs) (marked_past ps k (omega (arith, past)))

marked_front : (ps more : List Sent) (k : ℕ) → (k < length ps) ⊎ (length (ps ++ more) ≤ k) → marked (ps ++ more) k ≡ marked ps k ++ more
marked_front [] more k (inl less) = absurd (omega (arith, less))
marked_front [] more k (inr past) = marked_past more k past
marked_front (p ∷ ps) more zero h = refl
marked_front (p ∷ ps) more (suc k) (inl less) = ap (λ (qs : List Sent). p ∷ qs) (marked_front ps more k (inl (omega (arith, less))))
marked_front (p ∷ ps) more (suc k) (inr past) = ap (λ (qs : List Sent). p ∷ qs) (marked_front ps more k (inr (omega (arith, past))))

bytes_past : (ps : List Sent) (k : ℕ) → length ps ≤ k → bytes_at ps k ≡ None
bytes_past [] k past = refl
bytes_past (p ∷ ps) zero past = absurd (omega (arith, past))
bytes_past (p ∷ ps) (suc k) past = bytes_past ps k (omega (arith, past))

bytes_front : (ps more : List Sent) (k : ℕ) → (k < length ps) ⊎ (length (ps ++ more) ≤ k) → bytes_at (ps ++ more) k ≡ bytes_at ps k
bytes_front [] more k (inl less) = absurd (omega (arith, less))
bytes_front [] more k (inr past) = bytes_past more k past
bytes_front (p ∷ ps) more zero h = refl
bytes_front (p ∷ ps) more (suc k) (inl less) = bytes_front ps more k (inl (omega (arith, less)))
bytes_front (p ∷ ps) more (suc k) (inr past) = bytes_front ps more k (inr (omega (arith, past)))

-- what comes to be put on a wire, behind a mark
abbrev Fits : ℕ → List Sent → List Sent → Type 0
Fits k ps more = (k < length ps) ⊎ (length (ps ++ more) ≤ k)

if_front : (on : Bool) (ps more : List Sent) (k : ℕ) → (on ≡ true → Fits k ps more) → mark_if on (ps ++ more) k ≡ mark_if on ps k ++ more
if_front true ps more k h = marked_front ps more k (h refl)
if_front false ps more k h = refl

-- where a step delivers from this wire, its packet isn't one of those that are put
abbrev FitsOn : Step → ℕ → ℕ → List Sent → List Sent → Type 0
FitsOn (Step.Turn m) x y ps more = ⊤
FitsOn (Step.Tick m) x y ps more = ⊤
FitsOn (Step.Deliver a c k) x y ps more = is_pair a c x y ≡ true → Fits k ps more
FitsOn (Step.Migrate p m) x y ps more = ⊤
FitsOn (Step.CallOff p m) x y ps more = ⊤

mark_front : (e : Step) (x y : ℕ) (ps more : List Sent) → FitsOn e x y ps more → mark_on e x y (ps ++ more) ≡ mark_on e x y ps ++ more
mark_front (Step.Turn m) x y ps more h = refl
mark_front (Step.Tick m) x y ps more h = refl
mark_front (Step.Deliver a c k) x y ps more h = if_front (is_pair a c x y) ps more k h
mark_front (Step.Migrate p m) x y ps more h = refl
mark_front (Step.CallOff p m) x y ps more h = refl

-- the wires of the machine that acted, and those of the others
own_wire : (m : ℕ) (more : ℕ → List Sent) (d : Step) (w u : WorldState) (y : ℕ) → PutsFrom m more (marked_by d w) u → u.wires m y ≡ mark_on d m y (w.wires m y) ++ more y
own_wire m more d w u y h = h.own y ∙ ap (λ (ps : List Sent). ps ++ more y) (marks_are d w m y)

other_wire : (m : ℕ) (more : ℕ → List Sent) (d : Step) (w u : WorldState) (x y : ℕ) → PutsFrom m more (marked_by d w) u → x ≢ m → u.wires x y ≡ mark_on d x y (w.wires x y)
other_wire m more d w u x y h apart = h.others x y apart ∙ marks_are d w x y

pair_is : (a c x y : ℕ) → is_pair a c x y ≡ true → (a ≡ x) × (c ≡ y)
pair_is a c x y e = ((let f : a ≡ x = grind (arith, nat_tests) in f), (let f : c ≡ y = grind (arith, nat_tests) in f))

-- what is settled fits
settled_fits : (e : Step) (m : ℕ) (more : ℕ → List Sent) (d : Step) (w u : WorldState) (y : ℕ) → PutsFrom m more (marked_by d w) u → Settled e w u → FitsOn e m y (mark_on d m y (w.wires m y)) (more y)
settled_fits (Step.Turn n) m more d w u y h settled = tt
settled_fits (Step.Tick n) m more d w u y h settled = tt
settled_fits (Step.Migrate p n) m more d w u y h settled = tt
settled_fits (Step.CallOff p n) m more d w u y h settled = tt
settled_fits (Step.Deliver a c k) m more d w u y h settled = λ here.
    (let same = pair_is a c m y here in
    let long : length (mark_on d m y (w.wires m y)) ≡ length (w.wires m y) = mark_long d m y (w.wires m y) in
    let now : length (mark_on d m y (w.wires m y) ++ more y) ≡ length (u.wires m y) = sym (ap length (own_wire m more d w u y h)) in
    let s : (k < length (w.wires m y)) ⊎ (length (u.wires m y) ≤ k) = subst (λ (z : ℕ). (k < length (w.wires m z)) ⊎ (length (u.wires m z) ≤ k)) same.1 (subst (λ (z : ℕ). (k < length (w.wires z c)) ⊎ (length (u.wires z c) ≤ k)) same.0 settled) in
    fits_as s long now)
  where
    fits_as : (k < length (w.wires m y)) ⊎ (length (u.wires m y) ≤ k) → length (mark_on d m y (w.wires m y)) ≡ length (w.wires m y) → length (mark_on d m y (w.wires m y) ++ more y) ≡ length (u.wires m y) → Fits k (mark_on d m y (w.wires m y)) (more y)
    fits_as (inl less) long now = inl (omega (arith, less, long))
    fits_as (inr past) long now = inr (omega (arith, past, now))

-- a packet that is settled is the same
pub settled_same : (e : Step) (m : ℕ) (more : ℕ → List Sent) (d : Step) (w u : WorldState) → PutsFrom m more (marked_by d w) u → Settled e w u → SamePacket e w u
settled_same (Step.Turn n) m more d w u h settled = tt
settled_same (Step.Tick n) m more d w u h settled = tt
settled_same (Step.Migrate p n) m more d w u h settled = tt
settled_same (Step.CallOff p n) m more d w u h settled = tt
settled_same (Step.Deliver a c k) m more d w u h settled = elim (eqb_tells a m) [
  | inl here ↦
      subst (λ (z : ℕ). ((k < length (w.wires z c)) ⊎ (length (u.wires z c) ≤ k)) → bytes_at (u.wires z c) k ≡ bytes_at (w.wires z c) k) (sym here.1)
      (λ s. ap (λ (ps : List Sent). bytes_at ps k) (own_wire m more d w u c h)
      ∙ bytes_front (mark_on d m c (w.wires m c)) (more c) k (fits_as s (mark_long d m c (w.wires m c)) (sym (ap length (own_wire m more d w u c h))))
      ∙ mark_bytes d m c (w.wires m c) k) settled
  | inr off ↦ ap (λ (ps : List Sent). bytes_at ps k) (other_wire m more d w u a c h off.1) ∙ mark_bytes d a c (w.wires a c) k
]
  where
    fits_as : (k < length (w.wires m c)) ⊎ (length (u.wires m c) ≤ k) → length (mark_on d m c (w.wires m c)) ≡ length (w.wires m c) → length (mark_on d m c (w.wires m c) ++ more c) ≡ length (u.wires m c) → Fits k (mark_on d m c (w.wires m c)) (more c)
    fits_as (inl less) long now = inl (omega (arith, less, long))
    fits_as (inr past) long now = inr (omega (arith, past, now))

-- another machine's wires keep their lengths
pub others_long : (m n : ℕ) (more : ℕ → List Sent) (d : Step) (w u : WorldState) → n ≢ m → PutsFrom m more (marked_by d w) u → AsLong n w u
others_long m n more d w u apart h c = ap length (other_wire m more d w u n c h apart) ∙ mark_long d n c (w.wires n c)

-- two directives, on machines m and n: from w by d to v and by e to z, and from w by e to u and by d to t
pub record Four (d e : Step) (m n : ℕ) (w v z u t : WorldState) : Type 0 where
  pub apart : m ≢ n
  pub by_d : ℕ → List Sent
  pub by_e : ℕ → List Sent
  pub first : PutsFrom m by_d (marked_by d w) v
  pub second : PutsFrom n by_e (marked_by e v) z
  pub other : PutsFrom n by_e (marked_by e w) u
  pub last : PutsFrom m by_d (marked_by d u) t
  -- each machine does the same
  pub node_d : t.nodes m ≡ v.nodes m
  pub node_e : u.nodes n ≡ z.nodes n
  -- neither delivers a packet that the other puts
  pub settled_e : Settled e w v
  pub settled_d : Settled d w u
  pub ended : (p : Pid) → t.ended p ≡ z.ended p

four_wires : (d e : Step) (m n : ℕ) (w v z u t : WorldState) → Four d e m n w v z u t → (x y : ℕ) → t.wires x y ≡ z.wires x y
four_wires d e m n w v z u t h x y = elim (eqb_tells x m) [
  | inl same ↦ subst (λ (k : ℕ). t.wires k y ≡ z.wires k y) (sym same.1) on_m
  | inr off ↦ elim (eqb_tells x n) [
    | inl same ↦ subst (λ (k : ℕ). t.wires k y ≡ z.wires k y) (sym same.1) on_n
    | inr apart ↦ elsewhere off.1 apart.1
  ]
]
  where
    swapped : n ≢ m
    swapped = λ e. h.apart (sym e)

    on_m : t.wires m y ≡ z.wires m y
    on_m =
        own_wire m h.by_d d u t y h.last
        ∙ ap (λ (ps : List Sent). mark_on d m y ps ++ h.by_d y) (other_wire n h.by_e e w u m y h.other h.apart)
        ∙ ap (λ (ps : List Sent). ps ++ h.by_d y) (mark_swaps d e m y (w.wires m y))
        ∙ sym (mark_front e m y (mark_on d m y (w.wires m y)) (h.by_d y) (settled_fits e m h.by_d d w v y h.first h.settled_e))
        ∙ ap (mark_on e m y) (sym (own_wire m h.by_d d w v y h.first))
        ∙ sym (other_wire n h.by_e e v z m y h.second h.apart)

    on_n : t.wires n y ≡ z.wires n y
    on_n =
        other_wire m h.by_d d u t n y h.last swapped
        ∙ ap (mark_on d n y) (own_wire n h.by_e e w u y h.other)
        ∙ mark_front d n y (mark_on e n y (w.wires n y)) (h.by_e y) (settled_fits d n h.by_e e w u y h.other h.settled_d)
        ∙ ap (λ (ps : List Sent). ps ++ h.by_e y) (mark_swaps d e n y (w.wires n y))
        ∙ ap (λ (ps : List Sent). mark_on e n y ps ++ h.by_e y) (sym (other_wire m h.by_d d w v n y h.first swapped))
        ∙ sym (own_wire n h.by_e e v z y h.second)

    elsewhere : x ≢ m → x ≢ n → t.wires x y ≡ z.wires x y
    elsewhere off apart =
        other_wire m h.by_d d u t x y h.last off
        ∙ ap (mark_on d x y) (other_wire n h.by_e e w u x y h.other apart)
        ∙ mark_swaps d e x y (w.wires x y)
        ∙ ap (mark_on e x y) (sym (other_wire m h.by_d d w v x y h.first off))
        ∙ sym (other_wire n h.by_e e v z x y h.second apart)

-- the nodes of the machines that didn't act
other_node : (m : ℕ) (more : ℕ → List Sent) (d : Step) (w u : WorldState) (k : ℕ) → PutsFrom m more (marked_by d w) u → k ≢ m → u.nodes k ≡ w.nodes k
other_node m more d w u k h apart = h.nodes k apart ∙ marks_leave d w k

four_nodes : (d e : Step) (m n : ℕ) (w v z u t : WorldState) → Four d e m n w v z u t → (k : ℕ) → t.nodes k ≡ z.nodes k
four_nodes d e m n w v z u t h k = elim (eqb_tells k m) [
  | inl same ↦ subst (λ (k : ℕ). t.nodes k ≡ z.nodes k) (sym same.1) (h.node_d ∙ sym (other_node n h.by_e e v z m h.second h.apart))
  | inr off ↦ elim (eqb_tells k n) [
    | inl same ↦ subst (λ (k : ℕ). t.nodes k ≡ z.nodes k) (sym same.1) (other_node m h.by_d d u t n h.last (λ e. h.apart (sym e)) ∙ h.node_e)
    | inr apart ↦
        other_node m h.by_d d u t k h.last off.1 ∙ other_node n h.by_e e w u k h.other apart.1
        ∙ sym (other_node n h.by_e e v z k h.second apart.1 ∙ other_node m h.by_d d w v k h.first off.1)
  ]
]

four_groups : (d e : Step) (m n : ℕ) (w v z u t : WorldState) → Four d e m n w v z u t → t.groups ≡ z.groups
four_groups d e m n w v z u t h =
    let a = h.last.groups in
    let b = marks_count d u in
    let c = h.other.groups in
    let f = marks_count e w in
    let g = h.second.groups in
    let i = marks_count e v in
    let j = h.first.groups in
    let k = marks_count d w in
    omega (arith, a, b, c, f, g, i, j, k)

pub four_same : (d e : Step) (m n : ℕ) (w v z u t : WorldState) → Four d e m n w v z u t → t ≡ z
four_same d e m n w v z u t h =
    let nodes : t.nodes ≡ z.nodes = fun_ext (four_nodes d e m n w v z u t h) in
    let wires : t.wires ≡ z.wires = fun_ext (λ x. fun_ext (four_wires d e m n w v z u t h x)) in
    let ended : t.ended ≡ z.ended = fun_ext h.ended in
    let groups = four_groups d e m n w v z u t h in
    λ i. record { nodes = nodes i; wires = wires i; ended = ended i; groups = groups i }

-- who has ended: two that end change places, where one of whom two say so ended for the same reason
pub over_swaps : (ended : Pid → Option Why) (x y : Option (Pid × Why)) (p : Pid) → ((q : Pid) (f g : Why) → x ≡ Some (q, f) → y ≡ Some (q, g) → f ≡ g) → with_over (with_over ended x) y p ≡ with_over (with_over ended y) x p
over_swaps ended None None p h = refl
over_swaps ended None (Some (q, f)) p h = refl
over_swaps ended (Some (q, f)) None p h = refl
over_swaps ended (Some (q, f)) (Some (r, g)) p h = both (pid_eq q p) (pid_eq r p) refl refl
  where
    both : (c d : Bool) → pid_eq q p ≡ c → pid_eq r p ≡ d → (if d then Some g else if c then Some f else ended p) ≡ (if c then Some f else if d then Some g else ended p)
    both true true is there =
        let same : r ≡ q = pid_eq-is r p there ∙ sym (pid_eq-is q p is) in
        let reason : f ≡ g = h q f g refl (ap (λ (z : Pid). Some (z, g)) same) in
        ap Some (sym reason)
    both true false is there = refl
    both false true is there = refl
    both false false is there = refl
