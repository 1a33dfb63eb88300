-- What each change of a pair keeps.
use Rattle.dm_law_rule.proofs.Names.{◌≡◌, ℕ, ◌+◌, ◌-◌, ◌<◌, ◌≤◌, ◌==◌, ◌||◌, not, Bool, true, false, List, [], ◌∷◌, ◌++◌, refl, ap, ◌∙◌, sym, subst, ◌⊎◌, inl, inr, arith, length, ◌≢◌, if◌then◌else◌, filter, false≢true, nat_tests, MsgId, Load}
use Rattle.dm_law_rule.proofs.Names.{at_pair, Pair, routed_on, gone_after, at_least, goes_out, has, HomeStands, or_right}
use Rattle.std.proofs.Common.{length-append}
use Rattle.dm_law_rule.proofs.Pairs.Stand.{LoadStands, Apart, KeptStands, Kept, Stand, Later, WireStands-more, WireStands-put, set_same, Stand-set, Kept-set, Later-set, Apart-at, set_other, set_is}
pub use Rattle.std.proofs.lemmas.Bool.{or_right as or_first}

pub record Paired (f : ℕ → ℕ → Pair) : Type 0 where
  pub stand : Stand f
  pub kept : Kept f

-- a change that keeps what stands
pub record Goes (f g : ℕ → ℕ → Pair) : Type 0 where
  pub paired : Paired g
  pub later : Later f g

-- a pair of different machines changes
pub changed : (f : ℕ → ℕ → Pair) (a b : ℕ) (p : Pair) → (a == b) ≡ false → Apart p (f b a) → (f a b).taken ≤ p.taken → (f a b).gone ≤ p.gone → KeptStands p → Paired f → Goes f (at_pair f a b p)
changed f a b p ab new t g kept h = search (arith, Later-set f a b p t g, Stand-set, h.stand, Kept-set, h.kept)

-- a packet
abbrev pub packed : Load → Pair → Pair
packed l p = record p { gone = gone_after l p.gone; wire = p.wire ++ record { load = l; delivered = false } ∷ [] }

packed_apart : (l : Load) (p back : Pair) → LoadStands (gone_after l p.gone) back.taken l → p.gone ≤ gone_after l p.gone → gone_after l p.gone ≤ length p.ids → gone_after l p.gone ≤ p.acked + 8 → Apart p back → Apart (packed l p) back
packed_apart l p back stands more ids full h = record {
  acked = h.acked;
  taken = let x = h.taken in omega arith;
  gone = ids;
  full = full;
  wire = WireStands-put (gone_after l p.gone) back.taken p.wire (record { load = l; delivered = false }) (WireStands-more p.gone back.taken (gone_after l p.gone) back.taken p.wire more (omega arith) h.wire) stands;
}

pub packed_goes : (f : ℕ → ℕ → Pair) (a b : ℕ) (l : Load) → (a == b) ≡ false → LoadStands (gone_after l (f a b).gone) (f b a).taken l → (f a b).gone ≤ gone_after l (f a b).gone → gone_after l (f a b).gone ≤ length (f a b).ids
    → gone_after l (f a b).gone ≤ (f a b).acked + 8 → Paired f → Goes f (at_pair f a b (packed l (f a b)))
packed_goes f a b l ab stands more ids full h =
    let packed_kept : (l : Load) (p : Pair) → p.gone ≤ gone_after l p.gone → KeptStands p → KeptStands (packed l p) = λ l p more h k e. let x = h k e in (x.0, omega (arith, x.1, more)) in
    changed f a b (packed l (f a b)) ab (packed_apart l (f a b) (f b a) stands more ids full (h.stand.apart a b ab)) (omega arith) more (packed_kept l (f a b) more (h.kept a b)) h

-- data that has gone out goes out again; the next data goes out; how many were taken is acknowledged
pub again_goes : (f : ℕ → ℕ → Pair) (a b n : ℕ) → (a == b) ≡ false → n < (f a b).gone → Paired f → Goes f (at_pair f a b (packed (Load.Data n) (f a b)))
again_goes f a b n ab less h =
    let same : gone_after (Load.Data n) (f a b).gone ≡ (f a b).gone = grind (arith, nat_tests) in
    let x = h.stand.apart a b ab in
    packed_goes f a b (Load.Data n) ab (omega (arith, same, less)) (omega (arith, same)) (omega (arith, same, x.gone)) (omega (arith, same, x.full)) h

pub next_goes : (f : ℕ → ℕ → Pair) (a b n : ℕ) → (a == b) ≡ false → n ≡ (f a b).gone → n + 1 ≤ length (f a b).ids → n + 1 ≤ (f a b).acked + 8 → Paired f → Goes f (at_pair f a b (packed (Load.Data n) (f a b)))
next_goes f a b n ab is ids full h =
    let same : gone_after (Load.Data n) (f a b).gone ≡ n + 1 = grind (arith, nat_tests) in
    packed_goes f a b (Load.Data n) ab (omega (arith, same)) (omega (arith, same, is)) (omega (arith, same, ids)) (omega (arith, same, full)) h

-- a route
abbrev pub routed_out : Pair → MsgId → Pair
routed_out p id = record p { ids = p.ids ++ id ∷ [] }

abbrev pub routed_home : Pair → MsgId → Pair
routed_home p id = record p { ids = p.ids ++ id ∷ []; taken = p.taken + 1; gone = p.gone + 1; acked = p.acked + 1 }

routed_out-is : (a b : ℕ) (p : Pair) (id : MsgId) → (a == b) ≡ false → routed_on a b p id ≡ routed_out p id
routed_out-is a b p id e = ap (λ (c : Bool). record p { ids = p.ids ++ id ∷ []; taken = if c then p.taken + 1 else p.taken; gone = if c then p.gone + 1 else p.gone; acked = if c then p.acked + 1 else p.acked }) e

pub one_more : (p : Pair) (id : MsgId) → length (p.ids ++ id ∷ []) ≡ length p.ids + 1
one_more p id = simp length-append refl

pub route_out : (f : ℕ → ℕ → Pair) (a b : ℕ) (id : MsgId) → (a == b) ≡ false → Paired f → Goes f (at_pair f a b (routed_on a b (f a b) id))
route_out f a b id ab h =
    let routed_apart : (p back : Pair) (id : MsgId) → Apart p back → Apart (routed_out p id) back =
    λ p back id h. record { acked = h.acked; taken = h.taken; gone = let x = one_more p id in let y = h.gone in omega arith; full = h.full; wire = h.wire } in
    subst (λ (p : Pair). Goes f (at_pair f a b p)) (sym (routed_out-is a b (f a b) id ab))
    (changed f a b (routed_out (f a b) id) ab (routed_apart (f a b) (f b a) id (h.stand.apart a b ab)) (omega arith) (omega arith) (h.kept a b) h)

-- a route, and the message goes out at once
pub route_packed : (f : ℕ → ℕ → Pair) (a b : ℕ) (id : MsgId) → (a == b) ≡ false → goes_out (f a b) ≡ true → Paired f
    → Goes f (at_pair (at_pair f a b (routed_on a b (f a b) id)) a b (packed (Load.Data (length (f a b).ids)) (at_pair f a b (routed_on a b (f a b) id) a b)))
route_packed f a b id ab out h =
    let Goes-on : (f g h : ℕ → ℕ → Pair) → Goes f g → Goes g h → Goes f h = λ f g h x y. record { paired = y.paired; later = (let e_ : Later f h = search (arith, x.later, y.later) in e_) } in
    let g = at_pair f a b (routed_on a b (f a b) id) in
    let first : Goes f g = route_out f a b id ab h in
    let is : g a b ≡ routed_out (f a b) id = set_same f a b (routed_on a b (f a b) id) ∙ routed_out-is a b (f a b) id ab in
    let gone : (g a b).gone ≡ (f a b).gone = ap (λ (p : Pair). p.gone) is in
    let all : (f a b).gone ≡ length (f a b).ids = grind (arith, nat_tests) in
    let room : (f a b).gone - (f a b).acked < 8 = grind (arith, nat_tests) in
    Goes-on f g (at_pair g a b (packed (Load.Data (length (f a b).ids)) (g a b))) first
    (next_goes g a b (length (f a b).ids) ab (sym all ∙ sym gone) (omega (arith, ap (λ (p : Pair). length p.ids) is ∙ one_more (f a b) id)) (omega (arith, all, room, ap (λ (p : Pair). p.acked) is)) first.paired)

route_same : (f : ℕ → ℕ → Pair) (a : ℕ) (id : MsgId) → Paired f → Goes f (at_pair f a a (routed_on a a (f a a) id))
route_same f a id h =
    let home_routed : (p : Pair) (id : MsgId) → HomeStands p → HomeStands (routed_home p id) = λ p id h.
    let x = one_more p id in
    search arith in
    let Stand-home : (f : ℕ → ℕ → Pair) (a : ℕ) (p : Pair) → HomeStands p → Stand f → Stand (at_pair f a a p) = λ f a p new h. search (arith, Apart-at, set_other, set_is) in
    let e : (a == a) ≡ true = grind (arith, nat_tests) in
    let new = home_routed (f a a) id (h.stand.home a) in
    let none_kept : (p : Pair) → p.kept ≡ [] → KeptStands p = λ p e k is. absurd (false≢true (ap (has k) (sym e) ∙ is)) in
    let routed_home-is : (a b : ℕ) (p : Pair) (id : MsgId) → (a == b) ≡ true → routed_on a b p id ≡ routed_home p id =
    λ a b p id e. ap (λ (c : Bool). record p { ids = p.ids ++ id ∷ []; taken = if c then p.taken + 1 else p.taken; gone = if c then p.gone + 1 else p.gone; acked = if c then p.acked + 1 else p.acked }) e in
    subst (λ (p : Pair). Goes f (at_pair f a a p)) (sym (routed_home-is a a (f a a) id e))
    ((search (arith, Stand-home, Kept-set, none_kept, Later-set)))

pub route_home : (f : ℕ → ℕ → Pair) (a b : ℕ) (id : MsgId) → (a == b) ≡ true → Paired f → Goes f (at_pair f a b (routed_on a b (f a b) id))
route_home f a b id e h =
    subst (λ (n : ℕ). Goes f (at_pair f a n (routed_on a n (f a n) id))) (let is : a ≡ b = grind (arith, nat_tests) in is) (route_same f a id h)

pub at_least-more : (m n : ℕ) → m ≤ at_least m n
at_least-more m n = grind (arith, nat_tests)

-- the numbers that are kept without one
abbrev pub off : ℕ → List ℕ → List ℕ
off n ks = filter (λ k. not (k == n)) ks

pub or_cases : (b c : Bool) → (b || c) ≡ true → (b ≡ true) ⊎ ((b ≡ false) × (c ≡ true))
or_cases true c e = inl refl
or_cases false c e = inr (refl, e)

off_cons : (n j : ℕ) (js : List ℕ) (b : Bool) → (j == n) ≡ b → off n (j ∷ js) ≡ (if b then off n js else j ∷ off n js)
off_cons n j js true e = ap (λ (c : Bool). if not c then j ∷ off n js else off n js) e
off_cons n j js false e = ap (λ (c : Bool). if not c then j ∷ off n js else off n js) e

pub off_has : (n k : ℕ) (ks : List ℕ) → has k (off n ks) ≡ true → (has k ks ≡ true) × (k ≢ n)
off_has n k [] e = absurd (false≢true e)
off_has n k (j ∷ js) e = search (arith, or_right, or_cases, off_has n k js, ap (has k) (sym (off_cons n j js (j == n) refl)) ∙ e)
