-- Joins, one by one: places of one part stay so, those that are joined are, and no two sides come into one part.
use Rattle.std.proofs.Common.{◌≡◌, ℕ, zero, suc, ◌+◌, ◌<◌, ◌≤◌, ◌==◌, Bool, true, false, List, [], ◌∷◌, map, refl, ap, sym, ◌∙◌, subst, inl, inr, arith, slice_get, nat_lt}
use Rattle.std.specs.Prelude.{if◌then◌else◌}
use Rattle.std.specs.declared.option.Option.{Option}
use Rattle.std.specs.declared.option.Option.TheVariants.{None, Some}
use Rattle.std.proofs.lemmas.Bool.{cases_Bool}
use Rattle.dm_processor.proofs.Names.{nat_tests}
use Rattle.dm_link.specs.declared.Link.{Link}
use Rattle.dm_onekernel.specs.declared.boot.Boot.{Boot}
use Rattle.dm_onekernel.specs.declared.boot.BootProcess.{BootProcess}
use Rattle.dm_parts.specs.Parts.{alone, joined, joins, renamed, with_link, with_links, with_processes}

-- what stands in a list whose elements were changed
get_map : (f : ℕ → ℕ) (xs : List ℕ) (u y : ℕ) → slice_get (map f xs) u ≡ Some y → (x : ℕ) × (slice_get xs u ≡ Some x) × (f x ≡ y)
get_map f [] u y e = cc
get_map f (x ∷ xs) zero y e = (x, refl, cc)
get_map f (x ∷ xs) (suc u) y e = get_map f xs u y e

map_get : (f : ℕ → ℕ) (xs : List ℕ) (u x : ℕ) → slice_get xs u ≡ Some x → slice_get (map f xs) u ≡ Some (f x)
map_get f [] u x e = cc
map_get f (y ∷ ys) zero x e = let k : y ≡ x = cc in ap (λ v. Some (f v)) k
map_get f (y ∷ ys) (suc u) x e = map_get f ys u x e

-- each part is numbered by its first place
pub record Named (parts : List ℕ) : Type 0 where
  pub named : (u x : ℕ) → slice_get parts u ≡ Some x → (x ≤ u) × (slice_get parts x ≡ Some x)

-- each part has one side
pub record Fine (side : ℕ → ℕ) (parts : List ℕ) : Type 0 where
  pub fine : (u v x : ℕ) → slice_get parts u ≡ Some x → slice_get parts v ≡ Some x → side u ≡ side v

pub record Together (parts : List ℕ) (u v : ℕ) : Type 0 where
  pub number : ℕ
  pub first : slice_get parts u ≡ Some number
  pub second : slice_get parts v ≡ Some number

-- there are places up to the last
pub record Full (last : ℕ) (parts : List ℕ) : Type 0 where
  pub full : (u : ℕ) → u ≤ last → (x : ℕ) × (slice_get parts u ≡ Some x)

renamed_is : (from to n : ℕ) (b : Bool) → (n == from) ≡ b → renamed from to n ≡ (if b then to else n)
renamed_is from to n b e = ap (λ (c : Bool). if c then to else n) e

same_number : (n m : ℕ) → (n == m) ≡ true → n ≡ m
same_number n m e = grind (arith, nat_tests)

stays_number : (from to n : ℕ) → n < from → renamed from to n ≡ n
stays_number from to n below = renamed_is from to n false (let e : (n == from) ≡ false = grind (arith, nat_tests) in e)

module _ (parts : List ℕ) (from to a b : ℕ) (below : to < from) (h : Named parts) (first : slice_get parts a ≡ Some from) (second : slice_get parts b ≡ Some to) where
  rename_named : Named (map (renamed from to) parts)
  rename_named = record {
    named = λ u y e.
        let (x, was, is) = get_map (renamed from to) parts u y e in
        let k = h.named u x was in
        let root = (h.named b to second).1 in
        elim (cases_Bool (x == from)) [
          | inl same ↦
              let new : to ≡ y = sym (renamed_is from to x true same) ∙ is in
              let x_is : x ≡ from = same_number x from same in
              (let le = k.0 in omega arith, subst (λ z. slice_get (map (renamed from to) parts) z ≡ Some z) new (map_get (renamed from to) parts to to root ∙ ap Some (stays_number from to to below)))
          | inr apart ↦
              let old : x ≡ y = sym (renamed_is from to x false apart) ∙ is in
              (let le = k.0 in omega arith, subst (λ z. slice_get (map (renamed from to) parts) z ≡ Some z) old (map_get (renamed from to) parts x x k.1 ∙ ap Some (renamed_is from to x false apart)))
        ];
  }

  rename_fine : (side : ℕ → ℕ) → side a ≡ side b → Fine side parts → Fine side (map (renamed from to) parts)
  rename_fine side joined f = record {
    fine = λ u v y e e'.
        let (x, was, is) = get_map (renamed from to) parts u y e in
        let (x', was', is') = get_map (renamed from to) parts v y e' in
        let at_from : (w z : ℕ) → slice_get parts w ≡ Some z → (z == from) ≡ true → side w ≡ side a = λ w z there same. f.fine w a from (there ∙ ap Some (same_number z from same)) first in
        let at_to : (w z : ℕ) → slice_get parts w ≡ Some z → z ≡ to → side w ≡ side b = λ w z there same. f.fine w b to (there ∙ ap Some same) second in
        elim (cases_Bool (x == from)) [
          | inl same ↦ elim (cases_Bool (x' == from)) [
            | inl same' ↦ at_from u x was same ∙ sym (at_from v x' was' same')
            | inr apart' ↦
                let new : x' ≡ to = sym (renamed_is from to x' false apart') ∙ is' ∙ sym is ∙ renamed_is from to x true same in
                at_from u x was same ∙ joined ∙ sym (at_to v x' was' new)
          ]
          | inr apart ↦ elim (cases_Bool (x' == from)) [
            | inl same' ↦
                let new : x ≡ to = sym (renamed_is from to x false apart) ∙ is ∙ sym is' ∙ renamed_is from to x' true same' in
                at_to u x was new ∙ sym joined ∙ sym (at_from v x' was' same')
            | inr apart' ↦
                let both : x ≡ x' = sym (renamed_is from to x false apart) ∙ is ∙ sym is' ∙ renamed_is from to x' false apart' in
                f.fine u v x was (was' ∙ ap Some (sym both))
          ]
        ];
  }

  rename_joins : Together (map (renamed from to) parts) a b
  rename_joins = record {
    number = to;
    first = map_get (renamed from to) parts a from first ∙ ap Some (renamed_is from to from true (let e : (from == from) ≡ true = grind (arith, nat_tests) in e));
    second = map_get (renamed from to) parts b to second ∙ ap Some (stays_number from to to below);
  }

rename_stays : (parts : List ℕ) (from to u v : ℕ) → Together parts u v → Together (map (renamed from to) parts) u v
rename_stays parts from to u v t = record { number = renamed from to t.number; first = map_get (renamed from to) parts u t.number t.first; second = map_get (renamed from to) parts v t.number t.second }

rename_full : (parts : List ℕ) (from to last : ℕ) → Full last parts → Full last (map (renamed from to) parts)
rename_full parts from to last f = record { full = λ u le. let (x, is) = f.full u le in (renamed from to x, map_get (renamed from to) parts u x is) }

-- what holds in each of the three ways to join holds of the join
by_tests : (P : List ℕ → Type 0) (parts : List ℕ) (x y : ℕ) (c d : Bool) → nat_lt x y ≡ c → nat_lt y x ≡ d → (x < y → P (map (renamed y x) parts)) → (y < x → P (map (renamed x y) parts)) → (x ≡ y → P parts)
    → P (if c then map (renamed y x) parts else if d then map (renamed x y) parts else parts)
by_tests P parts x y true d e g f h k = f (let z : x < y = grind (arith, nat_tests) in z)
by_tests P parts x y false true e g f h k = h (let z : y < x = grind (arith, nat_tests) in z)
by_tests P parts x y false false e g f h k = k (let z : x ≡ y = grind (arith, nat_tests) in z)

by_join : (P : List ℕ → Type 0) (parts : List ℕ) (x y : ℕ) → (x < y → P (map (renamed y x) parts)) → (y < x → P (map (renamed x y) parts)) → (x ≡ y → P parts) → P (joined parts (Some x) (Some y))
by_join P parts x y f h k = by_tests P parts x y (nat_lt x y) (nat_lt y x) refl refl f h k

by_numbers : (P : List ℕ → Type 0) (parts : List ℕ) (o o' : Option ℕ) → P parts → ((x y : ℕ) → o ≡ Some x → o' ≡ Some y → P (joined parts (Some x) (Some y))) → P (joined parts o o')
by_numbers P parts None o' h f = h
by_numbers P parts (Some x) None h f = h
by_numbers P parts (Some x) (Some y) h f = f x y refl refl

by_link : (P : List ℕ → Type 0) (parts : List ℕ) (place : ℕ) (o : Option ℕ) → P parts → ((other x y : ℕ) → o ≡ Some other → slice_get parts place ≡ Some x → slice_get parts other ≡ Some y → P (joined parts (Some x) (Some y))) → P (with_link parts place o)
by_link P parts place None h f = h
by_link P parts place (Some other) h f = by_numbers P parts (slice_get parts place) (slice_get parts other) h (λ x y e e'. f other x y refl e e')

swapped : (parts : List ℕ) (u v : ℕ) → Together parts u v → Together parts v u
swapped parts u v t = record { number = t.number; first = t.second; second = t.first }

-- a link
pub link_named : (parts : List ℕ) (place : ℕ) (o : Option ℕ) → Named parts → Named (with_link parts place o)
link_named parts place o h = by_link Named parts place o h (λ other x y e f g. by_join Named parts x y (λ lt. rename_named parts y x other place lt h g f) (λ lt. rename_named parts x y place other lt h f g) (λ same. h))

pub link_fine : (side : ℕ → ℕ) (parts : List ℕ) (place : ℕ) (o : Option ℕ) → Named parts → ((other : ℕ) → o ≡ Some other → side place ≡ side other) → Fine side parts → Fine side (with_link parts place o)
link_fine side parts place o h keeps fine = by_link (Fine side) parts place o fine (λ other x y e f g. by_join (Fine side) parts x y
    (λ lt. rename_fine parts y x other place lt h g f side (sym (keeps other e)) fine) (λ lt. rename_fine parts x y place other lt h f g side (keeps other e) fine) (λ same. fine))

pub link_stays : (parts : List ℕ) (place : ℕ) (o : Option ℕ) (u v : ℕ) → Together parts u v → Together (with_link parts place o) u v
link_stays parts place o u v t = by_link (λ ps. Together ps u v) parts place o t (λ other x y e f g. by_join (λ ps. Together ps u v) parts x y (λ lt. rename_stays parts y x u v t) (λ lt. rename_stays parts x y u v t) (λ same. t))

pub link_full : (last : ℕ) (parts : List ℕ) (place : ℕ) (o : Option ℕ) → Full last parts → Full last (with_link parts place o)
link_full last parts place o f = by_link (Full last) parts place o f (λ other x y e g g'. by_join (Full last) parts x y (λ lt. rename_full parts y x last f) (λ lt. rename_full parts x y last f) (λ same. f))

both_there : (parts : List ℕ) (place other x y : ℕ) → Named parts → slice_get parts place ≡ Some x → slice_get parts other ≡ Some y → Together (joined parts (Some x) (Some y)) place other
both_there parts place other x y h f g = by_join (λ ps. Together ps place other) parts x y
    (λ lt. swapped (map (renamed y x) parts) other place (rename_joins parts y x other place lt h g f)) (λ lt. rename_joins parts x y place other lt h f g)
    (λ same. record { number = x; first = f; second = g ∙ ap Some (sym same) })

pub link_joins : (parts : List ℕ) (place other x y : ℕ) → Named parts → slice_get parts place ≡ Some x → slice_get parts other ≡ Some y → Together (with_link parts place (Some other)) place other
link_joins parts place other x y h f g =
    let e : joined parts (Some x) (Some y) ≡ joined parts (slice_get parts place) (slice_get parts other) = ap (joined parts (Some x)) (sym g) ∙ ap (λ (o : Option ℕ). joined parts o (slice_get parts other)) (sym f) in
    subst (λ ps. Together ps place other) e (both_there parts place other x y h f g)

-- links and processes, one by one
pub links_by : (P : List ℕ → Type 0) (b : Boot) (place : ℕ) (ls : List Link) (parts : List ℕ) → ((l : Link) (n : ℕ) → slice_get ls n ≡ Some l → (ps : List ℕ) → P ps → P (with_link ps place (joins b l))) → P parts → P (with_links b place parts ls)
unfolding with_links
links_by P b place [] parts f h = h
links_by P b place (l ∷ ls) parts f h = links_by P b place ls (with_link parts place (joins b l)) (λ m n e. f m (suc n) e) (f l 0 refl parts h)

pub processes_by : (P : List ℕ → Type 0) (b : Boot) (place : ℕ) (ps : List BootProcess) (parts : List ℕ)
    → ((p : BootProcess) (n at : ℕ) → slice_get ps n ≡ Some p → at ≡ place + n → (qs : List ℕ) → P qs → P (with_links b at qs p.links)) → P parts → P (with_processes b place parts ps)
unfolding with_processes
processes_by P b place [] parts f h = h
processes_by P b place (p ∷ ps) parts f h =
    processes_by P b (place + 1) ps (with_links b place parts p.links) (λ q n at e is. f q (suc n) at e (omega arith)) (f p 0 place refl (omega arith) parts h)

pub record Sound (last : ℕ) (parts : List ℕ) : Type 0 where
  pub named : Named parts
  pub full : Full last parts

pub link_sound : (last : ℕ) (parts : List ℕ) (place : ℕ) (o : Option ℕ) → Sound last parts → Sound last (with_link parts place o)
link_sound last parts place o s = record { named = link_named parts place o s.named; full = link_full last parts place o s.full }

pub links_sound : (last : ℕ) (b : Boot) (place : ℕ) (ls : List Link) (parts : List ℕ) → Sound last parts → Sound last (with_links b place parts ls)
links_sound last b place ls parts s = links_by (Sound last) b place ls parts (λ l n e ps h. link_sound last ps place (joins b l) h) s

pub links_stay : (b : Boot) (place : ℕ) (ls : List Link) (parts : List ℕ) (u v : ℕ) → Together parts u v → Together (with_links b place parts ls) u v
links_stay b place ls parts u v t = links_by (λ ps. Together ps u v) b place ls parts (λ l n e ps h. link_stays ps place (joins b l) u v h) t

pub processes_stay : (b : Boot) (place : ℕ) (ps : List BootProcess) (parts : List ℕ) (u v : ℕ) → Together parts u v → Together (with_processes b place parts ps) u v
processes_stay b place ps parts u v t = processes_by (λ qs. Together qs u v) b place ps parts (λ p n at e is qs h. links_stay b at p.links qs u v h) t

-- a link of a list joins
pub links_join : (last : ℕ) (b : Boot) (place other : ℕ) (l : Link) (n : ℕ) (ls : List Link) (parts : List ℕ) → place ≤ last → other ≤ last → joins b l ≡ Some other → slice_get ls n ≡ Some l → Sound last parts → Together (with_links b place parts ls) place other
unfolding with_links
links_join last b place other l n [] parts in_ out is e s = cc
links_join last b place other l zero (m ∷ ls) parts in_ out is e s =
    let (x, f) = s.full.full place in_ in
    let (y, g) = s.full.full other out in
    let same : m ≡ l = cc in
    let o : Some other ≡ joins b m = sym is ∙ ap (joins b) (sym same) in
    links_stay b place ls (with_link parts place (joins b m)) place other (subst (λ (z : Option ℕ). Together (with_link parts place z) place other) o (link_joins parts place other x y s.named f g))
links_join last b place other l (suc n) (m ∷ ls) parts in_ out is e s = links_join last b place other l n ls (with_link parts place (joins b m)) in_ out is e (link_sound last parts place (joins b m) s)

pub processes_join : (last : ℕ) (b : Boot) (at other : ℕ) (l : Link) (n m : ℕ) (p : BootProcess) (place : ℕ) (ps : List BootProcess) (parts : List ℕ) → at ≤ last → other ≤ last → joins b l ≡ Some other → slice_get p.links m ≡ Some l → slice_get ps n ≡ Some p → at ≡ place + n
    → Sound last parts → Together (with_processes b place parts ps) at other
unfolding with_processes
processes_join last b at other l n m p place [] parts in_ out is held e where_ s = cc
processes_join last b at other l zero m p place (q ∷ ps) parts in_ out is held e where_ s =
    let same : p ≡ q = cc in
    let here : at ≡ place = omega arith in
    let done : Together (with_links b at parts p.links) at other = links_join last b at other l m p.links parts in_ out is held s in
    let moved : Together (with_links b place parts q.links) at other = subst (λ (v : BootProcess). Together (with_links b place parts v.links) at other) same (subst (λ v. Together (with_links b v parts p.links) at other) here done) in
    processes_stay b (place + 1) ps (with_links b place parts q.links) at other moved
processes_join last b at other l (suc n) m p place (q ∷ ps) parts in_ out is held e where_ s =
    processes_join last b at other l n m p (place + 1) ps (with_links b place parts q.links) in_ out is held e (omega arith) (links_sound last b place q.links parts s)

-- each place by itself
alone_at : (i n u x : ℕ) → slice_get (alone i n) u ≡ Some x → x ≡ i + u
alone_at i zero u x e = cc
alone_at i (suc n) zero x e = let k : i ≡ x = cc in omega (arith, k)
alone_at i (suc n) (suc u) x e = let k = alone_at (i + 1) n u x e in omega (arith, k)

alone_has : (i n u : ℕ) → u < n → slice_get (alone i n) u ≡ Some (i + u)
alone_has i zero u lt = absurd (omega arith)
alone_has i (suc n) zero lt = ap Some (let k : i ≡ i + 0 = omega arith in k)
alone_has i (suc n) (suc u) lt = alone_has (i + 1) n u (omega arith) ∙ ap Some (let k : (i + 1) + u ≡ i + suc u = omega arith in k)

pub alone_sound : (last : ℕ) → Sound last (alone 0 (last + 1))
alone_sound last = record {
  named = record { named = λ u x e. let k = alone_at 0 (last + 1) u x e in let same : u ≡ x = omega (arith, k) in (omega arith, subst (λ v. slice_get (alone 0 (last + 1)) v ≡ Some x) same e) };
  full = record { full = λ u le. (u, alone_has 0 (last + 1) u (omega arith) ∙ ap Some (let k : 0 + u ≡ u = omega arith in k)) };
}

pub alone_fine : (side : ℕ → ℕ) (last : ℕ) → Fine side (alone 0 (last + 1))
alone_fine side last = record {
  fine = λ u v x e f.
      let k = alone_at 0 (last + 1) u x e in
      let j = alone_at 0 (last + 1) v x f in
      ap side (omega (arith, k, j));
}
