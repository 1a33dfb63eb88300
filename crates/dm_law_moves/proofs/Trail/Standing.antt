-- The trails that printed lines lay stand, and from each place that is named for a process the forwarding addresses lead to it.
use Rattle.dm_law_moves.proofs.Names.{◌≡◌, ◌≢◌, ℕ, suc, ◌-◌, ◌==◌, true, false, List, [], ◌∷◌, ◌++◌, length, refl, ap, ◌∙◌, sym, subst, inl, inr, arith, cases_Bool, slice_get_within, slice_get, Option, None, Some, Pid, Place, Boot, IsValid}
use Rattle.dm_law_moves.proofs.Names.{bind, Step, bind-is, Line, unmoved, Leads, Point, first_point, after, after_line, Trails, Trail, IsOn, Trodden, first_trodden, along, trails_after, View, Known, Unknown, Forward, along_treads}
use Rattle.dm_law_moves.proofs.Names.{treads_start, trail_leads, Treads, is_away, is_alive, ◌<◌, Bool, is_server, is_fixed, agrees, LeadsBy, made_free, is_made, ends_walk, IsNamed, Reaches, IsLast, TrailStands, TrailsStand, IsLed}
use Rattle.dm_law_moves.proofs.Names.{AddressesLead, nat_tests, has_it, not_true, false≢true, is_some, ◌||◌}
use Rattle.dm_law_moves.proofs.After.{group_after}
use Rattle.dm_law_moves.proofs.Trail.Known.{Holds, at_home, carries, ranges_in, none_is, made_by, passed_always}
use Rattle.dm_law_moves.proofs.Trail.Placed.{is_held}
use Rattle.dm_law_always.proofs.Calling.{neither}

abbrev trodden : Point → Trails → Trodden
trodden pt t = record { point = pt; trails = t }

-- wherever lines lead, trails lead along
along_there : (ls : List Line) (pt end : Point) (t : Trails) → after pt ls ≡ Some end → (u : Trails) × (along (trodden pt t) ls ≡ Some (trodden end u))
along_there [] pt end t e = let f : pt ≡ end = cc in (t, ap (λ (q : Point). Some (trodden q t)) f)
along_there (l ∷ ls) pt end t e =
    let (next, first, rest) = bind-is (after_line pt l) (λ (q : Point). after q ls) end e in
    let (u, is) = along_there ls next end (trails_after pt.view t l) rest in
    (u, ap (λ (o : Option Point). bind o (λ (n : Point). along (trodden n (trails_after pt.view t l)) ls)) first ∙ is)

along-append : (xs ys : List Line) (x y : Trodden) → along x xs ≡ Some y → along x (xs ++ ys) ≡ along y ys
along-append [] ys x y e = let f : x ≡ y = cc in ap (λ (z : Trodden). along z ys) f
along-append (l ∷ xs) ys x y e = grind (arith, nat_tests, bind-is, along-append xs ys)

-- where lines lead, with the trails that they lay
record Laid (b : Boot) (pt : Point) (t : Trails) (ls : List Line) (end : Point) : Type 0 where
  trails : Trails
  lays : along (trodden pt t) ls ≡ Some (trodden end trails)
  holds : Holds b (trodden end trails)
  treads : Treads end trails

laid_by : (b : Boot) (es : List Step) (ls : List Line) (pt end : Point) (t : Trails) → LeadsBy b pt es ls end → Holds b (trodden pt t) → Treads pt t → Laid b pt t ls end
laid_by b [] ls pt end t (none, same) h on = subst (λ (xs : List Line). Laid b pt t xs end) (sym none) (subst (Laid b pt t []) same (record { trails = t; lays = refl; holds = h; treads = on }))
laid_by b (e ∷ es) ls pt end t (w, rest, fit, is, are, more) h on =
    let (u, comes) = along_there w.lines pt w.point t (group_after b pt e w is) in
    let holds = carries.keeps b (trodden pt t) (trodden w.point u) e w fit is comes h on in
    let treads = along_treads w.lines (trodden pt t) (trodden w.point u) comes (carries.fits b (trodden pt t) e w fit is h on) on in
    let laid_more : (b : Boot) (pt mid end : Point) (t u : Trails) (xs ys : List Line) → along (trodden pt t) xs ≡ Some (trodden mid u) → Laid b mid u ys end → Laid b pt t (xs ++ ys) end =
    λ b pt mid end t u xs ys first k. record { trails = k.trails; lays = along-append xs ys (trodden pt t) (trodden mid u) first ∙ k.lays; holds = k.holds; treads = k.treads } in
    subst (λ (xs : List Line). Laid b pt t xs end) (sym are) (laid_more b pt w.point end t u w.lines rest comes (laid_by b es rest w.point end u more holds treads))

laid_first : (b : Boot) (es : List Step) (ls : List Line) (pt : Point) → IsValid b → LeadsBy b (first_point b) es ls pt → Laid b (first_point b) (first_trodden b).trails ls pt
laid_first b es ls pt valid way = laid_by b es ls (first_point b) pt (first_trodden b).trails way (carries.start b valid) (treads_start b valid)

-- whatever leads somewhere leads by lines
pub lines_there : (b : Boot) (es : List Step) (pt end : Point) → Leads b pt es end → (ls : List Line) × LeadsBy b pt es ls end
lines_there b [] pt end way = ([], (refl, way))
lines_there b (e ∷ es) pt end (w, fit, is, more) = let (ls, rest) = lines_there b es w.point end more in (w.lines ++ ls, (w, ls, fit, is, refl, rest))

-- lists of one place
one_place : (xs : List ℕ) (m : ℕ) → length xs ≡ 1 → slice_get xs 0 ≡ Some m → xs ≡ m ∷ []
one_place (x ∷ []) m long e = let f : x ≡ m = cc in ap (λ (y : ℕ). y ∷ []) f
one_place _ m long e = absurd (omega (arith, long))

-- the last machine of a trail doesn't forward
walk_ends : (k : Known) → k ≢ Unknown → ((m c : ℕ) → k ≡ Forward m c → ⊥) → ends_walk k ≡ true
walk_ends k some off = grind (arith, nat_tests)

alone_long : (b : Boot) (pt : Point) (t : Trails) (p : Pid) → Holds b (trodden pt t) → is_made pt.kernel p ≡ false → length (t p) ≡ 1
alone_long b pt t p h unmade =
    let off = neither (is_server p) (is_some (pt.kernel.processes p)) unmade in
    let none : pt.kernel.processes p ≡ None = none_is (pt.kernel.processes p) off.1 in
    let unknown : (m : ℕ) → pt.view.known m p ≡ Unknown = λ m. (let e_ : (pt.view.known m p) ≡ Unknown = grind (arith, nat_tests, sym (ap (agrees (pt.view.known m p)) none) ∙ h.both.run.based.known.agree m p off.0) in e_) in
    let long = (h.places p).gone (λ m. ap is_away (unknown m)) in
    let moves = h.both.run.based.unmoved p off.0 none in
    omega (arith, long, moves)

-- a forward leads further along the trail
no_further : (lives : Bool) (v : View) (t : Trails) (p : Pid) (place : Place) (m c : ℕ) → Trail lives v t p → IsLast t p place → v.known place.at p ≡ Forward m c → ⊥
no_further lives v t p place m c trail is e =
    let rises = trail.behind place.at m c place.moves e is.on in
    let less = slice_get_within (t p) c m (trail.named place.at m c e) in
    grind (arith, nat_tests)

reaches : (b : Boot) (pt : Point) (t : Trails) (p : Pid) (place : Place) → Holds b (trodden pt t) → Treads pt t → is_made pt.kernel p ≡ true → IsOn t p place → Reaches pt p place
reaches b pt t p place h on made is =
    let n = pt.kernel.machines - 1 in
    let machines : pt.kernel.machines ≡ suc n = (let some = h.both.run.kept.acting in let e_ : pt.kernel.machines ≡ suc (pt.kernel.machines - 1) = omega (arith, some) in e_) in
    trail_leads (is_alive pt.kernel p) pt.view t p n p.home place (on.trail p) (λ lives. at_home pt.kernel pt.view p h.both.run.based.known lives)
    (λ c m e. subst (λ (k : ℕ). m < k) machines ((ranges_in b (trodden pt t) h).within p made c m e)) is

alone : (b : Boot) (pt : Point) (t : Trails) (p : Pid) → Holds b (trodden pt t) → Treads pt t → is_made pt.kernel p ≡ false → t p ≡ p.home ∷ []
alone b pt t p h on unmade = one_place (t p) p.home (alone_long b pt t p h unmade) (on.trail p).begins

-- kernels were never made
no_kernel : (p : Pid) → is_server p ≡ true → is_fixed p ≡ false
no_kernel p e = grind (arith, nat_tests)

never_made : (b : Boot) (pt : Point) (t : Trails) (p : Pid) → Holds b (trodden pt t) → is_fixed p ≡ true → is_made pt.kernel p ≡ false
never_made b pt t p h fixed = not_true (is_made pt.kernel p) (λ made. elim (cases_Bool (is_server p)) [
  | inl server ↦ false≢true (sym (no_kernel p server) ∙ fixed)
  | inr off ↦ false≢true (sym (made_free pt p h.both.run.based.phased.sane.sound.made (sym (ap (λ (c : Bool). c || is_some (pt.kernel.processes p)) off) ∙ made)) ∙ fixed)
])

-- each place that is named is on the trail
named_on : (pt : Point) (t : Trails) (q : Pid) (place : Place) → Treads pt t → IsNamed pt q place → IsOn t q place
named_on pt t q place on e = grind (arith, nat_tests)

held_it : (k : Known) → has_it k ≡ true → is_held k ≡ true
held_it k e = grind (arith, nat_tests)

-- what holds of the trails so far
stand_at : (b : Boot) (pt : Point) (t : Trails) → Holds b (trodden pt t) → Treads pt t → TrailStands pt t
stand_at b pt t h on = record {
  begins = λ p. (on.trail p).begins;
  fixed = λ p e. alone b pt t p h on (never_made b pt t p h e);
  unmade = λ p unmade. alone b pt t p h on unmade;
  named = λ q place is. named_on pt t q place on is;
  last = λ m p e. record { on = (h.places p).now m (held_it (pt.view.known m p) e); long = (h.places p).long m (held_it (pt.view.known m p) e) };
  coming = λ m k c p e f. record { on = (h.places p).next m k c e f; long = (let long = (h.places p).longer m k c e f in omega (arith, long)) };
  ends = λ p place lives is.
      walk_ends (pt.view.known place.at p) ((on.trail p).kept lives place.at p.home place.moves (at_home pt.kernel pt.view p h.both.run.based.known lives) is.on)
      (λ m c e. no_further (is_alive pt.kernel p) pt.view t p place m c (on.trail p) is e);
  within = λ p place made is. (ranges_in b (trodden pt t) h).within p made place.moves place.at is;
  reached = λ p place made is. reaches b pt t p place h on made is;
}

pub trails_stand : TrailsStand
trails_stand b es ls pt valid way = let k = laid_first b es ls pt valid way in (k.trails, k.lays, stand_at b pt k.trails k.holds k.treads)

-- who has only been at home is named there
home_only : (pt : Point) (t : Trails) (q : Pid) (place : Place) → TrailStands pt t → IsNamed pt q place → is_fixed q ≡ true → place ≡ unmoved q.home
home_only pt t q place s named fixed =
    let only_place : (m c k : ℕ) → slice_get (m ∷ []) c ≡ Some k → (c ≡ 0) × (k ≡ m) = λ m c k e. grind (arith, nat_tests) in
    let k = only_place q.home place.moves place.at (sym (ap (λ (xs : List ℕ). slice_get xs place.moves) (s.fixed q fixed)) ∙ s.named q place named) in
    λ i. record { at = k.1 i; moves = k.0 i }

led_by : (pt : Point) (t : Trails) (q : Pid) (place : Place) → TrailStands pt t → IsNamed pt q place → ((q.num == 0) ≡ false → is_made pt.kernel q ≡ true) → IsLed pt q place
led_by pt t q place s named made = record {
  led = λ other. s.reached q place (made other) (s.named q place named);
  home = λ fixed. home_only pt t q place s named fixed;
  made = made;
}

pub addresses_lead : AddressesLead
addresses_lead b es pt q place valid way named =
    let (ls, lines) = lines_there b es (first_point b) pt way in
    let k = laid_first b es ls pt valid lines in
    led_by pt k.trails q place (stand_at b pt k.trails k.holds k.treads) named (λ other. made_by b pt q place (passed_always b es pt valid way) other named)
