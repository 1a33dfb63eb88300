-- Places to which a run of the world has gone: the places before them, and those behind one more directive.
use Rattle.dm_law_mirror.proofs.Names.{◌≡◌, ◌≢◌, ◌<◌, ◌||◌, ℕ, Bool, true, false, List, [], ◌∷◌, ◌++◌, length, refl, ap, ◌∙◌, sym, subst, arith, option_and_then, Option, None, Some, Boot, IsValid, Step, Line, WorldState, Said, Happened, world_step, false≢true}
use Rattle.std.specs.List.{list_any}
use Rattle.std.proofs.lemmas.List.Folds.{list_any-append}
use Rattle.dm_world.specs.World.{Says, WornOut}
use Rattle.dm_run.specs.Runs.{IsStep}
use Rattle.dm_run.specs.Went.{Does, Went, begins, goes}
use Rattle.dm_explore.specs.Order.{is_away, is_put, machine_of}
use Rattle.dm_explore.specs.Past.{Did, groups_of, puts_in, sent, steps_of}
use Rattle.dm_explore.specs.Places.{Place, after_step, behind, first_place, sight}
use Rattle.dm_explore.specs.Search.{HasGone, led}
use Rattle.dm_law_runs.specs.Choices.Chosen.{WasPut}
use Rattle.dm_law_runs.proofs.Choices.Neighbours.Going.{IsThere}
use Rattle.dm_law_runs.proofs.Choices.Neighbours.Wires.{wires_numbered}

-- what a directive did, and the place behind it
abbrev pub did_of : Boot → Place → Step → Said → Did
did_of b p e said = record { step = e; machine = machine_of (sight b p) e; away = is_away (sight b p) e; lines = said.lines }

abbrev pub next_place : Boot → Place → Step → Said → Place
next_place b p e said = record { done = did_of b p e said ∷ p.done; state = said.state }

pub record IsBehind (b : Boot) (p : Place) (e : Step) (u : Place) : Type 0 where
  pub said : Said
  pub happens : world_step b p.state e ≡ Some (Says said)
  pub is : next_place b p e said ≡ u

behind_by : (b : Boot) (p : Place) (e : Step) (u : Place) (o : Option Happened) → world_step b p.state e ≡ o → behind b p e o ≡ Some u → IsBehind b p e u
behind_by b p e u None happens is = cc
behind_by b p e u (Some (WornOut from to)) happens is = cc
behind_by b p e u (Some (Says said)) happens is = record { said = said; happens = happens; is = (let f : Some (next_place b p e said) ≡ Some u = is in cc) }

pub behind_of : (b : Boot) (p : Place) (e : Step) (u : Place) → after_step b p e ≡ Some u → IsBehind b p e u
behind_of b p e u is = behind_by b p e u (world_step b p.state e) refl is

pub after_by : (b : Boot) (p : Place) (e : Step) (said : Said) → world_step b p.state e ≡ Some (Says said) → after_step b p e ≡ Some (next_place b p e said)
after_by b p e said happens = ap (behind b p e) happens

-- one more at the end of a list
none_last : {X : Type 0} (xs : List X) (x : X) → [] ≡ xs ++ x ∷ [] → ⊥
none_last [] x e = cc
none_last (y ∷ xs) x e = cc

last_same : {X : Type 0} (xs ys : List X) (x y : X) → xs ++ x ∷ [] ≡ ys ++ y ∷ [] → (xs ≡ ys) × (x ≡ y)
last_same [] [] x y e = (refl, cc)
last_same [] (z ∷ ys) x y e = absurd (none_last ys y (let f : [] ≡ ys ++ y ∷ [] = cc in f))
last_same (z ∷ xs) [] x y e = absurd (none_last xs x (let f : xs ++ x ∷ [] ≡ [] = cc in sym f))
last_same (z ∷ xs) (k ∷ ys) x y e =
    let first : z ≡ k = cc in
    let rest : xs ++ x ∷ [] ≡ ys ++ y ∷ [] = cc in
    let h = last_same xs ys x y rest in
    ((λ i. first i ∷ h.0 i), h.1)

-- a run before its last directive
record WentBefore (b : Boot) (es : List Step) (gs : List (List Line)) (e : Step) (lines : List Line) (u : WorldState) : Type 0 where
  before : WorldState
  went : Went b es gs before
  does : Does b before e lines u

went_last : (b : Boot) (hs : List Step) (ks : List (List Line)) (u : WorldState) (es : List Step) (gs : List (List Line)) (e : Step) (lines : List Line) → Went b hs ks u → hs ≡ es ++ e ∷ [] → ks ≡ gs ++ lines ∷ [] → WentBefore b es gs e lines u
went_last b _ _ _ es gs e lines begins is are = absurd (none_last es e is)
went_last b _ _ _ es gs e lines (goes hs ks w f ls u before does) is are =
    let one = last_same hs es f e is in
    let two = last_same ks gs ls lines are in
    record {
      before = w;
      went = subst (λ (xs : List (List Line)). Went b es xs w) two.0 (subst (λ (xs : List Step). Went b xs ks w) one.0 before);
      does = subst (λ (x : List Line). Does b w e x u) two.1 (subst (λ (x : Step). Does b w x ls u) one.1 does);
    }

-- where directives lead, before the last one and behind one more
and_then : {X Y : Type 0} (f : X → Option Y) (o : Option X) (y : Y) → option_and_then f o ≡ Some y → (x : X) × (o ≡ Some x) × (f x ≡ Some y)
and_then f None y e = cc
and_then f (Some x) y e = (x, refl, e)

record LedBefore (b : Boot) (p : Place) (es : List Step) (e : Step) (u : Place) : Type 0 where
  before : Place
  led_ : led b p es ≡ Some before
  after_ : after_step b before e ≡ Some u

led_last : (b : Boot) (es : List Step) (p : Place) (e : Step) (u : Place) → led b p (es ++ e ∷ []) ≡ Some u → LedBefore b p es e u
led_last b [] p e u is =
    let (q, first, rest) = and_then (λ (x : Place). led b x []) (after_step b p e) u is in
    record { before = p; led_ = refl; after_ = first ∙ rest }
led_last b (d ∷ es) p e u is =
    let (q, first, rest) = and_then (λ (x : Place). led b x (es ++ e ∷ [])) (after_step b p d) u is in
    let k = led_last b es q e u rest in
    record { before = k.before; led_ = ap (option_and_then (λ (x : Place). led b x es)) first ∙ k.led_; after_ = k.after_ }

led_more : (b : Boot) (es : List Step) (p q : Place) (e : Step) (u : Place) → led b p es ≡ Some q → after_step b q e ≡ Some u → led b p (es ++ e ∷ []) ≡ Some u
led_more b [] p q e u is next = let f : p ≡ q = cc in ap (option_and_then (λ (x : Place). led b x [])) (ap (λ (x : Place). after_step b x e) f ∙ next)
led_more b (d ∷ es) p q e u is next =
    let (r, first, rest) = and_then (λ (x : Place). led b x es) (after_step b p d) q is in
    ap (option_and_then (λ (x : Place). led b x (es ++ e ∷ []))) first ∙ led_more b es r q e u rest next

-- both lead to the same world
state_is : (b : Boot) (es : List Step) (gs : List (List Line)) (w : WorldState) (q : Place) → Went b es gs w → led b (first_place b) es ≡ Some q → q.state ≡ w
state_is b _ _ _ q begins is = let f : first_place b ≡ q = cc in ap (λ (x : Place). x.state) (sym f)
state_is b _ _ _ q (goes es gs w e lines u before does) is =
    let k = led_last b es (first_place b) e q is in
    let same = state_is b es gs w k.before before k.led_ in
    let n = behind_of b k.before e q k.after_ in
    let there : world_step b w e ≡ Some (Says n.said) = ap (λ (x : WorldState). world_step b x e) (sym same) ∙ n.happens in
    let said : n.said ≡ record { state = u; lines = lines } = let i = does.happens in cc in
    ap (λ (x : Place). x.state) (sym n.is) ∙ ap (λ (x : Said). x.state) said

-- the place before the last directive
pub record GoneBack (b : Boot) (v : Place) (y : Did) (ds : List Did) : Type 0 where
  pub before : Place
  pub gone : HasGone b before
  pub done : before.done ≡ ds
  pub after_ : after_step b before y.step ≡ Some v
  pub does : Does b before.state y.step y.lines v.state

pub gone_back : (b : Boot) (v : Place) (y : Did) (ds : List Did) → HasGone b v → v.done ≡ y ∷ ds → GoneBack b v y ds
gone_back b v y ds h is =
    let k = led_last b (steps_of ds) (first_place b) y.step v (ap (λ (xs : List Did). led b (first_place b) (steps_of xs)) (sym is) ∙ h.led_) in
    let w = went_last b (steps_of v.done) (groups_of v.done) v.state (steps_of ds) (groups_of ds) y.step y.lines h.went (ap steps_of is) (ap groups_of is) in
    let n = behind_of b k.before y.step v k.after_ in
    let done : did_of b k.before y.step n.said ∷ k.before.done ≡ y ∷ ds = ap (λ (x : Place). x.done) n.is ∙ is in
    let before : k.before.done ≡ ds = cc in
    let same = state_is b (steps_of ds) (groups_of ds) w.before k.before w.went k.led_ in
    record {
      before = k.before;
      gone = record {
        led_ = ap (λ (xs : List Did). led b (first_place b) (steps_of xs)) before ∙ k.led_;
        went = subst (λ (xs : List Did). Went b (steps_of xs) (groups_of xs) k.before.state) (sym before) (subst (Went b (steps_of ds) (groups_of ds)) (sym same) w.went);
      };
      done = before;
      after_ = k.after_;
      does = subst (λ (x : WorldState). Does b x y.step y.lines v.state) (sym same) w.does;
    }

-- the same directives lead to one place
pub gone_once : (b : Boot) (p q : Place) → HasGone b p → HasGone b q → p.done ≡ q.done → p ≡ q
gone_once b p q h k same =
    let e : Some p ≡ Some q = sym h.led_ ∙ ap (λ (xs : List Did). led b (first_place b) (steps_of xs)) same ∙ k.led_ in
    cc

-- and the place behind one more
pub gone_on : (b : Boot) (p : Place) (e : Step) (said : Said) → HasGone b p → Does b p.state e said.lines said.state → HasGone b (next_place b p e said)
gone_on b p e said h d = record {
  led_ = led_more b (steps_of p.done) (first_place b) p e (next_place b p e said) h.led_ (after_by b p e said d.happens);
  went = goes (steps_of p.done) (groups_of p.done) p.state e said.lines said.state h.went d;
}

-- A packet that was put is on its wire.
or_else : (c d : Bool) (P : Type 0) → (c || d) ≡ true → (c ≡ true → P) → (d ≡ true → P) → P
or_else true d P e f g = f refl
or_else false d P e f g = g e

sent_there : (b : Boot) (a c k : ℕ) (ds : List Did) (p : Place) → IsValid b → a < length b.machines → c < length b.machines → a ≢ c → HasGone b p → p.done ≡ ds → list_any (is_put a c k) (sent ds) ≡ true → k < length (p.state.wires a c)
sent_there b a c k [] p valid a_in c_in apart h is there = absurd (false≢true there)
sent_there b a c k (y ∷ ds) p valid a_in c_in apart h is there =
    let g = gone_back b p y ds h is in
    let n = wires_numbered b (steps_of g.before.done) (groups_of g.before.done) g.before.state y.step y.lines p.state a c valid g.gone.went g.does a_in c_in apart in
    or_else (list_any (is_put a c k) (sent ds)) (list_any (is_put a c k) (puts_in y.lines)) (k < length (p.state.wires a c)) (sym (list_any-append (is_put a c k) (sent ds) (puts_in y.lines)) ∙ there)
    (λ before. (let f = sent_there b a c k ds g.before valid a_in c_in apart g.gone g.done before in let more = n.grows in omega (arith, f, more))) (n.below k)

pub put_there : (b : Boot) (p : Place) (d : Step) → IsValid b → HasGone b p → IsStep (length b.machines) d → WasPut p.done d → IsThere d p.state
put_there b p (Step.Turn m) valid h fits put = tt
put_there b p (Step.Tick m) valid h fits put = tt
put_there b p (Step.Deliver a c k) valid h fits put = sent_there b a c k p.done p valid fits.0 fits.1 fits.2 h refl put
put_there b p (Step.Migrate q m) valid h fits put = tt
put_there b p (Step.CallOff q m) valid h fits put = tt
