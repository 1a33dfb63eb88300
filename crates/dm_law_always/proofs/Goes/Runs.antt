-- Laws of runs, from what holds at their start and is kept by each group.
use Rattle.dm_law_always.proofs.Names.{◌≡◌, ℕ, ◌≤◌, true, List, [], ◌∷◌, ap, subst, is_some, nat_le, arith, nat_tests, None, Some, MsgId, Boot, IsValid, Step, is_for_home, Spelled, Point, first_point, group_of, IsStep, IsStill, Leads, Home}
use Rattle.dm_law_always.proofs.Names.{home_start, stands, home_group, none_replaced, kernels_fresh, GoesOnAlways, for_home, AskNone}
use Rattle.dm_law_always.proofs.Fits.Rises.{both}
use Rattle.dm_law_always.proofs.Runs.{Run}
use Rattle.dm_law_always.proofs.Own.Told.{OwnTold}
use Rattle.dm_law_always.proofs.Own.Groups.{own_told_group}
use Rattle.dm_law_always.proofs.Goes.Front.{Calm}
use Rattle.dm_law_always.proofs.Goes.Always.{CalmFor, front_own, goes_on}

-- all of it at the start, and behind a group
abbrev pub RunStarts : Type 0
RunStarts = (b : Boot) → IsValid b → Run b (first_point b)

abbrev pub RunGoes : Type 0
RunGoes = (b : Boot) (pt : Point) (d : Step) (w : Spelled) → IsValid b → IsStep pt.kernel.machines d → group_of b pt d ≡ Some w → Run b pt → OwnTold pt → Run b w.point

pub record Both (b : Boot) (pt : Point) : Type 0 where
  pub run : Run b pt
  pub own : OwnTold pt

pub both_start : RunStarts → (b : Boot) → IsValid b → Both b (first_point b)
both_start starts b valid = record { run = starts b valid; own = (record { own = λ i t told mine. cc; sender = λ i x there e. cc }) }

pub both_group : RunGoes → (b : Boot) (pt : Point) (d : Step) (w : Spelled) → IsValid b → IsStep pt.kernel.machines d → group_of b pt d ≡ Some w → Both b pt → Both b w.point
both_group goes b pt d w valid fit is h = record { run = goes b pt d w valid fit is h.run h.own; own = own_told_group b pt d w is h.run h.own }

both_on : RunGoes → (b : Boot) (es : List Step) (pt end : Point) → IsValid b → Leads b pt es end → Both b pt → Both b end
both_on goes b [] pt end valid leads h = subst (Both b) leads h
both_on goes b (d ∷ ds) pt end valid (w, fit, is, more) h = both_on goes b ds w.point end valid more (both_group goes b pt d w valid fit is h)

pub both_always : RunStarts → RunGoes → (b : Boot) (es : List Step) (pt : Point) → IsValid b → Leads b (first_point b) es pt → Both b pt
both_always starts goes b es pt valid leads = both_on goes b es (first_point b) pt valid leads (both_start starts b valid)

-- each directive has its group
pub goes_on_by : RunStarts → RunGoes → GoesOnAlways
goes_on_by starts goes b es pt e valid leads fit =
    let h = both_always starts goes b es pt valid leads in
    let (w, is) = goes_on b pt e valid h.run h.own fit in
    ap is_some is

-- as long as nothing moves
pub record Stays (b : Boot) (pt : Point) : Type 0 where
  pub both : Both b pt
  pub r : MsgId → ℕ
  pub e : MsgId → ℕ
  pub home : Home r e pt

pub stays_start : RunStarts → (b : Boot) → IsValid b → Stays b (first_point b)
stays_start starts b valid = record { both = both_start starts b valid; r = λ i. 0; e = λ i. 0; home = home_start b valid }

pub stays_group : RunGoes → (b : Boot) (pt : Point) (d : Step) (w : Spelled) → IsValid b → IsStill d → AskNone w.lines → IsStep pt.kernel.machines d → group_of b pt d ≡ Some w → Stays b pt → Stays b w.point
stays_group goes b pt d w valid still asks fit is h =
    let k = home_group none_replaced b h.r h.e pt d w still is asks h.both.run.based.phased.state h.home in
    record { both = both_group goes b pt d w valid fit is h.both; r = k.r; e = k.e; home = k.home }

front_stands : (b : Boot) (pt : Point) (m : ℕ) (i : MsgId) (is : List MsgId) (h : Stays b pt) → pt.view.inbox m ≡ i ∷ is → stands pt.kernel h.e m i ≡ true
front_stands b pt m i is h box = search (arith, pt.kernel, h.e, h.home.lists.inbox, both)

not_own : (b : Boot) (pt : Point) (m : ℕ) (i : MsgId) (is : List MsgId) (h : Stays b pt) → pt.view.inbox m ≡ i ∷ is → pt.kernel.bag i ≡ None → ⊥
not_own b pt m i is h box none =
    let one = both (nat_le 1 (h.e i)) (is_for_home m (pt.kernel.bag i)) (front_stands b pt m i is h box) in
    let first = one.0 in
    let least : 1 ≤ h.e i = grind (arith, nat_tests) in
    let f = front_own b m pt i is box none h.both.run h.both.own in
    let zero_ = kernels_fresh h.r h.e pt.kernel i h.home.sound f.mine in
    omega (arith, least, zero_)

calm_turn : (b : Boot) (pt : Point) (m : ℕ) → Stays b pt → Calm m pt
calm_turn b pt m h = record {
  known = λ p. h.home.rings.known m p;
  preds = λ n p. h.home.rings.preds m n p;
  ring = h.home.rings.ring m;
  front = λ i is x box there. for_home m (pt.kernel.bag i) x (both (nat_le 1 (h.e i)) (is_for_home m (pt.kernel.bag i)) (front_stands b pt m i is h box)).1 there;
  none = λ i is box none. not_own b pt m i is h box none;
}

pub calm_for : (b : Boot) (pt : Point) (d : Step) → IsStill d → Stays b pt → CalmFor pt d
calm_for b pt (Step.Turn m) still h = calm_turn b pt m h
calm_for b pt (Step.Migrate p m) still h = absurd still
calm_for b pt (Step.CallOff p m) still h = h.home.rings.known m p
calm_for b pt _ still h = tt
