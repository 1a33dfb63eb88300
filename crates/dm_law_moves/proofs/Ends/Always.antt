-- Where nothing is on its way between machines, no kernel's own message stands anywhere, and no process moves.
use Rattle.dm_law_moves.proofs.Names.{◌≡◌, ℕ, ◌+◌, List, [], ◌∷◌, length, refl, ap, subst, arith, Pid, MsgId, Boot, IsValid, Step, Line, IsStep, Point, first_point, IsQuiet, fits, LeadsBy, Both, both_start, both_group, run_start, run_group}
use Rattle.dm_law_moves.proofs.Names.{EndsAlways, nat_tests, own_ends, own_asks, ◌∙◌, ◌⊎◌, ◌<◌, ◌≤◌, Bool, true, false, drop, sym, inl, inr, Option, None, Some, false≢true, drop-length, PlainMessage, Phase, Moves, is_due, IsIn}
use Rattle.dm_law_moves.proofs.Names.{told_between, Spot, Queue, Held, Inbox, Untaken, times, untaken, standing, View, Told, is_kernels, letters, kernels_fresh, under_way, kernels_by, between_of, Run, is_moving, not_true, times_self}
use Rattle.dm_law_moves.proofs.At.RestPairs.{within_run}
use Rattle.dm_law_moves.proofs.Ends.Open.{Opens, moving_in, waits_or, IsOpen, waits_moves}
use Rattle.dm_law_moves.proofs.Ends.Parts.{Extends, plain_in_bag, asks_for}
use Rattle.dm_law_moves.proofs.Ends.Groups.{group_balance, owned, owned_zero, own-append, asks-append, leads_next}
use Rattle.dm_law_moves.proofs.Ends.Sources.{Sources, group_acts}
use Rattle.dm_law_moves.proofs.Asked.Following.{noted_moves}
use Rattle.dm_law_moves.proofs.At.RestAlways.{still_held as rests_empty}

abbrev is_listed : Spot → Bool
is_listed (Inbox m) = false
is_listed (Untaken a b) = false
is_listed _ = true

nothing_stands : (i : MsgId) (xs : List MsgId) → xs ≡ [] → 1 ≤ times i xs → ⊥
nothing_stands i xs none st = let z : times i xs ≡ 0 = ap (times i) none in omega (arith, z, st)

less_or : (x y : ℕ) → (x < y) ⊎ (y ≤ x)
less_or x y = grind (arith, nat_tests)

drop_nothing : (k : ℕ) → drop {A = MsgId} k [] ≡ []
drop_nothing k = grind (arith, nat_tests)

-- streams are empty: all was taken, or nothing was routed
stream_empty : (n : ℕ) (v : View) → IsQuiet n v → Sources n v → (a b : ℕ) → b < n → untaken (v.pair a b) ≡ []
stream_empty n v quiet sources a b less = elim (less_or a n) [
  | inl x ↦ ap (λ (k : ℕ). drop k (v.pair a b).ids) (quiet.taken a b x less) ∙ drop-length (v.pair a b).ids
  | inr x ↦ ap (drop (v.pair a b).taken) (sources a b x) ∙ drop_nothing (v.pair a b).taken
]

-- a kernel's own message then stands in a list of a process, if anywhere
own_listed : (b : Boot) (pt : Point) (h : Run b pt) (n : ℕ) → pt.kernel.machines ≡ n → IsQuiet n pt.view → Sources n pt.view → (i : MsgId) (t : Told) → pt.view.told i ≡ Some t → is_kernels i ≡ true → (z : Spot) → 1 ≤ standing pt.view i z → is_listed z ≡ true
own_listed b pt h n is quiet sources i t told mine (Inbox m) st =
    let less : m < n = subst (λ (k : ℕ). m < k) is (subst (λ (k : ℕ). k < pt.kernel.machines) (h.found.at_ i (Inbox m) st) (h.found.own_within i t told mine)) in
    absurd (nothing_stands i (pt.view.inbox m) (quiet.inbox m less) st)
own_listed b pt h n is quiet sources i t told mine (Untaken a c) st =
    let less : c < n = subst (λ (k : ℕ). c < k) is (subst (λ (k : ℕ). k < pt.kernel.machines) (h.found.at_ i (Untaken a c) st) (h.found.own_within i t told mine)) in
    absurd (nothing_stands i (untaken (pt.view.pair a c)) (stream_empty n pt.view quiet sources a c less) st)
own_listed b pt h n is quiet sources i t told mine _ st = refl

none_moves : (b : Boot) (pt : Point) (h : Run b pt) (n : ℕ) → pt.kernel.machines ≡ n → IsQuiet n pt.view → Sources n pt.view → (p : Pid) (x : Phase) → IsIn pt.view p x → is_due x ≡ false → moving_in x ≡ 0
none_moves b pt h n is quiet sources p (Moves k s d None) i due = absurd (false≢true (sym due))
none_moves b pt h n is quiet sources p (Moves k s d (Some id)) i due =
    let token = i.token in
    let mine = h.based.phased.sane.tells.own id (told_between p k s d) token.told (between_of k s d i.apart) in
    let listed = own_listed b pt h n is quiet sources id (told_between p k s d) token.told mine token.spot token.stands in
    absurd (false≢true (sym (let e_ : is_listed token.spot ≡ false = grind (arith, nat_tests, (token.ways token.spot token.stands)) in e_) ∙ listed))
none_moves b pt h n is quiet sources p _ i due = refl

pub quiet_stays : (b : Boot) (pt : Point) (h : Run b pt) (n : ℕ) → pt.kernel.machines ≡ n → IsQuiet n pt.view → Sources n pt.view → (p : Pid) → moving_in (h.based.phased.phases.of p) ≡ 0
quiet_stays b pt h n is quiet sources p =
    let phases = h.based.phased.phases in
    none_moves b pt h n is quiet sources p (phases.of p) (phases.each p) (not_true (is_due (phases.of p)) (λ e. let f : None ≡ Some p = phases.put p e in cc))

-- and nothing is held
quiet_rests : (b : Boot) (pt : Point) (h : Run b pt) (n : ℕ) → pt.kernel.machines ≡ n → IsQuiet n pt.view → Sources n pt.view → (m : ℕ) (p : Pid) → is_moving (pt.view.known m p) ≡ false
quiet_rests b pt h n is quiet sources m p = not_true (is_moving (pt.view.known m p)) (λ e.
    let one = waits_moves pt.view h.based.phased.phases p m e in
    let none = quiet_stays b pt h n is quiet sources p in
    omega (arith, one, none))

-- no kernel's own message stands anywhere
pub quiet_own : (b : Boot) (pt : Point) (h : Run b pt) (n : ℕ) → pt.kernel.machines ≡ n → IsQuiet n pt.view → Sources n pt.view → (i : MsgId) (t : Told) → pt.view.told i ≡ Some t → is_kernels i ≡ true → (z : Spot) → 1 ≤ standing pt.view i z → ⊥
quiet_own b pt h n is quiet sources i t told mine (Queue m p) st = grind (arith, nat_tests, kernels_fresh)
quiet_own b pt h n is quiet sources i t told mine (Held m p) st =
    nothing_stands i (pt.view.held m p) (h.based.lists.held m p (rests_empty (pt.view.known m p) (quiet_rests b pt h n is quiet sources m p))) st
quiet_own b pt h n is quiet sources i t told mine any_ st = false≢true (own_listed b pt h n is quiet sources i t told mine any_ st)

-- a request to move is a kernel's own
outside : (p : Pid) (pt : Point) (b : Boot) (h : Run b pt) (i : MsgId) (o : Option PlainMessage) → IsOpen (asks_for p) pt.view i → pt.kernel.bag i ≡ o → pt.kernel.bag i ≡ None
outside p pt b h i None is e = e
outside p pt b h i (Some x) is e = absurd (false≢true (sym (plain_in_bag p pt i x h.based.phased.sane e is.told is.is) ∙ is.picked))

pub open_own : (p : Pid) (pt : Point) (b : Boot) (h : Run b pt) (i : MsgId) → IsOpen (asks_for p) pt.view i → is_kernels i ≡ true
open_own p pt b h i is =
    let state = h.based.phased.state in
    let (z, st) = is.stands in
    let (q, way) = under_way (letters state.own pt.kernel.bag i) (standing pt.view i) z st (state.stands.kept i) in
    kernels_by state.own pt.kernel.bag i q (is_kernels i) refl (outside p pt b h i (pt.kernel.bag i) is refl) way

pub empty_by : (picks : Told → Bool) (v : View) (ids : List MsgId) → ((i : MsgId) → IsOpen picks v i → ⊥) → Opens picks v ids → length ids ≡ 0
empty_by picks v [] none h = refl
empty_by picks v (i ∷ is) none h = absurd (none i (h.each i (times_self i is)))

-- Wherever the rule leads, each directive to move a process has at most one end, and one where nothing is on its way.

-- how many moves are under way that no process asked for
abbrev moving_at : (b : Boot) (pt : Point) → Both b pt → Pid → ℕ
moving_at b pt h p = owned (pt.kernel.notes p) (moving_in (h.run.based.phased.phases.of p))

-- what comes of a run
record Ran (p : Pid) (b : Boot) (pt end : Point) (ls : List Line) (n : ℕ) : Type 0 where
  both : Both b end
  grows : Extends pt.view.told end.view.told
  sources : Sources (length b.machines) end.view
  left : List MsgId
  opens : Opens (asks_for p) end.view left
  sum : own_asks p ls + n ≡ own_ends end.view.told p ls + (length left + moving_at b end both p)

none_ran : (p : Pid) (b : Boot) (pt : Point) (ls : List Line) (ids : List MsgId) (h : Both b pt) → Sources (length b.machines) pt.view → Opens (asks_for p) pt.view ids → ls ≡ [] → Ran p b pt pt ls (length ids + moving_at b pt h p)
none_ran p b pt ls ids h sources opens none = record {
  both = h;
  grows = λ i t e. e;
  sources = sources;
  left = ids;
  opens = opens;
  sum = (let a : own_asks p ls ≡ 0 = ap (own_asks p) none in let c : own_ends pt.view.told p ls ≡ 0 = ap (own_ends pt.view.told p) none in omega (arith, a, c));
}

pub step_for : (b : Boot) (pt : Point) (d : Step) → Both b pt → IsStep pt.kernel.machines d → IsStep (length b.machines) d
step_for b pt d h fit = subst (λ (n : ℕ). IsStep n d) h.run.based.machines fit

ran : (p : Pid) (b : Boot) (es : List Step) (pt end : Point) (ls : List Line) (ids : List MsgId) → IsValid b → (h : Both b pt) → Sources (length b.machines) pt.view → Opens (asks_for p) pt.view ids → LeadsBy b pt es ls end → Ran p b pt end ls (length ids + moving_at b pt h p)
ran p b [] pt end ls ids valid h sources opens (none, at) = subst (λ (x : Point). Ran p b pt x ls (length ids + moving_at b pt h p)) at (none_ran p b pt ls ids h sources opens none)
ran p b (d ∷ ds) pt end ls ids valid h sources opens (w, rest, fit, is, split, more) =
    let based = h.run.based in
    let next : Both b w.point = both_group run_group b pt d w valid fit is h in
    let acts = group_acts (length b.machines) b pt d w (step_for b pt d h fit) (within_run b pt h.run) is sources in
    let g = group_balance p b pt d w based.phased.phases next.run.based.phased.phases ids based.phased based.known (fits pt.view based.phased.pairs) is opens (λ n noted. noted_moves b pt based p n noted) (λ n noted. noted_moves b w.point next.run.based p n noted) in
    let r = ran p b ds w.point end rest g.left valid next acts.sources g.opens more in
    record {
      both = r.both;
      grows = λ i t e. r.grows i t (acts.grows i t e);
      sources = r.sources;
      left = r.left;
      opens = r.opens;
      sum = (
          let f = end.view.told in
          let s = g.sum f (λ i t e. r.grows i t e) in
          let z = r.sum in
          let begins = leads_next b ds w.point end rest more in
          let a : own_asks p ls ≡ own_asks p w.lines + own_asks p rest = ap (own_asks p) split ∙ asks-append p w.lines rest begins.1 in
          let c : own_ends f p ls ≡ own_ends f p w.lines + own_ends f p rest = ap (own_ends f p) split ∙ own-append f p w.lines rest begins.0 in
          omega (arith, s, z, a, c));
    }

pub ends_always : EndsAlways
ends_always b es ls pt p valid leads =
    let h = both_start run_start b valid in
    let r = ran p b es (first_point b) pt ls [] valid h (λ x y le. refl) (grind (arith, nat_tests)) leads in
    let zero_ : moving_at b (first_point b) h p ≡ 0 = owned_zero ((first_point b).kernel.notes p) (moving_in (h.run.based.phased.phases.of p)) (grind (arith, nat_tests, waits_or)) in
    let sum = r.sum in
    record {
      few = omega (arith, zero_, sum);
      all = λ quiet.
          let n = length b.machines in
          let is = r.both.run.based.machines in
          let still : IsQuiet n pt.view = subst (λ (k : ℕ). IsQuiet k pt.view) is quiet in
          let none_open : (p : Pid) (b : Boot) (pt : Point) (h : Run b pt) (n : ℕ) → pt.kernel.machines ≡ n → IsQuiet n pt.view → Sources n pt.view → (i : MsgId) → IsOpen (asks_for p) pt.view i → ⊥ =
          λ p b pt h n is quiet sources i k. let (z, st) = k.stands in quiet_own b pt h n is quiet sources i k.told k.is (open_own p pt b h i k) z st in
          let none = empty_by (asks_for p) pt.view r.left (none_open p b pt r.both.run n is still r.sources) r.opens in
          let rests = owned_zero (pt.kernel.notes p) (moving_in (r.both.run.based.phased.phases.of p)) (quiet_stays b pt r.both.run n is still r.sources p) in
          omega (arith, zero_, sum, none, rests);
    }
