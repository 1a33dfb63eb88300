-- Each group of a directive leaves less of it: so a directive ends, a settle and a rest too.
use Rattle.dm_program.proofs.Runs.Names.{◌≡◌, ◌≤◌, ◌<◌, ℕ, zero, suc, ◌+◌, ◌*◌, ◌^◌, nat_le, true, List, [], ◌∷◌, ◌++◌, length, refl, ap, ◌∙◌, sym, subst, inl, inr, arith, nat_tests, Option, Some, Boot, IsValid, Step, Directive, Line, Round, Settle}
use Rattle.dm_program.proofs.Runs.Names.{sum_below, Next, Todo, all_of, IsKept, IsStep, Leads, Spelled, Point, first_point, group_of, View, stands_once_always, turns_left, IsSettleStep, turns_in, turns_left_few, turns_fall, Cursor, One, Passing}
use Rattle.dm_program.proofs.Runs.Names.{Place, Packets, Turns, End, Falls, IsSettling, SettleGoes, left, room, room_of, todo_of, turns_at, turns_of, world_has_mail, world_is_quiet, world_next_step, world_undelivered, WorldState, Said, Says}
use Rattle.dm_program.proofs.Runs.Names.{world_step, Stands, machines_stay, next_fits, undelivered_said, mail_is_said, IsFor, cursor_of}
use Rattle.dm_schedule.specs.declared.Step.TheVariants as step
use Rattle.dm_schedule.specs.declared.Directive.TheVariants as directive
use Rattle.dm_program.proofs.Names.{Rest}
use Rattle.dm_law_moves.specs.Settles.Left as settle
use Rattle.dm_law_always.proofs.Sizes.Always.{few_machines}

-- what a settle leaves to turns, by what was printed; of another directive it is never looked at
abbrev pub turns_ahead : Boot → Cursor → View → ℕ
turns_ahead b (One e) v = 2 ^ 89
turns_ahead b (Passing (Round k) place) v = 2 ^ 89
turns_ahead b (Passing (Rest k) place) v = 2 ^ 89
turns_ahead b (Passing Settle place) v = turns_left (settle.left b.numbers (length b.machines) v)

-- how much is left of a directive
abbrev pub ahead : Boot → WorldState → Cursor → View → ℕ
ahead b w c v = left (length b.machines) w c + turns_ahead b c v

-- a sum of so many numbers, each at most m
sum_most : (f : ℕ → ℕ) (n m : ℕ) → ((k : ℕ) → f k ≤ m) → sum_below f n ≤ n * m
sum_most f zero m h = omega arith
sum_most f (suc n) m h = let k = sum_most f n m h in let l = h n in grind arith

times_most : (n r : ℕ) → n ≤ 16 → n * r ≤ 16 * r
times_most n r h = grind arith

room_most : (n : ℕ) (w : WorldState) → n ≤ 16 → room n w ≤ 2 ^ 72
unfolding room
room_most n w h =
    let inner : (a : ℕ) → sum_below (λ c. room_of w a c) n ≤ 2 ^ 68 = (λ a. let k = sum_most (λ c. room_of w a c) n (2 ^ 64) (λ c. omega arith) in omega (arith, k, h)) in
    let k = sum_most (λ a. sum_below (λ c. room_of w a c) n) n (2 ^ 68) inner in
    omega (arith, k, h)

spins_most : (n r : ℕ) → n ≤ 16 → r ≤ 65536 → n * r ≤ 2 ^ 40
spins_most n r h k = let m = times_most n r h in omega (arith, m, k)

-- how many turns there can be of a directive of which nothing is done yet
turns_most : (n : ℕ) (d : Directive) → n ≤ 16 → IsFor n d → turns_of n (cursor_of d) ≤ 2 ^ 40
turns_most n (directive.One e) h k = omega arith
turns_most n directive.Round h k = let m = times_most n 1 h in omega (arith, m)
turns_most n (directive.Spin r) h k = let m = spins_most n r h k.1 in omega (arith, m)
turns_most n (directive.Rest r) h k = let m = spins_most n r h k.1 in omega (arith, m)
turns_most n directive.Settle h k = omega arith

-- wherever the world stands for a point, no pair counts more messages than it may
kept_there : (b : Boot) (es : List Step) (pt : Point) (w : WorldState) → IsValid b → Leads b (first_point b) es pt → Stands b w pt → IsKept b pt
kept_there b es pt w valid leads ((l, h, s), counts) = record { once = λ id. stands_once_always b es pt id valid leads; counts = s.counts }

-- a settle leaves little to turns
settle_most : (b : Boot) (es : List Step) (pt : Point) (w : WorldState) → IsValid b → Leads b (first_point b) es pt → Stands b w pt → turns_left (settle.left b.numbers (length b.machines) pt.view) < 2 ^ 89
settle_most b es pt w valid leads stands =
    subst (λ (n : ℕ). turns_left (settle.left b.numbers n pt.view) < 2 ^ 89) (machines_stay b es pt valid leads) (turns_left_few b es pt valid leads (kept_there b es pt w valid leads stands))

turns_few : (b : Boot) (c : Cursor) (es : List Step) (pt : Point) (w : WorldState) → IsValid b → Leads b (first_point b) es pt → Stands b w pt → turns_ahead b c pt.view ≤ 2 ^ 89
turns_few b (One e) es pt w valid leads stands = omega arith
turns_few b (Passing (Round k) place) es pt w valid leads stands = omega arith
turns_few b (Passing (Rest k) place) es pt w valid leads stands = omega arith
turns_few b (Passing Settle place) es pt w valid leads stands = let h = settle_most b es pt w valid leads stands in omega (arith, h)

-- before the first group of a directive
pub few_ahead : (b : Boot) (d : Directive) (es : List Step) (pt : Point) (w : WorldState) → IsValid b → IsFor (length b.machines) d → Leads b (first_point b) es pt → Stands b w pt → ahead b w (cursor_of d) pt.view ≤ 2 ^ 90
few_ahead b d es pt w valid fits leads stands =
    let n = length b.machines in
    let few = few_machines b valid in
    let r = room_most n w few in
    let t = turns_most n d few fits in
    let l = turns_few b (cursor_of d) es pt w valid leads stands in
    omega (arith, r, t, l)

-- where the machines do what the rule says, a step of a settle is one by what was printed
step_said : (b : Boot) (es : List Step) (pt : Point) (w : WorldState) (c next : Cursor) (e : Step) → IsValid b → Leads b (first_point b) es pt → Stands b w pt → SettleGoes (length b.machines) w c e next → IsSettleStep pt.view e
step_said b es pt w c next (step.Turn m) valid leads stands (small, mail, more) = sym (mail_is_said b es w pt m valid leads stands small) ∙ mail
step_said b es pt w c next (step.Deliver a k i) valid leads stands (fresh, fewer) = sym (undelivered_said b es w pt a k valid leads stands fresh.from fresh.to fresh.apart) ∙ fresh.first
step_said b es pt w c next (step.Tick m) valid leads stands h = absurd h
step_said b es pt w c next (step.Migrate p m) valid leads stands h = absurd h
step_said b es pt w c next (step.CallOff p m) valid leads stands h = absurd h

-- and leaves fewer turns, or as many and less room
settle_fewer : (b : Boot) (w : WorldState) (c next : Cursor) (e : Step) (s : Said) (x y : ℕ) → SettleGoes (length b.machines) w c e next → world_step b w e ≡ Some (Says s) → y + turns_in e ≤ x → left (length b.machines) s.state next + y < left (length b.machines) w c + x
settle_fewer b w c next (step.Turn m) s x y (small, mail, more) happens h = let k = more b s happens in omega (arith, h, k)
settle_fewer b w c next (step.Deliver a k i) s x y (fresh, fewer) happens h = let k = fewer b s happens in omega (arith, h, k)
settle_fewer b w c next (step.Tick m) s x y goes happens h = absurd goes
settle_fewer b w c next (step.Migrate p m) s x y goes happens h = absurd goes
settle_fewer b w c next (step.CallOff p m) s x y goes happens h = absurd goes

settling_ahead : (b : Boot) (c : Cursor) (v : View) → IsSettling c → turns_ahead b c v ≡ turns_left (settle.left b.numbers (length b.machines) v)
settling_ahead b (One e) v h = absurd h
settling_ahead b (Passing (Round k) place) v h = absurd h
settling_ahead b (Passing (Rest k) place) v h = absurd h
settling_ahead b (Passing Settle place) v h = refl

-- the group is the rule's, and the world stands behind it
pub record IsGroup (b : Boot) (es : List Step) (pt next : Point) (w u : WorldState) (e : Step) (s : Said) : Type 0 where
  pub leads : Leads b (first_point b) es pt
  pub stands : Stands b w pt
  pub fits : IsStep (length b.machines) e
  pub happens : world_step b w e ≡ Some (Says s)
  pub state : s.state ≡ u
  pub group : Spelled
  pub due : group_of b pt e ≡ Some group
  pub point : group.point ≡ next
  pub steps : List Step
  pub later : Leads b (first_point b) steps next
  pub behind : Stands b u next

-- what a settle leaves to turns behind it
turns_behind : (b : Boot) (es : List Step) (pt next : Point) (w u : WorldState) (e : Step) (s : Said) → IsValid b → IsGroup b es pt next w u e s → IsSettleStep pt.view e
    → turns_left (settle.left b.numbers (length b.machines) next.view) + turns_in e ≤ turns_left (settle.left b.numbers (length b.machines) pt.view)
turns_behind b es pt next w u e s valid d is =
    let machines = machines_stay b es pt valid d.leads in
    let kept : IsKept b d.group.point = subst (IsKept b) (sym d.point) (kept_there b d.steps next u valid d.later d.behind) in
    let fall = turns_fall b es pt e d.group valid d.leads (subst (λ (n : ℕ). IsStep n e) (sym machines) d.fits) is d.due kept in
    subst (λ (q : Point). turns_left (settle.left b.numbers (length b.machines) q.view) + turns_in e ≤ turns_left (settle.left b.numbers (length b.machines) pt.view)) d.point
    (subst (λ (n : ℕ). turns_left (settle.left b.numbers n d.group.point.view) + turns_in e ≤ turns_left (settle.left b.numbers n pt.view)) machines fall)

-- of a round, a rest or an elementary directive the steps alone are counted
other_falls : (b : Boot) (es : List Step) (pt next : Point) (w u : WorldState) (c after : Cursor) (e : Step) (s : Said) → IsValid b → IsGroup b es pt next w u e s → left (length b.machines) s.state after < left (length b.machines) w c
    → turns_ahead b c pt.view ≡ 2 ^ 89 → ahead b u after next.view < ahead b w c pt.view
other_falls b es pt next w u c after e s valid d fewer all =
    let few = turns_few b after d.steps next u valid d.later d.behind in
    let same : left (length b.machines) s.state after ≡ left (length b.machines) u after = ap (λ (x : WorldState). left (length b.machines) x after) d.state in
    omega (arith, few, same, fewer, all)

pub falls_ahead : (b : Boot) (es : List Step) (pt next : Point) (w u : WorldState) (c after : Cursor) (e : Step) (s : Said) → IsValid b → IsGroup b es pt next w u e s → Falls (length b.machines) w c e after → ahead b u after next.view < ahead b w c pt.view
falls_ahead b es pt next w u (One f) after e s valid d falls = other_falls b es pt next w u (One f) after e s valid d (falls b s d.happens) refl
falls_ahead b es pt next w u (Passing (Round k) place) after e s valid d falls = other_falls b es pt next w u (Passing (Round k) place) after e s valid d (falls b s d.happens) refl
falls_ahead b es pt next w u (Passing (Rest k) place) after e s valid d falls = other_falls b es pt next w u (Passing (Rest k) place) after e s valid d (falls b s d.happens) refl
falls_ahead b es pt next w u (Passing Settle place) after e s valid d (settling, goes) =
    let is = step_said b es pt w (Passing Settle place) after e valid d.leads d.stands goes in
    let turns = turns_behind b es pt next w u e s valid d is in
    let x = turns_left (settle.left b.numbers (length b.machines) pt.view) in
    let y = turns_left (settle.left b.numbers (length b.machines) next.view) in
    let fewer = settle_fewer b w (Passing Settle place) after e s x y goes d.happens turns in
    let there = settling_ahead b after next.view settling in
    let same : left (length b.machines) s.state after ≡ left (length b.machines) u after = ap (λ (z : WorldState). left (length b.machines) z after) d.state in
    omega (arith, fewer, there, same)
