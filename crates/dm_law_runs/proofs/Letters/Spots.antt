-- The names that stand in the lists of a point, machine by machine: each once, and each message that the kernel holds among them.
use Rattle.std.proofs.Common.{◌≡◌, ◌≢◌, ℕ, ◌+◌, ◌-◌, ◌==◌, ◌<◌, ◌≤◌, Bool, true, false, if◌then◌else◌, List, [], ◌∷◌, ◌++◌, length, refl, sym, subst, ap, ◌∙◌, inl, inr, arith}
use Rattle.std.specs.Prelude.{is_some, drop, ◌||◌}
use Rattle.std.specs.declared.option.Option.{Option}
use Rattle.std.specs.declared.option.Option.TheVariants.{None, Some}
use Rattle.dm_link.specs.declared.Pid.{Pid}
use Rattle.dm_link.specs.Names.{pid_eq, pid_of}
use Rattle.dm_message.specs.declared.MsgId.{MsgId}
use Rattle.dm_message.specs.Plain.{PlainMessage}
use Rattle.dm_onekernel.specs.declared.boot.Boot.{Boot}
use Rattle.dm_onekernel.specs.Boot.{IsValid, first_number, manager, switchboard}
use Rattle.dm_onekernel.specs.Kernel.{Life}
use Rattle.dm_schedule.specs.declared.Step.{Step}
use Rattle.dm_line.specs.Each.{joined_below}
use Rattle.dm_line.proofs.Names.{eqb_tells, false≢true}
use Rattle.dm_law_rule.specs.Laws.{Leads}
use Rattle.dm_law_rule.specs.Point.{Point, first_point}
use Rattle.dm_law_rule.specs.Spots.{Spot, Queue, Held, Inbox, Untaken, StandsOnce, StandsNowhere, StandsOutside, StandsRight, standing, times, untaken}
use Rattle.dm_law_rule.specs.View.{View, Known, is_kernels}
use Rattle.dm_law_rule.specs.View as view
use Rattle.dm_law_rule.proofs.Groups.{stands_once_always}
use Rattle.dm_law_rule.proofs.Pairs.{pair_home}
use Rattle.dm_law_rule.proofs.Standing.{times-append}
use Rattle.dm_law_always.specs.Fits.{is_server}
use Rattle.dm_law_always.specs.Found.{has_no_queue, has_nothing_held}
use Rattle.dm_law_always.specs.KnownStands.{agrees}
use Rattle.dm_law_always.proofs.RunsAlways.{run_always}
use Rattle.dm_law_moves.proofs.Names.{cases_Bool, pid_eq-is, pid_eq-same}
use Rattle.dm_law_moves.proofs.Lists.Always.{lists_always}
use Rattle.dm_law_moves.proofs.At.RestAlways.{within}
use Rattle.dm_law_moves.proofs.Settles.Falls.TurnFalls.{from_within}
use Rattle.dm_law_mirror.specs.Made.{MadeStands}
use Rattle.dm_law_mirror.proofs.Names.{drop_all}
use Rattle.dm_law_mirror.proofs.Machines.{made_always}
use Rattle.dm_law_runs.proofs.Letters.Often.{none_in, once_in, some_in, some_left, some_right}

-- what waits for a process or a server at a machine
abbrev pub ids_kept : View → ℕ → Pid → List MsgId
ids_kept v m p = v.queue m p ++ v.held m p

abbrev pub ids_of_home : Point → ℕ → ℕ → List MsgId
ids_of_home pt m home = joined_below (λ n. ids_kept pt.view m (pid_of home (first_number + n))) (pt.kernel.made home)

abbrev pub ids_of_servers : Point → ℕ → List MsgId
ids_of_servers pt m = ids_kept pt.view m switchboard ++ ids_kept pt.view m manager

abbrev pub ids_of_homes : Point → ℕ → List MsgId
ids_of_homes pt m = joined_below (λ home. ids_of_home pt m home) pt.kernel.machines

abbrev pub ids_kept_at : Point → ℕ → List MsgId
ids_kept_at pt m = ids_of_servers pt m ++ ids_of_homes pt m

-- what it routed to another, and was not taken
abbrev pub ids_given : View → ℕ → ℕ → List MsgId
ids_given v a c = if a == c then [] else untaken (v.pair a c)

abbrev pub ids_given_by : Point → ℕ → List MsgId
ids_given_by pt a = joined_below (λ c. ids_given pt.view a c) pt.kernel.machines

abbrev pub ids_at_machine : Point → ℕ → List MsgId
ids_at_machine pt m = ids_kept_at pt m ++ pt.view.inbox m ++ ids_given_by pt m

abbrev pub all_ids : Point → List MsgId
all_ids pt = joined_below (λ m. ids_at_machine pt m) pt.kernel.machines

-- the machine that has a spot
abbrev place : Spot → ℕ
place (Queue m p) = m
place (Held m p) = m
place (Inbox m) = m
place (Untaken a c) = a

abbrev process : Pid → Spot → Pid
process d (Queue m p) = p
process d (Held m p) = p
process d (Inbox m) = d
process d (Untaken a c) = d

abbrev target : Spot → ℕ
target (Untaken a c) = c
target _ = 0

abbrev sort : Spot → ℕ
sort (Queue m p) = 0
sort (Held m p) = 1
sort (Inbox m) = 2
sort (Untaken a c) = 3

-- how often it stands at a machine
at_machine : (pt : Point) (i : MsgId) (m : ℕ) → times i (ids_at_machine pt m) ≡ times i (ids_kept_at pt m) + (times i (pt.view.inbox m) + times i (ids_given_by pt m))
at_machine pt i m =
    let first = times-append i (ids_kept_at pt m ++ pt.view.inbox m) (ids_given_by pt m) in
    let second = times-append i (ids_kept_at pt m) (pt.view.inbox m) in
    omega (arith, first, second)

-- for the servers, and for the processes
kept_at_sum : (pt : Point) (i : MsgId) (m : ℕ) → times i (ids_kept_at pt m) ≡ times i (ids_kept pt.view m switchboard) + times i (ids_kept pt.view m manager) + times i (ids_of_homes pt m)
kept_at_sum pt i m =
    let all = times-append i (ids_of_servers pt m) (ids_of_homes pt m) in
    let both = times-append i (ids_kept pt.view m switchboard) (ids_kept pt.view m manager) in
    omega (arith, all, both)

homes_none : (pt : Point) (i : MsgId) (m : ℕ) → ((home n : ℕ) → times i (ids_kept pt.view m (pid_of home (first_number + n))) ≡ 0) → times i (ids_of_homes pt m) ≡ 0
homes_none pt i m none =
    none_in i (λ home. ids_of_home pt m home) pt.kernel.machines
    (λ home h. none_in i (λ n. ids_kept pt.view m (pid_of home (first_number + n))) (pt.kernel.made home) (λ n k. none home n))

-- the message stands at one spot
module _ (pt : Point) (i : MsgId) (z : Spot) (one : standing pt.view i z ≡ 1) (others : (other : Spot) → other ≢ z → standing pt.view i other ≡ 0) where
  kept_none : (m : ℕ) (p : Pid) → Queue m p ≢ z → Held m p ≢ z → times i (ids_kept pt.view m p) ≡ 0
  kept_none m p queue held =
      let both = times-append i (pt.view.queue m p) (pt.view.held m p) in
      let first : times i (pt.view.queue m p) ≡ 0 = others (Queue m p) queue in
      let second : times i (pt.view.held m p) ≡ 0 = others (Held m p) held in
      omega (arith, both, first, second)

  kept_at_none : (m : ℕ) → ((p : Pid) → Queue m p ≢ z) → ((p : Pid) → Held m p ≢ z) → times i (ids_kept_at pt m) ≡ 0
  kept_at_none m queue held =
      let board = kept_none m switchboard (queue switchboard) (held switchboard) in
      let theirs = kept_none m manager (queue manager) (held manager) in
      let homes = homes_none pt i m (λ home n. kept_none m (pid_of home (first_number + n)) (queue (pid_of home (first_number + n))) (held (pid_of home (first_number + n)))) in
      let sum = kept_at_sum pt i m in
      omega (arith, board, theirs, homes, sum)

  given_by : (a c : ℕ) (b : Bool) → times i (untaken (pt.view.pair a c)) ≡ 0 → times i (if b then [] else untaken (pt.view.pair a c)) ≡ 0
  given_by a c true none = refl
  given_by a c false none = none

  given_none : (a : ℕ) → ((c : ℕ) → Untaken a c ≢ z) → times i (ids_given_by pt a) ≡ 0
  given_none a apart = none_in i (λ c. ids_given pt.view a c) pt.kernel.machines (λ c h. given_by a c (a == c) (others (Untaken a c) (apart c)))

  -- elsewhere
  none_at : (m : ℕ) → m ≢ place z → times i (ids_at_machine pt m) ≡ 0
  none_at m apart =
      let kept = kept_at_none m (λ p e. apart (ap place e)) (λ p e. apart (ap place e)) in
      let inbox : times i (pt.view.inbox m) ≡ 0 = others (Inbox m) (λ e. apart (ap place e)) in
      let given = given_none m (λ c e. apart (ap place e)) in
      let all = at_machine pt i m in
      omega (arith, kept, inbox, given, all)

-- at its own
zero_one : (x y z n : ℕ) → n ≡ x + (y + z) → x ≤ 1 → y ≡ 0 → z ≡ 0 → n ≤ 1
zero_one x y z n e a b c = omega (arith, e, a, b, c)

given_once : (b : Bool) (i : MsgId) (xs : List MsgId) → times i xs ≡ 1 → times i (if b then [] else xs) ≤ 1
given_once true i xs one = omega arith
given_once false i xs one = omega (arith, one)

homes_once : (pt : Point) (i : MsgId) (m : ℕ) (p : Pid) → ((q : Pid) → q ≢ p → times i (ids_kept pt.view m q) ≡ 0) → times i (ids_kept pt.view m p) ≤ 1 → times i (ids_of_homes pt m) ≤ 1
homes_once pt i m p others one =
    once_in i (λ home. ids_of_home pt m home) pt.kernel.machines p.home
    (λ home apart. none_in i (λ n. ids_kept pt.view m (pid_of home (first_number + n))) (pt.kernel.made home)
    (λ n h. others (pid_of home (first_number + n)) (λ e. apart (ap (λ (q : Pid). q.home) e))))
    (once_in i (λ n. ids_kept pt.view m (pid_of p.home (first_number + n))) (pt.kernel.made p.home) (p.num - first_number)
    (λ n apart. others (pid_of p.home (first_number + n)) (λ e. apart (let num : first_number + n ≡ p.num = ap (λ (q : Pid). q.num) e in omega (arith, num))))
    (one_of (pid_of p.home (first_number + (p.num - first_number)))))
  where
    one_of : (q : Pid) → times i (ids_kept pt.view m q) ≤ 1
    one_of q = elim (cases_Bool (pid_eq q p)) [
      | inl same ↦ subst (λ (r : Pid). times i (ids_kept pt.view m r) ≤ 1) (sym (pid_eq-is q p same)) one
      | inr off ↦ let none = others q (λ e. false≢true (sym off ∙ (ap (λ (r : Pid). pid_eq r p) e ∙ pid_eq-same p))) in omega (arith, none)
    ]

-- no process has a server's name
made_apart : (home n : ℕ) (p : Pid) → p.num ≤ 2 → pid_of home (first_number + n) ≢ p
made_apart home n p few e = let num : first_number + n ≡ p.num = ap (λ (q : Pid). q.num) e in omega (arith, num, few)

servers_apart : manager ≢ switchboard
servers_apart e = let num : 2 ≡ 1 = ap (λ (q : Pid). q.num) e in omega (arith, num)

-- for a server, or for a process
kept_once : (pt : Point) (i : MsgId) (m : ℕ) (p : Pid) → ((q : Pid) → q ≢ p → times i (ids_kept pt.view m q) ≡ 0) → times i (ids_kept pt.view m p) ≤ 1 → times i (ids_kept_at pt m) ≤ 1
kept_once pt i m p others one =
    elim (cases_Bool (pid_eq switchboard p)) [
      | inl same ↦
          let is = pid_eq-is switchboard p same in
          let board : times i (ids_kept pt.view m switchboard) ≤ 1 = subst (λ (q : Pid). times i (ids_kept pt.view m q) ≤ 1) (sym is) one in
          let theirs = others manager (λ e. servers_apart (e ∙ sym is)) in
          let homes = homes_none pt i m (λ home n. others (pid_of home (first_number + n)) (λ e. made_apart home n switchboard (omega arith) (e ∙ sym is))) in
          let sum = kept_at_sum pt i m in
          omega (arith, board, theirs, homes, sum)
      | inr off ↦ not_board (others switchboard (λ e. false≢true (sym off ∙ (ap (λ (r : Pid). pid_eq r p) e ∙ pid_eq-same p))))
    ]
  where
    not_board : times i (ids_kept pt.view m switchboard) ≡ 0 → times i (ids_kept_at pt m) ≤ 1
    not_board board = elim (cases_Bool (pid_eq manager p)) [
      | inl same ↦
          let is = pid_eq-is manager p same in
          let theirs : times i (ids_kept pt.view m manager) ≤ 1 = subst (λ (q : Pid). times i (ids_kept pt.view m q) ≤ 1) (sym is) one in
          let homes = homes_none pt i m (λ home n. others (pid_of home (first_number + n)) (λ e. made_apart home n manager (omega arith) (e ∙ sym is))) in
          let sum = kept_at_sum pt i m in
          omega (arith, board, theirs, homes, sum)
      | inr off ↦
          let theirs = others manager (λ e. false≢true (sym off ∙ (ap (λ (r : Pid). pid_eq r p) e ∙ pid_eq-same p))) in
          let homes = homes_once pt i m p others one in
          let sum = kept_at_sum pt i m in
          omega (arith, board, theirs, homes, sum)
    ]

once_at : (pt : Point) (i : MsgId) (z : Spot) → standing pt.view i z ≡ 1 → ((other : Spot) → other ≢ z → standing pt.view i other ≡ 0) → times i (ids_at_machine pt (place z)) ≤ 1
once_at pt i (Queue m p) one others =
    let z = Queue m p in
    let both = times-append i (pt.view.queue m p) (pt.view.held m p) in
    let queue : times i (pt.view.queue m p) ≡ 1 = one in
    let held : times i (pt.view.held m p) ≡ 0 = others (Held m p) (λ e. let f = ap sort e in absurd (omega (arith, f))) in
    let kept = kept_once pt i m p (λ q apart. kept_none pt i z one others m q (λ e. apart (ap (process p) e)) (λ e. let f = ap sort e in absurd (omega (arith, f)))) (omega (arith, both, queue, held)) in
    let inbox : times i (pt.view.inbox m) ≡ 0 = others (Inbox m) (λ e. let f = ap sort e in absurd (omega (arith, f))) in
    let given = given_none pt i z one others m (λ c e. let f = ap sort e in absurd (omega (arith, f))) in
    zero_one (times i (ids_kept_at pt m)) (times i (pt.view.inbox m)) (times i (ids_given_by pt m)) (times i (ids_at_machine pt m)) (at_machine pt i m) kept inbox given
once_at pt i (Held m p) one others =
    let z = Held m p in
    let both = times-append i (pt.view.queue m p) (pt.view.held m p) in
    let queue : times i (pt.view.queue m p) ≡ 0 = others (Queue m p) (λ e. let f = ap sort e in absurd (omega (arith, f))) in
    let held : times i (pt.view.held m p) ≡ 1 = one in
    let kept = kept_once pt i m p (λ q apart. kept_none pt i z one others m q (λ e. let f = ap sort e in absurd (omega (arith, f))) (λ e. apart (ap (process p) e))) (omega (arith, both, queue, held)) in
    let inbox : times i (pt.view.inbox m) ≡ 0 = others (Inbox m) (λ e. let f = ap sort e in absurd (omega (arith, f))) in
    let given = given_none pt i z one others m (λ c e. let f = ap sort e in absurd (omega (arith, f))) in
    zero_one (times i (ids_kept_at pt m)) (times i (pt.view.inbox m)) (times i (ids_given_by pt m)) (times i (ids_at_machine pt m)) (at_machine pt i m) kept inbox given
once_at pt i (Inbox m) one others =
    let z = Inbox m in
    let kept = kept_at_none pt i z one others m (λ p e. let f = ap sort e in absurd (omega (arith, f))) (λ p e. let f = ap sort e in absurd (omega (arith, f))) in
    let inbox : times i (pt.view.inbox m) ≡ 1 = one in
    let given = given_none pt i z one others m (λ c e. let f = ap sort e in absurd (omega (arith, f))) in
    let all = at_machine pt i m in
    omega (arith, kept, inbox, given, all)
once_at pt i (Untaken a c) one others =
    let z = Untaken a c in
    let kept = kept_at_none pt i z one others a (λ p e. let f = ap sort e in absurd (omega (arith, f))) (λ p e. let f = ap sort e in absurd (omega (arith, f))) in
    let inbox : times i (pt.view.inbox a) ≡ 0 = others (Inbox a) (λ e. let f = ap sort e in absurd (omega (arith, f))) in
    let given = once_in i (λ k. ids_given pt.view a k) pt.kernel.machines c (λ k apart. given_by pt i z one others a k (a == k) (others (Untaken a k) (λ e. apart (ap target e)))) (given_once (a == c) i (untaken (pt.view.pair a c)) one) in
    let all = at_machine pt i a in
    omega (arith, kept, inbox, given, all)

once : (pt : Point) (i : MsgId) → StandsOnce (standing pt.view i) → times i (all_ids pt) ≤ 1
once pt i (z, one, others) = once_in i (λ m. ids_at_machine pt m) pt.kernel.machines (place z) (none_at pt i z one others) (once_at pt i z one others)

nowhere : (pt : Point) (i : MsgId) → StandsNowhere (standing pt.view i) → times i (all_ids pt) ≤ 1
nowhere pt i none =
    let kept : (m : ℕ) (p : Pid) → times i (ids_kept pt.view m p) ≡ 0 = λ m p.
    let both = times-append i (pt.view.queue m p) (pt.view.held m p) in
    let queue : times i (pt.view.queue m p) ≡ 0 = none (Queue m p) in
    let held : times i (pt.view.held m p) ≡ 0 = none (Held m p) in
    omega (arith, both, queue, held) in
    let all : times i (all_ids pt) ≡ 0 =
    none_in i (λ m. ids_at_machine pt m) pt.kernel.machines (λ m h.
    let homes = homes_none pt i m (λ home n. kept m (pid_of home (first_number + n))) in
    let board = kept m switchboard in
    let theirs = kept m manager in
    let part = kept_at_sum pt i m in
    let one : times i (ids_kept_at pt m) ≡ 0 = omega (arith, homes, board, theirs, part) in
    let two : times i (pt.view.inbox m) ≡ 0 = none (Inbox m) in
    let three = none_in i (λ c. ids_given pt.view m c) pt.kernel.machines (λ c k. by_test (m == c) (untaken (pt.view.pair m c)) (none (Untaken m c))) in
    let sum = at_machine pt i m in
    omega (arith, one, two, three, sum)) in
    omega (arith, all)
  where
    by_test : (b : Bool) (xs : List MsgId) → times i xs ≡ 0 → times i (if b then [] else xs) ≡ 0
    by_test true xs e = refl
    by_test false xs e = e

-- so each name stands there at most once
pub few_ids : (b : Boot) (es : List Step) (pt : Point) (i : MsgId) → IsValid b → Leads b (first_point b) es pt → times i (all_ids pt) ≤ 1
few_ids b es pt i valid leads = by_bag (pt.kernel.bag i) (stands_once_always b es pt i valid leads)
  where
    by_kernels : (c : Bool) → StandsOutside c (standing pt.view i) → times i (all_ids pt) ≤ 1
    by_kernels true h = elim h [ inl none ↦ nowhere pt i none | inr stands ↦ once pt i stands ]
    by_kernels false h = nowhere pt i h

    by_bag : (o : Option PlainMessage) → StandsRight i o (standing pt.view i) → times i (all_ids pt) ≤ 1
    by_bag None h = by_kernels (is_kernels i) h
    by_bag (Some m) h = once pt i h

-- and what stands somewhere is there
not_both : {A : Type 0} (c : Bool) → (c ≡ true → A) → (c ≡ false → A) → A
not_both true f g = f refl
not_both false f g = g refl

listed_some : (k : Known) (o : Option Life) → has_no_queue k ≡ false → agrees k o ≡ true → is_some o ≡ true
listed_some view.Here (Some x) h e = refl
listed_some (view.Frozen to) (Some x) h e = refl
listed_some view.Here None h e = absurd (false≢true e)
listed_some (view.Frozen to) None h e = absurd (false≢true e)
listed_some view.Unknown o h e = absurd (false≢true (sym h))
listed_some (view.Incoming from) o h e = absurd (false≢true (sym h))
listed_some (view.Forward at_ moves) o h e = absurd (false≢true (sym h))

held_some : (k : Known) (o : Option Life) → has_nothing_held k ≡ false → agrees k o ≡ true → is_some o ≡ true
held_some (view.Frozen to) (Some x) h e = refl
held_some (view.Incoming from) (Some x) h e = refl
held_some (view.Frozen to) None h e = absurd (false≢true e)
held_some (view.Incoming from) None h e = absurd (false≢true e)
held_some view.Unknown o h e = absurd (false≢true (sym h))
held_some view.Here o h e = absurd (false≢true (sym h))
held_some (view.Forward at_ moves) o h e = absurd (false≢true (sym h))

some_not_none : (i : MsgId) (xs : List MsgId) → 1 ≤ times i xs → xs ≡ [] → ⊥
some_not_none i xs least e = let none : times i xs ≡ 0 = ap (times i) e in omega (arith, least, none)

-- a process that was made
in_home : (pt : Point) (i : MsgId) (m : ℕ) (p : Pid) → MadeStands pt.kernel → m < pt.kernel.machines → is_some (pt.kernel.processes p) ≡ true → 1 ≤ times i (ids_kept pt.view m p) → 1 ≤ times i (all_ids pt)
in_home pt i m p made below some least =
    let first = made.first p some in
    let under = made.below p some in
    let same : pid_of p.home (first_number + (p.num - first_number)) ≡ p = let e : first_number + (p.num - first_number) ≡ p.num = omega (arith, first) in ap (pid_of p.home) e in
    some_in i (λ k. ids_at_machine pt k) pt.kernel.machines m below
    (some_left i (ids_kept_at pt m ++ pt.view.inbox m) (ids_given_by pt m) (some_left i (ids_kept_at pt m) (pt.view.inbox m) (some_right i (ids_of_servers pt m) (ids_of_homes pt m)
    (some_in i (λ home. ids_of_home pt m home) pt.kernel.machines p.home (made.home p some)
    (some_in i (λ n. ids_kept pt.view m (pid_of p.home (first_number + n))) (pt.kernel.made p.home) (p.num - first_number) (omega (arith, first, under))
    (subst (λ (q : Pid). 1 ≤ times i (ids_kept pt.view m q)) (sym same) least))))))

-- a server
in_servers : (pt : Point) (i : MsgId) (m : ℕ) (p : Pid) → m < pt.kernel.machines → is_server p ≡ true → 1 ≤ times i (ids_kept pt.view m p) → 1 ≤ times i (all_ids pt)
in_servers pt i m p below server least =
    some_in i (λ k. ids_at_machine pt k) pt.kernel.machines m below
    (some_left i (ids_kept_at pt m ++ pt.view.inbox m) (ids_given_by pt m) (some_left i (ids_kept_at pt m) (pt.view.inbox m) (some_left i (ids_of_servers pt m) (ids_of_homes pt m)
    (elim (cases_Bool (pid_eq p switchboard)) [
      | inl same ↦
          some_left i (ids_kept pt.view m switchboard) (ids_kept pt.view m manager) (subst (λ (q : Pid). 1 ≤ times i (ids_kept pt.view m q)) (pid_eq-is p switchboard same) least)
      | inr off ↦
          some_right i (ids_kept pt.view m switchboard) (ids_kept pt.view m manager)
          (subst (λ (q : Pid). 1 ≤ times i (ids_kept pt.view m q)) (pid_eq-is p manager (sym (ap (λ (t : Bool). t || pid_eq p manager) off) ∙ server)) least)
    ]))))

stands_there : (b : Boot) (es : List Step) (pt : Point) (i : MsgId) (z : Spot) → IsValid b → Leads b (first_point b) es pt → 1 ≤ standing pt.view i z → 1 ≤ times i (all_ids pt)
stands_there b es pt i (Queue m p) valid leads least =
    let run = (run_always b es pt valid leads).run in
    let lists = lists_always b es pt valid leads in
    let stands : 1 ≤ times i (pt.view.queue m p) = least in
    let none : pt.view.queue m p ≡ [] → ⊥ = some_not_none i (pt.view.queue m p) stands in
    let server : is_server p ≡ false = not_both (is_server p) (λ e. absurd (none (lists.server m p e))) (λ e. e) in
    let queued : has_no_queue (pt.view.known m p) ≡ false = not_both (has_no_queue (pt.view.known m p)) (λ e. absurd (none (lists.stand.queue m p e))) (λ e. e) in
    in_home pt i m p (made_always b es pt valid leads) (within b pt i (Queue m p) run least) (listed_some (pt.view.known m p) (pt.kernel.processes p) queued (run.based.known.agree m p server))
    (some_left i (pt.view.queue m p) (pt.view.held m p) stands)
stands_there b es pt i (Held m p) valid leads least =
    let run = (run_always b es pt valid leads).run in
    let lists = lists_always b es pt valid leads in
    let stands : 1 ≤ times i (pt.view.held m p) = least in
    let none : pt.view.held m p ≡ [] → ⊥ = some_not_none i (pt.view.held m p) stands in
    let held : has_nothing_held (pt.view.known m p) ≡ false = not_both (has_nothing_held (pt.view.known m p)) (λ e. absurd (none (lists.stand.held m p e))) (λ e. e) in
    let below = within b pt i (Held m p) run least in
    let there = some_right i (pt.view.queue m p) (pt.view.held m p) stands in
    not_both (is_server p) (λ server. in_servers pt i m p below server there)
    (λ server. in_home pt i m p (made_always b es pt valid leads) below (held_some (pt.view.known m p) (pt.kernel.processes p) held (run.based.known.agree m p server)) there)
stands_there b es pt i (Inbox m) valid leads least =
    let run = (run_always b es pt valid leads).run in
    some_in i (λ k. ids_at_machine pt k) pt.kernel.machines m (within b pt i (Inbox m) run least)
    (some_left i (ids_kept_at pt m ++ pt.view.inbox m) (ids_given_by pt m) (some_right i (ids_kept_at pt m) (pt.view.inbox m) least))
stands_there b es pt i (Untaken a c) valid leads least =
    let run = (run_always b es pt valid leads).run in
    let stands : 1 ≤ times i (untaken (pt.view.pair a c)) = least in
    let there = some_ids (pt.view.pair a c).taken (pt.view.pair a c).ids i stands in
    some_in i (λ k. ids_at_machine pt k) pt.kernel.machines a (from_within b es pt a c valid leads there)
    (some_right i (ids_kept_at pt a ++ pt.view.inbox a) (ids_given_by pt a)
    (some_in i (λ k. ids_given pt.view a k) pt.kernel.machines c (within b pt i (Untaken a c) run least) (elim (eqb_tells a c) [
      | inl e ↦ absurd (some_not_none i (untaken (pt.view.pair a c)) stands (ap (λ (k : ℕ). untaken (pt.view.pair a k)) (sym e.1) ∙ home_none (pt.view.pair a a).taken (pt.view.pair a a).ids (pair_home pt.view a run.based.phased.pairs).taken))
      | inr e ↦ subst (λ (t : Bool). 1 ≤ times i (if t then [] else untaken (pt.view.pair a c))) (sym e.0) stands
    ])))
  where
    some_ids : (n : ℕ) (ids : List MsgId) (j : MsgId) → 1 ≤ times j (drop n ids) → 0 < length ids
    some_ids n [] j h = absurd (some_not_none j (drop n []) h (drop_all n [] (omega arith)))
    some_ids n (x ∷ xs) j h = omega arith

    home_none : (n : ℕ) (ids : List MsgId) → n ≡ length ids → drop n ids ≡ []
    home_none n ids e = drop_all n ids (omega (arith, e))

-- each message that the kernel holds
pub held_there : (b : Boot) (es : List Step) (pt : Point) (i : MsgId) (m : PlainMessage) → IsValid b → Leads b (first_point b) es pt → pt.kernel.bag i ≡ Some m → 1 ≤ times i (all_ids pt)
held_there b es pt i m valid leads there =
    let right = subst (λ (o : Option PlainMessage). StandsRight i o (standing pt.view i)) there (stands_once_always b es pt i valid leads) in
    let one = right.1 in
    stands_there b es pt i right.0 valid leads (omega (arith, one))
