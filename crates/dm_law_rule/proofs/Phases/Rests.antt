-- The rows of migration that end it, and the one that begins it.
use Rattle.dm_law_rule.proofs.Names.{◌≡◌, ℕ, ◌+◌, ◌≤◌, ◌==◌, ◌&&◌, Bool, true, false, not, List, [], ◌∷◌, ◌++◌, refl, ap, ◌∙◌, sym, subst, inl, inr, arith, if◌then◌else◌, Option, None, Some, cases_Bool, false≢true, nat_tests, Pid, pid_eq}
use Rattle.dm_law_rule.proofs.Names.{MsgId, MessageKind, Stage, id_eq, Line, at_machine, at_record, View, Told, Of, Known, Here, Frozen, view_after, handled_first, released, is_kernels, target_of, Point, label_of, moved, Says, Spelled, spelled}
use Rattle.dm_law_rule.proofs.Names.{to_kernel, Spot, Queue, Held, Inbox, Untaken, times, ids_at, standing, is_between, is_restart, is_early, kind_comes, is_away, Phase, Rests, Moves, knows, token_in, receiver_in, id_eq-is, pid_eq-is}
use Rattle.dm_law_rule.proofs.Names.{pid_eq-same, NothingElse, Target, frozen_for, leaves_for, kind_leaves, sets_off, option_and_then, slice_get, and_parts, eqb-true, ◌<◌, sender_in, pid_of, not-true, right_true, IsBefore, is_calloff}
use Rattle.dm_law_rule.proofs.Standing.{times-append}
use Rattle.dm_law_rule.proofs.Lines.{Bag, hidden, Stands, Stands-stays, Stands-handled, eq_self}
use Rattle.dm_law_rule.proofs.Letters.{letters}
use Rattle.dm_law_rule.proofs.Hushed.{is_put, hushed}
use Rattle.dm_law_rule.proofs.Pairs.Lines.{touches, pair_same}
use Rattle.dm_law_rule.proofs.States.{State, by_line}
use Rattle.dm_law_rule.proofs.Said.{fits_as}
use Rattle.dm_law_rule.proofs.Seen.{seen_none}
use Rattle.dm_law_rule.proofs.Moves.Lists.{Stands-released, first_off}
use Rattle.dm_law_rule.proofs.Moves.Sent.{line_next}
use Rattle.dm_law_rule.proofs.Moves.Rows.{goes_first, comes_back, home_again, home_off, frozen_off, asked_off, frozen_state, restarted_off}
use Rattle.dm_law_rule.proofs.Phases.Calm.{Came, left_on}
use Rattle.dm_law_rule.proofs.Phases.Lines.{handled_spots, keeps_come, come_at}
use Rattle.dm_law_rule.proofs.Phases.Stand.{none_only, Learns, learns_phases, LeavesOver, quiet_left, calls_in, none_first, kept_awaited, came_from}
use Rattle.dm_law_rule.proofs.Phases.Ranked.{Ranked}
use Rattle.dm_law_rule.proofs.Phases.Behind.{never_behind}
use Rattle.dm_law_rule.proofs.Phases.Answers.{WholeBut, Whole, Due, owns_whole, nowhere_of, first_learns, token_one}
use Rattle.dm_law_rule.proofs.Phases.Pieces.{record_off, due_known, due_apart, and_true}
use Rattle.dm_law_rule.proofs.Bags.{cases_zero}

held_back : (v : View) (p : Pid) (j : MsgId) (m : ℕ) (q : Pid) → 1 ≤ times j (at_record v.held v.acting p [] m q) → 1 ≤ times j (v.held m q)
held_back v p j m q st = elim (cases_Bool ((v.acting == m) && pid_eq p q)) [
  | inl same ↦ absurd (let none : times j (at_record v.held v.acting p [] m q) ≡ 0 = ap (λ (c : Bool). times j (if c then [] else v.held m q)) same in omega (arith, st, none))
  | inr off ↦ subst (λ n. 1 ≤ n) (ap (λ (c : Bool). times j (if c then [] else v.held m q)) off) st
]

inbox_back : (v : View) (p : Pid) (j : MsgId) (m : ℕ) → 1 ≤ times j (at_machine v.inbox v.acting (v.held v.acting p ++ v.inbox v.acting) m) → Came v j (Inbox m)
inbox_back v p j m st = elim (cases_Bool (v.acting == m)) [
  | inl same ↦
      let am : v.acting ≡ m = eqb-true v.acting m same in
      let now : times j (at_machine v.inbox v.acting (v.held v.acting p ++ v.inbox v.acting) m) ≡ times j (v.held v.acting p ++ v.inbox v.acting) = ap (λ (c : Bool). times j (if c then (v.held v.acting p ++ v.inbox v.acting) else v.inbox m)) same in
      elim (cases_zero (times j (v.held v.acting p))) [
        | inl none ↦ inl (subst (λ (n : ℕ). 1 ≤ times j (v.inbox n)) am (omega (arith, st, now, times-append j (v.held v.acting p) (v.inbox v.acting), none)))
        | inr some ↦ inr (Held v.acting p, some, ap (λ (n : ℕ). Inbox n) (sym am))
      ]
  | inr off ↦ inl (subst (λ n. 1 ≤ n) (ap (λ (c : Bool). times j (if c then (v.held v.acting p ++ v.inbox v.acting) else v.inbox m)) off) st)
]

pub in_inbox : (v : View) (p : Pid) (j : MsgId) (m : ℕ) → (v.acting == m) ≡ true → 1 ≤ times j (v.held v.acting p) + times j (v.inbox v.acting) → 1 ≤ standing (released v p) j (Inbox m)
in_inbox v p j m same st =
    let sum = times-append j (v.held v.acting p) (v.inbox v.acting) in omega (arith, st, ap (λ (c : Bool). times j (if c then (v.held v.acting p ++ v.inbox v.acting) else v.inbox m)) same, sum)

pub released_on : (v : View) (p : Pid) (j : MsgId) (z : Spot) → 1 ≤ standing v j z → (y : Spot) × (1 ≤ standing (released v p) j y)
released_on v p j (Queue m q) st = (Queue m q, st)
released_on v p j (Held m q) st = elim (cases_Bool ((v.acting == m) && pid_eq p q)) [
  | inl same ↦
      let both = and_parts (v.acting == m) (pid_eq p q) same in
      let here : 1 ≤ times j (v.held v.acting p) = subst (λ (r : Pid). 1 ≤ times j (v.held v.acting r)) (sym (pid_eq-is p q both.1)) (subst (λ (n : ℕ). 1 ≤ times j (v.held n q)) (sym (eqb-true v.acting m both.0)) st) in
      (Inbox v.acting, in_inbox v p j v.acting (eq_self v.acting) (omega (arith, here)))
  | inr off ↦ (Held m q, subst (λ n. 1 ≤ n) (sym (ap (λ (c : Bool). times j (if c then [] else v.held m q)) off)) st)
]
released_on v p j (Inbox m) st = elim (cases_Bool (v.acting == m)) [
  | inl same ↦
      (Inbox m, in_inbox v p j m same (omega (arith, subst (λ (n : ℕ). 1 ≤ times j (v.inbox n)) (sym (eqb-true v.acting m same)) st)))
  | inr off ↦ (Inbox m, subst (λ n. 1 ≤ n) (sym (ap (λ (c : Bool). times j (if c then (v.held v.acting p ++ v.inbox v.acting) else v.inbox m)) off)) st)
]
released_on v p j (Untaken a b) st = (Untaken a b, st)

-- the lines that bring a process home
abbrev pub before_home : View → Pid → View
before_home v p = home_again (handled_first v) p

back_gone : (pt : Point) (l : Line) (i : MsgId) (is : List MsgId) (p : Pid) (h : State None pt) → is_put l ≡ false → pt.view.inbox pt.view.acting ≡ i ∷ is → ((z : Spot) → ids_at (view_after pt.view l) z ≡ ids_at (released (before_home pt.view p) p) z) → (z : Spot) → standing (view_after pt.view l) i z ≡ 0
back_gone pt l i is p h quiet front off =
    let bag = letters h.own pt.kernel.bag in
    let left : Bag = hidden (Some i) bag in
    let first : Stands left (handled_first pt.view) = Stands-handled bag pt.view (handled_first pt.view) i is front (first_off pt.view i is front) (λ j. refl) h.stands in
    let u = before_home pt.view p in
    let home : Stands left u = Stands-stays left (handled_first pt.view) u (home_off (handled_first pt.view) p) (λ j. refl) first in
    nowhere_of bag i (standing (view_after pt.view l) i) ((Stands-released left u (view_after pt.view l) p off (λ j. ap (λ (f : MsgId → Option Told). f j) (hushed pt.view l quiet).told) home).kept i)

back_learns : (pt : Point) (l : Line) (i : MsgId) (is : List MsgId) (t : Told) (p : Pid) (h : State None pt) → is_put l ≡ false → keeps_come l ≡ true → pt.view.inbox pt.view.acting ≡ i ∷ is → pt.view.told i ≡ Some t → t.about ≡ Of p
    → ((z : Spot) → ids_at (view_after pt.view l) z ≡ ids_at (released (before_home pt.view p) p) z) → ((m : ℕ) (q : Pid) → pid_eq p q ≡ false → (view_after pt.view l).known m q ≡ pt.view.known m q) → Learns pt.view (view_after pt.view l) p
back_learns pt l i is t p h quiet come front told about off known =
    let home_spots : (v : View) (i : MsgId) (is : List MsgId) (p : Pid) (j : MsgId) → v.inbox v.acting ≡ i ∷ is → id_eq i j ≡ false → (z : Spot) → standing (before_home v p) j z ≡ standing v j z =
    λ v i is p j front apart z. ap (times j) (home_off (handled_first v) p z ∙ first_off v i is front z) ∙ handled_spots v i j apart z in
    let came_home : (v : View) (i : MsgId) (is : List MsgId) (p : Pid) (j : MsgId) → v.inbox v.acting ≡ i ∷ is → id_eq i j ≡ false → (z : Spot) → Came (before_home v p) j z → Came v j z =
    λ v i is p j front apart z c. search (arith, home_spots) in
    let v = pt.view in
    let w = view_after v l in
    let u = before_home v p in
    let same : (j : MsgId) → w.told j ≡ v.told j = λ j. ap (λ (f : MsgId → Option Told). f j) (hushed v l quiet).told in
    record {
      calm = known;
      come = λ q apart. come_at v l q come;
      fresh = λ j x e b. sym (same j) ∙ e;
      kept = λ j x e. same j ∙ e;
      back = λ j x e b z st. elim (cases_Bool (id_eq i j)) [
        | inl is_i ↦ absurd (let none : standing w j z ≡ 0 = subst (λ (y : MsgId). standing w y z ≡ 0) (id_eq-is i j is_i) (back_gone pt l i is p h quiet front off z) in omega (arith, st, none))
        | inr apart ↦ came_home v i is p j front apart z ((elim z as (λ z_. 1 ≤ standing (released u p) j z_ → Came u j z_)
            [ Held m q ↦ λ st_. inl (held_back u p j m q st_) | Inbox m ↦ λ st_. inbox_back u p j m st_ | _ ↦ λ st_. inl st_ ]) (subst (λ n. 1 ≤ n) (ap (times j) (off z)) st))
      ];
      on = λ j x q apart e b ab z st. elim (cases_Bool (id_eq i j)) [
        | inl is_i ↦ absurd (
            let f : Some t ≡ Some x = sym told ∙ ap v.told (id_eq-is i j is_i) ∙ e in
            let fq : Of p ≡ Of q = sym about ∙ ap (λ (y : Told). y.about) (let g : t ≡ x = cc in g) ∙ ab in
            let pq : p ≡ q = cc in false≢true (sym apart ∙ ap (pid_eq p) (sym pq) ∙ pid_eq-same p))
        | inr off_i ↦
            let (y, s) = released_on u p j z (subst (λ n. 1 ≤ n) (sym (home_spots v i is p j front off_i z)) st) in
            (y, subst (λ n. 1 ≤ n) (sym (ap (times j) (off y))) s)
      ];
    }

pub refused_if : (k : MessageKind) (s d m : ℕ) (o : Option MsgId) (b : Bool) (y : Known) → is_early k ≡ true → (s == m) ≡ b → knows (Moves k s d o) m y ≡ true → knows (Rests s) m (if b then Here else y) ≡ true
refused_if k s d m o b y h1 h2 h3 =
    -- it rests on the acting machine
    let early_away : (k : MessageKind) (s : ℕ) (y : Known) → is_early k ≡ true → kind_comes k s y ≡ true → is_away y ≡ true = λ k s y h1 h2. search arith in
    search (arith, early_away)

pub at_acting : (v : View) (a m : ℕ) (p : Pid) (x : Known) → v.acting ≡ a → at_record v.known v.acting p x m p ≡ (if a == m then x else v.known m p)
at_acting v a m p x e = ap (λ (n : ℕ). at_record v.known n p x m p) e ∙ ap (λ (c : Bool). if (a == m) && c then x else v.known m p) (pid_eq-same p) ∙ and_true (a == m) x (v.known m p)

-- what machines know then of the process
home_known : (v : View) (l : Line) (p : Pid) → (view_after v l).known ≡ at_record v.known v.acting p Here → (m : ℕ) → (view_after v l).known m p ≡ (if v.acting == m then Here else v.known m p)
home_known v l p learned m = ap (λ (f : ℕ → Pid → Known). f m p) learned ∙ at_acting v v.acting m p Here refl

-- its token is gone
home_left : (pt : Point) (l : Line) (i : MsgId) (is : List MsgId) (t : Told) (at : ℕ) (h : Whole pt) (u : Due pt i t h.phases) → is_calloff u.k ≡ false → is_put l ≡ false → pt.view.inbox pt.view.acting ≡ i ∷ is → ((z : Spot) → ids_at (view_after pt.view l) z ≡ ids_at (released (before_home pt.view u.p) u.p) z)
    → (view_after pt.view l).known ≡ at_record pt.view.known pt.view.acting u.p Here → LeavesOver pt.view (view_after pt.view l) u.p (h.phases.of u.p) (Rests at)
home_left pt l i is t at h u kept quiet front off learned =
    quiet_left pt.view (view_after pt.view l) u.p (h.phases.of u.p) (Rests at) refl (ap calls_in u.phase ∙ kept)
    (λ m s here. kept_awaited (pt.view.acting == m) Here (pt.view.known m u.p) s (λ s e. cc) (sym (home_known pt.view l u.p learned m) ∙ here))
    (λ j x z. subst (λ (y : MsgId). standing (view_after pt.view l) y z ≡ 0) (token_one (h.phases.of u.p) u.k u.s u.d i j u.phase x) (back_gone pt l i is u.p h.state quiet front off z))

pub eq_other : (m n : ℕ) → (m == n) ≡ false → (n == m) ≡ false
eq_other m n e = grind (arith, nat_tests)

-- and where it was called off, what asks for a piece stands before, and so nowhere
called_left : (pt : Point) (l : Line) (i : MsgId) (is : List MsgId) (t : Told) (h : Whole pt) (u : Due pt i t h.phases) → u.k ≡ MessageKind.CallOff → Ranked pt.view → is_put l ≡ false → pt.view.inbox pt.view.acting ≡ i ∷ is → pt.view.told i ≡ Some t
    → ((z : Spot) → ids_at (view_after pt.view l) z ≡ ids_at (released (before_home pt.view u.p) u.p) z)
    → (view_after pt.view l).known ≡ at_record pt.view.known pt.view.acting u.p Here → LeavesOver pt.view (view_after pt.view l) u.p (h.phases.of u.p) (Rests u.s)
called_left pt l i is t h u e ranked quiet front told off learned j x z told_j bj about st back was =
    let v = pt.view in
    let w = view_after v l in
    let now = h.phases.of u.p in
    let at : v.acting ≡ u.s = u.acting ∙ ap (λ (k : MessageKind). receiver_in k u.s u.d) e in
    let apart : (u.s == u.d) ≡ false = not-true (u.s == u.d) (right_true (is_between u.k) (not (u.s == u.d)) (due_apart pt i t h.phases u)) in
    elim was [
      | inl mine ↦
          (let none : standing w j z ≡ 0 = subst (λ (y : MsgId). standing w y z ≡ 0) (token_one now u.k u.s u.d i j u.phase mine) (back_gone pt l i is u.p h.state quiet front off z) in absurd (omega (arith, st, none)))
      | inr left ↦ left_on v w u.p now (Rests u.s) j x back
          (λ s d o pulls way is_ first.
          (let f : Moves u.k u.s u.d (Some i) ≡ Moves MessageKind.CallOff s d o = sym u.phase ∙ is_ in
          let us : u.s ≡ s = cc in
          let ud : u.d ≡ d = cc in
          let io : Some i ≡ o = cc in
          let less : j.n < i.n = subst (λ (y : Option MsgId). IsBefore j y) (sym io) first in
          let (y, there) = came_from v j z (back z st) in
          let off_ : (d == s) ≡ false = subst (λ (n : ℕ). (n == s) ≡ false) ud (subst (λ (n : ℕ). (u.d == n) ≡ false) us (eq_other u.s u.d apart)) in
          absurd (never_behind v d s i is t j x y ranked off_ (subst (λ (n : ℕ). v.inbox n ≡ i ∷ is) (at ∙ us) front) (u.from ∙ ap (λ (k : MessageKind). pid_of (sender_in k u.s u.d) 0) e ∙ ap (λ (n : ℕ). pid_of n 0) ud) told (ap (λ (y : Told). is_between y.kind) u.told ∙ ap is_between e) way told_j bj there less)))
          (λ s d brings way off_ first here. off_ (kept_awaited (v.acting == d) Here (v.known d u.p) s (λ s e. cc) (sym (home_known v l u.p learned d) ∙ here)))
          (λ s d o brings way first is_. none_first (Rests u.s) s d j o refl is_) left
    ]

-- a line brings it home
pub home_whole : (pt : Point) (l : Line) (i : MsgId) (is : List MsgId) (t : Told) (at : ℕ) (h : Whole pt) (u : Due pt i t h.phases) → label_of l ≡ None → is_put l ≡ false → touches l ≡ false → keeps_come l ≡ true → pt.view.inbox pt.view.acting ≡ i ∷ is
    → pt.view.told i ≡ Some t → is_kernels i ≡ true
    → ((z : Spot) → ids_at (view_after pt.view l) z ≡ ids_at (released (before_home pt.view u.p) u.p) z) → (view_after pt.view l).known ≡ at_record pt.view.known pt.view.acting u.p Here → ((m : ℕ) → knows (Rests at) m (at_record pt.view.known pt.view.acting u.p Here m u.p) ≡ true)
    → LeavesOver pt.view (view_after pt.view l) u.p (h.phases.of u.p) (Rests at) → Whole (moved pt l pt.kernel)
home_whole pt l i is t at h u none quiet calm come front told mine off learned known left =
    let v = pt.view in
    let next = moved pt l pt.kernel in
    let same : next.view ≡ view_after v l = seen_none pt.kernel v l none in
    let others : (m : ℕ) (q : Pid) → pid_eq u.p q ≡ false → (view_after v l).known m q ≡ v.known m q = λ m q apart. ap (λ (f : ℕ → Pid → Known). f m q) learned ∙ record_off v.known v.acting u.p Here m q apart in
    let learns = subst (λ (x : View). Learns v x u.p) (sym same) (back_learns pt l i is t u.p h.state quiet come front told (ap (λ (x : Told). x.about) u.told) off others) in
    let turned = learns_phases v next.view u.p (Rests at) h.phases (none_only u.p) learns refl refl (λ m. ap (λ (f : ℕ → Pid → Known). knows (Rests at) m (f m u.p)) learned ∙ known m) tt
    (subst (λ (x : View). LeavesOver v x u.p (h.phases.of u.p) (Rests at)) (sym same) left) in
    record { state = comes_back pt l i is u.p quiet h.state front mine off; fits = fits_as v next.view (pair_same v l calm) h.fits; phases = turned.phases }

-- it stays, where the other machine refused it or called it off
pub refused_whole : (pt : Point) (i : MsgId) (is : List MsgId) (t : Told) (h : Whole pt) (u : Due pt i t h.phases) → u.k ≡ MessageKind.Refuse → pt.view.inbox pt.view.acting ≡ i ∷ is → pt.view.told i ≡ Some t → is_kernels i ≡ true → Whole (moved pt (Line.Stays u.p) pt.kernel)
refused_whole pt i is t h u e front told mine =
    let l = Line.Stays u.p in
    let at : pt.view.acting ≡ u.s = u.acting ∙ ap (λ (k : MessageKind). receiver_in k u.s u.d) e in
    home_whole pt l i is t u.s h u refl refl refl refl front told mine (λ z. refl) refl
    (λ m. ap (knows (Rests u.s) m) (at_acting pt.view u.s m u.p Here at) ∙ refused_if u.k u.s u.d m (Some i) (u.s == m) (pt.view.known m u.p) (ap is_early e) refl (due_known pt i t h.phases u m))
    (home_left pt l i is t u.s h u (ap is_calloff e) refl front (λ z. refl) refl)

-- where it was called off, the other machine forwards
called_back : (s d m : ℕ) (o : Option MsgId) (b : Bool) (y : Known) → (s == m) ≡ b → knows (Moves MessageKind.CallOff s d o) m y ≡ true → knows (Rests s) m (if b then Here else y) ≡ true
called_back s d m o b y h1 h2 =
    let called_away : (s : ℕ) (y : Known) (c : Bool) → (if c then kind_comes MessageKind.CallOff s y else is_away y) ≡ true → is_away y ≡ true = λ s y c e. search arith in
    search (arith, called_away)

pub called_whole : (pt : Point) (i : MsgId) (is : List MsgId) (t : Told) (h : Whole pt) (u : Due pt i t h.phases) → u.k ≡ MessageKind.CallOff → Ranked pt.view → pt.view.inbox pt.view.acting ≡ i ∷ is → pt.view.told i ≡ Some t → is_kernels i ≡ true → Whole (moved pt (Line.Stays u.p) pt.kernel)
called_whole pt i is t h u e ranked front told mine =
    let l = Line.Stays u.p in
    let at : pt.view.acting ≡ u.s = u.acting ∙ ap (λ (k : MessageKind). receiver_in k u.s u.d) e in
    home_whole pt l i is t u.s h u refl refl refl refl front told mine (λ z. refl) refl
    (λ m. ap (knows (Rests u.s) m) (at_acting pt.view u.s m u.p Here at) ∙ called_back u.s u.d m (Some i) (u.s == m) (pt.view.known m u.p) refl (subst (λ (k : MessageKind). knows (Moves k u.s u.d (Some i)) m (pt.view.known m u.p) ≡ true) e (due_known pt i t h.phases u m)))
    (called_left pt l i is t h u e ranked refl front told (λ z. refl) refl)

pub restart_whole : (pt : Point) (i : MsgId) (is : List MsgId) (t : Told) (h : Whole pt) (u : Due pt i t h.phases) → u.k ≡ MessageKind.Restart → pt.view.inbox pt.view.acting ≡ i ∷ is → pt.view.told i ≡ Some t → is_kernels i ≡ true
    → Whole (moved pt (Line.Migration Stage.Restarted u.p) pt.kernel)
restart_whole pt i is t h u e front told mine =
    let restarted_if : (k : MessageKind) (s d m : ℕ) (o : Option MsgId) (b : Bool) (y : Known) → is_restart k ≡ true → (d == m) ≡ b → knows (Moves k s d o) m y ≡ true → knows (Rests d) m (if b then Here else y) ≡ true =
    λ k s d m o b y h1 h2 h3.
    let left_away : (k : MessageKind) (d : ℕ) (y : Known) (c : Bool) → is_restart k ≡ true → (if c then kind_leaves k d y else is_away y) ≡ true → is_away y ≡ true = λ k d y c h1 h2. grind (arith, nat_tests) in
    search (arith, left_away) in
    let at : pt.view.acting ≡ u.d = u.acting ∙ ap (λ (k : MessageKind). receiver_in k u.s u.d) e in
    let l = Line.Migration Stage.Restarted u.p in
    home_whole pt l i is t u.d h u refl refl refl refl front told mine (λ z. restarted_off pt.view u.p z) refl
    (λ m. ap (knows (Rests u.d) m) (at_acting pt.view u.d m u.p Here at) ∙ restarted_if u.k u.s u.d m (Some i) (u.d == m) (pt.view.known m u.p) (ap is_restart e) refl (due_known pt i t h.phases u m))
    (home_left pt l i is t u.d h u (ap is_calloff e) refl front (λ z. restarted_off pt.view u.p z) refl)

-- what is here rests here
pub rests_here : (phase : Phase) (m : ℕ) → knows phase m Here ≡ true → phase ≡ Rests m
rests_here phase m h1 =
    let moves_if : (k : MessageKind) (s d : ℕ) (b c : Bool) → (if b then kind_leaves k d Here else if c then kind_comes k s Here else is_away Here) ≡ false = λ k s d b c. search arith in
    grind (arith, nat_tests, eqb-true, moves_if)

-- the view behind step 1 is that of a process frozen, seen from a view that knows and does the same
frozen_ends : (pt : Point) (p : Pid) (to : ℕ) (w : Spelled) (h : Whole pt) → State None (moved pt (Line.Migration Stage.Frozen p) pt.kernel) → Learns pt.view (view_after pt.view (Line.Migration Stage.Frozen p)) p
    → pt.view.known pt.view.acting p ≡ Here → (pt.view.acting == to) ≡ false
    → (u : View) → view_after pt.view (Line.Migration Stage.Frozen p) ≡ frozen_for u p to → u.known ≡ pt.view.known → u.acting ≡ pt.view.acting → spelled pt (leaves_for p to) ≡ Some w → Whole w.point
frozen_ends pt p to w h there learns here apart u at known acting e =
    -- it is frozen, and the other machine is asked
    let frozen_if : (a to m : ℕ) (b : Bool) (y : Known) → (a == m) ≡ b → (a == to) ≡ false → knows (Rests a) m y ≡ true → knows (Moves MessageKind.Ask a to None) m (if b then Frozen to else y) ≡ true =
    λ a to m b y h1 h2 h3. let away_comes : (a : ℕ) (y : Known) (c : Bool) → is_away y ≡ true → (if c then kind_comes MessageKind.Ask a y else is_away y) ≡ true = λ a y c h1. search arith in search (arith, eq_self, away_comes) in
    let v = pt.view in
    let a = v.acting in
    let l = Line.Migration Stage.Frozen p in
    let next = moved pt l pt.kernel in
    let n = line_next pt l (Says (Line.Migration Stage.Asked p) ∷ to_kernel MessageKind.Ask to ∷ []) w refl e in
    let phase : h.phases.of p ≡ Rests a = rests_here (h.phases.of p) a (sym (ap (knows (h.phases.of p) a) here) ∙ (h.phases.each p).known a) in
    let rested : (m : ℕ) → knows (Rests a) m (v.known m p) ≡ true = λ m. subst (λ (x : Phase). knows x m (v.known m p) ≡ true) phase ((h.phases.each p).known m) in
    let now : (m : ℕ) → next.view.known m p ≡ (if a == m then Frozen to else v.known m p) =
    λ m. ap (λ (x : View). x.known m p) at ∙ ap (λ (f : ℕ → Pid → Known). at_record f u.acting p (Frozen to) m p) known ∙ ap (λ (x : ℕ). at_record v.known x p (Frozen to) m p) acting ∙ at_acting v a m p (Frozen to) refl in
    let turned = learns_phases v next.view p (Moves MessageKind.Ask a to None) h.phases (none_only p) learns refl (ap not apart)
    (λ m. ap (knows (Moves MessageKind.Ask a to None) m) (now m) ∙ frozen_if a to m (a == m) (v.known m p) refl apart (rested m)) tt
    (quiet_left v next.view p (h.phases.of p) (Moves MessageKind.Ask a to None) refl (ap calls_in phase) (λ m s here_. kept_awaited (a == m) (Frozen to) (v.known m p) s (λ s e. cc) (sym (now m) ∙ here_))
    (λ j x z. absurd (let f : None ≡ Some j = sym (ap token_in phase) ∙ x in cc))) in
    let whole : WholeBut (Some p) next = record { state = there; fits = fits_as v next.view (pair_same v l refl) h.fits; phases = turned.phases } in
    let asked = Line.Migration Stage.Asked p in
    let k = line_next next asked (to_kernel MessageKind.Ask to ∷ []) n.rest refl n.more in
    let then_ : WholeBut (Some p) (moved next asked next.kernel) = record { state = by_line None next asked refl whole.state whole.state.stands (λ j. refl); fits = whole.fits; phases = turned.phases } in
    subst Whole n.point (subst Whole k.point (owns_whole (moved next asked next.kernel) p MessageKind.Ask a to to k.rest then_ turned.now (ap (λ (x : View). x.topic) at) (ap (λ (x : View). x.acting) at ∙ acting) refl k.more))

-- a directive has it move
pub frozen_row : (pt : Point) (i : MsgId) (is : List MsgId) (t : Told) (p : Pid) (to : ℕ) (w : Spelled) (h : Whole pt) → pt.view.topic ≡ NothingElse → is_between t.kind ≡ false → pt.view.inbox pt.view.acting ≡ i ∷ is
    → pt.view.told i ≡ Some t → is_kernels i ≡ true → pt.view.known pt.view.acting p ≡ Here → target_of (Some t) ≡ to → (pt.view.acting == to) ≡ false
    → spelled pt (leaves_for p to) ≡ Some w → Whole w.point
frozen_row pt i is t p to w h topic plain front told mine here target apart e =
    let v = pt.view in
    let l = Line.Migration Stage.Frozen p in
    let aim : target_of (option_and_then v.told (slice_get (v.inbox v.acting) 0)) ≡ to = ap (λ (is : List MsgId). target_of (option_and_then v.told (slice_get is 0))) front ∙ ap target_of told ∙ target in
    let at : view_after v l ≡ frozen_for (handled_first v) p to = ap (sets_off v p) topic ∙ ap (frozen_for (handled_first v) p) aim in
    let learns = first_learns pt l i is t p h.state refl front told (λ b. absurd (false≢true (sym plain ∙ b))) (λ z. frozen_off v p topic z) (λ m q off. ap (λ (x : View). x.known m q) at ∙ record_off v.known v.acting p (Frozen to) m q off) (λ q off. come_at v l q refl) in
    frozen_ends pt p to w h (goes_first pt l i is refl h.state front mine (λ z. frozen_off v p topic z)) learns here apart (handled_first v) at refl refl e

-- it was asked to move in this group
pub asked_row : (pt : Point) (p : Pid) (to : ℕ) (w : Spelled) → Whole pt → pt.view.topic ≡ Target to → pt.view.known pt.view.acting p ≡ Here → (pt.view.acting == to) ≡ false → spelled pt (leaves_for p to) ≡ Some w → Whole w.point
asked_row pt p to w h topic here apart e =
    let v = pt.view in
    let l = Line.Migration Stage.Frozen p in
    let at : view_after v l ≡ frozen_for v p to = ap (sets_off v p) topic in
    let same : (j : MsgId) → (view_after v l).told j ≡ v.told j = λ j. ap (λ (f : MsgId → Option Told). f j) (hushed v l refl).told in
    let learns : Learns v (view_after v l) p = record {
      calm = λ m q off. ap (λ (x : View). x.known m q) at ∙ record_off v.known v.acting p (Frozen to) m q off;
      come = λ q off. come_at v l q refl;
      fresh = λ j x k b. sym (same j) ∙ k;
      kept = λ j x k. same j ∙ k;
      back = λ j x k b z st. inl (subst (λ n. 1 ≤ n) (ap (times j) (asked_off v p to topic z)) st);
      on = λ j x q off k b ab z st. (z, subst (λ n. 1 ≤ n) (sym (ap (times j) (asked_off v p to topic z))) st);
    } in
    frozen_ends pt p to w h (frozen_state pt p to h.state topic) learns here apart v at refl refl e
