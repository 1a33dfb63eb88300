-- Heads, deliveries and ticks leave all requests to move a process under way.
use Rattle.dm_law_moves.proofs.Names.{◌≡◌, ℕ, suc, ◌+◌, ◌≤◌, Bool, true, false, List, [], ◌∷◌, length, refl, ◌∙◌, sym, subst, inl, inr, arith, if◌then◌else◌, Option, None, Some, cases_Bool, Pid, MsgId, id_eq, id_eq-is, Part, without_id}
use Rattle.dm_law_moves.proofs.Names.{Spot, times, standing, View, Told, not_true, without_counts, asks, ends, one_of-same, off_zero, nat_tests, ◌⊎◌, ◌==◌, ◌&&◌, not, ap, false≢true, MessageKind, Known, Here, Phase, Nowhere, Rests, Over}
use Rattle.dm_law_moves.proofs.Names.{Moves, knows, kind_comes, is_away, is_restart, is_early, is_between, IsIn, parts, InPhases, rests_here, is_moving, source_knows, pid_eq, Label, OneKernel, bind, pid_eq-is, pid_eq-same, Line, Of}
use Rattle.dm_law_moves.proofs.Names.{view_after, handled_first, Point, label_of, kernel_after, moved, after_line, Says, Spelled, spelled, at_record, Inbox, ids_at, is_put, at_record_at, at_record_off, first_off, line_next, touches, due}
use Rattle.dm_law_moves.proofs.Names.{front_gone, handled_spots, State, PairsFit, Sane, sane_line, Walks, seen_none, NothingElse, filter, ◌++◌, slice_get, at_machine, at_pair, Pair, taken_id, with_pair, Queue, Held, Untaken, untaken}
use Rattle.dm_law_moves.proofs.Names.{times-append, one_of, eq_is, eq_self, at_place, past_place, pair_keeps, IsNetLine, IsNet, early_off, acked_off, PacketsKeep, after_put, own_id, put_at, first_none, put_spot, put_there, put_told_off}
use Rattle.dm_law_moves.proofs.Names.{put_spots, is_calloff, is_waited_from, Due, sort_of, pulls_piece, brings_piece}
pub use Rattle.dm_law_always.proofs.Goes.Own.{destination_knows as knows_target}
pub use Rattle.dm_law_rule.proofs.Phases.Pieces.{not_false, and_false as and_off}
pub use Rattle.dm_law_rule.proofs.Phases.Answers.{about_same}
pub use Rattle.dm_law_always.proofs.Goes.Always.{stands_first as front_one}
pub use Rattle.dm_law_rule.proofs.Moves.Lists.{zero_cases}
use Rattle.dm_law_moves.proofs.Ends.Parts.{part_count, asks_for, Somewhere, Extends, Smooth, stands_as, stands_was, Still, AllQuiet, Settled, settled_same, parts_settle, one_if, zero_if, quiet_count, quiet_asks, kind_not, Plain}
use Rattle.dm_law_moves.proofs.Ends.Parts.{own_untold}
use Rattle.dm_law_moves.proofs.Ends.Parts.{smooth_trans, hushed_smooth, told_by, told_one, still_trans, packet_smooth, none_count, smooth_same, smooth_still, moves_none, smooth_about}
use Rattle.dm_law_moves.proofs.Stages.Spares.{restart_late}
use Rattle.dm_law_moves.proofs.Leading.{line_fits, Saying, net_says, net_lead}
use Rattle.dm_law_moves.proofs.Stages.Spares.{restart_goes, is_piece}

-- a message is taken: it comes from the stream to the inbox
abbrev one_taken : Pair → ℕ → Pair
one_taken p n = record p { taken = p.taken + 1; kept = filter (λ k. not (k == n)) p.kept }

abbrev taken_view : View → ℕ → ℕ → ℕ → View
taken_view v a b n = with_pair v a b (one_taken (v.pair a b) n)

none_taken : (p : Pair) (n : ℕ) → slice_get p.ids p.taken ≡ None → untaken (one_taken p n) ≡ untaken p
none_taken p n is =
    let k = past_place p.ids p.taken is in
    grind (arith, nat_tests)

inbox_back : (v : View) (a b n : ℕ) (i j : MsgId) (m : ℕ) → untaken (v.pair a b) ≡ i ∷ untaken (one_taken (v.pair a b) n) → 1 ≤ times j (at_machine v.inbox b (v.inbox b ++ i ∷ []) m) → Somewhere v j
inbox_back v a b n i j m front st = elim (cases_Bool (b == m)) [
  | inl same ↦
      let bm : b ≡ m = eq_is b m same in
      let now : times j (at_machine v.inbox b (v.inbox b ++ i ∷ []) m) ≡ times j (v.inbox b ++ i ∷ []) = ap (λ (c : Bool). times j (if c then v.inbox b ++ i ∷ [] else v.inbox m)) same in
      let sum = times-append j (v.inbox b) (i ∷ []) in
      elim (zero_cases (times j (v.inbox b))) [
        | inl none ↦
            let was : times j (untaken (v.pair a b)) ≡ times j (i ∷ untaken (one_taken (v.pair a b) n)) = ap (times j) front in
            (Untaken a b, omega (arith, st, now, sum, none, was))
        | inr some ↦ (Inbox b, some)
      ]
  | inr off ↦ (Inbox m, subst (λ k. 1 ≤ k) (ap (λ (c : Bool). times j (if c then v.inbox b ++ i ∷ [] else v.inbox m)) off) st)
]

abbrev came_view : View → ℕ → ℕ → ℕ → MsgId → View
came_view v a b n i = record (taken_view v a b n) { inbox = at_machine v.inbox b (v.inbox b ++ i ∷ []) }

taken_back : (v : View) (a b n : ℕ) (i j : MsgId) → untaken (v.pair a b) ≡ i ∷ untaken (one_taken (v.pair a b) n) → (z : Spot) → 1 ≤ standing (came_view v a b n i) j z → Somewhere v j
taken_back v a b n i j front (Queue m p) st = (Queue m p, st)
taken_back v a b n i j front (Held m p) st = (Held m p, st)
taken_back v a b n i j front (Inbox m) st = inbox_back v a b n i j m front st
taken_back v a b n i j front (Untaken c d) st = (Untaken c d, (let e_ : 1 ≤ times j (untaken (v.pair c d)) = grind (arith, nat_tests, parts, eq_is) in e_))

in_inbox : (v : View) (a b n : ℕ) (i j : MsgId) (m : ℕ) → (b == m) ≡ true → 1 ≤ times j (v.inbox b) + one_of j i → 1 ≤ standing (came_view v a b n i) j (Inbox m)
in_inbox v a b n i j m same st = grind (arith, nat_tests, times-append)

taken_on : (v : View) (a b n : ℕ) (i j : MsgId) → untaken (v.pair a b) ≡ i ∷ untaken (one_taken (v.pair a b) n) → (z : Spot) → 1 ≤ standing v j z → Somewhere (came_view v a b n i) j
taken_on v a b n i j front (Queue m p) st = (Queue m p, st)
taken_on v a b n i j front (Held m p) st = (Held m p, st)
taken_on v a b n i j front (Inbox m) st = elim (cases_Bool (b == m)) [
  | inl same ↦
      let here : 1 ≤ times j (v.inbox b) = subst (λ (k : ℕ). 1 ≤ times j (v.inbox k)) (sym (eq_is b m same)) st in
      (Inbox m, in_inbox v a b n i j m same (omega (arith, here)))
  | inr off ↦ (Inbox m, subst (λ k. 1 ≤ k) (sym (ap (λ (c : Bool). times j (if c then v.inbox b ++ i ∷ [] else v.inbox m)) off)) st)
]
taken_on v a b n i j front (Untaken c d) st = elim (cases_Bool ((a == c) && (b == d))) [
  | inl same ↦
      let both = parts (a == c) (b == d) same in
      let here : 1 ≤ times j (untaken (v.pair a b)) = subst (λ (k : ℕ). 1 ≤ times j (untaken (v.pair k b))) (sym (eq_is a c both.0)) (subst (λ (k : ℕ). 1 ≤ times j (untaken (v.pair c k))) (sym (eq_is b d both.1)) st) in
      let was : times j (untaken (v.pair a b)) ≡ times j (i ∷ untaken (one_taken (v.pair a b) n)) = ap (times j) front in
      let now : times j (untaken (at_pair v.pair a b (one_taken (v.pair a b) n) c d)) ≡ times j (untaken (one_taken (v.pair a b) n)) = ap (λ (t : Bool). times j (untaken (if t then one_taken (v.pair a b) n else v.pair c d))) same in
      elim (zero_cases (one_of j i)) [
        | inl none ↦ (Untaken c d, omega (arith, here, was, now, none))
        | inr some ↦ (Inbox b, in_inbox v a b n i j b (eq_self b) (omega (arith, some)))
      ]
  | inr off ↦ (Untaken c d, subst (λ k. 1 ≤ k) (sym (ap (λ (t : Bool). times j (untaken (if t then one_taken (v.pair a b) n else v.pair c d))) off)) st)
]

taken_by : (picks : Told → Bool) (v : View) (a b n : ℕ) (o : Option MsgId) → slice_get (v.pair a b).ids (v.pair a b).taken ≡ o → Smooth picks v (taken_id (taken_view v a b n) b o)
taken_by picks v a b n None is = smooth_still picks v (taken_view v a b n) (λ i. refl) (λ i z. ap (times i) (let e_ : ids_at (taken_view v a b n) z ≡ ids_at v z = grind (arith, nat_tests, pair_keeps, none_taken (v.pair a b) n is) in e_))
taken_by picks v a b n (Some i) is =
    let front : untaken (v.pair a b) ≡ i ∷ untaken (one_taken (v.pair a b) n) = grind (arith, nat_tests, at_place) in
    record { kept = λ j t e. e; fresh = λ j t e c. e; on = λ j t e c s. taken_on v a b n i j front s.0 s.1; back = λ j t e c s. taken_back v a b n i j front s.0 s.1 }

pub net_smooth : (picks : Told → Bool) (v : View) (l : Line) → IsNetLine l → Smooth picks v (view_after v l)
net_smooth picks v (Line.Taken a b n) h = taken_by picks v a b n (slice_get (v.pair a b).ids (v.pair a b).taken) refl
net_smooth picks v (Line.Old a b n) h = smooth_same picks v
net_smooth picks v (Line.Early a b n) h = moves_none picks v (Line.Early a b n) refl (λ z. early_off v a b n z)
net_smooth picks v (Line.Acked a b n) h = moves_none picks v (Line.Acked a b n) refl (λ z. acked_off v a b n z)
net_smooth picks v Line.Nothing h = smooth_same picks v
net_smooth picks v (Line.Resent m n) h = smooth_same picks v
net_smooth picks v _ h = absurd h

-- what a group keeps
pub record Level (p : Pid) (v w : View) : Type 0 where
  pub smooth : Smooth (asks_for p) v w
  pub still : Still p v w

level_packet : (p : Pid) (v : View) → PacketsKeep (λ q. Level p v q.view)
level_packet p v q a b k l h = record { smooth = smooth_trans (asks_for p) v q.view (view_after q.view (Line.Packet a b k l)) h.smooth (packet_smooth (asks_for p) q.view a b k l); still = h.still }

pub net_level : (p : Pid) (ps : List Part) (pt : Point) (w : Spelled) → IsNet ps → spelled pt ps ≡ Some w → Level p pt.view w.point.view
net_level p ps pt w net is = net_lead (λ q. Level p pt.view q.view) (level_packet p pt.view)
    (λ q s l line h. record { smooth = smooth_about (asks_for p) pt.view (view_after q.view l) (moved q l s).view.topic (smooth_trans (asks_for p) pt.view q.view (view_after q.view l) h.smooth (net_smooth (asks_for p) q.view l line)); still = still_trans p pt.view q.view (view_after q.view l) h.still (grind (arith, nat_tests)) })
    ps pt w net is (record { smooth = smooth_same (asks_for p) pt.view; still = λ m. refl })

-- and their lines are no directives and end no request
abbrev pub Neither : (f : Line → Bool) → Type 0
Neither f = (l : Line) → IsNetLine l → f l ≡ false

abbrev NetPart : Part → Type 0
NetPart = Saying IsNetLine

pub net_none : (f : Line → Bool) → Neither f → (ps : List Part) → IsNet ps → part_count f ps ≡ 0
net_none f n ps h = none_count f NetPart n ps (net_says IsNetLine (λ l net. net) ps h)

-- The messages that are picked and stand somewhere, listed: requests to move a process, say.

-- one of them
pub record IsOpen (picks : Told → Bool) (v : View) (i : MsgId) : Type 0 where
  pub told : Told
  pub is : v.told i ≡ Some told
  pub picked : picks told ≡ true
  pub stands : Somewhere v i

-- each that is listed is one, and each is listed once
pub record Opens (picks : Told → Bool) (v : View) (ids : List MsgId) : Type 0 where
  pub each : (i : MsgId) → 1 ≤ times i ids → IsOpen picks v i
  pub all : (i : MsgId) → IsOpen picks v i → times i ids ≡ 1

pub smooth_opens : (picks : Told → Bool) (v w : View) (ids : List MsgId) → Smooth picks v w → Opens picks v ids → Opens picks w ids
smooth_opens picks v w ids c h =
    -- none comes and none goes
    let smooth_on : (picks : Told → Bool) (v w : View) (i : MsgId) → Smooth picks v w → IsOpen picks v i → IsOpen picks w i = λ picks v w i c h. record { told = h.told; is = c.kept i h.told h.is; picked = h.picked; stands = c.on i h.told h.is h.picked h.stands } in
    let smooth_back : (picks : Told → Bool) (v w : View) (i : MsgId) → Smooth picks v w → IsOpen picks w i → IsOpen picks v i = λ picks v w i c h.
    let was = c.fresh i h.told h.is h.picked in
    record { told = h.told; is = was; picked = h.picked; stands = c.back i h.told was h.picked h.stands } in
    record { each = λ i least. smooth_on picks v w i c (h.each i least); all = λ i is. h.all i (smooth_back picks v w i c is) }

-- one goes
pub record Closes (picks : Told → Bool) (v w : View) (i : MsgId) : Type 0 where
  pub kept : Extends v.told w.told
  pub fresh : (j : MsgId) (t : Told) → w.told j ≡ Some t → picks t ≡ true → v.told j ≡ Some t
  pub on : (j : MsgId) → id_eq i j ≡ false → Somewhere v j → Somewhere w j
  pub back : (j : MsgId) → id_eq i j ≡ false → Somewhere w j → Somewhere v j
  pub gone : Somewhere w i → ⊥

shorter_by : (i j : MsgId) (js : List MsgId) (c : Bool) → id_eq i j ≡ c → 1 ≤ times i (j ∷ js) → (1 ≤ times i js → length js ≡ suc (length (without_id i js))) → length (j ∷ js) ≡ suc (length (if c then js else j ∷ without_id i js))
shorter_by i j js c is least h = grind (arith, nat_tests)

pub shorter : (i : MsgId) (js : List MsgId) → 1 ≤ times i js → length js ≡ suc (length (without_id i js))
shorter i [] least = absurd (omega arith)
shorter i (j ∷ js) least = shorter_by i j js (id_eq i j) refl least (λ x. shorter i js x)

closes_back : (picks : Told → Bool) (v w : View) (i j : MsgId) → Closes picks v w i → IsOpen picks w j → IsOpen picks v j × (id_eq i j ≡ false)
closes_back picks v w i j c h =
    let apart : id_eq i j ≡ false = not_true (id_eq i j) (λ e. c.gone (subst (λ (x : MsgId). Somewhere w x) (sym (id_eq-is i j e)) h.stands)) in
    (record { told = h.told; is = c.fresh j h.told h.is h.picked; picked = h.picked; stands = c.back j apart h.stands }, apart)

pub record Shorter (picks : Told → Bool) (w : View) (ids : List MsgId) : Type 0 where
  pub left : List MsgId
  pub opens : Opens picks w left
  pub less : length ids ≡ suc (length left)

pub close_opens : (picks : Told → Bool) (v w : View) (ids : List MsgId) (i : MsgId) → IsOpen picks v i → Closes picks v w i → Opens picks v ids → Shorter picks w ids
close_opens picks v w ids i is c h =
    let one : times i ids ≡ 1 = h.all i is in
    let least : 1 ≤ times i ids = omega (arith, one) in
    let left = without_id i ids in
    record {
      left = left;
      opens = record {
        each = λ j some.
            let sum = without_counts j i ids least in
            let was : IsOpen picks v j = h.each j (omega (arith, some, sum)) in
            let apart : id_eq i j ≡ false = not_true (id_eq i j) (λ e.
            let ij : i ≡ j = id_eq-is i j e in
            let there : 1 ≤ times i left = subst (λ (x : MsgId). 1 ≤ times x left) (sym ij) some in
            let count = without_counts i i ids least in
            let self = one_of-same i in
            absurd (omega (arith, one, there, count, self))) in
            record { told = was.told; is = c.kept j was.told was.is; picked = was.picked; stands = c.on j apart was.stands };
        all = λ j now.
            let b = closes_back picks v w i j c now in
            let sum = without_counts j i ids least in
            let was : times j ids ≡ 1 = h.all j b.0 in
            let none = off_zero i j b.1 in
            omega (arith, sum, was, none);
      };
      less = shorter i ids least;
    }

-- one comes
pub record Adds (picks : Told → Bool) (v w : View) (i : MsgId) : Type 0 where
  pub untold : v.told i ≡ None
  pub now : IsOpen picks w i
  pub told : (j : MsgId) → id_eq i j ≡ false → w.told j ≡ v.told j
  pub spots : (j : MsgId) → id_eq i j ≡ false → (z : Spot) → standing w j z ≡ standing v j z

adds_on : (picks : Told → Bool) (v w : View) (i j : MsgId) → Adds picks v w i → id_eq i j ≡ false → IsOpen picks v j → IsOpen picks w j
adds_on picks v w i j c apart h = record { told = h.told; is = c.told j apart ∙ h.is; picked = h.picked; stands = stands_as v w j (c.spots j apart) h.stands }

pub add_opens : (picks : Told → Bool) (v w : View) (ids : List MsgId) (i : MsgId) → Adds picks v w i → Opens picks v ids → Opens picks w (i ∷ ids)
add_opens picks v w ids i c h = record {
  each = λ j some. grind (arith, nat_tests, id_eq-is, off_zero, adds_on);
  all = λ j now. elim (cases_Bool (id_eq i j)) [
    | inl same ↦
        let self = one_of-same i in
        let zero_ : times i ids ≡ 0 = grind (arith, nat_tests, zero_cases, c.untold) in
        subst (λ (x : MsgId). times x (i ∷ ids) ≡ 1) (id_eq-is i j same) (omega (arith, self, zero_))
    | inr apart ↦
        let none = off_zero i j apart in
        let was : times j ids ≡ 1 = h.all j (record { told = now.told; is = sym (c.told j apart) ∙ now.is; picked = now.picked; stands = stands_was v w j (c.spots j apart) now.stands }) in
        omega (arith, none, was)
  ];
}

-- a kernel puts one
pub own_adds : (picks : Told → Bool) (pt : Point) (b : ℕ) (k : MessageKind) (q : Pid) → Sane pt → PairsFit pt.view → picks (record { kind = k; receiver = q; about = pt.view.topic }) ≡ true → Adds picks pt.view (after_put pt.view pt.view.acting b (own_id pt.view) k q) (own_id pt.view)
own_adds picks pt b k q sane fits picked =
    let v = pt.view in
    let i = own_id v in
    let u : Told = record { kind = k; receiver = q; about = v.topic } in
    let untold = own_untold pt sane in
    record {
      untold = untold;
      now = record { told = u; is = put_at v v.acting b i k q ∙ first_none (v.told i) u untold; picked = picked; stands = (put_spot v.acting b, put_there v v.acting b i k q fits) };
      told = λ j apart. put_told_off v v.acting b i j k q apart;
      spots = λ j apart z. put_spots v v.acting b i j k q fits apart z;
    }

-- what a group does: so many directives and ends, so many requests under way, and whether the process moves
pub record Balance (p : Pid) (w : View) (ids : List MsgId) (asked before behind : ℕ) (parts : List Part) : Type 0 where
  pub left : List MsgId
  pub opens : Opens (asks_for p) w left
  pub quiet : part_count (asks p) parts ≡ 0
  pub sum : (f : MsgId → Option Told) → Extends w.told f → asked + (length ids + before) ≡ part_count (ends f p) parts + (length left + behind)

pub level_balance : (p : Pid) (v w : View) (ids : List MsgId) (before behind : ℕ) (parts : List Part) → Smooth (asks_for p) v w → Opens (asks_for p) v ids → before ≡ behind → part_count (asks p) parts ≡ 0 → ((f : MsgId → Option Told) → Extends w.told f → part_count (ends f p) parts ≡ 0) → Balance p w ids 0 before behind parts
level_balance p v w ids before behind parts smooth opens same quiet none =
    record { left = ids; opens = smooth_opens (asks_for p) v w ids smooth opens; quiet = quiet; sum = λ f ext. let z = none f ext in omega (arith, z, same) }

-- A process moves where some machine waits for it to leave or to come.

abbrev pub moving_in : Phase → ℕ
moving_in (Moves k s d id) = 1
moving_in _ = 0

pub target_waits : (k : MessageKind) (s : ℕ) (x : Known) → is_early k ≡ false → is_calloff k ≡ false → kind_comes k s x ≡ true → is_moving x ≡ true
target_waits k s x e f h = grind (arith, nat_tests)

some_waits : (k : MessageKind) (s d : ℕ) (o : Option MsgId) (f : ℕ → Known) (c : Bool) → is_restart k ≡ c → (is_between k && not (s == d)) ≡ true → ((m : ℕ) → knows (Moves k s d o) m (f m) ≡ true) → (m : ℕ) × (is_moving (f m) ≡ true)
some_waits k s d o f true e apart h = (d, target_waits k s (f d) (restart_late k e) (restart_goes k e) (knows_target k s d o (f d) (not_false (s == d) (parts (is_between k) (not (s == d)) apart).1) (h d)))
some_waits k s d o f false e apart h = (s, (let e_ : is_moving (f s) ≡ true = grind (arith, nat_tests, (source_knows k s d o (f s) (h s))) in e_))

pub away_rests : (x : Known) → is_away x ≡ true → is_moving x ≡ false
away_rests x e = grind (arith, nat_tests)

-- a phase, and who waits
pub record Waiting (v : View) (p : Pid) (n : ℕ) : Type 0 where
  pub one : n ≡ 1
  pub machine : ℕ
  pub waits : is_moving (v.known machine p) ≡ true

pub record Resting (v : View) (p : Pid) (n : ℕ) : Type 0 where
  pub none : n ≡ 0
  pub rests : (m : ℕ) → is_moving (v.known m p) ≡ false

pub waits_or : (v : View) (p : Pid) (x : Phase) → IsIn v p x → Waiting v p (moving_in x) ⊎ Resting v p (moving_in x)
waits_or v p Nowhere h = inr (record { none = refl; rests = λ m. (let e_ : is_moving (v.known m p) ≡ false = grind (arith, nat_tests, (h.known m)) in e_) })
waits_or v p (Rests at) h = inr (record { none = refl; rests = λ m. (let e_ : is_moving (v.known m p) ≡ false = grind (arith, nat_tests, away_rests, h.known m) in e_) })
waits_or v p (Over at) h = inr (record { none = refl; rests = λ m. (let e_ : is_moving (v.known m p) ≡ false = grind (arith, nat_tests, away_rests, h.known m) in e_) })
waits_or v p (Moves k s d o) h =
    let (m, waits) = some_waits k s d o (λ n. v.known n p) (is_restart k) refl h.apart h.known in
    inl (record { one = refl; machine = m; waits = waits })

-- one machine that waits says that the process moves
pub waits_moves : (v : View) (h : InPhases v) (p : Pid) (m : ℕ) → is_moving (v.known m p) ≡ true → moving_in (h.of p) ≡ 1
waits_moves v h p m e = grind (arith, nat_tests, waits_or)

pub here_stays : (v : View) (h : InPhases v) (p : Pid) (m : ℕ) → v.known m p ≡ Here → moving_in (h.of p) ≡ 0
here_stays v h p m e = ap moving_in (rests_here (h.of p) m (sym (ap (knows (h.of p) m) e) ∙ (h.each p).known m))

pub still_moves : (p : Pid) (v w : View) (h : InPhases v) (g : InPhases w) → Still p v w → moving_in (h.of p) ≡ moving_in (g.of p)
still_moves p v w h g still = elim (waits_or v p (h.of p) (h.each p)) [
  | inl a ↦ a.one ∙ sym (waits_moves w g p a.machine (still a.machine ∙ a.waits))
  | inr a ↦ elim (waits_or w p (g.of p) (g.each p)) [
    | inl b ↦ absurd (false≢true (sym (a.rests b.machine) ∙ sym (still b.machine) ∙ b.waits))
    | inr b ↦ a.none ∙ sym b.none
  ]
]

-- What a turn does with a kernel's own message: what comes of it, line by line.

-- behind the head of a turn: the message at the front, and all that stands there
pub record Turn (pt : Point) (i : MsgId) (is : List MsgId) (t : Told) : Type 0 where
  pub front : pt.view.inbox pt.view.acting ≡ i ∷ is
  pub told : pt.view.told i ≡ Some t
  pub state : State None pt
  pub sane : Sane pt
  pub fits : PairsFit pt.view
  pub phases : InPhases pt.view
  pub topic : pt.view.topic ≡ NothingElse

-- what comes of the turn
abbrev pub Comes : Pid → (pt : Point) → InPhases pt.view → List Part → Spelled → Type 0
Comes p pt h parts w = (g : InPhases w.point.view) (ids : List MsgId) → Opens (asks_for p) pt.view ids → Balance p w.point.view ids 0 (moving_in (h.of p)) (moving_in (g.of p)) parts

pub plain_one : (p : Pid) (v : View) (i : MsgId) (t : Told) → v.told i ≡ Some t → asks_for p t ≡ false → Plain (asks_for p) v i
plain_one p v i t told e u is = subst (λ (x : Told). asks_for p x ≡ false) (told_one (v.told i) t u told is) e

pub between_plain : (p : Pid) (v : View) (i : MsgId) (t : Told) → v.told i ≡ Some t → is_between t.kind ≡ true → Plain (asks_for p) v i
between_plain p v i t told b = plain_one p v i t told (kind_not p t (grind (arith, nat_tests)))

pub stands_front : (pt : Point) (i : MsgId) (is : List MsgId) (t : Told) → Turn pt i is t → Somewhere pt.view i
stands_front pt i is t h = (Inbox pt.view.acting, front_one pt.view pt.view.acting i is h.front)

-- the message at the front goes
pub first_spots : (v w : View) (i : MsgId) (is : List MsgId) → v.inbox v.acting ≡ i ∷ is → ((z : Spot) → ids_at w z ≡ ids_at (handled_first v) z) → (j : MsgId) → id_eq i j ≡ false → (z : Spot) → standing w j z ≡ standing v j z
first_spots v w i is front off j apart z = ap (times j) (off z ∙ first_off v i is front z) ∙ handled_spots v i j apart z

pub first_smooth : (picks : Told → Bool) (v : View) (l : Line) (i : MsgId) (is : List MsgId) → v.inbox v.acting ≡ i ∷ is → Plain picks v i → is_put l ≡ false → ((z : Spot) → ids_at (view_after v l) z ≡ ids_at (handled_first v) z) → Smooth picks v (view_after v l)
first_smooth picks v l i is front plain quiet off = hushed_smooth picks v l i quiet plain (first_spots v (view_after v l) i is front off)

pub first_closes : (picks : Told → Bool) (pt : Point) (l : Line) (i : MsgId) (is : List MsgId) (t : Told) → Turn pt i is t → is_put l ≡ false → ((z : Spot) → ids_at (view_after pt.view l) z ≡ ids_at (handled_first pt.view) z) → Closes picks pt.view (view_after pt.view l) i
first_closes picks pt l i is t h quiet off = grind (arith, nat_tests, told_by, first_spots, stands_as, stands_was, front_gone)

-- a line that is no step, and quiet parts behind it
pub line_then : (p : Pid) (pt : Point) (l : Line) (ps : List Part) (w : Spelled) → label_of l ≡ None → is_put l ≡ false → touches l ≡ false → Sane pt → PairsFit pt.view → AllQuiet p (view_after pt.view l) ps → Walks (moved pt l pt.kernel) ps → spelled pt (Says l ∷ ps) ≡ Some w
    → Settled p (view_after pt.view l) w.point
line_then p pt l ps w none quiet calm sane fits q walks e =
    let n = line_next pt l ps w none e in
    let next = moved pt l pt.kernel in
    let leads : after_line pt l ≡ Some next = ap (λ (o : Option Label). bind (kernel_after pt.kernel o) (λ (s : OneKernel). Some (moved pt l s))) none in
    let same : next.view ≡ view_after pt.view l = seen_none pt.kernel pt.view l none in
    let there = settled_same p next (sane_line pt next l quiet leads sane) (line_fits pt pt.kernel l calm fits) in
    subst (λ (v : View). Settled p v w.point) same (subst (λ (x : Point). Settled p next.view x) n.point (parts_settle p ps next.view next n.rest (subst (λ (v : View). AllQuiet p v ps) (sym same) q) walks there n.more))

-- what is no piece is the one message of its process
pub whole_due : (pt : Point) (i : MsgId) (is : List MsgId) (t : Told) (h : InPhases pt.view) (q : Pid) → pt.view.inbox pt.view.acting ≡ i ∷ is → pt.view.told i ≡ Some t → is_between t.kind ≡ true → t.about ≡ Of q → is_piece t.kind ≡ false → Due pt i t h
whole_due pt i is t h q front told between about none =
    let pulls : pulls_piece (sort_of t.kind) ≡ false = grind (arith, nat_tests) in
    let brings : brings_piece (sort_of t.kind) ≡ false = grind (arith, nat_tests) in
    due pt i is t h q front told between about pulls (ap (λ (c : Bool). c && not (is_waited_from i.from.home (pt.view.known pt.view.acting q))) brings)

pub due_moves : (p q : Pid) (pt : Point) (i : MsgId) (is : List MsgId) (t : Told) (h : Turn pt i is t) → is_between t.kind ≡ true → is_piece t.kind ≡ false → t.about ≡ Of q → pid_eq p q ≡ true → moving_in (h.phases.of p) ≡ 1
due_moves p q pt i is t h b none about same =
    let u = whole_due pt i is t h.phases q h.front h.told b about none in
    grind (arith, nat_tests, about_same, pid_eq-is)

pub pid_swap : (p q : Pid) → pid_eq p q ≡ false → pid_eq q p ≡ false
pid_swap p q off = not_true (pid_eq q p) (λ e. let is : q ≡ p = pid_eq-is q p e in false≢true (sym off ∙ ap (pid_eq p) is ∙ pid_eq-same p))

-- one machine knows something else of another process
pub other_still : (p q : Pid) (f : ℕ → Pid → Known) (a : ℕ) (x : Known) → pid_eq p q ≡ false → (m : ℕ) → is_moving (at_record f a q x m p) ≡ is_moving (f m p)
other_still p q f a x off m = ap is_moving (at_record_off f a m q p x (and_off (a == m) (pid_eq q p) (pid_swap p q off)))

-- and of this one
pub set_here : (p q : Pid) (f : ℕ → Pid → Known) (a : ℕ) (x : Known) → pid_eq p q ≡ true → at_record f a q x a p ≡ x
set_here p q f a x same = ap (at_record f a q x a) (pid_eq-is p q same) ∙ at_record_at f a q x

-- a line that ends no request, and quiet parts
pub level_row : (p : Pid) (pt : Point) (h : InPhases pt.view) (l : Line) (ps : List Part) (w : Spelled) → Smooth (asks_for p) pt.view (view_after pt.view l) → AllQuiet p (view_after pt.view l) ps → Settled p (view_after pt.view l) w.point
    → ((f : MsgId → Option Told) → ends f p l ≡ false) → asks p l ≡ false → ((g : InPhases w.point.view) → moving_in (h.of p) ≡ moving_in (g.of p)) → Comes p pt h (Says l ∷ ps) w
level_row p pt h l ps w first quiet rest none plain same g ids opens =
    let mid = view_after pt.view l in
    let u = w.point.view in
    level_balance p pt.view u ids (moving_in (h.of p)) (moving_in (g.of p)) (Says l ∷ ps) (smooth_trans (asks_for p) pt.view mid u first rest.smooth) opens (same g)
    (let a = zero_if (asks p l) plain in let b = quiet_asks p mid ps quiet in omega (arith, a, b))
    (λ f ext. let a = zero_if (ends f p l) (none f) in let b = quiet_count p mid ps f quiet (λ i t e. ext i t (rest.smooth.kept i t e)) in omega (arith, a, b))

pub level_still : (p : Pid) (pt : Point) (h : InPhases pt.view) (l : Line) (w : Spelled) → Still p pt.view (view_after pt.view l) → Settled p (view_after pt.view l) w.point → (g : InPhases w.point.view) → moving_in (h.of p) ≡ moving_in (g.of p)
level_still p pt h l w still rest g = still_moves p pt.view w.point.view h g (still_trans p pt.view (view_after pt.view l) w.point.view still rest.still)

-- quiet parts
pub quiet_row : (p : Pid) (pt : Point) (h : InPhases pt.view) (ps : List Part) (w : Spelled) → Sane pt → PairsFit pt.view → AllQuiet p pt.view ps → Walks pt ps → spelled pt ps ≡ Some w → Comes p pt h ps w
quiet_row p pt h ps w sane fits quiet walks e g ids opens =
    let s = parts_settle p ps pt.view pt w quiet walks (settled_same p pt sane fits) e in
    let u = w.point.view in
    level_balance p pt.view u ids (moving_in (h.of p)) (moving_in (g.of p)) ps s.smooth opens (still_moves p pt.view u h g s.still) (quiet_asks p pt.view ps quiet)
    (λ f ext. quiet_count p pt.view ps f quiet (λ i t e. ext i t (s.smooth.kept i t e)))

-- a line at which a request ends, and no other part
pub end_row : (p : Pid) (pt : Point) (l : Line) (i : MsgId) (is : List MsgId) (t : Told) (w : Spelled) (h : Turn pt i is t) → asks_for p t ≡ true → label_of l ≡ None → is_put l ≡ false → touches l ≡ false
    → ((z : Spot) → ids_at (view_after pt.view l) z ≡ ids_at (handled_first pt.view) z) → Still p pt.view (view_after pt.view l) → ((f : MsgId → Option Told) → f i ≡ Some t → ends f p l ≡ true) → asks p l ≡ false → spelled pt (Says l ∷ []) ≡ Some w → Comes p pt h.phases (Says l ∷ []) w
end_row p pt l i is t w h mine none quiet calm off still ended plain e g ids opens =
    let rest = line_then p pt l [] w none quiet calm h.sane h.fits tt tt e in
    let is_open : IsOpen (asks_for p) pt.view i = record { told = t; is = h.told; picked = mine; stands = stands_front pt i is t h } in
    let closes = first_closes (asks_for p) pt l i is t h quiet off in
    let s = close_opens (asks_for p) pt.view (view_after pt.view l) ids i is_open closes opens in
    let same = level_still p pt h.phases l w still rest g in
    record {
      left = s.left;
      opens = smooth_opens (asks_for p) (view_after pt.view l) w.point.view s.left rest.smooth s.opens;
      quiet = (let a = zero_if (asks p l) plain in omega (arith, a));
      sum = λ f ext.
          let told : f i ≡ Some t = ext i t (rest.smooth.kept i t (closes.kept i t h.told)) in
          let one : one_if (ends f p) l ≡ 1 = ap (λ (c : Bool). if c then 1 else 0) (ended f told) in
          let less = s.less in
          omega (arith, one, less, same);
    }
