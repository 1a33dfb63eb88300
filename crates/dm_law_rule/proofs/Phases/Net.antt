-- Heads, deliveries, ticks and the directive to migrate leave all processes in their phases.
use Rattle.dm_law_rule.proofs.Names.{◌≡◌, ℕ, suc, ◌+◌, ◌≤◌, ◌==◌, ◌&&◌, Bool, true, List, [], ◌∷◌, ◌++◌, drop, length, refl, ap, ◌∙◌, sym, subst, inl, inr, arith, if◌then◌else◌, slice_get, Option, None, Some, cases_Bool, Pid, MsgId, Step, Line}
use Rattle.dm_law_rule.proofs.Names.{at_machine, at_pair, View, Pair, view_after, after_head, taken_id, with_pair, Point, moved, seen, Part, Says, Transmits, Spelled, packet_line, spelled, migrates, Spot, Queue, Held, Inbox, Untaken, times}
use Rattle.dm_law_rule.proofs.Names.{untaken, ids_at, standing, and_parts, eqb-true}
use Rattle.dm_law_rule.proofs.Standing.{times-append}
use Rattle.dm_law_rule.proofs.Once.{one_of}
use Rattle.dm_law_rule.proofs.Lines.{at_place, past_place, pair_keeps, eq_self, taken_pair}
use Rattle.dm_law_rule.proofs.States.{says_next, transmits_next, said}
use Rattle.dm_law_rule.proofs.Groups.{IsNetLine, IsNet, early_off, acked_off, turn_off, tick_off, deliver_off, migrate_off, call_off}
use Rattle.dm_law_rule.proofs.Phases.Calm.{Came, Calm, calm_about, calm_same, calm_trans, calm_still}
use Rattle.dm_law_rule.proofs.Phases.Lines.{packet_calm}
use Rattle.dm_law_rule.proofs.Phases.Quiet.{AllQuiet, moves_none}
use Rattle.dm_law_rule.proofs.Requests.{by_migrates}
use Rattle.dm_law_rule.proofs.Bags.{cases_zero}

pub head_calm : (v : View) (s : Step) → Calm v (after_head v s)
head_calm v (Step.Turn m) = calm_still v (after_head v (Step.Turn m)) (λ n q. refl) (λ q. refl) (λ i. refl) (λ i z. ap (times i) (turn_off v m z))
head_calm v (Step.Tick m) = calm_still v (after_head v (Step.Tick m)) (λ n q. refl) (λ q. refl) (λ i. refl) (λ i z. ap (times i) (tick_off v m z))
head_calm v (Step.Deliver a b k) = calm_still v (after_head v (Step.Deliver a b k)) (λ n q. refl) (λ q. refl) (λ i. refl) (λ i z. ap (times i) (deliver_off v a b k z))
head_calm v (Step.Migrate p m) = calm_still v (after_head v (Step.Migrate p m)) (λ n q. refl) (λ q. refl) (λ i. refl) (λ i z. ap (times i) (migrate_off v p m z))
head_calm v (Step.CallOff p m) = calm_still v (after_head v (Step.CallOff p m)) (λ n q. refl) (λ q. refl) (λ i. refl) (λ i z. ap (times i) (call_off v p m z))

abbrev pub taken_view : View → ℕ → ℕ → ℕ → View
taken_view v a b n = with_pair v a b (taken_pair (v.pair a b) n)

pub none_taken : (p : Pair) (n : ℕ) → slice_get p.ids p.taken ≡ None → untaken (taken_pair p n) ≡ untaken p
none_taken p n is = let k = past_place p.ids p.taken is in let next : p.taken + 1 ≡ suc p.taken = omega arith in ap (λ m. drop m p.ids) next ∙ k.1 ∙ sym k.0

pub taken_front : (p : Pair) (n : ℕ) (i : MsgId) → slice_get p.ids p.taken ≡ Some i → untaken p ≡ i ∷ untaken (taken_pair p n)
taken_front p n i is = let next : suc p.taken ≡ p.taken + 1 = omega arith in at_place p.ids p.taken i is ∙ ap (λ m. i ∷ drop m p.ids) next

-- the stream has one less, and the inbox one more
pub stream_back : (v : View) (a b n : ℕ) (i j : MsgId) (c d : ℕ) → untaken (v.pair a b) ≡ i ∷ untaken (taken_pair (v.pair a b) n) → 1 ≤ times j (untaken (at_pair v.pair a b (taken_pair (v.pair a b) n) c d)) → 1 ≤ times j (untaken (v.pair c d))
stream_back v a b n i j c d front st = elim (cases_Bool ((a == c) && (b == d))) [
  | inl same ↦
      let both = and_parts (a == c) (b == d) same in
      let now : times j (untaken (at_pair v.pair a b (taken_pair (v.pair a b) n) c d)) ≡ times j (untaken (taken_pair (v.pair a b) n)) = ap (λ (t : Bool). times j (untaken (if t then taken_pair (v.pair a b) n else v.pair c d))) same in
      subst (λ (k : ℕ). 1 ≤ times j (untaken (v.pair c k))) (eqb-true b d both.1) (subst (λ (k : ℕ). 1 ≤ times j (untaken (v.pair k b))) (eqb-true a c both.0) (omega (arith, st, now, ap (times j) front)))
  | inr off ↦ subst (λ k. 1 ≤ k) (ap (λ (t : Bool). times j (untaken (if t then taken_pair (v.pair a b) n else v.pair c d))) off) st
]

inbox_back : (v : View) (a b n : ℕ) (i j : MsgId) (m : ℕ) → untaken (v.pair a b) ≡ i ∷ untaken (taken_pair (v.pair a b) n) → 1 ≤ times j (at_machine v.inbox b (v.inbox b ++ i ∷ []) m) → Came v j (Inbox m)
inbox_back v a b n i j m front st = elim (cases_Bool (b == m)) [
  | inl same ↦
      let bm : b ≡ m = eqb-true b m same in
      elim (cases_zero (times j (v.inbox b))) [
        | inl none ↦
            inr (Untaken a b, omega (arith, st, ap (λ (c : Bool). times j (if c then v.inbox b ++ i ∷ [] else v.inbox m)) same, times-append j (v.inbox b) (i ∷ []), none, ap (times j) front), ap (λ (k : ℕ). Inbox k) (sym bm))
        | inr some ↦ inl (subst (λ (k : ℕ). 1 ≤ times j (v.inbox k)) bm some)
      ]
  | inr off ↦ inl (subst (λ k. 1 ≤ k) (ap (λ (c : Bool). times j (if c then v.inbox b ++ i ∷ [] else v.inbox m)) off) st)
]

abbrev pub came_view : View → ℕ → ℕ → ℕ → MsgId → View
came_view v a b n i = record (taken_view v a b n) { inbox = at_machine v.inbox b (v.inbox b ++ i ∷ []) }

pub in_inbox : (v : View) (a b n : ℕ) (i j : MsgId) (m : ℕ) → (b == m) ≡ true → 1 ≤ times j (v.inbox b) + one_of j i → 1 ≤ standing (came_view v a b n i) j (Inbox m)
in_inbox v a b n i j m same st =
    let sum = times-append j (v.inbox b) (i ∷ []) in omega (arith, st, ap (λ (c : Bool). times j (if c then v.inbox b ++ i ∷ [] else v.inbox m)) same, sum)

taken_on : (v : View) (a b n : ℕ) (i j : MsgId) (z : Spot) → untaken (v.pair a b) ≡ i ∷ untaken (taken_pair (v.pair a b) n) → 1 ≤ standing v j z → (y : Spot) × (1 ≤ standing (came_view v a b n i) j y)
taken_on v a b n i j (Queue m p) front st = (Queue m p, st)
taken_on v a b n i j (Held m p) front st = (Held m p, st)
taken_on v a b n i j (Inbox m) front st = elim (cases_Bool (b == m)) [
  | inl same ↦
      (Inbox m, in_inbox v a b n i j m same (omega (arith, subst (λ (k : ℕ). 1 ≤ times j (v.inbox k)) (sym (eqb-true b m same)) st)))
  | inr off ↦ (Inbox m, subst (λ k. 1 ≤ k) (sym (ap (λ (c : Bool). times j (if c then v.inbox b ++ i ∷ [] else v.inbox m)) off)) st)
]
taken_on v a b n i j (Untaken c d) front st = elim (cases_Bool ((a == c) && (b == d))) [
  | inl same ↦
      let both = and_parts (a == c) (b == d) same in
      let here : 1 ≤ times j (untaken (v.pair a b)) = subst (λ (k : ℕ). 1 ≤ times j (untaken (v.pair k b))) (sym (eqb-true a c both.0)) (subst (λ (k : ℕ). 1 ≤ times j (untaken (v.pair c k))) (sym (eqb-true b d both.1)) st) in
      elim (cases_zero (one_of j i)) [
        | inl none ↦ (Untaken c d, omega (arith, here, ap (times j) front, ap (λ (t : Bool). times j (untaken (if t then taken_pair (v.pair a b) n else v.pair c d))) same, none))
        | inr some ↦ (Inbox b, in_inbox v a b n i j b (eq_self b) (omega (arith, some)))
      ]
  | inr off ↦ (Untaken c d, subst (λ k. 1 ≤ k) (sym (ap (λ (t : Bool). times j (untaken (if t then taken_pair (v.pair a b) n else v.pair c d))) off)) st)
]

taken_by : (v : View) (a b n : ℕ) (o : Option MsgId) → slice_get (v.pair a b).ids (v.pair a b).taken ≡ o → Calm v (taken_id (taken_view v a b n) b o)
taken_by v a b n None is = calm_still v (taken_view v a b n) (λ m p. refl) (λ p. refl) (λ i. refl) (λ i z. ap (times i) (elim z as (λ z_. ids_at (taken_view v a b n) z_ ≡ ids_at v z_)
    [ Untaken c d ↦ pair_keeps v.pair a b (taken_pair (v.pair a b) n) (none_taken (v.pair a b) n is) c d | _ ↦ refl ]))
taken_by v a b n (Some i) is =
    let front = taken_front (v.pair a b) n i is in
    record {
      known = λ m p. refl;
      come = λ p. refl;
      fresh = λ j t e c. e;
      kept = λ j t e. e;
      back = λ j t e c z st.
          ((elim z as (λ z_. 1 ≤ standing (came_view v a b n i) j z_ → Came v j z_) [ Inbox m' ↦ λ st'. inbox_back v a b n i j m' front st' | Untaken c' d' ↦ λ st'. inl (stream_back v a b n i j c' d' front st') | _ ↦ λ st'. inl st' ]) st);
      on = λ j t e c z st. taken_on v a b n i j z front st;
    }

pub taken_calm : (v : View) (a b n : ℕ) → Calm v (view_after v (Line.Taken a b n))
taken_calm v a b n = taken_by v a b n (slice_get (v.pair a b).ids (v.pair a b).taken) refl

net_calm : (v : View) (l : Line) → IsNetLine l → Calm v (view_after v l)
net_calm v (Line.Taken a b n) h = taken_calm v a b n
net_calm v (Line.Old a b n) h = calm_same v
net_calm v (Line.Early a b n) h = moves_none v (Line.Early a b n) refl refl (λ m q. refl) (λ z. early_off v a b n z)
net_calm v (Line.Acked a b n) h = moves_none v (Line.Acked a b n) refl refl (λ m q. refl) (λ z. acked_off v a b n z)
net_calm v Line.Nothing h = calm_same v
net_calm v (Line.Resent m n) h = calm_same v
net_calm v _ h = absurd h

pub net_parts : (ps : List Part) (pt : Point) (w : Spelled) → IsNet ps → spelled pt ps ≡ Some w → Calm pt.view w.point.view
net_parts [] pt w h e = subst (λ (q : Point). Calm pt.view q.view) (said pt w e) (calm_same pt.view)
net_parts (Says l ∷ ps) pt w h e =
    let k = says_next pt l ps w e in
    subst (λ (q : Point). Calm pt.view q.view) k.point (calm_trans pt.view (seen pt.kernel pt.view l) k.rest.point.view (calm_about pt.view (view_after pt.view l) (seen pt.kernel pt.view l).topic (net_calm pt.view l h.0)) (net_parts ps (moved pt l k.s) k.rest h.1 k.more))
net_parts (Transmits a b l ∷ ps) pt w h e =
    let k = transmits_next pt a b l ps w e in
    subst (λ (q : Point). Calm pt.view q.view) k.point (calm_trans pt.view (view_after pt.view (packet_line pt.view a b l)) k.rest.point.view (packet_calm pt.view a b (length (pt.view.pair a b).wire) l) (net_parts ps (moved pt (packet_line pt.view a b l) pt.kernel) k.rest h.1 k.more))
net_parts _ pt w h e = absurd h.0

-- the directive to migrate puts a request, which is none of the protocol
pub migrates_quiet : (v : View) (o : Point) (p : Pid) → AllQuiet v (migrates o p)
migrates_quiet v o p = by_migrates (AllQuiet v) o p (tt, tt) (tt, tt) (λ n off is. (refl, tt))
