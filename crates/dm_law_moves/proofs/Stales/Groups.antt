-- What each group does with the messages that ask for a piece of a process or bring one.
use Rattle.dm_law_moves.proofs.Names.{◌≡◌, ℕ, ◌+◌, List, [], ◌∷◌, length, refl, ap, ◌∙◌, sym, subst, arith, nat_tests, Option, Some, Pid, MsgId, MessageKind, plain_kind, Boot, Step, Line, Label, Stage, View, Told, NothingElse, Target}
use Rattle.dm_law_moves.proofs.Names.{after_head, Point, Part, Says, Spelled, spelled, to_kernel, leaves_for, migrates, group_of, group_is, IsNet, net_parts, head_calm, PairsFit, Phased, Sane, KnownStands, begins, begun, begun_sane, turned}
use Rattle.dm_law_moves.proofs.Names.{Loose, loose_round, loose_handles, by_migrates, by_outcome, Tame, plain_in_bag, part_sane, said_by, move_target, option_map_or, asked_off, PlainMessage, PlainWhat, count, fits, forwards_on, stales}
use Rattle.dm_law_moves.proofs.Names.{by_calls_off}
use Rattle.dm_law_rule.specs.Rule as rule
use Rattle.dm_law_moves.proofs.Leading.{next_of, part_leads}
use Rattle.dm_law_moves.proofs.Ends.Parts.{Smooth, Extends, smooth_same, smooth_trans, moves_none}
use Rattle.dm_law_moves.proofs.Ends.Open.{Opens, Neither, net_none, smooth_opens}
use Rattle.dm_law_moves.proofs.Ends.Groups.{front_turn, parts_count}
use Rattle.dm_law_moves.proofs.Stales.Weighs.{takes_on, takes_all}
use Rattle.dm_law_moves.proofs.Stales.Pieces.{piece_for, calm_smooth, AllSlight, Past, past_packet, past_behind}
use Rattle.dm_law_moves.proofs.Stales.Rows.{Flow, Flows, smooth_flows, slight_flows, line_smooth}
use Rattle.dm_law_moves.proofs.Stales.Hears.{FlowsOf, hears_flows, called_flows, forwards_slight}

slight_loose : (v : View) → Loose (AllSlight v)
slight_loose v = record { none = tt; label = λ l ps h. (tt, h); routes = λ i ps h. (tt, h); buries = λ to ps h. (refl, h) }

-- a delivery or a tick
net_flows : (p : Pid) (pt : Point) (ps : List Part) (w : Spelled) → IsNet ps → spelled pt ps ≡ Some w → Flows p pt.view w.point.view ps
net_flows p pt ps w net e =
    let net_on : (p : Pid) → Neither (takes_on p) = λ p l h. grind (arith, nat_tests) in
    let net_all : (p : Pid) → Neither (takes_all p) = λ p l h. grind (arith, nat_tests) in
    let net_stales : (f : MsgId → Option Told) (p : Pid) → Neither (stales f p) = λ f p l h. grind (arith, nat_tests) in
    smooth_flows p pt.view w.point.view ps (calm_smooth p pt.view w.point.view (net_parts ps pt w net e)) (net_none (takes_on p) (net_on p) ps net) (net_none (takes_all p) (net_all p) ps net) (λ f. net_none (stales f p) (net_stales f p) ps net)

-- a process is asked to move, and sets off
asked_flows : (p : Pid) (pt : Point) (id : MsgId) (msg : PlainMessage) (to : ℕ) (w : Spelled) → Sane pt → PairsFit pt.view → pt.kernel.bag id ≡ Some msg → msg.what ≡ PlainWhat.Move to → spelled pt (rule.says (Label.Asked id) ∷ leaves_for msg.to to) ≡ Some w
    → Flows p pt.view w.point.view (rule.says (Label.Asked id) ∷ leaves_for msg.to to)
asked_flows p pt id msg to w sane fits there what e =
    let q = msg.to in
    let l = Line.Label (Label.Asked id) in
    let l2 = Line.Migration Stage.Frozen q in
    let ps = Says (Line.Migration Stage.Asked q) ∷ to_kernel MessageKind.Ask to ∷ [] in
    let n = next_of pt (Says l) (leaves_for q to) w e in
    let k = said_by pt n.next l n.steps in
    let c = part_leads (Past p pt.view) (past_packet p pt.view) pt n.next (Says l) (past_behind p pt.view pt (Says l) tt refl sane (record { smooth = smooth_same (piece_for p) pt.view; fits = fits })) n.steps in
    let mid = n.next.view in
    let sane_ = part_sane pt n.next (Says l) n.steps.lines refl n.steps.are n.steps.leads sane in
    let topic : mid.topic ≡ Target to = sym (ap (λ (x : Point). x.view.topic) k.is) ∙ ap (λ (o : Option PlainMessage). option_map_or (λ m. move_target m.what) o NothingElse) there ∙ ap move_target what in
    let rest = line_smooth p n.next l2 ps n.rest refl refl refl sane_ c.fits (moves_none (piece_for p) mid l2 refl (λ z. asked_off mid q to topic z)) (tt, (refl, tt)) n.more in
    let smooth : Smooth (piece_for p) pt.view w.point.view = subst (λ (x : Point). Smooth (piece_for p) pt.view x.view) n.point (smooth_trans (piece_for p) pt.view mid n.rest.point.view c.smooth rest) in
    smooth_flows p pt.view w.point.view (rule.says (Label.Asked id) ∷ leaves_for q to) smooth refl refl (λ f. refl)

-- what comes of a directive
outcome_flows : (p : Pid) (b : Boot) (pt : Point) (d : Step) (parts : List Part) (w : Spelled) → Phased pt → KnownStands pt.kernel pt.view → PairsFit pt.view → rule.outcome b pt d ≡ Some parts → spelled (begun pt d) parts ≡ Some w → Flows p (begun pt d).view w.point.view parts
outcome_flows p b pt d parts w phased known fits is e =
    by_outcome (λ x ps. (u : Spelled) → spelled (begun pt x) ps ≡ Some u → Flows p (begun pt x).view u.point.view ps) b pt d parts (record {
      round = λ m ps box e u said.
          (let v = (turned pt m).view in
          let pairs : PairsFit v = record { within = fits.within; home = fits.home } in
          slight_flows p (turned pt m) ps u (begun_sane pt (Step.Turn m) phased.sane) pairs (loose_round (AllSlight v) (slight_loose v) b pt m (rule.first_runnable pt.kernel (pt.view.queue m) (pt.view.ring m)) ps (tt, tt) e) said);
      handles = λ m i is msg ps box there e u said.
          (let (t, turn) = front_turn pt m i is phased.phases (begins pt m phased known) fits box in
          let start = turned pt m in
          let v = start.view in
          let tame : Tame v i = record { what = t; told = turn.told; plain = plain_in_bag start i msg turn.sane there t turn.told } in
          let slight : (qs : List Part) → AllSlight v qs → (u : Spelled) → spelled start qs ≡ Some u → Flows p v u.point.view qs = λ qs h u k. slight_flows p start qs u turn.sane turn.fits h k in
          loose_handles (λ qs. (u : Spelled) → spelled start qs ≡ Some u → Flows p v u.point.view qs) (AllSlight v) (slight_loose v) slight b pt m i msg ps (λ here. slight (Says (Line.Queued i) ∷ []) (tame, tt)) (slight (Says (Line.Held i) ∷ []) (tame, tt))
          (λ to here what apart u k. asked_flows p start i msg to u turn.sane turn.fits there what k)
          (λ to moves at_. slight (forwards_on pt.addresses i (plain_kind msg.what) msg.sender to) (forwards_slight v pt.addresses i (plain_kind msg.what) msg.sender to tame)) e u said);
      hears = λ m i is ps box none e u said.
          (let (t, turn) = front_turn pt m i is phased.phases (begins pt m phased known) fits box in
          subst (FlowsOf p (turned pt m)) (ap (rule.hears b pt m i) (sym turn.told) ∙ e) (hears_flows p b pt m i is t turn) u said);
      ticks = λ m ps net u said. net_flows p (begun pt (Step.Tick m)) ps u net said;
      delivers = λ a c k ps net u said. net_flows p (begun pt (Step.Deliver a c k)) ps u net said;
      asks = λ q m u said.
          (let start = begun pt (Step.Migrate q m) in
          let pairs : PairsFit start.view = record { within = fits.within; home = fits.home } in
          slight_flows p start (migrates pt q) u (begun_sane pt (Step.Migrate q m) phased.sane) pairs (by_migrates (AllSlight start.view) pt q (tt, tt) (tt, tt) (λ n off is. (refl, tt))) said);
      calls = λ q m u said.
          (let start = begun pt (Step.CallOff q m) in
          let sane = begun_sane pt (Step.CallOff q m) phased.sane in
          let pairs : PairsFit start.view = record { within = fits.within; home = fits.home } in
          by_calls_off (λ qs. spelled start qs ≡ Some u → Flows p start.view u.point.view qs) pt m q (λ k. slight_flows p start (Says (Line.NoCall q) ∷ []) u sane pairs (tt, tt) k) (λ from here come k. called_flows p start q from u sane pairs k) said);
    }) is w e

-- a group, with its head
pub record GroupFlow (p : Pid) (w : Spelled) (ids : List MsgId) : Type 0 where
  pub left : List MsgId
  pub opens : Opens (piece_for p) w.point.view left
  pub sum : (f : MsgId → Option Told) → Extends w.point.view.told f → count (takes_on p) w.lines + length ids ≡ count (takes_all p) w.lines + (count (stales f p) w.lines + length left)

whole_flow : (p : Pid) (d : Step) (parts : List Part) (ids : List MsgId) (start : Point) (rest : Spelled) → spelled start parts ≡ Some rest → Flow p rest.point.view ids parts → GroupFlow p (rule.behind (Line.Head d ∷ []) rest) ids
whole_flow p d parts ids start rest e h = record {
  left = h.left;
  opens = h.opens;
  sum = λ f ext.
      let s = h.sum f ext in
      let on = parts_count (takes_on p) (record { put = λ a b i k q. refl; packet = λ a b k l. refl }) parts start rest e in
      let all = parts_count (takes_all p) (record { put = λ a b i k q. refl; packet = λ a b k l. refl }) parts start rest e in
      let stale = parts_count (stales f p) (record { put = λ a b i k q. refl; packet = λ a b k l. refl }) parts start rest e in
      omega (arith, s, on, all, stale);
}

pub group_flows : (p : Pid) (b : Boot) (pt : Point) (d : Step) (w : Spelled) (ids : List MsgId) → Phased pt → KnownStands pt.kernel pt.view → group_of b pt d ≡ Some w → Opens (piece_for p) pt.view ids → GroupFlow p w ids
group_flows p b pt d w ids phased known e opens =
    let k = group_is b pt d w e in
    let start : Opens (piece_for p) (begun pt d).view ids = smooth_opens (piece_for p) pt.view (begun pt d).view ids (calm_smooth p pt.view (after_head pt.view d) (head_calm pt.view d)) opens in
    subst (λ (x : Spelled). GroupFlow p x ids) k.whole (whole_flow p d k.parts ids (begun pt d) k.rest k.said (outcome_flows p b pt d k.parts k.rest phased known (fits pt.view phased.pairs) k.is k.said ids start))
