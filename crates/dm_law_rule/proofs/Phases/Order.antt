-- What kernels tell each other of migrations stays in the order in which it was put, group by group.
use Rattle.dm_law_rule.proofs.Names.{◌≡◌, ℕ, ◌+◌, ◌≤◌, ◌==◌, Bool, true, false, List, [], ◌∷◌, ◌++◌, refl, ap, ◌∙◌, sym, subst, inl, inr, arith, ⊤, if◌then◌else◌, length, slice_get, cases_Bool, false≢true, Option, None, Some, Pid, pid_of}
use Rattle.dm_law_rule.proofs.Names.{MsgId, MessageKind, id_eq, id_eq-is, plain_kind, PlainMessage, Load, Stage, Step, Boot, Line, View, Told, own_id, view_after, after_put, after_head, Addresses, Sender, Receiver, is_told_back, at_machine}
use Rattle.dm_law_rule.proofs.Names.{Point, moved, seen, after, Part, Says, Routes, Again, Owns, Transmits, Spelled, spelled, lines_of, puts, goes_out, packet_line, forwards_on, sends_on, to_kernel, migrates, is_between, Inbox, Untaken, Queue}
use Rattle.dm_law_rule.proofs.Names.{Held, Spot, standing, times, untaken, first_view, manager, pid_eq, option_map_or, and_parts, ne_eqb, nat_tests, ◌&&◌, id_eq-same, group_of, bind-is, append_assoc, KernelsInOrder, is_between_from, ordered}
use Rattle.dm_law_rule.proofs.Names.{calls_off, preds_of}
use Rattle.dm_law_rule.specs.View as view
use Rattle.dm_law_rule.specs.Rule as rule
use Rattle.dm_law_rule.proofs.Hushed.{is_put, hushed}
use Rattle.dm_law_rule.proofs.Letters.{letters, not_kernels}
use Rattle.dm_law_rule.proofs.Pairs.Lines.{touches, pair_same, onward, one_view, two_views}
use Rattle.dm_law_rule.proofs.States.{State, PairsFit, put_told_off, says_next, transmits_next, said}
use Rattle.dm_law_rule.proofs.Said.{fits_as}
use Rattle.dm_law_rule.proofs.Moves.Lists.{under_way}
use Rattle.dm_law_rule.proofs.Moves.States.{front_one, not_first}
use Rattle.dm_law_rule.proofs.Moves.Sent.{fits_put, fits_packet, least_of}
use Rattle.dm_law_rule.proofs.Telling.{Sane, Sayable, sane_line, part_sane, plain_not}
use Rattle.dm_law_rule.proofs.Groups.{group_is, IsNetLine, IsNet, arrives_net, resends_net, early_off, acked_off}
use Rattle.dm_law_rule.proofs.Requests.{by_migrates, by_calls_off}
use Rattle.dm_law_rule.proofs.Hearing.{by_hears, Heard}
use Rattle.dm_law_rule.proofs.Serving.{Loose, loose_round, loose_handles, buries_kept}
use Rattle.dm_law_rule.proofs.Ordered.{narrower, shorter}
use Rattle.dm_law_rule.proofs.Phases.Lines.{put_at, first_kept}
use Rattle.dm_law_rule.proofs.Phases.Quiet.{Tame, plain_in_bag, tame_kind}
use Rattle.dm_law_rule.proofs.Phases.Stand.{InPhases, calm_phases, queued_plain, held_plain}
use Rattle.dm_law_rule.proofs.Phases.Net.{head_calm}
use Rattle.dm_law_rule.proofs.Standing.{times-append}
use Rattle.dm_law_rule.proofs.Once.{one_of}
use Rattle.dm_law_rule.proofs.Phases.Leaves.{told_some}
use Rattle.dm_law_rule.proofs.Phases.Hears.{plain_by, tame_of}
use Rattle.dm_law_rule.proofs.Phases.Ranked.{Ranked, IsNone, may_be, next_of, tame_none, less_ranked, held_ranked, back_ranked, taken_ranked, packet_ranked, thin_off, put_other, put_own, ranked_head}

-- each part puts what the kernel sends next, or a message that is none of the protocol
abbrev pub OrderlyLine : View → Line → Type 0
OrderlyLine v (Line.Head s) = ⊥
OrderlyLine v (Line.Put a b i k q) = ⊥
OrderlyLine v (Line.Packet a b k l) = ⊥
OrderlyLine v (Line.Taken a b n) = ⊥
OrderlyLine v (Line.Early a b n) = ⊥
OrderlyLine v (Line.Acked a b n) = ⊥
OrderlyLine v (Line.Held i) = Tame v i
OrderlyLine v l = ⊤

abbrev pub Orderly : View → Part → Type 0
Orderly v (Says l) = OrderlyLine v l
Orderly v (Again i b) = Tame v i
Orderly v (Transmits a b l) = ⊥
Orderly v p = ⊤

abbrev pub AllOrderly : View → List Part → Type 0
AllOrderly v [] = ⊤
AllOrderly v (p ∷ ps) = Orderly v p × AllOrderly v ps

-- what was told stays
abbrev Keeps : View → View → Type 0
Keeps v w = (i : MsgId) (t : Told) → v.told i ≡ Some t → w.told i ≡ Some t

tame_kept : (v w : View) (i : MsgId) → Keeps v w → Tame v i → Tame w i
tame_kept v w i c h = record { what = h.what; told = c i h.what h.told; plain = h.plain }

-- where the lines so far have come
record Come (o v : View) : Type 0 where
  ranked : Ranked v
  fits : PairsFit v
  kept : Keeps o v

come_packet : (o v : View) (a b k : ℕ) (l : Load) → Come o v → Come o (view_after v (Line.Packet a b k l))
come_packet o v a b k l h = record { ranked = packet_ranked v a b k l h.ranked; fits = fits_packet v a b k l h.fits; kept = h.kept }

pub put_kept : (v : View) (a b : ℕ) (i : MsgId) (k : MessageKind) (q : Pid) → Keeps v (after_put v a b i k q)
put_kept v a b i k q j t told = elim (cases_Bool (id_eq i j)) [
  | inl same ↦
      let is : i ≡ j = id_eq-is i j same in
      subst (λ (x : MsgId). (after_put v a b i k q).told x ≡ Some t) is (put_at v a b i k q ∙ first_kept (v.told i) (record { kind = k; receiver = q; about = v.topic }) t (ap v.told is ∙ told))
  | inr apart ↦ put_told_off v a b i j k q apart ∙ told
]

come_put : (o v : View) (b : ℕ) (i : MsgId) (k : MessageKind) (q : Pid) → Come o v → Ranked (after_put v v.acting b i k q) → Come o (after_put v v.acting b i k q)
come_put o v b i k q h ranked = record { ranked = ranked; fits = fits_put v v.acting b i k q h.fits; kept = λ j t told. put_kept v v.acting b i k q j t (h.kept j t told) }

-- a put, and its packet
puts_come : (o : View) (pt next : Point) (b : ℕ) (i : MsgId) (k : MessageKind) (q : Pid) (home out : Bool)
    → after pt (Line.Put pt.view.acting b i k q ∷ (if home then [] else if out then packet_line pt.view pt.view.acting b (Load.Data (length (pt.view.pair pt.view.acting b).ids)) ∷ [] else [])) ≡ Some next
    → Come o (after_put pt.view pt.view.acting b i k q) → Come o next.view
puts_come o pt next b i k q true out is h = subst (λ (v : View). Come o v) (sym (one_view pt next (Line.Put pt.view.acting b i k q) is)) h
puts_come o pt next b i k q false false is h = subst (λ (v : View). Come o v) (sym (one_view pt next (Line.Put pt.view.acting b i k q) is)) h
puts_come o pt next b i k q false true is h =
    let l : Load = Load.Data (length (pt.view.pair pt.view.acting b).ids) in
    let w = after_put pt.view pt.view.acting b i k q in
    subst (λ (v : View). Come o v) (sym (two_views pt next (Line.Put pt.view.acting b i k q) (packet_line pt.view pt.view.acting b l) tt tt is)) (come_packet o w pt.view.acting b (length (pt.view.pair pt.view.acting b).wire) l h)

puts_lead : (o : View) (pt next : Point) (b : ℕ) (i : MsgId) (k : MessageKind) (q : Pid) (ls : List Line) → Some (puts pt.view b i k q) ≡ Some ls → after pt ls ≡ Some next → Come o (after_put pt.view pt.view.acting b i k q) → Come o next.view
puts_lead o pt next b i k q ls is leads h = puts_come o pt next b i k q (pt.view.acting == b) (goes_out (pt.view.pair pt.view.acting b)) (ap (after pt) (let f : puts pt.view b i k q ≡ ls = cc in f) ∙ leads) h

-- a message that was told of, or is put by a kind that is none of the protocol, is none of it behind its put
none_put : (v : View) (a b : ℕ) (i : MsgId) (k : MessageKind) (q : Pid) → is_between k ≡ false → ((t : Told) → v.told i ≡ Some t → is_between t.kind ≡ false) → IsNone (after_put v a b i k q) i
none_put v a b i k q off plain =
    let u : Told = record { kind = k; receiver = q; about = v.topic } in
    let what = view.first_told (v.told i) u in
    let kind : is_between what.kind ≡ false = (elim (v.told i) as (λ o. ((t : Told) → o ≡ Some t → is_between t.kind ≡ false) → is_between (view.first_told o u).kind ≡ false) [ None ↦ λ p. off | Some t ↦ λ p. p t refl ]) plain in
    tame_none (after_put v a b i k q) i (record { what = what; told = put_at v a b i k q; plain = kind })

other_count : (v : View) (a b : ℕ) (i : MsgId) (k : MessageKind) (q : Pid) → view.is_own i (v.told i) ≡ false → (after_put v a b i k q).count ≡ v.count
other_count v a b i k q e = ap (λ (c : Bool). if c then at_machine v.count i.from.home (v.count i.from.home + 1) else v.count) e

-- lines of turns
line_come : (o v : View) (l : Line) → OrderlyLine o l → Come o v → Ranked (view_after v l)
line_come o v (Line.Held i) ok h = held_ranked v i (view.receiver_of (v.told i)) (tame_none v i (tame_kept o v i h.kept ok)) h.ranked
line_come o v (Line.Stays p) ok h = let r = h.ranked in back_ranked (view.staying v p) p (record { order = r.order; sent = r.sent; held = r.held })
line_come o v (Line.Migration Stage.Restarted p) ok h = let r = back_ranked v p h.ranked in record { order = r.order; sent = r.sent; held = r.held }
line_come o v l ok h = search (arith, less_ranked, h.ranked)

orderly_quiet : (v : View) (l : Line) → OrderlyLine v l → (is_put l ≡ false) × (touches l ≡ false)
orderly_quiet v (Line.Held i) h = (refl, refl)
orderly_quiet v (Line.Put a b i k q) h = absurd h
orderly_quiet v l h = (search arith, search arith)

-- a part
part_come : (o : View) (pt next : Point) (p : Part) (ls : List Line) → Orderly o p → Sane pt → Come o pt.view → lines_of pt p ≡ Some ls → after pt ls ≡ Some next → Come o next.view
part_come o pt next (Says l) ls ok sane h is leads =
    let view_is : next.view ≡ seen pt.kernel pt.view l = one_view pt next l (ap (after pt) (let f : l ∷ [] ≡ ls = cc in f) ∙ leads) in
    let q = orderly_quiet o l ok in
    let r = line_come o pt.view l ok h in
    let w : Come o (seen pt.kernel pt.view l) = record {
      ranked = record { order = r.order; sent = r.sent; held = r.held };
      fits = fits_as pt.view (seen pt.kernel pt.view l) (pair_same pt.view l q.1) h.fits;
      kept = λ i t told. ap (λ (f : MsgId → Option Told). f i) (hushed pt.view l q.0).told ∙ h.kept i t told;
    } in
    subst (λ (v : View). Come o v) (sym view_is) w
part_come o pt next (Routes i) ls ok sane h is leads =
    let v = pt.view in
    let (m, there, last) = bind-is (pt.kernel.bag i) (λ m. Some (puts v (pt.addresses (Receiver i)).at i (plain_kind m.what) m.to)) ls is in
    let b = (pt.addresses (Receiver i)).at in
    let own : view.is_own i (v.told i) ≡ false = (let k = not_kernels sane.r sane.e pt.kernel i m there sane.sound in grind (arith, nat_tests)) in
    puts_lead o pt next b i (plain_kind m.what) m.to ls last leads
    (come_put o v b i (plain_kind m.what) m.to h (put_other v v.acting b i (plain_kind m.what) m.to h.fits (none_put v v.acting b i (plain_kind m.what) m.to (plain_not m.what) (plain_in_bag pt i m sane there)) (other_count v v.acting b i (plain_kind m.what) m.to own) h.ranked))
part_come o pt next (Again i b) ls ok sane h is leads =
    let v = pt.view in
    let (t, there, last) = bind-is (v.told i) (λ t. Some (puts v b i t.kind t.receiver)) ls is in
    let tame = tame_kept o v i h.kept ok in
    puts_lead o pt next b i t.kind t.receiver ls last leads
    (come_put o v b i t.kind t.receiver h (put_other v v.acting b i t.kind t.receiver h.fits (none_put v v.acting b i t.kind t.receiver (tame_kind v i t tame there) (λ u told. tame_kind v i u tame told)) (other_count v v.acting b i t.kind t.receiver (not_first i (v.told i) t there)) h.ranked))
part_come o pt next (Owns k q b) ls ok sane h is leads =
    let v = pt.view in
    puts_lead o pt next b (own_id v) k q ls is leads (come_put o v b (own_id v) k q h (put_own v b k q h.fits (sane.numbered v.acting (v.count v.acting) (omega arith)) h.ranked))
part_come o pt next (Transmits a b l) ls ok sane h is leads = absurd ok

sayable : (o : View) (p : Part) → Orderly o p → Sayable p
sayable o (Says l) ok = (orderly_quiet o l ok).0
sayable o _ ok = tt

parts_come : (ps : List Part) (o : View) (pt : Point) (w : Spelled) → AllOrderly o ps → Sane pt → Come o pt.view → spelled pt ps ≡ Some w → Ranked w.point.view
parts_come [] o pt w ok sane h e = subst (λ (q : Point). Ranked q.view) (said pt w e) h.ranked
parts_come (p ∷ ps) o pt w ok sane h e =
    let n = onward pt p ps w e in
    subst (λ (q : Point). Ranked q.view) n.end
    (parts_come ps o n.next n.rest ok.1 (part_sane pt n.next p n.lines (sayable o p ok.0) n.lines_are n.leads sane) (part_come o pt n.next p n.lines ok.0 sane h n.lines_are n.leads) n.on)

-- what deliveries and ticks say
net_line : (v : View) (l : Line) → IsNetLine l → Ranked v → Ranked (view_after v l)
net_line v (Line.Taken a b n) ok h = taken_ranked v a b n (slice_get (v.pair a b).ids (v.pair a b).taken) refl h
net_line v (Line.Early a b n) ok h = thin_off v (view_after v (Line.Early a b n)) refl refl refl refl (λ x c. early_off v a b n (Untaken x c)) h
net_line v (Line.Acked a b n) ok h = thin_off v (view_after v (Line.Acked a b n)) refl refl refl refl (λ x c. acked_off v a b n (Untaken x c)) h
net_line v (Line.Old a b n) ok h = h
net_line v Line.Nothing ok h = h
net_line v (Line.Resent m n) ok h = h
net_line v _ ok h = absurd ok

net_come : (ps : List Part) (pt : Point) (w : Spelled) → IsNet ps → Ranked pt.view → spelled pt ps ≡ Some w → Ranked w.point.view
net_come [] pt w ok h e = subst (λ (q : Point). Ranked q.view) (said pt w e) h
net_come (Says l ∷ ps) pt w ok h e =
    let n = says_next pt l ps w e in
    let r = net_line pt.view l ok.0 h in
    subst (λ (q : Point). Ranked q.view) n.point (net_come ps (moved pt l n.s) n.rest ok.1 (record { order = r.order; sent = r.sent; held = r.held }) n.more)
net_come (Transmits a b l ∷ ps) pt w ok h e =
    let n = transmits_next pt a b l ps w e in
    subst (λ (q : Point). Ranked q.view) n.point (net_come ps (moved pt (packet_line pt.view a b l) pt.kernel) n.rest ok.1 (packet_ranked pt.view a b (length (pt.view.pair a b).wire) l h) n.more)
net_come _ pt w ok h e = absurd ok.0

-- the parts of turns
forwards_orderly : (v : View) (a : Addresses) (i : MsgId) (k : MessageKind) (sender : Pid) (to : ℕ) → Tame v i → AllOrderly v (forwards_on a i k sender to)
forwards_orderly v a i k sender to tame = (
  tt,
  (
    tame,
    elim (is_told_back k) as (λ c. AllOrderly v (if c then Owns MessageKind.Update sender (a (Sender i)).at ∷ [] else []))
        [ true ↦ (tt, tt) | false ↦ tt ],
  ),
)

orderly_loose : (v : View) → Loose (AllOrderly v)
orderly_loose v = record { none = tt; label = λ l ps h. (tt, h); routes = λ i ps h. (tt, h); buries = λ to ps h. (tt, h) }

sends_orderly : (v : View) (to : ℕ) (ids : List MsgId) (ps : List Part) → ((i : MsgId) → 1 ≤ times i ids → Tame v i) → AllOrderly v ps → AllOrderly v (sends_on to ids ++ ps)
sends_orderly v to [] ps tame h = h
sends_orderly v to (i ∷ is) ps tame h =
    (tame i (let one : one_of i i ≡ 1 = ap (λ (c : Bool). if c then 1 else 0) (id_eq-same i) in omega (arith, one)), sends_orderly v to is ps (λ j least. tame j (omega (arith, least))) h)

-- a kernel's own message, where one for a process is none of the protocol, and no list has any
heard_orderly : (o : Point) (m : ℕ) (i : MsgId) (t : Told) → ((t.receiver.num == 0) ≡ false → Tame o.view i) → ((p : Pid) (j : MsgId) → 1 ≤ times j (o.view.queue m p ++ o.view.held m p) → Tame o.view j) → Heard (AllOrderly o.view) o m i t
heard_orderly o m i t tame listed =
    let v = o.view in
    record {
      stale = λ p about late. (tt, tt);
      buried = λ p about kind. (tt, buries_kept (AllOrderly v) tt (λ to ps h. (tt, h)) (preds_of o m p));
      told = λ p x about alive fresh. record {
        accepted = λ ask. (tt, (tt, tt));
        lacks = λ slots blocks. (tt, (tt, tt));
        stays = λ kind none. (tt, tt);
        stays_asked = λ kind n is. (tt, (tt, (tt, tt)));
        state = (tt, (tt, tt));
        next_chunk = (tt, (tt, tt));
        last_chunk = (tt, (tt, tt));
        server_chunk = λ server. (tt, (tt, (tt, tt)));
        memory = (tt, (tt, tt));
        next_block = (tt, (tt, tt));
        last_block = (tt, (tt, tt));
        left = λ ids to l. (tt, sends_orderly v to ids (Says (Line.Migration Stage.Left p) ∷ to_kernel MessageKind.Restart i.from.home ∷ []) (λ j least. listed p j (subst (λ (js : List MsgId). 1 ≤ times j js) l.lists least)) (tt, (tt, tt)));
        restarted = λ kind none. (tt, tt);
        restarted_asked = λ kind n is. (tt, (tt, (tt, tt)));
      };
      updated = λ kind. (tt, tt);
      updated_none = λ kind at_. (tt, tt);
      no_move = λ at_. (tt, tt);
      leaving = λ to at_. (tame at_.kernel, tt);
      coming = λ from at_. (tame at_.kernel, tt);
      forwarded = λ to moves at_. forwards_orderly v o.addresses i t.kind manager to (tame at_.kernel);
      stays_here = λ at_. (tt, tt);
      frozen = λ to at_. (tt, (tt, (tt, tt)));
    }

-- what stands is told of
pub standing_told : (pt : Point) (z : Spot) (i : MsgId) (h : State None pt) → 1 ≤ standing pt.view i z → (t : Told) × (pt.view.told i ≡ Some t)
standing_told pt z i h there =
    let (q, way) = under_way (letters h.own pt.kernel.bag i) (standing pt.view i) z there (h.stands.kept i) in
    told_some (pt.view.told i) q (h.stands.told i q way)

held_tame : (pt : Point) (m : ℕ) (p : Pid) (i : MsgId) → State None pt → InPhases pt.view → 1 ≤ times i (pt.view.held m p) → Tame pt.view i
held_tame pt m p i state h there = let (t, told) = standing_told pt (Held m p) i state there in record { what = t; told = told; plain = held_plain pt.view m p i t h told there }

listed_tame : (pt : Point) (m : ℕ) (p : Pid) (i : MsgId) → State None pt → InPhases pt.view → 1 ≤ times i (pt.view.queue m p ++ pt.view.held m p) → Tame pt.view i
listed_tame pt m p i state h least =
    let sum = times-append i (pt.view.queue m p) (pt.view.held m p) in
    elim (least_of (times i (pt.view.queue m p)) (times i (pt.view.held m p)) (omega (arith, least, sum))) [
      | inl there ↦ let (t, told) = standing_told pt (Queue m p) i state there in record { what = t; told = told; plain = queued_plain pt.view m p i t h told there }
      | inr there ↦ held_tame pt m p i state h there
    ]

-- where a group begins
record Begins (pt : Point) : Type 0 where
  phases : InPhases pt.view
  state : State None pt
  sane : Sane pt
  fits : PairsFit pt.view

front_orderly : (b : Boot) (pt : Point) (m : ℕ) (i : MsgId) (is : List MsgId) (o : Option PlainMessage) (ps : List Part) → Begins pt → pt.view.inbox m ≡ i ∷ is → pt.kernel.bag i ≡ o → rule.comes_to b pt m i o ≡ Some ps → AllOrderly pt.view ps
front_orderly b pt m i is None ps c front there e =
    let head = moved pt (Line.Head (Step.Turn m)) pt.kernel in
    by_hears (AllOrderly pt.view) b pt m i (pt.view.told i) ps (λ t told. heard_orderly pt m i t
    (λ off. tame_of pt.view i t told (plain_by head i is t (calm_phases pt.view head.view (head_calm pt.view (Step.Turn m)) c.phases) (is_between t.kind) refl front told off))
    (λ p j least. listed_tame pt m p j c.state c.phases least)) e
front_orderly b pt m i is (Some msg) ps c front there e =
    let (t, told) = standing_told pt (Inbox m) i c.state (front_one pt.view m i is front) in
    let tame : Tame pt.view i = record { what = t; told = told; plain = plain_in_bag pt i msg c.sane there t told } in
    loose_handles (AllOrderly pt.view) (AllOrderly pt.view) (orderly_loose pt.view) (λ qs h. h) b pt m i msg ps (λ to. (tt, tt)) (tame, tt) (λ n to is apart. (tt, (tt, (tt, (tt, tt))))) (λ n moves to. forwards_orderly pt.view pt.addresses i (plain_kind msg.what) msg.sender n tame) e

turn_orderly : (b : Boot) (pt : Point) (m : ℕ) (inbox : List MsgId) (ps : List Part) → Begins pt → pt.view.inbox m ≡ inbox → rule.turns b pt m inbox ≡ Some ps → AllOrderly pt.view ps
turn_orderly b pt m [] ps c front e = loose_round (AllOrderly pt.view) (orderly_loose pt.view) b pt m (rule.first_runnable pt.kernel (pt.view.queue m) (pt.view.ring m)) ps (tt, tt) e
turn_orderly b pt m (i ∷ is) ps c front e = front_orderly b pt m i is (pt.kernel.bag i) ps c front refl e

-- a group keeps the order
turning : (pt : Point) (d : Step) (ps : List Part) (w : Spelled) → Begins pt → PairsFit (after_head pt.view d) → Keeps pt.view (after_head pt.view d) → AllOrderly pt.view ps → Ranked pt.view → spelled (moved pt (Line.Head d) pt.kernel) ps ≡ Some w → Ranked w.point.view
turning pt d ps w c fits kept ok h e =
    let head = moved pt (Line.Head d) pt.kernel in
    let r = ranked_head pt.view d h in
    parts_come ps pt.view head w ok (sane_line pt head (Line.Head d) refl refl c.sane) (record { ranked = record { order = r.order; sent = r.sent; held = r.held }; fits = record { within = fits.within; home = fits.home }; kept = kept }) e

pub ranked_group : (b : Boot) (pt : Point) (d : Step) (w : Spelled) → group_of b pt d ≡ Some w → InPhases pt.view → State None pt → Sane pt → PairsFit pt.view → Ranked pt.view → Ranked w.point.view
ranked_group b pt (Step.Turn m) w e phases state sane fits h =
    let g = group_is b pt (Step.Turn m) w e in
    let c : Begins pt = record { phases = phases; state = state; sane = sane; fits = fits } in
    subst (λ (q : Point). Ranked q.view) g.point (turning pt (Step.Turn m) g.parts g.rest c (record { within = fits.within; home = fits.home }) (λ i t told. told) (turn_orderly b pt m (pt.view.inbox m) g.parts c refl g.is) h g.said)
ranked_group b pt (Step.Migrate p m) w e phases state sane fits h =
    let g = group_is b pt (Step.Migrate p m) w e in
    let c : Begins pt = record { phases = phases; state = state; sane = sane; fits = fits } in
    let ok : AllOrderly pt.view (migrates pt p) = by_migrates (AllOrderly pt.view) pt p (tt, tt) (tt, tt) (λ n off is. (tt, tt)) in
    subst (λ (q : Point). Ranked q.view) g.point (turning pt (Step.Migrate p m) g.parts g.rest c (record { within = fits.within; home = fits.home }) (λ i t told. told) (subst (AllOrderly pt.view) (let f : migrates pt p ≡ g.parts = let k = g.is in cc in f) ok) h g.said)
ranked_group b pt (Step.CallOff p m) w e phases state sane fits h =
    let g = group_is b pt (Step.CallOff p m) w e in
    let c : Begins pt = record { phases = phases; state = state; sane = sane; fits = fits } in
    let ok : AllOrderly pt.view (calls_off pt m p (pt.view.known m p)) =
    by_calls_off (AllOrderly pt.view) pt m p (tt, tt) (λ from is come. (tt, sends_orderly pt.view from (pt.view.held m p) (to_kernel MessageKind.CallOff from ∷ []) (λ i least. held_tame pt m p i state phases least) (tt, tt))) in
    subst (λ (q : Point). Ranked q.view) g.point (turning pt (Step.CallOff p m) g.parts g.rest c (record { within = fits.within; home = fits.home }) (λ i t told. told) (subst (AllOrderly pt.view) (let f : calls_off pt m p (pt.view.known m p) ≡ g.parts = let k = g.is in cc in f) ok) h g.said)
ranked_group b pt (Step.Tick m) w e phases state sane fits h =
    let g = group_is b pt (Step.Tick m) w e in
    let qs = Says (Line.Resent m (rule.outstanding_count pt.view m pt.kernel.machines)) ∷ rule.resends pt.view m pt.kernel.machines in
    let r = ranked_head pt.view (Step.Tick m) h in
    subst (λ (q : Point). Ranked q.view) g.point (net_come g.parts (moved pt (Line.Head (Step.Tick m)) pt.kernel) g.rest (subst IsNet (let f : qs ≡ g.parts = let k = g.is in cc in f) (tt, resends_net pt.view m pt.kernel.machines)) (record { order = r.order; sent = r.sent; held = r.held }) g.said)
ranked_group b pt (Step.Deliver a c k) w e phases state sane fits h =
    let g = group_is b pt (Step.Deliver a c k) w e in
    let qs = rule.arrives a c (pt.view.pair a c) (pt.view.pair c a) (slice_get (pt.view.pair a c).wire k) in
    let r = ranked_head pt.view (Step.Deliver a c k) h in
    subst (λ (q : Point). Ranked q.view) g.point (net_come g.parts (moved pt (Line.Head (Step.Deliver a c k)) pt.kernel) g.rest (subst IsNet (let f : qs ≡ g.parts = let t = g.is in cc in f) (arrives_net a c (pt.view.pair a c) (pt.view.pair c a) (slice_get (pt.view.pair a c).wire k))) (record { order = r.order; sent = r.sent; held = r.held }) g.said)

between_may : (v : View) (a : ℕ) (i : MsgId) → is_between_from v a i ≡ true → may_be v a i ≡ true
between_may v a i e = (elim (v.told i) as (λ o. (pid_eq i.from (pid_of a 0) && option_map_or (λ t. is_between t.kind) o false) ≡ true → (pid_eq i.from (pid_of a 0) && option_map_or (λ t. is_between t.kind) o true) ≡ true)
    [ None ↦ λ f. absurd (false≢true (and_parts (pid_eq i.from (pid_of a 0)) false f).1) | Some t ↦ λ f. f ]) e

-- before the first line nothing is on its way
pub ranked_start : (b : Boot) → Ranked (first_view b)
ranked_start b = record { order = λ a c off. search arith; sent = λ a c i there. absurd (omega (arith, there)); held = λ m p i there. absurd (omega (arith, there)) }

-- what is told of migrations is among what may be
pub ranked_order : (v : View) → Ranked v → KernelsInOrder v
ranked_order v h a c apart =
    let rest = next_of v a ∷ [] in
    shorter (is_between_from v a) 0 (v.inbox c ++ untaken (v.pair a c)) rest
    (narrower (may_be v a) (is_between_from v a) 0 ((v.inbox c ++ untaken (v.pair a c)) ++ rest) (λ i e. between_may v a i e)
    (ap (ordered (may_be v a) 0) (append_assoc (v.inbox c) (untaken (v.pair a c)) rest) ∙ h.order a c (ne_eqb a c apart)))
