-- Where a group that sends a message on leads: the update for its sender is under way.
use Rattle.dm_law_moves.proofs.Names.{◌≡◌, ℕ, Bool, true, List, [], ◌∷◌, ◌++◌, refl, ap, ◌∙◌, sym, subst, if◌then◌else◌, None, Some, Pid, Place, MsgId, MessageKind, plain_kind, PlainMessage, Boot, manager, Step, Line, Sender, is_told_back}
use Rattle.dm_law_moves.proofs.Names.{Part, Says, Again, Owns, Spelled, lines_of, spelled, Point, View, Told, About, Forward, own_id, actor, fits, fits_put, fits_packet, pair_same, put_at, fits_as, PairsFit, Sane, part_sane, Steps, begun}
use Rattle.dm_law_moves.proofs.Names.{begun_sane, said_by, again_rides, again_same, own_fresh, front, Run, Tells, ForwardsTell, RequestsTell, update_of, IsUnderWay, run_always, last_point, first_none, forwarded_own, GroupIs, group_is}
use Rattle.dm_law_moves.proofs.Names.{by_parts, Addresses, forwards_on, sends_on, by_migrates, Loose, loose_round, loose_handles, by_forwards, by_net, by_outcome, by_hears, nat_tests, arith, by_calls_off, to_kernel, preds_of, buries_kept}
use Rattle.dm_law_rule.specs.View as view
use Rattle.dm_law_rule.specs.Rule as rule
use Rattle.dm_law_moves.proofs.Leading.{next_of, puts_lead, lines_are}
use Rattle.dm_law_moves.proofs.Promise.Spots.{Stands, put_this, packet_stands}

-- a message that is sent on, and the machine that it goes to
abbrev pub Onward : Type 0
Onward = MsgId × ℕ

-- those that a line says, before others
abbrev pub with_forward : Line → List Onward → List Onward
with_forward (Line.Forwarded i m) fs = (i, m) ∷ fs
with_forward l fs = fs

abbrev pub part_forwards : Part → List Onward → List Onward
part_forwards (Says l) fs = with_forward l fs
part_forwards _ fs = fs

abbrev pub forwards_of : List Part → List Onward
forwards_of [] = []
forwards_of (p ∷ ps) = part_forwards p (forwards_of ps)

quiet_loose : Loose (λ ps. forwards_of ps ≡ [])
quiet_loose = record { none = refl; label = λ l ps h. h; routes = λ i ps h. h; buries = λ to ps h. h }

-- a kernel's own message
sends_none : (to : ℕ) (ids : List MsgId) (ps : List Part) → forwards_of (sends_on to ids ++ ps) ≡ forwards_of ps
sends_none to [] ps = refl
sends_none to (i ∷ is) ps = sends_none to is ps

-- a message goes on, and its sender may be told
pub goes_on : (a : Addresses) (id : MsgId) (k : MessageKind) (sender : Pid) (to : ℕ) → forwards_of (forwards_on a id k sender to) ≡ (id, to) ∷ []
goes_on a id k sender to = by_forwards (λ ps. forwards_of ps ≡ (id, to) ∷ []) a id k sender to refl refl

-- a turn sends on a message of the bag, which stands at the front of the inbox
pub record GoesOn (o : Point) (d : Step) (ps : List Part) : Type 0 where
  pub machine : ℕ
  pub acts : d ≡ Step.Turn machine
  pub id : MsgId
  pub rest : List MsgId
  pub box : o.view.inbox machine ≡ id ∷ rest
  pub message : PlainMessage
  pub there : o.kernel.bag id ≡ Some message
  pub to : ℕ
  pub moves : ℕ
  pub known : o.view.known machine message.to ≡ Forward to moves
  pub are : ps ≡ forwards_on o.addresses id (plain_kind message.what) message.sender to

-- a turn sends on a message of a kernel's own
pub record GoesOnOwn (o : Point) (d : Step) (ps : List Part) : Type 0 where
  pub machine : ℕ
  pub acts : d ≡ Step.Turn machine
  pub id : MsgId
  pub outside : o.kernel.bag id ≡ None
  pub told : Told
  pub told_is : o.view.told id ≡ Some told
  pub to : ℕ
  pub moves : ℕ
  pub known : o.view.known machine told.receiver ≡ Forward to moves
  pub are : ps ≡ forwards_on o.addresses id told.kind manager to

-- the parts of a group send nothing on, a message of the bag, or one of a kernel's own
pub data Form (o : Point) (d : Step) (ps : List Part) : Type 0 where
  Nothing : (none : forwards_of ps ≡ []) → Form o d ps
  Plain : (goes : GoesOn o d ps) → Form o d ps
  Own : (goes : GoesOnOwn o d ps) → Form o d ps

round_form : (b : Boot) (o : Point) (m : ℕ) (ps : List Part) → rule.goes_round b o m (rule.first_runnable o.kernel (o.view.queue m) (o.view.ring m)) ≡ Some ps → Form o (Step.Turn m) ps
round_form b o m ps e = Nothing (loose_round (λ xs. forwards_of xs ≡ []) quiet_loose b o m (rule.first_runnable o.kernel (o.view.queue m) (o.view.ring m)) ps refl e)

handles_form : (b : Boot) (o : Point) (m : ℕ) (id : MsgId) (is : List MsgId) (msg : PlainMessage) (ps : List Part) → o.view.inbox m ≡ id ∷ is → o.kernel.bag id ≡ Some msg → rule.handles b o m id msg ≡ Some ps → Form o (Step.Turn m) ps
handles_form b o m id is msg ps box there = loose_handles (Form o (Step.Turn m)) (λ xs. forwards_of xs ≡ []) quiet_loose (λ xs. Nothing) b o m id msg ps (λ here. Nothing refl) (Nothing refl)
    (λ to here what apart. Nothing refl) (λ to moves at_. Plain (record { machine = m; acts = refl; id = id; rest = is; box = box; message = msg; there = there; to = to; moves = moves; known = at_.known; are = refl }))

hears_form : (b : Boot) (o : Point) (m : ℕ) (id : MsgId) (ps : List Part) → o.kernel.bag id ≡ None → rule.hears b o m id (o.view.told id) ≡ Some ps → Form o (Step.Turn m) ps
hears_form b o m id ps none = by_hears (Form o (Step.Turn m)) b o m id (o.view.told id) ps (λ t told. record {
  stale = λ p about late. Nothing refl;
  buried = λ p about kind. Nothing (buries_kept (λ xs. forwards_of xs ≡ []) refl (λ to xs h. h) (preds_of o m p));
  told = λ p x about alive due. grind (arith, nat_tests, sends_none);
  updated = λ kind. Nothing refl;
  updated_none = λ kind at_. Nothing refl;
  no_move = λ at_. Nothing refl;
  leaving = λ to at_. Nothing refl;
  coming = λ from at_. Nothing refl;
  forwarded = λ to moves at_. Own (record { machine = m; acts = refl; id = id; outside = none; told = t; told_is = told; to = to; moves = moves; known = at_.known; are = refl });
  stays_here = λ at_. Nothing refl;
  frozen = λ to at_. Nothing refl;
})

-- the other directives
pub outcome_form : (b : Boot) (o : Point) (d : Step) (ps : List Part) → rule.outcome b o d ≡ Some ps → Form o d ps
outcome_form b o d ps = by_outcome (Form o) b o d ps (record {
  round = λ m xs box e. round_form b o m xs e;
  handles = λ m i is msg xs box there e. handles_form b o m i is msg xs box there e;
  hears = λ m i is xs box none e. hears_form b o m i xs none e;
  ticks = λ m xs net. Nothing ((by_net (λ ps. forwards_of ps ≡ []) refl (λ l ps net h. (let e_ : with_forward l (forwards_of ps) ≡ (forwards_of ps) = grind (arith, nat_tests) in e_) ∙ h) (λ a b l ps h. h)) xs net);
  delivers = λ a c k xs net. Nothing ((by_net (λ ps. forwards_of ps ≡ []) refl (λ l ps net h. (let e_ : with_forward l (forwards_of ps) ≡ (forwards_of ps) = grind (arith, nat_tests) in e_) ∙ h) (λ a b l ps h. h)) xs net);
  asks = λ p m. Nothing (by_migrates (λ (ps : List Part). forwards_of ps ≡ []) o p refl refl (λ n off is. refl));
  calls = λ p m. Nothing (by_calls_off (λ (ps : List Part). forwards_of ps ≡ []) o m p refl (λ from is come. sends_none from (o.view.held m p) (to_kernel MessageKind.CallOff from ∷ [])));
})

-- the messages that lines send on
abbrev sent_on : List Line → List Onward
sent_on [] = []
sent_on (l ∷ ls) = with_forward l (sent_on ls)

with_append : (l : Line) (xs ys : List Onward) → with_forward l (xs ++ ys) ≡ with_forward l xs ++ ys
with_append l xs ys = grind (arith, nat_tests)

sent_append : (xs ys : List Line) → sent_on (xs ++ ys) ≡ sent_on xs ++ sent_on ys
sent_append [] ys = refl
sent_append (x ∷ xs) ys = ap (with_forward x) (sent_append xs ys) ∙ with_append x (sent_on xs) (sent_on ys)

parts_send : (ps : List Part) (pt : Point) (w : Spelled) → spelled pt ps ≡ Some w → sent_on w.lines ≡ forwards_of ps
parts_send =
    -- those of a group's lines are those of its parts
    let part_sends : (pt : Point) (p : Part) (ls : List Line) (fs : List Onward) → lines_of pt p ≡ Some ls → sent_on ls ++ fs ≡ part_forwards p fs = λ pt p ls fs is. grind (arith, nat_tests, lines_are, with_append) in
    by_parts (λ ps pt w. sent_on w.lines ≡ forwards_of ps) (λ pt. refl) (λ p ps pt next ls z lines leads rest. sent_append ls z.lines ∙ ap (λ (fs : List Onward). sent_on ls ++ fs) rest ∙ part_sends pt p ls (forwards_of ps) lines)

-- the only one of a list
none_there : (xs ys : List Onward) (f : Onward) → xs ++ f ∷ ys ≡ [] → ⊥
none_there [] ys f e = cc
none_there (x ∷ xs) ys f e = cc

one_there : (xs ys : List Onward) (f g : Onward) → xs ++ f ∷ ys ≡ g ∷ [] → f ≡ g
one_there [] ys f g e = cc
one_there (x ∷ xs) ys f g e = let h : xs ++ f ∷ ys ≡ [] = cc in absurd (none_there xs ys f h)

there_in : (b : Boot) (o : Point) (d : Step) (w : Spelled) (g : GroupIs b o d w) (id : MsgId) (to : ℕ) (xs ys : List Line) → w.lines ≡ xs ++ Line.Forwarded id to ∷ ys → sent_on xs ++ (id, to) ∷ sent_on ys ≡ forwards_of g.parts
there_in b o d w g id to xs ys e =
    sym (sent_append xs (Line.Forwarded id to ∷ ys)) ∙ sym (ap sent_on e) ∙ sym (ap (λ (x : Spelled). sent_on x.lines) g.whole) ∙ parts_send g.parts (begun o d) g.rest g.said

-- a group that says that a message of the bag is sent on
record Sent (b : Boot) (o : Point) (d : Step) (w : Spelled) (id : MsgId) (to : ℕ) : Type 0 where
  group : GroupIs b o d w
  goes : GoesOn o d group.parts
  id_is : goes.id ≡ id
  to_is : goes.to ≡ to

same_id : (f g : Onward) → f ≡ g → f.0 ≡ g.0
same_id f g e = ap (λ (h : Onward). h.0) e

same_to : (f g : Onward) → f ≡ g → f.1 ≡ g.1
same_to f g e = ap (λ (h : Onward). h.1) e

sent_by : (b : Boot) (o : Point) (d : Step) (w : Spelled) (g : GroupIs b o d w) (id : MsgId) (message : PlainMessage) (to : ℕ) (xs ys : List Line) → o.kernel.bag id ≡ Some message → w.lines ≡ xs ++ Line.Forwarded id to ∷ ys → Form o d g.parts → Sent b o d w id to
sent_by b o d w g id message to xs ys there says (Nothing none) = absurd (none_there (sent_on xs) (sent_on ys) (id, to) (there_in b o d w g id to xs ys says ∙ none))
sent_by b o d w g id message to xs ys there says (Own h) =
    let same = one_there (sent_on xs) (sent_on ys) (id, to) (h.id, h.to) (there_in b o d w g id to xs ys says ∙ ap forwards_of h.are ∙ goes_on o.addresses h.id h.told.kind manager h.to) in
    grind (arith, nat_tests, same_id)
sent_by b o d w g id message to xs ys there says (Plain h) =
    let same = one_there (sent_on xs) (sent_on ys) (id, to) (h.id, h.to) (there_in b o d w g id to xs ys says ∙ ap forwards_of h.are ∙ goes_on o.addresses h.id (plain_kind h.message.what) h.message.sender h.to) in
    record { group = g; goes = h; id_is = sym (same_id (id, to) (h.id, h.to) same); to_is = sym (same_to (id, to) (h.id, h.to) same) }

-- a group that says that a request to move a process is sent on
record SentOwn (b : Boot) (o : Point) (d : Step) (w : Spelled) (id : MsgId) (to : ℕ) : Type 0 where
  group : GroupIs b o d w
  goes : GoesOnOwn o d group.parts
  id_is : goes.id ≡ id
  to_is : goes.to ≡ to

own_by : (b : Boot) (o : Point) (d : Step) (w : Spelled) (g : GroupIs b o d w) (id : MsgId) (t : Told) (to : ℕ) (xs ys : List Line) → Sane o → o.view.told id ≡ Some t → t.kind ≡ MessageKind.Migrate → w.lines ≡ xs ++ Line.Forwarded id to ∷ ys → Form o d g.parts → SentOwn b o d w id to
own_by b o d w g id t to xs ys sane told request says (Nothing none) = absurd (none_there (sent_on xs) (sent_on ys) (id, to) (there_in b o d w g id to xs ys says ∙ none))
own_by b o d w g id t to xs ys sane told request says (Plain h) =
    let same = one_there (sent_on xs) (sent_on ys) (id, to) (h.id, h.to) (there_in b o d w g id to xs ys says ∙ ap forwards_of h.are ∙ goes_on o.addresses h.id (plain_kind h.message.what) h.message.sender h.to) in
    let was : o.view.told h.id ≡ Some t = sym (ap o.view.told (same_id (id, to) (h.id, h.to) same)) ∙ told in
    absurd (grind (arith, nat_tests, (sym (sane.tells.kind h.id h.message t h.there was) ∙ request)))
own_by b o d w g id t to xs ys sane told request says (Own h) =
    let same = one_there (sent_on xs) (sent_on ys) (id, to) (h.id, h.to) (there_in b o d w g id to xs ys says ∙ ap forwards_of h.are ∙ goes_on o.addresses h.id h.told.kind manager h.to) in
    record { group = g; goes = h; id_is = sym (same_id (id, to) (h.id, h.to) same); to_is = sym (same_to (id, to) (h.id, h.to) same) }

-- between the parts of such a group: what its own message will be about, and its name
record Ready (v : View) (a : About) (pt : Point) : Type 0 where
  sane : Sane pt
  fit : PairsFit pt.view
  topic : pt.view.topic ≡ a
  own : own_id pt.view ≡ own_id v

forwarded_ready : (pt next : Point) (id : MsgId) (t : Told) (q : Pid) (to moves : ℕ) → Sane pt → PairsFit pt.view → pt.view.told id ≡ Some t → t.receiver ≡ q → pt.view.known pt.view.acting q ≡ Forward to moves → Steps pt (Says (Line.Forwarded id to)) next
    → Ready pt.view (view.Place q to moves) next
forwarded_ready pt next id t q to moves sane fit told receiver known s =
    let l = Line.Forwarded id to in
    let k = said_by pt next l s in
    search (arith, part_sane pt next (Says l) s.lines refl s.are s.leads sane, k.is, fits_as, pt.view, pair_same, forwarded_own, pt.view.told)

again_ready : (v : View) (a : About) (pt next : Point) (id : MsgId) (to : ℕ) → Steps pt (Again id to) next → Ready v a pt → Ready v a next
again_ready v a pt next id to s h = record {
  sane = part_sane pt next (Again id to) s.lines tt s.are s.leads h.sane;
  fit = again_rides (λ (x : Point). PairsFit x.view) (record { put = λ x c d i m r k. fits_put x.view c d i m r k; packet = λ x c d n m k. fits_packet x.view c d n m k }) pt next id to s h.fit;
  topic = again_rides (λ (x : Point). x.view.topic ≡ a) (record { put = λ x c d i m r k. k; packet = λ x c d n m k. k }) pt next id to s h.topic;
  own = (again_same pt next id to s.lines s.are s.leads).own ∙ h.own;
}

-- then an update that nothing was told of before is under way
record New (v next : View) (p q : Pid) (place : Place) : Type 0 where
  update : MsgId
  new : v.told update ≡ None
  way : IsUnderWay next update p q place

record Put (i : MsgId) (u : Told) (next : Point) : Type 0 where
  told : next.view.told i ≡ Some u
  stands : Stands next.view i

put_new : (v : View) (pt next : Point) (p q : Pid) (place : Place) (b : ℕ) → v.told (own_id v) ≡ None → Ready v (view.Place q place.at place.moves) pt → Steps pt (Owns MessageKind.Update p b) next → New v next.view p q place
put_new v pt next p q place b new h s =
    let i = own_id pt.view in
    let a = view.Place q place.at place.moves in
    let u : Told = record { kind = MessageKind.Update; receiver = p; about = pt.view.topic } in
    let put : Put i (update_of p q place) next =
    puts_lead (Put i (update_of p q place)) (λ x c d k l e. record { told = e.told; stands = packet_stands x.view c d k l i e.stands }) pt next b i MessageKind.Update p s.lines
    (record {
      told = put_at pt.view pt.view.acting b i MessageKind.Update p ∙ first_none (pt.view.told i) u (own_fresh pt h.sane) ∙ ap (λ (x : About). Some (record { kind = MessageKind.Update; receiver = p; about = x })) h.topic;
      stands = put_this pt.view pt.view.acting b i MessageKind.Update p h.fit;
    }) s.are s.leads in
    record { update = i; new = ap v.told h.own ∙ new; way = record { told = put.told; spot = put.stands.spot; stands = put.stands.least } }

-- where the parts of such a group lead
tells : (pt : Point) (w : Spelled) (id : MsgId) (sender : Pid) (place : Place) (back : ℕ) (t : Told) (q : Pid) → Sane pt → PairsFit pt.view → pt.view.told id ≡ Some t → t.receiver ≡ q → pt.view.known pt.view.acting q ≡ Forward place.at place.moves
    → spelled pt (Says (Line.Forwarded id place.at) ∷ Again id place.at ∷ Owns MessageKind.Update sender back ∷ []) ≡ Some w → New pt.view w.point.view sender q place
tells pt w id sender place back t q sane fit told receiver known is =
    let last = Owns MessageKind.Update sender back in
    let n = next_of pt (Says (Line.Forwarded id place.at)) (Again id place.at ∷ last ∷ []) w is in
    let k = next_of n.next (Again id place.at) (last ∷ []) n.rest n.more in
    let z = next_of k.next last [] k.rest k.more in
    let ready = again_ready pt.view (view.Place q place.at place.moves) n.next k.next id place.at k.steps (forwarded_ready pt n.next id t q place.at place.moves sane fit told receiver known n.steps) in
    let new = put_new pt.view k.next z.next sender q place back (own_fresh pt sane) ready z.steps in
    let to : Point → Type 0 = λ x. New pt.view x.view sender q place in
    subst to n.point (subst to k.point (subst to z.point (subst to (last_point z.next z.rest z.more) new)))

-- where the group begins
turn_fits : (v : View) (m : ℕ) → PairsFit v → PairsFit (view.after_head v (Step.Turn m))
turn_fits v m h = record { within = h.within; home = h.home }

-- it goes on, and its sender is told
sent_tells : (b : Boot) (o : Point) (d : Step) (w : Spelled) (g : GroupIs b o d w) (h : GoesOn o d g.parts) → Run b o → is_told_back (plain_kind h.message.what) ≡ true → Tells d o w.point h.message.sender h.message.to h.to
sent_tells b o d w g h run back =
    let p = h.message.sender in
    let q = h.message.to in
    let place : Place = record { at = h.to; moves = h.moves } in
    let sane = run.based.phased.sane in
    let f = front b h.machine o h.id h.rest h.message h.box h.there run in
    let begins : (begun o d).view ≡ view.after_head o.view (Step.Turn h.machine) = ap (λ (e : Step). view.after_head o.view e) h.acts in
    let known : (begun o d).view.known (begun o d).view.acting q ≡ Forward h.to h.moves = ap (λ (v : View). v.known v.acting q) begins ∙ h.known in
    let told : (begun o d).view.told h.id ≡ Some f.told = ap (λ (v : View). v.told h.id) begins ∙ f.told_is in
    let fit : PairsFit (begun o d).view = subst PairsFit (sym begins) (turn_fits o.view h.machine (fits o.view run.based.phased.pairs)) in
    let said = sym (ap (spelled (begun o d)) (let e_ : g.parts ≡ Says (Line.Forwarded h.id h.to) ∷ Again h.id h.to ∷ Owns MessageKind.Update h.message.sender (o.addresses (Sender h.id)).at ∷ [] = search in e_)) ∙ g.said in
    let t = tells (begun o d) g.rest h.id p place (o.addresses (Sender h.id)).at f.told q (begun_sane o d sane) fit told (sane.tells.receiver h.id h.message f.told h.there f.told_is) known said in
    record {
      turn = h.acts ∙ ap (λ (e : Step). Step.Turn (actor o.view e)) (sym h.acts);
      moves = h.moves;
      known = ap (λ (e : Step). o.view.known (actor o.view e) q) h.acts ∙ h.known;
      update = t.update;
      new = ap (λ (v : View). v.told t.update) (sym begins) ∙ t.new;
      way = subst (λ (x : Spelled). IsUnderWay x.point.view t.update p q place) g.whole t.way;
    }

-- wherever the rule leads
pub forwards_tell : ForwardsTell
forwards_tell b es pt d w p q to valid leads f =
    let run = (run_always b es pt valid leads).run in
    let g = group_is b pt d w f.is in
    let s = sent_by b pt d w g f.id f.message to f.earlier f.later f.there f.says (outcome_form b pt d g.parts g.is) in
    let h = s.goes in
    let same : Some h.message ≡ Some f.message = sym h.there ∙ ap pt.kernel.bag s.id_is ∙ f.there in
    let message : h.message ≡ f.message = cc in
    let back : is_told_back (plain_kind h.message.what) ≡ true = ap (λ (m : PlainMessage). is_told_back (plain_kind m.what)) message ∙ f.told_back in
    let t = sent_tells b pt d w s.group h run back in
    let sender : h.message.sender ≡ p = ap (λ (m : PlainMessage). m.sender) message ∙ f.sender in
    let receiver : h.message.to ≡ q = ap (λ (m : PlainMessage). m.to) message ∙ f.receiver in
    subst (λ (n : ℕ). Tells d pt w.point p q n) s.to_is
    (subst (λ (r : Pid). Tells d pt w.point r q h.to) sender
    (subst (λ (r : Pid). Tells d pt w.point h.message.sender r h.to) receiver t))

-- a request to move goes on, and the manager is told
own_tells : (b : Boot) (o : Point) (d : Step) (w : Spelled) (g : GroupIs b o d w) (h : GoesOnOwn o d g.parts) → Run b o → is_told_back h.told.kind ≡ true → Tells d o w.point manager h.told.receiver h.to
own_tells b o d w g h run back =
    let q = h.told.receiver in
    let place : Place = record { at = h.to; moves = h.moves } in
    let sane = run.based.phased.sane in
    let begins : (begun o d).view ≡ view.after_head o.view (Step.Turn h.machine) = ap (λ (e : Step). view.after_head o.view e) h.acts in
    let known : (begun o d).view.known (begun o d).view.acting q ≡ Forward h.to h.moves = ap (λ (v : View). v.known v.acting q) begins ∙ h.known in
    let told : (begun o d).view.told h.id ≡ Some h.told = ap (λ (v : View). v.told h.id) begins ∙ h.told_is in
    let fit : PairsFit (begun o d).view = subst PairsFit (sym begins) (turn_fits o.view h.machine (fits o.view run.based.phased.pairs)) in
    let said = sym (ap (spelled (begun o d)) (h.are ∙ ap (λ (c : Bool). Says (Line.Forwarded h.id h.to) ∷ Again h.id h.to ∷ (if c then Owns MessageKind.Update manager (o.addresses (Sender h.id)).at ∷ [] else [])) back)) ∙ g.said in
    let t = tells (begun o d) g.rest h.id manager place (o.addresses (Sender h.id)).at h.told q (begun_sane o d sane) fit told refl known said in
    record {
      turn = h.acts ∙ ap (λ (e : Step). Step.Turn (actor o.view e)) (sym h.acts);
      moves = h.moves;
      known = ap (λ (e : Step). o.view.known (actor o.view e) q) h.acts ∙ h.known;
      update = t.update;
      new = ap (λ (v : View). v.told t.update) (sym begins) ∙ t.new;
      way = subst (λ (x : Spelled). IsUnderWay x.point.view t.update manager q place) g.whole t.way;
    }

-- wherever the rule leads
pub requests_tell : RequestsTell
requests_tell b es pt d w q to valid leads f =
    let run = (run_always b es pt valid leads).run in
    let g = group_is b pt d w f.is in
    let s = own_by b pt d w g f.id f.told to f.earlier f.later run.based.phased.sane f.there f.request f.says (outcome_form b pt d g.parts g.is) in
    let h = s.goes in
    let same : Some h.told ≡ Some f.told = sym h.told_is ∙ ap pt.view.told s.id_is ∙ f.there in
    let told : h.told ≡ f.told = cc in
    let back : is_told_back h.told.kind ≡ true = ap (λ (t : Told). is_told_back t.kind) told ∙ ap is_told_back f.request in
    let t = own_tells b pt d w s.group h run back in
    let receiver : h.told.receiver ≡ q = ap (λ (x : Told). x.receiver) told ∙ f.receiver in
    subst (λ (n : ℕ). Tells d pt w.point manager q n) s.to_is (subst (λ (r : Pid). Tells d pt w.point manager r h.to) receiver t)
