-- Each group keeps what was told of kernels' own messages.
use Rattle.dm_law_always.proofs.Names.{◌≡◌, ℕ, Bool, true, false, List, [], ◌∷◌, refl, ap, ◌∙◌, sym, subst, inl, inr, ⊤, if◌then◌else◌, Option, None, Some, cases_Bool, false≢true, Pid, MsgId, MessageKind, id_eq, plain_kind, Boot, Label}
use Rattle.dm_law_always.proofs.Names.{OneKernel, bind, id_eq-is, bind-is, Step, Line, Stage, Receiver, Point, label_of, kernel_after, after_line, after, moved, Part, Says, Routes, Again, Owns, Transmits, Spelled, lines_of, puts, packet_line}
use Rattle.dm_law_always.proofs.Names.{behind, spelled, group_of, View, About, Told, view_after, is_kernels, own_id, is_put, hushed, not_kernels, put_told_off, Sane, sane_line, part_sane, Sayable, AllSayable, outcome_sayable, seen_none, sets}
use Rattle.dm_law_always.proofs.Names.{arith, handled, receiver_of, seen, topic_by}
use Rattle.dm_law_rule.specs.View as view
use Rattle.dm_law_always.proofs.Runs.{Run}
use Rattle.dm_law_always.proofs.Own.Told.{OwnTold, own_sort, HasNoOwn, HaveNoOwn, topic_stage, Later, OwnsFit, senders_step, NoOwns, FirstOwns, ThenOwns, AnyOwns, EndsOwns}
use Rattle.dm_law_always.proofs.Goes.Parts.{put_lines}
use Rattle.dm_law_always.proofs.Goes.Always.{group_on}
use Rattle.dm_law_always.proofs.Based.Needs.{by_puts}
use Rattle.dm_law_rule.proofs.Phases.EndLines.{dropped_topic}

-- a line that is no put
own_by : (pt : Point) (l : Line) (o : Option Label) (s : OneKernel) → is_put l ≡ false → kernel_after pt.kernel o ≡ Some s → Sane pt → OwnTold pt → OwnTold (moved pt l s)
own_by pt l o s h1 h2 h3 h4 = search (arith, pt.kernel, hushed, pt.view, senders_step)

own_line : (pt next : Point) (l : Line) → is_put l ≡ false → after_line pt l ≡ Some next → Sane pt → OwnTold pt → OwnTold next
own_line pt next l quiet is sane h =
    let (s, comes, last) = bind-is (kernel_after pt.kernel (label_of l)) (λ s. Some (moved pt l s)) next is in
    let f : moved pt l s ≡ next = cc in
    subst OwnTold f (own_by pt l (label_of l) s quiet comes sane h)

-- a put
first_sort : (pt : Point) (i : MsgId) (k : MessageKind) (q : Pid) (o : Option Told) (t : Told) → pt.view.told i ≡ o → Some (view.first_told o (record { kind = k; receiver = q; about = pt.view.topic })) ≡ Some t → is_kernels i ≡ true
    → (is_kernels i ≡ true → o ≡ None → own_sort k q pt.view.topic ≡ true) → OwnTold pt → own_sort t.kind t.receiver t.about ≡ true
first_sort pt i k q None t is e mine right h = let f : record { kind = k; receiver = q; about = pt.view.topic } ≡ t = cc in subst (λ (u : Told). own_sort u.kind u.receiver u.about ≡ true) f (right mine refl)
first_sort pt i k q (Some u) t is e mine right h = let f : u ≡ t = cc in subst (λ (u : Told). own_sort u.kind u.receiver u.about ≡ true) f (h.own i u is mine)

own_put : (pt : Point) (a b : ℕ) (i : MsgId) (k : MessageKind) (q : Pid) → (is_kernels i ≡ true → pt.view.told i ≡ None → own_sort k q pt.view.topic ≡ true) → OwnTold pt → OwnTold (moved pt (Line.Put a b i k q) pt.kernel)
own_put pt a b i k q right h = record {
  own = λ j t told mine. elim (cases_Bool (id_eq i j)) [
    | inl same ↦
        first_sort pt i k q (pt.view.told i) t refl (sym (ap (λ (c : Bool). if c then Some (view.first_told (pt.view.told i) (record { kind = k; receiver = q; about = pt.view.topic })) else pt.view.told j) same) ∙ told)
        (ap is_kernels (id_eq-is i j same) ∙ mine) right h
    | inr apart ↦ h.own j t (sym (put_told_off pt.view a b i j k q apart) ∙ told) mine
  ];
  sender = h.sender;
}

-- a part
abbrev IsRight : Point → Part → Type 0
IsRight pt (Owns k q b) = own_sort k q pt.view.topic ≡ true
IsRight pt _ = ⊤

pub one_line : (pt next : Point) (l : Line) (ls : List Line) → is_put l ≡ false → Some (l ∷ []) ≡ Some ls → after pt ls ≡ Some next → Sane pt → OwnTold pt → OwnTold next
one_line pt next l ls quiet is leads sane h =
    let f : l ∷ [] ≡ ls = cc in
    let (mid, first, last) = bind-is (after_line pt l) (λ q. after q []) next (ap (after pt) f ∙ leads) in
    let g : mid ≡ next = cc in
    subst OwnTold g (own_line pt mid l quiet first sane h)

puts_lead : (pt next : Point) (b : ℕ) (i : MsgId) (k : MessageKind) (q : Pid) (ls : List Line) → (is_kernels i ≡ true → pt.view.told i ≡ None → own_sort k q pt.view.topic ≡ true) → Some (puts pt.view b i k q) ≡ Some ls → after pt ls ≡ Some next → OwnTold pt → OwnTold next
puts_lead pt next b i k q ls right is leads h = by_puts OwnTold pt next b i k q ls (own_put pt pt.view.acting b i k q right h) (λ p x y z l o. record { own = o.own; sender = o.sender }) is leads

own_part : (pt next : Point) (p : Part) (ls : List Line) → Sayable p → IsRight pt p → lines_of pt p ≡ Some ls → after pt ls ≡ Some next → Sane pt → OwnTold pt → OwnTold next
own_part pt next (Says l) ls ok right is leads sane h = one_line pt next l ls ok is leads sane h
own_part pt next (Routes i) ls ok right is leads sane h =
    let (m, there, last) = bind-is (pt.kernel.bag i) (λ m. Some (puts pt.view (pt.addresses (Receiver i)).at i (plain_kind m.what) m.to)) ls is in
    puts_lead pt next (pt.addresses (Receiver i)).at i (plain_kind m.what) m.to ls (λ mine none. absurd (false≢true (sym (not_kernels sane.r sane.e pt.kernel i m there sane.sound) ∙ mine))) last leads h
own_part pt next (Again i b) ls ok right is leads sane h =
    let (t, there, last) = bind-is (pt.view.told i) (λ t. Some (puts pt.view b i t.kind t.receiver)) ls is in
    puts_lead pt next b i t.kind t.receiver ls (λ mine none. absurd (let f : None ≡ Some t = sym none ∙ there in cc)) last leads h
own_part pt next (Owns k q b) ls ok right is leads sane h = puts_lead pt next b (own_id pt.view) k q ls (λ mine none. right) is leads h
own_part pt next (Transmits a b l) ls ok right is leads sane h = one_line pt next (packet_line pt.view a b l) ls refl is leads sane h

-- the first part, and the rest
record Next (pt : Point) (p : Part) (ps : List Part) (w : Spelled) : Type 0 where
  ls : List Line
  lines : lines_of pt p ≡ Some ls
  next : Point
  leads : after pt ls ≡ Some next
  rest : Spelled
  more : spelled next ps ≡ Some rest
  point : rest.point ≡ w.point

next_of : (pt : Point) (p : Part) (ps : List Part) (w : Spelled) → spelled pt (p ∷ ps) ≡ Some w → Next pt p ps w
next_of pt p ps w is =
    let (ls, lines, rest) = bind-is (lines_of pt p) (λ (xs : List Line). bind (after pt xs) (λ (q : Point). bind (spelled q ps) (λ (z : Spelled). Some (behind xs z)))) w is in
    let (next, leads, last) = bind-is (after pt ls) (λ (q : Point). bind (spelled q ps) (λ (z : Spelled). Some (behind ls z))) w rest in
    let (z, more, end) = bind-is (spelled next ps) (λ (y : Spelled). Some (behind ls y)) w last in
    let f : behind ls z ≡ w = cc in
    record { ls = ls; lines = lines; next = next; leads = leads; rest = z; more = more; point = ap (λ (x : Spelled). x.point) f }

none_right : (pt : Point) (p : Part) → HasNoOwn p → IsRight pt p
none_right pt (Owns k q b) h = absurd h
none_right pt _ h = tt

none_own : (ps : List Part) (pt : Point) (w : Spelled) → AllSayable ps → HaveNoOwn ps → spelled pt ps ≡ Some w → Sane pt → OwnTold pt → OwnTold w.point
none_own [] pt w ok none is sane h = let f : record { lines = []; point = pt } ≡ w = cc in subst (λ (x : Spelled). OwnTold x.point) f h
none_own (p ∷ ps) pt w ok none is sane h =
    let n = next_of pt p ps w is in
    subst OwnTold n.point (none_own ps n.next n.rest ok.1 none.1 n.more (part_sane pt n.next p n.ls ok.0 n.lines n.leads sane) (own_part pt n.next p n.ls ok.0 (none_right pt p none.0) n.lines n.leads sane h))

-- what a put leaves the group to be about
line_topic : (pt next : Point) (l : Line) (ls : List Line) → label_of l ≡ None → Some (l ∷ []) ≡ Some ls → after pt ls ≡ Some next → next.view ≡ view_after pt.view l
line_topic pt next l ls none is leads = search (arith, pt.kernel, seen_none, pt.view)

puts_topic : (pt next : Point) (b : ℕ) (i : MsgId) (k : MessageKind) (q : Pid) (ls : List Line) → Some (puts pt.view b i k q) ≡ Some ls → after pt ls ≡ Some next → next.view.topic ≡ pt.view.topic
puts_topic pt next b i k q ls is leads =
    let p = put_lines pt b i k q in
    let f : puts pt.view b i k q ≡ ls = cc in
    let e : Some p.q ≡ Some next = sym p.is ∙ ap (after pt) f ∙ leads in
    let g : p.q ≡ next = cc in
    ap (λ (q : Point). q.view.topic) (sym g) ∙ p.topic

stage_topic : (v : View) (p : Pid) (s : Stage) → (view_after v (Line.Migration s p)).topic ≡ topic_stage v.topic p s
stage_topic v p Stage.Frozen = (sets v p v.topic).topic
stage_topic v p _ = refl

-- and a label
label_seen : (pt next : Point) (l : Label) (ls : List Line) → Some (Line.Label l ∷ []) ≡ Some ls → after pt ls ≡ Some next → next.view ≡ seen pt.kernel pt.view (Line.Label l)
label_seen pt next l ls is leads =
    let f : Line.Label l ∷ [] ≡ ls = cc in
    let (mid, first, last) = bind-is (after_line pt (Line.Label l)) (λ q. after q []) next (ap (after pt) f ∙ leads) in
    let (s, step_, then_) = bind-is (kernel_after pt.kernel (Some l)) (λ s. Some (moved pt (Line.Label l) s)) mid first in
    let g : moved pt (Line.Label l) s ≡ mid = cc in
    let e : mid ≡ next = cc in
    ap (λ (q : Point). q.view) (sym (g ∙ e))

later_own : (a : About) (ps : List Part) (pt : Point) (w : Spelled) → AllSayable ps → Later a ps → pt.view.topic ≡ a → spelled pt ps ≡ Some w → Sane pt → OwnTold pt → OwnTold w.point
later_own a [] pt w ok fit topic is sane h = let f : record { lines = []; point = pt } ≡ w = cc in subst (λ (x : Spelled). OwnTold x.point) f h
later_own a (Again i b ∷ ps) pt w ok fit topic is sane h =
    let n = next_of pt (Again i b) ps w is in
    let (t, there, last) = bind-is (pt.view.told i) (λ t. Some (puts pt.view b i t.kind t.receiver)) n.ls n.lines in
    subst OwnTold n.point (later_own a ps n.next n.rest ok.1 fit (puts_topic pt n.next b i t.kind t.receiver n.ls last n.leads ∙ topic) n.more (part_sane pt n.next (Again i b) n.ls ok.0 n.lines n.leads sane) (own_part pt n.next (Again i b) n.ls ok.0 tt n.lines n.leads sane h))
later_own a (Owns k q b ∷ ps) pt w ok fit topic is sane h =
    let n = next_of pt (Owns k q b) ps w is in
    subst OwnTold n.point (later_own a ps n.next n.rest ok.1 fit.1 (puts_topic pt n.next b (own_id pt.view) k q n.ls n.lines n.leads ∙ topic) n.more (part_sane pt n.next (Owns k q b) n.ls ok.0 n.lines n.leads sane)
    (own_part pt n.next (Owns k q b) n.ls ok.0 (ap (own_sort k q) topic ∙ fit.0) n.lines n.leads sane h))
later_own a (Says (Line.Migration s p) ∷ ps) pt w ok fit topic is sane h =
    let l = Line.Migration s p in
    let n = next_of pt (Says l) ps w is in
    subst OwnTold n.point (later_own (topic_stage a p s) ps n.next n.rest ok.1 fit (ap (λ (v : View). v.topic) (line_topic pt n.next l n.ls refl n.lines n.leads) ∙ stage_topic pt.view p s ∙ ap (λ (b : About). topic_stage b p s) topic) n.more
    (part_sane pt n.next (Says l) n.ls ok.0 n.lines n.leads sane) (own_part pt n.next (Says l) n.ls ok.0 tt n.lines n.leads sane h))
later_own a (Says (Line.Label (Label.End p y)) ∷ ps) pt w ok fit topic is sane h =
    let l = Label.End p y in
    let n = next_of pt (Says (Line.Label l)) ps w is in
    subst OwnTold n.point (later_own (About.Of p) ps n.next n.rest ok.1 fit (ap (λ (v : View). v.topic) (label_seen pt n.next l n.ls n.lines n.leads)) n.more
    (part_sane pt n.next (Says (Line.Label l)) n.ls ok.0 n.lines n.leads sane) (own_part pt n.next (Says (Line.Label l)) n.ls ok.0 tt n.lines n.leads sane h))
later_own a (Says (Line.Label (Label.Dropped i)) ∷ ps) pt w ok fit topic is sane h =
    let l = Label.Dropped i in
    let n = next_of pt (Says (Line.Label l)) ps w is in
    subst OwnTold n.point (later_own a ps n.next n.rest ok.1 fit (ap (λ (v : View). v.topic) (label_seen pt n.next l n.ls n.lines n.leads) ∙ dropped_topic (handled pt.view i) i (receiver_of (pt.view.told i)) ∙ topic) n.more
    (part_sane pt n.next (Says (Line.Label l)) n.ls ok.0 n.lines n.leads sane) (own_part pt n.next (Says (Line.Label l)) n.ls ok.0 tt n.lines n.leads sane h))
later_own a _ pt w ok fit topic is sane h = absurd fit

-- behind a first line
then_own : (l : Line) (qs : List Part) (pt : Point) (w : Spelled) → label_of l ≡ None → AllSayable (Says l ∷ qs) → Later (view_after pt.view l).topic qs → spelled pt (Says l ∷ qs) ≡ Some w → Sane pt → OwnTold pt → OwnTold w.point
then_own l qs pt w none ok fit is sane h =
    let n = next_of pt (Says l) qs w is in
    subst OwnTold n.point (later_own (view_after pt.view l).topic qs n.next n.rest ok.1 fit (ap (λ (v : View). v.topic) (line_topic pt n.next l n.ls none n.lines n.leads)) n.more
    (part_sane pt n.next (Says l) n.ls ok.0 n.lines n.leads sane) (own_part pt n.next (Says l) n.ls ok.0 tt n.lines n.leads sane h))

-- behind a line of any kind
any_own : (l : Line) (qs : List Part) (pt : Point) (w : Spelled) → AllSayable (Says l ∷ qs) → ((a : About) → Later a qs) → spelled pt (Says l ∷ qs) ≡ Some w → Sane pt → OwnTold pt → OwnTold w.point
any_own l qs pt w ok fit is sane h =
    let n = next_of pt (Says l) qs w is in
    subst OwnTold n.point (later_own n.next.view.topic qs n.next n.rest ok.1 (fit n.next.view.topic) refl n.more (part_sane pt n.next (Says l) n.ls ok.0 n.lines n.leads sane) (own_part pt n.next (Says l) n.ls ok.0 tt n.lines n.leads sane h))

-- behind a label that asks nothing to move
label_own : (l : Label) (qs : List Part) (pt : Point) (w : Spelled) → ((s : OneKernel) (b : About) → topic_by s b (Some l) ≡ b) → AllSayable (Says (Line.Label l) ∷ qs) → Later (view_after pt.view (Line.Label l)).topic qs → spelled pt (Says (Line.Label l) ∷ qs) ≡ Some w → Sane pt → OwnTold pt
    → OwnTold w.point
label_own l qs pt w kept ok fit is sane h =
    let n = next_of pt (Says (Line.Label l)) qs w is in
    let topic = (view_after pt.view (Line.Label l)).topic in
    subst OwnTold n.point (later_own topic qs n.next n.rest ok.1 fit (ap (λ (v : View). v.topic) (label_seen pt n.next l n.ls n.lines n.leads) ∙ kept pt.kernel topic) n.more
    (part_sane pt n.next (Says (Line.Label l)) n.ls ok.0 n.lines n.leads sane) (own_part pt n.next (Says (Line.Label l)) n.ls ok.0 tt n.lines n.leads sane h))

fits_own : (ps : List Part) (pt : Point) (w : Spelled) → AllSayable ps → OwnsFit pt.view ps → spelled pt ps ≡ Some w → Sane pt → OwnTold pt → OwnTold w.point
fits_own ps pt w ok (NoOwns none) is sane h = none_own ps pt w ok none is sane h
fits_own ps pt w ok (FirstOwns fit) is sane h = later_own pt.view.topic ps pt w ok fit refl is sane h
fits_own ps pt w ok (AnyOwns l qs same fit) is sane h = any_own l qs pt w (subst AllSayable same ok) fit (ap (spelled pt) (sym same) ∙ is) sane h
fits_own ps pt w ok (EndsOwns l qs same kept fit) is sane h = label_own l qs pt w kept (subst AllSayable same ok) fit (ap (spelled pt) (sym same) ∙ is) sane h
fits_own ps pt w ok (ThenOwns l qs same none fit) is sane h = then_own l qs pt w none (subst AllSayable same ok) fit (ap (spelled pt) (sym same) ∙ is) sane h

pub own_told_group : (b : Boot) (pt : Point) (d : Step) (w : Spelled) → group_of b pt d ≡ Some w → Run b pt → OwnTold pt → OwnTold w.point
own_told_group b pt d w is run h =
    let k = group_on b pt d run h in
    let g = k.goes in
    let begun = moved pt (Line.Head d) pt.kernel in
    let sane : Sane begun = sane_line pt begun (Line.Head d) refl refl run.based.phased.sane in
    let same : g.w ≡ w = (let f : Some g.w ≡ Some w = sym g.is ∙ is in cc) in
    subst OwnTold (sym g.point ∙ ap (λ (x : Spelled). x.point) same)
    (fits_own g.parts begun g.behind_head (outcome_sayable b pt d g.parts g.outcome_is) k.owns g.spells sane (own_line pt begun (Line.Head d) refl refl run.based.phased.sane h))
