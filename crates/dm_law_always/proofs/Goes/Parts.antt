-- Parts that can be said: labels are steps of the kernel, and other lines change nothing of it.
use Rattle.dm_law_always.proofs.Names.{after_line, ◌≡◌, ℕ, ◌==◌, not, filter, arith, Bool, true, false, List, [], ◌∷◌, ◌++◌, length, refl, ap, ◌∙◌, sym, subst, is_some, ⊤, if◌then◌else◌, Option, None, Some, Pid, MsgId, MessageKind}
use Rattle.dm_law_always.proofs.Names.{plain_kind, PlainMessage, Boot, Label, OneKernel, bind, Step, Line, Load, View, Told, view_after, own_id, Receiver, Point, labels, with_label, label_of, kernel_after, after, moved, Part, Says, Routes}
use Rattle.dm_law_always.proofs.Names.{Again, Owns, Transmits, Spelled, lines_of, puts, packet_line, behind, spelled, group_of, outcome, Pair, counts, IsNetLine, IsNet, is_put, hushed, Sane, sane_line, part_sane, AskNone, seen, topic_by}
use Rattle.dm_law_always.proofs.Names.{seen_none, map, to_kernel}
use Rattle.dm_law_always.proofs.Order.Lines.{thin_same, box_same, Which, Ord, ord_view, ord_label, Last}
use Rattle.dm_law_always.proofs.Queued.{is_user}
use Rattle.dm_law_always.proofs.Order.Puts.{thin_pair, ord_put, ord_taken}
use Rattle.dm_law_always.proofs.Own.Told.{HaveNoOwn, OwnsFit, NoOwns}
use Rattle.dm_onekernel.specs.Step as kernel
use Rattle.dm_law_rule.specs.View as view
use Rattle.dm_law_rule.specs.Rule as rule

-- the labels that parts say
abbrev pub part_says : Part → List Label → List Label
part_says (Says l) ls = with_label (label_of l) ls
part_says _ ls = ls

abbrev pub said : List Part → List Label
said [] = []
said (p ∷ ps) = part_says p (said ps)

-- no process is asked to move
abbrev pub NoAsk : Label → Type 0
NoAsk (Label.Asked i) = ⊥
NoAsk l = ⊤

abbrev pub AsksNone : List Label → Type 0
AsksNone [] = ⊤
AsksNone (l ∷ ls) = NoAsk l × AsksNone ls

pub unasked : (ls : List Line) → AskNone ls → AsksNone (labels ls)
unasked [] h = tt
unasked (l ∷ ls) h = search (arith, label_of l, labels ls, unasked ls h.1, h.0)

-- the parts can be said, and under some condition they keep the order in which messages were sent
abbrev pub KeepsOrder : Point → Point → Type 0
KeepsOrder pt q = (k : Which) → Ord k pt.kernel pt.view → Ord k q.kernel q.view

pub record Does (C : Type 0) (pt : Point) (ps : List Part) : Type 0 where
  pub w : Spelled
  pub is : spelled pt ps ≡ Some w
  pub says : labels w.lines ≡ said ps
  pub order : C → AsksNone (said ps) → Sane pt → KeepsOrder pt w.point

part_tail : (p : Part) (ls : List Label) → AsksNone (part_says p ls) → AsksNone ls
part_tail (Says l) ls h = search arith
part_tail _ ls h = h

pub does_nothing : (C : Type 0) (pt : Point) → Does C pt []
does_nothing C pt = record { w = record { lines = []; point = pt }; is = refl; says = refl; order = λ c a s k o. o }

-- lines, and then parts
pub does_lines : (C : Type 0) (pt q : Point) (p : Part) (ls : List Line) (ps : List Part) → lines_of pt p ≡ Some ls → after pt ls ≡ Some q → ((zs : List Line) → labels (ls ++ zs) ≡ part_says p (labels zs)) → (C → Sane pt → Sane q × KeepsOrder pt q) → Does C q ps → Does C pt (p ∷ ps)
does_lines C pt q p ls ps lines comes tells keeps d = record {
  w = behind ls d.w;
  is = ap (λ (o : Option (List Line)). bind o (λ (xs : List Line). bind (after pt xs) (λ (n : Point). bind (spelled n ps) (λ (z : Spelled). Some (behind xs z))))) lines
      ∙ ap (λ (o : Option Point). bind o (λ (n : Point). bind (spelled n ps) (λ (z : Spelled). Some (behind ls z)))) comes
      ∙ ap (λ (o : Option Spelled). bind o (λ (z : Spelled). Some (behind ls z))) d.is;
  says = tells d.w.lines ∙ ap (part_says p) d.says;
  order = λ c a s. (let n = keeps c s in λ k o. d.order c (part_tail p (said ps) a) n.0 k (n.1 k o));
}

after_one : (pt : Point) (l : Line) (s : OneKernel) → kernel_after pt.kernel (label_of l) ≡ Some s → after pt (l ∷ []) ≡ Some (moved pt l s)
after_one pt l s e = ap (λ (o : Option OneKernel). bind (bind o (λ (s : OneKernel). Some (moved pt l s))) (λ (n : Point). after n [])) e

pub sane_by : (pt : Point) (l : Line) (t : OneKernel) → is_put l ≡ false → kernel_after pt.kernel (label_of l) ≡ Some t → Sane pt → Sane (moved pt l t)
sane_by pt l t quiet is s = sane_line pt (moved pt l t) l quiet (ap (λ (o : Option OneKernel). bind o (λ (u : OneKernel). Some (moved pt l u))) is) s

-- the topic is no place
ord_seen : (q : Which) (t : OneKernel) (w : View) (a : view.About) → Ord q t w → Ord q t (view.about w a)
ord_seen q t w a o = ord_view q t w (view.about w a) (thin_same q w (view.about w a) refl (box_same w q.to.home) (λ m. refl) (λ j. refl)) o

ord_none : (q : Which) (s : OneKernel) (v : View) (l : Line) → label_of l ≡ None → Ord q s (view_after v l) → Ord q s (seen s v l)
ord_none q s v l none o = subst (Ord q s) (sym (seen_none s v l none)) o

pub does_label : (C : Type 0) (pt : Point) (l : Label) (t : OneKernel) (ps : List Part) → kernel.step pt.kernel l ≡ Some t → Does C (moved pt (Line.Label l) t) ps → Does C pt (rule.says l ∷ ps)
does_label C pt l t ps is d =
    does_lines C pt (moved pt (Line.Label l) t) (rule.says l) (Line.Label l ∷ []) ps refl (after_one pt (Line.Label l) t is) (λ zs. refl) (λ c s. (sane_by pt (Line.Label l) t refl is s, λ k o. ord_seen k t (view.after_label pt.view l) (topic_by pt.kernel (view.after_label pt.view l).topic (Some l)) (ord_label k pt l t s is o))) d

pub does_line : (C : Type 0) (pt : Point) (l : Line) (ps : List Part) → label_of l ≡ None → is_put l ≡ false → (C → (k : Which) → Ord k pt.kernel pt.view → Ord k pt.kernel (view_after pt.view l)) → Does C (moved pt l pt.kernel) ps → Does C pt (Says l ∷ ps)
does_line C pt l ps none quiet keeps d =
    let is : kernel_after pt.kernel (label_of l) ≡ Some pt.kernel = ap (kernel_after pt.kernel) none in
    does_lines C pt (moved pt l pt.kernel) (Says l) (l ∷ []) ps refl (after_one pt l pt.kernel is) (λ zs. refl) (λ c s. (sane_by pt l pt.kernel quiet is s, λ k o. ord_none k pt.kernel pt.view l none (keeps c k o))) d

-- a process is asked to move: so no order is asked for
pub does_asks : (C : Type 0) (pt : Point) (i : MsgId) (t : OneKernel) (ps : List Part) → kernel.step pt.kernel (Label.Asked i) ≡ Some t → Does ⊥ (moved pt (Line.Label (Label.Asked i)) t) ps → Does C pt (rule.says (Label.Asked i) ∷ ps)
does_asks C pt i t ps is d = let e = does_label ⊥ pt (Label.Asked i) t ps is d in record { w = e.w; is = e.is; says = e.says; order = λ c a s. absurd a.0 }

-- a packet
ord_packet : (q : Which) (s : OneKernel) (v : View) (a c k : ℕ) (l : Load) → Ord q s v → Ord q s (view.after_packet v a c l)
ord_packet q s v a c k l o = search (arith, ord_view, thin_pair)

-- what stands in the bag is counted
counted_in : (pt : Point) → Sane pt → (i : MsgId) (y : PlainMessage) → pt.kernel.bag i ≡ Some y → counts pt.kernel i ≡ true
counted_in pt h i y there = search (arith, h.sound.entered.fewer, pt.kernel.bag, h.sound.entered.counted)

-- a put, with its packet
pub record Puts (pt : Point) (ls : List Line) : Type 0 where
  pub q : Point
  pub is : after pt ls ≡ Some q
  pub topic : q.view.topic ≡ pt.view.topic
  pub told : (i : MsgId) → is_some (pt.view.told i) ≡ true → is_some (q.view.told i) ≡ true
  pub says : (zs : List Line) → labels (ls ++ zs) ≡ labels zs
  pub keeps : (l : Line) (more : List Line) → ls ≡ l ∷ more → (k : Which) → Ord k pt.kernel (view_after pt.view l) → Ord k q.kernel q.view

pub told_on : (v : View) (l : Line) (i : MsgId) → is_some (v.told i) ≡ true → is_some ((view_after v l).told i) ≡ true
told_on v (Line.Put a b j k q) i h = search (arith, v.topic)
told_on v any_ i h = ap (λ (f : MsgId → Option Told). is_some (f i)) (hushed v any_ refl).told ∙ h

seen_topic : (pt : Point) (l : Line) → label_of l ≡ None → (moved pt l pt.kernel).view.topic ≡ (view_after pt.view l).topic
seen_topic pt l none = ap (λ (v : View). v.topic) (seen_none pt.kernel pt.view l none)

puts_if : (pt : Point) (l : Line) (c d : Bool) (a b k : ℕ) (x : Load) → label_of l ≡ None → (view_after pt.view l).topic ≡ pt.view.topic → Puts pt (l ∷ (if c then [] else if d then Line.Packet a b k x ∷ [] else []))
puts_if pt l true d a b k x none topic = record { q = moved pt l pt.kernel; is = after_one pt l pt.kernel (ap (kernel_after pt.kernel) none); topic = seen_topic pt l none ∙ topic; told = told_on pt.view l; says = λ zs. ap (λ (o : Option Label). with_label o (labels zs)) none; keeps = λ m ms e q o. (let f : l ≡ m = cc in ord_none q pt.kernel pt.view l none (subst (λ (n : Line). Ord q pt.kernel (view_after pt.view n)) (sym f) o)) }
puts_if pt l false false a b k x none topic = record { q = moved pt l pt.kernel; is = after_one pt l pt.kernel (ap (kernel_after pt.kernel) none); topic = seen_topic pt l none ∙ topic; told = told_on pt.view l; says = λ zs. ap (λ (o : Option Label). with_label o (labels zs)) none; keeps = λ m ms e q o. (let f : l ≡ m = cc in ord_none q pt.kernel pt.view l none (subst (λ (n : Line). Ord q pt.kernel (view_after pt.view n)) (sym f) o)) }
puts_if pt l false true a b k x none topic =
    let mid = moved pt l pt.kernel in
    record {
      q = moved mid (Line.Packet a b k x) mid.kernel;
      is = ap (λ (o : Option OneKernel). bind (bind o (λ (s : OneKernel). Some (moved pt l s))) (λ (n : Point). after n (Line.Packet a b k x ∷ []))) (ap (kernel_after pt.kernel) none);
      topic = seen_topic pt l none ∙ topic;
      told = λ i h. told_on mid.view (Line.Packet a b k x) i (told_on pt.view l i h);
      says = λ zs. ap (λ (o : Option Label). with_label o (labels zs)) none;
      keeps = λ m ms e q o. (let f : l ≡ m = cc in ord_packet q pt.kernel mid.view a b k x (ord_none q pt.kernel pt.view l none (subst (λ (n : Line). Ord q pt.kernel (view_after pt.view n)) (sym f) o)));
    }

pub put_lines : (pt : Point) (b : ℕ) (i : MsgId) (k : MessageKind) (q : Pid) → Puts pt (puts pt.view b i k q)
put_lines pt b i k q = search (arith, puts_if)

-- a message of the bag is routed
pub does_route : (C : Type 0) (pt : Point) (i : MsgId) (x : PlainMessage) → pt.kernel.bag i ≡ Some x → (C → Sane pt → is_user x.what ≡ true → Last pt.kernel pt.view i) → Does C pt (Routes i ∷ [])
does_route C pt i x there last =
    let c = (pt.addresses (Receiver i)).at in
    let ls = puts pt.view c i (plain_kind x.what) x.to in
    let p = put_lines pt c i (plain_kind x.what) x.to in
    let lines : lines_of pt (Routes i) ≡ Some ls = ap (λ (o : Option PlainMessage). bind o (λ (m : PlainMessage). Some (puts pt.view (pt.addresses (Receiver i)).at i (plain_kind m.what) m.to))) there in
    does_lines C pt p.q (Routes i) ls [] lines p.is p.says
    (λ d s. (part_sane pt p.q (Routes i) ls tt lines p.is s, λ k o. p.keeps (Line.Put pt.view.acting c i (plain_kind x.what) x.to) _ refl k (ord_put k pt.kernel pt.view c i x there (counted_in pt s) (last d s) o)))
    (does_nothing C p.q)

-- parts with no label and no message of the bag: what goes on was told of
abbrev pub IsPlain : View → Part → Type 0
IsPlain v (Says l) = label_of l ≡ None
IsPlain v (Routes i) = ⊥
IsPlain v (Again i b) = is_some (v.told i) ≡ true
IsPlain v _ = ⊤

abbrev pub ArePlain : View → List Part → Type 0
ArePlain v [] = ⊤
ArePlain v (p ∷ ps) = IsPlain v p × ArePlain v ps

plain_on : (v w : View) (ps : List Part) → ((i : MsgId) → is_some (v.told i) ≡ true → is_some (w.told i) ≡ true) → ArePlain v ps → ArePlain w ps
plain_on v w [] more h = tt
plain_on v w (Says l ∷ ps) more h = (h.0, plain_on v w ps more h.1)
plain_on v w (Routes i ∷ ps) more h = absurd h.0
plain_on v w (Again i b ∷ ps) more h = (more i h.0, plain_on v w ps more h.1)
plain_on v w (Owns k q b ∷ ps) more h = (tt, plain_on v w ps more h.1)
plain_on v w (Transmits a b l ∷ ps) more h = (tt, plain_on v w ps more h.1)

pub some_is : (o : Option Told) → is_some o ≡ true → (t : Told) × (o ≡ Some t)
some_is None e = cc
some_is (Some t) e = (t, refl)

pub does_plain : (C : Type 0) (ps : List Part) (pt : Point) → (C → ⊥) → ArePlain pt.view ps → Does C pt ps
does_plain C [] pt never h = does_nothing C pt
does_plain C (Says l ∷ ps) pt never h =
    does_lines C pt (moved pt l pt.kernel) (Says l) (l ∷ []) ps refl (after_one pt l pt.kernel (ap (kernel_after pt.kernel) h.0)) (λ zs. refl) (λ c s. absurd (never c)) (does_plain C ps (moved pt l pt.kernel) never (plain_on pt.view (view_after pt.view l) ps (told_on pt.view l) h.1))
does_plain C (Routes i ∷ ps) pt never h = absurd h.0
does_plain C (Again i b ∷ ps) pt never h =
    let (t, told) = some_is (pt.view.told i) h.0 in
    let p = put_lines pt b i t.kind t.receiver in
    does_lines C pt p.q (Again i b) (puts pt.view b i t.kind t.receiver) ps (ap (λ (o : Option Told). bind o (λ (t : Told). Some (puts pt.view b i t.kind t.receiver))) told) p.is p.says (λ c s. absurd (never c)) (does_plain C ps p.q never (plain_on pt.view p.q.view ps p.told h.1))
does_plain C (Owns k q b ∷ ps) pt never h =
    let p = put_lines pt b (own_id pt.view) k q in
    does_lines C pt p.q (Owns k q b) (puts pt.view b (own_id pt.view) k q) ps refl p.is p.says (λ c s. absurd (never c)) (does_plain C ps p.q never (plain_on pt.view p.q.view ps p.told h.1))
does_plain C (Transmits a b l ∷ ps) pt never h =
    let p = packet_line pt.view a b l in
    does_lines C pt (moved pt p pt.kernel) (Transmits a b l) (p ∷ []) ps refl refl (λ zs. refl) (λ c s. absurd (never c)) (does_plain C ps (moved pt p pt.kernel) never (plain_on pt.view (view_after pt.view p) ps (told_on pt.view p) h.1))

-- lines of deliveries and ticks
record NetKeeps (pt : Point) (l : Line) : Type 0 where
  none : label_of l ≡ None
  quiet : is_put l ≡ false
  keeps : (k : Which) → Ord k pt.kernel pt.view → Ord k pt.kernel (view_after pt.view l)

net_keeps : (pt : Point) (l : Line) → IsNetLine l → NetKeeps pt l
net_keeps pt (Line.Taken a c n) is = record { none = refl; quiet = refl; keeps = λ z o. ord_taken z pt.kernel pt.view a c n o }
net_keeps pt (Line.Old a c n) is = record { none = refl; quiet = refl; keeps = λ z o. o }
net_keeps pt (Line.Early a c n) is = record {
  none = refl;
  quiet = refl;
  keeps = λ z o. (let p : Pair = record (pt.view.pair a c) { kept = n ∷ filter (λ j. not (j == n)) (pt.view.pair a c).kept } in ord_view z pt.kernel pt.view (view.with_pair pt.view a c p) (thin_pair z pt.view a c p refl) o);
}
net_keeps pt (Line.Acked a c n) is = record {
  none = refl;
  quiet = refl;
  keeps = λ z o. (let p : Pair = record (pt.view.pair c a) { acked = view.at_least (pt.view.pair c a).acked n } in ord_view z pt.kernel pt.view (view.with_pair pt.view c a p) (thin_pair z pt.view c a p refl) o);
}
net_keeps pt Line.Nothing is = record { none = refl; quiet = refl; keeps = λ z o. o }
net_keeps pt (Line.Resent n c) is = record { none = refl; quiet = refl; keeps = λ z o. o }
net_keeps pt _ is = absurd is

pub does_net : (C : Type 0) (ps : List Part) (pt : Point) → IsNet ps → Does C pt ps
does_net C [] pt is = does_nothing C pt
does_net C (Says l ∷ ps) pt is =
    let k = net_keeps pt l is.0 in
    does_line C pt l ps k.none k.quiet (λ c. k.keeps) (does_net C ps (moved pt l pt.kernel) is.1)
does_net C (Transmits a c l ∷ ps) pt is =
    let p = packet_line pt.view a c l in
    does_lines C pt (moved pt p pt.kernel) (Transmits a c l) (p ∷ []) ps refl refl (λ zs. refl) (λ d s. (sane_by pt p pt.kernel refl refl s, λ k o. ord_packet k pt.kernel pt.view a c (length (pt.view.pair a c).wire) l o)) (does_net C ps (moved pt p pt.kernel) is.1)
does_net C _ pt is = absurd is.0

net_says : (pt : Point) (ps : List Part) → IsNet ps → said ps ≡ []
net_says pt [] is = refl
net_says pt (Says l ∷ ps) is = ap (λ (o : Option Label). with_label o (said ps)) (net_keeps pt l is.0).none ∙ net_says pt ps is.1
net_says pt (Transmits a c l ∷ ps) is = net_says pt ps is.1
net_says pt _ is = absurd is.0

net_own : (ps : List Part) → IsNet ps → HaveNoOwn ps
net_own [] h = tt
net_own (Says l ∷ ps) h = (tt, net_own ps h.1)
net_own (Transmits a c l ∷ ps) h = (tt, net_own ps h.1)
net_own _ h = absurd h.0

-- they say nothing of the kernel
pub plain_says : (v : View) (ps : List Part) → ArePlain v ps → said ps ≡ []
plain_says v [] h = refl
plain_says v (Says l ∷ ps) h = ap (λ (o : Option Label). with_label o (said ps)) h.0 ∙ plain_says v ps h.1
plain_says v (Routes i ∷ ps) h = absurd h.0
plain_says v (Again i b ∷ ps) h = plain_says v ps h.1
plain_says v (Owns k q b ∷ ps) h = plain_says v ps h.1
plain_says v (Transmits a b l ∷ ps) h = plain_says v ps h.1

-- no label of these is a reception
abbrev pub not_receive : Label → Bool
not_receive (Label.Receive p i) = false
not_receive l = true

abbrev pub no_receive : List Label → Bool
no_receive [] = true
no_receive (l ∷ ls) = if not_receive l then no_receive ls else false

-- a reception is alone in its group, and takes the first message that was awaited
pub record Reception (m : ℕ) (pt : Point) (ps : List Part) : Type 0 where
  pub p : Pid
  pub i : MsgId
  pub is : ps ≡ rule.says (Label.Receive p i) ∷ []
  pub mask : ℕ
  pub first : rule.first_awaited pt.kernel mask (pt.view.queue m p) ≡ Some i
  pub t : OneKernel
  pub step : kernel.step pt.kernel (Label.Receive p i) ≡ Some t

pub data Shape (m : ℕ) (pt : Point) (ps : List Part) : Type 0 where
  Quiet : (quiet : no_receive (said ps) ≡ true) → Shape m pt ps
  Takes : (reception : Reception m pt ps) → Shape m pt ps

-- an outcome gives parts, and they can be said
pub record Can (C : Type 0) (m : ℕ) (pt : Point) (o : Option (List Part)) : Type 0 where
  pub ps : List Part
  pub is : o ≡ Some ps
  pub does : Does C pt ps
  pub shape : Shape m pt ps
  pub owns : OwnsFit pt.view ps

pub can_as : (C : Type 0) (m : ℕ) (pt : Point) (o q : Option (List Part)) → o ≡ q → Can C m pt q → Can C m pt o
can_as C m pt o q e c = record { ps = c.ps; is = e ∙ c.is; does = c.does; shape = c.shape; owns = c.owns }

-- a label and then parts
pub can_say : (C : Type 0) (m : ℕ) (pt : Point) (l : Label) (t : OneKernel) (ps : List Part) → kernel.step pt.kernel l ≡ Some t → no_receive (said (rule.says l ∷ ps)) ≡ true → HaveNoOwn ps → Does C (moved pt (Line.Label l) t) ps → Can C m pt (Some (rule.says l ∷ ps))
can_say C m pt l t ps is quiet none d = record { ps = rule.says l ∷ ps; is = refl; does = does_label C pt l t ps is d; shape = Quiet quiet; owns = NoOwns (tt, none) }

-- a label and then parts, of which some may be kernels' own messages
pub can_ends : (C : Type 0) (m : ℕ) (pt : Point) (l : Label) (t : OneKernel) (ps : List Part) → kernel.step pt.kernel l ≡ Some t → no_receive (said (rule.says l ∷ ps)) ≡ true → OwnsFit pt.view (rule.says l ∷ ps) → Does C (moved pt (Line.Label l) t) ps → Can C m pt (Some (rule.says l ∷ ps))
can_ends C m pt l t ps is quiet owns d = record { ps = rule.says l ∷ ps; is = refl; does = does_label C pt l t ps is d; shape = Quiet quiet; owns = owns }

-- predecessors are told of an end; where nothing moves there are none
pub buries_plain : (v : View) (ms : List ℕ) → ArePlain v (map (to_kernel MessageKind.Bury) ms)
buries_plain v [] = tt
buries_plain v (m ∷ ms) = (tt, buries_plain v ms)

pub does_buries : (C : Type 0) (ms : List ℕ) (pt : Point) → (C → ms ≡ []) → Does C pt (map (to_kernel MessageKind.Bury) ms)
does_buries C [] pt none = does_nothing C pt
does_buries C (m ∷ ms) pt none = does_plain C (map (to_kernel MessageKind.Bury) (m ∷ ms)) pt (λ c. let f : m ∷ ms ≡ [] = none c in cc) (buries_plain pt.view (m ∷ ms))

pub buries_quiet : (ms : List ℕ) → no_receive (said (map (to_kernel MessageKind.Bury) ms)) ≡ true
buries_quiet [] = refl
buries_quiet (m ∷ ms) = buries_quiet ms

-- a line
pub can_line : (C : Type 0) (m : ℕ) (pt : Point) (l : Line) → label_of l ≡ None → is_put l ≡ false → (C → (k : Which) → Ord k pt.kernel pt.view → Ord k pt.kernel (view_after pt.view l)) → Can C m pt (Some (Says l ∷ []))
can_line C m pt l none quiet keeps = search (arith, does_line, does_nothing, pt.kernel)

-- parts of a run in which something moves
pub can_plain : (C : Type 0) (m : ℕ) (pt : Point) (ps : List Part) → (C → ⊥) → ArePlain pt.view ps → OwnsFit pt.view ps → Can C m pt (Some ps)
can_plain C m pt ps never h own = record { ps = ps; is = refl; does = does_plain C ps pt never h; shape = Quiet (ap no_receive (plain_says pt.view ps h)); owns = own }

pub can_net : (C : Type 0) (m : ℕ) (pt : Point) (ps : List Part) → IsNet ps → Can C m pt (Some ps)
can_net C m pt ps h = record { ps = ps; is = refl; does = does_net C ps pt h; shape = Quiet (ap no_receive (net_says pt ps h)); owns = NoOwns (net_own ps h) }

-- a group that has its parts is said
pub record Goes (C : Type 0) (b : Boot) (pt : Point) (d : Step) : Type 0 where
  pub w : Spelled
  pub is : group_of b pt d ≡ Some w
  pub parts : List Part
  pub outcome_is : outcome b pt d ≡ Some parts
  pub behind_head : Spelled
  pub spells : spelled (moved pt (Line.Head d) pt.kernel) parts ≡ Some behind_head
  pub point : w.point ≡ behind_head.point
  pub says : labels w.lines ≡ said parts
  pub order : C → AsksNone (labels w.lines) → Sane pt → KeepsOrder (moved pt (Line.Head d) pt.kernel) w.point

abbrev pub goes : (C : Type 0) (b : Boot) (pt : Point) (d : Step) (ps : List Part) → outcome b pt d ≡ Some ps → Does C (moved pt (Line.Head d) pt.kernel) ps → Goes C b pt d
goes C b pt d ps is does = record {
  w = behind (Line.Head d ∷ []) does.w;
  is = ap (λ (o : Option (List Part)). bind o (λ (xs : List Part). bind (after_line pt (Line.Head d)) (λ (begun : Point). bind (spelled begun xs) (λ (w : Spelled). Some (behind (Line.Head d ∷ []) w))))) is
      ∙ ap (λ (o : Option Spelled). bind o (λ (w : Spelled). Some (behind (Line.Head d ∷ []) w))) does.is;
  parts = ps;
  outcome_is = is;
  behind_head = does.w;
  spells = does.is;
  point = refl;
  says = does.says;
  order = λ c a s. does.order c (subst AsksNone does.says a) (sane_by pt (Line.Head d) pt.kernel refl refl s);
}
