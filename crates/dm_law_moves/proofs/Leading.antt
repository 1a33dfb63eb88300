-- Where parts lead: what holds behind the lines that they say, behind the puts of their messages, and still behind packets, holds where they lead.
use Rattle.dm_law_moves.proofs.Names.{◌≡◌, ℕ, ◌==◌, Bool, true, false, List, [], ◌∷◌, length, refl, ap, ◌∙◌, subst, ⊤, if◌then◌else◌, Some, Pid, MsgId, MessageKind, plain_kind, PlainMessage, OneKernel, bind-is, Line, Load, Told, own_id}
use Rattle.dm_law_moves.proofs.Names.{Receiver, Point, label_of, kernel_after, moved, after, Part, Says, Routes, Again, Owns, Transmits, Spelled, puts, goes_out, packet_line, spelled, Steps, said_by, PacketsKeep, by_parts, AllSayable}
use Rattle.dm_law_moves.proofs.Names.{Sayable, Sane, part_sane, lines_of, IsNetLine, IsNet, by_net, touches, Pair, AllFit, Boot, Step, turns_fit, resends_net, arrives_net, slice_get, migrates, migrates_fit, bind, behind, ◌++◌, nat_tests}
use Rattle.dm_law_moves.proofs.Names.{arith, Label, Option, None, MoveNote, Outcome, Known, View, About, PairsFit, fits_as, pair_same, view_after, tells_asker, answers_move, calls_off, calls_off_fit}
use Rattle.dm_law_rule.specs.Rule as rule
use Rattle.dm_law_rule.specs.View as view

-- a put and its packet
puts_by : (P : Point → Type 0) (keeps : PacketsKeep P) (pt next : Point) (b : ℕ) (i : MsgId) (k : MessageKind) (q : Pid) (c d : Bool) → P (moved pt (Line.Put pt.view.acting b i k q) pt.kernel)
    → after pt (Line.Put pt.view.acting b i k q ∷ (if c then [] else if d then packet_line pt.view pt.view.acting b (Load.Data (length (pt.view.pair pt.view.acting b).ids)) ∷ [] else [])) ≡ Some next → P next
puts_by P keeps pt next b i k q true d h is = grind (arith, nat_tests)
puts_by P keeps pt next b i k q false false h is = grind (arith, nat_tests)
puts_by P keeps pt next b i k q false true h is =
    let n = length (pt.view.pair pt.view.acting b).wire in
    let l = Load.Data (length (pt.view.pair pt.view.acting b).ids) in
    let mid = moved pt (Line.Put pt.view.acting b i k q) pt.kernel in
    let f : moved mid (Line.Packet pt.view.acting b n l) mid.kernel ≡ next = cc in
    subst P f (keeps mid pt.view.acting b n l h)

pub puts_lead : (P : Point → Type 0) (keeps : PacketsKeep P) (pt next : Point) (b : ℕ) (i : MsgId) (k : MessageKind) (q : Pid) (ls : List Line) → P (moved pt (Line.Put pt.view.acting b i k q) pt.kernel) → Some (puts pt.view b i k q) ≡ Some ls → after pt ls ≡ Some next → P next
puts_lead P keeps pt next b i k q ls h is leads =
    let f : puts pt.view b i k q ≡ ls = cc in
    puts_by P keeps pt next b i k q (pt.view.acting == b) (goes_out (pt.view.pair pt.view.acting b)) h (ap (after pt) f ∙ leads)

-- what holds behind what a part says, or behind the put of its message
abbrev pub Behind : (Point → Type 0) → Point → Part → Type 0
Behind P pt (Says l) = (s : OneKernel) → kernel_after pt.kernel (label_of l) ≡ Some s → P (moved pt l s)
Behind P pt (Routes i) = (m : PlainMessage) → pt.kernel.bag i ≡ Some m → P (moved pt (Line.Put pt.view.acting (pt.addresses (Receiver i)).at i (plain_kind m.what) m.to) pt.kernel)
Behind P pt (Again i b) = (t : Told) → pt.view.told i ≡ Some t → P (moved pt (Line.Put pt.view.acting b i t.kind t.receiver) pt.kernel)
Behind P pt (Owns k q b) = P (moved pt (Line.Put pt.view.acting b (own_id pt.view) k q) pt.kernel)
Behind P pt (Transmits a b l) = P pt

pub part_leads : (P : Point → Type 0) (keeps : PacketsKeep P) (pt next : Point) (p : Part) → Behind P pt p → Steps pt p next → P next
part_leads P keeps pt next (Says l) h s = let k = said_by pt next l s in subst P k.is (h k.kernel k.step)
part_leads P keeps pt next (Routes i) h s =
    let (m, there, last) = bind-is (pt.kernel.bag i) (λ m. Some (puts pt.view (pt.addresses (Receiver i)).at i (plain_kind m.what) m.to)) s.lines s.are in
    puts_lead P keeps pt next (pt.addresses (Receiver i)).at i (plain_kind m.what) m.to s.lines (h m there) last s.leads
part_leads P keeps pt next (Again i b) h s =
    let (t, there, last) = bind-is (pt.view.told i) (λ t. Some (puts pt.view b i t.kind t.receiver)) s.lines s.are in
    puts_lead P keeps pt next b i t.kind t.receiver s.lines (h t there) last s.leads
part_leads P keeps pt next (Owns k q b) h s = puts_lead P keeps pt next b (own_id pt.view) k q s.lines h s.are s.leads
part_leads P keeps pt next (Transmits a b l) h s =
    let k = said_by pt next (packet_line pt.view a b l) (record { lines = s.lines; are = s.are; leads = s.leads }) in
    let same : pt.kernel ≡ k.kernel = let e = k.step in cc in
    subst P (ap (moved pt (packet_line pt.view a b l)) same ∙ k.is) (keeps pt a b (length (pt.view.pair a b).wire) l h)

-- whatever is put
pub whatever_put : (P : Point → Type 0) (pt : Point) (p : Part) → ((l : Line) → p ≡ Says l → Behind P pt (Says l)) → ((b : ℕ) (i : MsgId) (k : MessageKind) (q : Pid) → P (moved pt (Line.Put pt.view.acting b i k q) pt.kernel)) → P pt → Behind P pt p
whatever_put P pt (Says l) says put h = says l refl
whatever_put P pt (Routes i) says put h = λ m there. put (pt.addresses (Receiver i)).at i (plain_kind m.what) m.to
whatever_put P pt (Again i b) says put h = λ t told. put b i t.kind t.receiver
whatever_put P pt (Owns k q b) says put h = put b (own_id pt.view) k q
whatever_put P pt (Transmits a b l) says put h = h

-- each of these parts is so
abbrev pub All : (Part → Type 0) → List Part → Type 0
All Q [] = ⊤
All Q (p ∷ ps) = Q p × All Q ps

-- part by part
pub parts_lead : (P : Point → Type 0) (keeps : PacketsKeep P) (Q : Part → Type 0) → ((pt : Point) (p : Part) → Q p → P pt → Behind P pt p) → (ps : List Part) (pt : Point) (w : Spelled) → All Q ps → spelled pt ps ≡ Some w → P pt → P w.point
parts_lead P keeps Q one qs q w so is h = by_parts (λ ps pt v. All Q ps → P pt → P v.point) (λ pt so h. h)
    (λ p ps pt next ls z lines leads rest so h. rest so.1 (part_leads P keeps pt next p (one pt p so.0 h) (record { lines = ls; are = lines; leads = leads }))) qs q w is so h

pub sane_lead : (P : Point → Type 0) (keeps : PacketsKeep P) (Q : Part → Type 0) → ((pt : Point) (p : Part) → Q p → Sayable p → Sane pt → P pt → Behind P pt p) → (ps : List Part) (pt : Point) (w : Spelled) → All Q ps → AllSayable ps → Sane pt → spelled pt ps ≡ Some w → P pt → P w.point
sane_lead P keeps Q one qs q w so ok sane is h = by_parts (λ ps pt v. All Q ps → AllSayable ps → Sane pt → P pt → P v.point) (λ pt so ok sane h. h) (λ p ps pt next ls z lines leads rest so ok sane h.
    rest so.1 ok.1 (part_sane pt next p ls ok.0 lines leads sane) (part_leads P keeps pt next p (one pt p so.0 ok.0 sane h) (record { lines = ls; are = lines; leads = leads }))) qs q w is so ok sane h

-- whether a part says a line of its own
abbrev pub is_said : Part → Bool
is_said (Says l) = true
is_said _ = false

-- the lines of a part: what it says, a put and perhaps its packet, or a packet
pub record LinesOf (S : List Line → Type 0) (p : Part) : Type 0 where
  pub says : (l : Line) → p ≡ Says l → S (l ∷ [])
  pub put : is_said p ≡ false → (a b : ℕ) (i : MsgId) (k : MessageKind) (q : Pid) → S (Line.Put a b i k q ∷ [])
  pub goes : is_said p ≡ false → (a b n : ℕ) (i : MsgId) (k : MessageKind) (q : Pid) (l : Load) → S (Line.Put a b i k q ∷ Line.Packet a b n l ∷ [])
  pub packet : is_said p ≡ false → (a b n : ℕ) (l : Load) → S (Line.Packet a b n l ∷ [])

pub lines_are : (S : List Line → Type 0) (pt : Point) (p : Part) (ls : List Line) → LinesOf S p → lines_of pt p ≡ Some ls → S ls
lines_are S pt p ls h is = grind (arith, nat_tests, bind-is)

-- what a part says is so
abbrev pub Saying : (Line → Type 0) → Part → Type 0
Saying Q (Says l) = Q l
Saying Q _ = ⊤

-- each line is so, where the parts say such lines
abbrev pub AllLines : (Line → Type 0) → List Line → Type 0
AllLines Q [] = ⊤
AllLines Q (l ∷ ls) = Q l × AllLines Q ls

lines_append : (Q : Line → Type 0) (xs ys : List Line) → AllLines Q xs → AllLines Q ys → AllLines Q (xs ++ ys)
lines_append Q [] ys h k = k
lines_append Q (x ∷ xs) ys h k = (h.0, lines_append Q xs ys h.1 k)

pub parts_say : (Q : Line → Type 0) → ((a b : ℕ) (i : MsgId) (k : MessageKind) (q : Pid) → Q (Line.Put a b i k q)) → ((a b n : ℕ) (l : Load) → Q (Line.Packet a b n l)) → (ps : List Part) (pt : Point) (w : Spelled)
    → All (Saying Q) ps → spelled pt ps ≡ Some w → AllLines Q w.lines
parts_say Q put packet qs q w so is = by_parts (λ ps pt v. All (Saying Q) ps → AllLines Q v.lines) (λ pt so. tt) (λ p ps pt next ls z lines leads rest so. lines_append Q ls z.lines (lines_are (AllLines Q) pt p ls (record {
  says = λ l e. (subst (Saying Q) e so.0, tt);
  put = λ none a b i k q. (put a b i k q, tt);
  goes = λ none a b n i k q l. (put a b i k q, (packet a b n l, tt));
  packet = λ none a b n l. (packet a b n l, tt);
}) lines) (rest so.1)) qs q w is so

pub net_says : (Q : Line → Type 0) → ((l : Line) → IsNetLine l → Q l) → (ps : List Part) → IsNet ps → All (Saying Q) ps
net_says Q so = by_net (All (Saying Q)) tt (λ l ps net h. (so l net, h)) (λ a b l ps h. (tt, h))

fit_says : (Q : Line → Type 0) → ((l : Line) → touches l ≡ false → Q l) → (f : ℕ → ℕ → Pair) (ps : List Part) → AllFit f ps → All (Saying Q) ps
fit_says Q so f [] h = tt
fit_says Q so f (Says l ∷ ps) h = (so l h.0, fit_says Q so f ps h.1)
fit_says Q so f (p ∷ ps) h = (tt, fit_says Q so f ps h.1)

-- a group says lines that touch no pair, or those of the net
pub outcome_says : (Q : Line → Type 0) → ((l : Line) → touches l ≡ false → Q l) → ((l : Line) → IsNetLine l → Q l) → (b : Boot) (pt : Point) (d : Step) (ps : List Part) → rule.outcome b pt d ≡ Some ps → All (Saying Q) ps
outcome_says Q fit net b pt (Step.Turn m) ps is = fit_says Q fit pt.view.pair ps (turns_fit pt.view.pair b pt m (pt.view.inbox m) ps is)
outcome_says Q fit net b pt (Step.Tick m) ps is =
    let f : Says (Line.Resent m (rule.outstanding_count pt.view m pt.kernel.machines)) ∷ rule.resends pt.view m pt.kernel.machines ≡ ps = cc in
    subst (All (Saying Q)) f (net (Line.Resent m (rule.outstanding_count pt.view m pt.kernel.machines)) tt, net_says Q net (rule.resends pt.view m pt.kernel.machines) (resends_net pt.view m pt.kernel.machines))
outcome_says Q fit net b pt (Step.Deliver a c k) ps is =
    let qs = rule.arrives a c (pt.view.pair a c) (pt.view.pair c a) (slice_get (pt.view.pair a c).wire k) in
    let f : qs ≡ ps = cc in
    subst (All (Saying Q)) f (net_says Q net qs (arrives_net a c (pt.view.pair a c) (pt.view.pair c a) (slice_get (pt.view.pair a c).wire k)))
outcome_says Q fit net b pt (Step.Migrate p m) ps is = let f : migrates pt p ≡ ps = cc in subst (All (Saying Q)) f (fit_says Q fit pt.view.pair (migrates pt p) (migrates_fit pt.view.pair pt p))
outcome_says Q fit net b pt (Step.CallOff p m) ps is =
    let qs = calls_off pt m p (pt.view.known m p) in
    let f : qs ≡ ps = cc in
    subst (All (Saying Q)) f (fit_says Q fit pt.view.pair qs (calls_off_fit pt.view.pair pt m p))

-- deliveries and repeats say lines of the net and transmit, and route nothing
abbrev NetPart : Part → Type 0
NetPart (Says l) = IsNetLine l
NetPart (Transmits a b l) = ⊤
NetPart _ = ⊥

pub net_lead : (P : Point → Type 0) → PacketsKeep P → ((pt : Point) (s : OneKernel) (l : Line) → IsNetLine l → P pt → P (moved pt l s)) → (ps : List Part) (pt : Point) (w : Spelled) → IsNet ps → spelled pt ps ≡ Some w → P pt → P w.point
net_lead P keeps one ps pt w net =
    let net_behind : (P : Point → Type 0) → ((pt : Point) (s : OneKernel) (l : Line) → IsNetLine l → P pt → P (moved pt l s)) → (pt : Point) (p : Part) → NetPart p → P pt → Behind P pt p = λ P one pt e net h. grind (arith, nat_tests) in
    parts_lead P keeps NetPart (net_behind P one) ps pt w (by_net (All NetPart) tt (λ l ps net h. (net, h)) (λ a b l ps h. (tt, h)) ps net)

-- the first part, and what is spelled behind it
pub record Next (pt : Point) (p : Part) (ps : List Part) (w : Spelled) : Type 0 where
  pub next : Point
  pub steps : Steps pt p next
  pub rest : Spelled
  pub more : spelled next ps ≡ Some rest
  pub lines : steps.lines ++ rest.lines ≡ w.lines
  pub point : rest.point ≡ w.point

pub next_of : (pt : Point) (p : Part) (ps : List Part) (w : Spelled) → spelled pt (p ∷ ps) ≡ Some w → Next pt p ps w
next_of pt p ps w is =
    let (ls, are, rest) = bind-is (lines_of pt p) (λ (xs : List Line). bind (after pt xs) (λ (q : Point). bind (spelled q ps) (λ (z : Spelled). Some (behind xs z)))) w is in
    let (next, leads, last) = bind-is (after pt ls) (λ (q : Point). bind (spelled q ps) (λ (z : Spelled). Some (behind ls z))) w rest in
    let (z, more, end) = bind-is (spelled next ps) (λ (y : Spelled). Some (behind ls y)) w last in
    let f : behind ls z ≡ w = cc in
    record { next = next; steps = record { lines = ls; are = are; leads = leads }; rest = z; more = more; lines = ap (λ (x : Spelled). x.lines) f; point = ap (λ (x : Spelled). x.point) f }

-- where a request is answered, if one is, nobody learns where a process is
abbrev AskerPart : Part → Type 0
AskerPart (Says (Line.Label (Label.Answered i o))) = ⊤
AskerPart (Says l) = ⊥
AskerPart (Routes i) = ⊤
AskerPart _ = ⊥

asker_behind : (n : ℕ) (p : Pid) (k : Known) (pt : Point) (x : Part) → AskerPart x → pt.view.known n p ≡ k → Behind (λ q. q.view.known n p ≡ k) pt x
asker_behind n p k pt (Says (Line.Label (Label.Answered i o))) a h = λ s step. h
asker_behind n p k pt (Says l) a h = absurd a
asker_behind n p k pt (Routes i) a h = λ m there. h
asker_behind n p k pt _ a h = absurd a

pub asker_known : (n : ℕ) (p : Pid) (k : Known) (o : Option MoveNote) (r : Outcome) (pt : Point) (w : Spelled) → spelled pt (tells_asker o r) ≡ Some w → pt.view.known n p ≡ k → w.point.view.known n p ≡ k
asker_known n p k None r pt w = parts_lead (λ q. q.view.known n p ≡ k) (λ q a b c l h. h) AskerPart (asker_behind n p k) [] pt w tt
asker_known n p k (Some x) r pt w = parts_lead (λ q. q.view.known n p ≡ k) (λ q a b c l h. h) AskerPart (asker_behind n p k) (answers_move x.id r) pt w (tt, (tt, tt))

-- the topic is no part of how pairs stand
pub fits_about : (v : View) (a : About) → PairsFit v → PairsFit (view.about v a)
fits_about v a h = record { within = h.within; home = h.home }

pub line_fits : (pt : Point) (s : OneKernel) (l : Line) → touches l ≡ false → PairsFit pt.view → PairsFit (moved pt l s).view
line_fits pt s l calm h = fits_about (view_after pt.view l) (moved pt l s).view.topic (fits_as pt.view (view_after pt.view l) (pair_same pt.view l calm) h)
