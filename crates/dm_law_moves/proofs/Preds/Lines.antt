-- Lines, puts and packets behind the line that a group is about: nothing is learned by them, and all that stood stand on.
use Rattle.dm_law_moves.proofs.Names.{◌≡◌, ℕ, Bool, false, List, [], ◌∷◌, refl, ap, ◌∙◌, arith, nat_tests, ⊤, Option, None, Some, Pid, MsgId, MessageKind, plain_kind, PlainWhat, Label, Line, Stage, Step, Told, View, About, OneKernel}
use Rattle.dm_law_moves.proofs.Names.{view_after, after_head, after_put, handled, receiver_of, taken_id, Point, label_of, kernel_after, moved, seen, Part, Says, Routes, Again, Owns, Transmits, Spelled, spelled, times, touches, PairsFit}
use Rattle.dm_law_moves.proofs.Names.{PacketsKeep, fits_put, fits_packet, Sane, Sayable, AllSayable, IsNet, IsNetLine, turn_off, tick_off, deliver_off, migrate_off, call_off, ◌+◌, ◌==◌, ◌&&◌, not, filter}
use Rattle.dm_law_rule.specs.View as view
use Rattle.dm_law_moves.proofs.Leading.{All, Behind, sane_lead, line_fits, net_lead}
use Rattle.dm_law_moves.proofs.Ends.Parts.{SparesBag, label_smooth, packet_smooth}
use Rattle.dm_law_moves.proofs.Ends.Open.{net_smooth}
use Rattle.dm_law_moves.proofs.Preds.Kept.{is_word, clears, Word, word_on, Preds, Lasts, lasts_same, lasts_trans, lasts_smooth, lasts_still, lasts_about, lasts_put, preds_same}

-- what machines know, their predecessors, what the group is about and which machine acts stay
pub record Same (v w : View) : Type 0 where
  pub known : (m : ℕ) (q : Pid) → w.known m q ≡ v.known m q
  pub preds : (m : ℕ) (q : Pid) (r : ℕ) → w.preds m q r ≡ v.preds m q r
  pub topic : w.topic ≡ v.topic
  pub acting : w.acting ≡ v.acting

pub same_self : (v : View) → Same v v
same_self v = record { known = λ m q. refl; preds = λ m q r. refl; topic = refl; acting = refl }

pub same_trans : (u v w : View) → Same u v → Same v w → Same u w
same_trans u v w h k = record { known = λ m q. k.known m q ∙ h.known m q; preds = λ m q r. k.preds m q r ∙ h.preds m q r; topic = k.topic ∙ h.topic; acting = k.acting ∙ h.acting }

-- and so do messages
pub record Keeps (u : View) (pt : Point) : Type 0 where
  pub same : Same u pt.view
  pub lasts : Lasts None u pt.view
  pub fits : PairsFit pt.view

pub keeps_self : (pt : Point) → PairsFit pt.view → Keeps pt.view pt
keeps_self pt fits = record { same = same_self pt.view; lasts = lasts_same None pt.view; fits = fits }

pub keeps_trans : (u : View) (mid pt : Point) → Keeps u mid → Keeps mid.view pt → Keeps u pt
keeps_trans u mid pt h k = record { same = same_trans u mid.view pt.view h.same k.same; lasts = lasts_trans None u mid.view pt.view h.lasts k.lasts; fits = k.fits }

pub preds_keeps : (n : ℕ) (u : View) (pt : Point) → Keeps u pt → Preds n u → Preds n pt.view
preds_keeps n u pt k h = preds_same n u pt.view k.same.known k.same.preds k.lasts h

-- no message of the bag removes a forwarding address
plain_clears : (w : PlainWhat) → clears (plain_kind w) ≡ false
plain_clears w = grind (arith, nat_tests)

pub not_word : (t : Told) → clears t.kind ≡ false → is_word t ≡ false
not_word t e = ap (λ (c : Bool). c && (t.receiver.num == 0)) e

pub bag_spared : (pt : Point) → Sane pt → SparesBag is_word pt
bag_spared pt h i x there t told = not_word t (ap clears (h.tells.kind i x t there told) ∙ plain_clears x.what)

-- labels that tell of no life, and of no request to move
abbrev pub TailLabel : Label → Type 0
TailLabel (Label.End p y) = ⊥
TailLabel (Label.Served i) = ⊥
TailLabel (Label.Created i p) = ⊥
TailLabel (Label.Asked i) = ⊥
TailLabel _ = ⊤

abbrev pub TailLine : Line → Type 0
TailLine (Line.Label l) = TailLabel l
TailLine (Line.Idle m) = ⊤
TailLine (Line.NoChild q) = ⊤
TailLine (Line.NoCall q) = ⊤
TailLine Line.Away = ⊤
TailLine (Line.Migration Stage.Asked q) = ⊤
TailLine _ = ⊥

abbrev pub Tail : Part → Type 0
Tail (Says l) = TailLine l
Tail _ = ⊤

dropped_same : (v : View) (i : MsgId) (o : Option Pid) → Same v (view.dropped_for v i o)
dropped_same v i None = same_self v
dropped_same v i (Some q) = record { known = λ m r. refl; preds = λ m r k. refl; topic = refl; acting = refl }

label_same : (s : OneKernel) (v : View) (l : Label) → TailLabel l → Same v (seen s v (Line.Label l))
label_same s v (Label.End p y) h = absurd h
label_same s v (Label.Served i) h = absurd h
label_same s v (Label.Created i p) h = absurd h
label_same s v (Label.Asked i) h = absurd h
label_same s v (Label.Dropped i) h = let k = dropped_same (handled v i) i (receiver_of (v.told i)) in record { known = k.known; preds = k.preds; topic = k.topic; acting = k.acting }
label_same s v _ h = record { known = λ m q. refl; preds = λ m q r. refl; topic = refl; acting = refl }

line_same : (s : OneKernel) (v : View) (l : Line) → TailLine l → Same v (seen s v l)
line_same s v (Line.Label l) h = label_same s v l h
line_same s v (Line.Idle m) h = record { known = λ n q. refl; preds = λ n q r. refl; topic = refl; acting = refl }
line_same s v (Line.NoChild p) h = record { known = λ n q. refl; preds = λ n q r. refl; topic = refl; acting = refl }
line_same s v (Line.NoCall p) h = record { known = λ n q. refl; preds = λ n q r. refl; topic = refl; acting = refl }
line_same s v Line.Away h = record { known = λ n q. refl; preds = λ n q r. refl; topic = refl; acting = refl }
line_same s v (Line.Migration Stage.Asked p) h = record { known = λ n q. refl; preds = λ n q r. refl; topic = refl; acting = refl }
line_same s v _ h = absurd h

line_lasts : (pt : Point) (s : OneKernel) (l : Line) → Sane pt → TailLine l → kernel_after pt.kernel (label_of l) ≡ Some s → Lasts None pt.view (view_after pt.view l)
line_lasts pt s (Line.Label l) sane h is = lasts_smooth None pt.view (view_after pt.view (Line.Label l)) (label_smooth is_word pt s l (bag_spared pt sane) is)
line_lasts pt s (Line.Idle m) sane h is = lasts_same None pt.view
line_lasts pt s (Line.NoChild p) sane h is = lasts_same None pt.view
line_lasts pt s (Line.NoCall p) sane h is = lasts_same None pt.view
line_lasts pt s Line.Away sane h is = lasts_same None pt.view
line_lasts pt s (Line.Migration Stage.Asked p) sane h is = lasts_same None pt.view
line_lasts pt s _ sane h is = absurd h

tail_sayable : (p : Part) → Tail p → Sayable p
tail_sayable (Says (Line.Put a b i k q)) h = absurd h
tail_sayable (Says (Line.Migration Stage.Asked q)) h = refl
tail_sayable (Says _) h = refl
tail_sayable _ h = tt

tail_touches : (l : Line) → TailLine l → touches l ≡ false
tail_touches l h = grind (arith, nat_tests)

put_keeps : (u : View) (pt : Point) (b : ℕ) (i : MsgId) (k : MessageKind) (q : Pid) → Keeps u pt → Keeps u (moved pt (Line.Put pt.view.acting b i k q) pt.kernel)
put_keeps u pt b i k q h = record {
  same = same_trans u pt.view (after_put pt.view pt.view.acting b i k q) h.same (record { known = λ m r. refl; preds = λ m r j. refl; topic = refl; acting = refl });
  lasts = lasts_trans None u pt.view (after_put pt.view pt.view.acting b i k q) h.lasts (lasts_put None pt.view pt.view.acting b i k q h.fits);
  fits = fits_put pt.view pt.view.acting b i k q h.fits;
}

pub packet_keeps : (u : View) → PacketsKeep (Keeps u)
packet_keeps u pt a b k l h = record {
  same = same_trans u pt.view (view_after pt.view (Line.Packet a b k l)) h.same (record { known = λ m r. refl; preds = λ m r j. refl; topic = refl; acting = refl });
  lasts = lasts_trans None u pt.view (view_after pt.view (Line.Packet a b k l)) h.lasts (lasts_smooth None pt.view (view_after pt.view (Line.Packet a b k l)) (packet_smooth is_word pt.view a b k l));
  fits = fits_packet pt.view a b k l h.fits;
}

says_keeps : (u : View) (pt : Point) (s : OneKernel) (l : Line) → TailLine l → Sane pt → kernel_after pt.kernel (label_of l) ≡ Some s → Keeps u pt → Keeps u (moved pt l s)
says_keeps u pt s l tail sane is h = record {
  same = same_trans u pt.view (moved pt l s).view h.same (line_same pt.kernel pt.view l tail);
  lasts = lasts_trans None u pt.view (moved pt l s).view h.lasts (lasts_about None pt.view (view_after pt.view l) (moved pt l s).view.topic (line_lasts pt s l sane tail is));
  fits = line_fits pt s l (tail_touches l tail) h.fits;
}

pub tail_behind : (u : View) (pt : Point) (p : Part) → Tail p → Sayable p → Sane pt → Keeps u pt → Behind (Keeps u) pt p
tail_behind u pt (Says l) tail ok sane h = λ s step. says_keeps u pt s l tail sane step h
tail_behind u pt (Routes i) tail ok sane h = λ m there. put_keeps u pt _ i (plain_kind m.what) m.to h
tail_behind u pt (Again i b) tail ok sane h = λ t there. put_keeps u pt b i t.kind t.receiver h
tail_behind u pt (Owns k q b) tail ok sane h = put_keeps u pt b _ k q h
tail_behind u pt (Transmits a b l) tail ok sane h = h

all_sayable : (ps : List Part) → All Tail ps → AllSayable ps
all_sayable [] h = tt
all_sayable (p ∷ ps) h = (tail_sayable p h.0, all_sayable ps h.1)

pub tail_keeps : (ps : List Part) (pt : Point) (w : Spelled) → All Tail ps → Sane pt → PairsFit pt.view → spelled pt ps ≡ Some w → Keeps pt.view w.point
tail_keeps ps pt w tail sane fits e = sane_lead (Keeps pt.view) (packet_keeps pt.view) Tail (tail_behind pt.view) ps pt w tail (all_sayable ps tail) sane e (keeps_self pt fits)

-- heads, deliveries and ticks
pub head_keeps : (pt : Point) (d : Step) → PairsFit pt.view → Lasts None pt.view (after_head pt.view d) × ((m : ℕ) (q : Pid) → (after_head pt.view d).known m q ≡ pt.view.known m q) × ((m : ℕ) (q : Pid) (r : ℕ) → (after_head pt.view d).preds m q r ≡ pt.view.preds m q r)
head_keeps pt (Step.Turn m) fits = (lasts_still None pt.view (after_head pt.view (Step.Turn m)) (λ i. refl) (λ i z. ap (times i) (turn_off pt.view m z)), λ n q. refl, λ n q r. refl)
head_keeps pt (Step.Tick m) fits = (lasts_still None pt.view (after_head pt.view (Step.Tick m)) (λ i. refl) (λ i z. ap (times i) (tick_off pt.view m z)), λ n q. refl, λ n q r. refl)
head_keeps pt (Step.Deliver a b k) fits = (lasts_still None pt.view (after_head pt.view (Step.Deliver a b k)) (λ i. refl) (λ i z. ap (times i) (deliver_off pt.view a b k z)), λ n q. refl, λ n q r. refl)
head_keeps pt (Step.Migrate p m) fits = (lasts_still None pt.view (after_head pt.view (Step.Migrate p m)) (λ i. refl) (λ i z. ap (times i) (migrate_off pt.view p m z)), λ n q. refl, λ n q r. refl)
head_keeps pt (Step.CallOff p m) fits = (lasts_still None pt.view (after_head pt.view (Step.CallOff p m)) (λ i. refl) (λ i z. ap (times i) (call_off pt.view p m z)), λ n q. refl, λ n q r. refl)

taken_same : (v : View) (b : ℕ) (o : Option MsgId) → ((m : ℕ) (q : Pid) → (taken_id v b o).known m q ≡ v.known m q) × ((m : ℕ) (q : Pid) (r : ℕ) → (taken_id v b o).preds m q r ≡ v.preds m q r)
taken_same v b None = (λ m q. refl, λ m q r. refl)
taken_same v b (Some i) = (λ m q. refl, λ m q r. refl)

net_same : (v : View) (l : Line) → IsNetLine l → ((m : ℕ) (q : Pid) → (view_after v l).known m q ≡ v.known m q) × ((m : ℕ) (q : Pid) (r : ℕ) → (view_after v l).preds m q r ≡ v.preds m q r)
net_same v (Line.Taken a b n) h = let k = taken_same (view.with_pair v a b (record (v.pair a b) { taken = (v.pair a b).taken + 1; kept = filter (λ k. not (k == n)) (v.pair a b).kept })) b (view.oldest (v.pair a b)) in (k.0, k.1)
net_same v (Line.Old a b n) h = (λ m q. refl, λ m q r. refl)
net_same v (Line.Early a b n) h = (λ m q. refl, λ m q r. refl)
net_same v (Line.Acked a b n) h = (λ m q. refl, λ m q r. refl)
net_same v Line.Nothing h = (λ m q. refl, λ m q r. refl)
net_same v (Line.Resent m n) h = (λ k q. refl, λ k q r. refl)
net_same v _ h = absurd h

pub word_packet : (p : Pid) (m k : ℕ) → PacketsKeep (λ (q : Point). Word q.view p m k)
word_packet p m k q a b c l h = word_on None q.view (view_after q.view (Line.Packet a b c l)) p m k (lasts_smooth None q.view (view_after q.view (Line.Packet a b c l)) (packet_smooth is_word q.view a b c l)) h (λ e. cc)

packet_preds : (n : ℕ) → PacketsKeep (λ (q : Point). Preds n q.view)
packet_preds n q a b k l h = preds_same n q.view (view_after q.view (Line.Packet a b k l)) (λ m r. refl) (λ m r j. refl) (lasts_smooth None q.view (view_after q.view (Line.Packet a b k l)) (packet_smooth is_word q.view a b k l)) h

pub preds_about : (n : ℕ) (v : View) (a : About) → Preds n v → Preds n (view.about v a)
preds_about n v a h = preds_same n v (view.about v a) (λ m r. refl) (λ m r j. refl) (lasts_about None v v a (lasts_same None v)) h

pub net_preds : (n : ℕ) (ps : List Part) (pt : Point) (w : Spelled) → IsNet ps → spelled pt ps ≡ Some w → Preds n pt.view → Preds n w.point.view
net_preds n = net_lead (λ (q : Point). Preds n q.view) (packet_preds n)
    (λ q s l net h. (let k = net_same q.view l net in preds_about n (view_after q.view l) (moved q l s).view.topic (preds_same n q.view (view_after q.view l) k.0 k.1 (lasts_smooth None q.view (view_after q.view l) (net_smooth is_word q.view l net)) h)))
