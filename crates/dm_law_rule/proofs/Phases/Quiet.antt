-- Parts that leave the migrations of all processes as they are.
use Rattle.dm_law_rule.proofs.Names.{◌≡◌, ℕ, ◌==◌, Bool, true, false, List, [], ◌∷◌, length, refl, ap, ◌∙◌, sym, subst, arith, ⊤, if◌then◌else◌, Option, None, Some, false≢true, Pid, MsgId, MessageKind, Load, Stage, id_eq, plain_kind}
use Rattle.dm_law_rule.proofs.Names.{PlainMessage, Label, OneKernel, bind, Line, at_record, without_id, View, Told, own_id, view_after, handled, receiver_of, ends_by, served_told, Receiver, Point, label_of, kernel_after, moved, seen}
use Rattle.dm_law_rule.proofs.Names.{after_line, after, Part, Says, Routes, Again, Owns, Transmits, Spelled, lines_of, puts, goes_out, packet_line, behind, spelled, Spot, Queue, times, ids_at, standing, is_between, bind-is, sort_of}
use Rattle.dm_onekernel.specs.Step as kernel
use Rattle.dm_law_rule.specs.View as view
use Rattle.dm_law_rule.proofs.Bags.{out_of}
use Rattle.dm_law_rule.proofs.Letters.{not_kernels, gone_in}
use Rattle.dm_law_rule.proofs.Hushed.{is_put, hushed}
use Rattle.dm_law_rule.proofs.Pairs.Lines.{touches, pair_same}
use Rattle.dm_law_rule.proofs.States.{PairsFit}
use Rattle.dm_law_rule.proofs.Said.{fits_as}
use Rattle.dm_law_rule.proofs.Turns.{served_keeps, serving_off}
use Rattle.dm_law_rule.proofs.Moves.Sent.{fits_put, fits_packet}
use Rattle.dm_law_rule.proofs.Telling.{Sane, plain_not, Sayable, part_sane}
use Rattle.dm_law_rule.proofs.Phases.Calm.{Calm, Plain, calm_about, calm_same, calm_trans, calm_others, calm_still}
use Rattle.dm_law_rule.proofs.Phases.Lines.{keeps_come, come_at, handled_spots, queued_spots, held_spots, dropped_spots, forwarded_spots, queued_known, held_known, dropped_known, forwarded_known, record_times, without_times, put_calm, packet_calm}
pub use Rattle.dm_law_rule.proofs.Serving.{is_kill}

-- a message that was told of, and is none of the protocol
pub record Tame (v : View) (i : MsgId) : Type 0 where
  pub what : Told
  pub told : v.told i ≡ Some what
  pub plain : is_between what.kind ≡ false

-- and no kill
pub record Mild (v : View) (i : MsgId) : Type 0 where
  pub tame : Tame v i
  pub spares : is_kill tame.what.kind ≡ false

abbrev pub QuietLabel : View → Label → Type 0
QuietLabel v (Label.End p y) = ⊥
QuietLabel v (Label.Served id) = Mild v id
QuietLabel v (Label.Created id p) = ⊥
QuietLabel v _ = ⊤

abbrev pub QuietLine : View → Line → Type 0
QuietLine v (Line.Idle m) = ⊤
QuietLine v (Line.Label l) = QuietLabel v l
QuietLine v (Line.Old a b n) = ⊤
QuietLine v Line.Nothing = ⊤
QuietLine v (Line.Resent m n) = ⊤
QuietLine v (Line.Queued i) = Tame v i
QuietLine v (Line.Held i) = Tame v i
QuietLine v (Line.Forwarded i m) = Tame v i
QuietLine v (Line.Updated i n) = Tame v i
QuietLine v (Line.Here i) = Tame v i
QuietLine v (Line.NoMove i) = Tame v i
QuietLine v (Line.NoChild p) = ⊤
QuietLine v (Line.NoCall p) = ⊤
QuietLine v Line.Away = ⊤
QuietLine v (Line.Migration Stage.Asked p) = ⊤
QuietLine v (Line.Migration Stage.Frozen p) = ⊥
QuietLine v (Line.Migration Stage.Accepted p) = ⊥
QuietLine v (Line.Migration Stage.StateTaken p) = ⊥
QuietLine v (Line.Migration Stage.MemoryTaken p) = ⊥
QuietLine v (Line.Migration Stage.Left p) = ⊥
QuietLine v (Line.Migration Stage.Restarted p) = ⊥
QuietLine v _ = ⊥

abbrev pub Quiet : View → Part → Type 0
Quiet v (Says l) = QuietLine v l
Quiet v (Again i b) = Tame v i
Quiet v (Owns k q b) = is_between k ≡ false
Quiet v _ = ⊤

abbrev pub AllQuiet : View → List Part → Type 0
AllQuiet v [] = ⊤
AllQuiet v (p ∷ ps) = Quiet v p × AllQuiet v ps

-- what is quiet stays so
pub tame_on : (v w : View) (i : MsgId) → Calm v w → Tame v i → Tame w i
tame_on v w i c h = record { what = h.what; told = c.kept i h.what h.told; plain = h.plain }

label_on : (v w : View) (l : Label) → Calm v w → QuietLabel v l → QuietLabel w l
unfolding tame_on
label_on v w (Label.Served id) c h = record { tame = tame_on v w id c h.tame; spares = h.spares }
label_on v w _ c h = h

line_on : (v w : View) (l : Line) → Calm v w → QuietLine v l → QuietLine w l
line_on v w (Line.Label l) c h = label_on v w l c h
line_on v w (Line.Queued i) c h = tame_on v w i c h
line_on v w (Line.Held i) c h = tame_on v w i c h
line_on v w (Line.Forwarded i m) c h = tame_on v w i c h
line_on v w (Line.Updated i n) c h = tame_on v w i c h
line_on v w (Line.Here i) c h = tame_on v w i c h
line_on v w (Line.NoMove i) c h = tame_on v w i c h
line_on v w (Line.Migration Stage.Frozen p) c h = h
line_on v w _ c h = h

quiet_touches : (v : View) (l : Line) → QuietLine v l → touches l ≡ false
quiet_touches v (Line.Head s) h = absurd h
quiet_touches v (Line.Put a b i k q) h = absurd h
quiet_touches v (Line.Packet a b k l) h = absurd h
quiet_touches v (Line.Taken a b n) h = absurd h
quiet_touches v (Line.Early a b n) h = absurd h
quiet_touches v (Line.Acked a b n) h = absurd h
quiet_touches v (Line.Migration Stage.Frozen p) h = refl
quiet_touches v _ h = refl

pub plain_in_bag : (pt : Point) (i : MsgId) (x : PlainMessage) → Sane pt → pt.kernel.bag i ≡ Some x → Plain pt.view i
plain_in_bag pt i x h there t told = (elim (is_between t.kind) as (λ b. is_between t.kind ≡ b → b ≡ false)
    [ true ↦ λ is. absurd (false≢true (sym (not_kernels h.r h.e pt.kernel i x there h.sound) ∙ h.tells.own i t told is)) | false ↦ λ is. refl ]) refl

pub tame_plain : (v : View) (i : MsgId) → Tame v i → Plain v i
tame_plain v i h t told = (let f : Some h.what ≡ Some t = sym h.told ∙ told in let g : h.what ≡ t = cc in subst (λ (s : Told). is_between s.kind ≡ false) g h.plain)

-- a line that tells nothing and moves one message that is none of the protocol
hushed_calm : (v : View) (l : Line) (i : MsgId) → is_put l ≡ false → keeps_come l ≡ true → Plain v i → ((m : ℕ) (p : Pid) → (view_after v l).known m p ≡ v.known m p)
    → ((j : MsgId) → id_eq i j ≡ false → (z : Spot) → standing (view_after v l) j z ≡ standing v j z) → Calm v (view_after v l)
hushed_calm v l i quiet come plain known spots =
    let same : (j : MsgId) → (view_after v l).told j ≡ v.told j = λ j. ap (λ (f : MsgId → Option Told). f j) (hushed v l quiet).told in
    calm_others v (view_after v l) i plain (λ t told. plain t (sym (same i) ∙ told)) (λ t told. same i ∙ told) (record { known = known; come = λ p. come_at v l p come; told = λ j apart. same j; spots = spots })

-- a line that moves none
pub moves_none : (v : View) (l : Line) → is_put l ≡ false → keeps_come l ≡ true → ((m : ℕ) (p : Pid) → (view_after v l).known m p ≡ v.known m p) → ((z : Spot) → ids_at (view_after v l) z ≡ ids_at v z) → Calm v (view_after v l)
moves_none v l quiet come known off = calm_still v (view_after v l) known (λ p. come_at v l p come) (λ j. ap (λ (f : MsgId → Option Told). f j) (hushed v l quiet).told) (λ i z. ap (times i) (off z))

pub received_spots : (v : View) (p : Pid) (i j : MsgId) → id_eq i j ≡ false → (z : Spot) → standing (record (view.serving v p) { queue = at_record v.queue v.acting p (without_id i (v.queue v.acting p)) }) j z ≡ standing v j z
received_spots v p i j e (Queue m q) = record_times v.queue v.acting p (without_id i (v.queue v.acting p)) j (without_times i j (v.queue v.acting p) e) m q
received_spots v p i j e _ = refl

pub served_known : (v : View) (o : Option Told) (t : Told) → o ≡ Some t → is_kill t.kind ≡ false → (m : ℕ) (q : Pid) → (served_told v o).known m q ≡ v.known m q
served_known v None t e spares m q = refl
served_known v (Some s) t e spares m q = let f : s ≡ t = cc in (elim s.kind as (λ k. is_kill k ≡ false → (ends_by (sort_of k) v (Some s.receiver)).known m q ≡ v.known m q)
    [ MessageKind.Kill ↦ λ e. absurd (false≢true (sym e)) | _ ↦ λ e. refl ]) (ap (λ (u : Told). is_kill u.kind) f ∙ spares)

pub gone_plain : (pt : Point) (s : OneKernel) (l : Label) (i : MsgId) → Sane pt → kernel.step pt.kernel l ≡ Some s → out_of l ≡ Some i → Plain pt.view i
gone_plain pt s l i h is goes = let g = gone_in pt.kernel s l i is goes in plain_in_bag pt i g.message h g.there

label_calm : (pt : Point) (s : OneKernel) (l : Label) → Sane pt → QuietLabel pt.view l → kernel.step pt.kernel l ≡ Some s → Calm pt.view (view_after pt.view (Line.Label l))
label_calm pt s (Label.Ran p k) h quiet is = moves_none pt.view (Line.Label (Label.Ran p k)) refl refl (λ m q. refl) (λ z. serving_off pt.view p z)
label_calm pt s (Label.End p y) h quiet is = absurd quiet
label_calm pt s (Label.Receive p id) h quiet is =
    hushed_calm pt.view (Line.Label (Label.Receive p id)) id refl refl (gone_plain pt s (Label.Receive p id) id h is refl) (λ m q. refl) (λ j e z. received_spots pt.view p id j e z)
label_calm pt s (Label.Refuse p id c) h quiet is = moves_none pt.view (Line.Label (Label.Refuse p id c)) refl refl (λ m q. refl) (λ z. serving_off pt.view p z)
label_calm pt s (Label.Dropped id) h quiet is =
    let o = receiver_of (pt.view.told id) in
    hushed_calm pt.view (Line.Label (Label.Dropped id)) id refl refl (gone_plain pt s (Label.Dropped id) id h is refl) (λ m q. dropped_known (handled pt.view id) id o m q)
    (λ j e z. dropped_spots (handled pt.view id) id j o e z ∙ handled_spots pt.view id j e z)
label_calm pt s (Label.Served id) h quiet is =
    hushed_calm pt.view (Line.Label (Label.Served id)) id refl refl (gone_plain pt s (Label.Served id) id h is refl)
    (λ m q. served_known (handled pt.view id) (pt.view.told id) quiet.tame.what quiet.tame.told quiet.spares m q)
    (λ j e z. ap (times j) ((served_keeps (handled pt.view id) (pt.view.told id)).0 z) ∙ handled_spots pt.view id j e z)
label_calm pt s (Label.Gone id) h quiet is =
    hushed_calm pt.view (Line.Label (Label.Gone id)) id refl refl (gone_plain pt s (Label.Gone id) id h is refl) (λ m q. refl) (λ j e z. handled_spots pt.view id j e z)
label_calm pt s (Label.Took id) h quiet is =
    hushed_calm pt.view (Line.Label (Label.Took id)) id refl refl (gone_plain pt s (Label.Took id) id h is refl) (λ m q. refl) (λ j e z. handled_spots pt.view id j e z)
label_calm pt s (Label.Asked id) h quiet is =
    hushed_calm pt.view (Line.Label (Label.Asked id)) id refl refl (gone_plain pt s (Label.Asked id) id h is refl) (λ m q. refl) (λ j e z. handled_spots pt.view id j e z)
label_calm pt s (Label.Created id p) h quiet is = absurd quiet
label_calm pt s (Label.NoSpace id a b) h quiet is =
    hushed_calm pt.view (Line.Label (Label.NoSpace id a b)) id refl refl (gone_plain pt s (Label.NoSpace id a b) id h is refl) (λ m q. refl) (λ j e z. handled_spots pt.view id j e z)
label_calm pt s _ h quiet is = calm_same pt.view

pub line_calm : (pt : Point) (s : OneKernel) (l : Line) → Sane pt → QuietLine pt.view l → kernel_after pt.kernel (label_of l) ≡ Some s → Calm pt.view (view_after pt.view l)
line_calm pt s (Line.Idle m) h quiet is = calm_same pt.view
line_calm pt s (Line.Label l) h quiet is = label_calm pt s l h quiet is
line_calm pt s (Line.Old a b n) h quiet is = calm_same pt.view
line_calm pt s Line.Nothing h quiet is = calm_same pt.view
line_calm pt s (Line.Resent m n) h quiet is = calm_same pt.view
line_calm pt s (Line.Queued i) h quiet is = (let o = receiver_of (pt.view.told i) in hushed_calm pt.view (Line.Queued i) i refl refl (tame_plain pt.view i quiet) (λ m q. queued_known (handled pt.view i) i o m q) (λ j e z. queued_spots (handled pt.view i) i j o e z ∙ handled_spots pt.view i j e z))
line_calm pt s (Line.Held i) h quiet is = (let o = receiver_of (pt.view.told i) in hushed_calm pt.view (Line.Held i) i refl refl (tame_plain pt.view i quiet) (λ m q. held_known (handled pt.view i) i o m q) (λ j e z. held_spots (handled pt.view i) i j o e z ∙ handled_spots pt.view i j e z))
line_calm pt s (Line.Forwarded i m) h quiet is = (let o = receiver_of (pt.view.told i) in hushed_calm pt.view (Line.Forwarded i m) i refl refl (tame_plain pt.view i quiet) (λ n q. forwarded_known (handled pt.view i) o n q) (λ j e z. forwarded_spots (handled pt.view i) j o z ∙ handled_spots pt.view i j e z))
line_calm pt s (Line.Updated i n) h quiet is = hushed_calm pt.view (Line.Updated i n) i refl refl (tame_plain pt.view i quiet) (λ m q. refl) (λ j e z. handled_spots pt.view i j e z)
line_calm pt s (Line.Here i) h quiet is = hushed_calm pt.view (Line.Here i) i refl refl (tame_plain pt.view i quiet) (λ m q. refl) (λ j e z. handled_spots pt.view i j e z)
line_calm pt s (Line.NoMove i) h quiet is = hushed_calm pt.view (Line.NoMove i) i refl refl (tame_plain pt.view i quiet) (λ m q. refl) (λ j e z. handled_spots pt.view i j e z)
line_calm pt s (Line.NoChild p) h quiet is = calm_same pt.view
line_calm pt s (Line.NoCall p) h quiet is = calm_same pt.view
line_calm pt s Line.Away h quiet is = calm_same pt.view
line_calm pt s (Line.Migration Stage.Asked p) h quiet is = calm_same pt.view
line_calm pt s _ h quiet is = absurd quiet

-- what is kept through parts
pub record Settled (v : View) (pt : Point) : Type 0 where
  pub calm : Calm v pt.view
  pub sane : Sane pt
  pub fits : PairsFit pt.view

packet_or_none : (v : View) (pt next : Point) (c d : Bool) (a b k : ℕ) (l : _) → Calm v pt.view → PairsFit pt.view → after pt (if c then [] else if d then Line.Packet a b k l ∷ [] else []) ≡ Some next → (Calm v next.view) × (PairsFit next.view)
packet_or_none v pt next true d a b k l c h is = let f : pt ≡ next = cc in subst (λ (q : Point). (Calm v q.view) × (PairsFit q.view)) f (c, h)
packet_or_none v pt next false false a b k l c h is = let f : pt ≡ next = cc in subst (λ (q : Point). (Calm v q.view) × (PairsFit q.view)) f (c, h)
packet_or_none v pt next false true a b k l c h is =
    let f : moved pt (Line.Packet a b k l) pt.kernel ≡ next = cc in
    subst (λ (q : Point). (Calm v q.view) × (PairsFit q.view)) f (calm_trans v pt.view (view_after pt.view (Line.Packet a b k l)) c (packet_calm pt.view a b k l), fits_packet pt.view a b k l h)

puts_calm : (pt next : Point) (b : ℕ) (i : MsgId) (k : MessageKind) (q : Pid) (ls : List Line) → PairsFit pt.view → is_between k ≡ false → Plain pt.view i → Some (puts pt.view b i k q) ≡ Some ls → after pt ls ≡ Some next → (Calm pt.view next.view) × (PairsFit next.view)
puts_calm pt next b i k q ls fits e plain is leads =
    let v = pt.view in
    packet_or_none v (moved pt (Line.Put v.acting b i k q) pt.kernel) next (v.acting == b) (goes_out (v.pair v.acting b)) v.acting b (length (v.pair v.acting b).wire) (Load.Data (length (v.pair v.acting b).ids))
    (put_calm v v.acting b i k q fits e plain) (fits_put v v.acting b i k q fits) (ap (after pt) (let f : puts v b i k q ≡ ls = cc in f) ∙ leads)

pub tame_kind : (v : View) (i : MsgId) (t : Told) → Tame v i → v.told i ≡ Some t → is_between t.kind ≡ false
tame_kind v i t h told = tame_plain v i h t told

part_calm : (pt next : Point) (p : Part) (ls : List Line) → Sane pt → PairsFit pt.view → Quiet pt.view p → lines_of pt p ≡ Some ls → after pt ls ≡ Some next → (Calm pt.view next.view) × (PairsFit next.view)
part_calm pt next (Says l) ls h fits quiet is leads =
    let (mid, first, last) = bind-is (after_line pt l) (λ q. after q []) next (ap (after pt) (let f : l ∷ [] ≡ ls = cc in f) ∙ leads) in
    let (s, step, then_) = bind-is (kernel_after pt.kernel (label_of l)) (λ s. Some (moved pt l s)) mid first in
    let g : moved pt l s ≡ mid = cc in
    let e : mid ≡ next = cc in
    subst (λ (q : Point). (Calm pt.view q.view) × (PairsFit q.view)) (g ∙ e) (calm_about pt.view (view_after pt.view l) (seen pt.kernel pt.view l).topic (line_calm pt s l h quiet step), fits_as pt.view (seen pt.kernel pt.view l) (pair_same pt.view l (quiet_touches pt.view l quiet)) fits)
part_calm pt next (Routes i) ls h fits quiet is leads =
    let (m, there, last) = bind-is (pt.kernel.bag i) (λ m. Some (puts pt.view (pt.addresses (Receiver i)).at i (plain_kind m.what) m.to)) ls is in
    puts_calm pt next (pt.addresses (Receiver i)).at i (plain_kind m.what) m.to ls fits (plain_not m.what) (plain_in_bag pt i m h there) last leads
part_calm pt next (Again i b) ls h fits quiet is leads =
    let (t, there, last) = bind-is (pt.view.told i) (λ t. Some (puts pt.view b i t.kind t.receiver)) ls is in
    puts_calm pt next b i t.kind t.receiver ls fits (tame_kind pt.view i t quiet there) (tame_plain pt.view i quiet) last leads
part_calm pt next (Owns k q b) ls h fits quiet is leads =
    let own_plain : (pt : Point) → Sane pt → Plain pt.view (own_id pt.view) = λ pt h t told. absurd (let f : None ≡ Some t = sym (h.numbered pt.view.acting (pt.view.count pt.view.acting) (omega arith)) ∙ told in cc) in
    puts_calm pt next b (own_id pt.view) k q ls fits quiet (own_plain pt h) is leads
part_calm pt next (Transmits a b l) ls h fits quiet is leads =
    packet_or_none pt.view pt next false true a b (length (pt.view.pair a b).wire) l (calm_same pt.view) fits (ap (after pt) (let f : packet_line pt.view a b l ∷ [] ≡ ls = cc in f) ∙ leads)

pub parts_settle : (ps : List Part) (v : View) (pt : Point) (w : Spelled) → AllQuiet v ps → Settled v pt → spelled pt ps ≡ Some w → Settled v w.point
parts_settle [] v pt w quiet h is = let f : record { lines = []; point = pt } ≡ w = cc in subst (λ (x : Spelled). Settled v x.point) f h
parts_settle (p ∷ ps) v pt w quiet h is =
    let (ls, lines, rest) = bind-is (lines_of pt p) (λ (xs : List Line). bind (after pt xs) (λ (q : Point). bind (spelled q ps) (λ (z : Spelled). Some (behind xs z)))) w is in
    let (next, leads, last) = bind-is (after pt ls) (λ (q : Point). bind (spelled q ps) (λ (z : Spelled). Some (behind ls z))) w rest in
    let (z, more, end) = bind-is (spelled next ps) (λ (y : Spelled). Some (behind ls y)) w last in
    let here : Quiet pt.view p = (elim p as (λ p_. Quiet v p_ → Quiet pt.view p_)
    [ Says l ↦ λ h_. line_on v pt.view l h.calm h_ | Again i b ↦ λ h_. tame_on v pt.view i h.calm h_ | _ ↦ λ h_. h_ ]) quiet.0 in
    let c = part_calm pt next p ls h.sane h.fits here lines leads in
    let there : Settled v next = record {
      calm = calm_trans v pt.view next.view h.calm c.0;
      sane = part_sane pt next p ls ((elim p as (λ p_. Quiet pt.view p_ → Sayable p_) [
        | Says l ↦ λ h.
            ((elim l as (λ l_. QuietLine pt.view l_ → is_put l_ ≡ false) [ Line.Put a' b' i' k' q' ↦ λ h'. absurd h' | Line.Migration Stage.Frozen p' ↦ λ h'. refl | _ ↦ λ h'. refl ]) h)
        | _ ↦ λ h. tt
      ]) here) lines leads h.sane;
      fits = c.1;
    } in
    subst (λ (x : Spelled). Settled v x.point) (let f : behind ls z ≡ w = cc in f) (parts_settle ps v next z quiet.1 there more)
