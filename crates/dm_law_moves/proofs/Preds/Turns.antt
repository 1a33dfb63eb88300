-- A turn at a message at the front of an inbox: what each line that it brings about does to what machines know and to their predecessors.
use Rattle.dm_law_moves.proofs.Names.{◌≡◌, ◌≢◌, ℕ, ◌+◌, ◌<◌, ◌==◌, ◌&&◌, ◌||◌, Bool, true, false, not, List, [], ◌∷◌, ◌++◌, length, refl, ap, ◌∙◌, sym, subst, inl, inr, Option, None, Some, bind, cases_Bool, false≢true, Pid}
use Rattle.dm_law_moves.proofs.Names.{pid_of, MsgId, MessageKind, Line, Stage, Told, View, About, Of, Target, Known, Unknown, Here, Frozen, Incoming, Forward, OneKernel, id_eq, id_eq-is, view_after, handled, handled_first, receiver_of}
use Rattle.dm_law_moves.proofs.Names.{front_of, rejoins, gone_to, goes_back, at_record, own_id, Point, moved, Part, Says, to_kernel, sends_on, times, standing, ids_at, Spot, Queue, is_put, touches, PairsFit, sane_line, says_next, said}
use Rattle.dm_law_moves.proofs.Names.{sort_of, is_between, is_calloff, kind_comes, kind_leaves, Phase, Moves, IsIn, sender_in, receiver_in, slice_get, option_and_then, parts, eq_is, eq_self, handled_spots, queued_spots, held_spots}
use Rattle.dm_law_moves.proofs.Names.{forwarded_spots, queued_known, held_known, forwarded_known, proto_off, left_off, restarted_off, accepted_off, aim, sets, at_record_at, id_eq-same, not_false, source_knows, destination_knows}
use Rattle.dm_law_moves.proofs.Names.{called_parts, about_same}
use Rattle.dm_law_rule.specs.View as view
use Rattle.dm_law_moves.proofs.Leading.{All, part_leads, next_of}
use Rattle.dm_law_moves.proofs.Stages.Spares.{is_piece}
use Rattle.dm_law_moves.proofs.Ends.Parts.{Plain, smooth_others, hushed_smooth, told_one}
use Rattle.dm_law_moves.proofs.Ends.Open.{Turn, whole_due, first_spots}
use Rattle.dm_law_moves.proofs.Ends.Sources.{sent_smooth, sent_begins, rejoins_smooth}
use Rattle.dm_law_moves.proofs.Ends.Hears.{called_begins, turned_back}
use Rattle.dm_law_moves.proofs.Preds.Kept.{is_word, clears, Clears, clears_word, Buries, CallsOff, Word, IsKept, ByPred, ByWord, Preds, Lasts, lasts_trans, lasts_smooth, lasts_still, lasts_but, word_on, preds_same, Sets, preds_set, preds_knows}
use Rattle.dm_law_moves.proofs.Preds.Lines.{Keeps, keeps_self, Tail, tail_behind, packet_keeps, not_word, word_packet}
use Rattle.dm_law_moves.proofs.Preds.Rows.{Stood, Into, tail_into, line_into, own_put, Gone, sends_into}
use Rattle.dm_law_always.proofs.Based.Noted.{or_true}
use Rattle.dm_law_always.proofs.Found.Real.{or_cases}
use Rattle.dm_law_rule.proofs.Phases.Rests.{eq_other}

-- what stands behind the head of a turn
pub record Front (n : ℕ) (pt : Point) (i : MsgId) (is : List MsgId) (t : Told) : Type 0 where
  pub turn : Turn pt i is t
  pub preds : Preds n pt.view
  pub known_within : (a : ℕ) (p : Pid) → pt.view.known a p ≢ Unknown → a < n
  -- a message for a kernel is at its home
  pub at_home : t.receiver.num ≡ 0 → t.receiver.home ≡ pt.view.acting

pub plain_front : (n : ℕ) (pt : Point) (i : MsgId) (is : List MsgId) (t : Told) → Front n pt i is t → is_word t ≡ false → Plain is_word pt.view i
plain_front n pt i is t h plain u told = subst (λ (x : Told). is_word x ≡ false) (told_one (pt.view.told i) t u h.turn.told told) plain

-- a line that learns nothing, of a message that removes no forwarding address
pub hushed_into : (n : ℕ) (pt : Point) (i : MsgId) (is : List MsgId) (t : Told) (l : Line) (ps : List Part) → Front n pt i is t → is_word t ≡ false → is_put l ≡ false → touches l ≡ false
    → ((j : MsgId) → id_eq i j ≡ false → (z : Spot) → standing (view_after pt.view l) j z ≡ standing pt.view j z) → ((m : ℕ) (q : Pid) → (view_after pt.view l).known m q ≡ pt.view.known m q) → ((m : ℕ) (q : Pid) (r : ℕ) → (view_after pt.view l).preds m q r ≡ pt.view.preds m q r)
    → All Tail ps → Into n pt (Says l ∷ ps)
hushed_into n pt i is t l ps h plain quiet calm spots known preds tail =
    let v = pt.view in
    line_into n pt l ps h.turn.sane h.turn.fits quiet calm (λ s step. preds_same n v (view_after v l) known preds (lasts_smooth None v (view_after v l) (hushed_smooth is_word v l i quiet (plain_front n pt i is t h plain) spots)) h.preds) (λ s step stood. tail_into n (moved pt l s) ps stood tail)

-- the message at the front goes
pub front_into : (n : ℕ) (pt : Point) (i : MsgId) (is : List MsgId) (t : Told) (l : Line) (ps : List Part) → Front n pt i is t → is_word t ≡ false → is_put l ≡ false → touches l ≡ false → ((z : Spot) → ids_at (view_after pt.view l) z ≡ ids_at (handled_first pt.view) z)
    → ((m : ℕ) (q : Pid) → (view_after pt.view l).known m q ≡ pt.view.known m q) → ((m : ℕ) (q : Pid) (r : ℕ) → (view_after pt.view l).preds m q r ≡ pt.view.preds m q r) → All Tail ps → Into n pt (Says l ∷ ps)
front_into n pt i is t l ps h plain quiet calm off = hushed_into n pt i is t l ps h plain quiet calm (first_spots pt.view (view_after pt.view l) i is h.turn.front off)

-- it is queued, held, or goes on
queued_preds : (v : View) (i : MsgId) (o : Option Pid) (m : ℕ) (q : Pid) (r : ℕ) → ((view.queued_for v i o).preds m q r ≡ v.preds m q r) × ((view.held_for v i o).preds m q r ≡ v.preds m q r) × ((view.forwarded_for v o).preds m q r ≡ v.preds m q r)
queued_preds v i None m q r = (refl, refl, refl)
queued_preds v i (Some p) m q r = (refl, refl, refl)

pub queued_into : (n : ℕ) (pt : Point) (i : MsgId) (is : List MsgId) (t : Told) → Front n pt i is t → is_word t ≡ false → Into n pt (Says (Line.Queued i) ∷ [])
queued_into n pt i is t h plain =
    let v = pt.view in
    let o = receiver_of (v.told i) in
    hushed_into n pt i is t (Line.Queued i) [] h plain refl refl (λ j e z. queued_spots (handled v i) i j o e z ∙ handled_spots v i j e z) (λ m q. queued_known (handled v i) i o m q) (λ m q r. (queued_preds (handled v i) i o m q r).0) tt

pub held_into : (n : ℕ) (pt : Point) (i : MsgId) (is : List MsgId) (t : Told) → Front n pt i is t → is_word t ≡ false → Into n pt (Says (Line.Held i) ∷ [])
held_into n pt i is t h plain =
    let v = pt.view in
    let o = receiver_of (v.told i) in
    hushed_into n pt i is t (Line.Held i) [] h plain refl refl (λ j e z. held_spots (handled v i) i j o e z ∙ handled_spots v i j e z) (λ m q. held_known (handled v i) i o m q) (λ m q r. (queued_preds (handled v i) i o m q r).1) tt

pub forwarded_into : (n : ℕ) (pt : Point) (i : MsgId) (is : List MsgId) (t : Told) (to : ℕ) (ps : List Part) → Front n pt i is t → is_word t ≡ false → All Tail ps → Into n pt (Says (Line.Forwarded i to) ∷ ps)
forwarded_into n pt i is t to ps h plain tail =
    let v = pt.view in
    let o = receiver_of (v.told i) in
    hushed_into n pt i is t (Line.Forwarded i to) ps h plain refl refl (λ j e z. forwarded_spots (handled v i) j o z ∙ handled_spots v i j e z) (λ m q. forwarded_known (handled v i) o m q) (λ m q r. (queued_preds (handled v i) i o m q r).2) tail

-- it is handled, and that is all
pub handled_into : (n : ℕ) (pt : Point) (i : MsgId) (is : List MsgId) (t : Told) (l : Line) (ps : List Part) → Front n pt i is t → is_word t ≡ false → is_put l ≡ false → touches l ≡ false → view_after pt.view l ≡ handled pt.view i → All Tail ps → Into n pt (Says l ∷ ps)
handled_into n pt i is t l ps h plain quiet calm same tail =
    let v = pt.view in
    hushed_into n pt i is t l ps h plain quiet calm (λ j e z. ap (λ (w : View). standing w j z) same ∙ handled_spots v i j e z) (λ m q. ap (λ (w : View). w.known m q) same) (λ m q r. ap (λ (w : View). w.preds m q r) same) tail

-- a message of pieces
asks_same : (v : View) (a : About) → ((m : ℕ) (q : Pid) → (view.asks_on v a).known m q ≡ v.known m q) × ((m : ℕ) (q : Pid) (r : ℕ) → (view.asks_on v a).preds m q r ≡ v.preds m q r)
asks_same v (Of p) = (λ m q. refl, λ m q r. refl)
asks_same v _ = (λ m q. refl, λ m q r. refl)

follows_same : (v : View) (a : About) (k : MessageKind) → ((m : ℕ) (q : Pid) → (view.follows_by v a (sort_of k)).known m q ≡ v.known m q) × ((m : ℕ) (q : Pid) (r : ℕ) → (view.follows_by v a (sort_of k)).preds m q r ≡ v.preds m q r)
follows_same v a MessageKind.State = asks_same v a
follows_same v a MessageKind.Memory = asks_same v a
follows_same v a _ = (λ m q. refl, λ m q r. refl)

proto_same : (v : View) (o : Option Told) → ((m : ℕ) (q : Pid) → (view.after_proto v o).known m q ≡ v.known m q) × ((m : ℕ) (q : Pid) (r : ℕ) → (view.after_proto v o).preds m q r ≡ v.preds m q r)
proto_same v None = (λ m q. refl, λ m q r. refl)
proto_same v (Some t) = let k = follows_same v t.about t.kind in (k.0, k.1)

pub piece_into : (n : ℕ) (pt : Point) (i : MsgId) (is : List MsgId) (t : Told) (k : MessageKind) (b : ℕ) → Front n pt i is t → is_word t ≡ false → Into n pt (Says (Line.Proto i) ∷ to_kernel k b ∷ [])
piece_into n pt i is t k b h plain =
    let v = pt.view in
    let same = proto_same (handled v i) (v.told i) in
    hushed_into n pt i is t (Line.Proto i) (to_kernel k b ∷ []) h plain refl refl (λ j e z. ap (times j) (proto_off (handled v i) (v.told i) z) ∙ handled_spots v i j e z) same.0 same.1 (tt, tt)

-- The move that the message at the front is about.
pub record AtFront (v : View) (q : Pid) (i : MsgId) (k : MessageKind) : Type 0 where
  pub s : ℕ
  pub d : ℕ
  pub phase : IsIn v q (Moves k s d (Some i))
  pub acting : v.acting ≡ receiver_in k s d
  pub from : i.from ≡ pid_of (sender_in k s d) 0
  pub apart : (s == d) ≡ false

pub at_front : (pt : Point) (i : MsgId) (is : List MsgId) (t : Told) (q : Pid) (k : MessageKind) → Turn pt i is t → t.kind ≡ k → is_between k ≡ true → is_piece k ≡ false → t.about ≡ Of q → AtFront pt.view q i k
at_front pt i is t q k h kind between whole about =
    let u = whole_due pt i is t h.phases q h.front h.told (ap is_between kind ∙ between) about (ap is_piece kind ∙ whole) in
    let pu : u.p ≡ q = about_same u.p q (sym (ap (λ (y : Told). y.about) u.told) ∙ about) in
    let ku : u.k ≡ k = sym (ap (λ (y : Told). y.kind) u.told) ∙ kind in
    let now : IsIn pt.view u.p (Moves u.k u.s u.d (Some i)) = subst (λ (x : Phase). IsIn pt.view u.p x) u.phase (h.phases.each u.p) in
    let phase : IsIn pt.view q (Moves k u.s u.d (Some i)) = subst (λ (x : MessageKind). IsIn pt.view q (Moves x u.s u.d (Some i))) ku (subst (λ (r : Pid). IsIn pt.view r (Moves u.k u.s u.d (Some i))) pu now) in
    record {
      s = u.s;
      d = u.d;
      phase = phase;
      acting = u.acting ∙ ap (λ (x : MessageKind). receiver_in x u.s u.d) ku;
      from = u.from ∙ ap (λ (x : MessageKind). pid_of (sender_in x u.s u.d) 0) ku;
      apart = not_false (u.s == u.d) (parts (is_between k) (not (u.s == u.d)) phase.apart).1;
    }

source_is : (v : View) (q : Pid) (i : MsgId) (k : MessageKind) (h : AtFront v q i k) → kind_leaves k h.d (v.known h.s q) ≡ true
source_is v q i k h = source_knows k h.s h.d (Some i) (v.known h.s q) (h.phase.known h.s)

target_is : (v : View) (q : Pid) (i : MsgId) (k : MessageKind) (h : AtFront v q i k) → kind_comes k h.s (v.known h.d q) ≡ true
target_is v q i k h = destination_knows k h.s h.d (Some i) (v.known h.d q) h.apart (h.phase.known h.d)

-- so it is known at both ends
leaves_known : (k : MessageKind) (d : ℕ) (x : Known) → kind_leaves k d x ≡ true → x ≢ Unknown
leaves_known k d x e is = false≢true (sym (ap (kind_leaves k d) is) ∙ e)

calls_known : (s : ℕ) (x : Known) → kind_comes MessageKind.CallOff s x ≡ true → x ≢ Unknown
calls_known s x e is = false≢true (sym (ap (kind_comes MessageKind.CallOff s) is) ∙ e)

all_comes : (s : ℕ) (x : Known) → kind_comes MessageKind.AllTaken s x ≡ true → x ≡ Incoming s
all_comes s (Incoming m) e = ap Incoming (sym (eq_is s m e))
all_comes s _ e = absurd (false≢true e)

all_leaves : (d to : ℕ) → kind_leaves MessageKind.AllTaken d (Frozen to) ≡ true → d ≡ to
all_leaves d to e = eq_is d to e

front_home : (pt : Point) (i : MsgId) (is : List MsgId) (t : Told) → Turn pt i is t → front_of (pt.view.inbox pt.view.acting) ≡ i.from.home
front_home pt i is t h = ap front_of h.front

-- step 3: the machine that a process comes from is a predecessor
pub accepted_into : (n : ℕ) (pt : Point) (i : MsgId) (is : List MsgId) (t : Told) (q : Pid) (b : ℕ) → Front n pt i is t → t.kind ≡ MessageKind.Ask → t.about ≡ Of q → Into n pt (Says (Line.Migration Stage.Accepted q) ∷ to_kernel MessageKind.PullState b ∷ [])
accepted_into n pt i is t q b h kind about =
    let v = pt.view in
    let l = Line.Migration Stage.Accepted q in
    let w = view_after v l in
    let a = v.acting in
    let f = front_of (v.inbox a) in
    let plain : is_word t ≡ false = not_word t (ap clears kind) in
    let u = at_front pt i is t q MessageKind.Ask h.turn kind refl refl about in
    let from : f ≡ u.s = front_home pt i is t h.turn ∙ ap (λ (r : Pid). r.home) u.from in
    let far : (f == a) ≡ false = ap (λ (x : ℕ). x == a) from ∙ ap (λ (x : ℕ). u.s == x) u.acting ∙ u.apart in
    let less : u.s < n = h.known_within u.s q (leaves_known MessageKind.Ask u.d (v.known u.s q) (source_is v q i MessageKind.Ask u)) in
    let lasts : Lasts None v w = lasts_smooth None v w (hushed_smooth is_word v l i refl (plain_front n pt i is t h plain) (first_spots v w i is h.turn.front (accepted_off v q))) in
    let set : Sets n v w a q (Incoming f) (view.added f (v.preds a q)) = record {
      known = λ m r. refl;
      preds = λ m r j. refl;
      mine = λ k c e. cc;
      was = λ m e. ByPred (at_self w v q f m e);
      words = λ r m k apart x. ByWord (word_on None v w r m k lasts x (λ e. cc));
      others = ap (λ (c : Bool). c || v.preds a q a) far ∙ h.preds.others a q;
      none = λ e r. cc;
      within = λ r e. elim (or_cases (f == r) (v.preds a q r) e) [
        | inl same ↦ subst (λ (x : ℕ). x < n) (sym from ∙ eq_is f r same) less
        | inr was ↦ h.preds.within a r q was
      ];
      comes = λ s e. (let same : f ≡ s = (let g : Incoming f ≡ Incoming s = e in cc) in ap (λ (c : Bool). c || v.preds a q s) (ap (λ (x : ℕ). f == x) (sym same) ∙ eq_self f));
    } in
    line_into n pt l (to_kernel MessageKind.PullState b ∷ []) h.turn.sane h.turn.fits refl refl (λ s step. preds_set n v w a q (Incoming f) (view.added f (v.preds a q)) set h.preds) (λ s step stood. tail_into n (moved pt l s) (to_kernel MessageKind.PullState b ∷ []) stood (tt, tt))
  where
    at_self : (w v : View) (q : Pid) (f m : ℕ) → v.preds v.acting q m ≡ true → (at_record v.preds v.acting q (view.added f (v.preds v.acting q)) v.acting q m) ≡ true
    at_self w v q f m e = ap (λ (g : ℕ → Bool). g m) (at_record_at v.preds v.acting q (view.added f (v.preds v.acting q))) ∙ ap (λ (c : Bool). (f == m) || c) e ∙ or_true (f == m)

-- a process is here again
lasts_handled : (n : ℕ) (pt : Point) (i : MsgId) (is : List MsgId) (t : Told) → Front n pt i is t → is_word t ≡ false → Lasts None pt.view (handled_first pt.view)
lasts_handled n pt i is t h plain =
    let v = pt.view in
    let other = plain_front n pt i is t h plain in
    lasts_smooth None v (handled_first v) (smooth_others is_word v (handled_first v) i other other (λ x e. e) (record { told = λ j x. refl; spots = first_spots v (handled_first v) i is h.turn.front (λ z. refl) }))

pub restarted_into : (n : ℕ) (pt : Point) (i : MsgId) (is : List MsgId) (t : Told) (q : Pid) (ps : List Part) → Front n pt i is t → t.kind ≡ MessageKind.Restart → All Tail ps → Into n pt (Says (Line.Migration Stage.Restarted q) ∷ ps)
restarted_into n pt i is t q ps h kind tail =
    let v = pt.view in
    let l = Line.Migration Stage.Restarted q in
    let w = view_after v l in
    let back = rejoins (handled_first v) q in
    let lasts : Lasts None v w = lasts_trans None v back w (lasts_trans None v (handled_first v) back (lasts_handled n pt i is t h (not_word t (ap clears kind))) (lasts_smooth None (handled_first v) back (rejoins_smooth is_word (handled_first v) q)))
    (lasts_still None back w (λ j. refl) (λ j z. ap (times j) (restarted_off v q z))) in
    line_into n pt l ps h.turn.sane h.turn.fits refl refl (λ s step. preds_knows n v w v.acting q Here (λ m r. refl) (λ m r j. refl) (λ k c e. cc) (λ e. cc) (λ s e. cc) lasts h.preds) (λ s step stood. tail_into n (moved pt l s) ps stood tail)

-- it stays: behind a calling off, the machine that called forwards to this one from now on
stays_off : (v : View) (q : Pid) (z : Spot) → ids_at (view_after v (Line.Stays q)) z ≡ ids_at (rejoins (handled_first v) q) z
stays_off v q (Queue m r) = refl
stays_off v q _ = refl

calls_is : (pt : Point) (i : MsgId) (is : List MsgId) (t : Told) → Turn pt i is t → view.calls_back (view.front_told pt.view) ≡ is_calloff t.kind
calls_is pt i is t h = ap (λ (ids : List MsgId). view.calls_back (option_and_then pt.view.told (slice_get ids 0))) h.front ∙ ap view.calls_back h.told

stays_lasts : (n : ℕ) (pt : Point) (i : MsgId) (is : List MsgId) (t : Told) (q : Pid) → Front n pt i is t → Lasts (Some i) pt.view (view_after pt.view (Line.Stays q))
stays_lasts n pt i is t q h =
    let v = pt.view in
    let w = view_after v (Line.Stays q) in
    let back = rejoins (handled_first v) q in
    lasts_trans (Some i) v back w
    (lasts_trans (Some i) v (handled_first v) back (lasts_but v (handled_first v) i (λ j. refl) (first_spots v (handled_first v) i is h.turn.front (λ z. refl))) (lasts_smooth (Some i) (handled_first v) back (rejoins_smooth is_word (handled_first v) q)))
    (lasts_still (Some i) back w (λ j. refl) (λ j z. ap (times j) (stays_off v q z)))

pub stays_into : (n : ℕ) (pt : Point) (i : MsgId) (is : List MsgId) (t : Told) (q : Pid) (ps : List Part) → Front n pt i is t → (view.calls_back (view.front_told pt.view) ≡ true → (front_of (pt.view.inbox pt.view.acting) == pt.view.acting) ≡ false) → (view.calls_back (view.front_told pt.view) ≡ true → front_of (pt.view.inbox pt.view.acting) < n)
    → ((r : Pid) (m k : ℕ) (x : Word pt.view r m k) → x.message ≡ i → IsKept (view_after pt.view (Line.Stays q)) r m k) → All Tail ps → Into n pt (Says (Line.Stays q) ∷ ps)
stays_into n pt i is t q ps h far less mine tail =
    let v = pt.view in
    let l = Line.Stays q in
    let w = view_after v l in
    let a = v.acting in
    let f = front_of (v.inbox a) in
    let c = view.calls_back (view.front_told v) in
    let y = view.with_caller c f (v.preds a q) in
    let lasts = stays_lasts n pt i is t q h in
    let set : Sets n v w a q Here y = record {
      known = λ m r. refl;
      preds = λ m r j. refl;
      mine = λ k c e. cc;
      was = λ m e. ByPred (ap (λ (g : ℕ → Bool). g m) (at_record_at v.preds a q y) ∙ ap (λ (d : Bool). (c && (f == m)) || d) e ∙ or_true (c && (f == m)));
      words = λ r m k apart x. elim (cases_Bool (id_eq i x.message)) [
        | inl same ↦ mine r m k x (sym (id_eq-is i x.message same))
        | inr off ↦ ByWord (word_on (Some i) v w r m k lasts x (λ e. let g : i ≡ x.message = cc in false≢true (sym off ∙ ap (id_eq i) (sym g) ∙ id_eq-same i)))
      ];
      others = by_caller c f (v.preds a q) a far (h.preds.others a q);
      none = λ e r. cc;
      within = λ r e. elim (or_cases (c && (f == r)) (v.preds a q r) e) [
        | inl called ↦ (let k = parts c (f == r) called in subst (λ (x : ℕ). x < n) (eq_is f r k.1) (less k.0))
        | inr was ↦ h.preds.within a r q was
      ];
      comes = λ s e. cc;
    } in
    line_into n pt l ps h.turn.sane h.turn.fits refl refl (λ s step. preds_set n v w a q Here y set h.preds) (λ s step stood. tail_into n (moved pt l s) ps stood tail)
  where
    by_caller : (c : Bool) (f : ℕ) (g : ℕ → Bool) (a : ℕ) → (c ≡ true → (f == a) ≡ false) → g a ≡ false → view.with_caller c f g a ≡ false
    by_caller true f g a far none = ap (λ (d : Bool). d || g a) (far refl) ∙ none
    by_caller false f g a far none = none

pub refused_into : (n : ℕ) (pt : Point) (i : MsgId) (is : List MsgId) (t : Told) (q : Pid) (ps : List Part) → Front n pt i is t → t.kind ≡ MessageKind.Refuse → All Tail ps → Into n pt (Says (Line.Stays q) ∷ ps)
refused_into n pt i is t q ps h kind tail =
    let none : view.calls_back (view.front_told pt.view) ≡ false = calls_is pt i is t h.turn ∙ ap is_calloff kind in
    let plain = plain_front n pt i is t h (not_word t (ap clears kind)) in
    stays_into n pt i is t q ps h (λ e. absurd (false≢true (sym none ∙ e))) (λ e. absurd (false≢true (sym none ∙ e)))
    (λ r m k x is_. absurd (false≢true (sym (plain x.told (ap pt.view.told (sym is_) ∙ x.is)) ∙ clears_word m k x.message x.told x.clears))) tail

called_word : (n : ℕ) (pt : Point) (i : MsgId) (is : List MsgId) (t : Told) (q : Pid) (r : Pid) (m k : ℕ) → Front n pt i is t → t.kind ≡ MessageKind.CallOff → t.about ≡ Of q → t.about ≡ Of r → Clears m k i t → IsKept (view_after pt.view (Line.Stays q)) r m k
called_word n pt i is t q r m k h kind about mine (Buries is_ to) = absurd (false≢true (sym (ap is_calloff is_) ∙ ap is_calloff kind))
called_word n pt i is t q r m k h kind about mine (CallsOff is_ to from) =
    let v = pt.view in
    let a = v.acting in
    let f = front_of (v.inbox a) in
    let c = view.calls_back (view.front_told v) in
    let y = view.with_caller c f (v.preds a q) in
    let called : c ≡ true = calls_is pt i is t h.turn ∙ ap is_calloff kind in
    let home : f ≡ m = front_home pt i is t h.turn ∙ ap (λ (x : Pid). x.home) from in
    let at : k ≡ a = sym (ap (λ (x : Pid). x.home) to) ∙ h.at_home (ap (λ (x : Pid). x.num) to) in
    let same : q ≡ r = about_same q r (sym about ∙ mine) in
    let one : (c && (f == m)) ≡ true = ap (λ (d : Bool). d && (f == m)) called ∙ ap (λ (x : ℕ). x == m) home ∙ eq_self m in
    let there : (view_after v (Line.Stays q)).preds a q m ≡ true = ap (λ (g : ℕ → Bool). g m) (at_record_at v.preds a q y) ∙ ap (λ (d : Bool). d || v.preds a q m) one in
    subst (λ (x : Pid). IsKept (view_after v (Line.Stays q)) x m k) same (ByPred (ap (λ (x : ℕ). (view_after v (Line.Stays q)).preds x q m) at ∙ there))

pub called_back_into : (n : ℕ) (pt : Point) (i : MsgId) (is : List MsgId) (t : Told) (q : Pid) (ps : List Part) → Front n pt i is t → t.kind ≡ MessageKind.CallOff → t.about ≡ Of q → All Tail ps → Into n pt (Says (Line.Stays q) ∷ ps)
called_back_into n pt i is t q ps h kind about tail =
    let v = pt.view in
    let u = at_front pt i is t q MessageKind.CallOff h.turn kind refl refl about in
    let f = front_of (v.inbox v.acting) in
    let from : f ≡ u.d = front_home pt i is t h.turn ∙ ap (λ (r : Pid). r.home) u.from in
    let far : (f == v.acting) ≡ false = ap (λ (x : ℕ). x == v.acting) from ∙ ap (λ (x : ℕ). u.d == x) u.acting ∙ eq_other u.s u.d u.apart in
    let less : f < n = subst (λ (x : ℕ). x < n) (sym from) (h.known_within u.d q (calls_known u.s (v.known u.d q) (target_is v q i MessageKind.CallOff u))) in
    stays_into n pt i is t q ps h (λ e. far) (λ e. less)
    (λ r m k x same.
    let told : x.told ≡ t = told_one (v.told i) x.told t (ap v.told (sym same) ∙ x.is) h.turn.told in
    called_word n pt i is t q r m k h kind about (sym (ap (λ (y : Told). y.about) told) ∙ x.about) (subst (λ (y : Told). Clears m k i y) told (subst (λ (j : MsgId). Clears m k j x.told) same x.clears))) tail

-- a process is frozen
sets_preds : (v : View) (p : Pid) (a : About) (m : ℕ) (q : Pid) (r : ℕ) → (view.sets_off v p a).preds m q r ≡ v.preds m q r
sets_preds v p (Target to) m q r = refl
sets_preds v p _ m q r = refl

pub frozen_into : (n : ℕ) (pt : Point) (p : Pid) (ps : List Part) → Stood n pt → Lasts None pt.view (view_after pt.view (Line.Migration Stage.Frozen p)) → All Tail ps → Into n pt (Says (Line.Migration Stage.Frozen p) ∷ ps)
frozen_into n pt p ps h lasts tail =
    let v = pt.view in
    let l = Line.Migration Stage.Frozen p in
    let x = Frozen (aim v v.topic) in
    line_into n pt l ps h.sane h.fits refl refl (λ s step. preds_knows n v (view_after v l) v.acting p x (λ m q. ap (λ (f : ℕ → Pid → Known). f m q) (sets v p v.topic).known) (λ m q r. sets_preds v p v.topic m q r) (λ k c e. cc) (λ e. cc) (λ s e. cc) lasts h.preds)
    (λ s step stood. tail_into n (moved pt l s) ps stood tail)

-- step 7: the forwarding address is held back by the destination, which waits for the process
pub left_into : (n : ℕ) (pt : Point) (i : MsgId) (is : List MsgId) (t : Told) (q : Pid) (to b : ℕ) → Front n pt i is t → t.kind ≡ MessageKind.AllTaken → t.about ≡ Of q → pt.view.known pt.view.acting q ≡ Frozen to
    → Into n pt (Says (Line.SentOn q (length (pt.view.queue pt.view.acting q ++ pt.view.held pt.view.acting q))) ∷ sends_on to (pt.view.queue pt.view.acting q ++ pt.view.held pt.view.acting q) ++ Says (Line.Migration Stage.Left q) ∷ to_kernel MessageKind.Restart b ∷ [])
left_into n pt i is t q to b h kind about here w e =
    let v = pt.view in
    let a = v.acting in
    let ids = v.queue a q ++ v.held a q in
    let l = Line.SentOn q (length ids) in
    let l2 = Line.Migration Stage.Left q in
    let qs = Says l2 ∷ to_kernel MessageKind.Restart b ∷ [] in
    let k = says_next pt l (sends_on to ids ++ qs) w e in
    let mid = moved pt l k.s in
    let fits : PairsFit mid.view = record { within = h.turn.fits.within; home = h.turn.fits.home } in
    let u = at_front pt i is t q MessageKind.AllTaken h.turn kind refl refl about in
    let target : u.d ≡ to = all_leaves u.d to (sym (ap (kind_leaves MessageKind.AllTaken u.d) (ap (λ (m : ℕ). v.known m q) (sym u.acting) ∙ here)) ∙ source_is v q i MessageKind.AllTaken u) in
    let waits : v.known to q ≡ Incoming a = subst (λ (m : ℕ). v.known m q ≡ Incoming a) target (all_comes u.s (v.known u.d q) (target_is v q i MessageKind.AllTaken u) ∙ ap Incoming (sym u.acting)) in
    let pred : v.preds to q a ≡ true = h.preds.comes to a q waits in
    let rest : (x : Point) → Gone mid.view v x → Into n x qs = λ x g.
    let y = x.view in
    let z = view_after y l2 in
    let now : Preds n y = preds_same n v y (λ m r. g.keeps.same.known m r) (λ m r j. g.keeps.same.preds m r j) (lasts_smooth None v y (sent_smooth is_word v y g.sending)) h.preds in
    let acting : y.acting ≡ a = g.keeps.same.acting in
    let frozen : y.known y.acting q ≡ Frozen to = ap (λ (m : ℕ). y.known m q) acting ∙ g.keeps.same.known a q ∙ here in
    let c = y.moves q + 1 in
    let pred_ : z.preds to q y.acting ≡ true = ap (y.preds to q) acting ∙ g.keeps.same.preds to q a ∙ pred in
    line_into n x l2 (to_kernel MessageKind.Restart b ∷ []) g.sane g.keeps.fits refl refl
    (λ s step. preds_knows n y z y.acting q (gone_to (y.known y.acting q) c) (λ m r. refl) (λ m r j. refl)
    (λ k j is_. (let f : Forward to c ≡ Forward k j = sym (ap (λ (x : Known). gone_to x c) frozen) ∙ is_ in let same : to ≡ k = cc in subst (λ (m : ℕ). IsKept z q y.acting m) same (ByPred pred_)))
    (λ is_. (let f : Forward to c ≡ Unknown = sym (ap (λ (x : Known). gone_to x c) frozen) ∙ is_ in cc)) (λ s is_. (let f : Forward to c ≡ Incoming s = sym (ap (λ (x : Known). gone_to x c) frozen) ∙ is_ in cc))
    (lasts_still None y z (λ j. refl) (λ j o. ap (times j) (left_off y q o))) now) (λ s step stood. tail_into n (moved x l2 s) (to_kernel MessageKind.Restart b ∷ []) stood (tt, tt)) in
    subst (λ (x : Point). Preds n x.view) k.point (sends_into n mid.view v ids to qs mid (sent_begins is_word v q (length ids) i is h.turn.front (plain_front n pt i is t h (not_word t (ap clears kind))) h.turn.fits) (keeps_self mid fits)
    (sane_line pt mid l refl (ap (λ (o : Option OneKernel). bind o (λ s. Some (moved pt l s))) k.is) h.turn.sane) rest k.rest k.more)

-- a move is called off: until the other machine hears of that, the forwarding address to it is held back by the word
pub called_into : (n : ℕ) (pt : Point) (q : Pid) (from : ℕ) → Stood n pt → pt.view.known pt.view.acting q ≡ Incoming from → Into n pt (called_parts q (pt.view.held pt.view.acting q) from)
called_into n pt q from h here w e =
    let v = pt.view in
    let a = v.acting in
    let ids = v.held a q in
    let l = Line.Called q (length ids) in
    let part = to_kernel MessageKind.CallOff from in
    let k = says_next pt l (sends_on from ids ++ part ∷ []) w e in
    let mid = moved pt l k.s in
    let fits : PairsFit mid.view = record { within = h.fits.within; home = h.fits.home } in
    let b = turned_back v q in
    let c = v.moves q in
    let rest : (x : Point) → Gone mid.view b x → Into n x (part ∷ []) = λ x g w e.
    let y = x.view in
    let acting : y.acting ≡ a = g.keeps.same.acting in
    let m = next_of x part [] w e in
    let at : m.next ≡ w.point = said m.next m.rest m.more ∙ m.point in
    let keeps : Keeps mid.view m.next = part_leads (Keeps mid.view) (packet_keeps mid.view) x m.next part (tail_behind mid.view x part tt tt g.sane g.keeps) m.steps in
    let put = own_put x from MessageKind.CallOff (pid_of from 0) g.sane g.keeps.fits in
    let begun : Word (moved x (Line.Put y.acting from (own_id y) MessageKind.CallOff (pid_of from 0)) x.kernel).view q a from = record {
      message = own_id y;
      told = record { kind = MessageKind.CallOff; receiver = pid_of from 0; about = y.topic };
      is = put.told;
      about = g.keeps.same.topic;
      clears = CallsOff refl refl (ap (λ (j : ℕ). pid_of j 0) acting);
      stands = put.stands;
    } in
    let word : Word m.next.view q a from = part_leads (λ (o : Point). Word o.view q a from) (word_packet q a from) x m.next part begun m.steps in
    let z = m.next.view in
    let own = part_leads (Keeps y) (packet_keeps y) x m.next part (tail_behind y x part tt tt g.sane (keeps_self x g.keeps.fits)) m.steps in
    let lasts : Lasts None v z = lasts_trans None v y z (lasts_trans None v b y (lasts_still None v b (λ j. refl) (λ j o. refl)) (lasts_smooth None b y (sent_smooth is_word b y g.sending))) own.lasts in
    let there : Preds n z = preds_knows n v z a q (goes_back (v.known a q) c) (λ j r. keeps.same.known j r) (λ j r o. keeps.same.preds j r o)
    (λ k j is_. (let f : Forward from c ≡ Forward k j = sym (ap (λ (x : Known). goes_back x c) here) ∙ is_ in let same : from ≡ k = cc in subst (λ (o : ℕ). IsKept z q a o) same (ByWord word)))
    (λ is_. (let f : Forward from c ≡ Unknown = sym (ap (λ (x : Known). goes_back x c) here) ∙ is_ in cc)) (λ s is_. (let f : Forward from c ≡ Incoming s = sym (ap (λ (x : Known). goes_back x c) here) ∙ is_ in cc))
    lasts h.preds in
    subst (λ (o : Point). Preds n o.view) at there in
    subst (λ (x : Point). Preds n x.view) k.point (sends_into n mid.view b ids from (part ∷ []) mid (called_begins is_word v q (length ids) h.fits) (keeps_self mid fits)
    (sane_line pt mid l refl (ap (λ (o : Option OneKernel). bind o (λ s. Some (moved pt l s))) k.is) h.sane) rest k.rest k.more)
