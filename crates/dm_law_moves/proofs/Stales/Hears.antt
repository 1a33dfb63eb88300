-- A turn that handles a kernel's own message: what it does with the pieces that stand.
use Rattle.dm_law_moves.proofs.Names.{◌≡◌, ℕ, ◌+◌, ◌==◌, ◌&&◌, Bool, true, false, List, [], ◌∷◌, ◌++◌, length, refl, ap, ◌∙◌, sym, subst, arith, nat_tests, ⊤, if◌then◌else◌, not, Option, None, Some, bind, left_true, Pid, pid_eq, MsgId}
use Rattle.dm_law_moves.proofs.Names.{MessageKind, Boot, Line, Stage, View, Told, About, Of, Known, Unknown, Here, Frozen, Forward, view_after, handled_first, target_of, Point, moved, Part, Says, Spelled, spelled, to_kernel, sends_on}
use Rattle.dm_law_moves.proofs.Names.{accepts, takes_chunk, takes_block, tells_asker, leaves, told_step, told_here, told_ended, process_told, kernel_hears, manager, is_between, sort_of, Spot, ids_at, times, PairsFit, Sane}
use Rattle.dm_law_moves.proofs.Names.{sane_line, Tame, MoveNote, Outcome, chunks_of, pieces_of, accepted_off, memory_off, lacks_off, proto_off, restarted_off, frozen_off, first_off, rejoins, is_put, touches}
use Rattle.dm_law_moves.proofs.Names.{line_next, turned, handled, label_of, by_forwards, Addresses, updates, leaves_for, hears, plain_by, forwards_on, is_stale, is_waited_from, brings_piece, stales, called_parts, tells_end}
use Rattle.dm_law_moves.proofs.Names.{buried, preds_of, buries_kept, bury_is}
use Rattle.dm_law_rule.specs.Rule as rule
use Rattle.dm_law_rule.specs.View as view
use Rattle.dm_law_moves.proofs.Names.{Size, size_of, is_server}
use Rattle.dm_law_moves.proofs.LastPieces.{last_chunk, state_goes}
use Rattle.dm_law_moves.proofs.Stages.Spares.{is_piece}
use Rattle.dm_law_moves.proofs.Ends.Parts.{Smooth, Plain, smooth_trans, smooth_still, smooth_others, told_by, unit_if}
use Rattle.dm_law_moves.proofs.Ends.Open.{Turn, first_smooth, first_spots}
use Rattle.dm_law_moves.proofs.Ends.Sources.{sent_smooth, all_sent, sends_count, sent_begins, rejoins_smooth}
use Rattle.dm_law_moves.proofs.Ends.Hears.{called_begins, turned_back}
use Rattle.dm_law_moves.proofs.Stales.Weighs.{takes_on, takes_all}
use Rattle.dm_law_moves.proofs.Stales.Pieces.{piece_for, no_piece_for, plain_piece, AllSlight, parts_smooth}
use Rattle.dm_law_moves.proofs.Stales.Rows.{two_flows, Flows, Even, smooth_flows, slight_flows, line_flows, answer_flows, stale_flows}

-- what comes of a turn, if anything does
abbrev pub FlowsOf : Pid → Point → Option (List Part) → Type 0
FlowsOf p pt None = ⊤
FlowsOf p pt (Some ps) = (w : Spelled) → spelled pt ps ≡ Some w → Flows p pt.view w.point.view ps

plain_front : (p : Pid) (pt : Point) (i : MsgId) (is : List MsgId) (t : Told) → Turn pt i is t → is_piece t.kind ≡ false → Plain (piece_for p) pt.view i
plain_front p pt i is t h plain u told = let f : Some t ≡ Some u = sym h.told ∙ told in let g : t ≡ u = cc in subst (λ (x : Told). piece_for p x ≡ false) g (no_piece_for p t plain)

-- a machine takes the process, or has no room
accepts_flows : (p : Pid) (pt : Point) (i : MsgId) (is : List MsgId) (t : Told) (q : Pid) (room : Bool) (x y b : ℕ) → Turn pt i is t → t.kind ≡ MessageKind.Ask → t.about ≡ Of q → FlowsOf p pt (Some (accepts b q room x y))
accepts_flows p pt i is t q true x y b h kind about = λ w e.
    answer_flows p pt i is t q (Line.Migration Stage.Accepted q) MessageKind.Ask MessageKind.PullState b w h kind about refl refl refl (accepted_off pt.view q) refl (record { sum = omega arith; stale = λ f. refl }) e
accepts_flows p pt i is t q false x y b h kind about = λ w e.
    answer_flows p pt i is t q (Line.Lacks q x y) MessageKind.Ask MessageKind.Refuse b w h kind about refl refl refl (lacks_off pt.view q x y) refl (record { sum = refl; stale = λ f. refl }) e

-- a piece goes out, or the next is asked for
piece_flows : (p : Pid) (pt : Point) (i : MsgId) (is : List MsgId) (t : Told) (q : Pid) (j k : MessageKind) (b : ℕ) → Turn pt i is t → t.kind ≡ j → t.about ≡ Of q → is_piece j ≡ true → is_piece k ≡ true → FlowsOf p pt (Some (Says (Line.Proto i) ∷ to_kernel k b ∷ []))
piece_flows p pt i is t q j k b h kind about from to w e =
    let v = pt.view in
    let l = Line.Proto i in
    let even : Even p q l j k = record { sum = ap (λ (c : Bool). 0 + unit_if (c && pid_eq p q)) (from ∙ sym to); stale = λ f. refl } in
    let topic : (view_after v l).topic ≡ Of q = (let topic_of : (o : Option Told) → o ≡ Some t → (view.after_proto (handled v i) o).topic ≡ t.about = λ o is. grind (arith, nat_tests) in topic_of (v.told i) h.told) ∙ about in
    answer_flows p pt i is t q l j k b w h kind about refl refl refl (λ z. proto_off (handled v i) (v.told i) z ∙ sym (first_off v i is h.front z)) topic even e

-- the last chunk of a server is its last piece, and all has come
last_flows : (p : Pid) (pt : Point) (i : MsgId) (is : List MsgId) (t : Told) (q : Pid) (b : ℕ) (c : Bool) → Turn pt i is t → t.kind ≡ MessageKind.State → t.about ≡ Of q → is_server q ≡ c
    → FlowsOf p pt (Some (if c then last_chunk q b else Says (Line.Migration Stage.StateTaken q) ∷ to_kernel MessageKind.PullBlock b ∷ []))
last_flows p pt i is t q b true h kind about server = λ w e. two_flows p pt i is t q b w h kind about server e
last_flows p pt i is t q b false h kind about free = λ w e.
    answer_flows p pt i is t q (Line.Migration Stage.StateTaken q) MessageKind.State MessageKind.PullBlock b w h kind about refl refl refl (λ z. state_goes pt.view q z free) refl (record { sum = refl; stale = λ f. refl }) e

chunk_flows : (p : Pid) (pt : Point) (i : MsgId) (is : List MsgId) (t : Told) (q : Pid) (last : Bool) → Turn pt i is t → t.kind ≡ MessageKind.State → t.about ≡ Of q → FlowsOf p pt (Some (takes_chunk i q last))
chunk_flows p pt i is t q true h kind about = last_flows p pt i is t q i.from.home (is_server q) h kind about refl
chunk_flows p pt i is t q false h kind about = piece_flows p pt i is t q MessageKind.State MessageKind.PullState i.from.home h kind about refl refl

block_flows : (p : Pid) (pt : Point) (i : MsgId) (is : List MsgId) (t : Told) (q : Pid) (last : Bool) → Turn pt i is t → t.kind ≡ MessageKind.Memory → t.about ≡ Of q → FlowsOf p pt (Some (takes_block i q last))
block_flows p pt i is t q true h kind about = λ w e.
    answer_flows p pt i is t q (Line.Migration Stage.MemoryTaken q) MessageKind.Memory MessageKind.AllTaken i.from.home w h kind about refl refl refl (memory_off pt.view q) refl (record { sum = omega arith; stale = λ f. refl }) e
block_flows p pt i is t q false h kind about = piece_flows p pt i is t q MessageKind.Memory MessageKind.PullBlock i.from.home h kind about refl refl

-- a process is here again
asker_slight : (v : View) (a : Option MoveNote) (r : Outcome) → AllSlight v (tells_asker a r)
asker_slight v None r = tt
asker_slight v (Some n) r = (tt, (tt, tt))

back_flows : (p : Pid) (pt : Point) (i : MsgId) (is : List MsgId) (t : Told) (q : Pid) (l : Line) (a : Option MoveNote) (r : Outcome) → Turn pt i is t → is_piece t.kind ≡ false → label_of l ≡ None → is_put l ≡ false → touches l ≡ false
    → ((z : Spot) → ids_at (view_after pt.view l) z ≡ ids_at (rejoins (handled_first pt.view) q) z) → takes_on p l ≡ false → takes_all p l ≡ false → ((f : MsgId → Option Told) → stales f p l ≡ false) → FlowsOf p pt (Some (Says l ∷ tells_asker a r))
back_flows p pt i is t q l a r h plain none quiet calm off on all stale w e =
    let v = pt.view in
    let mid = view_after v l in
    let back = rejoins (handled_first v) q in
    let gone = plain_front p pt i is t h plain in
    let went : Smooth (piece_for p) v (handled_first v) = smooth_others (piece_for p) v (handled_first v) i gone gone (λ t e. e) (record { told = λ j x. refl; spots = first_spots v (handled_first v) i is h.front (λ z. refl) }) in
    let first : Smooth (piece_for p) v mid = smooth_trans (piece_for p) v back mid (smooth_trans (piece_for p) v (handled_first v) back went (rejoins_smooth (piece_for p) (handled_first v) q))
    (smooth_still (piece_for p) back mid (told_by v l quiet) (λ j z. ap (times j) (off z))) in
    line_flows p pt l (tells_asker a r) w none quiet calm h.sane h.fits first (asker_slight v a r) on all stale e

-- what waits for a process goes on, or back
left_flows : (p : Pid) (pt : Point) (i : MsgId) (is : List MsgId) (t : Told) (q : Pid) (to : ℕ) → Turn pt i is t → t.kind ≡ MessageKind.AllTaken
    → FlowsOf p pt (Some (Says (Line.SentOn q (length (pt.view.queue pt.view.acting q ++ pt.view.held pt.view.acting q))) ∷ sends_on to (pt.view.queue pt.view.acting q ++ pt.view.held pt.view.acting q) ++ Says (Line.Migration Stage.Left q) ∷ to_kernel MessageKind.Restart i.from.home ∷ []))
left_flows p pt i is t q to h kind w e =
    let v = pt.view in
    let ids = v.queue v.acting q ++ v.held v.acting q in
    let l = Line.SentOn q (length ids) in
    let qs = Says (Line.Migration Stage.Left q) ∷ to_kernel MessageKind.Restart i.from.home ∷ [] in
    let n = line_next pt l (sends_on to ids ++ qs) w refl e in
    let mid = moved pt l pt.kernel in
    let s = all_sent (piece_for p) v ids to qs mid n.rest (sent_begins (piece_for p) v q (length ids) i is h.front (plain_front p pt i is t h (ap is_piece kind)) h.fits) (sane_line pt mid l refl refl h.sane) n.more in
    let smooth : Smooth (piece_for p) v w.point.view = subst (λ (x : Point). Smooth (piece_for p) v x.view) (s.point ∙ n.point) (parts_smooth p v qs s.next s.rest (tt, (refl, tt)) (sent_smooth (piece_for p) v s.next.view s.sending) s.sane s.sending.fits s.more) in
    smooth_flows p v w.point.view (Says l ∷ (sends_on to ids ++ qs)) smooth (let c = sends_count (takes_on p) to ids qs in omega (arith, c)) (let c = sends_count (takes_all p) to ids qs in omega (arith, c)) (λ f. let c = sends_count (stales f p) to ids qs in omega (arith, c))

leaves_flows : (p : Pid) (pt : Point) (i : MsgId) (is : List MsgId) (t : Told) (q : Pid) (k : Known) → Turn pt i is t → t.kind ≡ MessageKind.AllTaken → FlowsOf p pt (leaves i q (pt.view.queue pt.view.acting q ++ pt.view.held pt.view.acting q) k)
leaves_flows p pt i is t q (Frozen to) h kind = left_flows p pt i is t q to h kind
leaves_flows p pt i is t q _ h kind = tt

pub called_flows : (p : Pid) (pt : Point) (q : Pid) (from : ℕ) (w : Spelled) → Sane pt → PairsFit pt.view → spelled pt (called_parts q (pt.view.held pt.view.acting q) from) ≡ Some w → Flows p pt.view w.point.view (called_parts q (pt.view.held pt.view.acting q) from)
called_flows p pt q from w sane fits e =
    let v = pt.view in
    let ids = v.held v.acting q in
    let l = Line.Called q (length ids) in
    let qs = to_kernel MessageKind.CallOff from ∷ [] in
    let n = line_next pt l (sends_on from ids ++ qs) w refl e in
    let mid = moved pt l pt.kernel in
    let b = turned_back v q in
    let s = all_sent (piece_for p) b ids from qs mid n.rest (called_begins (piece_for p) v q (length ids) fits) (sane_line pt mid l refl refl sane) n.more in
    let first : Smooth (piece_for p) v b = smooth_still (piece_for p) v b (λ j. refl) (λ j z. refl) in
    let sent : Smooth (piece_for p) v s.next.view = smooth_trans (piece_for p) v b s.next.view first (sent_smooth (piece_for p) b s.next.view s.sending) in
    let smooth : Smooth (piece_for p) v w.point.view = subst (λ (x : Point). Smooth (piece_for p) v x.view) (s.point ∙ n.point) (parts_smooth p v qs s.next s.rest (refl, tt) sent s.sane s.sending.fits s.more) in
    smooth_flows p v w.point.view (called_parts q ids from) smooth (let c = sends_count (takes_on p) from ids qs in omega (arith, c)) (let c = sends_count (takes_all p) from ids qs in omega (arith, c)) (λ f. let c = sends_count (stales f p) from ids qs in omega (arith, c))

-- by the kind of the message
told_flows : (p : Pid) (o : Point) (m : ℕ) (i : MsgId) (is : List MsgId) (t : Told) (q : Pid) (room : Bool × ℕ × ℕ) (x : Size) (k : MessageKind) → Turn (turned o m) i is t → t.kind ≡ k → t.about ≡ Of q → FlowsOf p (turned o m) (told_step o m i q room x (sort_of k))
told_flows p o m i is t q room x MessageKind.Ask h e about = accepts_flows p (turned o m) i is t q room.0 room.1 room.2 i.from.home h e about
told_flows p o m i is t q room x MessageKind.Refuse h e about = back_flows p (turned o m) i is t q (Line.Stays q) (o.kernel.notes q) Outcome.Stayed h (ap is_piece e) refl refl refl (λ z. refl) refl refl (λ f. refl)
told_flows p o m i is t q room x MessageKind.CallOff h e about = back_flows p (turned o m) i is t q (Line.Stays q) (o.kernel.notes q) Outcome.Stayed h (ap is_piece e) refl refl refl (λ z. refl) refl refl (λ f. refl)
told_flows p o m i is t q room x MessageKind.PullState h e about = piece_flows p (turned o m) i is t q MessageKind.PullState MessageKind.State i.from.home h e about refl refl
told_flows p o m i is t q room x MessageKind.State h e about = chunk_flows p (turned o m) i is t q (o.view.asked q == chunks_of x) h e about
told_flows p o m i is t q room x MessageKind.PullBlock h e about = piece_flows p (turned o m) i is t q MessageKind.PullBlock MessageKind.Memory i.from.home h e about refl refl
told_flows p o m i is t q room x MessageKind.Memory h e about = block_flows p (turned o m) i is t q (o.view.asked q == pieces_of x) h e about
told_flows p o m i is t q room x MessageKind.AllTaken h e about = leaves_flows p (turned o m) i is t q (o.view.known m q) h e
told_flows p o m i is t q room x MessageKind.Restart h e about = back_flows p (turned o m) i is t q (Line.Migration Stage.Restarted q) (o.kernel.notes q) Outcome.Done h (ap is_piece e) refl refl refl (λ z. restarted_off (turned o m).view q z) refl refl (λ f. refl)
told_flows p o m i is t q room x _ h e about = tt

-- at a kernel
of_bind : {X : Type 0} (p : Pid) (pt : Point) (x : Option X) (f : X → Option (List Part)) → ((y : X) → x ≡ Some y → FlowsOf p pt (f y)) → FlowsOf p pt (bind x f)
of_bind p pt None f k = tt
of_bind p pt (Some y) f k = k y refl

one_flows : (p : Pid) (pt : Point) (ps : List Part) → Sane pt → PairsFit pt.view → AllSlight pt.view ps → FlowsOf p pt (Some ps)
one_flows p pt ps sane fits slight w e = slight_flows p pt ps w sane fits slight e

kernel_flows : (p : Pid) (b : Boot) (o : Point) (m : ℕ) (i : MsgId) (is : List MsgId) (t : Told) (a : About) → Turn (turned o m) i is t → t.about ≡ a → FlowsOf p (turned o m) (kernel_hears b o m i t.kind a)
kernel_flows p b o m i is t (Of q) h about = of_over (tells_end (sort_of t.kind)) refl
  where
    of_stale : (c : Bool) → is_stale o m i t.kind q ≡ c
        → FlowsOf p (turned o m) (if c then Some (Says (Line.Stale i) ∷ []) else bind (size_of o.kernel q) (λ x. told_step o m i q (rule.fits (rule.free_room b o m) x.blocks) x (sort_of t.kind)))
    of_stale true stale = λ w e. stale_flows p (turned o m) i is t q w h about (left_true (brings_piece (sort_of t.kind)) (not (is_waited_from i.from.home (o.view.known m q))) stale) e
    of_stale false fresh =
        of_bind p (turned o m) (size_of o.kernel q) (λ x. told_step o m i q (rule.fits (rule.free_room b o m) x.blocks) x (sort_of t.kind)) (λ x sized. told_flows p o m i is t q (rule.fits (rule.free_room b o m) x.blocks) x t.kind h refl about)

    of_over : (c : Bool) → tells_end (sort_of t.kind) ≡ c
        → FlowsOf p (turned o m) (if c then Some (buried o m i q) else if is_stale o m i t.kind q then Some (Says (Line.Stale i) ∷ []) else bind (size_of o.kernel q) (λ x. told_step o m i q (rule.fits (rule.free_room b o m) x.blocks) x (sort_of t.kind)))
    of_over true over =
        let tame : Tame (turned o m).view i = record { what = t; told = h.told; plain = ap is_between (bury_is t.kind over) } in
        one_flows p (turned o m) (buried o m i q) h.sane h.fits (tame, buries_kept (AllSlight (turned o m).view) tt (λ to xs k. (refl, k)) (preds_of o m q))
    of_over false off = of_stale (is_stale o m i t.kind q) refl
kernel_flows p b o m i is t _ h about = tt

-- at a process or a server
pub forwards_slight : (v : View) (a : Addresses) (i : MsgId) (k : MessageKind) (sender : Pid) (to : ℕ) → Tame v i → AllSlight v (forwards_on a i k sender to)
forwards_slight v a i k sender to tame = by_forwards (AllSlight v) a i k sender to (tame, (tame, tt)) (tame, (tame, (refl, tt)))

moves_flows : (p : Pid) (pt : Point) (i : MsgId) (is : List MsgId) (t : Told) (to : ℕ) (same : Bool) → Turn pt i is t → Tame pt.view i → is_piece t.kind ≡ false → FlowsOf p pt (Some (if same then Says (Line.Here i) ∷ [] else leaves_for t.receiver to))
moves_flows p pt i is t to true h tame plain = one_flows p pt (Says (Line.Here i) ∷ []) h.sane h.fits (tame, tt)
moves_flows p pt i is t to false h tame plain = λ w e.
    let v = pt.view in
    let q = t.receiver in
    let l = Line.Migration Stage.Frozen q in
    line_flows p pt l (Says (Line.Migration Stage.Asked q) ∷ to_kernel MessageKind.Ask to ∷ []) w refl refl refl h.sane h.fits (first_smooth (piece_for p) v l i is h.front (plain_front p pt i is t h plain) refl (frozen_off v q h.topic)) (tt, (refl, tt)) refl refl (λ f. refl) e

here_flows : (p : Pid) (o : Point) (m : ℕ) (i : MsgId) (is : List MsgId) (t : Told) (k : MessageKind) → Turn (turned o m) i is t → Tame (turned o m).view i → is_piece t.kind ≡ false → FlowsOf p (turned o m) (told_here o m i t (sort_of k))
here_flows p o m i is t MessageKind.Migrate h tame plain = moves_flows p (turned o m) i is t (target_of (Some t)) (m == target_of (Some t)) h tame plain
here_flows p o m i is t MessageKind.Update h tame plain = one_flows p (turned o m) (updates o i t) h.sane h.fits (tame, tt)
here_flows p o m i is t _ h tame plain = tt

over_flows : (p : Pid) (pt : Point) (i : MsgId) (k : MessageKind) → Sane pt → PairsFit pt.view → Tame pt.view i → FlowsOf p pt (told_ended i (sort_of k))
over_flows p pt i MessageKind.Migrate sane fits tame = one_flows p pt (Says (Line.NoMove i) ∷ []) sane fits (tame, tt)
over_flows p pt i MessageKind.Update sane fits tame = one_flows p pt (Says (Line.Updated i 0) ∷ []) sane fits (tame, tt)
over_flows p pt i _ sane fits tame = tt

process_flows : (p : Pid) (o : Point) (m : ℕ) (i : MsgId) (is : List MsgId) (t : Told) (k : Known) → Turn (turned o m) i is t → Tame (turned o m).view i → is_piece t.kind ≡ false → FlowsOf p (turned o m) (process_told o m i t k)
process_flows p o m i is t Unknown h tame plain = over_flows p (turned o m) i t.kind h.sane h.fits tame
process_flows p o m i is t Here h tame plain = here_flows p o m i is t t.kind h tame plain
process_flows p o m i is t (Forward at moves) h tame plain = one_flows p (turned o m) (forwards_on o.addresses i t.kind manager at) h.sane h.fits (forwards_slight (turned o m).view o.addresses i t.kind manager at tame)
process_flows p o m i is t _ h tame plain = one_flows p (turned o m) (Says (Line.Held i) ∷ []) h.sane h.fits (tame, tt)

-- by the receiver
by_receiver : (p : Pid) (b : Boot) (o : Point) (m : ℕ) (i : MsgId) (is : List MsgId) (t : Told) (c : Bool) → Turn (turned o m) i is t → (t.receiver.num == 0) ≡ c
    → FlowsOf p (turned o m) (if c then kernel_hears b o m i t.kind t.about else process_told o m i t (o.view.known m t.receiver))
by_receiver p b o m i is t true h c = kernel_flows p b o m i is t t.about h refl
by_receiver p b o m i is t false h c = process_flows p o m i is t (o.view.known m t.receiver) h tame (plain_piece t.kind plain)
  where
    plain : is_between t.kind ≡ false
    plain = plain_by (turned o m) i is t h.phases (is_between t.kind) refl h.front h.told c

    tame : Tame (turned o m).view i
    tame = record { what = t; told = h.told; plain = plain }

pub hears_flows : (p : Pid) (b : Boot) (o : Point) (m : ℕ) (i : MsgId) (is : List MsgId) (t : Told) → Turn (turned o m) i is t → FlowsOf p (turned o m) (hears b o m i (Some t))
hears_flows p b o m i is t h = by_receiver p b o m i is t (t.receiver.num == 0) h refl
