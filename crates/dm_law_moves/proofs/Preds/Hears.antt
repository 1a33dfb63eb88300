-- A turn that handles a kernel's own message: what it does to what machines know and to their predecessors.
use Rattle.dm_law_moves.proofs.Names.{◌≡◌, ℕ, ◌<◌, ◌==◌, ◌&&◌, Bool, true, false, not, List, [], ◌∷◌, ◌++◌, length, refl, ap, ◌∙◌, sym, subst, arith, ⊤, if◌then◌else◌, Option, None, Some, bind, false≢true, left_true, Pid, pid_eq}
use Rattle.dm_law_moves.proofs.Names.{pid_eq-same, MsgId, MessageKind, Boot, Line, Stage, Told, View, About, Of, Known, Unknown, Here, Frozen, Incoming, Forward, Addresses, view_after, handled, target_of, Point, Part, Says, Again, Owns}
use Rattle.dm_law_moves.proofs.Names.{Sender, to_kernel, forwards_on, by_forwards, accepts, takes_chunk, takes_block, tells_asker, leaves, leaves_for, told_step, told_here, told_ended, process_told, kernel_hears, hears, manager}
use Rattle.dm_law_moves.proofs.Names.{Spot, ids_at, standing, times, sort_of, MoveNote, Outcome, chunks_of, pieces_of, memory_off, lacks_off, frozen_off, handled_spots, eq_self, turned, is_stale}
use Rattle.dm_law_moves.proofs.Names.{is_waited_from, brings_piece, about_same, Queue, buried, preds_of, tells_end, bury_is}
use Rattle.dm_law_rule.specs.View as view
use Rattle.dm_law_rule.specs.Rule as rule
use Rattle.dm_law_moves.proofs.Names.{Size, size_of, is_server, moved}
use Rattle.dm_law_moves.proofs.LastPieces.{last_chunk, state_stays, state_front, state_goes}
use Rattle.dm_law_moves.proofs.Leading.{All}
use Rattle.dm_law_moves.proofs.Ends.Parts.{Plain, hushed_smooth, told_by, told_one, moves_none}
use Rattle.dm_law_moves.proofs.Ends.Open.{first_spots}
use Rattle.dm_law_moves.proofs.Preds.Kept.{is_word, clears, Clears, Buries, CallsOff, Preds, lasts_smooth, lasts_but, preds_same}
use Rattle.dm_law_moves.proofs.Preds.Lines.{Tail, not_word}
use Rattle.dm_law_moves.proofs.Preds.Rows.{Into, Stood, line_into, tail_into, forgets_into, in_filter, in_range}
use Rattle.dm_law_moves.proofs.Preds.Turns.{Front, plain_front, front_into, held_into, forwarded_into, handled_into, piece_into, accepted_into, restarted_into, refused_into, called_back_into, frozen_into, left_into}

-- what comes of a turn, if anything does
abbrev pub IntoOf : ℕ → Point → Option (List Part) → Type 0
IntoOf n pt None = ⊤
IntoOf n pt (Some ps) = Into n pt ps

-- all predecessors are told
pub all_told : (n : ℕ) (o : Point) (m : ℕ) (p : Pid) → o.kernel.machines ≡ n → Preds n o.view → (x : ℕ) → o.view.preds m p x ≡ true → rule.has x (preds_of o m p) ≡ true
all_told n o m p machines h x is =
    let less : x < o.kernel.machines = subst (λ (k : ℕ). x < k) (sym machines) (h.within m x p is) in
    in_filter (o.view.preds m p) x (rule.numbers_from 0 o.kernel.machines) is (in_range 0 o.kernel.machines x (omega arith) (omega (arith, less)))

-- a process is forgotten: no message moves
forgets_off : (v : View) (p : Pid) (z : Spot) → ids_at (view.about (view.forgetting v p) (Of p)) z ≡ ids_at v z
forgets_off v p (Queue m q) = refl
forgets_off v p _ = refl

-- a burial is for this machine
bury_here : (n : ℕ) (pt : Point) (i : MsgId) (is : List MsgId) (t : Told) (p q : Pid) (m k : ℕ) → Front n pt i is t → t.kind ≡ MessageKind.Bury → p ≡ q → ((pt.view.acting == m) && pid_eq p q) ≡ false → Clears m k i t → ⊥
bury_here n pt i is t p q m k h kind same apart (Buries is_ to) =
    let at : m ≡ pt.view.acting = sym (ap (λ (x : Pid). x.home) to) ∙ h.at_home (ap (λ (x : Pid). x.num) to) in
    let here : ((pt.view.acting == m) && pid_eq p q) ≡ true = ap (λ (x : ℕ). (pt.view.acting == x) && pid_eq p q) at ∙ ap (λ (c : Bool). c && pid_eq p q) (eq_self pt.view.acting) ∙ ap (pid_eq p) (sym same) ∙ pid_eq-same p in
    false≢true (sym apart ∙ here)
bury_here n pt i is t p q m k h kind same apart (CallsOff is_ to from) = false≢true (sym (ap (λ (x : MessageKind). tells_end (sort_of x)) is_) ∙ ap (λ (x : MessageKind). tells_end (sort_of x)) kind)

buried_into : (n : ℕ) (o : Point) (m : ℕ) (i : MsgId) (is : List MsgId) (t : Told) (p : Pid) → o.kernel.machines ≡ n → Preds n o.view → Front n (turned o m) i is t → t.kind ≡ MessageKind.Bury → t.about ≡ Of p → Into n (turned o m) (buried o m i p)
buried_into n o m i is t p machines preds h kind about =
    let pt = turned o m in
    let v = pt.view in
    let ms = preds_of o m p in
    let l = Line.Buried i (length ms) in
    let u = view.about (view.forgetting (handled v i) p) (Of p) in
    let same : view_after v l ≡ u = ap (view.buried_for (handled v i)) h.turn.told ∙ ap (view.forgotten (handled v i)) about in
    forgets_into (Some i) n pt l [] ms p h.turn.sane h.turn.fits h.preds refl refl
    (λ s step. (
      record { known = λ a q. ap (λ (w : View). w.known a q) same; preds = λ a q r. ap (λ (w : View). w.preds a q r) same; topic = ap (λ (w : View). w.topic) same },
      lasts_but v (view_after v l) i (told_by v l refl) (λ j e z. ap (λ (w : View). standing w j z) same ∙ ap (times j) (forgets_off (handled v i) p z) ∙ handled_spots v i j e z),
    ))
    (λ x e. all_told n o m p machines preds x e)
    (λ q a k apart x is_.
    let own : i ≡ x.message = cc in
    let told : x.told ≡ t = told_one (v.told i) x.told t (ap v.told own ∙ x.is) h.turn.told in
    bury_here n pt i is t p q a k h kind (about_same p q (sym about ∙ sym (ap (λ (y : Told). y.about) told) ∙ x.about)) apart (subst (λ (y : Told). Clears a k i y) told (subst (λ (j : MsgId). Clears a k j x.told) (sym own) x.clears)))

-- the asker is told
asker_tail : (a : Option MoveNote) (r : Outcome) → All Tail (tells_asker a r)
asker_tail None r = tt
asker_tail (Some n) r = (tt, (tt, tt))

-- what the kernels of two machines tell each other of a process
accepts_into : (n : ℕ) (pt : Point) (i : MsgId) (is : List MsgId) (t : Told) (q : Pid) (room : Bool) (x y b : ℕ) → Front n pt i is t → t.kind ≡ MessageKind.Ask → t.about ≡ Of q → Into n pt (accepts b q room x y)
accepts_into n pt i is t q true x y b h kind about = accepted_into n pt i is t q b h kind about
accepts_into n pt i is t q false x y b h kind about = front_into n pt i is t (Line.Lacks q x y) (to_kernel MessageKind.Refuse b ∷ []) h (not_word t (ap clears kind)) refl refl (lacks_off pt.view q x y) (λ m r. refl) (λ m r j. refl) (tt, tt)

-- the last chunk of a server: behind step 4, which handles no message, that at the front goes
memory_into : (n : ℕ) (pt : Point) (i : MsgId) (is : List MsgId) (q : Pid) (b : ℕ) → Stood n pt → pt.view.inbox pt.view.acting ≡ i ∷ is → Plain is_word pt.view i → Into n pt (Says (Line.Migration Stage.MemoryTaken q) ∷ to_kernel MessageKind.AllTaken b ∷ [])
memory_into n pt i is q b h front plain =
    let v = pt.view in
    let l = Line.Migration Stage.MemoryTaken q in
    line_into n pt l (to_kernel MessageKind.AllTaken b ∷ []) h.sane h.fits refl refl
    (λ s step. preds_same n v (view_after v l) (λ m r. refl) (λ m r j. refl) (lasts_smooth None v (view_after v l) (hushed_smooth is_word v l i refl plain (first_spots v (view_after v l) i is front (memory_off v q)))) h.preds)
    (λ s step stood. tail_into n (moved pt l s) (to_kernel MessageKind.AllTaken b ∷ []) stood (tt, tt))

server_into : (n : ℕ) (pt : Point) (i : MsgId) (is : List MsgId) (t : Told) (q : Pid) (b : ℕ) → Front n pt i is t → t.kind ≡ MessageKind.State → is_server q ≡ true → Into n pt (last_chunk q b)
server_into n pt i is t q b h kind server =
    let v = pt.view in
    let l = Line.Migration Stage.StateTaken q in
    let plain = plain_front n pt i is t h (not_word t (ap clears kind)) in
    line_into n pt l (Says (Line.Migration Stage.MemoryTaken q) ∷ to_kernel MessageKind.AllTaken b ∷ []) h.turn.sane h.turn.fits refl refl
    (λ s step. preds_same n v (view_after v l) (λ m r. refl) (λ m r j. refl) (lasts_smooth None v (view_after v l) (moves_none is_word v l refl (λ z. state_stays v q z server))) h.preds)
    (λ s step stood. memory_into n (moved pt l s) i is q b stood (state_front v q i is server h.turn.front) (λ u told. plain u (sym (told_by v l refl i) ∙ told)))

last_into : (n : ℕ) (pt : Point) (i : MsgId) (is : List MsgId) (t : Told) (q : Pid) (b : ℕ) (c : Bool) → Front n pt i is t → t.kind ≡ MessageKind.State → is_server q ≡ c → Into n pt (if c then last_chunk q b else Says (Line.Migration Stage.StateTaken q) ∷ to_kernel MessageKind.PullBlock b ∷ [])
last_into n pt i is t q b true h kind server = server_into n pt i is t q b h kind server
last_into n pt i is t q b false h kind free = front_into n pt i is t (Line.Migration Stage.StateTaken q) (to_kernel MessageKind.PullBlock b ∷ []) h (not_word t (ap clears kind)) refl refl (λ z. state_goes pt.view q z free) (λ m r. refl) (λ m r j. refl) (tt, tt)

chunk_into : (n : ℕ) (pt : Point) (i : MsgId) (is : List MsgId) (t : Told) (q : Pid) (last : Bool) → Front n pt i is t → t.kind ≡ MessageKind.State → Into n pt (takes_chunk i q last)
chunk_into n pt i is t q true h kind = last_into n pt i is t q i.from.home (is_server q) h kind refl
chunk_into n pt i is t q false h kind = piece_into n pt i is t MessageKind.PullState i.from.home h (not_word t (ap clears kind))

block_into : (n : ℕ) (pt : Point) (i : MsgId) (is : List MsgId) (t : Told) (q : Pid) (last : Bool) → Front n pt i is t → t.kind ≡ MessageKind.Memory → Into n pt (takes_block i q last)
block_into n pt i is t q true h kind = front_into n pt i is t (Line.Migration Stage.MemoryTaken q) (to_kernel MessageKind.AllTaken i.from.home ∷ []) h (not_word t (ap clears kind)) refl refl (memory_off pt.view q) (λ m r. refl) (λ m r j. refl) (tt, tt)
block_into n pt i is t q false h kind = piece_into n pt i is t MessageKind.PullBlock i.from.home h (not_word t (ap clears kind))

leaves_into : (n : ℕ) (pt : Point) (i : MsgId) (is : List MsgId) (t : Told) (q : Pid) (k : Known) → Front n pt i is t → t.kind ≡ MessageKind.AllTaken → t.about ≡ Of q → pt.view.known pt.view.acting q ≡ k → IntoOf n pt (leaves i q (pt.view.queue pt.view.acting q ++ pt.view.held pt.view.acting q) k)
leaves_into n pt i is t q (Frozen to) h kind about here = left_into n pt i is t q to i.from.home h kind about here
leaves_into n pt i is t q _ h kind about here = tt

told_into : (n : ℕ) (o : Point) (m : ℕ) (i : MsgId) (is : List MsgId) (t : Told) (q : Pid) (room : Bool × ℕ × ℕ) (x : Size) (k : MessageKind) → Front n (turned o m) i is t → t.kind ≡ k → t.about ≡ Of q → IntoOf n (turned o m) (told_step o m i q room x (sort_of k))
told_into n o m i is t q room x MessageKind.Ask h kind about = accepts_into n (turned o m) i is t q room.0 room.1 room.2 i.from.home h kind about
told_into n o m i is t q room x MessageKind.Refuse h kind about = refused_into n (turned o m) i is t q (tells_asker (o.kernel.notes q) Outcome.Stayed) h kind (asker_tail (o.kernel.notes q) Outcome.Stayed)
told_into n o m i is t q room x MessageKind.CallOff h kind about = called_back_into n (turned o m) i is t q (tells_asker (o.kernel.notes q) Outcome.Stayed) h kind about (asker_tail (o.kernel.notes q) Outcome.Stayed)
told_into n o m i is t q room x MessageKind.PullState h kind about = piece_into n (turned o m) i is t MessageKind.State i.from.home h (not_word t (ap clears kind))
told_into n o m i is t q room x MessageKind.State h kind about = chunk_into n (turned o m) i is t q (o.view.asked q == chunks_of x) h kind
told_into n o m i is t q room x MessageKind.PullBlock h kind about = piece_into n (turned o m) i is t MessageKind.Memory i.from.home h (not_word t (ap clears kind))
told_into n o m i is t q room x MessageKind.Memory h kind about = block_into n (turned o m) i is t q (o.view.asked q == pieces_of x) h kind
told_into n o m i is t q room x MessageKind.AllTaken h kind about = leaves_into n (turned o m) i is t q (o.view.known m q) h kind about refl
told_into n o m i is t q room x MessageKind.Restart h kind about = restarted_into n (turned o m) i is t q (tells_asker (o.kernel.notes q) Outcome.Done) h kind (asker_tail (o.kernel.notes q) Outcome.Done)
told_into n o m i is t q room x _ h kind about = tt

-- at a kernel
of_bind : {X : Type 0} (n : ℕ) (pt : Point) (x : Option X) (f : X → Option (List Part)) → ((y : X) → x ≡ Some y → IntoOf n pt (f y)) → IntoOf n pt (bind x f)
of_bind n pt None f k = tt
of_bind n pt (Some y) f k = k y refl

brings_clears : (k : MessageKind) → brings_piece (sort_of k) ≡ true → clears k ≡ false
brings_clears MessageKind.State e = refl
brings_clears MessageKind.Memory e = refl
brings_clears _ e = absurd (false≢true e)

kernel_into : (n : ℕ) (b : Boot) (o : Point) (m : ℕ) (i : MsgId) (is : List MsgId) (t : Told) (a : About) → o.kernel.machines ≡ n → Preds n o.view → Front n (turned o m) i is t → t.about ≡ a → IntoOf n (turned o m) (kernel_hears b o m i t.kind a)
kernel_into n b o m i is t (Of q) machines preds h about = of_over (tells_end (sort_of t.kind)) refl
  where
    steps : Option (List Part)
    steps = bind (size_of o.kernel q) (λ x. told_step o m i q (rule.fits (rule.free_room b o m) x.blocks) x (sort_of t.kind))

    of_stale : (c : Bool) → is_stale o m i t.kind q ≡ c → IntoOf n (turned o m) (if c then Some (Says (Line.Stale i) ∷ []) else steps)
    of_stale true stale = handled_into n (turned o m) i is t (Line.Stale i) [] h (not_word t (brings_clears t.kind (left_true (brings_piece (sort_of t.kind)) (not (is_waited_from i.from.home (o.view.known m q))) stale))) refl refl refl tt
    of_stale false fresh =
        of_bind n (turned o m) (size_of o.kernel q) (λ x. told_step o m i q (rule.fits (rule.free_room b o m) x.blocks) x (sort_of t.kind)) (λ x sized. told_into n o m i is t q (rule.fits (rule.free_room b o m) x.blocks) x t.kind h refl about)

    of_over : (c : Bool) → tells_end (sort_of t.kind) ≡ c → IntoOf n (turned o m) (if c then Some (buried o m i q) else if is_stale o m i t.kind q then Some (Says (Line.Stale i) ∷ []) else steps)
    of_over true over = buried_into n o m i is t q machines preds h (bury_is t.kind over) about
    of_over false goes = of_stale (is_stale o m i t.kind q) refl
kernel_into n b o m i is t _ machines preds h about = tt

-- at a process or a server
pub forwards_into : (n : ℕ) (pt : Point) (i : MsgId) (is : List MsgId) (t : Told) (a : Addresses) (k : MessageKind) (sender : Pid) (to : ℕ) → Front n pt i is t → is_word t ≡ false → Into n pt (forwards_on a i k sender to)
forwards_into n pt i is t a k sender to h plain = by_forwards (Into n pt) a i k sender to (forwarded_into n pt i is t to (Again i to ∷ []) h plain (tt, tt)) (forwarded_into n pt i is t to (Again i to ∷ Owns MessageKind.Update sender (a (Sender i)).at ∷ []) h plain (tt, (tt, tt)))

moves_into : (n : ℕ) (pt : Point) (i : MsgId) (is : List MsgId) (t : Told) (to : ℕ) (same : Bool) → Front n pt i is t → is_word t ≡ false → Into n pt (if same then Says (Line.Here i) ∷ [] else leaves_for t.receiver to)
moves_into n pt i is t to true h plain = handled_into n pt i is t (Line.Here i) [] h plain refl refl refl tt
moves_into n pt i is t to false h plain =
    let v = pt.view in
    let q = t.receiver in
    let l = Line.Migration Stage.Frozen q in
    let other : Plain is_word v i = λ u told. subst (λ (x : Told). is_word x ≡ false) (told_one (v.told i) t u h.turn.told told) plain in
    frozen_into n pt q (Says (Line.Migration Stage.Asked q) ∷ to_kernel MessageKind.Ask to ∷ []) (record { preds = h.preds; sane = h.turn.sane; fits = h.turn.fits })
    (lasts_smooth None v (view_after v l) (hushed_smooth is_word v l i refl other (first_spots v (view_after v l) i is h.turn.front (frozen_off v q h.turn.topic)))) (tt, (tt, tt))

here_into : (n : ℕ) (o : Point) (m : ℕ) (i : MsgId) (is : List MsgId) (t : Told) (k : MessageKind) → Front n (turned o m) i is t → is_word t ≡ false → IntoOf n (turned o m) (told_here o m i t (sort_of k))
here_into n o m i is t MessageKind.Migrate h plain = moves_into n (turned o m) i is t (target_of (Some t)) (m == target_of (Some t)) h plain
here_into n o m i is t MessageKind.Update h plain = handled_into n (turned o m) i is t (Line.Updated i _) [] h plain refl refl refl tt
here_into n o m i is t _ h plain = tt

over_into : (n : ℕ) (pt : Point) (i : MsgId) (is : List MsgId) (t : Told) (k : MessageKind) → Front n pt i is t → is_word t ≡ false → IntoOf n pt (told_ended i (sort_of k))
over_into n pt i is t MessageKind.Migrate h plain = handled_into n pt i is t (Line.NoMove i) [] h plain refl refl refl tt
over_into n pt i is t MessageKind.Update h plain = handled_into n pt i is t (Line.Updated i 0) [] h plain refl refl refl tt
over_into n pt i is t _ h plain = tt

process_into : (n : ℕ) (o : Point) (m : ℕ) (i : MsgId) (is : List MsgId) (t : Told) (k : Known) → Front n (turned o m) i is t → is_word t ≡ false → IntoOf n (turned o m) (process_told o m i t k)
process_into n o m i is t Unknown h plain = over_into n (turned o m) i is t t.kind h plain
process_into n o m i is t Here h plain = here_into n o m i is t t.kind h plain
process_into n o m i is t (Frozen to) h plain = held_into n (turned o m) i is t h plain
process_into n o m i is t (Incoming from) h plain = held_into n (turned o m) i is t h plain
process_into n o m i is t (Forward at moves) h plain = forwards_into n (turned o m) i is t o.addresses t.kind manager at h plain

off_word : (c d : Bool) → d ≡ false → (c && d) ≡ false
off_word true d e = e
off_word false d e = refl

by_receiver : (n : ℕ) (b : Boot) (o : Point) (m : ℕ) (i : MsgId) (is : List MsgId) (t : Told) (c : Bool) → o.kernel.machines ≡ n → Preds n o.view → Front n (turned o m) i is t → (t.receiver.num == 0) ≡ c
    → IntoOf n (turned o m) (if c then kernel_hears b o m i t.kind t.about else process_told o m i t (o.view.known m t.receiver))
by_receiver n b o m i is t true machines preds h c = kernel_into n b o m i is t t.about machines preds h refl
by_receiver n b o m i is t false machines preds h c = process_into n o m i is t (o.view.known m t.receiver) h (off_word (clears t.kind) (t.receiver.num == 0) c)

pub hears_into : (n : ℕ) (b : Boot) (o : Point) (m : ℕ) (i : MsgId) (is : List MsgId) (t : Told) → o.kernel.machines ≡ n → Preds n o.view → Front n (turned o m) i is t → IntoOf n (turned o m) (hears b o m i (Some t))
hears_into n b o m i is t machines preds h = by_receiver n b o m i is t (t.receiver.num == 0) machines preds h refl
