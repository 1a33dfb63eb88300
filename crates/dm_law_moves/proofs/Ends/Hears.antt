-- A turn that handles a kernel's own message: a request to move ends where it finds its process, and else goes on.
use Rattle.dm_law_moves.proofs.Names.{◌≡◌, ℕ, ◌==◌, ◌&&◌, Bool, true, false, List, [], ◌∷◌, length, refl, ap, ◌∙◌, sym, subst, inl, inr, arith, if◌then◌else◌, Option, None, Some, cases_Bool, Pid, pid_eq, MsgId, MessageKind, Stage, Boot}
use Rattle.dm_law_moves.proofs.Names.{manager, bind, pid_eq-is, Line, Addresses, Sender, is_told_back, to_kernel, forwards_on, told_step, told_here, told_ended, process_told, View, Told, About, Of, Known, Unknown, Here, Frozen}
use Rattle.dm_law_moves.proofs.Names.{Forward, view_after, handled, handled_first, receiver_of, target_of, Point, moved, Part, Says, Again, Owns, Spelled, spelled, kernel_hears, Spot, Inbox, ids_at, first_off, line_next, fits_put, pair_same}
use Rattle.dm_law_moves.proofs.Names.{handled_spots, held_known, forwarded_spots, forwarded_known, put_spots, put_there, put_spot, InPhases, fits_as, PairsFit, sane_line, part_sane, AllLoose, loose_walks, turned, is_moving, is_for}
use Rattle.dm_law_moves.proofs.Names.{frozen_off, ◌+◌, ◌++◌, ⊤, pid_of, accepts, takes_chunk, takes_block, sends_on, chunks_of, pieces_of, Incoming, rejoins, front_of, gone_to, is_between, parts, at_record_off, due, Walks}
use Rattle.dm_law_moves.proofs.Names.{asks, ends, accepted_off, memory_off, lacks_off, left_off, leaves, label_of, is_put, touches, nat_tests, sets, aim, at_record, MoveNote, Outcome, tells_asker, restarted_off, times, sort_of}
use Rattle.dm_law_moves.proofs.Names.{◌⊎◌, not, Phase, Moves, IsIn, is_due, is_restart, kind_leaves, ◌≤◌, standing, Queue, Held, Untaken, not_true, false≢true, eq_is, left_true, ComesIn, goes_back, is_stale, is_waited_from}
use Rattle.dm_law_moves.proofs.Names.{brings_piece, called_parts, source_knows, Sane, TellsEnd, first_walks, tells_end, buried, preds_of, buries_kept, bury_is, map}
use Rattle.dm_law_moves.proofs.Ends.Parts.{AllQuiet, Rest, rest_packet, Settled, parts_settle, quiet_count, quiet_asks, zero_if, first_off as first_off_and, is_migrate, asks_for, kind_not, Smooth, Still, smooth_trans, told_by, Plain}
use Rattle.dm_law_moves.proofs.Ends.Parts.{Tame, Foreign, still_by, smooth_still, moves_none, smooth_others}
use Rattle.dm_law_moves.proofs.Ends.Open.{IsOpen, level_balance, close_opens, smooth_opens, moving_in, waits_moves, here_stays, still_moves, not_false, target_waits, Turn, plain_one, front_one, stands_front, first_smooth, first_closes}
use Rattle.dm_law_moves.proofs.Ends.Open.{line_then, and_off, other_still, set_here, level_row, level_still, quiet_row, end_row, Comes, between_plain, due_moves, about_same, first_spots}
use Rattle.dm_law_moves.proofs.LastPieces.{last_chunk, state_goes, both_off}
use Rattle.dm_law_moves.proofs.Names.{Size, size_of, is_server}
use Rattle.dm_law_moves.proofs.Leading.{next_of, part_leads, asker_known, line_fits}
use Rattle.dm_law_moves.proofs.Ends.Sources.{smooth_moves, held_smooth, again_told, all_sent, sends_count, sent_begins, rejoins_smooth, Sending, sent_smooth}
use Rattle.dm_law_rule.specs.View as view
use Rattle.dm_law_moves.proofs.Stages.Spares.{is_piece, is_settled, rest_settled}
use Rattle.dm_law_moves.proofs.Ends.Open.{whole_due}
use Rattle.dm_law_moves.proofs.Ends.Parts.{Somewhere, settled_same}
use Rattle.dm_law_moves.proofs.Ends.Sources.{emptied_on}
use Rattle.dm_law_rule.specs.Rule as rule
use Rattle.dm_law_rule.proofs.Phases.Answers.{brings_between}

abbrev pub ComesOf : Pid → (pt : Point) → InPhases pt.view → Option (List Part) → Type 0
ComesOf p pt h None = ⊤
ComesOf p pt h (Some ps) = (w : Spelled) → spelled pt ps ≡ Some w → Comes p pt h ps w

owns_loose : (k : MessageKind) (b : ℕ) (pt : Point) → Walks pt (to_kernel k b ∷ [])
owns_loose k b pt = loose_walks (to_kernel k b ∷ []) pt (λ q. tt, tt)

kernel_quiet : (p : Pid) (v : View) (k : MessageKind) (b : ℕ) → is_migrate k ≡ false → AllQuiet p v (to_kernel k b ∷ [])
kernel_quiet p v k b e = (ap (λ (c : Bool). c && pid_eq p (pid_of b 0)) e, tt)

-- a step that makes no machine wait
step_comes : (p : Pid) (pt : Point) (i : MsgId) (is : List MsgId) (t : Told) (l : Line) (k : MessageKind) (b : ℕ) (h : Turn pt i is t) → is_between t.kind ≡ true → label_of l ≡ None → is_put l ≡ false → touches l ≡ false
    → ((z : Spot) → ids_at (view_after pt.view l) z ≡ ids_at (handled_first pt.view) z) → Still p pt.view (view_after pt.view l) → is_migrate k ≡ false → ((f : MsgId → Option Told) → ends f p l ≡ false) → asks p l ≡ false → ComesOf p pt h.phases (Some (Says l ∷ to_kernel k b ∷ []))
step_comes p pt i is t l k b h between none quiet calm off still plain ended silent w e = search (kernel_quiet, line_then, owns_loose, level_row, first_smooth, between_plain, level_still)

-- the destination accepts, and waits for the process
accepted_comes : (p : Pid) (pt : Point) (i : MsgId) (is : List MsgId) (t : Told) (q : Pid) (b : ℕ) (h : Turn pt i is t) → is_between t.kind ≡ true → is_piece t.kind ≡ false → t.about ≡ Of q → ComesOf p pt h.phases (Some (Says (Line.Migration Stage.Accepted q) ∷ to_kernel MessageKind.PullState b ∷ []))
accepted_comes p pt i is t q b h between none about w e =
    let v = pt.view in
    let l = Line.Migration Stage.Accepted q in
    let mid = view_after v l in
    let x = Incoming (front_of (v.inbox v.acting)) in
    let rest = line_then p pt l (to_kernel MessageKind.PullState b ∷ []) w refl refl refl h.sane h.fits (refl, tt) (owns_loose MessageKind.PullState b (moved pt l pt.kernel)) e in
    level_row p pt h.phases l (to_kernel MessageKind.PullState b ∷ []) w (first_smooth (asks_for p) v l i is h.front (between_plain p v i t h.told between) refl (accepted_off v q)) (refl, tt) rest (λ f. refl) refl
    (λ g. elim (cases_Bool (pid_eq p q)) [
      | inl same ↦ due_moves p q pt i is t h between none about same ∙ sym (waits_moves w.point.view g p v.acting (rest.still v.acting ∙ ap is_moving (set_here p q v.known v.acting x same)))
      | inr off ↦ level_still p pt h.phases l w (λ m. other_still p q v.known v.acting x off m) rest g
    ])

accepts_comes : (p : Pid) (pt : Point) (i : MsgId) (is : List MsgId) (t : Told) (q : Pid) (room : Bool) (x y b : ℕ) (h : Turn pt i is t) → is_between t.kind ≡ true → is_piece t.kind ≡ false → t.about ≡ Of q → ComesOf p pt h.phases (Some (accepts b q room x y))
accepts_comes p pt i is t q true x y b h between none about = accepted_comes p pt i is t q b h between none about
accepts_comes p pt i is t q false x y b h between none about = step_comes p pt i is t (Line.Lacks q x y) MessageKind.Refuse b h between refl refl refl (lacks_off pt.view q x y) (λ m. refl) refl (λ f. refl) refl

-- a message that is no step
piece_comes : (p : Pid) (pt : Point) (i : MsgId) (is : List MsgId) (t : Told) (k : MessageKind) (b : ℕ) (h : Turn pt i is t) → is_between t.kind ≡ true → is_migrate k ≡ false → ComesOf p pt h.phases (Some (Says (Line.Proto i) ∷ to_kernel k b ∷ []))
piece_comes p pt i is t k b h between plain w e =
    let ps = Says (Line.Proto i) ∷ to_kernel k b ∷ [] in
    quiet_row p pt h.phases ps w h.sane h.fits (record { what = t; told = h.told; plain = between_plain p pt.view i t h.told between t h.told }, kernel_quiet p pt.view k b plain) (loose_walks ps pt (λ q. tt, (λ q. tt, tt))) e

-- the last chunk of a server
server_comes : (p : Pid) (pt : Point) (i : MsgId) (is : List MsgId) (t : Told) (q : Pid) (b : ℕ) (h : Turn pt i is t) → is_between t.kind ≡ true → is_server q ≡ true → ComesOf p pt h.phases (Some (last_chunk q b))
server_comes p pt i is t q b h between server w e g ids opens =
    let v = pt.view in
    let u = w.point.view in
    let l = Line.Migration Stage.StateTaken q in
    let k = Line.Migration Stage.MemoryTaken q in
    let end = to_kernel MessageKind.AllTaken b ∷ [] in
    let n = line_next pt l (Says k ∷ end) w refl e in
    let next = moved pt l pt.kernel in
    let mid = view_after next.view k in
    let alone = view_after v k in
    let rest : Settled p mid w.point = subst (λ (x : Point). Settled p mid x) n.point
    (line_then p next k end n.rest refl refl refl (sane_line pt next l refl refl h.sane) (line_fits pt pt.kernel l refl h.fits) (kernel_quiet p mid MessageKind.AllTaken b refl) (owns_loose MessageKind.AllTaken b (moved next k next.kernel)) n.more) in
    -- as if step 5 alone had been said
    let first : Smooth (asks_for p) v alone = first_smooth (asks_for p) v k i is h.front (between_plain p v i t h.told between) refl (memory_off v q) in
    let second : Smooth (asks_for p) alone mid = smooth_still (asks_for p) alone mid (λ j. told_by next.view k refl j ∙ told_by v l refl j ∙ sym (told_by v k refl j)) (λ j z. ap (times j) (both_off v q z server ∙ sym (memory_off v q z))) in
    let smooth = smooth_trans (asks_for p) v mid u (smooth_trans (asks_for p) v alone mid first second) rest.smooth in
    let still : Still p v u = rest.still in
    level_balance p v u ids (moving_in (h.phases.of p)) (moving_in (g.of p)) (last_chunk q b) smooth opens (still_moves p v u h.phases g still) refl (λ f ext. refl)

last_comes : (p : Pid) (pt : Point) (i : MsgId) (is : List MsgId) (t : Told) (q : Pid) (b : ℕ) (c : Bool) (h : Turn pt i is t) → is_between t.kind ≡ true → is_server q ≡ c
    → ComesOf p pt h.phases (Some (if c then last_chunk q b else Says (Line.Migration Stage.StateTaken q) ∷ to_kernel MessageKind.PullBlock b ∷ []))
last_comes p pt i is t q b true h between server = server_comes p pt i is t q b h between server
last_comes p pt i is t q b false h between free =
    step_comes p pt i is t (Line.Migration Stage.StateTaken q) MessageKind.PullBlock b h between refl refl refl (λ z. state_goes pt.view q z free) (λ m. refl) refl (λ f. refl) refl

chunk_comes : (p : Pid) (pt : Point) (i : MsgId) (is : List MsgId) (t : Told) (q : Pid) (last : Bool) (h : Turn pt i is t) → is_between t.kind ≡ true → ComesOf p pt h.phases (Some (takes_chunk i q last))
chunk_comes p pt i is t q true h between = last_comes p pt i is t q i.from.home (is_server q) h between refl
chunk_comes p pt i is t q false h between = piece_comes p pt i is t MessageKind.PullState i.from.home h between refl

block_comes : (p : Pid) (pt : Point) (i : MsgId) (is : List MsgId) (t : Told) (q : Pid) (last : Bool) (h : Turn pt i is t) → is_between t.kind ≡ true → ComesOf p pt h.phases (Some (takes_block i q last))
block_comes p pt i is t q true h between = step_comes p pt i is t (Line.Migration Stage.MemoryTaken q) MessageKind.AllTaken i.from.home h between refl refl refl (memory_off pt.view q) (λ m. refl) refl (λ f. refl) refl
block_comes p pt i is t q false h between = piece_comes p pt i is t MessageKind.PullBlock i.from.home h between refl

-- a process is here again: its move has ended
asker_quiet : (p : Pid) (v : View) (a : Option MoveNote) (r : Outcome) → AllQuiet p v (tells_asker a r)
asker_quiet p v None r = tt
asker_quiet p v (Some n) r = (tt, (tt, tt))

asker_loose : (a : Option MoveNote) (r : Outcome) → AllLoose (tells_asker a r)
asker_loose None r = tt
asker_loose (Some n) r = (λ q. tt, (λ q. tt, tt))

comes_back : (p : Pid) (pt : Point) (i : MsgId) (is : List MsgId) (t : Told) (q : Pid) (l : Line) (a : Option MoveNote) (r : Outcome) (h : Turn pt i is t) → is_between t.kind ≡ true → is_piece t.kind ≡ false → t.about ≡ Of q → label_of l ≡ None → is_put l ≡ false
    → touches l ≡ false
    → ((z : Spot) → ids_at (view_after pt.view l) z ≡ ids_at (rejoins (handled_first pt.view) q) z) → (view_after pt.view l).known ≡ (rejoins (handled_first pt.view) q).known → ((f : MsgId → Option Told) → ends f p l ≡ pid_eq p q)
    → asks p l ≡ false
    → ComesOf p pt h.phases (Some (Says l ∷ tells_asker a r))
comes_back p pt i is t q l a r h between whole about none quiet calm off known ended plain w e g ids opens =
    let v = pt.view in
    let mid = view_after v l in
    let u = w.point.view in
    let ps = tells_asker a r in
    let back = rejoins (handled_first v) q in
    let handled_smooth : (p : Pid) (v : View) (i : MsgId) (is : List MsgId) → v.inbox v.acting ≡ i ∷ is → Plain (asks_for p) v i → Smooth (asks_for p) v (handled_first v) =
    λ p v i is front plain. smooth_others (asks_for p) v (handled_first v) i plain plain (λ t e. e) (record { told = λ j a. refl; spots = first_spots v (handled_first v) i is front (λ z. refl) }) in
    let first : Smooth (asks_for p) v mid = smooth_trans (asks_for p) v back mid (smooth_trans (asks_for p) v (handled_first v) back (handled_smooth p v i is h.front (between_plain p v i t h.told between)) (rejoins_smooth (asks_for p) (handled_first v) q))
    (smooth_still (asks_for p) back mid (told_by v l quiet) (λ j z. ap (times j) (off z))) in
    let at_ : (m : ℕ) → mid.known m p ≡ at_record v.known v.acting q Here m p = λ m. ap (λ (f : ℕ → Pid → Known). f m p) known in
    let rest = line_then p pt l ps w none quiet calm h.sane h.fits (asker_quiet p mid a r) (loose_walks ps (moved pt l pt.kernel) (asker_loose a r)) e in
    let n = line_next pt l ps w none e in
    elim (cases_Bool (pid_eq p q)) [
      | inl same ↦
          let here : u.known v.acting p ≡ Here = ap (λ (x : Point). x.view.known v.acting p) (sym n.point) ∙ asker_known v.acting p Here a r (moved pt l pt.kernel) n.rest n.more (at_ v.acting ∙ set_here p q v.known v.acting Here same) in
          let before = due_moves p q pt i is t h between whole about same in
          let behind = here_stays u g p v.acting here in
          search (arith, smooth_opens (asks_for p) v u ids (smooth_trans (asks_for p) v mid u first rest.smooth) opens, zero_if, quiet_asks, asker_quiet, quiet_count, rest.smooth.kept)
      | inr off ↦
          let still : Still p v mid = λ m. ap is_moving (at_ m) ∙ other_still p q v.known v.acting Here off m in
          level_row p pt h.phases l ps w first (asker_quiet p mid a r) rest (λ f. ended f ∙ off) plain (λ x. level_still p pt h.phases l w still rest x) g ids opens
    ]

restarted_comes : (p : Pid) (pt : Point) (i : MsgId) (is : List MsgId) (t : Told) (q : Pid) (a : Option MoveNote) (h : Turn pt i is t) → is_between t.kind ≡ true → is_piece t.kind ≡ false → t.about ≡ Of q
    → ComesOf p pt h.phases (Some (Says (Line.Migration Stage.Restarted q) ∷ tells_asker a Outcome.Done))
restarted_comes p pt i is t q a h between whole about = comes_back p pt i is t q (Line.Migration Stage.Restarted q) a Outcome.Done h between whole about refl refl refl (λ z. restarted_off pt.view q z) refl (λ f. refl) refl

-- a process has left: what waited for it goes on, and the destination waits for it still
abbrev leaving : ℕ → MsgId → Pid → List MsgId → List Part
leaving to i q ids = Says (Line.SentOn q (length ids)) ∷ sends_on to ids ++ Says (Line.Migration Stage.Left q) ∷ to_kernel MessageKind.Restart i.from.home ∷ []

-- the destination waits
target_expects : (p q : Pid) (pt : Point) (i : MsgId) (is : List MsgId) (t : Told) (h : Turn pt i is t) → t.kind ≡ MessageKind.AllTaken → t.about ≡ Of q → pid_eq p q ≡ true → (d : ℕ) × ((pt.view.acting == d) ≡ false) × (is_moving (pt.view.known d p) ≡ true)
target_expects p q pt i is t h all about same =
    let v = pt.view in
    let u = whole_due pt i is t h.phases q h.front h.told (ap is_between all) about (ap is_piece all) in
    grind (arith, nat_tests, about_same, pid_eq-is, not_false, parts, target_waits)

left_comes : (p : Pid) (pt : Point) (i : MsgId) (is : List MsgId) (t : Told) (q : Pid) (to : ℕ) (h : Turn pt i is t) → t.kind ≡ MessageKind.AllTaken → t.about ≡ Of q → ComesOf p pt h.phases (Some (leaving to i q (pt.view.queue pt.view.acting q ++ pt.view.held pt.view.acting q)))
left_comes p pt i is t q to h all about w e g listed opens =
    let v = pt.view in
    let ids = v.queue v.acting q ++ v.held v.acting q in
    let b = i.from.home in
    let between : is_between t.kind ≡ true = ap is_between all in
    let l = Line.SentOn q (length ids) in
    let l2 = Line.Migration Stage.Left q in
    let qs = Says l2 ∷ to_kernel MessageKind.Restart b ∷ [] in
    let n = line_next pt l (sends_on to ids ++ qs) w refl e in
    let mid = moved pt l pt.kernel in
    let s = all_sent (asks_for p) v ids to qs mid n.rest (sent_begins (asks_for p) v q (length ids) i is h.front (between_plain p v i t h.told between) h.fits) (sane_line pt mid l refl refl h.sane) n.more in
    let pt3 = s.next in
    let v3 = view_after pt3.view l2 in
    let at : s.rest.point ≡ w.point = s.point ∙ n.point in
    let rest : Settled p v3 w.point = subst (λ (x : Point). Settled p v3 x) at (line_then p pt3 l2 (to_kernel MessageKind.Restart b ∷ []) s.rest refl refl refl s.sane s.sending.fits (refl, tt) (owns_loose MessageKind.Restart b (moved pt3 l2 pt3.kernel)) s.more) in
    let smooth : Smooth (asks_for p) v w.point.view = smooth_trans (asks_for p) v pt3.view w.point.view (sent_smooth (asks_for p) v pt3.view s.sending) (smooth_trans (asks_for p) pt3.view v3 w.point.view (moves_none (asks_for p) pt3.view l2 refl (left_off pt3.view q)) rest.smooth) in
    let x = gone_to (pt3.view.known pt3.view.acting q) (pt3.view.moves q + 1) in
    level_balance p v w.point.view listed (moving_in (h.phases.of p)) (moving_in (g.of p)) (leaving to i q ids) smooth opens
    (elim (cases_Bool (pid_eq p q)) [
      | inl same ↦
          let (d, far, waits) = target_expects p q pt i is t h all about same in
          let far3 : (pt3.view.acting == d) ≡ false = ap (λ (m : ℕ). m == d) s.sending.acting ∙ far in
          let known : v3.known d p ≡ v.known d p = at_record_off pt3.view.known pt3.view.acting d q p x (first_off_and (pt3.view.acting == d) (pid_eq q p) far3) ∙ s.sending.known d p in
          due_moves p q pt i is t h between (ap is_piece all) about same ∙ sym (waits_moves w.point.view g p d (rest.still d ∙ ap is_moving known ∙ waits))
      | inr off ↦
          still_moves p v w.point.view h.phases g
          (λ m. rest.still m ∙ other_still p q pt3.view.known pt3.view.acting x off m ∙ ap is_moving (s.sending.known m p))
    ])
    (let c = sends_count (asks p) to ids qs in omega (arith, c)) (λ f ext. let c = sends_count (ends f p) to ids qs in omega (arith, c))

leaves_comes : (p : Pid) (pt : Point) (i : MsgId) (is : List MsgId) (t : Told) (q : Pid) (k : Known) (h : Turn pt i is t) → t.kind ≡ MessageKind.AllTaken → t.about ≡ Of q → ComesOf p pt h.phases (leaves i q (pt.view.queue pt.view.acting q ++ pt.view.held pt.view.acting q) k)
leaves_comes p pt i is t q (Frozen to) h all about = left_comes p pt i is t q to h all about
leaves_comes p pt i is t q _ h all about = tt

-- by the kind of the message
pub told_comes : (p : Pid) (o : Point) (m : ℕ) (i : MsgId) (is : List MsgId) (t : Told) (q : Pid) (room : Bool × ℕ × ℕ) (x : Size) (k : MessageKind) (h : Turn (turned o m) i is t) → t.kind ≡ k → t.about ≡ Of q → ComesOf p (turned o m) h.phases (told_step o m i q room x (sort_of k))
told_comes p o m i is t q room x MessageKind.Ask h e about = accepts_comes p (turned o m) i is t q room.0 room.1 room.2 i.from.home h (ap is_between e) (ap is_piece e) about
told_comes p o m i is t q room x MessageKind.Refuse h e about = search (arith, turned o m, ap is_between e, ap is_piece e, comes_back)
told_comes p o m i is t q room x MessageKind.CallOff h e about = search (arith, turned o m, ap is_between e, ap is_piece e, comes_back)
told_comes p o m i is t q room x MessageKind.PullState h e about = piece_comes p (turned o m) i is t MessageKind.State i.from.home h (ap is_between e) refl
told_comes p o m i is t q room x MessageKind.State h e about = chunk_comes p (turned o m) i is t q (o.view.asked q == chunks_of x) h (ap is_between e)
told_comes p o m i is t q room x MessageKind.PullBlock h e about = piece_comes p (turned o m) i is t MessageKind.Memory i.from.home h (ap is_between e) refl
told_comes p o m i is t q room x MessageKind.Memory h e about = block_comes p (turned o m) i is t q (o.view.asked q == pieces_of x) h (ap is_between e)
told_comes p o m i is t q room x MessageKind.AllTaken h e about = leaves_comes p (turned o m) i is t q (o.view.known m q) h e about
told_comes p o m i is t q room x MessageKind.Restart h e about = restarted_comes p (turned o m) i is t q (o.kernel.notes q) h (ap is_between e) (ap is_piece e) about
told_comes p o m i is t q room x k h e about = tt

-- a message is held
held_comes : (p : Pid) (pt : Point) (i : MsgId) (is : List MsgId) (t : Told) (h : Turn pt i is t) → ComesOf p pt h.phases (Some (Says (Line.Held i) ∷ []))
held_comes p pt i is t h w e =
    let v = pt.view in
    let l = Line.Held i in
    let rest = line_then p pt l [] w refl refl refl h.sane h.fits tt tt e in
    search (still_by, held_known, level_row, held_smooth, level_still)

-- a message is forwarded: it goes from the front, and is put again
forwarded_put : (p : Pid) (v : View) (i : MsgId) (is : List MsgId) (t : Told) (to b : ℕ) → v.inbox v.acting ≡ i ∷ is → v.told i ≡ Some t → PairsFit (view_after v (Line.Forwarded i to)) → let u = view_after v (Line.Forwarded i to) in Smooth (asks_for p) v (view.after_put u u.acting b i t.kind t.receiver)
forwarded_put p v i is t to b front told pairs =
    let l = Line.Forwarded i to in
    let u = view_after v l in
    let n = view.after_put u u.acting b i t.kind t.receiver in
    let same = told_by v l refl in
    let o = receiver_of (v.told i) in
    smooth_moves (asks_for p) v n i (λ j. again_told u u.acting b i t (same i ∙ told) j ∙ same j) (Inbox v.acting, front_one v v.acting i is front) (put_spot u.acting b, put_there u u.acting b i t.kind t.receiver pairs)
    (λ j e z. put_spots u u.acting b i j t.kind t.receiver pairs e z ∙ forwarded_spots (handled v i) j o z ∙ handled_spots v i j e z)

forwards_settle : (p : Pid) (pt : Point) (i : MsgId) (is : List MsgId) (t : Told) (to b : ℕ) (ps : List Part) (w : Spelled) → Turn pt i is t → ((v : View) → AllQuiet p v ps) → AllLoose ps → spelled pt (Says (Line.Forwarded i to) ∷ Again i b ∷ ps) ≡ Some w → Settled p pt.view w.point
forwards_settle p pt i is t to b ps w h quiet loose e =
    let v = pt.view in
    let l = Line.Forwarded i to in
    let n = line_next pt l (Again i b ∷ ps) w refl e in
    let mid = moved pt l pt.kernel in
    let u = mid.view in
    let pairs = fits_as v u (pair_same v l refl) h.fits in
    let sane = sane_line pt mid l refl refl h.sane in
    let k = next_of mid (Again i b) ps n.rest n.more in
    let told : u.told i ≡ Some t = told_by v l refl i ∙ h.told in
    let still : Still p v u = still_by p v u (λ m q. forwarded_known (handled v i) (receiver_of (v.told i)) m q) in
    let put : Rest p v (view.after_put u u.acting b i t.kind t.receiver) = record { smooth = forwarded_put p v i is t to b h.front h.told pairs; still = still; fits = fits_put u u.acting b i t.kind t.receiver pairs } in
    let r : Rest p v k.next.view = part_leads (λ (q : Point). Rest p v q.view) (rest_packet p v) mid k.next (Again i b)
    (λ x is. (let f : Some t ≡ Some x = sym told ∙ is in let same : t ≡ x = cc in subst (λ (y : Told). Rest p v (view.after_put u u.acting b i y.kind y.receiver)) same put)) k.steps in
    let s : Settled p v k.next = record { smooth = r.smooth; still = r.still; sane = part_sane mid k.next (Again i b) k.steps.lines tt k.steps.are k.steps.leads sane; fits = r.fits } in
    subst (λ (x : Point). Settled p v x) (k.point ∙ n.point) (parts_settle p ps v k.next k.rest (quiet v) (loose_walks ps k.next loose) s k.more)

forwards_comes : (p : Pid) (pt : Point) (i : MsgId) (is : List MsgId) (t : Told) (a : Addresses) (k : MessageKind) (sender : Pid) (to : ℕ) (h : Turn pt i is t) → ComesOf p pt h.phases (Some (forwards_on a i k sender to))
forwards_comes p pt i is t a k sender to h w e g ids opens =
    let ps = if is_told_back k then Owns MessageKind.Update sender (a (Sender i)).at ∷ [] else [] in
    let quiet : (v : View) → AllQuiet p v ps = λ v. (let e_ : AllQuiet p v (if (is_told_back k) then Owns MessageKind.Update sender (a (Sender i)).at ∷ [] else []) = grind (arith, nat_tests) in e_) in
    let s = forwards_settle p pt i is t to to ps w h quiet (grind (arith, nat_tests)) e in
    let u = w.point.view in
    level_balance p pt.view u ids (moving_in (h.phases.of p)) (moving_in (g.of p)) (forwards_on a i k sender to) s.smooth opens (still_moves p pt.view u h.phases g s.still)
    (let c = quiet_asks p u ps (quiet u) in omega (arith, c)) (λ f ext. let c = quiet_count p u ps f (quiet u) ext in omega (arith, c))

-- a request ends: the process is here already, or has ended
handled_first_off : (v : View) (i : MsgId) (is : List MsgId) (w : View) → v.inbox v.acting ≡ i ∷ is → ((z : Spot) → ids_at w z ≡ ids_at (handled v i) z) → (z : Spot) → ids_at w z ≡ ids_at (handled_first v) z
handled_first_off v i is w front e z = e z ∙ sym (first_off v i is front z)

asks_of : (p : Pid) (t : Told) → t.kind ≡ MessageKind.Migrate → pid_eq p t.receiver ≡ true → asks_for p t ≡ true
asks_of p t e same = ap (λ (k : MessageKind). is_migrate k && pid_eq p t.receiver) e ∙ same

arrived_comes : (p : Pid) (pt : Point) (i : MsgId) (is : List MsgId) (t : Told) (h : Turn pt i is t) → t.kind ≡ MessageKind.Migrate → ComesOf p pt h.phases (Some (Says (Line.Here i) ∷ []))
arrived_comes p pt i is t h k w e g ids opens = elim (cases_Bool (pid_eq p t.receiver)) [
  | inl same ↦
      end_row p pt (Line.Here i) i is t w h (asks_of p t k same) refl refl refl (handled_first_off pt.view i is (view_after pt.view (Line.Here i)) h.front (λ z. refl)) (λ m. refl) (λ f told. ap (is_for p) told ∙ same) refl e g ids opens
  | inr off ↦
      let foreign : Foreign p pt.view i = record { what = t; told = h.told; other = off } in
      quiet_row p pt h.phases (Says (Line.Here i) ∷ []) w h.sane h.fits (foreign, tt) (loose_walks (Says (Line.Here i) ∷ []) pt (λ q. tt, tt)) e g ids opens
]

ended_comes : (p : Pid) (pt : Point) (i : MsgId) (is : List MsgId) (t : Told) (h : Turn pt i is t) → t.kind ≡ MessageKind.Migrate → ComesOf p pt h.phases (Some (Says (Line.NoMove i) ∷ []))
ended_comes p pt i is t h k w e g ids opens = elim (cases_Bool (pid_eq p t.receiver)) [
  | inl same ↦
      end_row p pt (Line.NoMove i) i is t w h (asks_of p t k same) refl refl refl (handled_first_off pt.view i is (view_after pt.view (Line.NoMove i)) h.front (λ z. refl)) (λ m. refl) (λ f told. ap (is_for p) told ∙ same) refl e g ids opens
  | inr off ↦
      let foreign : Foreign p pt.view i = record { what = t; told = h.told; other = off } in
      quiet_row p pt h.phases (Says (Line.NoMove i) ∷ []) w h.sane h.fits (foreign, tt) (loose_walks (Says (Line.NoMove i) ∷ []) pt (λ q. tt, tt)) e g ids opens
]

updated_comes : (p : Pid) (pt : Point) (i : MsgId) (is : List MsgId) (t : Told) (n : ℕ) (h : Turn pt i is t) → t.kind ≡ MessageKind.Update → ComesOf p pt h.phases (Some (Says (Line.Updated i n) ∷ []))
updated_comes p pt i is t n h k w e =
    let tame : Tame p pt.view i = record { what = t; told = h.told; plain = kind_not p t (ap is_migrate k) } in
    quiet_row p pt h.phases (Says (Line.Updated i n) ∷ []) w h.sane h.fits (tame, tt) (loose_walks (Says (Line.Updated i n) ∷ []) pt (λ q. tt, tt)) e

frozen_comes : (p : Pid) (pt : Point) (i : MsgId) (is : List MsgId) (t : Told) (to : ℕ) (h : Turn pt i is t) → t.kind ≡ MessageKind.Migrate → pt.view.known pt.view.acting t.receiver ≡ Here
    → ComesOf p pt h.phases (Some (Says (Line.Migration Stage.Frozen t.receiver) ∷ Says (Line.Migration Stage.Asked t.receiver) ∷ to_kernel MessageKind.Ask to ∷ []))
frozen_comes p pt i is t to h k here w e g ids opens =
    let v = pt.view in
    let q = t.receiver in
    let l = Line.Migration Stage.Frozen q in
    let ps = Says (Line.Migration Stage.Asked q) ∷ to_kernel MessageKind.Ask to ∷ [] in
    let mid = view_after v l in
    let u = w.point.view in
    let set = sets v q v.topic in
    let x = Frozen (aim v v.topic) in
    let at_ : (m : ℕ) → mid.known m p ≡ at_record v.known v.acting q x m p = λ m. ap (λ (f : ℕ → Pid → Known). f m p) set.known in
    let rest = line_then p pt l ps w refl refl refl h.sane h.fits (tt, (refl, tt)) (loose_walks ps (moved pt l pt.kernel) (λ y. tt, (λ y. tt, tt))) e in
    elim (cases_Bool (pid_eq p q)) [
      | inl same ↦
          let is_open : IsOpen (asks_for p) v i = record { told = t; is = h.told; picked = asks_of p t k same; stands = stands_front pt i is t h } in
          let closes = first_closes (asks_for p) pt l i is t h refl (frozen_off v q h.topic) in
          let s = close_opens (asks_for p) v mid ids i is_open closes opens in
          let before = here_stays v h.phases p v.acting (ap (v.known v.acting) (pid_eq-is p q same) ∙ here) in
          let behind_ = waits_moves u g p v.acting (rest.still v.acting ∙ ap is_moving (at_ v.acting ∙ set_here p q v.known v.acting x same)) in
          search (arith, s.left, smooth_opens, rest.smooth, s.opens, s.less)
      | inr off ↦
          level_row p pt h.phases l ps w (first_smooth (asks_for p) v l i is h.front (plain_one p v i t h.told (foreign_not p t off)) refl (frozen_off v q h.topic)) (tt, (refl, tt)) rest (λ f. refl) refl
          (λ y. level_still p pt h.phases l w (λ m. ap is_moving (at_ m) ∙ other_still p q v.known v.acting x off m) rest y) g ids opens
    ]
  where
    foreign_not : (r : Pid) (s : Told) → pid_eq r s.receiver ≡ false → asks_for r s ≡ false
    foreign_not r s off = and_off (is_migrate s.kind) (pid_eq r s.receiver) off

moves_comes : (p : Pid) (pt : Point) (i : MsgId) (is : List MsgId) (t : Told) (to : ℕ) (same : Bool) (h : Turn pt i is t) → t.kind ≡ MessageKind.Migrate → pt.view.known pt.view.acting t.receiver ≡ Here
    → ComesOf p pt h.phases (Some (if same then Says (Line.Here i) ∷ [] else Says (Line.Migration Stage.Frozen t.receiver) ∷ Says (Line.Migration Stage.Asked t.receiver) ∷ to_kernel MessageKind.Ask to ∷ []))
moves_comes p pt i is t to true h k here = arrived_comes p pt i is t h k
moves_comes p pt i is t to false h k here = frozen_comes p pt i is t to h k here

-- at a process or a server, and at a kernel
here_comes : (p : Pid) (o : Point) (m : ℕ) (i : MsgId) (is : List MsgId) (t : Told) (k : MessageKind) (h : Turn (turned o m) i is t) → t.kind ≡ k → o.view.known m t.receiver ≡ Here → ComesOf p (turned o m) h.phases (told_here o m i t (sort_of k))
here_comes p o m i is t MessageKind.Migrate h e here = moves_comes p (turned o m) i is t (target_of (Some t)) (m == target_of (Some t)) h e here
here_comes p o m i is t MessageKind.Update h e here = updated_comes p (turned o m) i is t _ h e
here_comes p o m i is t k h e here = tt

over_comes : (p : Pid) (pt : Point) (i : MsgId) (is : List MsgId) (t : Told) (k : MessageKind) (h : Turn pt i is t) → t.kind ≡ k → ComesOf p pt h.phases (told_ended i (sort_of k))
over_comes p pt i is t MessageKind.Migrate h e = ended_comes p pt i is t h e
over_comes p pt i is t MessageKind.Update h e = updated_comes p pt i is t 0 h e
over_comes p pt i is t k h e = tt

pub process_comes : (p : Pid) (o : Point) (m : ℕ) (i : MsgId) (is : List MsgId) (t : Told) (k : Known) (h : Turn (turned o m) i is t) → o.view.known m t.receiver ≡ k → ComesOf p (turned o m) h.phases (process_told o m i t k)
process_comes p o m i is t Unknown h known = over_comes p (turned o m) i is t t.kind h refl
process_comes p o m i is t Here h known = here_comes p o m i is t t.kind h refl known
process_comes p o m i is t (Forward at moves) h known = forwards_comes p (turned o m) i is t o.addresses t.kind manager at h
process_comes p o m i is t _ h known = held_comes p (turned o m) i is t h

of_bind : {X : Type 0} (p : Pid) (pt : Point) (h : InPhases pt.view) (x : Option X) (f : X → Option (List Part)) → ((y : X) → x ≡ Some y → ComesOf p pt h (f y)) → ComesOf p pt h (bind x f)
of_bind p pt h None f k = tt
of_bind p pt h (Some y) f k = k y refl

stale_comes : (p : Pid) (pt : Point) (i : MsgId) (is : List MsgId) (t : Told) (h : Turn pt i is t) → is_between t.kind ≡ true → ComesOf p pt h.phases (Some (Says (Line.Stale i) ∷ []))
stale_comes p pt i is t h between w e =
    let ps = Says (Line.Stale i) ∷ [] in
    quiet_row p pt h.phases ps w h.sane h.fits (record { what = t; told = h.told; plain = between_plain p pt.view i t h.told between t h.told }, tt) (loose_walks ps pt (λ q. tt, tt)) e

-- a machine forgets a process that has ended
buried_comes : (p : Pid) (pt : Point) (i : MsgId) (is : List MsgId) (t : Told) (n : ℕ) (ms : List ℕ) (h : Turn pt i is t) → t.kind ≡ MessageKind.Bury → TellsEnd pt.kernel pt.view i → ComesOf p pt h.phases (Some (Says (Line.Buried i n) ∷ map (to_kernel MessageKind.Bury) ms))
buried_comes p pt i is t n ms h kind need w e =
    let tame : Tame p pt.view i = record { what = t; told = h.told; plain = kind_not p t (ap is_migrate kind) } in
    quiet_row p pt h.phases (Says (Line.Buried i n) ∷ map (to_kernel MessageKind.Bury) ms) w h.sane h.fits (tame, buries_kept (AllQuiet p pt.view) tt (λ to xs k. (refl, k)) ms)
    (first_walks (Says (Line.Buried i n)) (map (to_kernel MessageKind.Bury) ms) pt need (buries_kept AllLoose tt (λ to xs k. ((λ q. tt), k)) ms)) e

pub kernel_comes : (p : Pid) (b : Boot) (o : Point) (m : ℕ) (i : MsgId) (is : List MsgId) (t : Told) (a : About) (h : Turn (turned o m) i is t) → t.about ≡ a → ((q : Pid) → a ≡ Of q → t.kind ≡ MessageKind.Bury → TellsEnd (turned o m).kernel (turned o m).view i)
    → ComesOf p (turned o m) h.phases (kernel_hears b o m i t.kind a)
kernel_comes p b o m i is t (Of q) h about ends = of_over (tells_end (sort_of t.kind)) refl
  where
    steps : Option (List Part)
    steps = bind (size_of o.kernel q) (λ x. told_step o m i q (rule.fits (rule.free_room b o m) x.blocks) x (sort_of t.kind))

    of_stale : (c : Bool) → is_stale o m i t.kind q ≡ c → ComesOf p (turned o m) h.phases (if c then Some (Says (Line.Stale i) ∷ []) else steps)
    of_stale true stale = stale_comes p (turned o m) i is t h (brings_between t.kind (left_true (brings_piece (sort_of t.kind)) (not (is_waited_from i.from.home (o.view.known m q))) stale))
    of_stale false fresh =
        of_bind p (turned o m) h.phases (size_of o.kernel q) (λ x. told_step o m i q (rule.fits (rule.free_room b o m) x.blocks) x (sort_of t.kind))
        (λ x sized. told_comes p o m i is t q (rule.fits (rule.free_room b o m) x.blocks) x t.kind h refl about)

    of_over : (c : Bool) → tells_end (sort_of t.kind) ≡ c → ComesOf p (turned o m) h.phases (if c then Some (buried o m i q) else if is_stale o m i t.kind q then Some (Says (Line.Stale i) ∷ []) else steps)
    of_over true over = let kind = bury_is t.kind over in buried_comes p (turned o m) i is t (length (preds_of o m q)) (preds_of o m q) h kind (ends q refl kind)
    of_over false off = of_stale (is_stale o m i t.kind q) refl
kernel_comes p b o m i is t _ h about ends = tt

-- a migration is called off: its source holds the process still
called_on : (v : View) (q : Pid) (n : ℕ) (i : MsgId) (z : Spot) → 1 ≤ standing v i z → Somewhere (view_after v (Line.Called q n)) i ⊎ (1 ≤ times i (v.held v.acting q))
called_on v q n i (Held m r) st = elim (emptied_on v.held v.acting q i m r st) [
  | inl x ↦ inl (Held m r, x)
  | inr x ↦ inr x
]
called_on v q n i (Queue m r) st = inl (Queue m r, st)
called_on v q n i (Inbox m) st = inl (Inbox m, st)
called_on v q n i (Untaken a c) st = inl (Untaken a c, st)

called_back : (v : View) (q : Pid) (n : ℕ) (i : MsgId) (z : Spot) → 1 ≤ standing (view_after v (Line.Called q n)) i z → Somewhere v i
called_back v q n i (Held m r) st = (Held m r, let e_ : 1 ≤ times i (v.held m r) = grind (arith, nat_tests) in e_)
called_back v q n i (Queue m r) st = (Queue m r, st)
called_back v q n i (Inbox m) st = (Inbox m, st)
called_back v q n i (Untaken a c) st = (Untaken a c, st)

-- as if the machine had known it before
abbrev pub turned_back : View → Pid → View
turned_back v q = view.knowing v q (goes_back (v.known v.acting q) (v.moves q))

pub called_begins : (picks : Told → Bool) (v : View) (q : Pid) (n : ℕ) → PairsFit v → Sending picks (turned_back v q) (v.held v.acting q) (view_after v (Line.Called q n))
called_begins picks v q n fits = record {
  told = λ j. refl;
  on = λ j t e a s. elim (called_on v q n j s.0 s.1) [ inl x ↦ inl x | inr x ↦ inr x ];
  back = λ j t e a s. (let (z, st) = called_back v q n j s.0 s.1 in (z, st));
  from = λ j t e a least. (Held v.acting q, least);
  known = λ m r. refl;
  fits = record { within = fits.within; home = fits.home };
  acting = refl;
}

source_waits : (v : View) (q : Pid) (phase : Phase) (from : ℕ) → IsIn v q phase → is_due phase ≡ false → v.known v.acting q ≡ Incoming from → v.come q ≡ false → (s : ℕ) × ((v.acting == s) ≡ false) × (is_moving (v.known s q) ≡ true)
source_waits v q (Moves k s d o) from h due is come =
    let late : is_restart k ≡ false = by_kind k refl h.come in
    let apart : (s == d) ≡ false = not_false (s == d) (parts (is_between k) (not (s == d)) h.apart).1 in
    let frozen : is_moving (v.known s q) ≡ true = frozen_by k d (v.known s q) late (source_knows k s d o (v.known s q) (h.known s)) in
    (s, let e_ : (v.acting == s) ≡ false = not_true (v.acting == s) (λ e. false≢true (sym (ap (λ (x : Known). kind_leaves k d x) (ap (λ (m : ℕ). v.known m q) (sym (eq_is v.acting s e)) ∙ is)) ∙ source_knows k s d o (v.known s q) (h.known s))) in e_, frozen)
  where
    by_kind : (c : MessageKind) → c ≡ k → ComesIn (Moves c s d o) (v.come q) → is_restart c ≡ false
    by_kind MessageKind.Restart e y = absurd (false≢true (sym come ∙ y))
    by_kind _ e y = refl

    frozen_by : (k : MessageKind) (d : ℕ) (x : Known) → is_restart k ≡ false → kind_leaves k d x ≡ true → is_moving x ≡ true
    frozen_by k d x late e = grind (arith, nat_tests)
source_waits v q other from h due is come = absurd (false≢true (sym (ap is_settled is) ∙ rest_settled other v.acting (v.known v.acting q) due refl (h.known v.acting)))

pub called_comes : (p : Pid) (pt : Point) (h : InPhases pt.view) (q : Pid) (from : ℕ) (w : Spelled) → Sane pt → PairsFit pt.view → is_due (h.of q) ≡ false → pt.view.known pt.view.acting q ≡ Incoming from → pt.view.come q ≡ false
    → spelled pt (called_parts q (pt.view.held pt.view.acting q) from) ≡ Some w → Comes p pt h (called_parts q (pt.view.held pt.view.acting q) from) w
called_comes p pt h q from w sane fits due is come e g listed opens =
    let v = pt.view in
    let ids = v.held v.acting q in
    let l = Line.Called q (length ids) in
    let qs = to_kernel MessageKind.CallOff from ∷ [] in
    let n = line_next pt l (sends_on from ids ++ qs) w refl e in
    let mid = moved pt l pt.kernel in
    let b = turned_back v q in
    let s = all_sent (asks_for p) b ids from qs mid n.rest (called_begins (asks_for p) v q (length ids) fits) (sane_line pt mid l refl refl sane) n.more in
    let pt3 = s.next in
    let at : s.rest.point ≡ w.point = s.point ∙ n.point in
    let rest : Settled p pt3.view w.point = subst (λ (x : Point). Settled p pt3.view x) at (parts_settle p qs pt3.view pt3 s.rest (kernel_quiet p pt3.view MessageKind.CallOff from refl) (owns_loose MessageKind.CallOff from pt3) (settled_same p pt3 s.sane s.sending.fits) s.more) in
    let sent : Smooth (asks_for p) b pt3.view = sent_smooth (asks_for p) b pt3.view s.sending in
    let first : Smooth (asks_for p) v b = smooth_still (asks_for p) v b (λ j. refl) (λ j z. refl) in
    let smooth : Smooth (asks_for p) v w.point.view = smooth_trans (asks_for p) v pt3.view w.point.view (smooth_trans (asks_for p) v b pt3.view first sent) rest.smooth in
    let x = goes_back (v.known v.acting q) (v.moves q) in
    level_balance p v w.point.view listed (moving_in (h.of p)) (moving_in (g.of p)) (called_parts q ids from) smooth opens
    (elim (cases_Bool (pid_eq p q)) [
      | inl same ↦
          let (s_, far, waits) = source_waits v q (h.of q) from (h.each q) due is come in
          let pq : p ≡ q = pid_eq-is p q same in
          let known : pt3.view.known s_ q ≡ v.known s_ q = s.sending.known s_ q ∙ at_record_off v.known v.acting s_ q q x (first_off_and (v.acting == s_) (pid_eq q q) far) in
          let now : is_moving (pt3.view.known s_ p) ≡ true = ap (λ (r : Pid). is_moving (pt3.view.known s_ r)) pq ∙ ap is_moving known ∙ waits in
          let was : is_moving (v.known v.acting p) ≡ true = ap (λ (r : Pid). is_moving (v.known v.acting r)) pq ∙ ap is_moving is in
          waits_moves v h p v.acting was ∙ sym (waits_moves w.point.view g p s_ (rest.still s_ ∙ now))
      | inr off ↦ still_moves p v w.point.view h g (λ m. rest.still m ∙ ap is_moving (s.sending.known m p) ∙ other_still p q v.known v.acting x off m)
    ])
    (let c = sends_count (asks p) from ids qs in omega (arith, c)) (λ f ext. let c = sends_count (ends f p) from ids qs in omega (arith, c))

pub nocall_comes : (p : Pid) (pt : Point) (h : InPhases pt.view) (q : Pid) (w : Spelled) → Sane pt → PairsFit pt.view → spelled pt (Says (Line.NoCall q) ∷ []) ≡ Some w → Comes p pt h (Says (Line.NoCall q) ∷ []) w
nocall_comes p pt h q w sane fits e =
    let ps = Says (Line.NoCall q) ∷ [] in
    quiet_row p pt h ps w sane fits (tt, tt) (loose_walks ps pt (λ r. tt, tt)) e
