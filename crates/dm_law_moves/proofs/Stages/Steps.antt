-- What a process or a server says of a kernel's own message leaves all migrations as they are, or freezes the process.
use Rattle.dm_law_moves.proofs.Names.{◌≡◌, ℕ, ◌≤◌, true, false, List, [], ◌∷◌, ◌++◌, length, refl, ap, ◌∙◌, sym, subst, Option, None, Some, false≢true, Pid, pid_of, pid_eq, MsgId, MessageKind, Stage, Line, at_record, Told, Of, Known, Here}
use Rattle.dm_law_moves.proofs.Names.{Frozen, view_after, handled_first, released, to_kernel, sends_on, is_between, Point, label_of, moved, Part, Says, Spelled, spelled, Spot, Queue, Held, Inbox, Untaken, times, ids_at, standing}
use Rattle.dm_law_moves.proofs.Names.{pid_eq-swap, is_put, at_record_at, first_off, home_again, home_off, frozen_off, line_next, touches, handled_spots, record_off, InPhases, queued_plain, held_plain, Mark, Reached, mark_for, with_mark}
use Rattle.dm_law_moves.proofs.Names.{in_order, released_on, nat_tests, arith, ◌==◌, Bool, Incoming, handled, front_of, accepts, gives_piece, takes_chunk, takes_block, told_step, chunks_of, pieces_of, Owns, accepted_off}
use Rattle.dm_law_moves.proofs.Names.{memory_off, lacks_off, proto_off, restarted_off, proto_known, Lacking, Staying, leaves, sets, MoveNote, Outcome, NothingElse, tells_asker, aim, PairsFit, Sane, Target, asked_off, target_of}
use Rattle.dm_law_moves.proofs.Names.{forwards_on, plain_kind, PlainMessage, Boot, goes_round, handles, Addresses, loose_round, loose_handles, by_forwards, Label, PlainWhat, sort_of, Phase, Moves, IsIn, sender_in, pulls_piece, brings_piece}
use Rattle.dm_law_moves.proofs.Names.{Due, piece_ways, pull_ways, proto_acting, Calling, kind_comes, kind_leaves, is_away, knows, left_true, not, if◌then◌else◌, is_due, View, ComesIn, goes_back, called_parts, ⊤, About, Again}
use Rattle.dm_law_moves.proofs.Stages.Spares.{is_settled, Spares, spares_same, spares_trans, TokenOf, HasMark, token_mark, here_mark, some_marked, mark_of, Marked, open_after, marks_of, mark_same, mark_other, marks_sent}
use Rattle.dm_law_moves.proofs.Stages.Rows.{about_others, Handling, first_spares, owns_token, line_sane, line_and_parts, Row, split, front_token, row_marked, answer, AllMild, spares_line, same_spot, Kept, parts_spare}
use Rattle.dm_law_moves.proofs.Leading.{line_fits, asker_known}
use Rattle.dm_law_moves.proofs.Names.{Size, is_server}
use Rattle.dm_law_moves.proofs.LastPieces.{last_chunk, state_stays, state_front, state_goes}
use Rattle.dm_law_moves.proofs.Ends.Parts.{told_by}
use Rattle.dm_law_rule.specs.Rule as rule
use Rattle.dm_law_moves.proofs.Stages.Rows.{of_same, Expects, no_piece}
use Rattle.dm_law_moves.proofs.Stages.Spares.{IsAwaited, is_piece, pulls_is_piece, brings_is_piece, phase_awaited}
use Rattle.dm_law_moves.proofs.Stages.Spares.{mark_in, rest_settled}
use Rattle.dm_law_moves.proofs.Leading.{All, Behind, parts_lead}

pub round_mild : (me : Pid) (front : Option MsgId) (b : Boot) (pt : Point) (m : ℕ) (o : Option Pid) (ps : List Part) → goes_round b pt m o ≡ Some ps → AllMild me front ps
round_mild me front b pt m o ps e = loose_round (AllMild me front) (record { none = tt; label = λ l ps h. (tt, h); routes = λ i ps h. (tt, h); buries = λ to ps h. (tt, h) }) b pt m o ps (tt, tt) e

pub forwards_mild : (me : Pid) (a : Addresses) (id : MsgId) (k : MessageKind) (sender : Pid) (to : ℕ) → AllMild me (Some id) (forwards_on a id k sender to)
forwards_mild me a id k sender to = by_forwards (AllMild me (Some id)) a id k sender to (refl, (tt, tt)) (refl, (tt, (tt, tt)))

-- the parts that freeze a process
abbrev pub freezes : Pid → ℕ → List Part
freezes p to = Says (Line.Migration Stage.Frozen p) ∷ Says (Line.Migration Stage.Asked p) ∷ to_kernel MessageKind.Ask to ∷ []

-- a message of the bag leaves all migrations as they are, or asks a process to move, which sets off
pub data Handled (o : Point) (m : ℕ) (id : MsgId) (msg : PlainMessage) (ps : List Part) : Type 0 where
  Spared : ((me : Pid) → AllMild me (Some id) ps) → Handled o m id msg ps
  SetsOff : (to : ℕ) → o.view.known m msg.to ≡ Here → msg.what ≡ PlainWhat.Move to → ps ≡ rule.says (Label.Asked id) ∷ freezes msg.to to → Handled o m id msg ps

pub handles_mild : (b : Boot) (o : Point) (m : ℕ) (id : MsgId) (msg : PlainMessage) (ps : List Part) → handles b o m id msg ≡ Some ps → Handled o m id msg ps
handles_mild b o m id msg ps e =
    loose_handles (Handled o m id msg) (λ xs. (me : Pid) → AllMild me (Some id) xs) (record { none = λ me. tt; label = λ l qs h me. (tt, h me); routes = λ i qs h me. (tt, h me); buries = λ to qs h me. (tt, h me) }) (λ qs h. Spared h) b o m id msg ps (λ here. Spared (λ me. (refl, tt))) (Spared (λ me. (refl, tt)))
    (λ to here what apart. SetsOff to here.known what refl) (λ to moves at_. Spared (λ me. forwards_mild me o.addresses id (plain_kind msg.what) msg.sender to)) e

pub data Hears (k : Known) (id : MsgId) (t : Told) (ps : List Part) : Type 0 where
  Calms : ((me : Pid) → AllMild me (Some id) ps) → Hears k id t ps
  Freezes : k ≡ Here → ps ≡ freezes t.receiver (target_of (Some t)) → Hears k id t ps

-- The rows of a migration that freeze a process, send on what waits for it, and bring it home.

-- a process is home again
home_spares : (pt : Point) (i : MsgId) (is : List MsgId) (q p : Pid) (l : Line) → Handling pt i is q → pid_eq q p ≡ false → is_put l ≡ false → ((z : Spot) → ids_at (view_after pt.view l) z ≡ ids_at (released (home_again (handled_first pt.view) q) q) z)
    → (view_after pt.view l).known ≡ at_record pt.view.known pt.view.acting q Here → Spares pt.view (view_after pt.view l) p
home_spares pt i is q p l h apart quiet off known =
    let v = pt.view in
    let u = home_again (handled_first v) q in
    spares_line v l p quiet
    (λ j t z told b a st.
    let was : standing u j z ≡ standing v j z = ap (times j) (home_off (handled_first v) q z ∙ first_off v i is h.front z) ∙ handled_spots v i j (h.others p j t apart told b a) z in
    let (y, s) = released_on u q j z (subst (λ n. 1 ≤ n) (sym was) st) in
    (y, subst (λ n. 1 ≤ n) (sym (ap (times j) (off y))) s))
    (λ m e. ap is_settled (ap (λ (f : ℕ → Pid → Known). f m p) known ∙ record_off v.known v.acting q Here m p apart) ∙ e)

-- its request is answered, if it followed one
asker_marks : (p : Pid) (o : Option MoveNote) (r : Outcome) → marks_of p (tells_asker o r) ≡ []
asker_marks p None r = refl
asker_marks p (Some n) r = refl

asker_mild : (p : Pid) (o : Option MoveNote) (r : Outcome) → AllMild p None (tells_asker o r)
asker_mild p None r = tt
asker_mild p (Some n) r = (tt, (tt, tt))

pub home_known : (pt : Point) (l : Line) (o : Option MoveNote) (r : Outcome) (w : Spelled) (q : Pid) → label_of l ≡ None → (view_after pt.view l).known ≡ at_record pt.view.known pt.view.acting q Here
    → spelled pt (Says l ∷ tells_asker o r) ≡ Some w → w.point.view.known pt.view.acting q ≡ Here
home_known pt l o r w q none known e = search (arith, line_next, pt.view.acting, asker_known, pt.kernel, at_record_at, pt.view.known)

pub comes_home : (pt : Point) (i : MsgId) (is : List MsgId) (q : Pid) (l : Line) (a : Option MoveNote) (r : Outcome) (ns : List Mark) (x : Option Mark) (w : Spelled) → Handling pt i is q → label_of l ≡ None → is_put l ≡ false → touches l ≡ false
    → ((z : Spot) → ids_at (view_after pt.view l) z ≡ ids_at (released (home_again (handled_first pt.view) q) q) z)
    → (view_after pt.view l).known ≡ at_record pt.view.known pt.view.acting q Here → ((p : Pid) → pid_eq q p ≡ false → with_mark p l [] ≡ []) → with_mark q l [] ≡ ns → HasMark pt.view q x → in_order x ns ≡ true → open_after x ns ≡ None
    → spelled pt (Says l ∷ tells_asker a r) ≡ Some w → Row pt.view w.point.view q (λ p. marks_of p (Says l ∷ tells_asker a r))
comes_home pt i is q l a r ns x w h none quiet calm off known unmarked marked before order ends e = record {
  others = λ p apart. (
    ap (with_mark p l) (asker_marks p a r) ∙ unmarked p apart,
    line_and_parts pt p l (tells_asker a r) w none quiet calm h.sane h.fits (home_spares pt i is q p l h apart quiet off known) (asker_mild p a r) e,
  );
  mine = some_marked pt.view w.point.view q (marks_of q (Says l ∷ tells_asker a r)) ns x None (ap (with_mark q l) (asker_marks q a r) ∙ marked) before (here_mark w.point.view q pt.view.acting (home_known pt l a r w q none known e)) order ends;
}

-- wherever its request stood, if the others are left alone
-- a process is frozen
pub sets_row : (pt : Point) (q : Pid) (to : ℕ) (w : Spelled) → Sane pt → PairsFit pt.view → pt.view.known pt.view.acting q ≡ Here
    → ((p : Pid) → pid_eq q p ≡ false → Spares pt.view (view_after pt.view (Line.Migration Stage.Frozen q)) p) → spelled pt (freezes q to) ≡ Some w
    → Row pt.view w.point.view q (λ p. marks_of p (freezes q to))
sets_row pt q to w sane fits here spared e =
    let v = pt.view in
    let l = Line.Migration Stage.Frozen q in
    let k = Line.Migration Stage.Asked q in
    let ps = Says k ∷ to_kernel MessageKind.Ask to ∷ [] in
    let next = moved pt l pt.kernel in
    let n = line_next pt l ps w refl e in
    let last = moved next k next.kernel in
    let o = line_next next k (to_kernel MessageKind.Ask to ∷ []) n.rest refl n.more in
    let sane_ = line_sane next k refl refl (line_sane pt l refl refl sane) in
    let token : TokenOf w.point.view q MessageKind.Ask = subst (λ (y : Point). TokenOf y.view q MessageKind.Ask) (o.point ∙ n.point)
    (owns_token last MessageKind.Ask q to o.rest sane_ (line_fits next next.kernel k refl (line_fits pt pt.kernel l refl fits)) refl (sets v q v.topic).topic (no_piece last.view q MessageKind.Ask to refl refl) o.more) in
    let frozen_marked : marks_of q (freezes q to) ≡ Reached 1 ∷ Reached 2 ∷ [] = mark_same q (Reached 1) (mark_for q q (Reached 2) []) ∙ ap (λ (ms : List Mark). Reached 1 ∷ ms) (mark_same q (Reached 2) []) in
    record {
      others = λ p apart. ((let e_ : marks_of p (freezes q to) ≡ [] = grind (arith, nat_tests, pid_eq-swap, mark_other) in e_), line_and_parts pt p l ps w refl refl refl sane fits (spared p apart) (apart, (tt, tt)) e);
      mine = some_marked v w.point.view q (marks_of q (freezes q to)) (Reached 1 ∷ Reached 2 ∷ []) None (Some (Reached 2)) frozen_marked (here_mark v q v.acting here) (token_mark w.point.view q MessageKind.Ask token) refl refl;
    }

pub freezes_row : (pt : Point) (i : MsgId) (is : List MsgId) (q : Pid) (to : ℕ) (w : Spelled) → Handling pt i is q → pt.view.topic ≡ NothingElse → pt.view.known pt.view.acting q ≡ Here → spelled pt (freezes q to) ≡ Some w
    → Row pt.view w.point.view q (λ p. marks_of p (freezes q to))
freezes_row pt i is q to w h topic here =
    let v = pt.view in
    let l = Line.Migration Stage.Frozen q in
    sets_row pt q to w h.sane h.fits here
    (λ p apart. first_spares pt i is q p l h apart refl (λ z. frozen_off v q topic z ∙ first_off v i is h.front z) (λ m. ap (λ (f : ℕ → Pid → Known). f m p) (sets v q v.topic).known ∙ record_off v.known v.acting q (Frozen (aim v v.topic)) m p apart))

-- behind the line that says that it is asked to move
pub setting_row : (pt : Point) (q : Pid) (to : ℕ) (w : Spelled) → Sane pt → PairsFit pt.view → pt.view.topic ≡ Target to → pt.view.known pt.view.acting q ≡ Here → spelled pt (freezes q to) ≡ Some w
    → Row pt.view w.point.view q (λ p. marks_of p (freezes q to))
setting_row pt q to w sane fits topic here =
    let v = pt.view in
    let l = Line.Migration Stage.Frozen q in
    sets_row pt q to w sane fits here (λ p apart. spares_line v l p refl (λ j t z told b a st. same_spot v (view_after v l) j z (ap (times j) (asked_off v q to topic z)) st)
    (λ m e. ap is_settled (ap (λ (f : ℕ → Pid → Known). f m p) (sets v q v.topic).known ∙ record_off v.known v.acting q (Frozen (aim v v.topic)) m p apart) ∙ e))

-- its lists go on, and it leaves
abbrev pub departs : Pid → ℕ → List MsgId → ℕ → List Part
departs q to ids from = Says (Line.SentOn q (length ids)) ∷ sends_on to ids ++ Says (Line.Migration Stage.Left q) ∷ to_kernel MessageKind.Restart from ∷ []

departs_marks : (p q : Pid) (to : ℕ) (ids : List MsgId) (from : ℕ) → marks_of p (departs q to ids from) ≡ mark_for p q (Reached 6) (mark_for p q (Reached 7) [])
departs_marks p q to ids from = ap (mark_for p q (Reached 6)) (marks_sent p to ids (Says (Line.Migration Stage.Left q) ∷ to_kernel MessageKind.Restart from ∷ []))

-- what is of the protocol stands in no list
sent_spot : (pt : Point) (i : MsgId) (is : List MsgId) (q p : Pid) (n : ℕ) (j : MsgId) (t : Told) (z : Spot) → Handling pt i is q → InPhases pt.view → pid_eq q p ≡ false → pt.view.told j ≡ Some t → is_between t.kind ≡ true → t.about ≡ Of p → 1 ≤ standing pt.view j z
    → (y : Spot) × (1 ≤ standing (view_after pt.view (Line.SentOn q n)) j y)
sent_spot pt i is q p n j t (Queue m r) h phases apart told b a st = absurd (false≢true (sym (queued_plain pt.view m r j t phases told st) ∙ b))
sent_spot pt i is q p n j t (Held m r) h phases apart told b a st = absurd (false≢true (sym (held_plain pt.view m r j t phases told st) ∙ b))
sent_spot pt i is q p n j t (Inbox m) h phases apart told b a st =
    same_spot pt.view (view_after pt.view (Line.SentOn q n)) j (Inbox m) (ap (times j) (first_off pt.view i is h.front (Inbox m)) ∙ handled_spots pt.view i j (h.others p j t apart told b a) (Inbox m)) st
sent_spot pt i is q p n j t (Untaken c d) h phases apart told b a st = (Untaken c d, st)

sent_mild : (p : Pid) (to : ℕ) (ids : List MsgId) (ps : List Part) → AllMild p None ps → AllMild p None (sends_on to ids ++ ps)
sent_mild p to [] ps h = h
sent_mild p to (i ∷ is) ps h = (tt, sent_mild p to is ps h)

only_sent : (p : Pid) (to : ℕ) (ids : List MsgId) → AllMild p None (sends_on to ids)
only_sent p to [] = tt
only_sent p to (i ∷ is) = (tt, only_sent p to is)

pub departs_row : (pt : Point) (i : MsgId) (is : List MsgId) (q : Pid) (to : ℕ) (ids : List MsgId) (from : ℕ) (w : Spelled) → Handling pt i is q → InPhases pt.view → HasMark pt.view q (Some (Reached 5)) → spelled pt (departs q to ids from) ≡ Some w
    → Row pt.view w.point.view q (λ p. marks_of p (departs q to ids from))
departs_row pt i is q to ids from w h phases before e =
    let v = pt.view in
    let l = Line.SentOn q (length ids) in
    let k = Line.Migration Stage.Left q in
    let end = Says k ∷ to_kernel MessageKind.Restart from ∷ [] in
    let n = line_next pt l (sends_on to ids ++ end) w refl e in
    let next = moved pt l pt.kernel in
    let s = split (sends_on to ids) end next n.rest n.more in
    let start : Kept next.view q None next = record { spares = spares_same next.view q; sane = line_sane pt l refl refl h.sane; fits = line_fits pt pt.kernel l refl h.fits; tame = λ j e. cc } in
    let kept = parts_spare q None (sends_on to ids) next.view next s.mid (only_sent q to ids) start s.first in
    let mid = s.mid.point in
    let last = moved mid k mid.kernel in
    let o = line_next mid k (to_kernel MessageKind.Restart from ∷ []) s.rest refl s.more in
    let token : TokenOf w.point.view q MessageKind.Restart = subst (λ (y : Point). TokenOf y.view q MessageKind.Restart) (o.point ∙ s.point ∙ n.point)
    (owns_token last MessageKind.Restart q from o.rest (line_sane mid k refl refl kept.sane) (line_fits mid mid.kernel k refl kept.fits) refl refl (no_piece last.view q MessageKind.Restart from refl refl) o.more) in
    let departs_marked : (q : Pid) (to : ℕ) (ids : List MsgId) (from : ℕ) → marks_of q (departs q to ids from) ≡ Reached 6 ∷ Reached 7 ∷ [] =
    λ q to ids from. departs_marks q q to ids from ∙ mark_same q (Reached 6) (mark_for q q (Reached 7) []) ∙ ap (λ (ms : List Mark). Reached 6 ∷ ms) (mark_same q (Reached 7) []) in
    record {
      others = λ p apart. (
        (let e_ : marks_of p (departs q to ids from) ≡ [] = grind (arith, nat_tests, pid_eq-swap, departs_marks, mark_other) in e_),
        line_and_parts pt p l (sends_on to ids ++ end) w refl refl refl h.sane h.fits (spares_line v l p refl (λ j t z told b a st. sent_spot pt i is q p (length ids) j t z h phases apart told b a st) (λ m e. e)) (sent_mild p to ids end (apart, (tt, tt))) e,
      );
      mine = some_marked v w.point.view q (marks_of q (departs q to ids from)) (Reached 6 ∷ Reached 7 ∷ []) (Some (Reached 5)) (Some (Reached 7)) (departs_marked q to ids from) before (token_mark w.point.view q MessageKind.Restart token) refl refl;
    }

-- the message about a process at the front
pub record Heard (pt : Point) (i : MsgId) (is : List MsgId) (t : Told) (q : Pid) : Type 0 where
  pub at : Handling pt i is q
  pub phases : InPhases pt.view
  pub told : pt.view.told i ≡ Some t
  pub about : t.about ≡ Of q
  pub awaited : IsAwaited pt.view q i t
  -- a piece comes from where the process is awaited, or is asked for by the machine that awaits it
  pub waits : brings_piece (sort_of t.kind) ≡ true → pt.view.known pt.view.acting q ≡ Incoming i.from.home
  pub asks : pulls_piece (sort_of t.kind) ≡ true → pt.view.known i.from.home q ≡ Incoming pt.view.acting

-- as the one message that is under way
pub heard_due : (pt : Point) (i : MsgId) (is : List MsgId) (t : Told) (q : Pid) → Handling pt i is q → (h : InPhases pt.view) → pt.view.told i ≡ Some t → t.about ≡ Of q → Due pt i t h → Heard pt i is t q
heard_due pt i is t q at_ h told about u =
    let v = pt.view in
    let same : u.p ≡ q = of_same u.p q (sym (ap (λ (x : Told). x.about) u.told) ∙ about) in
    let in_ : IsIn v u.p (Moves u.k u.s u.d (Some i)) = subst (IsIn v u.p) u.phase (h.each u.p) in
    let mine : IsAwaited v u.p i t = subst (IsAwaited v u.p i) (sym u.told) (λ m n piece from was. phase_awaited v u.p u.k u.s u.d i in_ m n piece from was) in
    let kind_is : t.kind ≡ u.k = ap (λ (x : Told). x.kind) u.told in
    let known : is_piece u.k ≡ true → v.known u.d q ≡ Incoming u.s = λ piece. subst (λ (x : Pid). v.known u.d x ≡ Incoming u.s) same (phase_awaited v u.p u.k u.s u.d i in_ u.s u.d piece u.from refl) in
    let home : i.from.home ≡ sender_in u.k u.s u.d = ap (λ (x : Pid). x.home) u.from in
    record {
      at = at_;
      phases = h;
      told = told;
      about = about;
      awaited = subst (λ (x : Pid). IsAwaited v x i t) same mine;
      waits = λ brings. (
          let b : brings_piece (sort_of u.k) ≡ true = ap (λ (k : MessageKind). brings_piece (sort_of k)) (sym kind_is) ∙ brings in
          let ways = piece_ways u.k u.s u.d b in
          subst (λ (m : ℕ). v.known m q ≡ Incoming i.from.home) (sym (u.acting ∙ ways.1)) (subst (λ (n : ℕ). v.known u.d q ≡ Incoming n) (sym (home ∙ ways.0)) (known (brings_is_piece u.k b)))
          );
      asks = λ pulls. (
          let b : pulls_piece (sort_of u.k) ≡ true = ap (λ (k : MessageKind). pulls_piece (sort_of k)) (sym kind_is) ∙ pulls in
          let ways = pull_ways u.k u.s u.d b in
          subst (λ (m : ℕ). v.known m q ≡ Incoming v.acting) (sym (home ∙ ways.0)) (subst (λ (n : ℕ). v.known u.d q ≡ Incoming n) (sym (u.acting ∙ ways.1)) (known (pulls_is_piece u.k b)))
          );
    }

abbrev MarkedBy : Point → Spelled → List Part → Type 0
MarkedBy pt w parts = (p : Pid) → Marked pt.view w.point.view p (marks_of p parts)

heard_mark : (pt : Point) (i : MsgId) (is : List MsgId) (t : Told) (q : Pid) (k : MessageKind) → Heard pt i is t q → t.kind ≡ k → is_between k ≡ true → HasMark pt.view q (mark_of k)
heard_mark pt i is t q k h e between =
    subst (λ (x : MessageKind). HasMark pt.view q (mark_of x)) e (token_mark pt.view q t.kind (front_token pt.view i is t q h.at.front h.told (ap is_between e ∙ between) h.about h.awaited))

unmarked : (q : Pid) (m : Mark) (p : Pid) → pid_eq q p ≡ false → mark_for p q m [] ≡ []
unmarked q m p e = mark_other p q m [] (pid_eq-swap p q ∙ e)

given : (pt : Point) (w : Spelled) (qs ps : List Part) → Some qs ≡ Some ps → (spelled pt qs ≡ Some w → MarkedBy pt w qs) → spelled pt ps ≡ Some w → MarkedBy pt w ps
given pt w qs ps e h n = let f : qs ≡ ps = cc in subst (MarkedBy pt w) f (h (ap (spelled pt) f ∙ n))

-- a step is made, and answered
step_row : (pt : Point) (i : MsgId) (is : List MsgId) (t : Told) (q : Pid) (l : Line) (m : Mark) (j k : MessageKind) (w : Spelled) → Heard pt i is t q → t.kind ≡ j → is_between j ≡ true → label_of l ≡ None → is_put l ≡ false → touches l ≡ false
    → ((z : Spot) → ids_at (view_after pt.view l) z ≡ ids_at (handled_first pt.view) z) → ((n : ℕ) (r : Pid) → pid_eq q r ≡ false → (view_after pt.view l).known n r ≡ pt.view.known n r) → (view_after pt.view l).topic ≡ Of q → is_between k ≡ true
    → ((r : Pid) → with_mark r l [] ≡ mark_for r q m []) → in_order (mark_of j) (m ∷ []) ≡ true → open_after (mark_of j) (m ∷ []) ≡ mark_of k → Expects (view_after pt.view l) q k i.from.home → spelled pt (Says l ∷ to_kernel k i.from.home ∷ []) ≡ Some w → MarkedBy pt w (Says l ∷ to_kernel k i.from.home ∷ [])
step_row pt i is t q l m j k w h e between none quiet calm off known topic next marked order ends expects n p =
    let v = pt.view in
    row_marked v w.point.view q (λ r. with_mark r l [])
    (answer pt i is q l k i.from.home (m ∷ []) (mark_of j) w h.at none quiet calm (λ z. off z ∙ first_off v i is h.at.front z) known topic next (λ r apart. marked r ∙ unmarked q m r apart)
    (marked q ∙ mark_same q m []) (heard_mark pt i is t q j h e between) order ends expects n) p

-- a machine takes the process, or says what is free
asked_row : (pt : Point) (i : MsgId) (is : List MsgId) (t : Told) (q : Pid) (room : Bool) (slots blocks : ℕ) (w : Spelled) → Heard pt i is t q → t.kind ≡ MessageKind.Ask → spelled pt (accepts i.from.home q room slots blocks) ≡ Some w → MarkedBy pt w (accepts i.from.home q room slots blocks)
asked_row pt i is t q true slots blocks w h e =
    step_row pt i is t q (Line.Migration Stage.Accepted q) (Reached 3) MessageKind.Ask MessageKind.PullState w h e refl refl refl refl (accepted_off pt.view q)
    (λ m r apart. record_off pt.view.known pt.view.acting q (Incoming (front_of (pt.view.inbox pt.view.acting))) m r apart) refl refl (λ r. refl) refl refl
    (record { pulls = λ pulls. at_record_at pt.view.known pt.view.acting q (Incoming (front_of (pt.view.inbox pt.view.acting))) ∙ ap (λ (xs : List MsgId). Incoming (front_of xs)) h.at.front; brings = λ brings. absurd (false≢true brings) })
asked_row pt i is t q false slots blocks w h e =
    step_row pt i is t q (Line.Lacks q slots blocks) Lacking MessageKind.Ask MessageKind.Refuse w h e refl refl refl refl (lacks_off pt.view q slots blocks) (λ m r apart. refl) refl refl (λ r. refl) refl refl
    (no_piece (view_after pt.view (Line.Lacks q slots blocks)) q MessageKind.Refuse i.from.home refl refl)

-- a piece goes or comes, and says no more than that
proto_row : (pt : Point) (i : MsgId) (is : List MsgId) (t : Told) (q : Pid) (j k : MessageKind) (w : Spelled) → Heard pt i is t q → t.kind ≡ j → is_between j ≡ true → is_between k ≡ true → mark_of j ≡ mark_of k → Expects pt.view q k i.from.home
    → spelled pt (Says (Line.Proto i) ∷ Owns k (pid_of i.from.home 0) i.from.home ∷ []) ≡ Some w → MarkedBy pt w (Says (Line.Proto i) ∷ Owns k (pid_of i.from.home 0) i.from.home ∷ [])
proto_row pt i is t q j k w h e between next same expects n p =
    let v = pt.view in
    let known : (m : ℕ) (r : Pid) → (view_after v (Line.Proto i)).known m r ≡ v.known m r = λ m r. proto_known (handled v i) (v.told i) m r in
    let acting : (view_after v (Line.Proto i)).acting ≡ v.acting = proto_acting (handled v i) (v.told i) in
    let still : Expects (view_after v (Line.Proto i)) q k i.from.home = record {
      pulls = λ pulls. known (view_after v (Line.Proto i)).acting q ∙ ap (λ (m : ℕ). v.known m q) acting ∙ expects.pulls pulls;
      brings = λ brings. known i.from.home q ∙ expects.brings brings ∙ ap Incoming (sym acting);
    } in
    row_marked v w.point.view q (λ r. [])
    (answer pt i is q (Line.Proto i) k i.from.home [] (mark_of j) w h.at refl refl refl (λ z. proto_off (handled v i) (v.told i) z) (λ m r apart. proto_known (handled v i) (v.told i) m r)
    (let e_ : (view_after pt.view (Line.Proto i)).topic ≡ Of q = search in e_) next (λ r apart. refl) refl (heard_mark pt i is t q j h e between) refl same still n) p

-- the last chunk of a server: behind step 4, which handles no message, step 5 handles it
server_spares : (pt : Point) (i : MsgId) (is : List MsgId) (t : Told) (q p : Pid) (b : ℕ) (w : Spelled) → Heard pt i is t q → is_server q ≡ true → pid_eq q p ≡ false → spelled pt (last_chunk q b) ≡ Some w → Spares pt.view w.point.view p
server_spares pt i is t q p b w h server apart e =
    let v = pt.view in
    let l = Line.Migration Stage.StateTaken q in
    let k = Line.Migration Stage.MemoryTaken q in
    let end = to_kernel MessageKind.AllTaken b ∷ [] in
    let n = line_next pt l (Says k ∷ end) w refl e in
    let next = moved pt l pt.kernel in
    let u = next.view in
    let sane = line_sane pt l refl refl h.at.sane in
    let fits = line_fits pt pt.kernel l refl h.at.fits in
    let front = state_front v q i is server h.at.front in
    let handling : Handling next i is q = record { sane = sane; fits = fits; front = front; others = about_others u i t q (told_by v l refl i ∙ h.told) h.about } in
    let first : Spares v u p = spares_line v l p refl (λ j a z told b_ of st. same_spot v u j z (ap (times j) (state_stays v q z server)) st) (λ m known. known) in
    let rest : Spares u n.rest.point.view p = line_and_parts next p k end n.rest refl refl refl sane fits (first_spares next i is q p k handling apart refl (λ z. memory_off u q z ∙ first_off u i is front z) (λ m. refl)) (tt, tt) n.more in
    subst (λ (x : Point). Spares v x.view p) n.point (spares_trans v u n.rest.point.view p first rest)

server_row : (pt : Point) (i : MsgId) (is : List MsgId) (t : Told) (q : Pid) (b : ℕ) (w : Spelled) → Heard pt i is t q → t.kind ≡ MessageKind.State → is_server q ≡ true → spelled pt (last_chunk q b) ≡ Some w → Row pt.view w.point.view q (λ p. marks_of p (last_chunk q b))
server_row pt i is t q b w h kind server e =
    let v = pt.view in
    let l = Line.Migration Stage.StateTaken q in
    let k = Line.Migration Stage.MemoryTaken q in
    let end = to_kernel MessageKind.AllTaken b ∷ [] in
    let n = line_next pt l (Says k ∷ end) w refl e in
    let next = moved pt l pt.kernel in
    let o = line_next next k end n.rest refl n.more in
    let last = moved next k next.kernel in
    let sane_ = line_sane next k refl refl (line_sane pt l refl refl h.at.sane) in
    let token : TokenOf w.point.view q MessageKind.AllTaken = subst (λ (y : Point). TokenOf y.view q MessageKind.AllTaken) (o.point ∙ n.point)
    (owns_token last MessageKind.AllTaken q b o.rest sane_ (line_fits next next.kernel k refl (line_fits pt pt.kernel l refl h.at.fits)) refl refl (no_piece last.view q MessageKind.AllTaken b refl refl) o.more) in
    let server_marked : marks_of q (last_chunk q b) ≡ Reached 4 ∷ Reached 5 ∷ [] = mark_same q (Reached 4) (mark_for q q (Reached 5) []) ∙ ap (λ (ms : List Mark). Reached 4 ∷ ms) (mark_same q (Reached 5) []) in
    record {
      others = λ p apart. ((let e_ : marks_of p (last_chunk q b) ≡ [] = grind (arith, nat_tests, pid_eq-swap, mark_other) in e_), server_spares pt i is t q p b w h server apart e);
      mine = some_marked v w.point.view q (marks_of q (last_chunk q b)) (Reached 4 ∷ Reached 5 ∷ []) (Some (Reached 3)) (Some (Reached 5)) server_marked (heard_mark pt i is t q MessageKind.State h kind refl) (token_mark w.point.view q MessageKind.AllTaken token) refl refl;
    }

last_row : (pt : Point) (i : MsgId) (is : List MsgId) (t : Told) (q : Pid) (c : Bool) (w : Spelled) → Heard pt i is t q → t.kind ≡ MessageKind.State → is_server q ≡ c
    → spelled pt (if c then last_chunk q i.from.home else Says (Line.Migration Stage.StateTaken q) ∷ to_kernel MessageKind.PullBlock i.from.home ∷ []) ≡ Some w
    → MarkedBy pt w (if c then last_chunk q i.from.home else Says (Line.Migration Stage.StateTaken q) ∷ to_kernel MessageKind.PullBlock i.from.home ∷ [])
last_row pt i is t q true w h e server n = row_marked pt.view w.point.view q (λ r. marks_of r (last_chunk q i.from.home)) (server_row pt i is t q i.from.home w h e server n)
last_row pt i is t q false w h e free n =
    let v = pt.view in
    let l = Line.Migration Stage.StateTaken q in
    step_row pt i is t q l (Reached 4) MessageKind.State MessageKind.PullBlock w h e refl refl refl refl (λ z. state_goes v q z free) (λ m r apart. refl) refl refl (λ r. refl) refl refl
    (record { pulls = λ pulls. h.waits (ap (λ (k : MessageKind). brings_piece (sort_of k)) e); brings = λ brings. absurd (false≢true brings) }) n

chunk_row : (pt : Point) (i : MsgId) (is : List MsgId) (t : Told) (q : Pid) (last : Bool) (w : Spelled) → Heard pt i is t q → t.kind ≡ MessageKind.State → spelled pt (takes_chunk i q last) ≡ Some w → MarkedBy pt w (takes_chunk i q last)
chunk_row pt i is t q true w h e = last_row pt i is t q (is_server q) w h e refl
chunk_row pt i is t q false w h e = proto_row pt i is t q MessageKind.State MessageKind.PullState w h e refl refl refl
    (record { pulls = λ pulls. h.waits (ap (λ (k : MessageKind). brings_piece (sort_of k)) e); brings = λ brings. absurd (false≢true brings) })

block_row : (pt : Point) (i : MsgId) (is : List MsgId) (t : Told) (q : Pid) (last : Bool) (w : Spelled) → Heard pt i is t q → t.kind ≡ MessageKind.Memory → spelled pt (takes_block i q last) ≡ Some w → MarkedBy pt w (takes_block i q last)
block_row pt i is t q true w h e = step_row pt i is t q (Line.Migration Stage.MemoryTaken q) (Reached 5) MessageKind.Memory MessageKind.AllTaken w h e refl refl refl refl (memory_off pt.view q) (λ m r apart. refl) refl refl (λ r. refl) refl refl
    (no_piece (view_after pt.view (Line.Migration Stage.MemoryTaken q)) q MessageKind.AllTaken i.from.home refl refl)
block_row pt i is t q false w h e = proto_row pt i is t q MessageKind.Memory MessageKind.PullBlock w h e refl refl refl
    (record { pulls = λ pulls. h.waits (ap (λ (k : MessageKind). brings_piece (sort_of k)) e); brings = λ brings. absurd (false≢true brings) })

-- it stays, and it is restarted
stays_row : (pt : Point) (i : MsgId) (is : List MsgId) (t : Told) (q : Pid) (j : MessageKind) (a : Option MoveNote) (w : Spelled) → Heard pt i is t q → t.kind ≡ j → is_between j ≡ true → in_order (mark_of j) (Staying ∷ []) ≡ true → spelled pt (Says (Line.Stays q) ∷ tells_asker a Outcome.Stayed) ≡ Some w
    → MarkedBy pt w (Says (Line.Stays q) ∷ tells_asker a Outcome.Stayed)
stays_row pt i is t q j a w h e between order n p =
    row_marked pt.view w.point.view q (λ r. marks_of r (Says (Line.Stays q) ∷ tells_asker a Outcome.Stayed))
    (comes_home pt i is q (Line.Stays q) a Outcome.Stayed (Staying ∷ []) (mark_of j) w h.at refl refl refl (λ z. refl) refl (λ r apart. unmarked q Staying r apart) (mark_same q Staying []) (heard_mark pt i is t q j h e between) order refl n) p

restarted_row : (pt : Point) (i : MsgId) (is : List MsgId) (t : Told) (q : Pid) (a : Option MoveNote) (w : Spelled) → Heard pt i is t q → t.kind ≡ MessageKind.Restart
    → spelled pt (Says (Line.Migration Stage.Restarted q) ∷ tells_asker a Outcome.Done) ≡ Some w
    → MarkedBy pt w (Says (Line.Migration Stage.Restarted q) ∷ tells_asker a Outcome.Done)
restarted_row pt i is t q a w h e n p =
    row_marked pt.view w.point.view q (λ r. marks_of r (Says (Line.Migration Stage.Restarted q) ∷ tells_asker a Outcome.Done))
    (comes_home pt i is q (Line.Migration Stage.Restarted q) a Outcome.Done (Reached 8 ∷ []) (Some (Reached 7)) w h.at refl refl refl (λ z. restarted_off pt.view q z) refl (λ r apart. unmarked q (Reached 8) r apart) (mark_same q (Reached 8) []) (heard_mark pt i is t q MessageKind.Restart h e refl) refl refl n) p

-- all is taken
leaves_row : (pt : Point) (i : MsgId) (is : List MsgId) (t : Told) (q : Pid) (ids : List MsgId) (k : Known) (parts : List Part) (w : Spelled) → Heard pt i is t q → t.kind ≡ MessageKind.AllTaken → leaves i q ids k ≡ Some parts → spelled pt parts ≡ Some w → MarkedBy pt w parts
leaves_row pt i is t q ids (Frozen to) parts w h e f n =
    given pt w (departs q to ids i.from.home) parts f
    (λ m p. row_marked pt.view w.point.view q (λ r. marks_of r (departs q to ids i.from.home)) (departs_row pt i is q to ids i.from.home w h.at h.phases (heard_mark pt i is t q MessageKind.AllTaken h e refl) m) p) n
leaves_row pt i is t q ids _ parts w h e f n = cc

-- a piece is sent to the machine that asked for it
sends_piece : (pt : Point) (i : MsgId) (is : List MsgId) (t : Told) (q : Pid) (j k : MessageKind) → Heard pt i is t q → t.kind ≡ j → pulls_piece (sort_of j) ≡ true → pulls_piece (sort_of k) ≡ false → Expects pt.view q k i.from.home
sends_piece pt i is t q j k h e pulls none = record { pulls = λ x. absurd (false≢true (sym none ∙ x)); brings = λ brings. h.asks (ap (λ (x : MessageKind). pulls_piece (sort_of x)) e ∙ pulls) }

-- by its kind
pub told_marked : (o pt : Point) (m : ℕ) (i : MsgId) (is : List MsgId) (t : Told) (q : Pid) (room : Bool × ℕ × ℕ) (x : Size) (k : MessageKind) (parts : List Part) (w : Spelled) → Heard pt i is t q → t.kind ≡ k → told_step o m i q room x (sort_of k) ≡ Some parts → spelled pt parts ≡ Some w
    → (p : Pid) → Marked pt.view w.point.view p (marks_of p parts)
told_marked o pt m i is t q room x MessageKind.Ask parts w h e g n = given pt w (accepts i.from.home q room.0 room.1 room.2) parts g (λ s. asked_row pt i is t q room.0 room.1 room.2 w h e s) n
told_marked o pt m i is t q room x MessageKind.Refuse parts w h e g n = given pt w (Says (Line.Stays q) ∷ tells_asker (o.kernel.notes q) Outcome.Stayed) parts g (λ s. stays_row pt i is t q MessageKind.Refuse (o.kernel.notes q) w h e refl refl s) n
told_marked o pt m i is t q room x MessageKind.CallOff parts w h e g n = given pt w (Says (Line.Stays q) ∷ tells_asker (o.kernel.notes q) Outcome.Stayed) parts g (λ s. stays_row pt i is t q MessageKind.CallOff (o.kernel.notes q) w h e refl refl s) n
told_marked o pt m i is t q room x MessageKind.PullState parts w h e g n = given pt w (gives_piece i MessageKind.State) parts g (λ s. proto_row pt i is t q MessageKind.PullState MessageKind.State w h e refl refl refl (sends_piece pt i is t q MessageKind.PullState MessageKind.State h e refl refl) s) n
told_marked o pt m i is t q room x MessageKind.State parts w h e g n = given pt w (takes_chunk i q (o.view.asked q == chunks_of x)) parts g (λ s. chunk_row pt i is t q (o.view.asked q == chunks_of x) w h e s) n
told_marked o pt m i is t q room x MessageKind.PullBlock parts w h e g n = given pt w (gives_piece i MessageKind.Memory) parts g (λ s. proto_row pt i is t q MessageKind.PullBlock MessageKind.Memory w h e refl refl refl (sends_piece pt i is t q MessageKind.PullBlock MessageKind.Memory h e refl refl) s) n
told_marked o pt m i is t q room x MessageKind.Memory parts w h e g n = given pt w (takes_block i q (o.view.asked q == pieces_of x)) parts g (λ s. block_row pt i is t q (o.view.asked q == pieces_of x) w h e s) n
told_marked o pt m i is t q room x MessageKind.AllTaken parts w h e g n = leaves_row pt i is t q (o.view.queue m q ++ o.view.held m q) (o.view.known m q) parts w h e g n
told_marked o pt m i is t q room x MessageKind.Restart parts w h e g n = given pt w (Says (Line.Migration Stage.Restarted q) ∷ tells_asker (o.kernel.notes q) Outcome.Done) parts g (λ s. restarted_row pt i is t q (o.kernel.notes q) w h e s) n
told_marked o pt m i is t q room x _ parts w h e g n = cc

-- a migration is called off: what was held goes back, and the other machine is told
called_marks : (p q : Pid) (ids : List MsgId) (from : ℕ) → marks_of p (called_parts q ids from) ≡ mark_for p q Calling []
called_marks p q ids from = ap (mark_for p q Calling) (marks_sent p from ids (to_kernel MessageKind.CallOff from ∷ []))

-- its last step was 3 or 4, where it is on its way and not all of it has come
calls_in_order : (v : View) (q : Pid) (m from : ℕ) (a : Phase) → IsIn v q a → is_due a ≡ false → v.known m q ≡ Incoming from → v.come q ≡ false → in_order (mark_in a) (Calling ∷ []) ≡ true
calls_in_order v q m from (Moves k s d o) h due is come = by_kind k (left_true (is_between k) (not (s == d)) h.apart) (comes_in m (s == m) (d == m) refl refl (sym (ap (λ (x : Known). knows (Moves k s d o) m x) is) ∙ h.known m)) h.come
  where
    comes_in : (n : ℕ) (c e : Bool) → (s == n) ≡ c → (d == n) ≡ e → (if c then kind_leaves k d (Incoming from) else if e then kind_comes k s (Incoming from) else is_away (Incoming from)) ≡ true → kind_comes k s (Incoming from) ≡ true
    comes_in n true e f g x = absurd (false≢true x)
    comes_in n false true f g x = x
    comes_in n false false f g x = absurd (false≢true x)

    by_kind : (k : MessageKind) → is_between k ≡ true → kind_comes k s (Incoming from) ≡ true → ComesIn (Moves k s d o) (v.come q) → in_order (mark_of k) (Calling ∷ []) ≡ true
    by_kind MessageKind.PullState b x y = refl
    by_kind MessageKind.State b x y = refl
    by_kind MessageKind.PullBlock b x y = refl
    by_kind MessageKind.Memory b x y = refl
    by_kind MessageKind.AllTaken b x y = absurd (false≢true (sym come ∙ y))
    by_kind MessageKind.Restart b x y = absurd (false≢true (sym come ∙ y))
    by_kind MessageKind.Ask b x y = absurd (false≢true x)
    by_kind MessageKind.Refuse b x y = absurd (false≢true x)
    by_kind MessageKind.CallOff b x y = absurd (false≢true x)
    by_kind _ b x y = absurd (false≢true b)
calls_in_order v q m from other h due is come = absurd (false≢true (sym (ap is_settled is) ∙ rest_settled other m (v.known m q) due refl (h.known m)))

-- messages that go on leave what the group is about
abbrev GoesOn : Part → Type 0
GoesOn (Again i b) = ⊤
GoesOn _ = ⊥

all_go_on : (to : ℕ) (ids : List MsgId) → All GoesOn (sends_on to ids)
all_go_on to [] = tt
all_go_on to (i ∷ is) = (tt, all_go_on to is)

sent_topic : (to : ℕ) (ids : List MsgId) (pt : Point) (w : Spelled) (a : About) → spelled pt (sends_on to ids) ≡ Some w → pt.view.topic ≡ a → w.point.view.topic ≡ a
sent_topic to ids pt w a is h = parts_lead (λ x. x.view.topic ≡ a) (λ q a b k l h. h) GoesOn by_again (sends_on to ids) pt w (all_go_on to ids) is h
  where
    by_again : (pt : Point) (p : Part) → GoesOn p → pt.view.topic ≡ a → Behind (λ x. x.view.topic ≡ a) pt p
    by_again pt (Again i b) on h = λ t told. h
    by_again pt _ on h = absurd on

-- what is of the protocol stands in no held list
held_spot : (v : View) (q : Pid) (n : ℕ) (j : MsgId) (t : Told) (z : Spot) → InPhases v → v.told j ≡ Some t → is_between t.kind ≡ true → 1 ≤ standing v j z → (y : Spot) × (1 ≤ standing (view_after v (Line.Called q n)) j y)
held_spot v q n j t (Held m r) phases told b st = absurd (false≢true (sym (held_plain v m r j t phases told st) ∙ b))
held_spot v q n j t (Queue m r) phases told b st = (Queue m r, st)
held_spot v q n j t (Inbox m) phases told b st = (Inbox m, st)
held_spot v q n j t (Untaken c d) phases told b st = (Untaken c d, st)

pub called_row : (pt : Point) (q : Pid) (ids : List MsgId) (from : ℕ) (w : Spelled) → Sane pt → PairsFit pt.view → InPhases pt.view → pt.view.known pt.view.acting q ≡ Incoming from → pt.view.come q ≡ false → spelled pt (called_parts q ids from) ≡ Some w
    → Row pt.view w.point.view q (λ p. marks_of p (called_parts q ids from))
called_row pt q ids from w sane fits phases is come e =
    let v = pt.view in
    let l = Line.Called q (length ids) in
    let end = to_kernel MessageKind.CallOff from ∷ [] in
    let n = line_next pt l (sends_on from ids ++ end) w refl e in
    let next = moved pt l pt.kernel in
    let s = split (sends_on from ids) end next n.rest n.more in
    let start : Kept next.view q None next = record { spares = spares_same next.view q; sane = line_sane pt l refl refl sane; fits = line_fits pt pt.kernel l refl fits; tame = λ j e. cc } in
    let kept = parts_spare q None (sends_on from ids) next.view next s.mid (only_sent q from ids) start s.first in
    let mid = s.mid.point in
    let topic : mid.view.topic ≡ Of q = sent_topic from ids next s.mid (Of q) s.first refl in
    let token : TokenOf w.point.view q MessageKind.CallOff = subst (λ (y : Point). TokenOf y.view q MessageKind.CallOff) (s.point ∙ n.point)
    (owns_token mid MessageKind.CallOff q from s.rest kept.sane kept.fits refl topic (no_piece mid.view q MessageKind.CallOff from refl refl) s.more) in
    let mine : marks_of q (called_parts q ids from) ≡ Calling ∷ [] = called_marks q q ids from ∙ mark_same q Calling [] in
    record {
      others = λ p apart. (
        called_marks p q ids from ∙ unmarked q Calling p apart,
        line_and_parts pt p l (sends_on from ids ++ end) w refl refl refl sane fits
            (spares_line v l p refl (λ j t z told b a st. held_spot v q (length ids) j t z phases told b st) (λ m f. ap is_settled (record_off v.known v.acting q (goes_back (v.known v.acting q) (v.moves q)) m p apart) ∙ f))
            (sent_mild p from ids end (tt, tt)) e,
      );
      mine = λ a b h k da db waits. (
        ap (in_order (mark_in a)) mine ∙ calls_in_order v q v.acting from a h da is come,
        ap (open_after (mark_in a)) mine ∙ sym (token_mark w.point.view q MessageKind.CallOff token b k db),
      );
    }
