-- Lines and parts that leave all messages of a sort where they stand: the requests to move a process, of which they end none.
use Rattle.dm_law_moves.proofs.Names.{◌≡◌, ℕ, ◌+◌, ◌&&◌, Bool, false, List, [], ◌∷◌, ◌++◌, refl, ap, ◌∙◌, sym, subst, arith, ⊤, if◌then◌else◌, Option, None, Some, Pid, pid_eq, MsgId, MessageKind, plain_kind, Line, Load, View, Told}
use Rattle.dm_law_moves.proofs.Names.{view_after, own_id, after_put, Point, Part, Says, Routes, Again, Owns, Transmits, Spelled, lines_of, spelled, touches, pair_same, PairsFit, put_told_off, fits_as, fits_put, fits_packet, Sane, Sayable}
use Rattle.dm_law_moves.proofs.Names.{part_sane, put_spots, put_at, Needs, NeedsPart, Walks, Steps, asks, ends, count, packet_off, by_parts, PacketsKeep, OneKernel, label_of, kernel_after, nat_tests, PlainMessage, Loose, moved, About}
use Rattle.dm_law_moves.proofs.Names.{PlainWhat, Label, Here, leaves_for, Stage, handled, receiver_of, times, out_of, gone_in, served_keeps, ended_off, serving_off, created_off, handled_spots, queued_spots, held_spots, dropped_spots}
use Rattle.dm_law_moves.proofs.Names.{forwarded_spots, received_spots, and_false, at_record, Known, Unknown, pid_eq-is, parts, eq_is, queued_known, held_known, dropped_known, forwarded_known, NeedsLabel, killed_or, is_moving, ◌≤◌, true}
use Rattle.dm_law_moves.proofs.Names.{false≢true, id_eq, id_eq-is, Spot, ids_at, standing, is_put, hushed, not_true, about_off, is_away}
pub use Rattle.dm_law_rule.proofs.Phases.Lines.{first_kept}
pub use Rattle.dm_law_rule.proofs.Moves.Rows.{proto_off}
pub use Rattle.dm_law_always.proofs.Found.Parts.{own_fresh as own_untold}
use Rattle.dm_law_rule.specs.View as view
use Rattle.dm_law_rule.specs.Rule as rule
use Rattle.dm_onekernel.specs.Step as kernel
use Rattle.dm_law_moves.proofs.Burials.{buried_spots, buried_same}
use Rattle.dm_law_moves.proofs.Leading.{All, Behind, part_leads, lines_are, fits_about}

abbrev pub is_migrate : MessageKind → Bool
is_migrate MessageKind.Migrate = true
is_migrate _ = false

-- a request to move this process
abbrev pub asks_for : Pid → Told → Bool
asks_for p t = is_migrate t.kind && pid_eq p t.receiver

abbrev pub Somewhere : View → MsgId → Type 0
Somewhere v i = (z : Spot) × (1 ≤ standing v i z)

abbrev pub Extends : (MsgId → Option Told) → (MsgId → Option Told) → Type 0
Extends f g = (i : MsgId) (t : Told) → f i ≡ Some t → g i ≡ Some t

-- each message that is picked is told of as before, and stands somewhere as before
pub record Smooth (picks : Told → Bool) (v w : View) : Type 0 where
  pub kept : Extends v.told w.told
  pub fresh : (i : MsgId) (t : Told) → w.told i ≡ Some t → picks t ≡ true → v.told i ≡ Some t
  pub on : (i : MsgId) (t : Told) → v.told i ≡ Some t → picks t ≡ true → Somewhere v i → Somewhere w i
  pub back : (i : MsgId) (t : Told) → v.told i ≡ Some t → picks t ≡ true → Somewhere w i → Somewhere v i

pub smooth_same : (picks : Told → Bool) (v : View) → Smooth picks v v
smooth_same picks v = record { kept = λ i t e. e; fresh = λ i t e a. e; on = λ i t e a s. s; back = λ i t e a s. s }

pub smooth_trans : (picks : Told → Bool) (u v w : View) → Smooth picks u v → Smooth picks v w → Smooth picks u w
smooth_trans picks u v w h k = grind (arith, nat_tests)

-- what a machine knows of the process makes it wait before and behind, or neither
abbrev pub Still : Pid → View → View → Type 0
Still p v w = (m : ℕ) → is_moving (w.known m p) ≡ is_moving (v.known m p)

-- a message that isn't picked
abbrev pub Plain : (Told → Bool) → View → MsgId → Type 0
Plain picks v i = (t : Told) → v.told i ≡ Some t → picks t ≡ false

pub other_than : (picks : Told → Bool) (v : View) (i j : MsgId) (t : Told) → Plain picks v i → v.told j ≡ Some t → picks t ≡ true → id_eq i j ≡ false
other_than picks v i j t plain told a = not_true (id_eq i j) (λ e. let is : i ≡ j = id_eq-is i j e in false≢true (sym (plain t (ap v.told is ∙ told)) ∙ a))

-- only one message stands elsewhere
pub record Others (v w : View) (i : MsgId) : Type 0 where
  pub told : (j : MsgId) → id_eq i j ≡ false → w.told j ≡ v.told j
  pub spots : (j : MsgId) → id_eq i j ≡ false → (z : Spot) → standing w j z ≡ standing v j z

pub stands_as : (v w : View) (j : MsgId) → ((z : Spot) → standing w j z ≡ standing v j z) → Somewhere v j → Somewhere w j
stands_as v w j e (z, s) = (z, subst (λ n. 1 ≤ n) (sym (e z)) s)

pub stands_was : (v w : View) (j : MsgId) → ((z : Spot) → standing w j z ≡ standing v j z) → Somewhere w j → Somewhere v j
stands_was v w j e (z, s) = (z, subst (λ n. 1 ≤ n) (e z) s)

pub smooth_others : (picks : Told → Bool) (v w : View) (i : MsgId) → Plain picks v i → Plain picks w i → ((t : Told) → v.told i ≡ Some t → w.told i ≡ Some t) → Others v w i → Smooth picks v w
smooth_others picks v w i plain after kept h = grind (arith, nat_tests, id_eq-is, other_than, stands_as, stands_was)

-- nothing stands elsewhere
pub smooth_still : (picks : Told → Bool) (v w : View) → ((i : MsgId) → w.told i ≡ v.told i) → ((i : MsgId) (z : Spot) → standing w i z ≡ standing v i z) → Smooth picks v w
smooth_still picks v w told spots = grind (arith, nat_tests, stands_as, stands_was)

pub told_by : (v : View) (l : Line) → is_put l ≡ false → (j : MsgId) → (view_after v l).told j ≡ v.told j
told_by v l quiet j = ap (λ (f : MsgId → Option Told). f j) (hushed v l quiet).told

-- a line that tells nothing and moves one message
pub hushed_smooth : (picks : Told → Bool) (v : View) (l : Line) (i : MsgId) → is_put l ≡ false → Plain picks v i → ((j : MsgId) → id_eq i j ≡ false → (z : Spot) → standing (view_after v l) j z ≡ standing v j z) → Smooth picks v (view_after v l)
hushed_smooth picks v l i quiet plain spots = grind (arith, nat_tests, told_by, smooth_others)

-- a line that moves none
pub moves_none : (picks : Told → Bool) (v : View) (l : Line) → is_put l ≡ false → ((z : Spot) → ids_at (view_after v l) z ≡ ids_at v z) → Smooth picks v (view_after v l)
moves_none picks v l quiet off = smooth_still picks v (view_after v l) (told_by v l quiet) (λ i z. ap (times i) (off z))

-- a message of the bag is none
pub plain_not : (w : PlainWhat) → is_migrate (plain_kind w) ≡ false
plain_not w = grind (arith, nat_tests)

pub kind_not : (p : Pid) (t : Told) → is_migrate t.kind ≡ false → asks_for p t ≡ false
kind_not p t e = ap (λ (c : Bool). c && pid_eq p t.receiver) e

pub plain_in_bag : (p : Pid) (pt : Point) (i : MsgId) (x : PlainMessage) → Sane pt → pt.kernel.bag i ≡ Some x → Plain (asks_for p) pt.view i
plain_in_bag p pt i x h there t told = kind_not p t (ap is_migrate (h.tells.kind i x t there told) ∙ plain_not x.what)

-- a message that was told of, and is no request to move this process
pub record Tame (p : Pid) (v : View) (i : MsgId) : Type 0 where
  pub what : Told
  pub told : v.told i ≡ Some what
  pub plain : asks_for p what ≡ false

-- one for another
pub record Foreign (p : Pid) (v : View) (i : MsgId) : Type 0 where
  pub what : Told
  pub told : v.told i ≡ Some what
  pub other : pid_eq p what.receiver ≡ false

abbrev pub QuietLine : Pid → View → Line → Type 0
QuietLine p v (Line.Idle m) = ⊤
QuietLine p v (Line.Label l) = ⊤
QuietLine p v (Line.Old a b n) = ⊤
QuietLine p v Line.Nothing = ⊤
QuietLine p v (Line.Resent m n) = ⊤
QuietLine p v (Line.Queued i) = Tame p v i
QuietLine p v (Line.Held i) = Tame p v i
QuietLine p v (Line.Forwarded i m) = Tame p v i
QuietLine p v (Line.Updated i n) = Tame p v i
QuietLine p v (Line.Buried i n) = Tame p v i
QuietLine p v (Line.Proto i) = Tame p v i
QuietLine p v (Line.Here i) = Foreign p v i
QuietLine p v (Line.NoMove i) = Foreign p v i
QuietLine p v (Line.Stale i) = Tame p v i
QuietLine p v (Line.NoChild q) = pid_eq p q ≡ false
QuietLine p v (Line.NoCall q) = ⊤
QuietLine p v Line.Away = ⊤
QuietLine p v (Line.Migration Stage.Asked q) = ⊤
QuietLine p v _ = ⊥

pub told_one : (o : Option Told) (t u : Told) → o ≡ Some t → o ≡ Some u → t ≡ u
told_one o t u e f = let g : Some t ≡ Some u = sym e ∙ f in cc

pub tame_plain : (p : Pid) (v : View) (i : MsgId) → Tame p v i → Plain (asks_for p) v i
tame_plain p v i h t told = subst (λ (s : Told). asks_for p s ≡ false) (told_one (v.told i) h.what t h.told told) h.plain

foreign_plain : (p : Pid) (v : View) (i : MsgId) → Foreign p v i → Plain (asks_for p) v i
foreign_plain p v i h = tame_plain p v i (record { what = h.what; told = h.told; plain = and_false (is_migrate h.what.kind) (pid_eq p h.what.receiver) h.other })

-- what goes by a label was in the bag, and no message of the bag is one of these
abbrev pub SparesBag : (Told → Bool) → Point → Type 0
SparesBag picks pt = (i : MsgId) (x : PlainMessage) → pt.kernel.bag i ≡ Some x → Plain picks pt.view i

gone_plain : (picks : Told → Bool) (pt : Point) (s : OneKernel) (l : Label) (i : MsgId) → SparesBag picks pt → kernel.step pt.kernel l ≡ Some s → out_of l ≡ Some i → Plain picks pt.view i
gone_plain picks pt s l i h is goes = let g = gone_in pt.kernel s l i is goes in h i g.message g.there

pub label_smooth : (picks : Told → Bool) (pt : Point) (s : OneKernel) (l : Label) → SparesBag picks pt → kernel.step pt.kernel l ≡ Some s → Smooth picks pt.view (view_after pt.view (Line.Label l))
label_smooth picks pt s (Label.Ran q k) h is = moves_none picks pt.view (Line.Label (Label.Ran q k)) refl (λ z. serving_off pt.view q z)
label_smooth picks pt s (Label.End q y) h is = moves_none picks pt.view (Line.Label (Label.End q y)) refl (λ z. ended_off pt.view q z)
label_smooth picks pt s (Label.Receive q id) h is = hushed_smooth picks pt.view (Line.Label (Label.Receive q id)) id refl (gone_plain picks pt s (Label.Receive q id) id h is refl) (λ j e z. received_spots pt.view q id j e z)
label_smooth picks pt s (Label.Refuse q id c) h is = moves_none picks pt.view (Line.Label (Label.Refuse q id c)) refl (λ z. serving_off pt.view q z)
label_smooth picks pt s (Label.Dropped id) h is =
    let o = receiver_of (pt.view.told id) in
    hushed_smooth picks pt.view (Line.Label (Label.Dropped id)) id refl (gone_plain picks pt s (Label.Dropped id) id h is refl) (λ j e z. dropped_spots (handled pt.view id) id j o e z ∙ handled_spots pt.view id j e z)
label_smooth picks pt s (Label.Served id) h is =
    hushed_smooth picks pt.view (Line.Label (Label.Served id)) id refl (gone_plain picks pt s (Label.Served id) id h is refl)
    (λ j e z. ap (times j) ((served_keeps (handled pt.view id) (pt.view.told id)).0 z) ∙ handled_spots pt.view id j e z)
label_smooth picks pt s (Label.Gone id) h is = hushed_smooth picks pt.view (Line.Label (Label.Gone id)) id refl (gone_plain picks pt s (Label.Gone id) id h is refl) (λ j e z. handled_spots pt.view id j e z)
label_smooth picks pt s (Label.Took id) h is = hushed_smooth picks pt.view (Line.Label (Label.Took id)) id refl (gone_plain picks pt s (Label.Took id) id h is refl) (λ j e z. handled_spots pt.view id j e z)
label_smooth picks pt s (Label.Created id q) h is =
    hushed_smooth picks pt.view (Line.Label (Label.Created id q)) id refl (gone_plain picks pt s (Label.Created id q) id h is refl) (λ j e z. ap (times j) (created_off pt.view id q z) ∙ handled_spots pt.view id j e z)
label_smooth picks pt s (Label.NoSpace id a b) h is = hushed_smooth picks pt.view (Line.Label (Label.NoSpace id a b)) id refl (gone_plain picks pt s (Label.NoSpace id a b) id h is refl) (λ j e z. handled_spots pt.view id j e z)
label_smooth picks pt s (Label.Asked id) h is = hushed_smooth picks pt.view (Line.Label (Label.Asked id)) id refl (gone_plain picks pt s (Label.Asked id) id h is refl) (λ j e z. handled_spots pt.view id j e z)
label_smooth picks pt s _ h is = smooth_same picks pt.view

-- the topic moves no message
pub smooth_about : (picks : Told → Bool) (v w : View) (a : About) → Smooth picks v w → Smooth picks v (view.about w a)
smooth_about picks v w a h = smooth_trans picks v w (view.about w a) h (smooth_still picks w (view.about w a) (λ i. refl) (λ i z. ap (times i) (about_off w a z)))

-- a message of a migration that is no step of it
pub line_smooth : (p : Pid) (pt : Point) (s : OneKernel) (l : Line) → Sane pt → QuietLine p pt.view l → kernel_after pt.kernel (label_of l) ≡ Some s → Smooth (asks_for p) pt.view (view_after pt.view l)
line_smooth p pt s (Line.Idle m) h quiet is = smooth_same (asks_for p) pt.view
line_smooth p pt s (Line.Label l) h quiet is = label_smooth (asks_for p) pt s l (λ i x there. plain_in_bag p pt i x h there) is
line_smooth p pt s (Line.Old a b n) h quiet is = smooth_same (asks_for p) pt.view
line_smooth p pt s Line.Nothing h quiet is = smooth_same (asks_for p) pt.view
line_smooth p pt s (Line.Resent m n) h quiet is = smooth_same (asks_for p) pt.view
line_smooth p pt s (Line.Queued i) h quiet is = (let o = receiver_of (pt.view.told i) in hushed_smooth (asks_for p) pt.view (Line.Queued i) i refl (tame_plain p pt.view i quiet) (λ j e z. queued_spots (handled pt.view i) i j o e z ∙ handled_spots pt.view i j e z))
line_smooth p pt s (Line.Held i) h quiet is = (let o = receiver_of (pt.view.told i) in hushed_smooth (asks_for p) pt.view (Line.Held i) i refl (tame_plain p pt.view i quiet) (λ j e z. held_spots (handled pt.view i) i j o e z ∙ handled_spots pt.view i j e z))
line_smooth p pt s (Line.Forwarded i m) h quiet is =
    (let o = receiver_of (pt.view.told i) in hushed_smooth (asks_for p) pt.view (Line.Forwarded i m) i refl (tame_plain p pt.view i quiet) (λ j e z. forwarded_spots (handled pt.view i) j o z ∙ handled_spots pt.view i j e z))
line_smooth p pt s (Line.Updated i n) h quiet is = hushed_smooth (asks_for p) pt.view (Line.Updated i n) i refl (tame_plain p pt.view i quiet) (λ j e z. handled_spots pt.view i j e z)
line_smooth p pt s (Line.Buried i n) h quiet is = hushed_smooth (asks_for p) pt.view (Line.Buried i n) i refl (tame_plain p pt.view i quiet) (λ j e z. buried_spots pt.view i j n e z)
line_smooth p pt s (Line.Here i) h quiet is = hushed_smooth (asks_for p) pt.view (Line.Here i) i refl (foreign_plain p pt.view i quiet) (λ j e z. handled_spots pt.view i j e z)
line_smooth p pt s (Line.NoMove i) h quiet is = hushed_smooth (asks_for p) pt.view (Line.NoMove i) i refl (foreign_plain p pt.view i quiet) (λ j e z. handled_spots pt.view i j e z)
line_smooth p pt s (Line.Stale i) h quiet is = hushed_smooth (asks_for p) pt.view (Line.Stale i) i refl (tame_plain p pt.view i quiet) (λ j e z. handled_spots pt.view i j e z)
line_smooth p pt s (Line.NoChild q) h quiet is = smooth_same (asks_for p) pt.view
line_smooth p pt s (Line.NoCall q) h quiet is = smooth_same (asks_for p) pt.view
line_smooth p pt s Line.Away h quiet is = smooth_same (asks_for p) pt.view
line_smooth p pt s (Line.Proto i) h quiet is = hushed_smooth (asks_for p) pt.view (Line.Proto i) i refl (tame_plain p pt.view i quiet) (λ j e z. ap (times j) (proto_off (handled pt.view i) (pt.view.told i) z) ∙ handled_spots pt.view i j e z)
line_smooth p pt s (Line.Migration Stage.Asked q) h quiet is = smooth_same (asks_for p) pt.view
line_smooth p pt s _ h quiet is = absurd quiet

pub still_same : (p : Pid) (v : View) → Still p v v
still_same p v m = refl

pub still_trans : (p : Pid) (u v w : View) → Still p u v → Still p v w → Still p u w
still_trans p u v w h k m = k m ∙ h m

pub still_by : (p : Pid) (v w : View) → ((m : ℕ) (q : Pid) → w.known m q ≡ v.known m q) → Still p v w
still_by p v w e m = ap is_moving (e m p)

-- one machine knows something else of one process
pub set_still : (f : ℕ → Pid → Known) (a : ℕ) (q : Pid) (x : Known) → is_moving x ≡ is_moving (f a q) → (m : ℕ) (p : Pid) → is_moving (at_record f a q x m p) ≡ is_moving (f m p)
set_still f a q x e m p = grind (arith, nat_tests, parts, eq_is, pid_eq-is)

ended_still : (p : Pid) (v : View) (q : Pid) → v.known v.acting q ≡ Here → Still p v (view.ended v q)
ended_still p v q here m = set_still v.known v.acting q Unknown (sym (ap is_moving here)) m p

label_still : (p : Pid) (pt : Point) (l : Label) → NeedsLabel pt l → Still p pt.view (view_after pt.view (Line.Label l))
label_still p pt (Label.End q y) need = ended_still p pt.view q need.here
label_still p pt (Label.Dropped id) need = still_by p pt.view (view_after pt.view (Line.Label (Label.Dropped id))) (λ m q. dropped_known (handled pt.view id) id (receiver_of (pt.view.told id)) m q)
label_still p pt (Label.Served id) need = grind (arith, nat_tests, killed_or, ended_still, still_same)
label_still p pt (Label.Created id q) need = λ m. set_still pt.view.known pt.view.acting q Here (sym (ap is_moving (need.unknown pt.view.acting))) m p
label_still p pt _ need = λ m. refl

-- what is away waits for nothing
away_still : (k : Known) → is_away k ≡ true → is_moving k ≡ false
away_still k e = grind (arith, nat_tests)

pub line_still : (p : Pid) (pt : Point) (l : Line) → QuietLine p pt.view l → Needs pt l → Still p pt.view (view_after pt.view l)
line_still p pt (Line.Idle m) quiet need = λ n. refl
line_still p pt (Line.Label l) quiet need = label_still p pt l need
line_still p pt (Line.Old a b n) quiet need = λ m. refl
line_still p pt Line.Nothing quiet need = λ m. refl
line_still p pt (Line.Resent m n) quiet need = λ k. refl
line_still p pt (Line.Queued i) quiet need = still_by p pt.view (view_after pt.view (Line.Queued i)) (λ m q. queued_known (handled pt.view i) i (receiver_of (pt.view.told i)) m q)
line_still p pt (Line.Held i) quiet need = still_by p pt.view (view_after pt.view (Line.Held i)) (λ m q. held_known (handled pt.view i) i (receiver_of (pt.view.told i)) m q)
line_still p pt (Line.Forwarded i n) quiet need = still_by p pt.view (view_after pt.view (Line.Forwarded i n)) (λ m q. forwarded_known (handled pt.view i) (receiver_of (pt.view.told i)) m q)
line_still p pt (Line.Updated i n) quiet need = λ m. refl
line_still p pt (Line.Buried i n) quiet need = λ m. buried_same is_moving pt.view i n (λ t q told about. away_still (pt.view.known pt.view.acting q) ((need t q told about).away pt.view.acting)) m p
line_still p pt (Line.Proto i) quiet need = λ m. grind (arith, nat_tests)
line_still p pt (Line.Here i) quiet need = λ m. refl
line_still p pt (Line.NoMove i) quiet need = λ m. refl
line_still p pt (Line.Stale i) quiet need = λ m. refl
line_still p pt (Line.NoChild q) quiet need = λ m. refl
line_still p pt (Line.NoCall q) quiet need = λ m. refl
line_still p pt Line.Away quiet need = λ m. refl
line_still p pt (Line.Migration Stage.Asked q) quiet need = λ m. refl
line_still p pt _ quiet need = absurd quiet

-- Parts that leave all requests to move a process where they stand, and end none; and the lines of parts, counted.

-- a put of a message that is no request to move this process
first_plain : (picks : Told → Bool) (o : Option Told) (u t : Told) → Some (view.first_told o u) ≡ Some t → picks u ≡ false → ((x : Told) → o ≡ Some x → picks x ≡ false) → picks t ≡ false
first_plain picks None u t e plain was = let f : u ≡ t = cc in subst (λ (x : Told). picks x ≡ false) f plain
first_plain picks (Some x) u t e plain was = let f : x ≡ t = cc in subst (λ (y : Told). picks y ≡ false) f (was x refl)

pub put_smooth : (picks : Told → Bool) (v : View) (a b : ℕ) (i : MsgId) (k : MessageKind) (q : Pid) → PairsFit v → picks (record { kind = k; receiver = q; about = v.topic }) ≡ false → Plain picks v i → Smooth picks v (after_put v a b i k q)
put_smooth picks v a b i k q fits plain was =
    let u : Told = record { kind = k; receiver = q; about = v.topic } in
    smooth_others picks v (after_put v a b i k q) i was (λ t is. first_plain picks (v.told i) u t (sym (put_at v a b i k q) ∙ is) plain was) (λ t is. put_at v a b i k q ∙ first_kept (v.told i) u t is)
    (record { told = λ j apart. put_told_off v a b i j k q apart; spots = λ j apart z. put_spots v a b i j k q fits apart z })

pub packet_smooth : (picks : Told → Bool) (v : View) (a b k : ℕ) (l : Load) → Smooth picks v (view_after v (Line.Packet a b k l))
packet_smooth picks v a b k l = moves_none picks v (Line.Packet a b k l) refl (λ z. packet_off v a b k l z)

-- parts
abbrev pub Quiet : Pid → View → Part → Type 0
Quiet p v (Says l) = QuietLine p v l
Quiet p v (Again i b) = Tame p v i
Quiet p v (Owns k q b) = (is_migrate k && pid_eq p q) ≡ false
Quiet p v _ = ⊤

abbrev pub AllQuiet : Pid → View → List Part → Type 0
AllQuiet p v = All (Quiet p v)

-- what is kept through parts
pub record Settled (p : Pid) (v : View) (pt : Point) : Type 0 where
  pub smooth : Smooth (asks_for p) v pt.view
  pub still : Still p v pt.view
  pub sane : Sane pt
  pub fits : PairsFit pt.view

pub record Rest (p : Pid) (v w : View) : Type 0 where
  pub smooth : Smooth (asks_for p) v w
  pub still : Still p v w
  pub fits : PairsFit w

pub rest_packet : (p : Pid) (v : View) → PacketsKeep (λ q. Rest p v q.view)
rest_packet p v q a b k l h = search (smooth_trans, packet_smooth, fits_packet)

put_rest : (p : Pid) (v : View) (b : ℕ) (i : MsgId) (k : MessageKind) (q : Pid) → PairsFit v → (is_migrate k && pid_eq p q) ≡ false → Plain (asks_for p) v i → Rest p v (after_put v v.acting b i k q)
put_rest p v b i k q fits e plain = record { smooth = put_smooth (asks_for p) v v.acting b i k q fits e plain; still = λ m. refl; fits = fits_put v v.acting b i k q fits }

says_rest : (p : Pid) (pt : Point) (s : OneKernel) (l : Line) → Sane pt → PairsFit pt.view → QuietLine p pt.view l → Needs pt l → kernel_after pt.kernel (label_of l) ≡ Some s → Rest p pt.view (view_after pt.view l)
says_rest p pt s l h fits quiet need step =
    let quiet_touches : (p : Pid) (v : View) (l : Line) → QuietLine p v l → touches l ≡ false = λ p v l h. grind (arith, nat_tests) in
    search (line_smooth, line_still, fits_as, pair_same, quiet_touches)

pub first_off : (b c : Bool) → b ≡ false → (b && c) ≡ false
first_off b c e = ap (λ (x : Bool). x && c) e

pub rest_behind : (p : Pid) (pt : Point) (x : Part) → Sane pt → PairsFit pt.view → Quiet p pt.view x → NeedsPart pt x → Behind (λ q. Rest p pt.view q.view) pt x
rest_behind p pt (Says l) h fits quiet need =
    let rest_about : (p : Pid) (v w : View) (a : About) → Rest p v w → Rest p v (view.about w a) = λ p v w a h. record { smooth = smooth_about (asks_for p) v w a h.smooth; still = h.still; fits = fits_about w a h.fits } in
    λ s step. rest_about p pt.view (view_after pt.view l) (moved pt l s).view.topic (says_rest p pt s l h fits quiet need step)
rest_behind p pt (Routes i) h fits quiet need = λ m there. put_rest p pt.view _ i (plain_kind m.what) m.to fits (first_off (is_migrate (plain_kind m.what)) (pid_eq p m.to) (plain_not m.what)) (plain_in_bag p pt i m h there)
rest_behind p pt (Again i b) h fits quiet need = λ t there. put_rest p pt.view b i t.kind t.receiver fits (tame_plain p pt.view i quiet t there) (tame_plain p pt.view i quiet)
rest_behind p pt (Owns k q b) h fits quiet need =
    let untold_plain : (p : Pid) (v : View) (i : MsgId) → v.told i ≡ None → Plain (asks_for p) v i = λ p v i none t told. absurd (let f : None ≡ Some t = sym none ∙ told in cc) in
    put_rest p pt.view b (own_id pt.view) k q fits quiet (untold_plain p pt.view (own_id pt.view) (own_untold pt h))
rest_behind p pt (Transmits a b l) h fits quiet need = record { smooth = smooth_same (asks_for p) pt.view; still = λ m. refl; fits = fits }

pub settled_same : (p : Pid) (pt : Point) → Sane pt → PairsFit pt.view → Settled p pt.view pt
settled_same p pt sane fits = record { smooth = smooth_same (asks_for p) pt.view; still = still_same p pt.view; sane = sane; fits = fits }

quiet_on : (p : Pid) (v w : View) (x : Part) → Smooth (asks_for p) v w → Quiet p v x → Quiet p w x
quiet_on p v w x c h = search arith

pub parts_settle : (p : Pid) (ps : List Part) (v : View) (pt : Point) (w : Spelled) → AllQuiet p v ps → Walks pt ps → Settled p v pt → spelled pt ps ≡ Some w → Settled p v w.point
parts_settle p qs v q w quiet walks h is =
    let sayable_of : (p : Pid) (v : View) (x : Part) → Quiet p v x → Sayable x = λ p v x h. grind (arith, nat_tests) in
    by_parts (λ ps pt u. AllQuiet p v ps → Walks pt ps → Settled p v pt → Settled p v u.point) (λ pt quiet walks h. h) (λ x ps pt next ls z lines leads rest quiet walks h. (
    let here : Quiet p pt.view x = quiet_on p v pt.view x h.smooth quiet.0 in
    let s : Steps pt x next = record { lines = ls; are = lines; leads = leads } in
    let c = part_leads (λ y. Rest p pt.view y.view) (rest_packet p pt.view) pt next x (rest_behind p pt x h.sane h.fits here walks.0) s in
    rest quiet.1 (walks.1 next s) (search (smooth_trans, still_trans, part_sane, sayable_of))
    )) qs q w is quiet walks h

-- the lines of parts, counted
abbrev pub one_if : (Line → Bool) → Line → ℕ
one_if f l = if f l then 1 else 0

abbrev pub part_count : (Line → Bool) → List Part → ℕ
part_count f [] = 0
part_count f (Says l ∷ ps) = one_if f l + part_count f ps
part_count f (x ∷ ps) = part_count f ps

-- puts and packets don't count
pub record Silent (f : Line → Bool) : Type 0 where
  pub put : (a b : ℕ) (i : MsgId) (k : MessageKind) (q : Pid) → f (Line.Put a b i k q) ≡ false
  pub packet : (a b k : ℕ) (l : Load) → f (Line.Packet a b k l) ≡ false

pub count-append : (f : Line → Bool) (xs ys : List Line) → count f (xs ++ ys) ≡ count f xs + count f ys
count-append f [] ys = omega arith
count-append f (x ∷ xs) ys = let h = count-append f xs ys in omega (arith, h)

abbrev pub unit_if : Bool → ℕ
unit_if c = if c then 1 else 0

pub zero_if : (c : Bool) → c ≡ false → unit_if c ≡ 0
zero_if c e = ap unit_if e

pub lines_count : (f : Line → Bool) (pt : Point) (x : Part) (ps : List Part) (ls : List Line) → Silent f → lines_of pt x ≡ Some ls → count f ls + part_count f ps ≡ part_count f (x ∷ ps)
lines_count f pt x ps ls h is = grind (arith, nat_tests, lines_are, zero_if)

-- parts whose lines don't count
pub none_count : (f : Line → Bool) (Q : Part → Type 0) → ((l : Line) → Q (Says l) → f l ≡ false) → (ps : List Part) → All Q ps → part_count f ps ≡ 0
none_count f Q none [] so = refl
none_count f Q none (Says l ∷ ps) so = search (zero_if, none_count f Q none ps so.1)
none_count f Q none (x ∷ ps) so = none_count f Q none ps so.1

-- quiet parts end none, and are no directive
pub quiet_count : (p : Pid) (v : View) (ps : List Part) (f : MsgId → Option Told) → AllQuiet p v ps → Extends v.told f → part_count (ends f p) ps ≡ 0
quiet_count p v ps f quiet ext = none_count (ends f p) (Quiet p v) (λ l q. (let e_ : ends f p l ≡ false = grind (arith, nat_tests) in e_)) ps quiet

pub quiet_asks : (p : Pid) (v : View) (ps : List Part) → AllQuiet p v ps → part_count (asks p) ps ≡ 0
quiet_asks p v = let line_asks : (p : Pid) (v : View) (l : Line) → QuietLine p v l → asks p l ≡ false = λ p v l h. grind (arith, nat_tests) in none_count (asks p) (Quiet p v) (line_asks p v)

pub quiet_loose : (p : Pid) (v : View) → Loose (AllQuiet p v)
quiet_loose p v = record { none = tt; label = λ l ps h. (tt, h); routes = λ i ps h. (tt, h); buries = λ to ps h. (refl, h) }

-- a message of the bag, at the front of the inbox
pub data Handled (p : Pid) (v : View) (o : Point) (m : ℕ) (id : MsgId) (msg : PlainMessage) (ps : List Part) : Type 0 where
  Quiets : AllQuiet p v ps → Handled p v o m id msg ps
  SetsOff : (to : ℕ) → o.view.known m msg.to ≡ Here → msg.what ≡ PlainWhat.Move to → ps ≡ rule.says (Label.Asked id) ∷ leaves_for msg.to to → Handled p v o m id msg ps
