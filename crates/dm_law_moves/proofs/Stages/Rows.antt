-- Lines that leave the migration of a process as it is.
use Rattle.dm_law_moves.proofs.Names.{◌≡◌, ℕ, ◌≤◌, Bool, true, false, List, [], ◌∷◌, ◌++◌, refl, ap, ◌∙◌, sym, subst, inl, inr, arith, if◌then◌else◌, Option, None, Some, cases_Bool, false≢true, Pid, pid_eq, MsgId, MessageKind, id_eq, bind}
use Rattle.dm_law_moves.proofs.Names.{Line, View, Told, Of, own_id, view_after, handled, is_between, Point, label_of, kernel_after, moved, Part, Says, Owns, Spelled, behind, spelled, Spot, Inbox, times, ids_at, id_eq-is, id_eq-same}
use Rattle.dm_law_moves.proofs.Names.{pid_eq-is, pid_eq-same, is_put, not_true, line_next, one_of, touches, onward, handled_spots, packet_calm, put_at, put_there, put_spot, PairsFit, puts_next, said, Sane, sane_line, Mark, with_mark}
use Rattle.dm_law_moves.proofs.Names.{in_order, first_none, nat_tests, seen_none, ⊤, Stage, Label, OneKernel, at_record, Known, served_told, Transmits, standing, pid_eq-swap, IsNet, hushed, record_off, Tame}
use Rattle.dm_law_moves.proofs.Names.{line_calm, created_off, served_keeps, other_than, fits_put, fits_packet, Sayable, part_sane, by_parts, Steps, PacketsKeep, pid_of, sort_of, sender_in, receiver_in, Incoming, Load, Phase}
use Rattle.dm_law_moves.proofs.Names.{IsIn, ◌||◌, pulls_piece, brings_piece, IsLeft, piece_ways, pull_ways, tame_kind}
pub use Rattle.dm_law_rule.proofs.Phases.Put.{of_same}
use Rattle.dm_onekernel.specs.Step as kernel
use Rattle.dm_law_moves.proofs.Stages.Spares.{is_settled, mark_of, Spares, TokenOf, HasMark, token_mark, Marked, none_marked, some_marked, spares_same, spares_calm, spares_trans, spares_put, spares_about, open_after, mark_other, marks_of}
use Rattle.dm_law_moves.proofs.Burials.{buried_spots, buried_at}
use Rattle.dm_law_moves.proofs.Leading.{line_fits, whatever_put, part_leads}
use Rattle.dm_law_moves.proofs.Stages.Spares.{IsAwaited, SparesBut, but_trans, left_marked}
use Rattle.dm_law_rule.proofs.Phases.Quiet.{gone_plain}

-- what is said of the message at the front, and steps of another process that handle no message
abbrev pub MildLine : Pid → Option MsgId → Line → Type 0
MildLine p o (Line.Idle m) = ⊤
MildLine p o (Line.Label l) = ⊤
MildLine p o (Line.Queued i) = o ≡ Some i
MildLine p o (Line.Held i) = o ≡ Some i
MildLine p o (Line.Forwarded i m) = o ≡ Some i
MildLine p o (Line.Updated i n) = o ≡ Some i
MildLine p o (Line.Buried i n) = o ≡ Some i
MildLine p o (Line.Here i) = o ≡ Some i
MildLine p o (Line.NoMove i) = o ≡ Some i
MildLine p o (Line.Migration Stage.Asked q) = pid_eq q p ≡ false
MildLine p o (Line.Migration Stage.Left q) = pid_eq q p ≡ false
MildLine p o _ = ⊥

abbrev pub Mild : Pid → Option MsgId → Part → Type 0
Mild p o (Says l) = MildLine p o l
Mild p o _ = ⊤

abbrev pub AllMild : Pid → Option MsgId → List Part → Type 0
AllMild p o [] = ⊤
AllMild p o (q ∷ ps) = Mild p o q × AllMild p o ps

-- they don't mark it
pub line_marks : (p : Pid) (o : Option MsgId) (l : Line) (ms : List Mark) → MildLine p o l → with_mark p l ms ≡ ms
line_marks p o l ms h = grind (arith, nat_tests, mark_other, pid_eq-swap)

pub mild_marks : (p : Pid) (o : Option MsgId) (ps : List Part) → AllMild p o ps → marks_of p ps ≡ []
mild_marks p o [] h = refl
mild_marks p o (Says l ∷ ps) h = line_marks p o l (marks_of p ps) h.0 ∙ mild_marks p o ps h.1
mild_marks p o (x ∷ ps) h = mild_marks p o ps h.1

pub net_marks : (p : Pid) (ps : List Part) → IsNet ps → marks_of p ps ≡ []
net_marks p [] h = refl
net_marks p (Says l ∷ ps) h = (let e_ : with_mark p l (marks_of p ps) ≡ (marks_of p ps) = grind (arith, nat_tests, h.0) in e_) ∙ net_marks p ps h.1
net_marks p (Transmits a b l ∷ ps) h = net_marks p ps h.1
net_marks p _ h = absurd h.0

-- a message of the bag is handled
settled_at : (f : ℕ → Pid → Known) (a : ℕ) (q : Pid) (x : Known) (m : ℕ) (p : Pid) → is_settled x ≡ true → is_settled (f m p) ≡ true → is_settled (at_record f a q x m p) ≡ true
settled_at f a q x m p e h = grind (arith, nat_tests)

-- a line that is no put, by what stands where behind it
pub spares_line : (v : View) (l : Line) (p : Pid) → is_put l ≡ false → ((j : MsgId) (t : Told) (z : Spot) → v.told j ≡ Some t → is_between t.kind ≡ true → t.about ≡ Of p → 1 ≤ standing v j z → (y : Spot) × (1 ≤ standing (view_after v l) j y))
    → ((m : ℕ) → is_settled (v.known m p) ≡ true → is_settled ((view_after v l).known m p) ≡ true) → Spares v (view_after v l) p
spares_line v l p quiet on still = grind (arith, nat_tests, hushed)

-- by each message standing where it stood
pub same_spot : (v w : View) (j : MsgId) (z : Spot) → standing w j z ≡ standing v j z → 1 ≤ standing v j z → (y : Spot) × (1 ≤ standing w j y)
same_spot v w j z same s = (z, subst (λ n. 1 ≤ n) (sym same) s)

label_spares : (pt : Point) (s : OneKernel) (l : Label) (p : Pid) → Sane pt → kernel.step pt.kernel l ≡ Some s → Spares pt.view (view_after pt.view (Line.Label l)) p
label_spares pt s (Label.End q y) p h is = search (spares_line, same_spot, settled_at)
label_spares pt s (Label.Created id q) p h is = search (gone_plain, spares_line, same_spot, created_off, handled_spots, other_than, settled_at)
label_spares pt s (Label.Served id) p h is =
    let l = Line.Label (Label.Served id) in
    let plain = gone_plain pt s (Label.Served id) id h is refl in
    spares_line pt.view l p refl
    (λ j t z told b a st. same_spot pt.view (view_after pt.view l) j z (ap (times j) ((served_keeps (handled pt.view id) (pt.view.told id)).0 z) ∙ handled_spots pt.view id j (other_than pt.view id j t plain told b) z) st)
    (λ m e. (let e_ : is_settled ((served_told (handled pt.view id) (pt.view.told id)).known m p) ≡ true = grind (arith, nat_tests) in e_))
label_spares pt s any_ p h is = spares_calm pt.view (view_after pt.view (Line.Label any_)) p (line_calm pt s (Line.Label any_) h tt is)

-- the message at the front is none of the protocol
abbrev pub TameAt : View → Option MsgId → Type 0
TameAt v o = (i : MsgId) → o ≡ Some i → Tame v i

pub line_spares : (pt : Point) (s : OneKernel) (l : Line) (p : Pid) (o : Option MsgId) → Sane pt → TameAt pt.view o → MildLine p o l → kernel_after pt.kernel (label_of l) ≡ Some s → Spares pt.view (view_after pt.view l) p
line_spares pt s (Line.Idle m) p o h tame mild is = spares_same pt.view p
line_spares pt s (Line.Label l) p o h tame mild is = label_spares pt s l p h is
line_spares pt s (Line.Queued i) p o h tame mild is = spares_calm pt.view (view_after pt.view (Line.Queued i)) p (line_calm pt s (Line.Queued i) h (tame i mild) is)
line_spares pt s (Line.Held i) p o h tame mild is = spares_calm pt.view (view_after pt.view (Line.Held i)) p (line_calm pt s (Line.Held i) h (tame i mild) is)
line_spares pt s (Line.Forwarded i m) p o h tame mild is = spares_calm pt.view (view_after pt.view (Line.Forwarded i m)) p (line_calm pt s (Line.Forwarded i m) h (tame i mild) is)
line_spares pt s (Line.Updated i n) p o h tame mild is = spares_calm pt.view (view_after pt.view (Line.Updated i n)) p (line_calm pt s (Line.Updated i n) h (tame i mild) is)
line_spares pt s (Line.Buried i n) p o h tame mild is =
    let v = pt.view in
    spares_line v (Line.Buried i n) p refl
    (λ j t z told b a st. same_spot v (view_after v (Line.Buried i n)) j z (buried_spots v i j n (other_than v i j t (λ u is. tame_kind v i u (tame i mild) is) told b) z) st)
    (λ m e. buried_at is_settled refl v i n m p e)
line_spares pt s (Line.Here i) p o h tame mild is = spares_calm pt.view (view_after pt.view (Line.Here i)) p (line_calm pt s (Line.Here i) h (tame i mild) is)
line_spares pt s (Line.NoMove i) p o h tame mild is = spares_calm pt.view (view_after pt.view (Line.NoMove i)) p (line_calm pt s (Line.NoMove i) h (tame i mild) is)
line_spares pt s (Line.Migration Stage.Asked q) p o h tame mild is = spares_same pt.view p
line_spares pt s (Line.Migration Stage.Left q) p o h tame mild is = search (spares_line, same_spot, record_off)
line_spares pt s _ p o h tame mild is = absurd mild

-- what parts keep
pub record Kept (v : View) (p : Pid) (o : Option MsgId) (pt : Point) : Type 0 where
  pub spares : Spares v pt.view p
  pub sane : Sane pt
  pub fits : PairsFit pt.view
  pub tame : TameAt v o

-- behind a part
abbrev Spared : Pid → View → Point → Type 0
Spared p v q = Spares v q.view p × PairsFit q.view

part_spares : (p : Pid) (o : Option MsgId) (pt next : Point) (q : Part) → Sane pt → PairsFit pt.view → TameAt pt.view o → Mild p o q → Steps pt q next → Spared p pt.view next
part_spares p o pt next q h fits tame mild =
    let spared_packet : (p : Pid) (v : View) → PacketsKeep (Spared p v) = λ p v q a b k l h. search (spares_trans, spares_calm, packet_calm, fits_packet) in
    let mild_touches : (p : Pid) (o : Option MsgId) (l : Line) → MildLine p o l → touches l ≡ false = λ p o l h. grind (arith, nat_tests) in
    part_leads (Spared p pt.view) (spared_packet p pt.view) pt next q
    (whatever_put (Spared p pt.view) pt q
    (λ l is s step. let m = subst (Mild p o) is mild in (spares_about pt.view (view_after pt.view l) (moved pt l s).view.topic p (line_spares pt s l p o h tame m step), line_fits pt s l (mild_touches p o l m) fits))
    (λ b i k r. (spares_put pt.view b i k r p fits, fits_put pt.view pt.view.acting b i k r fits)) (spares_same pt.view p, fits))

pub parts_spare : (p : Pid) (o : Option MsgId) (ps : List Part) (v : View) (pt : Point) (w : Spelled) → AllMild p o ps → Kept v p o pt → spelled pt ps ≡ Some w → Kept v p o w.point
parts_spare p o qs v x w mild h is =
    let tame_on : (v w : View) (p : Pid) (o : Option MsgId) → Spares v w p → TameAt v o → TameAt w o = λ v w p o h tame i e. let t = tame i e in record { what = t.what; told = h.kept i t.what t.told; plain = t.plain } in
    by_parts (λ ps pt u. AllMild p o ps → Kept v p o pt → Kept v p o u.point) (λ pt mild h. h) (λ q ps pt next ls z lines leads rest mild h. (
    let c = part_spares p o pt next q h.sane h.fits (tame_on v pt.view p o h.spares h.tame) mild.0 (record { lines = ls; are = lines; leads = leads }) in
    rest mild.1 (record { spares = spares_trans v pt.view next.view p h.spares c.0; sane = part_sane pt next q ls (let e_ : Sayable q = grind (arith, nat_tests, mild.0) in e_) lines leads h.sane; fits = c.1; tame = h.tame })
    )) qs x w is mild h

-- A line that handles the message about a process, and what follows it: what that says of the marks of each process.

-- the message at the front, of no other process's migration
pub record Handling (pt : Point) (i : MsgId) (is : List MsgId) (q : Pid) : Type 0 where
  pub sane : Sane pt
  pub fits : PairsFit pt.view
  pub front : pt.view.inbox pt.view.acting ≡ i ∷ is
  pub others : (p : Pid) (j : MsgId) (t : Told) → pid_eq q p ≡ false → pt.view.told j ≡ Some t → is_between t.kind ≡ true → t.about ≡ Of p → id_eq i j ≡ false

-- it is about this process
pub about_others : (v : View) (i : MsgId) (t : Told) (q : Pid) → v.told i ≡ Some t → t.about ≡ Of q → (p : Pid) (j : MsgId) (u : Told) → pid_eq q p ≡ false → v.told j ≡ Some u → is_between u.kind ≡ true → u.about ≡ Of p → id_eq i j ≡ false
about_others v i t q told about p j u off other b a = not_true (id_eq i j) (λ e.
    let is : i ≡ j = id_eq-is i j e in
    let f : Some t ≡ Some u = sym told ∙ ap v.told is ∙ other in
    let g : t ≡ u = cc in
    let qp : q ≡ p = of_same q p (sym about ∙ ap (λ (x : Told). x.about) g ∙ a) in
    false≢true (sym off ∙ ap (pid_eq q) (sym qp) ∙ pid_eq-same q))

-- it is none of the protocol
pub plain_others : (v : View) (i : MsgId) (t : Told) (q : Pid) → v.told i ≡ Some t → is_between t.kind ≡ false → (p : Pid) (j : MsgId) (u : Told) → pid_eq q p ≡ false → v.told j ≡ Some u → is_between u.kind ≡ true → u.about ≡ Of p → id_eq i j ≡ false
plain_others v i t q told plain p j u off other b a = not_true (id_eq i j) (λ e.
    let is : i ≡ j = id_eq-is i j e in
    let f : Some t ≡ Some u = sym told ∙ ap v.told is ∙ other in
    let g : t ≡ u = cc in
    false≢true (sym plain ∙ ap (λ (x : Told). is_between x.kind) g ∙ b))

-- it is the process's token
pub front_token : (v : View) (i : MsgId) (is : List MsgId) (t : Told) (q : Pid) → v.inbox v.acting ≡ i ∷ is → v.told i ≡ Some t → is_between t.kind ≡ true → t.about ≡ Of q → IsAwaited v q i t → TokenOf v q t.kind
front_token v i is t q front told between about awaited =
    let a : times i (v.inbox v.acting) ≡ times i (i ∷ is) = ap (times i) front in
    let b : one_of i i ≡ 1 = ap (λ (c : Bool). if c then 1 else 0) (id_eq-same i) in
    record { id = i; what = t; told = told; kind = refl; between = between; about = about; spot = Inbox v.acting; stands = (let one : 1 ≤ times i (v.inbox v.acting) = omega (arith, a, b) in one); awaited = awaited }

-- a line by which it goes, and nothing else
pub first_spares : (pt : Point) (i : MsgId) (is : List MsgId) (q p : Pid) (l : Line) → Handling pt i is q → pid_eq q p ≡ false → is_put l ≡ false → ((z : Spot) → ids_at (view_after pt.view l) z ≡ ids_at (handled pt.view i) z)
    → ((m : ℕ) → (view_after pt.view l).known m p ≡ pt.view.known m p) → Spares pt.view (view_after pt.view l) p
first_spares pt i is q p l h apart quiet off known =
    let v = pt.view in
    spares_line v l p quiet
    (λ j t z told b a st. same_spot v (view_after v l) j z (ap (times j) (off z) ∙ handled_spots v i j (h.others p j t apart told b a) z) st)
    (λ m e. ap is_settled (known m) ∙ e)

-- the machine to which the process is on its way expects it from the other: where this one asks for a piece, and where it sends one
pub record Expects (v : View) (q : Pid) (k : MessageKind) (b : ℕ) : Type 0 where
  pub pulls : pulls_piece (sort_of k) ≡ true → v.known v.acting q ≡ Incoming b
  pub brings : brings_piece (sort_of k) ≡ true → v.known b q ≡ Incoming v.acting

-- nothing is to be expected
pub no_piece : (v : View) (q : Pid) (k : MessageKind) (b : ℕ) → pulls_piece (sort_of k) ≡ false → brings_piece (sort_of k) ≡ false → Expects v q k b
no_piece v q k b pulls brings = record { pulls = λ e. absurd (false≢true (sym pulls ∙ e)); brings = λ e. absurd (false≢true (sym brings ∙ e)) }

own_awaited : (v : View) (q : Pid) (k : MessageKind) (b : ℕ) → Expects v q k b → IsAwaited v q (own_id v) (record { kind = k; receiver = pid_of b 0; about = v.topic })
own_awaited v q k b h s d piece from is =
    let sender : v.acting ≡ sender_in k s d = ap (λ (x : Pid). x.home) from in
    let receiver : b ≡ receiver_in k s d = ap (λ (x : Told). x.receiver.home) is in
    elim (cases_Bool (pulls_piece (sort_of k))) [
      | inl pulls ↦
          let f = pull_ways k s d pulls in
          subst (λ (x : ℕ). v.known x q ≡ Incoming s) (sender ∙ f.0) (subst (λ (y : ℕ). v.known v.acting q ≡ Incoming y) (receiver ∙ f.1) (h.pulls pulls))
      | inr off ↦
          let brings : brings_piece (sort_of k) ≡ true = ap (λ (c : Bool). c || brings_piece (sort_of k)) (sym off) ∙ piece in
          let f = piece_ways k s d brings in
          subst (λ (x : ℕ). v.known x q ≡ Incoming s) (receiver ∙ f.1) (subst (λ (y : ℕ). v.known b q ≡ Incoming y) (sender ∙ f.0) (h.brings brings))
    ]

token_packet : (v : View) (q : Pid) (k : MessageKind) (a b n : ℕ) (l : Load) → TokenOf v q k → TokenOf (view_after v (Line.Packet a b n l)) q k
token_packet v q k a b n l h =
    let c = packet_calm v a b n l in
    let (y, st) = c.on h.id h.what h.told (ap is_between h.kind ∙ h.between) h.spot h.stands in
    record { id = h.id; what = h.what; told = c.kept h.id h.what h.told; kind = h.kind; between = h.between; about = h.about; spot = y; stands = st; awaited = λ s d piece from is. c.known d q ∙ h.awaited s d piece from is }

pub owns_token : (pt : Point) (k : MessageKind) (q : Pid) (b : ℕ) (w : Spelled) → Sane pt → PairsFit pt.view → is_between k ≡ true → pt.view.topic ≡ Of q → Expects pt.view q k b → spelled pt (Owns k (pid_of b 0) b ∷ []) ≡ Some w → TokenOf w.point.view q k
owns_token pt k q b w sane fits between topic expects e =
    let r = pid_of b 0 in
    let v = pt.view in
    let i = own_id v in
    let u : Told = record { kind = k; receiver = r; about = v.topic } in
    let untold : v.told i ≡ None = sane.numbered v.acting (v.count v.acting) (omega arith) in
    let mid = moved pt (Line.Put v.acting b i k r) pt.kernel in
    let token : TokenOf mid.view q k = record {
      id = i;
      what = u;
      told = put_at v v.acting b i k r ∙ first_none (v.told i) u untold;
      kind = refl;
      between = between;
      about = topic;
      spot = put_spot v.acting b;
      stands = put_there v v.acting b i k r fits;
      awaited = own_awaited v q k b expects;
    } in
    let n = puts_next (λ (x : Point). TokenOf x.view q k) (λ x c d m l h. token_packet x.view q k c d m l h) pt (Owns k r b) b i k r [] w refl token e in
    subst (λ (x : Point). TokenOf x.view q k) n.point (subst (λ (x : Point). TokenOf x.view q k) (said n.next n.rest n.more) n.stands)

-- what a line that is no step keeps
pub line_sane : (pt : Point) (l : Line) → label_of l ≡ None → is_put l ≡ false → Sane pt → Sane (moved pt l pt.kernel)
line_sane pt l none quiet h = sane_line pt (moved pt l pt.kernel) l quiet (ap (λ o. bind (kernel_after pt.kernel o) (λ s. Some (moved pt l s))) none) h

-- a line that handles it, and parts that leave the others alone
pub line_and_parts : (pt : Point) (p : Pid) (l : Line) (ps : List Part) (w : Spelled) → label_of l ≡ None → is_put l ≡ false → touches l ≡ false → Sane pt → PairsFit pt.view → Spares pt.view (view_after pt.view l) p → AllMild p None ps → spelled pt (Says l ∷ ps) ≡ Some w → Spares pt.view w.point.view p
line_and_parts pt p l ps w none quiet calm sane fits first mild e =
    let n = line_next pt l ps w none e in
    let start : Kept pt.view p None (moved pt l pt.kernel) = (search (arith, line_sane pt l none quiet sane, line_fits pt pt.kernel l calm fits, pt.view, seen_none)) in
    subst (λ (x : Point). Spares pt.view x.view p) n.point (parts_spare p None ps pt.view (moved pt l pt.kernel) n.rest mild start n.more).spares

-- what a group says of one process, and leaves of the others
pub record Row (v w : View) (q : Pid) (f : Pid → List Mark) : Type 0 where
  pub others : (p : Pid) → pid_eq q p ≡ false → (f p ≡ []) × Spares v w p
  pub mine : Marked v w q (f q)

pub row_marked : (v w : View) (q : Pid) (f : Pid → List Mark) → Row v w q f → (p : Pid) → Marked v w p (f p)
row_marked v w q f h p = elim (cases_Bool (pid_eq q p)) [
  | inl same ↦ subst (λ (x : Pid). Marked v w x (f x)) (pid_eq-is q p same) h.mine
  | inr apart ↦ let k = h.others p apart in none_marked v w p (f p) k.0 k.1
]

-- an answer: a line, and the next message
pub answer : (pt : Point) (i : MsgId) (is : List MsgId) (q : Pid) (l : Line) (k : MessageKind) (b : ℕ) (ns : List Mark) (x : Option Mark) (w : Spelled) → Handling pt i is q → label_of l ≡ None → is_put l ≡ false → touches l ≡ false
    → ((z : Spot) → ids_at (view_after pt.view l) z ≡ ids_at (handled pt.view i) z) → ((m : ℕ) (p : Pid) → pid_eq q p ≡ false → (view_after pt.view l).known m p ≡ pt.view.known m p) → (view_after pt.view l).topic ≡ Of q → is_between k ≡ true
    → ((p : Pid) → pid_eq q p ≡ false → with_mark p l [] ≡ []) → with_mark q l [] ≡ ns → HasMark pt.view q x → in_order x ns ≡ true → open_after x ns ≡ mark_of k → Expects (view_after pt.view l) q k b
    → spelled pt (Says l ∷ Owns k (pid_of b 0) b ∷ []) ≡ Some w → Row pt.view w.point.view q (λ p. with_mark p l [])
answer pt i is q l k b ns x w h none quiet calm off known topic between unmarked marked before order ends expects e =
    let v = pt.view in
    let r = pid_of b 0 in
    let n = line_next pt l (Owns k r b ∷ []) w none e in
    let next = moved pt l pt.kernel in
    let seen : Expects next.view q k b = record { pulls = expects.pulls; brings = expects.brings } in
    let token : TokenOf w.point.view q k = subst (λ (y : Point). TokenOf y.view q k) n.point (owns_token next k q b n.rest (line_sane pt l none quiet h.sane) (line_fits pt pt.kernel l calm h.fits) between (ap (λ (x : View). x.topic) (seen_none pt.kernel v l none) ∙ topic) seen n.more) in
    search (line_and_parts, first_spares, some_marked, token_mark)

-- parts after parts
pub record Split (ps qs : List Part) (pt : Point) (w : Spelled) : Type 0 where
  pub mid : Spelled
  pub first : spelled pt ps ≡ Some mid
  pub rest : Spelled
  pub more : spelled mid.point qs ≡ Some rest
  pub point : rest.point ≡ w.point

pub split : (ps qs : List Part) (pt : Point) (w : Spelled) → spelled pt (ps ++ qs) ≡ Some w → Split ps qs pt w
split [] qs pt w e = record { mid = record { lines = []; point = pt }; first = refl; rest = w; more = e; point = refl }
split (p ∷ ps) qs pt w e =
    let o = onward pt p (ps ++ qs) w e in
    let s = split ps qs o.next o.rest o.on in
    record {
      mid = behind o.lines s.mid;
      first = grind (arith, nat_tests);
      rest = s.rest;
      more = s.more;
      point = s.point ∙ o.end;
    }

-- a message that is left over is handled: what is said of it marks nothing, and what follows spares all
pub left_row : (pt : Point) (i : MsgId) (is : List MsgId) (t : Told) (q : Pid) (phase : Phase) (l : Line) (ps : List Part) (w : Spelled) → Handling pt i is q → IsIn pt.view q phase → pt.view.told i ≡ Some t → IsLeft pt.view q phase i t → label_of l ≡ None → is_put l ≡ false → touches l ≡ false
    → ((z : Spot) → ids_at (view_after pt.view l) z ≡ ids_at (handled pt.view i) z) → ((m : ℕ) (p : Pid) → (view_after pt.view l).known m p ≡ pt.view.known m p) → ((p : Pid) → marks_of p (Says l ∷ ps) ≡ []) → ((p : Pid) → AllMild p None ps) → spelled pt (Says l ∷ ps) ≡ Some w
    → Row pt.view w.point.view q (λ p. marks_of p (Says l ∷ ps))
left_row pt i is t q phase l ps w h in_ told left none quiet calm off known unmarked mild e =
    let v = pt.view in
    let next = moved pt l pt.kernel in
    let n = line_next pt l ps w none e in
    let first : SparesBut v (view_after v l) q i = record {
      kept = λ j u is. ap (λ (f : MsgId → Option Told). f j) (hushed v l quiet).told ∙ is;
      on = λ j u z apart is between about st. same_spot v (view_after v l) j z (ap (times j) (off z) ∙ handled_spots v i j apart z) st;
      still = λ m f. ap is_settled (known m q) ∙ f;
    } in
    let start : Kept (view_after v l) q None next = search (arith, line_sane pt l none quiet h.sane, line_fits pt pt.kernel l calm h.fits, v, seen_none) in
    let later : Spares (view_after v l) w.point.view q = subst (λ (x : Point). Spares (view_after v l) x.view q) n.point (parts_spare q None ps (view_after v l) next n.rest (mild q) start n.more).spares in
    record {
      others = λ p apart. (unmarked p, line_and_parts pt p l ps w none quiet calm h.sane h.fits (first_spares pt i is q p l h apart quiet off (λ m. known m p)) (mild p) e);
      mine = subst (Marked v w.point.view q) (sym (unmarked q)) (left_marked v w.point.view q phase i t in_ told left (but_trans v (view_after v l) w.point.view q i first later));
    }
