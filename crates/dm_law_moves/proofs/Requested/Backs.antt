-- What a machine that a process leaves or comes to knows of it, it knew before, but where a line freezes or accepts the process; and what
-- was told of a directive's message was told before, but where a directive puts it.
use Rattle.dm_law_moves.proofs.Names.{◌≡◌, ℕ, Bool, true, false, List, [], ◌∷◌, refl, ap, ◌∙◌, sym, subst, ⊤, inl, inr, cases_Bool, false≢true, Option, None, Some, Pid, pid_eq, pid_eq-swap, MsgId, id_eq, id_eq-is, MessageKind, plain_kind}
use Rattle.dm_law_moves.proofs.Names.{Label, Line, Stage, Sort, Told, View, About, Of, Known, Unknown, Here, Frozen, Incoming, Forward, at_record, record_off, handled, receiver_of, after_head, after_put, view_after, served_told, sort_of}
use Rattle.dm_law_moves.proofs.Names.{sets, aim, queued_known, held_known, dropped_known, forwarded_known, proto_known, gone_to, goes_back, set_all, put_at, put_told_off, is_put, Point, Part, Says, Routes, Again, Owns, Transmits, Spelled}
use Rattle.dm_law_moves.proofs.Names.{spelled, is_moving, nat_tests, arith, InPhases, knows, is_here, is_away, ◌==◌, if◌then◌else◌, PlainMessage, Step, count, ◌+◌, filter, not, Receiver, own_id, starts, first_told, rests_here}
use Rattle.dm_law_rule.specs.View as view
use Rattle.dm_law_moves.proofs.Leading.{All, Behind, Saying, AllLines, whatever_put, parts_lead, parts_say}
use Rattle.dm_law_moves.proofs.Ends.Parts.{is_migrate, told_by}
use Rattle.dm_law_moves.proofs.Asked.Following.{one_for}
use Rattle.dm_law_rule.proofs.Phases.EndLines.{taken_known}

-- it is frozen or accepted
abbrev pub sets_moving : Pid → Line → Bool
sets_moving p (Line.Migration Stage.Frozen q) = pid_eq p q
sets_moving p (Line.Migration Stage.Accepted q) = pid_eq p q
sets_moving p _ = false

set_back : (f : ℕ → Pid → Known) (a : ℕ) (q : Pid) (x : Known) (m : ℕ) (p : Pid) → (is_moving x ≡ true → x ≡ f a q) → is_moving (at_record f a q x m p) ≡ true → at_record f a q x m p ≡ f m p
set_back f a q x m p h = set_all (λ k r y. is_moving y ≡ true → y ≡ f k r) f a q x h (λ k r off moves. refl) m p

-- what is set is no process that moves
set_rest : (f : ℕ → Pid → Known) (a : ℕ) (q : Pid) (x : Known) (m : ℕ) (p : Pid) → is_moving x ≡ false → is_moving (at_record f a q x m p) ≡ true → at_record f a q x m p ≡ f m p
set_rest f a q x m p e = set_back f a q x m p (λ moves. absurd (false≢true (sym e ∙ moves)))

gone_back : (k : Known) (n : ℕ) → is_moving (gone_to k n) ≡ true → gone_to k n ≡ k
gone_back (Frozen to) n e = absurd (false≢true e)
gone_back _ n e = refl

goes_same : (k : Known) (n : ℕ) → is_moving (goes_back k n) ≡ true → goes_back k n ≡ k
goes_same (Incoming from) n e = absurd (false≢true e)
goes_same (Forward at_ c) n e = absurd (false≢true e)
goes_same _ n e = refl

served_back : (v : View) (o : Option Told) (m : ℕ) (p : Pid) → is_moving ((served_told v o).known m p) ≡ true → (served_told v o).known m p ≡ v.known m p
served_back v None m p e = refl
served_back v (Some t) m p e = by_kill (sort_of t.kind) e
  where
    by_kill : (s : Sort) → is_moving ((view.ends_by s v (Some t.receiver)).known m p) ≡ true → (view.ends_by s v (Some t.receiver)).known m p ≡ v.known m p
    by_kill Sort.Kills moves = set_rest v.known v.acting t.receiver Unknown m p refl moves
    by_kill _ moves = refl

forgotten_back : (v : View) (a : About) (m : ℕ) (p : Pid) → is_moving ((view.forgotten v a).known m p) ≡ true → (view.forgotten v a).known m p ≡ v.known m p
forgotten_back v (Of q) m p e = set_rest v.known v.acting q Unknown m p refl e
forgotten_back v _ m p e = refl

buried_back : (v : View) (o : Option Told) (m : ℕ) (p : Pid) → is_moving ((view.buried_for v o).known m p) ≡ true → (view.buried_for v o).known m p ≡ v.known m p
buried_back v None m p e = refl
buried_back v (Some t) m p e = forgotten_back v t.about m p e

label_back : (v : View) (l : Label) (m : ℕ) (p : Pid) → is_moving ((view_after v (Line.Label l)).known m p) ≡ true → (view_after v (Line.Label l)).known m p ≡ v.known m p
label_back v (Label.End q y) m p e = set_rest v.known v.acting q Unknown m p refl e
label_back v (Label.Created id q) m p e = set_rest v.known v.acting q Here m p refl e
label_back v (Label.Served id) m p e = served_back (handled v id) (v.told id) m p e
label_back v (Label.Dropped id) m p e = dropped_known (handled v id) id (receiver_of (v.told id)) m p
label_back v _ m p e = refl

pub other : (p q : Pid) → pid_eq p q ≡ false → pid_eq q p ≡ false
other p q off = pid_eq-swap q p ∙ off

stage_back : (v : View) (q : Pid) (g : Stage) (m : ℕ) (p : Pid) → sets_moving p (Line.Migration g q) ≡ false → is_moving ((view.after_stage v q g).known m p) ≡ true → (view.after_stage v q g).known m p ≡ v.known m p
stage_back v q Stage.Frozen m p off e = ap (λ (f : ℕ → Pid → Known). f m p) (sets v q v.topic).known ∙ record_off v.known v.acting q (Frozen (aim v v.topic)) m p (other p q off)
stage_back v q Stage.Accepted m p off e = record_off v.known v.acting q (Incoming (view.front_of (v.inbox v.acting))) m p (other p q off)
stage_back v q Stage.Left m p off e = set_back v.known v.acting q (gone_to (v.known v.acting q) (v.moves q + 1)) m p (gone_back (v.known v.acting q) (v.moves q + 1)) e
stage_back v q Stage.Restarted m p off e = set_rest v.known v.acting q Here m p refl e
stage_back v q _ m p off e = refl

pub head_known : (v : View) (d : Step) (m : ℕ) (p : Pid) → (after_head v d).known m p ≡ v.known m p
head_known v d m p = (let f : (after_head v d).known ≡ v.known = grind (arith, nat_tests) in ap (λ (f : ℕ → Pid → Known). f m p) f)

line_back : (v : View) (l : Line) (m : ℕ) (p : Pid) → sets_moving p l ≡ false → is_moving ((view_after v l).known m p) ≡ true → (view_after v l).known m p ≡ v.known m p
line_back v (Line.Label l) m p off e = label_back v l m p e
line_back v (Line.Migration g q) m p off e = stage_back v q g m p off e
line_back v (Line.Called q n) m p off e = set_back v.known v.acting q (goes_back (v.known v.acting q) (v.moves q)) m p (goes_same (v.known v.acting q) (v.moves q)) e
line_back v (Line.Stays q) m p off e = set_rest v.known v.acting q Here m p refl e
line_back v (Line.Head d) m p off e = head_known v d m p
line_back v (Line.Taken a b k) m p off e = (let q = v.pair a b in taken_known (view.with_pair v a b (record q { taken = q.taken + 1; kept = filter (λ j. not (j == k)) q.kept })) b (view.oldest q) m p)
line_back v (Line.Queued id) m p off e = queued_known (handled v id) id (receiver_of (v.told id)) m p
line_back v (Line.Held id) m p off e = held_known (handled v id) id (receiver_of (v.told id)) m p
line_back v (Line.Forwarded id to) m p off e = forwarded_known (handled v id) (receiver_of (v.told id)) m p
line_back v (Line.Proto id) m p off e = proto_known (handled v id) (v.told id) m p
line_back v (Line.Buried id n) m p off e = buried_back (handled v id) (v.told id) m p e
line_back v _ m p off e = refl

-- parts that neither freeze nor accept it
abbrev pub Leaves : Pid → Part → Type 0
Leaves p = Saying (λ l. sets_moving p l ≡ false)

abbrev Back : Pid → Point → Point → Type 0
Back p pt z = (m : ℕ) → is_moving (z.view.known m p) ≡ true → z.view.known m p ≡ pt.view.known m p

pub parts_back : (p : Pid) (ps : List Part) (pt : Point) (w : Spelled) → All (Leaves p) ps → spelled pt ps ≡ Some w → (m : ℕ) → is_moving (w.point.view.known m p) ≡ true → w.point.view.known m p ≡ pt.view.known m p
parts_back p ps pt w so e =
    let one : (z : Point) (x : Part) → Leaves p x → Back p pt z → Behind (Back p pt) z x = λ z x ok h.
    whatever_put (Back p pt) z x (λ l is s step m moves. let k = line_back z.view l m p (subst (Leaves p) is ok) moves in k ∙ h m (ap is_moving (sym k) ∙ moves)) (λ b i k q. h) h in
    parts_lead (Back p pt) (λ q a b k l h. h) (Leaves p) one ps pt w so e (λ m moves. refl)

-- and so it sets off nowhere
starts_sets : (p : Pid) (l : Line) → sets_moving p l ≡ false → starts p l ≡ false
starts_sets p (Line.Migration Stage.Frozen q) e = e
starts_sets p (Line.Migration g q) e = refl
starts_sets p _ e = refl

pub quiet_more : (p : Pid) (l : Line) (ls : List Line) → starts p l ≡ false → count (starts p) ls ≡ 0 → count (starts p) (l ∷ ls) ≡ 0
quiet_more p l ls e rest = let one : one_for (starts p l) ≡ 0 = ap one_for e in omega (arith, one, rest)

none_starts : (p : Pid) (ls : List Line) → AllLines (λ l. starts p l ≡ false) ls → count (starts p) ls ≡ 0
none_starts p [] h = refl
none_starts p (l ∷ ls) h = quiet_more p l ls h.0 (none_starts p ls h.1)

starts_parts : (p : Pid) (ps : List Part) → All (Leaves p) ps → All (Saying (λ l. starts p l ≡ false)) ps
starts_parts p [] h = tt
starts_parts p (Says l ∷ ps) h = (starts_sets p l h.0, starts_parts p ps h.1)
starts_parts p (x ∷ ps) h = (tt, starts_parts p ps h.1)

pub parts_start : (p : Pid) (ps : List Part) (pt : Point) (w : Spelled) → All (Leaves p) ps → spelled pt ps ≡ Some w → count (starts p) w.lines ≡ 0
parts_start p ps pt w so e = none_starts p w.lines (parts_say (λ l. starts p l ≡ false) (λ a b i k q. refl) (λ a b n l. refl) ps pt w (starts_parts p ps so) e)

-- a put tells of a message that is no directive's, or of one that was told of
put_back : (v : View) (a b : ℕ) (i : MsgId) (k : MessageKind) (q : Pid) → ((v.told i ≡ None) → is_migrate k ≡ false) → (j : MsgId) (t : Told) → (after_put v a b i k q).told j ≡ Some t → is_migrate t.kind ≡ true → v.told j ≡ Some t
put_back v a b i k q fresh j t e moves = elim (cases_Bool (id_eq i j)) [
  | inl same ↦
      let ij = id_eq-is i j same in
      ap v.told (sym ij) ∙ by_told (v.told i) refl (sym (put_at v a b i k q) ∙ ap (after_put v a b i k q).told ij ∙ e)
  | inr off ↦ sym (put_told_off v a b i j k q off) ∙ e
]
  where
    by_told : (o : Option Told) → v.told i ≡ o → Some (first_told o (record { kind = k; receiver = q; about = v.topic })) ≡ Some t → o ≡ Some t
    by_told None was f =
        let g : record { kind = k; receiver = q; about = v.topic } ≡ t = cc in
        absurd (false≢true (sym (fresh was) ∙ ap (λ (u : Told). is_migrate u.kind) g ∙ moves))
    by_told (Some u) was f = f

-- parts that put no directive's message for the first time
abbrev pub Fresh : Part → Type 0
Fresh (Says l) = is_put l ≡ false
Fresh (Owns k q to) = is_migrate k ≡ false
Fresh _ = ⊤

plain_not : (m : PlainMessage) → is_migrate (plain_kind m.what) ≡ false
plain_not m = grind (arith, nat_tests)

abbrev ToldBack : Point → Point → Type 0
ToldBack pt z = (j : MsgId) (t : Told) → z.view.told j ≡ Some t → is_migrate t.kind ≡ true → pt.view.told j ≡ Some t

one_fresh : (pt z : Point) (x : Part) → Fresh x → ToldBack pt z → Behind (ToldBack pt) z x
one_fresh pt z (Says l) ok h = λ s step j t f moves. h j t (sym (told_by z.view l ok j) ∙ f) moves
one_fresh pt z (Routes i) ok h = λ m there j t f moves. h j t (put_back z.view z.view.acting (z.addresses (Receiver i)).at i (plain_kind m.what) m.to (λ none. plain_not m) j t f moves) moves
one_fresh pt z (Again i b) ok h = λ u told j t f moves. h j t (put_back z.view z.view.acting b i u.kind u.receiver (λ none. (let g : None ≡ Some u = sym none ∙ told in cc)) j t f moves) moves
one_fresh pt z (Owns k q b) ok h = λ j t f moves. h j t (put_back z.view z.view.acting b (own_id z.view) k q (λ none. ok) j t f moves) moves
one_fresh pt z (Transmits a b l) ok h = h

pub parts_fresh : (ps : List Part) (pt : Point) (w : Spelled) → All Fresh ps → spelled pt ps ≡ Some w → (j : MsgId) (t : Told) → w.point.view.told j ≡ Some t → is_migrate t.kind ≡ true → pt.view.told j ≡ Some t
parts_fresh ps pt w so e = parts_lead (ToldBack pt) (λ q a b k l h. h) Fresh (one_fresh pt) ps pt w so e (λ j t f moves. f)

-- where a process is here, no machine waits for it to leave or to come
pub here_still : (v : View) (h : InPhases v) (p : Pid) (a m : ℕ) → v.known a p ≡ Here → is_moving (v.known m p) ≡ false
here_still v h p a m here =
    let rests = rests_here (h.of p) a (ap (knows (h.of p) a) (sym here) ∙ (h.each p).known a) in
    by_test (a == m) (v.known m p) (ap (λ y. knows y m (v.known m p)) (sym rests) ∙ (h.each p).known m)
  where
    by_test : (c : Bool) (k : Known) → (if c then is_here k else is_away k) ≡ true → is_moving k ≡ false
    by_test c k e = grind (arith, nat_tests)
