-- While a process moves, no line answers a request that it follows: only the line by which it comes here is followed by that.
use Rattle.dm_law_moves.proofs.Names.{◌≡◌, ◌≢◌, ℕ, Bool, true, false, List, [], ◌∷◌, ◌++◌, refl, ap, ◌∙◌, sym, subst, ⊤, is_some, if◌then◌else◌, Option, None, Some, false≢true, Pid, pid_eq, pid_eq-same, MsgId, MessageKind, Boot, manager}
use Rattle.dm_law_moves.proofs.Names.{Label, OneKernel, PlainMessage, MoveNote, bind-is, Step, Line, Stage, Point, label_of, kernel_after, after_line, after, moved, Part, Says, Routes, Again, Owns, Transmits, Spelled, lines_of, puts}
use Rattle.dm_law_moves.proofs.Names.{spelled, group_of, Told, Here, Sane, sends_on, to_kernel, gives_piece, forwards_on, updates, migrates, left_parts, Mark, Reached, Staying, with_mark, mark_for, marks, left_open, IsNet, IsNetLine, by_net}
use Rattle.dm_law_moves.proofs.Names.{by_hears, by_forwards, by_migrates, by_outcome, by_parts, by_group, begun, said_by, Outcome, answers_move, leaves_for, asked_noted, arith, by_calls_off, calls_off, buried, preds_of, buries_kept}
use Rattle.dm_onekernel.specs.Pieces as pieces
use Rattle.dm_law_rule.specs.Rule as rule
use Rattle.dm_law_moves.proofs.LastPieces.{last_chunk}
use Rattle.dm_law_moves.proofs.Leading.{AllLines, parts_say, next_of}
use Rattle.dm_law_moves.proofs.Asked.Following.{marks_note, IsUnmarked, AllUnmarked, Row, Plain, Ends, IsHere, Leaves, outcome_row, end_label}
use Rattle.dm_law_moves.proofs.Stages.Spares.{open_after, open-append, marks-append}
use Rattle.dm_law_moves.proofs.Stages.Rows.{AllMild, line_marks}
use Rattle.dm_law_moves.proofs.Stages.Steps.{round_mild, handles_mild, Handled, Spared, SetsOff}

-- a request is answered that the process doesn't follow
abbrev pub AnswersAnother : OneKernel → Pid → Label → Type 0
AnswersAnother s p (Label.Answered id r) = s.noted id ≢ Some p
AnswersAnother s p l = ⊤

abbrev pub AnswersIf : OneKernel → Pid → Option Label → Type 0
AnswersIf s p None = ⊤
AnswersIf s p (Some l) = AnswersAnother s p l

-- so it is at each line where its migration is open
abbrev pub Fine : Pid → Point → Option Mark → List Line → Type 0
Fine p pt o [] = ⊤
Fine p pt o (l ∷ ls) = (is_some o ≡ true → AnswersIf pt.kernel p (label_of l)) × ((next : Point) → after_line pt l ≡ Some next → Fine p next (open_after o (with_mark p l [])) ls)

-- lines by which no request is asked or answered
loose_if : (s : OneKernel) (p : Pid) (o : Option Label) → marks_note o ≡ false → AnswersIf s p o
loose_if s p (Some (Label.Answered id r)) h = absurd (false≢true (sym h))
loose_if s p (Some _) h = tt
loose_if s p None h = tt

fine_loose : (p : Pid) (ls : List Line) (pt : Point) (o : Option Mark) → AllLines IsUnmarked ls → Fine p pt o ls
fine_loose p [] pt o h = tt
fine_loose p (l ∷ ls) pt o h = (λ e. loose_if pt.kernel p (label_of l) h.0, λ next f. fine_loose p ls next (open_after o (with_mark p l [])) h.1)

-- a group's parts
abbrev FineBy : Pid → Point → Option Mark → List Part → Type 0
FineBy p pt o ps = (w : Spelled) → spelled pt ps ≡ Some w → Fine p pt o w.lines

loose_fine : (p : Pid) (pt : Point) (o : Option Mark) (ps : List Part) → AllUnmarked ps → FineBy p pt o ps
loose_fine p pt o ps h w is = fine_loose p w.lines pt o (parts_say IsUnmarked (λ a b i k q. refl) (λ a b n l. refl) ps pt w h is)

-- a line, and then parts
says_fine : (p : Pid) (pt : Point) (o : Option Mark) (l : Line) (ps : List Part) → (is_some o ≡ true → AnswersIf pt.kernel p (label_of l))
    → ((s : OneKernel) → kernel_after pt.kernel (label_of l) ≡ Some s → FineBy p (moved pt l s) (open_after o (with_mark p l [])) ps) → FineBy p pt o (Says l ∷ ps)
says_fine p pt o l ps need rest w e = search (arith, next_of, said_by)

-- the answer to another's request, or to one whose process has come here
answers_fine : (p : Pid) (pt : Point) (o : Option Mark) (i : MsgId) (r : Outcome) → (is_some o ≡ true → pt.kernel.noted i ≢ Some p) → FineBy p pt o (answers_move i r)
answers_fine p pt o i r other = says_fine p pt o (Line.Label (Label.Answered i r)) (Routes (pieces.answer_id i) ∷ []) other (λ s step. loose_fine p (moved pt (Line.Label (Label.Answered i r)) s) (open_after o []) (Routes (pieces.answer_id i) ∷ []) (tt, tt))

comes_fine : (p q : Pid) (pt : Point) (o : Option Mark) (l : Line) (m : Mark) (n : MoveNote) (r : Outcome) → label_of l ≡ None → with_mark p l [] ≡ mark_for p q m [] → left_open m ≡ None → pt.kernel.noted n.id ≡ Some q
    → FineBy p pt o (Says l ∷ answers_move n.id r)
comes_fine p q pt o l m n r none mark shut noted =
    says_fine p pt o l (answers_move n.id r) (λ e. subst (AnswersIf pt.kernel p) (sym none) tt) (λ s step.
    answers_fine p (moved pt l s) (open_after o (with_mark p l [])) n.id r (λ open_ mine.
    let same : pt.kernel ≡ s = (let f : Some pt.kernel ≡ Some s = sym (ap (kernel_after pt.kernel) none) ∙ step in cc) in
    let pq : q ≡ p = (let f : Some q ≡ Some p = sym noted ∙ ap (λ (u : OneKernel). u.noted n.id) same ∙ mine in cc) in
    let is : pid_eq p q ≡ true = ap (pid_eq p) pq ∙ pid_eq-same p in
    false≢true (sym (ap is_some (ap (open_after o) mark ∙ (ap (λ (c : Bool). open_after o (if c then m ∷ [] else [])) is ∙ shut))) ∙ open_)))

-- a process is asked to move that is here already
moved_fine : (p : Pid) (pt : Point) (o : Option Mark) (i : MsgId) (m : PlainMessage) → pt.kernel.bag i ≡ Some m → m.to ≢ p → FineBy p pt o (rule.says (Label.Asked i) ∷ answers_move i Outcome.Done)
moved_fine p pt o i m there other =
    let l = Line.Label (Label.Asked i) in
    says_fine p pt o l (answers_move i Outcome.Done) (λ e. tt) (λ s step.
    answers_fine p (moved pt l s) (open_after o []) i Outcome.Done (λ open_ mine. other (let f : Some m.to ≡ Some p = sym (asked_noted pt.kernel s i m step there) ∙ mine in cc)))

-- by what the group says of requests
head_known : (o : Point) (d : Step) (m : ℕ) (q : Pid) → (begun o d).view.known m q ≡ o.view.known m q
head_known o (Step.Turn n) m q = refl
head_known o _ m q = refl

row_fine : (p : Pid) (k : Option Mark) (o : Point) (d : Step) (ps : List Part) → Sane o → ((m : ℕ) (q : Pid) → o.view.known m q ≡ Here → q ≢ p) → Row o d ps → FineBy p (begun o d) k ps
row_fine p k o d ps sane off (Plain so) = loose_fine p (begun o d) k ps so
row_fine p k o d ps sane off (Ends q n l Outcome.Done noted end are) =
    let none = end_label q Outcome.Done l end in
    subst (FineBy p (begun o d) k) (sym are) (comes_fine p q (begun o d) k l (Reached 8) n Outcome.Done none (ap (λ (x : Line). with_mark p x []) end) refl (sane.sound.notes.noted q n noted))
row_fine p k o d ps sane off (Ends q n l Outcome.Stayed noted end are) =
    let none = end_label q Outcome.Stayed l end in
    subst (FineBy p (begun o d) k) (sym are) (comes_fine p q (begun o d) k l Staying n Outcome.Stayed none (ap (λ (x : Line). with_mark p x []) end) refl (sane.sound.notes.noted q n noted))
row_fine p k o d ps sane off (Ends q n l Outcome.Ended noted end are) = absurd end
row_fine p k o d ps sane off (IsHere id msg there here are) =
    let m = (begun o d).view.acting in
    subst (FineBy p (begun o d) k) (sym are) (moved_fine p (begun o d) k id msg there (off m msg.to (sym (head_known o d m msg.to) ∙ here)))
row_fine p k o d ps sane off (Leaves id msg to unasked there here what are) =
    let l = Line.Label (Label.Asked id) in
    let ls = leaves_for msg.to to in
    subst (FineBy p (begun o d) k) (sym are) (says_fine p (begun o d) k l ls (λ e. tt) (λ s step. loose_fine p (moved (begun o d) l s) (open_after k []) ls (refl, (refl, (tt, tt)))))

pub group_fine : (p : Pid) (k : Option Mark) (b : Boot) (pt : Point) (d : Step) (w : Spelled) → Sane pt → ((m : ℕ) (q : Pid) → pt.view.known m q ≡ Here → q ≢ p) → group_of b pt d ≡ Some w → Fine p pt k w.lines
group_fine p k b pt d w sane off = by_group (λ v. Fine p pt k v.lines) b pt d w (λ ps rest is said. (
  (λ e. tt),
  (λ next f.
      let same : begun pt d ≡ next = cc in
      subst (λ (q : Point). Fine p q k rest.lines) same (row_fine p k pt d ps sane off (outcome_row b pt d ps is) rest said)),
))

-- at a line
pub fine_at : (p : Pid) (o : Option Mark) (earlier g : List Line) (l : Line) (pt mid : Point) → Fine p pt o (earlier ++ l ∷ g) → after pt earlier ≡ Some mid → is_some (open_after o (marks p earlier)) ≡ true → AnswersIf mid.kernel p (label_of l)
fine_at p o [] g l pt mid h leads begun_ = let f : pt ≡ mid = cc in subst (λ (q : Point). AnswersIf q.kernel p (label_of l)) f (h.0 begun_)
fine_at p o (x ∷ xs) g l pt mid h leads begun_ =
    let (next, first, rest) = bind-is (after_line pt x) (λ (q : Point). after q xs) mid leads in
    fine_at p (open_after o (with_mark p x [])) xs g l next mid (h.1 next first) rest (sym (ap is_some (ap (open_after o) (marks-append p (x ∷ []) xs) ∙ open-append o (with_mark p x []) (marks p xs))) ∙ begun_)

-- Where a migration of a process begins in a group, the lines behind are no steps until it is over.

-- where a process's migration is open, a line is no step of the kernel without machines
abbrev pub Shut : Pid → Option Mark → List Line → Type 0
Shut p o [] = ⊤
Shut p o (l ∷ ls) = (is_some o ≡ true → label_of l ≡ None) × Shut p (open_after o (with_mark p l [])) ls

abbrev mark_behind : Pid → Option Mark → Part → Option Mark
mark_behind p o (Says l) = open_after o (with_mark p l [])
mark_behind p o _ = o

abbrev ShutPart : Option Mark → Part → Type 0
ShutPart o (Says l) = is_some o ≡ true → label_of l ≡ None
ShutPart o _ = ⊤

abbrev ShutParts : Pid → Option Mark → List Part → Type 0
ShutParts p o [] = ⊤
ShutParts p o (q ∷ ps) = ShutPart o q × ShutParts p (mark_behind p o q) ps

-- parts with no label
abbrev QuietPart : Part → Type 0
QuietPart (Says l) = label_of l ≡ None
QuietPart _ = ⊤

abbrev QuietParts : List Part → Type 0
QuietParts [] = ⊤
QuietParts (p ∷ ps) = QuietPart p × QuietParts ps

quiet_shut : (p : Pid) (o : Option Mark) (ps : List Part) → QuietParts ps → ShutParts p o ps
quiet_shut p o [] h = tt
quiet_shut p o (Says l ∷ ps) h = (λ e. h.0, quiet_shut p (open_after o (with_mark p l [])) ps h.1)
quiet_shut p o (Routes i ∷ ps) h = (tt, quiet_shut p o ps h.1)
quiet_shut p o (Again i b ∷ ps) h = (tt, quiet_shut p o ps h.1)
quiet_shut p o (Owns k q b ∷ ps) h = (tt, quiet_shut p o ps h.1)
quiet_shut p o (Transmits a b l ∷ ps) h = (tt, quiet_shut p o ps h.1)

-- parts that mark no process
abbrev no_mark : Option Mark
no_mark = None

pub none_open : (l : Line) → is_some no_mark ≡ true → label_of l ≡ None
none_open l e = absurd (false≢true e)

mild_shut : (p : Pid) (front : Option MsgId) (ps : List Part) → AllMild p front ps → ShutParts p None ps
mild_shut p front [] h = tt
mild_shut p front (Says l ∷ ps) h = (none_open l, subst (λ (ms : List Mark). ShutParts p (open_after None ms) ps) (sym (line_marks p front l [] h.0)) (mild_shut p front ps h.1))
mild_shut p front (Routes i ∷ ps) h = (tt, mild_shut p front ps h.1)
mild_shut p front (Again i b ∷ ps) h = (tt, mild_shut p front ps h.1)
mild_shut p front (Owns k q b ∷ ps) h = (tt, mild_shut p front ps h.1)
mild_shut p front (Transmits a b l ∷ ps) h = (tt, mild_shut p front ps h.1)

sends_quiet : (to : ℕ) (ids : List MsgId) (ps : List Part) → QuietParts ps → QuietParts (sends_on to ids ++ ps)
sends_quiet to [] ps h = h
sends_quiet to (i ∷ is) ps h = (tt, sends_quiet to is ps h)

-- a line that ends a migration, and its answer
hears_shut : (p : Pid) (b : Boot) (o : Point) (m : ℕ) (i : MsgId) (q : Option Told) (ps : List Part) → rule.hears b o m i q ≡ Some ps → ShutParts p None ps
hears_shut p b o m i q ps =
    let quiet : (qs : List Part) → QuietParts qs → ShutParts p None qs = λ qs h. quiet_shut p None qs h in
    let forwards : (k : MessageKind) (to : ℕ) → ShutParts p None (forwards_on o.addresses i k manager to) = λ k to. quiet (forwards_on o.addresses i k manager to) (by_forwards QuietParts o.addresses i k manager to (refl, (tt, tt)) (refl, (tt, (tt, tt)))) in
    by_hears (ShutParts p None) b o m i q ps (λ t there. record {
      stale = λ r about late. quiet (Says (Line.Stale i) ∷ []) (refl, tt);
      buried = λ r about kind. quiet (buried o m i r) (refl, buries_kept QuietParts tt (λ to xs h. (tt, h)) (preds_of o m r));
      told = λ r x about alive due. record {
        accepted = λ ask. quiet (Says (Line.Migration Stage.Accepted r) ∷ to_kernel MessageKind.PullState i.from.home ∷ []) (refl, (tt, tt));
        lacks = λ slots blocks. quiet (Says (Line.Lacks r slots blocks) ∷ to_kernel MessageKind.Refuse i.from.home ∷ []) (refl, (tt, tt));
        stays = λ kind free. quiet (Says (Line.Stays r) ∷ []) (refl, tt);
        stays_asked = λ kind n noted. (none_open (Line.Stays r), (λ e. absurd (false≢true (sym (ap is_some (let e_ : open_after None (mark_for p r Staying []) ≡ None = search arith in e_)) ∙ e)), (tt, tt)));
        state = quiet (gives_piece i MessageKind.State) (refl, (tt, tt));
        next_chunk = quiet (Says (Line.Proto i) ∷ to_kernel MessageKind.PullState i.from.home ∷ []) (refl, (tt, tt));
        last_chunk = quiet (Says (Line.Migration Stage.StateTaken r) ∷ to_kernel MessageKind.PullBlock i.from.home ∷ []) (refl, (tt, tt));
        server_chunk = λ server. quiet (last_chunk r i.from.home) (refl, (refl, (tt, tt)));
        memory = quiet (gives_piece i MessageKind.Memory) (refl, (tt, tt));
        next_block = quiet (Says (Line.Proto i) ∷ to_kernel MessageKind.PullBlock i.from.home ∷ []) (refl, (tt, tt));
        last_block = quiet (Says (Line.Migration Stage.MemoryTaken r) ∷ to_kernel MessageKind.AllTaken i.from.home ∷ []) (refl, (tt, tt));
        left = λ ids to leaves. quiet (left_parts i r ids to) (refl, sends_quiet to ids (Says (Line.Migration Stage.Left r) ∷ to_kernel MessageKind.Restart i.from.home ∷ []) (refl, (tt, tt)));
        restarted = λ kind free. quiet (Says (Line.Migration Stage.Restarted r) ∷ []) (refl, tt);
        restarted_asked = λ kind n noted. (none_open (Line.Migration Stage.Restarted r), (λ e. absurd (false≢true (sym (ap is_some (let e_ : open_after None (mark_for p r (Reached 8) []) ≡ None = search arith in e_)) ∙ e)), (tt, tt)));
      };
      updated = λ kind. quiet (updates o i t) (refl, tt);
      updated_none = λ kind at_. quiet (Says (Line.Updated i 0) ∷ []) (refl, tt);
      no_move = λ at_. quiet (Says (Line.NoMove i) ∷ []) (refl, tt);
      leaving = λ to at_. quiet (Says (Line.Held i) ∷ []) (refl, tt);
      coming = λ from at_. quiet (Says (Line.Held i) ∷ []) (refl, tt);
      forwarded = λ to moves at_. forwards t.kind to;
      stays_here = λ at_. quiet (Says (Line.Here i) ∷ []) (refl, tt);
      frozen = λ to at_. quiet (leaves_for t.receiver to) (refl, (refl, (tt, tt)));
    })

net_shut : (p : Pid) (o : Option Mark) (ps : List Part) → IsNet ps → ShutParts p o ps
net_shut p o ps h = quiet_shut p o ps (nets_quiet ps h)
  where
    net_quiet : (l : Line) → IsNetLine l → label_of l ≡ None
    net_quiet (Line.Taken a b n) h = refl
    net_quiet (Line.Old a b n) h = refl
    net_quiet (Line.Early a b n) h = refl
    net_quiet (Line.Acked a b n) h = refl
    net_quiet (Line.Resent m n) h = refl
    net_quiet Line.Nothing h = refl
    net_quiet _ h = absurd h

    nets_quiet : (ps : List Part) → IsNet ps → QuietParts ps
    nets_quiet = by_net QuietParts tt (λ l ps net h. (net_quiet l net, h)) (λ a b l ps h. (tt, h))

handled_shut : (p : Pid) (o : Point) (m : ℕ) (i : MsgId) (msg : PlainMessage) (ps : List Part) → Handled o m i msg ps → ShutParts p None ps
handled_shut p o m i msg ps (Spared mild) = mild_shut p (Some i) ps (mild p)
handled_shut p o m i msg ps (SetsOff to here what are) = subst (ShutParts p None) (sym are) (none_open (Line.Label (Label.Asked i)), quiet_shut p None (leaves_for msg.to to) (refl, (refl, (tt, tt))))

pub outcome_shut : (p : Pid) (b : Boot) (o : Point) (d : Step) (ps : List Part) → rule.outcome b o d ≡ Some ps → ShutParts p None ps
outcome_shut p b o d ps = by_outcome (λ x. ShutParts p None) b o d ps (record {
  round = λ m xs box e. mild_shut p None xs (round_mild p None b o m (rule.first_runnable o.kernel (o.view.queue m) (o.view.ring m)) xs e);
  handles = λ m i is msg xs box there e. handled_shut p o m i msg xs (handles_mild b o m i msg xs e);
  hears = λ m i is xs box none e. hears_shut p b o m i (o.view.told i) xs e;
  ticks = λ m xs net. net_shut p None xs net;
  delivers = λ a c k xs net. net_shut p None xs net;
  asks = λ q m. quiet_shut p None (migrates o q) (by_migrates QuietParts o q (refl, tt) (refl, tt) (λ n off is. (tt, tt)));
  calls = λ q m. quiet_shut p None (calls_off o m q (o.view.known m q))
      (by_calls_off QuietParts o m q (refl, tt) (λ from is come. (refl, sends_quiet from (o.view.held m q) (to_kernel MessageKind.CallOff from ∷ []) (tt, tt))));
})

-- the lines of parts
shut_append : (p : Pid) (o : Option Mark) (xs ys : List Line) → Shut p o xs → Shut p (open_after o (marks p xs)) ys → Shut p o (xs ++ ys)
shut_append p o [] ys h k = k
shut_append p o (x ∷ xs) ys h k =
    let e : open_after o (marks p (x ∷ xs)) ≡ open_after (open_after o (with_mark p x [])) (marks p xs) = ap (open_after o) (marks-append p (x ∷ []) xs) ∙ open-append o (with_mark p x []) (marks p xs) in
    (h.0, shut_append p (open_after o (with_mark p x [])) xs ys h.1 (subst (λ (z : Option Mark). Shut p z ys) e k))

-- lines of a part that is no line: puts and packets, which mark nothing and are no steps
record Silent (p : Pid) (ls : List Line) : Type 0 where
  shut : (o : Option Mark) → Shut p o ls
  none : marks p ls ≡ []

pub parts_shut : (p : Pid) (ps : List Part) (pt : Point) (w : Spelled) → ShutParts p None ps → spelled pt ps ≡ Some w → Shut p None w.lines
parts_shut p qs q w h is =
    let part_shut : (p : Pid) (o : Option Mark) (pt : Point) (q : Part) (ls zs : List Line) → ShutPart o q → lines_of pt q ≡ Some ls → Shut p (mark_behind p o q) zs → Shut p o (ls ++ zs) = λ p o pt q ls zs h1 h2 h3.
    let puts_silent : (p : Pid) (pt : Point) (b : ℕ) (i : MsgId) (k : MessageKind) (q : Pid) (ls : List Line) → Some (puts pt.view b i k q) ≡ Some ls → Silent p ls = λ p pt b i k q ls is. search arith in
    search (arith, bind-is, pt.kernel.bag, pt.view, pt.addresses, puts_silent, shut_append, pt.view.told) in
    by_parts (λ ps pt v. (o : Option Mark) → ShutParts p o ps → Shut p o v.lines) (λ pt o h. tt) (λ x ps pt next ls z lines leads rest o h. part_shut p o pt x ls z.lines h.0 lines (rest (mark_behind p o x) h.1)) qs q w is None h

-- at a line
pub shut_at : (p : Pid) (o : Option Mark) (earlier g : List Line) (l : Line) → Shut p o (earlier ++ l ∷ g) → is_some (open_after o (marks p earlier)) ≡ true → label_of l ≡ None
shut_at p o [] g l h begun_ = h.0 begun_
shut_at p o (x ∷ xs) g l h begun_ =
    shut_at p (open_after o (with_mark p x [])) xs g l h.1 (sym (ap is_some (ap (open_after o) (marks-append p (x ∷ []) xs) ∙ open-append o (with_mark p x []) (marks p xs))) ∙ begun_)
