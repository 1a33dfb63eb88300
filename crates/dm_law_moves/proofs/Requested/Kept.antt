-- What is known, line by line, of each process that moves: which line set it off, and what that followed; and where the put of each
-- directive's message stands. Each group keeps it.
use Rattle.dm_law_moves.proofs.Names.{◌≡◌, ◌⊎◌, ℕ, ◌≤◌, ◌==◌, Bool, true, false, List, [], ◌∷◌, ◌++◌, length, refl, ap, ◌∙◌, sym, subst, inl, inr, cases_Bool, false≢true, if◌then◌else◌, Option, None, Some, Pid, pid_eq, pid_eq-is}
use Rattle.dm_law_moves.proofs.Names.{pid_eq-same, MsgId, id_eq, id_eq-is, MessageKind, Outcome, MoveNote, Boot, BootProcess, PlainMessage, PlainWhat, move_target, option_map_or, Label, Line, Stage, Step, Told, View, Of, Target, NothingElse}
use Rattle.dm_law_moves.proofs.Names.{Known, Here, Frozen, Incoming, at_record, set_all, sets, aim, target_of, known_at, view_after, after_put, put_at, put_told_off, first_point, after, Point, moved, label_of, Part, Says, Routes, Again}
use Rattle.dm_law_moves.proofs.Names.{Owns, Spelled, spelled, puts, own_id, sends_on, called_parts, to_kernel, leaves_for, answers_move, tells_asker, group_of, by_group, begun, said_by, append_assoc, Phase, Moves, IsIn, IsLeft, Asks, Comes}
use Rattle.dm_law_moves.proofs.Names.{InPhases, token_in, told_between, sender_in, receiver_in, is_between, pulls_piece, brings_piece, sort_of, kernel_after, is_put, goes_out, packet_line, Load, front_of, option_and_then, slice_get, Inbox}
use Rattle.dm_law_moves.proofs.Names.{Untaken, standing, Run, is_moving, count, nat_tests, arith, first_told, target_in, source_holds, front_one, here_free, IsAsked, IsDirected, starts, none_some}
use Rattle.dm_law_rule.specs.Rule as rule
use Rattle.dm_law_moves.proofs.After.{after-append, spelled_after}
use Rattle.dm_law_moves.proofs.Leading.{All, Saying, next_of, part_leads}
use Rattle.dm_law_moves.proofs.Stages.Steps.{home_known}
use Rattle.dm_law_moves.proofs.Ends.Parts.{is_migrate, told_by, count-append}
use Rattle.dm_law_moves.proofs.Asked.Following.{EndLine, AllUnmarked, IsUnmarked, marks_note, end_label, plain_notes, ends_notes, here_notes, leaves_notes}
use Rattle.dm_law_moves.proofs.Requested.Deeds.{Deed, Mild, Directs, Calls, IsThere, SetsOff, Obeys, Answers, Ends, AtFront, AtHere, AnswerLine, AllMild, is_wild, outcome_deed}
use Rattle.dm_law_moves.proofs.Requested.Backs.{Leaves, Fresh, sets_moving, parts_back, parts_start, parts_fresh, quiet_more, here_still, head_known, other}

-- the machines that a process leaves and comes to, by what one of them knows
abbrev pub source_at : ℕ → Known → ℕ
source_at m (Incoming from) = from
source_at m _ = m

abbrev pub target_at : ℕ → Known → ℕ
target_at m (Frozen to) = to
target_at m _ = m

-- what step 1 followed: the request that the process follows, or else a directive
abbrev pub Why : Boot → List Line → Pid → ℕ → ℕ → Option MoveNote → Type 0
Why b before p s d (Some n) = (first : List Line) × (before ≡ first ++ Line.Label (Label.Asked n.id) ∷ []) × IsAsked b first n.id p s d
Why b before p s d None = IsDirected b before p s d

-- the last step 1 of the process
pub record Off (b : Boot) (ls : List Line) (p : Pid) (s d : ℕ) (o : Option MoveNote) : Type 0 where
  pub before : List Line
  pub between : List Line
  pub are : ls ≡ before ++ Line.Migration Stage.Frozen p ∷ between
  pub last : count (starts p) between ≡ 0
  pub why : Why b before p s d o

abbrev pub Moving : Boot → List Line → Point → ℕ → Pid → Type 0
Moving b ls pt m p = Off b ls p (source_at m (pt.view.known m p)) (target_at m (pt.view.known m p)) (pt.kernel.notes p)

-- a directive, and the put of its message
pub record Sent (ls : List Line) (i : MsgId) (t : Told) : Type 0 where
  pub earlier : List Line
  pub later : List Line
  pub from : ℕ
  pub to : ℕ
  pub target : ℕ
  pub are : ls ≡ earlier ++ Line.Head (Step.Migrate t.receiver target) ∷ Line.Put from to i MessageKind.Migrate t.receiver ∷ later
  pub about : t.about ≡ Target target

pub record Kept (b : Boot) (ls : List Line) (pt : Point) : Type 0 where
  pub run : after (first_point b) ls ≡ Some pt
  pub moving : (m : ℕ) (p : Pid) → is_moving (pt.view.known m p) ≡ true → Moving b ls pt m p
  pub sent : (i : MsgId) (t : Told) → pt.view.told i ≡ Some t → is_migrate t.kind ≡ true → Sent ls i t

-- before the first line
known_rests : (ps : List BootProcess) (m : ℕ) (p : Pid) → is_moving (known_at ps m p) ≡ false
known_rests [] m p = grind (arith, nat_tests)
known_rests (x ∷ ps) m p = let rest = known_rests ps m p in grind (arith, nat_tests)

pub kept_start : (b : Boot) → Kept b [] (first_point b)
kept_start b = record {
  run = refl;
  moving = λ m p moves. absurd (false≢true (sym (known_rests b.processes m p) ∙ moves));
  sent = λ i t told moves. cc;
}

-- more lines
pub off_on : (b : Boot) (ls xs : List Line) (p : Pid) (s d : ℕ) (o : Option MoveNote) → Off b ls p s d o → count (starts p) xs ≡ 0 → Off b (ls ++ xs) p s d o
off_on b ls xs p s d o h none = record {
  before = h.before;
  between = h.between ++ xs;
  are = ap (λ (ys : List Line). ys ++ xs) h.are ∙ append_assoc h.before (Line.Migration Stage.Frozen p ∷ h.between) xs;
  last = (let sum = count-append (starts p) h.between xs in let last = h.last in omega (arith, sum, last, none));
  why = h.why;
}

sent_on : (ls xs : List Line) (i : MsgId) (t : Told) → Sent ls i t → Sent (ls ++ xs) i t
sent_on ls xs i t h = record {
  earlier = h.earlier;
  later = h.later ++ xs;
  from = h.from;
  to = h.to;
  target = h.target;
  are = ap (λ (ys : List Line). ys ++ xs) h.are ∙ append_assoc h.earlier (Line.Head (Step.Migrate t.receiver h.target) ∷ Line.Put h.from h.to i MessageKind.Migrate t.receiver ∷ h.later) xs;
  about = h.about;
}

-- the message of a move at the front of an inbox is the one that is under way
pub record Token (v : View) (p : Pid) (m : ℕ) (i : MsgId) (k : MessageKind) : Type 0 where
  pub s : ℕ
  pub d : ℕ
  pub phase : IsIn v p (Moves k s d (Some i))
  pub at : m ≡ receiver_in k s d
  pub from : i.from.home ≡ sender_in k s d

token_is : (v : View) (p : Pid) (m : ℕ) (i : MsgId) (t : Told) (phase : Phase) → IsIn v p phase → v.told i ≡ Some t → 1 ≤ standing v i (Inbox m) → token_in phase ≡ Some i → Token v p m i t.kind
token_is v p m i t (Moves k s d (Some j)) is told stands e =
    let same : j ≡ i = cc in
    let moves : IsIn v p (Moves k s d (Some i)) = subst (λ (x : MsgId). IsIn v p (Moves k s d (Some x))) same is in
    let token = moves.token in
    let f : Some t ≡ Some (told_between p k s d) = sym told ∙ token.told in
    let g : t ≡ told_between p k s d = cc in
    subst (λ (x : Told). Token v p m i x.kind) (sym g) (record { s = s; d = d; phase = moves; at = by_ways (token.ways (Inbox m) stands); from = ap (λ (x : Pid). x.home) token.from })
  where
    by_ways : (Inbox m ≡ Inbox (receiver_in k s d)) ⊎ (Inbox m ≡ Untaken (sender_in k s d) (receiver_in k s d)) → m ≡ receiver_in k s d
    by_ways (inl e) = cc
    by_ways (inr e) = cc
token_is v p m i t (Moves k s d None) is told stands e = none_some i e
token_is v p m i t _ is told stands e = none_some i e

not_left : (v : View) (p : Pid) (phase : Phase) (i : MsgId) (t : Told) → pulls_piece (sort_of t.kind) ≡ false → brings_piece (sort_of t.kind) ≡ false → IsLeft v p phase i t → ⊥
not_left v p phase i t pulls brings (Asks s d j is told way is_ before) = false≢true (sym pulls ∙ is)
not_left v p phase i t pulls brings (Comes s d is told way known before) = false≢true (sym brings ∙ is)

token_at : (o : Point) (h : InPhases o.view) (d : Step) (m : ℕ) (i : MsgId) (is : List MsgId) (t : Told) (p : Pid) → AtFront o d m i is t → t.about ≡ Of p → is_between t.kind ≡ true → pulls_piece (sort_of t.kind) ≡ false → brings_piece (sort_of t.kind) ≡ false → Token o.view p m i t.kind
token_at o h d m i is t p f about between pulls brings =
    let stands = front_one o.view m i is f.box in
    elim ((h.each p).alone i t (Inbox m) f.told between about stands) [
      | inl e ↦ token_is o.view p m i t (h.of p) (h.each p) f.told stands e
      | inr left ↦ absurd (not_left o.view p (h.of p) i t pulls brings left)
    ]

pub token_for : (o : Point) (h : InPhases o.view) (d : Step) (m : ℕ) (i : MsgId) (is : List MsgId) (t : Told) (p : Pid) (k : MessageKind) → AtFront o d m i is t → t.about ≡ Of p → t.kind ≡ k → is_between k ≡ true → pulls_piece (sort_of k) ≡ false → brings_piece (sort_of k) ≡ false → Token o.view p m i k
token_for o h d m i is t p k f about kind between pulls brings =
    subst (λ (x : MessageKind). Token o.view p m i x) kind
    (token_at o h d m i is t p f about (ap is_between kind ∙ between) (ap (λ (x : MessageKind). pulls_piece (sort_of x)) kind ∙ pulls) (ap (λ (x : MessageKind). brings_piece (sort_of x)) kind ∙ brings))

-- parts
pub sends_all : (Q : Part → Type 0) → ((i : MsgId) (to : ℕ) → Q (Again i to)) → (to : ℕ) (ids : List MsgId) (ps : List Part) → All Q ps → All Q (sends_on to ids ++ ps)
sends_all Q again to [] ps h = h
sends_all Q again to (i ∷ is) ps h = (again i to, sends_all Q again to is ps h)

mild_leaves : (p : Pid) (ps : List Part) → AllMild ps → All (Leaves p) ps
mild_leaves p [] h = tt
mild_leaves p (Says l ∷ ps) h = ((let e : sets_moving p l ≡ false = by_line l h.0 in e), mild_leaves p ps h.1)
  where
    by_line : (l : Line) → is_wild l ≡ false → sets_moving p l ≡ false
    by_line l e = grind (arith, nat_tests)
mild_leaves p (x ∷ ps) h = (tt, mild_leaves p ps h.1)

mild_fresh : (ps : List Part) → AllMild ps → All Fresh ps
mild_fresh [] h = tt
mild_fresh (Says l ∷ ps) h = (by_line l h.0, mild_fresh ps h.1)
  where
    by_line : (l : Line) → is_wild l ≡ false → Fresh (Says l)
    by_line l e = grind (arith, nat_tests)
mild_fresh (Owns k q to ∷ ps) h = (h.0, mild_fresh ps h.1)
mild_fresh (x ∷ ps) h = (tt, mild_fresh ps h.1)

mild_unmarked : (ps : List Part) → AllMild ps → AllUnmarked ps
mild_unmarked [] h = tt
mild_unmarked (Says l ∷ ps) h = (by_line l h.0, mild_unmarked ps h.1)
  where
    by_line : (l : Line) → is_wild l ≡ false → IsUnmarked l
    by_line l e = grind (arith, nat_tests)
mild_unmarked (x ∷ ps) h = (tt, mild_unmarked ps h.1)

pub asker_all : (Q : Part → Type 0) → ((i : MsgId) (r : Outcome) → Q (Says (Line.Label (Label.Answered i r)))) → ((i : MsgId) → Q (Routes i)) → (o : Option MoveNote) (r : Outcome) → All Q (tells_asker o r)
asker_all Q says routes None r = tt
asker_all Q says routes (Some n) r = (says n.id r, (routes _, tt))

-- a group that doesn't set the process off
still_on : (b : Boot) (ls : List Line) (pt : Point) (d : Step) (ps : List Part) (r : Spelled) (p : Pid) (m : ℕ) → Kept b ls pt → All (Leaves p) ps → spelled (begun pt d) ps ≡ Some r → r.point.kernel.notes p ≡ pt.kernel.notes p → is_moving (r.point.view.known m p) ≡ true
    → Moving b (ls ++ Line.Head d ∷ r.lines) r.point m p
still_on b ls pt d ps r p m h so said notes moves =
    let same : r.point.view.known m p ≡ pt.view.known m p = parts_back p ps (begun pt d) r so said m moves ∙ head_known pt.view d m p in
    let x = pt.view.known m p in
    let old = h.moving m p (ap is_moving (sym same) ∙ moves) in
    let ys = ls ++ Line.Head d ∷ r.lines in
    let more : Off b ys p (source_at m x) (target_at m x) (pt.kernel.notes p) = off_on b ls (Line.Head d ∷ r.lines) p (source_at m x) (target_at m x) (pt.kernel.notes p) old (quiet_more p (Line.Head d) r.lines refl (parts_start p ps (begun pt d) r so said)) in
    subst (λ (o : Option MoveNote). Off b ys p (source_at m (r.point.view.known m p)) (target_at m (r.point.view.known m p)) o) (sym notes) (subst (λ (y : Known). Off b ys p (source_at m y) (target_at m y) (pt.kernel.notes p)) (sym same) more)

-- what a group keeps, where no directive's message is put
abbrev Keeps : Boot → List Line → Step → Spelled → Type 0
Keeps b ls d r = Kept b (ls ++ Line.Head d ∷ r.lines) r.point

kept_by : (b : Boot) (ls : List Line) (pt : Point) (d : Step) (ps : List Part) (r : Spelled) → Kept b ls pt → spelled (begun pt d) ps ≡ Some r → ((m : ℕ) (p : Pid) → is_moving (r.point.view.known m p) ≡ true → Moving b (ls ++ Line.Head d ∷ r.lines) r.point m p)
    → ((i : MsgId) (t : Told) → r.point.view.told i ≡ Some t → is_migrate t.kind ≡ true → Sent (ls ++ Line.Head d ∷ r.lines) i t) → Keeps b ls d r
kept_by b ls pt d ps r h said moving sent = record {
  run = after-append ls (Line.Head d ∷ r.lines) (first_point b) pt r.point h.run (spelled_after ps (begun pt d) r said);
  moving = moving;
  sent = sent;
}

fresh_sent : (b : Boot) (ls : List Line) (pt : Point) (d : Step) (ps : List Part) (r : Spelled) → Kept b ls pt → All Fresh ps → spelled (begun pt d) ps ≡ Some r → (i : MsgId) (t : Told) → r.point.view.told i ≡ Some t → is_migrate t.kind ≡ true → Sent (ls ++ Line.Head d ∷ r.lines) i t
fresh_sent b ls pt d ps r h so said i t told moves = sent_on ls (Line.Head d ∷ r.lines) i t (h.sent i t (sym (told_by pt.view (Line.Head d) refl i) ∙ parts_fresh ps (begun pt d) r so said i t told moves) moves)

-- a directive's message is put
abbrev PutTold : Point → Pid → Point → Type 0
PutTold o q z = (i : MsgId) (t : Told) → z.view.told i ≡ Some t → (o.view.told i ≡ Some t) ⊎ ((own_id o.view ≡ i) × (t ≡ record { kind = MessageKind.Migrate; receiver = q; about = o.view.topic }))

record Put (o : Point) (q : Pid) (to : ℕ) (r : Spelled) : Type 0 where
  more : List Line
  lines : r.lines ≡ Line.Put o.view.acting to (own_id o.view) MessageKind.Migrate q ∷ more
  told : PutTold o q r.point

put_tells : (v : View) (a b : ℕ) (i : MsgId) (k : MessageKind) (q : Pid) (j : MsgId) (t : Told) → (after_put v a b i k q).told j ≡ Some t → (v.told j ≡ Some t) ⊎ ((i ≡ j) × (t ≡ record { kind = k; receiver = q; about = v.topic }))
put_tells v a b i k q j t e = elim (cases_Bool (id_eq i j)) [
  | inl same ↦
      let ij = id_eq-is i j same in
      by_told ij (v.told i) refl (sym (put_at v a b i k q) ∙ ap (after_put v a b i k q).told ij ∙ e)
  | inr off ↦ inl (sym (put_told_off v a b i j k q off) ∙ e)
]
  where
    by_told : i ≡ j → (o : Option Told) → v.told i ≡ o → Some (first_told o (record { kind = k; receiver = q; about = v.topic })) ≡ Some t → (v.told j ≡ Some t) ⊎ ((i ≡ j) × (t ≡ record { kind = k; receiver = q; about = v.topic }))
    by_told ij None was f = inr (ij, (let g : record { kind = k; receiver = q; about = v.topic } ≡ t = cc in sym g))
    by_told ij (Some u) was f = inl (ap v.told (sym ij) ∙ was ∙ f)

-- the packet behind it
abbrev tail_of : View → ℕ → List Line
tail_of v b = if (v.acting == b) then [] else if goes_out (v.pair v.acting b) then packet_line v v.acting b (Load.Data (length (v.pair v.acting b).ids)) ∷ [] else []

put_is : (o : Point) (q : Pid) (to : ℕ) (r : Spelled) → spelled o (Owns MessageKind.Migrate q to ∷ []) ≡ Some r → Put o q to r
put_is o q to r e =
    let n = next_of o (Owns MessageKind.Migrate q to) [] r e in
    let step = part_leads (PutTold o q) (λ z a b k l h. h) o n.next (Owns MessageKind.Migrate q to) (λ i t. put_tells o.view o.view.acting to (own_id o.view) MessageKind.Migrate q i t) n.steps in
    let f : record { lines = []; point = n.next } ≡ n.rest = (let g : Some (record { lines = []; point = n.next }) ≡ Some n.rest = n.more in cc) in
    let last : n.next ≡ n.rest.point = ap (λ (x : Spelled). x.point) f in
    let are : puts o.view to (own_id o.view) MessageKind.Migrate q ≡ n.steps.lines = (let g : Some (puts o.view to (own_id o.view) MessageKind.Migrate q) ≡ Some n.steps.lines = n.steps.are in cc) in
    record { more = tail_of o.view to ++ n.rest.lines; lines = sym n.lines ∙ ap (λ (xs : List Line). xs ++ n.rest.lines) (sym are); told = subst (PutTold o q) (last ∙ n.point) step }

-- it sets off
at_now : (f : ℕ → Pid → Known) (a : ℕ) (q : Pid) (x : Known) (n : ℕ) → is_moving (f n q) ≡ false → is_moving (at_record f a q x n q) ≡ true → (a ≡ n) × (at_record f a q x n q ≡ x)
at_now f a q x n = set_all (λ k p y. is_moving (f k p) ≡ false → is_moving y ≡ true → (a ≡ k) × (y ≡ x)) f a q x (λ rests moves. (refl, refl)) (λ k p off rests moves. absurd (false≢true (sym rests ∙ moves))) n q

pub record Started (q : Pid) (m to : ℕ) (r : Spelled) : Type 0 where
  pub between : List Line
  pub lines : r.lines ≡ Line.Migration Stage.Frozen q ∷ between
  pub last : count (starts q) between ≡ 0
  pub known : (n : ℕ) → is_moving (r.point.view.known n q) ≡ true → (m ≡ n) × (r.point.view.known n q ≡ Frozen to)

-- a line that is no step
pub plain_next : (z : Point) (l : Line) (ps : List Part) (r : Spelled) → label_of l ≡ None → spelled z (Says l ∷ ps) ≡ Some r → (rest : Spelled) × (spelled (moved z l z.kernel) ps ≡ Some rest) × ((l ∷ rest.lines) ≡ r.lines) × (rest.point ≡ r.point)
plain_next z l ps r none e =
    let n = next_of z (Says l) ps r e in
    let k = said_by z n.next l n.steps in
    let same : z.kernel ≡ k.kernel = (let f : Some z.kernel ≡ Some k.kernel = sym (ap (kernel_after z.kernel) none) ∙ k.step in cc) in
    let at_ : moved z l z.kernel ≡ n.next = ap (moved z l) same ∙ k.is in
    let are : l ∷ [] ≡ n.steps.lines = (let g : Some (l ∷ []) ≡ Some n.steps.lines = n.steps.are in cc) in
    (n.rest, ap (λ (x : Point). spelled x ps) at_ ∙ n.more, ap (λ (xs : List Line). xs ++ n.rest.lines) are ∙ n.lines, n.point)

started : (z : Point) (q : Pid) (to there : ℕ) (r : Spelled) → aim z.view z.view.topic ≡ to → ((n : ℕ) → is_moving (z.view.known n q) ≡ false) → spelled z (leaves_for q there) ≡ Some r → Started q z.view.acting to r
started z q to there r aims rests e =
    let l = Line.Migration Stage.Frozen q in
    let ps = Says (Line.Migration Stage.Asked q) ∷ to_kernel MessageKind.Ask there ∷ [] in
    let (rest, more, lines, end) = plain_next z l ps r refl e in
    let next = moved z l z.kernel in
    let leaves : All (Leaves q) ps = (refl, (tt, tt)) in
    let now : next.view.known ≡ at_record z.view.known z.view.acting q (Frozen to) = (sets z.view q z.view.topic).known ∙ ap (λ (d : ℕ). at_record z.view.known z.view.acting q (Frozen d)) aims in
    record {
      between = rest.lines;
      lines = sym lines;
      last = parts_start q ps next rest leaves more;
      known = λ n moves.
          let moves_ : is_moving (rest.point.view.known n q) ≡ true = ap (λ (x : Point). is_moving (x.view.known n q)) end ∙ moves in
          let back = parts_back q ps next rest leaves more n moves_ in
          let is : r.point.view.known n q ≡ at_record z.view.known z.view.acting q (Frozen to) n q = ap (λ (x : Point). x.view.known n q) (sym end) ∙ back ∙ ap (λ (f : ℕ → Pid → Known). f n q) now in
          let (here, now_) = at_now z.view.known z.view.acting q (Frozen to) n (rests n) (ap is_moving (sym is) ∙ moves) in
          (here, is ∙ now_);
    }

-- and so it moves, behind the group
started_moves : (b : Boot) (ys before between : List Line) (q : Pid) (m to n : ℕ) (x : Known) (o : Option MoveNote) → ys ≡ before ++ Line.Migration Stage.Frozen q ∷ between → count (starts q) between ≡ 0 → Why b before q m to o → (m ≡ n) × (x ≡ Frozen to) → Off b ys q (source_at n x) (target_at n x) o
started_moves b ys before between q m to n x o are last why h =
    let off : Off b ys q m to o = record { before = before; between = between; are = are; last = last; why = why } in
    subst (λ (y : Known). Off b ys q (source_at n y) (target_at n y) o) (sym h.1) (subst (λ (k : ℕ). Off b ys q k to o) h.0 off)

-- the rows
noted_off : (q p : Pid) (now was : Option MoveNote) → pid_eq q p ≡ false → (if pid_eq q p then now else was) ≡ was
noted_off q p now was off = ap (λ (c : Bool). if c then now else was) off

mild_keeps : (b : Boot) (ls : List Line) (pt : Point) (d : Step) (ps : List Part) (r : Spelled) → Kept b ls pt → AllMild ps → spelled (begun pt d) ps ≡ Some r → Keeps b ls d r
mild_keeps b ls pt d ps r h so said =
    kept_by b ls pt d ps r h said (λ m p. still_on b ls pt d ps r p m h (mild_leaves p ps so) said (plain_notes p ps (begun pt d) r (mild_unmarked ps so) said)) (fresh_sent b ls pt d ps r h (mild_fresh ps so) said)

directs_keeps : (b : Boot) (ls : List Line) (pt : Point) (q : Pid) (m to : ℕ) (r : Spelled) → Kept b ls pt → spelled (begun pt (Step.Migrate q m)) (Owns MessageKind.Migrate q to ∷ []) ≡ Some r → Keeps b ls (Step.Migrate q m) r
directs_keeps b ls pt q m to r h said =
    let d = Step.Migrate q m in
    let o = begun pt d in
    let ps = Owns MessageKind.Migrate q to ∷ [] in
    let put = put_is o q to r said in
    kept_by b ls pt d ps r h said (λ n p. still_on b ls pt d ps r p n h (tt, tt) said (plain_notes p ps o r (tt, tt) said))
    (λ i t told moves. elim (put.told i t told) [
      | inl was ↦ sent_on ls (Line.Head d ∷ r.lines) i t (h.sent i t was moves)
      | inr new ↦
          let receiver : q ≡ t.receiver = sym (ap (λ (x : Told). x.receiver) new.1) in
          record {
            earlier = ls;
            later = put.more;
            from = o.view.acting;
            to = to;
            target = m;
            are = ap (λ (xs : List Line). ls ++ Line.Head d ∷ xs) (put.lines ∙ ap (λ (j : MsgId). Line.Put o.view.acting to j MessageKind.Migrate q ∷ put.more) new.0)
                ∙ ap (λ (p : Pid). ls ++ Line.Head (Step.Migrate p m) ∷ Line.Put o.view.acting to i MessageKind.Migrate p ∷ put.more) receiver;
            about = ap (λ (x : Told). x.about) new.1;
          }
    ])

calls_keeps : (b : Boot) (ls : List Line) (pt : Point) (d : Step) (q : Pid) (ids : List MsgId) (from : ℕ) (r : Spelled) → Kept b ls pt → spelled (begun pt d) (called_parts q ids from) ≡ Some r → Keeps b ls d r
calls_keeps b ls pt d q ids from r h said =
    let ps = called_parts q ids from in
    let last = to_kernel MessageKind.CallOff from ∷ [] in
    kept_by b ls pt d ps r h said
    (λ m p. still_on b ls pt d ps r p m h (refl, sends_all (Leaves p) (λ i to. tt) from ids last (tt, tt)) said (plain_notes p ps (begun pt d) r (refl, sends_all (Saying IsUnmarked) (λ i to. tt) from ids last (tt, tt)) said))
    (fresh_sent b ls pt d ps r h (refl, sends_all Fresh (λ i to. tt) from ids last (refl, tt)) said)

there_keeps : (b : Boot) (ls : List Line) (pt : Point) (d : Step) (m : ℕ) (id : MsgId) (msg : PlainMessage) (r : Spelled) → Kept b ls pt → InPhases pt.view → AtHere pt d m id msg → spelled (begun pt d) (rule.says (Label.Asked id) ∷ answers_move id Outcome.Done) ≡ Some r → Keeps b ls d r
there_keeps b ls pt d m id msg r h phases at_ said =
    let ps = rule.says (Label.Asked id) ∷ answers_move id Outcome.Done in
    kept_by b ls pt d ps r h said
    (λ n p moves. elim (cases_Bool (pid_eq msg.to p)) [
      | inl same ↦
          let back = parts_back p ps (begun pt d) r (refl, (refl, (tt, tt))) said n moves ∙ head_known pt.view d n p in
          let here : pt.view.known m p ≡ Here = ap (pt.view.known m) (sym (pid_eq-is msg.to p same)) ∙ at_.here in
          absurd (false≢true (sym (here_still pt.view phases p m n here) ∙ ap is_moving (sym back) ∙ moves))
      | inr off ↦ still_on b ls pt d ps r p n h (refl, (refl, (tt, tt))) said (here_notes (begun pt d) id msg p r at_.there off said) moves
    ])
    (fresh_sent b ls pt d ps r h (refl, (refl, (tt, tt))) said)

sets_off_keeps : (b : Boot) (ls : List Line) (pt : Point) (m : ℕ) (id : MsgId) (msg : PlainMessage) (to : ℕ) (r : Spelled) → Kept b ls pt → InPhases pt.view → pt.kernel.bag id ≡ Some msg → pt.view.known m msg.to ≡ Here → msg.what ≡ PlainWhat.Move to
    → spelled (begun pt (Step.Turn m)) (rule.says (Label.Asked id) ∷ leaves_for msg.to to) ≡ Some r → Keeps b ls (Step.Turn m) r
sets_off_keeps b ls pt m id msg to r h phases there here what said =
    let d = Step.Turn m in
    let o = begun pt d in
    let q = msg.to in
    let l = Line.Label (Label.Asked id) in
    let ps = rule.says (Label.Asked id) ∷ leaves_for q to in
    let n1 = next_of o (Says l) (leaves_for q to) r said in
    let k1 = said_by o n1.next l n1.steps in
    let z = moved o l k1.kernel in
    let more : spelled z (leaves_for q to) ≡ Some n1.rest = ap (λ (x : Point). spelled x (leaves_for q to)) k1.is ∙ n1.more in
    let topic : z.view.topic ≡ Target to = ap (λ (x : Option PlainMessage). option_map_or (λ y. move_target y.what) x NothingElse) there ∙ ap move_target what in
    let s = started z q to to n1.rest (ap (aim z.view) topic) (λ n. here_still pt.view phases q m n here) more in
    let are : l ∷ [] ≡ n1.steps.lines = (let g : Some (l ∷ []) ≡ Some n1.steps.lines = n1.steps.are in cc) in
    let lines : r.lines ≡ l ∷ Line.Migration Stage.Frozen q ∷ s.between = sym n1.lines ∙ ap (λ (xs : List Line). xs ++ n1.rest.lines) (sym are) ∙ ap (λ (xs : List Line). l ∷ xs) s.lines in
    let first = ls ++ Line.Head d ∷ [] in
    let note : MoveNote = record { id = id; asker = msg.sender } in
    let notes : r.point.kernel.notes q ≡ Some note = leaves_notes o id msg to q r there said ∙ ap (λ (c : Bool). if c then Some note else o.kernel.notes q) (pid_eq-same q) in
    let asked : IsAsked b first id q m to = record { point = o; stands = after-append ls (Line.Head d ∷ []) (first_point b) pt o h.run refl; request = msg; there = there; receiver = refl; named = what; acting = refl; here = here } in
    let whole : ls ++ Line.Head d ∷ r.lines ≡ (first ++ l ∷ []) ++ Line.Migration Stage.Frozen q ∷ s.between =
    ap (λ (xs : List Line). ls ++ Line.Head d ∷ xs) lines ∙ sym (append_assoc ls (Line.Head d ∷ []) (l ∷ Line.Migration Stage.Frozen q ∷ s.between)) ∙ sym (append_assoc first (l ∷ []) (Line.Migration Stage.Frozen q ∷ s.between)) in
    let mine : (n : ℕ) → is_moving (r.point.view.known n q) ≡ true → Moving b (ls ++ Line.Head d ∷ r.lines) r.point n q =
    λ n moves.
    let at_ : (m ≡ n) × (r.point.view.known n q ≡ Frozen to) = subst (λ (x : Point). is_moving (x.view.known n q) ≡ true → (m ≡ n) × (x.view.known n q ≡ Frozen to)) n1.point (s.known n) moves in
    subst (λ (x : Option MoveNote). Off b (ls ++ Line.Head d ∷ r.lines) q (source_at n (r.point.view.known n q)) (target_at n (r.point.view.known n q)) x) (sym notes)
    (started_moves b (ls ++ Line.Head d ∷ r.lines) (first ++ l ∷ []) s.between q m to n (r.point.view.known n q) (Some note) whole s.last (first, refl, asked) at_) in
    kept_by b ls pt d ps r h said
    (λ n p moves. elim (cases_Bool (pid_eq q p)) [
      | inl same ↦ subst (λ (x : Pid). is_moving (r.point.view.known n x) ≡ true → Moving b (ls ++ Line.Head d ∷ r.lines) r.point n x) (pid_eq-is q p same) (mine n) moves
      | inr off ↦ still_on b ls pt d ps r p n h (refl, (other q p off, (refl, (tt, tt)))) said (leaves_notes o id msg to p r there said ∙ noted_off q p (Some note) (pt.kernel.notes p) off) moves
    ])
    (fresh_sent b ls pt d ps r h (refl, (refl, (refl, (refl, tt)))) said)

obeys_keeps : (b : Boot) (ls : List Line) (pt : Point) (m : ℕ) (i : MsgId) (is : List MsgId) (t : Told) (r : Spelled) → Kept b ls pt → InPhases pt.view → pt.view.inbox m ≡ i ∷ is → pt.view.told i ≡ Some t → is_migrate t.kind ≡ true → pt.view.known m t.receiver ≡ Here → pt.kernel.notes t.receiver ≡ None
    → spelled (begun pt (Step.Turn m)) (leaves_for t.receiver (target_of (Some t))) ≡ Some r → Keeps b ls (Step.Turn m) r
obeys_keeps b ls pt m i is t r h phases box told migrate here free said =
    let d = Step.Turn m in
    let o = begun pt d in
    let q = t.receiver in
    let ps = leaves_for q (target_of (Some t)) in
    let sent = h.sent i t told migrate in
    let to = sent.target in
    let aims : aim o.view o.view.topic ≡ to = ap (λ (xs : List MsgId). target_of (option_and_then pt.view.told (slice_get xs 0))) box ∙ ap target_of told ∙ ap target_in sent.about in
    let s = started o q to (target_of (Some t)) r aims (λ n. here_still pt.view phases q m n here) said in
    let first = ls ++ Line.Head d ∷ [] in
    let plain : (p : Pid) → r.point.kernel.notes p ≡ pt.kernel.notes p = λ p. plain_notes p ps o r (refl, (refl, (tt, tt))) said in
    let directed : IsDirected b first q m to = record {
      message = i;
      from = sent.from;
      to = sent.to;
      earlier = sent.earlier;
      later = sent.later ++ Line.Head d ∷ [];
      put = ap (λ (xs : List Line). xs ++ Line.Head d ∷ []) sent.are ∙ append_assoc sent.earlier (Line.Head (Step.Migrate q to) ∷ Line.Put sent.from sent.to i MessageKind.Migrate q ∷ sent.later) (Line.Head d ∷ []);
      point = o;
      stands = after-append ls (Line.Head d ∷ []) (first_point b) pt o h.run refl;
      others = is;
      first = box;
      acting = refl;
      here = here;
    } in
    let whole : ls ++ Line.Head d ∷ r.lines ≡ first ++ Line.Migration Stage.Frozen q ∷ s.between = ap (λ (xs : List Line). ls ++ Line.Head d ∷ xs) s.lines ∙ sym (append_assoc ls (Line.Head d ∷ []) (Line.Migration Stage.Frozen q ∷ s.between)) in
    let mine : (n : ℕ) → is_moving (r.point.view.known n q) ≡ true → Moving b (ls ++ Line.Head d ∷ r.lines) r.point n q =
    λ n moves.
    subst (λ (x : Option MoveNote). Off b (ls ++ Line.Head d ∷ r.lines) q (source_at n (r.point.view.known n q)) (target_at n (r.point.view.known n q)) x) (sym (plain q ∙ free))
    (started_moves b (ls ++ Line.Head d ∷ r.lines) first s.between q m to n (r.point.view.known n q) None whole s.last directed (s.known n moves)) in
    kept_by b ls pt d ps r h said
    (λ n p moves. elim (cases_Bool (pid_eq q p)) [
      | inl same ↦ subst (λ (x : Pid). is_moving (r.point.view.known n x) ≡ true → Moving b (ls ++ Line.Head d ∷ r.lines) r.point n x) (pid_eq-is q p same) (mine n) moves
      | inr off ↦ still_on b ls pt d ps r p n h (other q p off, (refl, (tt, tt))) said (plain p) moves
    ])
    (fresh_sent b ls pt d ps r h (refl, (refl, (refl, tt))) said)

-- whether it may come is answered
answers_with : (b : Boot) (ls : List Line) (pt : Point) (d : Step) (l : Line) (k : MessageKind) (to : ℕ) (r : Spelled) → Kept b ls pt → is_put l ≡ false → label_of l ≡ None → is_migrate k ≡ false
    → ((n : ℕ) (p : Pid) → ((sets_moving p l ≡ false) ⊎ (is_moving (r.point.view.known n p) ≡ true → Moving b (ls ++ Line.Head d ∷ r.lines) r.point n p))) → spelled (begun pt d) (Says l ∷ to_kernel k to ∷ []) ≡ Some r → Keeps b ls d r
answers_with b ls pt d l k to r h quiet none fresh each said =
    let ps = Says l ∷ to_kernel k to ∷ [] in
    let unmarked : IsUnmarked l = ap marks_note none in
    kept_by b ls pt d ps r h said
    (λ n p moves. elim (each n p) [
      | inl leaves ↦ still_on b ls pt d ps r p n h (leaves, (tt, tt)) said (plain_notes p ps (begun pt d) r (unmarked, (tt, tt)) said) moves
      | inr mine ↦ mine moves
    ])
    (fresh_sent b ls pt d ps r h (quiet, (fresh, tt)) said)

-- a process is accepted that is to come here from there
accepts_keeps : (b : Boot) (ls : List Line) (pt : Point) (m : ℕ) (i : MsgId) (is : List MsgId) (q : Pid) (k : MessageKind) (to : ℕ) (r : Spelled) → Kept b ls pt → pt.view.inbox m ≡ i ∷ is → pt.view.known i.from.home q ≡ Frozen m → is_migrate k ≡ false
    → spelled (begun pt (Step.Turn m)) (Says (Line.Migration Stage.Accepted q) ∷ to_kernel k to ∷ []) ≡ Some r → Keeps b ls (Step.Turn m) r
accepts_keeps b ls pt m i is q k to r h box frozen fresh said =
    let d = Step.Turn m in
    let o = begun pt d in
    let l = Line.Migration Stage.Accepted q in
    let ps = to_kernel k to ∷ [] in
    let ys = ls ++ Line.Head d ∷ r.lines in
    let from = i.from.home in
    let (rest, more, lines, end) = plain_next o l ps r refl said in
    let z = moved o l o.kernel in
    let notes : r.point.kernel.notes q ≡ pt.kernel.notes q = plain_notes q (Says l ∷ ps) o r (refl, (tt, tt)) said in
    let now : z.view.known ≡ at_record pt.view.known m q (Incoming from) = ap (λ (xs : List MsgId). at_record pt.view.known m q (Incoming (front_of xs))) box in
    let none : count (starts q) (Line.Head d ∷ r.lines) ≡ 0 = ap (λ (xs : List Line). count (starts q) (Line.Head d ∷ xs)) (sym lines) ∙ quiet_more q (Line.Head d) (l ∷ rest.lines) refl (quiet_more q l rest.lines refl (parts_start q ps z rest (tt, tt) more)) in
    let coming : Off b ys q from m (pt.kernel.notes q) = off_on b ls (Line.Head d ∷ r.lines) q from m (pt.kernel.notes q) (subst (λ (x : Known). is_moving x ≡ true → Off b ls q (source_at from x) (target_at from x) (pt.kernel.notes q)) frozen (h.moving from q) refl) none in
    let mine : (n : ℕ) → is_moving (r.point.view.known n q) ≡ true → Moving b ys r.point n q =
    λ n moves.
    let moves_ : is_moving (rest.point.view.known n q) ≡ true = ap (λ (x : Point). is_moving (x.view.known n q)) end ∙ moves in
    let is_ : r.point.view.known n q ≡ at_record pt.view.known m q (Incoming from) n q = ap (λ (x : Point). x.view.known n q) (sym end) ∙ parts_back q ps z rest (tt, tt) more n moves_ ∙ ap (λ (f : ℕ → Pid → Known). f n q) now in
    let at_ : ((m ≡ n) × (at_record pt.view.known m q (Incoming from) n q ≡ Incoming from)) ⊎ (at_record pt.view.known m q (Incoming from) n q ≡ pt.view.known n q) =
    set_all (λ c p y. ((m ≡ c) × (y ≡ Incoming from)) ⊎ (y ≡ pt.view.known c p)) pt.view.known m q (Incoming from) (inl (refl, refl)) (λ c p off. inr refl) n q in
    let mine_ : Off b ys q (source_at n (r.point.view.known n q)) (target_at n (r.point.view.known n q)) (pt.kernel.notes q) =
    elim at_ [
      | inl set ↦ subst (λ (x : Known). Off b ys q (source_at n x) (target_at n x) (pt.kernel.notes q)) (sym (is_ ∙ set.1)) (subst (λ (c : ℕ). Off b ys q from c (pt.kernel.notes q)) set.0 coming)
      | inr was ↦
          let same : r.point.view.known n q ≡ pt.view.known n q = is_ ∙ was in
          let x = pt.view.known n q in
          subst (λ (y : Known). Off b ys q (source_at n y) (target_at n y) (pt.kernel.notes q)) (sym same) (off_on b ls (Line.Head d ∷ r.lines) q (source_at n x) (target_at n x) (pt.kernel.notes q) (h.moving n q (ap is_moving (sym same) ∙ moves)) none)
    ] in
    subst (λ (x : Option MoveNote). Off b ys q (source_at n (r.point.view.known n q)) (target_at n (r.point.view.known n q)) x) (sym notes) mine_ in
    answers_with b ls pt d l k to r h refl refl fresh
    (λ n p. elim (cases_Bool (pid_eq q p)) [
      | inl same ↦ inr (subst (λ (x : Pid). is_moving (r.point.view.known n x) ≡ true → Moving b ys r.point n x) (pid_eq-is q p same) (mine n))
      | inr off ↦ inl (other q p off)
    ]) said

-- a move ends
end_leaves : (p q : Pid) (r : Outcome) (l : Line) → EndLine q r l → sets_moving p l ≡ false
end_leaves p q Outcome.Done l e = ap (sets_moving p) e
end_leaves p q Outcome.Stayed l e = ap (sets_moving p) e
end_leaves p q Outcome.Ended l e = absurd e

end_quiet : (q : Pid) (r : Outcome) (l : Line) → EndLine q r l → is_put l ≡ false
end_quiet q Outcome.Done l e = ap is_put e
end_quiet q Outcome.Stayed l e = ap is_put e
end_quiet q Outcome.Ended l e = absurd e

pub end_known : (v : View) (q : Pid) (r : Outcome) (l : Line) → EndLine q r l → (view_after v l).known ≡ at_record v.known v.acting q Here
end_known v q Outcome.Done l e = ap (λ (x : Line). (view_after v x).known) e
end_known v q Outcome.Stayed l e = ap (λ (x : Line). (view_after v x).known) e
end_known v q Outcome.Ended l e = absurd e

asker_notes : (o : Point) (q p : Pid) (a : Option MoveNote) (l : Line) (r : Outcome) (w : Spelled) → ((n : MoveNote) → a ≡ Some n → o.kernel.noted n.id ≡ Some q) → EndLine q r l → pid_eq q p ≡ false → spelled o (Says l ∷ tells_asker a r) ≡ Some w → w.point.kernel.notes p ≡ o.kernel.notes p
asker_notes o q p None l r w noted end off e = plain_notes p (Says l ∷ []) o w (ap marks_note (end_label q r l end), tt) e
asker_notes o q p (Some n) l r w noted end off e = ends_notes o q p n l r w (noted n refl) end e ∙ noted_off q p None (o.kernel.notes p) off

ends_keeps : (b : Boot) (ls : List Line) (pt : Point) (m : ℕ) (q : Pid) (l : Line) (o : Outcome) (r : Spelled) → Kept b ls pt → Run b pt → InPhases r.point.view → EndLine q o l → spelled (begun pt (Step.Turn m)) (Says l ∷ tells_asker (pt.kernel.notes q) o) ≡ Some r → Keeps b ls (Step.Turn m) r
ends_keeps b ls pt m q l o r h run behind_ end said =
    let d = Step.Turn m in
    let a = pt.kernel.notes q in
    let ps = Says l ∷ tells_asker a o in
    let here : r.point.view.known m q ≡ Here = home_known (begun pt d) l a o r q (end_label q o l end) (end_known (begun pt d).view q o l end) said in
    kept_by b ls pt d ps r h said
    (λ n p moves. elim (cases_Bool (pid_eq q p)) [
      | inl same ↦ absurd (false≢true (sym (here_still r.point.view behind_ q m n here) ∙ ap (λ (x : Pid). is_moving (r.point.view.known n x)) (pid_eq-is q p same) ∙ moves))
      | inr off ↦ still_on b ls pt d ps r p n h (end_leaves p q o l end, asker_all (Leaves p) (λ i x. refl) (λ i. tt) a o) said (asker_notes (begun pt d) q p a l o r (λ x was. run.based.phased.sane.sound.notes.noted q x was) end off said) moves
    ])
    (fresh_sent b ls pt d ps r h (end_quiet q o l end, asker_all Fresh (λ i x. refl) (λ i. tt) a o) said)

-- a group by its deed
answer_keeps : (b : Boot) (ls : List Line) (pt : Point) (m : ℕ) (i : MsgId) (is : List MsgId) (t : Told) (q : Pid) (l : Line) (k : MessageKind) (r : Spelled) → Kept b ls pt → InPhases pt.view → AtFront pt (Step.Turn m) m i is t → t.about ≡ Of q → t.kind ≡ MessageKind.Ask → AnswerLine q l → is_migrate k ≡ false
    → spelled (begun pt (Step.Turn m)) (Says l ∷ to_kernel k i.from.home ∷ []) ≡ Some r → Keeps b ls (Step.Turn m) r
answer_keeps b ls pt m i is t q l k r h phases f about ask (inl accepted) fresh said =
    let token = token_for pt phases (Step.Turn m) m i is t q MessageKind.Ask f about ask refl refl refl in
    let held = source_holds pt.view q MessageKind.Ask token.s token.d (Some i) token.phase refl in
    let frozen : pt.view.known i.from.home q ≡ Frozen m = ap (λ (x : ℕ). pt.view.known x q) token.from ∙ held ∙ ap Frozen (sym token.at) in
    accepts_keeps b ls pt m i is q k i.from.home r h f.box frozen fresh (ap (λ (x : Line). spelled (begun pt (Step.Turn m)) (Says x ∷ to_kernel k i.from.home ∷ [])) (sym accepted) ∙ said)
answer_keeps b ls pt m i is t q l k r h phases f about ask (inr (s, c, lacks)) fresh said =
    answers_with b ls pt (Step.Turn m) l k i.from.home r h (ap is_put lacks) (ap label_of lacks) fresh (λ n p. inl (ap (sets_moving p) lacks)) said

deed_keeps : (b : Boot) (ls : List Line) (pt : Point) (d : Step) (ps : List Part) (r : Spelled) → Kept b ls pt → Run b pt → InPhases r.point.view → spelled (begun pt d) ps ≡ Some r → Deed pt d ps → Keeps b ls d r
deed_keeps b ls pt d ps r h run behind_ said (Mild so) = mild_keeps b ls pt d ps r h so said
deed_keeps b ls pt d ps r h run behind_ said (Directs q m to turn are) = subst (λ (x : Step). spelled (begun pt x) (Owns MessageKind.Migrate q to ∷ []) ≡ Some r → Keeps b ls x r) (sym turn) (directs_keeps b ls pt q m to r h) (ap (spelled (begun pt d)) (sym are) ∙ said)
deed_keeps b ls pt d ps r h run behind_ said (Calls m q from turn known are) = calls_keeps b ls pt d q (pt.view.held m q) from r h (ap (spelled (begun pt d)) (sym are) ∙ said)
deed_keeps b ls pt d ps r h run behind_ said (IsThere m id msg at_ what are) = there_keeps b ls pt d m id msg r h run.based.phased.phases at_ (ap (spelled (begun pt d)) (sym are) ∙ said)
deed_keeps b ls pt d ps r h run behind_ said (SetsOff m id msg to at_ what are) =
    subst (λ (x : Step). spelled (begun pt x) (rule.says (Label.Asked id) ∷ leaves_for msg.to to) ≡ Some r → Keeps b ls x r) (sym at_.turn) (sets_off_keeps b ls pt m id msg to r h run.based.phased.phases at_.there at_.here what) (ap (spelled (begun pt d)) (sym are) ∙ said)
deed_keeps b ls pt d ps r h run behind_ said (Obeys m i is t f migrate here are) =
    subst (λ (x : Step). spelled (begun pt x) (leaves_for t.receiver (target_of (Some t))) ≡ Some r → Keeps b ls x r) (sym f.turn)
    (obeys_keeps b ls pt m i is t r h run.based.phased.phases f.box f.told migrate here (here_free pt.kernel pt.view m t.receiver run.based.noted here)) (ap (spelled (begun pt d)) (sym are) ∙ said)
deed_keeps b ls pt d ps r h run behind_ said (Answers m i is t q l k f about ask line fresh are) =
    subst (λ (x : Step). spelled (begun pt x) (Says l ∷ to_kernel k i.from.home ∷ []) ≡ Some r → Keeps b ls x r) (sym f.turn)
    (answer_keeps b ls pt m i is t q l k r h run.based.phased.phases (record { turn = refl; box = f.box; told = f.told }) about ask line fresh) (ap (spelled (begun pt d)) (sym are) ∙ said)
deed_keeps b ls pt d ps r h run behind_ said (Ends m i is t q l o f about by end are) =
    subst (λ (x : Step). spelled (begun pt x) (Says l ∷ tells_asker (pt.kernel.notes q) o) ≡ Some r → Keeps b ls x r) (sym f.turn) (ends_keeps b ls pt m q l o r h run behind_ end) (ap (spelled (begun pt d)) (sym are) ∙ said)

pub kept_group : (b : Boot) (ls : List Line) (pt : Point) (d : Step) (w : Spelled) → Kept b ls pt → Run b pt → InPhases w.point.view → group_of b pt d ≡ Some w → Kept b (ls ++ w.lines) w.point
kept_group b ls pt d w h run behind_ is =
    by_group (λ v. InPhases v.point.view → Kept b (ls ++ v.lines) v.point) b pt d w (λ ps rest outcome said phases. deed_keeps b ls pt d ps rest h run phases said (outcome_deed b pt d ps outcome)) is behind_
