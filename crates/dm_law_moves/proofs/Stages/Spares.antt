-- The marks of lines: of one list after another, and of the lines that parts say.
use Rattle.dm_law_moves.proofs.Names.{◌≡◌, ℕ, ◌≤◌, ◌==◌, Bool, true, false, List, [], refl, ap, ◌∙◌, sym, subst, inl, inr, if◌then◌else◌, Option, None, Some, cases_Bool, false≢true, Pid, MsgId, MessageKind, id_eq, View, Told, Of, Known}
use Rattle.dm_law_moves.proofs.Names.{Unknown, Here, Frozen, Incoming, after_put, Spot, standing, is_between, is_restart, is_early, is_away, is_here, is_unknown, knows, Phase, Nowhere, Rests, Over, Moves, is_due, token_in, told_between}
use Rattle.dm_law_moves.proofs.Names.{IsIn, id_eq-is, PairsFit, put_told_off, Calm, between_of, put_spots, put_at, put_there, put_spot, rests_here, Mark, Reached, Lacking, in_order, eq_self, not_false, right_true, first_kept, nat_tests}
use Rattle.dm_law_moves.proofs.Names.{arith, calm_about, calm_same, About, ◌∷◌, ◌++◌, pid_eq, Boot, pid_eq-same, Step, Line, Point, moved, Part, Says, Spelled, lines_of, spelled, sends_on, group_of, outcome, mark_for, with_mark, marks}
use Rattle.dm_law_moves.proofs.Names.{left_open, left_true, both_true, by_parts, group_is, pid_of, ◌&&◌, kind_comes, sort_of, sender_in, receiver_in, eq_is, tells_onward, is_calloff, Calling, ◌||◌, pulls_piece, brings_piece, IsLeft, Asks}
use Rattle.dm_law_moves.proofs.Names.{Comes, piece_ways, pull_ways, comes_known, called_known, not_true, Forward, none_some}
use Rattle.dm_law_rule.specs.View as view
use Rattle.dm_law_moves.proofs.Leading.{lines_are}

-- the mark that is last behind these marks, if its migration isn't over
abbrev pub open_after : Option Mark → List Mark → Option Mark
open_after last [] = last
open_after last (m ∷ ms) = open_after (left_open m) ms

pub order-append : (o : Option Mark) (xs ys : List Mark) → in_order o xs ≡ true → in_order (open_after o xs) ys ≡ true → in_order o (xs ++ ys) ≡ true
order-append o [] ys e f = f
order-append o (x ∷ xs) ys e f = search (both_true, left_true, right_true, order-append (left_open x) xs ys)

pub open-append : (o : Option Mark) (xs ys : List Mark) → open_after o (xs ++ ys) ≡ open_after (open_after o xs) ys
open-append o [] ys = refl
open-append o (x ∷ xs) ys = open-append (left_open x) xs ys

-- marks of lists
pub marks-append : (p : Pid) (xs ys : List Line) → marks p (xs ++ ys) ≡ marks p xs ++ marks p ys
marks-append p [] ys = refl
marks-append p (l ∷ xs) ys = ap (with_mark p l) (marks-append p xs ys) ∙ (let e_ : with_mark p l ((marks p xs) ++ (marks p ys)) ≡ with_mark p l (marks p xs) ++ (marks p ys) = grind (arith, nat_tests) in e_)

-- the marks that parts say
abbrev pub mark_part : Pid → Part → List Mark → List Mark
mark_part p (Says l) ms = with_mark p l ms
mark_part p _ ms = ms

abbrev pub marks_of : Pid → List Part → List Mark
marks_of p [] = []
marks_of p (q ∷ ps) = mark_part p q (marks_of p ps)

-- a group, its head and its parts
pub record GroupSays (b : Boot) (pt : Point) (d : Step) (w : Spelled) : Type 0 where
  pub parts : List Part
  pub is : outcome b pt d ≡ Some parts
  pub rest : Spelled
  pub said : spelled (moved pt (Line.Head d) pt.kernel) parts ≡ Some rest
  pub point : rest.point ≡ w.point
  pub marked : (p : Pid) → marks p w.lines ≡ marks_of p parts

pub group_says : (b : Boot) (pt : Point) (d : Step) (w : Spelled) → group_of b pt d ≡ Some w → GroupSays b pt d w
group_says b pt d w e =
    let spelled_marks : (p : Pid) (ps : List Part) (pt : Point) (w : Spelled) → spelled pt ps ≡ Some w → marks p w.lines ≡ marks_of p ps = λ p.
    let part_marks : (p : Pid) (pt : Point) (q : Part) (ls zs : List Line) → lines_of pt q ≡ Some ls → marks p (ls ++ zs) ≡ mark_part p q (marks p zs) = λ p pt q ls zs is. grind (arith, nat_tests, lines_are) in
    by_parts (λ ps pt w. marks p w.lines ≡ marks_of p ps) (λ pt. refl) (λ q ps pt next ls z lines leads rest. part_marks p pt q ls z.lines lines ∙ ap (mark_part p q) rest) in
    let g = group_is b pt d w e in
    record { parts = g.parts; is = g.is; rest = g.rest; said = g.said; point = g.point; marked = λ p. ap (λ (x : Spelled). marks p x.lines) (sym g.whole) ∙ spelled_marks p g.parts (moved pt (Line.Head d) pt.kernel) g.rest g.said }

-- a line about one process marks it, and no other
pub mark_same : (p : Pid) (m : Mark) (ms : List Mark) → mark_for p p m ms ≡ m ∷ ms
mark_same p m ms = ap (λ (c : Bool). if c then m ∷ ms else ms) (pid_eq-same p)

pub mark_other : (p q : Pid) (m : Mark) (ms : List Mark) → pid_eq p q ≡ false → mark_for p q m ms ≡ ms
mark_other p q m ms e = ap (λ (c : Bool). if c then m ∷ ms else ms) e

pub marks_sent : (p : Pid) (to : ℕ) (ids : List MsgId) (ps : List Part) → marks_of p (sends_on to ids ++ ps) ≡ marks_of p ps
marks_sent p to [] ps = refl
marks_sent p to (i ∷ is) ps = marks_sent p to is ps

-- How far the marks of a process have come by its phase; and what leaves that as it is.

-- the last mark, by the message that is under way
abbrev pub mark_of : MessageKind → Option Mark
mark_of MessageKind.Ask = Some (Reached 2)
mark_of MessageKind.Refuse = Some Lacking
mark_of MessageKind.PullState = Some (Reached 3)
mark_of MessageKind.State = Some (Reached 3)
mark_of MessageKind.PullBlock = Some (Reached 4)
mark_of MessageKind.Memory = Some (Reached 4)
mark_of MessageKind.AllTaken = Some (Reached 5)
mark_of MessageKind.Restart = Some (Reached 7)
mark_of MessageKind.CallOff = Some Calling
mark_of _ = None

abbrev pub mark_in : Phase → Option Mark
mark_in (Moves k s d id) = mark_of k
mark_in _ = None

-- a machine neither holds the process back nor expects it
abbrev pub is_settled : Known → Bool
is_settled (Frozen to) = false
is_settled (Incoming from) = false
is_settled _ = true

-- what was told stays, no message about this process's migration goes, and no machine comes to hold it back or to expect it
pub record Spares (v w : View) (p : Pid) : Type 0 where
  pub kept : (i : MsgId) (t : Told) → v.told i ≡ Some t → w.told i ≡ Some t
  pub on : (i : MsgId) (t : Told) (z : Spot) → v.told i ≡ Some t → is_between t.kind ≡ true → t.about ≡ Of p → 1 ≤ standing v i z → (y : Spot) × (1 ≤ standing w i y)
  pub still : (m : ℕ) → is_settled (v.known m p) ≡ true → is_settled (w.known m p) ≡ true

pub spares_same : (v : View) (p : Pid) → Spares v v p
spares_same v p = record { kept = λ i t e. e; on = λ i t z e b a s. (z, s); still = λ m e. e }

pub spares_trans : (u v w : View) (p : Pid) → Spares u v p → Spares v w p → Spares u w p
spares_trans u v w p h k = grind (arith, nat_tests)

pub spares_calm : (v w : View) (p : Pid) → Calm v w → Spares v w p
spares_calm v w p c = grind (arith, nat_tests)

pub spares_about : (v w : View) (a : About) (p : Pid) → Spares v w p → Spares v (view.about w a) p
spares_about v w a p h = spares_trans v w (view.about w a) p h (spares_calm w (view.about w a) p (calm_about w w a (calm_same w)))

pub spares_put : (v : View) (b : ℕ) (i : MsgId) (k : MessageKind) (q p : Pid) → PairsFit v → Spares v (after_put v v.acting b i k q) p
spares_put v b i k q p fits =
    let w = after_put v v.acting b i k q in
    let u : Told = record { kind = k; receiver = q; about = v.topic } in
    record {
      kept = λ j t e. grind (arith, nat_tests, id_eq-is, put_at, first_kept, put_told_off);
      on = λ j t z e c a s. elim (cases_Bool (id_eq i j)) [
        | inl same ↦ (put_spot v.acting b, subst (λ (x : MsgId). 1 ≤ standing w x (put_spot v.acting b)) (id_eq-is i j same) (put_there v v.acting b i k q fits))
        | inr apart ↦ (z, subst (λ n. 1 ≤ n) (sym (put_spots v v.acting b i j k q fits apart z)) s)
      ];
      still = λ m e. e;
    }

-- where nothing is under way
pub rest_settled : (phase : Phase) (m : ℕ) (k : Known) → is_due phase ≡ false → token_in phase ≡ None → knows phase m k ≡ true → is_settled k ≡ true
rest_settled Nowhere m Unknown d e h = refl
rest_settled (Rests at) m k d e h = here_settled (at == m) k h
  where
    here_settled : (c : Bool) (k : Known) → (if c then is_here k else is_away k) ≡ true → is_settled k ≡ true
    here_settled true (Frozen to) h = absurd (false≢true h)
    here_settled false (Frozen to) h = absurd (false≢true h)
    here_settled true (Incoming from) h = absurd (false≢true h)
    here_settled false (Incoming from) h = absurd (false≢true h)
    here_settled c _ h = refl
rest_settled (Over at) m k d e h = over_settled (at == m) k h
  where
    over_settled : (c : Bool) (k : Known) → (if c then is_unknown k else is_away k) ≡ true → is_settled k ≡ true
    over_settled true (Frozen to) h = absurd (false≢true h)
    over_settled false (Frozen to) h = absurd (false≢true h)
    over_settled true (Incoming from) h = absurd (false≢true h)
    over_settled false (Incoming from) h = absurd (false≢true h)
    over_settled c _ h = refl
rest_settled (Moves k s t None) m x d e h = cc
rest_settled (Moves k s t (Some i)) m x d e h = cc
rest_settled Nowhere m _ d e h = absurd (false≢true h)

-- where something is, not all machines are settled: the source holds the process, or the destination expects it
pub restart_late : (k : MessageKind) → is_restart k ≡ true → is_early k ≡ false
restart_late k e = grind (arith, nat_tests)

pub restart_goes : (k : MessageKind) → is_restart k ≡ true → is_calloff k ≡ false
restart_goes k e = grind (arith, nat_tests)

moves_unsettled : (v : View) (p : Pid) (k : MessageKind) (s d : ℕ) (o : Option MsgId) → IsIn v p (Moves k s d o) → ((m : ℕ) → is_settled (v.known m p) ≡ true) → ⊥
moves_unsettled v p k s d o h settled = search (arith, settled s, not_false, right_true, h.apart, v.known, eq_self, h.known, restart_late, restart_goes)

-- what asks for a piece of a process, or brings one
abbrev pub is_piece : MessageKind → Bool
is_piece k = pulls_piece (sort_of k) || brings_piece (sort_of k)

-- a message that asks for a piece or brings one is awaited: the machine to which the process is on its way expects it from there
abbrev pub IsAwaited : View → Pid → MsgId → Told → Type 0
IsAwaited v p i t = (s d : ℕ) → is_piece t.kind ≡ true → i.from ≡ pid_of (sender_in t.kind s d) 0 → t ≡ told_between p t.kind s d → v.known d p ≡ Incoming s

pub pulls_is_piece : (k : MessageKind) → pulls_piece (sort_of k) ≡ true → is_piece k ≡ true
pulls_is_piece k e = ap (λ (c : Bool). c || brings_piece (sort_of k)) e

pub brings_is_piece : (k : MessageKind) → brings_piece (sort_of k) ≡ true → is_piece k ≡ true
brings_is_piece k e = grind (arith, nat_tests)

-- a message about a process's migration that stands somewhere, and isn't left over
pub record TokenOf (v : View) (p : Pid) (k : MessageKind) : Type 0 where
  pub id : MsgId
  pub what : Told
  pub told : v.told id ≡ Some what
  pub kind : what.kind ≡ k
  pub between : is_between k ≡ true
  pub about : what.about ≡ Of p
  pub spot : Spot
  pub stands : 1 ≤ standing v id spot
  pub awaited : IsAwaited v p id what

-- it is the phase's

-- all phases of a process have this mark
abbrev pub HasMark : View → Pid → Option Mark → Type 0
HasMark v p o = (a : Phase) → IsIn v p a → is_due a ≡ false → mark_in a ≡ o

-- no such message is left over
awaited_left : (v : View) (p : Pid) (a : Phase) (i : MsgId) (t : Told) → IsIn v p a → IsAwaited v p i t → IsLeft v p a i t → ⊥
awaited_left v p a i t h awaited (Asks s d j pulls is way phase before) =
    let piece = pulls_is_piece t.kind pulls in
    called_known v p s d j (subst (IsIn v p) phase h) (awaited s d piece (way.sender ∙ ap (λ (n : ℕ). pid_of n 0) (sym (pull_ways t.kind s d pulls).0)) is)
awaited_left v p a i t h awaited (Comes s d brings is way none later) =
    let piece = brings_is_piece t.kind brings in
    none (awaited s d piece (way.sender ∙ ap (λ (n : ℕ). pid_of n 0) (sym (piece_ways t.kind s d brings).0)) is)

token_by : (v : View) (p : Pid) (k : MessageKind) (t : TokenOf v p k) (a : Phase) → IsIn v p a → token_in a ≡ Some t.id → mark_in a ≡ mark_of k
token_by v p k t (Moves c s d (Some i)) h e =
    let same : i ≡ t.id = cc in
    let f : Some (told_between p c s d) ≡ Some t.what = sym h.token.told ∙ ap v.told same ∙ t.told in
    let g : told_between p c s d ≡ t.what = cc in
    ap mark_of (ap (λ (x : Told). x.kind) g ∙ t.kind)
token_by v p k t _ h e = cc

pub token_mark : (v : View) (p : Pid) (k : MessageKind) → TokenOf v p k → HasMark v p (mark_of k)
token_mark v p k t a h due = elim (h.alone t.id t.what t.spot t.told (ap is_between t.kind ∙ t.between) t.about t.stands) [
  | inl token ↦ token_by v p k t a h token
  | inr left ↦ absurd (awaited_left v p a t.id t.what h t.awaited left)
]

pub here_mark : (v : View) (p : Pid) (m : ℕ) → v.known m p ≡ Here → HasMark v p None
here_mark v p m here a h due = ap mark_in (rests_here a m (sym (ap (knows a m) here) ∙ h.known m))

-- where all machines are settled nothing moves
settled_mark : (v : View) (p : Pid) → ((m : ℕ) → is_settled (v.known m p) ≡ true) → HasMark v p None
settled_mark v p settled e h due = grind (arith, nat_tests, moves_unsettled)

-- the two ends of a message are those of its phase
ends_same : (k : MessageKind) (s d m n : ℕ) → sender_in k s d ≡ sender_in k m n → receiver_in k s d ≡ receiver_in k m n → (s ≡ m) × (d ≡ n)
ends_same k s d m n h g = by_way (tells_onward (sort_of k)) h g
  where
    by_way : (c : Bool) → (if c then s else d) ≡ (if c then m else n) → (if c then d else s) ≡ (if c then n else m) → (s ≡ m) × (d ≡ n)
    by_way true h g = (h, g)
    by_way false h g = (g, h)

-- where a piece is the message that is under way, the destination expects the process
pub piece_late : (k : MessageKind) → is_piece k ≡ true → (is_early k ≡ false) × (is_calloff k ≡ false)
piece_late k piece = (grind (arith, nat_tests), grind (arith, nat_tests))

piece_comes : (k : MessageKind) (m : ℕ) (x : Known) → is_piece k ≡ true → kind_comes k m x ≡ true → x ≡ Incoming m
piece_comes k m (Incoming n) piece h = let e : (m == n) ≡ true = grind (arith, nat_tests) in ap Incoming (sym (eq_is m n e))
piece_comes k m Unknown piece h = absurd (false≢true (sym (piece_late k piece).0 ∙ h))
piece_comes k m (Forward at moves) piece h =
    let late = piece_late k piece in
    absurd (false≢true (sym (ap (λ (c : Bool). c || (is_calloff k && (m == at))) late.0 ∙ ap (λ (c : Bool). c && (m == at)) late.1) ∙ h))
piece_comes k m _ piece h = absurd (false≢true h)

pub phase_awaited : (v : View) (p : Pid) (k : MessageKind) (s d : ℕ) (i : MsgId) → IsIn v p (Moves k s d (Some i)) → (m n : ℕ) → is_piece k ≡ true → i.from ≡ pid_of (sender_in k m n) 0 → told_between p k s d ≡ told_between p k m n → v.known n p ≡ Incoming m
phase_awaited v p k s d i h m n piece from told =
    let sender : sender_in k s d ≡ sender_in k m n = ap (λ (q : Pid). q.home) (sym h.token.from ∙ from) in
    let receiver : receiver_in k s d ≡ receiver_in k m n = ap (λ (t : Told). t.receiver.home) told in
    let same = ends_same k s d m n sender receiver in
    let awaited = piece_comes k s (v.known d p) piece (comes_known v p k s d (Some i) h) in
    subst (λ (x : ℕ). v.known n p ≡ Incoming x) same.0 (subst (λ (y : ℕ). v.known y p ≡ Incoming s) same.1 awaited)

-- where no line marks it, a process that is on its way to a machine stays so
abbrev pub Waits : View → View → Pid → List Mark → Type 0
Waits v w p ms = ms ≡ [] → (m s : ℕ) → v.known m p ≡ Incoming s → w.known m p ≡ Incoming s

-- from one view to another with these marks of a process
abbrev pub Marked : View → View → Pid → List Mark → Type 0
Marked v w p ms = (a b : Phase) → IsIn v p a → IsIn w p b → is_due a ≡ false → is_due b ≡ false → Waits v w p ms → (in_order (mark_in a) ms ≡ true) × (open_after (mark_in a) ms ≡ mark_in b)

-- all but this message of the protocol are spared
pub record SparesBut (v w : View) (p : Pid) (x : MsgId) : Type 0 where
  pub kept : (i : MsgId) (t : Told) → v.told i ≡ Some t → w.told i ≡ Some t
  pub on : (i : MsgId) (t : Told) (z : Spot) → id_eq x i ≡ false → v.told i ≡ Some t → is_between t.kind ≡ true → t.about ≡ Of p → 1 ≤ standing v i z → (y : Spot) × (1 ≤ standing w i y)
  pub still : (m : ℕ) → is_settled (v.known m p) ≡ true → is_settled (w.known m p) ≡ true

pub but_trans : (u v w : View) (p : Pid) (x : MsgId) → SparesBut u v p x → Spares v w p → SparesBut u w p x
but_trans u v w p x h k = record {
  kept = λ i t e. k.kept i t (h.kept i t e);
  on = λ i t z apart e between about st. (let (y, s) = h.on i t z apart e between about st in k.on i t y (h.kept i t e) between about s);
  still = λ m e. k.still m (h.still m e);
}

-- a message that is left over is of no phase
pub left_never : (v : View) (p : Pid) (a b : Phase) (i : MsgId) (t : Told) → IsIn v p a → IsIn v p b → v.told i ≡ Some t → IsLeft v p b i t → token_in a ≡ Some i → ⊥
left_never v p (Moves k s d (Some j)) b i t h g told left e =
    let same : j ≡ i = cc in
    let f : Some (told_between p k s d) ≡ Some t = sym h.token.told ∙ ap v.told same ∙ told in
    let is : told_between p k s d ≡ t = cc in
    awaited_left v p b i t g (subst (IsAwaited v p i) is (subst (λ (x : MsgId). IsAwaited v p x (told_between p k s d)) same (λ m n piece from was. phase_awaited v p k s d j h m n piece from was))) left
left_never v p _ b i t h g told left e = none_some i e

pub left_marked : (v w : View) (p : Pid) (phase : Phase) (x : MsgId) (t : Told) → IsIn v p phase → v.told x ≡ Some t → IsLeft v p phase x t → SparesBut v w p x → Marked v w p []
left_marked v w p phase x t is told left s (Moves c m n (Some i)) b h k da db waits =
    let u = told_between p c m n in
    let between = between_of c m n h.apart in
    let apart : id_eq x i ≡ false = not_true (id_eq x i) (λ e. left_never v p (Moves c m n (Some i)) phase x t h is told left (ap Some (sym (id_eq-is x i e)))) in
    let (y, st) = s.on i u h.token.spot apart h.token.told between refl h.token.stands in
    let token : TokenOf w p c = record { id = i; what = u; told = s.kept i u h.token.told; kind = refl; between = between; about = refl; spot = y; stands = st; awaited = λ f g piece from was. waits refl g f (phase_awaited v p c m n i h f g piece from was) } in
    (refl, sym (token_mark w p c token b k db))
left_marked v w p phase x t is told left s (Moves c m n None) b h k da db waits = cc
left_marked v w p phase x t is told left s any_ b h k da db waits =
    (refl, sym (settled_mark w p (λ m. s.still m (rest_settled any_ m (v.known m p) da refl (h.known m))) b k db))

pub spares_mark : (v w : View) (p : Pid) (a b : Phase) → Spares v w p → IsIn v p a → IsIn w p b → is_due a ≡ false → is_due b ≡ false → ((m s : ℕ) → v.known m p ≡ Incoming s → w.known m p ≡ Incoming s) → mark_in b ≡ mark_in a
spares_mark v w p (Moves c m n None) b s h k da db waits = cc
spares_mark v w p (Moves c m n (Some i)) b s h k da db waits =
    let t = told_between p c m n in
    let between = between_of c m n h.apart in
    let (y, x) = s.on i t h.token.spot h.token.told between refl h.token.stands in
    let token : TokenOf w p c = record { id = i; what = t; told = s.kept i t h.token.told; kind = refl; between = between; about = refl; spot = y; stands = x; awaited = λ f g piece from is. waits g f (phase_awaited v p c m n i h f g piece from is) } in
    token_mark w p c token b k db
spares_mark v w p any_ b s h k da db waits =
    settled_mark w p (λ m. s.still m (rest_settled any_ m (v.known m p) da refl (h.known m))) b k db

pub none_marked : (v w : View) (p : Pid) (ms : List Mark) → ms ≡ [] → Spares v w p → Marked v w p ms
none_marked v w p ms none s a b h k da db waits = let same = spares_mark v w p a b s h k da db (waits none) in grind (arith, nat_tests)

pub some_marked : (v w : View) (p : Pid) (ms ns : List Mark) (x y : Option Mark) → ms ≡ ns → HasMark v p x → HasMark w p y → in_order x ns ≡ true → open_after x ns ≡ y → Marked v w p ms
some_marked v w p ms ns x y is before behind order ends a b h k da db waits = grind (arith, nat_tests)
