-- The rows of migration that answer with the next message: a request, the pieces, and that all is taken.
use Rattle.dm_law_rule.proofs.Names.{◌≡◌, ℕ, ◌==◌, ◌&&◌, Bool, true, false, not, List, [], ◌∷◌, refl, ap, ◌∙◌, sym, subst, arith, if◌then◌else◌, Option, None, Some, Pid, pid_eq, MsgId, MessageKind, Line, Stage, at_record, View, Told, About}
use Rattle.dm_law_rule.proofs.Names.{NothingElse, Known, Incoming, view_after, handled, front_of, after_proto, asks_on, is_kernels, Point, Says, Spelled, spelled, to_kernel, accepts, takes_chunk, takes_block, gives_piece, Spot, ids_at, none_some}
use Rattle.dm_law_rule.proofs.Names.{is_between, is_apart, is_restart, is_early, kind_comes, is_away, Phase, Moves, knows, sender_in, receiver_in, pid_eq-same, right_true, kind_leaves, and_right, not-true, ◌<◌, ◌||◌, inl, inr, cases_Bool}
use Rattle.dm_law_rule.proofs.Names.{false≢true, pid_of, sort_of, standing, Inbox, Forward, Unknown, handled_first, moved, eqb-true, both_true, IsLeft, IsWay, Asks, Comes, ComesIn, HasCome, tells_come, is_calloff, pulls_piece, brings_piece, is_server}
use Rattle.dm_law_rule.proofs.Moves.Lists.{first_off}
use Rattle.dm_law_rule.proofs.Moves.Rows.{goes_first, goes_front, accepted_off, state_off, server_off, server_front, server_state, memory_off, lacks_off, proto_off}
use Rattle.dm_law_rule.proofs.Pairs.Lines.{pair_same}
use Rattle.dm_law_rule.proofs.Said.{fits_as}
use Rattle.dm_law_rule.proofs.Phases.Quiet.{moves_none}
use Rattle.dm_law_rule.proofs.Phases.Stand.{InPhases}
use Rattle.dm_law_rule.proofs.Phases.Answers.{Whole, Due, answer_row}
use Rattle.dm_law_rule.proofs.Lines.{eq_self}
use Rattle.dm_law_rule.proofs.Moves.States.{front_one}
use Rattle.dm_law_rule.proofs.Moves.Sent.{line_next}
use Rattle.dm_law_rule.proofs.Phases.Calm.{left_on}
use Rattle.dm_law_rule.proofs.Phases.Stand.{LeavesOver, calm_phases, piece_ways, calls_in, never_called, none_first, never_both, came_from}
use Rattle.dm_law_rule.proofs.Phases.Answers.{Remains, answer_left, front_gone, token_one, inbox_is, remains_whole, left_whole}
use Rattle.dm_law_rule.proofs.Phases.Lines.{proto_knows}
use Rattle.dm_law_rule.proofs.Phases.Ranked.{Ranked}
use Rattle.dm_law_rule.proofs.Phases.Behind.{never_behind}
pub use Rattle.std.proofs.lemmas.Bool.{and_right as and_false, not-true as not_false}

-- two kinds between which no machine learns anything
leaves_as : (k j : MessageKind) (d : ℕ) (y : Known) → is_restart k ≡ is_restart j → kind_leaves k d y ≡ kind_leaves j d y
leaves_as k j d y h1 = search arith

comes_as : (k j : MessageKind) (s : ℕ) (y : Known) → is_early k ≡ is_early j → is_calloff k ≡ is_calloff j → kind_comes k s y ≡ kind_comes j s y
comes_as k j s (Incoming m) f g = ap (λ (b : Bool). not b && (not (is_calloff k) && (s == m))) f ∙ ap (λ (b : Bool). not (is_early j) && (not b && (s == m))) g
comes_as k j s Unknown f g = f
comes_as k j s (Forward m moves) f g = ap (λ (b : Bool). b || (is_calloff k && (s == m))) f ∙ ap (λ (b : Bool). is_early j || (b && (s == m))) g
comes_as k j s _ f g = refl

pub record_off : (f : ℕ → Pid → Known) (a : ℕ) (p : Pid) (x : Known) (m : ℕ) (q : Pid) → pid_eq p q ≡ false → at_record f a p x m q ≡ f m q
record_off f a p x m q e = ap (λ (b : Bool). if b then x else f m q) (and_right (a == m) (pid_eq p q) e)

-- what the process's machines knew
pub due_known : (pt : Point) (i : MsgId) (t : Told) (h : InPhases pt.view) (u : Due pt i t h) (m : ℕ) → knows (Moves u.k u.s u.d (Some i)) m (pt.view.known m u.p) ≡ true
due_known pt i t h u m = subst (λ (x : Phase). knows x m (pt.view.known m u.p) ≡ true) u.phase ((h.each u.p).known m)

pub due_apart : (pt : Point) (i : MsgId) (t : Told) (h : InPhases pt.view) (u : Due pt i t h) → (is_between u.k && not (u.s == u.d)) ≡ true
due_apart pt i t h u = subst (λ (x : Phase). is_apart x ≡ true) u.phase (h.each u.p).apart

-- the other end of the two machines
pub to_sender : (pt : Point) (i : MsgId) (t : Told) (h : InPhases pt.view) (u : Due pt i t h) → i.from.home ≡ sender_in u.k u.s u.d
to_sender pt i t h u = ap (λ (p : Pid). p.home) u.from

pub same_row : (pt : Point) (i : MsgId) (t : Told) (h : InPhases pt.view) (u : Due pt i t h) (j : MessageKind) (w : View) → ((m : ℕ) → w.known m u.p ≡ pt.view.known m u.p) → is_restart u.k ≡ is_restart j → is_early u.k ≡ is_early j → is_calloff u.k ≡ is_calloff j
    → (m : ℕ) → knows (Moves j u.s u.d None) m (w.known m u.p) ≡ true
same_row pt i t h u j w same e f g m =
    let knows_as : (k j : MessageKind) (s d : ℕ) (o u : Option MsgId) (m : ℕ) (y : Known) → is_restart k ≡ is_restart j → is_early k ≡ is_early j → is_calloff k ≡ is_calloff j → knows (Moves k s d o) m y ≡ knows (Moves j s d u) m y = λ k j s d o u m y e f g.
    ap (λ (b : Bool). if s == m then b else if d == m then kind_comes k s y else is_away y) (leaves_as k j d y e)
    ∙ ap (λ (b : Bool). if s == m then kind_leaves j d y else if d == m then b else is_away y) (comes_as k j s y f g) in
    ap (knows (Moves j u.s u.d None) m) (same m) ∙ sym (knows_as u.k j u.s u.d (Some i) None m (pt.view.known m u.p) e f g) ∙ due_known pt i t h u m

-- and whether all of it has come
pub same_come : (pt : Point) (i : MsgId) (t : Told) (h : InPhases pt.view) (u : Due pt i t h) (j : MessageKind) (w : View) → w.come u.p ≡ pt.view.come u.p → tells_come (sort_of u.k) ≡ tells_come (sort_of j) → ComesIn (Moves j u.s u.d None) (w.come u.p)
same_come pt i t h u j w same e =
    let was : ComesIn (Moves u.k u.s u.d (Some i)) (pt.view.come u.p) = subst (λ (x : Phase). ComesIn x (pt.view.come u.p)) u.phase (h.each u.p).come in
    subst (λ (c : Bool). ComesIn (Moves j u.s u.d None) c) (sym same) (subst (λ (o : Option Bool). HasCome o (pt.view.come u.p)) e was)

pub and_true : (b : Bool) (x y : Known) → (if b && true then x else y) ≡ (if b then x else y)
and_true true x y = refl
and_true false x y = refl

-- a request is taken: the machine expects the process
accepted_at : (v : View) (s d m : ℕ) (p : Pid) → v.acting ≡ d → front_of (v.inbox v.acting) ≡ s → (s == d) ≡ false → knows (Moves MessageKind.Ask s d None) m (v.known m p) ≡ true → knows (Moves MessageKind.PullState s d None) m (at_record v.known v.acting p (Incoming (front_of (v.inbox v.acting))) m p) ≡ true
accepted_at v s d m p at source apart was =
    let f = knows (Moves MessageKind.PullState s d None) m in
    let both_self : (b : Bool) (p : Pid) (x y : Known) → (if b && pid_eq p p then x else y) ≡ (if b then x else y) = λ b p x y. ap (λ (c : Bool). if b && c then x else y) (pid_eq-same p) ∙ and_true b x y in
    ap (λ (n : ℕ). f (at_record v.known v.acting p (Incoming n) m p)) source ∙ ap (λ (n : ℕ). f (at_record v.known n p (Incoming s) m p)) at
    ∙ ap f (both_self (d == m) p (Incoming s) (v.known m p)) ∙ (let e_ : knows (Moves MessageKind.PullState s d None) m (if (d == m) then Incoming s else (v.known m p)) ≡ true = search (arith, leaves_as, eq_self) in e_)

-- what is left over of an earlier move from there stands before the request, and so nowhere
accepted_left : (pt : Point) (i : MsgId) (is : List MsgId) (t : Told) (h : Whole pt) (u : Due pt i t h.phases) → u.k ≡ MessageKind.Ask → Ranked pt.view → pt.view.inbox pt.view.acting ≡ i ∷ is → pt.view.told i ≡ Some t
    → LeavesOver pt.view (view_after pt.view (Line.Migration Stage.Accepted u.p)) u.p (h.phases.of u.p) (Moves MessageKind.PullState u.s u.d None)
accepted_left pt i is t h u e ranked front told j x z told_j bj about st back was =
    let v = pt.view in
    let l = Line.Migration Stage.Accepted u.p in
    let w = view_after v l in
    let now = h.phases.of u.p in
    let next = Moves MessageKind.PullState u.s u.d None in
    let kept : calls_in now ≡ false = ap calls_in u.phase ∙ ap is_calloff e in
    let from : i.from.home ≡ u.s = to_sender pt i t h.phases u ∙ ap (λ (k : MessageKind). sender_in k u.s u.d) e in
    let at : v.acting ≡ u.d = u.acting ∙ ap (λ (k : MessageKind). receiver_in k u.s u.d) e in
    elim was [
      | inl mine ↦
          (let none : standing w j z ≡ 0 = subst (λ (y : MsgId). standing w y z ≡ 0) (token_one now u.k u.s u.d i j u.phase mine) (front_gone pt l i is h.state refl front (λ y. accepted_off v u.p y) z) in absurd (omega (arith, st, none)))
      | inr left ↦ left_on v w u.p now next j x back (λ s d o pulls way is_ first. absurd (never_called now s d o kept is_))
          (λ s d brings way off first here. elim (cases_Bool (v.acting == d)) [
            | inr other ↦ off (sym (ap (λ (c : Bool). if c && pid_eq u.p u.p then Incoming (front_of (v.inbox v.acting)) else v.known d u.p) other) ∙ here)
            | inl same ↦
                (let ad : v.acting ≡ d = eqb-true v.acting d same in
                let here_ : Incoming (front_of (v.inbox v.acting)) ≡ Incoming s = sym (ap (λ (c : Bool). if c then Incoming (front_of (v.inbox v.acting)) else v.known d u.p) (both_true (v.acting == d) (pid_eq u.p u.p) same (pid_eq-same u.p))) ∙ here in
                let fs : front_of (v.inbox v.acting) ≡ s = cc in
                let us : u.s ≡ s = sym from ∙ sym (ap front_of front) ∙ fs in
                let ud : u.d ≡ d = sym at ∙ ad in
                let asks : now ≡ Moves MessageKind.Ask s d (Some i) = (let k = u.phase in cc) in
                let less : j.n < i.n = first (Some i) asks in
                let apart : (s == d) ≡ false = subst (λ (m : ℕ). (s == m) ≡ false) ud (subst (λ (m : ℕ). (m == u.d) ≡ false) us (not-true (u.s == u.d) (right_true (is_between u.k) (not (u.s == u.d)) (due_apart pt i t h.phases u)))) in
                let (y, there) = came_from v j z (back z st) in
                never_behind v s d i is t j x y ranked apart (subst (λ (m : ℕ). v.inbox m ≡ i ∷ is) ad front) (u.from ∙ ap (λ (k : MessageKind). pid_of (sender_in k u.s u.d) 0) e ∙ ap (λ (m : ℕ). pid_of m 0) us) told (ap (λ (y : Told). is_between y.kind) u.told ∙ ap is_between e) way told_j bj there less)
          ])
          (λ s d o brings way first is_. none_first next s d j o refl is_) left
    ]

pub ask_row : (pt : Point) (i : MsgId) (is : List MsgId) (t : Told) (room : Bool) (slots blocks : ℕ) (w : Spelled) (h : Whole pt) (u : Due pt i t h.phases) → u.k ≡ MessageKind.Ask → Ranked pt.view → pt.view.inbox pt.view.acting ≡ i ∷ is → pt.view.told i ≡ Some t → is_kernels i ≡ true
    → spelled pt (accepts i.from.home u.p room slots blocks) ≡ Some w → Whole w.point
ask_row pt i is t true slots blocks w h u e ranked front told mine is_ =
    let v = pt.view in
    let l = Line.Migration Stage.Accepted u.p in
    let from : i.from.home ≡ u.s = to_sender pt i t h.phases u ∙ ap (λ (k : MessageKind). sender_in k u.s u.d) e in
    let at : v.acting ≡ u.d = u.acting ∙ ap (λ (k : MessageKind). receiver_in k u.s u.d) e in
    let was : (m : ℕ) → knows (Moves MessageKind.Ask u.s u.d None) m (v.known m u.p) ≡ true = same_row pt i t h.phases u MessageKind.Ask v (λ m. refl) (ap is_restart e) (ap is_early e) (ap is_calloff e) in
    answer_row pt l i is t MessageKind.PullState i.from.home w h u refl refl refl front told (goes_first pt l i is refl h.state front mine (λ z. accepted_off v u.p z)) (λ z. accepted_off v u.p z)
    (λ m q off. record_off v.known v.acting u.p (Incoming (front_of (v.inbox v.acting))) m q off)
    (λ m. accepted_at v u.s u.d m u.p at (ap front_of front ∙ from) (not-true (u.s == u.d) (right_true (is_between u.k) (not (u.s == u.d)) (due_apart pt i t h.phases u))) (was m))
    (λ q off. ap (λ (c : Bool). if c then false else v.come q) off) (ap (λ (c : Bool). if c then false else v.come u.p) (pid_eq-same u.p)) (accepted_left pt i is t h u e ranked front told) refl refl refl
    (ap (λ (k : MessageKind). receiver_in k u.s u.d) e) from is_
ask_row pt i is t false slots blocks w h u e ranked front told mine is_ =
    let v = pt.view in
    let l = Line.Lacks u.p slots blocks in
    answer_row pt l i is t MessageKind.Refuse i.from.home w h u refl refl refl front told (goes_first pt l i is refl h.state front mine (λ z. lacks_off v u.p slots blocks z)) (λ z. lacks_off v u.p slots blocks z)
    (λ m q off. refl)
    (same_row pt i t h.phases u MessageKind.Refuse (view_after v l) (λ m. refl) (ap is_restart e) (ap is_early e) (ap is_calloff e)) (λ q off. refl) tt
    (answer_left pt l i is t h u (Moves MessageKind.Refuse u.s u.d None) refl (ap is_calloff e) refl front (λ z. lacks_off v u.p slots blocks z) (λ m s here. here)) refl refl refl
    (ap (λ (k : MessageKind). receiver_in k u.s u.d) e) (to_sender pt i t h.phases u ∙ ap (λ (k : MessageKind). sender_in k u.s u.d) e) is_

pub proto_known : (v : View) (o : Option Told) (m : ℕ) (p : Pid) → (after_proto v o).known m p ≡ v.known m p
proto_known v o m p = ap (λ (f : ℕ → Pid → Known). f m p) (proto_knows v o).0

pub proto_acting : (v : View) (o : Option Told) → (after_proto v o).acting ≡ v.acting
proto_acting v o = let asks_acting : (v : View) (a : About) → (asks_on v a).acting ≡ v.acting = λ v a. elim a as (λ a_. (asks_on v a_).acting ≡ v.acting) [ NothingElse ↦ refl | _ ↦ refl ] in search (arith, asks_acting)

-- what it is about
proto_topic : (v : View) (o : Option Told) (t : Told) → o ≡ Some t → (after_proto v o).topic ≡ t.about
proto_topic v None t e = none_some t e
proto_topic v (Some s) t e = let f : s ≡ t = cc in ap (λ (x : Told). x.about) f

pub proto_row : (pt : Point) (i : MsgId) (is : List MsgId) (t : Told) (j : MessageKind) (w : Spelled) (h : Whole pt) (u : Due pt i t h.phases) → is_calloff u.k ≡ false → is_restart u.k ≡ is_restart j → is_early u.k ≡ is_early j → is_calloff u.k ≡ is_calloff j → tells_come (sort_of u.k) ≡ tells_come (sort_of j)
    → receiver_in u.k u.s u.d ≡ sender_in j u.s u.d → sender_in u.k u.s u.d ≡ receiver_in j u.s u.d → is_between j ≡ true
    → pt.view.inbox pt.view.acting ≡ i ∷ is → pt.view.told i ≡ Some t → is_kernels i ≡ true → spelled pt (Says (Line.Proto i) ∷ to_kernel j i.from.home ∷ []) ≡ Some w → Whole w.point
proto_row pt i is t j w h u kept r e c come turn back between front told mine is_ =
    let v = pt.view in
    let l = Line.Proto i in
    let off : (z : Spot) → ids_at (view_after v l) z ≡ ids_at (handled v i) z = λ z. proto_off (handled v i) (v.told i) z in
    let first : (z : Spot) → ids_at (view_after v l) z ≡ ids_at (handled_first v) z = λ z. off z ∙ sym (first_off v i is front z) in
    let known : (m : ℕ) (q : Pid) → (view_after v l).known m q ≡ v.known m q = λ m q. proto_known (handled v i) (v.told i) m q in
    let comes : (q : Pid) → (view_after v l).come q ≡ v.come q = λ q. ap (λ (f : Pid → Bool). f q) (proto_knows (handled v i) (v.told i)).1 in
    answer_row pt l i is t j i.from.home w h u refl refl refl front told (goes_front pt l i is refl h.state front mine off) first
    (λ m q apart. known m q) (same_row pt i t h.phases u j (view_after v l) (λ m. known m u.p) r e c) (λ q apart. comes q) (same_come pt i t h.phases u j (view_after v l) (comes u.p) come)
    (answer_left pt l i is t h u (Moves j u.s u.d None) refl kept refl front first (λ m s here. sym (known m u.p) ∙ here)) between
    (proto_topic (handled v i) (v.told i) t told ∙ ap (λ (x : Told). x.about) u.told) (proto_acting (handled v i) (v.told i)) turn (to_sender pt i t h.phases u ∙ back) is_

pub pull_state_row : (pt : Point) (i : MsgId) (is : List MsgId) (t : Told) (w : Spelled) (h : Whole pt) (u : Due pt i t h.phases) → u.k ≡ MessageKind.PullState → pt.view.inbox pt.view.acting ≡ i ∷ is → pt.view.told i ≡ Some t → is_kernels i ≡ true
    → spelled pt (gives_piece i MessageKind.State) ≡ Some w → Whole w.point
pull_state_row pt i is t w h u e front told mine is_ =
    proto_row pt i is t MessageKind.State w h u (ap is_calloff e) (ap is_restart e) (ap is_early e) (ap is_calloff e) (ap (λ (k : MessageKind). tells_come (sort_of k)) e) (ap (λ (k : MessageKind). receiver_in k u.s u.d) e) (ap (λ (k : MessageKind). sender_in k u.s u.d) e) refl front told mine is_

pub pull_block_row : (pt : Point) (i : MsgId) (is : List MsgId) (t : Told) (w : Spelled) (h : Whole pt) (u : Due pt i t h.phases) → u.k ≡ MessageKind.PullBlock → pt.view.inbox pt.view.acting ≡ i ∷ is → pt.view.told i ≡ Some t → is_kernels i ≡ true
    → spelled pt (gives_piece i MessageKind.Memory) ≡ Some w → Whole w.point
pull_block_row pt i is t w h u e front told mine is_ =
    proto_row pt i is t MessageKind.Memory w h u (ap is_calloff e) (ap is_restart e) (ap is_early e) (ap is_calloff e) (ap (λ (k : MessageKind). tells_come (sort_of k)) e) (ap (λ (k : MessageKind). receiver_in k u.s u.d) e) (ap (λ (k : MessageKind). sender_in k u.s u.d) e) refl front told mine is_

-- a piece is no request, no end, and calls nothing off
piece_plain : (k : MessageKind) → brings_piece (sort_of k) ≡ true → (is_restart k ≡ false) × (is_early k ≡ false) × (is_calloff k ≡ false)
piece_plain MessageKind.State e = (refl, refl, refl)
piece_plain MessageKind.Memory e = (refl, refl, refl)
piece_plain _ e = absurd (false≢true e)

-- with the last piece all is taken
all_taken_row : (pt : Point) (i : MsgId) (is : List MsgId) (t : Told) (w : Spelled) (h : Whole pt) (u : Due pt i t h.phases) → brings_piece (sort_of u.k) ≡ true → pt.view.inbox pt.view.acting ≡ i ∷ is → pt.view.told i ≡ Some t → is_kernels i ≡ true
    → spelled pt (Says (Line.Migration Stage.MemoryTaken u.p) ∷ to_kernel MessageKind.AllTaken i.from.home ∷ []) ≡ Some w → Whole w.point
all_taken_row pt i is t w h u brings front told mine is_ =
    let l = Line.Migration Stage.MemoryTaken u.p in
    let plain = piece_plain u.k brings in
    let ends = piece_ways u.k u.s u.d brings in
    answer_row pt l i is t MessageKind.AllTaken i.from.home w h u refl refl refl front told (goes_first pt l i is refl h.state front mine (λ z. memory_off pt.view u.p z)) (λ z. memory_off pt.view u.p z)
    (λ m q off. refl) (same_row pt i t h.phases u MessageKind.AllTaken (view_after pt.view l) (λ m. refl) plain.0 plain.1 plain.2)
    (λ q off. ap (λ (c : Bool). if c then true else pt.view.come q) off) (ap (λ (c : Bool). if c then true else pt.view.come u.p) (pid_eq-same u.p))
    (answer_left pt l i is t h u (Moves MessageKind.AllTaken u.s u.d None) refl plain.2 refl front (λ z. memory_off pt.view u.p z) (λ m s here. here)) refl refl refl
    ends.1 (to_sender pt i t h.phases u ∙ ends.0) is_

-- the last chunk of a server: step 4 leaves its phase as it is, and step 5 follows
server_row : (pt : Point) (i : MsgId) (is : List MsgId) (t : Told) (w : Spelled) (h : Whole pt) (u : Due pt i t h.phases) → u.k ≡ MessageKind.State → is_server u.p ≡ true → pt.view.inbox pt.view.acting ≡ i ∷ is → pt.view.told i ≡ Some t → is_kernels i ≡ true
    → spelled pt (Says (Line.Migration Stage.StateTaken u.p) ∷ Says (Line.Migration Stage.MemoryTaken u.p) ∷ to_kernel MessageKind.AllTaken i.from.home ∷ []) ≡ Some w → Whole w.point
server_row pt i is t w h u e server front told mine is_ =
    let v = pt.view in
    let l = Line.Migration Stage.StateTaken u.p in
    let next = moved pt l pt.kernel in
    let n = line_next pt l (Says (Line.Migration Stage.MemoryTaken u.p) ∷ to_kernel MessageKind.AllTaken i.from.home ∷ []) w refl is_ in
    let calm = moves_none v l refl refl (λ m q. refl) (λ z. server_off v u.p server z) in
    let whole : Whole next = record { state = server_state pt u.p server h.state; fits = fits_as v next.view (pair_same v l refl) h.fits; phases = calm_phases v next.view calm h.phases } in
    let due : Due next i t whole.phases = record { p = u.p; k = u.k; s = u.s; d = u.d; phase = u.phase; told = u.told; acting = u.acting; from = u.from } in
    subst Whole n.point (all_taken_row next i is t n.rest whole due (ap (λ (k : MessageKind). brings_piece (sort_of k)) e) (server_front v u.p i is server front) told mine n.more)

last_row : (pt : Point) (i : MsgId) (is : List MsgId) (t : Told) (server : Bool) (w : Spelled) (h : Whole pt) (u : Due pt i t h.phases) → u.k ≡ MessageKind.State → is_server u.p ≡ server → pt.view.inbox pt.view.acting ≡ i ∷ is → pt.view.told i ≡ Some t → is_kernels i ≡ true
    → spelled pt (if server then Says (Line.Migration Stage.StateTaken u.p) ∷ Says (Line.Migration Stage.MemoryTaken u.p) ∷ to_kernel MessageKind.AllTaken i.from.home ∷ [] else Says (Line.Migration Stage.StateTaken u.p) ∷ to_kernel MessageKind.PullBlock i.from.home ∷ []) ≡ Some w
    → Whole w.point
last_row pt i is t true w h u e server front told mine is_ = server_row pt i is t w h u e server front told mine is_
last_row pt i is t false w h u e process front told mine is_ =
    let l = Line.Migration Stage.StateTaken u.p in
    answer_row pt l i is t MessageKind.PullBlock i.from.home w h u refl refl refl front told (goes_first pt l i is refl h.state front mine (λ z. state_off pt.view u.p process z)) (λ z. state_off pt.view u.p process z)
    (λ m q off. refl) (same_row pt i t h.phases u MessageKind.PullBlock (view_after pt.view l) (λ m. refl) (ap is_restart e) (ap is_early e) (ap is_calloff e)) (λ q off. refl)
    (same_come pt i t h.phases u MessageKind.PullBlock (view_after pt.view l) refl (ap (λ (k : MessageKind). tells_come (sort_of k)) e))
    (answer_left pt l i is t h u (Moves MessageKind.PullBlock u.s u.d None) refl (ap is_calloff e) refl front (λ z. state_off pt.view u.p process z) (λ m s here. here)) refl refl refl
    (ap (λ (k : MessageKind). receiver_in k u.s u.d) e) (to_sender pt i t h.phases u ∙ ap (λ (k : MessageKind). sender_in k u.s u.d) e) is_

pub chunk_row : (pt : Point) (i : MsgId) (is : List MsgId) (t : Told) (last : Bool) (w : Spelled) (h : Whole pt) (u : Due pt i t h.phases) → u.k ≡ MessageKind.State → pt.view.inbox pt.view.acting ≡ i ∷ is → pt.view.told i ≡ Some t → is_kernels i ≡ true
    → spelled pt (takes_chunk i u.p last) ≡ Some w → Whole w.point
chunk_row pt i is t true w h u e front told mine is_ = last_row pt i is t (is_server u.p) w h u e refl front told mine is_
chunk_row pt i is t false w h u e front told mine is_ =
    proto_row pt i is t MessageKind.PullState w h u (ap is_calloff e) (ap is_restart e) (ap is_early e) (ap is_calloff e) (ap (λ (k : MessageKind). tells_come (sort_of k)) e) (ap (λ (k : MessageKind). receiver_in k u.s u.d) e) (ap (λ (k : MessageKind). sender_in k u.s u.d) e) refl front told mine is_

pub block_row : (pt : Point) (i : MsgId) (is : List MsgId) (t : Told) (last : Bool) (w : Spelled) (h : Whole pt) (u : Due pt i t h.phases) → u.k ≡ MessageKind.Memory → pt.view.inbox pt.view.acting ≡ i ∷ is → pt.view.told i ≡ Some t → is_kernels i ≡ true
    → spelled pt (takes_block i u.p last) ≡ Some w → Whole w.point
block_row pt i is t true w h u e front told mine is_ = all_taken_row pt i is t w h u (ap (λ (k : MessageKind). brings_piece (sort_of k)) e) front told mine is_
block_row pt i is t false w h u e front told mine is_ =
    proto_row pt i is t MessageKind.PullBlock w h u (ap is_calloff e) (ap is_restart e) (ap is_early e) (ap is_calloff e) (ap (λ (k : MessageKind). tells_come (sort_of k)) e) (ap (λ (k : MessageKind). receiver_in k u.s u.d) e) (ap (λ (k : MessageKind). sender_in k u.s u.d) e) refl front told mine is_

-- where what asks for a piece is left over the move is called off
pull_left : (v : View) (p : Pid) (phase : Phase) (i : MsgId) (t : Told) → pulls_piece (sort_of t.kind) ≡ true → IsLeft v p phase i t → (s : ℕ) × (d : ℕ) × (o : Option MsgId) × (phase ≡ Moves MessageKind.CallOff s d o) × IsWay v i d s
pull_left v p phase i t pulls (Asks s d o pulls_ say way is first) = (s, d, o, is, way)
pull_left v p phase i t pulls (Comes s d brings say way off first) = absurd (false≢true (sym (never_both t.kind pulls) ∙ brings))

-- what asks for a piece is left over: a piece goes out that is left over
pub left_pull_row : (pt : Point) (i : MsgId) (is : List MsgId) (t : Told) (j : MessageKind) (w : Spelled) (h : Whole pt) → Remains pt i t h.phases → pulls_piece (sort_of t.kind) ≡ true → brings_piece (sort_of j) ≡ true → pt.view.inbox pt.view.acting ≡ i ∷ is
    → pt.view.told i ≡ Some t → is_kernels i ≡ true → spelled pt (Says (Line.Proto i) ∷ to_kernel j i.from.home ∷ []) ≡ Some w → Whole w.point
left_pull_row pt i is t j w h r pulls brings front told mine is_ =
    let v = pt.view in
    let l = Line.Proto i in
    let off : (z : Spot) → ids_at (view_after v l) z ≡ ids_at (handled v i) z = λ z. proto_off (handled v i) (v.told i) z in
    let kept = proto_knows (handled v i) (v.told i) in
    let n = line_next pt l (to_kernel j i.from.home ∷ []) w refl is_ in
    let whole = remains_whole pt l i is t h r refl refl refl front told (goes_front pt l i is refl h.state front mine off) (λ z. off z ∙ sym (first_off v i is front z)) kept.0 kept.1 in
    let (s, d, o, phase, way) = pull_left v r.p (h.phases.of r.p) i t pulls r.left in
    subst Whole n.point
    (left_whole (moved pt l pt.kernel) r.p j s d i.from.home o n.rest whole.whole brings (whole.same r.p ∙ phase) (proto_topic (handled v i) (v.told i) t told ∙ r.about)
    (proto_acting (handled v i) (v.told i) ∙ inbox_is v.acting d s (way.ways (Inbox v.acting) (front_one v v.acting i is front))) (ap (λ (q : Pid). q.home) way.sender) n.more)
