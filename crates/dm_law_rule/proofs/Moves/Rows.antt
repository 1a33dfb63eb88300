-- The rows of migration keep that each message stands once.
use Rattle.dm_law_rule.proofs.Names.{◌≡◌, ℕ, ◌==◌, Bool, true, false, List, [], ◌∷◌, ◌++◌, refl, ap, ◌∙◌, sym, subst, length, if◌then◌else◌, Option, None, Some, Pid, pid_of, MsgId, MessageKind, Stage, Boot, manager, none_some}
use Rattle.dm_law_rule.proofs.Names.{Size, size_of, is_server, Line, View, Told, About, NothingElse, Known, Unknown, Here, Frozen, Forward, view_after, handled, handled_first, receiver_of, is_kernels, target_of, with_ring, knowing, released, after_proto}
use Rattle.dm_law_rule.proofs.Names.{asks_on, held_for, Addresses, Sender, is_told_back, Point, moved, Part, Says, Again, Owns, Spelled, spelled, to_kernel, forwards_on, accepts, takes_chunk, takes_block, gives_piece, sends_on, leaves}
use Rattle.dm_law_rule.proofs.Names.{told_step, chunks_of, pieces_of, told_here, told_ended, process_told, kernel_hears, hears, Spot, Queue, Inbox, ids_at, bind-is, label_of, Label, MoveNote, Outcome, Target, answer_id, map, buried}
use Rattle.dm_law_rule.proofs.Names.{buried_for, forgotten, preds_of, tells_end, answers_move, frozen_for, leaves_for, tells_asker, sets_off, sort_of, option_and_then, slice_get, arith, nat_tests, bind, Of, ring_with, seated}
use Rattle.dm_law_rule.specs.Rule as rule
use Rattle.dm_law_rule.proofs.Lines.{hidden, Stands-stays}
use Rattle.dm_law_rule.proofs.Letters.{letters}
use Rattle.dm_law_rule.proofs.Hushed.{is_put, hushed}
use Rattle.dm_law_rule.proofs.Pairs.Lines.{touches, pair_same}
use Rattle.dm_law_rule.proofs.States.{State, State-at, by_line, PairsFit, said}
use Rattle.dm_law_rule.proofs.Said.{fits_as, line_and_route}
use Rattle.dm_law_rule.proofs.Moves.Lists.{Stands-held, Stands-released, both_lists, first_off}
use Rattle.dm_law_rule.proofs.Moves.States.{Between, by_own, front_way, front_kernels}
use Rattle.dm_law_rule.proofs.Moves.Sent.{Way, Steady, steadied, line_next, line_ends, line_owns, owns_all, owns_ends, again_next, all_again, forwarded_way, sent_way}
use Rattle.dm_law_rule.proofs.Seen.{about_off}
use Rattle.dm_law_rule.proofs.Bags.{bag_answered}
use Rattle.dm_law_rule.proofs.Turns.{quiet_label}

-- what the rule saw before the head is what stands behind it
pub record SeesSame (o pt : Point) (m : ℕ) : Type 0 where
  pub kernel : o.kernel ≡ pt.kernel
  pub queue : (q : Pid) → o.view.queue m q ≡ pt.view.queue pt.view.acting q
  pub held : (q : Pid) → o.view.held m q ≡ pt.view.held pt.view.acting q

-- held
pub held_row : (pt : Point) (i : MsgId) (is : List MsgId) (w : Spelled) → State None pt → pt.view.inbox pt.view.acting ≡ i ∷ is → spelled pt (Says (Line.Held i) ∷ []) ≡ Some w → State None w.point
held_row pt i is w h front e =
    let (q, way) = front_way pt i is h front in
    line_ends pt (Line.Held i) w refl
    (by_line None pt (Line.Held i) refl h (Stands-held (letters h.own pt.kernel.bag) pt.view (view_after pt.view (Line.Held i)) i is q front way refl h.stands) (λ j.
    (elim (receiver_of (pt.view.told i)) as (λ o_. (held_for (handled pt.view i) i o_).told j ≡ pt.view.told j) [ None ↦ refl | Some p' ↦ refl ]))) e

-- forwarded
told_back : (pt : Point) (b : Bool) (q : Pid) (to : ℕ) (w : Spelled) → Steady pt → spelled pt (if b then Owns MessageKind.Update q to ∷ [] else []) ≡ Some w → State None w.point
told_back pt true q to w h e = owns_ends pt MessageKind.Update q to w h e
told_back pt false q to w h e = State-at None pt w.point (said pt w e) h.state

pub forwards_row : (pt : Point) (a : Addresses) (i : MsgId) (is : List MsgId) (k : MessageKind) (sender : Pid) (to : ℕ) (w : Spelled) → State None pt → PairsFit pt.view → pt.view.inbox pt.view.acting ≡ i ∷ is → spelled pt (forwards_on a i k sender to) ≡ Some w → State None w.point
forwards_row pt a i is k sender to w h fit front e =
    let tells = if is_told_back k then Owns MessageKind.Update sender (a (Sender i)).at ∷ [] else [] in
    let n = line_next pt (Line.Forwarded i to) (Again i to ∷ tells) w refl e in
    let fit' = fits_as pt.view (view_after pt.view (Line.Forwarded i to)) (pair_same pt.view (Line.Forwarded i to) refl) fit in
    let m = again_next (moved pt (Line.Forwarded i to) pt.kernel) to i [] tells n.rest (record { between = forwarded_way pt i is to h front; fits = fit' }) n.more in
    State-at None n.rest.point w.point n.point (State-at None m.rest.point n.rest.point m.point (told_back m.next (is_told_back k) sender (a (Sender i)).at m.rest (steadied m.next m.stands) m.more))

-- lines that handle a kernel's own message, and move no other
pub goes_first : (pt : Point) (l : Line) (i : MsgId) (is : List MsgId) → is_put l ≡ false → State None pt → pt.view.inbox pt.view.acting ≡ i ∷ is → is_kernels i ≡ true → ((z : Spot) → ids_at (view_after pt.view l) z ≡ ids_at (handled_first pt.view) z) → State None (moved pt l pt.kernel)
goes_first pt l i is quiet h front mine off =
    by_own pt l i is quiet h front mine (λ s. Stands-stays (hidden (Some i) (letters h.own pt.kernel.bag)) (handled_first pt.view) (view_after pt.view l) off (λ j. ap (λ (f : MsgId → Option Told). f j) (hushed pt.view l quiet).told) s)

pub goes_front : (pt : Point) (l : Line) (i : MsgId) (is : List MsgId) → is_put l ≡ false → State None pt → pt.view.inbox pt.view.acting ≡ i ∷ is → is_kernels i ≡ true → ((z : Spot) → ids_at (view_after pt.view l) z ≡ ids_at (handled pt.view i) z) → State None (moved pt l pt.kernel)
goes_front pt l i is quiet h front mine off = goes_first pt l i is quiet h front mine (λ z. off z ∙ sym (first_off pt.view i is front z))

pub proto_off : (v : View) (o : Option Told) (z : Spot) → ids_at (after_proto v o) z ≡ ids_at v z
proto_off v None z = about_off v NothingElse z
proto_off v (Some t) z = let asks_off : (v : View) (a : About) (z : Spot) → ids_at (asks_on v a) z ≡ ids_at v z = λ v a z. search arith in search (arith, about_off, asks_off)

pub for_off : (v : View) (p : Pid) (to : ℕ) (z : Spot) → ids_at (frozen_for v p to) z ≡ ids_at v z
for_off v p to (Queue m q) = refl
for_off v p to _ = refl

pub frozen_off : (v : View) (p : Pid) → v.topic ≡ NothingElse → (z : Spot) → ids_at (view_after v (Line.Migration Stage.Frozen p)) z ≡ ids_at (handled_first v) z
frozen_off v p quiet z = ap (λ (w : View). ids_at w z) (ap (sets_off v p) quiet) ∙ for_off (handled_first v) p (target_of (option_and_then v.told (slice_get (v.inbox v.acting) 0))) z

pub asked_off : (v : View) (p : Pid) (to : ℕ) → v.topic ≡ Target to → (z : Spot) → ids_at (view_after v (Line.Migration Stage.Frozen p)) z ≡ ids_at v z
asked_off v p to asked z = ap (λ (w : View). ids_at w z) (ap (sets_off v p) asked) ∙ for_off v p to z

pub accepted_off : (v : View) (p : Pid) (z : Spot) → ids_at (view_after v (Line.Migration Stage.Accepted p)) z ≡ ids_at (handled_first v) z
accepted_off v p (Queue m q) = refl
accepted_off v p _ = refl

-- of a process step 4 handles the chunk; of a server step 5 does, which follows at once
pub state_off : (v : View) (p : Pid) → is_server p ≡ false → (z : Spot) → ids_at (view_after v (Line.Migration Stage.StateTaken p)) z ≡ ids_at (handled_first v) z
state_off v p process (Queue m q) = refl
state_off v p process (Inbox m) = ap (λ (c : Bool). (if c then v.inbox else (handled_first v).inbox) m) process
state_off v p process _ = refl

pub server_off : (v : View) (p : Pid) → is_server p ≡ true → (z : Spot) → ids_at (view_after v (Line.Migration Stage.StateTaken p)) z ≡ ids_at v z
server_off v p server (Queue m q) = refl
server_off v p server (Inbox m) = ap (λ (c : Bool). (if c then v.inbox else (handled_first v).inbox) m) server
server_off v p server _ = refl

-- and the chunk stays at the front
pub server_front : (v : View) (p : Pid) (i : MsgId) (is : List MsgId) → is_server p ≡ true → v.inbox v.acting ≡ i ∷ is → (view_after v (Line.Migration Stage.StateTaken p)).inbox v.acting ≡ i ∷ is
server_front v p i is server front = ap (λ (c : Bool). (if c then v.inbox else (handled_first v).inbox) v.acting) server ∙ front

pub memory_off : (v : View) (p : Pid) (z : Spot) → ids_at (view_after v (Line.Migration Stage.MemoryTaken p)) z ≡ ids_at (handled_first v) z
memory_off v p z = grind (arith, nat_tests)

pub lacks_off : (v : View) (p : Pid) (slots blocks : ℕ) (z : Spot) → ids_at (view_after v (Line.Lacks p slots blocks)) z ≡ ids_at (handled_first v) z
lacks_off v p slots blocks (Queue m q) = refl
lacks_off v p slots blocks _ = refl

pub left_off : (v : View) (p : Pid) (z : Spot) → ids_at (view_after v (Line.Migration Stage.Left p)) z ≡ ids_at v z
left_off v p (Queue m q) = refl
left_off v p _ = refl

-- a process or a server is here again: its held messages come to the front of the inbox
abbrev pub home_again : View → Pid → View
home_again v p = seated (with_ring (knowing v p Here) (ring_with (v.ring v.acting) p)) p

pub home_off : (v : View) (p : Pid) (z : Spot) → ids_at (home_again v p) z ≡ ids_at v z
home_off v p (Queue m q) = refl
home_off v p _ = refl

pub restarted_off : (v : View) (p : Pid) (z : Spot) → ids_at (view_after v (Line.Migration Stage.Restarted p)) z ≡ ids_at (released (home_again (handled_first v) p) p) z
restarted_off v p (Queue m q) = refl
restarted_off v p _ = refl

pub comes_back : (pt : Point) (l : Line) (i : MsgId) (is : List MsgId) (p : Pid) → is_put l ≡ false → State None pt → pt.view.inbox pt.view.acting ≡ i ∷ is → is_kernels i ≡ true
    → ((z : Spot) → ids_at (view_after pt.view l) z ≡ ids_at (released (home_again (handled_first pt.view) p) p) z) → State None (moved pt l pt.kernel)
comes_back pt l i is p quiet h front mine off =
    by_own pt l i is quiet h front mine (λ s.
    let bag = hidden (Some i) (letters h.own pt.kernel.bag) in
    let u = home_again (handled_first pt.view) p in
    Stands-released bag u (view_after pt.view l) p off (λ j. ap (λ (f : MsgId → Option Told). f j) (hushed pt.view l quiet).told) (Stands-stays bag (handled_first pt.view) u (home_off (handled_first pt.view) p) (λ j. refl) s))

-- a request to move is answered
pub answers_row : (pt : Point) (i : MsgId) (o : Outcome) (w : Spelled) → State None pt → PairsFit pt.view → spelled pt (answers_move i o) ≡ Some w → State None w.point
answers_row pt i o w h fit e =
    line_and_route pt (Line.Label (Label.Answered i o)) (answer_id i) w e refl fit (λ s k. quiet_label pt (Label.Answered i o) s (Some (answer_id i)) h k (bag_answered h.r h.e pt.kernel s i o k h.sound) (λ z. refl) (λ j. refl))

-- a line that ends a move is followed by the answer, if somebody asked for it
ends_row : (pt : Point) (l : Line) (q : Option MoveNote) (o : Outcome) (w : Spelled) → label_of l ≡ None → touches l ≡ false → PairsFit pt.view → State None (moved pt l pt.kernel) → spelled pt (Says l ∷ tells_asker q o) ≡ Some w → State None w.point
ends_row pt l q o w h1 h2 h3 h4 h5 = search (arith, line_ends, line_next, State-at, answers_row, fits_as, pair_same)

-- a process leaves, once it is frozen
pub goes_row : (pt : Point) (p : Pid) (to : ℕ) (w : Spelled) → State None (moved pt (Line.Migration Stage.Frozen p) pt.kernel) → PairsFit pt.view → spelled pt (leaves_for p to) ≡ Some w → State None w.point
goes_row pt p to w there fit e =
    let l = Line.Migration Stage.Frozen p in
    let next = moved pt l pt.kernel in
    let n = line_next pt l (Says (Line.Migration Stage.Asked p) ∷ to_kernel MessageKind.Ask to ∷ []) w refl e in
    let fit' : PairsFit next.view = fits_as pt.view next.view (pair_same pt.view l refl) fit in
    State-at None n.rest.point w.point n.point
    (line_owns next (Line.Migration Stage.Asked p) MessageKind.Ask (pid_of to 0) to n.rest refl refl fit' (by_line None next (Line.Migration Stage.Asked p) refl there there.stands (λ j. refl)) n.more)

-- it was asked to move in this group
pub frozen_state : (pt : Point) (p : Pid) (to : ℕ) → State None pt → pt.view.topic ≡ Target to → State None (moved pt (Line.Migration Stage.Frozen p) pt.kernel)
frozen_state pt p to h asked =
    let l = Line.Migration Stage.Frozen p in
    let told : (j : MsgId) → (view_after pt.view l).told j ≡ pt.view.told j = λ j. ap (λ (f : MsgId → Option Told). f j) (hushed pt.view l refl).told in
    by_line None pt l refl h (Stands-stays (letters h.own pt.kernel.bag) pt.view (view_after pt.view l) (λ z. asked_off pt.view p to asked z) told h.stands) told

-- a directive has it move
moves_row : (pt : Point) (i : MsgId) (is : List MsgId) (p : Pid) (to : ℕ) (same : Bool) (w : Spelled) → State None pt → PairsFit pt.view → pt.view.topic ≡ NothingElse → pt.view.inbox pt.view.acting ≡ i ∷ is → is_kernels i ≡ true
    → spelled pt (if same then Says (Line.Here i) ∷ [] else leaves_for p to) ≡ Some w → State None w.point
moves_row pt i is p to true w h fit topic front mine e = line_ends pt (Line.Here i) w refl (goes_front pt (Line.Here i) i is refl h front mine (λ z. refl)) e
moves_row pt i is p to false w h fit topic front mine e = goes_row pt p to w (goes_first pt (Line.Migration Stage.Frozen p) i is refl h front mine (λ z. frozen_off pt.view p topic z)) fit e

accepts_row : (pt : Point) (i : MsgId) (is : List MsgId) (p : Pid) (from : ℕ) (room : Bool) (slots blocks : ℕ) (w : Spelled) → State None pt → PairsFit pt.view → pt.view.inbox pt.view.acting ≡ i ∷ is → is_kernels i ≡ true → spelled pt (accepts from p room slots blocks) ≡ Some w → State None w.point
accepts_row pt i is p from true slots blocks w h fit front mine e =
    line_owns pt (Line.Migration Stage.Accepted p) MessageKind.PullState (pid_of from 0) from w refl refl fit (goes_first pt (Line.Migration Stage.Accepted p) i is refl h front mine (λ z. accepted_off pt.view p z)) e
accepts_row pt i is p from false slots blocks w h fit front mine e =
    line_owns pt (Line.Lacks p slots blocks) MessageKind.Refuse (pid_of from 0) from w refl refl fit (goes_first pt (Line.Lacks p slots blocks) i is refl h front mine (λ z. lacks_off pt.view p slots blocks z)) e

proto_row : (pt : Point) (i : MsgId) (is : List MsgId) (k : MessageKind) (w : Spelled) → State None pt → PairsFit pt.view → pt.view.inbox pt.view.acting ≡ i ∷ is → is_kernels i ≡ true → spelled pt (Says (Line.Proto i) ∷ to_kernel k i.from.home ∷ []) ≡ Some w → State None w.point
proto_row pt i is k w h fit front mine e =
    line_owns pt (Line.Proto i) k (pid_of i.from.home 0) i.from.home w refl (refl) fit (goes_front pt (Line.Proto i) i is refl h front mine (λ z. proto_off (handled pt.view i) (pt.view.told i) z)) e

-- the last chunk of a server, whose step 4 handles nothing
pub server_state : (pt : Point) (p : Pid) → is_server p ≡ true → State None pt → State None (moved pt (Line.Migration Stage.StateTaken p) pt.kernel)
server_state pt p server h =
    let l = Line.Migration Stage.StateTaken p in
    by_line None pt l refl h (Stands-stays (letters h.own pt.kernel.bag) pt.view (view_after pt.view l) (λ z. server_off pt.view p server z) (λ j. refl) h.stands) (λ j. refl)

server_row : (pt : Point) (i : MsgId) (is : List MsgId) (p : Pid) (w : Spelled) → State None pt → PairsFit pt.view → pt.view.inbox pt.view.acting ≡ i ∷ is → is_kernels i ≡ true → is_server p ≡ true
    → spelled pt (Says (Line.Migration Stage.StateTaken p) ∷ Says (Line.Migration Stage.MemoryTaken p) ∷ to_kernel MessageKind.AllTaken i.from.home ∷ []) ≡ Some w → State None w.point
server_row pt i is p w h fit front mine server e =
    let l = Line.Migration Stage.StateTaken p in
    let next = moved pt l pt.kernel in
    let n = line_next pt l (Says (Line.Migration Stage.MemoryTaken p) ∷ to_kernel MessageKind.AllTaken i.from.home ∷ []) w refl e in
    State-at None n.rest.point w.point n.point
    (line_owns next (Line.Migration Stage.MemoryTaken p) MessageKind.AllTaken (pid_of i.from.home 0) i.from.home n.rest refl refl (fits_as pt.view next.view (pair_same pt.view l refl) fit)
    (goes_first next (Line.Migration Stage.MemoryTaken p) i is refl (server_state pt p server h) (server_front pt.view p i is server front) mine (λ z. memory_off next.view p z)) n.more)

last_row : (pt : Point) (i : MsgId) (is : List MsgId) (p : Pid) (server : Bool) (w : Spelled) → is_server p ≡ server → State None pt → PairsFit pt.view → pt.view.inbox pt.view.acting ≡ i ∷ is → is_kernels i ≡ true
    → spelled pt (if server then Says (Line.Migration Stage.StateTaken p) ∷ Says (Line.Migration Stage.MemoryTaken p) ∷ to_kernel MessageKind.AllTaken i.from.home ∷ [] else Says (Line.Migration Stage.StateTaken p) ∷ to_kernel MessageKind.PullBlock i.from.home ∷ []) ≡ Some w
    → State None w.point
last_row pt i is p true w server h fit front mine e = server_row pt i is p w h fit front mine server e
last_row pt i is p false w process h fit front mine e =
    line_owns pt (Line.Migration Stage.StateTaken p) MessageKind.PullBlock (pid_of i.from.home 0) i.from.home w refl refl fit (goes_first pt (Line.Migration Stage.StateTaken p) i is refl h front mine (λ z. state_off pt.view p process z)) e

chunk_row : (pt : Point) (i : MsgId) (is : List MsgId) (p : Pid) (last : Bool) (w : Spelled) → State None pt → PairsFit pt.view → pt.view.inbox pt.view.acting ≡ i ∷ is → is_kernels i ≡ true → spelled pt (takes_chunk i p last) ≡ Some w → State None w.point
chunk_row pt i is p true w h fit front mine e = last_row pt i is p (is_server p) w refl h fit front mine e
chunk_row pt i is p false w h fit front mine e = proto_row pt i is MessageKind.PullState w h fit front mine e

block_row : (pt : Point) (i : MsgId) (is : List MsgId) (p : Pid) (last : Bool) (w : Spelled) → State None pt → PairsFit pt.view → pt.view.inbox pt.view.acting ≡ i ∷ is → is_kernels i ≡ true → spelled pt (takes_block i p last) ≡ Some w → State None w.point
block_row pt i is p true w h fit front mine e =
    line_owns pt (Line.Migration Stage.MemoryTaken p) MessageKind.AllTaken (pid_of i.from.home 0) i.from.home w refl refl fit (goes_first pt (Line.Migration Stage.MemoryTaken p) i is refl h front mine (λ z. memory_off pt.view p z)) e
block_row pt i is p false w h fit front mine e = proto_row pt i is MessageKind.PullBlock w h fit front mine e

-- the lists of a process that has left go on
leaves_row : (pt : Point) (i : MsgId) (is : List MsgId) (p : Pid) (ids : List MsgId) (k : Known) (parts : List Part) (w : Spelled) → State None pt → PairsFit pt.view → pt.view.inbox pt.view.acting ≡ i ∷ is → is_kernels i ≡ true → both_lists pt.view p ≡ ids → leaves i p ids k ≡ Some parts → spelled pt parts ≡ Some w → State None w.point
leaves_row pt i is p ids (Frozen to) parts w h fit front mine same e n =
    let end = Says (Line.Migration Stage.Left p) ∷ to_kernel MessageKind.Restart i.from.home ∷ [] in
    let l = Line.SentOn p (length ids) in
    let f : Says l ∷ sends_on to ids ++ end ≡ parts = cc in
    let k = line_next pt l (sends_on to ids ++ end) w refl (ap (spelled pt) f ∙ n) in
    let next = moved pt l pt.kernel in
    let fit' : PairsFit next.view = fits_as pt.view next.view (pair_same pt.view l refl) fit in
    let way : Way ids next = record { between = subst (λ (js : List MsgId). Between js next) same (sent_way pt p (length ids) i is h front mine); fits = fit' } in
    let a = all_again ids next to end k.rest way k.more in
    -- a process has left, and may be restarted
    let left_row : (pt : Point) (i : MsgId) (p : Pid) (w : Spelled) → Steady pt → spelled pt (Says (Line.Migration Stage.Left p) ∷ to_kernel MessageKind.Restart i.from.home ∷ []) ≡ Some w → State None w.point = λ pt i p w h e.
    let l = Line.Migration Stage.Left p in
    line_owns pt l MessageKind.Restart (pid_of i.from.home 0) i.from.home w refl refl h.fits
    (by_line None pt l refl h.state (Stands-stays (letters h.state.own pt.kernel.bag) pt.view (view_after pt.view l) (λ z. left_off pt.view p z) (λ j. refl) h.state.stands) (λ j. refl)) e in
    State-at None k.rest.point w.point k.point (State-at None a.rest.point k.rest.point a.point (left_row a.next i p a.rest (steadied a.next a.stands) a.more))
leaves_row pt i is p ids _ parts w h fit front mine same e n = none_some parts e

-- what a kernel is told
pub given : (pt : Point) (qs ps : List Part) (w : Spelled) → Some qs ≡ Some ps → spelled pt ps ≡ Some w → spelled pt qs ≡ Some w
given pt qs ps w e n = let f : qs ≡ ps = cc in ap (spelled pt) f ∙ n

pub both_same : (o pt : Point) (m : ℕ) (p : Pid) → SeesSame o pt m → both_lists pt.view p ≡ o.view.queue m p ++ o.view.held m p
both_same o pt m p sees = sym (ap (λ (q : List MsgId). q ++ o.view.held m p) (sees.queue p) ∙ ap (λ (q : List MsgId). pt.view.queue pt.view.acting p ++ q) (sees.held p))

told_row : (o pt : Point) (m : ℕ) (i : MsgId) (is : List MsgId) (p : Pid) (room : Bool × ℕ × ℕ) (x : Size) (k : MessageKind) (parts : List Part) (w : Spelled) → State None pt → PairsFit pt.view → pt.view.inbox pt.view.acting ≡ i ∷ is → is_kernels i ≡ true → SeesSame o pt m
    → told_step o m i p room x (sort_of k) ≡ Some parts → spelled pt parts ≡ Some w → State None w.point
told_row o pt m i is p room x MessageKind.Ask parts w h fit front mine sees e n = accepts_row pt i is p i.from.home room.0 room.1 room.2 w h fit front mine (given pt (accepts i.from.home p room.0 room.1 room.2) parts w e n)
told_row o pt m i is p room x MessageKind.Refuse parts w h fit front mine sees e n =
    let q = o.kernel.notes p in
    ends_row pt (Line.Stays p) q Outcome.Stayed w refl refl fit (comes_back pt (Line.Stays p) i is p refl h front mine (λ z. refl)) (given pt (Says (Line.Stays p) ∷ tells_asker q Outcome.Stayed) parts w e n)
told_row o pt m i is p room x MessageKind.PullState parts w h fit front mine sees e n = proto_row pt i is MessageKind.State w h fit front mine (given pt (gives_piece i MessageKind.State) parts w e n)
told_row o pt m i is p room x MessageKind.State parts w h fit front mine sees e n = chunk_row pt i is p (o.view.asked p == chunks_of x) w h fit front mine (given pt (takes_chunk i p (o.view.asked p == chunks_of x)) parts w e n)
told_row o pt m i is p room x MessageKind.PullBlock parts w h fit front mine sees e n = proto_row pt i is MessageKind.Memory w h fit front mine (given pt (gives_piece i MessageKind.Memory) parts w e n)
told_row o pt m i is p room x MessageKind.Memory parts w h fit front mine sees e n = block_row pt i is p (o.view.asked p == pieces_of x) w h fit front mine (given pt (takes_block i p (o.view.asked p == pieces_of x)) parts w e n)
told_row o pt m i is p room x MessageKind.AllTaken parts w h fit front mine sees e n = leaves_row pt i is p (o.view.queue m p ++ o.view.held m p) (o.view.known m p) parts w h fit front mine (both_same o pt m p sees) e n
told_row o pt m i is p room x MessageKind.Restart parts w h fit front mine sees e n =
    let q = o.kernel.notes p in
    let l = Line.Migration Stage.Restarted p in
    ends_row pt l q Outcome.Done w refl refl fit (comes_back pt l i is p refl h front mine (λ z. restarted_off pt.view p z)) (given pt (Says l ∷ tells_asker q Outcome.Done) parts w e n)
told_row o pt m i is p room x MessageKind.CallOff parts w h fit front mine sees e n =
    let q = o.kernel.notes p in
    ends_row pt (Line.Stays p) q Outcome.Stayed w refl refl fit (comes_back pt (Line.Stays p) i is p refl h front mine (λ z. refl)) (given pt (Says (Line.Stays p) ∷ tells_asker q Outcome.Stayed) parts w e n)
told_row o pt m i is p room x _ parts w h fit front mine sees e n = none_some parts e

-- a piece that isn't awaited, or what a kernel is told
due_row : (b : Boot) (o pt : Point) (m : ℕ) (i : MsgId) (is : List MsgId) (k : MessageKind) (p : Pid) (stale : Bool) (parts : List Part) (w : Spelled) → State None pt → PairsFit pt.view → pt.view.inbox pt.view.acting ≡ i ∷ is → is_kernels i ≡ true → SeesSame o pt m
    → (if stale then Some (Says (Line.Stale i) ∷ []) else bind (size_of o.kernel p) (λ (x : Size). told_step o m i p (rule.fits (rule.free_room b o m) x.blocks) x (sort_of k))) ≡ Some parts → spelled pt parts ≡ Some w → State None w.point
due_row b o pt m i is k p true parts w h fit front mine sees e n = line_ends pt (Line.Stale i) w refl (goes_front pt (Line.Stale i) i is refl h front mine (λ z. refl)) (given pt (Says (Line.Stale i) ∷ []) parts w e n)
due_row b o pt m i is k p false parts w h fit front mine sees e n =
    let (x, alive, steps) = bind-is (size_of o.kernel p) (λ (x : Size). told_step o m i p (rule.fits (rule.free_room b o m) x.blocks) x (sort_of k)) parts e in
    told_row o pt m i is p (rule.fits (rule.free_room b o m) x.blocks) x k parts w h fit front mine sees steps n

-- a process has ended elsewhere: the machine forgets it, and others are told in turn
bury_row : (o pt : Point) (m : ℕ) (i : MsgId) (is : List MsgId) (p : Pid) (w : Spelled) → State None pt → PairsFit pt.view → pt.view.inbox pt.view.acting ≡ i ∷ is → is_kernels i ≡ true → spelled pt (buried o m i p) ≡ Some w → State None w.point
bury_row o pt m i is p w h fit front mine e =
    let forgotten_off : (v : View) (a : About) (z : Spot) → ids_at (forgotten v a) z ≡ ids_at v z = λ v a z. search arith in
    let buried_off : (v : View) (t : Option Told) (z : Spot) → ids_at (buried_for v t) z ≡ ids_at v z = λ v t z. search (arith, forgotten_off) in
    let ms = preds_of o m p in
    let l = Line.Buried i (length ms) in
    let next = moved pt l pt.kernel in
    let n = line_next pt l (map (to_kernel MessageKind.Bury) ms) w refl e in
    State-at None n.rest.point w.point n.point
    (owns_all MessageKind.Bury ms next n.rest (record { state = goes_front pt l i is refl h front mine (λ z. buried_off (handled pt.view i) (pt.view.told i) z); fits = fits_as pt.view next.view (pair_same pt.view l refl) fit }) n.more)

over_row : (b : Boot) (o pt : Point) (m : ℕ) (i : MsgId) (is : List MsgId) (k : MessageKind) (p : Pid) (over : Bool) (parts : List Part) (w : Spelled) → State None pt → PairsFit pt.view → pt.view.inbox pt.view.acting ≡ i ∷ is → is_kernels i ≡ true → SeesSame o pt m
    → (if over then Some (buried o m i p)
    else if rule.is_stale o m i k p then Some (Says (Line.Stale i) ∷ [])
    else bind (size_of o.kernel p) (λ (x : Size). told_step o m i p (rule.fits (rule.free_room b o m) x.blocks) x (sort_of k))) ≡ Some parts
    → spelled pt parts ≡ Some w → State None w.point
over_row b o pt m i is k p true parts w h fit front mine sees e n = bury_row o pt m i is p w h fit front mine (given pt (buried o m i p) parts w e n)
over_row b o pt m i is k p false parts w h fit front mine sees e n = due_row b o pt m i is k p (rule.is_stale o m i k p) parts w h fit front mine sees e n

kernel_row : (b : Boot) (o pt : Point) (m : ℕ) (i : MsgId) (is : List MsgId) (k : MessageKind) (a : About) (parts : List Part) (w : Spelled) → State None pt → PairsFit pt.view → pt.view.inbox pt.view.acting ≡ i ∷ is → is_kernels i ≡ true → SeesSame o pt m
    → kernel_hears b o m i k a ≡ Some parts → spelled pt parts ≡ Some w → State None w.point
kernel_row b o pt m i is k (Of p) parts w h fit front mine sees e n = over_row b o pt m i is k p (tells_end (sort_of k)) parts w h fit front mine sees e n
kernel_row b o pt m i is k _ parts w h fit front mine sees e n = none_some parts e

updated_row : (o pt : Point) (i : MsgId) (is : List MsgId) (n : ℕ) (parts : List Part) (w : Spelled) → State None pt → pt.view.inbox pt.view.acting ≡ i ∷ is → is_kernels i ≡ true → Some (Says (Line.Updated i n) ∷ []) ≡ Some parts → spelled pt parts ≡ Some w → State None w.point
updated_row o pt i is n parts w h front mine e k = line_ends pt (Line.Updated i n) w refl (goes_front pt (Line.Updated i n) i is refl h front mine (λ z. refl)) (given pt (Says (Line.Updated i n) ∷ []) parts w e k)

here_row : (o pt : Point) (m : ℕ) (i : MsgId) (is : List MsgId) (t : Told) (k : MessageKind) (parts : List Part) (w : Spelled) → State None pt → PairsFit pt.view → pt.view.topic ≡ NothingElse → pt.view.inbox pt.view.acting ≡ i ∷ is
    → is_kernels i ≡ true
    → told_here o m i t (sort_of k) ≡ Some parts → spelled pt parts ≡ Some w → State None w.point
here_row o pt m i is t MessageKind.Migrate parts w h fit topic front mine e n = moves_row pt i is t.receiver (target_of (Some t)) (m == target_of (Some t)) w h fit topic front mine (given pt (if m == (target_of (Some t)) then Says (Line.Here i) ∷ [] else leaves_for t.receiver (target_of (Some t))) parts w e n)
here_row o pt m i is t MessageKind.Update parts w h fit topic front mine e n = updated_row o pt i is _ parts w h front mine e n
here_row o pt m i is t _ parts w h fit topic front mine e n = none_some parts e

ended_row : (pt : Point) (i : MsgId) (is : List MsgId) (k : MessageKind) (parts : List Part) (w : Spelled) → State None pt → pt.view.inbox pt.view.acting ≡ i ∷ is → is_kernels i ≡ true → told_ended i (sort_of k) ≡ Some parts → spelled pt parts ≡ Some w → State None w.point
ended_row pt i is MessageKind.Migrate parts w h front mine e n = line_ends pt (Line.NoMove i) w refl (goes_front pt (Line.NoMove i) i is refl h front mine (λ z. refl)) (given pt (Says (Line.NoMove i) ∷ []) parts w e n)
ended_row pt i is MessageKind.Update parts w h front mine e n = updated_row pt pt i is 0 parts w h front mine e n
ended_row pt i is _ parts w h front mine e n = none_some parts e

process_row : (o pt : Point) (m : ℕ) (i : MsgId) (is : List MsgId) (t : Told) (k : Known) (parts : List Part) (w : Spelled) → State None pt → PairsFit pt.view → pt.view.topic ≡ NothingElse → pt.view.inbox pt.view.acting ≡ i ∷ is → is_kernels i ≡ true
    → process_told o m i t k ≡ Some parts → spelled pt parts ≡ Some w → State None w.point
process_row o pt m i is t Unknown parts w h fit topic front mine e n = ended_row pt i is t.kind parts w h front mine e n
process_row o pt m i is t Here parts w h fit topic front mine e n = here_row o pt m i is t t.kind parts w h fit topic front mine e n
process_row o pt m i is t (Forward at moves) parts w h fit topic front mine e n =
    forwards_row pt o.addresses i is t.kind manager at w h fit front (given pt (forwards_on o.addresses i t.kind manager at) parts w e n)
process_row o pt m i is t _ parts w h fit topic front mine e n = held_row pt i is w h front (given pt (Says (Line.Held i) ∷ []) parts w e n)

hears_by : (b : Boot) (o pt : Point) (m : ℕ) (i : MsgId) (is : List MsgId) (t : Told) (c : Bool) (parts : List Part) (w : Spelled) → State None pt → PairsFit pt.view → pt.view.topic ≡ NothingElse → pt.view.inbox pt.view.acting ≡ i ∷ is
    → is_kernels i ≡ true → SeesSame o pt m
    → (if c then kernel_hears b o m i t.kind t.about else process_told o m i t (o.view.known m t.receiver)) ≡ Some parts → spelled pt parts ≡ Some w → State None w.point
hears_by b o pt m i is t true parts w h fit topic front mine sees e n = kernel_row b o pt m i is t.kind t.about parts w h fit front mine sees e n
hears_by b o pt m i is t false parts w h fit topic front mine sees e n = process_row o pt m i is t (o.view.known m t.receiver) parts w h fit topic front mine e n

pub hears_row : (b : Boot) (o pt : Point) (m : ℕ) (i : MsgId) (is : List MsgId) (t : Option Told) (parts : List Part) (w : Spelled) → State None pt → PairsFit pt.view → pt.view.topic ≡ NothingElse → pt.view.inbox pt.view.acting ≡ i ∷ is
    → pt.kernel.bag i ≡ None → SeesSame o pt m
    → hears b o m i t ≡ Some parts → spelled pt parts ≡ Some w → State None w.point
hears_row b o pt m i is None parts w h fit topic front none sees e n = none_some parts e
hears_row b o pt m i is (Some t) parts w h fit topic front none sees e n =
    hears_by b o pt m i is t (t.receiver.num == 0) parts w h fit topic front (front_kernels pt i is h front none) sees e n
