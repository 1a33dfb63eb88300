-- A turn of a machine that has mail: its first line takes the message at the front, and the others bring nothing back.
use Rattle.dm_law_moves.proofs.Names.{◌≡◌, ℕ, ◌+◌, ◌==◌, ◌||◌, Bool, true, false, List, [], ◌∷◌, ◌++◌, length, refl, ap, ◌∙◌, sym, ⊤, if◌then◌else◌, slice_get, Option, None, Some, false≢true, Pid, pid_of, pid_eq, MsgId, MessageKind, Label}
use Rattle.dm_law_moves.proofs.Names.{Stage, plain_kind, PlainMessage, PlainWhat, Boot, BootImage, first_number, switchboard, manager, PlainProcess, answer_id, bind-is, Line, Sender, is_told_back, accepts, chunks_of, told_ended}
use Rattle.dm_law_moves.proofs.Names.{forwards_on, told_here, told_step, leaves, pieces_of, process_told, sends_on, takes_block, takes_chunk, to_kernel, Part, Says, Routes, Again, Owns, Transmits, Point, Room, board_took}
use Rattle.dm_law_moves.proofs.Names.{comes_to, creation_parts, drop_parts, ended_handles, free_room, handles, has_room, hears, here_handles, kernel_handles, kernel_hears, landing_parts, manager_parts, process_handles, routes, says}
use Rattle.dm_law_always.proofs.Names.{fits}
use Rattle.dm_law_moves.proofs.Names.{About, Known, Of, Told, target_of, touches, lets_go, told_lets_go, MoveNote, Outcome, answers_move, leaves_for, tells_asker, sort_of, bind, is_stale, map, buried, buries, ends_with, preds_of}
use Rattle.dm_law_moves.proofs.Names.{tells_end, is_server, Size, size_of}
use Rattle.dm_onekernel.specs.Pieces as pieces
use Rattle.dm_onekernel.specs.Switchboard as board
use Rattle.dm_onekernel.specs.Manager as manage
use Rattle.dm_onekernel.specs.Step as kernel
use Rattle.dm_law_moves.proofs.Settles.Effects.{Effect, Returns, effect, takes_front}

-- a line that changes no pair and brings nothing back; a route is no such line
abbrev pub is_back : Effect → Bool
is_back (Returns p) = true
is_back _ = false

abbrev pub IsCalm : Part → Type 0
IsCalm (Says l) = (touches l ≡ false) × (is_back (effect l) ≡ false)
IsCalm (Transmits a b l) = ⊥
IsCalm _ = ⊤

abbrev pub AllCalm : List Part → Type 0
AllCalm [] = ⊤
AllCalm (p ∷ ps) = IsCalm p × AllCalm ps

-- a message is routed
abbrev pub is_route : Part → Bool
is_route (Says l) = false
is_route (Transmits a b l) = false
is_route _ = true

abbrev pub has_route : List Part → Bool
has_route [] = false
has_route (p ∷ ps) = is_route p || has_route ps

-- the parts of such a turn, whose first line takes the front, or a message is routed; only a restart or a refusal brings messages back
pub record Handles (i : MsgId) (told : Option Told) (ps : List Part) : Type 0 where
  pub first : Line
  pub rest : List Part
  pub is : ps ≡ Says first ∷ rest
  pub takes : has_route rest ≡ false → takes_front i (effect first)
  pub touches_ : touches first ≡ false
  pub calm : AllCalm rest
  pub back : is_back (effect first) ≡ true → told_lets_go told ≡ true

abbrev HandlesBy : MsgId → Option Told → Option (List Part) → Type 0
HandlesBy i told o = (ps : List Part) → o ≡ Some ps → Handles i told ps

-- a line that brings nothing back, and calm parts
quiet_row : (i : MsgId) (told : Option Told) (l : Line) (rest ps : List Part) → takes_front i (effect l) → touches l ≡ false → is_back (effect l) ≡ false → AllCalm rest → Some (Says l ∷ rest) ≡ Some ps → Handles i told ps
quiet_row i told l rest ps takes touch back calm e =
    let f : Says l ∷ rest ≡ ps = cc in
    record { first = l; rest = rest; is = sym f; takes = λ last. takes; touches_ = touch; calm = calm; back = λ g. absurd (false≢true (sym back ∙ g)) }

-- and one that does
back_row : (i : MsgId) (told : Option Told) (l : Line) (rest ps : List Part) → takes_front i (effect l) → touches l ≡ false → told_lets_go told ≡ true
    → AllCalm rest → Some (Says l ∷ rest) ≡ Some ps → Handles i told ps
back_row i told l rest ps takes touch lets calm e =
    let f : Says l ∷ rest ≡ ps = cc in
    record { first = l; rest = rest; is = sym f; takes = λ last. takes; touches_ = touch; calm = calm; back = λ g. lets }

drops_calm : (ids : List MsgId) → AllCalm (drop_parts ids)
drops_calm [] = tt
drops_calm (i ∷ is) = ((refl, refl), drops_calm is)

buries_calm : (ms : List ℕ) → AllCalm (map (to_kernel MessageKind.Bury) ms)
buries_calm [] = tt
buries_calm (m ∷ ms) = (tt, buries_calm ms)

both_calm : (ps qs : List Part) → AllCalm ps → AllCalm qs → AllCalm (ps ++ qs)
both_calm [] qs h k = k
both_calm (p ∷ ps) qs h k = (h.0, both_calm ps qs h.1 k)

-- what follows an end
ends_calm : (pt : Point) (m : ℕ) (p : Pid) → AllCalm (ends_with pt m p)
ends_calm pt m p = both_calm (drop_parts (pt.view.queue m p)) (buries pt m p) (drops_calm (pt.view.queue m p)) (buries_calm (preds_of pt m p))

sends_calm : (to : ℕ) (ids : List MsgId) → AllCalm (sends_on to ids)
sends_calm to [] = tt
sends_calm to (i ∷ is) = (tt, sends_calm to is)

routes_calm : (o : Option PlainMessage) → AllCalm (routes o)
routes_calm None = tt
routes_calm (Some m) = (tt, tt)

asker_calm : (o : Option MoveNote) (r : Outcome) → AllCalm (tells_asker o r)
asker_calm None r = tt
asker_calm (Some n) r = ((refl, refl), (tt, tt))

if_calm : (c : Bool) (ps qs : List Part) → AllCalm ps → AllCalm qs → AllCalm (if c then ps else qs)
if_calm true ps qs h k = h
if_calm false ps qs h k = k

-- messages of the bag
made_row : (pt : Point) (m : ℕ) (i : MsgId) (told : Option Told) (r : Room) (image : BootImage) (c : Bool) (ps : List Part)
    → Some ((if c then says (Label.Created i (pid_of m (first_number + pt.kernel.made m))) else says (Label.NoSpace i r.slots r.blocks)) ∷ Routes (answer_id i) ∷ []) ≡ Some ps → Handles i told ps
made_row pt m i told r image true ps e = quiet_row i told (Line.Label (Label.Created i (pid_of m (first_number + pt.kernel.made m)))) (Routes (answer_id i) ∷ []) ps refl refl refl (tt, tt) e
made_row pt m i told r image false ps e = quiet_row i told (Line.Label (Label.NoSpace i r.slots r.blocks)) (Routes (answer_id i) ∷ []) ps refl refl refl (tt, tt) e

creates_row : (pt : Point) (m : ℕ) (i : MsgId) (told : Option Told) (r : Room) (o : Option BootImage) → HandlesBy i told (creation_parts pt m i r o)
creates_row pt m i told r None ps e = cc
creates_row pt m i told r (Some image) ps e = made_row pt m i told r image (has_room r image.blocks) ps e

kernel_row : (b : Boot) (pt : Point) (m : ℕ) (i : MsgId) (told : Option Told) (w : PlainWhat) → HandlesBy i told (kernel_handles b pt m i w)
kernel_row b pt m i told (PlainWhat.Create image links) ps e = creates_row pt m i told (free_room b pt m) (slice_get b.images image) ps e
kernel_row b pt m i told w ps e = cc

board_row : (i : MsgId) (told : Option Told) (o : Option board.BoardTook) → HandlesBy i told (board_took i o)
board_row i told None ps e = cc
board_row i told (Some t) ps e = quiet_row i told (Line.Label (Label.Took i)) (routes t.answer) ps refl refl refl (routes_calm t.answer) e

manager_row : (i : MsgId) (told : Option Told) (o : Option manage.ManagerTook) → HandlesBy i told (manager_parts i o)
manager_row i told None ps e = cc
manager_row i told (Some t) ps e = quiet_row i told (Line.Label (Label.Took i)) (routes t.message) ps refl refl refl (routes_calm t.message) e

lands_row : (i : MsgId) (told : Option Told) (o : Option pieces.Landed) → HandlesBy i told (landing_parts i o)
lands_row i told None ps e = cc
lands_row i told (Some (pieces.Next request x)) ps e = quiet_row i told (Line.Label (Label.Served i)) (Routes request.id ∷ []) ps refl refl refl (tt, tt) e
lands_row i told (Some (pieces.Done reply x)) ps e = quiet_row i told (Line.Label (Label.Served i)) [] ps refl refl refl tt e

here_row : (pt : Point) (m : ℕ) (i : MsgId) (told : Option Told) (msg : PlainMessage) (x : PlainProcess) (w : PlainWhat) → HandlesBy i told (here_handles pt m i msg x w)
here_row pt m i told msg x (PlainWhat.User code channel body links) ps e = quiet_row i told (Line.Queued i) [] ps refl refl refl tt e
here_row pt m i told msg x PlainWhat.Stop ps e = quiet_row i told (Line.Label (Label.Served i)) [] ps refl refl refl tt e
here_row pt m i told msg x PlainWhat.Resume ps e = quiet_row i told (Line.Label (Label.Served i)) [] ps refl refl refl tt e
here_row pt m i told msg x PlainWhat.Kill ps e = quiet_row i told (Line.Label (Label.Served i)) (ends_with pt m msg.to) ps refl refl refl (ends_calm pt m msg.to) e
here_row pt m i told msg x (PlainWhat.Read base len) ps e = quiet_row i told (Line.Label (Label.Served i)) (Routes (answer_id i) ∷ []) ps refl refl refl (tt, tt) e
here_row pt m i told msg x (PlainWhat.Write base bytes) ps e = quiet_row i told (Line.Label (Label.Served i)) (Routes (answer_id i) ∷ []) ps refl refl refl (tt, tt) e
here_row pt m i told msg x (PlainWhat.Block bytes) ps e = lands_row i told (pieces.lands msg.to x msg x.status) ps e
here_row pt m i told msg x PlainWhat.Written ps e = lands_row i told (pieces.lands msg.to x msg x.status) ps e
here_row pt m i told msg x PlainWhat.Gone ps e = lands_row i told (pieces.lands msg.to x msg x.status) ps e
here_row pt m i told msg x (PlainWhat.Move machine) ps e =
    quiet_row i told (Line.Label (Label.Asked i)) _ ps refl refl refl
    (if_calm (m == machine) (answers_move i Outcome.Done) (leaves_for msg.to machine) ((refl, refl), (tt, tt)) ((refl, refl), ((refl, refl), (tt, tt)))) e
here_row pt m i told msg x w ps e = cc

ended_row : (i : MsgId) (told : Option Told) (w : PlainWhat) → HandlesBy i told (ended_handles i w)
ended_row i told (PlainWhat.Read base len) ps e = quiet_row i told (Line.Label (Label.Gone i)) (Routes (answer_id i) ∷ []) ps refl refl refl (tt, tt) e
ended_row i told (PlainWhat.Write base bytes) ps e = quiet_row i told (Line.Label (Label.Gone i)) (Routes (answer_id i) ∷ []) ps refl refl refl (tt, tt) e
ended_row i told (PlainWhat.Move machine) ps e = quiet_row i told (Line.Label (Label.Gone i)) (Routes (answer_id i) ∷ []) ps refl refl refl (tt, tt) e
ended_row i told (PlainWhat.User code channel body links) ps e = quiet_row i told (Line.Label (Label.Dropped i)) [] ps refl refl refl tt e
ended_row i told PlainWhat.Stop ps e = quiet_row i told (Line.Label (Label.Dropped i)) [] ps refl refl refl tt e
ended_row i told PlainWhat.Resume ps e = quiet_row i told (Line.Label (Label.Dropped i)) [] ps refl refl refl tt e
ended_row i told PlainWhat.Kill ps e = quiet_row i told (Line.Label (Label.Dropped i)) [] ps refl refl refl tt e
ended_row i told (PlainWhat.Block bytes) ps e = quiet_row i told (Line.Label (Label.Dropped i)) [] ps refl refl refl tt e
ended_row i told PlainWhat.Written ps e = quiet_row i told (Line.Label (Label.Dropped i)) [] ps refl refl refl tt e
ended_row i told PlainWhat.Gone ps e = quiet_row i told (Line.Label (Label.Dropped i)) [] ps refl refl refl tt e
ended_row i told w ps e = cc

forwards_row : (pt : Point) (i : MsgId) (told : Option Told) (k : MessageKind) (sender : Pid) (to : ℕ) → HandlesBy i told (Some (forwards_on pt.addresses i k sender to))
forwards_row pt i told k sender to ps e =
    let tells = if is_told_back k then Owns MessageKind.Update sender (pt.addresses (Sender i)).at ∷ [] else [] in
    quiet_row i told (Line.Forwarded i to) (Again i to ∷ tells) ps refl refl refl (tt, if_calm (is_told_back k) (Owns MessageKind.Update sender (pt.addresses (Sender i)).at ∷ []) [] (tt, tt) tt) e

chosen : (i : MsgId) (told : Option Told) (c : Bool) (o q : Option (List Part)) → HandlesBy i told o → HandlesBy i told q → HandlesBy i told (if c then o else q)
chosen i told true o q h k ps e = h ps e
chosen i told false o q h k ps e = k ps e

own_row : (pt : Point) (m : ℕ) (i : MsgId) (told : Option Told) (msg : PlainMessage) → HandlesBy i told (bind (kernel.alive (pt.kernel.processes msg.to)) (λ x. here_handles pt m i msg x msg.what))
own_row pt m i told msg ps e =
    let (x, there, is) = bind-is (kernel.alive (pt.kernel.processes msg.to)) (λ x. here_handles pt m i msg x msg.what) ps e in here_row pt m i told msg x msg.what ps is

process_row : (pt : Point) (m : ℕ) (i : MsgId) (told : Option Told) (msg : PlainMessage) (k : Known) → HandlesBy i told (process_handles pt m i msg k)
process_row pt m i told msg Known.Unknown ps e = ended_row i told msg.what ps e
process_row pt m i told msg Known.Here ps e =
    chosen i told (pid_eq msg.to switchboard) (board_took i (board.board_takes pt.kernel.switchboard msg msg.what)) _ (board_row i told (board.board_takes pt.kernel.switchboard msg msg.what))
    (chosen i told (pid_eq msg.to manager) (manager_parts i (manage.manager_takes pt.kernel.manager pt.kernel.machines (length pt.kernel.images) msg msg.what)) _
    (manager_row i told (manage.manager_takes pt.kernel.manager pt.kernel.machines (length pt.kernel.images) msg msg.what)) (own_row pt m i told msg)) ps e
process_row pt m i told msg (Known.Forward at moves) ps e = forwards_row pt i told (plain_kind msg.what) msg.sender at ps e
process_row pt m i told msg _ ps e = quiet_row i told (Line.Held i) [] ps refl refl refl tt e

bag_row : (b : Boot) (pt : Point) (m : ℕ) (i : MsgId) (told : Option Told) (msg : PlainMessage) → HandlesBy i told (handles b pt m i msg)
bag_row b pt m i told msg = chosen i told (msg.to.num == 0) (kernel_handles b pt m i msg.what) _ (kernel_row b pt m i told msg.what) (process_row pt m i told msg (pt.view.known m msg.to))

-- the kernels' own messages
accepts_row : (i : MsgId) (told : Option Told) (from : ℕ) (p : Pid) (c : Bool) (slots blocks : ℕ) → HandlesBy i told (Some (accepts from p c slots blocks))
accepts_row i told from p true slots blocks ps e = quiet_row i told (Line.Migration Stage.Accepted p) (to_kernel MessageKind.PullState from ∷ []) ps tt refl refl (tt, tt) e
accepts_row i told from p false slots blocks ps e = quiet_row i told (Line.Lacks p slots blocks) (to_kernel MessageKind.Refuse from ∷ []) ps tt refl refl (tt, tt) e

-- the last chunk; of a server the second line takes it
last_row : (i : MsgId) (told : Option Told) (p : Pid) (server : Bool) (ps : List Part) → is_server p ≡ server
    → Some (if server then Says (Line.Migration Stage.StateTaken p) ∷ Says (Line.Migration Stage.MemoryTaken p) ∷ to_kernel MessageKind.AllTaken i.from.home ∷ [] else Says (Line.Migration Stage.StateTaken p) ∷ to_kernel MessageKind.PullBlock i.from.home ∷ []) ≡ Some ps → Handles i told ps
last_row i told p true ps is e =
    let rest = Says (Line.Migration Stage.MemoryTaken p) ∷ to_kernel MessageKind.AllTaken i.from.home ∷ [] in
    let f : Says (Line.Migration Stage.StateTaken p) ∷ rest ≡ ps = cc in
    record { first = Line.Migration Stage.StateTaken p; rest = rest; is = sym f; takes = λ last. absurd (false≢true (sym last)); touches_ = refl; calm = ((refl, refl), (tt, tt)); back = λ g. absurd (false≢true g) }
last_row i told p false ps is e = quiet_row i told (Line.Migration Stage.StateTaken p) (to_kernel MessageKind.PullBlock i.from.home ∷ []) ps is refl refl (tt, tt) e

chunk_row : (i : MsgId) (told : Option Told) (p : Pid) (c : Bool) → HandlesBy i told (Some (takes_chunk i p c))
chunk_row i told p true ps e = last_row i told p (is_server p) ps refl e
chunk_row i told p false ps e = quiet_row i told (Line.Proto i) (to_kernel MessageKind.PullState i.from.home ∷ []) ps refl refl refl (tt, tt) e

block_row : (i : MsgId) (told : Option Told) (p : Pid) (c : Bool) → HandlesBy i told (Some (takes_block i p c))
block_row i told p true ps e = quiet_row i told (Line.Migration Stage.MemoryTaken p) (to_kernel MessageKind.AllTaken i.from.home ∷ []) ps tt refl refl (tt, tt) e
block_row i told p false ps e = quiet_row i told (Line.Proto i) (to_kernel MessageKind.PullBlock i.from.home ∷ []) ps refl refl refl (tt, tt) e

leaves_row : (i : MsgId) (told : Option Told) (p : Pid) (ids : List MsgId) (k : Known) → HandlesBy i told (leaves i p ids k)
leaves_row i told p ids (Known.Frozen to) ps e =
    let tail = Says (Line.Migration Stage.Left p) ∷ to_kernel MessageKind.Restart i.from.home ∷ [] in
    quiet_row i told (Line.SentOn p (length ids)) (sends_on to ids ++ tail) ps tt refl refl (both_calm (sends_on to ids) tail (sends_calm to ids) ((refl, refl), (tt, tt))) e
leaves_row i told p ids k ps e = cc

kernel_told_row : (pt : Point) (m : ℕ) (i : MsgId) (t : Told) (p : Pid) (room : Bool × ℕ × ℕ) (x : Size) (k : MessageKind) → t.kind ≡ k → HandlesBy i (Some t) (told_step pt m i p room x (sort_of k))
kernel_told_row pt m i t p room x MessageKind.Ask is ps e = accepts_row i (Some t) i.from.home p room.0 room.1 room.2 ps e
kernel_told_row pt m i t p room x MessageKind.Refuse is ps e =
    back_row i (Some t) (Line.Stays p) (tells_asker (pt.kernel.notes p) Outcome.Stayed) ps tt refl (ap lets_go is) (asker_calm (pt.kernel.notes p) Outcome.Stayed) e
kernel_told_row pt m i t p room x MessageKind.CallOff is ps e =
    back_row i (Some t) (Line.Stays p) (tells_asker (pt.kernel.notes p) Outcome.Stayed) ps tt refl (ap lets_go is) (asker_calm (pt.kernel.notes p) Outcome.Stayed) e
kernel_told_row pt m i t p room x MessageKind.PullState is ps e = quiet_row i (Some t) (Line.Proto i) (to_kernel MessageKind.State i.from.home ∷ []) ps refl refl refl (tt, tt) e
kernel_told_row pt m i t p room x MessageKind.State is ps e = chunk_row i (Some t) p (pt.view.asked p == chunks_of x) ps e
kernel_told_row pt m i t p room x MessageKind.PullBlock is ps e = quiet_row i (Some t) (Line.Proto i) (to_kernel MessageKind.Memory i.from.home ∷ []) ps refl refl refl (tt, tt) e
kernel_told_row pt m i t p room x MessageKind.Memory is ps e = block_row i (Some t) p (pt.view.asked p == pieces_of x) ps e
kernel_told_row pt m i t p room x MessageKind.AllTaken is ps e = leaves_row i (Some t) p (pt.view.queue m p ++ pt.view.held m p) (pt.view.known m p) ps e
kernel_told_row pt m i t p room x MessageKind.Restart is ps e =
    back_row i (Some t) (Line.Migration Stage.Restarted p) (tells_asker (pt.kernel.notes p) Outcome.Done) ps tt refl (ap lets_go is) (asker_calm (pt.kernel.notes p) Outcome.Done) e
kernel_told_row pt m i t p room x k is ps e = cc

kernel_hears_row : (b : Boot) (pt : Point) (m : ℕ) (i : MsgId) (t : Told) (a : About) → HandlesBy i (Some t) (kernel_hears b pt m i t.kind a)
kernel_hears_row b pt m i t (Of p) ps e =
    let steps = bind (size_of pt.kernel p) (λ x. told_step pt m i p (fits (free_room b pt m) x.blocks) x (sort_of t.kind)) in
    chosen i (Some t) (tells_end (sort_of t.kind)) (Some (buried pt m i p)) (if is_stale pt m i t.kind p then Some (Says (Line.Stale i) ∷ []) else steps)
    (λ ps e. quiet_row i (Some t) (Line.Buried i (length (preds_of pt m p))) (buries pt m p) ps refl refl refl (buries_calm (preds_of pt m p)) e)
    (chosen i (Some t) (is_stale pt m i t.kind p) (Some (Says (Line.Stale i) ∷ [])) steps (λ ps e. quiet_row i (Some t) (Line.Stale i) [] ps refl refl refl tt e)
    (λ ps e.
    let (x, there, is) = bind-is (size_of pt.kernel p) (λ x. told_step pt m i p (fits (free_room b pt m) x.blocks) x (sort_of t.kind)) ps e in
    kernel_told_row pt m i t p (fits (free_room b pt m) x.blocks) x t.kind refl ps is)) ps e
kernel_hears_row b pt m i t a ps e = cc

moves_row : (m : ℕ) (i : MsgId) (told : Option Told) (p : Pid) (to : ℕ) (c : Bool) → HandlesBy i told (Some (if c then Says (Line.Here i) ∷ [] else Says (Line.Migration Stage.Frozen p) ∷ Says (Line.Migration Stage.Asked p) ∷ to_kernel MessageKind.Ask to ∷ []))
moves_row m i told p to true ps e = quiet_row i told (Line.Here i) [] ps refl refl refl tt e
moves_row m i told p to false ps e = quiet_row i told (Line.Migration Stage.Frozen p) (Says (Line.Migration Stage.Asked p) ∷ to_kernel MessageKind.Ask to ∷ []) ps tt refl refl ((refl, refl), (tt, tt)) e

here_told_row : (pt : Point) (m : ℕ) (i : MsgId) (t : Told) (k : MessageKind) → HandlesBy i (Some t) (told_here pt m i t (sort_of k))
here_told_row pt m i t MessageKind.Migrate ps e = moves_row m i (Some t) t.receiver (target_of (Some t)) (m == target_of (Some t)) ps e
here_told_row pt m i t MessageKind.Update ps e = quiet_row i (Some t) (Line.Updated i _) [] ps refl refl refl tt e
here_told_row pt m i t k ps e = cc

ended_told_row : (i : MsgId) (t : Told) (k : MessageKind) → HandlesBy i (Some t) (told_ended i (sort_of k))
ended_told_row i t MessageKind.Migrate ps e = quiet_row i (Some t) (Line.NoMove i) [] ps refl refl refl tt e
ended_told_row i t MessageKind.Update ps e = quiet_row i (Some t) (Line.Updated i 0) [] ps refl refl refl tt e
ended_told_row i t k ps e = cc

process_told_row : (pt : Point) (m : ℕ) (i : MsgId) (t : Told) (k : Known) → HandlesBy i (Some t) (process_told pt m i t k)
process_told_row pt m i t Known.Unknown ps e = ended_told_row i t t.kind ps e
process_told_row pt m i t Known.Here ps e = here_told_row pt m i t t.kind ps e
process_told_row pt m i t (Known.Forward at moves) ps e = forwards_row pt i (Some t) t.kind manager at ps e
process_told_row pt m i t _ ps e = quiet_row i (Some t) (Line.Held i) [] ps refl refl refl tt e

hears_row : (b : Boot) (pt : Point) (m : ℕ) (i : MsgId) (told : Option Told) → HandlesBy i told (hears b pt m i told)
hears_row b pt m i None ps e = cc
hears_row b pt m i (Some t) ps e =
    chosen i (Some t) (t.receiver.num == 0) (kernel_hears b pt m i t.kind t.about) _ (kernel_hears_row b pt m i t t.about) (process_told_row pt m i t (pt.view.known m t.receiver)) ps e

-- whatever stands at the front
pub comes_row : (b : Boot) (pt : Point) (m : ℕ) (i : MsgId) (o : Option PlainMessage) → HandlesBy i (pt.view.told i) (comes_to b pt m i o)
comes_row b pt m i None ps e = hears_row b pt m i (pt.view.told i) ps e
comes_row b pt m i (Some msg) ps e = bag_row b pt m i (pt.view.told i) msg ps e
