-- What was told of kernels' own messages, and who sends what is told back.
use Rattle.dm_law_always.proofs.Names.{◌≡◌, ◌==◌, ◌&&◌, Bool, true, false, not, refl, ap, ◌∙◌, sym, Some, false≢true, Pid, MsgId, MessageKind, plain_kind, PlainMessage, is_told_back, is_between, Point, About, Target, Of, Told, is_kernels}
use Rattle.dm_law_always.proofs.Names.{is_server, is_fixed, Sort, sort_of, arith, ℕ, List, [], ◌∷◌, ◌++◌, ⊤, if◌then◌else◌, Option, None, pid_of, Line, Stage, Addresses, Sender, to_kernel, forwards_on, accepts, takes_chunk, takes_block}
use Rattle.dm_law_always.proofs.Names.{gives_piece, sends_on, label_of, Part, Says, Routes, Again, Owns, Transmits, View, Known, Forward, view_after, handled, receiver_of, Label, ◌⊎◌, subst, is_some, length, inl, inr, take, drop, PlainWhat}
use Rattle.dm_law_always.proofs.Names.{switchboard, manager, Switchboard, Manager, OneKernel, with_sent, answer_to, without_message, Made, came, stayed, lands-is, Sound, by_step, answer_id, without_note, MoveNote, buries, bury_is}
use Rattle.dm_law_always.proofs.Names.{ends_with, map, preds_of, right_true, tells_between, tells_end, topic_by, none_some}
use Rattle.dm_law_rule.specs.View.{Place}
use Rattle.dm_law_rule.specs.View as view
use Rattle.dm_onekernel.specs.Pieces as pieces
use Rattle.dm_onekernel.specs.Switchboard as board
use Rattle.dm_onekernel.specs.Manager as manage
use Rattle.dm_onekernel.specs.Service as service
use Rattle.dm_onekernel.specs.Step as step
use Rattle.dm_law_rule.specs.Rule as rule
use Rattle.dm_law_always.proofs.Takes.{by_manager, by_over}

abbrev pub is_process : About → Bool
is_process (Of p) = true
is_process _ = false

abbrev pub is_place : About → Bool
is_place (Place p at_ moves) = true
is_place _ = false

abbrev pub is_target : About → Bool
is_target (Target m) = true
is_target _ = false

-- to a kernel, about a process; or to a process or a server, about the place of a process, or about a machine
abbrev pub to_kernels : Pid → About → Bool
to_kernels q a = (q.num == 0) && is_process a

abbrev pub sort_fits : Sort → Pid → About → Bool
sort_fits (Sort.Between passage) q a = to_kernels q a
sort_fits Sort.Buries q a = to_kernels q a
sort_fits Sort.Notice q a = not (q.num == 0) && is_place a
sort_fits Sort.Request q a = not (is_fixed q) && is_target a
sort_fits _ q a = false

abbrev pub own_sort : MessageKind → Pid → About → Bool
own_sort k q a = sort_fits (sort_of k) q a

pub record OwnTold (pt : Point) : Type 0 where
  pub own : (i : MsgId) (t : Told) → pt.view.told i ≡ Some t → is_kernels i ≡ true → own_sort t.kind t.receiver t.about ≡ true
  -- no kernel sends what is told back when it is forwarded
  pub sender : (i : MsgId) (x : PlainMessage) → pt.kernel.bag i ≡ Some x → is_told_back (plain_kind x.what) ≡ true → (x.sender.num == 0) ≡ false

-- a kernel is told of a process by another kernel
about_of : (a : About) → is_process a ≡ true → (p : Pid) × (a ≡ Of p)
about_of (Of p) e = (p, refl)
about_of _ e = absurd (false≢true e)

by_sort : (k : MessageKind) (s : Sort) (q : Pid) (a : About) → sort_of k ≡ s → sort_fits s q a ≡ true → (q.num == 0) ≡ true → ((is_between k ≡ true) ⊎ (k ≡ MessageKind.Bury)) × (p : Pid) × (a ≡ Of p)
by_sort k (Sort.Between passage) q a is fits num = let (p, of) = about_of a (right_true (q.num == 0) (is_process a) fits) in (inl (ap tells_between is), p, of)
by_sort k Sort.Buries q a is fits num = let (p, of) = about_of a (right_true (q.num == 0) (is_process a) fits) in (inr (bury_is k (ap tells_end is)), p, of)
by_sort k Sort.Notice q a is fits num = absurd (false≢true (sym (ap (λ (c : Bool). not c && is_place a) num) ∙ fits))
by_sort k Sort.Request q a is fits num = absurd (false≢true (sym (ap (λ (c : Bool). not c && is_target a) num) ∙ fits))
by_sort k _ q a is fits num = absurd (false≢true fits)

-- a migration's step, or a burial
pub own_between : (k : MessageKind) (q : Pid) (a : About) → own_sort k q a ≡ true → (q.num == 0) ≡ true → ((is_between k ≡ true) ⊎ (k ≡ MessageKind.Bury)) × (p : Pid) × (a ≡ Of p)
own_between k q a fits num = by_sort k (sort_of k) q a refl fits num

-- Where the parts of a group have kernels' own messages, and what these are about.

-- no kernel's own message
abbrev pub HasNoOwn : Part → Type 0
HasNoOwn (Owns k q b) = ⊥
HasNoOwn _ = ⊤

abbrev pub HaveNoOwn : List Part → Type 0
HaveNoOwn [] = ⊤
HaveNoOwn (p ∷ ps) = HasNoOwn p × HaveNoOwn ps

-- what a group is about after a line between its own messages; of other lines none comes there
abbrev pub topic_stage : About → Pid → Stage → About
topic_stage a p Stage.Asked = a
topic_stage a p Stage.Restarted = a
topic_stage a p _ = Of p

-- own messages are about what they must be, where the group is about a at first
abbrev pub Later : About → List Part → Type 0
Later a [] = ⊤
Later a (Says (Line.Migration s p) ∷ ps) = Later (topic_stage a p s) ps
Later a (Says (Line.Label (Label.End p y)) ∷ ps) = Later (Of p) ps
Later a (Says (Line.Label (Label.Dropped i)) ∷ ps) = Later a ps
Later a (Says l ∷ ps) = ⊥
Later a (Routes i ∷ ps) = ⊥
Later a (Again i b ∷ ps) = Later a ps
Later a (Owns k q b ∷ ps) = (own_sort k q a ≡ true) × Later a ps
Later a (Transmits c d l ∷ ps) = ⊥

pub data OwnsFit (v : View) (ps : List Part) : Type 0 where
  NoOwns : (none : HaveNoOwn ps) → OwnsFit v ps
  FirstOwns : (fit : Later v.topic ps) → OwnsFit v ps
  AnyOwns : (l : Line) → (qs : List Part) → (is : ps ≡ Says l ∷ qs) → (fit : (a : About) → Later a qs) → OwnsFit v ps
  EndsOwns : (l : Label) → (qs : List Part) → (is : ps ≡ Says (Line.Label l) ∷ qs) → (kept : (s : OneKernel) (b : About) → topic_by s b (Some l) ≡ b) → (fit : Later (view_after v (Line.Label l)).topic qs) → OwnsFit v ps
  ThenOwns : (l : Line) → (qs : List Part) → (is : ps ≡ Says l ∷ qs) → (none : label_of l ≡ None) → (fit : Later (view_after v l).topic qs) → OwnsFit v ps

-- predecessors are told of the process that has ended
pub buries_later : (p : Pid) (ms : List ℕ) → Later (Of p) (map (to_kernel MessageKind.Bury) ms)
buries_later p [] = tt
buries_later p (m ∷ ms) = (refl, buries_later p ms)

drops_later : (p : Pid) (ids : List MsgId) (ps : List Part) → Later (Of p) ps → Later (Of p) (rule.drop_parts ids ++ ps)
drops_later p [] ps h = h
drops_later p (i ∷ is) ps h = drops_later p is ps h

pub ends_later : (o : Point) (m : ℕ) (p : Pid) → Later (Of p) (ends_with o m p)
ends_later o m p = drops_later p (o.view.queue m p) (buries o m p) (buries_later p (preds_of o m p))

-- a message goes on: the update is about the place of its receiver
pub forwarded_place : (v : View) (i : MsgId) (n : ℕ) (t : Told) (at_ moves : ℕ) → v.told i ≡ Some t → v.known v.acting t.receiver ≡ Forward at_ moves → is_place (view_after v (Line.Forwarded i n)).topic ≡ true
forwarded_place v i n t at_ moves told known =
    ap (λ (o : Option Told). is_place (view.forwarded_for (handled v i) (receiver_of o)).topic) told ∙ ap (λ (k : Known). is_place (view.forward_about t.receiver k)) known

told_back : (a : About) (c : Bool) (q : Pid) (to : ℕ) → (c ≡ true → own_sort MessageKind.Update q a ≡ true) → Later a (if c then Owns MessageKind.Update q to ∷ [] else [])
told_back a true q to h = (h refl, tt)
told_back a false q to h = tt

pub forwards_own : (v : View) (a : Addresses) (i : MsgId) (k : MessageKind) (sender : Pid) (to : ℕ) → is_place (view_after v (Line.Forwarded i to)).topic ≡ true → (is_told_back k ≡ true → (sender.num == 0) ≡ false) → OwnsFit v (forwards_on a i k sender to)
forwards_own v a i k sender to place num =
    let topic = (view_after v (Line.Forwarded i to)).topic in
    ThenOwns (Line.Forwarded i to) (Again i to ∷ (if is_told_back k then Owns MessageKind.Update sender (a (Sender i)).at ∷ [] else [])) refl refl
    (told_back topic (is_told_back k) sender (a (Sender i)).at (λ e. ap (λ (c : Bool). not c && is_place topic) (num e) ∙ place))

-- what kernels tell each other is about the process
pub accepts_own : (v : View) (from : ℕ) (p : Pid) (room : Bool) (slots blocks : ℕ) → OwnsFit v (accepts from p room slots blocks)
accepts_own v from p true slots blocks = ThenOwns (Line.Migration Stage.Accepted p) (to_kernel MessageKind.PullState from ∷ []) refl refl (refl, tt)
accepts_own v from p false slots blocks = ThenOwns (Line.Lacks p slots blocks) (to_kernel MessageKind.Refuse from ∷ []) refl refl (refl, tt)

proto_topic : (v : View) (i : MsgId) (t : Told) (p : Pid) → v.told i ≡ Some t → t.about ≡ Of p → is_process (view_after v (Line.Proto i)).topic ≡ true
proto_topic v i t p told about =
    ap (λ (o : Option Told). is_process (view.after_proto (handled v i) o).topic) told ∙ ap is_process about

pub piece_own : (v : View) (i : MsgId) (k : MessageKind) (t : Told) (p : Pid) → v.told i ≡ Some t → t.about ≡ Of p → ((a : About) → is_process a ≡ true → own_sort k (pid_of i.from.home 0) a ≡ true) → OwnsFit v (gives_piece i k)
piece_own v i k t p told about sort =
    ThenOwns (Line.Proto i) (to_kernel k i.from.home ∷ []) refl refl (sort (view_after v (Line.Proto i)).topic (proto_topic v i t p told about), tt)

chunk_fits : (v : View) (i : MsgId) (q : Pid) (last server : Bool) (t : Told) (p : Pid) → v.told i ≡ Some t → t.about ≡ Of p
    → OwnsFit v (if last then (if server then Says (Line.Migration Stage.StateTaken q) ∷ Says (Line.Migration Stage.MemoryTaken q) ∷ to_kernel MessageKind.AllTaken i.from.home ∷ [] else Says (Line.Migration Stage.StateTaken q) ∷ to_kernel MessageKind.PullBlock i.from.home ∷ [])
    else Says (Line.Proto i) ∷ to_kernel MessageKind.PullState i.from.home ∷ [])
chunk_fits v i q true true t p told about = ThenOwns (Line.Migration Stage.StateTaken q) (Says (Line.Migration Stage.MemoryTaken q) ∷ to_kernel MessageKind.AllTaken i.from.home ∷ []) refl refl (refl, tt)
chunk_fits v i q true false t p told about = ThenOwns (Line.Migration Stage.StateTaken q) (to_kernel MessageKind.PullBlock i.from.home ∷ []) refl refl (refl, tt)
chunk_fits v i q false server t p told about = piece_own v i MessageKind.PullState t p told about (λ a e. e)

pub chunk_own : (v : View) (i : MsgId) (q : Pid) (last : Bool) (t : Told) (p : Pid) → v.told i ≡ Some t → t.about ≡ Of p → OwnsFit v (takes_chunk i q last)
chunk_own v i q last t p told about = chunk_fits v i q last (is_server q) t p told about

pub block_own : (v : View) (i : MsgId) (q : Pid) (last : Bool) (t : Told) (p : Pid) → v.told i ≡ Some t → t.about ≡ Of p → OwnsFit v (takes_block i q last)
block_own v i q true t p told about = ThenOwns (Line.Migration Stage.MemoryTaken q) (to_kernel MessageKind.AllTaken i.from.home ∷ []) refl refl (refl, tt)
block_own v i q false t p told about = piece_own v i MessageKind.PullBlock t p told about (λ a e. e)

pub moves_own : (v : View) (i : MsgId) (p : Pid) (to : ℕ) (c : Bool) → OwnsFit v (if c then Says (Line.Here i) ∷ [] else Says (Line.Migration Stage.Frozen p) ∷ Says (Line.Migration Stage.Asked p) ∷ to_kernel MessageKind.Ask to ∷ [])
moves_own v i p to true = NoOwns (tt, tt)
moves_own v i p to false = FirstOwns (refl, tt)

pub sends_own : (a : About) (to : ℕ) (ids : List MsgId) (ps : List Part) → Later a ps → Later a (sends_on to ids ++ ps)
sends_own a to [] ps h = h
sends_own a to (i ∷ is) ps h = sends_own a to is ps h

-- No kernel sends what is told back when it is forwarded.

abbrev IsSent : PlainMessage → Type 0
IsSent x = is_told_back (plain_kind x.what) ≡ true → (x.sender.num == 0) ≡ false

abbrev pub Senders : OneKernel → Type 0
Senders s = (i : MsgId) (x : PlainMessage) → s.bag i ≡ Some x → IsSent x

-- who sends: a process that was made, a server, or a kernel that answers about a process to be made
abbrev pub Origin : OneKernel → PlainMessage → Type 0
Origin s x = (is_some (s.processes x.sender) ≡ true) ⊎ ((is_server x.sender ≡ true) ⊎ ((service.is_kernel s x.sender ≡ true) × (is_told_back (plain_kind x.what) ≡ false)))

-- what a step brings into the bag
abbrev pub Brings : OneKernel → OneKernel → Type 0
Brings s t = (i : MsgId) (x : PlainMessage) → t.bag i ≡ Some x → (s.bag i ≡ Some x) ⊎ Origin s x

abbrev Sub : OneKernel → OneKernel → Type 0
Sub u s = (i : MsgId) (x : PlainMessage) → u.bag i ≡ Some x → s.bag i ≡ Some x

in_brings : (s u : OneKernel) (m : PlainMessage) → Sub u s → Origin s m → Brings s (with_sent u (Some m))
in_brings s u m same ok i x there = elim (came u m x i there) [
  | inl new ↦ inr (subst (Origin s) new.0 ok)
  | inr old ↦ inl (same i x old)
]

-- servers
abbrev pub SentBy : Pid → Option PlainMessage → Type 0
SentBy q None = ⊤
SentBy q (Some m) = m.sender ≡ q

pub board_sender : (b : Switchboard) (m : PlainMessage) (w : PlainWhat) (k : board.BoardTook) → board.board_takes b m w ≡ Some k → SentBy switchboard k.answer
board_sender b m (PlainWhat.User code channel body links) k e = search arith
board_sender b m _ k e = none_some k e

pub manager_sender : (g : Manager) (machines images : ℕ) (m : PlainMessage) (w : PlainWhat) (k : manage.ManagerTook) → manage.manager_takes g machines images m w ≡ Some k → SentBy manager k.message
manager_sender g machines images m w k = search (arith, by_over, by_manager, g.children, m.id.n, g.pending)

server_brings : (s u : OneKernel) (q : Pid) (o : Option PlainMessage) → SentBy q o → is_server q ≡ true → Sub u s → Brings s (with_sent u o)
server_brings s u q None sends server same i x there = inl (same i x there)
server_brings s u q (Some m) sends server same i x there = in_brings s u m same (inr (inl (ap is_server sends ∙ server))) i x there

-- a row a label
pub brings : (s t : OneKernel) (l : Label) → ((p : Pid) (n : MoveNote) → s.notes p ≡ Some n → is_some (s.processes p) ≡ true) → step.step s l ≡ Some t → Brings s t
brings s t l lives =
    let taken : (id : MsgId) (u : OneKernel) → ((i : MsgId) → u.bag i ≡ (without_message s id).bag i) → Sub u s = λ id u same i x there. stayed s id i x (sym (same i) ∙ there) in
    by_step (Brings s) s t l (record {
      ran = λ p k x m is w i z there. inl there;
      replies = λ p n k c d y is w i z there. inl there;
      sends = λ p id k m y is same w.
          (let (z, sent, pending, counted) = w.so.counts in
          in_brings s (step.goes_on s p y) m (λ i x there. there) (inl (ap (λ (q : Pid). is_some (s.processes q)) counted.sender ∙ ap is_some w.so.is.alive)));
      waits = λ p k y is w i z there. inl there;
      outputs = λ p w k v y is n i z there. inl there;
      ends = λ p y next is w i z there. inl there;
      receives = λ p id y is w c i z there. inl (stayed s id i z there);
      refuses = λ p id c d y is w f i z there. inl there;
      dropped = λ id m y is w f i z there. inl (stayed s id i z there);
      gone = λ id m y is w v f. in_brings s (without_message s id) (answer_to m v) (taken id (without_message s id) (λ i. refl)) (inl (ap is_some w.ended));
      asked = λ id m x machine is w f i z there. inl (stayed s id i z there);
      answered = λ id o p n is f. in_brings s (without_note s p id) (record { id = answer_id id; to = n.asker; sender = p; what = PlainWhat.Moved o }) (λ i z there. there) (inl (lives p n f.notes));
      stops = λ id m x b is w f i z there. inl (stayed s id i z there);
      kills = λ id m x is w f i z there. inl (stayed s id i z there);
      reads = λ id m x base len is w f. in_brings s (service.changed s id m x) (answer_to m (PlainWhat.Block (take len (drop base x.memory)))) (taken id (service.changed s id m x) (λ i. refl)) (inl (ap is_some w.alive));
      writes = λ id m x base bytes is w f.
          (let u = service.changed s id m (record x { memory = pieces.written_at x.memory base bytes }) in
          in_brings s u (answer_to m PlainWhat.Written) (taken id u (λ i. refl)) (inl (ap is_some w.alive)));
      lands = λ id m x r y is w f c.
          (let from = (lands-is m.to x m x.status (pieces.Next r y) c).0.sender in
          in_brings s (service.changed s id m y) r (taken id (service.changed s id m y) (λ i. refl)) (inl (ap (λ (q : Pid). is_some (s.processes q)) from ∙ ap is_some w.alive)));
      done = λ id m x c y is w f g i z there. inl (stayed s id i z there);
      board = λ id m k is there c took.
          (let u = record (without_message s id) { switchboard = k.switchboard } in
          server_brings s u switchboard k.answer (board_sender s.switchboard m m.what k took) refl (taken id u (λ i. refl)));
      manager = λ id m k is there c took.
          (let u = record (without_message s id) { manager = k.manager } in
          server_brings s u manager k.message (manager_sender s.manager s.machines (length s.images) m m.what k took) refl (taken id u (λ i. refl)));
      creates = λ id child m image links i is w found name.
          (let u = service.with_created (without_message s id) child i links in
          in_brings s u (answer_to m (PlainWhat.Created child)) (taken id u (λ j. refl)) (inr (inr (w.kernel, refl))));
      no_room = λ id a b m image links is w. in_brings s (without_message s id) (answer_to m PlainWhat.NoRoom) (taken id (without_message s id) (λ i. refl)) (inr (inr (w.kernel, refl)));
    })

is_sent : (s : OneKernel) (x : PlainMessage) → Made s → Origin s x → IsSent x
is_sent s x made h e = search (arith, made.least, x.sender)

-- each step keeps it
pub senders_step : (r e : MsgId → ℕ) (s t : OneKernel) (l : Label) → step.step s l ≡ Some t → Sound r e s → Senders s → Senders t
senders_step r e s t l is sound h i x there = elim (brings s t l (λ p n f. let (y, alive) = sound.notes.lives p n f in ap is_some alive) is i x there) [
  | inl old ↦ h i x old
  | inr new ↦ is_sent s x sound.made new
]
