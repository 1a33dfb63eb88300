-- What becomes of requests to move, and of requests to make a process.
use Rattle.std.specs.Prelude.{◌≡◌, ◌≤◌, ◌+◌, ◌&&◌, ℕ, Bool, true, false, is_some, length, List, map, option_map, slice_get}
use Rattle.std.proofs.Common.{refl, sym, subst, ap, arith, ◌∙◌}
use Rattle.std.specs.Option.{option_map_or}
use Rattle.std.specs.declared.option.Option.{Option}
use Rattle.std.specs.declared.option.Option.TheVariants.{None, Some}
use Rattle.dm_link.specs.declared.Link.{Link}
use Rattle.dm_link.specs.declared.Pid.{Pid}
use Rattle.dm_link.specs.Names.{pid_eq, pid_of}
use Rattle.dm_link.specs.Plain.{plain_link}
use Rattle.dm_message.specs.declared.Message.{Message}
use Rattle.dm_message.specs.declared.MsgId.{MsgId}
use Rattle.dm_message.specs.declared.Outcome.{Outcome}
use Rattle.dm_message.specs.declared.Outcome.TheVariants as ends
use Rattle.dm_message.specs.declared.What.{What}
use Rattle.dm_message.specs.declared.What.TheVariants as what
use Rattle.dm_message.specs.Plain as plain
use Rattle.dm_message.specs.Plain.{PlainMessage, PlainWhat, plain_message, plain_what, with_what}
use Rattle.dm_onekernel.specs.declared.boot.BootImage.{BootImage}
use Rattle.dm_onekernel.specs.declared.label.Label.TheVariants as label
use Rattle.dm_onekernel.specs.Kernel.{MoveNote, OneKernel, with_note, with_sent}
use Rattle.dm_onekernel.specs.Options.{bind, when}
use Rattle.dm_onekernel.specs.PlainProcess.{PlainProcess}
use Rattle.dm_onekernel.specs.Boot.{first_number}
use Rattle.dm_onekernel.specs.Pieces.{answer_to}
use Rattle.dm_onekernel.specs.Service as service
use Rattle.dm_onekernel.specs.Service.{with_created, creates, creates_of, ends_move, follows_request, has_no_room, move_ended, without_message}
use Rattle.dm_onekernel.specs.Step.{at_hand, step}
use Rattle.std.specs.List.{All}
use Rattle.dm_link.specs.Lawful.{IsLawfulEnclosed}
use Rattle.dm_message.specs.Lawful.{IsLawfulMessage, IsLawfulWhat, is_answer}
use Rattle.dm_message.specs.Kinds.{kind_of}
use Rattle.dm_datamove.specs.Serving.{answer}
use Rattle.dm_linktable.proofs.ReceiverOrder.{pid_eq_same}
use Rattle.dm_replay.specs.Begun.{asked_in}
use Rattle.dm_replay.specs.Serving.{noted_by}
use Rattle.dm_replay.specs.Tests.{is_create_what, is_end, is_move_what, is_plain_move}

-- the message without places
abbrev pub said : Message → PlainWhat → PlainMessage
said m w = record { id = m.id; to = m.to.pid; sender = m.sender.pid; what = w }

-- which row a message is
pub asked_row : (s : OneKernel) (id : MsgId) (m : Message) (w : PlainWhat) → s.bag id ≡ plain_message m → plain_what m.what ≡ Some w
    → step s (label.Asked id) ≡ bind (at_hand s m.to.pid) (λ p. follows_request s id (said m w) w)
asked_row s id m w e k = ap (λ o. bind o (λ (m : PlainMessage). bind (at_hand s m.to) (λ p. follows_request s id m m.what))) (e ∙ ap (with_what m) k)

-- the row of one that can't be asked
not_hand : (s : OneKernel) (id : MsgId) (m : Message) (o : Option PlainWhat) → at_hand s m.to.pid ≡ None
    → bind (with_what m o) (λ (m : PlainMessage). bind (at_hand s m.to) (λ p. follows_request s id m m.what)) ≡ None
not_hand s id m None e = refl
not_hand s id m (Some w) e = ap (λ o. bind o (λ p. follows_request s id (said m w) w)) e

pub asked_not : (s : OneKernel) (id : MsgId) (m : Message) → s.bag id ≡ plain_message m → at_hand s m.to.pid ≡ None → step s (label.Asked id) ≡ None
asked_not s id m e h = ap (λ o. bind o (λ (m : PlainMessage). bind (at_hand s m.to) (λ p. follows_request s id m m.what))) e ∙ not_hand s id m (plain_what m.what) h

some_hand : (o : Option PlainProcess) (x : OneKernel) → is_some o ≡ true → bind o (λ p. Some x) ≡ Some x
some_hand None x h = absurd (cc)
some_hand (Some p) x h = refl

pub asked : (s : OneKernel) (id : MsgId) (m : Message) (machine : ℕ) → s.bag id ≡ plain_message m → is_some (at_hand s m.to.pid) ≡ true → m.what ≡ what.Move machine
    → step s (label.Asked id) ≡ Some (with_note (without_message s id) m.to.pid (record { id = id; asker = m.sender.pid }))
asked s id m machine e h k =
    asked_row s id m (plain.Move machine) e (ap plain_what k) ∙ some_hand (at_hand s m.to.pid) _ h

-- who follows a request, and then the answer
abbrev pair : {A B : Type 0} → A → B → Option (A × B)
pair p n = Some (p, n)

in_pair : {A B C : Type 0} (p : A) (n : Option B) (g : A → B → Option C) → bind n (g p) ≡ bind (bind n (pair p)) (λ (r : A × B). g r.0 r.1)
in_pair p None g = refl
in_pair p (Some n) g = refl

in_two : {A B C : Type 0} (o : Option A) (f : A → Option B) (g : A → B → Option C) → bind o (λ p. bind (f p) (g p)) ≡ bind (bind o (λ p. bind (f p) (pair p))) (λ (r : A × B). g r.0 r.1)
in_two None f g = refl
in_two (Some p) f g = in_pair p (f p) g

pub answered_row : (s : OneKernel) (id : MsgId) (outcome : Outcome) → step s (label.Answered id outcome) ≡ bind (noted_by s id) (λ (r : Pid × MoveNote). ends_move s id r.0 r.1 outcome)
answered_row s id outcome = in_two (s.noted id) s.notes (λ p n. ends_move s id p n outcome)

always_none : {A B : Type 0} (o : Option A) (go : A → Option B) → ((x : A) → go x ≡ None) → bind o go ≡ None
always_none None go h = refl
always_none (Some x) go h = h x

pub answered_not : (s : OneKernel) (id : MsgId) → step s (label.Answered id ends.Ended) ≡ None
answered_not s id = answered_row s id ends.Ended ∙ always_none (noted_by s id) (λ (r : Pid × MoveNote). ends_move s id r.0 r.1 ends.Ended) (λ r. refl)

-- a message that doesn't ask its receiver to move
not_followed : (s : OneKernel) (id : MsgId) (m : Message) (o : Option PlainWhat) → option_map_or is_plain_move o false ≡ false
    → bind (with_what m o) (λ (m : PlainMessage). bind (at_hand s m.to) (λ p. follows_request s id m m.what)) ≡ None
not_followed s id m None e = refl
not_followed s id m (Some (plain.Move machine)) e = absurd (cc)
not_followed s id m (Some w) e = always_none (at_hand s m.to.pid) (λ p. follows_request s id (said m w) w) (λ p. refl)

pub asked_other : (s : OneKernel) (id : MsgId) (m : Message) → s.bag id ≡ plain_message m → is_move_what m.what ≡ false → step s (label.Asked id) ≡ None
asked_other s id m e h = ap (λ o. bind o (λ (m : PlainMessage). bind (at_hand s m.to) (λ p. follows_request s id m m.what))) e ∙ not_followed s id m (plain_what m.what) h

pub move_of : (w : What) → is_move_what w ≡ true → (machine : ℕ) × (w ≡ what.Move machine)
move_of (what.Move machine) e = (machine, refl)
move_of w e = absurd (cc)

none_hand : (o : Option PlainProcess) → is_some o ≡ false → o ≡ None
none_hand None e = refl
none_hand (Some x) e = absurd (cc)

-- by the tests of the code, once the message is taken out
pub asked_away : (s t : OneKernel) (id : MsgId) (m : Message) → t ≡ without_message s id → s.bag id ≡ plain_message m → is_some (at_hand t m.to.pid) ≡ false → step s (label.Asked id) ≡ None
asked_away s t id m e at off = asked_not s id m at (none_hand (at_hand s m.to.pid) (sym (ap (λ (u : OneKernel). is_some (at_hand u m.to.pid)) e) ∙ off))

pub asked_so : (s t : OneKernel) (id : MsgId) (m : Message) → t ≡ without_message s id → s.bag id ≡ plain_message m → is_some (at_hand t m.to.pid) ≡ true → is_move_what m.what ≡ true
    → step s (label.Asked id) ≡ Some (with_note t m.to.pid (record { id = id; asker = m.sender.pid }))
asked_so s t id m e at hand moves =
    let to : (machine : ℕ) × (m.what ≡ what.Move machine) = move_of m.what moves in
    asked s id m to.0 at (sym (ap (λ (u : OneKernel). is_some (at_hand u m.to.pid)) e) ∙ hand) to.1
    ∙ ap (λ (u : OneKernel). Some (with_note u m.to.pid (record { id = id; asker = m.sender.pid }))) (sym e)

-- an end answers no request to move
pub ended_not : (s : OneKernel) (id : MsgId) (outcome : Outcome) → is_end outcome ≡ true → step s (label.Answered id outcome) ≡ None
ended_not s id ends.Ended e = answered_not s id
ended_not s id ends.Done e = absurd (cc)
ended_not s id ends.Stayed e = absurd (cc)

both_ends : (s : OneKernel) (id : MsgId) (p : Pid) (n : MoveNote) (outcome : Outcome) → is_end outcome ≡ false → ends_move s id p n outcome ≡ Some (move_ended s id p n outcome)
both_ends s id p n ends.Done e = refl
both_ends s id p n ends.Stayed e = refl
both_ends s id p n ends.Ended e = absurd (cc)

pub answered_so : (s : OneKernel) (id : MsgId) (p : Pid) (n : MoveNote) (outcome : Outcome) → noted_by s id ≡ Some (p, n) → is_end outcome ≡ false → step s (label.Answered id outcome) ≡ Some (move_ended s id p n outcome)
answered_so s id p n outcome e off =
    answered_row s id outcome ∙ ap (λ o. bind o (λ (r : Pid × MoveNote). ends_move s id r.0 r.1 outcome)) e ∙ both_ends s id p n outcome off

-- a process that is asked for, by its image and its links
made_of : (s : OneKernel) (id : MsgId) (m : Message) (child : Pid) (links : List Link) (o : Option BootImage)
    → bind o (creates_of s id (said m plain.NoRoom) child (map plain_link links)) ≡ bind (option_map (λ (i : BootImage). (i, links)) o) (λ (r : BootImage × List Link). creates_of s id (said m plain.NoRoom) child (map plain_link r.1) r.0)
made_of s id m child links None = refl
made_of s id m child links (Some i) = refl

made_what : (s : OneKernel) (id : MsgId) (m : Message) (child : Pid) (w : What)
    → bind (with_what m (plain_what w)) (λ (m : PlainMessage). creates s id m child m.what) ≡ bind (asked_in s.images w) (λ (r : BootImage × List Link). creates_of s id (said m plain.NoRoom) child (map plain_link r.1) r.0)
made_what s id m child (what.Create image links) = made_of s id m child links.items (slice_get s.images image)
made_what s id m child what.Stop = refl
made_what s id m child w = refl

pub made_row : (s : OneKernel) (id : MsgId) (m : Message) (child : Pid) → s.bag id ≡ plain_message m
    → step s (label.Created id child) ≡ bind (asked_in s.images m.what) (λ (r : BootImage × List Link). creates_of s id (said m plain.NoRoom) child (map plain_link r.1) r.0)
made_row s id m child at = ap (λ o. bind o (λ (m : PlainMessage). creates s id m child m.what)) at ∙ made_what s id m child m.what

-- what is asked for lies among the images, and its links can be enclosed
pub record IsAsked (images : List BootImage) (i : BootImage) (links : List Link) : Type 0 where
  pub image : ℕ
  pub there : slice_get images image ≡ Some i
  pub few : length links ≤ 3
  pub lawful : All IsLawfulEnclosed links

asked_at : (images : List BootImage) (image : ℕ) (o : Option BootImage) (ls links : List Link) (i : BootImage) → slice_get images image ≡ o → option_map {U = BootImage × List Link} (λ (i : BootImage). (i, ls)) o ≡ Some (i, links) → length ls ≤ 3 → All IsLawfulEnclosed ls → IsAsked images i links
asked_at images image None ls links i is e few lawful = absurd (cc)
asked_at images image (Some j) ls links i is e few lawful =
    let same : j ≡ i = ap (λ (o : Option (BootImage × List Link)). option_map_or (λ (r : BootImage × List Link). r.0) o j) e in
    let all : ls ≡ links = ap (λ (o : Option (BootImage × List Link)). option_map_or (λ (r : BootImage × List Link). r.1) o ls) e in
    record { image = image; there = is ∙ ap Some same; few = subst (λ (l : List Link). length l ≤ 3) all few; lawful = subst (All IsLawfulEnclosed) all lawful }

pub is_asked : (images : List BootImage) (w : What) (i : BootImage) (links : List Link) → IsLawfulWhat w → asked_in images w ≡ Some (i, links) → IsAsked images i links
is_asked images (what.Create image ls) i links h e = asked_at images image (slice_get images image) ls.items links i refl e h.0 h.1
is_asked images w i links h e = absurd (cc)

-- by the test of the code, once the message is taken out
pub made_so : (s t : OneKernel) (id : MsgId) (m : Message) (child : Pid) (i : BootImage) (links : List Link) (c : Bool) → t ≡ without_message s id → s.bag id ≡ plain_message m → asked_in s.images m.what ≡ Some (i, links)
    → c ≡ service.is_kernel s m.to.pid && pid_eq child (pid_of m.to.pid.home (first_number + t.made m.to.pid.home))
    → step s (label.Created id child) ≡ when c (with_sent (with_created t child i (map plain_link links)) (Some (answer_to (said m plain.NoRoom) (plain.Created child))))
made_so s t id m child i links c e at asked is =
    made_row s id m child at
    ∙ ap (λ o. bind o (λ (r : BootImage × List Link). creates_of s id (said m plain.NoRoom) child (map plain_link r.1) r.0)) asked
    ∙ ap (λ h. when h (with_sent (with_created (without_message s id) child i (map plain_link links)) (Some (answer_to (said m plain.NoRoom) (plain.Created child)))))
    (sym (ap (λ (u : OneKernel). service.is_kernel s m.to.pid && pid_eq child (pid_of m.to.pid.home (first_number + u.made m.to.pid.home))) e) ∙ sym is)
    ∙ ap (λ (u : OneKernel). when c (with_sent (with_created u child i (map plain_link links)) (Some (answer_to (said m plain.NoRoom) (plain.Created child))))) (sym e)

-- there is no room for it
room_what : (s : OneKernel) (id : MsgId) (m : Message) (w : What) → is_create_what w ≡ true
    → bind (with_what m (plain_what w)) (λ (m : PlainMessage). has_no_room s id m m.what) ≡ when (service.is_kernel s m.to.pid) (with_sent (without_message s id) (Some (answer_to (said m plain.NoRoom) plain.NoRoom)))
room_what s id m (what.Create image links) e = refl
room_what s id m w e = absurd (cc)

pub no_room_so : (s t : OneKernel) (id : MsgId) (m : Message) (j k : ℕ) → t ≡ without_message s id → s.bag id ≡ plain_message m → is_create_what m.what ≡ true
    → step s (label.NoSpace id j k) ≡ when (service.is_kernel s m.to.pid) (with_sent t (Some (answer_to (said m plain.NoRoom) plain.NoRoom)))
no_room_so s t id m j k e at asked =
    ap (λ o. bind o (λ (m : PlainMessage). has_no_room s id m m.what)) at
    ∙ room_what s id m m.what asked
    ∙ ap (λ (u : OneKernel). when (service.is_kernel s m.to.pid) (with_sent u (Some (answer_to (said m plain.NoRoom) plain.NoRoom)))) (sym e)

no_create : (s : OneKernel) (id : MsgId) (m : Message) (w : What) → is_create_what w ≡ false → bind (with_what m (plain_what w)) (λ (m : PlainMessage). has_no_room s id m m.what) ≡ None
no_create s id m (what.Create image links) e = absurd (cc)
no_create s id m what.Stop e = refl
no_create s id m w e = refl

pub no_room_not : (s : OneKernel) (id : MsgId) (m : Message) (j k : ℕ) → s.bag id ≡ plain_message m → is_create_what m.what ≡ false → step s (label.NoSpace id j k) ≡ None
no_room_not s id m j k at e = ap (λ o. bind o (λ (m : PlainMessage). has_no_room s id m m.what)) at ∙ no_create s id m m.what e

-- an answer of a kernel is lawful
pub answer_lawfully : (m : Message) (w : What) → IsLawfulMessage m → true ≡ is_answer (kind_of w) → IsLawfulWhat w → IsLawfulMessage (answer 0 0 m w)
answer_lawfully m w h is lawful = record { from = h.from; answer = is; to = h.sender; sender = record { home = h.to.home; at = omega arith }; what = lawful }

second_true : (a b : Bool) → a && b ≡ true → b ≡ true
second_true true b e = e
second_true false b e = absurd (cc)

pub made_home : (a : Bool) (child : Pid) (home n : ℕ) → a && pid_eq child (pid_of home n) ≡ true → child.home ≡ home
made_home a child home n e = ap (λ (p : Pid). p.home) (pid_eq_same child (pid_of home n) (second_true a (pid_eq child (pid_of home n)) e))
