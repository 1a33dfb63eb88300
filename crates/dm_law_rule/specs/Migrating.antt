-- What migration adds to the rule: messages that are held or go on, a process that leaves and one that comes, and updates.
use Rattle.std.specs.Prelude.{ℕ, ◌+◌, ◌*◌, ◌/◌, Bool, ◌==◌, if◌then◌else◌, option_map, List, [], ◌∷◌, ◌++◌, length, map}
use Rattle.std.specs.Option.{option_map_or}
use Rattle.std.specs.List.{enumerate_from}
use Rattle.std.specs.declared.option.Option.{Option}
use Rattle.std.specs.declared.option.Option.TheVariants.{None, Some}
use Rattle.dm_link.specs.declared.Pid.{Pid}
use Rattle.dm_link.specs.Names.{Place, pid_of, pid_eq}
use Rattle.dm_link.specs.Plain.{PlainLink}
use Rattle.dm_message.specs.declared.MsgId.{MsgId}
use Rattle.dm_message.specs.declared.kind.MessageKind.{MessageKind}
use Rattle.dm_message.specs.declared.kind.MessageKind.TheVariants as kind
use Rattle.dm_message.specs.Sorts.{Sort, sort_of}
use Rattle.dm_message.specs.Sorts as sort
use Rattle.dm_message.specs.declared.Outcome.{Outcome}
use Rattle.dm_message.specs.declared.Outcome.TheVariants as ends
use Rattle.dm_onekernel.specs.declared.label.Label.TheVariants as label
use Rattle.dm_onekernel.specs.Boot.{switchboard, manager}
use Rattle.dm_onekernel.specs.Pieces.{answer_id}
use Rattle.dm_onekernel.specs.PlainProcess.{PlainProcess, PlainStatus, Ready, Waiting, Moving}
use Rattle.dm_onekernel.specs.Kernel.{Manager, MoveNote, NamedLink, OneKernel, Pending, Switchboard}
use Rattle.dm_onekernel.specs.Step as kernel
use Rattle.dm_line.specs.declared.line.Line.{Line}
use Rattle.dm_line.specs.declared.line.Line.TheVariants as line
use Rattle.dm_line.specs.declared.line.Stage.TheVariants as stage
use Rattle.dm_law_rule.specs.View.{Told, Known, Unknown, Here, Frozen, Incoming, Forward, has_seat, is_server, target_of}
use Rattle.dm_law_rule.specs.Addresses.{Addresses, Holder, Slot, Sender, Child, Name, Answer, ToBoard, is_behind, is_told_back, known_place, place_told}
use Rattle.dm_law_rule.specs.Point.{Point}
use Rattle.dm_law_rule.specs.Parts.{Part, Says, Routes, Again, Owns}

-- the bytes of a process's state: registers and the like, what it waits for or moves, and its links
abbrev pub status_size : PlainStatus → ℕ
status_size Ready = 0
status_size (Waiting mask base cap_) = 12
status_size (Moving dir owner base own left pending) = 27

abbrev pub links_size : List (Option PlainLink) → ℕ
links_size [] = 0
links_size (l ∷ ls) = option_map_or (λ l. 24) l 0 + links_size ls

-- those of the switchboard's: its names, each with its length and its link, behind a version, its name and three numbers
abbrev pub names_size : List NamedLink → ℕ
names_size [] = 0
names_size (k ∷ ks) = 25 + length k.name + names_size ks

abbrev pub board_size : Switchboard → ℕ
board_size b = 18 + names_size b.names

-- those of the manager's: the children's addresses and that of the switchboard, and the pending requests, each with its link, if it has
-- one
abbrev pub requests_size : List Pending → ℕ
requests_size [] = 0
requests_size (r ∷ rs) = 6 + option_map_or (λ l. 24) r.answer 0 + requests_size rs

abbrev pub manager_size : Manager → ℕ
manager_size g = 32 + 10 * length g.children + requests_size g.pending

-- how large what moves is: its state bytes, and the blocks of its memory, which a server has none of
pub record Size : Type 0 where
  pub state : ℕ
  pub blocks : ℕ

abbrev pub process_size : PlainProcess → Size
process_size x = record { state = 102 + status_size x.status + links_size x.links; blocks = length x.memory / 256 }

abbrev pub size_of : OneKernel → Pid → Option Size
size_of s p =
    if pid_eq p switchboard then Some (record { state = board_size s.switchboard; blocks = 0 })
    else if pid_eq p manager then Some (record { state = manager_size s.manager; blocks = 0 })
    else option_map process_size (kernel.alive (s.processes p))

-- the pieces that it goes in: chunks of up to 512 bytes of its state, then blocks of 256 bytes of its memory
abbrev pub chunks_of : Size → ℕ
chunks_of x = (x.state + 511) / 512

abbrev pub pieces_of : Size → ℕ
pieces_of x = chunks_of x + x.blocks

-- to a machine's kernel
abbrev pub to_kernel : MessageKind → ℕ → Part
to_kernel k m = Owns k (pid_of m 0) m

-- a message goes on, and its sender is told
abbrev pub forwards_on : Addresses → MsgId → MessageKind → Pid → ℕ → List Part
forwards_on a id k sender to =
    Says (line.Forwarded id to) ∷ Again id to ∷ (if is_told_back k then Owns kind.Update sender (a (Sender id)).at ∷ [] else [])

-- a process is frozen, and the other machine is asked
abbrev pub leaves_for : Pid → ℕ → List Part
leaves_for p to = Says (line.Migration stage.Frozen p) ∷ Says (line.Migration stage.Asked p) ∷ to_kernel kind.Ask to ∷ []

-- a request to move is answered
abbrev pub answers_move : MsgId → Outcome → List Part
answers_move id o = Says (line.Label (label.Answered id o)) ∷ Routes (answer_id id) ∷ []

-- a process is asked to move: where it is already, that is answered at once
abbrev pub asked_to_move : ℕ → MsgId → Pid → ℕ → List Part
asked_to_move m id p to =
    Says (line.Label (label.Asked id)) ∷ (if m == to then answers_move id ends.Done else leaves_for p to)

-- a move has ended so: the request that the process followed is answered, if it followed one
abbrev pub tells_asker : Option MoveNote → Outcome → List Part
tells_asker note o = option_map_or (λ n. answers_move n.id o) note []

-- a machine takes a process, or says what is free
abbrev pub accepts : ℕ → Pid → Bool → ℕ → ℕ → List Part
accepts from p has_room slots blocks =
    if has_room then Says (line.Migration stage.Accepted p) ∷ to_kernel kind.PullState from ∷ []
    else Says (line.Lacks p slots blocks) ∷ to_kernel kind.Refuse from ∷ []

-- a line, and a message to the kernel that sent this one: so a piece goes out, or the next is asked for
abbrev pub reply_parts : MsgId → Line → MessageKind → List Part
reply_parts id l k = Says l ∷ to_kernel k id.from.home ∷ []

abbrev pub gives_piece : MsgId → MessageKind → List Part
gives_piece id k = reply_parts id (line.Proto id) k

-- a piece has come: where it is the last chunk the first block is asked for, and where it is the last block all is taken; of a server,
-- which has no blocks, with the last chunk
abbrev pub takes_last_chunk : MsgId → Pid → List Part
takes_last_chunk id p =
    if is_server p then Says (line.Migration stage.StateTaken p) ∷ reply_parts id (line.Migration stage.MemoryTaken p) kind.AllTaken
    else reply_parts id (line.Migration stage.StateTaken p) kind.PullBlock

abbrev pub takes_chunk : MsgId → Pid → Bool → List Part
takes_chunk id p last = if last then takes_last_chunk id p else gives_piece id kind.PullState

abbrev pub takes_block : MsgId → Pid → Bool → List Part
takes_block id p last = if last then reply_parts id (line.Migration stage.MemoryTaken p) kind.AllTaken else gives_piece id kind.PullBlock

-- all is taken: the queue and then the held messages go on, and the other machine may restart the process
abbrev pub sends_on : ℕ → List MsgId → List Part
sends_on to ids = map (λ i. Again i to) ids

abbrev pub leaves : MsgId → Pid → List MsgId → Known → Option (List Part)
leaves id p ids (Frozen to) =
    Some (Says (line.SentOn p (length ids)) ∷ sends_on to ids ++ Says (line.Migration stage.Left p) ∷ to_kernel kind.Restart id.from.home ∷ [])
leaves id p ids k = None

-- a migration is called off where the process is on its way here and not all of it has come: what was held for it goes back to the
-- machine that it was to leave, and that machine's kernel is told
abbrev pub calls_off : Point → ℕ → Pid → Known → List Part
calls_off pt m p Unknown = Says (line.NoCall p) ∷ []
calls_off pt m p Here = Says (line.NoCall p) ∷ []
calls_off pt m p (Frozen to) = Says (line.NoCall p) ∷ []
calls_off pt m p (Incoming from) =
    if pt.view.come p then Says (line.NoCall p) ∷ []
    else Says (line.Called p (length (pt.view.held m p))) ∷ sends_on from (pt.view.held m p) ++ to_kernel kind.CallOff from ∷ []
calls_off pt m p (Forward at moves) = Says (line.NoCall p) ∷ []

-- what a kernel is told of a process by another kernel; `fits` says whether there is room for it, and what is free
abbrev pub told_step : Point → ℕ → MsgId → Pid → (Bool × ℕ × ℕ) → Size → Sort → Option (List Part)
told_step pt m id p fits x (sort.Between sort.Ask) = Some (accepts id.from.home p fits.0 fits.1 fits.2)
told_step pt m id p fits x (sort.Between sort.Refuse) = Some (Says (line.Stays p) ∷ tells_asker (pt.kernel.notes p) ends.Stayed)
told_step pt m id p fits x (sort.Between sort.PullState) = Some (gives_piece id kind.State)
told_step pt m id p fits x (sort.Between sort.State) = Some (takes_chunk id p (pt.view.asked p == chunks_of x))
told_step pt m id p fits x (sort.Between sort.PullBlock) = Some (gives_piece id kind.Memory)
told_step pt m id p fits x (sort.Between sort.Memory) = Some (takes_block id p (pt.view.asked p == pieces_of x))
told_step pt m id p fits x (sort.Between sort.AllTaken) = leaves id p (pt.view.queue m p ++ pt.view.held m p) (pt.view.known m p)
told_step pt m id p fits x (sort.Between sort.Restart) = Some (Says (line.Migration stage.Restarted p) ∷ tells_asker (pt.kernel.notes p) ends.Done)
told_step pt m id p fits x (sort.Between sort.CallOff) = Some (Says (line.Stays p) ∷ tells_asker (pt.kernel.notes p) ends.Stayed)
told_step pt m id p fits x s = None

-- the holders that an update of a process or a server counts
abbrev pub holders_numbered : {X : Type 0} → (ℕ → Holder) → ℕ → List X → List Holder
holders_numbered f n xs = map (λ e. f e.0) (enumerate_from n xs)

abbrev pub slot_holders : Pid → Option PlainProcess → List Holder
slot_holders q process = option_map_or (λ x. holders_numbered (Slot q) 0 x.links) process []

abbrev pub answers_in : List Pending → List Holder
answers_in rs = map (λ r. Answer r.n) rs

abbrev pub holders_of : OneKernel → Pid → List Holder
holders_of s q =
    if pid_eq q switchboard then holders_numbered Name 0 s.switchboard.names
    else if pid_eq q manager then holders_numbered Child 1 s.manager.children ++ answers_in s.manager.pending ++ ToBoard ∷ []
    else slot_holders q (kernel.alive (s.processes q))

-- how many of these an update changes
abbrev pub behind_among : (Holder → Bool) → List Holder → ℕ
behind_among f [] = 0
behind_among f (h ∷ hs) = (if f h then 1 else 0) + behind_among f hs

abbrev pub behind_count : OneKernel → Addresses → Pid → Option (Pid × Place) → ℕ
behind_count s a q told = option_map_or (λ t. behind_among (is_behind s a q t.0 t.1.moves) (holders_of s q)) told 0

abbrev pub updates : Point → MsgId → Told → List Part
updates pt id t = Says (line.Updated id (behind_count pt.kernel pt.addresses t.receiver (place_told t.about))) ∷ []

-- a kernel's own message, at a process or a server that is here: a request to move, to this very machine or another, or a notice
abbrev pub told_here : Point → ℕ → MsgId → Told → Sort → Option (List Part)
told_here pt m id t sort.Request = Some (if m == target_of (Some t) then Says (line.Here id) ∷ [] else leaves_for t.receiver (target_of (Some t)))
told_here pt m id t sort.Notice = Some (updates pt id t)
told_here pt m id t s = None

-- at a process that has ended
abbrev pub told_ended : MsgId → Sort → Option (List Part)
told_ended id sort.Request = Some (Says (line.NoMove id) ∷ [])
told_ended id sort.Notice = Some (Says (line.Updated id 0) ∷ [])
told_ended id s = None

-- by what the machine knows of a message's receiver: what is done where it is here, and where it has ended, which it has where nothing
-- is known of it; else the message is held, or goes on
abbrev pub by_known : Point → MsgId → MessageKind → Pid → Option (List Part) → Option (List Part) → Known → Option (List Part)
by_known pt id k sender here over Unknown = over
by_known pt id k sender here over Here = here
by_known pt id k sender here over (Frozen to) = Some (Says (line.Held id) ∷ [])
by_known pt id k sender here over (Incoming from) = Some (Says (line.Held id) ∷ [])
by_known pt id k sender here over (Forward at moves) = Some (forwards_on pt.addresses id k sender at)

-- of these messages only a request to move is answered by an update, in the manager's name
abbrev pub process_told : Point → ℕ → MsgId → Told → Known → Option (List Part)
process_told pt m id t known = by_known pt id t.kind manager (told_here pt m id t (sort_of t.kind)) (told_ended id (sort_of t.kind)) known

-- the manager is told to move a process, which is one of its children, the switchboard or itself: along the address that it has of it
abbrev pub migrates_to : Pid → Option Place → List Part
migrates_to p place = option_map_or (λ a. Owns kind.Migrate p a.at ∷ []) place (Says (line.NoChild p) ∷ [])

-- on the machine where it is here; while it is on its way nothing is told to move
abbrev pub migrates : Point → Pid → List Part
migrates pt p = if has_seat pt.view then migrates_to p (known_place pt.kernel pt.view pt.view.seat pt.addresses p) else Says line.Away ∷ []
