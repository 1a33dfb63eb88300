-- The addresses that each step of the kernel without machines gives, a row a label.
use Rattle.std.specs.Prelude.{ℕ, ◌+◌, if◌then◌else◌, List, [], ◌∷◌, ◌++◌, length, map, slice_set}
use Rattle.std.specs.Option.{option_map_or}
use Rattle.std.specs.List.{enumerate_from}
use Rattle.std.specs.Str.{bytes_eq}
use Rattle.std.specs.declared.option.Option.{Option}
use Rattle.std.specs.declared.option.Option.TheVariants.{None, Some}
use Rattle.dm_link.specs.declared.Pid.{Pid}
use Rattle.dm_link.specs.Names.{Place, pid_eq}
use Rattle.dm_link.specs.Plain.{PlainLink}
use Rattle.dm_linktable.specs.Slots.{first_empty}
use Rattle.dm_message.specs.declared.MsgId.{MsgId}
use Rattle.dm_message.specs.Ids.{id_of}
use Rattle.dm_message.specs.Plain as what
use Rattle.dm_message.specs.Plain.{PlainMessage, PlainWhat}
use Rattle.dm_onekernel.specs.declared.label.Label.{Label}
use Rattle.dm_onekernel.specs.declared.label.Label.TheVariants as label
use Rattle.dm_onekernel.specs.declared.label.Reply.{Reply}
use Rattle.dm_onekernel.specs.declared.label.Reply.TheVariants as reply
use Rattle.dm_onekernel.specs.Boot.{switchboard, manager}
use Rattle.dm_onekernel.specs.PlainProcess.{PlainProcess, reg}
use Rattle.dm_onekernel.specs.Kernel.{NamedLink, OneKernel}
use Rattle.dm_onekernel.specs.Calls as calls
use Rattle.dm_onekernel.specs.Pieces as pieces
use Rattle.dm_onekernel.specs.Pieces.{answer_id}
use Rattle.dm_onekernel.specs.Switchboard as board
use Rattle.dm_onekernel.specs.Manager as manage
use Rattle.dm_onekernel.specs.Step as kernel
use Rattle.dm_law_rule.specs.View.{View}
use Rattle.dm_law_rule.specs.Holders.{Slot, Owner, Receiver, Sender, Enclosed, Child, Name, Answer, AskedBy, Addresses, Gets, gets, acting_place, unmoved}

-- the links of a message, in order, from places that are given
abbrev pub encloses : MsgId → ℕ → List Place → List Gets
encloses id k ps = map (λ e. gets (Enclosed id e.0) e.1) (enumerate_from k ps)

-- the places of a message's links from place k on
abbrev pub enclosed_from : Addresses → MsgId → ℕ → List PlainLink → List Place
enclosed_from a id k ls = map (λ e. a (Enclosed id e.0)) (enumerate_from k ls)

-- a process sends: over its link in slot r1, from where it is; the links that it encloses keep their places; what isn't a user
-- message asks for the first piece of a data move, and the link's place is then the owner's too
abbrev pub sending_gets : View → Addresses → Pid → PlainProcess → MsgId → PlainWhat → List Gets
sending_gets v a p x id (what.User code channel body links) =
    gets (Receiver id) (a (Slot p (reg x.regs 1))) ∷ gets (Sender id) (acting_place v p) ∷ encloses id 0 (map (λ k. a (Slot p k)) (calls.listed x))
sending_gets v a p x id w =
    gets (Receiver id) (a (Slot p (reg x.regs 1))) ∷ gets (Sender id) (acting_place v p) ∷ gets (Owner p) (a (Slot p (reg x.regs 1))) ∷ []

-- only a call that sends gives addresses
abbrev pub sends_next : View → Addresses → Pid → PlainProcess → MsgId → Option kernel.Trap → List Gets
sends_next v a p x id (Some (kernel.Calls number (calls.Sends m y))) = sending_gets v a p x id m.what
sends_next v a p x id next = []

-- the send of a process that executes
abbrev pub send_gets : OneKernel → View → Addresses → Pid → MsgId → Option PlainProcess → List Gets
send_gets s v a p id process = option_map_or (λ x. sends_next v a p x id (kernel.next_trap s p)) process []

-- a link goes into a slot, where there is one, with this place
abbrev pub fills : Pid → Option ℕ → Place → List Gets
fills p slot place = option_map_or (λ k. gets (Slot p k) place ∷ []) slot []

-- only the calls that make a link or copy one fill a slot
abbrev pub fills_by : View → Addresses → Pid → PlainProcess → calls.CallNumber → List Gets
fills_by v a p x calls.Make = fills p (first_empty x.links) (acting_place v p)
fills_by v a p x calls.Copy = fills p (first_empty x.links) (a (Slot p (reg x.regs 1)))
fills_by v a p x number = []

-- a call fills a slot only if it is not refused
abbrev pub call_gets : View → Addresses → Pid → ℕ → Reply → Option PlainProcess → List Gets
call_gets v a p n reply.Done (Some x) = fills_by v a p x (calls.call_number n)
call_gets v a p n c x = []

-- the slots that so many links go into: the lowest empty ones, in order
abbrev pub slot_after : List (Option PlainLink) → PlainLink → Option ℕ → List (Option PlainLink)
slot_after slots l slot = option_map_or (λ k. slice_set slots k (Some l)) slot slots

-- the links of a message go into them, and keep their places
abbrev pub receives_links : Addresses → Pid → MsgId → ℕ → List (Option PlainLink) → List PlainLink → List Gets
receives_links a p id k slots [] = []
receives_links a p id k slots (l ∷ ls) =
    fills p (first_empty slots) (a (Enclosed id k)) ++ receives_links a p id (k + 1) (slot_after slots l (first_empty slots)) ls

-- only a user message brings links to a process
abbrev pub receiving_gets : Addresses → Pid → MsgId → PlainProcess → PlainWhat → List Gets
receiving_gets a p id x (what.User code channel body links) = receives_links a p id 0 x.links links
receiving_gets a p id x w = []

-- a living process takes a message of the bag
abbrev pub reception_gets : Addresses → Pid → MsgId → Option PlainProcess → Option PlainMessage → List Gets
reception_gets a p id process message =
    option_map_or (λ x. option_map_or (λ m. receiving_gets a p id x m.what) message []) process []

-- an answer goes back to where its request came from
abbrev pub answer_gets : Addresses → MsgId → Place → List Gets
answer_gets a id sender = gets (Receiver (answer_id id)) (a (Sender id)) ∷ gets (Sender (answer_id id)) sender ∷ []

-- the next request of a data move goes to its owner
abbrev pub landing_gets : View → Addresses → Pid → Option pieces.Landed → List Gets
landing_gets v a p (Some (pieces.Next request x)) = gets (Receiver request.id) (a (Owner p)) ∷ gets (Sender request.id) (acting_place v p) ∷ []
landing_gets v a p landed = []

-- what the kernel of a process does with a message for it: an answer, or the next request of its data move
abbrev pub serving_gets : View → Addresses → MsgId → PlainMessage → PlainProcess → PlainWhat → List Gets
serving_gets v a id m x (what.Read base len) = answer_gets a id (acting_place v m.to)
serving_gets v a id m x (what.Write base bytes) = answer_gets a id (acting_place v m.to)
serving_gets v a id m x (what.Block bytes) = landing_gets v a m.to (pieces.lands m.to x m x.status)
serving_gets v a id m x what.Written = landing_gets v a m.to (pieces.lands m.to x m x.status)
serving_gets v a id m x w = []

-- a message of the bag is served, only at a living process
abbrev pub service_gets : OneKernel → View → Addresses → MsgId → Option PlainMessage → List Gets
service_gets s v a id message =
    option_map_or (λ m. option_map_or (λ x. serving_gets v a id m x m.what) (kernel.alive (s.processes m.to)) []) message []

-- a child begins with the links that its request brought
abbrev pub child_links : Addresses → Pid → MsgId → ℕ → List PlainLink → List Gets
child_links a child id k ls = map (λ e. gets (Slot child e.0) (a (Enclosed id e.0))) (enumerate_from k ls)

-- only a request to make a process brings links to it
abbrev pub child_gets : Addresses → MsgId → Pid → PlainWhat → List Gets
child_gets a id child (what.Create image links) = child_links a child id 0 links
child_gets a id child w = []

-- a kernel makes a process, and answers
abbrev pub creation_gets : View → Addresses → MsgId → Pid → Option PlainMessage → List Gets
creation_gets v a id child message =
    option_map_or (λ m. answer_gets a id (unmoved v.acting) ++ child_gets a id child m.what) message []

-- the place of a name in the switchboard's list, counted from n
abbrev pub place_named : List ℕ → List NamedLink → ℕ → ℕ
place_named name [] n = n
place_named name (k ∷ ks) n = if bytes_eq k.name name then n else place_named name ks (n + 1)

-- the link that an answer hands out
abbrev pub board_finds : Addresses → MsgId → List NamedLink → List ℕ → board.Answer → List Gets
board_finds a sent names (operation ∷ name) (board.Found link) = gets (Enclosed sent 0) (a (Name (place_named name names 0))) ∷ []
board_finds a sent names body answer = []

-- the link that a request leaves with the switchboard
abbrev pub board_keeps : Addresses → MsgId → List NamedLink → board.Answer → List Gets
board_keeps a id names board.Registered = gets (Name (length names)) (a (Enclosed id 1)) ∷ []
board_keeps a id names answer = []

-- an answer, with what it hands out and what the switchboard keeps
abbrev pub board_asks : View → Addresses → MsgId → MsgId → List NamedLink → List ℕ → board.Asked → List Gets
board_asks v a id sent names body asked =
    gets (Receiver sent) (a (Enclosed id 0)) ∷ gets (Sender sent) (acting_place v switchboard) ∷ board_finds a sent names body asked.answer ++ board_keeps a id names asked.answer

-- the switchboard answers over the first link; what it hands out keeps its place, and what it keeps too
abbrev pub board_gets : OneKernel → View → Addresses → MsgId → PlainWhat → List Gets
board_gets s v a id (what.User code channel body (l ∷ ls)) =
    board_asks v a id (id_of switchboard s.switchboard.sent) s.switchboard.names body (board.asks s.switchboard.names body ls)
board_gets s v a id w = []

-- the manager's message to a child goes over its link to it
abbrev pub manager_controls : View → Addresses → ℕ → PlainMessage → List Gets
manager_controls v a code sent = gets (Receiver sent.id) (a (Child code)) ∷ gets (Sender sent.id) (acting_place v manager) ∷ []

-- the manager: a request to make a process goes to a kernel, a control message and a request to move over the link to the child,
-- and an answer over the link that came with the request; the link for the answer to a request is kept, if one came
abbrev pub telling_gets : View → Addresses → MsgId → ℕ → PlainMessage → PlainWhat → List Gets
telling_gets v a id code sent (what.Create image links) =
    gets (Receiver sent.id) (unmoved sent.to.home) ∷ gets (Sender sent.id) (acting_place v manager) ∷ gets (Answer sent.id.n) (a (Enclosed id 0)) ∷ encloses sent.id 0 (enclosed_from a id 1 links)
telling_gets v a id code sent (what.User c channel body links) =
    gets (Receiver sent.id) (a (Enclosed id 0)) ∷ gets (Sender sent.id) (acting_place v manager) ∷ []
telling_gets v a id code sent (what.Move machine) = gets (Answer sent.id.n) (a (Enclosed id 0)) ∷ manager_controls v a code sent
telling_gets v a id code sent w = manager_controls v a code sent

-- what the manager sends for a user message, if anything
abbrev pub manager_sends : View → Addresses → MsgId → ℕ → Option PlainMessage → List Gets
manager_sends v a id code message = option_map_or (λ sent. telling_gets v a id code sent sent.what) message []

-- an answer is passed on to whoever asked that a process be made, or move: over the link that was kept with request n
abbrev pub manager_answers : View → Addresses → ℕ → Option PlainMessage → List Gets
manager_answers v a n message =
    option_map_or (λ sent. gets (Receiver sent.id) (a (Answer n)) ∷ gets (Sender sent.id) (acting_place v manager) ∷ gets (Enclosed sent.id 0) (acting_place v manager) ∷ []) message []

-- the manager takes a message: a user's, or the answer to a request of its own
abbrev pub manager_gets : OneKernel → View → Addresses → PlainMessage → PlainWhat → Option manage.ManagerTook → List Gets
manager_gets s v a m w None = []
manager_gets s v a m (what.User code channel body links) (Some t) = manager_sends v a m.id code t.message
manager_gets s v a m (what.Created child) (Some t) =
    gets (Child (length s.manager.children + 1)) (unmoved child.home) ∷ manager_answers v a m.id.n t.message
manager_gets s v a m w (Some t) = manager_answers v a m.id.n t.message

-- a server takes a message of the bag
abbrev pub taking_gets : OneKernel → View → Addresses → MsgId → Option PlainMessage → List Gets
taking_gets s v a id message =
    option_map_or (λ m. if pid_eq m.to switchboard then board_gets s v a id m.what
    else manager_gets s v a m m.what (manage.manager_takes s.manager s.machines (length s.images) m m.what)) message []

-- what each label gives, a row a label; a process that follows a request to move knows who sent it, and answers where it is then
abbrev pub gives : OneKernel → View → Addresses → Label → List Gets
gives s v a (label.Ran p k) = []
gives s v a (label.Call p n c) = call_gets v a p n c (kernel.running s p)
gives s v a (label.Send p id) = send_gets s v a p id (kernel.running s p)
gives s v a (label.Wait p) = []
gives s v a (label.Out p w) = []
gives s v a (label.End p y) = []
gives s v a (label.Receive p id) = reception_gets a p id (kernel.alive (s.processes p)) (s.bag id)
gives s v a (label.Refuse p id c) = []
gives s v a (label.Dropped id) = []
gives s v a (label.Served id) = service_gets s v a id (s.bag id)
gives s v a (label.Gone id) = answer_gets a id (record { at = v.acting; moves = (a (Receiver id)).moves })
gives s v a (label.Took id) = taking_gets s v a id (s.bag id)
gives s v a (label.Created id child) = creation_gets v a id child (s.bag id)
gives s v a (label.NoSpace id f b) = answer_gets a id (unmoved v.acting)
gives s v a (label.Asked id) = option_map_or (λ m. gets (AskedBy m.to) (a (Sender id)) ∷ []) (s.bag id) []
gives s v a (label.Answered id o) =
    option_map_or (λ p. gets (Receiver (answer_id id)) (a (AskedBy p)) ∷ gets (Sender (answer_id id)) (acting_place v p) ∷ []) (s.noted id) []
