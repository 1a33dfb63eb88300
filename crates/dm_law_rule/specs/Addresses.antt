-- Addresses: the place that each link and each message names, folded from the lines beside the kernel without machines.
use Rattle.std.specs.Prelude.{ℕ, ◌+◌, Bool, false, ◌&&◌, nat_lt, if◌then◌else◌, is_none, option_map, option_and_then, List, [], ◌∷◌, ◌++◌, map, slice_get}
use Rattle.std.specs.Option.{option_map_or, unwrap_or}
use Rattle.std.specs.List.{position_from}
use Rattle.std.specs.declared.option.Option.{Option}
use Rattle.std.specs.declared.option.Option.TheVariants.{None, Some}
use Rattle.dm_link.specs.declared.Pid.{Pid}
use Rattle.dm_link.specs.declared.Link.{Link}
use Rattle.dm_link.specs.Names.{Place, place_of, pid_eq}
use Rattle.dm_link.specs.Plain.{PlainLink}
use Rattle.dm_linktable.specs.Slots.{link_at}
use Rattle.dm_message.specs.declared.MsgId.{MsgId}
use Rattle.dm_message.specs.Sorts.{Sort, sort_of}
use Rattle.dm_message.specs.Sorts as sort
pub use Rattle.dm_message.specs.Told.{is_told_back}
use Rattle.dm_onekernel.specs.declared.boot.BootProcess.{BootProcess}
use Rattle.dm_onekernel.specs.declared.boot.Boot.{Boot}
use Rattle.dm_onekernel.specs.Boot.{switchboard, manager}
use Rattle.dm_onekernel.specs.PlainProcess.{PlainStatus, Moving}
use Rattle.dm_onekernel.specs.Kernel.{OneKernel}
use Rattle.dm_onekernel.specs.Manager as manage
use Rattle.dm_onekernel.specs.Step as kernel
use Rattle.dm_law_rule.specs.Acts.{Act, act_of}
use Rattle.dm_law_rule.specs.Acts as act
use Rattle.dm_law_rule.specs.View.{View, Told, About, Known, Frozen, Incoming, Forward}
use Rattle.dm_law_rule.specs.View as view
pub use Rattle.dm_law_rule.specs.Holders.{Holder, Slot, Owner, Receiver, Sender, Enclosed, Child, Name, Answer, AskedBy, ToBoard, Addresses, holder_eq, Gets, gets, given, acting_place, unmoved}
pub use Rattle.dm_law_rule.specs.Given.{encloses, enclosed_from, sending_gets, sends_next, send_gets, fills, fills_by, call_gets, slot_after, receives_links, receiving_gets, reception_gets, answer_gets, landing_gets, serving_gets, service_gets, child_links, child_gets, creation_gets, place_named, board_finds, board_keeps, board_asks, board_gets, manager_controls, telling_gets, manager_sends, manager_answers, manager_gets, taking_gets, gives}

-- a message that goes on, that step 6 of a migration sends on, or that goes back where one is called off, follows its receiver
abbrev pub place_known : Known → ℕ → Place → Place
place_known (Frozen to) moves p = record { at = to; moves = moves + 1 }
place_known (Forward at count) moves p = record { at = at; moves = count }
place_known (Incoming from) moves p = record { at = from; moves = moves }
place_known k moves p = p

-- one message goes where the acting machine knows its receiver to be
abbrev pub follows : View → Addresses → Pid → MsgId → Gets
follows v a p id = gets (Receiver id) (place_known (v.known v.acting p) (v.moves p) (a (Receiver id)))

-- all these messages for a process go on
abbrev pub all_follow : View → Addresses → Pid → List MsgId → List Gets
all_follow v a p ids = map (follows v a p) ids

-- that update goes to where the message came from, as the next message of the acting machine's kernel
abbrev pub told_back_gets : View → Addresses → MsgId → Bool → List Gets
told_back_gets v a id back = if back then gets (Receiver (view.own_id v)) (a (Sender id)) ∷ gets (Sender (view.own_id v)) (unmoved v.acting) ∷ [] else []

-- a message goes on: it follows its receiver, and its sender may be told
abbrev pub forwards : View → Addresses → MsgId → Option Told → List Gets
forwards v a id told = option_map_or (λ t. follows v a t.receiver id ∷ told_back_gets v a id (is_told_back t.kind)) told []

-- which child of the manager a process is, if it is one
abbrev pub child_number : OneKernel → Pid → Option ℕ
child_number s p = position_from (pid_eq p) 1 s.manager.children

-- from the acting machine's kernel to another, at home
abbrev pub goes_between : View → MsgId → Pid → List Gets
goes_between v id q = gets (Receiver id) (unmoved q.home) ∷ gets (Sender id) (unmoved v.acting) ∷ []

-- where the manager, on machine m, knows what it is told to move: the switchboard, itself, or a child
abbrev pub known_place : OneKernel → View → ℕ → Addresses → Pid → Option Place
known_place s v m a q =
    if pid_eq q switchboard then Some (a ToBoard)
    else if pid_eq q manager then Some (record { at = m; moves = v.moves q })
    else option_map (λ n. a (Child n)) (child_number s q)

-- a kernel's own message, when it is first put: a request to move goes to where the manager knows its receiver to be, in
-- the manager's name; an update has its places from the forward; the others go from kernel to kernel
abbrev pub own_given : OneKernel → View → Addresses → MsgId → Pid → Sort → List Gets
own_given s v a id q sort.Request = gets (Receiver id) (unwrap_or (known_place s v v.acting a q) (unmoved 0)) ∷ gets (Sender id) (acting_place v manager) ∷ []
own_given s v a id q (sort.Between passage) = goes_between v id q
own_given s v a id q sort.Buries = goes_between v id q
own_given s v a id q w = []

-- only a message's first put gives addresses
abbrev pub first_gives : Option Told → List Gets → List Gets
first_gives told g = if is_none told then g else []

-- what an update is about: where a process is
abbrev pub place_told : About → Option (Pid × Place)
place_told (view.Place p at moves) = Some (p, record { at = at; moves = moves })
place_told a = None

-- whose address it is that a holder has: a process's or a server's own. No other's are: those of a message, as is that of who asked a
-- process to move
abbrev pub belongs_to : Pid → Holder → Bool
belongs_to q (Slot p k) = pid_eq p q
belongs_to q (Owner p) = pid_eq p q
belongs_to q (Child n) = pid_eq q manager
belongs_to q (Name n) = pid_eq q switchboard
belongs_to q (Answer n) = pid_eq q manager
belongs_to q ToBoard = pid_eq q manager
belongs_to q h = false

-- whom a link leads to, if there is one
abbrev pub link_target : Option PlainLink → Option Pid
link_target link = option_map (λ l. l.to) link

-- whose area a process moves data to or from
abbrev pub owner_in : PlainStatus → Option Pid
owner_in (Moving dir owner base own left pending) = Some owner
owner_in status = None

-- the process that a holder's address leads to, a row a holder; a message's addresses are updated on its way, not here, nor is
-- where the answer to a request to move goes: these have none
abbrev pub leads_to : OneKernel → Holder → Option Pid
leads_to s (Slot p k) = link_target (option_and_then (λ x. link_at x.links k) (kernel.alive (s.processes p)))
leads_to s (Owner p) = option_and_then (λ x. owner_in x.status) (kernel.alive (s.processes p))
leads_to s (Child n) = manage.child_numbered s.manager.children n
leads_to s (Name n) = link_target (option_map (λ k. k.link) (slice_get s.switchboard.names n))
leads_to s (Answer n) = link_target (option_and_then (λ r. r.answer) (manage.pending_numbered n s.manager.pending))
leads_to s ToBoard = Some switchboard
leads_to s h = None

-- an address of q's that leads to p and knows fewer moves of it
abbrev pub is_behind : OneKernel → Addresses → Pid → Pid → ℕ → Holder → Bool
is_behind s a q p moves h = belongs_to q h && (option_map_or (pid_eq p) (leads_to s h) false && nat_lt (a h).moves moves)

-- an update at q: each address of q's that is behind names the place told
abbrev pub updated_to : OneKernel → Addresses → Option Pid → Option (Pid × Place) → Addresses
updated_to s a to told h = option_map_or (λ q. option_map_or (λ t. if is_behind s a q t.0 t.1.moves h then t.1 else a h) told (a h)) to (a h)

-- by what was told of the update when it was first put
abbrev pub updated : OneKernel → View → Addresses → Option Told → Addresses
updated s v a told h = option_map_or (λ t. updated_to s a (Some t.receiver) (place_told t.about) h) told (a h)

-- by the sort of a line
abbrev pub addresses_by : OneKernel → View → Addresses → Act → Addresses
addresses_by s v a (act.Steps l) = given a (gives s v a l)
addresses_by s v a (act.Routes from to id k q) = given a (first_gives (v.told id) (own_given s v a id q (sort_of k)))
addresses_by s v a (act.GoesOn id) = given a (forwards v a id (v.told id))
addresses_by s v a (act.AllGoOn p) = given a (all_follow v a p (v.queue v.acting p ++ v.held v.acting p))
addresses_by s v a (act.AllGoBack p) = given a (all_follow v a p (v.held v.acting p))
addresses_by s v a (act.Updates id) = updated s v a (v.told id)
addresses_by s v a x = a

abbrev pub links_at : List BootProcess → Pid → List Link
links_at [] q = []
links_at (p ∷ ps) q = if pid_eq p.pid q then p.links else links_at ps q

-- the boot file gives the first
abbrev pub first_addresses : Boot → Addresses
first_addresses b (Slot p k) = option_map_or (λ l. place_of l.addr) (slice_get (links_at b.processes p) k) (unmoved 0)
first_addresses b (Owner p) = unmoved 0
first_addresses b (Receiver id) = unmoved 0
first_addresses b (Sender id) = unmoved 0
first_addresses b (Enclosed id k) = unmoved 0
first_addresses b (Child n) = unmoved (option_map_or (λ p. p.pid.home) (manage.child_numbered b.processes n) 0)
first_addresses b (Name n) = unmoved 0
first_addresses b (Answer n) = unmoved 0
first_addresses b (AskedBy p) = unmoved 0
first_addresses b ToBoard = unmoved 0
