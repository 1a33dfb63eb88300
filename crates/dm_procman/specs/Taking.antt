-- What the process manager does with a message, with the places that addresses, links and messages lead to.
use Rattle.std.specs.Prelude.{ℕ, zero, suc, Bool, ◌+◌, ◌*◌, ◌==◌, ◌&&◌, nat_lt, if◌then◌else◌, List, [], ◌∷◌, ◌++◌, length, slice_get, IsSome}
use Rattle.std.specs.List.{find}
use Rattle.std.specs.declared.option.Option.{Option}
use Rattle.std.specs.declared.option.Option.TheVariants.{None, Some}
use Rattle.dm_link.specs.declared.Pid.{Pid}
use Rattle.dm_link.specs.declared.Addr.{Addr}
use Rattle.dm_link.specs.declared.Link.{Link}
use Rattle.dm_link.specs.Places.{kernel_at}
use Rattle.dm_message.specs.declared.Message.{Message}
use Rattle.dm_message.specs.declared.What.{What}
use Rattle.dm_message.specs.declared.What.TheVariants as what
use Rattle.dm_message.specs.declared.Outcome.{Outcome}
use Rattle.dm_message.specs.Outcomes.{code_of_outcome}
use Rattle.dm_onekernel.specs.declared.request.PendingKind.{PendingKind}
use Rattle.dm_onekernel.specs.declared.request.PendingKind.TheVariants as wanted
use Rattle.dm_procman.specs.declared.pending.Pending.{Pending}
use Rattle.dm_procman.specs.Managing.{Managing, at_home}
use Rattle.dm_procman.specs.Making.{answer_over, control_link, message_to}

-- the manager after a message, and what it sends
pub record Taken : Type 0 where
  pub manager : Managing
  pub message : Option Message

-- a message is sent
abbrev pub sends : Managing → Message → Taken
sends g m = record { manager = record g { sent = g.sent + 1 }; message = Some m }

-- one byte goes over the link of an answer
abbrev pub answers : ℕ → Managing → Link → ℕ → List Link → Taken
answers here g l code links = sends g (answer_over here g.moves g.sent l code links)

-- so it does where there is a link for the answer
abbrev pub answers_over : ℕ → Managing → Option Link → ℕ → List Link → Taken
answers_over here g None code links = record { manager = g; message = None }
answers_over here g (Some l) code links = answers here g l code links

-- the link for the answer to a request: the first that came with it
abbrev pub first_link : List Link → Option Link
first_link [] = None
first_link (l ∷ ls) = Some l

-- a bad request is answered with 2 over its first link, if it has one
abbrev pub bad_request : ℕ → Managing → List Link → Taken
bad_request here g [] = record { manager = g; message = None }
bad_request here g (l ∷ ls) = answers here g l 2 []

-- a request of this kind is sent, and waits for the answer
abbrev pub with_pending : Managing → Pending → Managing
with_pending g r = record g { pending = g.pending ++ r ∷ [] }

abbrev pub asks : ℕ → Managing → PendingKind → Addr → What → Option Link → Taken
asks here g kind to w answer = sends (with_pending g (record { n = g.sent; kind = kind; answer = answer })) (message_to here g.moves g.sent to w)

-- a process is to be made: the request goes to the kernel of its machine
abbrev pub asks_for : ℕ → Managing → ℕ → ℕ → Link → List Link → Taken
asks_for here g machine image answer links = asks here g wanted.Create (kernel_at machine) (what.Create image (record { items = links })) (Some answer)

-- over a link with code 0: the bytes 1, machine, image (two bytes), and links, the first for the answer, up to three more
-- for the child
abbrev pub wants_child : ℕ → Managing → ℕ → ℕ → List Link → Taken
wants_child here g machine image [] = bad_request here g []
wants_child here g machine image (l ∷ ls) =
    if nat_lt machine g.machines && nat_lt image g.images then asks_for here g machine image l ls else bad_request here g (l ∷ ls)

abbrev pub requests : ℕ → Managing → List ℕ → List Link → Taken
requests here g (operation ∷ machine ∷ high ∷ low ∷ []) links =
    if operation == 1 then wants_child here g machine (256 * high + low) links else bad_request here g links
requests here g body links = bad_request here g links

-- what is done to a child: 2 stops it, 3 resumes it, 4 kills it
abbrev pub control_of : ℕ → Option What
control_of operation =
    if operation == 2 then Some what.Stop else if operation == 3 then Some what.Resume else if operation == 4 then Some what.Kill else None

abbrev pub controls_child : ℕ → Managing → Addr → Option What → List Link → Taken
controls_child here g child None links = bad_request here g links
controls_child here g child (Some w) links = sends g (message_to here g.moves g.sent child w)

-- operation 5: the child is to move to a machine that there is; the answer goes over the first link, if there is one
abbrev pub wants_move : ℕ → Managing → Addr → ℕ → List Link → Taken
wants_move here g child machine links =
    if nat_lt machine g.machines then asks here g wanted.Move child (what.Move machine) (first_link links) else bad_request here g links

-- over a link whose code is the number of a child: one byte, or operation 5 and a machine
abbrev pub controls : ℕ → Managing → Option Addr → List ℕ → List Link → Taken
controls here g (Some child) (operation ∷ []) links = controls_child here g child (control_of operation) links
controls here g (Some child) (operation ∷ machine ∷ []) links =
    if operation == 5 then wants_move here g child machine links else bad_request here g links
controls here g child body links = bad_request here g links

-- child number n, from 1
abbrev pub child_address : List Addr → ℕ → Option Addr
child_address children zero = None
child_address children (suc n) = slice_get children n

-- a user message that came over a link with this code
abbrev pub takes_user : ℕ → Managing → ℕ → List ℕ → List Link → Taken
takes_user here g code body links =
    if code == 0 then requests here g body links else controls here g (child_address g.children code) body links

-- the request has this number
abbrev pub has_number : ℕ → Pending → Bool
has_number n r = r.n == n

-- the request of a number, and the others
abbrev pub pending_request : ℕ → List Pending → Option Pending
pending_request n pending = find (λ r. r.n == n) pending

abbrev pub without_pending : ℕ → List Pending → List Pending
without_pending n [] = []
without_pending n (r ∷ rs) = if r.n == n then rs else r ∷ without_pending n rs

abbrev pub settled : Managing → ℕ → Managing
settled g n = record g { pending = without_pending n g.pending }

-- the child stands: it gets the next number, and the answer brings its control link
abbrev pub takes_created : ℕ → Managing → ℕ → Pid → Option Pending → Option Taken
takes_created here g n child None = None
takes_created here g n child (Some r) =
    Some (answers_over here (record (settled g n) { children = g.children ++ at_home child ∷ [] }) r.answer 0 (control_link here g.moves (length g.children + 1) ∷ []))

-- there was no room for it
abbrev pub takes_no_room : ℕ → Managing → ℕ → Option Pending → Option Taken
takes_no_room here g n None = None
takes_no_room here g n (Some r) = Some (answers_over here (settled g n) r.answer 1 [])

-- a move has ended so: who asked for it is told, if there is a link for the answer
abbrev pub takes_moved : ℕ → Managing → ℕ → Outcome → Option Pending → Option Taken
takes_moved here g n outcome None = None
takes_moved here g n outcome (Some r) = Some (answers_over here (settled g n) r.answer (code_of_outcome outcome) [])

-- user messages, and the answers to pending requests, whose number an answer has; the manager is on machine `here`
abbrev pub takes : ℕ → Managing → ℕ → What → Option Taken
takes here g n (what.User code channel body links) = Some (takes_user here g code body.items links.items)
takes here g n (what.Created child) = takes_created here g n child (pending_request n g.pending)
takes here g n what.NoRoom = takes_no_room here g n (pending_request n g.pending)
takes here g n (what.Moved outcome) = takes_moved here g n outcome (pending_request n g.pending)
takes here g n w = None

-- a user message, or the answer to a pending request
abbrev pub IsForManager : Managing → ℕ → What → Type 0
IsForManager g n (what.User code channel body links) = Unit {0}
IsForManager g n (what.Created child) = IsSome (pending_request n g.pending)
IsForManager g n what.NoRoom = IsSome (pending_request n g.pending)
IsForManager g n (what.Moved outcome) = IsSome (pending_request n g.pending)
IsForManager g n w = ⊥
