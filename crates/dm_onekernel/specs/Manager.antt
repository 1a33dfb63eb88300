-- The process manager: it makes processes, and stops, resumes, kills and moves those that it made.
use Rattle.std.specs.Prelude.{ℕ, zero, suc, ◌+◌, ◌*◌, false, ◌==◌, ◌&&◌, nat_lt, if◌then◌else◌, List, [], ◌∷◌, ◌++◌, length, slice_get}
use Rattle.std.specs.List.{find}
use Rattle.std.specs.Option.{option_map, option_map_or}
use Rattle.std.specs.declared.option.Option.{Option}
use Rattle.std.specs.declared.option.Option.TheVariants.{None, Some}
use Rattle.dm_link.specs.declared.Pid.{Pid}
use Rattle.dm_link.specs.declared.Kind.TheVariants as kind
use Rattle.dm_link.specs.Names.{pid_of}
use Rattle.dm_link.specs.Plain.{PlainLink}
use Rattle.dm_message.specs.Ids.{id_of}
use Rattle.dm_message.specs.Plain as what
use Rattle.dm_message.specs.Plain.{PlainMessage, PlainWhat}
use Rattle.dm_message.specs.Outcomes.{code_of_outcome}
use Rattle.dm_onekernel.specs.declared.request.PendingKind.{PendingKind}
use Rattle.dm_onekernel.specs.declared.request.PendingKind.TheVariants as wanted
use Rattle.dm_onekernel.specs.Boot.{manager}
use Rattle.dm_onekernel.specs.Kernel.{Manager, Pending}
use Rattle.dm_onekernel.specs.Switchboard.{goes_over}

-- the manager after a message, and what it sends
pub record ManagerTook : Type 0 where
  pub manager : Manager
  pub message : Option PlainMessage

-- one byte goes over the link for the answer, if there is one
abbrev pub answers_over : Manager → Option PlainLink → ℕ → List PlainLink → ManagerTook
answers_over g None code links = record { manager = g; message = None }
answers_over g (Some l) code links =
    record { manager = record g { sent = g.sent + 1 }; message = Some (goes_over manager g.sent l (code ∷ []) links) }

-- a message to a process or a kernel
abbrev pub tells : Manager → Pid → PlainWhat → ManagerTook
tells g to w =
    record { manager = record g { sent = g.sent + 1 }; message = Some (record { id = id_of manager g.sent; to = to; sender = manager; what = w }) }

-- a bad request is answered with 2 over its first link, if it has one
abbrev pub bad_request : Manager → List PlainLink → ManagerTook
bad_request g links = answers_over g (slice_get links 0) 2 []

-- a request of this kind is sent, and waits for the answer
abbrev pub sends_request : Manager → PendingKind → Pid → PlainWhat → Option PlainLink → ManagerTook
sends_request g kind to w answer =
    let told = tells g to w in
    record { manager = record told.manager { pending = g.pending ++ record { n = g.sent; kind = kind; answer = answer } ∷ [] }; message = told.message }

-- a process is to be made: the request goes to the kernel of its machine
abbrev pub asks_for : Manager → ℕ → ℕ → PlainLink → List PlainLink → ManagerTook
asks_for g machine image answer links = sends_request g wanted.Create (pid_of machine 0) (what.Create image links) (Some answer)

-- over a link with code 0: the bytes 1, machine, image (two bytes), and links, the first for the answer, up to three more
-- for the child
abbrev pub wants_child : Manager → ℕ → ℕ → ℕ → ℕ → List PlainLink → ManagerTook
wants_child g machines images machine image [] = bad_request g []
wants_child g machines images machine image (l ∷ ls) =
    if nat_lt machine machines && nat_lt image images then asks_for g machine image l ls else bad_request g (l ∷ ls)

abbrev pub requests_child : Manager → ℕ → ℕ → List ℕ → List PlainLink → ManagerTook
requests_child g machines images (operation ∷ machine ∷ high ∷ low ∷ []) links =
    if operation == 1 then wants_child g machines images machine (256 * high + low) links else bad_request g links
requests_child g machines images body links = bad_request g links

-- what is done to a child: 2 stops it, 3 resumes it, 4 kills it
abbrev pub control_of : ℕ → Option PlainWhat
control_of operation =
    if operation == 2 then Some what.Stop else if operation == 3 then Some what.Resume else if operation == 4 then Some what.Kill else None

-- operation 5: the child is to move to a machine that there is; the answer goes over the first link, if there is one
abbrev pub moves_child : Manager → ℕ → Pid → ℕ → List PlainLink → ManagerTook
moves_child g machines child machine links =
    if nat_lt machine machines then sends_request g wanted.Move child (what.Move machine) (slice_get links 0) else bad_request g links

-- over a link whose code is the number of a child: one byte, or operation 5 and a machine
abbrev pub controls : Manager → ℕ → Option Pid → List ℕ → List PlainLink → ManagerTook
controls g machines (Some child) (operation ∷ []) links = option_map_or (tells g child) (control_of operation) (bad_request g links)
controls g machines (Some child) (operation ∷ machine ∷ []) links =
    if operation == 5 then moves_child g machines child machine links else bad_request g links
controls g machines child body links = bad_request g links

-- child number n, from 1
abbrev pub child_numbered : {P : Type 0} → List P → ℕ → Option P
child_numbered children zero = None
child_numbered children (suc n) = slice_get children n

-- a user message that came over a link with this code
abbrev pub takes_user : Manager → ℕ → ℕ → ℕ → List ℕ → List PlainLink → ManagerTook
takes_user g machines images code body links =
    if code == 0 then requests_child g machines images body links else controls g machines (child_numbered g.children code) body links

abbrev pub pending_numbered : ℕ → List Pending → Option Pending
pending_numbered n rs = find (λ r. r.n == n) rs

abbrev pub without_pending : ℕ → List Pending → List Pending
without_pending n [] = []
without_pending n (r ∷ rs) = if r.n == n then rs else r ∷ without_pending n rs

-- the link by which child number n is controlled
abbrev pub control_link : ℕ → PlainLink
control_link n =
    record { to = manager; kind = kind.General; to_kernel = false; code = n; channel = 0; area = record { base = 0; len = 0; read = false; write = false } }

-- a request is answered: it isn't pending any more, and who asked for it is told, if there is a link for the answer
abbrev pub takes_answer : Manager → ℕ → List Pid → ℕ → List PlainLink → Option Pending → Option ManagerTook
takes_answer g n children code links request =
    option_map (λ r. answers_over (record g { children = children; pending = without_pending n g.pending }) r.answer code links) request

-- user messages, and the answers to pending requests: a child that stands gets the next number, and the answer brings its control
-- link; or there was no room for it; or a move has ended so
abbrev pub manager_takes : Manager → ℕ → ℕ → PlainMessage → PlainWhat → Option ManagerTook
manager_takes g machines images m (what.User code channel body links) = Some (takes_user g machines images code body links)
manager_takes g machines images m (what.Created child) =
    takes_answer g m.id.n (g.children ++ child ∷ []) 0 (control_link (length g.children + 1) ∷ []) (pending_numbered m.id.n g.pending)
manager_takes g machines images m what.NoRoom = takes_answer g m.id.n g.children 1 [] (pending_numbered m.id.n g.pending)
manager_takes g machines images m (what.Moved outcome) =
    takes_answer g m.id.n g.children (code_of_outcome outcome) [] (pending_numbered m.id.n g.pending)
manager_takes g machines images m w = None
