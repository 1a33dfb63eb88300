-- The service of a request where the area is, and the answer where there is none any more.
use Rattle.std.specs.Prelude.{ℕ, ◌+◌, ◌≤◌, length, take, drop}
use Rattle.std.specs.declared.option.Option.{Option}
use Rattle.std.specs.declared.option.Option.TheVariants.{None, Some}
use Rattle.dm_message.specs.declared.Message.{Message}
use Rattle.dm_message.specs.declared.What.{What}
use Rattle.dm_message.specs.declared.What.TheVariants as what
use Rattle.dm_message.specs.declared.Outcome.TheVariants as ends
use Rattle.dm_message.specs.Plain as plain
use Rattle.dm_message.specs.Plain.{PlainMessage, PlainWhat, plain_message}
use Rattle.dm_process.specs.declared.process.Process.{Process}
use Rattle.dm_onekernel.specs.PlainProcess.{PlainProcess}
use Rattle.dm_onekernel.specs.Plain.{plain_process}
use Rattle.dm_onekernel.specs.Options.{bind}
use Rattle.dm_onekernel.specs.Pieces.{Served, answer_id, answer_to, reads, writes, written_at}
use Rattle.dm_onekernel.specs.Service as service

-- a request for a piece that lies within a memory of so many bytes
abbrev pub IsWithin : ℕ → What → Type 0
IsWithin size (what.Read base len) = base + len ≤ size
IsWithin size (what.Write base bytes) = base + length bytes.items ≤ size
IsWithin size w = ⊥

-- a request to read a piece
abbrev pub IsRead : What → Type 0
IsRead (what.Read base len) = Unit {0}
IsRead w = ⊥

-- a request that is answered where its receiver has ended: for a piece, wherever it lies, or that the receiver move
abbrev pub IsRequest : What → Type 0
IsRequest (what.Read base len) = Unit {0}
IsRequest (what.Write base bytes) = Unit {0}
IsRequest (what.Move machine) = Unit {0}
IsRequest w = ⊥

-- an answer under the request's name to who asked: its receiver is `here`, so often moved
abbrev pub answer : ℕ → ℕ → Message → What → Message
answer here moves m w =
    record { id = answer_id m.id; to = m.sender; sender = record { pid = m.to.pid; at = here; moves = moves }; what = w }

-- what was asked for is read, or it is said that what came is written
abbrev pub answer_of : Process → What → Option What
answer_of p (what.Read base len) = Some (what.Block (record { items = take len (drop base p.memory) }))
answer_of p (what.Write base bytes) = Some what.Written
answer_of p w = None

-- the owner afterwards: what came stands in its memory
abbrev pub after_serving : Process → What → Process
after_serving p (what.Write base bytes) = record p { memory = written_at p.memory base bytes.items }
after_serving p w = p

abbrev pub answer_with : ℕ → Process → Message → Option What → Option Message
answer_with here p m None = None
answer_with here p m (Some w) = Some (answer here p.moves m w)

-- the answer of the owner of the area, on machine `here`
abbrev pub serving_answer : ℕ → Process → Message → Option Message
serving_answer here p m = answer_with here p m (answer_of p m.what)

-- what is answered where the receiver has ended
abbrev pub gone_what : What → What
gone_what (what.Move machine) = what.Moved ends.Ended
gone_what w = what.Gone

-- the answer where the receiver has ended on machine `here`: as often moved as the request's address says
abbrev pub gone_answer : ℕ → Message → Message
gone_answer here m = answer here m.to.moves m (gone_what m.what)

-- what the kernel without machines makes of a request
abbrev pub plainly_served : PlainProcess → PlainMessage → PlainWhat → Option Served
plainly_served p m (plain.Read base len) = reads p m base len
plainly_served p m (plain.Write base bytes) = writes p m base bytes
plainly_served p m w = None

-- the owner and its answer, without places
abbrev pub plain_served : Process → Option PlainMessage → Option Served
plain_served p a = bind a (λ a. Some (record { process = plain_process p; answer = a }))

abbrev pub served_plainly : Process → Option PlainMessage → Option Served
served_plainly p m = bind m (λ m. plainly_served (plain_process p) m m.what)

-- the same answer, without places
abbrev pub plainly_gone : Option PlainMessage → Option PlainMessage
plainly_gone m = bind m (λ m. bind (service.gone_what m.what) (λ w. Some (answer_to m w)))
