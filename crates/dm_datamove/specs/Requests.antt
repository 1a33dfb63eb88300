-- Requests for pieces of a data move, and where a process says that it is.
use Rattle.std.specs.Prelude.{ℕ, ◌+◌, ◌≤◌, take, drop}
use Rattle.std.specs.declared.option.Option.{Option}
use Rattle.std.specs.declared.option.Option.TheVariants.{Some}
use Rattle.dm_link.specs.declared.Addr.{Addr}
use Rattle.dm_link.specs.Lawful.{IsLawfulAddr}
use Rattle.dm_message.specs.Ids.{id_of}
use Rattle.dm_message.specs.declared.Message.{Message}
use Rattle.dm_message.specs.declared.What.{What}
use Rattle.dm_message.specs.declared.What.TheVariants as what
use Rattle.dm_message.specs.Plain.{PlainMessage}
use Rattle.dm_process.specs.declared.process.Process.{Process}
use Rattle.dm_process.specs.declared.process.Direction.{Direction}
use Rattle.dm_process.specs.declared.process.Direction.TheVariants as direction
use Rattle.dm_process.specs.declared.process.Status.TheVariants as status
use Rattle.dm_onekernel.specs.Options.{bind}
use Rattle.dm_onekernel.specs.Plain.{plain_process}
use Rattle.dm_onekernel.specs.Pieces.{Requested, piece_of}
use Rattle.dm_datamove.specs.declared.Rest.{Rest}

-- where a process of machine `here` says that it is
abbrev pub address_of : ℕ → Process → Addr
address_of here p = record { pid = p.pid; at = here; moves = p.moves }

-- what is asked for: bytes of the area, or that bytes of the mover's are written there
abbrev pub request_of : Process → Direction → ℕ → ℕ → ℕ → What
request_of p direction.FromArea base own left = what.Read base (piece_of left)
request_of p direction.IntoArea base own left = what.Write base (record { items = take (piece_of left) (drop own p.memory) })

-- the request for the first piece of what is left
abbrev pub request : ℕ → Process → Rest → Message
request here p r =
    record { id = id_of p.pid p.sent; to = r.owner; sender = address_of here p; what = request_of p r.dir r.base r.own r.left }

-- the mover, once it has sent that request
abbrev pub moving : Process → Rest → Process
moving p r = record p { status = status.Moving r.dir r.owner r.base r.own r.left p.sent; sent = p.sent + 1 }

-- something is left, within a memory of so many bytes and within the largest area
pub record IsRest (size : ℕ) (r : Rest) : Type 0 where
  pub owner : IsLawfulAddr r.owner
  pub some : 1 ≤ r.left
  pub area : r.base + r.left ≤ 65536
  pub own : r.own + r.left ≤ size

-- the request and the mover, without places
abbrev pub plain_requested : Option PlainMessage → Process → Option Requested
plain_requested m p = bind m (λ m. Some (record { message = m; process = plain_process p }))
