-- The messages of the process manager.
use Rattle.std.specs.Prelude.{ℕ, false, List, [], ◌∷◌}
use Rattle.dm_link.specs.declared.Addr.{Addr}
use Rattle.dm_link.specs.declared.Kind.TheVariants as kind
use Rattle.dm_link.specs.declared.Link.{Link}
use Rattle.dm_message.specs.declared.Message.{Message}
use Rattle.dm_message.specs.declared.What.{What}
use Rattle.dm_message.specs.declared.What.TheVariants as what
use Rattle.dm_message.specs.Ids.{id_of}
use Rattle.dm_onekernel.specs.Boot.{manager}

-- the manager on a machine, where it came after so many moves
abbrev pub address_at : ℕ → ℕ → Addr
address_at here moves = record { pid = manager; at = here; moves = moves }

-- its message number n to a process or a kernel
abbrev pub message_to : ℕ → ℕ → ℕ → Addr → What → Message
message_to here moves n to w = record { id = id_of manager n; to = to; sender = address_at here moves; what = w }

-- one byte goes over a link, with links, as its message number n
abbrev pub answer_over : ℕ → ℕ → ℕ → Link → ℕ → List Link → Message
answer_over here moves n l code links = message_to here moves n l.addr (what.User l.code l.channel (record { items = code ∷ [] }) (record { items = links }))

-- the link by which child number n is controlled
abbrev pub control_link : ℕ → ℕ → ℕ → Link
control_link here moves n =
    record { addr = address_at here moves; kind = kind.General; to_kernel = false; code = n; channel = 0; area = record { base = 0; len = 0; read = false; write = false } }
