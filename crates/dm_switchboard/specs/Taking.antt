-- What the switchboard does with a message, with the places that links and messages lead to.
use Rattle.std.specs.Prelude.{ℕ, ◌+◌, ◌==◌, if◌then◌else◌, List, [], ◌∷◌, ◌++◌}
use Rattle.std.specs.declared.option.Option.{Option}
use Rattle.std.specs.declared.option.Option.TheVariants.{None, Some}
use Rattle.arrayvec.specs.ArrayVec.{ArrayVec}
use Rattle.dm_link.specs.declared.Addr.{Addr}
use Rattle.dm_link.specs.declared.Link.{Link}
use Rattle.dm_message.specs.declared.Message.{Message}
use Rattle.dm_message.specs.declared.What.{What}
use Rattle.dm_message.specs.declared.What.TheVariants as what
use Rattle.dm_message.specs.Ids.{id_of}
use Rattle.dm_onekernel.specs.Boot.{is_general, switchboard}
use Rattle.std.specs.Str.{bytes_eq}
use Rattle.dm_onekernel.specs.Switchboard.{is_name}
use Rattle.dm_switchboard.specs.declared.Took.{Took}
use Rattle.dm_switchboard.specs.declared.reply.Reply.{Reply}
use Rattle.dm_switchboard.specs.declared.reply.Reply.TheVariants as reply
use Rattle.dm_switchboard.specs.Board.{Board, Named}

-- the byte of an answer
abbrev pub code_of_reply : Reply → ℕ
code_of_reply reply.Registered = 0
code_of_reply (reply.Found link) = 1
code_of_reply reply.Unknown = 2
code_of_reply reply.Taken = 3
code_of_reply reply.BadLink = 4
code_of_reply reply.BadRequest = 5

-- the link that an answer carries
abbrev pub links_of_reply : Reply → List Link
links_of_reply reply.Registered = []
links_of_reply (reply.Found link) = link ∷ []
links_of_reply reply.Unknown = []
links_of_reply reply.Taken = []
links_of_reply reply.BadLink = []
links_of_reply reply.BadRequest = []

-- these bytes as a name, where they are one
abbrev pub name_of : List ℕ → Option (ArrayVec ℕ)
name_of bytes = if is_name bytes then Some (record { items = bytes }) else None

-- the link that is kept under a name
abbrev pub link_named : List ℕ → List Named → Option Link
link_named name [] = None
link_named name (k ∷ ks) = if bytes_eq k.name name then Some k.link else link_named name ks

-- the names after a request, and its answer
pub record Asked : Type 0 where
  pub names : List Named
  pub reply : Reply

abbrev pub found_or_unknown : Option Link → Reply
found_or_unknown None = reply.Unknown
found_or_unknown (Some l) = reply.Found l

-- operation 2: look a name up
abbrev pub looks_up : List Named → List ℕ → Asked
looks_up names name = record { names = names; reply = found_or_unknown (link_named name names) }

-- operation 1: keep a link under a name that isn't taken
abbrev pub registers_new : List Named → List ℕ → Link → Option Link → Asked
registers_new names name l None = record { names = names ++ record { name = name; link = l } ∷ []; reply = reply.Registered }
registers_new names name l (Some taken) = record { names = names; reply = reply.Taken }

-- a reply link serves once, and isn't kept
abbrev pub registers : List Named → List ℕ → Link → Asked
registers names name l =
    if is_general l.kind then registers_new names name l (link_named name names) else record { names = names; reply = reply.BadLink }

abbrev pub bad_request : List Named → Asked
bad_request names = record { names = names; reply = reply.BadRequest }

-- a request to register has just the link for the answer and the one to keep, one to look up the first alone
abbrev pub asks_to_register : List Named → List ℕ → List Link → Asked
asks_to_register names name (l ∷ []) = if is_name name then registers names name l else bad_request names
asks_to_register names name [] = bad_request names
asks_to_register names name (l ∷ k ∷ ks) = bad_request names

abbrev pub asks_to_look_up : List Named → List ℕ → List Link → Asked
asks_to_look_up names name [] = if is_name name then looks_up names name else bad_request names
asks_to_look_up names name (l ∷ ls) = bad_request names

-- the request of a body, with the links behind the one for the answer
abbrev pub asks : List Named → List ℕ → List Link → Asked
asks names [] others = bad_request names
asks names (operation ∷ name) others =
    if operation == 1 then asks_to_register names name others
    else if operation == 2 then asks_to_look_up names name others
    else bad_request names

-- the switchboard on a machine, where it came after so many moves
abbrev pub address_at : ℕ → ℕ → Addr
address_at here moves = record { pid = switchboard; at = here; moves = moves }

-- the answer goes to where the link leads, as its message number n
abbrev pub answer_over : ℕ → ℕ → ℕ → Link → Reply → Message
answer_over here moves n l r =
    record { id = id_of switchboard n; to = l.addr; sender = address_at here moves; what = what.User l.code l.channel (record { items = code_of_reply r ∷ [] }) (record { items = links_of_reply r }) }

-- the board after a message, and what the call tells of it
pub record Taken : Type 0 where
  pub board : Board
  pub took : Took

abbrev pub answers : ℕ → Board → Link → Asked → Taken
answers here b l a =
    record {
      board = record { names = a.names; sent = b.sent + 1; moves = b.moves };
      took = record { reply = Some a.reply; answer = Some (answer_over here b.moves b.sent l a.reply) };
    }

-- a request without links has no effect and no answer
abbrev pub takes_request : ℕ → Board → List ℕ → List Link → Taken
takes_request here b body [] = record { board = b; took = record { reply = None; answer = None } }
takes_request here b body (l ∷ others) = answers here b l (asks b.names body others)

-- only user messages are for the switchboard, which is on machine `here`
abbrev pub takes : ℕ → Board → What → Option Taken
takes here b (what.User code channel body links) = Some (takes_request here b body.items links.items)
takes here b w = None
