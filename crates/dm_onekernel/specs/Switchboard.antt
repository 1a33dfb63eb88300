-- The switchboard: a list of names, each with a link that is handed out to whoever looks it up.
use Rattle.std.specs.Str.{bytes_eq}
use Rattle.std.specs.Option.{option_map_or}
use Rattle.std.specs.Prelude.{ℕ, ◌+◌, Bool, ◌==◌, ◌&&◌, nat_le, if◌then◌else◌, List, [], ◌∷◌, ◌++◌, length}
use Rattle.std.specs.declared.option.Option.{Option}
use Rattle.std.specs.declared.option.Option.TheVariants.{None, Some}
use Rattle.dm_link.specs.declared.Pid.{Pid}
use Rattle.dm_link.specs.Plain.{PlainLink}
use Rattle.dm_message.specs.Ids.{id_of}
use Rattle.dm_message.specs.Plain as what
use Rattle.dm_message.specs.Plain.{PlainMessage, PlainWhat}
use Rattle.dm_onekernel.specs.Boot.{is_general, switchboard}
use Rattle.dm_onekernel.specs.Kernel.{NamedLink, Switchboard}

-- what the switchboard answers
pub data Answer : Type 0 where
  Registered : Answer
  Found : (link : PlainLink) → Answer
  Unknown : Answer
  Taken : Answer
  BadLink : Answer
  BadRequest : Answer

-- the byte of the answer, and the links that it carries
abbrev pub answer_row : Answer → ℕ × List PlainLink
answer_row Registered = (0, [])
answer_row (Found link) = (1, link ∷ [])
answer_row Unknown = (2, [])
answer_row Taken = (3, [])
answer_row BadLink = (4, [])
answer_row BadRequest = (5, [])

-- the link that is kept under a name
abbrev pub link_named : List ℕ → List NamedLink → Option PlainLink
link_named name [] = None
link_named name (k ∷ ks) = if bytes_eq k.name name then Some k.link else link_named name ks

abbrev pub is_name : List ℕ → Bool
is_name name = nat_le 1 (length name) && nat_le (length name) 16

-- the names after a request, and its answer
pub record Asked : Type 0 where
  pub names : List NamedLink
  pub answer : Answer

-- operation 2: look a name up
abbrev pub looks_up : List NamedLink → List ℕ → Asked
looks_up names name = record { names = names; answer = option_map_or Found (link_named name names) Unknown }

-- operation 1: keep a link under a name that isn't taken
abbrev pub registers_new : List NamedLink → List ℕ → PlainLink → Option PlainLink → Asked
registers_new names name l None = record { names = names ++ record { name = name; link = l } ∷ []; answer = Registered }
registers_new names name l (Some taken) = record { names = names; answer = Taken }

-- a reply link serves once, and isn't kept
abbrev pub registers_name : List NamedLink → List ℕ → PlainLink → Asked
registers_name names name l =
    if is_general l.kind then registers_new names name l (link_named name names) else record { names = names; answer = BadLink }

abbrev pub board_bad_request : List NamedLink → Asked
board_bad_request names = record { names = names; answer = BadRequest }

-- a request to register has just the link for the answer and the one to keep, one to look up the first alone
abbrev pub asks_to_register : List NamedLink → List ℕ → List PlainLink → Asked
asks_to_register names name (l ∷ []) = if is_name name then registers_name names name l else board_bad_request names
asks_to_register names name links = board_bad_request names

abbrev pub asks_to_look_up : List NamedLink → List ℕ → List PlainLink → Asked
asks_to_look_up names name [] = if is_name name then looks_up names name else board_bad_request names
asks_to_look_up names name (l ∷ ls) = board_bad_request names

-- the request of a body, with the links behind the one for the answer
abbrev pub asks : List NamedLink → List ℕ → List PlainLink → Asked
asks names [] others = board_bad_request names
asks names (operation ∷ name) others =
    if operation == 1 then asks_to_register names name others
    else if operation == 2 then asks_to_look_up names name others
    else board_bad_request names

-- the message that goes over a link of a server's
abbrev pub goes_over : Pid → ℕ → PlainLink → List ℕ → List PlainLink → PlainMessage
goes_over server n l body links =
    record { id = id_of server n; to = l.to; sender = server; what = what.User l.code l.channel body links }

-- the switchboard after a message, and what it sends
pub record BoardTook : Type 0 where
  pub switchboard : Switchboard
  pub answer : Option PlainMessage

abbrev pub board_answers : Switchboard → PlainLink → Asked → BoardTook
board_answers b l a =
    record {
      switchboard = record { names = a.names; sent = b.sent + 1 };
      answer = Some (goes_over switchboard b.sent l ((answer_row a.answer).0 ∷ []) (answer_row a.answer).1);
    }

-- a request without links has no effect and no answer
abbrev pub takes_request : Switchboard → List ℕ → List PlainLink → BoardTook
takes_request b body [] = record { switchboard = b; answer = None }
takes_request b body (l ∷ others) = board_answers b l (asks b.names body others)

-- only user messages are for the switchboard
abbrev pub board_takes : Switchboard → PlainMessage → PlainWhat → Option BoardTook
board_takes b m (what.User code channel body links) = Some (takes_request b body links)
board_takes b m w = None
