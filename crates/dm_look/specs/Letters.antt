-- What is in a message that waits somewhere, with the addresses of the links that it encloses.
use Rattle.std.specs.Prelude.{List, [], option_map}
use Rattle.std.specs.Ordering.{bool_cmp, nat_cmp, ordering_then}
use Rattle.std.specs.declared.cmp.Ordering.{Ordering}
use Rattle.std.specs.declared.option.Option.{Option}
use Rattle.dm_link.specs.Names.{pid_cmp}
use Rattle.dm_link.specs.declared.Link.{Link}
use Rattle.dm_link.specs.declared.Pid.{Pid}
use Rattle.dm_message.specs.declared.Message.{Message}
use Rattle.dm_message.specs.declared.MsgId.{MsgId}
use Rattle.dm_message.specs.declared.What.{What}
use Rattle.dm_message.specs.declared.What.TheVariants as what
use Rattle.dm_message.specs.Plain.{PlainWhat, plain_what}

-- names go by sender, then by number, a request before its answer
abbrev pub id_cmp : MsgId → MsgId → Ordering
id_cmp i j = ordering_then (pid_cmp i.from j.from) (ordering_then (nat_cmp i.n j.n) (bool_cmp i.answer j.answer))

-- its name, who gets it, what it says, and the links that it encloses
pub record Letter : Type 0 where
  pub id : MsgId
  pub receiver : Pid
  pub what : PlainWhat
  pub links : List Link

-- the links that a message encloses; messages of other kinds have none
abbrev pub links_in : What → List Link
links_in (what.User code channel body links) = links.items
links_in (what.Create image links) = links.items
links_in w = []

-- what is in a message of the program, if it is one that the kernel without machines has
abbrev pub letter_of : Message → Option Letter
letter_of m = option_map (λ w. record { id = m.id; receiver = m.to.pid; what = w; links = links_in m.what }) (plain_what m.what)
