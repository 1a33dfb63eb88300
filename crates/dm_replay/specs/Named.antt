-- Values by the names of messages, as a function of the name.
use Rattle.std.specs.declared.option.Option.{Option}
use Rattle.std.specs.BTreeMap.{get}
use Rattle.std.specs.Ordering.{bool_cmp, nat_cmp, ordering_then}
use Rattle.std.specs.declared.cmp.Ordering.{Ordering}
use Rattle.dm_link.specs.Names.{pid_cmp}
use Rattle.dm_message.specs.declared.MsgId.{MsgId}
use Rattle.dm_replay.specs.declared.by_name.ByName.{ByName}
use Rattle.dm_replay.specs.declared.by_name.Key.{Key}

-- a name in its order
abbrev pub key_of : MsgId → Key
key_of i = record { from = i.from; n = i.n; answer = i.answer }

-- names go by sender, then number, then whether they are an answer's
abbrev pub key_cmp : Key → Key → Ordering
key_cmp a b = ordering_then (pid_cmp a.from b.from) (ordering_then (nat_cmp a.n b.n) (bool_cmp a.answer b.answer))

-- the value of a name
unfoldable pub held : {V : Type 0} → ByName V → MsgId → Option V
held values i = get key_cmp values.values (key_of i)
