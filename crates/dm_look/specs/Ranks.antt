-- How messages are ordered by their names.
use Rattle.dm_message.specs.declared.MsgId.{MsgId}
use Rattle.dm_look.specs.declared.contents.Rank.{Rank}

abbrev pub rank_of : MsgId → Rank
rank_of i = record { from = i.from; n = i.n; answer = i.answer }
