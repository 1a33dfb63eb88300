-- Whose senders are told where a message was sent on to.
use Rattle.std.specs.Prelude.{Bool, true, false}
use Rattle.dm_message.specs.declared.kind.MessageKind.{MessageKind}
use Rattle.dm_message.specs.Sorts.{Sort, sort_of}
use Rattle.dm_message.specs.Sorts as sort

-- those whose senders hold a link or an address that they may use again; answers and what kernels tell each other aren't
abbrev pub tells_back : Sort → Bool
tells_back sort.Letter = true
tells_back sort.Holds = true
tells_back sort.Kills = true
tells_back sort.PieceAsked = true
tells_back sort.MoveAsked = true
tells_back sort.Request = true
tells_back s = false

abbrev pub is_told_back : MessageKind → Bool
is_told_back k = tells_back (sort_of k)
