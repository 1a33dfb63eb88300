-- What holds of the lines at the end of a run, as they are printed: none of them says nothing.
use Rattle.std.specs.Prelude.{◌≢◌, ⊤, ◌-◌, ◌<◌, ◌≤◌, length, slice_index}
use Rattle.dm_line.specs.declared.end_line.EndLine.{EndLine}
use Rattle.dm_line.specs.declared.end_line.EndLine.TheVariants as end

-- the bytes of a block, up to the last that isn't 0; a name of 1 to 16 bytes; a list that isn't empty
abbrev pub IsFull : EndLine → Type 0
IsFull end.Final = ⊤
IsFull (end.Ended p y) = ⊤
IsFull (end.Process p m s d stopped sent) = ⊤
IsFull (end.Registers p r pc) = ⊤
IsFull (end.Memory p k bytes) = (0 < length bytes.items) × (length bytes.items ≤ 256) × (slice_index bytes.items (length bytes.items - 1) ≢ 0)
IsFull (end.Link p slot l) = ⊤
IsFull (end.Server p sent) = ⊤
IsFull (end.Place p m s) = ⊤
IsFull (end.Name name l) = (0 < length name.items) × (length name.items ≤ 16)
IsFull (end.Child n p m) = ⊤
IsFull (end.Pending id) = ⊤
IsFull (end.Queue p ids) = 0 < length ids
IsFull (end.Holding m p ids) = 0 < length ids
IsFull (end.Inbox m ids) = 0 < length ids
IsFull (end.Stream a b ids) = 0 < length ids
IsFull (end.Groups g) = ⊤
