-- The lines at the end of a run, as words.
use Rattle.std.specs.Prelude.{◌≡◌, ℕ, Bool, true, false, if◌then◌else◌, codes, List, [], ◌∷◌, ◌++◌, length, map}
use Rattle.std.specs.Fmt.{decimal}
use Rattle.dm_link.specs.declared.Kind.{Kind}
use Rattle.dm_link.specs.declared.Kind.TheVariants.{General, Reply}
use Rattle.dm_link.specs.declared.Link.{Link}
use Rattle.dm_process.specs.declared.process.Direction.{Direction}
use Rattle.dm_process.specs.declared.process.Direction.TheVariants.{FromArea, IntoArea}
use Rattle.dm_onekernel.specs.Codes.{why_code}
use Rattle.dm_line.specs.declared.end_line.Doing.{Doing}
use Rattle.dm_line.specs.declared.end_line.Doing.TheVariants as doing
use Rattle.dm_line.specs.declared.end_line.EndLine.{EndLine}
use Rattle.dm_line.specs.declared.end_line.EndLine.TheVariants as end
use Rattle.dm_line.specs.declared.end_line.Standing.{Standing}
use Rattle.dm_line.specs.declared.end_line.Standing.TheVariants as standing
use Rattle.dm_text.specs.Words.{LineWord, said, sized, process_word, message_word, bytes_word, only_if}

abbrev pub standing_word : Standing → List ℕ
standing_word standing.Here = codes "here"
standing_word standing.Leaving = codes "leaving"
standing_word standing.Arriving = codes "arriving"

-- a data move from the area is written 0, and one into it 1
abbrev pub direction_word : Direction → List ℕ
direction_word FromArea = codes "0"
direction_word IntoArea = codes "1"

abbrev pub doing_row : Doing → List LineWord
doing_row doing.Ready = said (codes "ready") ∷ []
doing_row (doing.Waiting mask base cap) = said (codes "waiting") ∷ sized 32 mask ∷ sized 32 base ∷ sized 32 cap ∷ []
doing_row (doing.Moving dir owner base own left) =
    said (codes "moving") ∷ said (direction_word dir) ∷ process_word owner ∷ sized 32 base ∷ sized 32 own ∷ sized 32 left ∷ []

-- whether a process is stopped
abbrev pub go_word : Bool → List ℕ
go_word stopped = if stopped then codes "stopped" else codes "go"

abbrev pub kind_word : Kind → List ℕ
kind_word General = codes "general"
kind_word Reply = codes "reply"

-- the rights to read and to write
abbrev pub rights_word : Bool → Bool → List ℕ
rights_word false false = codes "-"
rights_word true false = codes "r"
rights_word false true = codes "w"
rights_word true true = codes "rw"

-- no process, and no server, holds a link to a kernel: its mark isn't printed
abbrev pub link_row : Link → List LineWord
link_row l =
    said (kind_word l.kind) ∷ process_word l.addr.pid ∷ said (codes "at") ∷ sized 8 l.addr.at ∷ said (codes "moves") ∷ sized 32 l.addr.moves
    ∷ said (codes "code") ∷ sized 32 l.code ∷ said (codes "channel") ∷ sized 8 l.channel ∷ said (codes "area") ∷ sized 32 l.area.base
    ∷ sized 32 l.area.len ∷ only_if (l.to_kernel ≡ false) (said (rights_word l.area.read l.area.write)) ∷ []

-- the words of each line at the end of a run, a row a line; registers are sixteen
abbrev pub end_row : EndLine → List LineWord
end_row end.Final = said (codes "final") ∷ []
end_row (end.Ended p y) = said (codes "process") ∷ process_word p ∷ said (codes "ended") ∷ said (decimal (why_code y)) ∷ []
end_row (end.Process p m s d stopped sent) =
    said (codes "process") ∷ process_word p ∷ said (codes "at") ∷ sized 8 m ∷ said (standing_word s)
    ∷ (doing_row d ++ said (go_word stopped) ∷ sized 32 sent ∷ [])
end_row (end.Registers p r pc) = said (codes "registers") ∷ process_word p ∷ (map (sized 32) r ++ only_if (length r ≡ 16) (sized 32 pc) ∷ [])
end_row (end.Memory p k bytes) = said (codes "memory") ∷ process_word p ∷ sized 8 k ∷ bytes_word bytes.items ∷ []
end_row (end.Link p slot l) = said (codes "link") ∷ process_word p ∷ sized 8 slot ∷ link_row l
end_row (end.Server p sent) = said (codes "server") ∷ process_word p ∷ sized 32 sent ∷ []
end_row (end.Place p m s) = said (codes "place") ∷ process_word p ∷ said (codes "at") ∷ sized 8 m ∷ said (standing_word s) ∷ []
end_row (end.Name name l) = said (codes "name") ∷ bytes_word name.items ∷ link_row l
end_row (end.Child n p m) = said (codes "child") ∷ sized 32 n ∷ process_word p ∷ said (codes "at") ∷ sized 8 m ∷ []
end_row (end.Pending id) = said (codes "pending") ∷ message_word id ∷ []
end_row (end.Queue p ids) = said (codes "queue") ∷ process_word p ∷ map message_word ids
end_row (end.Holding m p ids) = said (codes "holding") ∷ sized 8 m ∷ process_word p ∷ map message_word ids
end_row (end.Inbox m ids) = said (codes "inbox") ∷ sized 8 m ∷ map message_word ids
end_row (end.Stream a b ids) = said (codes "stream") ∷ sized 8 a ∷ sized 8 b ∷ map message_word ids
end_row (end.Groups g) = said (codes "end") ∷ sized 128 g ∷ []
