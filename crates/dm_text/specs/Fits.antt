-- Lines whose numbers are within their types, as those of every line of the program are.
use Rattle.std.specs.Prelude.{◌≡◌, ℕ, ◌^◌, ◌<◌, ⊤, false}
use Rattle.dm_message.specs.declared.MsgId.{MsgId}
use Rattle.dm_line.specs.declared.end_line.EndLine.{EndLine}
use Rattle.dm_line.specs.declared.end_line.EndLine.TheVariants as end
use Rattle.dm_line.specs.declared.line.Line.{Line}
use Rattle.dm_text.specs.Words.{AllFit, message_word}
use Rattle.dm_text.specs.Text.{line_row}
use Rattle.dm_text.specs.Ends.{end_row}

-- each word of a line can be read back
abbrev pub LineFits : Line → Type 0
LineFits l = AllFit (line_row l)

abbrev pub EndFits : EndLine → Type 0
EndFits e = AllFit (end_row e)

-- the numbers of a message's name are within their types, and so is a byte, and a word
abbrev pub IdFits : MsgId → Type 0
IdFits i = (message_word i).Fits

abbrev pub IsByte : ℕ → Type 0
IsByte b = b < 2 ^ 8

abbrev pub IsWord : ℕ → Type 0
IsWord n = n < 2 ^ 32

-- a printed link is none to a kernel, whose mark the text leaves out
abbrev pub HidesNothing : EndLine → Type 0
HidesNothing end.Final = ⊤
HidesNothing (end.Ended p y) = ⊤
HidesNothing (end.Process p m s d stopped sent) = ⊤
HidesNothing (end.Registers p r pc) = ⊤
HidesNothing (end.Memory p k bytes) = ⊤
HidesNothing (end.Link p slot l) = l.to_kernel ≡ false
HidesNothing (end.Server p sent) = ⊤
HidesNothing (end.Place p m s) = ⊤
HidesNothing (end.Name name l) = l.to_kernel ≡ false
HidesNothing (end.Child n p m) = ⊤
HidesNothing (end.Pending i) = ⊤
HidesNothing (end.Queue p ids) = ⊤
HidesNothing (end.Holding m p ids) = ⊤
HidesNothing (end.Inbox m ids) = ⊤
HidesNothing (end.Stream a b ids) = ⊤
HidesNothing (end.Groups g) = ⊤
