-- The text of each line: its words with one space between, and a line feed.
use Rattle.std.specs.Prelude.{ℕ, codes, List, [], ◌∷◌, ◌++◌, flat_map, map}
use Rattle.std.specs.Fmt.{decimal}
use Rattle.dm_message.specs.Kinds.{word_of}
use Rattle.dm_message.specs.Outcomes.{code_of_outcome}
use Rattle.dm_onekernel.specs.Codes.{reply_code, why_code}
use Rattle.dm_onekernel.specs.declared.label.Label.TheVariants as label
use Rattle.dm_schedule.specs.declared.Step.TheVariants as step
use Rattle.dm_line.specs.declared.end_line.EndLine.{EndLine}
use Rattle.dm_line.specs.declared.line.Line.{Line}
use Rattle.dm_line.specs.declared.line.Line.TheVariants as line
use Rattle.dm_line.specs.declared.line.Load.TheVariants as load
use Rattle.dm_line.specs.declared.line.Stage.{Stage}
use Rattle.dm_line.specs.declared.line.Stage.TheVariants as stage
use Rattle.dm_text.specs.Words.{LineWord, said, sized, process_word, message_word}
use Rattle.dm_text.specs.Ends.{end_row}

-- the steps of a migration by their numbers; step 6 has a line of its own
abbrev pub stage_word : Stage → List ℕ
stage_word stage.Frozen = codes "1"
stage_word stage.Asked = codes "2"
stage_word stage.Accepted = codes "3"
stage_word stage.StateTaken = codes "4"
stage_word stage.MemoryTaken = codes "5"
stage_word stage.Left = codes "7"
stage_word stage.Restarted = codes "8"

-- the words of a line, a row a line: first what it is, then what it names and counts; all lines at the head of a group, and all
-- steps of the kernel without machines, are among them
abbrev pub line_row : Line → List LineWord
line_row (line.Head (step.Turn m)) = said (codes "turn") ∷ sized 8 m ∷ []
line_row (line.Head (step.Tick m)) = said (codes "tick") ∷ sized 8 m ∷ []
line_row (line.Head (step.Deliver a b k)) = said (codes "deliver") ∷ sized 8 a ∷ sized 8 b ∷ sized 64 k ∷ []
line_row (line.Head (step.Migrate p m)) = said (codes "migrate") ∷ process_word p ∷ sized 8 m ∷ []
line_row (line.Head (step.CallOff p m)) = said (codes "calloff") ∷ process_word p ∷ sized 8 m ∷ []
line_row (line.Idle m) = said (codes "idle") ∷ sized 8 m ∷ []
line_row (line.Label (label.Ran p k)) = said (codes "ran") ∷ process_word p ∷ sized 32 k ∷ []
line_row (line.Label (label.Call p n c)) = said (codes "call") ∷ process_word p ∷ sized 8 n ∷ said (decimal (reply_code c)) ∷ []
line_row (line.Label (label.Send p id)) = said (codes "send") ∷ process_word p ∷ message_word id ∷ []
line_row (line.Label (label.Wait p)) = said (codes "wait") ∷ process_word p ∷ []
line_row (line.Label (label.Out p w)) = said (codes "out") ∷ process_word p ∷ sized 32 w ∷ []
line_row (line.Label (label.End p y)) = said (codes "end") ∷ process_word p ∷ said (decimal (why_code y)) ∷ []
line_row (line.Label (label.Receive p id)) = said (codes "receive") ∷ process_word p ∷ message_word id ∷ []
line_row (line.Label (label.Refuse p id c)) = said (codes "refuse") ∷ process_word p ∷ message_word id ∷ said (decimal (reply_code c)) ∷ []
line_row (line.Label (label.Dropped id)) = said (codes "dropped") ∷ message_word id ∷ []
line_row (line.Label (label.Served id)) = said (codes "served") ∷ message_word id ∷ []
line_row (line.Label (label.Gone id)) = said (codes "gone") ∷ message_word id ∷ []
line_row (line.Label (label.Took id)) = said (codes "took") ∷ message_word id ∷ []
line_row (line.Label (label.Created id p)) = said (codes "created") ∷ message_word id ∷ process_word p ∷ []
line_row (line.Label (label.NoSpace id s b)) = said (codes "nospace") ∷ message_word id ∷ sized 8 s ∷ sized 16 b ∷ []
line_row (line.Label (label.Asked id)) = said (codes "asked") ∷ message_word id ∷ []
line_row (line.Label (label.Answered id o)) = said (codes "answered") ∷ message_word id ∷ said (decimal (code_of_outcome o)) ∷ []
line_row (line.Put a b id kind q) = said (codes "put") ∷ sized 8 a ∷ sized 8 b ∷ message_word id ∷ said (word_of kind) ∷ process_word q ∷ []
line_row (line.Packet a b k (load.Data n)) = said (codes "packet") ∷ sized 8 a ∷ sized 8 b ∷ sized 64 k ∷ said (codes "data") ∷ sized 32 n ∷ []
line_row (line.Packet a b k (load.Ack n)) = said (codes "packet") ∷ sized 8 a ∷ sized 8 b ∷ sized 64 k ∷ said (codes "ack") ∷ sized 32 n ∷ []
line_row (line.Taken a b n) = said (codes "taken") ∷ sized 8 a ∷ sized 8 b ∷ sized 32 n ∷ []
line_row (line.Old a b n) = said (codes "old") ∷ sized 8 a ∷ sized 8 b ∷ sized 32 n ∷ []
line_row (line.Early a b n) = said (codes "early") ∷ sized 8 a ∷ sized 8 b ∷ sized 32 n ∷ []
line_row (line.Acked a b n) = said (codes "acked") ∷ sized 8 a ∷ sized 8 b ∷ sized 32 n ∷ []
line_row line.Nothing = said (codes "none") ∷ []
line_row (line.Resent m n) = said (codes "resent") ∷ sized 8 m ∷ sized 32 n ∷ []
line_row (line.Queued id) = said (codes "queued") ∷ message_word id ∷ []
line_row (line.Held id) = said (codes "held") ∷ message_word id ∷ []
line_row (line.Forwarded id m) = said (codes "forwarded") ∷ message_word id ∷ sized 8 m ∷ []
line_row (line.Updated id n) = said (codes "updated") ∷ message_word id ∷ sized 32 n ∷ []
line_row (line.Buried id n) = said (codes "buried") ∷ message_word id ∷ sized 32 n ∷ []
line_row (line.Migration s p) = said (codes "step") ∷ said (stage_word s) ∷ process_word p ∷ []
line_row (line.SentOn p n) = said (codes "step") ∷ said (codes "6") ∷ process_word p ∷ sized 32 n ∷ []
line_row (line.Called p n) = said (codes "called") ∷ process_word p ∷ sized 32 n ∷ []
line_row (line.Lacks p s b) = said (codes "lacks") ∷ process_word p ∷ sized 8 s ∷ sized 16 b ∷ []
line_row (line.Stays p) = said (codes "stays") ∷ process_word p ∷ []
line_row (line.Here id) = said (codes "here") ∷ message_word id ∷ []
line_row (line.NoMove id) = said (codes "nomove") ∷ message_word id ∷ []
line_row (line.Stale id) = said (codes "stale") ∷ message_word id ∷ []
line_row (line.Proto id) = said (codes "proto") ∷ message_word id ∷ []
line_row (line.NoChild p) = said (codes "nochild") ∷ process_word p ∷ []
line_row (line.NoCall p) = said (codes "nocall") ∷ process_word p ∷ []
line_row line.Away = said (codes "away") ∷ []

-- words, each after a space
abbrev pub spaced : List (List ℕ) → List ℕ
spaced words = flat_map (λ w. codes " " ++ w) words

-- words with one space between, and a line feed
abbrev pub spelled_line : List (List ℕ) → List ℕ
spelled_line [] = codes "\n"
spelled_line (w ∷ ws) = w ++ spaced ws ++ codes "\n"

-- a line as it is printed
abbrev pub text : Line → List ℕ
text l = spelled_line (map (λ w. w.spelling) (line_row l))

-- the text of lines, one after another
unfoldable pub text_of_lines : List Line → List ℕ
text_of_lines lines = flat_map text lines

-- a line at the end of a run, and the text of several
abbrev pub end_text : EndLine → List ℕ
end_text e = spelled_line (map (λ w. w.spelling) (end_row e))

unfoldable pub text_of_ends : List EndLine → List ℕ
text_of_ends ends = flat_map end_text ends
