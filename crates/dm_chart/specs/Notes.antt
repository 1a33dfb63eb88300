-- The notes: what is written of a machine, a row a line; of links that follow, by the lines before as well.
use Rattle.std.specs.Prelude.{ℕ, ◌==◌, if◌then◌else◌, codes, List, [], ◌∷◌}
use Rattle.std.specs.Fmt.{decimal}
use Rattle.std.specs.declared.option.Option.{Option}
use Rattle.std.specs.declared.option.Option.TheVariants.{None, Some}
use Rattle.dm_link.specs.declared.Pid.{Pid}
use Rattle.dm_message.specs.Outcomes.{code_of_outcome}
use Rattle.dm_onekernel.specs.Codes.{reply_code, why_code}
use Rattle.dm_onekernel.specs.declared.label.Label.{Label}
use Rattle.dm_onekernel.specs.declared.label.Label.TheVariants as label
use Rattle.dm_line.specs.declared.line.Line.{Line}
use Rattle.dm_line.specs.declared.line.Line.TheVariants as line
use Rattle.dm_line.specs.declared.line.Stage.{Stage}
use Rattle.dm_line.specs.declared.line.Stage.TheVariants as stage
use Rattle.dm_message.specs.declared.MsgId.{MsgId}
use Rattle.dm_text.specs.Words.{pid_word, id_word}
use Rattle.dm_chart.specs.declared.scan.News.{News}
use Rattle.dm_chart.specs.Behind.{news_of}

-- a note: its class, and its words
pub record Note : Type 0 where
  pub class : List ℕ
  pub words : List (List ℕ)

abbrev pub note : List ℕ → List (List ℕ) → Note
note c ws = record { class = c; words = ws }

abbrev pub no_note : Note
no_note = note (codes "c0") []

-- c0 what processes and servers do, c1 what is put out and ends, c2 what is held, goes on or is dropped, c3 steps of a
-- migration, c4 packets; a call that was done has none
abbrev pub call_note : Pid → ℕ → ℕ → Note
call_note p n code = if code == 0 then no_note else note (codes "c0") (pid_word p ∷ codes " call " ∷ decimal n ∷ codes " refused: " ∷ decimal code ∷ [])

-- a tick that has nothing to send again has none
abbrev pub resent_note : ℕ → Note
resent_note n = if n == 0 then no_note else note (codes "c4") (codes "sends again: " ∷ decimal n ∷ [])

abbrev pub label_note : Label → Note
label_note (label.Ran p k) = no_note
label_note (label.Call p n c) = call_note p n (reply_code c)
label_note (label.Send p i) = no_note
label_note (label.Wait p) = note (codes "c0") (pid_word p ∷ codes " waits for a message" ∷ [])
label_note (label.Out p w) = note (codes "c1") (pid_word p ∷ codes " out " ∷ decimal w ∷ [])
label_note (label.End p y) = note (codes "c1") (pid_word p ∷ codes " ends, why " ∷ decimal (why_code y) ∷ [])
label_note (label.Receive p i) = note (codes "c0") (pid_word p ∷ codes " receives " ∷ id_word i ∷ [])
label_note (label.Refuse p i c) = note (codes "c0") (pid_word p ∷ codes " is refused " ∷ id_word i ∷ codes ": " ∷ decimal (reply_code c) ∷ [])
label_note (label.Dropped i) = note (codes "c2") (codes "dropped " ∷ id_word i ∷ [])
label_note (label.Served i) = note (codes "c0") (codes "served " ∷ id_word i ∷ [])
label_note (label.Gone i) = note (codes "c0") (codes "gone, for " ∷ id_word i ∷ [])
label_note (label.Took i) = no_note
label_note (label.Created i p) = note (codes "c1") (codes "makes " ∷ pid_word p ∷ [])
label_note (label.NoSpace i s b) = note (codes "c1") (codes "no room, for " ∷ id_word i ∷ codes ": slots " ∷ decimal s ∷ codes ", blocks " ∷ decimal b ∷ [])
label_note (label.Asked i) = note (codes "c3") (codes "is asked to move, " ∷ id_word i ∷ [])
label_note (label.Answered i o) = note (codes "c3") (codes "answers " ∷ id_word i ∷ codes ": " ∷ decimal (code_of_outcome o) ∷ [])

abbrev pub stage_words : Stage → List ℕ
stage_words stage.Frozen = codes "1 is frozen: "
stage_words stage.Asked = codes "2 asks for room: "
stage_words stage.Accepted = codes "3 has room: "
stage_words stage.StateTaken = codes "4 state has come: "
stage_words stage.MemoryTaken = codes "5 memory has come: "
stage_words stage.Left = codes "7 has left: "
stage_words stage.Restarted = codes "8 goes on: "

-- whose links follow, which process, and to where; where the lines before don't say so, the message that told it
abbrev pub follow_note : MsgId → ℕ → Option News → Note
follow_note id n None = note (codes "c0") (codes "links that follow " ∷ id_word id ∷ codes ": " ∷ decimal n ∷ [])
follow_note id n (Some x) =
    note (codes "c0") (codes "links of " ∷ pid_word x.whom ∷ codes " follow " ∷ pid_word x.of ∷ codes " to machine " ∷ decimal x.at ∷ codes ": " ∷ decimal n ∷ [])

abbrev pub note_of : List Line → Line → Note
note_of before (line.Head s) = no_note
note_of before (line.Idle m) = no_note
note_of before (line.Label l) = label_note l
note_of before (line.Put a b id kind q) = no_note
note_of before (line.Packet a b k l) = no_note
note_of before (line.Taken a b n) = no_note
note_of before (line.Old a b n) = note (codes "c4") (codes "again: number " ∷ decimal n ∷ codes " from machine " ∷ decimal a ∷ [])
note_of before (line.Early a b n) = note (codes "c4") (codes "early: number " ∷ decimal n ∷ codes " from machine " ∷ decimal a ∷ [])
note_of before (line.Acked a b n) = no_note
note_of before line.Nothing = no_note
note_of before (line.Resent m n) = resent_note n
note_of before (line.Queued id) = no_note
note_of before (line.Held id) = note (codes "c2") (codes "held: " ∷ id_word id ∷ [])
note_of before (line.Forwarded id m) = note (codes "c2") (codes "forwarded to machine " ∷ decimal m ∷ codes ": " ∷ id_word id ∷ [])
note_of before (line.Updated id n) = follow_note id n (news_of id before)
note_of before (line.Buried id n) = note (codes "c2") (codes "a process is forgotten, others told: " ∷ decimal n ∷ [])
note_of before (line.Migration s p) = note (codes "c3") (stage_words s ∷ pid_word p ∷ [])
note_of before (line.SentOn p n) = note (codes "c3") (codes "6 sends on " ∷ decimal n ∷ codes ": " ∷ pid_word p ∷ [])
note_of before (line.Called p n) = note (codes "c3") (codes "called off, sends back " ∷ decimal n ∷ codes ": " ∷ pid_word p ∷ [])
note_of before (line.Lacks p s b) = note (codes "c3") (codes "no room for " ∷ pid_word p ∷ codes ": slots " ∷ decimal s ∷ codes ", blocks " ∷ decimal b ∷ [])
note_of before (line.Stays p) = note (codes "c3") (codes "stays: " ∷ pid_word p ∷ [])
note_of before (line.Here id) = note (codes "c3") (codes "is here already, " ∷ id_word id ∷ [])
note_of before (line.NoMove id) = note (codes "c3") (codes "has ended, " ∷ id_word id ∷ [])
note_of before (line.Stale id) = note (codes "c4") (codes "too late: " ∷ id_word id ∷ [])
note_of before (line.Proto id) = no_note
note_of before (line.NoChild p) = note (codes "c3") (codes "no child: " ∷ pid_word p ∷ [])
note_of before (line.NoCall p) = note (codes "c3") (codes "nothing to call off: " ∷ pid_word p ∷ [])
note_of before line.Away = note (codes "c3") (codes "the manager is away" ∷ [])
