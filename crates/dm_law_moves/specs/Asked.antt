-- Moves that processes ask for: each is answered once, for a cause among the lines above; and a process follows a request while it
-- moves.
use Rattle.std.specs.Prelude.{◌≡◌, ◌⊎◌, ℕ, ◌≤◌, Bool, false, List, [], ◌∷◌, ◌++◌}
use Rattle.std.specs.declared.option.Option.{Option}
use Rattle.std.specs.declared.option.Option.TheVariants.{Some}
use Rattle.dm_link.specs.declared.Pid.{Pid}
use Rattle.dm_message.specs.Ids.{id_eq}
use Rattle.dm_message.specs.Plain as what
use Rattle.dm_message.specs.Plain.{PlainMessage}
use Rattle.dm_message.specs.declared.MsgId.{MsgId}
use Rattle.dm_message.specs.declared.Outcome.{Outcome}
use Rattle.dm_message.specs.declared.Outcome.TheVariants as ends
use Rattle.dm_message.specs.declared.kind.MessageKind.{MessageKind}
use Rattle.dm_onekernel.specs.declared.boot.Boot.{Boot}
use Rattle.dm_onekernel.specs.declared.label.Label.TheVariants as label
use Rattle.dm_onekernel.specs.Boot.{IsValid}
use Rattle.dm_onekernel.specs.Kernel.{MoveNote}
use Rattle.dm_onekernel.specs.Pieces.{answer_id}
use Rattle.dm_schedule.specs.declared.Step.{Step}
use Rattle.dm_line.specs.declared.line.Line.{Line}
use Rattle.dm_line.specs.declared.line.Line.TheVariants as line
use Rattle.dm_line.specs.declared.line.Stage.TheVariants as stage
use Rattle.dm_law_rule.specs.Acts.{Act, act_of}
use Rattle.dm_law_rule.specs.Acts as act
use Rattle.dm_law_rule.specs.Phases.{Moves, IsIn}
use Rattle.dm_law_rule.specs.Point.{Point, first_point}
use Rattle.dm_law_rule.specs.Quiet.{IsQuiet}
use Rattle.dm_law_rule.specs.View.{Told}
use Rattle.dm_law_always.specs.Order.{LeadsBy}
use Rattle.dm_law_moves.specs.Ends.{count}

-- a line says that a process is asked to move by this request, or that it is answered
abbrev pub asks_act : MsgId → Act → Bool
asks_act i (act.Steps (label.Asked id)) = id_eq i id
asks_act i a = false

abbrev pub asks_move : MsgId → Line → Bool
asks_move i l = asks_act i (act_of l)

abbrev pub answers_act : MsgId → Act → Bool
answers_act i (act.Steps (label.Answered id o)) = id_eq i id
answers_act i a = false

abbrev pub answers_move : MsgId → Line → Bool
answers_move i l = answers_act i (act_of l)

-- a request is said to be asked once at most, and is answered no more often; it is answered as often, where nothing is on its way
pub record Answered (pt : Point) (ls : List Line) (i : MsgId) : Type 0 where
  pub once : count (asks_move i) ls ≤ 1
  pub few : count (answers_move i) ls ≤ count (asks_move i) ls
  pub all : IsQuiet pt.kernel.machines pt.view → count (answers_move i) ls ≡ count (asks_move i) ls

abbrev pub AnsweredAlways : Type 0
AnsweredAlways = (b : Boot) (es : List Step) (ls : List Line) (pt : Point) (i : MsgId) → IsValid b → LeadsBy b (first_point b) es ls pt → Answered pt ls i

-- what the line before an answer says of the process that was asked: it has moved, or was there already; it stays. That it has ended
-- is no answer of its own, but `gone`
abbrev pub IsCause : MsgId → Pid → Outcome → Line → Type 0
IsCause i p ends.Done l = (l ≡ line.Migration stage.Restarted p) ⊎ (l ≡ line.Label (label.Asked i))
IsCause i p ends.Stayed l = l ≡ line.Stays p
IsCause i p ends.Ended l = ⊥

-- the answer to a request follows at once on a line that is its cause, for the process that the request was for
pub record HasCause (told : MsgId → Option Told) (earlier : List Line) (i : MsgId) (o : Outcome) : Type 0 where
  pub before : List Line
  pub cause : Line
  pub behind : earlier ≡ before ++ cause ∷ []
  pub request : Told
  pub was_put : told i ≡ Some request
  pub is : IsCause i request.receiver o cause

-- wherever the rule leads
abbrev pub AnswersHaveCauses : Type 0
AnswersHaveCauses =
    (b : Boot) (es : List Step) (ls earlier later : List Line) (pt : Point) (i : MsgId) (o : Outcome) → IsValid b → LeadsBy b (first_point b) es ls pt
    → ls ≡ earlier ++ line.Label (label.Answered i o) ∷ later → HasCause pt.view.told earlier i o

-- what the manager hears is what was said: while the answer to a request to move is in the bag, a line above says that the request is
-- answered so, or that its receiver has ended
abbrev pub IsSaidOf : MsgId → Outcome → Line → Type 0
IsSaidOf i ends.Done l = l ≡ line.Label (label.Answered i ends.Done)
IsSaidOf i ends.Stayed l = l ≡ line.Label (label.Answered i ends.Stayed)
IsSaidOf i ends.Ended l = l ≡ line.Label (label.Gone i)

abbrev pub MovedIsSaid : Type 0
MovedIsSaid =
    (b : Boot) (es : List Step) (ls : List Line) (pt : Point) (i : MsgId) (m : PlainMessage) (o : Outcome) → IsValid b → LeadsBy b (first_point b) es ls pt
    → i.answer ≡ false → pt.kernel.bag (answer_id i) ≡ Some m → m.what ≡ what.Moved o
    → (earlier : List Line) × (later : List Line) × (l : Line) × (ls ≡ earlier ++ l ∷ later) × IsSaidOf i o l

-- wherever the rule leads, a process follows a request to move only while it moves
abbrev pub FollowsWhileMoving : Type 0
FollowsWhileMoving =
    (b : Boot) (es : List Step) (ls : List Line) (pt : Point) (p : Pid) (n : MoveNote) → IsValid b → LeadsBy b (first_point b) es ls pt → pt.kernel.notes p ≡ Some n
    → (kind : MessageKind) × (source : ℕ) × (destination : ℕ) × (id : Option MsgId) × IsIn pt.view p (Moves kind source destination id)
