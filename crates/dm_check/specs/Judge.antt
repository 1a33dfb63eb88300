-- Whether a text is what a system prints, line by line: the first line at which it isn't, and why.
use Rattle.std.specs.Prelude.{ℕ, ◌+◌, Bool, true, false, ◌==◌, not, ◌&&◌, nat_lt, nat_le, if◌then◌else◌, List, [], ◌∷◌, ◌++◌, length, codes}
use Rattle.std.specs.Str.{bytes_eq}
use Rattle.std.specs.declared.option.Option.{Option}
use Rattle.std.specs.declared.option.Option.TheVariants.{None, Some}
use Rattle.dm_link.specs.declared.Pid.{Pid}
use Rattle.dm_onekernel.specs.declared.label.Label.{Label}
use Rattle.dm_onekernel.specs.declared.label.Label.TheVariants as label
use Rattle.dm_schedule.specs.declared.Step.{Step}
use Rattle.dm_schedule.specs.declared.Step.TheVariants as step
use Rattle.dm_line.specs.declared.line.Line.{Line}
use Rattle.dm_line.specs.declared.line.Line.TheVariants as line
use Rattle.dm_line.specs.declared.end_line.EndLine.{EndLine}
use Rattle.dm_text.specs.Reading.{pieces}
use Rattle.dm_text.specs.Text.{text, end_text}
use Rattle.dm_shape.specs.Heads.{head_step}
use Rattle.dm_shape.specs.Shapes.{has_shape}
use Rattle.dm_check.specs.declared.fault.TraceFault.{TraceFault}
use Rattle.dm_check.specs.declared.fault.TraceFault.TheVariants.{NotALine, NotDue, NotAStep, NotTheEnd}
use Rattle.dm_check.specs.Classes.{tells_call, tells_reception, tells_made, told_ran}

-- a system, by what it prints: how many machines it has, and how many instructions a turn may run; behind the groups of these
-- directives, the group of one more, if it has one, and the lines at the end
pub record Course : Type 0 where
  pub machines : ℕ
  pub quantum : ℕ
  pub group : List Step → Step → Option (List Line)
  pub ends : List Step → List EndLine

-- what a trace comes to: so many whole groups; these, and the lines at the end behind them; or its first bad line, counted
-- from 1, and what is wrong with it
pub data Verdict : Type 0 where
  Open : (groups : ℕ) → Verdict
  Ended : (groups : ℕ) → Verdict
  Refused : (line : ℕ) → (fault : TraceFault) → Verdict

-- what is due where a line begins
pub data Due : Type 0 where
  -- the head of a group, or the lines at the end: the groups of these directives are whole
  Head : (done : List Step) → Due
  -- this line of a group and these; then the groups of these directives are whole
  InGroup : (due : Line) → (others : List Line) → (done : List Step) → Due
  -- nothing: the process is said to have run fewer instructions than it runs, which is a step, but no line can follow
  Nothing : (pid : Pid) → Due
  -- these of the lines at the end, behind so many groups
  End : (due : List EndLine) → (groups : ℕ) → Due

-- a schedule for so many machines can hold the directive, but for the number of its packet
abbrev pub can_hold : ℕ → Step → Bool
can_hold machines (step.Turn m) = nat_lt m machines
can_hold machines (step.Tick m) = nat_lt m machines
can_hold machines (step.Deliver a b k) = nat_lt a machines && nat_lt b machines && not (a == b)
can_hold machines (step.Migrate p m) = nat_lt p.home machines && nat_lt m machines
can_hold machines (step.CallOff p m) = nat_lt p.home machines && nat_lt m machines

-- what becomes of a line: another is due behind it, or it is refused
pub data Judgement : Type 0 where
  Stands : (due : Due) → Judgement
  Falls : (fault : TraceFault) → Judgement

-- a text without line feed is that of a line
abbrev pub is_line_text : List ℕ → List ℕ → Bool
is_line_text bytes printed = bytes_eq (bytes ++ codes "\n") printed

-- what is due behind lines of a group
abbrev pub behind_line : List Line → List Step → Due
behind_line [] es = Head es
behind_line (l ∷ ls) es = InGroup l ls es

abbrev pub falls_as_step : Bool → Judgement
falls_as_step true = Falls NotAStep
falls_as_step false = Falls NotDue

-- a process is said to have run otherwise: fewer instructions are a step, and so would be more, up to the quantum, were they plain
abbrev pub told_count : ℕ → Pid → ℕ → Option ℕ → Judgement
told_count quantum p k None = Falls NotDue
told_count quantum p k (Some n) = if nat_lt n k then Stands (Nothing p) else falls_as_step (nat_lt k n && nat_le n quantum)

-- the words of another line than the label that is due
abbrev pub told_label : ℕ → Label → List (List ℕ) → Judgement
told_label quantum (label.Ran p k) ws = told_count quantum p k (told_ran p ws)
told_label quantum (label.Call p n c) ws = falls_as_step (tells_call p ws)
told_label quantum (label.Send p i) ws = falls_as_step (tells_call p ws)
told_label quantum (label.Wait p) ws = falls_as_step (tells_call p ws)
told_label quantum (label.Out p w) ws = falls_as_step (tells_call p ws)
told_label quantum (label.End p y) ws = falls_as_step (tells_call p ws)
told_label quantum (label.Receive p i) ws = falls_as_step (tells_reception p i ws)
told_label quantum (label.Refuse p i c) ws = falls_as_step (tells_reception p i ws)
told_label quantum (label.Dropped i) ws = Falls NotDue
told_label quantum (label.Served i) ws = Falls NotDue
told_label quantum (label.Gone i) ws = Falls NotDue
told_label quantum (label.Took i) ws = Falls NotDue
told_label quantum (label.Created i p) ws = falls_as_step (tells_made i ws)
told_label quantum (label.NoSpace i s b) ws = Falls NotDue
told_label quantum (label.Asked i) ws = Falls NotDue
told_label quantum (label.Answered i o) ws = Falls NotDue

-- the words of another line than the one that is due
abbrev pub told : ℕ → Line → List (List ℕ) → Judgement
told quantum (line.Label l) ws = told_label quantum l ws
told quantum (line.Head s) ws = Falls NotDue
told quantum (line.Idle m) ws = Falls NotDue
told quantum (line.Put a b i k q) ws = Falls NotDue
told quantum (line.Packet a b k l) ws = Falls NotDue
told quantum (line.Taken a b n) ws = Falls NotDue
told quantum (line.Old a b n) ws = Falls NotDue
told quantum (line.Early a b n) ws = Falls NotDue
told quantum (line.Acked a b n) ws = Falls NotDue
told quantum line.Nothing ws = Falls NotDue
told quantum (line.Resent m n) ws = Falls NotDue
told quantum (line.Queued i) ws = Falls NotDue
told quantum (line.Held i) ws = Falls NotDue
told quantum (line.Forwarded i m) ws = Falls NotDue
told quantum (line.Updated i n) ws = Falls NotDue
told quantum (line.Buried i n) ws = Falls NotDue
told quantum (line.Migration s p) ws = Falls NotDue
told quantum (line.SentOn p n) ws = Falls NotDue
told quantum (line.Called p n) ws = Falls NotDue
told quantum (line.Lacks p s b) ws = Falls NotDue
told quantum (line.Stays p) ws = Falls NotDue
told quantum (line.Here i) ws = Falls NotDue
told quantum (line.NoMove i) ws = Falls NotDue
told quantum (line.Stale i) ws = Falls NotDue
told quantum (line.Proto i) ws = Falls NotDue
told quantum (line.NoChild p) ws = Falls NotDue
told quantum (line.NoCall p) ws = Falls NotDue
told quantum line.Away ws = Falls NotDue

-- a line where this one is due
abbrev pub at_line : ℕ → Line → List Line → List Step → List ℕ → Judgement
at_line quantum l ls es bytes = if is_line_text bytes (text l) then Stands (behind_line ls es) else told quantum l (pieces 32 bytes)

-- a line where these of the lines at the end are due
abbrev pub at_end : List EndLine → ℕ → List ℕ → Judgement
at_end [] n bytes = Falls NotTheEnd
at_end (e ∷ es) n bytes = if is_line_text bytes (end_text e) then Stands (End es n) else Falls NotTheEnd

-- the first line of a group, if there is one
abbrev pub at_first_line : ℕ → List Line → List Step → List ℕ → Judgement
at_first_line quantum [] es bytes = Falls NotDue
at_first_line quantum (l ∷ ls) es bytes = at_line quantum l ls es bytes

abbrev pub begins_group : ℕ → Option (List Line) → List Step → List ℕ → Judgement
begins_group quantum None es bytes = Falls NotDue
begins_group quantum (Some ls) es bytes = at_first_line quantum ls es bytes

-- a line where a head is due, or the lines at the end
abbrev pub at_head : Course → List Step → List ℕ → Option Step → Judgement
at_head c es bytes (Some e) = if can_hold c.machines e then begins_group c.quantum (c.group es e) (es ++ e ∷ []) bytes else Falls NotDue
at_head c es bytes None = if bytes_eq bytes (codes "final") then at_end (c.ends es) (length es) bytes else Falls NotDue

-- what becomes of a line of the format
abbrev pub taken : Course → Due → List ℕ → Judgement
taken c (Head es) bytes = at_head c es bytes (head_step bytes)
taken c (InGroup l ls es) bytes = at_line c.quantum l ls es bytes
taken c (Nothing p) bytes = falls_as_step (tells_call p (pieces 32 bytes))
taken c (End es n) bytes = at_end es n bytes

-- the text ends, at the line behind its last
abbrev pub text_ended : Due → ℕ → Verdict
text_ended (Head es) number = Open (length es)
text_ended (InGroup l ls es) number = Refused number NotDue
text_ended (Nothing p) number = Refused number NotDue
text_ended (End [] n) number = Ended n
text_ended (End (e ∷ es) n) number = Refused number NotTheEnd

abbrev pub if_stands : ℕ → Judgement → (Due → Verdict) → Verdict
if_stands number (Stands due) next = next due
if_stands number (Falls fault) next = Refused number fault

-- from a line of this number on: these bytes up to the next line feed, and then these pieces; without a line feed they are no line
abbrev pub judged : Course → Due → ℕ → List ℕ → List (List ℕ) → Verdict
judged c due number bytes [] = if length bytes == 0 then text_ended due number else Refused number NotALine
judged c due number bytes (next ∷ others) =
    if has_shape bytes then if_stands number (taken c due bytes) (λ d. judged c d (number + 1) next others) else Refused number NotALine

abbrev pub judged_from : Course → Due → ℕ → List (List ℕ) → Verdict
judged_from c due number [] = text_ended due number
judged_from c due number (bytes ∷ others) = judged c due number bytes others

-- what the whole text comes to, by what this system prints
unfoldable pub verdict_by : Course → List ℕ → Verdict
verdict_by c bytes = judged_from c (Head []) 1 (pieces 10 bytes)
