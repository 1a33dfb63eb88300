-- Each directive to move a process or a server comes to one end, where the manager isn't on its way.
use Rattle.std.specs.Prelude.{◌≡◌, ℕ, ◌+◌, ◌≤◌, Bool, true, false, not, ◌&&◌, if◌then◌else◌, List, [], ◌∷◌}
use Rattle.std.specs.declared.option.Option.{Option}
use Rattle.std.specs.declared.option.Option.TheVariants.{None, Some}
use Rattle.dm_link.specs.declared.Pid.{Pid}
use Rattle.dm_link.specs.Names.{pid_eq}
use Rattle.dm_message.specs.declared.MsgId.{MsgId}
use Rattle.dm_onekernel.specs.declared.boot.Boot.{Boot}
use Rattle.dm_onekernel.specs.Boot.{IsValid}
use Rattle.dm_schedule.specs.declared.Step.{Step}
use Rattle.dm_schedule.specs.declared.Step.TheVariants as step
use Rattle.dm_line.specs.declared.line.Line.{Line}
use Rattle.dm_line.specs.declared.line.Line.TheVariants as line
use Rattle.dm_line.specs.declared.line.Stage.{Stage}
use Rattle.dm_line.specs.declared.line.Stage.TheVariants as stage
use Rattle.dm_onekernel.specs.declared.label.Label.TheVariants as label
use Rattle.dm_law_rule.specs.Acts.{Act, act_of}
use Rattle.dm_law_rule.specs.Acts as act
use Rattle.dm_law_rule.specs.Point.{Point, first_point}
use Rattle.dm_law_rule.specs.Quiet.{IsQuiet}
use Rattle.dm_law_rule.specs.View.{Told}
use Rattle.dm_law_always.specs.Order.{LeadsBy}

abbrev pub count : (Line → Bool) → List Line → ℕ
count f [] = 0
count f (l ∷ ls) = (if f l then 1 else 0) + count f ls

-- a directive to move this process
abbrev pub asks_by : Pid → Step → Bool
asks_by p (step.Migrate q m) = pid_eq p q
asks_by p (step.CallOff q m) = false
asks_by p (step.Turn m) = false
asks_by p (step.Tick m) = false
asks_by p (step.Deliver a b k) = false

abbrev pub asks : Pid → Line → Bool
asks p (line.Head d) = asks_by p d
asks p (line.Idle m) = false
asks p (line.Label l) = false
asks p (line.Put a b id k q) = false
asks p (line.Packet a b k l) = false
asks p (line.Taken a b n) = false
asks p (line.Old a b n) = false
asks p (line.Early a b n) = false
asks p (line.Acked a b n) = false
asks p line.Nothing = false
asks p (line.Resent m n) = false
asks p (line.Queued id) = false
asks p (line.Held id) = false
asks p (line.Forwarded id m) = false
asks p (line.Updated id n) = false
asks p (line.Buried id n) = false
asks p (line.Migration s q) = false
asks p (line.SentOn q n) = false
asks p (line.Called q n) = false
asks p (line.Lacks q s b) = false
asks p (line.Stays q) = false
asks p (line.Here id) = false
asks p (line.NoMove id) = false
asks p (line.Stale id) = false
asks p (line.Proto id) = false
asks p (line.NoChild q) = false
asks p (line.NoCall q) = false
asks p line.Away = false

abbrev pub is_for : Pid → Option Told → Bool
is_for p None = false
is_for p (Some t) = pid_eq p t.receiver

abbrev pub ends_stage : Pid → Pid → Stage → Bool
ends_stage p q stage.Restarted = pid_eq p q
ends_stage p q stage.Frozen = false
ends_stage p q stage.Asked = false
ends_stage p q stage.Accepted = false
ends_stage p q stage.StateTaken = false
ends_stage p q stage.MemoryTaken = false
ends_stage p q stage.Left = false

-- its end: the manager has no such child; it was there already, had ended, moved, or stays
abbrev pub ends : (MsgId → Option Told) → Pid → Line → Bool
ends told p (line.NoChild q) = pid_eq p q
ends told p (line.Here id) = is_for p (told id)
ends told p (line.NoMove id) = is_for p (told id)
ends told p (line.Migration s q) = ends_stage p q s
ends told p (line.Stays q) = pid_eq p q
ends told p (line.Head d) = false
ends told p (line.Idle m) = false
ends told p (line.Label l) = false
ends told p (line.Put a b id k q) = false
ends told p (line.Packet a b k l) = false
ends told p (line.Taken a b n) = false
ends told p (line.Old a b n) = false
ends told p (line.Early a b n) = false
ends told p (line.Acked a b n) = false
ends told p line.Nothing = false
ends told p (line.Resent m n) = false
ends told p (line.Queued id) = false
ends told p (line.Held id) = false
ends told p (line.Forwarded id m) = false
ends told p (line.Updated id n) = false
ends told p (line.Buried id n) = false
ends told p (line.SentOn q n) = false
ends told p (line.Called q n) = false
ends told p (line.Stale id) = false
ends told p (line.NoCall q) = false
ends told p (line.Lacks q s b) = false
ends told p (line.Proto id) = false
ends told p line.Away = false

-- a request to move is answered
abbrev pub is_answer_by : Act → Bool
is_answer_by (act.Steps (label.Answered id o)) = true
is_answer_by a = false

abbrev pub is_answered_next : List Line → Bool
is_answered_next [] = false
is_answered_next (l ∷ ls) = is_answer_by (act_of l)

-- how many of these lines end a move of the process that no process asked for: an end that is followed by the answer to a request is
-- the end of that one
abbrev pub own_ends : (MsgId → Option Told) → Pid → List Line → ℕ
own_ends told p [] = 0
own_ends told p (l ∷ ls) = (if ends told p l && not (is_answered_next ls) then 1 else 0) + own_ends told p ls

-- a directive that finds the manager on its way asks nobody
abbrev pub is_away_line : Line → Bool
is_away_line line.Away = true
is_away_line l = false

abbrev pub is_away_next : List Line → Bool
is_away_next [] = false
is_away_next (l ∷ ls) = is_away_line l

-- how many of these lines are directives to move the process that the manager heard
abbrev pub own_asks : Pid → List Line → ℕ
own_asks p [] = 0
own_asks p (l ∷ ls) = (if asks p l && not (is_away_next ls) then 1 else 0) + own_asks p ls

-- wherever the rule leads, there are no more ends than directives to move a process or a server that the manager heard; and as many,
-- where nothing is on its way
pub record Ends (pt : Point) (ls : List Line) (p : Pid) : Type 0 where
  pub few : own_ends pt.view.told p ls ≤ own_asks p ls
  pub all : IsQuiet pt.kernel.machines pt.view → own_ends pt.view.told p ls ≡ own_asks p ls

abbrev pub EndsAlways : Type 0
EndsAlways = (b : Boot) (es : List Step) (ls : List Line) (pt : Point) (p : Pid) → IsValid b → LeadsBy b (first_point b) es ls pt → Ends pt ls p
