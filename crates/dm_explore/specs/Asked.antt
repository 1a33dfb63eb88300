-- What is looked for, and within which bounds.
use Rattle.std.specs.Prelude.{ℕ, Bool, List}
use Rattle.dm_link.specs.declared.Pid.{Pid}
use Rattle.dm_schedule.specs.declared.Step.{Step}
use Rattle.dm_explore.specs.declared.bounds.Bounds.{Bounds as TheBounds}
use Rattle.dm_explore.specs.declared.bounds.Question.{Question as TheQuestion}
use Rattle.dm_explore.specs.declared.bounds.Question.TheVariants as the

pub data Question : Type 0 where
  -- a line that begins with these words
  Line : (words : List ℕ) → Question
  -- that all is at rest while one of these processes waits or moves data
  Stuck : (pids : List Pid) → Question

-- a question of the code
abbrev pub question_said : TheQuestion → Question
question_said (the.Line words) = Line words.now
question_said (the.Stuck pids) = Stuck pids.now

pub record Bounds : Type 0 where
  -- the most directives of a schedule
  pub depth : ℕ
  -- the most schedules that are tried
  pub most : ℕ
  -- requests to move, and then callings off, each to be made once at most
  pub requests : List Step
  -- the most ticks of a schedule, and the most deliveries of packets that were delivered before
  pub ticks : ℕ
  pub repeats : ℕ
  -- whether each acknowledgement may be delivered, and not only one for which a message waits
  pub acks : Bool

-- bounds of the code
abbrev pub bounds_said : TheBounds → Bounds
bounds_said q = record { depth = q.depth; most = q.most; requests = q.requests.items; ticks = q.ticks; repeats = q.repeats; acks = q.acks }
