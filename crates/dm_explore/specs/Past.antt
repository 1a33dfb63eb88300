-- What directives have done, one by one; the last one stands first.
use Rattle.std.specs.Prelude.{ℕ, zero, suc, ◌+◌, Bool, true, false, ◌==◌, ◌&&◌, ◌||◌, if◌then◌else◌, List, [], ◌∷◌, ◌++◌, filter_map, map}
use Rattle.std.specs.List.{list_any}
use Rattle.std.specs.declared.option.Option.{Option}
use Rattle.std.specs.declared.option.Option.TheVariants.{None, Some}
use Rattle.dm_link.specs.declared.Pid.{Pid}
use Rattle.dm_link.specs.Names.{pid_eq}
use Rattle.dm_schedule.specs.declared.Step.{Step}
use Rattle.dm_schedule.specs.declared.Step.TheVariants as step
use Rattle.dm_line.specs.declared.line.Line.{Line}
use Rattle.dm_line.specs.declared.line.Line.TheVariants as line
use Rattle.dm_line.specs.declared.line.Load.{Load}
use Rattle.dm_line.specs.declared.line.Load.TheVariants as load
use Rattle.dm_explore.specs.declared.past.Put.{Put}

-- a directive that was done: the machine that acted, whether it is a request to move that found the manager on its way, and the
-- lines of its group
pub record Did : Type 0 where
  pub step : Step
  pub machine : ℕ
  pub away : Bool
  pub lines : List Line

abbrev pub acknowledges : Load → Bool
acknowledges (load.Data n) = false
acknowledges (load.Ack n) = true

abbrev pub put_in : Line → Option Put
put_in (line.Packet a c k l) = Some (record { from = a; to = c; k = k; acks = acknowledges l })
put_in (line.Head s) = None
put_in (line.Idle m) = None
put_in (line.Label l) = None
put_in (line.Put a b id kind q) = None
put_in (line.Taken a b n) = None
put_in (line.Old a b n) = None
put_in (line.Early a b n) = None
put_in (line.Acked a b n) = None
put_in line.Nothing = None
put_in (line.Resent m n) = None
put_in (line.Queued id) = None
put_in (line.Held id) = None
put_in (line.Forwarded id m) = None
put_in (line.Updated id n) = None
put_in (line.Buried id n) = None
put_in (line.Migration s p) = None
put_in (line.SentOn p n) = None
put_in (line.Called p n) = None
put_in (line.Lacks p s b) = None
put_in (line.Stays p) = None
put_in (line.Here id) = None
put_in (line.NoMove id) = None
put_in (line.Stale id) = None
put_in (line.Proto id) = None
put_in (line.NoChild p) = None
put_in (line.NoCall p) = None
put_in line.Away = None

-- the packets that these lines say, in order
abbrev pub puts_in : List Line → List Put
puts_in ls = filter_map put_in ls

-- the packets that all these directives put, in order
abbrev pub sent : List Did → List Put
sent [] = []
sent (d ∷ ds) = sent ds ++ puts_in d.lines

-- it delivers packet k from machine a to machine c
abbrev pub delivers : ℕ → ℕ → ℕ → Step → Bool
delivers a c k (step.Deliver x y n) = (a == x) && (c == y) && (k == n)
delivers a c k (step.Turn m) = false
delivers a c k (step.Tick m) = false
delivers a c k (step.Migrate p m) = false
delivers a c k (step.CallOff p m) = false

abbrev pub was_delivered : List Did → ℕ → ℕ → ℕ → Bool
was_delivered ds a c k = list_any (λ (d : Did). delivers a c k d.step) ds

-- it delivers a packet that some of these have delivered
abbrev pub comes_again : List Did → Step → Bool
comes_again ds (step.Deliver a c k) = was_delivered ds a c k
comes_again ds (step.Turn m) = false
comes_again ds (step.Tick m) = false
comes_again ds (step.Migrate p m) = false
comes_again ds (step.CallOff p m) = false

abbrev pub one_if : Bool → ℕ
one_if true = 1
one_if false = 0

-- how many packets were delivered again
abbrev pub repeats : List Did → ℕ
repeats [] = 0
repeats (d ∷ ds) = repeats ds + one_if (comes_again ds d.step)

abbrev pub is_tick : Step → Bool
is_tick (step.Tick m) = true
is_tick (step.Turn m) = false
is_tick (step.Deliver a c k) = false
is_tick (step.Migrate p m) = false
is_tick (step.CallOff p m) = false

-- how many of these pass a test
abbrev pub count_of : {X : Type 0} → (X → Bool) → List X → ℕ
count_of test [] = 0
count_of test (x ∷ xs) = count_of test xs + one_if (test x)

abbrev pub ticks : List Did → ℕ
ticks ds = count_of (λ (d : Did). is_tick d.step) ds

-- it is the request to move this process to this machine
abbrev pub is_move : Pid → ℕ → Step → Bool
is_move p m (step.Migrate q n) = pid_eq p q && (m == n)
is_move p m (step.CallOff q n) = false
is_move p m (step.Turn n) = false
is_move p m (step.Tick n) = false
is_move p m (step.Deliver a c k) = false

-- it calls off this process at this machine
abbrev pub is_calling_off : Pid → ℕ → Step → Bool
is_calling_off p m (step.CallOff q n) = pid_eq p q && (m == n)
is_calling_off p m (step.Migrate q n) = false
is_calling_off p m (step.Turn n) = false
is_calling_off p m (step.Tick n) = false
is_calling_off p m (step.Deliver a c k) = false

-- two directives are the same request to move, or the same calling off
abbrev pub is_same : Step → Step → Bool
is_same (step.Migrate p m) e = is_move p m e
is_same (step.CallOff p m) e = is_calling_off p m e
is_same (step.Turn m) e = false
is_same (step.Tick m) e = false
is_same (step.Deliver a c k) e = false

-- how often a request was made
abbrev pub times : Step → List Did → ℕ
times e ds = count_of (λ (d : Did). is_same d.step e) ds

-- the directives, the first one first
abbrev pub steps_of : List Did → List Step
steps_of [] = []
steps_of (d ∷ ds) = steps_of ds ++ d.step ∷ []

-- the group of each, the first one first
abbrev pub groups_of : List Did → List (List Line)
groups_of [] = []
groups_of (d ∷ ds) = groups_of ds ++ d.lines ∷ []

-- the lines of the last group; none where nothing was done
abbrev pub last_lines : List Did → List Line
last_lines [] = []
last_lines (d ∷ ds) = d.lines
