-- What the lines ahead tell of a line.
use Rattle.std.specs.Prelude.{ℕ, ◌==◌, ◌&&◌, Bool, false, if◌then◌else◌, List, [], ◌∷◌}
use Rattle.std.specs.declared.option.Option.{Option}
use Rattle.std.specs.declared.option.Option.TheVariants.{None, Some}
use Rattle.dm_link.specs.declared.Pid.{Pid}
use Rattle.dm_link.specs.Names.{pid_eq}
use Rattle.dm_message.specs.declared.MsgId.{MsgId}
use Rattle.dm_schedule.specs.declared.Step.{Step}
use Rattle.dm_schedule.specs.declared.Step.TheVariants as step
use Rattle.dm_line.specs.declared.line.Line.{Line}
use Rattle.dm_chart.specs.declared.role.Life.{Life}
use Rattle.dm_chart.specs.declared.role.Life.TheVariants as life
use Rattle.dm_chart.specs.declared.role.Role.{Role}
use Rattle.dm_chart.specs.declared.role.Role.TheVariants as role
use Rattle.dm_chart.specs.declared.scan.Wanted.{Wanted}
use Rattle.dm_chart.specs.declared.scan.Wanted.TheVariants as wanted
use Rattle.dm_chart.specs.declared.spot.Spot.{Spot}
use Rattle.dm_chart.specs.Roles.{role_of}
use Rattle.dm_chart.specs.Spots.{next_spot}
use Rattle.dm_chart.specs.Behind.{message_is_among}

-- message number n of a pair enters the inbox
abbrev pub is_taken : ℕ → ℕ → ℕ → Role → Bool
is_taken a b n (role.Taken c d k) = (c == a) && (d == b) && (k == n)
is_taken a b n (role.Head e) = false
is_taken a b n (role.Put x) = false
is_taken a b n (role.Packet c d j m) = false
is_taken a b n (role.Early c d k) = false
is_taken a b n (role.Again c d k) = false
is_taken a b n (role.Note l) = false
is_taken a b n role.Unseen = false

-- packet k of a pair is delivered
abbrev pub delivers : ℕ → ℕ → ℕ → Step → Bool
delivers a b k (step.Deliver c d j) = (c == a) && (d == b) && (j == k)
delivers a b k (step.Turn m) = false
delivers a b k (step.Tick m) = false
delivers a b k (step.Migrate p m) = false
delivers a b k (step.CallOff p m) = false

abbrev pub is_delivery : ℕ → ℕ → ℕ → Role → Bool
is_delivery a b k (role.Head e) = delivers a b k e
is_delivery a b k (role.Put x) = false
is_delivery a b k (role.Packet c d j n) = false
is_delivery a b k (role.Taken c d n) = false
is_delivery a b k (role.Early c d n) = false
is_delivery a b k (role.Again c d n) = false
is_delivery a b k (role.Note l) = false
is_delivery a b k role.Unseen = false

-- a process's life on a machine ends: it is frozen, it ends, or a message that kills it is served
abbrev pub ends_life : Pid → List MsgId → Life → Bool
ends_life p kills life.Same = false
ends_life p kills (life.Made q) = false
ends_life p kills (life.From q) = false
ends_life p kills (life.Ends q) = pid_eq q p
ends_life p kills (life.Leaves q) = pid_eq q p
ends_life p kills (life.Served i) = message_is_among i kills
ends_life p kills (life.Waits q) = false
ends_life p kills (life.Wakes q) = false

abbrev pub is_end : Pid → List MsgId → Role → Bool
is_end p kills (role.Note l) = ends_life p kills l
is_end p kills (role.Head e) = false
is_end p kills (role.Put x) = false
is_end p kills (role.Packet a b k n) = false
is_end p kills (role.Taken a b n) = false
is_end p kills (role.Early a b n) = false
is_end p kills (role.Again a b n) = false
is_end p kills role.Unseen = false

-- a process waits no more: it has a message, or its life on the machine ends
abbrev pub ends_wait : Pid → List MsgId → Life → Bool
ends_wait p kills life.Same = false
ends_wait p kills (life.Made q) = false
ends_wait p kills (life.From q) = false
ends_wait p kills (life.Ends q) = pid_eq q p
ends_wait p kills (life.Leaves q) = pid_eq q p
ends_wait p kills (life.Served i) = message_is_among i kills
ends_wait p kills (life.Waits q) = false
ends_wait p kills (life.Wakes q) = pid_eq q p

abbrev pub is_wait_end : Pid → List MsgId → Role → Bool
is_wait_end p kills (role.Note l) = ends_wait p kills l
is_wait_end p kills (role.Head e) = false
is_wait_end p kills (role.Put x) = false
is_wait_end p kills (role.Packet a b k n) = false
is_wait_end p kills (role.Taken a b n) = false
is_wait_end p kills (role.Early a b n) = false
is_wait_end p kills (role.Again a b n) = false
is_wait_end p kills role.Unseen = false

-- a process goes on
abbrev pub begins_life : Pid → Life → Bool
begins_life p (life.From q) = pid_eq q p
begins_life p life.Same = false
begins_life p (life.Made q) = false
begins_life p (life.Ends q) = false
begins_life p (life.Leaves q) = false
begins_life p (life.Served i) = false
begins_life p (life.Waits q) = false
begins_life p (life.Wakes q) = false

abbrev pub is_restart : Pid → Role → Bool
is_restart p (role.Note l) = begins_life p l
is_restart p (role.Head e) = false
is_restart p (role.Put x) = false
is_restart p (role.Packet a b k n) = false
is_restart p (role.Taken a b n) = false
is_restart p (role.Early a b n) = false
is_restart p (role.Again a b n) = false
is_restart p role.Unseen = false

unfoldable pub is_wanted : Wanted → Role → Bool
is_wanted (wanted.Taken a b n) r = is_taken a b n r
is_wanted (wanted.Delivery a b k) r = is_delivery a b k r
is_wanted (wanted.End p kills) r = is_end p kills.now r
is_wanted (wanted.WaitEnd p kills) r = is_wait_end p kills.now r
is_wanted (wanted.Restart p) r = is_restart p r

-- behind the first line ahead that passes a test
unfoldable pub first_ahead : (Role → Bool) → Spot → List Line → Option Spot
first_ahead test s [] = None
first_ahead test s (l ∷ ls) = if test (role_of l) then Some (next_spot s l) else first_ahead test (next_spot s l) ls
