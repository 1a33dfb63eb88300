-- The directives of a drill of somebody's own system, whose processes the boot file names.
use Rattle.std.specs.Prelude.{ℕ, ◌==◌, nat_lt, if◌then◌else◌, List, length, slice_get, option_map}
use Rattle.std.specs.declared.option.Option.{Option}
use Rattle.std.specs.declared.option.Option.TheVariants.{None, Some}
use Rattle.dm_link.specs.declared.Pid.{Pid}
use Rattle.dm_schedule.specs.declared.Step.TheVariants as step
use Rattle.dm_schedule.specs.declared.Directive.{Directive}
use Rattle.dm_schedule.specs.declared.Directive.TheVariants as directive
use Rattle.dm_onekernel.specs.declared.boot.BootProcess.{BootProcess}
use Rattle.dm_draw.specs.Draw.{drawn, stepped}
use Rattle.dm_draw.specs.Directives.{Drawn, deliver_drawn, directives_by, round_drawn, tick_drawn, turn_drawn}

-- one of these processes, by its place among them, if there are any
abbrev pub process_drawn : List BootProcess → ℕ → Option Pid
process_drawn ps x = option_map (λ (p : BootProcess). p.pid) (slice_get ps (drawn (length ps) x))

-- the state behind it: where there is none, nothing is drawn
abbrev pub behind_process : Option Pid → ℕ → ℕ
behind_process None x = x
behind_process (Some p) x = stepped x

-- a process is to move to a machine, which is drawn behind it; where there is none, a machine takes a turn
abbrev pub move_drawn : ℕ → Option Pid → ℕ → Drawn
move_drawn machines None x = turn_drawn machines x
move_drawn machines (Some p) x = record { directive = directive.One (step.Migrate p (drawn machines x)); state = stepped x }

-- its move to a machine is called off there
abbrev pub calloff_drawn : ℕ → Option Pid → ℕ → Drawn
calloff_drawn machines None x = turn_drawn machines x
calloff_drawn machines (Some p) x = record { directive = directive.One (step.CallOff p (drawn machines x)); state = stepped x }

-- a packet goes from one machine to another; a machine that is alone takes a turn, and nothing further is drawn
abbrev pub arrival_drawn : ℕ → ℕ → Drawn
arrival_drawn machines x = if machines == 1 then record { directive = directive.One (step.Turn 0); state = x } else deliver_drawn machines x

-- of nine, three are turns, one a tick, one a migration, one a delivery, one a calling off and two rounds
abbrev pub of_nine : ℕ → List BootProcess → ℕ → ℕ → Drawn
of_nine machines ps d x =
    if nat_lt d 3 then turn_drawn machines x
    else if d == 3 then tick_drawn machines x
    else if d == 4 then move_drawn machines (process_drawn ps x) (behind_process (process_drawn ps x) x)
    else if d == 5 then arrival_drawn machines x
    else if d == 8 then calloff_drawn machines (process_drawn ps x) (behind_process (process_drawn ps x) x)
    else round_drawn x

unfoldable pub own_drawn : ℕ → List BootProcess → ℕ → Drawn
own_drawn machines ps x = of_nine machines ps (drawn 9 x) (stepped x)

-- so many directives of a drill of a system with so many machines, and these processes
abbrev pub own_directives_drawn : ℕ → List BootProcess → ℕ → ℕ → List Directive
own_directives_drawn machines ps x n = directives_by (own_drawn machines ps) x n
