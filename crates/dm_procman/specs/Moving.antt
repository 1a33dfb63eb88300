-- What the process manager does where a child is to move to another machine.
use Rattle.std.specs.Prelude.{ℕ, if◌then◌else◌, List}
use Rattle.std.specs.List.{find}
use Rattle.std.specs.declared.option.Option.{Option}
use Rattle.std.specs.declared.option.Option.TheVariants.{None, Some}
use Rattle.std.specs.declared.result.Result.{Result}
use Rattle.std.specs.declared.result.Result.TheVariants.{Ok, Err}
use Rattle.dm_link.specs.declared.Pid.{Pid}
use Rattle.dm_link.specs.declared.Addr.{Addr}
use Rattle.dm_link.specs.Names.{pid_eq}
use Rattle.dm_message.specs.declared.Message.{Message}
use Rattle.dm_message.specs.declared.MsgId.{MsgId}
use Rattle.dm_message.specs.declared.What.TheVariants as what
use Rattle.dm_onekernel.specs.Boot.{manager, switchboard}
use Rattle.dm_procman.specs.declared.moving.MoveError.{MoveError}
use Rattle.dm_procman.specs.declared.moving.MoveError.TheVariants as no
use Rattle.dm_procman.specs.Making.{address_at}
use Rattle.dm_procman.specs.Managing.{Managing}

-- the address of the child of this name
abbrev pub child_named : Pid → List Addr → Option Addr
child_named p children = find (λ a. pid_eq a.pid p) children

-- the address of what is told to move, as the manager on machine `here` has it: that of the switchboard, its own, or a child's
abbrev pub known_address : ℕ → Managing → Pid → Option Addr
known_address here g p = if pid_eq p switchboard then Some g.board else if pid_eq p manager then Some (address_at here g.moves) else child_named p g.children

-- the message that tells it to move, from a manager on machine `here` that has moved so often; of others nothing is known
abbrev pub tells_to_move : ℕ → ℕ → MsgId → ℕ → Option Addr → Result Message MoveError
tells_to_move here moves id machine None = Err no.Unknown
tells_to_move here moves id machine (Some to) = Ok (record { id = id; to = to; sender = address_at here moves; what = what.Migrate machine })

abbrev pub asks_to_move : ℕ → Managing → Pid → ℕ → MsgId → Result Message MoveError
asks_to_move here g p machine id = tells_to_move here g.moves id machine (known_address here g p)
