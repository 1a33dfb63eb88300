-- What stands on a machine and can move to another, by whether it is a process or a server.
use Rattle.std.specs.Prelude.{ℕ, ◌+◌, ◌/◌, List, [], length}
use Rattle.std.specs.declared.option.Option.{Option}
use Rattle.std.specs.declared.option.Option.TheVariants.{None, Some}
use Rattle.dm_link.specs.declared.Addr.{Addr}
use Rattle.dm_link.specs.declared.Pid.{Pid}
use Rattle.dm_message.specs.declared.Message.{Message}
use Rattle.dm_process.specs.declared.process.Process as process_
use Rattle.dm_onekernel.specs.Boot.{switchboard, manager}
use Rattle.dm_switchboard.specs.Board as board_
use Rattle.dm_procman.specs.Managing.{Managing}
use Rattle.dm_resident.specs.declared.Resident.{Resident}
use Rattle.dm_resident.specs.declared.Resident.TheVariants.{Process, Board, Manager}

abbrev pub name_of : Resident → Pid
name_of (Process x) = x.pid
name_of (Board b) = switchboard
name_of (Manager g) = manager

-- how often it has moved
abbrev pub moves_of : Resident → ℕ
moves_of (Process x) = x.moves
moves_of (Board b) = b.moves
moves_of (Manager g) = g.moves

-- its memory, which a server has none of
abbrev pub memory_of : Resident → List ℕ
memory_of (Process x) = x.memory
memory_of (Board b) = []
memory_of (Manager g) = []

-- a process has at least one block
abbrev pub blocks_of : Resident → ℕ
blocks_of r = length (memory_of r) / 256

-- the messages that wait for it: a server takes each at once
abbrev pub queue_of : Resident → List Message
queue_of (Process x) = x.queue
queue_of (Board b) = []
queue_of (Manager g) = []

abbrev pub with_queue : List Message → Resident → Resident
with_queue q (Process x) = Process (record x { queue = q })
with_queue q (Board b) = Board b
with_queue q (Manager g) = Manager g

-- where it has come to: it has moved once more, and nothing waits for it
abbrev pub moved : Resident → Resident
moved (Process x) = Process (record x { moves = x.moves + 1; queue = [] })
moved (Board b) = Board (record b { moves = b.moves + 1 })
moved (Manager g) = Manager (record g { moves = g.moves + 1 })

abbrev pub process_of : Resident → Option process_.Process
process_of (Process x) = Some x
process_of (Board b) = None
process_of (Manager g) = None

abbrev pub board_of : Resident → Option board_.Board
board_of (Process x) = None
board_of (Board b) = Some b
board_of (Manager g) = None

abbrev pub manager_of : Resident → Option Managing
manager_of (Process x) = None
manager_of (Board b) = None
manager_of (Manager g) = Some g
