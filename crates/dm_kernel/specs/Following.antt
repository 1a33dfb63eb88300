-- How a message follows a process that has gone on, and how links follow it.
use Rattle.std.specs.Prelude.{ℕ, ◌+◌, Bool, true, false, List, [], ◌∷◌, count_by, map}
use Rattle.std.specs.declared.option.Option.{Option}
use Rattle.std.specs.declared.option.Option.TheVariants.{Some}
use Rattle.dm_link.specs.declared.Addr.{Addr}
use Rattle.dm_link.specs.Places.{is_behind}
use Rattle.dm_linktable.specs.Slots.{slot_is_behind}
use Rattle.dm_linkupdate.specs.Applied.{applied}
use Rattle.dm_linkupdate.specs.Notice.{is_told_back, update_of}
use Rattle.dm_message.specs.declared.Message.{Message}
use Rattle.dm_message.specs.Kinds.{kind_of}
use Rattle.dm_migrate.specs.Departure.{sent_on}
use Rattle.dm_process.specs.declared.process.Process.{Process}
use Rattle.dm_records.specs.declared.record.Record.TheVariants.{Here}
use Rattle.dm_switchboard.specs.Board.{Board, named_is_behind, retargeted_named}
use Rattle.dm_procman.specs.Managing.{Managing, behind_in, retargeted_manager}
use Rattle.dm_line.specs.declared.line.Line.TheVariants as line
use Rattle.dm_resident.specs.declared.Resident.TheVariants as resident
use Rattle.dm_kernel.specs.declared.part.Part.{Part}
use Rattle.dm_kernel.specs.declared.part.Part.TheVariants.{Says, Routes}
use Rattle.dm_kernel.specs.State.{KernelState, Turned, own_id, turned, with_here, with_known, with_sent}

-- the message goes on to where its receiver is, and its sender is told of that, if its kind has an update
abbrev pub forwards_and : KernelState → Message → ℕ → ℕ → Bool → Option Turned
forwards_and s m at moves true =
    turned (with_sent s) (Says (line.Forwarded m.id at) ∷ Routes (sent_on at moves m) ∷ Routes (update_of m (own_id s) s.here at moves) ∷ [])
forwards_and s m at moves false = turned s (Says (line.Forwarded m.id at) ∷ Routes (sent_on at moves m) ∷ [])

abbrev pub forwards : KernelState → Message → ℕ → ℕ → Option Turned
forwards s m at moves = forwards_and s m at moves (is_told_back (kind_of m.what))

-- so many addresses followed
abbrev pub updated : Message → ℕ → List Part
updated m n = Says (line.Updated m.id n) ∷ []

-- the links of a process, and its data move
abbrev pub process_follows : KernelState → Message → Process → Addr → Option Turned
process_follows s m x about =
    turned (with_here s m.to.pid (applied about.pid about.at about.moves x)) (updated m (count_by (slot_is_behind about.pid about.moves) x.table))

-- the links of the switchboard's names
abbrev pub board_follows : KernelState → Message → Board → Addr → Option Turned
board_follows s m v about =
    turned (with_known s m.to.pid (Here (resident.Board (record v { names = map (retargeted_named about.pid about.at about.moves) v.names }))))
    (updated m (count_by (named_is_behind about.pid about.moves) v.names))

-- the manager's children, the links of its pending requests, and where it knows the switchboard to be
abbrev pub manager_follows : KernelState → Message → Managing → Addr → Option Turned
manager_follows s m v about =
    turned (with_known s m.to.pid (Here (resident.Manager (retargeted_manager about.pid about.at about.moves v))))
    (updated m (behind_in about.pid about.moves v))
