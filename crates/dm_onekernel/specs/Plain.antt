-- What the program's processes are without their places and queues. The kernel without machines speaks of no such type.
use Rattle.std.specs.Prelude.{map, option_map}
use Rattle.dm_link.specs.Plain.{plain_link}
use Rattle.dm_process.specs.declared.process.Process.{Process}
use Rattle.dm_process.specs.declared.process.Status.{Status}
use Rattle.dm_process.specs.declared.process.Status.TheVariants as status
use Rattle.dm_onekernel.specs.PlainProcess.{PlainProcess, PlainStatus, Ready, Waiting, Moving}

-- whose area it moves data to or from, but not where that process is
abbrev pub plain_status : Status → PlainStatus
plain_status status.Ready = Ready
plain_status (status.Waiting mask base cap) = Waiting mask base cap
plain_status (status.Moving dir owner base own left pending) = Moving dir owner.pid base own left pending

-- a process of the program, but for its queue and for where its links lead
abbrev pub plain_process : Process → PlainProcess
plain_process p =
    record {
      regs = p.regs;
      memory = p.memory;
      links = map (option_map plain_link) p.table;
      status = plain_status p.status;
      stopped = p.stopped;
      sent = p.sent;
    }
