-- A process without its memory and its queue: the one spelling of it, and what some bytes spell, or the first rule that they break.
use Rattle.std.specs.Prelude.{ℕ, ◌*◌, ◌/◌, Bool, List, length, ◌==◌, if◌then◌else◌, Option, Ok, Err}
use Rattle.std.specs.declared.result.Result.{Result}
use Rattle.dm_link.specs.declared.Pid.{Pid}
use Rattle.dm_link.specs.declared.Link.{Link}
use Rattle.dm_processor.specs.declared.registers.Regs.{Regs}
use Rattle.dm_process.specs.declared.process.Process.{Process}
use Rattle.dm_process.specs.declared.process.Status.{Status}
use Rattle.dm_packet.specs.declared.PacketError.{PacketError}
use Rattle.dm_packet.specs.declared.PacketError.TheVariants as bad
use Rattle.dm_packet.specs.Field.{Field, ◌>>=◌, number, number_within, version, both, made, repeated_field}
use Rattle.dm_packet.specs.Fields.{pid}
use Rattle.dm_packet.specs.Whats.{yes_or_no}
use Rattle.dm_statebytes.specs.declared.StateBytesError.{StateBytesError}
use Rattle.dm_statebytes.specs.declared.Shell.{Shell}
use Rattle.dm_statebytes.specs.Rules.{rule_of}
use Rattle.dm_statebytes.specs.Statuses.{status}
use Rattle.dm_statebytes.specs.Table.{table}

-- what state bytes carry of a process; its memory is one of whole blocks of 256 bytes
abbrev pub shell_of : Process → Shell
shell_of p = record {
  pid = p.pid;
  blocks = length p.memory / 256;
  stopped = p.stopped;
  status = p.status;
  sent = p.sent;
  moves = p.moves;
  regs = p.regs;
  table = p.table;
}

abbrev pub blocks : Field ℕ
blocks = number_within 2 1 256

-- sixteen registers
unfoldable pub registers : Field (List ℕ)
registers = repeated_field (number 4) 16

-- the registers and the program counter
abbrev pub regs : Field Regs
regs = made (both registers (λ _. number 4)) (λ r. record { r = r.0; pc = r.1 }) (λ r. (r.r, r.pc))

-- what stands before the links: the version, the name, the blocks, whether it is stopped, the status, the two counts and the registers
abbrev pub Front : Type 0
Front = ℕ × (Pid × (ℕ × (Bool × (Status × (ℕ × (ℕ × Regs))))))

abbrev pub front : Field Front
front = both (version 3) (λ _. both pid (λ _. both blocks (λ n. both (yes_or_no bad.Flags) (λ _. both (status (256 * n)) (λ _. both (number 4) (λ _. both (number 4) (λ _. regs)))))))

abbrev pub shell_front : Shell → Front
shell_front s = (3, (s.pid, (s.blocks, (s.stopped, (s.status, (s.sent, (s.moves, s.regs)))))))

abbrev pub shell_with : Front × List (Option Link) → Shell
shell_with s = record {
  pid = s.0.1.0;
  blocks = s.0.1.1.0;
  stopped = s.0.1.1.1.0;
  status = s.0.1.1.1.1.0;
  sent = s.0.1.1.1.1.1.0;
  moves = s.0.1.1.1.1.1.1.0;
  regs = s.0.1.1.1.1.1.1.1;
  table = s.1;
}

-- a process with a table of so many slots
abbrev pub shell : ℕ → Field Shell
shell cap = made (both front (λ _. table cap)) shell_with (λ s. (shell_front s, s.table))

-- the one spelling of a process
unfoldable pub shell_spelling : Shell → List ℕ
shell_spelling s = (shell (length s.table)).spell s

-- nothing follows a process
abbrev pub only_shell : Shell × List ℕ → Result Shell PacketError
only_shell s = if length s.1 == 0 then Ok s.0 else Err bad.Trailing

abbrev pub read_shell : List ℕ → ℕ → Result Shell PacketError
read_shell bytes cap = (shell cap).read bytes >>= only_shell

abbrev pub by_rule : Result Shell PacketError → Result Shell StateBytesError
by_rule (Ok s) = Ok s
by_rule (Err rule) = Err (rule_of rule)

-- what the bytes spell, all of them, with a table of so many slots, or the first rule that they break
unfoldable pub shell_of_bytes : List ℕ → ℕ → Result Shell StateBytesError
shell_of_bytes bytes cap = by_rule (read_shell bytes cap)
