-- A process without its place and its queue.
use Rattle.std.specs.Prelude.{ℕ, Bool, List, slice_index, slice_set}
use Rattle.std.specs.declared.option.Option.{Option}
use Rattle.dm_link.specs.declared.Pid.{Pid}
use Rattle.dm_link.specs.Plain.{PlainLink}
use Rattle.dm_processor.specs.declared.registers.Regs.{Regs}
use Rattle.dm_process.specs.declared.process.Direction.{Direction}

-- what a process does: it executes, waits for a message, or moves data to or from an area of another process
pub data PlainStatus : Type 0 where
  Ready : PlainStatus
  Waiting : (mask : ℕ) → (base : ℕ) → (cap : ℕ) → PlainStatus
  Moving : (dir : Direction) → (owner : Pid) → (base : ℕ) → (own : ℕ) → (left : ℕ) → (pending : ℕ) → PlainStatus

-- a living process: registers and program counter, memory, links by slot, what it does, whether it was stopped, and how many
-- messages it has sent
pub record PlainProcess : Type 0 where
  pub regs : Regs
  pub memory : List ℕ
  pub links : List (Option PlainLink)
  pub status : PlainStatus
  pub stopped : Bool
  pub sent : ℕ

-- what a register holds
abbrev pub reg : Regs → ℕ → ℕ
reg r i = slice_index r.r i

-- the registers with one set
abbrev pub setting : Regs → ℕ → ℕ → Regs
setting r i v = record { r = slice_set r.r i v; pc = r.pc }
