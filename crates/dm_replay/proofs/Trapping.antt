-- What an instruction that isn't plain comes to, and who is fit behind it.
use Rattle.std.specs.Prelude.{◌≡◌, ◌≤◌, ◌+◌, ℕ, true, is_some, List}
use Rattle.std.proofs.Common.{refl, sym, subst, ap, arith, ◌∙◌}
use Rattle.std.specs.declared.option.Option.{Option}
use Rattle.std.specs.declared.option.Option.TheVariants.{None, Some}
use Rattle.dm_link.specs.declared.Pid.{Pid}
use Rattle.dm_processor.specs.declared.registers.Fault.{Fault}
use Rattle.dm_processor.specs.declared.registers.Regs.{Regs}
use Rattle.dm_processor.specs.declared.registers.Stepped.TheVariants as stepped
use Rattle.dm_processor.specs.Instructions.{DoesRow, Row, instruction}
use Rattle.dm_processor.specs.Instructions as row
use Rattle.dm_process.specs.declared.process.Process.{Process}
use Rattle.dm_process.specs.Lawful.{IsLawfulProcess}
use Rattle.dm_onekernel.specs.Calls as kernel
use Rattle.dm_onekernel.specs.Kernel.{OneKernel}
use Rattle.dm_onekernel.specs.Options.{bind}
use Rattle.dm_onekernel.specs.Plain.{plain_process}
use Rattle.dm_onekernel.specs.PlainProcess.{PlainProcess}
use Rattle.dm_onekernel.specs.Step as one
use Rattle.dm_onekernel.specs.Step.{next_row, next_trap, running}
use Rattle.dm_syscall.proofs.LawfulCalls.{call_counts}
use Rattle.dm_syscall.specs.Calls.{calls}
use Rattle.dm_message.specs.declared.Message.{Message}
use Rattle.dm_message.specs.Plain.{PlainWhat, plain_what, with_what}
use Rattle.dm_syscall.specs.declared.Called.TheVariants as called_
use Rattle.dm_syscall.specs.Plainly.{plain_called, plain_sent}
use Rattle.dm_syscall.specs.declared.Called.{Called}
use Rattle.dm_replay.specs.declared.processes.Trap.TheVariants as trap
use Rattle.dm_replay.specs.Sound.{IsFit}
use Rattle.dm_replay.specs.Traps.{IsSaidTrap, plain_trap}
use Rattle.dm_replay.proofs.Executing.{called_row, calls_lawfully, fault_row}
use Rattle.dm_replay.proofs.Keeping.{call_named}

-- a call
pub traps_call : (s : OneKernel) (p : Pid) (x after : Process) (n : ℕ) (regs : Regs) (bytes : List ℕ) (called : Called) → running s p ≡ Some (plain_process x) → DoesRow (stepped.Call n) regs bytes (instruction x.regs x.memory) x.regs x.memory
    → x.pid ≡ p → plain_called called after ≡ Some (kernel.call x.pid (plain_process (record x { regs = regs; memory = bytes })) n) → next_trap s p ≡ plain_trap after (trap.Call n called)
traps_call s p x after n regs bytes called e does named h =
    let parts = called_row (instruction x.regs x.memory) n regs x.regs bytes x.memory does in
    ap (λ o. bind o (λ x. next_row p x (instruction x.regs x.memory))) e
    ∙ ap (next_row p (plain_process x)) parts.0
    ∙ ap (λ (m : List ℕ). Some (one.Calls n (kernel.call p (plain_process (record x { regs = regs; memory = m })) n))) (sym parts.1)
    ∙ ap (λ q. Some (one.Calls n (kernel.call q (plain_process (record x { regs = regs; memory = bytes })) n))) (sym named)
    ∙ sym (ap (λ o. bind o (λ d. Some (one.Calls n d))) h)

-- a fault
pub traps_fault : (s : OneKernel) (p : Pid) (x after : Process) (f : Fault) (regs : Regs) (bytes : List ℕ) → running s p ≡ Some (plain_process x) → DoesRow (stepped.Fault f) regs bytes (instruction x.regs x.memory) x.regs x.memory
    → next_trap s p ≡ plain_trap after (trap.Fault f)
traps_fault s p x after f regs bytes e does =
    let parts = fault_row (instruction x.regs x.memory) f regs x.regs bytes x.memory does in
    ap (λ o. bind o (λ x. next_row p x (instruction x.regs x.memory))) e ∙ ap (next_row p (plain_process x)) parts.0

-- a plain instruction is none
plain_next : (p : Pid) (x : PlainProcess) (r : Row) (regs a : Regs) (bytes b : List ℕ) → DoesRow stepped.Plain regs bytes r a b → next_row p x r ≡ None
plain_next p x (row.Plain y z) regs a bytes b h = refl
plain_next p x (row.Calls n y) regs a bytes b h = absurd (let e : stepped.Plain ≡ stepped.Call n = h.0 in cc)
plain_next p x (row.Faults f) regs a bytes b h = absurd (let e : stepped.Plain ≡ stepped.Fault f = h.0 in cc)

pub traps_not : (s : OneKernel) (p : Pid) (x : Process) (regs : Regs) (bytes : List ℕ) → running s p ≡ Some (plain_process x) → DoesRow stepped.Plain regs bytes (instruction x.regs x.memory) x.regs x.memory → next_trap s p ≡ None
traps_not s p x regs bytes e does =
    ap (λ o. bind o (λ x. next_row p x (instruction x.regs x.memory))) e ∙ plain_next p (plain_process x) (instruction x.regs x.memory) regs x.regs bytes x.memory does

-- the process that calls is lawful before
pub calls_fit : (n k : ℕ) (p : Pid) (x : Process) (regs : Regs) (bytes : List ℕ) → IsFit n p x → DoesRow (stepped.Call k) regs bytes (instruction x.regs x.memory) x.regs x.memory → IsLawfulProcess (record x { regs = regs; memory = bytes })
calls_fit n k p x regs bytes f does =
    let parts = called_row (instruction x.regs x.memory) k regs x.regs bytes x.memory does in
    subst (λ (m : List ℕ). IsLawfulProcess (record x { regs = regs; memory = m })) (sym parts.1) (calls_lawfully x k regs parts.0 f.lawful)

-- and fits behind
pub called_fits : (n here k : ℕ) (p : Pid) (x after : Process) (regs : Regs) (bytes : List ℕ) → IsFit n p x → after ≡ (calls here (record x { regs = regs; memory = bytes }) k).process → IsLawfulProcess after → IsFit (n + 1) p after
called_fits n here k p x after regs bytes f e lawful =
    let y : Process = record x { regs = regs; memory = bytes } in
    let counts = call_counts here y k in
    let more : (calls here y k).process.sent ≤ x.sent + 1 = counts in
    let same : after.sent ≡ (calls here y k).process.sent = ap (λ (x : Process). x.sent) e in
    record {
      pid = ap (λ (x : Process). x.pid) e ∙ call_named here y k ∙ f.pid;
      lawful = lawful;
      sent = omega (arith, f.sent, more, same);
    }

-- where nothing was done, it fits as before
pub fault_fits : (n : ℕ) (f : Fault) (p : Pid) (x : Process) (regs : Regs) (bytes : List ℕ) → IsFit n p x → DoesRow (stepped.Fault f) regs bytes (instruction x.regs x.memory) x.regs x.memory → IsFit (n + 1) p (record x { regs = regs; memory = bytes })
fault_fits n f p x regs bytes h does =
    let parts = fault_row (instruction x.regs x.memory) f regs x.regs bytes x.memory does in
    let lawful : IsLawfulProcess (record x { regs = regs; memory = bytes }) =
    subst (λ (m : List ℕ). IsLawfulProcess (record x { regs = regs; memory = m })) (sym parts.2) (subst (λ (r : Regs). IsLawfulProcess (record x { regs = r; memory = x.memory })) (sym parts.1) h.lawful)
    in
    record { pid = h.pid; lawful = lawful; sent = omega (arith, h.sent) }

-- what a call came to, is said
some_call : (o : Option kernel.Called) (d : kernel.Called) (n : ℕ) → o ≡ Some d → is_some (bind o (λ d. Some (one.Calls n d))) ≡ true
some_call o d n e = ap (λ o. is_some (bind o (λ d. Some (one.Calls n d)))) e

pub call_said : (after : Process) (called : Called) (d : kernel.Called) (n : ℕ) → plain_called called after ≡ Some d → IsSaidTrap after (trap.Call n called)
call_said after called d n e = some_call (plain_called called after) d n e
