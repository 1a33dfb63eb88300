-- One more plain instruction.
use Rattle.dm_kernel.proofs.Names.{◌≡◌, ℕ, suc, ◌+◌, ◌-◌, ◌<◌, List, arith, ap, ◌∙◌, Regs, Row, instruction, DoesRow, Machine, Ran, ran, after_row, one_more}
use Rattle.dm_processor.specs.declared.registers.Stepped.TheVariants as stepped
use Rattle.dm_processor.specs.Instructions as row

-- so many instructions more
abbrev pub more : ℕ → Ran → Ran
more i r = record { count = r.count + i; machine = r.machine; halt = r.halt }

is_plain : (r : Row) (m : Machine) (regs : Regs) (bytes : List ℕ) (go : Machine → Ran) → DoesRow stepped.Plain regs bytes r m.regs m.bytes
    → after_row m r go ≡ one_more (go (record { regs = regs; bytes = bytes }))
is_plain (row.Plain a b) m regs bytes go h = let e : regs ≡ a = h.1 in let f : bytes ≡ b = h.2 in cc
is_plain (row.Calls n a) m regs bytes go h = let e : stepped.Plain ≡ stepped.Call n = h.0 in cc
is_plain (row.Faults f) m regs bytes go h = let e : stepped.Plain ≡ stepped.Fault f = h.0 in cc

goes_on : (quantum i : ℕ) (m : Machine) → i < quantum → ran (quantum - i) m ≡ after_row m (instruction m.regs m.bytes) (ran (quantum - (i + 1)))
goes_on quantum i m h = let e : quantum - i ≡ suc (quantum - (i + 1)) = omega arith in ap (λ k. ran k m) e

again : (i : ℕ) (r : Ran) → more i (one_more r) ≡ more (i + 1) r
again i r = let e : r.count + 1 + i ≡ r.count + (i + 1) = omega arith in ap (λ k. record { count = k; machine = r.machine; halt = r.halt }) e

pub one_further : (quantum i : ℕ) (m : Machine) (regs : Regs) (bytes : List ℕ) (all : Ran) → i < quantum → all ≡ more i (ran (quantum - i) m)
    → DoesRow stepped.Plain regs bytes (instruction m.regs m.bytes) m.regs m.bytes → all ≡ more (i + 1) (ran (quantum - (i + 1)) (record { regs = regs; bytes = bytes }))
one_further quantum i m regs bytes all h so_far plain =
    so_far
    ∙ ap (more i) (goes_on quantum i m h ∙ is_plain (instruction m.regs m.bytes) m regs bytes (ran (quantum - (i + 1))) plain)
    ∙ again i (ran (quantum - (i + 1)) (record { regs = regs; bytes = bytes }))
