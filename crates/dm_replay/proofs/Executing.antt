-- What instructions come to.
use Rattle.std.specs.Prelude.{◌≡◌, ℕ, zero, suc, ◌+◌, ◌-◌, ◌<◌, Bool, true, false, if◌then◌else◌, List, length}
use Rattle.std.proofs.Common.{refl, sym, subst, ap, arith, add-one, ◌∙◌}
use Rattle.std.specs.declared.option.Option.{Option}
use Rattle.std.specs.declared.option.Option.TheVariants.{None, Some}
use Rattle.dm_processor.specs.declared.registers.Regs.{Regs}
use Rattle.dm_processor.specs.declared.registers.Fault.{Fault}
use Rattle.dm_processor.specs.declared.registers.Stepped.{Stepped}
use Rattle.dm_processor.specs.declared.registers.Stepped.TheVariants as stepped
use Rattle.dm_processor.specs.Instructions.{DoesRow, Row, instruction}
use Rattle.dm_processor.specs.Instructions as row
use Rattle.dm_processor.specs.Kept.{KeepsLengths}
use Rattle.dm_processor.proofs.Lengths.{instruction-lengths}
use Rattle.dm_process.specs.declared.process.Process.{Process}
use Rattle.dm_process.specs.declared.process.Status.TheVariants as status
use Rattle.dm_process.specs.Lawful.{IsLawfulProcess, IsLawfulStatus}
use Rattle.dm_onekernel.specs.Options.{bind}
use Rattle.dm_onekernel.specs.Step.{Machine, plain_row, plain_steps}

-- a plain instruction, and one that isn't
pub plainly : (r : Row) (regs a : Regs) (bytes b : List ℕ) → DoesRow stepped.Plain regs bytes r a b → plain_row r ≡ Some (record { regs = regs; bytes = bytes })
plainly (row.Plain x y) regs a bytes b h = let e : regs ≡ x = h.1 in let f : bytes ≡ y = h.2 in cc
plainly (row.Calls n x) regs a bytes b h = absurd (let e : stepped.Plain ≡ stepped.Call n = h.0 in cc)
plainly (row.Faults f) regs a bytes b h = absurd (let e : stepped.Plain ≡ stepped.Fault f = h.0 in cc)

pub called_row : (r : Row) (n : ℕ) (regs a : Regs) (bytes b : List ℕ) → DoesRow (stepped.Call n) regs bytes r a b → (r ≡ row.Calls n regs) × (bytes ≡ b)
called_row (row.Plain x y) n regs a bytes b h = absurd (let e : stepped.Call n ≡ stepped.Plain = h.0 in cc)
called_row (row.Calls k x) n regs a bytes b h = let e : stepped.Call n ≡ stepped.Call k = h.0 in let f : regs ≡ x = h.1 in (cc, h.2)
called_row (row.Faults f) n regs a bytes b h = absurd (let e : stepped.Call n ≡ stepped.Fault f = h.0 in cc)

pub fault_row : (r : Row) (f : Fault) (regs a : Regs) (bytes b : List ℕ) → DoesRow (stepped.Fault f) regs bytes r a b → (r ≡ row.Faults f) × (regs ≡ a) × (bytes ≡ b)
fault_row (row.Plain x y) f regs a bytes b h = absurd (let e : stepped.Fault f ≡ stepped.Plain = h.0 in cc)
fault_row (row.Calls k x) f regs a bytes b h = absurd (let e : stepped.Fault f ≡ stepped.Call k = h.0 in cc)
fault_row (row.Faults g) f regs a bytes b h = let e : stepped.Fault f ≡ stepped.Fault g = h.0 in (cc, h.1, h.2)

-- where one isn't plain, no more are
pub none_later : (j i : ℕ) (m : Machine) → plain_steps j m ≡ None → plain_steps (i + j) m ≡ None
none_later j zero m e = let k : j ≡ zero + j = omega arith in subst (λ (k : ℕ). plain_steps k m ≡ None) k e
none_later j (suc i) m e =
    let k : suc (i + j) ≡ suc i + j = omega arith in
    subst (λ (k : ℕ). plain_steps k m ≡ None) k (ap (λ o. bind o (λ n. plain_row (instruction n.regs n.bytes))) (none_later j i m e))

-- plain instructions keep the number of the registers and the length of the memory
pub record Lasts (m n : Machine) : Type 0 where
  pub registers : length n.regs.r ≡ length m.regs.r
  pub memory : length n.bytes ≡ length m.bytes

some_is : {A : Type 0} {x y : A} → Some x ≡ Some y → x ≡ y
some_is e = cc

row_lasts : (m n : Machine) (r : Row) → KeepsLengths r m.regs m.bytes → plain_row r ≡ Some n → Lasts m n
row_lasts m n (row.Plain regs bytes) k e = subst (Lasts m) (some_is e) (record { registers = k.0; memory = k.1 })
row_lasts m n (row.Calls number regs) k e = absurd (cc)
row_lasts m n (row.Faults f) k e = absurd (cc)

then_lasts : (m n : Machine) (o : Option Machine) → ((p : Machine) → o ≡ Some p → Lasts m p) → bind o (λ n. plain_row (instruction n.regs n.bytes)) ≡ Some n → Lasts m n
then_lasts m n None h e = absurd (cc)
then_lasts m n (Some p) h e =
    let so_far : Lasts m p = h p refl in
    let last : Lasts p n = row_lasts p n (instruction p.regs p.bytes) (instruction-lengths p.regs p.bytes) e in
    record { registers = last.registers ∙ so_far.registers; memory = last.memory ∙ so_far.memory }

pub steps_last : (k : ℕ) (m n : Machine) → plain_steps k m ≡ Some n → Lasts m n
steps_last zero m n e = subst (Lasts m) (some_is e) (record { registers = refl; memory = refl })
steps_last (suc k) m n e = then_lasts m n (plain_steps k m) (λ p h. steps_last k m p h) e

-- so a process that executes stays lawful
pub runs_lawfully : (x : Process) (m : Machine) → Lasts (record { regs = x.regs; bytes = x.memory }) m → x.status ≡ status.Ready → IsLawfulProcess x → IsLawfulProcess (record x { regs = m.regs; memory = m.bytes })
runs_lawfully x m k ready lawful =
    record {
      home = lawful.home;
      registers = k.registers ∙ lawful.registers;
      size = (lawful.size.0, k.memory ∙ lawful.size.1, lawful.size.2, lawful.size.3);
      links = lawful.links;
      slots = lawful.slots;
      status = subst (IsLawfulStatus (length m.bytes)) (sym ready) tt;
      queue = lawful.queue;
    }

-- and one that calls
pub calls_lawfully : (x : Process) (n : ℕ) (regs : Regs) → instruction x.regs x.memory ≡ row.Calls n regs → IsLawfulProcess x → IsLawfulProcess (record x { regs = regs })
calls_lawfully x n regs e lawful =
    let k : KeepsLengths (row.Calls n regs) x.regs x.memory = subst (λ (r : Row). KeepsLengths r x.regs x.memory) e (instruction-lengths x.regs x.memory) in
    record {
      home = lawful.home;
      registers = k ∙ lawful.registers;
      size = lawful.size;
      links = lawful.links;
      slots = lawful.slots;
      status = lawful.status;
      queue = lawful.queue;
    }

-- one instruction further
pub further : (k : ℕ) (m n : Machine) (regs : Regs) (bytes : List ℕ) → plain_steps k m ≡ Some n → DoesRow stepped.Plain regs bytes (instruction n.regs n.bytes) n.regs n.bytes
    → plain_steps (k + 1) m ≡ Some (record { regs = regs; bytes = bytes })
further k m n regs bytes e h =
    rw add-one (ap (λ o. bind o (λ n. plain_row (instruction n.regs n.bytes))) e ∙ plainly (instruction n.regs n.bytes) regs n.regs bytes n.bytes h)

not_plainly : (s : Stepped) (r : Row) (regs a : Regs) (bytes b : List ℕ) → (s ≡ stepped.Plain → ⊥) → DoesRow s regs bytes r a b → plain_row r ≡ None
not_plainly s (row.Plain x y) regs a bytes b other h = absurd (other h.0)
not_plainly s (row.Calls n x) regs a bytes b other h = refl
not_plainly s (row.Faults f) regs a bytes b other h = refl

-- one that isn't plain ends it
pub stops : (count k : ℕ) (m n : Machine) (s : Stepped) (regs : Regs) (bytes : List ℕ) → k < count → plain_steps k m ≡ Some n → (s ≡ stepped.Plain → ⊥) → DoesRow s regs bytes (instruction n.regs n.bytes) n.regs n.bytes
    → plain_steps count m ≡ None
stops count k m n s regs bytes less e other h =
    let one : plain_steps (suc k) m ≡ None =
    ap (λ o. bind o (λ n. plain_row (instruction n.regs n.bytes))) e ∙ not_plainly s (instruction n.regs n.bytes) regs n.regs bytes n.bytes other h
    in
    let sum : count - suc k + suc k ≡ count = omega (arith, less) in
    subst (λ j. plain_steps j m ≡ None) sum (none_later (suc k) (count - suc k) m one)

-- whether all were plain
pub all_done : (c : Bool) (o : Option Machine) (m : Machine) → o ≡ (if c then Some m else None) → c ≡ true → o ≡ Some m
all_done true o m e h = e
all_done false o m e h = absurd (cc)

pub stopped_at : (c : Bool) (o : Option Machine) (m : Machine) → o ≡ (if c then Some m else None) → c ≡ false → o ≡ None
stopped_at true o m e h = absurd (cc)
stopped_at false o m e h = e
