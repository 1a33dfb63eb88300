-- How large what moves is: a server, or a process that lives.
use Rattle.dm_law_rule.proofs.Names.{◌≡◌, Bool, false, ap, ◌∙◌, sym, if◌then◌else◌, option_map, Option, None, Some, arith, nat_tests, Pid, pid_eq, switchboard, manager, Life, OneKernel, Size, size_of}
use Rattle.dm_law_rule.specs.Migrating.{board_size, manager_size, process_size}
use Rattle.dm_onekernel.specs.Step as kernel
use Rattle.dm_law_rule.proofs.Lives.{Lived}

sized_other : (c d : Bool) (x y : Size) (o : Option Size) → c ≡ false → d ≡ false → (if c then Some x else if d then Some y else o) ≡ o
sized_other c d x y o e f = ap (λ (k : Bool). if k then Some x else if d then Some y else o) e ∙ ap (λ (k : Bool). if k then Some y else o) f

-- what is no server is a process
pub size_other : (s : OneKernel) (p : Pid) → pid_eq p switchboard ≡ false → pid_eq p manager ≡ false → size_of s p ≡ option_map process_size (kernel.alive (s.processes p))
size_other s p board manages =
    sized_other (pid_eq p switchboard) (pid_eq p manager) (record { state = board_size s.switchboard; blocks = 0 }) (record { state = manager_size s.manager; blocks = 0 }) (option_map process_size (kernel.alive (s.processes p))) board manages

-- and a process that has a size was made
pub lived_sized : (s : OneKernel) (p : Pid) (x : Size) → size_of s p ≡ Some x → Lived s p
lived_sized s p x e none le =
    let board : pid_eq p switchboard ≡ false = grind (arith, nat_tests) in
    let manages : pid_eq p manager ≡ false = grind (arith, nat_tests) in
    let f : None ≡ Some x = sym (size_other s p board manages ∙ ap (λ (l : Option Life). option_map process_size (kernel.alive l)) none) ∙ e in
    absurd (let g : None ≡ Some x = f in cc)
