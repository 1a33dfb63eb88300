use Rattle.std.proofs.Common.{◌≡◌, ◌∙◌, List, ℕ, [], length, ap, subst, sym}
use Rattle.std.specs.Prelude.{IfOk, OnOk}
use Rattle.std.specs.declared.result.Result.{Result}
use Rattle.std.specs.declared.result.Result.TheVariants.{Err, Ok}
use Rattle.dm_memory.specs.declared.NoMemory.{NoMemory}
use Rattle.dm_process.specs.declared.process.Process.{Process}
use Rattle.dm_statebytes.specs.Shell.{shell, shell_of, shell_spelling}
use Rattle.dm_switchboard.specs.Board.{Board}
use Rattle.dm_switchboard.specs.Packed.{board_of_bytes, board_spelling}
use Rattle.dm_procman.specs.Managing.{Managing}
use Rattle.dm_procman.specs.Packed.{manager_of_bytes, manager_spelling}
use Rattle.dm_resident.specs.declared.Resident.{Resident}
use Rattle.dm_resident.specs.declared.Resident.TheVariants as resident
use Rattle.dm_resident.specs.Packed.{IsReadAgain}
use Rattle.dm_resident.proofs.Resident.pack.Goals as goal

-- what is read of the bytes is read of what they spell
process_again : {V : Type 0} (r : Result V NoMemory) (items : V → List ℕ) (x : Process) → IfOk r (λ v. items v ≡ shell_spelling (shell_of x)) → IfOk r (λ v. (shell (length x.table)).read (items v) ≡ Ok (shell_of x, [])) → OnOk r (IsReadAgain (resident.Process x))
unfolding IsReadAgain
process_again (Err e) items x put again = tt
process_again (Ok v) items x put again = ap (shell (length x.table)).read (sym put) ∙ again

board_again : {V : Type 0} (r : Result V NoMemory) (items : V → List ℕ) (b : Board) → IfOk r (λ v. items v ≡ board_spelling b) → IfOk r (λ v. board_of_bytes (items v) ≡ Ok b) → OnOk r (IsReadAgain (resident.Board b))
unfolding IsReadAgain
board_again (Err e) items b put again = tt
board_again (Ok v) items b put again = ap board_of_bytes (sym put) ∙ again

manager_again : {V : Type 0} (r : Result V NoMemory) (items : V → List ℕ) (g : Managing) → IfOk r (λ v. items v ≡ manager_spelling g) → IfOk r (λ v. manager_of_bytes g.machines g.images (items v) ≡ Ok g) → OnOk r (IsReadAgain (resident.Manager g))
unfolding IsReadAgain
manager_again (Err e) items g put again = tt
manager_again (Ok v) items g put again = ap (manager_of_bytes g.machines g.images) (sym put) ∙ again

pub returns-in-Process-clause-again : goal.returns-in-Process-clause-again
returns-in-Process-clause-again c =
    subst (λ (r : Resident). OnOk c.pack.result (IsReadAgain r)) (sym c.in-Process.is) (process_again c.pack.result (λ v. v.items) c.in-Process.process c.pack.ensures.ok c.pack.ensures.again)

pub returns-in-Board-clause-again : goal.returns-in-Board-clause-again
returns-in-Board-clause-again c =
    subst (λ (r : Resident). OnOk c.pack-in-Board.result (IsReadAgain r)) (sym c.in-Board.is)
    (board_again c.pack-in-Board.result (λ v. v.items) c.in-Board.board c.pack-in-Board.ensures.ok c.pack-in-Board.ensures.again)

pub returns-in-Manager-clause-again : goal.returns-in-Manager-clause-again
returns-in-Manager-clause-again c =
    subst (λ (r : Resident). OnOk c.pack-in-Manager.result (IsReadAgain r)) (sym c.in-Manager.is)
    (manager_again c.pack-in-Manager.result (λ v. v.items) c.in-Manager.manager c.pack-in-Manager.ensures.ok c.pack-in-Manager.ensures.again)
