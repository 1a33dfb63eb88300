-- The plain value of a server that moves stays, step by step: no message for it is taken.
use Rattle.dm_law_moves.proofs.Names.{◌≡◌, Bool, true, false, refl, ap, if◌then◌else◌, Option, None, Some, Pid, pid_eq, Label, OneKernel, switchboard, manager, Manager, Switchboard, kernel_after}
use Rattle.dm_law_rule.proofs.Apart.Steps.{Avoids, kernel_servers}
use Rattle.dm_law_moves.specs.Open.{BoardValue, ManagerValue, server_value}

-- by what the servers keep
pub value_same : (y : Pid) (s t : OneKernel) → (pid_eq y switchboard ≡ true → t.switchboard ≡ s.switchboard) → (pid_eq y manager ≡ true → t.manager ≡ s.manager) → server_value y t ≡ server_value y s
value_same y s t board manage = by (pid_eq y switchboard) (pid_eq y manager) board manage
  where
    by : (c d : Bool) → (c ≡ true → t.switchboard ≡ s.switchboard) → (d ≡ true → t.manager ≡ s.manager)
        → (if c then Some (BoardValue t.switchboard) else if d then Some (ManagerValue t.manager) else None) ≡ (if c then Some (BoardValue s.switchboard) else if d then Some (ManagerValue s.manager) else None)
    by true d f g = ap (λ (b : Switchboard). Some (BoardValue b)) (f refl)
    by false true f g = ap (λ (m : Manager). Some (ManagerValue m)) (g refl)
    by false false f g = refl

pub kernel_value : (s t : OneKernel) (y : Pid) (o : Option Label) → Avoids s y o → kernel_after s o ≡ Some t → server_value y t ≡ server_value y s
kernel_value s t y o avoids e = let h = kernel_servers s t y o avoids e in value_same y s t h.0 h.1
