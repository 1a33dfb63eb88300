-- What a process does by itself, and what isn't its own.
use Rattle.std.specs.Prelude.{◌≡◌, ⊤, List, [], ◌∷◌}
use Rattle.std.specs.declared.option.Option.TheVariants.{None, Some}
use Rattle.dm_link.specs.declared.Pid.{Pid}
use Rattle.dm_onekernel.specs.declared.label.Label.{Label}
use Rattle.dm_onekernel.specs.declared.label.Label.TheVariants as label
use Rattle.dm_onekernel.specs.Kernel.{Alive, OneKernel}
use Rattle.dm_onekernel.specs.PlainProcess.{PlainProcess, PlainStatus, Ready, Waiting, Moving}
use Rattle.dm_onekernel.specs.Step.{step}
use Rattle.dm_law_one.specs.Laws.{IsOwnStep}

-- the process executes: it runs, calls, sends, begins to wait, puts out or ends
abbrev pub IsAct : Pid → Label → Type 0
IsAct p (label.Ran q k) = q ≡ p
IsAct p (label.Call q n c) = q ≡ p
IsAct p (label.Send q id) = q ≡ p
IsAct p (label.Wait q) = q ≡ p
IsAct p (label.Out q w) = q ≡ p
IsAct p (label.End q y) = q ≡ p
IsAct p (label.Receive q id) = ⊥
IsAct p (label.Refuse q id c) = ⊥
IsAct p (label.Dropped id) = ⊥
IsAct p (label.Served id) = ⊥
IsAct p (label.Gone id) = ⊥
IsAct p (label.Took id) = ⊥
IsAct p (label.Created id child) = ⊥
IsAct p (label.NoSpace id slots blocks) = ⊥
IsAct p (label.Asked id) = ⊥
IsAct p (label.Answered id o) = ⊥

abbrev pub AreActs : Pid → List Label → Type 0
AreActs p [] = ⊤
AreActs p (a ∷ others) = IsAct p a × AreActs p others

-- none of the steps from s is the process's own
abbrev pub NoneOwn : OneKernel → Pid → List Label → Type 0
NoneOwn s p [] = ⊤
NoneOwn s p (l ∷ others) = (IsOwnStep s p l → ⊥) × ((t : OneKernel) → step s l ≡ Some t → NoneOwn t p others)

abbrev pub IsReady : PlainStatus → Type 0
IsReady Ready = ⊤
IsReady (Waiting mask base cap) = ⊥
IsReady (Moving dir owner base own left pending) = ⊥

-- the process lives, follows no request to move, and is ready
pub record IsAtHand (s : OneKernel) (p : Pid) (x : PlainProcess) : Type 0 where
  pub alive : s.processes p ≡ Some (Alive x)
  pub free : s.notes p ≡ None
  pub ready : IsReady x.status
