-- Services: what a kernel without machines does at once.
use Rattle.std.specs.Prelude.{◌≡◌, ◌⊎◌, ℕ, ◌==◌, Bool, true, false, if◌then◌else◌, List, [], ◌∷◌, ◌++◌}
use Rattle.std.specs.declared.option.Option.{Option}
use Rattle.std.specs.declared.option.Option.TheVariants.{None, Some}
use Rattle.dm_link.specs.declared.Pid.{Pid}
use Rattle.dm_processor.specs.Instructions.{instruction}
use Rattle.dm_onekernel.specs.declared.label.Label.{Label}
use Rattle.dm_onekernel.specs.declared.label.Label.TheVariants as label
use Rattle.dm_onekernel.specs.declared.label.Why.TheVariants as why
use Rattle.dm_onekernel.specs.Calls.{Called, Replies, Sends, Waits, Outputs, Ends}
use Rattle.dm_onekernel.specs.Kernel.{OneKernel}
use Rattle.dm_onekernel.specs.PlainProcess.{PlainProcess}
use Rattle.dm_onekernel.specs.Step.{Trap, Calls, Faults, machine_of, next_row, replay, running, step, with_machine}
use Rattle.dm_onekernel.specs.declared.boot.Boot.{Boot}
use Rattle.dm_schedule.specs.declared.Step.{Step}
use Rattle.dm_law_rule.specs.Parts.{Spelled}
use Rattle.dm_law_rule.specs.Point.{Point, labels}
use Rattle.dm_law_rule.specs.Rule.{Ran, group_of, ran}

-- what a process's call or fault says
abbrev pub called_labels : Pid → ℕ → Called → List Label
called_labels p n (Replies reply x) = label.Call p n reply ∷ []
called_labels p n (Sends m x) = label.Send p m.id ∷ []
called_labels p n (Waits x) = label.Wait p ∷ []
called_labels p n (Outputs w x) = label.Out p w ∷ []
called_labels p n (Ends y) = label.End p y ∷ []

abbrev pub trap_labels : Pid → Option Trap → List Label
trap_labels p None = []
trap_labels p (Some (Calls n c)) = called_labels p n c
trap_labels p (Some (Faults f)) = label.End p (why.Fault f) ∷ []

-- a ready process executes as far as the quantum allows; where it stops before, its call or fault follows
abbrev pub executing : ℕ → Pid → PlainProcess → Ran → List Label
executing quantum p x r = label.Ran p r.count ∷ (if r.count == quantum then [] else trap_labels p (next_row p (with_machine x r.machine) (instruction r.machine.regs r.machine.bytes)))

abbrev pub execute_labels : ℕ → Pid → PlainProcess → List Label
execute_labels quantum p x = executing quantum p x (ran quantum (machine_of x))

pub record Executes (quantum : ℕ) (s : OneKernel) (p : Pid) (ls : List Label) (t : OneKernel) : Type 0 where
  pub process : PlainProcess
  pub runs : running s p ≡ Some process
  pub labels : ls ≡ execute_labels quantum p process
  pub leads : replay s ls ≡ Some t

-- a label of a process that executes
abbrev pub is_act : Label → Bool
is_act (label.Ran p k) = true
is_act (label.Call p n c) = true
is_act (label.Send p id) = true
is_act (label.Wait p) = true
is_act (label.Out p w) = true
is_act (label.End p y) = true
is_act (label.Receive p id) = false
is_act (label.Refuse p id c) = false
is_act (label.Dropped id) = false
is_act (label.Served id) = false
is_act (label.Gone id) = false
is_act (label.Took id) = false
is_act (label.Created id child) = false
is_act (label.NoSpace id slots blocks) = false
is_act (label.Asked id) = false
is_act (label.Answered id o) = false

-- any other step
pub record Handles (s : OneKernel) (ls : List Label) (t : OneKernel) : Type 0 where
  pub one : Label
  pub labels : ls ≡ one ∷ []
  pub other : is_act one ≡ false
  pub leads : step s one ≡ Some t

abbrev pub IsService : ℕ → OneKernel → List Label → OneKernel → Type 0
IsService quantum s ls t = ((p : Pid) × Executes quantum s p ls t) ⊎ Handles s ls t

-- services, one behind the other
abbrev pub Services : ℕ → OneKernel → List (List Label) → OneKernel → Type 0
Services quantum s [] t = s ≡ t
Services quantum s (ls ∷ others) t = (u : OneKernel) × IsService quantum s ls u × Services quantum u others t

-- the labels of services, one behind the other
abbrev pub all_labels : List (List Label) → List Label
all_labels [] = []
all_labels (ls ∷ others) = ls ++ all_labels others

-- labels that are those of services
pub record AreServices (quantum : ℕ) (s : OneKernel) (ls : List Label) (t : OneKernel) : Type 0 where
  pub services : List (List Label)
  pub run : Services quantum s services t
  pub labels : all_labels services ≡ ls

-- what the lines of a group say of the kernel without machines are services
abbrev pub GroupsAreServices : Type 0
GroupsAreServices = (b : Boot) (pt : Point) (d : Step) (w : Spelled) → group_of b pt d ≡ Some w → AreServices b.quantum pt.kernel (labels w.lines) w.point.kernel
