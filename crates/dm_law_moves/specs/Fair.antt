-- Nobody starves: while a process can be served each time that its machine has a turn with an empty inbox, it is served within as many of these
-- turns as there are processes in the machine's ring. When turns come is the schedule's matter.
use Rattle.std.specs.Prelude.{◌≡◌, ℕ, ◌+◌, ◌<◌, Bool, true, false, ◌==◌, ◌&&◌, if◌then◌else◌, List, [], ◌∷◌, length}
use Rattle.std.specs.List.{list_any}
use Rattle.std.specs.declared.option.Option.TheVariants.{Some}
use Rattle.dm_link.specs.declared.Pid.{Pid}
use Rattle.dm_link.specs.Names.{pid_eq}
use Rattle.dm_onekernel.specs.declared.boot.Boot.{Boot}
use Rattle.dm_onekernel.specs.declared.label.Label.{Label}
use Rattle.dm_onekernel.specs.declared.label.Label.TheVariants as label
use Rattle.dm_onekernel.specs.Step as kernel
use Rattle.dm_schedule.specs.declared.Step.{Step}
use Rattle.dm_schedule.specs.declared.Step.TheVariants as step
use Rattle.dm_line.specs.declared.line.Line.{Line}
use Rattle.dm_law_rule.specs.Parts.{Spelled}
use Rattle.dm_law_rule.specs.Point.{Point, after_line, labels}
use Rattle.dm_law_rule.specs.Rule.{can_go, group_of}

-- the label serves the process: it runs, or takes the message that it waits for, or is refused it
abbrev pub serves : Pid → Label → Bool
serves p (label.Ran q n) = pid_eq p q
serves p (label.Receive q id) = pid_eq p q
serves p (label.Refuse q id c) = pid_eq p q
serves p _ = false

abbrev pub is_empty : {X : Type 0} → List X → Bool
is_empty [] = true
is_empty (x ∷ xs) = false

-- a turn of the machine at which the process could be served: the inbox is empty, and the process can go
abbrev pub is_chance : Point → ℕ → Pid → Step → Bool
is_chance pt m p (step.Turn n) = (n == m) && (is_empty (pt.view.inbox m) && can_go pt.kernel (pt.view.queue m p) (kernel.alive (pt.kernel.processes p)))
is_chance pt m p _ = false

-- the process stands in the machine's ring, there and behind each of these lines
abbrev pub stands_in : Point → ℕ → Pid → Bool
stands_in pt m p = list_any (pid_eq p) (pt.view.ring m)

abbrev pub StaysIn : Point → ℕ → Pid → List Line → Type 0
StaysIn pt m p [] = stands_in pt m p ≡ true
StaysIn pt m p (l ∷ ls) = (stands_in pt m p ≡ true) × ((next : Point) → after_line pt l ≡ Some next → StaysIn next m p ls)

-- by these directives the rule leads from one point to another; meanwhile the process stands in the machine's ring and isn't served, and so
-- many times it could have been
abbrev pub Waits : Boot → ℕ → Pid → Point → List Step → Point → ℕ → Type 0
Waits b m p pt [] end chances = (pt ≡ end) × (chances ≡ 0)
Waits b m p pt (e ∷ es) end chances =
    (w : Spelled) × (more : ℕ) × (group_of b pt e ≡ Some w) × StaysIn pt m p w.lines × (list_any (serves p) (labels w.lines) ≡ false) × (chances ≡ (if is_chance pt m p e then 1 else 0) + more) × Waits b m p w.point es end more

-- from whatever point: a process waits through fewer such turns than the ring has processes
abbrev pub NobodyStarves : Type 0
NobodyStarves = (b : Boot) (m : ℕ) (p : Pid) (pt : Point) (es : List Step) (end : Point) (chances : ℕ) → stands_in pt m p ≡ true → Waits b m p pt es end chances → chances < length (pt.view.ring m)
