-- What is told where a process has ended: each machine that may forward to this one is to forget it too.
use Rattle.std.specs.Prelude.{ℕ, Bool, true, false, List, ◌∷◌, ◌++◌, filter, length, map}
use Rattle.std.specs.List.{range_with_len}
use Rattle.dm_link.specs.declared.Pid.{Pid}
use Rattle.dm_message.specs.declared.MsgId.{MsgId}
use Rattle.dm_message.specs.declared.kind.MessageKind.TheVariants as kind
use Rattle.dm_message.specs.Sorts.{Sort}
use Rattle.dm_message.specs.Sorts as sort
use Rattle.dm_onekernel.specs.declared.label.Label.TheVariants as label
use Rattle.dm_line.specs.declared.line.Line.TheVariants as line
use Rattle.dm_law_rule.specs.Point.{Point}
use Rattle.dm_law_rule.specs.Parts.{Part, Says}
use Rattle.dm_law_rule.specs.Migrating.{to_kernel}

-- the queue of a process that ends goes message by message
abbrev pub drop_parts : List MsgId → List Part
drop_parts ids = map (λ i. Says (line.Label (label.Dropped i))) ids

-- the predecessors of a process on a machine, in order
abbrev pub preds_of : Point → ℕ → Pid → List ℕ
preds_of pt m p = filter (pt.view.preds m p) (range_with_len 0 pt.kernel.machines)

-- their kernels are told
abbrev pub buries : Point → ℕ → Pid → List Part
buries pt m p = map (to_kernel kind.Bury) (preds_of pt m p)

-- what follows the end of a process
abbrev pub ends_with : Point → ℕ → Pid → List Part
ends_with pt m p = drop_parts (pt.view.queue m p) ++ buries pt m p

-- a kernel is told that a process has ended, whatever it knows of it
abbrev pub tells_end : Sort → Bool
tells_end sort.Buries = true
tells_end s = false

abbrev pub buried : Point → ℕ → MsgId → Pid → List Part
buried pt m id p = Says (line.Buried id (length (preds_of pt m p))) ∷ buries pt m p
