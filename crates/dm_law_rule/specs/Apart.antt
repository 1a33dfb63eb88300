-- Lines that are not of a process or a server: it doesn't run, call, send, wait, print, end or receive, and no message for it is served or
-- taken.
use Rattle.std.specs.Prelude.{◌≡◌, ◌≢◌, ⊤, List, [], ◌∷◌}
use Rattle.std.specs.declared.option.Option.{Option}
use Rattle.std.specs.declared.option.Option.TheVariants.{None, Some}
use Rattle.dm_link.specs.declared.Pid.{Pid}
use Rattle.dm_message.specs.Plain.{PlainMessage}
use Rattle.dm_onekernel.specs.declared.label.Label.{Label}
use Rattle.dm_onekernel.specs.declared.label.Label.TheVariants as label
use Rattle.dm_onekernel.specs.Kernel.{OneKernel}
use Rattle.dm_line.specs.declared.line.Line.{Line}
use Rattle.dm_law_rule.specs.Point.{label_of}

-- a row a label; what is served, taken or asked for is in the bag as its group begins, and this kernel is the one there
abbrev pub IsOthers : OneKernel → Pid → Label → Type 0
IsOthers s p (label.Ran q k) = q ≢ p
IsOthers s p (label.Call q n c) = q ≢ p
IsOthers s p (label.Send q id) = q ≢ p
IsOthers s p (label.Wait q) = q ≢ p
IsOthers s p (label.Out q w) = q ≢ p
IsOthers s p (label.End q y) = q ≢ p
IsOthers s p (label.Receive q id) = q ≢ p
IsOthers s p (label.Refuse q id c) = q ≢ p
IsOthers s p (label.Dropped id) = ⊤
IsOthers s p (label.Served id) = (m : PlainMessage) → s.bag id ≡ Some m → m.to ≢ p
IsOthers s p (label.Gone id) = ⊤
IsOthers s p (label.Took id) = (m : PlainMessage) → s.bag id ≡ Some m → m.to ≢ p
IsOthers s p (label.Created id q) = q ≢ p
IsOthers s p (label.NoSpace id a b) = ⊤
IsOthers s p (label.Asked id) = (m : PlainMessage) → s.bag id ≡ Some m → m.to ≢ p
IsOthers s p (label.Answered id o) = ⊤

abbrev pub Spares : OneKernel → Pid → Option Label → Type 0
Spares s p None = ⊤
Spares s p (Some l) = IsOthers s p l

abbrev pub AllSpare : OneKernel → Pid → List Line → Type 0
AllSpare s p [] = ⊤
AllSpare s p (l ∷ ls) = Spares s p (label_of l) × AllSpare s p ls
