-- Which message a step takes out of those that wait: it is received, served, taken by a server, dropped, answered as gone, granted as a request
-- to make a process or refused as one, or followed as a request to move.
use Rattle.std.specs.Prelude.{◌≡◌, ℕ, ◌+◌, ◌≤◌, if◌then◌else◌, List, [], ◌∷◌, false}
use Rattle.std.specs.Option.{option_map_or}
use Rattle.std.specs.declared.option.Option.{Option}
use Rattle.std.specs.declared.option.Option.TheVariants.{None, Some}
use Rattle.dm_message.specs.declared.MsgId.{MsgId}
use Rattle.dm_message.specs.Ids.{id_eq}
use Rattle.dm_onekernel.specs.declared.boot.Boot.{Boot}
use Rattle.dm_onekernel.specs.declared.label.Label.{Label}
use Rattle.dm_onekernel.specs.declared.label.Label.TheVariants as label
use Rattle.dm_onekernel.specs.Boot.{IsValid}
use Rattle.dm_onekernel.specs.Kernel.{OneKernel}
use Rattle.dm_onekernel.specs.Start.{start}
use Rattle.dm_onekernel.specs.Step.{replay}

abbrev pub taken : Label → Option MsgId
taken (label.Receive p id) = Some id
taken (label.Served id) = Some id
taken (label.Took id) = Some id
taken (label.Dropped id) = Some id
taken (label.Gone id) = Some id
taken (label.Created id child) = Some id
taken (label.NoSpace id slots blocks) = Some id
taken (label.Asked id) = Some id
taken (label.Ran p n) = None
taken (label.Call p n c) = None
taken (label.Send p id) = None
taken (label.Wait p) = None
taken (label.Out p w) = None
taken (label.End p y) = None
taken (label.Refuse p id c) = None
taken (label.Answered id o) = None

-- 1 for a step that takes the message
abbrev pub taking : MsgId → Label → ℕ
taking id l = if option_map_or (id_eq id) (taken l) false then 1 else 0

-- how many of these steps take it
abbrev pub takings : MsgId → List Label → ℕ
takings id [] = 0
takings id (l ∷ ls) = taking id l + takings id ls

-- no message is taken twice, whatever becomes of it
abbrev pub TakenOnce : Type 0
TakenOnce = (b : Boot) (ls : List Label) (s : OneKernel) (id : MsgId) → IsValid b → replay (start b) ls ≡ Some s → takings id ls ≤ 1
