-- The world of the code, over the plain one.
use Rattle.std.specs.Prelude.{◌≡◌, ⊤, ℕ, List, Vec, length, slice_get}
use Rattle.std.specs.BTreeMap.{BTreeMap, get}
use Rattle.std.specs.Option.{option_map_or}
use Rattle.std.specs.declared.alloc.Global.{Global}
use Rattle.std.specs.declared.option.Option.{Option}
use Rattle.std.specs.declared.option.Option.TheVariants.{None, Some}
use Rattle.std.specs.declared.result.Result.{Result}
use Rattle.std.specs.declared.result.Result.TheVariants.{Ok, Err}
use Rattle.dm_link.specs.declared.Pid.{Pid}
use Rattle.dm_link.specs.Names.{pid_cmp}
use Rattle.dm_wire.specs.Wire.{packets_on}
use Rattle.dm_onekernel.specs.declared.boot.Boot.{Boot}
use Rattle.dm_onekernel.specs.declared.label.Why.{Why}
use Rattle.dm_onekernel.specs.Boot.{IsValid}
use Rattle.dm_line.specs.declared.line.Line.{Line}
use Rattle.dm_line.specs.Sets.{at_machine}
use Rattle.dm_node.specs.declared.node.Node.{Node}
use Rattle.dm_node.specs.declared.stop.Stop.{Stop}
use Rattle.dm_node.specs.declared.stop.Stop.TheVariants as stop
use Rattle.dm_node.specs.State.{NodeState, node_opened}
use Rattle.dm_node.specs.Out.{Acted, Acts, Goes, Worn}
use Rattle.dm_node.specs.Wired.{Spoke, Spoken}
use Rattle.dm_node.specs.Meets as node
use Rattle.dm_node.specs.Meets.{HasStreams, IsWornSome}
use Rattle.dm_world.specs.declared.world.World.{World}
use Rattle.dm_world.specs.World.{WorldState, Happened, Says, WornOut}

-- machine m of these; those past the end are as the boot file has them
unfoldable pub node_in : Boot → List Node → ℕ → NodeState
node_in b nodes m = option_map_or node.node_state (slice_get nodes m) (node_opened b m)

-- why each process ended that has
unfoldable pub ended_in : BTreeMap Pid Why → Pid → Option Why
ended_in ended p = get pid_cmp ended p

abbrev pub world_state : World → WorldState
world_state w = record { nodes = node_in w.boot w.nodes.items; wires = packets_on w.wires; ended = ended_in w.ended; groups = w.groups }

-- machine m has its streams and its number
pub record IsNode (m : ℕ) (n : Node) : Type 0 where
  pub streams : HasStreams n
  pub here : n.kernel.here ≡ m

pub record AreNodes (nodes : List Node) : Type 0 where
  pub each : (m : ℕ) (n : Node) → slice_get nodes m ≡ Some n → IsNode m n

-- the boot file is valid, and there are its machines
pub record IsWorld (w : World) : Type 0 where
  pub valid : IsValid w.boot
  pub machines : length w.nodes.items ≡ length w.boot.machines
  pub nodes : AreNodes w.nodes.items

-- machine m of some machines has acted, and said this behind what was said before; the others are as they were
pub record ActedAt (b : Boot) (old new : List Node) (m : ℕ) (before after : Spoken) (a : Acted) : Type 0 where
  pub nodes : (c : ℕ) → node_in b new c ≡ at_machine (node_in b old) m a.state c
  pub size : length new ≡ length old
  pub are : AreNodes new
  pub outs : Spoke before after a.outs

abbrev pub ActedSome : Boot → List Node → List Node → ℕ → Spoken → Spoken → Option Acts → Type 0
ActedSome b old new m before after None = ⊥
ActedSome b old new m before after (Some (Goes a)) = ActedAt b old new m before after a
ActedSome b old new m before after (Some (Worn from to)) = ⊥

abbrev pub TurnAnswers : Result Unit Stop → Boot → List Node → List Node → ℕ → Spoken → Spoken → Option Acts → Type 0
TurnAnswers (Ok done) b old new m before after o = ActedSome b old new m before after o
TurnAnswers (Err (stop.Worn from to)) b old new m before after o = IsWornSome from to o
TurnAnswers (Err (stop.NoMemory e)) b old new m before after o = ⊤

-- the world is in this state, and the lines are these
pub record Meets (w : WorldState) (lines : List Line) (h : Happened) : Type 0 where
  pub happened : Says (record { state = w; lines = lines }) ≡ h

abbrev pub MeetsSome : WorldState → List Line → Option Happened → Type 0
MeetsSome w lines None = ⊥
MeetsSome w lines (Some h) = Meets w lines h

abbrev pub IsWornOut : ℕ → ℕ → Option Happened → Type 0
IsWornOut from to None = ⊥
IsWornOut from to (Some h) = WornOut from to ≡ h

-- the code does this, or has no memory
abbrev pub Answers : Result (Vec Line Global) Stop → WorldState → Option Happened → Type 0
Answers (Ok lines) w o = MeetsSome w lines.items o
Answers (Err (stop.Worn from to)) w o = IsWornOut from to o
Answers (Err (stop.NoMemory e)) w o = ⊤
