-- The kernel of the code, over the plain one.
use Rattle.std.specs.Prelude.{◌≡◌, ℕ, ⊤, List, [], ◌∷◌, Vec}
use Rattle.std.specs.declared.alloc.Global.{Global}
use Rattle.std.specs.declared.option.Option.{Option}
use Rattle.std.specs.declared.option.Option.TheVariants.{None, Some}
use Rattle.std.specs.declared.result.Result.{Result}
use Rattle.std.specs.declared.result.Result.TheVariants.{Ok, Err}
use Rattle.dm_link.specs.declared.Pid.{Pid}
use Rattle.dm_memory.specs.declared.NoMemory.{NoMemory}
use Rattle.dm_records.specs.Records.{at, pred_at}
use Rattle.dm_line.specs.declared.line.Line.TheVariants as line
use Rattle.dm_kernel.specs.declared.kernel.Kernel.{Kernel}
use Rattle.dm_kernel.specs.declared.part.Part.{Part}
use Rattle.dm_kernel.specs.declared.part.Part.TheVariants.{Says}
use Rattle.dm_kernel.specs.State.{KernelState, Turned}
pub use Rattle.dm_kernel.specs.Code.{kernel_state}

-- the kernel is in this state
pub record IsIn (k : Kernel) (s : KernelState) : Type 0 where
  pub here : k.here ≡ s.here
  pub records : (q : Pid) → at k.records q ≡ s.records q
  pub preds : (q : Pid) (n : ℕ) → pred_at k.records q n ≡ s.preds q n
  pub ring : k.ring ≡ s.ring
  pub inbox : k.inbox ≡ s.inbox
  pub made : k.made ≡ s.made
  pub sent : k.sent ≡ s.sent
  pub room : k.room ≡ s.room
  pub over : k.over ≡ s.over

-- the kernel and the parts are these
pub record Meets (k : Kernel) (said : List Part) (t : Turned) : Type 0 where
  pub state : IsIn k t.state
  pub parts : said ≡ t.parts

abbrev pub MeetsSome : Kernel → List Part → Option Turned → Type 0
MeetsSome k said None = ⊥
MeetsSome k said (Some t) = Meets k said t

-- the code does this, or has no memory
abbrev pub Answers : Result (Vec Part Global) NoMemory → Kernel → Option Turned → Type 0
Answers (Ok parts) k t = MeetsSome k parts.items t
Answers (Err e) k t = ⊤

-- the parts of a turn: where there are none, it is said that the machine is idle
abbrev pub parts_or_idle : ℕ → Option (Vec Part Global) → List Part
parts_or_idle here None = Says (line.Idle here) ∷ []
parts_or_idle here (Some parts) = parts.items

-- the code takes this turn, or has no memory
abbrev pub Takes : Result (Option (Vec Part Global)) NoMemory → Kernel → Option Turned → Type 0
Takes (Ok parts) k t = MeetsSome k (parts_or_idle k.here parts) t
Takes (Err e) k t = ⊤
