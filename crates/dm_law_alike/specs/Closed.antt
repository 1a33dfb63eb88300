-- Kept kernels that nothing leads out of.
use Rattle.std.specs.Prelude.{◌≡◌, ◌⊎◌, ⊤, ℕ, ◌<◌, Bool, false, List, [], ◌∷◌, slice_get}
use Rattle.std.specs.declared.option.Option.TheVariants.{Some}
use Rattle.dm_link.specs.declared.Pid.{Pid}
use Rattle.dm_onekernel.specs.declared.boot.Boot.{Boot}
use Rattle.dm_onekernel.specs.declared.label.Label.{Label}
use Rattle.dm_onekernel.specs.Boot.{IsValid}
use Rattle.dm_onekernel.specs.Kernel.{OneKernel}
use Rattle.dm_onekernel.specs.Start.{start}
use Rattle.dm_line.specs.declared.line.Line.{Line}
use Rattle.dm_schedule.specs.declared.Step.{Step}
use Rattle.dm_law_rule.specs.Point.{Point, first_point, labels}
use Rattle.dm_law_always.specs.Order.{LeadsBy}
use Rattle.dm_law_alike.specs.Alike.{Renaming, KeepsOrder, Says, Twins}
use Rattle.dm_law_alike.specs.Private.{IsSpared}
use Rattle.dm_law_alike.specs.Services.{Executes, IsService, Services}

-- none of the labels is asked for
abbrev pub NoneAsked : (Label → Bool) → List Label → Type 0
NoneAsked asks [] = ⊤
NoneAsked asks (l ∷ others) = (asks l ≡ false) × NoneAsked asks others

abbrev pub NoneAskedIn : (Label → Bool) → List (List Label) → Type 0
NoneAskedIn asks [] = ⊤
NoneAskedIn asks (ls ∷ others) = NoneAsked asks ls × NoneAskedIn asks others

-- a question doesn't go by names of messages
abbrev pub IsNameless : (Label → Bool) → Type 0
IsNameless asks = (r : Renaming) (l k : Label) → Says r l k → asks k ≡ asks l

-- the kernel is the twin of a kept one
pub record Leads (ks : List OneKernel) (t : OneKernel) : Type 0 where
  pub index : ℕ
  pub kept : OneKernel
  pub here : slice_get ks index ≡ Some kept
  pub renaming : Renaming
  pub keeps : KeepsOrder renaming
  pub twins : Twins renaming t kept

-- of one whose rank is below this
pub record LeadsBelow (rank : ℕ → ℕ) (ks : List OneKernel) (bound : ℕ) (t : OneKernel) : Type 0 where
  pub leads : Leads ks t
  pub below : rank leads.index < bound

-- a process that nobody can reach executes, so many times one behind the other, and comes to a kept kernel
abbrev pub GoesAlone : ℕ → (Label → Bool) → (ℕ → ℕ) → List OneKernel → ℕ → Pid → OneKernel → List (List Label) → Type 0
GoesAlone quantum asks rank ks bound p v [] = LeadsBelow rank ks bound v
GoesAlone quantum asks rank ks bound p v (ls ∷ others) =
    IsSpared v p × NoneAsked asks ls × ((w : OneKernel) × Executes quantum v p ls w × GoesAlone quantum asks rank ks bound p w others)

-- from a kept kernel each service leads to a kept one; or a process that nobody can reach goes on alone to one of a lower rank
pub record EachIsKept (quantum : ℕ) (asks : Label → Bool) (ks : List OneKernel) (k : OneKernel) : Type 0 where
  pub each : (ls : List Label) (t : OneKernel) → IsService quantum k ls t → NoneAsked asks ls × Leads ks t

pub record OneGoes (quantum : ℕ) (asks : Label → Bool) (rank : ℕ → ℕ) (ks : List OneKernel) (bound : ℕ) (k : OneKernel) : Type 0 where
  pub process : Pid
  pub services : List (List Label)
  pub goes : GoesAlone quantum asks rank ks bound process k services

pub record IsClosed (b : Boot) (asks : Label → Bool) (rank : ℕ → ℕ) (ks : List OneKernel) : Type 0 where
  pub begins : Leads ks (start b)
  pub each : (i : ℕ) (k : OneKernel) → slice_get ks i ≡ Some k → EachIsKept b.quantum asks ks k ⊎ OneGoes b.quantum asks rank ks (rank i) k

-- where nothing leads out of what is kept, and none of it shows what is asked, no services of any number ever show it
abbrev pub ClosedIsNever : Type 0
ClosedIsNever =
    (b : Boot) (asks : Label → Bool) (rank : ℕ → ℕ) (ks : List OneKernel) (run : List (List Label)) (t : OneKernel) → IsValid b → IsNameless asks → IsClosed b asks rank ks → Services b.quantum (start b) run t → NoneAskedIn asks run

-- nor do the lines of any run of several machines, whatever the directives are: however long it is, whatever is lost, repeated or moved
abbrev pub NeverIsNever : Type 0
NeverIsNever =
    (b : Boot) (asks : Label → Bool) (rank : ℕ → ℕ) (ks : List OneKernel) (es : List Step) (ls : List Line) (pt : Point) → IsValid b → IsNameless asks → IsClosed b asks rank ks → LeadsBy b (first_point b) es ls pt → NoneAsked asks (labels ls)
