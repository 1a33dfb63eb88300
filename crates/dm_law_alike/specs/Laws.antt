-- Numbers of messages mean nothing, and a process that nobody can reach goes on alone.
use Rattle.std.specs.Prelude.{◌≡◌, List}
use Rattle.std.specs.declared.option.Option.TheVariants.{Some}
use Rattle.dm_link.specs.declared.Pid.{Pid}
use Rattle.dm_onekernel.specs.declared.boot.Boot.{Boot}
use Rattle.dm_onekernel.specs.declared.label.Label.{Label}
use Rattle.dm_onekernel.specs.Boot.{IsValid}
use Rattle.dm_onekernel.specs.Kernel.{OneKernel}
use Rattle.dm_onekernel.specs.Start.{start}
use Rattle.dm_onekernel.specs.PlainProcess.{PlainProcess}
use Rattle.dm_onekernel.specs.Step.{step, replay}
use Rattle.dm_law_one.specs.Laws.{IsOwnStep}
use Rattle.dm_law_alike.specs.Acting.{IsAct, AreActs, IsAtHand, NoneOwn}
use Rattle.dm_law_alike.specs.Alike.{Renaming, KeepsOrder, Twins, TwinRun, renamed_again}
use Rattle.dm_law_alike.specs.Private.{IsSpared}

-- from a kernel that a boot file leads to, each run is one of its twin, label by label
abbrev pub RunsAreTwins : Type 0
RunsAreTwins =
    (b : Boot) (before ls : List Label) (s t u : OneKernel) (r : Renaming) → IsValid b → replay (start b) before ≡ Some s → KeepsOrder r → Twins r s t → replay s ls ≡ Some u → TwinRun r t ls u

-- the twin of a twin is a twin
abbrev pub TwinsOfTwins : Type 0
TwinsOfTwins = (r q : Renaming) (s t u : OneKernel) → Twins r s t → Twins q t u → Twins (renamed_again r q) s u

-- what a process does by itself from s, and a run from s in which nothing is its own: each is one behind the other too, and both ways
-- lead to the same kernel
pub record BothWays (s t u : OneKernel) (p : Pid) (acts ls : List Label) : Type 0 where
  pub end : OneKernel
  pub run : replay t ls ≡ Some end
  pub acting : replay u acts ≡ Some end
  pub none : NoneOwn t p ls

abbrev pub ActsGoFirst : Type 0
ActsGoFirst =
    (b : Boot) (before acts ls : List Label) (s t u : OneKernel) (p : Pid) → IsValid b → replay (start b) before ≡ Some s → AreActs p acts → replay s acts ≡ Some t → NoneOwn s p ls → replay s ls ≡ Some u → BothWays s t u p acts ls

-- what a process does by itself at the end of a run in which nothing is its own can come first: it leads to the same kernel
pub record First (s u : OneKernel) (acts ls : List Label) : Type 0 where
  pub kernel : OneKernel
  pub acting : replay s acts ≡ Some kernel
  pub run : replay kernel ls ≡ Some u

abbrev pub ActsComeFirst : Type 0
ActsComeFirst =
    (b : Boot) (before acts ls : List Label) (s t u : OneKernel) (p : Pid) (x : PlainProcess) → IsValid b → replay (start b) before ≡ Some s → IsAtHand s p x → NoneOwn s p ls → replay s ls ≡ Some t → AreActs p acts → replay t acts ≡ Some u → First s u acts ls

-- of a process that nobody can reach: what isn't its own leaves it so, and as it is; and all that is its own are acts
pub record StaysSpared (s t : OneKernel) (p : Pid) : Type 0 where
  pub spared : IsSpared t p
  pub same : t.processes p ≡ s.processes p

abbrev pub SparedStays : Type 0
SparedStays =
    (b : Boot) (before : List Label) (s t : OneKernel) (p : Pid) (x : PlainProcess) (l : Label) → IsValid b → replay (start b) before ≡ Some s → IsAtHand s p x → IsSpared s p → (IsOwnStep s p l → ⊥) → step s l ≡ Some t → StaysSpared s t p

abbrev pub OwnAreActs : Type 0
OwnAreActs = (s t : OneKernel) (p : Pid) (x : PlainProcess) (l : Label) → IsAtHand s p x → IsSpared s p → IsOwnStep s p l → step s l ≡ Some t → IsAct p l
