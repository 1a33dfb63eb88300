-- A step whose last part lacks memory, or is done.
use Rattle.std.specs.Prelude.{◌≡◌, IfErr, OnOk}
use Rattle.std.proofs.Common.{sym, ap, ◌∙◌}
use Rattle.std.specs.declared.option.Option.{Option}
use Rattle.std.specs.declared.option.Option.TheVariants.{Some}
use Rattle.std.specs.declared.result.Result.{Result}
use Rattle.std.specs.declared.result.Result.TheVariants.{Ok, Err}
use Rattle.dm_onekernel.specs.declared.boot.Boot.{Boot}
use Rattle.dm_onekernel.specs.Kernel.{OneKernel}
use Rattle.dm_replay.specs.declared.kernel.Kernel.{Kernel}
use Rattle.dm_replay.specs.declared.kernel.Refusal.{Refusal}
use Rattle.dm_replay.specs.Answers.{Gives, IsRefused}
use Rattle.dm_replay.specs.State.{one_kernel}
use Rattle.dm_replay.specs.Steps.{Becomes}

pub becomes_gives : {A : Type 0} (r : Result A Refusal) (b : Boot) (mid new : Kernel) (change : OneKernel → OneKernel) (wanted : Option OneKernel) → OnOk r (Becomes mid new change) → ((w : Option OneKernel) → IfErr r (λ e. IsRefused e w))
    → wanted ≡ Some (change (one_kernel b mid)) → Gives r (λ _. Some (one_kernel b new)) wanted
becomes_gives (Ok x) b mid new change wanted state memory e = e ∙ ap Some (sym (state b))
becomes_gives (Err f) b mid new change wanted state memory e = memory wanted
