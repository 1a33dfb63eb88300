-- What a row of the code promises.
use Rattle.std.specs.Prelude.{◌≡◌}
use Rattle.std.specs.declared.option.Option.{Option}
use Rattle.std.specs.declared.option.Option.TheVariants.{Some}
use Rattle.std.specs.declared.result.Result.{Result}
use Rattle.dm_onekernel.specs.declared.boot.Boot.{Boot}
use Rattle.dm_onekernel.specs.Kernel.{OneKernel}
use Rattle.dm_replay.specs.declared.kernel.Kernel.{Kernel}
use Rattle.dm_replay.specs.declared.kernel.Refusal.{Refusal}
use Rattle.dm_replay.specs.Answers.{Gives}
use Rattle.dm_replay.specs.State.{one_kernel}

-- the kernel comes to be what the kernel without machines does, if that is a step
abbrev pub Steps : {A : Type 0} → Kernel → Result A Refusal → Kernel → (OneKernel → Option OneKernel) → Type 0
Steps old result new row = (b : Boot) → Gives result (λ _. Some (one_kernel b new)) (row (one_kernel b old))

-- the kernel comes to be this
abbrev pub Becomes : Kernel → Kernel → (OneKernel → OneKernel) → Type 0
Becomes old new change = (b : Boot) → one_kernel b new ≡ change (one_kernel b old)

-- it has taken as many labels, and is a kernel of the same boot file
pub record Stays (old new : Kernel) : Type 0 where
  pub labels : new.labels ≡ old.labels
  pub machines : new.manager.machines ≡ old.manager.machines
  pub images : new.manager.images ≡ old.manager.images
