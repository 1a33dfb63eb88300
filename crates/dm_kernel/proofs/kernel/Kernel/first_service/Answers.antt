-- The ring is the same at each process that is looked at.
use Rattle.dm_kernel.proofs.Names.{◌∙◌, add-one, ap, sym, is_some, kernel_state}
use Rattle.dm_kernel.proofs.Rounds.{is_first, none_yet}
use Rattle.dm_kernel.proofs.kernel.Kernel.first_service.Goals as goal

pub loop-place-preserved : goal.loop-place-preserved
loop-place-preserved c =
    record {
      unchanged = c.service_of.ensures.unchanged ∙ c.loop-place.invariant.unchanged;
      none = rw add-one (none_yet (kernel_state c.loop-place.self) (kernel_state c.service_of.new.self) c.loop-place.place c.at-pid.result.now c.service_of.ensures.unchanged c.at-pid.ensures c.loop-place.invariant.none (sym (ap is_some c.in_default.is) ∙ c.service_of.ensures.runnable));
    }

pub returns-in-Some-clause-first : goal.returns-in-Some-clause-first
returns-in-Some-clause-first c =
    is_first (kernel_state c.loop-place.self) (kernel_state c.service_of.new.self) c.loop-place.place c.at-pid.result.now c.service_of.ensures.unchanged c.at-pid.ensures c.loop-place.invariant.none (sym (ap is_some c.in-Some.is) ∙ c.service_of.ensures.runnable)
