use Rattle.dm_kernel.proofs.Names.{◌∙◌, add-one, ap, sym, is_some, at}
use Rattle.dm_kernel.proofs.Ringing.{found, not_found}
use Rattle.dm_kernel.proofs.kernel.Kernel.can_serve.Goals as goal

pub returns-then-is_runnable : goal.returns-then-is_runnable
returns-then-is_runnable c =
    let k = c.args.self.now in
    sym (ap is_some (found (at k.records) k.ring c.loop-place.place c.at.result.now c.at.ensures c.loop-place.invariant (sym c.is_runnable.ensures ∙ c.if-is_runnable.true)))

pub loop-place-preserved : goal.loop-place-preserved
loop-place-preserved c =
    let k = c.args.self.now in
    rw add-one (not_found (at k.records) k.ring c.loop-place.place c.at.result.now c.at.ensures c.loop-place.invariant (sym c.is_runnable.ensures ∙ c.if-is_runnable.false))
