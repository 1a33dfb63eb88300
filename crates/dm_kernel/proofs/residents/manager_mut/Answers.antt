-- The record is set to what it ends as, and stays where it isn't that.
use Rattle.dm_kernel.proofs.Names.{◌≡◌, ◌∙◌, refl, ap, sym, Some, IsSome, at, here_of, bind, manager_of, Here}
use Rattle.dm_resident.specs.declared.Resident.TheVariants as resident
use Rattle.dm_kernel.proofs.Known.{has_some, set_same}
use Rattle.dm_kernel.proofs.Standing.{manager_by, known_here}
use Rattle.dm_kernel.proofs.residents.manager_mut.Goals as goal

pub returns-in-Some : goal.returns-in-Some
returns-in-Some c =
    let r = c.in-Some.resident.now in
    let is : here_of (at c.args.records.now c.args.pid) ≡ Some r = sym c.in-Some.ensures.value in
    let there : IsSome (here_of (at c.args.records.now c.args.pid)) = has_some _ r is in
    let as_before = c.here_mut.follows.holds r there in
    ((refl, (λ w s. c.here_mut.follows.holds (resident.Manager w) there), ((λ q. set_same (at c.args.records.now) (at (c.here_mut.follows.lender r) q) c.args.pid q (Here r) (known_here _ r is) (as_before.0 q)), as_before.1)), record { writes_back = tt; value = c.manager_mut.ensures.value ∙ sym (manager_by (at c.args.records.now c.args.pid) ∙ ap (λ h. bind h manager_of) is) })
