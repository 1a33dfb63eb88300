-- From each address the forwards lead to its process, in fewer steps than there are machines.
use Rattle.dm_law_rule.proofs.Names.{Boot, IsValid, first_point, first_trails, refl, sym, subst, arith, IsOn, OwnOn, is_alive}
use Rattle.dm_law_rule.proofs.Homes.Start.{Homes-start}
use Rattle.dm_law_rule.proofs.Trails.Treads.{Treads}
use Rattle.dm_law_rule.proofs.Trails.Start.{trail_start}

pub treads_start : (b : Boot) → IsValid b → Treads (first_point b) first_trails
treads_start b valid =
    let homes = Homes-start b valid in
    let own : OwnOn (first_point b).view (first_point b).addresses first_trails = search arith in
    record {
      trail = λ p. trail_start (is_alive (first_point b).kernel p) b p;
      links = λ h q e. subst (IsOn first_trails q) (sym (homes.home h q e)) refl;
      own = own;
      pending = homes.pending;
    }
