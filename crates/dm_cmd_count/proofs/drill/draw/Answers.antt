use Rattle.dm_cmd_count.proofs.Names.{ℕ, subst, sym, All, IsFor}
use Rattle.dm_cmd_count.proofs.Drills.{all_for}
use Rattle.dm_cmd_count.proofs.drill.draw.Goals as goal

pub returns-clause-each : goal.returns-clause-each
returns-clause-each c =
    subst (λ (n : ℕ). All (IsFor n) c.in_ok-directives.directives.items) (sym c.in_ok-boot.ensures.machines)
    (all_for c.args.drill.now.machines c.in_ok-directives.directives.items c.in_ok-directives.ensures.each)
