use Rattle.std.proofs.Common.{sym, ◌∙◌, ◌&&◌, ◌==◌, arith, length, not, ne_eqb}
use Rattle.std.proofs.lemmas.Bool.{and_from, not_from_false}
use Rattle.dm_explore.specs.Offered.{sight_of}
use Rattle.dm_explore.proofs.Below.{any_below_at}
use Rattle.dm_explore.proofs.finds.waits_from.Goals as goal

pub returns-then-waits : goal.returns-then-waits
returns-then-waits c =
    sym (any_below_at (length c.args.world.now.boot.machines) (λ n. not (c.args.m == n) && (sight_of c.args.world.now).waits c.args.m n) c.loop-to.to (omega arith)
    (and_from (not (c.args.m == c.loop-to.to)) ((sight_of c.args.world.now).waits c.args.m c.loop-to.to) (not_from_false (c.args.m == c.loop-to.to) (ne_eqb c.args.m c.loop-to.to c.if-m-to.true)) (sym c.waits.ensures ∙ c.if-waits.true)))
