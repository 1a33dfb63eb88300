use Rattle.dm_run.proofs.Names.{sym, subst, ◌∙◌, All, EndFits, HidesNothing}
use Rattle.dm_run.proofs.Going.{ends_may}
use Rattle.dm_run.proofs.running.end_lines.Goals as goal

pub end_lines-requires-clause-may : goal.end_lines-requires-clause-may
end_lines-requires-clause-may c = (ends_may c.requires.law c.args.world.now c.requires.running).may

pub returns-clause-fits : goal.returns-clause-fits
returns-clause-fits c =
    let said = c.as_slice.ensures.value in
    subst (All EndFits) said (c.ends_fit.ensures (subst (All HidesNothing) (sym (said ∙ c.in_ok-ends.ensures)) (ends_may c.requires.law c.args.world.now c.requires.running).whole))
