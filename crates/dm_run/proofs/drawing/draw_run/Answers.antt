use Rattle.std.specs.Prelude.{IfOk}
use Rattle.dm_run.proofs.Names.{subst, Boot, Drawn, IsDrawn, by_world}
use Rattle.dm_run.proofs.drawing.draw_run.Goals as goal

pub returns : goal.returns
returns c = subst (λ (b : Boot). IfOk c.draw_world.result (λ (d : Drawn). IsDrawn c.args.part by_world b c.args.directives.now d)) c.in_ok-world.ensures.boot c.draw_world.ensures
