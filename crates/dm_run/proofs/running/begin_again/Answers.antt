use Rattle.dm_run.proofs.Names.{ap, sym, ◌∙◌, Boot, WorldState, first_world}
use Rattle.dm_run.proofs.Going.{running_first}
use Rattle.dm_run.proofs.running.begin_again.Goals as goal

pub returns-clause-fresh : goal.returns-clause-fresh
returns-clause-fresh c = record {
  world = c.in_ok-restart.ensures.world;
  going = c.in_ok-restart.ensures.running;
  first = c.in_ok-restart.ensures.state ∙ ap (λ (b : Boot). first_world b) (sym c.restart.ensures.boot);
}

pub returns-clause-running : goal.returns-clause-running
returns-clause-running c = running_first c.restart.new.self (returns-clause-fresh c)

pub returns-clause-groups : goal.returns-clause-groups
returns-clause-groups c = ap (λ (w : WorldState). w.groups) c.in_ok-restart.ensures.state
