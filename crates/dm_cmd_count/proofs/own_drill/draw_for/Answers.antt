use Rattle.dm_cmd_count.proofs.Drills.{all_for}
use Rattle.dm_cmd_count.proofs.own_drill.draw_for.Goals as goal

pub returns-clause-each : goal.returns-clause-each
returns-clause-each c = all_for c.args.machines c.in_ok-directives.directives.items c.in_ok-directives.ensures.each
