use Rattle.dm_procman.proofs.Names.{◌∙◌}
use Rattle.dm_procman.proofs.Numbered.{put_behind}
use Rattle.dm_procman.proofs.pending.put_under.Goals as goal

pub returns-clause-ok : goal.returns-clause-ok
returns-clause-ok c = c.in_ok-insert.ensures.entries ∙ put_behind c.args.request.n c.args.ascending.now.entries c.args.request c.requires
