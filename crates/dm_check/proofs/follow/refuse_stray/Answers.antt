use Rattle.dm_check.proofs.follow.refuse_stray.Goals as goal

pub unreachable-requires : goal.unreachable-requires
unreachable-requires c = c.requires.other _ c.in-Ok.ensures.read

pub returns : goal.returns
returns c = record { stray = c.in-Err.stray; is = c.strayed.ensures; strays = c.in-Err.ensures.stray; refused = c.in-Err.ensures.refused }
