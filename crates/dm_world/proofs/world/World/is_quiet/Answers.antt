use Rattle.dm_world.proofs.Names.{length, sym, ◌&&◌, not, arith, ◌∙◌, all_below, fails_at, world_state, all_heard, world_has_mail}
use Rattle.dm_world.proofs.Passes.{has_some, lacks_heard}
use Rattle.dm_world.proofs.world.World.is_quiet.Goals as goal
use Rattle.dm_world.proofs.world.World.is_quiet.Goals.{then-has_mail-via-then-has_mail, then-has_mail-via-else-has_mail+then-not-all_heard}

pub returns-then-has_mail : goal.returns-then-has_mail
returns-then-has_mail c =
    let w = c.args.self.now in
    let all = c.machines-m-end.ensures.all in
    let test = c.loop-m-test.true in
    sym (fails_at (length w.boot.machines) (λ a. not (world_has_mail (world_state w) a) && all_below (length w.boot.machines) (all_heard (world_state w) a)) c.loop-m.m (omega (arith, all, test))
    (elim c.then-has_mail.branch [
      | then-has_mail-via-then-has_mail v ↦ has_some (world_has_mail (world_state w) c.loop-m.m) (all_below (length w.boot.machines) (all_heard (world_state w) c.loop-m.m)) (sym c.has_mail.ensures ∙ v.if-has_mail.true)
      | then-has_mail-via-else-has_mail+then-not-all_heard v ↦ lacks_heard (world_has_mail (world_state w) c.loop-m.m) (all_below (length w.boot.machines) (all_heard (world_state w) c.loop-m.m)) (sym v.all_heard.ensures ∙ v.if-not-all_heard.true)
    ]))
