use Rattle.dm_world.proofs.Names.{length, sym, ◌∙◌, arith, fails_at, world_state, all_heard}
use Rattle.dm_world.proofs.Passes.{not_heard}
use Rattle.dm_world.proofs.world.World.all_heard.Goals as goal

pub returns-then-not-is_heard : goal.returns-then-not-is_heard
returns-then-not-is_heard c =
    let w = c.args.self.now in
    let all = c.machines-to-end.ensures.all in
    let test = c.loop-to-test.true in
    sym (fails_at (length w.boot.machines) (all_heard (world_state w) c.args.m) c.loop-to.to (omega (arith, all, test))
    (not_heard (world_state w) c.args.m c.loop-to.to c.if-m-to.true (sym c.is_heard.ensures ∙ c.if-not-is_heard.true)))
