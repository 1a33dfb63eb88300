use Rattle.dm_world.proofs.Names.{length, sym, ap, not, arith, ◌∙◌, fails_at, world_state, world_serves}
use Rattle.dm_world.proofs.world.World.none_is_served.Goals as goal

pub returns-then-can_serve : goal.returns-then-can_serve
returns-then-can_serve c =
    let w = c.args.self.now in
    let all = c.machines-m-end.ensures.all in
    let test = c.loop-m-test.true in
    sym (fails_at (length w.boot.machines) (λ a. not (world_serves (world_state w) a)) c.loop-m.m (omega (arith, all, test)) (ap not (sym c.can_serve.ensures ∙ c.if-can_serve.true)))
