use Rattle.dm_world.proofs.Names.{◌≡◌, ◌∙◌, ap, arith, length, joined_below, world_state}
use Rattle.dm_look.specs.Waiting.{waiting, waiting_at}
use Rattle.dm_look.proofs.waiting.find_waiting.Goals as goal

pub returns : goal.returns
unfolding waiting
returns c =
    let w = world_state c.args.world.now in
    let machines = length c.args.world.now.boot.machines in
    let end : c.loop-m.m ≡ machines = omega (arith, c.loop-m.auto.m-end, c.loop-m-test.false, c.machines-m-end.ensures.all) in
    c.loop-m.invariant ∙ ap (joined_below (λ m. waiting_at machines w m)) end
