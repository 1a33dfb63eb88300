use Rattle.dm_world.proofs.Names.{◌≡◌, arith, length, world_state}
use Rattle.dm_look.specs.Waiting.{given_on}
use Rattle.dm_look.proofs.Finding.{all_found, found_more}
use Rattle.dm_look.proofs.waiting.find_given.Goals as goal

pub loop-to-preserved : goal.loop-to-preserved
loop-to-preserved c =
    let w = world_state c.args.world.now in
    let machines = length c.args.world.now.boot.machines in
    found_more (given_on w c.args.from) c.loop-to.to _ _ _ c.loop-to.invariant c.in_ok-find_on.ensures

pub returns : goal.returns
returns c =
    let w = world_state c.args.world.now in
    let machines = length c.args.world.now.boot.machines in
    let end : c.loop-to.to ≡ machines = omega (arith, c.loop-to.auto.to-end, c.loop-to-test.false, c.machines-to-end.ensures.all) in
    all_found (given_on w c.args.from) c.loop-to.to machines _ _ end c.loop-to.invariant
