use Rattle.dm_world.proofs.Names.{◌≡◌, arith, joined_below, length, world_state}
use Rattle.dm_look.specs.Waiting.{kept_of_home, kept_of_servers}
use Rattle.dm_look.proofs.Finding.{all_found, found_more, two_found}
use Rattle.dm_look.proofs.waiting.find_kept.Goals as goal

pub loop-home-preserved : goal.loop-home-preserved
loop-home-preserved c =
    let w = world_state c.args.world.now in
    let machines = length c.args.world.now.boot.machines in
    found_more (kept_of_home w c.args.m) c.loop-home.home _ _ _ c.loop-home.invariant c.in_ok-find_of_home.ensures

pub returns : goal.returns
returns c =
    let w = world_state c.args.world.now in
    let machines = length c.args.world.now.boot.machines in
    let end : c.loop-home.home ≡ machines = omega (arith, c.loop-home.auto.home-end, c.loop-home-test.false, c.machines-home-end.ensures.all) in
    two_found (kept_of_servers w c.args.m) (joined_below (kept_of_home w c.args.m) machines) _ _ _ c.in_ok-find_of_servers.ensures
    (all_found (kept_of_home w c.args.m) c.loop-home.home machines _ _ end c.loop-home.invariant)
