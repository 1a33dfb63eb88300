use Rattle.dm_world.proofs.Ending.{all_lines}
use Rattle.dm_world.proofs.world.World.end_lines.Goals as goal

pub returns : goal.returns
returns c =
    all_lines _ _ _ _ _ _ _ _ _ _ _ _ _ _ _ _ _ c.new-lines.ensures.items c.in_ok-push.ensures.items c.in_ok-say_processes.ensures c.in_ok-say_servers.ensures c.in_ok-say_queues.ensures c.in_ok-say_holding.ensures
    c.in_ok-say_inboxes.ensures c.in_ok-say_streams.ensures c.in_ok-push-2.ensures.items
