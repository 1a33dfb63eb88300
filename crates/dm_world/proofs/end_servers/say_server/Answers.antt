use Rattle.dm_world.proofs.Names.{◌∙◌, sym}
use Rattle.dm_world.proofs.Ending.{server_at_home, server_elsewhere}
use Rattle.dm_world.proofs.end_servers.say_server.Goals as goal

pub returns-then-is_at_home : goal.returns-then-is_at_home
returns-then-is_at_home c =
    server_at_home c.args.m c.args.pid c.args.standing c.args.sent c.args.lines.now.items _ (sym c.is_at_home.ensures ∙ c.if-is_at_home.true) c.in_ok-push.ensures.items

pub returns : goal.returns
returns c =
    server_elsewhere c.args.m c.args.pid c.args.standing c.args.sent c.args.lines.now.items _ _ (sym c.is_at_home.ensures ∙ c.if-is_at_home.false) c.in_ok-push.ensures.items c.in_ok-push-2.ensures.items
