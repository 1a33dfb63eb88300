use Rattle.dm_world.proofs.Names.{◌++◌, ◌∙◌, ℕ, List, ap, length}
use Rattle.dm_migrate.specs.Arrival.{restarted, revived}
use Rattle.dm_resident.specs.declared.Resident.TheVariants as resident
use Rattle.dm_line.specs.declared.end_line.Standing.TheVariants as standing
use Rattle.dm_world.specs.Ends.{alive_lines}
use Rattle.dm_world.proofs.Ending.{arrived_said}
use Rattle.dm_world.proofs.end_process.say_arrived.Goals as goal

pub returns-then-is_process : goal.returns-then-is_process
returns-then-is_process c =
    let b = c.args.boot.now in
    let a = c.args.arriving.now in
    arrived_said c.args.m c.args.pid (resident.Process (revived c.shell.result a.memory)) (restarted (length b.machines) (length b.images) a) c.args.lines.now.items c.say_come.new.lines.items
    (c.shell.ensures.process (length b.machines) (length b.images))
    (c.in_ok-say_come.ensures ∙ ap (λ (bytes : List ℕ). c.args.lines.now.items ++ alive_lines c.args.m c.args.pid standing.Arriving (revived c.shell.result bytes)) c.memory.ensures)

pub returns : goal.returns
returns c =
    let b = c.args.boot.now in
    let a = c.args.arriving.now in
    arrived_said c.args.m c.args.pid c.in_ok-server.server (restarted (length b.machines) (length b.images) a) c.args.lines.now.items c.say_resident.new.lines.items c.in_ok-server.ensures.exact c.in_ok-say_resident.ensures
