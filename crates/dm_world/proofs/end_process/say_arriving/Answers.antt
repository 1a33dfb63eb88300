use Rattle.dm_world.proofs.Names.{length, refl, sym}
use Rattle.dm_migrate.specs.Arrival.{restarted}
use Rattle.dm_world.proofs.Ending.{come_said}
use Rattle.dm_world.proofs.end_process.say_arriving.Goals as goal

pub returns-in_ok-say_arrived-in-Nothing : goal.returns-in_ok-say_arrived-in-Nothing
returns-in_ok-say_arrived-in-Nothing c =
    let b = c.args.boot.now in
    let a = c.args.arriving.now in
    come_said b a c.args.m c.args.pid (restarted (length b.machines) (length b.images) a) c.args.lines.now.items c.say_arrived.new.lines.items (sym c.in-Nothing.ensures) refl c.in_ok-say_arrived-in-Nothing.ensures
