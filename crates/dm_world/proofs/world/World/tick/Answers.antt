use Rattle.dm_world.proofs.Names.{◌+◌, refl, ended_in, node_in, so_far, tick}
use Rattle.dm_schedule.specs.declared.Step.TheVariants as step
use Rattle.dm_world.proofs.Stepping.{stepped, world_stays}
use Rattle.dm_world.proofs.world.World.tick.Goals as goal

pub returns-clause-meets : goal.returns-clause-meets
returns-clause-meets c =
    let old = c.args.self.now in
    let now = record old { wires = c.send_again.new.wires; lines = c.begun.new.kept; groups = old.groups + 1 } in
    let head = c.in_ok-lines.lines.items in
    let said = c.send_again.new.lines.items in
    let a = tick (node_in old.boot old.nodes.items c.args.m) in
    let acts = rw c.deref.ensures.value at c.in_ok-send_again.ensures in
    record {
      answers = stepped old now old.nodes.items old.wires (ended_in old.ended) (step.Tick c.args.m) c.args.m head said a acts c.in_ok-lines.ensures refl (record { ended = λ p. refl; groups = refl; boot = refl });
      world = world_stays old now old.nodes.items c.args.m (so_far old.wires head) (so_far now.wires said) a c.requires.world acts refl refl;
      again = acts.outs.again;
      whole = tt;
      boot = refl;
    }
