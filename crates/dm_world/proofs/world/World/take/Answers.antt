use Rattle.dm_world.proofs.Names.{◌+◌, refl, so_far, with_items, world_state}
use Rattle.dm_schedule.specs.declared.Step.TheVariants as step
use Rattle.dm_world.proofs.Delivering.{arriving}
use Rattle.dm_world.proofs.Rereading.{packet_back}
use Rattle.dm_world.proofs.Stepping.{took, world_stays, written}
use Rattle.dm_world.proofs.world.World.take.Goals as goal

pub returns-clause-meets : goal.returns-clause-meets
returns-clause-meets c =
    let old = c.args.self.now in
    let ys = c.receive.new.nodes in
    let now = record old { nodes = with_items old.nodes ys; wires = c.receive.new.wires; lines = c.begun.new.kept; groups = old.groups + 1 } in
    let head = c.in_ok-lines.lines.items in
    let said = c.receive.new.lines.items in
    let e = step.Deliver c.args.a c.args.b c.args.k in
    let acts = rw c.deref_mut.ensures.value at c.in_ok-receive.ensures in
    let are = written old.nodes ys acts.size in
    record {
      answers = took old now ys c.mark.new.self e c.args.a c.args.b c.args.k c.args.packet head said (arriving (world_state old) e c.args.a c.args.b c.args.k c.args.packet c.requires.packet c.requires.may.3)
          c.mark.ensures acts c.in_ok-lines.ensures are (record { ended = λ p. refl; groups = refl; boot = refl });
      world = world_stays old now ys c.args.b (so_far c.mark.new.self head) (so_far now.wires said) _ c.requires.world acts are refl;
      again = packet_back (world_state old) c.args.a c.args.b c.args.k c.args.packet c.requires.packet c.requires.may.3 acts.outs.again;
      whole = tt;
      boot = refl;
    }
