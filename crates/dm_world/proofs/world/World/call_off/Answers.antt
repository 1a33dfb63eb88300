use Rattle.dm_world.proofs.Names.{◌+◌, refl, ended_in, node_in, calls_off, so_far, with_items}
use Rattle.dm_schedule.specs.declared.Step.TheVariants as step
use Rattle.dm_world.proofs.Rereading.{turn_back}
use Rattle.dm_world.proofs.Stepping.{acted_size, turn_stepped, turn_world, written}
use Rattle.dm_world.proofs.world.World.call_off.Goals as goal

pub returns-clause-meets : goal.returns-clause-meets
returns-clause-meets c =
    let old = c.args.self.now in
    let ys = c.call_off.new.nodes in
    let now = record old { nodes = with_items old.nodes ys; wires = c.call_off.new.wires; lines = c.begun.new.kept; groups = old.groups + 1 } in
    let head = c.in_ok-lines.lines.items in
    let said = c.call_off.new.lines.items in
    let before = so_far old.wires head in
    let after = so_far now.wires said in
    let o = calls_off (node_in old.boot old.nodes.items c.args.m) c.args.pid in
    let acts = rw c.deref_mut.ensures.value at c.in_ok-call_off.ensures in
    let are = written old.nodes ys (acted_size old.boot old.nodes.items ys c.args.m before after o acts) in
    record {
      answers = turn_stepped old now ys (ended_in old.ended) (step.CallOff c.args.pid c.args.m) c.args.m head said o acts c.in_ok-lines.ensures are (record { ended = λ p. refl; groups = refl; boot = refl });
      world = turn_world old now ys c.args.m before after o c.requires.world acts are refl;
      again = turn_back old.boot old.nodes.items ys c.args.m before after o acts;
      whole = tt;
      boot = refl;
    }
