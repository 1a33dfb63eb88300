use Rattle.dm_world.proofs.Names.{◌+◌, refl, ap, sym, subst, ℕ, Option, AreReadBack, MeetsSome, asks_at, asks_move, length, arith, ended_in, node_in, seat_of, so_far, with_items, world_state}
use Rattle.dm_world.specs.Readable.{gave_at}
use Rattle.dm_schedule.specs.declared.Step.TheVariants as step
use Rattle.dm_world.proofs.Seats.{may_ask, seat_within}
use Rattle.dm_world.proofs.Rereading.{turn_back}
use Rattle.dm_world.proofs.Stepping.{acted_size, turn_stepped, turn_world, written}
use Rattle.dm_world.proofs.world.World.ask_move_at.Goals as goal

pub returns-clause-meets : goal.returns-clause-meets
returns-clause-meets c =
    let old = c.args.self.now in
    let ys = c.ask_manager.new.nodes in
    let now = record old { nodes = with_items old.nodes ys; wires = c.ask_manager.new.wires; lines = c.begun.new.kept; groups = old.groups + 1 } in
    let head = c.in_ok-lines.lines.items in
    let said = c.ask_manager.new.lines.items in
    let before = so_far old.wires head in
    let after = so_far now.wires said in
    let e = step.Migrate c.args.pid c.args.to in
    let o = asks_move (node_in old.boot old.nodes.items c.args.seat) c.args.pid c.args.to in
    let acts = rw c.deref_mut.ensures.value at c.in_ok-ask_manager.ensures in
    let are = written old.nodes ys (acted_size old.boot old.nodes.items ys c.args.seat before after o acts) in
    record {
      answers = subst (λ (q : Option ℕ). MeetsSome (world_state now) said (asks_at (world_state old) e c.args.pid c.args.to q)) (sym c.requires.seat)
          (turn_stepped old now ys (ended_in old.ended) e c.args.seat head said o acts c.in_ok-lines.ensures are (record { ended = λ p. refl; groups = refl; boot = refl }));
      world = turn_world old now ys c.args.seat before after o c.requires.world acts are refl;
      again = subst (λ (q : Option ℕ). AreReadBack (gave_at (world_state old) c.args.pid c.args.to q)) (sym c.requires.seat) (turn_back old.boot old.nodes.items ys c.args.seat before after o acts);
      whole = tt;
      boot = refl;
    }

pub ask_manager-requires-clause-within : goal.ask_manager-requires-clause-within
ask_manager-requires-clause-within c =
    let w = world_state c.args.self.now in
    let below = seat_within (length c.args.self.now.boot.machines) w.nodes c.args.seat c.requires.seat in
    let size = c.requires.world.machines in
    let same = ap length c.deref_mut.ensures.value in
    omega (arith, below, size, same)

pub ask_manager-requires-clause-may : goal.ask_manager-requires-clause-may
ask_manager-requires-clause-may c =
    let w = world_state c.args.self.now in
    rw c.deref_mut.ensures.value (may_ask w (seat_of (length c.args.self.now.boot.machines) w.nodes) c.args.seat c.requires.seat c.requires.may.1).0

pub ask_manager-requires-clause-lawful : goal.ask_manager-requires-clause-lawful
ask_manager-requires-clause-lawful c =
    let w = world_state c.args.self.now in
    rw c.deref_mut.ensures.value (may_ask w (seat_of (length c.args.self.now.boot.machines) w.nodes) c.args.seat c.requires.seat c.requires.may.1).1
