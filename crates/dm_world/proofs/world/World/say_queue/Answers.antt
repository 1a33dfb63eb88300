use Rattle.dm_world.proofs.Names.{◌≡◌, ℕ, ◌<◌, List, length, arith, ap, Option, EndLine, NodeState, record_queue, world_state}
use Rattle.dm_world.proofs.Ending.{found, none_said, still_none}
use Rattle.dm_world.proofs.world.World.say_queue.Goals as goal

pub returns-then-branch : goal.returns-then-branch
returns-then-branch c =
    let m = c.loop-m.m in
    let n = length c.args.self.now.boot.machines in
    let f : ℕ → Option (List EndLine) = λ m. record_queue c.args.pid (((world_state c.args.self.now).nodes m).kernel.records c.args.pid) in
    let within : m < n = grind (arith, c.loop-m-test.true, c.machines-m-end.ensures.all) in
    found f m n c.in_ok-say_known_queue.field-0 _ c.args.lines.now.items c.loop-m.lines.items c.say_known_queue.new.lines.items c.loop-m.invariant.none within
    (ap (λ (s : NodeState). record_queue c.args.pid (s.kernel.records c.args.pid)) c.machine.ensures.state) c.if-branch.true c.loop-m.invariant.same c.in_ok-say_known_queue.ensures

pub loop-m-preserved : goal.loop-m-preserved
loop-m-preserved c =
    let m = c.loop-m.m in
    let f : ℕ → Option (List EndLine) = λ m. record_queue c.args.pid (((world_state c.args.self.now).nodes m).kernel.records c.args.pid) in
    let none = still_none f m c.in_ok-say_known_queue.field-0 _ c.args.lines.now.items c.loop-m.lines.items c.say_known_queue.new.lines.items c.loop-m.invariant.none
    (ap (λ (s : NodeState). record_queue c.args.pid (s.kernel.records c.args.pid)) c.machine.ensures.state) c.if-branch.false c.loop-m.invariant.same c.in_ok-say_known_queue.ensures in
    record { none = none.0; same = none.1 }

pub returns : goal.returns
returns c =
    let n = length c.args.self.now.boot.machines in
    let f : ℕ → Option (List EndLine) = λ m. record_queue c.args.pid (((world_state c.args.self.now).nodes m).kernel.records c.args.pid) in
    let done : c.loop-m.m ≡ n = omega (arith, c.loop-m.auto.m-end, c.loop-m-test.false, c.machines-m-end.ensures.all) in
    none_said f c.loop-m.m n c.args.lines.now.items c.loop-m.lines.items c.loop-m.invariant.none done c.loop-m.invariant.same
