use Rattle.dm_world.proofs.Names.{ℕ, ◌<◌, List, length, arith, ap, subst, sym, Option, EndLine, NodeState, record_kept, world_state}
use Rattle.std.specs.Option.{IfSome}
use Rattle.dm_world.specs.Ends.{KnownHasPlainEnd}
use Rattle.dm_world.proofs.Ending.{found_some, still_none}
use Rattle.dm_world.proofs.world.World.say_kept_had.Goals as goal

pub returns-then-branch : goal.returns-then-branch
returns-then-branch c =
    let m = c.loop-m.m in
    let n = length c.args.self.now.boot.machines in
    let f : ℕ → Option (List EndLine) = λ m. record_kept (((world_state c.args.self.now).nodes m).kernel.records c.args.pid) in
    let within : m < n = grind (arith, c.loop-m-test.true, c.machines-m-end.ensures.all) in
    found_some f m n c.in_ok-say_kept_here.field-0 _ c.args.lines.now.items c.loop-m.lines.items c.say_kept_here.new.lines.items c.loop-m.invariant.none within
    (ap (λ (s : NodeState). record_kept (s.kernel.records c.args.pid)) c.machine.ensures.state) c.if-branch.true c.loop-m.invariant.same c.in_ok-say_kept_here.ensures

pub loop-m-preserved : goal.loop-m-preserved
loop-m-preserved c =
    let m = c.loop-m.m in
    let f : ℕ → Option (List EndLine) = λ m. record_kept (((world_state c.args.self.now).nodes m).kernel.records c.args.pid) in
    let none = still_none f m c.in_ok-say_kept_here.field-0 _ c.args.lines.now.items c.loop-m.lines.items c.say_kept_here.new.lines.items c.loop-m.invariant.none
    (ap (λ (s : NodeState). record_kept (s.kernel.records c.args.pid)) c.machine.ensures.state) c.if-branch.false c.loop-m.invariant.same c.in_ok-say_kept_here.ensures in
    record { none = none.0; same = none.1 }

pub say_kept_here-requires : goal.say_kept_here-requires
say_kept_here-requires c =
    let m = c.loop-m.m in
    let n = length c.args.self.now.boot.machines in
    let within : m < n = grind (arith, c.loop-m-test.true, c.machines-m-end.ensures.all) in
    subst (λ (s : NodeState). IfSome (s.kernel.records c.args.pid) KnownHasPlainEnd) (sym c.machine.ensures.state) (c.requires.may.servers m within c.args.pid)
