use Rattle.dm_run.proofs.Names.{◌≡◌, ◌≤◌, ap, refl, ◌∙◌, arith, inl, inr, world_state}
use Rattle.dm_run.specs.declared.way.Way.{Way}
use Rattle.dm_run.proofs.Going.{comes_first, ends_there, few_come, next_fits, running_first}
use Rattle.dm_look.specs.Groups.{Keeps}
use Rattle.dm_look.proofs.Going.{came_err, comes_kept, keeps_none, stops_looked}
use Rattle.dm_look.proofs.groups.go_to.Goals as goal

pub loop-init : goal.loop-init
loop-init c = record {
  running = running_first c.args.world.now c.requires.fresh;
  boot = refl;
  within = let e = ap (λ (w : Way). w.begun) c.new-way.ensures in omega (arith, e);
  come = comes_first c.args.world.now.boot c.args.directives.now (Keeps 0 c.new-last.result.items) c.new-way.result (world_state c.args.world.now) c.new-way.ensures c.requires.fresh.first (keeps_none c.new-last.result.items c.new-last.ensures.items);
}

pub step_on-requires-clause-running : goal.step_on-requires-clause-running
step_on-requires-clause-running c = c.loop.invariant.running

pub step_on-requires-clause-step : goal.step_on-requires-clause-step
step_on-requires-clause-step c =
    next_fits c.requires.law c.loop.world.boot c.args.world.now.boot c.args.directives.now (Keeps c.loop.counter c.loop.last.items) c.loop.way c.next_step.new.way (world_state c.loop.world) c.in-Some.step
    c.loop.invariant.boot c.requires.fresh.world.valid c.requires.each c.loop.invariant.come c.in-Some.ensures.next

pub step_on-requires-clause-groups : goal.step_on-requires-clause-groups
step_on-requires-clause-groups c =
    let few = few_come c.requires.law c.args.world.now.boot c.args.directives.now (Keeps c.loop.counter c.loop.last.items) c.loop.way (world_state c.loop.world) c.requires.fresh.world.valid c.requires.each c.loop.invariant.come in
    omega (arith, few)

pub loop-preserved : goal.loop-preserved
loop-preserved c = record {
  running = c.in_ok-lines-in-Some.ensures.running;
  boot = c.step_on.ensures.boot ∙ c.loop.invariant.boot;
  within = c.in-Some.ensures.within;
  come = comes_kept c.loop.world.boot c.args.world.now.boot c.args.directives.now c.loop.way c.next_step.new.way c.loop.counter c.loop.last.items c.in_ok-lines-in-Some.lines.items (world_state c.loop.world) (world_state c.step_on.new.world) c.in-Some.step
      c.loop.invariant.boot c.loop.invariant.come c.in-Some.ensures.next c.in_ok-lines-in-Some.ensures.does;
}

pub returns-in_err-lines-in-Some : goal.returns-in_err-lines-in-Some
returns-in_err-lines-in-Some c =
    came_err c.args.world.now.boot c.args.directives.now c.args.most c.step_on.new.world c.from_residual.result c.in_err-lines-in-Some.field-0.0 c.from_residual.ensures
    (stops_looked c.loop.world.boot c.args.world.now.boot c.args.directives.now c.loop.way c.next_step.new.way c.args.most c.loop.counter c.loop.last.items (world_state c.loop.world) c.step_on.new.world c.in-Some.step c.in_err-lines-in-Some.field-0.0
    c.loop.invariant.boot c.loop-test.true c.loop.invariant.come c.in-Some.ensures.next c.in_err-lines-in-Some.ensures.worn)

pub returns-in-None : goal.returns-in-None
returns-in-None c =
    let end = ends_there c.loop.world.boot c.args.world.now.boot c.args.directives.now (Keeps c.loop.counter c.loop.last.items) c.loop.way c.next_step.new.way (world_state c.loop.world) c.loop.invariant.boot c.loop.invariant.come c.in-None.ensures.next in
    let few : c.loop.counter ≤ c.args.most = omega (arith, c.loop-test.true) in
    record { running = c.loop.invariant.running; boot = c.loop.invariant.boot; way = end.way; count = c.loop.counter; come = end.come; few = few; enough = inr end.done }

pub returns : goal.returns
returns c =
    let all : c.loop.counter ≡ c.args.most = omega (arith, c.loop-test.false, c.loop.auto.counter-end) in
    let few : c.loop.counter ≤ c.args.most = omega (arith, all) in
    record { running = c.loop.invariant.running; boot = c.loop.invariant.boot; way = c.loop.way; count = c.loop.counter; come = c.loop.invariant.come; few = few; enough = inl all }
