use Rattle.dm_run.proofs.Names.{ap, refl, ◌∙◌, arith, world_state, Way, Keeps}
use Rattle.dm_chart.specs.declared.kept.Kept.{Kept}
use Rattle.dm_run.proofs.Going.{comes_first, few_come, next_fits, running_come}
use Rattle.dm_run.proofs.Pictures.{collected_err, comes_kept, stops_kept}
use Rattle.dm_run.proofs.collect.collect.Goals as goal

pub groups-init : goal.groups-init
groups-init c = record {
  world = c.requires.fresh.world;
  running = c.requires.fresh.going;
  boot = refl;
  within = let e = ap (λ (w : Way). w.begun) c.new-way.ensures in omega (arith, e);
  come = comes_first c.args.world.now.boot c.args.directives.now (Keeps c.args.kept.now.part c.args.kept.now) c.new-way.result (world_state c.args.world.now) c.new-way.ensures c.requires.fresh.first c.requires.none;
  rows = let e = ap (λ (k : Kept). k.rows) c.requires.none in omega (arith, e);
}

pub step_on-requires-clause-running : goal.step_on-requires-clause-running
step_on-requires-clause-running c =
    running_come c.args.world.now.boot c.args.directives.now (Keeps c.args.kept.now.part c.groups.kept) c.groups.way c.groups.world c.groups.invariant.world c.groups.invariant.running c.groups.invariant.boot c.groups.invariant.come

pub step_on-requires-clause-step : goal.step_on-requires-clause-step
step_on-requires-clause-step c =
    next_fits c.requires.law c.groups.world.boot c.args.world.now.boot c.args.directives.now (Keeps c.args.kept.now.part c.groups.kept) c.groups.way c.next_step.new.way (world_state c.groups.world) c.in-Some.step
    c.groups.invariant.boot c.requires.fresh.world.valid c.requires.each c.groups.invariant.come c.in-Some.ensures.next

pub step_on-requires-clause-groups : goal.step_on-requires-clause-groups
step_on-requires-clause-groups c =
    let few = few_come c.requires.law c.args.world.now.boot c.args.directives.now (Keeps c.args.kept.now.part c.groups.kept) c.groups.way (world_state c.groups.world) c.requires.fresh.world.valid c.requires.each c.groups.invariant.come in
    omega (arith, few)

pub groups-preserved : goal.groups-preserved
groups-preserved c = record {
  world = c.in_ok-lines.ensures.running.world;
  running = c.in_ok-lines.ensures.running.going;
  boot = c.step_on.ensures.boot ∙ c.groups.invariant.boot;
  within = c.in-Some.ensures.within;
  come = comes_kept c.args.kept.now.part c.groups.world.boot c.args.world.now.boot c.args.directives.now c.groups.way c.next_step.new.way c.groups.kept c.keep.new.kept (world_state c.groups.world) (world_state c.step_on.new.world) c.in-Some.step c.in_ok-lines.lines.items
      c.groups.invariant.boot c.groups.invariant.come c.in-Some.ensures.next c.in_ok-lines.ensures.does c.in_ok-keep.ensures.kept;
  rows = c.in_ok-keep.ensures.rows;
}

pub groups-smaller : goal.groups-smaller
groups-smaller c =
    let come = (groups-preserved c).come in
    let few = few_come c.requires.law c.args.world.now.boot c.args.directives.now (Keeps c.args.kept.now.part c.keep.new.kept) c.next_step.new.way (world_state c.step_on.new.world) c.requires.fresh.world.valid c.requires.each come in
    let one = c.in_ok-lines.ensures.groups in
    let within = c.in-Some.ensures.within in
    omega (arith, few, one, within)

pub returns-in_err-lines : goal.returns-in_err-lines
returns-in_err-lines c = record {
  came = collected_err c.args.kept.now.part c.args.world.now.boot c.args.directives.now c.groups.kept (world_state c.step_on.new.world) c.from_residual.result c.in_err-lines.field-0.0 c.from_residual.ensures
      (stops_kept c.args.kept.now.part c.groups.world.boot c.args.world.now.boot c.args.directives.now c.groups.way c.next_step.new.way c.groups.kept (world_state c.groups.world) (world_state c.step_on.new.world) c.in-Some.step c.in_err-lines.field-0.0
      c.groups.invariant.boot c.groups.invariant.come c.in-Some.ensures.next c.in_err-lines.ensures.worn);
}
