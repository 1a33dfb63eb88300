use Rattle.dm_drill.proofs.Names.{◌≡◌, List, ap, refl, sym, ◌∙◌, arith, subst, All, Err, Line, LineFits, appended, World, WorldState, world_state, Way, Does, HasCome, IsCounted, Offered, shown, text_shown, with_group, comes_first, few_come}
use Rattle.dm_drill.proofs.Names.{next_fits, running_come, kept_boot, kept_going, kept_state, kept_world}
use Rattle.dm_drill.proofs.Going.{came_err, comes_counted, counted_none, offer_stops, stops_there}
use Rattle.dm_drill.proofs.drill.drill_directives.Goals as goal

pub groups-init : goal.groups-init
groups-init g c = record {
  world = c.requires.fresh.world;
  running = c.requires.fresh.going;
  boot = refl;
  within = let e = ap (λ (w : Way). w.begun) c.new-way.ensures in omega (arith, e);
  come = comes_first c.args.world.now.boot c.args.directives.now (IsCounted c.args.trace (g.K.Sink.told c.args.out.now) (g.K.Sink.told c.args.out.now) (shown c.args.counts.now)) c.new-way.result (world_state c.args.world.now) c.new-way.ensures c.requires.fresh.first (counted_none c.args.trace (g.K.Sink.told c.args.out.now) (shown c.args.counts.now) c.requires.none);
  steady = refl;
}

pub do_step-requires-clause-running : goal.do_step-requires-clause-running
do_step-requires-clause-running g c =
    running_come c.args.world.now.boot c.args.directives.now (IsCounted c.args.trace (g.K.Sink.told c.args.out.now) (g.K.Sink.told c.groups.out) (shown c.groups.counts)) c.groups.way c.groups.world c.groups.invariant.world c.groups.invariant.running c.groups.invariant.boot c.groups.invariant.come

pub do_step-requires-clause-step : goal.do_step-requires-clause-step
do_step-requires-clause-step g c =
    next_fits c.requires.law c.groups.world.boot c.args.world.now.boot c.args.directives.now (IsCounted c.args.trace (g.K.Sink.told c.args.out.now) (g.K.Sink.told c.groups.out) (shown c.groups.counts)) c.groups.way c.next_step.new.way (world_state c.groups.world) c.in-Some.step
    c.groups.invariant.boot c.requires.fresh.world.valid c.requires.each c.groups.invariant.come c.in-Some.ensures.next

pub do_step-requires-clause-groups : goal.do_step-requires-clause-groups
do_step-requires-clause-groups g c =
    let few = few_come c.requires.law c.args.world.now.boot c.args.directives.now (IsCounted c.args.trace (g.K.Sink.told c.args.out.now) (g.K.Sink.told c.groups.out) (shown c.groups.counts)) c.groups.way (world_state c.groups.world) c.requires.fresh.world.valid c.requires.each c.groups.invariant.come in
    omega (arith, few)

pub groups-preserved : goal.groups-preserved
groups-preserved g c =
    let value = c.as_slice.ensures.value in
    let fit : All LineFits c.in_ok-lines.lines.items = subst (All LineFits) value c.take_lines-taken.ensures.fits in
    record {
      world = kept_world c.do_step.new.world c.keep.new.self c.in_ok-lines.lines c.keep.ensures c.in_ok-lines.ensures.running.world;
      running = kept_going c.do_step.new.world c.keep.new.self c.in_ok-lines.lines c.keep.ensures c.in_ok-lines.ensures.running.going;
      boot = kept_boot c.do_step.new.world c.keep.new.self c.in_ok-lines.lines c.args.world.now.boot c.keep.ensures (c.do_step.ensures.boot ∙ c.groups.invariant.boot);
      within = c.in-Some.ensures.within;
      come = subst (λ (w : WorldState). HasCome c.args.world.now.boot c.args.directives.now (IsCounted c.args.trace (g.K.Sink.told c.args.out.now) (g.K.Sink.told c.take_lines-taken.new.out) (shown c.take_lines-taken.new.counts)) c.next_step.new.way w) (sym (kept_state c.do_step.new.world c.keep.new.self c.in_ok-lines.lines c.keep.ensures))
          (comes_counted c.args.trace c.groups.world.boot c.args.world.now.boot c.args.directives.now c.groups.way c.next_step.new.way (g.K.Sink.told c.args.out.now) (g.K.Sink.told c.groups.out) (g.K.Sink.told c.take_lines-taken.new.out) (shown c.groups.counts) (shown c.take_lines-taken.new.counts) (world_state c.groups.world) (world_state c.do_step.new.world) c.in-Some.step c.in_ok-lines.lines.items
          c.groups.invariant.boot c.groups.invariant.come c.in-Some.ensures.next c.in_ok-lines.ensures.does fit
          (c.in_ok-taken.ensures.says ∙ ap (λ (ls : List Line). appended (g.K.Sink.told c.groups.out) (text_shown c.args.trace ls)) value)
          (c.in_ok-taken.ensures.counted ∙ ap (λ (ls : List Line). with_group (shown c.groups.counts) ls) value));
      steady = c.in_ok-taken.ensures.blames ∙ c.groups.invariant.steady;
    }

pub groups-smaller : goal.groups-smaller
groups-smaller g c =
    let come = (groups-preserved g c).come in
    let few = few_come c.requires.law c.args.world.now.boot c.args.directives.now (IsCounted c.args.trace (g.K.Sink.told c.args.out.now) (g.K.Sink.told c.take_lines-taken.new.out) (shown c.take_lines-taken.new.counts)) c.next_step.new.way (world_state c.keep.new.self) c.requires.fresh.world.valid c.requires.each come in
    let same : c.keep.new.self.groups ≡ c.do_step.new.world.groups = ap (λ (w : World). w.groups) c.keep.ensures in
    let one = c.in_ok-lines.ensures.groups in
    let within = c.in-Some.ensures.within in
    omega (arith, few, same, one, within)

pub returns-in_err-lines-clause-came : goal.returns-in_err-lines-clause-came
returns-in_err-lines-clause-came g c = λ report.
    came_err c.args.trace report c.args.world.now.boot c.args.directives.now (g.K.Sink.told c.args.out.now) (g.K.Sink.told c.groups.out) (shown c.groups.counts) c.do_step.new.world c.from_residual.result c.in_err-lines.field-0.0 c.from_residual.ensures
    (stops_there c.args.trace report c.groups.world.boot c.args.world.now.boot c.args.directives.now c.groups.way c.next_step.new.way (g.K.Sink.told c.args.out.now) (g.K.Sink.told c.groups.out) (shown c.groups.counts) (world_state c.groups.world) c.do_step.new.world c.in-Some.step c.in_err-lines.field-0.0
    c.groups.invariant.boot c.groups.invariant.come c.in-Some.ensures.next c.in_err-lines.ensures.stops)

pub returns-in_err-taken-clause-came : goal.returns-in_err-taken-clause-came
returns-in_err-taken-clause-came g c = λ report.
    let value = c.as_slice.ensures.value in
    let state = kept_state c.do_step.new.world c.keep.new.self c.in_ok-lines.lines c.keep.ensures in
    came_err c.args.trace report c.args.world.now.boot c.args.directives.now (g.K.Sink.told c.args.out.now) (g.K.Sink.told c.take_lines-taken.new.out) (shown c.take_lines-taken.new.counts) c.keep.new.self c.from_residual-in_err-taken.result c.in_err-taken.field-0.0 c.from_residual-in_err-taken.ensures
    (offer_stops c.args.trace report c.groups.world.boot c.args.world.now.boot c.args.directives.now c.groups.way c.next_step.new.way (g.K.Sink.told c.args.out.now) (g.K.Sink.told c.groups.out) (g.K.Sink.told c.take_lines-taken.new.out) (shown c.groups.counts) (world_state c.groups.world) c.keep.new.self c.in-Some.step c.in_ok-lines.lines.items c.in_err-taken.field-0.0
    c.groups.invariant.boot
    (kept_world c.do_step.new.world c.keep.new.self c.in_ok-lines.lines c.keep.ensures c.in_ok-lines.ensures.running.world)
    (kept_boot c.do_step.new.world c.keep.new.self c.in_ok-lines.lines c.args.world.now.boot c.keep.ensures (c.do_step.ensures.boot ∙ c.groups.invariant.boot))
    c.groups.invariant.come c.in-Some.ensures.next
    (subst (λ (w : WorldState). Does c.groups.world.boot (world_state c.groups.world) c.in-Some.step c.in_ok-lines.lines.items w) (sym state) c.in_ok-lines.ensures.does)
    (subst (All LineFits) value c.take_lines-taken.ensures.fits)
    (subst (λ (ls : List Line). Offered {A = Unit {0}} (g.K.Sink.told c.groups.out) (text_shown c.args.trace ls) (g.K.Sink.told c.take_lines-taken.new.out) (Err c.in_err-taken.field-0.0)) value c.in_err-taken.ensures.says))
