use Rattle.dm_run.proofs.Names.{ap, refl, sym, ◌∙◌, subst, All, Boot, EndFits, world_end_lines, world_state, IsWritten}
use Rattle.dm_run.proofs.Going.{running_come}
use Rattle.dm_run.proofs.Printing.{ended_by, of_first}
use Rattle.dm_run.proofs.directives.run_to_end.Goals as goal

pub end_lines-requires-clause-running : goal.end_lines-requires-clause-running
end_lines-requires-clause-running g c =
    let h = c.in_ok-run_directives.ensures.came in
    running_come c.args.world.now.boot c.args.directives.now (IsWritten (g.K.Sink.told c.args.out.now) (g.K.Sink.told c.run_directives.new.out)) h.ended.way c.run_directives.new.world h.world h.going h.boot h.ended.come

pub returns-in-Ok-clause-ended : goal.returns-in-Ok-clause-ended
returns-in-Ok-clause-ended g c =
    let h = c.in_ok-run_directives.ensures.came in
    ended_by (Unit {0}) c.args.world.now.boot c.args.directives.now (g.K.Sink.told c.args.out.now) (g.K.Sink.told c.run_directives.new.out) (g.K.Sink.told c.offer_ends.new.out) c.run_directives.new.world c.as_slice.result.now c.offer_ends.result h
    (c.as_slice.ensures.value ∙ (c.in-Ok.ensures.ends ∙ ap (λ (b : Boot). world_end_lines b (world_state c.run_directives.new.world)) h.boot))
    (subst (All EndFits) (sym c.as_slice.ensures.value) c.in-Ok.ensures.fits) c.offer_ends.ensures.says

pub returns-clause-ended : goal.returns-clause-ended
returns-clause-ended g c =
    let h = c.in_ok-run_directives.ensures.came in
    of_first c.args.world.now.boot c.args.directives.now h.ended.way (g.K.Sink.told c.args.out.now) (g.K.Sink.told c.run_directives.new.out) (g.K.Sink.told c.run_directives.new.out) (world_state c.run_directives.new.world) h.ended.come refl
