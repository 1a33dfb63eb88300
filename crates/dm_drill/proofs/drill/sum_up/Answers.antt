use Rattle.dm_drill.proofs.Names.{refl, ◌∙◌, world_state, shown}
use Rattle.dm_drill.proofs.Going.{ended_by, of_first, tells_quiet}
use Rattle.dm_drill.proofs.drill.sum_up.Goals as goal

pub returns-in-Ok-clause-ended : goal.returns-in-Ok-clause-ended
returns-in-Ok-clause-ended g c = λ b ds before h.
    ended_by {A = Unit {0}} c.args.trace c.args.report.now b ds before (g.K.Sink.told c.args.out.now) (g.K.Sink.told c.offer_bytes.new.out) (shown c.args.counts.now) c.args.world.now c.is_quiet-quiet.result c.as_slice.result.now c.offer_bytes.result h
    (tells_quiet b c.args.world.now c.is_quiet-quiet.result h.ended.way h.ended.come.steps h.boot c.is_quiet-quiet.ensures)
    (c.as_slice.ensures.value ∙ c.in-Ok.ensures) c.offer_bytes.ensures.says

pub returns-in-Err-clause-ended : goal.returns-in-Err-clause-ended
returns-in-Err-clause-ended g c = λ b ds before h.
    of_first c.args.trace b ds h.ended.way before (g.K.Sink.told c.args.out.now) (g.K.Sink.told c.args.out.now) (shown c.args.counts.now) (world_state c.args.world.now) h.ended.come refl
