use Rattle.dm_check.proofs.Names.{[], sym, subst, world_state, Boot, Went, begins, ComesTo, IfErr, JudgedBy, good_verdict}
use Rattle.std.specs.Result.{IfOk}
use Rattle.dm_check.specs.declared.trace.Good.{Good}
use Rattle.dm_check.proofs.Checks.{checks_begin}
use Rattle.dm_check.proofs.trace.judge_trace.Goals as goal

pub judge_on-requires-clause-begun : goal.judge_on-requires-clause-begun
judge_on-requires-clause-begun c =
    let w = c.in-Ok.world in
    checks_begin w.boot c.args.trace.now (world_state w) (subst (Went w.boot [] []) (sym c.in-Ok.ensures.fresh.first) begins)

pub returns-in-Ok-clause-verdict : goal.returns-in-Ok-clause-verdict
returns-in-Ok-clause-verdict c =
    subst (λ (b : Boot). IfOk c.judge_on.result (λ (g : Good). ComesTo b c.args.trace.now (good_verdict g.groups g.ended))) c.in-Ok.ensures.boot c.judge_on.ensures.verdict

pub returns-in-Ok-clause-refused : goal.returns-in-Ok-clause-refused
returns-in-Ok-clause-refused c = subst (λ (b : Boot). IfErr c.judge_on.result (JudgedBy b c.args.trace.now)) c.in-Ok.ensures.boot c.judge_on.ensures.refused
