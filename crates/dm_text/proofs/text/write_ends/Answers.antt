use Rattle.std.proofs.lemmas.List.{take_at, take_all}
use Rattle.dm_text.proofs.Names.{◌≡◌, ◌++◌, length, take, ap, ◌∙◌, arith, end_text, text_of_ends}
use Rattle.dm_text.proofs.Lines.{ends-none, ends-more}
use Rattle.dm_text.proofs.text.write_ends.Goals as goal

pub loop-end-init : goal.loop-end-init
loop-end-init c = ends-none c.args.into.now.items c.args.ends.now

pub loop-end-preserved : goal.loop-end-preserved
loop-end-preserved c = ends-more _ _ _ _ _ _ c.loop-end-test.true c.loop-end.invariant (c.in_default.ensures.written ∙ ap (λ e. c.loop-end.into.items ++ end_text e) c.end-item.is)

pub returns-clause-written : goal.returns-clause-written
returns-clause-written c = c.loop-end.invariant ∙ ap (λ es. c.args.into.now.items ++ text_of_ends es) (take_all c.loop-end.end-index c.args.ends.now c.loop-end-test.false)

pub returns-in-Err-clause-same : goal.returns-in-Err-clause-same
returns-in-Err-clause-same c =
    let into = c.args.into.now in
    let start : length into.items ≡ c.len-len.result = omega arith in
    c.truncate.ensures.items
    ∙ ap (λ t. take c.len-len.result t) (c.in-Err.ensures.same ∙ c.loop-end.invariant)
    ∙ take_at into.items (text_of_ends (take c.loop-end.end-index c.args.ends.now)) c.len-len.result start
