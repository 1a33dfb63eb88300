use Rattle.dm_check.proofs.Names.{rules, arith, ◌≡◌, ◌==◌, ◌∙◌, ◌+◌, ◌-◌, List, [], ap, sym, subst, true, false, All, EndLine, IsFull, ends_of, EndFits, pieces, length, world_state, CheckError, RefusedSo, Refused, EndsStray, StraysEnd, judged_from}
use Rattle.dm_check.specs.Judge as judge
use Rattle.dm_check.proofs.Ending.{ended_by, full_there}
use Rattle.dm_check.proofs.Judging.{at_text_end, none_left}
use Rattle.dm_check.proofs.Straying.{between_judged, end_judged}
use Rattle.dm_check.proofs.trace.is_ended.Goals as goal

pub returns-then-is_empty-clause-verdict : goal.returns-then-is_empty-clause-verdict
returns-then-is_empty-clause-verdict c = λ k es gs s r.
    let none : c.args.text.now ≡ [] = none_left c.args.text.now (sym c.is_empty.ensures ∙ c.if-is_empty.true) in
    ap (λ t. judged_from k (judge.Head es) c.args.number (pieces 10 t)) none ∙ at_text_end k (judge.Head es) c.args.number

pub returns-in-Ok-follow_ends-clause-verdict : goal.returns-in-Ok-follow_ends-clause-verdict
returns-in-Ok-follow_ends-clause-verdict c = λ k es gs s r.
    let begins : c.begins_end.result ≡ true = search rules in
    let said : c.as_slice.result.now ≡ ends_of c.args.world.now.boot (world_state c.args.world.now) = c.as_slice.ensures.value ∙ c.in-Ok.ensures.ends in
    ended_by c.args.world.now.boot k es gs (world_state c.args.world.now) c.args.number c.args.text.now c.as_slice.result.now s r said c.requires.no_head (sym c.begins_end.ensures ∙ begins)
    ∙ c.in-Ok-follow_ends.ensures.ended k (length es) (full_there c.args.world.now.boot k es gs (world_state c.args.world.now) c.as_slice.result.now s r said)

pub returns-in-Ok-follow_ends-clause-fits : goal.returns-in-Ok-follow_ends-clause-fits
returns-in-Ok-follow_ends-clause-fits c = subst (λ (ends : List EndLine). All EndFits ends) c.in-Ok.ensures.ends c.in-Ok.ensures.fits

pub returns-then-not-begins_end-clause-refused : goal.returns-then-not-begins_end-clause-refused
returns-then-not-begins_end-clause-refused c =
    let some : (length c.args.text.now == 0) ≡ false = sym c.is_empty.ensures ∙ c.if-is_empty.false in
    let other : c.begins_end.result ≡ false = search rules in
    between_judged c.args.world.now.boot (world_state c.args.world.now) c.args.number c.args.text.now c.unless_none.result c.refuse.result c.refuse.ensures some c.requires.no_head (sym c.begins_end.ensures ∙ other) c.unless_none.ensures

pub returns-in-Err-Refused-clause-refused : goal.returns-in-Err-Refused-clause-refused
returns-in-Err-Refused-clause-refused c = λ k es gs s went.
    let b = c.args.world.now.boot in
    let w = world_state c.args.world.now in
    let begins : c.begins_end.result ≡ true = search rules in
    let ends : List EndLine = c.in-Ok.ends.items in
    let said : k.ends es ≡ ends = s.ends es gs w went ∙ sym c.in-Ok.ensures.ends in
    let full : All IsFull ends = full_there b k es gs w ends s went c.in-Ok.ensures.ends in
    let strays : StraysEnd ends c.args.text.now c.args.number c.in-Err-Refused.line =
    subst (λ (x : CheckError). EndsStray ends c.args.text.now c.args.number x) c.in-Err-Refused.field-0-is
    (subst (λ (xs : List EndLine). EndsStray xs c.args.text.now c.args.number c.in-Err-Refused.field-0) c.as_slice.ensures.value c.in-Err-Refused.ensures.stray) in
    let refused : judged_from k (judge.End ends (length es)) c.args.number (pieces 10 c.args.text.now) ≡ Refused c.in-Err-Refused.line c.in-Err-Refused.fault =
    subst (RefusedSo (judged_from k (judge.End ends (length es)) c.args.number (pieces 10 c.args.text.now))) c.in-Err-Refused.field-0-is
    (subst (λ (xs : List EndLine). All IsFull xs → RefusedSo (judged_from k (judge.End xs (length es)) c.args.number (pieces 10 c.args.text.now)) c.in-Err-Refused.field-0) c.as_slice.ensures.value (c.in-Err-Refused.ensures.refused k (length es)) full) in
    let there : c.in-Err-Refused.line ≡ c.args.number + strays.index = strays.counted in
    end_judged b k es ends c.args.number c.args.text.now c.in-Err-Refused.line c.in-Err-Refused.fault c.due_end.result (c.in-Err-Refused.line - c.args.number) c.refuse-in-Err-Refused.result c.refuse-in-Err-Refused.ensures c.due_end.ensures (omega (arith, there)) said
    c.in-Ok.ensures.fits full c.requires.no_head (sym c.begins_end.ensures ∙ begins) strays refused
