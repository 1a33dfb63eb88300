use Rattle.dm_cmd_check.proofs.Names.{List, ℕ, refl, subst, good_verdict, IsPrinted, ComesTo, RefusedBy, CheckError}
use Rattle.dm_check.specs.declared.stop.CheckError.TheVariants as no
use Rattle.dm_cmd_check.proofs.check.check.Goals as goal

pub returns-in-Ok-clause-says : goal.returns-in-Ok-clause-says
returns-in-Ok-clause-says g c =
    c.say_good.ensures.says c.args.traced.boot c.args.traced.trace.items (record {
      verdict = subst (λ (bytes : List ℕ). ComesTo c.args.traced.boot bytes (good_verdict c.in-Ok.good.groups c.in-Ok.good.ended)) c.as_slice.ensures.value c.in-Ok.ensures.verdict;
      trace = subst (λ (bytes : List ℕ). IsPrinted c.args.traced.boot bytes c.in-Ok.good.groups c.in-Ok.good.ended) c.as_slice.ensures.value c.in-Ok.ensures.good;
    })

pub returns-in-Err-Refused-clause-says : goal.returns-in-Err-Refused-clause-says
returns-in-Err-Refused-clause-says g c =
    let refused : RefusedBy c.args.traced.boot c.args.traced.trace.items (no.Refused c.in-Err-Refused.line c.in-Err-Refused.fault) =
    subst (λ (bytes : List ℕ). RefusedBy c.args.traced.boot bytes (no.Refused c.in-Err-Refused.line c.in-Err-Refused.fault)) c.as_slice.ensures.value
    (subst (λ (e : CheckError). RefusedBy c.args.traced.boot c.as_slice.result.now e) c.in-Err-Refused.field-0-is c.in-Err-Refused.ensures.refused) in
    (record { fault = c.in-Err-Refused.fault; refused = refused; why_is = c.number.ensures }, refl)
