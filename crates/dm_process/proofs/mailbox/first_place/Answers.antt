use Rattle.dm_process.proofs.Names.{◌∙◌, add-one, sym, arith}
use Rattle.dm_process.proofs.Search.{found, not_found}
use Rattle.dm_process.proofs.mailbox.first_place.Goals as goal

pub returns-then-is_on-clause-first : goal.returns-then-is_on-clause-first
returns-then-is_on-clause-first c = λ _.
    c.at.ensures ∙ sym ((found c.args.mask c.args.messages.now c.loop-place.place c.at.result.now c.at.ensures c.loop-place.invariant.none (sym c.if-is_on.ensures)).0)

pub returns-then-is_on-clause-rest : goal.returns-then-is_on-clause-rest
returns-then-is_on-clause-rest c = λ _.
    (found c.args.mask c.args.messages.now c.loop-place.place c.at.result.now c.at.ensures c.loop-place.invariant.none (sym c.if-is_on.ensures)).1

pub loop-place-preserved : goal.loop-place-preserved
loop-place-preserved c =
    record {
      within = omega arith;
      none = rw add-one (not_found c.args.mask c.args.messages.now c.loop-place.place c.at.result.now c.at.ensures c.loop-place.invariant.none (sym c.if-is_on.ensures));
    }
