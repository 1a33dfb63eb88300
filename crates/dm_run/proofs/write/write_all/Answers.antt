use Rattle.dm_run.proofs.Names.{◌∙◌, arith}
use Rattle.dm_run.proofs.Writing.{takes_more, within_rest}
use Rattle.dm_run.proofs.write.write_all.Goals as goal

pub offers-preserved : goal.offers-preserved
offers-preserved g c = record {
  within = within_rest c.args.bytes.now c.offers.done c.in_ok-done.field-0 (omega arith) c.in_ok-done.ensures.within;
  taken = takes_more _ _ _ c.args.bytes.now c.offers.done c.in_ok-done.field-0 c.offers.invariant.taken c.in_ok-done.ensures.takes;
  steady = c.in_ok-done.ensures.steady ∙ c.offers.invariant.steady;
}
