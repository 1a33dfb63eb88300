-- One digit is read.
use Rattle.dm_reading.proofs.Names.{◌∙◌, arith}
use Rattle.dm_reading.proofs.Capped.{digit-read}
use Rattle.dm_reading.proofs.numbers.capped_number.Goals as goal

pub loop-c-preserved : goal.loop-c-preserved
loop-c-preserved c = record {
  small = omega arith;
  same =
      digit-read c.args.base c.args.most c.loop-c.value c.with_digit-value.result c.in-Some.digit c.loop-c.c-index c.args.digits.now c.loop-c-test.true c.in-Some.ensures.value c.with_digit-value.ensures ∙ c.loop-c.invariant.same;
}
