-- One register more is set to 0, or none is left.
use Rattle.dm_asm.proofs.Names.{◌≡◌, ◌+◌, ◌-◌, ◌∙◌, ◌++◌, ap, arith, nat_tests, cleared}
use Rattle.dm_asm.proofs.Calling.{cleared-more, cleared-none}
use Rattle.dm_asm.proofs.calls.add_cleared.Goals as goal

pub loop-left-preserved : goal.loop-left-preserved
loop-left-preserved c = record {
  few = grind (arith, nat_tests);
  all =
      ap (λ items. items ++ cleared (c.loop-left.register + 1) (c.loop-left.left - 1)) (c.in_ok-extend_from_slice.ensures.items ∙ ap (λ bytes. c.loop-left.image.items ++ bytes) c.setting.ensures)
      ∙ cleared-more c.loop-left.image.items c.loop-left.register c.loop-left.left (grind (arith, nat_tests))
      ∙ c.loop-left.invariant.all;
}

pub returns : goal.returns
returns c =
    let none : c.loop-left.left ≡ 0 = grind (arith, nat_tests) in
    cleared-none c.loop-left.image.items c.loop-left.register c.loop-left.left none ∙ c.loop-left.invariant.all
