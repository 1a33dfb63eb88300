use Rattle.dm_world.proofs.Names.{◌≡◌, ◌==◌, false, take, get_or, arith, ap, ◌∙◌, nat_tests}
use Rattle.dm_world.proofs.Ending.{shows_more, shows_same}
use Rattle.dm_world.proofs.end_process.shown.Goals.{then-bytes-place-ne0, else-bytes-place-ne0}
use Rattle.dm_world.proofs.end_process.shown.Goals as goal

pub loop-place-preserved : goal.loop-place-preserved
loop-place-preserved c =
    let bs = c.args.bytes.now in
    let i = c.loop-place.place in
    elim c.if-bytes-place-ne0.branch [
      | then-bytes-place-ne0 w ↦
          let other : (get_or bs i 0 == 0) ≡ false = grind (arith, nat_tests, w.if-bytes-place-ne0.true) in
          record {
            within = omega (arith, w.end-is);
            bytes = ap (λ e. take e bs) w.end-is ∙ shows_more bs i c.loop-place-test.true other;
          }
      | else-bytes-place-ne0 w ↦
          record {
            within = omega (arith, w.end-is, c.loop-place.invariant.within);
            bytes = ap (λ e. take e bs) w.end-is ∙ shows_same bs i c.loop-place.end c.loop-place-test.true w.if-bytes-place-ne0.false c.loop-place.invariant.bytes;
          }
    ]
