-- No lines are left.
use Rattle.dm_asm.proofs.Names.{◌≡◌, ◌∙◌, ap, sym, length, arith, nat_tests, place_in, places_of, first_of, place_from}
use Rattle.dm_reading.proofs.LineCuts.{source_lines-none}
use Rattle.dm_asm.proofs.Defined.{first_of-None}
use Rattle.dm_asm.proofs.labels.Labels.of.Goals as goal

pub returns : goal.returns
unfolding places_of
returns c =
    let none : length c.loop-rest.rest.now ≡ 0 = grind (arith, nat_tests) in
    record {
      ok = λ i q.
          (sym (first_of-None (place_in c.loop-rest.labels q))
          ∙ ap (λ ls. first_of (place_in c.loop-rest.labels q) (place_from c.loop-rest.place.line c.loop-rest.place.address ls q)) (sym (source_lines-none c.loop-rest.rest.now none))
          ∙ c.loop-rest.invariant.all q) i;
    }
