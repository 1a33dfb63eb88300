use Rattle.dm_world.proofs.Names.{◌++◌, arith, ap, ◌∙◌, sym, Some}
use Rattle.std.specs.Prelude.{map}
use Rattle.dm_look.proofs.Finding.{found_next, map_push}
use Rattle.dm_look.proofs.waiting.find_in_inbox.Goals as goal

pub loop-place-preserved : goal.loop-place-preserved
loop-place-preserved c = record {
  so_far = found_next c.args.inbox.now c.loop-place.place c.get.result.now (map (λ x. x.now) c.loop-place.found.items) _ (map (λ x. x.now) c.args.found.now.items ++ c.args.inbox.now) (c.at.ensures ∙ ap Some (sym c.get.ensures))
      (ap (map (λ x. x.now)) c.in_ok-push.ensures.items ∙ map_push (λ x. x.now) c.loop-place.found.items c.get.result) c.loop-place.invariant.so_far;
  within = grind (arith, c.loop-place-test.true, c.len-place-end.ensures);
}
