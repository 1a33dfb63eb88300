use Rattle.dm_world.proofs.Names.{◌<◌, ◌++◌, drop, length, arith, ap, ◌∙◌, sym, Some}
use Rattle.std.specs.Prelude.{map}
use Rattle.dm_world.proofs.Ending.{within_some}
use Rattle.dm_look.proofs.Finding.{found_next, map_push}
use Rattle.dm_look.proofs.waiting.find_from.Goals.{in-Some+in_ok-push, in_default}
use Rattle.dm_look.proofs.waiting.find_from.Goals as goal

pub loop-place-preserved : goal.loop-place-preserved
loop-place-preserved c =
    let ms = c.args.stream.now.unacked in
    let i = c.loop-place.place in
    let within : i < length ms = grind (arith, c.loop-place-test.true, c.given.ensures, c.acknowledged.ensures) in
    elim c.match-unacked.branch [
      | in-Some+in_ok-push w ↦
          found_next ms i w.get.result.now (map (λ x. x.now) c.loop-place.found.items) _ (map (λ x. x.now) c.args.found.now.items ++ drop c.args.first ms) (sym w.in-Some.ensures ∙ ap Some (sym w.get.ensures))
          (ap (λ v. map (λ x. x.now) v.items) w.found-is ∙ (ap (map (λ x. x.now)) w.in_ok-push.ensures.items ∙ map_push (λ x. x.now) c.loop-place.found.items w.get.result)) c.loop-place.invariant
      | in_default w ↦ absurd (within_some ms i within (sym w.in_default.ensures))
    ]
