use Rattle.dm_world.proofs.Names.{◌+◌, ◌<◌, ◌++◌, drop, length, arith, ap, ◌∙◌, sym, Some, names_of}
use Rattle.dm_world.proofs.Ending.{names_more, within_some}
use Rattle.dm_world.proofs.end_messages.ids_from.Goals.{in-Some+in_ok-push, in_default}
use Rattle.dm_world.proofs.end_messages.ids_from.Goals as goal

pub loop-place-preserved : goal.loop-place-preserved
loop-place-preserved c =
    let ms = c.args.stream.now.unacked in
    let i = c.loop-place.place in
    let within : i < length ms = grind (arith, c.loop-place-test.true, c.given.ensures, c.acknowledged.ensures) in
    elim c.match-unacked.branch [
      | in-Some+in_ok-push w ↦
          ap (λ is. is ++ names_of (drop (i + 1) ms)) (w.ids-is ∙ w.in_ok-push.ensures.ok)
          ∙ names_more ms i w.get.result.now c.loop-place.ids (names_of (drop c.args.first ms)) (sym w.in-Some.ensures ∙ ap Some (sym w.get.ensures)) c.loop-place.invariant
      | in_default w ↦ absurd (within_some ms i within (sym w.in_default.ensures))
    ]
