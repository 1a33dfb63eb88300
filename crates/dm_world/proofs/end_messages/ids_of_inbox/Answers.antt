use Rattle.dm_world.proofs.Names.{◌+◌, ◌++◌, drop, arith, ap, ◌∙◌, sym, Some, names_of}
use Rattle.dm_world.proofs.Ending.{names_more}
use Rattle.dm_world.proofs.end_messages.ids_of_inbox.Goals as goal

pub loop-place-preserved : goal.loop-place-preserved
loop-place-preserved c =
    let queue = c.args.inbox.now in
    let i = c.loop-place.place in
    record {
      so_far = ap (λ is. is ++ names_of (drop (i + 1) queue)) c.in_ok-push.ensures.ok ∙ names_more queue i c.get.result.now c.loop-place.ids (names_of queue) (c.at.ensures ∙ ap Some (sym c.get.ensures)) c.loop-place.invariant.so_far;
      within = grind (arith, c.loop-place-test.true, c.len-place-end.ensures);
    }
