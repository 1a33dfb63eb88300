use Rattle.std.proofs.lemmas.Result.{on_ok_weaker}
use Rattle.dm_explore.proofs.Telling.{told_four}
use Rattle.dm_explore.proofs.answer.write_found.Goals as goal

pub returns : goal.returns
returns c =
    on_ok_weaker c.write_heads.result (told_four c.args.into.now.items _ _ _ _ _ _ _ _ c.in_ok-extend_from_slice.ensures.items c.in_ok-write_number.ensures c.in_ok-extend_from_slice-2.ensures.items)
    c.write_heads.ensures
