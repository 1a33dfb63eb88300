use Rattle.dm_judge.proofs.Names.{◌+◌, ◌++◌, ◌∷◌, [], List, ℕ, ap, drop, map, sym, ◌∙◌, shown_byte}
use Rattle.dm_judge.proofs.Pieces.{map-copied}
use Rattle.dm_judge.proofs.report.put_shown.Goals as goal

pub loop-byte-preserved : goal.loop-byte-preserved
loop-byte-preserved c =
    ap (λ (t : List ℕ). t ++ map shown_byte (drop (c.loop-byte.byte-index + 1) c.args.text.now)) (c.in_ok-push.ensures.items ∙ ap (λ (b : ℕ). c.loop-byte.into.items ++ b ∷ []) c.shown_byte.ensures)
    ∙ (sym (map-copied shown_byte c.loop-byte.into.items c.args.text.now c.loop-byte.byte-index _ c.loop-byte-test.true) ∙ c.loop-byte.invariant)
