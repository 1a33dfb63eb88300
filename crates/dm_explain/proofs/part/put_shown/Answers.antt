use Rattle.dm_explain.proofs.Names.{◌+◌, ◌++◌, ◌∷◌, [], List, ℕ, ap, drop, map, sym, ◌∙◌, shown_byte}
unfoldable use Rattle.dm_explain.specs.Parts.{shown}
use Rattle.dm_explain.proofs.Pieces.{map-copied, map-end}
use Rattle.dm_explain.proofs.part.put_shown.Goals as goal

pub loop-byte-preserved : goal.loop-byte-preserved
loop-byte-preserved c =
    ap (λ (t : List ℕ). t ++ map shown_byte (drop (c.loop-byte.byte-index + 1) c.args.text.now)) (c.in_ok-push.ensures.items ∙ ap (λ (b : ℕ). c.loop-byte.into.items ++ b ∷ []) c.shown_byte.ensures)
    ∙ (sym (map-copied shown_byte c.loop-byte.into.items c.args.text.now c.loop-byte.byte-index _ c.loop-byte-test.true) ∙ c.loop-byte.invariant)

pub returns : goal.returns
unfolding shown
returns c = sym (map-end shown_byte c.loop-byte.into.items c.args.text.now c.loop-byte.byte-index c.loop-byte-test.false) ∙ c.loop-byte.invariant
