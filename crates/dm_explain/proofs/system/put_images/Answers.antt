use Rattle.dm_explain.proofs.Names.{◌+◌, ◌++◌, List, ℕ, ap, drop, sym, ◌∙◌, items_view, each, image_told}
use Rattle.dm_explain.proofs.Pieces.{each-end, each-more}
use Rattle.dm_explain.proofs.system.put_images.Goals as goal

pub loop-i-preserved : goal.loop-i-preserved
loop-i-preserved c =
    ap (λ (t : List ℕ). t ++ each (image_told (items_view c.args.tables.now)) (c.loop-i.i + 1) (drop (c.loop-i.i + 1) c.args.images.now)) c.in_ok-put_image.ensures
    ∙ (sym (each-more (image_told (items_view c.args.tables.now)) c.loop-i.into.items c.args.images.now c.loop-i.i c.index-images-i.result c.loop-i-test.true c.index-images-i.is) ∙ c.loop-i.invariant)

pub returns : goal.returns
returns c = sym (each-end (image_told (items_view c.args.tables.now)) c.loop-i.into.items c.args.images.now c.loop-i.i c.loop-i-test.false) ∙ c.loop-i.invariant
