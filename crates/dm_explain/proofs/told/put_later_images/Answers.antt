-- An image more is told, and all behind the last.
use Rattle.dm_explain.proofs.Names.{◌+◌, ◌++◌, List, ℕ, ap, drop, sym, ◌∙◌, items_view, later_images}
use Rattle.dm_explain.proofs.LaterImages.{images-end, images-more}
use Rattle.dm_explain.proofs.told.put_later_images.Goals as goal

pub loop-i-preserved : goal.loop-i-preserved
loop-i-preserved c =
    ap (λ (t : List ℕ). t ++ later_images c.args.file.now c.args.place (c.loop-i.i + 1) (items_view (drop (c.loop-i.i + 1) c.args.images.now))) c.in_ok-put_image_behind.ensures
    ∙ (sym (images-more c.args.file.now c.args.place c.loop-i.into.items c.args.images.now c.loop-i.i c.index-images-i.result c.loop-i-test.true c.index-images-i.is) ∙ c.loop-i.invariant)

pub returns : goal.returns
returns c = sym (images-end c.args.file.now c.args.place c.loop-i.into.items c.args.images.now c.loop-i.i c.loop-i-test.false) ∙ c.loop-i.invariant
