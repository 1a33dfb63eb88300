use Rattle.std.proofs.Common.{◌∙◌, ◌+◌, ap, sym, drop}
use Rattle.dm_parts.specs.Parts.{with_link, with_links}
use Rattle.dm_parts.proofs.Loops.{links-end, links-more}
use Rattle.dm_parts.proofs.parts.join_links.Goals as goal

pub loop-link-preserved : goal.loop-link-preserved
loop-link-preserved c =
    ap (λ parts. with_links c.args.boot.now c.args.place parts (drop (c.loop-link.link-index + 1) c.args.links.now)) (c.join_link.ensures ∙ ap (with_link c.loop-link.parts c.args.place) c.joins.ensures)
    ∙ (links-more c.args.boot.now c.args.place c.loop-link.parts c.args.links.now c.loop-link.link-index _ c.loop-link-test.true ∙ c.loop-link.invariant)

pub returns : goal.returns
returns c = sym (links-end c.args.boot.now c.args.place c.loop-link.parts c.args.links.now c.loop-link.link-index c.loop-link-test.false) ∙ c.loop-link.invariant
