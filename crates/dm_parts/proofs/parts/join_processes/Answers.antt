use Rattle.std.proofs.Common.{◌∙◌, ◌+◌, ap, sym, drop}
use Rattle.dm_parts.specs.Parts.{with_links, with_processes}
use Rattle.dm_parts.proofs.Loops.{processes-end, processes-more}
use Rattle.dm_parts.proofs.parts.join_processes.Goals as goal

pub loop-place-preserved : goal.loop-place-preserved
loop-place-preserved c =
    ap (λ parts. with_processes c.args.boot.now (c.loop-place.place + 1) parts (drop (c.loop-place.place + 1) c.args.processes.now)) (c.join_links.ensures ∙ ap (with_links c.args.boot.now c.loop-place.place c.loop-place.parts) c.as_slice.ensures)
    ∙ (processes-more c.args.boot.now c.loop-place.parts c.args.processes.now c.loop-place.place c.index-processes-place.result c.loop-place-test.true c.index-processes-place.is ∙ c.loop-place.invariant)

pub returns : goal.returns
returns c = sym (processes-end c.args.boot.now c.loop-place.parts c.args.processes.now c.loop-place.place c.loop-place-test.false) ∙ c.loop-place.invariant
