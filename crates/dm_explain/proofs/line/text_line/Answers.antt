use Rattle.dm_explain.proofs.Names.{◌≡◌, length, rules, ap, sym, ◌∙◌, slice_get, line_or_nothing}
use Rattle.dm_reading.proofs.LineCuts.{source_lines-none}
use Rattle.dm_explain.proofs.line.text_line.Goals as goal

pub returns : goal.returns
returns c =
    let none : length c.lines.rest.now ≡ 0 = search rules in
    sym (ap (λ ls. line_or_nothing (slice_get ls c.lines.left)) (source_lines-none c.lines.rest.now none)) ∙ c.lines.invariant
