use Rattle.std.specs.Prelude.{◌≡◌, ◌++◌, map, take}
use Rattle.dm_line.specs.declared.line.Line.TheVariants as line
use Rattle.dm_text.specs.Text.{text_of_lines}
use Rattle.dm_explore.proofs.answer.write_heads.Given as goal

-- the lines of the directives so far were written
abbrev pub invariant-loop-step : goal.invariant-loop-step
invariant-loop-step l = l.into.items ≡ l.fn.into.items ++ text_of_lines (take l.step-index (map line.Head l.steps))
