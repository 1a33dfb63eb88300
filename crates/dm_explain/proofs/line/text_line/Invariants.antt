use Rattle.dm_explain.proofs.Names.{◌≡◌, length, slice_get, source_lines, line_at, line_or_nothing}
use Rattle.dm_explain.proofs.line.text_line.Given as goal

abbrev pub invariant-lines : goal.invariant-lines
invariant-lines l = line_or_nothing (slice_get (source_lines l.rest) l.left) ≡ line_at l.n (source_lines l.text)

abbrev pub decreases-lines : goal.decreases-lines
decreases-lines l = length l.rest
