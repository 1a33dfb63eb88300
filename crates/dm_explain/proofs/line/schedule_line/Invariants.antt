use Rattle.dm_explain.proofs.Names.{◌≡◌, length, slice_get, lines, line_at, line_or_nothing}
use Rattle.dm_explain.proofs.line.schedule_line.Given as goal

abbrev pub invariant-lines : goal.invariant-lines
invariant-lines l = line_or_nothing (slice_get (lines l.rest) l.left) ≡ line_at l.n (lines l.text)

abbrev pub decreases-lines : goal.decreases-lines
decreases-lines l = length l.rest
