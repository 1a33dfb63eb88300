-- The text begins in what is left of the file, or nowhere.
use Rattle.dm_explain.proofs.Names.{◌≡◌, ◌≤◌, ◌+◌, length, line_before}
use Rattle.dm_explain.proofs.program.place.line_before.Given as goal

abbrev pub invariant-loop-rest : goal.invariant-loop-rest
invariant-loop-rest l = record {
  same : line_before l.text l.line l.rest ≡ line_before l.text 1 l.file;
  few : l.line + length l.rest ≤ 1 + length l.file;
}

abbrev pub decreases-loop-rest : goal.decreases-loop-rest
decreases-loop-rest l = length l.rest
