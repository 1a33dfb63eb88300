-- The directives so far, and behind them what the lines that are left say, are all.
use Rattle.dm_schedule.proofs.Names.{◌≡◌, ◌+◌, ◌≤◌, length, lines, lines_from, directives_of}
use Rattle.dm_schedule.proofs.Following.{before}
use Rattle.dm_schedule.proofs.read_schedule.Given as goal

abbrev pub invariant-loop-rest : goal.invariant-loop-rest
invariant-loop-rest l = record {
  few : l.number + length l.rest ≤ length l.bytes + 1;
  all : before l.directives.items (lines_from l.machines l.number (lines l.rest)) ≡ directives_of l.bytes l.machines;
}

abbrev pub decreases-loop-rest : goal.decreases-loop-rest
decreases-loop-rest l = length l.rest
