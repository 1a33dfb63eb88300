use Rattle.dm_explain.proofs.Names.{◌≡◌, ◌≤◌, ◌+◌, ◌==◌, take, count_by}
use Rattle.dm_explain.proofs.explain.line_behind.Given as goal

abbrev pub invariant-loop-byte : goal.invariant-loop-byte
invariant-loop-byte l = record { same : l.count ≡ count_by (λ c. c == 10) (take l.byte-index l.before) + 1; most : l.count ≤ l.byte-index + 1 }
