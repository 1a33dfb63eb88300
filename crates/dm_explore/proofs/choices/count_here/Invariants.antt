use Rattle.std.specs.Prelude.{◌≡◌, ◌≤◌, take}
use Rattle.dm_explore.specs.Past.{count_of, is_same}
use Rattle.dm_explore.proofs.choices.count_here.Given as goal

-- those so far are counted
abbrev pub invariant-loop-other : goal.invariant-loop-other
invariant-loop-other l = record { counted : l.count ≡ count_of (λ d. is_same d l.step) (take l.other-index l.requests); few : l.count ≤ l.other-index }
