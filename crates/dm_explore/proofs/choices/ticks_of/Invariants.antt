use Rattle.std.specs.Prelude.{◌≡◌, ◌≤◌, take}
use Rattle.dm_explore.specs.declared.past.Done.{Done}
use Rattle.dm_explore.specs.Past.{count_of, is_tick}
use Rattle.dm_explore.proofs.choices.ticks_of.Given as goal

-- those so far are counted
abbrev pub invariant-loop-each : goal.invariant-loop-each
invariant-loop-each l = record { counted : l.count ≡ count_of (λ (x : Done). is_tick x.step) (take l.each-index l.done); few : l.count ≤ l.each-index }
