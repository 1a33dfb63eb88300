use Rattle.std.specs.Prelude.{◌≡◌, false, take}
use Rattle.std.specs.List.{list_any}
use Rattle.dm_explore.specs.declared.past.Done.{Done}
use Rattle.dm_explore.specs.Past.{delivers}
use Rattle.dm_explore.proofs.past.was_delivered.Given as goal

-- none of those so far delivered it
abbrev pub invariant-loop-each : goal.invariant-loop-each
invariant-loop-each l = list_any (λ (x : Done). delivers l.a l.b l.k x.step) (take l.each-index l.done) ≡ false
