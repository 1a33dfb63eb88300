use Rattle.std.specs.Prelude.{◌≡◌, List, take, true}
use Rattle.std.specs.List.{list_all}
use Rattle.dm_explore.specs.Finds.{came}
use Rattle.dm_explore.specs.Noted.{IsPast}
use Rattle.dm_explore.specs.Past.{Did}
use Rattle.dm_explore.proofs.finds.all_came.Given as goal

-- those so far came
abbrev pub invariant-loop-put : goal.invariant-loop-put
invariant-loop-put l = (ds : List Did) → IsPast l.past ds → list_all (came ds) (take l.put-index l.past.puts.items) ≡ true
