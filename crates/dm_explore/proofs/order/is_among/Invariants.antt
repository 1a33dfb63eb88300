use Rattle.std.specs.Prelude.{◌≡◌, false, take}
use Rattle.std.specs.List.{list_any}
use Rattle.dm_explore.specs.Order.{is_put}
use Rattle.dm_explore.proofs.order.is_among.Given as goal

-- none of those so far is it
abbrev pub invariant-loop-put : goal.invariant-loop-put
invariant-loop-put l = list_any (is_put l.a l.b l.k) (take l.put-index l.puts) ≡ false
