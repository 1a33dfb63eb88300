use Rattle.dm_explain.proofs.Names.{◌≡◌, ◌++◌, drop, each, link_told}
use Rattle.dm_explain.proofs.system.put_links.Given as goal

abbrev pub invariant-loop-k : goal.invariant-loop-k
invariant-loop-k l = l.into.items ++ each link_told l.k (drop l.k l.links) ≡ l.initial.into.items ++ each link_told 0 l.links
