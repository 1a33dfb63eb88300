use Rattle.dm_explain.proofs.Names.{◌≡◌, drop, items_view, view, first_failing, link_keeps}
use Rattle.dm_explain.proofs.told.links.bad_link.Given as goal

abbrev pub invariant-loop-k : goal.invariant-loop-k
invariant-loop-k l = first_failing (λ k x. link_keeps l.rule (view l.document.top.now) x) l.k (items_view (drop l.k l.links)) ≡ first_failing (λ k x. link_keeps l.rule (view l.document.top.now) x) 0 (items_view l.links)
