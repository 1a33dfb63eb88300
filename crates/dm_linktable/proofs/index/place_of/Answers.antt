use Rattle.dm_linktable.proofs.Names.{rules, answers_always, Entry}
use Rattle.dm_linktable.proofs.Search.{found}
use Rattle.dm_linktable.proofs.index.place_of.Goals as goal

pub returns : goal.returns
returns c =
    let computes = c.binary_search_by_key.ensures.position (λ (e : Entry). e.receiver) (answers_always _ _ _ (λ f a r q k. search rules)) in
    found c.args.entries.now c.requires c.args.receiver c.binary_search_by_key.result c.binary_search_by_key.ensures.bound computes
