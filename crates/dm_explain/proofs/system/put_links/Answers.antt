use Rattle.dm_explain.proofs.Names.{◌+◌, ◌++◌, List, ℕ, ap, drop, sym, ◌∙◌, each, link_told}
use Rattle.dm_explain.proofs.Pieces.{each-copied, each-end}
use Rattle.dm_explain.proofs.system.put_links.Goals as goal

pub loop-k-preserved : goal.loop-k-preserved
loop-k-preserved c =
    ap (λ (t : List ℕ). t ++ each link_told (c.loop-k.k + 1) (drop (c.loop-k.k + 1) c.args.links.now)) c.in_ok-put_link.ensures
    ∙ (sym (each-copied link_told c.loop-k.into.items c.args.links.now c.loop-k.k _ c.loop-k-test.true) ∙ c.loop-k.invariant)

pub returns : goal.returns
returns c = sym (each-end link_told c.loop-k.into.items c.args.links.now c.loop-k.k c.loop-k-test.false) ∙ c.loop-k.invariant
