use Rattle.dm_world.proofs.Names.{◌∙◌, ap, refl, sym, subst, tick, Gave, MayAct, HasStreams, Spoke, node_in, node_state, on_ok_weaker, so_far}
use Rattle.dm_world.proofs.Nodes.{acted_still, is_node_at, node_at}
use Rattle.dm_world.proofs.step.send_again.Goals as goal

pub tick-requires-clause-may : goal.tick-requires-clause-may
tick-requires-clause-may c =
    subst MayAct (sym (ap node_state c.index-nodes-from.is ∙ node_at c.args.boot.now c.args.nodes.now c.from.result c.args.m c.index-nodes-from.result c.from.ensures c.requires.within)) c.requires.may

pub tick-requires-clause-streams : goal.tick-requires-clause-streams
tick-requires-clause-streams c = subst HasStreams (sym c.index-nodes-from.is) (is_node_at c.args.nodes.now c.from.result c.args.m c.index-nodes-from.result c.from.ensures c.requires.within c.requires.nodes).streams

pub returns : goal.returns
returns c =
    let b = c.args.boot.now in
    let nodes = c.args.nodes.now in
    let n = node_in b nodes c.args.m in
    let same = ap node_state c.index-nodes-from.is ∙ node_at b nodes c.from.result c.args.m c.index-nodes-from.result c.from.ensures c.requires.within in
    let old = so_far c.args.wires.now c.args.lines.now.items in
    let new = so_far c.tick.new.wires c.tick.new.lines.items in
    on_ok_weaker c.tick.result
    (λ (gave : Gave c.index-nodes-from.result old new (tick (node_state c.index-nodes-from.result))). acted_still b nodes c.args.m old new (tick n) c.requires.nodes refl (subst (λ s. Spoke old new (tick s).outs) same gave.outs))
    c.tick.ensures
