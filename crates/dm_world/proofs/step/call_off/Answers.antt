use Rattle.dm_world.proofs.Names.{sym, subst, IsLawfulState, ActsLawfully, AnswersSome, node_in, calls_off, MayCallOff, calls_off_lawfully, so_far}
use Rattle.dm_world.proofs.Nodes.{acted_some, here_at, is_node_at, node_at}
use Rattle.dm_world.proofs.step.call_off.Goals as goal

pub call_off-requires-clause-may : goal.call_off-requires-clause-may
call_off-requires-clause-may c =
    subst (λ n. MayCallOff n c.args.pid) (sym (node_at c.args.boot.now c.args.nodes.now c.place_of.result c.args.m c.index-nodes-place_of.result c.place_of.ensures c.requires.within)) c.requires.may

pub call_off-requires-clause-lawful : goal.call_off-requires-clause-lawful
call_off-requires-clause-lawful c =
    subst (λ n. IsLawfulState n.kernel) (sym (node_at c.args.boot.now c.args.nodes.now c.place_of.result c.args.m c.index-nodes-place_of.result c.place_of.ensures c.requires.within)) c.requires.lawful

pub call_off-requires-clause-streams : goal.call_off-requires-clause-streams
call_off-requires-clause-streams c = (is_node_at c.args.nodes.now c.place_of.result c.args.m c.index-nodes-place_of.result c.place_of.ensures c.requires.within c.requires.nodes).streams

pub returns : goal.returns
returns c =
    let b = c.args.boot.now in
    let nodes = c.args.nodes.now in
    let n = node_in b nodes c.args.m in
    let old = so_far c.args.wires.now c.args.lines.now.items in
    let new = so_far c.call_off.new.wires c.call_off.new.lines.items in
    let same = node_at b nodes c.place_of.result c.args.m c.index-nodes-place_of.result c.place_of.ensures c.requires.within in
    acted_some c.call_off.result b nodes c.place_of.result c.args.m c.call_off.new.self old new (calls_off n c.args.pid) c.place_of.ensures c.requires.within c.requires.nodes
    (subst (λ s. AnswersSome c.call_off.result c.call_off.new.self old new (calls_off s c.args.pid)) same c.call_off.ensures)
    (λ a e. subst (λ k. ActsLawfully k a) (here_at b nodes c.args.m c.index-nodes-place_of.result c.requires.within c.requires.nodes)
    (calls_off_lawfully n c.args.pid a c.requires.may c.requires.lawful e))
