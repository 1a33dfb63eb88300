use Rattle.dm_world.proofs.Names.{sym, subst, IsLawfulState, asks_move, ActsLawfully, MayAskMove, AnswersSome, asks_lawfully, node_in, so_far}
use Rattle.dm_world.proofs.Nodes.{acted_some, here_at, is_node_at, node_at, small}
use Rattle.dm_world.proofs.step.ask_manager.Goals as goal

pub ask_move-requires-clause-may : goal.ask_move-requires-clause-may
ask_move-requires-clause-may c = subst MayAskMove (sym (node_at c.args.boot.now c.args.nodes.now c.place_of.result c.args.m c.index-nodes-place_of.result c.place_of.ensures c.requires.within)) c.requires.may

pub ask_move-requires-clause-lawful : goal.ask_move-requires-clause-lawful
ask_move-requires-clause-lawful c =
    subst (λ n. IsLawfulState n.kernel) (sym (node_at c.args.boot.now c.args.nodes.now c.place_of.result c.args.m c.index-nodes-place_of.result c.place_of.ensures c.requires.within)) c.requires.lawful

pub ask_move-requires-clause-streams : goal.ask_move-requires-clause-streams
ask_move-requires-clause-streams c = (is_node_at c.args.nodes.now c.place_of.result c.args.m c.index-nodes-place_of.result c.place_of.ensures c.requires.within c.requires.nodes).streams

pub returns : goal.returns
returns c =
    let b = c.args.boot.now in
    let nodes = c.args.nodes.now in
    let n = node_in b nodes c.args.m in
    let old = so_far c.args.wires.now c.args.lines.now.items in
    let new = so_far c.ask_move.new.wires c.ask_move.new.lines.items in
    let same = node_at b nodes c.place_of.result c.args.m c.index-nodes-place_of.result c.place_of.ensures c.requires.within in
    acted_some c.ask_move.result b nodes c.place_of.result c.args.m c.ask_move.new.self old new (asks_move n c.args.pid c.args.to) c.place_of.ensures c.requires.within c.requires.nodes
    (subst (λ s. AnswersSome c.ask_move.result c.ask_move.new.self old new (asks_move s c.args.pid c.args.to)) same c.ask_move.ensures)
    (λ a e. subst (λ k. ActsLawfully k a) (here_at b nodes c.args.m c.index-nodes-place_of.result c.requires.within c.requires.nodes)
    (asks_lawfully n c.args.pid c.args.to a (small c.args.to c.requires.to) c.requires.may c.requires.lawful e))
