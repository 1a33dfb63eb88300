use Rattle.dm_world.proofs.Names.{sym, subst, FreezesWhole, IsLawfulState, turn, ActsLawfully, MayTurn, AnswersSome, OrNoMemory, turns_lawfully, node_in, so_far}
use Rattle.dm_world.proofs.Nodes.{acted_some, here_at, is_node_at, node_at}
use Rattle.dm_world.proofs.step.take_turn.Goals as goal

pub turn-requires-clause-may : goal.turn-requires-clause-may
turn-requires-clause-may c =
    subst (MayTurn c.args.boot.now) (sym (node_at c.args.boot.now c.args.nodes.now c.place_of.result c.args.m c.index-nodes-place_of.result c.place_of.ensures c.requires.within)) c.requires.may

pub turn-requires-clause-lawful : goal.turn-requires-clause-lawful
turn-requires-clause-lawful c =
    subst (λ n. IsLawfulState n.kernel) (sym (node_at c.args.boot.now c.args.nodes.now c.place_of.result c.args.m c.index-nodes-place_of.result c.place_of.ensures c.requires.within)) c.requires.lawful

pub turn-requires-clause-streams : goal.turn-requires-clause-streams
turn-requires-clause-streams c = (is_node_at c.args.nodes.now c.place_of.result c.args.m c.index-nodes-place_of.result c.place_of.ensures c.requires.within c.requires.nodes).streams

pub returns-clause-answers : goal.returns-clause-answers
returns-clause-answers c =
    let b = c.args.boot.now in
    let nodes = c.args.nodes.now in
    let n = node_in b nodes c.args.m in
    let old = so_far c.args.wires.now c.args.lines.now.items in
    let new = so_far c.turn.new.wires c.turn.new.lines.items in
    let same = node_at b nodes c.place_of.result c.args.m c.index-nodes-place_of.result c.place_of.ensures c.requires.within in
    acted_some c.turn.result b nodes c.place_of.result c.args.m c.turn.new.self old new (turn b n) c.place_of.ensures c.requires.within c.requires.nodes
    (subst (λ s. AnswersSome c.turn.result c.turn.new.self old new (turn b s)) same c.turn.ensures.answers)
    (λ a e. subst (λ k. ActsLawfully k a) (here_at b nodes c.args.m c.index-nodes-place_of.result c.requires.within c.requires.nodes)
    (turns_lawfully b n a c.requires.images c.requires.may c.requires.lawful e))

pub returns-clause-whole : goal.returns-clause-whole
returns-clause-whole c =
    let b = c.args.boot.now in
    let nodes = c.args.nodes.now in
    subst (λ n. OrNoMemory c.turn.result (FreezesWhole n.kernel n.kernel.inbox)) (node_at b nodes c.place_of.result c.args.m c.index-nodes-place_of.result c.place_of.ensures c.requires.within) c.turn.ensures.whole
